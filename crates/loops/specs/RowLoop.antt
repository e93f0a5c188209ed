-- LOOP 3: a turn's rows of A are packed in front of asize, its rows of C are settled, and B's panels stay. Assumes nothing.
use Rattle.std.specs.Prelude.{◌≡◌, List, ℕ, min, ◌+◌, ◌-◌, ◌*◌, ◌<◌, ◌≤◌, length, get_or, take, drop, Float}
use Rattle.std.proofs.Common.{sym, ap, ◌∙◌, zero-add, arith, get_or-take, length-take-le}
use Rattle.std.specs.Float.{nan}
use Rattle.rules.specs.Element.{Fate, chunks, chunk_length}
use Rattle.rules.specs.Slice.{Updated, Block}
use Rattle.element.specs.KindLaws.{lawful}
use Rattle.element.specs.Kinds.{arith_of, view_of, tiling_of}
use Rattle.element.specs.declared.kind.Kind.{Kind}
use Rattle.layout.specs.declared.operand.Operand.{Operand}
use Rattle.layout.specs.Place.{index_of, based_at, element_at}
use Rattle.layout.proofs.BasedLaws.{index_based}
use Rattle.layout.specs.ChunkLaws.{chunk_start}
use Rattle.layout.specs.NeedLaws.{kind_sides}
use Rattle.loops.specs.Panels.{packing_of, unpacked}
use Rattle.loops.specs.PanelLaws.{rest_all, rest_long}
use Rattle.loops.specs.Work.{rows_make, panels_make, panels, Packable, PackedFrom, KeptFrom, RowsAsk, LoopLeaves, Turns}
use Rattle.loops.specs.LoopLaws.{settled_agree, rows_start, rows_turn, rows_end}
use Rattle.loops.specs.BufferLaws.{kept_none, kept_then, kept_packed, kept_rest, row_packed, front_fits}
use Rattle.loops.specs.TurnLaws.{rows_read, turn_most}

-- before the first turn, and after the last
module _ (kind : Kind) (m : ℕ) {oc : Operand} {n from : ℕ} {f : ℕ → ℕ → (arith_of kind).E → (arith_of kind).E} {C P : List Float} where
  pub rows_none : LoopLeaves kind oc (min (0 * (tiling_of kind).mc) m) n f from C C P P
  rows_none = record { does = rows_start (view_of kind) (index_of oc) (tiling_of kind).mc m n; keeps = kept_none from P }

  pub rows_done : {count i : ℕ} {D Q : List Float} → 0 < (tiling_of kind).mc → count ≤ i
      → Turns (tiling_of kind).mc m count i C D (LoopLeaves kind oc (min (i * (tiling_of kind).mc) m) n f from C D P Q)
      → LoopLeaves kind oc m n f from C D P Q
  rows_done {i = i} h l t = record {
    does = rows_end (view_of kind) (index_of oc) (tiling_of kind).mc m n i h (omega (arith, t.counted)) t.so_far.does;
    keeps = t.so_far.keeps;
  }

-- turn i: rows of A are packed, and the same rows of C settled
module _ (kind : Kind) {m kc n asize : ℕ} {oa oc : Operand} {A C₀ P₀ : List Float} (ask : RowsAsk kind m kc n asize oa oc A C₀ P₀)
    (i : ℕ) (l : i < chunks (tiling_of kind).mc m) {rows : ℕ} (e : rows ≡ chunk_length (tiling_of kind).mc m i) where
  -- the turn's panels fit in front of asize
  turn_fits : panels kind (tiling_of kind).mr rows kc ≤ asize
  turn_fits = front_fits ask.shares (kind_sides kind).0 rows (turn_most (tiling_of kind).mc m i e)

  module _ {pa : Operand} (ea : pa ≡ based_at oa (i * (tiling_of kind).mc) 0) (P : List Float) (long : length P ≡ length P₀) where
    pub row_packable : Packable kind (tiling_of kind).mr kc rows pa A P
    row_packable = record {
      readable = rows_read ask.readable (tiling_of kind).mc i l e ea;
      room = omega (arith, turn_fits, ask.shares.rest);
      some = (kind_sides kind).0;
      most = omega arith;
    }

    module _ {Q : List Float} (made : PackedFrom kind (tiling_of kind).mr kc rows pa A P Q) where
      -- what packing keeps, and the room behind asize
      turn_keeps : KeptFrom asize P Q
      turn_keeps = kept_packed kind (tiling_of kind).mr kc rows _ P 0 asize made.stored (omega (arith, turn_fits))
          (omega (arith, ask.shares.rest))

      pub turn_long : length Q ≡ length P₀
      turn_long = turn_keeps.same_length ∙ long

      pub turn_room : asize + panels kind (tiling_of kind).nr n kc ≤ length Q
      turn_room = omega (arith, turn_long, ask.shares.rest)

      -- both sides' panels are in their parts of the buffer
      pub row_panels : (panels kind (tiling_of kind).mr rows kc ≤ length (take asize Q))
          × (panels kind (tiling_of kind).nr n kc ≤ length (take (length Q - asize) (drop asize Q)))
      row_panels = (
        omega (arith, turn_fits, length-take-le asize Q (omega (arith, turn_room))),
        rest_long Q asize (panels kind (tiling_of kind).nr n kc) turn_room,
      )

      module _ (fate : Fate (arith_of kind).E) (alpha : (arith_of kind).E) (kept : KeptFrom asize P₀ P) where
        settles : (r j : ℕ) → r < rows → (x : (arith_of kind).E)
            → panels_make kind fate alpha Q asize kc r j x ≡ rows_make kind fate alpha A oa P₀ asize kc (i * (tiling_of kind).mc + r) j x
        settles r j h x =
            settled_agree (arith_of kind) alpha
            (unpacked (packing_of kind) (take asize Q) (tiling_of kind).mr kc)
            (unpacked (packing_of kind) (take (length Q - asize) (drop asize Q)) (tiling_of kind).nr kc)
            (element_at kind A oa) (unpacked (packing_of kind) (drop asize P₀) (tiling_of kind).nr kc)
            kc r j (i * (tiling_of kind).mc + r) j
            (λ p y. row_packed kind (tiling_of kind).mr kc rows (element_at kind A pa) P 0 (take asize Q) made.stored (kind_sides kind).0
            (omega arith)
            (λ t z. get_or-take asize Q t nan (omega (arith, turn_fits)) ∙ ap (λ (k : ℕ). get_or Q k nan) (sym (zero-add t))) r p h y
            ∙ ap (λ (o : Operand). element_at kind A o r p) ea
            ∙ ap (λ (k : ℕ). (view_of kind).get A k) (index_based ask.readable (i * (tiling_of kind).mc) 0 r p
            (chunk_start (tiling_of kind).mc m i l) ask.readable.n_some
            ∙ ap (λ (q : ℕ). index_of oa (i * (tiling_of kind).mc + r) q) (zero-add p)))
            (λ p y. ap (λ (s : List Float). unpacked (packing_of kind) s (tiling_of kind).nr kc j p) (rest_all Q asize)
            ∙ kept_rest kind (tiling_of kind).nr kc turn_keeps j p ∙ kept_rest kind (tiling_of kind).nr kc kept j p)
            fate x

      -- the turn, of the whole
      pub row_turn : (fate : Fate (arith_of kind).E) (alpha : (arith_of kind).E) {C D : List Float} {pc : Operand}
          → pc ≡ based_at oc (i * (tiling_of kind).mc) 0
          → LoopLeaves kind oc (min (i * (tiling_of kind).mc) m) n (rows_make kind fate alpha A oa P₀ asize kc) asize C₀ C P₀ P
          → Updated (view_of kind) (index_of pc) (Block rows n) (panels_make kind fate alpha Q asize kc) C D
          → LoopLeaves kind oc (min ((i + 1) * (tiling_of kind).mc) m) n (rows_make kind fate alpha A oa P₀ asize kc) asize C₀ D P₀ Q
      row_turn fate alpha ec left u = record {
        does = rows_turn (lawful kind) ask.writable (tiling_of kind).mc i l e ec
            (λ r j hr hj x. settles fate alpha left.keeps r j hr x) left.does u;
        keeps = kept_then left.keeps turn_keeps;
      }
