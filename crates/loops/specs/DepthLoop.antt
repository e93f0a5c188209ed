-- LOOP 4: nothing done, one depth chunk more, and all of them are the definition's element. Assumes nothing.
use Rattle.std.specs.Prelude.{◌≡◌, List, ℕ, min, ◌+◌, ◌-◌, ◌*◌, ◌<◌, ◌≤◌, length, drop, nat_abs, Float}
use Rattle.std.proofs.Math.Path.{refl, sym, ap}
use Rattle.std.proofs.Common.{◌∙◌, zero-add, add-one, arith, get_or-drop}
use borrow.Rule.Slice.PartMut.{mid_of, put_mid}
use Rattle.std.specs.Float.{nan}
use Rattle.rules.specs.Element.{Fate, fate, put, chunk_sum, multiplier, chunks, chunk_length, after, element}
use Rattle.rules.specs.Agree.{chunk_sum_agree}
use Rattle.rules.proofs.DepthLaws.{gathered, element_gathered}
use Rattle.rules.specs.Lists.{splice}
use Rattle.rules.specs.ListLaws.{lent_from}
use Rattle.rules.specs.Slice.{Updated}
use Rattle.rules.specs.SliceLaws.{then, agreeing}
use Rattle.element.specs.Kinds.{arith_of, view_of, tiling_of}
use Rattle.element.specs.declared.kind.Kind.{Kind}
use Rattle.layout.specs.declared.operand.Operand.{Operand}
use Rattle.layout.specs.Place.{index_of, based_at, element_at}
use Rattle.layout.specs.Operands.{transposed}
use Rattle.layout.proofs.BasedLaws.{index_based, place_transposed, readable_at, readable_transposed, writable_at}
use Rattle.layout.specs.ChunkLaws.{chunk_start}
use Rattle.layout.specs.NeedLaws.{kind_sides}
use Rattle.loops.specs.Panels.{packing_of, padded, packed, unpacked}
use Rattle.loops.specs.PanelLaws.{rest_long}
use Rattle.loops.specs.Work.{deep, rows_make, panels, Packable, PackedFrom, KeptFrom, Shares, RowsAsk, DepthAsks, LoopLeaves}
use Rattle.loops.specs.BufferLaws.{kept_none, kept_then, kept_more, kept_packed, row_packed, panels_less, shares_less}
use Rattle.loops.specs.TurnLaws.{rows_read, columns_read, turn_most}

module _ (kind : Kind) (ch : ℕ) (alpha beta : (arith_of kind).E) (A B : List Float) (oa ob : Operand) (k : ℕ) where
  -- nothing done yet
  pub depth_none : (oc : Operand) (m n from : ℕ) (C P : List Float)
      → LoopLeaves kind oc m n (deep kind ch alpha beta A oa B ob k 0) from C C P P
  unfolding after
  depth_none oc m n from C P = record {
    does = record { same_length = refl; inside = λ i j p. refl; outside = λ t h. refl };
    keeps = kept_none from P;
  }

  -- all chunks done, of C
  pub depth_done : {place : ℕ → ℕ → ℕ} {P : ℕ → ℕ → Type 0} {C D : List Float} → 0 < k
      → Updated (view_of kind) place P (deep kind ch alpha beta A oa B ob k (chunks ch k)) C D
      → Updated (view_of kind) place P
      (λ i j. element (arith_of kind) ch alpha beta (element_at kind A oa i) (λ p. element_at kind B ob p j) k) C D
  unfolding gathered
  depth_done {place} h u =
      agreeing (view_of kind) place
      (λ i j p x. sym (element_gathered (arith_of kind) ch alpha beta (element_at kind A oa i) (λ p. element_at kind B ob p j) k x h)) u

-- turn t: B's rows of the chunk are packed behind asize, and LOOP 3 is run over kc depth steps from t * ch on
module _ (kind : Kind) {ch m k n asize : ℕ} {oa ob oc : Operand} {A B C₀ P₀ : List Float}
    (ask : DepthAsks kind ch m k n asize oa ob oc A B C₀ P₀) (t : ℕ) (l : t < chunks ch k) {kc : ℕ} (len : kc ≡ chunk_length ch k t)
    {qb pb : Operand} (eb : qb ≡ based_at ob (t * ch) 0) (et : pb ≡ transposed qb) (P : List Float) (long : length P ≡ length P₀) where
  -- the buffer is shared for this chunk as for the longest
  turn_shares : Shares kind m kc n asize (length P)
  turn_shares = shares_less ask.shares (turn_most ch k t len) long

  pub behind_room : asize + panels kind (tiling_of kind).nr n kc ≤ length P
  behind_room = turn_shares.rest

  pub behind_packable : (tiling_of kind).nr ≤ (tiling_of kind).mr
      → Packable kind (tiling_of kind).nr kc n pb B (mid_of asize (length P - asize) P)
  behind_packable h = record {
    readable = readable_at et (readable_transposed (rows_read ask.matrices.readable_b ch t l len eb));
    room = rest_long P asize (panels kind (tiling_of kind).nr n kc) behind_room;
    some = (kind_sides kind).1;
    most = h;
  }

  module _ {R : List Float} (packs : PackedFrom kind (tiling_of kind).nr kc n pb B (mid_of asize (length P - asize) P) R)
      {pa : Operand} (ea : pa ≡ based_at oa 0 (t * ch)) where
    abbrev Q : List Float
    Q = put_mid asize (length P - asize) P R

    made : Q ≡ splice P asize (packed (packing_of kind) (tiling_of kind).nr kc (chunks (tiling_of kind).nr n)
        (padded (arith_of kind) n (element_at kind B pb)))
    made = lent_from P asize _ (omega (arith, behind_room)) packs.stored

    -- what packing keeps, where there is room for the longest chunk
    behind_keeps : KeptFrom (asize + panels kind (tiling_of kind).nr n (min k ch)) P Q
    behind_keeps =
        kept_packed kind (tiling_of kind).nr kc n _ P asize (asize + panels kind (tiling_of kind).nr n (min k ch)) made
        (omega (arith, panels_less kind (tiling_of kind).nr kc (min k ch) n (turn_most ch k t len))) (omega (arith, ask.shares.rest))

    pub depth_asks : {C : List Float} → length C ≡ length C₀ → RowsAsk kind m kc n asize pa oc A C Q
    depth_asks e = record {
      writable = writable_at refl (ap (λ (z : ℕ). (view_of kind).count z) e) ask.matrices.writable;
      readable = columns_read ask.matrices.readable_a ch t l len ea;
      shares = shares_less turn_shares (omega arith) behind_keeps.same_length;
    }

    -- B's columns in the packed panels
    columns_in : (j p : ℕ) → j < n → p < kc
        → unpacked (packing_of kind) (drop asize Q) (tiling_of kind).nr kc j p ≡ element_at kind B ob (t * ch + p) j
    columns_in j p hj hp =
        row_packed kind (tiling_of kind).nr kc n (element_at kind B pb) P asize (drop asize Q) made (kind_sides kind).1
        (omega (arith, behind_room))
        (λ s h. get_or-drop asize Q s nan) j p hj hp
        ∙ ap (λ (o : Operand). element_at kind B o j p) (et ∙ ap transposed eb)
        ∙ ap (λ (q : ℕ). (view_of kind).get B q) (ap nat_abs (place_transposed (based_at ob (t * ch) 0) j p)
        ∙ index_based ask.matrices.readable_b (t * ch) 0 p j (chunk_start ch k t l) ask.matrices.readable_b.n_some
        ∙ ap (λ (y : ℕ). index_of ob (t * ch + p) y) (zero-add j))

    -- A's rows in the part that starts at the chunk
    rows_in : (i p : ℕ) → element_at kind A pa i p ≡ element_at kind A oa i (t * ch + p)
    rows_in i p =
        ap (λ (o : Operand). element_at kind A o i p) ea
        ∙ ap (λ (q : ℕ). (view_of kind).get A q) (index_based ask.matrices.readable_a 0 (t * ch) i p ask.matrices.readable_a.m_some
        (chunk_start ch k t l)
        ∙ ap (λ (y : ℕ). index_of oa y (t * ch + p)) (zero-add i))

    sum : (i j : ℕ) → j < n
        → chunk_sum (arith_of kind) (element_at kind A pa i) (unpacked (packing_of kind) (drop asize Q) (tiling_of kind).nr kc j) 0 kc
        ≡ chunk_sum (arith_of kind) (element_at kind A oa i) (λ p. element_at kind B ob p j) (t * ch) kc
    sum i j hj =
        chunk_sum_agree (arith_of kind) (element_at kind A pa i) (unpacked (packing_of kind) (drop asize Q) (tiling_of kind).nr kc j)
        (element_at kind A oa i) (λ p. element_at kind B ob p j) 0 (t * ch) kc
        (λ p h. (
          ap (λ (q : ℕ). element_at kind A pa i q) (zero-add p) ∙ rows_in i p,
          ap (λ (q : ℕ). unpacked (packing_of kind) (drop asize Q) (tiling_of kind).nr kc j q) (zero-add p) ∙ columns_in j p hj h,
        ))

    module _ (alpha beta : (arith_of kind).E) (old : Fate (arith_of kind).E) (by : (arith_of kind).E)
        (ey : by ≡ multiplier (arith_of kind) beta t) (ef : old ≡ fate (arith_of kind) by) where
      step : (i j : ℕ) → j < n → (c : (arith_of kind).E)
          → rows_make kind old alpha A pa Q asize kc i j (deep kind ch alpha beta A oa B ob k t i j c)
          ≡ deep kind ch alpha beta A oa B ob k (t + 1) i j c
      unfolding after
      step i j hj c =
          (λ s. put (arith_of kind) ((ef ∙ ap (λ (b : (arith_of kind).E). fate (arith_of kind) b) ey) s)
          ((arith_of kind).mul alpha ((sum i j hj ∙ ap (λ (q : ℕ). chunk_sum (arith_of kind) (element_at kind A oa i)
          (λ p. element_at kind B ob p j) (t * ch) q) len) s)) (deep kind ch alpha beta A oa B ob k t i j c))
          ∙ ap (λ (d : ℕ). after (arith_of kind) ch alpha beta (element_at kind A oa i) (λ p. element_at kind B ob p j) k d c)
          (sym (add-one t))

      -- the turn, of the whole
      pub depth_turn : {C D R : List Float}
          → LoopLeaves kind oc m n (deep kind ch alpha beta A oa B ob k t) (asize + panels kind (tiling_of kind).nr n (min k ch)) C₀ C P₀ P
          → LoopLeaves kind oc m n (rows_make kind old alpha A pa Q asize kc) asize C D Q R
          → LoopLeaves kind oc m n (deep kind ch alpha beta A oa B ob k (t + 1))
          (asize + panels kind (tiling_of kind).nr n (min k ch)) C₀ D P₀ R
      depth_turn left now = record {
        does = agreeing (view_of kind) (index_of oc) (λ i j o c. step i j o.1 c)
            (then (view_of kind) (index_of oc) left.does now.does);
        keeps = kept_then left.keeps (kept_then behind_keeps (kept_more (omega arith) now.keeps));
      }
