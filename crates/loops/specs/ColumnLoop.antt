-- LOOP 5: how many floats an element has, the need shared out between A's panels and B's, and the columns of the whole. Assumes nothing.
use Rattle.std.specs.Prelude.{◌≡◌, List, ℕ, min, ◌+◌, ◌*◌, ◌<◌, ◌≤◌, length, get_or, Float}
use Rattle.std.proofs.Common.{sym, ◌∙◌, zero-add, mul-one, mul-add, add-mul, mul_assoc, arith}
use Rattle.std.proofs.Math.Path.{ap}
use Rattle.std.proofs.Math.Nat.{mul_left_comm}
use Rattle.std.specs.Float.{nan}
use Rattle.rules.specs.Element.{chunks, chunk_length, after}
use Rattle.rules.specs.Slice.{View, real_view, complex_view}
use Rattle.element.specs.KindLaws.{lawful}
use Rattle.element.specs.Kinds.{arith_of, view_of, tiling_of, per_element}
use Rattle.element.specs.declared.kind.Kind.{Kind}
use Rattle.element.specs.declared.kind.Kind.TheVariants.{F32, F64, C32, C64}
use Rattle.layout.specs.declared.operand.Operand.{Operand}
use Rattle.layout.specs.Place.{index_of, based_at, element_at}
use Rattle.layout.proofs.BasedLaws.{index_based}
use Rattle.layout.specs.ChunkLaws.{chunk_start}
use Rattle.layout.specs.Need.{round_up, need_of}
use Rattle.layout.specs.NeedLaws.{need_some_lem, kind_sides}
use Rattle.loops.specs.Panels.{Packing, real_packing, complex_packing, packing_of}
use Rattle.loops.specs.Work.{front_room, deep, panels, KeptFrom, Shares, MatricesFit, DepthAsks, ColumnsAsk, LoopLeaves, Turns}
use Rattle.loops.specs.LoopLaws.{columns_start, columns_turn, columns_end}
use Rattle.loops.specs.BufferLaws.{kept_none, kept_then, kept_more, panels_fewer}
use Rattle.loops.specs.TurnLaws.{columns_read, columns_written, turn_most}

-- ---- a view and a packing of the same elements

-- per floats are an element
pub record Family {E : Type 0} (v : View E) (pk : Packing E) (per : ℕ) : Type 0 where
  pub floats_is : (w : ℕ) → pk.floats w ≡ w * per
  -- e elements are in n floats, and before float t
  pub room : (e n : ℕ) → e ≤ v.count n → e * per ≤ n
  pub from : (e t : ℕ) → e ≤ v.owner t → e * per ≤ t

abbrev real_family : Family real_view real_packing 1
real_family = record { floats_is = λ w. sym (mul-one w); room = λ e n h. omega arith; from = λ e t h. omega arith }

abbrev complex_family : Family complex_view complex_packing 2
complex_family = record { floats_is = λ w. omega arith; room = λ e n h. omega arith; from = λ e t h. omega arith }

abbrev pub family : (kind : Kind) → Family (view_of kind) (packing_of kind) (per_element kind)
family F32 = real_family
family F64 = real_family
family C32 = complex_family
family C64 = complex_family

-- ---- the need, shared out

module _ (kind : Kind) where
  -- the panels of x rows and depth p, as the need counts them
  as_panels : (w p x : ℕ) → p * (round_up x w * per_element kind) ≡ panels kind w x p
  unfolding round_up chunks
  as_panels w p x =
      ap (λ (z : ℕ). p * z) (mul_assoc (chunks w x) w (per_element kind) ∙ ap (λ (z : ℕ). chunks w x * z) (sym ((family kind).floats_is w)))
      ∙ mul_left_comm p (chunks w x) ((packing_of kind).floats w)

  module _ (ch m k n : ℕ) (hm : 0 < m) (hk : 0 < k) (hn : 0 < n) where
    -- the need in floats: A's panels and the longest column chunk's
    need_shared : need_of (tiling_of kind) ch m k n * per_element kind
        ≡ front_room kind ch m k + panels kind (tiling_of kind).nr (min n (tiling_of kind).nc) (min k ch)
    need_shared =
        let p : ℕ = min k ch in
        let x : ℕ = round_up (min m (tiling_of kind).mc) (tiling_of kind).mr in
        let y : ℕ = round_up (min n (tiling_of kind).nc) (tiling_of kind).nr in
        ap (λ (z : ℕ). z * per_element kind) (need_some_lem (tiling_of kind) ch m k n hm hk hn)
        ∙ mul_assoc p (x + y) (per_element kind) ∙ ap (λ (z : ℕ). p * z) (add-mul x y (per_element kind))
        ∙ mul-add p (x * per_element kind) (y * per_element kind)
        ∙ ap (λ (z : ℕ). p * (x * per_element kind) + z) (as_panels (tiling_of kind).nr p (min n (tiling_of kind).nc))

    module _ (nc : ℕ) (l : nc ≤ min n (tiling_of kind).nc) where
      shared_fits : front_room kind ch m k + panels kind (tiling_of kind).nr nc (min k ch)
          ≤ need_of (tiling_of kind) ch m k n * per_element kind
      shared_fits = omega (arith, need_shared, panels_fewer kind (tiling_of kind).nr (min k ch) (kind_sides kind).1 l)

      shared_out : (len : ℕ) → need_of (tiling_of kind) ch m k n ≤ (view_of kind).count len
          → Shares kind m (min k ch) nc (front_room kind ch m k) len
      shared_out len h = record {
        front = omega (arith, as_panels (tiling_of kind).mr (min k ch) (min m (tiling_of kind).mc));
        rest = omega (arith, shared_fits, (family kind).room (need_of (tiling_of kind) ch m k n) len h);
      }

  -- floats kept from an element on are elements kept
  pub kept_elements : (e : ℕ) {P Q : List Float} → KeptFrom (e * per_element kind) P Q → (t : ℕ) → e ≤ (view_of kind).owner t
      → get_or Q t nan ≡ get_or P t nan
  kept_elements e u t h = u.beyond t ((family kind).from e t h)

-- ---- before the first turn, and after the last

module _ (kind : Kind) (n : ℕ) {oc : Operand} {m from : ℕ} {f : ℕ → ℕ → (arith_of kind).E → (arith_of kind).E} {C P : List Float} where
  pub columns_none : LoopLeaves kind oc m (min (0 * (tiling_of kind).nc) n) f from C C P P
  columns_none = record { does = columns_start (view_of kind) (index_of oc) (tiling_of kind).nc m n; keeps = kept_none from P }

  pub columns_done : {count j : ℕ} {D Q : List Float} → 0 < (tiling_of kind).nc → count ≤ j
      → Turns (tiling_of kind).nc n count j C D (LoopLeaves kind oc m (min (j * (tiling_of kind).nc) n) f from C D P Q)
      → LoopLeaves kind oc m n f from C D P Q
  columns_done {j = j} h l t = record {
    does = columns_end (view_of kind) (index_of oc) (tiling_of kind).nc m n j h (omega (arith, t.counted)) t.so_far.does;
    keeps = t.so_far.keeps;
  }

-- ---- what is asked

module _ (kind : Kind) {ch m k n : ℕ} {oa ob oc : Operand} {A B C₀ P₀ : List Float}
    (ask : ColumnsAsk kind ch m k n oa ob oc A B C₀ P₀) where
  -- A's panels are within the need, and so within the buffer
  pub front_room_lem : front_room kind ch m k ≤ length P₀
  front_room_lem = let f = ask.matrices in
      omega (
        arith,
        shared_fits kind ch m k n f.readable_a.m_some f.readable_a.n_some f.readable_b.n_some 0 (omega arith),
        (family kind).room (need_of (tiling_of kind) ch m k n) (length P₀) ask.room,
      )

  -- turn j: the columns from j times the column chunk on
  module _ (j : ℕ) (l : j < chunks (tiling_of kind).nc n) {nc : ℕ} (e : nc ≡ chunk_length (tiling_of kind).nc n j) {pb pc : Operand}
      (eb : pb ≡ based_at ob 0 (j * (tiling_of kind).nc)) (ec : pc ≡ based_at oc 0 (j * (tiling_of kind).nc))
      {asize : ℕ} (ea : asize ≡ front_room kind ch m k) where
    turn_within : asize + panels kind (tiling_of kind).nr nc (min k ch) ≤ need_of (tiling_of kind) ch m k n * per_element kind
    turn_within = let f = ask.matrices in
        omega (
          arith,
          ea,
          shared_fits kind ch m k n f.readable_a.m_some f.readable_a.n_some f.readable_b.n_some nc
              (turn_most (tiling_of kind).nc n j e),
        )

    pub column_asks : {C P : List Float} → length C ≡ length C₀ → length P ≡ length P₀ → DepthAsks kind ch m k nc asize oa pb pc A B C P
    column_asks {P = P} hc hp =
        let f = ask.matrices in
        let fits : MatricesFit kind m k nc oa pb pc A B _ = record {
          writable = columns_written f.writable (tiling_of kind).nc j l e ec (ap (λ (z : ℕ). (view_of kind).count z) hc);
          readable_a = f.readable_a;
          readable_b = columns_read f.readable_b (tiling_of kind).nc j l e eb;
        } in
        record {
          matrices = fits;
          chunk = ask.chunk;
          shares = rw ea (shared_out kind ch m k n f.readable_a.m_some f.readable_a.n_some f.readable_b.n_some nc
              (turn_most (tiling_of kind).nc n j e) (length P) (rw hp ask.room));
        }

    module _ (alpha beta : (arith_of kind).E) where
      columns_are : (i c : ℕ) (x : (arith_of kind).E)
          → deep kind ch alpha beta A oa B pb k (chunks ch k) i c x
          ≡ deep kind ch alpha beta A oa B ob k (chunks ch k) i (j * (tiling_of kind).nc + c) x
      columns_are i c x = λ s. after (arith_of kind) ch alpha beta (element_at kind A oa i) (λ p. there p s) k (chunks ch k) x
        where
          there : (p : ℕ) → element_at kind B pb p c ≡ element_at kind B ob p (j * (tiling_of kind).nc + c)
          there p =
              ap (λ (o : Operand). element_at kind B o p c) eb
              ∙ ap (λ (z : ℕ). (view_of kind).get B z)
              (index_based ask.matrices.readable_b 0 (j * (tiling_of kind).nc) p c ask.matrices.readable_b.m_some
              (chunk_start (tiling_of kind).nc n j l)
              ∙ ap (λ (z : ℕ). index_of ob z (j * (tiling_of kind).nc + c)) (zero-add p))

      -- the turn, of the whole
      pub column_turn : {C D P Q : List Float}
          → LoopLeaves kind oc m (min (j * (tiling_of kind).nc) n) (deep kind ch alpha beta A oa B ob k (chunks ch k))
          (need_of (tiling_of kind) ch m k n * per_element kind) C₀ C P₀ P
          → LoopLeaves kind pc m nc (deep kind ch alpha beta A oa B pb k (chunks ch k))
          (asize + panels kind (tiling_of kind).nr nc (min k ch)) C D P Q
          → LoopLeaves kind oc m (min ((j + 1) * (tiling_of kind).nc) n) (deep kind ch alpha beta A oa B ob k (chunks ch k))
          (need_of (tiling_of kind) ch m k n * per_element kind) C₀ D P₀ Q
      column_turn left now = record {
        does = columns_turn (lawful kind) ask.matrices.writable (tiling_of kind).nc j l e ec (λ i c hi hc x. columns_are i c x)
            left.does now.does;
        keeps = kept_then left.keeps (kept_more turn_within now.keeps);
      }
