-- The cutting theorem: pieces of a call, run one after the other over the same slices, do the whole call's work. Assumes nothing.
use Prim.Native.Nat.{ℕ, zero, suc, ◌+◌, ◌*◌, ◌≤◌, ◌<◌}
use Rattle.std.specs.Prelude.{◌≡◌, List, Float}
use Rattle.std.proofs.Math.Path.{refl, sym, ap}
use Rattle.std.proofs.Common.{◌∙◌, arith}
use Rattle.std.proofs.Math.Logic.{ite}
use Rattle.rules.specs.Element.{Arith, multiplier, element}
use Rattle.rules.proofs.DepthLaws.{gathered, from, multiplier_start, gathered_cut, gathered_none, element_gathered}
use Rattle.rules.specs.Slice.{View, Updated}
use Rattle.rules.specs.ViewLaws.{Lawful}
use Rattle.rules.specs.Stores.{Apart}
use Rattle.rules.specs.SliceLaws.{then, agreeing, widened}
use Rattle.rules.specs.Portions.{Proper, Divides}
use Rattle.rules.specs.Chain.{reach, Chain, chained}

module _ (ar : Arith) (kc : ℕ) (alpha beta : ar.E) (a b : ℕ → ℕ → ar.E) where
  -- what a piece, run as a call of its own, does to the element (i, j): a i is row i of A by depth, b j column j of B
  unfoldable pub portion_rule : ℕ → ℕ → ℕ → ℕ → ar.E → ar.E
  portion_rule start count i j x = element ar kc alpha (multiplier ar beta start) (from start (a i)) (from start (b j)) count x

  -- what the whole call does to it
  unfoldable pub whole_rule : ℕ → ℕ → ℕ → ar.E → ar.E
  whole_rule k i j x = element ar kc alpha beta (a i) (b j) k x

  continued : (start count i j : ℕ) (x : ar.E) → 0 < kc → 0 < count → (q : ℕ) → start ≡ q * kc
      → portion_rule start count i j (gathered ar kc alpha beta (a i) (b j) start x)
      ≡ gathered ar kc alpha beta (a i) (b j) (start + count) x
  unfolding portion_rule
  continued start count i j x pos some q e =
      element_gathered ar kc alpha _ _ _ count _ some
      ∙ rw (e, multiplier_start ar beta q kc pos) (sym (gathered_cut ar kc alpha beta (a i) (b j) q count x pos))

  module _ (over : ℕ → ℕ → ℕ → Type 0) (over? : (t i j : ℕ) → Dec (over t i j)) (start count : ℕ → ℕ) where
    -- what the first t pieces do to it
    work : ℕ → ℕ → ℕ → ar.E → ar.E
    work zero i j x = x
    work (suc t) i j x = ite (over? t i j) (portion_rule (start t) (count t) i j (work t i j x)) (work t i j x)

    module _ (pos : 0 < kc) (k N : ℕ) (W : ℕ → ℕ → Type 0) (proper : Proper kc k N W over start count)
        (cuts : Divides k N W over start count) where
      chains : (i j : ℕ) → W i j → Chain over over? start count N k i j
      chains i j w = chained over over? start count kc k N W proper i j w cuts

      worked : (i j : ℕ) → W i j → (x : ar.E) (t : ℕ) → t ≤ N
          → work t i j x ≡ gathered ar kc alpha beta (a i) (b j) (reach over over? start count t i j) x
      unfolding work reach
      worked i j w x zero h = sym (gathered_none ar kc alpha beta (a i) (b j) x pos)
      worked i j w x (suc t) h = go (over? t i j) (worked i j w x t (omega arith))
        where
          go : (d : Dec (over t i j)) → work t i j x ≡ gathered ar kc alpha beta (a i) (b j) (reach over over? start count t i j) x
              → ite d (portion_rule (start t) (count t) i j (work t i j x)) (work t i j x)
              ≡ gathered ar kc alpha beta (a i) (b j) (ite d (start t + count t) (reach over over? start count t i j)) x
          go (yes o) ih =
              ap (λ y. portion_rule (start t) (count t) i j y) (rw (← (chains i j w).joins t h o) at ih)
              ∙ continued (start t) (count t) i j x pos (proper.filled t h) (proper.starts t h).0 (proper.starts t h).1
          go (no n) ih = ih

      all : 0 < k → (i j : ℕ) → W i j → (x : ar.E) → work N i j x ≡ whole_rule k i j x
      unfolding whole_rule
      all some i j w x =
          rw (chains i j w).stops at (worked i j w x N (omega arith)) ∙ sym (element_gathered ar kc alpha beta (a i) (b j) k x some)

      module _ {v : View ar.E} (ok : Lawful v) (place : ℕ → ℕ → ℕ) (apart : Apart place W) (slice : ℕ → List Float)
          (runs : (t : ℕ) → t < N → Updated v place (over t) (portion_rule (start t) (count t)) (slice t) (slice (suc t))) where
        so_far : (t : ℕ) → t ≤ N → Updated v place W (work t) (slice 0) (slice t)
        unfolding work
        so_far zero h = record { same_length = refl; inside = λ i j p. refl; outside = λ t h. refl }
        so_far (suc t) h =
            then v place (so_far t (omega arith)) (widened ok place (over? t) (λ i j o. proper.within t i j h o) apart (runs t h))

        -- THE CUTTING THEOREM
        pub cut : 0 < k → Updated v place W (whole_rule k) (slice 0) (slice N)
        cut some = agreeing v place (all some) (so_far N (omega arith))
