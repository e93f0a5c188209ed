-- The work of a call of depth zero. Assumes nothing.
use Rattle.std.specs.Prelude.{◌≡◌, ℕ, zero, suc, List, Float}
use Rattle.std.proofs.Common.{refl, arith}
use Rattle.rules.specs.{Element.Arith, Element.fate, Element.scaled, Element.element, Slice.Updated, Slice.Block}
use Rattle.rules.specs.SliceLaws.{agreeing}
use Rattle.element.specs.{declared.kind.Kind.Kind, Kinds.arith_of, Kinds.view_of}
use Rattle.layout.specs.Place.{index_of}
use Rattle.call.specs.Call.{Call, chunk, row_of, column_of, Does}

-- rule 7, where the depth is known to be zero
element_flat : (ar : Arith) (kc : ℕ) (alpha beta : ar.E) (a b : ℕ → ar.E) (k : ℕ) (x : ar.E) → k ≡ 0
    → scaled ar (fate ar beta) x ≡ element ar kc alpha beta a b k x
unfolding element
element_flat ar kc alpha beta a b zero x e = refl
element_flat ar kc alpha beta a b (suc k) x e = absurd (let z : ⊥ = omega arith in z)

module _ {kind : Kind} (q : Call kind) (A B C : List Float) where
  pub does_flat : (D : List Float) → q.over.k ≡ 0
      → Updated (view_of kind) (index_of q.over.c) (Block q.over.m q.over.n)
      (λ i j. scaled (arith_of kind) (fate (arith_of kind) q.beta)) C D
      → Does q A B C D
  unfolding Does
  does_flat D e u =
      agreeing (view_of kind) (index_of q.over.c)
      (λ i j o x. element_flat (arith_of kind) (chunk q) q.alpha q.beta (row_of q A i) (column_of q B j) q.over.k x e) u
