-- "A row's trouble stays in its row", and a column's in its column: whatever layouts and slices two accepted calls have. Assumes nothing.
use Rattle.std.specs.Prelude.{ℕ, ◌<◌, length, Float, Result}
use mathlib.Core.{Path.◌≡◌, Path.sym, Path.◌∙◌, Path.subst, List.List}
use Rattle.refusal.specs.{declared.Refusal.Refusal, Numbers.answer_number}
use Rattle.rules.specs.{Element.element, Agree.element_agree}
use Rattle.element.specs.{declared.kind.Kind.Kind, Kinds.arith_of}
use Rattle.call.specs.Call.{Call, chunk, row_of, column_of, Does}
use Rattle.call.specs.Verdict.{lengths, Verdict}
use Rattle.call.specs.Outcome.{Outcome}
use Rattle.call.specs.Statements.{Alike, in_c, EqualRowA, EqualColumnB, Accepted, RowStays, ColumnStays}

-- the element (i, j) is made of row i of A, column j of B and its old value
pub element_alone : {kind : Kind} (q r : Call kind) → Alike q r → (A B C D A' B' C' D' : List Float) → Does q A B C D → Does r A' B' C' D'
    → (i j : ℕ) → i < q.over.m → j < q.over.n → EqualRowA q r A A' i → EqualColumnB q r B B' j
    → in_c q C i j ≡ in_c r C' i j → in_c q D i j ≡ in_c r D' i j
unfolding Does
element_alone {kind} q r alike A B C D A' B' C' D' one two i j hi hj row column old =
    one.inside i j (hi, hj)
    ∙ element_agree (arith_of kind) (chunk q) q.alpha q.beta (row_of q A i) (column_of q B j) (row_of r A' i) (column_of r B' j)
    q.over.k (in_c q C i j) (λ p h. (row p h, column p h))
    ∙ (λ s. element (arith_of kind) (chunk q) (alike.alpha s) (alike.beta s) (row_of r A' i) (column_of r B' j) (alike.k s) (old s))
    ∙ sym (two.inside i j (subst (λ (x : ℕ). i < x) alike.m hi, subst (λ (x : ℕ). j < x) alike.n hj))

-- what the entry points promise is enough
pub outcome_accepted : {kind : Kind} (q : Call kind) (A B C D P Q : List Float) (r : Result Unit Refusal) → Outcome q A B C D P Q r
    → answer_number r ≡ 0 → Accepted q A B C D
outcome_accepted q A B C D P Q r o e = (Verdict (length P) q (lengths A B C), answer_number r, o.c, e)

pub row_stays : RowStays
row_stays kind q r A B C D A' B' C' D' one two i hi alike b row old j hj =
    element_alone q r alike A B C D A' B' C' D' (one.2.accepted one.3) (two.2.accepted two.3) i j hi hj row (b j hj) (old j hj)

pub column_stays : ColumnStays
column_stays kind q r A B C D A' B' C' D' one two j hj alike a column old i hi =
    element_alone q r alike A B C D A' B' C' D' (one.2.accepted one.3) (two.2.accepted two.3) i j hi hj (a i hi) column (old i hi)
