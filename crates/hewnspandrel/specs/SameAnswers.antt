-- Any two answers of one call of the C interface are equal, but for the first need elements of the pack buffer (docs/EXCEPTIONS.md).
-- Assumes nothing.
use Rattle.std.specs.Prelude.{ℕ, zero, suc, ◌≡◌, refl, List, Float}
use Rattle.std.proofs.Common.{sym, ap, ◌∙◌, subst, arith}
use Rattle.std.specs.Float.{Format}
use Rattle.refusal.specs.Numbers.{answer_number}
use Rattle.element.specs.declared.kind.Kind.{Kind}
use Rattle.layout.specs.NeedLaws.{pack_length_same}
use Rattle.call.specs.Call.{Call}
use Rattle.call.specs.Statements.{OnePack}
use Rattle.call.proofs.OneOutcome.{one_outcome}
use Rattle.panel.specs.declared.file.Shape.{Shape}
use Rattle.panel.specs.OneOutcome.{one_read_outcome}
use Rattle.panel.specs.ReadLaws.{one_place}
use Rattle.hewnspandrel.specs.declared.length.Length.{Length}
use Rattle.hewnspandrel.specs.declared.head.Head.{Head}
use Rattle.hewnspandrel.specs.Answers.{Answered, length_of, Asked, head_of, FileRead, ElementAnswered}

-- ANY TWO ANSWERS ARE EQUAL. C's slice is D or D' afterwards, the pack buffer Q or Q', the number answered r or r': the same, the pack
-- buffer from the need on, or wholly where the call was refused or a size is zero.
pub answered_same : {kind : Kind} (q : Call kind) (A B C D D' P Q Q' : List Float) (r r' : ℕ)
    → Answered q A B C D P Q r → Answered q A B C D' P Q' r' → (r ≡ r') × (D ≡ D') × OnePack q Q Q' r
answered_same {kind} q A B C D D' P Q Q' r r' x y =
    let (answers, slices, packs) =
    one_outcome kind q A B C D D' P Q Q' x.answer y.answer x.outcome y.outcome in
    (x.number ∙ ap answer_number answers ∙ sym y.number, slices, subst (OnePack q Q Q') (sym x.number) packs)

-- ANY TWO ANSWERS TO THE QUESTION ARE EQUAL
pub asked_same : (kind : Kind) (m k n : ℕ) (r r' : Length) → Asked kind m k n r → Asked kind m k n r' → r ≡ r'
asked_same kind m k n r r' x y =
    x.length ∙ ap length_of (pack_length_same kind m k n x.found y.found x.is y.is) ∙ sym y.length

-- ANY TWO ANSWERS OF A READER ARE EQUAL, and the destination afterwards, E or E'
pub read_same : (f : Format) (s : List ℕ) (D E E' : List Float) (r r' : Head)
    → FileRead f s D E r → FileRead f s D E' r' → (r ≡ r') × (E ≡ E')
read_same f s D E E' r r' x y =
    let (answers, numbers) = one_read_outcome f s D E E' x.answer y.answer x.outcome y.outcome in
    (x.head ∙ ap head_of answers ∙ sym y.head, numbers)

-- ANY TWO ANSWERS FOR A PLACE ARE EQUAL
pub element_same : (numbers : List Float) (s : Shape) (i j a a' : ℕ) (x x' : Float)
    → ElementAnswered numbers s i j a x → ElementAnswered numbers s i j a' x' → (a ≡ a') × (x ≡ x')
element_same numbers s i j a a' x x' p q = (same, go a refl)
  where
    same : a ≡ a'
    same = one_place numbers s i j a a' p.says q.says

    go : (n : ℕ) → a ≡ n → x ≡ x'
    go zero e = p.found e ∙ sym (q.found (sym same ∙ e))
    go (suc n) e = p.refused (omega arith) ∙ sym (q.refused (omega (arith, same)))
