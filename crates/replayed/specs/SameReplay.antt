-- Any two outcomes of one recorded call are equal. Assumes nothing.
use Rattle.std.specs.Prelude.{ℕ, ◌≡◌, refl, List, Float, length, Result, Ok, Err}
use Rattle.std.proofs.Common.{sym, ap, ◌∙◌, subst}
use Rattle.std.specs.Float.{Format}
use Rattle.refusal.specs.declared.Refusal.{Refusal}
use Rattle.refusal.specs.Numbers.{answer_number}
use Rattle.element.specs.Kinds.{format_of}
use Rattle.element.specs.declared.kind.Kind.{Kind}
use Rattle.floats.specs.SameDifference.{first_difference_same}
use Rattle.call.specs.declared.judge.Lengths.{Lengths}
use Rattle.call.specs.Call.{Call, Does}
use Rattle.call.specs.Verdict.{lengths, Verdict}
use Rattle.call.specs.Outcome.{Leaves, Outcome}
use Rattle.call.specs.OneOutcome.{one_left, verdict_one}
use Rattle.call.proofs.PieceLaws.{does_same}
use Rattle.sample.specs.declared.calls.Difference.{Difference}
use Rattle.replayed.specs.Replayed.{recorded, Compared, Replayed}

-- the number and the end of C's slice do not depend on what the pack buffer held
left_same : {kind : Kind} (q : Call kind) (A B C D D' P P' Q Q' : List Float) (r r' : Result Unit Refusal) → length P ≡ length P'
    → Outcome q A B C D P Q r → Outcome q A B C D' P' Q' r' → (answer_number r ≡ answer_number r') × (D ≡ D')
left_same q A B C D D' P P' Q Q' r r' long o o' =
    one_left (Verdict (length P) q (lengths A B C)) (Does q A B) (verdict_one (length P) q (lengths A B C)) (does_same q A B) C D D'
    (answer_number r) (answer_number r') o.c
    (subst (λ (n : ℕ). Leaves (Verdict n q (lengths A B C)) (Does q A B) C D' (answer_number r')) (sym long) o'.c)

-- the comparison has one outcome

pub compared_same : (f : Format) (w : List ℕ) (n : ℕ) (D : List Float) (o o' : Result Unit Difference) → Compared f w n D o
    → Compared f w n D o' → o ≡ o'
compared_same f w n D (Ok _) (Ok _) x y = refl
compared_same f w n D (Ok _) (Err Difference.Answer) x y = absurd (y x.0)
compared_same f w n D (Ok _) (Err (Difference.Place i)) x y = absurd (y.2.differs y.1 (x.1 i y.1))
compared_same f w n D (Err Difference.Answer) (Ok _) x y = absurd (x y.0)
compared_same f w n D (Err Difference.Answer) (Err Difference.Answer) x y = refl
compared_same f w n D (Err Difference.Answer) (Err (Difference.Place i)) x y = absurd (x y.0)
compared_same f w n D (Err (Difference.Place i)) (Ok _) x y = absurd (x.2.differs x.1 (y.1 i x.1))
compared_same f w n D (Err (Difference.Place i)) (Err Difference.Answer) x y = absurd (y x.0)
compared_same f w n D (Err (Difference.Place i)) (Err (Difference.Place j)) x y =
    ap (λ place. Err (Difference.Place place)) (first_difference_same x.2 y.2)

-- ANY TWO OUTCOMES ARE EQUAL
pub replayed_same : {kind : Kind} {w : List ℕ} {pack : ℕ} {n : Lengths} {o o' : Result Unit Difference} → Replayed kind w pack n o
    → Replayed kind w pack n o' → o ≡ o'
replayed_same {kind} {w} {pack} {n} {o} {o'} x y =
    let (number, slice) =
    left_same _ _ _ _ y.D x.D y.P x.P y.Q x.Q y.answer x.answer (y.long ∙ sym x.long) y.ran x.ran in
    compared_same (format_of kind) (recorded n w) (answer_number x.answer) x.D o o' x.compared
    (subst (λ (D : List Float). Compared (format_of kind) (recorded n w) (answer_number x.answer) D o') slice
    (subst (λ (m : ℕ). Compared (format_of kind) (recorded n w) m y.D o') number y.compared))
