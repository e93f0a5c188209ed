-- A number is one answer's only; one C, of what says one number and does one thing. Assumes nothing.
use Rattle.std.specs.Prelude.{ℕ, ◌<◌, Result, Ok, Err}
use mathlib.Core.{Path.◌≡◌, Path.refl, Path.sym, Path.ap, Path.◌∙◌, Path.subst, List.List}
use native.Mathlib.{Decide.dec_lt, Omega.arith}
use lib.{Ieee.Float}
use Rattle.refusal.specs.{declared.Refusal.Refusal, Numbers.answer_number, Order.Says, OrderLaws.One}
use Rattle.refusal.proofs.NumberLaws.{same_refusal, refusal_not_zero}
use Rattle.element.specs.declared.kind.Kind.{Kind}
use Rattle.call.specs.{declared.judge.Lengths.Lengths, Call.Call, Verdict.Verdict}
use Rattle.call.specs.{Outcome.Leaves, StageLaws.judged_one}

-- a number is one answer's only
pub same_answer : (r r' : Result Unit Refusal) → answer_number r ≡ answer_number r' → r ≡ r'
same_answer (Ok u) (Ok v) e = refl
same_answer (Ok u) (Err y) e = absurd (refusal_not_zero y (sym e))
same_answer (Err x) (Ok v) e = absurd (refusal_not_zero x e)
same_answer (Err x) (Err y) e = ap Err (same_refusal x y e)

-- ONE C: of what says one number and does one thing
pub one_left : (says : Says) (does : List Float → List Float → Type 0) → One says
    → ((C D D' : List Float) → does C D → does C D' → D ≡ D') → (C D D' : List Float) (r r' : ℕ)
    → Leaves says does C D r → Leaves says does C D' r' → (r ≡ r') × (D ≡ D')
one_left says does one same C D D' r r' o o' = (e, slices (dec_lt 0 r))
  where
    e : r ≡ r'
    e = one r r' o.answer o'.answer

    slices : Dec (0 < r) → D ≡ D'
    slices (yes h) = o.refused h ∙ sym (o'.refused (subst (λ (x : ℕ). 0 < x) e h))
    slices (no h) = let z : r ≡ 0 = omega arith in same C D D' (o.accepted z) (o'.accepted (sym e ∙ z))

pub verdict_one : {kind : Kind} (pack : ℕ) (q : Call kind) (floats : Lengths) → One (Verdict pack q floats)
unfolding Verdict
verdict_one {kind} pack q floats = judged_one kind pack q.over floats
