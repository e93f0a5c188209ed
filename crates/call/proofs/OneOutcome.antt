-- Any two outcomes of one call are equal, but for the first need elements of the pack buffer (docs/EXCEPTIONS.md). Assumes nothing.
use Rattle.std.specs.Prelude.{◌≡◌, ℕ, ◌<◌, List, Float, length}
use Rattle.std.proofs.Common.{sym, ◌∙◌, subst}
use Rattle.refusal.specs.Numbers.{answer_number}
use Rattle.element.specs.declared.kind.Kind.{Kind}
use Rattle.call.specs.{Call.Call, Call.Does, Verdict.lengths, Verdict.Verdict}
use Rattle.call.specs.{Outcome.PackLeft, Statements.OnePack, Statements.OneOutcome}
use Rattle.call.specs.OneOutcome.{same_answer, one_left, verdict_one}
use Rattle.call.proofs.PieceLaws.{does_same}

pack_same : {kind : Kind} (q : Call kind) (P Q Q' : List Float) (r r' : ℕ) → r ≡ r' → PackLeft q P Q r → PackLeft q P Q' r'
    → OnePack q Q Q' r
pack_same q P Q Q' r r' e o o' = record {
  refused = λ h. o.refused h ∙ sym (o'.refused (subst (λ (x : ℕ). 0 < x) e h));
  idle = λ z. o.idle z ∙ sym (o'.idle z);
  kept = record {
    same_length = o'.kept.same_length ∙ sym o.kept.same_length;
    beyond = λ t h. o'.kept.beyond t h ∙ sym (o.kept.beyond t h);
  };
}

-- ANY TWO OUTCOMES ARE EQUAL
pub one_outcome : OneOutcome
one_outcome kind q A B C D D' P Q Q' r r' o o' =
    let (e, d) = one_left (Verdict (length P) q (lengths A B C)) (Does q A B) (verdict_one (length P) q (lengths A B C))
    (does_same q A B) C D D' (answer_number r) (answer_number r') o.c o'.c in
    (same_answer r r' e, d, pack_same q P Q Q' (answer_number r) (answer_number r') e o.pack o'.pack)
