-- The answer for a place that is refused. Assumes nothing.
use Rattle.std.proofs.Common.{◌≡◌, sym, ◌∙◌, ℕ, subst, List}
use Rattle.std.specs.Prelude.{Float}
use Rattle.std.specs.Float.{nan}
use Rattle.refusal.specs.declared.Refusal.{Refusal}
use Rattle.refusal.specs.Numbers.{number_of}
use Rattle.refusal.proofs.NumberLaws.{refusal_not_zero}
use Rattle.panel.specs.declared.file.Shape.{Shape}
use Rattle.panel.specs.Reader.{ElementSays}
use Rattle.hewnspandrel.specs.Answers.{ElementAnswered}

-- a refusal's number is not 0, and beside it stands a NaN
pub no_element : (numbers : List Float) (s : Shape) (i j answer : ℕ) (x : Refusal) (element : Float) → answer ≡ number_of x
    → ElementSays numbers s i j (number_of x) → element ≡ nan → ElementAnswered numbers s i j answer element
no_element numbers s i j answer x element e says n = record {
  says = subst (λ (n : ℕ). ElementSays numbers s i j n) (sym e) says;
  found = λ z. absurd (refusal_not_zero x (sym e ∙ z));
  refused = λ _. n;
}
