-- The code's choice for old C as the definition's. Definitions only.
use Rattle.rules.specs.Element.{Fate, overwrite, times}
use Rattle.element.specs.declared.fate.Fate as code
use Rattle.element.specs.declared.fate.Fate.TheVariants.{Overwrite, Times}

abbrev pub fate_of : {N E : Type 0} → (N → E) → code.Fate N → Fate E
fate_of is Overwrite = overwrite
fate_of is (Times x) = times (is x)
