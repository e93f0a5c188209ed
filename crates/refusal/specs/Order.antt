-- "The first in this order that applies is returned": refusals one before the other. Definitions only.
use Rattle.std.specs.Prelude.{ℕ, ◌≡◌, ◌⊎◌}

-- what may be answered, by its number; 0 is done
abbrev pub Says : Type 1
Says = ℕ → Type 0

abbrev pub done : Says
done r = r ≡ 0

-- where P holds what `this` says, and else what `rest` says
abbrev pub Where : Type 0 → Says → Says → Says
Where P this rest r = (P × this r) ⊎ ((P → ⊥) × rest r)

-- a refusal: the number x exactly where P holds, and else what `rest` says
abbrev pub First : Type 0 → ℕ → Says → Says
First P x rest = Where P (λ r. r ≡ x) rest
