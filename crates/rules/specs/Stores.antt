-- Places that do not meet, and one element stored. Definitions only.
use Rattle.std.specs.Prelude.{ℕ, ◌≡◌, List, Float}
use Rattle.rules.specs.Slice.{View, Updated, Block}

-- no two different places that P holds of are the same element
abbrev pub Apart : (ℕ → ℕ → ℕ) → (ℕ → ℕ → Type 0) → Type 0
Apart place P = (i j k l : ℕ) → P i j → P k l → place i j ≡ place k l → (i ≡ k) × (j ≡ l)

-- the element at `at` became x, and nothing else changed
abbrev pub Stored : {E : Type 0} → View E → ℕ → E → List Float → List Float → Type 0
Stored v at x C D = Updated v (λ i j. at) (Block 1 1) (λ i j old. x) C D
