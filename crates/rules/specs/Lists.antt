-- Lists that are filled in order. Definitions only.
use Rattle.std.specs.Prelude.{ℕ, zero, suc, ◌+◌, ◌≤◌, ◌<◌, ◌≡◌, List, [], ◌∷◌, ◌++◌, length, get_or, take, drop}

-- g 0, g 1, .. g (n-1)
abbrev pub tab : {A : Type 0} → ℕ → (ℕ → A) → List A
tab zero g = []
tab (suc n) g = g 0 ∷ tab n (λ t. g (suc t))

-- g 0, then g 1, .. then g (n-1), one after the other
unfoldable pub cat : {A : Type 0} → ℕ → (ℕ → List A) → List A
cat zero g = []
cat (suc n) g = cat n g ++ g n

-- d with `new` in the place of as many elements from `at` on
unfoldable pub splice : {A : Type 0} → List A → ℕ → List A → List A
splice d at new = take at d ++ (new ++ drop (at + length new) d)

-- An array of n that a loop fills in order: below i element k is g k, from i on what it was at first.
pub record Filled {A : Type 0} (z : A) (n i : ℕ) (g : ℕ → A) (old l : List A) : Type 0 where
  pub long : length l ≡ n
  pub upto : i ≤ n
  pub made : (k : ℕ) → k < i → get_or l k z ≡ g k
  pub left : (k : ℕ) → i ≤ k → get_or l k z ≡ get_or old k z
