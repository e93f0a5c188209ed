-- How elements lie in a slice of floats, and the one relation by which every level speaks of C's slice before and after. Definitions only.
use Rattle.std.specs.Prelude.{ℕ, ◌+◌, ◌*◌, ◌/◌, ◌≤◌, ◌<◌}
use mathlib.Core.{Path.◌≡◌, List.List}
use lib.{ListN.length, ListN.get_or, Ieee.Float, Ieee.nan}
use Rattle.rules.specs.Element.{Complex}

-- The element that the float at t belongs to, how many whole elements so many floats hold, and the element e of a slice.
pub record View (E : Type 0) : Type 0 where
  pub owner : ℕ → ℕ
  pub count : ℕ → ℕ
  pub get : List Float → ℕ → E

abbrev pub real_view : View Float
real_view = record { owner = λ t. t; count = λ floats. floats; get = λ C e. get_or C e nan }

-- "a complex element is two neighbouring reals, real part first"; "a lone last real in an odd slice belongs to no element"
abbrev pub complex_view : View Complex
complex_view = record {
  owner = λ t. t / 2;
  count = λ floats. floats / 2;
  get = λ C e. record { re = get_or C (e * 2) nan; im = get_or C (e * 2 + 1) nan };
}

-- The slice C became D: where P holds of i and j, the element at `place i j` is f i j of the old one; every float of another element is
-- as it was.
pub record Updated {E : Type 0} (v : View E) (place : ℕ → ℕ → ℕ) (P : ℕ → ℕ → Type 0) (f : ℕ → ℕ → E → E) (C D : List Float)
    : Type 0 where
  pub same_length : length D ≡ length C
  pub inside : (i j : ℕ) → P i j → v.get D (place i j) ≡ f i j (v.get C (place i j))
  pub outside : (t : ℕ) → ((i j : ℕ) → P i j → place i j ≡ v.owner t → ⊥) → get_or D t nan ≡ get_or C t nan

-- rows below m, columns below n
abbrev pub Block : ℕ → ℕ → ℕ → ℕ → Type 0
Block m n i j = (i < m) × (j < n)

-- one of `count` from `start` on
abbrev pub Within : ℕ → ℕ → ℕ → Type 0
Within start count x = (start ≤ x) × (x < start + count)

-- m rows from r on, n columns from c on
abbrev pub Region : ℕ → ℕ → ℕ → ℕ → ℕ → ℕ → Type 0
Region r m c n i j = Within r m i × Within c n j
