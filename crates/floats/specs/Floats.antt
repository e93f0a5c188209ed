-- The floats that words hold, at either width. Definitions only.
use Rattle.std.specs.Prelude.{ℕ, ◌*◌, ◌≤◌, ◌<◌, ◌≡◌, cond, List, ltb, length, get_or, Float}
use Rattle.std.specs.Float.{nan, Format}
use Rattle.std.specs.Float.Ieee.{top, of_bits}
use Rattle.rules.specs.Element.{Complex}
use Rattle.rules.specs.Lists.{tab}

-- the float whose pattern a word is, a NaN where it is larger than every pattern of the format
unfoldable pub float_of : Format → ℕ → Float
float_of f word = cond (ltb word (2 * top f)) (of_bits f word) nan

-- the complex number whose parts the first two words hold
abbrev pub complex_of : Format → List ℕ → Complex
complex_of f words = record { re = float_of f (get_or words 0 0); im = float_of f (get_or words 1 0) }

-- as many floats as said, from the first words on
abbrev pub floats_of : Format → ℕ → List ℕ → List Float
floats_of f n words = tab n (λ i. float_of f (get_or words i 0))

-- r is the first place whose float is not the word's, or how many floats there are
pub record FirstDifference (f : Format) (floats : List Float) (words : List ℕ) (r : ℕ) : Type 0 where
  pub within : r ≤ length floats
  pub agree : (i : ℕ) → i < r → get_or floats i nan ≡ float_of f (get_or words i 0)
  pub differs : r < length floats → get_or floats r nan ≡ float_of f (get_or words r 0) → ⊥
