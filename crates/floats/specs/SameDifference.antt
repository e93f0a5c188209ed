-- A comparison of floats with words has one answer. Assumes nothing.
use Rattle.std.specs.Prelude.{ℕ, ◌<◌, ◌≡◌, List, Float}
use Rattle.std.proofs.Math.Decide.{dec_lt}
use Rattle.std.proofs.Common.{arith}
use Rattle.std.specs.Float.{Format}
use Rattle.floats.specs.Floats.{FirstDifference}

-- ANY TWO FIRST DIFFERENCES ARE EQUAL, also where there is none
pub first_difference_same : {f : Format} {floats : List Float} {words : List ℕ} {i j : ℕ} → FirstDifference f floats words i
    → FirstDifference f floats words j → i ≡ j
first_difference_same {i = i} {j} x y = go (dec_lt i j) (dec_lt j i)
  where
    go : Dec (i < j) → Dec (j < i) → i ≡ j
    go (yes h) _ = absurd (x.differs (omega (arith, y.within)) (y.agree i h))
    go (no h) (yes g) = absurd (y.differs (omega (arith, x.within)) (x.agree j g))
    go (no h) (no g) = omega arith
