-- Numbers as the code holds them. Definitions only.
use Rattle.std.specs.Prelude.{◌≡◌, refl, Float}
use Rattle.std.specs.Float.{nan}

-- A number E as the code holds it, an N: `is` reads it, `of` writes it, and `none` stands where an array has ended.
pub record Held (E N : Type 0) : Type 0 where
  pub none : N
  pub is : N → E
  pub of : E → N
  pub back : (x : E) → is (of x) ≡ x

-- a float is held as it is
abbrev pub float : Held Float Float
float = record { none = nan; is = λ x. x; of = λ x. x; back = λ x. refl }
