-- Derived from crates/hewnspandrel/specs/Complex32Laws.antt by tools/derive: edit that.
-- A complex f64 that C gives loses nothing on its way to the definition's. Assumes nothing.
use Rattle.std.specs.Prelude.{◌≡◌, refl}
use Rattle.std.proofs.Common.{ap}
use Rattle.rules.specs.Element.{Complex}
use Rattle.hewnspandrel.specs.Complex64.{number}
use Rattle.hewnspandrel.specs.declared.numbers.Complex64.{Complex64}

-- C's number, from the definition's
abbrev pub number_from : Complex → Complex64
number_from z = record { re = z.re; im = z.im }

-- there and back is the same number
pub number_back : (z : Complex64) → number_from (number z) ≡ z
number_back z = refl

-- a promise about number settles C's number: two that it cannot tell apart are equal
pub number_same : (z w : Complex64) → number z ≡ number w → z ≡ w
number_same z w e = ap number_from e
