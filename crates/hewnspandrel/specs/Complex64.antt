-- Derived from crates/hewnspandrel/specs/Complex32.antt by tools/derive: edit that.
-- A number of the kind complex f64 as C gives it. Definitions only.
use Rattle.rules.specs.Element.{Complex}
use Rattle.hewnspandrel.specs.declared.numbers.Complex64.{Complex64}

abbrev pub number : Complex64 → Complex
number z = record { re = z.re; im = z.im }
