-- A number of the kind complex f32 as C gives it. Definitions only.
use Rattle.rules.specs.Element.{Complex}
use Rattle.hewnspandrel.specs.declared.numbers.Complex32.{Complex32}

abbrev pub number : Complex32 → Complex
number z = record { re = z.re; im = z.im }
