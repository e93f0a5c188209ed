-- Derived from crates/hewnspandrel/specs/Real32.antt by tools/derive: edit that.
-- A number of the kind f64 as C gives it. Definitions only.
use Rattle.std.specs.Prelude.{Float}

abbrev pub number : Float → Float
number x = x
