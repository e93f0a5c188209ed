-- A number of the kind f32 as C gives it. Definitions only.
use Rattle.std.specs.Prelude.{Float}

abbrev pub number : Float → Float
number x = x
