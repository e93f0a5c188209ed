-- Reals and imaginaries that lie apart, as complex numbers. Definitions only.
use Rattle.std.specs.Prelude.{ℕ, List, Float}
use Rattle.rules.specs.Element.{Complex}
use Rattle.rules.specs.Held.{Held}
use Rattle.loops.specs.Tiles.{at}

-- a row of reals and one of imaginaries, as complex numbers
abbrev pub both : {N : Type 0} → Held Float N → List N → List N → ℕ → Complex
both held re im i = record { re = at held re i; im = at held im i }
