-- The pattern of an f64 says which float it is. Assumes nothing.
use Rattle.std.specs.Float.{binary64}
use Rattle.floats.proofs.FloatLaws.{pattern_back}
use Rattle.floats.proofs.patterns.F64Patterns.pattern.Goals as goal

pub returns : goal.returns
returns c = (c.f64_to_bits_with_nan.ensures, pattern_back binary64 _ _ c.well_formed.0.1 c.f64_to_bits_with_nan.ensures)
