-- The pattern of an f32 says which float it is. Assumes nothing.
use Rattle.std.proofs.Common.{◌∙◌}
use Rattle.std.specs.Float.{binary32}
use Rattle.floats.proofs.FloatLaws.{pattern_back}
use Rattle.floats.proofs.patterns.F32Patterns.pattern.Goals as goal

pub returns : goal.returns
returns c = let e = c.from.ensures ∙ c.f32_to_bits_with_nan.ensures in (e, pattern_back binary32 _ _ c.well_formed.0.1 e)
