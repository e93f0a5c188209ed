-- The pattern that the code writes for a NaN is one, of each real; zero by zero is one too. Assumes nothing.
use Rattle.std.specs.Prelude.{◌≡◌, refl}
use Rattle.std.specs.Float.{Format, binary32, binary64, nan}
use Rattle.std.specs.Float.Ieee.{div, of_bits}

-- the NaN that the code writes, f32's and f64's
pub is_nan : (of_bits binary32 0x7fc0_0000 ≡ nan) × (of_bits binary64 0x7ff8_0000_0000_0000 ≡ nan)
unfolding of_bits
is_nan = (refl, refl)

pub zero_by_zero : (f : Format) → div f (of_bits f 0) (of_bits f 0) ≡ nan
unfolding div of_bits
zero_by_zero binary32 = refl
zero_by_zero binary64 = refl
