-- Signed numbers as what is above 0 and what is below, how far an axis reaches either way, and the least steps that lead to one place.
-- Only our own tests speak of them. Definitions only.
use Rattle.std.specs.Prelude.{◌≡◌, ℕ, suc, ◌-◌, ◌*◌, ◌≤◌, ℤ, pos, negsuc}
use Rattle.layout.specs.declared.strides.Span.{Span}

-- a number is `up` of it less `dn` of it, and one of the two is 0
abbrev pub up : ℤ → ℕ
up (pos n) = n
up (negsuc n) = 0

abbrev pub dn : ℤ → ℕ
dn (pos n) = 0
dn (negsuc n) = suc n

-- what the code's span is of an axis of so many entries
pub record IsSpan (entries : ℕ) (stride : ℤ) (s : Span) : Type 0 where
  pub below : s.below ≡ (entries - 1) * dn stride
  pub above : s.above ≡ (entries - 1) * up stride
  pub below_max : s.below ≤ 140735340871680
  pub above_max : s.above ≤ 140735340871680

-- u steps of one stride and v of the other are t times the least steps
pub record Multiple (a' b' u v : ℕ) : Type 0 where
  pub t : ℕ
  pub u_is : u ≡ t * b'
  pub v_is : v ≡ t * a'

-- g divides strides of a and b, and whatever numbers of steps lead to one place are multiples of the least
pub record LeastSteps (a b g : ℕ) : Type 0 where
  pub a' : ℕ
  pub b' : ℕ
  pub a_is : a ≡ a' * g
  pub b_is : b ≡ b' * g
  pub all : (u v : ℕ) → u * a ≡ v * b → Multiple a' b' u v
