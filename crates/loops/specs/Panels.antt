-- What packing writes, and how it is read back, for every kind. Definitions only.
use Rattle.std.specs.Prelude.{ℕ, zero, suc, ◌+◌, ◌*◌, ◌/◌, ◌%◌, List, [], ◌∷◌, ◌++◌, drop, get_or, Float}
use Rattle.std.specs.Float.{nan}
use Rattle.rules.specs.Element.{Arith, Complex}
use Rattle.rules.specs.Lists.{cat}
use Rattle.element.specs.Kinds.{arith_of}
use Rattle.element.specs.declared.kind.Kind.{Kind}
use Rattle.element.specs.declared.kind.Kind.TheVariants.{F32, F64, C32, C64}
use Rattle.loops.specs.Tiles.{up_to}

-- How one depth step of a panel of width w lies in floats: how many there are, what they are where lane i holds g i, and lane i at depth p
-- of a panel.
pub record Packing (E : Type 0) : Type 0 where
  pub floats : ℕ → ℕ
  pub row : ℕ → (ℕ → E) → List Float
  pub lane : List Float → ℕ → ℕ → ℕ → E

-- w floats, one after the other
unfoldable pub singles : ℕ → (ℕ → Float) → List Float
unfolding cat
singles w g = cat w (λ i. g i ∷ [])

abbrev pub real_packing : Packing Float
real_packing = record { floats = λ w. w; row = λ w g. singles w g; lane = λ l w i p. get_or l (p * w + i) nan }

-- the real half, 0, or the imaginary half of a complex number
abbrev pub half : Complex → ℕ → Float
half x zero = x.re
half x (suc r) = x.im

-- "a row of reals, then a row of imaginaries"
abbrev pub complex_packing : Packing Complex
complex_packing = record {
  floats = λ w. w + w;
  row = λ w g. singles w (λ i. half (g i) 0) ++ singles w (λ i. half (g i) 1);
  lane = λ l w i p. record { re = get_or l (p * (w + w) + i) nan; im = get_or l (p * (w + w) + w + i) nan };
}

abbrev pub packing_of : (kind : Kind) → Packing (arith_of kind).E
packing_of F32 = real_packing
packing_of F64 = real_packing
packing_of C32 = complex_packing
packing_of C64 = complex_packing

-- x at (i, p), with +0 from row m on
abbrev pub padded : (ar : Arith) → ℕ → (ℕ → ℕ → ar.E) → ℕ → ℕ → ar.E
padded ar m x i p = up_to ar m (λ i. x i p) i

module _ {E : Type 0} (pk : Packing E) where
  -- one panel of kc depth steps whose first lane is row `first` of x; and n panels
  unfoldable pub packed_panel : ℕ → ℕ → (ℕ → ℕ → E) → ℕ → List Float
  unfolding cat
  packed_panel w kc x first = cat kc (λ p. pk.row w (λ i. x (first + i) p))

  unfoldable pub packed : ℕ → ℕ → ℕ → (ℕ → ℕ → E) → List Float
  unfolding cat packed_panel
  packed w kc n x = cat n (λ ir. packed_panel w kc x (ir * w))

  -- row i at depth p of panels of width w and depth kc
  unfoldable pub unpacked : List Float → ℕ → ℕ → ℕ → ℕ → E
  unpacked l w kc i p = pk.lane (drop ((i / w) * (kc * pk.floats w)) l) w (i % w) p
