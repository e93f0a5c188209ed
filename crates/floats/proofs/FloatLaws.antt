-- Which float a word stands for, and the floats of a slice of reals one by one. Assumes nothing.
use mathlib.Core.Path.{◌≡◌, sym, ◌∙◌, ap, subst}
use mathlib.Core.Bool.{Bool, true, cond}
use Prim.Native.Nat.{ℕ, ◌*◌, ◌≤◌, ◌<◌}
use borrow.Author.Tests.{le-ltb}
use lib.Dec.{T}
use lib.Ieee.{Float, Format, binary32, nan, top, fits, of_bits, to_bits}
use lib.Ieee.Bits.{of_bits-to_bits}
use Rattle.std.proofs.Common.{List, length, get_or, map, arith, ext_get_or}
use Rattle.rules.specs.Lists.{tab}
use Rattle.rules.specs.ListLaws.{length-tab, get_or-tab}
use Rattle.element.specs.FloatLaws.{length_floats, get_floats}
use Rattle.floats.specs.Floats.{float_of}

-- a word that is too large for a pattern of 32 bits is a NaN
pub large_word : (word : ℕ) → 0x1_0000_0000 ≤ word → of_bits binary32 0x7fc0_0000 ≡ float_of binary32 word
unfolding float_of of_bits
large_word word h = ap (λ (b : Bool). cond b (of_bits binary32 word) nan) (sym (le-ltb word (2 * top binary32) h))

-- a float's pattern says which it is
pub pattern_back : (f : Format) (n : ℕ) (x : Float) → fits f x ≡ true → n ≡ to_bits f x → of_bits f n ≡ x
pattern_back f n x h e = ap (of_bits f) e ∙ of_bits-to_bits f x (subst T (sym h) tt)

-- the floats of n reals, each of which is known
pub floats_tab : {N : Type 0} {is : N → Float} {floats : List N → List Float} → ((s : List N) → floats s ≡ map is s)
    → (s : List N) (z : N) (n : ℕ) (g : ℕ → Float) → length s ≡ n → ((k : ℕ) → k < n → is (get_or s k z) ≡ g k) → floats s ≡ tab n g
floats_tab {is} {floats} each s z n g e h =
    let long : length (floats s) ≡ n = length_floats each s ∙ e in
    ext_get_or (is z) (floats s) (tab n g) (long ∙ sym (length-tab n g))
    (λ k m. let below : k < n = omega (arith, long) in get_floats each s k z ∙ h k below ∙ sym (get_or-tab n g k (is z) below))
