-- A number that is read from its highest byte down. Assumes nothing.
use Prim.Native.Nat.{ℕ, suc, ◌+◌, ◌-◌, ◌*◌, ◌^◌, ◌≤◌, ◌<◌}
use mathlib.Core.Path.{◌≡◌, sym, ap, ◌∙◌, subst}
use mathlib.Core.List.{List}
use native.Mathlib.Nat.{pow-suc, pow-le-pow_right}
use native.Mathlib.Omega.{arith}
use lib.ListN.{get_or}
use Rattle.words.specs.Words.{number_at}

-- the number is that of the bytes read, and `left` of the `width` are still to come
pub record Reading (bytes : List ℕ) (width first number left : ℕ) : Type 0 where
  pub within : left ≤ width
  pub is : number ≡ number_at (width - left) bytes (first + left)
  pub below : number < 256 ^ (width - left)

pub none_read : (bytes : List ℕ) (width first : ℕ) → Reading bytes width first 0 width
unfolding number_at
none_read bytes width first =
    let none : 0 ≡ width - width = omega arith in
    record {
      within = omega arith;
      is = ap (λ (n : ℕ). number_at n bytes (first + width)) none;
      below = subst (λ (n : ℕ). 0 < 256 ^ n) none (omega arith);
    }

module _ {bytes : List ℕ} {width first number left : ℕ} (r : Reading bytes width first number left) where
  -- a byte more fits into a word
  pub room_for_byte : width ≤ 8 → 0 < left → number < 256 ^ 7
  room_for_byte w l =
      let most : width - left ≤ 7 = omega arith in
      let power : 256 ^ (width - left) ≤ 256 ^ 7 = pow-le-pow_right (omega arith) most in
      omega (arith, r.below)

  pub one_read : (byte : ℕ) → 0 < left → byte ≡ get_or bytes (first + (left - 1)) 0 → byte < 256
      → Reading bytes width first (byte + 256 * number) (left - 1)
  unfolding number_at
  one_read byte l e h =
      let count : suc (width - left) ≡ width - (left - 1) = omega (arith, r.within) in
      let next : first + left ≡ suc (first + (left - 1)) = omega arith in
      let more : 256 ^ (width - (left - 1)) ≡ 256 ^ (width - left) * 256 =
      ap (λ (n : ℕ). 256 ^ n) (sym count) ∙ pow-suc 256 (width - left) in
      record {
        within = omega (arith, r.within);
        is = (λ k. e k + 256 * (r.is ∙ ap (λ (n : ℕ). number_at (width - left) bytes n) next) k)
            ∙ ap (λ (n : ℕ). number_at n bytes (first + (left - 1))) count;
        below = omega (arith, r.below);
      }

  pub all_read : left ≡ 0 → (number ≡ number_at width bytes first) × (number < 256 ^ width)
  all_read e =
      let count : width - left ≡ width = omega arith in
      let at : first + left ≡ first = omega arith in
      (r.is ∙ (λ k. number_at (count k) bytes (at k)), subst (λ (n : ℕ). number < 256 ^ n) count r.below)
