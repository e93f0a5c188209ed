-- An axis of so many entries: its two ends, and the code's span of it. Assumes nothing.
use Rattle.std.specs.Prelude.{◌≡◌, ℕ, suc, ◌-◌, ◌*◌, ◌<◌, ◌≤◌, ℤ, pos, negsuc, unsigned_abs}
use Rattle.std.specs.Prelude.{refl}
use Rattle.std.proofs.Common.{sym, ap, ◌∙◌, mul-zero, zero-mul, mul-le-mul_right, arith}
use Rattle.layout.specs.Splits.{up, dn, IsSpan}
use Rattle.layout.specs.Signs.{abs_is}

pub axis_le : {i entries : ℕ} (u : ℕ) → i < entries → i * u ≤ (entries - 1) * u
axis_le {i} {entries} u h = mul-le-mul_right u (omega arith)

-- the entry that lies lowest, and the one that lies highest
pub lowest : ℕ → ℤ → ℕ
lowest entries (pos n) = 0
lowest entries (negsuc n) = entries - 1

pub highest : ℕ → ℤ → ℕ
highest entries (pos n) = entries - 1
highest entries (negsuc n) = 0

pub lowest_is : (entries : ℕ) (s : ℤ) → 1 ≤ entries
    → (lowest entries s < entries) × (lowest entries s * up s ≡ 0) × (lowest entries s * dn s ≡ (entries - 1) * dn s)
unfolding lowest
lowest_is entries (pos n) h = (h, zero-mul n, zero-mul 0 ∙ sym (mul-zero (entries - 1)))
lowest_is entries (negsuc n) h = (omega arith, mul-zero (entries - 1), refl)

pub highest_is : (entries : ℕ) (s : ℤ) → 1 ≤ entries
    → (highest entries s < entries) × (highest entries s * dn s ≡ 0) × (highest entries s * up s ≡ (entries - 1) * up s)
unfolding highest
highest_is entries (pos n) h = (omega arith, mul-zero (entries - 1), refl)
highest_is entries (negsuc n) h = (h, zero-mul (suc n), zero-mul 0 ∙ sym (mul-zero (entries - 1)))

-- with a stride below 0 the last entry lies lowest, else highest
pub span_down : (entries : ℕ) (s : ℤ) {far : ℕ} → far ≡ (entries - 1) * unsigned_abs s → far ≤ 140735340871680 → up s ≡ 0
    → IsSpan entries s (record { below = far; above = 0 })
span_down entries s e max z = record {
  below = e ∙ ap (λ k. (entries - 1) * k) (omega (arith, abs_is s, z));
  above = sym (ap (λ k. (entries - 1) * k) z ∙ mul-zero (entries - 1));
  below_max = max;
  above_max = omega arith;
}

pub span_up : (entries : ℕ) (s : ℤ) {far : ℕ} → far ≡ (entries - 1) * unsigned_abs s → far ≤ 140735340871680 → dn s ≡ 0
    → IsSpan entries s (record { below = 0; above = far })
span_up entries s e max z = record {
  below = sym (ap (λ k. (entries - 1) * k) z ∙ mul-zero (entries - 1));
  above = e ∙ ap (λ k. (entries - 1) * k) (omega (arith, abs_is s, z));
  below_max = omega arith;
  above_max = max;
}
