-- Laws of the need: rounding up, a piece's need is at most the whole's, and the question has one answer. Assumes nothing.
use Rattle.std.specs.Prelude.{◌≡◌, ℕ, zero, suc, ◌+◌, ◌-◌, ◌*◌, ◌/◌, ◌%◌, ◌<◌, ◌≤◌, min, ◌⊎◌}
use Rattle.std.specs.Prelude.{refl, Result, Ok, Err}
use Rattle.std.proofs.Common.{sym, ap, ◌∙◌, inl, inr, zero-le, le_trans, mul-le-mul, mul-le-mul_right, add-le-add, div-mul-le_self}
use Rattle.std.proofs.Common.{div-add-mod', mod-lt, add-mul, one-mul, le-div_iff_mul-le, arith}
use Rattle.std.proofs.Math.Nat.{min-le_left, min-le_right, le-min, div-eq_of_lt-le}
use Rattle.refusal.specs.declared.Refusal.{Refusal}
use Rattle.refusal.specs.declared.Refusal.TheVariants.{TooLarge}
use Rattle.refusal.specs.Numbers.{number_of}
use Rattle.refusal.proofs.NumberLaws.{same_refusal, refusal_not_zero}
use Rattle.refusal.specs.Order.{done}
use Rattle.refusal.specs.OrderLaws.{One, one_done, first_stage}
use Rattle.element.specs.declared.kind.Kind.{Kind}
use Rattle.element.specs.declared.kind.Kind.TheVariants.{F32, F64, C32, C64}
use Rattle.element.specs.declared.kind.Tiling.{Tiling}
use Rattle.element.specs.Kinds.{tiling_of, depth_chunk}
use Rattle.layout.specs.Need.{round_up, need_of, Large, NeedSays, PackLengthIs}

-- ---- rounding up, as std's `next_multiple_of` does it

pub multiple_up : (x t z : ℕ) → 0 < t → x ≤ z → z < x + t → z % t ≡ 0 → z ≡ round_up x t
unfolding round_up
multiple_up x t z h low high e =
    let whole : z ≡ z / t * t = omega (arith, div-add-mod' z t) in
    whole
    ∙ sym (ap (λ q. q * t) (div-eq_of_lt-le {k = z / t} t (omega (arith, whole))
    (omega (arith, whole, add-mul (z / t) 1 t, one-mul t))))

-- the same by a quotient and its rest: no rest, and one
pub round_exact : (x t : ℕ) → 0 < t → x % t ≡ 0 → x / t * t ≡ round_up x t
unfolding round_up
round_exact x t h e =
    sym (ap (λ q. q * t) (div-eq_of_lt-le {k = x / t} t (omega (arith, div-mul-le_self x t))
    (omega (arith, div-add-mod' x t, add-mul (x / t) 1 t, one-mul t))))

pub round_more : (x t : ℕ) → 0 < t → 0 < x % t → (x / t + 1) * t ≡ round_up x t
unfolding round_up
round_more x t h k =
    sym (ap (λ q. q * t) (div-eq_of_lt-le {k = x / t + 1} t
    (omega (arith, div-add-mod' x t, add-mul (x / t) 1 t, one-mul t))
    (omega (arith, div-add-mod' x t, mod-lt x h, add-mul (x / t + 1) 1 t, add-mul (x / t) 1 t, one-mul t))))

pub round_lt : (x t : ℕ) → 0 < t → round_up x t < x + t
unfolding round_up
round_lt x t h = omega (arith, div-mul-le_self (x + (t - 1)) t)

div_mono : {a b : ℕ} (t : ℕ) → 0 < t → a ≤ b → a / t ≤ b / t
div_mono {a} {b} t h l = (le-div_iff_mul-le h).1 (le_trans (div-mul-le_self a t) l)

pub round_mono : {a b : ℕ} (t : ℕ) → 0 < t → a ≤ b → round_up a t ≤ round_up b t
unfolding round_up
round_mono {a} {b} t h l = mul-le-mul_right t (div_mono t h (omega arith))

-- ---- need

-- the need where no size is zero
abbrev pub need_some : Tiling → ℕ → ℕ → ℕ → ℕ → ℕ
need_some s kc m k n = min k kc * (round_up (min m s.mc) s.mr + round_up (min n s.nc) s.nr)

min_mono : {a b : ℕ} (c : ℕ) → a ≤ b → min a c ≤ min b c
min_mono {a} {b} c l = le-min (le_trans (min-le_left a c) l) (min-le_right a c)

pub packed_mono : (s : Tiling) (kc : ℕ) → 0 < s.mr → 0 < s.nr → {m m' k k' n n' : ℕ} → m ≤ m' → k ≤ k' → n ≤ n'
    → need_some s kc m k n ≤ need_some s kc m' k' n'
packed_mono s kc hr hc lm lk ln =
    mul-le-mul (min_mono kc lk)
    (add-le-add (round_mono s.mr hr (min_mono s.mc lm)) (round_mono s.nr hc (min_mono s.nc ln)))

pub need_some_lem : (s : Tiling) (kc m k n : ℕ) → 0 < m → 0 < k → 0 < n → need_of s kc m k n ≡ need_some s kc m k n
unfolding need_of
need_some_lem s kc zero k n hm hk hn = absurd (omega arith)
need_some_lem s kc (suc m) zero n hm hk hn = absurd (omega arith)
need_some_lem s kc (suc m) (suc k) zero hm hk hn = absurd (omega arith)
need_some_lem s kc (suc m) (suc k) (suc n) hm hk hn = refl

pub need_idle : {X Y Z : Type 0} (s : Tiling) (kc m k n : ℕ) → (m ≡ 0) ⊎ ((X × (k ≡ 0)) ⊎ (Y × Z × (n ≡ 0)))
    → need_of s kc m k n ≡ 0
unfolding need_of
need_idle s kc zero k n e = refl
need_idle s kc (suc m) zero n e = refl
need_idle s kc (suc m) (suc k) zero e = refl
need_idle s kc (suc m) (suc k) (suc n) (inl e) = absurd (omega arith)
need_idle s kc (suc m) (suc k) (suc n) (inr (inl e)) = absurd (omega (arith, e.1))
need_idle s kc (suc m) (suc k) (suc n) (inr (inr e)) = absurd (omega (arith, e.2))

-- the same of each size
pub need_no_m : (s : Tiling) (kc m k n : ℕ) → m ≡ 0 → need_of s kc m k n ≡ 0
unfolding need_of
need_no_m s kc zero k n h = refl
need_no_m s kc (suc m) k n h = absurd (omega arith)

pub need_no_k : (s : Tiling) (kc m k n : ℕ) → k ≡ 0 → need_of s kc m k n ≡ 0
unfolding need_of
need_no_k s kc zero k n h = refl
need_no_k s kc (suc m) zero n h = refl
need_no_k s kc (suc m) (suc k) n h = absurd (omega arith)

pub need_no_n : (s : Tiling) (kc m k n : ℕ) → n ≡ 0 → need_of s kc m k n ≡ 0
unfolding need_of
need_no_n s kc zero k n h = refl
need_no_n s kc (suc m) zero n h = refl
need_no_n s kc (suc m) (suc k) zero h = refl
need_no_n s kc (suc m) (suc k) (suc n) h = absurd (omega arith)

-- a piece's need is at most the whole's
pub need_mono : (s : Tiling) (kc : ℕ) → 0 < s.mr → 0 < s.nr → (m m' k k' n n' : ℕ) → m ≤ m' → k ≤ k' → n ≤ n'
    → need_of s kc m k n ≤ need_of s kc m' k' n'
unfolding need_of
need_mono s kc hr hc zero m' k k' n n' lm lk ln = zero-le
need_mono s kc hr hc (suc m) m' zero k' n n' lm lk ln = zero-le
need_mono s kc hr hc (suc m) m' (suc k) k' zero n' lm lk ln = zero-le
need_mono s kc hr hc (suc m) m' (suc k) k' (suc n) n' lm lk ln =
    rw (need_some_lem s kc m' k' n' (omega arith) (omega arith) (omega arith)) (packed_mono s kc hr hc lm lk ln)

-- ---- the kinds' own numbers

pub kind_sides : (kind : Kind) → (0 < (tiling_of kind).mr) × (0 < (tiling_of kind).nr)
kind_sides F32 = (omega arith, omega arith)
kind_sides F64 = (omega arith, omega arith)
kind_sides C32 = (omega arith, omega arith)
kind_sides C64 = (omega arith, omega arith)

pub record Small (s : Tiling) : Type 0 where
  pub mr_some : 0 < s.mr
  pub nr_some : 0 < s.nr
  pub mr_max : s.mr ≤ 8
  pub nr_max : s.nr ≤ 4
  pub mc_max : s.mc ≤ 64
  pub nc_max : s.nc ≤ 1024

pub kind_small : (kind : Kind) → Small (tiling_of kind)
kind_small F32 = record {
  mr_some = omega arith;
  nr_some = omega arith;
  mr_max = omega arith;
  nr_max = omega arith;
  mc_max = omega arith;
  nc_max = omega arith;
}
kind_small F64 = record {
  mr_some = omega arith;
  nr_some = omega arith;
  mr_max = omega arith;
  nr_max = omega arith;
  mc_max = omega arith;
  nc_max = omega arith;
}
kind_small C32 = record {
  mr_some = omega arith;
  nr_some = omega arith;
  mr_max = omega arith;
  nr_max = omega arith;
  mc_max = omega arith;
  nc_max = omega arith;
}
kind_small C64 = record {
  mr_some = omega arith;
  nr_some = omega arith;
  mr_max = omega arith;
  nr_max = omega arith;
  mc_max = omega arith;
  nc_max = omega arith;
}

pub small_at : (kind : Kind) {s : Tiling} → s ≡ tiling_of kind → Small s
small_at kind e = rw e (kind_small kind)

-- the code's numbers: the least of a size and its chunk, rounded up, stay small
pub sides_max : (s : Tiling) → Small s → (m n : ℕ) → round_up (min m s.mc) s.mr + round_up (min n s.nc) s.nr ≤ 1100
sides_max s h m n =
    omega (
      arith,
      h.mr_max,
      h.nr_max,
      h.mc_max,
      h.nc_max,
      round_lt (min m s.mc) s.mr h.mr_some,
      round_lt (min n s.nc)
          s.nr h.nr_some,
      min-le_right m s.mc,
      min-le_right n s.nc,
    )

pub packed_max : (s : Tiling) → Small s → (kc m k n : ℕ) → kc ≤ 256 → need_some s kc m k n ≤ 281600
packed_max s h kc m k n l = mul-le-mul (le_trans (min-le_right k kc) l) (sides_max s h m n)

-- ---- one answer

one_need : (m k n : ℕ) → One (NeedSays m k n)
one_need m k n = (first_stage (Large m k n) 1 (omega arith)).one done one_done

pub answer_large : (kind : Kind) (m k n : ℕ) → Large m k n → PackLengthIs kind m k n (Err TooLarge)
answer_large kind m k n h = inl (h, refl)

pub answer_length : (kind : Kind) (m k n x : ℕ) → (Large m k n → ⊥) → x ≡ need_of (tiling_of kind) depth_chunk m k n
    → PackLengthIs kind m k n (Ok x)
answer_length kind m k n x f e = (inr (f, refl), e)

-- any two answers that the contract allows are equal
pub pack_length_same : (kind : Kind) (m k n : ℕ) (r r' : Result ℕ Refusal) → PackLengthIs kind m k n r → PackLengthIs kind m k n r' → r ≡ r'
pack_length_same kind m k n (Ok x) (Ok y) p q = ap Ok (p.1 ∙ sym q.1)
pack_length_same kind m k n (Ok x) (Err y) p q = absurd (refusal_not_zero y (one_need m k n (number_of y) 0 q p.0))
pack_length_same kind m k n (Err x) (Ok y) p q = absurd (refusal_not_zero x (one_need m k n (number_of x) 0 p q.0))
pack_length_same kind m k n (Err x) (Err y) p q = ap Err (same_refusal x y (one_need m k n (number_of x) (number_of y) p q))

-- ---- examples of the need

need_example : need_of (tiling_of F32) depth_chunk 9 300 5 ≡ 6144
unfolding need_of round_up
need_example = refl

largest_real : need_of (tiling_of F32) depth_chunk 65536 65536 65536 ≡ 278528
unfolding need_of round_up
largest_real = refl

largest_complex : need_of (tiling_of C32) depth_chunk 65536 65536 65536 ≡ 139264
unfolding need_of round_up
largest_complex = refl
