-- Laws of `Tells`, and what is left where a test found nothing. Assumes nothing.
use Rattle.std.specs.Prelude.{◌≡◌, ℕ, ◌<◌, ◌≤◌, Bool, true, false, ◌⊎◌, ℤ, pos, negsuc, nat_abs, nat_lt}
use Rattle.std.proofs.Common.{sym, subst, inl, inr, arith, ltb-true, ltb-false}
use Rattle.std.proofs.Math.Decide.{dec_lt, ℕ_discrete}
use Rattle.layout.specs.declared.operand.Operand.{Operand}
use Rattle.layout.specs.Place.{place_of, Outside, SomeOutside, TwoMeet, Long}
use Rattle.layout.specs.Operands.{Tells, Inside, AllInside, NoneMeet, Modest}
use Rattle.layout.specs.Need.{Large}

-- ---- a test that tells

IsTrue : Bool → Type 0
IsTrue true = Unit {0}
IsTrue false = ⊥

pub true_false {ℓ} : {X : Type ℓ} → true ≡ false → X
unfolding IsTrue
true_false e = absurd (subst IsTrue e tt)

pub tells_by : (b : Bool) {P : Type 0} → (b ≡ true → P) → (b ≡ false → P → ⊥) → Tells b P
tells_by b f g = record { if_true = f; if_false = g }

pub tells_true : {P : Type 0} → P → Tells true P
tells_true x = record { if_true = λ e. x; if_false = λ e. true_false e }

pub tells_false : {P : Type 0} → (P → ⊥) → Tells false P
tells_false f = record { if_true = λ e. true_false (sym e); if_false = λ e. f }

-- a comparison of the code that is P
pub tells_above : {x y : ℕ} {P : Type 0} → (x < y → P) → (P → x < y) → Tells (nat_lt x y) P
tells_above {x} {y} to back = tells_by (nat_lt x y) (λ t. to (ltb-true x y t)) (λ t p. omega (arith, ltb-false x y t, back p))

-- ---- outside or inside

in_out : (len : ℕ) (z : ℤ) → Outside len z → Inside len z → ⊥
unfolding Outside Inside
in_out len (pos n) o i = omega arith
in_out len (negsuc n) o i = i

pub outside_or_inside : (m n : ℕ) (o : Operand) (len : ℕ) → SomeOutside m n o len → AllInside m n o len → ⊥
outside_or_inside m n o len s a = in_out len (place_of o s.i s.j) s.out (a s.i s.j s.i< s.j<)

not_outside : (len : ℕ) (z : ℤ) → (Outside len z → ⊥) → Inside len z
unfolding Outside Inside
not_outside len (pos k) f = go (dec_lt k len)
  where
    go : Dec (k < len) → k < len
    go (yes h) = h
    go (no h) = absurd (f (omega arith))
not_outside len (negsuc k) f = f tt

pub all_inside : (m n : ℕ) (o : Operand) (len : ℕ) → (SomeOutside m n o len → ⊥) → AllInside m n o len
all_inside m n o len f i j hi hj = not_outside len (place_of o i j) (λ out. f (record { i = i; j = j; i< = hi; j< = hj; out = out }))

-- no place at all
pub empty_inside : {m n : ℕ} {o : Operand} {len : ℕ} → (m ≡ 0) ⊎ (n ≡ 0) → SomeOutside m n o len → ⊥
empty_inside (inl e) s = omega (arith, s.i<)
empty_inside (inr e) s = omega (arith, s.j<)

-- ---- two that meet, or none

pub meet_or_apart : (m n : ℕ) (o : Operand) → TwoMeet m n o → NoneMeet m n o → ⊥
meet_or_apart m n o t f = t.differ (f t.i t.j t.i' t.j' t.i< t.j< t.i'< t.j'< t.meet)

pub none_meet : (m n : ℕ) (o : Operand) → (TwoMeet m n o → ⊥) → NoneMeet m n o
none_meet m n o f i j i' j' hi hj hi' hj' e = go (ℕ_discrete i i') (ℕ_discrete j j')
  where
    two : ((i ≡ i') × (j ≡ j') → ⊥) → ⊥
    two d = f (record { i = i; j = j; i' = i'; j' = j'; i< = hi; j< = hj; i'< = hi'; j'< = hj'; differ = d; meet = e })

    go : Dec (i ≡ i') → Dec (j ≡ j') → (i ≡ i') × (j ≡ j')
    go (yes p) (yes q) = (p, q)
    go (no p) q = absurd (two (λ d. p d.0))
    go (yes p) (no q) = absurd (two (λ d. q d.1))

pub empty_apart : {m n : ℕ} {o : Operand} → (m ≡ 0) ⊎ (n ≡ 0) → TwoMeet m n o → ⊥
empty_apart (inl e) t = omega (arith, t.i<)
empty_apart (inr e) t = omega (arith, t.j<)

-- ---- sizes and strides

pub not_above : (bound x : ℕ) → (bound < x → ⊥) → x ≤ bound
not_above bound x f = go (dec_lt bound x)
  where
    go : Dec (bound < x) → x ≤ bound
    go (yes h) = absurd (f h)
    go (no h) = omega arith

pub not_large : {m k n : ℕ} → (Large m k n → ⊥) → (m ≤ 65536) × (k ≤ 65536) × (n ≤ 65536)
not_large {m} {k} {n} f =
    (not_above 65536 m (λ h. f (inl h)), not_above 65536 k (λ h. f (inr (inl h))), not_above 65536 n (λ h. f (inr (inr h))))

pub none_large : {m k n : ℕ} → m ≤ 65536 → k ≤ 65536 → n ≤ 65536 → Large m k n → ⊥
none_large hm hk hn (inl x) = omega arith
none_large hm hk hn (inr (inl x)) = omega arith
none_large hm hk hn (inr (inr x)) = omega arith

-- a last test, where the sizes before are not above
pub tells_large : {m k n : ℕ} → m ≤ 65536 → k ≤ 65536 → Tells (nat_lt 65536 n) (Large m k n)
tells_large {m} {k} {n} hm hk = tells_above (λ h. inr (inr h)) last
  where
    last : Large m k n → 65536 < n
    last (inl x) = omega arith
    last (inr (inl x)) = omega arith
    last (inr (inr x)) = x

-- what the two tests leave
pub modest : {m n : ℕ} (o : Operand) → m ≤ 65536 → n ≤ 65536 → (Long m n o → ⊥) → Modest m n o
modest o hm hn f = record {
  m_max = hm;
  n_max = hn;
  rs_max = λ two. not_above 2147483648 (nat_abs o.rs) (λ h. f (inl (two, h)));
  cs_max = λ two. not_above 2147483648 (nat_abs o.cs) (λ h. f (inr (two, h)));
}
