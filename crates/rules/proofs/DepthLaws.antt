-- The chunked element over a depth that is cut at a multiple of the chunk length. Assumes nothing.
use Prim.Native.Nat.{ℕ, zero, suc, ◌+◌, ◌-◌, ◌*◌, ◌≤◌, ◌<◌}
use Rattle.std.specs.Prelude.{◌≡◌, true, false}
use Rattle.std.proofs.Math.Path.{refl}
use Rattle.std.proofs.Common.{ap, ◌∙◌, add_assoc}
use Rattle.std.proofs.Math.Nat.{add-suc, add-zero, suc-mul, zero-mul, add-mul, mul-le-mul_right, mul-add-div_right, div-eq_of_lt}
use native.Mathlib.Omega.{arith}
use Rattle.rules.specs.Element.{Arith, overwrite, times, fate, chunk_sum, multiplier, chunks, chunk_length, after, element}

-- the element after all chunks of the depth k: old itself where k is zero
unfoldable pub gathered : (ar : Arith) (kc : ℕ) (alpha beta : ar.E) (a b : ℕ → ar.E) → ℕ → ar.E → ar.E
unfolding after chunks
gathered ar kc alpha beta a b k old = after ar kc alpha beta a b k (chunks kc k) old

-- a row read from depth s on
abbrev pub from : {E : Type 0} → ℕ → (ℕ → E) → ℕ → E
from s a p = a (s + p)

chunks_add : (kc : ℕ) → 0 < kc → (q d : ℕ) → chunks kc (q * kc + d) ≡ q + chunks kc d
unfolding chunks
chunks_add kc h q d = rw add_assoc (mul-add-div_right h q (d + (kc - 1)))

chunks_full : (kc : ℕ) → 0 < kc → (q : ℕ) → chunks kc (q * kc) ≡ q
unfolding chunks
chunks_full kc h q = mul-add-div_right h q (kc - 1) ∙ ap (λ (x : ℕ). q + x) (div-eq_of_lt (omega arith)) ∙ add-zero q

pub chunks_none : (kc : ℕ) → 0 < kc → chunks kc 0 ≡ 0
unfolding chunks
chunks_none kc h = div-eq_of_lt (omega arith)

module _ (ar : Arith) where
  chunk_sum_from : (a b : ℕ → ar.E) (s t len : ℕ) → chunk_sum ar a b (s + t) len ≡ chunk_sum ar (from s a) (from s b) t len
  unfolding chunk_sum
  chunk_sum_from a b s t zero = refl
  chunk_sum_from a b s t (suc len) =
      λ i. ar.step (chunk_sum_from a b s t len i) (a (add_assoc s t len i)) (b (add_assoc s t len i))

  multiplier_add : (beta : ar.E) (q t : ℕ) → multiplier ar beta (q + t) ≡ multiplier ar (multiplier ar beta q) t
  unfolding multiplier
  multiplier_add beta q zero = rw add-zero
  multiplier_add beta q (suc t) = rw add-suc

  pub multiplier_later : (beta : ar.E) (t : ℕ) → 0 < t → multiplier ar beta t ≡ ar.one
  unfolding multiplier
  multiplier_later beta zero h = let z : ⊥ = omega arith in absurd z
  multiplier_later beta (suc t) h = refl

  -- the chunk is the first exactly where the depth step is
  pub multiplier_start : (beta : ar.E) (q kc : ℕ) → 0 < kc → multiplier ar beta (q * kc) ≡ multiplier ar beta q
  unfolding multiplier
  multiplier_start beta zero kc h = rw zero-mul
  multiplier_start beta (suc q) kc h = multiplier_later beta (suc q * kc) (omega (arith, suc-mul q kc))

module _ (ar : Arith) (kc : ℕ) (alpha : ar.E) (beta : ar.E) (a b : ℕ → ar.E) (q d : ℕ) where
  full_chunk : (t : ℕ) → t < q → chunk_length kc (q * kc + d) t ≡ chunk_length kc (q * kc) t
  unfolding chunk_length
  full_chunk t h = omega (arith, mul-le-mul_right kc h, suc-mul t kc)

  after_head : (t : ℕ) (old : ar.E) → t ≤ q → after ar kc alpha beta a b (q * kc + d) t old ≡ after ar kc alpha beta a b (q * kc) t old
  unfolding after
  after_head zero old h = refl
  after_head (suc t) old h = rw (full_chunk t h, after_head t old (omega arith))

  later_chunk : (t : ℕ) → chunk_length kc (q * kc + d) (q + t) ≡ chunk_length kc d t
  unfolding chunk_length
  later_chunk t = omega (arith, add-mul q t kc)

  after_tail : (t : ℕ) (old : ar.E)
      → after ar kc alpha beta a b (q * kc + d) (q + t) old
      ≡ after ar kc alpha (multiplier ar beta q) (from (q * kc) a) (from (q * kc) b) d t (after ar kc alpha beta a b (q * kc + d) q old)
  unfolding after
  after_tail zero old = rw add-zero
  after_tail (suc t) old =
      rw (add-suc, later_chunk t, multiplier_add ar beta q t, add-mul, chunk_sum_from ar a b (q * kc) (t * kc), after_tail t old)

  -- THE KEY LEMMA: the depth q * kc + d is the depth d over what the depth q * kc left
  pub gathered_cut : (old : ar.E) → 0 < kc
      → gathered ar kc alpha beta a b (q * kc + d) old
      ≡ gathered ar kc alpha (multiplier ar beta q) (from (q * kc) a) (from (q * kc) b) d (gathered ar kc alpha beta a b (q * kc) old)
  unfolding gathered
  gathered_cut old h =
      rw (chunks_add kc h q d, chunks_full kc h q, after_tail (chunks kc d) old, after_head q old (omega arith))

pub gathered_none : (ar : Arith) (kc : ℕ) (alpha beta : ar.E) (a b : ℕ → ar.E) (x : ar.E) → 0 < kc
    → gathered ar kc alpha beta a b 0 x ≡ x
unfolding gathered after
gathered_none ar kc alpha beta a b x h = rw (chunks_none kc h, after)

pub element_gathered : (ar : Arith) (kc : ℕ) (alpha beta : ar.E) (a b : ℕ → ar.E) (k : ℕ) (x : ar.E) → 0 < k
    → element ar kc alpha beta a b k x ≡ gathered ar kc alpha beta a b k x
unfolding element gathered
element_gathered ar kc alpha beta a b zero x h = let z : ⊥ = omega arith in absurd z
element_gathered ar kc alpha beta a b (suc k) x h = refl

-- a fate read off the test
module _ (ar : Arith) where
  pub fate_zero : (beta : ar.E) → ar.is_zero beta ≡ true → overwrite ≡ fate ar beta
  unfolding fate
  fate_zero beta e = rw (e, fate)

  pub fate_other : (beta : ar.E) → ar.is_zero beta ≡ false → times beta ≡ fate ar beta
  unfolding fate
  fate_other beta e = rw (e, fate)
