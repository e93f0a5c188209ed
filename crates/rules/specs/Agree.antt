-- The element is made from the depths below k of its row and its column, and from nothing else. Assumes nothing.
use Prim.Native.Nat.{ℕ, zero, suc, ◌+◌, ◌-◌, ◌*◌, ◌<◌, min}
use Rattle.std.specs.Prelude.{◌≡◌}
use Rattle.std.proofs.Math.Path.{refl}
use Rattle.std.proofs.Common.{arith}
use Rattle.rules.specs.Element.{Arith, chunk_sum, chunks, chunk_length, after, element}

module _ (ar : Arith) where
  -- the sum over a chunk, read from anywhere (the packed panels, say)
  pub chunk_sum_agree : (a b c d : ℕ → ar.E) (s t len : ℕ) → ((p : ℕ) → p < len → (a (s + p) ≡ c (t + p)) × (b (s + p) ≡ d (t + p)))
      → chunk_sum ar a b s len ≡ chunk_sum ar c d t len
  unfolding chunk_sum
  chunk_sum_agree a b c d s t zero h = refl
  chunk_sum_agree a b c d s t (suc len) h =
      let e = h len (omega arith) in
      λ i. ar.step (chunk_sum_agree a b c d s t len (λ p l. h p (omega arith)) i) (e.0 i) (e.1 i)

module _ (ar : Arith) (kc : ℕ) (alpha beta : ar.E) (a b c d : ℕ → ar.E) (k : ℕ) (h : (p : ℕ) → p < k → (a p ≡ c p) × (b p ≡ d p)) where
  sum_agree : (t : ℕ) → chunk_sum ar a b (t * kc) (chunk_length kc k t) ≡ chunk_sum ar c d (t * kc) (chunk_length kc k t)
  unfolding chunk_length
  sum_agree t = chunk_sum_agree ar a b c d (t * kc) (t * kc) (min kc (k - t * kc)) (λ p l. h (t * kc + p) (omega arith))

  after_agree : (t : ℕ) (x : ar.E) → after ar kc alpha beta a b k t x ≡ after ar kc alpha beta c d k t x
  unfolding after
  after_agree zero x = refl
  after_agree (suc t) x = rw (sum_agree t, after_agree t x)

pub element_agree : (ar : Arith) (kc : ℕ) (alpha beta : ar.E) (a b c d : ℕ → ar.E) (k : ℕ) (x : ar.E)
    → ((p : ℕ) → p < k → (a p ≡ c p) × (b p ≡ d p)) → element ar kc alpha beta a b k x ≡ element ar kc alpha beta c d k x
unfolding element
element_agree ar kc alpha beta a b c d zero x h = refl
element_agree ar kc alpha beta a b c d (suc k) x h = after_agree ar kc alpha beta a b c d (suc k) h (chunks kc (suc k)) x
