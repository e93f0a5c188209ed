-- One element stored: one float of a real kind, two of a complex one, and an element of a matrix. Assumes nothing.
use Rattle.std.specs.Prelude.{ℕ, ◌+◌, ◌*◌, ◌<◌, ◌≡◌, List, length, set, Float}
use Rattle.std.proofs.Common.{sym, ◌∙◌, arith, length-set, get_or-set_same, get_or-set_other}
use Rattle.std.specs.Float.{nan}
use Rattle.rules.specs.Element.{Complex}
use Rattle.rules.specs.Slice.{View, Updated, real_view, complex_view, Region}
use Rattle.rules.specs.Stores.{Stored}

pub stored_float : (C : List Float) (at : ℕ) (x : Float) → at < length C → Stored real_view at x C (set C at x)
stored_float C at x h = record {
  same_length = length-set C at x;
  inside = λ i j o. get_or-set_same C at x nan h;
  outside = λ t n. get_or-set_other C at t x nan (λ e. n 0 0 (omega arith) (sym e));
}

pub stored_pair : (C : List Float) (at : ℕ) (z : Complex) → at * 2 + 1 < length C
    → Stored complex_view at z C (set (set C (at * 2) z.re) (at * 2 + 1) z.im)
stored_pair C at z h = record {
  same_length = simp length-set;
  inside = λ i j o. λ s. record {
    re = (get_or-set_other (set C (at * 2) z.re) (at * 2 + 1) (at * 2) z.im nan (λ e. omega arith)
        ∙ get_or-set_same C (at * 2) z.re nan (omega arith)) s;
    im = get_or-set_same (set C (at * 2) z.re) (at * 2 + 1) z.im nan (rw (length-set C (at * 2) z.re) h) s;
  };
  outside = λ t n.
      get_or-set_other (set C (at * 2) z.re) (at * 2 + 1) t z.im nan (λ e. n 0 0 (omega arith) (omega arith))
      ∙ get_or-set_other C (at * 2) t z.re nan (λ e. n 0 0 (omega arith) (omega arith));
}

-- the element (i, j) of a matrix, stored at its place
pub stored_place : {E : Type 0} (v : View E) (place : ℕ → ℕ → ℕ) (i j : ℕ) (f : ℕ → ℕ → E → E) {C D : List Float} {at : ℕ} {x : E}
    → at ≡ place i j → x ≡ f i j (v.get C at) → Stored v at x C D → Updated v place (Region i 1 j 1) f C D
stored_place v place i j f {C} {D} {at} {x} e g u = record {
  same_length = u.same_length;
  inside = λ k l o. there k l (omega arith) (omega arith);
  outside = λ t n. u.outside t (λ k l o w. n i j (omega arith) (sym e ∙ w));
}
  where
    there : (k l : ℕ) → k ≡ i → l ≡ j → v.get D (place k l) ≡ f k l (v.get C (place k l))
    there k l p q = rw (p, q, ← e, ← g) (u.inside 0 0 (omega arith))
