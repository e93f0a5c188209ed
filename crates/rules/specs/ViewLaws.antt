-- An element is its floats, no more and no less, in both views. Assumes nothing.
use Rattle.std.specs.Prelude.{ℕ, zero, suc, ◌+◌, ◌*◌, ◌/◌, ◌%◌, ◌<◌, ◌≡◌, refl, List, get_or, Float}
use Rattle.std.proofs.Common.{ap, arith}
use Rattle.std.specs.Float.{nan}
use Rattle.rules.specs.Element.{Complex}
use Rattle.rules.specs.Slice.{View, real_view, complex_view}

pub record Lawful {E : Type 0} (v : View E) : Type 0 where
  -- elements whose floats are equal are equal, and the other way round
  pub together : (C D : List Float) (e : ℕ) → ((t : ℕ) → v.owner t ≡ e → get_or C t nan ≡ get_or D t nan) → v.get C e ≡ v.get D e
  pub apiece : (C D : List Float) (t : ℕ) → v.get C (v.owner t) ≡ v.get D (v.owner t) → get_or C t nan ≡ get_or D t nan
  -- the floats of a whole element are in the slice
  pub whole : (floats t : ℕ) → v.owner t < v.count floats → t < floats

pub real_lawful : Lawful real_view
real_lawful = record { together = λ C D e h. h e refl; apiece = λ C D t h. h; whole = λ floats t h. h }

pub complex_lawful : Lawful complex_view
complex_lawful = record {
  together = λ C D e h. λ i. record { re = h (e * 2) (omega arith) i; im = h (e * 2 + 1) (omega arith) i };
  apiece = λ C D t h. half C D t (t % 2) refl h;
  whole = λ floats t h. omega arith;
}
  where
    half : (C D : List Float) (t r : ℕ) → t % 2 ≡ r → complex_view.get C (t / 2) ≡ complex_view.get D (t / 2)
        → get_or C t nan ≡ get_or D t nan
    half C D t zero e h = let s : t / 2 * 2 ≡ t = omega arith in rw s at (ap (λ (x : Complex). x.re) h)
    half C D t (suc r) e h = let s : t / 2 * 2 + 1 ≡ t = omega arith in rw s at (ap (λ (x : Complex). x.im) h)
