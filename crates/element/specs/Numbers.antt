-- Numbers of the code: a complex one over any real, and a slice of floats as it is.
use Rattle.std.specs.Prelude.{◌≡◌, refl, List, [], ◌∷◌, Float, map}
use Rattle.std.proofs.Common.{ap}
use Rattle.rules.specs.Element.{Complex}
use Rattle.rules.specs.Held.{Held}
use Rattle.element.specs.declared.complex.Complex.{Complex as code}

-- a complex number's parts are held as the real holds them
pub parts_back : {N : Type 0} (h : Held Float N) (z : Complex)
    → ◌≡◌ {A = Complex} (record { re = h.is (h.of z.re); im = h.is (h.of z.im) }) z
parts_back h z = rw (h.back z.re, h.back z.im)

abbrev pub complex_held : {N : Type 0} → Held Float N → Held Complex (code N)
complex_held h = record {
  none = record { re = h.none; im = h.none };
  is = λ z. record { re = h.is z.re; im = h.is z.im };
  of = λ z. record { re = h.of z.re; im = h.of z.im };
  back = parts_back h;
}

-- floats that are held as they are, one by one, are the list
pub as_it_is : (s : List Float) → s ≡ map (λ x. x) s
as_it_is [] = refl
as_it_is (x ∷ s) = ap (λ (t : List Float). x ∷ t) (as_it_is s)
