-- The code's numbers and its choice for old C stand for the definition's and lose nothing on the way, in any kind. Assumes nothing.
use Rattle.std.specs.Prelude.{◌≡◌, refl, Float}
use Rattle.std.proofs.Common.{sym, ap, ◌∙◌}
use Rattle.rules.specs.Element.{Complex, Fate, overwrite, times}
use Rattle.rules.specs.Held.{Held, float}
use Rattle.element.specs.Fates.{fate_of}
use Rattle.element.specs.Numbers.{complex_held}
use Rattle.element.specs.declared.complex.Complex.{Complex as code-complex}
use Rattle.element.specs.declared.fate.Fate as code
use Rattle.element.specs.declared.fate.Fate.TheVariants.{Overwrite, Times}

-- the code's choice, from the definition's
pub fate_from : {E N : Type 0} → (E → N) → Fate E → code.Fate N
fate_from of overwrite = Overwrite
fate_from of (times x) = Times (of x)

module _ {E N : Type 0} (h : Held E N) (kept : (x : N) → h.of (h.is x) ≡ x) where
  -- a promise about a number settles the code's number: two that it cannot tell apart are equal
  pub number_same : (x y : N) → h.is x ≡ h.is y → x ≡ y
  number_same x y e = sym (kept x) ∙ ap h.of e ∙ kept y

  -- there and back is the same choice
  pub fate_back : (f : code.Fate N) → fate_from h.of (fate_of h.is f) ≡ f
  unfolding fate_from
  fate_back Overwrite = refl
  fate_back (Times x) = ap (λ (y : N). Times y) (kept x)

  -- a promise about fate_of settles the code's choice: two that it cannot tell apart are equal
  pub fate_same : (f g : code.Fate N) → fate_of h.is f ≡ fate_of h.is g → f ≡ g
  fate_same f g e = sym (fate_back f) ∙ ap (fate_from h.of) e ∙ fate_back g

-- there and back is the same complex number, where it is the same real
pub complex_back : {N : Type 0} (h : Held Float N) → ((x : N) → h.of (h.is x) ≡ x) → (z : code-complex N)
    → (complex_held h).of ((complex_held h).is z) ≡ z
complex_back h kept z = λ i. record { re = kept z.re i; im = kept z.im i }

-- a complex number of the code, from the definition's
abbrev pub number_from : Complex → code-complex Float
number_from = (complex_held float).of

-- the same of the code's complex numbers, f32 or f64, which are pairs of floats
pub number_back : (z : code-complex Float) → number_from ((complex_held float).is z) ≡ z
number_back z = refl

pub complex_same : (z w : code-complex Float) → (complex_held float).is z ≡ (complex_held float).is w → z ≡ w
complex_same = number_same (complex_held float) number_back

-- and of the code's choice in the real kinds and in the complex ones
pub real_fate_back : (f : code.Fate Float) → fate_from float.of (fate_of float.is f) ≡ f
real_fate_back = fate_back float (λ x. refl)

pub real_fate_same : (f g : code.Fate Float) → fate_of float.is f ≡ fate_of float.is g → f ≡ g
real_fate_same = fate_same float (λ x. refl)

pub complex_fate_back : (f : code.Fate (code-complex Float)) → fate_from number_from (fate_of (complex_held float).is f) ≡ f
complex_fate_back = fate_back (complex_held float) number_back

pub complex_fate_same : (f g : code.Fate (code-complex Float))
    → fate_of (complex_held float).is f ≡ fate_of (complex_held float).is g → f ≡ g
complex_fate_same = fate_same (complex_held float) number_back
