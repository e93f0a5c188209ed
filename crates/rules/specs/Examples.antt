-- The examples P1 to P12 by arithmetic, each proved against the definition. Assumes nothing.
use Rattle.std.specs.Prelude.{ℕ, true, false, cond, ◌≡◌, refl, List, [], ◌∷◌, ◌++◌, leb, eqb, pos, Float}
use Rattle.std.specs.Float.{nan, inf, fin, Format}
use Rattle.std.specs.Float.Ieee.{binary32, binary64, eq, mul, add, sub, neg}
use Rattle.rules.specs.Element.{Arith, element, real, complex, Complex, +0, +1}

-- one element: its row of A and column of B by depth, and C before and after
pub record Row (ar : Arith) : Type 0 where
  pub k : ℕ
  pub a : ℕ → ar.E
  pub b : ℕ → ar.E
  pub alpha : ar.E
  pub beta : ar.E
  pub old : ar.E
  pub new : ar.E

infixl 80 ◌×2^◌
infixl 70 ◌+i◌
-- m * 2 ^ e, for an odd m
abbrev pub ◌×2^◌ : ℕ → ℕ → Float
◌×2^◌ m e = fin false m (pos e)

abbrev pub -0 : Float
-0 = fin true 0 (pos 0)

abbrev pub always : {E : Type 0} → E → ℕ → E
always x p = x

-- both real kinds: P1 to P5, P10
unfoldable pub reals : (f : Format) → List (Row (real f))
reals f =
    record { k = 1; a = always (3 ×2^ 0); b = always (5 ×2^ 0); alpha = 1 ×2^ 1; beta = +0; old = nan; new = 15 ×2^ 1 }  -- P1
    ∷ record { k = 1; a = always (3 ×2^ 0); b = always (5 ×2^ 0); alpha = 1 ×2^ 1; beta = -0; old = inf false; new = 15 ×2^ 1 }  -- P2
    ∷ record { k = 1; a = always (3 ×2^ 0); b = always (5 ×2^ 0); alpha = 1 ×2^ 1; beta = +1; old = +1; new = 31 ×2^ 0 }  -- P3
    ∷ record { k = 0; a = always nan; b = always nan; alpha = +1; beta = +0; old = nan; new = +0 }  -- P4
    ∷ record { k = 0; a = always nan; b = always nan; alpha = +1; beta = 1 ×2^ 1; old = 3 ×2^ 0; new = 3 ×2^ 1 }  -- P5
    ∷ record { k = 1; a = always (inf false); b = always +1; alpha = +0; beta = +0; old = +1; new = nan }  -- P10
    ∷ []

-- 16777216 at depth 0, ones from depth `from` on, zeros between
abbrev pub big_then_ones : ℕ → ℕ → Float
big_then_ones from p = cond (eqb p 0) (1 ×2^ 24) (cond (leb from p) +1 +0)

-- f32 only: P6 to P8
unfoldable pub singles : List (Row (real binary32))
singles =
    record { k = 3; a = big_then_ones 1; b = always +1; alpha = +1; beta = +0; old = nan; new = 1 ×2^ 24 }  -- P6
    ∷ record { k = 258; a = big_then_ones 256; b = always +1; alpha = +1; beta = +0; old = nan; new = 8388609 ×2^ 1 }  -- P7
    ∷ record { k = 257; a = big_then_ones 255; b = always +1; alpha = +1; beta = +0; old = nan; new = 1 ×2^ 24 }  -- P8
    ∷ []

-- f64 only: P9
unfoldable pub doubles : List (Row (real binary64))
doubles =
    record { k = 257; a = always +1; b = always +1; alpha = +1; beta = 1 ×2^ 1; old = 3 ×2^ 0; new = 263 ×2^ 0 }  -- P9
    ∷ []

abbrev pub ◌+i◌ : Float → Float → Complex
◌+i◌ x y = record { re = x; im = y }

-- both complex kinds: P11, P12
unfoldable pub pairs : (f : Format) → List (Row (complex f))
pairs f =
    record {
      k = 1;
      a = always (+1 +i (1 ×2^ 1));
      b = always ((3 ×2^ 0) +i (1 ×2^ 2));
      alpha = +0 +i +1;
      beta = +0 +i +0;
      old = nan +i nan;
      new = (fin true 5 (pos 1)) +i (fin true 5 (pos 0));
    }  -- P11
    ∷ record {
      k = 0;
      a = always (nan +i nan);
      b = always (nan +i nan);
      alpha = +1 +i +0;
      beta = +1 +i +0;
      old = +0 +i (inf false);
      new = nan +i (inf false);
    }  -- P12
    ∷ []

abbrev pub Agrees : (ar : Arith) → ℕ → List (Row ar) → Type 0
Agrees ar kc [] = Unit {0}
Agrees ar kc (r ∷ rs) = (element ar kc r.alpha r.beta r.a r.b r.k r.old ≡ r.new) × Agrees ar kc rs

-- EVERY ROW AGREES WITH THE DEFINITION, at chunks of 256
pub f32_agrees : unfold reals singles in Agrees (real binary32) 256 (reals binary32 ++ singles)
unfolding element reals singles eq mul add sub neg
f32_agrees = (refl, (refl, (refl, (refl, (refl, (refl, (refl, (refl, (refl, tt)))))))))

pub f64_agrees : unfold reals doubles in Agrees (real binary64) 256 (reals binary64 ++ doubles)
unfolding element reals doubles eq mul add sub neg
f64_agrees = (refl, (refl, (refl, (refl, (refl, (refl, (refl, tt)))))))

pub c32_agrees : unfold pairs in Agrees (complex binary32) 256 (pairs binary32)
unfolding element pairs eq mul add sub neg
c32_agrees = (refl, (refl, tt))

pub c64_agrees : unfold pairs in Agrees (complex binary64) 256 (pairs binary64)
unfolding element pairs eq mul add sub neg
c64_agrees = (refl, (refl, tt))
