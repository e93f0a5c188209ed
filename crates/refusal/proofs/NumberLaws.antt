-- A number is one refusal's only, and none is 0. Assumes nothing.
use Rattle.std.specs.Prelude.{ℕ, ◌<◌, cond, ◌≡◌, refl, eqb}
use Rattle.std.proofs.Common.{sym, ap, ◌∙◌, arith}
use Rattle.refusal.specs.declared.Refusal.{Refusal}
use Rattle.refusal.specs.declared.Refusal.TheVariants.{
  TooLarge,
  TooFar,
  OutsideC,
  CollidesC,
  OutsideA,
  OutsideB,
  PackShort,
  FileShort,
  WrongMark,
  UnknownVersion,
  WrongKind,
  WrongLength,
  NoRoom,
  OutsidePanel,
}
use Rattle.refusal.specs.Numbers.{number_of}

-- the refusal of a number
unfoldable pub refusal_of : ℕ → Refusal
refusal_of r =
    cond (eqb r 1) TooLarge (
    cond (eqb r 2) TooFar (
    cond (eqb r 3) OutsideC (
    cond (eqb r 4) CollidesC (
    cond (eqb r 5) OutsideA (
    cond (eqb r 6) OutsideB (
    cond (eqb r 7) PackShort (
    cond (eqb r 21) FileShort (
    cond (eqb r 22) WrongMark (
    cond (eqb r 23) UnknownVersion (
    cond (eqb r 24) WrongKind (
    cond (eqb r 25) WrongLength (
    cond (eqb r 26) NoRoom OutsidePanel))))))))))))

back : (x : Refusal) → refusal_of (number_of x) ≡ x
unfolding refusal_of
back TooLarge = refl
back TooFar = refl
back OutsideC = refl
back CollidesC = refl
back OutsideA = refl
back OutsideB = refl
back PackShort = refl
back FileShort = refl
back WrongMark = refl
back UnknownVersion = refl
back WrongKind = refl
back WrongLength = refl
back NoRoom = refl
back OutsidePanel = refl

pub same_refusal : (x y : Refusal) → number_of x ≡ number_of y → x ≡ y
same_refusal x y e = sym (back x) ∙ ap refusal_of e ∙ back y

pub refusal_some : (x : Refusal) → 0 < number_of x
refusal_some TooLarge = omega arith
refusal_some TooFar = omega arith
refusal_some OutsideC = omega arith
refusal_some CollidesC = omega arith
refusal_some OutsideA = omega arith
refusal_some OutsideB = omega arith
refusal_some PackShort = omega arith
refusal_some FileShort = omega arith
refusal_some WrongMark = omega arith
refusal_some UnknownVersion = omega arith
refusal_some WrongKind = omega arith
refusal_some WrongLength = omega arith
refusal_some NoRoom = omega arith
refusal_some OutsidePanel = omega arith

pub refusal_not_zero : (x : Refusal) → number_of x ≡ 0 → ⊥
refusal_not_zero x e = omega (arith, refusal_some x)
