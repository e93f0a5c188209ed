-- Arrays of one number, and the room that arrays of arrays take. Assumes nothing.
use Rattle.std.specs.Prelude.{◌≡◌, refl, ℕ, suc, zero, ◌*◌, ◌<◌, List, ◌∷◌, get_or}
use Rattle.std.proofs.Common.{ap, ◌∙◌, sym, mul_assoc, mul_comm}
use Rattle.std.proofs.Math.ListN.{replicate}
use Rattle.std.specs.Prelude.{Float}
use Rattle.rules.specs.Element.{Complex}
use Rattle.rules.specs.Held.{Held}
use Rattle.rules.specs.Lists.{tab}
use Rattle.rules.specs.ListLaws.{get_or-tab, tab_ext}
use Rattle.loops.specs.Tiles.{at, line, lines}
use Rattle.kernel.specs.Parts.{both}

-- an array of h arrays of w takes as much as one of w arrays of h
pub room_turned : (h w s : ℕ) → h * (w * s) < 9223372036854775808 → w * (h * s) < 9223372036854775808
room_turned h w s l = rw (← mul_assoc w h s, mul_comm w h, mul_assoc h w s) l

replicate_tab : {A : Type 0} (n : ℕ) (x : A) → replicate n x ≡ tab n (λ k. x)
replicate_tab zero x = refl
replicate_tab {A} (suc n) x = ap (λ (l : List A). x ∷ l) (replicate_tab n x)

module _ {E N : Type 0} (held : Held E N) {x : E} {z : N} (back : held.of (held.is z) ≡ z) (e : held.is z ≡ x) where
  -- an array of one number, and an array of them
  pub line_of_one : (n : ℕ) → replicate n z ≡ line held n (λ k. x)
  line_of_one n = replicate_tab n z ∙ tab_ext n _ _ (λ k l. sym back ∙ ap held.of e)

  pub lines_of_one : (h n : ℕ) → replicate h (replicate n z) ≡ lines held h n (λ l k. x)
  lines_of_one h n = replicate_tab h (replicate n z) ∙ tab_ext h _ _ (λ l m. line_of_one n)

-- number k of a line, read by the code and by clauses
module _ {E N : Type 0} (held : Held E N) (n : ℕ) (g : ℕ → E) {x : List N} (e : x ≡ line held n g) (k : ℕ) (l : k < n) where
  pub line_read : (d : N) → held.is (get_or x k d) ≡ g k
  line_read d =
      ap (λ (y : List N). held.is (get_or y k d)) e ∙ ap held.is (get_or-tab n (λ k. held.of (g k)) k d l) ∙ held.back (g k)

  pub line_at : at held x k ≡ g k
  line_at = line_read held.none

-- reals and imaginaries that lie apart are those of the complex numbers
pub both_line : {N : Type 0} (held : Held Float N) (w : ℕ) (g : ℕ → Complex) {re im : List N}
    → re ≡ line held w (λ i. (g i).re) → im ≡ line held w (λ i. (g i).im) → (i : ℕ) → i < w → both held re im i ≡ g i
both_line held w g u v i h = λ k. record {
  re = line_at held w (λ i. (g i).re) u i h k;
  im = line_at held w (λ i. (g i).im) v i h k;
}
