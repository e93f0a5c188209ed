-- Laws of lines and of columns that are summed, for every kind and every tile size. Assumes nothing.
use Rattle.std.specs.Prelude.{ℕ, ◌+◌, ◌<◌, ◌≤◌, ◌≡◌, List, []}
use Rattle.std.proofs.Common.{sym, ◌∙◌, zero-add, add-one, lt-ltb, le-ltb}
use Rattle.std.proofs.Math.Path.{ap}
use Rattle.rules.specs.Element.{Arith, chunk_sum}
use Rattle.rules.specs.Held.{Held}
use Rattle.rules.specs.ListLaws.{get_or-tab, tab_ext}
use Rattle.loops.specs.Tiles.{up_to, at, line, lines, cell, columns, stepped, summed}
use Rattle.loops.specs.Panels.{padded}
use Rattle.loops.specs.Work.{part}

pub up_to_in : (ar : Arith) (n : ℕ) (g : ℕ → ar.E) (k : ℕ) → k < n → up_to ar n g k ≡ g k
up_to_in ar n g k l = rw (lt-ltb k n l)

pub up_to_past : (ar : Arith) (n : ℕ) (g : ℕ → ar.E) (k : ℕ) → n ≤ k → up_to ar n g k ≡ ar.nought
up_to_past ar n g k l = rw (le-ltb k n l)

-- ---- lines, and columns that are summed

module _ {E N : Type 0} (held : Held E N) (h n : ℕ) where
  pub lines_ext : (f g : ℕ → ℕ → E) → ((l k : ℕ) → l < h → k < n → f l k ≡ g l k) → lines held h n f ≡ lines held h n g
  lines_ext f g e = tab_ext h _ _ (λ l u. tab_ext n _ _ (λ k v. ap held.of (e l k u v)))

  -- number k of line l
  pub lines_at : (g : ℕ → ℕ → E) {t : List (List N)} (l k : ℕ) → l < h → k < n → t ≡ lines held h n g → cell held t l k ≡ g l k
  lines_at g l k u v e =
      ap (λ (c : List (List N)). cell held c l k) e
      ∙ ap (λ (x : List N). at held x k) (get_or-tab h (λ l. line held n (g l)) l [] u)
      ∙ ap held.is (get_or-tab n (λ k. held.of (g l k)) k held.none v) ∙ held.back (g l k)

module _ {N : Type 0} (ar : Arith) (held : Held ar.E N) (h w : ℕ) (a b : ℕ → ℕ → ar.E) where
  -- no step yet
  pub summed_none : {t : List (List N)} → t ≡ columns ar held h w (λ i j. ar.nought) → t ≡ summed ar held h w a b 0
  unfolding chunk_sum summed
  summed_none e = e

  -- one step more
  pub summed_more : (p : ℕ) {t r : List (List N)} (x y : ℕ → ar.E) → t ≡ summed ar held h w a b p
      → ((i : ℕ) → i < h → x i ≡ a i p) → ((j : ℕ) → j < w → y j ≡ b j p)
      → r ≡ stepped ar held h w t x y → r ≡ summed ar held h w a b (p + 1)
  unfolding chunk_sum stepped summed
  summed_more p x y e u s q =
      q ∙ rw (add-one p) (lines_ext held w h _ _ (λ j i m l. λ k. ar.step
      (lines_at held w h (λ j i. chunk_sum ar (a i) (b j) 0 p) j i m l e k)
      ((u i l ∙ ap (λ (d : ℕ). a i d) (sym (zero-add p))) k)
      ((s j m ∙ ap (λ (d : ℕ). b j d) (sym (zero-add p))) k)))

  -- alpha times the sums, and +0 from row n on
  pub summed_part : (kc n : ℕ) (alpha : ar.E) {t : List (List N)} → t ≡ summed ar held h w a b kc → (i j : ℕ) → i < h → j < w
      → padded ar n (λ i j. ar.mul alpha (cell held t j i)) i j ≡ padded ar n (part ar alpha a b kc) i j
  unfolding summed
  summed_part kc n alpha e i j l m =
      ap (λ (z : ar.E). up_to ar n (λ i. ar.mul alpha z) i) (lines_at held w h (λ j i. chunk_sum ar (a i) (b j) 0 kc) j i m l e)
