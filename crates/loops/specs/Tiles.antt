-- Lines of numbers as the code holds them, and a tile while it is summed. Definitions only.
use Rattle.std.specs.Prelude.{ℕ, List, [], cond, ltb, get_or}
use Rattle.rules.specs.Element.{Arith, chunk_sum}
use Rattle.rules.specs.Held.{Held}
use Rattle.rules.specs.Lists.{tab}

-- g below n, and +0 from n on
abbrev pub up_to : (ar : Arith) → ℕ → (ℕ → ar.E) → ℕ → ar.E
up_to ar n g k = cond (ltb k n) (g k) ar.nought

module _ {E N : Type 0} (held : Held E N) where
  -- number k of a line, which is a row or a column; a line of n numbers; h lines of n; number k of line l
  abbrev pub at : List N → ℕ → E
  at x k = held.is (get_or x k held.none)

  abbrev pub line : ℕ → (ℕ → E) → List N
  line n g = tab n (λ k. held.of (g k))

  abbrev pub lines : ℕ → ℕ → (ℕ → ℕ → E) → List (List N)
  lines h n g = tab h (λ l. line n (g l))

  abbrev pub cell : List (List N) → ℕ → ℕ → E
  cell t l k = at (get_or t l []) k

module _ {N : Type 0} (ar : Arith) (held : Held ar.E N) (h w : ℕ) where
  -- w columns of h numbers
  abbrev pub columns : (ℕ → ℕ → ar.E) → List (List N)
  columns g = lines held w h (λ j i. g i j)

  -- the columns with one depth step added: x is A by lane, y is B by lane
  unfoldable pub stepped : List (List N) → (ℕ → ar.E) → (ℕ → ar.E) → List (List N)
  stepped t x y = columns (λ i j. ar.step (cell held t j i) (x i) (y j))

  -- the columns after n depth steps: a and b by lane and depth
  unfoldable pub summed : (ℕ → ℕ → ar.E) → (ℕ → ℕ → ar.E) → ℕ → List (List N)
  unfolding chunk_sum
  summed a b n = columns (λ i j. chunk_sum ar (a i) (b j) 0 n)
