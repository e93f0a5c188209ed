-- Grids that there are, so that demand 3 is not about nothing: one cell uncut, one whose depth is cut, two cells mixed. Assumes nothing.
use Rattle.std.specs.Prelude.{ℕ, zero, suc, ◌+◌, ◌*◌, ◌/◌, ◌%◌, ◌<◌, ◌≡◌, refl}
use Rattle.std.proofs.Common.{arith}
use Rattle.rules.specs.Grid.{Cut, Multiples, Grid}

-- ---- cuts

-- the edges of what is cut nowhere, and of what is cut at x
abbrev edges_uncut : ℕ → ℕ → ℕ
edges_uncut m zero = 0
edges_uncut m (suc y) = m

abbrev edges_at : ℕ → ℕ → ℕ → ℕ
edges_at x m zero = 0
edges_at x m (suc zero) = x
edges_at x m (suc (suc y)) = m

-- one stretch, all that is below m
abbrev pub uncut : (m : ℕ) → 0 < m → Cut m
uncut m some = record { count = 1; edge = edges_uncut m; first = refl; last = refl; grows = grows }
  where
    grows : (y : ℕ) → y < 1 → edges_uncut m y < edges_uncut m (suc y)
    grows zero h = some
    grows (suc y) h = absurd (let z : ⊥ = omega arith in z)

-- two stretches, below x and from x on
abbrev pub cut_at : (x m : ℕ) → 0 < x → x < m → Cut m
cut_at x m some more = record { count = 2; edge = edges_at x m; first = refl; last = refl; grows = grows }
  where
    grows : (y : ℕ) → y < 2 → edges_at x m y < edges_at x m (suc y)
    grows zero h = some
    grows (suc zero) h = more
    grows (suc (suc y)) h = absurd (let z : ⊥ = omega arith in z)

-- ---- grids

-- one cell, and the stretches of a depth that is cut at multiples, in rising order
abbrev pub along : (kc m n k : ℕ) → 0 < m → 0 < n → (c : Cut k) → Multiples kc c → Grid kc m n k
along kc m n k hm hn c even = record {
  rows = uncut m hm;
  columns = uncut n hn;
  depth = c;
  even = even;
  turns = c.count;
  row = λ t. 0;
  column = λ t. 0;
  stretch = λ t. t;
  range = λ t h. (omega arith, omega arith, h);
  each = λ x y z hx hy hz. (z, hz, omega arith, omega arith, refl);
  once = λ t u ht hu er ec es. es;
  rising = λ t u l h er ec. l;
}

-- EVERY CALL with no size zero has the grid of one cell and one stretch
abbrev pub one_cell : (kc m n k : ℕ) → 0 < m → 0 < n → 0 < k → Grid kc m n k
one_cell kc m n k hm hn hk = along kc m n k hm hn (uncut k hk) (λ s h. absurd (let z : ⊥ = omega arith in z))

-- it is run in one turn
one_cell_turns : (kc m n k : ℕ) (hm : 0 < m) (hn : 0 < n) (hk : 0 < k) → (one_cell kc m n k hm hn hk).turns ≡ 1
one_cell_turns kc m n k hm hn hk = refl

-- the depth 257 in two stretches, of 256 and of 1
abbrev pub depth_257 : Cut 257
depth_257 = cut_at 256 257 (omega arith) (omega arith)

-- its first stretch is a multiple
pub even_257 : (s : ℕ) → suc s < 2 → (q : ℕ) × (edges_at 256 257 (suc s) ≡ edges_at 256 257 s + q * 256)
even_257 zero h = (1, refl)
even_257 (suc s) h = absurd (let z : ⊥ = omega arith in z)

-- one cell of any size, and the depth 257 cut at 256
abbrev pub two_stretches : (m n : ℕ) → 0 < m → 0 < n → Grid 256 m n 257
two_stretches m n hm hn = along 256 m n 257 hm hn depth_257 even_257

-- it is run in two turns, from depth 0 and from depth 256
two_stretches_turns : (m n : ℕ) (hm : 0 < m) (hn : 0 < n) → let g = two_stretches m n hm hn in
    (g.turns ≡ 2) × (g.depth.edge (g.stretch 0) ≡ 0) × (g.depth.edge (g.stretch 1) ≡ 256)
two_stretches_turns m n hm hn = (refl, refl, refl)

-- two cells, one above the other, each with the same two stretches
abbrev pub mixed : Grid 256 2 1 257
mixed = record {
  rows = cut_at 1 2 (omega arith) (omega arith);
  columns = uncut 1 (omega arith);
  depth = depth_257;
  even = even_257;
  turns = 4;
  row = λ t. t % 2;
  column = λ t. 0;
  stretch = λ t. t / 2;
  range = λ t h. (omega arith, omega arith, omega arith);
  each = λ x y z hx hy hz. (z * 2 + x, omega arith, omega arith, omega arith, omega arith);
  once = λ t u ht hu er ec es. omega arith;
  rising = λ t u l h er ec. omega arith;
}

-- turns 0 and 2 are the upper cell's, turns 1 and 3 the lower's
mixed_turns : (mixed.row 0 ≡ 0) × (mixed.row 1 ≡ 1) × (mixed.row 2 ≡ 0) × (mixed.row 3 ≡ 1)
mixed_turns = (refl, refl, refl, refl)
