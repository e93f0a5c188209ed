-- Demand 3's grids: C's rows and columns cut anywhere, the depth at multiples of the chunk length, cells mixed at will. Definitions only.
use Rattle.std.specs.Prelude.{ℕ, suc, ◌+◌, ◌-◌, ◌*◌, ◌<◌, ◌≡◌}
use Rattle.rules.specs.Pieces.{Piece}

-- What is below m, cut into stretches that are not empty: stretch x is from `edge x` up to `edge (x + 1)`.
pub record Cut (m : ℕ) : Type 0 where
  pub count : ℕ
  pub edge : ℕ → ℕ
  pub first : edge 0 ≡ 0
  pub last : edge count ≡ m
  pub grows : (x : ℕ) → x < count → edge x < edge (suc x)

-- stretches of the depth, "each but the last a multiple of" kc long
abbrev pub Multiples : (kc : ℕ) {k : ℕ} → Cut k → Type 0
Multiples kc c = (s : ℕ) → suc s < c.count → (q : ℕ) × (c.edge (suc s) ≡ c.edge s + q * kc)

-- A grid over m rows, n columns and the depth k, in "non-empty cells" and "non-empty stretches". Turn t runs stretch `stretch t` of the
-- cell in row `row t` and column `column t`: each once, "each cell's stretches in rising order, cells mixed at will".
pub record Grid (kc m n k : ℕ) : Type 0 where
  pub rows : Cut m
  pub columns : Cut n
  pub depth : Cut k
  pub even : Multiples kc depth
  pub turns : ℕ
  pub row : ℕ → ℕ
  pub column : ℕ → ℕ
  pub stretch : ℕ → ℕ
  pub range : (t : ℕ) → t < turns → (row t < rows.count) × (column t < columns.count) × (stretch t < depth.count)
  pub each : (x y z : ℕ) → x < rows.count → y < columns.count → z < depth.count
      → (t : ℕ) × (t < turns) × (row t ≡ x) × (column t ≡ y) × (stretch t ≡ z)
  pub once : (t u : ℕ) → t < turns → u < turns → row t ≡ row u → column t ≡ column u → stretch t ≡ stretch u → t ≡ u
  pub rising : (t u : ℕ) → t < u → u < turns → row t ≡ row u → column t ≡ column u → stretch t < stretch u

-- how long stretch x of a cut is; the piece of a grid that turn t runs
abbrev pub long : {m : ℕ} → Cut m → ℕ → ℕ
long c x = c.edge (suc x) - c.edge x

abbrev pub grid_piece : {kc m n k : ℕ} → Grid kc m n k → ℕ → Piece
grid_piece g t = record {
  row = g.rows.edge (g.row t);
  rows = long g.rows (g.row t);
  column = g.columns.edge (g.column t);
  columns = long g.columns (g.column t);
  depth = g.depth.edge (g.stretch t);
  depths = long g.depth (g.stretch t);
}
