-- Pieces of a call: a piece, and what it is that pieces cut a call. Definitions only.
use Rattle.std.specs.Prelude.{ℕ, ◌+◌, ◌*◌, ◌≤◌, ◌<◌, ◌≡◌}
use Rattle.rules.specs.Slice.{Within, Region}

-- a piece: where its rows, columns and depth start, and how many there are
abbrev pub Piece : Type 0
Piece = record { row : ℕ; rows : ℕ; column : ℕ; columns : ℕ; depth : ℕ; depths : ℕ }

-- an element of C, and a depth step, that are the piece's
abbrev pub HasPlace : Piece → ℕ → ℕ → Type 0
HasPlace p i j = Region p.row p.rows p.column p.columns i j

abbrev pub HasDepth : Piece → ℕ → Type 0
HasDepth p d = Within p.depth p.depths d

-- "no piece reaches beyond the call, no count is zero"
abbrev pub Fits : ℕ → ℕ → ℕ → Piece → Type 0
Fits m k n p =
    (p.row + p.rows ≤ m) × (p.column + p.columns ≤ n) × (p.depth + p.depths ≤ k)
    × (0 < p.rows) × (0 < p.columns) × (0 < p.depths)

-- N pieces cut m rows, n columns and the depth k
pub record Cuts (kc m k n N : ℕ) (piece : ℕ → Piece) : Type 0 where
  pub fits : (t : ℕ) → t < N → Fits m k n (piece t)
  -- "every depth start is a multiple of" the chunk length
  pub starts : (t : ℕ) → t < N → (q : ℕ) × ((piece t).depth ≡ q * kc)
  -- "every (row, column, depth) of the whole call lies in exactly one piece"
  pub covered : (i j d : ℕ) → i < m → j < n → d < k → (t : ℕ) × (t < N) × HasPlace (piece t) i j × HasDepth (piece t) d
  pub once : (t u i j d : ℕ) → t < N → u < N → HasPlace (piece t) i j → HasDepth (piece t) d
      → HasPlace (piece u) i j → HasDepth (piece u) d → t ≡ u
  -- "for each element of C its pieces stand in the list with rising depth"
  pub rising : (t u i j : ℕ) → t < u → u < N → HasPlace (piece t) i j → HasPlace (piece u) i j → (piece t).depth < (piece u).depth
