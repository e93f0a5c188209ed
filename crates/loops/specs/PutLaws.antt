-- Stores into C, one after the other: an element more of a row or of a column, a row or a column more of a block. Assumes nothing.
use Rattle.std.specs.Prelude.{ℕ, min, ◌+◌, ◌<◌, ◌≡◌, List, Float}
use Rattle.std.proofs.Common.{arith}
use Rattle.rules.specs.Slice.{View, Updated, Block, Region}
use Rattle.rules.specs.SliceLaws.{across, down, rows, columns}
use Rattle.rules.specs.ViewLaws.{Lawful}
use Rattle.layout.specs.declared.operand.Operand.{Operand}
use Rattle.layout.specs.Place.{index_of}
use Rattle.layout.specs.Operands.{Writable}

module _ {E : Type 0} {v : View E} (ok : Lawful v) {oc : Operand} {h w len : ℕ} (t : Writable h w oc len) where
  -- the next element of row i, and the next row
  pub cell_next : (f : ℕ → ℕ → E → E) (i j : ℕ) {C D B : List Float} → i < h → j < w → Updated v (index_of oc) (Region i 1 0 j) f C D
      → Updated v (index_of oc) (Region i 1 j 1) f D B → Updated v (index_of oc) (Region i 1 0 (j + 1)) f C B
  cell_next f i j hi hj u x = across ok (index_of oc) i 1 j 1 (λ k l n p q r e. t.apart k l n p (omega arith) (omega arith) e) u x

  pub line_next : (f : ℕ → ℕ → E → E) (i : ℕ) {C D B : List Float} → i < h → Updated v (index_of oc) (Block i w) f C D
      → Updated v (index_of oc) (Region i 1 0 w) f D B → Updated v (index_of oc) (Block (i + 1) w) f C B
  line_next f i hi u x = rows ok (index_of oc) i 1 w (λ k l n p q r z. t.apart k l n p (omega arith) (omega arith) z) u x

  -- the next element of a row's first ones, where a loop goes on past them
  pub cell_masked : (f : ℕ → ℕ → E → E) (i j : ℕ) {C D B : List Float} → i < h → j < w
      → Updated v (index_of oc) (Region i 1 0 (min j w)) f C D
      → Updated v (index_of oc) (Region i 1 j 1) f D B → Updated v (index_of oc) (Region i 1 0 (min (j + 1) w)) f C B
  cell_masked f i j hi hj u x =
      let a : min j w ≡ j = omega arith in
      let b : j + 1 ≡ min (j + 1) w = omega arith in
      rw b at (cell_next f i j hi hj (rw a at u) x)

  -- the next element of column j, and the next column
  pub down_next : (f : ℕ → ℕ → E → E) (i j : ℕ) {C D B : List Float} → i < h → j < w → Updated v (index_of oc) (Region 0 i j 1) f C D
      → Updated v (index_of oc) (Region i 1 j 1) f D B → Updated v (index_of oc) (Region 0 (i + 1) j 1) f C B
  down_next f i j hi hj u x = down ok (index_of oc) i 1 j 1 (λ k l n p q r e. t.apart k l n p (omega arith) (omega arith) e) u x

  pub column_next : (f : ℕ → ℕ → E → E) (j : ℕ) {C D B : List Float} → j < w → Updated v (index_of oc) (Block h j) f C D
      → Updated v (index_of oc) (Region 0 h j 1) f D B → Updated v (index_of oc) (Block h (j + 1)) f C B
  column_next f j hj u x = columns ok (index_of oc) h j 1 (λ k l n p q r z. t.apart k l n p (omega arith) (omega arith) z) u x
