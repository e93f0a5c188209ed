-- The theorems of calls, as statements: nothing here is part of a promise. Statements only.
use Rattle.std.specs.Prelude.{ℕ, ◌<◌, ◌≡◌, List, Float, Result}
use Rattle.refusal.specs.declared.Refusal.{Refusal}
use Rattle.refusal.specs.Numbers.{answer_number}
use Rattle.refusal.specs.Order.{Says}
use Rattle.rules.specs.Grid.{Grid, grid_piece}
use Rattle.rules.specs.Pieces.{Piece, Cuts}
use Rattle.element.specs.declared.kind.Kind.{Kind}
use Rattle.element.specs.Kinds.{arith_of, tiling_of}
use Rattle.layout.specs.Place.{element_at}
use Rattle.layout.specs.Need.{need_of}
use Rattle.call.specs.Call.{Call, chunk, row_of, column_of, Does}
use Rattle.call.specs.Verdict.{lengths, Verdict}
use Rattle.call.specs.Outcome.{Leaves, Idle, Kept, Outcome}
use Rattle.call.specs.Pieces.{InTurn, Ends}

-- two pack buffers after a call that was answered r: the same where it was refused or idle, and from the need on always
pub record OnePack {kind : Kind} (q : Call kind) (Q Q' : List Float) (r : ℕ) : Type 0 where
  pub refused : 0 < r → Q ≡ Q'
  pub idle : Idle q.over → Q ≡ Q'
  pub kept : Kept kind (need_of (tiling_of kind) (chunk q) q.over.m q.over.k q.over.n) Q Q'

-- "any two results allowed by the statement are shown equal", but for the first need elements of the pack buffer
abbrev pub OneOutcome : Type 0
OneOutcome = (kind : Kind) (q : Call kind) (A B C D D' P Q Q' : List Float) (r r' : Result Unit Refusal)
    → Outcome q A B C D P Q r → Outcome q A B C D' P Q' r'
    → (r ≡ r') × (D ≡ D') × OnePack q Q Q' (answer_number r)

-- "Take an accepted call with no dimension zero."
abbrev pub Taken : {kind : Kind} → ℕ → Call kind → List Float → List Float → List Float → Type 0
Taken pack q A B C = Verdict pack q (lengths A B C) 0 × (Idle q.over → ⊥)

-- DEMAND 3, of any pieces that cut the call, and of the user's grids
abbrev pub CutDemand3 : Type 0
CutDemand3 = (kind : Kind) (pack : ℕ) (q : Call kind) (A B : List Float) (slice : ℕ → List Float) (number : ℕ → ℕ)
    (N : ℕ) (piece : ℕ → Piece) → Taken pack q A B (slice 0)
    → Cuts (chunk q) q.over.m q.over.k q.over.n N piece
    → InTurn q A B N piece pack slice number → Ends q A B N slice number

abbrev pub Demand3 : Type 0
Demand3 = (kind : Kind) (pack : ℕ) (q : Call kind) (A B : List Float) (slice : ℕ → List Float) (number : ℕ → ℕ)
    (g : Grid (chunk q) q.over.m q.over.n q.over.k) → Taken pack q A B (slice 0)
    → InTurn q A B g.turns (grid_piece g) pack slice number → Ends q A B g.turns slice number

-- ---- "A row's trouble stays in its row", of two calls q and r

-- "equal sizes, alpha, beta and any further setting": all that a call names but where its matrices lie
pub record Alike {kind : Kind} (q r : Call kind) : Type 0 where
  pub m : q.over.m ≡ r.over.m
  pub k : q.over.k ≡ r.over.k
  pub n : q.over.n ≡ r.over.n
  pub alpha : q.alpha ≡ r.alpha
  pub beta : q.beta ≡ r.beta

-- the element of C at (i, j)
abbrev pub in_c : {kind : Kind} → Call kind → List Float → ℕ → ℕ → (arith_of kind).E
in_c {kind} q C i j = element_at kind C q.over.c i j

module _ {kind : Kind} (q r : Call kind) where
  -- equal row i of A, equal column j of B, as read
  abbrev pub EqualRowA : List Float → List Float → ℕ → Type 0
  EqualRowA A A' i = (p : ℕ) → p < q.over.k → row_of q A i p ≡ row_of r A' i p

  abbrev pub EqualColumnB : List Float → List Float → ℕ → Type 0
  EqualColumnB B B' j = (p : ℕ) → p < q.over.k → column_of q B j p ≡ column_of r B' j p

  -- equal elements of A, of B
  abbrev pub EqualA : List Float → List Float → Type 0
  EqualA A A' = (i : ℕ) → i < q.over.m → EqualRowA A A' i

  abbrev pub EqualB : List Float → List Float → Type 0
  EqualB B B' = (j : ℕ) → j < q.over.n → EqualColumnB B B' j

  -- equal row i of C, equal column j of C
  abbrev pub EqualRowC : List Float → List Float → ℕ → Type 0
  EqualRowC C C' i = (j : ℕ) → j < q.over.n → in_c q C i j ≡ in_c r C' i j

  abbrev pub EqualColumnC : List Float → List Float → ℕ → Type 0
  EqualColumnC C C' j = (i : ℕ) → i < q.over.m → in_c q C i j ≡ in_c r C' i j

-- an accepted call over slices A and B, which left D in C's slice: whatever its refusals are, and whatever became of its pack buffer
abbrev pub Accepted : {kind : Kind} → Call kind → List Float → List Float → List Float → List Float → Type 1
Accepted q A B C D = (says : Says) × (r : ℕ) × Leaves says (Does q A B) C D r × (r ≡ 0)

-- A ROW'S TROUBLE STAYS IN ITS ROW: "two accepted calls" with nothing else in common, whose operands and slices are their own. Equal
-- numbers are asked for, which is less than equal bits: the logic has one NaN. "Equal sizes, alpha, beta, B elements, and equal A elements
-- and old C in row i, end with equal row i."
abbrev pub RowStays : Type 1
RowStays = (kind : Kind) (q r : Call kind) (A B C D A' B' C' D' : List Float) → Accepted q A B C D → Accepted r A' B' C' D'
    → (i : ℕ) → i < q.over.m → Alike q r → EqualB q r B B' → EqualRowA q r A A' i → EqualRowC q r C C' i → EqualRowC q r D D' i

-- "The same holds for columns and B."
abbrev pub ColumnStays : Type 1
ColumnStays = (kind : Kind) (q r : Call kind) (A B C D A' B' C' D' : List Float) → Accepted q A B C D → Accepted r A' B' C' D'
    → (j : ℕ) → j < q.over.n → Alike q r → EqualA q r A A' → EqualColumnB q r B B' j → EqualColumnC q r C C' j → EqualColumnC q r D D' j
