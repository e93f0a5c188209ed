-- DEMAND 3: the pieces of a call, and how they are run. Definitions only.
use Rattle.std.specs.Prelude.{ℕ, suc, ◌<◌, Float}
use mathlib.Core.{Path.◌≡◌, List.List}
use Rattle.rules.specs.{Element.multiplier, Pieces.Piece}
use Rattle.element.specs.{declared.kind.Kind.Kind, Kinds.arith_of}
use Rattle.layout.specs.Place.{based_at}
use Rattle.call.specs.declared.judge.Matrices.{Matrices}
use Rattle.call.specs.{Call.Call, Call.Does, Verdict.lengths, Verdict.Verdict, Outcome.Leaves}

-- "The same strides, the base moved to the cell's (or the stretch's) first place, the smaller sizes"
abbrev pub piece_over : Matrices → Piece → Matrices
piece_over q p =
    let a = based_at q.a p.row p.depth in
    let b = based_at q.b p.depth p.column in
    let c = based_at q.c p.row p.column in
    record { m = p.rows; k = p.depths; n = p.columns; a = a; b = b; c = c }

-- "the same alpha; the caller's beta where the depth starts at 0, one elsewhere"
abbrev pub piece_call : {kind : Kind} → Call kind → Piece → Call kind
piece_call {kind} q p =
    record { over = piece_over q.over p; alpha = q.alpha; beta = multiplier (arith_of kind) q.beta p.depth }

module _ {kind : Kind} (q : Call kind) (A B : List Float) (N : ℕ) where
  -- N pieces were run one after the other over the same slices and pack buffer, with C's slice from `slice t` to the next
  abbrev pub InTurn : (piece : ℕ → Piece) (pack : ℕ) (slice : ℕ → List Float) (number : ℕ → ℕ) → Type 0
  InTurn piece pack slice number =
      (t : ℕ) → t < N
      → Leaves (Verdict pack (piece_call q (piece t)) (lengths A B (slice t))) (Does (piece_call q (piece t)) A B)
      (slice t) (slice (suc t)) (number t)

  -- "No piece is refused, and C ends as demand 2's definition says for the whole call."
  pub record Ends (slice : ℕ → List Float) (number : ℕ → ℕ) : Type 0 where
    pub none_refused : (t : ℕ) → t < N → number t ≡ 0
    pub ends : Does q A B (slice 0) (slice N)
