-- DEMAND 3: a call cut into pieces ends in the same C. Any list of pieces that cuts the call, and the user's grids. Assumes nothing.
use Rattle.std.specs.Prelude.{ℕ, zero, suc, ◌≤◌, ◌<◌, Result}
use mathlib.Core.{Path.◌≡◌, Path.refl, Path.sym, Path.◌∙◌, Path.subst, List.List}
use Rattle.std.proofs.Common.{arith}
use lib.{ListN.length, Ieee.Float}
use Rattle.refusal.specs.{declared.Refusal.Refusal, Numbers.answer_number}
use Rattle.rules.specs.Pieces.{Piece, Cuts}
use Rattle.rules.proofs.GridLaws.{grid_cuts}
use Rattle.element.specs.declared.kind.Kind.{Kind}
use Rattle.call.specs.{declared.judge.Lengths.Lengths, Call.Call, Call.chunk, Call.Does}
use Rattle.call.specs.{Verdict.lengths, Verdict.Verdict, Outcome.Leaves, Outcome.Outcome}
use Rattle.call.specs.{Pieces.piece_call, Pieces.InTurn, Statements.Taken, Statements.CutDemand3, Statements.Demand3}
use Rattle.call.proofs.PieceLaws.{piece_accepted, pieces_do, does_same, does_long}
use Rattle.call.specs.OneOutcome.{verdict_one}

pub cut_demand3 : CutDemand3
cut_demand3 kind pack q A B slice number N piece taken cuts runs = record {
  none_refused = none;
  ends = pieces_do pack q (lengths A B (slice 0)) taken.0 taken.1 A B N piece cuts slice (λ t h. (runs t h).accepted (none t h));
}
  where
    -- C's slice has its length still
    passes : (t : ℕ) → t < N → lengths A B (slice t) ≡ lengths A B (slice 0) → number t ≡ 0
    passes t h l =
        verdict_one pack (piece_call q (piece t)) (lengths A B (slice t)) (number t) 0 (runs t h).answer
        (subst (λ (s : Lengths). Verdict pack (piece_call q (piece t)) s 0) (sym l)
        (piece_accepted pack q (lengths A B (slice 0)) taken.0 taken.1 (piece t) (cuts.fits t h)))

    long : (t : ℕ) → t ≤ N → lengths A B (slice t) ≡ lengths A B (slice 0)
    long zero h = refl
    long (suc t) h =
        let l = long t (omega arith) in
        let c = does_long (piece_call q (piece t)) A B (slice t) (slice (suc t)) ((runs t h).accepted (passes t h l)) in
        (λ i. record { a = length A; b = length B; c = c i }) ∙ l

    none : (t : ℕ) → t < N → number t ≡ 0
    none t h = passes t h (long t (omega arith))

-- DEMAND 3, as the user has it: a grid of cells and stretches, run in any order that keeps each cell's stretches rising
pub demand3 : Demand3
demand3 kind pack q A B slice number g taken runs = cut_demand3 kind pack q A B slice number g.turns _ taken (grid_cuts g) runs

module _ {kind : Kind} (q : Call kind) (A B : List Float) (N : ℕ) (piece : ℕ → Piece) (slice pack : ℕ → List Float)
    (answer : ℕ → Result Unit Refusal) where
  -- whole calls, each over the pack buffer that the one before left, are pieces in turn
  pub in_turn : ((t : ℕ) → t < N → Outcome (piece_call q (piece t)) A B (slice t) (slice (suc t)) (pack t) (pack (suc t)) (answer t))
      → InTurn q A B N piece (length (pack 0)) slice (λ t. answer_number (answer t))
  in_turn runs t h =
      subst (λ (x : ℕ). Leaves (Verdict x (piece_call q (piece t)) (lengths A B (slice t))) (Does (piece_call q (piece t)) A B) (slice t)
      (slice (suc t)) (answer_number (answer t)))
      (long t (omega arith)) (runs t h).c
    where
      long : (u : ℕ) → u ≤ N → length (pack u) ≡ length (pack 0)
      long zero l = refl
      long (suc u) l = (runs u l).pack.kept.same_length ∙ long u (omega arith)

  -- and so what the whole call itself would leave
  pub demand3_same : Taken (length (pack 0)) q A B (slice 0) → Cuts (chunk q) q.over.m q.over.k q.over.n N piece
      → InTurn q A B N piece (length (pack 0)) slice (λ t. answer_number (answer t))
      → (D Q : List Float) (r : Result Unit Refusal) → Outcome q A B (slice 0) D (pack 0) Q r → D ≡ slice N
  demand3_same taken cuts runs D Q r o =
      let e = verdict_one (length (pack 0)) q (lengths A B (slice 0)) (answer_number r) 0 o.c.answer taken.0 in
      does_same q A B (slice 0) D (slice N) (o.c.accepted e)
      (cut_demand3 kind (length (pack 0)) q A B slice (λ t. answer_number (answer t)) N piece taken cuts runs).ends
