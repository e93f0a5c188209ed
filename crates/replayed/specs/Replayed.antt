-- What a recorded call comes to when it is run again. Definitions only.
use Rattle.std.specs.Prelude.{ℕ, ◌<◌, ◌≡◌, List, Float, length, get_or, drop, Result, Ok, Err}
use Rattle.std.specs.Float.{nan, Format, binary32, binary64}
use Rattle.refusal.specs.declared.Refusal.{Refusal}
use Rattle.refusal.specs.Numbers.{answer_number}
use Rattle.element.specs.Kinds.{arith_of, format_of}
use Rattle.element.specs.declared.kind.Kind.{Kind}
use Rattle.element.specs.declared.kind.Kind.TheVariants.{F32, F64, C32, C64}
use Rattle.floats.specs.Floats.{float_of, floats_of, complex_of, FirstDifference}
use Rattle.call.specs.declared.judge.Lengths.{Lengths}
use Rattle.call.specs.Call.{Call}
use Rattle.call.specs.Outcome.{Outcome}
use Rattle.sample.specs.declared.calls.Difference.{Difference}
use Rattle.sample.specs.Calls.{matrices_of, length_at}

-- alpha or beta, whose parts stand at an index and behind it; a real one is the first of them
abbrev pub scalar_at : (kind : Kind) → List ℕ → ℕ → (arith_of kind).E
scalar_at F32 w i = (complex_of binary32 (drop i w)).re
scalar_at F64 w i = (complex_of binary64 (drop i w)).re
scalar_at C32 w i = complex_of binary32 (drop i w)
scalar_at C64 w i = complex_of binary64 (drop i w)

-- the call that words hold, how many floats its slices have, and how many its pack buffer
abbrev pub recorded_call : (kind : Kind) → List ℕ → Call kind
recorded_call kind w = record { over = matrices_of w; alpha = scalar_at kind w 17; beta = scalar_at kind w 19 }

abbrev pub lengths_of : List ℕ → Lengths
lengths_of w = record { a = length_at w 13; b = length_at w 14; c = length_at w 15 }

abbrev pub pack_of : List ℕ → ℕ
pack_of w = length_at w 16

-- the words of A and what is behind them: those of B, those of C, and the recorded answer with C's floats after the call
abbrev pub words_a : List ℕ → List ℕ
words_a w = drop 21 w

abbrev pub words_b : Lengths → List ℕ → List ℕ
words_b n w = drop n.a (words_a w)

abbrev pub words_c : Lengths → List ℕ → List ℕ
words_c n w = drop n.b (words_b n w)

abbrev pub recorded : Lengths → List ℕ → List ℕ
recorded n w = drop n.c (words_c n w)

-- The call that words hold was run over A, B and C, whose slice is D afterwards, with a pack buffer that was P and is Q.
abbrev pub Ran : Kind → List ℕ → (A B C D P Q : List Float) → Result Unit Refusal → Type 0
Ran kind w = Outcome (recorded_call kind w)

-- Against the words that were recorded, the number and C's slice D agree, the numbers differ, or a place is the first whose float differs.
abbrev pub Compared : Format → List ℕ → ℕ → List Float → Result Unit Difference → Type 0
Compared f w number D (Ok _) =
    (number ≡ get_or w 0 0) × ((i : ℕ) → i < length D → get_or D i nan ≡ float_of f (get_or (drop 1 w) i 0))
Compared f w number D (Err Difference.Answer) = number ≡ get_or w 0 0 → ⊥
Compared f w number D (Err (Difference.Place i)) = (number ≡ get_or w 0 0) × (i < length D) × FirstDifference f D (drop 1 w) i

-- The call that words hold was run over slices of so many floats that were filled from them, with a pack buffer of so many, and what it
-- answered and left in C's slice was compared with what is recorded.
pub record Replayed (kind : Kind) (w : List ℕ) (pack : ℕ) (n : Lengths) (o : Result Unit Difference) : Type 0 where
  pub D : List Float
  pub P : List Float
  pub Q : List Float
  pub answer : Result Unit Refusal
  pub long : length P ≡ pack
  pub ran :
      Ran kind w (floats_of (format_of kind) n.a (words_a w)) (floats_of (format_of kind) n.b (words_b n w))
      (floats_of (format_of kind) n.c (words_c n w)) D P Q answer
  pub compared : Compared (format_of kind) (recorded n w) (answer_number answer) D o
