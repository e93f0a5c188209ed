-- Where a call's sizes and operands stand in its words, and when words begin with a call. Definitions only.
use Rattle.std.specs.Prelude.{ℕ, ◌+◌, ◌*◌, ◌%◌, ◌≤◌, ◌<◌, min, ◌≡◌, List, length, get_or, take, drop, Option, MatchOption}
use Rattle.std.specs.Borrow.{Bor}
use Rattle.std.specs.Float.{binary32}
use Rattle.std.specs.Float.Ieee.{top}
use Rattle.std.specs.Int.{w64}
use Rattle.std.proofs.Common.{to_z}
use Rattle.element.specs.declared.kind.Kind.{Kind}
use Rattle.element.specs.declared.kind.Kind.TheVariants.{F32, F64, C32, C64}
use Rattle.layout.specs.declared.operand.Operand.{Operand}
use Rattle.call.specs.declared.judge.Matrices.{Matrices}

-- the word of a kind: even words are over f32 and odd ones over f64, 0 and 1 real and the others complex
abbrev pub word_of : Kind → ℕ
word_of F32 = 0
word_of F64 = 1
word_of C32 = 2
word_of C64 = 3

-- a base, and two strides in two's complement behind it
abbrev pub operand_at : List ℕ → ℕ → Operand
operand_at w i = record { base = get_or w i 0; rs = to_z w64 (get_or w (i + 1) 0); cs = to_z w64 (get_or w (i + 2) 0) }

abbrev pub matrices_of : List ℕ → Matrices
matrices_of w = record { m = get_or w 1 0; k = get_or w 2 0; n = get_or w 3 0; a = operand_at w 4; b = operand_at w 7; c = operand_at w 10 }

-- the length at an index, cut to the longest that a call may have
abbrev pub length_at : List ℕ → ℕ → ℕ
length_at w i = min (get_or w i 0) 4096

-- How many words a call takes: its numbers, the floats of A, B and C, the answer, and C's floats after the call.
abbrev pub size_of : List ℕ → ℕ
size_of w = 21 + get_or w 13 0 + get_or w 14 0 + get_or w 15 0 + 1 + get_or w 15 0

-- the lengths of A, B, C and the pack buffer are none too long
pub record Short (w : List ℕ) : Type 0 where
  pub a : get_or w 13 0 ≤ 4096
  pub b : get_or w 14 0 ≤ 4096
  pub c : get_or w 15 0 ≤ 4096
  pub pack : get_or w 16 0 ≤ 4096

-- each word is a pattern of an f32
abbrev pub Patterns : List ℕ → Type 0
Patterns w = (i : ℕ) → i < length w → get_or w i 0 < 2 * top binary32

-- the words of a kind over f32 are patterns from alpha on, the answer's among them
abbrev pub HoldsFloats : List ℕ → Type 0
HoldsFloats w = get_or w 0 0 % 2 ≡ 0 → Patterns (drop 17 w)

-- The words begin with a call: it is of a kind, none of its lengths is too long, all of it is there and holds floats of its kind.
pub record IsCall (w : List ℕ) : Type 0 where
  pub kind : get_or w 0 0 < 4
  pub short : Short w
  pub whole : size_of w ≤ length w
  pub floats : HoldsFloats (take (size_of w) w)

-- From words that begin with a call these words are given and the call is passed, and from others nothing is; `rest` reads the words left.
abbrev pub PassesCall : {S : Type 0} → (S → List ℕ) → S → Option (Bor (List ℕ)) → S → Type 0
PassesCall rest s r t =
    MatchOption r ((IsCall (rest s) → ⊥) × (rest t ≡ rest s))
    (λ call. (call.now ≡ rest s) × IsCall (rest s) × (rest t ≡ drop (size_of (rest s)) (rest s)))
