-- The numbers of the refusals, those of the C interface. Definitions only.
use Rattle.std.specs.Prelude.{ℕ, Result, Ok, Err}
use Rattle.refusal.specs.declared.Refusal.{Refusal}
use Rattle.refusal.specs.declared.Refusal.TheVariants.{
  TooLarge,
  TooFar,
  OutsideC,
  CollidesC,
  OutsideA,
  OutsideB,
  PackShort,
  FileShort,
  WrongMark,
  UnknownVersion,
  WrongKind,
  WrongLength,
  NoRoom,
  OutsidePanel,
}

abbrev pub number_of : Refusal → ℕ
number_of TooLarge = 1  -- "m, k or n is above 65,536"
number_of TooFar = 2  -- a stride "is above 2,147,483,648 in magnitude", along an axis of two or more entries
number_of OutsideC = 3  -- "some place (i,j) of C .. is outside C's slice"
number_of CollidesC = 4  -- "two different places of C are the same element"
number_of OutsideA = 5  -- "some place of A (m by k) is outside A's slice"
number_of OutsideB = 6  -- "some place of B (k by n) is outside B's slice"
number_of PackShort = 7  -- "the pack buffer is shorter than the need"
number_of FileShort = 21  -- "fewer than ten bytes"
number_of WrongMark = 22  -- "wrong mark"
number_of UnknownVersion = 23  -- "unknown version"
number_of WrongKind = 24  -- "kind not the one asked for"
number_of WrongLength = 25  -- "total length not exactly what rows and columns say"
number_of NoRoom = 26  -- "destination too short"
number_of OutsidePanel = 30  -- a place "outside the shape or beyond the numbers"

-- an answer's number; 0 is done
abbrev pub answer_number : Result Unit Refusal → ℕ
answer_number (Ok u) = 0
answer_number (Err x) = number_of x
