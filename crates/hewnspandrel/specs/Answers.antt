-- What a C caller is answered: by numbers, an answer that the function behind allows. Definitions only.
use Rattle.std.specs.Prelude.{ℕ, ◌<◌, ◌≡◌, List, Float, Result, Ok, Err}
use Rattle.std.specs.Float.{nan, Format}
use Rattle.refusal.specs.declared.Refusal.{Refusal}
use Rattle.refusal.specs.Numbers.{number_of, answer_number}
use Rattle.element.specs.declared.kind.Kind.{Kind}
use Rattle.layout.specs.Need.{PackLengthIs}
use Rattle.call.specs.Call.{Call}
use Rattle.call.specs.Outcome.{Outcome}
use Rattle.panel.specs.declared.file.Header.{Header}
use Rattle.panel.specs.declared.file.Shape.{Shape}
use Rattle.panel.specs.Reader.{ReadOutcome, ElementSays, in_panel}
use Rattle.hewnspandrel.specs.declared.length.Length.{Length}
use Rattle.hewnspandrel.specs.declared.head.Head.{Head}

-- the outcome of a call, whose answer's number is r
pub record Answered {kind : Kind} (q : Call kind) (A B C D P Q : List Float) (r : ℕ) : Type 0 where
  pub answer : Result Unit Refusal
  pub number : r ≡ answer_number answer
  pub outcome : Outcome q A B C D P Q answer

-- 0 and the length in elements, or the refusal's number and 0
abbrev pub length_of : Result ℕ Refusal → Length
length_of (Ok x) = record { answer = 0; elements = x }
length_of (Err x) = record { answer = number_of x; elements = 0 }

-- the answer to the question, as C takes it
pub record Asked (kind : Kind) (m k n : ℕ) (r : Length) : Type 0 where
  pub found : Result ℕ Refusal
  pub is : PackLengthIs kind m k n found
  pub length : r ≡ length_of found

-- 0 and what the file's head says, or the refusal's number and zeros
abbrev pub head_of : Result Header Refusal → Head
head_of (Ok h) = record { answer = 0; version = h.version; rows = h.shape.rows; columns = h.shape.columns }
head_of (Err x) = record { answer = number_of x; version = 0; rows = 0; columns = 0 }

-- the outcome of a reader, as C takes it
pub record FileRead (f : Format) (s : List ℕ) (D E : List Float) (r : Head) : Type 0 where
  pub answer : Result Header Refusal
  pub head : r ≡ head_of answer
  pub outcome : ReadOutcome f s D E answer

-- the answer for a place of a panel: 0 and the element, or the refusal's number and a NaN
pub record ElementAnswered (numbers : List Float) (s : Shape) (i j answer : ℕ) (element : Float) : Type 0 where
  pub says : ElementSays numbers s i j answer
  pub found : answer ≡ 0 → element ≡ in_panel numbers s i j
  pub refused : 0 < answer → element ≡ nan
