-- What the reader's steps answer each other. Definitions only.
use Rattle.std.specs.Prelude.{ℕ, ◌≡◌, List, Result, Ok, Err}
use Rattle.refusal.specs.declared.Refusal.{Refusal}
use Rattle.refusal.specs.Numbers.{number_of}
use Rattle.refusal.specs.Order.{Says}
use Rattle.panel.specs.declared.file.Header.{Header}
use Rattle.panel.specs.File.{header_of}

-- the header where the file passes, and else the refusal
abbrev pub HeaderOr : Says → List ℕ → Result Header Refusal → Type 0
HeaderOr says s (Ok h) = says 0 × (h ≡ header_of s)
HeaderOr says s (Err x) = says (number_of x)
