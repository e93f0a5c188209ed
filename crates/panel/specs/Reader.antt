-- "Panels read", and "a panel that holds the borrowed numbers together with its shape". Definitions only.
use Rattle.std.specs.Prelude.{ℕ, ◌+◌, ◌*◌, ◌≤◌, ◌≡◌, ◌⊎◌, List, length, get_or, Float, Result, Ok, Err}
use Rattle.std.specs.Float.{nan, Format}
use Rattle.refusal.specs.declared.Refusal.{Refusal}
use Rattle.refusal.specs.Numbers.{number_of}
use Rattle.refusal.specs.Order.{Says, First, done}
use Rattle.rules.specs.Lists.{splice}
use Rattle.panel.specs.declared.file.Header.{Header}
use Rattle.panel.specs.declared.file.Shape.{Shape}
use Rattle.panel.specs.File.{byte_of, header_of, panel_in, HeadThen, BodyThen}

-- 21 to 26, for a destination of `room` elements
abbrev pub ReadSays : Format → List ℕ → ℕ → Says
ReadSays f s room = HeadThen s (BodyThen s (byte_of f) room done)

-- THE READER'S PROMISE: the file is s, the destination was D and is E. "A refusal leaves the destination untouched; success fills the first
-- rows times columns elements only."
abbrev pub ReadOutcome : Format → List ℕ → List Float → List Float → Result Header Refusal → Type 0
ReadOutcome f s D E (Ok h) = ReadSays f s (length D) 0 × (h ≡ header_of s) × (E ≡ splice D 0 (panel_in f s))
ReadOutcome f s D E (Err x) = ReadSays f s (length D) (number_of x) × (E ≡ D)

-- "the element at a place (row, column), refused with 30 outside the shape or beyond the numbers"
abbrev pub ElementSays : List Float → Shape → ℕ → ℕ → Says
ElementSays numbers s i j = First ((s.rows ≤ i) ⊎ ((s.columns ≤ j) ⊎ (length numbers ≤ i * s.columns + j))) 30 done

-- the element there: row by row
abbrev pub in_panel : List Float → Shape → ℕ → ℕ → Float
in_panel numbers s i j = get_or numbers (i * s.columns + j) nan

-- THE PROMISE OF AN ELEMENT: how a real is read as a float, the numbers and the shape of the panel, the place, the answer
abbrev pub ElementOutcome : {N : Type 0} → (N → Float) → List Float → Shape → ℕ → ℕ → Result N Refusal → Type 0
ElementOutcome is numbers s i j (Ok x) = ElementSays numbers s i j 0 × (is x ≡ in_panel numbers s i j)
ElementOutcome is numbers s i j (Err x) = ElementSays numbers s i j (number_of x)
