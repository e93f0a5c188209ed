-- The layout of a panel's file, as a list of bytes, and the refusals that it meets. Definitions only.
use Rattle.std.specs.Prelude.{ℕ, ◌+◌, ◌*◌, ◌<◌, cond, ◌≡◌, List, [], ◌∷◌, eqb, length, take, Float}
use Rattle.std.specs.Float.{Format, binary32, binary64}
use Rattle.refusal.specs.Order.{Says, First}
use Rattle.rules.specs.Lists.{tab}
use Rattle.words.specs.Words.{number_at}
use Rattle.floats.specs.Floats.{float_of}
use Rattle.panel.specs.declared.file.Header.{Header}
use Rattle.panel.specs.declared.file.Shape.{Shape}

-- "the mark `IVP`"
abbrev pub mark : List ℕ
mark = 73 ∷ 86 ∷ 80 ∷ []

-- "a 16-bit version (1), a byte for the kind"
abbrev pub version_in : List ℕ → ℕ
version_in s = number_at 2 s 3

abbrev pub kind_in : List ℕ → ℕ
kind_in s = number_at 1 s 5

-- "rows and columns as 16-bit numbers"
abbrev pub header_of : List ℕ → Header
header_of s = record { version = version_in s; shape = record { rows = number_at 2 s 6; columns = number_at 2 s 8 } }

-- "(1 f32, 2 f64)"
abbrev pub byte_of : Format → ℕ
byte_of binary32 = 1
byte_of binary64 = 2

-- and back; of other bytes, which 24 refuses, anything
abbrev pub format_of_byte : ℕ → Format
format_of_byte byte = cond (eqb byte 2) binary64 binary32

-- the bytes of an element
abbrev pub width_of : Format → ℕ
width_of binary32 = 4
width_of binary64 = 8

-- how many bytes stand before the elements, how many elements, how many bytes in all
abbrev pub head_length : ℕ
head_length = 10

abbrev pub elements_of : Shape → ℕ
elements_of s = s.rows * s.columns

abbrev pub elements_in : List ℕ → ℕ
elements_in s = elements_of (header_of s).shape

abbrev pub file_length : List ℕ → ℕ
file_length s = head_length + width_of (format_of_byte (kind_in s)) * elements_in s

-- "then the elements row by row": element t, and all of them
abbrev pub element_in : Format → List ℕ → ℕ → Float
element_in f s t = float_of f (number_at (width_of f) s (head_length + width_of f * t))

abbrev pub panel_in : Format → List ℕ → List Float
panel_in f s = tab (elements_in s) (element_in f s)

-- "21 fewer than ten bytes, 22 wrong mark, 23 unknown version"
abbrev pub HeadThen : List ℕ → Says → Says
HeadThen s rest = First (length s < head_length) 21 (First (take 3 s ≡ mark → ⊥) 22 (First (version_in s ≡ 1 → ⊥) 23 rest))

-- "24 kind not the one asked for, 25 total length not exactly what rows and columns say, 26 destination too short"
abbrev pub BodyThen : List ℕ → ℕ → ℕ → Says → Says
BodyThen s kind room rest =
    First (kind_in s ≡ kind → ⊥) 24 (First (length s ≡ file_length s → ⊥) 25 (First (room < elements_in s) 26 rest))
