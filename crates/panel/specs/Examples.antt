-- A file by the definitions: two rows and three columns of f32, 1 to 5 and a NaN. Assumes nothing.
use Rattle.std.specs.Prelude.{ℕ, ◌<◌, ◌≡◌, refl, List, [], ◌∷◌, length, get_or, Float}
use Rattle.std.proofs.Common.{ap, inl, inr, arith}
use Rattle.std.specs.Float.{nan, binary32, binary64}
use Rattle.std.specs.Float.Ieee.{of_bits}
use Rattle.refusal.specs.Order.{Says, First, done}
use Rattle.words.specs.Words.{number_at}
use Rattle.floats.specs.Floats.{float_of}
use Rattle.panel.specs.declared.file.Shape.{Shape}
use Rattle.panel.specs.File.{kind_in, header_of, elements_in, file_length, panel_in, HeadThen}
use Rattle.panel.specs.Reader.{ReadSays, ElementSays, in_panel}

abbrev file : List ℕ
file =
    73 ∷ 86 ∷ 80 ∷ 1 ∷ 0 ∷ 1 ∷ 2 ∷ 0 ∷ 3 ∷ 0 ∷ 0 ∷ 0 ∷ 128 ∷ 63 ∷ 0 ∷ 0 ∷ 0 ∷ 64 ∷ 0 ∷ 0 ∷ 64 ∷ 64
    ∷ 0 ∷ 0 ∷ 128 ∷ 64 ∷ 0 ∷ 0 ∷ 160 ∷ 64 ∷ 1 ∷ 0 ∷ 128 ∷ 255 ∷ []

abbrev two_by_three : Shape
two_by_three = record { rows = 2; columns = 3 }

header : header_of file ≡ record { version = 1; shape = two_by_three }
unfolding number_at
header = refl

-- the patterns 3F800000, 40000000, 40400000, 40800000, 40A00000 and FF800001
abbrev one_to_five : List Float
one_to_five =
    of_bits binary32 1065353216 ∷ of_bits binary32 1073741824 ∷ of_bits binary32 1077936128 ∷ of_bits binary32 1082130432
    ∷ of_bits binary32 1084227584 ∷ nan ∷ []

elements : panel_in binary32 file ≡ one_to_five
unfolding number_at float_of of_bits
elements = refl

-- its head and its kind pass, and it is as long as it says
passes : (rest : Says) (r : ℕ) → rest r
    → HeadThen file (First (kind_in file ≡ 1 → ⊥) 24 (First (length file ≡ file_length file → ⊥) 25 rest)) r
unfolding number_at
passes rest r u = inr ((λ h. omega arith), inr ((λ n. n refl), inr ((λ n. n refl), inr ((λ n. n refl), inr ((λ n. n refl), u)))))

-- it is read into six numbers; five are too few, but who asks for f64 is told of the kind
is_read : ReadSays binary32 file 6 0
unfolding number_at
is_read = passes (First (6 < elements_in file) 26 done) 0 (inr ((λ h. omega arith), refl))

no_room : ReadSays binary32 file 5 26
unfolding number_at
no_room = passes (First (5 < elements_in file) 26 done) 26 (inl (omega arith, refl))

wrong_kind : ReadSays binary64 file 5 24
unfolding number_at
wrong_kind = inr ((λ h. omega arith), inr ((λ n. n refl), inr ((λ n. n refl), inl ((λ e. omega arith), refl))))

-- too short comes before the wrong mark, and that before the version
short : ReadSays binary32 (0 ∷ []) 0 21
short = inl (omega arith, refl)

unmarked : ReadSays binary32 (80 ∷ 86 ∷ 73 ∷ 0 ∷ 0 ∷ 0 ∷ 0 ∷ 0 ∷ 0 ∷ 0 ∷ []) 0 22
unmarked = inr ((λ h. omega arith), inl ((λ e. first_differs (ap (λ (l : List ℕ). get_or l 0 0) e)), refl))
  where
    first_differs : ◌≡◌ {A = ℕ} 80 73 → ⊥
    first_differs e = omega arith

-- row by row: the second row begins with the fourth number
second_row : in_panel one_to_five two_by_three 1 0 ≡ of_bits binary32 1082130432
second_row = refl

-- a third row, a fourth column, and a number that is not there
no_row : ElementSays one_to_five two_by_three 2 0 30
no_row = inl (inl (omega arith), refl)

no_column : ElementSays one_to_five two_by_three 0 3 30
no_column = inl (inr (inl (omega arith)), refl)

no_number : ElementSays (nan ∷ nan ∷ nan ∷ nan ∷ nan ∷ []) two_by_three 1 2 30
no_number = inl (inr (inr (omega arith)), refl)
