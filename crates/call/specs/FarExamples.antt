-- Which size each stride is judged by: with the other five at one, a stride of 2^40 is too far exactly where its axis has two entries or
-- more. Assumes nothing.
use Rattle.std.specs.Prelude.{ℕ, ◌≤◌, pos}
use Rattle.std.proofs.Common.{inl, inr, arith}
use Rattle.layout.specs.{declared.operand.Operand.Operand, Place.Long}
use Rattle.call.specs.declared.judge.Matrices.{Matrices}
use Rattle.call.specs.Verdict.{Far}

abbrev near : Operand
near = record { base = 0; rs = pos 1; cs = pos 1 }

abbrev far_rows : Operand
far_rows = record { base = 0; rs = pos 1099511627776; cs = pos 1 }

abbrev far_columns : Operand
far_columns = record { base = 0; rs = pos 1; cs = pos 1099511627776 }

-- the size decides
abbrev By : ℕ → Matrices → Type 0
By size q = (Far q → 2 ≤ size) × (2 ≤ size → Far q)

not_long : {m n : ℕ} {X : Type 0} → Long m n near → X
not_long (inl l) = absurd (omega (arith, l.1))
not_long (inr l) = absurd (omega (arith, l.1))

rows_long : {m n : ℕ} → Long m n far_rows → 2 ≤ m
rows_long (inl l) = l.0
rows_long (inr l) = absurd (omega (arith, l.1))

columns_long : {m n : ℕ} → Long m n far_columns → 2 ≤ n
columns_long (inl l) = absurd (omega (arith, l.1))
columns_long (inr l) = l.0

module _ (m k n : ℕ) where
  abbrev over : Operand → Operand → Operand → Matrices
  over a b c = record { m = m; k = k; n = n; a = a; b = b; c = c }

  only_a : (a : Operand) → Far (over a near near) → Long m k a
  only_a a (inl l) = l
  only_a a (inr (inl l)) = not_long l
  only_a a (inr (inr l)) = not_long l

  only_b : (b : Operand) → Far (over near b near) → Long k n b
  only_b b (inl l) = not_long l
  only_b b (inr (inl l)) = l
  only_b b (inr (inr l)) = not_long l

  only_c : (c : Operand) → Far (over near near c) → Long m n c
  only_c c (inl l) = not_long l
  only_c c (inr (inl l)) = not_long l
  only_c c (inr (inr l)) = l

  -- "m for A's and C's row strides, k for A's column and B's row stride, n for B's and C's column strides"
  rows_of_a : By m (over far_rows near near)
  rows_of_a = (λ f. rows_long (only_a far_rows f), λ h. inl (inl (h, omega arith)))

  columns_of_a : By k (over far_columns near near)
  columns_of_a = (λ f. columns_long (only_a far_columns f), λ h. inl (inr (h, omega arith)))

  rows_of_b : By k (over near far_rows near)
  rows_of_b = (λ f. rows_long (only_b far_rows f), λ h. inr (inl (inl (h, omega arith))))

  columns_of_b : By n (over near far_columns near)
  columns_of_b = (λ f. columns_long (only_b far_columns f), λ h. inr (inl (inr (h, omega arith))))

  rows_of_c : By m (over near near far_rows)
  rows_of_c = (λ f. rows_long (only_c far_rows f), λ h. inr (inr (inl (h, omega arith))))

  columns_of_c : By n (over near near far_columns)
  columns_of_c = (λ f. columns_long (only_c far_columns f), λ h. inr (inr (inr (h, omega arith))))
