-- Loops over tiles and chunks of C: a panel lent from its start on is rows of the packed operand, and a turn of a counted loop is one part
-- more. Assumes nothing.
use Rattle.std.specs.Prelude.{◌≡◌, refl, List, ℕ, min, ◌+◌, ◌-◌, ◌*◌, ◌<◌, ◌≤◌, length, drop, take, Float}
use Rattle.std.proofs.Common.{ap, ◌∙◌, subst, mul-le-mul_right, zero-mul, arith}
use Rattle.rules.specs.Element.{Arith, Fate, put, chunks, chunk_length}
use Rattle.rules.specs.Agree.{chunk_sum_agree}
use Rattle.rules.specs.Slice.{View, Updated, Block}
use Rattle.rules.specs.SliceLaws.{untouched}
use Rattle.rules.specs.ViewLaws.{Lawful}
use Rattle.layout.specs.declared.operand.Operand.{Operand}
use Rattle.layout.specs.Place.{index_of, based_at}
use Rattle.layout.specs.Operands.{Writable}
use Rattle.layout.proofs.BasedLaws.{rows_more, columns_more}
use Rattle.layout.specs.ChunkLaws.{chunk_start, chunk_end, chunk_inside, chunk_some, chunk_width}
use Rattle.loops.specs.Panels.{Packing, unpacked}
use Rattle.loops.specs.PanelLaws.{panel_lane, rest_all, panels_all}
use Rattle.loops.specs.Work.{part, settled}
use Rattle.loops.specs.TurnLaws.{turn_most}

-- the packed operand from panel q on, as a part that runs to the end reads
abbrev pub onward : {E : Type 0} → Packing E → List Float → ℕ → ℕ → ℕ → List Float
onward pk l w kc q = take (length l - q * (kc * pk.floats w)) (drop (q * (kc * pk.floats w)) l)

pub onward_lane : {E : Type 0} (pk : Packing E) (l : List Float) (w kc q i p : ℕ) → i < w
    → pk.lane (onward pk l w kc q) w i p ≡ unpacked pk l w kc (q * w + i) p
onward_lane pk l w kc q i p h =
    ap (λ (s : List Float). pk.lane s w i p) (rest_all l (q * (kc * pk.floats w))) ∙ panel_lane pk l w kc q i p h

-- ---- what becomes of an element depends on row i of x and column j of y below kc, wherever they are read

module _ (ar : Arith) (alpha : ar.E) (x y x' y' : ℕ → ℕ → ar.E) (kc i j k l : ℕ) (e : (p : ℕ) → p < kc → x i p ≡ x' k p)
    (g : (p : ℕ) → p < kc → y j p ≡ y' l p) where
  pub part_agree : part ar alpha x y kc i j ≡ part ar alpha x' y' kc k l
  part_agree = λ s. ar.mul alpha (chunk_sum_agree ar (x i) (y j) (x' k) (y' l) 0 0 kc
      (λ p h. (e (0 + p) (omega arith), g (0 + p) (omega arith))) s)

  pub settled_agree : (fate : Fate ar.E) (old : ar.E) → settled ar fate alpha x y kc i j old ≡ settled ar fate alpha x' y' kc k l old
  settled_agree fate old = λ s. put ar fate (part_agree s) old

-- LOOP 1 and LOOP 2: tile row q of A's panels, tile column q of B's
module _ (ar : Arith) (pk : Packing ar.E) (fate : Fate ar.E) (alpha : ar.E) (kc : ℕ) where
  in_rows : (a : List Float) (y : ℕ → ℕ → ar.E) (w q i j : ℕ) → i < w → (old : ar.E)
      → settled ar fate alpha (pk.lane (onward pk a w kc q) w) y kc i j old
      ≡ settled ar fate alpha (unpacked pk a w kc) y kc (q * w + i) j old
  in_rows a y w q i j h =
      settled_agree ar alpha (pk.lane (onward pk a w kc q) w) y (unpacked pk a w kc) y kc i j (q * w + i) j
      (λ p l. onward_lane pk a w kc q i p h) (λ p l. refl) fate

  in_columns : (b : List Float) (x : ℕ → ℕ → ar.E) (w q i j : ℕ) → j < w → (old : ar.E)
      → settled ar fate alpha x (pk.lane (onward pk b w kc q) w) kc i j old
      ≡ settled ar fate alpha x (unpacked pk b w kc) kc i (q * w + j) old
  in_columns b x w q i j h =
      settled_agree ar alpha x (pk.lane (onward pk b w kc q) w) x (unpacked pk b w kc) kc i j i (q * w + j) (λ p l. refl)
      (λ p l. onward_lane pk b w kc q j p h) fate

-- ---- a counted loop: after i turns, rows or columns below the least of i * W and their number are done

-- all of them after the last
pub turns_all : (W m i : ℕ) → 0 < W → chunks W m ≤ i → min (i * W) m ≡ m
turns_all W m i h l = omega (arith, panels_all W m h, mul-le-mul_right {m = chunks W m} {n = i} W l)

module _ {E : Type 0} (v : View E) (place : ℕ → ℕ → ℕ) (W m n : ℕ) where
  pub rows_start : {f : ℕ → ℕ → E → E} {C : List Float} → Updated v place (Block (min (0 * W) m) n) f C C
  rows_start = untouched v place (λ i j p. omega (arith, zero-mul W))

  pub columns_start : {f : ℕ → ℕ → E → E} {C : List Float} → Updated v place (Block m (min (0 * W) n)) f C C
  columns_start = untouched v place (λ i j p. omega (arith, zero-mul W))

  pub rows_end : (i : ℕ) {f : ℕ → ℕ → E → E} {C D : List Float} → 0 < W → chunks W m ≤ i → Updated v place (Block (min (i * W) m) n) f C D
      → Updated v place (Block m n) f C D
  rows_end i {f} {C} {D} h l u = subst (λ (z : ℕ). Updated v place (Block z n) f C D) (turns_all W m i h l) u

  pub columns_end : (i : ℕ) {f : ℕ → ℕ → E → E} {C D : List Float} → 0 < W → chunks W n ≤ i
      → Updated v place (Block m (min (i * W) n)) f C D → Updated v place (Block m n) f C D
  columns_end i {f} {C} {D} h l u = subst (λ (z : ℕ). Updated v place (Block m z) f C D) (turns_all W n i h l) u

module _ {E : Type 0} {v : View E} (ok : Lawful v) {m n : ℕ} {o : Operand} {len : ℕ} (t : Writable m n o len) where
  -- turn i: h rows from row i * W on
  pub rows_turn : (W i : ℕ) {h : ℕ} {o' : Operand} {f g : ℕ → ℕ → E → E} {C D B : List Float} → i < chunks W m → h ≡ chunk_length W m i
      → o' ≡ based_at o (i * W) 0
      → ((k l : ℕ) → k < h → l < n → (x : E) → g k l x ≡ f (i * W + k) l x)
      → Updated v (index_of o) (Block (min (i * W) m) n) f C D → Updated v (index_of o') (Block h n) g D B
      → Updated v (index_of o) (Block (min ((i + 1) * W) m) n) f C B
  rows_turn W i {h} {f = f} {C = C} {D = D} {B = B} l e at same u w =
      let s : min (i * W) m ≡ i * W = omega (arith, chunk_start W m i l) in
      let r : i * W + h ≡ min ((i + 1) * W) m = ap (λ (z : ℕ). i * W + z) e ∙ chunk_end W m i l in
      subst (λ (z : ℕ). Updated v (index_of o) (Block z n) f C B) r
      (rows_more ok t (i * W) h (omega (arith, chunk_inside W m i l)) (omega (arith, chunk_some W m i (chunk_width W m i l) l)) at same
      (subst (λ (z : ℕ). Updated v (index_of o) (Block z n) f C D) s u) w)

  -- turn i: w columns from column i * W on
  pub columns_turn : (W i : ℕ) {w : ℕ} {o' : Operand} {f g : ℕ → ℕ → E → E} {C D B : List Float} → i < chunks W n → w ≡ chunk_length W n i
      → o' ≡ based_at o 0 (i * W)
      → ((k l : ℕ) → k < m → l < w → (x : E) → g k l x ≡ f k (i * W + l) x)
      → Updated v (index_of o) (Block m (min (i * W) n)) f C D → Updated v (index_of o') (Block m w) g D B
      → Updated v (index_of o) (Block m (min ((i + 1) * W) n)) f C B
  columns_turn W i {w} {f = f} {C = C} {D = D} {B = B} l e at same u z =
      let s : min (i * W) n ≡ i * W = omega (arith, chunk_start W n i l) in
      let r : i * W + w ≡ min ((i + 1) * W) n = ap (λ (y : ℕ). i * W + y) e ∙ chunk_end W n i l in
      subst (λ (y : ℕ). Updated v (index_of o) (Block m y) f C B) r
      (columns_more ok t (i * W) w (omega (arith, chunk_inside W n i l)) (omega (arith, chunk_some W n i (chunk_width W n i l) l)) at same
      (subst (λ (y : ℕ). Updated v (index_of o) (Block m y) f C D) s u) z)

-- LOOP 1's turn and LOOP 2's: tile row q, tile column q
module _ (ar : Arith) (pk : Packing ar.E) (fate : Fate ar.E) (alpha : ar.E) (kc : ℕ) {v : View ar.E} (ok : Lawful v)
    {m n : ℕ} {o : Operand} {len : ℕ} (t : Writable m n o len) (w q : ℕ) {h : ℕ} {o' : Operand} {C D B : List Float} where
  pub tile_row_turn : (a : List Float) (y : ℕ → ℕ → ar.E) → q < chunks w m → h ≡ chunk_length w m q → o' ≡ based_at o (q * w) 0
      → Updated v (index_of o) (Block (min (q * w) m) n) (settled ar fate alpha (unpacked pk a w kc) y kc) C D
      → Updated v (index_of o') (Block h n) (settled ar fate alpha (pk.lane (onward pk a w kc q) w) y kc) D B
      → Updated v (index_of o) (Block (min ((q + 1) * w) m) n) (settled ar fate alpha (unpacked pk a w kc) y kc) C B
  tile_row_turn a y l e at u z =
      rows_turn ok t w q l e at
      (λ i j hi hj x. in_rows ar pk fate alpha kc a y w q i j (omega (arith, hi, turn_most w m q e)) x) u z

  pub tile_column_turn : (b : List Float) (x : ℕ → ℕ → ar.E) → q < chunks w n → h ≡ chunk_length w n q → o' ≡ based_at o 0 (q * w)
      → Updated v (index_of o) (Block m (min (q * w) n)) (settled ar fate alpha x (unpacked pk b w kc) kc) C D
      → Updated v (index_of o') (Block m h) (settled ar fate alpha x (pk.lane (onward pk b w kc q) w) kc) D B
      → Updated v (index_of o) (Block m (min ((q + 1) * w) n)) (settled ar fate alpha x (unpacked pk b w kc) kc) C B
  tile_column_turn b x l e at u z =
      columns_turn ok t w q l e at
      (λ i j hi hj c. in_columns ar pk fate alpha kc b x w q i j (omega (arith, hj, turn_most w n q e)) c) u z
