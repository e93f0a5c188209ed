-- Turn i of a counted loop over a matrix: what is kept from turn to turn, and its rows from row i * W on, or its columns, as an operand
-- that may be read or written. Assumes nothing.
use Rattle.std.specs.Prelude.{◌≡◌, refl, List, ℕ, min, ◌+◌, ◌*◌, ◌<◌, ◌≤◌, length, Float}
use Rattle.std.proofs.Common.{arith}
use Rattle.rules.specs.Element.{chunks, chunk_length}
use Rattle.layout.specs.declared.operand.Operand.{Operand}
use Rattle.layout.specs.Place.{based_at}
use Rattle.layout.specs.Operands.{Reachable, Readable, Writable}
use Rattle.layout.specs.ChunkLaws.{chunk_start, chunk_some, chunk_inside, chunk_width}
use Rattle.layout.proofs.BasedLaws.{reached, readable_based, readable_at, writable_based, writable_at}
use Rattle.loops.specs.Work.{Turns}

-- ---- what is kept, before the first turn and after one more

pub turns_start : {W size count : ℕ} {C : List Float} {done : Type 0} → count ≡ chunks W size → done → Turns W size count 0 C C done
turns_start e d = record { counted = e; upto = omega arith; long = refl; so_far = d }

pub turns_next : {W size count i : ℕ} {C D E : List Float} {done more : Type 0} → Turns W size count i C D done → i < count
    → length E ≡ length C → more
    → Turns W size count (i + 1) C E more
turns_next t l e d = record { counted = t.counted; upto = omega arith; long = e; so_far = d }

-- ---- a turn's part of the matrix

-- the turn's part is no longer than the whole, nor than W
pub turn_most : (W m i : ℕ) {r : ℕ} → r ≡ chunk_length W m i → r ≤ min m W
unfolding chunk_length
turn_most W m i e = omega (arith, e)

-- it is not empty and ends in the whole
module _ (W m i : ℕ) {r : ℕ} (l : i < chunks W m) (e : r ≡ chunk_length W m i) where
  turn_some : 0 < r
  turn_some = omega (arith, e, chunk_some W m i (chunk_width W m i l) l)

  turn_inside : i * W + r ≤ m
  turn_inside = omega (arith, e, chunk_inside W m i l)

module _ {m n : ℕ} {o : Operand} {len : ℕ} (f : Readable m n o len) (W i : ℕ) where
  pub rows_reached : i < chunks W m → Reachable o (i * W) 0
  rows_reached l = reached f (i * W) 0 (chunk_start W m i l) f.n_some

  pub columns_reached : i < chunks W n → Reachable o 0 (i * W)
  columns_reached l = reached f 0 (i * W) f.m_some (chunk_start W n i l)

  pub rows_read : {r : ℕ} {o' : Operand} → i < chunks W m → r ≡ chunk_length W m i → o' ≡ based_at o (i * W) 0 → Readable r n o' len
  rows_read {r} l e at = readable_at at (readable_based f (i * W) 0 r n (turn_inside W m i l e) (omega arith) (turn_some W m i l e)
      f.n_some)

  pub columns_read : {r : ℕ} {o' : Operand} → i < chunks W n → r ≡ chunk_length W n i → o' ≡ based_at o 0 (i * W) → Readable m r o' len
  columns_read {r} l e at = readable_at at (readable_based f 0 (i * W) m r (omega arith) (turn_inside W n i l e) f.m_some
      (turn_some W n i l e))

module _ {m n : ℕ} {o : Operand} {len len' : ℕ} (f : Writable m n o len) (W i : ℕ) {r : ℕ} {o' : Operand} where
  pub rows_written : i < chunks W m → r ≡ chunk_length W m i → o' ≡ based_at o (i * W) 0 → len' ≡ len → Writable r n o' len'
  rows_written l e at same = writable_at at same (writable_based f (i * W) 0 r n (turn_inside W m i l e) (omega arith) (turn_some W m i l e)
      f.readable.n_some)

  pub columns_written : i < chunks W n → r ≡ chunk_length W n i → o' ≡ based_at o 0 (i * W) → len' ≡ len → Writable m r o' len'
  columns_written l e at same = writable_at at same (writable_based f 0 (i * W) m r (omega arith) (turn_inside W n i l e)
      f.readable.m_some (turn_some W n i l e))
