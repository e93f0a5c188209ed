-- What one more read put behind the first `done` bytes is what it took from the file. Assumes nothing.
use Rattle.std.proofs.Common.{rules, ◌≡◌, ℕ, ◌+◌, ◌-◌, ◌≤◌, List, ◌++◌, arith, length, take, slice_range, sym, ap, ◌∙◌, subst, le_refl}
use Rattle.std.proofs.Common.{drop_at, length-take-le}
use Rattle.std.proofs.lemmas.Slice.{take-put_mid_below}
use Rattle.std.proofs.Math.Seq.{take-add, take-append-le}
use Rattle.std.specs.Io.KnownBytes.{Consumes}
use Rattle.std.proofs.KnownBytes.{Consumes-trans}
use borrow.Rule.Slice.PartMut.{put_mid, post_of}
use Rattle.show.proofs.read_full.Goals as goal

-- the first a bytes as they were, and the next up to b
take_split : (a b : ℕ) (old new : List ℕ) → a ≤ b → take a new ≡ take a old → take a old ++ slice_range new a b ≡ take b new
take_split a b old new h front =
    let same : a + (b - a) ≡ b = omega arith in
    ap (λ l. l ++ slice_range new a b) (sym front) ∙ sym (take-add a (b - a) new) ∙ ap (λ n. take n new) same

-- a read into the part from a on
part_read : (a k n : ℕ) (xs ys : List ℕ) → a ≤ length xs → n ≤ length ys → slice_range (put_mid a k xs ys) a (a + n) ≡ take n ys
part_read a k n xs ys within fits =
    let same : (a + n) - a ≡ n = omega arith in
    let after = post_of a k xs in
    ap (take ((a + n) - a)) (drop_at (take a xs) (ys ++ after) a (length-take-le a xs within)) ∙ ap (λ m. take m (ys ++ after)) same
    ∙ take-append-le n ys after fits

pub loop-done-preserved : goal.loop-done-preserved
loop-done-preserved g c =
    let l = c.loop-done in
    let from = l.done in
    let n = c.in_ok-got.got in
    let room = length l.buffer - from in
    let inside = l.invariant.within in
    let part = part_read from room n l.buffer c.read.new.buf inside c.in_ok-got.ensures.bound.0 in
    let joined = take_split from (from + n) l.buffer (put_mid from room l.buffer c.read.new.buf) (omega arith)
    (take-put_mid_below _ _ _ _ _ (le_refl _) inside) in
    record {
      long = search rules;
      within = search rules;
      given = subst (Consumes _ _) (ap (λ xs. take from l.buffer ++ xs) (sym part) ∙ joined)
          (Consumes-trans _ _ _ _ _ l.invariant.given c.in_ok-got.ensures.bytes.0);
    }
