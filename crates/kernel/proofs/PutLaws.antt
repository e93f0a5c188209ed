-- The cells of a kernel's tile are the parts that are put: of a tile of rows, and of one of columns, which goes over C transposed. Assumes
-- nothing.
use Rattle.std.specs.Prelude.{◌≡◌, ℕ, ◌≤◌, List, Float, unsigned_abs}
use Rattle.std.proofs.Common.{sym, ap, ◌∙◌, arith}
use Rattle.rules.specs.Element.{Arith, Fate, put}
use Rattle.rules.specs.Held.{Held}
use Rattle.rules.specs.Slice.{View, Updated, Block}
use Rattle.rules.specs.SliceLaws.{agreeing}
use Rattle.layout.specs.declared.operand.Operand.{Operand}
use Rattle.layout.specs.Place.{index_of}
use Rattle.layout.specs.Operands.{transposed, Writable}
use Rattle.layout.proofs.BasedLaws.{place_transposed, readable_transposed}
use Rattle.loops.specs.Panels.{padded}
use Rattle.loops.specs.PanelLaws.{padded_in}
use Rattle.loops.specs.TileLaws.{lines_at}
use Rattle.loops.specs.Tiles.{cell, lines, columns}
use Rattle.loops.specs.Work.{part, settled}

index_transposed : (o : Operand) (i j : ℕ) → index_of (transposed o) i j ≡ index_of o j i
index_transposed o i j = ap unsigned_abs (place_transposed o i j)

pub writable_transposed : {m n : ℕ} {o : Operand} {len : ℕ} → Writable m n o len → Writable n m (transposed o) len
writable_transposed {o = o} t = record {
  readable = readable_transposed t.readable;
  apart = λ i j k l p q e.
      let z = t.apart j i l k (p.1, p.0) (q.1, q.0) (sym (index_transposed o i j) ∙ e ∙ index_transposed o k l) in
      (z.1, z.0);
}

-- what is done to C transposed is done to C, with i and j exchanged
turned : {E : Type 0} (v : View E) (o : Operand) (m n : ℕ) (f : ℕ → ℕ → E → E) {C D : List Float}
    → Updated v (index_of (transposed o)) (Block n m) (λ j i. f i j) C D → Updated v (index_of o) (Block m n) f C D
turned v o m n f {C} {D} u = record {
  same_length = u.same_length;
  inside = λ i j p. rw (← index_transposed o j i) (u.inside j i (p.1, p.0));
  outside = λ t h. u.outside t (λ j i p e. h i j (p.1, p.0) (sym (index_transposed o j i) ∙ e));
}

module _ {N : Type 0} (ar : Arith) (held : Held ar.E N) (v : View ar.E) (o : Operand) (h w rows cols kc : ℕ) (fate : Fate ar.E)
    (alpha : ar.E) (x y : ℕ → ℕ → ar.E) {t : List (List N)} {C D : List Float} where
  pub rows_put : rows ≤ h → cols ≤ w → t ≡ lines held h w (padded ar rows (part ar alpha x y kc))
      → Updated v (index_of o) (Block rows cols) (λ i j. put ar fate (cell held t i j)) C D
      → Updated v (index_of o) (Block rows cols) (settled ar fate alpha x y kc) C D
  rows_put lr lc e =
      agreeing v (index_of o)
      (λ i j p old. ap (λ (z : ar.E). put ar fate z old)
      (lines_at held h w (padded ar rows (part ar alpha x y kc)) i j (omega arith) (omega arith) e
      ∙ padded_in ar rows (part ar alpha x y kc) i j p.0))

  pub columns_put : rows ≤ h → cols ≤ w → t ≡ columns ar held h w (padded ar rows (part ar alpha x y kc))
      → Updated v (index_of (transposed o)) (Block cols rows) (λ j i. put ar fate (cell held t j i)) C D
      → Updated v (index_of o) (Block rows cols) (settled ar fate alpha x y kc) C D
  columns_put lr lc e u =
      agreeing v (index_of o)
      (λ i j p old. ap (λ (z : ar.E). put ar fate z old)
      (lines_at held w h (λ j i. padded ar rows (part ar alpha x y kc) i j) j i (omega arith) (omega arith) e
      ∙ padded_in ar rows (part ar alpha x y kc) i j p.0))
      (turned v o rows cols (λ i j. put ar fate (cell held t j i)) u)
