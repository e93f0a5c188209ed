-- `c_to_masked_ab_beta_c` meets its contract: above row i the tile's cells are put. Assumes nothing.
use Rattle.std.proofs.Common.{◌≡◌, ℕ, ap, arith}
use Rattle.rules.specs.Element.{put}
use Rattle.rules.specs.SliceLaws.{agreeing}
use Rattle.element.specs.Fates.{fate_of}
use Rattle.element.specs.KindLaws.{lawful}
use Rattle.element.specs.Kinds.{arith_of, view_of}
use Rattle.layout.specs.Place.{index_of}
use Rattle.loops.specs.Tiles.{cell}
use Rattle.loops.specs.PutLaws.{line_next}
use Rattle.kernel.proofs.masked.c_to_masked_ab_beta_c.Goals as goal

pub loop-i-preserved : goal.loop-i-preserved
loop-i-preserved g c =
    let a = c.args in
    let i = c.loop-i.i in
    let kind = g.T.Element.kind in
    let f : ℕ → ℕ → (arith_of kind).E → (arith_of kind).E =
    λ i j. put (arith_of kind) (fate_of g.T.Element.held.is a.fate) (cell g.T.Element.held a.ab i j) in
    line_next (lawful kind) c.requires.writable f i (omega arith) c.loop-i.invariant
    (agreeing (view_of kind) (index_of a.lc) (λ k j o x. let e : i ≡ k = omega arith in ap (λ (z : ℕ). f z j x) e) c.put_row.ensures)
