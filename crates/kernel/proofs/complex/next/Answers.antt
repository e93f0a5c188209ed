-- `next` meets its contract: what the step reads is the panels' lanes at depth p, so the tile is one step further. Assumes nothing.
use Rattle.rules.specs.Element.{complex}
use Rattle.loops.specs.Panels.{complex_packing}
use Rattle.loops.specs.TileLaws.{summed_more}
use Rattle.kernel.specs.Parts.{both}
use Rattle.kernel.proofs.Laws.{both_line}
use Rattle.kernel.proofs.complex.next.Goals as goal

pub returns : goal.returns
returns g c =
    let a = c.args in
    let r = g.Z.Real.Real in
    let x = complex_packing.lane (r.floats a.a.now) g.row.MR in
    let y = complex_packing.lane (r.floats a.b.now) g.row.NR in
    summed_more (complex r.format) g.Z.Paired.held g.row.MR g.row.NR x y a.p
    (both r.held c.reals_into.new.x c.reals_into-2.new.x) (both r.held c.reals_into-3.new.x c.reals_into-4.new.x) c.requires.t_value
    (both_line r.held g.row.MR (λ i. x i a.p) c.reals_into.ensures c.reals_into-2.ensures)
    (both_line r.held g.row.NR (λ j. y j a.p) c.reals_into-3.ensures c.reals_into-4.ensures) c.step.ensures
