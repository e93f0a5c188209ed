-- `next` meets its contract: the step's two arrays are the panels' lanes at depth p, so the columns are one step further. Assumes nothing.
use Rattle.rules.specs.Element.{real}
use Rattle.loops.specs.Panels.{real_packing}
use Rattle.loops.specs.Tiles.{at}
use Rattle.loops.specs.TileLaws.{summed_more}
use Rattle.kernel.proofs.Laws.{line_at}
use Rattle.kernel.proofs.real.next.Goals as goal

pub returns : goal.returns
returns g c =
    let r = g.R.Real in
    let x = real_packing.lane (r.floats c.args.a.now) g.row.MR in
    let y = real_packing.lane (r.floats c.args.b.now) g.row.NR in
    let p = c.args.p in
    summed_more (real r.format) r.held g.row.MR g.row.NR x y p (at r.held c.reals_into.new.x) (at r.held c.reals_into-2.new.x)
    c.requires.t_value (line_at r.held g.row.MR (λ i. x i p) c.reals_into.ensures)
    (line_at r.held g.row.NR (λ j. y j p) c.reals_into-2.ensures)
    c.step.ensures
