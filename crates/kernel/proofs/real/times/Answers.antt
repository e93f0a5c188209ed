-- `times` meets its contract: the rows are multiplied and stored in order, the tile is `Filled` below i, and +0 at first. Assumes nothing.
use Rattle.std.proofs.Common.{[], arith, le-ltb}
use Rattle.rules.specs.Element.{real}
use Rattle.rules.specs.ListLaws.{get_or-tab, filled_rest}
use Rattle.loops.specs.Tiles.{line}
use Rattle.kernel.proofs.Laws.{lines_of_one}
use Rattle.kernel.proofs.real.times.Goals as goal

pub returns : goal.returns
returns g c =
    let r = g.R.Real in
    filled_rest _ _ _ _ c.loop-i.i c.loop-i.invariant
    (λ i l m. rw (
      le-ltb i c.args.rows (omega arith),
      lines_of_one r.held (g.met.R.Real.kept c.zero.result) c.zero.ensures g.row.MR g.row.NR,
    )
    (get_or-tab g.row.MR (λ i. line r.held g.row.NR (λ j. (real r.format).nought)) i [] m))
