-- `kernel` meets its contract: a number of the columns is its chunk's sum, and the tile has their first rows times alpha. Assumes nothing.
use Rattle.std.proofs.Common.{◌∙◌, rules}
use Rattle.rules.specs.Element.{real}
use Rattle.loops.specs.Panels.{real_packing}
use Rattle.loops.specs.TileLaws.{lines_ext, summed_part}
use Rattle.kernel.proofs.Laws.{room_turned}
use Rattle.kernel.proofs.real.kernel.Goals as goal

pub sums-requires : goal.sums-requires
sums-requires g c = search (rules, room_turned)

pub times-requires : goal.times-requires
times-requires g c = search (rules, room_turned)

pub returns : goal.returns
returns g c =
    let a = c.args in
    let r = g.R.Real in
    let x = real_packing.lane (r.floats a.a.now) g.row.MR in
    let y = real_packing.lane (r.floats a.b.now) g.row.NR in
    c.times.ensures
    ∙ lines_ext r.held g.row.MR g.row.NR _ _
    (summed_part (real r.format) r.held g.row.MR g.row.NR x y a.kc a.rows (r.held.is a.alpha) c.sums.ensures)
