-- `kernel` meets its contract: a number of the tile is its chunk's sum, times alpha in the first rows. Assumes nothing.
use Rattle.std.proofs.Common.{◌∙◌}
use Rattle.rules.specs.Element.{complex}
use Rattle.loops.specs.Panels.{complex_packing}
use Rattle.loops.specs.TileLaws.{lines_ext, summed_part}
use Rattle.kernel.proofs.complex.kernel.Goals as goal

pub returns : goal.returns
returns g c =
    let a = c.args in
    let r = g.Z.Real.Real in
    let held = g.Z.Paired.held in
    let x = complex_packing.lane (r.floats a.a.now) g.row.MR in
    let y = complex_packing.lane (r.floats a.b.now) g.row.NR in
    c.times.ensures
    ∙ lines_ext held g.row.NR g.row.MR _ _
    (λ j i m l. summed_part (complex r.format) held g.row.MR g.row.NR x y a.kc a.rows (held.is a.alpha) c.sums.ensures i j l m)
