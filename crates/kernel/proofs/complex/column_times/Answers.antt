-- `column_times` meets its contract: below i the column is `Filled` with alpha times the sums, and it is +0 at first. Assumes nothing.
use Rattle.std.proofs.Common.{◌≡◌, sym, ap, ◌∙◌, arith}
use Rattle.rules.specs.Element.{complex}
use Rattle.loops.specs.Tiles.{at}
use Rattle.loops.specs.PanelLaws.{lane_more, lanes_all}
use Rattle.kernel.proofs.Laws.{line_of_one, line_read}
use Rattle.kernel.proofs.complex.column_times.Goals as goal

pub loop-i-preserved : goal.loop-i-preserved
loop-i-preserved g c =
    let l = c.loop-i in
    let a = c.args in
    let ar = complex g.Z.Real.Real.format in
    let held = g.Z.Paired.held in
    let real = g.Z.Real.Real.held in
    let i = l.i in
    let re = line_read real g.row.MR (λ k. (at held a.t k).re) c.reals_of-re.ensures i (omega arith) c.index-re-i.result in
    let im = line_read real g.row.MR (λ k. (at held a.t k).im) c.imaginaries_of-im.ensures i (omega arith) c.index-im-i.result in
    let both : held.is c.pair.result ≡ at held a.t i = c.pair.ensures ∙ (λ s. record { re = re s; im = im s }) in
    lane_more ar held g.row.MR a.rows (λ k. ar.mul (held.is a.alpha) (at held a.t k)) i c.requires.rows_le_mr c.loop-i-test.true l.invariant
    (sym (g.met.Z.Paired.kept c.mul.result) ∙ ap held.of (c.mul.ensures ∙ ap (ar.mul (held.is a.alpha)) both))

pub returns : goal.returns
returns g c =
    let held = g.Z.Paired.held in
    lanes_all (complex g.Z.Real.Real.format) held g.row.MR c.args.rows _ c.loop-i.i c.loop-i-test.false
    (line_of_one held (g.met.Z.Paired.kept c.zero-u.result) c.zero-u.ensures g.row.MR) c.loop-i.invariant
