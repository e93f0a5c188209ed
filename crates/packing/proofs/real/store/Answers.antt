-- A lane more in each turn. Assumes nothing.
use Rattle.std.proofs.Common.{◌≡◌, ◌+◌, arith, ap, ◌∙◌}
use Rattle.std.proofs.lemmas.List.{get_or_default}
use Rattle.element.specs.FloatLaws.{set_floats}
use Rattle.loops.specs.PanelLaws.{singles_none, singles_more}
use Rattle.loops.specs.Tiles.{at}
use Rattle.packing.proofs.real.store.Goals as goal

pub loop-i-init : goal.loop-i-init
loop-i-init g c = singles_none _ _ _

pub loop-i-preserved : goal.loop-i-preserved
loop-i-preserved g c =
    let a = c.args in
    let l = c.loop-i in
    let held = g.R.Real.held in
    set_floats g.met.R.Real.each l.pack (a.start + l.i) _
    ∙ singles_more (at held a.x) (g.R.Real.floats a.pack.now) a.start l.i (omega (arith, c.requires.0)) l.invariant
    (ap held.is (get_or_default a.x l.i _ held.none (omega (arith, c.requires.1))))

pub returns : goal.returns
returns g c = let u : c.loop-i.i ≡ c.args.w = omega arith in rw u at c.loop-i.invariant
