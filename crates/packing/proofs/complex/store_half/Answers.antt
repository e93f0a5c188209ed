-- A lane more in each turn. Assumes nothing.
use Rattle.std.proofs.Common.{◌≡◌, ◌+◌, arith, ap, ◌∙◌}
use Rattle.std.proofs.lemmas.List.{get_or_default}
use Rattle.element.specs.FloatLaws.{set_floats}
use Rattle.element.specs.Numbers.{complex_held}
use Rattle.loops.specs.PanelLaws.{singles_none, singles_more}
use Rattle.loops.specs.Tiles.{at}
use Rattle.packing.proofs.complex.store_half.Goals as goal

pub loop-i-init : goal.loop-i-init
loop-i-init g c h e = singles_none _ _ _

pub loop-i-preserved : goal.loop-i-preserved
loop-i-preserved g c h e =
    let a = c.args in
    let l = c.loop-i in
    let each = g.met.R.Real.each in
    set_floats each l.pack (a.start + l.i) c.half.result
    ∙ singles_more (λ i. h (at (complex_held g.R.Real.held) a.x.now i)) (g.R.Real.floats a.pack.now) a.start l.i
    (omega (arith, c.requires.w_le_n.0)) (l.invariant h e)
    (e _ _ c.half.ensures
    ∙ ap (λ z. h ((complex_held g.R.Real.held).is z))
    (get_or_default a.x.now l.i _ (complex_held g.R.Real.held).none (omega (arith, c.type_inv.x, c.requires.w_le_n.1))))

pub returns : goal.returns
returns g c h e = let u : c.loop-i.i ≡ c.args.w = omega arith in rw u at (c.loop-i.invariant h e)
