-- `store` meets its contract: the two halves stand one after the other. Assumes nothing.
use Rattle.std.proofs.Common.{rules, arith}
use Rattle.element.specs.Numbers.{complex_held}
use Rattle.loops.specs.PanelLaws.{pairs_stored}
use Rattle.loops.specs.Tiles.{at}
use Rattle.packing.proofs.complex.store.Goals as goal

pub returns : goal.returns
returns g c =
    let a = c.args in
    pairs_stored a.w (at (complex_held g.R.Real.held) a.x) (g.R.Real.floats a.pack.now) a.start (omega arith)
    (c.store_half.ensures (λ z. z.re) (λ z r p. search rules))
    (c.store_half-2.ensures (λ z. z.im) (λ z r p. search rules))
