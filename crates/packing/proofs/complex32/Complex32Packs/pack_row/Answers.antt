-- `pack_row` meets its contract: the lanes that are stored are the panel's. Assumes nothing.
use Rattle.std.proofs.Common.{ap, ◌∙◌}
use Rattle.std.specs.Float.{binary32}
use Rattle.rules.specs.Element.{complex}
use Rattle.rules.specs.Held.{float}
use Rattle.rules.specs.Lists.{splice}
use Rattle.element.specs.Numbers.{complex_held}
use Rattle.loops.specs.PanelLaws.{complex_packing_lem, lanes_row}
use Rattle.packing.proofs.complex32.Complex32Packs.pack_row.Goals as goal

pub returns : goal.returns
returns c =
    c.store.ensures
    ∙ ap (splice c.args.pack.now c.args.start)
    (lanes_row (complex binary32) (complex_held float) _ c.args.w complex_packing_lem _ c.requires.w_in_bounds.1 c.ragged-x.ensures)
