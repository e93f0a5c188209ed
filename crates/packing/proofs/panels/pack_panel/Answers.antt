-- A depth step more in each turn. Assumes nothing.
use Rattle.std.proofs.Common.{◌≡◌, ◌+◌, ◌*◌, ◌≤◌, length, arith}
use Rattle.element.specs.FloatLaws.{length_floats}
use Rattle.loops.specs.Panels.{packing_of}
use Rattle.loops.specs.PanelLaws.{next_fits, packing_lawful, panel_none, panel_more}
use Rattle.packing.proofs.RowFloats.{row_floats}
use Rattle.packing.proofs.panels.pack_panel.Given.{Over}
use Rattle.packing.proofs.panels.pack_panel.Goals as goal
use Rattle.packing.proofs.panels.pack_panel.Goals.{After-REALS}

-- this turn's depth step, where it lies and its room
offset : (g : Over) (c : After-REALS g) → c.args.w * c.REALS.result ≡ (packing_of g.T.Element.kind).floats c.args.w
offset g c = row_floats g.T.Element.kind c.REALS.ensures g.met.T.Element.constants.reals c.args.w

room : (g : Over) (c : After-REALS g) → c.args.start + c.loop-p.p * (c.args.w * c.REALS.result)
    + (packing_of g.T.Element.kind).floats c.args.w ≤ length c.loop-p.pack
room g c =
    rw (offset g c)
    (omega (
      arith,
      c.requires.0,
      next_fits ((packing_of g.T.Element.kind).floats c.args.w) c.loop-p-test.true,
      length_floats g.met.T.Real.Real.each c.args.pack.now,
      c.loop-p.auto.pack,
    ))

pub loop-p-init : goal.loop-p-init
loop-p-init g c = panel_none (packing_lawful g.T.Element.kind) _ _ _ _ _

pub overflow_add-at : goal.overflow_add-at
overflow_add-at g c = omega (arith, room g c)

pub pack_row-requires-clause-w_in_bounds : goal.pack_row-requires-clause-w_in_bounds
pack_row-requires-clause-w_in_bounds g c = (
  omega (
    arith,
    room g (goal.at.pack_row-requires-clause-w_in_bounds g c).After-REALS,
    length_floats g.met.T.Real.Real.each c.loop-p.pack,
  ),
  c.requires.1,
  c.requires.2,
  c.loop-p-test.true,
  c.requires.3,
)

pub loop-p-preserved : goal.loop-p-preserved
loop-p-preserved g c =
    let l = c.loop-p in
    let t = (goal.at.loop-p-preserved g c).After-REALS in
    let e = offset g t in
    panel_more (packing_lawful g.T.Element.kind) _ _ _ _ _ l.p
    (omega (arith, rw e at (room g t), length_floats g.met.T.Real.Real.each c.args.pack.now, c.loop-p.auto.pack)) l.invariant
    (rw e at c.pack_row.ensures)
