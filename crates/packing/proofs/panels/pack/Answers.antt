-- A panel more in each turn. Assumes nothing.
use Rattle.std.proofs.Common.{◌≡◌, ◌+◌, ◌*◌, ◌^◌, ◌<◌, ◌≤◌, length, arith}
use Rattle.rules.specs.Element.{chunks}
use Rattle.element.specs.FloatLaws.{length_floats}
use Rattle.layout.specs.NeedLaws.{kind_small}
use Rattle.loops.specs.Panels.{packing_of}
use Rattle.loops.specs.PanelLaws.{next_fits, panels_most, packing_lawful, packed_none, packed_more}
use Rattle.packing.proofs.RowFloats.{row_floats}
use Rattle.packing.proofs.panels.pack.Given.{Over}
use Rattle.packing.proofs.panels.pack.Goals as goal
use Rattle.packing.proofs.panels.pack.Goals.{After-REALS}

-- this turn's panel: where it lies, its room, and its rows are not many
offset : (g : Over) (c : After-REALS g) → c.args.w * c.REALS.result ≡ (packing_of g.T.Element.kind).floats c.args.w
offset g c = row_floats g.T.Element.kind c.REALS.ensures g.met.T.Element.constants.reals c.args.w

turn : (g : Over) (c : After-REALS g) → c.loop-ir.ir < chunks c.args.w c.args.a.rows
turn g c = omega arith

room : (g : Over) (c : After-REALS g) → c.loop-ir.ir * (c.args.a.columns * (c.args.w * c.REALS.result))
    + c.args.a.columns * (packing_of g.T.Element.kind).floats c.args.w ≤ length c.loop-ir.pack
room g c =
    rw (offset g c)
    (omega (
      arith,
      c.requires.room,
      next_fits (c.args.a.columns * (packing_of g.T.Element.kind).floats c.args.w) (turn g c),
      length_floats g.met.T.Real.Real.each c.args.pack.now,
      c.loop-ir.auto.pack,
    ))

rows : (g : Over) (c : After-REALS g) → c.loop-ir.ir * c.args.w + c.args.w < 2 ^ 32
rows g c =
    omega (
      arith,
      next_fits c.args.w (turn g c),
      panels_most c.args.w c.args.a.rows c.requires.w_in_bounds.0,
      c.requires.w_in_bounds.1,
      (kind_small g.T.Element.kind).mr_max,
      c.args.a.readable.modest.m_max,
    )

pub loop-ir-init : goal.loop-ir-init
loop-ir-init g c = packed_none (packing_lawful g.T.Element.kind) _ _ _ _

pub overflow_mul-ir : goal.overflow_mul-ir
overflow_mul-ir g c = omega (arith, room g c)

pub overflow_mul-ir-in-loop-ir : goal.overflow_mul-ir-in-loop-ir
overflow_mul-ir-in-loop-ir g c = omega (arith, rows g c)

pub pack_panel-requires : goal.pack_panel-requires
pack_panel-requires g c = (
  omega (arith, room g c, length_floats g.met.T.Real.Real.each c.loop-ir.pack),
  c.requires.w_in_bounds.1,
  rows g c,
  c.requires.w_in_bounds.0,
)

pub loop-ir-preserved : goal.loop-ir-preserved
loop-ir-preserved g c =
    let l = c.loop-ir in
    let t = (goal.at.loop-ir-preserved g c).After-REALS in
    let e = offset g t in
    packed_more (packing_lawful g.T.Element.kind) _ _ _ _ l.ir
    (omega (arith, rw e at (room g t), length_floats g.met.T.Real.Real.each c.args.pack.now, c.loop-ir.auto.pack)) l.invariant
    (rw e at c.pack_panel.ensures)
