-- A tile more in each turn. Assumes nothing.
use Rattle.std.proofs.Common.{rules, ◌≡◌, ◌+◌, ◌*◌, ◌≤◌, ◌<◌, length, arith, ap, sym, ◌∙◌}
use Rattle.rules.specs.Element.{chunks}
use Rattle.element.specs.{KindLaws.lawful, Kinds.tiling_of, Kinds.view_of, Kinds.arith_of, Fates.fate_of}
use Rattle.element.specs.FloatLaws.{length_floats, rest_floats}
use Rattle.layout.specs.Operands.{Reachable}
use Rattle.layout.specs.NeedLaws.{kind_sides}
use Rattle.loops.specs.{Panels.packing_of, PanelLaws.next_fits, PanelLaws.rest_long}
use Rattle.loops.specs.ConstantLaws.{panel_floats, first_fits}
use Rattle.loops.specs.LoopLaws.{rows_end, tile_row_turn}
use Rattle.loops.specs.TurnLaws.{turns_next, rows_reached, rows_written, turn_most}
use Rattle.gemm_loops.proofs.packed.tile_column.Given.{Over}
use Rattle.gemm_loops.proofs.packed.tile_column.Goals as goal
use Rattle.gemm_loops.proofs.packed.tile_column.Goals.{After-REALS, In-loop-i}

-- the tile's rows are the kind's, and so is a panel of A
side : (g : Over) (c : After-REALS g) → c.TILE_ROWS-side.result ≡ (tiling_of g.T.Element.kind).mr
side g c = c.TILE_ROWS-side.ensures ∙ sym g.met.T.Element.constants.sides.0

panel : (g : Over) (c : After-REALS g) → c.args.kc * (c.TILE_ROWS-side.result * c.REALS.result)
    ≡ c.args.kc * (packing_of g.T.Element.kind).floats (tiling_of g.T.Element.kind).mr
panel g c =
    rw (side g c, c.REALS.ensures) (panel_floats g.met.T.Element.constants c.args.kc (tiling_of g.T.Element.kind).mr)

pub overflow_mul-panel-2 : goal.overflow_mul-panel-2
overflow_mul-panel-2 g c =
    let k = g.T.Element.kind in
    let w = (tiling_of k).mr in
    omega (
      arith,
      panel g (goal.at.overflow_mul-panel-2 g c).After-REALS,
      first_fits w c.args.m (c.args.kc * (packing_of k).floats w) (kind_sides k).0 c.requires.writable.readable.m_some,
      length_floats g.met.T.Real.Real.each c.args.a.now,
    )

-- tile i is one of them, begins in C, and its panel is inside a
turn : (g : Over) (c : In-loop-i g) → c.loop-i.i < chunks (tiling_of g.T.Element.kind).mr c.args.m
turn g c = rw c.loop-i.invariant.counted at c.loop-i-test.true

begins : (g : Over) (c : In-loop-i g) → Reachable c.args.lc (c.loop-i.i * (tiling_of g.T.Element.kind).mr) 0
begins g c = rows_reached c.requires.writable.readable (tiling_of g.T.Element.kind).mr c.loop-i.i (turn g c)

room : (g : Over) (c : In-loop-i g) → let p = c.args.kc * (packing_of g.T.Element.kind).floats (tiling_of g.T.Element.kind).mr in
    c.loop-i.i * p + p ≤ length c.args.a.now
room g c =
    omega (
      arith,
      c.requires.cols_le_nr.1,
      next_fits (c.args.kc * (packing_of g.T.Element.kind).floats (tiling_of g.T.Element.kind).mr) (turn g c),
      length_floats g.met.T.Real.Real.each c.args.a.now,
    )

pub overflow_mul-i : goal.overflow_mul-i
overflow_mul-i g c =
    let t = goal.at.overflow_mul-i g c in rw (side g t.After-REALS) (omega (arith, (begins g t.In-loop-i).i_max))

pub based_at-here-requires : goal.based_at-here-requires
based_at-here-requires g c =
    let t = goal.at.based_at-here-requires g c in rw (side g t.After-REALS) (begins g t.In-loop-i)

pub overflow_mul-i-in-loop-i : goal.overflow_mul-i-in-loop-i
overflow_mul-i-in-loop-i g c =
    let t = goal.at.overflow_mul-i-in-loop-i g c in rw (panel g t.After-REALS) (omega (arith, room g t.In-loop-i))

pub offset_bounds-a-i : goal.offset_bounds-a-i
offset_bounds-a-i g c =
    let t = goal.at.offset_bounds-a-i g c in rw (panel g t.After-REALS) (omega (arith, room g t.In-loop-i))

pub slice_bounds-masked_kernel-count : goal.slice_bounds-masked_kernel-count
slice_bounds-masked_kernel-count g c =
    let t = goal.at.slice_bounds-masked_kernel-count g c in rw (panel g t.After-REALS) (omega (arith, room g t.In-loop-i))

pub masked_kernel-requires-clause-writable : goal.masked_kernel-requires-clause-writable
masked_kernel-requires-clause-writable g c =
    let t = goal.at.masked_kernel-requires-clause-writable g c in
    rows_written c.requires.writable c.TILE_ROWS-side.result c.loop-i.i (rw (side g t.After-REALS) (turn g t.In-loop-i))
    c.chunk_len-rows.ensures c.based_at-here.ensures (ap (view_of g.T.Element.kind).count c.loop-i.invariant.long)

pub masked_kernel-requires-clause-rows_le_mr : goal.masked_kernel-requires-clause-rows_le_mr
masked_kernel-requires-clause-rows_le_mr g c =
    let t = goal.at.masked_kernel-requires-clause-rows_le_mr g c in (
      omega (arith, side g t.After-REALS, turn_most c.TILE_ROWS-side.result c.args.m c.loop-i.i c.chunk_len-rows.ensures),
      c.requires.cols_le_nr.0,
    )

pub masked_kernel-requires-clause-mr_in_bounds : goal.masked_kernel-requires-clause-mr_in_bounds
masked_kernel-requires-clause-mr_in_bounds g c =
    let t = goal.at.masked_kernel-requires-clause-mr_in_bounds g c in
    let p = c.args.kc * (packing_of g.T.Element.kind).floats (tiling_of g.T.Element.kind).mr in (
      rw (panel g t.After-REALS, rest_floats g.met.T.Real.Real.each (c.loop-i.i * p) c.args.a.now)
          (rest_long (g.T.Real.Real.floats c.args.a.now) (c.loop-i.i * p) p
          (rw (length_floats g.met.T.Real.Real.each c.args.a.now) (room g t.In-loop-i))),
      c.requires.cols_le_nr.2,
    )

pub slice_bounds-masked_kernel-start : goal.slice_bounds-masked_kernel-start
slice_bounds-masked_kernel-start g c =
    let t = goal.at.slice_bounds-masked_kernel-start g c in
    let h : c.loop-i.i * (c.args.kc * (c.TILE_ROWS-side.result * c.REALS.result)) ≤ length c.args.a.now =
    rw (panel g t.After-REALS) (omega (arith, room g t.In-loop-i)) in
    search rules

pub loop-i-preserved : goal.loop-i-preserved
loop-i-preserved g c =
    let t = goal.at.loop-i-preserved g c in
    let a = c.args in
    let k = g.T.Element.kind in
    let w = (tiling_of k).mr in
    let is = g.T.Element.held.is in
    let s = side g t.After-REALS in
    let p = a.kc * (packing_of k).floats w in
    turns_next c.loop-i.invariant c.loop-i-test.true (search rules)
    (tile_row_turn (arith_of k) (packing_of k) (fate_of is a.fate) (is a.alpha) a.kc (lawful k) c.requires.writable w c.loop-i.i
    (g.T.Real.Real.floats a.a.now) _ (turn g t.In-loop-i) (rw s at c.chunk_len-rows.ensures) (rw s at c.based_at-here.ensures)
    c.loop-i.invariant.so_far
    (rw (panel g t.After-REALS, rest_floats g.met.T.Real.Real.each (c.loop-i.i * p) a.a.now) at c.masked_kernel.ensures))

pub returns : goal.returns
returns g c =
    let l = c.loop-i in
    rows_end (view_of g.T.Element.kind) _ (tiling_of g.T.Element.kind).mr _ _ l.i (kind_sides g.T.Element.kind).0
    (omega (arith, l.invariant.counted, c.loop-i-test.false)) l.invariant.so_far
