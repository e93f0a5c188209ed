-- A tile column more in each turn. Assumes nothing.
use Rattle.std.proofs.Common.{rules, ◌≡◌, ◌+◌, ◌*◌, ◌≤◌, ◌<◌, length, arith, ap, sym, ◌∙◌}
use Rattle.rules.specs.Element.{chunks}
use Rattle.element.specs.{KindLaws.lawful, Kinds.tiling_of, Kinds.view_of, Kinds.arith_of, Fates.fate_of}
use Rattle.element.specs.FloatLaws.{length_floats, rest_floats}
use Rattle.layout.specs.Operands.{Reachable}
use Rattle.layout.specs.NeedLaws.{kind_sides}
use Rattle.loops.specs.{Panels.packing_of, PanelLaws.next_fits, PanelLaws.rest_long}
use Rattle.loops.specs.ConstantLaws.{panel_floats, first_fits}
use Rattle.loops.specs.LoopLaws.{columns_end, tile_column_turn}
use Rattle.loops.specs.TurnLaws.{turns_next, columns_reached, columns_written, turn_most}
use Rattle.gemm_loops.proofs.packed.gemm_packed.Given.{Over}
use Rattle.gemm_loops.proofs.packed.gemm_packed.Goals as goal
use Rattle.gemm_loops.proofs.packed.gemm_packed.Goals.{After-REALS, In-loop-j}

-- the tile's columns are the kind's, and so is a panel of B
side : (g : Over) (c : After-REALS g) → c.TILE_COLUMNS-side.result ≡ (tiling_of g.T.Element.kind).nr
side g c = c.TILE_COLUMNS-side.ensures ∙ sym g.met.T.Element.constants.sides.1

panel : (g : Over) (c : After-REALS g) → c.args.kc * (c.TILE_COLUMNS-side.result * c.REALS.result)
    ≡ c.args.kc * (packing_of g.T.Element.kind).floats (tiling_of g.T.Element.kind).nr
panel g c =
    rw (side g c, c.REALS.ensures) (panel_floats g.met.T.Element.constants c.args.kc (tiling_of g.T.Element.kind).nr)

pub overflow_mul-panel-2 : goal.overflow_mul-panel-2
overflow_mul-panel-2 g c =
    let k = g.T.Element.kind in
    let w = (tiling_of k).nr in
    omega (
      arith,
      panel g (goal.at.overflow_mul-panel-2 g c).After-REALS,
      first_fits w c.args.n (c.args.kc * (packing_of k).floats w) (kind_sides k).1 c.requires.writable.readable.n_some,
      length_floats g.met.T.Real.Real.each c.args.b.now,
    )

-- tile column j is one of them, begins in C, and its panel is inside b
turn : (g : Over) (c : In-loop-j g) → c.loop-j.j < chunks (tiling_of g.T.Element.kind).nr c.args.n
turn g c = rw c.loop-j.invariant.counted at c.loop-j-test.true

begins : (g : Over) (c : In-loop-j g) → Reachable c.args.lc 0 (c.loop-j.j * (tiling_of g.T.Element.kind).nr)
begins g c = columns_reached c.requires.writable.readable (tiling_of g.T.Element.kind).nr c.loop-j.j (turn g c)

room : (g : Over) (c : In-loop-j g) → let p = c.args.kc * (packing_of g.T.Element.kind).floats (tiling_of g.T.Element.kind).nr in
    c.loop-j.j * p + p ≤ length c.args.b.now
room g c =
    omega (
      arith,
      c.requires.kc_in_bounds.1,
      next_fits (c.args.kc * (packing_of g.T.Element.kind).floats (tiling_of g.T.Element.kind).nr) (turn g c),
      length_floats g.met.T.Real.Real.each c.args.b.now,
    )

pub overflow_mul-j : goal.overflow_mul-j
overflow_mul-j g c =
    let t = goal.at.overflow_mul-j g c in rw (side g t.After-REALS) (omega (arith, (begins g t.In-loop-j).j_max))

pub based_at-here-requires : goal.based_at-here-requires
based_at-here-requires g c =
    let t = goal.at.based_at-here-requires g c in rw (side g t.After-REALS) (begins g t.In-loop-j)

pub overflow_mul-j-in-loop-j : goal.overflow_mul-j-in-loop-j
overflow_mul-j-in-loop-j g c =
    let t = goal.at.overflow_mul-j-in-loop-j g c in rw (panel g t.After-REALS) (omega (arith, room g t.In-loop-j))

pub offset_bounds-b-j : goal.offset_bounds-b-j
offset_bounds-b-j g c =
    let t = goal.at.offset_bounds-b-j g c in rw (panel g t.After-REALS) (omega (arith, room g t.In-loop-j))

pub slice_bounds-tile_column-count : goal.slice_bounds-tile_column-count
slice_bounds-tile_column-count g c =
    let t = goal.at.slice_bounds-tile_column-count g c in rw (panel g t.After-REALS) (omega (arith, room g t.In-loop-j))

pub slice_bounds-tile_column-start : goal.slice_bounds-tile_column-start
slice_bounds-tile_column-start g c =
    let t = goal.at.slice_bounds-tile_column-start g c in
    let h : c.loop-j.j * (c.args.kc * (c.TILE_COLUMNS-side.result * c.REALS.result)) ≤ length c.args.b.now =
    rw (panel g t.After-REALS) (omega (arith, room g t.In-loop-j)) in
    search rules

pub tile_column-requires-clause-writable : goal.tile_column-requires-clause-writable
tile_column-requires-clause-writable g c =
    let t = goal.at.tile_column-requires-clause-writable g c in
    columns_written c.requires.writable c.TILE_COLUMNS-side.result c.loop-j.j (rw (side g t.After-REALS) (turn g t.In-loop-j))
    c.chunk_len-cols.ensures c.based_at-here.ensures (ap (view_of g.T.Element.kind).count c.loop-j.invariant.long)

pub tile_column-requires-clause-cols_le_nr : goal.tile_column-requires-clause-cols_le_nr
tile_column-requires-clause-cols_le_nr g c =
    let t = goal.at.tile_column-requires-clause-cols_le_nr g c in
    let p = c.args.kc * (packing_of g.T.Element.kind).floats (tiling_of g.T.Element.kind).nr in (
      omega (arith, side g t.After-REALS, turn_most c.TILE_COLUMNS-side.result c.args.n c.loop-j.j c.chunk_len-cols.ensures),
      c.requires.kc_in_bounds.0,
      rw (panel g t.After-REALS, rest_floats g.met.T.Real.Real.each (c.loop-j.j * p) c.args.b.now)
          (rest_long (g.T.Real.Real.floats c.args.b.now) (c.loop-j.j * p) p
          (rw (length_floats g.met.T.Real.Real.each c.args.b.now) (room g t.In-loop-j))),
    )

pub loop-j-preserved : goal.loop-j-preserved
loop-j-preserved g c =
    let t = goal.at.loop-j-preserved g c in
    let a = c.args in
    let k = g.T.Element.kind in
    let w = (tiling_of k).nr in
    let is = g.T.Element.held.is in
    let s = side g t.After-REALS in
    let p = a.kc * (packing_of k).floats w in
    turns_next c.loop-j.invariant c.loop-j-test.true (search rules)
    (tile_column_turn (arith_of k) (packing_of k) (fate_of is a.fate) (is a.alpha) a.kc (lawful k) c.requires.writable w c.loop-j.j
    (g.T.Real.Real.floats a.b.now) _ (turn g t.In-loop-j) (rw s at c.chunk_len-cols.ensures) (rw s at c.based_at-here.ensures)
    c.loop-j.invariant.so_far
    (rw (panel g t.After-REALS, rest_floats g.met.T.Real.Real.each (c.loop-j.j * p) a.b.now) at c.tile_column.ensures))

pub returns : goal.returns
returns g c =
    let l = c.loop-j in
    columns_end (view_of g.T.Element.kind) _ (tiling_of g.T.Element.kind).nr _ _ l.j (kind_sides g.T.Element.kind).1
    (omega (arith, l.invariant.counted, c.loop-j-test.false)) l.invariant.so_far
