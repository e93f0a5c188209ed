-- A column chunk more in each turn. Assumes nothing.
use Rattle.std.proofs.Common.{rules, min, ◌*◌, ◌≡◌, ◌<◌, arith, sym, ◌∙◌}
use Rattle.rules.specs.Element.{chunks}
use Rattle.element.specs.Kinds.{tiling_of, per_element}
use Rattle.element.specs.FloatLaws.{length_floats}
use Rattle.layout.specs.{Need.round_up, NeedLaws.kind_sides, NeedLaws.multiple_up, Operands.Reachable}
use Rattle.loops.specs.Work.{front_room, ColumnsAsk, DepthAsks}
use Rattle.loops.specs.ConstantLaws.{chunk_some, rows_few}
use Rattle.loops.specs.ColumnLoop.{front_room_lem, columns_done, column_asks, column_turn}
use Rattle.loops.specs.TurnLaws.{turns_next, columns_reached}
use Rattle.gemm_loops.proofs.Chunks.{chunk_fits}
use Rattle.gemm_loops.proofs.outer.gemm_loop.Given.{Over}
use Rattle.gemm_loops.proofs.outer.gemm_loop.Goals as goal
use Rattle.gemm_loops.proofs.outer.gemm_loop.Goals.{After-REALS, After-based_at-pc, In-loop-j}

-- the column chunk is the kind's, and so are the rows of A's longest chunk, rounded up, and the room of its panels
columns : (g : Over) (c : After-REALS g) → c.COLUMN_CHUNK-columns.result ≡ (tiling_of g.T.Element.kind).nc
columns g c = c.COLUMN_CHUNK-columns.ensures ∙ sym g.met.T.Element.constants.columns

rows : (g : Over) (c : After-REALS g) → c.next_multiple_of-rows.result
    ≡ round_up (min c.args.a.rows (tiling_of g.T.Element.kind).mc) (tiling_of g.T.Element.kind).mr
rows g c =
    let k = g.met.T.Element.constants in
    let e = c.next_multiple_of-rows.ensures in
    let side : c.TILE_ROWS.result ≡ (tiling_of g.T.Element.kind).mr = c.TILE_ROWS.ensures ∙ sym k.sides.0 in
    let some : 0 < c.TILE_ROWS.result = omega (arith, side, (kind_sides g.T.Element.kind).0) in
    let up : c.next_multiple_of-rows.result ≡ round_up c.min.result c.TILE_ROWS.result =
    multiple_up _ c.TILE_ROWS.result _ some e.lower_bound e.upper_bound e.multiple in
    rw (c.min.ensures, c.ROW_CHUNK.ensures ∙ sym k.rows, side) at up

reals : (g : Over) (c : After-REALS g) → c.next_multiple_of-rows.result * c.REALS.result
    ≡ round_up (min c.args.a.rows (tiling_of g.T.Element.kind).mc) (tiling_of g.T.Element.kind).mr * per_element g.T.Element.kind
reals g c = λ i. rows g c i * (c.REALS.ensures ∙ sym g.met.T.Element.constants.reals) i

asize_is : (g : Over) (c : After-REALS g) → let a = c.args in
    c.min-2.result * (c.next_multiple_of-rows.result * c.REALS.result) ≡ front_room g.T.Element.kind a.chunk a.a.rows a.a.columns
asize_is g c = λ i. c.min-2.ensures i * reals g c i

-- what the loop asks, together with what is known of A and B
ask : (g : Over) (c : After-REALS g) → let a = c.args in let floats = g.T.Real.Real.floats in
    ColumnsAsk g.T.Element.kind a.chunk a.a.rows a.a.columns a.b.columns a.a.at a.b.at a.lc (floats a.a.reals.now) (floats a.b.reals.now)
    (floats a.c.now) (floats a.pack.now)
ask g c = record {
  matrices = record {
    writable = c.requires.writable;
    readable_a = c.args.a.readable;
    readable_b = rw c.requires.depth.0 at c.args.b.readable;
  };
  chunk = c.requires.depth.1;
  room = c.requires.room;
}

-- chunk j is one of them, and begins in C
turn : (g : Over) (c : In-loop-j g) → c.loop-j.j < chunks (tiling_of g.T.Element.kind).nc c.args.b.columns
turn g c = rw c.loop-j.invariant.counted at c.loop-j-test.true

begins : (g : Over) (c : In-loop-j g) → Reachable c.args.lc 0 (c.loop-j.j * (tiling_of g.T.Element.kind).nc)
begins g c = columns_reached c.requires.writable.readable (tiling_of g.T.Element.kind).nc c.loop-j.j (turn g c)

pub overflow_mul-asize : goal.overflow_mul-asize
overflow_mul-asize g c =
    omega (arith, reals g (goal.at.overflow_mul-asize g c).After-REALS, rows_few g.T.Element.kind c.args.a.rows)

pub overflow_mul-asize-2 : goal.overflow_mul-asize-2
overflow_mul-asize-2 g c =
    let t = (goal.at.overflow_mul-asize-2 g c).After-REALS in
    omega (
      arith,
      asize_is g t,
      front_room_lem g.T.Element.kind (ask g t),
      length_floats g.met.T.Real.Real.each c.args.pack.now,
    )

pub overflow_mul-j : goal.overflow_mul-j
overflow_mul-j g c =
    let t = goal.at.overflow_mul-j g c in rw (columns g t.After-REALS) (omega (arith, (begins g t.In-loop-j).j_max))

pub part-pb-requires-clause-rows_some : goal.part-pb-requires-clause-rows_some
part-pb-requires-clause-rows_some g c = (c.args.b.readable.m_some, omega arith)

pub part-pb-requires-clause-columns_some : goal.part-pb-requires-clause-columns_some
part-pb-requires-clause-columns_some g c =
    chunk_fits c.COLUMN_CHUNK-columns.result c.args.b.columns c.loop-j.j c.chunk_count-j-end.ensures c.loop-j-test.true
    c.chunk_len-nc.ensures

pub overflow_mul-j-in-loop-j : goal.overflow_mul-j-in-loop-j
overflow_mul-j-in-loop-j g c =
    let t = goal.at.overflow_mul-j-in-loop-j g c in rw (columns g t.After-REALS) (omega (arith, (begins g t.In-loop-j).j_max))

pub based_at-pc-requires : goal.based_at-pc-requires
based_at-pc-requires g c =
    let t = goal.at.based_at-pc-requires g c in rw (columns g t.After-REALS) (begins g t.In-loop-j)

-- what LOOP 4 asks, of this turn's columns
asks : (g : Over) (c : After-based_at-pc g) → let a = c.args in let floats = g.T.Real.Real.floats in
    DepthAsks g.T.Element.kind a.chunk a.a.rows a.a.columns c.chunk_len-nc.result (c.min-2.result * (c.next_multiple_of-rows.result
    * c.REALS.result)) a.a.at c.part-pb.result.at c.based_at-pc.result (floats a.a.reals.now) (floats a.b.reals.now)
    (floats c.loop-j.c) (floats c.loop-j.pack)
asks g c =
    let t = goal.at.After-based_at-pc g c in
    let e = columns g t.After-REALS in
    let l = c.loop-j in
    column_asks g.T.Element.kind (ask g t.After-REALS) l.j (turn g t.In-loop-j) (rw e at c.chunk_len-nc.ensures)
    (rw e at c.part-pb.ensures.1) (rw e at c.based_at-pc.ensures) (asize_is g t.After-REALS) l.invariant.long
    l.invariant.so_far.keeps.same_length

pub depth_loop-requires-clause-depth : goal.depth_loop-requires-clause-depth
depth_loop-requires-clause-depth g c = (c.part-pb.ensures.2 ∙ c.requires.depth.0, c.requires.depth.1)

pub depth_loop-requires-clause-writable : goal.depth_loop-requires-clause-writable
depth_loop-requires-clause-writable g c =
    rw c.part-pb.ensures.3 (asks g (goal.at.depth_loop-requires-clause-writable g c).After-based_at-pc).matrices.writable

pub depth_loop-requires-clause-shares : goal.depth_loop-requires-clause-shares
depth_loop-requires-clause-shares g c =
    rw c.part-pb.ensures.3 (asks g (goal.at.depth_loop-requires-clause-shares g c).After-based_at-pc).shares

pub loop-j-preserved : goal.loop-j-preserved
loop-j-preserved g c =
    let t = goal.at.loop-j-preserved g c in
    let e = columns g t.After-REALS in
    let l = c.loop-j in
    let pb = c.part-pb.ensures in
    turns_next l.invariant c.loop-j-test.true (search rules)
    (column_turn g.T.Element.kind (ask g t.After-REALS) l.j (turn g t.In-loop-j) (rw e at c.chunk_len-nc.ensures)
    (rw e at pb.1) (rw e at c.based_at-pc.ensures) (asize_is g t.After-REALS)
    (g.T.Element.held.is c.args.alpha) (g.T.Element.held.is c.args.beta) l.invariant.so_far
    (rw (pb.0, pb.3) at c.depth_loop.ensures))

pub returns : goal.returns
returns g c = columns_done g.T.Element.kind _ (chunk_some g.T.Element.kind).1 (omega (arith, c.loop-j-test.false)) c.loop-j.invariant
