-- A row chunk more in each turn. Assumes nothing.
use Rattle.std.proofs.Common.{rules, ◌≡◌, ◌*◌, ◌<◌, arith, ap, sym, ◌∙◌}
use Rattle.rules.specs.Element.{chunks}
use Rattle.element.specs.{Fates.fate_of, Kinds.tiling_of, Kinds.view_of}
use Rattle.element.specs.FloatLaws.{take_floats, rest_floats}
use Rattle.layout.specs.{NeedLaws.kind_sides, Operands.Reachable}
use Rattle.loops.specs.ConstantLaws.{chunk_some}
use Rattle.loops.specs.Work.{RowsAsk, PackedFrom}
use Rattle.loops.specs.RowLoop.{rows_done, row_packable, row_panels, row_turn}
use Rattle.loops.specs.TurnLaws.{turns_next, rows_reached, rows_written}
use Rattle.gemm_loops.proofs.Chunks.{chunk_fits}
use Rattle.gemm_loops.proofs.outer.row_loop.Given.{Over}
use Rattle.gemm_loops.proofs.outer.row_loop.Goals as goal
use Rattle.gemm_loops.proofs.outer.row_loop.Goals.{After-ROW_CHUNK-chunk, After-TILE_ROWS, After-pack, In-loop-i}

-- the row chunk and the tile's rows are the kind's
chunk : (g : Over) (c : After-ROW_CHUNK-chunk g) → c.ROW_CHUNK-chunk.result ≡ (tiling_of g.T.Element.kind).mc
chunk g c = c.ROW_CHUNK-chunk.ensures ∙ sym g.met.T.Element.constants.rows

side : (g : Over) (c : After-TILE_ROWS g) → c.TILE_ROWS.result ≡ (tiling_of g.T.Element.kind).mr
side g c = c.TILE_ROWS.ensures ∙ sym g.met.T.Element.constants.sides.0

-- what the loop asks, together with what is known of A
ask : (g : Over) (c : In-loop-i g) → let a = c.args in let floats = g.T.Real.Real.floats in
    RowsAsk g.T.Element.kind a.a.rows a.a.columns a.n a.asize a.a.at a.lc (floats a.a.reals.now) (floats a.c.now) (floats a.pack.now)
ask g c = record { writable = c.requires.writable; readable = c.args.a.readable; shares = c.requires.shares }

-- chunk i is one of them, and begins in C
turn : (g : Over) (c : In-loop-i g) → c.loop-i.i < chunks (tiling_of g.T.Element.kind).mc c.args.a.rows
turn g c = rw c.loop-i.invariant.counted at c.loop-i-test.true

begins : (g : Over) (c : In-loop-i g) → Reachable c.args.lc (c.loop-i.i * (tiling_of g.T.Element.kind).mc) 0
begins g c = rows_reached c.requires.writable.readable (tiling_of g.T.Element.kind).mc c.loop-i.i (turn g c)

pub overflow_mul-i : goal.overflow_mul-i
overflow_mul-i g c =
    let t = goal.at.overflow_mul-i g c in rw (chunk g t.After-ROW_CHUNK-chunk) (omega (arith, (begins g t.In-loop-i).i_max))

pub part-pa-requires-clause-rows_some : goal.part-pa-requires-clause-rows_some
part-pa-requires-clause-rows_some g c =
    chunk_fits c.ROW_CHUNK-chunk.result c.args.a.rows c.loop-i.i c.chunk_count-i-end.ensures c.loop-i-test.true c.chunk_len-mc.ensures

pub part-pa-requires-clause-columns_some : goal.part-pa-requires-clause-columns_some
part-pa-requires-clause-columns_some g c = (c.args.a.readable.n_some, omega arith)

pub overflow_mul-i-in-loop-i : goal.overflow_mul-i-in-loop-i
overflow_mul-i-in-loop-i g c =
    let t = goal.at.overflow_mul-i-in-loop-i g c in rw (chunk g t.After-ROW_CHUNK-chunk) (omega (arith, (begins g t.In-loop-i).i_max))

pub based_at-pc-requires : goal.based_at-pc-requires
based_at-pc-requires g c =
    let t = goal.at.based_at-pc-requires g c in rw (chunk g t.After-ROW_CHUNK-chunk) (begins g t.In-loop-i)

pub pack-requires-clause-room : goal.pack-requires-clause-room
pack-requires-clause-room g c =
    let t = goal.at.pack-requires-clause-room g c in
    let e = chunk g t.After-ROW_CHUNK-chunk in
    rw (side g t.After-TILE_ROWS, c.part-pa.ensures.2, c.part-pa.ensures.3)
    (row_packable g.T.Element.kind (ask g t.In-loop-i) c.loop-i.i (turn g t.In-loop-i) (rw e at c.chunk_len-mc.ensures)
    (rw e at c.part-pa.ensures.1) (g.T.Real.Real.floats c.loop-i.pack) c.loop-i.invariant.so_far.keeps.same_length).room

pub pack-requires-clause-w_in_bounds : goal.pack-requires-clause-w_in_bounds
pack-requires-clause-w_in_bounds g c = rw (side g c) ((kind_sides g.T.Element.kind).0, omega arith)

-- what is packed
stored : (g : Over) (c : After-pack g) → let floats = g.T.Real.Real.floats in
    PackedFrom g.T.Element.kind (tiling_of g.T.Element.kind).mr c.args.a.columns c.chunk_len-mc.result c.part-pa.result.at
    (floats c.args.a.reals.now) (floats c.loop-i.pack) (floats c.pack.new.pack)
stored g c =
    rw (
      side g (goal.at.After-pack g c).After-TILE_ROWS,
      c.part-pa.ensures.2,
      c.part-pa.ensures.3,
      c.part-pa.ensures.0,
    ) at c.pack.ensures

pub gemm_packed-requires-clause-writable : goal.gemm_packed-requires-clause-writable
gemm_packed-requires-clause-writable g c =
    let t = goal.at.gemm_packed-requires-clause-writable g c in
    let e = chunk g t.After-ROW_CHUNK-chunk in
    rows_written c.requires.writable (tiling_of g.T.Element.kind).mc c.loop-i.i (turn g t.In-loop-i) (rw e at c.chunk_len-mc.ensures)
    (rw e at c.based_at-pc.ensures) (ap (view_of g.T.Element.kind).count c.loop-i.invariant.long)

pub gemm_packed-requires-clause-kc_in_bounds : goal.gemm_packed-requires-clause-kc_in_bounds
gemm_packed-requires-clause-kc_in_bounds g c =
    let t = goal.at.gemm_packed-requires-clause-kc_in_bounds g c in
    let e = chunk g t.After-ROW_CHUNK-chunk in
    let each = g.met.T.Real.Real.each in
    rw (take_floats each c.args.asize c.pack.new.pack, rest_floats each c.args.asize c.pack.new.pack)
    (row_panels g.T.Element.kind (ask g t.In-loop-i) c.loop-i.i (turn g t.In-loop-i) (rw e at c.chunk_len-mc.ensures)
    (rw e at c.part-pa.ensures.1) (g.T.Real.Real.floats c.loop-i.pack) c.loop-i.invariant.so_far.keeps.same_length
    (stored g t.After-pack))

pub loop-i-preserved : goal.loop-i-preserved
loop-i-preserved g c =
    let t = goal.at.loop-i-preserved g c in
    let e = chunk g t.After-ROW_CHUNK-chunk in
    let each = g.met.T.Real.Real.each in
    let l = c.loop-i in
    turns_next l.invariant c.loop-i-test.true (search rules)
    (row_turn g.T.Element.kind (ask g t.In-loop-i) l.i (turn g t.In-loop-i) (rw e at c.chunk_len-mc.ensures)
    (rw e at c.part-pa.ensures.1) (g.T.Real.Real.floats l.pack) l.invariant.so_far.keeps.same_length
    (stored g t.After-pack) (fate_of g.T.Element.held.is c.args.fate) (g.T.Element.held.is c.args.alpha)
    (rw e at c.based_at-pc.ensures) l.invariant.so_far
    (rw (take_floats each c.args.asize c.pack.new.pack, rest_floats each c.args.asize c.pack.new.pack) at c.gemm_packed.ensures))

pub returns : goal.returns
returns g c = rows_done g.T.Element.kind _ (chunk_some g.T.Element.kind).0 (omega (arith, c.loop-i-test.false)) c.loop-i.invariant
