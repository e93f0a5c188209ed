-- A depth chunk more in each turn. Assumes nothing.
use Rattle.std.proofs.Common.{rules, ◌≡◌, ◌-◌, ◌*◌, ◌<◌, length, arith, ap, sym, ◌∙◌}
use borrow.Rule.Slice.PartMut.{mid_of}
use Rattle.rules.specs.Element.{chunks}
use Rattle.element.specs.{Fates.fate_of, Kinds.tiling_of, Kinds.view_of}
use Rattle.element.specs.FloatLaws.{lent_floats, back_floats}
use Rattle.layout.specs.{NeedLaws.kind_sides, Operands.Reachable}
use Rattle.layout.proofs.BasedLaws.{writable_long}
use Rattle.loops.specs.Work.{DepthAsks, PackedFrom}
use Rattle.loops.specs.ConstantLaws.{columns_within}
use Rattle.loops.specs.DepthLoop.{depth_none, behind_packable, depth_asks, depth_turn}
use Rattle.loops.specs.TurnLaws.{turns_start, turns_next, columns_reached}
use Rattle.gemm_loops.proofs.Chunks.{chunk_fits}
use Rattle.gemm_loops.proofs.outer.depth_loop.Given.{Over}
use Rattle.gemm_loops.proofs.outer.depth_loop.Goals as goal
use Rattle.gemm_loops.proofs.outer.depth_loop.Goals.{After-TILE_COLUMNS, After-pack, In-loop-p}

-- the tile's columns are the kind's
side : (g : Over) (c : After-TILE_COLUMNS g) → c.TILE_COLUMNS.result ≡ (tiling_of g.T.Element.kind).nr
side g c = c.TILE_COLUMNS.ensures ∙ sym g.met.T.Element.constants.sides.1

-- what the loop asks, together with what is known of A and B
ask : (g : Over) (c : In-loop-p g) → let a = c.args in let floats = g.T.Real.Real.floats in
    DepthAsks g.T.Element.kind a.chunk a.a.rows a.a.columns a.b.columns a.asize a.a.at a.b.at a.lc (floats a.a.reals.now)
    (floats a.b.reals.now) (floats a.c.now) (floats a.pack.now)
ask g c = record {
  matrices = record {
    writable = c.requires.writable;
    readable_a = c.args.a.readable;
    readable_b = rw c.requires.depth.0 at c.args.b.readable;
  };
  chunk = c.requires.depth.1;
  shares = c.requires.shares;
}

-- chunk p is one of them
turn : (g : Over) (c : In-loop-p g) → c.loop-p.p < chunks c.args.chunk c.args.a.columns
turn g c = rw c.loop-p.invariant.counted at c.loop-p-test.true

begins : (g : Over) (c : In-loop-p g) → Reachable c.args.a.at 0 (c.loop-p.p * c.args.chunk)
begins g c = columns_reached c.args.a.readable c.args.chunk c.loop-p.p (turn g c)

pub loop-p-init : goal.loop-p-init
loop-p-init g c =
    let a = c.args in
    let is = g.T.Element.held.is in
    let floats = g.T.Real.Real.floats in
    turns_start c.chunk_count-p-end.ensures (depth_none g.T.Element.kind a.chunk (is a.alpha) (is a.beta) (floats a.a.reals.now)
    (floats a.b.reals.now) a.a.at a.b.at a.a.columns a.lc a.a.rows a.b.columns _ _ _)

pub overflow_mul-p : goal.overflow_mul-p
overflow_mul-p g c = omega (arith, (begins g (goal.at.overflow_mul-p g c).In-loop-p).j_max)

pub part-pa-requires-clause-rows_some : goal.part-pa-requires-clause-rows_some
part-pa-requires-clause-rows_some g c = (c.args.a.readable.m_some, omega arith)

pub part-pa-requires-clause-columns_some : goal.part-pa-requires-clause-columns_some
part-pa-requires-clause-columns_some g c =
    chunk_fits c.args.chunk c.args.a.columns c.loop-p.p c.chunk_count-p-end.ensures c.loop-p-test.true c.chunk_len-kc.ensures

pub overflow_mul-p-in-loop-p : goal.overflow_mul-p-in-loop-p
overflow_mul-p-in-loop-p g c = omega (arith, (begins g (goal.at.overflow_mul-p-in-loop-p g c).In-loop-p).j_max)

pub part-pb-requires-clause-rows_some : goal.part-pb-requires-clause-rows_some
part-pb-requires-clause-rows_some g c =
    rw c.requires.depth.0
    (chunk_fits c.args.chunk c.args.a.columns c.loop-p.p c.chunk_count-p-end.ensures c.loop-p-test.true c.chunk_len-kc.ensures)

pub part-pb-requires-clause-columns_some : goal.part-pb-requires-clause-columns_some
part-pb-requires-clause-columns_some g c = (c.args.b.readable.n_some, omega arith)

pub pack-requires-clause-room : goal.pack-requires-clause-room
pack-requires-clause-room g c =
    let t = goal.at.pack-requires-clause-room g c in
    let q = c.transposed.ensures in
    rw (
      side g t.After-TILE_COLUMNS,
      lent_floats g.met.T.Real.Real.each c.args.asize c.loop-p.pack,
      q.2 ∙ c.part-pb.ensures.3,
      q.3 ∙ c.part-pb.ensures.2,
    )
    (behind_packable g.T.Element.kind (ask g t.In-loop-p) c.loop-p.p (turn g t.In-loop-p) c.chunk_len-kc.ensures c.part-pb.ensures.1
    q.1 (g.T.Real.Real.floats c.loop-p.pack) c.loop-p.invariant.so_far.keeps.same_length (columns_within g.T.Element.kind)).room

pub pack-requires-clause-w_in_bounds : goal.pack-requires-clause-w_in_bounds
pack-requires-clause-w_in_bounds g c =
    let t = goal.at.pack-requires-clause-w_in_bounds g c in
    rw (side g t.After-TILE_COLUMNS) ((kind_sides g.T.Element.kind).1, columns_within g.T.Element.kind)

-- what is packed
stored : (g : Over) (c : After-pack g) → let a = c.args in let kind = g.T.Element.kind in let floats = g.T.Real.Real.floats in
    let P = floats c.loop-p.pack in
    PackedFrom kind (tiling_of kind).nr c.chunk_len-kc.result a.b.columns c.transposed.result.at (floats a.b.reals.now)
    (mid_of a.asize (length P - a.asize) P) (floats c.pack.new.pack)
stored g c =
    let q = c.transposed.ensures in
    let r = c.part-pb.ensures in
    rw (
      side g (goal.at.After-pack g c).After-TILE_COLUMNS,
      lent_floats g.met.T.Real.Real.each c.args.asize c.loop-p.pack,
      q.0 ∙ r.0,
      q.2 ∙ r.3,
      q.3 ∙ r.2,
    ) at c.pack.ensures

pub row_loop-requires-clause-writable : goal.row_loop-requires-clause-writable
row_loop-requires-clause-writable g c =
    rw c.part-pa.ensures.2 (writable_long (ap (view_of g.T.Element.kind).count c.loop-p.invariant.long) c.requires.writable)

pub row_loop-requires-clause-shares : goal.row_loop-requires-clause-shares
row_loop-requires-clause-shares g c =
    let t = goal.at.row_loop-requires-clause-shares g c in
    let l = c.loop-p in
    let each = g.met.T.Real.Real.each in
    rw (back_floats each c.args.asize l.pack c.pack.new.pack, c.part-pa.ensures.2, c.part-pa.ensures.3)
    (depth_asks g.T.Element.kind (ask g t.In-loop-p) l.p (turn g t.In-loop-p) c.chunk_len-kc.ensures c.part-pb.ensures.1
    c.transposed.ensures.1 (g.T.Real.Real.floats l.pack) l.invariant.so_far.keeps.same_length
    (stored g t.After-pack) c.part-pa.ensures.1 l.invariant.long).shares

pub loop-p-preserved : goal.loop-p-preserved
loop-p-preserved g c =
    let t = goal.at.loop-p-preserved g c in
    let l = c.loop-p in
    let is = g.T.Element.held.is in
    let each = g.met.T.Real.Real.each in
    let pa = c.part-pa.ensures in
    turns_next l.invariant c.loop-p-test.true (search rules)
    (depth_turn g.T.Element.kind (ask g t.In-loop-p) l.p (turn g t.In-loop-p) c.chunk_len-kc.ensures c.part-pb.ensures.1
    c.transposed.ensures.1 (g.T.Real.Real.floats l.pack) l.invariant.so_far.keeps.same_length (stored g t.After-pack) pa.1
    (is c.args.alpha) (is c.args.beta) (fate_of is c.from_beta-fate.result) (is c.multiplier-by.result)
    c.multiplier-by.ensures c.from_beta-fate.ensures l.invariant.so_far
    (rw (back_floats each c.args.asize l.pack c.pack.new.pack, pa.0, pa.2, pa.3) at c.row_loop.ensures))
