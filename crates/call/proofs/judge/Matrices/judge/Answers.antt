-- `judge` meets its contract: a stage's refusal, and the next stage where it is done. The last stage is the pack buffer's whole elements
-- against the need. Assumes nothing.
use Rattle.std.specs.Prelude.{ℕ, ◌<◌}
use Rattle.std.proofs.Common.{refl, inl, inr, arith}
use Rattle.std.proofs.lemmas.Result.{err_from_is_err_and}
use Rattle.refusal.specs.Order.{done}
use Rattle.refusal.proofs.NumberLaws.{refusal_some}
use Rattle.element.specs.Kinds.{view_of, tiling_of, depth_chunk}
use Rattle.layout.specs.{Need.need_of, Operands.Tells}
use Rattle.call.specs.Verdict.{RoomThen, Judged}
use Rattle.call.specs.{StageLaws.judged_sizes, StageLaws.judged_c, StageLaws.judged_ab, StageLaws.judged_room, DoneLaws.none_empty}
use Rattle.call.proofs.judge.Matrices.judge.Goals as goal
use Rattle.call.proofs.judge.Matrices.judge.Goals.{After-too_short}

pub returns-in_err-sizes : goal.returns-in_err-sizes
returns-in_err-sizes c =
    let a = c.args in
    let p = err_from_is_err_and c.from_residual.result c.from_residual.ensures.1 in
    rw (p.1, p.2) (judged_sizes a.kind a.pack a.self a.floats _ (refusal_some _) c.in_err-sizes.ensures)

pub returns-in_err-c_alone : goal.returns-in_err-c_alone
returns-in_err-c_alone c =
    let a = c.args in
    let p = err_from_is_err_and c.from_residual-in_err-c_alone.result c.from_residual-in_err-c_alone.ensures.1 in
    rw (p.1, p.2)
    (judged_c a.kind a.pack a.self a.floats _ c.in_ok-sizes.ensures (none_empty (omega arith) (omega arith)) (refusal_some _)
    c.in_err-c_alone.ensures)

pub returns-in_err-a_and_b : goal.returns-in_err-a_and_b
returns-in_err-a_and_b c =
    let a = c.args in
    let p = err_from_is_err_and c.from_residual-in_err-a_and_b.result c.from_residual-in_err-a_and_b.ensures.1 in
    rw (p.1, p.2)
    (judged_ab a.kind a.pack a.self a.floats _ c.in_ok-sizes.ensures (none_empty (omega arith) (omega arith)) c.in_ok-c_alone.ensures
    (λ e. omega arith) (refusal_some _) c.in_err-a_and_b.ensures)

pack_short : (c : After-too_short) → let a = c.args in
    Tells c.too_short.result ((view_of a.kind).count a.pack < need_of (tiling_of a.kind) depth_chunk a.self.m a.self.k a.self.n)
pack_short c = rw c.elements_in.ensures at c.too_short.ensures

-- each stage before it was done
room_judged : (c : After-too_short) (r : ℕ) → let a = c.args in RoomThen a.kind depth_chunk a.self a.pack done r
    → Judged a.kind a.pack a.self a.floats done r
room_judged c r v =
    let a = c.args in
    judged_room a.kind a.pack a.self a.floats r c.in_ok-sizes.ensures (none_empty (omega arith) (omega arith)) c.in_ok-c_alone.ensures
    (λ e. omega arith) c.in_ok-a_and_b.ensures v

pub returns-then-too_short : goal.returns-then-too_short
returns-then-too_short c =
    let s = (goal.at.returns-then-too_short c).After-too_short in room_judged s 7 (inl ((pack_short s).if_true c.if-too_short.true, refl))

pub returns : goal.returns
returns c = let s = (goal.at.returns c).After-too_short in room_judged s 0 (inr ((pack_short s).if_false c.if-too_short.false, refl))
