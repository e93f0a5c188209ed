-- `gemm` meets its contract: each of its four ends is one of the ways in which a call ends, and what the verdict leaves is what the loops
-- ask. Assumes nothing.
use Rattle.std.specs.Prelude.{Float, Ok, Err}
use Rattle.std.proofs.Common.{List, ℕ, ◌≡◌, ◌<◌, ◌^◌, ◌⊎◌, length, inl, inr, refl, sym, ◌∙◌, arith}
use Rattle.std.proofs.lemmas.Result.{err_from_is_err_and}
use Rattle.refusal.proofs.NumberLaws.{refusal_some}
use Rattle.element.specs.{Kinds.depth_chunk, Kinds.view_of}
use Rattle.element.specs.FloatLaws.{length_floats}
use Rattle.layout.specs.Operands.{Writable}
use Rattle.call.specs.{Call.Call, Call.call_of, Call.Does, Verdict.lengths, Verdict.Verdict, Outcome.Outcome}
use Rattle.call.specs.DoneLaws.{writable_c, readable_a, readable_b, enough_room, none_idle}
use Rattle.call.specs.EndLaws.{does_empty, out_refused, out_idle, out_full}
use Rattle.call.proofs.EndLaws.{does_flat}
use Rattle.loops.specs.{ConstantLaws.count_most, DepthLoop.depth_done, ColumnLoop.kept_elements}
use Rattle.gemm.proofs.gemm.gemm.Given.{Over}
use Rattle.gemm.proofs.gemm.gemm.Goals as goal
use Rattle.gemm.proofs.gemm.gemm.Goals.{In_ok-judge}

pub returns-in_err-judge : goal.returns-in_err-judge
unfolding Verdict
returns-in_err-judge g c =
    let a = c.args in
    let is = g.T.Element.held.is in
    let floats = g.T.Real.Real.floats in
    let long = length_floats g.met.T.Real.Real.each in
    let p = err_from_is_err_and c.from_residual.result c.from_residual.ensures.1 in
    let q : Call g.T.Element.kind = call_of g.T.Element.kind a.m a.k a.n (is a.alpha) a.la a.lb (is a.beta) a.lc in
    rw (p.1, p.2) (out_refused q (floats a.a.now) (floats a.b.now) (floats a.c.now) (floats a.pack.now) (Err _)
    (rw (
      c.kind.ensures,
      c.count.ensures.0 ∙ sym (long a.a.now),
      c.count-2.ensures.0 ∙ sym (long a.b.now),
      c.count-3.ensures.0 ∙ sym (long a.c.now),
      sym (long a.pack.now),
    ) at c.in_err-judge.ensures)
    (refusal_some _))

-- a call that was not refused
abbrev whole : (g : Over) → In_ok-judge g → Call g.T.Element.kind
whole g c =
    let a = c.args in call_of g.T.Element.kind a.m a.k a.n (g.T.Element.held.is a.alpha) a.la a.lb (g.T.Element.held.is a.beta) a.lc

accepted : (g : Over) (c : In_ok-judge g) → let a = c.args in let floats = g.T.Real.Real.floats in
    Verdict (length (floats a.pack.now)) (whole g c) (lengths (floats a.a.now) (floats a.b.now) (floats a.c.now)) 0
unfolding Verdict
accepted g c =
    let a = c.args in
    let long = length_floats g.met.T.Real.Real.each in
    rw (
      c.kind.ensures,
      c.count.ensures.0 ∙ sym (long a.a.now),
      c.count-2.ensures.0 ∙ sym (long a.b.now),
      c.count-3.ensures.0 ∙ sym (long a.c.now),
      sym (long a.pack.now),
    ) at c.in_ok-judge.ensures

-- a slice's elements are no more than its reals, and those are few
few : (g : Over) (s : List g.row.T-Real.Denot) {n : ℕ} → n ≡ length s → n < 2 ^ 62
    → (view_of g.T.Element.kind).count (length (g.T.Real.Real.floats s)) < 2 ^ 62
few g s e h =
    let k = g.T.Element.kind in
    omega (arith, count_most k (length (g.T.Real.Real.floats s)), length_floats g.met.T.Real.Real.each s, e)

target : (g : Over) (c : In_ok-judge g) → 0 < c.args.m → 0 < c.args.n → let a = c.args in
    Writable a.m a.n a.lc ((view_of g.T.Element.kind).count (length (g.T.Real.Real.floats a.c.now)))
unfolding Verdict
target g c m n =
    writable_c g.T.Element.kind _ (whole g c).over _ (accepted g c) m n (few g c.args.c.now c.count-3.ensures.0 c.count-3.ensures.1)

-- an end that leaves D in C and the pack buffer as it was, with nothing to do for the loops
idle : (g : Over) (c : In_ok-judge g) (D : List Float) → let a = c.args in let floats = g.T.Real.Real.floats in
    Does (whole g c) (floats a.a.now) (floats a.b.now) (floats a.c.now) D
    → Outcome (whole g c) (floats a.a.now) (floats a.b.now) (floats a.c.now) D (floats a.pack.now) (floats a.pack.now) (Ok tt)
idle g c D d =
    let a = c.args in
    let floats = g.T.Real.Real.floats in
    out_idle (whole g c) (floats a.a.now) (floats a.b.now) (floats a.c.now) (floats a.pack.now) (Ok tt) (accepted g c) refl D d

-- one of two, of the code's tests
either : {P Q X : Type 0} → P ⊎ (X × Q) → P ⊎ Q
either (inl p) = inl p
either (inr q) = inr q.1

pub returns-then-m-eq0 : goal.returns-then-m-eq0
returns-then-m-eq0 g c =
    let j = (goal.at.returns-then-m-eq0 g c).In_ok-judge in
    let a = c.args in
    let floats = g.T.Real.Real.floats in
    idle g j (floats a.c.now) (does_empty (whole g j) (floats a.a.now) (floats a.b.now) (floats a.c.now) (either c.then-m-eq0.either))

pub c_to_beta_c-requires : goal.c_to_beta_c-requires
c_to_beta_c-requires g c = target g (goal.at.c_to_beta_c-requires g c).In_ok-judge (omega arith) (omega arith)

pub returns-then-k-eq0 : goal.returns-then-k-eq0
returns-then-k-eq0 g c =
    let j = (goal.at.returns-then-k-eq0 g c).In_ok-judge in
    let a = c.args in
    let floats = g.T.Real.Real.floats in
    idle g j _ (does_flat (whole g j) (floats a.a.now) (floats a.b.now) (floats a.c.now) _ c.if-k-eq0.true
    (rw c.from_beta.ensures at c.c_to_beta_c.ensures))

-- A and B may be read
pub invariant_of-a : goal.invariant_of-a
unfolding Verdict
invariant_of-a g c =
    let j = (goal.at.invariant_of-a g c).In_ok-judge in
    record {
      readable = readable_a g.T.Element.kind _ (whole g j).over _ (accepted g j) (omega arith) (omega arith) (omega arith)
          (few g c.args.a.now c.count.ensures.0 c.count.ensures.1);
    }

pub invariant_of-b : goal.invariant_of-b
unfolding Verdict
invariant_of-b g c =
    let j = (goal.at.invariant_of-b g c).In_ok-judge in
    record {
      readable = readable_b g.T.Element.kind _ (whole g j).over _ (accepted g j) (omega arith) (omega arith) (omega arith)
          (few g c.args.b.now c.count-2.ensures.0 c.count-2.ensures.1);
    }

pub gemm_loop-requires : goal.gemm_loop-requires
unfolding Verdict
gemm_loop-requires g c =
    let j = (goal.at.gemm_loop-requires g c).In_ok-judge in
    let e : depth_chunk ≡ c.DEPTH_CHUNK.result = g.met.T.Element.constants.depth ∙ sym c.DEPTH_CHUNK.ensures in
    rw (sym e) (record {
      depth = (refl, omega arith);
      writable = target g j (omega arith) (omega arith);
      room = enough_room g.T.Element.kind _ (whole g j).over _ (accepted g j) (omega arith) (omega arith) (omega arith);
    })

pub returns : goal.returns
unfolding Does
returns g c =
    let j = (goal.at.returns g c).In_ok-judge in
    let a = c.args in
    let is = g.T.Element.held.is in
    let floats = g.T.Real.Real.floats in
    let e : depth_chunk ≡ c.DEPTH_CHUNK.result = g.met.T.Element.constants.depth ∙ sym c.DEPTH_CHUNK.ensures in
    let left = rw (sym e) at c.gemm_loop.ensures in
    out_full (whole g j) (floats a.a.now) (floats a.b.now) (floats a.c.now) (floats a.pack.now) (Ok tt) (accepted g j) refl _
    (depth_done g.T.Element.kind depth_chunk (is a.alpha) (is a.beta) (floats a.a.now) (floats a.b.now) a.la a.lb a.k (omega arith)
    left.does)
    _ (none_idle (whole g j).over (omega arith) (omega arith) (omega arith))
    (record { same_length = left.keeps.same_length; beyond = kept_elements g.T.Element.kind _ left.keeps })
