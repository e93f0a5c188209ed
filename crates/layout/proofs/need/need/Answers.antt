-- `need` meets its contract: nothing where a size is zero, else the packed length in the kind's own numbers, which are small.
-- Assumes nothing.
use Rattle.std.proofs.Common.{◌≡◌, ℕ, ◌+◌, ◌*◌, min, sym, ap, ◌∙◌, arith}
use Rattle.std.proofs.Math.Nat.{pos_of_ne-zero}
use Rattle.element.specs.declared.kind.Tiling.{Tiling}
use Rattle.element.specs.Kinds.{tiling_of, depth_chunk}
use Rattle.layout.specs.Need.{round_up}
use Rattle.layout.specs.NeedLaws.{need_some, need_some_lem, need_idle, multiple_up, Small, small_at, packed_max}
use Rattle.layout.proofs.need.need.Goals as goal
use Rattle.layout.proofs.need.need.Goals.{After-min-3}

pub returns-then-m-eq0 : goal.returns-then-m-eq0
returns-then-m-eq0 c = let a = c.args in sym (need_idle (tiling_of a.kind) depth_chunk a.m a.k a.n c.then-m-eq0.either)

-- the tiling that the code has is a kind's
small : (c : After-min-3) → Small c.tiling-tiling.result
small c = small_at c.args.kind c.tiling-tiling.ensures

-- the code's product
whole : (c : After-min-3) → let s = c.tiling-tiling.result in
    c.min-3.result * (c.next_multiple_of-rows.result + c.next_multiple_of-columns.result)
    ≡ need_some s depth_chunk c.args.m c.args.k c.args.n
whole c =
    let s = c.tiling-tiling.result in
    let x = c.next_multiple_of-rows.ensures in
    let y = c.next_multiple_of-columns.ensures in
    let rows = multiple_up _ s.mr _ (small c).mr_some x.lower_bound x.upper_bound x.multiple
    ∙ ap (λ (z : ℕ). round_up z s.mr) c.min.ensures in
    let columns = multiple_up _ s.nr _ (small c).nr_some y.lower_bound y.upper_bound y.multiple
    ∙ ap (λ (z : ℕ). round_up z s.nr) c.min-2.ensures in
    let depth = c.min-3.ensures ∙ ap (λ (z : ℕ). min c.args.k z) c.depth_chunk.ensures in
    λ i. depth i * (rows i + columns i)

pub overflow_mul-result : goal.overflow_mul-result
overflow_mul-result c =
    omega (arith, whole c, packed_max c.tiling-tiling.result (small c) depth_chunk c.args.m c.args.k c.args.n (omega arith))

pub returns : goal.returns
returns c =
    let a = c.args in
    whole c ∙ ap (λ (s : Tiling). need_some s depth_chunk a.m a.k a.n) c.tiling-tiling.ensures
    ∙ sym (need_some_lem (tiling_of a.kind) depth_chunk a.m a.k a.n (pos_of_ne-zero c.if-m-eq0.false) (pos_of_ne-zero c.if-k-eq0.false)
    (pos_of_ne-zero c.if-n-eq0.false))
