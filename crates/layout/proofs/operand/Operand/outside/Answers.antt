-- `outside` meets its contract: with no place none is outside, else the lowest and the highest corner decide. Assumes nothing.
use Rattle.std.proofs.Common.{rules, w64}
use Rattle.std.proofs.Math.Nat.{pos_of_ne-zero}
use Rattle.std.proofs.lemmas.Int.{to_z-of_z}
use Rattle.layout.specs.Splits.{IsSpan}
use Rattle.layout.specs.Corners.{spans_below, spans_tell}
use Rattle.layout.specs.Tests.{tells_above}
use Rattle.layout.proofs.operand.Operand.outside.Goals as goal
use Rattle.layout.proofs.operand.Operand.outside.Goals.{After-span_of-across}

-- the spans of the two axes
down : (c : After-span_of-across) → IsSpan c.args.rows c.args.self.rs c.span_of-down.result
down c = rw (to_z-of_z w64 c.args.self.rs (search rules)) at c.span_of-down.ensures

across : (c : After-span_of-across) → IsSpan c.args.columns c.args.self.cs c.span_of-across.result
across c = rw (to_z-of_z w64 c.args.self.cs (search rules)) at c.span_of-across.ensures

pub returns-then-self-low : goal.returns-then-self-low
returns-then-self-low c =
    let s = (goal.at.returns-then-self-low c).After-span_of-across in
    tells_above
    (spans_below (pos_of_ne-zero c.if-rows-eq0.false) (pos_of_ne-zero c.if-columns-eq0.false) (down s) (across s))
    (λ out. c.if-self-low.true)

pub returns-else-self-low : goal.returns-else-self-low
returns-else-self-low c =
    let s = (goal.at.returns-else-self-low c).After-span_of-across in
    rw c.saturating_sub.ensures
    (spans_tell (pos_of_ne-zero c.if-rows-eq0.false) (pos_of_ne-zero c.if-columns-eq0.false) (down s) (across s) c.if-self-low.false)
