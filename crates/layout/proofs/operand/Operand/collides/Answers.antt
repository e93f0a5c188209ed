-- `collides` meets its contract: with no place none meet; one row or column by its stride; rows or columns one behind another do not;
-- else by the greatest common divisor. Assumes nothing.
use Rattle.std.proofs.Common.{rules, ◌≡◌, ◌<◌, ap, ◌∙◌, w64}
use Rattle.std.specs.Prelude.{unsigned_abs}
use Rattle.std.proofs.Math.Nat.{pos_of_ne-zero}
use Rattle.std.proofs.lemmas.Int.{to_z-of_z}
use Rattle.layout.specs.Collisions.{one_row_tells, one_column_tells, still_meet}
use Rattle.layout.specs.Collisions.{rows_apart, columns_apart, steps_inside_tell, steps_outside_tell}
use Rattle.layout.specs.Tests.{tells_true, tells_false}
use Rattle.layout.proofs.operand.Operand.collides.Goals as goal
use Rattle.layout.proofs.operand.Operand.collides.Goals.{After-unsigned_abs-b}
use Rattle.layout.proofs.operand.Operand.collides.Goals.{then-reach-a-via-then-reach-a, then-reach-a-via-else-reach-a+then-reach-b}

-- the two magnitudes
a_is : (c : After-unsigned_abs-b) → c.unsigned_abs-a.result ≡ unsigned_abs c.args.self.rs
a_is c = c.unsigned_abs-a.ensures.value ∙ ap unsigned_abs (to_z-of_z w64 c.args.self.rs (search rules))

b_is : (c : After-unsigned_abs-b) → c.unsigned_abs-b.result ≡ unsigned_abs c.args.self.cs
b_is c = c.unsigned_abs-b.ensures.value ∙ ap unsigned_abs (to_z-of_z w64 c.args.self.cs (search rules))

-- there are places
some_rows : (c : After-unsigned_abs-b) → 0 < c.args.rows
some_rows c = pos_of_ne-zero c.if-rows-eq0.false

some_columns : (c : After-unsigned_abs-b) → 0 < c.args.columns
some_columns c = pos_of_ne-zero c.if-columns-eq0.false

pub returns-then-columns-ge2 : goal.returns-then-columns-ge2
returns-then-columns-ge2 c =
    let s = (goal.at.returns-then-columns-ge2 c).After-unsigned_abs-b in
    one_row_tells (a_is s) (b_is s) c.if-rows-lt2.true c.if-columns-ge2.true (some_rows s)

pub returns-then-columns-lt2 : goal.returns-then-columns-lt2
returns-then-columns-lt2 c =
    let s = (goal.at.returns-then-columns-lt2 c).After-unsigned_abs-b in
    one_column_tells (a_is s) (b_is s) c.if-rows-lt2.false c.if-columns-lt2.true (some_columns s)

pub returns-then-a-eq0 : goal.returns-then-a-eq0
returns-then-a-eq0 c =
    let s = (goal.at.returns-then-a-eq0 c).After-unsigned_abs-b in
    tells_true (still_meet (a_is s) (b_is s) c.if-rows-lt2.false c.if-columns-lt2.false c.then-a-eq0.either)

pub returns-then-reach-a : goal.returns-then-reach-a
returns-then-reach-a c =
    let s = (goal.at.returns-then-reach-a c).After-unsigned_abs-b in
    elim c.then-reach-a.branch [
      | then-reach-a-via-then-reach-a w ↦
          tells_false (rows_apart (a_is s) (b_is s) c.reach.ensures.0 (pos_of_ne-zero c.if-b-eq0.false) w.if-reach-a.true)
      | then-reach-a-via-else-reach-a+then-reach-b w ↦
          tells_false (columns_apart (a_is s) (b_is s) w.reach-else-reach-a.ensures.0 (pos_of_ne-zero c.if-a-eq0.false) w.if-reach-b.true)
    ]

pub returns-then-b-g : goal.returns-then-b-g
returns-then-b-g c =
    let s = (goal.at.returns-then-b-g c).After-unsigned_abs-b in
    steps_inside_tell (a_is s) (b_is s) c.gcd-g.ensures.0 (pos_of_ne-zero c.if-b-eq0.false) c.gcd-g.ensures.1 c.if-b-g.true

pub returns-else-b-g : goal.returns-else-b-g
returns-else-b-g c =
    let s = (goal.at.returns-else-b-g c).After-unsigned_abs-b in
    steps_outside_tell (a_is s) (b_is s) c.gcd-g.ensures.0 (pos_of_ne-zero c.if-b-eq0.false) c.gcd-g.ensures.1 c.if-b-g.false
