-- `place` meets its contract: each step of the signed sum fits, and reads back as the number it is. Assumes nothing.
use Rattle.std.proofs.Common.{rules, ap, nat_abs}
use Rattle.layout.specs.Index.{r_need, cast_need, place_is}
use Rattle.layout.proofs.operand.Operand.place.Goals as goal

pub overflow_add-result-2 : goal.overflow_add-result-2
overflow_add-result-2 c = r_need c.args.self c.args.i c.args.j c.requires (search rules) (search rules)

pub overflow_cast-result-4 : goal.overflow_cast-result-4
overflow_cast-result-4 c = cast_need c.args.self c.args.i c.args.j c.requires (search rules) (search rules)

pub returns : goal.returns
returns c = ap nat_abs (place_is c.args.self c.args.i c.args.j c.requires (search rules) (search rules))
