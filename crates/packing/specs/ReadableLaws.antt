-- That a matrix may be read has one proof at most. Assumes nothing.
use Rattle.std.specs.Prelude.{ℕ, ℤ, pos, negsuc}
use Rattle.std.specs.Coded.{le_prop}
use Rattle.layout.specs.declared.operand.Operand.{Operand}
use Rattle.layout.specs.Operands.{Inside, Readable}

inside_prop : (len : ℕ) (z : ℤ) → IsProp (Inside len z)
unfolding Inside
inside_prop len (pos x) = hlevel le_prop
inside_prop len (negsuc x) = hlevel

pub readable_prop : {m n : ℕ} {o : Operand} {len : ℕ} → IsProp (Readable m n o len)
readable_prop = hlevel (le_prop, inside_prop)
