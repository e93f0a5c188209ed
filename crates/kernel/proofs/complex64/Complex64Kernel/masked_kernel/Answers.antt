-- Derived from crates/kernel/proofs/complex32/Complex32Kernel/masked_kernel/Answers.antt by tools/derive: edit that.
-- `masked_kernel` meets its contract: the numbers of the kernel's tile are the parts that are put, over C transposed. Assumes nothing.
use Rattle.std.proofs.Common.{rules}
use Rattle.rules.specs.Held.{float}
use Rattle.element.specs.Fates.{fate_of}
use Rattle.element.specs.Kinds.{arith_of, view_of, tiling_of}
use Rattle.element.specs.Numbers.{complex_held}
use Rattle.element.specs.declared.kind.Kind.TheVariants.{C64}
use Rattle.loops.specs.Panels.{packing_of}
use Rattle.kernel.proofs.PutLaws.{columns_put, writable_transposed}
use Rattle.kernel.proofs.complex64.Complex64Kernel.masked_kernel.Goals as goal

pub c_to_masked_ab_beta_c-requires : goal.c_to_masked_ab_beta_c-requires
c_to_masked_ab_beta_c-requires c =
    let w = writable_transposed c.requires.writable in rw c.transpose.ensures (search rules)

pub returns : goal.returns
returns c =
    let a = c.args in
    let t = tiling_of C64 in
    let held = complex_held float in
    columns_put (arith_of C64) held (view_of C64) a.lc t.mr t.nr a.rows a.cols a.kc (fate_of held.is a.fate) (held.is a.alpha)
    ((packing_of C64).lane a.a.now t.mr) ((packing_of C64).lane a.b.now t.nr) c.requires.rows_le_mr.0 c.requires.rows_le_mr.1
    c.kernel-ab.ensures (rw c.transpose.ensures at c.c_to_masked_ab_beta_c.ensures)
