-- Derived from crates/kernel/proofs/real32/F32Kernel/masked_kernel/Answers.antt by tools/derive: edit that.
-- `masked_kernel` meets its contract: the cells of the kernel's tile are the parts that are put. Assumes nothing.
use Rattle.rules.specs.Held.{float}
use Rattle.element.specs.Fates.{fate_of}
use Rattle.element.specs.Kinds.{arith_of, view_of, tiling_of}
use Rattle.element.specs.declared.kind.Kind.TheVariants.{F64}
use Rattle.loops.specs.Panels.{packing_of}
use Rattle.kernel.proofs.PutLaws.{rows_put}
use Rattle.kernel.proofs.real64.F64Kernel.masked_kernel.Goals as goal

pub returns : goal.returns
returns c =
    let a = c.args in
    let t = tiling_of F64 in
    rows_put (arith_of F64) float (view_of F64) a.lc t.mr t.nr a.rows a.cols a.kc (fate_of float.is a.fate) a.alpha
    ((packing_of F64).lane a.a.now t.mr) ((packing_of F64).lane a.b.now t.nr) c.requires.rows_le_mr.0 c.requires.rows_le_mr.1
    c.kernel.ensures c.c_to_masked_ab_beta_c.ensures
