-- How many floats a row of w elements is, as the code counts them and as a packing does. Assumes nothing.
use Rattle.std.proofs.Common.{◌≡◌, ℕ, ◌*◌, ◌≤◌, sym, ap, ◌∙◌, arith}
use Rattle.element.specs.Kinds.{view_of, per_element}
use Rattle.element.specs.declared.kind.Kind.{Kind}
use Rattle.element.specs.declared.kind.Kind.TheVariants.{F32, F64, C32, C64}
use Rattle.loops.specs.Panels.{packing_of}
use Rattle.loops.specs.ColumnLoop.{family}

pub row_floats : (kind : Kind) {reals stated : ℕ} → reals ≡ stated → per_element kind ≡ stated → (w : ℕ)
    → w * reals ≡ (packing_of kind).floats w
row_floats kind e f w = ap (λ (k : ℕ). w * k) (e ∙ sym f) ∙ sym ((family kind).floats_is w)

-- there are no more elements than floats
pub elements_few : (kind : Kind) (n : ℕ) → (view_of kind).count n ≤ n
elements_few F32 n = omega arith
elements_few F64 n = omega arith
elements_few C32 n = omega arith
elements_few C64 n = omega arith
