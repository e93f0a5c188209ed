-- The constants by which the code of a kind goes, in terms of the kind; and the first of some panels. Assumes nothing.
use Rattle.std.specs.Prelude.{◌≡◌, ℕ, zero, suc, min, ◌*◌, ◌<◌, ◌≤◌}
use Rattle.std.proofs.Common.{sym, ap, ◌∙◌, arith}
use Rattle.rules.specs.Element.{chunks}
use Rattle.element.specs.Kinds.{Constants, view_of, tiling_of, per_element}
use Rattle.layout.specs.{Need.round_up, NeedLaws.round_lt}
use Rattle.element.specs.declared.kind.Kind.{Kind}
use Rattle.element.specs.declared.kind.Kind.TheVariants.{F32, F64, C32, C64}
use Rattle.loops.specs.Panels.{packing_of}
use Rattle.loops.specs.PanelLaws.{next_fits, panels_all}
use Rattle.loops.specs.ColumnLoop.{family}

module _ {kind : Kind} {mc ch nc mr nr per : ℕ} (k : Constants kind mc ch nc mr nr per) where
  -- the floats of a panel of width w
  pub panel_floats : (kc w : ℕ) → kc * (w * per) ≡ kc * (packing_of kind).floats w
  panel_floats kc w = ap (λ (z : ℕ). kc * z) (ap (λ (z : ℕ). w * z) (sym k.reals) ∙ sym ((family kind).floats_is w))

-- where there is a row there is a panel
pub panel_some : (w m : ℕ) → 0 < w → 0 < m → 0 < chunks w m
panel_some w m hw hm = go (chunks w m) (panels_all w m hw)
  where
    go : (q : ℕ) → m ≤ q * w → 0 < q
    go zero h = omega arith
    go (suc q) h = omega arith

-- so the first panel of p floats is no longer than all of them
pub first_fits : (w m p : ℕ) → 0 < w → 0 < m → p ≤ chunks w m * p
first_fits w m p hw hm = omega (arith, next_fits p {q = 0} {n = chunks w m} (panel_some w m hw hm))

-- no chunk is empty, and a tile has no more columns than rows
pub chunk_some : (kind : Kind) → (0 < (tiling_of kind).mc) × (0 < (tiling_of kind).nc)
chunk_some F32 = (omega arith, omega arith)
chunk_some F64 = (omega arith, omega arith)
chunk_some C32 = (omega arith, omega arith)
chunk_some C64 = (omega arith, omega arith)

pub columns_within : (kind : Kind) → (tiling_of kind).nr ≤ (tiling_of kind).mr
columns_within F32 = omega arith
columns_within F64 = omega arith
columns_within C32 = omega arith
columns_within C64 = omega arith

-- the longest row chunk's rows, rounded up, are few
pub rows_few : (kind : Kind) (m : ℕ) → round_up (min m (tiling_of kind).mc) (tiling_of kind).mr * per_element kind ≤ 142
rows_few F32 m = omega (arith, round_lt (min m 64) 8 (omega arith))
rows_few F64 m = omega (arith, round_lt (min m 64) 4 (omega arith))
rows_few C32 m = omega (arith, round_lt (min m 32) 4 (omega arith))
rows_few C64 m = omega (arith, round_lt (min m 32) 4 (omega arith))

-- so many floats hold no more elements than that
pub count_most : (kind : Kind) (n : ℕ) → (view_of kind).count n ≤ n
count_most F32 n = omega arith
count_most F64 n = omega arith
count_most C32 n = omega arith
count_most C64 n = omega arith
