-- Rows that are neighbours in the slice: their indexes follow one another and are inside it. Assumes nothing.
use Rattle.std.specs.Prelude.{◌≡◌, ℕ, ◌+◌, ◌-◌, ◌*◌, ◌<◌, ◌≤◌, pos}
use Rattle.std.proofs.Common.{ap, ◌∙◌, mul-zero, mul-one, arith}
use Rattle.layout.specs.declared.operand.Operand.{Operand}
use Rattle.layout.specs.Place.{place_of, index_of}
use Rattle.layout.specs.Operands.{Readable}
use Rattle.layout.proofs.BasedLaws.{index_lt}
use Rattle.layout.specs.Splits.{up, dn}
use Rattle.layout.specs.Signs.{abs_is, place_bal, inside_is}

-- w rows from `first` on of an operand whose row stride is one, none of them missing, at depth p
module _ {m kc len : ℕ} {o : Operand} (read : Readable m kc o len) (one : o.rs ≡ pos 1) (w first p : ℕ) (full : first + w ≤ m)
    (lp : p < kc) where
  rises : (k : ℕ) → k * up o.rs ≡ k
  rises k = ap (λ z. k * up z) one ∙ mul-one k

  falls : (k : ℕ) → k * dn o.rs ≡ 0
  falls k = ap (λ z. k * dn z) one ∙ mul-zero k

  pub neighbour_index : (i : ℕ) → i < w → index_of o (first + i) p ≡ index_of o first p + i
  neighbour_index i l =
      omega (
        arith,
        abs_is (place_of o (first + i) p),
        abs_is (place_of o first p),
        rises first,
        rises (first + i),
        falls first,
        falls (first + i),
        place_bal o (first + i) p,
        place_bal o first p,
        inside_is len (place_of o (first + i) p) (read.inside (first + i) p (omega arith) lp),
        inside_is len (place_of o first p) (read.inside first p (omega arith) lp),
      )

  pub neighbours_fit : 0 < w → index_of o first p + w ≤ len
  neighbours_fit h = omega (arith, neighbour_index (w - 1) (omega arith), index_lt read (first + (w - 1)) p (omega arith) lp)
