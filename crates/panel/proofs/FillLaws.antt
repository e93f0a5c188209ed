-- A slice of reals whose first ones are the file's elements. Assumes nothing.
use Rattle.std.proofs.Common.{◌≡◌, sym, ap, ◌∙◌, ℕ, ◌+◌, ◌≤◌, zero-add, List, ◌++◌, length, take, drop, map, length-take-le}
use Rattle.std.specs.Prelude.{Float}
use Rattle.rules.specs.Lists.{tab, splice}
use Rattle.rules.specs.ListLaws.{length-tab}
use Rattle.element.specs.FloatLaws.{drop_floats, append_floats}

-- the first n reals, which are m, are g's, and the others are as they were
pub first_filled : {N : Type 0} {is : N → Float} {floats : List N → List Float} → ((s : List N) → floats s ≡ map is s)
    → (s t : List N) (n m : ℕ) (g : ℕ → Float) → n ≤ length s → n ≡ m → floats t ≡ tab (length (take n s)) g
    → floats (t ++ drop n s) ≡ splice (floats s) 0 (tab m g)
unfolding splice
first_filled {floats} each s t n m g h e p =
    let filled : floats t ≡ tab m g = p ∙ ap (λ (k : ℕ). tab k g) (length-take-le n s h ∙ e) in
    let behind : n ≡ 0 + length (tab m g) = e ∙ sym (length-tab m g) ∙ sym (zero-add (length (tab m g))) in
    append_floats each t (drop n s)
    ∙ (λ i. filled i ++ (drop_floats each n s ∙ ap (λ (k : ℕ). drop k (floats s)) behind) i)
