-- A slice's floats, one for each of its numbers: as many, and what is done to the numbers is done to the floats. Assumes nothing.
use Rattle.std.specs.Prelude.{◌≡◌, ℕ, ◌-◌, List, ◌++◌, length, get_or, take, drop, Float, map}
use Rattle.std.proofs.Common.{sym, ap, ◌∙◌}
use Rattle.std.proofs.Math.ListN.{set, get_or-map}
use borrow.Rule.Slice.PartMut.{mid_of, put_mid, post_of}
use Rattle.std.proofs.lemmas.List.{length-map, take-map, drop-map, map-append, map-set}

module _ {N : Type 0} {is : N → Float} {floats : List N → List Float} (each : (s : List N) → floats s ≡ map is s) where
  pub length_floats : (s : List N) → length (floats s) ≡ length s
  length_floats s = ap length (each s) ∙ length-map s is

  pub get_floats : (s : List N) (i : ℕ) (d : N) → get_or (floats s) i (is d) ≡ is (get_or s i d)
  get_floats s i d = ap (λ (t : List Float). get_or t i (is d)) (each s) ∙ get_or-map is s i d

  pub take_floats : (n : ℕ) (s : List N) → floats (take n s) ≡ take n (floats s)
  take_floats n s = each (take n s) ∙ sym (take-map is n s) ∙ ap (λ (t : List Float). take n t) (sym (each s))

  pub drop_floats : (n : ℕ) (s : List N) → floats (drop n s) ≡ drop n (floats s)
  drop_floats n s = each (drop n s) ∙ sym (drop-map is n s) ∙ ap (λ (t : List Float). drop n t) (sym (each s))

  pub append_floats : (s t : List N) → floats (s ++ t) ≡ floats s ++ floats t
  append_floats s t =
      each (s ++ t) ∙ map-append is s t ∙ ap (λ (u : List Float). u ++ map is t) (sym (each s))
      ∙ ap (λ (u : List Float). floats s ++ u) (sym (each t))

  pub set_floats : (s : List N) (i : ℕ) (x : N) → floats (set s i x) ≡ set (floats s) i (is x)
  set_floats s i x = each (set s i x) ∙ map-set is s i x ∙ ap (λ (t : List Float). set t i (is x)) (sym (each s))

  -- what is left of a slice from n on
  pub rest_floats : (n : ℕ) (s : List N) → floats (take (length s - n) (drop n s)) ≡ take (length (floats s) - n) (drop n (floats s))
  rest_floats n s = take_floats (length s - n) (drop n s) ∙ rw (sym (length_floats s), drop_floats n s)

  -- a part lent from n on, and r back in its place
  pub lent_floats : (n : ℕ) (s : List N) → floats (mid_of n (length s - n) s) ≡ mid_of n (length (floats s) - n) (floats s)
  lent_floats n s = rest_floats n s

  pub back_floats : (n : ℕ) (s r : List N) → floats (put_mid n (length s - n) s r) ≡ put_mid n (length (floats s) - n) (floats s) (floats r)
  back_floats n s r =
      append_floats (take n s) (r ++ post_of n (length s - n) s)
      ∙ rw (
        take_floats n s,
        append_floats r (post_of n (length s - n) s),
        drop_floats (length s - n) (drop n s),
        drop_floats n s,
        sym (length_floats s),
      )
