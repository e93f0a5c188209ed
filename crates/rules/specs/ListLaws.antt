-- Laws of lists filled in order: what stores one after the other leave, how it is read back, how a lent part comes back; tables;
-- arrays that a loop fills. Assumes nothing.
use Rattle.std.specs.Prelude.{◌≡◌, set}
use Rattle.std.proofs.Math.Path.{refl, sym, ap}
use Rattle.std.proofs.Common.{◌∙◌, zero-mul, eq-or-lt_of_le, le_of_suc-le-suc, not-suc-le-zero, below_more, take-append-drop, length-set}
use Rattle.std.proofs.Common.{ext_get_or, get_or-set_same, get_or-set_other}
use Rattle.std.proofs.Math.Logic.{⊎_elim}
use mathlib.Core.List.{List, [], ◌∷◌, ◌++◌, append_assoc, append-nil}
use Prim.Native.Nat.{ℕ, zero, suc, ◌+◌, ◌-◌, ◌*◌, ◌<◌, ◌≤◌}
use Rattle.std.proofs.Math.Nat.{add-zero, zero-add, add_assoc, suc-mul, mul-le-mul_right}
use Rattle.std.proofs.Math.Numerals.{add-one}
use Rattle.std.proofs.Math.Decide.{dec_lt}
use native.Mathlib.Omega.{arith}
use borrow.Rule.Slice.PartMut.{mid_of, put_mid}
use Rattle.std.proofs.Math.ListN.{drop_of_length-le, length, take, drop, get_or, length-append, length-drop, get_or-append}
use Rattle.std.proofs.Math.Seq.{take_all, take_at, drop_at, drop-drop, length-take-le, get_or-append-add, get_or-drop}
use Rattle.std.proofs.lemmas.List.{set_split}
use Rattle.rules.specs.Lists.{tab, cat, splice, Filled}

module _ {A : Type 0} where
  pub splice_none : (d : List A) (at : ℕ) → splice d at [] ≡ d
  unfolding splice
  splice_none d at = rw add-zero (take-append-drop at d)

  pub length-splice : (d : List A) (at : ℕ) (new : List A) → at + length new ≤ length d → length (splice d at new) ≡ length d
  unfolding splice
  length-splice d at new h = simp (length-append, length-drop) (omega (arith, length-take-le at d (omega arith)))

  -- a second run, right after the first
  pub splice-splice : (d : List A) (at : ℕ) (a b : List A) → at + length a ≤ length d
      → splice (splice d at a) (at + length a) b ≡ splice d at (a ++ b)
  unfolding splice
  splice-splice d at a b h =
      let n : length (take at d ++ a) ≡ at + length a = length-append (take at d) a
      ∙ ap (λ (k : ℕ). k + length a) (length-take-le at d (omega arith)) in
      rw (
        ← append_assoc (take at d) a (drop (at + length a) d),
        take_at (take at d ++ a) (drop (at + length a) d) (at + length a) n,
        ← drop-drop (length b) (at + length a) ((take at d ++ a) ++ drop (at + length a) d),
        drop_at (take at d ++ a) (drop (at + length a) d) (at + length a) n,
        drop-drop (length b) (at + length a) d,
        append_assoc (take at d) a,
        append_assoc a b,
        length-append a b,
        add_assoc at (length a) (length b),
      )

  pub set-splice : (d : List A) (i : ℕ) (v : A) → i < length d → set d i v ≡ splice d i (v ∷ [])
  unfolding splice
  set-splice d i v h = rw (add-one i) (set_split d i v h)

  pub length-cat : (g : ℕ → List A) (w : ℕ) → ((q : ℕ) → length (g q) ≡ w) → (n : ℕ) → length (cat n g) ≡ n * w
  unfolding cat
  length-cat g w h zero = sym (zero-mul w)
  length-cat g w h (suc n) = rw (length-append (cat n g) (g n), length-cat g w h n, h n, suc-mul n w)

  -- one more run of a loop: the next w elements, where the last run ended
  pub cat_more : (g : ℕ → List A) (w : ℕ) → ((q : ℕ) → length (g q) ≡ w) → (d : List A) (at q : ℕ) {e e' : List A} → at + q * w ≤ length d
      → e ≡ splice d at (cat q g) → e' ≡ splice e (at + q * w) (g q) → e' ≡ splice d at (cat (q + 1) g)
  unfolding cat
  cat_more g w h d at q {e} {e'} fits u v =
      let n : length (cat q g) ≡ q * w = length-cat g w h q in
      v ∙ rw (u, add-one q, ← n, splice-splice d at (cat q g) (g q) (omega arith))

  -- what is written at each turn may be said in two ways
  pub cat_ext : (g h : ℕ → List A) (n : ℕ) → ((q : ℕ) → q < n → g q ≡ h q) → cat n g ≡ cat n h
  unfolding cat
  cat_ext g h zero e = refl
  cat_ext g h (suc n) e = rw (cat_ext g h n (λ q l. e q (omega arith)), e n (omega arith))

  pub cat_none : (g : ℕ → List A) (d : List A) (at : ℕ) → d ≡ splice d at (cat 0 g)
  unfolding cat
  cat_none g d at = sym (splice_none d at)

  -- reading
  pub get_or_in : (d : List A) (at : ℕ) (new : List A) (k : ℕ) (z : A) → at ≤ length d → k < length new
      → get_or (splice d at new) (at + k) z ≡ get_or new k z
  unfolding splice
  get_or_in d at new k z h l =
      let n : length (take at d) ≡ at = length-take-le at d h in
      ap (λ (j : ℕ). get_or (take at d ++ (new ++ drop (at + length new) d)) (j + k) z) (sym n)
      ∙ get_or-append-add (take at d) _ k z ∙ get_or-append new _ z k l

  pub get_or_after : (d : List A) (at : ℕ) (new : List A) (k : ℕ) (z : A) → at ≤ length d → at + length new ≤ k
      → get_or (splice d at new) k z ≡ get_or d k z
  unfolding splice
  get_or_after d at new k z h l =
      let n : length (take at d ++ new) ≡ at + length new = length-append (take at d) new
      ∙ ap (λ (j : ℕ). j + length new) (length-take-le at d h) in
      let e : k ≡ length (take at d ++ new) + (k - (at + length new)) = omega arith in
      rw (← append_assoc (take at d) new (drop (at + length new) d))
      (ap (λ (j : ℕ). get_or ((take at d ++ new) ++ drop (at + length new) d) j z) e
      ∙ get_or-append-add (take at d ++ new) _ (k - (at + length new)) z
      ∙ get_or-drop (at + length new) d (k - (at + length new)) z
      ∙ ap (λ (j : ℕ). get_or d j z) (omega arith))

  pub get_or-cat : (g : ℕ → List A) (w : ℕ) → ((q : ℕ) → length (g q) ≡ w) → (n q i : ℕ) (z : A) → q < n → i < w
      → get_or (cat n g) (q * w + i) z ≡ get_or (g q) i z
  unfolding cat
  get_or-cat g w h zero q i z l m = absurd (not-suc-le-zero l)
  get_or-cat g w h (suc n) q i z l m =
      ⊎_elim
      (λ e. ap (λ (j : ℕ). get_or (cat n g ++ g n) (j * w + i) z) e ∙ ap (λ (j : ℕ). get_or (cat n g ++ g n) (j + i) z)
      (sym (length-cat g w h n))
      ∙ get_or-append-add (cat n g) (g n) i z ∙ ap (λ (j : ℕ). get_or (g j) i z) (sym e))
      (λ lt. get_or-append (cat n g) (g n) z (q * w + i)
      (omega (arith, length-cat g w h n, suc-mul q w, mul-le-mul_right w lt)) ∙ get_or-cat g w h n q i z lt m)
      (eq-or-lt_of_le (le_of_suc-le-suc l))

-- ---- a part from a on that was lent, and comes back

module _ {A : Type 0} where
  pub lent_from : (d : List A) (a : ℕ) (new : List A) {e : List A} → a ≤ length d
      → e ≡ splice (mid_of a (length d - a) d) 0 new → put_mid a (length d - a) d e ≡ splice d a new
  unfolding splice
  lent_from d a new {e} h u =
      let all : take (length d - a) (drop a d) ≡ drop a d = take_all (length d - a) (drop a d) (omega (arith, length-drop a d)) in
      let none : drop (length d - a) (drop a d) ≡ [] = drop_of_length-le (drop a d) {i = length d - a} (omega (arith, length-drop a d)) in
      rw (none, u, all, zero-add (length new), drop-drop (length new) a d, append_assoc new (drop (a + length new) d) [])
      (ap (λ (l : List A). take a d ++ (new ++ l)) (append-nil (drop (a + length new) d)))

-- ---- tables

pub get_or-tab : {A : Type 0} (n : ℕ) (g : ℕ → A) (i : ℕ) (z : A) → i < n → get_or (tab n g) i z ≡ g i
get_or-tab zero g i z l = absurd (not-suc-le-zero l)
get_or-tab (suc n) g zero z l = refl
get_or-tab (suc n) g (suc i) z l = get_or-tab n (λ k. g (suc k)) i z (le_of_suc-le-suc l)

pub length-tab : {A : Type 0} (n : ℕ) (g : ℕ → A) → length (tab n g) ≡ n
length-tab zero g = refl
length-tab (suc n) g = ap suc (length-tab n (λ k. g (suc k)))

pub tab_ext : {A : Type 0} (n : ℕ) (g h : ℕ → A) → ((i : ℕ) → i < n → g i ≡ h i) → tab n g ≡ tab n h
tab_ext zero g h e = refl
tab_ext (suc n) g h e = rw (e 0 (omega arith), tab_ext n (λ k. g (suc k)) (λ k. h (suc k)) (λ k l. e (suc k) (omega arith)))

-- ---- an array that a loop fills in order

module _ {A : Type 0} (z : A) (n : ℕ) (g : ℕ → A) (old : List A) where
  pub filled_none : length old ≡ n → Filled z n 0 g old old
  filled_none e = record { long = e; upto = omega arith; made = λ k l. absurd (not-suc-le-zero l); left = λ k l. refl }

  pub filled_more : (i : ℕ) {l : List A} {v : A} → Filled z n i g old l → i < n → v ≡ g i → Filled z n (i + 1) g old (set l i v)
  filled_more i {l} {v} f h e = record {
    long = length-set l i v ∙ f.long;
    upto = omega arith;
    made = below_more (λ (k : ℕ). get_or (set l i v) k z ≡ g k) i
        (λ k m. get_or-set_other l i k v z (λ u. omega arith) ∙ f.made k m)
        (get_or-set_same l i v z (omega (arith, f.long)) ∙ e);
    left = λ k m. get_or-set_other l i k v z (λ u. omega arith) ∙ f.left k (omega arith);
  }

  -- what the loop leaves is as it should be already
  pub filled_rest : (i : ℕ) {l : List A} → Filled z n i g old l → ((k : ℕ) → i ≤ k → k < n → get_or old k z ≡ g k) → l ≡ tab n g
  filled_rest i {l} f r =
      ext_get_or z l (tab n g) (f.long ∙ sym (length-tab n g))
      (λ k m. let h : k < n = omega (arith, f.long) in at_k k h (dec_lt k i) ∙ sym (get_or-tab n g k z h))
    where
      at_k : (k : ℕ) → k < n → Dec (k < i) → get_or l k z ≡ g k
      at_k k h (yes m) = f.made k m
      at_k k h (no m) = f.left k (omega arith) ∙ r k (omega arith) h

  pub filled_all : (i : ℕ) {l : List A} → Filled z n i g old l → n ≤ i → l ≡ tab n g
  filled_all i f h = filled_rest i f (λ k u v. let o : ⊥ = omega arith in absurd o)

  -- and where it ends before the array does, the rest is as it was
  pub filled_first : (i : ℕ) {l : List A} → Filled z n i g old l → length old ≡ n → l ≡ splice old 0 (tab i g)
  filled_first i {l} f e =
      let long : length (tab i g) ≡ i = length-tab i g in
      let fits : 0 + length (tab i g) ≤ length old = omega (arith, f.upto) in
      ext_get_or z l (splice old 0 (tab i g)) (f.long ∙ sym e ∙ sym (length-splice old 0 (tab i g) fits)) (λ k m. at_k k (dec_lt k i))
    where
      at_k : (k : ℕ) → Dec (k < i) → get_or l k z ≡ get_or (splice old 0 (tab i g)) k z
      at_k k (yes m) =
          f.made k m ∙ sym (get_or-tab i g k z m)
          ∙ sym (get_or_in old 0 (tab i g) k z (omega arith) (omega (arith, length-tab i g)))
          ∙ ap (λ (j : ℕ). get_or (splice old 0 (tab i g)) j z) (zero-add k)
      at_k k (no m) = f.left k (omega arith) ∙ sym (get_or_after old 0 (tab i g) k z (omega arith) (omega (arith, length-tab i g)))
