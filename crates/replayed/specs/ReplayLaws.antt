-- What running a recorded call and comparing it come to, for every kind. Assumes nothing.
use Rattle.std.specs.Prelude.{ℕ, ◌<◌, ◌≤◌, ◌≡◌, List, Float, length, get_or, take, drop, replicate}
use Rattle.std.specs.Prelude.{Result, Ok, Err}
use Rattle.std.proofs.Common.{refl, sym, ap, ◌∙◌, subst, arith, length-take-le}
use Rattle.std.specs.Float.{Format}
use Rattle.std.proofs.lemmas.List.{length-replicate}
use Rattle.refusal.specs.declared.Refusal.{Refusal}
use Rattle.refusal.specs.Numbers.{answer_number}
use Rattle.element.specs.Kinds.{arith_of, view_of, format_of}
use Rattle.element.specs.declared.kind.Kind.TheVariants.{F32, F64, C32, C64}
use Rattle.element.specs.declared.kind.Kind.{Kind}
use Rattle.floats.specs.Floats.{floats_of, FirstDifference}
use Rattle.call.specs.declared.judge.Lengths.{Lengths}
use Rattle.call.specs.declared.judge.Matrices.{Matrices}
use Rattle.call.specs.Call.{Call}
use Rattle.call.specs.Outcome.{Outcome}
use Rattle.sample.specs.declared.calls.Difference.{Difference}
use Rattle.sample.specs.Calls.{matrices_of}
use Rattle.replayed.specs.Replayed.{scalar_at, recorded, words_a, words_b, words_c, Ran, Compared, Replayed}

-- the entry point of k was handed the call that the words hold, which is of this kind
pub ran_by : {k kind : Kind} → k ≡ kind → (w : List ℕ) {q : Matrices} {alpha beta : (arith_of k).E} {A B C D P Q : List Float}
    {r : Result Unit Refusal} → q ≡ matrices_of w → alpha ≡ scalar_at k w 17 → beta ≡ scalar_at k w 19
    → Outcome {kind = k} (record { over = q; alpha = alpha; beta = beta }) A B C D P Q r → Ran kind w A B C D P Q r
ran_by {k} e w {A = A} {B} {C} {D} {P} {Q} {r} f g h o =
    subst (λ (z : Kind). Ran z w A B C D P Q r) e
    (subst (λ (q : Call k). Outcome q A B C D P Q r) (λ i. record { over = f i; alpha = g i; beta = h i }) o)

-- ---- alpha or beta is the first element of the two floats that its words hold

has_first : (kind : Kind) → 0 < (view_of kind).count 2
has_first F32 = omega arith
has_first F64 = omega arith
has_first C32 = omega arith
has_first C64 = omega arith

first_is : (kind : Kind) (w : List ℕ) (i : ℕ) → (view_of kind).get (floats_of (format_of kind) 2 (drop i w)) 0 ≡ scalar_at kind w i
first_is F32 w i = refl
first_is F64 w i = refl
first_is C32 w i = refl
first_is C64 w i = refl

module _ (kind : Kind) (f : Format) (words : List ℕ) {parts : List Float} (a : parts ≡ floats_of f 2 words) where
  pub scalar_there : 0 < (view_of kind).count (length parts)
  scalar_there = subst (λ (s : List Float). 0 < (view_of kind).count (length s)) (sym a) (has_first kind)

  pub scalar_by : format_of kind ≡ f → (w : List ℕ) (i : ℕ) → words ≡ drop i w → (view_of kind).get parts 0 ≡ scalar_at kind w i
  scalar_by e w i b =
      ap (λ (s : List Float). (view_of kind).get s 0) (a ∙ (λ j. floats_of (sym e j) 2 (b j))) ∙ first_is kind w i

-- ---- what the comparison found

module _ {f : Format} {number x : ℕ} {D : List Float} (w : List ℕ) (e : x ≡ get_or w 0 0) (same : number ≡ x) {rest : List ℕ}
    (behind : rest ≡ drop 1 w) {place : ℕ} (d : FirstDifference f D rest place) where
  pub other_float : place < length D → Compared f w number D (Err (Difference.Place place))
  other_float l = (same ∙ e, l, subst (λ (s : List ℕ). FirstDifference f D s place) behind d)

  pub no_difference : length D ≤ place → Compared f w number D (Ok tt)
  no_difference l = (same ∙ e, λ i m. (subst (λ (s : List ℕ). FirstDifference f D s place) behind d).agree i (omega arith))

-- ---- the slices are prefixes of arrays

pub prefix_long : (n : ℕ) (x : Float) → n ≤ 4096 → n ≡ length (take n (replicate 4096 x))
prefix_long n x h = sym (length-take-le n (replicate 4096 x) (rw (length-replicate 4096 x) h))

pub prefix_is : {n m : ℕ} (x : Float) → n ≤ 4096 → n ≡ m → length (take n (replicate 4096 x)) ≡ m
prefix_is {n} x h e = sym (prefix_long n x h) ∙ e

pub replayed_over : {k : Kind} {w : List ℕ} {p p' : ℕ} {n n' : Lengths} {o : Result Unit Difference} → p ≡ p' → n ≡ n' → Replayed k w p n o
    → Replayed k w p' n' o
replayed_over {k} {w} {p} {p'} {n} {n'} {o} e f run =
    subst (λ (z : Lengths). Replayed k w p' z o) f (subst (λ (z : ℕ). Replayed k w z n o) e run)

-- ---- the slices were filled from the words, one behind the other, and the call was run and compared

module _ {kind : Kind} {f : Format} (k : format_of kind ≡ f) (w : List ℕ) (n : Lengths)
    {A B C D P Q : List Float} {wa wb wc rest : List ℕ}
    (from : wa ≡ words_a w)
    (a : (A ≡ floats_of f n.a wa) × (wb ≡ drop n.a wa))
    (b : (B ≡ floats_of f n.b wb) × (wc ≡ drop n.b wb))
    (c : (C ≡ floats_of f n.c wc) × (rest ≡ drop n.c wc)) where
  pub replayed_by : {r : Result Unit Refusal} {number pack : ℕ} {o : Result Unit Difference} → length P ≡ pack → Ran kind w A B C D P Q r
      → number ≡ answer_number r → Compared f rest number D o → Replayed kind w pack n o
  replayed_by {r} {number} {pack} {o} long run is seen =
      let wb' : wb ≡ words_b n w = a.1 ∙ ap (drop n.a) from in
      let wc' : wc ≡ words_c n w = b.1 ∙ ap (drop n.b) wb' in
      let rest' : rest ≡ recorded n w = c.1 ∙ ap (drop n.c) wc' in
      let A-is : A ≡ floats_of (format_of kind) n.a (words_a w) = a.0 ∙ (λ i. floats_of (sym k i) n.a (from i)) in
      let B-is : B ≡ floats_of (format_of kind) n.b (words_b n w) = b.0 ∙ (λ i. floats_of (sym k i) n.b (wb' i)) in
      let C-is : C ≡ floats_of (format_of kind) n.c (words_c n w) = c.0 ∙ (λ i. floats_of (sym k i) n.c (wc' i)) in
      record {
        D = D;
        P = P;
        Q = Q;
        answer = r;
        long = long;
        ran = coe 0 1 (i. Ran kind w (A-is i) (B-is i) (C-is i) D P Q r) run;
        compared = coe 0 1 (i. Compared (sym k i) (rest' i) (is i) D o) seen;
      }
