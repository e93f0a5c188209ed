-- The refusals 21 to 26 step by step, and what each test has found out. Assumes nothing.
use Rattle.std.specs.Prelude.{ℕ, ◌+◌, ◌*◌, ◌^◌, ◌≤◌, ◌<◌, false, ◌≡◌, refl, List, [], ◌∷◌, eqb, length, get_or, take}
use Rattle.std.proofs.Common.{sym, ap, ◌∙◌, subst, inl, inr, mul-le-mul, arith, get_or-take, eqb-true}
use Rattle.std.proofs.lemmas.Bool.{eqb-false}
use Rattle.refusal.specs.declared.Refusal.{Refusal}
use Rattle.refusal.specs.Numbers.{number_of}
use Rattle.refusal.proofs.NumberLaws.{refusal_some}
use Rattle.refusal.specs.Order.{Says, done}
use Rattle.refusal.specs.OrderLaws.{One, Stage, refuses, one_done, first_stage, then_stage, first_passed}
use Rattle.words.specs.Words.{number_at}
use Rattle.layout.specs.Operands.{Tells}
use Rattle.layout.specs.Tests.{not_above, tells_by, tells_false}
use Rattle.panel.specs.File.{mark, version_in, kind_in, format_of_byte, width_of, head_length, elements_in, file_length}
use Rattle.panel.specs.File.{HeadThen, BodyThen}

-- ---- the mark

first_three : (s : List ℕ) → 3 ≤ length s → take 3 s ≡ get_or s 0 0 ∷ get_or s 1 0 ∷ get_or s 2 0 ∷ []
first_three [] h = absurd (omega arith)
first_three (a ∷ []) h = absurd (omega arith)
first_three (a ∷ b ∷ []) h = absurd (omega arith)
first_three (a ∷ b ∷ c ∷ s) h = refl

-- a file that is marked has the mark's bytes
marked : (s : List ℕ) → take 3 s ≡ mark → (k : ℕ) → k < 3 → get_or s k 0 ≡ get_or mark k 0
marked s e k h = sym (get_or-take 3 s k 0 h) ∙ ap (λ (l : List ℕ). get_or l k 0) e

pub short_unmarked : (s : List ℕ) → length s < 3 → Tells false (take 3 s ≡ mark)
short_unmarked s h = tells_false (λ e. go s h (ap length e))
  where
    go : (l : List ℕ) → length l < 3 → length (take 3 l) ≡ 3 → ⊥
    go [] h e = omega arith
    go (a ∷ []) h e = omega arith
    go (a ∷ b ∷ []) h e = omega arith
    go (a ∷ b ∷ c ∷ l) h e = omega arith

pub unmarked : (s : List ℕ) (k : ℕ) → k < 3 → (get_or s k 0 ≡ get_or mark k 0 → ⊥) → Tells false (take 3 s ≡ mark)
unmarked s k h f = tells_false (λ e. f (marked s e k h))

pub marked_by_last : (s : List ℕ) → 3 ≤ length s → get_or s 0 0 ≡ 73 → get_or s 1 0 ≡ 86 → Tells (eqb (get_or s 2 0) 80) (take 3 s ≡ mark)
marked_by_last s h a b =
    tells_by (eqb (get_or s 2 0) 80)
    (λ t. first_three s h ∙ (λ i. a i ∷ b i ∷ eqb-true (get_or s 2 0) 80 t i ∷ []))
    (λ t e. eqb-false (get_or s 2 0) 80 t (marked s e 2 (omega arith)))

-- ---- the chain

head_stage : (s : List ℕ) → Stage (HeadThen s)
head_stage s =
    then_stage _ _ (first_stage _ 21 (omega arith)) (then_stage _ _ (first_stage _ 22 (omega arith)) (first_stage _ 23 (omega arith)))

body_stage : (s : List ℕ) (kind room : ℕ) → Stage (BodyThen s kind room)
body_stage s kind room =
    then_stage _ _ (first_stage _ 24 (omega arith)) (then_stage _ _ (first_stage _ 25 (omega arith)) (first_stage _ 26 (omega arith)))

-- what the head passes is long enough for one
pub head_long : (s : List ℕ) → HeadThen s done 0 → head_length ≤ length s
head_long s h = not_above (length s) head_length (first_passed (omega arith) h).0

module _ (s : List ℕ) (kind room : ℕ) where
  abbrev Judged : Says
  Judged = HeadThen s (BodyThen s kind room done)

  pub judged_one : One Judged
  judged_one = (head_stage s).one (BodyThen s kind room done) ((body_stage s kind room).one done one_done)

  pub judged_head : (x : Refusal) → HeadThen s done (number_of x) → Judged (number_of x)
  judged_head x = refuses (HeadThen s) (head_stage s) (BodyThen s kind room done) (number_of x) (refusal_some x)

  pub judged_body : (r : ℕ) → HeadThen s done 0 → BodyThen s kind room done r → Judged r
  judged_body r = (head_stage s).passes (BodyThen s kind room done) r

  pub judged_passed : Judged 0 → BodyThen s kind room done 0
  judged_passed h = ((head_stage s).passed (BodyThen s kind room done) h).1

-- ---- the tests of the head: a version that is 1, behind a mark

pub wrong_version : (s : List ℕ) → head_length ≤ length s → take 3 s ≡ mark → (version_in s ≡ 1 → ⊥) → HeadThen s done 23
wrong_version s l m f = inr ((λ h. omega arith), inr ((λ n. n m), inl (f, refl)))

pub good_head : (s : List ℕ) → head_length ≤ length s → take 3 s ≡ mark → version_in s ≡ 1 → HeadThen s done 0
good_head s l m v = inr ((λ h. omega arith), inr ((λ n. n m), inr ((λ n. n v), refl)))

-- ---- the tests of the body

-- a byte is a number of one byte
kind_is : (s : List ℕ) → kind_in s ≡ get_or s 5 0
unfolding number_at
kind_is s = omega arith

module _ (s : List ℕ) (kind room : ℕ) where
  pub wrong_kind : (get_or s 5 0 ≡ kind → ⊥) → BodyThen s kind room done 24
  wrong_kind f = inl ((λ e. f (sym (kind_is s) ∙ e)), refl)

  module _ {w n : ℕ} (k : get_or s 5 0 ≡ kind) (e : w ≡ width_of (format_of_byte kind)) (m : n ≡ elements_in s) where
    right_kind : kind_in s ≡ kind
    right_kind = kind_is s ∙ k

    length_is : head_length + w * n ≡ file_length s
    length_is = λ i. head_length + (e ∙ ap (λ (b : ℕ). width_of (format_of_byte b)) (sym right_kind)) i * m i

    pub wrong_length : (length s ≡ head_length + w * n → ⊥) → BodyThen s kind room done 25
    wrong_length f = inr ((λ g. g right_kind), inl ((λ q. f (q ∙ sym length_is)), refl))

    module _ (l : length s ≡ head_length + w * n) where
      pub no_room : room < n → BodyThen s kind room done 26
      no_room h = inr ((λ g. g right_kind), inr ((λ g. g (l ∙ length_is)), inl (subst (λ (x : ℕ). room < x) m h, refl)))

      pub accepted : n ≤ room → BodyThen s kind room done 0
      accepted h = inr ((λ g. g right_kind), inr ((λ g. g (l ∙ length_is)), inr ((λ q. omega arith), refl)))

-- ---- sizes of 16-bit numbers

pub product_fits : (r c : ℕ) → r < 65536 → c < 65536 → r * c < 2 ^ 32
product_fits r c h g =
    let rows : r ≤ 65535 = omega arith in
    let columns : c ≤ 65535 = omega arith in
    omega (arith, mul-le-mul rows columns)

pub bytes_fit : (w n : ℕ) → w ≤ 8 → n < 2 ^ 32 → w * n < 2 ^ 35
bytes_fit w n h g =
    let elements : n ≤ 4294967295 = omega arith in
    omega (arith, mul-le-mul h elements)
