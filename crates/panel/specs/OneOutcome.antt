-- The judge's promise leaves one answer, and the reader's one outcome. Assumes nothing.
use Rattle.std.specs.Prelude.{ℕ, ◌≡◌, List, length, Float, Result, Ok, Err}
use Rattle.std.proofs.Common.{sym, ap, ◌∙◌}
use Rattle.std.specs.Float.{Format}
use Rattle.refusal.specs.declared.Refusal.{Refusal}
use Rattle.refusal.proofs.NumberLaws.{same_refusal, refusal_not_zero}
use Rattle.refusal.specs.Order.{done}
use Rattle.rules.specs.Held.{Held}
use Rattle.rules.specs.Lists.{splice}
use Rattle.panel.specs.declared.file.Header.{Header}
use Rattle.panel.specs.declared.file.Shape.{Shape}
use Rattle.panel.specs.File.{byte_of, panel_in, HeadThen, BodyThen}
use Rattle.panel.specs.Reader.{ReadSays, ReadOutcome, ElementOutcome}
use Rattle.panel.specs.ReadLaws.{one_place}
use Rattle.panel.specs.Heads.{HeaderOr}
use Rattle.panel.specs.HeadLaws.{judged_one}

-- ANY TWO ANSWERS OF THE JUDGE ARE EQUAL
pub one_judged : (s : List ℕ) (kind room : ℕ) (r r' : Result Header Refusal) → HeaderOr (HeadThen s (BodyThen s kind room done)) s r
    → HeaderOr (HeadThen s (BodyThen s kind room done)) s r' → r ≡ r'
one_judged s kind room (Ok h) (Ok h') p q = ap (λ (x : Header). Ok x) (p.1 ∙ sym q.1)
one_judged s kind room (Ok h) (Err x) p q = absurd (refusal_not_zero x (judged_one s kind room _ _ q p.0))
one_judged s kind room (Err x) (Ok h) p q = absurd (refusal_not_zero x (judged_one s kind room _ _ p q.0))
one_judged s kind room (Err x) (Err y) p q = ap (λ (z : Refusal). Err z) (same_refusal x y (judged_one s kind room _ _ p q))

-- an outcome is an answer and what it leaves
module _ (f : Format) (s : List ℕ) (D : List Float) where
  answer : (E : List Float) (r : Result Header Refusal) → ReadOutcome f s D E r → HeaderOr (ReadSays f s (length D)) s r
  answer E (Ok h) p = (p.0, p.1)
  answer E (Err x) p = p.0

  leaves : Result Header Refusal → List Float
  leaves (Ok h) = splice D 0 (panel_in f s)
  leaves (Err x) = D

  left : (E : List Float) (r : Result Header Refusal) → ReadOutcome f s D E r → E ≡ leaves r
  unfolding leaves
  left E (Ok h) p = p.2
  left E (Err x) p = p.1

  -- ANY TWO OUTCOMES OF A READER ARE EQUAL: its answer, and the destination afterwards, E or E'
  pub one_read_outcome : (E E' : List Float) (r r' : Result Header Refusal)
      → ReadOutcome f s D E r → ReadOutcome f s D E' r' → (r ≡ r') × (E ≡ E')
  one_read_outcome E E' r r' p q =
      let same = one_judged s (byte_of f) (length D) r r' (answer E r p) (answer E' r' q) in
      (same, left E r p ∙ ap leaves same ∙ sym (left E' r' q))

-- ANY TWO ANSWERS FOR A PLACE ARE EQUAL, where a real is known by its float
pub one_element : {N : Type 0} (h : Held Float N) (kept : (x : N) → h.of (h.is x) ≡ x) (numbers : List Float) (s : Shape) (i j : ℕ)
    (r r' : Result N Refusal) → ElementOutcome h.is numbers s i j r → ElementOutcome h.is numbers s i j r' → r ≡ r'
one_element {N} h kept numbers s i j (Ok x) (Ok y) p q =
    ap (λ (z : N). Ok z) (sym (kept x) ∙ ap h.of (p.1 ∙ sym q.1) ∙ kept y)
one_element h kept numbers s i j (Ok x) (Err y) p q = absurd (refusal_not_zero y (one_place numbers s i j _ _ q p.0))
one_element h kept numbers s i j (Err x) (Ok y) p q = absurd (refusal_not_zero x (one_place numbers s i j _ _ p q.0))
one_element h kept numbers s i j (Err x) (Err y) p q =
    ap (λ (z : Refusal). Err z) (same_refusal x y (one_place numbers s i j _ _ p q))
