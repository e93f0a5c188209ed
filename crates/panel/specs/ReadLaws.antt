-- What the reader's steps come to, and the element at a place. Assumes nothing.
use Rattle.std.specs.Prelude.{ℕ, ◌+◌, ◌*◌, ◌≤◌, ◌<◌, ◌≡◌, refl, ◌⊎◌, List, length, get_or, Float, Ok}
use Rattle.std.proofs.Common.{sym, ap, ◌∙◌, subst, inl, inr, zero-add, suc-mul, mul-le-mul_right, arith}
use Rattle.std.specs.Float.{nan, Format}
use Rattle.refusal.specs.Order.{done}
use Rattle.refusal.specs.OrderLaws.{One, one_done, first_stage, first_passed}
use Rattle.rules.specs.Lists.{tab, splice}
use Rattle.rules.specs.ListLaws.{get_or_in, get_or-tab, length-tab}
use Rattle.layout.specs.Tests.{not_above}
use Rattle.panel.specs.declared.file.Header.{Header}
use Rattle.panel.specs.declared.file.Shape.{Shape}
use Rattle.panel.specs.File.{byte_of, elements_of, elements_in, element_in, panel_in, BodyThen}
use Rattle.panel.specs.Heads.{HeaderOr}
use Rattle.panel.specs.HeadLaws.{judged_passed}
use Rattle.panel.specs.Reader.{ReadSays, ReadOutcome, ElementSays, in_panel}

room_enough : (s : List ℕ) (kind room : ℕ) → BodyThen s kind room done 0 → elements_in s ≤ room
room_enough s kind room h =
    let asked = first_passed (omega arith) h in
    let long = first_passed (omega arith) asked.1 in
    not_above room (elements_in s) (first_passed (omega arith) long.1).0

-- ---- an accepted file: what its header, its number of elements and the filled destination say

module _ (f : Format) (s : List ℕ) (D : List Float) (h : Header) (j : HeaderOr (ReadSays f s (length D)) s (Ok h)) {n : ℕ}
    (m : n ≡ elements_of h.shape) where
  count_is : n ≡ elements_in s
  count_is = m ∙ ap (λ (x : Header). elements_of x.shape) j.1

  pub fill_fits : n ≤ length D
  fill_fits =
      let enough = room_enough s (byte_of f) (length D) (judged_passed s (byte_of f) (length D) j.0) in
      subst (λ (k : ℕ). k ≤ length D) (sym count_is) enough

  pub read_done : {E : List Float} → E ≡ splice D 0 (tab n (element_in f s)) → ReadOutcome f s D E (Ok h)
  read_done q = (j.0, j.1, q ∙ ap (λ (k : ℕ). splice D 0 (tab k (element_in f s))) count_is)

-- ---- a place

-- THE PLACES OF A PANEL THAT WAS READ: the element at (i, j) is element i * columns + j of the file
pub read_place : (f : Format) (s : List ℕ) (D E : List Float) (h : Header) → ReadOutcome f s D E (Ok h)
    → (i j : ℕ) → i < h.shape.rows → j < h.shape.columns → in_panel E h.shape i j ≡ element_in f s (i * h.shape.columns + j)
read_place f s D E h p i j hi hj =
    let k = i * h.shape.columns + j in
    let inside : k < elements_of h.shape = omega (arith, suc-mul i h.shape.columns, mul-le-mul_right h.shape.columns hi) in
    let within : k < elements_in s = subst (λ (x : Header). k < elements_of x.shape) p.1 inside in
    let long : k < length (panel_in f s) = omega (arith, length-tab (elements_in s) (element_in f s)) in
    ap (λ (l : List Float). get_or l k nan) p.2
    ∙ ap (λ (n : ℕ). get_or (splice D 0 (panel_in f s)) n nan) (sym (zero-add k))
    ∙ get_or_in D 0 (panel_in f s) k nan (omega arith) long
    ∙ get_or-tab (elements_in s) (element_in f s) k nan within

pub one_place : (numbers : List Float) (s : Shape) (i j : ℕ) → One (ElementSays numbers s i j)
one_place numbers s i j = (first_stage _ 30 (omega arith)).one done one_done

-- inside the shape and the numbers
pub element_found : (numbers : List Float) (s : Shape) (i j : ℕ) → i < s.rows → j < s.columns → i * s.columns + j < length numbers
    → ElementSays numbers s i j 0
element_found numbers s i j p q r = inr (no, refl)
  where
    no : (s.rows ≤ i) ⊎ ((s.columns ≤ j) ⊎ (length numbers ≤ i * s.columns + j)) → ⊥
    no (inl h) = omega arith
    no (inr (inl h)) = omega arith
    no (inr (inr h)) = omega arith
