-- Laws of `Updated`: one after the other, side by side, a part as the whole, and that it leaves one slice only. Assumes nothing.
use Rattle.std.specs.Prelude.{ℕ, zero, suc, ◌+◌, ◌-◌, ◌<◌, ◌≡◌, refl, ◌⊎◌, List, get_or, Float}
use Rattle.std.proofs.Common.{sym, ap, ◌∙◌, subst, inl, inr, arith, ext_get_or}
use Rattle.std.proofs.Math.Logic.{ite, if_pos, if_neg}
use Rattle.std.proofs.Math.Logic.Dec
use Rattle.std.proofs.Math.Decide.{dec_lt, dec_le, ℕ_discrete, map_dec}
use Rattle.std.specs.Float.{nan}
use Rattle.rules.specs.Slice.{View, Updated, Block, Region}
use Rattle.rules.specs.Stores.{Apart}
use Rattle.rules.specs.ViewLaws.{Lawful}

pub block? : (m n i j : ℕ) → Dec (Block m n i j)
block? m n i j = Dec.and (dec_lt i m) (dec_lt j n)

pub region? : (r m c n i j : ℕ) → Dec (Region r m c n i j)
region? r m c n i j = Dec.and (Dec.and (dec_le r i) (dec_lt i (r + m))) (Dec.and (dec_le c j) (dec_lt j (c + n)))

-- one below m that Q holds of, or that there is none
pub below? : {Q : ℕ → Type 0} → ((i : ℕ) → Dec (Q i)) → (m : ℕ) → Dec ((i : ℕ) × (i < m) × Q i)
below? dec zero = no (λ h. omega arith)
below? {Q} dec (suc m) = go (dec m) (below? dec m)
  where
    go : Dec (Q m) → Dec ((i : ℕ) × (i < m) × Q i) → Dec ((i : ℕ) × (i < suc m) × Q i)
    go (yes q) r = yes (m, omega arith, q)
    go (no n) (yes (i, h, q)) = yes (i, omega arith, q)
    go (no n) (no r) = no (λ w. last w (dec_lt w.0 m))
      where
        last : (w : (i : ℕ) × (i < suc m) × Q i) → Dec (w.0 < m) → ⊥
        last w (yes h) = r (w.0, h, w.2)
        last w (no h) = let e : w.0 ≡ m = omega arith in n (rw e at w.2)

-- which place of a block an element is, if any
pub placed? : (place : ℕ → ℕ → ℕ) (m n e : ℕ) → Dec ((i : ℕ) × (j : ℕ) × Block m n i j × (place i j ≡ e))
placed? place m n e =
    map_dec (λ h. (h.0, h.2.0, (h.1, h.2.1), h.2.2)) (λ h. (h.0, h.2.0, (h.1, h.2.1, h.3)))
    (below? (λ i. below? (λ j. ℕ_discrete (place i j) e) n) m)

-- f where P holds, and nothing elsewhere
abbrev pub only : {E : Type 0} {P : ℕ → ℕ → Type 0} → ((i j : ℕ) → Dec (P i j)) → (ℕ → ℕ → E → E) → ℕ → ℕ → E → E
only dec f i j x = ite (dec i j) (f i j x) x

module _ {E : Type 0} (v : View E) (place : ℕ → ℕ → ℕ) where
  -- two updates of one block
  pub then : {P : ℕ → ℕ → Type 0} {f g : ℕ → ℕ → E → E} {C D B : List Float}
      → Updated v place P f C D → Updated v place P g D B → Updated v place P (λ i j x. g i j (f i j x)) C B
  then {g} u w = record {
    same_length = w.same_length ∙ u.same_length;
    inside = λ i j p. w.inside i j p ∙ ap (λ x. g i j x) (u.inside i j p);
    outside = λ t h. w.outside t h ∙ u.outside t h;
  }

  -- only what f does where P holds counts
  pub agreeing : {P : ℕ → ℕ → Type 0} {f g : ℕ → ℕ → E → E} {C D : List Float}
      → ((i j : ℕ) → P i j → (x : E) → f i j x ≡ g i j x) → Updated v place P f C D → Updated v place P g C D
  agreeing h u = record {
    same_length = u.same_length;
    inside = λ i j p. u.inside i j p ∙ h i j p _;
    outside = u.outside;
  }

  -- nothing done yet
  pub untouched : {f : ℕ → ℕ → E → E} {P : ℕ → ℕ → Type 0} {C : List Float} → ((i j : ℕ) → P i j → ⊥) → Updated v place P f C C
  untouched never = record { same_length = refl; inside = λ i j p. absurd (never i j p); outside = λ t h. refl }

  -- a block that starts at row r and column c, read from the whole's first place
  pub moved : {f : ℕ → ℕ → E → E} {C D : List Float} (r c m n : ℕ)
      → Updated v (λ i j. place (r + i) (c + j)) (Block m n) (λ i j. f (r + i) (c + j)) C D → Updated v place (Region r m c n) f C D
  moved {f} {C} {D} r c m n u = record {
    same_length = u.same_length;
    inside = λ i j p. at (r + (i - r)) (c + (j - c)) i j (omega arith) (omega arith) (u.inside (i - r) (j - c) (omega arith));
    outside = λ t h. u.outside t (λ i j p. h (r + i) (c + j) (omega arith));
  }
    where
      at : (k l i j : ℕ) → k ≡ i → l ≡ j → v.get D (place k l) ≡ f k l (v.get C (place k l))
          → v.get D (place i j) ≡ f i j (v.get C (place i j))
      at k l i j e w h = rw (e, w) at h

-- for views in which an element is its floats
module _ {E : Type 0} {v : View E} (ok : Lawful v) (place : ℕ → ℕ → ℕ) where
  -- an update of a part, as an update of the whole
  pub widened : {P Q : ℕ → ℕ → Type 0} {f : ℕ → ℕ → E → E} {C D : List Float} (dec : (i j : ℕ) → Dec (P i j))
      → ((i j : ℕ) → P i j → Q i j) → Apart place Q → Updated v place P f C D → Updated v place Q (only dec f) C D
  widened {P} {Q} {f} {C} {D} dec sub apart u = record {
    same_length = u.same_length;
    inside = λ i j q. go i j q (dec i j);
    outside = λ t h. u.outside t (λ i j p. h i j (sub i j p));
  }
    where
      keeps : (i j : ℕ) → Q i j → (P i j → ⊥) → v.get D (place i j) ≡ v.get C (place i j)
      keeps i j q n = ok.together D C (place i j) (λ t e. u.outside t (λ k l p w.
          let same = apart i j k l q (sub k l p) (sym e ∙ sym w) in
          n (rw (same.0, same.1) p)))

      go : (i j : ℕ) → Q i j → Dec (P i j) → v.get D (place i j) ≡ only dec f i j (v.get C (place i j))
      go i j q (yes p) = u.inside i j p ∙ sym (if_pos (dec i j) p _ _)
      go i j q (no n) = keeps i j q n ∙ sym (if_neg (dec i j) n _ _)

  -- updates of two parts, as one of the whole
  pub beside : {P Q R : ℕ → ℕ → Type 0} {f : ℕ → ℕ → E → E} {C D B : List Float} (dp : (i j : ℕ) → Dec (P i j))
      (dq : (i j : ℕ) → Dec (Q i j))
      → ((i j : ℕ) → P i j → R i j) → ((i j : ℕ) → Q i j → R i j) → ((i j : ℕ) → R i j → P i j ⊎ Q i j) → ((i j : ℕ) → P i j → Q i j → ⊥)
      → Apart place R → Updated v place P f C D → Updated v place Q f D B → Updated v place R f C B
  beside {P} {Q} {R} {f} dp dq sp sq cases never apart u w =
      agreeing v place (λ i j r x. once i j x (cases i j r)) (then v place (widened dp sp apart u) (widened dq sq apart w))
    where
      once : (i j : ℕ) (x : E) → P i j ⊎ Q i j → only dq f i j (only dp f i j x) ≡ f i j x
      once i j x (inl p) = if_neg (dq i j) (never i j p) _ _ ∙ if_pos (dp i j) p _ _
      once i j x (inr q) = if_pos (dq i j) q _ _ ∙ ap (λ y. f i j y) (if_neg (dp i j) (λ p. never i j p q) _ _)

  -- rows below r, and s rows from r on
  pub rows : {f : ℕ → ℕ → E → E} {C D B : List Float} (r s n : ℕ) → Apart place (Block (r + s) n) → Updated v place (Block r n) f C D
      → Updated v place (Region r s 0 n) f D B → Updated v place (Block (r + s) n) f C B
  rows r s n apart u w =
      beside (λ i j. block? r n i j) (λ i j. region? r s 0 n i j) (λ i j p. omega arith) (λ i j p. omega arith)
      (λ i j h. elim (dec_lt i r) [ yes p ↦ inl (omega arith) | no p ↦ inr (omega arith) ]) (λ i j p q. omega arith) apart u w

  pub columns : {f : ℕ → ℕ → E → E} {C D B : List Float} (m c s : ℕ) → Apart place (Block m (c + s)) → Updated v place (Block m c) f C D
      → Updated v place (Region 0 m c s) f D B → Updated v place (Block m (c + s)) f C B
  columns m c s apart u w =
      beside (λ i j. block? m c i j) (λ i j. region? 0 m c s i j) (λ i j p. omega arith) (λ i j p. omega arith)
      (λ i j h. elim (dec_lt j c) [ yes p ↦ inl (omega arith) | no p ↦ inr (omega arith) ]) (λ i j p q. omega arith) apart u w

  -- the same within m rows from r on
  pub across : {f : ℕ → ℕ → E → E} {C D B : List Float} (r m c s : ℕ) → Apart place (Region r m 0 (c + s))
      → Updated v place (Region r m 0 c) f C D
      → Updated v place (Region r m c s) f D B → Updated v place (Region r m 0 (c + s)) f C B
  across r m c s apart u w =
      beside (λ i j. region? r m 0 c i j) (λ i j. region? r m c s i j) (λ i j p. omega arith) (λ i j p. omega arith)
      (λ i j h. elim (dec_lt j c) [ yes p ↦ inl (omega arith) | no p ↦ inr (omega arith) ]) (λ i j p q. omega arith) apart u w

  -- the same within n columns from c on
  pub down : {f : ℕ → ℕ → E → E} {C D B : List Float} (r s c n : ℕ) → Apart place (Region 0 (r + s) c n)
      → Updated v place (Region 0 r c n) f C D
      → Updated v place (Region r s c n) f D B → Updated v place (Region 0 (r + s) c n) f C B
  down r s c n apart u w =
      beside (λ i j. region? 0 r c n i j) (λ i j. region? r s c n i j) (λ i j p. omega arith) (λ i j p. omega arith)
      (λ i j h. elim (dec_lt i r) [ yes p ↦ inl (omega arith) | no p ↦ inr (omega arith) ]) (λ i j p q. omega arith) apart u w

  -- one entry slice, one rule: one exit slice
  pub unique : {P : ℕ → ℕ → Type 0} {f : ℕ → ℕ → E → E} {C D B : List Float} → ((e : ℕ) → Dec ((i : ℕ) × (j : ℕ) × P i j × (place i j ≡ e)))
      → Updated v place P f C D → Updated v place P f C B → D ≡ B
  unique {P} {f} {C} {D} {B} find u w = ext_get_or nan D B (u.same_length ∙ sym w.same_length) (λ t h. at t (find (v.owner t)))
    where
      at : (t : ℕ) → Dec ((i : ℕ) × (j : ℕ) × P i j × (place i j ≡ v.owner t)) → get_or D t nan ≡ get_or B t nan
      at t (yes (i, j, p, e)) =
          ok.apiece D B t (rw e at (u.inside i j p ∙ sym (w.inside i j p)))
      at t (no n) = u.outside t (λ i j p e. n (i, j, p, e)) ∙ sym (w.outside t (λ i j p e. n (i, j, p, e)))

-- the places said in other words
pub elsewhere : {E : Type 0} (v : View E) {pl pl' : ℕ → ℕ → ℕ} {P : ℕ → ℕ → Type 0} {f : ℕ → ℕ → E → E} {C D : List Float}
    → ((i j : ℕ) → P i j → pl i j ≡ pl' i j) → Updated v pl P f C D → Updated v pl' P f C D
elsewhere v {f = f} {C = C} {D = D} e u = record {
  same_length = u.same_length;
  inside = λ i j p. subst (λ (k : ℕ). v.get D k ≡ f i j (v.get C k)) (e i j p) (u.inside i j p);
  outside = λ t h. u.outside t (λ i j p w. h i j p (sym (e i j p) ∙ w));
}
