-- Laws of packed panels: stores one after the other, how many panels, and reading a row back from a panel. Assumes nothing.
use Rattle.std.specs.Prelude.{◌≡◌, refl, List, [], ◌∷◌, ◌++◌, length, take, drop, set, Float}
use Rattle.std.proofs.Math.Path.{sym, ap}
use Rattle.std.proofs.Common.{◌∙◌, le-div_iff_mul-le, le_trans, div-mul-le_self, div-add-mod', div-lt_iff_lt-mul, mod-lt, suc-mul}
use Rattle.std.proofs.Common.{mul-le-mul_right, mod-eq_of_lt, add-zero, arith, length-append, length-drop, get_or-append-add, take_all}
use Prim.Native.Nat.{ℕ, ◌+◌, ◌-◌, ◌*◌, ◌/◌, ◌%◌, ◌<◌, ◌≤◌}
use Rattle.std.proofs.Math.Nat.{mul-one, mul-add-div_right, mul-add-mod_self_right, div-eq_of_lt, zero-add}
use Rattle.std.proofs.Math.Decide.{dec_lt}
use Rattle.std.proofs.Math.ListN.{get_or, get_or-append}
use Rattle.std.proofs.Math.Seq.{get_or-drop}
use Rattle.std.specs.Float.Ieee.{nan}
use Rattle.rules.specs.Element.{Arith, Complex, chunks}
use Rattle.rules.specs.Held.{Held}
use Rattle.rules.specs.Lists.{cat, splice, Filled}
use Rattle.rules.specs.ListLaws.{length-cat, length-splice, get_or-cat, cat_none, cat_more, set-splice, splice-splice, cat_ext, get_or-tab}
use Rattle.rules.specs.ListLaws.{tab_ext, filled_more, filled_rest}
use Rattle.element.specs.declared.kind.Kind.{Kind}
use Rattle.element.specs.declared.kind.Kind.TheVariants.{F32, F64, C32, C64}
use Rattle.loops.specs.Panels.{Packing, singles, real_packing, complex_packing, packing_of, padded, packed_panel, packed, unpacked}
use Rattle.loops.specs.Tiles.{up_to, at, line}
use Rattle.loops.specs.TileLaws.{up_to_in, up_to_past}

-- the next w fit where all of n times w do
pub next_fits : (w : ℕ) {q n : ℕ} → q < n → q * w + w ≤ n * w
next_fits w {q} {n} l = omega (arith, suc-mul q w, mul-le-mul_right w l)

-- ---- how many panels: as many as chunks of their width

pub panels_most : (w m : ℕ) → 0 < w → chunks w m * w ≤ m + (w - 1)
unfolding chunks
panels_most w m h = div-mul-le_self (m + (w - 1)) w

pub panels_mono : (w : ℕ) {a b : ℕ} → 0 < w → a ≤ b → chunks w a ≤ chunks w b
unfolding chunks
panels_mono w {a} {b} h l = (le-div_iff_mul-le h).1 (le_trans (div-mul-le_self (a + (w - 1)) w) (omega arith))

pub panels_all : (w m : ℕ) → 0 < w → m ≤ chunks w m * w
unfolding chunks
panels_all w m h = omega (arith, div-add-mod' (m + (w - 1)) w, mod-lt (m + (w - 1)) h)

-- ---- w floats, one after the other

module _ (g : ℕ → Float) where
  pub length-singles : (w : ℕ) → length (singles w g) ≡ w
  unfolding singles
  length-singles w = length-cat (λ i. g i ∷ []) 1 (λ q. refl) w ∙ mul-one w

  pub singles_at : (w i : ℕ) → i < w → get_or (singles w g) i nan ≡ g i
  unfolding singles
  singles_at w i l = ap (λ (k : ℕ). get_or (cat w (λ j. g j ∷ [])) k nan) (omega arith)
      ∙ get_or-cat (λ j. g j ∷ []) 1 (λ q. refl) w i 0 nan l (omega arith)

  pub singles_none : (d : List Float) (at : ℕ) → d ≡ splice d at (singles 0 g)
  unfolding singles
  singles_none d at = cat_none (λ i. g i ∷ []) d at

  pub singles_long : (d : List Float) (at i : ℕ) {e : List Float} → at + i ≤ length d → e ≡ splice d at (singles i g) → length e ≡ length d
  singles_long d at i l u = ap length u ∙ length-splice d at (singles i g) (omega (arith, length-singles i))

  pub singles_more : (d : List Float) (at i : ℕ) {e : List Float} {v : Float} → at + i < length d → e ≡ splice d at (singles i g) → v ≡ g i
      → set e (at + i) v ≡ splice d at (singles (i + 1) g)
  unfolding singles
  singles_more d at i {e} {v} l u h =
      cat_more (λ j. g j ∷ []) 1 (λ q. refl) d at i (omega arith) u
      (rw (mul-one i, ← h) (set-splice e (at + i) v (omega (arith, singles_long d at i (omega arith) u))))

pub singles_ext : (w : ℕ) (g h : ℕ → Float) → ((i : ℕ) → i < w → g i ≡ h i) → singles w g ≡ singles w h
unfolding singles
singles_ext w g h e = cat_ext _ _ w (λ i l. ap (λ (v : Float). v ∷ []) (e i l))

-- ---- the two packings: a row has its length, holds what its lanes read and nothing else, and a lane reads nothing but floats

pub record LawfulPacking {E : Type 0} (pk : Packing E) : Type 0 where
  pub row_length : (w : ℕ) (g : ℕ → E) → length (pk.row w g) ≡ pk.floats w
  pub lane_row : (l : List Float) (w i p : ℕ) (g : ℕ → E) → i < w
      → ((r : ℕ) → r < pk.floats w → get_or l (p * pk.floats w + r) nan ≡ get_or (pk.row w g) r nan) → pk.lane l w i p ≡ g i
  pub row_ext : (w : ℕ) (g h : ℕ → E) → ((i : ℕ) → i < w → g i ≡ h i) → pk.row w g ≡ pk.row w h
  pub lane_ext : (k l : List Float) (w i p : ℕ) → ((t : ℕ) → get_or k t nan ≡ get_or l t nan) → pk.lane k w i p ≡ pk.lane l w i p

pub real_packing_lem : LawfulPacking real_packing
real_packing_lem = record {
  row_length = λ w g. length-singles g w;
  lane_row = λ l w i p g h e. e i h ∙ singles_at g w i h;
  row_ext = singles_ext;
  lane_ext = λ k l w i p e. e (p * w + i);
}

module _ (w : ℕ) (g : ℕ → Complex) where
  length_pairs : length (complex_packing.row w g) ≡ w + w
  length_pairs = rw (
    length-append (singles w (λ i. (g i).re)) (singles w (λ i. (g i).im)),
    length-singles (λ i. (g i).re) w,
    length-singles (λ i. (g i).im) w,
  )

  real_at : (i : ℕ) → i < w → get_or (complex_packing.row w g) i nan ≡ (g i).re
  real_at i h =
      get_or-append (singles w (λ i. (g i).re)) _ nan i (omega (arith, length-singles (λ i. (g i).re) w)) ∙ singles_at (λ i. (g i).re) w i h

  imaginary_at : (i : ℕ) → i < w → get_or (complex_packing.row w g) (w + i) nan ≡ (g i).im
  imaginary_at i h =
      ap (λ (k : ℕ). get_or (complex_packing.row w g) (k + i) nan) (sym (length-singles (λ i. (g i).re) w))
      ∙ get_or-append-add (singles w (λ i. (g i).re)) _ i nan ∙ singles_at (λ i. (g i).im) w i h

  -- a row of reals, then a row of imaginaries
  pub pairs_stored : (d : List Float) (at : ℕ) {e e' : List Float} → at + w ≤ length d → e ≡ splice d at (singles w (λ i. (g i).re))
      → e' ≡ splice e (at + w) (singles w (λ i. (g i).im)) → e' ≡ splice d at (complex_packing.row w g)
  pairs_stored d at l u v =
      let n = length-singles (λ i. (g i).re) w in
      v ∙ ap (λ (l : List Float). splice l (at + w) (singles w (λ i. (g i).im))) u
      ∙ ap (λ (k : ℕ). splice (splice d at (singles w (λ i. (g i).re))) (at + k) (singles w (λ i. (g i).im))) (sym n)
      ∙ splice-splice d at (singles w (λ i. (g i).re)) (singles w (λ i. (g i).im)) (omega arith)

pub complex_packing_lem : LawfulPacking complex_packing
complex_packing_lem = record {
  row_length = length_pairs;
  lane_row = λ l w i p g h e. λ s. record {
    re = (e i (omega arith) ∙ real_at w g i h) s;
    im = (ap (λ (k : ℕ). get_or l k nan) (im_index w i p) ∙ e (w + i) (omega arith) ∙ imaginary_at w g i h) s;
  };
  row_ext = λ w g h e. λ s.
      singles_ext w (λ i. (g i).re) (λ i. (h i).re) (λ i l. ap (λ (z : Complex). z.re) (e i l)) s
      ++ singles_ext w (λ i. (g i).im) (λ i. (h i).im) (λ i l. ap (λ (z : Complex). z.im) (e i l)) s;
  lane_ext = λ k l w i p e. λ s. record { re = e (p * (w + w) + i) s; im = e (p * (w + w) + w + i) s };
}
  where
    im_index : (w i p : ℕ) → p * (w + w) + w + i ≡ p * (w + w) + (w + i)
    im_index w i p = omega arith

pub packing_lawful : (kind : Kind) → LawfulPacking (packing_of kind)
packing_lawful F32 = real_packing_lem
packing_lawful F64 = real_packing_lem
packing_lawful C32 = complex_packing_lem
packing_lawful C64 = complex_packing_lem

-- ---- panels, stored one after the other and read back

module _ {E : Type 0} {pk : Packing E} (ok : LawfulPacking pk) where
  length-panel : (w kc : ℕ) (x : ℕ → ℕ → E) (first : ℕ) → length (packed_panel pk w kc x first) ≡ kc * pk.floats w
  unfolding packed_panel
  length-panel w kc x first = length-cat (λ p. pk.row w (λ i. x (first + i) p)) (pk.floats w) (λ p. ok.row_length w _) kc

  pub panel_none : (w : ℕ) (x : ℕ → ℕ → E) (first : ℕ) (d : List Float) (at : ℕ) → d ≡ splice d at (packed_panel pk w 0 x first)
  unfolding packed_panel
  panel_none w x first d at = cat_none (λ p. pk.row w (λ i. x (first + i) p)) d at

  pub panel_more : (w : ℕ) (x : ℕ → ℕ → E) (first : ℕ) (d : List Float) (at p : ℕ) {e e' : List Float} → at + p * pk.floats w ≤ length d
      → e ≡ splice d at (packed_panel pk w p x first) → e' ≡ splice e (at + p * pk.floats w) (pk.row w (λ i. x (first + i) p))
      → e' ≡ splice d at (packed_panel pk w (p + 1) x first)
  unfolding packed_panel
  panel_more w x first d at p l u v = cat_more (λ p. pk.row w (λ i. x (first + i) p)) (pk.floats w) (λ p. ok.row_length w _) d at p l u v

  pub length-packed : (w kc n : ℕ) (x : ℕ → ℕ → E) → length (packed pk w kc n x) ≡ n * (kc * pk.floats w)
  unfolding packed
  length-packed w kc n x = length-cat (λ ir. packed_panel pk w kc x (ir * w)) (kc * pk.floats w) (λ ir. length-panel w kc x (ir * w)) n

  pub packed_none : (w kc : ℕ) (x : ℕ → ℕ → E) (d : List Float) → d ≡ splice d 0 (packed pk w kc 0 x)
  unfolding packed
  packed_none w kc x d = cat_none (λ ir. packed_panel pk w kc x (ir * w)) d 0

  pub packed_more : (w kc : ℕ) (x : ℕ → ℕ → E) (d : List Float) (q : ℕ) {e e' : List Float} → q * (kc * pk.floats w) ≤ length d
      → e ≡ splice d 0 (packed pk w kc q x) → e' ≡ splice e (q * (kc * pk.floats w)) (packed_panel pk w kc x (q * w))
      → e' ≡ splice d 0 (packed pk w kc (q + 1) x)
  unfolding packed
  packed_more w kc x d q {e} l u v =
      cat_more (λ ir. packed_panel pk w kc x (ir * w)) (kc * pk.floats w) (λ ir. length-panel w kc x (ir * w)) d 0 q (omega arith) u
      (rw zero-add v)

  -- float r of depth step p of panel ir
  float_at : (w kc n : ℕ) (x : ℕ → ℕ → E) (ir p r : ℕ) → r < pk.floats w → p < kc → ir < n
      → get_or (packed pk w kc n x) (ir * (kc * pk.floats w) + (p * pk.floats w + r)) nan ≡ get_or (pk.row w (λ i. x (ir * w + i) p)) r nan
  unfolding packed packed_panel
  float_at w kc n x ir p r lr lp li =
      get_or-cat (λ ir. packed_panel pk w kc x (ir * w)) (kc * pk.floats w) (λ ir. length-panel w kc x (ir * w)) n ir
      (p * pk.floats w + r) nan li (omega (arith, next_fits (pk.floats w) lp))
      ∙ get_or-cat (λ p. pk.row w (λ i. x (ir * w + i) p)) (pk.floats w) (λ p. ok.row_length w _) kc p r nan lp lr

  -- row i of what was packed, from any list that holds the packed floats from its start on
  pub unpacked-packed : (w kc n : ℕ) (x : ℕ → ℕ → E) (l : List Float) → 0 < w
      → ((t : ℕ) → t < n * (kc * pk.floats w) → get_or l t nan ≡ get_or (packed pk w kc n x) t nan)
      → (i p : ℕ) → i < n * w → p < kc → unpacked pk l w kc i p ≡ x i p
  unfolding unpacked
  unpacked-packed w kc n x l hw same i p hi hp =
      ok.lane_row (drop ((i / w) * (kc * pk.floats w)) l) w (i % w) p (λ j. x ((i / w) * w + j) p) (mod-lt i hw)
      (λ r h. get_or-drop ((i / w) * (kc * pk.floats w)) l (p * pk.floats w + r) nan
      ∙ same ((i / w) * (kc * pk.floats w) + (p * pk.floats w + r))
      (omega (arith, next_fits (pk.floats w) hp, next_fits (kc * pk.floats w) {q = i / w} {n = n} ((div-lt_iff_lt-mul hw).1 hi)))
      ∙ float_at w kc n x (i / w) p r h hp ((div-lt_iff_lt-mul hw).1 hi))
      ∙ ap (λ (k : ℕ). x k p) (div-add-mod' i w)

  pub unpacked_ext : (w kc : ℕ) (k l : List Float) → ((t : ℕ) → get_or k t nan ≡ get_or l t nan) → (i p : ℕ)
      → unpacked pk k w kc i p ≡ unpacked pk l w kc i p
  unfolding unpacked
  unpacked_ext w kc k l e i p =
      let s : ℕ = (i / w) * (kc * pk.floats w) in
      ok.lane_ext (drop s k) (drop s l) w (i % w) p (λ t. get_or-drop s k t nan ∙ e (s + t) ∙ sym (get_or-drop s l t nan))

-- panel q, lent from its start on, is rows q * w to q * w + w - 1
pub panel_lane : {E : Type 0} (pk : Packing E) (l : List Float) (w kc q i p : ℕ) → i < w
    → pk.lane (drop (q * (kc * pk.floats w)) l) w i p ≡ unpacked pk l w kc (q * w + i) p
unfolding unpacked
panel_lane pk l w kc q i p h =
    let u : (q * w + i) / w ≡ q = mul-add-div_right (omega arith) q i ∙ ap (λ (k : ℕ). q + k) (div-eq_of_lt h) ∙ add-zero q in
    let v : (q * w + i) % w ≡ i = mul-add-mod_self_right q w i ∙ mod-eq_of_lt h in
    λ s. pk.lane (drop (sym u s * (kc * pk.floats w)) l) w (sym v s) p

-- a part that runs to the end
pub rest_all : (l : List Float) (k : ℕ) → take (length l - k) (drop k l) ≡ drop k l
rest_all l k = take_all (length l - k) (drop k l) (omega (arith, length-drop k l))

pub rest_long : (l : List Float) (k n : ℕ) → k + n ≤ length l → n ≤ length (take (length l - k) (drop k l))
rest_long l k n h = rw (rest_all l k, length-drop k l) (omega arith)

-- padding is past row m
pub padded_in : (ar : Arith) (m : ℕ) (x : ℕ → ℕ → ar.E) (i p : ℕ) → i < m → padded ar m x i p ≡ x i p
padded_in ar m x i p l = up_to_in ar m (λ i. x i p) i l

-- ---- one depth step in an array of h lanes: g in the first w of them, +0 in the others

module _ {N : Type 0} (ar : Arith) (held : Held ar.E N) (h w : ℕ) where
  -- a loop that fills the first w: one lane more, and all of them
  pub lane_more : (g : ℕ → ar.E) (i : ℕ) {old x : List N} {v : N} → w ≤ h → i < w
      → Filled held.none h i (λ k. held.of (up_to ar w g k)) old x → v ≡ held.of (g i)
      → Filled held.none h (i + 1) (λ k. held.of (up_to ar w g k)) old (set x i v)
  lane_more g i {old} l m f e =
      filled_more held.none h (λ k. held.of (up_to ar w g k)) old i f (omega arith) (e ∙ ap held.of (sym (up_to_in ar w g i m)))

  pub lanes_all : (g : ℕ → ar.E) (i : ℕ) {old x : List N} → w ≤ i → old ≡ line held h (λ k. ar.nought)
      → Filled held.none h i (λ k. held.of (up_to ar w g k)) old x → x ≡ line held h (up_to ar w g)
  lanes_all g i {old} m e f =
      filled_rest held.none h (λ k. held.of (up_to ar w g k)) old i f
      (λ k u v. ap (λ (l : List N). get_or l k held.none) e ∙ get_or-tab h (λ k. held.of ar.nought) k held.none v
      ∙ ap held.of (sym (up_to_past ar w g k (omega arith))))

  -- the same lanes, said in two ways
  pub lanes_ext : (f g : ℕ → ar.E) → ((i : ℕ) → i < w → f i ≡ g i) → line held h (up_to ar w f) ≡ line held h (up_to ar w g)
  lanes_ext f g e = tab_ext h _ _ (λ i l. ap held.of (at_lane i (dec_lt i w)))
    where
      at_lane : (i : ℕ) → Dec (i < w) → up_to ar w f i ≡ up_to ar w g i
      at_lane i (yes l) = up_to_in ar w f i l ∙ e i l ∙ sym (up_to_in ar w g i l)
      at_lane i (no l) = up_to_past ar w f i (omega arith) ∙ sym (up_to_past ar w g i (omega arith))

  -- a row of a panel has no more of them than the first w
  pub lanes_row : {pk : Packing ar.E} → LawfulPacking pk → (g : ℕ → ar.E) {x : List N} → w ≤ h → x ≡ line held h (up_to ar w g)
      → pk.row w (at held x) ≡ pk.row w g
  lanes_row ok g {x} l e =
      ok.row_ext w (at held x) g (λ i m. ap (λ (y : List N). at held y i) e
      ∙ ap held.is (get_or-tab h (λ k. held.of (up_to ar w g k)) i held.none (omega arith))
      ∙ held.back (up_to ar w g i) ∙ up_to_in ar w g i m)
