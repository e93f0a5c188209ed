-- Laws of the pack buffer: what is kept where a part is written, what the panels hold in front of asize and behind it, how it is shared.
-- Assumes nothing.
use Rattle.std.specs.Prelude.{◌≡◌, refl, List, ℕ, min, ◌+◌, ◌*◌, ◌<◌, ◌≤◌, length, get_or, drop, Float}
use Rattle.std.proofs.Common.{sym, ap, ◌∙◌, mul-le-mul_right, mul-le-mul_left, arith, get_or-drop}
use Rattle.std.specs.Float.{nan}
use Rattle.rules.specs.Element.{chunks}
use Rattle.rules.specs.Lists.{splice}
use Rattle.rules.specs.ListLaws.{length-splice, get_or_in, get_or_after}
use Rattle.element.specs.Kinds.{arith_of, tiling_of}
use Rattle.element.specs.declared.kind.Kind.{Kind}
use Rattle.loops.specs.Panels.{packing_of, padded, packed, unpacked}
use Rattle.loops.specs.PanelLaws.{packing_lawful, length-packed, unpacked-packed, unpacked_ext, padded_in, panels_all, panels_mono}
use Rattle.loops.specs.Work.{panels, KeptFrom, Shares}

-- ---- what is kept

pub kept_none : (n : ℕ) (P : List Float) → KeptFrom n P P
kept_none n P = record { same_length = refl; beyond = λ t h. refl }

pub kept_then : {n : ℕ} {P Q R : List Float} → KeptFrom n P Q → KeptFrom n Q R → KeptFrom n P R
kept_then u v = record { same_length = v.same_length ∙ u.same_length; beyond = λ t h. v.beyond t h ∙ u.beyond t h }

pub kept_more : {n n' : ℕ} {P Q : List Float} → n ≤ n' → KeptFrom n P Q → KeptFrom n' P Q
kept_more l u = record { same_length = u.same_length; beyond = λ t h. u.beyond t (omega arith) }

-- something written from `at` on, and not past n
kept_splice : (n at : ℕ) (P new : List Float) {Q : List Float} → Q ≡ splice P at new → at + length new ≤ n → n ≤ length P → KeptFrom n P Q
kept_splice n at P new {Q} e l h = record {
  same_length = ap length e ∙ length-splice P at new (omega arith);
  beyond = λ t k. ap (λ (s : List Float). get_or s t nan) e ∙ get_or_after P at new t nan (omega arith) (omega arith);
}

module _ (kind : Kind) (w kc : ℕ) where
  -- a shorter chunk's panels are no longer
  pub panels_less : (top n : ℕ) → kc ≤ top → panels kind w n kc ≤ panels kind w n top
  panels_less top n l =
      mul-le-mul_left {m = kc * (packing_of kind).floats w} {n = top * (packing_of kind).floats w} (chunks w n)
      (mul-le-mul_right ((packing_of kind).floats w) l)

  -- nor are fewer rows'
  pub panels_fewer : {r m : ℕ} → 0 < w → r ≤ m → panels kind w r kc ≤ panels kind w m kc
  panels_fewer {r} {m} h l = mul-le-mul_right {m = chunks w r} {n = chunks w m} (kc * (packing_of kind).floats w) (panels_mono w h l)

  module _ (m : ℕ) (x : ℕ → ℕ → (arith_of kind).E) (P : List Float) {Q : List Float} where
    -- what packing m rows from `at` on keeps
    pub kept_packed : (at n : ℕ) → Q ≡ splice P at (packed (packing_of kind) w kc (chunks w m) x) → at + panels kind w m kc ≤ n
        → n ≤ length P → KeptFrom n P Q
    kept_packed at n e l h =
        kept_splice n at P (packed (packing_of kind) w kc (chunks w m) x) e
        (omega (arith, length-packed (packing_lawful kind) w kc (chunks w m) x)) h

    -- row i of what was packed from `at` on, as any list reads it that holds the buffer's floats from there on
    pub row_packed : (at : ℕ) (L : List Float) → Q ≡ splice P at (packed (packing_of kind) w kc (chunks w m) (padded (arith_of kind) m x))
        → 0 < w → at ≤ length P
        → ((t : ℕ) → t < panels kind w m kc → get_or L t nan ≡ get_or Q (at + t) nan)
        → (i p : ℕ) → i < m → p < kc → unpacked (packing_of kind) L w kc i p ≡ x i p
    row_packed at L e hw fits same i p l h =
        let y = padded (arith_of kind) m x in
        let new : List Float = packed (packing_of kind) w kc (chunks w m) y in
        unpacked-packed (packing_lawful kind) w kc (chunks w m) y L hw
        (λ t z. same t z ∙ ap (λ (s : List Float). get_or s (at + t) nan) e
        ∙ get_or_in P at new t nan fits (omega (arith, length-packed (packing_lawful kind) w kc (chunks w m) y)))
        i p (omega (arith, panels_all w m hw)) h
        ∙ padded_in (arith_of kind) m x i p l

  -- B's panels stay where only the front is written
  pub kept_rest : {asize : ℕ} {P Q : List Float} → KeptFrom asize P Q → (j p : ℕ)
      → unpacked (packing_of kind) (drop asize Q) w kc j p ≡ unpacked (packing_of kind) (drop asize P) w kc j p
  kept_rest {asize} {P} {Q} u j p =
      unpacked_ext (packing_lawful kind) w kc (drop asize Q) (drop asize P)
      (λ t. get_or-drop asize Q t nan ∙ u.beyond (asize + t) (omega arith) ∙ sym (get_or-drop asize P t nan)) j p

-- ---- how the buffer is shared

module _ {kind : Kind} {m kc n asize len : ℕ} (s : Shares kind m kc n asize len) where
  -- a row chunk's panels fit where the longest one's do
  pub front_fits : 0 < (tiling_of kind).mr → (r : ℕ) → r ≤ min m (tiling_of kind).mc → panels kind (tiling_of kind).mr r kc ≤ asize
  front_fits h r l = omega (arith, s.front, panels_fewer kind (tiling_of kind).mr kc h l)

  -- a shorter chunk needs no more
  pub shares_less : {kc' len' : ℕ} → kc' ≤ kc → len' ≡ len → Shares kind m kc' n asize len'
  shares_less {kc'} l e = record {
    front = omega (arith, s.front, panels_less kind (tiling_of kind).mr kc' kc (min m (tiling_of kind).mc) l);
    rest = omega (arith, s.rest, panels_less kind (tiling_of kind).nr kc' kc n l);
  }
