-- The ways in which an entry point ends: refused, with nothing to do, depth zero, and after its loops. Assumes nothing.
use Rattle.std.specs.Prelude.{ℕ, ◌<◌, Result}
use mathlib.Core.{Path.◌≡◌, Path.refl, Logic.◌⊎◌, Logic.inl, Logic.inr, List.List}
use native.Mathlib.Omega.{arith}
use lib.{ListN.length, Ieee.Float}
use Rattle.refusal.specs.{declared.Refusal.Refusal, Numbers.answer_number, Order.Says}
use Rattle.rules.specs.{Slice.Block}
use Rattle.rules.specs.SliceLaws.{untouched}
use Rattle.element.specs.{declared.kind.Kind.Kind, Kinds.view_of, Kinds.tiling_of}
use Rattle.layout.specs.{Place.index_of, Need.need_of}
use Rattle.call.specs.{Call.Call, Call.chunk, Call.Does}
use Rattle.call.specs.Verdict.{lengths, Verdict}
use Rattle.call.specs.Outcome.{Leaves, Idle, Kept, PackLeft, Outcome}

-- ---- C, of whatever says its number and does its work

pub left_refused : (says : Says) (does : List Float → List Float → Type 0) (C : List Float) (r : ℕ) → says r → 0 < r
    → Leaves says does C C r
left_refused says does C r v h = record { answer = v; refused = λ w. refl; accepted = λ e. absurd (let z : ⊥ = omega arith in z) }

pub left_done : (says : Says) (does : List Float → List Float → Type 0) (C D : List Float) (r : ℕ) → says r → r ≡ 0 → does C D
    → Leaves says does C D r
left_done says does C D r v ok d = record { answer = v; refused = λ w. absurd (let z : ⊥ = omega arith in z); accepted = λ e. d }

-- ---- the work of a call where a size is zero

module _ {kind : Kind} (q : Call kind) (A B C : List Float) where
  pub does_empty : (q.over.m ≡ 0) ⊎ (q.over.n ≡ 0) → Does q A B C C
  unfolding Does
  does_empty e = untouched (view_of kind) (index_of q.over.c) (never e)
    where
      never : (q.over.m ≡ 0) ⊎ (q.over.n ≡ 0) → (i j : ℕ) → Block q.over.m q.over.n i j → ⊥
      never (inl z) i j p = omega arith
      never (inr z) i j p = omega arith

-- ---- the pack buffer, and a call's four ends: where a size is zero `out_idle` takes `does_empty` or `does_flat`

module _ {kind : Kind} (q : Call kind) (P : List Float) (r : ℕ) where
  pub pack_untouched : PackLeft q P P r
  pack_untouched = record { refused = λ h. refl; idle = λ z. refl; kept = record { same_length = refl; beyond = λ t h. refl } }

  pub pack_used : (Q : List Float) → r ≡ 0 → (Idle q.over → ⊥)
      → Kept kind (need_of (tiling_of kind) (chunk q) q.over.m q.over.k q.over.n) P Q → PackLeft q P Q r
  pack_used Q ok busy k = record { refused = λ h. absurd (let z : ⊥ = omega arith in z); idle = λ z. absurd (busy z); kept = k }

module _ {kind : Kind} (q : Call kind) (A B C P : List Float) (r : Result Unit Refusal)
    (v : Verdict (length P) q (lengths A B C) (answer_number r)) where
  pub out_refused : 0 < answer_number r → Outcome q A B C C P P r
  out_refused h = record {
    c = left_refused (Verdict (length P) q (lengths A B C)) (Does q A B) C (answer_number r) v h;
    pack = pack_untouched q P (answer_number r);
  }

  module _ (ok : answer_number r ≡ 0) (D : List Float) (d : Does q A B C D) where
    abbrev left : Leaves (Verdict (length P) q (lengths A B C)) (Does q A B) C D (answer_number r)
    left = left_done (Verdict (length P) q (lengths A B C)) (Does q A B) C D (answer_number r) v ok d

    pub out_idle : Outcome q A B C D P P r
    out_idle = record { c = left; pack = pack_untouched q P (answer_number r) }

    pub out_full : (Q : List Float) → (Idle q.over → ⊥)
        → Kept kind (need_of (tiling_of kind) (chunk q) q.over.m q.over.k q.over.n) P Q → Outcome q A B C D P Q r
    out_full Q busy k = record { c = left; pack = pack_used q P (answer_number r) Q ok busy k }
