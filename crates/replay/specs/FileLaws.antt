-- The calls of a file, one behind the other, as a loop passes them. Assumes nothing.
use Rattle.std.specs.Prelude.{ℕ, ◌+◌, ◌-◌, ◌≤◌, ◌<◌, ◌≡◌, Bool, true, false, List, [], ◌∷◌, length, get_or, drop, refl}
use Rattle.std.specs.Prelude.{Option, None, Some, is_some, Result, Ok}
use Rattle.std.specs.Borrow.{Bor}
use Rattle.std.proofs.Common.{ap, ◌∙◌, subst, add-one, arith, length-drop}
use Rattle.element.specs.declared.kind.Kind.{Kind}
use Rattle.layout.specs.Operands.{Tells}
use Rattle.layout.specs.Tests.{tells_by}
use Rattle.sample.specs.Calls.{word_of, size_of, IsCall, PassesCall}
use Rattle.sample.specs.declared.calls.Difference.{Difference}
use Rattle.replayed.specs.Replayed.{pack_of, lengths_of, Replayed}
use Rattle.replayed.specs.SameReplay.{replayed_same}
use Rattle.replay.specs.File.{Calls, Broken, Agreeing, Agreed}

-- ---- does a call of the kind agree?

pub agreeing_tells : {kind : Kind} {w : List ℕ} {o : Result Unit Difference} {r : Bool} → get_or w 0 0 ≡ word_of kind
    → Replayed kind w (pack_of w) (lengths_of w) o → Tells r (o ≡ Ok tt) → Tells r (Agreeing kind w)
agreeing_tells {kind} {w} {r = r} e run told =
    tells_by r
    (λ t. record { of_kind = e; agrees = subst (Replayed kind w (pack_of w) (lengths_of w)) (told.if_true t) run })
    (λ t a. told.if_false t (replayed_same run a.agrees))

-- ---- a call less is left

shorter : (w : List ℕ) {rest next : List ℕ} (number : ℕ) {size : ℕ} → number + length rest ≤ length w → IsCall rest
    → size ≡ size_of rest → next ≡ drop size rest → number + 1 + length next ≤ length w
shorter w {rest} {next} number {size} few call s e =
    let left : length next ≡ length rest - size = ap length e ∙ length-drop size rest in
    omega (arith, few, call.whole)

-- ---- so many calls stand before the rest of the words, and no more of them than words

pub record Passed (w rest : List ℕ) (number : ℕ) : Type 0 where
  pub few : number + length rest ≤ length w
  pub calls : Calls w number rest

pub none_passed : (w : List ℕ) → Passed w w 0
none_passed w = record { few = omega arith; calls = Calls.none }

pub one_passed : {w rest next : List ℕ} {number : ℕ} (given : Option (Bor (List ℕ))) → Passed w rest number
    → PassesCall (λ (l : List ℕ). l) rest given next → is_some given ≡ true → Passed w next (number + 1)
one_passed None p step some = cc
one_passed (Some call) p step some =
    record { few = shorter _ _ p.few step.1 refl step.2; calls = rw (add-one, step.2) (Calls.more p.calls step.1) }

pub all_passed : {w : List ℕ} (rest : List ℕ) {number : ℕ} → Passed w rest number → length rest ≡ 0 → Calls w number []
all_passed [] p e = p.calls
all_passed (x ∷ rest) p e = absurd (omega arith)

pub broken_at : {w rest : List ℕ} {number : ℕ} → Passed w rest number → 0 < length rest → (IsCall rest → ⊥) → Broken w number
broken_at p some none = record { rest = _; calls = p.calls; some = some; no_call = none }

-- ---- of the calls before the rest so many are of the kind and agree

pub record Tallied (kind : Kind) (w rest : List ℕ) (agreed number : ℕ) : Type 0 where
  pub few : number + length rest ≤ length w
  pub fewer : agreed ≤ number
  pub tally : Agreed kind w agreed rest

pub none_tallied : (kind : Kind) (w : List ℕ) → Tallied kind w w 0 0
none_tallied kind w = record { few = omega arith; fewer = omega arith; tally = Agreed.none }

module _ {kind : Kind} {w rest next call : List ℕ} {agreed number after : ℕ} {r : Bool} (p : Tallied kind w rest agreed number)
    (step : (call ≡ rest) × IsCall rest × (next ≡ drop (size_of rest) rest)) (more : after ≡ number + 1)
    (told : Tells r (Agreeing kind call)) where
  same_call : Tells r (Agreeing kind rest)
  same_call = subst (λ (l : List ℕ). Tells r (Agreeing kind l)) step.0 told

  pub one_agrees : r ≡ true → Tallied kind w next (agreed + 1) after
  one_agrees t =
      record {
        few = rw more (shorter w number p.few step.1 refl step.2);
        fewer = omega (arith, p.fewer);
        tally = rw (add-one, step.2) (Agreed.one_more p.tally step.1 (same_call.if_true t));
      }

  pub one_disagrees : r ≡ false → Tallied kind w next agreed after
  one_disagrees t =
      record {
        few = rw more (shorter w number p.few step.1 refl step.2);
        fewer = omega (arith, p.fewer);
        tally = rw step.2 (Agreed.as_many p.tally step.1 (same_call.if_false t));
      }
