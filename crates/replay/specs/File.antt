-- A file of recorded calls, one behind the other: how many it holds, and how many of a kind agree. Definitions only.
use Rattle.std.specs.Prelude.{ℕ, suc, ◌<◌, ◌≡◌, List, [], length, get_or, drop, Result, Ok, Err}
use Rattle.element.specs.declared.kind.Kind.{Kind}
use Rattle.sample.specs.Calls.{word_of, size_of, IsCall}
use Rattle.replayed.specs.Replayed.{pack_of, lengths_of, Replayed}
use Rattle.replay.specs.declared.Malformed.{Malformed}

-- w begins with so many calls, and `rest` is behind them
pub data Calls (w : List ℕ) : ℕ → List ℕ → Type 0 where
  none : Calls w 0 w
  more : {n : ℕ} {rest : List ℕ} → Calls w n rest → IsCall rest → Calls w (suc n) (drop (size_of rest) rest)

-- behind so many calls w goes on, and not with a call
pub record Broken (w : List ℕ) (n : ℕ) : Type 0 where
  pub rest : List ℕ
  pub calls : Calls w n rest
  pub some : 0 < length rest
  pub no_call : IsCall rest → ⊥

abbrev pub ContentsAre : List ℕ → Result ℕ Malformed → Type 0
ContentsAre w (Ok n) = Calls w n []
ContentsAre w (Err malformed) = Broken w malformed.number

-- the call that w begins with is of the kind, and agrees
pub record Agreeing (kind : Kind) (w : List ℕ) : Type 0 where
  pub of_kind : get_or w 0 0 ≡ word_of kind
  pub agrees : Replayed kind w (pack_of w) (lengths_of w) (Ok tt)

-- of the calls that w begins with, before `rest`, so many are of the kind and agree
pub data Agreed (kind : Kind) (w : List ℕ) : ℕ → List ℕ → Type 0 where
  none : Agreed kind w 0 w
  one_more : {n : ℕ} {rest : List ℕ} → Agreed kind w n rest → IsCall rest → Agreeing kind rest
      → Agreed kind w (suc n) (drop (size_of rest) rest)
  as_many : {n : ℕ} {rest : List ℕ} → Agreed kind w n rest → IsCall rest → (Agreeing kind rest → ⊥)
      → Agreed kind w n (drop (size_of rest) rest)

-- of all the calls that w begins with, so many are of the kind and agree
pub record Counted (kind : Kind) (w : List ℕ) (n : ℕ) : Type 0 where
  pub rest : List ℕ
  pub agreed : Agreed kind w n rest
  pub no_call : IsCall rest → ⊥
