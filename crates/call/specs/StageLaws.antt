-- Laws of the chain: each stage is a `Stage`, and so is the whole; from a stage's answer to the chain's, and from the chain's to what a
-- stage shows. Assumes nothing.
use Rattle.std.specs.Prelude.{ℕ, ◌<◌}
use mathlib.Core.{Path.◌≡◌, Logic.◌⊎◌, Logic.inr}
use Rattle.std.proofs.Common.{arith}
use Rattle.refusal.specs.Order.{Says, Where, First, done}
use Rattle.refusal.specs.OrderLaws.{One, one_done, Stage, refuses, first_stage, then_stage, fork_stage, fork_passed}
use Rattle.element.specs.{declared.kind.Kind.Kind, Kinds.depth_chunk}
use Rattle.layout.specs.{declared.operand.Operand.Operand, Place.TwoMeet, Need.Large}
use Rattle.call.specs.declared.judge.{Matrices.Matrices, Lengths.Lengths}
use Rattle.call.specs.Verdict.{Far, SizesThen, InsideThen, CThen, ABThen, RoomThen, Judged}

-- ---- the stages

pub sizes_stage : (q : Matrices) → Stage (SizesThen q)
sizes_stage q =
    then_stage (First (Large q.m q.k q.n) 1) (First (Far q) 2) (first_stage _ 1 (omega arith)) (first_stage _ 2 (omega arith))

pub inside_stage : (kind : Kind) (m n : ℕ) (o : Operand) (floats x : ℕ) → 0 < x → Stage (InsideThen kind m n o floats x)
inside_stage kind m n o floats x h = first_stage _ x h

pub room_stage : (kind : Kind) (kc : ℕ) (q : Matrices) (pack : ℕ) → Stage (RoomThen kind kc q pack)
room_stage kind kc q pack = first_stage _ 7 (omega arith)

module _ (kind : Kind) (q : Matrices) (floats : Lengths) where
  -- the parts of the two stages between
  abbrev pub InsideA : Says → Says
  InsideA = InsideThen kind q.m q.k q.a floats.a 5

  abbrev pub InsideB : Says → Says
  InsideB = InsideThen kind q.k q.n q.b floats.b 6

  abbrev pub InsideC : Says → Says
  InsideC = InsideThen kind q.m q.n q.c floats.c 3

  abbrev pub MeetC : Says → Says
  MeetC = First (TwoMeet q.m q.n q.c) 4

  pub inside_a_stage : Stage InsideA
  inside_a_stage = inside_stage kind q.m q.k q.a floats.a 5 (omega arith)

  pub inside_c_stage : Stage InsideC
  inside_c_stage = inside_stage kind q.m q.n q.c floats.c 3 (omega arith)

  pub c_stage : Stage (CThen kind q floats)
  c_stage = then_stage InsideC MeetC inside_c_stage (first_stage _ 4 (omega arith))

  pub ab_stage : Stage (ABThen kind q floats)
  ab_stage = then_stage InsideA InsideB inside_a_stage (inside_stage kind q.k q.n q.b floats.b 6 (omega arith))

-- ---- the chain, of the four stages and the two early ends

module _ (kind : Kind) (pack : ℕ) (q : Matrices) (floats : Lengths) where
  abbrev pub Room : Says → Says
  Room = RoomThen kind depth_chunk q pack

  abbrev pub Deep : Says → Says
  Deep end = Where (q.k ≡ 0) end (ABThen kind q floats (Room end))

  abbrev pub Wide : Says → Says
  Wide end = Where ((q.m ≡ 0) ⊎ (q.n ≡ 0)) end (CThen kind q floats (Deep end))

  pub judged_stage : Stage (Judged kind pack q floats)
  unfolding Judged
  judged_stage =
      then_stage (SizesThen q) Wide (sizes_stage q) (
      fork_stage _ (λ end. CThen kind q floats (Deep end)) (
      then_stage (CThen kind q floats) Deep (c_stage kind q floats) (
      fork_stage _ (λ end. ABThen kind q floats (Room end)) (
      then_stage (ABThen kind q floats) Room (ab_stage kind q floats) (room_stage kind depth_chunk q pack)))))

  -- ONE NUMBER
  pub judged_one : One (Judged kind pack q floats done)
  judged_one = judged_stage.one done one_done

  -- from the stages' answers to the chain's
  pub judged_sizes : (r : ℕ) → 0 < r → SizesThen q done r → Judged kind pack q floats done r
  unfolding Judged
  judged_sizes r h v = refuses (SizesThen q) (sizes_stage q) (Wide done) r h v

  module _ (r : ℕ) (s : SizesThen q done 0) where
    pub judged_wide : Wide done r → Judged kind pack q floats done r
    unfolding Judged
    judged_wide v = (sizes_stage q).passes (Wide done) r s v

    module _ (some : (q.m ≡ 0) ⊎ (q.n ≡ 0) → ⊥) where
      pub judged_c : 0 < r → CThen kind q floats done r → Judged kind pack q floats done r
      judged_c h v = judged_wide (inr (some, refuses (CThen kind q floats) (c_stage kind q floats) (Deep done) r h v))

      module _ (c : CThen kind q floats done 0) where
        pub judged_deep : Deep done r → Judged kind pack q floats done r
        judged_deep v = judged_wide (inr (some, (c_stage kind q floats).passes (Deep done) r c v))

        module _ (more : q.k ≡ 0 → ⊥) where
          pub judged_ab : 0 < r → ABThen kind q floats done r → Judged kind pack q floats done r
          judged_ab h v = judged_deep (inr (more, refuses (ABThen kind q floats) (ab_stage kind q floats) (Room done) r h v))

          pub judged_room : ABThen kind q floats done 0 → Room done r → Judged kind pack q floats done r
          judged_room ab v = judged_deep (inr (more, (ab_stage kind q floats).passes (Room done) r ab v))

  -- and from a chain that is done to its stages
  module _ (v : Judged kind pack q floats done 0) where
    pub done_sizes : SizesThen q done 0
    unfolding Judged
    done_sizes = ((sizes_stage q).passed (Wide done) v).0

    module _ (some : (q.m ≡ 0) ⊎ (q.n ≡ 0) → ⊥) where
      from_c : CThen kind q floats done 0 × Deep done 0
      unfolding Judged
      from_c = (c_stage kind q floats).passed (Deep done) (fork_passed some ((sizes_stage q).passed (Wide done) v).1)

      pub done_c : CThen kind q floats done 0
      done_c = from_c.0

      pub done_ab_room : (q.k ≡ 0 → ⊥) → ABThen kind q floats done 0 × Room done 0
      done_ab_room more = (ab_stage kind q floats).passed (Room done) (fork_passed more from_c.1)
