-- What each stage that is done shows, and a call that is done of its three matrices. Assumes nothing.
use Rattle.std.specs.Prelude.{ℕ, ◌≤◌, ◌<◌, ◌^◌}
use mathlib.Core.{Path.◌≡◌, Logic.◌⊎◌, Logic.inl, Logic.inr}
use native.Mathlib.{Nat.pos_of_ne-zero, Omega.arith}
use Rattle.refusal.specs.{Order.done, OrderLaws.first_passed}
use Rattle.element.specs.{declared.kind.Kind.Kind, Kinds.view_of, Kinds.tiling_of, Kinds.depth_chunk}
use Rattle.layout.specs.{declared.operand.Operand.Operand, Need.need_of}
use Rattle.layout.proofs.BasedLaws.{writable}
use Rattle.layout.specs.Operands.{AllInside, NoneMeet, Modest, Readable, Writable}
use Rattle.layout.specs.Tests.{all_inside, none_meet, not_large, modest, not_above}
use Rattle.call.specs.declared.judge.{Matrices.Matrices, Lengths.Lengths}
use Rattle.call.specs.{Verdict.Far, Verdict.SizesThen, Verdict.InsideThen, Verdict.CThen, Verdict.ABThen, Verdict.RoomThen}
use Rattle.call.specs.{Verdict.Judged, Outcome.Idle}
use Rattle.call.specs.StageLaws.{InsideA, InsideB, InsideC, MeetC, inside_a_stage, inside_c_stage, done_sizes, done_c, done_ab_room}

-- ---- sizes that are not zero

pub none_empty : {m n : ℕ} → 0 < m → 0 < n → (m ≡ 0) ⊎ (n ≡ 0) → ⊥
none_empty hm hn (inl e) = omega arith
none_empty hm hn (inr e) = omega arith

pub none_idle : (q : Matrices) → 0 < q.m → 0 < q.k → 0 < q.n → Idle q → ⊥
none_idle q hm hk hn (inl e) = omega arith
none_idle q hm hk hn (inr (inl e)) = omega arith
none_idle q hm hk hn (inr (inr e)) = omega arith

pub busy_sizes : (q : Matrices) → (Idle q → ⊥) → (0 < q.m) × (0 < q.k) × (0 < q.n)
busy_sizes q f = (pos_of_ne-zero (λ e. f (inl e)), pos_of_ne-zero (λ e. f (inr (inl e))), pos_of_ne-zero (λ e. f (inr (inr e))))

-- ---- a stage that is done

module _ (q : Matrices) (s : SizesThen q done 0) where
  pub sizes_small : (q.m ≤ 65536) × (q.k ≤ 65536) × (q.n ≤ 65536)
  sizes_small = not_large (first_passed (omega arith) s).0

  pub strides_short : Far q → ⊥
  strides_short = (first_passed (omega arith) (first_passed (omega arith) s).1).0

  pub modest_a : Modest q.m q.k q.a
  modest_a = modest q.a sizes_small.0 sizes_small.1 (λ l. strides_short (inl l))

  pub modest_b : Modest q.k q.n q.b
  modest_b = modest q.b sizes_small.1 sizes_small.2 (λ l. strides_short (inr (inl l)))

  pub modest_c : Modest q.m q.n q.c
  modest_c = modest q.c sizes_small.0 sizes_small.2 (λ l. strides_short (inr (inr l)))

pub inside_done : (kind : Kind) (m n : ℕ) (o : Operand) (floats x : ℕ) → 0 < x → InsideThen kind m n o floats x done 0
    → AllInside m n o ((view_of kind).count floats)
inside_done kind m n o floats x h v = all_inside m n o ((view_of kind).count floats) (first_passed h v).0

module _ (kind : Kind) (q : Matrices) (floats : Lengths) where
  module _ (v : CThen kind q floats done 0) where
    c_parts : InsideC kind q floats done 0 × MeetC kind q floats done 0
    c_parts = (inside_c_stage kind q floats).passed (MeetC kind q floats done) v

    pub inside_c : InsideC kind q floats done 0
    inside_c = c_parts.0

    pub all_c : AllInside q.m q.n q.c ((view_of kind).count floats.c)
    all_c = inside_done kind q.m q.n q.c floats.c 3 (omega arith) inside_c

    pub apart_c : NoneMeet q.m q.n q.c
    apart_c = none_meet q.m q.n q.c (first_passed (omega arith) c_parts.1).0

  module _ (v : ABThen kind q floats done 0) where
    pub inside_ab : InsideA kind q floats done 0 × InsideB kind q floats done 0
    inside_ab = (inside_a_stage kind q floats).passed (InsideB kind q floats done) v

    pub all_a : AllInside q.m q.k q.a ((view_of kind).count floats.a)
    all_a = inside_done kind q.m q.k q.a floats.a 5 (omega arith) inside_ab.0

    pub all_b : AllInside q.k q.n q.b ((view_of kind).count floats.b)
    all_b = inside_done kind q.k q.n q.b floats.b 6 (omega arith) inside_ab.1

pub room_done : (kind : Kind) (kc : ℕ) (q : Matrices) (floats : ℕ) → RoomThen kind kc q floats done 0
    → need_of (tiling_of kind) kc q.m q.k q.n ≤ (view_of kind).count floats
room_done kind kc q floats v =
    not_above ((view_of kind).count floats) (need_of (tiling_of kind) kc q.m q.k q.n) (first_passed (omega arith) v).0

-- ---- a call that is done: its matrices may be read, and C written

module _ (kind : Kind) (pack : ℕ) (q : Matrices) (floats : Lengths) (v : Judged kind pack q floats done 0) (hm : 0 < q.m)
    (hn : 0 < q.n) where
  pub writable_c : (view_of kind).count floats.c < 2 ^ 62 → Writable q.m q.n q.c ((view_of kind).count floats.c)
  writable_c l =
      let c = done_c kind pack q floats v (none_empty hm hn) in
      let m = modest_c q (done_sizes kind pack q floats v) in
      writable (record { m_some = hm; n_some = hn; modest = m; inside = all_c kind q floats c; long = l }) (apart_c kind q floats c)

  module _ (hk : 0 < q.k) where
    ab_room : ABThen kind q floats done 0 × RoomThen kind depth_chunk q pack done 0
    ab_room = done_ab_room kind pack q floats v (none_empty hm hn) (λ e. omega arith)

    pub readable_a : (view_of kind).count floats.a < 2 ^ 62 → Readable q.m q.k q.a ((view_of kind).count floats.a)
    readable_a l =
        let m = modest_a q (done_sizes kind pack q floats v) in
        record { m_some = hm; n_some = hk; modest = m; inside = all_a kind q floats ab_room.0; long = l }

    pub readable_b : (view_of kind).count floats.b < 2 ^ 62 → Readable q.k q.n q.b ((view_of kind).count floats.b)
    readable_b l =
        let m = modest_b q (done_sizes kind pack q floats v) in
        record { m_some = hk; n_some = hn; modest = m; inside = all_b kind q floats ab_room.0; long = l }

    pub enough_room : need_of (tiling_of kind) depth_chunk q.m q.k q.n ≤ (view_of kind).count pack
    enough_room = room_done kind depth_chunk q pack ab_room.1
