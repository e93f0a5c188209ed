-- DEMAND 1: the refusals, "tested in this order". Stages, each of which takes the rest. Definitions only.
use Rattle.std.specs.Prelude.{ℕ, ◌<◌}
use mathlib.Core.{Path.◌≡◌, Logic.◌⊎◌, List.List}
use lib.{ListN.length, Ieee.Float}
use Rattle.refusal.specs.Order.{Says, Where, First, done}
use Rattle.element.specs.declared.kind.Kind.{Kind}
use Rattle.element.specs.Kinds.{view_of, tiling_of, depth_chunk}
use Rattle.layout.specs.{declared.operand.Operand.Operand, Place.SomeOutside, Place.TwoMeet, Place.Long, Need.need_of, Need.Large}
use Rattle.call.specs.declared.judge.{Matrices.Matrices, Lengths.Lengths}
use Rattle.call.specs.Call.{Call}

abbrev pub lengths : List Float → List Float → List Float → Lengths
lengths A B C = record { a = length A; b = length B; c = length C }

-- "one of the six strides", each along its axis: "m for A's and C's row strides, k for A's column and B's row stride, n for B's and C's
-- column strides"
abbrev pub Far : Matrices → Type 0
Far q = Long q.m q.k q.a ⊎ (Long q.k q.n q.b ⊎ Long q.m q.n q.c)

-- 1 and 2
abbrev pub SizesThen : Matrices → Says → Says
SizesThen q rest = First (Large q.m q.k q.n) 1 (First (Far q) 2 rest)

-- x where a place of an m by n matrix is outside its slice of so many floats
abbrev pub InsideThen : Kind → ℕ → ℕ → Operand → ℕ → ℕ → Says → Says
InsideThen kind m n o floats x rest = First (SomeOutside m n o ((view_of kind).count floats)) x rest

-- 3 and 4; 5 and 6
abbrev pub CThen : Kind → Matrices → Lengths → Says → Says
CThen kind q floats rest = InsideThen kind q.m q.n q.c floats.c 3 (First (TwoMeet q.m q.n q.c) 4 rest)

abbrev pub ABThen : Kind → Matrices → Lengths → Says → Says
ABThen kind q floats rest =
    InsideThen kind q.m q.k q.a floats.a 5 (InsideThen kind q.k q.n q.b floats.b 6 rest)

-- 7, of a pack buffer of so many floats
abbrev pub RoomThen : Kind → ℕ → Matrices → ℕ → Says → Says
RoomThen kind kc q floats rest =
    First ((view_of kind).count floats < need_of (tiling_of kind) kc q.m q.k q.n) 7 rest

-- THE CHAIN. "After 1 and 2: if m or n is zero the call is done"; "After 4: if k is zero .. the call is done": what `end` says, there and
-- at the last.
unfoldable pub Judged : Kind → ℕ → Matrices → Lengths → Says → Says
Judged kind pack q floats end =
    SizesThen q (
    Where ((q.m ≡ 0) ⊎ (q.n ≡ 0)) end (
    CThen kind q floats (
    Where (q.k ≡ 0) end (
    ABThen kind q floats (
    RoomThen kind depth_chunk q pack end)))))

-- THE NUMBER that a call is answered, over a pack buffer and slices of so many floats
unfoldable pub Verdict : {kind : Kind} → ℕ → Call kind → Lengths → Says
unfolding Judged
Verdict {kind} pack q floats = Judged kind pack q.over floats done
