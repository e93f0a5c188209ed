-- Pieces of an accepted call: each stage lets a piece pass that lets the whole pass, and together the pieces do the call's work.
-- Assumes nothing.
use Rattle.std.specs.Prelude.{ℕ, suc, ◌+◌, ◌≤◌, ◌<◌}
use mathlib.Core.{Path.◌≡◌, Path.refl, Path.transport, Logic.inl, Logic.inr, List.List}
use Rattle.std.proofs.Common.{arith}
use lib.{ListN.length, Ieee.Float}
use Rattle.refusal.specs.Order.{done}
use Rattle.rules.specs.{Element.multiplier, Element.element, Slice.Updated, Slice.Block}
use Rattle.rules.specs.{Pieces.Piece, Pieces.Fits, Pieces.Cuts, Pieces.HasPlace, PieceLaws.cuts_proper, PieceLaws.cuts_divides}
use Rattle.rules.specs.SliceLaws.{region?, moved, unique, placed?}
use Rattle.rules.proofs.CuttingTheorem.{portion_rule, whole_rule, cut}
use Rattle.element.specs.KindLaws.{lawful}
use Rattle.element.specs.{declared.kind.Kind.Kind, Kinds.arith_of, Kinds.view_of, Kinds.tiling_of, Kinds.depth_chunk}
use Rattle.layout.specs.{declared.operand.Operand.Operand, Place.index_of, Place.based_at, NeedLaws.need_mono, NeedLaws.kind_sides}
use Rattle.layout.specs.Tests.{outside_or_inside, meet_or_apart, none_large}
use Rattle.layout.proofs.BasedLaws.{based_inside, based_apart, based_long, inside_index, inside_apart}
use Rattle.call.specs.declared.judge.{Matrices.Matrices, Lengths.Lengths}
use Rattle.call.specs.Call.{Call, chunk, row_of, column_of, Does}
use Rattle.call.specs.Verdict.{Far, SizesThen, InsideThen, CThen, ABThen, RoomThen, Judged, Verdict}
use Rattle.call.specs.{Outcome.Idle, Pieces.piece_over, Pieces.piece_call}
use Rattle.call.specs.StageLaws.{InsideB, MeetC, inside_a_stage, inside_c_stage, judged_room, done_sizes, done_c, done_ab_room}
use Rattle.call.specs.DoneLaws.{busy_sizes, none_empty, sizes_small, strides_short, inside_done, inside_c, all_c, apart_c}
use Rattle.call.specs.DoneLaws.{inside_ab, all_a, all_b, room_done}

-- ---- stage by stage

inside_piece : (kind : Kind) (m n : ℕ) (o : Operand) (floats x : ℕ) → 0 < x → InsideThen kind m n o floats x done 0
    → (r c h w : ℕ) → r + h ≤ m → c + w ≤ n → 0 < h → 0 < w → InsideThen kind h w (based_at o r c) floats x done 0
inside_piece kind m n o floats x some v r c h w fr fc sr sc =
    let len = (view_of kind).count floats in
    inr (
      λ s. outside_or_inside h w (based_at o r c) len s
          (based_inside m n o len (inside_done kind m n o floats x some v) r c h w fr fc sr sc),
      refl,
    )

module _ (q : Matrices) (p : Piece) (fits : Fits q.m q.k q.n p) where
  -- a stride that is judged in a piece is judged in the whole call
  far_piece : Far (piece_over q p) → Far q
  far_piece (inl l) = inl (based_long q.a p.row p.depth (omega arith) (omega arith) l)
  far_piece (inr (inl l)) = inr (inl (based_long q.b p.depth p.column (omega arith) (omega arith) l))
  far_piece (inr (inr l)) = inr (inr (based_long q.c p.row p.column (omega arith) (omega arith) l))

  sizes_piece : SizesThen q done 0 → SizesThen (piece_over q p) done 0
  sizes_piece s =
      let l = sizes_small q s in
      inr (none_large (omega arith) (omega arith) (omega arith), inr (λ f. strides_short q s (far_piece f), refl))

  module _ (kind : Kind) (floats : Lengths) where
    c_piece : CThen kind q floats done 0 → CThen kind (piece_over q p) floats done 0
    c_piece v =
        (inside_c_stage kind (piece_over q p) floats).passes (MeetC kind (piece_over q p) floats done) 0
        (inside_piece kind q.m q.n q.c floats.c 3 (omega arith) (inside_c kind q floats v) p.row p.column p.rows
        p.columns (omega arith) (omega arith) (omega arith) (omega arith))
        (inr (
          λ s. meet_or_apart p.rows p.columns (piece_over q p).c s
              (based_apart q.m q.n q.c ((view_of kind).count floats.c) (all_c kind q floats v) p.row p.column p.rows
              p.columns (omega arith) (omega arith) (omega arith) (omega arith) (apart_c kind q floats v)),
          refl,
        ))

    ab_piece : ABThen kind q floats done 0 → ABThen kind (piece_over q p) floats done 0
    ab_piece v =
        (inside_a_stage kind (piece_over q p) floats).passes (InsideB kind (piece_over q p) floats done) 0
        (inside_piece kind q.m q.k q.a floats.a 5 (omega arith) (inside_ab kind q floats v).0 p.row p.depth p.rows
        p.depths (omega arith) (omega arith) (omega arith) (omega arith))
        (inside_piece kind q.k q.n q.b floats.b 6 (omega arith) (inside_ab kind q floats v).1 p.depth p.column
        p.depths p.columns (omega arith) (omega arith) (omega arith) (omega arith))

  room_piece : (kind : Kind) (kc floats : ℕ) → RoomThen kind kc q floats done 0 → RoomThen kind kc (piece_over q p) floats done 0
  room_piece kind kc floats v =
      let less = need_mono (tiling_of kind) kc (kind_sides kind).0 (kind_sides kind).1 p.rows q.m p.depths q.k p.columns
      q.n (omega arith) (omega arith) (omega arith) in
      inr (λ s. omega (arith, room_done kind kc q floats v, less), refl)

-- ---- of a call

module _ {kind : Kind} (pack : ℕ) (q : Call kind) (floats : Lengths) (v : Verdict pack q floats 0) (idle : Idle q.over → ⊥) where
  judged : Judged kind pack q.over floats done 0
  unfolding Verdict
  judged = v

  c_ok : CThen kind q.over floats done 0
  c_ok = let (hm, hk, hn) = busy_sizes q.over idle in done_c kind pack q.over floats judged (none_empty hm hn)

  ab_room : ABThen kind q.over floats done 0 × RoomThen kind depth_chunk q.over pack done 0
  ab_room =
      let (hm, hk, hn) = busy_sizes q.over idle in
      done_ab_room kind pack q.over floats judged (none_empty hm hn) (λ e. omega arith)

  -- A PIECE OF AN ACCEPTED CALL IS ACCEPTED
  pub piece_accepted : (p : Piece) → Fits q.over.m q.over.k q.over.n p → Verdict pack (piece_call q p) floats 0
  unfolding Verdict
  piece_accepted p fits =
      judged_room kind pack (piece_call q p).over floats 0 (sizes_piece q.over p fits (done_sizes kind pack q.over floats judged))
      (none_empty (omega arith) (omega arith))
      (c_piece q.over p fits kind floats c_ok) (λ e. omega arith) (ab_piece q.over p fits kind floats ab_room.0)
      (room_piece q.over p fits kind depth_chunk pack ab_room.1)

  module _ (A B : List Float) where
    -- a piece's work, as work on the whole call's places
    piece_does : (p : Piece) → Fits q.over.m q.over.k q.over.n p → (C D : List Float) → Does (piece_call q p) A B C D
        → Updated (view_of kind) (index_of q.over.c) (HasPlace p)
        (portion_rule (arith_of kind) (chunk q) q.alpha q.beta (row_of q A) (column_of q B) p.depth p.depths) C D
    unfolding Does portion_rule
    piece_does p fits C D u =
        moved (view_of kind) (index_of q.over.c) p.row p.column p.rows p.columns
        (transport (λ s. Updated (view_of kind) (λ i j. places i j s) (Block p.rows p.columns)
        (λ i j. element (arith_of kind) (chunk q) q.alpha (multiplier (arith_of kind) q.beta p.depth)
        (λ d. (view_of kind).get A (row i d s)) (λ d. (view_of kind).get B (column d j s)) p.depths) C D) u)
      where
        places : (i j : ℕ) → index_of (based_at q.over.c p.row p.column) i j ≡ index_of q.over.c (p.row + i) (p.column + j)
        places i j = inside_index q.over.m q.over.n q.over.c ((view_of kind).count floats.c)
            (all_c kind q.over floats c_ok) p.row p.column i j (omega arith) (omega arith)

        row : (i d : ℕ) → index_of (based_at q.over.a p.row p.depth) i d ≡ index_of q.over.a (p.row + i) (p.depth + d)
        row i d = inside_index q.over.m q.over.k q.over.a ((view_of kind).count floats.a)
            (all_a kind q.over floats ab_room.0) p.row p.depth i d (omega arith) (omega arith)

        column : (d j : ℕ) → index_of (based_at q.over.b p.depth p.column) d j ≡ index_of q.over.b (p.depth + d) (p.column + j)
        column d j = inside_index q.over.k q.over.n q.over.b ((view_of kind).count floats.b)
            (all_b kind q.over floats ab_room.0) p.depth p.column d j (omega arith) (omega arith)

    -- THE PIECES TOGETHER: any list of pieces that cuts the call
    pub pieces_do : (N : ℕ) (piece : ℕ → Piece) → Cuts (chunk q) q.over.m q.over.k q.over.n N piece
        → (slice : ℕ → List Float) → ((t : ℕ) → t < N → Does (piece_call q (piece t)) A B (slice t) (slice (suc t)))
        → Does q A B (slice 0) (slice N)
    unfolding Does whole_rule
    pieces_do N piece cuts slice runs =
        cut (arith_of kind) (chunk q) q.alpha q.beta (row_of q A) (column_of q B) (λ t. HasPlace (piece t)) over? (λ t. (piece t).depth)
        (λ t. (piece t).depths)
        (omega arith) q.over.k N (Block q.over.m q.over.n) (cuts_proper cuts) (cuts_divides cuts)
        (lawful kind) (index_of q.over.c) (inside_apart q.over.m q.over.n q.over.c ((view_of kind).count floats.c)
        (all_c kind q.over floats c_ok) (apart_c kind q.over floats c_ok))
        slice (λ t h. piece_does (piece t) (cuts.fits t h) (slice t) (slice (suc t)) (runs t h)) (busy_sizes q.over idle).1
      where
        over? : (t i j : ℕ) → Dec (HasPlace (piece t) i j)
        over? t i j = region? (piece t).row (piece t).rows (piece t).column (piece t).columns i j

-- ---- one exit slice

pub does_same : {kind : Kind} (q : Call kind) (A B C D D' : List Float) → Does q A B C D → Does q A B C D' → D ≡ D'
unfolding Does
does_same {kind} q A B C D D' u w =
    unique (lawful kind) (index_of q.over.c) (placed? (index_of q.over.c) q.over.m q.over.n) u w

pub does_long : {kind : Kind} (q : Call kind) (A B C D : List Float) → Does q A B C D → length D ≡ length C
unfolding Does
does_long q A B C D u = u.same_length
