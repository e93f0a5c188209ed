-- Pieces that cut a call, as portions of its places: what the cutting theorem asks, and back. Assumes nothing.
use Rattle.std.specs.Prelude.{ℕ, ◌*◌, ◌<◌, ◌≡◌}
use Rattle.std.proofs.Common.{arith}
use Rattle.rules.specs.Slice.{Block}
use Rattle.rules.specs.Portions.{Proper, Divides}
use Rattle.rules.specs.Pieces.{Piece, HasPlace, Fits, Cuts}

module _ {kc m k n N : ℕ} {piece : ℕ → Piece} where
  pub cuts_proper : Cuts kc m k n N piece
      → Proper kc k N (Block m n) (λ t. HasPlace (piece t)) (λ t. (piece t).depth) (λ t. (piece t).depths)
  cuts_proper c = record {
    within = λ t i j h o. omega (arith, c.fits t h);
    ends = λ t h. (c.fits t h).2;
    filled = λ t h. (c.fits t h).5;
    starts = c.starts;
  }

  pub cuts_divides : Cuts kc m k n N piece
      → Divides k N (Block m n) (λ t. HasPlace (piece t)) (λ t. (piece t).depth) (λ t. (piece t).depths)
  cuts_divides c = record {
    covered = λ i j q w l. c.covered i j q w.0 w.1 l;
    once = λ t u i j q ht hu ot rt ou ru. c.once t u i j q ht hu (omega arith) rt (omega arith) ru;
    rising = λ t u i j h l ot ou. c.rising t u i j h l (omega arith) (omega arith);
  }

  pub cuts_of : ((t : ℕ) → t < N → Fits m k n (piece t)) → ((t : ℕ) → t < N → (q : ℕ) × ((piece t).depth ≡ q * kc))
      → Divides k N (Block m n) (λ t. HasPlace (piece t)) (λ t. (piece t).depth) (λ t. (piece t).depths) → Cuts kc m k n N piece
  cuts_of fits starts d = record {
    fits = fits;
    starts = starts;
    covered = λ i j q hi hj l. let (t, h, o, r) = d.covered i j q (hi, hj) l in (t, h, omega arith, r);
    once = λ t u i j q ht hu ot rt ou ru. d.once t u i j q ht hu (omega arith) rt (omega arith) ru;
    rising = λ t u i j h l ot ou. d.rising t u i j h l (omega arith) (omega arith);
  }
