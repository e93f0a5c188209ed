-- A complex number is stored as two reals, one after the other. Assumes nothing.
use Rattle.std.specs.Prelude.{◌≡◌, ℕ, ◌+◌, ◌*◌, ◌<◌, List, length, slice_set, Float, map}
use Rattle.std.proofs.Common.{rules}
use Rattle.rules.specs.Element.{Complex}
use Rattle.rules.specs.Slice.{complex_view}
use Rattle.rules.specs.Stores.{Stored}
use Rattle.element.specs.FloatLaws.{set_floats}

floats_stored : (s : List Float) (at : ℕ) (x : Complex) → at < complex_view.count (length s)
    → Stored complex_view at x s (slice_set (slice_set s (at * 2) x.re) (at * 2 + 1) x.im)
floats_stored s at x l = search rules

pub reals_stored : {N : Type 0} {is : N → Float} {floats : List N → List Float} → ((s : List N) → floats s ≡ map is s)
    → (s : List N) (at : ℕ) (re im : N) → at < complex_view.count (length (floats s))
    → Stored complex_view at (record { re = is re; im = is im }) (floats s) (floats (slice_set (slice_set s (at * 2) re) (at * 2 + 1) im))
reals_stored {is = is} {floats} each s at re im l =
    rw (set_floats each (slice_set s (at * 2) re) (at * 2 + 1) im, set_floats each s (at * 2) re)
    (floats_stored (floats s) at (record { re = is re; im = is im }) l)
