-- Words that are all there but hold other floats than their kind's are no call. Assumes nothing.
use Rattle.std.proofs.Common.{rules, ◌≡◌, ℕ, ◌-◌, List, slice_range, take, sym, ap, ◌∙◌, subst, arith}
use Rattle.sample.specs.Calls.{size_of, Short, HoldsFloats}
use Rattle.sample.proofs.calls.first_call.Goals as goal

from_the_start : (words : List ℕ) {part : List ℕ} (size : ℕ) {of : ℕ} → part ≡ slice_range words 0 size → size ≡ of → take of words ≡ part
from_the_start words size {of} e same =
    let counted : of ≡ size - 0 = omega arith in
    ap (λ n. take n words) counted ∙ sym e

pub returns-else-holds_floats : goal.returns-else-holds_floats
returns-else-holds_floats c =
    let words = c.args.words.now in
    let short : Short words = search rules in
    let whole : take (size_of words) words ≡ c.in_ok-call.call.now = from_the_start words _ c.in_ok-call.ensures.lookup.0.2 (omega arith) in
    λ call. c.holds_floats.ensures.if_false c.if-holds_floats.false (subst HoldsFloats whole call.floats)
