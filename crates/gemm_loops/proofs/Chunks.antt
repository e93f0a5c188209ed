-- A chunk of a length is not empty and ends in it. Assumes nothing.
use Rattle.std.proofs.Common.{◌≡◌, ℕ, ◌+◌, ◌*◌, ◌<◌, ◌≤◌}
use Rattle.rules.specs.Element.{chunks, chunk_length}
use Rattle.layout.specs.ChunkLaws.{chunk_inside, chunk_some, chunk_width}

pub chunk_fits : (w k t : ℕ) {count length : ℕ} → count ≡ chunks w k → t < count → length ≡ chunk_length w k t
    → (0 < length) × (t * w + length ≤ k)
chunk_fits w k t counted l e =
    let h : t < chunks w k = rw counted at l in rw e (chunk_some w k t (chunk_width w k t h) h, chunk_inside w k t h)
