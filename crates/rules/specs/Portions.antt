-- Portions of any places by depth, in the words of the cutting theorem: a portion is given by its places, `over t`, and by the depth steps
-- that it reads, `count t` of them from `start t` on. Definitions only.
use Rattle.std.specs.Prelude.{ℕ, ◌+◌, ◌*◌, ◌≤◌, ◌<◌, ◌≡◌}
use Rattle.rules.specs.Slice.{Within}

-- N portions lie within the places W and the depth k, none is empty in depth, and each starts at a multiple of the chunk length kc.
pub record Proper (kc k N : ℕ) (W : ℕ → ℕ → Type 0) (over : ℕ → ℕ → ℕ → Type 0) (start count : ℕ → ℕ) : Type 0 where
  pub within : (t i j : ℕ) → t < N → over t i j → W i j
  pub ends : (t : ℕ) → t < N → start t + count t ≤ k
  pub filled : (t : ℕ) → t < N → 0 < count t
  pub starts : (t : ℕ) → t < N → (q : ℕ) × (start t ≡ q * kc)

-- Every row, column and depth lies in exactly one portion, and each element's portions stand in rising order; those of different elements
-- as they like.
pub record Divides (k N : ℕ) (W : ℕ → ℕ → Type 0) (over : ℕ → ℕ → ℕ → Type 0) (start count : ℕ → ℕ) : Type 0 where
  pub covered : (i j q : ℕ) → W i j → q < k → (t : ℕ) × (t < N) × over t i j × Within (start t) (count t) q
  pub once : (t u i j q : ℕ) → t < N → u < N → over t i j → Within (start t) (count t) q → over u i j → Within (start u) (count u) q → t ≡ u
  pub rising : (t u i j : ℕ) → t < u → u < N → over t i j → over u i j → start t < start u
