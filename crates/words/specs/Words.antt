-- How bytes make a word. Definitions only.
use Rattle.std.specs.Prelude.{ℕ, zero, suc, ◌+◌, ◌*◌, List, get_or}

-- little-endian: the number that `count` bytes from an index on make, the lowest first; a byte past the end is 0
unfoldable pub number_at : ℕ → List ℕ → ℕ → ℕ
number_at zero bytes i = 0
number_at (suc count) bytes i = get_or bytes i 0 + 256 * number_at count bytes (suc i)

-- word i of some bytes
abbrev pub word_of : List ℕ → ℕ → ℕ
word_of bytes i = number_at 8 bytes (8 * i)
