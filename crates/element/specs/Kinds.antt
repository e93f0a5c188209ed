-- The four kinds: arithmetic, how elements lie in a slice, chunks and tiles; and the depth chunk. Definitions only.
use Rattle.std.specs.Prelude.{◌≡◌, ℕ}
use Rattle.std.specs.Float.{Format, binary32, binary64}
use Rattle.rules.specs.{Element.Arith, Element.real, Element.complex, Slice.View, Slice.real_view, Slice.complex_view}
use Rattle.element.specs.declared.kind.{Kind.Kind, Tiling.Tiling}
use Rattle.element.specs.declared.kind.Kind.TheVariants.{F32, F64, C32, C64}

-- the format of a kind's floats
abbrev pub format_of : Kind → Format
format_of F32 = binary32
format_of F64 = binary64
format_of C32 = binary32
format_of C64 = binary64

abbrev pub arith_of : Kind → Arith
arith_of F32 = real binary32
arith_of F64 = real binary64
arith_of C32 = complex binary32
arith_of C64 = complex binary64

abbrev pub view_of : (kind : Kind) → View (arith_of kind).E
view_of F32 = real_view
view_of F64 = real_view
view_of C32 = complex_view
view_of C64 = complex_view

-- "Chunks and tiles of each element kind": row and column chunk, and the tile's two sides
abbrev pub tiling_of : Kind → Tiling
tiling_of F32 = record { mc = 64; nc = 1024; mr = 8; nr = 4 }
tiling_of F64 = record { mc = 64; nc = 1024; mr = 4; nr = 4 }
tiling_of C32 = record { mc = 32; nc = 512; mr = 4; nr = 2 }
tiling_of C64 = record { mc = 32; nc = 512; mr = 4; nr = 2 }

-- the depth chunk, the same of every kind
abbrev pub depth_chunk : ℕ
depth_chunk = 256

-- how many floats an element is
abbrev pub per_element : Kind → ℕ
per_element F32 = 1
per_element F64 = 1
per_element C32 = 2
per_element C64 = 2

-- the constants by which the code of a kind goes are the kind's
pub record Constants (kind : Kind) (row_chunk chunk column_chunk tile_rows tile_columns per : ℕ) : Type 0 where
  pub rows : (tiling_of kind).mc ≡ row_chunk
  pub depth : depth_chunk ≡ chunk
  pub columns : (tiling_of kind).nc ≡ column_chunk
  pub sides : ((tiling_of kind).mr ≡ tile_rows) × ((tiling_of kind).nr ≡ tile_columns)
  pub reals : per_element kind ≡ per
