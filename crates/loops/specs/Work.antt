-- What a depth chunk, and the first t depth chunks, make of an element of C; what packing and the loops ask, promise and keep. kc is how
-- many depth steps a chunk has, ch the call's depth chunk, asize how many floats stand in front of B's panels. Definitions only.
use Rattle.std.specs.Prelude.{ℕ, min, ◌+◌, ◌-◌, ◌*◌, ◌<◌, ◌≤◌, ◌≡◌, List, length, get_or, take, drop, Float}
use Rattle.std.specs.Float.{nan}
use Rattle.rules.specs.Element.{Arith, Fate, put, chunk_sum, chunks, after}
use Rattle.rules.specs.Slice.{Updated, Block}
use Rattle.rules.specs.Lists.{splice}
use Rattle.element.specs.Kinds.{arith_of, view_of, tiling_of, per_element}
use Rattle.element.specs.declared.kind.Kind.{Kind}
use Rattle.layout.specs.declared.operand.Operand.{Operand}
use Rattle.layout.specs.Place.{index_of, element_at}
use Rattle.layout.specs.Operands.{Readable, Writable}
use Rattle.layout.specs.Need.{round_up, need_of}
use Rattle.loops.specs.Panels.{packing_of, padded, packed, unpacked}

-- ---- one element of C

-- alpha times the chunk's sum over row i of x and column j of y, put over old C
abbrev pub part : (ar : Arith) → ar.E → (ℕ → ℕ → ar.E) → (ℕ → ℕ → ar.E) → ℕ → ℕ → ℕ → ar.E
part ar alpha x y kc i j = ar.mul alpha (chunk_sum ar (x i) (y j) 0 kc)

abbrev pub settled : (ar : Arith) → Fate ar.E → ar.E → (ℕ → ℕ → ar.E) → (ℕ → ℕ → ar.E) → ℕ → ℕ → ℕ → ar.E → ar.E
settled ar fate alpha x y kc i j = put ar fate (part ar alpha x y kc i j)

module _ (kind : Kind) where
  -- the element after the first t chunks of ch of the depth k, of row i of A and column j of B
  abbrev pub deep : ℕ → (arith_of kind).E → (arith_of kind).E → List Float → Operand → List Float → Operand → ℕ → ℕ → ℕ → ℕ
      → (arith_of kind).E → (arith_of kind).E
  deep ch alpha beta A oa B ob k t i j = after (arith_of kind) ch alpha beta (element_at kind A oa i) (λ p. element_at kind B ob p j) k t

  -- what LOOP 3 makes of an element of C: B's panels stand in P from asize on
  abbrev pub rows_make : Fate (arith_of kind).E → (arith_of kind).E → List Float → Operand → List Float → ℕ → ℕ → ℕ → ℕ
      → (arith_of kind).E → (arith_of kind).E
  rows_make fate alpha A oa P asize kc =
      settled (arith_of kind) fate alpha (element_at kind A oa) (unpacked (packing_of kind) (drop asize P) (tiling_of kind).nr kc) kc

  -- what LOOP 2 makes of it, from A's panels in front of asize and B's behind it
  abbrev pub panels_make : Fate (arith_of kind).E → (arith_of kind).E → List Float → ℕ → ℕ → ℕ → ℕ → (arith_of kind).E → (arith_of kind).E
  panels_make fate alpha P asize kc =
      settled (arith_of kind) fate alpha (unpacked (packing_of kind) (take asize P) (tiling_of kind).mr kc)
      (unpacked (packing_of kind) (take (length P - asize) (drop asize P)) (tiling_of kind).nr kc) kc

  -- ---- packing

  -- how many floats the panels of width w take, of m rows and kc depth steps
  abbrev pub panels : ℕ → ℕ → ℕ → ℕ
  panels w m kc = chunks w m * (kc * (packing_of kind).floats w)

  -- asked: m rows of kc depth steps may be read, and their panels of width w, at most the tile's rows, fit into the buffer
  pub record Packable (w kc m : ℕ) (o : Operand) (A P : List Float) : Type 0 where
    pub readable : Readable m kc o ((view_of kind).count (length A))
    pub room : panels w m kc ≤ length P
    pub some : 0 < w
    pub most : w ≤ (tiling_of kind).mr

  -- promised: the panels stand at the front, and the rest of the buffer is as it was
  pub record PackedFrom (w kc m : ℕ) (o : Operand) (A P Q : List Float) : Type 0 where
    pub stored : Q ≡ splice P 0 (packed (packing_of kind) w kc (chunks w m) (padded (arith_of kind) m (element_at kind A o)))

-- ---- the loops

-- the buffer was P and is Q: its floats from `from` on are as they were
pub record KeptFrom (from : ℕ) (P Q : List Float) : Type 0 where
  pub same_length : length Q ≡ length P
  pub beyond : (t : ℕ) → from ≤ t → get_or Q t nan ≡ get_or P t nan

module _ (kind : Kind) where
  -- how many floats LOOP 5 keeps for A's panels, at the front of the buffer
  abbrev pub front_room : ℕ → ℕ → ℕ → ℕ
  front_room ch m k = min k ch * (round_up (min m (tiling_of kind).mc) (tiling_of kind).mr * per_element kind)

  -- asked of the buffer: A's panels, of at most a row chunk of m rows, fit in front of asize, and B's, of n columns, behind it
  pub record Shares (m kc n asize len : ℕ) : Type 0 where
    pub front : panels kind (tiling_of kind).mr (min m (tiling_of kind).mc) kc ≤ asize
    pub rest : asize + panels kind (tiling_of kind).nr n kc ≤ len

  -- LOOP 3 asks
  pub record RowsAsk (m kc n asize : ℕ) (oa oc : Operand) (A C P : List Float) : Type 0 where
    pub writable : Writable m n oc ((view_of kind).count (length C))
    pub readable : Readable m kc oa ((view_of kind).count (length A))
    pub shares : Shares m kc n asize (length P)

  -- C may be written, A and B read
  pub record MatricesFit (m k n : ℕ) (oa ob oc : Operand) (A B C : List Float) : Type 0 where
    pub writable : Writable m n oc ((view_of kind).count (length C))
    pub readable_a : Readable m k oa ((view_of kind).count (length A))
    pub readable_b : Readable k n ob ((view_of kind).count (length B))

  -- LOOP 4 asks, for depth chunks of ch
  pub record DepthAsks (ch m k n asize : ℕ) (oa ob oc : Operand) (A B C P : List Float) : Type 0 where
    pub matrices : MatricesFit m k n oa ob oc A B C
    pub chunk : 0 < ch
    pub shares : Shares m (min k ch) n asize (length P)

  -- LOOP 5 asks
  pub record ColumnsAsk (ch m k n : ℕ) (oa ob oc : Operand) (A B C P : List Float) : Type 0 where
    pub matrices : MatricesFit m k n oa ob oc A B C
    pub chunk : 0 < ch
    pub room : need_of (tiling_of kind) ch m k n ≤ (view_of kind).count (length P)

  -- promised: the first rows and columns of C are f of what they were, and the buffer's floats from `from` on are as they were
  pub record LoopLeaves (oc : Operand) (rows columns : ℕ) (f : ℕ → ℕ → (arith_of kind).E → (arith_of kind).E) (from : ℕ)
      (C D P Q : List Float)
      : Type 0 where
    pub does : Updated (view_of kind) (index_of oc) (Block rows columns) f C D
    pub keeps : KeptFrom from P Q

-- kept by every loop over chunks of W of a size, after i of `count` turns: C's length, and what is done so far
pub record Turns (W size count i : ℕ) (C D : List Float) (done : Type 0) : Type 0 where
  pub counted : count ≡ chunks W size
  pub upto : i ≤ count
  pub long : length D ≡ length C
  pub so_far : done

-- kept by a loop over rows, or over the elements of one, after i of n: C's length, and what is done so far
pub record Steps (n i : ℕ) (C D : List Float) (done : Type 0) : Type 0 where
  pub upto : i ≤ n
  pub long : length D ≡ length C
  pub so_far : done
