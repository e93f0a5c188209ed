-- A grid is a cut: of C into cells with stretches of the depth. Assumes nothing.
use Rattle.std.specs.Prelude.{ℕ, zero, suc, ◌+◌, ◌*◌, ◌≤◌, ◌<◌, ◌≡◌}
use Rattle.std.proofs.Common.{sym, ◌∙◌, zero-mul, add-mul, arith}
use Rattle.std.proofs.Math.Decide.{dec_lt}
use Rattle.rules.specs.Slice.{Block}
use Rattle.rules.specs.Portions.{Divides}
use Rattle.rules.specs.Pieces.{HasPlace, Fits, Cuts}
use Rattle.rules.specs.PieceLaws.{cuts_of}
use Rattle.rules.specs.Grid.{Cut, Multiples, Grid, grid_piece}

-- ---- the stretches of a cut

module _ {m : ℕ} (c : Cut m) where
  rises : (x y : ℕ) → x < y → y ≤ c.count → c.edge x < c.edge y
  rises x zero h l = let z : ⊥ = omega arith in absurd z
  rises x (suc y) h l = go (dec_lt x y) (λ w. rises x y w (omega arith))
    where
      go : Dec (x < y) → (x < y → c.edge x < c.edge y) → c.edge x < c.edge (suc y)
      go (yes w) ih = omega (arith, ih w, c.grows y l)
      go (no w) ih = let q : x ≡ y = omega arith in rw q (c.grows y l)

  -- the stretch that i lies in
  locate_below : (r i : ℕ) → r ≤ c.count → i < c.edge r → (x : ℕ) × (x < c.count) × (c.edge x ≤ i) × (i < c.edge (suc x))
  locate_below zero i h l = let z : ⊥ = omega (arith, c.first) in absurd z
  locate_below (suc r) i h l = go (dec_lt i (c.edge r)) (λ g. locate_below r i (omega arith) g)
    where
      go : Dec (i < c.edge r) → (i < c.edge r → (x : ℕ) × (x < c.count) × (c.edge x ≤ i) × (i < c.edge (suc x)))
          → (x : ℕ) × (x < c.count) × (c.edge x ≤ i) × (i < c.edge (suc x))
      go (yes g) ih = ih g
      go (no g) ih = (r, h, omega arith, l)

  locate : (i : ℕ) → i < m → (x : ℕ) × (x < c.count) × (c.edge x ≤ i) × (i < c.edge (suc x))
  locate i h = locate_below c.count i (omega arith) (omega (arith, c.last))

  ends_before : (x y : ℕ) → x < y → y ≤ c.count → c.edge (suc x) ≤ c.edge y
  ends_before x y h l = go (dec_lt (suc x) y)
    where
      go : Dec (suc x < y) → c.edge (suc x) ≤ c.edge y
      go (yes w) = omega (arith, rises (suc x) y w l)
      go (no w) = let q : y ≡ suc x = omega arith in rw q (omega arith)

  -- and there is no other
  one_stretch : (x y i : ℕ) → x < c.count → y < c.count → c.edge x ≤ i → i < c.edge (suc x) → c.edge y ≤ i → i < c.edge (suc y)
      → x ≡ y
  one_stretch x y i hx hy a b d e = go (dec_lt x y) (dec_lt y x)
    where
      go : Dec (x < y) → Dec (y < x) → x ≡ y
      go (yes w) v = absurd (let z : ⊥ = omega (arith, ends_before x y w (omega arith)) in z)
      go (no w) (yes v) = absurd (let z : ⊥ = omega (arith, ends_before y x v (omega arith)) in z)
      go (no w) (no v) = omega arith

  pub ends_inside : (x : ℕ) → x < c.count → c.edge (suc x) ≤ m
  ends_inside x h = go (dec_lt (suc x) c.count)
    where
      go : Dec (suc x < c.count) → c.edge (suc x) ≤ m
      go (yes w) = omega (arith, rises (suc x) c.count w (omega arith), c.last)
      go (no w) = let q : suc x ≡ c.count = omega arith in rw q (omega (arith, c.last))

  -- stretches that are multiples start at multiples
  pub even_starts : (kc : ℕ) → Multiples kc c → (s : ℕ) → s < c.count → (q : ℕ) × (c.edge s ≡ q * kc)
  even_starts kc even zero h = (0, c.first ∙ sym (zero-mul kc))
  even_starts kc even (suc s) h =
      let (q, p) = even_starts kc even s (omega arith) in
      let (r, w) = even s h in
      (q + r, omega (arith, add-mul q r kc))

-- ---- a grid's cells

-- the places of turn t
abbrev pub Cell : {kc m n k : ℕ} → Grid kc m n k → ℕ → ℕ → ℕ → Type 0
Cell g t = HasPlace (grid_piece g t)

module _ {kc m n k : ℕ} (g : Grid kc m n k) where
  same_row : (t u i j : ℕ) → t < g.turns → u < g.turns → Cell g t i j → Cell g u i j → g.row t ≡ g.row u
  same_row t u i j ht hu ot ou =
      let (a, b, c) = g.range t ht in
      let (p, q, r) = g.range u hu in
      let ga = g.rows.grows (g.row t) a in
      let gp = g.rows.grows (g.row u) p in
      one_stretch g.rows (g.row t) (g.row u) i a p (omega arith) (omega arith) (omega arith) (omega arith)

  same_column : (t u i j : ℕ) → t < g.turns → u < g.turns → Cell g t i j → Cell g u i j → g.column t ≡ g.column u
  same_column t u i j ht hu ot ou =
      let (a, b, c) = g.range t ht in
      let (p, q, r) = g.range u hu in
      let gb = g.columns.grows (g.column t) b in
      let gq = g.columns.grows (g.column u) q in
      one_stretch g.columns (g.column t) (g.column u) j b q (omega arith) (omega arith) (omega arith) (omega arith)

  divided : Divides k g.turns (Block m n) (Cell g) (λ t. (grid_piece g t).depth) (λ t. (grid_piece g t).depths)
  divided = record {
    covered = λ i j q h l.
        let (p, hp, p1, p2) = locate g.rows i h.0 in
        let (c, hc, c1, c2) = locate g.columns j h.1 in
        let (s, hs, s1, s2) = locate g.depth q l in
        let (t, ht, ex, ey, ez) = g.each p c s hp hc hs in
        (t, ht, rw (ex, ey) (omega arith), rw ez (omega arith));
    once = λ t u i j q ht hu ot rt ou ru.
        let (a, b, c) = g.range t ht in
        let (a', b', c') = g.range u hu in
        let gc = g.depth.grows (g.stretch t) c in
        let gc' = g.depth.grows (g.stretch u) c' in
        g.once t u ht hu (same_row t u i j ht hu ot ou) (same_column t u i j ht hu ot ou)
        (one_stretch g.depth (g.stretch t) (g.stretch u) q c c' (omega arith) (omega arith) (omega arith) (omega arith));
    rising = λ t u i j h l ot ou.
        rises g.depth (g.stretch t) (g.stretch u)
        (g.rising t u h l (same_row t u i j (omega arith) l ot ou) (same_column t u i j (omega arith) l ot ou))
        (omega (arith, (g.range u l).2));
  }

  fits : (t : ℕ) → t < g.turns → Fits m k n (grid_piece g t)
  fits t h =
      let (a, b, c) = g.range t h in
      omega (
        arith,
        g.rows.grows (g.row t) a,
        g.columns.grows (g.column t) b,
        g.depth.grows (g.stretch t) c,
        ends_inside g.rows (g.row t) a,
        ends_inside g.columns (g.column t) b,
        ends_inside g.depth (g.stretch t) c,
      )

  -- A GRID IS A CUT
  pub grid_cuts : Cuts kc m k n g.turns (grid_piece g)
  grid_cuts = cuts_of fits (λ t h. even_starts g.depth kc g.even (g.stretch t) (g.range t h).2) divided
