-- Matrices that may be read or written: their indexes, and their parts, which are inside, apart and modest with the whole. Assumes nothing.
use Rattle.std.specs.Prelude.{◌≡◌, ℕ, ◌+◌, ◌<◌, ◌≤◌, List, pos, negsuc, unsigned_abs}
use Rattle.std.specs.Prelude.{refl, Float}
use Rattle.std.proofs.Common.{sym, ap, ◌∙◌, subst, inl, inr, zero-add, add-mul, arith}
use Rattle.rules.specs.Slice.{View, Updated, Block, Region}
use Rattle.rules.specs.Stores.{Apart}
use Rattle.rules.specs.SliceLaws.{agreeing, moved, elsewhere, rows, columns}
use Rattle.rules.specs.ViewLaws.{Lawful}
use Rattle.layout.specs.declared.operand.Operand.{Operand}
use Rattle.layout.specs.Place.{place_of, Outside, SomeOutside, TwoMeet, Long, index_of, based_at}
use Rattle.layout.specs.Operands.{transposed, Inside, AllInside, NoneMeet, Modest, Reachable, Readable, Writable}
use Rattle.layout.specs.Splits.{up, dn}
use Rattle.layout.specs.Signs.{place_bal, ext, inside_is, abs_is}
use Rattle.layout.specs.SignedCode.{abs_up}
use Rattle.layout.specs.Index.{reachable}

-- ---- a part of a matrix that is inside its slice: h rows from r on, w columns from c on

module _ (m n : ℕ) (o : Operand) (len : ℕ) (f : AllInside m n o len) where
  pub shifted : (r c i j : ℕ) → r < m → c < n → place_of (based_at o r c) i j ≡ place_of o (r + i) (c + j)
  shifted r c i j hr hc =
      let z = (inside_is len (place_of o r c) (f r c hr hc)).0 in
      ext (place_of (based_at o r c) i j) (place_of o (r + i) (c + j))
      (omega (
        arith,
        z,
        abs_up (place_of o r c) z,
        place_bal o r c,
        place_bal (based_at o r c) i j,
        place_bal o (r + i) (c + j),
        add-mul r i (up o.rs),
        add-mul r i (dn o.rs),
        add-mul c j (up o.cs),
        add-mul c j (dn o.cs),
      ))

  pub based_inside : (r c h w : ℕ) → r + h ≤ m → c + w ≤ n → 0 < h → 0 < w → AllInside h w (based_at o r c) len
  based_inside r c h w fr fc sr sc i j hi hj =
      subst (λ z. Inside len z) (sym (shifted r c i j (omega arith) (omega arith))) (f (r + i) (c + j) (omega arith) (omega arith))

  pub based_apart : (r c h w : ℕ) → r + h ≤ m → c + w ≤ n → 0 < h → 0 < w → NoneMeet m n o → NoneMeet h w (based_at o r c)
  based_apart r c h w fr fc sr sc none i j k l hi hj hk hl e =
      let z = none (r + i) (c + j) (r + k) (c + l) (omega arith) (omega arith) (omega arith) (omega arith)
      (sym (shifted r c i j (omega arith) (omega arith)) ∙ e ∙ shifted r c k l (omega arith) (omega arith)) in
      (omega (arith, z.0), omega (arith, z.1))

  pub inside_index : (r c i j : ℕ) → r < m → c < n → index_of (based_at o r c) i j ≡ index_of o (r + i) (c + j)
  inside_index r c i j hr hc = ap unsigned_abs (shifted r c i j hr hc)

  -- as indexes, too, no two places meet
  pub inside_apart : NoneMeet m n o → Apart (index_of o) (Block m n)
  inside_apart none i j k l p q e =
      none i j k l p.0 p.1 q.0 q.1
      (ext (place_of o i j) (place_of o k l)
      (omega (
        arith,
        e,
        abs_is (place_of o i j),
        abs_is (place_of o k l),
        inside_is len (place_of o i j)
            (f i j p.0 p.1),
        inside_is len (place_of o k l) (f k l q.0 q.1),
      )))

pub based_modest : {m n : ℕ} {o : Operand} → Modest m n o → (r c h w : ℕ) → r + h ≤ m → c + w ≤ n → Modest h w (based_at o r c)
based_modest f r c h w fr fc = record {
  m_max = omega (arith, f.m_max);
  n_max = omega (arith, f.n_max);
  rs_max = λ two. f.rs_max (omega arith);
  cs_max = λ two. f.cs_max (omega arith);
}

-- a part has no more entries along an axis than the whole, so a stride that is judged in a part is judged in the whole
pub based_long : {m n h w : ℕ} (o : Operand) (r c : ℕ) → h ≤ m → w ≤ n → Long h w (based_at o r c) → Long m n o
based_long o r c hm hn (inl l) = inl (omega arith, l.1)
based_long o r c hm hn (inr l) = inr (omega arith, l.1)

-- ---- of a matrix that is read

module _ {m n : ℕ} {o : Operand} {len : ℕ} (f : Readable m n o len) where
  pub index_lt : (i j : ℕ) → i < m → j < n → index_of o i j < len
  index_lt i j hi hj = omega (arith, abs_is (place_of o i j), inside_is len (place_of o i j) (f.inside i j hi hj))

  pub reached : (i j : ℕ) → i < m → j < n → Reachable o i j
  reached = reachable f

  pub index_based : (r c i j : ℕ) → r < m → c < n → index_of (based_at o r c) i j ≡ index_of o (r + i) (c + j)
  index_based = inside_index m n o len f.inside

  pub readable_based : (r c h w : ℕ) → r + h ≤ m → c + w ≤ n → 0 < h → 0 < w → Readable h w (based_at o r c) len
  readable_based r c h w fr fc sr sc = record {
    m_some = sr;
    n_some = sc;
    modest = based_modest f.modest r c h w fr fc;
    inside = based_inside m n o len f.inside r c h w fr fc sr sc;
    long = f.long;
  }

  pub readable_apart : NoneMeet m n o → Apart (index_of o) (Block m n)
  readable_apart = inside_apart m n o len f.inside

-- the same operand and a slice of the same length
pub readable_at : {m n : ℕ} {o o' : Operand} {len : ℕ} → o' ≡ o → Readable m n o len → Readable m n o' len
readable_at w t = rw w t

pub place_transposed : (o : Operand) (i j : ℕ) → place_of (transposed o) i j ≡ place_of o j i
place_transposed o i j = ext (place_of (transposed o) i j) (place_of o j i) (omega (arith, place_bal (transposed o) i j, place_bal o j i))

pub readable_transposed : {m n : ℕ} {o : Operand} {len : ℕ} → Readable m n o len → Readable n m (transposed o) len
readable_transposed {m} {n} {o} {len} f = record {
  m_some = f.n_some;
  n_some = f.m_some;
  modest = record { m_max = f.modest.n_max; n_max = f.modest.m_max; rs_max = f.modest.cs_max; cs_max = f.modest.rs_max };
  inside = λ i j hi hj. subst (λ z. Inside len z) (sym (place_transposed o i j)) (f.inside j i hj hi);
  long = f.long;
}

-- ---- and of one that is written

pub writable : {m n : ℕ} {o : Operand} {len : ℕ} → Readable m n o len → NoneMeet m n o → Writable m n o len
writable f none = record { readable = f; apart = readable_apart f none }

pub writable_based : {m n : ℕ} {o : Operand} {len : ℕ} → Writable m n o len → (r c h w : ℕ) → r + h ≤ m → c + w ≤ n → 0 < h → 0 < w
    → Writable h w (based_at o r c) len
writable_based {m} {n} {o} {len} t r c h w fr fc sr sc = record {
  readable = readable_based t.readable r c h w fr fc sr sc;
  apart = λ i j k l p q e.
      let z = t.apart (r + i) (c + j) (r + k) (c + l) (omega arith) (omega arith)
      (sym (index_based t.readable r c i j (omega arith) (omega arith)) ∙ e ∙ index_based t.readable r c k l (omega arith)
      (omega arith)) in
      (omega (arith, z.0), omega (arith, z.1));
}

pub writable_long : {m n : ℕ} {o : Operand} {len len' : ℕ} → len' ≡ len → Writable m n o len → Writable m n o len'
writable_long e t = rw e t

pub writable_at : {m n : ℕ} {o o' : Operand} {len len' : ℕ} → o' ≡ o → len' ≡ len → Writable m n o len → Writable m n o' len'
writable_at w e t = rw (w, e) t

-- ---- work on a part, as work on the whole

module _ {E : Type 0} (v : View E) {m n : ℕ} {o : Operand} {len : ℕ} where
  pub based_updated : Readable m n o len → (r c h w : ℕ) → r < m → c < n → {f g : ℕ → ℕ → E → E} {C D : List Float}
      → ((i j : ℕ) → i < h → j < w → (x : E) → g i j x ≡ f (r + i) (c + j) x)
      → Updated v (index_of (based_at o r c)) (Block h w) g C D → Updated v (index_of o) (Region r h c w) f C D
  based_updated t r c h w hr hc {f} {g} same u =
      moved v (index_of o) {f = f} r c h w
      (elsewhere v (λ i j p. index_based t r c i j hr hc) (agreeing v (index_of (based_at o r c)) (λ i j p x. same i j p.0 p.1 x) u))

-- one part more, for views in which an element is its floats
module _ {E : Type 0} {v : View E} (ok : Lawful v) {m n : ℕ} {o : Operand} {len : ℕ} where
  -- h rows more
  pub rows_more : Writable m n o len → (r h : ℕ) → r + h ≤ m → 0 < h → {o' : Operand} {f g : ℕ → ℕ → E → E} {C D B : List Float}
      → o' ≡ based_at o r 0
      → ((i j : ℕ) → i < h → j < n → (x : E) → g i j x ≡ f (r + i) j x)
      → Updated v (index_of o) (Block r n) f C D → Updated v (index_of o') (Block h n) g D B
      → Updated v (index_of o) (Block (r + h) n) f C B
  rows_more t r h fits some {o'} {f} {g} {C} {D} {B} at same u w =
      rows ok (index_of o) r h n (λ i j k l p q e. t.apart i j k l (omega arith) (omega arith) e) u
      (based_updated v t.readable r 0 h n (omega arith) t.readable.n_some
      (λ i j hi hj x. same i j hi hj x ∙ ap (λ (l : ℕ). f (r + i) l x) (sym (zero-add j)))
      (subst (λ (z : Operand). Updated v (index_of z) (Block h n) g D B) at w))

  -- w columns more
  pub columns_more : Writable m n o len → (c w : ℕ) → c + w ≤ n → 0 < w → {o' : Operand} {f g : ℕ → ℕ → E → E} {C D B : List Float}
      → o' ≡ based_at o 0 c
      → ((i j : ℕ) → i < m → j < w → (x : E) → g i j x ≡ f i (c + j) x)
      → Updated v (index_of o) (Block m c) f C D → Updated v (index_of o') (Block m w) g D B
      → Updated v (index_of o) (Block m (c + w)) f C B
  columns_more t c w fits some {o'} {f} {g} {C} {D} {B} at same u z =
      columns ok (index_of o) m c w (λ i j k l p q e. t.apart i j k l (omega arith) (omega arith) e) u
      (based_updated v t.readable 0 c m w t.readable.m_some (omega arith)
      (λ i j hi hj x. same i j hi hj x ∙ ap (λ (l : ℕ). f l (c + j) x) (sym (zero-add i)))
      (subst (λ (y : Operand). Updated v (index_of y) (Block m w) g D B) at z))

-- ---- examples of places

example_down : place_of (record { base = 2; rs = negsuc 0; cs = pos 0 }) 2 0 ≡ pos 0
unfolding place_of
example_down = refl

example_meet : TwoMeet 3 2 (record { base = 0; rs = pos 1; cs = pos 2 })
unfolding place_of
example_meet = record {
  i = 2;
  j = 0;
  i' = 0;
  j' = 1;
  i< = omega arith;
  j< = omega arith;
  i'< = omega arith;
  j'< = omega arith;
  differ = λ k. omega (arith, k.0);
  meet = refl;
}

example_out : SomeOutside 3 1 (record { base = 1; rs = negsuc 0; cs = pos 0 }) 3
unfolding place_of Outside
example_out = record { i = 2; j = 0; i< = omega arith; j< = omega arith; out = tt }
