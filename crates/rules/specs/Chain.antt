-- Each element's own walk along the portions: where they cut the call, every walk goes from 0 to k without a gap. Assumes nothing.
use Prim.Native.Nat.{ℕ, zero, suc, ◌+◌, ◌≤◌, ◌<◌}
use Rattle.std.specs.Prelude.{◌≡◌}
use Rattle.std.proofs.Math.Logic.{ite, if_pos, if_neg}
use Rattle.std.proofs.Math.Decide.{dec_lt}
use native.Mathlib.Omega.{arith}
use Rattle.rules.specs.Slice.{Within}
use Rattle.rules.specs.Portions.{Proper, Divides}

module _ (over : ℕ → ℕ → ℕ → Type 0) (over? : (t i j : ℕ) → Dec (over t i j)) (start count : ℕ → ℕ) where
  -- how far the first t portions have brought the element (i, j)
  unfoldable pub reach : ℕ → ℕ → ℕ → ℕ
  reach zero i j = 0
  reach (suc t) i j = ite (over? t i j) (start t + count t) (reach t i j)

  -- each of the element's portions starts where those before it stopped, and the last stops at k
  pub record Chain (N k i j : ℕ) : Type 0 where
    pub joins : (t : ℕ) → t < N → over t i j → start t ≡ reach t i j
    pub stops : reach N i j ≡ k

  reach_over : (t i j : ℕ) → over t i j → reach (suc t) i j ≡ start t + count t
  unfolding reach
  reach_over t i j o = if_pos (over? t i j) o _ _

  reach_other : (t i j : ℕ) → (over t i j → ⊥) → reach (suc t) i j ≡ reach t i j
  unfolding reach
  reach_other t i j n = if_neg (over? t i j) n _ _

  record Done (t i j : ℕ) : Type 0 where
    behind : (q : ℕ) → q < reach t i j → (u : ℕ) × (u < t) × over u i j × Within (start u) (count u) q
    ahead : (u : ℕ) → u < t → over u i j → start u + count u ≤ reach t i j

  module _ (kc k N : ℕ) (W : ℕ → ℕ → Type 0) (proper : Proper kc k N W over start count) (i j : ℕ) (w : W i j) where
    -- ---- from the cut to the chain
    module _ (cuts : Divides k N W over start count) where
      meets : (t : ℕ) → t < N → over t i j → Done t i j → start t ≡ reach t i j
      meets t h o d = go (dec_lt (start t) (reach t i j)) (dec_lt (reach t i j) (start t))
        where
          early : start t < reach t i j → ⊥
          early l =
              let fill = proper.filled t h in
              let (u, hu, ou, ru) = d.behind (start t) l in
              let e = cuts.once u t i j (start t) (omega arith) h ou ru o (omega arith) in
              omega arith

          pick : (u : ℕ) → u < N → over u i j → Within (start u) (count u) (reach t i j) → reach t i j < start t → Dec (u < t)
              → Dec (t < u) → ⊥
          pick u hu ou ru l (yes b) c = omega (arith, d.ahead u b ou)
          pick u hu ou ru l (no b) (yes c) = omega (arith, cuts.rising t u i j c hu o ou)
          pick u hu ou ru l (no b) (no c) = let e : u ≡ t = omega arith in omega (arith, rw e at ru)

          late : reach t i j < start t → ⊥
          late l =
              let ins = proper.ends t h in
              let (u, hu, ou, ru) = cuts.covered i j (reach t i j) w (omega arith) in
              pick u hu ou ru l (dec_lt u t) (dec_lt t u)

          go : Dec (start t < reach t i j) → Dec (reach t i j < start t) → start t ≡ reach t i j
          go (yes l) g = absurd (early l)
          go (no l) (yes g) = absurd (late g)
          go (no l) (no g) = omega arith

      next : (t : ℕ) → t < N → Done t i j → Dec (over t i j) → Done (suc t) i j
      next t h d (yes o) = record { behind = λ q l. read q l (dec_lt q (reach t i j)); ahead = λ u l v. past u l v (dec_lt u t) }
        where
          e : reach (suc t) i j ≡ start t + count t
          e = reach_over t i j o

          read : (q : ℕ) → q < reach (suc t) i j → Dec (q < reach t i j) → (u : ℕ) × (u < suc t) × over u i j × Within (start u) (count u) q
          read q l (yes g) = let (u, hu, ou, ru) = d.behind q g in (u, omega arith, ou, ru)
          read q l (no g) = (t, omega arith, o, omega (arith, e, meets t h o d))

          past : (u : ℕ) → u < suc t → over u i j → Dec (u < t) → start u + count u ≤ reach (suc t) i j
          past u l v (yes g) = omega (arith, e, meets t h o d, d.ahead u g v)
          past u l v (no g) = let s : u ≡ t = omega arith in rw s (omega (arith, e))
      next t h d (no n) = record {
        behind = λ q l. let (u, hu, ou, ru) = d.behind q (omega (arith, e)) in (u, omega arith, ou, ru);
        ahead = λ u l v. other u l v (dec_lt u t);
      }
        where
          e : reach (suc t) i j ≡ reach t i j
          e = reach_other t i j n

          other : (u : ℕ) → u < suc t → over u i j → Dec (u < t) → start u + count u ≤ reach (suc t) i j
          other u l v (yes g) = omega (arith, e, d.ahead u g v)
          other u l v (no g) = let s : u ≡ t = omega arith in absurd (n (rw s at v))

      done : (t : ℕ) → t ≤ N → Done t i j
      unfolding reach
      done zero h = record { behind = λ q l. absurd (let z : ⊥ = omega arith in z); ahead = λ u l v. omega arith }
      done (suc t) h = next t h (done t (omega arith)) (over? t i j)

      pub chained : Chain N k i j
      chained = record { joins = λ t h o. meets t h o (done t (omega arith)); stops = go (dec_lt (reach N i j) k) (dec_lt k (reach N i j)) }
        where
          d : Done N i j
          d = done N (omega arith)

          short : reach N i j < k → ⊥
          short l = let (u, hu, ou, ru) = cuts.covered i j (reach N i j) w l in omega (arith, d.ahead u hu ou)

          long : k < reach N i j → ⊥
          long l = let (u, hu, ou, ru) = d.behind k l in omega (arith, proper.ends u hu)

          go : Dec (reach N i j < k) → Dec (k < reach N i j) → reach N i j ≡ k
          go (yes l) g = absurd (short l)
          go (no l) (yes g) = absurd (long g)
          go (no l) (no g) = omega arith
