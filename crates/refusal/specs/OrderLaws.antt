-- Laws of every chain: a refusal, two stages, and a fork are stages, and of a stage all else follows. Assumes nothing.
use Rattle.std.specs.Prelude.{ℕ, ◌<◌, ◌≡◌, refl, ◌⊎◌}
use Rattle.std.proofs.Common.{sym, ◌∙◌, subst, inl, inr, arith}
use Rattle.refusal.specs.Order.{Says, done, Where, First}

-- only one number may be answered
abbrev pub One : Says → Type 0
One says = (r s : ℕ) → says r → says s → r ≡ s

pub one_done : One done
one_done r s p q = p ∙ sym q

-- A stage: refusals, then the rest.
pub record Stage (S : Says → Says) : Type 1 where
  -- the rest is all that may differ
  pub maps : (rest other : Says) (r : ℕ) → (rest r → other r) → S rest r → S other r
  -- what it lets pass is answered as the rest says
  pub passes : (rest : Says) (r : ℕ) → S done 0 → rest r → S rest r
  -- and only that is done
  pub passed : (rest : Says) → S rest 0 → S done 0 × rest 0
  pub one : (rest : Says) → One rest → One (S rest)

-- what a stage refuses it refuses before any rest
pub refuses : (S : Says → Says) → Stage S → (rest : Says) (r : ℕ) → 0 < r → S done r → S rest r
refuses S a rest r h u = a.maps done rest r (λ e. absurd (omega arith)) u

-- what is answered is 0
pub at_done : (says : Says) (r : ℕ) → r ≡ 0 → says r → says 0
at_done says r e v = subst (λ (x : ℕ). says x) e v

-- one refusal
pub first_stage : (P : Type 0) (x : ℕ) → 0 < x → Stage (First P x)
first_stage P x some = record {
  maps = maps;
  passes = passes;
  passed = passed;
  one = one;
}
  where
    maps : (rest other : Says) (r : ℕ) → (rest r → other r) → First P x rest r → First P x other r
    maps rest other r f (inl u) = inl u
    maps rest other r f (inr u) = inr (u.0, f u.1)

    passes : (rest : Says) (r : ℕ) → First P x done 0 → rest r → First P x rest r
    passes rest r (inl u) v = absurd (omega (arith, u.1))
    passes rest r (inr u) v = inr (u.0, v)

    passed : (rest : Says) → First P x rest 0 → First P x done 0 × rest 0
    passed rest (inl u) = absurd (omega (arith, u.1))
    passed rest (inr u) = (inr (u.0, refl), u.1)

    one : (rest : Says) → One rest → One (First P x rest)
    one rest f r s (inl u) (inl v) = u.1 ∙ sym v.1
    one rest f r s (inl u) (inr v) = absurd (v.0 u.0)
    one rest f r s (inr u) (inl v) = absurd (u.0 v.0)
    one rest f r s (inr u) (inr v) = f r s u.1 v.1

-- one stage, then another
pub then_stage : (S T : Says → Says) → Stage S → Stage T → Stage (λ rest. S (T rest))
then_stage S T a b = record {
  maps = λ rest other r f u. a.maps (T rest) (T other) r (b.maps rest other r f) u;
  passes = λ rest r u v. a.passes (T rest) r (a.passed (T done) u).0 (b.passes rest r (a.passed (T done) u).1 v);
  passed = λ rest u.
      let p = a.passed (T rest) u in
      let q = b.passed rest p.1 in
      (a.passes (T done) 0 p.0 q.0, q.1);
  one = λ rest f. a.one (T rest) (b.one rest f);
}

-- a fork: where P holds the end at once, and else a stage
pub fork_stage : (P : Type 0) (S : Says → Says) → Stage S → Stage (λ end. Where P end (S end))
fork_stage P S a = record {
  maps = maps;
  passes = passes;
  passed = passed;
  one = one;
}
  where
    maps : (rest other : Says) (r : ℕ) → (rest r → other r) → Where P rest (S rest) r → Where P other (S other) r
    maps rest other r f (inl u) = inl (u.0, f u.1)
    maps rest other r f (inr u) = inr (u.0, a.maps rest other r f u.1)

    passes : (rest : Says) (r : ℕ) → Where P done (S done) 0 → rest r → Where P rest (S rest) r
    passes rest r (inl u) v = inl (u.0, v)
    passes rest r (inr u) v = inr (u.0, a.passes rest r u.1 v)

    passed : (rest : Says) → Where P rest (S rest) 0 → Where P done (S done) 0 × rest 0
    passed rest (inl u) = (inl (u.0, refl), u.1)
    passed rest (inr u) = let p = a.passed rest u.1 in (inr (u.0, p.0), p.1)

    one : (rest : Says) → One rest → One (Where P rest (S rest))
    one rest f r s (inl u) (inl v) = f r s u.1 v.1
    one rest f r s (inl u) (inr v) = absurd (v.0 u.0)
    one rest f r s (inr u) (inl v) = absurd (u.0 v.0)
    one rest f r s (inr u) (inr v) = a.one rest f r s u.1 v.1

-- ---- over the types that a refusal and a fork compute to

-- the condition of a refusal that was passed does not hold
pub first_passed : {P R : Type 0} {x : ℕ} → 0 < x → (P × (0 ≡ x)) ⊎ ((P → ⊥) × R) → (P → ⊥) × R
first_passed h (inl u) = absurd (omega (arith, u.1))
first_passed h (inr u) = u

-- a fork whose condition does not hold
pub fork_passed : {P T R : Type 0} → (P → ⊥) → (P × T) ⊎ ((P → ⊥) × R) → R
fork_passed f (inl u) = absurd (f u.0)
fork_passed f (inr u) = u.1
