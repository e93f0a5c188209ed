-- A lane more in each turn. Assumes nothing.
use Rattle.std.proofs.Common.{◌≡◌, ℕ, zero, suc, List, ◌∷◌, replicate, refl, sym, ap, ◌∙◌}
use Rattle.rules.specs.Lists.{tab}
use Rattle.element.specs.Kinds.{arith_of}
use Rattle.loops.specs.PanelLaws.{lane_more, lanes_all}
use Rattle.packing.proofs.lanes.lanes_of.Given.{Over}
use Rattle.packing.proofs.lanes.lanes_of.Goals as goal

-- n times the same is a table
same : {A : Type 0} (n : ℕ) (v : A) → replicate n v ≡ tab n (λ k. v)
same zero v = refl
same (suc n) v = ap (λ (l : List _). v ∷ l) (same n v)

-- what the arithmetic knows of a number is all of it
held : (g : Over) {v : g.row.T.Denot} {x : (arith_of g.T.Element.kind).E} → g.T.Element.held.is v ≡ x → v ≡ g.T.Element.held.of x
held g {v} e = sym (g.met.T.Element.kept v) ∙ ap g.T.Element.held.of e

pub loop-i-preserved : goal.loop-i-preserved
loop-i-preserved g c h e =
    let l = c.loop-i in
    lane_more (arith_of g.T.Element.kind) g.T.Element.held g.row.N c.args.w h l.i c.requires.w_le_n c.loop-i-test.true (l.invariant h e)
    (held g (e l.i c.f.result c.loop-i-test.true c.f.ensures))

pub returns : goal.returns
returns g c h e =
    let l = c.loop-i in
    lanes_all (arith_of g.T.Element.kind) g.T.Element.held g.row.N c.args.w h l.i c.loop-i-test.false
    (same g.row.N c.zero-x.result ∙ ap (λ (v : g.row.T.Denot). tab g.row.N (λ k. v)) (held g c.zero-x.ensures)) (l.invariant h e)
