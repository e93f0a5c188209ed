-- `lanes` meets its contract: where no row is missing none is +0, and rows that are neighbours are read as such. Assumes nothing.
use Rattle.std.proofs.Common.{rules, ◌≡◌, ℕ, ◌+◌, arith, sym, ap, ◌∙◌, ℤ, List, Float, pos, w64, FitsSigned, to_z, of_z}
use Rattle.std.proofs.lemmas.Int.{to_z-of_z, to_z_pos}
use Rattle.element.specs.Kinds.{arith_of, view_of}
use Rattle.layout.specs.Place.{index_of, element_at}
use Rattle.layout.proofs.BasedLaws.{reached}
use Rattle.loops.specs.PanelLaws.{padded_in, lanes_ext}
use Rattle.loops.specs.NeighbourLaws.{neighbour_index, neighbours_fit}
use Rattle.packing.proofs.lanes.lanes.Goals as goal

-- the test of the stride, as the stride's value
one : (z : ℤ) → FitsSigned w64 z → of_z w64 z ≡ 1 → z ≡ pos 1
one z f e = sym (to_z-of_z w64 z f) ∙ ap (λ (k : ℕ). to_z w64 k) e ∙ to_z_pos w64 1 (omega arith)

pub place-requires : goal.place-requires
place-requires g c = reached c.args.a.readable c.args.first c.args.p (omega arith) c.requires.2

-- the last neighbour is inside a
pub contiguous-requires : goal.contiguous-requires
contiguous-requires g c =
    let a = c.args in
    let e : a.a.at.rs ≡ pos 1 = one a.a.at.rs (search rules) (search rules) in
    let fits = neighbours_fit c.args.a.readable e a.w a.first a.p (omega arith) c.requires.2 c.requires.3 in
    (search rules, (c.requires.0, omega (arith, fits, c.place.ensures)))

pub returns-then-a-eq1 : goal.returns-then-a-eq1
returns-then-a-eq1 g c =
    let a = c.args in
    let kind = g.T.Element.kind in
    let A : List Float = g.T.Real.Real.floats a.a.reals.now in
    let e : a.a.at.rs ≡ pos 1 = one a.a.at.rs (search rules) (search rules) in
    let follows = neighbour_index c.args.a.readable e a.w a.first a.p (omega arith) c.requires.2 in
    c.contiguous.ensures
    ∙ lanes_ext (arith_of kind) g.T.Element.held g.row.N a.w _ _
    (λ i l.
    let f : c.place.result + i ≡ index_of a.a.at (a.first + i) a.p = omega (arith, c.place.ensures, follows i l) in
    ap (λ (k : ℕ). (view_of kind).get A k) f
    ∙ sym (padded_in (arith_of kind) a.a.rows (element_at kind A a.a.at) (a.first + i) a.p (omega arith)))
