-- `put_row` meets its contract: the row's elements before j and inside the mask are put. Assumes nothing.
use Rattle.std.proofs.Common.{rules, ◌≡◌, ℕ, ◌+◌, ◌<◌, ◌∙◌, length, min, ap, arith}
use Rattle.std.proofs.lemmas.List.{get_or_default}
use Rattle.rules.specs.Element.{put}
use Rattle.rules.specs.SliceLaws.{agreeing}
use Rattle.element.specs.Fates.{fate_of}
use Rattle.element.specs.KindLaws.{lawful}
use Rattle.element.specs.Kinds.{arith_of, view_of}
use Rattle.layout.specs.Place.{index_of}
use Rattle.loops.specs.Tiles.{at}
use Rattle.loops.specs.PutLaws.{cell_masked}
use Rattle.kernel.proofs.masked.put_row.Goals as goal
use Rattle.kernel.proofs.masked.put_row.Goals.{then-j-cols, else-j-cols}

pub loop-j-preserved : goal.loop-j-preserved
loop-j-preserved g c =
    let a = c.args in
    let j = c.loop-j.j in
    let kind = g.T.Element.kind in
    let held = g.T.Element.held in
    let fate = fate_of held.is a.fate in
    let f : ℕ → ℕ → (arith_of kind).E → (arith_of kind).E =
    λ i j. put (arith_of kind) fate (at held a.ab j) in
    elim c.if-j-cols.branch [
      | then-j-cols w ↦ (
        c.loop-j.invariant.0,
        rw w.c-is (cell_masked (lawful kind) c.requires.writable f a.i j c.requires.i_lt_rows.0 w.if-j-cols.true c.loop-j.invariant.1
            (agreeing (view_of kind) (index_of a.lc) (λ i k o x. let e : j ≡ k = omega arith in
            let b : j < length a.ab = omega arith in
            ap (λ (z : g.row.T.Denot). put (arith_of kind) fate (held.is z) x) (w.index-ab-j.is ∙ get_or_default a.ab j _ held.none b)
            ∙ ap (λ (z : ℕ). f i z x) e)
            (w.update.ensures (put (arith_of kind) fate (held.is w.index-ab-j.result)) (λ x y made. search (rules, made))))),
      )
      | else-j-cols w ↦
          let e : min j a.cols ≡ min (j + 1) a.cols = omega arith in (c.loop-j.invariant.0, rw w.c-is (rw e at c.loop-j.invariant.1))
    ]
