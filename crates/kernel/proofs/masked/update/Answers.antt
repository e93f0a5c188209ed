-- `update` meets its contract: one element is read and stored, at a place inside c. Assumes nothing.
use Rattle.std.proofs.Common.{ap, ◌∙◌, arith}
use Rattle.rules.specs.StoreLaws.{stored_place}
use Rattle.element.specs.Kinds.{view_of}
use Rattle.layout.specs.Place.{index_of}
use Rattle.layout.proofs.BasedLaws.{index_lt, reached}
use Rattle.kernel.proofs.masked.update.Goals as goal

pub place-at-requires : goal.place-at-requires
place-at-requires g c = reached c.requires.writable.readable c.args.i c.args.j c.requires.i_lt_rows.0 c.requires.i_lt_rows.1

pub read-old-requires : goal.read-old-requires
read-old-requires g c =
    omega (arith, c.place-at.ensures, index_lt c.requires.writable.readable c.args.i c.args.j c.requires.i_lt_rows.0 c.requires.i_lt_rows.1)

pub write-requires : goal.write-requires
write-requires g c =
    omega (arith, c.place-at.ensures, index_lt c.requires.writable.readable c.args.i c.args.j c.requires.i_lt_rows.0 c.requires.i_lt_rows.1)

pub returns : goal.returns
returns g c = λ f made.
    let a = c.args in
    stored_place (view_of g.T.Element.kind) (index_of a.lc) a.i a.j (λ i j. f) c.place-at.ensures
    (made c.read-old.result c.change.result c.change.ensures ∙ ap f c.read-old.ensures) c.write.ensures
