-- An element more in each turn. Assumes nothing.
use Rattle.std.proofs.Common.{rules, ◌≡◌, refl, ap, ◌∙◌, arith}
use Rattle.rules.specs.{Element.scaled, SliceLaws.untouched}
use Rattle.element.specs.{Fates.fate_of, KindLaws.lawful, Kinds.arith_of, Kinds.view_of}
use Rattle.layout.proofs.BasedLaws.{writable_at}
use Rattle.loops.specs.PutLaws.{cell_next}
use Rattle.gemm.proofs.scale.scale_row.Goals as goal

pub loop-j-init : goal.loop-j-init
loop-j-init g c =
    record { upto = omega arith; long = refl; so_far = untouched (view_of g.T.Element.kind) _ (λ i j p. omega arith) }

pub update-requires-clause-writable : goal.update-requires-clause-writable
update-requires-clause-writable g c =
    writable_at refl (ap (view_of g.T.Element.kind).count c.loop-j.invariant.long) c.requires.writable

pub loop-j-preserved : goal.loop-j-preserved
loop-j-preserved g c =
    let l = c.loop-j in
    let f = scaled (arith_of g.T.Element.kind) (fate_of g.T.Element.held.is c.args.fate) in
    let done = c.update.ensures f (λ x y made. search (rules, made)) in record {
      upto = omega arith;
      long = done.same_length ∙ l.invariant.long;
      so_far = cell_next (lawful g.T.Element.kind) c.requires.writable
          (λ i j. f) c.args.i l.j (omega arith) (omega arith) l.invariant.so_far done;
    }

pub returns : goal.returns
returns g c = let e : c.loop-j.j ≡ c.args.n = omega arith in rw e at c.loop-j.invariant.so_far
