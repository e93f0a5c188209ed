-- A row more in each turn. Assumes nothing.
use Rattle.std.proofs.Common.{rules, ◌≡◌, refl, ap, arith}
use Rattle.rules.specs.{Element.scaled, SliceLaws.untouched}
use Rattle.element.specs.{Fates.fate_of, KindLaws.lawful, Kinds.arith_of, Kinds.view_of}
use Rattle.layout.proofs.BasedLaws.{writable_at}
use Rattle.loops.specs.PutLaws.{line_next}
use Rattle.gemm.proofs.scale.c_to_beta_c.Goals as goal

pub loop-i-init : goal.loop-i-init
loop-i-init g c =
    record { upto = omega arith; long = refl; so_far = untouched (view_of g.T.Element.kind) _ (λ i j p. omega arith) }

pub scale_row-requires-clause-writable : goal.scale_row-requires-clause-writable
scale_row-requires-clause-writable g c =
    writable_at refl (ap (view_of g.T.Element.kind).count c.loop-i.invariant.long) c.requires

pub loop-i-preserved : goal.loop-i-preserved
loop-i-preserved g c =
    let l = c.loop-i in record {
      upto = omega arith;
      long = search rules;
      so_far = line_next (lawful g.T.Element.kind) c.requires
          (λ i j. scaled (arith_of g.T.Element.kind) (fate_of g.T.Element.held.is c.args.fate)) l.i (omega arith)
          l.invariant.so_far c.scale_row.ensures;
    }

pub returns : goal.returns
returns g c = let e : c.loop-i.i ≡ c.args.m = omega arith in rw e at c.loop-i.invariant.so_far
