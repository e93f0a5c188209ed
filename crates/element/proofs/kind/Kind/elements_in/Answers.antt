-- `Kind::elements_in` meets its contract: each arm is two cases of `view_of`. Assumes nothing.
use Rattle.std.proofs.Common.{inl, inr}
use Rattle.element.proofs.kind.Kind.elements_in.Goals as goal

pub returns-in-F32 : goal.returns-in-F32
returns-in-F32 c = elim c.in-F32.is [ inl e ↦ rw e | inr e ↦ rw e ]

pub returns-in-C32 : goal.returns-in-C32
returns-in-C32 c = elim c.in-C32.is [ inl e ↦ rw e | inr e ↦ rw e ]
