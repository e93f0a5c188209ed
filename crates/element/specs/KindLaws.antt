-- In every kind's view an element is its floats, no more and no less. Assumes nothing.
use Rattle.rules.specs.ViewLaws.{Lawful, real_lawful, complex_lawful}
use Rattle.element.specs.Kinds.{view_of}
use Rattle.element.specs.declared.kind.Kind.{Kind}
use Rattle.element.specs.declared.kind.Kind.TheVariants.{F32, F64, C32, C64}

pub lawful : (kind : Kind) → Lawful (view_of kind)
lawful F32 = real_lawful
lawful F64 = real_lawful
lawful C32 = complex_lawful
lawful C64 = complex_lawful
