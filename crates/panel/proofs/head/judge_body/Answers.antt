-- `panel::head::judge_body` meets its contract: the tests of 24 to 26 in their order. Assumes nothing.
use Rattle.std.proofs.Common.{◌≡◌, ℕ, List, ap, arith, ◌∙◌}
use Rattle.panel.specs.declared.file.Shape.{Shape}
use Rattle.panel.specs.File.{header_of, elements_of, elements_in}
use Rattle.panel.specs.HeadLaws.{wrong_kind, wrong_length, no_room, accepted}
use Rattle.panel.proofs.head.judge_body.Goals as goal

-- how many elements there are
count : (s : List ℕ) (shape : Shape) {n : ℕ} → n ≡ elements_of shape → shape ≡ (header_of s).shape → n ≡ elements_in s
count s shape e q = e ∙ ap elements_of q

pub returns-then-file-kind : goal.returns-then-file-kind
returns-then-file-kind c = wrong_kind _ _ _ (λ e. omega arith)

pub returns-then-file-width_of : goal.returns-then-file-width_of
returns-then-file-width_of c =
    wrong_length _ _ _ (omega arith) c.width_of.ensures.0 (count _ _ c.elements.ensures.0 c.requires.1) (λ e. omega arith)

pub returns-then-room-elements : goal.returns-then-room-elements
returns-then-room-elements c =
    no_room _ _ _ (omega arith) c.width_of.ensures.0 (count _ _ c.elements.ensures.0 c.requires.1) (omega arith)
    (omega (arith, c.elements.ensures.0, c.elements-2.ensures.0))

pub returns : goal.returns
returns c =
    accepted _ _ _ (omega arith) c.width_of.ensures.0 (count _ _ c.elements.ensures.0 c.requires.1) (omega arith)
    (omega (arith, c.elements.ensures.0, c.elements-2.ensures.0))
