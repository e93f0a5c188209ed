-- `panel::reader::read` meets its contract: the judge was asked for the real's kind and for as much room as the slice has. Assumes nothing.
use Rattle.std.proofs.Common.{rules, ◌≡◌, sym, ap, ◌∙◌, subst, ℕ, ◌≤◌, List, length}
use Rattle.std.specs.Float.{Format}
use Rattle.refusal.specs.Order.{Says, done}
use Rattle.element.specs.FloatLaws.{length_floats}
use Rattle.panel.specs.declared.file.Header.{Header}
use Rattle.panel.specs.File.{byte_of, elements_of, HeadThen, BodyThen}
use Rattle.panel.specs.Reader.{ReadSays}
use Rattle.panel.proofs.FillLaws.{first_filled}
use Rattle.panel.proofs.reader.read.Goals as goal

-- what the judge says is what the reader says
said : (f : Format) (s : List ℕ) {kind room n : ℕ} (r : ℕ) → kind ≡ byte_of f → n ≡ room
    → HeadThen s (BodyThen s kind room done) r → ReadSays f s n r
said f s r k e p = subst (λ (says : Says). says r) (λ i. HeadThen s (BodyThen s (k i) (sym e i) done)) p

pub returns-in_err-head : goal.returns-in_err-head
returns-in_err-head g c =
    let says =
    said g.R.Real.format c.args.file.now _ (c.KIND.ensures ∙ g.met.R.Stored.kind_is) (length_floats g.met.R.Real.each c.args.numbers.now)
    c.in_err-head.ensures in
    search rules

pub returns : goal.returns
returns g c =
    let head = c.in_ok-head.ensures in
    let room = length_floats g.met.R.Real.each c.args.numbers.now in
    let fits : c.elements.result ≤ length c.args.numbers.now = search rules in
    let count = c.elements.ensures.0 ∙ ap (λ (h : Header). elements_of h.shape) head.1 in (
      said g.R.Real.format c.args.file.now 0 (c.KIND.ensures ∙ g.met.R.Stored.kind_is) room head.0,
      head.1,
      first_filled g.met.R.Real.each _ _ _ _ _ fits count c.fill.ensures,
    )
