-- `replay::agrees` meets its contract: a call of the kind agrees where its comparison says so. Assumes nothing.
use Rattle.std.proofs.Common.{sym, ◌∙◌}
use Rattle.replay.specs.FileLaws.{agreeing_tells}
use Rattle.replay.proofs.agrees.Goals as goal

pub returns-then-word_at-word_of : goal.returns-then-word_at-word_of
returns-then-word_at-word_of g c =
    agreeing_tells (sym c.word_at.ensures ∙ (c.if-word_at-word_of.true ∙ c.word_of.ensures)) c.replay.ensures c.report.ensures
