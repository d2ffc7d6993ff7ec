use Rattle.std.proofs.Common.{sym, ◌∙◌}
use Rattle.script_text.proofs.Parting.{only_line, first_line_at}
use Rattle.script_text.proofs.lines.first_line.Goals as goal

pub returns-in-None-clause-first : goal.returns-in-None-clause-first
returns-in-None-clause-first c = only_line _ (sym c.feed.ensures ∙ c.in-None.is)

pub returns-in-Some-clause-first : goal.returns-in-Some-clause-first
returns-in-Some-clause-first c = λ some. first_line_at _ _ _ (sym c.feed.ensures ∙ c.in-Some.is) c.without_return.ensures
