use Rattle.std.proofs.Common.{sym, ◌∙◌}
use Rattle.script_text.proofs.Fronts.{plain_line}
use Rattle.script_text.proofs.Parting.{only_line, first_line_at}
use Rattle.script_text.proofs.lines.first_text.Goals as goal

pub is_utf8_behind-requires-in-Some : goal.is_utf8_behind-requires-in-Some
is_utf8_behind-requires-in-Some c = plain_line _ _ c.args.text.now _ c.without_return-line.ensures c.plain_front-plain.ensures.plain

pub returns-in-None-clause-first : goal.returns-in-None-clause-first
returns-in-None-clause-first c = only_line _ (sym c.feed_behind.ensures ∙ c.in-None.is)

pub returns-in-Some-clause-first : goal.returns-in-Some-clause-first
returns-in-Some-clause-first c = λ some. first_line_at _ _ _ (sym c.feed_behind.ensures ∙ c.in-Some.is) c.without_return-line.ensures
