use Rattle.std.proofs.Common.{sym, ◌∙◌}
use Rattle.script_text.proofs.Parting.{only_word, first_word_at}
use Rattle.script_text.proofs.lines.first_word.Goals as goal

pub returns-in-None-clause-first : goal.returns-in-None-clause-first
returns-in-None-clause-first c = only_word _ (sym c.blank.ensures ∙ c.in-None.is)

pub returns-in-Some-clause-first : goal.returns-in-Some-clause-first
returns-in-Some-clause-first c = first_word_at _ _ (sym c.blank.ensures ∙ c.in-Some.is)
