use Rattle.std.proofs.Common.{rules, ◌∙◌}
use Rattle.script_text.proofs.Parting.{no_words}
use Rattle.script_text.proofs.lines.next_word.Goals as goal

pub returns : goal.returns
returns c = c.loop-rest.invariant ∙ no_words _ (search rules)
