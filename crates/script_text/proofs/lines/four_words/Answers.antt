use Rattle.script_text.proofs.Worded.{four_from}
use Rattle.script_text.proofs.lines.four_words.Goals as goal

pub returns : goal.returns
returns c = four_from _ _ _ _ _ _ c.in_ok-first.ensures c.in_ok-second.ensures
