use Rattle.std.proofs.Common.{sym, ◌∙◌}
use Rattle.script_text.proofs.Fronts.{no_feed, first_feed}
use Rattle.script_text.proofs.lines.feed_behind.Goals as goal

pub returns-in-None : goal.returns-in-None
returns-in-None c = no_feed c.args.text.now c.args.plain c.requires.plain c.requires.within (rw c.split_at.ensures.back at (sym c.feed.ensures ∙ c.in-None.is))

pub returns-in-Some : goal.returns-in-Some
returns-in-Some c = first_feed c.args.text.now c.args.plain c.in-Some.at c.requires.plain c.requires.within (rw c.split_at.ensures.back at (sym c.feed.ensures ∙ c.in-Some.is))
