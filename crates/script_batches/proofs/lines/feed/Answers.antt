use Rattle.script_text.specs.Lines.{is_feed}
use Rattle.script_text.proofs.Firsts.{first-is}
use Rattle.script_batches.proofs.lines.feed.Goals as goal

pub returns : goal.returns
returns c = first-is is_feed c.args.text.now c.memchr.result c.memchr.ensures
