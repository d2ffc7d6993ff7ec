use Rattle.std.proofs.Common.{◌∙◌, ap}
use Rattle.page_cache.specs.Bytes.{over}
use Rattle.page_cache.proofs.Bytes.{filled-over, length-filled}
use Rattle.page_cache.proofs.page.Page.put_over.Goals as goal

pub lay-requires-clause-inside : goal.lay-requires-clause-inside
lay-requires-clause-inside c = rw c.fill_up.ensures (length-filled c.args.at c.args.self.now)

pub returns : goal.returns
returns c = c.lay.ensures ∙ ap (over c.args.at c.args.bytes.now) c.fill_up.ensures ∙ filled-over c.args.at c.args.bytes.now c.args.self.now
