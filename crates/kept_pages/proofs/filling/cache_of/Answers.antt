use Rattle.kept_pages.proofs.Offers.{comes-of}
use Rattle.kept_pages.proofs.filling.cache_of.Goals as goal

pub returns-clause-comes : goal.returns-clause-comes
returns-clause-comes g c = comes-of c.args.store.now.pages c.loop-done.cache c.loop-done.invariant.0

pub returns-clause-room : goal.returns-clause-room
returns-clause-room g c = c.loop-done.invariant.1
