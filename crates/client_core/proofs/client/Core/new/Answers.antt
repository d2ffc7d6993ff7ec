use Rattle.client_core.proofs.Sounds.{fresh-sound}
use Rattle.client_core.proofs.client.Core.new.Goals as goal

pub invariant_of-result : goal.invariant_of-result
invariant_of-result c = fresh-sound c.args.setup c.in_ok-work.work c.requires.first c.requires.sizes c.in_ok-work.ensures
