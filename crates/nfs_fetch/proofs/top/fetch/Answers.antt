use Rattle.std.proofs.Common.{[], subst, sym}
use Rattle.copy_targets.specs.Taking.{Takes}
use Rattle.nfs_fetch.proofs.Whole.{unbegun, whole-fetch}
use Rattle.nfs_fetch.proofs.top.fetch.Goals as goal

pub returns-in_default-clause-ends : goal.returns-in_default-clause-ends
returns-in_default-clause-ends g c = unbegun c.args.settings.now _

pub returns-clause-fetched : goal.returns-clause-fetched
returns-clause-fetched g c = λ few start.
    whole-fetch g.T.Target.took c.args.settings.now c.args.from c.args.target c.run_with-status.new.asker.download c.run_with-status.new.asker.target c.leave.new.self
    (g.L.Link.told c.args.link.now) (g.L.Link.told c.run_with-status.new.link) _ c.run_with-status.result few start
    (subst (λ t. Takes (g.T.Target.took t) (g.T.Target.took c.leave.new.self) []) c.into_target-target.ensures c.leave.ensures.told) c.in-Ok.download c.in-Ok.ensures
    c.run_with-status.ensures.headline.2
