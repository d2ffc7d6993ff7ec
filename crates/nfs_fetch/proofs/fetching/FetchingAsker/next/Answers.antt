use Rattle.nfs_fetch.proofs.Parts.{asked-next, next-may}
use Rattle.nfs_fetch.proofs.fetching.FetchingAsker.next.Goals as goal

pub returns-clause-goes : goal.returns-clause-goes
returns-clause-goes g c =
    asked-next g.T.Target.took (λ x. x.download) (λ x. x.target) c.args.answers.now c.args._status _ _ _ _ c.next.result c.next.ensures.goes

pub returns-clause-may : goal.returns-clause-may
returns-clause-may g c = next-may c.next.result c.next.ensures.script
