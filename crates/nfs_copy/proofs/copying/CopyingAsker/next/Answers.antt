use Rattle.nfs_copy.proofs.Parts.{asked-next, next-may}
use Rattle.nfs_copy.proofs.copying.CopyingAsker.next.Goals as goal

pub returns-clause-goes : goal.returns-clause-goes
returns-clause-goes g c =
    asked-next g.T.Tree.given g.T.Tree.over (λ x. x.upload) (λ x. x.tree) c.args.answers.now c.args.status _ _ _ _ c.next.result c.next.ensures.goes c.next.ensures.over

pub returns-clause-may : goal.returns-clause-may
returns-clause-may g c = next-may c.next.result c.next.ensures.asked c.next.ensures.few
