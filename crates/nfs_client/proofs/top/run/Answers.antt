use Rattle.nfs_client.proofs.Whole.{run-shown, run-heads}
use Rattle.nfs_client.proofs.top.run.Goals as goal

pub returns-clause-headline : goal.returns-clause-headline
returns-clause-headline g c = run-heads _ _ _ _ _ _ _ _ _ c.run.ensures.shown

pub returns-clause-shown : goal.returns-clause-shown
returns-clause-shown g c = run-shown _ _ _ _ _ _ _ _ _ c.run.ensures.shown
