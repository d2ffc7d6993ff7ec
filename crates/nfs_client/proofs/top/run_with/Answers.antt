use Rattle.nfs_client.proofs.Whole.{with-shown, with-heads}
use Rattle.nfs_client.proofs.top.run_with.Goals as goal

pub returns-clause-headline : goal.returns-clause-headline
returns-clause-headline g c = with-heads _ _ _ _ _ _ _ _ _ c.run_with.ensures.shown

pub returns-clause-shown : goal.returns-clause-shown
returns-clause-shown g c = with-shown _ _ _ _ _ _ _ _ _ c.run_with.ensures.shown
