use Rattle.run_batches.proofs.Whole.{run-heads}
use Rattle.run_batches.proofs.top.run.Goals as goal

pub returns-clause-headline : goal.returns-clause-headline
returns-clause-headline g c = run-heads _ _ _ _ _ _ _ _ _ c.run.ensures.shown
