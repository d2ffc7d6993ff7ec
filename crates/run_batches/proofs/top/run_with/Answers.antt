use Rattle.run_batches.proofs.Whole.{with-heads}
use Rattle.run_batches.proofs.top.run_with.Goals as goal

pub returns-clause-headline : goal.returns-clause-headline
returns-clause-headline g c = with-heads _ _ _ _ _ _ _ _ _ c.run_with.ensures.shown
