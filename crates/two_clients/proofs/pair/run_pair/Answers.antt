use Rattle.two_clients.proofs.Keeping.{says-headline}
use Rattle.two_clients.proofs.pair.run_pair.Goals as goal

pub returns-clause-headline : goal.returns-clause-headline
returns-clause-headline g c = says-headline _ _ _ _ _ _ _ _ _ c.run_pair.ensures.shown
