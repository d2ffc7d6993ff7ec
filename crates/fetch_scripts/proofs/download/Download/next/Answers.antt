use Rattle.fetch_scripts.proofs.Nexts.{next-gave}
use Rattle.fetch_scripts.proofs.download.Download.next.Goals as goal

pub returns-clause-goes : goal.returns-clause-goes
returns-clause-goes g c = next-gave _ _ c.ask.result _ _ _ _ _ c.in_ok-answers.ensures c.in_ok-take.ensures c.ask.ensures.sends
