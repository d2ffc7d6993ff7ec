use Rattle.fetch_scripts.proofs.Givings.{rest-gave}
use Rattle.fetch_scripts.proofs.taking_files.take_rest.Goals as goal

pub returns-then-is_taken-clause-took : goal.returns-then-is_taken-clause-took
returns-then-is_taken-clause-took g c = rest-gave _ _ _ c.take_end.result _ _ _ c.if-is_taken.true c.in_ok-is_taken.ensures.took c.take_end.ensures.took
