use Rattle.fetch_scripts.proofs.Givings.{span-gave}
use Rattle.fetch_scripts.proofs.taking_files.take_span.Goals as goal

pub returns-then-is_begun-clause-took : goal.returns-then-is_begun-clause-took
returns-then-is_begun-clause-took g c = span-gave _ _ _ _ c.take_rest.result _ _ _ c.if-is_begun.true c.in_ok-is_begun.ensures.took c.take_rest.ensures.took
