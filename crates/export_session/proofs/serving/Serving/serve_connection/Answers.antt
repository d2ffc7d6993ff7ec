use Rattle.export_session.proofs.Doing.{does_none, does_then, does_so}
use Rattle.export_session.proofs.Turning.{none_yet, one_more, last_turn}
use Rattle.export_session.proofs.serving.Serving.serve_connection.Goals as goal

pub loop-init : goal.loop-init
loop-init g c = does_none _ _ (none_yet _)

pub loop-preserved : goal.loop-preserved
loop-preserved g c = does_then _ _ _ _ _ _ (λ es fs p q. one_more _ _ _ es fs p q) c.loop.invariant c.in-Wait.ensures.turns

pub returns-in-Close-clause-talks : goal.returns-in-Close-clause-talks
returns-in-Close-clause-talks g c = does_then _ _ _ _ _ _ (λ es fs p q. one_more _ _ _ es fs p q) c.loop.invariant c.in-Close.ensures.turns

pub returns-in-Stop-clause-talks : goal.returns-in-Stop-clause-talks
returns-in-Stop-clause-talks g c = does_then _ _ _ _ _ _ (λ es fs p q. last_turn c.in-Stop.end _ _ _ es fs p q) c.loop.invariant c.in-Stop.ensures.turns

pub returns-clause-talks : goal.returns-clause-talks
returns-clause-talks g c = does_so _ _ _ _ (λ es p. p) c.loop.invariant
