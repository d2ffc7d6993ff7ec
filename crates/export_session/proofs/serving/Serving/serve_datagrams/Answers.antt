use Rattle.std.proofs.Common.{Some, None}
use Rattle.export_session.proofs.Doing.{does_all_none, does_all_then, does_all_so}
use Rattle.export_session.proofs.SenderTurns.{none_yet, talks_to_then}
use Rattle.export_session.proofs.serving.Serving.serve_datagrams.Goals as goal

pub loop-init : goal.loop-init
loop-init g c = does_all_none _ _ (none_yet _)

pub returns-in-Some-clause-talks : goal.returns-in-Some-clause-talks
returns-in-Some-clause-talks g c = does_all_then _ _ _ _ _ _ (λ es fs p q. talks_to_then (Some c.in-Some.end) _ _ _ es fs p q) c.loop.invariant c.in-Some.ensures.talks

pub loop-preserved : goal.loop-preserved
loop-preserved g c = does_all_then _ _ _ _ _ _ (λ es fs p q. talks_to_then None _ _ _ es fs p q) c.loop.invariant c.in_default.ensures.talks

pub returns-clause-talks : goal.returns-clause-talks
returns-clause-talks g c = does_all_so _ _ _ _ (λ es p. p) c.loop.invariant
