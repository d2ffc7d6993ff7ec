use Rattle.rpc_record.proofs.WaitTurns.{turned_on, goes_on_then}
use Rattle.rpc_record.proofs.stream_link.StreamLink.wait.Goals as goal

pub returns-in-Some-clause-turned : goal.returns-in-Some-clause-turned
returns-in-Some-clause-turned g c = turned_on _ _ _ _ _ c.loop-turns.invariant.0 c.in-Some.ensures.turns

pub loop-turns-preserved : goal.loop-turns-preserved
loop-turns-preserved g c =
    (goes_on_then _ _ _ c.loop-turns.invariant.0 c.in-None.ensures.turns, λ h. c.in-None.ensures.honest (c.loop-turns.invariant.1 h))
