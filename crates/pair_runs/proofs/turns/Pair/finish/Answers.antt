use Rattle.pair_runs.specs.PairGoing.{turns_cut, turns_done}
use Rattle.pair_runs.proofs.Passages.{passes-less}
use Rattle.pair_runs.proofs.turns.Pair.finish.Goals as goal

pub returns-in-Ok-clause-goes : goal.returns-in-Ok-clause-goes
returns-in-Ok-clause-goes g c =
    passes-less _ _ _ _ _ _ _ _ (λ r t h k by. turns_done c.run.new.self c.in-Ok.ensures.ready c.in-Ok.ensures.over c.status.ensures.is by) c.in-Ok.ensures.goes

pub returns-in-Err-clause-goes : goal.returns-in-Err-clause-goes
returns-in-Err-clause-goes g c = passes-less _ _ _ _ _ _ _ _ (λ r t h k by. turns_cut c.run.new.self c.in-Err.halt c.of_halt.ensures by) c.in-Err.ensures.goes
