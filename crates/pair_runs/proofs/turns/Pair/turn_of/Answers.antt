use Rattle.std.proofs.Common.{Bool}
use Rattle.pair_runs.proofs.Turned.{a-cut, a-turned, b-cut, b-turned}
use Rattle.pair_runs.proofs.turns.Pair.turn_of.Goals as goal

pub returns-in-Ok-clause-goes : goal.returns-in-Ok-clause-goes
returns-in-Ok-clause-goes g c = a-turned c.args.self.now c.requires _ _ _ _ _ _ c.in-Ok.field-0 (tt {0}) c.turn.new.self c.in-Ok.ensures.same c.in-Ok.ensures.goes

pub returns-in-Err-clause-goes : goal.returns-in-Err-clause-goes
returns-in-Err-clause-goes g c = a-cut c.args.self.now c.requires _ _ _ _ _ _ Bool (Unit {0}) c.in-Err.halt c.turn.new.self c.args.self.now c.in-Err.ensures.goes

pub returns-in-Ok-turn-clause-goes : goal.returns-in-Ok-turn-clause-goes
returns-in-Ok-turn-clause-goes g c =
    b-turned c.args.self.now c.requires _ _ _ _ _ _ c.in-Ok-turn.field-0 (tt {0}) c.turn-else-letter-eq97.new.self c.in-Ok-turn.ensures.same c.in-Ok-turn.ensures.goes

pub returns-in-Err-turn-clause-goes : goal.returns-in-Err-turn-clause-goes
returns-in-Err-turn-clause-goes g c =
    b-cut c.args.self.now c.requires _ _ _ _ _ _ Bool (Unit {0}) c.in-Err-turn.halt c.turn-else-letter-eq97.new.self c.args.self.now c.in-Err-turn.ensures.goes
