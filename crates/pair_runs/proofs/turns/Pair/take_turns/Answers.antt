use Rattle.std.proofs.Common.{Bool}
use Rattle.pair_runs.proofs.Turned.{a-cut, both-halted, both-turned}
use Rattle.pair_runs.proofs.turns.Pair.take_turns.Goals as goal

pub returns-in-Err-clause-goes : goal.returns-in-Err-clause-goes
returns-in-Err-clause-goes g c = a-cut c.args.self.now c.requires _ _ _ _ _ _ Bool Bool c.in-Err.halt c.turn.new.self c.args.self.now c.in-Err.ensures.goes

pub returns-then-first-clause-goes : goal.returns-then-first-clause-goes
returns-then-first-clause-goes g c =
    both-turned c.args.self.now c.requires _ _ _ _ _ _ _ _ _ c.turn.new.self c.in-Ok.ensures.ready c.in-Ok.ensures.same c.in-Ok.first c.in-Ok-turn.second c.in-Ok.first
    c.turn-in-Ok.new.self c.in-Ok-turn.ensures.same c.in-Ok.ensures.goes c.in-Ok-turn.ensures.goes

pub returns-else-first-clause-goes : goal.returns-else-first-clause-goes
returns-else-first-clause-goes g c =
    both-turned c.args.self.now c.requires _ _ _ _ _ _ _ _ _ c.turn.new.self c.in-Ok.ensures.ready c.in-Ok.ensures.same c.in-Ok.first c.in-Ok-turn.second c.in-Ok-turn.second
    c.turn-in-Ok.new.self c.in-Ok-turn.ensures.same c.in-Ok.ensures.goes c.in-Ok-turn.ensures.goes

pub returns-in-Err-turn-clause-goes : goal.returns-in-Err-turn-clause-goes
returns-in-Err-turn-clause-goes g c =
    both-halted c.args.self.now c.requires _ _ _ _ _ _ _ _ _ c.turn.new.self c.in-Ok.ensures.ready c.in-Ok.ensures.same Bool Bool Bool c.in-Ok.first c.in-Err-turn.halt
    c.turn-in-Ok.new.self c.args.self.now c.in-Ok.ensures.goes c.in-Err-turn.ensures.goes
