use Rattle.std.proofs.Common.{arith}
use Rattle.machine_rows.proofs.Sound.{may_step, stays_sound}
use Rattle.machine_rows.proofs.bench.Bench.start.Goals as goal

pub start-next-requires-clause-may : goal.start-next-requires-clause-may
start-next-requires-clause-may c =
    may_step c.self.inside.number c.at_least_one-wsize.result c.turn_of-turn.result c.self.inside.shelf (omega arith) c.turn_of-turn.ensures.xid c.turn_of-turn.ensures.moment c.at_least_one-wsize.ensures c.self.invariant

pub invariant_of-self : goal.invariant_of-self
invariant_of-self c =
    stays_sound c.self.inside.number c.turn_of-turn.result c.self.inside.shelf c.start-next.new.shelf c.turn_of-turn.ensures.xid
    (c.steps_stay_ready.ensures.start c.at_least_one-wsize.result c.running.inside.machine c.turn_of-turn.result c.self.inside.shelf c.start-next.result c.start-next.new.self c.start-next.new.shelf c.start-next.ensures)
    (c.steps_number_writes.ensures.start c.at_least_one-wsize.result c.running.inside.machine c.turn_of-turn.result c.self.inside.shelf c.start-next.result c.start-next.new.self c.start-next.new.shelf c.start-next.ensures)
    c.self.invariant

pub invariant_of-running : goal.invariant_of-running
invariant_of-running c = c.steps_stay_fit.ensures.start c.at_least_one-wsize.result c.running.inside.machine c.turn_of-turn.result c.self.inside.shelf c.start-next.result c.start-next.new.self c.start-next.new.shelf c.start-next.ensures c.running.invariant
