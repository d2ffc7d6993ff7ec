use Rattle.std.proofs.Common.{arith}
use Rattle.client_shelf.specs.Coming.{reply_of}
use Rattle.machine_rows.proofs.Sound.{may_step, stays_sound}
use Rattle.machine_rows.proofs.bench.Bench.took.Goals as goal

pub took-next-requires-clause-may : goal.took-next-requires-clause-may
took-next-requires-clause-may c =
    may_step c.self.inside.number c.at_least_one-wsize.result c.turn_of-turn.result c.self.inside.shelf (omega arith) c.turn_of-turn.ensures.xid c.turn_of-turn.ensures.moment c.at_least_one-wsize.ensures c.self.invariant

pub invariant_of-self : goal.invariant_of-self
invariant_of-self c =
    stays_sound c.self.inside.number c.turn_of-turn.result c.self.inside.shelf c.took-next.new.shelf c.turn_of-turn.ensures.xid
    (c.steps_stay_ready.ensures.took c.at_least_one-wsize.result c.running.inside.machine c.args.sent c.turn_of-turn.result (reply_of c.args.came.now) c.self.inside.shelf c.took-next.result c.took-next.new.self c.took-next.new.shelf c.took-next.ensures)
    (c.steps_number_writes.ensures.took c.at_least_one-wsize.result c.running.inside.machine c.args.sent c.turn_of-turn.result (reply_of c.args.came.now) c.self.inside.shelf c.took-next.result c.took-next.new.self c.took-next.new.shelf c.took-next.ensures)
    c.self.invariant

pub invariant_of-running : goal.invariant_of-running
invariant_of-running c = c.steps_stay_fit.ensures.took c.at_least_one-wsize.result c.running.inside.machine c.args.sent c.turn_of-turn.result (reply_of c.args.came.now) c.self.inside.shelf c.took-next.result c.took-next.new.self c.took-next.new.shelf c.took-next.ensures c.running.invariant
