use Rattle.std.proofs.Common.{◌+◌, arith}
use Rattle.write_back.proofs.Numbers.{upto_added, newest}
use Rattle.slow_bodies.proofs.kept_back.KeptBack.add.Goals as goal

pub invariant_of-self : goal.invariant_of-self
invariant_of-self c = upto_added c.self.inside.number (c.self.inside.number + 1) c.args.offset c.args.bytes.now _ _ c.args.file.now c.add.result c.add.ensures.ok c.add.ensures.err (omega arith) c.self.invariant

pub add-requires-clause-newest : goal.add-requires-clause-newest
add-requires-clause-newest c = newest c.self.inside.number (c.self.inside.number + 1) _ c.self.invariant (omega arith)
