use Rattle.std.proofs.Common.{◌≡◌, length}
use Rattle.export_fs.specs.Names.{is_below}
use Rattle.export_fs.proofs.nodes.Nodes.is_below.Given as goal

abbrev pub invariant-loop-steps : goal.invariant-loop-steps
invariant-loop-steps l = is_below l.steps l.self l.top l.at ≡ is_below (length l.self) l.self l.top l.from

abbrev pub decreases-loop-steps : goal.decreases-loop-steps
decreases-loop-steps l = l.steps
