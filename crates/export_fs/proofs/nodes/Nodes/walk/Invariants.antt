use Rattle.std.proofs.Common.{◌≡◌, Some, drop}
use Rattle.export_fs.specs.Placing.{walked}
use Rattle.export_fs.proofs.nodes.Nodes.walk.Given as goal

abbrev pub invariant-loop-name : goal.invariant-loop-name
invariant-loop-name l = walked l.self l.at (drop l.name-index l.names) ≡ walked l.self (Some 0) l.names
