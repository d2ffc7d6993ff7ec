use Rattle.export_fs.proofs.RestartInOrder.{IsRestarting}
use Rattle.export_fs.proofs.restart.restart_all.Given as goal

abbrev pub invariant-loop-node : goal.invariant-loop-node
invariant-loop-node l = IsRestarting l.fn.nodes l.nodes l.fn.counter l.number l.node-index
