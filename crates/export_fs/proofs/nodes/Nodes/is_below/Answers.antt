-- One step up of those that are left.
use Rattle.std.proofs.Common.{rules}
use Rattle.export_fs.proofs.Below.{below_step}
use Rattle.export_fs.proofs.nodes.Nodes.is_below.Goals as goal

pub loop-steps-preserved : goal.loop-steps-preserved
loop-steps-preserved c =
    let e = below_step c.loop-steps.steps c.args.self.now c.args.top c.loop-steps.at (search rules) (search rules) (search rules) in
    search (rules, e)
