use Rattle.std.proofs.Common.{List, map, ap}
use Rattle.world_link.specs.declared.routed.Told.{Told}
use Rattle.world_link.specs.Ends.{world_ends}
use Rattle.world_link.specs.View.{seen, entry_in}
use Rattle.world_link.proofs.Pushes.{on_err}
use Rattle.world_link.proofs.world.World.fail_to_connect.Goals as goal

pub returns-in_err-reserve-clause-err : goal.returns-in_err-reserve-clause-err
returns-in_err-reserve-clause-err c =
    on_err c.from_residual.result _ (ap (λ (t : List Told). record (seen c.args.self.now) { server = record (seen c.args.self.now).server { entries = map entry_in t } }) c.reserve.ensures.items)

pub returns-in_err-reserve-clause-same_ends : goal.returns-in_err-reserve-clause-same_ends
returns-in_err-reserve-clause-same_ends c =
    on_err c.from_residual.result _ (ap (λ (t : List Told). record (world_ends c.args.self.now) { server = record (world_ends c.args.self.now).server { told = t } }) c.reserve.ensures.items)
