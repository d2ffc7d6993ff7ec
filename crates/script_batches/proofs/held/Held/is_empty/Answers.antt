use Rattle.std.proofs.Common.{arith}
use Rattle.script_batches.proofs.Pieces.{none-behind}
use Rattle.script_batches.proofs.held.Held.is_empty.Goals as goal

pub returns : goal.returns
returns c =
    let long = c.len.ensures in
    let count = c.self.inside.bytes.ok.0 in
    rw (← c.self.view_is) (none-behind c.self.inside.bytes.items c.self.inside.at c.len.result c.self.invariant (omega (arith, long, count)))
