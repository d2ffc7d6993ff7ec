use Rattle.copy_plan.proofs.InOrder.{in-order}
use Rattle.copy_plan.proofs.whole.asks_in_order.Goals as goal

pub returns : goal.returns
returns c = in-order
