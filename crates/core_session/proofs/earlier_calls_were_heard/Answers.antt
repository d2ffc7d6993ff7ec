use Rattle.core_session.proofs.order.Earliers.{earlier-heard}
use Rattle.core_session.proofs.earlier_calls_were_heard.Goals as goal

pub returns : goal.returns
returns c = earlier-heard
