use Rattle.core_counts.proofs.coarse.FedWalks.{walks-led}
use Rattle.core_counts.proofs.walks_are_led.Goals as goal

pub returns : goal.returns
returns c = walks-led
