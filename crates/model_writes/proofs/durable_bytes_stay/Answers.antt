use Rattle.model_writes.proofs.DurableBytesStay.{settles}
use Rattle.model_writes.proofs.durable_bytes_stay.Goals as goal

pub returns : goal.returns
returns c = settles
