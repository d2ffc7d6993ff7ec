use Rattle.model_writes.proofs.DurableBytesStay.{settles}
use Rattle.model_writes.proofs.MirroredIsLawful.{mirrored_is_lawful, mirrored_once}
use Rattle.model_writes.proofs.SettledIsMirrored.{settled_is_mirrored}
use Rattle.model_writes.proofs.history_settles.Goals as goal

pub returns : goal.returns
returns c = λ m origin t s k lawful once view reached. settled_is_mirrored m origin t s k (settles s (mirrored_is_lawful m origin t s k lawful) (mirrored_once m origin t s k once) view reached)
