use Rattle.core_session.proofs.saves.Lone.{puts-written}
use Rattle.core_session.proofs.puts_bytes_were_written.Goals as goal

pub returns : goal.returns
returns c = puts-written
