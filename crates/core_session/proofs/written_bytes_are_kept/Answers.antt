use Rattle.core_session.proofs.kept.Written.{written-kept}
use Rattle.core_session.proofs.written_bytes_are_kept.Goals as goal

pub returns : goal.returns
returns c = written-kept
