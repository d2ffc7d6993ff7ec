use Rattle.core_session.proofs.kept.OwnShows.{reads-end-rightly}
use Rattle.core_session.proofs.short_reads_end_rightly.Goals as goal

pub returns : goal.returns
returns c = reads-end-rightly
