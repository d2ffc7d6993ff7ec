use Rattle.core_session.proofs.outcomes.Whole.{oks-rowed}
use Rattle.core_session.proofs.ok_answers_have_their_rows.Goals as goal

pub returns : goal.returns
returns c = oks-rowed
