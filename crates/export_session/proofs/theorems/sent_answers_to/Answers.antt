use Rattle.export_session.proofs.SenderPlaceLaws.{answers_all_to}
use Rattle.export_session.proofs.theorems.sent_answers_to.Goals as goal

pub returns : goal.returns
returns g = answers_all_to
