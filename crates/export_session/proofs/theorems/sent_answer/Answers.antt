use Rattle.export_session.proofs.PlaceLaws.{answers_all}
use Rattle.export_session.proofs.theorems.sent_answer.Goals as goal

pub returns : goal.returns
returns g = answers_all
