use Rattle.client_shelf.specs.Coming.{reply_of}
use Rattle.file_ops.proofs.LastCommits.{last-takes}
use Rattle.file_ops.proofs.saving.Saving.took.Goals as goal

pub returns-in-CommittingAgain-clause-step : goal.returns-in-CommittingAgain-clause-step
returns-in-CommittingAgain-clause-step c =
    last-takes c.args.self.now c.commit_told.result c.args.wsize c.args.sent c.args.turn (reply_of c.args.came.now) c.args.repeats.now c.args.back.now _ _ _ c.in-CommittingAgain.is c.commit_told.ensures c.take_last.ensures.next c.take_last.ensures.saving c.take_last.ensures.repeats
