use Rattle.std.proofs.Common.{◌++◌, ℕ}
use Rattle.lane_session.specs.Endings.{counts_text}
use Rattle.nfs_script.specs.DoneText.{done_text}
use Rattle.batch_runs.proofs.Telling.{not-source, one-cut-off, one-told, one-unnumbered}
use Rattle.batch_runs.proofs.reading.finish.Goals as goal

pub returns-in-Ok-tell_done-clause-one : goal.returns-in-Ok-tell_done-clause-one
returns-in-Ok-tell_done-clause-one g c =
    one-told _ _ c.args.answered.now c.add.new.self c.args.status c.in-Ok.number (λ (n : ℕ). counts_text c.args.count c.args.tally.now ++ done_text n c.args.status) c.in-Ok.ensures c.add.ensures c.in-Ok-tell_done.ensures.ok

pub returns-in-Err-clause-one : goal.returns-in-Err-clause-one
returns-in-Err-clause-one g c =
    one-cut-off _ _ c.args.answered.now c.args.answered.now c.args.status c.in-Ok.number (λ (n : ℕ). counts_text c.args.count c.args.tally.now ++ done_text n c.args.status) c.in-Ok.ensures c.in-Err.stop (not-source c.in-Err.stop _ c.in-Err.ensures.cause) c.in-Err.ensures.err

pub returns-in_default-clause-one : goal.returns-in_default-clause-one
returns-in_default-clause-one g c = one-unnumbered _ c.args.answered.now c.args.status _
