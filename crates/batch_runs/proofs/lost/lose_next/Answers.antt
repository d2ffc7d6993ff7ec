use Rattle.std.proofs.Common.{ℕ, None}
use Rattle.batch_runs.proofs.Causing.{all-caused, rose-before, stop-caused}
use Rattle.batch_runs.proofs.LostRuns.{lost-found, lost-stopped}
use Rattle.batch_runs.proofs.lost.lose_next.Goals as goal

pub returns-in-Ok-clause-loses : goal.returns-in-Ok-clause-loses
returns-in-Ok-clause-loses g c =
    lost-found _ _ _ _ _ _ c.args.count c.args.script.now c.args.tally.now c.args.answered.now c.lose_one.new.answered c.next_script.new.answered _ _ _ c.next_script.result
    c.in-Ok.ensures.runs c.next_script.ensures.finds

pub returns-in-Ok-clause-cause : goal.returns-in-Ok-clause-cause
returns-in-Ok-clause-cause g c = all-caused _ c.next_script.result _ _ _ _ (λ x. x) (λ x. rose-before _ _ _ c.in-Ok.ensures.written x) c.next_script.ensures.cause

pub returns-in-Err-clause-loses : goal.returns-in-Err-clause-loses
returns-in-Err-clause-loses g c =
    lost-stopped _ _ _ _ _ _ c.args.count c.args.script.now c.args.tally.now c.args.answered.now c.lose_one.new.answered c.lose_one.new.answered _ None c.in-Err.stop c.in-Err.ensures.runs

pub returns-in-Err-clause-cause : goal.returns-in-Err-clause-cause
returns-in-Err-clause-cause g c = stop-caused ℕ ℕ c.in-Err.stop _ _ _ _ (λ x. absurd x) (λ x. x) c.in-Err.ensures.cause
