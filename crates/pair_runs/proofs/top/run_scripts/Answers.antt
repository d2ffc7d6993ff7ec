use Rattle.std.proofs.Common.{refl}
use Rattle.pair_runs.proofs.Leavings.{none-opened, turns-ran}
use Rattle.pair_runs.proofs.Passages.{passes-behind, passes-link}
use Rattle.pair_runs.proofs.top.run_scripts.Goals as goal

pub returns-in-Err-clause-goes : goal.returns-in-Err-clause-goes
returns-in-Err-clause-goes g c =
    passes-link _ _ _ _ _ _ (λ h k x none. none-opened c.args.first c.args.second _ 7 h k none refl (x none)) c.in-Err.ensures.opens

pub returns-in-Ok-clause-goes : goal.returns-in-Ok-clause-goes
returns-in-Ok-clause-goes g c =
    passes-behind _ _ _ _ _ _ _ _ _ _
    (λ given text h k l x by none. turns-ran c.args.first c.args.second c.in-Ok.pair c.in-Ok.ensures.made.0 c.in-Ok.ensures.made.1 h k l none (x none) c.finish-status.result given text by)
    c.in-Ok.ensures.opens c.finish-status.ensures.goes
