use Rattle.std.proofs.Common.{◌-◌}
use Rattle.session_setup.proofs.Alongs.{along_less}
use Rattle.session_setup.proofs.Finishing.{finish_ok, finish_err}
use Rattle.session_setup.proofs.opening.finish.Goals as goal

pub returns-in-Ok-clause-goes : goal.returns-in-Ok-clause-goes
returns-in-Ok-clause-goes g c =
    rw (c.next_xid.ensures, c.tally_after.ensures) (along_less _ _ _ _ (λ h k p i. finish_ok c.args.root c.args.settings.now c.args.calls.now c.inform.new.calls c.in-Ok.sizes (c.args.settings.now.calls - c.made.result) h k p i)
    c.in-Ok.ensures.goes)

pub returns-in-Err-clause-goes : goal.returns-in-Err-clause-goes
returns-in-Err-clause-goes g c = along_less _ _ _ _ (λ h k p i. finish_err c.args.root c.args.settings.now c.args.calls.now c.inform.new.calls c.in-Err.why h k p i) c.in-Err.ensures.goes
