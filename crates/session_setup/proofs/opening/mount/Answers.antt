use Rattle.session_setup.proofs.Alongs.{along_less, along_then}
use Rattle.session_setup.proofs.Phases.{mount_undialed, mount_unmade, mount_lost, mount_answered}
use Rattle.session_setup.proofs.Dials.{reaches_less, reaches_over, reaches_over_err}
use Rattle.session_setup.proofs.opening.mount.Goals as goal

pub returns-in-Err-clause-goes : goal.returns-in-Err-clause-goes
returns-in-Err-clause-goes g c = rw c.fault_after.ensures (along_less _ _ _ _ (λ h k p con. mount_undialed c.args.path.now c.args.calls.now c.in-Err.stop h k con) c.in-Err.ensures.goes)

pub returns-in_default-clause-goes : goal.returns-in_default-clause-goes
returns-in_default-clause-goes g c = along_less _ _ _ _ (λ h k p con. mount_unmade c.args.path.now c.args.calls.now c.ask_mount.new.calls h k c.ask_mount.ensures.keeps con) c.in-Ok.ensures.goes

pub returns-in-Ok-exchange-clause-goes : goal.returns-in-Ok-exchange-clause-goes
returns-in-Ok-exchange-clause-goes g c =
    let says = rw c.bytes.ensures at c.hear_mount.ensures in
    along_then _ _ _ _ _ _ (λ h k l p q con ex. mount_answered c.args.path.now c.in-Ok-exchange.record c.args.calls.now c.ask_mount.new.calls c.exchange.new.calls c.hear_mount.result h k l c.in-Ok-ask_mount.ensures.makes
    c.exchange.ensures.keeps says con ex) c.in-Ok.ensures.goes c.in-Ok-exchange.ensures.goes

pub returns-in-Err-exchange-clause-goes : goal.returns-in-Err-exchange-clause-goes
returns-in-Err-exchange-clause-goes g c =
    rw c.fault_after-in-Err-exchange.ensures (along_then _ _ _ _ _ _ (λ h k l p q con ex. mount_lost c.args.path.now c.args.calls.now c.ask_mount.new.calls c.exchange.new.calls c.in-Err-exchange.stop h k l c.in-Ok-ask_mount.ensures.makes
    c.exchange.ensures.keeps con ex) c.in-Ok.ensures.goes c.in-Err-exchange.ensures.goes)

pub returns-in_default-clause-reaches : goal.returns-in_default-clause-reaches
returns-in_default-clause-reaches g c = reaches_less c.args.port _ _ c.in-Ok.ensures.reaches

pub returns-in-Ok-exchange-clause-reaches : goal.returns-in-Ok-exchange-clause-reaches
returns-in-Ok-exchange-clause-reaches g c = reaches_over c.args.port _ _ _ _ c.in-Ok.ensures.reaches c.in-Ok-exchange.ensures.dials

pub returns-in-Err-exchange-clause-reaches : goal.returns-in-Err-exchange-clause-reaches
returns-in-Err-exchange-clause-reaches g c = reaches_over_err c.args.port _ _ _ c.in-Ok.ensures.reaches c.in-Err-exchange.ensures.dials
