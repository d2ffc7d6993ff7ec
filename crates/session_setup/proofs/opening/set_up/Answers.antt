use Rattle.session_setup.proofs.Alongs.{along_less, along_then}
use Rattle.session_setup.proofs.Dials.{along_with}
use Rattle.session_setup.proofs.Finishing.{given_once, given_twice, fresh_none, fresh_made, sets_up_given, sets_up_mounted, sets_up_unmounted}
use Rattle.session_setup.proofs.opening.set_up.Goals as goal

pub returns-in-Ok-clause-goes : goal.returns-in-Ok-clause-goes
returns-in-Ok-clause-goes g c =
    let e = c.new-calls.ensures in
    let given = given_twice c.args.settings.now c.args.first_xid c.new-calls.result c.mount.new.calls c.finish.new.calls e c.mount.ensures.keeps c.finish.ensures.keeps in
    along_then _ _ _ _ _ _ (λ h k l p q m f. sets_up_mounted c.args.settings.now c.args.first_xid c.in-Path.path c.in-Ok.root c.finish.result c.new-calls.result c.mount.new.calls c.finish.new.calls h k l c.in-Path.is c.requires.options given
    (fresh_none c.args.settings.now c.args.first_xid c.new-calls.result e) (fresh_made c.args.settings.now c.args.first_xid c.new-calls.result e) m.0 m.1.0 f.0 f.1 q)
    (along_with _ _ _ _ c.in-Ok.ensures.goes c.in-Ok.ensures.reaches) (along_with _ _ _ _ c.finish.ensures.goes c.finish.ensures.reaches)

pub returns-in-Path-clause-goes : goal.returns-in-Path-clause-goes
returns-in-Path-clause-goes g c =
    let e = c.new-calls.ensures in
    let given = given_once c.args.settings.now c.args.first_xid c.new-calls.result c.mount.new.calls e c.mount.ensures.keeps in
    along_less _ _ _ _ (λ h k p m. sets_up_unmounted c.args.settings.now c.args.first_xid c.in-Path.path c.in-Err.fault c.new-calls.result c.mount.new.calls h k c.in-Path.is c.requires.options given
    (fresh_none c.args.settings.now c.args.first_xid c.new-calls.result e) (fresh_made c.args.settings.now c.args.first_xid c.new-calls.result e) c.mount.ensures.keeps m.0 m.1)
    (along_with _ _ _ _ c.in-Err.ensures.goes c.in-Err.ensures.reaches)

pub returns-clause-goes : goal.returns-clause-goes
returns-clause-goes g c =
    let e = c.new-calls.ensures in
    let given = given_once c.args.settings.now c.args.first_xid c.new-calls.result c.finish-in-Root.new.calls e c.finish-in-Root.ensures.keeps in
    along_less _ _ _ _ (λ h k p f. sets_up_given c.args.settings.now c.args.first_xid c.in-Root.root c.finish-in-Root.result c.new-calls.result c.finish-in-Root.new.calls h k c.in-Root.is c.requires.options given
    (fresh_none c.args.settings.now c.args.first_xid c.new-calls.result e) (fresh_made c.args.settings.now c.args.first_xid c.new-calls.result e) f.0 f.1)
    (along_with _ _ _ _ c.finish-in-Root.ensures.goes c.finish-in-Root.ensures.reaches)
