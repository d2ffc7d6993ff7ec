use Rattle.std.proofs.Common.{None, refl}
use Rattle.batch_runs.proofs.Opens.{lost-says, ready-says, refused-says, unready-says}
use Rattle.batch_runs.proofs.Tops.{all-end, mount-ends, worst-five}
use Rattle.batch_runs.proofs.top.open.Goals as goal

pub returns-in-Ok-clause-shown : goal.returns-in-Ok-clause-shown
returns-in-Ok-clause-shown g c =
    ready-says c.args.settings.now c.args.script c.args.answered.now _ c.open_ready.result c.first_xid-first.result _ _ _ _ _ _ _ _ c.first_xid-first.ensures.read c.in-Ok.ready c.in-Ok.ensures.fits
    c.in-Ok.ensures.goes c.open_ready.ensures.runs c.open_ready.ensures.dials

pub returns-in-Ok-clause-statuses : goal.returns-in-Ok-clause-statuses
returns-in-Ok-clause-statuses g c = all-end c.open_ready.result c.open_ready.ensures.statuses

pub returns-in-Ok-clause-sink : goal.returns-in-Ok-clause-sink
returns-in-Ok-clause-sink g c = worst-five c.open_ready.result _ c.open_ready.ensures.statuses

pub returns-in-Err-Lost-clause-shown : goal.returns-in-Err-Lost-clause-shown
returns-in-Err-Lost-clause-shown g c =
    let e = rw c.in-Err-Lost.field-0-is at c.in-Err-Lost.ensures.goes in
    lost-says c.args.settings.now c.args.script c.args.answered.now _ c.lose_scripts.result c.first_xid-first.result _ _ _ _ _ _ _ _ c.first_xid-first.ensures.read c.in-Err-Lost.tally e
    c.lose_scripts.ensures.runs

pub returns-in-Err-Lost-clause-statuses : goal.returns-in-Err-Lost-clause-statuses
returns-in-Err-Lost-clause-statuses g c = all-end c.lose_scripts.result c.lose_scripts.ensures.statuses

pub returns-in-Err-Lost-clause-sink : goal.returns-in-Err-Lost-clause-sink
returns-in-Err-Lost-clause-sink g c = worst-five c.lose_scripts.result _ c.lose_scripts.ensures.statuses

pub returns-in-Err-Refused-clause-shown : goal.returns-in-Err-Refused-clause-shown
returns-in-Err-Refused-clause-shown g c =
    let e = rw c.in-Err-Refused.field-0-is at c.in-Err-Refused.ensures.goes in
    refused-says c.args.settings.now c.args.script c.args.answered.now _ _ c.first_xid-first.result _ _ _ _ None _ _ None c.first_xid-first.ensures.read c.in-Err-Refused.fault e c.refuse_mount.ensures.said

pub returns-in-Err-Refused-clause-statuses : goal.returns-in-Err-Refused-clause-statuses
returns-in-Err-Refused-clause-statuses g c = mount-ends c.refuse_mount.result c.refuse_mount.ensures.status

pub returns-in-Err-Refused-clause-sink : goal.returns-in-Err-Refused-clause-sink
returns-in-Err-Refused-clause-sink g c = λ five. c.refuse_mount.ensures.sink cc

pub returns-in-Err-Memory-clause-shown : goal.returns-in-Err-Memory-clause-shown
returns-in-Err-Memory-clause-shown g c =
    let e = rw c.in-Err-Memory.field-0-is at c.in-Err-Memory.ensures.goes in
    unready-says c.args.settings.now c.args.script c.args.answered.now _ _ c.first_xid-first.result _ None _ _ None _ _ None c.first_xid-first.ensures.read e refl

pub returns-in-Err-Memory-clause-sink : goal.returns-in-Err-Memory-clause-sink
returns-in-Err-Memory-clause-sink g c = λ five. absurd cc
