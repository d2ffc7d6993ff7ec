use Rattle.std.proofs.Common.{◌∙◌}
use Rattle.session_setup.proofs.Requests.{makes_mount}
use Rattle.session_setup.proofs.request.ask_mount.Goals as goal

pub returns-in-Ok-clause-makes : goal.returns-in-Ok-clause-makes
returns-in-Ok-clause-makes c =
    let w = c.in_ok-write_mount_call.ensures in
    let p = c.in-Ok.ensures in
    makes_mount c.args.path.now c.in_ok-path.path c.new-args.result c.write_mount_call.new.w c.bytes-2.result.now c.args.calls.now c.put.new.self c.in-Ok.field-0 (c.in_ok-path.ensures ∙ c.bytes.ensures) c.new-args.ensures w.ok w.spelled
    (c.bytes-2.ensures ∙ c.finish-args.ensures) p.settings p.made p.calls p.step.next p.spelled
