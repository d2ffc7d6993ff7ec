use Rattle.std.proofs.Common.{◌∙◌}
use Rattle.session_setup.proofs.Requests.{makes_info}
use Rattle.session_setup.proofs.request.ask_sizes.Goals as goal

pub returns-in-Ok-clause-makes : goal.returns-in-Ok-clause-makes
returns-in-Ok-clause-makes c =
    let w = c.in_ok-write_file_call.ensures in
    let p = c.in-Ok.ensures in
    makes_info c.args.root c.new-args.result c.write_file_call.new.w c.bytes.result.now c.args.calls.now c.put.new.self c.in-Ok.field-0 c.new-args.ensures w.spelled (c.bytes.ensures ∙ c.finish-args.ensures) p.settings p.made p.calls p.step.next
    p.spelled
