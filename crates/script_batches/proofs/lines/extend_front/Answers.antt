use Rattle.std.proofs.Common.{◌-◌, ◌++◌, ℕ, List, ap, ◌∙◌, arith}
use Rattle.script_batches.proofs.Kept.{filled-up}
use Rattle.script_batches.proofs.lines.extend_front.Goals as goal

pub returns : goal.returns
returns c =
    let room = c.requires in
    let long = c.len-room.ensures in
    c.in_ok-extend_from_slice.ensures.items
    ∙ ap (λ (t : List ℕ). c.args.text.now.items ++ t) c.split_at.ensures.front
    ∙ filled-up c.args.text.now.items c.args.bytes.now (1048577 - c.len-room.result) c.min.result (omega (arith, room, long)) c.min.ensures
