-- At a place that is there, or at the end.
use Rattle.std.proofs.Common.{◌≡◌, ◌<◌, length, arith}
use Rattle.world_trace.proofs.Mirroring.{put, push}
use Rattle.world_trace.proofs.changes.show.Goals as goal

pub returns-then-place-len : goal.returns-then-place-len
returns-then-place-len c = λ le.
    let lt : c.args.place < length c.args.shown.now.items = omega (arith, c.if-place-len.true, c.len.ensures, c.args.shown.now.ok.0) in
    put c.args.place c.args.object c.args.shown.now.items lt

pub returns-in_ok-push : goal.returns-in_ok-push
returns-in_ok-push c = λ le.
    let end : c.args.place ≡ length c.args.shown.now.items = omega (arith, le, c.if-place-len.false, c.len.ensures, c.args.shown.now.ok.0) in
    push c.args.place c.args.object c.args.shown.now.items c.push.new.self.items end c.in_ok-push.ensures.items
