-- The object at a place is shown as it is.
use Rattle.std.proofs.Common.{◌≡◌}
use Rattle.world_trace.proofs.Mirroring.{keeps, moves, on-ok-then, small}
use Rattle.world_trace.proofs.changes.renew.Goals as goal

pub returns-then-is_shown : goal.returns-then-is_shown
returns-then-is_shown c = λ old r.
    keeps c.args.place old c.args.export.now.nodes c.args.shown.now.items c.args.objects.now.items c.requires (rw c.as_slice.ensures.value at (c.is_shown.ensures c.if-is_shown.true)) r

pub returns : goal.returns
returns c = on-ok-then c.show.result c.show.ensures (λ shown old r.
    moves c.args.place old c.args.export.now.nodes c.args.shown.now.items c.show.new.shown.items c.args.objects.now.items c.push.new.self.items c.in_ok-object.object c.in_ok-again.field-0 c.handle_of.result
    (small c.args.export.now c.is_kept.ensures.sound c.args.place c.requires) c.in_ok-object.ensures c.in_ok-again.ensures c.handle_of.ensures c.in_ok-push.ensures.items (shown r.many) r)
