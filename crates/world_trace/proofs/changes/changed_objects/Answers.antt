-- Place after place.
use Rattle.std.proofs.Common.{◌≡◌, length, arith, subst, ℕ}
use Rattle.world_trace.specs.Mirrored.{Renewed}
use Rattle.world_trace.proofs.Mirroring.{begins, ends}
use Rattle.world_trace.proofs.changes.changed_objects.Goals as goal

pub loop-place-init : goal.loop-place-init
loop-place-init c = record {
  within = omega arith;
  many = c.count-count.ensures;
  renewed = λ old shows. begins old c.args.export.now.nodes c.args.shown.now.items c.new-objects.result.items c.new-objects.ensures.items shows;
}

pub loop-place-preserved : goal.loop-place-preserved
loop-place-preserved c = record {
  within = omega (arith, c.loop-place-test.true);
  many = c.loop-place.invariant.many;
  renewed = λ old shows. c.in_ok-renew.ensures old (c.loop-place.invariant.renewed old shows);
}

pub returns : goal.returns
returns c = λ old more shows.
    let end : c.loop-place.place ≡ length c.args.export.now.nodes = omega (arith, c.loop-place.invariant.within, c.loop-place-test.false, c.loop-place.invariant.many) in
    ends old c.args.export.now.nodes c.loop-place.shown.items c.loop-place.objects.items more
    (subst (λ (k : ℕ). Renewed k old c.args.export.now.nodes c.loop-place.shown.items c.loop-place.objects.items) end (c.loop-place.invariant.renewed old shows))
