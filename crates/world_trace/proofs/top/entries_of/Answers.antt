-- Entry after entry.
use Rattle.std.proofs.Common.{◌≡◌, ◌∷◌, length, ap, ◌∙◌, arith}
use Rattle.world_trace.proofs.Leading.{none-taken, one-taken, all-taken}
use Rattle.world_trace.proofs.top.entries_of.Goals as goal

pub loop-one-init : goal.loop-one-init
loop-one-init c =
    let gives = c.into_iter-one-iterator.ensures.into_iter_gives in
    let same : length c.into_iter-one-iterator.result.rest.items ≡ length c.args.told.items = ap length gives.0 in
    record {
      all = none-taken c.new-entries.result.items c.into_iter-one-iterator.result.rest.items c.args.told.items c.new-entries.ensures.items gives.0;
      many = omega (arith, same, gives.1, c.args.told.ok.0);
    }

pub loop-one-preserved : goal.loop-one-preserved
loop-one-preserved c =
    let steps = c.in-Some.ensures.steps in
    let more : length c.loop-one.one-iterator.rest.items ≡ length (c.in-Some.one ∷ c.next.new.self.rest.items) = ap length steps.0 in
    record {
      all = one-taken c.loop-one.entries.items c.push.new.self.items c.in-Some.one c.loop-one.one-iterator.rest.items c.next.new.self.rest.items c.args.told.items c.in_ok-push.ensures.items steps.0 c.loop-one.invariant.all;
      many = omega (arith, more, steps.1, c.loop-one.invariant.many);
    }

pub returns : goal.returns
returns c = all-taken c.loop-one.entries.items c.loop-one.one-iterator.rest.items c.args.told.items (c.loop-one.invariant.many ∙ c.in-None.ensures.steps.0) c.loop-one.invariant.all
