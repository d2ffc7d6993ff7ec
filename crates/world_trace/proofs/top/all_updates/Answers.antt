-- Entry after entry.
use Rattle.std.proofs.Common.{◌≡◌, ℕ, length, map, refl, ap, ◌∙◌, arith, subst, slice_get, Some}
use Rattle.std.proofs.lemmas.Option.{slice_get_read}
use Rattle.world_link.specs.Replay.{part_at}
use Rattle.world_link.specs.View.{entry_in}
use Rattle.world_trace.specs.Traced.{Follows}
use Rattle.world_trace.proofs.Leading.{nothing-yet, goes-on, entry-at}
use Rattle.world_trace.proofs.top.all_updates.Goals as goal

pub loop-place-init : goal.loop-place-init
loop-place-init c = record {
  within = omega arith;
  goes = λ shows. (refl, shows, nothing-yet (part_at c.args.partials.now) c.args.export.now (map entry_in c.args.told.now) c.new-updates.result.items c.new-updates.ensures.items);
}

pub loop-place-preserved : goal.loop-place-preserved
loop-place-preserved c =
    let at : slice_get c.args.told.now c.loop-place.place ≡ Some c.index-told-place.result =
    slice_get_read c.args.told.now (length c.args.told.now) c.loop-place.place c.index-told-place.result refl c.loop-place-test.true c.index-told-place.is in
    record {
      within = omega (arith, c.loop-place-test.true);
      goes = λ shows. let g = c.loop-place.invariant.goes shows in
          goes-on (part_at c.args.partials.now) c.args.export.now (map entry_in c.args.told.now) c.loop-place.updates.items c.push.new.self.items c.loop-place.place _ _ c.loop-place.export _ _ _
          (entry-at c.args.told.now c.loop-place.place c.index-told-place.result at) c.part_at-part.ensures g.0 (c.in_ok-next.ensures g.1) c.in_ok-push.ensures.items g.2;
    }

pub returns : goal.returns
returns c = λ shows.
    let end : c.loop-place.place ≡ length c.args.told.now = omega (arith, c.loop-place.invariant.within, c.loop-place-test.false) in
    subst (λ (k : ℕ). Follows (part_at c.args.partials.now) c.args.export.now (map entry_in c.args.told.now) c.loop-place.updates.items k) end (c.loop-place.invariant.goes shows).2
