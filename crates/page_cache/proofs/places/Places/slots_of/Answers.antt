use Rattle.page_cache.proofs.Runs.{ends-in_order, is-run}
use Rattle.page_cache.proofs.places.Places.slots_of.Goals as goal

pub slice_bounds-result-start : goal.slice_bounds-result-start
slice_bounds-result-start c =
    let ends = rw (c.deref.ensures.value, c.deref-2.ensures.value) at c.run_of-from.ensures in
    ends-in_order c.args.file.now c.args.low c.args.high c.requires c.self.inside.by_slot.items c.self.inside.sorted.items c.self.invariant.0 c.run_of-from.result.0 c.run_of-from.result.1 ends

pub slice_bounds-result-count : goal.slice_bounds-result-count
slice_bounds-result-count c =
    let ends = rw (c.deref.ensures.value, c.deref-2.ensures.value) at c.run_of-from.ensures in
    ends-in_order c.args.file.now c.args.low c.args.high c.requires c.self.inside.by_slot.items c.self.inside.sorted.items c.self.invariant.0 c.run_of-from.result.0 c.run_of-from.result.1 ends

pub returns : goal.returns
returns c =
    let ends = rw (c.deref.ensures.value, c.deref-2.ensures.value) at c.run_of-from.ensures in
    rw (← c.self.view_is, c.deref-3.ensures.value)
    (is-run c.args.file.now c.args.low c.args.high c.requires c.self.inside.by_slot.items c.self.inside.sorted.items c.self.invariant.0 c.run_of-from.result.0 c.run_of-from.result.1 ends)
