use Rattle.std.proofs.Common.{◌∙◌, None, ap, length, arith}
use Rattle.std.proofs.lemmas.List.{length-map}
use Rattle.page_cache.specs.Sorted.{freed}
use Rattle.page_cache.proofs.Runs.{is-run, in_order, sorted-rest}
use Rattle.page_cache.proofs.Dropping.{freed-run, written-whole}
use Rattle.page_cache.proofs.sorted.free_run.Goals as goal

pub slice_bounds-free_all-start : goal.slice_bounds-free_all-start
slice_bounds-free_all-start c =
    let ends = rw (c.deref.ensures.value, c.deref-2.ensures.value) at c.run_of-from.ensures in
    in_order c.args.file.now c.args.by_slot.now.items c.args.sorted.now.items c.requires c.run_of-from.result.0 c.run_of-from.result.1 ends

pub slice_bounds-free_all-count : goal.slice_bounds-free_all-count
slice_bounds-free_all-count c =
    let ends = rw (c.deref.ensures.value, c.deref-2.ensures.value) at c.run_of-from.ensures in
    in_order c.args.file.now c.args.by_slot.now.items c.args.sorted.now.items c.requires c.run_of-from.result.0 c.run_of-from.result.1 ends

pub free_all-requires : goal.free_all-requires
free_all-requires c =
    let ends = rw (c.deref.ensures.value, c.deref-2.ensures.value) at c.run_of-from.ensures in
    rw (c.deref_mut.ensures.value, c.deref-3.ensures.value) (λ i within. (is-run c.args.file.now 0 None tt c.args.by_slot.now.items c.args.sorted.now.items c.requires c.run_of-from.result.0 c.run_of-from.result.1 ends).low_slots i within)

pub take_out-requires-clause-order : goal.take_out-requires-clause-order
take_out-requires-clause-order c =
    let ends = rw (c.deref.ensures.value, c.deref-2.ensures.value) at c.run_of-from.ensures in
    in_order c.args.file.now c.args.by_slot.now.items c.args.sorted.now.items c.requires c.run_of-from.result.0 c.run_of-from.result.1 ends

pub returns-clause-sorted : goal.returns-clause-sorted
returns-clause-sorted c =
    let ends = rw (c.deref.ensures.value, c.deref-2.ensures.value) at c.run_of-from.ensures in
    let held = c.args.by_slot.now.items in
    let now = rw (c.deref_mut.ensures.value, c.deref-3.ensures.value) at c.free_all.ensures in
    let is = now ∙ freed-run c.args.file.now held c.args.sorted.now.items c.requires c.run_of-from.result.0 c.run_of-from.result.1 ends in
    let size = ap length is ∙ length-map held (freed c.args.file.now) in
    rw (written-whole c.free_all.new.by_slot held c.args.by_slot.now.len size (omega (arith, c.args.by_slot.now.ok.0)), is, c.take_out.ensures.items)
    (sorted-rest c.args.file.now held c.args.sorted.now.items c.requires c.run_of-from.result.0 c.run_of-from.result.1 ends)

pub returns-clause-held : goal.returns-clause-held
returns-clause-held c =
    let ends = rw (c.deref.ensures.value, c.deref-2.ensures.value) at c.run_of-from.ensures in
    let held = c.args.by_slot.now.items in
    let now = rw (c.deref_mut.ensures.value, c.deref-3.ensures.value) at c.free_all.ensures in
    let is = now ∙ freed-run c.args.file.now held c.args.sorted.now.items c.requires c.run_of-from.result.0 c.run_of-from.result.1 ends in
    let size = ap length is ∙ length-map held (freed c.args.file.now) in
    written-whole c.free_all.new.by_slot held c.args.by_slot.now.len size (omega (arith, c.args.by_slot.now.ok.0)) ∙ is
