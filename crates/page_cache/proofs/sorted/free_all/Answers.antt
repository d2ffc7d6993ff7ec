use Rattle.std.proofs.Common.{◌∙◌, sym, ap, None, set, get_or, take}
use Rattle.std.proofs.lemmas.List.{take_more}
use Rattle.page_cache.specs.Sorted.{freeing}
use Rattle.page_cache.proofs.Dropping.{freeing-more}
use Rattle.page_cache.proofs.sorted.free_all.Goals as goal

pub loop-slot-preserved : goal.loop-slot-preserved
loop-slot-preserved c =
    let slot = get_or c.args.run.now c.loop-slot.slot-index 0 in
    ap (λ h. set h slot None) c.loop-slot.invariant
    ∙ sym (freeing-more (take c.loop-slot.slot-index c.args.run.now) slot c.args.by_slot.now)
    ∙ ap (λ l. freeing l c.args.by_slot.now) (sym (take_more c.args.run.now c.loop-slot.slot-index 0 c.loop-slot-test.true))
