use Rattle.std.proofs.Common.{None}
use Rattle.page_cache.specs.Bytes.{cut_page}
use Rattle.page_cache.proofs.Parts.{front, others}
use Rattle.page_cache.proofs.Changing.{Changes}
use Rattle.page_cache.proofs.slots.Slots.cut_file.Given as goal

abbrev pub invariant-loop-slot : goal.invariant-loop-slot
invariant-loop-slot l =
    Changes l.file l.low None (λ index. cut_page index l.size) (front (others (others l.initial.self-inside))) (front (others (others (others l.initial.self-inside)))) l.run l.slot-index (front (others (others (others l.self-inside))))
