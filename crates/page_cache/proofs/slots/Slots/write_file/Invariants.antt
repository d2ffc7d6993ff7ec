use Rattle.std.proofs.Common.{Some}
use Rattle.page_cache.specs.Bytes.{put_page}
use Rattle.page_cache.proofs.Parts.{front, others}
use Rattle.page_cache.proofs.Changing.{Changes}
use Rattle.page_cache.proofs.slots.Slots.write_file.Given as goal

abbrev pub invariant-loop-slot : goal.invariant-loop-slot
invariant-loop-slot l =
    Changes l.file l.low (Some l.high) (λ index. put_page index l.offset l.bytes) (front (others (others l.initial.self-inside))) (front (others (others (others l.initial.self-inside)))) l.run l.slot-index (front (others (others (others l.self-inside))))
