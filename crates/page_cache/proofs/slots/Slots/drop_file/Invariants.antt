use Rattle.std.proofs.Common.{length}
use Rattle.page_cache.proofs.Parts.{front, others}
use Rattle.page_cache.proofs.Dropping.{Drops}
use Rattle.page_cache.proofs.slots.Slots.drop_file.Given as goal

abbrev pub invariant-loop-slot : goal.invariant-loop-slot
invariant-loop-slot l =
    Drops (length (front (others (others l.initial.self-inside)))) l.file (front (others (others l.initial.self-inside))) (front (others (others (others l.initial.self-inside)))) l.run (front (others l.initial.self-inside)).entries l.slot-index (front (others l.self-inside)).entries
