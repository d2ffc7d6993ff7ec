use Rattle.std.proofs.Common.{None, get_or, rules}
use Rattle.std.proofs.lemmas.List.Sorted.{IsPartitionPoint-from_clause}
use Rattle.page_cache.specs.Sorted.{is_before}
use Rattle.page_cache.proofs.SortedSlots.{partitioned, gap-from_point}
use Rattle.page_cache.proofs.sorted.count_before.Goals as goal

pub returns : goal.returns
returns c =
    gap-from_point c.args.by_slot.now c.args.sorted.now c.requires c.args.file.now c.args.bound c.partition_point.result c.partition_point.ensures.bound
    (IsPartitionPoint-from_clause (λ slot. is_before c.args.file.now c.args.bound (get_or c.args.by_slot.now slot None)) c.args.sorted.now c.partition_point.result c.partition_point.ensures.partitioned
    (partitioned c.args.by_slot.now c.args.sorted.now c.requires c.args.file.now c.args.bound) (λ a r q k. search rules))
