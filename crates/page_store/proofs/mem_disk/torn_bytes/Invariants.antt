use Rattle.std.proofs.Common.{◌≡◌, take}
use Rattle.std.specs.Prelude.{reverse}
use Rattle.page_store.specs.MemDisk.{seen_by, torn_by}
use Rattle.page_store.proofs.mem_disk.torn_bytes.Given as goal

-- what the calls so far made
abbrev pub invariant-loop-call : goal.invariant-loop-call
invariant-loop-call l = record {
  whole : l.whole.items ≡ seen_by (reverse (take l.call-index l.calls));
  torn : l.torn.items ≡ torn_by (reverse (take l.call-index l.calls));
}
