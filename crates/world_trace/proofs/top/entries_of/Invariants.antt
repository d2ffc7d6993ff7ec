-- The entries so far, and those of what is left, are all.
use Rattle.std.proofs.Common.{◌≡◌, ◌++◌, length, map}
use Rattle.world_link.specs.View.{entry_in}
use Rattle.world_trace.proofs.top.entries_of.Given as goal

abbrev pub invariant-loop-one : goal.invariant-loop-one
invariant-loop-one l = record {
  all : l.entries.items ++ map entry_in l.one-iterator.rest.items ≡ map entry_in l.fn.told.items;
  many : length l.one-iterator.rest.items ≡ l.one-iterator.rest.len;
}
