-- The entries so far, and those after the last cookie, are all.
use Rattle.std.proofs.Common.{◌≡◌, ◌++◌, map, slice_get, take}
use Rattle.export_fs.specs.Pages.{rows_after}
use Rattle.export_fs.specs.Parts.{rows_in}
use Rattle.export_fs.specs.Seen.{entry_of}
use Rattle.trace_data.specs.Histories.{listed_of}
use Rattle.world_trace.proofs.listing.lists.Given as goal

abbrev pub invariant-loop-entry : goal.invariant-loop-entry
invariant-loop-entry l =
    map listed_of (take l.entry-index l.entries) ++ map entry_of (rows_after l.cookie (rows_in (slice_get l.export.nodes l.place))) ≡ map entry_of (rows_in (slice_get l.export.nodes l.place))
