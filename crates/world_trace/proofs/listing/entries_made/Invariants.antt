-- The entries so far, and those after the last cookie, are all.
use Rattle.std.proofs.Common.{◌≡◌, ◌++◌, length, map, slice_get}
use Rattle.export_fs.specs.Pages.{rows_after}
use Rattle.export_fs.specs.Parts.{rows_in}
use Rattle.export_fs.specs.Seen.{entry_of}
use Rattle.trace_data.specs.Histories.{listed_of}
use Rattle.world_trace.proofs.listing.entries_made.Given as goal

abbrev pub invariant-loop-row : goal.invariant-loop-row
invariant-loop-row l = map listed_of l.entries.items ++ map entry_of (rows_after l.cookie (rows_in (slice_get l.export.nodes l.place))) ≡ map entry_of (rows_in (slice_get l.export.nodes l.place))

abbrev pub decreases-loop-row : goal.decreases-loop-row
decreases-loop-row l = length (rows_after l.cookie (rows_in (slice_get l.export.nodes l.place)))
