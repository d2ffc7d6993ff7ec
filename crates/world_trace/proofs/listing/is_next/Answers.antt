-- The next row is that entry.
use Rattle.std.proofs.Common.{◌≡◌, sym, ap, ◌∙◌}
use Rattle.trace_data.specs.Histories.{listed_of}
use Rattle.world_trace.proofs.listing.is_next.Goals as goal

pub returns-in-Some : goal.returns-in-Some
returns-in-Some c = λ t. record { row = c.in-Some.row; same = ap listed_of (sym (c.is_same.ensures t)) ∙ c.dir_entry.ensures; is = c.in-Some.ensures }
