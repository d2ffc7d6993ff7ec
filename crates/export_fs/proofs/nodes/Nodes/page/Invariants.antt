use Rattle.std.proofs.Common.{◌≡◌, ◌+◌, ◌++◌, length}
use Rattle.export_fs.specs.Parts.{object, rows_in}
use Rattle.export_fs.specs.Pages.{rows_after, page_of, fitting}
use Rattle.export_fs.proofs.nodes.Nodes.page.Given as goal

abbrev pub invariant-loop-next : goal.invariant-loop-next
invariant-loop-next l = record {
  page : page_of l.self l.limit (rows_after l.cookie (rows_in (object l.self l.dir))) ≡ l.rows.items ++ fitting l.self l.limit l.used (rows_after l.at (rows_in (object l.self l.dir)));
  count : length (rows_after l.cookie (rows_in (object l.self l.dir))) ≡ length l.rows.items + length (rows_after l.at (rows_in (object l.self l.dir)));
}

abbrev pub decreases-loop-next : goal.decreases-loop-next
decreases-loop-next l = length (rows_after l.at (rows_in (object l.self l.dir)))
