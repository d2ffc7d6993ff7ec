use Rattle.std.proofs.Common.{drop}
use Rattle.nfs_dir_calls.specs.Pages.{Writing}
use Rattle.nfs_dir_calls.specs.DirPages.{dir_row_bytes, SpellsDirRow}
use Rattle.export_serve.proofs.listing_results.write_rows.Given as goal

abbrev pub invariant-loop-row : goal.invariant-loop-row
invariant-loop-row l = Writing dir_row_bytes SpellsDirRow l.page (drop l.row-index l.page) l.fn.w l.w
