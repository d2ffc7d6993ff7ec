use Rattle.std.proofs.Common.{drop}
use Rattle.nfs_dir_calls.specs.Pages.{Writing}
use Rattle.nfs_dir_calls.specs.PlusPages.{plus_row_bytes, SpellsPlusRow}
use Rattle.export_serve.proofs.listing_results.write_plus_rows.Given as goal

abbrev pub invariant-loop-row : goal.invariant-loop-row
invariant-loop-row l = Writing plus_row_bytes SpellsPlusRow l.page (drop l.row-index l.page) l.fn.w l.w
