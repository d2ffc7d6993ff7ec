use Rattle.std.proofs.Common.{arith, ap, length}
use Rattle.export_serve.proofs.RowsLaws.{row_written, rows_written}
use Rattle.nfs_dir_calls.proofs.Pages.{writing_end}
use Rattle.export_serve.proofs.listing_results.write_plus_rows.Goals as goal

pub loop-row-preserved : goal.loop-row-preserved
loop-row-preserved c =
    let same = ap length c.rows-row-items.ensures in
    row_written _ _ _ _ _ _ _ _ _ (omega (arith, c.loop-row-test.true, same)) (rw c.rows-row-items.ensures at c.row-item.is) c.plus_entry_of.ensures.same c.loop-row.invariant c.in_ok-write_plus_entry.ensures.ok c.in_ok-write_plus_entry.ensures.spelled

pub returns-clause-ok : goal.returns-clause-ok
returns-clause-ok c =
    let same = ap length c.rows-row-items.ensures in
    writing_end _ _ _ _ _ _ (rows_written _ _ _ _ _ _ (omega (arith, c.loop-row-test.false, same)) c.loop-row.invariant) c.in_ok-flag.ensures.ok

pub returns-clause-spelled : goal.returns-clause-spelled
returns-clause-spelled c =
    let same = ap length c.rows-row-items.ensures in
    let w = rows_written _ _ _ _ _ _ (omega (arith, c.loop-row-test.false, same)) c.loop-row.invariant in
    w.spells _ c.in_ok-flag.ensures.spelled
