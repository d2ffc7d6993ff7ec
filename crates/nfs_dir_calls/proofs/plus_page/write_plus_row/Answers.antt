use Rattle.std.proofs.lemmas.Result.{err_from_is_err_and}
use Rattle.xdr_codec.proofs.Begins.{begins_more, begins_then}
use Rattle.nfs_dir_calls.specs.PlusPages.{plus_row_of}
use Rattle.nfs_dir_calls.proofs.PlusPages.{wrote_row}
use Rattle.nfs_dir_calls.proofs.plus_page.write_plus_row.Goals as goal

pub returns-clause-spelled : goal.returns-clause-spelled
returns-clause-spelled c = wrote_row (plus_row_of c.args.entry.now) _ _ _ _ c.in_ok-write_dir_row.ensures.spelled c.in_ok-write_opt_attr.ensures.spelled c.in_ok-write_opt_handle.ensures.spelled

pub returns-in_err-write_opt_handle-clause-err : goal.returns-in_err-write_opt_handle-clause-err
returns-in_err-write_opt_handle-clause-err c =
    let p = err_from_is_err_and c.from_residual-in_err-write_opt_handle.result c.from_residual-in_err-write_opt_handle.ensures.1 in
    rw p.1 (begins_then _ _ _ (begins_then _ _ _ (begins_more _ _ _ c.in_ok-write_dir_row.ensures.ok) (begins_more _ _ _ c.in_ok-write_opt_attr.ensures.ok)) c.in_err-write_opt_handle.ensures.err)
