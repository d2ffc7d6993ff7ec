use Rattle.std.proofs.lemmas.Result.{err_from_is_err_and}
use Rattle.xdr_codec.proofs.Begins.{begins_more, begins_same, begins_then}
use Rattle.nfs_dir_calls.proofs.Wrote.{wrote_then}
use Rattle.nfs_dir_calls.proofs.symlink.write_call.Goals as goal

pub returns-clause-spelled : goal.returns-clause-spelled
returns-clause-spelled c = wrote_then _ _ _ _ _ c.in_ok-write_place.ensures.spelled (wrote_then _ _ _ _ _ c.in_ok-write_set_attr.ensures.spelled (rw c.bytes.ensures at (c.in_ok-opaque.ensures.spelled 1024 (rw c.bytes.ensures c.requires))))

pub returns-in_err-opaque-clause-err : goal.returns-in_err-opaque-clause-err
returns-in_err-opaque-clause-err c =
    let p = err_from_is_err_and c.from_residual-in_err-opaque.result c.from_residual-in_err-opaque.ensures.1 in
    rw p.1 (begins_then _ _ _ (begins_then _ _ _ (begins_more _ _ _ c.in_ok-write_place.ensures.ok) (begins_more _ _ _ c.in_ok-write_set_attr.ensures.ok)) (begins_same _ _ c.in_err-opaque.ensures.err))
