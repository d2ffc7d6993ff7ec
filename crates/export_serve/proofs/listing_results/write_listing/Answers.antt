use Rattle.nfs_dir_calls.proofs.Wrote.{wrote_then}
use Rattle.export_serve.proofs.listing_results.write_listing.Goals as goal

pub returns-clause-spelled : goal.returns-clause-spelled
returns-clause-spelled c = wrote_then _ _ _ _ _ c.in_ok-u32.ensures.spelled (wrote_then _ _ _ _ _ c.in_ok-write_opt_attr.ensures.spelled (wrote_then _ _ _ _ _ c.in_ok-write_verf.ensures.spelled (wrote_then _ _ _ _ _ c.in_ok-write_rows.ensures.spelled c.in_ok-flag.ensures.spelled)))
