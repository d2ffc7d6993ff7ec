use Rattle.export_serve.proofs.dir_results.write_dir_results.Goals as goal

pub returns-in-ReadDir-clause-spelled : goal.returns-in-ReadDir-clause-spelled
returns-in-ReadDir-clause-spelled c = rw c.in-ReadDir.is c.write_listing.ensures.spelled

pub returns-in-ReadDirPlus-clause-spelled : goal.returns-in-ReadDirPlus-clause-spelled
returns-in-ReadDirPlus-clause-spelled c = rw c.in-ReadDirPlus.is c.write_plus_listing.ensures.spelled
