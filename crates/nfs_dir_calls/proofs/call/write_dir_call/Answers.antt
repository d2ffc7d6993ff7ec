use Rattle.nfs_dir_calls.proofs.call.write_dir_call.Goals as goal

pub returns-in-Create-clause-spelled : goal.returns-in-Create-clause-spelled
returns-in-Create-clause-spelled c = rw c.in-Create.is c.write_call.ensures.spelled

pub returns-in-MkDir-clause-spelled : goal.returns-in-MkDir-clause-spelled
returns-in-MkDir-clause-spelled c = rw c.in-MkDir.is c.write_call-in-MkDir.ensures.spelled

pub returns-in-SymLink-clause-spelled : goal.returns-in-SymLink-clause-spelled
returns-in-SymLink-clause-spelled c = rw c.in-SymLink.is c.write_call-in-SymLink.ensures.spelled

pub returns-in-MkNod-clause-spelled : goal.returns-in-MkNod-clause-spelled
returns-in-MkNod-clause-spelled c = rw c.in-MkNod.is c.write_call-in-MkNod.ensures.spelled

pub returns-in-Rename-clause-spelled : goal.returns-in-Rename-clause-spelled
returns-in-Rename-clause-spelled c = rw c.in-Rename.is c.write_call-in-Rename.ensures.spelled

pub returns-in-Link-clause-spelled : goal.returns-in-Link-clause-spelled
returns-in-Link-clause-spelled c = rw c.in-Link.is c.write_call-in-Link.ensures.spelled

pub returns-in-ReadDir-clause-spelled : goal.returns-in-ReadDir-clause-spelled
returns-in-ReadDir-clause-spelled c = rw c.in-ReadDir.is c.write_call-in-ReadDir.ensures.spelled

pub returns-in-ReadDirPlus-clause-spelled : goal.returns-in-ReadDirPlus-clause-spelled
returns-in-ReadDirPlus-clause-spelled c = rw c.in-ReadDirPlus.is c.write_call-in-ReadDirPlus.ensures.spelled
