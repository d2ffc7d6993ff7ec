-- What the reply to a WRITE says of the bytes that were sent, and the reply to a COMMIT (RFC 1813, sections 3.3.7 and 3.3.21).
use Rattle.std.specs.Prelude.{ℕ, ◌==◌, nat_lt, ◌||◌, if◌then◌else◌, Option, None, Result, Ok, Err}
use Rattle.nfs_types.specs.declared.attr.Attr.{Attr}
use Rattle.nfs_types.specs.declared.wcc.Wcc.{Wcc}
use Rattle.nfs_types.specs.declared.verf.Verf.{Verf}
use Rattle.nfs_file_calls.specs.declared.owned.FileKept.{FileKept}
use Rattle.nfs_file_calls.specs.declared.owned.FileKept.TheVariants as files
use Rattle.world_model.specs.declared.answer.Fault.{Fault}
use Rattle.world_model.specs.declared.answer.Fault.TheVariants.{Nfs, Bad}
use Rattle.world_model.specs.declared.message.Reply.{Reply}
use Rattle.world_model.specs.declared.message.Reply.TheVariants as replies
use Rattle.file_ops.specs.declared.judging.WriteTold.{WriteTold}
use Rattle.file_ops.specs.declared.judging.WriteTold.TheVariants as told

-- Bytes were sent to be written in this way: rule 3 is that the reply's way is allowed, rule 4 that it counts some of them.
abbrev pub written_by : ℕ → ℕ → Wcc → ℕ → ℕ → Verf → WriteTold
written_by how size wcc count committed verf =
    if nat_lt committed how || nat_lt 2 committed then told.Fails (Bad 3) else if (count == 0) || nat_lt size count then told.Fails (Bad 4)
    else told.Done wcc count committed verf

-- a reply that isn't one to a WRITE says nothing
abbrev pub write_told_by : ℕ → ℕ → FileKept → WriteTold
write_told_by how size (files.Write wcc count committed verf) = written_by how size wcc count committed verf
write_told_by how size (files.WriteFail status wcc) = told.Refused status.0
write_told_by how size reply = told.Fails (Bad 2)

abbrev pub write_told : ℕ → ℕ → Result Reply Fault → WriteTold
write_told how size (Ok (replies.File reply)) = write_told_by how size reply
write_told how size (Ok reply) = told.Fails (Bad 2)
write_told how size (Err fault) = told.Fails fault

-- the verifier of a COMMIT that was done
abbrev pub commit_told_by : FileKept → Result Verf Fault
commit_told_by (files.Commit wcc verf) = Ok verf
commit_told_by (files.CommitFail status wcc) = Err (Nfs status.0)
commit_told_by reply = Err (Bad 2)

abbrev pub commit_told : Result Reply Fault → Result Verf Fault
commit_told (Ok (replies.File reply)) = commit_told_by reply
commit_told (Ok reply) = Err (Bad 2)
commit_told (Err fault) = Err fault

-- the attributes after a WRITE or a COMMIT, done or refused, if its reply gives them
abbrev pub after_by : FileKept → Option Attr
after_by (files.Write wcc count committed verf) = wcc.after
after_by (files.WriteFail status wcc) = wcc.after
after_by (files.Commit wcc verf) = wcc.after
after_by (files.CommitFail status wcc) = wcc.after
after_by reply = None

abbrev pub after_of : Result Reply Fault → Option Attr
after_of (Ok (replies.File reply)) = after_by reply
after_of (Ok reply) = None
after_of (Err fault) = None
