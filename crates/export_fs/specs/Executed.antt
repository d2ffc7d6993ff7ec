-- What a call makes of the export, and what it is answered (RFC 1813, section 3.3).
use Rattle.std.specs.Prelude.{ℕ, ◌==◌, if◌then◌else◌}
use Rattle.nfs_file_calls.specs.declared.call.FileCall.{FileCall}
use Rattle.nfs_file_calls.specs.declared.owned.FileKept.{FileKept}
use Rattle.nfs_dir_calls.specs.declared.call.DirCall.{DirCall}
use Rattle.nfs_dir_calls.specs.declared.keeping.DirKept.{DirKept}
use Rattle.world_model.specs.declared.message.Call.{Call}
use Rattle.world_model.specs.declared.message.Call.TheVariants as calls
use Rattle.world_model.specs.declared.message.Reply.{Reply}
use Rattle.world_model.specs.declared.message.Reply.TheVariants as replies
use Rattle.export_fs.specs.View.{View}
use Rattle.export_fs.specs.Refusals.{file_refusal, dir_refusal}
use Rattle.export_fs.specs.After.{after_file, after_dir}
use Rattle.export_fs.specs.Answer.{file_answer, file_refused, dir_answer, dir_refused, mount_answer}

-- the status of a call that is refused, and 0 of another one
abbrev pub refusal : View → Call → ℕ
refusal view (calls.File call) = file_refusal view call
refusal view (calls.Dir call) = dir_refusal view call
refusal view (calls.Mount call) = 0

-- a call that is refused changes nothing
abbrev pub file_executed : View → FileCall → View × FileKept
file_executed view call =
    if file_refusal view call == 0 then (after_file view call, file_answer view (after_file view call) call)
    else (view, file_refused view.nodes (file_refusal view call) call)

abbrev pub dir_executed : View → DirCall → View × DirKept
dir_executed view call =
    if dir_refusal view call == 0 then (after_dir view call, dir_answer view (after_dir view call) call)
    else (view, dir_refused view.nodes (dir_refusal view call) call)

abbrev pub executed : View → Call → View × Reply
executed view (calls.File call) = ((file_executed view call).0, replies.File (file_executed view call).1)
executed view (calls.Dir call) = ((dir_executed view call).0, replies.Dir (dir_executed view call).1)
executed view (calls.Mount call) = (view, replies.Mount (mount_answer call))
