-- What came of a call: the reply, or why there is none.
use Rattle.std.specs.Prelude.{Result, Ok, Err}
use Rattle.nfs_dir_calls.specs.Kept as dirs
use Rattle.nfs_file_calls.specs.Replies as files
use Rattle.world_model.specs.declared.answer.Fault.{Fault}
use Rattle.world_model.specs.declared.message.Reply.{Reply}
use Rattle.world_model.specs.declared.message.Reply.TheVariants as replies
use Rattle.client_shelf.specs.declared.turn.Came.{Came}
use Rattle.client_shelf.specs.declared.turn.Came.TheVariants as came

abbrev pub reply_of : Came → Result Reply Fault
reply_of (came.File reply) = Ok (replies.File (files.kept_of reply))
reply_of (came.Dir reply) = Ok (replies.Dir (dirs.kept_of reply))
reply_of (came.Refused fault) = Err fault
