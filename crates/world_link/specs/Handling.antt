-- What the server makes of a record in its turn, or of a further copy of one.
use Rattle.std.specs.Prelude.{ℕ, List, [], ◌∷◌, ◌++◌, ◌==◌, length, take, min, false, Option, Some, None, if◌then◌else◌}
use Rattle.nfs_file_calls.specs.declared.call.FileCall.{FileCall}
use Rattle.nfs_file_calls.specs.declared.call.FileCall.TheVariants as files
use Rattle.world_model.specs.declared.entry.Entry.TheVariants.{Executed}
use Rattle.world_model.specs.declared.message.Call.{Call}
use Rattle.world_model.specs.declared.message.Call.TheVariants as calls
use Rattle.world_model.specs.declared.message.Reply.{Reply}
use Rattle.export_fs.specs.View.{View}
use Rattle.export_fs.specs.Executed.{executed}
use Rattle.export_fs.specs.Partial.{partly_executed}
use Rattle.export_serve.specs.declared.request.Asked.{Asked}
use Rattle.export_serve.specs.declared.request.Asked.TheVariants as askings
use Rattle.export_serve.specs.Asking.{asked_at}
use Rattle.export_serve.specs.Spelling.{reply_bytes}
use Rattle.world_link.specs.declared.broken.Broken.{Broken}
use Rattle.world_link.specs.declared.directive.PartialWrite.{PartialWrite}
use Rattle.world_link.specs.declared.directive.RequestId.{RequestId}
use Rattle.world_link.specs.declared.manner.Manner.{Manner}
use Rattle.world_link.specs.Refused.{status_for, refused_by}
use Rattle.world_link.specs.View.{ServerView}

-- a READ or WRITE of at most so many bytes; another call stays
abbrev pub shortened_file : ℕ → FileCall → FileCall
shortened_file most (files.Read file offset count) = files.Read file offset (min count most)
shortened_file most (files.Write file offset how bytes) = files.Write file offset how (take most bytes)
shortened_file most call = call

abbrev pub shortened_to : ℕ → Call → Call
shortened_to most (calls.File call) = calls.File (shortened_file most call)
shortened_to most call = call

abbrev pub shortened : Option ℕ → Call → Call
shortened None call = call
shortened (Some most) call = shortened_to most call

-- the export after a call and the reply: a reply that is given changes nothing
abbrev pub answered : Option Reply → Option ℕ → View → Call → View × Reply
answered (Some reply) limit view call = (view, reply)
answered None limit view call = executed view (shortened limit call)

-- how a WRITE breaks off, unless its status is given; a status of 0 is none
abbrev pub broken_unless : Option ℕ → Option PartialWrite → Option PartialWrite
broken_unless None (Some part) = if part.status == 0 then None else Some part
broken_unless answer part = None

abbrev pub breaks : Manner → Call → Option PartialWrite
breaks manner (calls.File (files.Write file offset how bytes)) = broken_unless manner.answer manner.partial
breaks manner call = None

abbrev pub handled : Option PartialWrite → Manner → View → Call → View × Reply
handled None manner view call = answered (refused_by (status_for manner.mount manner.answer call) call) manner.limit view call
handled (Some part) manner view call = partly_executed view call part.bytes part.status

abbrev pub answered_as : Manner → View → Call → View × Reply
answered_as manner view call = handled (breaks manner call) manner view call

-- beside an entry at a place it is kept how its call broke off, if it did
abbrev pub kept : List Broken → ℕ → Option PartialWrite → List Broken
kept partials at None = partials
kept partials at (Some part) = partials ++ record { at = at; part = part } ∷ []

-- it is told as executed
abbrev pub tells : ServerView → ℕ → Call → Option PartialWrite → View × Reply → ServerView
tells v xid call part done = record v {
  export = done.0;
  entries = v.entries ++ Executed xid call done.1 ∷ [];
  partials = kept v.partials (length v.entries) part;
}

-- the server after what a record asks for, and the record of the reply, if there is one
abbrev pub done : Manner → ServerView → Asked → ServerView × Option (List ℕ)
done manner v askings.NoCall = (v, None)
done manner v (askings.Refuse xid bytes) = (v, Some bytes)
done manner v (askings.Serve xid call) =
    if manner.lost then (v, None)
    else (tells v xid call (breaks manner call) (answered_as manner v.export call), Some (reply_bytes xid (answered_as manner v.export call).1))

-- nothing is said of how it is handled
abbrev pub plain : Manner
plain = record { lost = false; mount = None; answer = None; partial = None; limit = None }

-- a reply is ready, if there is one
abbrev pub readied : ServerView → Option (List ℕ) → ServerView
readied v None = v
readied v (Some bytes) = record v { ready = v.ready ++ bytes ∷ [] }

-- a further copy of a record is executed plainly, and its reply is ready
abbrev pub copied_record : ServerView → Option (List ℕ) → ServerView
copied_record v None = v
copied_record v (Some bytes) = readied (done plain v (asked_at bytes)).0 (done plain v (asked_at bytes)).1

-- of a transmission that wasn't made there is no copy
abbrev pub copied : ServerView → RequestId → ServerView
copied v s = copied_record v (v.sent s)

-- in order
abbrev pub all_copied : ServerView → List RequestId → ServerView
all_copied v [] = v
all_copied v (s ∷ more) = all_copied (copied v s) more
