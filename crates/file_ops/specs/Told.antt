-- What replies come to for an operation. A reply that doesn't fit the call is answered badly.
use Rattle.std.specs.Prelude.{ℕ, List, Option, Result, Ok, Err}
use Rattle.nfs_types.specs.declared.attr.Attr.{Attr}
use Rattle.nfs_dir_calls.specs.declared.keeping.DirKept.TheVariants as dirs
use Rattle.nfs_file_calls.specs.declared.owned.FileKept.TheVariants as files
use Rattle.world_model.specs.declared.answer.Fault.{Fault}
use Rattle.world_model.specs.declared.answer.Fault.TheVariants.{Nfs, Bad}
use Rattle.world_model.specs.declared.message.Reply.{Reply}
use Rattle.world_model.specs.declared.message.Reply.TheVariants.{File, Dir}

-- the object that LOOKUP found
abbrev pub found_by : Result Reply Fault → Result (List ℕ) Fault
found_by (Ok (Dir (dirs.Lookup found attr dir))) = Ok found
found_by (Ok (Dir (dirs.LookupFail status dir))) = Err (Nfs status.0)
found_by (Ok reply) = Err (Bad 2)
found_by (Err fault) = Err fault

-- the file that CREATE made, if it gives the file handle
abbrev pub made_by : Result Reply Fault → Result (Option (List ℕ)) Fault
made_by (Ok (Dir (dirs.Create found attr wcc))) = Ok found
made_by (Ok (Dir (dirs.CreateFail status wcc))) = Err (Nfs status.0)
made_by (Ok reply) = Err (Bad 2)
made_by (Err fault) = Err fault

-- the attributes that GETATTR got
abbrev pub got_by : Result Reply Fault → Result Attr Fault
got_by (Ok (File (files.GetAttr attr))) = Ok attr
got_by (Ok (File (files.GetAttrFail status))) = Err (Nfs status.0)
got_by (Ok reply) = Err (Bad 2)
got_by (Err fault) = Err fault
