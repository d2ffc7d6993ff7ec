-- The server is asked which rights it grants (RFC 1813, section 3.3.4).
use Rattle.std.specs.Prelude.{ℕ, List, Option, Some, None, Result, Ok, Err}
use Rattle.nfs_types.specs.declared.attr.Attr.{Attr}
use Rattle.nfs_file_calls.specs.declared.call.FileCall.TheVariants as files
use Rattle.nfs_file_calls.specs.declared.owned.FileKept.TheVariants as kept
use Rattle.world_model.specs.declared.answer.Fault.{Fault}
use Rattle.world_model.specs.declared.answer.Fault.TheVariants.{Nfs, Bad}
use Rattle.world_model.specs.declared.answer.Value.{Value}
use Rattle.world_model.specs.declared.answer.Value.TheVariants.{Bits}
use Rattle.world_model.specs.declared.message.Call.{Call}
use Rattle.world_model.specs.declared.message.Call.TheVariants as calls
use Rattle.world_model.specs.declared.message.Reply.{Reply}
use Rattle.world_model.specs.declared.message.Reply.TheVariants.{File}

abbrev pub access_call : ℕ → List ℕ → Call
access_call bits object = calls.File (files.Access object bits)

-- the attributes in the reply
abbrev pub access_attr : Result Reply Fault → Option Attr
access_attr (Ok (File (kept.Access attr bits))) = attr
access_attr (Ok (File (kept.AccessFail status attr))) = attr
access_attr (Ok reply) = None
access_attr (Err fault) = None

-- the rights that are granted; a reply that doesn't fit the call is answered badly
abbrev pub access_told : Result Reply Fault → Result Value Fault
access_told (Ok (File (kept.Access attr bits))) = Ok (Bits bits)
access_told (Ok (File (kept.AccessFail status attr))) = Err (Nfs status.0)
access_told (Ok reply) = Err (Bad 2)
access_told (Err fault) = Err fault
