-- What the reply to a READ says (RFC 1813, section 3.3.6).
use Rattle.std.specs.Prelude.{ℕ, Bool, false, not, nat_eq, nat_lt, ◌&&◌, ◌||◌, if◌then◌else◌, List, length, Option, None, Result, Ok, Err}
use Rattle.nfs_types.specs.declared.attr.Attr.{Attr}
use Rattle.nfs_file_calls.specs.declared.owned.FileKept.TheVariants as files
use Rattle.world_model.specs.declared.answer.Fault.{Fault}
use Rattle.world_model.specs.declared.answer.Fault.TheVariants as faults
use Rattle.world_model.specs.declared.message.Reply.{Reply}
use Rattle.world_model.specs.declared.message.Reply.TheVariants as replies
use Rattle.client_shelf.specs.Busy.{is_busy}
use Rattle.file_ops.specs.declared.read_reply.ReadSaid.{ReadSaid}
use Rattle.file_ops.specs.declared.read_reply.ReadSaid.TheVariants as said

-- bytes from where they were asked for on, and whether the file ends after them; or why there are none
pub data Said : Type 0 where
  part : Option Attr → Bool → List ℕ → Said
  refusal : Option Attr → Fault → Said

-- what was said, wherever its bytes lie
abbrev pub said_of : ReadSaid → Said
said_of (said.Part attr eof bytes) = part attr eof bytes
said_of (said.Refusal attr fault) = refusal attr fault

-- data longer than asked, unlike their count, or none though the file doesn't end
abbrev pub breaks_rule : ℕ → ℕ → Bool → List ℕ → Bool
breaks_rule asked count eof bytes = nat_lt asked (length bytes) || not (nat_eq (length bytes) count) || (nat_eq (length bytes) 0 && not eof)

-- what a reply says to a READ that asked for so many bytes
abbrev pub said_by : ℕ → Reply → Said
said_by asked (replies.File (files.Read attr count eof bytes)) = if breaks_rule asked count eof bytes then refusal attr (faults.Bad 5) else part attr eof bytes
said_by asked (replies.File (files.ReadFail status attr)) = refusal attr (faults.Nfs status.0)
said_by asked reply = refusal None (faults.Bad 2)

-- what came of such a READ
abbrev pub said_to : ℕ → Result Reply Fault → Said
said_to asked (Ok reply) = said_by asked reply
said_to asked (Err fault) = refusal None fault

-- whether the server was busy
abbrev pub says_busy : Said → Bool
says_busy (part attr eof bytes) = false
says_busy (refusal attr fault) = is_busy fault
