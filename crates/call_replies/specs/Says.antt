-- What a record says of the call that it answers (RFC 5531, section 9, and RFC 1813, section 3.3).
use Rattle.std.specs.Prelude.{◌≡◌, ℕ, List, Result, Ok, Err}
use Rattle.nfs_types.specs.declared.program.TheConstants.{NFS_PROGRAM}
use Rattle.world_model.specs.declared.answer.Fault.{Fault}
use Rattle.world_model.specs.declared.message.Call.{Call}
use Rattle.world_model.specs.declared.message.Reply.{Reply}
use Rattle.world_model.specs.Messages.{SpellsReply, program_of, proc_of}
use Rattle.world_model.specs.Heard.{Refuses}
use Rattle.call_replies.specs.Records.{results_in}
use Rattle.call_replies.specs.Results.{said_in}

-- what is read from the results, if there are any
abbrev pub said_by : ℕ → Result (List ℕ) Fault → Result Reply Fault
said_by proc (Ok results) = said_in proc results
said_by proc (Err fault) = Err fault

abbrev pub said_of : ℕ → List ℕ → Result Reply Fault
said_of proc rec = said_by proc (results_in rec)

-- the call is one of this procedure of NFS
pub record IsCallOf (proc : ℕ) (call : Call) : Type 0 where
  pub nfs : program_of call ≡ NFS_PROGRAM
  pub is : proc_of call ≡ proc

-- the record spells this reply to the call, and no other
pub record SpellsOne (x : ℕ) (call : Call) (rec : List ℕ) (reply : Reply) : Type 0 where
  pub is : SpellsReply x call reply rec
  pub only : (other : Reply) → SpellsReply x call other rec → other ≡ reply

-- a reply to the call; or the call is refused by RPC, or the record breaks a rule
abbrev pub Says : ℕ → Call → List ℕ → Result Reply Fault → Type 0
Says x call rec (Ok reply) = SpellsOne x call rec reply
Says x call rec (Err fault) = Refuses x call rec fault
