-- A status is read from a record only as that of a reply: what is read in place of a reply is a refusal by RPC or a rule that was broken. Nor is it read that a
-- call couldn't be made.
use Rattle.call_replies.specs.Records.{results_by, results_read, results_in}
use Rattle.call_replies.specs.Results.{dir_said, file_said, said_in}
use Rattle.core_facts.proofs.Prelude.{said_of, DirKept, FileKept, ◌≡◌, ℕ, Bool, true, false, List, length, Result, Ok, Err, refl, subst, if◌then◌else◌, nat_lt, Fault, Reply}
use Rattle.call_replies.specs.Says.{said_by}
use Rattle.client_shelf.specs.Unmade.{is_unmade, came_unmade}
use Rattle.core_facts.proofs.Faults.{FineResult}
use Rattle.nfs_dir_calls.specs.Calls.{is_dir_proc}
use Rattle.nfs_dir_calls.specs.Replies.{dir_reply_at}
use Rattle.nfs_file_calls.specs.Calls.{is_file_proc}
use Rattle.nfs_file_calls.specs.Replies.{file_reply_at}
use Rattle.rpc_message.specs.Reply.{RpcReply, Accepted, Refused, Denied, reply_at}
use Rattle.rpc_message.specs.declared.reply.ReplyFault.{ReplyFault}
use Rattle.rpc_message.specs.declared.reply.ReplyFault.TheVariants.{NotReply, Xdr}
use Rattle.world_model.specs.Rules.{most_bytes}
use Rattle.xdr_codec.specs.declared.reader.XdrFault.{XdrFault}
use Rattle.world_model.specs.declared.answer.Fault.TheVariants as faults

-- that a server answered with a status is none of them
abbrev NoStatus : Fault → Type 0
NoStatus (faults.Nfs status) = ⊥
NoStatus fault = Unit {0}

either-none : {T : Type 0} → (b : Bool) (one other : Result T Fault) → FineResult NoStatus one → FineResult NoStatus other → FineResult NoStatus (if b then one else other)
either-none true one other f g = f
either-none false one other f g = g

by-none : (reply : RpcReply) → FineResult NoStatus (results_by reply)
by-none (Accepted xid results) = tt
by-none (Refused xid stat low high) = tt
by-none (Denied xid stat first second) = tt

read-none : (reply : Result RpcReply ReplyFault) → FineResult NoStatus (results_read reply)
read-none (Ok reply) = by-none reply
read-none (Err NotReply) = tt
read-none (Err (Xdr fault)) = tt

results-none : (rec : List ℕ) → FineResult NoStatus (results_in rec)
results-none rec = either-none (nat_lt most_bytes (length rec)) (Err (faults.Bad 7)) (results_read (reply_at rec)) tt (read-none (reply_at rec))

dir-none : (said : Result DirKept XdrFault) → FineResult NoStatus (dir_said said)
dir-none (Ok reply) = tt
dir-none (Err fault) = tt

file-none : (said : Result FileKept XdrFault) → FineResult NoStatus (file_said said)
file-none (Ok reply) = tt
file-none (Err fault) = tt

in-none : (proc : ℕ) (results : List ℕ) → FineResult NoStatus (said_in proc results)
in-none proc results =
    either-none (is_dir_proc proc) (dir_said (dir_reply_at proc results)) _ (dir-none (dir_reply_at proc results))
    (either-none (is_file_proc proc) (file_said (file_reply_at proc results)) (Err (faults.Bad 2)) (file-none (file_reply_at proc results)) tt)

said-by-none : (proc : ℕ) (results : Result (List ℕ) Fault) → FineResult NoStatus results → FineResult NoStatus (said_by proc results)
said-by-none proc (Ok results) f = in-none proc results
said-by-none proc (Err fault) f = f

pub said-none : (proc : ℕ) (rec : List ℕ) (status : ℕ) → said_of proc rec ≡ Err (faults.Nfs status) → ⊥
said-none proc rec status is = subst (FineResult NoStatus) is (said-by-none proc (results_in rec) (results-none rec))

-- nor that the call couldn't be made
abbrev IsMade : Fault → Type 0
IsMade fault = is_unmade fault ≡ false

either-made : {T : Type 0} → (b : Bool) (one other : Result T Fault) → FineResult IsMade one → FineResult IsMade other → FineResult IsMade (if b then one else other)
either-made true one other f g = f
either-made false one other f g = g

by-made : (reply : RpcReply) → FineResult IsMade (results_by reply)
by-made (Accepted xid results) = tt
by-made (Refused xid stat low high) = refl
by-made (Denied xid stat first second) = refl

read-made : (reply : Result RpcReply ReplyFault) → FineResult IsMade (results_read reply)
read-made (Ok reply) = by-made reply
read-made (Err NotReply) = refl
read-made (Err (Xdr fault)) = refl

results-made : (rec : List ℕ) → FineResult IsMade (results_in rec)
results-made rec = either-made (nat_lt most_bytes (length rec)) (Err (faults.Bad 7)) (results_read (reply_at rec)) refl (read-made (reply_at rec))

dir-made : (said : Result DirKept XdrFault) → FineResult IsMade (dir_said said)
dir-made (Ok reply) = tt
dir-made (Err fault) = refl

file-made : (said : Result FileKept XdrFault) → FineResult IsMade (file_said said)
file-made (Ok reply) = tt
file-made (Err fault) = refl

in-made : (proc : ℕ) (results : List ℕ) → FineResult IsMade (said_in proc results)
in-made proc results =
    either-made (is_dir_proc proc) (dir_said (dir_reply_at proc results)) _ (dir-made (dir_reply_at proc results))
    (either-made (is_file_proc proc) (file_said (file_reply_at proc results)) (Err (faults.Bad 2)) (file-made (file_reply_at proc results)) refl)

said-by-made : (proc : ℕ) (results : Result (List ℕ) Fault) → FineResult IsMade results → FineResult IsMade (said_by proc results)
said-by-made proc (Ok results) f = in-made proc results
said-by-made proc (Err fault) f = f

came-made : (came : Result Reply Fault) → FineResult IsMade came → came_unmade came ≡ false
came-made (Ok reply) f = refl
came-made (Err fault) f = f

pub said-made : (proc : ℕ) (rec : List ℕ) → came_unmade (said_of proc rec) ≡ false
said-made proc rec = came-made (said_of proc rec) (said-by-made proc (results_in rec) (results-made rec))
