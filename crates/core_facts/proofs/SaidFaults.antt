-- What is read from a record, and why a call isn't made, is no fault that an operation gives by itself.
use Rattle.core_facts.proofs.Prelude.{ℕ, Bool, true, false, List, length, Result, Ok, Err, if◌then◌else◌, nat_lt, DirKept, FileKept, Fault, said_of, View}
use Rattle.call_replies.specs.Says.{said_by}
use Rattle.xdr_codec.specs.declared.reader.XdrFault.{XdrFault}
use Rattle.nfs_dir_calls.specs.Calls.{is_dir_proc}
use Rattle.nfs_dir_calls.specs.Replies.{dir_reply_at}
use Rattle.nfs_file_calls.specs.Calls.{is_file_proc}
use Rattle.nfs_file_calls.specs.Replies.{file_reply_at}
use Rattle.rpc_message.specs.declared.reply.ReplyFault.{ReplyFault}
use Rattle.rpc_message.specs.declared.reply.ReplyFault.TheVariants.{NotReply, Xdr}
use Rattle.rpc_message.specs.Reply.{RpcReply, Accepted, Refused, Denied, reply_at}
use Rattle.world_model.specs.declared.answer.Fault.TheVariants as faults
use Rattle.world_model.specs.Rules.{most_bytes}
use Rattle.call_replies.specs.Records.{results_by, results_read, results_in}
use Rattle.call_replies.specs.Results.{dir_said, file_said, said_in}
use Rattle.client_core.specs.Steps.{IsUnmade}
use Rattle.core_facts.proofs.Faults.{IsOuter, FineResult}

either-fine : {T : Type 0} → (b : Bool) (one other : Result T Fault) → FineResult IsOuter one → FineResult IsOuter other → FineResult IsOuter (if b then one else other)
either-fine true one other f g = f
either-fine false one other f g = g

by-fine : (reply : RpcReply) → FineResult IsOuter (results_by reply)
by-fine (Accepted xid results) = tt
by-fine (Refused xid stat low high) = tt
by-fine (Denied xid stat first second) = tt

read-fine : (reply : Result RpcReply ReplyFault) → FineResult IsOuter (results_read reply)
read-fine (Ok reply) = by-fine reply
read-fine (Err NotReply) = tt
read-fine (Err (Xdr fault)) = tt

results-fine : (rec : List ℕ) → FineResult IsOuter (results_in rec)
results-fine rec = either-fine (nat_lt most_bytes (length rec)) (Err (faults.Bad 7)) (results_read (reply_at rec)) tt (read-fine (reply_at rec))

dir-fine : (said : Result DirKept XdrFault) → FineResult IsOuter (dir_said said)
dir-fine (Ok reply) = tt
dir-fine (Err fault) = tt

file-fine : (said : Result FileKept XdrFault) → FineResult IsOuter (file_said said)
file-fine (Ok reply) = tt
file-fine (Err fault) = tt

in-fine : (proc : ℕ) (results : List ℕ) → FineResult IsOuter (said_in proc results)
in-fine proc results =
    either-fine (is_dir_proc proc) (dir_said (dir_reply_at proc results)) _ (dir-fine (dir_reply_at proc results))
    (either-fine (is_file_proc proc) (file_said (file_reply_at proc results)) (Err (faults.Bad 2)) (file-fine (file_reply_at proc results)) tt)

said-by-fine : (proc : ℕ) (results : Result (List ℕ) Fault) → FineResult IsOuter results → FineResult IsOuter (said_by proc results)
said-by-fine proc (Ok results) f = in-fine proc results
said-by-fine proc (Err fault) f = f

pub said-fine : (proc : ℕ) (rec : List ℕ) → FineResult IsOuter (said_of proc rec)
said-fine proc rec = said-by-fine proc (results_in rec) (results-fine rec)

pub unmade-fine : (v : View) (fault : Fault) → IsUnmade v fault → IsOuter fault
unmade-fine v faults.Lost u = u
unmade-fine v (faults.Nfs status) u = tt
unmade-fine v (faults.Rpc n) u = tt
unmade-fine v (faults.Bad rule) u = tt
unmade-fine v faults.Spent u = tt
unmade-fine v faults.Slot u = u
unmade-fine v faults.Mode u = u
unmade-fine v faults.Kind u = u
unmade-fine v faults.Many u = u
unmade-fine v faults.Memory u = tt
