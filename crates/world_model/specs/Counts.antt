-- How many calls a session made: different xids among the records of NFS that were sent.
use Rattle.std.specs.Prelude.{ℕ, List, [], ◌∷◌, ◌++◌, ◌==◌, ◌&&◌, Bool, true, codes, decimal, length, Result, Ok, Err, if◌then◌else◌}
use Rattle.std.specs.List.{list_any}
use Rattle.nfs_types.specs.declared.program.TheConstants.{NFS_PROGRAM}
use Rattle.nfs_types.specs.declared.nfs_proc.TheConstants.{GETATTR, LOOKUP, READ, WRITE, COMMIT}
use Rattle.rpc_message.specs.declared.call.CallHead.{CallHead}
use Rattle.rpc_message.specs.declared.call.CallFault.{CallFault}
use Rattle.rpc_message.specs.Call.{call_at}
use Rattle.world_model.specs.declared.entry.Entry.{Entry}
use Rattle.world_model.specs.declared.entry.Entry.TheVariants.{Sent}
use Rattle.world_model.specs.declared.tally.Tally.{Tally}

-- which calls are counted: all, or those of one procedure
pub data Counted : Type 0 where
  Every : Counted
  Only : (proc : ℕ) → Counted

abbrev pub counts_proc : Counted → ℕ → Bool
counts_proc Every proc = true
counts_proc (Only counted) proc = proc == counted

-- a call of NFS, of such a procedure
abbrev pub counts_head : Counted → CallHead → Bool
counts_head which head = (head.prog == NFS_PROGRAM) && counts_proc which head.proc

-- a record that is such a call gives its xid
abbrev pub xid_counted : Counted → Result (CallHead × List ℕ) CallFault → List ℕ
xid_counted which (Ok call) = if counts_head which call.0 then call.0.xid ∷ [] else []
xid_counted which (Err f) = []

-- the xids of such calls, in the order of their sending
abbrev pub xids_sent : Counted → List Entry → List ℕ
xids_sent which [] = []
xids_sent which (Sent bytes ∷ es) = xid_counted which (call_at bytes) ++ xids_sent which es
xids_sent which (e ∷ es) = xids_sent which es

-- the numbers of a list, each once
abbrev pub different : List ℕ → List ℕ
different [] = []
different (x ∷ xs) = if list_any (λ y. y == x) xs then different xs else x ∷ different xs

-- how many such calls were made
abbrev pub calls_made : Counted → List Entry → ℕ
calls_made which h = length (different (xids_sent which h))

-- the numbers of a session's last line
abbrev pub tally_of : List Entry → Tally
tally_of h =
    record {
      calls = calls_made Every h;
      getattr = calls_made (Only GETATTR) h;
      lookup = calls_made (Only LOOKUP) h;
      read = calls_made (Only READ) h;
      write = calls_made (Only WRITE) h;
      commit = calls_made (Only COMMIT) h;
    }

-- a word, a space and a number
unfoldable pub item_text : List ℕ → ℕ → List ℕ
item_text word number = word ++ codes " " ++ decimal number

-- the line that shows them
unfoldable pub tally_text : Tally → List ℕ
tally_text t =
    item_text (codes "calls") t.calls ++ item_text (codes " getattr") t.getattr ++ item_text (codes " lookup") t.lookup ++ item_text (codes " read") t.read
    ++ item_text (codes " write") t.write ++ item_text (codes " commit") t.commit
    ++ codes "\n"
