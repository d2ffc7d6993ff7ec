-- What a history shows of a call that waits (RFC 5531, section 9).
use Rattle.std.specs.Prelude.{◌≡◌, ◌<◌, ◌⊎◌, ℕ, suc, List, length, true, false, Some}
use Rattle.nfs_types.specs.declared.program.TheConstants.{NFS_PROGRAM}
use Rattle.rpc_message.specs.declared.cred.Cred.{Cred}
use Rattle.rpc_retry.specs.declared.waiting.Waiting.{Waiting}
use Rattle.rpc_retry.specs.Waiting.{waiting_at}
use Rattle.world_model.specs.declared.entry.Entry.{Entry}
use Rattle.world_model.specs.declared.entry.Entry.TheVariants.{Sent, Delivered}
use Rattle.world_model.specs.declared.message.Call.{Call}
use Rattle.world_model.specs.declared.op.Op.{Op}
use Rattle.world_model.specs.Entries.{At}
use Rattle.world_model.specs.Lost.{FailedAttempt}
use Rattle.world_model.specs.Messages.{HasXid, SpellsCallBy, proc_of, program_of}
use Rattle.world_model.specs.Waiting.{FirstSent}
use Rattle.op_machines.specs.declared.machine.Machine.{Machine}
use Rattle.client_core.specs.declared.lane.Purpose.{Purpose}
use Rattle.client_core.specs.declared.setup.Setup.{Setup}
use Rattle.client_core.specs.View.{View}
use Rattle.core_facts.specs.Reaches.{Reaches}

-- no record under the xid was sent
abbrev pub IsUnsent : List Entry → ℕ → Type 0
IsUnsent h xid = (i : ℕ) (bytes : List ℕ) → At h i (Sent bytes) → HasXid bytes xid → ⊥

-- The record was first sent at the place `at`; each that was sent under its xid is equal to it; and none under the xid came since.
pub record IsOutstanding (h : List Entry) (xid : ℕ) (bytes : List ℕ) (at : ℕ) : Type 0 where
  pub sent : FirstSent h at xid bytes
  pub equal : (i : ℕ) (other : List ℕ) → At h i (Sent other) → HasXid other xid → other ≡ bytes
  pub unheard : (j : ℕ) (reply : List ℕ) → At h j (Delivered reply) → HasXid reply xid → at < j → ⊥

-- So many attempts of a call failed, one after the other: the first began at the place `from`, the last had failed by the place `to`.
pub data FailedTries (h : List Entry) (xid : ℕ) : ℕ → ℕ → ℕ → Type 0 where
  one : (n from to : ℕ) → n ≡ 1 → FailedAttempt h xid from to → FailedTries h xid n from to
  more : (n from to m at : ℕ) → n ≡ suc m → FailedTries h xid m from at → FailedAttempt h xid at to → FailedTries h xid n from to

-- The attempt with the number n runs: it was sent at the place `at`, and each before it failed.
pub record IsRunning (h : List Entry) (xid n from : ℕ) : Type 0 where
  pub at : ℕ
  pub bytes : List ℕ
  pub sent : At h at (Sent bytes)
  pub under : HasXid bytes xid
  pub failed : ((n ≡ 1) × (at ≡ from)) ⊎ ((m : ℕ) × (n ≡ suc m) × FailedTries h xid m from at)

-- A call that waits wasn't sent yet, or an attempt of it runs, or each that was made has failed.
pub data Tried (h : List Entry) (xid : ℕ) (call : Waiting Purpose) : Type 0 where
  unsent : call.attempts ≡ 0 → IsUnsent h xid → Tried h xid call
  runs : (from : ℕ) → call.running ≡ true → IsOutstanding h xid call.bytes from → IsRunning h xid call.attempts from → Tried h xid call
  ended : (from : ℕ) → call.running ≡ false → IsOutstanding h xid call.bytes from → FailedTries h xid call.attempts from (length h) → Tried h xid call

-- Its record is a call of NFS under the xid, made with the session's credential, of the procedure for which it waits.
pub record IsMade (cred : Cred) (xid : ℕ) (call : Waiting Purpose) : Type 0 where
  pub asked : Call
  pub spells : SpellsCallBy cred xid asked call.bytes
  pub nfs : program_of asked ≡ NFS_PROGRAM
  pub proc : call.purpose.proc ≡ proc_of asked

pub record IsKnown (setup : Setup) (h : List Entry) (xid : ℕ) (call : Waiting Purpose) : Type 0 where
  pub tried : Tried h xid call
  pub made : IsMade setup.cred xid call

-- Each call that waits in the core is one that the history shows.
abbrev pub WaitingKnown : Type 0
WaitingKnown = (machine_of : ℕ → Op → Machine) (setup : Setup) (h : List Entry) (v : View) → Reaches machine_of setup h v
    → (xid : ℕ) (call : Waiting Purpose) → waiting_at xid v.calls.calls ≡ Some call → IsKnown setup h xid call
