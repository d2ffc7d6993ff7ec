-- If nothing goes wrong, each operation succeeds, or has a reason of its own why not.
use Rattle.std.specs.Prelude.{◌≡◌, ℕ, List, []}
use Rattle.rpc_message.specs.Reply.{SpellsRefusal}
use Rattle.nfs_file_calls.specs.declared.call.FileCall.TheVariants.{Write}
use Rattle.world_model.specs.declared.answer.Answer.{Answer}
use Rattle.world_model.specs.declared.answer.Answer.TheVariants.{Refused}
use Rattle.world_model.specs.declared.answer.Fault.TheVariants as faults
use Rattle.world_model.specs.declared.entry.Entry.{Entry}
use Rattle.world_model.specs.declared.entry.Entry.TheVariants.{Sent, Executed, Delivered}
use Rattle.world_model.specs.declared.message.Call.{Call}
use Rattle.world_model.specs.declared.message.Call.TheVariants.{File}
use Rattle.world_model.specs.declared.message.Reply.{Reply}
use Rattle.world_model.specs.declared.op.Op.{Op}
use Rattle.claims.specs.Complete.{Undisturbed, IsOwn}
use Rattle.world_model.specs.Entries.{At}
use Rattle.world_model.specs.Heard.{status_of}
use Rattle.world_model.specs.History.{History}
use Rattle.world_model.specs.Lawful.{Lawful}
use Rattle.world_model.specs.Lost.{IsLost}
use Rattle.world_model.specs.Messages.{SpellsCall}
use Rattle.world_model.specs.Operations.{Ended}
use Rattle.claims.specs.Terms.{Terms}
use Rattle.op_machines.specs.declared.begun.Mounted.{Mounted}
use Rattle.op_machines.specs.Begun.{machine_of}
use Rattle.client_core.specs.declared.setup.Setup.{Setup}
use Rattle.client_core.specs.View.{View}
use Rattle.core_facts.specs.Notes.{Notes}
use Rattle.core_session.specs.calls.Whole.{GoesFrom}
use Rattle.core_session.specs.outcomes.Refusals.{IsRowed}

-- each WRITE carries a byte
abbrev pub CarriesBytes : List Entry → Type 0
CarriesBytes h = (i xid : ℕ) (bytes f : List ℕ) (offset how : ℕ) → At h i (Sent bytes) → SpellsCall xid (File (Write f offset how [])) bytes → ⊥

-- The server is honest and executes each call with status 0, the session isn't lost, and RPC refuses no call.
pub record IsServed (t : History) : Type 0 where
  pub lawful : Lawful t
  pub kept : (n : ℕ) → IsLost t.entries n → ⊥
  pub done : (n xid : ℕ) (call : Call) (reply : Reply) → At t.entries n (Executed xid call reply) → status_of reply ≡ 0
  pub unrefused : (n xid code : ℕ) (bytes : List ℕ) → At t.entries n (Delivered bytes) → SpellsRefusal xid code bytes → ⊥

-- So served, each operation succeeds, or has one of these reasons why not: its slot is taken or free; it has no right; it finds no file, or too many
-- names; no calls are left, or no memory.
abbrev pub ServedComplete : Type 0
ServedComplete = (m : Mounted) (terms : Terms) (setup : Setup) (before : List Entry) (t : History) (v : View) → GoesFrom m terms setup before t.entries v
    → Notes (machine_of m) setup t.entries v → CarriesBytes t.entries → IsServed t
    → (lane x y : ℕ) (op : Op) (answer : Answer) → Ended t.entries lane x op y answer → IsOwn answer

-- The same in a session that nothing disturbs (`claims`), if operations may go on from a status; but for refusals by a status that have no row yet.
abbrev pub UndisturbedComplete : Type 0
UndisturbedComplete = (m : Mounted) (terms : Terms) (setup : Setup) (before : List Entry) (t : History) (v : View) → GoesFrom m terms setup before t.entries v
    → Notes (machine_of m) setup t.entries v → CarriesBytes t.entries → Undisturbed terms t
    → (lane x y : ℕ) (op : Op) (answer : Answer) → ((n : ℕ) → answer ≡ Refused (faults.Nfs n) → IsRowed op (faults.Nfs n)) → Ended t.entries lane x op y answer
    → IsOwn answer
