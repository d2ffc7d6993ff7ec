-- If nothing goes wrong, an operation succeeds, or has a reason of its own why not.
use Rattle.std.specs.Prelude.{◌≡◌, ◌⊎◌, ℕ, List}
use Rattle.rpc_message.specs.Reply.{SpellsRefusal}
use Rattle.world_model.specs.declared.answer.Answer.{Answer}
use Rattle.world_model.specs.declared.answer.Answer.TheVariants.{Done, Refused}
use Rattle.world_model.specs.declared.answer.Fault.TheVariants as faults
use Rattle.world_model.specs.declared.answer.Value.{Value}
use Rattle.world_model.specs.declared.entry.Entry.{Entry}
use Rattle.world_model.specs.declared.entry.Entry.TheVariants.{Executed, Delivered}
use Rattle.world_model.specs.declared.message.Call.{Call}
use Rattle.world_model.specs.declared.message.Reply.{Reply}
use Rattle.world_model.specs.declared.op.Op.{Op}
use Rattle.claims.specs.Asks.{Asks}
use Rattle.world_model.specs.Entries.{At}
use Rattle.claims.specs.GoesOn.{GoesOn}
use Rattle.world_model.specs.Heard.{status_of}
use Rattle.world_model.specs.History.{History}
use Rattle.world_model.specs.Lawful.{Lawful}
use Rattle.world_model.specs.Lost.{IsLost}
use Rattle.world_model.specs.Operations.{Ended}
use Rattle.claims.specs.Terms.{Terms}
use Rattle.world_model.specs.Operations.{UnderWay}
use Rattle.world_model.specs.Waiting.{FirstSent, Answers}

-- Each operation that asks for the call goes on from this status of any reply to it. It was under way when the call under
-- this xid was first sent.
abbrev pub AllGoOn : Terms → List Entry → ℕ → Call → ℕ → Type 0
AllGoOn terms h xid call status = (at got lane x : ℕ) (sent bytes : List ℕ) (op : Op) → FirstSent h at xid sent → UnderWay h lane x at op
    → Asks terms h x at op call → Answers h got xid bytes → GoesOn terms h x got op call status

-- The server is honest, and the session isn't lost. Each call is executed with status 0, or operations go on from its status.
-- RPC refuses none.
pub record Undisturbed (terms : Terms) (t : History) : Type 0 where
  pub lawful : Lawful t
  pub kept : (n : ℕ) → IsLost t.entries n → ⊥
  pub done : (n xid : ℕ) (call : Call) (reply : Reply) → At t.entries n (Executed xid call reply)
      → (status_of reply ≡ 0) ⊎ AllGoOn terms t.entries xid call (status_of reply)
  pub unrefused : (n xid code : ℕ) (bytes : List ℕ) → At t.entries n (Delivered bytes) → SpellsRefusal xid code bytes → ⊥

-- an answer that is no refusal by the server, the network or the link
pub data IsOwn (answer : Answer) : Type 0 where
  done : (value : Value) → answer ≡ Done value → IsOwn answer
  slot : answer ≡ Refused faults.Slot → IsOwn answer
  mode : answer ≡ Refused faults.Mode → IsOwn answer
  kind : answer ≡ Refused faults.Kind → IsOwn answer
  many : answer ≡ Refused faults.Many → IsOwn answer
  spent : answer ≡ Refused faults.Spent → IsOwn answer
  memory : answer ≡ Refused faults.Memory → IsOwn answer

-- In a session that nothing disturbs each operation succeeds, or has one of these reasons why not: its slot is taken or free;
-- it has no right; it finds no file, or too many names; no calls are left, or no memory.
abbrev pub Completes : Terms → History → Type 0
Completes terms t = Undisturbed terms t → (lane x y : ℕ) (op : Op) (answer : Answer) → Ended t.entries lane x op y answer → IsOwn answer
