-- The calls of a client and the replies that it took. A reply is that of the call whose xid it has (RFC 5531, section 9).
use Rattle.std.specs.Prelude.{◌≡◌, ◌⊎◌, ◌+◌, ℕ, List, Option, Some, None}
use Rattle.world_model.specs.declared.entry.Entry.{Entry}
use Rattle.world_model.specs.declared.entry.Entry.TheVariants as entries
use Rattle.world_model.specs.declared.message.Call.{Call}
use Rattle.world_model.specs.declared.message.Reply.{Reply}
use Rattle.world_model.specs.Messages.{HasXid, SpellsCall, SpellsReply}

-- a call that waits, the moment at which it was made, and the client's time then, in milliseconds, if it had read the clock
pub record Made : Type 0 where
  pub call : Call
  pub at : ℕ
  pub time : Option ℕ

-- a reply that was taken: its call, when that was made, and the place at which the record came
pub record Taken : Type 0 where
  pub call : Call
  pub at : ℕ
  pub time : Option ℕ
  pub reply : Reply
  pub came : ℕ

-- the next xid, the calls that wait under theirs, and the replies that were taken (no code keeps these)
pub record Calls : Type 0 where
  pub next : ℕ
  pub wait : ℕ → Option Made
  pub taken : ℕ → Option Taken

-- What is known afterwards was known before.
abbrev pub Fewer : {K V : Type 0} → (K → Option V) → (K → Option V) → Type 0
Fewer {K} {V} old new = (z : K) (w : V) → new z ≡ Some w → old z ≡ Some w

-- What is known afterwards was known before, or is this of that.
abbrev pub Adds : {K V : Type 0} → (K → Option V) → (K → Option V) → K → V → Type 0
Adds {K} {V} old new k v = (z : K) (w : V) → new z ≡ Some w → (old z ≡ Some w) ⊎ ((z ≡ k) × (w ≡ v))

-- A call waits under an xid that was never used. Shown by rpc_retry.
pub record MakesCall (n : ℕ) (time : Option ℕ) (old new : Calls) : Type 0 where
  pub call : Call
  pub next : new.next ≡ old.next + 1
  pub waits : Adds old.wait new.wait old.next (record { call = call; at = n; time = time })
  pub taken : new.taken ≡ old.taken

-- A record that is sent spells a call that waits, and no other. Shown by rpc_retry and the codecs.
pub record Sends (bytes : List ℕ) (calls : Calls) : Type 0 where
  pub x : ℕ
  pub made : Made
  pub waits : calls.wait x ≡ Some made
  pub under : (z : ℕ) → HasXid bytes z → z ≡ x
  pub spells : SpellsCall x made.call bytes
  pub alone : (call : Call) → SpellsCall x call bytes → call ≡ made.call

-- The reply to a call that waits is taken. The record spells this reply to that call, and no other. Shown by rpc_retry and the codecs.
pub record Took (n : ℕ) (bytes : List ℕ) (old new : Calls) : Type 0 where
  pub x : ℕ
  pub made : Made
  pub reply : Reply
  pub waits : old.wait x ≡ Some made
  pub under : HasXid bytes x
  pub spells : SpellsReply x made.call reply bytes
  pub alone : (r : Reply) → SpellsReply x made.call r bytes → r ≡ reply
  pub next : new.next ≡ old.next
  pub gone : new.wait x ≡ None
  pub fewer : Fewer old.wait new.wait
  pub taken : Adds old.taken new.taken x (record { call = made.call; at = made.at; time = made.time; reply = reply; came = n })

-- A record that is none under a call that waits, or that refuses one at the level of RPC, is no reply; calls may be given up.
pub record Ignores (old new : Calls) : Type 0 where
  pub next : new.next ≡ old.next
  pub fewer : Fewer old.wait new.wait
  pub taken : new.taken ≡ old.taken

abbrev pub Hears : ℕ → List ℕ → Calls → Calls → Type 0
Hears n bytes old new = Ignores old new ⊎ Took n bytes old new

-- what an entry does to the calls
abbrev pub EntersCalls : ℕ → Calls → Entry → Calls → Type 0
EntersCalls n old (entries.Sent bytes) new = (new ≡ old) × Sends bytes old
EntersCalls n old (entries.Delivered bytes) new = Hears n bytes old new
EntersCalls n old entry new = new ≡ old
