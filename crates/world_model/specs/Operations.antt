-- Operations in a history. An operation is named by the place of its Began.
use Rattle.std.specs.Prelude.{◌≡◌, ◌<◌, ◌≤◌, ℕ, List, length}
use Rattle.world_model.specs.declared.answer.Answer.{Answer}
use Rattle.world_model.specs.declared.entry.Entry.{Entry}
use Rattle.world_model.specs.declared.entry.Entry.TheVariants.{Began, Answered, Delivered}
use Rattle.world_model.specs.declared.message.Call.{Call}
use Rattle.world_model.specs.declared.message.Reply.{Reply}
use Rattle.world_model.specs.declared.op.Op.{Op}
use Rattle.world_model.specs.Entries.{At}
use Rattle.world_model.specs.Messages.{HasXid, SpellsCall, SpellsReply}
use Rattle.world_model.specs.Waiting.{FirstSent, Waits}

-- The operation that began at the place x, in this lane, was answered so at the place y: there for the first time.
pub record Ended (h : List Entry) (lane x : ℕ) (op : Op) (y : ℕ) (answer : Answer) : Type 0 where
  pub line : ℕ
  pub began : At h x (Began lane line op)
  pub answered : At h y (Answered lane line answer)
  pub later : x < y
  pub first : (j : ℕ) (a : Answer) → At h j (Answered lane line a) → x < j → y ≤ j

-- the operation was answered before the place n
pub record AnsweredBefore (h : List Entry) (x n : ℕ) : Type 0 where
  pub lane : ℕ
  pub op : Op
  pub y : ℕ
  pub answer : Answer
  pub ended : Ended h lane x op y answer
  pub before : y < n

-- an operation ends where it is answered, or else with the history
pub data EndsAt (h : List Entry) (x n : ℕ) : Type 0 where
  answered : (lane : ℕ) (op : Op) (answer : Answer) → Ended h lane x op n answer → EndsAt h x n
  unanswered : (AnsweredBefore h x (length h) → ⊥) → n ≡ length h → EndsAt h x n

-- The operation at the place x, of this lane, is under way before the place n.
pub record UnderWay (h : List Entry) (lane x n : ℕ) (op : Op) : Type 0 where
  pub line : ℕ
  pub began : At h x (Began lane line op)
  pub before : x < n
  pub unanswered : AnsweredBefore h x n → ⊥

-- The last record that came before the place n is under the xid of this call, which was sent before it came.
pub record LastReply (h : List Entry) (n : ℕ) (call : Call) : Type 0 where
  pub at : ℕ
  pub bytes : List ℕ
  pub xid : ℕ
  pub sent_at : ℕ
  pub record_sent : List ℕ
  pub got : At h at (Delivered bytes)
  pub before : at < n
  pub last : (j : ℕ) (b : List ℕ) → At h j (Delivered b) → j < n → j ≤ at
  pub under : HasXid bytes xid
  pub sent : FirstSent h sent_at xid record_sent
  pub spells : SpellsCall xid call record_sent
  pub asked : sent_at < at

-- The last record that came before the place n answers this call, and spells this reply to it. The call was first sent
-- after the place x.
pub record EndsWith (h : List Entry) (x n : ℕ) (call : Call) (reply : Reply) : Type 0 where
  pub last : LastReply h n call
  pub within : x < last.sent_at
  pub waits : Waits h last.xid last.at
  pub spells : SpellsReply last.xid call reply last.bytes

-- no record came between the places from and to
abbrev pub NoneCame : List Entry → ℕ → ℕ → Type 0
NoneCame h from to = (j : ℕ) (b : List ℕ) → At h j (Delivered b) → from < j → j < to → ⊥
