-- What an honest server is to a client that comes after another one (RFC 5531, section 9: a reply has the xid of its call).
use Rattle.std.specs.Prelude.{◌≡◌, ◌≤◌, ◌<◌, ℕ, true, List, ◌++◌, length}
use Rattle.world_model.specs.declared.entry.Entry.{Entry}
use Rattle.world_model.specs.declared.entry.Entry.TheVariants.{Sent, Executed, Delivered}
use Rattle.world_model.specs.declared.message.Call.{Call}
use Rattle.world_model.specs.declared.message.Reply.{Reply}
use Rattle.world_model.specs.Entries.{At}
use Rattle.world_model.specs.Fresh.{Fresh}
use Rattle.world_model.specs.History.{History}
use Rattle.world_model.specs.Lawful.{Lawful}
use Rattle.world_model.specs.Messages.{HasXid}
use Rattle.world_model.specs.Once.{Once}
use Rattle.anew_link.specs.Anew.{is_own, since}

-- From the place first on, no call is executed and no record comes under the xid of a call that was sent before.
pub record IsApart (first : ℕ) (h : List Entry) : Type 0 where
  pub executed : (q n xid : ℕ) (bytes : List ℕ) (call : Call) (reply : Reply) → q < first → first ≤ n → At h q (Sent bytes) → HasXid bytes xid
      → At h n (Executed xid call reply) → ⊥
  pub delivered : (q n xid : ℕ) (bytes came : List ℕ) → q < first → first ≤ n → At h q (Sent bytes) → HasXid bytes xid → At h n (Delivered came)
      → HasXid came xid → ⊥

-- A history as a client sees it that comes after the first part: it has those entries, and is as lawful. Its servers are those of the whole; and those of the
-- first part are those until a moment before the client did anything.
pub record Seen (first : List Entry) (t : History) : Type 0 where
  pub seen : History
  pub entries : seen.entries ≡ since first t.entries
  pub lawful : Lawful seen
  pub once : Once t.entries → Once seen.entries
  pub fresh : Fresh t → Fresh seen
  pub shows : (m : ℕ) → m ≤ length seen.entries → (n : ℕ) × n ≤ length t.entries × (seen.at m ≡ t.at n)
  pub shown : (n : ℕ) → n ≤ length t.entries → (m : ℕ) × m ≤ length seen.entries × (seen.at m ≡ t.at n)
  pub until : ℕ
  pub within : until ≤ length seen.entries
  pub early : (m : ℕ) (e : Entry) → At seen.entries m e → is_own e ≡ true → until ≤ m
  pub before : (n : ℕ) → n ≤ length first → (m : ℕ) × m ≤ until × (seen.at m ≡ t.at n)

abbrev pub LaterClientsSee : Type 0
LaterClientsSee = (t : History) (first more : List Entry) → t.entries ≡ first ++ more → Lawful t → IsApart (length first) t.entries → Seen first t
