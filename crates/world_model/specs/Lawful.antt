-- What an honest server does (RFC 1813, sections 3.3, 4.8 and 4.9; RFC 5531, section 8).
use Rattle.std.specs.Prelude.{◌≡◌, ◌≢◌, ◌<◌, ◌≤◌, ℕ, suc, List, length, Option, Some}
use Rattle.nfs_types.specs.declared.verf.Verf.{Verf}
use Rattle.rpc_message.specs.Reply.{SpellsRefusal}
use Rattle.world_model.specs.declared.entry.Entry.{Entry}
use Rattle.world_model.specs.declared.entry.Entry.TheVariants as entries
use Rattle.world_model.specs.declared.message.Call.{Call}
use Rattle.world_model.specs.declared.message.Reply.{Reply}
use Rattle.world_model.specs.Entries.{At}
use Rattle.world_model.specs.Messages.{HasXid, SpellsCall, SpellsReply}
use Rattle.world_model.specs.Rules.{most_bytes}
use Rattle.world_model.specs.Bytes.{put_at, committed_part}
use Rattle.world_model.specs.Server.{Bytes, Object, Server, IsServer, Has}
use Rattle.world_model.specs.Steps.{Same, Only, Becomes}
use Rattle.world_model.specs.Service.{Serves}
use Rattle.world_model.specs.History.{History}

-- before the place n a record that is this call under this xid was sent
pub record WasSent (h : List Entry) (n xid : ℕ) (call : Call) : Type 0 where
  pub at : ℕ
  pub bytes : List ℕ
  pub before : at < n
  pub sent : At h at (entries.Sent bytes)
  pub spells : SpellsCall xid call bytes

-- A range of a file becomes stable by itself, as by a COMMIT (RFC 1813, section 3.3.21: a count of 0 is to the end); nothing else happens.
pub record Flushes (s t : Server) (f : List ℕ) (start count : ℕ) : Type 0 where
  pub file : Object
  pub now : List ℕ
  pub stable : List ℕ
  pub has : Has s f file
  pub held : file.holds ≡ Bytes now stable
  pub is : t.object f ≡ Some (record { attr = file.attr; gone = file.gone; holds = Bytes now (put_at start (committed_part start count now) stable) })
  pub only : Only (λ other. other ≡ f) s t

-- what a restart leaves of an object: of a file the stable bytes, and of all else what it was
pub data IsLeft (old new : Option Object) : Type 0 where
  same : new ≡ old → IsLeft old new
  lost : (o p : Object) (now stable : List ℕ) → old ≡ Some o → new ≡ Some p → o.holds ≡ Bytes now stable → now ≢ stable → Becomes o p (Bytes stable stable)
      → IsLeft old new

-- a file whose bytes are all stable
abbrev pub IsSteady : Option Object → Type 0
IsSteady object = (o : Object) (now stable : List ℕ) → object ≡ Some o → o.holds ≡ Bytes now stable → now ≡ stable

-- The server restarts with a write verifier that it never had, and its files hold their stable bytes.
pub record Restarts (h : History) (n : ℕ) (s t : Server) (verf : Verf) : Type 0 where
  pub verifier : t.verf ≡ verf
  pub new : (m : ℕ) → m ≤ n → (h.at m).verf ≢ verf
  pub left : (f : List ℕ) → IsLeft (s.object f) (t.object f)
  pub steady : (f : List ℕ) → IsSteady (t.object f)

-- A record that came is the reply to a call that was executed under its xid, or refuses a call that was sent.
pub data IsReplied (h : List Entry) (n : ℕ) (bytes : List ℕ) : Type 0 where
  replied : (m xid : ℕ) (call : Call) (reply : Reply) → m < n → At h m (entries.Executed xid call reply) → SpellsReply xid call reply bytes
      → IsReplied h n bytes
  refused : (m xid code : ℕ) (record_sent : List ℕ) → m < n → At h m (entries.Sent record_sent) → HasXid record_sent xid → SpellsRefusal xid code bytes
      → IsReplied h n bytes

pub record Delivers (h : List Entry) (n : ℕ) (s t : Server) (bytes : List ℕ) : Type 0 where
  pub same : Same s t
  pub most : length bytes ≤ most_bytes
  pub is : IsReplied h n bytes

-- the entry at the place n, from the server s to t
abbrev pub LawfulAt : History → ℕ → Entry → Server → Server → Type 0
LawfulAt h n (entries.Executed xid call reply) s t = WasSent h.entries n xid call × Serves s call reply t
LawfulAt h n (entries.Foreign call reply) s t = Serves s call reply t
LawfulAt h n (entries.Flushed f start count) s t = Flushes s t f start count
LawfulAt h n (entries.Reboot verf) s t = Restarts h n s t verf
LawfulAt h n (entries.Delivered bytes) s t = Delivers h.entries n s t bytes
LawfulAt h n entry s t = Same s t

-- Each entry is what an honest server and network make; and each moment is a server.
pub record Lawful (h : History) : Type 0 where
  pub servers : (n : ℕ) → n ≤ length h.entries → IsServer (h.at n)
  pub entries : (n : ℕ) (e : Entry) → At h.entries n e → LawfulAt h n e (h.at n) (h.at (suc n))
