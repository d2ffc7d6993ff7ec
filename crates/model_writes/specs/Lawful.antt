-- What an honest server does (RFC 1813, sections 3.3.7, 3.3.21 and 4.8).
use Rattle.std.specs.Prelude.{◌≡◌, ◌≢◌, ◌<◌, ◌≤◌, ◌⊎◌, ℕ, zero, suc, true, length, Some, None}
use Rattle.model_writes.specs.Story.{Verifier, File, Spot, Call, write, commit, resize, plain, Reply, wrote, committed, told, denied, Event, Entry, Began, Answered, Sent, Executed, Foreign, Reboot, Delivered, Failed, At, gives, Reach, Changes, Alters, Server, Told, Both}

-- a place keeps its byte, and if it was stable it stays so
pub record Keeps (old new : Server) (i : Spot) : Type 0 where
  pub verf : new.verf ≡ old.verf
  pub now : (b : ℕ) → old.now i ≡ Some b → new.now i ≡ Some b
  pub both : (b : ℕ) → Both old i b → Both new i b

-- each place keeps its byte
abbrev pub Stands : Server → Server → Type 0
Stands old new = (i : Spot) → Keeps old new i

-- a WRITE puts its first bytes; whatever else it does, a place it covers has its byte or what it had
pub record Puts (old new : Server) (call : Call) : Type 0 where
  pub verf : new.verf ≡ old.verf
  pub others : (i : Spot) → gives call i ≡ None → Keeps old new i
  pub covered : (i : Spot) (y : ℕ) → gives call i ≡ Some y → ((new.now i ≡ old.now i) ⊎ (new.now i ≡ Some y))
      × ((new.stable i ≡ old.stable i) ⊎ (new.stable i ≡ Some y))

-- A WRITE that is answered ok has put its first bytes, and made them stable if it says so.
pub record Writes (old new : Server) (call : Call) (count k : ℕ) (v : Verifier) : Type 0 where
  pub puts : Puts old new call
  pub says : v ≡ old.verf
  pub there : (i : Spot) (y : ℕ) → gives call i ≡ Some y → Reach call count i → (new.now i ≡ Some y) × (1 ≤ k → new.stable i ≡ Some y)

-- a COMMIT makes all of its file stable
pub record Commits (old new : Server) (file : File) (v : Verifier) : Type 0 where
  pub says : v ≡ old.verf
  pub verf : new.verf ≡ old.verf
  pub there : (i : Spot) → i.file ≡ file → (new.now i ≡ old.now i) × (new.stable i ≡ old.now i)
  pub others : (i : Spot) → i.file ≢ file → Keeps old new i

-- what happens from outside alters a place, or takes the file away, or keeps it
abbrev pub Meddles : Server → Event → Server → Type 0
Meddles old event new = (i : Spot) → Alters event i ⊎ ((new.gone i.file ≡ true) ⊎ Keeps old new i)

-- a call that isn't WRITE or COMMIT may take files away, and sets no size but a SETATTR of it
abbrev pub Leaves : Server → Call → Server → Type 0
Leaves old call new = (i : Spot) → Changes call i ⊎ ((new.gone i.file ≡ true) ⊎ Keeps old new i)

-- A restart leaves the stable bytes, and a write verifier that the server never had.
pub record Restarts (t : Told) (n : ℕ) : Type 0 where
  pub now : (i : Spot) → (t.at (suc n)).now i ≡ (t.at n).stable i
  pub stable : (i : Spot) → (t.at (suc n)).stable i ≡ (t.at n).stable i
  pub fresh : (m : ℕ) → m ≤ n → (t.at m).verf ≢ (t.at (suc n)).verf

-- what a call does, by its reply; a WRITE that is refused may have put bytes
abbrev pub Serves : Server → Call → Reply → Server → Type 0
Serves old (write file offset bytes how) (wrote zero count k v) new = Writes old new (write file offset bytes how) count k v
Serves old (write file offset bytes how) (wrote (suc n) count k v) new = Puts old new (write file offset bytes how)
Serves old (commit file) (committed zero v) new = Commits old new file v
Serves old (commit file) (committed (suc n) v) new = Stands old new
Serves old (resize file size) (told n) new = Leaves old (resize file size) new
Serves old (plain what) (told n) new = Leaves old (plain what) new
Serves old call reply new = ⊥

-- the call that is executed was sent before
pub record IsServed (t : Told) (n xid : ℕ) (call : Call) (reply : Reply) : Type 0 where
  pub sent_at : ℕ
  pub earlier : sent_at < n
  pub sent : At t.entries sent_at (Sent xid call)
  pub step : Serves (t.at n) call reply (t.at (suc n))

-- a record that comes is the reply to a call that was executed under its xid, or refuses one that was sent
pub record IsReplied (t : Told) (n xid : ℕ) (reply : Reply) : Type 0 where
  pub call : Call
  pub shown : ((m : ℕ) × (m < n) × At t.entries m (Executed xid call reply)) ⊎ (reply ≡ denied)
  pub sent_at : ℕ
  pub earlier : sent_at < n
  pub sent : At t.entries sent_at (Sent xid call)
  pub same : Stands (t.at n) (t.at (suc n))

abbrev pub LawfulAt : Told → ℕ → Entry → Type 0
LawfulAt t n (Executed xid call reply) = IsServed t n xid call reply
LawfulAt t n (Delivered xid reply) = IsReplied t n xid reply
LawfulAt t n Reboot = Restarts t n
LawfulAt t n (Foreign event) = Meddles (t.at n) event (t.at (suc n))
LawfulAt t n (Began lane op) = Stands (t.at n) (t.at (suc n))
LawfulAt t n (Answered lane answer) = Stands (t.at n) (t.at (suc n))
LawfulAt t n (Sent xid call) = Stands (t.at n) (t.at (suc n))
LawfulAt t n Failed = Stands (t.at n) (t.at (suc n))

-- each entry is what an honest server makes
pub record Lawful (t : Told) : Type 0 where
  pub step : (n : ℕ) (e : Entry) → At t.entries n e → LawfulAt t n e
  -- what is gone stays gone
  pub gone : (n : ℕ) (file : File) → n < length t.entries → (t.at n).gone file ≡ true → (t.at (suc n)).gone file ≡ true

-- no copy of a call is executed after its reply was taken (RFC 1813, section 4.5, leaves that to servers: a premise)
abbrev pub Once : Told → Type 0
Once t = (i n xid : ℕ) (call : Call) (r s : Reply) → At t.entries i (Delivered xid r) → At t.entries n (Executed xid call s) → n < i
