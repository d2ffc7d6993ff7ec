-- What was sent before the first operation (RFC 1813, sections 5.2.1 and 3.3.19; RFC 5531, section 9).
use Rattle.std.specs.Prelude.{◌≡◌, ◌<◌, ◌≤◌, ◌+◌, ◌==◌, ℕ, Bool, false, List, [], ◌∷◌, Option, Some, None, if◌then◌else◌}
use Rattle.rpc_message.specs.declared.cred.Cred.{Cred}
use Rattle.rpc_message.specs.Call.{xid_at}
use Rattle.world_model.specs.declared.answer.Answer.{Answer}
use Rattle.world_model.specs.declared.entry.Entry.{Entry}
use Rattle.world_model.specs.declared.entry.Entry.TheVariants.{Began, Answered, Sent, Clock}
use Rattle.world_model.specs.declared.message.Call.{Call}
use Rattle.world_model.specs.declared.op.Op.{Op}
use Rattle.claims.specs.CallsAsked.{AreSetUp}
use Rattle.world_model.specs.Entries.{At}
use Rattle.world_model.specs.Messages.{HasXid, SpellsCall, SpellsCallBy}
use Rattle.world_model.specs.Mounts.{Origin, Mounting, Given, Rooted, mount_call, info_call}
use Rattle.world_model.specs.Waiting.{Answers}

-- MNT is the first call, if there is one, and FSINFO the next.
abbrev pub info_xid : Origin → ℕ → ℕ
info_xid (Mounting path) first = first + 1
info_xid (Given root) first = first

-- The call under the xid, sent at the place i, is MNT of the path, or FSINFO of the root that is known by then.
pub data IsSetUpCall (origin : Origin) (first : ℕ) (h : List Entry) (i xid : ℕ) (call : Call) : Type 0 where
  mounts : (path : List ℕ) → origin ≡ Mounting path → call ≡ mount_call path → xid ≡ first → IsSetUpCall origin first h i xid call
  informs : (root : List ℕ) → Rooted origin h i root → call ≡ info_call root → xid ≡ info_xid origin first → IsSetUpCall origin first h i xid call

-- The record that was sent at the place i is such a call, by the session's credential.
pub record IsSetUpRecord (origin : Origin) (cred : Cred) (first : ℕ) (h : List Entry) (i : ℕ) (bytes : List ℕ) : Type 0 where
  pub xid : ℕ
  pub call : Call
  pub made : SpellsCallBy cred xid call bytes
  pub is : IsSetUpCall origin first h i xid call

-- the xid of an entry that sends a record
abbrev pub xid_sent : Entry → Option ℕ
xid_sent (Sent bytes) = xid_at bytes
xid_sent e = None

-- whether there is this number
abbrev pub is_number : ℕ → Option ℕ → Bool
is_number x None = false
is_number x (Some y) = y == x

-- how many times a record under the xid was sent
abbrev pub times_sent : ℕ → List Entry → ℕ
times_sent xid [] = 0
times_sent xid (e ∷ es) = (if is_number xid (xid_sent e) then 1 else 0) + times_sent xid es

-- the most transmissions of a call
abbrev pub most_attempts : ℕ
most_attempts = 4

-- Each record that was sent is such a call, its xid from the first on and below the next. Records of one xid are equal. None is sent
-- after a reply under its xid came while it waited, and none is sent more than four times.
pub record SentSo (origin : Origin) (cred : Cred) (first next : ℕ) (h : List Entry) : Type 0 where
  pub caused : (i : ℕ) (bytes : List ℕ) → At h i (Sent bytes) → IsSetUpRecord origin cred first h i bytes
  pub among : (i xid : ℕ) (bytes : List ℕ) → At h i (Sent bytes) → HasXid bytes xid → (first ≤ xid) × (xid < next)
  pub equal : (i j xid : ℕ) (a b : List ℕ) → At h i (Sent a) → At h j (Sent b) → HasXid a xid → HasXid b xid → a ≡ b
  pub unrepeated : (g i xid : ℕ) (reply bytes : List ℕ) → Answers h g xid reply → At h i (Sent bytes) → HasXid bytes xid → i < g
  pub few : (xid : ℕ) → times_sent xid h ≤ most_attempts

-- MNT has one xid, and so has FSINFO.
abbrev pub Single : List Entry → Type 0
Single h = (i j x y : ℕ) (a b : List ℕ) (call other : Call) → At h i (Sent a) → At h j (Sent b) → SpellsCall x call a → SpellsCall y other b
    → AreSetUp call other → x ≡ y

-- No operation began or was answered, and the clock wasn't noted.
pub record IsUnmarked (h : List Entry) : Type 0 where
  pub began : (i lane line : ℕ) (op : Op) → At h i (Began lane line op) → ⊥
  pub answered : (i lane line : ℕ) (answer : Answer) → At h i (Answered lane line answer) → ⊥
  pub clock : (i ms : ℕ) → At h i (Clock ms) → ⊥
