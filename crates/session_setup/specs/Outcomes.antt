-- What the set-up of a session comes to, as its history shows it.
use Rattle.std.specs.Prelude.{◌≡◌, ◌<◌, ◌≤◌, ◌+◌, ◌*◌, ℕ, List, length, Result, Ok, Err}
use Rattle.world_model.specs.declared.answer.Fault.{Fault}
use Rattle.world_model.specs.declared.entry.Entry.{Entry}
use Rattle.world_model.specs.declared.tally.Tally.{Tally}
use Rattle.world_model.specs.Counts.{tally_of}
use Rattle.world_model.specs.Heard.{Heard, Refused as WasRefused}
use Rattle.world_model.specs.Lost.{Loses}
use Rattle.world_model.specs.Mounts.{Origin, Rooted, Sized, mount_call}
use Rattle.world_model.specs.ReadSize.{ReadSized, page_bytes}
use Rattle.world_model.specs.Rows.{WasSent}
use Rattle.world_model.specs.Waiting.{Waits}
use Rattle.link_dials.specs.Sendings.{DialedLast, GoesToPorts}
use Rattle.session_words.specs.declared.settings.Export.{Export}
use Rattle.session_words.specs.declared.settings.Export.TheVariants as exports
use Rattle.session_words.specs.declared.settings.Settings.{Settings}
use Rattle.session_setup.specs.declared.opening.SetUp.{SetUp}
use Rattle.session_setup.specs.declared.opening.SetUpFault.{SetUpFault}
use Rattle.session_setup.specs.declared.opening.SetUpFault.TheVariants.{Refused, Lost, Memory}
use Rattle.session_setup.specs.Origins.{origin_of}
use Rattle.session_setup.specs.Sendings.{SentSo, Single, IsUnmarked}

-- ---- what it is given

-- a path that MNT can carry
abbrev pub IsMountable : Export → Type 0
IsMountable (exports.Path path) = length path ≤ 1024
IsMountable (exports.Root root) = Unit {0}

-- settings that a session can go by
pub record IsOptions (s : Settings) : Type 0 where
  pub mountable : IsMountable s.export
  pub read : 1 ≤ s.rsize
  pub most_read : s.rsize ≤ 65536
  pub write : 1 ≤ s.wsize
  pub most_write : s.wsize ≤ 65536
  pub calls : 2 ≤ s.calls

-- ---- what it gives, whatever the link tells

-- The calls that are left go on with the xids; a READ and a WRITE have 1 to 65,536 bytes, and a READ of more than a page whole pages.
pub record FitsSession (s : Settings) (first : ℕ) (v : SetUp) : Type 0 where
  pub starts : first ≤ v.next_xid
  pub total : v.next_xid + v.left ≡ first + s.calls
  pub read : 1 ≤ v.rsize
  pub most_read : v.rsize ≤ 65536
  pub pages : page_bytes < v.rsize → (count : ℕ) × (v.rsize ≡ page_bytes * count)
  pub write : 1 ≤ v.wsize
  pub most_write : v.wsize ≤ 65536

-- ---- what the history shows

-- the mount wasn't refused: there is a root, or no call of MNT was answered
pub data IsUnrefused (origin : Origin) (h : List Entry) : Type 0 where
  rooted : (root : List ℕ) → Rooted origin h (length h) root → IsUnrefused origin h
  unheard : ((path : List ℕ) (xid : ℕ) (bytes : List ℕ) → Heard h 0 (length h) (mount_call path) xid bytes → ⊥) → IsUnrefused origin h

-- The root and the sizes are known, by what the server said. No call waits; each xid below the next was used; and so many calls of NFS
-- were made.
pub record IsReady (s : Settings) (first next : ℕ) (v : SetUp) (h : List Entry) : Type 0 where
  pub rooted : Rooted (origin_of s.export) h (length h) v.root
  pub read : ReadSized h (length h) v.root s.rsize v.rsize
  pub write : Sized h (length h) v.root s.wsize v.wsize
  pub next_is : v.next_xid ≡ next
  pub each : (xid : ℕ) → first ≤ xid → xid < next → WasSent h xid (length h)
  pub idle : (xid : ℕ) → Waits h xid (length h) → ⊥
  pub tally : v.tally ≡ tally_of h

-- The mount of the path was refused so, by the first record that came under MNT's xid while it waited.
pub record IsRefusedSo (s : Settings) (fault : Fault) (h : List Entry) : Type 0 where
  pub path : List ℕ
  pub mounting : s.export ≡ exports.Path path
  pub refused : WasRefused h 0 (length h) (mount_call path) fault

-- The session is lost, by one of the causes that there are, and the mount wasn't refused.
pub record IsLostSo (s : Settings) (tally : Tally) (h : List Entry) : Type 0 where
  pub loses : Loses h (length h)
  pub counts : tally ≡ tally_of h
  pub unrefused : IsUnrefused (origin_of s.export) h

-- out of memory has no cause
abbrev pub EndsSo : Settings → ℕ → ℕ → Result SetUp SetUpFault → List Entry → Type 0
EndsSo s first next (Ok v) h = IsReady s first next v h
EndsSo s first next (Err (Refused fault)) h = IsRefusedSo s fault h
EndsSo s first next (Err (Lost tally)) h = IsLostSo s tally h
EndsSo s first next (Err Memory) h = Unit {0}

-- once a session is set up, what it sends goes to this port
abbrev pub ServedAt : ℕ → Result SetUp SetUpFault → List Entry → Type 0
ServedAt port (Ok v) h = DialedLast h (length h) port
ServedAt port (Err e) h = Unit {0}

-- The history of a session before its first operation: what was sent and to which ports, that nothing was noted, and what it came to.
pub record SetsUp (s : Settings) (first : ℕ) (result : Result SetUp SetUpFault) (h : List Entry) : Type 0 where
  pub next : ℕ
  pub within : next ≤ first + s.calls
  pub sent : SentSo (origin_of s.export) s.cred first next h
  pub single : Single h
  pub unmarked : IsUnmarked h
  pub ports : GoesToPorts s.mount_port s.nfs_port h
  pub served : ServedAt s.nfs_port result h
  pub ends : EndsSo s first next result h
