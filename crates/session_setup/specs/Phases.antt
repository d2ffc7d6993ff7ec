-- The mount, and after it FSINFO: what each leads to.
use Rattle.std.specs.Prelude.{◌≡◌, ◌<◌, ◌≤◌, ◌+◌, ◌*◌, ℕ, List, [], length, Result, Ok, Err}
use Rattle.rpc_retry.specs.Held.{Held, next_xid}
use Rattle.world_model.specs.declared.answer.Fault.{Fault}
use Rattle.world_model.specs.declared.entry.Entry.{Entry}
use Rattle.world_model.specs.Entries.{ours}
use Rattle.world_model.specs.declared.tally.Tally.{Tally}
use Rattle.world_model.specs.Counts.{tally_of}
use Rattle.world_model.specs.Heard.{Heard, Refused as WasRefused}
use Rattle.world_model.specs.Lost.{Loses}
use Rattle.world_model.specs.Mounts.{Origin, Mounting, Rooted, Sized, mount_call}
use Rattle.world_model.specs.ReadSize.{ReadSized, page_bytes}
use Rattle.session_words.specs.declared.settings.Settings.{Settings}
use Rattle.session_setup.specs.declared.opening.SetUpFault.{SetUpFault}
use Rattle.session_setup.specs.declared.opening.SetUpFault.TheVariants.{Refused, Lost, Memory}
use Rattle.session_setup.specs.declared.opening.SetUp.{SetUp}
use Rattle.session_setup.specs.declared.sizes.Sizes.{Sizes}
use Rattle.session_setup.specs.declared.stop.Stop.{Stop}
use Rattle.session_setup.specs.declared.stop.Stop.TheVariants as stops
use Rattle.session_setup.specs.Exchanges.{IsBase, IsIdle}
use Rattle.session_setup.specs.Sendings.{info_xid}

-- the same first xid, limit and credential, and at most one call more
pub record KeepsTerms (old new : Held (Unit {0})) : Type 0 where
  pub first_xid : new.first_xid ≡ old.first_xid
  pub limit : new.limit ≡ old.limit
  pub cred : new.cred ≡ old.cred
  pub least : old.made ≤ new.made
  pub most : new.made ≤ old.made + 1

-- sizes that a session can go by
pub record AreSizes (rsize wsize : ℕ) : Type 0 where
  pub read : 1 ≤ rsize
  pub most_read : rsize ≤ 65536
  pub pages : page_bytes < rsize → (count : ℕ) × (rsize ≡ page_bytes * count)
  pub write : 1 ≤ wsize
  pub most_write : wsize ≤ 65536

-- the session is lost after these calls
pub record IsLostBy (origin : Origin) (tally : Tally) (c : Held (Unit {0})) (h : List Entry) : Type 0 where
  pub base : IsBase origin c h
  pub loses : Loses h (length h)
  pub counts : tally ≡ tally_of h

-- the numbers if so many calls of FSINFO were made, and no others of NFS
abbrev pub tally_after : ℕ → Tally
tally_after calls = record { calls = calls; getattr = 0; lookup = 0; read = 0; write = 0; commit = 0 }

-- why the session isn't set up
abbrev pub fault_after : Stop → ℕ → SetUpFault
fault_after stops.Lost calls = Lost (tally_after calls)
fault_after stops.Memory calls = Memory

-- ---- the mount

pub record IsMounted (path root : List ℕ) (c : Held (Unit {0})) (h : List Entry) : Type 0 where
  pub idle : IsIdle (Mounting path) c h
  pub next : next_xid c ≡ c.first_xid + 1
  pub rooted : Rooted (Mounting path) h (length h) root

pub record IsMountRefused (path : List ℕ) (fault : Fault) (c : Held (Unit {0})) (h : List Entry) : Type 0 where
  pub base : IsBase (Mounting path) c h
  pub refused : WasRefused h 0 (length h) (mount_call path) fault

pub record IsMountLost (path : List ℕ) (tally : Tally) (c : Held (Unit {0})) (h : List Entry) : Type 0 where
  pub lost : IsLostBy (Mounting path) tally c h
  pub unheard : (other : List ℕ) (xid : ℕ) (bytes : List ℕ) → Heard h 0 (length h) (mount_call other) xid bytes → ⊥

abbrev pub MountsTo : List ℕ → Held (Unit {0}) → Result (List ℕ) SetUpFault → List Entry → Type 0
MountsTo path c (Ok root) k = IsMounted path root c k
MountsTo path c (Err (Refused fault)) k = IsMountRefused path fault c k
MountsTo path c (Err (Lost tally)) k = IsMountLost path tally c k
MountsTo path c (Err Memory) k = IsBase (Mounting path) c k

-- nothing was sent before
abbrev pub Mounts : List ℕ → Held (Unit {0}) → Held (Unit {0}) → Result (List ℕ) SetUpFault → List Entry → List Entry → Type 0
Mounts path old new result h k = ours h ≡ [] → old.calls ≡ [] → old.made ≡ 0 → MountsTo path new result k

-- ---- the sizes

pub record IsInformed (origin : Origin) (root : List ℕ) (rsize wsize : ℕ) (v : Sizes) (c : Held (Unit {0})) (h : List Entry) : Type 0 where
  pub idle : IsIdle origin c h
  pub read : ReadSized h (length h) root rsize v.rsize
  pub write : Sized h (length h) root wsize v.wsize
  pub tally : tally_of h ≡ tally_after 1

abbrev pub InformsTo : Origin → List ℕ → ℕ → ℕ → Held (Unit {0}) → Result Sizes SetUpFault → List Entry → Type 0
InformsTo origin root rsize wsize c (Ok v) k = IsInformed origin root rsize wsize v c k
InformsTo origin root rsize wsize c (Err (Refused fault)) k = ⊥
InformsTo origin root rsize wsize c (Err (Lost tally)) k = IsLostBy origin tally c k
InformsTo origin root rsize wsize c (Err Memory) k = IsBase origin c k

-- the root is known before, and the next call is FSINFO
abbrev pub Informs : List ℕ → ℕ → ℕ → Held (Unit {0}) → Held (Unit {0}) → Result Sizes SetUpFault → List Entry → List Entry → Type 0
Informs root rsize wsize old new result h k = (origin : Origin) → IsIdle origin old h → Rooted origin h (length h) root
    → next_xid old ≡ info_xid origin old.first_xid
    → InformsTo origin root rsize wsize new result k

-- ---- both together

pub record IsFinished (origin : Origin) (s : Settings) (v : SetUp) (c : Held (Unit {0})) (h : List Entry) : Type 0 where
  pub idle : IsIdle origin c h
  pub rooted : Rooted origin h (length h) v.root
  pub read : ReadSized h (length h) v.root s.rsize v.rsize
  pub write : Sized h (length h) v.root s.wsize v.wsize
  pub next : v.next_xid ≡ next_xid c
  pub tally : v.tally ≡ tally_of h

abbrev pub FinishesTo : Origin → List ℕ → Settings → Held (Unit {0}) → Result SetUp SetUpFault → List Entry → Type 0
FinishesTo origin root s c (Ok v) k = IsFinished origin s v c k
FinishesTo origin root s c (Err (Refused fault)) k = ⊥
FinishesTo origin root s c (Err (Lost tally)) k = IsLostBy origin tally c k × Rooted origin k (length k) root
FinishesTo origin root s c (Err Memory) k = IsBase origin c k

abbrev pub Finishes : List ℕ → Settings → Held (Unit {0}) → Held (Unit {0}) → Result SetUp SetUpFault → List Entry → List Entry → Type 0
Finishes root s old new result h k = (origin : Origin) → IsIdle origin old h → Rooted origin h (length h) root → next_xid old ≡ info_xid origin old.first_xid
    → FinishesTo origin root s new result k
