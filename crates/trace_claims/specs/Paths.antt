-- To which objects a path leads, by the replies that came.
use Rattle.std.specs.Prelude.{◌≡◌, ◌<◌, ◌⊎◌, max, ℕ, Bool, false, List, length, Option, Some, None, slice_get, if◌then◌else◌}
use Rattle.std.specs.List.{list_any}
use Rattle.std.specs.Str.{bytes_eq}
use Rattle.mount_calls.specs.declared.call.MountCall.{MountCall}
use Rattle.mount_calls.specs.declared.call.MountCall.TheVariants as mounts
use Rattle.mount_calls.specs.declared.reply.MountReply.{MountReply}
use Rattle.mount_calls.specs.declared.reply.MountReply.TheVariants as mounted
use Rattle.nfs_dir_calls.specs.declared.call.DirCall.{DirCall}
use Rattle.nfs_dir_calls.specs.declared.call.DirCall.TheVariants as dirs
use Rattle.nfs_dir_calls.specs.declared.keeping.DirKept.{DirKept}
use Rattle.nfs_dir_calls.specs.declared.keeping.DirKept.TheVariants as kept
use Rattle.world_model.specs.declared.message.Call.{Call}
use Rattle.world_model.specs.declared.message.Call.TheVariants as calls
use Rattle.world_model.specs.declared.message.Reply.{Reply}
use Rattle.world_model.specs.declared.message.Reply.TheVariants as replies
use Rattle.trace_claims.specs.declared.operations.Lead.{Lead}
use Rattle.trace_claims.specs.declared.records.Heard.{Heard}
use Rattle.trace_claims.specs.Operations.{leads_by, HasLead}

-- ---- MNT

abbrev pub mnt_path : MountCall → List ℕ → Bool
mnt_path (mounts.Mnt its) path = bytes_eq its path
mnt_path call path = false

abbrev pub mounts_path : Call → List ℕ → Bool
mounts_path (calls.Mount call) path = mnt_path call path
mounts_path (calls.File call) path = false
mounts_path (calls.Dir call) path = false

abbrev pub root_of : MountReply → Option (List ℕ)
root_of (mounted.MntOk root flavors) = Some root
root_of reply = None

abbrev pub root_in : Reply → Option (List ℕ)
root_in (replies.Mount reply) = root_of reply
root_in (replies.File reply) = None
root_in (replies.Dir reply) = None

-- the root that a reply to MNT of the path gave
abbrev pub root_by : Heard → List ℕ → Option (List ℕ)
root_by r path = if mounts_path r.call path then root_in r.reply else None

-- ---- LOOKUP

abbrev pub looked_dir : DirCall → List ℕ → Option (List ℕ)
looked_dir (dirs.Lookup d its) name = if bytes_eq its name then Some d else None
looked_dir call name = None

-- the directory of a LOOKUP of the name
abbrev pub looks_up : Call → List ℕ → Option (List ℕ)
looks_up (calls.Dir call) name = looked_dir call name
looks_up (calls.File call) name = None
looks_up (calls.Mount call) name = None

abbrev pub object_of : DirKept → Option (List ℕ)
object_of (kept.Lookup f attr dir) = Some f
object_of reply = None

-- the object that a reply to LOOKUP found
abbrev pub object_in : Reply → Option (List ℕ)
object_in (replies.Dir reply) = object_of reply
object_in (replies.File reply) = None
object_in (replies.Mount reply) = None

-- ---- lists of objects

-- the object is listed from the moment on, or from an earlier one
abbrev pub is_led : List Lead → List ℕ → ℕ → Bool
is_led ls f n = list_any (leads_by f n) ls

-- a list in which the object is led to from the moment on, and nothing else is new
pub record AddsLead (f : List ℕ) (n : ℕ) (old new : List Lead) : Type 0 where
  pub before : (i : ℕ) (l : Lead) → slice_get old i ≡ Some l → slice_get new i ≡ Some l
  pub each : (i : ℕ) (l : Lead) → slice_get new i ≡ Some l → (slice_get old i ≡ Some l) ⊎ (l ≡ record { file = f; since = n })
  pub has : HasLead new n f

-- the first k roots that replies to MNT gave
pub record RootFrom (path : List ℕ) (rs : List Heard) (k : ℕ) (l : Lead) : Type 0 where
  pub i : ℕ
  pub r : Heard
  pub low : i < k
  pub there : slice_get rs i ≡ Some r
  pub root : root_by r path ≡ Some l.file
  pub since_is : l.since ≡ r.after

pub record RootsUpTo (path : List ℕ) (rs : List Heard) (k : ℕ) (ls : List Lead) : Type 0 where
  pub each : (i : ℕ) (l : Lead) → slice_get ls i ≡ Some l → RootFrom path rs k l
  pub every : (i : ℕ) (r : Heard) (f : List ℕ) → slice_get rs i ≡ Some r → i < k → root_by r path ≡ Some f → HasLead ls r.after f

-- an object that was found in a directory of the list
pub record ObjectFrom (list : List Lead) (d f : List ℕ) (since k : ℕ) (l : Lead) : Type 0 where
  pub j : ℕ
  pub lead : Lead
  pub low : j < k
  pub there : slice_get list j ≡ Some lead
  pub dir : lead.file ≡ d
  pub is : l ≡ record { file = f; since = max lead.since since }

-- a list with the object for each of the first k that are the directory
pub record AddsObjects (list : List Lead) (d f : List ℕ) (since k : ℕ) (old new : List Lead) : Type 0 where
  pub before : (i : ℕ) (l : Lead) → slice_get old i ≡ Some l → slice_get new i ≡ Some l
  pub each : (i : ℕ) (l : Lead) → slice_get new i ≡ Some l → (slice_get old i ≡ Some l) ⊎ ObjectFrom list d f since k l
  pub every : (j : ℕ) (lead : Lead) → slice_get list j ≡ Some lead → j < k → lead.file ≡ d → HasLead new (max lead.since since) f

-- an object that a reply to LOOKUP of the name found in a directory of the list
pub record NextFrom (list : List Lead) (name : List ℕ) (rs : List Heard) (k : ℕ) (l : Lead) : Type 0 where
  pub i : ℕ
  pub r : Heard
  pub d : List ℕ
  pub f : List ℕ
  pub low : i < k
  pub there : slice_get rs i ≡ Some r
  pub looked : looks_up r.call name ≡ Some d
  pub found : object_in r.reply ≡ Some f
  pub from : ObjectFrom list d f r.after (length list) l

-- the list has what the first k replies to LOOKUP of the name found, and that alone
pub record NextUpTo (list : List Lead) (name : List ℕ) (rs : List Heard) (k : ℕ) (later : List Lead) : Type 0 where
  pub each : (i : ℕ) (l : Lead) → slice_get later i ≡ Some l → NextFrom list name rs k l
  pub every : (i : ℕ) (r : Heard) (d f : List ℕ) → slice_get rs i ≡ Some r → i < k → looks_up r.call name ≡ Some d → object_in r.reply ≡ Some f
      → (j : ℕ) (lead : Lead) → slice_get list j ≡ Some lead → lead.file ≡ d → HasLead later (max lead.since r.after) f

-- what a reply adds: the object that it found, or nothing
pub data AddsFound (list : List Lead) (name : List ℕ) (r : Heard) (old new : List Lead) : Type 0 where
  found_it : (d f : List ℕ) → looks_up r.call name ≡ Some d → object_in r.reply ≡ Some f → AddsObjects list d f r.after (length list) old new
      → AddsFound list name r old new
  found_none : ((d f : List ℕ) → looks_up r.call name ≡ Some d → object_in r.reply ≡ Some f → ⊥) → new ≡ old → AddsFound list name r old new

-- of a directory
pub data AddsObjectOf (list : List Lead) (d : List ℕ) (object : Option (List ℕ)) (since : ℕ) (old new : List Lead) : Type 0 where
  there : (f : List ℕ) → object ≡ Some f → AddsObjects list d f since (length list) old new → AddsObjectOf list d object since old new
  nowhere : object ≡ None → new ≡ old → AddsObjectOf list d object since old new

-- of one that is listed, if it is the directory
pub data AddsObject (lead : Lead) (d f : List ℕ) (since : ℕ) (old new : List Lead) : Type 0 where
  at_dir : lead.file ≡ d → AddsLead f (max lead.since since) old new → AddsObject lead d f since old new
  elsewhere : (lead.file ≡ d → ⊥) → new ≡ old → AddsObject lead d f since old new

-- a root, if there is one
pub data AddsRoot (root : Option (List ℕ)) (since : ℕ) (old new : List Lead) : Type 0 where
  rooted_at : (f : List ℕ) → root ≡ Some f → AddsLead f since old new → AddsRoot root since old new
  rootless : root ≡ None → new ≡ old → AddsRoot root since old new
