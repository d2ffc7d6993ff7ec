-- The path that a session mounts, if no root is given: that of the first MNT that was sent.
use Rattle.std.specs.Prelude.{◌≡◌, ◌<◌, ℕ, List, Option, Some, None}
use Rattle.mount_calls.specs.declared.call.MountCall.{MountCall}
use Rattle.mount_calls.specs.declared.call.MountCall.TheVariants as mounts
use Rattle.world_model.specs.declared.entry.Entry.{Entry}
use Rattle.world_model.specs.declared.message.Call.{Call}
use Rattle.world_model.specs.declared.message.Call.TheVariants as calls
use Rattle.world_model.specs.Messages.{SpellsCall}
use Rattle.world_model.specs.Mounts.{mount_call}
use Rattle.export_serve.specs.declared.request.Asked.{Asked}
use Rattle.export_serve.specs.declared.request.Asked.TheVariants as askings
use Rattle.trace_claims.specs.Judging.{MountsAt, FirstMount}

abbrev pub path_of : MountCall → Option (List ℕ)
path_of (mounts.Mnt path) = Some path
path_of call = None

abbrev pub path_in : Call → Option (List ℕ)
path_in (calls.Mount call) = path_of call
path_in (calls.File call) = None
path_in (calls.Dir call) = None

-- the path of an MNT that is to be executed
abbrev pub path_asked : Asked → Option (List ℕ)
path_asked (askings.Serve xid call) = path_in call
path_asked askings.NoCall = None
path_asked (askings.Refuse xid bytes) = None

-- the record is an MNT of the path that is found, if it is one
pub record FindsPath (bytes : List ℕ) (found : Option (List ℕ)) : Type 0 where
  pub sound : (path : List ℕ) → found ≡ Some path → (xid : ℕ) × SpellsCall xid (mount_call path) bytes
  pub finds : (xid : ℕ) (path : List ℕ) → SpellsCall xid (mount_call path) bytes → found ≡ Some path

-- the path of the MNT that was sent at a place, if one was
pub record FindsMount (h : List Entry) (i : ℕ) (found : Option (List ℕ)) : Type 0 where
  pub sound : (path : List ℕ) → found ≡ Some path → MountsAt h i path
  pub finds : (path : List ℕ) → MountsAt h i path → found ≡ Some path

-- none is sent before the entry n
abbrev pub NoMount : List Entry → ℕ → Type 0
NoMount h n = (j : ℕ) (other : List ℕ) → MountsAt h j other → j < n → ⊥

-- the path is that of the first MNT
abbrev pub IsMounted : List Entry → List ℕ → Type 0
IsMounted h path = (first : List ℕ) → FirstMount h first → path ≡ first
