-- From which refusals an operation goes on.
use Rattle.std.specs.Prelude.{◌≡◌, ◌≢◌, ◌<◌, ◌≤◌, ◌-◌, ◌++◌, ℕ, List, [], length, All, AllPairs, Option}
use Rattle.nfs_types.specs.declared.attr.Attr.{Attr}
use Rattle.nfs_types.specs.declared.mode.Mode.TheVariants as modes
use Rattle.world_model.specs.declared.answer.Fault.{Fault}
use Rattle.world_model.specs.declared.answer.Fault.TheVariants as faults
use Rattle.world_model.specs.declared.entry.Entry.{Entry}
use Rattle.world_model.specs.declared.message.Call.{Call}
use Rattle.world_model.specs.declared.op.Op.{Op}
use Rattle.world_model.specs.declared.op.Op.TheVariants as ops
use Rattle.claims.specs.Asks.{look_up, looked_up, create_unchecked}
use Rattle.world_model.specs.Heard.{Asked, Refused}
use Rattle.claims.specs.Hidden.{IsHidden}
use Rattle.world_model.specs.Messages.{SpellsCall}
use Rattle.world_model.specs.Mounts.{Origin}
use Rattle.claims.specs.PageRules.{RefusedSo}
use Rattle.claims.specs.Paths.{PlaceOf}
use Rattle.claims.specs.Slots.{NamesFile}
use Rattle.claims.specs.Terms.{Terms, jukebox, most_tries}
use Rattle.world_model.specs.Waiting.{FirstSent}

-- the call was first sent between the places from and to
pub record MadeWithin (h : List Entry) (from to : ℕ) (call : Call) : Type 0 where
  pub at : ℕ
  pub xid : ℕ
  pub bytes : List ℕ
  pub sent : FirstSent h at xid bytes
  pub spells : SpellsCall xid call bytes
  pub after : from ≤ at
  pub before : at < to

-- at this place the call, first sent after the place x, was answered with NFS3ERR_JUKEBOX, before the place n
pub record PutOff (h : List Entry) (x n : ℕ) (call : Call) (at : ℕ) : Type 0 where
  pub refused : Refused h x n call (faults.Nfs jukebox)
  pub here : refused.heard.got_at ≡ at

-- the call was put off fewer times than it may be made again
abbrev pub FewPutOff : List Entry → ℕ → ℕ → Call → Type 0
FewPutOff h x n call = (places : List ℕ) → AllPairs (λ (a b : ℕ). a ≢ b) places → All (PutOff h x n call) places → length places < most_tries - 1

-- Of the WRITEs and COMMITs of this file within the operation, none was refused before the place n but such as are made again.
abbrev pub NoneRefused : List Entry → ℕ → ℕ → List ℕ → Type 0
NoneRefused h x n f = (call : Call) (fault : Fault) → NamesFile f call → (refused : RefusedSo h x n call fault)
    → (fault ≡ faults.Nfs jukebox) × FewPutOff h x refused.heard.got_at call

-- No name of the path before its last one has this place: its LOOKUP is none by which the path is walked.
abbrev pub IsNotOnTheWay : Origin → List Entry → ℕ → List (List ℕ) → List ℕ → List ℕ → Type 0
IsNotOnTheWay origin h n path d name = (front rest : List (List ℕ)) → path ≡ front ++ rest → rest ≢ [] → PlaceOf origin h n front d name → ⊥

-- The operation at the place x goes on if the call is answered at the place n with this status.
pub data GoesOn (terms : Terms) (h : List Entry) (x n : ℕ) (op : Op) (call : Call) (status : ℕ) : Type 0 where
  -- NFS3ERR_NOENT, 2: an open that may make its file does so, if it hasn't yet
  makes : (slot : ℕ) (path : List (List ℕ)) (d name : List ℕ) → op ≡ ops.OpenFile slot modes.C path → PlaceOf terms.origin h n path d name
      → IsNotOnTheWay terms.origin h n path d name → call ≡ look_up d name → status ≡ 2 → (MadeWithin h x n (create_unchecked d name) → ⊥)
      → GoesOn terms h x n op call status
  -- and a remove takes a hidden name that is free, and not its own, once a LOOKUP of its own name gave a file
  hides : (path : List (List ℕ)) (d last name f : List ℕ) (attr dir : Option Attr) → op ≡ ops.Remove path → PlaceOf terms.origin h n path d last
      → IsHidden name → name ≢ last → IsNotOnTheWay terms.origin h n path d name → call ≡ look_up d name → status ≡ 2
      → Asked h x n (look_up d last) (looked_up f attr dir) → GoesOn terms h x n op call status
  -- NFS3ERR_JUKEBOX: the call is made again, unless it was put off three times, or its sync was refused
  tries_again : status ≡ jukebox → FewPutOff h x n call → ((f : List ℕ) → NamesFile f call → NoneRefused h x n f) → GoesOn terms h x n op call status
