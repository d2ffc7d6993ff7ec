-- To which object a path leads, by what the client was told (RFC 1813, section 3.3.3).
use Rattle.std.specs.Prelude.{◌≡◌, ℕ, List, [], ◌∷◌, ◌++◌, Option}
use Rattle.nfs_types.specs.declared.attr.Attr.{Attr}
use Rattle.nfs_dir_calls.specs.declared.call.DirCall.TheVariants as dirs
use Rattle.nfs_dir_calls.specs.declared.keeping.DirKept.TheVariants as found
use Rattle.world_model.specs.declared.entry.Entry.{Entry}
use Rattle.world_model.specs.declared.message.Call.TheVariants as calls
use Rattle.world_model.specs.declared.message.Reply.TheVariants as replies
use Rattle.world_model.specs.Heard.{Asked}
use Rattle.world_model.specs.Mounts.{Origin, Rooted}

-- Before the place n the path leads to the object: no names lead to the root; and one name more to what a LOOKUP of it
-- was answered with, in a directory to which the names before it lead.
pub data Leads (origin : Origin) (h : List Entry) (n : ℕ) : List (List ℕ) → List ℕ → Type 0 where
  root : (path : List (List ℕ)) (object : List ℕ) → path ≡ [] → Rooted origin h n object → Leads origin h n path object
  step : (path earlier : List (List ℕ)) (object name d : List ℕ) (attr dir : Option Attr) → path ≡ earlier ++ name ∷ [] → Leads origin h n earlier d
      → Asked h 0 n (calls.Dir (dirs.Lookup d name)) (replies.Dir (found.Lookup object attr dir)) → Leads origin h n path object
