-- The paths of an operation, and the place to which a path leads.
use Rattle.std.specs.Prelude.{◌≡◌, ◌+◌, ◌++◌, ℕ, List, [], ◌∷◌, length}
use Rattle.world_model.specs.declared.entry.Entry.{Entry}
use Rattle.world_model.specs.declared.op.Op.{Op}
use Rattle.world_model.specs.declared.op.Op.TheVariants as ops
use Rattle.world_model.specs.Leads.{Leads}
use Rattle.world_model.specs.Mounts.{Origin}

-- the paths that an operation names
abbrev pub paths_of : Op → List (List (List ℕ))
paths_of (ops.OpenFile slot mode path) = path ∷ []
paths_of (ops.Put path offset bytes) = path ∷ []
paths_of (ops.Stat path) = path ∷ []
paths_of (ops.Access path bits) = path ∷ []
paths_of (ops.MakeDir path) = path ∷ []
paths_of (ops.RemoveDir path) = path ∷ []
paths_of (ops.Remove path) = path ∷ []
paths_of (ops.Rename from to) = from ∷ to ∷ []
paths_of (ops.Link from to) = from ∷ to ∷ []
paths_of (ops.SymLink path target) = path ∷ []
paths_of (ops.ReadLink path) = path ∷ []
paths_of (ops.List path) = path ∷ []
paths_of op = []

-- how many names these paths have
abbrev pub names_along : List (List (List ℕ)) → ℕ
names_along [] = 0
names_along (path ∷ paths) = length path + names_along paths

-- how many names the paths of an operation have
abbrev pub names_in : Op → ℕ
names_in op = names_along (paths_of op)

-- Before the place n the path leads to this place: a name in a directory, to which the names before it lead (diropargs3,
-- RFC 1813, section 2.3.1).
pub record PlaceOf (origin : Origin) (h : List Entry) (n : ℕ) (path : List (List ℕ)) (d name : List ℕ) : Type 0 where
  pub earlier : List (List ℕ)
  pub is : path ≡ earlier ++ name ∷ []
  pub leads : Leads origin h n earlier d
