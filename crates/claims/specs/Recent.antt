-- How old the names and attributes are that the client goes by: the clock's readings tell (nfs(5), acregmax and acdirmax).
use Rattle.std.specs.Prelude.{◌≡◌, ◌<◌, ◌≤◌, ℕ, false, List, [], ◌∷◌, ◌++◌, Contains, Some}
use Rattle.std.specs.Cmp.Lexicographic.{slice_cmp}
use Rattle.std.specs.List.Sorted.{IsStrictlySortedBy}
use Rattle.std.specs.Ordering.{nat_cmp}
use Rattle.nfs_types.specs.declared.attr.Attr.{Attr}
use Rattle.nfs_types.specs.declared.verf.Verf.{Verf}
use Rattle.nfs_dir_calls.specs.declared.call.DirCall.TheVariants as dirs
use Rattle.world_model.specs.declared.answer.Answer.TheVariants.{Done}
use Rattle.world_model.specs.declared.answer.Value.TheVariants as values
use Rattle.world_model.specs.declared.entry.Entry.{Entry}
use Rattle.world_model.specs.declared.message.Call.TheVariants as calls
use Rattle.world_model.specs.declared.op.Op.TheVariants as ops
use Rattle.world_model.specs.History.{History}
use Rattle.claims.specs.Modes.{Modes}
use Rattle.world_model.specs.Mounts.{Origin, Rooted}
use Rattle.world_model.specs.Server.{Object, Names}
use Rattle.world_model.specs.Names.{is_dots}
use Rattle.world_model.specs.Operations.{Ended, EndsAt, LastReply}
use Rattle.claims.specs.Slots.{Opens, PutsTo}
use Rattle.claims.specs.ReadTrue.{Within, IsYoung}

-- A moment is recent for the operation at the place x: one of the operation's own, if nothing is kept; else one that isn't
-- after the operation's end, and that the clock's readings show to be young.
pub data Recent (m : Modes) (h : List Entry) (x n : ℕ) : Type 0 where
  during : (end : ℕ) → m.longest ≡ 0 → EndsAt h x end → Within x end n → Recent m h x n
  kept : (end : ℕ) → 0 < m.longest → EndsAt h x end → n ≤ end → IsYoung m h x n → Recent m h x n

-- The path leads to the object by what directories held at moments that are recent for the operation at the place x: no
-- names lead to the root, and one name more to what a directory held under it.
pub data Walked (m : Modes) (origin : Origin) (t : History) (x : ℕ) : List (List ℕ) → List ℕ → Type 0 where
  root : (path : List (List ℕ)) (object : List ℕ) → path ≡ [] → Rooted origin t.entries x object → Walked m origin t x path object
  step : (path earlier : List (List ℕ)) (object name d : List ℕ) (n : ℕ) → path ≡ earlier ++ name ∷ [] → Walked m origin t x earlier d
      → Recent m t.entries x n → Names (t.at n) d name object → Walked m origin t x path object

-- At a moment of the operation a directory, to which the earlier names lead, held the last name with this object.
pub record FoundByName (m : Modes) (origin : Origin) (t : History) (x y : ℕ) (path : List (List ℕ)) (object : List ℕ) : Type 0 where
  pub earlier : List (List ℕ)
  pub name : List ℕ
  pub d : List ℕ
  pub n : ℕ
  pub is : path ≡ earlier ++ name ∷ []
  pub walked : Walked m origin t x earlier d
  pub moment : Within x y n
  pub named : Names (t.at n) d name object

-- The file of each open and put that succeeded had its name then.
pub record NamesTrue (m : Modes) (origin : Origin) (t : History) : Type 0 where
  pub opened : (lane slot x y : ℕ) (f : List ℕ) (o : Opens m t.entries lane slot x y f) → FoundByName m origin t x y o.path f
  pub put : (x y offset : ℕ) (f bytes : List ℕ) (p : PutsTo t.entries x y f offset bytes) → FoundByName m origin t x y p.path f

-- an object to which the path leads had these attributes at a moment that is recent
pub record HadAttr (m : Modes) (origin : Origin) (t : History) (x : ℕ) (path : List (List ℕ)) (attr : Attr) : Type 0 where
  pub object : List ℕ
  pub o : Object
  pub n : ℕ
  pub walked : Walked m origin t x path object
  pub recent : Recent m t.entries x n
  pub is : (t.at n).object object ≡ Some o
  pub had : o.attr ≡ attr

-- The attributes that a stat shows were those of the object at a recent moment.
abbrev pub AttrAge : Modes → Origin → History → Type 0
AttrAge m origin t = (lane x y : ℕ) (path : List (List ℕ)) (attr : Attr) → Ended t.entries lane x (ops.Stat path) y (Done (values.Attrs attr))
    → HadAttr m origin t x path attr

-- the directory held the name at the moment n
abbrev pub NameAt : History → ℕ → List ℕ → List ℕ → Type 0
NameAt t n d name = (object : List ℕ) × Names (t.at n) d name object

-- What a list shows of the directory: names in byte order, each once, of which the directory held each at a moment of the
-- list; and each name that it held all the while is among them.
pub record ListsNames (m : Modes) (origin : Origin) (t : History) (x y : ℕ) (path names : List (List ℕ)) : Type 0 where
  pub d : List ℕ
  pub cookie : ℕ
  pub verf : Verf
  pub dircount : ℕ
  pub maxcount : ℕ
  pub asked : LastReply t.entries y (calls.Dir (dirs.ReadDirPlus d cookie verf dircount maxcount))
  pub walked : Walked m origin t x path d
  pub ordered : IsStrictlySortedBy (slice_cmp nat_cmp) names
  pub were : (name : List ℕ) → Contains names name → (n : ℕ) × Within x y n × NameAt t n d name
  pub all : (name : List ℕ) → is_dots name ≡ false → ((n : ℕ) → Within x y n → NameAt t n d name) → Contains names name

abbrev pub ListTrue : Modes → Origin → History → Type 0
ListTrue m origin t = (lane x y : ℕ) (path names : List (List ℕ)) → Ended t.entries lane x (ops.List path) y (Done (values.Names names))
    → ListsNames m origin t x y path names
