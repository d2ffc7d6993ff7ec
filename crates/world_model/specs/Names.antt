-- How a directory's list changes: names enter, leave and move (RFC 1813, sections 3.3.8 to 3.3.15).
use Rattle.std.specs.Prelude.{◌≡◌, ◌≢◌, ◌⊎◌, ◌↔◌, ◌||◌, nat_eq, ℕ, Bool, true, List, [], ◌∷◌, ◌++◌, Some}
use Rattle.std.specs.Cmp.Lexicographic.{pointwise}
use Rattle.world_model.specs.Server.{Listed, Entries, Object, Server, Lists}

-- `.` and `..`, which a list may hold
abbrev pub own_name : List ℕ
own_name = 46 ∷ []

abbrev pub parent_name : List ℕ
parent_name = 46 ∷ 46 ∷ []

abbrev pub is_dots : List ℕ → Bool
is_dots name = pointwise nat_eq name own_name || pointwise nat_eq name parent_name

-- the list doesn't hold the name
abbrev pub Lacks : List Listed → List ℕ → Type 0
Lacks entries name = (e : Listed) → Lists entries e → e.name ≢ name

-- The name enters for the object h, at any place and with any cookie, where it wasn't.
pub record Enters (name h : List ℕ) (old new : List Listed) : Type 0 where
  pub before : List Listed
  pub after : List Listed
  pub cookie : ℕ
  pub was : old ≡ before ++ after
  pub is : new ≡ before ++ record { name = name; object = h; cookie = cookie } ∷ after
  pub fresh : Lacks old name

-- The name leaves, which was that of the object h.
pub record Leaves (name h : List ℕ) (old new : List Listed) : Type 0 where
  pub before : List Listed
  pub after : List Listed
  pub cookie : ℕ
  pub was : old ≡ before ++ record { name = name; object = h; cookie = cookie } ∷ after
  pub is : new ≡ before ++ after

-- The name leaves, if it is there.
pub data Clears (name : List ℕ) (old new : List Listed) : Type 0 where
  left : (h : List ℕ) → Leaves name h old new → Clears name old new
  absent : Lacks old name → new ≡ old → Clears name old new

-- a list but for the entry `..`
abbrev pub SameButParent : List Listed → List Listed → Type 0
SameButParent old new = (e : Listed) → e.name ≢ parent_name → Lists old e ↔ Lists new e

-- a new directory has no names but `.` and `..`
abbrev pub IsBare : List Listed → Type 0
IsBare entries = (e : Listed) → Lists entries e → (e.name ≡ own_name) ⊎ (e.name ≡ parent_name)

-- some directory has a name for the object, other than `.` and `..`
pub record IsNamed (s : Server) (h : List ℕ) : Type 0 where
  pub dir : List ℕ
  pub object : Object
  pub entries : List Listed
  pub entry : Listed
  pub is : s.object dir ≡ Some object
  pub holds : object.holds ≡ Entries entries
  pub listed : Lists entries entry
  pub names : entry.object ≡ h
  pub own : entry.name ≢ own_name
  pub parent : entry.name ≢ parent_name

-- An object from which a name was taken: it holds what it held, and is gone if it has no name left.
pub record Loses (s t : Server) (h : List ℕ) : Type 0 where
  pub old : Object
  pub new : Object
  pub was : s.object h ≡ Some old
  pub is : t.object h ≡ Some new
  pub holds : new.holds ≡ old.holds
  pub kind : new.attr.kind ≡ old.attr.kind
  pub fileid : new.attr.fileid ≡ old.attr.fileid
  pub named : IsNamed t h → new.gone ≡ old.gone
  pub nameless : (IsNamed t h → ⊥) → new.gone ≡ true
