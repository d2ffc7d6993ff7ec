-- How one step of a server may leave what it holds, and what replies show of it (RFC 1813, sections 2.6 and 4.8).
use Rattle.std.specs.Prelude.{◌≡◌, ℕ, List, Option, Some, None, ⊤}
use Rattle.nfs_types.specs.declared.attr.Attr.{Attr}
use Rattle.nfs_types.specs.declared.wcc.Stamp.{Stamp}
use Rattle.nfs_types.specs.declared.wcc.Wcc.{Wcc}
use Rattle.nfs_types.specs.Stamps.{stamp_of}
use Rattle.world_model.specs.Server.{Holds, Object, Server, Has}

-- ---- what stays

-- the verifier and each object stay as they were
pub record Same (s t : Server) : Type 0 where
  pub verf : t.verf ≡ s.verf
  pub object : (h : List ℕ) → t.object h ≡ s.object h

-- the verifier stays, and each object but those that these words speak of
pub record Only (these : List ℕ → Type 0) (s t : Server) : Type 0 where
  pub verf : t.verf ≡ s.verf
  pub others : (h : List ℕ) → (these h → ⊥) → t.object h ≡ s.object h

-- The object holds that afterwards. It may have other attributes: its kind and its number stay.
pub record Becomes (o p : Object) (later : Holds) : Type 0 where
  pub holds : p.holds ≡ later
  pub gone : p.gone ≡ o.gone
  pub kind : p.attr.kind ≡ o.attr.kind
  pub fileid : p.attr.fileid ≡ o.attr.fileid

-- the object under the handle h becomes one that holds that
pub record Turns (s t : Server) (h : List ℕ) (o : Object) (later : Holds) : Type 0 where
  pub has : Has s h o
  pub new : Object
  pub is : t.object h ≡ Some new
  pub becomes : Becomes o new later

-- the object under the handle h is read: it holds what it held
pub record Reads (s t : Server) (h : List ℕ) : Type 0 where
  pub object : Object
  pub turns : Turns s t h object object.holds

-- one object is read, and nothing else happens
pub record Looks (s t : Server) (h : List ℕ) : Type 0 where
  pub reads : Reads s t h
  pub only : Only (λ other. other ≡ h) s t

-- ---- what replies show

-- attributes, if a reply has them, are those of the object
abbrev pub TrueOf : Server → List ℕ → Option Attr → Type 0
TrueOf s h None = ⊤
TrueOf s h (Some attr) = (o : Object) × (s.object h ≡ Some o) × (o.attr ≡ attr)

abbrev pub TrueStamp : Server → List ℕ → Option Stamp → Type 0
TrueStamp s h None = ⊤
TrueStamp s h (Some stamp) = (o : Object) × (s.object h ≡ Some o) × (stamp_of o.attr ≡ stamp)

-- what a reply says of before is true of the server before, and of after, of the server after
pub record TrueWcc (s t : Server) (h : List ℕ) (wcc : Wcc) : Type 0 where
  pub before : TrueStamp s h wcc.before
  pub after : TrueOf t h wcc.after
