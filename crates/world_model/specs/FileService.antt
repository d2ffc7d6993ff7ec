-- What a server may answer with status 0 to a call on a file, and what the call changes (RFC 1813, section 3.3). If
-- several outcomes are left, the server may choose.
use Rattle.std.specs.Prelude.{◌≡◌, ◌≢◌, ◌≤◌, ◌⊎◌, ◌+◌, ℕ, Bool, true, List, length, take, Option, Some, None, ◌==◌, if◌then◌else◌, ⊤}
use Rattle.nfs_types.specs.declared.attr.Attr.{Attr}
use Rattle.nfs_types.specs.declared.status.Status.{Status}
use Rattle.nfs_types.specs.declared.verf.Verf.{Verf}
use Rattle.nfs_types.specs.declared.wcc.Wcc.{Wcc}
use Rattle.nfs_types.specs.declared.set_attr.SetAttr.{SetAttr}
use Rattle.world_model.specs.Bytes.{resized, put_at, part, committed_part}
use Rattle.world_model.specs.Server.{Holds, Bytes, Object, Server}
use Rattle.world_model.specs.Steps.{Only, Turns, Looks, TrueOf, TrueWcc}

-- a file of these bytes becomes one of those, and nothing else happens
pub record Puts (s t : Server) (f now stable later steady : List ℕ) : Type 0 where
  pub file : Object
  pub held : file.holds ≡ Bytes now stable
  pub turns : Turns s t f file (Bytes later steady)
  pub only : Only (λ other. other ≡ f) s t

-- GETATTR, section 3.3.1
pub record GetsAttr (s t : Server) (f : List ℕ) (attr : Attr) : Type 0 where
  pub looks : Looks s t f
  pub shows : TrueOf t f (Some attr)

-- a call that reads an object and shows perhaps its attributes: ACCESS, section 3.3.4, FSSTAT, FSINFO and PATHCONF,
-- sections 3.3.18 to 3.3.20
pub record Asks (s t : Server) (f : List ℕ) (attr : Option Attr) : Type 0 where
  pub looks : Looks s t f
  pub shows : TrueOf t f attr

-- what an object holds after its size was set: a file's bytes are cut, or grow by zeros, the stable ones too
abbrev pub HoldsSized : Option ℕ → Holds → Holds → Type 0
HoldsSized None old new = new ≡ old
HoldsSized (Some size) (Bytes now stable) new = new ≡ Bytes (resized size now) (resized size stable)
HoldsSized (Some size) old new = ⊥

-- SETATTR, section 3.3.2: of what is set only the size is spoken of, since no claim needs the bits of permission or the owners
pub record SetsAttr (s t : Server) (f : List ℕ) (set : SetAttr) : Type 0 where
  pub object : Object
  pub later : Holds
  pub sized : HoldsSized set.size object.holds later
  pub turns : Turns s t f object later
  pub only : Only (λ other. other ≡ f) s t

-- READ, section 3.3.6: the bytes are those of the file, as many as are counted; none only if none was asked for, or
-- at the end; and the end only if they reach it
pub record ReadsBytes (s t : Server) (f : List ℕ) (offset count : ℕ) (attr : Option Attr) (counted : ℕ) (eof : Bool) (bytes : List ℕ) : Type 0 where
  pub now : List ℕ
  pub stable : List ℕ
  pub puts : Puts s t f now stable now stable
  pub shows : TrueOf t f attr
  pub is : bytes ≡ part offset counted now
  pub long : length bytes ≡ counted
  pub most : counted ≤ count
  pub end_ : eof ≡ true → length now ≤ offset + counted
  pub some : counted ≡ 0 → (count ≡ 0) ⊎ (eof ≡ true)

-- what is stable after a WRITE: the same bytes are put if it says that they are stable, else nothing
abbrev pub steady_after : ℕ → ℕ → List ℕ → List ℕ → List ℕ
steady_after committed offset bytes stable = if committed == 0 then stable else put_at offset bytes stable

-- WRITE, section 3.3.7: the first of its bytes, as many as are counted
pub record Writes (s t : Server) (f : List ℕ) (offset how : ℕ) (bytes : List ℕ) (wcc : Wcc) (counted committed : ℕ) (verf : Verf) : Type 0 where
  pub now : List ℕ
  pub stable : List ℕ
  pub puts : Puts s t f now stable (put_at offset (take counted bytes) now) (steady_after committed offset (take counted bytes) stable)
  pub shows : TrueWcc s t f wcc
  pub most : counted ≤ length bytes
  pub some : 1 ≤ length bytes → 1 ≤ counted
  pub firm : how ≤ committed
  pub known : committed ≤ 2
  pub verifier : verf ≡ s.verf

-- A WRITE that is refused, while a prefix of its bytes was put into the file: as a server that breaks off in the midst
-- leaves it. The same prefix may have become stable.
pub record WritesPrefix (s t : Server) (f : List ℕ) (offset : ℕ) (bytes : List ℕ) (status : Status) (wcc : Wcc) : Type 0 where
  pub now : List ℕ
  pub stable : List ℕ
  pub steady : List ℕ
  pub count : ℕ
  pub puts : Puts s t f now stable (put_at offset (take count bytes) now) steady
  pub kept : (steady ≡ stable) ⊎ (steady ≡ put_at offset (take count bytes) stable)
  pub nonzero : status.0 ≢ 0
  pub shows : TrueWcc s t f wcc

-- COMMIT, section 3.3.21: what the file holds in the range becomes stable
pub record Commits (s t : Server) (f : List ℕ) (offset count : ℕ) (wcc : Wcc) (verf : Verf) : Type 0 where
  pub now : List ℕ
  pub stable : List ℕ
  pub puts : Puts s t f now stable now (put_at offset (committed_part offset count now) stable)
  pub shows : TrueWcc s t f wcc
  pub verifier : verf ≡ s.verf
