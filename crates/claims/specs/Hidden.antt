-- The names under which files wait for their last close (this client's own rule: NFS version 3 has no open files, RFC 1813,
-- section 1.5).
use Rattle.std.specs.Prelude.{◌≡◌, ◌≤◌, ◌⊎◌, ◌++◌, ℕ, List, All, length, codes, Option}
use Rattle.nfs_types.specs.declared.attr.Attr.{Attr}
use Rattle.nfs_types.specs.declared.wcc.Wcc.{Wcc}
use Rattle.nfs_dir_calls.specs.declared.call.DirCall.TheVariants as dirs
use Rattle.nfs_dir_calls.specs.declared.keeping.DirKept.TheVariants as found
use Rattle.world_model.specs.declared.entry.Entry.{Entry}
use Rattle.world_model.specs.declared.entry.Entry.TheVariants.{Began}
use Rattle.world_model.specs.declared.message.Call.TheVariants as calls
use Rattle.world_model.specs.declared.message.Reply.TheVariants as replies
use Rattle.world_model.specs.declared.op.Op.TheVariants as ops
use Rattle.world_model.specs.Entries.{At}
use Rattle.world_model.specs.Heard.{Asked}
use Rattle.world_model.specs.Mounts.{Origin}
use Rattle.claims.specs.Paths.{PlaceOf}

-- a hex digit in lower case
abbrev pub IsHexDigit : ℕ → Type 0
IsHexDigit digit = ((48 ≤ digit) × (digit ≤ 57)) ⊎ ((97 ≤ digit) × (digit ≤ 102))

-- The name is `.nfs` and eight hex digits in lower case.
pub record IsHidden (name : List ℕ) : Type 0 where
  pub digits : List ℕ
  pub is : name ≡ codes ".nfs" ++ digits
  pub eight : length digits ≡ 8
  pub hex : All IsHexDigit digits

-- The file was hidden at this place before the place n: a remove, for which LOOKUP of its name gave the file, moved it there
-- by a RENAME that was answered 0.
pub record HiddenAt (origin : Origin) (h : List Entry) (n : ℕ) (f d name : List ℕ) : Type 0 where
  pub x : ℕ
  pub lane : ℕ
  pub line : ℕ
  pub path : List (List ℕ)
  pub last : List ℕ
  pub attr : Option Attr
  pub dir : Option Attr
  pub source : Wcc
  pub target : Wcc
  pub began : At h x (Began lane line (ops.Remove path))
  pub hidden : IsHidden name
  pub place : PlaceOf origin h n path d last
  pub renamed : Asked h x n (calls.Dir (dirs.Rename d last d name)) (replies.Dir (found.Rename source target))
  pub gave : Asked h x renamed.heard.sent_at (calls.Dir (dirs.Lookup d last)) (replies.Dir (found.Lookup f attr dir))
