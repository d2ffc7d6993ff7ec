-- Which file an open found, and which one a put wrote, by the call of the last record that came and its reply.
use Rattle.std.specs.Prelude.{◌≡◌, ℕ, Bool, List, Option, Some, None, MatchOption, if◌then◌else◌}
use Rattle.nfs_dir_calls.specs.declared.call.DirCall.{DirCall}
use Rattle.nfs_dir_calls.specs.declared.call.DirCall.TheVariants as dirs
use Rattle.nfs_dir_calls.specs.declared.keeping.DirKept.{DirKept}
use Rattle.nfs_dir_calls.specs.declared.keeping.DirKept.TheVariants as found
use Rattle.nfs_file_calls.specs.declared.call.FileCall.{FileCall}
use Rattle.nfs_file_calls.specs.declared.call.FileCall.TheVariants as files
use Rattle.world_model.specs.declared.entry.Entry.{Entry}
use Rattle.world_model.specs.declared.message.Call.{Call}
use Rattle.world_model.specs.declared.message.Call.TheVariants as calls
use Rattle.world_model.specs.declared.message.Reply.{Reply}
use Rattle.world_model.specs.declared.message.Reply.TheVariants as replies
use Rattle.world_model.specs.Operations.{LastReply}
use Rattle.claims.specs.Modes.{Modes}
use Rattle.claims.specs.Slots.{Finds, NamesFile}

-- the file whose attributes a call asks for
abbrev pub asked_of : FileCall → Option (List ℕ)
asked_of files.Null = None
asked_of (files.GetAttr f) = Some f
asked_of (files.SetAttr f set guard) = None
asked_of (files.Access f bits) = None
asked_of (files.Read f offset count) = None
asked_of (files.Write f offset how bytes) = None
asked_of (files.FsStat f) = None
asked_of (files.FsInfo f) = None
asked_of (files.PathConf f) = None
asked_of (files.Commit f offset count) = None

-- the file that a WRITE or COMMIT names
abbrev pub named_of : FileCall → Option (List ℕ)
named_of files.Null = None
named_of (files.GetAttr f) = None
named_of (files.SetAttr f set guard) = None
named_of (files.Access f bits) = None
named_of (files.Read f offset count) = None
named_of (files.Write f offset how bytes) = Some f
named_of (files.FsStat f) = None
named_of (files.FsInfo f) = None
named_of (files.PathConf f) = None
named_of (files.Commit f offset count) = Some f

-- the object that a reply to LOOKUP gives
abbrev pub lookup_in : DirKept → Option (List ℕ)
lookup_in (found.Lookup f attr dir) = Some f
lookup_in (found.LookupFail status dir) = None
lookup_in (found.ReadLink attr text) = None
lookup_in (found.ReadLinkFail status attr) = None
lookup_in (found.Create f attr wcc) = None
lookup_in (found.CreateFail status wcc) = None
lookup_in (found.MkDir f attr wcc) = None
lookup_in (found.MkDirFail status wcc) = None
lookup_in (found.SymLink f attr wcc) = None
lookup_in (found.SymLinkFail status wcc) = None
lookup_in (found.MkNod f attr wcc) = None
lookup_in (found.MkNodFail status wcc) = None
lookup_in (found.Remove wcc) = None
lookup_in (found.RemoveFail status wcc) = None
lookup_in (found.RmDir wcc) = None
lookup_in (found.RmDirFail status wcc) = None
lookup_in (found.Rename source target) = None
lookup_in (found.RenameFail status source target) = None
lookup_in (found.Link attr wcc) = None
lookup_in (found.LinkFail status attr wcc) = None
lookup_in (found.ReadDir attr verf page eof) = None
lookup_in (found.ReadDirFail status attr) = None
lookup_in (found.ReadDirPlus attr verf page eof) = None
lookup_in (found.ReadDirPlusFail status attr) = None

-- the object that a reply to CREATE gives
abbrev pub create_in : DirKept → Option (List ℕ)
create_in (found.Lookup f attr dir) = None
create_in (found.LookupFail status dir) = None
create_in (found.ReadLink attr text) = None
create_in (found.ReadLinkFail status attr) = None
create_in (found.Create f attr wcc) = f
create_in (found.CreateFail status wcc) = None
create_in (found.MkDir f attr wcc) = None
create_in (found.MkDirFail status wcc) = None
create_in (found.SymLink f attr wcc) = None
create_in (found.SymLinkFail status wcc) = None
create_in (found.MkNod f attr wcc) = None
create_in (found.MkNodFail status wcc) = None
create_in (found.Remove wcc) = None
create_in (found.RemoveFail status wcc) = None
create_in (found.RmDir wcc) = None
create_in (found.RmDirFail status wcc) = None
create_in (found.Rename source target) = None
create_in (found.RenameFail status source target) = None
create_in (found.Link attr wcc) = None
create_in (found.LinkFail status attr wcc) = None
create_in (found.ReadDir attr verf page eof) = None
create_in (found.ReadDirFail status attr) = None
create_in (found.ReadDirPlus attr verf page eof) = None
create_in (found.ReadDirPlusFail status attr) = None

abbrev pub lookup_of : Option Reply → Option (List ℕ)
lookup_of None = None
lookup_of (Some (replies.File reply)) = None
lookup_of (Some (replies.Dir reply)) = lookup_in reply
lookup_of (Some (replies.Mount reply)) = None

abbrev pub create_of : Option Reply → Option (List ℕ)
create_of None = None
create_of (Some (replies.File reply)) = None
create_of (Some (replies.Dir reply)) = create_in reply
create_of (Some (replies.Mount reply)) = None

-- the object that the reply to a LOOKUP or CREATE gives
abbrev pub given_by : DirCall → Option Reply → Option (List ℕ)
given_by (dirs.Lookup d name) reply = lookup_of reply
given_by (dirs.ReadLink f) reply = None
given_by (dirs.Create d name making) reply = create_of reply
given_by (dirs.MkDir d name set) reply = None
given_by (dirs.SymLink d name set target) reply = None
given_by (dirs.MkNod d name node) reply = None
given_by (dirs.Remove d name) reply = None
given_by (dirs.RmDir d name) reply = None
given_by (dirs.Rename d old e new) reply = None
given_by (dirs.Link f d name) reply = None
given_by (dirs.ReadDir d cookie verf count) reply = None
given_by (dirs.ReadDirPlus d cookie verf dircount maxcount) reply = None

-- the file that an open has after such a call: of LOOKUP and CREATE alone if it may go by what is kept
abbrev pub file_in : Bool → Call → Option Reply → Option (List ℕ)
file_in nocto (calls.File call) reply = asked_of call
file_in nocto (calls.Dir call) reply = if nocto then given_by call reply else None
file_in nocto (calls.Mount call) reply = None

-- the file that a call of WRITE or COMMIT names
abbrev pub named_in : Call → Option (List ℕ)
named_in (calls.File call) = named_of call
named_in (calls.Dir call) = None
named_in (calls.Mount call) = None

-- the file that an open has which is answered at the place y, if it has one, and no other
pub record IsFound (m : Modes) (h : List Entry) (y : ℕ) (f : List ℕ) : Type 0 where
  pub finds : Finds m h y f
  pub only : (other : List ℕ) → Finds m h y other → other ≡ f

abbrev pub FindsFile : Modes → List Entry → ℕ → Option (List ℕ) → Type 0
FindsFile m h y found = MatchOption found ((f : List ℕ) → Finds m h y f → ⊥) (IsFound m h y)

-- the last record that came before the place y is of a WRITE or COMMIT of the file
pub record Names (h : List Entry) (y : ℕ) (f : List ℕ) : Type 0 where
  pub call : Call
  pub names : NamesFile f call
  pub asked : LastReply h y call

-- that file, if there is one, and no other
pub record IsNamed (h : List Entry) (y : ℕ) (f : List ℕ) : Type 0 where
  pub is : Names h y f
  pub only : (other : List ℕ) → Names h y other → other ≡ f

abbrev pub NamesAFile : List Entry → ℕ → Option (List ℕ) → Type 0
NamesAFile h y found = MatchOption found ((f : List ℕ) → Names h y f → ⊥) (IsNamed h y)
