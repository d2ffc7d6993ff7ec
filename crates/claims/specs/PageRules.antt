-- What a page of a file and a page of a directory have to be, and which records refuse a call.
use Rattle.std.specs.Prelude.{◌≡◌, ◌≢◌, ◌<◌, ℕ, List, [], length, Bool, false, Option}
use Rattle.nfs_types.specs.declared.attr.Attr.{Attr}
use Rattle.nfs_types.specs.declared.verf.Verf.{Verf}
use Rattle.nfs_dir_calls.specs.declared.call.DirCall.TheVariants as dirs
use Rattle.nfs_dir_calls.specs.declared.keeping.DirKept.TheVariants as found
use Rattle.nfs_file_calls.specs.declared.call.FileCall.TheVariants as files
use Rattle.nfs_file_calls.specs.declared.owned.FileKept.TheVariants as kept
use Rattle.world_model.specs.declared.answer.Fault.{Fault}
use Rattle.world_model.specs.declared.answer.Fault.TheVariants as faults
use Rattle.world_model.specs.declared.entry.Entry.{Entry}
use Rattle.world_model.specs.declared.message.Call.{Call}
use Rattle.world_model.specs.declared.message.Call.TheVariants as calls
use Rattle.world_model.specs.declared.message.Reply.TheVariants as replies
use Rattle.world_model.specs.Heard.{Heard, Refuses}
use Rattle.world_model.specs.Messages.{SpellsReply}

-- The bytes of a READ are wrong: more than were asked for, or not as many as their count says, or none if the file
-- goes on.
pub data WrongData (asked counted : ℕ) (data_ : List ℕ) (eof : Bool) : Type 0 where
  longer : asked < length data_ → WrongData asked counted data_ eof
  unlike : counted ≢ length data_ → WrongData asked counted data_ eof
  nothing : data_ ≡ [] → eof ≡ false → WrongData asked counted data_ eof

-- The record breaks rule n of what a page has to be.
pub data BreaksPage (xid : ℕ) (call : Call) (bytes : List ℕ) (n : ℕ) : Type 0 where
  -- 5: the data of a READ are wrong
  wrong_data : n ≡ 5 → (file : List ℕ) (offset asked counted : ℕ) (attr : Option Attr) (eof : Bool) (data_ : List ℕ)
      → call ≡ calls.File (files.Read file offset asked)
      → SpellsReply xid call (replies.File (kept.Read attr counted eof data_)) bytes → WrongData asked counted data_ eof → BreaksPage xid call bytes n
  -- 6: a page of READDIRPLUS has no entry, and isn't the last
  no_entry : n ≡ 6 → (d : List ℕ) (cookie dircount maxcount : ℕ) (verf next : Verf) (attr : Option Attr)
      → call ≡ calls.Dir (dirs.ReadDirPlus d cookie verf dircount maxcount)
      → SpellsReply xid call (replies.Dir (found.ReadDirPlus attr next [] false)) bytes → BreaksPage xid call bytes n

-- The record refuses the call: by a status that isn't 0, by RPC, or by breaking a rule.
pub data RefusesSo (xid : ℕ) (call : Call) (bytes : List ℕ) (fault : Fault) : Type 0 where
  refuses : Refuses xid call bytes fault → RefusesSo xid call bytes fault
  breaks : (n : ℕ) → fault ≡ faults.Bad n → BreaksPage xid call bytes n → RefusesSo xid call bytes fault

-- The call was first sent between the places from and to, and was refused so.
pub record RefusedSo (h : List Entry) (from to : ℕ) (call : Call) (fault : Fault) : Type 0 where
  pub xid : ℕ
  pub bytes : List ℕ
  pub heard : Heard h from to call xid bytes
  pub refuses : RefusesSo xid call bytes fault
