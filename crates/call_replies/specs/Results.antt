-- What the results of a procedure say (RFC 1813, section 3.3).
use Rattle.std.specs.Prelude.{◌≡◌, ℕ, List, Result, Ok, Err, true, false, if◌then◌else◌}
use Rattle.xdr_codec.specs.declared.reader.XdrFault.{XdrFault}
use Rattle.nfs_dir_calls.specs.declared.keeping.DirKept.{DirKept}
use Rattle.nfs_dir_calls.specs.Calls.{is_dir_proc}
use Rattle.nfs_dir_calls.specs.Replies.{SpellsDirReply, dir_reply_at}
use Rattle.nfs_file_calls.specs.declared.owned.FileKept.{FileKept}
use Rattle.nfs_file_calls.specs.Calls.{is_file_proc}
use Rattle.nfs_file_calls.specs.Replies.{SpellsFileReply, file_reply_at}
use Rattle.world_model.specs.declared.answer.Fault.{Fault}
use Rattle.world_model.specs.declared.answer.Fault.TheVariants as faults
use Rattle.world_model.specs.declared.message.Reply.{Reply}
use Rattle.world_model.specs.declared.message.Reply.TheVariants as replies

-- ---- what reading gives

-- the reply, or they break rule 2: the grammar doesn't spell them
abbrev pub dir_said : Result DirKept XdrFault → Result Reply Fault
dir_said (Ok reply) = Ok (replies.Dir reply)
dir_said (Err fault) = Err (faults.Bad 2)

abbrev pub file_said : Result FileKept XdrFault → Result Reply Fault
file_said (Ok reply) = Ok (replies.File reply)
file_said (Err fault) = Err (faults.Bad 2)

-- by the procedure; a number that no procedure has spells nothing
abbrev pub said_in : ℕ → List ℕ → Result Reply Fault
said_in proc results =
    if is_dir_proc proc then dir_said (dir_reply_at proc results) else (if is_file_proc proc then file_said (file_reply_at proc results)
    else Err (faults.Bad 2))

-- ---- what is spelled

-- they spell this reply to the procedure, and no other
pub record SpellOneDir (proc : ℕ) (results : List ℕ) (reply : DirKept) : Type 0 where
  pub is : SpellsDirReply proc reply results
  pub only : (other : DirKept) → SpellsDirReply proc other results → other ≡ reply

pub record SpellOneFile (proc : ℕ) (results : List ℕ) (reply : FileKept) : Type 0 where
  pub is : SpellsFileReply proc reply results
  pub only : (other : FileKept) → SpellsFileReply proc other results → other ≡ reply

-- they spell none, which breaks rule 2
pub record SpellNoDir (proc : ℕ) (results : List ℕ) (n : ℕ) : Type 0 where
  pub rule : n ≡ 2
  pub none : (reply : DirKept) → SpellsDirReply proc reply results → ⊥

pub record SpellNoFile (proc : ℕ) (results : List ℕ) (n : ℕ) : Type 0 where
  pub rule : n ≡ 2
  pub none : (reply : FileKept) → SpellsFileReply proc reply results → ⊥

-- what they say if the procedure is one on directories, and if it is one on files
abbrev pub DirSays : ℕ → List ℕ → Result Reply Fault → Type 0
DirSays proc results (Ok (replies.Dir reply)) = SpellOneDir proc results reply
DirSays proc results (Ok reply) = ⊥
DirSays proc results (Err (faults.Bad n)) = SpellNoDir proc results n
DirSays proc results (Err fault) = ⊥

abbrev pub FileSays : ℕ → List ℕ → Result Reply Fault → Type 0
FileSays proc results (Ok (replies.File reply)) = SpellOneFile proc results reply
FileSays proc results (Ok reply) = ⊥
FileSays proc results (Err (faults.Bad n)) = SpellNoFile proc results n
FileSays proc results (Err fault) = ⊥

pub record Tells (proc : ℕ) (results : List ℕ) (said : Result Reply Fault) : Type 0 where
  pub dir : is_dir_proc proc ≡ true → DirSays proc results said
  pub file : is_dir_proc proc ≡ false → is_file_proc proc ≡ true → FileSays proc results said
