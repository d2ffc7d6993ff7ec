-- What the record that answers MNT or FSINFO says (RFC 1813, sections 5.2.1 and 3.3.19).
use Rattle.std.specs.Prelude.{◌≡◌, ◌≢◌, ℕ, List, min, Option, Result, Ok, Err}
use Rattle.nfs_types.specs.declared.attr.Attr.{Attr}
use Rattle.nfs_types.specs.declared.time.Time.{Time}
use Rattle.mount_calls.specs.declared.reply.MountReply.{MountReply}
use Rattle.mount_calls.specs.declared.reply.MountReply.TheVariants as mounts
use Rattle.mount_calls.specs.Replies.{SpellsMountReply}
use Rattle.nfs_file_calls.specs.declared.owned.FileKept.{FileKept}
use Rattle.nfs_file_calls.specs.declared.owned.FileKept.TheVariants as kept
use Rattle.nfs_file_calls.specs.Replies.{SpellsFileReply}
use Rattle.world_model.specs.declared.answer.Fault.{Fault}
use Rattle.world_model.specs.declared.answer.Fault.TheVariants as faults
use Rattle.world_model.specs.declared.message.Reply.TheVariants as replies
use Rattle.world_model.specs.Heard.{Refuses, status_of}
use Rattle.world_model.specs.Messages.{SpellsReply}
use Rattle.world_model.specs.Mounts.{mount_call, info_call, lesser_size}
use Rattle.world_model.specs.ReadSize.{whole_pages}
use Rattle.session_setup.specs.declared.opening.SetUpFault.{SetUpFault}
use Rattle.session_setup.specs.declared.opening.SetUpFault.TheVariants.{Refused, Lost, Memory}
use Rattle.session_setup.specs.declared.sizes.Greatest.{Greatest}
use Rattle.session_setup.specs.declared.sizes.Sizes.{Sizes}

-- ---- the record

-- MNT of the path gave the root, or was refused, or memory ran out
abbrev pub MountHeard : ℕ → List ℕ → List ℕ → Result (List ℕ) SetUpFault → Type 0
MountHeard x path rec (Ok root) = (flavors : List ℕ) × SpellsReply x (mount_call path) (replies.Mount (mounts.MntOk root flavors)) rec
MountHeard x path rec (Err (Refused fault)) = Refuses x (mount_call path) rec fault
MountHeard x path rec (Err (Lost tally)) = ⊥
MountHeard x path rec (Err Memory) = Unit {0}

-- FSINFO of the root named the greatest sizes
pub record InformedOf (x : ℕ) (root rec : List ℕ) (rtmax wtmax : ℕ) : Type 0 where
  pub attr : Option Attr
  pub rtpref : ℕ
  pub rtmult : ℕ
  pub wtpref : ℕ
  pub wtmult : ℕ
  pub dtpref : ℕ
  pub maxfilesize : ℕ
  pub delta : Time
  pub properties : ℕ
  pub spells : SpellsReply x (info_call root) (replies.File (kept.FsInfo attr rtmax rtpref rtmult wtmax wtpref wtmult dtpref maxfilesize delta properties)) rec

-- or it was refused
abbrev pub InfoHeard : ℕ → List ℕ → List ℕ → Result Greatest Fault → Type 0
InfoHeard x root rec (Ok greatest) = InformedOf x root rec greatest.rtmax greatest.wtmax
InfoHeard x root rec (Err fault) = Refuses x (info_call root) rec fault

-- ---- its results

-- no reply to that procedure is spelled
abbrev pub NoFileReply : ℕ → List ℕ → Type 0
NoFileReply proc results = (reply : FileKept) → SpellsFileReply proc reply results → ⊥

abbrev pub NoMountReply : ℕ → List ℕ → Type 0
NoMountReply proc results = (reply : MountReply) → SpellsMountReply proc reply results → ⊥

-- a reply with the status n, which isn't 0
abbrev pub FileRefuses : ℕ → List ℕ → ℕ → Type 0
FileRefuses proc results n = (reply : FileKept) × SpellsFileReply proc reply results × (status_of (replies.File reply) ≡ n) × (n ≢ 0)

abbrev pub MountRefuses : ℕ → List ℕ → ℕ → Type 0
MountRefuses proc results n = (reply : MountReply) × SpellsMountReply proc reply results × (status_of (replies.Mount reply) ≡ n) × (n ≢ 0)

-- MNT: the root is given, or the status or the spelling refuses
abbrev pub MountedBy : List ℕ → Result (List ℕ) SetUpFault → Type 0
MountedBy results (Ok root) = (flavors : List ℕ) × SpellsMountReply 1 (mounts.MntOk root flavors) results
MountedBy results (Err (Refused (faults.Nfs n))) = MountRefuses 1 results n
MountedBy results (Err (Refused (faults.Bad n))) = (n ≡ 2) × NoMountReply 1 results
MountedBy results (Err (Refused fault)) = ⊥
MountedBy results (Err (Lost tally)) = ⊥
MountedBy results (Err Memory) = Unit {0}

-- what a reply to MNT gives; one to another procedure isn't spelled by its results
abbrev pub GrantedBy : MountReply → Result (List ℕ) Fault → Type 0
GrantedBy (mounts.MntOk root flavors) result = result ≡ Ok root
GrantedBy (mounts.MntFail stat) result = result ≡ Err (faults.Nfs stat)
GrantedBy reply result = result ≡ Err (faults.Bad 2)

-- FSINFO: the sizes are told, or the status or the spelling refuses
abbrev pub InformedBy : List ℕ → Result Greatest Fault → Type 0
InformedBy results (Ok g) = (attr : Option Attr) × (rtpref : ℕ) × (rtmult : ℕ) × (wtpref : ℕ) × (wtmult : ℕ) × (dtpref : ℕ) × (maxfilesize : ℕ) × (delta : Time)
    × (properties : ℕ) × SpellsFileReply 19 (kept.FsInfo attr g.rtmax rtpref rtmult g.wtmax wtpref wtmult dtpref maxfilesize delta properties) results
InformedBy results (Err (faults.Nfs n)) = FileRefuses 19 results n
InformedBy results (Err (faults.Bad n)) = (n ≡ 2) × NoFileReply 19 results
InformedBy results (Err fault) = ⊥

-- ---- the sizes

-- by what the server names; if it names nothing, as if it named 0
abbrev pub SizedBy : ℕ → ℕ → Result Greatest Fault → Sizes → Type 0
SizedBy rsize wsize (Ok g) v = (v.rsize ≡ whole_pages (lesser_size rsize g.rtmax)) × (v.wsize ≡ lesser_size wsize g.wtmax)
SizedBy rsize wsize (Err fault) v = (v.rsize ≡ min rsize 4096) × (v.wsize ≡ min wsize 4096)
