-- What results say of a call of their procedure.
use Rattle.std.proofs.Common.{◌≡◌, ℕ, Bool, true, false, List, Result, Ok, Err, refl, sym, ap, subst, arith}
use Rattle.nfs_dir_calls.specs.declared.call.DirCall.{DirCall}
use Rattle.nfs_dir_calls.specs.declared.call.DirCall.TheVariants as dirs
use Rattle.nfs_dir_calls.specs.declared.keeping.DirKept.{DirKept}
use Rattle.nfs_dir_calls.specs.Calls.{is_dir_proc, dir_proc}
use Rattle.nfs_dir_calls.specs.Replies.{SpellsDirReply}
use Rattle.nfs_file_calls.specs.declared.call.FileCall.{FileCall}
use Rattle.nfs_file_calls.specs.declared.call.FileCall.TheVariants as files
use Rattle.nfs_file_calls.specs.declared.owned.FileKept.{FileKept}
use Rattle.nfs_file_calls.specs.Calls.{is_file_proc, file_proc}
use Rattle.nfs_file_calls.specs.Replies.{SpellsFileReply}
use Rattle.world_model.specs.declared.answer.Fault.{Fault}
use Rattle.world_model.specs.declared.answer.Fault.TheVariants as faults
use Rattle.world_model.specs.declared.message.Call.{Call}
use Rattle.world_model.specs.declared.message.Call.TheVariants as calls
use Rattle.world_model.specs.declared.message.Reply.{Reply}
use Rattle.world_model.specs.declared.message.Reply.TheVariants as replies
use Rattle.world_model.specs.Messages.{SpellsReply, proc_of}
use Rattle.world_model.specs.Rules.{unspelled}
use Rattle.call_replies.specs.Records.{HasResults}
use Rattle.call_replies.specs.Results.{DirSays, FileSays, Tells}
use Rattle.call_replies.specs.Says.{IsCallOf, Says}

-- ---- the procedures

is_dir : (call : DirCall) → is_dir_proc (dir_proc call) ≡ true
is_dir (dirs.Lookup dir name) = refl
is_dir (dirs.ReadLink file) = refl
is_dir (dirs.Create dir name making) = refl
is_dir (dirs.MkDir dir name set) = refl
is_dir (dirs.SymLink dir name set target) = refl
is_dir (dirs.MkNod dir name node) = refl
is_dir (dirs.Remove dir name) = refl
is_dir (dirs.RmDir dir name) = refl
is_dir (dirs.Rename from_dir source to_dir target) = refl
is_dir (dirs.Link file dir name) = refl
is_dir (dirs.ReadDir dir cookie verf count) = refl
is_dir (dirs.ReadDirPlus dir cookie verf dircount maxcount) = refl

is_no_dir : (call : FileCall) → is_dir_proc (file_proc call) ≡ false
is_no_dir files.Null = refl
is_no_dir (files.GetAttr file) = refl
is_no_dir (files.SetAttr file set guard) = refl
is_no_dir (files.Access file bits) = refl
is_no_dir (files.Read file offset count) = refl
is_no_dir (files.Write file offset how bytes) = refl
is_no_dir (files.FsStat file) = refl
is_no_dir (files.FsInfo file) = refl
is_no_dir (files.PathConf file) = refl
is_no_dir (files.Commit file offset count) = refl

is_file : (call : FileCall) → is_file_proc (file_proc call) ≡ true
is_file files.Null = refl
is_file (files.GetAttr file) = refl
is_file (files.SetAttr file set guard) = refl
is_file (files.Access file bits) = refl
is_file (files.Read file offset count) = refl
is_file (files.Write file offset how bytes) = refl
is_file (files.FsStat file) = refl
is_file (files.FsInfo file) = refl
is_file (files.PathConf file) = refl
is_file (files.Commit file offset count) = refl

differ : (b : Bool) → b ≡ true → b ≡ false → ⊥
differ b e f = absurd cc

pub tells_dir : (proc : ℕ) (results : List ℕ) (said : Result Reply Fault) → is_dir_proc proc ≡ true → DirSays proc results said → Tells proc results said
tells_dir proc results said e f = record { dir = λ t. f; file = λ n y. absurd (differ (is_dir_proc proc) e n) }

pub tells_file : (proc : ℕ) (results : List ℕ) (said : Result Reply Fault) → is_dir_proc proc ≡ false → FileSays proc results said → Tells proc results said
tells_file proc results said e f = record { dir = λ t. absurd (differ (is_dir_proc proc) t e); file = λ n y. f }

pub tells_none : (proc : ℕ) (results : List ℕ) (said : Result Reply Fault) → is_dir_proc proc ≡ false → is_file_proc proc ≡ false → Tells proc results said
tells_none proc results said e f = record { dir = λ t. absurd (differ (is_dir_proc proc) t e); file = λ n y. absurd (differ (is_file_proc proc) y f) }

-- ---- calls on directories

abbrev dir_says_reply : DirKept → Reply
dir_says_reply reply = replies.Dir reply

-- results that spell a reply to a call of the procedure
dir_says_spelled : (x : ℕ) (call : DirCall) (proc : ℕ) (results rec : List ℕ) (reply : DirKept) → proc_of (calls.Dir call) ≡ proc → HasResults x results rec
    → SpellsReply x (calls.Dir call) (replies.Dir reply) rec → SpellsDirReply proc reply results
dir_says_spelled x call proc results rec reply same one s =
    subst (λ (n : ℕ). SpellsDirReply n reply results) same (subst (λ (rs : List ℕ). SpellsDirReply (proc_of (calls.Dir call)) reply rs) (one.only s.results s.accepted) s.is)

dir_says_only : (x : ℕ) (call : DirCall) (proc : ℕ) (results rec : List ℕ) (reply : DirKept) → proc_of (calls.Dir call) ≡ proc → HasResults x results rec
    → ((other : DirKept) → SpellsDirReply proc other results → other ≡ reply) → (other : Reply) → SpellsReply x (calls.Dir call) other rec → other ≡ replies.Dir reply
dir_says_only x call proc results rec reply same one only (replies.Dir other) s = ap dir_says_reply (only other (dir_says_spelled x call proc results rec other same one s))
dir_says_only x call proc results rec reply same one only (replies.File other) s = absurd s.is
dir_says_only x call proc results rec reply same one only (replies.Mount other) s = absurd s.is

dir_says_none : (x : ℕ) (call : DirCall) (proc : ℕ) (results rec : List ℕ) → proc_of (calls.Dir call) ≡ proc → HasResults x results rec
    → ((reply : DirKept) → SpellsDirReply proc reply results → ⊥) → (reply : Reply) → SpellsReply x (calls.Dir call) reply rec → ⊥
dir_says_none x call proc results rec same one none (replies.Dir reply) s = none reply (dir_says_spelled x call proc results rec reply same one s)
dir_says_none x call proc results rec same one none (replies.File reply) s = s.is
dir_says_none x call proc results rec same one none (replies.Mount reply) s = s.is

dir_says : (x : ℕ) (call : DirCall) (proc : ℕ) (results rec : List ℕ) (said : Result Reply Fault) → proc_of (calls.Dir call) ≡ proc → HasResults x results rec → DirSays proc results said → Says x (calls.Dir call) rec said
dir_says x call proc results rec (Ok (replies.Dir reply)) same one f = record {
  is = record { results = results; accepted = one.is; is = subst (λ (n : ℕ). SpellsDirReply n reply results) (sym same) f.is };
  only = dir_says_only x call proc results rec reply same one f.only;
}
dir_says x call proc results rec (Ok (replies.File reply)) same one f = absurd f
dir_says x call proc results rec (Ok (replies.Mount reply)) same one f = absurd f
dir_says x call proc results rec (Err (faults.Nfs n)) same one f = absurd f
dir_says x call proc results rec (Err (faults.Rpc n)) same one f = absurd f
dir_says x call proc results rec (Err (faults.Bad n)) same one f = unspelled f.rule one.reply (record { no_reply = dir_says_none x call proc results rec same one f.none; no_refusal = one.accepted })
dir_says x call proc results rec (Err faults.Lost) same one f = absurd f
dir_says x call proc results rec (Err faults.Spent) same one f = absurd f
dir_says x call proc results rec (Err faults.Slot) same one f = absurd f
dir_says x call proc results rec (Err faults.Mode) same one f = absurd f
dir_says x call proc results rec (Err faults.Kind) same one f = absurd f
dir_says x call proc results rec (Err faults.Many) same one f = absurd f
dir_says x call proc results rec (Err faults.Memory) same one f = absurd f

-- ---- calls on files

abbrev file_says_reply : FileKept → Reply
file_says_reply reply = replies.File reply

-- results that spell a reply to a call of the procedure
file_says_spelled : (x : ℕ) (call : FileCall) (proc : ℕ) (results rec : List ℕ) (reply : FileKept) → proc_of (calls.File call) ≡ proc → HasResults x results rec
    → SpellsReply x (calls.File call) (replies.File reply) rec → SpellsFileReply proc reply results
file_says_spelled x call proc results rec reply same one s =
    subst (λ (n : ℕ). SpellsFileReply n reply results) same (subst (λ (rs : List ℕ). SpellsFileReply (proc_of (calls.File call)) reply rs) (one.only s.results s.accepted) s.is)

file_says_only : (x : ℕ) (call : FileCall) (proc : ℕ) (results rec : List ℕ) (reply : FileKept) → proc_of (calls.File call) ≡ proc → HasResults x results rec
    → ((other : FileKept) → SpellsFileReply proc other results → other ≡ reply) → (other : Reply) → SpellsReply x (calls.File call) other rec → other ≡ replies.File reply
file_says_only x call proc results rec reply same one only (replies.File other) s = ap file_says_reply (only other (file_says_spelled x call proc results rec other same one s))
file_says_only x call proc results rec reply same one only (replies.Dir other) s = absurd s.is
file_says_only x call proc results rec reply same one only (replies.Mount other) s = absurd s.is

file_says_none : (x : ℕ) (call : FileCall) (proc : ℕ) (results rec : List ℕ) → proc_of (calls.File call) ≡ proc → HasResults x results rec
    → ((reply : FileKept) → SpellsFileReply proc reply results → ⊥) → (reply : Reply) → SpellsReply x (calls.File call) reply rec → ⊥
file_says_none x call proc results rec same one none (replies.File reply) s = none reply (file_says_spelled x call proc results rec reply same one s)
file_says_none x call proc results rec same one none (replies.Dir reply) s = s.is
file_says_none x call proc results rec same one none (replies.Mount reply) s = s.is

file_says : (x : ℕ) (call : FileCall) (proc : ℕ) (results rec : List ℕ) (said : Result Reply Fault) → proc_of (calls.File call) ≡ proc → HasResults x results rec → FileSays proc results said → Says x (calls.File call) rec said
file_says x call proc results rec (Ok (replies.File reply)) same one f = record {
  is = record { results = results; accepted = one.is; is = subst (λ (n : ℕ). SpellsFileReply n reply results) (sym same) f.is };
  only = file_says_only x call proc results rec reply same one f.only;
}
file_says x call proc results rec (Ok (replies.Dir reply)) same one f = absurd f
file_says x call proc results rec (Ok (replies.Mount reply)) same one f = absurd f
file_says x call proc results rec (Err (faults.Nfs n)) same one f = absurd f
file_says x call proc results rec (Err (faults.Rpc n)) same one f = absurd f
file_says x call proc results rec (Err (faults.Bad n)) same one f = unspelled f.rule one.reply (record { no_reply = file_says_none x call proc results rec same one f.none; no_refusal = one.accepted })
file_says x call proc results rec (Err faults.Lost) same one f = absurd f
file_says x call proc results rec (Err faults.Spent) same one f = absurd f
file_says x call proc results rec (Err faults.Slot) same one f = absurd f
file_says x call proc results rec (Err faults.Mode) same one f = absurd f
file_says x call proc results rec (Err faults.Kind) same one f = absurd f
file_says x call proc results rec (Err faults.Many) same one f = absurd f
file_says x call proc results rec (Err faults.Memory) same one f = absurd f

-- ---- any call of NFS

-- MOUNT is another program
other_program : ◌≡◌ {A = ℕ} 100005 100003 → ⊥
other_program same = omega (arith, same)

pub says_in : (x : ℕ) (call : Call) (proc : ℕ) (results rec : List ℕ) (said : Result Reply Fault) → IsCallOf proc call → HasResults x results rec → Tells proc results said → Says x call rec said
says_in x (calls.Dir call) proc results rec said of one t = dir_says x call proc results rec said of.is one (t.dir (subst (λ (n : ℕ). is_dir_proc n ≡ true) of.is (is_dir call)))
says_in x (calls.File call) proc results rec said of one t =
    file_says x call proc results rec said of.is one (t.file (subst (λ (n : ℕ). is_dir_proc n ≡ false) of.is (is_no_dir call)) (subst (λ (n : ℕ). is_file_proc n ≡ true) of.is (is_file call)))
says_in x (calls.Mount call) proc results rec said of one t = absurd (other_program of.nfs)
