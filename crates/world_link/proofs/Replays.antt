-- What a call made of the export is what its entry tells.
use Rattle.std.proofs.Common.{◌≡◌, ◌<◌, ℕ, zero, suc, List, [], ◌∷◌, ◌++◌, length, take, min, Bool, true, false, ◌==◌, if◌then◌else◌, Option, Some, None, refl, sym, ap, ◌∙◌, arith}
use Rattle.std.proofs.lemmas.List.{length-take, take_min, take_all}
use Rattle.nfs_dir_calls.specs.declared.call.DirCall.{DirCall}
use Rattle.nfs_dir_calls.specs.declared.call.DirCall.TheVariants as dirs
use Rattle.nfs_file_calls.specs.declared.call.FileCall.{FileCall}
use Rattle.nfs_file_calls.specs.declared.call.FileCall.TheVariants as files
use Rattle.nfs_file_calls.specs.declared.owned.FileKept.{FileKept}
use Rattle.mount_calls.specs.declared.call.MountCall.{MountCall}
use Rattle.mount_calls.specs.declared.call.MountCall.TheVariants as mounts
use Rattle.world_model.specs.declared.entry.Entry.{Entry}
use Rattle.world_model.specs.declared.message.Call.{Call}
use Rattle.world_model.specs.declared.message.Call.TheVariants as calls
use Rattle.world_model.specs.declared.message.Reply.{Reply}
use Rattle.world_model.specs.declared.message.Reply.TheVariants as replies
use Rattle.export_fs.specs.View.{View}
use Rattle.export_fs.specs.Refusals.{file_refusal, dir_refusal}
use Rattle.export_fs.specs.After.{after_file, after_dir}
use Rattle.export_fs.specs.Answer.{file_answer, dir_answer}
use Rattle.export_fs.specs.Answer.{file_refused as refused_file, dir_refused as refused_dir}
use Rattle.export_fs.specs.Executed.{executed, file_executed, dir_executed}
use Rattle.world_link.specs.declared.directive.PartialWrite.{PartialWrite}
use Rattle.world_link.specs.declared.manner.Manner.{Manner}
use Rattle.world_link.specs.Refused.{refused_by, refused_with, status_for}
use Rattle.world_link.specs.Handling.{shortened, shortened_to, answered, handled}
use Rattle.world_link.specs.Replay.{file_granted, dir_granted, stepped_by, stepped_with, stepped, replayed, at_of, told_of}
use Rattle.world_model.specs.History.{History}
use Rattle.world_model.specs.Server.{Server}
use Rattle.export_fs.specs.Seen.{server_of}

abbrev chosen : {R : Type 0} → Bool → View → View → R → R → View × R
chosen b after view done refused = if b then (after, done) else (view, refused)

abbrev picked : Bool → View → View → View
picked b after view = if b then after else view

same : (b : Bool) (after view : View) → (b ≡ false → after ≡ view) → picked b after view ≡ after
same true after view h = refl
same false after view h = sym (h refl)

either : (b : Bool) (view : View) → picked b view view ≡ view
either true view = refl
either false view = refl

-- where a reply that isn't granted changes nothing, the reply tells what was done
told_by : {R : Type 0} (granted : R → Bool) (b : Bool) (after view : View) (done refused : R) → (granted done ≡ false → after ≡ view)
    → picked (granted (chosen b after view done refused).1) (chosen b after view done refused).0 view ≡ (chosen b after view done refused).0
told_by granted true after view done refused h = same (granted done) after view h
told_by granted false after view done refused h = either (granted refused) view

file_kept : (view : View) (call : FileCall) → file_granted (file_answer view (after_file view call) call) ≡ false → after_file view call ≡ view
file_kept view files.Null h = refl
file_kept view (files.GetAttr file) h = refl
file_kept view (files.SetAttr file set guard) h = absurd cc
file_kept view (files.Access file bits) h = refl
file_kept view (files.Read file offset count) h = refl
file_kept view (files.Write file offset how bytes) h = absurd cc
file_kept view (files.FsStat file) h = refl
file_kept view (files.FsInfo file) h = refl
file_kept view (files.PathConf file) h = refl
file_kept view (files.Commit file offset count) h = absurd cc

dir_kept : (view : View) (call : DirCall) → dir_granted (dir_answer view (after_dir view call) call) ≡ false → after_dir view call ≡ view
dir_kept view (dirs.Lookup dir name) h = refl
dir_kept view (dirs.ReadLink file) h = refl
dir_kept view (dirs.Create dir name making) h = absurd cc
dir_kept view (dirs.MkDir dir name set) h = absurd cc
dir_kept view (dirs.SymLink dir name set target) h = absurd cc
dir_kept view (dirs.MkNod dir name node) h = refl
dir_kept view (dirs.Remove dir name) h = absurd cc
dir_kept view (dirs.RmDir dir name) h = absurd cc
dir_kept view (dirs.Rename dir name to_dir to) h = absurd cc
dir_kept view (dirs.Link file dir name) h = absurd cc
dir_kept view (dirs.ReadDir dir cookie verf count) h = refl
dir_kept view (dirs.ReadDirPlus dir cookie verf dircount maxcount) h = refl

file_told : (view : View) (call : FileCall) → picked (file_granted (file_executed view call).1) (file_executed view call).0 view ≡ (file_executed view call).0
file_told view call = told_by file_granted (file_refusal view call == 0) (after_file view call) view (file_answer view (after_file view call) call) (refused_file view.nodes (file_refusal view call) call) (file_kept view call)

dir_told : (view : View) (call : DirCall) → picked (dir_granted (dir_executed view call).1) (dir_executed view call).0 view ≡ (dir_executed view call).0
dir_told view call = told_by dir_granted (dir_refusal view call == 0) (after_dir view call) view (dir_answer view (after_dir view call) call) (refused_dir view.nodes (dir_refusal view call) call) (dir_kept view call)

-- a READ changes nothing
unread : (view : View) (file : List ℕ) (offset count : ℕ) → (file_executed view (files.Read file offset count)).0 ≡ view
unread view file offset count = both (file_refusal view (files.Read file offset count) == 0) _ _
  where
    both : (b : Bool) (done refused : FileKept) → (chosen b view view done refused).0 ≡ view
    both true done refused = refl
    both false done refused = refl

-- a WRITE that was executed with fewer bytes
abbrev writes : List ℕ → ℕ → ℕ → List ℕ → Call
writes file offset how bytes = calls.File (files.Write file offset how bytes)

abbrev short_write : List ℕ → ℕ → ℕ → List ℕ → FileCall
short_write file offset how short = files.Write file offset how short

abbrev written_by : Bool → View → FileCall → View × FileKept
written_by b view call = chosen b (after_file view call) view (file_answer view (after_file view call) call) (refused_file view.nodes (file_refusal view call) call)

wrote_if : (b : Bool) (view : View) (file : List ℕ) (offset how : ℕ) (bytes short : List ℕ) → take (length short) bytes ≡ short → (file_refusal view (short_write file offset how short) == 0) ≡ b
    → stepped_by view (writes file offset how bytes) (replies.File (written_by b view (short_write file offset how short)).1) ≡ (written_by b view (short_write file offset how short)).0
wrote_if true view file offset how bytes short e h = rw e (rw h refl)
wrote_if false view file offset how bytes short e h = refl

wrote : (view : View) (file : List ℕ) (offset how : ℕ) (bytes short : List ℕ) → take (length short) bytes ≡ short
    → stepped_by view (writes file offset how bytes) (executed view (writes file offset how short)).1 ≡ (executed view (writes file offset how short)).0
wrote view file offset how bytes short e = wrote_if (file_refusal view (short_write file offset how short) == 0) view file offset how bytes short e refl

all_of : (bytes : List ℕ) → take (length bytes) bytes ≡ bytes
all_of bytes = search (arith, take_all)

front_of : (most : ℕ) (bytes : List ℕ) → take (length (take most bytes)) bytes ≡ take most bytes
front_of most bytes = rw length-take (take_min most bytes)

file_stepped : (view : View) (call : FileCall) → stepped_by view (calls.File call) (replies.File (file_executed view call).1) ≡ (file_executed view call).0
file_stepped view files.Null = file_told view files.Null
file_stepped view (files.GetAttr file) = file_told view (files.GetAttr file)
file_stepped view (files.SetAttr file set guard) = file_told view (files.SetAttr file set guard)
file_stepped view (files.Access file bits) = file_told view (files.Access file bits)
file_stepped view (files.Read file offset count) = file_told view (files.Read file offset count)
file_stepped view (files.Write file offset how bytes) = wrote view file offset how bytes bytes (all_of bytes)
file_stepped view (files.FsStat file) = file_told view (files.FsStat file)
file_stepped view (files.FsInfo file) = file_told view (files.FsInfo file)
file_stepped view (files.PathConf file) = file_told view (files.PathConf file)
file_stepped view (files.Commit file offset count) = file_told view (files.Commit file offset count)

-- a call that was executed as it is
pub executed_stepped : (view : View) (call : Call) → stepped_by view call (executed view call).1 ≡ (executed view call).0
executed_stepped view (calls.File call) = file_stepped view call
executed_stepped view (calls.Dir call) = dir_told view call
executed_stepped view (calls.Mount call) = refl

read_stepped : (view : View) (file : List ℕ) (offset count less : ℕ)
    → stepped_by view (calls.File (files.Read file offset count)) (replies.File (file_executed view (files.Read file offset less)).1) ≡ (file_executed view (files.Read file offset less)).0
read_stepped view file offset count less =
    rw (unread view file offset count, unread view file offset less) (either (file_granted (file_executed view (files.Read file offset less)).1) view)

at_most : (most : ℕ) (view : View) (call : FileCall) → stepped_by view (calls.File call) (executed view (shortened_to most (calls.File call))).1 ≡ (executed view (shortened_to most (calls.File call))).0
at_most most view files.Null = file_stepped view files.Null
at_most most view (files.GetAttr file) = file_stepped view (files.GetAttr file)
at_most most view (files.SetAttr file set guard) = file_stepped view (files.SetAttr file set guard)
at_most most view (files.Access file bits) = file_stepped view (files.Access file bits)
at_most most view (files.Read file offset count) = read_stepped view file offset count (min count most)
at_most most view (files.Write file offset how bytes) = wrote view file offset how bytes (take most bytes) (front_of most bytes)
at_most most view (files.FsStat file) = file_stepped view (files.FsStat file)
at_most most view (files.FsInfo file) = file_stepped view (files.FsInfo file)
at_most most view (files.PathConf file) = file_stepped view (files.PathConf file)
at_most most view (files.Commit file offset count) = file_stepped view (files.Commit file offset count)

shortened_stepped : (limit : Option ℕ) (view : View) (call : Call) → stepped_by view call (executed view (shortened limit call)).1 ≡ (executed view (shortened limit call)).0
shortened_stepped None view call = executed_stepped view call
shortened_stepped (Some most) view (calls.File call) = at_most most view call
shortened_stepped (Some most) view (calls.Dir call) = executed_stepped view (calls.Dir call)
shortened_stepped (Some most) view (calls.Mount call) = executed_stepped view (calls.Mount call)

-- a status that is given changes nothing
abbrev Steps : Option Reply → Option ℕ → View → Call → Type 0
Steps given limit view call = stepped_by view call (answered given limit view call).1 ≡ (answered given limit view call).0

file_given : (n : ℕ) (limit : Option ℕ) (view : View) (call : FileCall) → Steps (refused_with n (calls.File call)) limit view (calls.File call)
file_given n limit view files.Null = shortened_stepped limit view (calls.File files.Null)
file_given n limit view (files.GetAttr file) = refl
file_given n limit view (files.SetAttr file set guard) = refl
file_given n limit view (files.Access file bits) = refl
file_given n limit view (files.Read file offset count) = refl
file_given n limit view (files.Write file offset how bytes) = refl
file_given n limit view (files.FsStat file) = refl
file_given n limit view (files.FsInfo file) = refl
file_given n limit view (files.PathConf file) = refl
file_given n limit view (files.Commit file offset count) = refl

dir_given : (n : ℕ) (limit : Option ℕ) (view : View) (call : DirCall) → Steps (refused_with n (calls.Dir call)) limit view (calls.Dir call)
dir_given n limit view (dirs.Lookup dir name) = refl
dir_given n limit view (dirs.ReadLink file) = refl
dir_given n limit view (dirs.Create dir name making) = refl
dir_given n limit view (dirs.MkDir dir name set) = refl
dir_given n limit view (dirs.SymLink dir name set target) = refl
dir_given n limit view (dirs.MkNod dir name node) = refl
dir_given n limit view (dirs.Remove dir name) = refl
dir_given n limit view (dirs.RmDir dir name) = refl
dir_given n limit view (dirs.Rename dir name to_dir to) = refl
dir_given n limit view (dirs.Link file dir name) = refl
dir_given n limit view (dirs.ReadDir dir cookie verf count) = refl
dir_given n limit view (dirs.ReadDirPlus dir cookie verf dircount maxcount) = refl

mount_given : (n : ℕ) (limit : Option ℕ) (view : View) (call : MountCall) → Steps (refused_with n (calls.Mount call)) limit view (calls.Mount call)
mount_given n limit view mounts.Null = shortened_stepped limit view (calls.Mount mounts.Null)
mount_given n limit view (mounts.Mnt path) = refl
mount_given n limit view (mounts.Umnt path) = shortened_stepped limit view (calls.Mount (mounts.Umnt path))
mount_given n limit view mounts.Export = shortened_stepped limit view (calls.Mount mounts.Export)

with_given : (n : ℕ) (limit : Option ℕ) (view : View) (call : Call) → Steps (refused_with n call) limit view call
with_given n limit view (calls.File call) = file_given n limit view call
with_given n limit view (calls.Dir call) = dir_given n limit view call
with_given n limit view (calls.Mount call) = mount_given n limit view call

by_given : (given : Option ℕ) (limit : Option ℕ) (view : View) (call : Call) → Steps (refused_by given call) limit view call
by_given None limit view call = shortened_stepped limit view call
by_given (Some n) limit view call = elim (n == 0) as (λ b. Steps (if b then None else refused_with n call) limit view call) [
  | true ↦ shortened_stepped limit view call
  | false ↦ with_given n limit view call
]

-- a call that broke off, or didn't
pub handled_stepped : (part : Option PartialWrite) (manner : Manner) (view : View) (call : Call) → stepped_with part view call (handled part manner view call).1 ≡ (handled part manner view call).0
handled_stepped None manner view call = by_given (status_for manner.mount manner.answer call) manner.limit view call
handled_stepped (Some part) manner view call = refl

-- ---- entries one after the other

-- what is known beside the entries from a place on
abbrev pub later : ℕ → (ℕ → Option PartialWrite) → ℕ → Option PartialWrite
later zero parts = parts
later (suc k) parts = later k (λ n. parts (suc n))

pub replayed-append : (parts : ℕ → Option PartialWrite) (view : View) (first second : List Entry) → replayed parts view (first ++ second) ≡ replayed (later (length first) parts) (replayed parts view first) second
replayed-append parts view [] second = refl
replayed-append parts view (entry ∷ first) second = replayed-append (λ n. parts (suc n)) (stepped (parts 0) view entry) first second

pub replayed_last : (parts : ℕ → Option PartialWrite) (view : View) (es : List Entry) (e : Entry) → replayed parts view (es ++ e ∷ []) ≡ stepped (parts (length es)) (replayed parts view es) e
replayed_last parts view [] e = refl
replayed_last parts view (x ∷ es) e = replayed_last (λ n. parts (suc n)) (stepped (parts 0) view x) es e

-- what is known beside later entries doesn't matter
abbrev pub Agree : ℕ → (ℕ → Option PartialWrite) → (ℕ → Option PartialWrite) → Type 0
Agree count p q = (n : ℕ) → n < count → p n ≡ q n

pub replayed_same : (p q : ℕ → Option PartialWrite) (view : View) (es : List Entry) → Agree (length es) p q → replayed p view es ≡ replayed q view es
replayed_same p q view [] h = refl
replayed_same p q view (e ∷ es) h =
    replayed_same (λ n. p (suc n)) (λ n. q (suc n)) (stepped (p 0) view e) es (λ n l. h (suc n) (omega (arith, l)))
    ∙ ap (λ (o : Option PartialWrite). replayed (λ n. q (suc n)) (stepped o view e) es) (h 0 (omega arith))

pub front_same : (p q : ℕ → Option PartialWrite) (view : View) (es : List Entry) → Agree (length es) p q → (n : ℕ) → replayed p view (take n es) ≡ replayed q view (take n es)
front_same p q view es h n = replayed_same p q view (take n es) (λ k l. h k (omega (arith, l, length-take n es)))

pub at_same : (p q : ℕ → Option PartialWrite) (view : View) (es : List Entry) → Agree (length es) p q → (n : ℕ) → at_of p view es n ≡ at_of q view es n
at_same p q view es h n = ap server_of (front_same p q view es h n)

pub told_same : (p q : ℕ → Option PartialWrite) (view : View) (es : List Entry) → Agree (length es) p q → told_of p view es ≡ told_of q view es
told_same p q view es h =
    let told : (ℕ → Server) → History = λ f. record { entries = es; at = f } in
    ap told (λ i n. at_same p q view es h n i)
