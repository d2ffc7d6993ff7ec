-- No step takes an object away.
use Rattle.std.proofs.Common.{◌≡◌, ◌≤◌, ◌+◌, ◌==◌, ◌∷◌, ◌++◌, [], Bool, true, false, ℕ, suc, List, length, take, Option, Some, None, refl, sym, ap, ◌∙◌, arith, if◌then◌else◌, inl, inr}
use Rattle.std.proofs.lemmas.Bool.{cases_Bool}
use Rattle.std.proofs.lemmas.List.{length-append}
use Rattle.nfs_types.specs.declared.set_attr.SetAttr.{SetAttr}
use Rattle.nfs_file_calls.specs.declared.call.FileCall.{FileCall}
use Rattle.nfs_file_calls.specs.declared.call.FileCall.TheVariants as files
use Rattle.nfs_dir_calls.specs.declared.call.DirCall.{DirCall}
use Rattle.nfs_dir_calls.specs.declared.call.DirCall.TheVariants as dirs
use Rattle.nfs_dir_calls.specs.declared.create.Making.{Making}
use Rattle.nfs_dir_calls.specs.declared.create.Making.TheVariants as makings
use Rattle.world_model.specs.declared.entry.Entry.{Entry}
use Rattle.world_model.specs.declared.entry.Entry.TheVariants as entries
use Rattle.world_model.specs.declared.message.Call.{Call}
use Rattle.world_model.specs.declared.message.Call.TheVariants as calls
use Rattle.world_model.specs.declared.message.Reply.{Reply}
use Rattle.export_fs.specs.declared.node.Node.{Node}
use Rattle.export_fs.specs.View.{View}
use Rattle.export_fs.specs.Parts.{place_of}
use Rattle.export_fs.specs.Names.{named}
use Rattle.export_fs.specs.Refusals.{file_refusal, dir_refusal, sets_nothing, same_place}
use Rattle.export_fs.specs.Changes.{changed, new_file, new_dir, new_link, with_set, entered, left, unnamed, removed, linked, moved, committed, written}
use Rattle.export_fs.specs.After as after
use Rattle.export_fs.specs.Executed.{file_executed, dir_executed, executed}
use Rattle.export_fs.specs.Partial.{after_part, partly_written, file_partly_executed, partly_executed}
use Rattle.export_fs.specs.Restart.{is_unsteady, restarted, all_restarted, after_restart, after_flush}
use Rattle.export_fs.proofs.Objects.{changed_length}
use Rattle.world_link.specs.declared.directive.PartialWrite.{PartialWrite}
use Rattle.world_link.specs.Replay.{cut, is_granted, stepped, stepped_by, stepped_with}

-- the second has as many objects as the first, or more
abbrev Grown : View → View → Type 0
Grown v w = length v.nodes ≤ length w.nodes

at-length : (f : Node → Node) (o : Option ℕ) (nodes : List Node) → length (after.changed_at f o nodes) ≡ length nodes
at-length f None nodes = refl
at-length f (Some q) nodes = changed_length f q nodes

same-grown : (v : View) → Grown v v
same-grown v = omega arith

from-equal : (a b : ℕ) → b ≡ a → a ≤ b
from-equal a b e = omega (arith, e)

from-more : (a b : ℕ) → b ≡ a + 1 → a ≤ b
from-more a b e = omega (arith, e)

-- ---- calls on files

set-grown : (v : View) (o : Option ℕ) (set : SetAttr) → Grown v (after.after_set_attr v o set)
set-grown v o set = from-equal (length v.nodes) (length (after.after_set_attr v o set).nodes) (at-length (with_set (after.next v) set) o v.nodes)

write-grown : (v : View) (f : List ℕ) (offset how : ℕ) (bytes : List ℕ) → Grown v (after.after_write v f offset how bytes)
write-grown v f offset how bytes = from-equal (length v.nodes) (length (after.after_write v f offset how bytes).nodes) (at-length (written (after.next v) offset how bytes) (place_of f) v.nodes)

commit-grown : (v : View) (f : List ℕ) (offset count : ℕ) → Grown v (after.after_commit v f offset count)
commit-grown v f offset count = from-equal (length v.nodes) (length (after.after_commit v f offset count).nodes) (at-length (committed offset count) (place_of f) v.nodes)

file-grown : (v : View) (call : FileCall) → Grown v (after.after_file v call)
file-grown v files.Null = same-grown v
file-grown v (files.GetAttr file) = same-grown v
file-grown v (files.SetAttr file set guard) = set-grown v (place_of file) set
file-grown v (files.Access file bits) = same-grown v
file-grown v (files.Read file offset count) = same-grown v
file-grown v (files.Write file offset how bytes) = write-grown v file offset how bytes
file-grown v (files.FsStat file) = same-grown v
file-grown v (files.FsInfo file) = same-grown v
file-grown v (files.PathConf file) = same-grown v
file-grown v (files.Commit file offset count) = commit-grown v file offset count

-- ---- calls on directories and names

make-grown : (v : View) (dir : Option ℕ) (name : List ℕ) (node : Node) → Grown v (after.after_making_at v dir name node)
make-grown v dir name node =
    from-more (length v.nodes) (length (after.after_making_at v dir name node).nodes) (at-length (entered (after.next v) name (length v.nodes)) dir (v.nodes ++ node ∷ []) ∙ length-append v.nodes (node ∷ []))

meet-grown : (v : View) (place : ℕ) (set : SetAttr) (b : Bool) → Grown v (if b then v else after.after_set_attr v (Some place) set)
meet-grown v place set true = same-grown v
meet-grown v place set false = set-grown v (Some place) set

unchecked-grown : (v : View) (dir name : List ℕ) (set : SetAttr) (o : Option ℕ) → Grown v (after.after_unchecked v dir name set o)
unchecked-grown v dir name set None = make-grown v (place_of dir) name (new_file (after.next v) set)
unchecked-grown v dir name set (Some place) = meet-grown v place set (sets_nothing set)

create-grown : (v : View) (dir name : List ℕ) (making : Making) → Grown v (after.after_create v dir name making)
create-grown v dir name (makings.Unchecked set) = unchecked-grown v dir name set (named v.nodes dir name)
create-grown v dir name (makings.Guarded set) = make-grown v (place_of dir) name (new_file (after.next v) set)
create-grown v dir name (makings.Exclusive verf) = same-grown v

remove-grown : (v : View) (dir name : List ℕ) → Grown v (after.after_remove v dir name)
remove-grown v dir name =
    from-equal (length v.nodes) (length (after.after_remove v dir name).nodes)
    (at-length (removed (after.next v)) (named v.nodes dir name) (after.leaves v dir name v.nodes) ∙ at-length (left (after.next v) name) (place_of dir) v.nodes)

move-grown : (v : View) (dir name to_dir to : List ℕ) (target : Option ℕ) (place : ℕ) → Grown v (after.after_moving v dir name to_dir to target place)
move-grown v dir name to_dir to target place =
    from-equal (length v.nodes) (length (after.after_moving v dir name to_dir to target place).nodes)
    (changed_length (moved (after.place_or_root to_dir)) place (after.changed_at unnamed target (after.leaves v dir name (after.enters v to_dir to place v.nodes)))
    ∙ at-length unnamed target (after.leaves v dir name (after.enters v to_dir to place v.nodes))
    ∙ at-length (left (after.next v) name) (place_of dir) (after.enters v to_dir to place v.nodes)
    ∙ at-length (entered (after.next v) to place) (place_of to_dir) v.nodes)

either-grown : (v w : View) (b : Bool) → Grown v w → Grown v (if b then v else w)
either-grown v w true g = same-grown v
either-grown v w false g = g

rename-grown : (v : View) (dir name to_dir to : List ℕ) (target o : Option ℕ) → Grown v (after.after_rename_of v dir name to_dir to target o)
rename-grown v dir name to_dir to target None = same-grown v
rename-grown v dir name to_dir to target (Some place) =
    either-grown v (after.after_moving v dir name to_dir to target place) (same_place (Some place) target) (move-grown v dir name to_dir to target place)

link-grown : (v : View) (dir name : List ℕ) (o : Option ℕ) → Grown v (after.after_linking v dir name o)
link-grown v dir name None = same-grown v
link-grown v dir name (Some place) =
    from-equal (length v.nodes) (length (after.after_linking_at v dir name place).nodes)
    (changed_length (linked (after.next v)) place (after.enters v dir name place v.nodes) ∙ at-length (entered (after.next v) name place) (place_of dir) v.nodes)

dir-grown : (v : View) (call : DirCall) → Grown v (after.after_dir v call)
dir-grown v (dirs.Lookup dir name) = same-grown v
dir-grown v (dirs.ReadLink file) = same-grown v
dir-grown v (dirs.Create dir name making) = create-grown v dir name making
dir-grown v (dirs.MkDir dir name set) = make-grown v (place_of dir) name (new_dir (after.place_or_root dir) (after.next v) set)
dir-grown v (dirs.SymLink dir name set target) = make-grown v (place_of dir) name (new_link target (after.next v) set)
dir-grown v (dirs.MkNod dir name node) = same-grown v
dir-grown v (dirs.Remove dir name) = remove-grown v dir name
dir-grown v (dirs.RmDir dir name) = remove-grown v dir name
dir-grown v (dirs.Rename dir name to_dir to) = rename-grown v dir name to_dir to (named v.nodes to_dir to) (named v.nodes dir name)
dir-grown v (dirs.Link file dir name) = link-grown v dir name (place_of file)
dir-grown v (dirs.ReadDir dir cookie verf count) = same-grown v
dir-grown v (dirs.ReadDirPlus dir cookie verf dircount maxcount) = same-grown v

-- ---- entries

if-grown : {R : Type 0} → (b : Bool) (v w : View) (x y : R) → Grown v w → Grown v (if◌then◌else◌ {A = View × R} b (w, x) (v, y)).0
if-grown true v w x y g = g
if-grown false v w x y g = same-grown v

done-grown : (v : View) (call : Call) → Grown v (executed v call).0
done-grown v (calls.File call) = if-grown (file_refusal v call == 0) v (after.after_file v call) _ _ (file-grown v call)
done-grown v (calls.Dir call) = if-grown (dir_refusal v call == 0) v (after.after_dir v call) _ _ (dir-grown v call)
done-grown v (calls.Mount call) = same-grown v

step-grown : (v : View) (call : Call) (reply : Reply) → Grown v (stepped_by v call reply)
step-grown v call reply = by (is_granted reply)
  where
    by : (b : Bool) → Grown v (if b then (executed v (cut call reply)).0 else v)
    by true = done-grown v (cut call reply)
    by false = same-grown v

part-grown : (v : View) (f : List ℕ) (offset : ℕ) (bytes : List ℕ) → Grown v (after_part v f offset bytes)
part-grown v f offset [] = same-grown v
part-grown v f offset (b ∷ bytes) = write-grown v f offset 0 (b ∷ bytes)

first : {A B : Type 0} → (b : Bool) (x y : A × B) (P : A → Type 0) → P x.0 → P y.0 → P (if◌then◌else◌ {A = A × B} b x y).0
first true x y P p q = p
first false x y P p q = q

file-part-grown : (v : View) (call : FileCall) (count status : ℕ) → Grown v (file_partly_executed v call count status).0
file-part-grown v files.Null count status = done-grown v (calls.File files.Null)
file-part-grown v (files.GetAttr file) count status = done-grown v (calls.File (files.GetAttr file))
file-part-grown v (files.SetAttr file set guard) count status = done-grown v (calls.File (files.SetAttr file set guard))
file-part-grown v (files.Access file bits) count status = done-grown v (calls.File (files.Access file bits))
file-part-grown v (files.Read file offset n) count status = done-grown v (calls.File (files.Read file offset n))
file-part-grown v (files.Write file offset how bytes) count status =
    first (file_refusal v (files.Write file offset how bytes) == 0) (partly_written v file offset (take count bytes) status) (file_executed v (files.Write file offset how bytes))
    (λ (w : View). Grown v w) (part-grown v file offset (take count bytes)) (done-grown v (calls.File (files.Write file offset how bytes)))
file-part-grown v (files.FsStat file) count status = done-grown v (calls.File (files.FsStat file))
file-part-grown v (files.FsInfo file) count status = done-grown v (calls.File (files.FsInfo file))
file-part-grown v (files.PathConf file) count status = done-grown v (calls.File (files.PathConf file))
file-part-grown v (files.Commit file offset n) count status = done-grown v (calls.File (files.Commit file offset n))

with-grown : (part : Option PartialWrite) (v : View) (call : Call) (reply : Reply) → Grown v (stepped_with part v call reply)
with-grown None v call reply = step-grown v call reply
with-grown (Some part) v (calls.File call) reply = file-part-grown v call part.bytes part.status
with-grown (Some part) v (calls.Dir call) reply = done-grown v (calls.Dir call)
with-grown (Some part) v (calls.Mount call) reply = done-grown v (calls.Mount call)

restart-length : (counter : ℕ) (nodes : List Node) → length (all_restarted counter nodes) ≡ length nodes
restart-length counter [] = refl
restart-length counter (n ∷ nodes) = elim (cases_Bool (is_unsteady n)) [
  | inl u ↦
      let a : all_restarted counter (n ∷ nodes) ≡ restarted (counter + 1) n ∷ all_restarted (counter + 1) nodes = simp u in
      ap length a ∙ ap suc (restart-length (counter + 1) nodes)
  | inr f ↦
      let a : all_restarted counter (n ∷ nodes) ≡ n ∷ all_restarted counter nodes = simp f in
      ap length a ∙ ap suc (restart-length counter nodes)
]

flush-grown : (v : View) (file : List ℕ) (start count : ℕ) → Grown v (after_flush v file start count)
flush-grown v file start count = from-equal (length v.nodes) (length (after_flush v file start count).nodes) (at-length (committed start count) (place_of file) v.nodes)

restart-grown : (v : View) → Grown v (after_restart v)
restart-grown v = from-equal (length v.nodes) (length (after_restart v).nodes) (restart-length v.counter v.nodes)

-- an entry takes no object away
pub grows : (part : Option PartialWrite) (v : View) (e : Entry) → length v.nodes ≤ length (stepped part v e).nodes
grows part v (entries.Began lane line op) = same-grown v
grows part v (entries.Answered lane line answer) = same-grown v
grows part v (entries.Dialed port) = same-grown v
grows part v (entries.Sent bytes) = same-grown v
grows part v (entries.Executed xid call reply) = with-grown part v call reply
grows part v (entries.Foreign call reply) = step-grown v call reply
grows part v (entries.Flushed file from len) = flush-grown v file from len
grows part v (entries.Reboot verf) = restart-grown v
grows part v (entries.Delivered bytes) = same-grown v
grows part v entries.Failed = same-grown v
grows part v (entries.Clock ms) = same-grown v
