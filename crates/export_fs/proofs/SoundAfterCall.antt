-- Each call leaves the export sound.
use Rattle.std.proofs.Common.{◌≡◌, ◌<◌, ◌||◌, ◌&&◌, not, ℕ, Bool, false, List, length, Option, Some, None, refl, sym, ap, subst, ◌∙◌, arith, ◌==◌}
use Rattle.std.specs.Prelude.{is_some, is_none}
use Rattle.std.proofs.lemmas.Bool.{cond_both, eqb-true, or_parts}
use Rattle.nfs_types.specs.declared.set_attr.SetAttr.{SetAttr}
use Rattle.nfs_file_calls.specs.declared.call.FileCall.{FileCall}
use Rattle.nfs_file_calls.specs.declared.call.FileCall.TheVariants as files
use Rattle.nfs_file_calls.specs.declared.owned.FileKept.{FileKept}
use Rattle.nfs_dir_calls.specs.declared.call.DirCall.{DirCall}
use Rattle.nfs_dir_calls.specs.declared.call.DirCall.TheVariants as dirs
use Rattle.nfs_dir_calls.specs.declared.create.Making.{Making}
use Rattle.nfs_dir_calls.specs.declared.create.Making.TheVariants as makings
use Rattle.nfs_dir_calls.specs.declared.keeping.DirKept.{DirKept}
use Rattle.world_model.specs.declared.message.Call.{Call}
use Rattle.world_model.specs.declared.message.Call.TheVariants as calls
use Rattle.export_fs.specs.declared.node.Holds.{Holds}
use Rattle.export_fs.specs.declared.node.Holds.TheVariants.{File, Directory, Link}
use Rattle.export_fs.specs.View.{View}
use Rattle.export_fs.specs.Parts.{last_number, place_of, rows_of}
use Rattle.export_fs.specs.Names.{named, is_own_name}
use Rattle.export_fs.specs.Refusals.{file_refusal, dir_refusal, sets_nothing, is_full, is_making}
use Rattle.export_fs.specs.Changes.{new_file, new_dir, new_link, with_set, with_size, written, with_bytes, committed, with_stable}
use Rattle.export_fs.specs.After.{next, after_file, after_dir, after_set_attr, after_unchecked, after_linking, after_rename, place_or_root}
use Rattle.export_fs.specs.Answer.{file_answer, file_refused, dir_answer, dir_refused}
use Rattle.export_fs.specs.Executed.{executed}
use Rattle.export_fs.specs.Sound.{Sound}
use Rattle.export_fs.specs.Spelled.{IsDirSpelled, HandlesAreBytes}
use Rattle.export_fs.proofs.RefusalTable.{file_passes, dir_passes}
use Rattle.export_fs.proofs.ServesFileCalls.{sized_kind, written_kind, stable_kind}
use Rattle.export_fs.proofs.DirectoryNames.{numbers_left}
use Rattle.export_fs.proofs.ContentStaysSound.{held_sized, held_written, held_committed}
use Rattle.export_fs.proofs.ServesCreates.{Unchecked, fresh, meets, unchecked, guarded_name, mkdir_name, symlink_name, linking}
use Rattle.export_fs.proofs.ServesRemoves.{removal_is, remove_call, rmdir_call}
use Rattle.export_fs.proofs.ServesRename.{moving, keeping, renaming}
use Rattle.export_fs.proofs.SoundAfterChange.{one_stays, IsNew, made_stays}
use Rattle.export_fs.proofs.SoundAfterNames.{removed_stays, linked_stays, moved_stays}

-- ---- calls on files

pub sized_rows : (size : Option ℕ) (holds : Holds) → rows_of (with_size size holds) ≡ rows_of holds
sized_rows None holds = refl
sized_rows (Some size) (File content) = refl
sized_rows (Some size) (Directory listing) = refl
sized_rows (Some size) (Link text) = refl

written_rows : (offset how : ℕ) (bytes : List ℕ) (holds : Holds) → rows_of (with_bytes offset how bytes holds) ≡ rows_of holds
written_rows offset how bytes (File content) = refl
written_rows offset how bytes (Directory listing) = refl
written_rows offset how bytes (Link text) = refl

stable_rows : (offset count : ℕ) (holds : Holds) → rows_of (with_stable offset count holds) ≡ rows_of holds
stable_rows offset count (File content) = refl
stable_rows offset count (Directory listing) = refl
stable_rows offset count (Link text) = refl

set_stays : (v : View) → Sound v → (place : Option ℕ) (set : SetAttr) → v.counter < last_number → Sound (after_set_attr v place set)
set_stays v s place set room =
    one_stays v (after_set_attr v place set) s (with_set (next v) set) place
    (record {
      nodes = refl;
      reboots = refl;
      above = omega arith;
      below = omega (arith, room);
      counts = λ node. record { kind = sized_kind set.size node.holds; gone = refl; nlink = refl };
      rows = λ node. sized_rows set.size node.holds;
      held = λ count p node h. held_sized count p set.size node.holds h;
    })

pub write_stays : (v : View) → Sound v → (file : List ℕ) (offset how : ℕ) (bytes : List ℕ) → v.counter < last_number → Sound (after_file v (files.Write file offset how bytes))
write_stays v s file offset how bytes room =
    one_stays v (after_file v (files.Write file offset how bytes)) s (written (next v) offset how bytes) (place_of file)
    (record {
      nodes = refl;
      reboots = refl;
      above = omega arith;
      below = omega (arith, room);
      counts = λ node. record { kind = written_kind offset how bytes node.holds; gone = refl; nlink = refl };
      rows = λ node. written_rows offset how bytes node.holds;
      held = λ count q node h. held_written count q offset how bytes node.holds h;
    })

stays_file : (v : View) (call : FileCall) → Sound v → file_refusal v call ≡ 0 → Sound (after_file v call)
stays_file v files.Null s e = s
stays_file v (files.GetAttr file) s e = s
stays_file v (files.SetAttr file set guard) s e = let p = file_passes v (files.SetAttr file set guard) file e in set_stays v s (place_of file) set (numbers_left v p.full)
stays_file v (files.Access file bits) s e = s
stays_file v (files.Read file offset count) s e = s
stays_file v (files.Write file offset how bytes) s e =
    let p = file_passes v (files.Write file offset how bytes) file e in
    write_stays v s file offset how bytes (numbers_left v p.full)
stays_file v (files.FsStat file) s e = s
stays_file v (files.FsInfo file) s e = s
stays_file v (files.PathConf file) s e = s
stays_file v (files.Commit file offset count) s e =
    one_stays v (after_file v (files.Commit file offset count)) s (committed offset count) (place_of file)
    (record {
      nodes = refl;
      reboots = refl;
      above = omega arith;
      below = s.numbers;
      counts = λ node. record { kind = stable_kind offset count node.holds; gone = refl; nlink = refl };
      rows = λ node. stable_rows offset count node.holds;
      held = λ n q node h. held_committed n q offset count node.holds h;
    })

-- ---- objects as calls make them

pub file_new : (count number : ℕ) (set : SetAttr) → IsNew count (new_file number set)
file_new count number set = record { live = refl; bare = refl; held = λ more place. omega arith; links = λ e. refl }

pub dir_new : (count parent number : ℕ) (set : SetAttr) → IsNew count (new_dir parent number set)
dir_new count parent number set = record { live = refl; bare = refl; held = λ more place. record { entries = λ at row e. absurd (cc); once = λ name. refl }; links = λ e. absurd (cc) }

link_new : (count number : ℕ) (text : List ℕ) (set : SetAttr) → IsNew count (new_link text number set)
link_new count number text set = record { live = refl; bare = refl; held = λ more place. tt; links = λ e. refl }

-- ---- calls on names

untaken_own : (v : View) (dir name : List ℕ) → (is_own_name name || is_some (named v.nodes dir name)) ≡ false → is_own_name name ≡ false
untaken_own v dir name e = (or_parts (is_own_name name) (is_some (named v.nodes dir name)) e).0

-- an UNCHECKED over a file takes a number where it sets something
met_full : (v : View) (dir name : List ℕ) (set : SetAttr) (place : ℕ) → named v.nodes dir name ≡ Some place → (is_making v.nodes dir name (makings.Unchecked set) && is_full v) ≡ false → sets_nothing set ≡ false → is_full v ≡ false
met_full v dir name set place is e n =
    let a : (not (sets_nothing set) && is_full v) ≡ false = ap (λ (o : Option ℕ). (is_none o || not (sets_nothing set)) && is_full v) (sym is) ∙ e in
    ap (λ (b : Bool). not b && is_full v) (sym n) ∙ a

unchecked_stays : (v : View) → Sound v → (dir name : List ℕ) (set : SetAttr) → is_own_name name ≡ false → (is_making v.nodes dir name (makings.Unchecked set) && is_full v) ≡ false → Unchecked v dir name → Sound (after_unchecked v dir name set (named v.nodes dir name))
unchecked_stays v s dir name set own full u =
    let P : Option ℕ → Type 0 = λ o. Sound (after_unchecked v dir name set o) in
    elim u [
      | fresh n is ↦ subst P (sym is) (made_stays v s dir name n (new_file (next v) set) (file_new (length v.nodes) (next v) set) own)
      | meets m is ↦ subst P (sym is) (cond_both (sets_nothing set) v (after_set_attr v (Some m.named.row.place) set) Sound (λ e. s) (λ e. set_stays v s (Some m.named.row.place) set (numbers_left v (met_full v dir name set m.named.row.place is full e))))
    ]

creates_stays : (v : View) → Sound v → (dir name : List ℕ) (making : Making) → IsDirSpelled (dirs.Create dir name making) → dir_refusal v (dirs.Create dir name making) ≡ 0 → Sound (after_dir v (dirs.Create dir name making))
creates_stays v s dir name (makings.Unchecked set) b e =
    let p = dir_passes v (dirs.Create dir name (makings.Unchecked set)) e in
    unchecked_stays v s dir name set (or_parts (is_own_name name) _ p.there).0 p.full (unchecked v s dir name set b e)
creates_stays v s dir name (makings.Guarded set) b e =
    let p = dir_passes v (dirs.Create dir name (makings.Guarded set)) e in
    made_stays v s dir name (guarded_name v dir name set b e) (new_file (next v) set) (file_new (length v.nodes) (next v) set) (untaken_own v dir name p.there)
creates_stays v s dir name (makings.Exclusive verf) b e = s

renames_stay : (v : View) → Sound v → (dir name to_dir to : List ℕ) → IsDirSpelled (dirs.Rename dir name to_dir to) → dir_refusal v (dirs.Rename dir name to_dir to) ≡ 0 → Sound (after_rename v dir name to_dir to)
renames_stay v s dir name to_dir to b e =
    let p = dir_passes v (dirs.Rename dir name to_dir to) e in
    elim (renaming v s dir name to_dir to b e) [
      | moving t m is d ↦
          let full : is_full v ≡ false = ap (λ (x : Bool). not x && is_full v) (sym d) ∙ p.full in
          subst Sound (sym is) (moved_stays v s dir name to_dir to t m (numbers_left v full))
      | keeping n q same is ↦ subst Sound (sym is) s
    ]

stays_dir : (v : View) (call : DirCall) → Sound v → IsDirSpelled call → dir_refusal v call ≡ 0 → Sound (after_dir v call)
stays_dir v (dirs.Lookup dir name) s b e = s
stays_dir v (dirs.ReadLink link) s b e = s
stays_dir v (dirs.Create dir name making) s b e = creates_stays v s dir name making b e
stays_dir v (dirs.MkDir dir name set) s b e =
    let p = dir_passes v (dirs.MkDir dir name set) e in
    made_stays v s dir name (mkdir_name v dir name set b e) (new_dir (place_or_root dir) (next v) set) (dir_new (length v.nodes) (place_or_root dir) (next v) set) (untaken_own v dir name p.there)
stays_dir v (dirs.SymLink dir name set target) s b e =
    let p = dir_passes v (dirs.SymLink dir name set target) e in
    made_stays v s dir name (symlink_name v dir name set target b e) (new_link target (next v) set) (link_new (length v.nodes) (next v) target set) (untaken_own v dir name p.there)
stays_dir v (dirs.MkNod dir name node) s b e = s
stays_dir v (dirs.Remove dir name) s b e =
    let p = dir_passes v (dirs.Remove dir name) e in
    let r = remove_call v s dir name b e in
    subst Sound (sym (removal_is v dir name r)) (removed_stays v s dir name r (numbers_left v p.full))
stays_dir v (dirs.RmDir dir name) s b e =
    let p = dir_passes v (dirs.RmDir dir name) e in
    let r = rmdir_call v s dir name b e in
    subst Sound (sym (removal_is v dir name r)) (removed_stays v s dir name r (numbers_left v p.full))
stays_dir v (dirs.Rename dir name to_dir to) s b e = renames_stay v s dir name to_dir to b e
stays_dir v (dirs.Link link dir name) s b e =
    let l = linking v link dir name b e in
    subst (λ (o : Option ℕ). Sound (after_linking v dir name o)) (sym l.file_is.place_is) (linked_stays v s link dir name l)
stays_dir v (dirs.ReadDir dir cookie verf count) s b e = s
stays_dir v (dirs.ReadDirPlus dir cookie verf dircount maxcount) s b e = s

pub stays_sound : (v : View) (call : Call) → Sound v → HandlesAreBytes call → Sound (executed v call).0
stays_sound v (calls.File call) s b =
    cond_both (file_refusal v call == 0) (after_file v call, file_answer v (after_file v call) call) (v, file_refused v.nodes (file_refusal v call) call) (λ (z : View × FileKept). Sound z.0) (λ e. stays_file v call s (eqb-true (file_refusal v call) 0 e)) (λ e. s)
stays_sound v (calls.Dir call) s b =
    cond_both (dir_refusal v call == 0) (after_dir v call, dir_answer v (after_dir v call) call) (v, dir_refused v.nodes (dir_refusal v call) call) (λ (z : View × DirKept). Sound z.0) (λ e. stays_dir v call s b (eqb-true (dir_refusal v call) 0 e)) (λ e. s)
stays_sound v (calls.Mount call) s b = s
