-- Each call, each restart and each flush of the export is a step: no object goes, and what changes takes a new number.
use Rattle.std.proofs.Common.{◌≡◌, ◌≤◌, ◌+◌, ◌-◌, ℕ, zero, suc, true, false, List, [], ◌∷◌, ◌++◌, length, take, Option, Some, None, refl, sym, ap, subst, arith, ⊎_elim, ◌==◌, slice_get, filter}
use Rattle.std.proofs.lemmas.Bool.{cases_Bool, cases_eq, cond_both}
use Rattle.std.proofs.lemmas.List.Sums.{length-filter}
use Rattle.nfs_types.specs.declared.set_attr.SetAttr.{SetAttr}
use Rattle.nfs_file_calls.specs.declared.call.FileCall.{FileCall}
use Rattle.nfs_file_calls.specs.declared.call.FileCall.TheVariants as files
use Rattle.nfs_file_calls.specs.declared.owned.FileKept.{FileKept}
use Rattle.nfs_dir_calls.specs.declared.call.DirCall.{DirCall}
use Rattle.nfs_dir_calls.specs.declared.call.DirCall.TheVariants as dirs
use Rattle.nfs_dir_calls.specs.declared.create.Making.{Making}
use Rattle.nfs_dir_calls.specs.declared.create.Making.TheVariants as makings
use Rattle.nfs_dir_calls.specs.declared.keeping.DirKept.{DirKept}
use Rattle.world_model.specs.declared.message.Call.{Call}
use Rattle.world_model.specs.declared.message.Call.TheVariants as calls
use Rattle.world_model.specs.NameService.{keeps_all}
use Rattle.export_fs.specs.declared.node.Node.{Node}
use Rattle.export_fs.specs.View.{View}
use Rattle.export_fs.specs.Parts.{place_of}
use Rattle.export_fs.specs.Names.{named}
use Rattle.export_fs.specs.Refusals.{file_refusal, dir_refusal, sets_nothing, same_place}
use Rattle.export_fs.specs.Changes.{put_node, changed, new_file, new_dir, new_link, with_set, written, committed, entered, left, unnamed, removed, linked, moved}
use Rattle.export_fs.specs.After.{next, takes, changed_at, after_set_attr, after_file, enters, leaves, after_making_at, after_unchecked, after_create, place_or_root, after_remove, after_moving, after_rename_of, after_linking, after_dir}
use Rattle.export_fs.specs.Answer.{file_answer, file_refused, dir_answer, dir_refused}
use Rattle.export_fs.specs.Executed.{executed}
use Rattle.export_fs.specs.Restart.{is_unsteady, restarted, all_restarted, after_restart, after_flush}
use Rattle.export_fs.specs.Placing.{walked, new_object, after_placing, may_place, placed_in, placed_last, placed}
use Rattle.export_fs.specs.Stamped.{IsStamped, Stamped, Goes, GoesAt, Proceeds}
use Rattle.export_fs.proofs.Objects.{get_last, get_past, get_front_other, changed_same, changed_other}
use Rattle.export_fs.proofs.Stamps.{same_at, then_at, Moves, set_moves, written_moves, committed_moves, entered_moves, left_moves, unnamed_moves, removed_moves, linked_moves, moved_moves, restarted_moves}

-- ---- lists of objects

abbrev pub Keeps : ℕ → ℕ → List Node → List Node → Type 0
Keeps before after old new = (place : ℕ) → GoesAt before after (slice_get old place) (slice_get new place)

pub keeps_then : (before after : ℕ) (a b c : List Node) → Keeps before after a b → Keeps before after b c → Keeps before after a c
keeps_then before after a b c p q place = then_at before after (slice_get a place) (slice_get b place) (slice_get c place) (p place) (q place)

alike_at : (before after : ℕ) (a b : Option Node) → b ≡ a → GoesAt before after a b
alike_at before after a b e = subst (GoesAt before after a) (sym e) (same_at before after a)

pub changed_keeps : (before after : ℕ) (change : Node → Node) (place : ℕ) (nodes : List Node) → Moves before after change → Keeps before after nodes (changed change place nodes)
changed_keeps before after change place nodes moves p =
    ⊎_elim (λ (s : p ≡ place). subst (λ (q : ℕ). GoesAt before after (slice_get nodes q) (slice_get (changed change place nodes) q)) (sym s) (here (slice_get nodes place) refl))
    (λ (d : p ≡ place → ⊥). alike_at before after (slice_get nodes p) (slice_get (changed change place nodes) p) (changed_other change place p nodes d))
    (cases_eq p place) where
      here : (o : Option Node) → slice_get nodes place ≡ o → GoesAt before after (slice_get nodes place) (slice_get (changed change place nodes) place)
      here None e = alike_at before after (slice_get nodes place) (slice_get (changed change place nodes) place) (ap (λ (o : Option Node). slice_get (put_node nodes place change o) place) e)
      here (Some node) e =
          subst (λ (o : Option Node). GoesAt before after o (slice_get (changed change place nodes) place)) (sym e)
          (subst (GoesAt before after (Some node)) (sym (changed_same change place nodes node e)) (moves node))

pub changed_at_keeps : (before after : ℕ) (change : Node → Node) (place : Option ℕ) (nodes : List Node) → Moves before after change → Keeps before after nodes (changed_at change place nodes)
changed_at_keeps before after change None nodes moves p = same_at before after (slice_get nodes p)
changed_at_keeps before after change (Some place) nodes moves p = changed_keeps before after change place nodes moves p

pub more_keeps : (before after : ℕ) (nodes : List Node) (node : Node) → IsStamped after node → Keeps before after nodes (nodes ++ node ∷ [])
more_keeps before after nodes node s p =
    ⊎_elim (λ (e : p ≡ length nodes).
    subst (λ (q : ℕ). GoesAt before after (slice_get nodes q) (slice_get (nodes ++ node ∷ []) q)) (sym e)
    (subst (λ (o : Option Node). GoesAt before after o (slice_get (nodes ++ node ∷ []) (length nodes))) (sym (get_past nodes))
    (subst (GoesAt before after None) (sym (get_last nodes node)) s)))
    (λ (d : p ≡ length nodes → ⊥). alike_at before after (slice_get nodes p) (slice_get (nodes ++ node ∷ []) p) (get_front_other nodes node p d))
    (cases_eq p (length nodes))

-- ---- the export

pub stays : (v : View) → Proceeds v v
stays v = record { counter = omega arith; objects = λ place. same_at v.counter v.counter (slice_get v.nodes place) }

-- a change that takes a number
takes_proceeds : (v : View) (nodes : List Node) → Keeps v.counter (next v) v.nodes nodes → Proceeds v (takes v nodes)
takes_proceeds v nodes k = record { counter = omega arith; objects = k }

-- a step that takes none
keeps_proceeds : (v : View) (nodes : List Node) → Keeps v.counter v.counter v.nodes nodes → Proceeds v (record v { nodes = nodes })
keeps_proceeds v nodes k = record { counter = omega arith; objects = k }

-- ---- calls on files

set_proceeds : (v : View) (place : Option ℕ) (set : SetAttr) → Proceeds v (after_set_attr v place set)
set_proceeds v place set =
    takes_proceeds v (changed_at (with_set (next v) set) place v.nodes) (changed_at_keeps v.counter (next v) (with_set (next v) set) place v.nodes (set_moves v.counter (next v) (next v) set (omega arith) (omega arith)))

pub file_proceeds : (v : View) (call : FileCall) → Proceeds v (after_file v call)
file_proceeds v files.Null = stays v
file_proceeds v (files.GetAttr file) = stays v
file_proceeds v (files.SetAttr file set guard) = set_proceeds v (place_of file) set
file_proceeds v (files.Access file bits) = stays v
file_proceeds v (files.Read file offset count) = stays v
file_proceeds v (files.Write file offset how bytes) =
    takes_proceeds v (changed_at (written (next v) offset how bytes) (place_of file) v.nodes)
    (changed_at_keeps v.counter (next v) (written (next v) offset how bytes) (place_of file) v.nodes (written_moves v.counter (next v) (next v) offset how bytes (omega arith) (omega arith)))
file_proceeds v (files.FsStat file) = stays v
file_proceeds v (files.FsInfo file) = stays v
file_proceeds v (files.PathConf file) = stays v
file_proceeds v (files.Commit file offset count) =
    keeps_proceeds v (changed_at (committed offset count) (place_of file) v.nodes) (changed_at_keeps v.counter v.counter (committed offset count) (place_of file) v.nodes (committed_moves v.counter v.counter offset count))

-- ---- calls on names

enters_keeps : (v : View) (dir name : List ℕ) (place : ℕ) (nodes : List Node) → Keeps v.counter (next v) nodes (enters v dir name place nodes)
enters_keeps v dir name place nodes = changed_at_keeps v.counter (next v) (entered (next v) name place) (place_of dir) nodes (entered_moves v.counter (next v) (next v) name place (omega arith) (omega arith))

leaves_keeps : (v : View) (dir name : List ℕ) (nodes : List Node) → Keeps v.counter (next v) nodes (leaves v dir name nodes)
leaves_keeps v dir name nodes = changed_at_keeps v.counter (next v) (left (next v) name) (place_of dir) nodes (left_moves v.counter (next v) (next v) name (omega arith) (omega arith))

making_proceeds : (v : View) (dir : Option ℕ) (name : List ℕ) (node : Node) → IsStamped (next v) node → Proceeds v (after_making_at v dir name node)
making_proceeds v dir name node s =
    let more : List Node = v.nodes ++ node ∷ [] in
    let change : Node → Node = entered (next v) name (length v.nodes) in
    takes_proceeds v (changed_at change dir more)
    (keeps_then v.counter (next v) v.nodes more (changed_at change dir more) (more_keeps v.counter (next v) v.nodes node s)
    (changed_at_keeps v.counter (next v) change dir more (entered_moves v.counter (next v) (next v) name (length v.nodes) (omega arith) (omega arith))))

file_stamped : (number : ℕ) (set : SetAttr) → IsStamped number (new_file number set)
file_stamped number set = record { mtime = omega arith; ctime = omega arith; rising = refl; given = omega arith }

dir_stamped : (parent number : ℕ) (set : SetAttr) → IsStamped number (new_dir parent number set)
dir_stamped parent number set = record { mtime = omega arith; ctime = omega arith; rising = refl; given = omega arith }

link_stamped : (number : ℕ) (set : SetAttr) (text : List ℕ) → IsStamped number (new_link text number set)
link_stamped number set text = record { mtime = omega arith; ctime = omega arith; rising = refl; given = omega arith }

unchecked_proceeds : (v : View) (dir name : List ℕ) (set : SetAttr) (there : Option ℕ) → Proceeds v (after_unchecked v dir name set there)
unchecked_proceeds v dir name set None = making_proceeds v (place_of dir) name (new_file (next v) set) (file_stamped (next v) set)
unchecked_proceeds v dir name set (Some place) = cond_both (sets_nothing set) v (after_set_attr v (Some place) set) (Proceeds v) (λ e. stays v) (λ e. set_proceeds v (Some place) set)

create_proceeds : (v : View) (dir name : List ℕ) (making : Making) → Proceeds v (after_create v dir name making)
create_proceeds v dir name (makings.Unchecked set) = unchecked_proceeds v dir name set (named v.nodes dir name)
create_proceeds v dir name (makings.Guarded set) = making_proceeds v (place_of dir) name (new_file (next v) set) (file_stamped (next v) set)
create_proceeds v dir name (makings.Exclusive verf) = stays v

remove_proceeds : (v : View) (dir name : List ℕ) → Proceeds v (after_remove v dir name)
remove_proceeds v dir name =
    let less : List Node = leaves v dir name v.nodes in
    let all : List Node = changed_at (removed (next v)) (named v.nodes dir name) less in
    takes_proceeds v all
    (keeps_then v.counter (next v) v.nodes less all (leaves_keeps v dir name v.nodes)
    (changed_at_keeps v.counter (next v) (removed (next v)) (named v.nodes dir name) less (removed_moves v.counter (next v) (next v) (omega arith) (omega arith))))

moving_proceeds : (v : View) (dir name to_dir to : List ℕ) (target : Option ℕ) (place : ℕ) → Proceeds v (after_moving v dir name to_dir to target place)
moving_proceeds v dir name to_dir to target place =
    let one : List Node = enters v to_dir to place v.nodes in
    let two : List Node = leaves v dir name one in
    let three : List Node = changed_at unnamed target two in
    let four : List Node = changed (moved (place_or_root to_dir)) place three in
    let a = keeps_then v.counter (next v) v.nodes one two (enters_keeps v to_dir to place v.nodes) (leaves_keeps v dir name one) in
    let b = keeps_then v.counter (next v) v.nodes two three a (changed_at_keeps v.counter (next v) unnamed target two (unnamed_moves v.counter (next v))) in
    takes_proceeds v four (keeps_then v.counter (next v) v.nodes three four b (changed_keeps v.counter (next v) (moved (place_or_root to_dir)) place three (moved_moves v.counter (next v) (place_or_root to_dir))))

rename_proceeds : (v : View) (dir name to_dir to : List ℕ) (target place : Option ℕ) → Proceeds v (after_rename_of v dir name to_dir to target place)
rename_proceeds v dir name to_dir to target None = stays v
rename_proceeds v dir name to_dir to target (Some place) =
    cond_both (same_place (Some place) target) v (after_moving v dir name to_dir to target place) (Proceeds v) (λ e. stays v) (λ e. moving_proceeds v dir name to_dir to target place)

linking_proceeds : (v : View) (dir name : List ℕ) (place : Option ℕ) → Proceeds v (after_linking v dir name place)
linking_proceeds v dir name None = stays v
linking_proceeds v dir name (Some place) =
    let one : List Node = enters v dir name place v.nodes in
    let two : List Node = changed (linked (next v)) place one in
    takes_proceeds v two
    (keeps_then v.counter (next v) v.nodes one two (enters_keeps v dir name place v.nodes)
    (changed_keeps v.counter (next v) (linked (next v)) place one (linked_moves v.counter (next v) (next v) (omega arith) (omega arith))))

dir_proceeds : (v : View) (call : DirCall) → Proceeds v (after_dir v call)
dir_proceeds v (dirs.Lookup dir name) = stays v
dir_proceeds v (dirs.ReadLink link) = stays v
dir_proceeds v (dirs.Create dir name making) = create_proceeds v dir name making
dir_proceeds v (dirs.MkDir dir name set) = making_proceeds v (place_of dir) name (new_dir (place_or_root dir) (next v) set) (dir_stamped (place_or_root dir) (next v) set)
dir_proceeds v (dirs.SymLink dir name set target) = making_proceeds v (place_of dir) name (new_link target (next v) set) (link_stamped (next v) set target)
dir_proceeds v (dirs.MkNod dir name node) = stays v
dir_proceeds v (dirs.Remove dir name) = remove_proceeds v dir name
dir_proceeds v (dirs.RmDir dir name) = remove_proceeds v dir name
dir_proceeds v (dirs.Rename dir name to_dir to) = rename_proceeds v dir name to_dir to (named v.nodes to_dir to) (named v.nodes dir name)
dir_proceeds v (dirs.Link link dir name) = linking_proceeds v dir name (place_of link)
dir_proceeds v (dirs.ReadDir dir cookie verf count) = stays v
dir_proceeds v (dirs.ReadDirPlus dir cookie verf dircount maxcount) = stays v

pub executed_proceeds : (v : View) (call : Call) → Proceeds v (executed v call).0
executed_proceeds v (calls.File call) =
    cond_both (file_refusal v call == 0) (after_file v call, file_answer v (after_file v call) call) (v, file_refused v.nodes (file_refusal v call) call) (λ (z : View × FileKept). Proceeds v z.0) (λ e. file_proceeds v call) (λ e. stays v)
executed_proceeds v (calls.Dir call) =
    cond_both (dir_refusal v call == 0) (after_dir v call, dir_answer v (after_dir v call) call) (v, dir_refused v.nodes (dir_refusal v call) call) (λ (z : View × DirKept). Proceeds v z.0) (λ e. dir_proceeds v call) (λ e. stays v)
executed_proceeds v (calls.Mount call) = stays v

-- ---- restarts

restart_keeps : (before after counter : ℕ) (nodes : List Node) → before ≤ counter → counter + length (filter is_unsteady nodes) ≤ after → Keeps before after nodes (all_restarted counter nodes)
restart_keeps before after counter [] l h place = same_at before after (slice_get [] place)
restart_keeps before after counter (node ∷ nodes) l h place =
    ⊎_elim (λ (u : is_unsteady node ≡ true).
    let c : length (filter is_unsteady (node ∷ nodes)) ≡ suc (length (filter is_unsteady nodes)) = simp u in
    let a : all_restarted counter (node ∷ nodes) ≡ restarted (counter + 1) node ∷ all_restarted (counter + 1) nodes = simp u in
    subst (λ (z : List Node). GoesAt before after (slice_get (node ∷ nodes) place) (slice_get z place)) (sym a)
    (first place (restarted (counter + 1) node) (all_restarted (counter + 1) nodes) (restarted_moves before after (counter + 1) (omega arith) (omega (arith, c)) node) (restart_keeps before after (counter + 1) nodes (omega arith) (omega (arith, c)))))
    (λ (u : is_unsteady node ≡ false).
    let c : length (filter is_unsteady (node ∷ nodes)) ≡ length (filter is_unsteady nodes) = simp u in
    let a : all_restarted counter (node ∷ nodes) ≡ node ∷ all_restarted counter nodes = simp u in
    subst (λ (z : List Node). GoesAt before after (slice_get (node ∷ nodes) place) (slice_get z place)) (sym a)
    (first place node (all_restarted counter nodes) (same_at before after (Some node)) (restart_keeps before after counter nodes l (omega (arith, c)))))
    (cases_Bool (is_unsteady node)) where
      first : (p : ℕ) (new : Node) (rest : List Node) → Goes before after node new → Keeps before after nodes rest → GoesAt before after (slice_get (node ∷ nodes) p) (slice_get (new ∷ rest) p)
      first zero new rest g k = g
      first (suc p) new rest g k = k p

pub restart_proceeds : (v : View) → Proceeds v (after_restart v)
restart_proceeds v = record { counter = omega arith; objects = restart_keeps v.counter (after_restart v).counter v.counter v.nodes (omega arith) (omega (arith, length-filter is_unsteady v.nodes)) }

pub flush_proceeds : (v : View) (file : List ℕ) (start count : ℕ) → Proceeds v (after_flush v file start count)
flush_proceeds v file start count =
    keeps_proceeds v (changed_at (committed start count) (place_of file) v.nodes) (changed_at_keeps v.counter v.counter (committed start count) (place_of file) v.nodes (committed_moves v.counter v.counter start count))

-- ---- objects that are placed

object_stamped : (parent number : ℕ) (file : Option (List ℕ)) → IsStamped number (new_object parent number file)
object_stamped parent number None = dir_stamped parent number keeps_all
object_stamped parent number (Some bytes) = record { mtime = omega arith; ctime = omega arith; rising = refl; given = omega arith }

placed_in_proceeds : (v w : View) (name : List ℕ) (file : Option (List ℕ)) (dir : Option ℕ) → placed_in v name file dir ≡ Some w → Proceeds v w
placed_in_proceeds v w name file None e = absurd (cc)
placed_in_proceeds v w name file (Some dir) e =
    ⊎_elim (λ (m : may_place v dir name ≡ true).
    let f : Some (after_placing v dir name file) ≡ Some w = simp m at e in
    let same : after_placing v dir name file ≡ w = cc in
    subst (Proceeds v) same (making_proceeds v (Some dir) name (new_object dir (next v) file) (object_stamped dir (next v) file)))
    (λ (m : may_place v dir name ≡ false). let f : None ≡ Some w = simp m at e in absurd (cc))
    (cases_Bool (may_place v dir name))

placed_last_proceeds : (v w : View) (front : List (List ℕ)) (name : Option (List ℕ)) (file : Option (List ℕ)) → placed_last v front name file ≡ Some w → Proceeds v w
placed_last_proceeds v w front None file e = absurd (cc)
placed_last_proceeds v w front (Some name) file e = placed_in_proceeds v w name file (walked v.nodes (Some 0) front) e

pub placed_proceeds : (v w : View) (path : List (List ℕ)) (file : Option (List ℕ)) → placed v path file ≡ Some w → Proceeds v w
placed_proceeds v w path file e = placed_last_proceeds v w (take (length path - 1) path) (slice_get path (length path - 1)) file e

-- ---- what a step leaves stamped

pub stamped_after : (v w : View) → Stamped v → Proceeds v w → Stamped w
stamped_after v w s p place node e = was (slice_get v.nodes place) refl where
  higher : (old : Node) → IsStamped v.counter old → IsStamped w.counter old
  higher old i = record { mtime = omega (arith, i.mtime, p.counter); ctime = omega (arith, i.ctime, p.counter); rising = i.rising; given = i.given }

  was : (o : Option Node) → slice_get v.nodes place ≡ o → IsStamped w.counter node
  was None g = subst (λ (n : Option Node). GoesAt v.counter w.counter n (Some node)) g (subst (GoesAt v.counter w.counter (slice_get v.nodes place)) e (p.objects place))
  was (Some old) g =
      let goes : Goes v.counter w.counter old node = subst (λ (n : Option Node). GoesAt v.counter w.counter n (Some node)) g (subst (GoesAt v.counter w.counter (slice_get v.nodes place)) e (p.objects place)) in
      goes.stamped (higher old (s place old g))

pub stamped_executed : (v : View) (call : Call) → Stamped v → Stamped (executed v call).0
stamped_executed v call s = stamped_after v (executed v call).0 s (executed_proceeds v call)

pub stamped_restart : (v : View) → Stamped v → Stamped (after_restart v)
stamped_restart v s = stamped_after v (after_restart v) s (restart_proceeds v)

pub stamped_flush : (v : View) (file : List ℕ) (start count : ℕ) → Stamped v → Stamped (after_flush v file start count)
stamped_flush v file start count s = stamped_after v (after_flush v file start count) s (flush_proceeds v file start count)

pub stamped_placed : (v w : View) (path : List (List ℕ)) (file : Option (List ℕ)) → placed v path file ≡ Some w → Stamped v → Stamped w
stamped_placed v w path file e s = stamped_after v w s (placed_proceeds v w path file e)

-- a new export
pub stamped_new : Stamped (record { nodes = new_dir 0 1 keeps_all ∷ []; counter = 1; reboots = 0 })
stamped_new zero node e = let s : new_dir 0 1 keeps_all ≡ node = cc in subst (IsStamped 1) s (dir_stamped 0 1 keeps_all)
stamped_new (suc place) node e = absurd (cc)
