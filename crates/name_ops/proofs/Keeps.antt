-- No step of an operation on names changes what is pending, or the last number of a write.
use Rattle.std.proofs.Common.{◌≡◌, ℕ, Bool, true, false, List, Option, Some, None, Result, Ok, Err, refl, ap, ◌∙◌, inl, inr}
use Rattle.std.specs.Prelude.{if◌then◌else◌}
use Rattle.nfs_types.specs.declared.attr.Attr.{Attr}
use Rattle.world_model.specs.declared.answer.Fault.{Fault}
use Rattle.world_model.specs.declared.answer.Value.{Value}
use Rattle.world_model.specs.declared.message.Call.{Call}
use Rattle.world_model.specs.declared.message.Reply.{Reply}
use Rattle.client_shelf.specs.declared.shelf.Shelf.{Shelf}
use Rattle.client_shelf.specs.declared.turn.Turn.{Turn}
use Rattle.client_shelf.specs.declared.step.Step.{Step}
use Rattle.name_ops.specs.declared.link.Link.{Link}
use Rattle.name_ops.specs.declared.list_dir.ListDir.{ListDir}
use Rattle.name_ops.specs.declared.moving.Moved.{Moved}
use Rattle.name_ops.specs.declared.pair.Pair.{Pair}
use Rattle.name_ops.specs.declared.pair.PairStep.{PairStep}
use Rattle.name_ops.specs.declared.remove_file.Deed.{Deed}
use Rattle.name_ops.specs.declared.remove_file.Deed.TheVariants.{Look, Seek, Move, Remove}
use Rattle.name_ops.specs.declared.remove_file.RemoveFile.{RemoveFile}
use Rattle.name_ops.specs.declared.rename.Rename.{Rename}
use Rattle.name_ops.specs.declared.stat.Stat.{Stat}
use Rattle.name_ops.specs.declared.sym_link.SymLink.{SymLink}
use Rattle.name_ops.specs.declared.told.Told.{Told}
use Rattle.name_ops.specs.declared.visit.Visit.{Visit}
use Rattle.name_ops.specs.declared.visit.VisitStep.{VisitStep}
use Rattle.name_ops.specs.declared.walk.Walk.{Walk}
use Rattle.name_ops.specs.declared.walk.WalkStep.{WalkStep}
use Rattle.name_ops.specs.declared.walk.WalkStep.TheVariants as walks
use Rattle.name_ops.specs.Changing as changing
use Rattle.name_ops.specs.Link.{TakesLink}
use Rattle.name_ops.specs.ListDir.{TakesList}
use Rattle.name_ops.specs.Looking.{found_by, look_again, Hears}
use Rattle.name_ops.specs.Pairs as pairs
use Rattle.name_ops.specs.ReadLink.{TakesText}
use Rattle.name_ops.specs.RemoveFile as removals
use Rattle.name_ops.specs.Rename.{Renames, TakesRename}
use Rattle.name_ops.specs.Showing.{Shows, TakesShow}
use Rattle.name_ops.specs.Stat as stats
use Rattle.name_ops.specs.SymLink.{lacking, ChangesByCopy, TakesSymLink}
use Rattle.name_ops.specs.Visiting.{visit_shelf, VisitTakes}
use Rattle.name_ops.specs.Walking.{go_next, go_shelf, followed_shelf, waiting_name, Takes}

-- what is pending and the last number of a write are the same
pub record IsKept (old new : Shelf) : Type 0 where
  pub back : new.back ≡ old.back
  pub seq : new.seq ≡ old.seq

pub kept-itself : (s : Shelf) → IsKept s s
kept-itself s = record { back = refl; seq = refl }

pub kept-as : (old to new : Shelf) → new ≡ to → IsKept old to → IsKept old new
kept-as old to new is k = record { back = ap (λ (s : Shelf). s.back) is ∙ k.back; seq = ap (λ (s : Shelf). s.seq) is ∙ k.seq }

pub kept-then : (a b c : Shelf) → IsKept a b → IsKept b c → IsKept a c
kept-then a b c f g = record { back = g.back ∙ f.back; seq = g.seq ∙ f.seq }

kept-same : (old new : Shelf) → new ≡ old → IsKept old new
kept-same old new is = kept-as old old new is (kept-itself old)

kept-if : (b : Bool) (s x y : Shelf) → IsKept s x → IsKept s y → IsKept s (if b then x else y)
kept-if true s x y f g = f
kept-if false s x y f g = g

-- ---- walks

pub walk-kept : (w : Walk) (turn : Turn) (old : Shelf) → IsKept old (go_shelf w turn old)
walk-kept w turn old = record { back = refl; seq = refl }

hears-kept : (dir name : List ℕ) (sent turn : Turn) (came : Result Reply Fault) (old heard : Shelf) → Hears dir name sent turn came old heard → IsKept old heard
hears-kept dir name sent turn came old heard h = record { back = ap (λ (s : Shelf). s.back) h.others; seq = ap (λ (s : Shelf). s.seq) h.others }

followed-kept : (busy : Bool) (w : Walk) (told : Result (List ℕ) Fault) (turn : Turn) (s : Shelf) → IsKept s (followed_shelf busy w told turn s)
followed-kept true w told turn s = kept-itself s
followed-kept false w (Ok found) turn s = record { back = refl; seq = refl }
followed-kept false w (Err fault) turn s = kept-itself s

pub walk-takes-kept : (name : Option (List ℕ)) (w : Walk) (sent turn : Turn) (came : Result Reply Fault) (old : Shelf) (next : WalkStep) (new : Walk) (after : Shelf)
    → Takes name w sent turn came old next new after → IsKept old after
walk-takes-kept (Some name) w sent turn came old next new after t =
    kept-then old t.heard after (hears-kept w.spot.dir name sent turn came old t.heard t.hears)
    (kept-as t.heard (followed_shelf (look_again sent turn came old) w (found_by came) turn t.heard) after t.shelf_is
    (followed-kept (look_again sent turn came old) w (found_by came) turn t.heard))
walk-takes-kept None w sent turn came old next new after t = kept-same old after t.shelf_is

-- ---- a walk and a call

pub visit-kept : (v : Visit) (turn : Turn) (old : Shelf) → IsKept old (visit_shelf v turn old)
visit-kept v turn old = kept-if v.asked old old (go_shelf v.walk turn old) (kept-itself old) (walk-kept v.walk turn old)

pub visit-takes-kept : (v : Visit) (sent turn : Turn) (came : Result Reply Fault) (old : Shelf) (next : VisitStep) (new : Visit) (after : Shelf)
    → VisitTakes v sent turn came old next new after → IsKept old after
visit-takes-kept v sent turn came old next new after t = walk-takes-kept (waiting_name v.walk) v.walk sent turn came old t.step t.walked.walk after t.takes

changes-kept : (dir : List ℕ) (call : Call) (told : Told) (sent turn : Turn) (old : Shelf) (next : Step) (after : Shelf)
    → changing.Changes dir call told sent turn old next after → IsKept old after
changes-kept dir call told sent turn old next after c = record { back = ap (λ (s : Shelf). s.back) c.others; seq = ap (λ (s : Shelf). s.seq) c.others }

pub change-takes-kept : (asked : Bool) (call : List ℕ → Call) (told : Told) (v : Visit) (sent turn : Turn) (came : Result Reply Fault) (old : Shelf) (next : Step) (new : Visit) (after : Shelf)
    → changing.TakesChange asked call told v sent turn came old next new after → IsKept old after
change-takes-kept true call told v sent turn came old next new after t = changes-kept v.walk.spot.dir (call v.walk.spot.dir) told sent turn old next after t.1
change-takes-kept false call told v sent turn came old next new after t = visit-takes-kept v sent turn came old t.step new after t.takes

shows-kept : (object : List ℕ) (attr : Option Attr) (told : Result Value Fault) (call : Call) (sent turn : Turn) (old : Shelf) (next : Step) (after : Shelf)
    → Shows object attr told call sent turn old next after → IsKept old after
shows-kept object attr told call sent turn old next after s = record { back = ap (λ (s : Shelf). s.back) s.others; seq = ap (λ (s : Shelf). s.seq) s.others }

pub show-takes-kept : (asked : Bool) (call : List ℕ → Call) (attr : Option Attr) (told : Result Value Fault) (v : Visit) (sent turn : Turn) (came : Result Reply Fault) (old : Shelf)
    (next : Step) (new : Visit) (after : Shelf) → TakesShow asked call attr told v sent turn came old next new after → IsKept old after
show-takes-kept true call attr told v sent turn came old next new after t = shows-kept v.walk.spot.dir attr told (call v.walk.spot.dir) sent turn old next after t.1
show-takes-kept false call attr told v sent turn came old next new after t = visit-takes-kept v sent turn came old t.step new after t.takes

pub text-takes-kept : (asked : Bool) (v : Visit) (sent turn : Turn) (came : Result Reply Fault) (old : Shelf) (next : Step) (new : Visit) (after : Shelf)
    → TakesText asked v sent turn came old next new after → IsKept old after
text-takes-kept true v sent turn came old next new after t = record { back = ap (λ (s : Shelf). s.back) t.1.shows.others; seq = ap (λ (s : Shelf). s.seq) t.1.shows.others }
text-takes-kept false v sent turn came old next new after t = visit-takes-kept v sent turn came old t.step new after t.takes

copy-changes-kept : (dir : List ℕ) (call : Call) (told : Told) (sent turn : Turn) (old : Shelf) (next : Step) (after : Shelf)
    → ChangesByCopy dir call told sent turn old next after → IsKept old after
copy-changes-kept dir call told sent turn old next after (inl c) = changes-kept dir call told sent turn old next after c
copy-changes-kept dir call told sent turn old next after (inr c) = changes-kept dir call (lacking told) sent turn old next after c.1

pub sym-link-takes-kept : (asked : Bool) (m : SymLink) (sent turn : Turn) (came : Result Reply Fault) (old : Shelf) (next : Step) (new : Visit) (after : Shelf)
    → TakesSymLink asked m sent turn came old next new after → IsKept old after
sym-link-takes-kept true m sent turn came old next new after t = copy-changes-kept m.visit.walk.spot.dir _ _ sent turn old next after t.1
sym-link-takes-kept false m sent turn came old next new after t = visit-takes-kept m.visit sent turn came old t.step new after t.takes

pub list-takes-kept : (asked : Bool) (m : ListDir) (sent turn : Turn) (came : Result Reply Fault) (old : Shelf) (next : Step) (new : ListDir) (after : Shelf)
    → TakesList asked m sent turn came old next new after → IsKept old after
list-takes-kept true m sent turn came old next new after t = record { back = ap (λ (s : Shelf). s.back) t.others; seq = ap (λ (s : Shelf). s.seq) t.others }
list-takes-kept false m sent turn came old next new after t = visit-takes-kept m.visit sent turn came old t.walks.step t.visit after t.walks.takes

-- ---- stats

pub stat-kept : (m : Stat) (turn : Turn) (old : Shelf) → IsKept old (stats.stat_shelf m turn old)
stat-kept m turn old = kept-if m.asked old old (go_shelf m.walk turn old) (kept-itself old) (walk-kept m.walk turn old)

pub stat-takes-kept : (asked : Bool) (m : Stat) (sent turn : Turn) (came : Result Reply Fault) (old : Shelf) (next : Step) (new : Stat) (after : Shelf)
    → stats.StatTakes asked m sent turn came old next new after → IsKept old after
stat-takes-kept true m sent turn came old next new after t = record { back = ap (λ (s : Shelf). s.back) t.1.others; seq = ap (λ (s : Shelf). s.seq) t.1.others }
stat-takes-kept false m sent turn came old next new after t = walk-takes-kept (waiting_name m.walk) m.walk sent turn came old t.step t.walked.walk after t.takes

-- ---- two walks and a call

first-kept : (step : WalkStep) (p : Pair) (turn : Turn) (old : Shelf) → IsKept old (pairs.first_shelf step p turn old)
first-kept (walks.Send call) p turn old = kept-itself old
first-kept walks.Wait p turn old = kept-itself old
first-kept (walks.At first) p turn old = walk-kept p.second turn old
first-kept (walks.Refused fault) p turn old = kept-itself old

pub pair-kept : (p : Pair) (turn : Turn) (old : Shelf) → IsKept old (pairs.pair_shelf p turn old)
pair-kept p turn old =
    kept-if (pairs.waits p) old old (pairs.on_shelf p turn old) (kept-itself old)
    (kept-then old (go_shelf p.first turn old) (pairs.on_shelf p turn old) (walk-kept p.first turn old)
    (first-kept (go_next p.first turn old) (pairs.walked_first p turn old) turn (go_shelf p.first turn old)))

pub pair-takes-kept : (first : Bool) (p : Pair) (sent turn : Turn) (came : Result Reply Fault) (old : Shelf) (next : PairStep) (new : Pair) (after : Shelf)
    → pairs.PairTakes first p sent turn came old next new after → IsKept old after
pair-takes-kept true p sent turn came old next new after t =
    kept-then old t.heard after (walk-takes-kept (waiting_name p.first) p.first sent turn came old t.step t.walked.first t.heard t.takes)
    (kept-as t.heard (pairs.first_shelf t.step t.walked turn t.heard) after t.shelf_is (first-kept t.step t.walked turn t.heard))
pair-takes-kept false p sent turn came old next new after t = walk-takes-kept (waiting_name p.second) p.second sent turn came old t.step t.walked.second after t.takes

pub rename-takes-kept : (asked : Bool) (m : Rename) (sent turn : Turn) (came : Result Reply Fault) (old : Shelf) (next : Step) (new : Pair) (after : Shelf)
    → TakesRename asked m sent turn came old next new after → IsKept old after
rename-takes-kept true m sent turn came old next new after t = record { back = ap (λ (s : Shelf). s.back) t.1.others; seq = ap (λ (s : Shelf). s.seq) t.1.others }
rename-takes-kept false m sent turn came old next new after t = pair-takes-kept m.pair.first.asked m.pair sent turn came old t.step new after t.takes

pub link-takes-kept : (asked : Bool) (m : Link) (sent turn : Turn) (came : Result Reply Fault) (old : Shelf) (next : Step) (new : Pair) (after : Shelf)
    → TakesLink asked m sent turn came old next new after → IsKept old after
link-takes-kept true m sent turn came old next new after t = record { back = ap (λ (s : Shelf). s.back) t.1.others; seq = ap (λ (s : Shelf). s.seq) t.1.others }
link-takes-kept false m sent turn came old next new after t = pair-takes-kept m.pair.first.asked m.pair sent turn came old t.step new after t.takes

-- ---- removals of names

goes-kept : (deed : Option Deed) (m : RemoveFile) (turn : Turn) (old : Shelf) (next : Step) (new : RemoveFile) (after : Shelf) → removals.Goes deed m turn old next new after → IsKept old after
goes-kept (Some deed) m turn old next new after g = kept-same old after g.shelf_is
goes-kept None m turn old next new after g = kept-as old (go_shelf m.walk turn old) after g.shelf_is (walk-kept m.walk turn old)

pub remove-kept : (asked : Bool) (m : RemoveFile) (turn : Turn) (old : Shelf) (next : Step) (new : RemoveFile) (after : Shelf) → removals.Resumes asked m turn old next new after → IsKept old after
remove-kept true m turn old next new after r = kept-same old after r.shelf_is
remove-kept false m turn old next new after r = goes-kept m.deed m turn old next new after r

plans-kept : (is_open : Bool) (file : List ℕ) (m : RemoveFile) (room : Bool) (old : Shelf) (next : Step) (new : RemoveFile) (after : Shelf) → removals.Plans is_open file m room old next new after → IsKept old after
plans-kept is_open file m room old next new after p = record { back = ap (λ (s : Shelf). s.back) p.shelf_is; seq = ap (λ (s : Shelf). s.seq) p.shelf_is }

look-kept : (again : Bool) (told : Result (List ℕ) Fault) (m : RemoveFile) (room : Bool) (old : Shelf) (next : Step) (new : RemoveFile) (after : Shelf)
    → removals.FollowsLook again told m room old next new after → IsKept old after
look-kept true told m room old next new after f = kept-same old after f.shelf_is
look-kept false (Ok file) m room old next new after f = plans-kept f.is_open file m room old next new after f.plans
look-kept false (Err fault) m room old next new after f = kept-same old after f.shelf_is

seek-kept : (again : Bool) (told : Result (List ℕ) Fault) (file to : List ℕ) (m : RemoveFile) (room : Bool) (old : Shelf) (next : Step) (new : RemoveFile) (after : Shelf)
    → removals.FollowsSeek again told file to m room old next new after → IsKept old after
seek-kept true told file to m room old next new after f = kept-same old after f.shelf_is
seek-kept false (Ok found) file to m room old next new after f = plans-kept true file m room old next new after f
seek-kept false (Err fault) file to m room old next new after f = kept-same old after f.shelf_is

deed-kept : (deed : Deed) (m : RemoveFile) (sent turn : Turn) (came : Result Reply Fault) (old : Shelf) (next : Step) (new : RemoveFile) (after : Shelf)
    → removals.TakesDeed deed m sent turn came old next new after → IsKept old after
deed-kept Look m sent turn came old next new after t =
    kept-then old t.heard after (hears-kept m.walk.spot.dir m.name sent turn came old t.heard t.hears)
    (look-kept (look_again sent turn came old) (found_by came) m turn.room t.heard next new after t.follows)
deed-kept (Seek file to) m sent turn came old next new after t =
    kept-then old t.heard after (hears-kept m.walk.spot.dir to sent turn came old t.heard t.hears)
    (seek-kept (look_again sent turn came old) (found_by came) file to m turn.room t.heard next new after t.follows)
deed-kept (Move file to) m sent turn came old next new after t = record { back = ap (λ (s : Shelf). s.back) t.1.others; seq = ap (λ (s : Shelf). s.seq) t.1.others }
deed-kept Remove m sent turn came old next new after t = changes-kept m.walk.spot.dir (removals.call_of m Remove) (removals.removed_told came) sent turn old next after t.1

asked-kept : (asked : Bool) (deed : Deed) (m : RemoveFile) (sent turn : Turn) (came : Result Reply Fault) (old : Shelf) (next : Step) (new : RemoveFile) (after : Shelf)
    → removals.TakesIf asked deed m sent turn came old next new after → IsKept old after
asked-kept true deed m sent turn came old next new after t = deed-kept deed m sent turn came old next new after t
asked-kept false deed m sent turn came old next new after t = kept-same old after t.shelf_is

pub remove-takes-kept : (deed : Option Deed) (m : RemoveFile) (sent turn : Turn) (came : Result Reply Fault) (old : Shelf) (next : Step) (new : RemoveFile) (after : Shelf)
    → removals.Takes deed m sent turn came old next new after → IsKept old after
remove-takes-kept (Some deed) m sent turn came old next new after t = asked-kept m.asked deed m sent turn came old next new after t
remove-takes-kept None m sent turn came old next new after t = walk-takes-kept (waiting_name m.walk) m.walk sent turn came old t.step t.walked.walk after t.takes
