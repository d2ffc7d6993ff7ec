-- What a step of an operation on names leaves of the places of hidden files: all, but where a remove has hidden one.
use Rattle.core_session.proofs.Prelude.{◌≡◌, ◌⊎◌, ℕ, Bool, true, false, List, Option, Some, None, Result, Ok, Err, inl, inr, refl, ap, ◌∙◌, if◌then◌else◌, Attr, Fault, Value, Call, Reply, Step, Shelf, Turn, ListDir, Stat, Visit, Walk, WalkStep, found_by, look_again, Pair, Deed, Look, Seek, Move, RemoveFile, deed_call, moved_told, NameMachine}
use Rattle.name_ops.specs.declared.remove_file.Deed.TheVariants.{Remove}
use Rattle.name_ops.specs.DirChange.{deed_told}
use Rattle.name_ops.specs.declared.sym_link.SymLink.{SymLink}
use Rattle.name_ops.specs.declared.told.Told.{Told}
use Rattle.name_ops.specs.declared.walk.WalkStep.TheVariants as walks
use Rattle.name_ops.specs.Changing as changing
use Rattle.name_ops.specs.ListDir as listing
use Rattle.name_ops.specs.ReadLink.{text_call, TakesText}
use Rattle.name_ops.specs.Showing.{TakesShow}
use Rattle.name_ops.specs.Stat as stats
use Rattle.name_ops.specs.SymLink.{sym_link_call, sym_linked_told, ChangesByCopy, TakesSymLink}
use Rattle.name_ops.specs.Visiting as visiting
use Rattle.name_ops.specs.Walking as walking
use Rattle.name_ops.specs.declared.link.Link.{Link}
use Rattle.name_ops.specs.declared.pair.PairStep.{PairStep}
use Rattle.name_ops.specs.declared.rename.Rename.{Rename}
use Rattle.name_ops.specs.Access.{access_call, access_attr, access_told}
use Rattle.name_ops.specs.Link.{TakesLink}
use Rattle.name_ops.specs.Pairs as pairs
use Rattle.name_ops.specs.RemoveFile as removals
use Rattle.name_ops.specs.Rename.{TakesRename}
use Rattle.op_machines.specs.declared.name_machine.NameMachine.TheVariants as machines
use Rattle.op_machines.specs.NameSteps as steps

-- ---- walks and visits

go-silly : (w : Walk) (turn : Turn) (shelf : Shelf) → (walking.go_shelf w turn shelf).silly ≡ shelf.silly
go-silly w turn shelf = refl

told-silly : (told : Result (List ℕ) Fault) (w : Walk) (turn : Turn) (shelf : Shelf) → (walking.told_shelf w told turn shelf).silly ≡ shelf.silly
told-silly (Ok found) w turn shelf = refl
told-silly (Err fault) w turn shelf = refl

followed-silly : (busy : Bool) (told : Result (List ℕ) Fault) (w : Walk) (turn : Turn) (shelf : Shelf) → (walking.followed_shelf busy w told turn shelf).silly ≡ shelf.silly
followed-silly true told w turn shelf = refl
followed-silly false told w turn shelf = told-silly told w turn shelf

pub walk-silly : (name : Option (List ℕ)) (w : Walk) (sent turn : Turn) (came : Result Reply Fault) (old : Shelf) (step : WalkStep) (new : Walk) (after : Shelf)
    → walking.Takes name w sent turn came old step new after → after.silly ≡ old.silly
walk-silly None w sent turn came old step new after t = ap (λ (k : Shelf). k.silly) t.shelf_is
walk-silly (Some name) w sent turn came old step new after t =
    ap (λ (k : Shelf). k.silly) t.shelf_is ∙ followed-silly (look_again sent turn came old) (found_by came) w turn t.heard ∙ ap (λ (k : Shelf). k.silly) t.hears.others

if-silly : (b : Bool) (one other old : Shelf) → one.silly ≡ old.silly → other.silly ≡ old.silly → (if b then one else other).silly ≡ old.silly
if-silly true one other old f g = f
if-silly false one other old f g = g

visit-silly : (v : Visit) (turn : Turn) (old after : Shelf) → after ≡ visiting.visit_shelf v turn old → after.silly ≡ old.silly
visit-silly v turn old after is = ap (λ (k : Shelf). k.silly) is ∙ if-silly v.asked old (walking.go_shelf v.walk turn old) old refl refl

walks-silly : (call : List ℕ → Call) (v : Visit) (sent turn : Turn) (came : Result Reply Fault) (old : Shelf) (next : Step) (new : Visit) (after : Shelf)
    → visiting.Walks call v sent turn came old next new after → after.silly ≡ old.silly
walks-silly call v sent turn came old next new after w =
    walk-silly (walking.waiting_name v.walk) v.walk sent turn came old w.takes.step w.takes.walked.walk after w.takes.takes

change-silly : (asked : Bool) (call : List ℕ → Call) (told : Told) (v : Visit) (sent turn : Turn) (came : Result Reply Fault) (old : Shelf) (next : Step) (new : Visit) (after : Shelf)
    → changing.TakesChange asked call told v sent turn came old next new after → after.silly ≡ old.silly
change-silly true call told v sent turn came old next new after t = ap (λ (k : Shelf). k.silly) t.1.others
change-silly false call told v sent turn came old next new after t = walks-silly call v sent turn came old next new after t

show-silly : (asked : Bool) (call : List ℕ → Call) (attr : Option Attr) (told : Result Value Fault) (v : Visit) (sent turn : Turn) (came : Result Reply Fault) (old : Shelf) (next : Step)
    (new : Visit) (after : Shelf) → TakesShow asked call attr told v sent turn came old next new after → after.silly ≡ old.silly
show-silly true call attr told v sent turn came old next new after t = ap (λ (k : Shelf). k.silly) t.1.others
show-silly false call attr told v sent turn came old next new after t = walks-silly call v sent turn came old next new after t

text-silly : (asked : Bool) (v : Visit) (sent turn : Turn) (came : Result Reply Fault) (old : Shelf) (next : Step) (new : Visit) (after : Shelf)
    → TakesText asked v sent turn came old next new after → after.silly ≡ old.silly
text-silly true v sent turn came old next new after t = ap (λ (k : Shelf). k.silly) t.1.shows.others
text-silly false v sent turn came old next new after t = walks-silly text_call v sent turn came old next new after t

sym-silly : (asked : Bool) (m : SymLink) (sent turn : Turn) (came : Result Reply Fault) (old : Shelf) (next : Step) (new : Visit) (after : Shelf)
    → TakesSymLink asked m sent turn came old next new after → after.silly ≡ old.silly
sym-silly true m sent turn came old next new after t = by t.1
  where
    by : ChangesByCopy m.visit.walk.spot.dir (sym_link_call m.name m.target m.visit.walk.spot.dir) (sym_linked_told came) sent turn old next after → after.silly ≡ old.silly
    by (inl c) = ap (λ (k : Shelf). k.silly) c.others
    by (inr c) = ap (λ (k : Shelf). k.silly) c.1.others
sym-silly false m sent turn came old next new after t =
    walk-silly (walking.waiting_name m.visit.walk) m.visit.walk sent turn came old t.takes.step t.takes.walked.walk after t.takes.takes

stat-silly : (asked : Bool) (m : Stat) (sent turn : Turn) (came : Result Reply Fault) (old : Shelf) (next : Step) (new : Stat) (after : Shelf)
    → stats.StatTakes asked m sent turn came old next new after → after.silly ≡ old.silly
stat-silly true m sent turn came old next new after t = ap (λ (k : Shelf). k.silly) t.1.others
stat-silly false m sent turn came old next new after t = walk-silly (walking.waiting_name m.walk) m.walk sent turn came old t.step t.walked.walk after t.takes

list-silly : (asked : Bool) (m : ListDir) (sent turn : Turn) (came : Result Reply Fault) (old : Shelf) (next : Step) (new : ListDir) (after : Shelf)
    → listing.TakesList asked m sent turn came old next new after → after.silly ≡ old.silly
list-silly true m sent turn came old next new after t = ap (λ (k : Shelf). k.silly) t.others
list-silly false m sent turn came old next new after t = walks-silly (listing.page_call m.place) m.visit sent turn came old next t.visit after t.walks

-- ---- two walks

first-silly : (step : WalkStep) (p : Pair) (turn : Turn) (shelf : Shelf) → (pairs.first_shelf step p turn shelf).silly ≡ shelf.silly
first-silly (walks.Send call) p turn shelf = refl
first-silly walks.Wait p turn shelf = refl
first-silly (walks.At first) p turn shelf = refl
first-silly (walks.Refused fault) p turn shelf = refl

pair-silly : (p : Pair) (turn : Turn) (old after : Shelf) → after ≡ pairs.pair_shelf p turn old → after.silly ≡ old.silly
pair-silly p turn old after is = ap (λ (k : Shelf). k.silly) is
    ∙ if-silly (pairs.waits p) old (pairs.on_shelf p turn old) old refl (first-silly (walking.go_next p.first turn old) (pairs.walked_first p turn old) turn (walking.go_shelf p.first turn old))

pair-took : (b : Bool) (p : Pair) (sent turn : Turn) (came : Result Reply Fault) (old : Shelf) (next : PairStep) (new : Pair) (after : Shelf)
    → pairs.PairTakes b p sent turn came old next new after → after.silly ≡ old.silly
pair-took true p sent turn came old next new after t =
    ap (λ (k : Shelf). k.silly) t.shelf_is ∙ first-silly t.step t.walked turn t.heard ∙ walk-silly (walking.waiting_name p.first) p.first sent turn came old t.step t.walked.first t.heard t.takes
pair-took false p sent turn came old next new after t = walk-silly (walking.waiting_name p.second) p.second sent turn came old t.step t.walked.second after t.takes

rename-silly : (asked : Bool) (m : Rename) (sent turn : Turn) (came : Result Reply Fault) (old : Shelf) (next : Step) (new : Pair) (after : Shelf)
    → TakesRename asked m sent turn came old next new after → after.silly ≡ old.silly
rename-silly true m sent turn came old next new after t = ap (λ (k : Shelf). k.silly) t.1.others
rename-silly false m sent turn came old next new after t = pair-took m.pair.first.asked m.pair sent turn came old t.step new after t.takes

link-silly : (asked : Bool) (m : Link) (sent turn : Turn) (came : Result Reply Fault) (old : Shelf) (next : Step) (new : Pair) (after : Shelf)
    → TakesLink asked m sent turn came old next new after → after.silly ≡ old.silly
link-silly true m sent turn came old next new after t = ap (λ (k : Shelf). k.silly) t.1.others
link-silly false m sent turn came old next new after t = pair-took m.pair.first.asked m.pair sent turn came old t.step new after t.takes

-- ---- removals

resumes-silly : (asked : Bool) (m : RemoveFile) (turn : Turn) (old : Shelf) (next : Step) (new : RemoveFile) (after : Shelf) → removals.Resumes asked m turn old next new after → after.silly ≡ old.silly
resumes-silly true m turn old next new after r = ap (λ (k : Shelf). k.silly) r.shelf_is
resumes-silly false m turn old next new after r = by m.deed r
  where
    by : (deed : Option Deed) → removals.Goes deed m turn old next new after → after.silly ≡ old.silly
    by (Some deed) g = ap (λ (k : Shelf). k.silly) g.shelf_is
    by None g = ap (λ (k : Shelf). k.silly) g.shelf_is

look-silly : (again : Bool) (told : Result (List ℕ) Fault) (m : RemoveFile) (room : Bool) (old : Shelf) (next : Step) (new : RemoveFile) (after : Shelf)
    → removals.FollowsLook again told m room old next new after → after.silly ≡ old.silly
look-silly true told m room old next new after f = ap (λ (k : Shelf). k.silly) f.shelf_is
look-silly false (Ok file) m room old next new after f = ap (λ (k : Shelf). k.silly) f.plans.shelf_is
look-silly false (Err fault) m room old next new after f = ap (λ (k : Shelf). k.silly) f.shelf_is

seek-silly : (again : Bool) (told : Result (List ℕ) Fault) (file to : List ℕ) (m : RemoveFile) (room : Bool) (old : Shelf) (next : Step) (new : RemoveFile) (after : Shelf)
    → removals.FollowsSeek again told file to m room old next new after → after.silly ≡ old.silly
seek-silly true told file to m room old next new after f = ap (λ (k : Shelf). k.silly) f.shelf_is
seek-silly false (Ok found) file to m room old next new after f = ap (λ (k : Shelf). k.silly) f.shelf_is
seek-silly false (Err fault) file to m room old next new after f = ap (λ (k : Shelf). k.silly) f.shelf_is

-- the reply to the RENAME of a remove has come
pub record Moved (m : RemoveFile) (sent turn : Turn) (came : Result Reply Fault) (old : Shelf) (next : Step) (after : Shelf) : Type 0 where
  pub file : List ℕ
  pub to : List ℕ
  pub deed_is : m.deed ≡ Some (Move file to)
  pub asked : m.asked ≡ true
  pub ends : removals.EndsMove (removals.move_again sent turn came old) (moved_told came).refusal file to m old.silly next after.silly

abbrev pub SillyOr : RemoveFile → Turn → Turn → Result Reply Fault → Shelf → Step → Shelf → Type 0
SillyOr m sent turn came old next after = (after.silly ≡ old.silly) ⊎ Moved m sent turn came old next after

deed-silly : (deed : Deed) (m : RemoveFile) (sent turn : Turn) (came : Result Reply Fault) (old : Shelf) (next : Step) (new : RemoveFile) (after : Shelf) → m.deed ≡ Some deed → m.asked ≡ true
    → removals.TakesDeed deed m sent turn came old next new after → SillyOr m sent turn came old next after
deed-silly Look m sent turn came old next new after is asked t =
    inl (look-silly (look_again sent turn came old) (found_by came) m turn.room t.heard next new after t.follows ∙ ap (λ (k : Shelf). k.silly) t.hears.others)
deed-silly (Seek file to) m sent turn came old next new after is asked t =
    inl (seek-silly (look_again sent turn came old) (found_by came) file to m turn.room t.heard next new after t.follows ∙ ap (λ (k : Shelf). k.silly) t.hears.others)
deed-silly (Move file to) m sent turn came old next new after is asked t = inr (record { file = file; to = to; deed_is = is; asked = asked; ends = t.1.ends })
deed-silly Remove m sent turn came old next new after is asked t = inl (ap (λ (k : Shelf). k.silly) t.1.others)

removal-silly : (deed : Option Deed) (m : RemoveFile) (sent turn : Turn) (came : Result Reply Fault) (old : Shelf) (next : Step) (new : RemoveFile) (after : Shelf) → m.deed ≡ deed
    → removals.Takes deed m sent turn came old next new after → SillyOr m sent turn came old next after
removal-silly (Some deed) m sent turn came old next new after is t = by m.asked refl t
  where
    by : (asked : Bool) → m.asked ≡ asked → removals.TakesIf asked deed m sent turn came old next new after → SillyOr m sent turn came old next after
    by true asked k = deed-silly deed m sent turn came old next new after is asked k
    by false asked k = inl (ap (λ (s : Shelf). s.silly) k.shelf_is)
removal-silly None m sent turn came old next new after is t =
    inl (walk-silly (walking.waiting_name m.walk) m.walk sent turn came old t.step t.walked.walk after t.takes)

-- ---- any operation on names

pub name-goes : (m : NameMachine) (turn : Turn) (old : Shelf) (next : Step) (new : NameMachine) (after : Shelf) → steps.NameGoes m turn old next new after → after.silly ≡ old.silly
name-goes (machines.Change m) turn old next new after g = visit-silly m.visit turn old after g.shelf_is
name-goes (machines.Stat m) turn old next new after g = ap (λ (k : Shelf). k.silly) g.shelf_is ∙ if-silly m.asked old (walking.go_shelf m.walk turn old) old refl refl
name-goes (machines.Access m) turn old next new after g = visit-silly m.visit turn old after g.shelf_is
name-goes (machines.ReadLink m) turn old next new after g = visit-silly m.visit turn old after g.shelf_is
name-goes (machines.Remove m) turn old next new after g = resumes-silly m.asked m turn old next g.machine after g.step
name-goes (machines.Rename m) turn old next new after g = pair-silly m.pair turn old after g.shelf_is
name-goes (machines.Link m) turn old next new after g = pair-silly m.pair turn old after g.shelf_is
name-goes (machines.SymLink m) turn old next new after g = visit-silly m.visit turn old after g.shelf_is
name-goes (machines.List m) turn old next new after g = visit-silly m.visit turn old after g.shelf_is

-- of a remove, or all is as it was
pub data NameSilly (m : NameMachine) (sent turn : Turn) (came : Result Reply Fault) (old : Shelf) (next : Step) (after : Shelf) : Type 0 where
  same : after.silly ≡ old.silly → NameSilly m sent turn came old next after
  moved : (r : RemoveFile) → m ≡ machines.Remove r → Moved r sent turn came old next after → NameSilly m sent turn came old next after

pub name-takes : (m : NameMachine) (sent turn : Turn) (came : Result Reply Fault) (old : Shelf) (next : Step) (new : NameMachine) (after : Shelf)
    → steps.NameTakes m sent turn came old next new after → NameSilly m sent turn came old next after
name-takes (machines.Change m) sent turn came old next new after t =
    same (change-silly m.visit.asked (deed_call m.deed m.name) (deed_told m.deed came) m.visit sent turn came old next t.visit after t.step)
name-takes (machines.Stat m) sent turn came old next new after t =
    same (stat-silly m.asked m sent turn came old next t.machine after t.step)
name-takes (machines.Access m) sent turn came old next new after t =
    same (show-silly m.visit.asked (access_call m.bits) (access_attr came) (access_told came) m.visit sent turn came old next t.visit after t.step)
name-takes (machines.ReadLink m) sent turn came old next new after t =
    same (text-silly m.visit.asked m.visit sent turn came old next t.visit after t.step)
name-takes (machines.Remove m) sent turn came old next new after t =
    elim (removal-silly m.deed m sent turn came old next t.machine after refl t.step) [ inl is ↦ same is | inr k ↦ moved m refl k ]
name-takes (machines.Rename m) sent turn came old next new after t =
    same (rename-silly m.pair.asked m sent turn came old next t.pair after t.step)
name-takes (machines.Link m) sent turn came old next new after t =
    same (link-silly m.pair.asked m sent turn came old next t.pair after t.step)
name-takes (machines.SymLink m) sent turn came old next new after t =
    same (sym-silly m.visit.asked m sent turn came old next t.visit after t.step)
name-takes (machines.List m) sent turn came old next new after t =
    same (list-silly m.visit.asked m sent turn came old next t.machine after t.step)
