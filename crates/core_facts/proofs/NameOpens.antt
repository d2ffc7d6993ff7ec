-- A step of an operation on names leaves the table of opens as it is.
use Rattle.core_facts.proofs.Prelude.{◌≡◌, ℕ, Bool, true, false, List, Option, Some, None, Result, Ok, Err, inl, inr, refl, ap, ◌∙◌, if◌then◌else◌, Attr, Fault, Value, Call, Reply, Step, Shelf, Turn, ListDir, Stat, SymLink, Told, Visit, Walk, WalkStep, found_by, look_again, text_call, TakesText, TakesShow, sym_link_call, sym_linked_told, ChangesByCopy, TakesSymLink, Link, Pair, PairStep, Deed, Look, Seek, Move, RemoveFile, Rename, access_call, access_attr, access_told, deed_call, deed_told, TakesLink, TakesRename, NameMachine}
use Rattle.name_ops.specs.declared.remove_file.Deed.TheVariants.{Remove}
use Rattle.name_ops.specs.declared.walk.WalkStep.TheVariants as walks
use Rattle.name_ops.specs.Changing as changing
use Rattle.name_ops.specs.ListDir as listing
use Rattle.name_ops.specs.Stat as stats
use Rattle.name_ops.specs.Visiting as visiting
use Rattle.name_ops.specs.Walking as walking
use Rattle.name_ops.specs.Pairs as pairs
use Rattle.name_ops.specs.RemoveFile as removals
use Rattle.op_machines.specs.declared.name_machine.NameMachine.TheVariants as machines
use Rattle.op_machines.specs.NameSteps as steps

-- ---- walks and visits

go-opens : (w : Walk) (turn : Turn) (shelf : Shelf) → (walking.go_shelf w turn shelf).opens ≡ shelf.opens
go-opens w turn shelf = refl

told-opens : (told : Result (List ℕ) Fault) (w : Walk) (turn : Turn) (shelf : Shelf) → (walking.told_shelf w told turn shelf).opens ≡ shelf.opens
told-opens (Ok found) w turn shelf = refl
told-opens (Err fault) w turn shelf = refl

followed-opens : (busy : Bool) (told : Result (List ℕ) Fault) (w : Walk) (turn : Turn) (shelf : Shelf) → (walking.followed_shelf busy w told turn shelf).opens ≡ shelf.opens
followed-opens true told w turn shelf = refl
followed-opens false told w turn shelf = told-opens told w turn shelf

pub walk-opens : (name : Option (List ℕ)) (w : Walk) (sent turn : Turn) (came : Result Reply Fault) (old : Shelf) (step : WalkStep) (new : Walk) (after : Shelf)
    → walking.Takes name w sent turn came old step new after → after.opens ≡ old.opens
walk-opens None w sent turn came old step new after t = ap (λ (k : Shelf). k.opens) t.shelf_is
walk-opens (Some name) w sent turn came old step new after t =
    ap (λ (k : Shelf). k.opens) t.shelf_is ∙ followed-opens (look_again sent turn came old) (found_by came) w turn t.heard ∙ ap (λ (k : Shelf). k.opens) t.hears.others

if-opens : (b : Bool) (one other old : Shelf) → one.opens ≡ old.opens → other.opens ≡ old.opens → (if b then one else other).opens ≡ old.opens
if-opens true one other old f g = f
if-opens false one other old f g = g

visit-opens : (v : Visit) (turn : Turn) (old after : Shelf) → after ≡ visiting.visit_shelf v turn old → after.opens ≡ old.opens
visit-opens v turn old after is = ap (λ (k : Shelf). k.opens) is ∙ if-opens v.asked old (walking.go_shelf v.walk turn old) old refl refl

walks-opens : (call : List ℕ → Call) (v : Visit) (sent turn : Turn) (came : Result Reply Fault) (old : Shelf) (next : Step) (new : Visit) (after : Shelf)
    → visiting.Walks call v sent turn came old next new after → after.opens ≡ old.opens
walks-opens call v sent turn came old next new after w =
    walk-opens (walking.waiting_name v.walk) v.walk sent turn came old w.takes.step w.takes.walked.walk after w.takes.takes

change-opens : (asked : Bool) (call : List ℕ → Call) (told : Told) (v : Visit) (sent turn : Turn) (came : Result Reply Fault) (old : Shelf) (next : Step) (new : Visit) (after : Shelf)
    → changing.TakesChange asked call told v sent turn came old next new after → after.opens ≡ old.opens
change-opens true call told v sent turn came old next new after t = ap (λ (k : Shelf). k.opens) t.1.others
change-opens false call told v sent turn came old next new after t = walks-opens call v sent turn came old next new after t

show-opens : (asked : Bool) (call : List ℕ → Call) (attr : Option Attr) (told : Result Value Fault) (v : Visit) (sent turn : Turn) (came : Result Reply Fault) (old : Shelf) (next : Step)
    (new : Visit) (after : Shelf) → TakesShow asked call attr told v sent turn came old next new after → after.opens ≡ old.opens
show-opens true call attr told v sent turn came old next new after t = ap (λ (k : Shelf). k.opens) t.1.others
show-opens false call attr told v sent turn came old next new after t = walks-opens call v sent turn came old next new after t

text-opens : (asked : Bool) (v : Visit) (sent turn : Turn) (came : Result Reply Fault) (old : Shelf) (next : Step) (new : Visit) (after : Shelf)
    → TakesText asked v sent turn came old next new after → after.opens ≡ old.opens
text-opens true v sent turn came old next new after t = ap (λ (k : Shelf). k.opens) t.1.shows.others
text-opens false v sent turn came old next new after t = walks-opens text_call v sent turn came old next new after t

sym-opens : (asked : Bool) (m : SymLink) (sent turn : Turn) (came : Result Reply Fault) (old : Shelf) (next : Step) (new : Visit) (after : Shelf)
    → TakesSymLink asked m sent turn came old next new after → after.opens ≡ old.opens
sym-opens true m sent turn came old next new after t = by t.1
  where
    by : ChangesByCopy m.visit.walk.spot.dir (sym_link_call m.name m.target m.visit.walk.spot.dir) (sym_linked_told came) sent turn old next after → after.opens ≡ old.opens
    by (inl c) = ap (λ (k : Shelf). k.opens) c.others
    by (inr c) = ap (λ (k : Shelf). k.opens) c.1.others
sym-opens false m sent turn came old next new after t =
    walk-opens (walking.waiting_name m.visit.walk) m.visit.walk sent turn came old t.takes.step t.takes.walked.walk after t.takes.takes

stat-opens : (asked : Bool) (m : Stat) (sent turn : Turn) (came : Result Reply Fault) (old : Shelf) (next : Step) (new : Stat) (after : Shelf)
    → stats.StatTakes asked m sent turn came old next new after → after.opens ≡ old.opens
stat-opens true m sent turn came old next new after t = ap (λ (k : Shelf). k.opens) t.1.others
stat-opens false m sent turn came old next new after t = walk-opens (walking.waiting_name m.walk) m.walk sent turn came old t.step t.walked.walk after t.takes

list-opens : (asked : Bool) (m : ListDir) (sent turn : Turn) (came : Result Reply Fault) (old : Shelf) (next : Step) (new : ListDir) (after : Shelf)
    → listing.TakesList asked m sent turn came old next new after → after.opens ≡ old.opens
list-opens true m sent turn came old next new after t = ap (λ (k : Shelf). k.opens) t.others
list-opens false m sent turn came old next new after t = walks-opens (listing.page_call m.place) m.visit sent turn came old next t.visit after t.walks

-- ---- two walks

first-opens : (step : WalkStep) (p : Pair) (turn : Turn) (shelf : Shelf) → (pairs.first_shelf step p turn shelf).opens ≡ shelf.opens
first-opens (walks.Send call) p turn shelf = refl
first-opens walks.Wait p turn shelf = refl
first-opens (walks.At first) p turn shelf = refl
first-opens (walks.Refused fault) p turn shelf = refl

pair-opens : (p : Pair) (turn : Turn) (old after : Shelf) → after ≡ pairs.pair_shelf p turn old → after.opens ≡ old.opens
pair-opens p turn old after is = ap (λ (k : Shelf). k.opens) is
    ∙ if-opens (pairs.waits p) old (pairs.on_shelf p turn old) old refl (first-opens (walking.go_next p.first turn old) (pairs.walked_first p turn old) turn (walking.go_shelf p.first turn old))

pair-took : (b : Bool) (p : Pair) (sent turn : Turn) (came : Result Reply Fault) (old : Shelf) (next : PairStep) (new : Pair) (after : Shelf)
    → pairs.PairTakes b p sent turn came old next new after → after.opens ≡ old.opens
pair-took true p sent turn came old next new after t =
    ap (λ (k : Shelf). k.opens) t.shelf_is ∙ first-opens t.step t.walked turn t.heard ∙ walk-opens (walking.waiting_name p.first) p.first sent turn came old t.step t.walked.first t.heard t.takes
pair-took false p sent turn came old next new after t = walk-opens (walking.waiting_name p.second) p.second sent turn came old t.step t.walked.second after t.takes

rename-opens : (asked : Bool) (m : Rename) (sent turn : Turn) (came : Result Reply Fault) (old : Shelf) (next : Step) (new : Pair) (after : Shelf)
    → TakesRename asked m sent turn came old next new after → after.opens ≡ old.opens
rename-opens true m sent turn came old next new after t = ap (λ (k : Shelf). k.opens) t.1.others
rename-opens false m sent turn came old next new after t = pair-took m.pair.first.asked m.pair sent turn came old t.step new after t.takes

link-opens : (asked : Bool) (m : Link) (sent turn : Turn) (came : Result Reply Fault) (old : Shelf) (next : Step) (new : Pair) (after : Shelf)
    → TakesLink asked m sent turn came old next new after → after.opens ≡ old.opens
link-opens true m sent turn came old next new after t = ap (λ (k : Shelf). k.opens) t.1.others
link-opens false m sent turn came old next new after t = pair-took m.pair.first.asked m.pair sent turn came old t.step new after t.takes

-- ---- removals

resumes-opens : (asked : Bool) (m : RemoveFile) (turn : Turn) (old : Shelf) (next : Step) (new : RemoveFile) (after : Shelf) → removals.Resumes asked m turn old next new after → after.opens ≡ old.opens
resumes-opens true m turn old next new after r = ap (λ (k : Shelf). k.opens) r.shelf_is
resumes-opens false m turn old next new after r = by m.deed r
  where
    by : (deed : Option Deed) → removals.Goes deed m turn old next new after → after.opens ≡ old.opens
    by (Some deed) g = ap (λ (k : Shelf). k.opens) g.shelf_is
    by None g = ap (λ (k : Shelf). k.opens) g.shelf_is

look-opens : (again : Bool) (told : Result (List ℕ) Fault) (m : RemoveFile) (room : Bool) (old : Shelf) (next : Step) (new : RemoveFile) (after : Shelf)
    → removals.FollowsLook again told m room old next new after → after.opens ≡ old.opens
look-opens true told m room old next new after f = ap (λ (k : Shelf). k.opens) f.shelf_is
look-opens false (Ok file) m room old next new after f = ap (λ (k : Shelf). k.opens) f.plans.shelf_is
look-opens false (Err fault) m room old next new after f = ap (λ (k : Shelf). k.opens) f.shelf_is

seek-opens : (again : Bool) (told : Result (List ℕ) Fault) (file to : List ℕ) (m : RemoveFile) (room : Bool) (old : Shelf) (next : Step) (new : RemoveFile) (after : Shelf)
    → removals.FollowsSeek again told file to m room old next new after → after.opens ≡ old.opens
seek-opens true told file to m room old next new after f = ap (λ (k : Shelf). k.opens) f.shelf_is
seek-opens false (Ok found) file to m room old next new after f = ap (λ (k : Shelf). k.opens) f.shelf_is
seek-opens false (Err fault) file to m room old next new after f = ap (λ (k : Shelf). k.opens) f.shelf_is

deed-opens : (deed : Deed) (m : RemoveFile) (sent turn : Turn) (came : Result Reply Fault) (old : Shelf) (next : Step) (new : RemoveFile) (after : Shelf)
    → removals.TakesDeed deed m sent turn came old next new after → after.opens ≡ old.opens
deed-opens Look m sent turn came old next new after t =
    look-opens (look_again sent turn came old) (found_by came) m turn.room t.heard next new after t.follows ∙ ap (λ (k : Shelf). k.opens) t.hears.others
deed-opens (Seek file to) m sent turn came old next new after t =
    seek-opens (look_again sent turn came old) (found_by came) file to m turn.room t.heard next new after t.follows ∙ ap (λ (k : Shelf). k.opens) t.hears.others
deed-opens (Move file to) m sent turn came old next new after t = ap (λ (k : Shelf). k.opens) t.1.others
deed-opens Remove m sent turn came old next new after t = ap (λ (k : Shelf). k.opens) t.1.others

removal-opens : (deed : Option Deed) (m : RemoveFile) (sent turn : Turn) (came : Result Reply Fault) (old : Shelf) (next : Step) (new : RemoveFile) (after : Shelf)
    → removals.Takes deed m sent turn came old next new after → after.opens ≡ old.opens
removal-opens (Some deed) m sent turn came old next new after t = by m.asked t
  where
    by : (asked : Bool) → removals.TakesIf asked deed m sent turn came old next new after → after.opens ≡ old.opens
    by true k = deed-opens deed m sent turn came old next new after k
    by false k = ap (λ (s : Shelf). s.opens) k.shelf_is
removal-opens None m sent turn came old next new after t = walk-opens (walking.waiting_name m.walk) m.walk sent turn came old t.step t.walked.walk after t.takes

-- ---- any operation on names

pub name-goes : (m : NameMachine) (turn : Turn) (old : Shelf) (next : Step) (new : NameMachine) (after : Shelf) → steps.NameGoes m turn old next new after → after.opens ≡ old.opens
name-goes (machines.Change m) turn old next new after g = visit-opens m.visit turn old after g.shelf_is
name-goes (machines.Stat m) turn old next new after g = ap (λ (k : Shelf). k.opens) g.shelf_is ∙ if-opens m.asked old (walking.go_shelf m.walk turn old) old refl refl
name-goes (machines.Access m) turn old next new after g = visit-opens m.visit turn old after g.shelf_is
name-goes (machines.ReadLink m) turn old next new after g = visit-opens m.visit turn old after g.shelf_is
name-goes (machines.Remove m) turn old next new after g = resumes-opens m.asked m turn old next g.machine after g.step
name-goes (machines.Rename m) turn old next new after g = pair-opens m.pair turn old after g.shelf_is
name-goes (machines.Link m) turn old next new after g = pair-opens m.pair turn old after g.shelf_is
name-goes (machines.SymLink m) turn old next new after g = visit-opens m.visit turn old after g.shelf_is
name-goes (machines.List m) turn old next new after g = visit-opens m.visit turn old after g.shelf_is

pub name-takes : (m : NameMachine) (sent turn : Turn) (came : Result Reply Fault) (old : Shelf) (next : Step) (new : NameMachine) (after : Shelf)
    → steps.NameTakes m sent turn came old next new after → after.opens ≡ old.opens
name-takes (machines.Change m) sent turn came old next new after t =
    change-opens m.visit.asked (deed_call m.deed m.name) (deed_told m.deed came) m.visit sent turn came old next t.visit after t.step
name-takes (machines.Stat m) sent turn came old next new after t = stat-opens m.asked m sent turn came old next t.machine after t.step
name-takes (machines.Access m) sent turn came old next new after t =
    show-opens m.visit.asked (access_call m.bits) (access_attr came) (access_told came) m.visit sent turn came old next t.visit after t.step
name-takes (machines.ReadLink m) sent turn came old next new after t = text-opens m.visit.asked m.visit sent turn came old next t.visit after t.step
name-takes (machines.Remove m) sent turn came old next new after t = removal-opens m.deed m sent turn came old next t.machine after t.step
name-takes (machines.Rename m) sent turn came old next new after t = rename-opens m.pair.asked m sent turn came old next t.pair after t.step
name-takes (machines.Link m) sent turn came old next new after t = link-opens m.pair.asked m sent turn came old next t.pair after t.step
name-takes (machines.SymLink m) sent turn came old next new after t = sym-opens m.visit.asked m sent turn came old next t.visit after t.step
name-takes (machines.List m) sent turn came old next new after t = list-opens m.visit.asked m sent turn came old next t.machine after t.step
