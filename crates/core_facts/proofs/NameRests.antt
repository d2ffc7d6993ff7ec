-- A step of an operation on names leaves the table of opens, and the orders of the files, as they are.
use Rattle.core_facts.proofs.Prelude.{◌≡◌, ◌-◌, ℕ, Bool, true, false, List, Option, Some, None, Result, Ok, Err, inl, inr, refl, sym, ap, ◌∙◌, if◌then◌else◌, Attr, Fault, Value, Call, Reply, Step, Shelf, Turn, ListDir, Stat, SymLink, Told, Visit, Walk, WalkStep, found_by, look_again, text_call, TakesText, TakesShow, sym_link_call, sym_linked_told, ChangesByCopy, TakesSymLink, Opens, Link, Pair, PairStep, Deed, Look, Seek, Move, RemoveFile, Rename, access_call, access_attr, access_told, deed_call, deed_told, TakesLink, TakesRename, NameMachine, LaneFile}
use Rattle.name_ops.specs.declared.remove_file.Deed.TheVariants.{Remove}
use Rattle.name_ops.specs.declared.walk.WalkStep.TheVariants as walks
use Rattle.name_ops.specs.Changing as changing
use Rattle.name_ops.specs.ListDir as listing
use Rattle.name_ops.specs.Stat as stats
use Rattle.name_ops.specs.Visiting as visiting
use Rattle.name_ops.specs.Walking as walking
use Rattle.name_ops.specs.Pairs as pairs
use Rattle.name_ops.specs.RemoveFile as removals
use Rattle.op_machines.specs.declared.name_machine.NameMachine.TheVariants as machines
use Rattle.op_machines.specs.NameSteps as steps

pub record Rest : Type 0 where
  pub opens : Opens
  pub order : List LaneFile

abbrev pub rest : Shelf → Rest
rest s = record { opens = s.opens; order = s.order }

-- ---- walks and visits

go-rest : (w : Walk) (turn : Turn) (shelf : Shelf) → rest (walking.go_shelf w turn shelf) ≡ rest shelf
go-rest w turn shelf = refl

told-rest : (told : Result (List ℕ) Fault) (w : Walk) (turn : Turn) (shelf : Shelf) → rest (walking.told_shelf w told turn shelf) ≡ rest shelf
told-rest (Ok found) w turn shelf = refl
told-rest (Err fault) w turn shelf = refl

followed-rest : (busy : Bool) (told : Result (List ℕ) Fault) (w : Walk) (turn : Turn) (shelf : Shelf) → rest (walking.followed_shelf busy w told turn shelf) ≡ rest shelf
followed-rest true told w turn shelf = refl
followed-rest false told w turn shelf = told-rest told w turn shelf

pub walk-rest : (name : Option (List ℕ)) (w : Walk) (sent turn : Turn) (came : Result Reply Fault) (old : Shelf) (step : WalkStep) (new : Walk) (after : Shelf)
    → walking.Takes name w sent turn came old step new after → rest after ≡ rest old
walk-rest None w sent turn came old step new after t = ap rest t.shelf_is
walk-rest (Some name) w sent turn came old step new after t =
    ap rest t.shelf_is ∙ followed-rest (look_again sent turn came old) (found_by came) w turn t.heard ∙ ap rest t.hears.others

if-rest : (b : Bool) (one other old : Shelf) → rest one ≡ rest old → rest other ≡ rest old → rest (if b then one else other) ≡ rest old
if-rest true one other old f g = f
if-rest false one other old f g = g

visit-rest : (v : Visit) (turn : Turn) (old after : Shelf) → after ≡ visiting.visit_shelf v turn old → rest after ≡ rest old
visit-rest v turn old after is = ap rest is ∙ if-rest v.asked old (walking.go_shelf v.walk turn old) old refl refl

walks-rest : (call : List ℕ → Call) (v : Visit) (sent turn : Turn) (came : Result Reply Fault) (old : Shelf) (next : Step) (new : Visit) (after : Shelf)
    → visiting.Walks call v sent turn came old next new after → rest after ≡ rest old
walks-rest call v sent turn came old next new after w =
    walk-rest (walking.waiting_name v.walk) v.walk sent turn came old w.takes.step w.takes.walked.walk after w.takes.takes

change-rest : (asked : Bool) (call : List ℕ → Call) (told : Told) (v : Visit) (sent turn : Turn) (came : Result Reply Fault) (old : Shelf) (next : Step) (new : Visit) (after : Shelf)
    → changing.TakesChange asked call told v sent turn came old next new after → rest after ≡ rest old
change-rest true call told v sent turn came old next new after t = ap rest t.1.others
change-rest false call told v sent turn came old next new after t = walks-rest call v sent turn came old next new after t

show-rest : (asked : Bool) (call : List ℕ → Call) (attr : Option Attr) (told : Result Value Fault) (v : Visit) (sent turn : Turn) (came : Result Reply Fault) (old : Shelf) (next : Step)
    (new : Visit) (after : Shelf) → TakesShow asked call attr told v sent turn came old next new after → rest after ≡ rest old
show-rest true call attr told v sent turn came old next new after t = ap rest t.1.others
show-rest false call attr told v sent turn came old next new after t = walks-rest call v sent turn came old next new after t

text-rest : (asked : Bool) (v : Visit) (sent turn : Turn) (came : Result Reply Fault) (old : Shelf) (next : Step) (new : Visit) (after : Shelf)
    → TakesText asked v sent turn came old next new after → rest after ≡ rest old
text-rest true v sent turn came old next new after t = ap rest t.1.shows.others
text-rest false v sent turn came old next new after t = walks-rest text_call v sent turn came old next new after t

sym-rest : (asked : Bool) (m : SymLink) (sent turn : Turn) (came : Result Reply Fault) (old : Shelf) (next : Step) (new : Visit) (after : Shelf)
    → TakesSymLink asked m sent turn came old next new after → rest after ≡ rest old
sym-rest true m sent turn came old next new after t = by t.1
  where
    by : ChangesByCopy m.visit.walk.spot.dir (sym_link_call m.name m.target m.visit.walk.spot.dir) (sym_linked_told came) sent turn old next after → rest after ≡ rest old
    by (inl c) = ap rest c.others
    by (inr c) = ap rest c.1.others
sym-rest false m sent turn came old next new after t =
    walk-rest (walking.waiting_name m.visit.walk) m.visit.walk sent turn came old t.takes.step t.takes.walked.walk after t.takes.takes

stat-rest : (asked : Bool) (m : Stat) (sent turn : Turn) (came : Result Reply Fault) (old : Shelf) (next : Step) (new : Stat) (after : Shelf)
    → stats.StatTakes asked m sent turn came old next new after → rest after ≡ rest old
stat-rest true m sent turn came old next new after t = ap rest t.1.others
stat-rest false m sent turn came old next new after t = walk-rest (walking.waiting_name m.walk) m.walk sent turn came old t.step t.walked.walk after t.takes

list-rest : (asked : Bool) (m : ListDir) (sent turn : Turn) (came : Result Reply Fault) (old : Shelf) (next : Step) (new : ListDir) (after : Shelf)
    → listing.TakesList asked m sent turn came old next new after → rest after ≡ rest old
list-rest true m sent turn came old next new after t = ap rest t.others
list-rest false m sent turn came old next new after t = walks-rest (listing.page_call m.place) m.visit sent turn came old next t.visit after t.walks

-- ---- two walks

first-rest : (step : WalkStep) (p : Pair) (turn : Turn) (shelf : Shelf) → rest (pairs.first_shelf step p turn shelf) ≡ rest shelf
first-rest (walks.Send call) p turn shelf = refl
first-rest walks.Wait p turn shelf = refl
first-rest (walks.At first) p turn shelf = refl
first-rest (walks.Refused fault) p turn shelf = refl

pair-rest : (p : Pair) (turn : Turn) (old after : Shelf) → after ≡ pairs.pair_shelf p turn old → rest after ≡ rest old
pair-rest p turn old after is = ap rest is
    ∙ if-rest (pairs.waits p) old (pairs.on_shelf p turn old) old refl (first-rest (walking.go_next p.first turn old) (pairs.walked_first p turn old) turn (walking.go_shelf p.first turn old))

pair-took : (b : Bool) (p : Pair) (sent turn : Turn) (came : Result Reply Fault) (old : Shelf) (next : PairStep) (new : Pair) (after : Shelf)
    → pairs.PairTakes b p sent turn came old next new after → rest after ≡ rest old
pair-took true p sent turn came old next new after t =
    ap rest t.shelf_is ∙ first-rest t.step t.walked turn t.heard ∙ walk-rest (walking.waiting_name p.first) p.first sent turn came old t.step t.walked.first t.heard t.takes
pair-took false p sent turn came old next new after t = walk-rest (walking.waiting_name p.second) p.second sent turn came old t.step t.walked.second after t.takes

rename-rest : (asked : Bool) (m : Rename) (sent turn : Turn) (came : Result Reply Fault) (old : Shelf) (next : Step) (new : Pair) (after : Shelf)
    → TakesRename asked m sent turn came old next new after → rest after ≡ rest old
rename-rest true m sent turn came old next new after t = ap rest t.1.others
rename-rest false m sent turn came old next new after t = pair-took m.pair.first.asked m.pair sent turn came old t.step new after t.takes

link-rest : (asked : Bool) (m : Link) (sent turn : Turn) (came : Result Reply Fault) (old : Shelf) (next : Step) (new : Pair) (after : Shelf)
    → TakesLink asked m sent turn came old next new after → rest after ≡ rest old
link-rest true m sent turn came old next new after t = ap rest t.1.others
link-rest false m sent turn came old next new after t = pair-took m.pair.first.asked m.pair sent turn came old t.step new after t.takes

-- ---- removals

resumes-rest : (asked : Bool) (m : RemoveFile) (turn : Turn) (old : Shelf) (next : Step) (new : RemoveFile) (after : Shelf) → removals.Resumes asked m turn old next new after → rest after ≡ rest old
resumes-rest true m turn old next new after r = ap rest r.shelf_is
resumes-rest false m turn old next new after r = by m.deed r
  where
    by : (deed : Option Deed) → removals.Goes deed m turn old next new after → rest after ≡ rest old
    by (Some deed) g = ap rest g.shelf_is
    by None g = ap rest g.shelf_is

look-rest : (again : Bool) (told : Result (List ℕ) Fault) (m : RemoveFile) (room : Bool) (old : Shelf) (next : Step) (new : RemoveFile) (after : Shelf)
    → removals.FollowsLook again told m room old next new after → rest after ≡ rest old
look-rest true told m room old next new after f = ap rest f.shelf_is
look-rest false (Ok file) m room old next new after f = ap rest f.plans.shelf_is
look-rest false (Err fault) m room old next new after f = ap rest f.shelf_is

seek-rest : (again : Bool) (told : Result (List ℕ) Fault) (file to : List ℕ) (m : RemoveFile) (room : Bool) (old : Shelf) (next : Step) (new : RemoveFile) (after : Shelf)
    → removals.FollowsSeek again told file to m room old next new after → rest after ≡ rest old
seek-rest true told file to m room old next new after f = ap rest f.shelf_is
seek-rest false (Ok found) file to m room old next new after f = ap rest f.shelf_is
seek-rest false (Err fault) file to m room old next new after f = ap rest f.shelf_is

deed-rest : (deed : Deed) (m : RemoveFile) (sent turn : Turn) (came : Result Reply Fault) (old : Shelf) (next : Step) (new : RemoveFile) (after : Shelf)
    → removals.TakesDeed deed m sent turn came old next new after → rest after ≡ rest old
deed-rest Look m sent turn came old next new after t =
    look-rest (look_again sent turn came old) (found_by came) m turn.room t.heard next new after t.follows ∙ ap rest t.hears.others
deed-rest (Seek file to) m sent turn came old next new after t =
    seek-rest (look_again sent turn came old) (found_by came) file to m turn.room t.heard next new after t.follows ∙ ap rest t.hears.others
deed-rest (Move file to) m sent turn came old next new after t = ap rest t.1.others
deed-rest Remove m sent turn came old next new after t = ap rest t.1.others

removal-rest : (deed : Option Deed) (m : RemoveFile) (sent turn : Turn) (came : Result Reply Fault) (old : Shelf) (next : Step) (new : RemoveFile) (after : Shelf)
    → removals.Takes deed m sent turn came old next new after → rest after ≡ rest old
removal-rest (Some deed) m sent turn came old next new after t = by m.asked t
  where
    by : (asked : Bool) → removals.TakesIf asked deed m sent turn came old next new after → rest after ≡ rest old
    by true k = deed-rest deed m sent turn came old next new after k
    by false k = ap rest k.shelf_is
removal-rest None m sent turn came old next new after t = walk-rest (walking.waiting_name m.walk) m.walk sent turn came old t.step t.walked.walk after t.takes

-- ---- any operation on names

pub name-goes : (m : NameMachine) (turn : Turn) (old : Shelf) (next : Step) (new : NameMachine) (after : Shelf) → steps.NameGoes m turn old next new after → rest after ≡ rest old
name-goes (machines.Change m) turn old next new after g = visit-rest m.visit turn old after g.shelf_is
name-goes (machines.Stat m) turn old next new after g = ap rest g.shelf_is ∙ if-rest m.asked old (walking.go_shelf m.walk turn old) old refl refl
name-goes (machines.Access m) turn old next new after g = visit-rest m.visit turn old after g.shelf_is
name-goes (machines.ReadLink m) turn old next new after g = visit-rest m.visit turn old after g.shelf_is
name-goes (machines.Remove m) turn old next new after g = resumes-rest m.asked m turn old next g.machine after g.step
name-goes (machines.Rename m) turn old next new after g = pair-rest m.pair turn old after g.shelf_is
name-goes (machines.Link m) turn old next new after g = pair-rest m.pair turn old after g.shelf_is
name-goes (machines.SymLink m) turn old next new after g = visit-rest m.visit turn old after g.shelf_is
name-goes (machines.List m) turn old next new after g = visit-rest m.visit turn old after g.shelf_is

pub name-takes : (m : NameMachine) (sent turn : Turn) (came : Result Reply Fault) (old : Shelf) (next : Step) (new : NameMachine) (after : Shelf)
    → steps.NameTakes m sent turn came old next new after → rest after ≡ rest old
name-takes (machines.Change m) sent turn came old next new after t =
    change-rest m.visit.asked (deed_call m.deed m.name) (deed_told m.deed came) m.visit sent turn came old next t.visit after t.step
name-takes (machines.Stat m) sent turn came old next new after t = stat-rest m.asked m sent turn came old next t.machine after t.step
name-takes (machines.Access m) sent turn came old next new after t =
    show-rest m.visit.asked (access_call m.bits) (access_attr came) (access_told came) m.visit sent turn came old next t.visit after t.step
name-takes (machines.ReadLink m) sent turn came old next new after t = text-rest m.visit.asked m.visit sent turn came old next t.visit after t.step
name-takes (machines.Remove m) sent turn came old next new after t = removal-rest m.deed m sent turn came old next t.machine after t.step
name-takes (machines.Rename m) sent turn came old next new after t = rename-rest m.pair.asked m sent turn came old next t.pair after t.step
name-takes (machines.Link m) sent turn came old next new after t = link-rest m.pair.asked m sent turn came old next t.pair after t.step
name-takes (machines.SymLink m) sent turn came old next new after t = sym-rest m.visit.asked m sent turn came old next t.visit after t.step
name-takes (machines.List m) sent turn came old next new after t = list-rest m.visit.asked m sent turn came old next t.machine after t.step
