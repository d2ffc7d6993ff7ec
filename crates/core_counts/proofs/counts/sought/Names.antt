-- What a step of an operation on names leaves of the number of the next hidden name: it stays, but where a remove looks for such a name.
use Rattle.core_counts.proofs.Prelude.{◌≡◌, ℕ, Bool, true, false, List, Option, Some, None, Result, Ok, Err, inl, inr, refl, sym, ap, subst, ◌∙◌, ◌<◌, ◌+◌, arith, if◌then◌else◌, Attr, Fault, Value, Call, Reply, Step, Shelf, Turn, ListDir, Stat, SymLink, Visit, Walk, WalkStep, found_by, look_again, text_call, TakesText, TakesShow, sym_link_call, TakesSymLink, Link, Pair, PairStep, Deed, Look, Seek, Move, Remove, RemoveFile, Rename, access_call, deed_call, TakesLink, TakesRename, NameMachine}
use Rattle.name_ops.specs.SymLink.{sym_linked_told, ChangesByCopy}
use Rattle.name_ops.specs.Access.{access_attr, access_told}
use Rattle.name_ops.specs.DirChange.{deed_told}
use Rattle.silly_rename.specs.Plans.{silly_name}
use Rattle.name_ops.specs.declared.told.Told.{Told}
use Rattle.name_ops.specs.declared.walk.WalkStep.TheVariants as walks
use Rattle.name_ops.specs.Changing as changing
use Rattle.name_ops.specs.ListDir as listing
use Rattle.name_ops.specs.Stat as stats
use Rattle.name_ops.specs.Visiting as visiting
use Rattle.name_ops.specs.Walking as walking
use Rattle.name_ops.specs.Pairs as pairs
use Rattle.name_ops.specs.RemoveFile as removals
use Rattle.op_machines.specs.declared.name_machine.NameMachine.TheVariants as machines
use Rattle.op_machines.specs.NameSteps as steps

-- ---- walks and visits

go-counter : (w : Walk) (turn : Turn) (shelf : Shelf) → (walking.go_shelf w turn shelf).counter ≡ shelf.counter
go-counter w turn shelf = refl

told-counter : (told : Result (List ℕ) Fault) (w : Walk) (turn : Turn) (shelf : Shelf) → (walking.told_shelf w told turn shelf).counter ≡ shelf.counter
told-counter (Ok found) w turn shelf = refl
told-counter (Err fault) w turn shelf = refl

followed-counter : (busy : Bool) (told : Result (List ℕ) Fault) (w : Walk) (turn : Turn) (shelf : Shelf) → (walking.followed_shelf busy w told turn shelf).counter ≡ shelf.counter
followed-counter true told w turn shelf = refl
followed-counter false told w turn shelf = told-counter told w turn shelf

pub walk-counter : (name : Option (List ℕ)) (w : Walk) (sent turn : Turn) (came : Result Reply Fault) (old : Shelf) (step : WalkStep) (new : Walk) (after : Shelf)
    → walking.Takes name w sent turn came old step new after → after.counter ≡ old.counter
walk-counter None w sent turn came old step new after t = ap (λ (k : Shelf). k.counter) t.shelf_is
walk-counter (Some name) w sent turn came old step new after t =
    ap (λ (k : Shelf). k.counter) t.shelf_is ∙ followed-counter (look_again sent turn came old) (found_by came) w turn t.heard ∙ ap (λ (k : Shelf). k.counter) t.hears.others

if-counter : (b : Bool) (one other old : Shelf) → one.counter ≡ old.counter → other.counter ≡ old.counter → (if b then one else other).counter ≡ old.counter
if-counter true one other old f g = f
if-counter false one other old f g = g

visit-counter : (v : Visit) (turn : Turn) (old after : Shelf) → after ≡ visiting.visit_shelf v turn old → after.counter ≡ old.counter
visit-counter v turn old after is = ap (λ (k : Shelf). k.counter) is ∙ if-counter v.asked old (walking.go_shelf v.walk turn old) old refl refl

walks-counter : (call : List ℕ → Call) (v : Visit) (sent turn : Turn) (came : Result Reply Fault) (old : Shelf) (next : Step) (new : Visit) (after : Shelf)
    → visiting.Walks call v sent turn came old next new after → after.counter ≡ old.counter
walks-counter call v sent turn came old next new after w =
    walk-counter (walking.waiting_name v.walk) v.walk sent turn came old w.takes.step w.takes.walked.walk after w.takes.takes

change-counter : (asked : Bool) (call : List ℕ → Call) (told : Told) (v : Visit) (sent turn : Turn) (came : Result Reply Fault) (old : Shelf) (next : Step) (new : Visit) (after : Shelf)
    → changing.TakesChange asked call told v sent turn came old next new after → after.counter ≡ old.counter
change-counter true call told v sent turn came old next new after t = ap (λ (k : Shelf). k.counter) t.1.others
change-counter false call told v sent turn came old next new after t = walks-counter call v sent turn came old next new after t

show-counter : (asked : Bool) (call : List ℕ → Call) (attr : Option Attr) (told : Result Value Fault) (v : Visit) (sent turn : Turn) (came : Result Reply Fault) (old : Shelf) (next : Step)
    (new : Visit) (after : Shelf) → TakesShow asked call attr told v sent turn came old next new after → after.counter ≡ old.counter
show-counter true call attr told v sent turn came old next new after t = ap (λ (k : Shelf). k.counter) t.1.others
show-counter false call attr told v sent turn came old next new after t = walks-counter call v sent turn came old next new after t

text-counter : (asked : Bool) (v : Visit) (sent turn : Turn) (came : Result Reply Fault) (old : Shelf) (next : Step) (new : Visit) (after : Shelf)
    → TakesText asked v sent turn came old next new after → after.counter ≡ old.counter
text-counter true v sent turn came old next new after t = ap (λ (k : Shelf). k.counter) t.1.shows.others
text-counter false v sent turn came old next new after t = walks-counter text_call v sent turn came old next new after t

sym-counter : (asked : Bool) (m : SymLink) (sent turn : Turn) (came : Result Reply Fault) (old : Shelf) (next : Step) (new : Visit) (after : Shelf)
    → TakesSymLink asked m sent turn came old next new after → after.counter ≡ old.counter
sym-counter true m sent turn came old next new after t = by t.1
  where
    by : ChangesByCopy m.visit.walk.spot.dir (sym_link_call m.name m.target m.visit.walk.spot.dir) (sym_linked_told came) sent turn old next after → after.counter ≡ old.counter
    by (inl c) = ap (λ (k : Shelf). k.counter) c.others
    by (inr c) = ap (λ (k : Shelf). k.counter) c.1.others
sym-counter false m sent turn came old next new after t =
    walk-counter (walking.waiting_name m.visit.walk) m.visit.walk sent turn came old t.takes.step t.takes.walked.walk after t.takes.takes

stat-counter : (asked : Bool) (m : Stat) (sent turn : Turn) (came : Result Reply Fault) (old : Shelf) (next : Step) (new : Stat) (after : Shelf)
    → stats.StatTakes asked m sent turn came old next new after → after.counter ≡ old.counter
stat-counter true m sent turn came old next new after t = ap (λ (k : Shelf). k.counter) t.1.others
stat-counter false m sent turn came old next new after t = walk-counter (walking.waiting_name m.walk) m.walk sent turn came old t.step t.walked.walk after t.takes

list-counter : (asked : Bool) (m : ListDir) (sent turn : Turn) (came : Result Reply Fault) (old : Shelf) (next : Step) (new : ListDir) (after : Shelf)
    → listing.TakesList asked m sent turn came old next new after → after.counter ≡ old.counter
list-counter true m sent turn came old next new after t = ap (λ (k : Shelf). k.counter) t.others
list-counter false m sent turn came old next new after t = walks-counter (listing.page_call m.place) m.visit sent turn came old next t.visit after t.walks

-- ---- two walks

first-counter : (step : WalkStep) (p : Pair) (turn : Turn) (shelf : Shelf) → (pairs.first_shelf step p turn shelf).counter ≡ shelf.counter
first-counter (walks.Send call) p turn shelf = refl
first-counter walks.Wait p turn shelf = refl
first-counter (walks.At first) p turn shelf = refl
first-counter (walks.Refused fault) p turn shelf = refl

pair-counter : (p : Pair) (turn : Turn) (old after : Shelf) → after ≡ pairs.pair_shelf p turn old → after.counter ≡ old.counter
pair-counter p turn old after is = ap (λ (k : Shelf). k.counter) is
    ∙ if-counter (pairs.waits p) old (pairs.on_shelf p turn old) old refl (first-counter (walking.go_next p.first turn old) (pairs.walked_first p turn old) turn (walking.go_shelf p.first turn old))

pair-took : (b : Bool) (p : Pair) (sent turn : Turn) (came : Result Reply Fault) (old : Shelf) (next : PairStep) (new : Pair) (after : Shelf)
    → pairs.PairTakes b p sent turn came old next new after → after.counter ≡ old.counter
pair-took true p sent turn came old next new after t =
    ap (λ (k : Shelf). k.counter) t.shelf_is ∙ first-counter t.step t.walked turn t.heard ∙ walk-counter (walking.waiting_name p.first) p.first sent turn came old t.step t.walked.first t.heard t.takes
pair-took false p sent turn came old next new after t = walk-counter (walking.waiting_name p.second) p.second sent turn came old t.step t.walked.second after t.takes

rename-counter : (asked : Bool) (m : Rename) (sent turn : Turn) (came : Result Reply Fault) (old : Shelf) (next : Step) (new : Pair) (after : Shelf)
    → TakesRename asked m sent turn came old next new after → after.counter ≡ old.counter
rename-counter true m sent turn came old next new after t = ap (λ (k : Shelf). k.counter) t.1.others
rename-counter false m sent turn came old next new after t = pair-took m.pair.first.asked m.pair sent turn came old t.step new after t.takes

link-counter : (asked : Bool) (m : Link) (sent turn : Turn) (came : Result Reply Fault) (old : Shelf) (next : Step) (new : Pair) (after : Shelf)
    → TakesLink asked m sent turn came old next new after → after.counter ≡ old.counter
link-counter true m sent turn came old next new after t = ap (λ (k : Shelf). k.counter) t.1.others
link-counter false m sent turn came old next new after t = pair-took m.pair.first.asked m.pair sent turn came old t.step new after t.takes

-- ---- removals

-- the hidden name is that of a number below this one
pub record IsNumbered (counter : ℕ) (name : List ℕ) : Type 0 where
  pub number : ℕ
  pub is : name ≡ silly_name number
  pub low : number < counter

abbrev pub DeedBelow : ℕ → Option Deed → Type 0
DeedBelow counter None = Unit {0}
DeedBelow counter (Some Look) = Unit {0}
DeedBelow counter (Some (Seek file to)) = IsNumbered counter to
DeedBelow counter (Some (Move file to)) = Unit {0}
DeedBelow counter (Some Remove) = Unit {0}

-- What a step at what came leaves: the number of the next name, and what is known of the name that is looked for; or the next name is looked for after a reply.
pub data Took (came : Result Reply Fault) (old after : Shelf) (Was Now : ℕ → Type 0) : Type 0 where
  stays : after.counter ≡ old.counter → ((n : ℕ) → Was n → Now n) → Took came old after Was Now
  looks : (reply : Reply) → came ≡ Ok reply → after.counter ≡ removals.next_number old.counter → Now (old.counter + 1) → Took came old after Was Now

abbrev pub Below : RemoveFile → ℕ → Type 0
Below m counter = DeedBelow counter m.deed

below-as : (to new : RemoveFile) → new ≡ to → (n : ℕ) → Below to n → Below new n
below-as to new is n k = subst (λ (m : RemoveFile). Below m n) (sym is) k

first-below : (any : Bool) (n : ℕ) → DeedBelow n (Some (removals.first_deed any))
first-below true n = tt
first-below false n = tt

follows-below : (step : WalkStep) (room : Bool) (m : RemoveFile) (opens : _) (next : Step) (new : RemoveFile) → removals.Follows step room m opens next new → (n : ℕ) → Below m n → Below new n
follows-below (walks.Send call) room m opens next new f n k = below-as m new f.1 n k
follows-below walks.Wait room m opens next new f n k = below-as m new f.1 n k
follows-below (walks.At dir) room m opens next new f n k = below-as (removals.asked_after m (removals.first_deed f.any) room) new f.machine_is n (first-below f.any n)
follows-below (walks.Refused fault) room m opens next new f n k = below-as m new f.1 n k

-- without a reply
pub record Goes (old after : Shelf) (Was Now : ℕ → Type 0) : Type 0 where
  pub counter : after.counter ≡ old.counter
  pub below : (n : ℕ) → Was n → Now n

removal-goes : (asked : Bool) (m : RemoveFile) (turn : Turn) (old : Shelf) (next : Step) (new : RemoveFile) (after : Shelf) → removals.Resumes asked m turn old next new after
    → Goes old after (Below m) (Below new)
removal-goes true m turn old next new after r = record { counter = ap (λ (k : Shelf). k.counter) r.shelf_is; below = λ n k. below-as m new r.machine_is n k }
removal-goes false m turn old next new after r = by m.deed refl r
  where
    by : (deed : Option Deed) → m.deed ≡ deed → removals.Goes deed m turn old next new after → Goes old after (Below m) (Below new)
    by (Some deed) is g = record {
      counter = ap (λ (k : Shelf). k.counter) g.shelf_is;
      below = λ n k. below-as (removals.asked_after m deed turn.room) new g.machine_is n (subst (DeedBelow n) is k);
    }
    by None is g = record {
      counter = ap (λ (k : Shelf). k.counter) g.shelf_is;
      below = λ n k. follows-below (walking.go_next m.walk turn old) turn.room (record m { walk = walking.go_after m.walk turn old }) old.opens next new g.follows n k;
    }

-- what was found, a reply showed
replied : (came : Result Reply Fault) (found : List ℕ) → found_by came ≡ Ok found → (reply : Reply) × (came ≡ Ok reply)
replied (Ok reply) found is = (reply, refl)
replied (Err fault) found is = absurd (err-ok fault found is)
  where
    err-ok : (f : Fault) (o : List ℕ) → ◌≡◌ {A = Result (List ℕ) Fault} (Err f) (Ok o) → ⊥
    err-ok f o e = let no_way = e in cc

abbrev RemovalTook : RemoveFile → Result Reply Fault → Shelf → RemoveFile → Shelf → Type 0
RemovalTook m came old new after = Took came old after (Below m) (Below new)

same-took : (m : RemoveFile) (came : Result Reply Fault) (old : Shelf) (new : RemoveFile) (after : Shelf) → after.counter ≡ old.counter → new ≡ m → RemovalTook m came old new after
same-took m came old new after counter is = stays counter (λ n k. below-as m new is n k)

plans-took : (is_open : Bool) (file found : List ℕ) (m : RemoveFile) (came : Result Reply Fault) (room : Bool) (old heard : Shelf) (next : Step) (new : RemoveFile) (after : Shelf) → heard.counter ≡ old.counter
    → found_by came ≡ Ok found → removals.Plans is_open file m room heard next new after → RemovalTook m came old new after
plans-took false file found m came room old heard next new after same told p =
    stays (ap (λ (k : Shelf). k.counter) p.shelf_is ∙ same) (λ n k. below-as (removals.asked_after m Remove room) new p.machine_is n tt)
plans-took true file found m came room old heard next new after same told p =
    let r = replied came found told in
    looks r.0 r.1 (ap (λ (k : Shelf). k.counter) p.shelf_is ∙ ap removals.next_number same)
    (below-as (removals.asked_after m (Seek file (silly_name heard.counter)) room) new p.machine_is (old.counter + 1) (record { number = old.counter; is = ap silly_name same; low = omega arith }))

look-took : (again : Bool) (told : Result (List ℕ) Fault) (m : RemoveFile) (came : Result Reply Fault) (room : Bool) (old heard : Shelf) (next : Step) (new : RemoveFile) (after : Shelf)
    → heard.counter ≡ old.counter → found_by came ≡ told → removals.FollowsLook again told m room heard next new after → RemovalTook m came old new after
look-took true told m came room old heard next new after same found f = same-took m came old new after (ap (λ (k : Shelf). k.counter) f.shelf_is ∙ same) f.machine_is
look-took false (Ok file) m came room old heard next new after same found f = plans-took f.is_open file file m came room old heard next new after same found f.plans
look-took false (Err fault) m came room old heard next new after same found f = same-took m came old new after (ap (λ (k : Shelf). k.counter) f.shelf_is ∙ same) f.machine_is

seek-took : (again : Bool) (told : Result (List ℕ) Fault) (file to : List ℕ) (m : RemoveFile) (came : Result Reply Fault) (room : Bool) (old heard : Shelf) (next : Step) (new : RemoveFile) (after : Shelf)
    → heard.counter ≡ old.counter → found_by came ≡ told → removals.FollowsSeek again told file to m room heard next new after → RemovalTook m came old new after
seek-took true told file to m came room old heard next new after same found f = same-took m came old new after (ap (λ (k : Shelf). k.counter) f.shelf_is ∙ same) f.machine_is
seek-took false (Ok there) file to m came room old heard next new after same found f = plans-took true file there m came room old heard next new after same found f
seek-took false (Err fault) file to m came room old heard next new after same found f = by (removals.is_missing fault) f.machine_is
  where
    counter : after.counter ≡ old.counter
    counter = ap (λ (k : Shelf). k.counter) f.shelf_is ∙ same

    by : (b : Bool) → new ≡ removals.missed_after b file to m room → Took came old after (Below m) (Below new)
    by true is = stays counter (λ n k. below-as (removals.asked_after m (Move file to) room) new is n tt)
    by false is = stays counter (λ n k. below-as m new is n k)

deed-took : (deed : Deed) (m : RemoveFile) (sent turn : Turn) (came : Result Reply Fault) (old : Shelf) (next : Step) (new : RemoveFile) (after : Shelf)
    → removals.TakesDeed deed m sent turn came old next new after → RemovalTook m came old new after
deed-took Look m sent turn came old next new after t =
    look-took (look_again sent turn came old) (found_by came) m came turn.room old t.heard next new after (ap (λ (k : Shelf). k.counter) t.hears.others) refl t.follows
deed-took (Seek file to) m sent turn came old next new after t =
    seek-took (look_again sent turn came old) (found_by came) file to m came turn.room old t.heard next new after (ap (λ (k : Shelf). k.counter) t.hears.others) refl t.follows
deed-took (Move file to) m sent turn came old next new after t = same-took m came old new after (ap (λ (k : Shelf). k.counter) t.1.others) t.0
deed-took Remove m sent turn came old next new after t = same-took m came old new after (ap (λ (k : Shelf). k.counter) t.1.others) t.0

removal-took : (deed : Option Deed) (m : RemoveFile) (sent turn : Turn) (came : Result Reply Fault) (old : Shelf) (next : Step) (new : RemoveFile) (after : Shelf)
    → removals.Takes deed m sent turn came old next new after → RemovalTook m came old new after
removal-took (Some deed) m sent turn came old next new after t = by m.asked t
  where
    by : (asked : Bool) → removals.TakesIf asked deed m sent turn came old next new after → RemovalTook m came old new after
    by true k = deed-took deed m sent turn came old next new after k
    by false k = same-took m came old new after (ap (λ (s : Shelf). s.counter) k.shelf_is) k.machine_is
removal-took None m sent turn came old next new after t =
    stays (walk-counter (walking.waiting_name m.walk) m.walk sent turn came old t.step t.walked.walk after t.takes)
    (λ n k. follows-below t.step turn.room t.walked after.opens next new t.follows n (below-as (record m { walk = t.walked.walk }) t.walked t.walked_is n k))

-- ---- any operation on names

abbrev pub NameBelow : NameMachine → ℕ → Type 0
NameBelow (machines.Remove m) counter = Below m counter
NameBelow (machines.Change m) counter = Unit {0}
NameBelow (machines.Stat m) counter = Unit {0}
NameBelow (machines.Access m) counter = Unit {0}
NameBelow (machines.ReadLink m) counter = Unit {0}
NameBelow (machines.Rename m) counter = Unit {0}
NameBelow (machines.Link m) counter = Unit {0}
NameBelow (machines.SymLink m) counter = Unit {0}
NameBelow (machines.List m) counter = Unit {0}

name-as : (to new : NameMachine) → new ≡ to → (n : ℕ) → NameBelow to n → NameBelow new n
name-as to new is n k = subst (λ (m : NameMachine). NameBelow m n) (sym is) k

pub name-goes : (m : NameMachine) (turn : Turn) (old : Shelf) (next : Step) (new : NameMachine) (after : Shelf) → steps.NameGoes m turn old next new after → Goes old after (NameBelow m) (NameBelow new)
name-goes (machines.Change m) turn old next new after g = record { counter = visit-counter m.visit turn old after g.shelf_is; below = λ n k. name-as _ new g.machine_is n tt }
name-goes (machines.Stat m) turn old next new after g =
    record { counter = ap (λ (k : Shelf). k.counter) g.shelf_is ∙ if-counter m.asked old (walking.go_shelf m.walk turn old) old refl refl; below = λ n k. name-as _ new g.machine_is n tt }
name-goes (machines.Access m) turn old next new after g = record { counter = visit-counter m.visit turn old after g.shelf_is; below = λ n k. name-as _ new g.machine_is n tt }
name-goes (machines.ReadLink m) turn old next new after g = record { counter = visit-counter m.visit turn old after g.shelf_is; below = λ n k. name-as _ new g.machine_is n tt }
name-goes (machines.Remove m) turn old next new after g =
    let r = removal-goes m.asked m turn old next g.machine after g.step in record { counter = r.counter; below = λ n k. name-as (machines.Remove g.machine) new g.machine_is n (r.below n k) }
name-goes (machines.Rename m) turn old next new after g = record { counter = pair-counter m.pair turn old after g.shelf_is; below = λ n k. name-as _ new g.machine_is n tt }
name-goes (machines.Link m) turn old next new after g = record { counter = pair-counter m.pair turn old after g.shelf_is; below = λ n k. name-as _ new g.machine_is n tt }
name-goes (machines.SymLink m) turn old next new after g = record { counter = visit-counter m.visit turn old after g.shelf_is; below = λ n k. name-as _ new g.machine_is n tt }
name-goes (machines.List m) turn old next new after g = record { counter = visit-counter m.visit turn old after g.shelf_is; below = λ n k. name-as _ new g.machine_is n tt }

took-as : (m to new : NameMachine) (came : Result Reply Fault) (old after : Shelf) → new ≡ to → Took came old after (NameBelow m) (NameBelow to) → Took came old after (NameBelow m) (NameBelow new)
took-as m to new came old after is t = subst (λ (k : NameMachine). Took came old after (NameBelow m) (NameBelow k)) (sym is) t

pub name-takes : (m : NameMachine) (sent turn : Turn) (came : Result Reply Fault) (old : Shelf) (next : Step) (new : NameMachine) (after : Shelf)
    → steps.NameTakes m sent turn came old next new after → Took came old after (NameBelow m) (NameBelow new)
name-takes (machines.Change m) sent turn came old next new after t =
    took-as (machines.Change m) _ new came old after t.machine_is
    (stays (change-counter m.visit.asked (deed_call m.deed m.name) (deed_told m.deed came) m.visit sent turn came old next t.visit after t.step) (λ n k. tt))
name-takes (machines.Stat m) sent turn came old next new after t =
    took-as (machines.Stat m) _ new came old after t.machine_is (stays (stat-counter m.asked m sent turn came old next t.machine after t.step) (λ n k. tt))
name-takes (machines.Access m) sent turn came old next new after t =
    took-as (machines.Access m) _ new came old after t.machine_is
    (stays (show-counter m.visit.asked (access_call m.bits) (access_attr came) (access_told came) m.visit sent turn came old next t.visit after t.step) (λ n k. tt))
name-takes (machines.ReadLink m) sent turn came old next new after t =
    took-as (machines.ReadLink m) _ new came old after t.machine_is (stays (text-counter m.visit.asked m.visit sent turn came old next t.visit after t.step) (λ n k. tt))
name-takes (machines.Remove m) sent turn came old next new after t =
    took-as (machines.Remove m) (machines.Remove t.machine) new came old after t.machine_is (removal-took m.deed m sent turn came old next t.machine after t.step)
name-takes (machines.Rename m) sent turn came old next new after t =
    took-as (machines.Rename m) _ new came old after t.machine_is (stays (rename-counter m.pair.asked m sent turn came old next t.pair after t.step) (λ n k. tt))
name-takes (machines.Link m) sent turn came old next new after t =
    took-as (machines.Link m) _ new came old after t.machine_is (stays (link-counter m.pair.asked m sent turn came old next t.pair after t.step) (λ n k. tt))
name-takes (machines.SymLink m) sent turn came old next new after t =
    took-as (machines.SymLink m) _ new came old after t.machine_is (stays (sym-counter m.visit.asked m sent turn came old next t.visit after t.step) (λ n k. tt))
name-takes (machines.List m) sent turn came old next new after t =
    took-as (machines.List m) _ new came old after t.machine_is (stays (list-counter m.visit.asked m sent turn came old next t.machine after t.step) (λ n k. tt))
