-- On which objects the calls of operations on names are made.
use Rattle.core_answers.proofs.Prelude.{◌≡◌, ◌||◌, ℕ, Bool, true, false, List, Option, Some, None, Result, Ok, Err, inl, inr, refl, sym, ap, subst, ◌∙◌, if◌then◌else◌, Attr, ListFault, ListStep, More, End, page_step, Opens, Answer, Fault, Value, Call, Reply, fails_busy, goes_again, Step, Shelf, Turn, DirDeed, Link, ListDir, Pair, PairStep, Deed, Look, Seek, Move, Remove, RemoveFile, Rename, Stat, SymLink, Visit, VisitStep, Walk, WalkStep, access_call, access_attr, access_told, deed_call, deed_told, link_call, linked_told, TakesLink, found_by, look_again, moved_told, text_call, TakesText, rename_call, TakesRename, shown_answer, TakesShow, sym_link_call, sym_linked_told, ChangesByCopy, TakesSymLink, lacking, NameMachine, AskedOf}
use Rattle.name_ops.specs.SymLink.{CopiesBy}
use Rattle.attr_cache.specs.Attrs as attrs
use Rattle.name_cache.specs.Names as known_names
use Rattle.silly_rename.specs.Plans.{plan_of}
use Rattle.world_model.specs.declared.answer.Answer.TheVariants as answers
use Rattle.world_model.specs.declared.answer.Fault.TheVariants as faults
use Rattle.world_model.specs.declared.answer.Value.TheVariants as values
use Rattle.client_shelf.specs.declared.step.Step.TheVariants as nexts
use Rattle.name_ops.specs.declared.dir_change.DirDeed.TheVariants as deeds
use Rattle.name_ops.specs.declared.pair.PairStep.TheVariants as two
use Rattle.name_ops.specs.declared.told.Told.{Told}
use Rattle.name_ops.specs.declared.visit.VisitStep.TheVariants as visits
use Rattle.name_ops.specs.declared.walk.WalkStep.TheVariants as walks
use Rattle.name_ops.specs.Changing as changing
use Rattle.name_ops.specs.ListDir as listing
use Rattle.name_ops.specs.Pairs as pairs
use Rattle.name_ops.specs.RemoveFile as removals
use Rattle.name_ops.specs.Stat as stats
use Rattle.name_ops.specs.Visiting as visiting
use Rattle.name_ops.specs.Walking as walking
use Rattle.op_machines.specs.declared.name_machine.NameMachine.TheVariants as machines
use Rattle.op_machines.specs.NameSteps as steps
use Rattle.core_answers.proofs.bonds.Learnt.{IsOn, AreOn}

-- ---- which call an operation waits for

-- by whether the call on both objects was asked for, and else whether its first walk waits
abbrev pub PairAsks : Bool → Bool → Pair → Call → Type 0
PairAsks true first p call = AreOn p.first.spot.dir p.second.spot.dir call
PairAsks false true p call = IsOn p.first.spot.dir call
PairAsks false false p call = IsOn p.second.spot.dir call

abbrev pub PairOn : Pair → Call → Type 0
PairOn p call = PairAsks p.asked p.first.asked p call

abbrev pub DeedAsks : Option Deed → List ℕ → Call → Type 0
DeedAsks None dir call = IsOn dir call
DeedAsks (Some Look) dir call = IsOn dir call
DeedAsks (Some (Seek file to)) dir call = IsOn dir call
DeedAsks (Some (Move file to)) dir call = AreOn dir dir call
DeedAsks (Some Remove) dir call = IsOn dir call

abbrev pub RemovalOn : RemoveFile → Call → Type 0
RemovalOn m call = DeedAsks m.deed m.walk.spot.dir call

abbrev pub WalkOn : Walk → Call → Type 0
WalkOn w call = IsOn w.spot.dir call

abbrev pub VisitOn : Visit → Call → Type 0
VisitOn v call = WalkOn v.walk call

abbrev pub StatOn : Stat → Call → Type 0
StatOn m call = WalkOn m.walk call

abbrev pub ListOn : ListDir → Call → Type 0
ListOn m call = VisitOn m.visit call

abbrev pub NameAsks : NameMachine → Call → Type 0
NameAsks (machines.Change m) call = VisitOn m.visit call
NameAsks (machines.Stat m) call = StatOn m call
NameAsks (machines.Access m) call = VisitOn m.visit call
NameAsks (machines.ReadLink m) call = VisitOn m.visit call
NameAsks (machines.Remove m) call = RemovalOn m call
NameAsks (machines.Rename m) call = PairOn m.pair call
NameAsks (machines.Link m) call = PairOn m.pair call
NameAsks (machines.SymLink m) call = VisitOn m.visit call
NameAsks (machines.List m) call = ListOn m call

-- ---- what a step asks for

pub asked-as : {S : Type 0} → (E : S → Call → Type 0) (to next : Step) (state new : S) → next ≡ to → new ≡ state → AskedOf E to state → AskedOf E next new
asked-as E to next state new is at a = subst (λ n. AskedOf E n new) (sym is) (subst (λ s. AskedOf E to s) (sym at) a)

pub asked-done : {S : Type 0} → (E : S → Call → Type 0) (answer : Answer) (next : Step) (new : S) → next ≡ nexts.Done answer → AskedOf E next new
asked-done E answer next new is = subst (λ n. AskedOf E n new) (sym is) tt

pub asked-waits : {S : Type 0} → (E : S → Call → Type 0) (next : Step) (new : S) → next ≡ nexts.Wait → AskedOf E next new
asked-waits E next new is = subst (λ n. AskedOf E n new) (sym is) tt

pub asked-sends : {S : Type 0} → (E : S → Call → Type 0) (call : Call) (next : Step) (new : S) → next ≡ nexts.Send call → E new call → AskedOf E next new
asked-sends E call next new is on = subst (λ n. AskedOf E n new) (sym is) on

pub asked-again : {S : Type 0} → (E : S → Call → Type 0) (again : Bool) (call : Call) (answer : Answer) (next : Step) (new : S)
    → next ≡ (if again then nexts.Send call else nexts.Done answer) → E new call → AskedOf E next new
asked-again E true call answer next new is on = asked-sends E call next new is on
asked-again E false call answer next new is on = asked-done E answer next new is

-- the same of another state
pub asked-for : {S T : Type 0} → (E : S → Call → Type 0) (F : T → Call → Type 0) (next : Step) (s : S) (t : T) → ((call : Call) → E s call → F t call) → AskedOf E next s → AskedOf F next t
asked-for E F (nexts.Send call) s t same a = same call a
asked-for E F nexts.Wait s t same a = tt
asked-for E F (nexts.Done answer) s t same a = tt

-- ---- walks

abbrev pub WalkAsked : WalkStep → Walk → Type 0
WalkAsked (walks.Send call) w = (w.asked ≡ true) × IsOn w.spot.dir call
WalkAsked walks.Wait w = Unit {0}
WalkAsked (walks.At object) w = (w.asked ≡ false) × (object ≡ w.spot.dir)
WalkAsked (walks.Refused fault) w = Unit {0}

asks-walk : (name : Option (List ℕ)) (room : Bool) (w : Walk) → w.asked ≡ false → WalkAsked (walking.asks name room w) (walking.asked_after name room w)
asks-walk None room w idle = (idle, refl)
asks-walk (Some name) true w idle = (refl, refl)
asks-walk (Some name) false w idle = tt

on-walk : (w : Walk) (turn : Turn) (known : attrs.Attrs) (names : known_names.Entries) → w.asked ≡ false
    → WalkAsked (walking.on_next w turn known names) (walking.on_after w turn known names)
on-walk w turn known names idle = asks-walk (walking.next_name (walking.walked w turn.now known names)) turn.room (walking.walked w turn.now known names) idle

walk-if : (b : Bool) (w : Walk) (turn : Turn) (shelf : Shelf) → w.asked ≡ b
    → WalkAsked (if b then walks.Wait else walking.on_next w turn shelf.attrs shelf.names) (if b then w else walking.on_after w turn shelf.attrs shelf.names)
walk-if true w turn shelf is = tt
walk-if false w turn shelf is = on-walk w turn shelf.attrs shelf.names is

pub go-walk : (w : Walk) (turn : Turn) (shelf : Shelf) → WalkAsked (walking.go_next w turn shelf) (walking.go_after w turn shelf)
go-walk w turn shelf = walk-if w.asked w turn shelf refl

told-walk : (told : Result (List ℕ) Fault) (w : Walk) (turn : Turn) (heard : Shelf) → WalkAsked (walking.told_next w told turn heard) (walking.told_walk w told turn heard)
told-walk (Ok found) w turn heard = on-walk (walking.arrived w found) turn heard.attrs heard.names refl
told-walk (Err fault) w turn heard = tt

followed-walk : (busy : Bool) (w : Walk) (name : List ℕ) (told : Result (List ℕ) Fault) (turn : Turn) (heard : Shelf) → w.asked ≡ true
    → WalkAsked (walking.followed_next busy w name told turn heard) (walking.followed_walk busy w told turn heard)
followed-walk true w name told turn heard asked = (asked, refl)
followed-walk false w name told turn heard asked = told-walk told w turn heard

asked-some : (b : Bool) (w : Walk) (name : List ℕ) → (if b then walking.next_name w else None) ≡ Some name → b ≡ true
asked-some true w name is = refl
asked-some false w name is = absurd cc

takes-name : (name : Option (List ℕ)) (w : Walk) (sent turn : Turn) (came : Result Reply Fault) (old : Shelf) (next : WalkStep) (new : Walk) (after : Shelf)
    → walking.waiting_name w ≡ name → walking.Takes name w sent turn came old next new after → WalkAsked next new
takes-name (Some name) w sent turn came old next new after waits t =
    subst (λ n. WalkAsked n new) (sym t.next_is)
    (subst (λ v. WalkAsked (walking.followed_next (look_again sent turn came old) w name (found_by came) turn t.heard) v) (sym t.walk_is)
    (followed-walk (look_again sent turn came old) w name (found_by came) turn t.heard (asked-some w.asked w name waits)))
takes-name None w sent turn came old next new after waits t = subst (λ n. WalkAsked n new) (sym t.next_is) tt

pub took-walk : (w : Walk) (sent turn : Turn) (came : Result Reply Fault) (old : Shelf) (next : WalkStep) (new : Walk) (after : Shelf)
    → walking.Takes (walking.waiting_name w) w sent turn came old next new after → WalkAsked next new
took-walk w sent turn came old next new after t = takes-name (walking.waiting_name w) w sent turn came old next new after refl t

-- ---- a walk and a call

abbrev VisitAsked : VisitStep → Visit → Type 0
VisitAsked (visits.Look call) v = IsOn v.walk.spot.dir call
VisitAsked visits.Wait v = Unit {0}
VisitAsked (visits.Ask object) v = object ≡ v.walk.spot.dir
VisitAsked (visits.Refused fault) v = Unit {0}

follow-visit : (step : WalkStep) (room : Bool) (v : Visit) → WalkAsked step v.walk → VisitAsked (visiting.follow_next step room) (visiting.follow_after step room v)
follow-visit (walks.Send call) room v a = a.1
follow-visit walks.Wait room v a = tt
follow-visit (walks.At object) true v a = a.1
follow-visit (walks.At object) false v a = tt
follow-visit (walks.Refused fault) room v a = tt

visit-if : (b : Bool) (v : Visit) (turn : Turn) (shelf : Shelf)
    → VisitAsked (if b then visits.Wait else visiting.follow_next (walking.go_next v.walk turn shelf) turn.room)
    (if b then v else visiting.follow_after (walking.go_next v.walk turn shelf) turn.room (record v { walk = walking.go_after v.walk turn shelf }))
visit-if true v turn shelf = tt
visit-if false v turn shelf = follow-visit (walking.go_next v.walk turn shelf) turn.room (record v { walk = walking.go_after v.walk turn shelf }) (go-walk v.walk turn shelf)

visit-goes : (v : Visit) (turn : Turn) (shelf : Shelf) → VisitAsked (visiting.visit_next v turn shelf) (visiting.visit_after v turn shelf)
visit-goes v turn shelf = visit-if v.asked v turn shelf

visit-took : (v : Visit) (sent turn : Turn) (came : Result Reply Fault) (old : Shelf) (next : VisitStep) (new : Visit) (after : Shelf)
    → visiting.VisitTakes v sent turn came old next new after → VisitAsked next new
visit-took v sent turn came old next new after t =
    subst (λ n. VisitAsked n new) (sym t.next_is)
    (subst (λ w. VisitAsked (visiting.follow_next t.step turn.room) w) (sym t.visit_is)
    (follow-visit t.step turn.room t.walked (took-walk v.walk sent turn came old t.step t.walked.walk after t.takes)))

-- the call on the object is made on it
abbrev pub OnIts : (List ℕ → Call) → Type 0
OnIts own = (object : List ℕ) → IsOn object (own object)

next-by : (own : List ℕ → Call) (step : VisitStep) (v : Visit) → OnIts own → VisitAsked step v → AskedOf VisitOn (visiting.next_by own step) v
next-by own (visits.Look look) v on a = a
next-by own visits.Wait v on a = tt
next-by own (visits.Ask object) v on a = on object ∙ ap Some a
next-by own (visits.Refused fault) v on a = tt

visit-asks : (own : List ℕ → Call) (v : Visit) (turn : Turn) (shelf : Shelf) (next : Step) (new : Visit) → OnIts own → next ≡ visiting.next_by own (visiting.visit_next v turn shelf)
    → new ≡ visiting.visit_after v turn shelf → AskedOf VisitOn next new
visit-asks own v turn shelf next new on is at =
    asked-as VisitOn (visiting.next_by own (visiting.visit_next v turn shelf)) next (visiting.visit_after v turn shelf) new is at
    (next-by own (visiting.visit_next v turn shelf) (visiting.visit_after v turn shelf) on (visit-goes v turn shelf))

walks-ask : (own : List ℕ → Call) (v : Visit) (sent turn : Turn) (came : Result Reply Fault) (old : Shelf) (next : Step) (new : Visit) (after : Shelf) → OnIts own
    → visiting.Walks own v sent turn came old next new after → AskedOf VisitOn next new
walks-ask own v sent turn came old next new after on w =
    subst (λ n. AskedOf VisitOn n new) (sym w.next_is) (next-by own w.step new on (visit-took v sent turn came old w.step new after w.takes))

-- the call on the object again, from the same visit
own-again : (own : List ℕ → Call) (again : Bool) (answer : Answer) (v : Visit) (next : Step) (new : Visit) → OnIts own → new ≡ v
    → next ≡ (if again then nexts.Send (own v.walk.spot.dir) else nexts.Done answer) → AskedOf VisitOn next new
own-again own again answer v next new on same is = asked-again VisitOn again (own v.walk.spot.dir) answer next new is (subst (λ w. VisitOn w (own v.walk.spot.dir)) (sym same) (on v.walk.spot.dir))

change-asks : (asked : Bool) (own : List ℕ → Call) (told : Told) (v : Visit) (sent turn : Turn) (came : Result Reply Fault) (old : Shelf) (next : Step) (new : Visit) (after : Shelf)
    → OnIts own → changing.TakesChange asked own told v sent turn came old next new after → AskedOf VisitOn next new
change-asks true own told v sent turn came old next new after on t =
    own-again own (goes_again (changing.told_busy told.refusal) sent turn old.repeats) (changing.answer_of told.refusal) v next new on t.0 t.1.next_is
change-asks false own told v sent turn came old next new after on t = walks-ask own v sent turn came old next new after on t

show-asks : (asked : Bool) (own : List ℕ → Call) (attr : Option Attr) (told : Result Value Fault) (v : Visit) (sent turn : Turn) (came : Result Reply Fault) (old : Shelf) (next : Step)
    (new : Visit) (after : Shelf) → OnIts own → TakesShow asked own attr told v sent turn came old next new after → AskedOf VisitOn next new
show-asks true own attr told v sent turn came old next new after on t =
    own-again own (goes_again (fails_busy told) sent turn old.repeats) (shown_answer told) v next new on t.0 t.1.next_is
show-asks false own attr told v sent turn came old next new after on t = walks-ask own v sent turn came old next new after on t

text-asks : (asked : Bool) (v : Visit) (sent turn : Turn) (came : Result Reply Fault) (old : Shelf) (next : Step) (new : Visit) (after : Shelf)
    → TakesText asked v sent turn came old next new after → AskedOf VisitOn next new
text-asks true v sent turn came old next new after t =
    own-again text_call (goes_again (fails_busy t.1.told) sent turn old.repeats) (shown_answer t.1.told) v next new (λ d. refl) t.0 t.1.shows.next_is
text-asks false v sent turn came old next new after t = walks-ask text_call v sent turn came old next new after (λ d. refl) t

-- ---- a call with a copy

copies-by : (own : List ℕ → Call) (step : VisitStep) (next : Step) (v : Visit) → OnIts own → VisitAsked step v → CopiesBy own step next → AskedOf VisitOn next v
copies-by own (visits.Look look) next v on a e = asked-sends VisitOn look next v e a
copies-by own visits.Wait next v on a e = asked-waits VisitOn next v e
copies-by own (visits.Ask object) next v on a (inl e) = asked-sends VisitOn (own object) next v e (on object ∙ ap Some a)
copies-by own (visits.Ask object) next v on a (inr e) = asked-done VisitOn (answers.Refused faults.Memory) next v e
copies-by own (visits.Refused fault) next v on a e = asked-done VisitOn (answers.Refused fault) next v e

sym-link-asks : (asked : Bool) (m : SymLink) (sent turn : Turn) (came : Result Reply Fault) (old : Shelf) (next : Step) (new : Visit) (after : Shelf)
    → TakesSymLink asked m sent turn came old next new after → AskedOf VisitOn next new
sym-link-asks true m sent turn came old next new after t = by t.1
  where
    changes : (told : Told) → changing.Changes m.visit.walk.spot.dir (sym_link_call m.name m.target m.visit.walk.spot.dir) told sent turn old next after → AskedOf VisitOn next new
    changes told c =
        own-again (sym_link_call m.name m.target) (goes_again (changing.told_busy told.refusal) sent turn old.repeats) (changing.answer_of told.refusal) m.visit next new (λ d. refl) t.0 c.next_is

    by : ChangesByCopy m.visit.walk.spot.dir (sym_link_call m.name m.target m.visit.walk.spot.dir) (sym_linked_told came) sent turn old next after → AskedOf VisitOn next new
    by (inl c) = changes (sym_linked_told came) c
    by (inr c) = changes (lacking (sym_linked_told came)) c.1
sym-link-asks false m sent turn came old next new after t =
    copies-by (sym_link_call m.name m.target) t.step next new (λ d. refl) (visit-took m.visit sent turn came old t.step new after t.takes) t.next_is

-- ---- attributes

ask-stat : (known : Option Attr) (object : List ℕ) (room : Bool) (m : Stat) → object ≡ m.walk.spot.dir → AskedOf StatOn (stats.ask_next known object room) (stats.ask_after known room m)
ask-stat (Some attr) object room m is = tt
ask-stat None object true m is = ap Some is
ask-stat None object false m is = tt

follow-stat : (step : WalkStep) (turn : Turn) (known : attrs.Attrs) (m : Stat) → WalkAsked step m.walk → AskedOf StatOn (stats.follow_next step turn known) (stats.follow_after step turn known m)
follow-stat (walks.Send call) turn known m a = a.1
follow-stat walks.Wait turn known m a = tt
follow-stat (walks.At object) turn known m a = ask-stat (attrs.looked object turn.now known) object turn.room m a.1
follow-stat (walks.Refused fault) turn known m a = tt

stat-if : (b : Bool) (m : Stat) (turn : Turn) (shelf : Shelf)
    → AskedOf StatOn (if b then nexts.Wait else stats.follow_next (walking.go_next m.walk turn shelf) turn shelf.attrs)
    (if b then m else stats.follow_after (walking.go_next m.walk turn shelf) turn shelf.attrs (record m { walk = walking.go_after m.walk turn shelf }))
stat-if true m turn shelf = tt
stat-if false m turn shelf = follow-stat (walking.go_next m.walk turn shelf) turn shelf.attrs (record m { walk = walking.go_after m.walk turn shelf }) (go-walk m.walk turn shelf)

stat-asks : (asked : Bool) (m : Stat) (sent turn : Turn) (came : Result Reply Fault) (old : Shelf) (next : Step) (new : Stat) (after : Shelf)
    → stats.StatTakes asked m sent turn came old next new after → AskedOf StatOn next new
stat-asks true m sent turn came old next new after t =
    asked-again StatOn (goes_again (fails_busy (stats.got_told came)) sent turn old.repeats) (stats.get_attr m.walk.spot.dir) (shown_answer (stats.got_told came)) next new t.1.next_is
    (subst (λ k. StatOn k (stats.get_attr m.walk.spot.dir)) (sym t.0) refl)
stat-asks false m sent turn came old next new after t =
    asked-as StatOn (stats.follow_next t.step turn after.attrs) next (stats.follow_after t.step turn after.attrs t.walked) new t.next_is t.machine_is
    (follow-stat t.step turn after.attrs t.walked (took-walk m.walk sent turn came old t.step t.walked.walk after t.takes))

-- ---- listings

goes-on : (step : ListStep) (room : Bool) (m : ListDir) (next : Step) (new : ListDir) → listing.GoesOn step room m next new → AskedOf ListOn next new
goes-on (More cookie verf) room m next new g =
    asked-as ListOn (listing.more_next (record { cookie = cookie; verf = verf }) room m) next (listing.more_after (record { cookie = cookie; verf = verf }) room m) new g.0 g.1 (by room)
  where
    by : (b : Bool) → AskedOf ListOn (listing.more_next (record { cookie = cookie; verf = verf }) b m) (listing.more_after (record { cookie = cookie; verf = verf }) b m)
    by true = refl
    by false = tt
goes-on End room m next new g = asked-done ListOn (answers.Done (values.Names g.names)) next new g.next_is

takes-step : (step : Result ListStep ListFault) (heard : _) (room : Bool) (m : ListDir) (next : Step) (new : ListDir) → listing.TakesStep step heard room m next new → AskedOf ListOn next new
takes-step (Ok step) heard room m next new t = goes-on step room _ next new t
takes-step (Err fault) heard room m next new t = asked-done ListOn _ next new t.0

follows-page : (heard : Result _ Fault) (again room : Bool) (m : ListDir) (next : Step) (new : ListDir) → listing.Follows heard again room m next new → AskedOf ListOn next new
follows-page (Ok heard) again room m next new (inl t) = asked-done ListOn _ next new t.0
follows-page (Ok heard) again room m next new (inr t) = takes-step (page_step m.listing heard.page heard.verf heard.eof) heard room m next new t
follows-page (Err fault) again room m next new f =
    asked-again ListOn again (listing.page_call m.place m.visit.walk.spot.dir) (answers.Refused fault) next new f.0
    (subst (λ k. ListOn k (listing.page_call m.place m.visit.walk.spot.dir)) (sym f.1) refl)

list-asks : (asked : Bool) (m : ListDir) (sent turn : Turn) (came : Result Reply Fault) (old : Shelf) (next : Step) (new : ListDir) (after : Shelf)
    → listing.TakesList asked m sent turn came old next new after → AskedOf ListOn next new
list-asks true m sent turn came old next new after t =
    follows-page (listing.page_heard came) (goes_again (fails_busy (listing.page_heard came)) sent turn old.repeats) turn.room m next new t.follows
list-asks false m sent turn came old next new after t =
    subst (λ k. AskedOf ListOn next k) (sym t.machine_is)
    (asked-for VisitOn ListOn next t.visit (record m { visit = t.visit }) (λ call on. on)
    (walks-ask (listing.page_call m.place) m.visit sent turn came old next t.visit after (λ d. refl) t.walks))

-- ---- two walks and a call

abbrev PairAsked : PairStep → Pair → Type 0
PairAsked (two.Look call) p = PairOn p call
PairAsked two.Wait p = Unit {0}
PairAsked (two.Ask first second) p = (p.asked ≡ true) × (first ≡ p.first.spot.dir) × (second ≡ p.second.spot.dir)
PairAsked (two.Refused fault) p = Unit {0}

on-first : (p : Pair) (call : Call) → p.asked ≡ false → p.first.asked ≡ true → IsOn p.first.spot.dir call → PairOn p call
on-first p call idle first on = subst (λ b. PairAsks b p.first.asked p call) (sym idle) (subst (λ b. PairAsks false b p call) (sym first) on)

on-second : (p : Pair) (call : Call) → p.asked ≡ false → p.first.asked ≡ false → IsOn p.second.spot.dir call → PairOn p call
on-second p call idle first on = subst (λ b. PairAsks b p.first.asked p call) (sym idle) (subst (λ b. PairAsks false b p call) (sym first) on)

led-second : (first : List ℕ) (step : WalkStep) (room : Bool) (p : Pair) → p.asked ≡ false → p.first.asked ≡ false → first ≡ p.first.spot.dir → WalkAsked step p.second
    → PairAsked (pairs.led_second first step room) (pairs.second_kept step room p)
led-second first (walks.Send call) room p idle done is a = on-second p call idle done a.1
led-second first walks.Wait room p idle done is a = tt
led-second first (walks.At second) true p idle done is a = (refl, is, a.1)
led-second first (walks.At second) false p idle done is a = tt
led-second first (walks.Refused fault) room p idle done is a = tt

led-first : (step : WalkStep) (p : Pair) (turn : Turn) (shelf : Shelf) → p.asked ≡ false → WalkAsked step p.first
    → PairAsked (pairs.led_first step p turn shelf) (pairs.first_kept step p turn shelf)
led-first (walks.Send call) p turn shelf idle a = on-first p call idle a.0 a.1
led-first walks.Wait p turn shelf idle a = tt
led-first (walks.At first) p turn shelf idle a =
    led-second first (walking.go_next p.second turn shelf) turn.room (record p { second = walking.go_after p.second turn shelf }) idle a.0 a.1 (go-walk p.second turn shelf)
led-first (walks.Refused fault) p turn shelf idle a = tt

pair-if : (asked second : Bool) (p : Pair) (turn : Turn) (shelf : Shelf) → p.asked ≡ asked
    → PairAsked (if asked || second then two.Wait else pairs.on_next p turn shelf) (if asked || second then p else pairs.on_after p turn shelf)
pair-if true second p turn shelf is = tt
pair-if false true p turn shelf is = tt
pair-if false false p turn shelf is = led-first (walking.go_next p.first turn shelf) (pairs.walked_first p turn shelf) turn (walking.go_shelf p.first turn shelf) is (go-walk p.first turn shelf)

pair-goes : (p : Pair) (turn : Turn) (shelf : Shelf) → PairAsked (pairs.pair_next p turn shelf) (pairs.pair_after p turn shelf)
pair-goes p turn shelf = pair-if p.asked p.second.asked p turn shelf refl

pair-took : (first : Bool) (p : Pair) (sent turn : Turn) (came : Result Reply Fault) (old : Shelf) (next : PairStep) (new : Pair) (after : Shelf) → p.asked ≡ false → p.first.asked ≡ first
    → pairs.PairTakes first p sent turn came old next new after → PairAsked next new
pair-took true p sent turn came old next new after idle on_way t =
    subst (λ n. PairAsked n new) (sym t.next_is)
    (subst (λ q. PairAsked (pairs.led_first t.step t.walked turn t.heard) q) (sym t.pair_is)
    (led-first t.step t.walked turn t.heard (ap (λ (q : Pair). q.asked) t.walked_is ∙ idle) (took-walk p.first sent turn came old t.step t.walked.first t.heard t.takes)))
pair-took false p sent turn came old next new after idle done t =
    subst (λ n. PairAsked n new) (sym t.next_is)
    (subst (λ q. PairAsked (pairs.led_second p.first.spot.dir t.step turn.room) q) (sym t.pair_is)
    (led-second p.first.spot.dir t.step turn.room t.walked (ap (λ (q : Pair). q.asked) t.walked_is ∙ idle) (ap (λ (q : Pair). q.first.asked) t.walked_is ∙ done)
    (ap (λ (q : Pair). q.first.spot.dir) (sym t.walked_is)) (took-walk p.second sent turn came old t.step t.walked.second after t.takes)))

abbrev pub OnBoth : (List ℕ → List ℕ → Call) → Type 0
OnBoth own = (first second : List ℕ) → AreOn first second (own first second)

next-by-pair : (own : List ℕ → List ℕ → Call) (step : PairStep) (p : Pair) → OnBoth own → PairAsked step p → AskedOf PairOn (pairs.next_by own step) p
next-by-pair own (two.Look look) p on a = a
next-by-pair own two.Wait p on a = tt
next-by-pair own (two.Ask first second) p on a =
    subst (λ b. PairAsks b p.first.asked p (own first second)) (sym a.0)
    (record { first = (on first second).first ∙ ap Some a.1; second = (on first second).second ∙ ap Some a.2 })
next-by-pair own (two.Refused fault) p on a = tt

pair-asks : (own : List ℕ → List ℕ → Call) (p : Pair) (turn : Turn) (shelf : Shelf) (next : Step) (new : Pair) → OnBoth own → next ≡ pairs.next_by own (pairs.pair_next p turn shelf)
    → new ≡ pairs.pair_after p turn shelf → AskedOf PairOn next new
pair-asks own p turn shelf next new on is at =
    asked-as PairOn (pairs.next_by own (pairs.pair_next p turn shelf)) next (pairs.pair_after p turn shelf) new is at
    (next-by-pair own (pairs.pair_next p turn shelf) (pairs.pair_after p turn shelf) on (pair-goes p turn shelf))

pair-walks-ask : (own : List ℕ → List ℕ → Call) (p : Pair) (sent turn : Turn) (came : Result Reply Fault) (old : Shelf) (next : Step) (new : Pair) (after : Shelf) → OnBoth own
    → p.asked ≡ false → pairs.Walks own p sent turn came old next new after → AskedOf PairOn next new
pair-walks-ask own p sent turn came old next new after on idle w =
    subst (λ n. AskedOf PairOn n new) (sym w.next_is)
    (next-by-pair own w.step new on (pair-took p.first.asked p sent turn came old w.step new after idle refl w.takes))

-- the call on both again, from the same pair
both-again : (own : List ℕ → List ℕ → Call) (again : Bool) (answer : Answer) (p : Pair) (next : Step) (new : Pair) → OnBoth own → p.asked ≡ true → new ≡ p
    → next ≡ (if again then nexts.Send (own p.first.spot.dir p.second.spot.dir) else nexts.Done answer) → AskedOf PairOn next new
both-again own again answer p next new on asked same is =
    asked-again PairOn again (own p.first.spot.dir p.second.spot.dir) answer next new is
    (subst (λ q. PairOn q (own p.first.spot.dir p.second.spot.dir)) (sym same)
    (subst (λ b. PairAsks b p.first.asked p (own p.first.spot.dir p.second.spot.dir)) (sym asked) (on p.first.spot.dir p.second.spot.dir)))

renames : (from to : List ℕ) → OnBoth (rename_call from to)
renames from to first second = record { first = refl; second = refl }

links : (name : List ℕ) → OnBoth (link_call name)
links name first second = record { first = refl; second = refl }

rename-asks : (asked : Bool) (m : Rename) (sent turn : Turn) (came : Result Reply Fault) (old : Shelf) (next : Step) (new : Pair) (after : Shelf) → m.pair.asked ≡ asked
    → TakesRename asked m sent turn came old next new after → AskedOf PairOn next new
rename-asks true m sent turn came old next new after is t =
    both-again (rename_call m.from m.to) (goes_again (changing.told_busy (moved_told came).refusal) sent turn old.repeats) (changing.answer_of (moved_told came).refusal) m.pair next new
    (renames m.from m.to) is t.0 t.1.next_is
rename-asks false m sent turn came old next new after is t = pair-walks-ask (rename_call m.from m.to) m.pair sent turn came old next new after (renames m.from m.to) is t

link-asks : (asked : Bool) (m : Link) (sent turn : Turn) (came : Result Reply Fault) (old : Shelf) (next : Step) (new : Pair) (after : Shelf) → m.pair.asked ≡ asked
    → TakesLink asked m sent turn came old next new after → AskedOf PairOn next new
link-asks true m sent turn came old next new after is t =
    both-again (link_call m.name) (goes_again (changing.told_busy (linked_told m.pair.first.spot.dir came).refusal) sent turn old.repeats)
    (changing.answer_of (linked_told m.pair.first.spot.dir came).refusal) m.pair next new (links m.name) is t.0 t.1.next_is
link-asks false m sent turn came old next new after is t = pair-walks-ask (link_call m.name) m.pair sent turn came old next new after (links m.name) is t

-- ---- removals of names

deed-on : (m : RemoveFile) (deed : Deed) → DeedAsks (Some deed) m.walk.spot.dir (removals.call_of m deed)
deed-on m Look = refl
deed-on m (Seek file to) = refl
deed-on m (Move file to) = record { first = refl; second = refl }
deed-on m Remove = refl

deed-asks : (room : Bool) (m : RemoveFile) (deed : Deed) → AskedOf RemovalOn (removals.asked_next m deed room) (removals.asked_after m deed room)
deed-asks true m deed = deed-on m deed
deed-asks false m deed = tt

asks-as : (room : Bool) (m : RemoveFile) (deed : Deed) (next : Step) (new : RemoveFile) → next ≡ removals.asked_next m deed room → new ≡ removals.asked_after m deed room
    → AskedOf RemovalOn next new
asks-as room m deed next new is at = asked-as RemovalOn (removals.asked_next m deed room) next (removals.asked_after m deed room) new is at (deed-asks room m deed)

-- its call again
deed-again : (deed : Deed) (m : RemoveFile) (next : Step) (new : RemoveFile) → m.deed ≡ Some deed → next ≡ nexts.Send (removals.call_of m deed) → new ≡ m → AskedOf RemovalOn next new
deed-again deed m next new has is same =
    asked-sends RemovalOn (removals.call_of m deed) next new is
    (subst (λ k. RemovalOn k (removals.call_of m deed)) (sym same) (subst (λ d. DeedAsks d m.walk.spot.dir (removals.call_of m deed)) (sym has) (deed-on m deed)))

follow-removal : (step : WalkStep) (room : Bool) (m : RemoveFile) (opens : Opens) (next : Step) (new : RemoveFile) → m.deed ≡ None → WalkAsked step m.walk
    → removals.Follows step room m opens next new → AskedOf RemovalOn next new
follow-removal (walks.Send call) room m opens next new none a f =
    asked-sends RemovalOn call next new f.0 (subst (λ k. RemovalOn k call) (sym f.1) (subst (λ d. DeedAsks d m.walk.spot.dir call) (sym none) a.1))
follow-removal walks.Wait room m opens next new none a f = asked-waits RemovalOn next new f.0
follow-removal (walks.At dir) room m opens next new none a f = asks-as room m (removals.first_deed f.any) next new f.next_is f.machine_is
follow-removal (walks.Refused fault) room m opens next new none a f = asked-done RemovalOn (answers.Refused fault) next new f.0

goes-removal : (deed : Option Deed) (m : RemoveFile) (turn : Turn) (old : Shelf) (next : Step) (new : RemoveFile) (after : Shelf) → m.deed ≡ deed
    → removals.Goes deed m turn old next new after → AskedOf RemovalOn next new
goes-removal (Some deed) m turn old next new after is g = asks-as turn.room m deed next new g.next_is g.machine_is
goes-removal None m turn old next new after is g =
    follow-removal (walking.go_next m.walk turn old) turn.room (record m { walk = walking.go_after m.walk turn old }) old.opens next new is (go-walk m.walk turn old) g.follows

remove-asks : (asked : Bool) (m : RemoveFile) (turn : Turn) (old : Shelf) (next : Step) (new : RemoveFile) (after : Shelf) → removals.Resumes asked m turn old next new after
    → AskedOf RemovalOn next new
remove-asks true m turn old next new after r = asked-waits RemovalOn next new r.next_is
remove-asks false m turn old next new after r = goes-removal m.deed m turn old next new after refl r

plans-ask : (is_open : Bool) (file : List ℕ) (m : RemoveFile) (room : Bool) (old : Shelf) (next : Step) (new : RemoveFile) (after : Shelf)
    → removals.Plans is_open file m room old next new after → AskedOf RemovalOn next new
plans-ask is_open file m room old next new after p = asks-as room m (removals.deed_of file (plan_of is_open old.counter)) next new p.next_is p.machine_is

look-asks : (again : Bool) (told : Result (List ℕ) Fault) (m : RemoveFile) (room : Bool) (old : Shelf) (next : Step) (new : RemoveFile) (after : Shelf) → m.deed ≡ Some Look
    → removals.FollowsLook again told m room old next new after → AskedOf RemovalOn next new
look-asks true told m room old next new after has f = deed-again Look m next new has f.next_is f.machine_is
look-asks false (Ok file) m room old next new after has f = plans-ask f.is_open file m room old next new after f.plans
look-asks false (Err fault) m room old next new after has f = asked-done RemovalOn (answers.Refused fault) next new f.next_is

misses-ask : (missing : Bool) (fault : Fault) (file to : List ℕ) (m : RemoveFile) (room : Bool) (next : Step) (new : RemoveFile) → next ≡ removals.missed_next missing fault file to m room
    → new ≡ removals.missed_after missing file to m room → AskedOf RemovalOn next new
misses-ask true fault file to m room next new is at = asks-as room m (Move file to) next new is at
misses-ask false fault file to m room next new is at = asked-done RemovalOn (answers.Refused fault) next new is

seek-asks : (again : Bool) (told : Result (List ℕ) Fault) (file to : List ℕ) (m : RemoveFile) (room : Bool) (old : Shelf) (next : Step) (new : RemoveFile) (after : Shelf)
    → m.deed ≡ Some (Seek file to) → removals.FollowsSeek again told file to m room old next new after → AskedOf RemovalOn next new
seek-asks true told file to m room old next new after has f = deed-again (Seek file to) m next new has f.next_is f.machine_is
seek-asks false (Ok found) file to m room old next new after has f = plans-ask true file m room old next new after f
seek-asks false (Err fault) file to m room old next new after has f = misses-ask (removals.is_missing fault) fault file to m room next new f.next_is f.machine_is

move-leads : (refusal : Option Fault) (file to : List ℕ) (m : RemoveFile) (old : removals.Places) (next : Step) (new : removals.Places) (state : RemoveFile)
    → removals.MoveLeads refusal file to m old next new → AskedOf RemovalOn next state
move-leads None file to m old next new state (inl k) = asked-done RemovalOn _ next state k.0
move-leads None file to m old next new state (inr k) = asked-done RemovalOn _ next state k.0
move-leads (Some fault) file to m old next new state l = asked-done RemovalOn (answers.Refused fault) next state l.0

move-asks : (again : Bool) (refusal : Option Fault) (file to : List ℕ) (m : RemoveFile) (old : removals.Places) (next : Step) (new : removals.Places) (state : RemoveFile)
    → m.deed ≡ Some (Move file to) → state ≡ m → removals.EndsMove again refusal file to m old next new → AskedOf RemovalOn next state
move-asks true refusal file to m old next new state has same e = deed-again (Move file to) m next state has e.0 same
move-asks false refusal file to m old next new state has same e = move-leads refusal file to m old next new state e

takes-deed : (deed : Deed) (m : RemoveFile) (sent turn : Turn) (came : Result Reply Fault) (old : Shelf) (next : Step) (new : RemoveFile) (after : Shelf) → m.deed ≡ Some deed
    → removals.TakesDeed deed m sent turn came old next new after → AskedOf RemovalOn next new
takes-deed Look m sent turn came old next new after has t = look-asks (look_again sent turn came old) (found_by came) m turn.room t.heard next new after has t.follows
takes-deed (Seek file to) m sent turn came old next new after has t =
    seek-asks (look_again sent turn came old) (found_by came) file to m turn.room t.heard next new after has t.follows
takes-deed (Move file to) m sent turn came old next new after has t =
    move-asks (removals.move_again sent turn came old) (moved_told came).refusal file to m old.silly next after.silly new has t.0 t.1.ends
takes-deed Remove m sent turn came old next new after has t =
    asked-again RemovalOn (goes_again (changing.told_busy (removals.removed_told came).refusal) sent turn old.repeats) (removals.call_of m Remove)
    (changing.answer_of (removals.removed_told came).refusal) next new t.1.next_is
    (subst (λ k. RemovalOn k (removals.call_of m Remove)) (sym t.0) (subst (λ d. DeedAsks d m.walk.spot.dir (removals.call_of m Remove)) (sym has) (deed-on m Remove)))

takes-if : (asked : Bool) (deed : Deed) (m : RemoveFile) (sent turn : Turn) (came : Result Reply Fault) (old : Shelf) (next : Step) (new : RemoveFile) (after : Shelf) → m.deed ≡ Some deed
    → removals.TakesIf asked deed m sent turn came old next new after → AskedOf RemovalOn next new
takes-if true deed m sent turn came old next new after has t = takes-deed deed m sent turn came old next new after has t
takes-if false deed m sent turn came old next new after has t = asked-waits RemovalOn next new t.next_is

remove-took : (deed : Option Deed) (m : RemoveFile) (sent turn : Turn) (came : Result Reply Fault) (old : Shelf) (next : Step) (new : RemoveFile) (after : Shelf) → m.deed ≡ deed
    → removals.Takes deed m sent turn came old next new after → AskedOf RemovalOn next new
remove-took (Some deed) m sent turn came old next new after has t = takes-if m.asked deed m sent turn came old next new after has t
remove-took None m sent turn came old next new after none t =
    follow-removal t.step turn.room t.walked after.opens next new (ap (λ (k : RemoveFile). k.deed) t.walked_is ∙ none) (took-walk m.walk sent turn came old t.step t.walked.walk after t.takes) t.follows

-- ---- any of them

deeds-on : (deed : DirDeed) (name : List ℕ) → OnIts (deed_call deed name)
deeds-on deeds.Make name d = refl
deeds-on deeds.Remove name d = refl

visit-name : (with_visit : Visit → NameMachine) (next : Step) (visit : Visit) (new : NameMachine) → ((v : Visit) (call : Call) → VisitOn v call → NameAsks (with_visit v) call)
    → new ≡ with_visit visit → AskedOf VisitOn next visit → AskedOf NameAsks next new
visit-name with_visit next visit new on is a =
    subst (λ k. AskedOf NameAsks next k) (sym is) (asked-for VisitOn NameAsks next visit (with_visit visit) (λ call. on visit call) a)

pair-name : (with_pair : Pair → NameMachine) (next : Step) (pair : Pair) (new : NameMachine) → ((p : Pair) (call : Call) → PairOn p call → NameAsks (with_pair p) call)
    → new ≡ with_pair pair → AskedOf PairOn next pair → AskedOf NameAsks next new
pair-name with_pair next pair new on is a =
    subst (λ k. AskedOf NameAsks next k) (sym is) (asked-for PairOn NameAsks next pair (with_pair pair) (λ call. on pair call) a)

stat-name : (next : Step) (m : Stat) (new : NameMachine) → new ≡ machines.Stat m → AskedOf StatOn next m → AskedOf NameAsks next new
stat-name next m new is a = subst (λ k. AskedOf NameAsks next k) (sym is) (asked-for StatOn NameAsks next m (machines.Stat m) (λ call on. on) a)

remove-name : (next : Step) (m : RemoveFile) (new : NameMachine) → new ≡ machines.Remove m → AskedOf RemovalOn next m → AskedOf NameAsks next new
remove-name next m new is a = subst (λ k. AskedOf NameAsks next k) (sym is) (asked-for RemovalOn NameAsks next m (machines.Remove m) (λ call on. on) a)

list-name : (next : Step) (m : ListDir) (new : NameMachine) → new ≡ machines.List m → AskedOf ListOn next m → AskedOf NameAsks next new
list-name next m new is a = subst (λ k. AskedOf NameAsks next k) (sym is) (asked-for ListOn NameAsks next m (machines.List m) (λ call on. on) a)

pub name-goes-asked : (m : NameMachine) (turn : Turn) (old : Shelf) (next : Step) (new : NameMachine) (after : Shelf) → steps.NameGoes m turn old next new after → AskedOf NameAsks next new
name-goes-asked (machines.Change m) turn old next new after s =
    visit-name (steps.change_with m) next (visiting.visit_after m.visit turn old) new (λ v call on. on) s.machine_is
    (visit-asks (deed_call m.deed m.name) m.visit turn old next _ (deeds-on m.deed m.name) s.next_is refl)
name-goes-asked (machines.Stat m) turn old next new after s =
    stat-name next (stats.stat_after m turn old) new s.machine_is (asked-as StatOn (stats.stat_next m turn old) next (stats.stat_after m turn old) _ s.next_is refl (stat-if m.asked m turn old))
name-goes-asked (machines.Access m) turn old next new after s =
    visit-name (steps.access_with m) next (visiting.visit_after m.visit turn old) new (λ v call on. on) s.machine_is
    (visit-asks (access_call m.bits) m.visit turn old next _ (λ d. refl) s.next_is refl)
name-goes-asked (machines.ReadLink m) turn old next new after s =
    visit-name (steps.read_link_with m) next (visiting.visit_after m.visit turn old) new (λ v call on. on) s.machine_is
    (visit-asks text_call m.visit turn old next _ (λ d. refl) s.next_is refl)
name-goes-asked (machines.Remove m) turn old next new after s = remove-name next s.machine new s.machine_is (remove-asks m.asked m turn old next s.machine after s.step)
name-goes-asked (machines.Rename m) turn old next new after s =
    pair-name (steps.rename_with m) next (pairs.pair_after m.pair turn old) new (λ p call on. on) s.machine_is
    (pair-asks (rename_call m.from m.to) m.pair turn old next _ (renames m.from m.to) s.next_is refl)
name-goes-asked (machines.Link m) turn old next new after s =
    pair-name (steps.link_with m) next (pairs.pair_after m.pair turn old) new (λ p call on. on) s.machine_is
    (pair-asks (link_call m.name) m.pair turn old next _ (links m.name) s.next_is refl)
name-goes-asked (machines.SymLink m) turn old next new after s =
    visit-name (steps.sym_link_with m) next (visiting.visit_after m.visit turn old) new (λ v call on. on) s.machine_is
    (copies-by (sym_link_call m.name m.target) (visiting.visit_next m.visit turn old) next (visiting.visit_after m.visit turn old) (λ d. refl) (visit-goes m.visit turn old) s.next_is)
name-goes-asked (machines.List m) turn old next new after s =
    visit-name (steps.list_with m) next (visiting.visit_after m.visit turn old) new (λ v call on. on) s.machine_is
    (visit-asks (listing.page_call m.place) m.visit turn old next _ (λ d. refl) s.next_is refl)

pub name-takes-asked : (m : NameMachine) (sent turn : Turn) (came : Result Reply Fault) (old : Shelf) (next : Step) (new : NameMachine) (after : Shelf)
    → steps.NameTakes m sent turn came old next new after → AskedOf NameAsks next new
name-takes-asked (machines.Change m) sent turn came old next new after t =
    visit-name (steps.change_with m) next t.visit new (λ v call on. on) t.machine_is
    (change-asks m.visit.asked (deed_call m.deed m.name) (deed_told m.deed came) m.visit sent turn came old next t.visit after (deeds-on m.deed m.name) t.step)
name-takes-asked (machines.Stat m) sent turn came old next new after t = stat-name next t.machine new t.machine_is (stat-asks m.asked m sent turn came old next t.machine after t.step)
name-takes-asked (machines.Access m) sent turn came old next new after t =
    visit-name (steps.access_with m) next t.visit new (λ v call on. on) t.machine_is
    (show-asks m.visit.asked (access_call m.bits) (access_attr came) (access_told came) m.visit sent turn came old next t.visit after (λ d. refl) t.step)
name-takes-asked (machines.ReadLink m) sent turn came old next new after t =
    visit-name (steps.read_link_with m) next t.visit new (λ v call on. on) t.machine_is (text-asks m.visit.asked m.visit sent turn came old next t.visit after t.step)
name-takes-asked (machines.Remove m) sent turn came old next new after t = remove-name next t.machine new t.machine_is (remove-took m.deed m sent turn came old next t.machine after refl t.step)
name-takes-asked (machines.Rename m) sent turn came old next new after t =
    pair-name (steps.rename_with m) next t.pair new (λ p call on. on) t.machine_is (rename-asks m.pair.asked m sent turn came old next t.pair after refl t.step)
name-takes-asked (machines.Link m) sent turn came old next new after t =
    pair-name (steps.link_with m) next t.pair new (λ p call on. on) t.machine_is (link-asks m.pair.asked m sent turn came old next t.pair after refl t.step)
name-takes-asked (machines.SymLink m) sent turn came old next new after t =
    visit-name (steps.sym_link_with m) next t.visit new (λ v call on. on) t.machine_is (sym-link-asks m.visit.asked m sent turn came old next t.visit after t.step)
name-takes-asked (machines.List m) sent turn came old next new after t = list-name next t.machine new t.machine_is (list-asks m.visit.asked m sent turn came old next t.machine after t.step)
