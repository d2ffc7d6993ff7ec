-- An operation on names never waits for nothing: where none of its calls waits it goes on as soon as there is room.
use Rattle.core_facts.proofs.Prelude.{◌≡◌, ◌+◌, ◌-◌, ◌||◌, ℕ, Bool, true, false, List, Option, Some, None, Result, Ok, Err, inl, inr, refl, sym, ap, subst, ◌∙◌, arith, if◌then◌else◌, Attr, Opens, plan_of, ListStep, More, End, ListFault, Answer, Fault, Value, Call, Reply, goes_again, Step, Shelf, Turn, Link, ListDir, Pair, PairStep, Deed, Look, Seek, Move, RemoveFile, Rename, Stat, SymLink, Told, Visit, VisitStep, Walk, WalkStep, access_call, access_attr, access_told, deed_call, deed_told, link_call, TakesLink, found_by, look_again, text_call, TakesText, rename_call, TakesRename, TakesShow, sym_link_call, CopiesBy, TakesSymLink, NameMachine, one_if, of_walk, visit_by, of_visit, of_stat, pair_by, of_pair, of_names}
use Rattle.client_shelf.specs.Busy.{fails_busy}
use Rattle.name_ops.specs.declared.remove_file.Deed.TheVariants.{Remove}
use Rattle.core_facts.specs.InFlight.{own_or, removal_by, of_removal}
use Rattle.attr_cache.specs.Attrs as attrs
use Rattle.dir_list.specs.Listings.{page_step}
use Rattle.world_model.specs.declared.answer.Answer.TheVariants as answers
use Rattle.client_shelf.specs.declared.step.Step.TheVariants as nexts
use Rattle.name_ops.specs.declared.pair.PairStep.TheVariants as two
use Rattle.name_ops.specs.declared.visit.VisitStep.TheVariants as visits
use Rattle.name_ops.specs.declared.walk.WalkStep.TheVariants as walks
use Rattle.name_ops.specs.Changing as changing
use Rattle.name_ops.specs.ListDir as listing
use Rattle.name_ops.specs.Pairs as pairs
use Rattle.name_ops.specs.RemoveFile as removals
use Rattle.name_ops.specs.Stat as stats
use Rattle.name_ops.specs.Visiting as visiting
use Rattle.name_ops.specs.Walking as walking
use Rattle.op_machines.specs.declared.name_machine.NameMachine.TheVariants as machines
use Rattle.op_machines.specs.NameSteps as steps
use Rattle.core_facts.proofs.NameCounts.{WalkGoes, unasked, on-walk, walk-takes}

pub clash : {P : Type 0} → (b : Bool) → b ≡ true → b ≡ false → P
clash b t f = absurd (let no_way : true ≡ false = sym t ∙ f in cc)

-- ---- as long as an operation goes on

abbrev pub WhileGoing : Step → Type 0 → Type 0
WhileGoing (nexts.Send call) P = P
WhileGoing nexts.Wait P = P
WhileGoing (nexts.Done answer) P = Unit {0}

pub going-as : (to next : Step) (P : Type 0) → next ≡ to → WhileGoing to P → WhileGoing next P
going-as to next P is l = subst (λ (n : Step). WhileGoing n P) (sym is) l

pub going-any : (next : Step) (P : Type 0) → P → WhileGoing next P
going-any (nexts.Send call) P p = p
going-any nexts.Wait P p = p
going-any (nexts.Done answer) P p = tt

pub going-done : (answer : Answer) (next : Step) (P : Type 0) → next ≡ nexts.Done answer → WhileGoing next P
going-done answer next P is = going-as (nexts.Done answer) next P is tt

-- ---- walks

-- one that has asked waits for the LOOKUP of a name
abbrev pub WalkLive : Walk → Type 0
WalkLive w = w.asked ≡ true → of_walk w ≡ 1

abbrev pub WalkLives : WalkStep → Walk → Type 0
WalkLives (walks.Send call) new = of_walk new ≡ 1
WalkLives walks.Wait new = WalkLive new
WalkLives (walks.At object) new = new.asked ≡ false
WalkLives (walks.Refused fault) new = Unit {0}

pub goes-lives : (next : WalkStep) (new : Walk) → WalkGoes next new → WalkLives next new
goes-lives (walks.Send call) new g = g.1
goes-lives walks.Wait new g = λ asked. clash new.asked asked g
goes-lives (walks.At object) new g = g
goes-lives (walks.Refused fault) new g = tt

walk-if : (b : Bool) (w : Walk) (turn : Turn) (shelf : Shelf) → w.asked ≡ b → WalkLive w
    → WalkLives (if b then walks.Wait else walking.on_next w turn shelf.attrs shelf.names) (if b then w else walking.on_after w turn shelf.attrs shelf.names)
walk-if true w turn shelf is live = live
walk-if false w turn shelf is live =
    goes-lives (walking.on_next w turn shelf.attrs shelf.names) (walking.on_after w turn shelf.attrs shelf.names) (on-walk w turn shelf is)

pub walk-lives : (w : Walk) (turn : Turn) (shelf : Shelf) → WalkLive w → WalkLives (walking.go_next w turn shelf) (walking.go_after w turn shelf)
walk-lives w turn shelf live = walk-if w.asked w turn shelf refl live

pub idle-live : (w : Walk) → w.asked ≡ false → WalkLive w
idle-live w idle = λ asked. clash w.asked asked idle

-- it waits only for a reply, where there is room
abbrev pub Walks : WalkStep → Type 0
Walks (walks.Send call) = Unit {0}
Walks walks.Wait = ⊥
Walks (walks.At object) = Unit {0}
Walks (walks.Refused fault) = Unit {0}

asks-on : (name : Option (List ℕ)) (room : Bool) (w : Walk) → room ≡ true → Walks (walking.asks name room w)
asks-on None room w is = tt
asks-on (Some name) true w is = tt
asks-on (Some name) false w is = clash false is refl

walk-on-if : (b : Bool) (w : Walk) (turn : Turn) (shelf : Shelf) → w.asked ≡ b → WalkLive w → of_walk w ≡ 0 → turn.room ≡ true
    → Walks (if b then walks.Wait else walking.on_next w turn shelf.attrs shelf.names)
walk-on-if true w turn shelf is live none room = absurd (let one = live is in omega (arith, one, none))
walk-on-if false w turn shelf is live none room =
    let there : Walk = walking.walked w turn.now shelf.attrs shelf.names in asks-on (walking.next_name there) turn.room there room

pub walk-on : (w : Walk) (turn : Turn) (shelf : Shelf) → WalkLive w → of_walk w ≡ 0 → turn.room ≡ true → Walks (walking.go_next w turn shelf)
walk-on w turn shelf live none room = walk-on-if w.asked w turn shelf refl live none room

-- ---- a walk and a call

pub record VisitLive (v : Visit) : Type 0 where
  pub own : v.asked ≡ true → of_walk v.walk ≡ 0
  pub walk : WalkLive v.walk

abbrev pub VisitLives : VisitStep → Visit → Type 0
VisitLives (visits.Look call) new = VisitLive new
VisitLives visits.Wait new = VisitLive new
VisitLives (visits.Ask object) new = VisitLive new
VisitLives (visits.Refused fault) new = Unit {0}

visit-walk : (v : Visit) → v.asked ≡ false → of_visit v ≡ of_walk v.walk
visit-walk v is = ap (λ (b : Bool). visit_by b (of_walk v.walk)) is

follow-live : (step : WalkStep) (room : Bool) (v : Visit) → v.asked ≡ false → WalkLives step v.walk
    → VisitLives (visiting.follow_next step room) (visiting.follow_after step room v)
follow-live (walks.Send call) room v idle l = record { own = λ asked. clash v.asked asked idle; walk = λ asked. l }
follow-live walks.Wait room v idle l = record { own = λ asked. clash v.asked asked idle; walk = l }
follow-live (walks.At object) true v idle l = record { own = λ asked. unasked v.walk l; walk = idle-live v.walk l }
follow-live (walks.At object) false v idle l = record { own = λ asked. clash v.asked asked idle; walk = idle-live v.walk l }
follow-live (walks.Refused fault) room v idle l = tt

visit-if : (b : Bool) (v : Visit) (turn : Turn) (shelf : Shelf) → v.asked ≡ b → VisitLive v
    → VisitLives (if b then visits.Wait else visiting.follow_next (walking.go_next v.walk turn shelf) turn.room)
    (if b then v else visiting.follow_after (walking.go_next v.walk turn shelf) turn.room (record v { walk = walking.go_after v.walk turn shelf }))
visit-if true v turn shelf is live = live
visit-if false v turn shelf is live =
    follow-live (walking.go_next v.walk turn shelf) turn.room (record v { walk = walking.go_after v.walk turn shelf }) is (walk-lives v.walk turn shelf live.walk)

visit-goes : (v : Visit) (turn : Turn) (shelf : Shelf) → VisitLive v → VisitLives (visiting.visit_next v turn shelf) (visiting.visit_after v turn shelf)
visit-goes v turn shelf live = visit-if v.asked v turn shelf refl live

visit-took : (v : Visit) (sent turn : Turn) (came : Result Reply Fault) (old : Shelf) (next : VisitStep) (new : Visit) (after : Shelf) (others : ℕ)
    → v.asked ≡ false → of_visit v ≡ others + 1 → visiting.VisitTakes v sent turn came old next new after → VisitLives next new
visit-took v sent turn came old next new after others idle one t =
    let took = walk-takes v.walk sent turn came old t.step t.walked.walk after others (sym (visit-walk v idle) ∙ one) t.takes in
    let still : t.walked.asked ≡ false = ap (λ (w : Visit). w.asked) t.walked_is ∙ idle in
    let here = follow-live t.step turn.room t.walked still (goes-lives t.step t.walked.walk took.goes) in
    subst (λ (n : VisitStep). VisitLives n new) (sym t.next_is)
    (subst (λ (w : Visit). VisitLives (visiting.follow_next t.step turn.room) w) (sym t.visit_is) here)

by-visit : (call : List ℕ → Call) (step : VisitStep) (v : Visit) → VisitLives step v → WhileGoing (visiting.next_by call step) (VisitLive v)
by-visit call (visits.Look look) v l = l
by-visit call visits.Wait v l = l
by-visit call (visits.Ask object) v l = l
by-visit call (visits.Refused fault) v l = tt

by-copy : (call : List ℕ → Call) (step : VisitStep) (next : Step) (v : Visit) → VisitLives step v → CopiesBy call step next → WhileGoing next (VisitLive v)
by-copy call (visits.Look look) next v l c = going-as (nexts.Send look) next (VisitLive v) c l
by-copy call visits.Wait next v l c = going-as nexts.Wait next (VisitLive v) c l
by-copy call (visits.Ask object) next v l c = going-any next (VisitLive v) l
by-copy call (visits.Refused fault) next v l c = going-done (answers.Refused fault) next (VisitLive v) c

walks-live : (call : List ℕ → Call) (v : Visit) (sent turn : Turn) (came : Result Reply Fault) (old : Shelf) (next : Step) (new : Visit) (after : Shelf) (others : ℕ)
    → v.asked ≡ false → of_visit v ≡ others + 1 → visiting.Walks call v sent turn came old next new after → WhileGoing next (VisitLive new)
walks-live call v sent turn came old next new after others idle one w =
    going-as (visiting.next_by call w.step) next (VisitLive new) w.next_is (by-visit call w.step new (visit-took v sent turn came old w.step new after others idle one w.takes))

same-visit : (v : Visit) (next : Step) (new : Visit) → new ≡ v → VisitLive v → WhileGoing next (VisitLive new)
same-visit v next new is live = going-any next (VisitLive new) (subst VisitLive (sym is) live)

change-live : (asked : Bool) (call : List ℕ → Call) (told : Told) (v : Visit) (sent turn : Turn) (came : Result Reply Fault) (old : Shelf) (next : Step) (new : Visit)
    (after : Shelf) (others : ℕ) → v.asked ≡ asked → of_visit v ≡ others + 1 → VisitLive v → changing.TakesChange asked call told v sent turn came old next new after
    → WhileGoing next (VisitLive new)
change-live true call told v sent turn came old next new after others is one live t = same-visit v next new t.0 live
change-live false call told v sent turn came old next new after others is one live t = walks-live call v sent turn came old next new after others is one t

show-live : (asked : Bool) (call : List ℕ → Call) (attr : Option Attr) (told : Result Value Fault) (v : Visit) (sent turn : Turn) (came : Result Reply Fault) (old : Shelf)
    (next : Step) (new : Visit) (after : Shelf) (others : ℕ) → v.asked ≡ asked → of_visit v ≡ others + 1 → VisitLive v
    → TakesShow asked call attr told v sent turn came old next new after → WhileGoing next (VisitLive new)
show-live true call attr told v sent turn came old next new after others is one live t = same-visit v next new t.0 live
show-live false call attr told v sent turn came old next new after others is one live t = walks-live call v sent turn came old next new after others is one t

text-live : (asked : Bool) (v : Visit) (sent turn : Turn) (came : Result Reply Fault) (old : Shelf) (next : Step) (new : Visit) (after : Shelf) (others : ℕ)
    → v.asked ≡ asked → of_visit v ≡ others + 1 → VisitLive v → TakesText asked v sent turn came old next new after → WhileGoing next (VisitLive new)
text-live true v sent turn came old next new after others is one live t = same-visit v next new t.0 live
text-live false v sent turn came old next new after others is one live t = walks-live text_call v sent turn came old next new after others is one t

sym-live : (asked : Bool) (m : SymLink) (sent turn : Turn) (came : Result Reply Fault) (old : Shelf) (next : Step) (new : Visit) (after : Shelf) (others : ℕ)
    → m.visit.asked ≡ asked → of_visit m.visit ≡ others + 1 → VisitLive m.visit → TakesSymLink asked m sent turn came old next new after → WhileGoing next (VisitLive new)
sym-live true m sent turn came old next new after others is one live t = same-visit m.visit next new t.0 live
sym-live false m sent turn came old next new after others is one live t =
    by-copy (sym_link_call m.name m.target) t.step next new (visit-took m.visit sent turn came old t.step new after others is one t.takes) t.next_is

-- it goes on, where none of its calls waits
abbrev pub Visits : VisitStep → Type 0
Visits (visits.Look call) = Unit {0}
Visits visits.Wait = ⊥
Visits (visits.Ask object) = Unit {0}
Visits (visits.Refused fault) = Unit {0}

follow-on : (step : WalkStep) (room : Bool) → room ≡ true → Walks step → Visits (visiting.follow_next step room)
follow-on (walks.Send call) room is w = tt
follow-on walks.Wait room is w = w
follow-on (walks.At object) true is w = tt
follow-on (walks.At object) false is w = clash false is refl
follow-on (walks.Refused fault) room is w = tt

visit-on-if : (b : Bool) (v : Visit) (turn : Turn) (shelf : Shelf) → v.asked ≡ b → VisitLive v → of_visit v ≡ 0 → turn.room ≡ true
    → Visits (if b then visits.Wait else visiting.follow_next (walking.go_next v.walk turn shelf) turn.room)
visit-on-if true v turn shelf is live none room =
    absurd (
    let own : of_visit v ≡ 1 - of_walk v.walk = ap (λ (b : Bool). visit_by b (of_walk v.walk)) is in
    let walk = live.own is in
    omega (arith, own, walk, none))
visit-on-if false v turn shelf is live none room =
    follow-on (walking.go_next v.walk turn shelf) turn.room room (walk-on v.walk turn shelf live.walk (sym (visit-walk v is) ∙ none) room)

visit-on : (v : Visit) (turn : Turn) (shelf : Shelf) → VisitLive v → of_visit v ≡ 0 → turn.room ≡ true → Visits (visiting.visit_next v turn shelf)
visit-on v turn shelf live none room = visit-on-if v.asked v turn shelf refl live none room

-- a step that doesn't wait
abbrev pub GoesOn : Step → Type 0
GoesOn (nexts.Send call) = Unit {0}
GoesOn nexts.Wait = ⊥
GoesOn (nexts.Done answer) = Unit {0}

pub on-as : (to next : Step) → next ≡ to → GoesOn to → GoesOn next
on-as to next is g = subst GoesOn (sym is) g

on-by : (call : List ℕ → Call) (step : VisitStep) → Visits step → GoesOn (visiting.next_by call step)
on-by call (visits.Look look) v = tt
on-by call visits.Wait v = v
on-by call (visits.Ask object) v = tt
on-by call (visits.Refused fault) v = tt

on-copy : (call : List ℕ → Call) (step : VisitStep) (next : Step) → Visits step → CopiesBy call step next → GoesOn next
on-copy call (visits.Look look) next v c = on-as (nexts.Send look) next c tt
on-copy call visits.Wait next v c = absurd v
on-copy call (visits.Ask object) next v (inl c) = on-as (nexts.Send (call object)) next c tt
on-copy call (visits.Ask object) next v (inr c) = on-as _ next c tt
on-copy call (visits.Refused fault) next v c = on-as (nexts.Done (answers.Refused fault)) next c tt

-- ---- attributes

ask-live : (known : Option Attr) (object : List ℕ) (room : Bool) (m : Stat) → WalkLive m.walk
    → WhileGoing (stats.ask_next known object room) (WalkLive (stats.ask_after known room m).walk)
ask-live (Some attr) object room m live = tt
ask-live None object true m live = live
ask-live None object false m live = live

stat-follows : (step : WalkStep) (turn : Turn) (known : attrs.Attrs) (m : Stat) → WalkLives step m.walk
    → WhileGoing (stats.follow_next step turn known) (WalkLive (stats.follow_after step turn known m).walk)
stat-follows (walks.Send call) turn known m l = λ asked. l
stat-follows walks.Wait turn known m l = l
stat-follows (walks.At object) turn known m l = ask-live (attrs.looked object turn.now known) object turn.room m (idle-live m.walk l)
stat-follows (walks.Refused fault) turn known m l = tt

stat-if : (b : Bool) (m : Stat) (turn : Turn) (shelf : Shelf) → WalkLive m.walk
    → WhileGoing (if b then nexts.Wait else stats.follow_next (walking.go_next m.walk turn shelf) turn shelf.attrs)
    (WalkLive (if b then m else stats.follow_after (walking.go_next m.walk turn shelf) turn shelf.attrs (record m { walk = walking.go_after m.walk turn shelf })).walk)
stat-if true m turn shelf live = live
stat-if false m turn shelf live =
    stat-follows (walking.go_next m.walk turn shelf) turn shelf.attrs (record m { walk = walking.go_after m.walk turn shelf }) (walk-lives m.walk turn shelf live)

stat-own : (m : Stat) → m.asked ≡ false → of_stat m ≡ of_walk m.walk
stat-own m is = ap (λ (b : Bool). own_or b (of_walk m.walk)) is

stat-took : (asked : Bool) (m : Stat) (sent turn : Turn) (came : Result Reply Fault) (old : Shelf) (next : Step) (new : Stat) (after : Shelf) (others : ℕ)
    → m.asked ≡ asked → of_stat m ≡ others + 1 → WalkLive m.walk → stats.StatTakes asked m sent turn came old next new after → WhileGoing next (WalkLive new.walk)
stat-took true m sent turn came old next new after others is one live t =
    going-any next (WalkLive new.walk) (subst (λ (n : Stat). WalkLive n.walk) (sym t.0) live)
stat-took false m sent turn came old next new after others is one live t =
    let took = walk-takes m.walk sent turn came old t.step t.walked.walk after others (sym (stat-own m is) ∙ one) t.takes in
    let here = stat-follows t.step turn after.attrs t.walked (goes-lives t.step t.walked.walk took.goes) in
    going-as (stats.follow_next t.step turn after.attrs) next (WalkLive new.walk) t.next_is
    (subst (λ (n : Stat). WhileGoing (stats.follow_next t.step turn after.attrs) (WalkLive n.walk)) (sym t.machine_is) here)

ask-on : (known : Option Attr) (object : List ℕ) (room : Bool) → room ≡ true → GoesOn (stats.ask_next known object room)
ask-on (Some attr) object room is = tt
ask-on None object true is = tt
ask-on None object false is = clash false is refl

stat-follow-on : (step : WalkStep) (turn : Turn) (known : attrs.Attrs) → turn.room ≡ true → Walks step → GoesOn (stats.follow_next step turn known)
stat-follow-on (walks.Send call) turn known room w = tt
stat-follow-on walks.Wait turn known room w = w
stat-follow-on (walks.At object) turn known room w = ask-on (attrs.looked object turn.now known) object turn.room room
stat-follow-on (walks.Refused fault) turn known room w = tt

stat-on : (b : Bool) (m : Stat) (turn : Turn) (shelf : Shelf) → m.asked ≡ b → WalkLive m.walk → of_stat m ≡ 0 → turn.room ≡ true
    → GoesOn (if b then nexts.Wait else stats.follow_next (walking.go_next m.walk turn shelf) turn shelf.attrs)
stat-on true m turn shelf is live none room =
    absurd (let own : of_stat m ≡ 1 = ap (λ (b : Bool). own_or b (of_walk m.walk)) is in omega (arith, own, none))
stat-on false m turn shelf is live none room =
    stat-follow-on (walking.go_next m.walk turn shelf) turn shelf.attrs room (walk-on m.walk turn shelf live (sym (stat-own m is) ∙ none) room)

-- ---- listings

list-goes : (step : ListStep) (room : Bool) (m : ListDir) (next : Step) (new : ListDir) → m.visit.asked ≡ true → VisitLive m.visit → listing.GoesOn step room m next new
    → WhileGoing next (VisitLive new.visit)
list-goes (More cookie verf) room m next new is live g =
    going-any next (VisitLive new.visit) (subst (λ (l : ListDir). VisitLive l.visit) (sym g.1) (record { own = λ asked. live.own is; walk = live.walk }))
list-goes End room m next new is live g = going-done _ next (VisitLive new.visit) g.next_is

list-step : (step : Result ListStep ListFault) (heard : _) (room : Bool) (m : ListDir) (next : Step) (new : ListDir) → m.visit.asked ≡ true → VisitLive m.visit
    → listing.TakesStep step heard room m next new → WhileGoing next (VisitLive new.visit)
list-step (Ok step) heard room m next new is live t = list-goes step room _ next new is live t
list-step (Err fault) heard room m next new is live t = going-done _ next (VisitLive new.visit) t.0

list-page : (heard : _) (room : Bool) (m : ListDir) (next : Step) (new : ListDir) → m.visit.asked ≡ true → VisitLive m.visit
    → listing.TakesPage heard room m next new → WhileGoing next (VisitLive new.visit)
list-page heard room m next new is live (inl t) = going-done _ next (VisitLive new.visit) t.0
list-page heard room m next new is live (inr t) = list-step (page_step m.listing heard.page heard.verf heard.eof) heard room m next new is live t

list-follows : (heard : Result _ Fault) (again room : Bool) (m : ListDir) (next : Step) (new : ListDir) → m.visit.asked ≡ true → VisitLive m.visit
    → listing.Follows heard again room m next new → WhileGoing next (VisitLive new.visit)
list-follows (Ok heard) again room m next new is live f = list-page heard room m next new is live f
list-follows (Err fault) again room m next new is live f =
    going-any next (VisitLive new.visit) (subst (λ (l : ListDir). VisitLive l.visit) (sym f.1) live)

list-took : (asked : Bool) (m : ListDir) (sent turn : Turn) (came : Result Reply Fault) (old : Shelf) (next : Step) (new : ListDir) (after : Shelf) (others : ℕ)
    → m.visit.asked ≡ asked → of_visit m.visit ≡ others + 1 → VisitLive m.visit → listing.TakesList asked m sent turn came old next new after
    → WhileGoing next (VisitLive new.visit)
list-took true m sent turn came old next new after others is one live t =
    list-follows (listing.page_heard came) (goes_again (fails_busy (listing.page_heard came)) sent turn old.repeats) turn.room m next new is live t.follows
list-took false m sent turn came old next new after others is one live t =
    subst (λ (l : ListDir). WhileGoing next (VisitLive l.visit)) (sym t.machine_is)
    (walks-live (listing.page_call m.place) m.visit sent turn came old next t.visit after others is one t.walks)

-- ---- two walks and a call

pub record PairLive (p : Pair) : Type 0 where
  pub first : WalkLive p.first
  pub second : WalkLive p.second
  pub apart : p.first.asked ≡ true → p.second.asked ≡ false

abbrev pub PairLives : PairStep → Pair → Type 0
PairLives (two.Look call) new = PairLive new
PairLives two.Wait new = PairLive new
PairLives (two.Ask first second) new = PairLive new
PairLives (two.Refused fault) new = Unit {0}

asks-pair : (first second : List ℕ) (room : Bool) (p : Pair) → PairLive p → PairLives (pairs.asks_next first second room) (pairs.asks_after room p)
asks-pair first second true p live = record { first = live.first; second = live.second; apart = live.apart }
asks-pair first second false p live = live

led-second : (first : List ℕ) (step : WalkStep) (room : Bool) (p : Pair) → p.first.asked ≡ false → WalkLives step p.second
    → PairLives (pairs.led_second first step room) (pairs.second_kept step room p)
led-second first (walks.Send call) room p idle l =
    record { first = idle-live p.first idle; second = λ asked. l; apart = λ asked. clash p.first.asked asked idle }
led-second first walks.Wait room p idle l = record { first = idle-live p.first idle; second = l; apart = λ asked. clash p.first.asked asked idle }
led-second first (walks.At second) room p idle l =
    asks-pair first second room p (record { first = idle-live p.first idle; second = idle-live p.second l; apart = λ asked. clash p.first.asked asked idle })
led-second first (walks.Refused fault) room p idle l = tt

led-first : (step : WalkStep) (p : Pair) (turn : Turn) (shelf : Shelf) → p.second.asked ≡ false → WalkLives step p.first
    → PairLives (pairs.led_first step p turn shelf) (pairs.first_kept step p turn shelf)
led-first (walks.Send call) p turn shelf idle l = record { first = λ asked. l; second = idle-live p.second idle; apart = λ asked. idle }
led-first walks.Wait p turn shelf idle l = record { first = l; second = idle-live p.second idle; apart = λ asked. idle }
led-first (walks.At first) p turn shelf idle l =
    led-second first (walking.go_next p.second turn shelf) turn.room (record p { second = walking.go_after p.second turn shelf }) l
    (walk-lives p.second turn shelf (idle-live p.second idle))
led-first (walks.Refused fault) p turn shelf idle l = tt

or-left : (a b : Bool) → (a || b) ≡ false → a ≡ false
or-left true b e = absurd cc
or-left false b e = refl

or-right : (a b : Bool) → (a || b) ≡ false → b ≡ false
or-right true b e = absurd cc
or-right false b e = e

pair-if : (b : Bool) (p : Pair) (turn : Turn) (shelf : Shelf) → (p.asked || p.second.asked) ≡ b → PairLive p
    → PairLives (if b then two.Wait else pairs.on_next p turn shelf) (if b then p else pairs.on_after p turn shelf)
pair-if true p turn shelf is live = live
pair-if false p turn shelf is live =
    led-first (walking.go_next p.first turn shelf) (pairs.walked_first p turn shelf) turn (walking.go_shelf p.first turn shelf) (or-right p.asked p.second.asked is)
    (walk-lives p.first turn shelf live.first)

pair-as : (p : Pair) (a b c : Bool) → p.asked ≡ a → p.first.asked ≡ b → p.second.asked ≡ c → of_pair p ≡ pair_by a b c (of_walk p.first) (of_walk p.second)
pair-as p a b c asked first second =
    ap (λ (x : Bool). pair_by x p.first.asked p.second.asked (of_walk p.first) (of_walk p.second)) asked
    ∙ ap (λ (x : Bool). pair_by a x p.second.asked (of_walk p.first) (of_walk p.second)) first
    ∙ ap (λ (x : Bool). pair_by a b x (of_walk p.first) (of_walk p.second)) second

pair-took : (b : Bool) (p : Pair) (sent turn : Turn) (came : Result Reply Fault) (old : Shelf) (next : PairStep) (new : Pair) (after : Shelf) (others : ℕ)
    → p.asked ≡ false → p.first.asked ≡ b → of_pair p ≡ others + 1 → PairLive p → pairs.PairTakes b p sent turn came old next new after → PairLives next new
pair-took true p sent turn came old next new after others asked is one live t =
    let idle = live.apart is in
    let own : of_pair p ≡ of_walk p.first = pair-as p false true false asked is idle in
    let took = walk-takes p.first sent turn came old t.step t.walked.first t.heard others (sym own ∙ one) t.takes in
    let here = led-first t.step t.walked turn t.heard (ap (λ (w : Pair). w.second.asked) t.walked_is ∙ idle) (goes-lives t.step t.walked.first took.goes) in
    subst (λ (n : PairStep). PairLives n new) (sym t.next_is)
    (subst (λ (w : Pair). PairLives (pairs.led_first t.step t.walked turn t.heard) w) (sym t.pair_is) here)
pair-took false p sent turn came old next new after others asked is one live t =
    let own : of_pair p ≡ of_walk p.second = pair-as p false false p.second.asked asked is refl in
    let took = walk-takes p.second sent turn came old t.step t.walked.second after others (sym own ∙ one) t.takes in
    let here = led-second p.first.spot.dir t.step turn.room t.walked (ap (λ (w : Pair). w.first.asked) t.walked_is ∙ is) (goes-lives t.step t.walked.second took.goes) in
    subst (λ (n : PairStep). PairLives n new) (sym t.next_is)
    (subst (λ (w : Pair). PairLives (pairs.led_second p.first.spot.dir t.step turn.room) w) (sym t.pair_is) here)

by-pair : (call : List ℕ → List ℕ → Call) (step : PairStep) (p : Pair) → PairLives step p → WhileGoing (pairs.next_by call step) (PairLive p)
by-pair call (two.Look look) p l = l
by-pair call two.Wait p l = l
by-pair call (two.Ask first second) p l = l
by-pair call (two.Refused fault) p l = tt

pair-walks : (call : List ℕ → List ℕ → Call) (p : Pair) (sent turn : Turn) (came : Result Reply Fault) (old : Shelf) (next : Step) (new : Pair) (after : Shelf) (others : ℕ)
    → p.asked ≡ false → of_pair p ≡ others + 1 → PairLive p → pairs.Walks call p sent turn came old next new after → WhileGoing next (PairLive new)
pair-walks call p sent turn came old next new after others idle one live w =
    going-as (pairs.next_by call w.step) next (PairLive new) w.next_is
    (by-pair call w.step new (pair-took p.first.asked p sent turn came old w.step new after others idle refl one live w.takes))

same-pair : (p : Pair) (next : Step) (new : Pair) → new ≡ p → PairLive p → WhileGoing next (PairLive new)
same-pair p next new is live = going-any next (PairLive new) (subst PairLive (sym is) live)

rename-live : (asked : Bool) (m : Rename) (sent turn : Turn) (came : Result Reply Fault) (old : Shelf) (next : Step) (new : Pair) (after : Shelf) (others : ℕ)
    → m.pair.asked ≡ asked → of_pair m.pair ≡ others + 1 → PairLive m.pair → TakesRename asked m sent turn came old next new after → WhileGoing next (PairLive new)
rename-live true m sent turn came old next new after others is one live t = same-pair m.pair next new t.0 live
rename-live false m sent turn came old next new after others is one live t =
    pair-walks (rename_call m.from m.to) m.pair sent turn came old next new after others is one live t

link-live : (asked : Bool) (m : Link) (sent turn : Turn) (came : Result Reply Fault) (old : Shelf) (next : Step) (new : Pair) (after : Shelf) (others : ℕ)
    → m.pair.asked ≡ asked → of_pair m.pair ≡ others + 1 → PairLive m.pair → TakesLink asked m sent turn came old next new after → WhileGoing next (PairLive new)
link-live true m sent turn came old next new after others is one live t = same-pair m.pair next new t.0 live
link-live false m sent turn came old next new after others is one live t = pair-walks (link_call m.name) m.pair sent turn came old next new after others is one live t

abbrev pub Pairs : PairStep → Type 0
Pairs (two.Look call) = Unit {0}
Pairs two.Wait = ⊥
Pairs (two.Ask first second) = Unit {0}
Pairs (two.Refused fault) = Unit {0}

second-on : (first : List ℕ) (step : WalkStep) (room : Bool) → room ≡ true → Walks step → Pairs (pairs.led_second first step room)
second-on first (walks.Send call) room is w = tt
second-on first walks.Wait room is w = w
second-on first (walks.At second) true is w = tt
second-on first (walks.At second) false is w = clash false is refl
second-on first (walks.Refused fault) room is w = tt

first-on : (step : WalkStep) (p : Pair) (turn : Turn) (shelf : Shelf) → turn.room ≡ true → p.second.asked ≡ false → Walks step → Pairs (pairs.led_first step p turn shelf)
first-on (walks.Send call) p turn shelf room idle w = tt
first-on walks.Wait p turn shelf room idle w = w
first-on (walks.At first) p turn shelf room idle w =
    second-on first (walking.go_next p.second turn shelf) turn.room room (walk-on p.second turn shelf (idle-live p.second idle) (unasked p.second idle) room)
first-on (walks.Refused fault) p turn shelf room idle w = tt

none-of-first : (b : Bool) (p : Pair) → p.first.asked ≡ b → p.asked ≡ false → p.second.asked ≡ false → of_pair p ≡ 0 → of_walk p.first ≡ 0
none-of-first true p is asked idle none = sym (pair-as p false true false asked is idle) ∙ none
none-of-first false p is asked idle none = unasked p.first is

second-none : (b : Bool) (p : Pair) → p.first.asked ≡ b → p.asked ≡ false → p.second.asked ≡ true → PairLive p → of_pair p ≡ 0 → ⊥
second-none true p is asked second live none = clash p.second.asked second (live.apart is)
second-none false p is asked second live none =
    let own : of_pair p ≡ of_walk p.second = pair-as p false false true asked is second in
    let one = live.second second in
    omega (arith, own, one, none)

pair-on : (a b : Bool) (p : Pair) (turn : Turn) (shelf : Shelf) → p.asked ≡ a → p.second.asked ≡ b → PairLive p → of_pair p ≡ 0 → turn.room ≡ true
    → Pairs (if a || b then two.Wait else pairs.on_next p turn shelf)
pair-on true b p turn shelf asked second live none room =
    absurd (let own : of_pair p ≡ 1 = pair-as p true p.first.asked p.second.asked asked refl refl in omega (arith, own, none))
pair-on false true p turn shelf asked second live none room = absurd (second-none p.first.asked p refl asked second live none)
pair-on false false p turn shelf asked second live none room =
    first-on (walking.go_next p.first turn shelf) (pairs.walked_first p turn shelf) turn (walking.go_shelf p.first turn shelf) room second
    (walk-on p.first turn shelf live.first (none-of-first p.first.asked p refl asked second none) room)

on-pair : (call : List ℕ → List ℕ → Call) (step : PairStep) → Pairs step → GoesOn (pairs.next_by call step)
on-pair call (two.Look look) v = tt
on-pair call two.Wait v = v
on-pair call (two.Ask first second) v = tt
on-pair call (two.Refused fault) v = tt

-- ---- removals

pub record RemovalLive (m : RemoveFile) : Type 0 where
  pub own : m.deed ≡ None → m.asked ≡ false
  pub walk : WalkLive m.walk

asked-live : (room : Bool) (deed : Deed) (m : RemoveFile) (next : Step) (new : RemoveFile) → new ≡ removals.asked_after m deed room → WalkLive m.walk
    → WhileGoing next (RemovalLive new)
asked-live room deed m next new is live =
    going-any next (RemovalLive new) (subst RemovalLive (sym is) (record { own = λ none. absurd cc; walk = live }))

same-removal : (m : RemoveFile) (next : Step) (new : RemoveFile) → new ≡ m → RemovalLive m → WhileGoing next (RemovalLive new)
same-removal m next new is live = going-any next (RemovalLive new) (subst RemovalLive (sym is) live)

removal-follows : (step : WalkStep) (room : Bool) (m : RemoveFile) (opens : Opens) (next : Step) (new : RemoveFile) → m.asked ≡ false → WalkLives step m.walk
    → removals.Follows step room m opens next new → WhileGoing next (RemovalLive new)
removal-follows (walks.Send call) room m opens next new idle l f = same-removal m next new f.1 (record { own = λ none. idle; walk = λ asked. l })
removal-follows walks.Wait room m opens next new idle l f = same-removal m next new f.1 (record { own = λ none. idle; walk = l })
removal-follows (walks.At dir) room m opens next new idle l f = asked-live room (removals.first_deed f.any) m next new f.machine_is (idle-live m.walk l)
removal-follows (walks.Refused fault) room m opens next new idle l f = going-done (answers.Refused fault) next (RemovalLive new) f.0

removal-goes : (deed : Option Deed) (m : RemoveFile) (turn : Turn) (old : Shelf) (next : Step) (new : RemoveFile) (after : Shelf) → m.asked ≡ false → RemovalLive m
    → removals.Goes deed m turn old next new after → WhileGoing next (RemovalLive new)
removal-goes (Some deed) m turn old next new after idle live g = asked-live turn.room deed m next new g.machine_is live.walk
removal-goes None m turn old next new after idle live g =
    removal-follows (walking.go_next m.walk turn old) turn.room (record m { walk = walking.go_after m.walk turn old }) old.opens next new idle
    (walk-lives m.walk turn old live.walk) g.follows

removal-resumes : (asked : Bool) (m : RemoveFile) (turn : Turn) (old : Shelf) (next : Step) (new : RemoveFile) (after : Shelf) → m.asked ≡ asked → RemovalLive m
    → removals.Resumes asked m turn old next new after → WhileGoing next (RemovalLive new)
removal-resumes true m turn old next new after is live r = same-removal m next new r.machine_is live
removal-resumes false m turn old next new after is live r = removal-goes m.deed m turn old next new after is live r

look-live : (again : Bool) (told : Result (List ℕ) Fault) (m : RemoveFile) (room : Bool) (old : Shelf) (next : Step) (new : RemoveFile) (after : Shelf) → RemovalLive m
    → removals.FollowsLook again told m room old next new after → WhileGoing next (RemovalLive new)
look-live true told m room old next new after live f = same-removal m next new f.machine_is live
look-live false (Ok file) m room old next new after live f =
    asked-live room (removals.deed_of file (plan_of f.is_open old.counter)) m next new f.plans.machine_is live.walk
look-live false (Err fault) m room old next new after live f = same-removal m next new f.machine_is live

missed-live : (missing : Bool) (file to : List ℕ) (m : RemoveFile) (room : Bool) (next : Step) (new : RemoveFile) → RemovalLive m
    → new ≡ removals.missed_after missing file to m room → WhileGoing next (RemovalLive new)
missed-live true file to m room next new live is = asked-live room (Move file to) m next new is live.walk
missed-live false file to m room next new live is = same-removal m next new is live

seek-live : (again : Bool) (told : Result (List ℕ) Fault) (file to : List ℕ) (m : RemoveFile) (room : Bool) (old : Shelf) (next : Step) (new : RemoveFile) (after : Shelf)
    → RemovalLive m → removals.FollowsSeek again told file to m room old next new after → WhileGoing next (RemovalLive new)
seek-live true told file to m room old next new after live f = same-removal m next new f.machine_is live
seek-live false (Ok found) file to m room old next new after live f =
    asked-live room (removals.deed_of file (plan_of true old.counter)) m next new f.machine_is live.walk
seek-live false (Err fault) file to m room old next new after live f = missed-live (removals.is_missing fault) file to m room next new live f.machine_is

deed-live : (deed : Deed) (m : RemoveFile) (sent turn : Turn) (came : Result Reply Fault) (old : Shelf) (next : Step) (new : RemoveFile) (after : Shelf) → RemovalLive m
    → removals.TakesDeed deed m sent turn came old next new after → WhileGoing next (RemovalLive new)
deed-live Look m sent turn came old next new after live t = look-live (look_again sent turn came old) (found_by came) m turn.room t.heard next new after live t.follows
deed-live (Seek file to) m sent turn came old next new after live t =
    seek-live (look_again sent turn came old) (found_by came) file to m turn.room t.heard next new after live t.follows
deed-live (Move file to) m sent turn came old next new after live t = same-removal m next new t.0 live
deed-live Remove m sent turn came old next new after live t = same-removal m next new t.0 live

if-live : (asked : Bool) (deed : Deed) (m : RemoveFile) (sent turn : Turn) (came : Result Reply Fault) (old : Shelf) (next : Step) (new : RemoveFile) (after : Shelf)
    → RemovalLive m → removals.TakesIf asked deed m sent turn came old next new after → WhileGoing next (RemovalLive new)
if-live true deed m sent turn came old next new after live t = deed-live deed m sent turn came old next new after live t
if-live false deed m sent turn came old next new after live t = same-removal m next new t.machine_is live

removal-walk : (m : RemoveFile) → m.deed ≡ None → of_removal m ≡ of_walk m.walk
removal-walk m is = ap (λ (d : Option Deed). removal_by d m.asked (of_walk m.walk)) is

removal-takes : (deed : Option Deed) (m : RemoveFile) (sent turn : Turn) (came : Result Reply Fault) (old : Shelf) (next : Step) (new : RemoveFile) (after : Shelf) (others : ℕ)
    → m.deed ≡ deed → of_removal m ≡ others + 1 → RemovalLive m → removals.Takes deed m sent turn came old next new after → WhileGoing next (RemovalLive new)
removal-takes (Some deed) m sent turn came old next new after others is one live t = if-live m.asked deed m sent turn came old next new after live t
removal-takes None m sent turn came old next new after others is one live t =
    let took = walk-takes m.walk sent turn came old t.step t.walked.walk after others (sym (removal-walk m is) ∙ one) t.takes in
    removal-follows t.step turn.room t.walked after.opens next new (ap (λ (w : RemoveFile). w.asked) t.walked_is ∙ live.own is) (goes-lives t.step t.walked.walk took.goes) t.follows

asked-on : (m : RemoveFile) (deed : Deed) (room : Bool) (next : Step) → room ≡ true → next ≡ removals.asked_next m deed room → GoesOn next
asked-on m deed true next is n = on-as (nexts.Send (removals.call_of m deed)) next n tt
asked-on m deed false next is n = clash false is refl

removal-follow-on : (step : WalkStep) (room : Bool) (m : RemoveFile) (opens : Opens) (next : Step) (new : RemoveFile) → room ≡ true → Walks step
    → removals.Follows step room m opens next new → GoesOn next
removal-follow-on (walks.Send call) room m opens next new is w f = on-as (nexts.Send call) next f.0 tt
removal-follow-on walks.Wait room m opens next new is w f = absurd w
removal-follow-on (walks.At dir) room m opens next new is w f = asked-on m (removals.first_deed f.any) room next is f.next_is
removal-follow-on (walks.Refused fault) room m opens next new is w f = on-as (nexts.Done (answers.Refused fault)) next f.0 tt

removal-goes-on : (deed : Option Deed) (m : RemoveFile) (turn : Turn) (old : Shelf) (next : Step) (new : RemoveFile) (after : Shelf) → m.deed ≡ deed → RemovalLive m
    → of_removal m ≡ 0 → turn.room ≡ true → removals.Goes deed m turn old next new after → GoesOn next
removal-goes-on (Some deed) m turn old next new after is live none room g = asked-on m deed turn.room next room g.next_is
removal-goes-on None m turn old next new after is live none room g =
    removal-follow-on (walking.go_next m.walk turn old) turn.room _ old.opens next new room
    (walk-on m.walk turn old live.walk (sym (removal-walk m is) ∙ none) room) g.follows

removal-asked : (deed : Option Deed) (m : RemoveFile) → m.deed ≡ deed → m.asked ≡ true → RemovalLive m → of_removal m ≡ 0 → ⊥
removal-asked None m is asked live none = clash m.asked asked (live.own is)
removal-asked (Some deed) m is asked live none =
    let own : of_removal m ≡ 1 = ap (λ (d : Option Deed). removal_by d m.asked (of_walk m.walk)) is ∙ ap one_if asked in omega (arith, own, none)

removal-on : (asked : Bool) (m : RemoveFile) (turn : Turn) (old : Shelf) (next : Step) (new : RemoveFile) (after : Shelf) → m.asked ≡ asked → RemovalLive m
    → of_removal m ≡ 0 → turn.room ≡ true → removals.Resumes asked m turn old next new after → GoesOn next
removal-on true m turn old next new after is live none room r = absurd (removal-asked m.deed m refl is live none)
removal-on false m turn old next new after is live none room r = removal-goes-on m.deed m turn old next new after refl live none room r

-- ---- any operation on names

abbrev pub NameLive : NameMachine → Type 0
NameLive (machines.Change m) = VisitLive m.visit
NameLive (machines.Stat m) = WalkLive m.walk
NameLive (machines.Access m) = VisitLive m.visit
NameLive (machines.ReadLink m) = VisitLive m.visit
NameLive (machines.Remove m) = RemovalLive m
NameLive (machines.Rename m) = PairLive m.pair
NameLive (machines.Link m) = PairLive m.pair
NameLive (machines.SymLink m) = VisitLive m.visit
NameLive (machines.List m) = VisitLive m.visit

name-as : (next : Step) (to new : NameMachine) → new ≡ to → WhileGoing next (NameLive to) → WhileGoing next (NameLive new)
name-as next to new is l = subst (λ (m : NameMachine). WhileGoing next (NameLive m)) (sym is) l

visit-names : (call : List ℕ → Call) (v : Visit) (turn : Turn) (old : Shelf) (next : Step) → VisitLive v → next ≡ visiting.next_by call (visiting.visit_next v turn old)
    → WhileGoing next (VisitLive (visiting.visit_after v turn old))
visit-names call v turn old next live is =
    going-as (visiting.next_by call (visiting.visit_next v turn old)) next (VisitLive (visiting.visit_after v turn old)) is
    (by-visit call (visiting.visit_next v turn old) (visiting.visit_after v turn old) (visit-goes v turn old live))

pair-names : (call : List ℕ → List ℕ → Call) (p : Pair) (turn : Turn) (old : Shelf) (next : Step) → PairLive p → next ≡ pairs.next_by call (pairs.pair_next p turn old)
    → WhileGoing next (PairLive (pairs.pair_after p turn old))
pair-names call p turn old next live is =
    going-as (pairs.next_by call (pairs.pair_next p turn old)) next (PairLive (pairs.pair_after p turn old)) is
    (by-pair call (pairs.pair_next p turn old) (pairs.pair_after p turn old) (pair-if (p.asked || p.second.asked) p turn old refl live))

pub name-goes : (m : NameMachine) (turn : Turn) (old : Shelf) (next : Step) (new : NameMachine) (after : Shelf) → NameLive m → steps.NameGoes m turn old next new after
    → WhileGoing next (NameLive new)
name-goes (machines.Change m) turn old next new after live g =
    name-as next (steps.change_with m (visiting.visit_after m.visit turn old)) new g.machine_is (visit-names (deed_call m.deed m.name) m.visit turn old next live g.next_is)
name-goes (machines.Stat m) turn old next new after live g =
    name-as next (machines.Stat (stats.stat_after m turn old)) new g.machine_is
    (going-as (stats.stat_next m turn old) next (WalkLive (stats.stat_after m turn old).walk) g.next_is (stat-if m.asked m turn old live))
name-goes (machines.Access m) turn old next new after live g =
    name-as next (steps.access_with m (visiting.visit_after m.visit turn old)) new g.machine_is (visit-names (access_call m.bits) m.visit turn old next live g.next_is)
name-goes (machines.ReadLink m) turn old next new after live g =
    name-as next (steps.read_link_with m (visiting.visit_after m.visit turn old)) new g.machine_is (visit-names text_call m.visit turn old next live g.next_is)
name-goes (machines.Remove m) turn old next new after live g =
    name-as next (machines.Remove g.machine) new g.machine_is (removal-resumes m.asked m turn old next g.machine after refl live g.step)
name-goes (machines.Rename m) turn old next new after live g =
    name-as next (steps.rename_with m (pairs.pair_after m.pair turn old)) new g.machine_is (pair-names (rename_call m.from m.to) m.pair turn old next live g.next_is)
name-goes (machines.Link m) turn old next new after live g =
    name-as next (steps.link_with m (pairs.pair_after m.pair turn old)) new g.machine_is (pair-names (link_call m.name) m.pair turn old next live g.next_is)
name-goes (machines.SymLink m) turn old next new after live g =
    name-as next (steps.sym_link_with m (visiting.visit_after m.visit turn old)) new g.machine_is
    (by-copy (sym_link_call m.name m.target) (visiting.visit_next m.visit turn old) next (visiting.visit_after m.visit turn old) (visit-goes m.visit turn old live) g.next_is)
name-goes (machines.List m) turn old next new after live g =
    name-as next (steps.list_with m (visiting.visit_after m.visit turn old)) new g.machine_is (visit-names (listing.page_call m.place) m.visit turn old next live g.next_is)

pub name-takes : (m : NameMachine) (sent turn : Turn) (came : Result Reply Fault) (old : Shelf) (next : Step) (new : NameMachine) (after : Shelf) (others : ℕ)
    → NameLive m → of_names m ≡ others + 1 → steps.NameTakes m sent turn came old next new after → WhileGoing next (NameLive new)
name-takes (machines.Change m) sent turn came old next new after others live one t =
    name-as next (steps.change_with m t.visit) new t.machine_is
    (change-live m.visit.asked (deed_call m.deed m.name) (deed_told m.deed came) m.visit sent turn came old next t.visit after others refl one live t.step)
name-takes (machines.Stat m) sent turn came old next new after others live one t =
    name-as next (machines.Stat t.machine) new t.machine_is (stat-took m.asked m sent turn came old next t.machine after others refl one live t.step)
name-takes (machines.Access m) sent turn came old next new after others live one t =
    name-as next (steps.access_with m t.visit) new t.machine_is
    (show-live m.visit.asked (access_call m.bits) (access_attr came) (access_told came) m.visit sent turn came old next t.visit after others refl one live t.step)
name-takes (machines.ReadLink m) sent turn came old next new after others live one t =
    name-as next (steps.read_link_with m t.visit) new t.machine_is (text-live m.visit.asked m.visit sent turn came old next t.visit after others refl one live t.step)
name-takes (machines.Remove m) sent turn came old next new after others live one t =
    name-as next (machines.Remove t.machine) new t.machine_is (removal-takes m.deed m sent turn came old next t.machine after others refl one live t.step)
name-takes (machines.Rename m) sent turn came old next new after others live one t =
    name-as next (steps.rename_with m t.pair) new t.machine_is (rename-live m.pair.asked m sent turn came old next t.pair after others refl one live t.step)
name-takes (machines.Link m) sent turn came old next new after others live one t =
    name-as next (steps.link_with m t.pair) new t.machine_is (link-live m.pair.asked m sent turn came old next t.pair after others refl one live t.step)
name-takes (machines.SymLink m) sent turn came old next new after others live one t =
    name-as next (steps.sym_link_with m t.visit) new t.machine_is (sym-live m.visit.asked m sent turn came old next t.visit after others refl one live t.step)
name-takes (machines.List m) sent turn came old next new after others live one t =
    name-as next (machines.List t.machine) new t.machine_is (list-took m.visit.asked m sent turn came old next t.machine after others refl one live t.step)

-- where none of its calls waits it goes on, if there is room
pub name-on : (m : NameMachine) (turn : Turn) (old : Shelf) (next : Step) (new : NameMachine) (after : Shelf) → NameLive m → of_names m ≡ 0 → turn.room ≡ true
    → steps.NameGoes m turn old next new after → GoesOn next
name-on (machines.Change m) turn old next new after live none room g =
    on-as (visiting.next_by (deed_call m.deed m.name) (visiting.visit_next m.visit turn old)) next g.next_is (on-by (deed_call m.deed m.name) (visiting.visit_next m.visit turn old) (visit-on m.visit turn old live none room))
name-on (machines.Stat m) turn old next new after live none room g =
    on-as (stats.stat_next m turn old) next g.next_is (stat-on m.asked m turn old refl live none room)
name-on (machines.Access m) turn old next new after live none room g =
    on-as (visiting.next_by (access_call m.bits) (visiting.visit_next m.visit turn old)) next g.next_is (on-by (access_call m.bits) (visiting.visit_next m.visit turn old) (visit-on m.visit turn old live none room))
name-on (machines.ReadLink m) turn old next new after live none room g =
    on-as (visiting.next_by text_call (visiting.visit_next m.visit turn old)) next g.next_is (on-by text_call (visiting.visit_next m.visit turn old) (visit-on m.visit turn old live none room))
name-on (machines.Remove m) turn old next new after live none room g = removal-on m.asked m turn old next g.machine after refl live none room g.step
name-on (machines.Rename m) turn old next new after live none room g =
    on-as (pairs.next_by (rename_call m.from m.to) (pairs.pair_next m.pair turn old)) next g.next_is
    (on-pair (rename_call m.from m.to) (pairs.pair_next m.pair turn old) (pair-on m.pair.asked m.pair.second.asked m.pair turn old refl refl live none room))
name-on (machines.Link m) turn old next new after live none room g =
    on-as (pairs.next_by (link_call m.name) (pairs.pair_next m.pair turn old)) next g.next_is
    (on-pair (link_call m.name) (pairs.pair_next m.pair turn old) (pair-on m.pair.asked m.pair.second.asked m.pair turn old refl refl live none room))
name-on (machines.SymLink m) turn old next new after live none room g =
    on-copy (sym_link_call m.name m.target) (visiting.visit_next m.visit turn old) next (visit-on m.visit turn old live none room) g.next_is
name-on (machines.List m) turn old next new after live none room g =
    on-as (visiting.next_by (listing.page_call m.place) (visiting.visit_next m.visit turn old)) next g.next_is (on-by (listing.page_call m.place) (visiting.visit_next m.visit turn old) (visit-on m.visit turn old live none room))
