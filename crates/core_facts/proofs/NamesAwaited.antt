-- For which call each operation on names waits, and that its steps keep to it.
use Rattle.core_facts.proofs.Prelude.{◌≡◌, ◌<◌, ◌≤◌, ◌+◌, ◌-◌, ◌⊎◌, inl, inr, ℕ, Bool, true, false, List, Option, Some, None, Result, Ok, Err, refl, sym, ap, subst, ◌∙◌, arith, if◌then◌else◌, Attr, ListStep, More, End, ListFault, Opens, plan_of, Answer, Fault, Value, Call, Reply, Step, Shelf, Turn, Link, ListDir, Pair, PairStep, Deed, Look, Seek, Move, RemoveFile, Rename, Stat, SymLink, Told, Visit, VisitStep, Walk, WalkStep, access_call, deed_call, link_call, linked_told, TakesLink, found_by, look_again, moved_told, text_call, TakesText, rename_call, TakesRename, shown_answer, TakesShow, sym_link_call, sym_linked_told, CopiesBy, ChangesByCopy, TakesSymLink, lacking, NameMachine, one_if, of_walk, of_visit, of_pair, of_stat, of_names}
use Rattle.name_ops.specs.declared.remove_file.Deed.TheVariants.{Remove}
use Rattle.core_facts.specs.InFlight.{own_or, of_removal, removal_by}
use Rattle.attr_cache.specs.Attrs as attrs
use Rattle.dir_list.specs.Listings.{page_step}
use Rattle.world_model.specs.declared.answer.Answer.TheVariants as answers
use Rattle.world_model.specs.declared.answer.Fault.TheVariants as faults
use Rattle.world_model.specs.declared.answer.Value.TheVariants as values
use Rattle.client_shelf.specs.declared.step.Step.TheVariants as nexts
use Rattle.name_ops.specs.declared.pair.PairStep.TheVariants as two
use Rattle.name_ops.specs.declared.visit.VisitStep.TheVariants as visits
use Rattle.name_ops.specs.declared.walk.WalkStep.TheVariants as walks
use Rattle.name_ops.specs.Changing as changing
use Rattle.name_ops.specs.ListDir as listing
use Rattle.name_ops.specs.Pairs as pairs
use Rattle.name_ops.specs.RemoveFile as removals
use Rattle.name_ops.specs.Stat as stats
use Rattle.name_ops.specs.Visiting as visiting
use Rattle.name_ops.specs.Walking as walking
use Rattle.op_machines.specs.declared.name_machine.NameMachine.TheVariants as machines
use Rattle.op_machines.specs.NameSteps as steps
use Rattle.core_facts.proofs.Awaited.{WalkAwaits, WalkMoves, go-step, took-step, walk-rests, one-walk, OwnOr, own-true, VisitAwaits, VisitMoves, visit-step, visit-took-step, visit-rests, one-visit, PairAwaits, pair-own, PairMoves, pair-step, pair-took-step, one-pair, pair-rests}
use Rattle.core_facts.proofs.Steps.{KeptOf}

-- a removal waits for the call of its deed, or for that of its walk
abbrev pub RemoveAwaits : Option Deed → RemoveFile → Call → Type 0
RemoveAwaits (Some deed) m call = call ≡ removals.call_of m deed
RemoveAwaits None m call = WalkAwaits m.walk call

abbrev pub NameAwaits : NameMachine → Call → Type 0
NameAwaits (machines.Change m) call = VisitAwaits (deed_call m.deed m.name) m.visit call
NameAwaits (machines.Stat m) call = OwnOr m.asked stats.get_attr m.walk call
NameAwaits (machines.Access m) call = VisitAwaits (access_call m.bits) m.visit call
NameAwaits (machines.ReadLink m) call = VisitAwaits text_call m.visit call
NameAwaits (machines.Remove m) call = RemoveAwaits m.deed m call
NameAwaits (machines.Rename m) call = PairAwaits (rename_call m.from m.to) m.pair call
NameAwaits (machines.Link m) call = PairAwaits (link_call m.name) m.pair call
NameAwaits (machines.SymLink m) call = VisitAwaits (sym_link_call m.name m.target) m.visit call
NameAwaits (machines.List m) call = VisitAwaits (listing.page_call m.place) m.visit call

-- ---- one call at most

one-own : (b : Bool) (n : ℕ) → n ≤ 1 → own_or b n ≤ 1
one-own true n few = omega arith
one-own false n few = few

one-bool : (b : Bool) → one_if b ≤ 1
one-bool true = omega arith
one-bool false = omega arith

one-removal : (deed : Option Deed) (b : Bool) (n : ℕ) → n ≤ 1 → removal_by deed b n ≤ 1
one-removal None b n few = few
one-removal (Some deed) b n few = one-bool b

pub one-name : (m : NameMachine) → of_names m ≤ 1
one-name (machines.Change m) = one-visit m.visit
one-name (machines.Stat m) = one-own m.asked (of_walk m.walk) (one-walk m.walk)
one-name (machines.Access m) = one-visit m.visit
one-name (machines.ReadLink m) = one-visit m.visit
one-name (machines.Remove m) = one-removal m.deed m.asked (of_walk m.walk) (one-walk m.walk)
one-name (machines.Rename m) = one-pair m.pair
one-name (machines.Link m) = one-pair m.pair
one-name (machines.SymLink m) = one-visit m.visit
one-name (machines.List m) = one-visit m.visit

-- so none is left where one came
pub none-left : {S : Type 0} → (E : S → Call → Type 0) (others before : ℕ) (old : S) (next : Step) (new : S) → before ≤ 1 → before ≡ others + 1 → KeptOf E others old next new
none-left E others before old (nexts.Send call) new few one = λ some. absurd (omega (arith, few, one, some))
none-left E others before old nexts.Wait new few one = λ some. absurd (omega (arith, few, one, some))
none-left E others before old (nexts.Done answer) new few one = tt

pub rests-kept : {S : Type 0} → (E : S → Call → Type 0) (others : ℕ) (old : S) (next : Step) (new : S) → (others ≡ 0) ⊎ (new ≡ old) → KeptOf E others old next new
rests-kept E others old (nexts.Send call) new (inl none) = λ some. absurd (omega (arith, none, some))
rests-kept E others old nexts.Wait new (inl none) = λ some. absurd (omega (arith, none, some))
rests-kept E others old (nexts.Done answer) new w = tt
rests-kept {S} E others old (nexts.Send call) new (inr same) = λ some c e. subst (λ (s : S). E s c) (sym same) e
rests-kept {S} E others old nexts.Wait new (inr same) = λ some c e. subst (λ (s : S). E s c) (sym same) e

-- ---- what is asked for

-- the call that a step asks for, if it is this one
abbrev pub Sends : Step → (Call → Type 0) → Type 0
Sends (nexts.Send call) A = A call
Sends nexts.Wait A = Unit {0}
Sends (nexts.Done answer) A = Unit {0}

pub sends-as : (to next : Step) (A : Call → Type 0) → next ≡ to → Sends to A → Sends next A
sends-as to next A is s = subst (λ (n : Step). Sends n A) (sym is) s

again-sends : (again : Bool) (call : Call) (answer : Answer) (next : Step) (A : Call → Type 0) → next ≡ (if again then nexts.Send call else nexts.Done answer) → A call → Sends next A
again-sends true call answer next A is a = sends-as (nexts.Send call) next A is a
again-sends false call answer next A is a = sends-as (nexts.Done answer) next A is tt

visit-by : (own : List ℕ → Call) (step : VisitStep) (new : Visit) → VisitMoves own step new → Sends (visiting.next_by own step) (VisitAwaits own new)
visit-by own (visits.Look call) new s = s
visit-by own visits.Wait new s = tt
visit-by own (visits.Ask object) new s = own-true new.asked own new.walk (own object) s.0 (ap own s.1)
visit-by own (visits.Refused fault) new s = tt

visit-sends : (own : List ℕ → Call) (v : Visit) (turn : Turn) (shelf : Shelf) (next : Step) → next ≡ visiting.next_by own (visiting.visit_next v turn shelf)
    → Sends next (VisitAwaits own (visiting.visit_after v turn shelf))
visit-sends own v turn shelf next is = sends-as _ next (VisitAwaits own (visiting.visit_after v turn shelf)) is
    (visit-by own (visiting.visit_next v turn shelf) (visiting.visit_after v turn shelf) (visit-step own v turn shelf))

walks-send : (own : List ℕ → Call) (v : Visit) (sent turn : Turn) (came : Result Reply Fault) (old : Shelf) (next : Step) (new : Visit) (after : Shelf) → v.asked ≡ false
    → visiting.Walks own v sent turn came old next new after → Sends next (VisitAwaits own new)
walks-send own v sent turn came old next new after idle w =
    sends-as _ next (VisitAwaits own new) w.next_is (visit-by own w.step new (visit-took-step own v sent turn came old w.step new after idle w.takes))

-- it stays as it was, with its own call
own-stays : (own : List ℕ → Call) (v new : Visit) → v.asked ≡ true → new ≡ v → VisitAwaits own new (own v.walk.spot.dir)
own-stays own v new is same = own-true new.asked own new.walk (own v.walk.spot.dir) (ap (λ (w : Visit). w.asked) same ∙ is) (ap (λ (w : Visit). own w.walk.spot.dir) (sym same))

change-sends : (asked : Bool) (own : List ℕ → Call) (told : Told) (v : Visit) (sent turn : Turn) (came : Result Reply Fault) (old : Shelf) (next : Step) (new : Visit) (after : Shelf)
    → v.asked ≡ asked → changing.TakesChange asked own told v sent turn came old next new after → Sends next (VisitAwaits own new)
change-sends true own told v sent turn came old next new after is t =
    again-sends _ (own v.walk.spot.dir) (changing.answer_of told.refusal) next (VisitAwaits own new) t.1.next_is (own-stays own v new is t.0)
change-sends false own told v sent turn came old next new after is t = walks-send own v sent turn came old next new after is t

show-sends : (asked : Bool) (own : List ℕ → Call) (attr : Option Attr) (told : Result Value Fault) (v : Visit) (sent turn : Turn) (came : Result Reply Fault) (old : Shelf) (next : Step)
    (new : Visit) (after : Shelf) → v.asked ≡ asked → TakesShow asked own attr told v sent turn came old next new after → Sends next (VisitAwaits own new)
show-sends true own attr told v sent turn came old next new after is t =
    again-sends _ (own v.walk.spot.dir) (shown_answer told) next (VisitAwaits own new) t.1.next_is (own-stays own v new is t.0)
show-sends false own attr told v sent turn came old next new after is t = walks-send own v sent turn came old next new after is t

text-sends : (asked : Bool) (v : Visit) (sent turn : Turn) (came : Result Reply Fault) (old : Shelf) (next : Step) (new : Visit) (after : Shelf)
    → v.asked ≡ asked → TakesText asked v sent turn came old next new after → Sends next (VisitAwaits text_call new)
text-sends true v sent turn came old next new after is t =
    again-sends _ (text_call v.walk.spot.dir) (shown_answer t.1.told) next (VisitAwaits text_call new) t.1.shows.next_is (own-stays text_call v new is t.0)
text-sends false v sent turn came old next new after is t = walks-send text_call v sent turn came old next new after is t

copies-by : (own : List ℕ → Call) (step : VisitStep) (new : Visit) (next : Step) → VisitMoves own step new → CopiesBy own step next → Sends next (VisitAwaits own new)
copies-by own (visits.Look look) new next s c = sends-as (nexts.Send look) next (VisitAwaits own new) c s
copies-by own visits.Wait new next s c = sends-as nexts.Wait next (VisitAwaits own new) c tt
copies-by own (visits.Ask dir) new next s (inl c) = sends-as (nexts.Send (own dir)) next (VisitAwaits own new) c (own-true new.asked own new.walk (own dir) s.0 (ap own s.1))
copies-by own (visits.Ask dir) new next s (inr c) = sends-as (nexts.Done (answers.Refused faults.Memory)) next (VisitAwaits own new) c tt
copies-by own (visits.Refused fault) new next s c = sends-as (nexts.Done (answers.Refused fault)) next (VisitAwaits own new) c tt

sym-sends : (asked : Bool) (m : SymLink) (sent turn : Turn) (came : Result Reply Fault) (old : Shelf) (next : Step) (new : Visit) (after : Shelf)
    → m.visit.asked ≡ asked → TakesSymLink asked m sent turn came old next new after → Sends next (VisitAwaits (sym_link_call m.name m.target) new)
sym-sends true m sent turn came old next new after is t = by t.1
  where
    own : List ℕ → Call
    own = sym_link_call m.name m.target

    changes : (told : Told) → changing.Changes m.visit.walk.spot.dir (own m.visit.walk.spot.dir) told sent turn old next after → Sends next (VisitAwaits own new)
    changes told c = again-sends _ (own m.visit.walk.spot.dir) (changing.answer_of told.refusal) next (VisitAwaits own new) c.next_is (own-stays own m.visit new is t.0)

    by : ChangesByCopy m.visit.walk.spot.dir (own m.visit.walk.spot.dir) (sym_linked_told came) sent turn old next after → Sends next (VisitAwaits own new)
    by (inl c) = changes (sym_linked_told came) c
    by (inr c) = changes (lacking (sym_linked_told came)) c.1
sym-sends false m sent turn came old next new after is t =
    copies-by (sym_link_call m.name m.target) t.step new next (visit-took-step (sym_link_call m.name m.target) m.visit sent turn came old t.step new after is t.takes) t.next_is

-- ---- attributes

abbrev StatAwaits : Stat → Call → Type 0
StatAwaits m call = OwnOr m.asked stats.get_attr m.walk call

ask-stat : (known : Option Attr) (object : List ℕ) (room : Bool) (m : Stat) → object ≡ m.walk.spot.dir → Sends (stats.ask_next known object room) (StatAwaits (stats.ask_after known room m))
ask-stat (Some attr) object room m is = tt
ask-stat None object true m is = ap stats.get_attr is
ask-stat None object false m is = tt

follow-stat : (step : WalkStep) (turn : Turn) (known : attrs.Attrs) (m : Stat) → m.asked ≡ false → WalkMoves step m.walk
    → Sends (stats.follow_next step turn known) (StatAwaits (stats.follow_after step turn known m))
follow-stat (walks.Send call) turn known m idle s = subst (λ (b : Bool). OwnOr b stats.get_attr m.walk call) (sym idle) s.0
follow-stat walks.Wait turn known m idle s = tt
follow-stat (walks.At object) turn known m idle s = ask-stat (attrs.looked object turn.now known) object turn.room m s.0
follow-stat (walks.Refused fault) turn known m idle s = tt

stat-if : (b : Bool) (m : Stat) (turn : Turn) (shelf : Shelf) → m.asked ≡ b
    → Sends (if b then nexts.Wait else stats.follow_next (walking.go_next m.walk turn shelf) turn shelf.attrs)
    (StatAwaits (if b then m else stats.follow_after (walking.go_next m.walk turn shelf) turn shelf.attrs (record m { walk = walking.go_after m.walk turn shelf })))
stat-if true m turn shelf is = tt
stat-if false m turn shelf is =
    follow-stat (walking.go_next m.walk turn shelf) turn shelf.attrs (record m { walk = walking.go_after m.walk turn shelf }) is (go-step m.walk turn shelf)

stat-took : (asked : Bool) (m : Stat) (sent turn : Turn) (came : Result Reply Fault) (old : Shelf) (next : Step) (new : Stat) (after : Shelf)
    → m.asked ≡ asked → stats.StatTakes asked m sent turn came old next new after → Sends next (StatAwaits new)
stat-took true m sent turn came old next new after is t =
    again-sends _ (stats.get_attr m.walk.spot.dir) (shown_answer (stats.got_told came)) next (StatAwaits new) t.1.next_is
    (own-true new.asked stats.get_attr new.walk (stats.get_attr m.walk.spot.dir) (ap (λ (n : Stat). n.asked) t.0 ∙ is) (ap (λ (n : Stat). stats.get_attr n.walk.spot.dir) (sym t.0)))
stat-took false m sent turn came old next new after is t =
    let still : t.walked.asked ≡ false = ap (λ (w : Stat). w.asked) t.walked_is ∙ is in
    sends-as _ next (StatAwaits new) t.next_is
    (subst (λ (n : Stat). Sends (stats.follow_next t.step turn after.attrs) (StatAwaits n)) (sym t.machine_is)
    (follow-stat t.step turn after.attrs t.walked still (took-step m.walk sent turn came old t.step t.walked.walk after t.takes)))

stat-rests : (m : Stat) (turn : Turn) (shelf : Shelf) → (of_stat m ≡ 0) ⊎ (stats.stat_after m turn shelf ≡ m)
stat-rests m turn shelf = by m.asked refl (walk-rests m.walk turn shelf)
  where
    to : (b : Bool) → Stat
    to b = if b then m else stats.follow_after (walking.go_next m.walk turn shelf) turn shelf.attrs (record m { walk = walking.go_after m.walk turn shelf })

    by : (b : Bool) → m.asked ≡ b → (of_walk m.walk ≡ 0) ⊎ ((walking.go_next m.walk turn shelf ≡ walks.Wait) × (walking.go_after m.walk turn shelf ≡ m.walk))
        → (of_stat m ≡ 0) ⊎ (stats.stat_after m turn shelf ≡ m)
    by true is w = inr (ap to is)
    by false is (inl none) = inl (ap (λ (b : Bool). own_or b (of_walk m.walk)) is ∙ none)
    by false is (inr w) = inr (
        ap to is
        ∙ ap (λ (n : WalkStep). stats.follow_after n turn shelf.attrs (record m { walk = walking.go_after m.walk turn shelf })) w.0
        ∙ ap (λ (k : Walk). record m { walk = k }) w.1
        )

-- ---- listings

abbrev ListAwaits : ListDir → Call → Type 0
ListAwaits m call = VisitAwaits (listing.page_call m.place) m.visit call

more-pages : (room : Bool) (place : _) (m : ListDir) → Sends (listing.more_next place room m) (ListAwaits (listing.more_after place room m))
more-pages true place m = refl
more-pages false place m = tt

list-goes : (step : ListStep) (room : Bool) (m : ListDir) (next : Step) (new : ListDir) → listing.GoesOn step room m next new → Sends next (ListAwaits new)
list-goes (More cookie verf) room m next new g =
    sends-as _ next (ListAwaits new) g.0
    (subst (λ (n : ListDir). Sends (listing.more_next (record { cookie = cookie; verf = verf }) room m) (ListAwaits n)) (sym g.1) (more-pages room (record { cookie = cookie; verf = verf }) m))
list-goes End room m next new g = sends-as (nexts.Done (answers.Done (values.Names g.names))) next (ListAwaits new) g.next_is tt

list-step : (step : Result ListStep ListFault) (heard : _) (room : Bool) (m : ListDir) (next : Step) (new : ListDir) → listing.TakesStep step heard room m next new → Sends next (ListAwaits new)
list-step (Ok step) heard room m next new t = list-goes step room _ next new t
list-step (Err fault) heard room m next new t = sends-as _ next (ListAwaits new) t.0 tt

list-page : (heard : _) (room : Bool) (m : ListDir) (next : Step) (new : ListDir) → listing.TakesPage heard room m next new → Sends next (ListAwaits new)
list-page heard room m next new (inl t) = sends-as (nexts.Done (answers.Refused faults.Memory)) next (ListAwaits new) t.0 tt
list-page heard room m next new (inr t) = list-step (page_step m.listing heard.page heard.verf heard.eof) heard room m next new t

list-follows : (told : Result _ Fault) (again room : Bool) (m : ListDir) (next : Step) (new : ListDir) → m.visit.asked ≡ true → listing.Follows told again room m next new
    → Sends next (ListAwaits new)
list-follows (Ok heard) again room m next new is f = list-page heard room m next new f
list-follows (Err fault) again room m next new is f =
    again-sends again (listing.page_call m.place m.visit.walk.spot.dir) (answers.Refused fault) next (ListAwaits new) f.0
    (subst (λ (n : ListDir). ListAwaits n (listing.page_call m.place m.visit.walk.spot.dir)) (sym f.1) (own-stays (listing.page_call m.place) m.visit m.visit is refl))

list-took : (asked : Bool) (m : ListDir) (sent turn : Turn) (came : Result Reply Fault) (old : Shelf) (next : Step) (new : ListDir) (after : Shelf)
    → m.visit.asked ≡ asked → listing.TakesList asked m sent turn came old next new after → Sends next (ListAwaits new)
list-took true m sent turn came old next new after is t = list-follows (listing.page_heard came) _ turn.room m next new is t.follows
list-took false m sent turn came old next new after is t =
    subst (λ (n : ListDir). Sends next (ListAwaits n)) (sym t.machine_is) (walks-send (listing.page_call m.place) m.visit sent turn came old next t.visit after is t.walks)

-- ---- two walks

pair-by : (own : List ℕ → List ℕ → Call) (step : PairStep) (new : Pair) → PairMoves own step new → Sends (pairs.next_by own step) (PairAwaits own new)
pair-by own (two.Look call) new s = s
pair-by own two.Wait new s = tt
pair-by own (two.Ask a b) new s = pair-own own new (own a b) s.0 (ap (λ (d : List ℕ). own d b) s.1 ∙ ap (own new.first.spot.dir) s.2)
pair-by own (two.Refused fault) new s = tt

pair-sends : (own : List ℕ → List ℕ → Call) (p : Pair) (turn : Turn) (shelf : Shelf) (next : Step) → next ≡ pairs.next_by own (pairs.pair_next p turn shelf)
    → Sends next (PairAwaits own (pairs.pair_after p turn shelf))
pair-sends own p turn shelf next is = sends-as _ next (PairAwaits own (pairs.pair_after p turn shelf)) is
    (pair-by own (pairs.pair_next p turn shelf) (pairs.pair_after p turn shelf) (pair-step own p turn shelf))

pair-walks : (own : List ℕ → List ℕ → Call) (p : Pair) (sent turn : Turn) (came : Result Reply Fault) (old : Shelf) (next : Step) (new : Pair) (after : Shelf) → p.asked ≡ false
    → pairs.Walks own p sent turn came old next new after → Sends next (PairAwaits own new)
pair-walks own p sent turn came old next new after idle w =
    sends-as _ next (PairAwaits own new) w.next_is (pair-by own w.step new (pair-took-step own p.first.asked p sent turn came old w.step new after idle refl w.takes))

pair-stays : (own : List ℕ → List ℕ → Call) (p new : Pair) → p.asked ≡ true → new ≡ p → PairAwaits own new (own p.first.spot.dir p.second.spot.dir)
pair-stays own p new is same = pair-own own new (own p.first.spot.dir p.second.spot.dir) (ap (λ (q : Pair). q.asked) same ∙ is) (ap (λ (q : Pair). own q.first.spot.dir q.second.spot.dir) (sym same))

rename-sends : (asked : Bool) (m : Rename) (sent turn : Turn) (came : Result Reply Fault) (old : Shelf) (next : Step) (new : Pair) (after : Shelf)
    → m.pair.asked ≡ asked → TakesRename asked m sent turn came old next new after → Sends next (PairAwaits (rename_call m.from m.to) new)
rename-sends true m sent turn came old next new after is t =
    again-sends _ (rename_call m.from m.to m.pair.first.spot.dir m.pair.second.spot.dir) (changing.answer_of (moved_told came).refusal) next (PairAwaits (rename_call m.from m.to) new)
    t.1.next_is (pair-stays (rename_call m.from m.to) m.pair new is t.0)
rename-sends false m sent turn came old next new after is t = pair-walks (rename_call m.from m.to) m.pair sent turn came old next new after is t

link-sends : (asked : Bool) (m : Link) (sent turn : Turn) (came : Result Reply Fault) (old : Shelf) (next : Step) (new : Pair) (after : Shelf)
    → m.pair.asked ≡ asked → TakesLink asked m sent turn came old next new after → Sends next (PairAwaits (link_call m.name) new)
link-sends true m sent turn came old next new after is t =
    again-sends _ (link_call m.name m.pair.first.spot.dir m.pair.second.spot.dir) (changing.answer_of (linked_told m.pair.first.spot.dir came).refusal) next
    (PairAwaits (link_call m.name) new) t.1.next_is (pair-stays (link_call m.name) m.pair new is t.0)
link-sends false m sent turn came old next new after is t = pair-walks (link_call m.name) m.pair sent turn came old next new after is t

-- ---- removals

abbrev RemovalAwaits : RemoveFile → Call → Type 0
RemovalAwaits m call = RemoveAwaits m.deed m call

asked-removal : (room : Bool) (deed : Deed) (m : RemoveFile) (next : Step) (new : RemoveFile) → next ≡ removals.asked_next m deed room → new ≡ removals.asked_after m deed room
    → Sends next (RemovalAwaits new)
asked-removal room deed m next new is to =
    sends-as _ next (RemovalAwaits new) is (subst (λ (n : RemoveFile). Sends (removals.asked_next m deed room) (RemovalAwaits n)) (sym to) (by room deed))
  where
    by : (b : Bool) (d : Deed) → Sends (removals.asked_next m d b) (RemovalAwaits (removals.asked_after m d b))
    by false d = tt
    by true Look = refl
    by true (Seek file name) = refl
    by true (Move file name) = refl
    by true Remove = refl

-- the same call is made again
again-removal : (deed : Deed) (m : RemoveFile) (next : Step) (new : RemoveFile) → m.deed ≡ Some deed → next ≡ nexts.Send (removals.call_of m deed) → new ≡ m → Sends next (RemovalAwaits new)
again-removal deed m next new is e same = sends-as (nexts.Send (removals.call_of m deed)) next (RemovalAwaits new) e
    (subst (λ (n : RemoveFile). RemovalAwaits n (removals.call_of m deed)) (sym same) (subst (λ (o : Option Deed). RemoveAwaits o m (removals.call_of m deed)) (sym is) refl))

follows-removal : (step : WalkStep) (room : Bool) (m : RemoveFile) (opens : Opens) (next : Step) (new : RemoveFile) → m.deed ≡ None → WalkMoves step m.walk
    → removals.Follows step room m opens next new → Sends next (RemovalAwaits new)
follows-removal (walks.Send call) room m opens next new none s f = sends-as (nexts.Send call) next (RemovalAwaits new) f.0
    (subst (λ (n : RemoveFile). RemovalAwaits n call) (sym f.1) (subst (λ (o : Option Deed). RemoveAwaits o m call) (sym none) s.0))
follows-removal walks.Wait room m opens next new none s f = sends-as nexts.Wait next (RemovalAwaits new) f.0 tt
follows-removal (walks.At dir) room m opens next new none s f = asked-removal room (removals.first_deed f.any) m next new f.next_is f.machine_is
follows-removal (walks.Refused fault) room m opens next new none s f = sends-as (nexts.Done (answers.Refused fault)) next (RemovalAwaits new) f.0 tt

goes-removal : (deed : Option Deed) (m : RemoveFile) (turn : Turn) (old : Shelf) (next : Step) (new : RemoveFile) (after : Shelf) → m.deed ≡ deed
    → removals.Goes deed m turn old next new after → Sends next (RemovalAwaits new)
goes-removal (Some deed) m turn old next new after is g = asked-removal turn.room deed m next new g.next_is g.machine_is
goes-removal None m turn old next new after is g =
    follows-removal (walking.go_next m.walk turn old) turn.room (record m { walk = walking.go_after m.walk turn old }) old.opens next new is (go-step m.walk turn old) g.follows

resumes-removal : (asked : Bool) (m : RemoveFile) (turn : Turn) (old : Shelf) (next : Step) (new : RemoveFile) (after : Shelf) → removals.Resumes asked m turn old next new after
    → Sends next (RemovalAwaits new)
resumes-removal true m turn old next new after r = sends-as nexts.Wait next (RemovalAwaits new) r.next_is tt
resumes-removal false m turn old next new after r = goes-removal m.deed m turn old next new after refl r

plans-removal : (is_open : Bool) (file : List ℕ) (m : RemoveFile) (room : Bool) (old : Shelf) (next : Step) (new : RemoveFile) (after : Shelf)
    → removals.Plans is_open file m room old next new after → Sends next (RemovalAwaits new)
plans-removal is_open file m room old next new after p = asked-removal room (removals.deed_of file (plan_of is_open old.counter)) m next new p.next_is p.machine_is

look-removal : (again : Bool) (told : Result (List ℕ) Fault) (m : RemoveFile) (room : Bool) (old : Shelf) (next : Step) (new : RemoveFile) (after : Shelf) → m.deed ≡ Some Look
    → removals.FollowsLook again told m room old next new after → Sends next (RemovalAwaits new)
look-removal true told m room old next new after is f = again-removal Look m next new is f.next_is f.machine_is
look-removal false (Ok file) m room old next new after is f = plans-removal f.is_open file m room old next new after f.plans
look-removal false (Err fault) m room old next new after is f = sends-as (nexts.Done (answers.Refused fault)) next (RemovalAwaits new) f.next_is tt

missed-removal : (missing : Bool) (fault : Fault) (file to : List ℕ) (m : RemoveFile) (room : Bool) (next : Step) (new : RemoveFile)
    → next ≡ removals.missed_next missing fault file to m room → new ≡ removals.missed_after missing file to m room → Sends next (RemovalAwaits new)
missed-removal true fault file to m room next new is at = asked-removal room (Move file to) m next new is at
missed-removal false fault file to m room next new is at = sends-as (nexts.Done (answers.Refused fault)) next (RemovalAwaits new) is tt

seek-removal : (again : Bool) (told : Result (List ℕ) Fault) (file to : List ℕ) (m : RemoveFile) (room : Bool) (old : Shelf) (next : Step) (new : RemoveFile) (after : Shelf)
    → m.deed ≡ Some (Seek file to) → removals.FollowsSeek again told file to m room old next new after → Sends next (RemovalAwaits new)
seek-removal true told file to m room old next new after is f = again-removal (Seek file to) m next new is f.next_is f.machine_is
seek-removal false (Ok found) file to m room old next new after is f = plans-removal true file m room old next new after f
seek-removal false (Err fault) file to m room old next new after is f = missed-removal (removals.is_missing fault) fault file to m room next new f.next_is f.machine_is

move-removal : (again : Bool) (refusal : Option Fault) (file to : List ℕ) (m : RemoveFile) (old : removals.Places) (next : Step) (later : removals.Places) (new : RemoveFile)
    → m.deed ≡ Some (Move file to) → new ≡ m → removals.EndsMove again refusal file to m old next later → Sends next (RemovalAwaits new)
move-removal true refusal file to m old next later new is same e = again-removal (Move file to) m next new is e.0 same
move-removal false None file to m old next later new is same (inl e) = sends-as (nexts.Done (answers.Done values.Nothing)) next (RemovalAwaits new) e.0 tt
move-removal false None file to m old next later new is same (inr e) = sends-as (nexts.Done (answers.Refused faults.Memory)) next (RemovalAwaits new) e.0 tt
move-removal false (Some fault) file to m old next later new is same e = sends-as (nexts.Done (answers.Refused fault)) next (RemovalAwaits new) e.0 tt

deed-removal : (deed : Deed) (m : RemoveFile) (sent turn : Turn) (came : Result Reply Fault) (old : Shelf) (next : Step) (new : RemoveFile) (after : Shelf) → m.deed ≡ Some deed
    → removals.TakesDeed deed m sent turn came old next new after → Sends next (RemovalAwaits new)
deed-removal Look m sent turn came old next new after is t = look-removal (look_again sent turn came old) (found_by came) m turn.room t.heard next new after is t.follows
deed-removal (Seek file to) m sent turn came old next new after is t = seek-removal (look_again sent turn came old) (found_by came) file to m turn.room t.heard next new after is t.follows
deed-removal (Move file to) m sent turn came old next new after is t =
    move-removal (removals.move_again sent turn came old) (moved_told came).refusal file to m old.silly next after.silly new is t.0 t.1.ends
deed-removal Remove m sent turn came old next new after is t =
    again-sends _ (removals.call_of m Remove) (changing.answer_of (removals.removed_told came).refusal) next (RemovalAwaits new) t.1.next_is
    (subst (λ (n : RemoveFile). RemovalAwaits n (removals.call_of m Remove)) (sym t.0) (subst (λ (o : Option Deed). RemoveAwaits o m (removals.call_of m Remove)) (sym is) refl))

removal-took : (deed : Option Deed) (m : RemoveFile) (sent turn : Turn) (came : Result Reply Fault) (old : Shelf) (next : Step) (new : RemoveFile) (after : Shelf) → m.deed ≡ deed
    → removals.Takes deed m sent turn came old next new after → Sends next (RemovalAwaits new)
removal-took (Some deed) m sent turn came old next new after is t = by m.asked t
  where
    by : (asked : Bool) → removals.TakesIf asked deed m sent turn came old next new after → Sends next (RemovalAwaits new)
    by true d = deed-removal deed m sent turn came old next new after is d
    by false d = sends-as nexts.Wait next (RemovalAwaits new) d.next_is tt
removal-took None m sent turn came old next new after is t =
    let none : t.walked.deed ≡ None = ap (λ (w : RemoveFile). w.deed) t.walked_is ∙ is in
    follows-removal t.step turn.room t.walked after.opens next new none (took-step m.walk sent turn came old t.step t.walked.walk after t.takes) t.follows

-- a step before which one of its calls waits leaves it as it is
removal-rests : (m : RemoveFile) (turn : Turn) (old : Shelf) (next : Step) (new : RemoveFile) (after : Shelf) → removals.Resumes m.asked m turn old next new after → (of_removal m ≡ 0) ⊎ (new ≡ m)
removal-rests m turn old next new after r = by m.asked m.deed refl refl r (walk-rests m.walk turn old)
  where
    count : Option Deed → Bool → ℕ
    count deed asked = removal_by deed asked (of_walk m.walk)

    by : (asked : Bool) (deed : Option Deed) → m.asked ≡ asked → m.deed ≡ deed → removals.Resumes asked m turn old next new after
        → (of_walk m.walk ≡ 0) ⊎ ((walking.go_next m.walk turn old ≡ walks.Wait) × (walking.go_after m.walk turn old ≡ m.walk)) → (of_removal m ≡ 0) ⊎ (new ≡ m)
    by true deed is at k w = inr k.machine_is
    by false (Some deed) is at k w = inl (ap (λ (b : Bool). count m.deed b) is ∙ ap (λ (o : Option Deed). count o false) at)
    by false None is at k (inl none) = inl (ap (λ (b : Bool). count m.deed b) is ∙ ap (λ (o : Option Deed). count o false) at ∙ none)
    by false None is at k (inr w) = inr (waited (subst (λ (o : Option Deed). removals.Goes o m turn old next new after) at k))
      where
        waited : removals.WalksOn m turn old next new after → new ≡ m
        waited g =
            let f = subst (λ (n : WalkStep). removals.Follows n turn.room (record m { walk = walking.go_after m.walk turn old }) old.opens next new) w.0 g.follows in
            f.1 ∙ ap (λ (k2 : Walk). record m { walk = k2 }) w.1

-- ---- any operation on names

abbrev NameSends : Step → NameMachine → Type 0
NameSends next new = Sends next (NameAwaits new)

with-as : (next : Step) (new to : NameMachine) → new ≡ to → NameSends next to → NameSends next new
with-as next new to is s = subst (λ (n : NameMachine). NameSends next n) (sym is) s

pub name-goes : (m : NameMachine) (turn : Turn) (old : Shelf) (next : Step) (new : NameMachine) (after : Shelf) → steps.NameGoes m turn old next new after → NameSends next new
name-goes (machines.Change m) turn old next new after g = with-as next new (steps.change_with m _) g.machine_is (visit-sends (deed_call m.deed m.name) m.visit turn old next g.next_is)
name-goes (machines.Stat m) turn old next new after g =
    with-as next new (machines.Stat (stats.stat_after m turn old)) g.machine_is (sends-as _ next (StatAwaits (stats.stat_after m turn old)) g.next_is (stat-if m.asked m turn old refl))
name-goes (machines.Access m) turn old next new after g = with-as next new (steps.access_with m _) g.machine_is (visit-sends (access_call m.bits) m.visit turn old next g.next_is)
name-goes (machines.ReadLink m) turn old next new after g = with-as next new (steps.read_link_with m _) g.machine_is (visit-sends text_call m.visit turn old next g.next_is)
name-goes (machines.Remove m) turn old next new after g = with-as next new (machines.Remove g.machine) g.machine_is (resumes-removal m.asked m turn old next g.machine after g.step)
name-goes (machines.Rename m) turn old next new after g = with-as next new (steps.rename_with m _) g.machine_is (pair-sends (rename_call m.from m.to) m.pair turn old next g.next_is)
name-goes (machines.Link m) turn old next new after g = with-as next new (steps.link_with m _) g.machine_is (pair-sends (link_call m.name) m.pair turn old next g.next_is)
name-goes (machines.SymLink m) turn old next new after g =
    with-as next new (steps.sym_link_with m _) g.machine_is
    (copies-by (sym_link_call m.name m.target) (visiting.visit_next m.visit turn old) (visiting.visit_after m.visit turn old) next (visit-step (sym_link_call m.name m.target) m.visit turn old) g.next_is)
name-goes (machines.List m) turn old next new after g = with-as next new (steps.list_with m _) g.machine_is (visit-sends (listing.page_call m.place) m.visit turn old next g.next_is)

pub name-rests : (m : NameMachine) (turn : Turn) (old : Shelf) (next : Step) (new : NameMachine) (after : Shelf) → steps.NameGoes m turn old next new after → (of_names m ≡ 0) ⊎ (new ≡ m)
name-rests (machines.Change m) turn old next new after g = by (visit-rests m.visit turn old)
  where
    by : (of_visit m.visit ≡ 0) ⊎ (visiting.visit_after m.visit turn old ≡ m.visit) → (of_names (machines.Change m) ≡ 0) ⊎ (new ≡ machines.Change m)
    by (inl none) = inl none
    by (inr same) = inr (g.machine_is ∙ ap (steps.change_with m) same)
name-rests (machines.Stat m) turn old next new after g = by (stat-rests m turn old)
  where
    by : (of_stat m ≡ 0) ⊎ (stats.stat_after m turn old ≡ m) → (of_names (machines.Stat m) ≡ 0) ⊎ (new ≡ machines.Stat m)
    by (inl none) = inl none
    by (inr same) = inr (g.machine_is ∙ ap machines.Stat same)
name-rests (machines.Access m) turn old next new after g = by (visit-rests m.visit turn old)
  where
    by : (of_visit m.visit ≡ 0) ⊎ (visiting.visit_after m.visit turn old ≡ m.visit) → (of_names (machines.Access m) ≡ 0) ⊎ (new ≡ machines.Access m)
    by (inl none) = inl none
    by (inr same) = inr (g.machine_is ∙ ap (steps.access_with m) same)
name-rests (machines.ReadLink m) turn old next new after g = by (visit-rests m.visit turn old)
  where
    by : (of_visit m.visit ≡ 0) ⊎ (visiting.visit_after m.visit turn old ≡ m.visit) → (of_names (machines.ReadLink m) ≡ 0) ⊎ (new ≡ machines.ReadLink m)
    by (inl none) = inl none
    by (inr same) = inr (g.machine_is ∙ ap (steps.read_link_with m) same)
name-rests (machines.Remove m) turn old next new after g = by (removal-rests m turn old next g.machine after g.step)
  where
    by : (of_removal m ≡ 0) ⊎ (g.machine ≡ m) → (of_names (machines.Remove m) ≡ 0) ⊎ (new ≡ machines.Remove m)
    by (inl none) = inl none
    by (inr same) = inr (g.machine_is ∙ ap machines.Remove same)
name-rests (machines.Rename m) turn old next new after g = by (pair-rests m.pair turn old)
  where
    by : (of_pair m.pair ≡ 0) ⊎ (pairs.pair_after m.pair turn old ≡ m.pair) → (of_names (machines.Rename m) ≡ 0) ⊎ (new ≡ machines.Rename m)
    by (inl none) = inl none
    by (inr same) = inr (g.machine_is ∙ ap (steps.rename_with m) same)
name-rests (machines.Link m) turn old next new after g = by (pair-rests m.pair turn old)
  where
    by : (of_pair m.pair ≡ 0) ⊎ (pairs.pair_after m.pair turn old ≡ m.pair) → (of_names (machines.Link m) ≡ 0) ⊎ (new ≡ machines.Link m)
    by (inl none) = inl none
    by (inr same) = inr (g.machine_is ∙ ap (steps.link_with m) same)
name-rests (machines.SymLink m) turn old next new after g = by (visit-rests m.visit turn old)
  where
    by : (of_visit m.visit ≡ 0) ⊎ (visiting.visit_after m.visit turn old ≡ m.visit) → (of_names (machines.SymLink m) ≡ 0) ⊎ (new ≡ machines.SymLink m)
    by (inl none) = inl none
    by (inr same) = inr (g.machine_is ∙ ap (steps.sym_link_with m) same)
name-rests (machines.List m) turn old next new after g = by (visit-rests m.visit turn old)
  where
    by : (of_visit m.visit ≡ 0) ⊎ (visiting.visit_after m.visit turn old ≡ m.visit) → (of_names (machines.List m) ≡ 0) ⊎ (new ≡ machines.List m)
    by (inl none) = inl none
    by (inr same) = inr (g.machine_is ∙ ap (steps.list_with m) same)

pub name-takes : (m : NameMachine) (sent turn : Turn) (came : Result Reply Fault) (old : Shelf) (next : Step) (new : NameMachine) (after : Shelf)
    → steps.NameTakes m sent turn came old next new after → NameSends next new
name-takes (machines.Change m) sent turn came old next new after t =
    with-as next new (steps.change_with m t.visit) t.machine_is (change-sends m.visit.asked (deed_call m.deed m.name) _ m.visit sent turn came old next t.visit after refl t.step)
name-takes (machines.Stat m) sent turn came old next new after t =
    with-as next new (machines.Stat t.machine) t.machine_is (stat-took m.asked m sent turn came old next t.machine after refl t.step)
name-takes (machines.Access m) sent turn came old next new after t =
    with-as next new (steps.access_with m t.visit) t.machine_is (show-sends m.visit.asked (access_call m.bits) _ _ m.visit sent turn came old next t.visit after refl t.step)
name-takes (machines.ReadLink m) sent turn came old next new after t =
    with-as next new (steps.read_link_with m t.visit) t.machine_is (text-sends m.visit.asked m.visit sent turn came old next t.visit after refl t.step)
name-takes (machines.Remove m) sent turn came old next new after t =
    with-as next new (machines.Remove t.machine) t.machine_is (removal-took m.deed m sent turn came old next t.machine after refl t.step)
name-takes (machines.Rename m) sent turn came old next new after t =
    with-as next new (steps.rename_with m t.pair) t.machine_is (rename-sends m.pair.asked m sent turn came old next t.pair after refl t.step)
name-takes (machines.Link m) sent turn came old next new after t =
    with-as next new (steps.link_with m t.pair) t.machine_is (link-sends m.pair.asked m sent turn came old next t.pair after refl t.step)
name-takes (machines.SymLink m) sent turn came old next new after t =
    with-as next new (steps.sym_link_with m t.visit) t.machine_is (sym-sends m.visit.asked m sent turn came old next t.visit after refl t.step)
name-takes (machines.List m) sent turn came old next new after t =
    with-as next new (machines.List t.machine) t.machine_is (list-took m.visit.asked m sent turn came old next t.machine after refl t.step)
