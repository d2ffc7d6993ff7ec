-- How many calls of an operation on names wait after each of its steps.
use Rattle.core_facts.proofs.Prelude.{◌≡◌, ◌+◌, ◌-◌, ℕ, Bool, true, false, List, Option, Some, None, Result, Ok, Err, inl, inr, refl, sym, ap, subst, ◌∙◌, arith, if◌then◌else◌, Attr, ListStep, More, End, ListFault, Answer, Fault, Value, Call, Reply, goes_again, Step, Shelf, Turn, ListDir, Stat, SymLink, Told, Visit, VisitStep, Walk, WalkStep, found_by, look_again, text_call, TakesText, shown_answer, TakesShow, sym_link_call, sym_linked_told, CopiesBy, ChangesByCopy, TakesSymLink, lacking, one_if, of_walk, visit_by, of_visit, of_stat}
use Rattle.client_shelf.specs.Busy.{fails_busy}
use Rattle.name_ops.specs.Showing.{Shows}
use Rattle.core_facts.specs.InFlight.{of_name, own_or, Leaves}
use Rattle.attr_cache.specs.Attrs as attrs
use Rattle.dir_list.specs.Listings.{page_step}
use Rattle.world_model.specs.declared.answer.Answer.TheVariants as answers
use Rattle.world_model.specs.declared.answer.Fault.TheVariants as faults
use Rattle.world_model.specs.declared.answer.Value.TheVariants as values
use Rattle.client_shelf.specs.declared.step.Step.TheVariants as nexts
use Rattle.name_ops.specs.declared.list_dir.PageStart.{PageStart}
use Rattle.name_ops.specs.declared.visit.VisitStep.TheVariants as visits
use Rattle.name_ops.specs.declared.walk.WalkStep.TheVariants as walks
use Rattle.name_ops.specs.Changing as changing
use Rattle.name_ops.specs.ListDir as listing
use Rattle.name_ops.specs.Stat as stats
use Rattle.name_ops.specs.Visiting as visiting
use Rattle.name_ops.specs.Walking as walking

-- ---- what a step leads to

pub leaves-as : (to next : Step) (before after : ℕ) (P : Type 0) → next ≡ to → Leaves to before after P → Leaves next before after P
leaves-as to next before after P is c = subst (λ (n : Step). Leaves n before after P) (sym is) c

pub sends-leaves : (call : Call) (next : Step) (before after : ℕ) (P : Type 0) → next ≡ nexts.Send call → after ≡ before + 1 → P → Leaves next before after P
sends-leaves call next before after P is more p = leaves-as (nexts.Send call) next before after P is (more, p)

pub waits-leaves : (next : Step) (before after : ℕ) (P : Type 0) → next ≡ nexts.Wait → after ≡ before → P → Leaves next before after P
waits-leaves next before after P is same p = leaves-as nexts.Wait next before after P is (same, p)

pub done-leaves : (answer : Answer) (next : Step) (before after : ℕ) (P : Type 0) → next ≡ nexts.Done answer → before ≡ 0 → Leaves next before after P
done-leaves answer next before after P is none = leaves-as (nexts.Done answer) next before after P is none

-- the only call of an operation is made again, or its answer is there
pub again-leaves : (again : Bool) (call : Call) (answer : Answer) (next : Step) (others after : ℕ) (P : Type 0) → next ≡ (if again then nexts.Send call else nexts.Done answer)
    → after ≡ others + 1 → others ≡ 0 → P → Leaves next others after P
again-leaves true call answer next others after P is more none p = sends-leaves call next others after P is more p
again-leaves false call answer next others after P is more none p = done-leaves answer next others after P is none

abbrev pub Plain : Step → ℕ → ℕ → Type 0
Plain next before after = Leaves next before after (Unit {0})

pub from-none : (next : Step) (before after : ℕ) (P : Type 0) → before ≡ 0 → Leaves next 0 after P → Leaves next before after P
from-none next before after P none l = subst (λ (n : ℕ). Leaves next n after P) (sym none) l

pub leaves-after : (next : Step) (before after was : ℕ) (P : Type 0) → after ≡ was → Leaves next before was P → Leaves next before after P
leaves-after next before after was P is l = subst (λ (n : ℕ). Leaves next before n P) (sym is) l

pub one-left : (b : Bool) (others : ℕ) → one_if b ≡ others + 1 → others ≡ 0
one-left true others is = omega (arith, is)
one-left false others is = absurd (omega (arith, is))

-- ---- walks

-- What a walk is that goes on from where it waits for nothing.
abbrev pub WalkGoes : WalkStep → Walk → Type 0
WalkGoes (walks.Send call) new = (new.asked ≡ true) × (of_walk new ≡ 1)
WalkGoes walks.Wait new = new.asked ≡ false
WalkGoes (walks.At object) new = new.asked ≡ false
WalkGoes (walks.Refused fault) new = Unit {0}

pub unasked : (w : Walk) → w.asked ≡ false → of_walk w ≡ 0
unasked w is = ap (λ (b : Bool). of_name (if b then walking.next_name w else None)) is

asks-walk : (name : Option (List ℕ)) (room : Bool) (w : Walk) → w.asked ≡ false → walking.next_name w ≡ name → WalkGoes (walking.asks name room w) (walking.asked_after name room w)
asks-walk None room w idle is = idle
asks-walk (Some name) true w idle is = (refl, ap of_name is)
asks-walk (Some name) false w idle is = idle

pub on-walk : (w : Walk) (turn : Turn) (shelf : Shelf) → w.asked ≡ false → WalkGoes (walking.on_next w turn shelf.attrs shelf.names) (walking.on_after w turn shelf.attrs shelf.names)
on-walk w turn shelf idle =
    let there : Walk = walking.walked w turn.now shelf.attrs shelf.names in
    asks-walk (walking.next_name there) turn.room there idle refl

-- and where it waited for no call before
abbrev pub WalkCounts : WalkStep → ℕ → ℕ → Type 0
WalkCounts (walks.Send call) before after = after ≡ before + 1
WalkCounts walks.Wait before after = after ≡ before
WalkCounts (walks.At object) before after = (before ≡ 0) × (after ≡ 0)
WalkCounts (walks.Refused fault) before after = before ≡ 0

pub goes-counts : (next : WalkStep) (new : Walk) (before : ℕ) → before ≡ 0 → WalkGoes next new → WalkCounts next before (of_walk new)
goes-counts (walks.Send call) new before none g = let one = g.1 in omega (arith, one, none)
goes-counts walks.Wait new before none g = unasked new g ∙ sym none
goes-counts (walks.At object) new before none g = (none, unasked new g)
goes-counts (walks.Refused fault) new before none g = none

-- a step that no reply made possible
pub walk-goes : (b : Bool) (w : Walk) (turn : Turn) (shelf : Shelf) → w.asked ≡ b
    → WalkCounts (if b then walks.Wait else walking.on_next w turn shelf.attrs shelf.names) (of_walk w) (of_walk (if b then w else walking.on_after w turn shelf.attrs shelf.names))
walk-goes true w turn shelf is = refl
walk-goes false w turn shelf is =
    goes-counts (walking.on_next w turn shelf.attrs shelf.names) (walking.on_after w turn shelf.attrs shelf.names) (of_walk w) (unasked w is) (on-walk w turn shelf is)

pub walk-counts : (w : Walk) (turn : Turn) (shelf : Shelf) → WalkCounts (walking.go_next w turn shelf) (of_walk w) (of_walk (walking.go_after w turn shelf))
walk-counts w turn shelf = walk-goes w.asked w turn shelf refl

-- the step at a reply
told-walk : (told : Result (List ℕ) Fault) (w : Walk) (turn : Turn) (heard : Shelf) → WalkGoes (walking.told_next w told turn heard) (walking.told_walk w told turn heard)
told-walk (Ok found) w turn heard = on-walk (walking.arrived w found) turn heard refl
told-walk (Err fault) w turn heard = tt

followed-walk : (busy : Bool) (w : Walk) (name : List ℕ) (told : Result (List ℕ) Fault) (turn : Turn) (heard : Shelf) → w.asked ≡ true → of_walk w ≡ 1
    → WalkGoes (walking.followed_next busy w name told turn heard) (walking.followed_walk busy w told turn heard)
followed-walk true w name told turn heard asked one = (asked, one)
followed-walk false w name told turn heard asked one = told-walk told w turn heard

asked-some : (b : Bool) (w : Walk) (name : List ℕ) → (if b then walking.next_name w else None) ≡ Some name → b ≡ true
asked-some true w name is = refl
asked-some false w name is = absurd cc

-- none of its calls waits any more but one that it asks for now
pub record WalkTook (others : ℕ) (next : WalkStep) (new : Walk) : Type 0 where
  pub none : others ≡ 0
  pub goes : WalkGoes next new

takes-name : (name : Option (List ℕ)) (w : Walk) (sent turn : Turn) (came : Result Reply Fault) (old : Shelf) (next : WalkStep) (new : Walk) (after : Shelf) (others : ℕ)
    → walking.waiting_name w ≡ name → of_name name ≡ others + 1 → walking.Takes name w sent turn came old next new after → WalkTook others next new
takes-name None w sent turn came old next new after others waits one t = absurd (omega (arith, one))
takes-name (Some name) w sent turn came old next new after others waits one t = record {
  none = omega (arith, one);
  goes =
      let asked : w.asked ≡ true = asked-some w.asked w name waits in
      let busy : Bool = look_again sent turn came old in
      let here = followed-walk busy w name (found_by came) turn t.heard asked (ap of_name waits) in
      subst (λ (n : WalkStep). WalkGoes n new) (sym t.next_is)
      (subst (λ (v : Walk). WalkGoes (walking.followed_next busy w name (found_by came) turn t.heard) v) (sym t.walk_is) here);
}

pub walk-takes : (w : Walk) (sent turn : Turn) (came : Result Reply Fault) (old : Shelf) (next : WalkStep) (new : Walk) (after : Shelf) (others : ℕ)
    → of_walk w ≡ others + 1 → walking.Takes (walking.waiting_name w) w sent turn came old next new after → WalkTook others next new
walk-takes w sent turn came old next new after others one t = takes-name (walking.waiting_name w) w sent turn came old next new after others refl one t

pub took-counts : (others : ℕ) (next : WalkStep) (new : Walk) → WalkTook others next new → WalkCounts next others (of_walk new)
took-counts others next new t = goes-counts next new others t.none t.goes

-- ---- a walk and a call

abbrev pub VisitCounts : VisitStep → ℕ → ℕ → Type 0
VisitCounts (visits.Look call) before after = after ≡ before + 1
VisitCounts visits.Wait before after = after ≡ before
VisitCounts (visits.Ask object) before after = after ≡ before + 1
VisitCounts (visits.Refused fault) before after = before ≡ 0

visit-walk : (v : Visit) → v.asked ≡ false → of_visit v ≡ of_walk v.walk
visit-walk v is = ap (λ (b : Bool). visit_by b (of_walk v.walk)) is

visit-own : (v : Visit) (others : ℕ) → v.asked ≡ true → of_visit v ≡ others + 1 → others ≡ 0
visit-own v others is one =
    let own : of_visit v ≡ 1 - of_walk v.walk = ap (λ (b : Bool). visit_by b (of_walk v.walk)) is in
    omega (arith, own, one)

follow-visit : (step : WalkStep) (room : Bool) (v : Visit) (before : ℕ) → v.asked ≡ false → WalkCounts step before (of_walk v.walk)
    → VisitCounts (visiting.follow_next step room) before (of_visit (visiting.follow_after step room v))
follow-visit (walks.Send call) room v before idle c = visit-walk v idle ∙ c
follow-visit walks.Wait room v before idle c = visit-walk v idle ∙ c
follow-visit (walks.At object) true v before idle c =
    let none = c.0 in
    let after = c.1 in
    let one : of_visit (record v { asked = true }) ≡ 1 - of_walk v.walk = refl in
    omega (arith, none, after, one)
follow-visit (walks.At object) false v before idle c = visit-walk v idle ∙ c.1 ∙ sym c.0
follow-visit (walks.Refused fault) room v before idle c = c

visit-if : (b : Bool) (v : Visit) (turn : Turn) (shelf : Shelf) → v.asked ≡ b
    → VisitCounts (if b then visits.Wait else visiting.follow_next (walking.go_next v.walk turn shelf) turn.room) (of_visit v)
    (of_visit (if b then v else visiting.follow_after (walking.go_next v.walk turn shelf) turn.room (record v { walk = walking.go_after v.walk turn shelf })))
visit-if true v turn shelf is = refl
visit-if false v turn shelf is =
    let here = follow-visit (walking.go_next v.walk turn shelf) turn.room (record v { walk = walking.go_after v.walk turn shelf }) (of_walk v.walk) is (walk-counts v.walk turn shelf) in
    subst (λ (n : ℕ). VisitCounts (visiting.follow_next (walking.go_next v.walk turn shelf) turn.room) n
    (of_visit (visiting.follow_after (walking.go_next v.walk turn shelf) turn.room (record v { walk = walking.go_after v.walk turn shelf })))) (sym (visit-walk v is)) here

visit-counts : (v : Visit) (turn : Turn) (shelf : Shelf) → VisitCounts (visiting.visit_next v turn shelf) (of_visit v) (of_visit (visiting.visit_after v turn shelf))
visit-counts v turn shelf = visit-if v.asked v turn shelf refl

visit-took : (v : Visit) (sent turn : Turn) (came : Result Reply Fault) (old : Shelf) (next : VisitStep) (new : Visit) (after : Shelf) (others : ℕ)
    → v.asked ≡ false → of_visit v ≡ others + 1 → visiting.VisitTakes v sent turn came old next new after → VisitCounts next others (of_visit new)
visit-took v sent turn came old next new after others idle one t =
    let took = walk-takes v.walk sent turn came old t.step t.walked.walk after others (sym (visit-walk v idle) ∙ one) t.takes in
    let still : t.walked.asked ≡ false = ap (λ (w : Visit). w.asked) t.walked_is ∙ idle in
    let here = follow-visit t.step turn.room t.walked others still (took-counts others t.step t.walked.walk took) in
    subst (λ (n : VisitStep). VisitCounts n others (of_visit new)) (sym t.next_is)
    (subst (λ (w : Visit). VisitCounts (visiting.follow_next t.step turn.room) others (of_visit w)) (sym t.visit_is) here)

next-by : (call : List ℕ → Call) (step : VisitStep) (before after : ℕ) → VisitCounts step before after → Plain (visiting.next_by call step) before after
next-by call (visits.Look look) before after c = (c, tt)
next-by call visits.Wait before after c = (c, tt)
next-by call (visits.Ask object) before after c = (c, tt)
next-by call (visits.Refused fault) before after c = c

pub visit-leaves : (call : List ℕ → Call) (v : Visit) (turn : Turn) (shelf : Shelf) (next : Step) (new : Visit) → next ≡ visiting.next_by call (visiting.visit_next v turn shelf)
    → new ≡ visiting.visit_after v turn shelf → Plain next (of_visit v) (of_visit new)
visit-leaves call v turn shelf next new is state =
    leaves-as (visiting.next_by call (visiting.visit_next v turn shelf)) next (of_visit v) (of_visit new) (Unit {0}) is
    (leaves-after (visiting.next_by call (visiting.visit_next v turn shelf)) (of_visit v) (of_visit new) (of_visit (visiting.visit_after v turn shelf)) (Unit {0}) (ap of_visit state)
    (next-by call (visiting.visit_next v turn shelf) (of_visit v) (of_visit (visiting.visit_after v turn shelf)) (visit-counts v turn shelf)))

walks-leave : (call : List ℕ → Call) (v : Visit) (sent turn : Turn) (came : Result Reply Fault) (old : Shelf) (next : Step) (new : Visit) (after : Shelf) (others : ℕ)
    → v.asked ≡ false → of_visit v ≡ others + 1 → visiting.Walks call v sent turn came old next new after → Plain next others (of_visit new)
walks-leave call v sent turn came old next new after others idle one w =
    leaves-as (visiting.next_by call w.step) next others (of_visit new) (Unit {0}) w.next_is
    (next-by call w.step others (of_visit new) (visit-took v sent turn came old w.step new after others idle one w.takes))

pub change-leaves : (asked : Bool) (call : List ℕ → Call) (told : Told) (v : Visit) (sent turn : Turn) (came : Result Reply Fault) (old : Shelf) (next : Step) (new : Visit)
    (after : Shelf) (others : ℕ) → v.asked ≡ asked → of_visit v ≡ others + 1 → changing.TakesChange asked call told v sent turn came old next new after
    → Plain next others (of_visit new)
change-leaves true call told v sent turn came old next new after others is one t =
    again-leaves (goes_again (changing.told_busy told.refusal) sent turn old.repeats) (call v.walk.spot.dir) (changing.answer_of told.refusal) next others (of_visit new) (Unit {0})
    t.1.next_is (ap of_visit t.0 ∙ one) (visit-own v others is one) tt
change-leaves false call told v sent turn came old next new after others is one t = walks-leave call v sent turn came old next new after others is one t

show-leaves : (object : List ℕ) (attr : Option Attr) (told : Result Value Fault) (call : Call) (sent turn : Turn) (old : Shelf) (next : Step) (after : Shelf) (others later : ℕ)
    → later ≡ others + 1 → others ≡ 0 → Shows object attr told call sent turn old next after → Plain next others later
show-leaves object attr told call sent turn old next after others later one none s =
    again-leaves (goes_again (fails_busy told) sent turn old.repeats) call (shown_answer told) next others later (Unit {0}) s.next_is one none tt

pub access-leaves : (asked : Bool) (call : List ℕ → Call) (attr : Option Attr) (told : Result Value Fault) (v : Visit) (sent turn : Turn) (came : Result Reply Fault) (old : Shelf)
    (next : Step) (new : Visit) (after : Shelf) (others : ℕ) → v.asked ≡ asked → of_visit v ≡ others + 1
    → TakesShow asked call attr told v sent turn came old next new after → Plain next others (of_visit new)
access-leaves true call attr told v sent turn came old next new after others is one t =
    show-leaves v.walk.spot.dir attr told (call v.walk.spot.dir) sent turn old next after others (of_visit new) (ap of_visit t.0 ∙ one) (visit-own v others is one) t.1
access-leaves false call attr told v sent turn came old next new after others is one t = walks-leave call v sent turn came old next new after others is one t

pub text-leaves : (asked : Bool) (v : Visit) (sent turn : Turn) (came : Result Reply Fault) (old : Shelf) (next : Step) (new : Visit) (after : Shelf) (others : ℕ)
    → v.asked ≡ asked → of_visit v ≡ others + 1 → TakesText asked v sent turn came old next new after → Plain next others (of_visit new)
text-leaves true v sent turn came old next new after others is one t =
    show-leaves v.walk.spot.dir _ t.1.told (text_call v.walk.spot.dir) sent turn old next after others (of_visit new) (ap of_visit t.0 ∙ one) (visit-own v others is one) t.1.shows
text-leaves false v sent turn came old next new after others is one t = walks-leave text_call v sent turn came old next new after others is one t

-- ---- a call with a copy

copies-by : (call : List ℕ → Call) (step : VisitStep) (next : Step) (before after : ℕ) → before ≡ 0 → VisitCounts step before after → CopiesBy call step next
    → Plain next before after
copies-by call (visits.Look look) next before after none c e = sends-leaves look next before after (Unit {0}) e c tt
copies-by call visits.Wait next before after none c e = waits-leaves next before after (Unit {0}) e c tt
copies-by call (visits.Ask dir) next before after none c (inl e) = sends-leaves (call dir) next before after (Unit {0}) e c tt
copies-by call (visits.Ask dir) next before after none c (inr e) = done-leaves (answers.Refused faults.Memory) next before after (Unit {0}) e none
copies-by call (visits.Refused fault) next before after none c e = done-leaves (answers.Refused fault) next before after (Unit {0}) e none

-- a step that waits where it did, or asks from where none of its calls waits
copies-if : (b : Bool) (call : List ℕ → Call) (v : Visit) (turn : Turn) (shelf : Shelf) (next : Step) → v.asked ≡ b
    → CopiesBy call (if b then visits.Wait else visiting.follow_next (walking.go_next v.walk turn shelf) turn.room) next
    → Plain next (of_visit v) (of_visit (if b then v else visiting.follow_after (walking.go_next v.walk turn shelf) turn.room (record v { walk = walking.go_after v.walk turn shelf })))
copies-if true call v turn shelf next is e = waits-leaves next (of_visit v) (of_visit v) (Unit {0}) e refl tt
copies-if false call v turn shelf next is e = by v.walk.asked refl (visit-if false v turn shelf is) e
  where
    by : (b : Bool) → v.walk.asked ≡ b
        → VisitCounts (visiting.follow_next (if b then walks.Wait else walking.on_next v.walk turn shelf.attrs shelf.names) turn.room) (of_visit v)
        (of_visit (visiting.follow_after (walking.go_next v.walk turn shelf) turn.room (record v { walk = walking.go_after v.walk turn shelf })))
        → CopiesBy call (visiting.follow_next (if b then walks.Wait else walking.on_next v.walk turn shelf.attrs shelf.names) turn.room) next
        → Plain next (of_visit v) (of_visit (visiting.follow_after (walking.go_next v.walk turn shelf) turn.room (record v { walk = walking.go_after v.walk turn shelf })))
    by true asked c e = waits-leaves next (of_visit v) _ (Unit {0}) e c tt
    by false asked c e = copies-by call (visiting.follow_next (walking.on_next v.walk turn shelf.attrs shelf.names) turn.room) next (of_visit v) _ (visit-walk v is ∙ unasked v.walk asked) c e

pub copy-leaves : (call : List ℕ → Call) (v : Visit) (turn : Turn) (shelf : Shelf) (next : Step) (new : Visit) → CopiesBy call (visiting.visit_next v turn shelf) next
    → new ≡ visiting.visit_after v turn shelf → Plain next (of_visit v) (of_visit new)
copy-leaves call v turn shelf next new e state =
    leaves-after next (of_visit v) (of_visit new) (of_visit (visiting.visit_after v turn shelf)) (Unit {0}) (ap of_visit state) (copies-if v.asked call v turn shelf next refl e)

pub link-text-leaves : (asked : Bool) (m : SymLink) (sent turn : Turn) (came : Result Reply Fault) (old : Shelf) (next : Step) (new : Visit) (after : Shelf) (others : ℕ)
    → m.visit.asked ≡ asked → of_visit m.visit ≡ others + 1 → TakesSymLink asked m sent turn came old next new after → Plain next others (of_visit new)
link-text-leaves true m sent turn came old next new after others is one t = by t.1
  where
    changes : (told : Told) → changing.Changes m.visit.walk.spot.dir (sym_link_call m.name m.target m.visit.walk.spot.dir) told sent turn old next after → Plain next others (of_visit new)
    changes told c =
        again-leaves (goes_again (changing.told_busy told.refusal) sent turn old.repeats) (sym_link_call m.name m.target m.visit.walk.spot.dir) (changing.answer_of told.refusal) next
        others (of_visit new) (Unit {0}) c.next_is (ap of_visit t.0 ∙ one) (visit-own m.visit others is one) tt

    by : ChangesByCopy m.visit.walk.spot.dir (sym_link_call m.name m.target m.visit.walk.spot.dir) (sym_linked_told came) sent turn old next after → Plain next others (of_visit new)
    by (inl c) = changes (sym_linked_told came) c
    by (inr c) = changes (lacking (sym_linked_told came)) c.1
link-text-leaves false m sent turn came old next new after others is one t =
    let took = walk-takes m.visit.walk sent turn came old t.takes.step t.takes.walked.walk after others (sym (visit-walk m.visit is) ∙ one) t.takes.takes in
    copies-by (sym_link_call m.name m.target) t.step next others (of_visit new) took.none (visit-took m.visit sent turn came old t.step new after others is one t.takes) t.next_is

-- ---- attributes

stat-own : (m : Stat) → m.asked ≡ false → of_stat m ≡ of_walk m.walk
stat-own m is = ap (λ (b : Bool). own_or b (of_walk m.walk)) is

ask-stat : (known : Option Attr) (object : List ℕ) (room : Bool) (m : Stat) (before : ℕ) → m.asked ≡ false → before ≡ 0 → of_walk m.walk ≡ 0
    → Plain (stats.ask_next known object room) before (of_stat (stats.ask_after known room m))
ask-stat (Some attr) object room m before idle none after = none
ask-stat None object true m before idle none after = (omega (arith, none), tt)
ask-stat None object false m before idle none after = (stat-own m idle ∙ after ∙ sym none, tt)

follow-stat : (step : WalkStep) (turn : Turn) (known : attrs.Attrs) (m : Stat) (before : ℕ) → m.asked ≡ false → WalkCounts step before (of_walk m.walk)
    → Plain (stats.follow_next step turn known) before (of_stat (stats.follow_after step turn known m))
follow-stat (walks.Send call) turn known m before idle c = (stat-own m idle ∙ c, tt)
follow-stat walks.Wait turn known m before idle c = (stat-own m idle ∙ c, tt)
follow-stat (walks.At object) turn known m before idle c = ask-stat (attrs.looked object turn.now known) object turn.room m before idle c.0 c.1
follow-stat (walks.Refused fault) turn known m before idle c = c

stat-if : (b : Bool) (m : Stat) (turn : Turn) (shelf : Shelf) → m.asked ≡ b
    → Plain (if b then nexts.Wait else stats.follow_next (walking.go_next m.walk turn shelf) turn shelf.attrs) (of_stat m)
    (of_stat (if b then m else stats.follow_after (walking.go_next m.walk turn shelf) turn shelf.attrs (record m { walk = walking.go_after m.walk turn shelf })))
stat-if true m turn shelf is = (refl, tt)
stat-if false m turn shelf is =
    let here = follow-stat (walking.go_next m.walk turn shelf) turn shelf.attrs (record m { walk = walking.go_after m.walk turn shelf }) (of_walk m.walk) is (walk-counts m.walk turn shelf) in
    subst (λ (n : ℕ). Plain (stats.follow_next (walking.go_next m.walk turn shelf) turn shelf.attrs) n
    (of_stat (stats.follow_after (walking.go_next m.walk turn shelf) turn shelf.attrs (record m { walk = walking.go_after m.walk turn shelf })))) (sym (stat-own m is)) here

pub stat-leaves : (m : Stat) (turn : Turn) (shelf : Shelf) → Plain (stats.stat_next m turn shelf) (of_stat m) (of_stat (stats.stat_after m turn shelf))
stat-leaves m turn shelf = stat-if m.asked m turn shelf refl

pub stat-took : (asked : Bool) (m : Stat) (sent turn : Turn) (came : Result Reply Fault) (old : Shelf) (next : Step) (new : Stat) (after : Shelf) (others : ℕ)
    → m.asked ≡ asked → of_stat m ≡ others + 1 → stats.StatTakes asked m sent turn came old next new after → Plain next others (of_stat new)
stat-took true m sent turn came old next new after others is one t =
    let own : of_stat m ≡ 1 = ap (λ (b : Bool). own_or b (of_walk m.walk)) is in
    show-leaves m.walk.spot.dir _ (stats.got_told came) (stats.get_attr m.walk.spot.dir) sent turn old next after others (of_stat new) (ap of_stat t.0 ∙ one) (omega (arith, own, one)) t.1
stat-took false m sent turn came old next new after others is one t =
    let took = walk-takes m.walk sent turn came old t.step t.walked.walk after others (sym (stat-own m is) ∙ one) t.takes in
    let still : t.walked.asked ≡ false = ap (λ (w : Stat). w.asked) t.walked_is ∙ is in
    let here = follow-stat t.step turn after.attrs t.walked others still (took-counts others t.step t.walked.walk took) in
    leaves-as (stats.follow_next t.step turn after.attrs) next others (of_stat new) (Unit {0}) t.next_is
    (leaves-after (stats.follow_next t.step turn after.attrs) others (of_stat new) (of_stat (stats.follow_after t.step turn after.attrs t.walked)) (Unit {0}) (ap of_stat t.machine_is) here)

-- ---- listings

more-pages : (room : Bool) (place : PageStart) (m : ListDir) (others : ℕ) → others ≡ 0 → of_walk m.visit.walk ≡ 0
    → Plain (listing.more_next place room m) others (of_visit (listing.more_after place room m).visit)
more-pages true place m others none walk =
    let own : of_visit (listing.more_after place true m).visit ≡ 1 - of_walk m.visit.walk = refl in (omega (arith, own, walk, none), tt)
more-pages false place m others none walk = (walk ∙ sym none, tt)

goes-on : (step : ListStep) (room : Bool) (m : ListDir) (next : Step) (new : ListDir) (others : ℕ) → others ≡ 0 → of_walk m.visit.walk ≡ 0 → listing.GoesOn step room m next new
    → Plain next others (of_visit new.visit)
goes-on (More cookie verf) room m next new others none walk g =
    leaves-as (listing.more_next (record { cookie = cookie; verf = verf }) room m) next others (of_visit new.visit) (Unit {0}) g.0
    (leaves-after (listing.more_next (record { cookie = cookie; verf = verf }) room m) others (of_visit new.visit)
    (of_visit (listing.more_after (record { cookie = cookie; verf = verf }) room m).visit) (Unit {0}) (ap (λ (l : ListDir). of_visit l.visit) g.1)
    (more-pages room (record { cookie = cookie; verf = verf }) m others none walk))
goes-on End room m next new others none walk g = done-leaves (answers.Done (values.Names g.names)) next others (of_visit new.visit) (Unit {0}) g.next_is none

takes-step : (step : Result ListStep ListFault) (heard : _) (room : Bool) (m : ListDir) (next : Step) (new : ListDir) (others : ℕ) → others ≡ 0 → of_walk m.visit.walk ≡ 0
    → listing.TakesStep step heard room m next new → Plain next others (of_visit new.visit)
takes-step (Ok step) heard room m next new others none walk t = goes-on step room _ next new others none walk t
takes-step (Err fault) heard room m next new others none walk t = done-leaves _ next others (of_visit new.visit) (Unit {0}) t.0 none

takes-page : (heard : _) (room : Bool) (m : ListDir) (next : Step) (new : ListDir) (others : ℕ) → others ≡ 0 → of_walk m.visit.walk ≡ 0
    → listing.TakesPage heard room m next new → Plain next others (of_visit new.visit)
takes-page heard room m next new others none walk (inl t) = done-leaves _ next others (of_visit new.visit) (Unit {0}) t.0 none
takes-page heard room m next new others none walk (inr t) = takes-step (page_step m.listing heard.page heard.verf heard.eof) heard room m next new others none walk t

follows-page : (heard : Result _ Fault) (again room : Bool) (m : ListDir) (next : Step) (new : ListDir) (others : ℕ) → others ≡ 0 → of_walk m.visit.walk ≡ 0
    → of_visit m.visit ≡ others + 1 → listing.Follows heard again room m next new → Plain next others (of_visit new.visit)
follows-page (Ok heard) again room m next new others none walk one f = takes-page heard room m next new others none walk f
follows-page (Err fault) again room m next new others none walk one f =
    again-leaves again (listing.page_call m.place m.visit.walk.spot.dir) (answers.Refused fault) next others (of_visit new.visit) (Unit {0}) f.0
    (ap (λ (l : ListDir). of_visit l.visit) f.1 ∙ one) none tt

pub list-took : (asked : Bool) (m : ListDir) (sent turn : Turn) (came : Result Reply Fault) (old : Shelf) (next : Step) (new : ListDir) (after : Shelf) (others : ℕ)
    → m.visit.asked ≡ asked → of_visit m.visit ≡ others + 1 → listing.TakesList asked m sent turn came old next new after → Plain next others (of_visit new.visit)
list-took true m sent turn came old next new after others is one t =
    let own : of_visit m.visit ≡ 1 - of_walk m.visit.walk = ap (λ (b : Bool). visit_by b (of_walk m.visit.walk)) is in
    follows-page (listing.page_heard came) (goes_again (fails_busy (listing.page_heard came)) sent turn old.repeats) turn.room m next new others
    (visit-own m.visit others is one) (omega (arith, own, one)) one t.follows
list-took false m sent turn came old next new after others is one t =
    leaves-after next others (of_visit new.visit) (of_visit t.visit) (Unit {0}) (ap (λ (l : ListDir). of_visit l.visit) t.machine_is)
    (walks-leave (listing.page_call m.place) m.visit sent turn came old next t.visit after others is one t.walks)
