-- A call of an operation on names that can't be made ends the operation, but that a removal whose LOOKUP says that a name is free goes on.
use Rattle.std.proofs.Common.{◌≡◌, ◌<◌, ℕ, Bool, true, false, List, Option, Some, None, Result, Err, refl, sym, ap, subst, ◌∙◌, ◌⊎◌, inl, inr, arith}
use Rattle.std.specs.Prelude.{if◌then◌else◌, ◌||◌}
use Rattle.nfs_types.specs.declared.attr.Attr.{Attr}
use Rattle.attr_cache.specs.Attrs as attrs
use Rattle.open_files.specs.Slots.{Opens}
use Rattle.world_model.specs.declared.answer.Answer.{Answer}
use Rattle.world_model.specs.declared.answer.Answer.TheVariants as answers
use Rattle.world_model.specs.declared.answer.Fault.{Fault}
use Rattle.world_model.specs.declared.answer.Value.{Value}
use Rattle.world_model.specs.declared.answer.Value.TheVariants as values
use Rattle.world_model.specs.declared.message.Call.{Call}
use Rattle.world_model.specs.declared.message.Reply.{Reply}
use Rattle.client_shelf.specs.declared.shelf.Shelf.{Shelf}
use Rattle.client_shelf.specs.declared.turn.Turn.{Turn}
use Rattle.client_shelf.specs.declared.step.Step.{Step}
use Rattle.client_shelf.specs.declared.step.Step.TheVariants as nexts
use Rattle.client_shelf.specs.Busy.{fails_busy, goes_again}
use Rattle.name_ops.specs.declared.link.Link.{Link}
use Rattle.name_ops.specs.declared.list_dir.ListDir.{ListDir}
use Rattle.name_ops.specs.declared.pair.Pair.{Pair}
use Rattle.name_ops.specs.declared.pair.PairStep.{PairStep}
use Rattle.name_ops.specs.declared.pair.PairStep.TheVariants as two
use Rattle.name_ops.specs.declared.remove_file.Deed.{Deed}
use Rattle.name_ops.specs.declared.remove_file.Deed.TheVariants.{Look, Seek, Move, Remove}
use Rattle.name_ops.specs.declared.remove_file.RemoveFile.{RemoveFile}
use Rattle.name_ops.specs.declared.rename.Rename.{Rename}
use Rattle.name_ops.specs.declared.stat.Stat.{Stat}
use Rattle.name_ops.specs.declared.sym_link.SymLink.{SymLink}
use Rattle.name_ops.specs.declared.told.Told.{Told}
use Rattle.name_ops.specs.declared.visit.Visit.{Visit}
use Rattle.name_ops.specs.declared.visit.VisitStep.{VisitStep}
use Rattle.name_ops.specs.declared.visit.VisitStep.TheVariants as visits
use Rattle.name_ops.specs.declared.walk.Walk.{Walk}
use Rattle.name_ops.specs.declared.walk.WalkStep.{WalkStep}
use Rattle.name_ops.specs.declared.walk.WalkStep.TheVariants as walks
use Rattle.name_ops.specs.Access.{access_call, access_attr, access_told}
use Rattle.name_ops.specs.Changing as changing
use Rattle.name_ops.specs.DirChange.{deed_call, deed_told}
use Rattle.name_ops.specs.Link.{link_call, TakesLink}
use Rattle.name_ops.specs.ListDir as listing
use Rattle.name_ops.specs.Looking.{look_up, found_by, look_again}
use Rattle.name_ops.specs.Moving.{moved_told}
use Rattle.name_ops.specs.Pairs as pairs
use Rattle.name_ops.specs.ReadLink.{text_call, TakesText}
use Rattle.name_ops.specs.RemoveFile as removals
use Rattle.name_ops.specs.Rename.{rename_call, TakesRename}
use Rattle.name_ops.specs.Showing.{shown_answer, Shows, TakesShow}
use Rattle.name_ops.specs.Stat as stats
use Rattle.name_ops.specs.SymLink.{sym_link_call, sym_linked_told, CopiesBy, ChangesByCopy, TakesSymLink, lacking}
use Rattle.name_ops.specs.Visiting as visiting
use Rattle.name_ops.specs.Walking.{asks, asked_after, next_name, walked, on_next, on_after, go_next, go_after, go_shelf, told_next, waiting_name, Takes}
use Rattle.op_machines.specs.declared.name_machine.NameMachine.{NameMachine}
use Rattle.op_machines.specs.declared.name_machine.NameMachine.TheVariants as machines
use Rattle.op_machines.specs.Endings.{removal_left, name_left}
use Rattle.op_machines.specs.NameSteps as steps
use Rattle.op_machines.specs.NameSteps.{NameGoes, NameTakes}

choose : {A : Type 0} → (Q : A → Type 0) (b : Bool) (x y : A) → Q x → Q y → Q (if b then x else y)
choose Q true x y f g = f
choose Q false x y f g = g

both-if : {A : Type 0} → {B : Type 0} → (P : A → Type 0) (Q : B → Type 0) (b : Bool) (x y : A) (u v : B) → (b ≡ true → P x → Q u) → (b ≡ false → P y → Q v)
    → P (if b then x else y) → Q (if b then u else v)
both-if P Q true x y u v f g p = f refl p
both-if P Q false x y u v f g p = g refl p

-- a step that has an answer or asks for a call
abbrev GoesOn : Step → Type 0
GoesOn (nexts.Send call) = Unit {0}
GoesOn nexts.Wait = ⊥
GoesOn (nexts.Done answer) = Unit {0}

never-waits : (to next : Step) → next ≡ to → GoesOn to → next ≡ nexts.Wait → ⊥
never-waits to next is on waits = subst (λ (n : Step). GoesOn n) (sym is ∙ waits) on

again-goes : (b : Bool) (call : Call) (answer : Answer) → GoesOn (if b then nexts.Send call else nexts.Done answer)
again-goes b call answer = choose (λ (n : Step). GoesOn n) b (nexts.Send call) (nexts.Done answer) tt tt

-- ---- walks

-- the walk asked for a LOOKUP that has no reply yet
abbrev pub IsOut : Walk → Type 0
IsOut w = (name : List ℕ) × (waiting_name w ≡ Some name)

asked-out : (name : Option (List ℕ)) (room : Bool) (w : Walk) (call : Call) → next_name w ≡ name → asks name room w ≡ walks.Send call → IsOut (asked_after name room w)
asked-out None room w call is e = let no-way : walks.At w.spot.dir ≡ walks.Send call = e in absurd cc
asked-out (Some name) true w call is e = (name, is)
asked-out (Some name) false w call is e = let no-way : walks.Wait ≡ walks.Send call = e in absurd cc

pub walk-out : (w : Walk) (turn : Turn) (old : Shelf) (call : Call) → go_next w turn old ≡ walks.Send call → IsOut (go_after w turn old)
walk-out w turn old call e =
    both-if (λ (s : WalkStep). s ≡ walks.Send call) (λ (x : Walk). IsOut x) w.asked walks.Wait (on_next w turn old.attrs old.names) w (on_after w turn old.attrs old.names)
    (λ h n. let no-way : walks.Wait ≡ walks.Send call = n in absurd cc)
    (λ h n. asked-out (next_name (walked w turn.now old.attrs old.names)) turn.room (walked w turn.now old.attrs old.names) call refl n) e

at-idle : (name : Option (List ℕ)) (room : Bool) (w : Walk) (dir : List ℕ) → w.asked ≡ false → asks name room w ≡ walks.At dir → (asked_after name room w).asked ≡ false
at-idle None room w dir idle e = idle
at-idle (Some name) true w dir idle e = let no-way : walks.Send (look_up w.spot.dir name) ≡ walks.At dir = e in absurd cc
at-idle (Some name) false w dir idle e = let no-way : walks.Wait ≡ walks.At dir = e in absurd cc

walk-idle : (w : Walk) (turn : Turn) (old : Shelf) (dir : List ℕ) → go_next w turn old ≡ walks.At dir → (go_after w turn old).asked ≡ false
walk-idle w turn old dir e =
    both-if (λ (s : WalkStep). s ≡ walks.At dir) (λ (x : Walk). x.asked ≡ false) w.asked walks.Wait (on_next w turn old.attrs old.names) w (on_after w turn old.attrs old.names)
    (λ h n. let no-way : walks.Wait ≡ walks.At dir = n in absurd cc)
    (λ h n. at-idle (next_name (walked w turn.now old.attrs old.names)) turn.room (walked w turn.now old.attrs old.names) dir h n) e

out-asked : (w : Walk) → w.asked ≡ false → IsOut w → ⊥
out-asked w idle out = by w.asked idle out.1
  where
    by : (b : Bool) → b ≡ false → (if b then next_name w else None) ≡ Some out.0 → ⊥
    by false h e = let no-way : None ≡ Some out.0 = e in absurd cc
    by true h e = absurd cc

-- after a refusal it goes on no further
abbrev pub IsEnded : WalkStep → Type 0
IsEnded (walks.Send call) = Unit {0}
IsEnded walks.Wait = ⊥
IsEnded (walks.At object) = ⊥
IsEnded (walks.Refused fault) = Unit {0}

pub walk-ends : (w : Walk) (sent turn : Turn) (fault : Fault) (old : Shelf) (next : WalkStep) (new : Walk) (after : Shelf) → IsOut w
    → Takes (waiting_name w) w sent turn (Err fault) old next new after → IsEnded next
walk-ends w sent turn fault old next new after out t = by (subst (λ (n : Option (List ℕ)). Takes n w sent turn (Err fault) old next new after) out.1 t)
  where
    by : Takes (Some out.0) w sent turn (Err fault) old next new after → IsEnded next
    by l =
        subst (λ (s : WalkStep). IsEnded s) (sym l.next_is)
        (choose (λ (s : WalkStep). IsEnded s) (look_again sent turn (Err fault) old) (walks.Send (look_up w.spot.dir out.0)) (walks.Refused fault) tt tt)

-- ---- a walk and a call

abbrev VisitOut : Visit → Type 0
VisitOut v = (v.asked ≡ true) ⊎ ((v.asked ≡ false) × IsOut v.walk)

led-out : (call : List ℕ → Call) (step : WalkStep) (room : Bool) (v : Visit) (c : Call) → v.asked ≡ false → ((look : Call) → step ≡ walks.Send look → IsOut v.walk)
    → visiting.next_by call (visiting.follow_next step room) ≡ nexts.Send c → VisitOut (visiting.follow_after step room v)
led-out call (walks.Send look) room v c idle out e = inr (idle, out look refl)
led-out call walks.Wait room v c idle out e = let no-way : nexts.Wait ≡ nexts.Send c = e in absurd cc
led-out call (walks.At object) true v c idle out e = inl refl
led-out call (walks.At object) false v c idle out e = let no-way : nexts.Wait ≡ nexts.Send c = e in absurd cc
led-out call (walks.Refused fault) room v c idle out e = let no-way : nexts.Done (answers.Refused fault) ≡ nexts.Send c = e in absurd cc

visit-out : (call : List ℕ → Call) (v : Visit) (turn : Turn) (old : Shelf) (c : Call) → visiting.next_by call (visiting.visit_next v turn old) ≡ nexts.Send c
    → VisitOut (visiting.visit_after v turn old)
visit-out call v turn old c e =
    both-if (λ (s : VisitStep). visiting.next_by call s ≡ nexts.Send c) (λ (x : Visit). VisitOut x) v.asked visits.Wait (visiting.follow_next (go_next v.walk turn old) turn.room) v
    (visiting.follow_after (go_next v.walk turn old) turn.room (record v { walk = go_after v.walk turn old }))
    (λ h n. let no-way : nexts.Wait ≡ nexts.Send c = n in absurd cc)
    (λ h n. led-out call (go_next v.walk turn old) turn.room (record v { walk = go_after v.walk turn old }) c h (λ look is. walk-out v.walk turn old look is) n) e

copy-sends : (call : List ℕ → Call) (step : VisitStep) (next : Step) (c : Call) → CopiesBy call step next → next ≡ nexts.Send c → (d : Call) × (visiting.next_by call step ≡ nexts.Send d)
copy-sends call (visits.Look look) next c k e = (look, refl)
copy-sends call visits.Wait next c k e = let no-way : nexts.Wait ≡ nexts.Send c = sym k ∙ e in absurd cc
copy-sends call (visits.Ask dir) next c k e = (call dir, refl)
copy-sends call (visits.Refused fault) next c k e = let no-way : nexts.Done (answers.Refused fault) ≡ nexts.Send c = sym k ∙ e in absurd cc

ended-goes : (call : List ℕ → Call) (room : Bool) (step : WalkStep) → IsEnded step → GoesOn (visiting.next_by call (visiting.follow_next step room))
ended-goes call room (walks.Send look) ended = tt
ended-goes call room walks.Wait ended = ended
ended-goes call room (walks.At object) ended = absurd ended
ended-goes call room (walks.Refused fault) ended = tt

still-out : (v : Visit) → VisitOut v → v.asked ≡ false → IsOut v.walk
still-out v (inl asked) idle = let no-way : true ≡ false = sym asked ∙ idle in absurd cc
still-out v (inr out) idle = out.1

walks-never-wait : (call : List ℕ → Call) (v : Visit) (sent turn : Turn) (fault : Fault) (old : Shelf) (next : Step) (new : Visit) (after : Shelf) → IsOut v.walk
    → visiting.Walks call v sent turn (Err fault) old next new after → next ≡ nexts.Wait → ⊥
walks-never-wait call v sent turn fault old next new after out w waits =
    let ended = walk-ends v.walk sent turn fault old w.takes.step w.takes.walked.walk after out w.takes.takes in
    never-waits (visiting.next_by call w.step) next w.next_is
    (subst (λ (s : VisitStep). GoesOn (visiting.next_by call s)) (sym w.takes.next_is) (ended-goes call turn.room w.takes.step ended)) waits

changes-never-wait : (dir : List ℕ) (call : Call) (told : Told) (sent turn : Turn) (old : Shelf) (next : Step) (after : Shelf) → changing.Changes dir call told sent turn old next after
    → next ≡ nexts.Wait → ⊥
changes-never-wait dir call told sent turn old next after c waits =
    never-waits (changing.change_next (goes_again (changing.told_busy told.refusal) sent turn old.repeats) call told) next c.next_is
    (again-goes (goes_again (changing.told_busy told.refusal) sent turn old.repeats) call (changing.answer_of told.refusal)) waits

change-never-waits : (asked : Bool) (call : List ℕ → Call) (told : Told) (v : Visit) (sent turn : Turn) (fault : Fault) (old : Shelf) (next : Step) (new : Visit) (after : Shelf)
    → v.asked ≡ asked → VisitOut v → changing.TakesChange asked call told v sent turn (Err fault) old next new after → next ≡ nexts.Wait → ⊥
change-never-waits true call told v sent turn fault old next new after is out t waits = changes-never-wait v.walk.spot.dir (call v.walk.spot.dir) told sent turn old next after t.1 waits
change-never-waits false call told v sent turn fault old next new after is out t waits = walks-never-wait call v sent turn fault old next new after (still-out v out is) t waits

shows-never-wait : (object : List ℕ) (attr : Option Attr) (told : Result Value Fault) (call : Call) (sent turn : Turn) (old : Shelf) (next : Step) (after : Shelf)
    → Shows object attr told call sent turn old next after → next ≡ nexts.Wait → ⊥
shows-never-wait object attr told call sent turn old next after s waits =
    never-waits _ next s.next_is (again-goes (goes_again (fails_busy told) sent turn old.repeats) call (shown_answer told)) waits

show-never-waits : (asked : Bool) (call : List ℕ → Call) (attr : Option Attr) (told : Result Value Fault) (v : Visit) (sent turn : Turn) (fault : Fault) (old : Shelf) (next : Step)
    (new : Visit) (after : Shelf) → v.asked ≡ asked → VisitOut v → TakesShow asked call attr told v sent turn (Err fault) old next new after → next ≡ nexts.Wait → ⊥
show-never-waits true call attr told v sent turn fault old next new after is out t waits =
    shows-never-wait v.walk.spot.dir attr told (call v.walk.spot.dir) sent turn old next after t.1 waits
show-never-waits false call attr told v sent turn fault old next new after is out t waits = walks-never-wait call v sent turn fault old next new after (still-out v out is) t waits

text-never-waits : (asked : Bool) (v : Visit) (sent turn : Turn) (fault : Fault) (old : Shelf) (next : Step) (new : Visit) (after : Shelf) → v.asked ≡ asked → VisitOut v
    → TakesText asked v sent turn (Err fault) old next new after → next ≡ nexts.Wait → ⊥
text-never-waits true v sent turn fault old next new after is out t waits =
    shows-never-wait v.walk.spot.dir _ t.1.told (text_call v.walk.spot.dir) sent turn old next after t.1.shows waits
text-never-waits false v sent turn fault old next new after is out t waits = walks-never-wait text_call v sent turn fault old next new after (still-out v out is) t waits

copies-go : (call : List ℕ → Call) (room : Bool) (step : WalkStep) (next : Step) → IsEnded step → CopiesBy call (visiting.follow_next step room) next → next ≡ nexts.Wait → ⊥
copies-go call room (walks.Send look) next ended k waits = let no-way : nexts.Send look ≡ nexts.Wait = sym k ∙ waits in absurd cc
copies-go call room walks.Wait next ended k waits = ended
copies-go call room (walks.At object) next ended k waits = absurd ended
copies-go call room (walks.Refused fault) next ended k waits = let no-way : nexts.Done (answers.Refused fault) ≡ nexts.Wait = sym k ∙ waits in absurd cc

sym-link-never-waits : (asked : Bool) (m : SymLink) (sent turn : Turn) (fault : Fault) (old : Shelf) (next : Step) (new : Visit) (after : Shelf) → m.visit.asked ≡ asked → VisitOut m.visit
    → TakesSymLink asked m sent turn (Err fault) old next new after → next ≡ nexts.Wait → ⊥
sym-link-never-waits true m sent turn fault old next new after is out t waits = by t.1
  where
    dir : List ℕ
    dir = m.visit.walk.spot.dir

    by : ChangesByCopy dir (sym_link_call m.name m.target dir) (sym_linked_told (Err fault)) sent turn old next after → ⊥
    by (inl c) = changes-never-wait dir (sym_link_call m.name m.target dir) _ sent turn old next after c waits
    by (inr c) = changes-never-wait dir (sym_link_call m.name m.target dir) _ sent turn old next after c.1 waits
sym-link-never-waits false m sent turn fault old next new after is out t waits =
    let ended = walk-ends m.visit.walk sent turn fault old t.takes.step t.takes.walked.walk after (still-out m.visit out is) t.takes.takes in
    copies-go (sym_link_call m.name m.target) turn.room t.takes.step next ended
    (subst (λ (s : VisitStep). CopiesBy (sym_link_call m.name m.target) s next) t.takes.next_is t.next_is) waits

list-never-waits : (asked : Bool) (m : ListDir) (sent turn : Turn) (fault : Fault) (old : Shelf) (next : Step) (new : ListDir) (after : Shelf) → m.visit.asked ≡ asked → VisitOut m.visit
    → listing.TakesList asked m sent turn (Err fault) old next new after → next ≡ nexts.Wait → ⊥
list-never-waits true m sent turn fault old next new after is out t waits =
    let again = goes_again (fails_busy (listing.page_heard (Err fault))) sent turn old.repeats in
    never-waits (listing.refused_next again fault m) next t.follows.0 (again-goes again (listing.page_call m.place m.visit.walk.spot.dir) (answers.Refused fault)) waits
list-never-waits false m sent turn fault old next new after is out t waits =
    walks-never-wait (listing.page_call m.place) m.visit sent turn fault old next t.visit after (still-out m.visit out is) t.walks waits

-- ---- stats

abbrev StatOut : Stat → Type 0
StatOut m = (m.asked ≡ true) ⊎ ((m.asked ≡ false) × IsOut m.walk)

stat-led : (known : Option Attr) (object : List ℕ) (room : Bool) (m : Stat) (c : Call) → stats.ask_next known object room ≡ nexts.Send c → (stats.ask_after known room m).asked ≡ true
stat-led (Some attr) object room m c e = let no-way : nexts.Done (answers.Done (values.Attrs attr)) ≡ nexts.Send c = e in absurd cc
stat-led None object true m c e = refl
stat-led None object false m c e = let no-way : nexts.Wait ≡ nexts.Send c = e in absurd cc

stat-follows : (step : WalkStep) (turn : Turn) (known : attrs.Attrs) (m : Stat) (c : Call) → m.asked ≡ false → ((look : Call) → step ≡ walks.Send look → IsOut m.walk)
    → stats.follow_next step turn known ≡ nexts.Send c → StatOut (stats.follow_after step turn known m)
stat-follows (walks.Send look) turn known m c idle out e = inr (idle, out look refl)
stat-follows walks.Wait turn known m c idle out e = let no-way : nexts.Wait ≡ nexts.Send c = e in absurd cc
stat-follows (walks.At object) turn known m c idle out e = inl (stat-led (attrs.looked object turn.now known) object turn.room m c e)
stat-follows (walks.Refused fault) turn known m c idle out e = let no-way : nexts.Done (answers.Refused fault) ≡ nexts.Send c = e in absurd cc

stat-out : (m : Stat) (turn : Turn) (old : Shelf) (c : Call) → stats.stat_next m turn old ≡ nexts.Send c → StatOut (stats.stat_after m turn old)
stat-out m turn old c e =
    both-if (λ (n : Step). n ≡ nexts.Send c) (λ (x : Stat). StatOut x) m.asked nexts.Wait (stats.follow_next (go_next m.walk turn old) turn old.attrs) m
    (stats.follow_after (go_next m.walk turn old) turn old.attrs (record m { walk = go_after m.walk turn old }))
    (λ h n. let no-way : nexts.Wait ≡ nexts.Send c = n in absurd cc)
    (λ h n. stat-follows (go_next m.walk turn old) turn old.attrs (record m { walk = go_after m.walk turn old }) c h (λ look is. walk-out m.walk turn old look is) n) e

stat-ended : (step : WalkStep) (turn : Turn) (known : attrs.Attrs) → IsEnded step → GoesOn (stats.follow_next step turn known)
stat-ended (walks.Send look) turn known ended = tt
stat-ended walks.Wait turn known ended = ended
stat-ended (walks.At object) turn known ended = absurd ended
stat-ended (walks.Refused fault) turn known ended = tt

stat-never-waits : (asked : Bool) (m : Stat) (sent turn : Turn) (fault : Fault) (old : Shelf) (next : Step) (new : Stat) (after : Shelf) → m.asked ≡ asked → StatOut m
    → stats.StatTakes asked m sent turn (Err fault) old next new after → next ≡ nexts.Wait → ⊥
stat-never-waits true m sent turn fault old next new after is out t waits =
    shows-never-wait m.walk.spot.dir _ (Err fault) (stats.get_attr m.walk.spot.dir) sent turn old next after t.1 waits
stat-never-waits false m sent turn fault old next new after is out t waits = by out
  where
    by : StatOut m → ⊥
    by (inl asked) = let no-way : true ≡ false = sym asked ∙ is in absurd cc
    by (inr o) =
        let ended = walk-ends m.walk sent turn fault old t.step t.walked.walk after o.1 t.takes in
        never-waits (stats.follow_next t.step turn after.attrs) next t.next_is (stat-ended t.step turn after.attrs ended) waits

-- ---- two walks and a call

abbrev WalksOut : Pair → Type 0
WalksOut p = (IsOut p.first) ⊎ ((p.first.asked ≡ false) × IsOut p.second)

abbrev PairOut : Pair → Type 0
PairOut p = (p.asked ≡ true) ⊎ ((p.asked ≡ false) × WalksOut p)

second-out : (call : List ℕ → List ℕ → Call) (first : List ℕ) (step : WalkStep) (room : Bool) (p : Pair) (c : Call) → p.asked ≡ false → p.first.asked ≡ false
    → ((look : Call) → step ≡ walks.Send look → IsOut p.second) → pairs.next_by call (pairs.led_second first step room) ≡ nexts.Send c → PairOut (pairs.second_kept step room p)
second-out call first (walks.Send look) room p c idle at out e = inr (idle, inr (at, out look refl))
second-out call first walks.Wait room p c idle at out e = let no-way : nexts.Wait ≡ nexts.Send c = e in absurd cc
second-out call first (walks.At second) true p c idle at out e = inl refl
second-out call first (walks.At second) false p c idle at out e = let no-way : nexts.Wait ≡ nexts.Send c = e in absurd cc
second-out call first (walks.Refused fault) room p c idle at out e = let no-way : nexts.Done (answers.Refused fault) ≡ nexts.Send c = e in absurd cc

first-out : (call : List ℕ → List ℕ → Call) (step : WalkStep) (p : Pair) (turn : Turn) (old : Shelf) (c : Call) → p.asked ≡ false → ((look : Call) → step ≡ walks.Send look → IsOut p.first)
    → ((dir : List ℕ) → step ≡ walks.At dir → p.first.asked ≡ false) → pairs.next_by call (pairs.led_first step p turn old) ≡ nexts.Send c → PairOut (pairs.first_kept step p turn old)
first-out call (walks.Send look) p turn old c idle out at e = inr (idle, inl (out look refl))
first-out call walks.Wait p turn old c idle out at e = let no-way : nexts.Wait ≡ nexts.Send c = e in absurd cc
first-out call (walks.At first) p turn old c idle out at e =
    second-out call first (go_next p.second turn old) turn.room (record p { second = go_after p.second turn old }) c idle (at first refl)
    (λ look is. walk-out p.second turn old look is) e
first-out call (walks.Refused fault) p turn old c idle out at e = let no-way : nexts.Done (answers.Refused fault) ≡ nexts.Send c = e in absurd cc

or-first : (a b : Bool) → (a || b) ≡ false → a ≡ false
or-first false b e = refl
or-first true b e = absurd cc

pair-out : (call : List ℕ → List ℕ → Call) (p : Pair) (turn : Turn) (old : Shelf) (c : Call) → pairs.next_by call (pairs.pair_next p turn old) ≡ nexts.Send c → PairOut (pairs.pair_after p turn old)
pair-out call p turn old c e =
    both-if (λ (s : PairStep). pairs.next_by call s ≡ nexts.Send c) (λ (x : Pair). PairOut x) (pairs.waits p) two.Wait (pairs.on_next p turn old) p (pairs.on_after p turn old)
    (λ h n. let no-way : nexts.Wait ≡ nexts.Send c = n in absurd cc)
    (λ h n. first-out call (go_next p.first turn old) (pairs.walked_first p turn old) turn (go_shelf p.first turn old) c (or-first p.asked p.second.asked h)
    (λ look is. walk-out p.first turn old look is) (λ dir is. walk-idle p.first turn old dir is) n) e

second-ended : (call : List ℕ → List ℕ → Call) (first : List ℕ) (room : Bool) (step : WalkStep) → IsEnded step → GoesOn (pairs.next_by call (pairs.led_second first step room))
second-ended call first room (walks.Send look) ended = tt
second-ended call first room walks.Wait ended = ended
second-ended call first room (walks.At second) ended = absurd ended
second-ended call first room (walks.Refused fault) ended = tt

first-ended : (call : List ℕ → List ℕ → Call) (step : WalkStep) (p : Pair) (turn : Turn) (old : Shelf) → IsEnded step → GoesOn (pairs.next_by call (pairs.led_first step p turn old))
first-ended call (walks.Send look) p turn old ended = tt
first-ended call walks.Wait p turn old ended = ended
first-ended call (walks.At first) p turn old ended = absurd ended
first-ended call (walks.Refused fault) p turn old ended = tt

first-waits : (p : Pair) → WalksOut p → p.first.asked ≡ true → IsOut p.first
first-waits p (inl out) is = out
first-waits p (inr out) is = let no-way : true ≡ false = sym is ∙ out.0 in absurd cc

second-waits : (p : Pair) → WalksOut p → p.first.asked ≡ false → IsOut p.second
second-waits p (inl out) is = absurd (out-asked p.first is out)
second-waits p (inr out) is = out.1

pair-takes-on : (call : List ℕ → List ℕ → Call) (first : Bool) (p : Pair) (sent turn : Turn) (fault : Fault) (old : Shelf) (next : PairStep) (new : Pair) (after : Shelf) → p.first.asked ≡ first
    → WalksOut p → pairs.PairTakes first p sent turn (Err fault) old next new after → GoesOn (pairs.next_by call next)
pair-takes-on call true p sent turn fault old next new after is out t =
    let ended = walk-ends p.first sent turn fault old t.step t.walked.first t.heard (first-waits p out is) t.takes in
    subst (λ (s : PairStep). GoesOn (pairs.next_by call s)) (sym t.next_is) (first-ended call t.step t.walked turn t.heard ended)
pair-takes-on call false p sent turn fault old next new after is out t =
    let ended = walk-ends p.second sent turn fault old t.step t.walked.second after (second-waits p out is) t.takes in
    subst (λ (s : PairStep). GoesOn (pairs.next_by call s)) (sym t.next_is) (second-ended call p.first.spot.dir turn.room t.step ended)

pair-never-waits : (call : List ℕ → List ℕ → Call) (p : Pair) (sent turn : Turn) (fault : Fault) (old : Shelf) (next : Step) (new : Pair) (after : Shelf) → p.asked ≡ false → PairOut p
    → pairs.Walks call p sent turn (Err fault) old next new after → next ≡ nexts.Wait → ⊥
pair-never-waits call p sent turn fault old next new after is (inl asked) w waits = let no-way : true ≡ false = sym asked ∙ is in absurd cc
pair-never-waits call p sent turn fault old next new after is (inr out) w waits =
    never-waits (pairs.next_by call w.step) next w.next_is (pair-takes-on call p.first.asked p sent turn fault old w.step new after refl out.1 w.takes) waits

rename-never-waits : (asked : Bool) (m : Rename) (sent turn : Turn) (fault : Fault) (old : Shelf) (next : Step) (new : Pair) (after : Shelf) → m.pair.asked ≡ asked → PairOut m.pair
    → TakesRename asked m sent turn (Err fault) old next new after → next ≡ nexts.Wait → ⊥
rename-never-waits true m sent turn fault old next new after is out t waits =
    let told = moved_told (Err fault) in
    never-waits _ next t.1.next_is (again-goes (goes_again (changing.told_busy told.refusal) sent turn old.repeats) (rename_call m.from m.to m.pair.first.spot.dir m.pair.second.spot.dir)
    (changing.answer_of told.refusal)) waits
rename-never-waits false m sent turn fault old next new after is out t waits = pair-never-waits (rename_call m.from m.to) m.pair sent turn fault old next new after is out t waits

link-never-waits : (asked : Bool) (m : Link) (sent turn : Turn) (fault : Fault) (old : Shelf) (next : Step) (new : Pair) (after : Shelf) → m.pair.asked ≡ asked → PairOut m.pair
    → TakesLink asked m sent turn (Err fault) old next new after → next ≡ nexts.Wait → ⊥
link-never-waits true m sent turn fault old next new after is out t waits =
    changes-never-wait m.pair.second.spot.dir (link_call m.name m.pair.first.spot.dir m.pair.second.spot.dir) _ sent turn old next after t.1 waits
link-never-waits false m sent turn fault old next new after is out t waits = pair-never-waits (link_call m.name) m.pair sent turn fault old next new after is out t waits

-- ---- removals of names

-- after a call it has its answer, asks for another, or knows that the name is free
abbrev LessLeft : Step → Option Deed → Option Deed → Type 0
LessLeft next new old = next ≡ nexts.Wait → removal_left new < removal_left old

deed-less : (deed : Deed) (m : RemoveFile) (sent turn : Turn) (fault : Fault) (old : Shelf) (next : Step) (new : RemoveFile) (after : Shelf)
    → removals.TakesDeed deed m sent turn (Err fault) old next new after → LessLeft next new.deed (Some deed)
deed-less Look m sent turn fault old next new after t waits = absurd (by (look_again sent turn (Err fault) old) t.follows)
  where
    by : (again : Bool) → removals.FollowsLook again (Err fault) m turn.room t.heard next new after → ⊥
    by true f = let no-way : nexts.Send (removals.call_of m Look) ≡ nexts.Wait = sym f.next_is ∙ waits in absurd cc
    by false f = let no-way : nexts.Done (answers.Refused fault) ≡ nexts.Wait = sym f.next_is ∙ waits in absurd cc
deed-less (Seek file to) m sent turn fault old next new after t waits = by (look_again sent turn (Err fault) old) t.follows
  where
    free : (missing : Bool) → next ≡ removals.missed_next missing fault file to m turn.room → new ≡ removals.missed_after missing file to m turn.room
        → removal_left new.deed < removal_left (Some (Seek file to))
    free true is now = subst (λ (x : RemoveFile). removal_left x.deed < removal_left (Some (Seek file to))) (sym now) (omega arith)
    free false is now = let no-way : nexts.Done (answers.Refused fault) ≡ nexts.Wait = sym is ∙ waits in absurd cc

    by : (again : Bool) → removals.FollowsSeek again (Err fault) file to m turn.room t.heard next new after → removal_left new.deed < removal_left (Some (Seek file to))
    by true f = let no-way : nexts.Send (removals.call_of m (Seek file to)) ≡ nexts.Wait = sym f.next_is ∙ waits in absurd cc
    by false f = free (removals.is_missing fault) f.next_is f.machine_is
deed-less (Move file to) m sent turn fault old next new after t waits = absurd (by (removals.move_again sent turn (Err fault) old) t.1.ends)
  where
    by : (again : Bool) → removals.EndsMove again (Some fault) file to m old.silly next after.silly → ⊥
    by true e = let no-way : nexts.Send (removals.call_of m (Move file to)) ≡ nexts.Wait = sym e.0 ∙ waits in absurd cc
    by false e = let no-way : nexts.Done (answers.Refused fault) ≡ nexts.Wait = sym e.0 ∙ waits in absurd cc
deed-less Remove m sent turn fault old next new after t waits =
    absurd (changes-never-wait m.walk.spot.dir (removals.call_of m Remove) _ sent turn old next after t.1 waits)

-- where it asked for the call of a deed
asked-less : (deed : Deed) (room : Bool) (m : RemoveFile) (c : Call) (mid : RemoveFile) → nexts.Send c ≡ removals.asked_next m deed room → mid ≡ removals.asked_after m deed room
    → (sent turn : Turn) (fault : Fault) (old : Shelf) (next : Step) (new : RemoveFile) (after : Shelf) → removals.Takes mid.deed mid sent turn (Err fault) old next new after
    → LessLeft next new.deed (Some deed)
asked-less deed true m c mid is now sent turn fault old next new after t waits =
    deed-less deed (removals.asked_after m deed true) sent turn fault old next new after
    (subst (λ (x : RemoveFile). removals.Takes x.deed x sent turn (Err fault) old next new after) now t) waits
asked-less deed false m c mid is now sent turn fault old next new after t waits = let no-way : nexts.Send c ≡ nexts.Wait = is in absurd cc

first-less : (any : Bool) (new : Option Deed) → removal_left new < removal_left (Some (removals.first_deed any)) → ⊥
first-less true new less = omega (arith, less)
first-less false new less = omega (arith, less)

remove-follows-never : (step : WalkStep) (room : Bool) (m : RemoveFile) (opens : Opens) (next : Step) (new : RemoveFile) → IsEnded step → removals.Follows step room m opens next new
    → next ≡ nexts.Wait → ⊥
remove-follows-never (walks.Send look) room m opens next new ended f waits = let no-way : nexts.Send look ≡ nexts.Wait = sym f.0 ∙ waits in absurd cc
remove-follows-never walks.Wait room m opens next new ended f waits = ended
remove-follows-never (walks.At dir) room m opens next new ended f waits = absurd ended
remove-follows-never (walks.Refused fault) room m opens next new ended f waits = let no-way : nexts.Done (answers.Refused fault) ≡ nexts.Wait = sym f.0 ∙ waits in absurd cc

-- its walk asked
walk-never-waits : (m mid : RemoveFile) → mid ≡ m → m.deed ≡ None → IsOut m.walk → (sent turn : Turn) (fault : Fault) (old : Shelf) (next : Step) (new : RemoveFile) (after : Shelf)
    → removals.Takes mid.deed mid sent turn (Err fault) old next new after → next ≡ nexts.Wait → ⊥
walk-never-waits m mid is none out sent turn fault old next new after t waits =
    let own : removals.Takes m.deed m sent turn (Err fault) old next new after = subst (λ (x : RemoveFile). removals.Takes x.deed x sent turn (Err fault) old next new after) is t in
    by (subst (λ (d : Option Deed). removals.Takes d m sent turn (Err fault) old next new after) none own)
  where
    by : removals.TakesWalk m sent turn (Err fault) old next new after → ⊥
    by w =
        let ended = walk-ends m.walk sent turn fault old w.step w.walked.walk after out w.takes in
        remove-follows-never w.step turn.room w.walked after.opens next new ended w.follows waits

walk-less : (step : WalkStep) (room : Bool) (m : RemoveFile) (opens : Opens) (c : Call) (mid : RemoveFile) → m.deed ≡ None → ((look : Call) → step ≡ walks.Send look → IsOut m.walk)
    → removals.Follows step room m opens (nexts.Send c) mid → (sent turn : Turn) (fault : Fault) (old : Shelf) (next : Step) (new : RemoveFile) (after : Shelf)
    → removals.Takes mid.deed mid sent turn (Err fault) old next new after → next ≡ nexts.Wait → ⊥
walk-less (walks.Send look) room m opens c mid none out f sent turn fault old next new after t waits = walk-never-waits m mid f.1 none (out look refl) sent turn fault old next new after t waits
walk-less walks.Wait room m opens c mid none out f sent turn fault old next new after t waits = let no-way : nexts.Send c ≡ nexts.Wait = f.0 in absurd cc
walk-less (walks.At dir) room m opens c mid none out f sent turn fault old next new after t waits =
    first-less f.any new.deed (asked-less (removals.first_deed f.any) room m c mid f.next_is f.machine_is sent turn fault old next new after t waits)
walk-less (walks.Refused fault) room m opens c mid none out f sent turn other old next new after t waits = let no-way : nexts.Send c ≡ nexts.Done (answers.Refused fault) = f.0 in absurd cc

goes-less : (deed : Option Deed) (m : RemoveFile) (turn : Turn) (old : Shelf) (c : Call) (mid : RemoveFile) (between : Shelf) → m.deed ≡ deed → removals.Goes deed m turn old (nexts.Send c) mid between
    → (sent then_turn : Turn) (fault : Fault) (next : Step) (new : RemoveFile) (after : Shelf) → removals.Takes mid.deed mid sent then_turn (Err fault) between next new after
    → next ≡ nexts.Wait → removal_left new.deed < removal_left deed
goes-less (Some deed) m turn old c mid between is g sent then_turn fault next new after t waits =
    asked-less deed turn.room m c mid g.next_is g.machine_is sent then_turn fault between next new after t waits
goes-less None m turn old c mid between is g sent then_turn fault next new after t waits =
    absurd (walk-less (go_next m.walk turn old) turn.room (record m { walk = go_after m.walk turn old }) old.opens c mid is (λ look e. walk-out m.walk turn old look e) g.follows
    sent then_turn fault between next new after t waits)

remove-less : (asked : Bool) (m : RemoveFile) (turn : Turn) (old : Shelf) (c : Call) (mid : RemoveFile) (between : Shelf) → removals.Resumes asked m turn old (nexts.Send c) mid between
    → (sent then_turn : Turn) (fault : Fault) (next : Step) (new : RemoveFile) (after : Shelf) → removals.Takes mid.deed mid sent then_turn (Err fault) between next new after
    → next ≡ nexts.Wait → removal_left new.deed < removal_left m.deed
remove-less true m turn old c mid between r sent then_turn fault next new after t waits = let no-way : nexts.Send c ≡ nexts.Wait = r.next_is in absurd cc
remove-less false m turn old c mid between r sent then_turn fault next new after t waits = goes-less m.deed m turn old c mid between refl r sent then_turn fault next new after t waits

-- ---- any of them

few-names : (m : NameMachine) → name_left m < 2
few-names (machines.Change m) = omega arith
few-names (machines.Stat m) = omega arith
few-names (machines.Access m) = omega arith
few-names (machines.ReadLink m) = omega arith
few-names (machines.Remove m) = by m.deed
  where
    by : (deed : Option Deed) → removal_left deed < 2
    by None = omega arith
    by (Some Look) = omega arith
    by (Some (Seek file to)) = omega arith
    by (Some (Move file to)) = omega arith
    by (Some Remove) = omega arith
few-names (machines.Rename m) = omega arith
few-names (machines.Link m) = omega arith
few-names (machines.SymLink m) = omega arith
few-names (machines.List m) = omega arith

pub few-left : (m : NameMachine) → name_left m < 2
few-left m = few-names m

pub names-end : (m : NameMachine) (turn : Turn) (old : Shelf) (c : Call) (mid : NameMachine) (between : Shelf) (sent : Turn) (fault : Fault) (next : Step) (new : NameMachine) (after : Shelf)
    → NameGoes m turn old (nexts.Send c) mid between → NameTakes mid turn sent (Err fault) between next new after → next ≡ nexts.Wait → name_left new < name_left m
names-end (machines.Change m) turn old c mid between sent fault next new after g t waits =
    let own = subst (λ (x : NameMachine). NameTakes x turn sent (Err fault) between next new after) g.machine_is t in
    let v = visiting.visit_after m.visit turn old in
    absurd (change-never-waits v.asked (deed_call m.deed m.name) (deed_told m.deed (Err fault)) v turn sent fault between next own.visit after refl
    (visit-out (deed_call m.deed m.name) m.visit turn old c (sym g.next_is)) own.step waits)
names-end (machines.Stat m) turn old c mid between sent fault next new after g t waits =
    let own = subst (λ (x : NameMachine). NameTakes x turn sent (Err fault) between next new after) g.machine_is t in
    let s = stats.stat_after m turn old in
    absurd (stat-never-waits s.asked s turn sent fault between next own.machine after refl (stat-out m turn old c (sym g.next_is)) own.step waits)
names-end (machines.Access m) turn old c mid between sent fault next new after g t waits =
    let own = subst (λ (x : NameMachine). NameTakes x turn sent (Err fault) between next new after) g.machine_is t in
    let v = visiting.visit_after m.visit turn old in
    absurd (show-never-waits v.asked (access_call m.bits) (access_attr (Err fault)) (access_told (Err fault)) v turn sent fault between next own.visit after refl
    (visit-out (access_call m.bits) m.visit turn old c (sym g.next_is)) own.step waits)
names-end (machines.ReadLink m) turn old c mid between sent fault next new after g t waits =
    let own = subst (λ (x : NameMachine). NameTakes x turn sent (Err fault) between next new after) g.machine_is t in
    let v = visiting.visit_after m.visit turn old in
    absurd (text-never-waits v.asked v turn sent fault between next own.visit after refl (visit-out text_call m.visit turn old c (sym g.next_is)) own.step waits)
names-end (machines.Remove m) turn old c mid between sent fault next new after g t waits =
    let own = subst (λ (x : NameMachine). NameTakes x turn sent (Err fault) between next new after) g.machine_is t in
    subst (λ (x : NameMachine). name_left x < removal_left m.deed) (sym own.machine_is)
    (remove-less m.asked m turn old c g.machine between g.step turn sent fault next own.machine after own.step waits)
names-end (machines.Rename m) turn old c mid between sent fault next new after g t waits =
    let own = subst (λ (x : NameMachine). NameTakes x turn sent (Err fault) between next new after) g.machine_is t in
    let p = pairs.pair_after m.pair turn old in
    absurd (rename-never-waits p.asked (record m { pair = p }) turn sent fault between next own.pair after refl (pair-out (rename_call m.from m.to) m.pair turn old c (sym g.next_is)) own.step waits)
names-end (machines.Link m) turn old c mid between sent fault next new after g t waits =
    let own = subst (λ (x : NameMachine). NameTakes x turn sent (Err fault) between next new after) g.machine_is t in
    let p = pairs.pair_after m.pair turn old in
    absurd (link-never-waits p.asked (record m { pair = p }) turn sent fault between next own.pair after refl (pair-out (link_call m.name) m.pair turn old c (sym g.next_is)) own.step waits)
names-end (machines.SymLink m) turn old c mid between sent fault next new after g t waits =
    let own = subst (λ (x : NameMachine). NameTakes x turn sent (Err fault) between next new after) g.machine_is t in
    let v = visiting.visit_after m.visit turn old in
    let call = sym_link_call m.name m.target in
    let sends = copy-sends call (visiting.visit_next m.visit turn old) (nexts.Send c) c g.next_is refl in
    absurd (sym-link-never-waits v.asked (record m { visit = v }) turn sent fault between next own.visit after refl (visit-out call m.visit turn old sends.0 sends.1) own.step waits)
names-end (machines.List m) turn old c mid between sent fault next new after g t waits =
    let own = subst (λ (x : NameMachine). NameTakes x turn sent (Err fault) between next new after) g.machine_is t in
    let v = visiting.visit_after m.visit turn old in
    absurd (list-never-waits v.asked (record m { visit = v }) turn sent fault between next own.machine after refl
    (visit-out (listing.page_call m.place) m.visit turn old c (sym g.next_is)) own.step waits)
