-- What holds of each LOOKUP that there is room for, and of each call of an operation on names, holds of each call that its steps ask for.
use Rattle.std.proofs.Common.{◌≡◌, ℕ, Bool, true, false, List, length, Option, Some, None, Result, Ok, Err, refl, sym, subst, ◌∙◌, inl, inr}
use Rattle.std.specs.Prelude.{if◌then◌else◌, ◌&&◌, nat_lt}
use Rattle.nfs_types.specs.declared.attr.Attr.{Attr}
use Rattle.attr_cache.specs.Attrs as attrs
use Rattle.open_files.specs.Slots.{Opens}
use Rattle.dir_list.specs.declared.progress.ListStep.{ListStep}
use Rattle.dir_list.specs.declared.progress.ListStep.TheVariants.{More, End}
use Rattle.dir_list.specs.declared.progress.ListFault.{ListFault}
use Rattle.dir_list.specs.Listings.{page_step}
use Rattle.world_model.specs.declared.answer.Answer.TheVariants as answers
use Rattle.world_model.specs.declared.answer.Fault.{Fault}
use Rattle.world_model.specs.declared.answer.Fault.TheVariants as faults
use Rattle.world_model.specs.declared.answer.Value.{Value}
use Rattle.world_model.specs.declared.answer.Value.TheVariants as values
use Rattle.world_model.specs.declared.message.Call.{Call}
use Rattle.world_model.specs.declared.message.Reply.{Reply}
use Rattle.silly_rename.specs.Plans.{plan_of}
use Rattle.client_shelf.specs.declared.repeats.Repeat.{Repeat}
use Rattle.client_shelf.specs.declared.shelf.Shelf.{Shelf}
use Rattle.client_shelf.specs.declared.turn.Turn.{Turn}
use Rattle.client_shelf.specs.declared.step.Step.{Step}
use Rattle.client_shelf.specs.declared.step.Step.TheVariants as nexts
use Rattle.client_shelf.specs.Busy.{fails_busy, goes_again}
use Rattle.client_shelf.specs.Repeats.{times_of, ended}
use Rattle.name_ops.specs.declared.link.Link.{Link}
use Rattle.name_ops.specs.declared.list_dir.ListDir.{ListDir}
use Rattle.name_ops.specs.declared.list_dir.PageHeard.{PageHeard}
use Rattle.name_ops.specs.declared.list_dir.PageStart.{PageStart}
use Rattle.name_ops.specs.declared.pair.Pair.{Pair}
use Rattle.name_ops.specs.declared.pair.PairStep.{PairStep}
use Rattle.name_ops.specs.declared.pair.PairStep.TheVariants as two
use Rattle.name_ops.specs.declared.remove_file.Deed.{Deed}
use Rattle.name_ops.specs.declared.remove_file.Deed.TheVariants.{Look, Seek, Move, Remove}
use Rattle.name_ops.specs.declared.remove_file.RemoveFile.{RemoveFile}
use Rattle.name_ops.specs.declared.rename.Rename.{Rename}
use Rattle.name_ops.specs.declared.stat.Stat.{Stat}
use Rattle.name_ops.specs.declared.sym_link.SymLink.{SymLink}
use Rattle.name_ops.specs.declared.told.Told.{Told}
use Rattle.name_ops.specs.declared.visit.Visit.{Visit}
use Rattle.name_ops.specs.declared.visit.VisitStep.{VisitStep}
use Rattle.name_ops.specs.declared.visit.VisitStep.TheVariants as visits
use Rattle.name_ops.specs.declared.walk.Walk.{Walk}
use Rattle.name_ops.specs.declared.walk.WalkStep.{WalkStep}
use Rattle.name_ops.specs.declared.walk.WalkStep.TheVariants as walks
use Rattle.name_ops.specs.Changing as changing
use Rattle.name_ops.specs.Link.{link_call, TakesLink}
use Rattle.name_ops.specs.ListDir as listing
use Rattle.name_ops.specs.Looking.{look_up, found_by, look_again}
use Rattle.name_ops.specs.Moving.{moved_told}
use Rattle.name_ops.specs.Pairs as pairs
use Rattle.name_ops.specs.ReadLink.{text_call, TakesText}
use Rattle.name_ops.specs.RemoveFile as removals
use Rattle.name_ops.specs.Rename.{rename_call, renamed_next, TakesRename}
use Rattle.name_ops.specs.Showing.{show_next, shown_answer, Shows, TakesShow}
use Rattle.name_ops.specs.Stat as stats
use Rattle.name_ops.specs.SymLink.{sym_link_call, sym_linked_told, SendsCopy, CopiesBy, ChangesByCopy, TakesSymLink, lacking}
use Rattle.name_ops.specs.Visiting as visiting
use Rattle.name_ops.specs.Walking.{asks, next_name, walked, arrived, on_next, go_next, go_shelf, told_next, followed_next, waiting_name, Takes}

-- ---- of the call that a step asks for, if it asks for one

abbrev pub Asks : (Call → Type 0) → Step → Type 0
Asks P (nexts.Send call) = P call
Asks P nexts.Wait = Unit {0}
Asks P (nexts.Done answer) = Unit {0}

abbrev pub WalkAsks : (Call → Type 0) → WalkStep → Type 0
WalkAsks P (walks.Send call) = P call
WalkAsks P walks.Wait = Unit {0}
WalkAsks P (walks.At object) = Unit {0}
WalkAsks P (walks.Refused fault) = Unit {0}

-- of every LOOKUP that there is room for
abbrev pub Looks : (Call → Type 0) → Bool → Type 0
Looks P room = room ≡ true → (dir name : List ℕ) → P (look_up dir name)

-- of every call on an object that there is room for
abbrev pub Calls : (Call → Type 0) → Bool → (List ℕ → Call) → Type 0
Calls P room call = room ≡ true → (object : List ℕ) → P (call object)

pub asks-call : (P : Call → Type 0) (next : Step) (call : Call) → Asks P next → next ≡ nexts.Send call → P call
asks-call P next call a e = subst (λ (n : Step). Asks P n) e a

pub asks-as : (P : Call → Type 0) (to next : Step) → next ≡ to → Asks P to → Asks P next
asks-as P to next is a = subst (λ (n : Step). Asks P n) (sym is) a

choose : {A : Type 0} → (Q : A → Type 0) (b : Bool) (x y : A) → (b ≡ true → Q x) → Q y → Q (if b then x else y)
choose Q true x y f g = f refl
choose Q false x y f g = g

and-first : (a b : Bool) → (a && b) ≡ true → a ≡ true
and-first true b e = refl
and-first false b e = absurd cc

and-second : (a b : Bool) → (a && b) ≡ true → b ≡ true
and-second true b e = e
and-second false b e = absurd cc

-- a call is made again only where there is room
pub again-room : (busy : Bool) (sent turn : Turn) (repeats : List Repeat) → goes_again busy sent turn repeats ≡ true → turn.room ≡ true
again-room busy sent turn repeats e =
    let fewer = nat_lt (times_of sent.xid repeats) 3 in
    let fits = nat_lt (length (ended sent.xid repeats)) 32 in
    and-second busy turn.room (and-first (busy && turn.room) fewer (and-first ((busy && turn.room) && fewer) fits e))

-- ---- walks

next-asks : (P : Call → Type 0) (room : Bool) (name : Option (List ℕ)) (w : Walk) → Looks P room → WalkAsks P (asks name room w)
next-asks P room None w looks = tt
next-asks P room (Some name) w looks = choose (λ (s : WalkStep). WalkAsks P s) room (walks.Send (look_up w.spot.dir name)) walks.Wait (λ r. looks r w.spot.dir name) tt

on-asks : (P : Call → Type 0) (w : Walk) (turn : Turn) (old : Shelf) → Looks P turn.room → WalkAsks P (on_next w turn old.attrs old.names)
on-asks P w turn old looks = next-asks P turn.room (next_name (walked w turn.now old.attrs old.names)) (walked w turn.now old.attrs old.names) looks

pub walk-asks : (P : Call → Type 0) (w : Walk) (turn : Turn) (old : Shelf) → Looks P turn.room → WalkAsks P (go_next w turn old)
walk-asks P w turn old looks = choose (λ (s : WalkStep). WalkAsks P s) w.asked walks.Wait (on_next w turn old.attrs old.names) (λ e. tt) (on-asks P w turn old looks)

told-asks : (P : Call → Type 0) (w : Walk) (told : Result (List ℕ) Fault) (turn : Turn) (heard : Shelf) → Looks P turn.room → WalkAsks P (told_next w told turn heard)
told-asks P w (Ok found) turn heard looks = on-asks P (arrived w found) turn heard looks
told-asks P w (Err fault) turn heard looks = tt

pub walk-takes-asks : (P : Call → Type 0) (name : Option (List ℕ)) (w : Walk) (sent turn : Turn) (came : Result Reply Fault) (old : Shelf) (next : WalkStep) (new : Walk) (after : Shelf)
    → Looks P turn.room → Takes name w sent turn came old next new after → WalkAsks P next
walk-takes-asks P (Some name) w sent turn came old next new after looks t =
    let busy = look_again sent turn came old in
    let followed : WalkAsks P (followed_next busy w name (found_by came) turn t.heard) =
    choose (λ (s : WalkStep). WalkAsks P s) busy (walks.Send (look_up w.spot.dir name)) (told_next w (found_by came) turn t.heard)
    (λ e. looks (again-room (fails_busy (found_by came)) sent turn old.repeats e) w.spot.dir name) (told-asks P w (found_by came) turn t.heard looks) in
    subst (λ (s : WalkStep). WalkAsks P s) (sym t.next_is) followed
walk-takes-asks P None w sent turn came old next new after looks t = subst (λ (s : WalkStep). WalkAsks P s) (sym t.next_is) tt

-- ---- a walk and a call

pub follow-asks : (P : Call → Type 0) (call : List ℕ → Call) (room : Bool) (step : WalkStep) → Calls P room call → WalkAsks P step → Asks P (visiting.next_by call (visiting.follow_next step room))
follow-asks P call room (walks.Send look) calls a = a
follow-asks P call room walks.Wait calls a = tt
follow-asks P call true (walks.At object) calls a = calls refl object
follow-asks P call false (walks.At object) calls a = tt
follow-asks P call room (walks.Refused fault) calls a = tt

pub visit-asks : (P : Call → Type 0) (call : List ℕ → Call) (v : Visit) (turn : Turn) (old : Shelf) → Looks P turn.room → Calls P turn.room call
    → Asks P (visiting.next_by call (visiting.visit_next v turn old))
visit-asks P call v turn old looks calls =
    choose (λ (s : VisitStep). Asks P (visiting.next_by call s)) v.asked visits.Wait (visiting.follow_next (go_next v.walk turn old) turn.room) (λ e. tt)
    (follow-asks P call turn.room (go_next v.walk turn old) calls (walk-asks P v.walk turn old looks))

pub walks-asks : (P : Call → Type 0) (call : List ℕ → Call) (v : Visit) (sent turn : Turn) (came : Result Reply Fault) (old : Shelf) (next : Step) (new : Visit) (after : Shelf)
    → Looks P turn.room → Calls P turn.room call → visiting.Walks call v sent turn came old next new after → Asks P next
walks-asks P call v sent turn came old next new after looks calls w =
    asks-as P (visiting.next_by call w.step) next w.next_is
    (subst (λ (s : VisitStep). Asks P (visiting.next_by call s)) (sym w.takes.next_is)
    (follow-asks P call turn.room w.takes.step calls
    (walk-takes-asks P (waiting_name v.walk) v.walk sent turn came old w.takes.step w.takes.walked.walk after looks w.takes.takes)))

changes-asks : (P : Call → Type 0) (dir : List ℕ) (call : Call) (told : Told) (sent turn : Turn) (old : Shelf) (next : Step) (after : Shelf)
    → (turn.room ≡ true → P call) → changing.Changes dir call told sent turn old next after → Asks P next
changes-asks P dir call told sent turn old next after calls c =
    let busy = changing.told_busy told.refusal in
    let again = goes_again busy sent turn old.repeats in
    asks-as P (changing.change_next again call told) next c.next_is
    (choose (λ (n : Step). Asks P n) again (nexts.Send call) (nexts.Done (changing.answer_of told.refusal)) (λ e. calls (again-room busy sent turn old.repeats e)) tt)

pub change-takes-asks : (P : Call → Type 0) (asked : Bool) (call : List ℕ → Call) (told : Told) (v : Visit) (sent turn : Turn) (came : Result Reply Fault) (old : Shelf) (next : Step) (new : Visit) (after : Shelf)
    → Looks P turn.room → Calls P turn.room call → changing.TakesChange asked call told v sent turn came old next new after → Asks P next
change-takes-asks P true call told v sent turn came old next new after looks calls t =
    changes-asks P v.walk.spot.dir (call v.walk.spot.dir) told sent turn old next after (λ r. calls r v.walk.spot.dir) t.1
change-takes-asks P false call told v sent turn came old next new after looks calls t = walks-asks P call v sent turn came old next new after looks calls t

shows-asks : (P : Call → Type 0) (object : List ℕ) (attr : Option Attr) (told : Result Value Fault) (call : Call) (sent turn : Turn) (old : Shelf) (next : Step) (after : Shelf)
    → (turn.room ≡ true → P call) → Shows object attr told call sent turn old next after → Asks P next
shows-asks P object attr told call sent turn old next after calls s =
    let again = goes_again (fails_busy told) sent turn old.repeats in
    asks-as P (show_next again call told) next s.next_is
    (choose (λ (n : Step). Asks P n) again (nexts.Send call) (nexts.Done (shown_answer told)) (λ e. calls (again-room (fails_busy told) sent turn old.repeats e)) tt)

pub show-takes-asks : (P : Call → Type 0) (asked : Bool) (call : List ℕ → Call) (attr : Option Attr) (told : Result Value Fault) (v : Visit) (sent turn : Turn) (came : Result Reply Fault) (old : Shelf)
    (next : Step) (new : Visit) (after : Shelf) → Looks P turn.room → Calls P turn.room call → TakesShow asked call attr told v sent turn came old next new after → Asks P next
show-takes-asks P true call attr told v sent turn came old next new after looks calls t =
    shows-asks P v.walk.spot.dir attr told (call v.walk.spot.dir) sent turn old next after (λ r. calls r v.walk.spot.dir) t.1
show-takes-asks P false call attr told v sent turn came old next new after looks calls t = walks-asks P call v sent turn came old next new after looks calls t

pub text-takes-asks : (P : Call → Type 0) (asked : Bool) (v : Visit) (sent turn : Turn) (came : Result Reply Fault) (old : Shelf) (next : Step) (new : Visit) (after : Shelf)
    → Looks P turn.room → Calls P turn.room text_call → TakesText asked v sent turn came old next new after → Asks P next
text-takes-asks P true v sent turn came old next new after looks calls t =
    shows-asks P v.walk.spot.dir _ t.1.told (text_call v.walk.spot.dir) sent turn old next after (λ r. calls r v.walk.spot.dir) t.1.shows
text-takes-asks P false v sent turn came old next new after looks calls t = walks-asks P text_call v sent turn came old next new after looks calls t

-- ---- a call with a copy

copies-asks : (P : Call → Type 0) (call : Call) (next : Step) → P call → SendsCopy call next → Asks P next
copies-asks P call next p (inl e) = asks-as P (nexts.Send call) next e p
copies-asks P call next p (inr e) = asks-as P (nexts.Done (answers.Refused faults.Memory)) next e tt

pub copy-follow-asks : (P : Call → Type 0) (call : List ℕ → Call) (room : Bool) (step : WalkStep) (next : Step) → Calls P room call → WalkAsks P step
    → CopiesBy call (visiting.follow_next step room) next → Asks P next
copy-follow-asks P call room (walks.Send look) next calls a c = asks-as P (nexts.Send look) next c a
copy-follow-asks P call room walks.Wait next calls a c = asks-as P nexts.Wait next c tt
copy-follow-asks P call true (walks.At object) next calls a c = copies-asks P (call object) next (calls refl object) c
copy-follow-asks P call false (walks.At object) next calls a c = asks-as P nexts.Wait next c tt
copy-follow-asks P call room (walks.Refused fault) next calls a c = asks-as P (nexts.Done (answers.Refused fault)) next c tt

pub copy-asks : (P : Call → Type 0) (call : List ℕ → Call) (v : Visit) (turn : Turn) (old : Shelf) (next : Step) → Looks P turn.room → Calls P turn.room call
    → CopiesBy call (visiting.visit_next v turn old) next → Asks P next
copy-asks P call v turn old next looks calls c = by v.asked c
  where
    by : (b : Bool) → CopiesBy call (if b then visits.Wait else visiting.follow_next (go_next v.walk turn old) turn.room) next → Asks P next
    by true c = asks-as P nexts.Wait next c tt
    by false c = copy-follow-asks P call turn.room (go_next v.walk turn old) next calls (walk-asks P v.walk turn old looks) c

pub sym-link-takes-asks : (P : Call → Type 0) (asked : Bool) (m : SymLink) (sent turn : Turn) (came : Result Reply Fault) (old : Shelf) (next : Step) (new : Visit) (after : Shelf)
    → Looks P turn.room → Calls P turn.room (sym_link_call m.name m.target) → TakesSymLink asked m sent turn came old next new after → Asks P next
sym-link-takes-asks P true m sent turn came old next new after looks calls t = by t.1
  where
    dir : List ℕ
    dir = m.visit.walk.spot.dir

    by : ChangesByCopy dir (sym_link_call m.name m.target dir) (sym_linked_told came) sent turn old next after → Asks P next
    by (inl c) = changes-asks P dir (sym_link_call m.name m.target dir) _ sent turn old next after (λ r. calls r dir) c
    by (inr c) = changes-asks P dir (sym_link_call m.name m.target dir) _ sent turn old next after (λ r. calls r dir) c.1
sym-link-takes-asks P false m sent turn came old next new after looks calls t =
    copy-follow-asks P (sym_link_call m.name m.target) turn.room t.takes.step next calls
    (walk-takes-asks P (waiting_name m.visit.walk) m.visit.walk sent turn came old t.takes.step t.takes.walked.walk after looks t.takes.takes)
    (subst (λ (s : VisitStep). CopiesBy (sym_link_call m.name m.target) s next) t.takes.next_is t.next_is)

-- ---- pages of a directory

-- of every page that there is room for
abbrev pub Pages : (Call → Type 0) → Bool → Type 0
Pages P room = room ≡ true → (place : PageStart) (dir : List ℕ) → P (listing.page_call place dir)

step-asks : (P : Call → Type 0) (step : Result ListStep ListFault) (heard : PageHeard) (room : Bool) (m : ListDir) (next : Step) (new : ListDir) → Pages P room
    → listing.TakesStep step heard room m next new → Asks P next
step-asks P (Ok (More cookie verf)) heard room m next new pages s =
    asks-as P (listing.more_next (record { cookie = cookie; verf = verf }) room m) next s.0
    (choose (λ (n : Step). Asks P n) room (nexts.Send (listing.page_call (record { cookie = cookie; verf = verf }) m.visit.walk.spot.dir)) nexts.Wait
    (λ r. pages r (record { cookie = cookie; verf = verf }) m.visit.walk.spot.dir) tt)
step-asks P (Ok End) heard room m next new pages s = asks-as P (nexts.Done (answers.Done (values.Names s.names))) next s.next_is tt
step-asks P (Err fault) heard room m next new pages s = asks-as P (nexts.Done (answers.Refused (listing.refusal_of fault))) next s.0 tt

heard-asks : (P : Call → Type 0) (heard : Result PageHeard Fault) (again room : Bool) (m : ListDir) (next : Step) (new : ListDir) → (again ≡ true → room ≡ true) → Pages P room
    → listing.Follows heard again room m next new → Asks P next
heard-asks P (Ok heard) again room m next new has pages (inl f) = asks-as P (nexts.Done (answers.Refused faults.Memory)) next f.0 tt
heard-asks P (Ok heard) again room m next new has pages (inr f) = step-asks P (page_step m.listing heard.page heard.verf heard.eof) heard room m next new pages f
heard-asks P (Err fault) again room m next new has pages f =
    asks-as P (listing.refused_next again fault m) next f.0
    (choose (λ (n : Step). Asks P n) again (nexts.Send (listing.page_call m.place m.visit.walk.spot.dir)) (nexts.Done (answers.Refused fault))
    (λ e. pages (has e) m.place m.visit.walk.spot.dir) tt)

pub list-takes-asks : (P : Call → Type 0) (asked : Bool) (m : ListDir) (sent turn : Turn) (came : Result Reply Fault) (old : Shelf) (next : Step) (new : ListDir) (after : Shelf)
    → Looks P turn.room → Pages P turn.room → listing.TakesList asked m sent turn came old next new after → Asks P next
list-takes-asks P true m sent turn came old next new after looks pages t =
    let busy = fails_busy (listing.page_heard came) in
    heard-asks P (listing.page_heard came) (goes_again busy sent turn old.repeats) turn.room m next new (again-room busy sent turn old.repeats) pages t.follows
list-takes-asks P false m sent turn came old next new after looks pages t =
    walks-asks P (listing.page_call m.place) m.visit sent turn came old next t.visit after looks (λ r dir. pages r m.place dir) t.walks

-- ---- stats

stat-follow-asks : (P : Call → Type 0) (step : WalkStep) (turn : Turn) (known : attrs.Attrs) → Calls P turn.room stats.get_attr → WalkAsks P step → Asks P (stats.follow_next step turn known)
stat-follow-asks P (walks.Send look) turn known calls a = a
stat-follow-asks P walks.Wait turn known calls a = tt
stat-follow-asks P (walks.At object) turn known calls a = by (attrs.looked object turn.now known)
  where
    by : (found : Option Attr) → Asks P (stats.ask_next found object turn.room)
    by (Some attr) = tt
    by None = choose (λ (n : Step). Asks P n) turn.room (nexts.Send (stats.get_attr object)) nexts.Wait (λ r. calls r object) tt
stat-follow-asks P (walks.Refused fault) turn known calls a = tt

pub stat-asks : (P : Call → Type 0) (m : Stat) (turn : Turn) (old : Shelf) → Looks P turn.room → Calls P turn.room stats.get_attr → Asks P (stats.stat_next m turn old)
stat-asks P m turn old looks calls =
    choose (λ (n : Step). Asks P n) m.asked nexts.Wait (stats.follow_next (go_next m.walk turn old) turn old.attrs) (λ e. tt)
    (stat-follow-asks P (go_next m.walk turn old) turn old.attrs calls (walk-asks P m.walk turn old looks))

pub stat-takes-asks : (P : Call → Type 0) (asked : Bool) (m : Stat) (sent turn : Turn) (came : Result Reply Fault) (old : Shelf) (next : Step) (new : Stat) (after : Shelf)
    → Looks P turn.room → Calls P turn.room stats.get_attr → stats.StatTakes asked m sent turn came old next new after → Asks P next
stat-takes-asks P true m sent turn came old next new after looks calls t =
    shows-asks P m.walk.spot.dir (stats.got_attr came) (stats.got_told came) (stats.get_attr m.walk.spot.dir) sent turn old next after (λ r. calls r m.walk.spot.dir) t.1
stat-takes-asks P false m sent turn came old next new after looks calls t =
    asks-as P (stats.follow_next t.step turn after.attrs) next t.next_is
    (stat-follow-asks P t.step turn after.attrs calls (walk-takes-asks P (waiting_name m.walk) m.walk sent turn came old t.step t.walked.walk after looks t.takes))

-- ---- two walks and a call

-- of every call on two objects that there is room for
abbrev pub PairCalls : (Call → Type 0) → Bool → (List ℕ → List ℕ → Call) → Type 0
PairCalls P room call = room ≡ true → (first second : List ℕ) → P (call first second)

second-asks : (P : Call → Type 0) (call : List ℕ → List ℕ → Call) (room : Bool) (first : List ℕ) (step : WalkStep) → PairCalls P room call → WalkAsks P step
    → Asks P (pairs.next_by call (pairs.led_second first step room))
second-asks P call room first (walks.Send look) calls a = a
second-asks P call room first walks.Wait calls a = tt
second-asks P call true first (walks.At second) calls a = calls refl first second
second-asks P call false first (walks.At second) calls a = tt
second-asks P call room first (walks.Refused fault) calls a = tt

first-asks : (P : Call → Type 0) (call : List ℕ → List ℕ → Call) (step : WalkStep) (p : Pair) (turn : Turn) (old : Shelf) → Looks P turn.room → PairCalls P turn.room call → WalkAsks P step
    → Asks P (pairs.next_by call (pairs.led_first step p turn old))
first-asks P call (walks.Send look) p turn old looks calls a = a
first-asks P call walks.Wait p turn old looks calls a = tt
first-asks P call (walks.At first) p turn old looks calls a = second-asks P call turn.room first (go_next p.second turn old) calls (walk-asks P p.second turn old looks)
first-asks P call (walks.Refused fault) p turn old looks calls a = tt

pub pair-asks : (P : Call → Type 0) (call : List ℕ → List ℕ → Call) (p : Pair) (turn : Turn) (old : Shelf) → Looks P turn.room → PairCalls P turn.room call
    → Asks P (pairs.next_by call (pairs.pair_next p turn old))
pair-asks P call p turn old looks calls =
    choose (λ (s : PairStep). Asks P (pairs.next_by call s)) (pairs.waits p) two.Wait (pairs.on_next p turn old) (λ e. tt)
    (first-asks P call (go_next p.first turn old) (pairs.walked_first p turn old) turn (go_shelf p.first turn old) looks calls (walk-asks P p.first turn old looks))

pair-takes-asks : (P : Call → Type 0) (call : List ℕ → List ℕ → Call) (first : Bool) (p : Pair) (sent turn : Turn) (came : Result Reply Fault) (old : Shelf) (next : PairStep) (new : Pair) (after : Shelf)
    → Looks P turn.room → PairCalls P turn.room call → pairs.PairTakes first p sent turn came old next new after → Asks P (pairs.next_by call next)
pair-takes-asks P call true p sent turn came old next new after looks calls t =
    subst (λ (s : PairStep). Asks P (pairs.next_by call s)) (sym t.next_is)
    (first-asks P call t.step t.walked turn t.heard looks calls (walk-takes-asks P (waiting_name p.first) p.first sent turn came old t.step t.walked.first t.heard looks t.takes))
pair-takes-asks P call false p sent turn came old next new after looks calls t =
    subst (λ (s : PairStep). Asks P (pairs.next_by call s)) (sym t.next_is)
    (second-asks P call turn.room p.first.spot.dir t.step calls (walk-takes-asks P (waiting_name p.second) p.second sent turn came old t.step t.walked.second after looks t.takes))

pair-walks-asks : (P : Call → Type 0) (call : List ℕ → List ℕ → Call) (p : Pair) (sent turn : Turn) (came : Result Reply Fault) (old : Shelf) (next : Step) (new : Pair) (after : Shelf)
    → Looks P turn.room → PairCalls P turn.room call → pairs.Walks call p sent turn came old next new after → Asks P next
pair-walks-asks P call p sent turn came old next new after looks calls w =
    asks-as P (pairs.next_by call w.step) next w.next_is (pair-takes-asks P call p.first.asked p sent turn came old w.step new after looks calls w.takes)

pub rename-takes-asks : (P : Call → Type 0) (asked : Bool) (m : Rename) (sent turn : Turn) (came : Result Reply Fault) (old : Shelf) (next : Step) (new : Pair) (after : Shelf)
    → Looks P turn.room → PairCalls P turn.room (rename_call m.from m.to) → TakesRename asked m sent turn came old next new after → Asks P next
rename-takes-asks P true m sent turn came old next new after looks calls t =
    let told = moved_told came in
    let busy = changing.told_busy told.refusal in
    let again = goes_again busy sent turn old.repeats in
    let call = rename_call m.from m.to m.pair.first.spot.dir m.pair.second.spot.dir in
    asks-as P (renamed_next again call told) next t.1.next_is
    (choose (λ (n : Step). Asks P n) again (nexts.Send call) (nexts.Done (changing.answer_of told.refusal))
    (λ e. calls (again-room busy sent turn old.repeats e) m.pair.first.spot.dir m.pair.second.spot.dir) tt)
rename-takes-asks P false m sent turn came old next new after looks calls t = pair-walks-asks P (rename_call m.from m.to) m.pair sent turn came old next new after looks calls t

pub link-takes-asks : (P : Call → Type 0) (asked : Bool) (m : Link) (sent turn : Turn) (came : Result Reply Fault) (old : Shelf) (next : Step) (new : Pair) (after : Shelf)
    → Looks P turn.room → PairCalls P turn.room (link_call m.name) → TakesLink asked m sent turn came old next new after → Asks P next
link-takes-asks P true m sent turn came old next new after looks calls t =
    let first = m.pair.first.spot.dir in
    let second = m.pair.second.spot.dir in
    changes-asks P second (link_call m.name first second) _ sent turn old next after (λ r. calls r first second) t.1
link-takes-asks P false m sent turn came old next new after looks calls t = pair-walks-asks P (link_call m.name) m.pair sent turn came old next new after looks calls t

-- ---- removals of names

-- of every call in the directory that there is room for
abbrev pub Deeds : (Call → Type 0) → Bool → Type 0
Deeds P room = room ≡ true → (m : RemoveFile) (deed : Deed) → P (removals.call_of m deed)

asked-asks : (P : Call → Type 0) (m : RemoveFile) (deed : Deed) (room : Bool) (next : Step) → Deeds P room → next ≡ removals.asked_next m deed room → Asks P next
asked-asks P m deed room next deeds is =
    asks-as P (removals.asked_next m deed room) next is
    (choose (λ (n : Step). Asks P n) room (nexts.Send (removals.call_of m deed)) nexts.Wait (λ r. deeds r m deed) tt)

follows-asks : (P : Call → Type 0) (step : WalkStep) (room : Bool) (m : RemoveFile) (opens : Opens) (next : Step) (new : RemoveFile) → Deeds P room → WalkAsks P step
    → removals.Follows step room m opens next new → Asks P next
follows-asks P (walks.Send look) room m opens next new deeds a f = asks-as P (nexts.Send look) next f.0 a
follows-asks P walks.Wait room m opens next new deeds a f = asks-as P nexts.Wait next f.0 tt
follows-asks P (walks.At dir) room m opens next new deeds a f = asked-asks P m (removals.first_deed f.any) room next deeds f.next_is
follows-asks P (walks.Refused fault) room m opens next new deeds a f = asks-as P (nexts.Done (answers.Refused fault)) next f.0 tt

goes-asks : (P : Call → Type 0) (deed : Option Deed) (m : RemoveFile) (turn : Turn) (old : Shelf) (next : Step) (new : RemoveFile) (after : Shelf) → Looks P turn.room → Deeds P turn.room
    → removals.Goes deed m turn old next new after → Asks P next
goes-asks P (Some deed) m turn old next new after looks deeds g = asked-asks P m deed turn.room next deeds g.next_is
goes-asks P None m turn old next new after looks deeds g = follows-asks P (go_next m.walk turn old) turn.room _ old.opens next new deeds (walk-asks P m.walk turn old looks) g.follows

pub remove-asks : (P : Call → Type 0) (asked : Bool) (m : RemoveFile) (turn : Turn) (old : Shelf) (next : Step) (new : RemoveFile) (after : Shelf) → Looks P turn.room → Deeds P turn.room
    → removals.Resumes asked m turn old next new after → Asks P next
remove-asks P true m turn old next new after looks deeds r = asks-as P nexts.Wait next r.next_is tt
remove-asks P false m turn old next new after looks deeds r = goes-asks P m.deed m turn old next new after looks deeds r

look-asks : (P : Call → Type 0) (again : Bool) (told : Result (List ℕ) Fault) (m : RemoveFile) (room : Bool) (old : Shelf) (next : Step) (new : RemoveFile) (after : Shelf)
    → (again ≡ true → room ≡ true) → Deeds P room → removals.FollowsLook again told m room old next new after → Asks P next
look-asks P true told m room old next new after has deeds f = asks-as P (nexts.Send (removals.call_of m Look)) next f.next_is (deeds (has refl) m Look)
look-asks P false (Ok file) m room old next new after has deeds f = asked-asks P m (removals.deed_of file _) room next deeds f.plans.next_is
look-asks P false (Err fault) m room old next new after has deeds f = asks-as P (nexts.Done (answers.Refused fault)) next f.next_is tt

missed-asks : (P : Call → Type 0) (missing : Bool) (fault : Fault) (file to : List ℕ) (m : RemoveFile) (room : Bool) (next : Step) → Deeds P room
    → next ≡ removals.missed_next missing fault file to m room → Asks P next
missed-asks P true fault file to m room next deeds is = asked-asks P m (Move file to) room next deeds is
missed-asks P false fault file to m room next deeds is = asks-as P (nexts.Done (answers.Refused fault)) next is tt

seek-asks : (P : Call → Type 0) (again : Bool) (told : Result (List ℕ) Fault) (file to : List ℕ) (m : RemoveFile) (room : Bool) (old : Shelf) (next : Step) (new : RemoveFile) (after : Shelf)
    → (again ≡ true → room ≡ true) → Deeds P room → removals.FollowsSeek again told file to m room old next new after → Asks P next
seek-asks P true told file to m room old next new after has deeds f = asks-as P (nexts.Send (removals.call_of m (Seek file to))) next f.next_is (deeds (has refl) m (Seek file to))
seek-asks P false (Ok found) file to m room old next new after has deeds f = asked-asks P m (removals.deed_of file (plan_of true old.counter)) room next deeds f.next_is
seek-asks P false (Err fault) file to m room old next new after has deeds f = missed-asks P (removals.is_missing fault) fault file to m room next deeds f.next_is

moved-asks : (P : Call → Type 0) (again : Bool) (refusal : Option Fault) (file to : List ℕ) (m : RemoveFile) (room : Bool) (old new : removals.Places) (next : Step)
    → (again ≡ true → room ≡ true) → Deeds P room → removals.EndsMove again refusal file to m old next new → Asks P next
moved-asks P true refusal file to m room old new next has deeds e = asks-as P (nexts.Send (removals.call_of m (Move file to))) next e.0 (deeds (has refl) m (Move file to))
moved-asks P false None file to m room old new next has deeds (inl e) = asks-as P (nexts.Done (answers.Done values.Nothing)) next e.0 tt
moved-asks P false None file to m room old new next has deeds (inr e) = asks-as P (nexts.Done (answers.Refused faults.Memory)) next e.0 tt
moved-asks P false (Some fault) file to m room old new next has deeds e = asks-as P (nexts.Done (answers.Refused fault)) next e.0 tt

deed-asks : (P : Call → Type 0) (deed : Deed) (m : RemoveFile) (sent turn : Turn) (came : Result Reply Fault) (old : Shelf) (next : Step) (new : RemoveFile) (after : Shelf)
    → Deeds P turn.room → removals.TakesDeed deed m sent turn came old next new after → Asks P next
deed-asks P Look m sent turn came old next new after deeds t =
    look-asks P (look_again sent turn came old) (found_by came) m turn.room t.heard next new after (again-room (fails_busy (found_by came)) sent turn old.repeats) deeds t.follows
deed-asks P (Seek file to) m sent turn came old next new after deeds t =
    seek-asks P (look_again sent turn came old) (found_by came) file to m turn.room t.heard next new after (again-room (fails_busy (found_by came)) sent turn old.repeats) deeds t.follows
deed-asks P (Move file to) m sent turn came old next new after deeds t =
    let told = moved_told came in
    let busy = changing.told_busy told.refusal in
    moved-asks P (removals.move_again sent turn came old) told.refusal file to m turn.room old.silly after.silly next (again-room busy sent turn old.repeats) deeds t.1.ends
deed-asks P Remove m sent turn came old next new after deeds t =
    changes-asks P m.walk.spot.dir (removals.call_of m Remove) (removals.removed_told came) sent turn old next after (λ r. deeds r m Remove) t.1

if-asks : (P : Call → Type 0) (asked : Bool) (deed : Deed) (m : RemoveFile) (sent turn : Turn) (came : Result Reply Fault) (old : Shelf) (next : Step) (new : RemoveFile) (after : Shelf)
    → Deeds P turn.room → removals.TakesIf asked deed m sent turn came old next new after → Asks P next
if-asks P true deed m sent turn came old next new after deeds t = deed-asks P deed m sent turn came old next new after deeds t
if-asks P false deed m sent turn came old next new after deeds t = asks-as P nexts.Wait next t.next_is tt

pub remove-takes-asks : (P : Call → Type 0) (deed : Option Deed) (m : RemoveFile) (sent turn : Turn) (came : Result Reply Fault) (old : Shelf) (next : Step) (new : RemoveFile) (after : Shelf)
    → Looks P turn.room → Deeds P turn.room → removals.Takes deed m sent turn came old next new after → Asks P next
remove-takes-asks P (Some deed) m sent turn came old next new after looks deeds t = if-asks P m.asked deed m sent turn came old next new after deeds t
remove-takes-asks P None m sent turn came old next new after looks deeds t =
    follows-asks P t.step turn.room t.walked after.opens next new deeds
    (walk-takes-asks P (waiting_name m.walk) m.walk sent turn came old t.step t.walked.walk after looks t.takes) t.follows
