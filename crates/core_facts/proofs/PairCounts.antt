-- How many calls of an operation on two paths, and of a removal, wait after each of its steps; and of any operation on names.
use Rattle.core_facts.proofs.Prelude.{◌≡◌, ◌+◌, ◌||◌, ℕ, Bool, true, false, List, Option, Some, None, Result, Ok, Err, inl, inr, refl, sym, ap, subst, ◌∙◌, arith, if◌then◌else◌, Opens, plan_of, Fault, Call, Reply, Step, Shelf, Turn, Link, Pair, PairStep, Deed, Look, Seek, Move, RemoveFile, Rename, Visit, Walk, WalkStep, access_call, access_attr, access_told, deed_call, deed_told, link_call, TakesLink, found_by, look_again, moved_told, text_call, rename_call, TakesRename, sym_link_call, NameMachine, one_if, of_walk, of_visit, pair_by, of_pair, of_stat, of_names}
use Rattle.name_ops.specs.declared.remove_file.Deed.TheVariants.{Remove}
use Rattle.core_facts.specs.InFlight.{removal_by, of_removal}
use Rattle.world_model.specs.declared.answer.Answer.TheVariants as answers
use Rattle.world_model.specs.declared.answer.Fault.TheVariants as faults
use Rattle.world_model.specs.declared.answer.Value.TheVariants as values
use Rattle.name_ops.specs.declared.pair.PairStep.TheVariants as two
use Rattle.name_ops.specs.declared.walk.WalkStep.TheVariants as walks
use Rattle.name_ops.specs.ListDir as listing
use Rattle.name_ops.specs.Pairs as pairs
use Rattle.name_ops.specs.RemoveFile as removals
use Rattle.name_ops.specs.Stat as stats
use Rattle.name_ops.specs.Visiting as visiting
use Rattle.name_ops.specs.Walking as walking
use Rattle.op_machines.specs.declared.name_machine.NameMachine.TheVariants as machines
use Rattle.op_machines.specs.NameSteps as steps
use Rattle.core_facts.proofs.NameCounts.{leaves-as, sends-leaves, waits-leaves, done-leaves, again-leaves, Plain, leaves-after, one-left, WalkGoes, WalkCounts, unasked, on-walk, walk-counts, walk-takes, took-counts, visit-leaves, copy-leaves, change-leaves, access-leaves, text-leaves, link-text-leaves, stat-leaves, stat-took, list-took}

-- ---- two walks and a call

abbrev pub PairCounts : PairStep → ℕ → ℕ → Type 0
PairCounts (two.Look call) before after = after ≡ before + 1
PairCounts two.Wait before after = after ≡ before
PairCounts (two.Ask first second) before after = after ≡ before + 1
PairCounts (two.Refused fault) before after = before ≡ 0

pair-as : (p : Pair) (a b c : Bool) → p.asked ≡ a → p.first.asked ≡ b → p.second.asked ≡ c → of_pair p ≡ pair_by a b c (of_walk p.first) (of_walk p.second)
pair-as p a b c asked first second =
    ap (λ (x : Bool). pair_by x p.first.asked p.second.asked (of_walk p.first) (of_walk p.second)) asked
    ∙ ap (λ (x : Bool). pair_by a x p.second.asked (of_walk p.first) (of_walk p.second)) first
    ∙ ap (λ (x : Bool). pair_by a b x (of_walk p.first) (of_walk p.second)) second

pair-own : (p : Pair) (others : ℕ) → p.asked ≡ true → of_pair p ≡ others + 1 → others ≡ 0
pair-own p others asked one =
    let own : of_pair p ≡ 1 = pair-as p true p.first.asked p.second.asked asked refl refl in omega (arith, own, one)

led-second : (first : List ℕ) (step : WalkStep) (room : Bool) (p : Pair) (before : ℕ) → before ≡ 0 → p.asked ≡ false → p.first.asked ≡ false → WalkGoes step p.second
    → PairCounts (pairs.led_second first step room) before (of_pair (pairs.second_kept step room p))
led-second first (walks.Send call) room p before none asked idle g =
    let own : of_pair p ≡ of_walk p.second = pair-as p false false true asked idle g.0 in
    let one = g.1 in omega (arith, own, one, none)
led-second first walks.Wait room p before none asked idle g =
    let own : of_pair p ≡ of_walk p.second = pair-as p false false false asked idle g in own ∙ unasked p.second g ∙ sym none
led-second first (walks.At object) true p before none asked idle g = omega (arith, none)
led-second first (walks.At object) false p before none asked idle g =
    let own : of_pair p ≡ of_walk p.second = pair-as p false false false asked idle g in own ∙ unasked p.second g ∙ sym none
led-second first (walks.Refused fault) room p before none asked idle g = none

go-walk : (b : Bool) (w : Walk) (turn : Turn) (shelf : Shelf) → b ≡ false → w.asked ≡ b
    → WalkGoes (if b then walks.Wait else walking.on_next w turn shelf.attrs shelf.names) (if b then w else walking.on_after w turn shelf.attrs shelf.names)
go-walk true w turn shelf idle is = absurd cc
go-walk false w turn shelf idle is = on-walk w turn shelf is

led-first : (step : WalkStep) (p : Pair) (turn : Turn) (shelf : Shelf) (before : ℕ) → before ≡ 0 → p.asked ≡ false → p.second.asked ≡ false → WalkGoes step p.first
    → PairCounts (pairs.led_first step p turn shelf) before (of_pair (pairs.first_kept step p turn shelf))
led-first (walks.Send call) p turn shelf before none asked idle g =
    let own : of_pair p ≡ of_walk p.first = pair-as p false true false asked g.0 idle in
    let one = g.1 in omega (arith, own, one, none)
led-first walks.Wait p turn shelf before none asked idle g =
    let own : of_pair p ≡ of_walk p.second = pair-as p false false false asked g idle in own ∙ unasked p.second idle ∙ sym none
led-first (walks.At object) p turn shelf before none asked idle g =
    led-second object (walking.go_next p.second turn shelf) turn.room (record p { second = walking.go_after p.second turn shelf }) before none asked g
    (go-walk p.second.asked p.second turn shelf idle refl)
led-first (walks.Refused fault) p turn shelf before none asked idle g = none

or-left : (a b : Bool) → (a || b) ≡ false → a ≡ false
or-left true b e = absurd cc
or-left false b e = refl

or-right : (a b : Bool) → (a || b) ≡ false → b ≡ false
or-right true b e = absurd cc
or-right false b e = e

pair-on : (b : Bool) (p : Pair) (turn : Turn) (shelf : Shelf) → p.first.asked ≡ b → p.asked ≡ false → p.second.asked ≡ false
    → PairCounts
    (pairs.led_first (if b then walks.Wait else walking.on_next p.first turn shelf.attrs shelf.names)
    (record p { first = if b then p.first else walking.on_after p.first turn shelf.attrs shelf.names }) turn (walking.go_shelf p.first turn shelf))
    (of_pair p)
    (of_pair (pairs.first_kept (if b then walks.Wait else walking.on_next p.first turn shelf.attrs shelf.names)
    (record p { first = if b then p.first else walking.on_after p.first turn shelf.attrs shelf.names }) turn (walking.go_shelf p.first turn shelf)))
pair-on true p turn shelf is asked idle = refl
pair-on false p turn shelf is asked idle =
    let own : of_pair p ≡ of_walk p.second = pair-as p false false false asked is idle in
    led-first (walking.on_next p.first turn shelf.attrs shelf.names) (record p { first = walking.on_after p.first turn shelf.attrs shelf.names }) turn (walking.go_shelf p.first turn shelf)
    (of_pair p) (own ∙ unasked p.second idle) asked idle (on-walk p.first turn shelf is)

pair-if : (b : Bool) (p : Pair) (turn : Turn) (shelf : Shelf) → (p.asked || p.second.asked) ≡ b
    → PairCounts (if b then two.Wait else pairs.on_next p turn shelf) (of_pair p) (of_pair (if b then p else pairs.on_after p turn shelf))
pair-if true p turn shelf is = refl
pair-if false p turn shelf is = pair-on p.first.asked p turn shelf refl (or-left p.asked p.second.asked is) (or-right p.asked p.second.asked is)

pair-took : (b : Bool) (p : Pair) (sent turn : Turn) (came : Result Reply Fault) (old : Shelf) (next : PairStep) (new : Pair) (after : Shelf) (others : ℕ)
    → p.asked ≡ false → p.first.asked ≡ b → of_pair p ≡ others + 1 → pairs.PairTakes b p sent turn came old next new after → PairCounts next others (of_pair new)
pair-took true p sent turn came old next new after others asked is one t = by p.second.asked refl
  where
    by : (c : Bool) → p.second.asked ≡ c → PairCounts next others (of_pair new)
    by true both = absurd (let own : of_pair p ≡ 0 = pair-as p false true true asked is both in omega (arith, own, one))
    by false idle =
        let own : of_pair p ≡ of_walk p.first = pair-as p false true false asked is idle in
        let took = walk-takes p.first sent turn came old t.step t.walked.first t.heard others (sym own ∙ one) t.takes in
        let here = led-first t.step t.walked turn t.heard others took.none (ap (λ (w : Pair). w.asked) t.walked_is ∙ asked)
        (ap (λ (w : Pair). w.second.asked) t.walked_is ∙ idle) took.goes in
        subst (λ (n : PairStep). PairCounts n others (of_pair new)) (sym t.next_is)
        (subst (λ (w : Pair). PairCounts (pairs.led_first t.step t.walked turn t.heard) others (of_pair w)) (sym t.pair_is) here)
pair-took false p sent turn came old next new after others asked is one t =
    let own : of_pair p ≡ of_walk p.second = pair-as p false false p.second.asked asked is refl in
    let took = walk-takes p.second sent turn came old t.step t.walked.second after others (sym own ∙ one) t.takes in
    let here = led-second p.first.spot.dir t.step turn.room t.walked others took.none (ap (λ (w : Pair). w.asked) t.walked_is ∙ asked)
    (ap (λ (w : Pair). w.first.asked) t.walked_is ∙ is) took.goes in
    subst (λ (n : PairStep). PairCounts n others (of_pair new)) (sym t.next_is)
    (subst (λ (w : Pair). PairCounts (pairs.led_second p.first.spot.dir t.step turn.room) others (of_pair w)) (sym t.pair_is) here)

next-by : (call : List ℕ → List ℕ → Call) (step : PairStep) (before after : ℕ) → PairCounts step before after → Plain (pairs.next_by call step) before after
next-by call (two.Look look) before after c = (c, tt)
next-by call two.Wait before after c = (c, tt)
next-by call (two.Ask first second) before after c = (c, tt)
next-by call (two.Refused fault) before after c = c

pair-leaves : (call : List ℕ → List ℕ → Call) (p : Pair) (turn : Turn) (shelf : Shelf)
    → Plain (pairs.next_by call (pairs.pair_next p turn shelf)) (of_pair p) (of_pair (pairs.pair_after p turn shelf))
pair-leaves call p turn shelf =
    next-by call (pairs.pair_next p turn shelf) (of_pair p) (of_pair (pairs.pair_after p turn shelf)) (pair-if (p.asked || p.second.asked) p turn shelf refl)

walks-leave : (call : List ℕ → List ℕ → Call) (p : Pair) (sent turn : Turn) (came : Result Reply Fault) (old : Shelf) (next : Step) (new : Pair) (after : Shelf) (others : ℕ)
    → p.asked ≡ false → of_pair p ≡ others + 1 → pairs.Walks call p sent turn came old next new after → Plain next others (of_pair new)
walks-leave call p sent turn came old next new after others idle one w =
    leaves-as (pairs.next_by call w.step) next others (of_pair new) (Unit {0}) w.next_is
    (next-by call w.step others (of_pair new) (pair-took p.first.asked p sent turn came old w.step new after others idle refl one w.takes))

link-leaves : (asked : Bool) (m : Link) (sent turn : Turn) (came : Result Reply Fault) (old : Shelf) (next : Step) (new : Pair) (after : Shelf) (others : ℕ)
    → m.pair.asked ≡ asked → of_pair m.pair ≡ others + 1 → TakesLink asked m sent turn came old next new after → Plain next others (of_pair new)
link-leaves true m sent turn came old next new after others is one t =
    again-leaves _ _ _ next others (of_pair new) (Unit {0}) t.1.next_is (ap of_pair t.0 ∙ one) (pair-own m.pair others is one) tt
link-leaves false m sent turn came old next new after others is one t = walks-leave (link_call m.name) m.pair sent turn came old next new after others is one t

rename-leaves : (asked : Bool) (m : Rename) (sent turn : Turn) (came : Result Reply Fault) (old : Shelf) (next : Step) (new : Pair) (after : Shelf) (others : ℕ)
    → m.pair.asked ≡ asked → of_pair m.pair ≡ others + 1 → TakesRename asked m sent turn came old next new after → Plain next others (of_pair new)
rename-leaves true m sent turn came old next new after others is one t =
    again-leaves _ _ _ next others (of_pair new) (Unit {0}) t.1.next_is (ap of_pair t.0 ∙ one) (pair-own m.pair others is one) tt
rename-leaves false m sent turn came old next new after others is one t = walks-leave (rename_call m.from m.to) m.pair sent turn came old next new after others is one t

-- ---- removals

removal-walk : (m : RemoveFile) → m.deed ≡ None → of_removal m ≡ of_walk m.walk
removal-walk m is = ap (λ (d : Option Deed). removal_by d m.asked (of_walk m.walk)) is

removal-own : (m : RemoveFile) (deed : Deed) → m.deed ≡ Some deed → of_removal m ≡ one_if m.asked
removal-own m deed is = ap (λ (d : Option Deed). removal_by d m.asked (of_walk m.walk)) is

asks-removal : (room : Bool) (deed : Deed) (m : RemoveFile) (before : ℕ) → before ≡ 0 → Plain (removals.asked_next m deed room) before (of_removal (removals.asked_after m deed room))
asks-removal true deed m before none = (omega (arith, none), tt)
asks-removal false deed m before none = (sym none, tt)

asked-removal : (room : Bool) (deed : Deed) (m : RemoveFile) (next : Step) (new : RemoveFile) (before : ℕ) → before ≡ 0 → next ≡ removals.asked_next m deed room
    → new ≡ removals.asked_after m deed room → Plain next before (of_removal new)
asked-removal room deed m next new before none is state =
    leaves-as (removals.asked_next m deed room) next before (of_removal new) (Unit {0}) is
    (leaves-after (removals.asked_next m deed room) before (of_removal new) (of_removal (removals.asked_after m deed room)) (Unit {0}) (ap of_removal state) (asks-removal room deed m before none))

follows-removal : (step : WalkStep) (room : Bool) (m : RemoveFile) (opens : Opens) (next : Step) (new : RemoveFile) (before : ℕ) → m.deed ≡ None
    → WalkCounts step before (of_walk m.walk) → removals.Follows step room m opens next new → Plain next before (of_removal new)
follows-removal (walks.Send call) room m opens next new before walking c f = sends-leaves call next before (of_removal new) (Unit {0}) f.0 (ap of_removal f.1 ∙ removal-walk m walking ∙ c) tt
follows-removal walks.Wait room m opens next new before walking c f = waits-leaves next before (of_removal new) (Unit {0}) f.0 (ap of_removal f.1 ∙ removal-walk m walking ∙ c) tt
follows-removal (walks.At dir) room m opens next new before walking c f = asked-removal room (removals.first_deed f.any) m next new before c.0 f.next_is f.machine_is
follows-removal (walks.Refused fault) room m opens next new before walking c f = done-leaves (answers.Refused fault) next before (of_removal new) (Unit {0}) f.0 c

goes-removal : (deed : Option Deed) (m : RemoveFile) (turn : Turn) (old : Shelf) (next : Step) (new : RemoveFile) (after : Shelf) → m.deed ≡ deed → m.asked ≡ false
    → removals.Goes deed m turn old next new after → Plain next (of_removal m) (of_removal new)
goes-removal (Some deed) m turn old next new after is idle g =
    asked-removal turn.room deed m next new (of_removal m) (removal-own m deed is ∙ ap one_if idle) g.next_is g.machine_is
goes-removal None m turn old next new after is idle g =
    let here = follows-removal (walking.go_next m.walk turn old) turn.room (record m { walk = walking.go_after m.walk turn old }) old.opens next new (of_walk m.walk) is
    (walk-counts m.walk turn old) g.follows in
    subst (λ (n : ℕ). Plain next n (of_removal new)) (sym (removal-walk m is)) here

resumes-removal : (asked : Bool) (m : RemoveFile) (turn : Turn) (old : Shelf) (next : Step) (new : RemoveFile) (after : Shelf) → m.asked ≡ asked
    → removals.Resumes asked m turn old next new after → Plain next (of_removal m) (of_removal new)
resumes-removal true m turn old next new after is r = waits-leaves next (of_removal m) (of_removal new) (Unit {0}) r.next_is (ap of_removal r.machine_is) tt
resumes-removal false m turn old next new after is r = goes-removal m.deed m turn old next new after refl is r

again-removal : (deed : Deed) (m : RemoveFile) (old : Shelf) (next : Step) (new : RemoveFile) (after : Shelf) (others : ℕ) → of_removal m ≡ others + 1
    → removals.Again deed m old next new after → Plain next others (of_removal new)
again-removal deed m old next new after others one a = sends-leaves (removals.call_of m deed) next others (of_removal new) (Unit {0}) a.next_is (ap of_removal a.machine_is ∙ one) tt

plans-removal : (is_open : Bool) (file : List ℕ) (m : RemoveFile) (room : Bool) (old : Shelf) (next : Step) (new : RemoveFile) (after : Shelf) (others : ℕ) → others ≡ 0
    → removals.Plans is_open file m room old next new after → Plain next others (of_removal new)
plans-removal is_open file m room old next new after others none p =
    asked-removal room (removals.deed_of file (plan_of is_open old.counter)) m next new others none p.next_is p.machine_is

look-removal : (again : Bool) (told : Result (List ℕ) Fault) (m : RemoveFile) (room : Bool) (old : Shelf) (next : Step) (new : RemoveFile) (after : Shelf) (others : ℕ)
    → others ≡ 0 → of_removal m ≡ others + 1 → removals.FollowsLook again told m room old next new after → Plain next others (of_removal new)
look-removal true told m room old next new after others none one f = again-removal Look m old next new after others one f
look-removal false (Ok file) m room old next new after others none one f = plans-removal f.is_open file m room old next new after others none f.plans
look-removal false (Err fault) m room old next new after others none one f = done-leaves (answers.Refused fault) next others (of_removal new) (Unit {0}) f.next_is none

missed-removal : (missing : Bool) (fault : Fault) (file to : List ℕ) (m : RemoveFile) (room : Bool) (next : Step) (new : RemoveFile) (others : ℕ) → others ≡ 0
    → next ≡ removals.missed_next missing fault file to m room → new ≡ removals.missed_after missing file to m room → Plain next others (of_removal new)
missed-removal true fault file to m room next new others none is state = asked-removal room (Move file to) m next new others none is state
missed-removal false fault file to m room next new others none is state = done-leaves (answers.Refused fault) next others (of_removal new) (Unit {0}) is none

seek-removal : (again : Bool) (told : Result (List ℕ) Fault) (file to : List ℕ) (m : RemoveFile) (room : Bool) (old : Shelf) (next : Step) (new : RemoveFile) (after : Shelf)
    (others : ℕ) → others ≡ 0 → of_removal m ≡ others + 1 → removals.FollowsSeek again told file to m room old next new after → Plain next others (of_removal new)
seek-removal true told file to m room old next new after others none one f = again-removal (Seek file to) m old next new after others one f
seek-removal false (Ok found) file to m room old next new after others none one f = plans-removal true file m room old next new after others none f
seek-removal false (Err fault) file to m room old next new after others none one f =
    missed-removal (removals.is_missing fault) fault file to m room next new others none f.next_is f.machine_is

moves-removal : (again : Bool) (refusal : Option Fault) (file to : List ℕ) (m : RemoveFile) (old : removals.Places) (next : Step) (new : removals.Places) (others after : ℕ)
    → others ≡ 0 → after ≡ others + 1 → removals.EndsMove again refusal file to m old next new → Plain next others after
moves-removal true refusal file to m old next new others after none one e = sends-leaves _ next others after (Unit {0}) e.0 one tt
moves-removal false None file to m old next new others after none one (inl e) = done-leaves (answers.Done values.Nothing) next others after (Unit {0}) e.0 none
moves-removal false None file to m old next new others after none one (inr e) = done-leaves (answers.Refused faults.Memory) next others after (Unit {0}) e.0 none
moves-removal false (Some fault) file to m old next new others after none one e = done-leaves (answers.Refused fault) next others after (Unit {0}) e.0 none

deed-removal : (deed : Deed) (m : RemoveFile) (sent turn : Turn) (came : Result Reply Fault) (old : Shelf) (next : Step) (new : RemoveFile) (after : Shelf) (others : ℕ)
    → others ≡ 0 → of_removal m ≡ others + 1 → removals.TakesDeed deed m sent turn came old next new after → Plain next others (of_removal new)
deed-removal Look m sent turn came old next new after others none one t =
    look-removal (look_again sent turn came old) (found_by came) m turn.room t.heard next new after others none one t.follows
deed-removal (Seek file to) m sent turn came old next new after others none one t =
    seek-removal (look_again sent turn came old) (found_by came) file to m turn.room t.heard next new after others none one t.follows
deed-removal (Move file to) m sent turn came old next new after others none one t =
    moves-removal (removals.move_again sent turn came old) (moved_told came).refusal file to m old.silly next after.silly others (of_removal new) none (ap of_removal t.0 ∙ one) t.1.ends
deed-removal Remove m sent turn came old next new after others none one t =
    again-leaves _ _ _ next others (of_removal new) (Unit {0}) t.1.next_is (ap of_removal t.0 ∙ one) none tt

if-removal : (asked : Bool) (deed : Deed) (m : RemoveFile) (sent turn : Turn) (came : Result Reply Fault) (old : Shelf) (next : Step) (new : RemoveFile) (after : Shelf) (others : ℕ)
    → one_if asked ≡ others + 1 → of_removal m ≡ others + 1 → removals.TakesIf asked deed m sent turn came old next new after → Plain next others (of_removal new)
if-removal true deed m sent turn came old next new after others own one t = deed-removal deed m sent turn came old next new after others (one-left true others own) one t
if-removal false deed m sent turn came old next new after others own one t = absurd (omega (arith, own))

takes-removal : (deed : Option Deed) (m : RemoveFile) (sent turn : Turn) (came : Result Reply Fault) (old : Shelf) (next : Step) (new : RemoveFile) (after : Shelf) (others : ℕ)
    → m.deed ≡ deed → of_removal m ≡ others + 1 → removals.Takes deed m sent turn came old next new after → Plain next others (of_removal new)
takes-removal (Some deed) m sent turn came old next new after others is one t =
    if-removal m.asked deed m sent turn came old next new after others (sym (removal-own m deed is) ∙ one) one t
takes-removal None m sent turn came old next new after others is one t =
    let took = walk-takes m.walk sent turn came old t.step t.walked.walk after others (sym (removal-walk m is) ∙ one) t.takes in
    follows-removal t.step turn.room t.walked after.opens next new others (ap (λ (w : RemoveFile). w.deed) t.walked_is ∙ is) (took-counts others t.step t.walked.walk took) t.follows

-- ---- any operation on names

as-names : (next : Step) (before after : ℕ) (to new : NameMachine) → new ≡ to → of_names to ≡ after → Plain next before after → Plain next before (of_names new)
as-names next before after to new is same l = leaves-after next before (of_names new) after (Unit {0}) (ap of_names is ∙ same) l

visit-names : (call : List ℕ → Call) (v : Visit) (with_visit : Visit → NameMachine) (turn : Turn) (old : Shelf) (next : Step) (new : NameMachine) (after : Shelf)
    → ((w : Visit) → of_names (with_visit w) ≡ of_visit w) → steps.VisitGoes call v with_visit turn old next new after → Plain next (of_visit v) (of_names new)
visit-names call v with_visit turn old next new after same g =
    as-names next (of_visit v) (of_visit (visiting.visit_after v turn old)) (with_visit (visiting.visit_after v turn old)) new g.machine_is (same (visiting.visit_after v turn old))
    (visit-leaves call v turn old next (visiting.visit_after v turn old) g.next_is refl)

pair-names : (call : List ℕ → List ℕ → Call) (p : Pair) (with_pair : Pair → NameMachine) (turn : Turn) (old : Shelf) (next : Step) (new : NameMachine) (after : Shelf)
    → ((w : Pair) → of_names (with_pair w) ≡ of_pair w) → steps.PairGoes call p with_pair turn old next new after → Plain next (of_pair p) (of_names new)
pair-names call p with_pair turn old next new after same g =
    as-names next (of_pair p) (of_pair (pairs.pair_after p turn old)) (with_pair (pairs.pair_after p turn old)) new g.machine_is (same (pairs.pair_after p turn old))
    (leaves-as (pairs.next_by call (pairs.pair_next p turn old)) next (of_pair p) (of_pair (pairs.pair_after p turn old)) (Unit {0}) g.next_is (pair-leaves call p turn old))

pub name-goes : (m : NameMachine) (turn : Turn) (old : Shelf) (next : Step) (new : NameMachine) (after : Shelf) → steps.NameGoes m turn old next new after
    → Plain next (of_names m) (of_names new)
name-goes (machines.Change m) turn old next new after g = visit-names (deed_call m.deed m.name) m.visit (steps.change_with m) turn old next new after (λ w. refl) g
name-goes (machines.Stat m) turn old next new after g =
    as-names next (of_stat m) (of_stat (stats.stat_after m turn old)) (machines.Stat (stats.stat_after m turn old)) new g.machine_is refl
    (leaves-as (stats.stat_next m turn old) next (of_stat m) (of_stat (stats.stat_after m turn old)) (Unit {0}) g.next_is (stat-leaves m turn old))
name-goes (machines.Access m) turn old next new after g = visit-names (access_call m.bits) m.visit (steps.access_with m) turn old next new after (λ w. refl) g
name-goes (machines.ReadLink m) turn old next new after g = visit-names text_call m.visit (steps.read_link_with m) turn old next new after (λ w. refl) g
name-goes (machines.Remove m) turn old next new after g =
    as-names next (of_removal m) (of_removal g.machine) (machines.Remove g.machine) new g.machine_is refl (resumes-removal m.asked m turn old next g.machine after refl g.step)
name-goes (machines.Rename m) turn old next new after g = pair-names (rename_call m.from m.to) m.pair (steps.rename_with m) turn old next new after (λ w. refl) g
name-goes (machines.Link m) turn old next new after g = pair-names (link_call m.name) m.pair (steps.link_with m) turn old next new after (λ w. refl) g
name-goes (machines.SymLink m) turn old next new after g =
    as-names next (of_visit m.visit) (of_visit (visiting.visit_after m.visit turn old)) (steps.sym_link_with m (visiting.visit_after m.visit turn old)) new g.machine_is refl
    (copy-leaves (sym_link_call m.name m.target) m.visit turn old next (visiting.visit_after m.visit turn old) g.next_is refl)
name-goes (machines.List m) turn old next new after g = visit-names (listing.page_call m.place) m.visit (steps.list_with m) turn old next new after (λ w. refl) g

pub name-takes : (m : NameMachine) (sent turn : Turn) (came : Result Reply Fault) (old : Shelf) (next : Step) (new : NameMachine) (after : Shelf) (others : ℕ)
    → of_names m ≡ others + 1 → steps.NameTakes m sent turn came old next new after → Plain next others (of_names new)
name-takes (machines.Change m) sent turn came old next new after others one t =
    as-names next others (of_visit t.visit) (steps.change_with m t.visit) new t.machine_is refl
    (change-leaves m.visit.asked (deed_call m.deed m.name) (deed_told m.deed came) m.visit sent turn came old next t.visit after others refl one t.step)
name-takes (machines.Stat m) sent turn came old next new after others one t =
    as-names next others (of_stat t.machine) (machines.Stat t.machine) new t.machine_is refl (stat-took m.asked m sent turn came old next t.machine after others refl one t.step)
name-takes (machines.Access m) sent turn came old next new after others one t =
    as-names next others (of_visit t.visit) (steps.access_with m t.visit) new t.machine_is refl
    (access-leaves m.visit.asked (access_call m.bits) (access_attr came) (access_told came) m.visit sent turn came old next t.visit after others refl one t.step)
name-takes (machines.ReadLink m) sent turn came old next new after others one t =
    as-names next others (of_visit t.visit) (steps.read_link_with m t.visit) new t.machine_is refl
    (text-leaves m.visit.asked m.visit sent turn came old next t.visit after others refl one t.step)
name-takes (machines.Remove m) sent turn came old next new after others one t =
    as-names next others (of_removal t.machine) (machines.Remove t.machine) new t.machine_is refl
    (takes-removal m.deed m sent turn came old next t.machine after others refl one t.step)
name-takes (machines.Rename m) sent turn came old next new after others one t =
    as-names next others (of_pair t.pair) (steps.rename_with m t.pair) new t.machine_is refl
    (rename-leaves m.pair.asked m sent turn came old next t.pair after others refl one t.step)
name-takes (machines.Link m) sent turn came old next new after others one t =
    as-names next others (of_pair t.pair) (steps.link_with m t.pair) new t.machine_is refl
    (link-leaves m.pair.asked m sent turn came old next t.pair after others refl one t.step)
name-takes (machines.SymLink m) sent turn came old next new after others one t =
    as-names next others (of_visit t.visit) (steps.sym_link_with m t.visit) new t.machine_is refl
    (link-text-leaves m.visit.asked m sent turn came old next t.visit after others refl one t.step)
name-takes (machines.List m) sent turn came old next new after others one t =
    as-names next others (of_visit t.machine.visit) (machines.List t.machine) new t.machine_is refl
    (list-took m.visit.asked m sent turn came old next t.machine after others refl one t.step)
