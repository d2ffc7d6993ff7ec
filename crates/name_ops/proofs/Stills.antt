-- A step that no reply made possible and that waits, though there is room for a call, changes nothing.
use Rattle.std.proofs.Common.{◌≡◌, ℕ, Bool, true, false, List, Option, Some, None, refl, sym, ap, ◌∙◌, inl, inr}
use Rattle.std.specs.Prelude.{if◌then◌else◌, ◌||◌}
use Rattle.nfs_types.specs.declared.attr.Attr.{Attr}
use Rattle.attr_cache.specs.Attrs as attrs
use Rattle.world_model.specs.declared.answer.Answer.TheVariants as answers
use Rattle.world_model.specs.declared.answer.Fault.TheVariants as faults
use Rattle.world_model.specs.declared.answer.Value.TheVariants as values
use Rattle.world_model.specs.declared.message.Call.{Call}
use Rattle.client_shelf.specs.declared.shelf.Shelf.{Shelf}
use Rattle.client_shelf.specs.declared.turn.Turn.{Turn}
use Rattle.client_shelf.specs.declared.step.Step.{Step}
use Rattle.client_shelf.specs.declared.step.Step.TheVariants as nexts
use Rattle.name_ops.specs.declared.pair.Pair.{Pair}
use Rattle.name_ops.specs.declared.pair.PairStep.{PairStep}
use Rattle.name_ops.specs.declared.pair.PairStep.TheVariants as two
use Rattle.name_ops.specs.declared.stat.Stat.{Stat}
use Rattle.name_ops.specs.declared.visit.Visit.{Visit}
use Rattle.name_ops.specs.declared.visit.VisitStep.{VisitStep}
use Rattle.name_ops.specs.declared.visit.VisitStep.TheVariants as visits
use Rattle.name_ops.specs.declared.walk.Walk.{Walk}
use Rattle.name_ops.specs.declared.walk.WalkStep.{WalkStep}
use Rattle.name_ops.specs.declared.walk.WalkStep.TheVariants.{Send, Wait, At, Refused}
use Rattle.name_ops.specs.declared.remove_file.Deed.{Deed}
use Rattle.name_ops.specs.declared.remove_file.RemoveFile.{RemoveFile}
use Rattle.name_ops.specs.Looking.{look_up}
use Rattle.name_ops.specs.Pairs as pairs
use Rattle.name_ops.specs.RemoveFile as removals
use Rattle.name_ops.specs.Stat as stats
use Rattle.name_ops.specs.SymLink.{CopiesBy}
use Rattle.name_ops.specs.Visiting as visiting
use Rattle.name_ops.specs.Walking.{asks, go_next, go_after, go_shelf, next_name, on_next, on_after, on_names, walked}

if-true : {A : Type 0} → (b : Bool) (x y : A) → b ≡ true → (if b then x else y) ≡ x
if-true true x y e = refl
if-true false x y e = absurd cc

if-false : {A : Type 0} → (b : Bool) (x y : A) → b ≡ false → (if b then x else y) ≡ y
if-false false x y e = refl
if-false true x y e = absurd cc

or-false : (a b : Bool) → (a || b) ≡ false → b ≡ false
or-false false b e = e
or-false true b e = absurd cc

-- ---- walks

asks-not : (name : Option (List ℕ)) (room : Bool) (w : Walk) → room ≡ true → asks name room w ≡ Wait → ⊥
asks-not None room w r e = let no-way : At w.spot.dir ≡ Wait = e in absurd cc
asks-not (Some name) true w r e = let no-way : Send (look_up w.spot.dir name) ≡ Wait = e in absurd cc
asks-not (Some name) false w r e = absurd cc

pub walk-still : (w : Walk) (turn : Turn) (shelf : Shelf) → turn.room ≡ true → go_next w turn shelf ≡ Wait → (go_after w turn shelf ≡ w) × (go_shelf w turn shelf ≡ shelf)
walk-still w turn shelf room waits = by w.asked refl
  where
    by : (b : Bool) → w.asked ≡ b → (go_after w turn shelf ≡ w) × (go_shelf w turn shelf ≡ shelf)
    by true h = (
      if-true w.asked w (on_after w turn shelf.attrs shelf.names) h,
      ap (λ kept. record shelf { names = kept }) (if-true w.asked shelf.names (on_names w turn shelf.attrs shelf.names) h),
    )
    by false h =
        let n : on_next w turn shelf.attrs shelf.names ≡ Wait = sym (if-false w.asked Wait (on_next w turn shelf.attrs shelf.names) h) ∙ waits in
        absurd (asks-not (next_name (walked w turn.now shelf.attrs shelf.names)) turn.room (walked w turn.now shelf.attrs shelf.names) room n)

-- ---- visits

follow-waits : (step : WalkStep) (room : Bool) → room ≡ true → visiting.follow_next step room ≡ visits.Wait → step ≡ Wait
follow-waits (Send call) room r e = let no-way : visits.Look call ≡ visits.Wait = e in absurd cc
follow-waits Wait room r e = refl
follow-waits (At object) true r e = let no-way : visits.Ask object ≡ visits.Wait = e in absurd cc
follow-waits (At object) false r e = absurd cc
follow-waits (Refused fault) room r e = let no-way : visits.Refused fault ≡ visits.Wait = e in absurd cc

by-waits : (call : List ℕ → Call) (step : VisitStep) → visiting.next_by call step ≡ nexts.Wait → step ≡ visits.Wait
by-waits call (visits.Look look) e = let no-way : nexts.Send look ≡ nexts.Wait = e in absurd cc
by-waits call visits.Wait e = refl
by-waits call (visits.Ask object) e = let no-way : nexts.Send (call object) ≡ nexts.Wait = e in absurd cc
by-waits call (visits.Refused fault) e = let no-way : nexts.Done (answers.Refused fault) ≡ nexts.Wait = e in absurd cc

pub visit-still : (call : List ℕ → Call) (v : Visit) (turn : Turn) (shelf : Shelf) → turn.room ≡ true → visiting.next_by call (visiting.visit_next v turn shelf) ≡ nexts.Wait
    → (visiting.visit_after v turn shelf ≡ v) × (visiting.visit_shelf v turn shelf ≡ shelf)
visit-still call v turn shelf room waits = by v.asked refl
  where
    step-waits : visiting.visit_next v turn shelf ≡ visits.Wait
    step-waits = by-waits call (visiting.visit_next v turn shelf) waits

    by : (b : Bool) → v.asked ≡ b → (visiting.visit_after v turn shelf ≡ v) × (visiting.visit_shelf v turn shelf ≡ shelf)
    by true h = (if-true v.asked v (visiting.follow_after (go_next v.walk turn shelf) turn.room (record v { walk = go_after v.walk turn shelf })) h, if-true v.asked shelf (go_shelf v.walk turn shelf) h)
    by false h =
        let n : visiting.follow_next (go_next v.walk turn shelf) turn.room ≡ visits.Wait = sym (if-false v.asked visits.Wait (visiting.follow_next (go_next v.walk turn shelf) turn.room) h) ∙ step-waits in
        let w = follow-waits (go_next v.walk turn shelf) turn.room room n in
        let still = walk-still v.walk turn shelf room w in
        let after : visiting.follow_after (go_next v.walk turn shelf) turn.room (record v { walk = go_after v.walk turn shelf }) ≡ v =
        ap (λ step. visiting.follow_after step turn.room (record v { walk = go_after v.walk turn shelf })) w ∙ ap (λ walk. record v { walk = walk }) still.0 in
        (if-false v.asked v (visiting.follow_after (go_next v.walk turn shelf) turn.room (record v { walk = go_after v.walk turn shelf })) h ∙ after, if-false v.asked shelf (go_shelf v.walk turn shelf) h ∙ still.1)

copies-wait : (call : List ℕ → Call) (step : VisitStep) (next : Step) → CopiesBy call step next → next ≡ nexts.Wait → visiting.next_by call step ≡ nexts.Wait
copies-wait call (visits.Look look) next c e = sym c ∙ e
copies-wait call visits.Wait next c e = refl
copies-wait call (visits.Ask dir) next (inl c) e = let no-way : nexts.Send (call dir) ≡ nexts.Wait = sym c ∙ e in absurd cc
copies-wait call (visits.Ask dir) next (inr c) e = let no-way : nexts.Done (answers.Refused faults.Memory) ≡ nexts.Wait = sym c ∙ e in absurd cc
copies-wait call (visits.Refused fault) next c e = sym c ∙ e

pub copy-still : (call : List ℕ → Call) (v : Visit) (turn : Turn) (shelf : Shelf) (next : Step) → turn.room ≡ true → CopiesBy call (visiting.visit_next v turn shelf) next → next ≡ nexts.Wait
    → (visiting.visit_after v turn shelf ≡ v) × (visiting.visit_shelf v turn shelf ≡ shelf)
copy-still call v turn shelf next room copies waits = visit-still call v turn shelf room (copies-wait call (visiting.visit_next v turn shelf) next copies waits)

-- ---- stats

ask-not : (known : Option Attr) (object : List ℕ) (room : Bool) → room ≡ true → stats.ask_next known object room ≡ nexts.Wait → ⊥
ask-not (Some attr) object room r e = let no-way : nexts.Done (answers.Done (values.Attrs attr)) ≡ nexts.Wait = e in absurd cc
ask-not None object true r e = let no-way : nexts.Send (stats.get_attr object) ≡ nexts.Wait = e in absurd cc
ask-not None object false r e = absurd cc

stat-waits : (step : WalkStep) (turn : Turn) (known : attrs.Attrs) → turn.room ≡ true → stats.follow_next step turn known ≡ nexts.Wait → step ≡ Wait
stat-waits (Send call) turn known r e = let no-way : nexts.Send call ≡ nexts.Wait = e in absurd cc
stat-waits Wait turn known r e = refl
stat-waits (At object) turn known r e = absurd (ask-not (attrs.looked object turn.now known) object turn.room r e)
stat-waits (Refused fault) turn known r e = let no-way : nexts.Done (answers.Refused fault) ≡ nexts.Wait = e in absurd cc

pub stat-still : (m : Stat) (turn : Turn) (shelf : Shelf) → turn.room ≡ true → stats.stat_next m turn shelf ≡ nexts.Wait
    → (stats.stat_after m turn shelf ≡ m) × (stats.stat_shelf m turn shelf ≡ shelf)
stat-still m turn shelf room waits = by m.asked refl
  where
    by : (b : Bool) → m.asked ≡ b → (stats.stat_after m turn shelf ≡ m) × (stats.stat_shelf m turn shelf ≡ shelf)
    by true h = (if-true m.asked m (stats.follow_after (go_next m.walk turn shelf) turn shelf.attrs (record m { walk = go_after m.walk turn shelf })) h, if-true m.asked shelf (go_shelf m.walk turn shelf) h)
    by false h =
        let n : stats.follow_next (go_next m.walk turn shelf) turn shelf.attrs ≡ nexts.Wait = sym (if-false m.asked nexts.Wait (stats.follow_next (go_next m.walk turn shelf) turn shelf.attrs) h) ∙ waits in
        let w = stat-waits (go_next m.walk turn shelf) turn shelf.attrs room n in
        let still = walk-still m.walk turn shelf room w in
        let after : stats.follow_after (go_next m.walk turn shelf) turn shelf.attrs (record m { walk = go_after m.walk turn shelf }) ≡ m =
        ap (λ step. stats.follow_after step turn shelf.attrs (record m { walk = go_after m.walk turn shelf })) w ∙ ap (λ walk. record m { walk = walk }) still.0 in
        (if-false m.asked m (stats.follow_after (go_next m.walk turn shelf) turn shelf.attrs (record m { walk = go_after m.walk turn shelf })) h ∙ after, if-false m.asked shelf (go_shelf m.walk turn shelf) h ∙ still.1)

-- ---- removals of names

asked-not : (m : RemoveFile) (deed : Deed) (room : Bool) (next : Step) → room ≡ true → next ≡ removals.asked_next m deed room → next ≡ nexts.Wait → ⊥
asked-not m deed true next r is waits = let no-way : nexts.Send (removals.call_of m deed) ≡ nexts.Wait = sym is ∙ waits in absurd cc
asked-not m deed false next r is waits = absurd cc

pub remove-still : (m : RemoveFile) (turn : Turn) (old : Shelf) (next : Step) (new : RemoveFile) (after : Shelf) → turn.room ≡ true
    → removals.Resumes m.asked m turn old next new after → next ≡ nexts.Wait → (new ≡ m) × (after ≡ old)
remove-still m turn old next new after room resumes waits = asked m.asked resumes
  where
    followed : (step : WalkStep) → go_next m.walk turn old ≡ step → removals.Follows step turn.room (record m { walk = go_after m.walk turn old }) old.opens next new → after ≡ go_shelf m.walk turn old → (new ≡ m) × (after ≡ old)
    followed (Send call) is f s = let no-way : nexts.Send call ≡ nexts.Wait = sym f.0 ∙ waits in absurd cc
    followed Wait is f s =
        let still = walk-still m.walk turn old room is in
        (f.1 ∙ ap (λ walk. record m { walk = walk }) still.0, s ∙ still.1)
    followed (At dir) is f s = absurd (asked-not (record m { walk = go_after m.walk turn old }) (removals.first_deed f.any) turn.room next room f.next_is waits)
    followed (Refused fault) is f s = let no-way : nexts.Done (answers.Refused fault) ≡ nexts.Wait = sym f.0 ∙ waits in absurd cc

    goes : (deed : Option Deed) → removals.Goes deed m turn old next new after → (new ≡ m) × (after ≡ old)
    goes (Some deed) g = absurd (asked-not m deed turn.room next room g.next_is waits)
    goes None g = followed (go_next m.walk turn old) refl g.follows g.shelf_is

    asked : (b : Bool) → removals.Resumes b m turn old next new after → (new ≡ m) × (after ≡ old)
    asked true r = (r.machine_is, r.shelf_is)
    asked false r = goes m.deed r

-- ---- pairs of walks

go-not : (w : Walk) (turn : Turn) (shelf : Shelf) → turn.room ≡ true → w.asked ≡ false → go_next w turn shelf ≡ Wait → ⊥
go-not w turn shelf room h waits =
    let n : on_next w turn shelf.attrs shelf.names ≡ Wait = sym (if-false w.asked Wait (on_next w turn shelf.attrs shelf.names) h) ∙ waits in
    asks-not (next_name (walked w turn.now shelf.attrs shelf.names)) turn.room (walked w turn.now shelf.attrs shelf.names) room n

pair-by-waits : (call : List ℕ → List ℕ → Call) (step : PairStep) → pairs.next_by call step ≡ nexts.Wait → step ≡ two.Wait
pair-by-waits call (two.Look look) e = let no-way : nexts.Send look ≡ nexts.Wait = e in absurd cc
pair-by-waits call two.Wait e = refl
pair-by-waits call (two.Ask first second) e = let no-way : nexts.Send (call first second) ≡ nexts.Wait = e in absurd cc
pair-by-waits call (two.Refused fault) e = let no-way : nexts.Done (answers.Refused fault) ≡ nexts.Wait = e in absurd cc

second-waits : (first : List ℕ) (step : WalkStep) (room : Bool) → room ≡ true → pairs.led_second first step room ≡ two.Wait → step ≡ Wait
second-waits first (Send call) room r e = let no-way : two.Look call ≡ two.Wait = e in absurd cc
second-waits first Wait room r e = refl
second-waits first (At second) true r e = let no-way : two.Ask first second ≡ two.Wait = e in absurd cc
second-waits first (At second) false r e = absurd cc
second-waits first (Refused fault) room r e = let no-way : two.Refused fault ≡ two.Wait = e in absurd cc

pub pair-still : (call : List ℕ → List ℕ → Call) (p : Pair) (turn : Turn) (shelf : Shelf) → turn.room ≡ true → pairs.next_by call (pairs.pair_next p turn shelf) ≡ nexts.Wait
    → (pairs.pair_after p turn shelf ≡ p) × (pairs.pair_shelf p turn shelf ≡ shelf)
pair-still call p turn shelf room waits = by (pairs.waits p) refl
  where
    step-waits : pairs.pair_next p turn shelf ≡ two.Wait
    step-waits = pair-by-waits call (pairs.pair_next p turn shelf) waits

    led : p.second.asked ≡ false → (step : WalkStep) → go_next p.first turn shelf ≡ step → pairs.led_first step (pairs.walked_first p turn shelf) turn (go_shelf p.first turn shelf) ≡ two.Wait
        → (pairs.first_kept step (pairs.walked_first p turn shelf) turn (go_shelf p.first turn shelf) ≡ p) × (pairs.first_shelf step (pairs.walked_first p turn shelf) turn (go_shelf p.first turn shelf) ≡ shelf)
    led s (Send look) is e = let no-way : two.Look look ≡ two.Wait = e in absurd cc
    led s Wait is e =
        let still = walk-still p.first turn shelf room is in
        (ap (λ walk. record p { first = walk }) still.0, still.1)
    led s (At first) is e = absurd (go-not p.second turn (go_shelf p.first turn shelf) room s (second-waits first (go_next p.second turn (go_shelf p.first turn shelf)) turn.room room e))
    led s (Refused fault) is e = let no-way : two.Refused fault ≡ two.Wait = e in absurd cc

    by : (b : Bool) → pairs.waits p ≡ b → (pairs.pair_after p turn shelf ≡ p) × (pairs.pair_shelf p turn shelf ≡ shelf)
    by true h = (if-true (pairs.waits p) p (pairs.on_after p turn shelf) h, if-true (pairs.waits p) shelf (pairs.on_shelf p turn shelf) h)
    by false h =
        let n : pairs.on_next p turn shelf ≡ two.Wait = sym (if-false (pairs.waits p) two.Wait (pairs.on_next p turn shelf) h) ∙ step-waits in
        let k = led (or-false p.asked p.second.asked h) (go_next p.first turn shelf) refl n in
        (if-false (pairs.waits p) p (pairs.on_after p turn shelf) h ∙ k.0, if-false (pairs.waits p) shelf (pairs.on_shelf p turn shelf) h ∙ k.1)
