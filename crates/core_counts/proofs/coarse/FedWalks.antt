-- Each walk of an operation stands where the names lead that it has gone through.
use Rattle.core_counts.proofs.Prelude.{◌≡◌, ◌<◌, ◌≤◌, ◌-◌, ℕ, Bool, true, false, List, [], ◌∷◌, ◌++◌, length, take, Option, Some, None, Result, Ok, Err, inl, inr, refl, sym, ap, subst, ◌∙◌, arith, if◌then◌else◌, Attr, Fault, Entry, Began, Call, Reply, Op, length_last, Step, Shelf, Turn, Link, ListDir, Pair, PairStep, Deed, Look, Seek, Move, Remove, RemoveFile, Rename, Stat, SymLink, Visit, Walk, WalkStep, access_call, deed_call, TakesLink, look_again, found_by, text_call, TakesText, TakesRename, TakesShow, sym_link_call, TakesSymLink, Mounted, Machine, NameMachine, PathMachine, machine_of, file_of, slot_taken, begun_at, Starts, Resumes, Takes, Opens, State, Busy, Over, ThenOf}
use Rattle.name_ops.specs.Link.{link_call}
use Rattle.name_ops.specs.Rename.{rename_call}
use Rattle.op_machines.specs.Openers.{placed}
use Rattle.attr_cache.specs.Attrs as attrs
use Rattle.world_model.specs.declared.op.Op.TheVariants as ops
use Rattle.dir_list.specs.declared.progress.ListStep.{ListStep}
use Rattle.dir_list.specs.declared.progress.ListStep.TheVariants.{More, End}
use Rattle.dir_list.specs.declared.progress.ListFault.{ListFault}
use Rattle.dir_list.specs.Listings.{page_step}
use Rattle.client_shelf.specs.declared.step.Step.TheVariants as nexts
use Rattle.name_ops.specs.declared.visit.VisitStep.{VisitStep}
use Rattle.name_ops.specs.declared.walk.WalkStep.TheVariants as walks
use Rattle.name_ops.specs.Changing as changing
use Rattle.name_ops.specs.ListDir as listing
use Rattle.name_ops.specs.Pairs as pairs
use Rattle.name_ops.specs.RemoveFile as removals
use Rattle.name_ops.specs.Stat as stats
use Rattle.name_ops.specs.Visiting as visiting
use Rattle.name_ops.specs.Walking as walking
use Rattle.op_machines.specs.declared.machine.Machine.TheVariants as machines
use Rattle.op_machines.specs.declared.name_machine.NameMachine.TheVariants as names
use Rattle.op_machines.specs.NameSteps as steps
use Rattle.op_machines.specs.PathSteps as paths
use Rattle.core_facts.proofs.AllAwaited.{PathOr, Awaits}
use Rattle.core_facts.proofs.Awaited.{WalkAwaits, OwnOr, PairOr}
use Rattle.core_facts.proofs.NamesAwaited.{RemoveAwaits, NameAwaits}
use Rattle.core_facts.proofs.NamesKept.{Told, go-told, walk-told}
use Rattle.core_answers.proofs.bonds.AttrsShown.{ShownIn, fresh-attrs}
use Rattle.core_answers.proofs.bonds.Keeping.{BondLaws, reached-known}
use Rattle.core_answers.proofs.engine.Told.{ToldSince, IsLate, take-early, take-whole}
use Rattle.core_answers.proofs.bonds.Learnt.{Good, good-as}
use Rattle.core_answers.proofs.bonds.MachineAttrs.{attrs-resumes}
use Rattle.core_answers.proofs.bonds.NamesShown.{NamedIn, told-named, none-kept}
use Rattle.core_answers.proofs.bonds.StatsLed.{Both, Kept}
use Rattle.core_answers.proofs.bonds.Walked.{StepBy, LedBy, SpotAt, WalkAt, go-led, took-led, walk-grows, walk-begins}
use Rattle.core_answers.proofs.bonds.Walked as walked
use Rattle.core_answers.proofs.paths.Stood.{both-asks, both-laws}
use Rattle.core_answers.specs.bonds.Ages.{time_next}
use Rattle.core_counts.specs.coarse.FedWalks as led
use Rattle.core_counts.specs.coarse.FedWalks.{EachNamed, EachWalk, Goes, Leads, Stands, WalksLed}

-- ---- in the words of the statement

goes-by : (h : List Entry) (most x : ℕ) (d name object : List ℕ) → StepBy h most x d name object → Goes h most x d name object
goes-by h most x d name object (walked.looked since attr dir own a) = led.looks_up since attr dir own a
goes-by h most x d name object (walked.believed_so attr s is was) = led.goes_by_name attr s is was

pub leads-by : (h : List Entry) (most x : ℕ) (top : List ℕ) (path : List (List ℕ)) (object : List ℕ) → LedBy h most x top path object → Leads h most x top path object
leads-by h most x top _ _ (walked.root path object at is) = led.starts path object at is
leads-by h most x top _ _ (walked.step path earlier object name d at before by) = led.goes path earlier object name d at (leads-by h most x top earlier d before) (goes-by h most x d name object by)

-- ---- each walk

each-map : (P Q : Walk → Type 0) → ((w : Walk) → P w → Q w) → (m : Machine) → EachWalk P m → EachWalk Q m
each-map P Q f (machines.File m) e = tt
each-map P Q f (machines.Path m) e = f m.walk e
each-map P Q f (machines.Name (names.Change m)) e = f m.visit.walk e
each-map P Q f (machines.Name (names.Stat m)) e = f m.walk e
each-map P Q f (machines.Name (names.Access m)) e = f m.visit.walk e
each-map P Q f (machines.Name (names.ReadLink m)) e = f m.visit.walk e
each-map P Q f (machines.Name (names.Remove m)) e = f m.walk e
each-map P Q f (machines.Name (names.Rename m)) e = (f m.pair.first e.0, f m.pair.second e.1)
each-map P Q f (machines.Name (names.Link m)) e = (f m.pair.first e.0, f m.pair.second e.1)
each-map P Q f (machines.Name (names.SymLink m)) e = f m.visit.walk e
each-map P Q f (machines.Name (names.List m)) e = f m.visit.walk e

module _ (most : ℕ) (top : List ℕ) (h : List Entry) (x : ℕ) where
  abbrev IsLed : Walk → Type 0
  IsLed w = SpotAt most top h x w.path w.spot

  abbrev AreLed : Pair → Type 0
  AreLed p = IsLed p.first × IsLed p.second

  -- what came of the call is what the history tells
  abbrev AreTold : Result Reply Fault → Call → ℕ → Type 0
  AreTold came call ms = (reply : Reply) → came ≡ Ok reply → ToldSince h x call ms reply

  begun-walk : (path : List (List ℕ)) → IsLed (pairs.walk_of top path)
  begun-walk path = (walk-begins h most x top path).spot

  module _ (within : x < length h) where
    of-at : (path : List (List ℕ)) (w : Walk) → WalkAt most top h x path w → IsLed w
    of-at path w l = subst (λ (p : List (List ℕ)). SpotAt most top h x p w.spot) (sym l.path_is) l.spot

    same-walk : (old new : Walk) → new ≡ old → IsLed old → IsLed new
    same-walk old new is s = subst IsLed (sym is) s

    go-led-on : (w : Walk) (turn : Turn) (shelf : Shelf) → Kept most h shelf → IsLate h x turn.now → IsLed w → IsLed (walking.go_after w turn shelf)
    go-led-on w turn shelf k late s = of-at w.path (walking.go_after w turn shelf) (go-led most top h x within w.path w turn shelf k.0 late k.1 (record { path_is = refl; spot = s }))

    go-kept : (w : Walk) (turn : Turn) (shelf : Shelf) → Kept most h shelf → Kept most h (walking.go_shelf w turn shelf)
    go-kept w turn shelf k = (k.0, go-told (NamedIn h) w turn shelf k.1)

    took-on : (w : Walk) (sent turn : Turn) (came : Result Reply Fault) (old : Shelf) (step : WalkStep) (new : Walk) (after : Shelf) (call : Call) → Kept most h old
        → Good (ShownIn h) most after.attrs → IsLate h x turn.now → IsLed w → WalkAwaits w call → AreTold came call sent.now
        → walking.Takes (walking.waiting_name w) w sent turn came old step new after → IsLed new
    took-on w sent turn came old step new after call k good late s awaits told t =
        of-at w.path new (took-led most top h x within w.path w sent turn came old step new after call good late k.1 (record { path_is = refl; spot = s }) awaits told t)

    -- ---- visits

    follow-on : (step : WalkStep) (room : Bool) (v : Visit) → IsLed v.walk → IsLed (visiting.follow_after step room v).walk
    follow-on (walks.Send call) room v s = s
    follow-on walks.Wait room v s = s
    follow-on (walks.At object) true v s = s
    follow-on (walks.At object) false v s = s
    follow-on (walks.Refused fault) room v s = s

    visit-goes : (v : Visit) (turn : Turn) (old : Shelf) → Kept most h old → IsLate h x turn.now → IsLed v.walk → IsLed (visiting.visit_after v turn old).walk
    visit-goes v turn old k late s = by v.asked
      where
        by : (b : Bool) → IsLed (if b then v else visiting.follow_after (walking.go_next v.walk turn old) turn.room (record v { walk = walking.go_after v.walk turn old })).walk
        by true = s
        by false = follow-on (walking.go_next v.walk turn old) turn.room (record v { walk = walking.go_after v.walk turn old }) (go-led-on v.walk turn old k late s)

    visit-as : (to new : Visit) → new ≡ to → IsLed to.walk → IsLed new.walk
    visit-as to new is s = subst (λ (z : Visit). IsLed z.walk) (sym is) s

    visit-takes : (v : Visit) (sent turn : Turn) (came : Result Reply Fault) (old : Shelf) (next : VisitStep) (new : Visit) (after : Shelf) (call : Call) → Kept most h old → Kept most h after
        → IsLate h x turn.now → IsLed v.walk → WalkAwaits v.walk call → AreTold came call sent.now → visiting.VisitTakes v sent turn came old next new after → IsLed new.walk
    visit-takes v sent turn came old next new after call k good late s awaits told t =
        visit-as (visiting.follow_after t.step turn.room t.walked) new t.visit_is
        (follow-on t.step turn.room t.walked (took-on v.walk sent turn came old t.step t.walked.walk after call k good.0 late s awaits told t.takes))

    change-takes : (asked : Bool) (own : List ℕ → Call) (said : _) (v : Visit) (sent turn : Turn) (came : Result Reply Fault) (old : Shelf) (next : Step) (new : Visit) (after : Shelf) (call : Call)
        → Kept most h old → Kept most h after → IsLate h x turn.now → IsLed v.walk → OwnOr asked own v.walk call → AreTold came call sent.now
        → changing.TakesChange asked own said v sent turn came old next new after → IsLed new.walk
    change-takes true own said v sent turn came old next new after call k good late s awaits told t = visit-as v new t.0 s
    change-takes false own said v sent turn came old next new after call k good late s awaits told t =
        visit-takes v sent turn came old t.step new after call k good late s awaits told t.takes

    show-takes : (asked : Bool) (own : List ℕ → Call) (attr : Option Attr) (said : _) (v : Visit) (sent turn : Turn) (came : Result Reply Fault) (old : Shelf) (next : Step) (new : Visit)
        (after : Shelf) (call : Call) → Kept most h old → Kept most h after → IsLate h x turn.now → IsLed v.walk → OwnOr asked own v.walk call → AreTold came call sent.now
        → TakesShow asked own attr said v sent turn came old next new after → IsLed new.walk
    show-takes true own attr said v sent turn came old next new after call k good late s awaits told t = visit-as v new t.0 s
    show-takes false own attr said v sent turn came old next new after call k good late s awaits told t =
        visit-takes v sent turn came old t.step new after call k good late s awaits told t.takes

    text-takes : (asked : Bool) (v : Visit) (sent turn : Turn) (came : Result Reply Fault) (old : Shelf) (next : Step) (new : Visit) (after : Shelf) (call : Call)
        → Kept most h old → Kept most h after → IsLate h x turn.now → IsLed v.walk → OwnOr asked text_call v.walk call → AreTold came call sent.now
        → TakesText asked v sent turn came old next new after → IsLed new.walk
    text-takes true v sent turn came old next new after call k good late s awaits told t = visit-as v new t.0 s
    text-takes false v sent turn came old next new after call k good late s awaits told t = visit-takes v sent turn came old t.step new after call k good late s awaits told t.takes

    sym-takes : (asked : Bool) (m : SymLink) (sent turn : Turn) (came : Result Reply Fault) (old : Shelf) (next : Step) (new : Visit) (after : Shelf) (call : Call)
        → Kept most h old → Kept most h after → IsLate h x turn.now → IsLed m.visit.walk → OwnOr asked (sym_link_call m.name m.target) m.visit.walk call → AreTold came call sent.now
        → TakesSymLink asked m sent turn came old next new after → IsLed new.walk
    sym-takes true m sent turn came old next new after call k good late s awaits told t = visit-as m.visit new t.0 s
    sym-takes false m sent turn came old next new after call k good late s awaits told t =
        visit-takes m.visit sent turn came old t.step new after call k good late s awaits told t.takes

    -- ---- lists

    list-as : (to new : ListDir) → new ≡ to → IsLed to.visit.walk → IsLed new.visit.walk
    list-as to new is s = subst (λ (z : ListDir). IsLed z.visit.walk) (sym is) s

    more-on : (step : ListStep) (room : Bool) (m : ListDir) (next : Step) (new : ListDir) → listing.GoesOn step room m next new → IsLed m.visit.walk → IsLed new.visit.walk
    more-on (More cookie verf) room m next new t s = list-as _ new t.1 s
    more-on End room m next new t s = list-as _ new t.machine_is s

    step-on : (step : Result ListStep ListFault) (heard : _) (room : Bool) (m : ListDir) (next : Step) (new : ListDir) → listing.TakesStep step heard room m next new → IsLed m.visit.walk
        → IsLed new.visit.walk
    step-on (Ok step) heard room m next new t s = more-on step room _ next new t s
    step-on (Err fault) heard room m next new t s = list-as m new t.1 s

    page-on : (heard : _) (room : Bool) (m : ListDir) (next : Step) (new : ListDir) → listing.TakesPage heard room m next new → IsLed m.visit.walk → IsLed new.visit.walk
    page-on heard room m next new (inl t) s = list-as m new t.1 s
    page-on heard room m next new (inr t) s = step-on (page_step m.listing heard.page heard.verf heard.eof) heard room m next new t s

    pages-on : (heard : Result _ Fault) (again room : Bool) (m : ListDir) (next : Step) (new : ListDir) → listing.Follows heard again room m next new → IsLed m.visit.walk
        → IsLed new.visit.walk
    pages-on (Ok heard) again room m next new t s = page-on heard room m next new t s
    pages-on (Err fault) again room m next new t s = list-as m new t.1 s

    list-takes : (asked : Bool) (m : ListDir) (sent turn : Turn) (came : Result Reply Fault) (old : Shelf) (next : Step) (new : ListDir) (after : Shelf) (call : Call)
        → Kept most h old → Kept most h after → IsLate h x turn.now → IsLed m.visit.walk → OwnOr asked (listing.page_call m.place) m.visit.walk call → AreTold came call sent.now
        → listing.TakesList asked m sent turn came old next new after → IsLed new.visit.walk
    list-takes true m sent turn came old next new after call k good late s awaits told t = pages-on (listing.page_heard came) _ turn.room m next new t.follows s
    list-takes false m sent turn came old next new after call k good late s awaits told t =
        list-as (record m { visit = t.visit }) new t.machine_is (visit-takes m.visit sent turn came old t.walks.step t.visit after call k good late s awaits told t.walks.takes)

    -- ---- stats

    ask-on : (known : Option Attr) (room : Bool) (m : Stat) → IsLed m.walk → IsLed (stats.ask_after known room m).walk
    ask-on (Some attr) room m s = s
    ask-on None true m s = s
    ask-on None false m s = s

    stat-on : (step : WalkStep) (turn : Turn) (known : attrs.Attrs) (m : Stat) → IsLed m.walk → IsLed (stats.follow_after step turn known m).walk
    stat-on (walks.Send call) turn known m s = s
    stat-on walks.Wait turn known m s = s
    stat-on (walks.At object) turn known m s = ask-on (attrs.looked object turn.now known) turn.room m s
    stat-on (walks.Refused fault) turn known m s = s

    stat-as : (to new : Stat) → new ≡ to → IsLed to.walk → IsLed new.walk
    stat-as to new is s = subst (λ (z : Stat). IsLed z.walk) (sym is) s

    stat-goes : (m : Stat) (turn : Turn) (old : Shelf) → Kept most h old → IsLate h x turn.now → IsLed m.walk → IsLed (stats.stat_after m turn old).walk
    stat-goes m turn old k late s = by m.asked
      where
        by : (b : Bool) → IsLed (if b then m else stats.follow_after (walking.go_next m.walk turn old) turn old.attrs (record m { walk = walking.go_after m.walk turn old })).walk
        by true = s
        by false = stat-on (walking.go_next m.walk turn old) turn old.attrs (record m { walk = walking.go_after m.walk turn old }) (go-led-on m.walk turn old k late s)

    stat-takes : (asked : Bool) (m : Stat) (sent turn : Turn) (came : Result Reply Fault) (old : Shelf) (next : Step) (new : Stat) (after : Shelf) (call : Call)
        → Kept most h old → Kept most h after → IsLate h x turn.now → IsLed m.walk → OwnOr asked stats.get_attr m.walk call → AreTold came call sent.now
        → stats.StatTakes asked m sent turn came old next new after → IsLed new.walk
    stat-takes true m sent turn came old next new after call k good late s awaits told t = stat-as m new t.0 s
    stat-takes false m sent turn came old next new after call k good late s awaits told t =
        stat-as (stats.follow_after t.step turn after.attrs t.walked) new t.machine_is
        (stat-on t.step turn after.attrs t.walked (took-on m.walk sent turn came old t.step t.walked.walk after call k good.0 late s awaits told t.takes))

    -- ---- two walks

    asks-on : (room : Bool) (p : Pair) → AreLed p → AreLed (pairs.asks_after room p)
    asks-on true p s = s
    asks-on false p s = s

    second-on : (step : WalkStep) (room : Bool) (p : Pair) → AreLed p → AreLed (pairs.second_kept step room p)
    second-on (walks.Send call) room p s = s
    second-on walks.Wait room p s = s
    second-on (walks.At object) room p s = asks-on room p s
    second-on (walks.Refused fault) room p s = s

    first-on : (step : WalkStep) (p : Pair) (turn : Turn) (shelf : Shelf) → Kept most h shelf → IsLate h x turn.now → AreLed p → AreLed (pairs.first_kept step p turn shelf)
    first-on (walks.Send call) p turn shelf k late s = s
    first-on walks.Wait p turn shelf k late s = s
    first-on (walks.At object) p turn shelf k late s =
        second-on (walking.go_next p.second turn shelf) turn.room (record p { second = walking.go_after p.second turn shelf }) (s.0, go-led-on p.second turn shelf k late s.1)
    first-on (walks.Refused fault) p turn shelf k late s = s

    pair-goes : (p : Pair) (turn : Turn) (old : Shelf) → Kept most h old → IsLate h x turn.now → AreLed p → AreLed (pairs.pair_after p turn old)
    pair-goes p turn old k late s = by (pairs.waits p)
      where
        by : (b : Bool) → AreLed (if b then p else pairs.on_after p turn old)
        by true = s
        by false =
            first-on (walking.go_next p.first turn old) (pairs.walked_first p turn old) turn (walking.go_shelf p.first turn old) (go-kept p.first turn old k) late
            (go-led-on p.first turn old k late s.0, s.1)

    pair-as : (to new : Pair) → new ≡ to → AreLed to → AreLed new
    pair-as to new is s = subst AreLed (sym is) s

    first-attrs : (step : WalkStep) (p : Pair) (turn : Turn) (shelf : Shelf) → (pairs.first_shelf step p turn shelf).attrs ≡ shelf.attrs
    first-attrs (walks.Send call) p turn shelf = refl
    first-attrs walks.Wait p turn shelf = refl
    first-attrs (walks.At object) p turn shelf = refl
    first-attrs (walks.Refused fault) p turn shelf = refl

    -- names that are known after a walk heard a reply
    heard-names : (w : Walk) (sent turn : Turn) (came : Result Reply Fault) (old : Shelf) (step : WalkStep) (new : Walk) (heard : Shelf) (call : Call) → Kept most h old → WalkAwaits w call
        → AreTold came call sent.now → walking.Takes (walking.waiting_name w) w sent turn came old step new heard → Told (NamedIn h) heard.names
    heard-names w sent turn came old step new heard call k awaits told t =
        walk-told (NamedIn h) w sent turn came old step new heard call awaits (told-named h call sent.now came (λ reply is. (told reply is).told)) t k.1

    pair-takes : (b : Bool) (own : List ℕ → List ℕ → Call) (p : Pair) (sent turn : Turn) (came : Result Reply Fault) (old : Shelf) (next : PairStep) (new : Pair) (after : Shelf) (call : Call)
        → Kept most h old → Kept most h after → IsLate h x turn.now → AreLed p → PairOr false b own p call → AreTold came call sent.now
        → pairs.PairTakes b p sent turn came old next new after → AreLed new
    pair-takes true own p sent turn came old next new after call k good late s awaits told t =
        let same : t.heard.attrs ≡ after.attrs = sym (ap (λ (z : Shelf). z.attrs) t.shelf_is ∙ first-attrs t.step t.walked turn t.heard) in
        let heard : Good (ShownIn h) most t.heard.attrs = good-as (ShownIn h) most after.attrs t.heard.attrs same good.0 in
        pair-as (pairs.first_kept t.step t.walked turn t.heard) new t.pair_is
        (first-on t.step t.walked turn t.heard (heard, heard-names p.first sent turn came old t.step t.walked.first t.heard call k awaits told t.takes) late (
          took-on p.first sent turn came old t.step t.walked.first t.heard call k heard late s.0 awaits told t.takes,
          same-walk p.second t.walked.second (ap (λ (z : Pair). z.second) t.walked_is) s.1,
        ))
    pair-takes false own p sent turn came old next new after call k good late s awaits told t =
        pair-as (pairs.second_kept t.step turn.room t.walked) new t.pair_is
        (second-on t.step turn.room t.walked (
          same-walk p.first t.walked.first (ap (λ (z : Pair). z.first) t.walked_is) s.0,
          took-on p.second sent turn came old t.step t.walked.second after call k good.0 late s.1 awaits told t.takes,
        ))

    rename-takes : (asked : Bool) (m : Rename) (sent turn : Turn) (came : Result Reply Fault) (old : Shelf) (next : Step) (new : Pair) (after : Shelf) (call : Call)
        → Kept most h old → Kept most h after → IsLate h x turn.now → AreLed m.pair → PairOr asked m.pair.first.asked (rename_call m.from m.to) m.pair call → AreTold came call sent.now
        → TakesRename asked m sent turn came old next new after → AreLed new
    rename-takes true m sent turn came old next new after call k good late s awaits told t = pair-as m.pair new t.0 s
    rename-takes false m sent turn came old next new after call k good late s awaits told t =
        pair-takes m.pair.first.asked (rename_call m.from m.to) m.pair sent turn came old t.step new after call k good late s awaits told t.takes

    link-takes : (asked : Bool) (m : Link) (sent turn : Turn) (came : Result Reply Fault) (old : Shelf) (next : Step) (new : Pair) (after : Shelf) (call : Call)
        → Kept most h old → Kept most h after → IsLate h x turn.now → AreLed m.pair → PairOr asked m.pair.first.asked (link_call m.name) m.pair call → AreTold came call sent.now
        → TakesLink asked m sent turn came old next new after → AreLed new
    link-takes true m sent turn came old next new after call k good late s awaits told t = pair-as m.pair new t.0 s
    link-takes false m sent turn came old next new after call k good late s awaits told t =
        pair-takes m.pair.first.asked (link_call m.name) m.pair sent turn came old t.step new after call k good late s awaits told t.takes

    -- ---- removals

    remove-as : (to new : RemoveFile) → new ≡ to → IsLed to.walk → IsLed new.walk
    remove-as to new is s = subst (λ (z : RemoveFile). IsLed z.walk) (sym is) s

    remove-follows : (step : WalkStep) (room : Bool) (m : RemoveFile) (opens : Opens) (next : Step) (new : RemoveFile) → removals.Follows step room m opens next new → IsLed m.walk → IsLed new.walk
    remove-follows (walks.Send call) room m opens next new f s = remove-as m new f.1 s
    remove-follows walks.Wait room m opens next new f s = remove-as m new f.1 s
    remove-follows (walks.At object) room m opens next new f s = remove-as (removals.asked_after m (removals.first_deed f.any) room) new f.machine_is s
    remove-follows (walks.Refused fault) room m opens next new f s = remove-as m new f.1 s

    remove-goes : (deed : Option Deed) (m : RemoveFile) (turn : Turn) (old : Shelf) (next : Step) (new : RemoveFile) (after : Shelf) → Kept most h old → IsLate h x turn.now
        → removals.Goes deed m turn old next new after → IsLed m.walk → IsLed new.walk
    remove-goes (Some deed) m turn old next new after k late g s = remove-as (removals.asked_after m deed turn.room) new g.machine_is s
    remove-goes None m turn old next new after k late g s =
        remove-follows (walking.go_next m.walk turn old) turn.room (record m { walk = walking.go_after m.walk turn old }) old.opens next new g.follows (go-led-on m.walk turn old k late s)

    remove-resumes : (asked : Bool) (m : RemoveFile) (turn : Turn) (old : Shelf) (next : Step) (new : RemoveFile) (after : Shelf) → Kept most h old → IsLate h x turn.now
        → removals.Resumes asked m turn old next new after → IsLed m.walk → IsLed new.walk
    remove-resumes true m turn old next new after k late r s = remove-as m new r.machine_is s
    remove-resumes false m turn old next new after k late r s = remove-goes m.deed m turn old next new after k late r s

    look-on : (again : Bool) (told : Result (List ℕ) Fault) (m : RemoveFile) (room : Bool) (old : Shelf) (next : Step) (new : RemoveFile) (after : Shelf)
        → removals.FollowsLook again told m room old next new after → IsLed m.walk → IsLed new.walk
    look-on true told m room old next new after f s = remove-as m new f.machine_is s
    look-on false (Ok file) m room old next new after f s = remove-as _ new f.plans.machine_is s
    look-on false (Err fault) m room old next new after f s = remove-as m new f.machine_is s

    missed-on : (missing : Bool) (file to : List ℕ) (m : RemoveFile) (room : Bool) → IsLed m.walk → IsLed (removals.missed_after missing file to m room).walk
    missed-on true file to m room s = s
    missed-on false file to m room s = s

    seek-on : (again : Bool) (told : Result (List ℕ) Fault) (file to : List ℕ) (m : RemoveFile) (room : Bool) (old : Shelf) (next : Step) (new : RemoveFile) (after : Shelf)
        → removals.FollowsSeek again told file to m room old next new after → IsLed m.walk → IsLed new.walk
    seek-on true told file to m room old next new after f s = remove-as m new f.machine_is s
    seek-on false (Ok found) file to m room old next new after f s = remove-as _ new f.machine_is s
    seek-on false (Err fault) file to m room old next new after f s =
        remove-as (removals.missed_after (removals.is_missing fault) file to m room) new f.machine_is (missed-on (removals.is_missing fault) file to m room s)

    deed-takes : (deed : Deed) (m : RemoveFile) (sent turn : Turn) (came : Result Reply Fault) (old : Shelf) (next : Step) (new : RemoveFile) (after : Shelf)
        → removals.TakesDeed deed m sent turn came old next new after → IsLed m.walk → IsLed new.walk
    deed-takes Look m sent turn came old next new after t s = look-on (look_again sent turn came old) (found_by came) m turn.room t.heard next new after t.follows s
    deed-takes (Seek file to) m sent turn came old next new after t s = seek-on (look_again sent turn came old) (found_by came) file to m turn.room t.heard next new after t.follows s
    deed-takes (Move file to) m sent turn came old next new after t s = remove-as m new t.0 s
    deed-takes Remove m sent turn came old next new after t s = remove-as m new t.0 s

    asked-takes : (asked : Bool) (deed : Deed) (m : RemoveFile) (sent turn : Turn) (came : Result Reply Fault) (old : Shelf) (next : Step) (new : RemoveFile) (after : Shelf)
        → removals.TakesIf asked deed m sent turn came old next new after → IsLed m.walk → IsLed new.walk
    asked-takes true deed m sent turn came old next new after t s = deed-takes deed m sent turn came old next new after t s
    asked-takes false deed m sent turn came old next new after t s = remove-as m new t.machine_is s

    remove-takes : (deed : Option Deed) (m : RemoveFile) (sent turn : Turn) (came : Result Reply Fault) (old : Shelf) (next : Step) (new : RemoveFile) (after : Shelf) (call : Call)
        → Kept most h old → Kept most h after → IsLate h x turn.now → IsLed m.walk → RemoveAwaits deed m call → AreTold came call sent.now
        → removals.Takes deed m sent turn came old next new after → IsLed new.walk
    remove-takes (Some deed) m sent turn came old next new after call k good late s awaits told t = asked-takes m.asked deed m sent turn came old next new after t s
    remove-takes None m sent turn came old next new after call k good late s awaits told t =
        remove-follows t.step turn.room t.walked after.opens next new t.follows (took-on m.walk sent turn came old t.step t.walked.walk after call k good.0 late s awaits told t.takes)

    -- ---- any operation on names

    name-as : (to new : NameMachine) → new ≡ to → EachNamed IsLed to → EachNamed IsLed new
    name-as to new is e = subst (EachNamed IsLed) (sym is) e

    name-goes : (m : NameMachine) (turn : Turn) (old : Shelf) (next : Step) (new : NameMachine) (after : Shelf) → Kept most h old → IsLate h x turn.now → EachNamed IsLed m
        → steps.NameGoes m turn old next new after → EachNamed IsLed new
    name-goes (names.Change m) turn old next new after k late e g = name-as _ new g.machine_is (visit-goes m.visit turn old k late e)
    name-goes (names.Stat m) turn old next new after k late e g = name-as _ new g.machine_is (stat-goes m turn old k late e)
    name-goes (names.Access m) turn old next new after k late e g = name-as _ new g.machine_is (visit-goes m.visit turn old k late e)
    name-goes (names.ReadLink m) turn old next new after k late e g = name-as _ new g.machine_is (visit-goes m.visit turn old k late e)
    name-goes (names.Remove m) turn old next new after k late e g = name-as (names.Remove g.machine) new g.machine_is (remove-resumes m.asked m turn old next g.machine after k late g.step e)
    name-goes (names.Rename m) turn old next new after k late e g = name-as _ new g.machine_is (pair-goes m.pair turn old k late e)
    name-goes (names.Link m) turn old next new after k late e g = name-as _ new g.machine_is (pair-goes m.pair turn old k late e)
    name-goes (names.SymLink m) turn old next new after k late e g = name-as _ new g.machine_is (visit-goes m.visit turn old k late e)
    name-goes (names.List m) turn old next new after k late e g = name-as _ new g.machine_is (visit-goes m.visit turn old k late e)

    name-takes : (m : NameMachine) (sent turn : Turn) (came : Result Reply Fault) (old : Shelf) (next : Step) (new : NameMachine) (after : Shelf) (call : Call) → Kept most h old
        → Kept most h after → IsLate h x turn.now → EachNamed IsLed m → NameAwaits m call → AreTold came call sent.now → steps.NameTakes m sent turn came old next new after
        → EachNamed IsLed new
    name-takes (names.Change m) sent turn came old next new after call k good late e awaits told t =
        name-as _ new t.machine_is (change-takes m.visit.asked (deed_call m.deed m.name) _ m.visit sent turn came old next t.visit after call k good late e awaits told t.step)
    name-takes (names.Stat m) sent turn came old next new after call k good late e awaits told t =
        name-as _ new t.machine_is (stat-takes m.asked m sent turn came old next t.machine after call k good late e awaits told t.step)
    name-takes (names.Access m) sent turn came old next new after call k good late e awaits told t =
        name-as _ new t.machine_is (show-takes m.visit.asked (access_call m.bits) _ _ m.visit sent turn came old next t.visit after call k good late e awaits told t.step)
    name-takes (names.ReadLink m) sent turn came old next new after call k good late e awaits told t =
        name-as _ new t.machine_is (text-takes m.visit.asked m.visit sent turn came old next t.visit after call k good late e awaits told t.step)
    name-takes (names.Remove m) sent turn came old next new after call k good late e awaits told t =
        name-as _ new t.machine_is (remove-takes m.deed m sent turn came old next t.machine after call k good late e awaits told t.step)
    name-takes (names.Rename m) sent turn came old next new after call k good late e awaits told t =
        name-as _ new t.machine_is (rename-takes m.pair.asked m sent turn came old next t.pair after call k good late e awaits told t.step)
    name-takes (names.Link m) sent turn came old next new after call k good late e awaits told t =
        name-as _ new t.machine_is (link-takes m.pair.asked m sent turn came old next t.pair after call k good late e awaits told t.step)
    name-takes (names.SymLink m) sent turn came old next new after call k good late e awaits told t =
        name-as _ new t.machine_is (sym-takes m.visit.asked m sent turn came old next t.visit after call k good late e awaits told t.step)
    name-takes (names.List m) sent turn came old next new after call k good late e awaits told t =
        name-as _ new t.machine_is (list-takes m.visit.asked m sent turn came old next t.machine after call k good late e awaits told t.step)

    -- ---- opens and puts on their way

    path-as : (to new : PathMachine) → new ≡ to → IsLed to.walk → IsLed new.walk
    path-as to new is s = subst (λ (z : PathMachine). IsLed z.walk) (sym is) s

    path-follows : (step : WalkStep) (wsize : ℕ) (m : PathMachine) (turn : Turn) (old : Shelf) (next : Step) (new : PathMachine) (after : Shelf)
        → paths.Follows step wsize m turn old next new after → IsLed m.walk → IsLed new.walk
    path-follows (walks.Send call) wsize m turn old next new after f s = path-as m new f.1 s
    path-follows walks.Wait wsize m turn old next new after f s = path-as m new f.1 s
    path-follows (walks.At dir) wsize m turn old next new after f s = path-as _ new f.machine_is s
    path-follows (walks.Refused fault) wsize m turn old next new after f s = path-as m new f.1 s

    path-resumes : (b : Bool) (wsize : ℕ) (m : PathMachine) (turn : Turn) (old : Shelf) (next : Step) (new : PathMachine) (after : Shelf) → Kept most h old → IsLate h x turn.now
        → paths.PathResumes b wsize m turn old next new after → IsLed m.walk → IsLed new.walk
    path-resumes true wsize m turn old next new after k late r s = path-as _ new r.machine_is s
    path-resumes false wsize m turn old next new after k late r s =
        path-follows (walking.go_next m.walk turn old) wsize (record m { walk = walking.go_after m.walk turn old }) turn (walking.go_shelf m.walk turn old) next new after r
        (go-led-on m.walk turn old k late s)

    path-starts : (taken : Bool) (wsize : ℕ) (m : PathMachine) (turn : Turn) (old : Shelf) (next : Step) (new : PathMachine) (after : Shelf) → Kept most h old → IsLate h x turn.now
        → paths.StartsIf taken wsize m turn old next new after → IsLed m.walk → IsLed new.walk
    path-starts true wsize m turn old next new after k late f s = path-as m new f.1 s
    path-starts false wsize m turn old next new after k late f s =
        path-resumes m.arrived wsize (record m { opener = begun_at (turn.moment - 1) m.opener }) turn old next new after k late f s

    follows-attrs : (step : WalkStep) (wsize : ℕ) (m : PathMachine) (turn : Turn) (old : Shelf) (next : Step) (new : PathMachine) (after : Shelf)
        → paths.Follows step wsize m turn old next new after → after.attrs ≡ old.attrs
    follows-attrs (walks.Send call) wsize m turn old next new after f = ap (λ (s : Shelf). s.attrs) f.2
    follows-attrs walks.Wait wsize m turn old next new after f = ap (λ (s : Shelf). s.attrs) f.2
    follows-attrs (walks.At dir) wsize m turn old next new after f =
        attrs-resumes (machines.File (file_of (placed dir m.opener))) wsize turn old next (machines.File (file_of f.opener)) after
        (record { machine = file_of f.opener; machine_is = refl; step = f.step })
    follows-attrs (walks.Refused fault) wsize m turn old next new after f = ap (λ (s : Shelf). s.attrs) f.2

    path-takes : (b : Bool) (wsize : ℕ) (m : PathMachine) (sent turn : Turn) (came : Result Reply Fault) (old : Shelf) (next : Step) (new : PathMachine) (after : Shelf) (call : Call)
        → Kept most h old → Kept most h after → IsLate h x turn.now → IsLed m.walk → PathOr b m call → AreTold came call sent.now
        → paths.PathTakes b wsize m sent turn came old next new after → IsLed new.walk
    path-takes true wsize m sent turn came old next new after call k good late s awaits told t = path-as _ new t.machine_is s
    path-takes false wsize m sent turn came old next new after call k good late s awaits told t =
        let same : t.heard.attrs ≡ after.attrs = sym (follows-attrs t.step wsize t.walked turn t.heard next new after t.follows) in
        path-follows t.step wsize t.walked turn t.heard next new after t.follows
        (took-on m.walk sent turn came old t.step t.walked.walk t.heard call k (good-as (ShownIn h) most after.attrs t.heard.attrs same good.0) late s awaits told t.takes)

    -- ---- any operation

    all-as : (to new : Machine) → new ≡ to → EachWalk IsLed to → EachWalk IsLed new
    all-as to new is e = subst (EachWalk IsLed) (sym is) e

    all-starts : (m : Machine) (wsize : ℕ) (turn : Turn) (old : Shelf) (next : Step) (new : Machine) (after : Shelf) → Kept most h old → IsLate h x turn.now → EachWalk IsLed m
        → Starts wsize m turn old next new after → EachWalk IsLed new
    all-starts (machines.File m) wsize turn old next new after k late e s = all-as (machines.File s.machine) new s.machine_is tt
    all-starts (machines.Path m) wsize turn old next new after k late e s =
        all-as (machines.Path s.machine) new s.machine_is (path-starts (slot_taken m.opener old.opens) wsize m turn old next s.machine after k late s.step e)
    all-starts (machines.Name m) wsize turn old next new after k late e s = all-as (machines.Name s.machine) new s.machine_is (name-goes m turn old next s.machine after k late e s.step)

    all-resumes : (m : Machine) (wsize : ℕ) (turn : Turn) (old : Shelf) (next : Step) (new : Machine) (after : Shelf) → Kept most h old → IsLate h x turn.now → EachWalk IsLed m
        → Resumes wsize m turn old next new after → EachWalk IsLed new
    all-resumes (machines.File m) wsize turn old next new after k late e s = all-as (machines.File s.machine) new s.machine_is tt
    all-resumes (machines.Path m) wsize turn old next new after k late e s =
        all-as (machines.Path s.machine) new s.machine_is (path-resumes m.arrived wsize m turn old next s.machine after k late s.step e)
    all-resumes (machines.Name m) wsize turn old next new after k late e s = all-as (machines.Name s.machine) new s.machine_is (name-goes m turn old next s.machine after k late e s.step)

    all-takes : (m : Machine) (wsize : ℕ) (sent turn : Turn) (came : Result Reply Fault) (old : Shelf) (next : Step) (new : Machine) (after : Shelf) (call : Call) → Kept most h old
        → Kept most h after → IsLate h x turn.now → EachWalk IsLed m → Awaits m call → AreTold came call sent.now → Takes wsize m sent turn came old next new after → EachWalk IsLed new
    all-takes (machines.File m) wsize sent turn came old next new after call k good late e awaits told s = all-as (machines.File s.machine) new s.machine_is tt
    all-takes (machines.Path m) wsize sent turn came old next new after call k good late e awaits told s =
        all-as (machines.Path s.machine) new s.machine_is (path-takes m.arrived wsize m sent turn came old next s.machine after call k good late e awaits told s.step)
    all-takes (machines.Name m) wsize sent turn came old next new after call k good late e awaits told s =
        all-as (machines.Name s.machine) new s.machine_is (name-takes m sent turn came old next s.machine after call k good late e awaits told s.step)

-- ---- the story

module _ (most : ℕ) (top : List ℕ) where
  abbrev AllLed : List Entry → ℕ → State → Type 0
  AllLed h x (Busy machine) = (x < length h) × EachWalk (IsLed most top h x) machine
  AllLed h x (Over answer) = Unit {0}

  abbrev Story : List Entry → ℕ → Op → State → Type 0
  Story h x op state = AllLed h x state

  then-led : (h : List Entry) (x : ℕ) (op : Op) (next : Step) (new : Machine) → x < length h → EachWalk (IsLed most top h x) new
      → ThenOf (λ k. Story h x op (Busy k)) (λ a. Story h x op (Over a)) next new
  then-led h x op (nexts.Send call) new within e = (within, e)
  then-led h x op nexts.Wait new within e = (within, e)
  then-led h x op (nexts.Done answer) new within e = tt

  grows-led : (h : List Entry) (e : Entry) (x : ℕ) (state : State) → AllLed h x state → AllLed (h ++ e ∷ []) x state
  grows-led h e x (Busy machine) s =
      let within = s.0 in
      let more = length_last h e in (
        omega (arith, within, more),
        each-map (IsLed most top h x) (IsLed most top (h ++ e ∷ []) x) (λ w k. (walk-grows h e most x top w.path w within (record { path_is = refl; spot = k })).spot) machine s.1,
      )
  grows-led h e x (Over answer) s = tt

-- at the root, with all names before them
begun-led : (m : Mounted) (most : ℕ) (h : List Entry) (x lane : ℕ) (op : Op) → EachWalk (IsLed most m.root h x) (machine_of m lane op)
begun-led m most h x lane (ops.OpenFile slot mode path) = begun-walk most m.root h x _
begun-led m most h x lane (ops.Read slot offset count) = tt
begun-led m most h x lane (ops.Write slot offset bytes) = tt
begun-led m most h x lane (ops.Fill slot offset count byte) = tt
begun-led m most h x lane (ops.Put path offset bytes) = begun-walk most m.root h x _
begun-led m most h x lane (ops.Sync slot) = tt
begun-led m most h x lane (ops.Close slot) = tt
begun-led m most h x lane (ops.Truncate slot size) = tt
begun-led m most h x lane (ops.Stat path) = begun-walk most m.root h x _
begun-led m most h x lane (ops.Access path bits) = begun-walk most m.root h x _
begun-led m most h x lane (ops.MakeDir path) = begun-walk most m.root h x _
begun-led m most h x lane (ops.RemoveDir path) = begun-walk most m.root h x _
begun-led m most h x lane (ops.Remove path) = begun-walk most m.root h x _
begun-led m most h x lane (ops.Rename from to) = (begun-walk most m.root h x _, begun-walk most m.root h x _)
begun-led m most h x lane (ops.Link from to) = (begun-walk most m.root h x _, begun-walk most m.root h x _)
begun-led m most h x lane (ops.SymLink path target) = begun-walk most m.root h x _
begun-led m most h x lane (ops.ReadLink path) = begun-walk most m.root h x _
begun-led m most h x lane (ops.List path) = begun-walk most m.root h x _

led-laws : (m : Mounted) (most : ℕ) → BondLaws (machine_of m) Both (Kept most) (Story most m.root)
led-laws m most = record {
  shelf = both-laws most;
  starts = λ h lane line op wsize turn old next new after k late s.
      let later : List Entry = h ++ Began lane line op ∷ [] in
      let more = length_last h (Began lane line op) in
      let within : length h < length later = omega (arith, more) in
      then-led most m.root later (length h) op next new within
      (all-starts most m.root later (length h) within (machine_of m lane op) wsize turn old next new after k
      (subst (λ (z : List Entry). time_next z ≤ turn.now) (sym (take-early h (Began lane line op ∷ []) (length h) (omega arith) ∙ take-whole h)) late)
      (begun-led m most later (length h) lane op) s);
  resumes = λ h x op machine wsize turn old next new after k within late story r.
      then-led most m.root h x op next new within (all-resumes most m.root h x within machine wsize turn old next new after k late story.1 r);
  takes = λ h x op machine call wsize sent turn came old next new after k good within late story on told t.
      then-led most m.root h x op next new within (all-takes most m.root h x within machine wsize sent turn came old next new after call k good late story.1 on.1 told t);
  grows = λ h e x op state story. grows-led most m.root h e x state story;
  lost = λ h x op shown. tt;
}

pub walks-led : WalksLed
walks-led m setup most h v lasts r at number machine there x op under =
    let known = reached-known m setup Both both-asks (Kept most) (Story most m.root) (led-laws m most)
    (λ k w new. (fresh-attrs setup most k w.shelf.attrs lasts new.attrs, none-kept k w.shelf.names new.names)) h v r in
    let story : AllLed most m.root h x (Busy machine) = ((known.lanes at (record { number = number; state = Busy machine }) there).1 x op under).story in
    each-map (IsLed most m.root h x) (Stands h most x m.root) (λ w s. record { few = s.few; leads = leads-by h most x m.root (take (length w.path - w.spot.left) w.path) w.spot.dir s.led }) machine story.1
