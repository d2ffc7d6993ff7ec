-- A stat's path leads to the object whose attributes it shows.
use Rattle.core_answers.proofs.Prelude.{◌≡◌, ◌<◌, ◌≤◌, ℕ, suc, Bool, true, false, List, [], ◌∷◌, ◌++◌, length, Option, Some, None, Result, Ok, Err, refl, sym, ap, subst, ◌∙◌, arith, if◌then◌else◌, Attr, stamp_of, Lookup, FileKept, Answer, Fault, Entry, Began, Executed, Call, Reply, Op, Fresh, History, Lawful, of_object, At-below, length_last, fails_busy, goes_again, Step, Shelf, Turn, Stat, WalkStep, shown_answer, machine_of, Mounted, Machine, NameMachine, Starts, Resumes, Takes, State, Busy, Over, Awaits, WalkAwaits, WalkMoves, OwnOr, go-step, took-step, Told, reached-rows, AskedOf, ThenOf, Numbered, IsRecent, own, ShownRecently, time_next, IsAnswered}
use Rattle.attr_cache.specs.Attrs as attrs
use Rattle.nfs_file_calls.specs.declared.owned.FileKept.TheVariants as kept
use Rattle.world_model.specs.declared.answer.Answer.TheVariants as answers
use Rattle.world_model.specs.declared.answer.Value.TheVariants.{Attrs}
use Rattle.world_model.specs.declared.entry.Entry.TheVariants.{Answered as AnsweredNow}
use Rattle.world_model.specs.declared.message.Reply.TheVariants as replies
use Rattle.world_model.specs.declared.op.Op.TheVariants as ops
use Rattle.world_model.proofs.Doing.{lookup_done}
use Rattle.client_shelf.specs.declared.step.Step.TheVariants as nexts
use Rattle.name_ops.specs.declared.walk.WalkStep.TheVariants as walks
use Rattle.name_ops.specs.Looking.{look_up}
use Rattle.name_ops.specs.Stat as stats
use Rattle.name_ops.specs.Walking as walking
use Rattle.op_machines.specs.declared.machine.Machine.TheVariants as machines
use Rattle.op_machines.specs.declared.name_machine.NameMachine.TheVariants as names
use Rattle.op_machines.specs.NameSteps as steps
use Rattle.law_names.specs.Kept.{IsLookedUp}
use Rattle.model_walks.proofs.NamesStand.{stands_at}
use Rattle.core_answers.specs.bonds.Had.{HasAttr}
use Rattle.core_answers.specs.bonds.Led.{StoodRecently, LedRecently, HadWhereLed, StatsLed}
use Rattle.core_answers.specs.bonds.Led as recently
use Rattle.core_answers.proofs.bonds.AttrsShown.{ShownIn, answered-grow, attr-laws, fresh-attrs}
use Rattle.core_answers.proofs.bonds.Executions.{answered-ran, shown-had, recent-later}
use Rattle.core_answers.proofs.bonds.FileCalls.{Asking}
use Rattle.core_answers.proofs.bonds.Keeping.{BondLaws, reached-answered}
use Rattle.core_answers.proofs.engine.Told.{AskLaws, ShelfLaws, ToldSince, IsLate, take-early, take-whole}
use Rattle.core_answers.proofs.bonds.Learnt.{Good, IsOn}
use Rattle.core_answers.proofs.bonds.MachineCalls.{Asks, asks-laws}
use Rattle.core_answers.proofs.bonds.NamesShown.{NamedIn, awaits-asks, name-laws, none-kept}
use Rattle.core_answers.proofs.bonds.StatsShown.{believed-of, same-attrs, recent-grows, shown-grows-of}
use Rattle.core_answers.proofs.bonds.Walked.{StepBy, looked, believed_so, LedBy, root, step, led-grows, WalkAt, go-led, took-led, end-led, walk-grows, walk-begins}

-- ---- attributes and names together

abbrev pub Both : Machine → Call → Type 0
Both m c = Asks m c × Awaits m c

both-asked : (next : Step) (new : Machine) → AskedOf Asks next new → AskedOf Awaits next new → AskedOf Both next new
both-asked (nexts.Send call) new a b = (a, b)
both-asked nexts.Wait new a b = tt
both-asked (nexts.Done answer) new a b = tt

both-asking : (others : ℕ) (m : Machine) (next : Step) (new : Machine) → Asking Asks (Asks m) others next new → Asking Awaits (Awaits m) others next new → Asking Both (Both m) others next new
both-asking others m (nexts.Send call) new a b = record { asked = (a.asked, b.asked); kept = λ some c on. (a.kept some c on.0, b.kept some c on.1) }
both-asking others m nexts.Wait new a b = record { asked = tt; kept = λ some c on. (a.kept some c on.0, b.kept some c on.1) }
both-asking others m (nexts.Done answer) new a b = record { asked = tt; kept = tt }

both-asks : AskLaws Both
both-asks = record {
  starts = λ m wsize turn old next new after s. both-asked next new (asks-laws.starts m wsize turn old next new after s) (awaits-asks.starts m wsize turn old next new after s);
  resumes = λ m wsize turn old next new after right goes s.
      both-asking _ m next new (asks-laws.resumes m wsize turn old next new after right goes s) (awaits-asks.resumes m wsize turn old next new after right goes s);
  takes = λ m wsize sent turn came old next new after others one s.
      both-asking others m next new (asks-laws.takes m wsize sent turn came old next new after others one s) (awaits-asks.takes m wsize sent turn came old next new after others one s);
}

abbrev pub Kept : ℕ → List Entry → Shelf → Type 0
Kept most h shelf = Good (ShownIn h) most shelf.attrs × Told (NamedIn h) shelf.names

both-laws : (most : ℕ) → ShelfLaws Both (Kept most)
both-laws most = record {
  starts = λ h machine wsize turn old next new after s k.
      ((attr-laws most).starts h machine wsize turn old next new after s k.0, name-laws.starts h machine wsize turn old next new after s k.1);
  resumes = λ h machine wsize turn old next new after r k.
      ((attr-laws most).resumes h machine wsize turn old next new after r k.0, name-laws.resumes h machine wsize turn old next new after r k.1);
  takes = λ h machine call wsize sent turn came old next new after on told t k. (
    (attr-laws most).takes h machine call wsize sent turn came old next new after on.0 told t k.0,
    name-laws.takes h machine call wsize sent turn came old next new after on.1 told t k.1,
  );
  grows = λ h e shelf k. ((attr-laws most).grows h e shelf k.0, name-laws.grows h e shelf k.1);
}

-- ---- the story of a stat

module _ (most : ℕ) (top : List ℕ) where
  -- It goes along its path, and asks for attributes at the end of it.
  pub record IsStat (h : List Entry) (x : ℕ) (path : List (List ℕ)) (machine : Machine) : Type 0 where
    pub within : x < length h
    pub m : Stat
    pub is : machine ≡ machines.Name (names.Stat m)
    pub walk : WalkAt most top h x path m.walk
    pub whole : m.asked ≡ true → walking.next_name m.walk ≡ None

  -- attributes of the object to which the path leads
  pub record LedShown (h : List Entry) (x : ℕ) (path : List (List ℕ)) (attr : Attr) : Type 0 where
    pub within : x < length h
    pub shown : ShownRecently h most x (length h) attr
    pub led : LedBy h most x top path shown.object

  -- the attributes that it answers
  abbrev pub Answered : List Entry → ℕ → List (List ℕ) → Answer → Type 0
  Answered h x path answer = (attr : Attr) → answer ≡ answers.Done (Attrs attr) → LedShown h x path attr

  abbrev pub StatState : List Entry → ℕ → List (List ℕ) → State → Type 0
  StatState h x path (Busy machine) = IsStat h x path machine
  StatState h x path (Over answer) = Answered h x path answer

  abbrev pub StatStory : List Entry → ℕ → Op → State → Type 0
  StatStory h x op state = (path : List (List ℕ)) → op ≡ ops.Stat path → StatState h x path state

  -- ---- one step

  module _ (h : List Entry) (x : ℕ) (within : x < length h) (path : List (List ℕ)) where
    abbrev Goes : Step → Stat → Type 0
    Goes next new = ThenOf (λ k. IsStat h x path (machines.Name (names.Stat k))) (Answered h x path) next new

    going : (m : Stat) → WalkAt most top h x path m.walk → (m.asked ≡ true → walking.next_name m.walk ≡ None) → IsStat h x path (machines.Name (names.Stat m))
    going m l w = record { within = within; m = m; is = refl; walk = l; whole = w }

    idle : (m : Stat) → m.asked ≡ false → m.asked ≡ true → walking.next_name m.walk ≡ None
    idle m unasked asked_now = absurd (let no_way : false ≡ true = sym unasked ∙ asked_now in cc)

    goes-as : (to next : Step) (state new : Stat) → next ≡ to → new ≡ state → Goes to state → Goes next new
    goes-as to next state new is at g = subst (λ n. Goes n new) (sym is) (subst (λ s. Goes to s) (sym at) g)

    ask-goes : (known : Option Attr) (object : List ℕ) (room : Bool) (m : Stat) → WalkAt most top h x path m.walk → m.asked ≡ false → object ≡ m.walk.spot.dir
        → walking.next_name m.walk ≡ None → ((attr : Attr) → known ≡ Some attr → (s : ShownRecently h most x (length h) attr) × (s.object ≡ object))
        → Goes (stats.ask_next known object room) (stats.ask_after known room m)
    ask-goes (Some attr) object room m l unasked at none shown = λ a is.
        let s = shown attr refl in
        subst (LedShown h x path) (same-attrs most h x within attr a is) (record {
          within = within;
          shown = s.0;
          led = subst (λ (o : List ℕ). LedBy h most x top path o) (sym (s.1 ∙ at)) (end-led most top h x within path m.walk l none);
        })
    ask-goes None object true m l unasked at none shown = going (record m { asked = true }) l (λ asked_now. none)
    ask-goes None object false m l unasked at none shown = going m l (idle m unasked)

    follow-goes : (step : WalkStep) (turn : Turn) (c : attrs.Attrs) (m : Stat) → Good (ShownIn h) most c → IsLate h x turn.now → WalkAt most top h x path m.walk → m.asked ≡ false
        → WalkMoves step m.walk → Goes (stats.follow_next step turn c) (stats.follow_after step turn c m)
    follow-goes (walks.Send call) turn c m g late l unasked s = going m l (idle m unasked)
    follow-goes walks.Wait turn c m g late l unasked s = going m l (idle m unasked)
    follow-goes (walks.At object) turn c m g late l unasked s =
        ask-goes (attrs.looked object turn.now c) object turn.room m l unasked s.0 s.1 (λ attr is. believed-of most h x within object turn.now c attr g late is)
    follow-goes (walks.Refused fault) turn c m g late l unasked s = λ a is. absurd cc

    stat-if : (b : Bool) (m : Stat) (turn : Turn) (old : Shelf) → m.asked ≡ b → Kept most h old → IsLate h x turn.now → WalkAt most top h x path m.walk
        → (m.asked ≡ true → walking.next_name m.walk ≡ None) → Goes (if b then nexts.Wait else stats.follow_next (walking.go_next m.walk turn old) turn old.attrs)
        (if b then m else stats.follow_after (walking.go_next m.walk turn old) turn old.attrs (record m { walk = walking.go_after m.walk turn old }))
    stat-if true m turn old unasked k late l whole = going m l whole
    stat-if false m turn old unasked k late l whole =
        follow-goes (walking.go_next m.walk turn old) turn old.attrs (record m { walk = walking.go_after m.walk turn old }) k.0 late
        (go-led most top h x within path m.walk turn old k.0 late k.1 l) unasked (go-step m.walk turn old)

    name-of : (n : Step) (k : Stat) → Goes n k → ThenOf (λ z. IsStat h x path (machines.Name z)) (Answered h x path) n (names.Stat k)
    name-of (nexts.Send call) k g = g
    name-of nexts.Wait k g = g
    name-of (nexts.Done answer) k g = g

    stat-goes : (m : Stat) (turn : Turn) (old : Shelf) (next : Step) (new : NameMachine) (after : Shelf) → Kept most h old → IsLate h x turn.now → WalkAt most top h x path m.walk
        → (m.asked ≡ true → walking.next_name m.walk ≡ None) → steps.StatGoes m turn old next new after → ThenOf (λ z. IsStat h x path (machines.Name z)) (Answered h x path) next new
    stat-goes m turn old next new after k late l whole s =
        subst (λ n. ThenOf (λ z. IsStat h x path (machines.Name z)) (Answered h x path) n new) (sym s.next_is)
        (subst (λ w. ThenOf (λ z. IsStat h x path (machines.Name z)) (Answered h x path) (stats.stat_next m turn old) w) (sym s.machine_is)
        (name-of (stats.stat_next m turn old) (stats.stat_after m turn old) (stat-if m.asked m turn old refl k late l whole)))

    -- the reply to its GETATTR
    got-led : (k : FileKept) (dir : List ℕ) (call : Call) (ms : ℕ) → IsOn dir call → LedBy h most x top path dir → ToldSince h x call ms (replies.File k)
        → Answered h x path (shown_answer (stats.got_told (Ok (replies.File k))))
    got-led (kept.GetAttr attr) dir call ms on led told = λ a is.
        subst (LedShown h x path) (same-attrs most h x within attr a is) (record {
          within = within;
          shown = record {
            object = dir;
            call = call;
            reply = replies.File (kept.GetAttr attr);
            since = told.told.since;
            recent = own told.later;
            answered = told.told.answered;
            shows = of_object on refl;
          };
          led = led;
        })
    got-led (kept.GetAttrFail status) dir call ms on led told = λ a is. absurd cc
    got-led k dir call ms on led told = λ a is. absurd cc

    told-led : (came : Result Reply Fault) (dir : List ℕ) (call : Call) (ms : ℕ) → IsOn dir call → LedBy h most x top path dir
        → ((reply : Reply) → came ≡ Ok reply → ToldSince h x call ms reply) → Answered h x path (shown_answer (stats.got_told came))
    told-led (Ok (replies.File k)) dir call ms on led told = got-led k dir call ms on led (told (replies.File k) refl)
    told-led (Ok (replies.Dir k)) dir call ms on led told = λ a is. absurd cc
    told-led (Ok (replies.Mount k)) dir call ms on led told = λ a is. absurd cc
    told-led (Err fault) dir call ms on led told = λ a is. absurd cc

    shows-goes : (again : Bool) (call : Call) (answer : Answer) (next : Step) (m new : Stat) → next ≡ (if again then nexts.Send call else nexts.Done answer) → new ≡ m
        → IsStat h x path (machines.Name (names.Stat m)) → Answered h x path answer → Goes next new
    shows-goes true call answer next m new is at going_on a = goes-as (nexts.Send call) next m new is at going_on
    shows-goes false call answer next m new is at going_on a = goes-as (nexts.Done answer) next m new is at a

    stat-takes : (asked : Bool) (m : Stat) (call : Call) (sent turn : Turn) (came : Result Reply Fault) (old : Shelf) (next : Step) (new : Stat) (after : Shelf)
        → m.asked ≡ asked → Kept most h old → Kept most h after → IsLate h x turn.now → WalkAt most top h x path m.walk → (m.asked ≡ true → walking.next_name m.walk ≡ None)
        → IsOn m.walk.spot.dir call → OwnOr m.asked stats.get_attr m.walk call → ((reply : Reply) → came ≡ Ok reply → ToldSince h x call sent.now reply)
        → stats.StatTakes asked m sent turn came old next new after → Goes next new
    stat-takes true m call sent turn came old next new after unasked before k late l whole on awaits told t =
        shows-goes (goes_again (fails_busy (stats.got_told came)) sent turn old.repeats) (stats.get_attr m.walk.spot.dir) (shown_answer (stats.got_told came)) next m new t.1.next_is t.0
        (going m l whole) (told-led came m.walk.spot.dir call sent.now on (end-led most top h x within path m.walk l (whole unasked)) told)
    stat-takes false m call sent turn came old next new after unasked before k late l whole on awaits told t =
        let still : t.walked.asked ≡ false = ap (λ (w : Stat). w.asked) t.walked_is ∙ unasked in
        let waits : WalkAwaits m.walk call = subst (λ (b : Bool). OwnOr b stats.get_attr m.walk call) unasked awaits in
        goes-as (stats.follow_next t.step turn after.attrs) next (stats.follow_after t.step turn after.attrs t.walked) new t.next_is t.machine_is
        (follow-goes t.step turn after.attrs t.walked k.0 late
        (took-led most top h x within path m.walk sent turn came old t.step t.walked.walk after call k.0 late before.1 l waits told t.takes) still
        (took-step m.walk sent turn came old t.step t.walked.walk after t.takes))

    -- ---- as steps of the machine

    then-story : (op : Op) (next : Step) (new : Machine) → ((p : List (List ℕ)) → op ≡ ops.Stat p → ThenOf (IsStat h x p) (Answered h x p) next new)
        → ThenOf (λ k. StatStory h x op (Busy k)) (λ a. StatStory h x op (Over a)) next new
    then-story op (nexts.Send call) new g = λ p is. g p is
    then-story op nexts.Wait new g = λ p is. g p is
    then-story op (nexts.Done answer) new g = λ p is. g p is

    named : (next : Step) (machine : NameMachine) (new : Machine) → new ≡ machines.Name machine → ThenOf (λ z. IsStat h x path (machines.Name z)) (Answered h x path) next machine
        → ThenOf (IsStat h x path) (Answered h x path) next new
    named (nexts.Send call) machine new is g = subst (IsStat h x path) (sym is) g
    named nexts.Wait machine new is g = subst (IsStat h x path) (sym is) g
    named (nexts.Done answer) machine new is g = g

    stat-of : (next : Step) (m : Stat) (new : NameMachine) → new ≡ names.Stat m → Goes next m → ThenOf (λ z. IsStat h x path (machines.Name z)) (Answered h x path) next new
    stat-of (nexts.Send call) m new is g = subst (λ z. IsStat h x path (machines.Name z)) (sym is) g
    stat-of nexts.Wait m new is g = subst (λ z. IsStat h x path (machines.Name z)) (sym is) g
    stat-of (nexts.Done answer) m new is g = g

  -- ---- the laws

  state-grows : (h : List Entry) (e : Entry) (x : ℕ) (path : List (List ℕ)) (state : State) → StatState h x path state → StatState (h ++ e ∷ []) x path state
  state-grows h e x path (Busy machine) s =
      let within = s.within in
      let more = length_last h e in
      record { within = omega (arith, within, more); m = s.m; is = s.is; walk = walk-grows h e most x top path s.m.walk s.within s.walk; whole = s.whole }
  state-grows h e x path (Over answer) s = λ attr is.
      let was = s attr is in
      let within = was.within in
      let more = length_last h e in
      let shown = shown-grows-of most h e x attr was.within was.shown in
      record {
        within = omega (arith, within, more);
        shown = shown.0;
        led = subst (λ (o : List ℕ). LedBy (h ++ e ∷ []) most x top path o) (sym shown.1) (led-grows h e most x top path was.shown.object was.within was.led);
      }

led-laws : (m : Mounted) (most : ℕ) → BondLaws (machine_of m) Both (Kept most) (StatStory most m.root)
led-laws mounted most = record {
  shelf = both-laws most;
  starts = λ h lane line op wsize turn old next new after good late s.
      let later : List Entry = h ++ Began lane line op ∷ [] in
      let more = length_last h (Began lane line op) in
      let within : length h < length later = omega (arith, more) in
      then-story most mounted.root later (length h) within [] op next new (λ path is.
      let moved : Starts wsize (machine_of mounted lane (ops.Stat path)) turn old next new after =
      subst (λ (o : Op). Starts wsize (machine_of mounted lane o) turn old next new after) is s in
      named most mounted.root later (length h) within path next moved.machine new moved.machine_is
      (stat-goes most mounted.root later (length h) within path _ turn old next moved.machine after good
      (subst (λ k. time_next k ≤ turn.now) (sym (take-early h (Began lane line op ∷ []) (length h) (omega arith) ∙ take-whole h)) late)
      (walk-begins later most (length h) mounted.root path) (λ asked_now. absurd cc) moved.step));
  resumes = λ h x op machine wsize turn old next new after good within late story r.
      then-story most mounted.root h x within [] op next new (λ path is.
      let k = story path is in
      let moved : Resumes wsize (machines.Name (names.Stat k.m)) turn old next new after = subst (λ (n : Machine). Resumes wsize n turn old next new after) k.is r in
      named most mounted.root h x within path next moved.machine new moved.machine_is
      (stat-goes most mounted.root h x within path k.m turn old next moved.machine after good late k.walk k.whole moved.step));
  takes = λ h x op machine call wsize sent turn came old next new after before good within late story on told t.
      then-story most mounted.root h x within [] op next new (λ path is.
      let k = story path is in
      let moved : Takes wsize (machines.Name (names.Stat k.m)) sent turn came old next new after = subst (λ (n : Machine). Takes wsize n sent turn came old next new after) k.is t in
      let mine : IsOn k.m.walk.spot.dir call = subst (λ (n : Machine). Asks n call) k.is on.0 in
      let awaits : OwnOr k.m.asked stats.get_attr k.m.walk call = subst (λ (n : Machine). Awaits n call) k.is on.1 in
      named most mounted.root h x within path next moved.machine new moved.machine_is
      (stat-of most mounted.root h x within path next moved.step.machine moved.machine moved.step.machine_is
      (stat-takes most mounted.root h x within path k.m.asked k.m call sent turn came old next moved.step.machine after refl before good late k.walk k.whole mine awaits told
      moved.step.step)));
  grows = λ h e x op state story path is. state-grows most mounted.root h e x path state (story path is);
  lost = λ h x op shown path is. λ attr no_way. absurd cc;
}

-- ---- where the server is honest

module _ (t : History) (lawful : Lawful t) (fresh : Fresh t) (numbered : Numbered t.entries) (most x y : ℕ) (before after : List Entry) (is : t.entries ≡ before ++ after)
    (there : length before ≡ y) (soon : y ≤ length t.entries) (within : x < length before) where
  lift : (from : ℕ) (call : Call) (reply : Reply) → IsAnswered before from (length before) call reply → IsAnswered t.entries from y call reply
  lift from call reply a =
      subst (λ (k : List Entry). IsAnswered k from y call reply) (sym is) (answered-grow before after from y call reply (subst (λ (n : ℕ). IsAnswered before from n call reply) there a))

  recent-lift : (n : ℕ) → IsRecent before most x n → IsRecent t.entries most x n
  recent-lift n r = subst (λ (k : List Entry). IsRecent k most x n) (sym is) (recent-grows before after most x n (omega (arith, within)) r)

  -- an object had attributes that were shown recently at a recent moment
  pub record HadThen (object : List ℕ) (attr : Attr) : Type 0 where
    pub n : ℕ
    pub recent : IsRecent t.entries most x n
    pub early : n ≤ y
    pub has : HasAttr t n object attr

  had-then : (attr : Attr) (s : ShownRecently before most x (length before) attr) → HadThen s.object attr
  had-then attr s =
      let had = shown-had t lawful numbered s.since y s.call s.reply s.object attr (lift s.since s.call s.reply s.answered) s.shows in
      let late = had.late in
      record { n = had.n; recent = recent-later t.entries most x s.since had.n (omega (arith, late)) (recent-lift s.since s.recent); early = had.soon; has = had.has }

  stood : (d name object : List ℕ) → StepBy before most x d name object → StoodRecently t most x y d name object
  stood d name object (looked since attr dir_attr late a) =
      let reply : Reply = replies.Dir (Lookup object attr dir_attr) in
      let ran = answered-ran t lawful numbered since y (look_up d name) reply tt (lift since (look_up d name) reply a) in
      let done = lookup_done (t.at ran.place) (t.at (suc ran.place)) d name object attr dir_attr (lawful.entries ran.place (Executed ran.xid (look_up d name) reply) ran.at).1 in
      let from = ran.late in
      let to = ran.before in
      record { n = ran.place; recent = own (omega (arith, late, from)); soon = omega (arith, to); names = done.named.names }
  stood d name object (believed_so attr s on was) =
      let had = had-then attr s in
      let reply : Reply = replies.Dir (Lookup object was.attr (Some was.dir_attr)) in
      let ran = answered-ran t lawful numbered 0 y (look_up d name) reply tt (lift 0 (look_up d name) reply was.answered) in
      let told : IsLookedUp t d (stamp_of attr) name object = record { place = ran.place; xid = ran.xid; attr = was.attr; dir = was.dir_attr; done = ran.at; is = was.stamp } in
      let has : HasAttr t had.n d attr = subst (λ (o : List ℕ). HasAttr t had.n o attr) on had.has in
      let early = had.early in
      record {
        n = had.n;
        recent = had.recent;
        soon = had.early;
        names = stands_at t lawful fresh d (stamp_of attr) name object told had.n (omega (arith, early, soon)) has.o has.is (ap stamp_of has.had);
      }

  led-stood : (top : List ℕ) (path : List (List ℕ)) (object : List ℕ) → LedBy before most x top path object → LedRecently t most x y top path object
  led-stood top _ _ (root path object at same) = recently.root path object at same
  led-stood top _ _ (step path earlier object name d at led by) = recently.step path earlier object name d at (led-stood top earlier d led) (stood d name object by)

  led-had : (top : List ℕ) (path : List (List ℕ)) (attr : Attr) → LedShown most top before x path attr → HadWhereLed t most x y top path attr
  led-had top path attr s =
      let had = had-then attr s.shown in
      record { object = s.shown.object; led = led-stood top path s.shown.object s.led; n = had.n; recent = had.recent; soon = had.early; has = had.has }

pub stats-led : StatsLed
stats-led m setup most t v lasts lawful fresh r lane x y path attr ended =
    let s = reached-answered m setup Both both-asks (Kept most) (StatStory most m.root) (led-laws m most)
    (λ k w new. (fresh-attrs setup most k w.shelf.attrs lasts new.attrs, none-kept k w.shelf.names new.names)) t.entries v r lane x (ops.Stat path) y (answers.Done (Attrs attr)) ended in
    let shown = s.story path refl attr refl in
    let early = At-below t.entries y (AnsweredNow lane ended.line (answers.Done (Attrs attr))) ended.answered in
    led-had t lawful fresh (reached-rows (machine_of m) setup t.entries v r).numbered most x y s.before s.after s.is s.there (omega (arith, early)) shown.within m.root path attr shown
