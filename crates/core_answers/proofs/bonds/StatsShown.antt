-- The attributes that a stat shows were shown by a reply, and are recent.
use Rattle.core_answers.proofs.Prelude.{◌≡◌, ◌<◌, ◌≤◌, ◌+◌, ℕ, Bool, true, false, List, [], ◌∷◌, ◌++◌, length, Option, Some, None, Result, Ok, Err, refl, sym, ap, subst, ◌∙◌, arith, if◌then◌else◌, Attr, FileKept, Answer, Fault, Entry, Began, Call, Reply, Op, of_object, length_last, fails_busy, goes_again, Step, Shelf, Turn, Stat, WalkStep, shown_answer, machine_of, Mounted, Machine, NameMachine, Starts, Resumes, Takes, State, Busy, Over, ThenOf, IsRecent, own, ShownRecently, time_next}
use Rattle.claims.specs.Shown.{ShowsAttr}
use Rattle.core_answers.specs.bonds.Ages.{young, StatsRecent}
use Rattle.attr_cache.specs.Attrs as attrs
use Rattle.attr_cache.proofs.Entries.{Believed, looked-kept}
use Rattle.nfs_file_calls.specs.declared.owned.FileKept.TheVariants as kept
use Rattle.world_model.specs.declared.answer.Answer.TheVariants as answers
use Rattle.world_model.specs.declared.answer.Value.TheVariants.{Attrs}
use Rattle.world_model.specs.declared.message.Reply.TheVariants as replies
use Rattle.world_model.specs.declared.op.Op.TheVariants as ops
use Rattle.client_shelf.specs.declared.step.Step.TheVariants as nexts
use Rattle.name_ops.specs.declared.walk.WalkStep.TheVariants as walks
use Rattle.name_ops.specs.Stat as stats
use Rattle.name_ops.specs.Walking as walking
use Rattle.op_machines.specs.declared.machine.Machine.TheVariants as machines
use Rattle.op_machines.specs.declared.name_machine.NameMachine.TheVariants as names
use Rattle.op_machines.specs.NameSteps as steps
use Rattle.core_answers.proofs.bonds.AttrsShown.{ShownIn, time-grows, answered-grow, answered-last, attr-laws, fresh-attrs}
use Rattle.core_answers.proofs.bonds.Keeping.{BondLaws, reached-answered}
use Rattle.core_answers.proofs.engine.Told.{ToldSince, IsLate, take-early, take-whole}
use Rattle.core_answers.proofs.bonds.Learnt.{Good, IsOn}
use Rattle.core_answers.proofs.bonds.MachineCalls.{Asks, asks-laws}

-- ---- the story of a stat

pub record IsStat (machine : Machine) : Type 0 where
  pub m : Stat
  pub is : machine ≡ machines.Name (names.Stat m)

-- the attributes that it answers
abbrev pub Answered : ℕ → List Entry → ℕ → Answer → Type 0
Answered most h x answer = (attr : Attr) → answer ≡ answers.Done (Attrs attr) → (x < length h) × ShownRecently h most x (length h) attr

abbrev pub StatState : ℕ → List Entry → ℕ → State → Type 0
StatState most h x (Busy machine) = IsStat machine
StatState most h x (Over answer) = Answered most h x answer

abbrev pub StatStory : ℕ → List Entry → ℕ → Op → State → Type 0
StatStory most h x op state = (path : List (List ℕ)) → op ≡ ops.Stat path → StatState most h x state

-- ---- one step

module _ (most : ℕ) (h : List Entry) (x : ℕ) (within : x < length h) where
  abbrev Goes : Step → Stat → Type 0
  Goes next new = ThenOf (λ k. IsStat (machines.Name (names.Stat k))) (Answered most h x) next new

  going : (m : Stat) → IsStat (machines.Name (names.Stat m))
  going m = record { m = m; is = refl }

  goes-as : (to next : Step) (state new : Stat) → next ≡ to → new ≡ state → Goes to state → Goes next new
  goes-as to next state new is at g = subst (λ n. Goes n new) (sym is) (subst (λ s. Goes to s) (sym at) g)

  pub same-attrs : (a b : Attr) → answers.Done (Attrs a) ≡ answers.Done (Attrs b) → a ≡ b
  same-attrs a b e = cc

  -- attributes that are believed at the core's time
  pub believed-of : (object : List ℕ) (now : ℕ) (c : attrs.Attrs) (attr : Attr) → Good (ShownIn h) most c → IsLate h x now → attrs.looked object now c ≡ Some attr
      → (s : ShownRecently h most x (length h) attr) × (s.object ≡ object)
  believed-of object now c attr g late is =
      let k = looked-kept (Believed (ShownIn h) most) object now c attr g.all is in
      let shown = k.1.0 in
      let short = k.1.1 in
      let fresh = k.3 in (
        record {
          object = object;
          call = shown.call;
          reply = shown.reply;
          since = shown.since;
          recent = young k.0.sent_at shown.timed (omega (arith, late, fresh, short));
          answered = shown.answered;
          shows = subst (λ a. ShowsAttr shown.call shown.reply object a) k.2 shown.shows;
        },
        refl,
      )

  believed : (object : List ℕ) (now : ℕ) (c : attrs.Attrs) (attr : Attr) → Good (ShownIn h) most c → IsLate h x now → attrs.looked object now c ≡ Some attr
      → ShownRecently h most x (length h) attr
  believed object now c attr g late is = (believed-of object now c attr g late is).0

  ask-goes : (known : Option Attr) (object : List ℕ) (room : Bool) (m : Stat) → ((attr : Attr) → known ≡ Some attr → ShownRecently h most x (length h) attr)
      → Goes (stats.ask_next known object room) (stats.ask_after known room m)
  ask-goes (Some attr) object room m shown = λ a is. (within, subst (λ b. ShownRecently h most x (length h) b) (same-attrs attr a is) (shown attr refl))
  ask-goes None object true m shown = going (record m { asked = true })
  ask-goes None object false m shown = going m

  follow-goes : (step : WalkStep) (turn : Turn) (c : attrs.Attrs) (m : Stat) → Good (ShownIn h) most c → IsLate h x turn.now → Goes (stats.follow_next step turn c) (stats.follow_after step turn c m)
  follow-goes (walks.Send call) turn c m g late = going m
  follow-goes walks.Wait turn c m g late = going m
  follow-goes (walks.At object) turn c m g late =
      ask-goes (attrs.looked object turn.now c) object turn.room m (λ attr is. believed object turn.now c attr g late is)
  follow-goes (walks.Refused fault) turn c m g late = λ a is. absurd cc

  stat-if : (b : Bool) (m : Stat) (turn : Turn) (old : Shelf) → Good (ShownIn h) most old.attrs → IsLate h x turn.now
      → Goes (if b then nexts.Wait else stats.follow_next (walking.go_next m.walk turn old) turn old.attrs)
      (if b then m else stats.follow_after (walking.go_next m.walk turn old) turn old.attrs (record m { walk = walking.go_after m.walk turn old }))
  stat-if true m turn old g late = going m
  stat-if false m turn old g late = follow-goes (walking.go_next m.walk turn old) turn old.attrs (record m { walk = walking.go_after m.walk turn old }) g late

  stat-goes : (m : Stat) (turn : Turn) (old : Shelf) (next : Step) (new : NameMachine) (after : Shelf) → Good (ShownIn h) most old.attrs → IsLate h x turn.now
      → steps.StatGoes m turn old next new after → ThenOf (λ k. IsStat (machines.Name k)) (Answered most h x) next new
  stat-goes m turn old next new after g late s =
      subst (λ n. ThenOf (λ k. IsStat (machines.Name k)) (Answered most h x) n new) (sym s.next_is)
      (subst (λ k. ThenOf (λ k. IsStat (machines.Name k)) (Answered most h x) (stats.stat_next m turn old) k) (sym s.machine_is)
      (name-of (stats.stat_next m turn old) (stats.stat_after m turn old) (stat-if m.asked m turn old g late)))
    where
      name-of : (n : Step) (k : Stat) → Goes n k → ThenOf (λ k. IsStat (machines.Name k)) (Answered most h x) n (names.Stat k)
      name-of (nexts.Send call) k g = g
      name-of nexts.Wait k g = g
      name-of (nexts.Done answer) k g = g

  -- the reply to its GETATTR
  got-answered : (k : FileKept) (dir : List ℕ) (call : Call) (ms : ℕ) → IsOn dir call → ToldSince h x call ms (replies.File k) → Answered most h x (shown_answer (stats.got_told (Ok (replies.File k))))
  got-answered (kept.GetAttr attr) dir call ms on told = λ a is. (
    within,
    record {
      object = dir;
      call = call;
      reply = replies.File (kept.GetAttr attr);
      since = told.told.since;
      recent = own told.later;
      answered = told.told.answered;
      shows = of_object on (ap Some (same-attrs attr a is));
    },
  )
  got-answered (kept.GetAttrFail status) dir call ms on told = λ a is. absurd cc
  got-answered k dir call ms on told = λ a is. absurd cc

  told-answered : (came : Result Reply Fault) (dir : List ℕ) (call : Call) (ms : ℕ) → IsOn dir call → ((reply : Reply) → came ≡ Ok reply → ToldSince h x call ms reply)
      → Answered most h x (shown_answer (stats.got_told came))
  told-answered (Ok (replies.File k)) dir call ms on told = got-answered k dir call ms on (told (replies.File k) refl)
  told-answered (Ok (replies.Dir k)) dir call ms on told = λ a is. absurd cc
  told-answered (Ok (replies.Mount k)) dir call ms on told = λ a is. absurd cc
  told-answered (Err fault) dir call ms on told = λ a is. absurd cc

  shows-goes : (again : Bool) (call : Call) (answer : Answer) (next : Step) (m new : Stat) → next ≡ (if again then nexts.Send call else nexts.Done answer) → new ≡ m → Answered most h x answer
      → Goes next new
  shows-goes true call answer next m new is at a = goes-as (nexts.Send call) next m new is at (going m)
  shows-goes false call answer next m new is at a = goes-as (nexts.Done answer) next m new is at a

  stat-takes : (asked : Bool) (m : Stat) (call : Call) (sent turn : Turn) (came : Result Reply Fault) (old : Shelf) (next : Step) (new : Stat) (after : Shelf)
      → Good (ShownIn h) most after.attrs → IsLate h x turn.now → IsOn m.walk.spot.dir call → ((reply : Reply) → came ≡ Ok reply → ToldSince h x call sent.now reply)
      → stats.StatTakes asked m sent turn came old next new after → Goes next new
  stat-takes true m call sent turn came old next new after g late on told t =
      shows-goes (goes_again (fails_busy (stats.got_told came)) sent turn old.repeats) (stats.get_attr m.walk.spot.dir) (shown_answer (stats.got_told came)) next m new t.1.next_is t.0
      (told-answered came m.walk.spot.dir call sent.now on told)
  stat-takes false m call sent turn came old next new after g late on told t =
      goes-as (stats.follow_next t.step turn after.attrs) next (stats.follow_after t.step turn after.attrs t.walked) new t.next_is t.machine_is
      (follow-goes t.step turn after.attrs t.walked g late)

-- ---- the laws

then-story : (most : ℕ) (h : List Entry) (x : ℕ) (op : Op) (next : Step) (new : Machine) → ((path : List (List ℕ)) → op ≡ ops.Stat path → ThenOf IsStat (Answered most h x) next new)
    → ThenOf (λ k. StatStory most h x op (Busy k)) (λ a. StatStory most h x op (Over a)) next new
then-story most h x op (nexts.Send call) new g = λ path is. g path is
then-story most h x op nexts.Wait new g = λ path is. g path is
then-story most h x op (nexts.Done answer) new g = λ path is. g path is

named : (most : ℕ) (h : List Entry) (x : ℕ) (next : Step) (machine : NameMachine) (new : Machine) → new ≡ machines.Name machine → ThenOf (λ k. IsStat (machines.Name k)) (Answered most h x) next machine
    → ThenOf IsStat (Answered most h x) next new
named most h x (nexts.Send call) machine new is g = subst IsStat (sym is) g
named most h x nexts.Wait machine new is g = subst IsStat (sym is) g
named most h x (nexts.Done answer) machine new is g = g

stat-of : (most : ℕ) (h : List Entry) (x : ℕ) (next : Step) (m : Stat) (new : NameMachine) → new ≡ names.Stat m → ThenOf (λ k. IsStat (machines.Name (names.Stat k))) (Answered most h x) next m
    → ThenOf (λ k. IsStat (machines.Name k)) (Answered most h x) next new
stat-of most h x (nexts.Send call) m new is g = subst (λ k. IsStat (machines.Name k)) (sym is) g
stat-of most h x nexts.Wait m new is g = subst (λ k. IsStat (machines.Name k)) (sym is) g
stat-of most h x (nexts.Done answer) m new is g = g

pub recent-grows : (h more : List Entry) (most x n : ℕ) → x ≤ length h → IsRecent h most x n → IsRecent (h ++ more) most x n
recent-grows h more most x n within (own after) = own after
recent-grows h more most x n within (young ms t less) =
    young ms (time-grows h more n ms t) (subst (λ k. time_next k < ms + most) (sym (take-early h more x within)) less)

pub shown-grows-of : (most : ℕ) (h : List Entry) (e : Entry) (x : ℕ) (attr : Attr) → x < length h → (was : ShownRecently h most x (length h) attr)
    → (s : ShownRecently (h ++ e ∷ []) most x (length (h ++ e ∷ [])) attr) × (s.object ≡ was.object)
shown-grows-of most h e x attr within s = (
  record {
    object = s.object;
    call = s.call;
    reply = s.reply;
    since = s.since;
    recent = recent-grows h (e ∷ []) most x s.since (omega (arith, within)) s.recent;
    answered = answered-last h e s.since s.call s.reply s.answered;
    shows = s.shows;
  },
  refl,
)

state-grows : (most : ℕ) (h : List Entry) (e : Entry) (x : ℕ) (state : State) → StatState most h x state → StatState most (h ++ e ∷ []) x state
state-grows most h e x (Busy machine) s = s
state-grows most h e x (Over answer) s = λ attr is.
    let was = s attr is in
    let within = was.0 in
    let more = length_last h e in
    (omega (arith, within, more), (shown-grows-of most h e x attr was.0 was.1).0)

pub stat-laws : (m : Mounted) (most : ℕ) → BondLaws (machine_of m) Asks (λ h shelf. Good (ShownIn h) most shelf.attrs) (StatStory most)
stat-laws mounted most = record {
  shelf = attr-laws most;
  starts = λ h lane line op wsize turn old next new after good late s.
      let later : List Entry = h ++ Began lane line op ∷ [] in
      let more = length_last h (Began lane line op) in
      then-story most later (length h) op next new (λ path is.
      let moved : Starts wsize (machine_of mounted lane (ops.Stat path)) turn old next new after =
      subst (λ (o : Op). Starts wsize (machine_of mounted lane o) turn old next new after) is s in
      named most later (length h) next moved.machine new moved.machine_is
      (stat-goes most later (length h) (omega (arith, more)) _ turn old next moved.machine after good
      (subst (λ k. time_next k ≤ turn.now) (sym (take-early h (Began lane line op ∷ []) (length h) (omega arith) ∙ take-whole h)) late) moved.step));
  resumes = λ h x op machine wsize turn old next new after good within late story r.
      then-story most h x op next new (λ path is.
      let k = story path is in
      let moved : Resumes wsize (machines.Name (names.Stat k.m)) turn old next new after = subst (λ (n : Machine). Resumes wsize n turn old next new after) k.is r in
      named most h x next moved.machine new moved.machine_is (stat-goes most h x within k.m turn old next moved.machine after good late moved.step));
  takes = λ h x op machine call wsize sent turn came old next new after before good within late story on told t.
      then-story most h x op next new (λ path is.
      let k = story path is in
      let moved : Takes wsize (machines.Name (names.Stat k.m)) sent turn came old next new after = subst (λ (n : Machine). Takes wsize n sent turn came old next new after) k.is t in
      let mine : IsOn k.m.walk.spot.dir call = subst (λ (n : Machine). Asks n call) k.is on in
      named most h x next moved.machine new moved.machine_is
      (stat-of most h x next moved.step.machine moved.machine moved.step.machine_is
      (stat-takes most h x within k.m.asked k.m call sent turn came old next moved.step.machine after good late mine told moved.step.step)));
  grows = λ h e x op state story path is. state-grows most h e x state (story path is);
  lost = λ h x op shown path is attr no_way. absurd cc;
}

pub stats-recent : StatsRecent
stats-recent m setup most h v lasts r lane x y path attr ended =
    let s = reached-answered m setup Asks asks-laws (λ k shelf. Good (ShownIn k) most shelf.attrs) (StatStory most) (stat-laws m most) (λ k w fresh. fresh-attrs setup most k w.shelf.attrs lasts fresh.attrs)
    h v r lane x (ops.Stat path) y (answers.Done (Attrs attr)) ended in
    let shown : ShownRecently s.before most x y attr = subst (λ n. ShownRecently s.before most x n attr) s.there (s.story path refl attr refl).1 in
    let within = (s.story path refl attr refl).0 in
    subst (λ k. ShownRecently k most x y attr) (sym s.is) (longer s.before s.after within shown)
  where
    longer : (before after : List Entry) → x < length before → ShownRecently before most x y attr → ShownRecently (before ++ after) most x y attr
    longer before after within k = record {
      object = k.object;
      call = k.call;
      reply = k.reply;
      since = k.since;
      recent = recent-grows before after most x k.since (omega (arith, within)) k.recent;
      answered = answered-grow before after k.since y k.call k.reply k.answered;
      shows = k.shows;
    }
