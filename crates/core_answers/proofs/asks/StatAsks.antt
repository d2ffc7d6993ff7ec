-- A stat asks for each call that is sent for it.
use Rattle.core_answers.proofs.Prelude.{◌≡◌, ◌≤◌, inl, inr, ℕ, Bool, true, false, List, [], ◌∷◌, ◌++◌, length, Result, refl, sym, subst, arith, All-nil, Fault, Entry, Began, Call, Reply, Op, Asks, Rooted, Terms, Asked-wide, Step, Shelf, walk_of, Mounted, Machine, machine_of, Starts, Resumes, Takes, State, Busy, Over, Setup, own_or, of_walk, in_flight, begins-unbegun, OwnOr, all-starts, all-resumes, all-takes, IsNameTold, NamesTold, names-later, IsHeard, heard-tells, end-leads, Did, IsTold, TaleLaws, reached-good}
use Rattle.world_model.specs.declared.op.Op.TheVariants as ops
use Rattle.claims.specs.Asks as asks
use Rattle.client_shelf.specs.declared.step.Step.TheVariants as nexts
use Rattle.name_ops.specs.Stat as stats
use Rattle.op_machines.specs.declared.machine.Machine.TheVariants as machines
use Rattle.core_answers.specs.asks.StatCalls.{StatsAsk}
use Rattle.core_answers.proofs.asks.CallsAwaited.{Expects, expects-laws}
use Rattle.core_answers.proofs.asks.PutSteps.{walk-begins}
use Rattle.core_answers.proofs.asks.PutAsks.{now, rooted-now}
use Rattle.core_answers.proofs.asks.Sendings.{NoCall, reached-sent}
use Rattle.core_answers.proofs.asks.StatSteps.{StatRuns, stat-goes, stat-takes, stat-later}
use Rattle.core_answers.proofs.asks.WalkAsks.{walk-looks, leads-on, whole-asks}

module _ (m : Mounted) where
  abbrev StateStory : List Entry → List (List ℕ) → State → Type 0
  StateStory h path (Busy machine) = StatRuns m.root h path machine
  StateStory h path (Over answer) = Unit {0}

  abbrev pub StatStory : List Entry → ℕ → Op → State → Type 0
  StatStory h x op state = (path : List (List ℕ)) → op ≡ ops.Stat path → StateStory h path state

  abbrev pub Shelved : List Entry → Shelf → Type 0
  Shelved h shelf = NamesTold h shelf.names

  did : (h : List Entry) (x : ℕ) (op : Op) (next : Step) (new : Machine) (after : Shelf) → Shelved h after → StatStory h x op (Busy new) → Did NoCall Shelved StatStory h x op next new after
  did h x op (nexts.Send call) new after kept story = record { shelf = kept; asks = tt; then_ = story }
  did h x op nexts.Wait new after kept story = record { shelf = kept; asks = tt; then_ = story }
  did h x op (nexts.Done answer) new after kept story = record { shelf = kept; asks = tt; then_ = λ path is. tt }

  runs-as : (h : List Entry) (path : List (List ℕ)) (to new : Machine) → new ≡ to → StatRuns m.root h path to → StatRuns m.root h path new
  runs-as h path to new is k = subst (StatRuns m.root h path) (sym is) k

  heard-all : (h : List Entry) (x : ℕ) (op : Op) (machine : Machine) (came : Result Reply Fault) (told : IsTold Expects NoCall h x op machine came) → IsHeard m.root h came told.call
  heard-all h x op machine came told reply is = Asked-wide h x (length h) 0 (length h) told.call reply (omega arith) (omega arith) (told.heard reply is).asked

  state-later : (h : List Entry) (e : Entry) (path : List (List ℕ)) (state : State) → StateStory h path state → StateStory (h ++ e ∷ []) path state
  state-later h e path (Busy machine) k = stat-later m.root h e path machine k
  state-later h e path (Over answer) k = tt

  pub stat-laws : (setup : Setup) → TaleLaws (machine_of m) setup Expects NoCall Shelved StatStory
  stat-laws setup = record {
    fresh = λ h v up fresh. subst (λ (es : _). NamesTold h es) (sym fresh.names) (All-nil (IsNameTold h));
    starts = λ h lane line op wsize turn old next new after kept s.
        let later = h ++ Began lane line op ∷ [] in
        did later (length h) op next new after (all-starts (IsNameTold later) (machine_of m lane op) wsize turn old next new after s kept)
        (λ path is.
        let k = subst (λ (o : Op). Starts wsize (machine_of m lane o) turn old next new after) is s in
        runs-as later path (machines.Name k.machine) new k.machine_is
        (stat-goes m.root later path (record { walk = walk_of m.root path; asked = false }) turn old next k.machine after kept
        (record { walk = walk-begins m.root later path path; done = λ no_way. absurd (cc) }) k.step));
    resumes = λ h x op machine wsize turn old next new after kept story r.
        did h x op next new after (all-resumes (IsNameTold h) machine wsize turn old next new after r kept)
        (λ path is.
        let k = story path is in
        let g = subst (λ (n : Machine). Resumes wsize n turn old next new after) k.is r in
        runs-as h path (machines.Name g.machine) new g.machine_is (stat-goes m.root h path k.s turn old next g.machine after kept k.story g.step));
    takes = λ h x op machine wsize sent turn came old next new after others kept story one told t.
        did h x op next new after
        (all-takes (IsNameTold h) machine wsize sent turn came old next new after told.call told.expects.0 (heard-tells m.root h came told.call (heard-all h x op machine came told)) t kept)
        (λ path is.
        let k = story path is in
        let g = subst (λ (n : Machine). Takes wsize n sent turn came old next new after) k.is t in
        let e = subst (λ (n : Machine). Expects n told.call) k.is told.expects in
        runs-as h path (machines.Name g.machine) new g.machine_is
        (stat-takes m.root h path k.s sent turn came old next g.machine after told.call kept k.story e.0 (heard-all h x op machine came told) g.step));
    still = λ h e shelf kept. names-later h e shelf.names kept;
    waits = λ h e x op call w. tt;
    grows = λ h e x op state quiet story path is. state-later h e path state (story path is);
    lost = λ h x op shown path is. tt;
  }

module _ (m : Mounted) (terms : Terms) (before after : List Entry) (x y : ℕ) (path : List (List ℕ)) (call : Call) (there : length before ≡ y)
    (rooted : Rooted terms.origin (before ++ after) y m.root) where
  stat-asks : (machine : Machine) → StatRuns m.root before path machine → Expects machine call → 1 ≤ in_flight machine → Asks terms (before ++ after) x y (ops.Stat path) call
  stat-asks machine k e some = by k.s.asked refl
    where
      awaits : OwnOr k.s.asked stats.get_attr k.s.walk call
      awaits = (subst (λ (n : Machine). Expects n call) k.is e).0

      many : 1 ≤ own_or k.s.asked (of_walk k.s.walk)
      many = subst (λ (n : Machine). 1 ≤ in_flight n) k.is some

      by : (b : Bool) → k.s.asked ≡ b → Asks terms (before ++ after) x y (ops.Stat path) call
      by true is = asks.shows path k.s.walk.spot.dir refl
          (leads-on m.root terms before after x y (ops.Stat path) there rooted path k.s.walk.spot.dir (end-leads m.root before path k.s.walk k.story.walk (k.story.done is)))
          (subst (λ (b : Bool). OwnOr b stats.get_attr k.s.walk call) is awaits)
      by false is = whole-asks m.root terms before after x y (ops.Stat path) there rooted path call (0, omega arith, refl) (0, omega arith, refl)
          (walk-looks m.root before path k.s.walk call k.story.walk (subst (λ (b : Bool). OwnOr b stats.get_attr k.s.walk call) is awaits)
          (subst (λ (b : Bool). 1 ≤ own_or b (of_walk k.s.walk)) is many))

pub stats-ask : StatsAsk
stats-ask m setup h v r terms known i bytes at = elim (reached-sent (machine_of m) (begins-unbegun m) setup Expects expects-laws h v r i bytes at) [
  | inl none ↦ inl none
  | inr w ↦ inr (record {
    xid = w.xid;
    call = w.call;
    made = w.made;
    lane = w.lane;
    x = w.x;
    op = w.op;
    under_way = now m setup terms h known i bytes w;
    asks = λ path is.
        subst (λ (k : List Entry). Asks terms k w.x i (ops.Stat path) w.call) (sym w.is)
        (stat-asks m terms w.before w.after w.x i path w.call w.there (rooted-now m setup terms h known i bytes w) w.machine
        (((reached-good (machine_of m) (begins-unbegun m) setup Expects expects-laws NoCall (Shelved m) (StatStory m) (stat-laws m setup) w.before w.old w.reached).each w.at
        (record { number = w.lane; state = Busy w.machine }) w.busy).1 w.x w.op w.under_way path is) w.expects w.some);
  })
]
