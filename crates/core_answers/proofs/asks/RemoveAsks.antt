-- A remove asks for each call that is sent for it, or hides its file by it.
use Rattle.core_answers.proofs.Prelude.{◌≡◌, ◌≤◌, ◌⊎◌, inl, inr, ℕ, false, List, [], ◌∷◌, ◌++◌, length, Option, Some, None, Result, refl, sym, ap, subst, ◌∙◌, arith, All-nil, Fault, Entry, Began, Call, Reply, Op, Asks, Asked, Rooted, PlaceOf, Terms, Asked-grow, Asked-wide, Step, Shelf, Deed, Look, Seek, Move, Remove, walk_of, Mounted, Machine, IsNamed, front_of, last_of, machine_of, Starts, Resumes, Takes, State, Busy, Over, Setup, removal_by, of_walk, in_flight, begins-unbegun, all-starts, all-resumes, all-takes, IsNameTold, NamesTold, names-later, IsHeard, heard-tells, end-leads, RemoveAwaits, front-last, Did, IsTold, TaleLaws, reached-good}
use Rattle.nfs_dir_calls.specs.declared.keeping.DirKept.TheVariants as kept
use Rattle.world_model.specs.declared.message.Reply.TheVariants as replies
use Rattle.world_model.specs.declared.op.Op.TheVariants as ops
use Rattle.claims.specs.Asks as asks
use Rattle.client_shelf.specs.declared.step.Step.TheVariants as nexts
use Rattle.name_ops.specs.Looking.{look_up}
use Rattle.name_ops.specs.RemoveFile as removals
use Rattle.name_ops.specs.Walking as walking
use Rattle.op_machines.specs.declared.machine.Machine.TheVariants as machines
use Rattle.core_answers.specs.asks.RemoveCalls.{IsHiding, RemovesAsk}
use Rattle.core_answers.proofs.asks.CallsAwaited.{Expects, expects-laws}
use Rattle.core_answers.proofs.asks.PutSteps.{walk-begins}
use Rattle.core_answers.proofs.asks.PutAsks.{now, rooted-now}
use Rattle.core_answers.proofs.asks.Sendings.{NoCall, reached-sent}
use Rattle.core_answers.proofs.asks.RemoveSteps.{IsFineOf, HasDeed, RemoveRuns, remove-goes, remove-takes, remove-later}
use Rattle.core_answers.proofs.asks.WalkAsks.{walk-looks, leads-on, front-asks}

module _ (m : Mounted) where
  abbrev Runs : List Entry → ℕ → List (List ℕ) → Machine → Type 0
  Runs h x path machine = RemoveRuns m.root h x (front_of path) (last_of path) machine

  abbrev StateStory : List Entry → ℕ → List (List ℕ) → State → Type 0
  StateStory h x path (Busy machine) = Runs h x path machine
  StateStory h x path (Over answer) = Unit {0}

  abbrev pub RemoveStory : List Entry → ℕ → Op → State → Type 0
  RemoveStory h x op state = (path : List (List ℕ)) → op ≡ ops.Remove path → StateStory h x path state

  abbrev pub Shelved : List Entry → Shelf → Type 0
  Shelved h shelf = NamesTold h shelf.names

  did : (h : List Entry) (x : ℕ) (op : Op) (next : Step) (new : Machine) (after : Shelf) → Shelved h after → RemoveStory h x op (Busy new) → Did NoCall Shelved RemoveStory h x op next new after
  did h x op (nexts.Send call) new after kept story = record { shelf = kept; asks = tt; then_ = story }
  did h x op nexts.Wait new after kept story = record { shelf = kept; asks = tt; then_ = story }
  did h x op (nexts.Done answer) new after kept story = record { shelf = kept; asks = tt; then_ = λ path is. tt }

  runs-as : (h : List Entry) (x : ℕ) (path : List (List ℕ)) (to new : Machine) → new ≡ to → Runs h x path to → Runs h x path new
  runs-as h x path to new is k = subst (Runs h x path) (sym is) k

  heard-all : (h : List Entry) (x : ℕ) (op : Op) (machine : Machine) (came : Result Reply Fault) (told : IsTold Expects NoCall h x op machine came) → IsHeard m.root h came told.call
  heard-all h x op machine came told reply is = Asked-wide h x (length h) 0 (length h) told.call reply (omega arith) (omega arith) (told.heard reply is).asked

  state-later : (h : List Entry) (e : Entry) (x : ℕ) (path : List (List ℕ)) (state : State) → StateStory h x path state → StateStory (h ++ e ∷ []) x path state
  state-later h e x path (Busy machine) k = remove-later m.root h e x (front_of path) (last_of path) machine k
  state-later h e x path (Over answer) k = tt

  pub remove-laws : (setup : Setup) → TaleLaws (machine_of m) setup Expects NoCall Shelved RemoveStory
  remove-laws setup = record {
    fresh = λ h v up fresh. subst (λ (es : _). NamesTold h es) (sym fresh.names) (All-nil (IsNameTold h));
    starts = λ h lane line op wsize turn old next new after kept s.
        let later = h ++ Began lane line op ∷ [] in
        did later (length h) op next new after (all-starts (IsNameTold later) (machine_of m lane op) wsize turn old next new after s kept)
        (λ path is.
        let k = subst (λ (o : Op). Starts wsize (machine_of m lane o) turn old next new after) is s in
        runs-as later (length h) path (machines.Name k.machine) new k.machine_is
        (remove-goes m.root later (length h) (front_of path) (last_of path) (record { walk = walk_of m.root (front_of path); name = last_of path; deed = None; asked = false }) turn old next k.machine after
        kept (record { name_is = refl; walk = walk-begins m.root later path (front_of path); deed = tt }) k.step));
    resumes = λ h x op machine wsize turn old next new after kept story r.
        did h x op next new after (all-resumes (IsNameTold h) machine wsize turn old next new after r kept)
        (λ path is.
        let k = story path is in
        let g = subst (λ (n : Machine). Resumes wsize n turn old next new after) k.is r in
        runs-as h x path (machines.Name g.machine) new g.machine_is (remove-goes m.root h x (front_of path) (last_of path) k.m turn old next g.machine after kept k.story g.step));
    takes = λ h x op machine wsize sent turn came old next new after others kept story one told t.
        did h x op next new after
        (all-takes (IsNameTold h) machine wsize sent turn came old next new after told.call told.expects.0 (heard-tells m.root h came told.call (heard-all h x op machine came told)) t kept)
        (λ path is.
        let k = story path is in
        let g = subst (λ (n : Machine). Takes wsize n sent turn came old next new after) k.is t in
        let e = subst (λ (n : Machine). Expects n told.call) k.is told.expects in
        runs-as h x path (machines.Name g.machine) new g.machine_is
        (remove-takes m.root h x (front_of path) (last_of path) k.m sent turn came old next g.machine after told.call kept k.story e.0 (λ reply is. (told.heard reply is).asked) told.refused (heard-all h x op machine came told) g.step));
    still = λ h e shelf kept. names-later h e shelf.names kept;
    waits = λ h e x op call w. tt;
    grows = λ h e x op state quiet story path is. state-later h e x path state (story path is);
    lost = λ h x op shown path is. tt;
  }

module _ (m : Mounted) (terms : Terms) (before after : List Entry) (x y : ℕ) (path : List (List ℕ)) (call : Call) (named : IsNamed path) (there : length before ≡ y)
    (rooted : Rooted terms.origin (before ++ after) y m.root) where
  abbrev Made : Type 0
  Made = Asks terms (before ++ after) x y (ops.Remove path) call ⊎ IsHiding terms (before ++ after) x y path call

  remove-asks : (machine : Machine) → RemoveRuns m.root before x (front_of path) (last_of path) machine → Expects machine call → 1 ≤ in_flight machine → Made
  remove-asks machine k e some = by k.m.deed refl
    where
      awaits : RemoveAwaits k.m.deed k.m call
      awaits = (subst (λ (n : Machine). Expects n call) k.is e).0

      many : 1 ≤ removal_by k.m.deed k.m.asked (of_walk k.m.walk)
      many = subst (λ (n : Machine). 1 ≤ in_flight n) k.is some

      place : walking.next_name k.m.walk ≡ None → PlaceOf terms.origin (before ++ after) y path k.m.walk.spot.dir k.m.name
      place none = record {
        earlier = front_of path;
        is = front-last path named ∙ ap (λ (n : List ℕ). front_of path ++ n ∷ []) (sym k.story.name_is);
        leads = leads-on m.root terms before after x y (ops.Remove path) there rooted (front_of path) k.m.walk.spot.dir
            (end-leads m.root before (front_of path) k.m.walk k.story.walk none);
      }

      asked-now : (c : Call) (reply : Reply) → Asked before x (length before) c reply → Asked (before ++ after) x y c reply
      asked-now c reply a = subst (λ (n : ℕ). Asked (before ++ after) x n c reply) there (Asked-grow before after x (length before) c reply a)

      does : (deed : Deed) → IsFineOf before x (last_of path) k.m.walk.spot.dir deed → walking.next_name k.m.walk ≡ None → call ≡ removals.call_of k.m deed → Made
      does Look fine none is = inl (asks.finds path k.m.walk.spot.dir k.m.name (0, omega arith, refl) (place none) is)
      does (Seek file to) fine none is = inl (asks.looks_for_hidden path k.m.walk.spot.dir k.m.name to refl (place none) fine.0 is)
      does (Move file to) fine none is = inr (record {
        d = k.m.walk.spot.dir;
        last = k.m.name;
        name = to;
        place = place none;
        hidden = fine.0;
        f = file;
        attr = fine.1.attr;
        dir = fine.1.dir;
        reply = fine.2.reply;
        gave = subst (λ (n : List ℕ). Asked (before ++ after) x y (look_up k.m.walk.spot.dir n) (replies.Dir (kept.Lookup file fine.1.attr fine.1.dir))) (sym k.story.name_is)
            (asked-now (look_up k.m.walk.spot.dir (last_of path)) (replies.Dir (kept.Lookup file fine.1.attr fine.1.dir)) fine.1.asked);
        free = asked-now (look_up k.m.walk.spot.dir to) fine.2.reply fine.2.asked;
        none = fine.2.none;
        is = is;
      })
      does Remove fine none is = inl (asks.acts (asks.removes path k.m.walk.spot.dir k.m.name refl (place none) is))

      by : (o : Option Deed) → k.m.deed ≡ o → Made
      by None is = inl (front-asks m.root terms before after x y (ops.Remove path) there rooted path call named (0, omega arith, refl)
          (walk-looks m.root before (front_of path) k.m.walk call k.story.walk (subst (λ (o : Option Deed). RemoveAwaits o k.m call) is awaits)
          (subst (λ (o : Option Deed). 1 ≤ removal_by o k.m.asked (of_walk k.m.walk)) is many)))
      by (Some deed) is =
          let has = subst (λ (o : Option Deed). HasDeed m.root before x (front_of path) (last_of path) o k.m.walk) is k.story.deed in
          does deed has.0 has.1 (subst (λ (o : Option Deed). RemoveAwaits o k.m call) is awaits)

pub removes-ask : RemovesAsk
removes-ask m setup h v r terms known i bytes at = elim (reached-sent (machine_of m) (begins-unbegun m) setup Expects expects-laws h v r i bytes at) [
  | inl none ↦ inl none
  | inr w ↦ inr (record {
    xid = w.xid;
    call = w.call;
    made = w.made;
    lane = w.lane;
    x = w.x;
    op = w.op;
    under_way = now m setup terms h known i bytes w;
    asks = λ path is named.
        subst (λ (k : List Entry). Asks terms k w.x i (ops.Remove path) w.call ⊎ IsHiding terms k w.x i path w.call) (sym w.is)
        (remove-asks m terms w.before w.after w.x i path w.call named w.there (rooted-now m setup terms h known i bytes w) w.machine
        (((reached-good (machine_of m) (begins-unbegun m) setup Expects expects-laws NoCall (Shelved m) (RemoveStory m) (remove-laws m setup) w.before w.old w.reached).each w.at
        (record { number = w.lane; state = Busy w.machine }) w.busy).1 w.x w.op w.under_way path is) w.expects w.some);
  })
]
