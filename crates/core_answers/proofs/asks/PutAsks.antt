-- A put asks for each call that is sent for it.
use Rattle.core_answers.proofs.Prelude.{◌≡◌, ◌≤◌, ◌⊎◌, inl, inr, ℕ, Bool, true, false, List, [], ◌∷◌, ◌++◌, length, Result, refl, sym, ap, subst, ◌∙◌, arith, All-nil, Fault, Entry, Began, Call, Reply, Op, Asks, look_up, At, Rooted, UnderWay, PlaceOf, Terms, Asked-wide, Rooted-wide, At-grow, Pending, Walk, walk_of, Step, Shelf, Opening, OpeningPhase, PutFile, Putting, Writing, Mounted, Machine, PathMachine, IsNamed, front_of, last_of, machine_of, Starts, Resumes, Takes, State, Busy, Over, Setup, KnowsRoot, of_walk, of_writing, of_putting, in_flight, PathOr, PutAwaits, begins-unbegun, all-starts, all-resumes, all-takes, IsNameTold, NamesTold, names-later, LeadsTo, IsHeard, heard-tells, front-last, Did, IsTold, TaleLaws, reached-good}
use Rattle.core_facts.specs.InFlight.{path_by}
use Rattle.world_model.specs.declared.op.Op.TheVariants as ops
use Rattle.claims.specs.Asks as asks
use Rattle.world_model.specs.Leads.{Leads}
use Rattle.client_shelf.specs.declared.step.Step.TheVariants as nexts
use Rattle.file_ops.specs.declared.opening.OpeningPhase.TheVariants as opening_steps
use Rattle.file_ops.specs.declared.put_file.Putting.TheVariants as putting
use Rattle.file_ops.specs.declared.write_file.Writing.TheVariants as writing
use Rattle.file_ops.specs.Opening as opening
use Rattle.op_machines.specs.declared.machine.Machine.TheVariants as machines
use Rattle.op_machines.specs.declared.opener.Opener.TheVariants as openers
use Rattle.core_answers.specs.asks.PutCalls.{IsForRoom, writes, commits, IsMadeForPut, PutsAsk, IsAlone, IsMadeAlone, LonePutsAsk}
use Rattle.core_answers.proofs.asks.Alone.{PutAlone, reached-calm}
use Rattle.core_answers.proofs.asks.CalmPuts.{CalmAt}
use Rattle.core_answers.proofs.asks.CallsAwaited.{Expects, PathNames, expects-laws}
use Rattle.core_answers.proofs.asks.FilesAwaited.{WriteNames, StateNames}
use Rattle.core_answers.proofs.asks.PutOpenings.{PutOpening, PutStep}
use Rattle.core_answers.proofs.asks.PutSteps.{begun-put, PutAt, PutRuns, put-resumes, put-takes, walk-begins, runs-later}
use Rattle.core_answers.proofs.asks.SavedCalls.{Saves}
use Rattle.core_answers.proofs.asks.Sendings.{NoCall, SentFor, under-until, reached-sent}
use Rattle.core_answers.proofs.asks.WalkAsks.{walk-looks, leads-on, front-asks}

module _ (m : Mounted) where
  -- ---- the story

  abbrev StateStory : List Entry → List (List ℕ) → State → Type 0
  StateStory h path (Busy machine) = PutRuns m.root h path machine
  StateStory h path (Over answer) = Unit {0}

  abbrev pub PutStory : List Entry → ℕ → Op → State → Type 0
  PutStory h x op state = (path : List (List ℕ)) (offset : ℕ) (text : List ℕ) → op ≡ ops.Put path offset text → IsNamed path → StateStory h path state

  abbrev pub Shelved : List Entry → Shelf → Type 0
  Shelved h shelf = NamesTold h shelf.names

  -- what a step leaves
  did : (h : List Entry) (x : ℕ) (op : Op) (next : Step) (new : Machine) (after : Shelf) → Shelved h after → PutStory h x op (Busy new) → Did NoCall Shelved PutStory h x op next new after
  did h x op (nexts.Send call) new after kept story = record { shelf = kept; asks = tt; then_ = story }
  did h x op nexts.Wait new after kept story = record { shelf = kept; asks = tt; then_ = story }
  did h x op (nexts.Done answer) new after kept story = record { shelf = kept; asks = tt; then_ = λ path offset text is named. tt }

  runs-as : (h : List Entry) (path : List (List ℕ)) (to : PathMachine) (new : Machine) → new ≡ machines.Path to → PutRuns m.root h path (machines.Path to) → PutRuns m.root h path new
  runs-as h path to new is k = subst (PutRuns m.root h path) (sym is) k

  heard-all : (h : List Entry) (x : ℕ) (op : Op) (machine : Machine) (came : Result Reply Fault) (told : IsTold Expects NoCall h x op machine came) → IsHeard m.root h came told.call
  heard-all h x op machine came told reply is = Asked-wide h x (length h) 0 (length h) told.call reply (omega arith) (omega arith) (told.heard reply is).asked

  state-later : (h : List Entry) (e : Entry) (path : List (List ℕ)) (state : State) → StateStory h path state → StateStory (h ++ e ∷ []) path state
  state-later h e path (Busy machine) k = runs-later m.root h e path machine k
  state-later h e path (Over answer) k = tt

  pub put-laws : (setup : Setup) → TaleLaws (machine_of m) setup Expects NoCall Shelved PutStory
  put-laws setup = record {
    fresh = λ h v up fresh. subst (λ (es : _). NamesTold h es) (sym fresh.names) (All-nil (IsNameTold h));
    starts = λ h lane line op wsize turn old next new after kept s.
        let later = h ++ Began lane line op ∷ [] in
        did later (length h) op next new after (all-starts (IsNameTold later) (machine_of m lane op) wsize turn old next new after s kept)
        (λ path offset text is named.
        let k = subst (λ (o : Op). Starts wsize (machine_of m lane o) turn old next new after) is s in
        runs-as later path k.machine new k.machine_is
        (put-resumes m.root later path false wsize (walk_of m.root (front_of path)) (begun-put m lane path offset text turn) turn old next k.machine after
        (λ yes_is. record { walk = walk-begins m.root later path (front_of path); name_is = refl; mode_is = refl }) (λ no_way. absurd (cc)) kept k.step));
    resumes = λ h x op machine wsize turn old next new after kept story r.
        did h x op next new after (all-resumes (IsNameTold h) machine wsize turn old next new after r kept)
        (λ path offset text is named.
        let k = story path offset text is named in
        let g = subst (λ (n : Machine). Resumes wsize n turn old next new after) k.is r in
        runs-as h path g.machine new g.machine_is (put-resumes m.root h path k.arrived wsize k.walk k.p turn old next g.machine after k.on_way k.there kept g.step));
    takes = λ h x op machine wsize sent turn came old next new after others kept story one told t.
        did h x op next new after
        (all-takes (IsNameTold h) machine wsize sent turn came old next new after told.call told.expects.0 (heard-tells m.root h came told.call (heard-all h x op machine came told)) t kept)
        (λ path offset text is named.
        let k = story path offset text is named in
        let g = subst (λ (n : Machine). Takes wsize n sent turn came old next new after) k.is t in
        let e = subst (λ (n : Machine). Expects n told.call) k.is told.expects in
        runs-as h path g.machine new g.machine_is
        (put-takes m.root h path k.arrived wsize k.walk k.p sent turn came old next g.machine after told.call named k.on_way k.there kept e.0 (heard-all h x op machine came told) g.step));
    still = λ h e shelf kept. names-later h e shelf.names kept;
    waits = λ h e x op call w. tt;
    grows = λ h e x op state quiet story path offset text is named. state-later h e path state (story path offset text is named);
    lost = λ h x op shown path offset text is named. tt;
  }

-- ---- what a put asks for

pub for-room : (f : List ℕ) (call : Call) → Saves f call → IsForRoom call
for-room f call (inl k) = writes f k.0.bytes k.0.offset k.0.how k.1
for-room f call (inr is) = commits f is

module _ (m : Mounted) (terms : Terms) (before after : List Entry) (x y : ℕ) (path : List (List ℕ)) (offset : ℕ) (text : List ℕ) (call : Call) (named : IsNamed path) (there : length before ≡ y)
    (rooted : Rooted terms.origin (before ++ after) y m.root) where
  abbrev Made : Type 0
  Made = Asks terms (before ++ after) x y (ops.Put path offset text) call

  on : (p : List (List ℕ)) (object : List ℕ) → LeadsTo m.root before p object → Leads terms.origin (before ++ after) y p object
  on p object l = leads-on m.root terms before after x y (ops.Put path offset text) there rooted p object l

  -- WRITE or COMMIT of its file
  saves-asks : (f : List ℕ) → LeadsTo m.root before path f → Saves f call → Made
  saves-asks f l (inl k) = asks.writes f k.0.bytes k.0.offset k.0.how (asks.put path offset text refl (on path f l)) k.1
  saves-asks f l (inr is) = asks.commits f (asks.put path offset text refl (on path f l)) is

  opening-asks : (o : Opening) → PutOpening m.root before path o → call ≡ opening.call_of o o.step → Made
  opening-asks o s is = by o.step refl s.step
    where
      placed : PlaceOf terms.origin (before ++ after) y path o.dir (last_of path)
      placed = record { earlier = front_of path; is = front-last path named; leads = on (front_of path) o.dir s.leads }

      at : (k : OpeningPhase) → o.step ≡ k → call ≡ opening.call_of o k
      at k same = is ∙ ap (opening.call_of o) same

      looks : call ≡ look_up o.dir o.name → Made
      looks same = asks.finds path o.dir (last_of path) (0, omega arith, refl) placed (same ∙ ap (look_up o.dir) s.name_is)

      by : (k : OpeningPhase) → o.step ≡ k → PutStep m.root before path k → Made
      by opening_steps.Look same p = looks (at opening_steps.Look same)
      by opening_steps.Find same p = looks (at opening_steps.Find same)
      by opening_steps.Make same p = absurd p
      by (opening_steps.Ask file) same p = asks.opens path file (asks.put offset text refl) (on path file p) (at (opening_steps.Ask file) same)

  -- it makes room
  pub record InRoom (machine : Machine) : Type 0 where
    pub walk : Walk
    pub p : PutFile
    pub file : List ℕ
    pub is : machine ≡ machines.Path (record { walk = walk; opener = openers.Put p; arrived = true })
    pub state_is : p.state ≡ putting.Adds file
    pub room : IsForRoom call

  room-asks : (w : Writing) → WriteNames w call → 1 ≤ of_writing w → IsForRoom call
  room-asks writing.Idle e some = absurd (omega (arith, some))
  room-asks (writing.Room file saving) e some = for-room saving.file call e

  state-asks : (state : Putting) (o : Opening) (w : Writing) → PutAt m.root before path state o → PutAwaits state o call → StateNames state w call → 1 ≤ of_putting state o w
      → Made ⊎ ((file : List ℕ) × (state ≡ putting.Adds file) × IsForRoom call)
  state-asks putting.Idle o w k a e some = absurd (omega (arith, some))
  state-asks putting.Opens o w k a e some = inl (opening-asks o k a)
  state-asks (putting.Adds file) o w k a e some = inr (file, refl, room-asks w e some)
  state-asks (putting.Saves s) o w k a e some = inl (saves-asks s.file k e)

  pub put-asks : (machine : Machine) → PutRuns m.root before path machine → Expects machine call → 1 ≤ in_flight machine → Made ⊎ InRoom machine
  put-asks machine k e some = by k.arrived refl
    where
      at : PathMachine
      at = record { walk = k.walk; opener = openers.Put k.p; arrived = k.arrived }

      awaits : PathOr k.arrived at call
      awaits = (subst (λ (n : Machine). Expects n call) k.is e).0

      names : PathNames k.arrived at call
      names = (subst (λ (n : Machine). Expects n call) k.is e).1

      many : 1 ≤ path_by k.arrived (of_walk k.walk) (of_putting k.p.state k.p.opening k.p.write.state)
      many = subst (λ (n : Machine). 1 ≤ in_flight n) k.is some

      here : k.arrived ≡ true → Made ⊎ ((file : List ℕ) × (k.p.state ≡ putting.Adds file) × IsForRoom call)
      here is = state-asks k.p.state k.p.opening k.p.write.state (k.there is) (subst (λ (b : Bool). PathOr b at call) is awaits) (subst (λ (b : Bool). PathNames b at call) is names)
          (subst (λ (b : Bool). 1 ≤ path_by b (of_walk k.walk) (of_putting k.p.state k.p.opening k.p.write.state)) is many)

      by : (b : Bool) → k.arrived ≡ b → Made ⊎ InRoom machine
      by true is = elim (here is) [
        | inl made ↦ inl made
        | inr room ↦ inr (record {
          walk = k.walk;
          p = k.p;
          file = room.0;
          is = k.is ∙ ap (λ (b : Bool). machines.Path (record { walk = k.walk; opener = openers.Put k.p; arrived = b })) is;
          state_is = room.1;
          room = room.2;
        })
      ]
      by false is = inl (front-asks m.root terms before after x y (ops.Put path offset text) there rooted path call named (0, omega arith, refl)
          (walk-looks m.root before (front_of path) k.walk call (k.on_way is).walk (subst (λ (b : Bool). PathOr b at call) is awaits)
          (subst (λ (b : Bool). 1 ≤ path_by b (of_walk k.walk) (of_putting k.p.state k.p.opening k.p.write.state)) is many)))

-- ---- records that were sent

module _ (m : Mounted) (setup : Setup) (terms : Terms) (h : List Entry) (known : KnowsRoot terms.origin h m.root) (i : ℕ) (bytes : List ℕ) where
  abbrev pub Sending : Type 0
  Sending = SentFor (machine_of m) (begins-unbegun m) setup Expects expects-laws h i bytes

  pub now : (w : Sending) → UnderWay h w.lane w.x i w.op
  now w = subst (λ (k : List Entry). UnderWay k w.lane w.x i w.op) (sym w.is) (under-until w.before w.after w.lane w.x i w.op w.there w.under_way)

  pub rooted-now : (w : Sending) → Rooted terms.origin (w.before ++ w.after) i m.root
  rooted-now w =
      let under = now w in
      let since = under.before in
      subst (λ (k : List Entry). Rooted terms.origin k i m.root) w.is
      (Rooted-wide terms.origin h w.x i m.root (omega (arith, since)) (known w.x w.lane under.line w.op under.began))

  asked-put : (w : Sending) (path : List (List ℕ)) (offset : ℕ) (text : List ℕ) (named : IsNamed path) → w.op ≡ ops.Put path offset text
      → Asks terms (w.before ++ w.after) w.x i (ops.Put path offset text) w.call
      ⊎ InRoom m terms w.before w.after w.x i path offset text w.call named w.there (rooted-now w) w.machine
  asked-put w path offset text named is =
      put-asks m terms w.before w.after w.x i path offset text w.call named w.there (rooted-now w) w.machine
      (((reached-good (machine_of m) (begins-unbegun m) setup Expects expects-laws NoCall (Shelved m) (PutStory m) (put-laws m setup) w.before w.old w.reached).each w.at
      (record { number = w.lane; state = Busy w.machine }) w.busy).1 w.x w.op w.under_way path offset text is named) w.expects w.some

  made-for : Sending → IsMadeForPut terms setup.cred h i bytes
  made-for w = record {
    xid = w.xid;
    call = w.call;
    made = w.made;
    lane = w.lane;
    x = w.x;
    op = w.op;
    under_way = now w;
    asks = λ path offset text is named. elim (asked-put w path offset text named is) [
      | inl asked ↦ inl (subst (λ (k : List Entry). Asks terms k w.x i (ops.Put path offset text) w.call) (sym w.is) asked)
      | inr room ↦ inr room.room
    ];
  }

  -- where it is alone, it makes no room
  path-put : (a b : PathMachine) → machines.Path a ≡ machines.Path b → a ≡ b
  path-put a b e = cc

  opener-put : (a b : PutFile) → openers.Put a ≡ openers.Put b → a ≡ b
  opener-put a b e = cc

  calm-room : (walk other : Walk) (p q : PutFile) (arrived : Bool) (file : List ℕ) (back : Pending)
      → machines.Path (record { walk = walk; opener = openers.Put p; arrived = arrived }) ≡ machines.Path (record { walk = other; opener = openers.Put q; arrived = true })
      → q.state ≡ putting.Adds file → CalmAt arrived p.state back → ⊥
  calm-room walk other p q arrived file back same at calm =
      let paths = path-put (record { walk = walk; opener = openers.Put p; arrived = arrived }) (record { walk = other; opener = openers.Put q; arrived = true }) same in
      let puts : p ≡ q = opener-put p q (ap (λ (m : PathMachine). m.opener) paths) in
      subst (λ (s : Putting). CalmAt true s back) (ap (λ (k : PutFile). k.state) puts ∙ at) (subst (λ (b : Bool). CalmAt b p.state back) (ap (λ (m : PathMachine). m.arrived) paths) calm)

  put-alone : (w : Sending) (path : List (List ℕ)) (offset : ℕ) (text : List ℕ) → w.op ≡ ops.Put path offset text → IsAlone h w.x i → PutAlone w.before
  put-alone w path offset text is alone = record {
    x = w.x;
    lane = w.lane;
    line = w.under_way.line;
    path = path;
    offset = offset;
    text = text;
    began = subst (λ (o : Op). At w.before w.x (Began w.lane w.under_way.line o)) is w.under_way.began;
    alone = λ j lane line op at low.
        let there = w.there in
        alone j lane line op (subst (λ (k : List Entry). At k j (Began lane line op)) (sym w.is) (At-grow w.before w.after j (Began lane line op) at)) (omega (arith, low, there));
  }

  made-alone : Sending → IsMadeAlone terms setup.cred h i bytes
  made-alone w = record {
    xid = w.xid;
    call = w.call;
    made = w.made;
    lane = w.lane;
    x = w.x;
    op = w.op;
    under_way = now w;
    asks = λ path offset text is named alone. elim (asked-put w path offset text named is) [
      | inl asked ↦ subst (λ (k : List Entry). Asks terms k w.x i (ops.Put path offset text) w.call) (sym w.is) asked
      | inr room ↦
          let calm = reached-calm m setup w.before w.old w.reached w.found (put-alone w path offset text is alone) w.at w.lane w.machine w.busy in
          absurd (calm-room calm.walk room.walk calm.p room.p calm.arrived room.file w.old.shelf.back (sym calm.is ∙ room.is) room.state_is calm.calm)
    ];
  }

pub puts-ask : PutsAsk
puts-ask m setup h v r terms known i bytes at = elim (reached-sent (machine_of m) (begins-unbegun m) setup Expects expects-laws h v r i bytes at) [
  | inl none ↦ inl none
  | inr w ↦ inr (made-for m setup terms h known i bytes w)
]

pub lone-puts-ask : LonePutsAsk
lone-puts-ask m setup h v r terms known i bytes at = elim (reached-sent (machine_of m) (begins-unbegun m) setup Expects expects-laws h v r i bytes at) [
  | inl none ↦ inl none
  | inr w ↦ inr (made-alone m setup terms h known i bytes w)
]
