-- Along a history: at the step with a reply in which a put adds its bytes, its path leads to the file that they are added to.
use Rattle.core_session.proofs.Prelude.{◌≡◌, ◌+◌, ℕ, Bool, true, false, List, [], ◌∷◌, ◌++◌, length, Some, slice_get, Result, refl, sym, subst, arith, All-nil, xid_at, Waiting, waiting_at, Fault, Entry, Began, Delivered, Call, Reply, Op, UnderWay, Asked-wide, said_of, Says, Step, Shelf, Turn, PutFile, Walk, walk_of, Mounted, Machine, PathMachine, IsNamed, front_of, machine_of, Starts, Resumes, Takes, Purpose, State, Busy, Over, Setup, View, HearsRecord, Reaches, IsOutstanding, Tried, unsent, PathOr, begins-unbegun, all-starts, all-resumes, all-takes, was-sent, says-of, IsNameTold, NamesTold, names-later, LeadsTo, IsHeard, heard-tells, reached-rows, Did, IsTold, TaleLaws, IsExpected, reached-good, Expects, expects-laws, NoCall}
use Rattle.core_facts.specs.Tries.{runs, ended}
use Rattle.core_facts.proofs.Hearing.{heard-of}
use Rattle.core_facts.proofs.Owning.{reached-since}
use Rattle.world_model.specs.declared.op.Op.TheVariants as ops
use Rattle.world_model.specs.Heard.{Heard}
use Rattle.client_shelf.specs.declared.step.Step.TheVariants as nexts
use Rattle.op_machines.specs.declared.machine.Machine.TheVariants as machines
use Rattle.op_machines.specs.declared.opener.Opener.TheVariants as openers
use Rattle.op_machines.specs.PathSteps as paths
use Rattle.core_answers.proofs.asks.PutSteps.{begun-put}
use Rattle.core_session.proofs.order.Adds.{PathHas, TakesHas}
use Rattle.core_session.proofs.order.PutFinds.{PutStands, PutRuns, put-resumes, put-takes, put-has, awaited, walk-begins, runs-later}

module _ (m : Mounted) where
  -- ---- the story

  abbrev StateStory : List Entry → List (List ℕ) → State → Type 0
  StateStory h path (Busy machine) = PutRuns m.root h path machine
  StateStory h path (Over answer) = Unit {0}

  abbrev pub PutStory : List Entry → ℕ → Op → State → Type 0
  PutStory h x op state = (path : List (List ℕ)) (offset : ℕ) (text : List ℕ) → op ≡ ops.Put path offset text → IsNamed path → StateStory h path state

  abbrev pub Shelved : List Entry → Shelf → Type 0
  Shelved h shelf = NamesTold h shelf.names

  -- what a step leaves
  did : (h : List Entry) (x : ℕ) (op : Op) (next : Step) (new : Machine) (after : Shelf) → Shelved h after → PutStory h x op (Busy new) → Did NoCall Shelved PutStory h x op next new after
  did h x op (nexts.Send call) new after kept story = record { shelf = kept; asks = tt; then_ = story }
  did h x op nexts.Wait new after kept story = record { shelf = kept; asks = tt; then_ = story }
  did h x op (nexts.Done answer) new after kept story = record { shelf = kept; asks = tt; then_ = λ path offset text is named. tt }

  runs-as : (h : List Entry) (path : List (List ℕ)) (to : PathMachine) (new : Machine) → new ≡ machines.Path to → PutRuns m.root h path (machines.Path to) → PutRuns m.root h path new
  runs-as h path to new is k = subst (PutRuns m.root h path) (sym is) k

  heard-all : (h : List Entry) (x : ℕ) (op : Op) (machine : Machine) (came : Result Reply Fault) (told : IsTold Expects NoCall h x op machine came) → IsHeard m.root h came told.call
  heard-all h x op machine came told reply is = Asked-wide h x (length h) 0 (length h) told.call reply (omega arith) (omega arith) (told.heard reply is).asked

  state-later : (h : List Entry) (e : Entry) (path : List (List ℕ)) (state : State) → StateStory h path state → StateStory (h ++ e ∷ []) path state
  state-later h e path (Busy machine) k = runs-later m.root h e path machine k
  state-later h e path (Over answer) k = tt

  pub put-laws : (setup : Setup) → TaleLaws (machine_of m) setup Expects NoCall Shelved PutStory
  put-laws setup = record {
    fresh = λ h v up fresh. subst (λ (es : _). NamesTold h es) (sym fresh.names) (All-nil (IsNameTold h));
    starts = λ h lane line op wsize turn old next new after kept s.
        let later = h ++ Began lane line op ∷ [] in
        did later (length h) op next new after (all-starts (IsNameTold later) (machine_of m lane op) wsize turn old next new after s kept)
        (λ path offset text is named.
        let k = subst (λ (o : Op). Starts wsize (machine_of m lane o) turn old next new after) is s in
        runs-as later path k.machine new k.machine_is
        (put-resumes m.root later path false wsize (walk_of m.root (front_of path)) (begun-put m lane path offset text turn) turn old next k.machine after
        (λ yes_is. record { walk = walk-begins m.root later path (front_of path); name_is = refl; mode_is = refl }) (λ no_way. absurd (cc)) kept k.step));
    resumes = λ h x op machine wsize turn old next new after kept story r.
        did h x op next new after (all-resumes (IsNameTold h) machine wsize turn old next new after r kept)
        (λ path offset text is named.
        let k = story path offset text is named in
        let g = subst (λ (n : Machine). Resumes wsize n turn old next new after) k.is r in
        runs-as h path g.machine new g.machine_is (put-resumes m.root h path k.arrived wsize k.walk k.p turn old next g.machine after k.on_way k.there kept g.step));
    takes = λ h x op machine wsize sent turn came old next new after others kept story one told t.
        did h x op next new after
        (all-takes (IsNameTold h) machine wsize sent turn came old next new after told.call told.expects.0 (heard-tells m.root h came told.call (heard-all h x op machine came told)) t kept)
        (λ path offset text is named.
        let k = story path offset text is named in
        let g = subst (λ (n : Machine). Takes wsize n sent turn came old next new after) k.is t in
        let e = subst (λ (n : Machine). Expects n told.call) k.is told.expects in
        runs-as h path g.machine new g.machine_is
        (put-takes m.root h path k.arrived wsize k.walk k.p sent turn came old next g.machine after told.call named k.on_way k.there kept e.0 (heard-all h x op machine came told) g.step));
    still = λ h e shelf kept. names-later h e shelf.names kept;
    waits = λ h e x op call w. tt;
    grows = λ h e x op state quiet story path offset text is named. state-later h e path state (story path offset text is named);
    lost = λ h x op shown path offset text is named. tt;
  }

  -- ---- at a step with a reply

  -- the path leads to the file
  abbrev pub LeadsIn : List Entry → List (List ℕ) → List ℕ → ℕ → List ℕ → Type 0
  LeadsIn h path f offset bytes = LeadsTo m.root h path f

  path-has : (h : List Entry) (path : List (List ℕ)) (b : Bool) (wsize : ℕ) (walk : Walk) (p : PutFile) (sent turn : Turn) (came : Result Reply Fault) (old : Shelf) (next : Step) (new : PathMachine)
      (after : Shelf) (call : Call) → IsNamed path → (b ≡ true → PutStands m.root h path p) → PathOr b (record { walk = walk; opener = openers.Put p; arrived = b }) call → IsHeard m.root h came call
      → (t : paths.PathTakes b wsize (record { walk = walk; opener = openers.Put p; arrived = b }) sent turn came old next new after)
      → PathHas (LeadsIn h path) b wsize (record { walk = walk; opener = openers.Put p; arrived = b }) sent turn came old next new after t
  path-has h path true wsize walk p sent turn came old next new after call named there e heard t =
      put-has m.root h path p.state wsize p sent turn came old next t.step.machine after named refl (there refl) (λ opens. subst (IsHeard m.root h came) (awaited m.root h path p call opens e) heard) t.step.step
  path-has h path false wsize walk p sent turn came old next new after call named there e heard t = tt

  abbrev Reached : List Entry → List (List ℕ) → ℕ → Turn → Turn → Result Reply Fault → Shelf → Step → Machine → Shelf → Call → Machine → Type 0
  Reached h path wsize sent turn came old next new after call n =
      Expects n call → (t : Takes wsize n sent turn came old next new after) → TakesHas (LeadsIn h path) wsize n sent turn came old next new after t

  pub runs-has : (h : List Entry) (path : List (List ℕ)) (wsize : ℕ) (machine : Machine) (sent turn : Turn) (came : Result Reply Fault) (old : Shelf) (next : Step) (new : Machine) (after : Shelf)
      (call : Call) → IsNamed path → PutRuns m.root h path machine → Expects machine call → IsHeard m.root h came call → (t : Takes wsize machine sent turn came old next new after)
      → TakesHas (LeadsIn h path) wsize machine sent turn came old next new after t
  runs-has h path wsize machine sent turn came old next new after call named k e heard = subst (Reached h path wsize sent turn came old next new after call) (sym k.is) here e
    where
      here : Reached h path wsize sent turn came old next new after call (machines.Path (record { walk = k.walk; opener = openers.Put k.p; arrived = k.arrived }))
      here e t = path-has h path k.arrived wsize k.walk k.p sent turn came old next t.machine after call named k.there e.0 heard t.step

  module _ (setup : Setup) where
    -- what came of the call to the operation of its lane
    pub heard-by : (h : List Entry) (old : View) (rec : List ℕ) (fin : View) (xid : ℕ) (call : Waiting Purpose) → Reaches (machine_of m) setup h old → old.lost ≡ false → HearsRecord old rec fin
        → xid_at rec ≡ Some xid → waiting_at xid old.calls.calls ≡ Some call → (machine : Machine)
        → (e : IsExpected (machine_of m) (begins-unbegun m) setup Expects expects-laws NoCall Shelved PutStory (put-laws setup) h call.purpose.lane xid call machine)
        → (x : ℕ) (op : Op) → UnderWay h call.purpose.lane x (length h) op → IsHeard m.root (h ++ Delivered rec ∷ []) (said_of call.purpose.proc rec) e.made.asked
    heard-by h old rec fin xid call r found t named waits machine e x op u reply is = record {
      xid = xid;
      bytes = rec;
      heard = record {
        sent_at = heard.sent_at;
        record_sent = heard.record_sent;
        got_at = heard.got_at;
        sent = heard.sent;
        spells = heard.spells;
        got = heard.got;
        after = omega arith;
        later = heard.later;
        before = let at = heard.before in let long = length-more h (Delivered rec) in omega (arith, at, long);
      };
      spells = (subst (Says xid e.made.asked rec) is said).is;
    }
      where
        length-more : (h : List Entry) (e : Entry) → length (h ++ e ∷ []) ≡ length h + 1
        length-more [] e = refl
        length-more (x ∷ h) e = let rest = length-more h e in omega (arith, rest)

        said : Says xid e.made.asked rec (said_of call.purpose.proc rec)
        said = says-of old rec t.result fin xid call t.hears named waits xid named e.made.asked (record { nfs = e.made.nfs; is = sym e.made.proc })

        of : (from : ℕ) → IsOutstanding h xid call.bytes from → Heard (h ++ Delivered rec ∷ []) x (length h + 1) e.made.asked xid rec
        of from o = heard-of h rec xid from x e.made.asked call.bytes o e.made.spells.spells named
            (reached-since (machine_of m) (begins-unbegun m) setup h old r found xid call waits x u.line op u.began from call.bytes o.sent.sent o.sent.under)

        by : Tried h xid call → Heard (h ++ Delivered rec ∷ []) x (length h + 1) e.made.asked xid rec
        by (unsent nothing n) = absurd (let some = was-sent xid old.calls.calls call t.may.sent waits in omega (arith, some, nothing))
        by (runs from running o rest) = of from o
        by (ended from idle o rest) = of from o

        heard : Heard (h ++ Delivered rec ∷ []) x (length h + 1) e.made.asked xid rec
        heard = by ((reached-rows (machine_of m) setup h old r).rows xid call waits).tried

    -- Where the machine of a put takes what came of its call, its path leads to the file to which it adds its bytes, if it does.
    pub put-finds : (h : List Entry) (old : View) (rec : List ℕ) (fin : View) (xid : ℕ) (call : Waiting Purpose) (at : ℕ) (machine : Machine) → Reaches (machine_of m) setup h old → old.lost ≡ false
        → HearsRecord old rec fin → xid_at rec ≡ Some xid → waiting_at xid old.calls.calls ≡ Some call
        → slice_get old.lanes at ≡ Some (record { number = call.purpose.lane; state = Busy machine })
        → (x : ℕ) (path : List (List ℕ)) (offset : ℕ) (text : List ℕ) → UnderWay h call.purpose.lane x (length h) (ops.Put path offset text) → IsNamed path
        → (wsize : ℕ) (sent turn : Turn) (next : Step) (new : Machine) (after : Shelf) (t : Takes wsize machine sent turn (said_of call.purpose.proc rec) old.shelf next new after)
        → TakesHas (LeadsIn (h ++ Delivered rec ∷ []) path) wsize machine sent turn (said_of call.purpose.proc rec) old.shelf next new after t
    put-finds h old rec fin xid call at machine r found t named waits there x path offset text u is wsize sent turn next new after step =
        let good = (reached-good (machine_of m) (begins-unbegun m) setup Expects expects-laws NoCall Shelved PutStory (put-laws setup) h old r).each at
        (record { number = call.purpose.lane; state = Busy machine }) there in
        let e = good.0 xid call waits refl in
        let k = good.1 x (ops.Put path offset text) u path offset text refl is in
        runs-has (h ++ Delivered rec ∷ []) path wsize machine sent turn (said_of call.purpose.proc rec) old.shelf next new after e.made.asked is
        (runs-later m.root h (Delivered rec) path machine k) e.expects (heard-by h old rec fin xid call r found t named waits machine e x (ops.Put path offset text) u) step
