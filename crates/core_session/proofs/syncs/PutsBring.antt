-- Which bytes a put brings in, and that its path leads to their file as they come in.
use Rattle.core_session.proofs.Prelude.{◌≡◌, ℕ, Bool, true, false, List, [], ◌∷◌, ◌++◌, length, Some, None, slice_get, Result, inl, inr, refl, sym, ap, subst, ◌∙◌, arith, cases_lt, xid_at, Waiting, waiting_at, Fault, Entry, Began, Answered, Delivered, Reply, Op, At, Modes, Origin, AnsweredBefore, UnderWay, WritesByte, At-one, At-last, At-grow, length_last, said_of, Step, Shelf, Turn, PutFile, Putting, Writing, Opens, Mounted, FileMachine, Machine, Opener, PathMachine, IsNamed, machine_of, file_of, Takes, Purpose, State, Busy, Over, Setup, View, KnowsRoot, HearsRecord, Reaches, begins-unbegun, LeadsTo, Did, TaleLaws, reached-good, Expects, expects-laws, NoCall, NoShelf, AreApart, seat_of, seat_put, reached-kept, lanes-under-way, reached-lanes, look-at, Placed, seat_state, seat_in, keeps-placed, is_first}
use Rattle.claims.specs.Touched.{Covers}
use Rattle.core_answers.proofs.asks.Sendings.{under-until}
use Rattle.core_facts.proofs.AllSeats.{path_seat}
use Rattle.core_facts.proofs.FileSeats.{seat_file}
use Rattle.core_facts.proofs.Placing.{LaneLive}
use Rattle.world_model.specs.declared.op.Op.TheVariants as ops
use Rattle.client_shelf.specs.declared.step.Step.TheVariants as nexts
use Rattle.file_ops.specs.declared.put_file.Putting.TheVariants as putting
use Rattle.file_ops.specs.PutFile as puts
use Rattle.file_ops.specs.WriteFile as writes
use Rattle.op_machines.specs.declared.file_machine.FileMachine.TheVariants as files
use Rattle.op_machines.specs.declared.machine.Machine.TheVariants as machines
use Rattle.op_machines.specs.declared.opener.Opener.TheVariants as openers
use Rattle.op_machines.specs.FileSteps as steps
use Rattle.op_machines.specs.PathSteps as paths
use Rattle.core_answers.proofs.writes.AllBacks.{PathBrings, Brings, StartsWith}
use Rattle.core_answers.proofs.writes.Backs.{PutIs, FileBrings}
use Rattle.core_answers.proofs.writes.Brings.{starts-brings, resumes-brings, takes-brings}
use Rattle.core_session.proofs.order.Adds.{PutHas, FileHas, PathHas, TakesHas}
use Rattle.core_session.proofs.order.PutTales.{put-finds}
use Rattle.core_session.proofs.order.PutWrites.{put-writes}
use Rattle.core_session.proofs.syncs.AllJobs.{PathOpens, JobOpens, job_lane}
use Rattle.core_session.proofs.syncs.Fates.{file_kind, job_kind, live-lane, start-kind, resume-kind, take-kind}
use Rattle.core_session.proofs.syncs.Jobs.{PutOpens, FileOpens, file_lane}
use Rattle.core_session.proofs.syncs.Levels.{not-seated}

-- ---- the bytes of an operation

abbrev pub TextOf : Op → List ℕ → ℕ → List ℕ → Type 0
TextOf (ops.Put path offset text) f o b = (o ≡ offset) × (b ≡ text)
TextOf (ops.Write slot offset bytes) f o b = Unit {0}
TextOf (ops.Fill slot offset count byte) f o b = Unit {0}
TextOf op f o b = ⊥

module _ (m : Mounted) where
  abbrev pub kind_of : Op → ℕ
  kind_of op = job_kind (machine_of m 1 op)

  kind-of-lane : (lane : ℕ) (op : Op) → job_kind (machine_of m lane op) ≡ kind_of op
  kind-of-lane lane (ops.OpenFile slot mode path) = refl
  kind-of-lane lane (ops.Read slot offset count) = refl
  kind-of-lane lane (ops.Write slot offset bytes) = refl
  kind-of-lane lane (ops.Fill slot offset count byte) = refl
  kind-of-lane lane (ops.Put path offset text) = refl
  kind-of-lane lane (ops.Sync slot) = refl
  kind-of-lane lane (ops.Close slot) = refl
  kind-of-lane lane (ops.Truncate slot size) = refl
  kind-of-lane lane (ops.Stat path) = refl
  kind-of-lane lane (ops.Access path bits) = refl
  kind-of-lane lane (ops.MakeDir path) = refl
  kind-of-lane lane (ops.RemoveDir path) = refl
  kind-of-lane lane (ops.Remove path) = refl
  kind-of-lane lane (ops.Rename from to) = refl
  kind-of-lane lane (ops.Link from to) = refl
  kind-of-lane lane (ops.SymLink path target) = refl
  kind-of-lane lane (ops.ReadLink path) = refl
  kind-of-lane lane (ops.List path) = refl

  begun-text : (lane : ℕ) (op : Op) (slots : Opens) → StartsWith (TextOf op) (machine_of m lane op) slots
  begun-text lane (ops.OpenFile slot mode path) slots = tt
  begun-text lane (ops.Read slot offset count) slots = tt
  begun-text lane (ops.Write slot offset bytes) slots = λ file found. tt
  begun-text lane (ops.Fill slot offset count byte) slots = λ file found. tt
  begun-text lane (ops.Put path offset text) slots = λ file. (refl, refl)
  begun-text lane (ops.Sync slot) slots = tt
  begun-text lane (ops.Close slot) slots = tt
  begun-text lane (ops.Truncate slot size) slots = tt
  begun-text lane (ops.Stat path) slots = tt
  begun-text lane (ops.Access path bits) slots = tt
  begun-text lane (ops.MakeDir path) slots = tt
  begun-text lane (ops.RemoveDir path) slots = tt
  begun-text lane (ops.Remove path) slots = tt
  begun-text lane (ops.Rename from to) slots = tt
  begun-text lane (ops.Link from to) slots = tt
  begun-text lane (ops.SymLink path target) slots = tt
  begun-text lane (ops.ReadLink path) slots = tt
  begun-text lane (ops.List path) slots = tt

  -- its machine is of its kind, and brings in its bytes
  abbrev StateText : Op → State → Type 0
  StateText op (Busy machine) = (job_kind machine ≡ kind_of op) × Brings (TextOf op) machine
  StateText op (Over answer) = Unit {0}

  abbrev TextStory : List Entry → ℕ → Op → State → Type 0
  TextStory h x op state = StateText op state

  did : (h : List Entry) (x : ℕ) (op : Op) (next : Step) (new : Machine) (after : Shelf) → StateText op (Busy new) → Did NoCall NoShelf TextStory h x op next new after
  did h x op (nexts.Send call) new after s = record { shelf = tt; asks = tt; then_ = s }
  did h x op nexts.Wait new after s = record { shelf = tt; asks = tt; then_ = s }
  did h x op (nexts.Done answer) new after s = record { shelf = tt; asks = tt; then_ = tt }

  text-laws : (setup : Setup) → TaleLaws (machine_of m) setup Expects NoCall NoShelf TextStory
  text-laws setup = record {
    fresh = λ h v up fresh. tt;
    starts = λ h lane line op wsize turn old next new after kept s.
        did (h ++ Began lane line op ∷ []) (length h) op next new after (
          start-kind wsize turn (machine_of m lane op) old next new after s ∙ kind-of-lane lane op,
          starts-brings (TextOf op) wsize (machine_of m lane op) turn old next new after (begun-text lane op old.opens) s,
        );
    resumes = λ h x op machine wsize turn old next new after kept story r.
        did h x op next new after
        (resume-kind wsize turn machine old next new after r ∙ story.0, resumes-brings (TextOf op) wsize machine turn old next new after story.1 r);
    takes = λ h x op machine wsize sent turn came old next new after others kept story one told t.
        did h x op next new after
        (take-kind wsize turn sent came machine old next new after t ∙ story.0, takes-brings (TextOf op) wsize machine sent turn came old next new after story.1 t);
    still = λ h e shelf kept. tt;
    waits = λ h e x op call w. tt;
    grows = λ h e x op state quiet story. story;
    lost = λ h x op shown. tt;
  }

-- ---- where its opening ends

module _ (A : List ℕ → ℕ → List ℕ → Type 0) (wsize : ℕ) (sent turn : Turn) (came : Result Reply Fault) (old : Shelf) (next : Step) where
  -- one that brings nothing opens nothing
  none-put : (at : Putting) (w : Writing) (m : PutFile) (new : PutFile) (after : Shelf) (t : puts.Takes at wsize m sent turn came old next new after) → PutIs (λ f. ⊥) at w
      → PutOpens A at wsize m sent turn came old next new after t
  none-put putting.Idle w m new after t none = tt
  none-put putting.Opens w m new after t none = λ file is. absurd (none file)
  none-put (putting.Adds file) w m new after t none = tt
  none-put (putting.Saves s) w m new after t none = tt

  none-file : (m : FileMachine) (new : FileMachine) (after : Shelf) (t : steps.Takes wsize m sent turn came old next new after) → FileBrings (λ f o b. ⊥) m
      → FileOpens A wsize m sent turn came old next new after t
  none-file (files.Open m) new after t none = tt
  none-file (files.Read m) new after t none = tt
  none-file (files.Write m) new after t none = tt
  none-file (files.Sync m) new after t none = tt
  none-file (files.Close m) new after t none = tt
  none-file (files.Truncate m) new after t none = tt
  none-file (files.Put m) new after t none = none-put m.state m.write.state m t.machine after t.step none

  none-path : (b : Bool) (m : PathMachine) (new : PathMachine) (after : Shelf) (t : paths.PathTakes b wsize m sent turn came old next new after) → PathBrings (λ f o b. ⊥) b m.opener
      → PathOpens A b wsize m sent turn came old next new after t
  none-path true m new after t none = none-file (file_of m.opener) (file_of t.opener) after t.step none
  none-path false m new after t none = tt

  none-opens : (machine new : Machine) (after : Shelf) (t : Takes wsize machine sent turn came old next new after) → Brings (λ f o b. ⊥) machine
      → JobOpens A wsize machine sent turn came old next new after t
  none-opens (machines.File m) new after t none = none-file m t.machine after t.step none
  none-opens (machines.Path m) new after t none = none-path m.arrived m t.machine after t.step none
  none-opens (machines.Name m) new after t none = tt

  -- a write is no put
  opener-kind : (o : Opener) → file_kind (file_of o) ≡ 1 → ⊥
  opener-kind (openers.Open m) is = omega (arith, is)
  opener-kind (openers.Put m) is = omega (arith, is)

  write-opens : (machine new : Machine) (after : Shelf) (t : Takes wsize machine sent turn came old next new after) → job_kind machine ≡ 1
      → JobOpens A wsize machine sent turn came old next new after t
  write-opens (machines.File m) new after t is = by m t.machine t.step is
    where
      by : (m new : FileMachine) (t : steps.Takes wsize m sent turn came old next new after) → job_kind (machines.File m) ≡ 1 → FileOpens A wsize m sent turn came old next new after t
      by (files.Open m) new t is = tt
      by (files.Read m) new t is = tt
      by (files.Write m) new t is = tt
      by (files.Sync m) new t is = tt
      by (files.Close m) new t is = tt
      by (files.Truncate m) new t is = tt
      by (files.Put m) new t is = absurd (let no_way : 3 ≡ 1 = is in omega (arith, no_way))
  write-opens (machines.Path m) new after t is = absurd (opener-kind m.opener is)
  write-opens (machines.Name m) new after t is = tt

  -- a put that opens its file is the first of none
  abbrev FileAway : FileMachine → Type 0
  FileAway (files.Put m) = m.state ≡ putting.Opens → is_first m.write.lane old.order ≡ false
  FileAway machine = Unit {0}

  abbrev PathAway : Bool → Opener → Type 0
  PathAway true opener = FileAway (file_of opener)
  PathAway false opener = Unit {0}

  abbrev Away : Machine → Type 0
  Away (machines.File m) = FileAway m
  Away (machines.Path m) = PathAway m.arrived m.opener
  Away (machines.Name m) = Unit {0}

  module _ (lane : ℕ) where
    put-away : (m : PutFile) → m.write.lane ≡ lane → (seat_put m.state m.write.state ≡ None → is_first lane old.order ≡ false) → FileAway (files.Put m)
    put-away m same none = λ is. subst (λ (n : ℕ). is_first n old.order ≡ false) (sym same) (none (ap (λ (s : Putting). seat_put s m.write.state) is))

    file-away : (m : FileMachine) → file_lane lane m ≡ lane → (seat_file m ≡ None → is_first lane old.order ≡ false) → FileAway m
    file-away (files.Open m) same none = tt
    file-away (files.Read m) same none = tt
    file-away (files.Write m) same none = tt
    file-away (files.Sync m) same none = tt
    file-away (files.Close m) same none = tt
    file-away (files.Truncate m) same none = tt
    file-away (files.Put m) same none = put-away m same none

    path-away : (b : Bool) (o : Opener) → file_lane lane (file_of o) ≡ lane → (path_seat b o ≡ None → is_first lane old.order ≡ false) → PathAway b o
    path-away true o same none = file-away (file_of o) same none
    path-away false o same none = tt

    away : (machine : Machine) → job_lane lane machine ≡ lane → (seat_of machine ≡ None → is_first lane old.order ≡ false) → Away machine
    away (machines.File m) same none = file-away m same none
    away (machines.Path m) same none = path-away m.arrived m.opener same none
    away (machines.Name m) same none = tt

  -- a put that finds files of which F holds
  module _ (F : List ℕ → Type 0) (offset : ℕ) (text : List ℕ) (given : (file : List ℕ) → F file → A file offset text) where
    some-put : (at : Putting) (w : Writing) (m : PutFile) (new : PutFile) (after : Shelf) (t : puts.Takes at wsize m sent turn came old next new after)
        → PutIs (λ f. (m.write.offset ≡ offset) × (writes.made_bytes m.write.text ≡ text)) at w → PutHas F at wsize m sent turn came old next new after t → m.state ≡ at → FileAway (files.Put m)
        → PutOpens A at wsize m sent turn came old next new after t
    some-put putting.Idle w m new after t texts has is off = tt
    some-put putting.Opens w m new after t texts has at_ off = λ file is. (
      subst (λ (o : ℕ). A file o (writes.made_bytes m.write.text)) (sym (texts file).0) (subst (A file offset) (sym (texts file).1) (given file (has file is))),
      off at_,
    )
    some-put (putting.Adds file) w m new after t texts has is off = tt
    some-put (putting.Saves s) w m new after t texts has is off = tt

    some-file : (m : FileMachine) (new : FileMachine) (after : Shelf) (t : steps.Takes wsize m sent turn came old next new after)
        → FileBrings (λ f o b. (o ≡ offset) × (b ≡ text)) m → FileHas (λ f o b. F f) wsize m sent turn came old next new after t → FileAway m → FileOpens A wsize m sent turn came old next new after t
    some-file (files.Open m) new after t texts has off = tt
    some-file (files.Read m) new after t texts has off = tt
    some-file (files.Write m) new after t texts has off = tt
    some-file (files.Sync m) new after t texts has off = tt
    some-file (files.Close m) new after t texts has off = tt
    some-file (files.Truncate m) new after t texts has off = tt
    some-file (files.Put m) new after t texts has off = some-put m.state m.write.state m t.machine after t.step texts has refl off

    some-path : (b : Bool) (m : PathMachine) (new : PathMachine) (after : Shelf) (t : paths.PathTakes b wsize m sent turn came old next new after)
        → PathBrings (λ f o b. (o ≡ offset) × (b ≡ text)) b m.opener → PathHas (λ f o b. F f) b wsize m sent turn came old next new after t → PathAway b m.opener
        → PathOpens A b wsize m sent turn came old next new after t
    some-path true m new after t texts has off = some-file (file_of m.opener) (file_of t.opener) after t.step texts has off
    some-path false m new after t texts has off = tt

    some-opens : (machine new : Machine) (after : Shelf) (t : Takes wsize machine sent turn came old next new after) → Brings (λ f o b. (o ≡ offset) × (b ≡ text)) machine
        → TakesHas (λ f o b. F f) wsize machine sent turn came old next new after t → Away machine → JobOpens A wsize machine sent turn came old next new after t
    some-opens (machines.File m) new after t texts has off = some-file m t.machine after t.step texts has off
    some-opens (machines.Path m) new after t texts has off = some-path m.arrived m t.machine after t.step texts has off
    some-opens (machines.Name m) new after t texts has off = tt

-- ---- at a step with a reply

module _ (m : Mounted) (setup : Setup) (h : List Entry) (old : View) (rec : List ℕ) (fin : View) (xid : ℕ) (call : Waiting Purpose) (at : ℕ) (machine : Machine) (r : Reaches (machine_of m) setup h old)
    (found : old.lost ≡ false) (hears : HearsRecord old rec fin) (named : xid_at rec ≡ Some xid) (waits : waiting_at xid old.calls.calls ≡ Some call)
    (there : slice_get old.lanes at ≡ Some (record { number = call.purpose.lane; state = Busy machine })) where
  -- the put of a path that has a name, and what A is to hold of
  abbrev pub PutGiven : (List ℕ → ℕ → List ℕ → Type 0) → Op → Type 0
  PutGiven A op = (path : List (List ℕ)) (offset : ℕ) (text : List ℕ) → op ≡ ops.Put path offset text
      → IsNamed path × ((file : List ℕ) → LeadsTo m.root (h ++ Delivered rec ∷ []) path file → A file offset text)

  -- A holds of the bytes of a put and of the file that it has opened, if its opening ends at this step.
  pub puts-bring : (A : List ℕ → ℕ → List ℕ → Type 0) (x : ℕ) (op : Op) → UnderWay h call.purpose.lane x (length h) op → PutGiven A op
      → (wsize : ℕ) (sent turn : Turn) (next : Step) (new : Machine) (after : Shelf) (t : Takes wsize machine sent turn (said_of call.purpose.proc rec) old.shelf next new after)
      → JobOpens A wsize machine sent turn (said_of call.purpose.proc rec) old.shelf next new after t
  puts-bring A x op u given wsize sent turn next new after t =
      let good = (reached-good (machine_of m) (begins-unbegun m) setup Expects expects-laws NoCall NoShelf (TextStory m) (text-laws m setup) h old r).each at
      (record { number = call.purpose.lane; state = Busy machine }) there in
      by op u given (good.1 x op u)
    where
      placed : Placed old
      placed = reached-kept (machine_of m) (begins-unbegun m) setup Placed (keeps-placed m setup) h old r found

      live : LaneLive call.purpose.lane machine
      live = placed.live at (record { number = call.purpose.lane; state = Busy machine }) there

      apart : AreApart old.lanes
      apart = (lanes-under-way h old (reached-lanes (machine_of m) setup h old r)).apart

      no-place : seat_of machine ≡ None → is_first call.purpose.lane old.shelf.order ≡ false
      no-place is =
          not-seated (λ n. seat_in n old.lanes) old.shelf.order placed.sits call.purpose.lane (look-at seat_state old.lanes at call.purpose.lane (Busy machine) apart there ∙ is)

      none : Brings (λ f o b. ⊥) machine → JobOpens A wsize machine sent turn (said_of call.purpose.proc rec) old.shelf next new after t
      none s = none-opens A wsize sent turn (said_of call.purpose.proc rec) old.shelf next machine new after t s

      by : (op : Op) → UnderWay h call.purpose.lane x (length h) op → PutGiven A op → (job_kind machine ≡ kind_of m op) × Brings (TextOf op) machine
          → JobOpens A wsize machine sent turn (said_of call.purpose.proc rec) old.shelf next new after t
      by (ops.Put path offset text) u given s =
          let k = given path offset text refl in
          some-opens A wsize sent turn (said_of call.purpose.proc rec) old.shelf next (λ f. LeadsTo m.root (h ++ Delivered rec ∷ []) path f) offset text k.1 machine new after t s.1
          (put-finds m setup h old rec fin xid call at machine r found hears named waits there x path offset text u k.0 wsize sent turn next new after t)
          (away A wsize sent turn (said_of call.purpose.proc rec) old.shelf next call.purpose.lane machine (live-lane call.purpose.lane machine live.live) no-place)
      by (ops.Write slot offset bytes) u given s = write-opens A wsize sent turn (said_of call.purpose.proc rec) old.shelf next machine new after t s.0
      by (ops.Fill slot offset count byte) u given s = write-opens A wsize sent turn (said_of call.purpose.proc rec) old.shelf next machine new after t s.0
      by (ops.OpenFile slot mode path) u given s = none s.1
      by (ops.Read slot offset count) u given s = none s.1
      by (ops.Sync slot) u given s = none s.1
      by (ops.Close slot) u given s = none s.1
      by (ops.Truncate slot size) u given s = none s.1
      by (ops.Stat path) u given s = none s.1
      by (ops.Access path bits) u given s = none s.1
      by (ops.MakeDir path) u given s = none s.1
      by (ops.RemoveDir path) u given s = none s.1
      by (ops.Remove path) u given s = none s.1
      by (ops.Rename from to) u given s = none s.1
      by (ops.Link from to) u given s = none s.1
      by (ops.SymLink path target) u given s = none s.1
      by (ops.ReadLink path) u given s = none s.1
      by (ops.List path) u given s = none s.1

-- ---- as a whole history sees it

joined : (g : List Entry) (e : Entry) (more : List Entry) → (g ++ e ∷ []) ++ more ≡ g ++ (e ∷ more)
joined [] e more = refl
joined (x ∷ g) e more = ap (λ (k : List Entry). x ∷ k) (joined g e more)

-- A put that is under way as a record comes, and whose path leads to the file by then, writes its bytes there.
pub put-byte : (modes : Modes) (origin : Origin) (root : List ℕ) (h more : List Entry) (rec : List ℕ) (whole : List Entry) → whole ≡ (h ++ Delivered rec ∷ []) ++ more → KnowsRoot origin whole root
    → (lane x offset : ℕ) (path : List (List ℕ)) (text : List ℕ) → UnderWay h lane x (length h) (ops.Put path offset text) → (f : List ℕ) → LeadsTo root (h ++ Delivered rec ∷ []) path f
    → (i v : ℕ) → Covers offset text i v → WritesByte modes origin whole x f i v
put-byte modes origin root h more rec whole is known lane x offset path text u f leads i v covers =
    put-writes modes origin root now more whole is known x lane u.line offset path text
    (subst (λ (k : List Entry). At k x (Began lane u.line (ops.Put path offset text))) (sym is) there) none (let low = u.before in let long = length_last h (Delivered rec) in omega (arith, low, long)) f leads i v covers
  where
    now : List Entry
    now = h ++ Delivered rec ∷ []

    there : At (now ++ more) x (Began lane u.line (ops.Put path offset text))
    there = At-grow now more x (Began lane u.line (ops.Put path offset text)) (At-grow h (Delivered rec ∷ []) x (Began lane u.line (ops.Put path offset text)) u.began)

    heard : At whole (length h) (Delivered rec)
    heard = subst (λ (k : List Entry). At k (length h) (Delivered rec)) (sym is) (At-grow now more (length h) (Delivered rec) (At-last h (Delivered rec)))

    late : UnderWay whole lane x (length h) (ops.Put path offset text)
    late =
        subst (λ (k : List Entry). UnderWay k lane x (length h) (ops.Put path offset text)) (sym (is ∙ joined h (Delivered rec) more))
        (under-until h (Delivered rec ∷ more) lane x (length h) (ops.Put path offset text) refl u)

    at-once : (a : AnsweredBefore whole x (length now)) → a.y ≡ length h → ⊥
    at-once a here =
        let no_way : Answered a.lane a.ended.line a.answer ≡ Delivered rec =
        At-one whole (length h) (Answered a.lane a.ended.line a.answer) (Delivered rec) (subst (λ (n : ℕ). At whole n (Answered a.lane a.ended.line a.answer)) here a.ended.answered) heard in
        absurd cc

    none : AnsweredBefore whole x (length now) → ⊥
    none a = elim (cases_lt a.y (length h)) [
      | inl lt ↦ late.unanswered (record { lane = a.lane; op = a.op; y = a.y; answer = a.answer; ended = a.ended; before = lt })
      | inr ge ↦ at-once a (let long = length_last h (Delivered rec) in let before = a.before in omega (arith, ge, before, long))
    ]
