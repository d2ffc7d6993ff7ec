-- An open that looks up what it made, since the reply to its CREATE gave no file handle, made that CREATE before (RFC 1813, section 3.3.8).
use Rattle.core_session.proofs.Prelude.{◌≡◌, ◌-◌, ◌==◌, ℕ, Bool, true, false, List, [], ◌∷◌, ◌++◌, length, Option, Some, None, Result, Ok, Err, refl, sym, ap, subst, ◌∙◌, arith, if◌then◌else◌, Attr, Mode, looked, known_of, Fault, Entry, Began, Call, Reply, Op, create_unchecked, Asked, FirstSent-grow, length_last, Step, Shelf, Turn, OpenFile, Led, Opening, OpeningPhase, PutFile, made_by, got_by, WalkStep, Mounted, Machine, Opener, PathMachine, machine_of, file_of, slot_taken, begun_at, Starts, Resumes, Takes, State, Busy, Over, Setup, Awaits, PathOr, Did, TaleLaws, NoCall, NoShelf}
use Rattle.file_ops.specs.Told.{found_by}
use Rattle.op_machines.specs.Openers.{placed}
use Rattle.core_facts.proofs.AllAwaited.{FileAwaits}
use Rattle.nfs_types.specs.declared.mode.Mode.TheVariants as modes
use Rattle.nfs_dir_calls.specs.declared.call.DirCall.TheVariants as dirs
use Rattle.world_model.specs.declared.answer.Fault.TheVariants as faults
use Rattle.world_model.specs.declared.message.Call.TheVariants as calls
use Rattle.world_model.specs.declared.op.Op.TheVariants as ops
use Rattle.claims.specs.GoesOn.{MadeWithin}
use Rattle.client_shelf.specs.declared.step.Step.TheVariants as nexts
use Rattle.file_ops.specs.declared.opening.Led.TheVariants as leads
use Rattle.file_ops.specs.declared.opening.OpeningPhase.TheVariants as opening_steps
use Rattle.file_ops.specs.OpenFile as opens
use Rattle.file_ops.specs.Opening as opening
use Rattle.name_ops.specs.declared.walk.WalkStep.TheVariants as walks
use Rattle.name_ops.specs.Walking as walking
use Rattle.op_machines.specs.declared.file_machine.FileMachine.TheVariants as files
use Rattle.op_machines.specs.declared.machine.Machine.TheVariants as machines
use Rattle.op_machines.specs.declared.opener.Opener.TheVariants as openers
use Rattle.op_machines.specs.FileSteps as steps
use Rattle.op_machines.specs.PathSteps as paths

-- ---- what leads to that LOOKUP

-- a reply came
abbrev pub HasReply : Result Reply Fault → Type 0
HasReply (Ok reply) = Unit {0}
HasReply (Err fault) = ⊥

abbrev IsFind : Led → Type 0
IsFind (leads.Goes opening_steps.Find) = Unit {0}
IsFind led = ⊥

found-not : (told : Result (List ℕ) Fault) → IsFind (opening.found told) → ⊥
found-not (Ok file) f = f
found-not (Err fault) f = f

look-not : (b : Bool) (told : Result (List ℕ) Fault) → IsFind (if b then leads.Goes opening_steps.Make else opening.found told) → ⊥
look-not true told f = f
look-not false told f = found-not told f

kind-not : (b : Bool) (file : List ℕ) (attr : Attr) → IsFind (if b then leads.Opens file attr else leads.Ends faults.Kind) → ⊥
kind-not true file attr f = f
kind-not false file attr f = f

got-not : (file : List ℕ) (told : Result Attr Fault) → IsFind (opening.got file told) → ⊥
got-not file (Ok attr) f = kind-not (attr.kind == 1) file attr f
got-not file (Err fault) f = f

made-by : (came : Result Reply Fault) → IsFind (opening.made (made_by came)) → HasReply came
made-by (Ok reply) f = tt
made-by (Err fault) f = f

record IsMade (step : OpeningPhase) (came : Result Reply Fault) : Type 0 where
  is : step ≡ opening_steps.Make
  replied : HasReply came

led-find : (mode : Mode) (step : OpeningPhase) (came : Result Reply Fault) → IsFind (opening.led_to mode step came) → IsMade step came
led-find mode opening_steps.Look came f = absurd (look-not (opening.makes mode came) (found_by came) f)
led-find mode opening_steps.Make came f = record { is = refl; replied = made-by came f }
led-find mode opening_steps.Find came f = absurd (found-not (found_by came) f)
led-find mode (opening_steps.Ask file) came f = absurd (got-not file (got_by came) f)

-- kept attributes lead to no such call
known-if : (b : Bool) (file : List ℕ) (stamp : _) → IsFind (if b then leads.Knows file stamp else leads.Goes (opening_steps.Ask file)) → ⊥
known-if true file stamp f = f
known-if false file stamp f = f

known-not : (file : List ℕ) (attr : Option Attr) (known : _) → IsFind (opening.known_at file attr known) → ⊥
known-not file (Some attr) (Some stamp) f = known-if _ file stamp f
known-not file None known f = f
known-not file (Some attr) None f = f

known-find : (led : Led) (now : ℕ) (attrs pages : _) → IsFind (opening.known_led led now attrs pages) → IsFind led
known-find (leads.Goes opening_steps.Look) now attrs pages f = f
known-find (leads.Goes opening_steps.Make) now attrs pages f = f
known-find (leads.Goes opening_steps.Find) now attrs pages f = f
known-find (leads.Goes (opening_steps.Ask file)) now attrs pages f = absurd (known-not file (looked file now attrs) (known_of file pages) f)
known-find (leads.Opens file attr) now attrs pages f = f
known-find (leads.Knows file stamp) now attrs pages f = f
known-find (leads.Ends fault) now attrs pages f = f

on-find : (o : Opening) (now : ℕ) (came : Result Reply Fault) (attrs pages : _) → IsFind (opening.led_on o now came attrs pages) → IsMade o.step came
on-find o now came attrs pages = by o.nocto
  where
    by : (b : Bool) → IsFind (opening.known_by b (opening.told_led o came) now attrs pages) → IsMade o.step came
    by true f = led-find o.mode o.step came (known-find (opening.told_led o came) now attrs pages f)
    by false f = led-find o.mode o.step came f

-- ---- a longer history

made-later : (h : List Entry) (e : Entry) (x : ℕ) (call : Call) → MadeWithin h x (length h) call → MadeWithin (h ++ e ∷ []) x (length (h ++ e ∷ [])) call
made-later h e x call w =
    let more = length_last h e in
    let low = w.before in
    record {
      at = w.at;
      xid = w.xid;
      bytes = w.bytes;
      sent = FirstSent-grow h (e ∷ []) w.at w.xid w.bytes w.sent;
      spells = w.spells;
      after = w.after;
      before = omega (arith, more, low);
    }

made-by-reply : (h : List Entry) (x : ℕ) (call : Call) (reply : Reply) → Asked h x (length h) call reply → MadeWithin h x (length h) call
made-by-reply h x call reply a =
    let d = a.heard in
    let later = d.later in
    let before = d.before in
    record { at = d.sent_at; xid = a.xid; bytes = d.record_sent; sent = d.sent; spells = d.spells; after = d.after; before = omega (arith, later, before) }

first-not : (mode : Mode) → opening.first_step mode ≡ opening_steps.Find → ⊥
first-not modes.X is = cc
first-not modes.C is = cc
first-not modes.R is = cc
first-not modes.W is = cc
first-not modes.RW is = cc

-- ---- its machine

module _ (h : List Entry) (x : ℕ) where
  -- an open that may make its file, and looks it up after that, made it
  abbrev pub OpeningMade : Opening → Type 0
  OpeningMade o = o.mode ≡ modes.C → o.step ≡ opening_steps.Find → MadeWithin h x (length h) (create_unchecked o.dir o.name)

  abbrev pub OpenerMade : Opener → Type 0
  OpenerMade (openers.Open o) = OpeningMade o.opening
  OpenerMade (openers.Put p) = Unit {0}

  abbrev pub PathMade : Bool → Opener → Type 0
  PathMade true k = OpenerMade k
  PathMade false k = Unit {0}

  abbrev pub FoundMade : Machine → Type 0
  FoundMade (machines.Path m) = PathMade m.arrived m.opener
  FoundMade (machines.File m) = Unit {0}
  FoundMade (machines.Name m) = Unit {0}

  any-arrived : (b : Bool) (k : Opener) → OpenerMade k → PathMade b k
  any-arrived true k s = s
  any-arrived false k s = tt

  -- ---- which opener it is

  open-made : (k : Opener) (o : OpenFile) → file_of k ≡ files.Open o → OpeningMade o.opening → OpenerMade k
  open-made (openers.Open a) o is s = subst (λ (n : OpenFile). OpeningMade n.opening) (sym (same a o is)) s
    where
      same : (a b : OpenFile) → files.Open a ≡ files.Open b → a ≡ b
      same a b e = cc
  open-made (openers.Put a) o is s = tt

  put-made : (k : Opener) (p : PutFile) → file_of k ≡ files.Put p → OpenerMade k
  put-made (openers.Open a) p is = absurd (other a p is)
    where
      other : (a : OpenFile) (p : PutFile) → files.Open a ≡ files.Put p → ⊥
      other a p e = cc
  put-made (openers.Put a) p is = tt

  -- ---- steps of an opening

  go-made : (b : Bool) (o : Opening) → OpeningMade o → OpeningMade (if b then o else record o { asked = true })
  go-made true o s = s
  go-made false o s = s

  led-made : (o : Opening) (turn : Turn) (led : Led) → OpeningMade o → (IsFind led → o.mode ≡ modes.C → MadeWithin h x (length h) (create_unchecked o.dir o.name))
      → OpeningMade (opening.led_after o turn led)
  led-made o turn (leads.Goes opening_steps.Look) s f = go-made (opening.waits (opening.at_step o opening_steps.Look) turn) (opening.at_step o opening_steps.Look) (λ c is. absurd (cc))
  led-made o turn (leads.Goes opening_steps.Make) s f = go-made (opening.waits (opening.at_step o opening_steps.Make) turn) (opening.at_step o opening_steps.Make) (λ c is. absurd (cc))
  led-made o turn (leads.Goes opening_steps.Find) s f = go-made (opening.waits (opening.at_step o opening_steps.Find) turn) (opening.at_step o opening_steps.Find) (λ c is. f tt c)
  led-made o turn (leads.Goes (opening_steps.Ask file)) s f =
      go-made (opening.waits (opening.at_step o (opening_steps.Ask file)) turn) (opening.at_step o (opening_steps.Ask file)) (λ c is. absurd (cc))
  led-made o turn (leads.Opens file attr) s f = s
  led-made o turn (leads.Knows file stamp) s f = s
  led-made o turn (leads.Ends fault) s f = s

  after-made : (again : Bool) (o : Opening) (turn : Turn) (led : Led) → OpeningMade o → (IsFind led → o.mode ≡ modes.C → MadeWithin h x (length h) (create_unchecked o.dir o.name))
      → OpeningMade (opening.opening_after again o turn led)
  after-made true o turn led s f = s
  after-made false o turn led s f = led-made o turn led s f

  -- what came of its call
  abbrev HearsSo : Result Reply Fault → Call → Type 0
  HearsSo came call = (reply : Reply) → came ≡ Ok reply → Asked h x (length h) call reply

  heard-made : (came : Result Reply Fault) (call : Call) → HearsSo came call → HasReply came → MadeWithin h x (length h) call
  heard-made (Ok reply) call heard has = made-by-reply h x call reply (heard reply refl)
  heard-made (Err fault) call heard has = absurd has

  -- CREATE of the name
  creates : (o : Opening) (call : Call) → o.step ≡ opening_steps.Make → o.mode ≡ modes.C → call ≡ opening.call_of o o.step → call ≡ create_unchecked o.dir o.name
  creates o call at mode is =
      is ∙ ap (opening.call_of o) at ∙ ap (λ (n : Mode). calls.Dir (dirs.Create o.dir o.name (opening.making_of n))) mode

  opening-made : (again : Bool) (o : Opening) (turn : Turn) (came : Result Reply Fault) (attrs pages : _) (call : Call) → OpeningMade o → call ≡ opening.call_of o o.step → HearsSo came call
      → OpeningMade (opening.opening_after again o turn (opening.led_on o turn.now came attrs pages))
  opening-made again o turn came attrs pages call s is heard =
      after-made again o turn (opening.led_on o turn.now came attrs pages) s
      (λ find mode.
      let k = on-find o turn.now came attrs pages find in
      subst (MadeWithin h x (length h)) (creates o call k.is mode is) (heard-made came call heard k.replied))

  -- ---- steps of an open or a put

  placed-made : (dir : List ℕ) (k : Opener) → OpenerMade (placed dir k)
  placed-made dir (openers.Open o) = λ mode is. absurd (first-not o.opening.mode is)
  placed-made dir (openers.Put p) = tt

  begun-made : (b : Bool) (moment : ℕ) (k : Opener) → PathMade b k → PathMade b (begun_at moment k)
  begun-made true moment (openers.Open o) s = s
  begun-made true moment (openers.Put p) s = tt
  begun-made false moment k s = tt

  opener-resumes : (k later : Opener) (wsize : ℕ) (turn : Turn) (old : Shelf) (next : Step) (after : Shelf) → OpenerMade k → steps.Resumes wsize (file_of k) turn old next (file_of later) after
      → OpenerMade later
  opener-resumes (openers.Open o) later wsize turn old next after s r = open-made later (opens.gone o turn) r.machine_is (go-made (opening.waits o.opening turn) o.opening s)
  opener-resumes (openers.Put p) later wsize turn old next after s r = put-made later r.machine r.machine_is

  opener-takes : (k later : Opener) (wsize : ℕ) (sent turn : Turn) (came : Result Reply Fault) (old : Shelf) (next : Step) (after : Shelf) (call : Call) → OpenerMade k
      → FileAwaits (file_of k) call → HearsSo came call → steps.Takes wsize (file_of k) sent turn came old next (file_of later) after → OpenerMade later
  opener-takes (openers.Open o) later wsize sent turn came old next after call s e heard t =
      let again = opening.opening_again o.opening sent turn came old.repeats in
      open-made later (opens.took_after again o turn came after.attrs old.pages) t.machine_is
      (opening-made again o.opening turn came after.attrs old.pages call s e heard)
  opener-takes (openers.Put p) later wsize sent turn came old next after call s e heard t = put-made later t.machine t.machine_is

  path-as : (to new : PathMachine) → new ≡ to → PathMade to.arrived to.opener → PathMade new.arrived new.opener
  path-as to new is s = subst (λ (n : PathMachine). PathMade n.arrived n.opener) (sym is) s

  then-made : (wsize : ℕ) (m : PathMachine) (turn : Turn) (old : Shelf) (next : Step) (new : PathMachine) (after : Shelf) → OpenerMade m.opener
      → paths.ThenResumes wsize m turn old next new after → PathMade new.arrived new.opener
  then-made wsize m turn old next new after s t =
      path-as (record m { opener = t.opener }) new t.machine_is (any-arrived m.arrived t.opener (opener-resumes m.opener t.opener wsize turn old next after s t.step))

  follows-made : (step : WalkStep) (wsize : ℕ) (m : PathMachine) (turn : Turn) (old : Shelf) (next : Step) (new : PathMachine) (after : Shelf) → PathMade m.arrived m.opener
      → paths.Follows step wsize m turn old next new after → PathMade new.arrived new.opener
  follows-made (walks.Send call) wsize m turn old next new after s f = path-as m new f.1 s
  follows-made walks.Wait wsize m turn old next new after s f = path-as m new f.1 s
  follows-made (walks.At dir) wsize m turn old next new after s f =
      then-made wsize (record m { opener = placed dir m.opener; arrived = true }) turn old next new after (placed-made dir m.opener) f
  follows-made (walks.Refused fault) wsize m turn old next new after s f = path-as m new f.1 s

  path-resumes : (b : Bool) (wsize : ℕ) (m : PathMachine) (turn : Turn) (old : Shelf) (next : Step) (new : PathMachine) (after : Shelf) → m.arrived ≡ b → PathMade m.arrived m.opener
      → paths.PathResumes b wsize m turn old next new after → PathMade new.arrived new.opener
  path-resumes true wsize m turn old next new after is s r = then-made wsize m turn old next new after (subst (λ (b : Bool). PathMade b m.opener) is s) r
  path-resumes false wsize m turn old next new after is s r =
      follows-made (walking.go_next m.walk turn old) wsize (record m { walk = walking.go_after m.walk turn old }) turn (walking.go_shelf m.walk turn old) next new after s r

  path-starts : (taken : Bool) (wsize : ℕ) (m : PathMachine) (turn : Turn) (old : Shelf) (next : Step) (new : PathMachine) (after : Shelf) → PathMade m.arrived m.opener
      → paths.StartsIf taken wsize m turn old next new after → PathMade new.arrived new.opener
  path-starts true wsize m turn old next new after s t = path-as m new t.1 s
  path-starts false wsize m turn old next new after s t =
      path-resumes m.arrived wsize (record m { opener = begun_at (turn.moment - 1) m.opener }) turn old next new after refl (begun-made m.arrived (turn.moment - 1) m.opener s) t

  path-takes : (b : Bool) (wsize : ℕ) (m : PathMachine) (sent turn : Turn) (came : Result Reply Fault) (old : Shelf) (next : Step) (new : PathMachine) (after : Shelf) (call : Call) → m.arrived ≡ b
      → PathMade m.arrived m.opener → PathOr m.arrived m call → HearsSo came call → paths.PathTakes b wsize m sent turn came old next new after → PathMade new.arrived new.opener
  path-takes true wsize m sent turn came old next new after call is s e heard t =
      path-as (record m { opener = t.opener }) new t.machine_is (any-arrived m.arrived t.opener
      (opener-takes m.opener t.opener wsize sent turn came old next after call (subst (λ (b : Bool). PathMade b m.opener) is s) (subst (λ (b : Bool). PathOr b m call) is e) heard t.step))
  path-takes false wsize m sent turn came old next new after call is s e heard t =
      follows-made t.step wsize t.walked turn t.heard next new after (path-as (record m { walk = t.walked.walk }) t.walked t.walked_is s) t.follows

  -- ---- any operation

  machine-as : (to new : Machine) → new ≡ to → FoundMade to → FoundMade new
  machine-as to new is s = subst FoundMade (sym is) s

  starts-made : (m : Machine) (wsize : ℕ) (turn : Turn) (old : Shelf) (next : Step) (new : Machine) (after : Shelf) → FoundMade m → Starts wsize m turn old next new after → FoundMade new
  starts-made (machines.File m) wsize turn old next new after s t = machine-as (machines.File t.machine) new t.machine_is tt
  starts-made (machines.Path m) wsize turn old next new after s t =
      machine-as (machines.Path t.machine) new t.machine_is (path-starts (slot_taken m.opener old.opens) wsize m turn old next t.machine after s t.step)
  starts-made (machines.Name m) wsize turn old next new after s t = machine-as (machines.Name t.machine) new t.machine_is tt

  resumes-made : (m : Machine) (wsize : ℕ) (turn : Turn) (old : Shelf) (next : Step) (new : Machine) (after : Shelf) → FoundMade m → Resumes wsize m turn old next new after → FoundMade new
  resumes-made (machines.File m) wsize turn old next new after s t = machine-as (machines.File t.machine) new t.machine_is tt
  resumes-made (machines.Path m) wsize turn old next new after s t =
      machine-as (machines.Path t.machine) new t.machine_is (path-resumes m.arrived wsize m turn old next t.machine after refl s t.step)
  resumes-made (machines.Name m) wsize turn old next new after s t = machine-as (machines.Name t.machine) new t.machine_is tt

  takes-made : (m : Machine) (wsize : ℕ) (sent turn : Turn) (came : Result Reply Fault) (old : Shelf) (next : Step) (new : Machine) (after : Shelf) (call : Call) → FoundMade m → Awaits m call
      → HearsSo came call → Takes wsize m sent turn came old next new after → FoundMade new
  takes-made (machines.File m) wsize sent turn came old next new after call s e heard t = machine-as (machines.File t.machine) new t.machine_is tt
  takes-made (machines.Path m) wsize sent turn came old next new after call s e heard t =
      machine-as (machines.Path t.machine) new t.machine_is (path-takes m.arrived wsize m sent turn came old next t.machine after call refl s e heard t.step)
  takes-made (machines.Name m) wsize sent turn came old next new after call s e heard t = machine-as (machines.Name t.machine) new t.machine_is tt

  -- it begins on its way
  begins-made : (m : Mounted) (lane : ℕ) (op : Op) → FoundMade (machine_of m lane op)
  begins-made m lane (ops.OpenFile slot mode path) = tt
  begins-made m lane (ops.Read slot offset count) = tt
  begins-made m lane (ops.Write slot offset bytes) = tt
  begins-made m lane (ops.Fill slot offset count byte) = tt
  begins-made m lane (ops.Put path offset bytes) = tt
  begins-made m lane (ops.Sync slot) = tt
  begins-made m lane (ops.Close slot) = tt
  begins-made m lane (ops.Truncate slot size) = tt
  begins-made m lane (ops.Stat path) = tt
  begins-made m lane (ops.Access path bits) = tt
  begins-made m lane (ops.MakeDir path) = tt
  begins-made m lane (ops.RemoveDir path) = tt
  begins-made m lane (ops.Remove path) = tt
  begins-made m lane (ops.Rename from to) = tt
  begins-made m lane (ops.Link from to) = tt
  begins-made m lane (ops.SymLink path target) = tt
  begins-made m lane (ops.ReadLink path) = tt
  begins-made m lane (ops.List path) = tt

opener-later : (h : List Entry) (e : Entry) (x : ℕ) (k : Opener) → OpenerMade h x k → OpenerMade (h ++ e ∷ []) x k
opener-later h e x (openers.Open o) s = λ mode is. made-later h e x (create_unchecked o.opening.dir o.opening.name) (s mode is)
opener-later h e x (openers.Put p) s = tt

path-later : (h : List Entry) (e : Entry) (x : ℕ) (b : Bool) (k : Opener) → PathMade h x b k → PathMade (h ++ e ∷ []) x b k
path-later h e x true k s = opener-later h e x k s
path-later h e x false k s = tt

machine-later : (h : List Entry) (e : Entry) (x : ℕ) (m : Machine) → FoundMade h x m → FoundMade (h ++ e ∷ []) x m
machine-later h e x (machines.File m) s = tt
machine-later h e x (machines.Path m) s = path-later h e x m.arrived m.opener s
machine-later h e x (machines.Name m) s = tt

-- ---- along a history

abbrev StateMade : List Entry → ℕ → State → Type 0
StateMade h x (Busy machine) = FoundMade h x machine
StateMade h x (Over answer) = Unit {0}

abbrev pub MadeStory : List Entry → ℕ → Op → State → Type 0
MadeStory h x op state = StateMade h x state

state-later : (h : List Entry) (e : Entry) (x : ℕ) (state : State) → StateMade h x state → StateMade (h ++ e ∷ []) x state
state-later h e x (Busy machine) s = machine-later h e x machine s
state-later h e x (Over answer) s = tt

did : (h : List Entry) (x : ℕ) (op : Op) (next : Step) (new : Machine) (after : Shelf) → FoundMade h x new → Did NoCall NoShelf MadeStory h x op next new after
did h x op (nexts.Send call) new after s = record { shelf = tt; asks = tt; then_ = s }
did h x op nexts.Wait new after s = record { shelf = tt; asks = tt; then_ = s }
did h x op (nexts.Done answer) new after s = record { shelf = tt; asks = tt; then_ = tt }

pub made-laws : (m : Mounted) (setup : Setup) → TaleLaws (machine_of m) setup Awaits NoCall NoShelf MadeStory
made-laws m setup = record {
  fresh = λ h v up fresh. tt;
  starts = λ h lane line op wsize turn old next new after kept s.
      let later = h ++ Began lane line op ∷ [] in
      did later (length h) op next new after (starts-made later (length h) (machine_of m lane op) wsize turn old next new after (begins-made later (length h) m lane op) s);
  resumes = λ h x op machine wsize turn old next new after kept story r.
      did h x op next new after (resumes-made h x machine wsize turn old next new after story r);
  takes = λ h x op machine wsize sent turn came old next new after others kept story one told t.
      did h x op next new after (takes-made h x machine wsize sent turn came old next new after told.call story told.expects (λ reply is. (told.heard reply is).asked) t);
  still = λ h e shelf kept. tt;
  waits = λ h e x op call w. tt;
  grows = λ h e x op state quiet story. state-later h e x state story;
  lost = λ h x op shown. tt;
}
