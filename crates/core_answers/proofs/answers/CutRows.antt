-- A truncate goes well only with the reply to SETATTR of the size of the file that its slot holds.
use Rattle.core_answers.proofs.Prelude.{◌≡◌, ℕ, Bool, true, false, List, [], ◌∷◌, ◌++◌, length, Option, Some, None, Result, Ok, Err, refl, sym, ap, subst, ◌∙◌, if◌then◌else◌, Mode, Wcc, FileKept, Opened, Answer, Fault, Value, Entry, Began, Call, Reply, Op, Modes, EndsWith, Step, Shelf, Turn, TruncateFile, Truncating, in_mode, of_open, joined, Mounted, Machine, machine_of, Starts, Resumes, Takes, State, Busy, Over, Setup, begins-unbegun, Held, held-later, always-later, held-begins, Given, is-given, ends-later, ends-until, ThenOf, IsQuiet, AsksFor}
use Rattle.std.specs.FinMap as finite
use Rattle.nfs_types.specs.declared.mode.Mode.TheVariants as modes
use Rattle.nfs_file_calls.specs.declared.owned.FileKept.TheVariants as kept
use Rattle.world_model.specs.declared.answer.Answer.TheVariants as answers
use Rattle.world_model.specs.declared.answer.Fault.TheVariants as faults
use Rattle.world_model.specs.declared.answer.Value.TheVariants as values
use Rattle.world_model.specs.declared.message.Reply.TheVariants as replies
use Rattle.world_model.specs.declared.op.Op.TheVariants as ops
use Rattle.claims.specs.Asks as asks
use Rattle.claims.specs.OkRows.{OkRow}
use Rattle.claims.specs.Rights.{can_write}
use Rattle.claims.specs.Slots.{InSlot}
use Rattle.client_shelf.specs.declared.step.Step.TheVariants as nexts
use Rattle.file_ops.specs.declared.truncate_file.Truncating.TheVariants as truncating
use Rattle.file_ops.specs.TruncateFile as truncates
use Rattle.op_machines.specs.declared.file_machine.FileMachine.TheVariants as files
use Rattle.op_machines.specs.declared.machine.Machine.TheVariants as machines
use Rattle.core_answers.specs.answers.CutRows.{TruncatesOk}
use Rattle.core_answers.proofs.answers.CutNames.{Cuts, CutAwaits, cuts-laws}
use Rattle.core_answers.proofs.answers.SlotTales.{SlotLaws, reached-answered}

-- ---- the file that a truncate finds

data FindsToCut (at : Option Opened) (found : Result (List ℕ) Fault) : Type 0 where
  to_cut : (o : Opened) → at ≡ Some o → can_write o.mode ≡ true → found ≡ Ok o.file → FindsToCut at found
  to_none : (fault : Fault) → found ≡ Err fault → FindsToCut at found

finds-to-cut : (at : Option Opened) → FindsToCut at (of_open at)
finds-to-cut None = to_none faults.Slot refl
finds-to-cut (Some o) = by o.mode refl
  where
    by : (mode : Mode) → o.mode ≡ mode → FindsToCut (Some o) (in_mode o.mode o.file)
    by modes.R is = to_none faults.Mode (ap (λ (k : Mode). in_mode k o.file) is)
    by modes.W is = to_cut o refl (ap can_write is) (ap (λ (k : Mode). in_mode k o.file) is)
    by modes.RW is = to_cut o refl (ap can_write is) (ap (λ (k : Mode). in_mode k o.file) is)
    by modes.C is = to_cut o refl (ap can_write is) (ap (λ (k : Mode). in_mode k o.file) is)
    by modes.X is = to_cut o refl (ap can_write is) (ap (λ (k : Mode). in_mode k o.file) is)

-- ---- what the reply to SETATTR says

set-by : (reply : FileKept) (wcc : Wcc) → truncates.in_reply reply ≡ Ok wcc → reply ≡ kept.SetAttr wcc
set-by (kept.SetAttr w) wcc is = let same : w ≡ wcc = cc in ap kept.SetAttr same
set-by (kept.SetAttrFail status w) wcc is = absurd (cc)
set-by reply wcc is = absurd (cc)

told-set : (came : Result Reply Fault) (wcc : Wcc) → truncates.size_told came ≡ Ok wcc → came ≡ Ok (replies.File (kept.SetAttr wcc))
told-set (Ok (replies.File reply)) wcc is = ap (λ (r : FileKept). Ok (replies.File r)) (set-by reply wcc is)
told-set (Ok (replies.Dir reply)) wcc is = absurd (cc)
told-set (Ok (replies.Mount reply)) wcc is = absurd (cc)
told-set (Err fault) wcc is = absurd (cc)

module _ (m : Modes) (h : List Entry) (x : ℕ) (op : Op) (size : ℕ) where
  -- ---- the story

  -- its file is the one that its slot holds
  abbrev CutsFile : Truncating → List ℕ → Type 0
  CutsFile truncating.Idle file = Unit {0}
  CutsFile (truncating.Queued f upto) file = f ≡ file
  CutsFile (truncating.Asked f upto) file = f ≡ file

  pub record CutRuns (machine : Machine) : Type 0 where
    pub held : Held m h x op
    pub t : TruncateFile
    pub is : machine ≡ machines.File (files.Truncate t)
    pub size_is : t.size ≡ size
    pub cuts : CutsFile t.state held.o.file

  -- it ends with the reply to the SETATTR of that
  pub record CutEnds (value : Value) : Type 0 where
    pub held : Held m h x op
    pub wcc : Wcc
    pub ends : EndsWith h x (length h) (truncates.size_call held.o.file size) (replies.File (kept.SetAttr wcc))
    pub gives : value ≡ values.Nothing

  abbrev pub CutAnswer : Answer → Type 0
  CutAnswer (answers.Done value) = CutEnds value
  CutAnswer (answers.Refused fault) = Unit {0}

  abbrev pub Then : Step → Machine → Type 0
  Then next new = ThenOf CutRuns CutAnswer next new

  then-to : (to next : Step) (at new : Machine) → next ≡ to → new ≡ at → Then to at → Then next new
  then-to to next at new is same t = subst (λ (n : Step). Then n new) (sym is) (subst (Then to) (sym same) t)

  refused-then : (fault : Fault) (next : Step) (new : Machine) → next ≡ nexts.Done (answers.Refused fault) → Then next new
  refused-then fault next new is = subst (λ (n : Step). Then n new) (sym is) tt

  runs : (held : Held m h x op) (t : TruncateFile) → t.size ≡ size → CutsFile t.state held.o.file → CutRuns (machines.File (files.Truncate t))
  runs held t size_is cuts = record { held = held; t = t; is = refl; size_is = size_is; cuts = cuts }

  -- in the order, it asks for its call or waits
  queued-then : (held : Held m h x op) (t : TruncateFile) (file : List ℕ) (upto : ℕ) (turn : Turn) (shelf : Shelf) → t.size ≡ size → file ≡ held.o.file
      → Then (truncates.queued_next t file turn shelf) (machines.File (files.Truncate (record t { state = truncates.queued_state t file upto turn shelf })))
  queued-then held t file upto turn shelf size_is same = by (truncates.may_ask t.lane file turn shelf)
    where
      by : (b : Bool) → Then (if b then nexts.Send (truncates.size_call file t.size) else nexts.Wait)
          (machines.File (files.Truncate (record t { state = if b then truncating.Asked file upto else truncating.Queued file upto })))
      by true = runs held (record t { state = truncating.Asked file upto }) size_is same
      by false = runs held (record t { state = truncating.Queued file upto }) size_is same

  begun-then : (found : Result (List ℕ) Fault) (held : Held m h x op) (t : TruncateFile) (turn : Turn) (old : Shelf) → found ≡ Ok held.o.file → t.size ≡ size
      → Then (truncates.begun_next found t turn old) (machines.File (files.Truncate (record t { state = truncates.begun_state found t turn old })))
  begun-then (Ok file) held t turn old is size_is = let same : file ≡ held.o.file = cc in queued-then held t file old.seq turn (joined t.lane file old) size_is same
  begun-then (Err fault) held t turn old is size_is = absurd (cc)

  resumed-then : (at : Truncating) (held : Held m h x op) (t : TruncateFile) (turn : Turn) (old : Shelf) → t.size ≡ size → CutsFile at held.o.file
      → Then (truncates.resumed_next at t turn old) (machines.File (files.Truncate (record t { state = truncates.resumed_state at t turn old })))
  resumed-then truncating.Idle held t turn old size_is cuts = runs held (record t { state = truncating.Idle }) size_is tt
  resumed-then (truncating.Queued file upto) held t turn old size_is cuts = queued-then held t file upto turn old size_is cuts
  resumed-then (truncating.Asked file upto) held t turn old size_is cuts = runs held (record t { state = truncating.Asked file upto }) size_is cuts

  -- the answer at the reply
  told-then : (told : Result Wcc Fault) (held : Held m h x op) (t : TruncateFile) (came : Result Reply Fault) → truncates.size_told came ≡ told
      → ((reply : Reply) → came ≡ Ok reply → EndsWith h x (length h) (truncates.size_call held.o.file size) reply)
      → Then (truncates.told_next told) (machines.File (files.Truncate t))
  told-then (Ok wcc) held t came is heard = record { held = held; wcc = wcc; ends = heard (replies.File (kept.SetAttr wcc)) (told-set came wcc is); gives = refl }
  told-then (Err fault) held t came is heard = tt

  took-then : (at : Truncating) (held : Held m h x op) (t : TruncateFile) (came : Result Reply Fault) (sent turn : Turn) (repeats : _) (call : Call) → t.size ≡ size → CutsFile at held.o.file
      → CutAwaits at t.size call → ((reply : Reply) → came ≡ Ok reply → EndsWith h x (length h) call reply)
      → Then (truncates.took_next at t came sent turn repeats) (machines.File (files.Truncate (record t { state = truncates.took_state at came sent turn repeats })))
  took-then truncating.Idle held t came sent turn repeats call size_is cuts awaits heard = runs held (record t { state = truncating.Idle }) size_is tt
  took-then (truncating.Queued file upto) held t came sent turn repeats call size_is cuts awaits heard = runs held (record t { state = truncating.Queued file upto }) size_is cuts
  took-then (truncating.Asked file upto) held t came sent turn repeats call size_is cuts awaits heard = by (truncates.size_again came sent turn repeats)
    where
      mine : call ≡ truncates.size_call held.o.file size
      mine = awaits ∙ ap (λ (n : ℕ). truncates.size_call file n) size_is ∙ ap (λ (f : List ℕ). truncates.size_call f size) cuts

      by : (b : Bool) → Then (truncates.ended_next b t file came) (machines.File (files.Truncate (record t { state = truncates.ended_state b (truncating.Asked file upto) })))
      by true = runs held (record t { state = truncating.Asked file upto }) size_is cuts
      by false = told-then (truncates.size_told came) held (record t { state = truncating.Idle }) came refl
          (λ reply is. subst (λ (c : Call). EndsWith h x (length h) c reply) mine (heard reply is))

-- ---- each step

begins-at : (m : Modes) (h : List Entry) (lane line slot size : ℕ) (at : Option Opened) (wsize : ℕ) (t : TruncateFile) (turn : Turn) (old : Shelf) (next : Step) (new : Machine) → Given m h lane old
    → finite.get old.opens (lane, slot) ≡ at → t.size ≡ size → next ≡ truncates.begun_next (of_open at) t turn old
    → new ≡ machines.File (files.Truncate (record t { state = truncates.begun_state (of_open at) t turn old }))
    → Then m (h ++ Began lane line (ops.Truncate slot size) ∷ []) (length h) (ops.Truncate slot size) size next new
begins-at m h lane line slot size at wsize t turn old next new given there size_is is same = by (finds-to-cut at)
  where
    later : List Entry
    later = h ++ Began lane line (ops.Truncate slot size) ∷ []

    by : FindsToCut at (of_open at) → Then m later (length h) (ops.Truncate slot size) size next new
    by (to_none fault none) =
        refused-then m later (length h) (ops.Truncate slot size) size fault next new (is ∙ ap (λ (r : Result (List ℕ) Fault). truncates.begun_next r t turn old) none)
    by (to_cut o here right found) =
        let held = held-begins m h lane line slot (ops.Truncate slot size) o old given refl (there ∙ here) right in
        then-to m later (length h) (ops.Truncate slot size) size (truncates.begun_next (of_open at) t turn old) next
        (machines.File (files.Truncate (record t { state = truncates.begun_state (of_open at) t turn old }))) new is same
        (begun-then m later (length h) (ops.Truncate slot size) size (of_open at) held t turn old found size_is)

cut-begins : (m : Modes) (mounted : Mounted) (h : List Entry) (lane line slot size wsize : ℕ) (turn : Turn) (old : Shelf) (next : Step) (new : Machine) (after : Shelf) → Given m h lane old
    → Starts wsize (machine_of mounted lane (ops.Truncate slot size)) turn old next new after
    → Then m (h ++ Began lane line (ops.Truncate slot size) ∷ []) (length h) (ops.Truncate slot size) size next new
cut-begins m mounted h lane line slot size wsize turn old next new after given s =
    begins-at m h lane line slot size (finite.get old.opens (lane, slot)) wsize (record { lane = lane; slot = slot; size = size; state = truncating.Idle }) turn old next new given refl refl
    s.step.next_is (s.machine_is ∙ ap machines.File s.step.machine_is)

cut-goes-on : (m : Modes) (h : List Entry) (x : ℕ) (op : Op) (size : ℕ) (machine : Machine) (wsize : ℕ) (turn : Turn) (old : Shelf) (next : Step) (new : Machine) (after : Shelf)
    → CutRuns m h x op size machine → Resumes wsize machine turn old next new after → Then m h x op size next new
cut-goes-on m h x op size machine wsize turn old next new after k r = by (subst (λ (n : Machine). Resumes wsize n turn old next new after) k.is r)
  where
    by : Resumes wsize (machines.File (files.Truncate k.t)) turn old next new after → Then m h x op size next new
    by s = then-to m h x op size (truncates.resumed_next k.t.state k.t turn old) next _ new s.step.next_is (s.machine_is ∙ ap machines.File s.step.machine_is)
        (resumed-then m h x op size k.t.state k.held k.t turn old k.size_is k.cuts)

cut-hears : (m : Modes) (h : List Entry) (x : ℕ) (op : Op) (size : ℕ) (machine : Machine) (wsize : ℕ) (sent turn : Turn) (came : Result Reply Fault) (old : Shelf) (next : Step) (new : Machine)
    (after : Shelf) (call : Call) → CutRuns m h x op size machine → Cuts machine call → ((reply : Reply) → came ≡ Ok reply → EndsWith h x (length h) call reply)
    → Takes wsize machine sent turn came old next new after → Then m h x op size next new
cut-hears m h x op size machine wsize sent turn came old next new after call k awaits heard t =
    by (subst (λ (n : Machine). Cuts n call) k.is awaits) (subst (λ (n : Machine). Takes wsize n sent turn came old next new after) k.is t)
  where
    by : CutAwaits k.t.state k.t.size call → Takes wsize (machines.File (files.Truncate k.t)) sent turn came old next new after → Then m h x op size next new
    by mine s = then-to m h x op size (truncates.took_next k.t.state k.t came sent turn old.repeats) next _ new s.step.next_is (s.machine_is ∙ ap machines.File s.step.machine_is)
        (took-then m h x op size k.t.state k.held k.t came sent turn old.repeats call k.size_is k.cuts mine heard)

-- ---- the laws

abbrev StateStory : Modes → List Entry → ℕ → Op → ℕ → State → Type 0
StateStory m h x op size (Busy machine) = CutRuns m h x op size machine
StateStory m h x op size (Over answer) = CutAnswer m h x op size answer

abbrev Story : Modes → List Entry → ℕ → Op → State → Type 0
Story m h x op state = (slot size : ℕ) → op ≡ ops.Truncate slot size → StateStory m h x op size state

abbrev NoWait : List Entry → ℕ → Op → Call → Type 0
NoWait h x op call = Unit {0}

abbrev NoShelf : List Entry → Shelf → Type 0
NoShelf h shelf = Unit {0}

abbrev NoSeen : List Entry → Turn → Call → Shelf → Type 0
NoSeen h sent call shelf = Unit {0}

asks-none : (h : List Entry) (x : ℕ) (op : Op) (next : Step) → AsksFor (NoWait h x op) next
asks-none h x op (nexts.Send call) = tt
asks-none h x op nexts.Wait = tt
asks-none h x op (nexts.Done answer) = tt

for-cut : (m : Modes) (h : List Entry) (x : ℕ) (op : Op) (next : Step) (new : Machine) → ((slot size : ℕ) → op ≡ ops.Truncate slot size → Then m h x op size next new)
    → ThenOf (λ k. Story m h x op (Busy k)) (λ a. Story m h x op (Over a)) next new
for-cut m h x op (nexts.Send call) new t = t
for-cut m h x op nexts.Wait new t = t
for-cut m h x op (nexts.Done answer) new t = t

state-later : (m : Modes) (h : List Entry) (e : Entry) (x : ℕ) (op : Op) (size : ℕ) (state : State) → IsQuiet state e → StateStory m h x op size state → StateStory m (h ++ e ∷ []) x op size state
state-later m h e x op size (Busy machine) quiet k = record { held = held-later m h e x op k.held; t = k.t; is = k.is; size_is = k.size_is; cuts = by k.t.state k.cuts }
  where
    by : (s : Truncating) → CutsFile m h x op size s k.held.o.file → CutsFile m (h ++ e ∷ []) x op size s k.held.o.file
    by truncating.Idle c = tt
    by (truncating.Queued file upto) c = c
    by (truncating.Asked file upto) c = c
state-later m h e x op size (Over (answers.Done value)) quiet k =
    record { held = held-later m h e x op k.held; wcc = k.wcc; ends = ends-later h e x _ _ quiet k.ends; gives = k.gives }
state-later m h e x op size (Over (answers.Refused fault)) quiet k = tt

cut-laws : (m : Modes) (mounted : Mounted) (setup : Setup) → SlotLaws (Given m) NoSeen (machine_of mounted) setup Cuts NoWait NoShelf (Story m)
cut-laws m mounted setup = record {
  fresh = λ h v up fresh. tt;
  starts = λ h lane line op wsize turn old next new after given kept s. record {
    shelf = tt;
    asks = asks-none (h ++ Began lane line op ∷ []) (length h) op next;
    then_ = for-cut m (h ++ Began lane line op ∷ []) (length h) op next new (λ slot size is.
        subst (λ (o : Op). Then m (h ++ Began lane line o ∷ []) (length h) o size next new) (sym is)
        (cut-begins m mounted h lane line slot size wsize turn old next new after given (subst (λ (o : Op). Starts wsize (machine_of mounted lane o) turn old next new after) is s)));
  };
  resumes = λ h x op machine wsize turn old next new after kept story r. record {
    shelf = tt;
    asks = asks-none h x op next;
    then_ = for-cut m h x op next new (λ slot size is. cut-goes-on m h x op size machine wsize turn old next new after (story slot size is) r);
  };
  takes = λ h x op machine wsize sent turn came old next new after others kept story one told t. record {
    shelf = tt;
    asks = asks-none h x op next;
    then_ = for-cut m h x op next new (λ slot size is.
        cut-hears m h x op size machine wsize sent turn came old next new after told.told.call (story slot size is) told.told.expects (λ reply came_is. (told.told.heard reply came_is).ends) t);
  };
  seen = λ h e sent call shelf found. tt;
  still = λ h e shelf kept. tt;
  waits = λ h e x op call w. tt;
  grows = λ h e x op state quiet story slot size is. state-later m h e x op size state quiet (story slot size is);
  lost = λ h x op shown slot size is. tt;
}

pub truncates-ok : TruncatesOk
truncates-ok m terms setup h v g lane x slot size y value ended =
    let op : Op = ops.Truncate slot size in
    let s = reached-answered (machine_of m) (begins-unbegun m) setup (Given terms.modes) (is-given terms.modes m g.nocto setup) NoSeen (λ k w r found may xid waiting waits made. tt) Cuts cuts-laws NoWait NoShelf (Story terms.modes)
    (cut-laws terms.modes m setup) h v g.reaches lane x op y (answers.Done value) ended in
    subst (λ (k : List Entry). OkRow terms k lane x y op value) (sym s.is) (by s.before s.after s.there (s.story slot size refl))
  where
    by : (before after : List Entry) → length before ≡ y → CutEnds terms.modes before x (ops.Truncate slot size) size value → OkRow terms (before ++ after) lane x y (ops.Truncate slot size) value
    by before after there k =
        let held = always-later (λ (g : List Entry). (d : Held terms.modes g x (ops.Truncate slot size)) × (d.o.file ≡ k.held.o.file))
        (λ g e d. (held-later terms.modes g e x (ops.Truncate slot size) d.0, d.1)) before after (k.held, refl) in
        record {
          call = truncates.size_call k.held.o.file size;
          reply = replies.File (kept.SetAttr k.wcc);
          acts = asks.cuts slot size k.held.o.file refl (record {
            lane = held.0.lane;
            line = held.0.line;
            slot = held.0.slot;
            open_at = held.0.held.x;
            began = held.0.began;
            works_on = held.0.works_on;
            holds = subst (λ (f : List ℕ). InSlot terms.modes (before ++ after) x held.0.lane held.0.slot held.0.held.x f) held.1 held.0.held.holds;
          }) refl;
          ends = ends-until before after x y _ _ there k.ends;
          went = refl;
          gives = k.gives;
        }
