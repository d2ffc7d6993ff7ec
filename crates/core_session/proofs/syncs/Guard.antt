-- What a step of a lane makes of what guards a byte: it is guarded still, or a close saved it, or one gave it up.
use Rattle.core_session.proofs.Prelude.{◌≡◌, ◌≢◌, ◌≤◌, ◌⊎◌, inl, inr, ℕ, Bool, true, false, nat_eq, List, length, Option, Some, None, slice_get, refl, sym, ap, ◌∙◌, option_map, Result, Err, eqb-true, eqb-false, IsOpen, Fault, Value, Entry, Modes, file_at, CloseFile, Closing, Removal, Saving, Machine, Lane, State, Busy, Over, Stirs, TakesAt, StartsLane, View, turn_at, AreApart, Turned, IsPast, IsOwed, IsGuarded, slot, past, IsClose, save_in, removal_in, file_in, IsSaving, LetsGo, seat_close, Opened, Reply, Step, Send, Wait, Done, Shelf, Turn, Resumes, Takes, Starts, at-set, at-push, IsPlain}
use Rattle.core_facts.proofs.OpenSlots.{plain-starts, plain-resumes, plain-takes}
use Rattle.world_model.specs.declared.answer.Answer.TheVariants as answers
use Rattle.file_ops.specs.declared.close_file.Closing.TheVariants as closings
use Rattle.op_machines.specs.declared.file_machine.FileMachine.TheVariants as files
use Rattle.op_machines.specs.declared.machine.Machine.TheVariants as machines
use Rattle.core_session.specs.drops.Told as told
use Rattle.core_session.proofs.drops.CloseGoes.{both-in}
use Rattle.core_session.proofs.drops.Giving.{past-at}
use Rattle.core_session.proofs.drops.Guards.{Ranked, Stepping, LetGo, own-now}
use Rattle.core_session.proofs.drops.Guards as guards
use Rattle.core_session.proofs.drops.GuardLaws.{StepOf, guarded-step}
use Rattle.core_session.proofs.drops.LaneIs.{state-is, busy-over}
use Rattle.core_session.proofs.drops.Laws.{DropsKnown, OneStepped}
use Rattle.core_session.proofs.syncs.AllJobs.{job_save}
use Rattle.core_session.proofs.syncs.Jobs.{closing_save}
use Rattle.core_session.proofs.syncs.Pasts.{IsAhead}
use Rattle.std.specs.FinMap as finite
use Rattle.core_session.proofs.drops.DropLaws.{given-step}
use Rattle.core_session.proofs.drops.Leading.{Leading, settles, unmade, stirs-led, takes-led, starts-led}
use Rattle.core_session.proofs.drops.Shown.{was-close, now-over}
use Rattle.core_session.proofs.syncs.Fates.{job_kind, start-kind, resume-kind, take-kind}

-- ---- a close that past its sync is ahead of others

one-removal : (a b : Removal) → Some a ≡ Some b → a ≡ b
one-removal a b e = cc

removal-past : (state : Closing) (r : Removal) (f : List ℕ) → removal_in state ≡ Some r → r.file ≡ f → IsPast f state
removal-past closings.Idle r f is same = absurd (let no_way : None ≡ Some r = is in cc)
removal-past (closings.Queued saving) r f is same = absurd (let no_way : None ≡ Some r = is in cc)
removal-past (closings.Saves saving) r f is same = absurd (let no_way : None ≡ Some r = is in cc)
removal-past (closings.ToRemove removal) r f is same = ap (λ (q : Removal). q.file) (one-removal removal r is) ∙ same
removal-past (closings.Removing removal) r f is same = ap (λ (q : Removal). q.file) (one-removal removal r is) ∙ same

past-bare : (c : CloseFile) (state : Closing) (f : List ℕ) → c.state ≡ state → IsPast f state → job_save (machines.File (files.Close c)) ≡ None
past-bare c closings.Idle f is p = absurd p
past-bare c (closings.Queued saving) f is p = absurd p
past-bare c (closings.Saves saving) f is p = absurd p
past-bare c (closings.ToRemove removal) f is p = ap closing_save is
past-bare c (closings.Removing removal) f is p = ap closing_save is

past-seat : (c : CloseFile) (state : Closing) (f : List ℕ) → c.state ≡ state → IsPast f state → seat_close c.state ≡ Some f
past-seat c closings.Idle f is p = absurd p
past-seat c (closings.Queued saving) f is p = absurd p
past-seat c (closings.Saves saving) f is p = absurd p
past-seat c (closings.ToRemove removal) f is p = ap seat_close is ∙ ap Some p
past-seat c (closings.Removing removal) f is p = ap seat_close is ∙ ap Some p

-- ---- what is guarded, by a slot or by such a close

pub data GuardView (f : List ℕ) (v : View) : Type 0 where
  by_slot : IsOpen v.shelf.opens f → GuardView f v
  by_close : (c : CloseFile) (a : IsAhead f v.lanes v.shelf.order) → a.machine ≡ machines.File (files.Close c) → GuardView f v

pub guard-view : (number : ℕ) (f : List ℕ) (v : View) → Turned v → AreApart v.lanes → IsGuarded number v f → GuardView f v
guard-view number f v turned apart (slot place of there same all) = by_slot (record { place = place; of = of; there = there; same = same })
guard-view number f v turned apart (past n c removal fault close gone same refused all) =
    let it = removal-past c.state removal f gone same in
    by_close c (record {
      at = close.at;
      n = n;
      machine = machines.File (files.Close c);
      there = close.there;
      kind = refl;
      bare = past-bare c c.state f refl it;
      seat = past-seat c c.state f refl it;
      first = (past-at v close.at n c f turned apart close.there it).first;
    }) refl

-- ---- the step of a lane

-- as it was let go, with the lane's states
let-go : (number : ℕ) (f : List ℕ) (v w : View) (s : Stepping v w) → LetGo number f v w s → LetsGo number f v w
let-go number f v w s (guards.saved c save was saves file enough (inl over)) =
    told.saved s.at s.number c save over.0
    (record { before = s.there ∙ ap (λ (st : State). Some (record { number = s.number; state = st })) was; after = own-now v w s ∙ ap (λ (st : State). Some (record { number = s.number; state = st })) over.1 })
    saves file enough
let-go number f v w s (guards.saved c save was saves file enough (inr (d, removal, is, gone, well))) =
    told.removes s.at s.number c d save removal
    (record { before = s.there ∙ ap (λ (st : State). Some (record { number = s.number; state = st })) was; after = own-now v w s ∙ ap (λ (st : State). Some (record { number = s.number; state = st })) is })
    saves file enough gone well
let-go number f v w s (guards.gave c fault was is file shut) =
    told.gave s.at s.number c fault
    (record { before = s.there ∙ ap (λ (st : State). Some (record { number = s.number; state = st })) was; after = own-now v w s ∙ ap (λ (st : State). Some (record { number = s.number; state = st })) is })
    file shut

let-go-or : (number : ℕ) (f : List ℕ) (v w : View) (s : StepOf v w) → IsGuarded number w f ⊎ LetGo number f v w s.step → IsGuarded number w f ⊎ LetsGo number f v w
let-go-or number f v w s (inl i) = inl i
let-go-or number f v w s (inr l) = inr (let-go number f v w s.step l)

pub guard-step : (m : Modes) (h g : List Entry) (old new : View) (number : ℕ) (f : List ℕ) (s : StepOf old new) → DropsKnown m h old → DropsKnown m g new → Ranked old → IsGuarded number old f
    → IsGuarded number new f ⊎ LetsGo number f old new
guard-step m h g old new number f s d later r guard = let-go-or number f old new s (guarded-step m h g old new number f s d later r guard)

-- ---- of the lane that made the step

-- its close saved what came with the number, and its save ended well
pub data SavesWell (number : ℕ) (f : List ℕ) (machine : Machine) (state : State) : Type 0 where
  ends : (c : CloseFile) (save : Saving) (value : Value) → machine ≡ machines.File (files.Close c) → save_in c.state ≡ Some save → save.file ≡ f → number ≤ save.upto
      → state ≡ Over (answers.Done value) → SavesWell number f machine state
  goes_on : (c d : CloseFile) (save : Saving) (removal : Removal) → machine ≡ machines.File (files.Close c) → save_in c.state ≡ Some save → save.file ≡ f → number ≤ save.upto
      → state ≡ Busy (machines.File (files.Close d)) → removal_in d.state ≡ Some removal → removal.refusal ≡ None → SavesWell number f machine state

-- or it was refused, and no slot holds the file
pub record GaveIt (f : List ℕ) (old new : View) (machine : Machine) (state : State) : Type 0 where
  pub at : ℕ
  pub n : ℕ
  pub c : CloseFile
  pub fault : Fault
  pub turned : told.Turned old new at n (Busy (machines.File (files.Close c))) (Over (answers.Refused fault))
  pub is : machine ≡ machines.File (files.Close c)
  pub ended : state ≡ Over (answers.Refused fault)
  pub file : file_in c.state ≡ Some f
  pub shut : IsOpen new.shelf.opens f → ⊥

close-one : (a b : CloseFile) → Busy (machines.File (files.Close a)) ≡ Busy (machines.File (files.Close b)) → a ≡ b
close-one a b e = cc

busy-one : (a b : Machine) → Busy a ≡ Busy b → a ≡ b
busy-one a b e = cc

module _ (number : ℕ) (f : List ℕ) (old new : View) (at n : ℕ) (machine : Machine) (state : State) (there : slice_get old.lanes at ≡ Some (record { number = n; state = Busy machine }))
    (here : slice_get new.lanes at ≡ Some (record { number = n; state = state })) (others : (k : ℕ) (lane : Lane) → slice_get new.lanes k ≡ Some lane → k ≢ at → slice_get old.lanes k ≡ Some lane) where
  turned-here : (at_ n_ : ℕ) (was now : State) → told.Turned old new at_ n_ was now → was ≢ now → (Busy machine ≡ was) × (state ≡ now)
  turned-here at_ n_ was now t apart = by (nat_eq at_ at) refl
    where
      by : (b : Bool) → nat_eq at_ at ≡ b → (Busy machine ≡ was) × (state ≡ now)
      by true e =
          let same = eqb-true at_ at e in (
            state-is (Busy machine) was n n_ (sym there ∙ ap (slice_get old.lanes) (sym same) ∙ t.before),
            state-is state now n n_ (sym here ∙ ap (slice_get new.lanes) (sym same) ∙ t.after),
          )
      by false e = absurd (apart (state-is was now n_ n_ (sym t.before ∙ others at_ (record { number = n_; state = now }) t.after (eqb-false at_ at e))))

  pub loosed : LetsGo number f old new → SavesWell number f machine state ⊎ GaveIt f old new machine state
  loosed (told.saved at_ n_ c save value t saves file enough) =
      let l = turned-here at_ n_ (Busy (machines.File (files.Close c))) (Over (answers.Done value)) t (λ e. busy-over (machines.File (files.Close c)) (answers.Done value) e) in
      inl (ends c save value (busy-one machine (machines.File (files.Close c)) l.0) saves file enough l.1)
  loosed (told.removes at_ n_ c d save removal t saves file enough gone well) =
      let l = turned-here at_ n_ (Busy (machines.File (files.Close c))) (Busy (machines.File (files.Close d))) t
      (λ e. both-in c.state save removal saves (ap (λ (z : CloseFile). removal_in z.state) (close-one c d e) ∙ gone)) in
      inl (goes_on c d save removal (busy-one machine (machines.File (files.Close c)) l.0) saves file enough l.1 gone well)
  loosed (told.gave at_ n_ c fault t file shut) =
      let l = turned-here at_ n_ (Busy (machines.File (files.Close c))) (Over (answers.Refused fault)) t (λ e. busy-over (machines.File (files.Close c)) (answers.Refused fault) e) in
      inr (record { at = at_; n = n_; c = c; fault = fault; turned = t; is = busy-one machine (machines.File (files.Close c)) l.0; ended = l.1; file = file; shut = shut })

  -- another operation leaves it guarded
  pub still-guarded : ((c : CloseFile) → machine ≡ machines.File (files.Close c) → ⊥) → IsGuarded number new f ⊎ LetsGo number f old new → IsGuarded number new f
  still-guarded none (inl g) = g
  still-guarded none (inr l) = absurd (elim (loosed l) [ inl s ↦ of s | inr g ↦ none g.c g.is ])
    where
      of : SavesWell number f machine state → ⊥
      of (ends c save value is saves file enough st) = none c is
      of (goes_on c d save removal is saves file enough st gone fine) = none c is

seat-file : (state : Closing) (f : List ℕ) → file_in state ≡ Some f → seat_close state ≡ Some f
seat-file closings.Idle f is = is
seat-file (closings.Queued saving) f is = is
seat-file (closings.Saves saving) f is = is
seat-file (closings.ToRemove removal) f is = is
seat-file (closings.Removing removal) f is = is

-- then its answer is owed
pub owed-gave : (m : Modes) (h : List Entry) (old new : View) (machine : Machine) (state : State) (f : List ℕ) → OneStepped m h old new → Turned old → AreApart old.lanes → GaveIt f old new machine state → IsOwed m (length h) h new f
owed-gave m h old new machine state f s turned apart g =
    given-step m h old new s f g.c g.fault turned apart (was-close m h old new s apart g.at g.n g.c g.fault f g.turned) (seat-file g.c.state f g.file)
    (now-over m h old new s apart g.at g.n g.c g.fault f g.turned) g.shut

-- ---- a slot guards what comes to its file, where no close of the lane is under way

pub slot-guard : (number : ℕ) (f : List ℕ) (v : View) (n its_slot : ℕ) → ((c : CloseFile) → IsClose v n c → ⊥) → file_at n its_slot v.shelf.opens ≡ Some f → IsGuarded number v f
slot-guard number f v n its_slot none held = by (finite.get v.shelf.opens (n, its_slot)) refl held
  where
    some-file : (a b : List ℕ) → Some a ≡ Some b → a ≡ b
    some-file a b e = cc

    by : (o : Option Opened) → finite.get v.shelf.opens (n, its_slot) ≡ o → option_map (λ (k : Opened). k.file) o ≡ Some f → IsGuarded number v f
    by None there is = absurd (let no_way : None ≡ Some f = is in cc)
    by (Some o) there is = slot (n, its_slot) o there (some-file o.file f is) (λ c upto i e. absurd (none c i.close))

-- ---- an operation that neither opens nor closes a slot leaves the table

led-plain : (wsize : ℕ) (old : Shelf) (S : Step → Machine → Shelf → Type 0) → ((next : Step) (new : Machine) (after : Shelf) → S next new after → IsPlain new × (after.opens ≡ old.opens))
    → (state : State) (after : Shelf) → Leading wsize S state after → after.opens ≡ old.opens
led-plain wsize old S step state after (settles next new s is) = (step next new after s).1
led-plain wsize old S step state after (unmade call mid between sent turn fault next new s takes is) =
    let one = step (Send call) mid between s in
    (plain-takes mid wsize sent turn (Err fault) between next new after one.0 takes).1 ∙ one.1

pub stirs-plain : (old new : View) (at : ℕ) (t : Stirs old at new) → IsPlain t.machine → new.shelf.opens ≡ old.shelf.opens
stirs-plain old new at t plain =
    let l = stirs-led old new at t in
    led-plain old.wsize old.shelf (λ next machine shelf. Resumes old.wsize t.machine (turn_at old) old.shelf next machine shelf)
    (λ next machine shelf s. plain-resumes t.machine old.wsize (turn_at old) old.shelf next machine shelf plain s) l.state new.shelf l.leading

pub takes-plain : (old new : View) (at : ℕ) (sent : Turn) (came : Result Reply Fault) (t : TakesAt old at sent came new) → IsPlain t.machine → new.shelf.opens ≡ old.shelf.opens
takes-plain old new at sent came t plain =
    let l = takes-led old new at sent came t in
    led-plain old.wsize old.shelf (λ next machine shelf. Takes old.wsize t.machine sent (turn_at old) came old.shelf next machine shelf)
    (λ next machine shelf s. plain-takes t.machine old.wsize sent (turn_at old) came old.shelf next machine shelf plain s) l.state new.shelf l.leading

pub starts-plain : (old new : View) (number : ℕ) (machine : Machine) (t : StartsLane old number machine new) → IsPlain machine → new.shelf.opens ≡ old.shelf.opens
starts-plain old new number machine t plain =
    let l = starts-led old new number machine t in
    led-plain old.wsize old.shelf (λ next made shelf. Starts old.wsize machine (turn_at old) old.shelf next made shelf)
    (λ next made shelf s. plain-starts machine old.wsize (turn_at old) old.shelf next made shelf plain s) l.state new.shelf l.leading

-- ---- its kind stays

led-kind : (wsize k : ℕ) (S : Step → Machine → Shelf → Type 0) → ((next : Step) (new : Machine) (after : Shelf) → S next new after → job_kind new ≡ k) → (state : State) (after : Shelf)
    → Leading wsize S state after → (machine : Machine) → state ≡ Busy machine → job_kind machine ≡ k
led-kind wsize k S kinds state after (settles (Send call) new s st) machine is = ap job_kind (busy-one machine new (sym is ∙ st)) ∙ kinds (Send call) new after s
led-kind wsize k S kinds state after (settles Wait new s st) machine is = ap job_kind (busy-one machine new (sym is ∙ st)) ∙ kinds Wait new after s
led-kind wsize k S kinds state after (settles (Done answer) new s st) machine is = absurd (busy-over machine answer (sym is ∙ st))
led-kind wsize k S kinds state after (unmade call mid between sent turn fault (Send again) new s takes st) machine is = absurd st
led-kind wsize k S kinds state after (unmade call mid between sent turn fault Wait new s takes st) machine is =
    ap job_kind (busy-one machine new (sym is ∙ st)) ∙ take-kind wsize turn sent (Err fault) mid between Wait new after takes ∙ kinds (Send call) mid between s
led-kind wsize k S kinds state after (unmade call mid between sent turn fault (Done answer) new s takes st) machine is = absurd (busy-over machine answer (sym is ∙ st))

pub stirs-kind : (old new : View) (at : ℕ) (t : Stirs old at new) (number : ℕ) (machine : Machine) → slice_get new.lanes at ≡ Some (record { number = number; state = Busy machine }) → job_kind machine ≡ job_kind t.machine
stirs-kind old new at t number machine here =
    let l = stirs-led old new at t in
    led-kind old.wsize (job_kind t.machine) (λ next made shelf. Resumes old.wsize t.machine (turn_at old) old.shelf next made shelf)
    (λ next made shelf s. resume-kind old.wsize (turn_at old) t.machine old.shelf next made shelf s) l.state new.shelf l.leading machine
    (state-is l.state (Busy machine) t.number number
    (sym (at-set old.lanes at (record { number = t.number; state = Busy t.machine }) (record { number = t.number; state = l.state }) t.there) ∙ ap (λ (ls : List Lane). slice_get ls at) (sym l.lanes_are) ∙ here))

pub takes-kind : (old new : View) (at : ℕ) (sent : Turn) (came : Result Reply Fault) (t : TakesAt old at sent came new) (number : ℕ) (machine : Machine)
    → slice_get new.lanes at ≡ Some (record { number = number; state = Busy machine }) → job_kind machine ≡ job_kind t.machine
takes-kind old new at sent came t number machine here =
    let l = takes-led old new at sent came t in
    led-kind old.wsize (job_kind t.machine) (λ next made shelf. Takes old.wsize t.machine sent (turn_at old) came old.shelf next made shelf)
    (λ next made shelf s. take-kind old.wsize (turn_at old) sent came t.machine old.shelf next made shelf s) l.state new.shelf l.leading machine
    (state-is l.state (Busy machine) t.number number
    (sym (at-set old.lanes at (record { number = t.number; state = Busy t.machine }) (record { number = t.number; state = l.state }) t.there) ∙ ap (λ (ls : List Lane). slice_get ls at) (sym l.lanes_are) ∙ here))

pub starts-kind : (old new : View) (lane : ℕ) (begun : Machine) (t : StartsLane old lane begun new) (number : ℕ) (machine : Machine)
    → slice_get new.lanes (length old.lanes) ≡ Some (record { number = number; state = Busy machine }) → job_kind machine ≡ job_kind begun
starts-kind old new lane begun t number machine here =
    let l = starts-led old new lane begun t in
    led-kind old.wsize (job_kind begun) (λ next made shelf. Starts old.wsize begun (turn_at old) old.shelf next made shelf)
    (λ next made shelf s. start-kind old.wsize (turn_at old) begun old.shelf next made shelf s) l.state new.shelf l.leading machine
    (state-is l.state (Busy machine) lane number (sym (at-push old.lanes (record { number = lane; state = l.state })) ∙ ap (λ (ls : List Lane). slice_get ls (length old.lanes)) (sym l.lanes_are) ∙ here))

-- where lanes and shelf are the same
pub guarded-same : (number : ℕ) (f : List ℕ) (old new : View) → new.lanes ≡ old.lanes → new.shelf ≡ old.shelf → IsGuarded number old f → IsGuarded number new f
guarded-same number f old new lanes shelf g = by g
  where
    saving-was : (n : ℕ) (c : CloseFile) (file : List ℕ) (u : ℕ) → IsSaving new n c file u → IsSaving old n c file u
    saving-was n c file u i = record {
      close = record { at = i.close.at; there = ap (λ (ls : List Lane). slice_get ls i.close.at) (sym lanes) ∙ i.close.there };
      save = i.save;
      is = i.is;
      file_is = i.file_is;
      upto_is = i.upto_is;
    }

    by : IsGuarded number old f → IsGuarded number new f
    by (slot place of there same all) = slot place of (ap (λ (z : Shelf). finite.get z.opens place) shelf ∙ there) same (λ c upto i e. all c upto (saving-was place.0 c f upto i) e)
    by (past n c removal fault close gone same refused all) =
        past n c removal fault (record { at = close.at; there = ap (λ (ls : List Lane). slice_get ls close.at) lanes ∙ close.there }) gone same refused (λ l d upto i. all l d upto (saving-was l d f upto i))
