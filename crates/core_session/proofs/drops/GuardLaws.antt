-- What guards a written byte, along the steps of lanes: of a close, of another operation, and of one that begins.
use Rattle.core_session.proofs.Prelude.{◌≡◌, ◌⊎◌, ◌≤◌, ◌+◌, ◌-◌, inl, inr, ℕ, List, Some, None, position, slice_get, slice_set, Result, Err, refl, sym, ap, subst, ◌∙◌, arith, Opened, Place, Opens, IsOpen, Waiting, waiting_at, Answer, Fault, Entry, Reply, Op, Modes, said_of, Step, Send, Wait, Done, Shelf, Turn, CloseFile, Closing, Removal, Saving, Machine, Resumes, Takes, Lane, Purpose, State, Busy, Setup, is_busy, IsRefused, Stirs, TakesAt, View, turn_at, in_flight, AreApart, IsLive, taken_one, Known, taker-one, lanes-under-way, Kind, plainly, kind_of, IsFirst, save_in, IsSaving, IsGuarded}
use Rattle.core_facts.proofs.Slots.{opening, closing}
use Rattle.std.specs.FinMap as finite
use Rattle.open_files.proofs.Laws.{get-put_other}
use Rattle.world_model.specs.declared.answer.Answer.TheVariants as answers
use Rattle.file_ops.specs.declared.close_file.Closing.TheVariants as closings
use Rattle.op_machines.specs.declared.file_machine.FileMachine.TheVariants as files
use Rattle.op_machines.specs.declared.machine.Machine.TheVariants as machines
use Rattle.core_facts.proofs.OpenSlots.{OpenTook, table_stays, puts_open, opener-takes, plain-takes}
use Rattle.core_session.proofs.drops.AllCounted.{up-resumes, up-takes}
use Rattle.core_session.proofs.drops.Closers.{ClosingAt}
use Rattle.core_session.proofs.drops.CloseGoes.{GoesAs, saves_on, freed, removes, OnItsWay, EndsAs, CloserGoes, both-in, StateOf, goes-resumes, goes-takes}
use Rattle.core_session.proofs.drops.Drops.{LaneTold}
use Rattle.core_session.proofs.drops.Dropping.{file-open}
use Rattle.core_session.proofs.drops.Guards.{Ranked, WentOn, CloserWent, Stepping, CloserStep, OtherStep, LetGo, closing-save, other-ranked, other-guarded, closer-ranked, closer-guarded}
use Rattle.core_session.proofs.drops.Laws.{DropsKnown, close-turn, close-first}
use Rattle.core_session.proofs.drops.Leading.{Leading, settles, unmade, Settles, stirs-led, takes-led}
use Rattle.core_session.proofs.drops.Ranks.{BeforeStays, before-take, GoesBefore, goes-resume, goes-take, none-before}
use Rattle.core_session.proofs.drops.SlotKinds.{IsCloserOf, KindTold, MachineThen, CloserStepped, CloserState, CloserLed, closer-led, close-goes, close-hears, OtherTold, OtherState, other-led, other-goes, other-hears}

-- ---- two steps, one after the other

some-saving : (a b : Saving) → Some a ≡ Some b → a ≡ b
some-saving a b e = cc

some-removal : (a b : Removal) → Some a ≡ Some b → a ≡ b
some-removal a b e = cc

close-one : (a b : CloseFile) → machines.File (files.Close a) ≡ machines.File (files.Close b) → a ≡ b
close-one a b e = cc

goes-then : (file : List ℕ) (at mid state : Closing) (a b c : Opens) → GoesAs file at mid a b → GoesAs file mid state b c → GoesAs file at state a c
goes-then file at mid state a b c (saves_on s t one two) (saves_on u w three four) = saves_on s w one four
goes-then file at mid state a b c (saves_on s t one two) (freed u r three four none) = freed s r one four none
goes-then file at mid state a b c (saves_on s t one two) (removes r three four five) = absurd (both-in mid t r two three)
goes-then file at mid state a b c (freed s r one two none) (saves_on u w three four) = absurd (both-in mid u r three two)
goes-then file at mid state a b c (freed s r one two none) (freed u q three four other) = absurd (both-in mid u r three two)
goes-then file at mid state a b c (freed s r one two none) (removes q three four same) = freed s q one four (λ o. none (subst (λ (t : Opens). IsOpen t file) same o))
goes-then file at mid state a b c (removes r one two same) (saves_on u w three four) = absurd (both-in mid u r three two)
goes-then file at mid state a b c (removes r one two same) (freed u q three four none) = absurd (both-in mid u r three two)
goes-then file at mid state a b c (removes r one two same) (removes q three four later) =
    removes q (one ∙ sym two ∙ three) four (later ∙ same)

ends-then : (file : List ℕ) (at mid : Closing) (answer : Answer) (a b c : Opens) → GoesAs file at mid a b → EndsAs file mid answer c → EndsAs file at answer c
ends-then file at mid (answers.Done value) a b c (saves_on s t one two) e = λ r is. absurd (both-in at s r one is)
ends-then file at mid (answers.Done value) a b c (freed s q one two none) e = λ r is. absurd (both-in at s r one is)
ends-then file at mid (answers.Done value) a b c (removes q one two same) e = λ r is. e r (two ∙ sym one ∙ is)
ends-then file at mid (answers.Refused fault) a b c g e = e

closing-state : (n its_slot : ℕ) (file : List ℕ) (upto : ℕ) (opens : Opens) (state : Closing) → ClosingAt n its_slot file upto opens state → StateOf n its_slot file upto state
closing-state n its_slot file upto opens closings.Idle a = a
closing-state n its_slot file upto opens (closings.Queued saving) a = a.0
closing-state n its_slot file upto opens (closings.Saves saving) a = a.0
closing-state n its_slot file upto opens (closings.ToRemove removal) a = a.0
closing-state n its_slot file upto opens (closings.Removing removal) a = a.0

-- ---- a close

abbrev pub MachineWent : ℕ → ℕ → List ℕ → ℕ → Closing → Shelf → Step → Machine → Shelf → Type 0
MachineWent n its_slot file upto at old (Send call) new after = WentOn n its_slot file upto at old new after
MachineWent n its_slot file upto at old Wait new after = WentOn n its_slot file upto at old new after
MachineWent n its_slot file upto at old (Done answer) new after = EndsAs file at answer after.opens

module _ (n its_slot : ℕ) (file : List ℕ) (upto : ℕ) (T : Type 0) where
  went-on : (at : Closing) (c : CloseFile) (state : Closing) (old : Shelf) (new : Machine) (after : Shelf) → new ≡ machines.File (files.Close (record c { state = state }))
      → OnItsWay file at state old after → IsCloserOf n its_slot file upto new after.opens → WentOn n its_slot file upto at old new after
  went-on at c state old new after is way k = record {
    c = k.c;
    is = k.is;
    slot_is = k.slot_is;
    way = subst (λ (d : CloseFile). OnItsWay file at d.state old after) (close-one (record c { state = state }) k.c (sym is ∙ k.is)) way;
    at_ = k.at;
  }

  pub to-went : (at : Closing) (c : CloseFile) (state : Closing) (old : Shelf) (next : Step) (new : Machine) (after : Shelf) → new ≡ machines.File (files.Close (record c { state = state }))
      → CloserGoes file at old next state after → MachineThen n its_slot file upto T after.opens next new → MachineWent n its_slot file upto at old next new after
  to-went at c state old (Send call) new after is g k = went-on at c state old new after is g k.0
  to-went at c state old Wait new after is g k = went-on at c state old new after is g k
  to-went at c state old (Done answer) new after is g k = g

  went-resumes : (machine : Machine) (wsize : ℕ) (turn : Turn) (old : Shelf) (next : Step) (new : Machine) (after : Shelf) (k : IsCloserOf n its_slot file upto machine old.opens)
      → Resumes wsize machine turn old next new after → MachineThen n its_slot file upto T after.opens next new → MachineWent n its_slot file upto k.c.state old next new after
  went-resumes machine wsize turn old next new after k s then_ = by (subst (λ (m : Machine). Resumes wsize m turn old next new after) k.is s)
    where
      by : Resumes wsize (machines.File (files.Close k.c)) turn old next new after → MachineWent n its_slot file upto k.c.state old next new after
      by r =
          to-went k.c.state k.c r.step.state old next new after (r.machine_is ∙ ap machines.File r.step.machine_is)
          (goes-resumes n its_slot file upto wsize k.c turn old next r.step.state after k.lane_is k.slot_is (closing-state n its_slot file upto old.opens k.c.state k.at) r.step.step) then_

  went-takes : (machine : Machine) (wsize : ℕ) (sent turn : Turn) (came : Result Reply Fault) (old : Shelf) (next : Step) (new : Machine) (after : Shelf)
      (k : IsCloserOf n its_slot file upto machine old.opens) → Takes wsize machine sent turn came old next new after → MachineThen n its_slot file upto T after.opens next new
      → MachineWent n its_slot file upto k.c.state old next new after
  went-takes machine wsize sent turn came old next new after k s then_ = by (subst (λ (m : Machine). Takes wsize m sent turn came old next new after) k.is s)
    where
      by : Takes wsize (machines.File (files.Close k.c)) sent turn came old next new after → MachineWent n its_slot file upto k.c.state old next new after
      by r =
          to-went k.c.state k.c r.step.state old next new after (r.machine_is ∙ ap machines.File r.step.machine_is)
          (goes-takes n its_slot file upto wsize k.c sent turn came old next r.step.state after k.lane_is k.slot_is (closing-state n its_slot file upto old.opens k.c.state k.at) r.step.step) then_

  -- a step of its lane
  module _ (wsize : ℕ) (at : Closing) (old : Shelf) (S : Step → Machine → Shelf → Type 0)
      (step : (next : Step) (new : Machine) (after : Shelf) → S next new after → CloserStepped n its_slot file upto T old.opens next new after.opens)
      (goes : (next : Step) (new : Machine) (after : Shelf) (s : S next new after) → MachineThen n its_slot file upto T after.opens next new → MachineWent n its_slot file upto at old next new after) where
    went-settled : (next : Step) (new : Machine) (state : State) (after : Shelf) → Settles next new state → MachineWent n its_slot file upto at old next new after
        → CloserWent n its_slot file upto at old state after
    went-settled (Send call) new state after is w = subst (λ (st : State). CloserWent n its_slot file upto at old st after) (sym is) w
    went-settled Wait new state after is w = subst (λ (st : State). CloserWent n its_slot file upto at old st after) (sym is) w
    went-settled (Done answer) new state after is w = subst (λ (st : State). CloserWent n its_slot file upto at old st after) (sym is) w

    went-refused : (mid : Closing) (between : Shelf) → OnItsWay file at mid old between → (next : Step) (new : Machine) (state : State) (after : Shelf) → IsRefused new next state
        → MachineWent n its_slot file upto mid between next new after → CloserWent n its_slot file upto at old state after
    went-refused mid between way (Send call) new state after is w = absurd is
    went-refused mid between way Wait new state after is w =
        subst (λ (st : State). CloserWent n its_slot file upto at old st after) (sym is) (record {
          c = w.c;
          is = w.is;
          slot_is = w.slot_is;
          way = record { order = w.way.order ∙ way.order; goes = goes-then file at mid w.c.state old.opens between.opens after.opens way.goes w.way.goes };
          at_ = w.at_;
        })
    went-refused mid between way (Done answer) new state after is w =
        subst (λ (st : State). CloserWent n its_slot file upto at old st after) (sym is) (ends-then file at mid answer old.opens between.opens after.opens way.goes w)

    pub went-led : (state : State) (after : Shelf) → Leading wsize S state after → CloserWent n its_slot file upto at old state after
    went-led state after (settles next new s is) = went-settled next new state after is (goes next new after s (step next new after s).then_)
    went-led state after (unmade call mid between sent turn fault next new s takes is) =
        let one = step (Send call) mid between s in
        let w = goes (Send call) mid between s one.then_ in
        let k : IsCloserOf n its_slot file upto mid between.opens = one.then_.0 in
        let two = close-hears n its_slot file upto T mid wsize sent turn (Err fault) between next new after one.then_.1 k takes in
        let way = subst (λ (d : CloseFile). OnItsWay file at d.state old between) (close-one w.c k.c (sym w.is ∙ k.is)) w.way in
        went-refused k.c.state between way next new state after is (went-takes mid wsize sent turn (Err fault) between next new after k takes two.then_)

-- ---- the order and the number of the last write

pub leading-up : (wsize : ℕ) (old : Shelf) (S : Step → Machine → Shelf → Type 0) → ((next : Step) (new : Machine) (after : Shelf) → S next new after → old.seq ≤ after.seq)
    → (state : State) (after : Shelf) → Leading wsize S state after → old.seq ≤ after.seq
leading-up wsize old S up state after (settles next new s is) = up next new after s
leading-up wsize old S up state after (unmade call mid between sent turn fault next new s takes is) =
    let one = up (Send call) mid between s in
    let two = up-takes mid wsize sent turn (Err fault) between next new after takes in
    omega (arith, one, two)

pub leading-before : (wsize lane : ℕ) (old : Shelf) (S : Step → Machine → Shelf → Type 0) → ((next : Step) (new : Machine) (after : Shelf) → S next new after → GoesBefore lane old.order next new after)
    → (state : State) (after : Shelf) → Leading wsize S state after → BeforeStays lane old.order after.order
leading-before wsize lane old S goes state after (settles next new s is) = (goes next new after s).before
leading-before wsize lane old S goes state after (unmade call mid between sent turn fault next new s takes is) =
    let one = goes (Send call) mid between s in
    let count = one.count call refl in
    let two = before-take wsize turn lane sent (Err fault) mid between next new after count.0 (one.live call refl) count.1 takes in
    λ file a b x y st. two file a b x y (one.before file a b x y st)

-- ---- another operation, at a record: what a slot holds it holds still

held-hears : (m : Modes) (n : ℕ) (kind : Kind) (machine : Machine) (wsize : ℕ) (sent turn : Turn) (came : Result Reply Fault) (old : Shelf) (next : Step) (new : Machine) (after : Shelf)
    → OtherTold m n kind machine → Takes wsize machine sent turn came old next new after
    → (q : Place) (o : Opened) → finite.get old.opens q ≡ Some o → finite.get after.opens q ≡ Some o
held-hears m n (opening its_slot mode) machine wsize sent turn came old next new after k s q o there = by (opener-takes m.nocto n its_slot mode machine wsize sent turn came old next new after k s)
  where
    by : OpenTook m.nocto n its_slot mode machine came old.opens next new after.opens → finite.get after.opens q ≡ Some o
    by (table_stays same t) = ap (λ (t : Opens). finite.get t q) same ∙ there
    by (puts_open of call free now mode_is is expects finds) =
        ap (λ (t : Opens). finite.get t q) now
        ∙ get-put_other old.opens (n, its_slot) q of (λ e. absurd (let no_way : None ≡ Some o = sym free ∙ ap (finite.get old.opens) (sym e) ∙ there in cc)) ∙ there
held-hears m n (closing its_slot) machine wsize sent turn came old next new after k s q o there = absurd k
held-hears m n plainly machine wsize sent turn came old next new after k s q o there =
    ap (λ (t : Opens). finite.get t q) (plain-takes machine wsize sent turn came old next new after k s).1 ∙ there

-- ---- the step of a lane

pub record StepOf (old new : View) : Type 0 where
  pub step : Stepping old new
  pub kind : CloserStep old new step ⊎ OtherStep old new step

apart-at : (lanes : List Lane) (at number : ℕ) (was : State) → AreApart lanes → slice_get lanes at ≡ Some (record { number = number; state = was })
    → (k : ℕ) (lane : Lane) → slice_get lanes k ≡ Some lane → lane.number ≡ number → k ≡ at
apart-at lanes at number was apart there k lane here same = apart k at lane (record { number = number; state = was }) here there same

busy-one : (a b : Machine) → Busy a ≡ Busy b → a ≡ b
busy-one a b e = cc

other-close : (m : Modes) (n : ℕ) (kind : Kind) (c : CloseFile) → OtherTold m n kind (machines.File (files.Close c)) → ⊥
other-close m n (opening its_slot mode) c o = let no_way : machines.File (files.Close c) ≡ machines.Path o.m = o.is in absurd cc
other-close m n (closing its_slot) c o = o
other-close m n plainly c o = o

pub other-now : (m : Modes) (n : ℕ) (kind : Kind) (c : CloseFile) → OtherState m n kind (Busy (machines.File (files.Close c))) → ⊥
other-now m n (opening its_slot mode) c o = let no_way : machines.File (files.Close c) ≡ machines.Path o.m = o.is in absurd cc
other-now m n (closing its_slot) c o = o
other-now m n plainly c o = o

module _ (m : Modes) (h : List Entry) (old new : View) (d : DropsKnown m h old) (apart : AreApart old.lanes) (at number : ℕ) (machine : Machine)
    (there : slice_get old.lanes at ≡ Some (record { number = number; state = Busy machine })) (state : State)
    (lanes_are : new.lanes ≡ slice_set old.lanes at (record { number = number; state = state })) (seq : old.shelf.seq ≤ new.shelf.seq)
    (before : BeforeStays number old.shelf.order new.shelf.order) where
  pub close-stepped : (its_slot : ℕ) (file : List ℕ) (upto : ℕ) (k : IsCloserOf number its_slot file upto machine old.shelf.opens)
      → CloserLed number its_slot file upto (IsFirst number old.shelf.order) old.shelf.opens state new.shelf.opens
      → CloserWent number its_slot file upto k.c.state old.shelf state new.shelf → StepOf old new
  close-stepped its_slot file upto k led went = record {
    step = record {
      at = at;
      number = number;
      was = Busy machine;
      state = state;
      there = there;
      lanes_are = lanes_are;
      apart = apart-at old.lanes at number (Busy machine) apart there;
      seq = seq;
      before = before;
    };
    kind = inl (record {
      c = k.c;
      its_slot = its_slot;
      file = file;
      upto = upto;
      was_is = ap Busy k.is;
      slot_is = k.slot_is;
      at_ = k.at;
      went = went;
      rest = led.rest;
      first = λ fault is. (subst (λ (st : State). CloserState number its_slot file upto (IsFirst number old.shelf.order) new.shelf.opens st) is led.then_).first;
    });
  }

  pub other-stepped : (kind : Kind) → OtherTold m number kind machine → OtherState m number kind state
      → ((q : Place) (o : Opened) → finite.get old.shelf.opens q ≡ Some o → finite.get new.shelf.opens q ≡ Some o) → StepOf old new
  other-stepped kind told now held = record {
    step = record {
      at = at;
      number = number;
      was = Busy machine;
      state = state;
      there = there;
      lanes_are = lanes_are;
      apart = apart-at old.lanes at number (Busy machine) apart there;
      seq = seq;
      before = before;
    };
    kind = inr (record {
      was_none = λ c is. other-close m number kind c (subst (OtherTold m number kind) (busy-one machine (machines.File (files.Close c)) is) told);
      is_none = λ c is. other-now m number kind c (subst (OtherState m number kind) is now);
      held = held;
    });
  }

module _ (setup : Setup) (m : Modes) (h : List Entry) (old new : View) (known : Known setup h old) (d : DropsKnown m h old) where
  old-apart : AreApart old.lanes
  old-apart = (lanes-under-way h old known.lanes).apart

  pub stirs-step : (at : ℕ) → Stirs old at new → StepOf old new
  stirs-step at t = by (kind_of told.op) told.told
    where
      told : LaneTold m h t.number (Busy t.machine) old.shelf.opens
      told = d.lanes at (record { number = t.number; state = Busy t.machine }) t.there

      live : IsLive t.number t.machine
      live = (d.turned.placed.live at (record { number = t.number; state = Busy t.machine }) t.there).live

      seq : old.shelf.seq ≤ new.shelf.seq
      seq =
          let l = stirs-led old new at t in
          leading-up old.wsize old.shelf (λ next machine shelf. Resumes old.wsize t.machine (turn_at old) old.shelf next machine shelf)
          (λ next new after s. up-resumes t.machine old.wsize (turn_at old) old.shelf next new after s) l.state new.shelf l.leading

      before : BeforeStays t.number old.shelf.order new.shelf.order
      before =
          let l = stirs-led old new at t in
          leading-before old.wsize t.number old.shelf (λ next machine shelf. Resumes old.wsize t.machine (turn_at old) old.shelf next machine shelf)
          (λ next new after s. goes-resume old.wsize (turn_at old) t.number t.machine old.shelf next new after live
          (known.known.right at (record { number = t.number; state = Busy t.machine }) t.there) s) l.state new.shelf l.leading

      quietly : (kind : Kind) → OtherTold m t.number kind t.machine → StepOf old new
      quietly kind o =
          let l = stirs-led old new at t in
          let k = other-led m t.number kind old.wsize old.shelf.opens (λ opens. opens ≡ old.shelf.opens) (λ next machine shelf. Resumes old.wsize t.machine (turn_at old) old.shelf next machine shelf)
          (λ next machine shelf s. other-goes m t.number kind t.machine old.wsize (turn_at old) old.shelf next machine shelf o s) l.state new.shelf l.leading in
          other-stepped m h old new d old-apart at t.number t.machine t.there l.state l.lanes_are seq before kind o k.0 (λ q of there. ap (λ (t : Opens). finite.get t q) k.1 ∙ there)

      by : (kind : Kind) → KindTold m h told.x t.number kind t.machine old.shelf.opens → StepOf old new
      by (opening its_slot mode) o = quietly (opening its_slot mode) o
      by plainly o = quietly plainly o
      by (closing its_slot) k =
          let l = stirs-led old new at t in
          let turn = d.turned.turns at (record { number = t.number; state = Busy t.machine }) t.there in
          let step = λ (next : Step) (machine : Machine) (shelf : Shelf) (s : Resumes old.wsize t.machine (turn_at old) old.shelf next machine shelf).
          close-goes t.number its_slot k.file k.upto (IsFirst t.number old.shelf.order) t.machine old.wsize (turn_at old) old.shelf next machine shelf (λ first. first)
          (λ c is of_lane. close-turn t.number old.shelf.order t.machine c is of_lane turn) k.closer s in
          let led = closer-led t.number its_slot k.file k.upto (IsFirst t.number old.shelf.order) old.wsize old.shelf.opens
          (λ next machine shelf. Resumes old.wsize t.machine (turn_at old) old.shelf next machine shelf) step l.state new.shelf l.leading in
          let went = went-led t.number its_slot k.file k.upto (IsFirst t.number old.shelf.order) old.wsize k.closer.c.state old.shelf
          (λ next machine shelf. Resumes old.wsize t.machine (turn_at old) old.shelf next machine shelf) step
          (λ next machine shelf s then_. went-resumes t.number its_slot k.file k.upto (IsFirst t.number old.shelf.order) t.machine old.wsize (turn_at old) old.shelf next machine shelf k.closer s then_)
          l.state new.shelf l.leading in
          close-stepped m h old new d old-apart at t.number t.machine t.there l.state l.lanes_are seq before its_slot k.file k.upto k.closer led went

  pub takes-step : (rec : List ℕ) (xid : ℕ) (call : Waiting Purpose) (at : ℕ) → waiting_at xid old.calls.calls ≡ Some call → position (is_busy call.purpose.lane) old.lanes ≡ Some at
      → TakesAt (taken_one old xid) at call.purpose.sent (said_of call.purpose.proc rec) new → StepOf old new
  takes-step rec xid call at waits there t = by (kind_of told.op) told.told
    where
      told : LaneTold m h t.number (Busy t.machine) old.shelf.opens
      told = d.lanes at (record { number = t.number; state = Busy t.machine }) t.there

      live : IsLive t.number t.machine
      live = (d.turned.placed.live at (record { number = t.number; state = Busy t.machine }) t.there).live

      one : in_flight t.machine ≡ (in_flight t.machine - 1) + 1
      one = taker-one setup h old xid call at known waits there t.number t.machine t.there

      seq : old.shelf.seq ≤ new.shelf.seq
      seq =
          let l = takes-led (taken_one old xid) new at call.purpose.sent (said_of call.purpose.proc rec) t in
          leading-up old.wsize old.shelf (λ next machine shelf. Takes old.wsize t.machine call.purpose.sent (turn_at (taken_one old xid)) (said_of call.purpose.proc rec) old.shelf next machine shelf)
          (λ next new after s. up-takes t.machine old.wsize call.purpose.sent (turn_at (taken_one old xid)) (said_of call.purpose.proc rec) old.shelf next new after s) l.state new.shelf l.leading

      before : BeforeStays t.number old.shelf.order new.shelf.order
      before =
          let l = takes-led (taken_one old xid) new at call.purpose.sent (said_of call.purpose.proc rec) t in
          leading-before old.wsize t.number old.shelf
          (λ next machine shelf. Takes old.wsize t.machine call.purpose.sent (turn_at (taken_one old xid)) (said_of call.purpose.proc rec) old.shelf next machine shelf)
          (λ next new after s. goes-take old.wsize (turn_at (taken_one old xid)) t.number call.purpose.sent (said_of call.purpose.proc rec) t.machine old.shelf next new after (in_flight t.machine - 1) live
          (known.known.right at (record { number = t.number; state = Busy t.machine }) t.there) one s) l.state new.shelf l.leading

      quietly : (kind : Kind) → OtherTold m t.number kind t.machine → StepOf old new
      quietly kind o =
          let l = takes-led (taken_one old xid) new at call.purpose.sent (said_of call.purpose.proc rec) t in
          let k = other-led m t.number kind old.wsize old.shelf.opens (λ opens. (q : Place) (of : Opened) → finite.get old.shelf.opens q ≡ Some of → finite.get opens q ≡ Some of)
          (λ next machine shelf. Takes old.wsize t.machine call.purpose.sent (turn_at (taken_one old xid)) (said_of call.purpose.proc rec) old.shelf next machine shelf)
          (λ next machine shelf s. (
            (other-hears m t.number kind t.machine old.wsize call.purpose.sent (turn_at (taken_one old xid)) (said_of call.purpose.proc rec) old.shelf next machine shelf o s).0,
            held-hears m t.number kind t.machine old.wsize call.purpose.sent (turn_at (taken_one old xid)) (said_of call.purpose.proc rec) old.shelf next machine shelf o s,
          )) l.state new.shelf l.leading in
          other-stepped m h old new d old-apart at t.number t.machine t.there l.state l.lanes_are seq before kind o k.0 k.1

      by : (kind : Kind) → KindTold m h told.x t.number kind t.machine old.shelf.opens → StepOf old new
      by (opening its_slot mode) o = quietly (opening its_slot mode) o
      by plainly o = quietly plainly o
      by (closing its_slot) k =
          let l = takes-led (taken_one old xid) new at call.purpose.sent (said_of call.purpose.proc rec) t in
          let turn = d.turned.turns at (record { number = t.number; state = Busy t.machine }) t.there in
          let first = close-first t.number old.shelf.order t.machine k.closer.c (in_flight t.machine - 1) k.closer.is k.closer.lane_is turn one in
          let step = λ (next : Step) (machine : Machine) (shelf : Shelf)
          (s : Takes old.wsize t.machine call.purpose.sent (turn_at (taken_one old xid)) (said_of call.purpose.proc rec) old.shelf next machine shelf).
          close-hears t.number its_slot k.file k.upto (IsFirst t.number old.shelf.order) t.machine old.wsize call.purpose.sent (turn_at (taken_one old xid)) (said_of call.purpose.proc rec)
          old.shelf next machine shelf first k.closer s in
          let led = closer-led t.number its_slot k.file k.upto (IsFirst t.number old.shelf.order) old.wsize old.shelf.opens
          (λ next machine shelf. Takes old.wsize t.machine call.purpose.sent (turn_at (taken_one old xid)) (said_of call.purpose.proc rec) old.shelf next machine shelf) step l.state new.shelf l.leading in
          let went = went-led t.number its_slot k.file k.upto (IsFirst t.number old.shelf.order) old.wsize k.closer.c.state old.shelf
          (λ next machine shelf. Takes old.wsize t.machine call.purpose.sent (turn_at (taken_one old xid)) (said_of call.purpose.proc rec) old.shelf next machine shelf) step
          (λ next machine shelf s then_. went-takes t.number its_slot k.file k.upto (IsFirst t.number old.shelf.order) t.machine old.wsize call.purpose.sent (turn_at (taken_one old xid))
          (said_of call.purpose.proc rec) old.shelf next machine shelf k.closer s then_)
          l.state new.shelf l.leading in
          close-stepped m h old new d old-apart at t.number t.machine t.there l.state l.lanes_are seq before its_slot k.file k.upto k.closer led went

-- ---- the laws

-- a close that saves has its slot
pub saving-open : (m : Modes) (h : List Entry) (v : View) → DropsKnown m h v → (l : ℕ) (c : CloseFile) (file : List ℕ) (u : ℕ) → IsSaving v l c file u → IsOpen v.shelf.opens file
saving-open m h v d l c file u i = by told.op told.told
  where
    told : LaneTold m h l (Busy (machines.File (files.Close c))) v.shelf.opens
    told = d.lanes i.close.at (record { number = l; state = Busy (machines.File (files.Close c)) }) i.close.there

    of-kind : (kind : Kind) → KindTold m h told.x l kind (machines.File (files.Close c)) v.shelf.opens → IsOpen v.shelf.opens file
    of-kind (opening its_slot mode) o = let no_way : machines.File (files.Close c) ≡ machines.Path o.m = o.is in absurd cc
    of-kind plainly o = absurd o
    of-kind (closing its_slot) k =
        let same = close-one c k.closer.c k.closer.is in
        let so = closing-save l its_slot k.file k.upto v.shelf.opens k.closer.c.state i.save k.closer.at (ap (λ (d : CloseFile). save_in d.state) (sym same) ∙ i.is) in
        subst (IsOpen v.shelf.opens) (sym so.0.file_is ∙ i.file_is) (file-open v.shelf.opens l its_slot k.file so.1)

    by : (op : Op) → KindTold m h told.x l (kind_of op) (machines.File (files.Close c)) v.shelf.opens → IsOpen v.shelf.opens file
    by op k = of-kind (kind_of op) k

pub ranked-step : (old new : View) → StepOf old new → Ranked old → Ranked new
ranked-step old new s r = by s.kind
  where
    by : CloserStep old new s.step ⊎ OtherStep old new s.step → Ranked new
    by (inl k) = closer-ranked old new s.step k r
    by (inr o) = other-ranked old new s.step o r

pub guarded-step : (m : Modes) (h g : List Entry) (old new : View) (number : ℕ) (file : List ℕ) (s : StepOf old new) → DropsKnown m h old → DropsKnown m g new → Ranked old
    → IsGuarded number old file → IsGuarded number new file ⊎ LetGo number file old new s.step
guarded-step m h g old new number file s d later r guard = by s.kind
  where
    by : CloserStep old new s.step ⊎ OtherStep old new s.step → IsGuarded number new file ⊎ LetGo number file old new s.step
    by (inl k) =
        closer-guarded old new s.step k r
        (λ fault l is st. none-before _ old.shelf.order d.turned.placed.sits k.file l s.step.number (k.first fault is) st) number file
        (λ l c u i. saving-open m g new later l c file u i) guard
    by (inr o) = inl (other-guarded old new s.step o number file guard)
