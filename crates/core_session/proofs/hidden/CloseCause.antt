-- A record that was sent for a close: this asks for its call, or the call is the REMOVE of the place where the file of its slot was hidden.
use Rattle.core_session.proofs.Prelude.{◌≡◌, ◌≤◌, ◌⊎◌, inl, inr, ℕ, List, [], ◌∷◌, ◌++◌, length, Some, refl, sym, subst, ◌∙◌, arith, Entry, Began, Call, Op, Asks, At, Rooted, UnderWay, IsOf, Terms, Rooted-wide, At-grow, At-below, At-one, length_last, Closing, Removal, remove_of, Mounted, FileMachine, Machine, machine_of, Busy, Setup, View, of_closing, in_flight, begins-unbegun, Held, held-later, always-later, Given, is-given, reached-slots, good-over, Expects, CloseNames, Saves, of-slot, WorksAt, SlotRuns, SlotStory, slot-laws, IsSession, IsPast}
use Rattle.claims.specs.Asks.{Stabilizes, HeldAlone, RemovesHidden}
use Rattle.core_answers.proofs.asks.SlotFiles.{CloseAt}
use Rattle.world_model.specs.declared.op.Op.TheVariants as ops
use Rattle.claims.specs.Asks as asks
use Rattle.claims.specs.Hidden.{HiddenAt}
use Rattle.file_ops.specs.declared.close_file.Closing.TheVariants as closing_states
use Rattle.op_machines.specs.declared.file_machine.FileMachine.TheVariants as files
use Rattle.op_machines.specs.declared.machine.Machine.TheVariants as machines
use Rattle.core_facts.proofs.Slots.{ClosingNow}
use Rattle.core_session.proofs.calls.Causes.{Now, Spelt, under-now}
use Rattle.core_session.proofs.calls.Outgoing.{Outgoing}
use Rattle.core_session.proofs.calls.TableHeld.{AllNoted}
use Rattle.core_session.proofs.drops.Growing.{slot-back}
use Rattle.core_session.specs.hidden.Hidden.{RemovesPlace}
use Rattle.core_session.proofs.hidden.AloneTales.{WasAlone, alone-where-noted}
use Rattle.core_session.proofs.hidden.HiddenTales.{Hidden, reached-hidden}
use Rattle.core_session.proofs.hidden.Places.{WasHidden, hidden-at}
use Rattle.core_session.proofs.hidden.Shut.{MachinePast}
use Rattle.core_session.proofs.hidden.SillySteps.{CloseHas, Removes}

-- ---- in a longer history

-- up to a later place
alone-wide : (terms : Terms) (h : List Entry) (x to more n s : ℕ) (f : List ℕ) → to ≤ more → HeldAlone terms h x to n s f → HeldAlone terms h x more n s f
alone-wide terms h x to more n s f wide k =
    let soon = k.moment.soon in
    record { n = k.n; moment = record { late = k.moment.late; soon = omega (arith, soon, wide) }; alone = k.alone }

alone-grow : (terms : Terms) (h more : List Entry) (x n s : ℕ) (f : List ℕ) → WasAlone terms h x n s f → HeldAlone terms (h ++ more) x (length h) n s f
alone-grow terms h more x n s f k = (always-later (λ g. (length h ≤ length g) × HeldAlone terms g x (length h) n s f) step h more (omega arith, k)).1
  where
    step : (g : List Entry) (e : Entry) → (length h ≤ length g) × HeldAlone terms g x (length h) n s f → (length h ≤ length (g ++ e ∷ [])) × HeldAlone terms (g ++ e ∷ []) x (length h) n s f
    step g e b =
        let low = b.0 in
        let soon = b.1.moment.soon in
        let more = length_last g e in (
          omega (arith, low, more),
          record {
            n = b.1.n;
            moment = b.1.moment;
            alone = λ other its open_at i. let was = slot-back terms.modes g e b.1.n other its open_at f (omega (arith, low, soon)) i in b.1.alone other its was.x was.holds;
          },
        )

file-one : (a b : FileMachine) → machines.File a ≡ machines.File b → a ≡ b
file-one a b e = cc

began-lane : (a b c d : ℕ) (o p : Op) → Began a b o ≡ Began c d p → c ≡ a
began-lane a b c d o p e = cc

some-slot : (a b : ℕ) → Some a ≡ Some b → a ≡ b
some-slot a b e = cc

module _ (m : Mounted) (terms : Terms) (setup : Setup) (h : List Entry) (v : View) (s : IsSession m terms setup h v) (i : ℕ) (bytes : List ℕ)
    (w : Outgoing (machine_of m) (begins-unbegun m) setup h i bytes) (slot : ℕ) (is : w.op ≡ ops.Close slot) where
  abbrev pub Its : Call
  Its = Spelt m terms setup h v s i bytes w

  abbrev pub For : Type 0
  For = Asks terms h w.x i (ops.Close slot) Its

  under : UnderWay w.before w.waiting.purpose.lane w.x (length w.before) (ops.Close slot)
  under = subst (UnderWay w.before w.waiting.purpose.lane w.x (length w.before)) is w.under_way

  -- ---- its machine, and the file of its slot

  pub runs : SlotRuns terms.modes w.before w.x (ops.Close slot) w.machine
  runs =
      (good-over (machine_of m) (begins-unbegun m) setup (Given terms.modes) (is-given terms.modes m s.goes.nocto setup) (SlotStory terms.modes) (slot-laws terms.modes m) w.before w.old
      w.reached w.at (record { number = w.waiting.purpose.lane; state = Busy w.machine }) w.busy).1 w.x (ops.Close slot) under tt

  abbrev pub File : List ℕ
  File = runs.held.o.file

  abbrev HeldOf : List Entry → Type 0
  HeldOf g = (k : Held terms.modes g w.x (ops.Close slot)) × (k.o.file ≡ File)

  of : IsOf terms.modes h w.x (ops.Close slot) File
  of =
      let later = always-later HeldOf (λ g e t. (held-later terms.modes g e w.x (ops.Close slot) t.0, t.1)) w.before w.after (runs.held, refl) in
      subst (λ (g : List Entry). IsOf terms.modes g w.x (ops.Close slot) File) (sym w.is)
      (subst (IsOf terms.modes (w.before ++ w.after) w.x (ops.Close slot)) later.1 (of-slot terms.modes (w.before ++ w.after) w.x (ops.Close slot) later.0))

  pub story : ClosingNow terms.modes w.before w.waiting.purpose.lane slot w.machine w.old.shelf.opens
  story =
      (reached-slots terms.modes m s.goes.nocto setup w.before w.old w.reached w.found).lanes w.at (record { number = w.waiting.purpose.lane; state = Busy w.machine }) w.busy w.x
      (ops.Close slot) under

  works : CloseAt File story.c.state
  works = subst (WorksAt (ops.Close slot) File) (file-one runs.of (files.Close story.c) (sym runs.is ∙ story.is)) runs.works

  names : CloseNames story.c.state Its
  names = (subst (λ (n : Machine). Expects n Its) story.is (Now m terms setup h v s i bytes w).expects).1

  some : 1 ≤ of_closing story.c.state
  some = subst (λ (n : Machine). 1 ≤ in_flight n) story.is w.some

  -- ---- what it asks for

  -- it is at the REMOVE of its file
  pub record RemovesNow : Type 0 where
    pub removal : Removal
    pub state_is : story.c.state ≡ closing_states.Removing removal
    pub file_is : removal.file ≡ File
    pub call_is : Its ≡ remove_of removal

  saves-asks : (f : List ℕ) → f ≡ File → Saves f Its → For
  saves-asks f same (inl k) = asks.writes f k.0.bytes k.0.offset k.0.how (subst (Stabilizes terms h w.x i (ops.Close slot)) (sym same) (asks.close slot refl of)) k.1
  saves-asks f same (inr k) = asks.commits f (subst (Stabilizes terms h w.x i (ops.Close slot)) (sym same) (asks.close slot refl of)) k

  by-state : (state : Closing) → story.c.state ≡ state → CloseAt File state → CloseNames state Its → 1 ≤ of_closing state → For ⊎ RemovesNow
  by-state closing_states.Idle at k e few = absurd (omega (arith, few))
  by-state (closing_states.Queued saving) at k e few = absurd (omega (arith, few))
  by-state (closing_states.Saves saving) at k e few = inl (saves-asks saving.file k e)
  by-state (closing_states.ToRemove removal) at k e few = absurd (omega (arith, few))
  by-state (closing_states.Removing removal) at k e few = inr (record { removal = removal; state_is = at; file_is = k; call_is = e })

  pub close-or : For ⊎ RemovesNow
  close-or = by-state story.c.state refl works names some

  -- ---- its place

  within : length w.before ≤ i
  within = let there = w.there in omega (arith, there)

  module _ (r : RemovesNow) where
    has : Hidden m w.before r.removal.file r.removal.dir r.removal.name
    has =
        let good = ((reached-hidden m setup w.before w.old w.reached).each w.at (record { number = w.waiting.purpose.lane; state = Busy w.machine }) w.busy).1 w.x w.op w.under_way in
        subst (CloseHas (Hidden m w.before)) r.state_is (subst (Removes (Hidden m w.before)) story.is good)

    place : WasHidden m.root w.before File r.removal.dir r.removal.name
    place = subst (λ (f : List ℕ). WasHidden m.root w.before f r.removal.dir r.removal.name) r.file_is has

    hidden : HiddenAt terms.origin h i File r.removal.dir r.removal.name
    hidden =
        let began : At h place.x (Began place.lane place.line (ops.Remove place.path)) =
        subst (λ (g : List Entry). At g place.x (Began place.lane place.line (ops.Remove place.path))) (sym w.is)
        (At-grow w.before w.after place.x (Began place.lane place.line (ops.Remove place.path)) place.began) in
        let low = At-below w.before place.x (Began place.lane place.line (ops.Remove place.path)) place.began in
        let late = within in
        let rooted : Rooted terms.origin h i m.root =
        Rooted-wide terms.origin h place.x i m.root (omega (arith, low, late)) (s.root place.x place.lane place.line (ops.Remove place.path) began) in
        subst (λ (g : List Entry). HiddenAt terms.origin g i File r.removal.dir r.removal.name) (sym w.is)
        (hidden-at m.root terms.origin w.before w.after i File r.removal.dir r.removal.name within (subst (λ (g : List Entry). Rooted terms.origin g i m.root) w.is rooted) place
        (s.asked place.x place.lane place.line (ops.Remove place.path) began))

    pub place-of : RemovesPlace terms h w.x i (ops.Close slot) Its
    place-of = record { slot = slot; f = File; d = r.removal.dir; name = r.removal.name; is = refl; of = of; hidden = hidden; removes = r.call_is }

    -- ---- where each answer that is ready was noted

    module _ (noted : AllNoted w.old) where
      past : MachinePast File story.c.slot w.machine
      past = subst (MachinePast File story.c.slot) (sym story.is) (subst (IsPast File) (sym r.state_is) r.file_is, refl)

      alone : HeldAlone terms h w.x i w.waiting.purpose.lane story.c.slot File
      alone =
          alone-wide terms h w.x (length w.before) i w.waiting.purpose.lane story.c.slot File within
          (subst (λ (g : List Entry). HeldAlone terms g w.x (length w.before) w.waiting.purpose.lane story.c.slot File) (sym w.is)
          (alone-grow terms w.before w.after w.x w.waiting.purpose.lane story.c.slot File
          (alone-where-noted m terms s.goes.nocto setup w.before w.old w.reached w.found noted w.at w.waiting.purpose.lane (Busy w.machine) w.busy File story.c.slot past w.x w.op w.under_way)))

      lane-is : w.waiting.purpose.lane ≡ of.lane
      lane-is =
          let u = under-now m terms setup h v s i bytes w in
          began-lane of.lane of.line w.waiting.purpose.lane u.line (ops.Close slot) w.op
          (At-one h w.x (Began of.lane of.line (ops.Close slot)) (Began w.waiting.purpose.lane u.line w.op) of.began u.began)

      slot-is : story.c.slot ≡ of.slot
      slot-is = story.slot_is ∙ some-slot slot of.slot of.works_on

      pub removes-hidden : RemovesHidden terms h w.x i (ops.Close slot) Its
      removes-hidden = record {
        slot = slot;
        f = File;
        d = r.removal.dir;
        name = r.removal.name;
        is = refl;
        of = of;
        hidden = hidden;
        alone = subst (λ (n : ℕ). HeldAlone terms h w.x i n of.slot File) lane-is (subst (λ (z : ℕ). HeldAlone terms h w.x i w.waiting.purpose.lane z File) slot-is alone);
        removes = r.call_is;
      }
