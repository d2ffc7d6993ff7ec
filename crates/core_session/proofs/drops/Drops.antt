-- What is known of the operations under way as to slots, along a history; and what a step of a lane makes of it.
use Rattle.core_session.proofs.Prelude.{◌≡◌, ◌≢◌, ℕ, List, [], ◌∷◌, ◌++◌, length, Option, Some, None, option_map, slice_get, slice_set, Result, refl, sym, ap, subst, ◌∙◌, arith, Opened, Opens, Answer, Entry, Began, Answered, Fault, Reply, Op, At, Modes, UnderWay, IsOf, At-last, Step, Send, Wait, Done, Shelf, Turn, CloseFile, Closing, file_at, joined, Machine, Starts, Resumes, Takes, Lane, State, Busy, Over, AreApart, at-set, Agrees, IsPlain, Kind, plainly, kind_of, BeginsAs, set-other, by-place, CloseTurn, IsFirst}
use Rattle.core_facts.proofs.SlotGrowth.{IsShown}
use Rattle.core_facts.proofs.Slots.{opening, closing}
use Rattle.std.specs.FinMap as finite
use Rattle.world_model.specs.declared.answer.Answer.TheVariants as answers
use Rattle.world_model.specs.declared.answer.Fault.TheVariants as faults
use Rattle.world_model.specs.declared.op.Op.TheVariants as ops
use Rattle.file_ops.specs.declared.close_file.Closing.TheVariants as closings
use Rattle.file_ops.specs.Closes as closes
use Rattle.op_machines.specs.declared.file_machine.FileMachine.TheVariants as files
use Rattle.op_machines.specs.declared.machine.Machine.TheVariants as machines
use Rattle.core_session.proofs.drops.Closers.{ClosingAt}
use Rattle.core_session.proofs.drops.Growing.{slot-grow, of-grow, under-grow}
use Rattle.core_session.proofs.drops.SlotKinds.{IsCloserOf, KindTold, StateTold, OthersSame, OnlyLess, quiet-same, CloserState, CloserLed, closer-led, close-begins, close-goes, close-hears, OtherTold, OtherState, other-led, other-begins, other-goes, other-hears}
use Rattle.core_session.proofs.drops.Leading.{Leading, settles, unmade, Settles}

-- ---- what is known

-- the operation that is under way in a lane
pub record LaneTold (m : Modes) (h : List Entry) (number : ℕ) (state : State) (opens : Opens) : Type 0 where
  pub x : ℕ
  pub op : Op
  pub under_way : UnderWay h number x (length h) op
  pub told : StateTold m h x number (kind_of op) state opens

abbrev pub LanesTold : Modes → List Entry → List Lane → Opens → Type 0
LanesTold m h lanes opens = (k : ℕ) (lane : Lane) → slice_get lanes k ≡ Some lane → LaneTold m h lane.number lane.state opens

-- ---- another table, which is the same of the lane

module _ (m : Modes) (h : List Entry) (n : ℕ) (old new : Opens) (same : (s : ℕ) → finite.get new (n, s) ≡ finite.get old (n, s)) where
  pub at-moved : (slot : ℕ) (file : List ℕ) (upto : ℕ) (state : Closing) → ClosingAt n slot file upto old state → ClosingAt n slot file upto new state
  at-moved slot file upto closings.Idle a = a
  at-moved slot file upto (closings.Queued saving) a = (a.0, ap (λ (o : Option Opened). option_map (λ (k : Opened). k.file) o) (same slot) ∙ a.1)
  at-moved slot file upto (closings.Saves saving) a = (a.0, ap (λ (o : Option Opened). option_map (λ (k : Opened). k.file) o) (same slot) ∙ a.1)
  at-moved slot file upto (closings.ToRemove removal) a = (a.0, same slot ∙ a.1)
  at-moved slot file upto (closings.Removing removal) a = (a.0, same slot ∙ a.1)

  kind-moved : (x : ℕ) (kind : Kind) (machine : Machine) → KindTold m h x n kind machine old → KindTold m h x n kind machine new
  kind-moved x (opening slot mode) machine t = t
  kind-moved x (closing slot) machine t = record {
    file = t.file;
    upto = t.upto;
    closer = record { c = t.closer.c; is = t.closer.is; lane_is = t.closer.lane_is; slot_is = t.closer.slot_is; at = at-moved slot t.file t.upto t.closer.c.state t.closer.at };
    of = t.of;
  }
  kind-moved x plainly machine t = t

  state-moved : (x : ℕ) (kind : Kind) (state : State) → StateTold m h x n kind state old → StateTold m h x n kind state new
  state-moved x kind (Busy machine) t = kind-moved x kind machine t
  state-moved x kind (Over answer) t = t

  pub lane-moved : (state : State) → LaneTold m h n state old → LaneTold m h n state new
  lane-moved state t = record { x = t.x; op = t.op; under_way = t.under_way; told = state-moved t.x (kind_of t.op) state t.told }

-- ---- one entry more

module _ (m : Modes) (h : List Entry) (e : Entry) (n : ℕ) (other : (line : ℕ) (answer : Answer) → e ≡ Answered n line answer → ⊥) where
  kind-grows : (x : ℕ) (kind : Kind) (machine : Machine) (opens : Opens) → KindTold m h x n kind machine opens → KindTold m (h ++ e ∷ []) x n kind machine opens
  kind-grows x (opening slot mode) machine opens t = t
  kind-grows x (closing slot) machine opens t = record { file = t.file; upto = t.upto; closer = t.closer; of = of-grow m h e x (ops.Close slot) t.file t.of }
  kind-grows x plainly machine opens t = t

  state-grows : (x : ℕ) (kind : Kind) (state : State) (opens : Opens) → StateTold m h x n kind state opens → StateTold m (h ++ e ∷ []) x n kind state opens
  state-grows x kind (Busy machine) opens t = kind-grows x kind machine opens t
  state-grows x kind (Over answer) opens t = t

  pub lane-grows : (state : State) (opens : Opens) → LaneTold m h n state opens → LaneTold m (h ++ e ∷ []) n state opens
  lane-grows state opens t = record { x = t.x; op = t.op; under_way = under-grow m h e n t.x t.op other t.under_way; told = state-grows t.x (kind_of t.op) state opens t.told }

-- ---- a step of one lane

-- the other lanes, where the table is the same of them
pub others-told : (m : Modes) (h : List Entry) (lanes : List Lane) (at number : ℕ) (was : State) (old new : Opens) → AreApart lanes
    → slice_get lanes at ≡ Some (record { number = number; state = was }) → OthersSame number old new → LanesTold m h lanes old
    → (k : ℕ) (lane : Lane) → slice_get lanes k ≡ Some lane → k ≢ at → LaneTold m h lane.number lane.state new
others-told m h lanes at number was old new apart there others told k lane here off =
    lane-moved m h lane.number old new (λ s. others (lane.number, s) (λ same. off (apart k at lane (record { number = number; state = was }) here there same))) lane.state (told k lane here)

pub lanes-set : (m : Modes) (h : List Entry) (lanes : List Lane) (at number : ℕ) (was state : State) (old new : Opens) → AreApart lanes
    → slice_get lanes at ≡ Some (record { number = number; state = was }) → OthersSame number old new → LanesTold m h lanes old → LaneTold m h number state new
    → LanesTold m h (slice_set lanes at (record { number = number; state = state })) new
lanes-set m h lanes at number was state old new apart there others told own =
    by-place (λ (l : Lane). LaneTold m h l.number l.state new) (slice_set lanes at (record { number = number; state = state })) at (record { number = number; state = state })
    (at-set lanes at (record { number = number; state = was }) (record { number = number; state = state }) there) own
    (λ k lane here off.
    others-told m h lanes at number was old new apart there others told k lane (sym (set-other lanes at k (record { number = number; state = state }) off) ∙ here) off)

-- What a step makes of its own lane: where it is a close, of its file and number. W held of it before, and T holds where it has its answer. Where it is
-- another operation, V held before.
pub data OwnLed (m : Modes) (h : List Entry) (number x : ℕ) (op : Op) (state : State) (old new : Opens) (T : List ℕ → Type 0) (W : ℕ → List ℕ → ℕ → Type 0) (V : Type 0) : Type 0 where
  closer : (slot : ℕ) (file : List ℕ) (upto : ℕ) → op ≡ ops.Close slot → IsOf m h x (ops.Close slot) file → W slot file upto
      → CloserLed number slot file upto (T file) old state new → OwnLed m h number x op state old new T W V
  other : V → OtherState m number (kind_of op) state → OthersSame number old new → OwnLed m h number x op state old new T W V

-- it was a close, or its slot held the file
abbrev pub WasCloser : ℕ → Machine → Opens → ℕ → List ℕ → ℕ → Type 0
WasCloser number machine old slot file upto = IsCloserOf number slot file upto machine old

abbrev pub HadFile : ℕ → Opens → ℕ → List ℕ → ℕ → Type 0
HadFile number old slot file upto = file_at number slot old ≡ Some file

-- it was none, or its slot held no file
abbrev pub WasNone : Machine → Type 0
WasNone machine = (c : CloseFile) → machine ≡ machines.File (files.Close c) → ⊥

abbrev pub HadNone : ℕ → Op → Opens → Type 0
HadNone number op old = (slot : ℕ) (file : List ℕ) → op ≡ ops.Close slot → file_at number slot old ≡ Some file → ⊥

pub closer-kind : (op : Op) (slot : ℕ) → kind_of op ≡ closing slot → op ≡ ops.Close slot
closer-kind (ops.Close s) slot e = ap ops.Close (one-slot s slot e)
  where
    one-slot : (a b : ℕ) → closing a ≡ closing b → a ≡ b
    one-slot a b e = cc
closer-kind (ops.OpenFile s mode path) slot e = absurd cc
closer-kind (ops.Read s offset count) slot e = absurd cc
closer-kind (ops.Write s offset bytes) slot e = absurd cc
closer-kind (ops.Fill s offset count byte) slot e = absurd cc
closer-kind (ops.Put path offset bytes) slot e = absurd cc
closer-kind (ops.Sync s) slot e = absurd cc
closer-kind (ops.Truncate s size) slot e = absurd cc
closer-kind (ops.Stat path) slot e = absurd cc
closer-kind (ops.Access path bits) slot e = absurd cc
closer-kind (ops.MakeDir path) slot e = absurd cc
closer-kind (ops.RemoveDir path) slot e = absurd cc
closer-kind (ops.Remove path) slot e = absurd cc
closer-kind (ops.Rename from into) slot e = absurd cc
closer-kind (ops.Link from into) slot e = absurd cc
closer-kind (ops.SymLink path target) slot e = absurd cc
closer-kind (ops.ReadLink path) slot e = absurd cc
closer-kind (ops.List path) slot e = absurd cc

module _ (m : Modes) (h : List Entry) (number x : ℕ) (op : Op) (old new : Opens) (T : List ℕ → Type 0) (W : ℕ → List ℕ → ℕ → Type 0) (V : Type 0) where
  other-told : (kind : Kind) (state : State) → OtherState m number kind state → StateTold m h x number kind state new
  other-told (opening slot mode) (Busy machine) o = o
  other-told (closing slot) (Busy machine) o = absurd o
  other-told plainly (Busy machine) o = o
  other-told kind (Over answer) o = tt

  closer-told : (slot : ℕ) (file : List ℕ) (upto : ℕ) (state : State) → IsOf m h x (ops.Close slot) file → CloserState number slot file upto (T file) new state
      → StateTold m h x number (closing slot) state new
  closer-told slot file upto (Busy machine) of k = record { file = file; upto = upto; closer = k; of = of }
  closer-told slot file upto (Over answer) of k = tt

  pub own-told : (state : State) → UnderWay h number x (length h) op → OwnLed m h number x op state old new T W V → LaneTold m h number state new
  own-told state u (closer slot file upto is of was led) = record {
    x = x;
    op = op;
    under_way = u;
    told = subst (λ (o : Op). StateTold m h x number (kind_of o) state new) (sym is) (closer-told slot file upto state of led.then_);
  }
  own-told state u (other v o others) = record { x = x; op = op; under_way = u; told = other-told (kind_of op) state o }

  pub own-others : (state : State) → OwnLed m h number x op state old new T W V → OthersSame number old new
  own-others state (closer slot file upto is of was led) = led.quiet.others
  own-others state (other v o others) = others

-- a step that no record made possible, and one at a record
module _ (m : Modes) (h : List Entry) (number x : ℕ) (op : Op) (wsize : ℕ) (machine : Machine) (old : Shelf) (T : Type 0) where
  not-close : (kind : Kind) → OtherTold m number kind machine → WasNone machine
  not-close (opening slot mode) o c is = let no_way : machines.File (files.Close c) ≡ machines.Path o.m = sym is ∙ o.is in absurd cc
  not-close (closing slot) o c is = o
  not-close plainly o c is = plain-close c (subst IsPlain is o)
    where
      plain-close : (c : CloseFile) → IsPlain (machines.File (files.Close c)) → ⊥
      plain-close c p = p

  pub own-goes : (turn : Turn) → (IsFirst number old.order → T) → ((c : CloseFile) → machine ≡ machines.File (files.Close c) → c.lane ≡ number → CloseTurn T c.state)
      → KindTold m h x number (kind_of op) machine old.opens → (state : State) (after : Shelf)
      → Leading wsize (λ next new shelf. Resumes wsize machine turn old next new shelf) state after
      → OwnLed m h number x op state old.opens after.opens (λ file. T) (WasCloser number machine old.opens) (WasNone machine) × OnlyLess old.opens after.opens
  own-goes turn t turned told state after l = by (kind_of op) refl told
    where
      quietly : (kind : Kind) → kind_of op ≡ kind → OtherTold m number kind machine → OwnLed m h number x op state old.opens after.opens (λ file. T) (WasCloser number machine old.opens) (WasNone machine) × OnlyLess old.opens after.opens
      quietly kind is o =
          let k = other-led m number kind wsize old.opens (λ opens. opens ≡ old.opens) (λ next new shelf. Resumes wsize machine turn old next new shelf)
          (λ next new shelf s. other-goes m number kind machine wsize turn old next new shelf o s) state after l in
          let q = quiet-same number old.opens after.opens k.1 in
          (other (not-close kind o) (subst (λ (q : Kind). OtherState m number q state) (sym is) k.0) q.others, q.less)

      by : (kind : Kind) → kind_of op ≡ kind → KindTold m h x number kind machine old.opens → OwnLed m h number x op state old.opens after.opens (λ file. T) (WasCloser number machine old.opens) (WasNone machine) × OnlyLess old.opens after.opens
      by (opening slot mode) is k = quietly (opening slot mode) is k
      by plainly is k = quietly plainly is k
      by (closing slot) is k =
          let led = closer-led number slot k.file k.upto T wsize old.opens (λ next new shelf. Resumes wsize machine turn old next new shelf)
          (λ next new shelf r. close-goes number slot k.file k.upto T machine wsize turn old next new shelf t turned k.closer r) state after l in
          (closer slot k.file k.upto (closer-kind op slot is) k.of k.closer led, led.quiet.less)

  pub own-hears : (sent turn : Turn) (came : Result Reply Fault) → ((c : CloseFile) → machine ≡ machines.File (files.Close c) → c.lane ≡ number → T)
      → KindTold m h x number (kind_of op) machine old.opens → (state : State) (after : Shelf)
      → Leading wsize (λ next new shelf. Takes wsize machine sent turn came old next new shelf) state after
      → OwnLed m h number x op state old.opens after.opens (λ file. T) (WasCloser number machine old.opens) (WasNone machine)
  own-hears sent turn came turned told state after l = by (kind_of op) refl told
    where
      quietly : (kind : Kind) → kind_of op ≡ kind → OtherTold m number kind machine → OwnLed m h number x op state old.opens after.opens (λ file. T) (WasCloser number machine old.opens) (WasNone machine)
      quietly kind is o =
          let k = other-led m number kind wsize old.opens (λ opens. OthersSame number old.opens opens) (λ next new shelf. Takes wsize machine sent turn came old next new shelf)
          (λ next new shelf s. other-hears m number kind machine wsize sent turn came old next new shelf o s) state after l in
          other (not-close kind o) (subst (λ (q : Kind). OtherState m number q state) (sym is) k.0) k.1

      by : (kind : Kind) → kind_of op ≡ kind → KindTold m h x number kind machine old.opens → OwnLed m h number x op state old.opens after.opens (λ file. T) (WasCloser number machine old.opens) (WasNone machine)
      by (opening slot mode) is k = quietly (opening slot mode) is k
      by plainly is k = quietly plainly is k
      by (closing slot) is k =
          closer slot k.file k.upto (closer-kind op slot is) k.of k.closer
          (closer-led number slot k.file k.upto T wsize old.opens (λ next new shelf. Takes wsize machine sent turn came old next new shelf)
          (λ next new shelf r. close-hears number slot k.file k.upto T machine wsize sent turn came old next new shelf (turned k.closer.c k.closer.is k.closer.lane_is) k.closer r) state after l)

-- the first step of an operation, in a lane of which the table says what the history shows
module _ (m : Modes) (h : List Entry) (lane line : ℕ) (op : Op) (wsize : ℕ) (machine : Machine) (turn : Turn) (old : Shelf)
    (agree : (s : ℕ) → Agrees m h lane s (finite.get old.opens (lane, s))) (as_ : BeginsAs m.nocto lane (kind_of op) machine) where
  -- its slot holds this file
  of-slot : (slot : ℕ) (o : Opened) → op ≡ ops.Close slot → finite.get old.opens (lane, slot) ≡ Some o → IsOf m (h ++ Began lane line op ∷ []) (length h) (ops.Close slot) o.file
  of-slot slot o is there =
      let shown : IsShown m h lane slot o = subst (Agrees m h lane slot) there (agree slot) in
      let g = slot-grow m h (Began lane line op) (length h) lane slot shown.held.x o.file (omega arith) shown.held.holds in
      record {
        lane = lane;
        line = line;
        slot = slot;
        open_at = g.x;
        began = subst (λ (o : Op). At (h ++ Began lane line op ∷ []) (length h) (Began lane line o)) is (At-last h (Began lane line op));
        works_on = refl;
        holds = g.holds;
      }

  no-file : (slot : ℕ) (c : CloseFile) (next : Step) (new : Machine) (after : Shelf) → machine ≡ machines.File (files.Close c) → c.lane ≡ lane → c.slot ≡ slot
      → finite.get old.opens (lane, slot) ≡ None → Starts wsize machine turn old next new after → (next ≡ Done (answers.Refused faults.Slot)) × (after.opens ≡ old.opens)
  no-file slot c next new after is of_lane of_slot none s = by (subst (λ (k : Machine). Starts wsize k turn old next new after) is s)
    where
      at : file_at c.lane c.slot old.opens ≡ None
      at = ap (λ (n : ℕ). file_at n c.slot old.opens) of_lane ∙ ap (λ (k : ℕ). file_at lane k old.opens) of_slot ∙ ap (λ (o : Option Opened). option_map (λ (k : Opened). k.file) o) none

      by : Starts wsize (machines.File (files.Close c)) turn old next new after → (next ≡ Done (answers.Refused faults.Slot)) × (after.opens ≡ old.opens)
      by k =
          let n = subst (λ (f : Option (List ℕ)). closes.StartsAt f wsize c turn old next k.step.state after) at k.step.step in
          (n.next_is, ap (λ (s : Shelf). s.opens) n.shelf_is)

  pub ended-slot : (state : State) (after : Shelf) (c : CloseFile) (slot : ℕ) → machine ≡ machines.File (files.Close c) → c.lane ≡ lane → c.slot ≡ slot → finite.get old.opens (lane, slot) ≡ None
      → Leading wsize (λ next new shelf. Starts wsize machine turn old next new shelf) state after
      → (state ≡ Over (answers.Refused faults.Slot)) × (after.opens ≡ old.opens)
  ended-slot state after c slot is of_lane of_slot none (settles next new s k) =
      let n = no-file slot c next new after is of_lane of_slot none s in
      (by next n.0 k, n.1)
    where
      by : (next : Step) → next ≡ Done (answers.Refused faults.Slot) → Settles next new state → state ≡ Over (answers.Refused faults.Slot)
      by (Send call) e k = absurd cc
      by Wait e k = absurd cc
      by (Done answer) e k = k ∙ ap Over (done-is answer (answers.Refused faults.Slot) e)
        where
          done-is : (a b : Answer) → Done a ≡ Done b → a ≡ b
          done-is a b e = cc
  ended-slot state after c slot is of_lane of_slot none (unmade call mid between sent turn_ fault next new s takes k) =
      absurd (let no_way : Send call ≡ Done (answers.Refused faults.Slot) = (no-file slot c (Send call) mid between is of_lane of_slot none s).0 in cc)

  no-slot : (kind : Kind) → kind_of op ≡ kind → OtherTold m lane kind machine → HadNone lane op old.opens
  no-slot (opening slot mode) is o s file op_is at = let no_way : closing s ≡ opening slot mode = sym (ap kind_of op_is) ∙ is in absurd cc
  no-slot (closing slot) is o s file op_is at = o
  no-slot plainly is o s file op_is at = let no_way : closing s ≡ plainly = sym (ap kind_of op_is) ∙ is in absurd cc

  free-slot : (slot : ℕ) → kind_of op ≡ closing slot → finite.get old.opens (lane, slot) ≡ None → HadNone lane op old.opens
  free-slot slot is none s file op_is at =
      let same : s ≡ slot = slot-is s slot (sym (ap kind_of op_is) ∙ is) in
      let no_way : None ≡ Some file =
      sym (ap (λ (o : Option Opened). option_map (λ (k : Opened). k.file) o) (ap (λ (z : ℕ). finite.get old.opens (lane, z)) same ∙ none)) ∙ at in
      absurd cc
    where
      slot-is : (a b : ℕ) → closing a ≡ closing b → a ≡ b
      slot-is a b e = cc

  pub own-begins : (state : State) (after : Shelf) → Leading wsize (λ next new shelf. Starts wsize machine turn old next new shelf) state after
      → OwnLed m (h ++ Began lane line op ∷ []) lane (length h) op state old.opens after.opens (λ file. IsFirst lane (joined lane file old).order) (HadFile lane old.opens) (HadNone lane op old.opens) × OnlyLess old.opens after.opens
  own-begins state after l = by (kind_of op) refl as_
    where
      quietly : (kind : Kind) → kind_of op ≡ kind → OtherTold m lane kind machine
          → OwnLed m (h ++ Began lane line op ∷ []) lane (length h) op state old.opens after.opens (λ file. IsFirst lane (joined lane file old).order) (HadFile lane old.opens) (HadNone lane op old.opens) × OnlyLess old.opens after.opens
      quietly kind is o =
          let k = other-led m lane kind wsize old.opens (λ opens. opens ≡ old.opens) (λ next new shelf. Starts wsize machine turn old next new shelf)
          (λ next new shelf s. other-begins m lane kind machine wsize turn old next new shelf o s) state after l in
          let q = quiet-same lane old.opens after.opens k.1 in
          (other (no-slot kind is o) (subst (λ (q : Kind). OtherState m lane q state) (sym is) k.0) q.others, q.less)

      by : (kind : Kind) → kind_of op ≡ kind → BeginsAs m.nocto lane kind machine
          → OwnLed m (h ++ Began lane line op ∷ []) lane (length h) op state old.opens after.opens (λ file. IsFirst lane (joined lane file old).order) (HadFile lane old.opens) (HadNone lane op old.opens) × OnlyLess old.opens after.opens
      by (opening slot mode) is k = quietly (opening slot mode) is k
      by plainly is k = quietly plainly is k
      by (closing slot) is k = at (finite.get old.opens (lane, slot)) refl
        where
          at : (o : Option Opened) → finite.get old.opens (lane, slot) ≡ o
              → OwnLed m (h ++ Began lane line op ∷ []) lane (length h) op state old.opens after.opens (λ file. IsFirst lane (joined lane file old).order) (HadFile lane old.opens) (HadNone lane op old.opens) × OnlyLess old.opens after.opens
          at None none =
              let e = ended-slot state after k.c slot k.is k.lane_is k.slot_is none l in
              let q = quiet-same lane old.opens after.opens e.1 in
              (other (free-slot slot is none) (subst (λ (q : Kind). OtherState m lane q state) (sym is) (subst (OtherState m lane (closing slot)) (sym e.0) tt)) q.others, q.less)
          at (Some o) there =
              let held : file_at lane slot old.opens ≡ Some o.file = ap (λ (o : Option Opened). option_map (λ (k : Opened). k.file) o) there in
              let led = closer-led lane slot o.file old.seq (IsFirst lane (joined lane o.file old).order) wsize old.opens (λ next new shelf. Starts wsize machine turn old next new shelf)
              (λ next new shelf s. close-begins lane slot o.file old.seq (IsFirst lane (joined lane o.file old).order) machine k.c wsize turn old next new shelf k.is k.lane_is k.slot_is (λ first. first) refl held s) state after l in
              let op_is = closer-kind op slot is in
              (closer slot o.file old.seq op_is (of-slot slot o op_is there) held led, led.quiet.less)
