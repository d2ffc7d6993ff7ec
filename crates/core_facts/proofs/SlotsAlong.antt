-- Along a history that the core goes with, its table of opens says of each slot what the history shows.
use Rattle.core_facts.proofs.Prelude.{◌≡◌, ◌≢◌, ◌<◌, ◌≤◌, ◌⊎◌, inl, inr, ℕ, zero, suc, List, [], ◌∷◌, ◌++◌, length, remove, Bool, true, false, nat_eq, Option, Some, None, MatchOption, position, slice_get, slice_set, Ok, Err, refl, sym, ap, subst, ◌∙◌, arith, ◌+◌, eqb-true, eqb-false, cases_lt, Opened, Place, Opens, xid_at, Waiting, waiting_at, Answer, Fault, Entry, Began, Answered, Dialed, Sent, Executed, Foreign, Flushed, Reboot, Delivered, Failed, Clock, Reply, Op, At, Modes, Ended, UnderWay, At-grow, At-one, length_last, said_of, Step, Send, Wait, Done, Shelf, Mounted, Machine, machine_of, Lane, Purpose, State, Busy, Over, Setup, IsFresh, is_busy, IsOther, numbers_of, with_state, IsRefused, Leads, Stirs, Moves, moves_none, moves_more, counted, BeginsIf, TakesAt, View, turn_at, unmade_turn, IsSetUp, StepsTo, HearsRecord, Reaches, begins, goes, loses, last_reading, NoneBusy}
use Rattle.open_files.specs.Slots.{place_cmp}
use Rattle.world_model.specs.Operations.{AnsweredBefore}
use Rattle.std.specs.FinMap as finite
use Rattle.world_model.specs.declared.op.Op.TheVariants as ops
use Rattle.core_facts.proofs.AllCounts.{begins-unbegun}
use Rattle.core_facts.proofs.Cases.{Heard, dropped, replied, heard, sent_now, FailedNow, goes_on, gives_up, failed_now, AnsweredNow, answered_now, taken_one}
use Rattle.core_facts.proofs.Counting.{none-busy, reached-count}
use Rattle.core_facts.proofs.LaneMarks.{LanesKnown, quiet-facts, lanes-stay, lanes-begin, lanes-under-way, reached-lanes, idle-numbers, number_of}
use Rattle.core_facts.proofs.Lists.{map-set, map-remove, in-map, to-map, at-set, at-push, before-push, at-position, get-push, get-remove, still-there, skip, skip-other}
use Rattle.core_facts.proofs.Resting.{comes-to-rest, none-moves, own-none}
use Rattle.core_facts.proofs.SlotGrowth.{ended-back, ended-now, Agrees, held-grow, IsShown}
use Rattle.core_facts.proofs.SaidFaults.{said-fine, unmade-fine}
use Rattle.core_facts.proofs.Steps.{ThenOf}
use Rattle.core_facts.proofs.Walks.{steps-stay, stirs-stay, starts-stay}
use Rattle.core_facts.proofs.Stories.{LawsOver, Always, set-other, by-place, under-back, told-of, now-told, answered-under, good-over}
use Rattle.core_facts.proofs.Slots.{SlotsAgree, kind_of, StoryOf, BeginsAs, TellsOf, story-same, agree-same, ThenStory, Stepped, story-starts, story-resumes, story-takes, agree-later, busy-later, over-later, noted, WasTaken}

-- ---- how operations begin

begins-as : (modes : Modes) (m : Mounted) → m.nocto ≡ modes.nocto → (n : ℕ) (op : Op) → BeginsAs modes.nocto n (kind_of op) (machine_of m n op)
begins-as modes m same n (ops.OpenFile slot mode path) = record { m = _; o = _; is = refl; opener = refl; at = record { lane_is = refl; slot_is = refl; mode_is = refl; nocto_is = same } }
begins-as modes m same n (ops.Close slot) = record { c = _; is = refl; lane_is = refl; slot_is = refl }
begins-as modes m same n (ops.Read slot offset count) = tt
begins-as modes m same n (ops.Write slot offset bytes) = tt
begins-as modes m same n (ops.Fill slot offset count byte) = tt
begins-as modes m same n (ops.Put path offset bytes) = tt
begins-as modes m same n (ops.Sync slot) = tt
begins-as modes m same n (ops.Truncate slot size) = tt
begins-as modes m same n (ops.Stat path) = tt
begins-as modes m same n (ops.Access path bits) = tt
begins-as modes m same n (ops.MakeDir path) = tt
begins-as modes m same n (ops.RemoveDir path) = tt
begins-as modes m same n (ops.Remove path) = tt
begins-as modes m same n (ops.Rename from to) = tt
begins-as modes m same n (ops.Link from to) = tt
begins-as modes m same n (ops.SymLink path target) = tt
begins-as modes m same n (ops.ReadLink path) = tt
begins-as modes m same n (ops.List path) = tt

-- ---- lists

-- a number that stands at no place is another
other-of : (n : ℕ) (numbers : List ℕ) → ((k : ℕ) → slice_get numbers k ≡ Some n → ⊥) → IsOther n numbers
other-of n [] none = tt
other-of n (x ∷ xs) none = (λ same. none zero (ap Some same), other-of n xs (λ k there. none (suc k) there))

-- the lane that was taken out isn't among the others
less-numbers : (numbers : List ℕ) (at n gone : ℕ) → slice_get numbers at ≡ Some gone → n ≢ gone → IsOther n (remove numbers at) → IsOther n numbers
less-numbers numbers at n gone there apart other = other-of n numbers (λ k here.
    let m = still-there numbers at k n (λ same. apart (one-number n gone (sym here ∙ ap (slice_get numbers) same ∙ there))) here in
    idle-numbers n (remove numbers at) other m.0 m.1)
  where
    one-number : (a b : ℕ) → Some a ≡ Some b → a ≡ b
    one-number a b e = cc

-- ---- a story of which nothing is said

abbrev pub Plain : List Entry → ℕ → Op → State → Type 0
Plain h x op state = Unit {0}

plain-then : (next : Step) (new : Machine) → ThenOf (λ (m : Machine). Unit {0}) (λ a. Unit {0}) next new
plain-then (Send call) new = tt
plain-then Wait new = tt
plain-then (Done answer) new = tt

pub plain-laws : (m : Mounted) → LawsOver Always (machine_of m) Plain
plain-laws m = record {
  starts = λ h lane line op wsize turn old next new after p s. plain-then next new;
  resumes = λ h x op machine wsize turn old next new after t r. plain-then next new;
  takes = λ h x op machine wsize sent turn came old next new after others t one told k. plain-then next new;
  grows = λ h e x op state t. tt;
  lost = λ h x op l. tt;
}

module _ (modes : Modes) (mounted : Mounted) (same : mounted.nocto ≡ modes.nocto) (setup : Setup) where
  abbrev pub LaneTold : List Entry → Lane → Opens → Type 0
  LaneTold h lane opens = (x : ℕ) (op : Op) → UnderWay h lane.number x (length h) op → StoryOf modes h x lane.number (kind_of op) lane.state opens

  -- what holds between the steps of a session that isn't lost
  pub record Slots (h : List Entry) (v : View) : Type 0 where
    pub lanes : (k : ℕ) (lane : Lane) → slice_get v.lanes k ≡ Some lane → LaneTold h lane v.shelf.opens
    pub idle : (n : ℕ) → IsOther n (numbers_of v.lanes) → SlotsAgree modes h n v.shelf.opens

  -- The machine of the lane at a place made a step, and what that leads to is still to come.
  record Owing (h : List Entry) (v : View) (at number : ℕ) (machine : Machine) (next : Step) : Type 0 where
    pub there : slice_get v.lanes at ≡ Some (record { number = number; state = Busy machine })
    pub rest : (k : ℕ) (lane : Lane) → slice_get v.lanes k ≡ Some lane → k ≢ at → LaneTold h lane v.shelf.opens
    pub idle : (n : ℕ) → IsOther n (numbers_of v.lanes) → SlotsAgree modes h n v.shelf.opens
    pub told : (x : ℕ) (op : Op) → UnderWay h number x (length h) op → ThenStory modes h x number (kind_of op) v.shelf.opens next machine

  -- ---- one step

  abbrev OthersSame : ℕ → Opens → Opens → Type 0
  OthersSame number old new = (q : Place) → q.0 ≢ number → finite.get new q ≡ finite.get old q

  lane-moved : (h : List Entry) (lane : Lane) (old new : Opens) → ((s : ℕ) → finite.get new (lane.number, s) ≡ finite.get old (lane.number, s)) → LaneTold h lane old → LaneTold h lane new
  lane-moved h lane old new moved t x op u = story-same modes h x lane.number (kind_of op) lane.state old new moved (t x op u)

  -- another lane has another number
  rest-moved : (h : List Entry) (v : View) (at number : ℕ) (state : State) (new : Opens) → LanesKnown h v → slice_get v.lanes at ≡ Some (record { number = number; state = state })
      → OthersSame number v.shelf.opens new → ((k : ℕ) (lane : Lane) → slice_get v.lanes k ≡ Some lane → k ≢ at → LaneTold h lane v.shelf.opens)
      → (k : ℕ) (lane : Lane) → slice_get v.lanes k ≡ Some lane → k ≢ at → LaneTold h lane new
  rest-moved h v at number state new known there others rest k lane here apart =
      lane-moved h lane v.shelf.opens new
      (λ s. others (lane.number, s) (λ e. apart ((lanes-under-way h v known).apart k at lane (record { number = number; state = state }) here there e)))
      (rest k lane here apart)

  idle-moved : (h : List Entry) (v : View) (at number : ℕ) (state : State) (new : Opens) → slice_get v.lanes at ≡ Some (record { number = number; state = state })
      → OthersSame number v.shelf.opens new → ((n : ℕ) → IsOther n (numbers_of v.lanes) → SlotsAgree modes h n v.shelf.opens)
      → (n : ℕ) → IsOther n (numbers_of v.lanes) → SlotsAgree modes h n new
  idle-moved h v at number state new there others idle n other =
      agree-same modes h n v.shelf.opens new
      (λ s. others (n, s) (λ e. idle-numbers n (numbers_of v.lanes) other at (to-map number_of v.lanes at (record { number = number; state = state }) there ∙ ap Some (sym e))))
      (idle n other)

  set-numbers : (v : View) (at number : ℕ) (was state : State) → slice_get v.lanes at ≡ Some (record { number = number; state = was })
      → numbers_of (slice_set v.lanes at (record { number = number; state = state })) ≡ numbers_of v.lanes
  set-numbers v at number was state there = map-set number_of v.lanes at (record { number = number; state = was }) (record { number = number; state = state }) there refl

  -- the lane at the place comes to another state, and the table to another one
  slots-set : (h : List Entry) (v : View) (at number : ℕ) (was state : State) (shelf : Shelf) → LanesKnown h v → slice_get v.lanes at ≡ Some (record { number = number; state = was })
      → ((k : ℕ) (lane : Lane) → slice_get v.lanes k ≡ Some lane → k ≢ at → LaneTold h lane v.shelf.opens)
      → ((n : ℕ) → IsOther n (numbers_of v.lanes) → SlotsAgree modes h n v.shelf.opens)
      → OthersSame number v.shelf.opens shelf.opens → LaneTold h (record { number = number; state = state }) shelf.opens → Slots h (with_state v at number state shelf)
  slots-set h v at number was state shelf known there rest idle others own = record {
    lanes = by-place (λ lane. LaneTold h lane shelf.opens) (slice_set v.lanes at now) at now (at-set v.lanes at (record { number = number; state = was }) now there) own
        (λ k lane here apart.
        rest-moved h v at number was shelf.opens known there others rest k lane (sym (set-other v.lanes at k now apart) ∙ here) apart);
    idle = λ n other. idle-moved h v at number was shelf.opens there others idle n (subst (IsOther n) (set-numbers v at number was state there) other);
  }
    where
      now : Lane
      now = record { number = number; state = state }

  -- where its machine has made a step
  owes : (h : List Entry) (v : View) (at number : ℕ) (machine after : Machine) (shelf : Shelf) (next : Step) → LanesKnown h v → Slots h v
      → slice_get v.lanes at ≡ Some (record { number = number; state = Busy machine })
      → ((x : ℕ) (op : Op) → UnderWay h number x (length h) op → Stepped modes h x number (kind_of op) v.shelf next after shelf)
      → Owing h (with_state v at number (Busy after) shelf) at number after next
  owes h v at number machine after shelf next known s there step = record {
    there = at-set v.lanes at (record { number = number; state = Busy machine }) now there;
    rest = λ k lane here apart.
        rest-moved h v at number (Busy machine) shelf.opens known there others (λ j l is other. s.lanes j l is) k lane (sym (set-other v.lanes at k now apart) ∙ here) apart;
    idle = λ n other. idle-moved h v at number (Busy machine) shelf.opens there others s.idle n (subst (IsOther n) (set-numbers v at number (Busy machine) (Busy after) there) other);
    told = λ x op u. (step x op u).then_;
  }
    where
      now : Lane
      now = record { number = number; state = Busy after }

      others : OthersSame number v.shelf.opens shelf.opens
      others = let b = (lanes-under-way h v known).busy at (record { number = number; state = Busy machine }) there in (step b.x b.op b.under_way).others

  no-reply : (h : List Entry) (x : ℕ) (machine : Machine) (fault : Fault) (reply : Reply) → Err fault ≡ Ok reply → TellsOf h x machine reply
  no-reply h x machine fault reply e = absurd (cc)

  leads-slots : (h : List Entry) (v new : View) (at number : ℕ) (machine : Machine) (next : Step) → LanesKnown h v → Owing h v at number machine next → Leads v at number machine next new → Slots h new
  leads-slots h v new at number machine (Send call) known o (inl m) = subst (Slots h) (sym m.is) (record {
    lanes = by-place (λ lane. LaneTold h lane v.shelf.opens) v.lanes at (record { number = number; state = Busy machine }) o.there o.told o.rest;
    idle = o.idle;
  })
  leads-slots h v new at number machine (Send call) known o (inr f) = subst (Slots h) (sym f.is)
      (slots-set h v at number (Busy machine) f.state f.left known o.there o.rest o.idle others
      (by f.next f.state f.leads (λ x op u. (step x op u).then_)))
    where
      step : (x : ℕ) (op : Op) → UnderWay h number x (length h) op → Stepped modes h x number (kind_of op) v.shelf f.next f.after f.left
      step x op u = story-takes modes h x number (kind_of op) machine v.wsize (turn_at v) (unmade_turn v) (Err f.fault) v.shelf f.next f.after f.left (no-reply h x machine f.fault) (unmade-fine v f.fault f.unmade) (o.told x op u) f.takes

      others : OthersSame number v.shelf.opens f.left.opens
      others = let b = (lanes-under-way h v known).busy at (record { number = number; state = Busy machine }) o.there in (step b.x b.op b.under_way).others

      by : (next : Step) (state : State) → IsRefused f.after next state
          → ((x : ℕ) (op : Op) → UnderWay h number x (length h) op → ThenStory modes h x number (kind_of op) f.left.opens next f.after)
          → LaneTold h (record { number = number; state = state }) f.left.opens
      by (Send again) state is t = absurd is
      by Wait state is t = λ x op u. subst (λ (s : State). StoryOf modes h x number (kind_of op) s f.left.opens) (sym is) (t x op u)
      by (Done answer) state is t = λ x op u. subst (λ (s : State). StoryOf modes h x number (kind_of op) s f.left.opens) (sym is) (t x op u)
  leads-slots h v new at number machine Wait known o is = subst (Slots h) (sym is) (record {
    lanes = by-place (λ lane. LaneTold h lane v.shelf.opens) v.lanes at (record { number = number; state = Busy machine }) o.there o.told o.rest;
    idle = o.idle;
  })
  leads-slots h v new at number machine (Done answer) known o is = subst (Slots h) (sym is)
      (slots-set h v at number (Busy machine) (Over answer) v.shelf known o.there o.rest o.idle (λ q other. refl) o.told)

  stirs-slots : (h : List Entry) (old new : View) (at : ℕ) → Stirs old at new → LanesKnown h old → Slots h old → LanesKnown h new × Slots h new
  stirs-slots h old new at t known s = (
    stirs-stay (LanesKnown h) (lanes-stay h) old new at t known,
    leads-slots h (with_state old at t.number (Busy t.after) t.shelf) new at t.number t.after t.next
        ((lanes-stay h).sets old at t.number (Busy t.machine) (Busy t.after) t.shelf t.there known)
        (owes h old at t.number t.machine t.after t.shelf t.next known s t.there
        (λ x op u. story-resumes modes h x t.number (kind_of op) t.machine old.wsize (turn_at old) old.shelf t.next t.after t.shelf (s.lanes at (record { number = t.number; state = Busy t.machine }) t.there x op u) t.resumes))
        t.leads,
  )

  moves-slots : (h : List Entry) (old new : View) → Moves old new → LanesKnown h old → Slots h old → Slots h new
  moves-slots h old new moves known s = (both old new moves known s).1
    where
      both : (old new : View) → Moves old new → LanesKnown h old → Slots h old → LanesKnown h new × Slots h new
      both _ _ (moves_none old new is) known s = (subst (LanesKnown h) (sym is) known, subst (Slots h) (sym is) s)
      both _ _ (moves_more old mid new at m room t first) known s = let b = both old mid m known s in stirs-slots h mid new at t b.0 b.1

  -- ---- entries

  lane-grows : (h : List Entry) (e : Entry) (lane : Lane) (opens : Opens) → ((line : ℕ) (answer : Answer) → e ≡ Answered lane.number line answer → ⊥)
      → ((line : ℕ) (op : Op) → e ≡ Began lane.number line op → ⊥) → ((answer : Answer) → lane.state ≡ Over answer → (bytes : List ℕ) → e ≡ Delivered bytes → ⊥)
      → LaneTold h lane opens → LaneTold (h ++ e ∷ []) lane opens
  lane-grows h e lane opens quiet other silent t x op u = by lane.state refl (t x op (under-back h e lane.number x op other u))
    where
      by : (state : State) → lane.state ≡ state → StoryOf modes h x lane.number (kind_of op) lane.state opens → StoryOf modes (h ++ e ∷ []) x lane.number (kind_of op) lane.state opens
      by state is s = subst (λ (k : State). StoryOf modes (h ++ e ∷ []) x lane.number (kind_of op) k opens) (sym is)
          (of state is (subst (λ (k : State). StoryOf modes h x lane.number (kind_of op) k opens) is s))
        where
          of : (state : State) → lane.state ≡ state → StoryOf modes h x lane.number (kind_of op) state opens → StoryOf modes (h ++ e ∷ []) x lane.number (kind_of op) state opens
          of (Busy machine) is s = busy-later modes h e lane.number quiet x (kind_of op) machine opens s
          of (Over answer) is s = over-later modes h e lane.number quiet x (kind_of op) answer opens (silent answer is) s

  -- an entry that is no mark, and no record that comes while an answer is to be noted
  slots-grow : (h : List Entry) (e : Entry) (v : View) → ((n line : ℕ) (answer : Answer) → e ≡ Answered n line answer → ⊥) → ((n line : ℕ) (op : Op) → e ≡ Began n line op → ⊥)
      → ((k number : ℕ) (answer : Answer) → slice_get v.lanes k ≡ Some (record { number = number; state = Over answer }) → (bytes : List ℕ) → e ≡ Delivered bytes → ⊥)
      → Slots h v → Slots (h ++ e ∷ []) v
  slots-grow h e v quiet other silent s = record {
    lanes = λ k lane there.
        lane-grows h e lane v.shelf.opens (quiet lane.number) (other lane.number)
        (λ answer is. silent k lane.number answer (there ∙ ap (λ (state : State). Some (record { number = lane.number; state = state })) is)) (s.lanes k lane there);
    idle = λ n idle. agree-later modes h e n (quiet n) v.shelf.opens (s.idle n idle);
  }

  same-slots : (h : List Entry) (old new : View) → new.lanes ≡ old.lanes → new.shelf ≡ old.shelf → Slots h old → Slots h new
  same-slots h old new lanes shelf s = record {
    lanes = λ k lane there. subst (λ (f : Shelf). LaneTold h lane f.opens) (sym shelf) (s.lanes k lane (ap (λ (ls : List Lane). slice_get ls k) (sym lanes) ∙ there));
    idle = λ n other. subst (λ (f : Shelf). SlotsAgree modes h n f.opens) (sym shelf) (s.idle n (subst (λ (ls : List Lane). IsOther n (numbers_of ls)) lanes other));
  }

  -- ---- an operation begins

  began-is : (a b c d : ℕ) (o p : Op) → Began a b o ≡ Began c d p → a ≡ c
  began-is a b c d o p e = cc

  begins-slots : (h : List Entry) (old new : View) (lane line : ℕ) (op : Op) → StepsTo (machine_of mounted) h old (Began lane line op) new → Reaches (machine_of mounted) setup h old
      → (b : Bool) → old.lost ≡ b → new.lost ≡ false → BeginsIf b old lane (machine_of mounted lane op) (last_reading 0 h) new → (old.lost ≡ false → Slots h old)
      → Slots (h ++ Began lane line op ∷ []) new
  begins-slots h old new lane line op t r true was found is s =
      absurd (let no_way : true ≡ false = sym was ∙ sym (ap (λ (v : View). v.lost) is) ∙ found in cc)
  begins-slots h old new lane line op t r false was found b s =
      moves-slots later b.first new b.rest known-first first
    where
      later : List Entry
      later = h ++ Began lane line op ∷ []

      base : View
      base = counted old (last_reading 0 h)

      own : Slots h old
      own = s was

      pushed : (state : State) (shelf : Shelf) → LanesKnown later (record base { lanes = old.lanes ++ record { number = lane; state = state } ∷ []; shelf = shelf })
      pushed state shelf = lanes-begin h old lane line op (reached-lanes (machine_of mounted) setup h old r) t.idle.other state

      known-first : LanesKnown later b.first
      known-first = starts-stay (LanesKnown later) (lanes-stay later) base b.first lane (machine_of mounted lane op) pushed b.own

      agree : SlotsAgree modes later lane old.shelf.opens
      agree = agree-later modes h (Began lane line op) lane (λ l a e. cc) old.shelf.opens (own.idle lane t.idle.other)

      was-taken : (slot : ℕ) (o : Opened) → finite.get old.shelf.opens (lane, slot) ≡ Some o → WasTaken modes later (length h) lane slot
      was-taken slot o there =
          let shown : IsShown modes h lane slot o = subst (Agrees modes h lane slot) there (own.idle lane t.idle.other slot) in
          record {
            within = let more = length_last h (Began lane line op) in omega (arith, more);
            f = o.file;
            mode = o.mode;
            held = held-grow modes h (Began lane line op) lane slot o.file o.mode (length h) (omega arith) shown.held;
          }

      step : Stepped modes later (length h) lane (kind_of op) old.shelf b.own.next b.own.after b.own.shelf
      step = story-starts modes later (length h) lane (kind_of op) (machine_of mounted lane op) old.wsize (turn_at base) old.shelf b.own.next b.own.after b.own.shelf (begins-as modes mounted same lane op) agree was-taken b.own.starts

      not-lane : (k : ℕ) (l : Lane) → slice_get old.lanes k ≡ Some l → l.number ≢ lane
      not-lane k l there e = idle-numbers lane (numbers_of old.lanes) t.idle.other k (to-map number_of old.lanes k l there ∙ ap Some e)

      before : (k : ℕ) (l : Lane) → slice_get old.lanes k ≡ Some l → LaneTold later l b.own.shelf.opens
      before k l there =
          lane-moved later l old.shelf.opens b.own.shelf.opens (λ q. step.others (l.number, q) (not-lane k l there))
          (lane-grows h (Began lane line op) l old.shelf.opens (λ n a e. cc)
          (λ n o e. not-lane k l there (sym (began-is lane line l.number n op o e))) (λ a is bytes e. cc) (own.lanes k l there))

      told : (x : ℕ) (o : Op) → UnderWay later lane x (length later) o → ThenStory modes later x lane (kind_of o) b.own.shelf.opens b.own.next b.own.after
      told x o u = now-told (machine_of mounted) (begins-unbegun mounted) setup Always (λ g w k found number other. tt) Plain (plain-laws mounted) h old lane line op
          (λ y q. ThenStory modes later y lane (kind_of q) b.own.shelf.opens b.own.next b.own.after) (reached-lanes (machine_of mounted) setup h old r) t.idle.other step.then_ x o u

      first : Slots later b.first
      first = leads-slots later (record base { lanes = old.lanes ++ record { number = lane; state = Busy b.own.after } ∷ []; shelf = b.own.shelf }) b.first (length old.lanes) lane b.own.after b.own.next
          (pushed (Busy b.own.after) b.own.shelf)
          (record {
            there = at-push old.lanes (record { number = lane; state = Busy b.own.after });
            rest = λ k l there apart. by k l apart (get-push old.lanes (record { number = lane; state = Busy b.own.after }) k l there);
            idle = λ n other.
                let both = pushed-other n other in
                agree-same modes later n old.shelf.opens b.own.shelf.opens (λ q. step.others (n, q) both.1)
                (agree-later modes h (Began lane line op) n (λ l a e. cc) old.shelf.opens (own.idle n both.0));
            told = told;
          }) b.own.leads
        where
          by : (k : ℕ) (l : Lane) → k ≢ length old.lanes → (slice_get old.lanes k ≡ Some l) ⊎ ((k ≡ length old.lanes) × (l ≡ record { number = lane; state = Busy b.own.after }))
              → LaneTold later l b.own.shelf.opens
          by k l apart (inl here) = before k l here
          by k l apart (inr now) = absurd (apart now.0)

          pushed-other : (n : ℕ) → IsOther n (numbers_of (old.lanes ++ record { number = lane; state = Busy b.own.after } ∷ [])) → IsOther n (numbers_of old.lanes) × (n ≢ lane)
          pushed-other n other = (
            other-of n (numbers_of old.lanes) (λ k there.
                let found = in-map number_of old.lanes k n there in
                idle-numbers n (numbers_of (old.lanes ++ record { number = lane; state = Busy b.own.after } ∷ [])) other k
                (to-map number_of (old.lanes ++ record { number = lane; state = Busy b.own.after } ∷ []) k found.0
                (before-push old.lanes (record { number = lane; state = Busy b.own.after }) k found.0 found.1) ∙ ap Some (sym found.2))),
            λ e. idle-numbers n (numbers_of (old.lanes ++ record { number = lane; state = Busy b.own.after } ∷ [])) other (length old.lanes)
                (to-map number_of (old.lanes ++ record { number = lane; state = Busy b.own.after } ∷ []) (length old.lanes) (record { number = lane; state = Busy b.own.after })
                (at-push old.lanes (record { number = lane; state = Busy b.own.after })) ∙ ap Some (sym e)),
          )

  -- ---- a record comes

  came-slots : (h : List Entry) (rec : List ℕ) (old v : View) → HearsRecord old rec v → Slots h old → Slots (h ++ Delivered rec ∷ []) old
  came-slots h rec old v t s = slots-grow h (Delivered rec) old (λ n line answer e. cc) (λ n line op e. cc) (λ k number answer there bytes e. t.may.noted k number answer there) s

  hears-slots : (h : List Entry) (old : View) (rec : List ℕ) (new : View) (xid : ℕ) (call : Waiting Purpose) (at : ℕ) (first : View) → HearsRecord old rec new
      → Reaches (machine_of mounted) setup h old → old.lost ≡ false → xid_at rec ≡ Some xid → waiting_at xid old.calls.calls ≡ Some call → position (is_busy call.purpose.lane) old.lanes ≡ Some at
      → TakesAt (taken_one old xid) at call.purpose.sent (said_of call.purpose.proc rec) first → Slots h old → LanesKnown (h ++ Delivered rec ∷ []) first × Slots (h ++ Delivered rec ∷ []) first
  hears-slots h old rec new xid call at first t r found named waits there o s = (
    steps-stay (LanesKnown later) (lanes-stay later) mid first at o.number o.machine o.after o.shelf o.next o.there o.leads known,
    leads-slots later (with_state mid at o.number (Busy o.after) o.shelf) first at o.number o.after o.next
        ((lanes-stay later).sets mid at o.number (Busy o.machine) (Busy o.after) o.shelf o.there known)
        (owes later mid at o.number o.machine o.after o.shelf o.next known grown o.there step) o.leads,
  )
    where
      later : List Entry
      later = h ++ Delivered rec ∷ []

      mid : View
      mid = taken_one old xid

      known : LanesKnown later mid
      known = quiet-facts h (Delivered rec) (numbers_of old.lanes) (λ number. refl) (reached-lanes (machine_of mounted) setup h old r)

      grown : Slots later mid
      grown = same-slots later old mid refl refl (came-slots h rec old new t s)

      is : o.number ≡ call.purpose.lane
      is = eqb-true o.number call.purpose.lane (at-position (is_busy call.purpose.lane) old.lanes at (record { number = o.number; state = Busy o.machine }) there o.there)

      tells : (x : ℕ) (op : Op) → UnderWay later o.number x (length later) op → (reply : Reply) → said_of call.purpose.proc rec ≡ Ok reply → TellsOf later x o.machine reply
      tells x op u reply said =
          let was = under-back h (Delivered rec) o.number x op (λ line q e. cc) u in
          let good = good-over (machine_of mounted) (begins-unbegun mounted) setup Always (λ g w k f number other. tt) Plain (plain-laws mounted) h old r at
          (record { number = o.number; state = Busy o.machine }) o.there in
          let told = told-of (machine_of mounted) (begins-unbegun mounted) setup Always (λ g w k f number other. tt) Plain (plain-laws mounted) h old rec new xid call t r found named waits o.machine
          (good.0 xid call waits (sym is)) x was.line op (subst (λ (n : ℕ). At h x (Began n was.line op)) is was.began) in
          record { call = told.call; expects = told.expects; ends = told.ends reply said }

      step : (x : ℕ) (op : Op) → UnderWay later o.number x (length later) op → Stepped modes later x o.number (kind_of op) mid.shelf o.next o.after o.shelf
      step x op u = story-takes modes later x o.number (kind_of op) o.machine old.wsize call.purpose.sent (turn_at mid) (said_of call.purpose.proc rec) old.shelf o.next o.after o.shelf (tells x op u) (said-fine call.purpose.proc rec)
          (grown.lanes at (record { number = o.number; state = Busy o.machine }) o.there x op u) o.takes

  heard-slots : (b : Bool) (h : List Entry) (old : View) (rec : List ℕ) (new : View) → old.lost ≡ b → new.lost ≡ false → HearsRecord old rec new → Reaches (machine_of mounted) setup h old
      → Heard old rec new → (old.lost ≡ false → Slots h old) → Slots (h ++ Delivered rec ∷ []) new
  heard-slots b h old rec new was found t r (dropped none is) s =
      subst (Slots (h ++ Delivered rec ∷ [])) (sym is) (came-slots h rec old new t (s (sym (ap (λ (v : View). v.lost) is) ∙ found)))
  heard-slots true h old rec new was found t r (replied xid call named waits f) s =
      let none : NoneBusy old = (comes-to-rest (machine_of mounted) setup h old r).over was in
      let first : f.first ≡ taken_one old xid = own-none (taken_one old xid) rec call.purpose f.first none f.own in
      let none-first : NoneBusy f.first = subst NoneBusy (sym first) none in
      let is : new ≡ taken_one old xid = none-moves f.first new f.rest none-first ∙ first in
      absurd (let no_way : true ≡ false = sym was ∙ sym (ap (λ (v : View). v.lost) is) ∙ found in cc)
  heard-slots false h old rec new was found t r (replied xid call named waits f) s = by (position (is_busy call.purpose.lane) old.lanes) refl f.own
    where
      by : (o : Option ℕ) → position (is_busy call.purpose.lane) old.lanes ≡ o
          → MatchOption o (f.first ≡ taken_one old xid) (λ at. TakesAt (taken_one old xid) at call.purpose.sent (said_of call.purpose.proc rec) f.first)
          → Slots (h ++ Delivered rec ∷ []) new
      by None none is = absurd (none-busy old xid call waits none (reached-count (machine_of mounted) (begins-unbegun mounted) setup h old r was).counted)
      by (Some at) there o = let b = hears-slots h old rec new xid call at f.first t r was named waits there o (s was) in moves-slots (h ++ Delivered rec ∷ []) f.first new f.rest b.0 b.1

  -- ---- an answer is noted

  answers-slots : (h : List Entry) (old new : View) (lane line : ℕ) (answer : Answer) → StepsTo (machine_of mounted) h old (Answered lane line answer) new → Reaches (machine_of mounted) setup h old
      → Slots h old → Slots (h ++ Answered lane line answer ∷ []) new
  answers-slots h old new lane line answer t r s = subst (Slots later) (sym a.is.is) (record {
    lanes = λ k l there.
        lane-grows h (Answered lane line answer) l old.shelf.opens (other-answer k l there) (λ n op e. cc) (λ b is bytes e. cc) (s.lanes (skip a.at k) l (get-remove old.lanes a.at k l there));
    idle = λ n other. by n other (nat_eq n lane) refl;
  })
    where
      later : List Entry
      later = h ++ Answered lane line answer ∷ []

      a : AnsweredNow old lane answer new
      a = answered_now old lane answer new t.answers

      own : Lane
      own = record { number = lane; state = Over a.is.answer }

      known : LanesKnown h old
      known = reached-lanes (machine_of mounted) setup h old r

      answer-same : (p q : ℕ) (c d : Answer) (l k : ℕ) → Answered p l c ≡ Answered q k d → p ≡ q
      answer-same p q c d l k e = cc

      other-answer : (k : ℕ) (l : Lane) → slice_get (remove old.lanes a.at) k ≡ Some l → (n : ℕ) (b : Answer) → Answered lane line answer ≡ Answered l.number n b → ⊥
      other-answer k l there n b e =
          skip-other a.at k ((lanes-under-way h old known).apart (skip a.at k) a.at l own (get-remove old.lanes a.at k l there) a.is.there (sym (answer-same lane l.number answer b line n e)))

      one-answer : (p q : Answer) → Some p ≡ Some q → p ≡ q
      one-answer p q e = cc

      told : (x : ℕ) (op : Op) → UnderWay h lane x (length h) op → StoryOf modes h x lane (kind_of op) (Over answer) old.shelf.opens
      told x op u = subst (λ (b : Answer). StoryOf modes h x lane (kind_of op) (Over b) old.shelf.opens) (sym (one-answer answer a.is.answer a.is.gives)) (s.lanes a.at own a.is.there x op u)

      under : (x : ℕ) (op : Op) (b : Answer) → Ended later lane x op (length h) b → UnderWay h lane x (length h) op
      under x op b d = answered-under (machine_of mounted) (begins-unbegun mounted) setup Always (λ g w k f number other. tt) Plain (plain-laws mounted) h lane line answer x op b d

      -- the operation that was under way is answered now
      gone : (k : ℕ) → slice_get (numbers_of new.lanes) k ≡ Some lane → ⊥
      gone k there =
          let found = in-map number_of new.lanes k lane there in
          let here : slice_get (remove old.lanes a.at) k ≡ Some found.0 = ap (λ (v : View). slice_get v.lanes k) (sym a.is.is) ∙ found.1 in
          skip-other a.at k ((lanes-under-way h old known).apart (skip a.at k) a.at found.0 own (get-remove old.lanes a.at k found.0 here) a.is.there (sym found.2))

      began-parts : (p b c d : ℕ) (o q : Op) → Began p b o ≡ Began c d q → (p ≡ c) × (o ≡ q)
      began-parts p b c d o q e = (cc, cc)

      answer-parts : (p b c d : ℕ) (o q : Answer) → Answered p b o ≡ Answered c d q → q ≡ o
      answer-parts p b c d o q e = cc

      ended : (x : ℕ) (op : Op) → UnderWay h lane x (length h) op → Ended later lane x op (length h) answer
      ended x op u = by (((reached-lanes (machine_of mounted) setup later new (goes later h new old (Answered lane line answer) r refl t)).rest lane gone).answered x u.line op
          (At-grow h (Answered lane line answer ∷ []) x (Began lane u.line op) u.began))
        where
          by : AnsweredBefore later x (length later) → Ended later lane x op (length h) answer
          by b = of (cases_lt b.y (length h))
            where
              of : (b.y < length h) ⊎ (length h ≤ b.y) → Ended later lane x op (length h) answer
              of (inl low) = absurd (u.unanswered (record {
                lane = b.lane;
                op = b.op;
                y = b.y;
                answer = b.answer;
                ended = ended-back h (Answered lane line answer) b.lane x b.op b.y b.answer low b.ended;
                before = low;
              }))
              of (inr high) =
                  let last = b.before in
                  let more = length_last h (Answered lane line answer) in
                  let y : b.y ≡ length h = omega (arith, high, last, more) in
                  let parts = began-parts b.lane b.ended.line lane u.line b.op op
                  (At-one later x (Began b.lane b.ended.line b.op) (Began lane u.line op) b.ended.began (At-grow h (Answered lane line answer ∷ []) x (Began lane u.line op) u.began)) in
                  let here : Ended later b.lane x b.op (length h) b.answer = subst (λ (z : ℕ). Ended later b.lane x b.op z b.answer) y b.ended in
                  let same : b.answer ≡ answer = answer-parts lane line b.lane here.line answer b.answer (ended-now h (Answered lane line answer) b.lane x b.op b.answer here) in
                  subst (λ (n : ℕ). Ended later n x op (length h) answer) parts.0
                  (subst (λ (o : Op). Ended later b.lane x o (length h) answer) parts.1 (subst (λ (c : Answer). Ended later b.lane x b.op (length h) c) same here))

      by : (n : ℕ) → IsOther n (numbers_of (remove old.lanes a.at)) → (b : Bool) → nat_eq n lane ≡ b → SlotsAgree modes later n old.shelf.opens
      by n other true is =
          let u = (lanes-under-way h old known).busy a.at own a.is.there in
          subst (λ (k : ℕ). SlotsAgree modes later k old.shelf.opens) (sym (eqb-true n lane is))
          (noted modes h lane line answer old.shelf.opens told under u.x u.op (ended u.x u.op u.under_way) (told u.x u.op u.under_way))
      by n other false is =
          let apart = eqb-false n lane is in
          agree-later modes h (Answered lane line answer) n (λ l b e. apart (sym (answer-same lane n answer b line l e))) old.shelf.opens
          (s.idle n (less-numbers (numbers_of old.lanes) a.at n lane (to-map number_of old.lanes a.at own a.is.there) apart
          (subst (IsOther n) (map-remove number_of old.lanes a.at) other)))

  -- ---- the steps of the core

  failed-slots : (h : List Entry) (old new : View) → new.lost ≡ false → FailedNow old new → Slots h old → Slots h new
  failed-slots h old new found (goes_on none is) s = same-slots h old new (ap (λ (v : View). v.lanes) is) (ap (λ (v : View). v.shelf) is) s
  failed-slots h old new found (gives_up xid up is) s = absurd (let no_way : true ≡ false = sym (ap (λ (v : View). v.lost) is) ∙ found in cc)

  failed-lost : (old new : View) → new.lost ≡ false → FailedNow old new → old.lost ≡ false
  failed-lost old new found (goes_on none is) = sym (ap (λ (v : View). v.lost) is) ∙ found
  failed-lost old new found (gives_up xid up is) = absurd (let no_way : true ≡ false = sym (ap (λ (v : View). v.lost) is) ∙ found in cc)

  -- an entry that leaves the core as it is
  quiet-step : (h : List Entry) (e : Entry) (old new : View) → ((n line : ℕ) (answer : Answer) → e ≡ Answered n line answer → ⊥) → ((n line : ℕ) (op : Op) → e ≡ Began n line op → ⊥)
      → ((bytes : List ℕ) → e ≡ Delivered bytes → ⊥) → new ≡ old → new.lost ≡ false → (old.lost ≡ false → Slots h old) → Slots (h ++ e ∷ []) new
  quiet-step h e old new quiet other silent is found s =
      subst (Slots (h ++ e ∷ [])) (sym is) (slots-grow h e old quiet other (λ k number answer there bytes same. silent bytes same) (s (sym (ap (λ (v : View). v.lost) is) ∙ found)))

  slots-step : (h : List Entry) (old : View) (e : Entry) (new : View) → StepsTo (machine_of mounted) h old e new → Reaches (machine_of mounted) setup h old → new.lost ≡ false
      → (old.lost ≡ false → Slots h old) → Slots (h ++ e ∷ []) new
  slots-step h old (Began lane line op) new t r found s = begins-slots h old new lane line op t r old.lost refl found t.step s
  slots-step h old (Answered lane line answer) new t r found s =
      let a = answered_now old lane answer new t.answers in
      answers-slots h old new lane line answer t r (s (sym (ap (λ (v : View). v.lost) a.is.is) ∙ found))
  slots-step h old (Sent bytes) new t r found s =
      let n = sent_now old bytes new t in
      same-slots (h ++ Sent bytes ∷ []) old new (ap (λ (v : View). v.lanes) n.is) (ap (λ (v : View). v.shelf) n.is)
      (slots-grow h (Sent bytes) old (λ k line answer e. cc) (λ k line op e. cc) (λ k number answer there b e. cc) (s (sym (ap (λ (v : View). v.lost) n.is) ∙ found)))
  slots-step h old (Delivered bytes) new t r found s = heard-slots old.lost h old bytes new refl found t r (heard old bytes t.result new t.hears) s
  slots-step h old Failed new (inl t) r found s =
      let f = failed_now old t.0 new t.1 in
      failed-slots (h ++ Failed ∷ []) old new found f
      (slots-grow h Failed old (λ k line answer e. cc) (λ k line op e. cc) (λ k number answer there b e. cc) (s (failed-lost old new found f)))
  slots-step h old Failed new (inr t) r found s = quiet-step h Failed old new (λ k line answer e. cc) (λ k line op e. cc) (λ b e. cc) t found s
  slots-step h old (Dialed port) new t r found s = quiet-step h (Dialed port) old new (λ k line answer e. cc) (λ k line op e. cc) (λ b e. cc) t found s
  slots-step h old (Executed xid call reply) new t r found s = quiet-step h (Executed xid call reply) old new (λ k line answer e. cc) (λ k line op e. cc) (λ b e. cc) t found s
  slots-step h old (Foreign call reply) new t r found s = quiet-step h (Foreign call reply) old new (λ k line answer e. cc) (λ k line op e. cc) (λ b e. cc) t found s
  slots-step h old (Flushed file from len) new t r found s = quiet-step h (Flushed file from len) old new (λ k line answer e. cc) (λ k line op e. cc) (λ b e. cc) t found s
  slots-step h old (Reboot verf) new t r found s = quiet-step h (Reboot verf) old new (λ k line answer e. cc) (λ k line op e. cc) (λ b e. cc) t found s
  slots-step h old (Clock ms) new t r found s = quiet-step h (Clock ms) old new (λ k line answer e. cc) (λ k line op e. cc) (λ b e. cc) t found s

  -- before an operation has begun
  slots-fresh : (h : List Entry) (v : View) → IsSetUp setup h → IsFresh setup v → Slots h v
  slots-fresh h v up fresh = record {
    lanes = λ k lane there. absurd (let no_way : None ≡ Some lane = ap (λ (lanes : List Lane). slice_get lanes k) (sym fresh.lanes) ∙ there in cc);
    idle = λ n other s.
        subst (Agrees modes h n s) (sym (ap (λ (o : Opens). finite.get o (n, s)) fresh.opens ∙ finite.get-empty place_cmp (n, s)))
        (λ f mode i. up.unbegun i.x n i.holds.opens.ended.line (ops.OpenFile s i.holds.opens.mode i.holds.opens.path) i.holds.opens.ended.began);
  }

  pub reached-slots : (h : List Entry) (v : View) → Reaches (machine_of mounted) setup h v → v.lost ≡ false → Slots h v
  reached-slots _ _ (begins h v may up fresh) found = slots-fresh h v up fresh
  reached-slots _ _ (goes h before v b e r is t) found = subst (λ (k : List Entry). Slots k v) (sym is) (slots-step before b e v t r found (reached-slots before b r))
  reached-slots _ _ (loses h v b r shown is) found = absurd (let no_way : true ≡ false = sym (ap (λ (w : View). w.lost) is) ∙ found in cc)
