-- What is known of the operations under way as to slots: each step of a lane and each entry keeps it.
use Rattle.core_session.proofs.Prelude.{◌≡◌, ◌≢◌, ◌⊎◌, ◌+◌, ◌-◌, inl, inr, ℕ, List, [], ◌∷◌, ◌++◌, length, remove, false, Some, None, position, slice_get, slice_set, sym, ap, subst, ◌∙◌, arith, Opens, Waiting, waiting_at, Answer, Entry, Began, Answered, Delivered, Op, Modes, UnderWay, At-last, length_last, said_of, LaneFile, Shelf, CloseFile, Closing, joined, Mounted, Machine, machine_of, Lane, Purpose, State, Busy, Over, Setup, IsFresh, is_busy, IsIdle, numbers_of, Stirs, counted, StartsLane, TakesAt, AnswersAt, View, turn_at, in_flight, of_closing, AreApart, Reaches, taken_one, Known, taker-one, lanes-under-way, idle-numbers, number_of, get-push, get-remove, skip, to-map, reached-slots, SameCalls, CloseTurn, IsFirst, Turned}
use Rattle.core_facts.proofs.Lists.{skip-other}
use Rattle.core_answers.proofs.writes.AllTurns.{TurnOf, keeps-turned}
use Rattle.file_ops.specs.declared.close_file.Closing.TheVariants as closings
use Rattle.op_machines.specs.declared.file_machine.FileMachine.TheVariants as files
use Rattle.op_machines.specs.declared.machine.Machine.TheVariants as machines
use Rattle.core_session.proofs.drops.Drops.{LaneTold, LanesTold, lane-moved, lane-grows, lanes-set, OwnLed, WasCloser, HadFile, WasNone, HadNone, own-told, own-others, own-goes, own-hears, own-begins}
use Rattle.core_session.proofs.drops.SlotKinds.{begins-as, OnlyLess}
use Rattle.core_session.proofs.drops.KnowingAlong.{IsPlain}
use Rattle.core_session.proofs.drops.Leading.{stirs-led, takes-led, starts-led}

-- ---- whose turn it is

module _ (number : ℕ) (order : List LaneFile) (machine : Machine) where
  -- of a close
  pub close-turn : (c : CloseFile) → machine ≡ machines.File (files.Close c) → c.lane ≡ number → TurnOf machine order → CloseTurn (IsFirst number order) c.state
  close-turn c is of_lane t =
      subst (λ (n : ℕ). CloseTurn (IsFirst n order) c.state) of_lane (subst (λ (m : Machine). TurnOf m order) is t)

  -- of one that waits for a call
  pub close-first : (c : CloseFile) (others : ℕ) → machine ≡ machines.File (files.Close c) → c.lane ≡ number → TurnOf machine order → in_flight machine ≡ others + 1 → IsFirst number order
  close-first c others is of_lane t one = by c.state (close-turn c is of_lane t) (sym (ap in_flight is) ∙ one)
    where
      by : (state : Closing) → CloseTurn (IsFirst number order) state → of_closing state ≡ others + 1 → IsFirst number order
      by closings.Idle k n = absurd (omega (arith, n))
      by (closings.Queued saving) k n = absurd (omega (arith, n))
      by (closings.Saves saving) k n = k (omega (arith, n))
      by (closings.ToRemove removal) k n = k
      by (closings.Removing removal) k n = k

-- ---- what is kept

pub record DropsKnown (m : Modes) (h : List Entry) (v : View) : Type 0 where
  pub turned : Turned v
  pub lanes : LanesTold m h v.lanes v.shelf.opens

-- one lane has made a step
pub record OneStepped (m : Modes) (h : List Entry) (old new : View) : Type 0 where
  pub at : ℕ
  pub number : ℕ
  pub machine : Machine
  pub x : ℕ
  pub op : Op
  pub state : State
  pub there : slice_get old.lanes at ≡ Some (record { number = number; state = Busy machine })
  pub under_way : UnderWay h number x (length h) op
  pub lanes_are : new.lanes ≡ slice_set old.lanes at (record { number = number; state = state })
  pub own : OwnLed m h number x op state old.shelf.opens new.shelf.opens (λ file. IsFirst number old.shelf.order) (WasCloser number machine old.shelf.opens) (WasNone machine)

pub stepped-lanes : (m : Modes) (h : List Entry) (old new : View) (s : OneStepped m h old new) → AreApart old.lanes → LanesTold m h old.lanes old.shelf.opens
    → LanesTold m h new.lanes new.shelf.opens
stepped-lanes m h old new s apart told =
    subst (λ (ls : List Lane). LanesTold m h ls new.shelf.opens) (sym s.lanes_are)
    (lanes-set m h old.lanes s.at s.number (Busy s.machine) s.state old.shelf.opens new.shelf.opens apart s.there
    (own-others m h s.number s.x s.op old.shelf.opens new.shelf.opens (λ file. IsFirst s.number old.shelf.order) (WasCloser s.number s.machine old.shelf.opens) (WasNone s.machine) s.state s.own) told
    (own-told m h s.number s.x s.op old.shelf.opens new.shelf.opens (λ file. IsFirst s.number old.shelf.order) (WasCloser s.number s.machine old.shelf.opens) (WasNone s.machine) s.state s.under_way s.own))

pub stirs-stepped : (m : Modes) (h : List Entry) (old new : View) (at : ℕ) → Stirs old at new → DropsKnown m h old → OneStepped m h old new × OnlyLess old.shelf.opens new.shelf.opens
stirs-stepped m h old new at t d =
    let l = stirs-led old new at t in
    let told = d.lanes at (record { number = t.number; state = Busy t.machine }) t.there in
    let turn = d.turned.turns at (record { number = t.number; state = Busy t.machine }) t.there in
    let o = own-goes m h t.number told.x told.op old.wsize t.machine old.shelf (IsFirst t.number old.shelf.order) (turn_at old) (λ first. first)
    (λ c is of_lane. close-turn t.number old.shelf.order t.machine c is of_lane turn) told.told l.state new.shelf l.leading in
    (record { at = at; number = t.number; machine = t.machine; x = told.x; op = told.op; state = l.state; there = t.there; under_way = told.under_way; lanes_are = l.lanes_are; own = o.0 }, o.1)

-- the table and lanes with one entry more, which answers none of them
pub lanes-grow : (m : Modes) (h : List Entry) (e : Entry) (lanes : List Lane) (opens : Opens) → ((k : ℕ) (lane : Lane) → slice_get lanes k ≡ Some lane → (line : ℕ) (answer : Answer)
    → e ≡ Answered lane.number line answer → ⊥) → LanesTold m h lanes opens → LanesTold m (h ++ e ∷ []) lanes opens
lanes-grow m h e lanes opens other told k lane there = lane-grows m h e lane.number (other k lane there) lane.state opens (told k lane there)

module _ (mounted : Mounted) (m : Modes) (same : mounted.nocto ≡ m.nocto) (setup : Setup) where
  pub drops-stirs : (h : List Entry) (old new : View) (at : ℕ) → Known setup h old → Stirs old at new → DropsKnown m h old → DropsKnown m h new
  drops-stirs h old new at k t d = record {
    turned = (keeps-turned mounted setup).stirs h old new at k t d.turned;
    lanes = stepped-lanes m h old new (stirs-stepped m h old new at t d).0 (lanes-under-way h old k.lanes).apart d.lanes;
  }

  module _ (h : List Entry) (old new : View) (rec : List ℕ) (xid : ℕ) (call : Waiting Purpose) (at : ℕ) (k : Known setup h old) (waits : waiting_at xid old.calls.calls ≡ Some call)
      (there : position (is_busy call.purpose.lane) old.lanes ≡ Some at) (t : TakesAt (taken_one old xid) at call.purpose.sent (said_of call.purpose.proc rec) new) (d : DropsKnown m h old) where
    pub takes-stepped : OneStepped m (h ++ Delivered rec ∷ []) old new
    takes-stepped =
        let l = takes-led (taken_one old xid) new at call.purpose.sent (said_of call.purpose.proc rec) t in
        let told = lane-grows m h (Delivered rec) t.number (λ line answer e. absurd cc) (Busy t.machine) old.shelf.opens (d.lanes at (record { number = t.number; state = Busy t.machine }) t.there) in
        let turn = d.turned.turns at (record { number = t.number; state = Busy t.machine }) t.there in
        let one = taker-one setup h old xid call at k waits there t.number t.machine t.there in
        record {
          at = at;
          number = t.number;
          machine = t.machine;
          x = told.x;
          op = told.op;
          state = l.state;
          there = t.there;
          under_way = told.under_way;
          lanes_are = l.lanes_are;
          own = own-hears m (h ++ Delivered rec ∷ []) t.number told.x told.op old.wsize t.machine old.shelf (IsFirst t.number old.shelf.order) call.purpose.sent (turn_at (taken_one old xid))
              (said_of call.purpose.proc rec) (λ c is of_lane. close-first t.number old.shelf.order t.machine c (in_flight t.machine - 1) is of_lane turn one) told.told l.state new.shelf l.leading;
        }

    pub drops-takes : DropsKnown m (h ++ Delivered rec ∷ []) new
    drops-takes = record {
      turned = (keeps-turned mounted setup).takes h old new rec xid call at k waits there t d.turned;
      lanes = stepped-lanes m (h ++ Delivered rec ∷ []) old new takes-stepped (lanes-under-way h old k.lanes).apart
          (lanes-grow m h (Delivered rec) old.lanes old.shelf.opens (λ j lane here line answer e. absurd cc) d.lanes);
    }

  -- ---- an operation begins

  began-under : (h : List Entry) (lane line : ℕ) (op : Op) → UnderWay (h ++ Began lane line op ∷ []) lane (length h) (length (h ++ Began lane line op ∷ [])) op
  began-under h lane line op = record {
    line = line;
    began = At-last h (Began lane line op);
    before = let more = length_last h (Began lane line op) in omega (arith, more);
    unanswered = λ a. let late = a.ended.later in let low = a.before in let more = length_last h (Began lane line op) in absurd (omega (arith, late, low, more));
  }

  -- a lane more, which has made its first step
  pub record Begun (h : List Entry) (old new : View) (lane line : ℕ) (op : Op) : Type 0 where
    pub state : State
    pub lanes_are : new.lanes ≡ old.lanes ++ record { number = lane; state = state } ∷ []
    pub own : OwnLed m (h ++ Began lane line op ∷ []) lane (length h) op state old.shelf.opens new.shelf.opens (λ file. IsFirst lane (joined lane file old.shelf).order) (HadFile lane old.shelf.opens) (HadNone lane op old.shelf.opens)
    pub less : OnlyLess old.shelf.opens new.shelf.opens

  pub starts-begun : (h : List Entry) (old new : View) (lane line : ℕ) (op : Op) (now : ℕ) → Reaches (machine_of mounted) setup h old → old.lost ≡ false → IsIdle lane old.lanes
      → StartsLane (counted old now) lane (machine_of mounted lane op) new → Begun h old new lane line op
  starts-begun h old new lane line op now r found idle t =
      let l = starts-led (counted old now) new lane (machine_of mounted lane op) t in
      let slots = (reached-slots m mounted same setup h old r found).idle lane idle.other in
      let o = own-begins m h lane line op old.wsize (machine_of mounted lane op) (turn_at (counted old now)) old.shelf slots (begins-as m mounted same lane op) l.state new.shelf l.leading in
      record { state = l.state; lanes_are = l.lanes_are; own = o.0; less = o.1 }

  pub drops-starts : (h : List Entry) (old new : View) (lane line : ℕ) (op : Op) (now : ℕ) → Reaches (machine_of mounted) setup h old → old.lost ≡ false → Known setup h old
      → IsIdle lane old.lanes → StartsLane (counted old now) lane (machine_of mounted lane op) new → DropsKnown m h old → DropsKnown m (h ++ Began lane line op ∷ []) new
  drops-starts h old new lane line op now r found k idle t d = record {
    turned = (keeps-turned mounted setup).starts h old new lane op now k idle t d.turned;
    lanes = subst (λ (ls : List Lane). LanesTold m later ls new.shelf.opens) (sym b.lanes_are) pushed;
  }
    where
      later : List Entry
      later = h ++ Began lane line op ∷ []

      b : Begun h old new lane line op
      b = starts-begun h old new lane line op now r found idle t

      not-lane : (j : ℕ) (l : Lane) → slice_get old.lanes j ≡ Some l → l.number ≢ lane
      not-lane j l there e = idle-numbers lane (numbers_of old.lanes) idle.other j (to-map number_of old.lanes j l there ∙ ap Some e)

      grown : LanesTold m later old.lanes old.shelf.opens
      grown = lanes-grow m h (Began lane line op) old.lanes old.shelf.opens (λ j l here n a e. absurd cc) d.lanes

      pushed : LanesTold m later (old.lanes ++ record { number = lane; state = b.state } ∷ []) new.shelf.opens
      pushed j l there = by (get-push old.lanes (record { number = lane; state = b.state }) j l there)
        where
          by : (slice_get old.lanes j ≡ Some l) ⊎ ((j ≡ length old.lanes) × (l ≡ record { number = lane; state = b.state })) → LaneTold m later l.number l.state new.shelf.opens
          by (inl here) =
              lane-moved m later l.number old.shelf.opens new.shelf.opens
              (λ s. own-others m later lane (length h) op old.shelf.opens new.shelf.opens (λ file. IsFirst lane (joined lane file old.shelf).order) (HadFile lane old.shelf.opens) (HadNone lane op old.shelf.opens) b.state b.own (l.number, s) (not-lane j l here)) l.state (grown j l here)
          by (inr now_) =
              subst (λ (k : Lane). LaneTold m later k.number k.state new.shelf.opens) (sym now_.1)
              (own-told m later lane (length h) op old.shelf.opens new.shelf.opens (λ file. IsFirst lane (joined lane file old.shelf).order) (HadFile lane old.shelf.opens) (HadNone lane op old.shelf.opens) b.state (began-under h lane line op) b.own)

  -- ---- other entries

  pub drops-fresh : (h : List Entry) (v : View) → IsFresh setup v → DropsKnown m h v
  drops-fresh h v fresh = record {
    turned = (keeps-turned mounted setup).fresh v fresh;
    lanes = λ k lane there. absurd (let no_way : None ≡ Some lane = ap (λ (lanes : List Lane). slice_get lanes k) (sym fresh.lanes) ∙ there in cc);
  }

  pub drops-answers : (h : List Entry) (old new : View) (at lane line : ℕ) (answer : Answer) → Known setup h old → AnswersAt old at lane (Some answer) new → DropsKnown m h old
      → DropsKnown m (h ++ Answered lane line answer ∷ []) new
  drops-answers h old new at lane line answer k a d = record {
    turned = (keeps-turned mounted setup).answers h old new at lane answer k a d.turned;
    lanes = subst (λ (w : View). LanesTold m (h ++ Answered lane line answer ∷ []) w.lanes w.shelf.opens) (sym a.is) rest;
  }
    where
      lane-is : (n p q l : ℕ) (c b : Answer) → Answered n p c ≡ Answered q l b → q ≡ n
      lane-is n p q l c b e = cc

      rest : LanesTold m (h ++ Answered lane line answer ∷ []) (remove old.lanes at) old.shelf.opens
      rest j l there =
          let was = get-remove old.lanes at j l there in
          lane-grows m h (Answered lane line answer) l.number
          (λ n b e. skip-other at j ((lanes-under-way h old k.lanes).apart (skip at j) at l (record { number = lane; state = Over a.answer }) was a.there (lane-is lane line l.number n answer b e)))
          l.state old.shelf.opens (d.lanes (skip at j) l was)

  pub drops-same : (h : List Entry) (e : Entry) (old new : View) → IsPlain e → new.lanes ≡ old.lanes → new.shelf ≡ old.shelf → SameCalls old.calls.calls new.calls.calls → DropsKnown m h old
      → DropsKnown m (h ++ e ∷ []) new
  drops-same h e old new plain lanes shelf calls d = record {
    turned = (keeps-turned mounted setup).same old new lanes shelf calls.purposes d.turned;
    lanes = subst (λ (ls : List Lane). LanesTold m (h ++ e ∷ []) ls new.shelf.opens) (sym lanes)
        (subst (λ (s : Shelf). LanesTold m (h ++ e ∷ []) old.lanes s.opens) (sym shelf)
        (lanes-grow m h e old.lanes old.shelf.opens (λ j l here n a is. plain.answers_ l.number n a is) d.lanes));
  }
