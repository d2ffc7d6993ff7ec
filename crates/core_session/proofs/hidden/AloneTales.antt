-- Of each close past its sync: its slot held its file alone at a moment since it began, or the table has no slot that holds the file.
use Rattle.core_session.proofs.Prelude.{◌≡◌, ◌≢◌, ◌⊎◌, inl, inr, ℕ, List, [], ◌∷◌, ◌++◌, length, false, Some, None, slice_get, slice_set, sym, ap, subst, ◌∙◌, arith, Opens, Waiting, Answer, Entry, Began, Answered, Delivered, Op, UnderWay, Terms, length_last, said_of, Shelf, Mounted, machine_of, Starts, Resumes, Takes, Lane, Purpose, State, Busy, Over, Setup, IsFresh, IsIdle, numbers_of, Stirs, counted, StartsLane, TakesAt, AnswersAt, View, turn_at, Reaches, HearsRecord, begins-unbegun, taken_one, idle-numbers, number_of, at-set, get-push, get-remove, skip, to-map, by-place, set-other, under-back}
use Rattle.claims.specs.Asks.{HeldAlone}
use Rattle.op_machines.specs.declared.file_machine.FileMachine.TheVariants as files
use Rattle.op_machines.specs.declared.machine.Machine.TheVariants as machines
use Rattle.core_session.proofs.calls.TableHeld.{AllNoted}
use Rattle.core_session.proofs.drops.Dropping.{less-open}
use Rattle.core_session.proofs.drops.Growing.{slot-back}
use Rattle.core_session.proofs.drops.KnowingAlong.{StepsKnowing, reached-knowing}
use Rattle.core_session.proofs.drops.Laws.{DropsKnown, stirs-stepped, starts-begun, drops-fresh, drops-stirs, drops-starts, drops-takes, drops-answers, drops-same}
use Rattle.core_session.proofs.drops.Leading.{Pushed, stirs-led, takes-led, starts-led}
use Rattle.core_session.proofs.drops.SlotKinds.{OnlyLess}
use Rattle.core_session.proofs.hidden.AloneNow.{alone-now}
use Rattle.core_session.proofs.hidden.Shut.{IsShut, StatePast, MachinePast, resumes-past, takes-past, starts-past, led-past}

module _ (terms : Terms) where
  -- the slot held the file alone at a moment since the place x
  abbrev pub WasAlone : List Entry → ℕ → ℕ → ℕ → List ℕ → Type 0
  WasAlone h x n s f = HeldAlone terms h x (length h) n s f

  pub alone-later : (h : List Entry) (e : Entry) (x n s : ℕ) (f : List ℕ) → WasAlone h x n s f → WasAlone (h ++ e ∷ []) x n s f
  alone-later h e x n s f k =
      let soon = k.moment.soon in
      let more = length_last h e in
      record {
        n = k.n;
        moment = record { late = k.moment.late; soon = omega (arith, soon, more) };
        alone = λ other its open_at i. let was = slot-back terms.modes h e k.n other its open_at f (omega (arith, soon)) i in k.alone other its was.x was.holds;
      }

  abbrev pub AloneOr : List Entry → Opens → ℕ → ℕ → ℕ → List ℕ → Type 0
  AloneOr h opens x n s f = WasAlone h x n s f ⊎ IsShut f opens

  abbrev pub LaneAlone : List Entry → Opens → ℕ → State → Type 0
  LaneAlone h opens n state = (f : List ℕ) (s : ℕ) → StatePast f s state → (x : ℕ) (op : Op) → UnderWay h n x (length h) op → AloneOr h opens x n s f

  abbrev pub LanesAlone : List Entry → Opens → List Lane → Type 0
  LanesAlone h opens lanes = (k : ℕ) (lane : Lane) → slice_get lanes k ≡ Some lane → LaneAlone h opens lane.number lane.state

  -- with fewer slots in the table
  less-alone : (h : List Entry) (old new : Opens) (x n s : ℕ) (f : List ℕ) → OnlyLess old new → AloneOr h old x n s f → AloneOr h new x n s f
  less-alone h old new x n s f less (inl k) = inl k
  less-alone h old new x n s f less (inr shut) = inr (λ open_. shut (less-open old new f less open_))

  -- and with one entry more, at which no operation of the lane begins
  more-alone : (h : List Entry) (e : Entry) (opens : Opens) (n : ℕ) (state : State) → ((line : ℕ) (op : Op) → e ≡ Began n line op → ⊥) → LaneAlone h opens n state
      → LaneAlone (h ++ e ∷ []) opens n state
  more-alone h e opens n state other all f s p x op u = by (all f s p x op (under-back h e n x op other u))
    where
      by : AloneOr h opens x n s f → AloneOr (h ++ e ∷ []) opens x n s f
      by (inl k) = inl (alone-later h e x n s f k)
      by (inr shut) = inr shut

  -- what a step makes of its own lane
  own-alone : (h : List Entry) (old new : Opens) (n : ℕ) (was state : State) → LaneAlone h old n was
      → ((f : List ℕ) (s : ℕ) → StatePast f s state → (StatePast f s was × (new ≡ old)) ⊎ IsShut f new) → LaneAlone h new n state
  own-alone h old new n was state all step f s p x op u = by (step f s p)
    where
      on : new ≡ old → AloneOr h old x n s f → AloneOr h new x n s f
      on same (inl k) = inl k
      on same (inr shut) = inr (subst (IsShut f) (sym same) shut)

      by : (StatePast f s was × (new ≡ old)) ⊎ IsShut f new → AloneOr h new x n s f
      by (inr shut) = inr shut
      by (inl k) = on k.1 (all f s k.0 x op u)

  lanes-set : (h : List Entry) (opens : Opens) (lanes : List Lane) (at number : ℕ) (was state : State) → slice_get lanes at ≡ Some (record { number = number; state = was })
      → LanesAlone h opens lanes → LaneAlone h opens number state → LanesAlone h opens (slice_set lanes at (record { number = number; state = state }))
  lanes-set h opens lanes at number was state there all own =
      by-place (λ (l : Lane). LaneAlone h opens l.number l.state) (slice_set lanes at (record { number = number; state = state })) at (record { number = number; state = state })
      (at-set lanes at (record { number = number; state = was }) (record { number = number; state = state }) there) own
      (λ k lane here apart. all k lane (sym (set-other lanes at k (record { number = number; state = state }) apart) ∙ here))

  less-lanes : (h : List Entry) (old new : Opens) (lanes : List Lane) → OnlyLess old new → LanesAlone h old lanes → LanesAlone h new lanes
  less-lanes h old new lanes less all k lane there f s p x op u = less-alone h old new x lane.number s f less (all k lane there f s p x op u)

  more-lanes : (h : List Entry) (e : Entry) (opens : Opens) (lanes : List Lane) → ((k : ℕ) (lane : Lane) → slice_get lanes k ≡ Some lane → (line : ℕ) (op : Op) → e ≡ Began lane.number line op → ⊥)
      → LanesAlone h opens lanes → LanesAlone (h ++ e ∷ []) opens lanes
  more-lanes h e opens lanes other all k lane there = more-alone h e opens lane.number lane.state (other k lane there) (all k lane there)

module _ (mounted : Mounted) (terms : Terms) (same : mounted.nocto ≡ terms.modes.nocto) (setup : Setup) where
  abbrev pub Alone : List Entry → View → Type 0
  Alone h v = DropsKnown terms.modes h v × LanesAlone terms h v.shelf.opens v.lanes

  -- ---- a step without a reply

  lanes-stir : (h : List Entry) (old new : View) (at : ℕ) → Stirs old at new → DropsKnown terms.modes h old → LanesAlone terms h old.shelf.opens old.lanes
      → LanesAlone terms h new.shelf.opens new.lanes
  lanes-stir h old new at t d all =
      let l = stirs-led old new at t in
      let less = (stirs-stepped terms.modes h old new at t d).1 in
      subst (LanesAlone terms h new.shelf.opens) (sym l.lanes_are)
      (lanes-set terms h new.shelf.opens old.lanes at t.number (Busy t.machine) l.state t.there (less-lanes terms h old.shelf.opens new.shelf.opens old.lanes less all)
      (own-alone terms h old.shelf.opens new.shelf.opens t.number (Busy t.machine) l.state (all at (record { number = t.number; state = Busy t.machine }) t.there)
      (λ f s p. led-past f s (MachinePast f s t.machine) old.wsize old.shelf.opens (λ next machine shelf. Resumes old.wsize t.machine (turn_at old) old.shelf next machine shelf)
      (λ next machine shelf r q. resumes-past f s old.wsize t.machine (turn_at old) old.shelf next machine shelf r q) l.state new.shelf l.leading p)))

  -- ---- an operation begins

  began-lane : (a b c d : ℕ) (o p : Op) → Began a b o ≡ Began c d p → a ≡ c
  began-lane a b c d o p e = cc

  lanes-start : (h : List Entry) (old new : View) (lane line : ℕ) (op : Op) (now : ℕ) → Reaches (machine_of mounted) setup h old → old.lost ≡ false → IsIdle lane old.lanes
      → StartsLane (counted old now) lane (machine_of mounted lane op) new → LanesAlone terms h old.shelf.opens old.lanes
      → LanesAlone terms (h ++ Began lane line op ∷ []) new.shelf.opens new.lanes
  lanes-start h old new lane line op now r found idle t all k l there =
      by (get-push old.lanes (record { number = lane; state = led.state }) k l (ap (λ (ls : List Lane). slice_get ls k) (sym led.lanes_are) ∙ there))
    where
      led : Pushed old.wsize (λ next machine shelf. Starts old.wsize (machine_of mounted lane op) (turn_at (counted old now)) old.shelf next machine shelf) old.lanes lane new
      led = starts-led (counted old now) new lane (machine_of mounted lane op) t

      less : OnlyLess old.shelf.opens new.shelf.opens
      less = (starts-begun mounted terms.modes same setup h old new lane line op now r found idle t).less

      not-lane : (j : ℕ) (l : Lane) → slice_get old.lanes j ≡ Some l → l.number ≢ lane
      not-lane j l there e = idle-numbers lane (numbers_of old.lanes) idle.other j (to-map number_of old.lanes j l there ∙ ap Some e)

      own : LaneAlone terms (h ++ Began lane line op ∷ []) new.shelf.opens lane led.state
      own f s p x o u = by-led (led-past f s ⊥ old.wsize old.shelf.opens (λ next machine shelf. Starts old.wsize (machine_of mounted lane op) (turn_at (counted old now)) old.shelf next machine shelf)
          (λ next machine shelf k q. inr (starts-past f s mounted lane op old.wsize (turn_at (counted old now)) old.shelf next machine shelf k q)) led.state new.shelf led.leading p)
        where
          by-led : (⊥ × (new.shelf.opens ≡ old.shelf.opens)) ⊎ IsShut f new.shelf.opens → AloneOr terms (h ++ Began lane line op ∷ []) new.shelf.opens x lane s f
          by-led (inl no_way) = absurd no_way.0
          by-led (inr shut) = inr shut

      by : (slice_get old.lanes k ≡ Some l) ⊎ ((k ≡ length old.lanes) × (l ≡ record { number = lane; state = led.state })) → LaneAlone terms (h ++ Began lane line op ∷ []) new.shelf.opens l.number l.state
      by (inl here) =
          more-alone terms h (Began lane line op) new.shelf.opens l.number l.state (λ n o e. not-lane k l here (sym (began-lane lane line l.number n op o e)))
          (less-lanes terms h old.shelf.opens new.shelf.opens old.lanes less all k l here)
      by (inr now_) = subst (λ (q : Lane). LaneAlone terms (h ++ Began lane line op ∷ []) new.shelf.opens q.number q.state) (sym now_.1) own

  -- ---- a reply comes: each answer that is ready was noted before

  -- of each close past its sync it is known then
  abbrev Settled : List Entry → ℕ → State → Type 0
  Settled h n state = (f : List ℕ) (s : ℕ) → StatePast f s state → (x : ℕ) (op : Op) → UnderWay h n x (length h) op → WasAlone terms h x n s f

  settled : (h : List Entry) (v : View) → Reaches (machine_of mounted) setup h v → v.lost ≡ false → DropsKnown terms.modes h v → AllNoted v → LanesAlone terms h v.shelf.opens v.lanes
      → (k n : ℕ) (state : State) → slice_get v.lanes k ≡ Some (record { number = n; state = state }) → Settled h n state
  settled h v r found d noted all k n (Busy (machines.File (files.Close c))) there f s p x op u = by (all k (record { number = n; state = Busy (machines.File (files.Close c)) }) there f s p x op u)
    where
      by : AloneOr terms h v.shelf.opens x n s f → WasAlone terms h x n s f
      by (inl known) = known
      by (inr shut) =
          subst (λ (z : ℕ). WasAlone terms h x n z f) p.1
          (alone-now mounted terms setup h v (record { nocto = same; reaches = r }) found d noted f shut k n c there p.0 x (let low = u.before in omega (arith, low)))
  settled h v r found d noted all k n (Busy (machines.File (files.Open c))) there f s p x op u = absurd p
  settled h v r found d noted all k n (Busy (machines.File (files.Read c))) there f s p x op u = absurd p
  settled h v r found d noted all k n (Busy (machines.File (files.Write c))) there f s p x op u = absurd p
  settled h v r found d noted all k n (Busy (machines.File (files.Sync c))) there f s p x op u = absurd p
  settled h v r found d noted all k n (Busy (machines.File (files.Truncate c))) there f s p x op u = absurd p
  settled h v r found d noted all k n (Busy (machines.File (files.Put c))) there f s p x op u = absurd p
  settled h v r found d noted all k n (Busy (machines.Path c)) there f s p x op u = absurd p
  settled h v r found d noted all k n (Busy (machines.Name c)) there f s p x op u = absurd p
  settled h v r found d noted all k n (Over answer) there f s p x op u = absurd p

  came-not : (rec : List ℕ) (n line : ℕ) (op : Op) → Delivered rec ≡ Began n line op → ⊥
  came-not rec n line op e = cc

  -- so it is known with any table
  settled-later : (h : List Entry) (rec : List ℕ) (opens : Opens) (n : ℕ) (state : State) → Settled h n state → LaneAlone terms (h ++ Delivered rec ∷ []) opens n state
  settled-later h rec opens n state all f s p x op u =
      inl (alone-later terms h (Delivered rec) x n s f (all f s p x op (under-back h (Delivered rec) n x op (λ line o e. came-not rec n line o e) u)))

  lanes-take : (h : List Entry) (old new : View) (rec : List ℕ) (xid : ℕ) (call : Waiting Purpose) (at : ℕ) → Reaches (machine_of mounted) setup h old → old.lost ≡ false
      → (fin : View) → HearsRecord old rec fin → TakesAt (taken_one old xid) at call.purpose.sent (said_of call.purpose.proc rec) new → DropsKnown terms.modes h old
      → LanesAlone terms h old.shelf.opens old.lanes → LanesAlone terms (h ++ Delivered rec ∷ []) new.shelf.opens new.lanes
  lanes-take h old new rec xid call at r found fin hears t d all =
      let l = takes-led (taken_one old xid) new at call.purpose.sent (said_of call.purpose.proc rec) t in
      subst (LanesAlone terms later new.shelf.opens) (sym l.lanes_are)
      (lanes-set terms later new.shelf.opens old.lanes at t.number (Busy t.machine) l.state t.there
      (λ k lane there. settled-later h rec new.shelf.opens lane.number lane.state (before k lane.number lane.state there))
      (λ f s p x op u. own f s x op u
      (led-past f s (MachinePast f s t.machine) old.wsize old.shelf.opens
      (λ next machine shelf. Takes old.wsize t.machine call.purpose.sent (turn_at (taken_one old xid)) (said_of call.purpose.proc rec) old.shelf next machine shelf)
      (λ next machine shelf k q.
      takes-past f s old.wsize t.machine call.purpose.sent (turn_at (taken_one old xid)) (said_of call.purpose.proc rec) old.shelf next machine shelf k q) l.state new.shelf l.leading p)))
    where
      later : List Entry
      later = h ++ Delivered rec ∷ []

      before : (k n : ℕ) (state : State) → slice_get old.lanes k ≡ Some (record { number = n; state = state }) → Settled h n state
      before = settled h old r found d hears.may.noted all

      own : (f : List ℕ) (s x : ℕ) (op : Op) → UnderWay later t.number x (length later) op → (MachinePast f s t.machine × (new.shelf.opens ≡ old.shelf.opens)) ⊎ IsShut f new.shelf.opens
          → AloneOr terms later new.shelf.opens x t.number s f
      own f s x op u (inr shut) = inr shut
      own f s x op u (inl was) = settled-later h rec new.shelf.opens t.number (Busy t.machine) (before at t.number (Busy t.machine) t.there) f s was.0 x op u

  -- ---- along a history

  answered-not : (lane line : ℕ) (answer : Answer) (n k : ℕ) (op : Op) → Answered lane line answer ≡ Began n k op → ⊥
  answered-not lane line answer n k op e = cc

  lanes-answer : (h : List Entry) (old new : View) (at lane line : ℕ) (answer : Answer) → AnswersAt old at lane (Some answer) new → LanesAlone terms h old.shelf.opens old.lanes
      → LanesAlone terms (h ++ Answered lane line answer ∷ []) new.shelf.opens new.lanes
  lanes-answer h old new at lane line answer a all =
      subst (λ (w : View). LanesAlone terms (h ++ Answered lane line answer ∷ []) w.shelf.opens w.lanes) (sym a.is)
      (λ k l there. more-alone terms h (Answered lane line answer) old.shelf.opens l.number l.state (λ n o e. answered-not lane line answer l.number n o e)
      (all (skip at k) l (get-remove old.lanes at k l there)))

  pub alone-steps : StepsKnowing (machine_of mounted) setup Alone
  alone-steps = record {
    stirs = λ h old new at k t d. (drops-stirs mounted terms.modes same setup h old new at k t d.0, lanes-stir h old new at t d.0 d.1);
    starts = λ h old new lane line op now r found k idle fits t d. (
      drops-starts mounted terms.modes same setup h old new lane line op now r found k idle t d.0,
      lanes-start h old new lane line op now r found idle t d.1,
    );
    takes = λ h old new rec xid call at r found k fin hears named waits there t d. (
      drops-takes mounted terms.modes same setup h old new rec xid call at k waits there t d.0,
      lanes-take h old new rec xid call at r found fin hears t d.0 d.1,
    );
    answers = λ h old new at lane line answer r found k later done line_is a d. (
      drops-answers mounted terms.modes same setup h old new at lane line answer k a d.0,
      lanes-answer h old new at lane line answer a d.1,
    );
    same = λ h e old new plain noted lanes shelf size calls d. (
      drops-same mounted terms.modes same setup h e old new plain lanes shelf calls d.0,
      subst (λ (ls : List Lane). LanesAlone terms (h ++ e ∷ []) new.shelf.opens ls) (sym lanes)
          (subst (λ (s : Shelf). LanesAlone terms (h ++ e ∷ []) s.opens old.lanes) (sym shelf)
          (more-lanes terms h e old.shelf.opens old.lanes (λ k lane there line op is. plain.begins_ lane.number line op is) d.1)),
    );
  }

  fresh-alone : (h : List Entry) (v : View) → IsFresh setup v → Alone h v
  fresh-alone h v fresh = (
    drops-fresh mounted terms.modes same setup h v fresh,
    λ k lane there. absurd (let no_way : None ≡ Some lane = ap (λ (lanes : List Lane). slice_get lanes k) (sym fresh.lanes) ∙ there in cc),
  )

  pub reached-alone : (h : List Entry) (v : View) → Reaches (machine_of mounted) setup h v → v.lost ≡ false → Alone h v
  reached-alone = reached-knowing (machine_of mounted) (begins-unbegun mounted) setup Alone alone-steps (λ h v may up fresh. fresh-alone h v fresh)

  -- where each answer that is ready was noted
  pub alone-where-noted : (h : List Entry) (v : View) → Reaches (machine_of mounted) setup h v → v.lost ≡ false → AllNoted v → (k n : ℕ) (state : State)
      → slice_get v.lanes k ≡ Some (record { number = n; state = state }) → (f : List ℕ) (s : ℕ) → StatePast f s state → (x : ℕ) (op : Op) → UnderWay h n x (length h) op
      → HeldAlone terms h x (length h) n s f
  alone-where-noted h v r found noted k n state there = let a = reached-alone h v r found in settled h v r found a.0 noted a.1 k n state there
