-- Where all operations are of one lane: a sync or close of a file with two places next to each other, along a history.
use Rattle.core_counts.proofs.Prelude.{◌≡◌, ◌<◌, ◌≤◌, ◌⊎◌, inl, inr, ◌+◌, ◌-◌, ◌++◌, nat_eq, ℕ, Bool, true, false, List, [], ◌∷◌, length, get_or, Option, Some, None, option_map, Result, Err, position, slice_get, slice_set, refl, sym, ap, subst, ◌∙◌, arith, append_assoc, eqb-true, eqb-false, position-Some, slice_get-get_or, xid_at, Waiting, next_xid, waiting_at, Fault, Entry, Began, Answered, Sent, Delivered, Call, Reply, Op, At, UnderWay, OneLane, CoveredEarlier, At-grow, At-cases, At-last, length_last, Pending, of_file, IsNewest, fly_at, fly_in, FilePending, rest_at, Cell, said_of, Step, Shelf, Turn, file_at, IsUnused, Mounted, Machine, machine_of, Fits, Starts, Resumes, Takes, Lane, Purpose, State, Busy, Over, Setup, is_busy, numbers_of, IsIdle, with_state, IsRefused, Leads, Stirs, counted, StartsLane, TakesAt, View, turn_at, unmade_turn, in_flight, HearsRecord, Reaches, begins-unbegun, taken_one, none-busy, Flies, flies_of, flies_if, sender, look_at, was-sent, Known, taker-is, taker-one, lanes-under-way, idle-numbers, number_of, at-set, at-push, get-push, get-remove, skip, to-map, answered-grow, set-other, under-back, unused-next, EachSound, Basis, basis-ready, stirs-basis, starts-basis, takes-basis, keeps-basis, KeepsHearing, reached-hearing, sent-piece, IsSent, Wholly, keeps-wholly, stirs-wholly, starts-wholly, takes-wholly, starts-has, resumes-has, takes-has, is_ready, how_of, ready_of, WaitsPlain, NotAsStable, BeganOtherwise}
use Rattle.claims.specs.Thrifty.{IsSync, sync, close}
use Rattle.core_session.proofs.order.Basis.{unused-idle}
use Rattle.core_counts.specs.thrift.Writes.{OfSlot}
use Rattle.write_back.specs.Pieces.{Sent as Piece, Flown as InAir}
use Rattle.client_shelf.specs.declared.step.Step.TheVariants as nexts
use Rattle.file_ops.specs.Saves as saves
use Rattle.op_machines.proofs.AllLaws as laws
use Rattle.core_answers.proofs.writes.AllFits as fitting
use Rattle.core_session.proofs.order.Sounds.{resumes-sound, starts-sound, takes-sounds}
use Rattle.core_session.proofs.syncs.LaneSteps.{asked-piece}
use Rattle.core_counts.proofs.thrift.short.Ends.{Each, EndsLong, waits as waits_so}
use Rattle.world_model.specs.declared.answer.Answer.TheVariants as answers
use Rattle.world_model.specs.declared.answer.Fault.TheVariants as faults
use Rattle.step_saves.proofs.Going.{begins}
use Rattle.core_counts.proofs.counts.writes.Weights.{newest-below}
use Rattle.core_counts.proofs.thrift.short.Holding.{Hold}
use Rattle.core_counts.proofs.thrift.short.Lone.{early-unused, none-unused, each-least, same-lane, one-before, only-one, covered-now}
use Rattle.core_counts.proofs.thrift.short.Syncing.{SaveIs, Hears, Runs, RunsOn, sync-begins, close-begins, runs-resumes, runs-takes, runs-map, hears-all}

-- ---- whether it waits

pub waits-plain : (of : FilePending) (place : ℕ) → WaitsPlain of place ⊎ (WaitsPlain of place → ⊥)
waits-plain of place = by (rest_at of place) refl
  where
    one : (a b : Cell) → Some a ≡ Some b → a ≡ b
    one a b e = cc

    by : (o : Option Cell) → rest_at of place ≡ o → WaitsPlain of place ⊎ (WaitsPlain of place → ⊥)
    by None none = inr (λ w. let no_way : None ≡ Some w.cell = sym none ∙ w.at in absurd cc)
    by (Some cell) at = which (is_ready cell.state) refl (nat_eq (how_of (ready_of cell.state)) 0) refl
      where
        same : (w : WaitsPlain of place) → w.cell ≡ cell
        same w = one w.cell cell (sym w.at ∙ at)

        which : (r : Bool) → is_ready cell.state ≡ r → (p : Bool) → nat_eq (how_of (ready_of cell.state)) 0 ≡ p → WaitsPlain of place ⊎ (WaitsPlain of place → ⊥)
        which true ready true plain = inl (record { cell = cell; at = at; ready = ready; plain = eqb-true (how_of (ready_of cell.state)) 0 plain })
        which false not p plain = inr (λ w. let no_way : true ≡ false = sym w.ready ∙ ap (λ (c : Cell). is_ready c.state) (same w) ∙ not in absurd cc)
        which true ready false not = inr (λ w. eqb-false (how_of (ready_of cell.state)) 0 not (subst (λ (c : Cell). how_of (ready_of c.state) ≡ 0) (same w) w.plain))

pub not-stable : (of : FilePending) (place : ℕ) → NotAsStable of place ⊎ (NotAsStable of place → ⊥)
not-stable of place = by (rest_at of place) refl
  where
    one : (a b : Cell) → Some a ≡ Some b → a ≡ b
    one a b e = cc

    by : (o : Option Cell) → rest_at of place ≡ o → NotAsStable of place ⊎ (NotAsStable of place → ⊥)
    by None none = inl (λ cell at. absurd (let no_way : None ≡ Some cell = sym none ∙ at in cc))
    by (Some cell) at = which (nat_eq (how_of (ready_of cell.state)) 0) refl
      where
        which : (p : Bool) → nat_eq (how_of (ready_of cell.state)) 0 ≡ p → NotAsStable of place ⊎ (NotAsStable of place → ⊥)
        which true plain = inl (λ other here. subst (λ (c : Cell). how_of (ready_of c.state) ≡ 0) (one cell other (sym at ∙ here)) (eqb-true (how_of (ready_of cell.state)) 0 plain))
        which false not = inr (λ so. eqb-false (how_of (ready_of cell.state)) 0 not (so cell at))

-- a save that begins while the second waits
pub held-begun : (before next wsize : ℕ) (is_next : next ≡ before + 1) (some : 1 ≤ wsize) (f : List ℕ) (seq : ℕ) (b : Pending) → IsNewest (seq + 1) b → (of_file f b).pieces ≡ [] → NotAsStable (of_file f b) before
    → WaitsPlain (of_file f b) next → Hold before next wsize is_next some (saves.begun f seq) b
held-begun before next wsize is_next some f seq b newest none first second = record {
  way = begins f seq b none;
  open_ = record {
    second = waits_so second.cell second.at second.ready second.plain ((newest-below seq f b newest next).rest second.cell second.at) (subst (Each (EndsLong before next wsize)) (sym none) tt);
    rest = first;
    fly = λ flown at. absurd (no-fly before flown at);
    apart = λ place flown at. absurd (no-fly place flown at);
  };
}
  where
    no-fly : (place : ℕ) (flown : InAir) → fly_at (of_file f b) place ≡ Some flown → ⊥
    no-fly place flown at = let no_way : None ≡ Some flown = sym (ap (λ (qs : List Piece). fly_in qs place) none) ∙ at in absurd cc

module _ (m : Mounted) (setup : Setup) (f : List ℕ) (before next : ℕ) (is_next : next ≡ before + 1) (some : 1 ≤ setup.wsize) (x : ℕ) (saver : Op) (is_saver : IsSync saver) where
  abbrev pub Cov : List Entry → Type 0
  Cov h = CoveredEarlier h (length h) f next ⊎ BeganOtherwise m setup h x f before

  abbrev pub Running : List Entry → Machine → Pending → Type 0
  Running h machine b = Runs before next setup.wsize is_next some f (Cov h) machine b

  abbrev RunningOn : List Entry → Step → Machine → Pending → Type 0
  RunningOn h nx machine b = RunsOn before next setup.wsize is_next some f (Cov h) nx machine b

  abbrev pub StateRuns : List Entry → Pending → State → Type 0
  StateRuns h b (Busy machine) = Running h machine b
  StateRuns h b (Over answer) = Unit {0}

  abbrev pub AllRun : List Entry → View → Type 0
  AllRun h v = (k : ℕ) (lane : Lane) → slice_get v.lanes k ≡ Some lane → UnderWay h lane.number x (length h) saver → StateRuns h v.shelf.back lane.state

  pub record Tracked (h : List Entry) (v : View) : Type 0 where
    pub basis : Basis setup h v
    pub wholly : Wholly setup h v
    pub size : v.wsize ≡ setup.wsize
    pub run : OneLane h → AllRun h v

  -- ---- one entry more

  covered-later : (h : List Entry) (e : Entry) → Cov h → Cov (h ++ e ∷ [])
  covered-later h e (inl c) = inl (record {
    at = c.at;
    xid = c.xid;
    bytes = c.bytes;
    call = c.call;
    sent = At-grow h (e ∷ []) c.at (Sent c.bytes) c.sent;
    spells = c.spells;
    covers = c.covers;
    earlier = let early = c.earlier in let more = length_last h e in omega (arith, early, more);
  })
  covered-later h e (inr c) = inr (record {
    before = c.before;
    after = c.after ++ e ∷ [];
    is = ap (λ (k : List Entry). k ++ e ∷ []) c.is ∙ append_assoc c.before c.after (e ∷ []);
    there = c.there;
    lane = c.lane;
    line = c.line;
    op = c.op;
    slot = c.slot;
    began = At-grow h (e ∷ []) x (Began c.lane c.line c.op) c.began;
    of = c.of;
    holds = c.holds;
    quiet = c.quiet;
    idle = c.idle;
    view = c.view;
    reaches = c.reaches;
    found = c.found;
    other = c.other;
  })

  state-later : (h : List Entry) (e : Entry) (b : Pending) (state : State) → StateRuns h b state → StateRuns (h ++ e ∷ []) b state
  state-later h e b (Busy machine) r = runs-map before next setup.wsize is_next some f (Cov h) (Cov (h ++ e ∷ [])) (covered-later h e) machine b r
  state-later h e b (Over answer) r = tt

  -- ---- what a step leads to

  -- the call that can't be made was the last
  unmade-hears : (v : View) (fault : Fault) (machine : Machine) (h : List Entry) → ((g : List ℕ) → flies_of machine ≡ Some g → IsSent (next_xid v.calls) g v.shelf.back)
      → ((file : List ℕ) → Each (λ q. q.xid ≤ next_xid v.calls) (of_file file v.shelf.back).pieces)
      → Hears before next setup.wsize is_next some f (Cov h) (turn_at v) (unmade_turn v) (Err fault) machine v.shelf.back
  unmade-hears v fault machine h it last =
      hears-all before next setup.wsize is_next some f (Cov h) (turn_at v) (unmade_turn v) (Err fault) machine v.shelf.back
      (λ s sends. (λ is. ap is-some (it s.file (sends ∙ ap (λ (b : Bool). flies_if b s.file) is)).there, inr (fault, refl, λ same. last s.file)))
    where
      is-some : Option Piece → Bool
      is-some None = false
      is-some (Some q) = true

  module _ (h : List Entry) (v new : View) (at number : ℕ) (machine : Machine) (nx : Step) (there : slice_get v.lanes at ≡ Some (record { number = number; state = Busy machine }))
      (others : (k : ℕ) (lane : Lane) → slice_get v.lanes k ≡ Some lane → k ≡ at) (size : v.wsize ≡ setup.wsize) (sound : EachSound v.shelf.back)
      (last : (file : List ℕ) → Each (λ q. q.xid ≤ next_xid v.calls) (of_file file v.shelf.back).pieces)
      (it : (call : Call) → nx ≡ nexts.Send call → (g : List ℕ) → flies_of machine ≡ Some g → IsSent (next_xid v.calls) g v.shelf.back)
      (on : UnderWay h number x (length h) saver → RunningOn h nx machine v.shelf.back) where
    own-lane : (k : ℕ) (lane : Lane) → slice_get v.lanes k ≡ Some lane → record { number = number; state = Busy machine } ≡ lane
    own-lane k lane here = same-lane (record { number = number; state = Busy machine }) lane (sym there ∙ ap (slice_get v.lanes) (sym (others k lane here)) ∙ here)

    -- where its state is another
    set-run : (state : State) (shelf : Shelf) → (UnderWay h number x (length h) saver → StateRuns h shelf.back state) → AllRun h (with_state v at number state shelf)
    set-run state shelf own k lane here = by (nat_eq k at) refl
      where
        by : (b : Bool) → nat_eq k at ≡ b → UnderWay h lane.number x (length h) saver → StateRuns h shelf.back lane.state
        by true is =
            let same : record { number = number; state = state } ≡ lane =
            same-lane (record { number = number; state = state }) lane
            (sym (at-set v.lanes at (record { number = number; state = Busy machine }) (record { number = number; state = state }) there)
            ∙ ap (slice_get (slice_set v.lanes at (record { number = number; state = state }))) (sym (eqb-true k at is)) ∙ here) in
            subst (λ (l : Lane). UnderWay h l.number x (length h) saver → StateRuns h shelf.back l.state) same own
        by false is =
            let off = eqb-false k at is in
            absurd (off (others k lane (sym (set-other v.lanes at k (record { number = number; state = state }) off) ∙ here)))

    same-run : (UnderWay h number x (length h) saver → Running h machine v.shelf.back) → AllRun h v
    same-run own k lane here = subst (λ (l : Lane). UnderWay h l.number x (length h) saver → StateRuns h v.shelf.back l.state) (own-lane k lane here) own

    leads-if : (n : Step) → nx ≡ n → Leads v at number machine n new → AllRun h new
    leads-if nexts.Wait is l = subst (AllRun h) (sym l) (same-run (λ u. subst (λ (z : Step). RunningOn h z machine v.shelf.back) is (on u)))
    leads-if (nexts.Done answer) is l = subst (AllRun h) (sym l) (set-run (Over answer) v.shelf (λ u. tt))
    leads-if (nexts.Send call) is (inl made) =
        subst (AllRun h) (sym made.is) (same-run (λ u. subst (λ (z : Step). RunningOn h z machine v.shelf.back) is (on u)))
    leads-if (nexts.Send call) is (inr r) = subst (AllRun h) (sym r.is) (set-run r.state r.left (λ u. by r.next refl r.leads (left u)))
      where
        takes : Takes setup.wsize machine (turn_at v) (unmade_turn v) (Err r.fault) v.shelf r.next r.after r.left
        takes = subst (λ (n : ℕ). Takes n machine (turn_at v) (unmade_turn v) (Err r.fault) v.shelf r.next r.after r.left) size r.takes

        left : UnderWay h number x (length h) saver → RunningOn h r.next r.after r.left.back
        left u =
            runs-takes before next setup.wsize is_next some f (Cov h) (turn_at v) (unmade_turn v) (Err r.fault) v.shelf sound r.next r.left machine r.after
            (subst (λ (z : Step). RunningOn h z machine v.shelf.back) is (on u)) (unmade-hears v r.fault machine h (it call is) last) takes

        by : (n : Step) → r.next ≡ n → IsRefused r.after n r.state → RunningOn h r.next r.after r.left.back → StateRuns h r.left.back r.state
        by (nexts.Send again) same st runs_ = absurd st
        by nexts.Wait same st runs_ = subst (StateRuns h r.left.back) (sym st) (subst (λ (z : Step). RunningOn h z r.after r.left.back) same runs_)
        by (nexts.Done answer) same st runs_ = subst (StateRuns h r.left.back) (sym st) tt

    pub leads-run : Leads v at number machine nx new → AllRun h new
    leads-run l = leads-if nx refl l

  -- ---- it goes on, and begins

  early-of : (h : List Entry) (old : View) → Known setup h old → Basis setup h old → (file : List ℕ) → Each (λ q. q.xid < next_xid old.calls) (of_file file old.shelf.back).pieces
  early-of h old k basis file = early-unused (next_xid old.calls) (of_file file old.shelf.back).pieces (λ y late. unused-idle setup h old k.rows basis.flying.flown y (inr late) file)

  stirs-run : (h : List Entry) (old new : View) (at : ℕ) → Known setup h old → Stirs old at new → Tracked h old → OneLane h → AllRun h new
  stirs-run h old new at k t i one =
      leads-run h v new at t.number t.after t.next
      (at-set old.lanes at (record { number = t.number; state = Busy t.machine }) (record { number = t.number; state = Busy t.after }) t.there) others i.size
      (resumes-sound old.wsize (turn_at old) t.machine old.shelf t.next t.after t.shelf i.basis.sound unused t.resumes)
      (λ file. each-least (next_xid old.calls) (of_file file t.shelf.back).pieces
      (early-unused (next_xid old.calls + 1) (of_file file t.shelf.back).pieces
      (λ y late. (laws.resumes-ready old.wsize t.machine (turn_at old) old.shelf t.next t.after t.shelf t.resumes (basis-ready setup h old k.rows i.basis)).xids y (inr late) file)))
      (asked-piece (next_xid old.calls) t.next t.after t.shelf.back (resumes-has old.wsize (turn_at old) t.machine old.shelf t.next t.after t.shelf t.resumes unused)
      (fitting.all-resumes old.wsize (turn_at old) t.machine old.shelf t.next t.after t.shelf t.resumes))
      (λ u. runs-resumes before next setup.wsize is_next some f (Cov h) (turn_at old) old.shelf i.basis.sound (early-of h old k i.basis) t.next t.shelf t.machine t.after
      (i.run one at (record { number = t.number; state = Busy t.machine }) t.there u)
      (subst (λ (n : ℕ). Resumes n t.machine (turn_at old) old.shelf t.next t.after t.shelf) i.size t.resumes)) t.leads
    where
      v : View
      v = with_state old at t.number (Busy t.after) t.shelf

      unused : IsUnused (next_xid old.calls) old.shelf.back
      unused = unused-next setup h old k.rows i.wholly.flying.flown

      others : (n : ℕ) (lane : Lane) → slice_get (slice_set old.lanes at (record { number = t.number; state = Busy t.after })) n ≡ Some lane → n ≡ at
      others n lane here = by (nat_eq n at) refl
        where
          by : (b : Bool) → nat_eq n at ≡ b → n ≡ at
          by true is = eqb-true n at is
          by false is =
              only-one setup h old k one n at lane (record { number = t.number; state = Busy t.machine })
              (sym (set-other old.lanes at n (record { number = t.number; state = Busy t.after }) (eqb-false n at is)) ∙ here) t.there

  began-op : (a b c d : ℕ) (o p : Op) → Began a b o ≡ Began c d p → o ≡ p
  began-op a b c d o p e = cc

  starts-run : (h : List Entry) (old new : View) (lane line : ℕ) (op : Op) (now : ℕ) → Reaches (machine_of m) setup h old → old.lost ≡ false → Known setup h old → IsIdle lane old.lanes
      → Fits (machine_of m lane op) → StartsLane (counted old now) lane (machine_of m lane op) new → Tracked h old → OneLane (h ++ Began lane line op ∷ []) → AllRun (h ++ Began lane line op ∷ []) new
  starts-run h old new lane line op now r found k idle fits t i one =
      leads-run later v new (length old.lanes) lane t.after t.next (at-push old.lanes (record { number = lane; state = Busy t.after })) others i.size
      (starts-sound old.wsize (turn_at (counted old now)) (machine_of m lane op) old.shelf t.next t.after t.shelf fits i.basis.sound unused i.basis.newest t.starts)
      (λ file. each-least (next_xid old.calls) (of_file file t.shelf.back).pieces
      (early-unused (next_xid old.calls + 1) (of_file file t.shelf.back).pieces
      (λ y late. (laws.starts-ready old.wsize (machine_of m lane op) (turn_at (counted old now)) old.shelf t.next t.after t.shelf t.starts (basis-ready setup h old k.rows i.basis)).xids y (inr late) file)))
      (asked-piece (next_xid old.calls) t.next t.after t.shelf.back (starts-has old.wsize (turn_at (counted old now)) (machine_of m lane op) old.shelf t.next t.after t.shelf t.starts unused)
      (fitting.all-starts old.wsize (turn_at (counted old now)) (machine_of m lane op) old.shelf t.next t.after t.shelf t.starts))
      begun t.leads
    where
      later : List Entry
      later = h ++ Began lane line op ∷ []

      v : View
      v = record (counted old now) { lanes = old.lanes ++ record { number = lane; state = Busy t.after } ∷ []; shelf = t.shelf }

      unused : IsUnused (next_xid old.calls) old.shelf.back
      unused = unused-next setup h old k.rows i.wholly.flying.flown

      -- no other is there
      none-else : (n : ℕ) (l : Lane) → slice_get old.lanes n ≡ Some l → ⊥
      none-else n l was =
          let y = (lanes-under-way h old k.lanes).busy n l was in
          let same : l.number ≡ lane = one y.x (length h) l.number lane y.under_way.line line y.op op (At-grow h (Began lane line op ∷ []) y.x (Began l.number y.under_way.line y.op) y.under_way.began) (At-last h (Began lane line op)) in
          idle-numbers lane (numbers_of old.lanes) idle.other n (to-map number_of old.lanes n l was ∙ ap Some same)

      others : (n : ℕ) (l : Lane) → slice_get (old.lanes ++ record { number = lane; state = Busy t.after } ∷ []) n ≡ Some l → n ≡ length old.lanes
      others n l here = by (get-push old.lanes (record { number = lane; state = Busy t.after }) n l here)
        where
          by : (slice_get old.lanes n ≡ Some l) ⊎ ((n ≡ length old.lanes) × (l ≡ record { number = lane; state = Busy t.after })) → n ≡ length old.lanes
          by (inl was) = absurd (none-else n l was)
          by (inr last) = last.0

      begun : UnderWay later lane x (length later) saver → RunningOn later t.next t.after t.shelf.back
      begun u = by is_saver
        where
          now-op : (op ≡ saver) × (x ≡ length h)
          now-op = by (At-cases h (Began lane line op) x (Began lane u.line saver) u.began)
            where
              by : At h x (Began lane u.line saver) ⊎ ((x ≡ length h) × (Began lane line op ≡ Began lane u.line saver)) → (op ≡ saver) × (x ≡ length h)
              by (inr now) = (began-op lane line lane u.line op saver now.1, now.0)
              by (inl was) = absurd (u.unanswered (answered-grow h (Began lane line op) x (length h) (length later) (let more = length_last h (Began lane line op) in omega (arith, more))
                  ((k.lanes.rest lane (λ at there. idle-numbers lane (numbers_of old.lanes) idle.other at there)).answered x u.line saver was)))

          none : (of_file f old.shelf.back).pieces ≡ []
          none = none-unused (of_file f old.shelf.back).pieces (λ y. unflown y (waiting_at y old.calls.calls) refl f)
            where
              any : Lane
              any = record { number = lane; state = Over (answers.Refused faults.Memory) }

              unflown : (y : ℕ) (o : Option (Waiting Purpose)) → waiting_at y old.calls.calls ≡ o → IsUnused y old.shelf.back
              unflown y None waits =
                  subst (λ (p : Option Purpose). Flies y (sender (look_at old.lanes) p) old.shelf.back) (ap (option_map (λ (w : Waiting Purpose). w.purpose)) waits) (i.basis.flying.flown.flies y)
              unflown y (Some w) waits = of (position (is_busy w.purpose.lane) old.lanes) refl
                where
                  of : (o : Option ℕ) → position (is_busy w.purpose.lane) old.lanes ≡ o → IsUnused y old.shelf.back
                  of None is = absurd (none-busy old y w waits is k.known.counted)
                  of (Some j) is =
                      let busy = position-Some (is_busy w.purpose.lane) old.lanes j any is in
                      absurd (none-else j (get_or old.lanes j any) (slice_get-get_or old.lanes j any busy.0))

          held : NotAsStable (of_file f old.shelf.back) before → WaitsPlain (of_file f old.shelf.back) next → Hold before next setup.wsize is_next some (saves.begun f old.shelf.seq) old.shelf.back
          held a c = held-begun before next setup.wsize is_next some f old.shelf.seq old.shelf.back i.basis.newest none a c

          begins : (slot : ℕ) → OfSlot saver slot → (file : List ℕ) → file_at lane slot old.shelf.opens ≡ Some file → SaveIs before next setup.wsize is_next some f (Cov later) (saves.begun file old.shelf.seq) old.shelf.back
          begins slot of file found_ same = by (not-stable (of_file f old.shelf.back) before) (waits-plain (of_file f old.shelf.back) next)
            where
              otherwise : (NotAsStable (of_file f old.shelf.back) before → WaitsPlain (of_file f old.shelf.back) next → ⊥) → Cov later
              otherwise not = inr (record {
                before = h;
                after = Began lane line op ∷ [];
                is = refl;
                there = sym now-op.1;
                lane = lane;
                line = line;
                op = op;
                slot = slot;
                began = subst (λ (n : ℕ). At later n (Began lane line op)) (sym now-op.1) (At-last h (Began lane line op));
                of = subst (λ (o : Op). OfSlot o slot) (sym now-op.0) of;
                holds = found_ ∙ ap Some same;
                quiet = none;
                idle = none-else;
                view = old;
                reaches = r;
                found = found;
                other = λ a c. not a (subst (λ (n : ℕ). WaitsPlain (of_file f old.shelf.back) n) (sym is_next) c);
              })

              by : NotAsStable (of_file f old.shelf.back) before ⊎ (NotAsStable (of_file f old.shelf.back) before → ⊥) → WaitsPlain (of_file f old.shelf.back) next ⊎ (WaitsPlain (of_file f old.shelf.back) next → ⊥)
                  → Cov later ⊎ Hold before next setup.wsize is_next some (saves.begun file old.shelf.seq) old.shelf.back
              by (inl a) (inl c) = inr (subst (λ (g : List ℕ). Hold before next setup.wsize is_next some (saves.begun g old.shelf.seq) old.shelf.back) (sym same) (held a c))
              by (inl a) (inr not) = inl (otherwise (λ z c. not c))
              by (inr not) c = inl (otherwise (λ a z. not a))

          starts_ : Starts setup.wsize (machine_of m lane saver) (turn_at (counted old now)) old.shelf t.next t.after t.shelf
          starts_ =
              subst (λ (n : ℕ). Starts n (machine_of m lane saver) (turn_at (counted old now)) old.shelf t.next t.after t.shelf) i.size
              (subst (λ (o : Op). Starts old.wsize (machine_of m lane o) (turn_at (counted old now)) old.shelf t.next t.after t.shelf) now-op.0 t.starts)

          by : IsSync saver → RunningOn later t.next t.after t.shelf.back
          by (sync slot is) =
              sync-begins before next setup.wsize is_next some f (Cov later) (turn_at (counted old now)) old.shelf i.basis.sound (early-of h old k i.basis) t.next t.shelf _ t.after (begins slot (inl is))
              (subst (λ (o : Op). Starts setup.wsize (machine_of m lane o) (turn_at (counted old now)) old.shelf t.next t.after t.shelf) is starts_)
          by (close slot is) =
              close-begins before next setup.wsize is_next some f (Cov later) (turn_at (counted old now)) old.shelf i.basis.sound (early-of h old k i.basis) t.next t.shelf _ t.after (begins slot (inr is))
              (subst (λ (o : Op). Starts setup.wsize (machine_of m lane o) (turn_at (counted old now)) old.shelf t.next t.after t.shelf) is starts_)

  -- ---- what came

  module _ (h : List Entry) (old : View) (r : Reaches (machine_of m) setup h old) (found : old.lost ≡ false) (k : Known setup h old) (one : OneLane h) (i : Tracked h old) (at number : ℕ) (machine : Machine)
      (there : slice_get old.lanes at ≡ Some (record { number = number; state = Busy machine })) where
    module _ (rec : List ℕ) (fin : View) (hears : HearsRecord old rec fin) where
      abbrev later : List Entry
      later = h ++ Delivered rec ∷ []

      -- what is known of the reply
      heard-now : (sent turn : Turn) (came : Result Reply Fault) → ((g : List ℕ) → flies_of machine ≡ Some g → IsSent sent.xid g old.shelf.back)
          → ((file : List ℕ) → Each (λ q. q.xid < turn.xid) (of_file file old.shelf.back).pieces)
          → Hears before next setup.wsize is_next some f (Cov later) sent turn came machine old.shelf.back
      heard-now sent turn came it early =
          hears-all before next setup.wsize is_next some f (Cov later) sent turn came machine old.shelf.back
          (λ s sends. (
            λ is. ap is-some (it s.file (sends ∙ ap (λ (b : Bool). flies_if b s.file) is)).there,
            inl (
              early s.file,
              λ flown same at_. covered-later h (Delivered rec) (inl (covered-now m setup f next h old r found k one i.basis i.wholly at number machine there s sends same flown at_
                  (λ w waits. was-sent flown.xid old.calls.calls w hears.may.sent waits))),
            ),
          ))
        where
          is-some : Option Piece → Bool
          is-some None = false
          is-some (Some q) = true

  takes-run : (h : List Entry) (old new : View) (rec : List ℕ) (xid : ℕ) (call : Waiting Purpose) (at : ℕ) → Reaches (machine_of m) setup h old → old.lost ≡ false → Known setup h old → (fin : View)
      → HearsRecord old rec fin → xid_at rec ≡ Some xid → waiting_at xid old.calls.calls ≡ Some call → position (is_busy call.purpose.lane) old.lanes ≡ Some at
      → TakesAt (taken_one old xid) at call.purpose.sent (said_of call.purpose.proc rec) new → Tracked h old → OneLane h → AllRun (h ++ Delivered rec ∷ []) new
  takes-run h old new rec xid call at r found k fin hears named waits place t i one =
      leads-run later_ v new at t.number t.after t.next
      (at-set old.lanes at (record { number = t.number; state = Busy t.machine }) (record { number = t.number; state = Busy t.after }) t.there) others i.size
      (takes-sounds old.wsize turn call.purpose.sent came t.machine old.shelf t.next t.after t.shelf (i.basis.fits at (record { number = t.number; state = Busy t.machine }) t.there) i.basis.sound unused i.basis.newest t.takes)
      (λ file. each-least (next_xid old.calls) (of_file file t.shelf.back).pieces
      (early-unused (next_xid old.calls + 1) (of_file file t.shelf.back).pieces
      (λ y late. (laws.takes-ready old.wsize t.machine call.purpose.sent turn came old.shelf t.next t.after t.shelf t.takes (basis-ready setup h old k.rows i.basis)).xids y (inr late) file)))
      (asked-piece (next_xid old.calls) t.next t.after t.shelf.back
      (takes-has old.wsize turn call.purpose.sent came t.machine old.shelf t.next t.after t.shelf (in_flight t.machine - 1) single pieces t.takes unused)
      (fitting.all-takes old.wsize turn call.purpose.sent came t.machine old.shelf t.next t.after t.shelf (in_flight t.machine - 1) single t.takes))
      on t.leads
    where
      later_ : List Entry
      later_ = h ++ Delivered rec ∷ []

      came : Result Reply Fault
      came = said_of call.purpose.proc rec

      turn : Turn
      turn = turn_at (taken_one old xid)

      v : View
      v = with_state (taken_one old xid) at t.number (Busy t.after) t.shelf

      unused : IsUnused (next_xid old.calls) old.shelf.back
      unused = unused-next setup h old k.rows i.wholly.flying.flown

      single : in_flight t.machine ≡ (in_flight t.machine - 1) + 1
      single = taker-one setup h old xid call at k waits place t.number t.machine t.there

      pieces : (g : List ℕ) → flies_of t.machine ≡ Some g → IsSent call.purpose.sent.xid g old.shelf.back
      pieces = sent-piece m setup h old r found xid call waits at t.number t.machine t.there (sym (taker-is setup h old xid call at k waits place t.number t.machine t.there)) i.wholly

      others : (n : ℕ) (lane : Lane) → slice_get (slice_set old.lanes at (record { number = t.number; state = Busy t.after })) n ≡ Some lane → n ≡ at
      others n lane here = by (nat_eq n at) refl
        where
          by : (b : Bool) → nat_eq n at ≡ b → n ≡ at
          by true is = eqb-true n at is
          by false is =
              only-one setup h old k one n at lane (record { number = t.number; state = Busy t.machine })
              (sym (set-other old.lanes at n (record { number = t.number; state = Busy t.after }) (eqb-false n at is)) ∙ here) t.there

      on : UnderWay later_ t.number x (length later_) saver → RunningOn later_ t.next t.after t.shelf.back
      on late =
          runs-takes before next setup.wsize is_next some f (Cov later_) call.purpose.sent turn came old.shelf i.basis.sound t.next t.shelf t.machine t.after runs_
          (heard-now h old r found k one i at t.number t.machine t.there rec fin hears call.purpose.sent turn came pieces (early-of h old k i.basis)) takes_
        where
          u : UnderWay h t.number x (length h) saver
          u = under-back h (Delivered rec) t.number x saver (λ line o is. cc) late

          runs_ : Running later_ t.machine old.shelf.back
          runs_ = state-later h (Delivered rec) old.shelf.back (Busy t.machine) (i.run one at (record { number = t.number; state = Busy t.machine }) t.there u)

          takes_ : Takes setup.wsize t.machine call.purpose.sent turn came old.shelf t.next t.after t.shelf
          takes_ = subst (λ (n : ℕ). Takes n t.machine call.purpose.sent turn came old.shelf t.next t.after t.shelf) i.size t.takes

  -- ---- along a history

  track-laws : KeepsHearing (machine_of m) setup Tracked
  track-laws = record {
    fresh = λ h v may up fresh. record {
      basis = (keeps-basis m setup).fresh h v may up fresh;
      wholly = (keeps-wholly m setup).fresh h v fresh;
      size = fresh.wsize;
      run = λ one k lane here. absurd (let no_way : None ≡ Some lane = ap (λ (ls : List Lane). slice_get ls k) (sym fresh.lanes) ∙ here in cc);
    };
    stirs = λ h old new at k t i. record {
      basis = stirs-basis m setup h old new at k t i.basis;
      wholly = stirs-wholly m setup h old new at k t i.wholly;
      size = leads-size _ new _ _ t.after t.next t.leads ∙ i.size;
      run = stirs-run h old new at k t i;
    };
    starts = λ h old new lane line op now r found k idle fits t i. record {
      basis = starts-basis m setup h old new lane line op now r found k idle fits t i.basis;
      wholly = starts-wholly m setup h old new lane line op now r found k idle t i.wholly;
      size = leads-size _ new _ _ t.after t.next t.leads ∙ i.size;
      run = λ one. starts-run h old new lane line op now r found k idle fits t i one;
    };
    takes = λ h old new rec xid call at r found k fin hears named waits place t i. record {
      basis = takes-basis m setup h old new rec xid call at r found k waits place t i.basis;
      wholly = takes-wholly m setup h old new rec xid call at r found k waits place t i.wholly;
      size = leads-size _ new _ _ t.after t.next t.leads ∙ i.size;
      run = λ one. takes-run h old new rec xid call at r found k fin hears named waits place t i (one-before h (Delivered rec) one);
    };
    answers = λ h old new at lane line answer k a i. record {
      basis = (keeps-basis m setup).answers h old new at lane line answer k a i.basis;
      wholly = (keeps-wholly m setup).answers h old new at lane line answer k a i.wholly;
      size = ap (λ (w : View). w.wsize) a.is ∙ i.size;
      run = λ one k_ l here u.
          subst (λ (b : Pending). StateRuns (h ++ Answered lane line answer ∷ []) b l.state) (ap (λ (w : View). w.shelf.back) (sym a.is))
          (state-later h (Answered lane line answer) old.shelf.back l.state
          (i.run (one-before h (Answered lane line answer) one) (skip at k_) l
          (get-remove old.lanes at k_ l (sym (ap (λ (w : View). slice_get w.lanes k_) a.is) ∙ here))
          (under-back h (Answered lane line answer) l.number x saver (λ line_ o is. cc) u)));
    };
    same = λ h e old new plain lanes shelf wsize calls i. record {
      basis = (keeps-basis m setup).same h e old new plain lanes shelf wsize calls i.basis;
      wholly = (keeps-wholly m setup).same h e old new lanes shelf calls i.wholly;
      size = wsize ∙ i.size;
      run = λ one k_ l here u.
          subst (λ (s : Shelf). StateRuns (h ++ e ∷ []) s.back l.state) (sym shelf)
          (state-later h e old.shelf.back l.state
          (i.run (one-before h e one) k_ l (ap (λ (ls : List Lane). slice_get ls k_) (sym lanes) ∙ here)
          (under-back h e l.number x saver (λ line_ o is. plain.begins_ l.number line_ o is) u)));
    };
  }
    where
      leads-size : (v new : View) (at number : ℕ) (machine : Machine) (nx : Step) → Leads v at number machine nx new → new.wsize ≡ v.wsize
      leads-size v new at number machine (nexts.Send call) (inl made) = ap (λ (w : View). w.wsize) made.is
      leads-size v new at number machine (nexts.Send call) (inr r) = ap (λ (w : View). w.wsize) r.is
      leads-size v new at number machine nexts.Wait is = ap (λ (w : View). w.wsize) is
      leads-size v new at number machine (nexts.Done answer) is = ap (λ (w : View). w.wsize) is

  pub reached-tracked : (h : List Entry) (v : View) → Reaches (machine_of m) setup h v → v.lost ≡ false → Tracked h v
  reached-tracked = reached-hearing (machine_of m) (begins-unbegun m) setup Tracked track-laws
