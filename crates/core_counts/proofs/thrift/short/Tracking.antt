-- Where all operations are of one lane and find room: a put whose bytes have two places next to each other, along a history.
use Rattle.core_counts.proofs.Prelude.{◌≡◌, ◌<◌, ◌≤◌, ◌⊎◌, inl, inr, ◌+◌, ◌-◌, ◌^◌, ◌++◌, nat_eq, ℕ, Bool, true, false, List, [], ◌∷◌, length, Option, Some, None, Result, Err, position, slice_get, slice_set, refl, sym, ap, subst, ◌∙◌, arith, append_assoc, option_map, get_or, eqb-true, eqb-false, ltb-true, xid_at, Waiting, next_xid, waiting_at, Fault, Entry, Began, Answered, Sent, Delivered, Call, Reply, Op, most_pending, WriterAt, At, UnderWay, OneLane, CoveredEarlier, NeverFull, At-grow, At-cases, At-last, length_last, Pending, of_file, all_pending, HasNoPiece, covers, said_of, Step, Shelf, Turn, PutFile, Putting, Saving, is_full, IsUnused, Text, Mounted, Machine, Opener, PathMachine, machine_of, put_of, front_of, last_of, Fits, file_of, Starts, Resumes, Takes, Lane, Purpose, State, Busy, Over, Setup, is_busy, numbers_of, IsIdle, with_state, IsRefused, Leads, Stirs, counted, StartsLane, TakesAt, View, turn_at, unmade_turn, in_flight, HearsRecord, Reaches, begins-unbegun, taken_one, flies_of, flies_path, flies_file, flies_put, flies_if, Flies, was-sent, Known, taker-is, taker-one, lanes-under-way, idle-numbers, number_of, at-set, at-push, get-push, get-remove, skip, to-map, answered-grow, set-other, under-back, unused-next, EachSound, IsAwaited, TakesHas, FileHas, PathHas, PutHas, Basis, basis-ready, stirs-basis, starts-basis, takes-basis, keeps-basis, unmade-has, Entered, Room, reached-room, stage_of, counts-cons, each-map, all-each, different-apart, KeepsHearing, reached-hearing, sent-piece, IsSent, Wholly, keeps-wholly, stirs-wholly, starts-wholly, takes-wholly, starts-has, resumes-has, takes-has, none-busy, sender, look_at, slice_get-get_or, position-Some, WaitsPlain, NotAsStable}
use Rattle.core_session.proofs.order.Basis.{unused-idle}
use Rattle.core_session.proofs.room.Rooms.{Stands}
use Rattle.world_model.specs.declared.op.Op.TheVariants as ops
use Rattle.claims.specs.Asks as asks
use Rattle.write_back.specs.Pieces.{Sent as Piece}
use Rattle.write_back.specs.Sound as backs
use Rattle.client_shelf.specs.declared.step.Step.TheVariants as nexts
use Rattle.file_ops.specs.declared.put_file.Putting.TheVariants as putting
use Rattle.file_ops.specs.PutFile as puts
use Rattle.file_ops.specs.Saves as saves
use Rattle.file_ops.specs.WriteFile as writes
use Rattle.file_ops.specs.declared.write_file.Text.TheVariants as texts
use Rattle.name_ops.specs.Pairs.{walk_of}
use Rattle.op_machines.specs.declared.machine.Machine.TheVariants as machines
use Rattle.op_machines.specs.declared.opener.Opener.TheVariants as openers
use Rattle.op_machines.specs.FileFits.{FileFits}
use Rattle.op_machines.specs.FileSteps as steps
use Rattle.op_machines.specs.PathSteps as paths
use Rattle.op_machines.proofs.AllLaws as laws
use Rattle.core_answers.proofs.writes.AllFits as fitting
use Rattle.core_session.proofs.order.Sounds.{resumes-sound, starts-sound, takes-sounds}
use Rattle.core_session.proofs.room.Stages.{putting as putting_stage, put_stage, file_stage, path_stage}
use Rattle.core_session.proofs.syncs.LaneSteps.{asked-piece}
use Rattle.core_counts.proofs.thrift.short.Ends.{Each}
use Rattle.core_counts.proofs.thrift.short.Lone.{early-unused, each-least, same-lane, one-before, room-before, only-one, none-flying, covered-now, none-unused}
use Rattle.world_model.specs.declared.answer.Answer.TheVariants as answers
use Rattle.world_model.specs.declared.answer.Fault.TheVariants as faults
use Rattle.core_counts.proofs.thrift.short.SyncTracks.{waits-plain, not-stable}
use Rattle.core_counts.proofs.thrift.short.Putting.{MayAdd, Awaits, AtState, HeardBy, OpenerHears, OpenerRuns, Hears, Runs, RunsOn, runs-starts, runs-resumes, runs-takes, runs-map}

-- ---- room

made-text : (text : Text) → length (writes.made_bytes text) ≤ length (writes.text_bytes text)
made-text (texts.Given bytes) = omega arith
made-text (texts.Fill count byte) = omega arith

full-most : (bytes : List ℕ) (b : Pending) → is_full bytes b ≡ true → most_pending < all_pending b + length bytes
unfolding backs.most_pending
full-most bytes b full = ltb-true most_pending (all_pending b + length bytes) full

pub not-full : (bytes : List ℕ) (b : Pending) → all_pending b + length bytes ≤ most_pending → is_full bytes b ≡ false
not-full bytes b few = by (is_full bytes b) refl
  where
    by : (c : Bool) → is_full bytes b ≡ c → c ≡ false
    by true full = let more = full-most bytes b full in absurd (omega (arith, more, few))
    by false full = refl

-- As the operation at the place x began, no byte of the second place waited so, or one of the first was to be sent as stable.
pub record BeganSo (m : Mounted) (setup : Setup) (h : List Entry) (x : ℕ) (f : List ℕ) (first second : ℕ) : Type 0 where
  pub before : List Entry
  pub after : List Entry
  pub is : h ≡ before ++ after
  pub there : length before ≡ x
  pub view : View
  pub reaches : Reaches (machine_of m) setup before view
  pub found : view.lost ≡ false
  pub quiet : HasNoPiece f view.shelf.back
  pub idle : (n : ℕ) (l : Lane) → slice_get view.lanes n ≡ Some l → ⊥
  pub other : NotAsStable (of_file f view.shelf.back) first → WaitsPlain (of_file f view.shelf.back) second → ⊥

module _ (m : Mounted) (setup : Setup) (f : List ℕ) (before next : ℕ) (is_next : next ≡ before + 1) (some : 1 ≤ setup.wsize) (x : ℕ) (path : List (List ℕ)) (offset : ℕ) (bytes : List ℕ)
    (side : Bool) (has_before : covers offset (length bytes) before ≡ side) (has_next : covers offset (length bytes) next ≡ side) where
  abbrev pub Cov : List Entry → Type 0
  Cov h = CoveredEarlier h (length h) f next ⊎ ((side ≡ false) × BeganSo m setup h x f before next)

  abbrev pub Running : List Entry → Machine → Pending → Type 0
  Running h machine b = Runs before next setup.wsize is_next some f (Cov h) offset bytes side has_before has_next machine b

  abbrev RunningOn : List Entry → Step → Machine → Pending → Type 0
  RunningOn h nx machine b = RunsOn before next setup.wsize is_next some f (Cov h) offset bytes side has_before has_next nx machine b

  abbrev May : List Entry → Shelf → Type 0
  May h old = MayAdd before next setup.wsize is_next some f (Cov h) offset bytes side has_before has_next old

  abbrev pub ThisPut : Op
  ThisPut = ops.Put path offset bytes

  abbrev pub StateRuns : List Entry → Pending → State → Type 0
  StateRuns h b (Busy machine) = Running h machine b
  StateRuns h b (Over answer) = Unit {0}

  abbrev pub AllRun : List Entry → View → Type 0
  AllRun h v = (k : ℕ) (lane : Lane) → slice_get v.lanes k ≡ Some lane → UnderWay h lane.number x (length h) ThisPut → StateRuns h v.shelf.back lane.state

  pub record Tracked (h : List Entry) (v : View) : Type 0 where
    pub basis : Basis setup h v
    pub wholly : Wholly setup h v
    pub size : v.wsize ≡ setup.wsize
    pub run : OneLane h → NeverFull h → AllRun h v

  -- ---- one entry more

  covered-later : (h : List Entry) (e : Entry) → Cov h → Cov (h ++ e ∷ [])
  covered-later h e (inl c) = inl (record {
    at = c.at;
    xid = c.xid;
    bytes = c.bytes;
    call = c.call;
    sent = At-grow h (e ∷ []) c.at (Sent c.bytes) c.sent;
    spells = c.spells;
    covers = c.covers;
    earlier = let early = c.earlier in let more = length_last h e in omega (arith, early, more);
  })
  covered-later h e (inr c) = inr (
    c.0,
    record {
      before = c.1.before;
      after = c.1.after ++ e ∷ [];
      is = ap (λ (k : List Entry). k ++ e ∷ []) c.1.is ∙ append_assoc c.1.before c.1.after (e ∷ []);
      there = c.1.there;
      view = c.1.view;
      reaches = c.1.reaches;
      found = c.1.found;
      quiet = c.1.quiet;
      idle = c.1.idle;
      other = c.1.other;
    },
  )

  state-later : (h : List Entry) (e : Entry) (b : Pending) (state : State) → StateRuns h b state → StateRuns (h ++ e ∷ []) b state
  state-later h e b (Busy machine) r =
      runs-map before next setup.wsize is_next some f (Cov h) (Cov (h ++ e ∷ [])) offset bytes side has_before has_next (covered-later h e) machine b r
  state-later h e b (Over answer) r = tt

  -- ---- what a step leads to

  -- the call that can't be made was the last
  unmade-hears : (v : View) (fault : Fault) (machine : Machine) (h : List Entry) → ((g : List ℕ) → flies_of machine ≡ Some g → IsSent (next_xid v.calls) g v.shelf.back)
      → ((file : List ℕ) → Each (λ q. q.xid ≤ next_xid v.calls) (of_file file v.shelf.back).pieces)
      → Hears before next setup.wsize is_next some f (Cov h) offset bytes side has_before has_next (turn_at v) (unmade_turn v) (Err fault) machine v.shelf.back
  unmade-hears v fault (machines.File k) h it last = tt
  unmade-hears v fault (machines.Name k) h it last = tt
  unmade-hears v fault (machines.Path k) h it last = by k.arrived k.opener refl refl
    where
      at-save : (p : PutFile) → k.arrived ≡ true → k.opener ≡ openers.Put p → (s : Saving) → p.state ≡ putting.Saves s → IsAwaited s (next_xid v.calls) v.shelf.back
      at-save p there at s is sends =
          let flies : flies_of (machines.Path k) ≡ Some s.file =
          ap (λ (b : Bool). flies_path b k.opener) there ∙ ap (λ (o : Opener). flies_file (file_of o)) at ∙ ap (λ (z : Putting). flies_put z p.write.state) is ∙ ap (λ (b : Bool). flies_if b s.file) sends in
          let sent = it s.file flies in
          ap is-some sent.there
        where
          is-some : Option Piece → Bool
          is-some None = false
          is-some (Some q) = true

      of : (p : PutFile) → k.arrived ≡ true → k.opener ≡ openers.Put p → (state : Putting) → p.state ≡ state
          → HeardBy before next setup.wsize is_next some f (Cov h) offset bytes side has_before has_next (turn_at v) (unmade_turn v) (Err fault) state v.shelf.back
      of p there at putting.Idle is = tt
      of p there at putting.Opens is = tt
      of p there at (putting.Adds file) is = tt
      of p there at (putting.Saves s) is = (at-save p there at s is, inr (fault, refl, λ same. last s.file))

      by : (b : Bool) (o : Opener) → k.arrived ≡ b → k.opener ≡ o
          → OpenerHears before next setup.wsize is_next some f (Cov h) offset bytes side has_before has_next (turn_at v) (unmade_turn v) (Err fault) b o v.shelf.back
      by true (openers.Put p) there at = of p there at p.state refl
      by true (openers.Open o) there at = tt
      by false o there at = tt

  module _ (h : List Entry) (v new : View) (at number : ℕ) (machine : Machine) (nx : Step) (there : slice_get v.lanes at ≡ Some (record { number = number; state = Busy machine }))
      (others : (k : ℕ) (lane : Lane) → slice_get v.lanes k ≡ Some lane → k ≡ at) (size : v.wsize ≡ setup.wsize) (sound : EachSound v.shelf.back)
      (last : (file : List ℕ) → Each (λ q. q.xid ≤ next_xid v.calls) (of_file file v.shelf.back).pieces)
      (it : (call : Call) → nx ≡ nexts.Send call → (g : List ℕ) → flies_of machine ≡ Some g → IsSent (next_xid v.calls) g v.shelf.back)
      (on : UnderWay h number x (length h) ThisPut → RunningOn h nx machine v.shelf.back) where
    own-lane : (k : ℕ) (lane : Lane) → slice_get v.lanes k ≡ Some lane → record { number = number; state = Busy machine } ≡ lane
    own-lane k lane here = same-lane (record { number = number; state = Busy machine }) lane (sym there ∙ ap (slice_get v.lanes) (sym (others k lane here)) ∙ here)

    -- where its state is another
    set-run : (state : State) (shelf : Shelf) → (UnderWay h number x (length h) ThisPut → StateRuns h shelf.back state) → AllRun h (with_state v at number state shelf)
    set-run state shelf own k lane here = by (nat_eq k at) refl
      where
        by : (b : Bool) → nat_eq k at ≡ b → UnderWay h lane.number x (length h) ThisPut → StateRuns h shelf.back lane.state
        by true is =
            let same : record { number = number; state = state } ≡ lane =
            same-lane (record { number = number; state = state }) lane
            (sym (at-set v.lanes at (record { number = number; state = Busy machine }) (record { number = number; state = state }) there)
            ∙ ap (slice_get (slice_set v.lanes at (record { number = number; state = state }))) (sym (eqb-true k at is)) ∙ here) in
            subst (λ (l : Lane). UnderWay h l.number x (length h) ThisPut → StateRuns h shelf.back l.state) same own
        by false is =
            let off = eqb-false k at is in
            absurd (off (others k lane (sym (set-other v.lanes at k (record { number = number; state = state }) off) ∙ here)))

    same-run : (UnderWay h number x (length h) ThisPut → Running h machine v.shelf.back) → AllRun h v
    same-run own k lane here = subst (λ (l : Lane). UnderWay h l.number x (length h) ThisPut → StateRuns h v.shelf.back l.state) (own-lane k lane here) own

    leads-if : (n : Step) → nx ≡ n → Leads v at number machine n new → AllRun h new
    leads-if nexts.Wait is l = subst (AllRun h) (sym l) (same-run (λ u. subst (λ (z : Step). RunningOn h z machine v.shelf.back) is (on u)))
    leads-if (nexts.Done answer) is l = subst (AllRun h) (sym l) (set-run (Over answer) v.shelf (λ u. tt))
    leads-if (nexts.Send call) is (inl made) =
        subst (AllRun h) (sym made.is) (same-run (λ u. subst (λ (z : Step). RunningOn h z machine v.shelf.back) is (on u)))
    leads-if (nexts.Send call) is (inr r) = subst (AllRun h) (sym r.is) (set-run r.state r.left (λ u. by r.next refl r.leads (left u)))
      where
        takes : Takes setup.wsize machine (turn_at v) (unmade_turn v) (Err r.fault) v.shelf r.next r.after r.left
        takes = subst (λ (n : ℕ). Takes n machine (turn_at v) (unmade_turn v) (Err r.fault) v.shelf r.next r.after r.left) size r.takes

        left : UnderWay h number x (length h) ThisPut → RunningOn h r.next r.after r.left.back
        left u =
            runs-takes before next setup.wsize is_next some f (Cov h) offset bytes side has_before has_next (turn_at v) (unmade_turn v) (Err r.fault) v.shelf sound r.next r.left machine r.after
            (subst (λ (z : Step). RunningOn h z machine v.shelf.back) is (on u)) (unmade-hears v r.fault machine h (it call is) last) takes
            (unmade-has (λ g o bs. May h v.shelf) setup.wsize (turn_at v) (unmade_turn v) r.fault machine v.shelf r.next r.after r.left takes)

        by : (n : Step) → r.next ≡ n → IsRefused r.after n r.state → RunningOn h r.next r.after r.left.back → StateRuns h r.left.back r.state
        by (nexts.Send again) same st runs_ = absurd st
        by nexts.Wait same st runs_ = subst (StateRuns h r.left.back) (sym st) (subst (λ (z : Step). RunningOn h z r.after r.left.back) same runs_)
        by (nexts.Done answer) same st runs_ = subst (StateRuns h r.left.back) (sym st) tt

    pub leads-run : Leads v at number machine nx new → AllRun h new
    leads-run l = leads-if nx refl l

  -- ---- it goes on, and begins

  early-of : (h : List Entry) (old : View) → Known setup h old → Basis setup h old → (file : List ℕ) → Each (λ q. q.xid < next_xid old.calls) (of_file file old.shelf.back).pieces
  early-of h old k basis file = early-unused (next_xid old.calls) (of_file file old.shelf.back).pieces (λ y late. unused-idle setup h old k.rows basis.flying.flown y (inr late) file)

  stirs-run : (h : List Entry) (old new : View) (at : ℕ) → Known setup h old → Stirs old at new → Tracked h old → OneLane h → NeverFull h → AllRun h new
  stirs-run h old new at k t i one room =
      leads-run h v new at t.number t.after t.next
      (at-set old.lanes at (record { number = t.number; state = Busy t.machine }) (record { number = t.number; state = Busy t.after }) t.there) others i.size
      (resumes-sound old.wsize (turn_at old) t.machine old.shelf t.next t.after t.shelf i.basis.sound unused t.resumes)
      (λ file. each-least (next_xid old.calls) (of_file file t.shelf.back).pieces
      (early-unused (next_xid old.calls + 1) (of_file file t.shelf.back).pieces
      (λ y late. (laws.resumes-ready old.wsize t.machine (turn_at old) old.shelf t.next t.after t.shelf t.resumes (basis-ready setup h old k.rows i.basis)).xids y (inr late) file)))
      (asked-piece (next_xid old.calls) t.next t.after t.shelf.back (resumes-has old.wsize (turn_at old) t.machine old.shelf t.next t.after t.shelf t.resumes unused)
      (fitting.all-resumes old.wsize (turn_at old) t.machine old.shelf t.next t.after t.shelf t.resumes))
      (λ u. runs-resumes before next setup.wsize is_next some f (Cov h) offset bytes side has_before has_next (turn_at old) old.shelf i.basis.sound (early-of h old k i.basis) t.next t.shelf t.machine t.after
      (i.run one room at (record { number = t.number; state = Busy t.machine }) t.there u)
      (subst (λ (n : ℕ). Resumes n t.machine (turn_at old) old.shelf t.next t.after t.shelf) i.size t.resumes)) t.leads
    where
      v : View
      v = with_state old at t.number (Busy t.after) t.shelf

      unused : IsUnused (next_xid old.calls) old.shelf.back
      unused = unused-next setup h old k.rows i.wholly.flying.flown

      others : (n : ℕ) (lane : Lane) → slice_get (slice_set old.lanes at (record { number = t.number; state = Busy t.after })) n ≡ Some lane → n ≡ at
      others n lane here = by (nat_eq n at) refl
        where
          by : (b : Bool) → nat_eq n at ≡ b → n ≡ at
          by true is = eqb-true n at is
          by false is =
              only-one setup h old k one n at lane (record { number = t.number; state = Busy t.machine })
              (sym (set-other old.lanes at n (record { number = t.number; state = Busy t.after }) (eqb-false n at is)) ∙ here) t.there

  began-op : (a b c d : ℕ) (o p : Op) → Began a b o ≡ Began c d p → o ≡ p
  began-op a b c d o p e = cc

  starts-run : (h : List Entry) (old new : View) (lane line : ℕ) (op : Op) (now : ℕ) → Reaches (machine_of m) setup h old → old.lost ≡ false → Known setup h old → IsIdle lane old.lanes
      → Fits (machine_of m lane op) → StartsLane (counted old now) lane (machine_of m lane op) new → Tracked h old → OneLane (h ++ Began lane line op ∷ []) → AllRun (h ++ Began lane line op ∷ []) new
  starts-run h old new lane line op now r found k idle fits t i one =
      leads-run later v new (length old.lanes) lane t.after t.next (at-push old.lanes (record { number = lane; state = Busy t.after })) others i.size
      (starts-sound old.wsize (turn_at (counted old now)) (machine_of m lane op) old.shelf t.next t.after t.shelf fits i.basis.sound unused i.basis.newest t.starts)
      (λ file. each-least (next_xid old.calls) (of_file file t.shelf.back).pieces
      (early-unused (next_xid old.calls + 1) (of_file file t.shelf.back).pieces
      (λ y late. (laws.starts-ready old.wsize (machine_of m lane op) (turn_at (counted old now)) old.shelf t.next t.after t.shelf t.starts (basis-ready setup h old k.rows i.basis)).xids y (inr late) file)))
      (asked-piece (next_xid old.calls) t.next t.after t.shelf.back (starts-has old.wsize (turn_at (counted old now)) (machine_of m lane op) old.shelf t.next t.after t.shelf t.starts unused)
      (fitting.all-starts old.wsize (turn_at (counted old now)) (machine_of m lane op) old.shelf t.next t.after t.shelf t.starts))
      begun t.leads
    where
      later : List Entry
      later = h ++ Began lane line op ∷ []

      v : View
      v = record (counted old now) { lanes = old.lanes ++ record { number = lane; state = Busy t.after } ∷ []; shelf = t.shelf }

      unused : IsUnused (next_xid old.calls) old.shelf.back
      unused = unused-next setup h old k.rows i.wholly.flying.flown

      -- no other is there
      none-else : (n : ℕ) (l : Lane) → slice_get old.lanes n ≡ Some l → ⊥
      none-else n l was =
          let y = (lanes-under-way h old k.lanes).busy n l was in
          let same : l.number ≡ lane = one y.x (length h) l.number lane y.under_way.line line y.op op (At-grow h (Began lane line op ∷ []) y.x (Began l.number y.under_way.line y.op) y.under_way.began) (At-last h (Began lane line op)) in
          idle-numbers lane (numbers_of old.lanes) idle.other n (to-map number_of old.lanes n l was ∙ ap Some same)

      others : (n : ℕ) (l : Lane) → slice_get (old.lanes ++ record { number = lane; state = Busy t.after } ∷ []) n ≡ Some l → n ≡ length old.lanes
      others n l here = by (get-push old.lanes (record { number = lane; state = Busy t.after }) n l here)
        where
          by : (slice_get old.lanes n ≡ Some l) ⊎ ((n ≡ length old.lanes) × (l ≡ record { number = lane; state = Busy t.after })) → n ≡ length old.lanes
          by (inl was) = absurd (none-else n l was)
          by (inr last) = last.0

      begun : UnderWay later lane x (length later) ThisPut → RunningOn later t.next t.after t.shelf.back
      begun u =
          runs-starts before next setup.wsize is_next some f (Cov later) offset bytes side has_before has_next (turn_at (counted old now)) old.shelf i.basis.sound (early-of h old k i.basis) t.next t.shelf
          (record { walk = walk_of m.root (front_of path); opener = put_of m lane (last_of path) offset bytes; arrived = false }) t.after refl (record { offset_is = refl; text_is = refl }, awaits side refl)
          (subst (λ (n : ℕ). Starts n (machine_of m lane ThisPut) (turn_at (counted old now)) old.shelf t.next t.after t.shelf) i.size
          (subst (λ (o : Op). Starts old.wsize (machine_of m lane o) (turn_at (counted old now)) old.shelf t.next t.after t.shelf) (now-op u).0 t.starts))
        where
          now-op : UnderWay later lane x (length later) ThisPut → (op ≡ ThisPut) × (x ≡ length h)
          now-op u = by (At-cases h (Began lane line op) x (Began lane u.line ThisPut) u.began)
            where
              by : At h x (Began lane u.line ThisPut) ⊎ ((x ≡ length h) × (Began lane line op ≡ Began lane u.line ThisPut)) → (op ≡ ThisPut) × (x ≡ length h)
              by (inr now) = (began-op lane line lane u.line op ThisPut now.1, now.0)
              by (inl was) = absurd (u.unanswered (answered-grow h (Began lane line op) x (length h) (length later) (let more = length_last h (Began lane line op) in omega (arith, more))
                  ((k.lanes.rest lane (λ at there. idle-numbers lane (numbers_of old.lanes) idle.other at there)).answered x u.line ThisPut was)))

          none : (of_file f old.shelf.back).pieces ≡ []
          none = none-unused (of_file f old.shelf.back).pieces (λ y. unflown y (waiting_at y old.calls.calls) refl f)
            where
              any : Lane
              any = record { number = lane; state = Over (answers.Refused faults.Memory) }

              unflown : (y : ℕ) (o : Option (Waiting Purpose)) → waiting_at y old.calls.calls ≡ o → IsUnused y old.shelf.back
              unflown y None waits =
                  subst (λ (p : Option Purpose). Flies y (sender (look_at old.lanes) p) old.shelf.back) (ap (option_map (λ (w : Waiting Purpose). w.purpose)) waits) (i.basis.flying.flown.flies y)
              unflown y (Some w) waits = of (position (is_busy w.purpose.lane) old.lanes) refl
                where
                  of : (o : Option ℕ) → position (is_busy w.purpose.lane) old.lanes ≡ o → IsUnused y old.shelf.back
                  of None is = absurd (none-busy old y w waits is k.known.counted)
                  of (Some j) is =
                      let busy = position-Some (is_busy w.purpose.lane) old.lanes j any is in
                      absurd (none-else j (get_or old.lanes j any) (slice_get-get_or old.lanes j any busy.0))

          awaits : (c : Bool) → side ≡ c → Awaits before next setup.wsize is_next some f (Cov later) offset bytes side has_before has_next c old.shelf.back
          awaits true side_is = tt
          awaits false side_is = both (not-stable (of_file f old.shelf.back) before) (waits-plain (of_file f old.shelf.back) next)
            where
              otherwise : (NotAsStable (of_file f old.shelf.back) before → WaitsPlain (of_file f old.shelf.back) next → ⊥) → Cov later
              otherwise not = inr (side_is, record { before = h; after = Began lane line op ∷ []; is = refl; there = sym (now-op u).1; view = old; reaches = r; found = found; quiet = none; idle = none-else; other = not })

              both : NotAsStable (of_file f old.shelf.back) before ⊎ (NotAsStable (of_file f old.shelf.back) before → ⊥)
                  → WaitsPlain (of_file f old.shelf.back) next ⊎ (WaitsPlain (of_file f old.shelf.back) next → ⊥)
                  → Cov later ⊎ (NotAsStable (of_file f old.shelf.back) before × WaitsPlain (of_file f old.shelf.back) next)
              both (inl a) (inl b) = inr (a, b)
              both (inl a) (inr not) = inl (otherwise (λ z b. not b))
              both (inr not) b = inl (otherwise (λ a z. not a))

  -- ---- what came

  module _ (h : List Entry) (old : View) (r : Reaches (machine_of m) setup h old) (found : old.lost ≡ false) (k : Known setup h old) (one : OneLane h) (i : Tracked h old) (at number : ℕ) (machine : Machine)
      (there : slice_get old.lanes at ≡ Some (record { number = number; state = Busy machine })) where
    module _ (rec : List ℕ) (fin : View) (hears : HearsRecord old rec fin) where
      abbrev later : List Entry
      later = h ++ Delivered rec ∷ []

      -- what is known of the reply
      heard-now : (sent turn : Turn) (came : Result Reply Fault) → ((g : List ℕ) → flies_of machine ≡ Some g → IsSent sent.xid g old.shelf.back)
          → ((file : List ℕ) → Each (λ q. q.xid < turn.xid) (of_file file old.shelf.back).pieces)
          → Hears before next setup.wsize is_next some f (Cov later) offset bytes side has_before has_next sent turn came machine old.shelf.back
      heard-now sent turn came it early = by machine refl
        where
          at-path : (c : PathMachine) → machine ≡ machines.Path c → (b : Bool) (o : Opener) → c.arrived ≡ b → c.opener ≡ o
              → OpenerHears before next setup.wsize is_next some f (Cov later) offset bytes side has_before has_next sent turn came b o old.shelf.back
          at-path c is true (openers.Open o) arrived at_ = tt
          at-path c is false o arrived at_ = tt
          at-path c is true (openers.Put p) arrived at_ = of p.state refl
            where
              flies : (s : Saving) → p.state ≡ putting.Saves s → flies_of machine ≡ flies_if (saves.is_sending s.phase) s.file
              flies s state =
                  ap flies_of is ∙ ap (λ (b : Bool). flies_path b c.opener) arrived ∙ ap (λ (o : Opener). flies_file (file_of o)) at_ ∙ ap (λ (z : Putting). flies_put z p.write.state) state

              is-some : Option Piece → Bool
              is-some None = false
              is-some (Some q) = true

              awaited : (s : Saving) → p.state ≡ putting.Saves s → IsAwaited s sent.xid old.shelf.back
              awaited s state sends = let k = it s.file (flies s state ∙ ap (λ (b : Bool). flies_if b s.file) sends) in ap is-some k.there

              of : (state : Putting) → p.state ≡ state → HeardBy before next setup.wsize is_next some f (Cov later) offset bytes side has_before has_next sent turn came state old.shelf.back
              of putting.Idle state = tt
              of putting.Opens state = tt
              of (putting.Adds file) state = tt
              of (putting.Saves s) state = (awaited s state, inl (early s.file, λ flown same at__. covered-later h (Delivered rec) (inl (covered-now m setup f next h old r found k one i.basis i.wholly at number machine there s (flies s state) same flown at__ (λ w waits. was-sent flown.xid old.calls.calls w hears.may.sent waits)))))

          by : (c : Machine) → machine ≡ c → Hears before next setup.wsize is_next some f (Cov later) offset bytes side has_before has_next sent turn came c old.shelf.back
          by (machines.File c) is = tt
          by (machines.Name c) is = tt
          by (machines.Path c) is = at-path c is c.arrived c.opener refl refl

    -- ---- its bytes come in

    module _ (room : NeverFull h) (u : UnderWay h number x (length h) ThisPut) (c : PathMachine) (is : machine ≡ machines.Path c) (p : PutFile) (arrived : c.arrived ≡ true) (opener : c.opener ≡ openers.Put p)
        (opens : p.state ≡ putting.Opens) (offset_is : p.write.offset ≡ offset) (text_is : writes.made_bytes p.write.text ≡ bytes) where
      abbrev size_of : ℕ
      size_of = length (writes.text_bytes p.write.text)

      stood : Room h old
      stood = reached-room m setup h old r found

      stage_is : stage_of machine ≡ putting_stage size_of false
      stage_is = ap stage_of is ∙ ap (λ (b : Bool). path_stage b c.opener) arrived ∙ ap (λ (o : Opener). file_stage (file_of o)) opener ∙ ap (λ (s : Putting). put_stage s size_of) opens

      stands : Stands stood.writers x ThisPut (putting_stage size_of false)
      stands = subst (Stands stood.writers x ThisPut) stage_is (stood.stand at (record { number = number; state = Busy machine }) there x ThisPut u)

      few : all_pending old.shelf.back + size_of ≤ most_pending
      few =
          let all = room ((x, ThisPut) ∷ stood.writers) (different-apart ((x, ThisPut) ∷ stood.writers) (stands.new, stood.apart))
          (all-each (WriterAt h) ((x, ThisPut) ∷ stood.writers) (own_writer, each-map (Entered h old.lanes) (WriterAt h) (λ o e. record { began = e.began; writes = e.writes }) stood.writers stood.each)) in
          let sum = counts-cons (x, ThisPut) stood.writers in
          let own = stands.suits.1 in
          let bound = stood.bound in
          omega (arith, all, sum, own, bound)
        where
          own_writer : WriterAt h (x, ThisPut)
          own_writer = record { began = (number, u.line, u.began); writes = asks.put path offset bytes refl }

      fits_ : p.write.offset + length (writes.text_bytes p.write.text) ≤ 2 ^ 63 - 1
      fits_ =
          let own : Fits machine = i.basis.fits at (record { number = number; state = Busy machine }) there in
          subst (λ (o : Opener). FileFits (file_of o)) opener (subst Fits is own)

      may-add : (g : List Entry) → May g old.shelf
      may-add g = record {
        newest = i.basis.newest;
        last = let made = made-text p.write.text in let text = ap length text_is in omega (arith, fits_, made, text, offset_is);
        full = let made = made-text p.write.text in let text = ap length text_is in not-full bytes old.shelf.back (omega (arith, few, made, text));
        quiet = none-flying m setup f next h old r found k one i.basis i.wholly at number machine there (ap flies_of is ∙ ap (λ (b : Bool). flies_path b c.opener) arrived ∙ ap (λ (o : Opener). flies_file (file_of o)) opener ∙ ap (λ (s : Putting). flies_put s p.write.state) opens);
      }

  -- what it adds, it has room for
  module _ (g : List Entry) (old after : Shelf) (sent turn : Turn) (came : Result Reply Fault) (nx : Step) where
    put-has : (state : Putting) (p new : PutFile) → AtState before next setup.wsize is_next some f (Cov g) offset bytes side has_before has_next state old.back → (state ≡ putting.Opens → May g old)
        → (t : puts.Takes state setup.wsize p sent turn came old nx new after) → PutHas (λ file. May g old) state setup.wsize p sent turn came old nx new after t
    put-has putting.Idle p new at may t = tt
    put-has putting.Opens p new at may t = λ file is. may refl
    put-has (putting.Adds file) p new at may t = absurd at
    put-has (putting.Saves s) p new at may t = tt

    file-has : (o k : Opener) → OpenerRuns before next setup.wsize is_next some f (Cov g) offset bytes side has_before has_next true o old.back
        → ((p : PutFile) → o ≡ openers.Put p → p.write.offset ≡ offset → writes.made_bytes p.write.text ≡ bytes → p.state ≡ putting.Opens → May g old)
        → (t : steps.Takes setup.wsize (file_of o) sent turn came old nx (file_of k) after) → FileHas (λ a b c. May g old) setup.wsize (file_of o) sent turn came old nx (file_of k) after t
    file-has (openers.Open o) k runs_ may t = absurd runs_
    file-has (openers.Put p) k runs_ may t = put-has p.state p t.machine runs_.at (may p refl runs_.text.offset_is runs_.text.text_is) t.step

    path-has : (b : Bool) (c new : PathMachine) → OpenerRuns before next setup.wsize is_next some f (Cov g) offset bytes side has_before has_next b c.opener old.back
        → (b ≡ true → (p : PutFile) → c.opener ≡ openers.Put p → p.write.offset ≡ offset → writes.made_bytes p.write.text ≡ bytes → p.state ≡ putting.Opens → May g old)
        → (t : paths.PathTakes b setup.wsize c sent turn came old nx new after) → PathHas (λ a b c. May g old) b setup.wsize c sent turn came old nx new after t
    path-has true c new runs_ may t = file-has c.opener t.opener runs_ (may refl) t.step
    path-has false c new runs_ may t = tt

    machine-has : (machine new : Machine) → Running g machine old.back
        → ((c : PathMachine) → machine ≡ machines.Path c → c.arrived ≡ true → (p : PutFile) → c.opener ≡ openers.Put p → p.write.offset ≡ offset → writes.made_bytes p.write.text ≡ bytes
        → p.state ≡ putting.Opens → May g old)
        → (t : Takes setup.wsize machine sent turn came old nx new after) → TakesHas (λ a b c. May g old) setup.wsize machine sent turn came old nx new after t
    machine-has (machines.File c) new runs_ may t = absurd runs_
    machine-has (machines.Name c) new runs_ may t = absurd runs_
    machine-has (machines.Path c) new runs_ may t = path-has c.arrived c t.machine runs_ (may c refl) t.step

  takes-run : (h : List Entry) (old new : View) (rec : List ℕ) (xid : ℕ) (call : Waiting Purpose) (at : ℕ) → Reaches (machine_of m) setup h old → old.lost ≡ false → Known setup h old → (fin : View)
      → HearsRecord old rec fin → xid_at rec ≡ Some xid → waiting_at xid old.calls.calls ≡ Some call → position (is_busy call.purpose.lane) old.lanes ≡ Some at
      → TakesAt (taken_one old xid) at call.purpose.sent (said_of call.purpose.proc rec) new → Tracked h old → OneLane h → NeverFull h → AllRun (h ++ Delivered rec ∷ []) new
  takes-run h old new rec xid call at r found k fin hears named waits place t i one room =
      leads-run later_ v new at t.number t.after t.next
      (at-set old.lanes at (record { number = t.number; state = Busy t.machine }) (record { number = t.number; state = Busy t.after }) t.there) others i.size
      (takes-sounds old.wsize turn call.purpose.sent came t.machine old.shelf t.next t.after t.shelf (i.basis.fits at (record { number = t.number; state = Busy t.machine }) t.there) i.basis.sound unused i.basis.newest t.takes)
      (λ file. each-least (next_xid old.calls) (of_file file t.shelf.back).pieces
      (early-unused (next_xid old.calls + 1) (of_file file t.shelf.back).pieces
      (λ y late. (laws.takes-ready old.wsize t.machine call.purpose.sent turn came old.shelf t.next t.after t.shelf t.takes (basis-ready setup h old k.rows i.basis)).xids y (inr late) file)))
      (asked-piece (next_xid old.calls) t.next t.after t.shelf.back
      (takes-has old.wsize turn call.purpose.sent came t.machine old.shelf t.next t.after t.shelf (in_flight t.machine - 1) single pieces t.takes unused)
      (fitting.all-takes old.wsize turn call.purpose.sent came t.machine old.shelf t.next t.after t.shelf (in_flight t.machine - 1) single t.takes))
      on t.leads
    where
      later_ : List Entry
      later_ = h ++ Delivered rec ∷ []

      came : Result Reply Fault
      came = said_of call.purpose.proc rec

      turn : Turn
      turn = turn_at (taken_one old xid)

      v : View
      v = with_state (taken_one old xid) at t.number (Busy t.after) t.shelf

      unused : IsUnused (next_xid old.calls) old.shelf.back
      unused = unused-next setup h old k.rows i.wholly.flying.flown

      single : in_flight t.machine ≡ (in_flight t.machine - 1) + 1
      single = taker-one setup h old xid call at k waits place t.number t.machine t.there

      pieces : (g : List ℕ) → flies_of t.machine ≡ Some g → IsSent call.purpose.sent.xid g old.shelf.back
      pieces = sent-piece m setup h old r found xid call waits at t.number t.machine t.there (sym (taker-is setup h old xid call at k waits place t.number t.machine t.there)) i.wholly

      others : (n : ℕ) (lane : Lane) → slice_get (slice_set old.lanes at (record { number = t.number; state = Busy t.after })) n ≡ Some lane → n ≡ at
      others n lane here = by (nat_eq n at) refl
        where
          by : (b : Bool) → nat_eq n at ≡ b → n ≡ at
          by true is = eqb-true n at is
          by false is =
              only-one setup h old k one n at lane (record { number = t.number; state = Busy t.machine })
              (sym (set-other old.lanes at n (record { number = t.number; state = Busy t.after }) (eqb-false n at is)) ∙ here) t.there

      on : UnderWay later_ t.number x (length later_) ThisPut → RunningOn later_ t.next t.after t.shelf.back
      on late =
          runs-takes before next setup.wsize is_next some f (Cov later_) offset bytes side has_before has_next call.purpose.sent turn came old.shelf i.basis.sound t.next t.shelf t.machine t.after runs_
          (heard-now h old r found k one i at t.number t.machine t.there rec fin hears call.purpose.sent turn came pieces (early-of h old k i.basis)) takes_
          (machine-has later_ old.shelf t.shelf call.purpose.sent turn came t.next t.machine t.after runs_
          (λ c is arrived p opener offset_is text_is opens. may-add h old r found k one i at t.number t.machine t.there room u c is p arrived opener opens offset_is text_is later_) takes_)
        where
          u : UnderWay h t.number x (length h) ThisPut
          u = under-back h (Delivered rec) t.number x ThisPut (λ line o is. cc) late

          runs_ : Running later_ t.machine old.shelf.back
          runs_ = state-later h (Delivered rec) old.shelf.back (Busy t.machine) (i.run one room at (record { number = t.number; state = Busy t.machine }) t.there u)

          takes_ : Takes setup.wsize t.machine call.purpose.sent turn came old.shelf t.next t.after t.shelf
          takes_ = subst (λ (n : ℕ). Takes n t.machine call.purpose.sent turn came old.shelf t.next t.after t.shelf) i.size t.takes

  -- ---- along a history

  track-laws : KeepsHearing (machine_of m) setup Tracked
  track-laws = record {
    fresh = λ h v may up fresh. record {
      basis = (keeps-basis m setup).fresh h v may up fresh;
      wholly = (keeps-wholly m setup).fresh h v fresh;
      size = fresh.wsize;
      run = λ one room k lane here. absurd (let no_way : None ≡ Some lane = ap (λ (ls : List Lane). slice_get ls k) (sym fresh.lanes) ∙ here in cc);
    };
    stirs = λ h old new at k t i. record {
      basis = stirs-basis m setup h old new at k t i.basis;
      wholly = stirs-wholly m setup h old new at k t i.wholly;
      size = leads-size _ new _ _ t.after t.next t.leads ∙ i.size;
      run = stirs-run h old new at k t i;
    };
    starts = λ h old new lane line op now r found k idle fits t i. record {
      basis = starts-basis m setup h old new lane line op now r found k idle fits t i.basis;
      wholly = starts-wholly m setup h old new lane line op now r found k idle t i.wholly;
      size = leads-size _ new _ _ t.after t.next t.leads ∙ i.size;
      run = λ one room. starts-run h old new lane line op now r found k idle fits t i one;
    };
    takes = λ h old new rec xid call at r found k fin hears named waits place t i. record {
      basis = takes-basis m setup h old new rec xid call at r found k waits place t i.basis;
      wholly = takes-wholly m setup h old new rec xid call at r found k waits place t i.wholly;
      size = leads-size _ new _ _ t.after t.next t.leads ∙ i.size;
      run = λ one room. takes-run h old new rec xid call at r found k fin hears named waits place t i (one-before h (Delivered rec) one) (room-before h (Delivered rec) room);
    };
    answers = λ h old new at lane line answer k a i. record {
      basis = (keeps-basis m setup).answers h old new at lane line answer k a i.basis;
      wholly = (keeps-wholly m setup).answers h old new at lane line answer k a i.wholly;
      size = ap (λ (w : View). w.wsize) a.is ∙ i.size;
      run = λ one room k_ l here u.
          subst (λ (b : Pending). StateRuns (h ++ Answered lane line answer ∷ []) b l.state) (ap (λ (w : View). w.shelf.back) (sym a.is))
          (state-later h (Answered lane line answer) old.shelf.back l.state
          (i.run (one-before h (Answered lane line answer) one) (room-before h (Answered lane line answer) room) (skip at k_) l
          (get-remove old.lanes at k_ l (sym (ap (λ (w : View). slice_get w.lanes k_) a.is) ∙ here))
          (under-back h (Answered lane line answer) l.number x ThisPut (λ line_ o is. cc) u)));
    };
    same = λ h e old new plain lanes shelf wsize calls i. record {
      basis = (keeps-basis m setup).same h e old new plain lanes shelf wsize calls i.basis;
      wholly = (keeps-wholly m setup).same h e old new lanes shelf calls i.wholly;
      size = wsize ∙ i.size;
      run = λ one room k_ l here u.
          subst (λ (s : Shelf). StateRuns (h ++ e ∷ []) s.back l.state) (sym shelf)
          (state-later h e old.shelf.back l.state
          (i.run (one-before h e one) (room-before h e room) k_ l (ap (λ (ls : List Lane). slice_get ls k_) (sym lanes) ∙ here)
          (under-back h e l.number x ThisPut (λ line_ o is. plain.begins_ l.number line_ o is) u)));
    };
  }
    where
      leads-size : (v new : View) (at number : ℕ) (machine : Machine) (nx : Step) → Leads v at number machine nx new → new.wsize ≡ v.wsize
      leads-size v new at number machine (nexts.Send call) (inl made) = ap (λ (w : View). w.wsize) made.is
      leads-size v new at number machine (nexts.Send call) (inr r) = ap (λ (w : View). w.wsize) r.is
      leads-size v new at number machine nexts.Wait is = ap (λ (w : View). w.wsize) is
      leads-size v new at number machine (nexts.Done answer) is = ap (λ (w : View). w.wsize) is

  pub reached-tracked : (h : List Entry) (v : View) → Reaches (machine_of m) setup h v → v.lost ≡ false → Tracked h v
  reached-tracked = reached-hearing (machine_of m) (begins-unbegun m) setup Tracked track-laws
