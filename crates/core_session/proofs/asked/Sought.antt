-- Of the file that an operation saves to make room something was pending, at a view of the core since the operation began.
use Rattle.core_session.proofs.Prelude.{◌≡◌, ◌≤◌, ◌⊎◌, inl, inr, ℕ, List, [], ◌∷◌, ◌++◌, length, remove, Bool, true, false, Option, Some, None, MatchOption, position, slice_get, slice_set, Result, Err, refl, sym, ap, subst, ◌∙◌, arith, Fault, Entry, Reply, Op, UnderWay, said_of, Pending, of_file, Segments, Cell, covers, cell_at, newest_at, Step, Shelf, Turn, Mounted, Machine, machine_of, Lane, Purpose, State, Busy, Over, Setup, is_busy, with_state, IsRefused, Leads, Stirs, Moves, moves_none, moves_more, counted, StartsLane, BeginsIf, TakesAt, View, turn_at, unmade_turn, StepsTo, Reaches, begins, goes, loses, last_reading, Heard, dropped, replied, sent_now, FailedNow, goes_on, gives_up, failed_now, answered_now, taken_one, at-set, get-push, get-remove, skip, to-map, under-back, set-other, by-place, Began, Answered, Dialed, Sent, Executed, Foreign, Flushed, Reboot, Delivered, Failed, Clock, length_last, FilePending, Flown, nothing, fly_at, fly_in, flown_in, IsSound, IsOver, covered, flown-some, some-of, numbers_of, heard-lost, number_of, idle-numbers}
use Rattle.write_back.specs.Segments.{AreApart, cell_in}
use Rattle.client_core.specs.Steps.{IsBusyAt, HearsOwn}
use Rattle.core_facts.proofs.Cases.{heard}
use Rattle.write_back.specs.Sound.{AreSent}
use Rattle.world_model.specs.declared.op.Op.TheVariants as ops
use Rattle.client_shelf.specs.declared.step.Step.TheVariants as nexts
use Rattle.write_back.specs.Pieces.{Sent as SentPiece}
use Rattle.core_session.proofs.order.Basis.{reached-basis}
use Rattle.core_session.proofs.asked.Empty.{IsEmpty}
use Rattle.core_session.proofs.order.Unmade.{unmade-has}
use Rattle.core_session.proofs.room.Onward.{Onward, stays, steps}
use Rattle.core_session.proofs.asked.Seeks.{Seeks, Gives, IsOnWay, all-starts, all-resumes, all-takes, seeks-map}

-- ---- something that is pending has a newest byte

pub record HasByte (f : List ℕ) (back : Pending) : Type 0 where
  pub place : ℕ
  pub byte : ℕ
  pub newest : newest_at (of_file f back).segments place ≡ Some byte

-- nothing is in flight where nothing is pending
no-pieces : (of : FilePending) → IsSound of → of.segments ≡ [] → of.pieces ≡ []
no-pieces of sound empty = by of.pieces refl sound.sent
  where
    by : (ps : List SentPiece) → of.pieces ≡ ps → AreSent ps → ps ≡ []
    by [] is sent = refl
    by (p ∷ ps) is sent =
        let inside : covers p.offset (length p.bytes) p.offset ≡ true = covered p.offset (length p.bytes) p.offset (omega arith) (omega (arith, sent.0.some)) in
        let flown = some-of (flown_in p p.offset) (flown-some p p.offset sent.0 inside) in
        let at : fly_at of p.offset ≡ Some flown.0 = ap (λ (qs : List SentPiece). fly_in qs p.offset) is ∙ (rw inside flown.1) in
        let none : cell_at of.segments p.offset ≡ None = ap (λ (es : Segments). cell_at es p.offset) empty in
        let no_way : ⊥ = subst (λ (c : Option Cell). IsOver (Some flown.0) c) none (subst (λ (o : Option Flown). IsOver o (cell_at of.segments p.offset)) at (sound.over p.offset)) in
        absurd no_way

-- ---- within one entry

module _ (N : ℕ → List ℕ → Type 0) where
  abbrev StateSeeks : ℕ → State → Type 0
  StateSeeks number (Busy machine) = Seeks (N number) machine
  StateSeeks number (Over answer) = Unit {0}

  abbrev LaneSeeks : Lane → Type 0
  LaneSeeks lane = StateSeeks lane.number lane.state

  abbrev AllSeek : List Lane → Type 0
  AllSeek lanes = (k : ℕ) (lane : Lane) → slice_get lanes k ≡ Some lane → LaneSeeks lane

  set-seek : (lanes : List Lane) (at number : ℕ) (machine : Machine) (state : State) → slice_get lanes at ≡ Some (record { number = number; state = Busy machine }) → StateSeeks number state
      → AllSeek lanes → AllSeek (slice_set lanes at (record { number = number; state = state }))
  set-seek lanes at number machine state there own all =
      by-place LaneSeeks (slice_set lanes at (record { number = number; state = state })) at (record { number = number; state = state })
      (at-set lanes at (record { number = number; state = Busy machine }) (record { number = number; state = state }) there) own
      (λ k lane here apart. all k lane (sym (set-other lanes at k (record { number = number; state = state }) apart) ∙ here))

  leads-seek : (old new : View) (at number : ℕ) (machine : Machine) (next : Step) → IsBusyAt old at number machine → Leads old at number machine next new → AllSeek old.lanes → AllSeek new.lanes
  leads-seek old new at number machine (nexts.Send call) there (inl made) all = subst (λ (v : View). AllSeek v.lanes) (sym made.is) all
  leads-seek old new at number machine (nexts.Send call) there (inr f) all =
      subst (λ (v : View). AllSeek v.lanes) (sym f.is) (set-seek old.lanes at number machine f.state there (state f.next f.leads) all)
    where
      own : Seeks (N number) f.after
      own = all-takes (N number) machine old.wsize (turn_at old) (unmade_turn old) (Err f.fault) old.shelf f.next f.after f.left (all at (record { number = number; state = Busy machine }) there)
          f.takes (inl ((f.fault, refl), unmade-has (λ g o b. ⊥) old.wsize (turn_at old) (unmade_turn old) f.fault machine old.shelf f.next f.after f.left f.takes))

      state : (next : Step) → IsRefused f.after next f.state → StateSeeks number f.state
      state (nexts.Send again) is = absurd is
      state nexts.Wait is = subst (StateSeeks number) (sym is) own
      state (nexts.Done answer) is = subst (StateSeeks number) (sym is) tt
  leads-seek old new at number machine nexts.Wait there is all = subst (λ (v : View). AllSeek v.lanes) (sym is) all
  leads-seek old new at number machine (nexts.Done answer) there is all =
      subst (λ (v : View). AllSeek v.lanes) (sym is) (set-seek old.lanes at number machine (Over answer) there tt all)

  steps-seek : (old new : View) (at number : ℕ) (machine after : Machine) (shelf : Shelf) (next : Step) → IsBusyAt old at number machine
      → Leads (with_state old at number (Busy after) shelf) at number after next new → Seeks (N number) after → AllSeek old.lanes → AllSeek new.lanes
  steps-seek old new at number machine after shelf next there leads own all =
      leads-seek (with_state old at number (Busy after) shelf) new at number after next
      (at-set old.lanes at (record { number = number; state = Busy machine }) (record { number = number; state = Busy after }) there) leads
      (set-seek old.lanes at number machine (Busy after) there own all)

  stirs-seek : (old new : View) (at : ℕ) → Stirs old at new → AllSeek old.lanes → AllSeek new.lanes
  stirs-seek old new at t all =
      steps-seek old new at t.number t.machine t.after t.shelf t.next t.there t.leads
      (all-resumes (N t.number) t.machine old.wsize (turn_at old) old.shelf t.next t.after t.shelf (all at (record { number = t.number; state = Busy t.machine }) t.there) t.resumes) all

  moves-seek : (old new : View) → Moves old new → AllSeek old.lanes → AllSeek new.lanes
  moves-seek _ _ (moves_none old new is) all = subst (λ (v : View). AllSeek v.lanes) (sym is) all
  moves-seek _ _ (moves_more old mid new at m room t first) all = stirs-seek mid new at t (moves-seek old mid m all)

  push-seek : (lanes : List Lane) (number : ℕ) (state : State) → StateSeeks number state → AllSeek lanes → AllSeek (lanes ++ record { number = number; state = state } ∷ [])
  push-seek lanes number state own all k lane there = by (get-push lanes (record { number = number; state = state }) k lane there)
    where
      by : (slice_get lanes k ≡ Some lane) ⊎ ((k ≡ length lanes) × (lane ≡ record { number = number; state = state })) → LaneSeeks lane
      by (inl here) = all k lane here
      by (inr new) = subst LaneSeeks (sym new.1) own

  starts-seek : (m : Mounted) (old new : View) (lane : ℕ) (op : Op) → Gives (N lane) old.shelf.back → StartsLane old lane (machine_of m lane op) new → AllSeek old.lanes → AllSeek new.lanes
  starts-seek m old new lane op g t all =
      leads-seek (record old { lanes = old.lanes ++ record { number = lane; state = Busy t.after } ∷ []; shelf = t.shelf }) new (length old.lanes) lane t.after t.next
      (pushed old.lanes) t.leads
      (push-seek old.lanes lane (Busy t.after) (all-starts (N lane) (machine_of m lane op) old.wsize (turn_at old) old.shelf t.next t.after t.shelf (on-way m lane op) g t.starts) all)
    where
      pushed : (lanes : List Lane) → slice_get (lanes ++ record { number = lane; state = Busy t.after } ∷ []) (length lanes) ≡ Some (record { number = lane; state = Busy t.after })
      pushed [] = refl
      pushed (l ∷ ls) = pushed ls

      on-way : (m : Mounted) (lane : ℕ) (op : Op) → IsOnWay (N lane) (machine_of m lane op)
      on-way m lane (ops.OpenFile slot mode path) = refl
      on-way m lane (ops.Read slot offset count) = tt
      on-way m lane (ops.Write slot offset bytes) = tt
      on-way m lane (ops.Fill slot offset count byte) = tt
      on-way m lane (ops.Put path offset bytes) = refl
      on-way m lane (ops.Sync slot) = tt
      on-way m lane (ops.Close slot) = tt
      on-way m lane (ops.Truncate slot size) = tt
      on-way m lane (ops.Stat path) = tt
      on-way m lane (ops.Access path bits) = tt
      on-way m lane (ops.MakeDir path) = tt
      on-way m lane (ops.RemoveDir path) = tt
      on-way m lane (ops.Remove path) = tt
      on-way m lane (ops.Rename from to) = tt
      on-way m lane (ops.Link from to) = tt
      on-way m lane (ops.SymLink path target) = tt
      on-way m lane (ops.ReadLink path) = tt
      on-way m lane (ops.List path) = tt

  takes-seek : (old new : View) (at : ℕ) (sent : Turn) (came : Result Reply Fault) → ((number : ℕ) → Gives (N number) old.shelf.back) → TakesAt old at sent came new → AllSeek old.lanes → AllSeek new.lanes
  takes-seek old new at sent came g t all =
      steps-seek old new at t.number t.machine t.after t.shelf t.next t.there t.leads
      (all-takes (N t.number) t.machine old.wsize sent (turn_at old) came old.shelf t.next t.after t.shelf (all at (record { number = t.number; state = Busy t.machine }) t.there) t.takes
      (inr (g t.number))) all

  hears-own-seek : (old new : View) (rec : List ℕ) (purpose : Purpose) → ((number : ℕ) → Gives (N number) old.shelf.back) → HearsOwn old rec purpose new → AllSeek old.lanes → AllSeek new.lanes
  hears-own-seek old new rec purpose g t all = by (position (is_busy purpose.lane) old.lanes) t
    where
      by : (o : Option ℕ) → MatchOption o (new ≡ old) (λ at. TakesAt old at purpose.sent (said_of purpose.proc rec) new) → AllSeek new.lanes
      by None is = subst (λ (v : View). AllSeek v.lanes) (sym is) all
      by (Some at) k = takes-seek old new at purpose.sent (said_of purpose.proc rec) g k all

  heard-seek : (old : View) (rec : List ℕ) (new : View) → ((number : ℕ) → Gives (N number) old.shelf.back) → Heard old rec new → AllSeek old.lanes → AllSeek new.lanes
  heard-seek old rec new g (dropped none is) all = subst (λ (v : View). AllSeek v.lanes) (sym is) all
  heard-seek old rec new g (replied xid call named waits t) all = moves-seek t.first new t.rest (hears-own-seek (taken_one old xid) t.first rec call.purpose g t.own all)

  begins-seek : (m : Mounted) (b : Bool) (old new : View) (lane : ℕ) (op : Op) (now : ℕ) → Gives (N lane) old.shelf.back → BeginsIf b old lane (machine_of m lane op) now new → AllSeek old.lanes
      → AllSeek new.lanes
  begins-seek m true old new lane op now g is all = subst (λ (v : View). AllSeek v.lanes) (sym is) (push-seek old.lanes lane (Over _) tt all)
  begins-seek m false old new lane op now g t all = moves-seek t.first new t.rest (starts-seek m (counted old now) t.first lane op g t.own all)

-- ---- along a history

module _ (m : Mounted) (setup : Setup) where
  abbrev On : List Entry → View → List Entry → View → Type 0
  On = Onward (machine_of m) setup

  -- The core passed through a view in which something of the file was pending, since the place x.
  pub record Had (h : List Entry) (v : View) (x : ℕ) (f : List ℕ) : Type 0 where
    pub g : List Entry
    pub gv : View
    pub reached : Reaches (machine_of m) setup g gv
    pub found : gv.lost ≡ false
    pub on : On g gv h v
    pub late : x ≤ length g
    pub has : HasByte f gv.shelf.back

  -- since the lane's operation began
  abbrev LaneHad : List Entry → View → ℕ → List ℕ → Type 0
  LaneHad h v number f = (x : ℕ) (op : Op) → UnderWay h number x (length h) op → Had h v x f

  abbrev pub AllHad : List Entry → View → Type 0
  AllHad h v = AllSeek (LaneHad h v) v.lanes

  -- ---- what is pending before an entry

  both : (of : FilePending) → of.segments ≡ [] → of.pieces ≡ [] → of ≡ nothing
  both of segments pieces =
      ap (λ (ss : Segments). record { segments = ss; pieces = of.pieces }) segments ∙ ap (λ (ps : List SentPiece). record { segments = []; pieces = ps }) pieces

  some-byte : (f : List ℕ) (back : Pending) → IsSound (of_file f back) → (IsEmpty f back → ⊥) → HasByte f back
  some-byte f back sound some = by (of_file f back).segments refl
    where
      by : (es : Segments) → (of_file f back).segments ≡ es → HasByte f back
      by [] is = absurd (some (both (of_file f back) is (no-pieces (of_file f back) sound is)))
      by (e ∷ es) is =
          let low = (subst (AreApart 0) is sound.apart).1 in
          let inside : covers e.0 (length e.1.bytes) e.0 ≡ true = covered e.0 (length e.1.bytes) e.0 (omega arith) (omega (arith, low)) in
          record {
            place = e.0;
            byte = (cell_in e e.0).byte;
            newest = ap (λ (ss : Segments). newest_at ss e.0) is ∙ (rw inside refl);
          }

  module _ (h : List Entry) (e : Entry) (old fin : View) (r : Reaches (machine_of m) setup h old) (found : old.lost ≡ false) (t : StepsTo (machine_of m) h old e fin) where
    abbrev More : List Entry
    More = h ++ e ∷ []

    on-now : On h old More fin
    on-now = steps More h fin old e (stays h old refl refl) r refl t

    -- a view that was passed before, too
    had-more : (x : ℕ) (f : List ℕ) → Had h old x f → Had More fin x f
    had-more x f k = record { g = k.g; gv = k.gv; reached = k.reached; found = k.found; on = steps More h fin old e k.on r refl t; late = k.late; has = k.has }

    gives-now : (number : ℕ) → Gives (LaneHad More fin number) old.shelf.back
    gives-now number f some x op u = record {
      g = h;
      gv = old;
      reached = r;
      found = found;
      on = on-now;
      late = let low = u.before in let long = length_last h e in omega (arith, low, long);
      has = some-byte f old.shelf.back ((reached-basis m setup h old r found).sound f) some;
    }

    -- of the lanes that go on, none of which begins now
    still-had : ((number : ℕ) → ((k : ℕ) (lane : Lane) → slice_get old.lanes k ≡ Some lane → lane.number ≡ number → (line : ℕ) (op : Op) → e ≡ Began number line op → ⊥)) → AllHad h old
        → AllSeek (LaneHad More fin) old.lanes
    still-had others all k lane there = by lane.number lane.state refl (all k lane there)
      where
        by : (number : ℕ) (state : State) → lane.number ≡ number → StateSeeks (LaneHad h old) number state → StateSeeks (LaneHad More fin) number state
        by number (Over answer) same own = tt
        by number (Busy machine) same own =
            seeks-map (LaneHad h old number) (LaneHad More fin number)
            (λ f had x op u. had-more x f (had x op (under-back h e number x op (λ line o is. others number k lane there same line o is) u))) machine own

    -- an entry that begins nothing
    plain : ((lane line : ℕ) (op : Op) → e ≡ Began lane line op → ⊥) → AllHad h old → AllSeek (LaneHad More fin) old.lanes
    plain silent all = still-had (λ number k lane there same line op is. silent number line op is) all

    same-had : ((lane line : ℕ) (op : Op) → e ≡ Began lane line op → ⊥) → fin.lanes ≡ old.lanes → AllHad h old → AllHad More fin
    same-had silent same all = subst (AllSeek (LaneHad More fin)) (sym same) (plain silent all)

  removed-seek : (N : ℕ → List ℕ → Type 0) (lanes : List Lane) (at : ℕ) → AllSeek N lanes → AllSeek N (remove lanes at)
  removed-seek N lanes at all k lane there = all (skip at k) lane (get-remove lanes at k lane there)

  began-number : (a b c d : ℕ) (o p : Op) → Began a b o ≡ Began c d p → a ≡ c
  began-number a b c d o p e = cc

  had-step : (h : List Entry) (old : View) (e : Entry) (fin : View) → StepsTo (machine_of m) h old e fin → Reaches (machine_of m) setup h old → old.lost ≡ false → fin.lost ≡ false
      → AllHad h old → AllHad (h ++ e ∷ []) fin
  had-step h old (Began lane line op) fin t r found left_ all =
      begins-seek (LaneHad (h ++ Began lane line op ∷ []) fin) m old.lost old fin lane op (last_reading 0 h)
      (gives-now h (Began lane line op) old fin r found t lane) t.step (still-had h (Began lane line op) old fin r found t others all)
    where
      others : (number k : ℕ) (l : Lane) → slice_get old.lanes k ≡ Some l → l.number ≡ number → (n : ℕ) (o : Op) → Began lane line op ≡ Began number n o → ⊥
      others number k l there same n o is =
          let here : l.number ≡ lane = same ∙ sym (began-number lane line number n op o is) in
          idle-numbers lane (numbers_of old.lanes) t.idle.other k (to-map number_of old.lanes k l there ∙ ap Some here)
  had-step h old (Answered lane line answer) fin t r found left_ all =
      let a = answered_now old lane answer fin t.answers in
      subst (λ (v : View). AllSeek (LaneHad (h ++ Answered lane line answer ∷ []) fin) v.lanes) (sym a.is.is)
      (removed-seek (LaneHad (h ++ Answered lane line answer ∷ []) fin) old.lanes a.at (plain h (Answered lane line answer) old fin r found t (λ n l o is. cc) all))
  had-step h old (Sent bytes) fin t r found left_ all =
      let n = sent_now old bytes fin t in same-had h (Sent bytes) old fin r found t (λ n l o is. cc) (ap (λ (v : View). v.lanes) n.is) all
  had-step h old (Delivered bytes) fin t r found left_ all =
      heard-seek (LaneHad (h ++ Delivered bytes ∷ []) fin) old bytes fin (gives-now h (Delivered bytes) old fin r found t) (heard old bytes t.result fin t.hears)
      (plain h (Delivered bytes) old fin r found t (λ n l o is. cc) all)
  had-step h old Failed fin t r found left_ all = same-had h Failed old fin r found t (λ n l o is. cc) (by t) all
    where
      by : StepsTo (machine_of m) h old Failed fin → fin.lanes ≡ old.lanes
      by (inl f) = failed (failed_now old f.0 fin f.1)
        where
          failed : FailedNow old fin → fin.lanes ≡ old.lanes
          failed (goes_on none is) = ap (λ (v : View). v.lanes) is
          failed (gives_up xid up is) = absurd (let no_way : true ≡ false = ap (λ (v : View). v.lost) (sym is) ∙ left_ in cc)
      by (inr is) = ap (λ (v : View). v.lanes) is
  had-step h old (Dialed port) fin t r found left_ all = same-had h (Dialed port) old fin r found t (λ n l o is. cc) (ap (λ (v : View). v.lanes) t) all
  had-step h old (Executed xid call reply) fin t r found left_ all = same-had h (Executed xid call reply) old fin r found t (λ n l o is. cc) (ap (λ (v : View). v.lanes) t) all
  had-step h old (Foreign call reply) fin t r found left_ all = same-had h (Foreign call reply) old fin r found t (λ n l o is. cc) (ap (λ (v : View). v.lanes) t) all
  had-step h old (Flushed file from len) fin t r found left_ all = same-had h (Flushed file from len) old fin r found t (λ n l o is. cc) (ap (λ (v : View). v.lanes) t) all
  had-step h old (Reboot verf) fin t r found left_ all = same-had h (Reboot verf) old fin r found t (λ n l o is. cc) (ap (λ (v : View). v.lanes) t) all
  had-step h old (Clock ms) fin t r found left_ all = same-had h (Clock ms) old fin r found t (λ n l o is. cc) (ap (λ (v : View). v.lanes) t) all

  -- it wasn't lost before
  was-found : (h : List Entry) (old : View) (e : Entry) (fin : View) → StepsTo (machine_of m) h old e fin → fin.lost ≡ false → old.lost ≡ false
  was-found h old (Began lane line op) fin t found = by old.lost refl t.step
    where
      by : (b : Bool) → old.lost ≡ b → BeginsIf b old lane (machine_of m lane op) (last_reading 0 h) fin → old.lost ≡ false
      by true was is = ap (λ (v : View). v.lost) (sym is) ∙ found
      by false was k = was
  was-found h old (Answered lane line answer) fin t found = let a = answered_now old lane answer fin t.answers in ap (λ (v : View). v.lost) (sym a.is.is) ∙ found
  was-found h old (Sent bytes) fin t found = let n = sent_now old bytes fin t in ap (λ (v : View). v.lost) (sym n.is) ∙ found
  was-found h old (Delivered bytes) fin t found = sym (heard-lost old bytes fin (heard old bytes t.result fin t.hears)) ∙ found
  was-found h old Failed fin (inl t) found = by (failed_now old t.0 fin t.1)
    where
      by : FailedNow old fin → old.lost ≡ false
      by (goes_on none is) = ap (λ (v : View). v.lost) (sym is) ∙ found
      by (gives_up xid up is) = absurd (let no_way : true ≡ false = ap (λ (v : View). v.lost) (sym is) ∙ found in cc)
  was-found h old Failed fin (inr t) found = ap (λ (v : View). v.lost) (sym t) ∙ found
  was-found h old (Dialed port) fin t found = ap (λ (v : View). v.lost) (sym t) ∙ found
  was-found h old (Executed xid call reply) fin t found = ap (λ (v : View). v.lost) (sym t) ∙ found
  was-found h old (Foreign call reply) fin t found = ap (λ (v : View). v.lost) (sym t) ∙ found
  was-found h old (Flushed file from len) fin t found = ap (λ (v : View). v.lost) (sym t) ∙ found
  was-found h old (Reboot verf) fin t found = ap (λ (v : View). v.lost) (sym t) ∙ found
  was-found h old (Clock ms) fin t found = ap (λ (v : View). v.lost) (sym t) ∙ found

  pub reached-had : (h : List Entry) (v : View) → Reaches (machine_of m) setup h v → v.lost ≡ false → AllHad h v
  reached-had _ _ (begins h v may up fresh) found = λ k lane there. absurd (let none : None ≡ Some lane = ap (λ (ls : List Lane). slice_get ls k) (sym fresh.lanes) ∙ there in cc)
  reached-had _ _ (goes h before v b e r is t) found =
      let was = was-found before b e v t found in
      subst (λ (k : List Entry). AllHad k v) (sym is) (had-step before b e v t r was found (reached-had before b r was))
  reached-had _ _ (loses h v b r shown is) found = absurd (let no_way : true ≡ false = ap (λ (w : View). w.lost) (sym is) ∙ found in cc)
