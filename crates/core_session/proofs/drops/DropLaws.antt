-- What a close gave up stays so known, through each step of a lane and each entry; and a step of a lane in which a close gives up.
use Rattle.core_session.proofs.Prelude.{◌≡◌, ◌⊎◌, inl, inr, ℕ, List, [], ◌∷◌, ◌++◌, length, false, Some, slice_get, refl, sym, ap, subst, ◌∙◌, IsOpen, Refused, Fault, Entry, Began, Answered, Dialed, Sent, Executed, Foreign, Flushed, Reboot, Delivered, Failed, Clock, Op, Modes, IsOf, Shelf, CloseFile, file_at, joined, Mounted, machine_of, Lane, State, Busy, Over, Setup, IsIdle, Stirs, counted, StartsLane, View, AreApart, MayHear, HearsRecord, Reaches, seat_close, before-push, get-push, kind_of, IsFirst, Turned, IsPast, NonePast, IsOwed, IsDropped}
use Rattle.world_model.specs.declared.op.Op.TheVariants as ops
use Rattle.op_machines.specs.declared.file_machine.FileMachine.TheVariants as files
use Rattle.op_machines.specs.declared.machine.Machine.TheVariants as machines
use Rattle.core_session.proofs.drops.Drops.{OwnLed, closer, other, WasCloser, WasNone, HadFile, HadNone}
use Rattle.core_session.proofs.drops.Dropping.{file-open, less-open, past-file, past-led, owed-stays, owed-grows, dropped-map, dropped-heard, dropped-left}
use Rattle.core_session.proofs.drops.Giving.{closing-seat, owed-given, owed-begun}
use Rattle.core_session.proofs.drops.Growing.{was-left-grow}
use Rattle.core_session.proofs.drops.SlotKinds.{IsCloserOf, CloserState, CloserLed, OtherState}
use Rattle.core_session.proofs.drops.KnowingAlong.{IsPlain, NotedBefore}
use Rattle.core_session.proofs.drops.Laws.{DropsKnown, OneStepped, Begun, stirs-stepped, starts-begun}

-- ---- what was given up

module _ (m : Modes) (from : ℕ) (file : List ℕ) where
  pub dropped-stirs : (h : List Entry) (old new : View) (at : ℕ) → Stirs old at new → DropsKnown m h old → IsDropped m from h old file → IsDropped m from h new file
  dropped-stirs h old new at t d =
      let s = stirs-stepped m h old new at t d in
      dropped-map m from h h old new file (owed-stays m h old new s.0 file from s.1) (λ l. l)

  -- where a record comes that is taken, or dropped
  pub dropped-at-record : (h : List Entry) (rec : List ℕ) (old new : View) → MayHear old → IsDropped m from h old file → IsDropped m from (h ++ Delivered rec ∷ []) new file
  dropped-at-record h rec old new may d =
      dropped-left m from (h ++ Delivered rec ∷ []) new file
      (λ never. dropped-heard m from h old file may d (λ l. never (was-left-grow m h (Delivered rec) from file l)))

  same-lanes : (old new : View) → new.lanes ≡ old.lanes → (k : ℕ) (lane : Lane) → slice_get old.lanes k ≡ Some lane → slice_get new.lanes k ≡ Some lane
  same-lanes old new same k lane there = ap (λ (ls : List Lane). slice_get ls k) same ∙ there

  quiet-same : (h : List Entry) (e : Entry) (old new : View) → IsPlain e → ((b : List ℕ) → e ≡ Delivered b → ⊥) → new.lanes ≡ old.lanes → new.shelf ≡ old.shelf
      → IsDropped m from h old file → IsDropped m from (h ++ e ∷ []) new file
  quiet-same h e old new plain silent lanes shelf d =
      dropped-map m from h (h ++ e ∷ []) old new file
      (owed-grows m h e old new file from plain.answers_ silent (same-lanes old new lanes)
      (λ open_. subst (λ (s : Shelf). IsOpen s.opens file) shelf open_)
      (λ none shut k n c there past. none k n c (ap (λ (ls : List Lane). slice_get ls k) (sym lanes) ∙ there) past))
      (was-left-grow m h e from file) d

  pub dropped-same : (h : List Entry) (e : Entry) (old new : View) → IsPlain e → NotedBefore e old → new.lanes ≡ old.lanes → new.shelf ≡ old.shelf
      → IsDropped m from h old file → IsDropped m from (h ++ e ∷ []) new file
  dropped-same h (Delivered rec) old new plain noted lanes shelf d = dropped-at-record h rec old new (noted rec refl) d
  dropped-same h (Began lane line op) old new plain noted lanes shelf d = quiet-same h (Began lane line op) old new plain (λ b e. cc) lanes shelf d
  dropped-same h (Answered lane line a) old new plain noted lanes shelf d = quiet-same h (Answered lane line a) old new plain (λ b e. cc) lanes shelf d
  dropped-same h (Dialed port) old new plain noted lanes shelf d = quiet-same h (Dialed port) old new plain (λ b e. cc) lanes shelf d
  dropped-same h (Sent bytes) old new plain noted lanes shelf d = quiet-same h (Sent bytes) old new plain (λ b e. cc) lanes shelf d
  dropped-same h (Executed xid call reply) old new plain noted lanes shelf d = quiet-same h (Executed xid call reply) old new plain (λ b e. cc) lanes shelf d
  dropped-same h (Foreign call reply) old new plain noted lanes shelf d = quiet-same h (Foreign call reply) old new plain (λ b e. cc) lanes shelf d
  dropped-same h (Flushed f start len) old new plain noted lanes shelf d = quiet-same h (Flushed f start len) old new plain (λ b e. cc) lanes shelf d
  dropped-same h (Reboot verf) old new plain noted lanes shelf d = quiet-same h (Reboot verf) old new plain (λ b e. cc) lanes shelf d
  dropped-same h Failed old new plain noted lanes shelf d = quiet-same h Failed old new plain (λ b e. cc) lanes shelf d
  dropped-same h (Clock ms) old new plain noted lanes shelf d = quiet-same h (Clock ms) old new plain (λ b e. cc) lanes shelf d

  -- ---- an operation begins

  begun-past : (h : List Entry) (old new : View) (lane line : ℕ) (op : Op) (state : State) → new.lanes ≡ old.lanes ++ record { number = lane; state = state } ∷ []
      → OwnLed m (h ++ Began lane line op ∷ []) lane (length h) op state old.shelf.opens new.shelf.opens (λ f. IsFirst lane (joined lane f old.shelf).order) (HadFile lane old.shelf.opens) (HadNone lane op old.shelf.opens)
      → NonePast old file → (IsOpen old.shelf.opens file → ⊥) → NonePast new file
  begun-past h old new lane line op state lanes own none shut k n c there past =
      by (get-push old.lanes (record { number = lane; state = state }) k (record { number = n; state = Busy (machines.File (files.Close c)) }) (ap (λ (ls : List Lane). slice_get ls k) (sym lanes) ∙ there))
    where
      state-is : (a b : ℕ) (s t : State) → ◌≡◌ {A = Lane} (record { number = a; state = s }) (record { number = b; state = t }) → t ≡ s
      state-is a b s t e = sym (ap (λ (l : Lane). l.state) e)

      close-is : (a b : CloseFile) → machines.File (files.Close a) ≡ machines.File (files.Close b) → a ≡ b
      close-is a b e = cc

      now : state ≡ Busy (machines.File (files.Close c)) → OwnLed m (h ++ Began lane line op ∷ []) lane (length h) op state old.shelf.opens new.shelf.opens
          (λ f. IsFirst lane (joined lane f old.shelf).order) (HadFile lane old.shelf.opens) (HadNone lane op old.shelf.opens) → ⊥
      now is (other v o others) = past-led m lane (kind_of op) c (subst (OtherState m lane (kind_of op)) is o)
      now is (closer slot f upto op_is of had led) =
          let k : IsCloserOf lane slot f upto (machines.File (files.Close c)) new.shelf.opens =
          subst (CloserState lane slot f upto (IsFirst lane (joined lane f old.shelf).order) new.shelf.opens) is led.then_ in
          let same = past-file lane slot f file upto new.shelf.opens k.c.state k.at (subst (λ (q : CloseFile). IsPast file q.state) (close-is c k.c k.is) past) in
          shut (subst (IsOpen old.shelf.opens) same (file-open old.shelf.opens lane slot f had))

      by : (slice_get old.lanes k ≡ Some (record { number = n; state = Busy (machines.File (files.Close c)) }))
          ⊎ ((k ≡ length old.lanes) × ◌≡◌ {A = Lane} (record { number = n; state = Busy (machines.File (files.Close c)) }) (record { number = lane; state = state })) → ⊥
      by (inl here) = none k n c here past
      by (inr pushed) = now (state-is n lane (Busy (machines.File (files.Close c))) state pushed.1) own

-- ---- with the session's laws

module _ (mounted : Mounted) (m : Modes) (same : mounted.nocto ≡ m.nocto) (setup : Setup) (file : List ℕ) where
  pub dropped-starts : (from : ℕ) (h : List Entry) (old new : View) (lane line : ℕ) (op : Op) (now : ℕ) → Reaches (machine_of mounted) setup h old → old.lost ≡ false
      → IsIdle lane old.lanes → StartsLane (counted old now) lane (machine_of mounted lane op) new → IsDropped m from h old file → IsDropped m from (h ++ Began lane line op ∷ []) new file
  dropped-starts from h old new lane line op now r found idle t d =
      let b = starts-begun mounted m same setup h old new lane line op now r found idle t in
      dropped-map m from h (h ++ Began lane line op ∷ []) old new file
      (owed-grows m h (Began lane line op) old new file from (λ n l a e. cc) (λ bytes e. cc)
      (λ k l there. ap (λ (ls : List Lane). slice_get ls k) b.lanes_are ∙ before-push old.lanes (record { number = lane; state = b.state }) k l there)
      (less-open old.shelf.opens new.shelf.opens file b.less)
      (λ none shut. begun-past m from file h old new lane line op b.state b.lanes_are b.own none shut))
      (was-left-grow m h (Began lane line op) from file) d

  pub dropped-takes : (from : ℕ) (h : List Entry) (old new fin : View) (rec : List ℕ) → HearsRecord old rec fin → IsDropped m from h old file
      → IsDropped m from (h ++ Delivered rec ∷ []) new file
  dropped-takes from h old new fin rec hears d = dropped-at-record m from file h rec old new hears.may d

-- ---- a close that is refused, whose file no slot holds then

some-file : (a b : List ℕ) → Some a ≡ Some b → a ≡ b
some-file a b e = cc

close-one : (a b : CloseFile) → machines.File (files.Close a) ≡ machines.File (files.Close b) → a ≡ b
close-one a b e = cc

pub given-step : (m : Modes) (h : List Entry) (old new : View) (s : OneStepped m h old new) (file : List ℕ) (c : CloseFile) (fault : Fault) → Turned old → AreApart old.lanes
    → s.machine ≡ machines.File (files.Close c) → seat_close c.state ≡ Some file → s.state ≡ Over (Refused fault) → (IsOpen new.shelf.opens file → ⊥) → IsOwed m (length h) h new file
given-step m h old new s file c fault t apart is seat ends shut = by s.own
  where
    by : OwnLed m h s.number s.x s.op s.state old.shelf.opens new.shelf.opens (λ f. IsFirst s.number old.shelf.order) (WasCloser s.number s.machine old.shelf.opens) (WasNone s.machine)
        → IsOwed m (length h) h new file
    by (other v o others) = absurd (v c is)
    by (closer slot f upto op_is of was led) =
        let one : c ≡ was.c = close-one c was.c (sym is ∙ was.is) in
        let same : f ≡ file =
        some-file f file (sym (closing-seat s.number slot f upto old.shelf.opens was.c.state was.at) ∙ ap (λ (k : CloseFile). seat_close k.state) (sym one) ∙ seat) in
        subst (IsOwed m (length h) h new) same
        (owed-given m h old new s t apart slot f upto fault op_is of was led ends (λ open_. shut (subst (IsOpen new.shelf.opens) same open_)))

pub given-begun : (mounted : Mounted) (m : Modes) (same : mounted.nocto ≡ m.nocto) (setup : Setup) (h : List Entry) (old new : View) (lane line slot : ℕ) (b : Begun mounted m same setup h old new lane line (ops.Close slot))
    (file : List ℕ) (fault : Fault) → Turned old → AreApart old.lanes → IsIdle lane old.lanes → file_at lane slot old.shelf.opens ≡ Some file → b.state ≡ Over (Refused fault)
    → (IsOpen new.shelf.opens file → ⊥) → IsOwed m (length (h ++ Began lane line (ops.Close slot) ∷ [])) (h ++ Began lane line (ops.Close slot) ∷ []) new file
given-begun mounted m same setup h old new lane line slot b file fault t apart idle held ends shut = by b.own
  where
    later : List Entry
    later = h ++ Began lane line (ops.Close slot) ∷ []

    slot-of : (a b : ℕ) → ops.Close a ≡ ops.Close b → b ≡ a
    slot-of a b e = cc

    by : OwnLed m (h ++ Began lane line (ops.Close slot) ∷ []) lane (length h) (ops.Close slot) b.state old.shelf.opens new.shelf.opens
        (λ f. IsFirst lane (joined lane f old.shelf).order) (HadFile lane old.shelf.opens) (HadNone lane (ops.Close slot) old.shelf.opens)
        → IsOwed m (length (h ++ Began lane line (ops.Close slot) ∷ [])) (h ++ Began lane line (ops.Close slot) ∷ []) new file
    by (other v o others) = absurd (v slot file refl held)
    by (closer its f upto op_is of had led) =
        let one : its ≡ slot = slot-of slot its op_is in
        let had-own : file_at lane slot old.shelf.opens ≡ Some f = subst (λ (z : ℕ). file_at lane z old.shelf.opens ≡ Some f) one had in
        let same_file : f ≡ file = some-file f file (sym had-own ∙ held) in
        subst (IsOwed m (length (h ++ Began lane line (ops.Close slot) ∷ [])) (h ++ Began lane line (ops.Close slot) ∷ []) new) same_file
        (owed-begun m h old new lane line slot f upto fault b.state t apart idle b.lanes_are (subst (λ (z : ℕ). IsOf m (h ++ Began lane line (ops.Close slot) ∷ []) (length h) (ops.Close z) f) one of)
        (subst (λ (z : ℕ). CloserLed lane z f upto (IsFirst lane (joined lane f old.shelf).order) old.shelf.opens b.state new.shelf.opens) one led) ends
        (λ open_. shut (subst (IsOpen new.shelf.opens) same_file open_)))
