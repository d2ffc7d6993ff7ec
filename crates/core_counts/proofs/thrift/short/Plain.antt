-- Along a history: as long as no WRITE that covers a place of a file was sent, what is pending there was never sent, but that it may be on its way for the first time.
use Rattle.core_counts.proofs.Prelude.{◌≡◌, ◌≤◌, ◌⊎◌, inl, inr, ◌+◌, ◌++◌, ℕ, Bool, true, false, List, [], ◌∷◌, length, Option, Some, None, option_map, position, Result, Err, refl, sym, ap, subst, ◌∙◌, arith, xid_at, Waiting, next_xid, waiting_at, Fault, Entry, Began, Answered, Sent, Delivered, Call, Reply, Op, CoversPlace, SpellsCall, CoveredEarlier, At-grow, At-below, length_last, said_of, Unsent, Pending, of_file, IsNewest, rest_at, piece_under, Cell, covers, low-of, high-of, same-or, Step, Shelf, Turn, Saving, IsReady, IsUnused, Mounted, Machine, machine_of, Fits, Starts, Resumes, Takes, Purpose, Busy, Setup, is_busy, with_state, Leads, Stirs, counted, StartsLane, TakesAt, View, turn_at, unmade_turn, HearsRecord, Reaches, IsOutstanding, Tried, begins-unbegun, taken_one, Flies, flies_of, sender, look_at, was-sent, Known, taker-is, lanes-under-way, look-at, reached-rows, reached-good, written_file, one-call, CallFits, fits-laws, After, tales, unused-next, TakesHas, Basis, basis-ready, stirs-basis, starts-basis, takes-basis, keeps-basis, NearAs, unmade-has, KeepsHearing, reached-hearing, Wholly, keeps-wholly, stirs-wholly, starts-wholly, takes-wholly, EachSound}
use Rattle.core_facts.specs.Tries.{unsent, runs, ended}
use Rattle.core_facts.proofs.Flown.{flies_state}
use Rattle.core_answers.proofs.writes.Backs.{CarriesReply}
use Rattle.core_answers.proofs.writes.CommitsAlone.{nfs-write}
use Rattle.core_session.proofs.order.Adds.{Bears, all-starts, all-resumes, all-takes}
use Rattle.core_session.proofs.order.Sounds.{Sounds, SoundsFirst, SoundCall, bears-sounds, replies-sounds}
use Rattle.write_back.specs.declared.state.State.TheVariants.{Waiting as Rests}
use Rattle.write_back.specs.Pieces.{Sent as Piece}
use Rattle.client_shelf.specs.declared.step.Step.TheVariants as nexts
use Rattle.file_ops.specs.Saves as saves
use Rattle.file_ops.specs.Syncs as syncs
use Rattle.op_machines.proofs.AllLaws as laws
use Rattle.core_answers.proofs.writes.AllBacks.{Saves}
use Rattle.core_answers.proofs.writes.Mapped.{any-saves}
use Rattle.core_session.proofs.saves.Taking.{sent-is}
use Rattle.core_counts.proofs.coarse.Near.{near-has, near-starts}
use Rattle.core_counts.proofs.coarse.OfSaves.{of-machine}
use Rattle.core_counts.proofs.thrift.short.PlainSaves.{Plain, Apart, PlainAt, adds-plain, cuts-plain, gives-plain, goes-plain, takes-plain, unmade-plain, nothing-plain}

both-after : (A C : Pending → Type 0) (B D : Call → Pending → Type 0) (next : Step) (back : Pending) → After A B next back → After C D next back
    → After (λ k. A k × C k) (λ call k. B call k × D call k) next back
both-after A C B D (nexts.Send call) back a c = (a, c)
both-after A C B D nexts.Wait back a c = (a, c)
both-after A C B D (nexts.Done answer) back a c = (a, c)

some-piece : (a b : Piece) → Some a ≡ Some b → a ≡ b
some-piece a b e = cc

-- ---- a step of any operation

module _ (f : List ℕ) (i wsize : ℕ) (turn : Turn) where
  plain-after : (next : Step) (back : Pending) → PlainAt f i back → After (PlainAt f i) (λ call. PlainAt f i) next back
  plain-after (nexts.Send call) back k = k
  plain-after nexts.Wait back k = k
  plain-after (nexts.Done answer) back k = k

  abbrev First : ℕ → Pending → Type 0
  First n back = PlainAt f i back × SoundsFirst wsize turn n back

  abbrev Since : Pending → Type 0
  Since back = PlainAt f i back × Sounds wsize turn back

  abbrev WithCall : Call → Pending → Type 0
  WithCall call back = PlainAt f i back × EachSound back

  bears-plain : (n : ℕ) → Bears wsize turn (NearAs wsize turn n) (First n) Since WithCall
  bears-plain n = record {
    first = record {
      goes = λ by_reply s back next new after g p.
          both-after (PlainAt f i) (SoundsFirst wsize turn n) (λ call. PlainAt f i) (SoundCall wsize turn) (syncs.sync_next next) after
          (plain-after (syncs.sync_next next) after (goes-plain f i wsize turn.xid turn.room by_reply s back next new after g p.0)) (k.first.goes by_reply s back next new after g p.1);
      cuts = λ file size upto old new quiet on p. (cuts-plain f i file size upto old new p.1.sounds.sound on p.0, k.first.cuts file size upto old new quiet on p.1);
      gives = λ file old new quiet on p. (gives-plain f i file old new on p.0, k.first.gives file old new quiet on p.1);
      plain = λ call back p. (p.0, p.1.sounds.sound);
    };
    then_ = record {
      goes = λ by_reply s back next new after g p.
          both-after (PlainAt f i) (Sounds wsize turn) (λ call. PlainAt f i) (SoundCall wsize turn) (syncs.sync_next next) after
          (plain-after (syncs.sync_next next) after (goes-plain f i wsize turn.xid turn.room by_reply s back next new after g p.0)) (k.then_.goes by_reply s back next new after g p.1);
      cuts = λ file size upto old new quiet on p. (cuts-plain f i file size upto old new p.1.sound on p.0, k.then_.cuts file size upto old new quiet on p.1);
      gives = λ file old new quiet on p. (gives-plain f i file old new on p.0, k.then_.gives file old new quiet on p.1);
      plain = λ call back p. (p.0, p.1.sound);
    };
    less = λ back p. (p.0, p.1.sounds);
    adds = λ file offset bytes number old new a room on p. (adds-plain f i file offset bytes number old new p.1.sounds.sound on p.0, k.adds file offset bytes number old new a room on p.1);
  }
    where
      k : Bears wsize turn (NearAs wsize turn n) (SoundsFirst wsize turn n) (Sounds wsize turn) (SoundCall wsize turn)
      k = bears-sounds wsize turn n

  since-after : (next : Step) (back : Pending) → After Since WithCall next back → PlainAt f i back × EachSound back
  since-after (nexts.Send call) back p = p
  since-after nexts.Wait back p = (p.0, p.1.sound)
  since-after (nexts.Done answer) back p = (p.0, p.1.sound)

  starts-plain : (m : Machine) (old : Shelf) (next : Step) (new : Machine) (after : Shelf) → Fits m → PlainAt f i old.back → EachSound old.back → IsUnused turn.xid old.back → IsNewest (old.seq + 1) old.back
      → Starts wsize m turn old next new after → PlainAt f i after.back × EachSound after.back
  starts-plain m old next new after fits p sound free newest t =
      since-after next after.back (all-starts wsize turn (NearAs wsize turn (old.seq + 1)) (First (old.seq + 1)) Since WithCall (bears-plain (old.seq + 1)) m old next new after
      (near-starts (old.seq + 1) wsize turn m old.opens next fits) (p, record { sounds = record { sound = sound; free = free }; newest = newest }) t)

  resumes-plain : (m : Machine) (old : Shelf) (next : Step) (new : Machine) (after : Shelf) → PlainAt f i old.back → EachSound old.back → IsUnused turn.xid old.back
      → Resumes wsize m turn old next new after → PlainAt f i after.back × EachSound after.back
  resumes-plain m old next new after p sound free t =
      since-after next after.back (all-resumes wsize turn Since WithCall (bears-plain 0).then_ m old next new after (p, record { sound = sound; free = free }) t)

  module _ (sent : Turn) (came : Result Reply Fault) (N : Saving → Pending → Type 0)
      (carries : (repeats : _) (s : Saving) (back : Pending) (next : _) (new : Saving) (after : Pending) (later : _)
      → saves.Takes wsize sent turn came repeats s back next new after later → N s back → PlainAt f i back → EachSound back → PlainAt f i after) where
    replies-plain : (n : ℕ) → CarriesReply wsize sent turn came N (First n) WithCall
    replies-plain n = record {
      takes = λ repeats s back next new after later t now p.
          both-after (PlainAt f i) (SoundsFirst wsize turn n) (λ call. PlainAt f i) (SoundCall wsize turn) (syncs.sync_next next) after
          (plain-after (syncs.sync_next next) after (carries repeats s back next new after later t now p.0 p.1.sounds.sound))
          ((replies-sounds wsize turn sent came n).takes repeats s back next new after later t tt p.1);
    }

    all-plain : (m : Machine) (old : Shelf) (next : Step) (new : Machine) (after : Shelf) (t : Takes wsize m sent turn came old next new after)
        → TakesHas (λ file offset bytes. NearAs wsize turn (old.seq + 1) file offset bytes (old.seq + 1)) wsize m sent turn came old next new after t → Saves (λ s. N s old.back) m
        → PlainAt f i old.back → EachSound old.back → IsUnused turn.xid old.back → IsNewest (old.seq + 1) old.back → PlainAt f i after.back × EachSound after.back
    all-plain m old next new after t has now p sound free newest =
        since-after next after.back (all-takes wsize turn (NearAs wsize turn (old.seq + 1)) (First (old.seq + 1)) Since WithCall (bears-plain (old.seq + 1)) sent came N (replies-plain (old.seq + 1)) m old next new after t
        has now (p, record { sounds = record { sound = sound; free = free }; newest = newest }))

none-plain : (f : List ℕ) (i wsize : ℕ) (sent turn : Turn) (fault : Fault) (m : Machine) (old : Shelf) (next : Step) (new : Machine) (after : Shelf) → Takes wsize m sent turn (Err fault) old next new after
    → PlainAt f i old.back → EachSound old.back → IsUnused turn.xid old.back → IsNewest (old.seq + 1) old.back → PlainAt f i after.back
none-plain f i wsize sent turn fault m old next new after t p sound free newest =
    (all-plain f i wsize turn sent (Err fault) (λ s back. Unit {0}) (λ repeats s back next new after later takes now k each. unmade-plain f i wsize sent turn fault repeats s back next new after later each takes k)
    m old next new after t (unmade-has (λ file offset bytes. NearAs wsize turn (old.seq + 1) file offset bytes (old.seq + 1)) wsize sent turn fault m old next new after t) (any-saves m) p sound free newest).0

-- what a step leads to
leads-plain : (f : List ℕ) (i : ℕ) (v new : View) (at number : ℕ) (machine : Machine) (next : Step) → Leads v at number machine next new → IsReady (next_xid v.calls + 1) v.shelf.seq v.shelf.back
    → PlainAt f i v.shelf.back × EachSound v.shelf.back → PlainAt f i new.shelf.back
leads-plain f i v new at number machine (nexts.Send call) (inl mk) ready k = subst (λ (w : View). PlainAt f i w.shelf.back) (sym mk.is) k.0
leads-plain f i v new at number machine (nexts.Send call) (inr u) ready k =
    subst (λ (w : View). PlainAt f i w.shelf.back) (sym u.is)
    (none-plain f i v.wsize (turn_at v) (unmade_turn v) u.fault machine v.shelf u.next u.after u.left u.takes k.0 k.1 (ready.xids 0 (inl refl)) ready.numbers)
leads-plain f i v new at number machine nexts.Wait is ready k = subst (λ (w : View). PlainAt f i w.shelf.back) (sym is) k.0
leads-plain f i v new at number machine (nexts.Done answer) is ready k = subst (λ (w : View). PlainAt f i w.shelf.back) (sym is) k.0

-- ---- along a history

module _ (m : Mounted) (setup : Setup) (f : List ℕ) (i : ℕ) where
  abbrev Cov : List Entry → Type 0
  Cov h = CoveredEarlier h (length h) f i

  pub record Untouched (h : List Entry) (v : View) : Type 0 where
    pub basis : Basis setup h v
    pub wholly : Wholly setup h v
    pub is : Cov h ⊎ PlainAt f i v.shelf.back

  covered-later : (h : List Entry) (e : Entry) → Cov h → Cov (h ++ e ∷ [])
  covered-later h e c = record {
    at = c.at;
    xid = c.xid;
    bytes = c.bytes;
    call = c.call;
    sent = At-grow h (e ∷ []) c.at (Sent c.bytes) c.sent;
    spells = c.spells;
    covers = c.covers;
    earlier = let early = c.earlier in let more = length_last h e in omega (arith, early, more);
  }

  later-is : (h : List Entry) (e : Entry) (old new : Pending) → new ≡ old → Cov h ⊎ PlainAt f i old → Cov (h ++ e ∷ []) ⊎ PlainAt f i new
  later-is h e old new is (inl c) = inl (covered-later h e c)
  later-is h e old new is (inr k) = inr (subst (PlainAt f i) (sym is) k)

  stirs-is : (h : List Entry) (old new : View) (at : ℕ) → Known setup h old → Stirs old at new → Basis setup h old → Cov h ⊎ PlainAt f i old.shelf.back → Cov h ⊎ PlainAt f i new.shelf.back
  stirs-is h old new at k t b (inl c) = inl c
  stirs-is h old new at k t b (inr p) =
      inr (leads-plain f i (with_state old at t.number (Busy t.after) t.shelf) new at t.number t.after t.next t.leads
      (laws.resumes-ready old.wsize t.machine (turn_at old) old.shelf t.next t.after t.shelf t.resumes (basis-ready setup h old k.rows b))
      (resumes-plain f i old.wsize (turn_at old) t.machine old.shelf t.next t.after t.shelf p b.sound (unused-next setup h old k.rows b.flying.flown) t.resumes))

  starts-is : (h : List Entry) (old new : View) (lane line : ℕ) (op : Op) (now : ℕ) → Known setup h old → Fits (machine_of m lane op) → StartsLane (counted old now) lane (machine_of m lane op) new → Basis setup h old
      → Cov h ⊎ PlainAt f i old.shelf.back → Cov (h ++ Began lane line op ∷ []) ⊎ PlainAt f i new.shelf.back
  starts-is h old new lane line op now k fits t b (inl c) = inl (covered-later h (Began lane line op) c)
  starts-is h old new lane line op now k fits t b (inr p) =
      inr (leads-plain f i (record (counted old now) { lanes = old.lanes ++ record { number = lane; state = Busy t.after } ∷ []; shelf = t.shelf }) new (length old.lanes) lane t.after t.next t.leads
      (laws.starts-ready old.wsize (machine_of m lane op) (turn_at (counted old now)) old.shelf t.next t.after t.shelf t.starts (basis-ready setup h old k.rows b))
      (starts-plain f i old.wsize (turn_at (counted old now)) (machine_of m lane op) old.shelf t.next t.after t.shelf fits p b.sound (unused-next setup h old k.rows b.flying.flown) b.newest t.starts))

  -- ---- a reply comes

  module _ (h : List Entry) (old new : View) (rec : List ℕ) (xid : ℕ) (call : Waiting Purpose) (at : ℕ) (r : Reaches (machine_of m) setup h old) (found : old.lost ≡ false) (k : Known setup h old)
      (fin : View) (hears : HearsRecord old rec fin) (named : xid_at rec ≡ Some xid) (waits : waiting_at xid old.calls.calls ≡ Some call)
      (place : position (is_busy call.purpose.lane) old.lanes ≡ Some at) (t : TakesAt (taken_one old xid) at call.purpose.sent (said_of call.purpose.proc rec) new)
      (b : Basis setup h old) (wholly : Wholly setup h old) where
    abbrev later : List Entry
    later = h ++ Delivered rec ∷ []

    lane-is : call.purpose.lane ≡ t.number
    lane-is = sym (taker-is setup h old xid call at k waits place t.number t.machine t.there)

    its : Flies xid (flies_of t.machine) old.shelf.back
    its =
        subst (λ (g : Option (List ℕ)). Flies xid g old.shelf.back)
        (ap (look_at old.lanes) lane-is ∙ look-at flies_state old.lanes at t.number (Busy t.machine) (lanes-under-way h old k.lanes).apart t.there)
        (subst (λ (p : Option Purpose). Flies xid (sender (look_at old.lanes) p) old.shelf.back) (ap (option_map (λ (w : Waiting Purpose). w.purpose)) waits) (b.flying.flown.flies xid))

    -- what is in flight under its xid was sent
    module _ (piece : Piece) (there : piece_under xid (of_file f old.shelf.back).pieces ≡ Some piece) (inside : covers piece.offset (length piece.bytes) i ≡ true) where
      covered : (asked : Call) → SpellsCall xid asked call.bytes → CoversPlace f i asked → (from : ℕ) → IsOutstanding h xid call.bytes from → Cov h
      covered asked spells covers_ from o = record {
        at = from;
        xid = xid;
        bytes = call.bytes;
        call = asked;
        sent = o.sent.sent;
        spells = spells;
        covers = covers_;
        earlier = At-below h from (Sent call.bytes) o.sent.sent;
      }

      tried-by : (asked : Call) → SpellsCall xid asked call.bytes → CoversPlace f i asked → 1 ≤ call.attempts → Tried h xid call → Cov h
      tried-by asked spells covers_ some_ (unsent none u) = absurd (omega (arith, some_, none))
      tried-by asked spells covers_ some_ (runs from running o rest) = covered asked spells covers_ from o
      tried-by asked spells covers_ some_ (ended from idle o rest) = covered asked spells covers_ from o

      sent-by : flies_of t.machine ≡ Some f → Cov h
      sent-by flies =
          let good = reached-good (machine_of m) (begins-unbegun m) setup CallFits fits-laws (λ g y o c. Unit {0}) (λ g s. Unit {0}) (λ g y o s. Unit {0}) (tales m setup) h old r in
          let e = (good.each at (record { number = t.number; state = Busy t.machine }) t.there).0 xid call waits lane-is in
          let write : written_file e.made.asked ≡ Some f = e.expects.sends f flies in
          let whole = wholly.all xid call waits in
          let same_call : e.made.asked ≡ whole.call = one-call xid xid e.made.asked whole.call call.bytes (nfs-write e.made.asked f write) e.made.spells.spells whole.spells.spells in
          let own = whole.has f (ap written_file (sym same_call) ∙ write) in
          let piece_is : own.piece ≡ piece = some-piece own.piece piece (sym own.there ∙ there) in
          tried-by whole.call whole.spells.spells (record {
            offset = piece.offset;
            how = piece.how;
            bytes = piece.bytes;
            is = own.is ∙ ap (saves.write_of f) piece_is;
            low = low-of piece.offset (piece.offset + length piece.bytes) i inside;
            high = high-of piece.offset (piece.offset + length piece.bytes) i inside;
          }) (was-sent xid old.calls.calls call hears.may.sent waits) ((reached-rows (machine_of m) setup h old r).rows xid call waits).tried

      covers-now : (g : Option (List ℕ)) → flies_of t.machine ≡ g → Flies xid g old.shelf.back → Cov h
      covers-now None is free = absurd (let no_way : None ≡ Some piece = sym (free f) ∙ there in cc)
      covers-now (Some g) is one = elim (same-or g f) [
        | inl same ↦ sent-by (is ∙ ap Some (sym same))
        | inr apart ↦ absurd (let no_way : None ≡ Some piece = sym (one.others f apart) ∙ there in cc)
      ]

    covered-or : Cov h ⊎ Apart i xid (of_file f old.shelf.back)
    covered-or = by (piece_under xid (of_file f old.shelf.back).pieces) refl
      where
        by : (o : Option Piece) → piece_under xid (of_file f old.shelf.back).pieces ≡ o → Cov h ⊎ Apart i xid (of_file f old.shelf.back)
        by None none = inr (λ piece there inside. let no_way : None ≡ Some piece = sym none ∙ there in absurd cc)
        by (Some piece) there = in-it (covers piece.offset (length piece.bytes) i) refl
          where
            in-it : (c : Bool) → covers piece.offset (length piece.bytes) i ≡ c → Cov h ⊎ Apart i xid (of_file f old.shelf.back)
            in-it true inside = inl (covers-now piece there inside (flies_of t.machine) refl its)
            in-it false out = inr (λ other at_ inside.
                let same : piece ≡ other = some-piece piece other (sym there ∙ at_) in
                let no_way : false ≡ true = sym out ∙ subst (λ (p : Piece). covers p.offset (length p.bytes) i ≡ true) (sym same) inside in absurd cc)

    sent-xid : call.purpose.sent.xid ≡ xid → (back : Pending) → Apart i xid (of_file f back) → Apart i call.purpose.sent.xid (of_file f back)
    sent-xid is back apart = subst (λ (x : ℕ). Apart i x (of_file f back)) (sym is) apart

    abbrev came : Result Reply Fault
    came = said_of call.purpose.proc rec

    abbrev turn : Turn
    turn = turn_at (taken_one old xid)

    abbrev Told : Saving → Pending → Type 0
    Told s back = Apart i call.purpose.sent.xid (of_file f back)

    own : call.purpose.sent.xid ≡ xid
    own = sent-is m setup h old r found xid call waits at t.number t.machine t.there lane-is wholly

    went : Apart i xid (of_file f old.shelf.back) → PlainAt f i old.shelf.back → PlainAt f i t.shelf.back × EachSound t.shelf.back
    went apart p =
        all-plain f i old.wsize turn call.purpose.sent came Told
        (λ repeats s back next new_ after later_ takes now k_ each. takes-plain f i old.wsize call.purpose.sent turn came repeats s back next new_ after later_ takes each now k_)
        t.machine old.shelf t.next t.after t.shelf t.takes
        (near-has (old.shelf.seq + 1) old.wsize call.purpose.sent turn came t.machine old.shelf t.next t.after t.shelf t.takes (b.fits at (record { number = t.number; state = Busy t.machine }) t.there))
        (of-machine (λ s. Told s old.shelf.back) t.machine (λ s of. sent-xid own old.shelf.back apart)) p b.sound (unused-next setup h old k.rows b.flying.flown) b.newest

    takes-is : Cov h ⊎ PlainAt f i old.shelf.back → Cov later ⊎ PlainAt f i new.shelf.back
    takes-is (inl c) = inl (covered-later h (Delivered rec) c)
    takes-is (inr p) = elim covered-or [
      | inl c ↦ inl (covered-later h (Delivered rec) c)
      | inr apart ↦ inr (leads-plain f i (with_state (taken_one old xid) at t.number (Busy t.after) t.shelf) new at t.number t.after t.next t.leads
          (laws.takes-ready old.wsize t.machine call.purpose.sent turn came old.shelf t.next t.after t.shelf t.takes (basis-ready setup h old k.rows b)) (went apart p))
    ]

  untouched-laws : KeepsHearing (machine_of m) setup Untouched
  untouched-laws = record {
    fresh = λ h v may up fresh. record {
      basis = (keeps-basis m setup).fresh h v may up fresh;
      wholly = (keeps-wholly m setup).fresh h v fresh;
      is = inr (subst (PlainAt f i) (sym fresh.back) (nothing-plain i));
    };
    stirs = λ h old new at k t u. record {
      basis = stirs-basis m setup h old new at k t u.basis;
      wholly = stirs-wholly m setup h old new at k t u.wholly;
      is = stirs-is h old new at k t u.basis u.is;
    };
    starts = λ h old new lane line op now r found k idle fits t u. record {
      basis = starts-basis m setup h old new lane line op now r found k idle fits t u.basis;
      wholly = starts-wholly m setup h old new lane line op now r found k idle t u.wholly;
      is = starts-is h old new lane line op now k fits t u.basis u.is;
    };
    takes = λ h old new rec xid call at r found k fin hears named waits place t u. record {
      basis = takes-basis m setup h old new rec xid call at r found k waits place t u.basis;
      wholly = takes-wholly m setup h old new rec xid call at r found k waits place t u.wholly;
      is = takes-is h old new rec xid call at r found k fin hears named waits place t u.basis u.wholly u.is;
    };
    answers = λ h old new at lane line answer k a u. record {
      basis = (keeps-basis m setup).answers h old new at lane line answer k a u.basis;
      wholly = (keeps-wholly m setup).answers h old new at lane line answer k a u.wholly;
      is = later-is h (Answered lane line answer) old.shelf.back new.shelf.back (ap (λ (w : View). w.shelf.back) a.is) u.is;
    };
    same = λ h e old new plain lanes shelf wsize calls u. record {
      basis = (keeps-basis m setup).same h e old new plain lanes shelf wsize calls u.basis;
      wholly = (keeps-wholly m setup).same h e old new lanes shelf calls u.wholly;
      is = later-is h e old.shelf.back new.shelf.back (ap (λ (s : Shelf). s.back) shelf) u.is;
    };
  }

  pub reached-untouched : (h : List Entry) (v : View) → Reaches (machine_of m) setup h v → v.lost ≡ false → Untouched h v
  reached-untouched = reached-hearing (machine_of m) (begins-unbegun m) setup Untouched untouched-laws

-- U: a WRITE that covers the place was sent, or what is pending there was never sent, but that it may be on its way for the first time.
pub plain-or-covered : (m : Mounted) (setup : Setup) (f : List ℕ) (i : ℕ) (h : List Entry) (v : View) → Reaches (machine_of m) setup h v → v.lost ≡ false
    → CoveredEarlier h (length h) f i ⊎ Plain i (of_file f v.shelf.back)
plain-or-covered m setup f i h v r found = (reached-untouched m setup f i h v r found).is

-- the same of what waits there
pub rest-or-covered : (m : Mounted) (setup : Setup) (f : List ℕ) (i : ℕ) (h : List Entry) (v : View) → Reaches (machine_of m) setup h v → v.lost ≡ false
    → (cell : Cell) → rest_at (of_file f v.shelf.back) i ≡ Some cell → (cell.state ≡ Rests Unsent) ⊎ CoveredEarlier h (length h) f i
rest-or-covered m setup f i h v r found cell is = elim (plain-or-covered m setup f i h v r found) [
  | inl c ↦ inr c
  | inr p ↦ inl (p.rest cell is)
]
