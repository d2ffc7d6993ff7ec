-- Where all operations are of one lane: what its machine has in flight.
use Rattle.core_counts.proofs.Prelude.{◌≡◌, ◌<◌, ◌≤◌, ◌⊎◌, inl, inr, ◌+◌, ◌++◌, nat_eq, ℕ, Bool, true, false, List, [], ◌∷◌, length, get_or, Option, Some, None, option_map, position, slice_get, refl, sym, ap, subst, ◌∙◌, arith, if◌then◌else◌, eq-eqb, cases_lt, position-Some, slice_get-get_or, Waiting, waiting_at, Entry, Began, Sent, Call, Placed, WriterAt, CoversPlace, SpellsCall, OneLane, CoveredEarlier, NeverFull, At-grow, At-below, of_file, HasNoPiece, fly_at, fly_in, piece_under, low-of, high-of, Saving, IsUnused, Mounted, Machine, machine_of, Lane, Purpose, Busy, Setup, is_busy, View, Reaches, IsOutstanding, Tried, begins-unbegun, none-busy, Flies, flies_of, flies_if, sender, look_at, Known, taker-is, lanes-under-way, look-at, reached-rows, reached-good, written_file, one-call, CallFits, fits-laws, tales, Basis, Wholly}
use Rattle.core_facts.specs.Tries.{unsent, runs, ended}
use Rattle.core_facts.proofs.Flown.{flies_state}
use Rattle.core_answers.proofs.writes.CommitsAlone.{nfs-write}
use Rattle.write_back.specs.Pieces.{Sent as Piece, Flown as InAir}
use Rattle.file_ops.specs.Saves as saves
use Rattle.step_pending.proofs.Shown.{HasPiece, has-piece}
use Rattle.core_counts.proofs.thrift.short.Ends.{Each}

-- ---- pieces and the xids that were given out

under-if : (p : Piece) (ps : List Piece) (y : ℕ) (b : Bool) → (if b then Some p else piece_under y ps) ≡ None → piece_under y ps ≡ None
under-if p ps y true is = absurd (let no_way : Some p ≡ None = is in cc)
under-if p ps y false is = is

own-under : (p : Piece) (ps : List Piece) → piece_under p.xid (p ∷ ps) ≡ Some p
own-under p ps = rw (eq-eqb p.xid p.xid refl) refl

pub early-unused : (to : ℕ) (ps : List Piece) → ((y : ℕ) → to ≤ y → piece_under y ps ≡ None) → Each (λ q. q.xid < to) ps
early-unused to [] none = tt
early-unused to (p ∷ ps) none = (low (cases_lt p.xid to), early-unused to ps (λ y late. under-if p ps y (nat_eq p.xid y) (none y late)))
  where
    low : (p.xid < to) ⊎ (to ≤ p.xid) → p.xid < to
    low (inl less) = less
    low (inr most) = absurd (let no_way : None ≡ Some p = sym (none p.xid most) ∙ own-under p ps in cc)

pub none-unused : (ps : List Piece) → ((y : ℕ) → piece_under y ps ≡ None) → ps ≡ []
none-unused [] none = refl
none-unused (p ∷ ps) none = absurd (let no_way : None ≡ Some p = sym (none p.xid) ∙ own-under p ps in cc)

pub each-least : (to : ℕ) (ps : List Piece) → Each (λ q. q.xid < to + 1) ps → Each (λ q. q.xid ≤ to) ps
each-least to [] each = tt
each-least to (p ∷ ps) each = (let low = each.0 in omega (arith, low), each-least to ps each.1)

-- ---- one lane

pub same-lane : (a b : Lane) → Some a ≡ Some b → a ≡ b
same-lane a b e = cc

pub one-before : (h : List Entry) (e : Entry) → OneLane (h ++ e ∷ []) → OneLane h
one-before h e one a b lane other line its_line op its_op first second =
    one a b lane other line its_line op its_op (At-grow h (e ∷ []) a (Began lane line op) first) (At-grow h (e ∷ []) b (Began other its_line its_op) second)

pub room-before : (h : List Entry) (e : Entry) → NeverFull (h ++ e ∷ []) → NeverFull h
room-before h e room writers apart all = room writers apart (λ k d lt. later (get_or writers k d) (all k d lt))
  where
    later : (o : Placed) → WriterAt h o → WriterAt (h ++ e ∷ []) o
    later o w = record { began = (w.began.0, w.began.1, At-grow h (e ∷ []) o.0 (Began w.began.0 w.began.1 o.1) w.began.2); writes = w.writes }

pub only-one : (setup : Setup) (h : List Entry) (v : View) → Known setup h v → OneLane h → (a b : ℕ) (l o : Lane) → slice_get v.lanes a ≡ Some l → slice_get v.lanes b ≡ Some o → a ≡ b
only-one setup h v known one a b l o here there =
    let under = lanes-under-way h v known.lanes in
    let x = under.busy a l here in
    let y = under.busy b o there in
    under.apart a b l o here there (one x.x y.x l.number o.number x.under_way.line y.under_way.line x.op y.op x.under_way.began y.under_way.began)

module _ (m : Mounted) (setup : Setup) (f : List ℕ) (next : ℕ) (h : List Entry) (old : View) (r : Reaches (machine_of m) setup h old) (found : old.lost ≡ false) (k : Known setup h old) (one : OneLane h)
    (basis : Basis setup h old) (wholly : Wholly setup h old) (at number : ℕ) (machine : Machine) (there : slice_get old.lanes at ≡ Some (record { number = number; state = Busy machine })) where
  -- each call that waits is of the only lane
  pub its-call : (y : ℕ) (w : Waiting Purpose) → waiting_at y old.calls.calls ≡ Some w → w.purpose.lane ≡ number
  its-call y w waits = by (position (is_busy w.purpose.lane) old.lanes) refl
    where
      own : Lane
      own = record { number = number; state = Busy machine }

      by : (o : Option ℕ) → position (is_busy w.purpose.lane) old.lanes ≡ o → w.purpose.lane ≡ number
      by None none = absurd (none-busy old y w waits none k.known.counted)
      by (Some j) is =
          let busy = position-Some (is_busy w.purpose.lane) old.lanes j own is in
          let here = slice_get-get_or old.lanes j own busy.0 in
          let same : j ≡ at = only-one setup h old k one j at (get_or old.lanes j own) own here there in
          sym (taker-is setup h old y w at k waits (subst (λ (n : ℕ). position (is_busy w.purpose.lane) old.lanes ≡ Some n) same is) number machine there)

  -- what is in flight is of its machine
  pub its-flight : (y : ℕ) (o : Option (Waiting Purpose)) → waiting_at y old.calls.calls ≡ o → (IsUnused y old.shelf.back) ⊎ Flies y (flies_of machine) old.shelf.back
  its-flight y None none =
      inl (subst (λ (p : Option Purpose). Flies y (sender (look_at old.lanes) p) old.shelf.back) (ap (option_map (λ (w : Waiting Purpose). w.purpose)) none) (basis.flying.flown.flies y))
  its-flight y (Some w) waits =
      inr (subst (λ (g : Option (List ℕ)). Flies y g old.shelf.back)
      (ap (look_at old.lanes) (its-call y w waits) ∙ look-at flies_state old.lanes at number (Busy machine) (lanes-under-way h old k.lanes).apart there)
      (subst (λ (p : Option Purpose). Flies y (sender (look_at old.lanes) p) old.shelf.back) (ap (option_map (λ (w : Waiting Purpose). w.purpose)) waits) (basis.flying.flown.flies y)))

  -- nothing is, where it sends nothing
  pub none-flying : flies_of machine ≡ None → HasNoPiece f old.shelf.back
  none-flying none = none-unused (of_file f old.shelf.back).pieces (λ y. by y (its-flight y (waiting_at y old.calls.calls) refl))
    where
      by : (y : ℕ) → (IsUnused y old.shelf.back) ⊎ Flies y (flies_of machine) old.shelf.back → piece_under y (of_file f old.shelf.back).pieces ≡ None
      by y (inl free) = free f
      by y (inr flies) = subst (λ (g : Option (List ℕ)). Flies y g old.shelf.back) none flies f

  -- a WRITE of the file that is in flight was sent
  pub covered-now : (s : Saving) → flies_of machine ≡ flies_if (saves.is_sending s.phase) s.file → s.file ≡ f → (flown : InAir) → fly_at (of_file s.file old.shelf.back) next ≡ Some flown
      → ((w : Waiting Purpose) → waiting_at flown.xid old.calls.calls ≡ Some w → 1 ≤ w.attempts) → CoveredEarlier h (length h) f next
  covered-now s sends same flown at_ was_sent = by (waiting_at flown.xid old.calls.calls) refl
    where
      here : fly_in (of_file f old.shelf.back).pieces next ≡ Some flown
      here = ap (λ (g : List ℕ). fly_in (of_file g old.shelf.back).pieces next) (sym same) ∙ at_

      has : HasPiece (of_file f old.shelf.back).pieces next flown
      has = has-piece (of_file f old.shelf.back).pieces next flown (basis.sound f).xids here

      free-not : IsUnused flown.xid old.shelf.back → CoveredEarlier h (length h) f next
      free-not free = absurd (let no_way : None ≡ Some has.piece = sym (free f) ∙ has.under in cc)

      of-file : (b : Bool) → saves.is_sending s.phase ≡ b → Flies flown.xid (flies_of machine) old.shelf.back → (flies_of machine ≡ Some f) ⊎ IsUnused flown.xid old.shelf.back
      of-file true is flies = inl (sends ∙ ap (λ (c : Bool). flies_if c s.file) is ∙ ap Some same)
      of-file false is flies = inr (subst (λ (g : Option (List ℕ)). Flies flown.xid g old.shelf.back) (sends ∙ ap (λ (c : Bool). flies_if c s.file) is) flies)

      covered : (w : Waiting Purpose) (call : Call) → SpellsCall flown.xid call w.bytes → CoversPlace f next call → (from : ℕ) → IsOutstanding h flown.xid w.bytes from → CoveredEarlier h (length h) f next
      covered w call spells covers_ from o = record {
        at = from;
        xid = flown.xid;
        bytes = w.bytes;
        call = call;
        sent = o.sent.sent;
        spells = spells;
        covers = covers_;
        earlier = At-below h from (Sent w.bytes) o.sent.sent;
      }

      tried-by : (w : Waiting Purpose) (call : Call) → SpellsCall flown.xid call w.bytes → CoversPlace f next call → 1 ≤ w.attempts → Tried h flown.xid w → CoveredEarlier h (length h) f next
      tried-by w call spells covers_ some_ (unsent nothing u) = absurd (omega (arith, some_, nothing))
      tried-by w call spells covers_ some_ (runs from running o rest) = covered w call spells covers_ from o
      tried-by w call spells covers_ some_ (ended from idle o rest) = covered w call spells covers_ from o

      sent-by : (w : Waiting Purpose) → waiting_at flown.xid old.calls.calls ≡ Some w → flies_of machine ≡ Some f → CoveredEarlier h (length h) f next
      sent-by w waits flies =
          let good = reached-good (machine_of m) (begins-unbegun m) setup CallFits fits-laws (λ g y o c. Unit {0}) (λ g s. Unit {0}) (λ g y o s. Unit {0}) (tales m setup) h old r in
          let e = (good.each at (record { number = number; state = Busy machine }) there).0 flown.xid w waits (its-call flown.xid w waits) in
          let write : written_file e.made.asked ≡ Some f = e.expects.sends f flies in
          let whole = wholly.all flown.xid w waits in
          let same_call : e.made.asked ≡ whole.call = one-call flown.xid flown.xid e.made.asked whole.call w.bytes (nfs-write e.made.asked f write) e.made.spells.spells whole.spells.spells in
          let inside = whole.has f (ap written_file (sym same_call) ∙ write) in
          let piece_is : inside.piece ≡ has.piece = (let k : Some inside.piece ≡ Some has.piece = sym inside.there ∙ has.under in cc) in
          tried-by w whole.call whole.spells.spells (record {
            offset = has.piece.offset;
            how = has.piece.how;
            bytes = has.piece.bytes;
            is = inside.is ∙ ap (saves.write_of f) piece_is;
            low = low-of has.piece.offset (has.piece.offset + length has.piece.bytes) next has.inside;
            high = high-of has.piece.offset (has.piece.offset + length has.piece.bytes) next has.inside;
          }) (was_sent w waits) ((reached-rows (machine_of m) setup h old r).rows flown.xid w waits).tried

      by : (o : Option (Waiting Purpose)) → waiting_at flown.xid old.calls.calls ≡ o → CoveredEarlier h (length h) f next
      by None none = which (its-flight flown.xid None none)
        where
          which : (IsUnused flown.xid old.shelf.back) ⊎ Flies flown.xid (flies_of machine) old.shelf.back → CoveredEarlier h (length h) f next
          which (inl free) = free-not free
          which (inr flies) =
              free-not (subst (λ (p : Option Purpose). Flies flown.xid (sender (look_at old.lanes) p) old.shelf.back) (ap (option_map (λ (w : Waiting Purpose). w.purpose)) none) (basis.flying.flown.flies flown.xid))
      by (Some w) waits = which (its-flight flown.xid (Some w) waits)
        where
          which : (IsUnused flown.xid old.shelf.back) ⊎ Flies flown.xid (flies_of machine) old.shelf.back → CoveredEarlier h (length h) f next
          which (inl free) = free-not free
          which (inr flies) = elim (of-file (saves.is_sending s.phase) refl flies) [
            | inl is ↦ sent-by w waits is
            | inr free ↦ free-not free
          ]
