-- Which operation gave each byte of a WRITE that is sent: what the call carries is in flight, and that is pending, which some operation gave.
use Rattle.core_session.proofs.Prelude.{◌≡◌, ◌<◌, ◌+◌, ◌-◌, ◌&&◌, ◌⊎◌, inl, inr, ℕ, Bool, true, false, nat_le, List, [], ◌∷◌, ◌++◌, length, Option, Some, None, refl, sym, ap, subst, ◌∙◌, arith, append_assoc, le-leb, lt-ltb, slice_get_within, Waiting, next_xid, waiting_at, at_sent, Entry, Began, Answered, Dialed, Sent, Executed, Foreign, Flushed, Reboot, Delivered, Failed, Clock, Op, NoneBegan, At, SpellsCall, Modes, IsOf, Terms, At-grow, At-below, At-back, At-cases, one_file_call, of_file, Flown, fly_in, flown_in, covers, IsSound, fly-some, fly-under, Mounted, machine_of, Purpose, Setup, SendsIf, View, StepsTo, Reaches, begins, goes, loses, IsMade, SentNow, sent_now, always-later, Rows, reached-rows, IsHeld, held-grow, written_file, IsInFlight, write_of, writes-whole}
use Rattle.std.proofs.Common.{nat_lt, slice_index}
use Rattle.std.proofs.lemmas.Option.{get_or_from_slice_get}
use Rattle.write_back.specs.Pieces.{part_at}
use Rattle.nfs_file_calls.specs.declared.call.FileCall.TheVariants as files
use Rattle.world_model.specs.declared.message.Call.TheVariants as calls
use Rattle.world_model.specs.declared.op.Op.TheVariants as ops
use Rattle.claims.specs.Touched.{Covers}
use Rattle.write_back.specs.declared.sent.Part.{Part}
use Rattle.write_back.specs.Pieces.{Sent as Piece}
use Rattle.core_session.proofs.order.Basis.{reached-basis}
use Rattle.core_answers.specs.writes.Written.{IsAtFile, IsWritten}
use Rattle.core_answers.proofs.writes.PendingWritten.{pending-written}
use Rattle.core_session.specs.settled.Lone.{IsGiven, WritesGiven}

-- ---- the record at a place, and the call that waits for its reply

module _ (m : Mounted) (setup : Setup) where
  -- The record at a place was sent for a call that waits in the core of a session that isn't lost.
  record Sending (h : List Entry) (s : ℕ) (sent : List ℕ) : Type 0 where
    before : List Entry
    after : List Entry
    is : h ≡ before ++ after
    there : length before ≡ s
    old : View
    reached : Reaches (machine_of m) setup before old
    found : old.lost ≡ false
    xid : ℕ
    waiting : Waiting Purpose
    waits : waiting_at xid old.calls.calls ≡ Some waiting
    bytes_is : sent ≡ waiting.bytes

  sent-for : (b : Bool) (h : List Entry) (old : View) (sent : List ℕ) (new : View) → old.lost ≡ b → SendsIf b old (Some sent) new → Reaches (machine_of m) setup h old
      → Sending (h ++ Sent sent ∷ []) (length h) sent
  sent-for true h old sent new was t r = absurd (let no_way : Some sent ≡ None = t.0 in cc)
  sent-for false h old sent new was t r = record {
    before = h;
    after = Sent sent ∷ [];
    is = refl;
    there = refl;
    old = old;
    reached = r;
    found = was;
    xid = n.xid;
    waiting = n.call;
    waits = (at_sent old.calls.cred old.calls.first_xid (next_xid old.calls) n.xid old.calls.calls n.call rows.sound.calls.each n.due).before;
    bytes_is = n.bytes_is;
  }
    where
      n : SentNow old sent new
      n = sent_now old sent new (subst (λ (c : Bool). SendsIf c old (Some sent) new) (sym was) t)

      rows : Rows setup h old
      rows = reached-rows (machine_of m) setup h old r

  sending-later : (h : List Entry) (e : Entry) (s : ℕ) (sent : List ℕ) → Sending h s sent → Sending (h ++ e ∷ []) s sent
  sending-later h e s sent w = record {
    before = w.before;
    after = w.after ++ e ∷ [];
    is = ap (λ (k : List Entry). k ++ e ∷ []) w.is ∙ append_assoc w.before w.after (e ∷ []);
    there = w.there;
    old = w.old;
    reached = w.reached;
    found = w.found;
    xid = w.xid;
    waiting = w.waiting;
    waits = w.waits;
    bytes_is = w.bytes_is;
  }

  sent-bytes : (a b : List ℕ) → Sent a ≡ Sent b → a ≡ b
  sent-bytes a b q = cc

  sent-now : (h : List Entry) (old : View) (e : Entry) (new : View) (sent : List ℕ) → StepsTo (machine_of m) h old e new → Reaches (machine_of m) setup h old → e ≡ Sent sent
      → Sending (h ++ e ∷ []) (length h) sent
  sent-now h old (Sent given) new sent t r is =
      subst (λ (b : List ℕ). Sending (h ++ Sent given ∷ []) (length h) b) (sent-bytes given sent is) (sent-for old.lost h old given new refl t r)
  sent-now h old (Began lane line op) new sent t r is = absurd (cc)
  sent-now h old (Answered lane line answer) new sent t r is = absurd (cc)
  sent-now h old (Delivered rec) new sent t r is = absurd (cc)
  sent-now h old Failed new sent t r is = absurd (cc)
  sent-now h old (Dialed port) new sent t r is = absurd (cc)
  sent-now h old (Executed xid call reply) new sent t r is = absurd (cc)
  sent-now h old (Foreign call reply) new sent t r is = absurd (cc)
  sent-now h old (Flushed file from len) new sent t r is = absurd (cc)
  sent-now h old (Reboot verf) new sent t r is = absurd (cc)
  sent-now h old (Clock ms) new sent t r is = absurd (cc)

  none-later : (h : List Entry) (e : Entry) (s : ℕ) → s < length h → NoneBegan h s → NoneBegan (h ++ e ∷ []) s
  none-later h e s within none j lane line op at early = none j lane line op (At-back h (e ∷ []) j (Began lane line op) at (omega (arith, early, within))) early

  reached-sending : (h : List Entry) (v : View) → Reaches (machine_of m) setup h v → (s : ℕ) (sent : List ℕ) → At h s (Sent sent) → NoneBegan h s ⊎ Sending h s sent
  reached-sending _ _ (begins h v may up fresh) s sent at = inl (λ j lane line op began early. up.unbegun j lane line op began)
  reached-sending _ _ (goes h before v b e r is t) s sent at =
      subst (λ (k : List Entry). NoneBegan k s ⊎ Sending k s sent) (sym is)
      (by (At-cases before e s (Sent sent) (subst (λ (k : List Entry). At k s (Sent sent)) is at)) (reached-sending before b r s sent))
    where
      by : At before s (Sent sent) ⊎ ((s ≡ length before) × (e ≡ Sent sent)) → (At before s (Sent sent) → NoneBegan before s ⊎ Sending before s sent)
          → NoneBegan (before ++ e ∷ []) s ⊎ Sending (before ++ e ∷ []) s sent
      by (inr now) early = inr (subst (λ (n : ℕ). Sending (before ++ e ∷ []) n sent) (sym now.0) (sent-now before b e v sent t r now.1))
      by (inl there) early = elim (early there) [
        | inl none ↦ inl (none-later before e s (At-below before s (Sent sent) there) none)
        | inr was ↦ inr (sending-later before e s sent was)
      ]
  reached-sending _ _ (loses h v b r shown is) s sent at = reached-sending h b r s sent at

-- ---- an operation's file, later

of-later : (m : Modes) (h : List Entry) (e : Entry) (x : ℕ) (f : List ℕ) (o : Op) → IsOf m h x o f → IsOf m (h ++ e ∷ []) x o f
of-later m h e x f o i =
    let low = At-below h x (Began i.lane i.line o) i.began in
    let held : IsHeld m (h ++ e ∷ []) x i.lane i.slot f i.holds.opens.mode =
    held-grow m h e i.lane i.slot f i.holds.opens.mode x (omega (arith, low)) (record { x = i.open_at; holds = i.holds; mode_is = refl }) in
    record {
      lane = i.lane;
      line = i.line;
      slot = i.slot;
      open_at = held.x;
      began = At-grow h (e ∷ []) x (Began i.lane i.line o) i.began;
      works_on = i.works_on;
      holds = held.holds;
    }

at-later : (m : Modes) (h : List Entry) (e : Entry) (x : ℕ) (op : Op) (f : List ℕ) → IsAtFile m h x op f → IsAtFile m (h ++ e ∷ []) x op f
at-later m h e x (ops.Put path offset bytes) f at = tt
at-later m h e x (ops.OpenFile slot mode path) f at = of-later m h e x f (ops.OpenFile slot mode path) at
at-later m h e x (ops.Read slot offset count) f at = of-later m h e x f (ops.Read slot offset count) at
at-later m h e x (ops.Write slot offset bytes) f at = of-later m h e x f (ops.Write slot offset bytes) at
at-later m h e x (ops.Fill slot offset count byte) f at = of-later m h e x f (ops.Fill slot offset count byte) at
at-later m h e x (ops.Sync slot) f at = of-later m h e x f (ops.Sync slot) at
at-later m h e x (ops.Close slot) f at = of-later m h e x f (ops.Close slot) at
at-later m h e x (ops.Truncate slot size) f at = of-later m h e x f (ops.Truncate slot size) at
at-later m h e x op f at = of-later m h e x f op at

-- ---- one place of a piece

cover-both : (a b : Bool) → a ≡ true → b ≡ true → (a && b) ≡ true
cover-both true true e g = refl
cover-both true false e g = absurd cc
cover-both false b e g = absurd cc

pub covers-true : (offset : ℕ) (bytes : List ℕ) (i b : ℕ) → Covers offset bytes i b → covers offset (length bytes) i ≡ true
covers-true offset bytes i b c =
    let place = c.place in
    let inside = slice_get_within bytes c.k b c.byte in
    cover-both (nat_le offset i) (nat_lt i (offset + length bytes)) (le-leb offset i (omega (arith, place))) (lt-ltb i (offset + length bytes) (omega (arith, place, inside)))

pub covers-index : (offset : ℕ) (bytes : List ℕ) (i b : ℕ) → Covers offset bytes i b → slice_index bytes (i - offset) ≡ b
covers-index offset bytes i b c =
    let place = c.place in
    let number : i - offset ≡ c.k = omega (arith, place) in
    ap (slice_index bytes) number ∙ get_or_from_slice_get bytes c.k b 0 c.byte

-- the byte that is in flight there
record IsFlown (piece : Piece) (i b : ℕ) : Type 0 where
  flown : Flown
  is : flown_in piece i ≡ Some flown
  byte : flown.byte ≡ b

flown-of : (piece : Piece) (i b : ℕ) → slice_index piece.bytes (i - piece.offset) ≡ b → (flown_in piece i ≡ None → ⊥) → IsFlown piece i b
flown-of piece i b index some = by (part_at piece.parts (i - piece.offset)) refl
  where
    by : (o : Option Part) → part_at piece.parts (i - piece.offset) ≡ o → IsFlown piece i b
    by None e = absurd (some (rw e refl))
    by (Some part) e = record {
      flown = record { byte = slice_index piece.bytes (i - piece.offset); number = part.number; xid = piece.xid; before = part.before };
      is = rw e refl;
      byte = index;
    }

-- ---- the theorem

as-write : (f : List ℕ) (offset how : ℕ) (bytes : List ℕ) (piece : Piece) → calls.File (files.Write f offset how bytes) ≡ write_of f piece → (offset ≡ piece.offset) × (bytes ≡ piece.bytes)
as-write f offset how bytes piece e = (cc, cc)

module _ (m : Mounted) (terms : Terms) (setup : Setup) (nocto : m.nocto ≡ terms.modes.nocto) where
  given-by : (h : List Entry) (s xid : ℕ) (sent f : List ℕ) (offset how : ℕ) (bytes : List ℕ) → SpellsCall xid (calls.File (files.Write f offset how bytes)) sent → (i b : ℕ) → Covers offset bytes i b
      → Sending m setup h s sent → IsGiven terms.modes h s f i b
  given-by h s xid sent f offset how bytes spells i b c w = record {
    lane = given.lane;
    line = given.line;
    x = given.x;
    op = given.op;
    began = subst (λ (k : List Entry). At k given.x (Began given.lane given.line given.op)) (sym w.is) (At-grow w.before w.after given.x (Began given.lane given.line given.op) given.began);
    before = let low = At-below w.before given.x (Began given.lane given.line given.op) given.began in let there = w.there in omega (arith, low, there);
    gives = given.gives ∙ ap (λ (z : ℕ). Some z) fly.byte;
    file = subst (λ (k : List Entry). IsAtFile terms.modes k given.x given.op f) (sym w.is)
        (always-later (λ k. IsAtFile terms.modes k given.x given.op f) (λ k e at. at-later terms.modes k e given.x given.op f at) w.before w.after given.file);
  }
    where
      made : IsMade setup.cred w.xid w.waiting
      made = ((reached-rows (machine_of m) setup w.before w.old w.reached).rows w.xid w.waiting w.waits).made

      same : calls.File (files.Write f offset how bytes) ≡ made.asked
      same = one_file_call xid w.xid (files.Write f offset how bytes) made.asked sent spells (subst (λ (z : List ℕ). SpellsCall w.xid made.asked z) (sym w.bytes_is) made.spells.spells)

      flight : IsInFlight w.xid f made.asked w.old.shelf.back
      flight = writes-whole m setup w.before w.old w.reached w.found w.xid made.asked f (record { waiting = w.waiting; waits = w.waits; spells = made.spells }) (ap written_file (sym same))

      parts : (offset ≡ flight.piece.offset) × (bytes ≡ flight.piece.bytes)
      parts = as-write f offset how bytes flight.piece (same ∙ flight.is)

      inside : covers flight.piece.offset (length flight.piece.bytes) i ≡ true
      inside = subst (λ (z : ℕ). covers z (length flight.piece.bytes) i ≡ true) parts.0 (subst (λ (z : List ℕ). covers offset (length z) i ≡ true) parts.1 (covers-true offset bytes i b c))

      index : slice_index flight.piece.bytes (i - flight.piece.offset) ≡ b
      index = subst (λ (z : ℕ). slice_index flight.piece.bytes (i - z) ≡ b) parts.0 (subst (λ (z : List ℕ). slice_index z (i - offset) ≡ b) parts.1 (covers-index offset bytes i b c))

      sound : IsSound (of_file f w.old.shelf.back)
      sound = (reached-basis m setup w.before w.old w.reached w.found).sound f

      under : fly_in (of_file f w.old.shelf.back).pieces i ≡ flown_in flight.piece i
      under = fly-under w.xid (of_file f w.old.shelf.back).pieces flight.piece i sound.sent flight.there inside

      fly : IsFlown flight.piece i b
      fly = flown-of flight.piece i b index (λ none. fly-some w.xid (of_file f w.old.shelf.back).pieces flight.piece i sound.sent flight.there inside (under ∙ none))

      given : IsWritten terms.modes w.before f i fly.flown.byte
      given = (pending-written m terms setup w.before w.old (record { nocto = nocto; reaches = w.reached }) w.found f i).fly fly.flown (under ∙ fly.is)

pub writes-given : WritesGiven
writes-given m terms setup h v g s xid sent f offset how bytes at spells i b c = elim (reached-sending m setup h v g.reaches s sent at) [
  | inl none ↦ inl none
  | inr w ↦ inr (given-by m terms setup g.nocto h s xid sent f offset how bytes spells i b c w)
]
