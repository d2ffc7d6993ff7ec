-- The book at the end of a session, or before it was lost: no record was sent after that.
use Rattle.core_counts.proofs.Prelude.{◌≡◌, ◌<◌, inl, inr, ℕ, List, [], ◌∷◌, ◌++◌, length, Bool, true, false, Some, None, refl, sym, ap, subst, ◌∙◌, arith, append_assoc, append-nil, Waiting, next_xid, waiting_at, at_sent, waits_early, before_sent, Entry, Began, Answered, Sent, Delivered, Call, Op, At, HasXid, SpellsCall, head_of, At-below, At-cases, Mounted, Machine, machine_of, Purpose, Busy, Setup, IsFresh, SendsIf, View, in_flight, Notes, IsSetUp, StepsTo, Reaches, IsMade, begins-unbegun, SentNow, sent_now, heard-lost, Known, purpose_at, reached-all, lanes-under-way, notes-reach, sent-purposes, Outgoing, IsWaiting, Each}
use Rattle.rpc_retry.proofs.Records.{waits_late}
use Rattle.client_core.specs.Steps.{SendsBy}
use Rattle.core_facts.specs.Notes.{notes_fresh, notes_step, notes_lost, NoneReady, ComesAfter}
use Rattle.core_facts.proofs.Counting.{calls-some, known-only}
use Rattle.core_session.proofs.delays.Tables.{AreApart}
use Rattle.rpc_message.proofs.CallLaws.{call_xid}
use Rattle.core_facts.specs.Counted.{calls_for, IsOfOperation}
use Rattle.core_facts.proofs.Owning.{reached-owned}
use Rattle.core_answers.proofs.asks.Limits.{reached-limit}
use Rattle.core_session.proofs.room.Onward.{Onward, stays, steps, drops}
use Rattle.core_counts.proofs.counts.engine.Laws.{SeenLaws}
use Rattle.core_counts.proofs.counts.engine.Ledger.{Row}
use Rattle.core_counts.proofs.counts.engine.Account.{room-empty}
use Rattle.core_counts.proofs.counts.engine.Along.{KeepsSteps, kept-step}
use Rattle.core_counts.proofs.counts.engine.Book.{SentRow}
use Rattle.core_counts.proofs.counts.engine.Kept.{IBook, INear, same-book, stirs-book, starts-book, answers-book}
use Rattle.core_counts.proofs.counts.engine.Heard.{takes-book}

-- ---- how a session went on

-- one step, and then onward
onward-first : (machine_of : ℕ → Op → Machine) (setup : Setup) (before : List Entry) (b : View) (e : Entry) (k : List Entry) (w : View) → Reaches machine_of setup before b → k ≡ before ++ e ∷ []
    → StepsTo machine_of before b e w → (h : List Entry) (v : View) → Onward machine_of setup k w h v → Onward machine_of setup before b h v
onward-first machine_of setup before b e k w r is t _ _ (stays h v same view) =
    steps h before v b e (stays before b refl refl) r (same ∙ is) (subst (λ (u : View). StepsTo machine_of before b e u) (sym view) t)
onward-first machine_of setup before b e k w r is t _ _ (steps h g v u o on from same s) = steps h g v u o (onward-first machine_of setup before b e k w r is t g u on) from same s
onward-first machine_of setup before b e k w r is t _ _ (drops h v u on same) = drops h v u (onward-first machine_of setup before b e k w r is t h u on) same

-- the session before it was lost
pub record Unlost (machine_of : ℕ → Op → Machine) (setup : Setup) (h : List Entry) (v : View) : Type 0 where
  pub g : List Entry
  pub gv : View
  pub notes : Notes machine_of setup g gv
  pub found : gv.lost ≡ false
  pub on : Onward machine_of setup g gv h v
  pub rest : List Entry
  pub is : h ≡ g ++ rest
  pub sent : (i : ℕ) (bytes : List ℕ) → At h i (Sent bytes) → i < length g

module _ (machine_of : ℕ → Op → Machine) (setup : Setup) where
  now : (h : List Entry) (v : View) → Notes machine_of setup h v → v.lost ≡ false → Unlost machine_of setup h v
  now h v n found = record { g = h; gv = v; notes = n; found = found; on = stays h v refl refl; rest = []; is = sym (append-nil h); sent = λ i bytes at. At-below h i (Sent bytes) at }

  -- nothing is sent where the session is lost
  lost-sends : (b : Bool) (old new : View) (bytes : List ℕ) → old.lost ≡ b → SendsIf b old (Some bytes) new → new.lost ≡ true → ⊥
  lost-sends true old new bytes was t lost = let no_way = t.0 in absurd (cc)
  lost-sends false old new bytes was t lost =
      let n = sent_now old bytes new (subst (λ (c : Bool). SendsIf c old (Some bytes) new) (sym was) t) in
      absurd (let no_way : true ≡ false = sym lost ∙ ap (λ (w : View). w.lost) n.is ∙ was in cc)

  sends-not : (before : List Entry) (b w : View) (e : Entry) (bytes : List ℕ) → StepsTo machine_of before b e w → e ≡ Sent bytes → w.lost ≡ true → ⊥
  sends-not before b w e bytes t is lost = lost-sends b.lost b w bytes refl (subst (λ (o : Entry). StepsTo machine_of before b o w) is t) lost

  pub unlost : (h : List Entry) (v : View) → Notes machine_of setup h v → Unlost machine_of setup h v
  unlost _ _ (notes_fresh h v may up fresh) = now h v (notes_fresh h v may up fresh) fresh.lost
  unlost _ _ (notes_lost h v b n shown is) = let u = unlost h b n in record {
    g = u.g;
    gv = u.gv;
    notes = u.notes;
    found = u.found;
    on = drops h v b u.on is;
    rest = u.rest;
    is = u.is;
    sent = u.sent;
  }
  unlost _ _ (notes_step h before v b e n is none t) = by v.lost refl (unlost before b n)
    where
      by : (c : Bool) → v.lost ≡ c → Unlost machine_of setup before b → Unlost machine_of setup h v
      by false found u = now h v (notes_step h before v b e n is none t) found
      by true lost u = record {
        g = u.g;
        gv = u.gv;
        notes = u.notes;
        found = u.found;
        on = steps h before v b e u.on (notes-reach machine_of setup before b n) is t;
        rest = u.rest ++ e ∷ [];
        is = is ∙ ap (λ (k : List Entry). k ++ e ∷ []) u.is ∙ append_assoc u.g u.rest (e ∷ []);
        sent = λ i bytes at. elim (At-cases before e i (Sent bytes) (subst (λ (k : List Entry). At k i (Sent bytes)) is at)) [
          | inl there ↦ u.sent i bytes there
          | inr last ↦ absurd (sends-not before b v e bytes t last.1 lost)
        ];
      }

-- ---- the book

module _ (m : Mounted) (setup : Setup) (H : List Entry) (V : View) (P : Call → Type 0) (Q : Call → ℕ → List ℕ → Type 0) (is : Op → Type 0) (base : Op → ℕ)
    (Left : List Entry → ℕ → Op → Machine → ℕ → Type 0) (laws : SeenLaws m setup H P Q is base Left) where
  abbrev BookNow : List Entry → View → Type 0
  BookNow = IBook m setup H V P Q is base Left laws

  none-waits : (setup_ : Setup) (v : View) → IsFresh setup_ v → (xid : ℕ) (w : Waiting Purpose) → waiting_at xid v.calls.calls ≡ Some w → ⊥
  none-waits setup_ v fresh xid w at =
      let none : None ≡ Some w = ap (λ (c : _). waiting_at xid c.calls) (sym fresh.calls) ∙ at in
      let no_way : None ≡ Some w = none in cc

  fresh-book : (h : List Entry) (v : View) → IsSetUp setup h → IsFresh setup v → BookNow h v
  fresh-book h v up fresh = record {
    rows = [];
    apart = subst AreApart (sym fresh.repeats) tt;
    waits = subst (Each (IsWaiting v.calls.calls)) (sym fresh.repeats) tt;
    counted = λ xid w at made x op u. absurd (none-waits setup v fresh xid w at);
    lone = λ a b in_a in_b r q there. absurd there;
    sound = record {
      below = λ r there. absurd there;
      rooted = λ r there. absurd there;
      few = λ root. room-empty [] (λ (r : Row). r.root ≡ root) 0 4 (λ r there same. there) (omega arith);
      began = λ r there. absurd there;
      one = λ r q there. absurd there;
      sents = λ i xid bytes at named. inl (λ j lane line op began early. up.unbegun j lane line op began);
    };
    budgets = λ x lane line op began fits. absurd (up.unbegun x lane line op began);
  }

  -- as the session goes on to the whole history
  abbrev BookTo : List Entry → View → Type 0
  BookTo h v = (rest : List Entry) → H ≡ h ++ rest → BookNow h v

  before-that : (h : List Entry) (e : Entry) (rest : List Entry) → H ≡ (h ++ e ∷ []) ++ rest → H ≡ h ++ e ∷ rest
  before-that h e rest is_ = is_ ∙ append_assoc h (e ∷ []) rest

  book-laws : KeepsSteps (machine_of m) setup BookTo
  book-laws = record {
    fresh = λ h v may up fresh rest to. fresh-book h v up fresh;
    stirs = λ h old new at known t b rest to. stirs-book m setup H V P Q is base Left laws h old new at known t (b rest to);
    starts = λ h old new lane line op now_ r found known idle fits t b rest to.
        starts-book m setup H V P Q is base Left laws h old new lane line op now_ known idle t (b (Began lane line op ∷ rest) (before-that h (Began lane line op) rest to));
    takes = λ h old new rec xid call at r found known fin hears named waits there o b rest to.
        takes-book m setup H V P Q is base Left laws h old rec xid call at r found known fin hears named waits there rest to new o (b (Delivered rec ∷ rest) (before-that h (Delivered rec) rest to));
    answers = λ h old new at lane line answer r found known later kept open_ a b rest to.
        answers-book m setup H V P Q is base Left laws h old new at lane line answer a (b (Answered lane line answer ∷ rest) (before-that h (Answered lane line answer) rest to));
    same = λ h e old new r found known plain lanes shelf wsize next calls b rest to.
        same-book m setup H V P Q is base Left laws h e old new plain.begins_ lanes shelf next calls (b (e ∷ rest) (before-that h e rest to)) (λ bytes same. absurd (plain.sends_ bytes same));
  }

  -- ---- a record is sent

  module _ (h : List Entry) (old : View) (bytes : List ℕ) (new : View) (r : Reaches (machine_of m) setup h old) (found : old.lost ≡ false) (t : SendsBy old (Some bytes) new) (none : NoneReady old)
      (on : Onward (machine_of m) setup h old H V) (b : BookNow h old) where
    n : SentNow old bytes new
    n = sent_now old bytes new t

    known : Known setup h old
    known = reached-all (machine_of m) (begins-unbegun m) setup h old r found

    waits : waiting_at n.xid old.calls.calls ≡ Some n.call
    waits = (at_sent old.calls.cred old.calls.first_xid (next_xid old.calls) n.xid old.calls.calls n.call known.rows.sound.calls.each n.due).before

    own : IsOfOperation h old n.xid n.call
    own = (reached-owned (machine_of m) (begins-unbegun m) setup h old r found).owned n.xid n.call waits

    counted : calls_for n.call.purpose.lane old.calls.calls ≡ in_flight own.machine
    counted = known.known.counted n.call.purpose.lane
        ∙ known-only n.call.purpose.lane old.lanes own.at (Busy own.machine) own.there
        (λ k l here same. (lanes-under-way h old known.lanes).apart k own.at l (record { number = n.call.purpose.lane; state = Busy own.machine }) here own.there same)

    goes-out : Outgoing (machine_of m) (begins-unbegun m) setup (h ++ Sent bytes ∷ []) (length h) bytes
    goes-out = record {
      before = h;
      after = Sent bytes ∷ [];
      is = refl;
      there = refl;
      old = old;
      reached = r;
      found = found;
      xid = n.xid;
      waiting = n.call;
      waits = waits;
      bytes_is = n.bytes_is;
      at = own.at;
      machine = own.machine;
      busy = own.there;
      x = own.x;
      op = own.op;
      under_way = own.under_way;
      some = let all = calls-some n.xid old.calls.calls n.call waits in let count = counted in omega (arith, all, count);
      low =
          let late = waits_late old.calls.cred old.calls.first_xid (next_xid old.calls) n.xid old.calls.calls n.call known.rows.sound.calls.each waits in
          let first = known.rows.sound.first in
          omega (arith, late, first);
      high =
          let early = waits_early old.calls.cred old.calls.first_xid (next_xid old.calls) n.xid old.calls.calls n.call known.rows.sound.calls.each waits in
          let first = known.rows.sound.first in
          let few = known.rows.sound.calls.within in
          let limit : old.calls.limit ≡ setup.limit = reached-limit (machine_of m) setup h old r in
          omega (arith, early, first, few, limit);
    }

    made : IsMade setup.cred n.xid n.call
    made = (known.rows.rows n.xid n.call waits).made

    same-number : (a c : ℕ) → Some a ≡ Some c → a ≡ c
    same-number a c e = cc

    sent-row : (xid : ℕ) → HasXid bytes xid → SentRow m setup H V P Q is base Left b.rows (h ++ Sent bytes ∷ []) (length h) xid bytes
    unfolding goes-out own
    sent-row xid named =
        let near : INear m setup H V P Q is base Left laws b.rows n.xid own.x own.op made.asked _ = b.counted n.xid n.call waits made own.x own.op own.under_way in
        let number : n.xid ≡ xid = same-number n.xid xid
        (sym (call_xid (head_of n.xid made.asked) made.spells.spells.args n.call.bytes made.spells.spells.head) ∙ subst (λ (k : List ℕ). HasXid k xid) n.bytes_is named) in
        record {
          row = near.row;
          there = near.there;
          xid_is = near.xid_is ∙ number;
          spells = subst (λ (k : ℕ). SpellsCall k near.row.call bytes) number
              (subst (λ (c : Call). SpellsCall n.xid c bytes) (sym near.call_is) (subst (SpellsCall n.xid made.asked) (sym n.bytes_is) made.spells.spells));
          out = goes-out;
          x_is = near.x_is;
          op_is = near.op_is;
          on = on;
          noted = none;
        }

    sent-bytes : (a c : List ℕ) → Sent a ≡ Sent c → a ≡ c
    sent-bytes a c e = cc

    sends-book : BookNow (h ++ Sent bytes ∷ []) new
    sends-book =
        same-book m setup H V P Q is base Left laws h (Sent bytes) old new (λ lane line op same. absurd (not-began lane line op same)) (ap (λ (v : View). v.lanes) n.is) (ap (λ (v : View). v.shelf) n.is)
        (ap (λ (v : View). next_xid v.calls) n.is) (record {
          waited = λ xid w at. before_sent old.calls.calls xid w (sym (ap (λ (v : View). waiting_at xid v.calls.calls) n.is) ∙ at);
          purposes = λ xid. ap (λ (v : View). purpose_at xid v.calls.calls) n.is ∙ sent-purposes xid old.calls.calls;
        }) b (λ other same xid named.
        subst (λ (k : List ℕ). SentRow m setup H V P Q is base Left b.rows (h ++ Sent bytes ∷ []) (length h) xid k) (sent-bytes bytes other same)
        (sent-row xid (subst (λ (k : List ℕ). HasXid k xid) (sym (sent-bytes bytes other same)) named)))
      where
        not-began : (lane line : ℕ) (op : Op) → Sent bytes ≡ Began lane line op → ⊥
        not-began lane line op same = cc

  -- the entry is a record that is sent
  sends-now : (h : List Entry) (old : View) (e : Entry) (new : View) (bytes : List ℕ) → e ≡ Sent bytes → StepsTo (machine_of m) h old e new → (ComesAfter e → NoneReady old)
      → Reaches (machine_of m) setup h old → old.lost ≡ false → Onward (machine_of m) setup h old H V → BookNow h old → BookNow (h ++ e ∷ []) new
  sends-now h old e new bytes same t none r found on b =
      subst (λ (o : Entry). BookNow (h ++ o ∷ []) new) (sym same)
      (sends-book h old bytes new r found (subst (λ (o : Entry). StepsTo (machine_of m) h old o new) same t) (subst (λ (o : Entry). ComesAfter o → NoneReady old) same none tt) on b)

  lost-before : (h : List Entry) (old : View) (e : Entry) (new : View) (bytes : List ℕ) → e ≡ Sent bytes → StepsTo (machine_of m) h old e new → new.lost ≡ false → old.lost ≡ false
  lost-before h old e new bytes same t found =
      let s = sent_now old bytes new (subst (λ (o : Entry). StepsTo (machine_of m) h old o new) same t) in
      ap (λ (w : View). w.lost) (sym s.is) ∙ found

  -- along the session that comes to this history and view
  booked-to : (h : List Entry) (v : View) → Notes (machine_of m) setup h v → v.lost ≡ false → Onward (machine_of m) setup h v H V → BookTo h v
  booked-to _ _ (notes_fresh h v may up fresh) found on = λ rest to. fresh-book h v up fresh
  booked-to _ _ (notes_lost h v b n shown is_lost) found on = absurd (let no_way : true ≡ false = ap (λ (w : View). w.lost) (sym is_lost) ∙ found in cc)
  booked-to _ _ (notes_step h before v b e n same none t) found on =
      let r = notes-reach (machine_of m) setup before b n in
      let earlier = onward-first (machine_of m) setup before b e h v r same t H V on in
      subst (λ (k : List Entry). BookTo k v) (sym same)
      (kept-step (machine_of m) (begins-unbegun m) setup BookTo book-laws before b e v t r (λ was. booked-to before b n was earlier) found (λ rec d. sym (heard-lost b rec v d) ∙ found)
      (λ bytes sent rest to.
      let was = lost-before before b e v bytes sent t found in sends-now before b e v bytes sent t none r was earlier (booked-to before b n was earlier (e ∷ rest) (before-that before e rest to))))

  pub booked : (h : List Entry) (v : View) → Notes (machine_of m) setup h v → v.lost ≡ false → Onward (machine_of m) setup h v H V → (rest : List Entry) → H ≡ h ++ rest → BookNow h v
  booked h v n found on rest to = booked-to h v n found on rest to
