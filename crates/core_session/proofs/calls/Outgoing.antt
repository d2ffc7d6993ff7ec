-- At each record that was sent: the view before it, the call that waited, and the operation of that call.
use Rattle.core_session.proofs.Prelude.{◌+◌, ◌≡◌, ◌<◌, ◌≤◌, ◌⊎◌, inl, inr, ℕ, List, [], ◌∷◌, ◌++◌, length, Bool, true, false, Some, None, slice_get, refl, sym, ap, subst, ◌∙◌, arith, append_assoc, Waiting, next_xid, waiting_at, at_sent, waits_early, Entry, Began, Answered, Dialed, Sent, Executed, Foreign, Flushed, Reboot, Delivered, Failed, Clock, Call, Op, NoneBegan, At, SpellsCall, SpellsCallBy, UnderWay, At-below, At-back, At-cases, Shelf, Machine, Lane, Purpose, State, Busy, Setup, SendsIf, View, calls_for, IsOfOperation, in_flight, IsUnbegun, StepsTo, Reaches, begins, goes, loses, SentNow, sent_now, calls-some, known-only, lanes-under-way, reached-lanes, reached-owned, Rows, reached-rows, TaleLaws, IsExpected, reached-good, IsNfs, one-call, NoCall, NoShelf, NoStory, no-laws, SentFor}
use Rattle.world_model.specs.Messages.{program_of}
use Rattle.core_facts.proofs.Counting.{IsKnown, reached-count}
use Rattle.core_facts.proofs.Expects.{ExpectLaws}
use Rattle.nfs_types.specs.declared.program.TheConstants.{NFS_PROGRAM}
use Rattle.rpc_retry.proofs.Records.{waits_late}
use Rattle.world_model.specs.declared.message.Call.TheVariants as calls
use Rattle.core_answers.proofs.asks.Limits.{reached-limit}

nfs-of : (call : Call) → program_of call ≡ NFS_PROGRAM → IsNfs call
nfs-of (calls.File call) is = tt
nfs-of (calls.Dir call) is = tt
nfs-of (calls.Mount call) is = absurd (omega (arith, is))

module _ (machine_of : ℕ → Op → Machine) (unbegun : (lane : ℕ) (op : Op) → IsUnbegun (machine_of lane op)) (setup : Setup) where
  -- The record at a place is that of a call which waits in the view before it, for the operation that is under way in its lane.
  pub record Outgoing (h : List Entry) (i : ℕ) (bytes : List ℕ) : Type 0 where
    pub before : List Entry
    pub after : List Entry
    pub is : h ≡ before ++ after
    pub there : length before ≡ i
    pub old : View
    pub reached : Reaches machine_of setup before old
    pub found : old.lost ≡ false
    pub xid : ℕ
    pub waiting : Waiting Purpose
    pub waits : waiting_at xid old.calls.calls ≡ Some waiting
    pub bytes_is : bytes ≡ waiting.bytes
    pub at : ℕ
    pub machine : Machine
    pub busy : slice_get old.lanes at ≡ Some (record { number = waiting.purpose.lane; state = Busy machine })
    pub x : ℕ
    pub op : Op
    pub under_way : UnderWay before waiting.purpose.lane x (length before) op
    pub some : 1 ≤ in_flight machine
    pub low : setup.first_xid ≤ xid
    pub high : xid < setup.first_xid + setup.limit

  outgoing-later : (h : List Entry) (e : Entry) (i : ℕ) (bytes : List ℕ) → Outgoing h i bytes → Outgoing (h ++ e ∷ []) i bytes
  outgoing-later h e i bytes w = record {
    before = w.before;
    after = w.after ++ e ∷ [];
    is = ap (λ (k : List Entry). k ++ e ∷ []) w.is ∙ append_assoc w.before w.after (e ∷ []);
    there = w.there;
    old = w.old;
    reached = w.reached;
    found = w.found;
    xid = w.xid;
    waiting = w.waiting;
    waits = w.waits;
    bytes_is = w.bytes_is;
    at = w.at;
    machine = w.machine;
    busy = w.busy;
    x = w.x;
    op = w.op;
    under_way = w.under_way;
    some = w.some;
    low = w.low;
    high = w.high;
  }

  -- the record that is sent now
  goes-out : (b : Bool) (h : List Entry) (old : View) (bytes : List ℕ) (new : View) → old.lost ≡ b → SendsIf b old (Some bytes) new → Reaches machine_of setup h old
      → Outgoing (h ++ Sent bytes ∷ []) (length h) bytes
  goes-out true h old bytes new was t r = absurd (let no_way : Some bytes ≡ None = t.0 in cc)
  goes-out false h old bytes new was t r = record {
    before = h;
    after = Sent bytes ∷ [];
    is = refl;
    there = refl;
    old = old;
    reached = r;
    found = was;
    xid = n.xid;
    waiting = n.call;
    waits = waits;
    bytes_is = n.bytes_is;
    at = own.at;
    machine = own.machine;
    busy = own.there;
    x = own.x;
    op = own.op;
    under_way = own.under_way;
    some = let all = calls-some n.xid old.calls.calls n.call waits in let count = counted in omega (arith, all, count);
    low =
        let late = waits_late old.calls.cred old.calls.first_xid (next_xid old.calls) n.xid old.calls.calls n.call rows.sound.calls.each waits in
        let first = rows.sound.first in
        omega (arith, late, first);
    high =
        let early = waits_early old.calls.cred old.calls.first_xid (next_xid old.calls) n.xid old.calls.calls n.call rows.sound.calls.each waits in
        let first = rows.sound.first in
        let few = rows.sound.calls.within in
        let limit : old.calls.limit ≡ setup.limit = reached-limit machine_of setup h old r in
        omega (arith, early, first, few, limit);
  }
    where
      n : SentNow old bytes new
      n = sent_now old bytes new (subst (λ (c : Bool). SendsIf c old (Some bytes) new) (sym was) t)

      rows : Rows setup h old
      rows = reached-rows machine_of setup h old r

      waits : waiting_at n.xid old.calls.calls ≡ Some n.call
      waits = (at_sent old.calls.cred old.calls.first_xid (next_xid old.calls) n.xid old.calls.calls n.call rows.sound.calls.each n.due).before

      own : IsOfOperation h old n.xid n.call
      own = (reached-owned machine_of unbegun setup h old r was).owned n.xid n.call waits

      apart : (k m : ℕ) (l o : Lane) → slice_get old.lanes k ≡ Some l → slice_get old.lanes m ≡ Some o → l.number ≡ o.number → k ≡ m
      apart = (lanes-under-way h old (reached-lanes machine_of setup h old r)).apart

      known : IsKnown old
      known = reached-count machine_of unbegun setup h old r was

      counted : calls_for n.call.purpose.lane old.calls.calls ≡ in_flight own.machine
      counted = known.counted n.call.purpose.lane
          ∙ known-only n.call.purpose.lane old.lanes own.at (Busy own.machine) own.there
          (λ k l here same. apart k own.at l (record { number = n.call.purpose.lane; state = Busy own.machine }) here own.there same)

  none-later : (h : List Entry) (e : Entry) (i : ℕ) → i < length h → NoneBegan h i → NoneBegan (h ++ e ∷ []) i
  none-later h e i within none j lane line op at early = none j lane line op (At-back h (e ∷ []) j (Began lane line op) at (omega (arith, early, within))) early

  out-now : (h : List Entry) (old : View) (e : Entry) (new : View) (bytes : List ℕ) → StepsTo machine_of h old e new → Reaches machine_of setup h old → e ≡ Sent bytes
      → Outgoing (h ++ e ∷ []) (length h) bytes
  out-now h old (Sent given) new bytes t r is =
      let same : given ≡ bytes = sent-bytes given bytes is in
      subst (λ (b : List ℕ). Outgoing (h ++ Sent given ∷ []) (length h) b) same (goes-out old.lost h old given new refl t r)
    where
      sent-bytes : (a b : List ℕ) → Sent a ≡ Sent b → a ≡ b
      sent-bytes a b q = cc
  out-now h old (Began lane line op) new bytes t r is = absurd (cc)
  out-now h old (Answered lane line answer) new bytes t r is = absurd (cc)
  out-now h old (Delivered rec) new bytes t r is = absurd (cc)
  out-now h old Failed new bytes t r is = absurd (cc)
  out-now h old (Dialed port) new bytes t r is = absurd (cc)
  out-now h old (Executed xid call reply) new bytes t r is = absurd (cc)
  out-now h old (Foreign call reply) new bytes t r is = absurd (cc)
  out-now h old (Flushed file from len) new bytes t r is = absurd (cc)
  out-now h old (Reboot verf) new bytes t r is = absurd (cc)
  out-now h old (Clock ms) new bytes t r is = absurd (cc)

  -- each record was sent before any operation began, or for one
  pub reached-out : (h : List Entry) (v : View) → Reaches machine_of setup h v → (i : ℕ) (bytes : List ℕ) → At h i (Sent bytes) → NoneBegan h i ⊎ Outgoing h i bytes
  reached-out _ _ (begins h v may up fresh) i bytes at = inl (λ j lane line op began early. up.unbegun j lane line op began)
  reached-out _ _ (goes h before v b e r is t) i bytes at =
      subst (λ (k : List Entry). NoneBegan k i ⊎ Outgoing k i bytes) (sym is)
      (by (At-cases before e i (Sent bytes) (subst (λ (k : List Entry). At k i (Sent bytes)) is at)) (reached-out before b r i bytes))
    where
      by : At before i (Sent bytes) ⊎ ((i ≡ length before) × (e ≡ Sent bytes)) → (At before i (Sent bytes) → NoneBegan before i ⊎ Outgoing before i bytes)
          → NoneBegan (before ++ e ∷ []) i ⊎ Outgoing (before ++ e ∷ []) i bytes
      by (inr now) early = inr (subst (λ (n : ℕ). Outgoing (before ++ e ∷ []) n bytes) (sym now.0) (out-now before b e v bytes t r now.1))
      by (inl there) early = elim (early there) [
        | inl none ↦ inl (none-later before e i (At-below before i (Sent bytes) there) none)
        | inr was ↦ inr (outgoing-later before e i bytes was)
      ]
  reached-out _ _ (loses h v b r shown is) i bytes at = reached-out h b r i bytes at

  -- ---- what any laws say of it

  module _ (E : Machine → Call → Type 0) (expected : ExpectLaws E) (W : List Entry → ℕ → Op → Call → Type 0) (I : List Entry → Shelf → Type 0) (S : List Entry → ℕ → Op → State → Type 0)
      (laws : TaleLaws machine_of setup E W I S) (h : List Entry) (i : ℕ) (bytes : List ℕ) (w : Outgoing h i bytes) where
    pub expects-one : IsExpected machine_of unbegun setup E expected W I S laws w.before w.waiting.purpose.lane w.xid w.waiting w.machine
    expects-one = ((reached-good machine_of unbegun setup E expected W I S laws w.before w.old w.reached).each w.at
        (record { number = w.waiting.purpose.lane; state = Busy w.machine }) w.busy).0 w.xid w.waiting w.waits refl

    -- of the call that its record spells
    pub caused-so : (call : Call) → IsNfs call → SpellsCall w.xid call w.waiting.bytes → W w.before w.x w.op call
    caused-so call nfs spells =
        let e = expects-one in
        subst (λ (c : Call). W w.before w.x w.op c) (sym (one-call w.xid w.xid call e.made.asked w.waiting.bytes nfs spells e.made.spells.spells)) (e.asks w.x w.op w.under_way)

  module _ (E : Machine → Call → Type 0) (expected : ExpectLaws E) (h : List Entry) (i : ℕ) (bytes : List ℕ) (w : Outgoing h i bytes) where
    pub own : IsExpected machine_of unbegun setup E expected NoCall NoShelf NoStory (no-laws machine_of setup E) w.before w.waiting.purpose.lane w.xid w.waiting w.machine
    own = expects-one E expected NoCall NoShelf NoStory (no-laws machine_of setup E) h i bytes w

    abbrev pub sent-as : SentFor machine_of unbegun setup E expected h i bytes
    sent-as = record {
      before = w.before;
      after = w.after;
      is = w.is;
      there = w.there;
      old = w.old;
      reached = w.reached;
      found = w.found;
      xid = w.xid;
      call = own.made.asked;
      made = subst (SpellsCallBy setup.cred w.xid own.made.asked) (sym w.bytes_is) own.made.spells;
      lane = w.waiting.purpose.lane;
      at = w.at;
      machine = w.machine;
      busy = w.busy;
      x = w.x;
      op = w.op;
      under_way = w.under_way;
      expects = own.expects;
      some = w.some;
      low = w.low;
      high = w.high;
    }

    pub sent-nfs : IsNfs sent-as.call
    sent-nfs = nfs-of own.made.asked own.made.nfs

    pub sent-spells : SpellsCall w.xid sent-as.call w.waiting.bytes
    sent-spells = own.made.spells.spells

    pub sent-by : SpellsCallBy setup.cred w.xid sent-as.call w.waiting.bytes
    sent-by = own.made.spells
