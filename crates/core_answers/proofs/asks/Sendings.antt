-- A record that is sent: for which operation, which machine waits for its reply, and for which call.
use Rattle.core_answers.proofs.Prelude.{◌+◌, ◌≡◌, ◌<◌, ◌≤◌, ◌⊎◌, inl, inr, ℕ, List, [], ◌∷◌, ◌++◌, length, Bool, true, false, Some, None, slice_get, refl, sym, ap, subst, ◌∙◌, arith, append_assoc, next_xid, waiting_at, waits_early, Entry, Began, Answered, Dialed, Executed, Foreign, Flushed, Reboot, Delivered, Failed, Clock, Call, Op, At, SpellsCallBy, UnderWay, At-grow, At-below, At-back, At-cases, Step, Shelf, Machine, State, Busy, Lane, Setup, View, calls_for, in_flight, IsUnbegun, StepsTo, Reaches, begins, goes, loses, sent_now, calls-some, reached-count, ExpectLaws, lanes-under-way, Rows, reached-rows, Did, TaleLaws, reached-good}
use Rattle.rpc_retry.proofs.Lookups.{at_sent}
use Rattle.world_model.specs.declared.entry.Entry.TheVariants.{Sent}
use Rattle.core_facts.specs.Counted.{IsOfOperation}
use Rattle.core_facts.proofs.Cases.{SentNow}
use Rattle.core_facts.proofs.Counting.{IsKnown, known-only}
use Rattle.core_facts.proofs.LaneMarks.{reached-lanes}
use Rattle.core_facts.proofs.Tales.{IsExpected}
use Rattle.rpc_retry.proofs.Records.{waits_late}
use Rattle.client_shelf.specs.declared.step.Step.TheVariants as nexts
use Rattle.client_core.specs.Steps.{SendsIf}
use Rattle.core_facts.proofs.Owning.{reached-owned}
use Rattle.core_answers.proofs.asks.Limits.{reached-limit}

-- ---- an operation under way at a place

pub under-until : (before after : List Entry) (lane x i : ℕ) (op : Op) → length before ≡ i → UnderWay before lane x (length before) op → UnderWay (before ++ after) lane x i op
under-until before after lane x i op there u = record {
  line = u.line;
  began = At-grow before after x (Began lane u.line op) u.began;
  before = let low = u.before in omega (arith, there, low);
  unanswered = λ a.
      let d = a.ended in
      let early = a.before in
      let since = d.later in
      u.unanswered (record {
        lane = a.lane;
        op = a.op;
        y = a.y;
        answer = a.answer;
        ended = record {
          line = d.line;
          began = At-back before after x (Began a.lane d.line a.op) d.began (omega (arith, there, early, since));
          answered = At-back before after a.y (Answered a.lane d.line a.answer) d.answered (omega (arith, there, early));
          later = d.later;
          first = λ j other at past. d.first j other (At-grow before after j (Answered a.lane d.line other) at) past;
        };
        before = omega (arith, there, early);
      });
}

-- ---- a story of which nothing is said

abbrev pub NoCall : List Entry → ℕ → Op → Call → Type 0
NoCall h x op call = Unit {0}

abbrev pub NoShelf : List Entry → Shelf → Type 0
NoShelf h shelf = Unit {0}

abbrev pub NoStory : List Entry → ℕ → Op → State → Type 0
NoStory h x op state = Unit {0}

did-nothing : (h : List Entry) (x : ℕ) (op : Op) (next : Step) (new : Machine) (after : Shelf) → Did NoCall NoShelf NoStory h x op next new after
did-nothing h x op (nexts.Send call) new after = record { shelf = tt; asks = tt; then_ = tt }
did-nothing h x op nexts.Wait new after = record { shelf = tt; asks = tt; then_ = tt }
did-nothing h x op (nexts.Done answer) new after = record { shelf = tt; asks = tt; then_ = tt }

pub no-laws : (machine_of : ℕ → Op → Machine) (setup : Setup) (E : Machine → Call → Type 0) → TaleLaws machine_of setup E NoCall NoShelf NoStory
no-laws machine_of setup E = record {
  fresh = λ h v up fresh. tt;
  starts = λ h lane line op wsize turn old next new after kept s. did-nothing (h ++ Began lane line op ∷ []) (length h) op next new after;
  resumes = λ h x op machine wsize turn old next new after kept story r. did-nothing h x op next new after;
  takes = λ h x op machine wsize sent turn came old next new after others kept story one told t. did-nothing h x op next new after;
  still = λ h e shelf kept. tt;
  waits = λ h e x op call w. tt;
  grows = λ h e x op state quiet story. tt;
  lost = λ h x op shown. tt;
}

module _ (machine_of : ℕ → Op → Machine) (unbegun : (lane : ℕ) (op : Op) → IsUnbegun (machine_of lane op)) (setup : Setup) (E : Machine → Call → Type 0) (expected : ExpectLaws E) where
  -- The record at a place was sent for an operation that is under way, whose machine waits for a call that the record spells.
  pub record SentFor (h : List Entry) (i : ℕ) (bytes : List ℕ) : Type 0 where
    pub before : List Entry
    pub after : List Entry
    pub is : h ≡ before ++ after
    pub there : length before ≡ i
    pub old : View
    pub reached : Reaches machine_of setup before old
    pub found : old.lost ≡ false
    pub xid : ℕ
    pub call : Call
    pub made : SpellsCallBy setup.cred xid call bytes
    pub lane : ℕ
    pub at : ℕ
    pub machine : Machine
    pub busy : slice_get old.lanes at ≡ Some (record { number = lane; state = Busy machine })
    pub x : ℕ
    pub op : Op
    pub under_way : UnderWay before lane x (length before) op
    pub expects : E machine call
    pub some : 1 ≤ in_flight machine
    pub low : setup.first_xid ≤ xid
    pub high : xid < setup.first_xid + setup.limit

  abbrev pub NoneYet : List Entry → ℕ → Type 0
  NoneYet h i = (j lane line : ℕ) (op : Op) → At h j (Began lane line op) → j < i → ⊥

  sent-later : (h : List Entry) (e : Entry) (i : ℕ) (bytes : List ℕ) → SentFor h i bytes → SentFor (h ++ e ∷ []) i bytes
  sent-later h e i bytes w = record {
    before = w.before;
    after = w.after ++ e ∷ [];
    is = ap (λ (k : List Entry). k ++ e ∷ []) w.is ∙ append_assoc w.before w.after (e ∷ []);
    there = w.there;
    old = w.old;
    reached = w.reached;
    found = w.found;
    xid = w.xid;
    call = w.call;
    made = w.made;
    lane = w.lane;
    at = w.at;
    machine = w.machine;
    busy = w.busy;
    x = w.x;
    op = w.op;
    under_way = w.under_way;
    expects = w.expects;
    some = w.some;
    low = w.low;
    high = w.high;
  }

  -- the record that is sent now
  sent-for : (b : Bool) (h : List Entry) (old : View) (bytes : List ℕ) (new : View) → old.lost ≡ b → SendsIf b old (Some bytes) new → Reaches machine_of setup h old
      → SentFor (h ++ Sent bytes ∷ []) (length h) bytes
  sent-for true h old bytes new was t r = absurd (let no_way : Some bytes ≡ None = t.0 in cc)
  sent-for false h old bytes new was t r = record {
    before = h;
    after = Sent bytes ∷ [];
    is = refl;
    there = refl;
    old = old;
    reached = r;
    found = was;
    xid = n.xid;
    call = e.made.asked;
    made = subst (SpellsCallBy setup.cred n.xid e.made.asked) (sym n.bytes_is) e.made.spells;
    lane = n.call.purpose.lane;
    at = own.at;
    machine = own.machine;
    busy = own.there;
    x = own.x;
    op = own.op;
    under_way = own.under_way;
    expects = e.expects;
    some = let all = calls-some n.xid old.calls.calls n.call waits in let count = counted in omega (arith, all, count);
    low =
        let late = waits_late old.calls.cred old.calls.first_xid (next_xid old.calls) n.xid old.calls.calls n.call rows.sound.calls.each waits in
        let first = rows.sound.first in
        omega (arith, late, first);
    high =
        let early = waits_early old.calls.cred old.calls.first_xid (next_xid old.calls) n.xid old.calls.calls n.call rows.sound.calls.each waits in
        let first = rows.sound.first in
        let few = rows.sound.calls.within in
        let limit : old.calls.limit ≡ setup.limit = reached-limit machine_of setup h old r in
        omega (arith, early, first, few, limit);
  }
    where
      n : SentNow old bytes new
      n = sent_now old bytes new (subst (λ (c : Bool). SendsIf c old (Some bytes) new) (sym was) t)

      rows : Rows setup h old
      rows = reached-rows machine_of setup h old r

      waits : waiting_at n.xid old.calls.calls ≡ Some n.call
      waits = (at_sent old.calls.cred old.calls.first_xid (next_xid old.calls) n.xid old.calls.calls n.call rows.sound.calls.each n.due).before

      own : IsOfOperation h old n.xid n.call
      own = (reached-owned machine_of unbegun setup h old r was).owned n.xid n.call waits

      apart : (k m : ℕ) (l o : Lane) → slice_get old.lanes k ≡ Some l → slice_get old.lanes m ≡ Some o → l.number ≡ o.number → k ≡ m
      apart = (lanes-under-way h old (reached-lanes machine_of setup h old r)).apart

      known : IsKnown old
      known = reached-count machine_of unbegun setup h old r was

      counted : calls_for n.call.purpose.lane old.calls.calls ≡ in_flight own.machine
      counted = known.counted n.call.purpose.lane
          ∙ known-only n.call.purpose.lane old.lanes own.at (Busy own.machine) own.there
          (λ k l here same. apart k own.at l (record { number = n.call.purpose.lane; state = Busy own.machine }) here own.there same)

      e : IsExpected machine_of unbegun setup E expected NoCall NoShelf NoStory (no-laws machine_of setup E) h n.call.purpose.lane n.xid n.call own.machine
      e = ((reached-good machine_of unbegun setup E expected NoCall NoShelf NoStory (no-laws machine_of setup E) h old r).each own.at
          (record { number = n.call.purpose.lane; state = Busy own.machine }) own.there).0 n.xid n.call waits refl

  none-later : (h : List Entry) (e : Entry) (i : ℕ) → i < length h → NoneYet h i → NoneYet (h ++ e ∷ []) i
  none-later h e i within none j lane line op at early = none j lane line op (At-back h (e ∷ []) j (Began lane line op) at (omega (arith, early, within))) early

  sent-now : (h : List Entry) (old : View) (e : Entry) (new : View) (bytes : List ℕ) → StepsTo machine_of h old e new → Reaches machine_of setup h old → e ≡ Sent bytes
      → SentFor (h ++ e ∷ []) (length h) bytes
  sent-now h old (Sent given) new bytes t r is =
      let same : given ≡ bytes = sent-bytes given bytes is in
      subst (λ (b : List ℕ). SentFor (h ++ Sent given ∷ []) (length h) b) same (sent-for old.lost h old given new refl t r)
    where
      sent-bytes : (a b : List ℕ) → Sent a ≡ Sent b → a ≡ b
      sent-bytes a b q = cc
  sent-now h old (Began lane line op) new bytes t r is = absurd (cc)
  sent-now h old (Answered lane line answer) new bytes t r is = absurd (cc)
  sent-now h old (Delivered rec) new bytes t r is = absurd (cc)
  sent-now h old Failed new bytes t r is = absurd (cc)
  sent-now h old (Dialed port) new bytes t r is = absurd (cc)
  sent-now h old (Executed xid call reply) new bytes t r is = absurd (cc)
  sent-now h old (Foreign call reply) new bytes t r is = absurd (cc)
  sent-now h old (Flushed file from len) new bytes t r is = absurd (cc)
  sent-now h old (Reboot verf) new bytes t r is = absurd (cc)
  sent-now h old (Clock ms) new bytes t r is = absurd (cc)

  -- each record was sent before any operation began, or for one
  pub reached-sent : (h : List Entry) (v : View) → Reaches machine_of setup h v → (i : ℕ) (bytes : List ℕ) → At h i (Sent bytes) → NoneYet h i ⊎ SentFor h i bytes
  reached-sent _ _ (begins h v may up fresh) i bytes at = inl (λ j lane line op began early. up.unbegun j lane line op began)
  reached-sent _ _ (goes h before v b e r is t) i bytes at =
      subst (λ (k : List Entry). NoneYet k i ⊎ SentFor k i bytes) (sym is)
      (by (At-cases before e i (Sent bytes) (subst (λ (k : List Entry). At k i (Sent bytes)) is at)) (reached-sent before b r i bytes))
    where
      by : At before i (Sent bytes) ⊎ ((i ≡ length before) × (e ≡ Sent bytes)) → (At before i (Sent bytes) → NoneYet before i ⊎ SentFor before i bytes)
          → NoneYet (before ++ e ∷ []) i ⊎ SentFor (before ++ e ∷ []) i bytes
      by (inr now) early = inr (subst (λ (n : ℕ). SentFor (before ++ e ∷ []) n bytes) (sym now.0) (sent-now before b e v bytes t r now.1))
      by (inl there) early = elim (early there) [
        | inl none ↦ inl (none-later before e i (At-below before i (Sent bytes) there) none)
        | inr was ↦ inr (sent-later before e i bytes was)
      ]
  reached-sent _ _ (loses h v b r shown is) i bytes at = reached-sent h b r i bytes at
