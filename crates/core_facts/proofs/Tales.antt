-- What the steps of operations keep along a history, of the shelf, of each call that waits and of each operation under way, holds of each
-- record that is sent and of each answer. It is an instance of the engine in `Telling`.
use Rattle.core_facts.proofs.Answered.{HadStory}
use Rattle.core_facts.proofs.Prelude.{Says, IsFresh, View, Purpose, State, Busy, Over, Setup, Step, Shelf, Turn, in_flight, IsUnbegun, IsSetUp, StepsTo, Reaches, begins, goes, loses, Starts, Resumes, Takes, Machine, next_xid, waiting_at, Waiting, ◌≡◌, ◌<◌, ◌+◌, ◌⊎◌, inl, inr, ℕ, List, [], ◌∷◌, ◌++◌, length, Bool, true, false, Some, None, Result, Ok, Err, refl, sym, ap, subst, ◌∙◌, arith, append_assoc, At-below, At-back, At-cases, At, Asked, IsLost, SpellsReply, Ended, UnderWay, EndsWith, Answer, Refused, Fault, Entry, Began, Answered, Dialed, Sent, Executed, Foreign, Flushed, Reboot, Delivered, Failed, Clock, Call, Reply, Op}
use Rattle.world_model.specs.Messages.{SpellsCallBy}
use Rattle.client_core.specs.Steps.{SendsIf}
use Rattle.core_facts.proofs.Cases.{heard, SentNow, sent_now}
use Rattle.core_facts.proofs.Expects.{ExpectLaws}
use Rattle.core_facts.proofs.Owning.{reached-owned}
use Rattle.core_facts.proofs.Passing.{Anything, passes-any}
use Rattle.core_facts.proofs.Rows.{reached-rows}
use Rattle.core_facts.proofs.Stories.{Always}
use Rattle.core_facts.proofs.Telling.{IsQuiet, Did, Sight, IsToldOf, IsUnmadeFault, CameOf, heard_of, unmade, TellLaws}
use Rattle.core_facts.specs.Counted.{IsOfOperation}
use Rattle.rpc_retry.proofs.Lookups.{at_sent}
use Rattle.world_model.specs.Heard.{Refused as WasRefused, Refuses as IsRefusal, Heard as IsHeard}
use Rattle.world_model.specs.declared.answer.Fault.TheVariants as faults
use Rattle.core_facts.proofs.Telling as telling

-- why no reply came of a call: a record refused it so, or it wasn't made
abbrev pub IsWhy : List Entry → ℕ → Call → Fault → Type 0
IsWhy h x call (faults.Nfs n) = WasRefused h x (length h) call (faults.Nfs n)
IsWhy h x call (faults.Rpc n) = WasRefused h x (length h) call (faults.Rpc n)
IsWhy h x call (faults.Bad n) = WasRefused h x (length h) call (faults.Bad n)
IsWhy h x call faults.Spent = Unit {0}
IsWhy h x call faults.Memory = Unit {0}
IsWhy h x call fault = ⊥

-- a reply to the call, the last record that came
pub record IsLastReply (h : List Entry) (x : ℕ) (call : Call) (reply : Reply) : Type 0 where
  pub asked : Asked h x (length h) call reply
  pub ends : EndsWith h x (length h) call reply

-- What came of a call that the machine waited for.
pub record IsTold (E : Machine → Call → Type 0) (W : List Entry → ℕ → Op → Call → Type 0) (h : List Entry) (x : ℕ) (op : Op) (machine : Machine) (came : Result Reply Fault) : Type 0 where
  pub call : Call
  pub expects : E machine call
  pub asks : W h x op call
  pub heard : (reply : Reply) → came ≡ Ok reply → IsLastReply h x call reply
  pub refused : (fault : Fault) → came ≡ Err fault → IsWhy h x call fault

-- Facts of the shelf, of a call that waits and of an operation, which began at a place, that steps keep, and entries.
pub record TaleLaws (machine_of : ℕ → Op → Machine) (setup : Setup) (E : Machine → Call → Type 0) (W : List Entry → ℕ → Op → Call → Type 0) (I : List Entry → Shelf → Type 0)
    (S : List Entry → ℕ → Op → State → Type 0) : Type 0 where
  pub fresh : (h : List Entry) (v : View) → IsSetUp setup h → IsFresh setup v → I h v.shelf
  pub starts : (h : List Entry) (lane line : ℕ) (op : Op) (wsize : ℕ) (turn : Turn) (old : Shelf) (next : Step) (new : Machine) (after : Shelf)
      → I (h ++ Began lane line op ∷ []) old → Starts wsize (machine_of lane op) turn old next new after → Did W I S (h ++ Began lane line op ∷ []) (length h) op next new after
  pub resumes : (h : List Entry) (x : ℕ) (op : Op) (machine : Machine) (wsize : ℕ) (turn : Turn) (old : Shelf) (next : Step) (new : Machine) (after : Shelf)
      → I h old → S h x op (Busy machine) → Resumes wsize machine turn old next new after → Did W I S h x op next new after
  pub takes : (h : List Entry) (x : ℕ) (op : Op) (machine : Machine) (wsize : ℕ) (sent turn : Turn) (came : Result Reply Fault) (old : Shelf) (next : Step) (new : Machine)
      (after : Shelf) (others : ℕ) → I h old → S h x op (Busy machine) → in_flight machine ≡ others + 1 → IsTold E W h x op machine came
      → Takes wsize machine sent turn came old next new after → Did W I S h x op next new after
  pub still : (h : List Entry) (e : Entry) (shelf : Shelf) → I h shelf → I (h ++ e ∷ []) shelf
  pub waits : (h : List Entry) (e : Entry) (x : ℕ) (op : Op) (call : Call) → W h x op call → W (h ++ e ∷ []) x op call
  pub grows : (h : List Entry) (e : Entry) (x : ℕ) (op : Op) (state : State) → IsQuiet state e → S h x op state → S (h ++ e ∷ []) x op state
  pub lost : (h : List Entry) (x : ℕ) (op : Op) → IsLost h (length h) → S h x op (Over (Refused faults.Lost))

-- ---- what came

pub err-fault : (a b : Fault) → ◌≡◌ {A = Result Reply Fault} (Err a) (Err b) → a ≡ b
err-fault a b e = cc

pub not-both : (came : Result Reply Fault) (fault : Fault) (reply : Reply) → came ≡ Err fault → came ≡ Ok reply → ⊥
not-both came fault reply is ok = let no_way : ◌≡◌ {A = Result Reply Fault} (Err fault) (Ok reply) = sym is ∙ ok in cc

pub why-unmade : (h : List Entry) (x : ℕ) (call : Call) (fault : Fault) → IsUnmadeFault fault → IsWhy h x call fault
why-unmade h x call faults.Spent u = tt
why-unmade h x call faults.Memory u = tt
why-unmade h x call faults.Lost u = absurd u
why-unmade h x call (faults.Nfs status) u = absurd u
why-unmade h x call (faults.Rpc n) u = absurd u
why-unmade h x call (faults.Bad rule) u = absurd u
why-unmade h x call faults.Slot u = absurd u
why-unmade h x call faults.Mode u = absurd u
why-unmade h x call faults.Kind u = absurd u
why-unmade h x call faults.Many u = absurd u

pub why-refused : (h : List Entry) (x xid : ℕ) (call : Call) (bytes : List ℕ) (fault : Fault) → IsHeard h x (length h) call xid bytes → IsRefusal xid call bytes fault → IsWhy h x call fault
why-refused h x xid call bytes (faults.Nfs status) d r = record { xid = xid; bytes = bytes; heard = d; refuses = r }
why-refused h x xid call bytes (faults.Rpc n) d r = record { xid = xid; bytes = bytes; heard = d; refuses = r }
why-refused h x xid call bytes (faults.Bad rule) d r = record { xid = xid; bytes = bytes; heard = d; refuses = r }
why-refused h x xid call bytes faults.Spent d r = tt
why-refused h x xid call bytes faults.Memory d r = tt
why-refused h x xid call bytes faults.Lost d r = absurd r
why-refused h x xid call bytes faults.Slot d r = absurd r
why-refused h x xid call bytes faults.Mode d r = absurd r
why-refused h x xid call bytes faults.Kind d r = absurd r
why-refused h x xid call bytes faults.Many d r = absurd r

-- so it is the last one
pub last-reply : (h : List Entry) (x xid : ℕ) (call : Call) (reply : Reply) (bytes : List ℕ) (d : IsHeard h x (length h) call xid bytes) → x < d.sent_at → d.got_at + 1 ≡ length h
    → SpellsReply xid call reply bytes → IsLastReply h x call reply
last-reply h x xid call reply bytes d since end spells = record {
  asked = record { xid = xid; bytes = bytes; heard = d; spells = spells };
  ends = record {
    last = record {
      at = d.got_at;
      bytes = bytes;
      xid = xid;
      sent_at = d.sent_at;
      record_sent = d.record_sent;
      got = d.got.got;
      before = d.before;
      last = λ j b at within. omega (arith, end, within);
      under = d.got.under;
      sent = d.sent;
      spells = d.spells;
      asked = d.later;
    };
    within = since;
    waits = d.got.waits;
    spells = spells;
  };
}

-- nothing is asked of the calls
abbrev pub NoSight : Sight
NoSight h x op machine from sent turn call shelf = Unit {0}

module _ (Q : Sight) (E : Machine → Call → Type 0) (W : List Entry → ℕ → Op → Call → Type 0) (h : List Entry) (x : ℕ) (op : Op) (machine : Machine) (sent turn : Turn) (came : Result Reply Fault)
    (shelf : Shelf) where
  -- what was heard, and that a call wasn't made, as a tale knows them
  abbrev pub told-heard : IsToldOf Q E W h x op machine sent turn came shelf → IsTold E W h x op machine came
  told-heard t = record {
    call = t.call;
    expects = t.expects;
    asks = t.asks;
    heard = λ reply is. last-reply h x t.now.xid t.call reply t.now.rec t.now.heard t.now.since t.now.end ((subst (Says t.now.xid t.call t.now.rec) is t.now.says).is);
    refused = λ fault is. why-refused h x t.now.xid t.call t.now.rec fault t.now.heard (subst (Says t.now.xid t.call t.now.rec) is t.now.says);
  }

  abbrev pub told-unmade : (call : Call) → E machine call → (fault : Fault) → came ≡ Err fault → IsUnmadeFault fault → W h x op call → IsTold E W h x op machine came
  told-unmade call e fault is u w = record {
    call = call;
    expects = e;
    asks = w;
    heard = λ reply ok. absurd (not-both came fault reply is ok);
    refused = λ other no. subst (IsWhy h x call) (err-fault fault other (sym is ∙ no)) (why-unmade h x call fault u);
  }

  pub told-came : CameOf Q E W h x op machine sent turn came shelf → IsTold E W h x op machine came
  told-came (heard_of t) = told-heard t
  told-came (unmade call e fault is u w) = told-unmade call e fault is u w

module _ (machine_of : ℕ → Op → Machine) (unbegun : (lane : ℕ) (op : Op) → IsUnbegun (machine_of lane op)) (setup : Setup) (E : Machine → Call → Type 0) (expected : ExpectLaws E)
    (W : List Entry → ℕ → Op → Call → Type 0) (I : List Entry → Shelf → Type 0) (S : List Entry → ℕ → Op → State → Type 0) (laws : TaleLaws machine_of setup E W I S) where
  pub tell-laws : TellLaws Always NoSight machine_of setup E W I S
  tell-laws = record {
    fresh = laws.fresh;
    starts = λ h lane line op wsize turn old next new after p. laws.starts h lane line op wsize turn old next new after;
    resumes = laws.resumes;
    takes = λ h x op machine wsize sent turn came old next new after others shelf state count told.
        laws.takes h x op machine wsize sent turn came old next new after others shelf state count (told-came NoSight E W h x op machine sent turn came old told);
    still = laws.still;
    waits = laws.waits;
    grows = laws.grows;
    lost = laws.lost;
  }

  -- The call that waits is one that the machine expects.
  abbrev pub IsExpected : List Entry → ℕ → ℕ → Waiting Purpose → Machine → Type 0
  IsExpected = telling.IsExpected machine_of unbegun setup Anything Always (λ h v r found lane other. tt) NoSight S (λ h v p found may xid w waits made at machine there x op u from out story rec. tt) E expected W I
      tell-laws

  abbrev pub AllGood : List Entry → View → Type 0
  AllGood = telling.AllGoodBy machine_of unbegun setup Anything Always (λ h v r found lane other. tt) NoSight S (λ h v p found may xid w waits made at machine there x op u from out story rec. tt) E expected W I
      tell-laws

  pub reached-good : (h : List Entry) (v : View) → Reaches machine_of setup h v → AllGood h v
  reached-good h v r = telling.reached-good-by machine_of unbegun setup Anything Always (λ h v r found lane other. tt) NoSight S (λ h v p found may xid w waits made at machine there x op u from out story rec. tt) E expected W I
      tell-laws h v (passes-any machine_of setup h v r)

  pub reached-answered : (h : List Entry) (v : View) → Reaches machine_of setup h v → (lane x : ℕ) (op : Op) (y : ℕ) (answer : Answer) → Ended h lane x op y answer
      → HadStory (λ k z o b. S k z o (Over b)) h x op y answer
  reached-answered h v r = telling.reached-answered-by machine_of unbegun setup Anything Always (λ h v r found lane other. tt) NoSight S (λ h v p found may xid w waits made at machine there x op u from out story rec. tt) E expected W I
      tell-laws h v (passes-any machine_of setup h v r)

  -- ---- records that were sent

  -- The record at a place was sent for an operation that is under way, and spells a call of which W holds.
  pub record WasAsked (h : List Entry) (i : ℕ) (bytes : List ℕ) : Type 0 where
    pub before : List Entry
    pub after : List Entry
    pub is : h ≡ before ++ after
    pub there : length before ≡ i
    pub xid : ℕ
    pub call : Call
    pub made : SpellsCallBy setup.cred xid call bytes
    pub lane : ℕ
    pub x : ℕ
    pub op : Op
    pub under_way : UnderWay before lane x (length before) op
    pub asks : W before x op call

  -- no operation began before the place
  abbrev pub NoneYet : List Entry → ℕ → Type 0
  NoneYet h i = (j lane line : ℕ) (op : Op) → At h j (Began lane line op) → j < i → ⊥

  asked-later : (h : List Entry) (e : Entry) (i : ℕ) (bytes : List ℕ) → WasAsked h i bytes → WasAsked (h ++ e ∷ []) i bytes
  asked-later h e i bytes w = record {
    before = w.before;
    after = w.after ++ e ∷ [];
    is = ap (λ (k : List Entry). k ++ e ∷ []) w.is ∙ append_assoc w.before w.after (e ∷ []);
    there = w.there;
    xid = w.xid;
    call = w.call;
    made = w.made;
    lane = w.lane;
    x = w.x;
    op = w.op;
    under_way = w.under_way;
    asks = w.asks;
  }

  -- the record that is sent now
  sent-asked : (b : Bool) (h : List Entry) (old : View) (bytes : List ℕ) (new : View) → old.lost ≡ b → SendsIf b old (Some bytes) new → Reaches machine_of setup h old
      → WasAsked (h ++ Sent bytes ∷ []) (length h) bytes
  sent-asked true h old bytes new was t r = absurd (let no_way : Some bytes ≡ None = t.0 in cc)
  sent-asked false h old bytes new was t r = record {
    before = h;
    after = Sent bytes ∷ [];
    is = refl;
    there = refl;
    xid = n.xid;
    call = e.made.asked;
    made = subst (SpellsCallBy setup.cred n.xid e.made.asked) (sym n.bytes_is) e.made.spells;
    lane = n.call.purpose.lane;
    x = own.x;
    op = own.op;
    under_way = own.under_way;
    asks = e.asks own.x own.op own.under_way;
  }
    where
      n : SentNow old bytes new
      n = sent_now old bytes new (subst (λ (c : Bool). SendsIf c old (Some bytes) new) (sym was) t)

      waits : waiting_at n.xid old.calls.calls ≡ Some n.call
      waits = (at_sent old.calls.cred old.calls.first_xid (next_xid old.calls) n.xid old.calls.calls n.call (reached-rows machine_of setup h old r).sound.calls.each n.due).before

      own : IsOfOperation h old n.xid n.call
      own = (reached-owned machine_of unbegun setup h old r was).owned n.xid n.call waits

      e : IsExpected h n.call.purpose.lane n.xid n.call own.machine
      e = ((reached-good h old r).each own.at (record { number = n.call.purpose.lane; state = Busy own.machine }) own.there).0 n.xid n.call waits refl

  none-later : (h : List Entry) (e : Entry) (i : ℕ) → i < length h → NoneYet h i → NoneYet (h ++ e ∷ []) i
  none-later h e i within none j lane line op at early = none j lane line op (At-back h (e ∷ []) j (Began lane line op) at (omega (arith, early, within))) early

  asked-now : (h : List Entry) (old : View) (e : Entry) (new : View) (bytes : List ℕ) → StepsTo machine_of h old e new → Reaches machine_of setup h old → e ≡ Sent bytes
      → WasAsked (h ++ e ∷ []) (length h) bytes
  asked-now h old (Sent given) new bytes t r is =
      let same : given ≡ bytes = sent-bytes given bytes is in
      subst (λ (b : List ℕ). WasAsked (h ++ Sent given ∷ []) (length h) b) same (sent-asked old.lost h old given new refl t r)
    where
      sent-bytes : (a b : List ℕ) → Sent a ≡ Sent b → a ≡ b
      sent-bytes a b q = cc
  asked-now h old (Began lane line op) new bytes t r is = absurd (cc)
  asked-now h old (Answered lane line answer) new bytes t r is = absurd (cc)
  asked-now h old (Delivered rec) new bytes t r is = absurd (cc)
  asked-now h old Failed new bytes t r is = absurd (cc)
  asked-now h old (Dialed port) new bytes t r is = absurd (cc)
  asked-now h old (Executed xid call reply) new bytes t r is = absurd (cc)
  asked-now h old (Foreign call reply) new bytes t r is = absurd (cc)
  asked-now h old (Flushed file from len) new bytes t r is = absurd (cc)
  asked-now h old (Reboot verf) new bytes t r is = absurd (cc)
  asked-now h old (Clock ms) new bytes t r is = absurd (cc)

  -- each record was sent before any operation began, or for one
  pub reached-asked : (h : List Entry) (v : View) → Reaches machine_of setup h v → (i : ℕ) (bytes : List ℕ) → At h i (Sent bytes) → NoneYet h i ⊎ WasAsked h i bytes
  reached-asked _ _ (begins h v may up fresh) i bytes at = inl (λ j lane line op began early. up.unbegun j lane line op began)
  reached-asked _ _ (goes h before v b e r is t) i bytes at =
      subst (λ (k : List Entry). NoneYet k i ⊎ WasAsked k i bytes) (sym is)
      (by (At-cases before e i (Sent bytes) (subst (λ (k : List Entry). At k i (Sent bytes)) is at)) (reached-asked before b r i bytes))
    where
      by : At before i (Sent bytes) ⊎ ((i ≡ length before) × (e ≡ Sent bytes)) → (At before i (Sent bytes) → NoneYet before i ⊎ WasAsked before i bytes)
          → NoneYet (before ++ e ∷ []) i ⊎ WasAsked (before ++ e ∷ []) i bytes
      by (inr now) early = inr (subst (λ (n : ℕ). WasAsked (before ++ e ∷ []) n bytes) (sym now.0) (asked-now before b e v bytes t r now.1))
      by (inl there) early = elim (early there) [
        | inl none ↦ inl (none-later before e i (At-below before i (Sent bytes) there) none)
        | inr was ↦ inr (asked-later before e i bytes was)
      ]
  reached-asked _ _ (loses h v b r shown is) i bytes at = reached-asked h b r i bytes at
