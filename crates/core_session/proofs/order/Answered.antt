-- Each record of the core that was sent was answered, or its call waits.
use Rattle.core_session.proofs.Prelude.{◌≡◌, ◌<◌, ◌≤◌, ◌⊎◌, inl, inr, nat_eq, ℕ, Bool, true, false, List, [], ◌∷◌, ◌++◌, length, cond, Option, Some, None, refl, sym, ap, subst, ◌∙◌, arith, append_assoc, eqb-true, Waiting, failed_after, next_xid, made_call, waiting_at, without, at_made, at_sent, others_made, others_taken, Entry, Began, Answered, Dialed, Sent, Executed, Foreign, Flushed, Reboot, Delivered, Failed, Clock, Call, Op, At, HasXid, proc_of, At-grow, At-below, At-back, At-cases, At-last, length_last, Machine, Purpose, Setup, SendsIf, record_of, counted, View, turn_at, StepsTo, Reaches, begins, goes, loses, last_reading, Heard, dropped, replied, SentNow, sent_now, FailedNow, goes_on, gives_up, failed_now, answered_now, taken_one, Rows, rows-stay, same-rows, taken-rows, rows-grow, silent-grow, taken-quiet, not-sent, reached-rows, Stays, HeardBefore}
use Rattle.rpc_retry.specs.Waiting.{sent, sent_call, failed, failed_call}
use Rattle.core_facts.proofs.Cases.{heard}
use Rattle.core_facts.proofs.Rows.{under}
use Rattle.core_facts.proofs.Walks.{begins-stay, hears-for-stay}

-- ---- sendings and failures leave the calls that wait

abbrev pub Waits : ℕ → List (ℕ × Waiting Purpose) → Type 0
Waits xid es = (call : Waiting Purpose) × (waiting_at xid es ≡ Some call)

sent-waits : (xid : ℕ) (es : List (ℕ × Waiting Purpose)) → Waits xid es → Waits xid (sent es)
sent-waits xid [] w = w
sent-waits xid (e ∷ es) w = by e.1.due (sent-waits xid es)
  where
    first : (b : Bool) (call : Waiting Purpose) → cond b (Some e.1) (waiting_at xid es) ≡ Some call → (k : Waiting Purpose) × (cond b (Some (sent_call e.1)) (waiting_at xid es) ≡ Some k)
    first true call is = (sent_call e.1, refl)
    first false call is = (call, is)

    rest : (b : Bool) (call : Waiting Purpose) → (Waits xid es → Waits xid (sent es)) → cond b (Some e.1) (waiting_at xid es) ≡ Some call
        → (k : Waiting Purpose) × (cond b (Some e.1) (waiting_at xid (sent es)) ≡ Some k)
    rest true call more is = (e.1, refl)
    rest false call more is = more (call, is)

    by : (due : Bool) → (Waits xid es → Waits xid (sent es)) → Waits xid (cond due ((e.0, sent_call e.1) ∷ es) (e ∷ sent es))
    by true more = first (nat_eq xid e.0) w.0 w.1
    by false more = rest (nat_eq xid e.0) w.0 more w.1

failed-waits : (again : Bool) (xid : ℕ) (es : List (ℕ × Waiting Purpose)) → Waits xid es → Waits xid (failed again es)
failed-waits again xid [] w = w
failed-waits again xid (e ∷ es) w = by (nat_eq xid e.0) w.0 (failed-waits again xid es) w.1
  where
    by : (b : Bool) (call : Waiting Purpose) → (Waits xid es → Waits xid (failed again es)) → cond b (Some e.1) (waiting_at xid es) ≡ Some call
        → (k : Waiting Purpose) × (cond b (Some (failed_call again e.1)) (waiting_at xid (failed again es)) ≡ Some k)
    by true call more is = (failed_call again e.1, refl)
    by false call more is = more (call, is)

-- ---- what is kept

module _ (setup : Setup) where
  -- each record under an xid of the core was answered, or its call waits
  abbrev pub AllHeard : List Entry → View → Type 0
  AllHeard h v = (i xid : ℕ) (bytes : List ℕ) → At h i (Sent bytes) → HasXid bytes xid → setup.first_xid ≤ xid → HeardBefore h xid (length h) ⊎ Waits xid v.calls.calls

  heard-later : (h : List Entry) (e : Entry) (xid : ℕ) → HeardBefore h xid (length h) → HeardBefore (h ++ e ∷ []) xid (length (h ++ e ∷ []))
  heard-later h e xid w =
      let more = length_last h e in
      let early = w.before in
      record { at = w.at; bytes = w.bytes; got = At-grow h (e ∷ []) w.at (Delivered w.bytes) w.got; under = w.under; before = omega (arith, more, early) }

  -- an entry that isn't of a record that was sent
  all-later : (h : List Entry) (e : Entry) (v : View) → ((bytes : List ℕ) → e ≡ Sent bytes → ⊥) → AllHeard h v → AllHeard (h ++ e ∷ []) v
  all-later h e v silent all i xid bytes at has low = by (At-cases h e i (Sent bytes) at)
    where
      of : HeardBefore h xid (length h) ⊎ Waits xid v.calls.calls → HeardBefore (h ++ e ∷ []) xid (length (h ++ e ∷ [])) ⊎ Waits xid v.calls.calls
      of (inl w) = inl (heard-later h e xid w)
      of (inr w) = inr w

      by : At h i (Sent bytes) ⊎ ((i ≡ length h) × (e ≡ Sent bytes)) → HeardBefore (h ++ e ∷ []) xid (length (h ++ e ∷ [])) ⊎ Waits xid v.calls.calls
      by (inl there) = of (all i xid bytes there has low)
      by (inr here) = absurd (silent bytes here.1)

  -- calls that wait go on waiting
  kept-waiting : (h : List Entry) (old new : View) → ((xid : ℕ) → Waits xid old.calls.calls → Waits xid new.calls.calls) → AllHeard h old → AllHeard h new
  kept-waiting h old new keeps all i xid bytes at has low = by (all i xid bytes at has low)
    where
      by : HeardBefore h xid (length h) ⊎ Waits xid old.calls.calls → HeardBefore h xid (length h) ⊎ Waits xid new.calls.calls
      by (inl w) = inl w
      by (inr w) = inr (keeps xid w)

  -- ---- each step

  record Heeds (h : List Entry) (v : View) : Type 0 where
    pub rows : Rows setup h v
    pub all : AllHeard h v

  made-waits : (h : List Entry) (old : View) (number : ℕ) (call : Call) (args : List ℕ) → Rows setup h old → (xid : ℕ) → Waits xid old.calls.calls
      → Waits xid (old.calls.calls ++ (next_xid old.calls, made_call (record_of old call args) (record { lane = number; proc = proc_of call; sent = turn_at old })) ∷ [])
  made-waits h old number call args r xid w = by (nat_eq xid next) refl
    where
      next : ℕ
      next = next_xid old.calls

      row : Waiting Purpose
      row = made_call (record_of old call args) (record { lane = number; proc = proc_of call; sent = turn_at old })

      by : (b : Bool) → nat_eq xid next ≡ b → Waits xid (old.calls.calls ++ (next, row) ∷ [])
      by true d = (row, at_made old.calls.cred old.calls.first_xid next xid next old.calls.calls row r.sound.calls.each (eqb-true xid next d) refl)
      by false d = (w.0, others_made xid next old.calls.calls row d ∙ w.1)

  heeds-stays : (h : List Entry) → Stays (Heeds h)
  heeds-stays h = record {
    makes = λ old new number call m t. subst (Heeds h) (sym m.is) (record {
      rows = subst (Rows setup h) m.is ((rows-stay setup h).makes old new number call m t.rows);
      all = λ i xid bytes at has low. made old number call m.args t xid (t.all i xid bytes at has low);
    });
    sets = λ old at number was state shelf there t. record { rows = (rows-stay setup h).sets old at number was state shelf there t.rows; all = t.all };
  }
    where
      made : (old : View) (number : ℕ) (call : Call) (args : List ℕ) → Heeds h old → (xid : ℕ) → HeardBefore h xid (length h) ⊎ Waits xid old.calls.calls
          → HeardBefore h xid (length h)
          ⊎ Waits xid (old.calls.calls ++ (next_xid old.calls, made_call (record_of old call args) (record { lane = number; proc = proc_of call; sent = turn_at old })) ∷ [])
      made old number call args t xid (inl w) = inl w
      made old number call args t xid (inr w) = inr (made-waits h old number call args t.rows xid w)

  -- the call that is answered
  taken-heard : (h : List Entry) (old : View) (rec : List ℕ) (xid : ℕ) → HasXid rec xid → AllHeard (h ++ Delivered rec ∷ []) old → AllHeard (h ++ Delivered rec ∷ []) (taken_one old xid)
  taken-heard h old rec xid named all i x bytes at has low = by (nat_eq x xid) refl (all i x bytes at has low)
    where
      by : (b : Bool) → nat_eq x xid ≡ b → HeardBefore (h ++ Delivered rec ∷ []) x (length (h ++ Delivered rec ∷ [])) ⊎ Waits x old.calls.calls
          → HeardBefore (h ++ Delivered rec ∷ []) x (length (h ++ Delivered rec ∷ [])) ⊎ Waits x (without xid old.calls.calls)
      by b d (inl w) = inl w
      by true d (inr w) =
          let more = length_last h (Delivered rec) in
          inl (record { at = length h; bytes = rec; got = At-last h (Delivered rec); under = subst (HasXid rec) (sym (eqb-true x xid d)) named; before = omega (arith, more) })
      by false d (inr w) = inr (w.0, others_taken x xid old.calls.calls d ∙ w.1)

  came-not : (rec bytes : List ℕ) → Delivered rec ≡ Sent bytes → ⊥
  came-not rec bytes e = cc

  heard-heeds : (h : List Entry) (old : View) (rec : List ℕ) (new : View) → Heard old rec new → Rows setup h old → AllHeard h old → AllHeard (h ++ Delivered rec ∷ []) new
  heard-heeds h old rec new (dropped none is) r all = subst (AllHeard (h ++ Delivered rec ∷ [])) (sym is) (all-later h (Delivered rec) old (came-not rec) all)
  heard-heeds h old rec new (replied xid call named waits f) r all =
      (hears-for-stay (Heeds (h ++ Delivered rec ∷ [])) (heeds-stays (h ++ Delivered rec ∷ [])) (taken_one old xid) new rec call.purpose f (record {
        rows = rows-grow setup h (Delivered rec) (taken_one old xid) (taken-quiet setup h old rec xid r named) (not-sent rec) (taken-rows setup h old xid r);
        all = taken-heard h old rec xid named (all-later h (Delivered rec) old (came-not rec) all);
      })).all

  failed-heeds : (h : List Entry) (old new : View) → FailedNow old new → AllHeard h old → AllHeard h new
  failed-heeds h old new (goes_on none is) all =
      kept-waiting h old new
      (λ xid w.
      subst (λ (v : View). Waits xid v.calls.calls) (sym is)
      (subst (λ (o : Option ℕ). Waits xid (failed_after o old.calls.calls)) (sym none) (failed-waits true xid old.calls.calls w))) all
  failed-heeds h old new (gives_up given up is) all =
      kept-waiting h old new
      (λ xid w.
      subst (λ (v : View). Waits xid v.calls.calls) (sym is)
      (subst (λ (o : Option ℕ). Waits xid (failed_after o old.calls.calls)) (sym up) (failed-waits false xid old.calls.calls w))) all

  -- the record that is sent waits
  sent-heeds : (h : List Entry) (old : View) (bytes : List ℕ) (new : View) → SentNow old bytes new → Rows setup h old → AllHeard h old → AllHeard (h ++ Sent bytes ∷ []) new
  sent-heeds h old bytes new n r all i xid b at has low = by (At-cases h (Sent bytes) i (Sent b) at)
    where
      still : (x : ℕ) → Waits x old.calls.calls → Waits x new.calls.calls
      still x w = subst (λ (v : View). Waits x v.calls.calls) (sym n.is) (sent-waits x old.calls.calls w)

      waits : waiting_at n.xid old.calls.calls ≡ Some n.call
      waits = (at_sent old.calls.cred old.calls.first_xid (next_xid old.calls) n.xid old.calls.calls n.call r.sound.calls.each n.due).before

      some-xid : (x y : ℕ) → HasXid b x → HasXid b y → x ≡ y
      some-xid x y p q = let same : Some x ≡ Some y = sym p ∙ q in cc

      same-bytes : (x y : List ℕ) → Sent x ≡ Sent y → x ≡ y
      same-bytes x y e = cc

      of : HeardBefore h xid (length h) ⊎ Waits xid old.calls.calls → HeardBefore (h ++ Sent bytes ∷ []) xid (length (h ++ Sent bytes ∷ [])) ⊎ Waits xid new.calls.calls
      of (inl w) = inl (heard-later h (Sent bytes) xid w)
      of (inr w) = inr (still xid w)

      by : At h i (Sent b) ⊎ ((i ≡ length h) × (Sent bytes ≡ Sent b)) → HeardBefore (h ++ Sent bytes ∷ []) xid (length (h ++ Sent bytes ∷ [])) ⊎ Waits xid new.calls.calls
      by (inl there) = of (all i xid b there has low)
      by (inr here) =
          let own : HasXid b n.xid =
          subst (λ (c : List ℕ). HasXid c n.xid) (sym n.bytes_is ∙ same-bytes bytes b here.1) (under setup old n.xid n.call r.sound waits) in
          inr (still xid (subst (λ (x : ℕ). Waits x old.calls.calls) (some-xid n.xid xid own has) (n.call, waits)))

  same-heeds : (h : List Entry) (e : Entry) (old new : View) → ((bytes : List ℕ) → e ≡ Sent bytes → ⊥) → new ≡ old → AllHeard h old → AllHeard (h ++ e ∷ []) new
  same-heeds h e old new silent is all = subst (AllHeard (h ++ e ∷ [])) (sym is) (all-later h e old silent all)

  heeds-step : (machine_of : ℕ → Op → Machine) (h : List Entry) (old : View) (e : Entry) (new : View) → StepsTo machine_of h old e new → Rows setup h old → AllHeard h old
      → AllHeard (h ++ e ∷ []) new
  heeds-step machine_of h old (Began lane line op) new s r all =
      (begins-stay (Heeds later) (heeds-stays later) old new lane (machine_of lane op) (last_reading 0 h)
      (λ state shelf. record {
        rows = same-rows setup later old (record (counted old (last_reading 0 h)) { lanes = old.lanes ++ record { number = lane; state = state } ∷ []; shelf = shelf }) refl
            (silent-grow setup h (Began lane line op) old (record { sent = λ bytes is. cc; came = λ bytes is. cc }) r);
        all = all-later h (Began lane line op) old (λ bytes is. cc) all;
      }) s.step).all
    where
      later : List Entry
      later = h ++ Began lane line op ∷ []
  heeds-step machine_of h old (Answered lane line answer) new s r all =
      let a = answered_now old lane answer new s.answers in
      kept-waiting (h ++ Answered lane line answer ∷ []) old new (λ xid w. subst (λ (v : View). Waits xid v.calls.calls) (sym a.is.is) w)
      (all-later h (Answered lane line answer) old (λ bytes is. cc) all)
  heeds-step machine_of h old (Sent bytes) new s r all = sent-heeds h old bytes new (sent_now old bytes new s) r all
  heeds-step machine_of h old (Delivered bytes) new s r all = heard-heeds h old bytes new (heard old bytes s.result new s.hears) r all
  heeds-step machine_of h old Failed new (inl s) r all = failed-heeds (h ++ Failed ∷ []) old new (failed_now old s.0 new s.1) (all-later h Failed old (λ bytes is. cc) all)
  heeds-step machine_of h old Failed new (inr s) r all = same-heeds h Failed old new (λ bytes is. cc) s all
  heeds-step machine_of h old (Dialed port) new s r all = same-heeds h (Dialed port) old new (λ bytes is. cc) s all
  heeds-step machine_of h old (Executed xid call reply) new s r all = same-heeds h (Executed xid call reply) old new (λ bytes is. cc) s all
  heeds-step machine_of h old (Foreign call reply) new s r all = same-heeds h (Foreign call reply) old new (λ bytes is. cc) s all
  heeds-step machine_of h old (Flushed file from len) new s r all = same-heeds h (Flushed file from len) old new (λ bytes is. cc) s all
  heeds-step machine_of h old (Reboot verf) new s r all = same-heeds h (Reboot verf) old new (λ bytes is. cc) s all
  heeds-step machine_of h old (Clock ms) new s r all = same-heeds h (Clock ms) old new (λ bytes is. cc) s all

  pub reached-heeds : (machine_of : ℕ → Op → Machine) (h : List Entry) (v : View) → Reaches machine_of setup h v → AllHeard h v
  reached-heeds machine_of _ _ (begins h v may up fresh) = λ i xid bytes at has low. let below = up.below i xid bytes at has in absurd (omega (arith, low, below))
  reached-heeds machine_of _ _ (goes h before v b e r is t) =
      subst (λ (k : List Entry). AllHeard k v) (sym is) (heeds-step machine_of before b e v t (reached-rows machine_of setup before b r) (reached-heeds machine_of before b r))
  reached-heeds machine_of _ _ (loses h v b r shown is) =
      kept-waiting h b v (λ xid w. subst (λ (z : View). Waits xid z.calls.calls) (sym is) w) (reached-heeds machine_of h b r)

  -- ---- the view before a record is sent

  -- The record at a place is that of a call that waits in the view before it, in a session that isn't lost.
  pub record SentOf (machine_of : ℕ → Op → Machine) (h : List Entry) (i : ℕ) (bytes : List ℕ) : Type 0 where
    pub before : List Entry
    pub after : List Entry
    pub is : h ≡ before ++ after
    pub there : length before ≡ i
    pub old : View
    pub reached : Reaches machine_of setup before old
    pub found : old.lost ≡ false
    pub xid : ℕ
    pub call : Waiting Purpose
    pub waits : waiting_at xid old.calls.calls ≡ Some call
    pub bytes_is : bytes ≡ call.bytes
    pub under_xid : HasXid bytes xid

  abbrev pub NoneYet : List Entry → ℕ → Type 0
  NoneYet h i = (j lane line : ℕ) (op : Op) → At h j (Began lane line op) → j < i → ⊥

  sending-later : (machine_of : ℕ → Op → Machine) (h : List Entry) (e : Entry) (i : ℕ) (bytes : List ℕ) → SentOf machine_of h i bytes → SentOf machine_of (h ++ e ∷ []) i bytes
  sending-later machine_of h e i bytes w = record {
    before = w.before;
    after = w.after ++ e ∷ [];
    is = ap (λ (k : List Entry). k ++ e ∷ []) w.is ∙ append_assoc w.before w.after (e ∷ []);
    there = w.there;
    old = w.old;
    reached = w.reached;
    found = w.found;
    xid = w.xid;
    call = w.call;
    waits = w.waits;
    bytes_is = w.bytes_is;
    under_xid = w.under_xid;
  }

  sending-of : (machine_of : ℕ → Op → Machine) (b : Bool) (h : List Entry) (old : View) (bytes : List ℕ) (new : View) → old.lost ≡ b → SendsIf b old (Some bytes) new
      → Reaches machine_of setup h old → SentOf machine_of (h ++ Sent bytes ∷ []) (length h) bytes
  sending-of machine_of true h old bytes new was t r = absurd (let no_way : Some bytes ≡ None = t.0 in cc)
  sending-of machine_of false h old bytes new was t r = record {
    before = h;
    after = Sent bytes ∷ [];
    is = refl;
    there = refl;
    old = old;
    reached = r;
    found = was;
    xid = n.xid;
    call = n.call;
    waits = waits;
    bytes_is = n.bytes_is;
    under_xid = subst (λ (c : List ℕ). HasXid c n.xid) (sym n.bytes_is) (under setup old n.xid n.call rows.sound waits);
  }
    where
      n : SentNow old bytes new
      n = sent_now old bytes new (subst (λ (c : Bool). SendsIf c old (Some bytes) new) (sym was) t)

      rows : Rows setup h old
      rows = reached-rows machine_of setup h old r

      waits : waiting_at n.xid old.calls.calls ≡ Some n.call
      waits = (at_sent old.calls.cred old.calls.first_xid (next_xid old.calls) n.xid old.calls.calls n.call rows.sound.calls.each n.due).before

  none-later : (h : List Entry) (e : Entry) (i : ℕ) → i < length h → NoneYet h i → NoneYet (h ++ e ∷ []) i
  none-later h e i within none j lane line op at early = none j lane line op (At-back h (e ∷ []) j (Began lane line op) at (omega (arith, early, within))) early

  sending-now : (machine_of : ℕ → Op → Machine) (h : List Entry) (old : View) (e : Entry) (new : View) (bytes : List ℕ) → StepsTo machine_of h old e new → Reaches machine_of setup h old
      → e ≡ Sent bytes → SentOf machine_of (h ++ e ∷ []) (length h) bytes
  sending-now machine_of h old (Sent given) new bytes t r is =
      subst (λ (b : List ℕ). SentOf machine_of (h ++ Sent given ∷ []) (length h) b) (same given bytes is) (sending-of machine_of old.lost h old given new refl t r)
    where
      same : (a b : List ℕ) → Sent a ≡ Sent b → a ≡ b
      same a b q = cc
  sending-now machine_of h old (Began lane line op) new bytes t r is = absurd (cc)
  sending-now machine_of h old (Answered lane line answer) new bytes t r is = absurd (cc)
  sending-now machine_of h old (Delivered rec) new bytes t r is = absurd (cc)
  sending-now machine_of h old Failed new bytes t r is = absurd (cc)
  sending-now machine_of h old (Dialed port) new bytes t r is = absurd (cc)
  sending-now machine_of h old (Executed xid call reply) new bytes t r is = absurd (cc)
  sending-now machine_of h old (Foreign call reply) new bytes t r is = absurd (cc)
  sending-now machine_of h old (Flushed file from len) new bytes t r is = absurd (cc)
  sending-now machine_of h old (Reboot verf) new bytes t r is = absurd (cc)
  sending-now machine_of h old (Clock ms) new bytes t r is = absurd (cc)

  pub reached-sending : (machine_of : ℕ → Op → Machine) (h : List Entry) (v : View) → Reaches machine_of setup h v → (i : ℕ) (bytes : List ℕ) → At h i (Sent bytes)
      → NoneYet h i ⊎ SentOf machine_of h i bytes
  reached-sending machine_of _ _ (begins h v may up fresh) i bytes at = inl (λ j lane line op began early. up.unbegun j lane line op began)
  reached-sending machine_of _ _ (goes h before v b e r is t) i bytes at =
      subst (λ (k : List Entry). NoneYet k i ⊎ SentOf machine_of k i bytes) (sym is)
      (by (At-cases before e i (Sent bytes) (subst (λ (k : List Entry). At k i (Sent bytes)) is at)) (reached-sending machine_of before b r i bytes))
    where
      by : At before i (Sent bytes) ⊎ ((i ≡ length before) × (e ≡ Sent bytes)) → (At before i (Sent bytes) → NoneYet before i ⊎ SentOf machine_of before i bytes)
          → NoneYet (before ++ e ∷ []) i ⊎ SentOf machine_of (before ++ e ∷ []) i bytes
      by (inr now) early = inr (subst (λ (n : ℕ). SentOf machine_of (before ++ e ∷ []) n bytes) (sym now.0) (sending-now machine_of before b e v bytes t r now.1))
      by (inl there) early = elim (early there) [
        | inl none ↦ inl (none-later before e i (At-below before i (Sent bytes) there) none)
        | inr was ↦ inr (sending-later machine_of before e i bytes was)
      ]
  reached-sending machine_of _ _ (loses h v b r shown is) i bytes at = reached-sending machine_of h b r i bytes at
