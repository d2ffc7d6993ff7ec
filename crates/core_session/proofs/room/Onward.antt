-- From one view to a later one: what has entered stays so. And of each record that was sent, how the session went on from the view before it.
use Rattle.core_session.proofs.Prelude.{◌+◌, ◌≡◌, ◌<◌, ◌≤◌, ◌⊎◌, inl, inr, ℕ, List, [], ◌∷◌, ◌++◌, length, map, Bool, true, false, Some, None, slice_get, refl, sym, ap, subst, ◌∙◌, arith, append_assoc, next_xid, waiting_at, at_sent, waits_early, Entry, Began, Answered, Dialed, Sent, Executed, Foreign, Flushed, Reboot, Delivered, Failed, Clock, Op, NoneBegan, At, At-below, At-back, At-cases, Machine, Lane, Busy, Setup, lost_lane, SendsIf, View, calls_for, IsOfOperation, in_flight, IsUnbegun, StepsTo, Reaches, begins, goes, loses, last_reading, Heard, dropped, replied, SentNow, sent_now, FailedNow, goes_on, gives_up, failed_now, answered_now, taken_one, calls-some, known-only, lanes-under-way, reached-lanes, reached-owned, Rows, reached-rows}
use Rattle.client_core.specs.Steps.{lost}
use Rattle.core_facts.proofs.Cases.{heard}
use Rattle.core_facts.proofs.Counting.{IsKnown, reached-count}
use Rattle.rpc_retry.proofs.Records.{waits_late}
use Rattle.claims.specs.Asks.{Placed}
use Rattle.core_answers.proofs.asks.Limits.{reached-limit}
use Rattle.core_session.proofs.calls.Outgoing.{Outgoing}
use Rattle.core_session.proofs.room.Entered.{Safe, Entered, RefusedNow, silent-now, safe-stays, begins-stay, hears-for-stay, safe-push, safe-remove, safe-lost, answered-now-put, entered-with, entered-lanes, began-early, under-early}

-- ---- one step

module _ (machine_of : ℕ → Op → Machine) (setup : Setup) where
  -- the lanes are those that were
  same-now : (h : List Entry) (e : Entry) (lanes later : List Lane) (o : Placed) → RefusedNow h e o.0 → later ≡ lanes → Entered h lanes o → Entered (h ++ e ∷ []) later o
  same-now h e lanes later o now same w =
      subst (λ (ls : List Lane). Entered (h ++ e ∷ []) ls o) (sym same)
      (entered-with h e lanes lanes o w now (λ k lane there op u. w.safe k lane there op (under-early h e lane.number o.0 op (began-early h o w.began) u)))

  grown : (h : List Entry) (e : Entry) (lanes : List Lane) (o : Placed) → Entered h lanes o → Safe (h ++ e ∷ []) lanes o.0
  grown h e lanes o w k lane there op u = w.safe k lane there op (under-early h e lane.number o.0 op (began-early h o w.began) u)

  failed-safe : (h : List Entry) (old new : View) (x : ℕ) → FailedNow old new → Safe h old.lanes x → Safe h new.lanes x
  failed-safe h old new x (goes_on none is) s = subst (λ (v : View). Safe h v.lanes x) (sym is) s
  failed-safe h old new x (gives_up xid up is) s = subst (λ (v : View). Safe h v.lanes x) (sym is) (safe-lost h old.lanes x s)

  heard-safe : (h : List Entry) (old : View) (rec : List ℕ) (new : View) (x : ℕ) → Heard old rec new → Safe h old.lanes x → Safe h new.lanes x
  heard-safe h old rec new x (dropped none is) s = subst (λ (v : View). Safe h v.lanes x) (sym is) s
  heard-safe h old rec new x (replied xid call named waits t) s = hears-for-stay (λ (v : View). Safe h v.lanes x) (safe-stays h x) (taken_one old xid) new rec call.purpose t s

  pub entered-step : (h : List Entry) (old : View) (e : Entry) (new : View) (o : Placed) → StepsTo machine_of h old e new → Reaches machine_of setup h old → Entered h old.lanes o
      → Entered (h ++ e ∷ []) new.lanes o
  entered-step h old (Began lane line op) new o t r w =
      entered-with h (Began lane line op) old.lanes new.lanes o w (silent-now h (Began lane line op) o.0 (λ n l a is. cc))
      (begins-stay (λ (v : View). Safe (h ++ Began lane line op ∷ []) v.lanes o.0) (safe-stays (h ++ Began lane line op ∷ []) o.0) old new lane (machine_of lane op) (last_reading 0 h)
      (λ state shelf. safe-push h lane line op old.lanes o.0 state (began-early h o w.began)
      (λ p u. (lanes-under-way h old (reached-lanes machine_of setup h old r)).idle lane t.idle.other (record { x = o.0; op = p; under_way = u })) w.safe) t.step)
  entered-step h old (Answered lane line answer) new o t r w =
      let a = answered_now old lane answer new t.answers in
      entered-with h (Answered lane line answer) old.lanes new.lanes o w (answered-now-put h old new a.at lane line answer o.0 a.is w.safe)
      (subst (λ (v : View). Safe (h ++ Answered lane line answer ∷ []) v.lanes o.0) (sym a.is.is) (safe-remove h (Answered lane line answer) old.lanes a.at o.0 (began-early h o w.began) w.safe))
  entered-step h old (Sent bytes) new o t r w =
      let n = sent_now old bytes new t in
      same-now h (Sent bytes) old.lanes new.lanes o (silent-now h (Sent bytes) o.0 (λ n l a is. cc)) (ap (λ (v : View). v.lanes) n.is) w
  entered-step h old (Delivered bytes) new o t r w =
      entered-with h (Delivered bytes) old.lanes new.lanes o w (silent-now h (Delivered bytes) o.0 (λ n l a is. cc))
      (heard-safe (h ++ Delivered bytes ∷ []) old bytes new o.0 (heard old bytes t.result new t.hears) (grown h (Delivered bytes) old.lanes o w))
  entered-step h old Failed new o (inl t) r w =
      entered-with h Failed old.lanes new.lanes o w (silent-now h Failed o.0 (λ n l a is. cc))
      (failed-safe (h ++ Failed ∷ []) old new o.0 (failed_now old t.0 new t.1) (grown h Failed old.lanes o w))
  entered-step h old Failed new o (inr t) r w = same-now h Failed old.lanes new.lanes o (silent-now h Failed o.0 (λ n l a is. cc)) (ap (λ (v : View). v.lanes) t) w
  entered-step h old (Dialed port) new o t r w = same-now h (Dialed port) old.lanes new.lanes o (silent-now h (Dialed port) o.0 (λ n l a is. cc)) (ap (λ (v : View). v.lanes) t) w
  entered-step h old (Executed xid call reply) new o t r w =
      same-now h (Executed xid call reply) old.lanes new.lanes o (silent-now h (Executed xid call reply) o.0 (λ n l a is. cc)) (ap (λ (v : View). v.lanes) t) w
  entered-step h old (Foreign call reply) new o t r w =
      same-now h (Foreign call reply) old.lanes new.lanes o (silent-now h (Foreign call reply) o.0 (λ n l a is. cc)) (ap (λ (v : View). v.lanes) t) w
  entered-step h old (Flushed file from len) new o t r w =
      same-now h (Flushed file from len) old.lanes new.lanes o (silent-now h (Flushed file from len) o.0 (λ n l a is. cc)) (ap (λ (v : View). v.lanes) t) w
  entered-step h old (Reboot verf) new o t r w = same-now h (Reboot verf) old.lanes new.lanes o (silent-now h (Reboot verf) o.0 (λ n l a is. cc)) (ap (λ (v : View). v.lanes) t) w
  entered-step h old (Clock ms) new o t r w = same-now h (Clock ms) old.lanes new.lanes o (silent-now h (Clock ms) o.0 (λ n l a is. cc)) (ap (λ (v : View). v.lanes) t) w

  -- ---- any number of steps

  -- From the history g, with the view b, the session went on to a longer one and its view.
  pub data Onward (g : List Entry) (b : View) : List Entry → View → Type 0 where
    stays : (h : List Entry) (v : View) → h ≡ g → v ≡ b → Onward g b h v
    steps : (h before : List Entry) (v u : View) (e : Entry) → Onward g b before u → Reaches machine_of setup before u → h ≡ before ++ e ∷ [] → StepsTo machine_of before u e v
        → Onward g b h v
    drops : (h : List Entry) (v u : View) → Onward g b h u → v ≡ lost u → Onward g b h v

  pub entered-onward : (g : List Entry) (b : View) (h : List Entry) (v : View) (o : Placed) → Onward g b h v → Entered g b.lanes o → Entered h v.lanes o
  entered-onward g b _ _ o (stays h v is same) w = subst (λ (u : View). Entered h u.lanes o) (sym same) (subst (λ (k : List Entry). Entered k b.lanes o) (sym is) w)
  entered-onward g b _ _ o (steps h before v u e on r is t) w =
      subst (λ (k : List Entry). Entered k v.lanes o) (sym is) (entered-step before u e v o t r (entered-onward g b before u o on w))
  entered-onward g b _ _ o (drops h v u on is) w =
      let was = entered-onward g b h u o on w in
      subst (λ (k : View). Entered h k.lanes o) (sym is) (entered-lanes h u.lanes (map lost_lane u.lanes) o was (safe-lost h u.lanes o.0 was.safe))

-- ---- each record that was sent

module _ (machine_of : ℕ → Op → Machine) (unbegun : (lane : ℕ) (op : Op) → IsUnbegun (machine_of lane op)) (setup : Setup) where
  abbrev Out : List Entry → ℕ → List ℕ → Type 0
  Out h i bytes = Outgoing machine_of unbegun setup h i bytes

  -- and how the session went on
  pub record SentOn (h : List Entry) (v : View) (i : ℕ) (bytes : List ℕ) : Type 0 where
    pub out : Out h i bytes
    pub on : Onward machine_of setup out.before out.old h v

  abbrev out-later : (h : List Entry) (e : Entry) (i : ℕ) (bytes : List ℕ) → Out h i bytes → Out (h ++ e ∷ []) i bytes
  out-later h e i bytes w = record {
    before = w.before;
    after = w.after ++ e ∷ [];
    is = ap (λ (k : List Entry). k ++ e ∷ []) w.is ∙ append_assoc w.before w.after (e ∷ []);
    there = w.there;
    old = w.old;
    reached = w.reached;
    found = w.found;
    xid = w.xid;
    waiting = w.waiting;
    waits = w.waits;
    bytes_is = w.bytes_is;
    at = w.at;
    machine = w.machine;
    busy = w.busy;
    x = w.x;
    op = w.op;
    under_way = w.under_way;
    some = w.some;
    low = w.low;
    high = w.high;
  }

  -- the record that is sent now
  goes-out : (b : Bool) (h : List Entry) (old : View) (bytes : List ℕ) (new : View) → old.lost ≡ b → SendsIf b old (Some bytes) new → Reaches machine_of setup h old
      → (w : Out (h ++ Sent bytes ∷ []) (length h) bytes) × (w.before ≡ h) × (w.old ≡ old)
  goes-out true h old bytes new was t r = absurd (let no_way : Some bytes ≡ None = t.0 in cc)
  goes-out false h old bytes new was t r = (
    record {
      before = h;
      after = Sent bytes ∷ [];
      is = refl;
      there = refl;
      old = old;
      reached = r;
      found = was;
      xid = n.xid;
      waiting = n.call;
      waits = waits;
      bytes_is = n.bytes_is;
      at = own.at;
      machine = own.machine;
      busy = own.there;
      x = own.x;
      op = own.op;
      under_way = own.under_way;
      some = let all = calls-some n.xid old.calls.calls n.call waits in let count = counted in omega (arith, all, count);
      low =
          let late = waits_late old.calls.cred old.calls.first_xid (next_xid old.calls) n.xid old.calls.calls n.call rows.sound.calls.each waits in
          let first = rows.sound.first in
          omega (arith, late, first);
      high =
          let early = waits_early old.calls.cred old.calls.first_xid (next_xid old.calls) n.xid old.calls.calls n.call rows.sound.calls.each waits in
          let first = rows.sound.first in
          let few = rows.sound.calls.within in
          let limit : old.calls.limit ≡ setup.limit = reached-limit machine_of setup h old r in
          omega (arith, early, first, few, limit);
    },
    refl,
    refl,
  )
    where
      n : SentNow old bytes new
      n = sent_now old bytes new (subst (λ (c : Bool). SendsIf c old (Some bytes) new) (sym was) t)

      rows : Rows setup h old
      rows = reached-rows machine_of setup h old r

      waits : waiting_at n.xid old.calls.calls ≡ Some n.call
      waits = (at_sent old.calls.cred old.calls.first_xid (next_xid old.calls) n.xid old.calls.calls n.call rows.sound.calls.each n.due).before

      own : IsOfOperation h old n.xid n.call
      own = (reached-owned machine_of unbegun setup h old r was).owned n.xid n.call waits

      apart : (k m : ℕ) (l o : Lane) → slice_get old.lanes k ≡ Some l → slice_get old.lanes m ≡ Some o → l.number ≡ o.number → k ≡ m
      apart = (lanes-under-way h old (reached-lanes machine_of setup h old r)).apart

      known : IsKnown old
      known = reached-count machine_of unbegun setup h old r was

      counted : calls_for n.call.purpose.lane old.calls.calls ≡ in_flight own.machine
      counted = known.counted n.call.purpose.lane
          ∙ known-only n.call.purpose.lane old.lanes own.at (Busy own.machine) own.there
          (λ k l here same. apart k own.at l (record { number = n.call.purpose.lane; state = Busy own.machine }) here own.there same)

  sent-as-on : (h : List Entry) (old : View) (bytes : List ℕ) (new : View) → StepsTo machine_of h old (Sent bytes) new → Reaches machine_of setup h old
      → (w : Out (h ++ Sent bytes ∷ []) (length h) bytes) × (w.before ≡ h) × (w.old ≡ old) → SentOn (h ++ Sent bytes ∷ []) new (length h) bytes
  sent-as-on h old bytes new t r w = record {
    out = w.0;
    on = steps (h ++ Sent bytes ∷ []) h new old (Sent bytes) (stays h old (sym w.1) (sym w.2)) r refl t;
  }

  sent-now-on : (h : List Entry) (old : View) (e : Entry) (new : View) (bytes : List ℕ) → StepsTo machine_of h old e new → Reaches machine_of setup h old → e ≡ Sent bytes
      → SentOn (h ++ e ∷ []) new (length h) bytes
  sent-now-on h old (Sent given) new bytes t r is =
      subst (λ (b : List ℕ). SentOn (h ++ Sent given ∷ []) new (length h) b) (sent-bytes given bytes is) (sent-as-on h old given new t r (goes-out old.lost h old given new refl t r))
    where
      sent-bytes : (a b : List ℕ) → Sent a ≡ Sent b → a ≡ b
      sent-bytes a b q = cc
  sent-now-on h old (Began lane line op) new bytes t r is = absurd (cc)
  sent-now-on h old (Answered lane line answer) new bytes t r is = absurd (cc)
  sent-now-on h old (Delivered rec) new bytes t r is = absurd (cc)
  sent-now-on h old Failed new bytes t r is = absurd (cc)
  sent-now-on h old (Dialed port) new bytes t r is = absurd (cc)
  sent-now-on h old (Executed xid call reply) new bytes t r is = absurd (cc)
  sent-now-on h old (Foreign call reply) new bytes t r is = absurd (cc)
  sent-now-on h old (Flushed file from len) new bytes t r is = absurd (cc)
  sent-now-on h old (Reboot verf) new bytes t r is = absurd (cc)
  sent-now-on h old (Clock ms) new bytes t r is = absurd (cc)

  none-later : (h : List Entry) (e : Entry) (i : ℕ) → i < length h → NoneBegan h i → NoneBegan (h ++ e ∷ []) i
  none-later h e i within none j lane line op at early = none j lane line op (At-back h (e ∷ []) j (Began lane line op) at (omega (arith, early, within))) early

  -- each record was sent before any operation began, or for one
  pub reached-on : (h : List Entry) (v : View) → Reaches machine_of setup h v → (i : ℕ) (bytes : List ℕ) → At h i (Sent bytes) → NoneBegan h i ⊎ SentOn h v i bytes
  reached-on _ _ (begins h v may up fresh) i bytes at = inl (λ j lane line op began early. up.unbegun j lane line op began)
  reached-on _ _ (goes h before v b e r is t) i bytes at =
      subst (λ (k : List Entry). NoneBegan k i ⊎ SentOn k v i bytes) (sym is)
      (by (At-cases before e i (Sent bytes) (subst (λ (k : List Entry). At k i (Sent bytes)) is at)) (reached-on before b r i bytes))
    where
      by : At before i (Sent bytes) ⊎ ((i ≡ length before) × (e ≡ Sent bytes)) → (At before i (Sent bytes) → NoneBegan before i ⊎ SentOn before b i bytes)
          → NoneBegan (before ++ e ∷ []) i ⊎ SentOn (before ++ e ∷ []) v i bytes
      by (inr now) early = inr (subst (λ (n : ℕ). SentOn (before ++ e ∷ []) v n bytes) (sym now.0) (sent-now-on before b e v bytes t r now.1))
      by (inl there) early = elim (early there) [
        | inl none ↦ inl (none-later before e i (At-below before i (Sent bytes) there) none)
        | inr was ↦ inr (record { out = out-later before e i bytes was.out; on = steps (before ++ e ∷ []) before v b e was.on r refl t })
      ]
  reached-on _ _ (loses h v b r shown is) i bytes at = elim (reached-on h b r i bytes at) [
    | inl none ↦ inl none
    | inr was ↦ inr (record { out = was.out; on = drops h v b was.on is })
  ]
