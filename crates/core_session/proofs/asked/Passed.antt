-- Of each record that was sent for an operation: the view before it, in which no answer was ready, and how the session went on from there.
use Rattle.core_session.proofs.Prelude.{◌≡◌, ◌<◌, ◌⊎◌, inl, inr, ℕ, List, [], ◌∷◌, ◌++◌, length, Bool, true, false, Some, None, slice_get, refl, sym, ap, subst, ◌∙◌, arith, append_assoc, next_xid, waiting_at, at_sent, waits_early, Entry, Began, Sent, Op, NoneBegan, At, At-below, At-back, At-cases, Machine, Lane, Busy, Setup, SendsIf, View, calls_for, IsOfOperation, in_flight, IsUnbegun, StepsTo, Reaches, SentNow, sent_now, calls-some, known-only, lanes-under-way, reached-lanes, reached-owned, Rows, reached-rows, Notes, NoneReady, notes-reach}
use Rattle.core_facts.proofs.Counting.{IsKnown, reached-count}
use Rattle.core_facts.specs.Notes.{notes_fresh, notes_step, notes_lost, ComesAfter}
use Rattle.rpc_retry.proofs.Records.{waits_late}
use Rattle.core_answers.proofs.asks.Limits.{reached-limit}
use Rattle.core_session.proofs.calls.Outgoing.{Outgoing}
use Rattle.core_session.proofs.calls.TableHeld.{AllNoted}
use Rattle.core_session.proofs.room.Onward.{Onward, stays, steps, drops}

module _ (machine_of : ℕ → Op → Machine) (unbegun : (lane : ℕ) (op : Op) → IsUnbegun (machine_of lane op)) (setup : Setup) where
  abbrev Out : List Entry → ℕ → List ℕ → Type 0
  Out h i bytes = Outgoing machine_of unbegun setup h i bytes

  pub record Passed (h : List Entry) (v : View) (i : ℕ) (bytes : List ℕ) : Type 0 where
    pub out : Out h i bytes
    pub on : Onward machine_of setup out.before out.old h v
    pub noted : AllNoted out.old

  abbrev out-later : (h : List Entry) (e : Entry) (i : ℕ) (bytes : List ℕ) → Out h i bytes → Out (h ++ e ∷ []) i bytes
  out-later h e i bytes w = record {
    before = w.before;
    after = w.after ++ e ∷ [];
    is = ap (λ (k : List Entry). k ++ e ∷ []) w.is ∙ append_assoc w.before w.after (e ∷ []);
    there = w.there;
    old = w.old;
    reached = w.reached;
    found = w.found;
    xid = w.xid;
    waiting = w.waiting;
    waits = w.waits;
    bytes_is = w.bytes_is;
    at = w.at;
    machine = w.machine;
    busy = w.busy;
    x = w.x;
    op = w.op;
    under_way = w.under_way;
    some = w.some;
    low = w.low;
    high = w.high;
  }

  -- the record that is sent now
  goes-out : (b : Bool) (h : List Entry) (old : View) (bytes : List ℕ) (new : View) → old.lost ≡ b → SendsIf b old (Some bytes) new → Reaches machine_of setup h old
      → (w : Out (h ++ Sent bytes ∷ []) (length h) bytes) × (w.before ≡ h) × (w.old ≡ old)
  goes-out true h old bytes new was t r = absurd (let no_way : Some bytes ≡ None = t.0 in cc)
  goes-out false h old bytes new was t r = (
    record {
      before = h;
      after = Sent bytes ∷ [];
      is = refl;
      there = refl;
      old = old;
      reached = r;
      found = was;
      xid = n.xid;
      waiting = n.call;
      waits = waits;
      bytes_is = n.bytes_is;
      at = own.at;
      machine = own.machine;
      busy = own.there;
      x = own.x;
      op = own.op;
      under_way = own.under_way;
      some = let all = calls-some n.xid old.calls.calls n.call waits in let count = counted in omega (arith, all, count);
      low =
          let late = waits_late old.calls.cred old.calls.first_xid (next_xid old.calls) n.xid old.calls.calls n.call rows.sound.calls.each waits in
          let first = rows.sound.first in
          omega (arith, late, first);
      high =
          let early = waits_early old.calls.cred old.calls.first_xid (next_xid old.calls) n.xid old.calls.calls n.call rows.sound.calls.each waits in
          let first = rows.sound.first in
          let few = rows.sound.calls.within in
          let limit : old.calls.limit ≡ setup.limit = reached-limit machine_of setup h old r in
          omega (arith, early, first, few, limit);
    },
    refl,
    refl,
  )
    where
      n : SentNow old bytes new
      n = sent_now old bytes new (subst (λ (c : Bool). SendsIf c old (Some bytes) new) (sym was) t)

      rows : Rows setup h old
      rows = reached-rows machine_of setup h old r

      waits : waiting_at n.xid old.calls.calls ≡ Some n.call
      waits = (at_sent old.calls.cred old.calls.first_xid (next_xid old.calls) n.xid old.calls.calls n.call rows.sound.calls.each n.due).before

      own : IsOfOperation h old n.xid n.call
      own = (reached-owned machine_of unbegun setup h old r was).owned n.xid n.call waits

      apart : (k m : ℕ) (l o : Lane) → slice_get old.lanes k ≡ Some l → slice_get old.lanes m ≡ Some o → l.number ≡ o.number → k ≡ m
      apart = (lanes-under-way h old (reached-lanes machine_of setup h old r)).apart

      known : IsKnown old
      known = reached-count machine_of unbegun setup h old r was

      counted : calls_for n.call.purpose.lane old.calls.calls ≡ in_flight own.machine
      counted = known.counted n.call.purpose.lane
          ∙ known-only n.call.purpose.lane old.lanes own.at (Busy own.machine) own.there
          (λ k l here same. apart k own.at l (record { number = n.call.purpose.lane; state = Busy own.machine }) here own.there same)

  passed-as : (h : List Entry) (old : View) (bytes : List ℕ) (new : View) → StepsTo machine_of h old (Sent bytes) new → Reaches machine_of setup h old → NoneReady old
      → (w : Out (h ++ Sent bytes ∷ []) (length h) bytes) × (w.before ≡ h) × (w.old ≡ old) → Passed (h ++ Sent bytes ∷ []) new (length h) bytes
  passed-as h old bytes new t r none w = record {
    out = w.0;
    on = steps (h ++ Sent bytes ∷ []) h new old (Sent bytes) (stays h old (sym w.1) (sym w.2)) r refl t;
    noted = subst AllNoted (sym w.2) none;
  }

  passed-now : (h : List Entry) (old : View) (e : Entry) (new : View) (bytes : List ℕ) → StepsTo machine_of h old e new → Reaches machine_of setup h old → (ComesAfter e → NoneReady old)
      → e ≡ Sent bytes → Passed (h ++ e ∷ []) new (length h) bytes
  passed-now h old e new bytes t r none is =
      subst (λ (g : Entry). Passed (h ++ g ∷ []) new (length h) bytes) (sym is)
      (passed-as h old bytes new now r (subst (λ (g : Entry). ComesAfter g → NoneReady old) is none tt) (goes-out old.lost h old bytes new refl now r))
    where
      now : StepsTo machine_of h old (Sent bytes) new
      now = subst (λ (g : Entry). StepsTo machine_of h old g new) is t

  none-later : (h : List Entry) (e : Entry) (i : ℕ) → i < length h → NoneBegan h i → NoneBegan (h ++ e ∷ []) i
  none-later h e i within none j lane line op at early = none j lane line op (At-back h (e ∷ []) j (Began lane line op) at (omega (arith, early, within))) early

  -- each record was sent before any operation began, or for one
  pub sends-passed : (h : List Entry) (v : View) → Notes machine_of setup h v → (i : ℕ) (bytes : List ℕ) → At h i (Sent bytes) → NoneBegan h i ⊎ Passed h v i bytes
  sends-passed _ _ (notes_fresh h v may up fresh) i bytes at = inl (λ j lane line op began early. up.unbegun j lane line op began)
  sends-passed _ _ (notes_step h before v b e n is none t) i bytes at =
      subst (λ (k : List Entry). NoneBegan k i ⊎ Passed k v i bytes) (sym is)
      (by (At-cases before e i (Sent bytes) (subst (λ (k : List Entry). At k i (Sent bytes)) is at)) (sends-passed before b n i bytes))
    where
      r : Reaches machine_of setup before b
      r = notes-reach machine_of setup before b n

      by : At before i (Sent bytes) ⊎ ((i ≡ length before) × (e ≡ Sent bytes)) → (At before i (Sent bytes) → NoneBegan before i ⊎ Passed before b i bytes)
          → NoneBegan (before ++ e ∷ []) i ⊎ Passed (before ++ e ∷ []) v i bytes
      by (inr now) early = inr (subst (λ (n : ℕ). Passed (before ++ e ∷ []) v n bytes) (sym now.0) (passed-now before b e v bytes t r none now.1))
      by (inl there) early = elim (early there) [
        | inl none_yet ↦ inl (none-later before e i (At-below before i (Sent bytes) there) none_yet)
        | inr was ↦ inr (record { out = out-later before e i bytes was.out; on = steps (before ++ e ∷ []) before v b e was.on r refl t; noted = was.noted })
      ]
  sends-passed _ _ (notes_lost h v b n shown is) i bytes at = elim (sends-passed h b n i bytes at) [
    | inl none ↦ inl none
    | inr was ↦ inr (record { out = was.out; on = drops h v b was.on is; noted = was.noted })
  ]
