-- Where a call that waits was first sent: it waited in the core's view then, in the same lane, for the operation that is under way there now.
use Rattle.core_answers.proofs.Prelude.{◌≡◌, ◌<◌, ◌≤◌, ◌⊎◌, inl, inr, ℕ, List, [], ◌∷◌, ◌++◌, length, true, false, nat_eq, Option, Some, None, slice_get, refl, sym, ap, subst, ◌∙◌, arith, append_assoc, cases_lt, length-append, Waiting, failed_after, next_xid, WaitedAs, made_call, waiting_at, without, others_made, others_taken, gone, before_sent, before_failed, Answer, Entry, Began, Answered, Dialed, Executed, Foreign, Flushed, Reboot, Delivered, Failed, Clock, Call, Op, At, proc_of, Ended, UnderWay, At-grow, At-below, At-back, At-cases, Machine, Purpose, Busy, Setup, record_of, counted, View, turn_at, IsUnbegun, StepsTo, Reaches, last_reading, Heard, dropped, replied, sent_now, FailedNow, goes_on, gives_up, failed_now, answered_now, taken_one, Rows, rows-stay, same-rows, taken-rows, rows-grow, silent-grow, taken-quiet, not-sent, reached-rows, Stays, begins-stay, hears-for-stay, forget, Anything, passes-any}
use Rattle.rpc_retry.specs.Held.{Held}
use Rattle.world_model.specs.declared.entry.Entry.TheVariants.{Sent}
use Rattle.core_facts.proofs.Cases.{heard, SentNow}
use Rattle.core_facts.proofs.Passing.{Passes, passes_fresh, passes_step, passes_lost}
use Rattle.core_facts.proofs.Owning.{reached-since, reached-owned}
use borrow.Author.Tests.{eqb-true}
use Rattle.world_model.specs.Waiting.{FirstSent}
use Rattle.core_facts.specs.Counted.{IsOfOperation}

-- As the record at a place was sent, a call waited for the lane under the xid, with these bytes.
pub record WaitedAt (machine_of : ℕ → Op → Machine) (setup : Setup) (h : List Entry) (i xid lane : ℕ) (bytes : List ℕ) : Type 0 where
  pub before : List Entry
  pub after : List Entry
  pub is : h ≡ before ++ after
  pub there : length before ≡ i
  pub old : View
  pub reached : Reaches machine_of setup before old
  pub found : old.lost ≡ false
  pub call : Waiting Purpose
  pub waits : waiting_at xid old.calls.calls ≡ Some call
  pub lane_is : call.purpose.lane ≡ lane
  pub bytes_is : call.bytes ≡ bytes

-- And G holds of the history and the view then.
pub record WaitedBy (machine_of : ℕ → Op → Machine) (setup : Setup) (G : List Entry → View → Type 0) (h : List Entry) (i xid lane : ℕ) (bytes : List ℕ) : Type 0 where
  pub waited : WaitedAt machine_of setup h i xid lane bytes
  pub given : G waited.before waited.old

some-is : (x y : Waiting Purpose) → Some x ≡ Some y → x ≡ y
some-is x y e = cc

module _ (machine_of : ℕ → Op → Machine) (none : (lane : ℕ) (op : Op) → IsUnbegun (machine_of lane op)) (setup : Setup) (G : List Entry → View → Type 0) where
  abbrev pub IsPlaced : List Entry → ℕ → Waiting Purpose → Type 0
  IsPlaced h xid call = (i : ℕ) (bytes : List ℕ) → FirstSent h i xid bytes → WaitedBy machine_of setup G h i xid call.purpose.lane call.bytes

  abbrev pub AllPlaced : List Entry → View → Type 0
  AllPlaced h v = (xid : ℕ) (call : Waiting Purpose) → waiting_at xid v.calls.calls ≡ Some call → IsPlaced h xid call

  waited-later : (h : List Entry) (e : Entry) (i xid lane : ℕ) (bytes : List ℕ) → WaitedBy machine_of setup G h i xid lane bytes → WaitedBy machine_of setup G (h ++ e ∷ []) i xid lane bytes
  waited-later h e i xid lane bytes k =
      let w = k.waited in
      record {
        waited = record {
          before = w.before;
          after = w.after ++ e ∷ [];
          is = ap (λ (k : List Entry). k ++ e ∷ []) w.is ∙ append_assoc w.before w.after (e ∷ []);
          there = w.there;
          old = w.old;
          reached = w.reached;
          found = w.found;
          call = w.call;
          waits = w.waits;
          lane_is = w.lane_is;
          bytes_is = w.bytes_is;
        };
        given = k.given;
      }

  -- an entry that is no record that is sent
  first-back : (h : List Entry) (e : Entry) (i xid : ℕ) (bytes : List ℕ) → ((b : List ℕ) → e ≡ Sent b → ⊥) → FirstSent (h ++ e ∷ []) i xid bytes → FirstSent h i xid bytes
  first-back h e i xid bytes other f = record {
    sent = elim (At-cases h e i (Sent bytes) f.sent) [ inl p ↦ p | inr q ↦ absurd (other bytes q.1) ];
    under = f.under;
    first = λ j b at has. f.first j b (At-grow h (e ∷ []) j (Sent b) at) has;
  }

  placed-grow : (h : List Entry) (e : Entry) (xid : ℕ) (call : Waiting Purpose) → ((b : List ℕ) → e ≡ Sent b → ⊥) → IsPlaced h xid call → IsPlaced (h ++ e ∷ []) xid call
  placed-grow h e xid call other s i bytes f = waited-later h e i xid call.purpose.lane call.bytes (s i bytes (first-back h e i xid bytes other f))

  -- the same call, as far as its operation and its record go
  placed-same : (h : List Entry) (xid : ℕ) (was call : Waiting Purpose) → call.purpose ≡ was.purpose → call.bytes ≡ was.bytes → IsPlaced h xid was → IsPlaced h xid call
  placed-same h xid was call same equal s i bytes f =
      subst (λ (p : Purpose). WaitedBy machine_of setup G h i xid p.lane call.bytes) (sym same)
      (subst (λ (b : List ℕ). WaitedBy machine_of setup G h i xid was.purpose.lane b) (sym equal) (s i bytes f))

  pub record Placed (h : List Entry) (v : View) : Type 0 where
    pub rows : Rows setup h v
    pub placed : v.lost ≡ false → AllPlaced h v

  -- a call that was made wasn't sent yet
  made-placed : (h : List Entry) (old : View) (number : ℕ) (call : Call) (args : List ℕ) → Placed h old → old.lost ≡ false
      → (xid : ℕ) (c : Waiting Purpose)
      → waiting_at xid (old.calls.calls ++ (next_xid old.calls, made_call (record_of old call args) (record { lane = number; proc = proc_of call; sent = turn_at old })) ∷ []) ≡ Some c → IsPlaced h xid c
  made-placed h old number call args s found xid c at =
      let w : Waiting Purpose = made_call (record_of old call args) (record { lane = number; proc = proc_of call; sent = turn_at old }) in
      let next : ℕ = next_xid old.calls in
      (elim (nat_eq xid next) as (λ b. nat_eq xid next ≡ b → IsPlaced h xid c) [
        | true ↦ λ d i bytes f.
            let same : xid ≡ next = eqb-true xid next d in
            let low = s.rows.used i xid bytes f.sent f.under in
            absurd (omega (arith, same, low))
        | false ↦ λ d. s.placed found xid c (sym (others_made xid next old.calls.calls w d) ∙ at)
      ]) refl

  placed-stays : (h : List Entry) → Stays (Placed h)
  placed-stays h = record {
    makes = λ old new number call m s. subst (Placed h) (sym m.is) (record {
      rows = subst (Rows setup h) m.is ((rows-stay setup h).makes old new number call m s.rows);
      placed = λ found. made-placed h old number call m.args s found;
    });
    sets = λ old at number was state shelf there s. record { rows = (rows-stay setup h).sets old at number was state shelf there s.rows; placed = s.placed };
  }

  taken-placed : (h : List Entry) (old : View) (xid : ℕ) → Rows setup h old → AllPlaced h old → AllPlaced h (taken_one old xid)
  taken-placed h old xid r s x c at = (elim (nat_eq x xid) as (λ b. nat_eq x xid ≡ b → IsPlaced h x c) [
    | true ↦ λ d. absurd (still-waits (eqb-true x xid d))
    | false ↦ λ d. s x c (sym (others_taken x xid old.calls.calls d) ∙ at)
  ]) refl
    where
      still-waits : x ≡ xid → ⊥
      still-waits same =
          let gone_is : waiting_at xid (without xid old.calls.calls) ≡ None = gone old.calls.cred old.calls.first_xid (next_xid old.calls) xid old.calls.calls r.sound.calls.each in
          let there : waiting_at xid (without xid old.calls.calls) ≡ Some c = ap (λ (n : ℕ). waiting_at n (without xid old.calls.calls)) (sym same) ∙ at in
          let no_way : None ≡ Some c = sym gone_is ∙ there in
          cc

  -- the calls that waited, with the same purposes
  waited-placed : (h : List Entry) (old new : View) → ((xid : ℕ) (call : Waiting Purpose) → waiting_at xid new.calls.calls ≡ Some call → WaitedAs old.calls.calls xid call) → AllPlaced h old
      → AllPlaced h new
  waited-placed h old new was s xid call at = let w = was xid call at in placed-same h xid w.was call w.purpose w.bytes (s xid w.was w.waited)

  unchanged : (v new : View) → new.calls ≡ v.calls → (xid : ℕ) (call : Waiting Purpose) → waiting_at xid new.calls.calls ≡ Some call → WaitedAs v.calls.calls xid call
  unchanged v new same xid call at = record { was = call; waited = ap (λ (c : Held Purpose). waiting_at xid c.calls) (sym same) ∙ at; bytes = refl; purpose = refl }

  all-grow : (h : List Entry) (e : Entry) (v : View) → ((b : List ℕ) → e ≡ Sent b → ⊥) → AllPlaced h v → AllPlaced (h ++ e ∷ []) v
  all-grow h e v other s xid call at = placed-grow h e xid call other (s xid call at)

  abbrev pub IfPlaced : List Entry → View → Type 0
  IfPlaced h v = v.lost ≡ false → AllPlaced h v

  begins-placed : (h : List Entry) (old new : View) (lane line : ℕ) (op : Op) → StepsTo machine_of h old (Began lane line op) new → Rows setup (h ++ Began lane line op ∷ []) old
      → IfPlaced h old → Placed (h ++ Began lane line op ∷ []) new
  begins-placed h old new lane line op t rows s =
      begins-stay (Placed (h ++ Began lane line op ∷ [])) (placed-stays (h ++ Began lane line op ∷ [])) old new lane (machine_of lane op) (last_reading 0 h)
      (λ state shelf. record {
        rows = same-rows setup (h ++ Began lane line op ∷ []) old (record (counted old (last_reading 0 h)) { lanes = old.lanes ++ record { number = lane; state = state } ∷ []; shelf = shelf }) refl rows;
        placed = λ found. all-grow h (Began lane line op) old (λ b is. cc) (s found);
      }) t.step

  heard-placed : (h : List Entry) (old : View) (rec : List ℕ) (new : View) → Heard old rec new → Rows setup h old → IfPlaced h old → IfPlaced (h ++ Delivered rec ∷ []) new
  heard-placed h old rec new (dropped no_call is) r s = λ found.
      waited-placed (h ++ Delivered rec ∷ []) old new (unchanged old new (ap (λ (v : View). v.calls) is))
      (all-grow h (Delivered rec) old (not-sent rec) (s (ap (λ (v : View). v.lost) (sym is) ∙ found)))
  heard-placed h old rec new (replied xid call named waits t) r s = λ found.
      (hears-for-stay (Placed (h ++ Delivered rec ∷ [])) (placed-stays (h ++ Delivered rec ∷ [])) (taken_one old xid) new rec call.purpose t (record {
        rows = rows-grow setup h (Delivered rec) (taken_one old xid) (taken-quiet setup h old rec xid r named) (not-sent rec) (taken-rows setup h old xid r);
        placed = λ ok. all-grow h (Delivered rec) (taken_one old xid) (not-sent rec) (taken-placed h old xid r (s ok));
      })).placed found

  failed-placed : (h : List Entry) (old new : View) → FailedNow old new → IfPlaced h old → IfPlaced (h ++ Failed ∷ []) new
  failed-placed h old new (goes_on up is) s = λ found.
      waited-placed (h ++ Failed ∷ []) old new (λ xid call at. before_failed true old.calls.calls xid call
      (sym (ap (λ (v : View). waiting_at xid v.calls.calls) is ∙ ap (λ (o : Option ℕ). waiting_at xid (failed_after o old.calls.calls)) up) ∙ at))
      (all-grow h Failed old (λ b is. cc) (s (ap (λ (v : View). v.lost) (sym is) ∙ found)))
  failed-placed h old new (gives_up xid up is) s = λ found. absurd (let no_way : true ≡ false = ap (λ (v : View). v.lost) (sym is) ∙ found in cc)

  same-placed : (h : List Entry) (e : Entry) (old new : View) → ((b : List ℕ) → e ≡ Sent b → ⊥) → new ≡ old → IfPlaced h old → IfPlaced (h ++ e ∷ []) new
  same-placed h e old new other is s = subst (IfPlaced (h ++ e ∷ [])) (sym is) (λ found. all-grow h e old other (s found))

  -- a record is sent: of the call under its xid for the first time, or again
  sent-is : (a b : List ℕ) → Sent a ≡ Sent b → b ≡ a
  sent-is a b e = cc

  sent-placed : (h : List Entry) (old new : View) (rec : List ℕ) (t : StepsTo machine_of h old (Sent rec) new) → Reaches machine_of setup h old → G h old → IfPlaced h old → IfPlaced (h ++ Sent rec ∷ []) new
  sent-placed h old new rec t r given s found xid call at i bytes f = by (At-cases h (Sent rec) i (Sent bytes) f.sent)
    where
      n : SentNow old rec new
      n = sent_now old rec new t

      ok : old.lost ≡ false
      ok = ap (λ (v : View). v.lost) (sym n.is) ∙ found

      w : WaitedAs old.calls.calls xid call
      w = before_sent old.calls.calls xid call (ap (λ (v : View). waiting_at xid v.calls.calls) (sym n.is) ∙ at)

      as-was : WaitedBy machine_of setup G (h ++ Sent rec ∷ []) i xid w.was.purpose.lane w.was.bytes → WaitedBy machine_of setup G (h ++ Sent rec ∷ []) i xid call.purpose.lane call.bytes
      as-was k = subst (λ (p : Purpose). WaitedBy machine_of setup G (h ++ Sent rec ∷ []) i xid p.lane call.bytes) (sym w.purpose)
          (subst (λ (b : List ℕ). WaitedBy machine_of setup G (h ++ Sent rec ∷ []) i xid w.was.purpose.lane b) (sym w.bytes) k)

      by : At h i (Sent bytes) ⊎ ((i ≡ length h) × (Sent rec ≡ Sent bytes)) → WaitedBy machine_of setup G (h ++ Sent rec ∷ []) i xid call.purpose.lane call.bytes
      by (inl there) = as-was (waited-later h (Sent rec) i xid w.was.purpose.lane w.was.bytes (s ok xid w.was w.waited i bytes
          (record { sent = there; under = f.under; first = λ j b has its. f.first j b (At-grow h (Sent rec ∷ []) j (Sent b) has) its })))
      by (inr now) = as-was (record {
        waited = record {
          before = h;
          after = Sent rec ∷ [];
          is = refl;
          there = sym now.0;
          old = old;
          reached = r;
          found = ok;
          call = w.was;
          waits = w.waited;
          lane_is = refl;
          bytes_is = refl;
        };
        given = given;
      })

  placed-step : (h : List Entry) (old : View) (e : Entry) (new : View) → StepsTo machine_of h old e new → Reaches machine_of setup h old → G h old → Rows setup h old → IfPlaced h old → IfPlaced (h ++ e ∷ []) new
  placed-step h old (Began lane line op) new t r given rows s =
      (begins-placed h old new lane line op t (silent-grow setup h (Began lane line op) old (record { sent = λ bytes is. cc; came = λ bytes is. cc }) rows) s).placed
  placed-step h old (Answered lane line answer) new t r given rows s = λ found.
      let a = answered_now old lane answer new t.answers in
      waited-placed (h ++ Answered lane line answer ∷ []) old new (unchanged old new (ap (λ (v : View). v.calls) a.is.is))
      (all-grow h (Answered lane line answer) old (λ b is. cc) (s (ap (λ (v : View). v.lost) (sym a.is.is) ∙ found)))
  placed-step h old (Sent bytes) new t r given rows s = sent-placed h old new bytes t r given s
  placed-step h old (Delivered bytes) new t r given rows s = heard-placed h old bytes new (heard old bytes t.result new t.hears) rows s
  placed-step h old Failed new (inl t) r given rows s = failed-placed h old new (failed_now old t.0 new t.1) s
  placed-step h old Failed new (inr t) r given rows s = same-placed h Failed old new (λ b is. cc) t s
  placed-step h old (Dialed port) new t r given rows s = same-placed h (Dialed port) old new (λ b is. cc) t s
  placed-step h old (Executed xid call reply) new t r given rows s = same-placed h (Executed xid call reply) old new (λ b is. cc) t s
  placed-step h old (Foreign call reply) new t r given rows s = same-placed h (Foreign call reply) old new (λ b is. cc) t s
  placed-step h old (Flushed file from len) new t r given rows s = same-placed h (Flushed file from len) old new (λ b is. cc) t s
  placed-step h old (Reboot verf) new t r given rows s = same-placed h (Reboot verf) old new (λ b is. cc) t s
  placed-step h old (Clock ms) new t r given rows s = same-placed h (Clock ms) old new (λ b is. cc) t s

  pub reached-placed : (h : List Entry) (v : View) → Passes machine_of setup G h v → IfPlaced h v
  reached-placed _ _ (passes_fresh h v may up fresh) = λ found xid call at.
      absurd (let no_way : None ≡ Some call = sym (ap (λ (c : Held Purpose). waiting_at xid c.calls) fresh.calls) ∙ at in cc)
  reached-placed _ _ (passes_step h before v b e p given is t) =
      let r = forget machine_of setup G before b p in
      subst (λ (k : List Entry). IfPlaced k v) (sym is) (placed-step before b e v t r given (reached-rows machine_of setup before b r) (reached-placed before b p))
  reached-placed _ _ (passes_lost h v b p shown is) = λ found. absurd (let no_way : true ≡ false = ap (λ (w : View). w.lost) (sym is) ∙ found in cc)

module _ (machine_of : ℕ → Op → Machine) (none : (lane : ℕ) (op : Op) → IsUnbegun (machine_of lane op)) (setup : Setup) where
  -- ---- its operation

  -- it was under way before
  ended-more : (before after : List Entry) (lane x : ℕ) (op : Op) (y : ℕ) (answer : Answer) → Ended before lane x op y answer → Ended (before ++ after) lane x op y answer
  ended-more before after lane x op y answer d = record {
    line = d.line;
    began = At-grow before after x (Began lane d.line op) d.began;
    answered = At-grow before after y (Answered lane d.line answer) d.answered;
    later = d.later;
    first = λ j a there past. by j a there past (cases_lt j (length before));
  }
    where
      by : (j : ℕ) (a : Answer) → At (before ++ after) j (Answered lane d.line a) → x < j → (j < length before) ⊎ (length before ≤ j) → y ≤ j
      by j a there past (inl within) = d.first j a (At-back before after j (Answered lane d.line a) there within) past
      by j a there past (inr beyond) = let low = At-below before y (Answered lane d.line answer) d.answered in omega (arith, low, beyond)

  under-before : (before after : List Entry) (lane x : ℕ) (op : Op) → x < length before → UnderWay (before ++ after) lane x (length (before ++ after)) op
      → UnderWay before lane x (length before) op
  under-before before after lane x op early u = record {
    line = u.line;
    began = At-back before after x (Began lane u.line op) u.began early;
    before = early;
    unanswered = λ a. u.unanswered (record {
      lane = a.lane;
      op = a.op;
      y = a.y;
      answer = a.answer;
      ended = ended-more before after a.lane x a.op a.y a.answer a.ended;
      before = let low = a.before in let all = length-append before after in omega (arith, low, all);
    });
  }

  -- The record was sent for this operation of the lane: the view then, and the machine that waited.
  pub record SentOf (h : List Entry) (i xid lane : ℕ) (bytes : List ℕ) (x : ℕ) (op : Op) : Type 0 where
    pub waited : WaitedAt machine_of setup h i xid lane bytes
    pub at : ℕ
    pub machine : Machine
    pub busy : slice_get waited.old.lanes at ≡ Some (record { number = lane; state = Busy machine })
    pub under_way : UnderWay waited.before lane x (length waited.before) op

  -- its machine, and that it is under way
  module _ (h : List Entry) (i xid lane : ℕ) (bytes : List ℕ) (x : ℕ) (op : Op) (w : WaitedAt machine_of setup h i xid lane bytes) where
    own : IsOfOperation w.before w.old xid w.call
    own = (reached-owned machine_of none setup w.before w.old w.reached w.found).owned xid w.call w.waits

    own-busy : slice_get w.old.lanes own.at ≡ Some (record { number = lane; state = Busy own.machine })
    own-busy = own.there ∙ ap (λ (n : ℕ). Some (record { number = n; state = Busy own.machine })) w.lane_is

    own-under : x < i → UnderWay h lane x (length h) op → UnderWay w.before lane x (length w.before) op
    own-under early u = under-before w.before w.after lane x op (let there = w.there in omega (arith, there, early))
        (subst (λ (k : List Entry). UnderWay k lane x (length k) op) w.is u)

  -- With G of the history and the view then.
  pub record SentOfBy (G : List Entry → View → Type 0) (h : List Entry) (i xid lane : ℕ) (bytes : List ℕ) (x : ℕ) (op : Op) : Type 0 where
    pub sent : SentOf h i xid lane bytes x op
    pub given : G sent.waited.before sent.waited.old

  -- of each call that waits and was sent
  pub reached-sent-by : (G : List Entry → View → Type 0) (h : List Entry) (v : View) → Passes machine_of setup G h v → v.lost ≡ false → (xid : ℕ) (call : Waiting Purpose)
      → waiting_at xid v.calls.calls ≡ Some call → (i : ℕ) (bytes : List ℕ) → FirstSent h i xid bytes → (x : ℕ) (op : Op) → UnderWay h call.purpose.lane x (length h) op
      → SentOfBy G h i xid call.purpose.lane call.bytes x op
  reached-sent-by G h v p found xid call at i bytes f x op u =
      let k = reached-placed machine_of none setup G h v p found xid call at i bytes f in
      let w = k.waited in
      let lane = call.purpose.lane in
      record {
        sent = record {
          waited = w;
          at = (own h i xid lane call.bytes x op w).at;
          machine = (own h i xid lane call.bytes x op w).machine;
          busy = own-busy h i xid lane call.bytes x op w;
          under_way = own-under h i xid lane call.bytes x op w
              (reached-since machine_of none setup h v (forget machine_of setup G h v p) found xid call at x u.line op u.began i bytes f.sent f.under) u;
        };
        given = k.given;
      }

  pub reached-sent-of : (h : List Entry) (v : View) → Reaches machine_of setup h v → v.lost ≡ false → (xid : ℕ) (call : Waiting Purpose) → waiting_at xid v.calls.calls ≡ Some call
      → (i : ℕ) (bytes : List ℕ) → FirstSent h i xid bytes → (x : ℕ) (op : Op) → UnderWay h call.purpose.lane x (length h) op
      → SentOf h i xid call.purpose.lane call.bytes x op
  reached-sent-of h v r found xid call at i bytes f x op u = (reached-sent-by Anything h v (passes-any machine_of setup h v r) found xid call at i bytes f x op u).sent
