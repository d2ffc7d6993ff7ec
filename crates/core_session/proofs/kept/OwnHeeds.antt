-- A record that was sent since an operation began was answered since it was sent, or its call waits.
use Rattle.core_session.proofs.Prelude.{◌≡◌, ◌<◌, ◌⊎◌, inl, inr, ℕ, Bool, true, false, nat_eq, List, [], ◌∷◌, ◌++◌, length, Option, Some, option_map, refl, sym, ap, subst, ◌∙◌, arith, eqb-true, Waiting, next_xid, made_call, at_made, others_made, others_taken, Entry, Began, Answered, Delivered, Sent, Call, Op, At, HasXid, proc_of, At-back, At-below, At-cases, At-grow, At-last, Machine, Purpose, Setup, record_of, counted, View, turn_at, taken_one, purpose_at, Rows, rows-stay, same-rows, silent-grow, rows-grow, taken-quiet, not-sent, taken-rows, Stays, stirs-stay, starts-stay, steps-stay}
use Rattle.core_facts.proofs.Rows.{under}
use Rattle.core_session.proofs.syncs.WatchingAlong.{KeepsWatching, SentWaits}

abbrev pub Awaits : ℕ → View → Type 0
Awaits xid v = (p : Purpose) × (purpose_at xid v.calls.calls ≡ Some p)

-- a record under the xid came after the place i
pub record HeardFrom (h : List Entry) (xid i : ℕ) : Type 0 where
  pub at : ℕ
  pub bytes : List ℕ
  pub got : At h at (Delivered bytes)
  pub has : HasXid bytes xid
  pub after : i < at

-- a record under the xid was sent at the place i, after an operation began
pub record WasSent (h : List Entry) (xid i : ℕ) : Type 0 where
  pub b : ℕ
  pub lane : ℕ
  pub line : ℕ
  pub op : Op
  pub began : At h b (Began lane line op)
  pub later : b < i
  pub bytes : List ℕ
  pub sent : At h i (Sent bytes)
  pub has : HasXid bytes xid

abbrev pub AllHeard : List Entry → View → Type 0
AllHeard h v = (i xid : ℕ) → WasSent h xid i → HeardFrom h xid i ⊎ Awaits xid v

later-heard : (h : List Entry) (e : Entry) (xid i : ℕ) → HeardFrom h xid i → HeardFrom (h ++ e ∷ []) xid i
later-heard h e xid i w = record { at = w.at; bytes = w.bytes; got = At-grow h (e ∷ []) w.at (Delivered w.bytes) w.got; has = w.has; after = w.after }

-- as it was before an entry
sent-back : (h : List Entry) (e : Entry) (xid i : ℕ) → i < length h → WasSent (h ++ e ∷ []) xid i → WasSent h xid i
sent-back h e xid i low s = record {
  b = s.b;
  lane = s.lane;
  line = s.line;
  op = s.op;
  began = (let early = s.later in At-back h (e ∷ []) s.b (Began s.lane s.line s.op) s.began (omega (arith, low, early)));
  later = s.later;
  bytes = s.bytes;
  sent = At-back h (e ∷ []) i (Sent s.bytes) s.sent low;
  has = s.has;
}

-- an entry that isn't of a record that was sent
all-later : (h : List Entry) (e : Entry) (v : View) → ((bytes : List ℕ) → e ≡ Sent bytes → ⊥) → AllHeard h v → AllHeard (h ++ e ∷ []) v
all-later h e v silent all i xid s = by (At-cases h e i (Sent s.bytes) s.sent)
  where
    of : HeardFrom h xid i ⊎ Awaits xid v → HeardFrom (h ++ e ∷ []) xid i ⊎ Awaits xid v
    of (inl w) = inl (later-heard h e xid i w)
    of (inr w) = inr w

    by : At h i (Sent s.bytes) ⊎ ((i ≡ length h) × (e ≡ Sent s.bytes)) → HeardFrom (h ++ e ∷ []) xid i ⊎ Awaits xid v
    by (inl there) = of (all i xid (sent-back h e xid i (At-below h i (Sent s.bytes) there) s))
    by (inr here) = absurd (silent s.bytes here.1)

module _ (setup : Setup) where
  record Heeds (h : List Entry) (v : View) : Type 0 where
    rows : Rows setup h v
    all : AllHeard h v

  made-awaits : (h : List Entry) (old : View) (number : ℕ) (call : Call) (args : List ℕ) → Rows setup h old → (xid : ℕ) → Awaits xid old
      → (p : Purpose) × (purpose_at xid (old.calls.calls ++ (next_xid old.calls, made_call (record_of old call args) (record { lane = number; proc = proc_of call; sent = turn_at old })) ∷ []) ≡ Some p)
  made-awaits h old number call args r xid w = by (nat_eq xid next) refl
    where
      next : ℕ
      next = next_xid old.calls

      row : Waiting Purpose
      row = made_call (record_of old call args) (record { lane = number; proc = proc_of call; sent = turn_at old })

      of : Option (Waiting Purpose) → Option Purpose
      of = option_map (λ (z : Waiting Purpose). z.purpose)

      by : (b : Bool) → nat_eq xid next ≡ b → (p : Purpose) × (purpose_at xid (old.calls.calls ++ (next, row) ∷ []) ≡ Some p)
      by true d = (row.purpose, ap (option_map (λ (z : Waiting Purpose). z.purpose)) (at_made old.calls.cred old.calls.first_xid next xid next old.calls.calls row r.sound.calls.each (eqb-true xid next d) refl))
      by false d = (w.0, ap (option_map (λ (z : Waiting Purpose). z.purpose)) (others_made xid next old.calls.calls row d) ∙ w.1)

  heeds-stays : (h : List Entry) → Stays (Heeds h)
  heeds-stays h = record {
    makes = λ old new number call m t. subst (Heeds h) (sym m.is) (record {
      rows = subst (Rows setup h) m.is ((rows-stay setup h).makes old new number call m t.rows);
      all = λ i xid s. made old number call m.args t xid i (t.all i xid s);
    });
    sets = λ old at number was state shelf there t. record { rows = (rows-stay setup h).sets old at number was state shelf there t.rows; all = t.all };
  }
    where
      made : (old : View) (number : ℕ) (call : Call) (args : List ℕ) → Heeds h old → (xid i : ℕ) → HeardFrom h xid i ⊎ Awaits xid old
          → HeardFrom h xid i
          ⊎ ((p : Purpose) × (purpose_at xid (old.calls.calls ++ (next_xid old.calls, made_call (record_of old call args) (record { lane = number; proc = proc_of call; sent = turn_at old })) ∷ []) ≡ Some p))
      made old number call args t xid i (inl w) = inl w
      made old number call args t xid i (inr w) = inr (made-awaits h old number call args t.rows xid w)

  -- the call that is answered
  taken-heard : (h : List Entry) (old : View) (rec : List ℕ) (xid : ℕ) → HasXid rec xid → AllHeard h old → AllHeard (h ++ Delivered rec ∷ []) (taken_one old xid)
  taken-heard h old rec xid named all i x s = by (nat_eq x xid) refl (all-later h (Delivered rec) old (λ bytes is. cc) all i x s)
    where
      before : i < length h
      before = low (At-cases h (Delivered rec) i (Sent s.bytes) s.sent)
        where
          low : At h i (Sent s.bytes) ⊎ ((i ≡ length h) × (Delivered rec ≡ Sent s.bytes)) → i < length h
          low (inl there) = At-below h i (Sent s.bytes) there
          low (inr here) = absurd (let no_way = here.1 in cc)

      by : (b : Bool) → nat_eq x xid ≡ b → HeardFrom (h ++ Delivered rec ∷ []) x i ⊎ Awaits x old → HeardFrom (h ++ Delivered rec ∷ []) x i ⊎ Awaits x (taken_one old xid)
      by b d (inl w) = inl w
      by true d (inr w) = inl (record { at = length h; bytes = rec; got = At-last h (Delivered rec); has = subst (HasXid rec) (sym (eqb-true x xid d)) named; after = before })
      by false d (inr w) = inr (w.0, ap (option_map (λ (z : Waiting Purpose). z.purpose)) (others_taken x xid old.calls.calls d) ∙ w.1)

  same-heard : (h : List Entry) (e : Entry) (old new : View) → Rows setup h old → SentWaits e old → ((xid : ℕ) → purpose_at xid new.calls.calls ≡ purpose_at xid old.calls.calls) → AllHeard h old
      → AllHeard (h ++ e ∷ []) new
  same-heard h e old new rows sends purposes all i xid s = by (At-cases h e i (Sent s.bytes) s.sent)
    where
      of : HeardFrom h xid i ⊎ Awaits xid old → HeardFrom (h ++ e ∷ []) xid i ⊎ Awaits xid new
      of (inl w) = inl (later-heard h e xid i w)
      of (inr w) = inr (w.0, purposes xid ∙ w.1)

      some-xid : (x y : ℕ) → HasXid s.bytes x → HasXid s.bytes y → x ≡ y
      some-xid x y p q = let same : Some x ≡ Some y = sym p ∙ q in cc

      by : At h i (Sent s.bytes) ⊎ ((i ≡ length h) × (e ≡ Sent s.bytes)) → HeardFrom (h ++ e ∷ []) xid i ⊎ Awaits xid new
      by (inl there) = of (all i xid (sent-back h e xid i (At-below h i (Sent s.bytes) there) s))
      by (inr here) =
          let w = sends s.bytes here.1 in
          let own : HasXid s.bytes w.0 = subst (λ (c : List ℕ). HasXid c w.0) w.3 (under setup old w.0 w.1 rows.sound w.2) in
          inr (w.1.purpose, purposes xid ∙ ap (λ (n : ℕ). purpose_at n old.calls.calls) (some-xid xid w.0 s.has own) ∙ ap (option_map (λ (z : Waiting Purpose). z.purpose)) w.2)

  pub keeps-heard : (machine_of : ℕ → Op → Machine) → KeepsWatching machine_of setup AllHeard
  keeps-heard machine_of = record {
    fresh = λ h v may up fresh i xid s. absurd (up.unbegun s.b s.lane s.line s.op s.began);
    stirs = λ h old new at known t all. (stirs-stay (Heeds h) (heeds-stays h) old new at t (record { rows = known.rows; all = all })).all;
    starts = λ h old new lane line op now r found known idle fits t all.
        (starts-stay (Heeds (h ++ Began lane line op ∷ [])) (heeds-stays (h ++ Began lane line op ∷ [])) (counted old now) new lane (machine_of lane op)
        (λ state shelf. record {
          rows = same-rows setup (h ++ Began lane line op ∷ []) old (record (counted old now) { lanes = old.lanes ++ record { number = lane; state = state } ∷ []; shelf = shelf }) refl
              (silent-grow setup h (Began lane line op) old (record { sent = λ bytes is. cc; came = λ bytes is. cc }) known.rows);
          all = all-later h (Began lane line op) old (λ bytes is. cc) all;
        }) t).all;
    takes = λ h old new rec xid call at r found known fin hears named waits there t all.
        (steps-stay (Heeds (h ++ Delivered rec ∷ [])) (heeds-stays (h ++ Delivered rec ∷ [])) (taken_one old xid) new at t.number t.machine t.after t.shelf t.next t.there t.leads (record {
          rows = rows-grow setup h (Delivered rec) (taken_one old xid) (taken-quiet setup h old rec xid known.rows named) (not-sent rec) (taken-rows setup h old xid known.rows);
          all = taken-heard h old rec xid named all;
        })).all;
    answers = λ h old new at lane line answer r found known later there open_ a all. subst (AllHeard (h ++ Answered lane line answer ∷ [])) (sym a.is) (all-later h (Answered lane line answer) old (λ bytes is. cc) all);
    same = λ h e old new r found known plain noted sends lanes shelf wsize calls all. same-heard h e old new known.rows sends calls.purposes all;
  }
