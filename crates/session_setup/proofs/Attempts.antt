-- The steps of one call: sent, failed, another record came, its reply came.
use Rattle.std.proofs.Common.{inl, inr, ◌≡◌, ◌≢◌, ◌≤◌, ◌<◌, ◌+◌, ℕ, zero, suc, true, false, eqb, List, [], ◌∷◌, ◌++◌, length, refl, sym, subst, arith}
use Rattle.std.proofs.lemmas.Bool.{eqb-true, eqb-false}
use Rattle.rpc_retry.specs.Held.{Held, next_xid}
use Rattle.world_model.specs.declared.entry.Entry.{Entry}
use Rattle.world_model.specs.declared.entry.Entry.TheVariants.{Sent, Delivered, Failed}
use Rattle.world_model.specs.declared.message.Call.{Call}
use Rattle.world_model.specs.Entries.{At}
use Rattle.world_model.specs.Heard.{Heard}
use Rattle.world_model.specs.Lost.{FailedAttempt, Loses, given_up}
use Rattle.world_model.specs.Messages.{HasXid, SpellsCall}
use Rattle.world_model.specs.Mounts.{Origin}
use Rattle.world_model.specs.Rows.{DropRun, begins, drops, WasSent}
use Rattle.world_model.specs.Waiting.{Waits, Drops, Answers}
use Rattle.world_model.proofs.Growth.{FirstSent-grow, Waits-back, DropRun-grow, Drops-grow, Heard-grow, Heard-wide}
use Rattle.world_model.proofs.Places.{At-grow, At-below, At-last, At-cases, At-back, length_last}
use Rattle.session_setup.specs.Exchanges.{IsStill, IsBase, Asks, IsFirst, FailedSo, Tried, untried, tried, Runs}
use Rattle.session_setup.proofs.Stills.{IsPlain, plain_still, plain_delivered, deaf_still, times-append}
use Rattle.session_setup.proofs.Bases.{one, record_grow, sent_is, one_number, WasSent-more, waits_before, base_plain, base_sent, times_again}

-- ---- runs of dropped records

run_on : (h : List Entry) (e : Entry) (n : ℕ) → ((b : List ℕ) → e ≡ Delivered b → ⊥) → DropRun h n (length h) → DropRun (h ++ e ∷ []) n (length (h ++ e ∷ []))
run_on h e n other run = by_run (length h) run refl
  where
    by_run : (to : ℕ) → DropRun h n to → to ≡ length h → DropRun (h ++ e ∷ []) n (length (h ++ e ∷ []))
    by_run to (begins _ _ z) is = begins n _ z
    by_run to (drops _ _ m at bytes s run d lt gap) is =
        drops n _ m at bytes s (DropRun-grow h (e ∷ []) m at (omega (arith, lt, is)) run) (Drops-grow h (e ∷ []) at bytes d) (omega (arith, lt, is, length_last h e)) (λ j b there after before.
        elim (At-cases h e j (Delivered b) there) [
          | inl a ↦ gap j b a after (let w = At-below h j (Delivered b) a in omega (arith, w, is))
          | inr k ↦ other b k.1
        ])

run_more : (h : List Entry) (n : ℕ) (bytes : List ℕ) → DropRun h n (length h) → Drops (h ++ Delivered bytes ∷ []) (length h) bytes → DropRun (h ++ Delivered bytes ∷ []) (suc n) (length (h ++ Delivered bytes ∷ []))
run_more h n bytes run d =
    drops (suc n) _ n (length h) bytes refl (DropRun-grow h (Delivered bytes ∷ []) n (length h) (omega arith) run) d (omega (arith, length_last h (Delivered bytes)))
    (λ j b there after before. omega (arith, after, before, length_last h (Delivered bytes)))

-- ---- the call that waits

-- at an entry that sends nothing, where the run of dropped records goes on so
asks_with : (o : Origin) (x : ℕ) (r : List ℕ) (times d d' : ℕ) (c : Held (Unit {0})) (h : List Entry) (e : Entry) → IsPlain e → DropRun (h ++ e ∷ []) d' (length (h ++ e ∷ [])) → Asks o x r times d c h
    → Asks o x r times d' c (h ++ e ∷ [])
asks_with o x r times d d' c h e plain run a = record {
  base = base_plain o c h e plain a.base;
  may = record_grow o c.cred c.first_xid h (one e) (length h) (length (h ++ e ∷ [])) r (omega (arith, length_last h e)) a.may;
  under = a.under;
  low = a.low;
  high = a.high;
  mine = λ i b at has. elim (At-cases h e i (Sent b) at) [ inl l ↦ a.mine i b l has | inr k ↦ absurd (plain.mute b k.1) ];
  others = λ y differs w. a.others y differs (waits_before h e y plain.mute w);
  each = λ y low high differs. WasSent-more h e y (a.each y low high differs);
  times_is = omega (arith, times-append x h (one e), plain.count x, a.times_is);
  drops = run;
}

pub asks_still : (o : Origin) (x : ℕ) (r : List ℕ) (times d : ℕ) (c : Held (Unit {0})) (h : List Entry) (e : Entry) → IsStill e → Asks o x r times d c h → Asks o x r times d c (h ++ e ∷ [])
asks_still o x r times d c h e s a = asks_with o x r times d d c h e (plain_still e s) (run_on h e d (deaf_still e s) a.drops) a

pub asks_drop : (o : Origin) (x : ℕ) (r : List ℕ) (times d : ℕ) (c : Held (Unit {0})) (h : List Entry) (bytes : List ℕ) → (HasXid bytes x → ⊥) → Asks o x r times d c h → Asks o x r times (suc d) c (h ++ Delivered bytes ∷ [])
asks_drop o x r times d c h bytes lacks a =
    asks_with o x r times d (suc d) c h (Delivered bytes) (plain_delivered bytes) (run_more h d bytes a.drops (record {
      got = At-last h (Delivered bytes);
      idle = λ y has w. idle y has (Waits-back h (one (Delivered bytes)) y (length h) (omega arith) w);
    })) a
  where
    idle : (y : ℕ) → HasXid bytes y → Waits h y (length h) → ⊥
    idle y has w =
        elim (eqb y x) as (λ t. eqb y x ≡ t → ⊥) [
          | true ↦ λ e. lacks (subst (λ (m : ℕ). HasXid bytes m) (eqb-true y x e) has)
          | false ↦ λ e. a.others y (eqb-false y x e) w
        ] refl

-- the record is sent
pub asks_sent : (o : Origin) (x : ℕ) (r : List ℕ) (times d : ℕ) (c : Held (Unit {0})) (h : List Entry) → times < 4 → ((g : ℕ) (reply : List ℕ) → Answers h g x reply → ⊥) → Asks o x r times d c h → Asks o x r (times + 1) d c (h ++ Sent r ∷ [])
asks_sent o x r times d c h few unanswered a = record {
  base = base_sent o x r c h (record { base = a.base; may = a.may; under = a.under; low = a.low; high = a.high; mine = a.mine; unanswered = unanswered; few = omega (arith, few, a.times_is) });
  may = record_grow o c.cred c.first_xid h (one (Sent r)) (length h) (length (h ++ Sent r ∷ [])) r (omega (arith, length_last h (Sent r))) a.may;
  under = a.under;
  low = a.low;
  high = a.high;
  mine = λ i b at has. elim (At-cases h (Sent r) i (Sent b) at) [ inl l ↦ a.mine i b l has | inr k ↦ sym (sent_is r b k.1) ];
  others = λ y differs w. other y differs w;
  each = λ y low high differs. WasSent-more h (Sent r) y (a.each y low high differs);
  times_is = omega (arith, times_again x h r a.under, a.times_is);
  drops = run_on h (Sent r) d (λ b e. cc) a.drops;
}
  where
    other : (y : ℕ) → y ≢ x → Waits (h ++ Sent r ∷ []) y (length (h ++ Sent r ∷ [])) → ⊥
    other y differs w =
        elim (At-cases h (Sent r) w.at (Sent w.bytes) w.sent) [
          | inl at ↦ a.others y differs (record {
            at = w.at;
            bytes = w.bytes;
            sent = at;
            under = w.under;
            before = At-below h w.at (Sent w.bytes) at;
            unanswered = λ j b there has after lt. w.unanswered j b (At-grow h (one (Sent r)) j (Delivered b) there) has after (omega (arith, lt, length_last h (Sent r)));
          })
          | inr k ↦ differs (sym (one_number w.bytes x y (subst (λ (t : List ℕ). HasXid t x) (sent_is r w.bytes k.1) a.under) w.under))
        ]

-- ---- its first transmission

first_on : (h : List Entry) (e : Entry) (x : ℕ) (r : List ℕ) (from : ℕ) → ((b : List ℕ) → e ≡ Delivered b → HasXid b x → ⊥) → IsFirst h x r from → IsFirst (h ++ e ∷ []) x r from
first_on h e x r from none f = record {
  sent = FirstSent-grow h (one e) from x r f.sent;
  silent = λ j b at has after. elim (At-cases h e j (Delivered b) at) [ inl l ↦ f.silent j b l has after | inr k ↦ none b k.1 has ];
}

first_sent : (h : List Entry) (x : ℕ) (r : List ℕ) → HasXid r x → ((i : ℕ) (b : List ℕ) → At h i (Sent b) → HasXid b x → ⊥) → IsFirst (h ++ Sent r ∷ []) x r (length h)
first_sent h x r under none = record {
  sent = record {
    sent = At-last h (Sent r);
    under = under;
    first = λ j b at has. elim (At-cases h (Sent r) j (Sent b) at) [ inl l ↦ absurd (none j b l has) | inr k ↦ omega (arith, k.0) ];
  };
  silent = λ j b at has after. let low = At-below (h ++ Sent r ∷ []) j (Delivered b) at in elim (At-cases h (Sent r) j (Delivered b) at) [ inl l ↦ (let below = At-below h j (Delivered b) l in omega (arith, below, after)) | inr k ↦ omega (arith, k.0, after) ];
}

first_unanswered : (h : List Entry) (x : ℕ) (r : List ℕ) (from g : ℕ) (reply : List ℕ) → IsFirst h x r from → Answers h g x reply → ⊥
first_unanswered h x r from g reply f a =
    let low = f.sent.first a.waits.at a.waits.bytes a.waits.sent a.waits.under in
    f.silent g reply a.got a.under (omega (arith, low, a.waits.before))

-- ---- its attempts

attempt_grow : (h more : List Entry) (x at to to' : ℕ) → to ≤ to' → FailedAttempt h x at to → FailedAttempt (h ++ more) x at to'
attempt_grow h more x at to to' le f = record {
  bytes = f.bytes;
  failed = f.failed;
  sent = At-grow h more at (Sent f.bytes) f.sent;
  under = f.under;
  is = At-grow h more f.failed Failed f.is;
  after = f.after;
  before = omega (arith, f.before, le);
}

failed_grow : (h more : List Entry) (x n from to : ℕ) → FailedSo h x n from to → FailedSo (h ++ more) x n from to
failed_grow h more x zero from to f = f
failed_grow h more x (suc n) from to f = (f.0, failed_grow h more x n from f.0 f.1, attempt_grow h more x f.0 to to (omega arith) f.2)

failed_wide : (h more : List Entry) (x m from to to' : ℕ) → to ≤ to' → FailedSo h x (suc m) from to → FailedSo (h ++ more) x (suc m) from to'
failed_wide h more x m from to to' le f = (f.0, failed_grow h more x m from f.0 f.1, attempt_grow h more x f.0 to to' le f.2)

pub tried_still : (x : ℕ) (r : List ℕ) (n : ℕ) (h : List Entry) (e : Entry) → IsStill e → Tried h x r n → Tried (h ++ e ∷ []) x r n
tried_still x r n h e s (untried z none) = untried z (λ i b at has. elim (At-cases h e i (Sent b) at) [ inl l ↦ none i b l has | inr k ↦ (plain_still e s).mute b k.1 ])
tried_still x r n h e s (tried m from is first f) =
    let g : FailedSo h x (suc m) from (length h) = subst (λ (k : ℕ). FailedSo h x k from (length h)) is f in
    tried m from is (first_on h e x r from (λ b k has. deaf_still e s b k) first)
    (subst (λ (k : ℕ). FailedSo (h ++ e ∷ []) x k from (length (h ++ e ∷ []))) (sym is) (failed_wide h (one e) x m from (length h) (length (h ++ e ∷ [])) (omega (arith, length_last h e)) g))

pub runs_still : (x : ℕ) (r : List ℕ) (n : ℕ) (h : List Entry) (e : Entry) → ((b : List ℕ) → e ≡ Delivered b → HasXid b x → ⊥) → Runs h x r n → Runs (h ++ e ∷ []) x r n
runs_still x r n h e none s = record { from = s.from; last = s.last; first = first_on h e x r s.from none s.first; at_last = At-grow h (one e) s.last (Sent r) s.at_last; failed = failed_grow h (one e) x n s.from s.last s.failed }

pub tried_unanswered : (h : List Entry) (x : ℕ) (r : List ℕ) (n g : ℕ) (reply : List ℕ) → Tried h x r n → Answers h g x reply → ⊥
tried_unanswered h x r n g reply (untried z none) a = none a.waits.at a.waits.bytes a.waits.sent a.waits.under
tried_unanswered h x r n g reply (tried m from is first f) a = first_unanswered h x r from g reply first a

-- the record is sent: an attempt runs
pub tried_sent : (h : List Entry) (x : ℕ) (r : List ℕ) (n : ℕ) → HasXid r x → Tried h x r n → Runs (h ++ Sent r ∷ []) x r n
tried_sent h x r n under (untried z none) = record {
  from = length h;
  last = length h;
  first = first_sent h x r under none;
  at_last = At-last h (Sent r);
  failed = subst (λ (k : ℕ). FailedSo (h ++ Sent r ∷ []) x k (length h) (length h)) (sym z) refl;
}
tried_sent h x r n under (tried m from is first f) = record {
  from = from;
  last = length h;
  first = first_on h (Sent r) x r from (λ b k has. cc) first;
  at_last = At-last h (Sent r);
  failed = failed_grow h (one (Sent r)) x n from (length h) f;
}

-- a failure ends it
pub runs_failed : (h : List Entry) (x : ℕ) (r : List ℕ) (n : ℕ) → HasXid r x → Runs h x r n → Tried (h ++ Failed ∷ []) x r (n + 1)
runs_failed h x r n under s =
    tried n s.from (omega arith) (first_on h Failed x r s.from (λ b k has. cc) s.first)
    (subst (λ (k : ℕ). FailedSo (h ++ Failed ∷ []) x k s.from (length (h ++ Failed ∷ []))) (let e : suc n ≡ n + 1 = omega arith in e) (
      s.last,
      failed_grow h (one Failed) x n s.from s.last s.failed,
      record {
        bytes = r;
        failed = length h;
        sent = At-grow h (one Failed) s.last (Sent r) s.at_last;
        under = under;
        is = At-last h Failed;
        after = At-below h s.last (Sent r) s.at_last;
        before = omega (arith, length_last h Failed);
      },
    ))

-- the fourth failure loses the session
pub tried_lost : (h : List Entry) (x : ℕ) (r : List ℕ) (n : ℕ) → n ≡ 4 → Tried h x r n → Loses h (length h)
tried_lost h x r n four (untried z none) = absurd (omega (arith, four, z))
tried_lost h x r n four (tried m from is first f) =
    let g : FailedSo h x 4 from (length h) = subst (λ (k : ℕ). FailedSo h x k from (length h)) four f in
    given_up x g.1.1.1.0 g.1.1.0 g.1.0 g.0 g.1.1.1.2 g.1.1.2 g.1.2 g.2
    (λ j b at has after before. first.silent j b at has (let e : from ≡ g.1.1.1.0 = g.1.1.1.1 in omega (arith, e, after)))

pub tried_was : (h : List Entry) (x : ℕ) (r : List ℕ) (m : ℕ) → Tried h x r (m + 1) → WasSent h x (length h)
tried_was h x r m (untried z none) = absurd (omega (arith, z))
tried_was h x r m (tried k from is first f) = record { at = from; bytes = r; sent = first.sent.sent; under = first.sent.under; before = At-below h from (Sent r) first.sent.sent }

pub runs_was : (h : List Entry) (x : ℕ) (r : List ℕ) (n : ℕ) → Runs h x r n → WasSent h x (length h)
runs_was h x r n s = record { at = s.from; bytes = r; sent = s.first.sent.sent; under = s.first.sent.under; before = At-below h s.from (Sent r) s.first.sent.sent }

pub runs_unanswered : (h : List Entry) (x : ℕ) (r : List ℕ) (n g : ℕ) (reply : List ℕ) → Runs h x r n → Answers h g x reply → ⊥
runs_unanswered h x r n g reply s a = first_unanswered h x r s.from g reply s.first a

-- ---- its reply

-- the call is answered, and none waits
pub record IsTaken (o : Origin) (x : ℕ) (r bytes : List ℕ) (c : Held (Unit {0})) (h : List Entry) : Type 0 where
  pub base : IsBase o c h
  pub idle : (y : ℕ) → Waits h y (length h) → ⊥
  pub each : (y : ℕ) → c.first_xid ≤ y → y < next_xid c → WasSent h y (length h)
  pub heard : (call : Call) → SpellsCall x call r → Heard h 0 (length h) call x bytes

pub taken_still : (o : Origin) (x : ℕ) (r bytes : List ℕ) (c : Held (Unit {0})) (h : List Entry) (e : Entry) → IsStill e → IsTaken o x r bytes c h → IsTaken o x r bytes c (h ++ e ∷ [])
taken_still o x r bytes c h e s t = record {
  base = base_plain o c h e (plain_still e s) t.base;
  idle = λ y w. t.idle y (waits_before h e y (plain_still e s).mute w);
  each = λ y low high. WasSent-more h e y (t.each y low high);
  heard = λ call spells. Heard-wide (h ++ e ∷ []) 0 (length h) 0 (length (h ++ e ∷ [])) call x bytes (omega arith) (omega (arith, length_last h e)) (Heard-grow h (one e) 0 (length h) call x bytes (t.heard call spells));
}

pub runs_taken : (o : Origin) (x : ℕ) (r bytes : List ℕ) (n times d : ℕ) (c : Held (Unit {0})) (h : List Entry) → HasXid bytes x → Asks o x r times d c h → Runs h x r n → IsTaken o x r bytes c (h ++ Delivered bytes ∷ [])
runs_taken o x r bytes n times d c h has a s = record { base = base_plain o c h (Delivered bytes) (plain_delivered bytes) a.base; idle = idle; each = each; heard = heard }
  where
    k : List Entry
    k = h ++ Delivered bytes ∷ []

    idle : (y : ℕ) → Waits (h ++ Delivered bytes ∷ []) y (length (h ++ Delivered bytes ∷ [])) → ⊥
    idle y w =
        elim (eqb y x) as (λ t. eqb y x ≡ t → ⊥) [
          | true ↦ λ e.
              let same = eqb-true y x e in
              let old = waits_before h (Delivered bytes) y (plain_delivered bytes).mute w in
              elim (At-cases h (Delivered bytes) w.at (Sent w.bytes) w.sent) [
                | inl at ↦ w.unanswered (length h) bytes (At-last h (Delivered bytes)) (subst (λ (m : ℕ). HasXid bytes m) (sym same) has) (At-below h w.at (Sent w.bytes) at) (omega (arith, length_last h (Delivered bytes)))
                | inr new ↦ (plain_delivered bytes).mute w.bytes new.1
              ]
          | false ↦ λ e. a.others y (eqb-false y x e) (waits_before h (Delivered bytes) y (plain_delivered bytes).mute w)
        ] refl

    each : (y : ℕ) → c.first_xid ≤ y → y < next_xid c → WasSent (h ++ Delivered bytes ∷ []) y (length (h ++ Delivered bytes ∷ []))
    each y low high =
        elim (eqb y x) as (λ t. eqb y x ≡ t → WasSent (h ++ Delivered bytes ∷ []) y (length (h ++ Delivered bytes ∷ []))) [
          | true ↦ λ e. WasSent-more h (Delivered bytes) y (subst (λ (m : ℕ). WasSent h m (length h)) (sym (eqb-true y x e)) (runs_was h x r n s))
          | false ↦ λ e. WasSent-more h (Delivered bytes) y (a.each y low high (eqb-false y x e))
        ] refl

    heard : (call : Call) → SpellsCall x call r → Heard (h ++ Delivered bytes ∷ []) 0 (length (h ++ Delivered bytes ∷ [])) call x bytes
    heard call spells = record {
      sent_at = s.from;
      record_sent = r;
      got_at = length h;
      sent = FirstSent-grow h (one (Delivered bytes)) s.from x r s.first.sent;
      spells = spells;
      got = record {
        got = At-last h (Delivered bytes);
        under = has;
        waits = record {
          at = s.from;
          bytes = r;
          sent = At-grow h (one (Delivered bytes)) s.from (Sent r) s.first.sent.sent;
          under = a.under;
          before = At-below h s.from (Sent r) s.first.sent.sent;
          unanswered = λ j b there under lt below. s.first.silent j b (At-back h (one (Delivered bytes)) j (Delivered b) there below) under lt;
        };
      };
      after = omega arith;
      later = At-below h s.from (Sent r) s.first.sent.sent;
      before = omega (arith, length_last h (Delivered bytes));
    }
