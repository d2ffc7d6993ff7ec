-- Dials that fail one after the other lose a session, and leave its core as it is.
use Rattle.std.proofs.Common.{◌≡◌, ◌≤◌, ◌<◌, ◌+◌, inl, inr, ℕ, suc, List, [], ◌∷◌, ◌++◌, length, Bool, true, false, Result, Ok, Err, refl, sym, ap, subst, ◌∙◌, arith, append-nil, append_assoc}
use Rattle.xdr_codec.specs.declared.blob.Memory.{Memory}
use Rattle.world_model.specs.declared.entry.Entry.{Entry}
use Rattle.world_model.specs.declared.entry.Entry.TheVariants.{Began, Answered, Dialed, Sent, Executed, Foreign, Flushed, Reboot, Delivered, Failed, Clock}
use Rattle.world_model.specs.Entries.{At, ours}
use Rattle.world_model.specs.History.{History}
use Rattle.world_model.specs.Lost.{FailedDial, IsTraffic, sent, came, dialed, Loses, undialed}
use Rattle.world_model.specs.Told.{Adds}
use Rattle.world_model.proofs.Histories.{IsQuiet, quiet_by, quietly, steps_on, steps_on_twice}
use Rattle.world_model.proofs.Places.{At-grow, At-below, At-back, At-last, At-cases, length_last}
use Rattle.link_dials.specs.Sendings.{LatestIs}
use Rattle.lane_session.specs.Bonds.{steps, Redials, RedialsBy}
use Rattle.lane_session.specs.Running.{marks, Quietly}

-- ---- entries that leave the core as it is

pub steps-append : (h es : List Entry) → steps (h ++ es) ≡ steps h ++ steps es
steps-append [] es = refl
steps-append (Began l line op ∷ h) es = ap (λ (t : List Entry). Began l line op ∷ t) (steps-append h es)
steps-append (Answered l line a ∷ h) es = ap (λ (t : List Entry). Answered l line a ∷ t) (steps-append h es)
steps-append (Dialed port ∷ h) es = steps-append h es
steps-append (Sent bytes ∷ h) es = ap (λ (t : List Entry). Sent bytes ∷ t) (steps-append h es)
steps-append (Executed xid call reply ∷ h) es = steps-append h es
steps-append (Foreign call reply ∷ h) es = steps-append h es
steps-append (Flushed file from len ∷ h) es = steps-append h es
steps-append (Reboot verf ∷ h) es = steps-append h es
steps-append (Delivered bytes ∷ h) es = ap (λ (t : List Entry). Delivered bytes ∷ t) (steps-append h es)
steps-append (Failed ∷ h) es = steps-append h es
steps-append (Clock ms ∷ h) es = ap (λ (t : List Entry). Clock ms ∷ t) (steps-append h es)

pub steps-ours : (es : List Entry) → steps es ≡ steps (ours es)
steps-ours [] = refl
steps-ours (Began l line op ∷ es) = ap (λ (t : List Entry). Began l line op ∷ t) (steps-ours es)
steps-ours (Answered l line a ∷ es) = ap (λ (t : List Entry). Answered l line a ∷ t) (steps-ours es)
steps-ours (Dialed port ∷ es) = steps-ours es
steps-ours (Sent bytes ∷ es) = ap (λ (t : List Entry). Sent bytes ∷ t) (steps-ours es)
steps-ours (Executed xid call reply ∷ es) = steps-ours es
steps-ours (Foreign call reply ∷ es) = steps-ours es
steps-ours (Flushed file from len ∷ es) = steps-ours es
steps-ours (Reboot verf ∷ es) = steps-ours es
steps-ours (Delivered bytes ∷ es) = ap (λ (t : List Entry). Delivered bytes ∷ t) (steps-ours es)
steps-ours (Failed ∷ es) = steps-ours es
steps-ours (Clock ms ∷ es) = ap (λ (t : List Entry). Clock ms ∷ t) (steps-ours es)

-- none of them is a mark
pub steps-marks : (es : List Entry) → steps es ≡ [] → marks es ≡ []
steps-marks [] q = refl
steps-marks (Began l line op ∷ es) q = absurd cc
steps-marks (Answered l line a ∷ es) q = absurd cc
steps-marks (Dialed port ∷ es) q = steps-marks es q
steps-marks (Sent bytes ∷ es) q = absurd cc
steps-marks (Executed xid call reply ∷ es) q = steps-marks es q
steps-marks (Foreign call reply ∷ es) q = steps-marks es q
steps-marks (Flushed file from len ∷ es) q = steps-marks es q
steps-marks (Reboot verf ∷ es) q = steps-marks es q
steps-marks (Delivered bytes ∷ es) q = absurd cc
steps-marks (Failed ∷ es) q = steps-marks es q
steps-marks (Clock ms ∷ es) q = absurd cc

-- A fact that each such entry keeps is kept by any number of them.
pub still_by : (P : List Entry → Type 0) → ((h : List Entry) (e : Entry) → steps (e ∷ []) ≡ [] → P h → P (h ++ e ∷ [])) → (h more : List Entry) → steps more ≡ [] → P h → P (h ++ more)
still_by P one h [] q p = rw append-nil p
still_by P one h (e ∷ more) q p = let k = apart e more q in
    subst P (append_assoc h (e ∷ []) more) (still_by P one (h ++ e ∷ []) more k.1 (one h e k.0 p))
  where
    apart : (d : Entry) (ds : List Entry) → steps (d ∷ ds) ≡ [] → (steps (d ∷ []) ≡ []) × (steps ds ≡ [])
    apart (Began l line op) ds q = absurd cc
    apart (Answered l line a) ds q = absurd cc
    apart (Dialed port) ds q = (refl, q)
    apart (Sent bytes) ds q = absurd cc
    apart (Executed xid call reply) ds q = (refl, q)
    apart (Foreign call reply) ds q = (refl, q)
    apart (Flushed file from len) ds q = (refl, q)
    apart (Reboot verf) ds q = (refl, q)
    apart (Delivered bytes) ds q = absurd cc
    apart Failed ds q = (refl, q)
    apart (Clock ms) ds q = absurd cc

-- the server's own are among them
pub still-ours : (es fs : List Entry) → ours es ≡ fs → steps fs ≡ [] → steps es ≡ []
still-ours es fs seen q = steps-ours es ∙ ap steps seen ∙ q

-- ---- only dials were made

pub redials-none : (h : List Entry) → Redials h h
redials-none h = record { more = []; is = sym (append-nil h); still = refl; each = λ j at late. absurd (let below = At-below h j Failed at in omega (arith, below, late)) }

latest-on : (h more : List Entry) (place : ℕ) (e : Entry) → place ≤ length h → LatestIs h place e → LatestIs (h ++ more) place e
latest-on h more place e le l = record {
  at = l.at;
  earlier = l.earlier;
  is = At-grow h more l.at e l.is;
  none = λ j d at after before. l.none j d (At-back h more j d at (omega (arith, le, before))) after before;
}

-- one entry more
redials-one : (h k : List Entry) (e : Entry) → Redials h k → steps (e ∷ []) ≡ [] → (e ≡ Failed → (port : ℕ) × LatestIs k (length k) (Dialed port)) → Redials h (k ++ e ∷ [])
redials-one h k e r q dial = record {
  more = r.more ++ e ∷ [];
  is = ap (λ (t : List Entry). t ++ e ∷ []) r.is ∙ append_assoc h r.more (e ∷ []);
  still = steps-append r.more (e ∷ []) ∙ ap (λ (t : List Entry). t ++ steps (e ∷ [])) r.still ∙ q;
  each = λ j at late. elim (At-cases k e j Failed at) [
    | inl there ↦ (let l = r.each j there late in (l.0, latest-on k (e ∷ []) j (Dialed l.0) (let b = At-below k j Failed there in omega (arith, b)) l.1))
    | inr now ↦ (let l = dial now.1 in (l.0, subst (λ (n : ℕ). LatestIs (k ++ e ∷ []) n (Dialed l.0)) (sym now.0) (latest-on k (e ∷ []) (length k) (Dialed l.0) (omega arith) l.1)))
  ];
}

-- the server's own entries are no failures
quiet-failed : (e : Entry) → ours (e ∷ []) ≡ [] → e ≡ Failed → ⊥
quiet-failed e q is = let here : ours (Failed ∷ []) ≡ [] = subst (λ (d : Entry). ours (d ∷ []) ≡ []) is q in cc

redials-still : (h : List Entry) → IsQuiet (Redials h)
redials-still h = quiet_by (Redials h) (λ k e q r. redials-one h k e r (still-ours (e ∷ []) [] q refl) (λ is. absurd (quiet-failed e q is)))

-- a dial more
redials-dial : (h : List Entry) (port : ℕ) (a b : History) → Adds a b (Dialed port ∷ []) → Redials h a.entries → Redials h b.entries
redials-dial h port a b p r = steps_on (Redials h) (Redials h) a b (Dialed port) (redials-still h) (redials-still h) (λ k x. redials-one h k (Dialed port) x refl (λ is. absurd cc)) p r

-- nothing of the client's
pub redials-idle : (h : List Entry) (a b : History) → Adds a b [] → Redials h a.entries → Redials h b.entries
redials-idle h a b p r = quietly (Redials h) a b (redials-still h) p r

pub redials-quietly : (h k : List Entry) → Redials h k → Quietly h k
redials-quietly h k r = record { more = r.more; is = r.is; unmarked = steps-marks r.more r.still }

-- ---- dials that failed

-- the last n dials failed, one after the other
pub data DialRun (h : List Entry) : ℕ → ℕ → Type 0 where
  no_dial : (n to : ℕ) → n ≡ 0 → DialRun h n to
  one_dial : (n to m at : ℕ) → n ≡ suc m → DialRun h m at → FailedDial h at to → DialRun h n to

-- the server's own entries are no traffic
no-traffic : (e : Entry) → ours (e ∷ []) ≡ [] → IsTraffic e → ⊥
no-traffic e q (sent bytes is) = let here : ours (Sent bytes ∷ []) ≡ [] = subst (λ (d : Entry). ours (d ∷ []) ≡ []) is q in cc
no-traffic e q (came bytes is) = let here : ours (Delivered bytes ∷ []) ≡ [] = subst (λ (d : Entry). ours (d ∷ []) ≡ []) is q in cc
no-traffic e q (dialed port is) = let here : ours (Dialed port ∷ []) ≡ [] = subst (λ (d : Entry). ours (d ∷ []) ≡ []) is q in cc

failed-idle : IsTraffic Failed → ⊥
failed-idle (sent bytes is) = cc
failed-idle (came bytes is) = cc
failed-idle (dialed port is) = cc

module _ (h : List Entry) (e : Entry) where
  long : length (h ++ e ∷ []) ≡ length h + 1
  long = length_last h e

  dial-grow : (at to : ℕ) → to ≤ length h → FailedDial h at to → FailedDial (h ++ e ∷ []) at to
  dial-grow at to within d = record {
    port = d.port;
    failed = d.failed;
    dialed = At-grow h (e ∷ []) at (Dialed d.port) d.dialed;
    is = At-grow h (e ∷ []) d.failed Failed d.is;
    after = d.after;
    before = d.before;
    quiet = λ j entry there after before traffic. d.quiet j entry (At-back h (e ∷ []) j entry there (omega (arith, before, within))) after before traffic;
  }

  -- an entry of no traffic more
  dial-wide : (at : ℕ) → (IsTraffic e → ⊥) → FailedDial h at (length h) → FailedDial (h ++ e ∷ []) at (length (h ++ e ∷ []))
  dial-wide at idle d = record {
    port = d.port;
    failed = d.failed;
    dialed = At-grow h (e ∷ []) at (Dialed d.port) d.dialed;
    is = At-grow h (e ∷ []) d.failed Failed d.is;
    after = d.after;
    before = let b = d.before in omega (arith, b, long);
    quiet = λ j entry there after before traffic. elim (At-cases h e j entry there) [
      | inl p ↦ d.quiet j entry p after (At-below h j entry p) traffic
      | inr q ↦ idle (subst IsTraffic (sym q.1) traffic)
    ];
  }

  run-grow : (n to : ℕ) → to ≤ length h → DialRun h n to → DialRun (h ++ e ∷ []) n to
  run-grow _ _ within (no_dial n to none) = no_dial n to none
  run-grow _ _ within (one_dial n to m at is run d) =
      let below = At-below h at (Dialed d.port) d.dialed in
      one_dial n to m at is (run-grow m at (omega (arith, below)) run) (dial-grow at to within d)

  run-wide : (n to : ℕ) → to ≡ length h → (IsTraffic e → ⊥) → DialRun h n to → DialRun (h ++ e ∷ []) n (length (h ++ e ∷ []))
  run-wide _ _ end idle (no_dial n to none) = no_dial n (length (h ++ e ∷ [])) none
  run-wide _ _ end idle (one_dial n to m at is run d) =
      let below = At-below h at (Dialed d.port) d.dialed in
      one_dial n (length (h ++ e ∷ [])) m at is (run-grow m at (omega (arith, below)) run) (dial-wide at idle (subst (FailedDial h at) end d))

-- a dial was tried last, after n that failed
record Tries (n : ℕ) (h : List Entry) : Type 0 where
  pub at : ℕ
  pub port : ℕ
  pub there : At h at (Dialed port)
  pub last : (j : ℕ) (entry : Entry) → At h j entry → at < j → ours (entry ∷ []) ≡ []
  pub quiet : (j : ℕ) (entry : Entry) → At h j entry → at < j → IsTraffic entry → ⊥
  pub run : DialRun h n at

tries-first : (h : List Entry) (port n : ℕ) → DialRun h n (length h) → Tries n (h ++ Dialed port ∷ [])
tries-first h port n run = record {
  at = length h;
  port = port;
  there = At-last h (Dialed port);
  last = λ j entry there after. let below = At-below (h ++ Dialed port ∷ []) j entry there in let l = length_last h (Dialed port) in absurd (omega (arith, below, l, after));
  quiet = λ j entry there after traffic. let below = At-below (h ++ Dialed port ∷ []) j entry there in let l = length_last h (Dialed port) in omega (arith, below, l, after);
  run = run-grow h (Dialed port) n (length h) (omega arith) run;
}

tries-more : (h : List Entry) (e : Entry) (n : ℕ) → ours (e ∷ []) ≡ [] → (IsTraffic e → ⊥) → Tries n h → Tries n (h ++ e ∷ [])
tries-more h e n q idle t =
    let below = At-below h t.at (Dialed t.port) t.there in
    record {
      at = t.at;
      port = t.port;
      there = At-grow h (e ∷ []) t.at (Dialed t.port) t.there;
      last = λ j entry there after. elim (At-cases h e j entry there) [
        | inl p ↦ t.last j entry p after
        | inr now ↦ subst (λ (d : Entry). ours (d ∷ []) ≡ []) now.1 q
      ];
      quiet = λ j entry there after traffic. elim (At-cases h e j entry there) [
        | inl p ↦ t.quiet j entry p after traffic
        | inr q ↦ idle (subst IsTraffic (sym q.1) traffic)
      ];
      run = run-grow h e n t.at (omega (arith, below)) t.run;
    }

tries-failed : (h : List Entry) (n : ℕ) → Tries n h → DialRun (h ++ Failed ∷ []) (n + 1) (length (h ++ Failed ∷ []))
tries-failed h n t =
    let k : List Entry = h ++ Failed ∷ [] in
    let below = At-below h t.at (Dialed t.port) t.there in
    let l = length_last h Failed in
    one_dial (n + 1) (length k) n t.at (omega arith) (run-grow h Failed n t.at (omega (arith, below)) t.run) (record {
      port = t.port;
      failed = length h;
      dialed = At-grow h (Failed ∷ []) t.at (Dialed t.port) t.there;
      is = At-last h Failed;
      after = below;
      before = omega (arith, l);
      quiet = λ j entry there after before traffic. elim (At-cases h Failed j entry there) [
        | inl p ↦ t.quiet j entry p after traffic
        | inr q ↦ failed-idle (subst IsTraffic (sym q.1) traffic)
      ];
    })

tries-latest : (h : List Entry) (n : ℕ) (t : Tries n h) → LatestIs h (length h) (Dialed t.port)
tries-latest h n t = record {
  at = t.at;
  earlier = At-below h t.at (Dialed t.port) t.there;
  is = t.there;
  none = λ j d at after before. t.last j d at after;
}

-- ---- a dial of the link that failed

abbrev pub Dials : List Entry → ℕ → List Entry → Type 0
Dials h n k = Redials h k × DialRun k n (length k)

pub dials-none : (h : List Entry) → Dials h 0 h
dials-none h = (redials-none h, no_dial 0 (length h) refl)

dials-quiet : (h : List Entry) (n : ℕ) → IsQuiet (Dials h n)
dials-quiet h n = quiet_by (Dials h n) (λ k e q p. (redials-still h k (e ∷ []) q p.0, run-wide k e n (length k) refl (no-traffic e q) p.1))

tries-quiet : (h : List Entry) (n : ℕ) → IsQuiet (λ k. Redials h k × Tries n k)
tries-quiet h n = quiet_by (λ k. Redials h k × Tries n k) (λ k e q p. (redials-still h k (e ∷ []) q p.0, tries-more k e n q (no-traffic e q) p.1))

pub dials-more : (h : List Entry) (n port : ℕ) (a b : History) → Adds a b (Dialed port ∷ Failed ∷ []) → Dials h n a.entries → Dials h (n + 1) b.entries
dials-more h n port a b p d =
    steps_on_twice (Dials h n) (λ k. Redials h k × Tries n k) (Dials h (n + 1)) a b (Dialed port) Failed (dials-quiet h n) (tries-quiet h n) (dials-quiet h (n + 1))
    (λ k x. (redials-one h k (Dialed port) x.0 refl (λ is. absurd cc), tries-first k port n x.1))
    (λ k x. (redials-one h k Failed x.0 refl (λ is. (x.1.port, tries-latest k n x.1)), tries-failed k n x.1))
    p d

-- four dials in a row that failed lose a session
one-dial : (h : List Entry) (n to m : ℕ) → n ≡ suc m → DialRun h n to → (at : ℕ) × DialRun h m at × FailedDial h at to
one-dial h _ _ m e (no_dial n to none) = absurd (omega (arith, e, none))
one-dial h _ _ m e (one_dial n to k at is run d) = (at, subst (λ (i : ℕ). DialRun h i at) (omega (arith, e, is)) run, d)

pub four-dials : (h : List Entry) (to : ℕ) → DialRun h 4 to → Loses h to
four-dials h to run =
    let d = one-dial h 4 to 3 refl run in
    let c = one-dial h 3 d.0 2 refl d.1 in
    let b = one-dial h 2 c.0 1 refl c.1 in
    let a = one-dial h 1 b.0 0 refl b.1 in
    undialed a.0 b.0 c.0 d.0 a.2 b.2 c.2 d.2

-- ---- one dial after the other

pub redialed : (h : List Entry) (n port : ℕ) (a b : History) → Adds a b (Dialed port ∷ []) → Dials h n a.entries → RedialsBy (Ok true) h b.entries
redialed h n port a b p d = redials-dial h port a b p d.0

pub undialed-memory : (h : List Entry) (n : ℕ) (a b : History) → Adds a b [] → Dials h n a.entries → Redials h b.entries
undialed-memory h n a b p d = redials-idle h a b p d.0

pub all-undialed : (h k : List Entry) (n : ℕ) → n ≡ 4 → Dials h n k → RedialsBy (Ok false) h k
all-undialed h k n four d = (d.0, four-dials k (length k) (subst (λ (m : ℕ). DialRun k m (length k)) four d.1))

pub by-quietly : (result : Result Bool Memory) (h k : List Entry) → RedialsBy result h k → Quietly h k
by-quietly (Ok true) h k r = redials-quietly h k r
by-quietly (Ok false) h k r = redials-quietly h k r.0
by-quietly (Err e) h k r = redials-quietly h k r
