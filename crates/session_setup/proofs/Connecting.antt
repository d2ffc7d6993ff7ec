-- What connecting leads to.
use Rattle.std.proofs.Common.{inl, inr, ◌≡◌, ◌≤◌, ◌<◌, ◌+◌, ℕ, zero, suc, List, [], ◌∷◌, ◌++◌, length, Ok, Err, sym, ap, subst, ◌∙◌, append_assoc, arith}
use Rattle.std.proofs.lemmas.List.{append-nil}
use Rattle.world_model.specs.declared.entry.Entry.{Entry}
use Rattle.world_model.specs.declared.entry.Entry.TheVariants.{Dialed, Sent, Delivered, Failed}
use Rattle.world_model.specs.Entries.{At, ours}
use Rattle.world_model.specs.History.{History}
use Rattle.world_model.specs.Lost.{IsTraffic, sent, came, dialed, FailedDial, undialed}
use Rattle.world_model.specs.Told.{Adds}
use Rattle.world_model.proofs.Histories.{IsQuiet, quiet_by, steps_on_twice}
use Rattle.world_model.proofs.Places.{At-grow, At-below, At-last, At-cases, At-back, length_last}
use Rattle.session_setup.specs.declared.stop.Stop.TheVariants as stops
use Rattle.session_setup.specs.Exchanges.{AreStill, Connects}
use Rattle.session_setup.proofs.Stills.{still_more, still_append}

abbrev one : Entry → List Entry
one e = e ∷ []

-- ---- entries that are no traffic

calm_failed : IsTraffic Failed → ⊥
calm_failed (sent bytes e) = cc
calm_failed (came bytes e) = cc
calm_failed (dialed port e) = cc

calm_quiet : (e : Entry) → ours (e ∷ []) ≡ [] → IsTraffic e → ⊥
calm_quiet e q (sent bytes is) = let t : Sent bytes ∷ [] ≡ [] = subst (λ (d : Entry). ours (d ∷ []) ≡ []) is q in absurd cc
calm_quiet e q (came bytes is) = let t : Delivered bytes ∷ [] ≡ [] = subst (λ (d : Entry). ours (d ∷ []) ≡ []) is q in absurd cc
calm_quiet e q (dialed port is) = let t : Dialed port ∷ [] ≡ [] = subst (λ (d : Entry). ours (d ∷ []) ≡ []) is q in absurd cc

-- ---- failed dials in a row

-- so many dials in a row failed by the place to
abbrev pub Undialed : List Entry → ℕ → ℕ → Type 0
Undialed h zero to = Unit {0}
Undialed h (suc n) to = (at : ℕ) × FailedDial h at to × Undialed h n at

dial_grow : (h more : List Entry) (at to : ℕ) → to ≤ length h → FailedDial h at to → FailedDial (h ++ more) at to
dial_grow h more at to le f = record {
  port = f.port;
  failed = f.failed;
  dialed = At-grow h more at (Dialed f.port) f.dialed;
  is = At-grow h more f.failed Failed f.is;
  after = f.after;
  before = f.before;
  quiet = λ j e there after before. f.quiet j e (At-back h more j e there (omega (arith, before, le))) after before;
}

dial_on : (h : List Entry) (e : Entry) (at : ℕ) → (IsTraffic e → ⊥) → FailedDial h at (length h) → FailedDial (h ++ e ∷ []) at (length (h ++ e ∷ []))
dial_on h e at calm f = record {
  port = f.port;
  failed = f.failed;
  dialed = At-grow h (one e) at (Dialed f.port) f.dialed;
  is = At-grow h (one e) f.failed Failed f.is;
  after = f.after;
  before = omega (arith, f.before, length_last h e);
  quiet = λ j d there after before traffic.
      elim (At-cases h e j d there) [
        | inl l ↦ f.quiet j d l after (At-below h j d l) traffic
        | inr k ↦ calm (subst IsTraffic (sym k.1) traffic)
      ];
}

undialed_grow : (h more : List Entry) (n to : ℕ) → to ≤ length h → Undialed h n to → Undialed (h ++ more) n to
undialed_grow h more zero to le u = tt
undialed_grow h more (suc n) to le u = (u.0, dial_grow h more u.0 to le u.1, undialed_grow h more n u.0 (let a = u.1.after in let b = u.1.before in omega (arith, le, a, b)) u.2)

abbrev pub Dials : ℕ → List Entry → Type 0
Dials n h = Undialed h n (length h)

dials_on : (n : ℕ) (h : List Entry) (e : Entry) → (IsTraffic e → ⊥) → Dials n h → Dials n (h ++ e ∷ [])
dials_on zero h e calm u = tt
dials_on (suc n) h e calm u = (u.0, dial_on h e u.0 calm u.1, undialed_grow h (one e) n u.0 (let a = u.1.after in let b = u.1.before in omega (arith, a, b)) u.2)

-- one more was made, and nothing else since
pub record Dialing (port n : ℕ) (h : List Entry) : Type 0 where
  pub at : ℕ
  pub is : At h at (Dialed port)
  pub quiet : (j : ℕ) (e : Entry) → At h j e → at < j → IsTraffic e → ⊥
  pub before : Undialed h n at

dialing_on : (port n : ℕ) (h : List Entry) (e : Entry) → (IsTraffic e → ⊥) → Dialing port n h → Dialing port n (h ++ e ∷ [])
dialing_on port n h e calm d = record {
  at = d.at;
  is = At-grow h (one e) d.at (Dialed port) d.is;
  quiet = λ j f there after traffic.
      elim (At-cases h e j f there) [
        | inl l ↦ d.quiet j f l after traffic
        | inr k ↦ calm (subst IsTraffic (sym k.1) traffic)
      ];
  before = undialed_grow h (one e) n d.at (let l = At-below h d.at (Dialed port) d.is in omega (arith, l)) d.before;
}

dials_dialing : (port n : ℕ) (h : List Entry) → Dials n h → Dialing port n (h ++ Dialed port ∷ [])
dials_dialing port n h u = record {
  at = length h;
  is = At-last h (Dialed port);
  quiet = λ j e there after traffic. let l = At-below (h ++ Dialed port ∷ []) j e there in absurd (omega (arith, l, after, length_last h (Dialed port)));
  before = undialed_grow h (one (Dialed port)) n (length h) (omega arith) u;
}

dialing_failed : (port n : ℕ) (h : List Entry) → Dialing port n h → Dials (suc n) (h ++ Failed ∷ [])
dialing_failed port n h d = (
  d.at,
  record {
    port = port;
    failed = length h;
    dialed = At-grow h (one Failed) d.at (Dialed port) d.is;
    is = At-last h Failed;
    after = At-below h d.at (Dialed port) d.is;
    before = omega (arith, length_last h Failed);
    quiet = λ j e there after before traffic.
        elim (At-cases h Failed j e there) [
          | inl l ↦ d.quiet j e l after traffic
          | inr k ↦ calm_failed (subst IsTraffic (sym k.1) traffic)
        ];
  },
  undialed_grow h (one Failed) n d.at (let l = At-below h d.at (Dialed port) d.is in omega (arith, l)) d.before,
)

dials_quiet : (n : ℕ) → IsQuiet (Dials n)
dials_quiet n = quiet_by (Dials n) (λ h e q u. dials_on n h e (calm_quiet e q) u)

dialing_quiet : (port n : ℕ) → IsQuiet (Dialing port n)
dialing_quiet port n = quiet_by (Dialing port n) (λ h e q u. dialing_on port n h e (calm_quiet e q) u)

-- ---- what a dial leads to

-- still entries came
pub record Goes (h k : List Entry) : Type 0 where
  pub more : List Entry
  pub is : k ≡ h ++ more
  pub still : AreStill more

-- and one more dial failed
pub record Fails (h k : List Entry) : Type 0 where
  pub goes : Goes h k
  pub run : (n : ℕ) → Dials n h → Dials (suc n) k

pub goes_by : (a b : History) (es : List Entry) → AreStill es → Adds a b es → Goes a.entries b.entries
goes_by a b es s p = record { more = p.more; is = p.grown; still = still_more p.more es p.seen s }

pub fails_by : (port : ℕ) (a b : History) → Adds a b (Dialed port ∷ Failed ∷ []) → Fails a.entries b.entries
fails_by port a b p = record {
  goes = goes_by a b (Dialed port ∷ Failed ∷ []) (tt, (tt, tt)) p;
  run = λ n u. steps_on_twice (Dials n) (Dialing port n) (Dials (suc n)) a b (Dialed port) Failed (dials_quiet n) (dialing_quiet port n) (dials_quiet (suc n)) (dials_dialing port n) (dialing_failed port n) p u;
}

-- ---- dials one after the other

pub record Tries (n : ℕ) (h k : List Entry) : Type 0 where
  pub goes : Goes h k
  pub run : Dials n k

goes_then : (h k l : List Entry) → Goes h k → Goes k l → Goes h l
goes_then h k l p q = record {
  more = p.more ++ q.more;
  is = q.is ∙ ap (λ (t : List Entry). t ++ q.more) p.is ∙ append_assoc h p.more q.more;
  still = still_append p.more q.more p.still q.still;
}

pub tries_none : (h : List Entry) → Tries 0 h h
tries_none h = record { goes = record { more = []; is = sym (append-nil h); still = tt }; run = tt }

pub tries_then : (n : ℕ) (h k l : List Entry) → Tries n h k → Fails k l → Tries (n + 1) h l
tries_then n h k l t f = record { goes = goes_then h k l t.goes f.goes; run = subst (λ (m : ℕ). Dials m l) (let e : suc n ≡ n + 1 = omega arith in e) (f.run n t.run) }

pub connects_ok : (n : ℕ) (h k l : List Entry) → Tries n h k → Goes k l → Connects (Ok tt) h l
connects_ok n h k l t g = let w = goes_then h k l t.goes g in record { more = w.more; is = w.is; still = w.still; lost = tt }

pub connects_memory : (n : ℕ) (h k l : List Entry) → Tries n h k → Goes k l → Connects (Err stops.Memory) h l
connects_memory n h k l t g = let w = goes_then h k l t.goes g in record { more = w.more; is = w.is; still = w.still; lost = tt }

pub connects_lost : (n : ℕ) (h k : List Entry) → n ≡ 4 → Tries n h k → Connects (Err stops.Lost) h k
connects_lost n h k four t = record {
  more = t.goes.more;
  is = t.goes.is;
  still = t.goes.still;
  lost = let u : Dials 4 k = subst (λ (m : ℕ). Dials m k) four t.run in undialed u.2.2.2.0 u.2.2.0 u.2.0 u.0 u.2.2.2.1 u.2.2.1 u.2.1 u.1;
}
