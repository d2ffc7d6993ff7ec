-- A lost session has one of three causes.
use Rattle.core_facts.proofs.Prelude.{◌≡◌, ◌≤◌, inl, inr, ℕ, suc, List, [], ◌∷◌, ◌++◌, length, true, false, Option, Some, option_map, refl, sym, ap, subst, ◌∙◌, arith, Waiting, failed_after, next_xid, waiting_at, Entry, Began, Answered, Dialed, Sent, Executed, Foreign, Flushed, Reboot, Delivered, Failed, Clock, Op, IsLost, At-grow, At-below, At-back, Machine, Purpose, Setup, failed_view, lost, View, StepsTo, Reaches, begins, goes, loses, last_reading, Tried, unsent, runs}
use Rattle.rpc_retry.specs.Waiting.{first_given_up, failed_call}
use Rattle.world_model.specs.Lost.{FailedAttempt, FailedDial, Loses, given_up, undialed, dropped}
use Rattle.core_facts.specs.Tries.{FailedTries, one, more, ended}
use Rattle.rpc_retry.proofs.GivenUp.{oldest_given_up}
use Rattle.rpc_retry.proofs.Lookups.{all_failed}
use Rattle.world_model.specs.Rows.{most_dropped}
use Rattle.world_model.proofs.Growth.{DropRun-grow}
use Rattle.core_facts.proofs.Cases as cases
use Rattle.core_facts.proofs.Cases.{Heard, replied, heard, sent_now, FailedNow, goes_on, gives_up, failed_now, answered_now, taken_one}
use Rattle.core_facts.proofs.Grown.{longer, attempt-grow}
use Rattle.core_facts.proofs.Rows.{Rows, rows-step, reached-rows}
use Rattle.core_facts.proofs.Sound.{Sound, reached-sound}
use Rattle.core_facts.proofs.Walks.{Stays, begins-stay, hears-for-stay}

-- ---- a cause goes on being shown

dial-grow : (h : List Entry) (e : Entry) (at to : ℕ) → to ≤ length h → FailedDial h at to → FailedDial (h ++ e ∷ []) at to
dial-grow h e at to within d = record {
  port = d.port;
  failed = d.failed;
  dialed = At-grow h (e ∷ []) at (Dialed d.port) d.dialed;
  is = At-grow h (e ∷ []) d.failed Failed d.is;
  after = d.after;
  before = d.before;
  quiet = λ j entry there after before traffic. d.quiet j entry (At-back h (e ∷ []) j entry there (omega (arith, before, within))) after before traffic;
}

-- the place of a dial lies in the history
dialed-within : (h : List Entry) (at to : ℕ) → FailedDial h at to → at ≤ length h
dialed-within h at to d = let below = At-below h at (Dialed d.port) d.dialed in omega (arith, below)

pub loses-grow : (h : List Entry) (e : Entry) (to : ℕ) → to ≤ length h → Loses h to → Loses (h ++ e ∷ []) to
loses-grow h e to within (given_up xid a b c d first second third fourth unheard) =
    given_up xid a b c d (attempt-grow h e xid a b first) (attempt-grow h e xid b c second) (attempt-grow h e xid c d third) (attempt-grow h e xid d to fourth)
    (λ j bytes there has after before. unheard j bytes (At-back h (e ∷ []) j (Delivered bytes) there (omega (arith, before, within))) has after before)
loses-grow h e to within (undialed a b c d first second third fourth) =
    undialed a b c d (dial-grow h e a b (dialed-within h b c second) first) (dial-grow h e b c (dialed-within h c d third) second)
    (dial-grow h e c d (dialed-within h d to fourth) third) (dial-grow h e d to within fourth)
loses-grow h e to within (dropped run) = dropped (DropRun-grow h (e ∷ []) most_dropped to within run)

pub lost-grow : (h : List Entry) (e : Entry) → IsLost h (length h) → IsLost (h ++ e ∷ []) (length (h ++ e ∷ []))
lost-grow h e l = record { to = l.to; by = let long = longer h e in let within = l.by in omega (arith, long, within); loses = loses-grow h e l.to l.by l.loses }

-- ---- four attempts

none-failed : (h : List Entry) (xid n from to : ℕ) → n ≡ 0 → FailedTries h xid n from to → ⊥
none-failed h xid _ _ _ none (one n from to is a) = omega (arith, none, is)
none-failed h xid _ _ _ none (more n from to m at is t a) = omega (arith, none, is)

only-one : (h : List Entry) (xid n from to : ℕ) → n ≡ 1 → FailedTries h xid n from to → FailedAttempt h xid from to
only-one h xid _ _ _ e (one n from to is a) = a
only-one h xid _ _ _ e (more n from to m at is t a) = absurd (none-failed h xid m from at (omega (arith, e, is)) t)

-- the last of several attempts, and those before it
pub record Last (h : List Entry) (xid n from to : ℕ) : Type 0 where
  pub at : ℕ
  pub before : FailedTries h xid n from at
  pub last : FailedAttempt h xid at to

last-of : (h : List Entry) (xid n from to m : ℕ) → n ≡ suc (suc m) → FailedTries h xid n from to → Last h xid (suc m) from to
last-of h xid _ _ _ m e (one n from to is a) = absurd (omega (arith, e, is))
last-of h xid _ _ _ m e (more n from to k at is t a) = record { at = at; before = subst (λ (i : ℕ). FailedTries h xid i from at) (omega (arith, e, is)) t; last = a }

four-lose : (h : List Entry) (xid : ℕ) (call : Waiting Purpose) → call.attempts ≡ 4 → call.running ≡ false → Tried h xid call → Loses h (length h)
four-lose h xid call four idle (unsent none u) = absurd (omega (arith, four, none))
four-lose h xid call four idle (runs from running o t) = absurd (cc)
four-lose h xid call four idle (ended from stopped o t) =
    let d = last-of h xid call.attempts from (length h) 2 four t in
    let c = last-of h xid 3 from d.at 1 refl d.before in
    let b = last-of h xid 2 from c.at 0 refl c.before in
    given_up xid from b.at c.at d.at (only-one h xid 1 from b.at refl b.before) b.last c.last d.last (λ j bytes there has after before. o.unheard j bytes there has after)

-- ---- the steps

abbrev pub IsShown : List Entry → View → Type 0
IsShown h v = v.lost ≡ true → IsLost h (length h)

shown-stays : (h : List Entry) → Stays (IsShown h)
shown-stays h = record {
  makes = λ old new number call m p. subst (IsShown h) (sym m.is) p;
  sets = λ old at number was state shelf there p. p;
}

-- the call that is given up was sent four times
given-up : (setup : Setup) (h : List Entry) (old new : View) (xid : ℕ) → Rows setup h new → Sound setup old → first_given_up old.calls.calls ≡ Some xid → new ≡ lost (failed_view old) → Loses h (length h)
given-up setup h old new xid r was up is =
    let o = oldest_given_up old.calls.cred old.calls.first_xid (next_xid old.calls) xid old.calls.calls was.calls.each up in
    let there : waiting_at xid new.calls.calls ≡ Some (failed_call false o.call) =
    ap (λ (v : View). waiting_at xid v.calls.calls) is
    ∙ ap (λ (x : Option ℕ). waiting_at xid (failed_after x old.calls.calls)) up
    ∙ all_failed false xid old.calls.calls
    ∙ ap (option_map (failed_call false)) o.waits in
    four-lose h xid (failed_call false o.call) o.attempts refl (r.rows xid (failed_call false o.call) there).tried

heard-shown : (h : List Entry) (old : View) (rec : List ℕ) (new : View) → Heard old rec new → IsShown h old → IsShown h new
heard-shown h old rec new (cases.dropped none is) p = subst (IsShown h) (sym is) p
heard-shown h old rec new (replied xid call named waits t) p = hears-for-stay (IsShown h) (shown-stays h) (taken_one old xid) new rec call.purpose t p

failed-shown : (setup : Setup) (h : List Entry) (old new : View) → Rows setup h new → Sound setup old → FailedNow old new → IsShown h old → IsShown h new
failed-shown setup h old new r was (goes_on none is) p = subst (IsShown h) (sym is) p
failed-shown setup h old new r was (gives_up xid up is) p = λ lost_now. record { to = length h; by = omega arith; loses = given-up setup h old new xid r was up is }

grown : (h : List Entry) (e : Entry) (v : View) → IsShown h v → IsShown (h ++ e ∷ []) v
grown h e v p = λ is. lost-grow h e (p is)

same : (h : List Entry) (e : Entry) (old new : View) → new ≡ old → IsShown h old → IsShown (h ++ e ∷ []) new
same h e old new is p = subst (IsShown (h ++ e ∷ [])) (sym is) (grown h e old p)

shown-step : (machine_of : ℕ → Op → Machine) (setup : Setup) (h : List Entry) (old : View) (e : Entry) (new : View) → StepsTo machine_of h old e new
    → Rows setup (h ++ e ∷ []) new → Sound setup old → IsShown h old → IsShown (h ++ e ∷ []) new
shown-step machine_of setup h old (Began lane line op) new t r was p =
    begins-stay (IsShown (h ++ Began lane line op ∷ [])) (shown-stays (h ++ Began lane line op ∷ [])) old new lane (machine_of lane op) (last_reading 0 h)
    (λ state shelf. grown h (Began lane line op) old p) t.step
shown-step machine_of setup h old (Answered lane line answer) new t r was p =
    let a = answered_now old lane answer new t.answers in
    subst (IsShown (h ++ Answered lane line answer ∷ [])) (sym a.is.is) (grown h (Answered lane line answer) old p)
shown-step machine_of setup h old (Sent bytes) new t r was p =
    let n = sent_now old bytes new t in
    subst (IsShown (h ++ Sent bytes ∷ [])) (sym n.is) (grown h (Sent bytes) old p)
shown-step machine_of setup h old (Delivered bytes) new t r was p =
    heard-shown (h ++ Delivered bytes ∷ []) old bytes new (heard old bytes t.result new t.hears) (grown h (Delivered bytes) old p)
shown-step machine_of setup h old Failed new (inl t) r was p =
    failed-shown setup (h ++ Failed ∷ []) old new r was (failed_now old t.0 new t.1) (grown h Failed old p)
shown-step machine_of setup h old Failed new (inr t) r was p = same h Failed old new t p
shown-step machine_of setup h old (Dialed port) new t r was p = same h (Dialed port) old new t p
shown-step machine_of setup h old (Executed xid call reply) new t r was p = same h (Executed xid call reply) old new t p
shown-step machine_of setup h old (Foreign call reply) new t r was p = same h (Foreign call reply) old new t p
shown-step machine_of setup h old (Flushed file from len) new t r was p = same h (Flushed file from len) old new t p
shown-step machine_of setup h old (Reboot verf) new t r was p = same h (Reboot verf) old new t p
shown-step machine_of setup h old (Clock ms) new t r was p = same h (Clock ms) old new t p

pub reached-shown : (machine_of : ℕ → Op → Machine) (setup : Setup) (h : List Entry) (v : View) → Reaches machine_of setup h v → IsShown h v
reached-shown machine_of setup _ _ (begins h v may up fresh) = λ is. absurd (let no_way : false ≡ true = sym fresh.lost ∙ is in cc)
reached-shown machine_of setup _ _ (goes h before v b e r is t) =
    let rows = rows-step machine_of setup before b e v t (reached-rows machine_of setup before b r) in
    subst (λ (k : List Entry). IsShown k v) (sym is) (shown-step machine_of setup before b e v t rows (reached-sound machine_of setup before b r) (reached-shown machine_of setup before b r))
reached-shown machine_of setup _ _ (loses h v b r shown is) = λ lost_now. record { to = length h; by = omega arith; loses = shown }
