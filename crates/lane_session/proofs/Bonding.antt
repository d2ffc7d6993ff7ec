-- The core goes on with the history: at each entry that a session notes with a call of the core.
use Rattle.std.proofs.Common.{◌≡◌, ◌≤◌, ◌<◌, ◌+◌, ◌⊎◌, inl, inr, ℕ, List, [], ◌∷◌, ◌++◌, length, Bool, true, false, cond, nat_eq, Option, Some, None, MatchOption, option_map, refl, sym, ap, subst, ◌∙◌, arith}
use Rattle.std.proofs.lemmas.Bool.{cases_lt, eq-eqb}
use borrow.Author.Tests.{eqb-true}
use Rattle.rpc_message.specs.Call.{xid_at}
use Rattle.rpc_retry.specs.declared.waiting.Waiting.{Waiting}
use Rattle.rpc_retry.specs.Held.{Held, next_xid}
use Rattle.rpc_retry.specs.Fail.{failed_after}
use Rattle.rpc_retry.specs.Take.{awaited}
use Rattle.rpc_retry.specs.Waiting.{waiting_at, sent, sent_call, failed, failed_call, first_due}
use Rattle.rpc_retry.proofs.Lookups.{SentAt, at_sent, others_sent, others_taken, all_failed}
use Rattle.world_model.specs.declared.entry.Entry.{Entry}
use Rattle.world_model.specs.declared.entry.Entry.TheVariants.{Began, Answered, Dialed, Sent, Executed, Foreign, Flushed, Reboot, Delivered, Failed, Clock}
use Rattle.world_model.specs.declared.op.Op.{Op}
use Rattle.world_model.specs.Entries.{At}
use Rattle.world_model.specs.LanesTogether.{HasBegun}
use Rattle.world_model.specs.Lost.{Loses}
use Rattle.world_model.specs.Messages.{HasXid}
use Rattle.world_model.specs.Rows.{DropRun, begins as no_drop, drops}
use Rattle.world_model.specs.Waiting.{Waits, Drops}
use Rattle.world_model.proofs.Growth.{DropRun-grow, Waits-back}
use Rattle.world_model.proofs.Places.{At-grow, At-below, At-last, At-cases, length_last}
use Rattle.op_machines.specs.Begun.{machine_of}
use Rattle.op_machines.specs.declared.begun.Mounted.{Mounted}
use Rattle.op_machines.specs.declared.machine.Machine.{Machine}
use Rattle.client_core.specs.declared.lane.Purpose.{Purpose}
use Rattle.client_core.specs.declared.setup.Setup.{Setup}
use Rattle.client_core.specs.Steps.{Hears, HearsFor, SendsBy, SendsIf, taken, lost}
use Rattle.client_core.specs.View.{View}
use Rattle.core_facts.specs.Reaches.{StepsTo, Reaches, last_reading, MayHear}
use Rattle.core_facts.proofs.AllCounts.{begins-unbegun}
use Rattle.core_facts.proofs.Cases.{Heard, dropped, replied, heard, sent_now, FailedNow, goes_on, gives_up, failed_now, answered_now, taken_one}
use Rattle.core_facts.proofs.Grown.{one-xid}
use Rattle.core_facts.proofs.Owning.{reached-owned}
use Rattle.core_facts.proofs.Rows.{under}
use Rattle.core_facts.proofs.Sound.{Sound, reached-sound}
use Rattle.core_facts.proofs.Walks.{Stays, begins-stay, hears-for-stay}
use Rattle.core_facts.specs.Notes.{NoneReady, ComesAfter, notes_step, notes_lost}
use Rattle.core_facts.proofs.Noting.{notes-reach}
use Rattle.lane_session.specs.Bonds.{IsAwaited, Bond, SentSince}
use Rattle.lane_session.proofs.LostOnce.{MayLose, lost-only, only-step, stays-step}

-- ---- a call that waits goes on waiting

waits-made : (xid : ℕ) (es : List (ℕ × Waiting Purpose)) (e : ℕ × Waiting Purpose) (call : Waiting Purpose) → waiting_at xid es ≡ Some call → waiting_at xid (es ++ e ∷ []) ≡ Some call
waits-made xid [] e call w = absurd (cc)
waits-made xid (d ∷ es) e call w =
    let rest : waiting_at xid es ≡ Some call → waiting_at xid (es ++ e ∷ []) ≡ Some call = waits-made xid es e call in
    elim (nat_eq xid d.0) as (λ b. cond b (Some d.1) (waiting_at xid es) ≡ Some call → cond b (Some d.1) (waiting_at xid (es ++ e ∷ [])) ≡ Some call) [
      | true ↦ λ h. h
      | false ↦ λ h. rest h
    ] w

awaited-stays : (xid : ℕ) → Stays (IsAwaited xid)
awaited-stays xid = record {
  makes = λ old new number call m a. subst (IsAwaited xid) (sym m.is) (a.0, waits-made xid old.calls.calls _ a.0 a.1);
  sets = λ old at number was state shelf there a. a;
}

awaited-like : (xid : ℕ) (old new : View) → new.calls ≡ old.calls → IsAwaited xid old → IsAwaited xid new
awaited-like xid old new same a = (a.0, ap (λ (c : Held Purpose). waiting_at xid c.calls) same ∙ a.1)

awaited-failed : (xid : ℕ) (again : Bool) (old new : View) → new.calls.calls ≡ failed again old.calls.calls → IsAwaited xid old → IsAwaited xid new
awaited-failed xid again old new is a =
    (failed_call again a.0, ap (waiting_at xid) is ∙ all_failed again xid old.calls.calls ∙ ap (option_map (failed_call again)) a.1)

-- ---- an xid that waits did so before, or its record was sent last

not-sent : (a b : List ℕ) → Delivered a ≡ Sent b → ⊥
not-sent a b is = cc

sent-is : (a b : List ℕ) → Sent a ≡ Sent b → b ≡ a
sent-is a b is = cc

came-is : (a b : List ℕ) → Delivered a ≡ Delivered b → b ≡ a
came-is a b is = cc

module _ (h : List Entry) (e : Entry) (xid : ℕ) where
  waits-before : ((bytes : List ℕ) → e ≡ Sent bytes → HasXid bytes xid → ⊥) → Waits (h ++ e ∷ []) xid (length (h ++ e ∷ [])) → Waits h xid (length h)
  waits-before other w =
      let at : At h w.at (Sent w.bytes) = by (At-cases h e w.at (Sent w.bytes) w.sent) in
      record {
        at = w.at;
        bytes = w.bytes;
        sent = at;
        under = w.under;
        before = At-below h w.at (Sent w.bytes) at;
        unanswered = λ j bytes there has after lt. w.unanswered j bytes (At-grow h (e ∷ []) j (Delivered bytes) there) has after (let long = length_last h e in omega (arith, lt, long));
      }
    where
      by : At h w.at (Sent w.bytes) ⊎ ((w.at ≡ length h) × (e ≡ Sent w.bytes)) → At h w.at (Sent w.bytes)
      by (inl there) = there
      by (inr last) = absurd (other w.bytes last.1 w.under)

-- a record under the xid came last, so it doesn't wait
waits-no-more : (h : List Entry) (rec : List ℕ) (xid : ℕ) → HasXid rec xid → Waits (h ++ Delivered rec ∷ []) xid (length (h ++ Delivered rec ∷ [])) → ⊥
waits-no-more h rec xid has w = by (At-cases h (Delivered rec) w.at (Sent w.bytes) w.sent)
  where
    by : At h w.at (Sent w.bytes) ⊎ ((w.at ≡ length h) × (Delivered rec ≡ Sent w.bytes)) → ⊥
    by (inl there) =
        let below = At-below h w.at (Sent w.bytes) there in
        let long = length_last h (Delivered rec) in
        w.unanswered (length h) rec (At-last h (Delivered rec)) has (omega (arith, below)) (omega (arith, long))
    by (inr last) = not-sent rec w.bytes last.1

-- ---- each xid that waits is that of a call of the core

abbrev Known : List Entry → View → Type 0
Known h v = (xid : ℕ) → Waits h xid (length h) → IsAwaited xid v

known-like : (h : List Entry) (e : Entry) (old new : View) → ((bytes : List ℕ) → e ≡ Sent bytes → ⊥) → new.calls ≡ old.calls → Known h old → Known (h ++ e ∷ []) new
known-like h e old new other same k xid w = awaited-like xid old new same (k xid (waits-before h e xid (λ bytes is has. other bytes is) w))

known-sent : (setup : Setup) (h : List Entry) (old : View) (bytes : List ℕ) (xid : ℕ) (call : Waiting Purpose) → Sound setup old → first_due old.calls.calls ≡ Some (xid, call) → bytes ≡ call.bytes → Known h old
    → Known (h ++ Sent bytes ∷ []) (record old { calls = record old.calls { calls = sent old.calls.calls } })
known-sent setup h old bytes xid call s due is k x w = (elim (nat_eq x xid) as (λ b. nat_eq x xid ≡ b → IsAwaited x (record old { calls = record old.calls { calls = sent old.calls.calls } })) [
  | true ↦ λ d. (sent_call call, ap (λ (n : ℕ). waiting_at n (sent old.calls.calls)) (eqb-true x xid d) ∙ now.after)
  | false ↦ λ d.
      let was = k x (waits-before h (Sent bytes) x (λ b sent_now has. other d b sent_now has) w) in
      (was.0, others_sent x xid old.calls.calls call due d ∙ was.1)
]) refl
  where
    now : SentAt xid old.calls.calls call
    now = at_sent old.calls.cred old.calls.first_xid (next_xid old.calls) xid old.calls.calls call s.calls.each due

    other : nat_eq x xid ≡ false → (b : List ℕ) → Sent bytes ≡ Sent b → HasXid b x → ⊥
    other d b same has =
        let its : HasXid call.bytes xid = under setup old xid call s now.before in
        let here : HasXid call.bytes x = subst (λ (t : List ℕ). HasXid t x) (sent-is bytes b same ∙ is) has in
        let one : nat_eq x xid ≡ true = eq-eqb x xid (one-xid x xid call.bytes here its) in
        let no_way : true ≡ false = sym one ∙ d in
        cc

known-heard : (h : List Entry) (old : View) (rec : List ℕ) (new : View) → Heard old rec new → Known h old → Known (h ++ Delivered rec ∷ []) new
known-heard h old rec new (dropped none is) k x w = known-like h (Delivered rec) old new (λ bytes e. not-sent rec bytes e) (ap (λ (v : View). v.calls) is) k x w
known-heard h old rec new (replied xid call named waits t) k x w = (elim (nat_eq x xid) as (λ b. nat_eq x xid ≡ b → IsAwaited x new) [
  | true ↦ λ d. absurd (waits-no-more h rec x (subst (HasXid rec) (sym (eqb-true x xid d)) named) w)
  | false ↦ λ d.
      let was = k x (waits-before h (Delivered rec) x (λ bytes is has. not-sent rec bytes is) w) in
      hears-for-stay (IsAwaited x) (awaited-stays x) (taken_one old xid) new rec call.purpose t (was.0, others_taken x xid old.calls.calls d ∙ was.1)
]) refl

known-failed : (h : List Entry) (old new : View) → FailedNow old new → Known h old → Known (h ++ Failed ∷ []) new
known-failed h old new (goes_on none is) k x w =
    awaited-failed x true old new (ap (λ (v : View). v.calls.calls) is ∙ ap (λ (o : Option ℕ). failed_after o old.calls.calls) none) (k x (waits-before h Failed x (λ bytes e has. absurd cc) w))
known-failed h old new (gives_up xid up is) k x w =
    awaited-failed x false old new (ap (λ (v : View). v.calls.calls) is ∙ ap (λ (o : Option ℕ). failed_after o old.calls.calls) up) (k x (waits-before h Failed x (λ bytes e has. absurd cc) w))

known-step : (machine : ℕ → Op → Machine) (setup : Setup) (h : List Entry) (old : View) (e : Entry) (new : View) → StepsTo machine h old e new → Sound setup old → Known h old → Known (h ++ e ∷ []) new
known-step machine setup h old (Began lane line op) new t s k = λ xid w.
    let was = k xid (waits-before h (Began lane line op) xid (λ bytes e has. absurd cc) w) in
    begins-stay (IsAwaited xid) (awaited-stays xid) old new lane (machine lane op) (last_reading 0 h) (λ state shelf. was) t.step
known-step machine setup h old (Answered lane line answer) new t s k =
    known-like h (Answered lane line answer) old new (λ bytes e. absurd cc) (ap (λ (v : View). v.calls) (answered_now old lane answer new t.answers).is.is) k
known-step machine setup h old (Sent bytes) new t s k =
    let n = sent_now old bytes new t in
    subst (Known (h ++ Sent bytes ∷ [])) (sym n.is) (known-sent setup h old bytes n.xid n.call s n.due n.bytes_is k)
known-step machine setup h old (Delivered bytes) new t s k = known-heard h old bytes new (heard old bytes t.result new t.hears) k
known-step machine setup h old Failed new (inl t) s k = known-failed h old new (failed_now old t.0 new t.1) k
known-step machine setup h old Failed new (inr is) s k = known-like h Failed old new (λ bytes e. absurd cc) (ap (λ (v : View). v.calls) is) k
known-step machine setup h old (Dialed port) new is s k = known-like h (Dialed port) old new (λ bytes e. absurd cc) (ap (λ (v : View). v.calls) is) k
known-step machine setup h old (Executed xid call reply) new is s k = known-like h (Executed xid call reply) old new (λ bytes e. absurd cc) (ap (λ (v : View). v.calls) is) k
known-step machine setup h old (Foreign call reply) new is s k = known-like h (Foreign call reply) old new (λ bytes e. absurd cc) (ap (λ (v : View). v.calls) is) k
known-step machine setup h old (Flushed file from len) new is s k = known-like h (Flushed file from len) old new (λ bytes e. absurd cc) (ap (λ (v : View). v.calls) is) k
known-step machine setup h old (Reboot verf) new is s k = known-like h (Reboot verf) old new (λ bytes e. absurd cc) (ap (λ (v : View). v.calls) is) k
known-step machine setup h old (Clock ms) new is s k = known-like h (Clock ms) old new (λ bytes e. absurd cc) (ap (λ (v : View). v.calls) is) k

-- ---- records that were dropped

longer : (h : List Entry) (e : Entry) → length h ≤ length (h ++ e ∷ [])
longer h e = let long = length_last h e in omega (arith, long)

run-wide : (k : List Entry) (n to later : ℕ) → to ≤ later → ((j : ℕ) (bytes : List ℕ) → At k j (Delivered bytes) → to ≤ j → ⊥) → DropRun k n to → DropRun k n later
run-wide k _ _ later le none (no_drop n to is) = no_drop n later is
run-wide k _ _ later le none (drops n to m at bytes is run d lt gap) =
    drops n later m at bytes is run d (omega (arith, lt, le)) (λ j b there after before. elim (cases_lt j to) [
      | inl below ↦ gap j b there after below
      | inr above ↦ none j b there above
    ])

-- an entry that isn't a record leaves the run as it is
run-stays : (h : List Entry) (e : Entry) (n : ℕ) → ((bytes : List ℕ) → e ≡ Delivered bytes → ⊥) → DropRun h n (length h) → DropRun (h ++ e ∷ []) n (length (h ++ e ∷ []))
run-stays h e n other run =
    run-wide (h ++ e ∷ []) n (length h) (length (h ++ e ∷ [])) (longer h e) (λ j bytes there above. elim (At-cases h e j (Delivered bytes) there) [
      | inl p ↦ let below = At-below h j (Delivered bytes) p in omega (arith, below, above)
      | inr q ↦ other bytes q.1
    ]) (DropRun-grow h (e ∷ []) n (length h) (omega arith) run)

-- a record that was dropped makes it longer
run-more : (h : List Entry) (rec : List ℕ) (n : ℕ) → Drops (h ++ Delivered rec ∷ []) (length h) rec → DropRun h n (length h) → DropRun (h ++ Delivered rec ∷ []) (n + 1) (length (h ++ Delivered rec ∷ []))
run-more h rec n d run =
    let long = length_last h (Delivered rec) in
    drops (n + 1) (length (h ++ Delivered rec ∷ [])) n (length h) rec (omega arith) (DropRun-grow h (Delivered rec ∷ []) n (length h) (omega arith) run) d (omega (arith, long)) (λ j b there after before. omega (arith, after, before, long))

-- ---- what is sent is sent for an operation

begun-grow : (h : List Entry) (e : Entry) (n : ℕ) → HasBegun h n → HasBegun (h ++ e ∷ []) n
begun-grow h e n b = record { at = b.at; lane = b.lane; line = b.line; op = b.op; began = At-grow h (e ∷ []) b.at (Began b.lane b.line b.op) b.began; before = b.before }

-- at its start
pub since-none : (h : List Entry) → SentSince h h
since-none h i bytes at = inl (At-below h i (Sent bytes) at)

module _ (m : Mounted) (setup : Setup) where
  -- a call that is sent is one of an operation under way
  sends-begun : (h : List Entry) (old : View) (bytes : List ℕ) (new : View) → Reaches (machine_of m) setup h old → SendsBy old (Some bytes) new → HasBegun h (length h)
  sends-begun h old bytes new r t = by old.lost refl t
    where
      by : (b : Bool) → old.lost ≡ b → SendsIf b old (Some bytes) new → HasBegun h (length h)
      by true is s = absurd (let no_way : Some bytes ≡ None = s.0 in cc)
      by false is s =
          let n = sent_now old bytes new t in
          let waits : SentAt n.xid old.calls.calls n.call =
          at_sent old.calls.cred old.calls.first_xid (next_xid old.calls) n.xid old.calls.calls n.call (reached-sound (machine_of m) setup h old r).calls.each n.due in
          let own = (reached-owned (machine_of m) (begins-unbegun m) setup h old r is).owned n.xid n.call waits.before in
          record { at = own.x; lane = n.call.purpose.lane; line = own.under_way.line; op = own.op; began = own.under_way.began; before = own.under_way.before }

  step-begun : (h : List Entry) (old : View) (e : Entry) (new : View) (bytes : List ℕ) → Reaches (machine_of m) setup h old → StepsTo (machine_of m) h old e new → e ≡ Sent bytes → HasBegun h (length h)
  step-begun h old e new bytes r t is = sends-begun h old bytes new r (subst (λ (d : Entry). StepsTo (machine_of m) h old d new) is t)

  since-step : (from h : List Entry) (old : View) (e : Entry) (new : View) → Reaches (machine_of m) setup h old → StepsTo (machine_of m) h old e new → SentSince from h → SentSince from (h ++ e ∷ [])
  since-step from h old e new r t s i bytes at = by (At-cases h e i (Sent bytes) at)
    where
      by : At h i (Sent bytes) ⊎ ((i ≡ length h) × (e ≡ Sent bytes)) → (i < length from) ⊎ HasBegun (h ++ e ∷ []) i
      by (inl there) = elim (s i bytes there) [
        | inl early ↦ inl early
        | inr begun ↦ inr (begun-grow h e i begun)
      ]
      by (inr now) = inr (subst (HasBegun (h ++ e ∷ [])) (sym now.0) (begun-grow h e (length h) (step-begun h old e new bytes r t now.1)))

-- ---- the bond

module _ (m : Mounted) (setup : Setup) (from : List Entry) where
  pub reached : (h : List Entry) (v : View) (n : ℕ) → Bond m setup from h v n → Reaches (machine_of m) setup h v
  reached h v n b = notes-reach (machine_of m) setup h v b.notes

  pub bond-step : (h : List Entry) (old : View) (e : Entry) (new : View) (n : ℕ) → (ComesAfter e → NoneReady old) → MayLose e old new → StepsTo (machine_of m) h old e new
      → ((bytes : List ℕ) → e ≡ Delivered bytes → ⊥) → Bond m setup from h old n → Bond m setup from (h ++ e ∷ []) new n
  bond-step h old e new n none may t other b =
      let r = reached h old n b in
      record {
        notes = notes_step (h ++ e ∷ []) h new old e b.notes refl none t;
        since = since-step m setup from h old e new r t b.since;
        known = known-step (machine_of m) setup h old e new t (reached-sound (machine_of m) setup h old r) b.known;
        run = run-stays h e n other b.run;
        only = only-step m setup h old e new r t may b.only;
        stays = stays-step m setup h old e new r t b.only b.stays;
      }

  -- the session is given up
  pub bond-loses : (h : List Entry) (v : View) (n : ℕ) → NoneReady v → Loses h (length h) → Bond m setup from h v n → Bond m setup from h (lost v) n
  bond-loses h v n none shown b = record {
    notes = notes_lost h (lost v) v b.notes shown refl;
    since = b.since;
    known = b.known;
    run = b.run;
    only = lost-only v none;
    stays = b.stays;
  }

  -- a record that no call waits for
  drop-of : (h : List Entry) (old : View) (rec : List ℕ) (n : ℕ) → awaited (xid_at rec) old.calls.calls ≡ None → Bond m setup from h old n → Drops (h ++ Delivered rec ∷ []) (length h) rec
  drop-of h old rec n none b = record {
    got = At-last h (Delivered rec);
    idle = λ xid has w.
        let was = b.known xid (Waits-back h (Delivered rec ∷ []) xid (length h) (omega arith) w) in
        let there : awaited (xid_at rec) old.calls.calls ≡ Some was.0 = ap (λ (o : Option ℕ). awaited o old.calls.calls) has ∙ was.1 in
        let no_way : None ≡ Some was.0 = sym none ∙ there in
        absurd (cc);
  }

  pub bond-taken : (h : List Entry) (old : View) (rec : List ℕ) (result : Bool) (new : View) (n : ℕ) → MayHear old → Hears old rec result new → result ≡ true → Bond m setup from h old n
      → Bond m setup from (h ++ Delivered rec ∷ []) new 0
  bond-taken h old rec result new n may hears took b =
      let t : StepsTo (machine_of m) h old (Delivered rec) new = record { may = may; result = result; hears = hears } in
      let r = reached h old n b in
      record {
        notes = notes_step (h ++ Delivered rec ∷ []) h new old (Delivered rec) b.notes refl (λ comes. may.noted) t;
        since = since-step m setup from h old (Delivered rec) new r t b.since;
        known = known-step (machine_of m) setup h old (Delivered rec) new t (reached-sound (machine_of m) setup h old r) b.known;
        run = no_drop 0 (length (h ++ Delivered rec ∷ [])) refl;
        only = only-step m setup h old (Delivered rec) new r t tt b.only;
        stays = stays-step m setup h old (Delivered rec) new r t b.only b.stays;
      }

  pub bond-dropped : (h : List Entry) (old : View) (rec : List ℕ) (result : Bool) (new : View) (n : ℕ) → MayHear old → Hears old rec result new → result ≡ false → Bond m setup from h old n
      → Bond m setup from (h ++ Delivered rec ∷ []) new (n + 1)
  bond-dropped h old rec result new n may hears not b =
      let t : StepsTo (machine_of m) h old (Delivered rec) new = record { may = may; result = result; hears = hears } in
      let r = reached h old n b in
      record {
        notes = notes_step (h ++ Delivered rec ∷ []) h new old (Delivered rec) b.notes refl (λ comes. may.noted) t;
        since = since-step m setup from h old (Delivered rec) new r t b.since;
        known = known-step (machine_of m) setup h old (Delivered rec) new t (reached-sound (machine_of m) setup h old r) b.known;
        run = run-more h rec n (drop-of h old rec n (none-waits (awaited (xid_at rec) old.calls.calls) refl hears) b) b.run;
        only = only-step m setup h old (Delivered rec) new r t tt b.only;
        stays = stays-step m setup h old (Delivered rec) new r t b.only b.stays;
      }
    where
      none-waits : (o : Option (Waiting Purpose)) → awaited (xid_at rec) old.calls.calls ≡ o
          → MatchOption o ((result ≡ false) × (new ≡ old)) (λ call. (result ≡ true) × HearsFor (taken old rec) rec call.purpose new) → awaited (xid_at rec) old.calls.calls ≡ None
      none-waits None is t = is
      none-waits (Some call) is t = absurd (let no_way : true ≡ false = sym t.0 ∙ not in cc)
