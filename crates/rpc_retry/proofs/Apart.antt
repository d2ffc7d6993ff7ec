-- A call is sent again only after a failure.
use Rattle.std.proofs.Common.{◌≡◌, ◌+◌, ◌<◌, ℕ, List, [], ◌∷◌, Bool, true, false, cond, nat_eq, option_map, Option, Some, None, refl, sym, ap, ◌∙◌, subst, arith}
use Rattle.std.proofs.lemmas.Bool.{eq-eqb}
use borrow.Author.Tests.{eqb-true}
use Rattle.rpc_message.specs.declared.cred.Cred.{Cred}
use Rattle.rpc_retry.specs.declared.waiting.Waiting.{Waiting}
use Rattle.rpc_retry.specs.Held.{Held, next_xid}
use Rattle.rpc_retry.specs.Sound.{IsSoundCall, AreSound, IsSound}
use Rattle.rpc_retry.specs.Waiting.{made_call, waiting_at, without, first_due, sent_call, failed_call}
use Rattle.rpc_retry.specs.Runs.{Done, Making, Sending, Taking, Failing, DoesMake, DoesSend, DoesTake, DoesFail, Does, Runs, sent_records, sent_since, SentApart, Story, unmade, waits, taken}
use Rattle.rpc_retry.proofs.Records.{gone}
use Rattle.rpc_retry.proofs.Lookups.{waits_early, at_made, others_made, SentAt, at_sent, others_sent, others_taken, all_failed}
use Rattle.rpc_retry.proofs.Stories.{failed_how, stories}

-- what was never sent wasn't sent since a failure
none_sent : (xid : ℕ) (ds : List Done) → sent_records xid ds ≡ [] → sent_since xid ds ≡ false
none_sent xid [] none = refl
none_sent xid (Making other bytes ∷ ds) none = none_sent xid ds none
none_sent xid (Sending other bytes ∷ ds) none =
    elim (nat_eq xid other) as (λ b. cond b (bytes ∷ sent_records xid ds) (sent_records xid ds) ≡ [] → cond b true (sent_since xid ds) ≡ false) [
      | true ↦ λ h. absurd (cc)
      | false ↦ λ h. none_sent xid ds h
    ] none
none_sent xid (Taking other ∷ ds) none = none_sent xid ds none
none_sent xid (Failing ∷ ds) none = refl

module _ {P : Type 0} where
  -- a call that waits is sound
  pub sound_of : (cred : Cred) (low next xid : ℕ) (es : List (ℕ × Waiting P)) (call : Waiting P) → AreSound cred low next es → waiting_at xid es ≡ Some call → IsSoundCall cred xid call
  sound_of cred low next xid [] call s w = absurd (cc)
  sound_of cred low next xid (e ∷ es) call s w =
      elim (nat_eq xid e.0) as (λ b. nat_eq xid e.0 ≡ b → cond b (Some e.1) (waiting_at xid es) ≡ Some call → IsSoundCall cred xid call) [
        | true ↦ λ d h.
            let same : xid ≡ e.0 = eqb-true xid e.0 d in
            let which : e.1 ≡ call = cc in
            subst (λ w. IsSoundCall cred xid w) which (subst (λ n. IsSoundCall cred n e.1) (sym same) s.1)
        | false ↦ λ d h. sound_of cred (e.0 + 1) next xid es call s.2 h
      ] refl w

  -- the oldest call that is due is due
  due_is : (xid : ℕ) (es : List (ℕ × Waiting P)) (call : Waiting P) → first_due es ≡ Some (xid, call) → call.due ≡ true
  due_is xid [] call f = absurd (cc)
  due_is xid (e ∷ es) call f =
      elim e.1.due as (λ b. e.1.due ≡ b → cond b (Some e) (first_due es) ≡ Some (xid, call) → call.due ≡ true) [
        | true ↦ λ d h. let which : e.1 ≡ call = cc in subst (λ w. w.due ≡ true) which d
        | false ↦ λ d h. due_is xid es call h
      ] refl f

  -- the next xid was never sent
  next_unsent : (ds : List Done) (h : Held P) (xid : ℕ) → IsSound h → xid ≡ next_xid h → Story ds h xid → sent_records xid ds ≡ []
  next_unsent ds h xid s next (unmade a m r t) = r
  next_unsent ds h xid s next (waits call at went) =
      let early : xid < next_xid h = waits_early h.cred h.first_xid (next_xid h) xid h.calls call s.each at in absurd (omega arith)
  next_unsent ds h xid s next (taken bytes attempts before none went) = absurd (omega arith)

  made_apart : (ds : List Done) (old new : Held P) (xid other : ℕ) (bytes : List ℕ) → IsSound old → Story ds old xid → DoesMake old other bytes new → SentApart ds old xid → SentApart (Making other bytes ∷ ds) new xid
  made_apart ds old new xid other bytes s story does a = record {
    apart = a.apart;
    runs = λ call at. (elim (nat_eq xid other) as (λ b. nat_eq xid other ≡ b → call.running ≡ sent_since xid ds) [
      | true ↦ λ d.
          let same : xid ≡ other = eqb-true xid other d in
          let there : waiting_at xid new.calls ≡ Some (made_call bytes does.purpose) = ap (waiting_at xid) does.calls ∙ at_made old.cred old.first_xid (next_xid old) xid other old.calls (made_call bytes does.purpose) s.each (same ∙ does.next) does.next in
          let which : made_call bytes does.purpose ≡ call = cc in
          ap (λ w. w.running) (sym which) ∙ sym (none_sent xid ds (next_unsent ds old xid s (same ∙ does.next) story))
      | false ↦ λ d. a.runs call (sym (ap (waiting_at xid) does.calls ∙ others_made xid other old.calls (made_call bytes does.purpose) d) ∙ at)
    ]) refl;
  }

  sent_apart : (ds : List Done) (old new : Held P) (xid other : ℕ) (bytes : List ℕ) → IsSound old → DoesSend old other bytes new → SentApart ds old xid → SentApart (Sending other bytes ∷ ds) new xid
  sent_apart ds old new xid other bytes s does a = record {
    apart = (λ is. idle (eq-eqb xid other (sym is)), a.apart);
    runs = λ call at. (elim (nat_eq xid other) as (λ b. nat_eq xid other ≡ b → call.running ≡ cond b true (sent_since xid ds)) [
      | true ↦ λ d.
          let there : waiting_at xid new.calls ≡ Some (sent_call does.call) = ap (waiting_at xid) does.calls ∙ (at_it d).after in
          let which : sent_call does.call ≡ call = cc in
          ap (λ w. w.running) (sym which)
      | false ↦ λ d. a.runs call (sym (ap (waiting_at xid) does.calls ∙ others_sent xid other old.calls does.call does.oldest d) ∙ at)
    ]) refl;
  }
    where
      at_it : nat_eq xid other ≡ true → SentAt xid old.calls does.call
      at_it d =
          let same : xid ≡ other = eqb-true xid other d in
          at_sent old.cred old.first_xid (next_xid old) xid old.calls does.call s.each (does.oldest ∙ ap (λ n. Some (n, does.call)) (sym same))

      idle : nat_eq xid other ≡ true → sent_since xid ds ≡ false
      idle d =
          let sound = sound_of old.cred old.first_xid (next_xid old) xid old.calls does.call s.each (at_it d).before in
          sym (a.runs does.call (at_it d).before) ∙ sound.idle (due_is other old.calls does.call does.oldest)

  taken_apart : (ds : List Done) (old new : Held P) (xid other : ℕ) → IsSound old → DoesTake old other new → SentApart ds old xid → SentApart (Taking other ∷ ds) new xid
  taken_apart ds old new xid other s does a = record {
    apart = a.apart;
    runs = λ call at. (elim (nat_eq xid other) as (λ b. nat_eq xid other ≡ b → call.running ≡ sent_since xid ds) [
      | true ↦ λ d.
          let same : other ≡ xid = sym (eqb-true xid other d) in
          let none : waiting_at xid new.calls ≡ None = ap (waiting_at xid) (does.calls ∙ ap (λ n. without n old.calls) same) ∙ gone old.cred old.first_xid (next_xid old) xid old.calls s.each in
          absurd (cc)
      | false ↦ λ d. a.runs call (sym (ap (waiting_at xid) does.calls ∙ others_taken xid other old.calls d) ∙ at)
    ]) refl;
  }

  failed_apart : (ds : List Done) (old new : Held P) (xid : ℕ) → DoesFail old new → SentApart ds old xid → SentApart (Failing ∷ ds) new xid
  failed_apart ds old new xid does a = record {
    apart = a.apart;
    runs = λ call at. by (failed_how old.calls).0 call (waiting_at xid old.calls) (sym (ap (waiting_at xid) (does.calls ∙ (failed_how old.calls).1) ∙ all_failed (failed_how old.calls).0 xid old.calls) ∙ at);
  }
    where
      by : (again : Bool) (call : Waiting P) (was : Option (Waiting P)) → option_map (failed_call again) was ≡ Some call → call.running ≡ false
      by again call None is = absurd (cc)
      by true call (Some w) is = let which : failed_call true w ≡ call = cc in ap (λ w. w.running) (sym which)
      by false call (Some w) is = let which : failed_call false w ≡ call = cc in ap (λ w. w.running) (sym which)

  apart_on : (ds : List Done) (old new : Held P) (d : Done) (xid : ℕ) → IsSound old → Story ds old xid → Does old d new → SentApart ds old xid → SentApart (d ∷ ds) new xid
  apart_on ds old new (Making other bytes) xid s story does a = made_apart ds old new xid other bytes s story does a
  apart_on ds old new (Sending other bytes) xid s story does a = sent_apart ds old new xid other bytes s does a
  apart_on ds old new (Taking other) xid s story does a = taken_apart ds old new xid other s does a
  apart_on ds old new Failing xid s story does a = failed_apart ds old new xid does a

  pub all_apart : (ds : List Done) (h : Held P) → Runs ds h → (xid : ℕ) → SentApart ds h xid
  all_apart [] h r xid = record { apart = tt; runs = λ call at. absurd (let none : waiting_at xid h.calls ≡ None = ap (waiting_at xid) r.1 in cc) }
  all_apart (d ∷ ds) h r xid = apart_on ds r.0 h d xid r.1.1 (stories ds r.0 r.1.0 xid) r.1.2 (all_apart ds r.0 r.1.0 xid)
