-- The records of the calls that wait stay as they are.
use Rattle.std.proofs.Common.{◌≡◌, ◌≢◌, ◌+◌, ◌<◌, ◌≤◌, ℕ, List, [], ◌∷◌, ◌++◌, Bool, true, false, cond, nat_eq, Some, None, refl, sym, ap, ◌∙◌, arith}
use Rattle.std.proofs.lemmas.Bool.{ne_eqb}
use borrow.Author.Tests.{eqb-true}
use Rattle.rpc_message.specs.declared.cred.Cred.{Cred}
use Rattle.rpc_retry.specs.declared.waiting.Waiting.{Waiting}
use Rattle.rpc_retry.specs.Held.{Held, next_xid}
use Rattle.rpc_retry.specs.Sound.{AreSound, IsSound}
use Rattle.rpc_retry.specs.Waiting.{waiting_at, without, sent, sent_call, failed, failed_call}
use Rattle.rpc_retry.specs.Records.{WaitedAs, KeepsRecords}
use Rattle.rpc_retry.proofs.Dues.{if_true, if_false}

module _ {P : Type 0} where
  -- a call that waits has an xid from the first on
  pub waits_late : (cred : Cred) (low next xid : ℕ) (es : List (ℕ × Waiting P)) (call : Waiting P) → AreSound cred low next es → waiting_at xid es ≡ Some call → low ≤ xid
  waits_late cred low next xid [] call s w = absurd (cc)
  waits_late cred low next xid (e ∷ es) call s w =
      let from : low ≤ e.0 = s.0 in
      let rest : waiting_at xid es ≡ Some call → e.0 + 1 ≤ xid = waits_late cred (e.0 + 1) next xid es call s.2 in
      elim (nat_eq xid e.0) as (λ b. nat_eq xid e.0 ≡ b → low ≤ xid) [
        | true ↦ λ d. let same : xid ≡ e.0 = eqb-true xid e.0 d in omega arith
        | false ↦ λ d. let later : e.0 + 1 ≤ xid = rest (sym (if_false (nat_eq xid e.0) (Some e.1) (waiting_at xid es) d) ∙ w) in omega arith
      ] refl

  -- an xid below the first doesn't wait
  pub waits_not : (cred : Cred) (low next xid : ℕ) (es : List (ℕ × Waiting P)) → AreSound cred low next es → xid < low → waiting_at xid es ≡ None
  waits_not cred low next xid [] s before = refl
  waits_not cred low next xid (e ∷ es) s before =
      let from : low ≤ e.0 = s.0 in
      let other : xid ≢ e.0 = omega arith in
      if_false (nat_eq xid e.0) (Some e.1) (waiting_at xid es) (ne_eqb xid e.0 other) ∙ waits_not cred (e.0 + 1) next xid es s.2 (omega arith)

  -- an xid that was taken out waits no more
  pub gone : (cred : Cred) (low next xid : ℕ) (es : List (ℕ × Waiting P)) → AreSound cred low next es → waiting_at xid (without xid es) ≡ None
  gone cred low next xid [] s = refl
  gone cred low next xid (e ∷ es) s =
      let rest = gone cred (e.0 + 1) next xid es s.2 in
      elim (nat_eq xid e.0) as (λ b. nat_eq xid e.0 ≡ b → waiting_at xid (cond b es (e ∷ without xid es)) ≡ None) [
        | true ↦ λ d. let same : xid ≡ e.0 = eqb-true xid e.0 d in waits_not cred (e.0 + 1) next xid es s.2 (omega arith)
        | false ↦ λ d. if_false (nat_eq xid e.0) (Some e.1) (waiting_at xid (without xid es)) d ∙ rest
      ] refl

  pub unchanged : (calls : List (ℕ × Waiting P)) (xid : ℕ) (call : Waiting P) → waiting_at xid calls ≡ Some call → WaitedAs calls xid call
  unchanged calls xid call w = record { was = call; waited = w; bytes = refl; purpose = refl }

  -- the calls that waited before one was made
  pub before_made : (es : List (ℕ × Waiting P)) (xid next : ℕ) (made : Waiting P) → xid < next → waiting_at xid (es ++ (next, made) ∷ []) ≡ waiting_at xid es
  before_made [] xid next made l = let other : xid ≢ next = omega arith in if_false (nat_eq xid next) (Some made) None (ne_eqb xid next other)
  before_made (e ∷ es) xid next made l = ap (λ r. cond (nat_eq xid e.0) (Some e.1) r) (before_made es xid next made l)

  -- the calls that wait after one was taken out
  pub before_taken : (cred : Cred) (low next other xid : ℕ) (es : List (ℕ × Waiting P)) (call : Waiting P) → AreSound cred low next es
      → waiting_at xid (without other es) ≡ Some call → waiting_at xid es ≡ Some call
  before_taken cred low next other xid [] call s w = w
  before_taken cred low next other xid (e ∷ es) call s w =
      let late : waiting_at xid es ≡ Some call → e.0 + 1 ≤ xid = waits_late cred (e.0 + 1) next xid es call s.2 in
      let rest : waiting_at xid (without other es) ≡ Some call → waiting_at xid es ≡ Some call = before_taken cred (e.0 + 1) next other xid es call s.2 in
      elim (nat_eq other e.0) as (λ b. waiting_at xid (cond b es (e ∷ without other es)) ≡ Some call → waiting_at xid (e ∷ es) ≡ Some call) [
        | true ↦ λ h. let after : e.0 + 1 ≤ xid = late h in let differs : xid ≢ e.0 = omega arith in if_false (nat_eq xid e.0) (Some e.1) (waiting_at xid es) (ne_eqb xid e.0 differs) ∙ h
        | false ↦ elim (nat_eq xid e.0) as (λ b. cond b (Some e.1) (waiting_at xid (without other es)) ≡ Some call → cond b (Some e.1) (waiting_at xid es) ≡ Some call) [
          | true ↦ λ h. h
          | false ↦ rest
        ]
      ] w

  -- at the head of the calls, or further on
  pub further : (e : ℕ × Waiting P) (es : List (ℕ × Waiting P)) (now : Waiting P) (more : List (ℕ × Waiting P)) (xid : ℕ) (call : Waiting P)
      → now.bytes ≡ e.1.bytes → now.purpose ≡ e.1.purpose → (waiting_at xid more ≡ Some call → WaitedAs es xid call)
      → cond (nat_eq xid e.0) (Some now) (waiting_at xid more) ≡ Some call → WaitedAs (e ∷ es) xid call
  further e es now more xid call bytes purpose rest w =
      elim (nat_eq xid e.0) as (λ b. nat_eq xid e.0 ≡ b → cond b (Some now) (waiting_at xid more) ≡ Some call → WaitedAs (e ∷ es) xid call) [
        | true ↦ λ d h. let same : now ≡ call = cc in record { was = e.1; waited = if_true (nat_eq xid e.0) (Some e.1) (waiting_at xid es) d; bytes = sym (ap (λ v. v.bytes) same) ∙ bytes; purpose = sym (ap (λ v. v.purpose) same) ∙ purpose }
        | false ↦ λ d h. let s = rest h in record { was = s.was; waited = if_false (nat_eq xid e.0) (Some e.1) (waiting_at xid es) d ∙ s.waited; bytes = s.bytes; purpose = s.purpose }
      ] refl w

  pub before_sent : (es : List (ℕ × Waiting P)) (xid : ℕ) (call : Waiting P) → waiting_at xid (sent es) ≡ Some call → WaitedAs es xid call
  before_sent [] xid call w = absurd (cc)
  before_sent (e ∷ es) xid call w =
      let rest : waiting_at xid (sent es) ≡ Some call → WaitedAs es xid call = before_sent es xid call in
      elim e.1.due as (λ b. waiting_at xid (cond b ((e.0, sent_call e.1) ∷ es) (e ∷ sent es)) ≡ Some call → WaitedAs (e ∷ es) xid call) [
        | true ↦ further e es (sent_call e.1) es xid call refl refl (unchanged es xid call)
        | false ↦ further e es e.1 (sent es) xid call refl refl rest
      ] w

  pub before_failed : (again : Bool) (es : List (ℕ × Waiting P)) (xid : ℕ) (call : Waiting P) → waiting_at xid (failed again es) ≡ Some call → WaitedAs es xid call
  before_failed again [] xid call w = absurd (cc)
  before_failed true (e ∷ es) xid call w = further e es (failed_call true e.1) (failed true es) xid call refl refl (before_failed true es xid call) w
  before_failed false (e ∷ es) xid call w = further e es (failed_call false e.1) (failed false es) xid call refl refl (before_failed false es xid call) w

  pub keeps_same : (old : Held P) (new : List (ℕ × Waiting P)) → new ≡ old.calls → KeepsRecords old new
  keeps_same old new is xid call l w = unchanged old.calls xid call (sym (ap (waiting_at xid) is) ∙ w)

  pub keeps_made : (old : Held P) (new : List (ℕ × Waiting P)) (made : Waiting P) → new ≡ old.calls ++ (next_xid old, made) ∷ [] → KeepsRecords old new
  keeps_made old new made is xid call l w = unchanged old.calls xid call (sym (ap (waiting_at xid) is ∙ before_made old.calls xid (next_xid old) made l) ∙ w)

  pub keeps_sent : (old : Held P) → KeepsRecords old (sent old.calls)
  keeps_sent old xid call l w = before_sent old.calls xid call w

  pub keeps_without : (old : Held P) (new : List (ℕ × Waiting P)) (other : ℕ) → IsSound old → new ≡ without other old.calls → KeepsRecords old new
  keeps_without old new other s is xid call l w =
      unchanged old.calls xid call (before_taken old.cred old.first_xid (next_xid old) other xid old.calls call s.each (sym (ap (waiting_at xid) is) ∙ w))

  pub keeps_failed : (old : Held P) (new : List (ℕ × Waiting P)) (again : Bool) → new ≡ failed again old.calls → KeepsRecords old new
  keeps_failed old new again is xid call l w = before_failed again old.calls xid call (sym (ap (waiting_at xid) is) ∙ w)
