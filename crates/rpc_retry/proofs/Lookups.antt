-- Which call waits under an xid after each step.
use Rattle.std.proofs.Common.{◌≡◌, ◌≢◌, ◌+◌, ◌<◌, ◌≤◌, ℕ, List, [], ◌∷◌, ◌++◌, Bool, true, false, cond, nat_eq, option_map, Some, None, refl, sym, ap, ◌∙◌, subst, arith}
use Rattle.std.proofs.lemmas.Bool.{ne_eqb, eq-eqb}
use borrow.Author.Tests.{eqb-true}
use Rattle.rpc_message.specs.declared.cred.Cred.{Cred}
use Rattle.rpc_retry.specs.declared.waiting.Waiting.{Waiting}
use Rattle.rpc_retry.specs.Sound.{AreSound}
use Rattle.rpc_retry.specs.Waiting.{waiting_at, without, first_due, sent, sent_call, failed, failed_call}
use Rattle.rpc_retry.proofs.Order.{bounds}
use Rattle.rpc_retry.proofs.Dues.{if_true, if_false}

module _ {P : Type 0} where
  -- a call that waits was made
  pub waits_early : (cred : Cred) (low next xid : ℕ) (es : List (ℕ × Waiting P)) (call : Waiting P) → AreSound cred low next es → waiting_at xid es ≡ Some call → xid < next
  waits_early cred low next xid [] call s w = absurd (cc)
  waits_early cred low next xid (e ∷ es) call s w =
      let last : e.0 + 1 ≤ next = bounds cred (e.0 + 1) next es s.2 in
      let rest : waiting_at xid es ≡ Some call → xid < next = waits_early cred (e.0 + 1) next xid es call s.2 in
      elim (nat_eq xid e.0) as (λ b. nat_eq xid e.0 ≡ b → cond b (Some e.1) (waiting_at xid es) ≡ Some call → xid < next) [
        | true ↦ λ d h. let same : xid ≡ e.0 = eqb-true xid e.0 d in omega arith
        | false ↦ λ d h. rest h
      ] refl w

  -- the call that was made waits
  pub at_made : (cred : Cred) (low next xid other : ℕ) (es : List (ℕ × Waiting P)) (w : Waiting P) → AreSound cred low next es → xid ≡ next → other ≡ next → waiting_at xid (es ++ (other, w) ∷ []) ≡ Some w
  at_made cred low next xid other [] w s x o = if_true (nat_eq xid other) (Some w) None (eq-eqb xid other (x ∙ sym o))
  at_made cred low next xid other (e ∷ es) w s x o =
      let last : e.0 + 1 ≤ next = bounds cred (e.0 + 1) next es s.2 in
      let differs : xid ≢ e.0 = omega arith in
      if_false (nat_eq xid e.0) (Some e.1) (waiting_at xid (es ++ (other, w) ∷ [])) (ne_eqb xid e.0 differs) ∙ at_made cred (e.0 + 1) next xid other es w s.2 x o

  -- the others wait as before
  pub others_made : (xid other : ℕ) (es : List (ℕ × Waiting P)) (w : Waiting P) → nat_eq xid other ≡ false → waiting_at xid (es ++ (other, w) ∷ []) ≡ waiting_at xid es
  others_made xid other [] w d = if_false (nat_eq xid other) (Some w) None d
  others_made xid other (e ∷ es) w d = ap (λ r. cond (nat_eq xid e.0) (Some e.1) r) (others_made xid other es w d)

  -- the oldest call that is due waits
  pub due_late : (cred : Cred) (low next xid : ℕ) (es : List (ℕ × Waiting P)) (call : Waiting P) → AreSound cred low next es → first_due es ≡ Some (xid, call) → low ≤ xid
  due_late cred low next xid [] call s f = absurd (cc)
  due_late cred low next xid (e ∷ es) call s f =
      let from : low ≤ e.0 = s.0 in
      let rest : first_due es ≡ Some (xid, call) → e.0 + 1 ≤ xid = due_late cred (e.0 + 1) next xid es call s.2 in
      elim e.1.due as (λ b. cond b (Some e) (first_due es) ≡ Some (xid, call) → low ≤ xid) [
        | true ↦ λ h. let same : e.0 ≡ xid = cc in omega arith
        | false ↦ λ h. let later : e.0 + 1 ≤ xid = rest h in omega arith
      ] f

  pub record SentAt (xid : ℕ) (es : List (ℕ × Waiting P)) (call : Waiting P) : Type 0 where
    pub before : waiting_at xid es ≡ Some call
    pub after : waiting_at xid (sent es) ≡ Some (sent_call call)

  pub at_sent : (cred : Cred) (low next xid : ℕ) (es : List (ℕ × Waiting P)) (call : Waiting P) → AreSound cred low next es → first_due es ≡ Some (xid, call) → SentAt xid es call
  at_sent cred low next xid [] call s f = absurd (cc)
  at_sent cred low next xid (e ∷ es) call s f =
      let late : first_due es ≡ Some (xid, call) → e.0 + 1 ≤ xid = due_late cred (e.0 + 1) next xid es call s.2 in
      let rest : first_due es ≡ Some (xid, call) → SentAt xid es call = at_sent cred (e.0 + 1) next xid es call s.2 in
      elim e.1.due as (λ b. e.1.due ≡ b → cond b (Some e) (first_due es) ≡ Some (xid, call) → SentAt xid (e ∷ es) call) [
        | true ↦ λ d h.
            let same : e.0 ≡ xid = cc in
            let which : e.1 ≡ call = cc in
            let found : nat_eq xid e.0 ≡ true = eq-eqb xid e.0 (sym same) in
            record {
              before = if_true (nat_eq xid e.0) (Some e.1) (waiting_at xid es) found ∙ ap Some which;
              after = ap (waiting_at xid) (if_true e.1.due ((e.0, sent_call e.1) ∷ es) (e ∷ sent es) d) ∙ if_true (nat_eq xid e.0) (Some (sent_call e.1)) (waiting_at xid es) found ∙ ap (λ w. Some (sent_call w)) which;
            }
        | false ↦ λ d h.
            let r = rest h in
            let after : e.0 + 1 ≤ xid = late h in
            let differs : xid ≢ e.0 = omega arith in
            let lost : nat_eq xid e.0 ≡ false = ne_eqb xid e.0 differs in
            record {
              before = if_false (nat_eq xid e.0) (Some e.1) (waiting_at xid es) lost ∙ r.before;
              after = ap (waiting_at xid) (if_false e.1.due ((e.0, sent_call e.1) ∷ es) (e ∷ sent es) d) ∙ if_false (nat_eq xid e.0) (Some e.1) (waiting_at xid (sent es)) lost ∙ r.after;
            }
      ] refl f

  pub others_sent : (xid other : ℕ) (es : List (ℕ × Waiting P)) (call : Waiting P) → first_due es ≡ Some (other, call) → nat_eq xid other ≡ false → waiting_at xid (sent es) ≡ waiting_at xid es
  others_sent xid other [] call f d = refl
  others_sent xid other (e ∷ es) call f d =
      let rest : first_due es ≡ Some (other, call) → waiting_at xid (sent es) ≡ waiting_at xid es = λ h. others_sent xid other es call h d in
      elim e.1.due as (λ b. cond b (Some e) (first_due es) ≡ Some (other, call) → waiting_at xid (cond b ((e.0, sent_call e.1) ∷ es) (e ∷ sent es)) ≡ waiting_at xid (e ∷ es)) [
        | true ↦ λ h.
            let same : other ≡ e.0 = cc in
            let lost : nat_eq xid e.0 ≡ false = subst (λ n. nat_eq xid n ≡ false) same d in
            if_false (nat_eq xid e.0) (Some (sent_call e.1)) (waiting_at xid es) lost ∙ sym (if_false (nat_eq xid e.0) (Some e.1) (waiting_at xid es) lost)
        | false ↦ λ h. ap (λ r. cond (nat_eq xid e.0) (Some e.1) r) (rest h)
      ] f

  pub others_taken : (xid other : ℕ) (es : List (ℕ × Waiting P)) → nat_eq xid other ≡ false → waiting_at xid (without other es) ≡ waiting_at xid es
  others_taken xid other [] d = refl
  others_taken xid other (e ∷ es) d =
      let rest = others_taken xid other es d in
      elim (nat_eq other e.0) as (λ b. nat_eq other e.0 ≡ b → waiting_at xid (cond b es (e ∷ without other es)) ≡ waiting_at xid (e ∷ es)) [
        | true ↦ λ t.
            let same : other ≡ e.0 = eqb-true other e.0 t in
            sym (if_false (nat_eq xid e.0) (Some e.1) (waiting_at xid es) (subst (λ n. nat_eq xid n ≡ false) same d))
        | false ↦ λ t. ap (λ r. cond (nat_eq xid e.0) (Some e.1) r) rest
      ] refl

  -- each call that waits has failed
  pub all_failed : (again : Bool) (xid : ℕ) (es : List (ℕ × Waiting P)) → waiting_at xid (failed again es) ≡ option_map (failed_call again) (waiting_at xid es)
  all_failed again xid [] = refl
  all_failed again xid (e ∷ es) =
      let rest = all_failed again xid es in
      elim (nat_eq xid e.0) as (λ b. cond b (Some (failed_call again e.1)) (waiting_at xid (failed again es)) ≡ option_map (failed_call again) (cond b (Some e.1) (waiting_at xid es))) [
        | true ↦ refl
        | false ↦ rest
      ]
