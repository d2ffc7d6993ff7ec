-- Which call is given up.
use Rattle.std.proofs.Common.{◌≡◌, ◌≢◌, ◌+◌, ◌<◌, ◌≤◌, ℕ, List, [], ◌∷◌, true, false, cond, nat_eq, Some, None, refl, sym, ◌∙◌, subst, arith}
use Rattle.std.proofs.lemmas.Bool.{ne_eqb, eqb-false, eq-eqb}
use borrow.Author.Tests.{eqb-true}
use Rattle.rpc_message.specs.declared.cred.Cred.{Cred}
use Rattle.rpc_retry.specs.declared.waiting.Waiting.{Waiting}
use Rattle.rpc_retry.specs.Sound.{IsSoundCall, AreSound}
use Rattle.rpc_retry.specs.Waiting.{waiting_at, first_given_up, is_given_up}
use Rattle.rpc_retry.specs.Fail.{IsOldestGivenUp, NoneGivenUp}
use Rattle.rpc_retry.proofs.Dues.{if_true, if_false}
use Rattle.rpc_retry.proofs.Records.{waits_late}

module _ {P : Type 0} where
  -- a call that isn't given up has attempts left
  few_attempts : (cred : Cred) (xid : ℕ) (call : Waiting P) → IsSoundCall cred xid call → is_given_up call ≡ false → call.attempts < 4
  few_attempts cred xid call s d =
      let other : call.attempts ≢ 4 = eqb-false call.attempts 4 d in
      let tried : call.attempts ≤ 4 = s.tried in
      omega arith

  -- at the head or further on
  few_in : (e : ℕ × Waiting P) (es : List (ℕ × Waiting P)) (xid : ℕ) (call : Waiting P) → e.1.attempts < 4 → (waiting_at xid es ≡ Some call → call.attempts < 4)
      → cond (nat_eq xid e.0) (Some e.1) (waiting_at xid es) ≡ Some call → call.attempts < 4
  few_in e es xid call few rest w =
      elim (nat_eq xid e.0) as (λ b. cond b (Some e.1) (waiting_at xid es) ≡ Some call → call.attempts < 4) [
        | true ↦ λ h. let same : e.1 ≡ call = cc in subst (λ v. v.attempts < 4) same few
        | false ↦ rest
      ] w

  pub none_given_up : (cred : Cred) (low next : ℕ) (es : List (ℕ × Waiting P)) → AreSound cred low next es → first_given_up es ≡ None → NoneGivenUp es
  none_given_up cred low next [] s n xid call w = absurd (cc)
  none_given_up cred low next (e ∷ es) s n xid call w =
      let rest : first_given_up es ≡ None → waiting_at xid es ≡ Some call → call.attempts < 4 = λ m. none_given_up cred (e.0 + 1) next es s.2 m xid call in
      elim (is_given_up e.1) as (λ b. is_given_up e.1 ≡ b → cond b (Some e.0) (first_given_up es) ≡ None → call.attempts < 4) [
        | true ↦ λ d h. absurd (cc)
        | false ↦ λ d h. few_in e es xid call (few_attempts cred e.0 e.1 s.1 d) (rest h) w
      ] refl n

  given_up_late : (cred : Cred) (low next xid : ℕ) (es : List (ℕ × Waiting P)) → AreSound cred low next es → first_given_up es ≡ Some xid → low ≤ xid
  given_up_late cred low next xid [] s f = absurd (cc)
  given_up_late cred low next xid (e ∷ es) s f =
      let from : low ≤ e.0 = s.0 in
      let rest : first_given_up es ≡ Some xid → e.0 + 1 ≤ xid = given_up_late cred (e.0 + 1) next xid es s.2 in
      elim (is_given_up e.1) as (λ b. cond b (Some e.0) (first_given_up es) ≡ Some xid → low ≤ xid) [
        | true ↦ λ h. let same : e.0 ≡ xid = cc in omega arith
        | false ↦ λ h. let later : e.0 + 1 ≤ xid = rest h in omega arith
      ] f

  pub oldest_given_up : (cred : Cred) (low next xid : ℕ) (es : List (ℕ × Waiting P)) → AreSound cred low next es → first_given_up es ≡ Some xid → IsOldestGivenUp es xid
  oldest_given_up cred low next xid [] s f = absurd (cc)
  oldest_given_up cred low next xid (e ∷ es) s f =
      let late : first_given_up es ≡ Some xid → e.0 + 1 ≤ xid = given_up_late cred (e.0 + 1) next xid es s.2 in
      let rest : first_given_up es ≡ Some xid → IsOldestGivenUp es xid = oldest_given_up cred (e.0 + 1) next xid es s.2 in
      elim (is_given_up e.1) as (λ b. is_given_up e.1 ≡ b → cond b (Some e.0) (first_given_up es) ≡ Some xid → IsOldestGivenUp (e ∷ es) xid) [
        | true ↦ λ d h. let same : e.0 ≡ xid = cc in record {
          call = e.1;
          waits = if_true (nat_eq xid e.0) (Some e.1) (waiting_at xid es) (eq-eqb xid e.0 (sym same));
          attempts = eqb-true e.1.attempts 4 d;
          oldest = λ other older before w. before_head cred low next other e es older s (subst (λ n. other < n) (sym same) before) w;
        }
        | false ↦ λ d h.
            let r = rest h in
            let after : e.0 + 1 ≤ xid = late h in
            let differs : xid ≢ e.0 = omega arith in
            record {
              call = r.call;
              waits = if_false (nat_eq xid e.0) (Some e.1) (waiting_at xid es) (ne_eqb xid e.0 differs) ∙ r.waits;
              attempts = r.attempts;
              oldest = λ other older before w. few_in e es other older (few_attempts cred e.0 e.1 s.1 d) (r.oldest other older before) w;
            }
      ] refl f
    where
      before_head : (cred : Cred) (low next other : ℕ) (e : ℕ × Waiting P) (es : List (ℕ × Waiting P)) (older : Waiting P) → AreSound cred low next (e ∷ es) → other < e.0 → waiting_at other (e ∷ es) ≡ Some older → older.attempts < 4
      before_head cred low next other e es older s before w =
          let late : e.0 ≤ other = waits_late cred e.0 next other (e ∷ es) older (omega arith, s.1, s.2) w in
          absurd (omega arith)
