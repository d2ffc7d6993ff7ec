-- The calls that wait after the attempts that ran have failed.
use Rattle.std.proofs.Common.{◌≡◌, ◌≢◌, ◌+◌, ◌≤◌, ℕ, zero, suc, List, [], ◌∷◌, ◌++◌, length, take, drop, slice_get, add-one, Bool, true, false, Some, None, refl, sym, ap, ◌∙◌, subst, arith}
use Rattle.std.specs.Map.{values_of}
use Rattle.indexmap.specs.IndexMap.{set_value_at}
use Rattle.std.proofs.lemmas.Bool.{eqb-false}
use Rattle.rpc_message.specs.declared.cred.Cred.{Cred}
use Rattle.rpc_retry.specs.declared.waiting.Waiting.{Waiting}
use Rattle.rpc_retry.specs.Waiting.{first_given_up, failed, failed_call, is_given_up}
use Rattle.rpc_retry.specs.Held.{Held, next_xid}
use Rattle.rpc_retry.specs.Sound.{IsSoundCall, AreSound, IsSound}
use Rattle.rpc_retry.proofs.Order.{sound_with}

module _ {P : Type 0} where
  pub sound_given_up : (cred : Cred) (low next : ℕ) (es : List (ℕ × Waiting P)) → AreSound cred low next es → AreSound cred low next (failed false es)
  sound_given_up cred low next [] s = s
  sound_given_up cred low next (e ∷ es) s = (s.0, record { spelled = s.1.spelled; tried = s.1.tried; again = s.1.again; idle = λ d. refl; given = s.1.given }, sound_given_up cred (e.0 + 1) next es s.2)

  -- where none is given up, neither is the first nor one of the others
  not_given_up : (e : ℕ × Waiting P) (es : List (ℕ × Waiting P)) → first_given_up (e ∷ es) ≡ None → (is_given_up e.1 ≡ false) × (first_given_up es ≡ None)
  not_given_up e es n = by (is_given_up e.1) refl
    where
      by : (b : Bool) → is_given_up e.1 ≡ b → (is_given_up e.1 ≡ false) × (first_given_up es ≡ None)
      by true d = absurd (cc)
      by false d = (d, cc)

  sound_due_call : (cred : Cred) (xid : ℕ) (call : Waiting P) → is_given_up call ≡ false → IsSoundCall cred xid call → IsSoundCall cred xid (failed_call true call)
  sound_due_call cred xid call d s =
      let other : call.attempts ≢ 4 = eqb-false call.attempts 4 d in
      let tried : call.attempts ≤ 4 = s.tried in
      record { spelled = s.spelled; tried = tried; again = λ x. omega arith; idle = λ x. refl; given = λ x. absurd (cc) }

  pub sound_again : (cred : Cred) (low next : ℕ) (es : List (ℕ × Waiting P)) → first_given_up es ≡ None → AreSound cred low next es → AreSound cred low next (failed true es)
  sound_again cred low next [] n s = s
  sound_again cred low next (e ∷ es) n s =
      let here = not_given_up e es n in
      (s.0, sound_due_call cred e.0 e.1 here.0 s.1, sound_again cred (e.0 + 1) next es here.1 s.2)

  pub length-failed : (again : Bool) (es : List (ℕ × Waiting P)) → length (failed again es) ≡ length es
  length-failed again [] = refl
  length-failed again (e ∷ es) = ap suc (length-failed again es)

  -- by whether they are tried again
  pub sound_ended : (old : Held P) (new : List (ℕ × Waiting P)) (again : Bool) → IsSound old → AreSound old.cred old.first_xid (next_xid old) (failed again old.calls) → new ≡ failed again old.calls → IsSound (record old { calls = new })
  sound_ended old new again s each is =
      sound_with old new s (subst (AreSound old.cred old.first_xid (next_xid old)) (sym is) each)
      (subst (λ l. length l ≤ length old.calls) (sym is) (let same = length-failed again old.calls in omega arith))

  pub sound_given : (old : Held P) (new : List (ℕ × Waiting P)) → IsSound old → new ≡ failed false old.calls → IsSound (record old { calls = new })
  sound_given old new s is = sound_ended old new false s (sound_given_up old.cred old.first_xid (next_xid old) old.calls s.each) is

  pub sound_resent : (old : Held P) (new : List (ℕ × Waiting P)) → IsSound old → first_given_up old.calls ≡ None → new ≡ failed true old.calls → IsSound (record old { calls = new })
  sound_resent old new s none is = sound_ended old new true s (sound_again old.cred old.first_xid (next_xid old) old.calls none s.each) is

  -- one more of the calls has failed
  pub fail_at : (again : Bool) (old : List (ℕ × Waiting P)) (at : ℕ) (call : Waiting P) → slice_get (values_of (failed again (take at old) ++ drop at old)) at ≡ Some call
      → set_value_at (failed again (take at old) ++ drop at old) at (failed_call again call) ≡ failed again (take (suc at) old) ++ drop (suc at) old
  fail_at again [] zero call e = absurd (cc)
  fail_at again [] (suc at) call e = absurd (cc)
  fail_at again (e ∷ es) zero call there = let same : e.1 ≡ call = cc in ap (λ w. (e.0, failed_call again w) ∷ es) (sym same)
  fail_at again (e ∷ es) (suc at) call there = ap (λ l. (e.0, failed_call again e.1) ∷ l) (fail_at again es at call there)

  pub fail_more : (again : Bool) (old now : List (ℕ × Waiting P)) (at : ℕ) (call : Waiting P) → now ≡ failed again (take at old) ++ drop at old → slice_get (values_of now) at ≡ Some call
      → set_value_at now at (failed_call again call) ≡ failed again (take (at + 1) old) ++ drop (at + 1) old
  fail_more again old now at call is there =
      rw add-one (ap (λ l. set_value_at l at (failed_call again call)) is ∙ fail_at again old at call (subst (λ l. slice_get (values_of l) at ≡ Some call) is there))
