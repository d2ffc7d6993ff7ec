-- The calls that wait after one was taken.
use Rattle.std.proofs.Common.{◌≡◌, ◌+◌, ◌≤◌, ℕ, suc, List, [], ◌∷◌, length, true, false, cond, nat_eq, sym, subst, arith}
use Rattle.rpc_message.specs.declared.cred.Cred.{Cred}
use Rattle.rpc_retry.specs.declared.waiting.Waiting.{Waiting}
use Rattle.rpc_retry.specs.Waiting.{without}
use Rattle.rpc_retry.specs.Held.{Held, next_xid}
use Rattle.rpc_retry.specs.Sound.{AreSound, IsSound}
use Rattle.rpc_retry.proofs.Order.{sound_with}

module _ {P : Type 0} where
  pub sooner : (cred : Cred) (low lower next : ℕ) (es : List (ℕ × Waiting P)) → lower ≤ low → AreSound cred low next es → AreSound cred lower next es
  sooner cred low lower next [] l s = omega arith
  sooner cred low lower next (e ∷ es) l s = let from : low ≤ e.0 = s.0 in (omega arith, s.1, s.2)

  pub sound_without : (cred : Cred) (low next xid : ℕ) (es : List (ℕ × Waiting P)) → AreSound cred low next es → AreSound cred low next (without xid es)
  sound_without cred low next xid [] s = s
  sound_without cred low next xid (e ∷ es) s =
      let from : low ≤ e.0 = s.0 in
      let rest = sound_without cred (e.0 + 1) next xid es s.2 in
      elim (nat_eq xid e.0) as (λ b. AreSound cred low next (cond b es (e ∷ without xid es))) [
        | true ↦ sooner cred (e.0 + 1) low next es (omega arith) s.2
        | false ↦ (s.0, s.1, rest)
      ]

  pub length-without : (xid : ℕ) (es : List (ℕ × Waiting P)) → length (without xid es) ≤ length es
  length-without xid [] = omega arith
  length-without xid (e ∷ es) =
      let rest : length (without xid es) ≤ length es = length-without xid es in
      elim (nat_eq xid e.0) as (λ b. length (cond b es (e ∷ without xid es)) ≤ suc (length es)) [
        | true ↦ omega arith
        | false ↦ omega arith
      ]

  pub sound_taken : (old : Held P) (xid : ℕ) (new : List (ℕ × Waiting P)) → IsSound old → new ≡ without xid old.calls → IsSound (record old { calls = new })
  sound_taken old xid new s is =
      sound_with old new s (subst (AreSound old.cred old.first_xid (next_xid old)) (sym is) (sound_without old.cred old.first_xid (next_xid old) xid old.calls s.each))
      (subst (λ l. length l ≤ length old.calls) (sym is) (length-without xid old.calls))
