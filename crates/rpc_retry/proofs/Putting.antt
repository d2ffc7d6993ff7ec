-- A call that is made by its record.
use Rattle.std.proofs.Common.{◌≡◌, ◌++◌, ◌∷◌, [], ℕ, List, Result, Ok, Err, OnOk, IfOk, sym, subst}
use Rattle.rpc_message.specs.Call.{SpellsCallHead}
use Rattle.rpc_retry.specs.declared.answers.PutFault.{PutFault}
use Rattle.rpc_retry.specs.Held.{Held, next_xid}
use Rattle.rpc_retry.specs.Put.{call_head, call_bytes, MakesCall}
use Rattle.rpc_retry.specs.Runs.{DoesMake}
use Rattle.rpc_retry.specs.Waiting.{made_call}

module _ {P : Type 0} where
  -- the record under the next xid is that of the xid that was given
  pub spelled_by : (h : Held P) (prog proc : ℕ) (args : List ℕ) (r : Result ℕ PutFault) → MakesCall h r
      → SpellsCallHead (call_head (next_xid h) prog proc) args (call_bytes h.cred (next_xid h) prog proc args)
      → IfOk r (λ xid. SpellsCallHead (call_head xid prog proc) args (call_bytes h.cred xid prog proc args))
  spelled_by h prog proc args (Ok xid) a s = subst (λ (x : ℕ). SpellsCallHead (call_head x prog proc) args (call_bytes h.cred x prog proc args)) (sym a) s
  spelled_by h prog proc args (Err fault) a s = tt

  -- what was done with a record was done with the same bytes
  pub calls_by : (old new : Held P) (bytes text : List ℕ) (purpose : P) (r : Result ℕ PutFault) → bytes ≡ text
      → OnOk r (new.calls ≡ old.calls ++ (next_xid old, made_call bytes purpose) ∷ []) → OnOk r (new.calls ≡ old.calls ++ (next_xid old, made_call text purpose) ∷ [])
  calls_by old new bytes text purpose r same done = subst (λ (b : List ℕ). OnOk r (new.calls ≡ old.calls ++ (next_xid old, made_call b purpose) ∷ [])) same done

  pub step_by : (old new : Held P) (bytes text : List ℕ) (r : Result ℕ PutFault) → bytes ≡ text → IfOk r (λ xid. DoesMake old xid bytes new) → IfOk r (λ xid. DoesMake old xid text new)
  step_by old new bytes text r same done = subst (λ (b : List ℕ). IfOk r (λ xid. DoesMake old xid b new)) same done
