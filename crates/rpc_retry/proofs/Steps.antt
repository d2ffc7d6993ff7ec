-- What each step does, of the fields as they are kept.
use Rattle.std.proofs.Common.{◌≡◌, ◌+◌, ◌++◌, ◌∷◌, [], ℕ, List, Some, refl, sym, ap, ◌∙◌}
use Rattle.rpc_retry.specs.declared.waiting.Waiting.{Waiting}
use Rattle.rpc_retry.specs.Held.{Held, next_xid, KeepsSettings}
use Rattle.rpc_retry.specs.Waiting.{made_call, waiting_at, without, first_due, sent}
use Rattle.rpc_retry.specs.Runs.{DoesMake, DoesSend, DoesTake}

module _ {P : Type 0} where
  pub keeps_settings : (inside now : Held P) (made : ℕ) (calls : List (ℕ × Waiting P)) → inside ≡ now → KeepsSettings now (record inside { made = made; calls = calls })
  keeps_settings inside now made calls v = record { first_xid = ap (λ h. h.first_xid) v; limit = ap (λ h. h.limit) v; cred = ap (λ h. h.cred) v }

  pub does_make : (inside now : Held P) (xid : ℕ) (bytes : List ℕ) (purpose : P) (new : List (ℕ × Waiting P)) → inside ≡ now → xid ≡ next_xid now
      → new ≡ now.calls ++ (next_xid now, made_call bytes purpose) ∷ [] → DoesMake now xid bytes (record inside { made = inside.made + 1; calls = new })
  does_make inside now xid bytes purpose new v x is = record {
    purpose = purpose;
    next = x;
    settings = keeps_settings inside now (inside.made + 1) new v;
    made = ap (λ h. h.made + 1) v;
    calls = is ∙ ap (λ n. now.calls ++ (n, made_call bytes purpose) ∷ []) (sym x);
  }

  pub does_take : (inside now : Held P) (xid : ℕ) (call : Waiting P) (new : List (ℕ × Waiting P)) → inside ≡ now → waiting_at xid inside.calls ≡ Some call
      → new ≡ without xid inside.calls → DoesTake now xid (record inside { calls = new })
  does_take inside now xid call new v w is = record {
    call = call;
    waits = sym (ap (λ h. waiting_at xid h.calls) v) ∙ w;
    settings = keeps_settings inside now inside.made new v;
    made = ap (λ h. h.made) v;
    calls = is ∙ ap (λ h. without xid h.calls) v;
  }

  pub does_send : (inside now : Held P) (xid : ℕ) (call : Waiting P) (bytes : List ℕ) → inside ≡ now → first_due inside.calls ≡ Some (xid, call) → bytes ≡ call.bytes → DoesSend now xid bytes (record now { calls = sent now.calls })
  does_send inside now xid call bytes v f b = record {
    call = call;
    oldest = sym (ap (λ h. first_due h.calls) v) ∙ f;
    is = b;
    settings = record { first_xid = refl; limit = refl; cred = refl };
    made = refl;
    calls = refl;
  }
