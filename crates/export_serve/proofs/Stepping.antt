-- A call that is served is one step of a server.
use Rattle.std.proofs.Common.{◌≡◌, ◌⊎◌, inl, inr, ℕ, List, Option, Some, None, Result, Ok, Err, OnErr, sym, subst, ◌∙◌}
use Rattle.xdr_codec.specs.declared.blob.Memory.{Memory}
use Rattle.world_model.specs.declared.message.Call.{Call}
use Rattle.world_model.specs.Service.{Serves}
use Rattle.export_fs.specs.Executed.{executed}
use Rattle.export_fs.specs.Seen.{server_of}
use Rattle.export_serve.specs.declared.request.Asked.{Asked}
use Rattle.export_serve.specs.declared.request.Asked.TheVariants as askings
use Rattle.export_serve.specs.Asking.{asked_at}
use Rattle.export_serve.specs.Kept.{reply_kept}
use Rattle.export_serve.specs.Serving.{ServiceView, Stepped, LeftByMemory, StepsOnce, after}

pub kept_steps : (rec : List ℕ) (old new : ServiceView) (reply : List ℕ) → reply_kept rec old.kept ≡ Some reply → StepsOnce rec old new
kept_steps rec old new reply e = λ xid call a k. absurd cc

pub no_call_steps : (rec : List ℕ) (old new : ServiceView) → asked_at rec ≡ askings.NoCall → StepsOnce rec old new
no_call_steps rec old new e = λ xid call a k. absurd cc

pub refused_steps : (rec : List ℕ) (old new : ServiceView) (of : ℕ) (bytes : List ℕ) → asked_at rec ≡ askings.Refuse of bytes → StepsOnce rec old new
refused_steps rec old new of bytes e = λ xid call a k. absurd cc

same_call : (x y : ℕ) (c d : Call) → askings.Serve x c ≡ askings.Serve y d → c ≡ d
same_call x y c d e = cc

pub served_steps : (rec : List ℕ) (old new : ServiceView) (of : ℕ) (served : Call) → asked_at rec ≡ askings.Serve of served
    → Serves (server_of old.export) served (executed old.export served).1 (server_of new.export) → StepsOnce rec old new
served_steps rec old new of served e s = λ xid call a k.
    subst (λ (c : Call). Serves (server_of old.export) c (executed old.export c).1 (server_of new.export)) (same_call of xid served call (sym e ∙ a)) s

-- What is left when out of memory in the midst of a call: all as it was, or the step of the call.
pub left_by_memory : {A : Type 0} (result : Result A Memory) (rec : List ℕ) (old new : ServiceView) (of : ℕ) (served : Call) → asked_at rec ≡ askings.Serve of served → reply_kept rec old.kept ≡ None
    → (new ≡ old) ⊎ (new ≡ record old { export = after old.export served }) → OnErr result (LeftByMemory rec old new)
left_by_memory (Ok x) rec old new of served a k left = tt
left_by_memory (Err fault) rec old new of served a k (inl same) = inl same
left_by_memory (Err fault) rec old new of served a k (inr step) = inr (record { xid = of; call = served; asks = a; unkept = k; is = step })
