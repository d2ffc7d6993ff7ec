-- A call that is made has the record of that call.
use Rattle.std.proofs.Common.{◌≡◌, ◌+◌, ℕ, List, [], ◌∷◌, ◌++◌, refl, sym, ap, subst, ◌∙◌}
use Rattle.xdr_codec.specs.Spells.{Wrote}
use Rattle.nfs_types.specs.declared.program.TheConstants.{NFS_PROGRAM, MOUNT_PROGRAM}
use Rattle.nfs_types.specs.declared.mount_proc.TheConstants.{MNT}
use Rattle.nfs_types.specs.declared.nfs_proc.TheConstants.{FSINFO}
use Rattle.mount_calls.specs.declared.call.MountCall.TheVariants as mounts
use Rattle.mount_calls.specs.Calls.{SpellsMountArgs, mount_call_bytes}
use Rattle.nfs_file_calls.specs.declared.call.FileCall.TheVariants as files
use Rattle.nfs_file_calls.specs.Calls.{SpellsFileArgs}
use Rattle.rpc_message.specs.declared.cred.Cred.{Cred}
use Rattle.rpc_message.specs.Call.{SpellsCallHead}
use Rattle.rpc_retry.specs.declared.waiting.Waiting.{Waiting}
use Rattle.rpc_retry.specs.Held.{Held, next_xid, KeepsSettings}
use Rattle.rpc_retry.specs.Put.{call_head, call_bytes}
use Rattle.rpc_retry.specs.Waiting.{made_call}
use Rattle.world_model.specs.declared.message.Call.{Call}
use Rattle.world_model.specs.Messages.{SpellsArguments, program_of, proc_of}
use Rattle.world_model.specs.Mounts.{mount_call, info_call}
use Rattle.session_setup.specs.Exchanges.{Makes}

held_of : ℕ → ℕ → Cred → ℕ → List (ℕ × Waiting (Unit {0})) → Held (Unit {0})
held_of first limit cred made calls = record { first_xid = first; limit = limit; cred = cred; made = made; calls = calls }

held_is : (old new : Held (Unit {0})) (made : ℕ) (calls : List (ℕ × Waiting (Unit {0}))) → KeepsSettings old new → new.made ≡ made → new.calls ≡ calls → new ≡ record old { made = made; calls = calls }
unfolding held_of
held_is old new made calls s m c =
    ap (λ (n : ℕ). held_of n new.limit new.cred new.made new.calls) s.first_xid
    ∙ ap (λ (n : ℕ). held_of old.first_xid n new.cred new.made new.calls) s.limit
    ∙ ap (λ (n : Cred). held_of old.first_xid old.limit n new.made new.calls) s.cred
    ∙ ap (λ (n : ℕ). held_of old.first_xid old.limit old.cred n new.calls) m
    ∙ ap (λ (n : List (ℕ × Waiting (Unit {0}))). held_of old.first_xid old.limit old.cred made n) c

makes_by : (call : Call) (args : List ℕ) (old new : Held (Unit {0})) (xid : ℕ) → SpellsArguments call args → KeepsSettings old new → new.made ≡ old.made + 1
    → new.calls ≡ old.calls ++ (next_xid old, made_call (call_bytes old.cred (next_xid old) (program_of call) (proc_of call) args) tt) ∷ [] → xid ≡ next_xid old
    → SpellsCallHead (call_head xid (program_of call) (proc_of call)) args (call_bytes old.cred xid (program_of call) (proc_of call) args) → Makes call old new
makes_by call args old new xid spells s m c same head = record {
  bytes = call_bytes old.cred (next_xid old) (program_of call) (proc_of call) args;
  spells = record {
    spells = record {
      args = args;
      head = subst (λ (n : ℕ). SpellsCallHead (call_head n (program_of call) (proc_of call)) args (call_bytes old.cred n (program_of call) (proc_of call) args)) same head;
      is = spells;
    };
    made = refl;
  };
  is = held_is old new (old.made + 1) (old.calls ++ (next_xid old, made_call (call_bytes old.cred (next_xid old) (program_of call) (proc_of call) args) tt) ∷ []) s m c;
}

-- MNT, from what was written of it
pub makes_mount : (path own none written args : List ℕ) (old new : Held (Unit {0})) (xid : ℕ) → own ≡ path → none ≡ [] → written ≡ none ++ mount_call_bytes (mounts.Mnt own)
    → SpellsMountArgs (mounts.Mnt own) (mount_call_bytes (mounts.Mnt own)) → args ≡ written → KeepsSettings old new → new.made ≡ old.made + 1
    → new.calls ≡ old.calls ++ (next_xid old, made_call (call_bytes old.cred (next_xid old) MOUNT_PROGRAM MNT args) tt) ∷ [] → xid ≡ next_xid old
    → SpellsCallHead (call_head xid MOUNT_PROGRAM MNT) args (call_bytes old.cred xid MOUNT_PROGRAM MNT args) → Makes (mount_call path) old new
makes_mount path own none written args old new xid is empty ok spelled end s m c same head =
    let whole : args ≡ mount_call_bytes (mounts.Mnt own) = end ∙ ok ∙ ap (λ (t : List ℕ). t ++ mount_call_bytes (mounts.Mnt own)) empty in
    let spells : SpellsMountArgs (mounts.Mnt own) args = subst (SpellsMountArgs (mounts.Mnt own)) (sym whole) spelled in
    makes_by (mount_call path) args old new xid (subst (λ (t : List ℕ). SpellsMountArgs (mounts.Mnt t) args) is spells) s m c same head

-- FSINFO, from what was written of it
pub makes_info : (root none written args : List ℕ) (old new : Held (Unit {0})) (xid : ℕ) → none ≡ [] → Wrote (SpellsFileArgs (files.FsInfo root)) none written → args ≡ written → KeepsSettings old new → new.made ≡ old.made + 1
    → new.calls ≡ old.calls ++ (next_xid old, made_call (call_bytes old.cred (next_xid old) NFS_PROGRAM FSINFO args) tt) ∷ [] → xid ≡ next_xid old
    → SpellsCallHead (call_head xid NFS_PROGRAM FSINFO) args (call_bytes old.cred xid NFS_PROGRAM FSINFO args) → Makes (info_call root) old new
makes_info root none written args old new xid empty wrote end s m c same head =
    let whole : args ≡ wrote.text = end ∙ wrote.is ∙ ap (λ (t : List ℕ). t ++ wrote.text) empty in
    makes_by (info_call root) args old new xid (subst (SpellsFileArgs (files.FsInfo root)) (sym whole) wrote.spells) s m c same head
