-- What a record asks for: where it has an xid, and that a call that is spelled is served.
use Rattle.std.proofs.Common.{◌≡◌, ℕ, List, true, refl, ap, sym, subst, ◌∙◌, Option, Some, None, Result, Ok, Err, IfOk}
use Rattle.xdr_codec.specs.declared.reader.XdrFault.{XdrFault}
use Rattle.xdr_codec.specs.Reading.{u32_at}
use Rattle.xdr_codec.specs.declared.blob.Memory.{Memory}
use Rattle.mount_calls.specs.declared.call.MountCall.TheVariants as mounts
use Rattle.nfs_dir_calls.specs.declared.call.DirCall.TheVariants as dirs
use Rattle.nfs_file_calls.specs.declared.call.FileCall.TheVariants as files
use Rattle.rpc_message.specs.declared.call.CallHead.{CallHead}
use Rattle.rpc_message.specs.declared.call.CallFault.{CallFault}
use Rattle.rpc_message.specs.declared.call.CallFault.TheVariants.{Version}
use Rattle.rpc_message.specs.Call.{call_at, xid_at, value_read, ◌>>=-call◌, SpellsCallHead}
use Rattle.rpc_message.proofs.CallLaws.{call_xid}
use Rattle.world_model.specs.declared.message.Call.{Call}
use Rattle.world_model.specs.declared.message.Call.TheVariants as calls
use Rattle.world_model.specs.Messages.{program_of, proc_of, head_of, SpellsCall, SpellsArguments}
use Rattle.export_serve.specs.declared.request.Asked.{Asked}
use Rattle.export_serve.specs.declared.request.Asked.TheVariants as askings
use Rattle.export_serve.specs.Asking.{is_program, is_served, mismatch_of, Understood, IsSound}

-- each call is of a program and a procedure that are served

pub served_program : (call : Call) → is_program (program_of call) ≡ true
served_program (calls.File call) = refl
served_program (calls.Dir call) = refl
served_program (calls.Mount call) = refl

pub served_procedure : (call : Call) → is_served (program_of call) (proc_of call) ≡ true
served_procedure (calls.File files.Null) = refl
served_procedure (calls.File (files.GetAttr file)) = refl
served_procedure (calls.File (files.SetAttr file set guard)) = refl
served_procedure (calls.File (files.Access file bits)) = refl
served_procedure (calls.File (files.Read file offset count)) = refl
served_procedure (calls.File (files.Write file offset how bytes)) = refl
served_procedure (calls.File (files.FsStat file)) = refl
served_procedure (calls.File (files.FsInfo file)) = refl
served_procedure (calls.File (files.PathConf file)) = refl
served_procedure (calls.File (files.Commit file offset count)) = refl
served_procedure (calls.Dir (dirs.Lookup dir name)) = refl
served_procedure (calls.Dir (dirs.ReadLink file)) = refl
served_procedure (calls.Dir (dirs.Create dir name making)) = refl
served_procedure (calls.Dir (dirs.MkDir dir name set)) = refl
served_procedure (calls.Dir (dirs.SymLink dir name set target)) = refl
served_procedure (calls.Dir (dirs.MkNod dir name node)) = refl
served_procedure (calls.Dir (dirs.Remove dir name)) = refl
served_procedure (calls.Dir (dirs.RmDir dir name)) = refl
served_procedure (calls.Dir (dirs.Rename from_dir old to_dir to)) = refl
served_procedure (calls.Dir (dirs.Link file dir name)) = refl
served_procedure (calls.Dir (dirs.ReadDir dir cookie verf count)) = refl
served_procedure (calls.Dir (dirs.ReadDirPlus dir cookie verf dircount maxcount)) = refl
served_procedure (calls.Mount mounts.Null) = refl
served_procedure (calls.Mount (mounts.Mnt path)) = refl
served_procedure (calls.Mount (mounts.Umnt path)) = refl
served_procedure (calls.Mount mounts.Export) = refl

-- what a head and arguments ask for, a record with them asks for
pub sound_of : (rec : List ℕ) (head : CallHead) (args : List ℕ) (asked : Asked) → SpellsCallHead head args rec → Understood head args asked → IsSound rec asked
sound_of rec head args askings.NoCall s u = absurd u
sound_of rec head args (askings.Refuse xid bytes) s u = (rw u.0 (call_xid head args rec s), u.1)
sound_of rec head args (askings.Serve xid call) s u = (record { args = args; head = subst (λ (h : CallHead). SpellsCallHead h args rec) u.of s; is = u.is }, u.writable)

pub sound_ok : (rec : List ℕ) (head : CallHead) (args : List ℕ) (result : Result Asked Memory) → SpellsCallHead head args rec → IfOk result (Understood head args) → IfOk result (IsSound rec)
sound_ok rec head args (Ok asked) s u = sound_of rec head args asked s u
sound_ok rec head args (Err fault) s u = tt

-- a call that the record spells is the one that its head and arguments ask for
pub served_ok : (head : CallHead) (args : List ℕ) (xid : ℕ) (call : Call) (rec : List ℕ) (result : Result Asked Memory) (s : SpellsCall xid call rec) → ◌≡◌ {A = CallHead × List ℕ} (head, args) (head_of xid call, s.args)
    → ((x : ℕ) (k : Call) → head ≡ head_of x k → SpellsArguments k args → IfOk result (λ a. a ≡ askings.Serve x k)) → IfOk result (λ a. a ≡ askings.Serve xid call)
served_ok head args xid call rec result s e served =
    served xid call (ap (λ (p : CallHead × List ℕ). p.0) e) (subst (λ (a : List ℕ). SpellsArguments call a) (sym (ap (λ (p : CallHead × List ℕ). p.1) e)) s.is)

-- ---- what is refused is a call

version_xid : {A : Type 0} (r : Result (ℕ × List ℕ) XdrFault) (k : ℕ × List ℕ → Result A CallFault) → (r >>=-call k) ≡ Err Version → value_read r ≡ None → ⊥
version_xid (Ok x) k e h = absurd cc
version_xid (Err f) k e h = absurd cc

mismatch_none : (xid : Option ℕ) → mismatch_of xid ≡ askings.NoCall → xid ≡ None
mismatch_none None e = refl
mismatch_none (Some xid) e = absurd cc

pub version_refused : (P : Type 0) (rec : List ℕ) (result : Result Asked Memory) → call_at rec ≡ Err Version → IfOk result (λ a. a ≡ mismatch_of (xid_at rec)) → IfOk result (λ a. a ≡ askings.NoCall → P)
unfolding call_at
version_refused P rec (Ok asked) v e = λ none. absurd (version_xid (u32_at rec) _ v (mismatch_none (xid_at rec) (sym e ∙ none)))
version_refused P rec (Err fault) v e = tt

understood_call : {P : Type 0} (head : CallHead) (args : List ℕ) (asked : Asked) → Understood head args asked → asked ≡ askings.NoCall → P
understood_call head args askings.NoCall u e = absurd u
understood_call head args (askings.Refuse xid bytes) u e = absurd cc
understood_call head args (askings.Serve xid call) u e = absurd cc

pub head_call : (P : Type 0) (head : CallHead) (args : List ℕ) (result : Result Asked Memory) → IfOk result (Understood head args) → IfOk result (λ a. a ≡ askings.NoCall → P)
head_call P head args (Ok asked) u = λ e. understood_call head args asked u e
head_call P head args (Err fault) u = tt
