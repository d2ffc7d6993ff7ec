-- What a record asks for (RFC 5531, section 9, and RFC 1813): nothing, a call that is refused, or a call of NFS or
-- MOUNT.
use Rattle.std.specs.Prelude.{◌≡◌, ℕ, List, ◌==◌, ◌||◌, Bool, not, Option, Some, None, Result, Ok, Err, if◌then◌else◌}
use Rattle.xdr_codec.specs.declared.reader.XdrFault.{XdrFault}
use Rattle.xdr_codec.specs.declared.codec_fault.CodecFault.{CodecFault}
use Rattle.xdr_codec.specs.declared.codec_fault.CodecFault.TheVariants as faults
use Rattle.nfs_types.specs.declared.program.TheConstants.{NFS_PROGRAM, MOUNT_PROGRAM, PROGRAM_VERSION}
use Rattle.mount_calls.specs.declared.call.MountCall.{MountCall}
use Rattle.nfs_dir_calls.specs.declared.call.DirCall.{DirCall}
use Rattle.nfs_file_calls.specs.declared.call.FileCall.{FileCall}
use Rattle.mount_calls.specs.Calls.{is_mount_proc, mount_call_at}
use Rattle.nfs_dir_calls.specs.Calls.{is_dir_proc, dir_call_at}
use Rattle.nfs_file_calls.specs.Calls.{is_file_proc, file_call_at}
use Rattle.rpc_message.specs.declared.call.CallHead.{CallHead}
use Rattle.rpc_message.specs.declared.call.CallFault.{CallFault}
use Rattle.rpc_message.specs.declared.call.CallFault.TheVariants.{NotCall, Xdr, Version}
use Rattle.rpc_message.specs.Call.{call_at, xid_at}
use Rattle.rpc_message.specs.Reply.{SpellsReply}
use Rattle.world_model.specs.declared.message.Call.{Call}
use Rattle.world_model.specs.declared.message.Call.TheVariants as calls
use Rattle.world_model.specs.Messages.{HasXid, SpellsCall, SpellsArguments, program_of, proc_of, head_of}
use Rattle.export_fs.specs.Spelling.{HasSpellingCall}
use Rattle.export_serve.specs.declared.request.Asked.{Asked}
use Rattle.export_serve.specs.declared.request.Asked.TheVariants as askings
use Rattle.export_serve.specs.declared.refusal.Refusal.{Refusal}
use Rattle.export_serve.specs.declared.refusal.Refusal.TheVariants as refusals
use Rattle.export_serve.specs.Refusals.{refusal_reply, refusal_bytes}

-- NFS or MOUNT
abbrev pub is_program : ℕ → Bool
is_program prog = (prog == NFS_PROGRAM) || (prog == MOUNT_PROGRAM)

-- a procedure of NFS, 0 to 21, or one of MOUNT that the export has: 0, 1, 3 and 5
abbrev pub is_served : ℕ → ℕ → Bool
is_served prog proc = if prog == MOUNT_PROGRAM then is_mount_proc proc else (is_dir_proc proc || is_file_proc proc)

-- ---- what reading gives

abbrev pub mount_read : Result MountCall XdrFault → Option Call
mount_read (Ok call) = Some (calls.Mount call)
mount_read (Err fault) = None

abbrev pub dir_read : Result DirCall XdrFault → Option Call
dir_read (Ok call) = Some (calls.Dir call)
dir_read (Err fault) = None

abbrev pub file_read : Result FileCall XdrFault → Option Call
file_read (Ok call) = Some (calls.File call)
file_read (Err fault) = None

-- the call of a procedure of a program that the arguments spell, if they spell one
abbrev pub arguments_at : ℕ → ℕ → List ℕ → Option Call
arguments_at prog proc args =
    if prog == MOUNT_PROGRAM then mount_read (mount_call_at proc args) else
    (if is_dir_proc proc then dir_read (dir_call_at proc args) else file_read (file_call_at proc args))

-- what a function gave is that call: out of memory is free
abbrev pub GivesCallOf : Result Call CodecFault → Option Call → Type 0
GivesCallOf (Ok call) read = read ≡ Some call
GivesCallOf (Err faults.Memory) read = Unit {0}
GivesCallOf (Err (faults.Xdr fault)) read = read ≡ None

-- a call is refused so
abbrev pub refused_as : ℕ → Refusal → Asked
refused_as xid refusal = askings.Refuse xid (refusal_bytes xid refusal)

-- the call that the arguments spell, and a refusal if they spell none
abbrev pub served_as : ℕ → Option Call → Asked
served_as xid (Some call) = askings.Serve xid call
served_as xid None = refused_as xid refusals.Arguments

-- what a head and arguments ask for: the first of the program, its version, the procedure and the arguments that
-- isn't served is why it is refused
abbrev pub head_asks : CallHead → List ℕ → Asked
head_asks head args =
    if not (is_program head.prog) then refused_as head.xid refusals.Program else
    (if not (head.vers == PROGRAM_VERSION) then refused_as head.xid refusals.Version else
    (if not (is_served head.prog head.proc) then refused_as head.xid refusals.Procedure else
    served_as head.xid (arguments_at head.prog head.proc args)))

-- a call of another version of RPC is refused under its xid
abbrev pub mismatch_of : Option ℕ → Asked
mismatch_of None = askings.NoCall
mismatch_of (Some xid) = refused_as xid refusals.Rpc

abbrev pub read_asks : List ℕ → Result (CallHead × List ℕ) CallFault → Asked
read_asks bytes (Ok call) = head_asks call.0 call.1
read_asks bytes (Err Version) = mismatch_of (xid_at bytes)
read_asks bytes (Err NotCall) = askings.NoCall
read_asks bytes (Err (Xdr fault)) = askings.NoCall

-- what a record asks for, by what reading a call from it gives
abbrev pub asked_at : List ℕ → Asked
asked_at bytes = read_asks bytes (call_at bytes)

-- ---- what is spelled

-- what reading a call from a record gives, if the record is no call
abbrev pub IsNoCall : Result (CallHead × List ℕ) CallFault → Type 0
IsNoCall (Ok call) = ⊥
IsNoCall (Err Version) = ⊥
IsNoCall (Err NotCall) = Unit {0}
IsNoCall (Err (Xdr fault)) = Unit {0}

-- a call of that procedure of the program, and arguments that spell it
pub record SpellsCallOf (prog proc : ℕ) (call : Call) (args : List ℕ) : Type 0 where
  pub program : program_of call ≡ prog
  pub procedure : proc_of call ≡ proc
  pub is : SpellsArguments call args

-- a record that spells a refusal under the xid
pub record RefusesCall (xid : ℕ) (bytes : List ℕ) : Type 0 where
  pub refusal : Refusal
  pub is : SpellsReply (refusal_reply xid refusal) bytes

-- a refusal under the xid
abbrev pub Answers : ℕ → Asked → Type 0
Answers x askings.NoCall = ⊥
Answers x (askings.Refuse xid bytes) = (xid ≡ x) × RefusesCall xid bytes
Answers x (askings.Serve xid call) = ⊥

-- a call of version 3 that a head and arguments spell
pub record Asks (head : CallHead) (args : List ℕ) (xid : ℕ) (call : Call) : Type 0 where
  pub of : head ≡ head_of xid call
  pub is : SpellsArguments call args
  pub writable : HasSpellingCall call

-- a refusal under the head's xid, or a call that is spelled
abbrev pub Understood : CallHead → List ℕ → Asked → Type 0
Understood head args askings.NoCall = ⊥
Understood head args (askings.Refuse xid bytes) = (xid ≡ head.xid) × RefusesCall xid bytes
Understood head args (askings.Serve xid call) = Asks head args xid call

-- A call that is handed on is spelled by the record, and can be spelled again; a refusal is one by RPC, under the
-- record's xid.
abbrev pub IsSound : List ℕ → Asked → Type 0
IsSound rec askings.NoCall = Unit {0}
IsSound rec (askings.Refuse xid bytes) = HasXid rec xid × RefusesCall xid bytes
IsSound rec (askings.Serve xid call) = SpellsCall xid call rec × HasSpellingCall call
