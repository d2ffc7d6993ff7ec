-- Calls (RFC 5531, section 9: rpc_msg and call_body).
use Rattle.std.specs.Prelude.{◌≡◌, ℕ, List, ◌++◌, Option, Some, None, Result, Ok, Err, IfOk, IsOk, not, ◌==◌, if◌then◌else◌}
use Rattle.xdr_codec.specs.declared.reader.XdrFault.{XdrFault}
use Rattle.xdr_codec.specs.Reading.{◌>>=◌, u32_at}
use Rattle.xdr_codec.specs.Spelling.{u32_bytes}
use Rattle.xdr_codec.specs.Spells.{◌⨾◌, SpellsU32}
use Rattle.rpc_message.specs.declared.call.CallHead.{CallHead}
use Rattle.rpc_message.specs.declared.call.CallFault.{CallFault}
use Rattle.rpc_message.specs.declared.call.CallFault.TheVariants.{NotCall, Xdr, Version}
use Rattle.rpc_message.specs.declared.cred.Cred.{Cred}
use Rattle.rpc_message.specs.Auth.{auth_at, SpellsAuth}
use Rattle.rpc_message.specs.Cred.{none_bytes, cred_bytes}

-- the value that was read, if one was
abbrev pub value_read : Result (ℕ × List ℕ) XdrFault → Option ℕ
value_read (Ok x) = Some x.0
value_read (Err f) = None

-- the first word, if 4 bytes are there
abbrev pub xid_at : List ℕ → Option ℕ
xid_at bytes = value_read (u32_at bytes)

-- reading goes on after a field, or its fault is the call's
infixl 10 ◌>>=-call◌
abbrev pub ◌>>=-call◌ : {A B : Type 0} → Result A XdrFault → (A → Result B CallFault) → Result B CallFault
(Ok x) >>=-call f = f x
(Err e) >>=-call f = Err (Xdr e)

-- program, version, procedure, credential and verifier, after which the arguments are left
unfoldable pub head_at : ℕ → List ℕ → Result (CallHead × List ℕ) XdrFault
head_at xid bytes = do
  prog ← u32_at bytes
  vers ← u32_at prog.1
  proc ← u32_at vers.1
  credential ← auth_at proc.1
  verifier ← auth_at credential.1
  Ok (record { xid = xid; prog = prog.0; vers = vers.0; proc = proc.0 }, verifier.1)

-- the RPC version 2 and the head
abbrev pub version_at : ℕ → List ℕ → Result (CallHead × List ℕ) CallFault
version_at xid bytes = u32_at bytes >>=-call λ version. if not (version.0 == 2) then Err Version else (head_at xid version.1 >>=-call λ call. Ok call)

-- what reading a call gives: its head and the arguments, or the first fault in order of spelling
unfoldable pub call_at : List ℕ → Result (CallHead × List ℕ) CallFault
call_at bytes = u32_at bytes >>=-call λ xid. u32_at xid.1 >>=-call λ kind. if not (kind.0 == 0) then Err NotCall else version_at xid.0 kind.1

-- what a function gave, seen by view, is what reading a call gives
abbrev pub GivesCall : {X Y : Type 0} → (X → Y) → Result X CallFault → Result Y CallFault → Type 0
GivesCall view (Ok x) read = read ≡ Ok (view x)
GivesCall view (Err f) read = read ≡ Err f

-- the bytes are these
abbrev pub Is : List ℕ → List ℕ → Type 0
Is v bytes = bytes ≡ v

-- program, version, procedure, credential and verifier
abbrev pub SpellsBody : CallHead → List ℕ → Type 0
SpellsBody head = SpellsU32 head.prog ⨾ SpellsU32 head.vers ⨾ SpellsU32 head.proc ⨾ SpellsAuth ⨾ SpellsAuth

-- A call: xid, message type 0, RPC version 2, the body up to the arguments, and the arguments.
abbrev pub SpellsCallHead : CallHead → List ℕ → List ℕ → Type 0
SpellsCallHead head args = SpellsU32 head.xid ⨾ SpellsU32 0 ⨾ SpellsU32 2 ⨾ SpellsBody head ⨾ Is args

-- What was read is what the record spells, and what it spells is read.
pub record FindsCall {X : Type 0} (view : X → CallHead × List ℕ) (result : Result X CallFault) (bytes : List ℕ) : Type 0 where
  pub found : IfOk result (λ x. SpellsCallHead (view x).0 (view x).1 bytes)
  pub only : (head : CallHead) (args : List ℕ) → SpellsCallHead head args bytes → IfOk result (λ x. view x ≡ (head, args)) × IsOk result

-- ---- what is written

-- xid, message type 0 and RPC version 2
unfoldable pub opening_bytes : ℕ → List ℕ
opening_bytes xid = u32_bytes xid ++ u32_bytes 0 ++ u32_bytes 2

-- program, version and procedure
unfoldable pub program_bytes : ℕ → ℕ → ℕ → List ℕ
program_bytes prog vers proc = u32_bytes prog ++ u32_bytes vers ++ u32_bytes proc

-- a call up to its arguments, with this credential and the verifier AUTH_NONE
unfoldable pub call_head_bytes : CallHead → Cred → List ℕ
call_head_bytes head cred = opening_bytes head.xid ++ program_bytes head.prog head.vers head.proc ++ cred_bytes cred ++ none_bytes
