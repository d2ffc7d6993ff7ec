-- Calls that are refused before they reach the export, and the records that say so (RFC 5531, section 9).
use Rattle.std.specs.Prelude.{ℕ, List}
use Rattle.rpc_message.specs.Reply.{RpcReply, Refused, Denied, refused_bytes, denied_bytes}
use Rattle.export_serve.specs.declared.refusal.Refusal.{Refusal}
use Rattle.export_serve.specs.declared.refusal.Refusal.TheVariants as refusals

-- RPC_MISMATCH with 2 and 2, PROG_UNAVAIL, PROG_MISMATCH with 3 and 3, PROC_UNAVAIL and GARBAGE_ARGS
abbrev pub refusal_reply : ℕ → Refusal → RpcReply
refusal_reply xid refusals.Rpc = Denied xid 0 2 2
refusal_reply xid refusals.Program = Refused xid 1 0 0
refusal_reply xid refusals.Version = Refused xid 2 3 3
refusal_reply xid refusals.Procedure = Refused xid 3 0 0
refusal_reply xid refusals.Arguments = Refused xid 4 0 0

-- their written spelling
abbrev pub refusal_bytes : ℕ → Refusal → List ℕ
refusal_bytes xid refusals.Rpc = denied_bytes xid 0 2 2
refusal_bytes xid refusals.Program = refused_bytes xid 1 0 0
refusal_bytes xid refusals.Version = refused_bytes xid 2 3 3
refusal_bytes xid refusals.Procedure = refused_bytes xid 3 0 0
refusal_bytes xid refusals.Arguments = refused_bytes xid 4 0 0
