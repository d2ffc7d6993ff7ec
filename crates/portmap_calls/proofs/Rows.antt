-- Rows by hand (RFC 1833, section 3; RFC 5531, section 9).
use Rattle.std.proofs.Common.{◌≡◌, ℕ, List, ◌++◌, take, drop, Some, None, Ok, refl}
use Rattle.std.specs.Prelude.{codes}
use Rattle.xdr_codec.specs.Whole.{whole_at}
use Rattle.xdr_codec.specs.Reading.{u32_at, opaque_at, fixed_at}
use Rattle.xdr_codec.specs.Spelling.{u32_bytes, opaque_bytes, fixed_bytes}
use Rattle.xdr_codec.proofs.Hex.{hex}
use Rattle.rpc_message.specs.declared.cred.Cred.TheVariants as creds
use Rattle.rpc_message.specs.Auth.{auth_at}
use Rattle.rpc_message.specs.Cred.{cred_bytes, none_bytes}
use Rattle.rpc_message.specs.Call.{call_at, head_at, call_head_bytes, opening_bytes, program_bytes}
use Rattle.rpc_message.specs.Reply.{accepted_bytes, verified_bytes}
use Rattle.portmap_calls.specs.declared.mapping.Mapping.{Mapping}
use Rattle.portmap_calls.specs.Mappings.{mapping_at, mapping_bytes}
use Rattle.portmap_calls.specs.Ports.{get_port_head, answered}

-- MOUNT, version 3, over TCP, asked for under xid 1
abbrev asked : List ℕ
asked = hex (codes "00000001 00000000 00000002 000186a0 00000002 00000003 00000000 00000000 00000000 00000000 000186a5 00000003 00000006 00000000")

abbrev mount : Mapping
mount = record { prog = 100005; vers = 3; prot = 6; port = 0 }

asked_written : call_head_bytes (get_port_head 1) creds.None ++ mapping_bytes mount ≡ asked
unfolding call_head_bytes opening_bytes program_bytes cred_bytes none_bytes mapping_bytes opaque_bytes fixed_bytes u32_bytes
asked_written = refl

-- the reply that it is on port 20048
abbrev on_20048 : List ℕ
on_20048 = hex (codes "00000001 00000001 00000000 00000000 00000000 00000000 00004e50")

asked_answered : answered 20048 (call_at asked) ≡ Some on_20048
unfolding call_at head_at auth_at opaque_at fixed_at mapping_at accepted_bytes verified_bytes none_bytes opaque_bytes fixed_bytes u32_bytes
asked_answered = refl

told_port : whole_at u32_at (drop 24 on_20048) ≡ Ok 20048
told_port = refl

-- version 4 isn't served, and neither is another program
abbrev fourth : List ℕ
fourth = hex (codes "00000002 00000000 00000002 000186a0 00000002 00000003 00000000 00000000 00000000 00000000 000186a3 00000004 00000006 00000000")

fourth_answered : answered 20048 (call_at fourth) ≡ Some (hex (codes "00000002 00000001 00000000 00000000 00000000 00000000 00000000"))
unfolding call_at head_at auth_at opaque_at fixed_at mapping_at accepted_bytes verified_bytes none_bytes opaque_bytes fixed_bytes u32_bytes
fourth_answered = refl

-- a call of NFS is none of GETPORT, and neither is one whose arguments stop short
abbrev null_call : List ℕ
null_call = hex (codes "00000001 00000000 00000002 000186a3 00000003 00000000 00000000 00000000 00000000 00000000")

null_unanswered : answered 20048 (call_at null_call) ≡ None
unfolding call_at head_at auth_at opaque_at fixed_at
null_unanswered = refl

short_unanswered : answered 20048 (call_at (take 52 asked)) ≡ None
unfolding call_at head_at auth_at opaque_at fixed_at mapping_at
short_unanswered = refl
