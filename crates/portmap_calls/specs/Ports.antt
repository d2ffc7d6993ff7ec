-- Which port is told (RFC 1833, section 3).
use Rattle.std.specs.Prelude.{ℕ, List, ◌++◌, Bool, ◌==◌, ◌&&◌, ◌||◌, if◌then◌else◌, Option, Some, None, Result, Ok, Err}
use Rattle.xdr_codec.specs.declared.reader.XdrFault.{XdrFault}
use Rattle.xdr_codec.specs.Spelling.{u32_bytes}
use Rattle.xdr_codec.specs.Whole.{whole_at}
use Rattle.nfs_types.specs.declared.program.TheConstants.{NFS_PROGRAM, MOUNT_PROGRAM, PROGRAM_VERSION}
use Rattle.rpc_message.specs.declared.call.CallHead.{CallHead}
use Rattle.rpc_message.specs.declared.call.CallFault.{CallFault}
use Rattle.rpc_message.specs.Reply.{accepted_bytes}
use Rattle.portmap_calls.specs.declared.call.TheConstants.{PORTMAP_PROGRAM, PORTMAP_VERSION, GETPORT}
use Rattle.portmap_calls.specs.declared.mapping.Mapping.{Mapping}
use Rattle.portmap_calls.specs.Mappings.{mapping_at}

-- the head of a call of GETPORT
abbrev pub get_port_head : ℕ → CallHead
get_port_head xid = record { xid = xid; prog = PORTMAP_PROGRAM; vers = PORTMAP_VERSION; proc = GETPORT }

abbrev pub is_get_port : CallHead → Bool
is_get_port head = (head.prog == PORTMAP_PROGRAM) && (head.vers == PORTMAP_VERSION) && (head.proc == GETPORT)

-- NFS and MOUNT, version 3, are served on this port, and nothing else is
abbrev pub port_of : ℕ → Mapping → ℕ
port_of port m = if ((m.prog == NFS_PROGRAM) || (m.prog == MOUNT_PROGRAM)) && (m.vers == PROGRAM_VERSION) then port else 0

-- the reply under the xid, if the arguments are a mapping
abbrev pub told : ℕ → ℕ → Result Mapping XdrFault → Option (List ℕ)
told port xid (Ok m) = Some (accepted_bytes xid ++ u32_bytes (port_of port m))
told port xid (Err f) = None

-- the reply to a call of GETPORT
abbrev pub answered : ℕ → Result (CallHead × List ℕ) CallFault → Option (List ℕ)
answered port (Ok call) = if is_get_port call.0 then told port call.0.xid (whole_at mapping_at call.1) else None
answered port (Err f) = None
