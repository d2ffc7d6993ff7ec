-- What finding the ports of a server shows (RFC 1833, section 3).
use Rattle.std.specs.Prelude.{◌≡◌, ◌<◌, ◌≤◌, ◌+◌, ℕ, zero, suc, List, [], ◌∷◌, ◌++◌, length, Result, Ok, Err}
use Rattle.nfs_types.specs.declared.program.TheConstants.{NFS_PROGRAM, MOUNT_PROGRAM, PROGRAM_VERSION}
use Rattle.rpc_message.specs.declared.cred.Cred.TheVariants as creds
use Rattle.rpc_message.specs.Call.{call_head_bytes}
use Rattle.portmap_calls.specs.Mappings.{mapping_bytes}
use Rattle.portmap_calls.specs.Ports.{get_port_head}
use Rattle.world_model.specs.declared.entry.Entry.{Entry}
use Rattle.world_model.specs.declared.entry.Entry.TheVariants.{Dialed, Sent, Delivered, Failed}
use Rattle.world_model.specs.Messages.{HasXid}
use Rattle.world_model.specs.Lost.{Loses}
use Rattle.port_finder.specs.declared.halt.Halt.{Halt}
use Rattle.port_finder.specs.declared.halt.Halt.TheVariants as halts
use Rattle.port_finder.specs.declared.reply.Refusal.{Refusal}
use Rattle.port_finder.specs.declared.reply.Refusal.TheVariants as refusals
use Rattle.port_finder.specs.declared.finder.Ports.{Ports}
use Rattle.port_finder.specs.declared.finder.PortFault.{PortFault}
use Rattle.port_finder.specs.declared.finder.PortFault.TheVariants as faults
use Rattle.port_finder.specs.Replies.{Means}
use Rattle.port_finder.specs.Talk.{Exchanges}

-- the record of a call of GETPORT for version 3 of a program
abbrev pub port_call : ℕ → ℕ → ℕ → List ℕ
port_call xid prog prot =
    call_head_bytes (get_port_head xid) creds.None ++ mapping_bytes (record { prog = prog; vers = PROGRAM_VERSION; prot = prot; port = 0 })

abbrev pub fault_by : Halt → PortFault
fault_by halts.Lost = faults.Lost
fault_by halts.Memory = faults.Memory

abbrev pub refused_by : ℕ → Refusal → PortFault
refused_by prog refusals.None = faults.None prog
refused_by prog (refusals.Rpc n) = faults.Rpc prog n
refused_by prog (refusals.Bad n) = faults.Bad prog n

-- ---- one program

-- a record came under the xid of the call, and what it means
pub record Hears (port xid : ℕ) (call : List ℕ) (meaning : Result ℕ Refusal) (es : List Entry) : Type 0 where
  pub rec : List ℕ
  pub exchanges : Exchanges port xid call (Ok rec) es
  pub means : Means xid rec meaning

-- asking for the port of a program
abbrev pub Asks : ℕ → ℕ → ℕ → ℕ → Result ℕ PortFault → List Entry → Type 0
Asks port xid prog prot (Ok found) es = Hears port xid (port_call xid prog prot) (Ok found) es
Asks port xid prog prot (Err (faults.None p)) es = (p ≡ prog) × Hears port xid (port_call xid prog prot) (Err refusals.None) es
Asks port xid prog prot (Err (faults.Rpc p n)) es = (p ≡ prog) × Hears port xid (port_call xid prog prot) (Err (refusals.Rpc n)) es
Asks port xid prog prot (Err (faults.Bad p n)) es = (p ≡ prog) × Hears port xid (port_call xid prog prot) (Err (refusals.Bad n)) es
Asks port xid prog prot (Err faults.Lost) es = Exchanges port xid (port_call xid prog prot) (Err halts.Lost) es
Asks port xid prog prot (Err faults.Memory) es = Exchanges port xid (port_call xid prog prot) (Err halts.Memory) es

-- ---- both programs

-- what a call may add: its record, a dial of the port, a record that came, or that something failed
abbrev pub IsFor : ℕ → List ℕ → Entry → Type 0
IsFor port call (Sent bytes) = bytes ≡ call
IsFor port call (Dialed p) = p ≡ port
IsFor port call (Delivered rec) = Unit {0}
IsFor port call Failed = Unit {0}
IsFor port call e = ⊥

abbrev pub AreFor : ℕ → List ℕ → List Entry → Type 0
AreFor port call [] = Unit {0}
AreFor port call (e ∷ es) = IsFor port call e × AreFor port call es

-- how many records were sent
abbrev pub one_sent : Entry → ℕ
one_sent (Sent bytes) = 1
one_sent e = 0

abbrev pub sendings : List Entry → ℕ
sendings [] = 0
sendings (e ∷ es) = one_sent e + sendings es

-- The entries of one call: its record was sent at most four times, with the same bytes.
pub record Calls (port : ℕ) (call : List ℕ) (es : List Entry) : Type 0 where
  pub for_it : AreFor port call es
  pub few : sendings es ≤ 4

-- how many dials in a row there are after an entry, and after entries
abbrev pub run_of : Entry → ℕ → ℕ
run_of (Dialed port) n = suc n
run_of Failed n = n
run_of e n = 0

abbrev pub run_after : List Entry → ℕ → ℕ
run_after [] n = n
run_after (e ∷ es) n = run_after es (run_of e n)

-- no more than four dials in a row, after so many
abbrev pub RunsFit : List Entry → ℕ → Type 0
RunsFit [] n = Unit {0}
RunsFit (e ∷ es) n = (run_of e n ≤ 4) × RunsFit es (run_of e n)

-- no record under the xid was sent, or came
abbrev pub IsSentElse : ℕ → Entry → Type 0
IsSentElse xid (Sent bytes) = HasXid bytes xid → ⊥
IsSentElse xid e = Unit {0}

abbrev pub NoneSent : ℕ → List Entry → Type 0
NoneSent xid [] = Unit {0}
NoneSent xid (e ∷ es) = IsSentElse xid e × NoneSent xid es

abbrev pub CameElse : ℕ → Entry → Type 0
CameElse xid (Delivered rec) = HasXid rec xid → ⊥
CameElse xid e = Unit {0}

abbrev pub NoneCame : ℕ → List Entry → Type 0
NoneCame xid [] = Unit {0}
NoneCame xid (e ∷ es) = CameElse xid e × NoneCame xid es

-- The reply to a call: the first record that came under its xid after it was sent first.
pub record Answered (es : List Entry) (xid : ℕ) (call rec : List ℕ) : Type 0 where
  pub before : List Entry
  pub between : List Entry
  pub after : List Entry
  pub is : es ≡ before ++ Sent call ∷ (between ++ Delivered rec ∷ after)
  pub first : NoneSent xid before
  pub none : NoneCame xid between
  pub under : HasXid rec xid

-- the call for a program, and its xid
pub data CallFor (xid prot prog x : ℕ) (call : List ℕ) : Type 0 where
  for_mount : prog ≡ MOUNT_PROGRAM → x ≡ xid → call ≡ port_call xid MOUNT_PROGRAM prot → CallFor xid prot prog x call
  for_nfs : prog ≡ NFS_PROGRAM → x ≡ xid + 1 → call ≡ port_call (xid + 1) NFS_PROGRAM prot → CallFor xid prot prog x call

-- The reply to the call for the program means this.
pub record Replied (xid prot prog : ℕ) (meaning : Result ℕ Refusal) (es : List Entry) : Type 0 where
  pub x : ℕ
  pub call : List ℕ
  pub rec : List ℕ
  pub of : CallFor xid prot prog x call
  pub answered : Answered es x call rec
  pub means : Means x rec meaning

-- What each result comes by. Out of memory has no cause.
abbrev pub FoundSo : ℕ → ℕ → Result Ports PortFault → List Entry → Type 0
FoundSo xid prot (Ok ports) es = Replied xid prot MOUNT_PROGRAM (Ok ports.mount) es × Replied xid prot NFS_PROGRAM (Ok ports.nfs) es
FoundSo xid prot (Err (faults.None prog)) es = Replied xid prot prog (Err refusals.None) es
FoundSo xid prot (Err (faults.Rpc prog n)) es = Replied xid prot prog (Err (refusals.Rpc n)) es
FoundSo xid prot (Err (faults.Bad prog n)) es = Replied xid prot prog (Err (refusals.Bad n)) es
FoundSo xid prot (Err faults.Lost) es = Loses es (length es)
FoundSo xid prot (Err faults.Memory) es = Unit {0}

-- Nothing but the port was dialed, at most four times in a row. Nothing was sent but the two calls of GETPORT and their
-- repeats, the one for MOUNT first. And why the result is what it is.
pub record Ported (port xid prot : ℕ) (result : Result Ports PortFault) (es : List Entry) : Type 0 where
  pub first : List Entry
  pub second : List Entry
  pub is : es ≡ first ++ second
  pub mount : Calls port (port_call xid MOUNT_PROGRAM prot) first
  pub nfs : Calls port (port_call (xid + 1) NFS_PROGRAM prot) second
  pub runs : RunsFit es 0
  pub so : FoundSo xid prot result es
