-- Making a call (RFC 5531, section 9).
use Rattle.std.specs.Prelude.{◌≡◌, ℕ, List, length, ◌++◌, Result, Ok, Err, ◌==◌, if◌then◌else◌}
use Rattle.nfs_types.specs.declared.program.TheConstants.{PROGRAM_VERSION}
use Rattle.rpc_message.specs.declared.cred.Cred.{Cred}
use Rattle.rpc_message.specs.declared.call.CallHead.{CallHead}
use Rattle.rpc_message.specs.Call.{call_head_bytes}
use Rattle.rpc_retry.specs.declared.answers.PutRefusal.{PutRefusal}
use Rattle.rpc_retry.specs.declared.answers.PutRefusal.TheVariants as refusals
use Rattle.rpc_retry.specs.declared.answers.PutFault.{PutFault}
use Rattle.rpc_retry.specs.declared.answers.PutFault.TheVariants as faults
use Rattle.rpc_retry.specs.Held.{Held, next_xid}

-- a call of version 3 of a program
abbrev pub call_head : ℕ → ℕ → ℕ → CallHead
call_head xid prog proc = record { xid = xid; prog = prog; vers = PROGRAM_VERSION; proc = proc }

-- the record of such a call and its arguments (RFC 5531, section 9)
abbrev pub call_bytes : Cred → ℕ → ℕ → ℕ → List ℕ → List ℕ
call_bytes cred xid prog proc args = call_head_bytes (call_head xid prog proc) cred ++ args

module _ {P : Type 0} where
  -- whether a call may be made: not once all were made, and not while 32 wait
  abbrev pub check_of : Held P → Result (Unit {0}) PutRefusal
  check_of h = if h.made == h.limit then Err refusals.Spent else (if length h.calls == 32 then Err refusals.Crowded else Ok tt)

  -- what making a call answers if it may be made: the next xid, or out of memory
  abbrev pub MakesCall : Held P → Result ℕ PutFault → Type 0
  MakesCall h (Ok xid) = xid ≡ next_xid h
  MakesCall h (Err faults.Spent) = ⊥
  MakesCall h (Err faults.Crowded) = ⊥
  MakesCall h (Err faults.Memory) = Unit {0}

  -- what making a call answers, by whether it may be made
  abbrev pub AnswersPut : Held P → Result (Unit {0}) PutRefusal → Result ℕ PutFault → Type 0
  AnswersPut h (Err refusals.Spent) result = result ≡ Err faults.Spent
  AnswersPut h (Err refusals.Crowded) result = result ≡ Err faults.Crowded
  AnswersPut h (Ok done) result = MakesCall h result
