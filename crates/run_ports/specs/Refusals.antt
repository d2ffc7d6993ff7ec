-- What is written if a port mapper told no port (RFC 1833, section 3), and the status then.
use Rattle.std.specs.Prelude.{◌≡◌, ◌≤◌, ◌⊎◌, ℕ, List, [], ◌++◌, codes, decimal}
use Rattle.port_finder.specs.declared.finder.PortFault.{PortFault}
use Rattle.port_finder.specs.declared.finder.PortFault.TheVariants as faults
use Rattle.script_runs.specs.Run.{IsCutOff}
use Rattle.world_model.specs.Follows.{IsFront}
use Rattle.run_ports.specs.declared.reason.Reason.{Reason}
use Rattle.run_ports.specs.declared.reason.Reason.TheVariants as reasons

-- one of a run, or 10, if no port was told
abbrev pub IsStatus : ℕ → Type 0
IsStatus status = (status ≤ 8) ⊎ (status ≡ 10)

abbrev pub reason_text : Reason → List ℕ
reason_text reasons.None = codes "none"
reason_text (reasons.Rpc n) = codes "rpc " ++ decimal n
reason_text (reasons.Bad n) = codes "bad " ++ decimal n

-- the line that says why there is no port of the program
abbrev pub refusal_text : ℕ → Reason → List ℕ
refusal_text prog reason = codes "portmap " ++ decimal prog ++ codes " " ++ reason_text reason ++ codes "\n"

-- The line was written, and the status is 10; or the session was cut off within it.
pub data Tells (prog : ℕ) (reason : Reason) (status : ℕ) (text : List ℕ) : Type 0 where
  whole : status ≡ 10 → text ≡ refusal_text prog reason → Tells prog reason status text
  front : IsCutOff status → IsFront text (refusal_text prog reason) → Tells prog reason status text

-- how a session without ports ends: in 6 if the link to the port mapper is lost, in 7 if memory ran out
abbrev pub Ends : PortFault → ℕ → List ℕ → Type 0
Ends (faults.None prog) status text = Tells prog reasons.None status text
Ends (faults.Rpc prog n) status text = Tells prog (reasons.Rpc n) status text
Ends (faults.Bad prog n) status text = Tells prog (reasons.Bad n) status text
Ends faults.Lost status text = (status ≡ 6) × (text ≡ [])
Ends faults.Memory status text = (status ≡ 7) × (text ≡ [])
