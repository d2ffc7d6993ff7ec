-- What becomes of bytes that were written: they may be sent, are in flight, or the server has them, not yet stable (RFC 1813,
-- sections 3.3.7 and 4.8).
use Rattle.std.specs.Prelude.{ℕ, Bool, true, false, nat_eq, Option, Some, None}
use Rattle.std.specs.Cmp.Lexicographic.{pointwise}
use Rattle.nfs_types.specs.declared.verf.Verf.{Verf}
use Rattle.write_back.specs.declared.state.State.{State}
use Rattle.write_back.specs.declared.state.State.TheVariants.{Waiting, InFlight, Acked}
use Rattle.write_back.specs.declared.state.Ready.{Ready}
use Rattle.write_back.specs.declared.state.Ready.TheVariants.{Unsent, Again, Refused}

-- whether two verifiers have the same eight bytes
abbrev pub same_verf : Verf → Verf → Bool
same_verf v w = pointwise nat_eq v.0 w.0

-- how bytes are to be sent: 2 as stable, 0 otherwise (RFC 1813, section 3.3.7, stable_how)
abbrev pub how_of : Ready → ℕ
how_of Unsent = 0
how_of Again = 2
how_of (Refused status) = 0

-- what became of bytes before they are or were sent
abbrev pub ready_of : State → Ready
ready_of (Waiting ready) = ready
ready_of (InFlight ready) = ready
ready_of (Acked verf) = Unsent

-- what may be sent is sent
abbrev pub sent : State → State
sent (Waiting ready) = InFlight ready
sent (InFlight ready) = InFlight ready
sent (Acked verf) = Acked verf

-- a change of what is in flight alone
abbrev pub answered : (Ready → Option State) → State → Option State
answered f (Waiting ready) = Some (Waiting ready)
answered f (InFlight ready) = f ready
answered f (Acked verf) = Some (Acked verf)

-- a change of what the server has alone
abbrev pub committed : (Verf → Option State) → State → Option State
committed f (Waiting ready) = Some (Waiting ready)
committed f (InFlight ready) = Some (InFlight ready)
committed f (Acked verf) = f verf

-- whether bytes are in flight, and whether they may be sent
abbrev pub is_in_flight : State → Bool
is_in_flight (Waiting ready) = false
is_in_flight (InFlight ready) = true
is_in_flight (Acked verf) = false

abbrev pub is_ready : State → Bool
is_ready (Waiting ready) = true
is_ready (InFlight ready) = false
is_ready (Acked verf) = false

-- whether a change takes bytes away or gives them another kind of state
abbrev pub is_changed : State → Option State → Bool
is_changed state None = true
is_changed (Waiting ready) (Some (Waiting left)) = false
is_changed (Waiting ready) (Some (InFlight left)) = true
is_changed (Waiting ready) (Some (Acked left)) = true
is_changed (InFlight ready) (Some (Waiting left)) = true
is_changed (InFlight ready) (Some (InFlight left)) = false
is_changed (InFlight ready) (Some (Acked left)) = true
is_changed (Acked verf) (Some (Waiting left)) = true
is_changed (Acked verf) (Some (InFlight left)) = true
is_changed (Acked verf) (Some (Acked left)) = false
