-- What an export that is served at a port answers to a record, and what it is afterwards.
use Rattle.std.specs.Prelude.{◌≡◌, ℕ, List, Option, Some, None}
use Rattle.rpc_message.specs.Call.{call_at}
use Rattle.portmap_calls.specs.Ports.{answered}
use Rattle.export_serve.specs.Serving.{ServiceView, served, LeftByMemory}

-- the port, the service, the calls that are still to be answered, and the records that are no call and may still come
pub record ServingView : Type 0 where
  pub port : ℕ
  pub service : ServiceView
  pub calls : ℕ
  pub strays : ℕ

-- an answer of the port mapper takes no step; any other record is the service's
abbrev pub answers_by : Option (List ℕ) → List ℕ → ServiceView → ServiceView × Option (List ℕ)
answers_by (Some reply) rec s = (s, Some reply)
answers_by None rec s = served rec s

-- the service after a record, and the answer to it: that of the port mapper of this port (RFC 1833, section 3), or else that of the service
abbrev pub answers : ℕ → List ℕ → ServiceView → ServiceView × Option (List ℕ)
answers port rec s = answers_by (answered port (call_at rec)) rec s

-- the answer, if there is one
abbrev pub answer_to : ServingView → List ℕ → Option (List ℕ)
answer_to s rec = (answers s.port rec s.service).1

-- what is served after a record
abbrev pub serves : ServingView → List ℕ → ServingView
serves s rec = record s { service = (answers s.port rec s.service).0 }

-- Out of memory while a record is answered: the service is left as `serve` leaves it, and all else is as it was.
pub record LeftOut (rec : List ℕ) (s t : ServingView) : Type 0 where
  pub service : LeftByMemory rec s.service t.service
  pub rest : t ≡ record s { service = t.service }
