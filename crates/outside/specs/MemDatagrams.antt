-- Datagrams in memory.
use Rattle.std.specs.Prelude.{map, ◌≡◌, ℕ, List, [], ◌∷◌, Bool, true, false}
use Rattle.outside.specs.declared.datagrams.DatagramEntry.{DatagramEntry}
use Rattle.outside.specs.declared.datagrams.Arrived.{Arrived}
use Rattle.outside.specs.declared.datagrams.Arrived.TheVariants as arrivals
use Rattle.outside.specs.declared.mem_datagrams.Arrival.{Arrival}
use Rattle.outside.specs.declared.places.DatagramAdds.{DatagramAdds}
use Rattle.world_model.specs.History.{no_server}
use Rattle.outside.specs.Datagrams.{DatagramCall, DatagramsTold}

-- what a caller sees of them: what the calls did, and the arrivals that weren't handed out; the numbers of the calls
-- that fail, and how many were made but for notes; the faults so far, and what a link placed
pub record DatagramsView : Type 0 where
  pub told : List DatagramEntry
  pub left : List Arrival
  pub fails : List ℕ
  pub calls : ℕ
  pub faults : ℕ
  pub placed : List DatagramAdds

-- a call before which the server did nothing
abbrev pub by_itself : DatagramEntry → DatagramCall
by_itself did = record { quiet = []; did = did }

-- what such datagrams tell: nothing is known of a server
abbrev pub of_memory : List DatagramEntry → DatagramsTold
of_memory entries = record { start = no_server; calls = map by_itself entries }

-- The next arrival came; it is silent exactly if none is left; else all are left.
abbrev pub HandsArrival : List Arrival → List Arrival → List ℕ → Arrived → Type 0
HandsArrival old new bytes (arrivals.From port) = old ≡ record { port = port; bytes = bytes } ∷ new
HandsArrival old new bytes arrivals.Silent = (old ≡ []) × (new ≡ [])
HandsArrival old new bytes arrivals.Failed = new ≡ old
HandsArrival old new bytes arrivals.Memory = new ≡ old

-- A failure comes exactly if the call is one that is to fail; a failure is told too, so memory may run out for it.
abbrev pub ArrivalFailsListed : Arrived → Bool → Type 0
ArrivalFailsListed (arrivals.From port) listed = listed ≡ false
ArrivalFailsListed arrivals.Silent listed = listed ≡ false
ArrivalFailsListed arrivals.Failed listed = listed ≡ true
ArrivalFailsListed arrivals.Memory listed = Unit {0}
