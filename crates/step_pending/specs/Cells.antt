-- What is pending, as the law of written bytes sees it: of each place of a file the newest byte that isn't in flight, and the byte that is
-- (RFC 1813, sections 3.3.7 and 4.8).
use Rattle.std.specs.Prelude.{◌≡◌, List, Option, Some, None, ℕ, ⊤}
use Rattle.std.specs.Option.{option_map}
use Rattle.write_back.specs.declared.state.State.{State}
use Rattle.write_back.specs.declared.state.State.TheVariants.{Waiting, InFlight, Acked}
use Rattle.write_back.specs.Files.{Pending, of_file}
use Rattle.write_back.specs.Pieces.{Flown, rest_at, fly_at}
use Rattle.write_back.specs.Segments as segments
use Rattle.write_back.specs.Sound.{IsSound}
use Rattle.model_writes.specs.Machine.{Mark, unsent, again, acked, Cell, Flight, View}
use Rattle.model_writes.specs.Story.{Spot}

-- A mark fits a state: what waits wasn't sent yet or is to be sent again, and what the server has, it has under this verifier.
abbrev pub Fits : State → Mark → Type 0
Fits (Waiting ready) unsent = ⊤
Fits (Waiting ready) again = ⊤
Fits (Waiting ready) (acked verf) = ⊥
Fits (InFlight ready) mark = ⊥
Fits (Acked held) unsent = ⊥
Fits (Acked held) again = ⊥
Fits (Acked held) (acked verf) = verf ≡ held.0

-- a pending byte that isn't in flight, with the number of its write
pub record IsCell (kept : segments.Cell) (cell : Cell) : Type 0 where
  pub byte : cell.byte ≡ kept.byte
  pub number : cell.number ≡ kept.number
  pub fits : Fits kept.state cell.mark

abbrev pub IsRest : Option segments.Cell → Option Cell → Type 0
IsRest None None = ⊤
IsRest None (Some cell) = ⊥
IsRest (Some kept) None = ⊥
IsRest (Some kept) (Some cell) = IsCell kept cell

-- a byte in flight, with the number of its write and the xid of the call
abbrev pub flight_of : Flown → Flight
flight_of flown = record { byte = flown.byte; number = flown.number; xid = flown.xid }

-- the pending bytes of each file are sound
abbrev pub EachSound : Pending → Type 0
EachSound pending = (file : List ℕ) → IsSound (of_file file pending)

-- a client's view shows at each place what is pending there
pub record Shows (pending : Pending) (c : View) : Type 0 where
  pub rest : (i : Spot) → IsRest (rest_at (of_file i.file pending) i.at) (c.rest i)
  pub fly : (i : Spot) → c.fly i ≡ option_map flight_of (fly_at (of_file i.file pending) i.at)

-- After a call there are pending bytes and bytes in flight, by place. Each view that has them shows what is pending, and this is the step to it.
pub record Leads (new : Pending) (Step : View → View → Type 0) (c : View) : Type 0 where
  pub rest : Spot → Option Cell
  pub fly : Spot → Option Flight
  pub shows : (d : View) → ((i : Spot) → d.rest i ≡ rest i) → ((i : Spot) → d.fly i ≡ fly i) → Shows new d
  pub steps : (d : View) → ((i : Spot) → d.rest i ≡ rest i) → ((i : Spot) → d.fly i ≡ fly i) → Step c d
