-- What a schedule makes of each transmission.
use Rattle.std.specs.Prelude.{ℕ, List, [], Bool, false, Option, None}
use Rattle.world_link.specs.declared.directive.PartialWrite.{PartialWrite}
use Rattle.world_link.specs.declared.directive.RequestId.{RequestId}
use Rattle.world_link.specs.declared.event.Event.{Event}

-- of one transmission, in the order of its turn
pub record FateView : Type 0 where
  -- further copies of these are executed first
  pub late : List RequestId
  pub before : List Event
  pub lost : Bool
  -- a status that it is answered with, how it breaks off, and a bound on the bytes that it handles
  pub answer : Option ℕ
  pub partial : Option PartialWrite
  pub limit : Option ℕ
  pub after : List Event
  pub muted : Bool
  -- its reply is ready once each of these had its turn
  pub held : List RequestId

-- it is executed and answered in its turn
abbrev pub no_fate : FateView
no_fate = record { late = []; before = []; lost = false; answer = None; partial = None; limit = None; after = []; muted = false; held = [] }
