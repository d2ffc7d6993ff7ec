-- What is seen of the core: its calls, its shelf, and its lanes in order of beginning.
use Rattle.std.specs.Prelude.{◌≡◌, ◌≤◌, ◌+◌, ◌*◌, ◌^◌, ℕ, List, [], length, Bool, false, nat_lt, All}
use Rattle.rpc_retry.specs.Held.{Held, next_xid}
use Rattle.client_shelf.specs.declared.shelf.Shelf.{Shelf}
use Rattle.client_shelf.specs.declared.turn.Turn.{Turn}
use Rattle.client_shelf.specs.Spelling.{AreSpellable}
use Rattle.file_ops.specs.Ready.{IsReady}
use Rattle.client_core.specs.declared.lane.Lane.{Lane}
use Rattle.client_core.specs.declared.lane.Purpose.{Purpose}
use Rattle.client_core.specs.Lanes.{LaneFits}
use Rattle.client_core.specs.Numbers.{AreLanes}

pub record View : Type 0 where
  pub calls : Held Purpose
  pub shelf : Shelf
  pub lanes : List Lane
  pub wsize : ℕ
  pub clock : ℕ
  pub moments : ℕ
  pub begun : ℕ
  pub lost : Bool

-- a further call may wait
abbrev pub has_room : View → Bool
has_room v = nat_lt (length v.calls.calls) 32

-- What a step is told: a call that it makes gets the next xid and the next moment. Moments are given out to operations, calls and replies.
abbrev pub turn_at : View → Turn
turn_at v = record { xid = next_xid v.calls; moment = v.moments + 1; now = v.clock; room = has_room v }

-- the same if its call couldn't be made: no call may be made in this step, and no call has the xid 0
abbrev pub unmade_turn : View → Turn
unmade_turn v = record { xid = 0; moment = v.moments + 1; now = v.clock; room = false }

-- What holds also between a step and the call that it asks for: a WRITE carries 1 to 65,536 bytes, also one that is made again; there are
-- numbers left for writes and moments; the lanes with an operation are of 1 to 16, each once.
pub record IsBound (v : View) : Type 0 where
  pub size : 1 ≤ v.wsize
  pub most : v.wsize ≤ 65536
  pub spells : AreSpellable v.shelf.back
  pub seq : v.shelf.seq ≤ v.moments
  pub moments : v.moments + length v.calls.calls ≤ v.begun + 2 * v.calls.made
  pub begun : v.begun ≤ 2 ^ 32
  pub lanes : AreLanes v.lanes
  pub fits : All LaneFits v.lanes

-- What every step needs and leaves.
pub record IsSound (v : View) : Type 0 where
  pub bound : IsBound v
  pub ready : IsReady (next_xid v.calls) v.shelf.seq v.shelf.back
