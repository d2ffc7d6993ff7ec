-- Two paths are walked, one after the other, and one call is made on the objects to which they lead.
use Rattle.std.specs.Prelude.{◌≡◌, ◌||◌, ℕ, Bool, true, false, if◌then◌else◌, List, length, Result}
use Rattle.world_model.specs.declared.answer.Fault.{Fault}
use Rattle.world_model.specs.declared.answer.Answer.TheVariants as answers
use Rattle.world_model.specs.declared.message.Call.{Call}
use Rattle.world_model.specs.declared.message.Reply.{Reply}
use Rattle.client_shelf.specs.declared.turn.Turn.{Turn}
use Rattle.client_shelf.specs.declared.shelf.Shelf.{Shelf}
use Rattle.client_shelf.specs.declared.step.Step.{Step}
use Rattle.client_shelf.specs.declared.step.Step.TheVariants as nexts
use Rattle.name_ops.specs.declared.walk.Walk.{Walk}
use Rattle.name_ops.specs.declared.walk.WalkStep.{WalkStep}
use Rattle.name_ops.specs.declared.walk.WalkStep.TheVariants.{Send, Wait, At, Refused}
use Rattle.name_ops.specs.declared.pair.Pair.{Pair}
use Rattle.name_ops.specs.declared.pair.PairStep.{PairStep}
use Rattle.name_ops.specs.declared.pair.PairStep.TheVariants as pairs
use Rattle.name_ops.specs.Walking.{go_next, go_after, go_shelf, waiting_name, Takes}

-- a walk that stands at the root
abbrev pub walk_of : List ℕ → List (List ℕ) → Walk
walk_of root path = record { path = path; spot = record { dir = root; left = length path }; asked = false }

abbrev pub pair_of : List ℕ → List (List ℕ) → List (List ℕ) → Pair
pair_of root first second = record { first = walk_of root first; second = walk_of root second; asked = false }

-- At the objects the call is asked for as soon as there is room.
abbrev pub asks_next : List ℕ → List ℕ → Bool → PairStep
asks_next first second room = if room then pairs.Ask first second else pairs.Wait

abbrev pub asks_after : Bool → Pair → Pair
asks_after room p = if room then record p { asked = true } else p

-- It does as its second walk does, until that has come to its end.
abbrev pub led_second : List ℕ → WalkStep → Bool → PairStep
led_second first (Send call) room = pairs.Look call
led_second first Wait room = pairs.Wait
led_second first (At second) room = asks_next first second room
led_second first (Refused fault) room = pairs.Refused fault

abbrev pub second_kept : WalkStep → Bool → Pair → Pair
second_kept (Send call) room p = p
second_kept Wait room p = p
second_kept (At second) room p = asks_after room p
second_kept (Refused fault) room p = p

-- the second walk goes on
abbrev pub second_next : List ℕ → Pair → Turn → Shelf → PairStep
second_next first p turn shelf = led_second first (go_next p.second turn shelf) turn.room

abbrev pub second_after : Pair → Turn → Shelf → Pair
second_after p turn shelf = second_kept (go_next p.second turn shelf) turn.room (record p { second = go_after p.second turn shelf })

abbrev pub second_shelf : Pair → Turn → Shelf → Shelf
second_shelf p turn shelf = go_shelf p.second turn shelf

-- It does as its first walk does, and goes on with the second one from its end.
abbrev pub led_first : WalkStep → Pair → Turn → Shelf → PairStep
led_first (Send call) p turn shelf = pairs.Look call
led_first Wait p turn shelf = pairs.Wait
led_first (At first) p turn shelf = second_next first p turn shelf
led_first (Refused fault) p turn shelf = pairs.Refused fault

abbrev pub first_kept : WalkStep → Pair → Turn → Shelf → Pair
first_kept (Send call) p turn shelf = p
first_kept Wait p turn shelf = p
first_kept (At first) p turn shelf = second_after p turn shelf
first_kept (Refused fault) p turn shelf = p

abbrev pub first_shelf : WalkStep → Pair → Turn → Shelf → Shelf
first_shelf (Send call) p turn shelf = shelf
first_shelf Wait p turn shelf = shelf
first_shelf (At first) p turn shelf = second_shelf p turn shelf
first_shelf (Refused fault) p turn shelf = shelf

-- the first walk goes on
abbrev pub walked_first : Pair → Turn → Shelf → Pair
walked_first p turn shelf = record p { first = go_after p.first turn shelf }

abbrev pub on_next : Pair → Turn → Shelf → PairStep
on_next p turn shelf = led_first (go_next p.first turn shelf) (walked_first p turn shelf) turn (go_shelf p.first turn shelf)

abbrev pub on_after : Pair → Turn → Shelf → Pair
on_after p turn shelf = first_kept (go_next p.first turn shelf) (walked_first p turn shelf) turn (go_shelf p.first turn shelf)

abbrev pub on_shelf : Pair → Turn → Shelf → Shelf
on_shelf p turn shelf = first_shelf (go_next p.first turn shelf) (walked_first p turn shelf) turn (go_shelf p.first turn shelf)

-- A step that no reply made possible: nothing, if the second walk or the call has no reply yet.
abbrev pub waits : Pair → Bool
waits p = p.asked || p.second.asked

abbrev pub pair_next : Pair → Turn → Shelf → PairStep
pair_next p turn shelf = if waits p then pairs.Wait else on_next p turn shelf

abbrev pub pair_after : Pair → Turn → Shelf → Pair
pair_after p turn shelf = if waits p then p else on_after p turn shelf

abbrev pub pair_shelf : Pair → Turn → Shelf → Shelf
pair_shelf p turn shelf = if waits p then shelf else on_shelf p turn shelf

-- the step at what came of a call of a walk
pub record TakesFirst (p : Pair) (sent turn : Turn) (came : Result Reply Fault) (old : Shelf) (next : PairStep) (new : Pair) (after : Shelf) : Type 0 where
  pub step : WalkStep
  pub walked : Pair
  pub heard : Shelf
  pub takes : Takes (waiting_name p.first) p.first sent turn came old step walked.first heard
  pub walked_is : walked ≡ record p { first = walked.first }
  pub next_is : next ≡ led_first step walked turn heard
  pub pair_is : new ≡ first_kept step walked turn heard
  pub shelf_is : after ≡ first_shelf step walked turn heard

pub record TakesSecond (p : Pair) (sent turn : Turn) (came : Result Reply Fault) (old : Shelf) (next : PairStep) (new : Pair) (after : Shelf) : Type 0 where
  pub step : WalkStep
  pub walked : Pair
  pub takes : Takes (waiting_name p.second) p.second sent turn came old step walked.second after
  pub walked_is : walked ≡ record p { second = walked.second }
  pub next_is : next ≡ led_second p.first.spot.dir step turn.room
  pub pair_is : new ≡ second_kept step turn.room walked

-- by whether the first walk waits for a reply
abbrev pub PairTakes : Bool → Pair → Turn → Turn → Result Reply Fault → Shelf → PairStep → Pair → Shelf → Type 0
PairTakes true p sent turn came old next new after = TakesFirst p sent turn came old next new after
PairTakes false p sent turn came old next new after = TakesSecond p sent turn came old next new after

-- a step of the walks as one of an operation that makes this call on the objects
abbrev pub next_by : (List ℕ → List ℕ → Call) → PairStep → Step
next_by call (pairs.Look look) = nexts.Send look
next_by call pairs.Wait = nexts.Wait
next_by call (pairs.Ask first second) = nexts.Send (call first second)
next_by call (pairs.Refused fault) = nexts.Done (answers.Refused fault)

-- a reply's step of an operation that made no call on the objects yet
pub record Walks (call : List ℕ → List ℕ → Call) (p : Pair) (sent turn : Turn) (came : Result Reply Fault) (old : Shelf) (next : Step) (new : Pair)
    (after : Shelf) : Type 0 where
  pub step : PairStep
  pub takes : PairTakes p.first.asked p sent turn came old step new after
  pub next_is : next ≡ next_by call step
