-- The two clients of a run: what holds of one between its turns, and what a run ends with.
use Rattle.std.specs.Prelude.{◌≡◌, ◌≤◌, ◌+◌, ◌⊎◌, ◌||◌, ◌==◌, ℕ, List, codes, All, length, max, Bool, true, false, Option, Some, None, Result, Ok, Err}
use Rattle.std.specs.List.{list_all}
use Rattle.nfs_script.specs.declared.script.ScriptLine.{ScriptLine}
use Rattle.nfs_script.specs.Asked.{IsAskedLine}
use Rattle.lane_session.specs.Holding.{IsHeld, tries_left}
use Rattle.lane_session.specs.Statuses.{IsSessionStatus, IsCutOff}
use Rattle.pair_ends.specs.declared.side.Side.{Side}
use Rattle.pair_ends.specs.declared.side.Side.TheVariants as sides
use Rattle.pair_runs.specs.declared.client.Client.{Client}
use Rattle.pair_runs.specs.declared.client.State.{State}
use Rattle.pair_runs.specs.declared.client.State.TheVariants as states
use Rattle.pair_runs.specs.declared.turns.Pair.{Pair}

-- `a` or `b`, one for each client
abbrev pub is_letter : ℕ → Bool
is_letter b = (b == 97) || (b == 98)

abbrev pub AreLetters : List ℕ → Type 0
AreLetters letters = list_all is_letter letters ≡ true

-- what stands before each line of a client
abbrev pub label_of : Side → List ℕ
label_of sides.A = codes "a "
label_of sides.B = codes "b "

-- a client that has lines left stands between two turns
abbrev pub Stands : List ScriptLine → State → Type 0
Stands script (states.Open session) = IsHeld script session
Stands script states.Lost = Unit {0}
Stands script (states.Done status) = IsSessionStatus status

pub record IsReady (c : Client) : Type 0 where
  pub asked : All IsAskedLine c.script
  pub few : length c.script ≤ 16384
  pub stands : Stands c.script c.state

-- how much a client may still try
abbrev pub left_of : State → ℕ
left_of (states.Open session) = tries_left session
left_of states.Lost = 0
left_of (states.Done status) = 0

-- each line has its answer
abbrev pub IsOver : State → Type 0
IsOver (states.Open session) = ⊥
IsOver states.Lost = ⊥
IsOver (states.Done status) = Unit {0}

-- the status by the answers so far
abbrev pub status_in : State → ℕ
status_in (states.Open session) = session.status
status_in states.Lost = 0
status_in (states.Done status) = status

-- ---- a turn

-- the status by the answers, if no line is left
abbrev pub done_by : Bool → ℕ → Option ℕ
done_by true status = None
done_by false status = Some status

abbrev pub is_left : Option ℕ → Bool
is_left None = true
is_left (Some status) = false

-- a client whose lines then all have their answers is done
abbrev pub moved : State → Option ℕ → State
moved state None = state
moved state (Some status) = states.Done status

-- ---- both

-- each is, and has its own end
pub record AreReady (p : Pair) : Type 0 where
  pub a : IsReady p.a
  pub b : IsReady p.b
  pub first : p.a.side ≡ sides.A
  pub second : p.b.side ≡ sides.B

pub record AreOver (p : Pair) : Type 0 where
  pub a : IsOver p.a.state
  pub b : IsOver p.b.state

abbrev pub left_in : Pair → ℕ
left_in p = left_of p.a.state + left_of p.b.state

-- the turns of two clients end with one of these
abbrev pub IsEnding : ℕ → Type 0
IsEnding status = IsSessionStatus status ⊎ IsCutOff status

-- and a run with one of these
abbrev pub IsPairStatus : ℕ → Type 0
IsPairStatus status = IsEnding status ⊎ (status ≡ 3) ⊎ (status ≡ 4)
