-- How two clients go along the history of both, each along its side.
use Rattle.std.specs.Prelude.{◌≡◌, ℕ, List, [], ◌∷◌, ◌++◌, length, max, false, Option, Result, Ok, Err}
use Rattle.xdr_codec.specs.declared.blob.Memory.{Memory}
use Rattle.world_model.specs.declared.entry.Entry.{Entry}
use Rattle.world_model.specs.declared.tally.Tally.{Tally}
use Rattle.world_model.specs.Entries.{ours}
use Rattle.world_model.specs.Follows.{IsFront}
use Rattle.link_dials.specs.Dials.{Dials}
use Rattle.nfs_script.specs.declared.script.ScriptLine.{ScriptLine}
use Rattle.outside.specs.Pairs.{PairStep, PairTold, seen_by}
use Rattle.pair_ends.specs.declared.side.Side.{Side}
use Rattle.pair_ends.specs.Ends.{AddsAlone, number_of}
use Rattle.session_setup.specs.declared.opening.SetUp.{SetUp}
use Rattle.session_setup.specs.declared.opening.SetUpFault.{SetUpFault}
use Rattle.session_setup.specs.declared.opening.SetUpFault.TheVariants.{Lost}
use Rattle.session_setup.specs.Outcomes.{FitsSession, SetsUp}
use Rattle.lane_session.specs.declared.halt.Halt.{Halt}
use Rattle.lane_session.specs.declared.running.Session.{Session}
use Rattle.lane_session.specs.Bonds.{Bonded}
use Rattle.lane_session.specs.Going.{Goes, Grows}
use Rattle.lane_session.specs.Running.{mounted_by}
use Rattle.lane_session.specs.Statuses.{IsLeft, of_halt}
use Rattle.script_runs.specs.LaneRuns.{setup_of}
use Rattle.script_runs.specs.Readings.{ReadsAll}
use Rattle.script_runs.specs.Streams.{Appends}
use Rattle.pair_runs.specs.declared.client.Client.{Client}
use Rattle.pair_runs.specs.declared.client.State.{State}
use Rattle.pair_runs.specs.declared.client.State.TheVariants as states
use Rattle.pair_runs.specs.declared.turns.Pair.{Pair}
use Rattle.pair_runs.specs.Clients.{AreOver, AreReady, moved, status_in}
use Rattle.pair_runs.specs.Given.{pair_settings}
use Rattle.pair_runs.specs.PairRuns.{ClientRan, LosesAmong, RunsLines, PairRelates}
use Rattle.pair_runs.specs.Texts.{pair_transcript, pair_clocks}

-- What calls lead from and to: readings were given, a text was written, and by them the history of both goes on.
pub record PairPasses (read_old read_new : Option (List ℕ)) (told_old told_new : Option PairTold) (written_old written_new : Option (List ℕ))
    (R : List ℕ → List ℕ → PairTold → PairTold → Type 0) : Type 0 where
  pub given : List ℕ
  pub read : ReadsAll read_old read_new given
  pub text : List ℕ
  pub added : Appends written_old written_new text
  pub told : PairRelates told_old told_new (λ h k. R given text h k)

-- ---- the history of both

-- Steps were added, and they tell these readings and this text.
pub record PairAdds (given text : List ℕ) (h k : PairTold) : Type 0 where
  pub more : List PairStep
  pub grown : k ≡ record { start = h.start; steps = h.steps ++ more }
  pub clocked : given ≡ pair_clocks more
  pub shown : text ≡ pair_transcript more

-- The same of a turn that was cut off: the readings were noted but perhaps the last, and a front of the text was written.
pub record PairBreaks (halt : Halt) (given text : List ℕ) (h k : PairTold) : Type 0 where
  pub more : List PairStep
  pub grown : k ≡ record { start = h.start; steps = h.steps ++ more }
  pub last : List ℕ
  pub clocked : given ≡ pair_clocks more ++ last
  pub left : IsLeft halt last
  pub shown : IsFront text (pair_transcript more)

-- ---- a client, whose first xid is this one, along its side

-- It was set up with the history before. Its session goes with its script, its core with its side, and since the set-up only NFS's port was dialed.
pub record GoesOpen (first : ℕ) (script : List ScriptLine) (h : List Entry) (s : Session) : Type 0 where
  pub v : SetUp
  pub before : List Entry
  pub grown : Grows before h
  pub set_up : SetsUp pair_settings first (Ok v) before
  pub fits : FitsSession pair_settings first v
  pub goes : Goes [] (length before) script h s
  pub core : Bonded (mounted_by pair_settings (setup_of pair_settings v)) (setup_of pair_settings v) (record { from = before; counted = false }) h s
  pub port : s.port ≡ pair_settings.nfs_port
  pub dials : Dials pair_settings.nfs_port before h

-- Its set-up lost the session, and nothing was done since.
pub record GoesLost (first : ℕ) (h : List Entry) : Type 0 where
  pub tally : Tally
  pub before : List Entry
  pub more : List Entry
  pub is : h ≡ before ++ more
  pub set_up : SetsUp pair_settings first (Err (Lost tally)) before
  pub unseen : ours more ≡ []

-- Its session goes so; or its set-up lost the session, and each answer says so.
pub data HasGone (first : ℕ) (script : List ScriptLine) (h : List Entry) : Type 0 where
  by_session : (s : Session) → GoesOpen first script h s → HasGone first script h
  by_loss : (tally : Tally) (before more : List Entry) → h ≡ before ++ more → SetsUp pair_settings first (Err (Lost tally)) before → LosesAmong script more
      → HasGone first script h

-- Each line has its answer.
pub record GoesDone (first : ℕ) (script : List ScriptLine) (h : List Entry) (status : ℕ) : Type 0 where
  pub began : HasGone first script h
  pub lines : RunsLines script h status

abbrev pub StateGoes : ℕ → List ScriptLine → List Entry → State → Type 0
StateGoes first script h (states.Open s) = GoesOpen first script h s
StateGoes first script h states.Lost = GoesLost first h
StateGoes first script h (states.Done status) = GoesDone first script h status

-- ---- a client's set-up

-- It was set up, or its session is lost; or memory ran out.
abbrev pub IsOpened : ℕ → List ScriptLine → Result State Memory → List Entry → Type 0
IsOpened first script (Ok state) k = StateGoes first script k state
IsOpened first script (Err e) k = ClientRan first script k 7

-- Nothing of the other client was added; and if this one had nothing of its own before, its set-up came to this.
pub record SetsUpAt (end first : ℕ) (result : Result SetUp SetUpFault) (h k : PairTold) : Type 0 where
  pub alone : AddsAlone end h k
  pub set_up : ours (seen_by end h.steps) ≡ [] → SetsUp pair_settings first result (seen_by end k.steps)

-- The same of the client that it leaves; and nothing was noted.
pub record OpensAt (end first : ℕ) (script : List ScriptLine) (result : Result State Memory) (h k : PairTold) : Type 0 where
  pub alone : AddsAlone end h k
  pub silent : ours (seen_by end h.steps) ≡ [] → PairAdds [] [] h k
  pub opened : ours (seen_by end h.steps) ≡ [] → IsOpened first script result (seen_by end k.steps)

abbrev pub state_of : Result Client Memory → Result State Memory
state_of (Ok c) = Ok c.state
state_of (Err e) = Err e

-- ---- a turn of a client

abbrev pub TurnsBy : {T : Type 0} → ℕ → List ScriptLine → State → State → Result T Halt → List ℕ → List ℕ → PairTold → PairTold → Type 0
TurnsBy end script old new (Ok x) given text h k =
    AddsAlone end h k × PairAdds given text h k
    × ((first : ℕ) → StateGoes first script (seen_by end h.steps) old → StateGoes first script (seen_by end k.steps) new)
TurnsBy end script old new (Err halt) given text h k =
    AddsAlone end h k × PairBreaks halt given text h k
    × ((first : ℕ) → StateGoes first script (seen_by end h.steps) old → ClientRan first script (seen_by end k.steps) (of_halt halt))

-- the same if the state is yet to move
abbrev pub AdvancesBy : ℕ → List ScriptLine → State → State → Result (Option ℕ) Halt → List ℕ → List ℕ → PairTold → PairTold → Type 0
AdvancesBy end script old new (Ok done) = TurnsBy end script old (moved new done) (Ok done)
AdvancesBy end script old new (Err halt) = TurnsBy {T = Option ℕ} end script old new (Err halt)

-- ---- both clients

-- each client goes along its side
pub record BothGo (p : Pair) (h : PairTold) : Type 0 where
  pub a : StateGoes 1 p.a.script (seen_by 0 h.steps) p.a.state
  pub b : StateGoes 1073741825 p.b.script (seen_by 1 h.steps) p.b.state

-- a run was cut off
pub record BothCut (p : Pair) (halt : Halt) (h : PairTold) : Type 0 where
  pub a : ClientRan 1 p.a.script (seen_by 0 h.steps) (of_halt halt)
  pub b : ClientRan 1073741825 p.b.script (seen_by 1 h.steps) (of_halt halt)

-- a turn leaves each client's script and its end
pub record SamePair (old new : Pair) : Type 0 where
  pub a : new.a ≡ record old.a { state = new.a.state }
  pub b : new.b ≡ record old.b { state = new.b.state }

abbrev pub PairBy : {T : Type 0} → Pair → Pair → Result T Halt → List ℕ → List ℕ → PairTold → PairTold → Type 0
PairBy old new (Ok x) given text h k = SamePair old new × PairAdds given text h k × (BothGo old h → BothGo new k)
PairBy old new (Err halt) given text h k = PairBreaks halt given text h k × (BothGo old h → BothCut old halt k)

-- The turns ended with this status: by the answers of both once both were done, or by what cut the run off.
pub data PairEnds (p : Pair) (status : ℕ) (given text : List ℕ) (h k : PairTold) : Type 0 where
  turns_done : (q : Pair) → AreReady q → AreOver q → status ≡ max (status_in q.a.state) (status_in q.b.state) → PairBy {T = Unit {0}} p q (Ok tt) given text h k
      → PairEnds p status given text h k
  turns_cut : (q : Pair) (halt : Halt) → status ≡ of_halt halt → PairBy {T = Unit {0}} p q (Err halt) given text h k → PairEnds p status given text h k

-- both were set up, in turn, if nothing was told before; or memory ran out
abbrev pub PairOpens : List ScriptLine → List ScriptLine → Result Pair Memory → PairTold → PairTold → Type 0
PairOpens first second (Ok p) h k = PairAdds [] [] h k × BothGo p k
PairOpens first second (Err e) h k = PairAdds [] [] h k × ClientRan 1 first (seen_by 0 k.steps) 7 × ClientRan 1073741825 second (seen_by 1 k.steps) 7
