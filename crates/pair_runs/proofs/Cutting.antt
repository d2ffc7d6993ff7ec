-- What a client comes to, whose lines are done or that is cut off.
use Rattle.std.proofs.Common.{◌≡◌, ◌≤◌, ◌<◌, ◌⊎◌, inl, inr, ℕ, suc, List, [], ◌∷◌, ◌++◌, length, All, false, refl, sym, ap, subst, ◌∙◌, arith, append-nil, append_assoc}
use Rattle.world_model.specs.declared.answer.Answer.{Answer}
use Rattle.world_model.specs.declared.entry.Entry.{Entry}
use Rattle.world_model.specs.declared.entry.Entry.TheVariants.{Answered}
use Rattle.world_model.specs.Entries.{At, ours}
use Rattle.world_model.specs.Follows.{begun}
use Rattle.nfs_script.specs.declared.script.ScriptLine.{ScriptLine}
use Rattle.nfs_script.specs.Asked.{IsAskedLine}
use Rattle.lane_session.specs.declared.halt.Halt.{Halt}
use Rattle.lane_session.specs.declared.halt.Halt.TheVariants as halts
use Rattle.lane_session.specs.declared.running.Session.{Session}
use Rattle.lane_session.specs.Endings.{whole, cut, entries_of}
use Rattle.lane_session.specs.Going.{Goes, Went, Grows}
use Rattle.lane_session.specs.Holding.{AreQuiet, IsHeld}
use Rattle.lane_session.specs.LaneMarks.{IsResting}
use Rattle.lane_session.specs.Places.{AreIdle}
use Rattle.lane_session.specs.Running.{mounted_by}
use Rattle.lane_session.specs.Sessions.{IsUnmarked}
use Rattle.lane_session.specs.Statuses.{IsCutOff, of_halt}
use Rattle.lane_session.proofs.Ending.{which, none-out, lane-at-end, broken-none}
use Rattle.lane_session.proofs.LaneLaws.{resting-alternates}
use Rattle.lane_session.proofs.LostLaws.{none-gone, never-answered}
use Rattle.lane_session.proofs.Reaching.{core-of}
use Rattle.lane_session.proofs.Since.{since-whole}
use Rattle.lane_session.proofs.Together.{together-whole}
use Rattle.lane_session.proofs.Turning.{went-of}
use Rattle.script_runs.specs.LaneRuns.{setup_of}
use Rattle.script_runs.proofs.LaneRuns.{fresh}
use Rattle.pair_runs.specs.declared.client.State.{State}
use Rattle.pair_runs.specs.declared.client.State.TheVariants as states
use Rattle.pair_runs.specs.Clients.{Stands}
use Rattle.pair_runs.specs.Given.{pair_settings}
use Rattle.pair_runs.specs.PairGoing.{GoesOpen, GoesLost, GoesDone, HasGone, by_session, by_loss, StateGoes}
use Rattle.pair_runs.specs.PairRuns.{ClientBegan, ClientRan, ran, lost, began, LosesAmong, RunsLines}
use Rattle.pair_runs.proofs.Apart.{runs-unseen, own-same}

pub cuts-off : (halt : Halt) → IsCutOff (of_halt halt)
cuts-off halts.Output = inl refl
cuts-off halts.Memory = inr refl

-- ---- a session's lines

-- those of a session that is cut off
pub went-runs : (script : List ScriptLine) (before k : List Entry) (status : ℕ) → Grows before k → IsUnmarked before → IsCutOff status → Went [] (length before) script k → RunsLines script k status
went-runs script before k status grown u off w = record {
  follows = record { alternates = w.alternates; begins = w.begins };
  ends = cut off;
  timed = w.timed;
  together = together-whole (entries_of script) before k grown.0 grown.1 (none-gone before u).begins w.together;
}

-- those of a session that is done
module _ (script : List ScriptLine) (before k : List Entry) (s : Session) (grown : Grows before k) (u : IsUnmarked before) (asked : All IsAskedLine script) (long : length s.lanes ≡ 16) (idle : AreIdle s.lanes)
    (quiet : AreQuiet script s) (g : Goes [] (length before) script k s) where
  all-at-end : (lane : ℕ) → (begun lane k ≡ begun lane (entries_of script)) × IsResting k lane
  all-at-end lane = by (which lane)
    where
      by : ((n : ℕ) × (n < 16) × (lane ≡ suc n)) ⊎ ((lane ≡ 0) ⊎ (16 < lane)) → (begun lane k ≡ begun lane (entries_of script)) × IsResting k lane
      by (inl w) = subst (λ (m : ℕ). (begun m k ≡ begun m (entries_of script)) × IsResting k m) (sym w.2) (lane-at-end [] (length before) script k s long idle quiet g w.0 w.1)
      by (inr out) = ((g.others lane out).0 ∙ sym (none-out script lane asked out), (g.others lane out).1)

  pub done-runs : RunsLines script k s.status
  done-runs = record {
    follows = record {
      alternates = λ lane. resting-alternates k lane (all-at-end lane).1;
      begins = λ lane. record { rest = []; is = sym (all-at-end lane).0 ∙ sym (append-nil (begun lane k)) };
    };
    ends = whole (record { all = λ lane. (all-at-end lane).0; answered = λ x lane line op at. (all-at-end lane).1.answered x line op at })
        (since-whole before grown.0 (λ n lane line a at. never-answered lane before n line a at (u lane)) k s.status grown.1 g.status);
    timed = g.timed;
    together = together-whole (entries_of script) before k grown.0 grown.1 (none-gone before u).begins g.together;
  }

-- those of a lost client that answered none
pub lost-runs : (first : ℕ) (script : List ScriptLine) (h : List Entry) (status : ℕ) → IsCutOff status → GoesLost first h → RunsLines script h status
lost-runs first script h status off g =
    let none = broken-none script g.before (fresh g.before g.set_up.unmarked) in
    let early : RunsLines script g.before status = record { follows = none.follows; ends = cut off; timed = none.timed; together = none.together } in
    subst (λ (k : List Entry). RunsLines script k status) (sym g.is) (runs-unseen script status g.before g.more g.unseen early)

-- ---- a client

-- nothing of its own says that its session is lost
pub unseen-loses : (lines : List ScriptLine) (more : List Entry) → ours more ≡ [] → LosesAmong lines more
unseen-loses lines more none = record { each = λ i e at. absurd (let at_none : At [] i e = subst (λ (t : List Entry). At t i e) none at in cc); none = λ empty. none }

pub client-began : (first : ℕ) (script : List ScriptLine) (h : List Entry) → All IsAskedLine script → HasGone first script h → ClientBegan first script h
client-began first script h asked (by_session s g) =
    ran g.v g.before g.set_up g.fits asked
    (core-of (mounted_by pair_settings (setup_of pair_settings g.v)) (setup_of pair_settings g.v) (record { from = g.before; counted = false }) h s g.core) g.dials
client-began first script h asked (by_loss tally before more is so loses) = lost tally before more is so loses

pub client-done : (first : ℕ) (script : List ScriptLine) (h : List Entry) (status : ℕ) → All IsAskedLine script → GoesDone first script h status → ClientRan first script h status
client-done first script h status asked g = began (client-began first script h asked g.began) g.lines

pub client-cut : (first : ℕ) (script : List ScriptLine) (h : List Entry) (state : State) (status : ℕ) → All IsAskedLine script → Stands script state → IsCutOff status → StateGoes first script h state
    → ClientRan first script h status
client-cut first script h (states.Open s) status asked held off g =
    began (client-began first script h asked (by_session s g))
    (went-runs script g.before h status g.grown (fresh g.before g.set_up.unmarked) off (went-of [] (length g.before) script h s held.seated.sixteen g.goes))
client-cut first script h states.Lost status asked held off g =
    began (lost g.tally g.before g.more g.is g.set_up (unseen-loses script g.more g.unseen)) (lost-runs first script h status off g)
client-cut first script h (states.Done n) status asked held off g =
    began (client-began first script h asked g.began) (record { follows = g.lines.follows; ends = cut off; timed = g.lines.timed; together = g.lines.together })
