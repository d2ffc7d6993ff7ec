-- What the other client does leaves a client as it is, along its side.
use Rattle.std.proofs.Common.{◌≡◌, ◌≤◌, ◌<◌, ◌⊎◌, inl, inr, ℕ, List, [], ◌∷◌, ◌++◌, length, false, refl, sym, ap, subst, ◌∙◌, arith, append-nil, append_assoc}
use Rattle.world_model.specs.declared.answer.Answer.TheVariants.{Refused}
use Rattle.world_model.specs.declared.entry.Entry.{Entry}
use Rattle.world_model.specs.declared.entry.Entry.TheVariants.{Began, Delivered}
use Rattle.world_model.specs.declared.op.Op.{Op}
use Rattle.world_model.specs.Entries.{At, ours}
use Rattle.world_model.specs.Follows.{begun, marks_of, Alternates, Follows, Finishes, IsFront}
use Rattle.world_model.specs.LanesTogether.{LineAnswered, IsBusy, HasBegun, LanesTogether}
use Rattle.world_model.proofs.Histories.{IsQuiet, quiet_by, ours-append}
use Rattle.world_model.proofs.Places.{At-below, At-cases}
use Rattle.link_dials.proofs.Dialing.{are-ours, then-dials}
use Rattle.nfs_script.specs.declared.script.ScriptLine.{ScriptLine}
use Rattle.core_facts.proofs.Marks.{marks-push, answered-grow}
use Rattle.lane_session.specs.declared.running.Session.{Session}
use Rattle.lane_session.specs.Endings.{EndsAs, whole, cut, entries_of}
use Rattle.lane_session.specs.Running.{marks, mounted_by}
use Rattle.lane_session.specs.Sessions.{IsUnmarked}
use Rattle.lane_session.specs.TogetherFrom.{TogetherFrom}
use Rattle.lane_session.proofs.LaneLaws.{shorter}
use Rattle.lane_session.proofs.Placing.{silent, no-mark, status-quiet, timed-quiet}
use Rattle.lane_session.proofs.Pushes.{begun-append, marks-ours}
use Rattle.lane_session.proofs.Reaching.{bonded-quiet}
use Rattle.lane_session.proofs.Together.{begun-back, together-on}
use Rattle.lane_session.proofs.Unseen.{goes-unseen}
use Rattle.script_runs.specs.LaneRuns.{setup_of}
use Rattle.pair_runs.specs.declared.client.State.{State}
use Rattle.pair_runs.specs.declared.client.State.TheVariants as states
use Rattle.pair_runs.specs.Given.{pair_settings}
use Rattle.pair_runs.specs.PairGoing.{GoesOpen, GoesLost, GoesDone, HasGone, by_session, by_loss, StateGoes}
use Rattle.pair_runs.specs.PairRuns.{LosesAmong, RunsLines}

-- ---- one entry that isn't the client's own

module _ (h : List Entry) (e : Entry) (u : ours (e ∷ []) ≡ []) where
  no-marks : marks (e ∷ []) ≡ []
  no-marks = marks-ours (e ∷ []) ∙ ap marks u

  no-record : (bytes : List ℕ) → e ≡ Delivered bytes → ⊥
  no-record bytes is = let here : Delivered bytes ∷ [] ≡ [] = subst (λ (d : Entry). ours (d ∷ []) ≡ []) is u in cc

  marks-same : (lane : ℕ) → marks_of lane (h ++ e ∷ []) ≡ marks_of lane h
  marks-same lane = marks-push lane h e ∙ ap (λ (t : List Entry). marks_of lane h ++ t) (silent e no-marks lane).0 ∙ append-nil (marks_of lane h)

  begun-same : (lane : ℕ) → begun lane (h ++ e ∷ []) ≡ begun lane h
  begun-same lane = begun-append lane h (e ∷ []) ∙ ap (λ (t : List Entry). begun lane h ++ t) (silent e no-marks lane).1 ∙ append-nil (begun lane h)

  follows-one : (script : List Entry) → Follows script h → Follows script (h ++ e ∷ [])
  follows-one script f = record {
    alternates = λ lane. subst Alternates (sym (marks-same lane)) (f.alternates lane);
    begins = λ lane. subst (λ (b : List Entry). IsFront b (begun lane script)) (sym (begun-same lane)) (f.begins lane);
  }

  finishes-one : (script : List Entry) → Finishes script h → Finishes script (h ++ e ∷ [])
  finishes-one script f = record {
    all = λ lane. begun-same lane ∙ f.all lane;
    answered = λ x lane line op at. elim (At-cases h e x (Began lane line op) at) [
      | inl old ↦ answered-grow h e x (length h) (length (h ++ e ∷ [])) (shorter h e) (f.answered x lane line op old)
      | inr now ↦ absurd ((no-mark e no-marks).1 lane line op now.1)
    ];
  }

  ends-one : (lines : List ScriptLine) (status : ℕ) → EndsAs lines h status → EndsAs lines (h ++ e ∷ []) status
  ends-one lines status (whole f s) = whole (finishes-one (entries_of lines) f) (status-quiet h e status (λ fault l m is. (no-mark e no-marks).0 l m (Refused fault) is) s)
  ends-one lines status (cut off) = cut off

  together-one : (script : List Entry) → LanesTogether script h → LanesTogether script (h ++ e ∷ [])
  together-one script t n bytes at b k lane line op of = by (At-cases h e n (Delivered bytes) at)
    where
      since : HasBegun h n → TogetherFrom n script h
      since g m rec there le i l o p here = t m rec there (record { at = g.at; lane = g.lane; line = g.line; op = g.op; began = g.began; before = let before = g.before in omega (arith, before, le) }) i l o p here

      by : At h n (Delivered bytes) ⊎ ((n ≡ length h) × (e ≡ Delivered bytes)) → LineAnswered (h ++ e ∷ []) lane line n ⊎ IsBusy (h ++ e ∷ []) lane n
      by (inl old) =
          together-on n script h e no-record (since (begun-back h e n (let below = At-below h n (Delivered bytes) old in omega (arith, below)) b)) n bytes at (omega arith) k lane line op of
      by (inr now) = absurd (no-record bytes now.1)

  runs-one : (lines : List ScriptLine) (status : ℕ) → RunsLines lines h status → RunsLines lines (h ++ e ∷ []) status
  runs-one lines status r = record {
    follows = follows-one (entries_of lines) r.follows;
    ends = ends-one lines status r.ends;
    timed = timed-quiet h e (no-mark e no-marks).1 r.timed;
    together = together-one (entries_of lines) r.together;
  }

-- ---- any number of them

pub runs-unseen : (lines : List ScriptLine) (status : ℕ) → IsQuiet (λ (h : List Entry). RunsLines lines h status)
runs-unseen lines status = quiet_by (λ (h : List Entry). RunsLines lines h status) (λ h e u r. runs-one h e u lines status r)

pub unmarked-unseen : IsQuiet IsUnmarked
unmarked-unseen = quiet_by IsUnmarked (λ h e u m lane. marks-same h e u lane ∙ m lane)

-- ---- a client

open-unseen : (first : ℕ) (script : List ScriptLine) (s : Session) (h more : List Entry) → ours more ≡ [] → GoesOpen first script h s → GoesOpen first script (h ++ more) s
open-unseen first script s h more u g = record {
  v = g.v;
  before = g.before;
  grown = (g.grown.0 ++ more, ap (λ (t : List Entry). t ++ more) g.grown.1 ∙ append_assoc g.before g.grown.0 more);
  set_up = g.set_up;
  fits = g.fits;
  goes = goes-unseen [] (length g.before) script h more s u g.goes;
  core = bonded-quiet (mounted_by pair_settings (setup_of pair_settings g.v)) (setup_of pair_settings g.v) (record { from = g.before; counted = false }) s h more u g.core;
  port = g.port;
  dials = then-dials pair_settings.nfs_port g.before h (h ++ more) g.dials (record { more = more; is = refl; only = are-ours pair_settings.nfs_port more [] u tt });
}

-- what is its own stays the same
pub own-same : (more later : List Entry) → ours later ≡ [] → ours (more ++ later) ≡ ours more
own-same more later u = ours-append more later ∙ ap (λ (t : List Entry). ours more ++ t) u ∙ append-nil (ours more)

begun-unseen : (first : ℕ) (script : List ScriptLine) (h later : List Entry) → ours later ≡ [] → HasGone first script h → HasGone first script (h ++ later)
begun-unseen first script h later u (by_session s g) = by_session s (open-unseen first script s h later u g)
begun-unseen first script h later u (by_loss tally before more is so loses) =
    by_loss tally before (more ++ later) (ap (λ (t : List Entry). t ++ later) is ∙ append_assoc before more later) so (record {
      each = λ i e at. loses.each i e (subst (λ (t : List Entry). At t i e) (own-same more later u) at);
      none = λ none. own-same more later u ∙ loses.none none;
    })

pub state-unseen : (first : ℕ) (script : List ScriptLine) (state : State) (h later : List Entry) → ours later ≡ [] → StateGoes first script h state → StateGoes first script (h ++ later) state
state-unseen first script (states.Open s) h later u g = open-unseen first script s h later u g
state-unseen first script states.Lost h later u g = record {
  tally = g.tally;
  before = g.before;
  more = g.more ++ later;
  is = ap (λ (t : List Entry). t ++ later) g.is ∙ append_assoc g.before g.more later;
  set_up = g.set_up;
  unseen = own-same g.more later u ∙ g.unseen;
}
state-unseen first script (states.Done status) h later u g = record {
  began = begun-unseen first script h later u g.began;
  lines = runs-unseen script status h later u g.lines;
}
