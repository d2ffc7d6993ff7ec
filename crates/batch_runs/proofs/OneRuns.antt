-- A script that is run and answered, and what is found behind it, with what the clock gave and what was written.
use Rattle.std.proofs.Common.{◌≡◌, ◌+◌, ℕ, inr, List, [], ◌++◌, Bool, Option, Some, IfOk, Result, Ok, Err, refl, sym, ap, subst, ◌∙◌}
use Rattle.world_model.specs.declared.tally.Tally.{Tally}
use Rattle.world_model.specs.History.{History}
use Rattle.nfs_script.specs.declared.script.ScriptLine.{ScriptLine}
use Rattle.nfs_script.specs.DoneText.{done_text}
use Rattle.script_batches.specs.Batches.{Read}
use Rattle.lane_session.specs.declared.halt.Halt.{Halt}
use Rattle.lane_session.specs.declared.running.Session.{Session}
use Rattle.lane_session.specs.Endings.{counts_text}
use Rattle.lane_session.specs.Going.{GoesBy}
use Rattle.lane_session.specs.Ports.{KeepsPort}
use Rattle.lane_session.specs.Streams.{Passes}
use Rattle.lane_session.proofs.Passing.{passes_less}
use Rattle.script_runs.specs.Run.{Says}
use Rattle.script_runs.specs.Scripts.{IsOver}
use Rattle.batch_runs.specs.declared.answered.Answered.{Answered}
use Rattle.batch_runs.specs.declared.stop.Stop.{Stop}
use Rattle.batch_runs.specs.Parts.{RefusedFrom}
use Rattle.batch_runs.specs.Reading.{AnswersOne, FindsScript, StopsAt}
use Rattle.batch_runs.specs.Running.{IfNext, RunsNext, RunsOne}
use Rattle.batch_runs.specs.Stops.{of_halt}
use Rattle.batch_runs.proofs.Joining.{found-or-not, one-cut, one-ran, runs-found}
use Rattle.batch_runs.proofs.Saying.{passes-on, says-less}

-- what is written at the end of a batch
abbrev pub ended_text : Bool → Tally → ℕ → ℕ → List ℕ
ended_text count tally number status = counts_text count tally ++ done_text number status

module _ (r0 r1 : Option (List ℕ)) (t0 t1 : Option History) (w0 w1 : Option (List ℕ)) (count : Bool) (script : List ScriptLine) (s new : Session) (before : Answered) where
  -- it was cut off in its lines
  pub cut-passes : (halt : Halt) (stop : Stop) → stop ≡ of_halt halt → Passes r0 r1 t0 t1 w0 w1 (GoesBy {T = Unit {0}} [] script s new (Err halt))
      → Passes r0 r1 t0 t1 w0 w1 (RunsOne count script s new before before (Err stop))
  cut-passes halt stop is p =
      passes_less r0 r1 t0 t1 w0 w1 (GoesBy {T = Unit {0}} [] script s new (Err halt)) (RunsOne count script s new before before (Err stop))
      (λ given text h k cuts. subst (λ (x : Stop). RunsOne count script s new before before (Err x) given text h k) (sym is) (one-cut count script s new before halt given text h k cuts)) p

  -- its lines were run, and what ends its batch was written, or a front of that
  pub ran-passes : (w2 : Option (List ℕ)) (after : Answered) (result : Result (Unit {0}) Stop) (tally : Tally) (status : ℕ) → tally ≡ new.counts.tally → status ≡ new.status → IsOver script new
      → Passes r0 r1 t0 t1 w0 w1 (GoesBy {T = Unit {0}} [] script s new (Ok tt)) → Says w1 w2 (AnswersOne status (ended_text count tally (before.count + 1) status) before after result)
      → Passes r0 r1 t0 t1 w0 w2 (RunsOne count script s new before after result)
  ran-passes w2 after result tally status tally_is status_is over p said =
      let same : ended_text count tally (before.count + 1) status ≡ ended_text count new.counts.tally (before.count + 1) new.status =
      ap (λ (t : Tally). ended_text count t (before.count + 1) status) tally_is ∙ ap (λ (n : ℕ). ended_text count new.counts.tally (before.count + 1) n) status_is in
      passes-on r0 r1 t0 t1 w0 w1 w2 (GoesBy {T = Unit {0}} [] script s new (Ok tt)) (RunsOne count script s new before after result)
      (AnswersOne status (ended_text count tally (before.count + 1) status) before after result)
      (λ given told ended h k goes answers.
      one-ran count script s new before after result over given told ended h k goes
      (subst (λ (n : ℕ). AnswersOne n (ended_text count new.counts.tally (before.count + 1) new.status) before after result ended) status_is
      (subst (λ (t : List ℕ). AnswersOne status t before after result ended) same answers))) p said

module _ (r0 r1 : Option (List ℕ)) (t0 t1 : Option History) (w0 w1 : Option (List ℕ)) (count : Bool) (script : List ScriptLine) (s mid new : Session) (before done after : Answered)
    (left rest : Option (List Read)) where
  -- and what was found behind it
  pub found-passes : (w2 : Option (List ℕ)) (result : Result (Option (List ScriptLine)) Stop) → IfNext script result mid new
      → Passes r0 r1 t0 t1 w0 w1 (RunsOne count script s mid before done (Ok tt)) → Says w1 w2 (FindsScript RefusedFrom StopsAt done after left rest result)
      → Passes r0 r1 t0 t1 w0 w2 (RunsNext count script s new before after left rest result)
  found-passes w2 result stands p said =
      passes-on r0 r1 t0 t1 w0 w1 w2 (RunsOne count script s mid before done (Ok tt)) (RunsNext count script s new before after left rest result)
      (FindsScript RefusedFrom StopsAt done after left rest result)
      (λ given told ended h k ran finds. runs-found count script s mid new before done after left rest result given told ended h k ran finds stands) p said

module _ (r0 r1 : Option (List ℕ)) (t0 t1 : Option History) (w0 w1 : Option (List ℕ)) (count : Bool) (script : List ScriptLine) (s new : Session) (before after : Answered)
    (left : Option (List Read)) where
  -- or it was cut off
  pub stop-passes : (stop : Stop) → Passes r0 r1 t0 t1 w0 w1 (RunsOne count script s new before after (Err stop))
      → Passes r0 r1 t0 t1 w0 w1 (RunsNext count script s new before after left left (Err stop))
  stop-passes stop p =
      passes_less r0 r1 t0 t1 w0 w1 (RunsOne count script s new before after (Err stop)) (RunsNext count script s new before after left left (Err stop)) (λ given text h k x. inr (refl, x)) p

-- a script that was found may have no room
pub room-said : (v w : Option (List ℕ)) (old new : Answered) (left rest : Option (List Read)) (next : List ScriptLine) (result : Result (Option (List ScriptLine)) Stop)
    → IfOk result (λ r. r ≡ Some next) → Says v w (FindsScript RefusedFrom StopsAt old new left rest (Ok (Some next))) → Says v w (FindsScript RefusedFrom StopsAt old new left rest result)
room-said v w old new left rest next result same said =
    says-less v w (FindsScript RefusedFrom StopsAt old new left rest (Ok (Some next))) (FindsScript RefusedFrom StopsAt old new left rest result)
    (λ t f. found-or-not old new left rest next result t same f) said

pub port-same : (p q r : ℕ) (a b : Option History) → KeepsPort p q a b → r ≡ q → KeepsPort p r a b
port-same p q r a b k is = record { same = is ∙ k.same; only = k.only }
