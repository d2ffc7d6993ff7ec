-- A script of a session that was lost in its set-up, and what is found behind it, with what the clock gave and what was written.
use Rattle.std.proofs.Common.{◌≡◌, ◌+◌, ℕ, inl, inr, List, [], ◌∷◌, ◌++◌, All, length, Bool, Option, Some, None, Result, Ok, Err, refl, subst, arith}
use Rattle.world_model.specs.declared.entry.Entry.{Entry}
use Rattle.world_model.specs.declared.tally.Tally.{Tally}
use Rattle.world_model.specs.Counts.{tally_of}
use Rattle.world_model.specs.History.{History}
use Rattle.nfs_script.specs.Asked.{IsAskedLine}
use Rattle.nfs_script.specs.declared.script.ScriptLine.{ScriptLine}
use Rattle.script_batches.specs.Batches.{Read}
use Rattle.lane_session.specs.declared.halt.Halt.{Halt}
use Rattle.lane_session.specs.Losing.{LosesBy, by_lanes, status_of as status_of_lines}
use Rattle.lane_session.specs.Sessions.{IsUnmarked}
use Rattle.lane_session.specs.Streams.{Passes}
use Rattle.lane_session.proofs.Passing.{passes_less, passes_same, passes_then}
use Rattle.script_runs.specs.Run.{Says}
use Rattle.batch_runs.specs.declared.answered.Answered.{Answered}
use Rattle.batch_runs.specs.declared.stop.Stop.{Stop}
use Rattle.batch_runs.specs.Parts.{RefusedFrom}
use Rattle.batch_runs.specs.Reading.{AnswersOne, FindsScript, StopsAt}
use Rattle.batch_runs.specs.Running.{IsRead, LosesNext, LosesOne, LosesScripts}
use Rattle.batch_runs.specs.Stops.{of_halt}
use Rattle.batch_runs.proofs.LostSteps.{LostUpTo, lost-ends, lost-on, lost-stops, lost-up-none}
use Rattle.batch_runs.proofs.OneRuns.{ended_text}
use Rattle.batch_runs.proofs.Saying.{passes-on}

-- 0 for a script without lines, and else 6
pub status-none : (script : List ScriptLine) → length script ≡ 0 → 0 ≡ status_of_lines script
status-none [] none = refl
status-none (l ∷ ls) none = absurd (omega (arith, none))

pub status-some : (script : List ScriptLine) → (length script ≡ 0 → ⊥) → 6 ≡ status_of_lines script
status-some [] some = absurd (some refl)
status-some (l ∷ ls) some = refl

module _ (r0 r1 : Option (List ℕ)) (t0 t1 : Option History) (w0 w1 : Option (List ℕ)) (count : Bool) (script : List ScriptLine) (tally : Tally) (before : Answered) where
  -- it was cut off in its lines
  pub lost-cut : (halt : Halt) (stop : Stop) → stop ≡ of_halt halt → Passes r0 r1 t0 t1 w0 w1 (LosesBy [] (by_lanes 16 script) (Err halt))
      → Passes r0 r1 t0 t1 w0 w1 (LosesOne count script tally before before (Err stop))
  lost-cut halt stop is p =
      passes_less r0 r1 t0 t1 w0 w1 (LosesBy [] (by_lanes 16 script) (Err halt)) (LosesOne count script tally before before (Err stop))
      (λ given text h k loses. inl (record { halt = halt; stops = is; same = refl; loses = loses })) p

  -- its lines were answered so, and what ends its batch was written, or a front of that
  pub lost-told : (w2 : Option (List ℕ)) (after : Answered) (result : Result (Unit {0}) Stop) (status : ℕ) → status ≡ status_of_lines script
      → Passes r0 r1 t0 t1 w0 w1 (LosesBy [] (by_lanes 16 script) (Ok tt)) → Says w1 w2 (AnswersOne status (ended_text count tally (before.count + 1) status) before after result)
      → Passes r0 r1 t0 t1 w0 w2 (LosesOne count script tally before after result)
  lost-told w2 after result status is p said =
      passes-on r0 r1 t0 t1 w0 w1 w2 (LosesBy [] (by_lanes 16 script) (Ok tt)) (LosesOne count script tally before after result)
      (AnswersOne status (ended_text count tally (before.count + 1) status) before after result)
      (λ given told ended h k loses answers.
      by result given told ended h k loses
      (subst (λ (n : ℕ). AnswersOne n (ended_text count tally (before.count + 1) n) before after result ended) is answers)) p said
    where
      by : (result : Result (Unit {0}) Stop) (given told ended : List ℕ) (h k : List Entry) → LosesBy [] (by_lanes 16 script) (Ok tt) given told h k
          → AnswersOne (status_of_lines script) (ended_text count tally (before.count + 1) (status_of_lines script)) before after result ended
          → LosesOne count script tally before after result given (told ++ ended) h k
      by (Ok u) given told ended h k loses answers = record { told = told; ended = ended; text_is = refl; loses = loses; answers = answers }
      by (Err stop) given told ended h k loses answers = inr (record { told = told; ended = ended; text_is = refl; loses = loses; answers = answers })

module _ (r0 r1 : Option (List ℕ)) (t0 t1 : Option History) (w0 w1 : Option (List ℕ)) (count : Bool) (script : List ScriptLine) (tally : Tally) (before done after : Answered)
    (left rest : Option (List Read)) where
  -- and what was found behind it
  pub lost-found : (w2 : Option (List ℕ)) (result : Result (Option (List ScriptLine)) Stop) → Passes r0 r1 t0 t1 w0 w1 (LosesOne count script tally before done (Ok tt))
      → Says w1 w2 (FindsScript RefusedFrom StopsAt done after left rest result) → Passes r0 r1 t0 t1 w0 w2 (LosesNext count script tally before after left rest result)
  lost-found w2 result p said =
      passes-on r0 r1 t0 t1 w0 w1 w2 (LosesOne count script tally before done (Ok tt)) (LosesNext count script tally before after left rest result)
      (FindsScript RefusedFrom StopsAt done after left rest result) (λ given told ended h k loses finds. by result given told ended h k loses finds) p said
    where
      by : (result : Result (Option (List ScriptLine)) Stop) (given told ended : List ℕ) (h k : List Entry) → LosesOne count script tally before done (Ok tt) given told h k
          → FindsScript RefusedFrom StopsAt done after left rest result ended → LosesNext count script tally before after left rest result given (told ++ ended) h k
      by (Ok next) given told ended h k loses finds = record { told = told; ended = ended; text_is = refl; done = done; loses = loses; finds = finds }
      by (Err stop) given told ended h k loses finds = inl (record { told = told; ended = ended; text_is = refl; done = done; loses = loses; finds = finds })

  -- or it was cut off
  pub lost-stopped : (stop : Stop) → Passes r0 r1 t0 t1 w0 w1 (LosesOne count script tally before after (Err stop))
      → Passes r0 r1 t0 t1 w0 w1 (LosesNext count script tally before after left left (Err stop))
  lost-stopped stop p =
      passes_less r0 r1 t0 t1 w0 w1 (LosesOne count script tally before after (Err stop)) (LosesNext count script tally before after left left (Err stop)) (λ given text h k x. inr (refl, x)) p

-- ---- all scripts

-- the first script was read, and the session goes so far
abbrev pub LostRead : Bool → List ScriptLine → Tally → Answered → Answered → List ScriptLine → Option (List Read) → Option (List Read) → List ℕ → List ℕ → List Entry → List Entry → Type 0
LostRead count first tally old now script left rest given text h k =
    IsUnmarked h → tally ≡ tally_of h → IsRead first left (λ l. LostUpTo count tally old now script l rest given text h k)

-- it ends so
abbrev pub LosesRead : Bool → List ScriptLine → Tally → Answered → Option (List Read) → Result ℕ Stop → List ℕ → List ℕ → List Entry → List Entry → Type 0
LosesRead count first tally old left result given text h k = IsUnmarked h → tally ≡ tally_of h → IsRead first left (λ l. LosesScripts count old l result given text h k)

pub lose-none : (r : Option (List ℕ)) (t : Option History) (w : Option (List ℕ)) (count : Bool) (first : List ScriptLine) (tally : Tally) (old : Answered) (left : Option (List Read))
    → Passes r r t t w w (LostRead count first tally old old first left left)
lose-none r t w count first tally old left =
    passes_same r t w (LostRead count first tally old old first left left) (λ h unmarked is batch asks. lost-up-none count tally old first left h batch asks unmarked is)

module _ (r0 r1 r2 : Option (List ℕ)) (t0 t1 t2 : Option History) (w0 w1 w2 : Option (List ℕ)) (count : Bool) (first : List ScriptLine) (tally : Tally) (old now after : Answered)
    (script : List ScriptLine) (may : All IsAskedLine script) (left rest last : Option (List Read)) (u : Passes r0 r1 t0 t1 w0 w1 (LostRead count first tally old now script left rest)) where
  pub lose-on : (next : List ScriptLine) → Passes r1 r2 t1 t2 w1 w2 (LosesNext count script tally now after rest last (Ok (Some next)))
      → Passes r0 r2 t0 t2 w0 w2 (LostRead count first tally old after next left last)
  lose-on next p =
      passes_then r0 r1 r2 t0 t1 t2 w0 w1 w2 (LostRead count first tally old now script left rest) (LosesNext count script tally now after rest last (Ok (Some next)))
      (LostRead count first tally old after next left last)
      (λ given now_given text now_text h k l up on unmarked is batch asks.
      lost-on count tally old now after script may _ rest last given text now_given now_text h k l (up unmarked is batch asks) next on) u p

  pub lose-ends : Passes r1 r2 t1 t2 w1 w2 (LosesNext count script tally now after rest last (Ok None)) → Passes r0 r2 t0 t2 w0 w2 (LosesRead count first tally old left (Ok after.status))
  lose-ends p =
      passes_then r0 r1 r2 t0 t1 t2 w0 w1 w2 (LostRead count first tally old now script left rest) (LosesNext count script tally now after rest last (Ok None))
      (LosesRead count first tally old left (Ok after.status))
      (λ given now_given text now_text h k l up on unmarked is batch asks.
      lost-ends count tally old now after script may _ rest last given text now_given now_text h k l (up unmarked is batch asks) on) u p

  pub lose-stops : (stop : Stop) → Passes r1 r2 t1 t2 w1 w2 (LosesNext count script tally now after rest last (Err stop))
      → Passes r0 r2 t0 t2 w0 w2 (LosesRead count first tally old left (Err stop))
  lose-stops stop p =
      passes_then r0 r1 r2 t0 t1 t2 w0 w1 w2 (LostRead count first tally old now script left rest) (LosesNext count script tally now after rest last (Err stop))
      (LosesRead count first tally old left (Err stop))
      (λ given now_given text now_text h k l up on unmarked is batch asks.
      lost-stops count tally old now after script may _ rest last given text now_given now_text h k l (up unmarked is batch asks) stop on) u p
