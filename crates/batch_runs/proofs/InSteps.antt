-- A session of batches goes on by a script, or ends so, with what the clock gave and what was written.
use Rattle.std.proofs.Common.{ℕ, List, All, Bool, Option, Some, None, Result, Ok, Err}
use Rattle.world_model.specs.declared.entry.Entry.{Entry}
use Rattle.world_model.specs.History.{History}
use Rattle.nfs_script.specs.Asked.{IsAskedLine}
use Rattle.nfs_script.specs.declared.script.ScriptLine.{ScriptLine}
use Rattle.script_batches.specs.Batches.{Read}
use Rattle.lane_session.specs.declared.running.Session.{Session}
use Rattle.lane_session.specs.Streams.{Passes}
use Rattle.lane_session.proofs.Passing.{passes_same, passes_then}
use Rattle.batch_runs.specs.declared.answered.Answered.{Answered}
use Rattle.batch_runs.specs.declared.stop.Stop.{Stop}
use Rattle.batch_runs.specs.Running.{IsRead, RunsIn, RunsNext}
use Rattle.batch_runs.proofs.Steps.{UpIn, up-ends, up-on, up-stops}
use Rattle.batch_runs.proofs.UpTo.{up-none}

-- the first script was read, and the session goes so far
abbrev pub UpRead : Bool → List ScriptLine → Session → Answered → Answered → List ScriptLine → Option (List Read) → Option (List Read) → Session → List ℕ → List ℕ → List Entry → List Entry
    → Type 0
UpRead count first session old now script left rest s given text h k = IsRead first left (λ l. UpIn count first session old now script l rest s given text h k)

-- it ends so
abbrev pub RunsRead : Bool → List ScriptLine → Session → Answered → Option (List Read) → Result ℕ Stop → List ℕ → List ℕ → List Entry → List Entry → Type 0
RunsRead count first session old left result given text h k = IsRead first left (λ l. RunsIn count first session old l result given text h k)

pub in-none : (r : Option (List ℕ)) (t : Option History) (w : Option (List ℕ)) (count : Bool) (first : List ScriptLine) (session : Session) (old : Answered) (left : Option (List Read))
    → Passes r r t t w w (UpRead count first session old old first left left session)
in-none r t w count first session old left =
    passes_same r t w (UpRead count first session old old first left left session)
    (λ h batch asks m setup start counted goes bonded. up-none count m setup start old first left session h batch asks goes bonded)

module _ (r0 r1 r2 : Option (List ℕ)) (t0 t1 t2 : Option History) (w0 w1 w2 : Option (List ℕ)) (count : Bool) (first : List ScriptLine) (session s new : Session) (old now after : Answered)
    (script : List ScriptLine) (may : All IsAskedLine script) (left rest last : Option (List Read)) (u : Passes r0 r1 t0 t1 w0 w1 (UpRead count first session old now script left rest s)) where
  pub in-on : (next : List ScriptLine) → Passes r1 r2 t1 t2 w1 w2 (RunsNext count script s new now after rest last (Ok (Some next)))
      → Passes r0 r2 t0 t2 w0 w2 (UpRead count first session old after next left last new)
  in-on next p =
      passes_then r0 r1 r2 t0 t1 t2 w0 w1 w2 (UpRead count first session old now script left rest s) (RunsNext count script s new now after rest last (Ok (Some next)))
      (UpRead count first session old after next left last new)
      (λ given now_given text now_text h k l up on batch asks m setup start counted goes bonded.
      up-on count m setup start counted old now after script may _ rest last s new given text now_given now_text h k l (up batch asks m setup start counted goes bonded) next on) u p

  pub in-ends : Passes r1 r2 t1 t2 w1 w2 (RunsNext count script s new now after rest last (Ok None))
      → Passes r0 r2 t0 t2 w0 w2 (RunsRead count first session old left (Ok after.status))
  in-ends p =
      passes_then r0 r1 r2 t0 t1 t2 w0 w1 w2 (UpRead count first session old now script left rest s) (RunsNext count script s new now after rest last (Ok None))
      (RunsRead count first session old left (Ok after.status))
      (λ given now_given text now_text h k l up on batch asks m setup start counted goes bonded.
      up-ends count m setup start counted old now after script may _ rest last s new given text now_given now_text h k l (up batch asks m setup start counted goes bonded) on) u p

  pub in-stops : (stop : Stop) → Passes r1 r2 t1 t2 w1 w2 (RunsNext count script s new now after rest last (Err stop))
      → Passes r0 r2 t0 t2 w0 w2 (RunsRead count first session old left (Err stop))
  in-stops stop p =
      passes_then r0 r1 r2 t0 t1 t2 w0 w1 w2 (UpRead count first session old now script left rest s) (RunsNext count script s new now after rest last (Err stop))
      (RunsRead count first session old left (Err stop))
      (λ given now_given text now_text h k l up on batch asks m setup start counted goes bonded.
      up-stops count m setup start counted old now after script may _ rest last s new given text now_given now_text h k l (up batch asks m setup start counted goes bonded) stop on) u p
