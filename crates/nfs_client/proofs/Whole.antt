-- What holds of each session holds of a run.
use Rattle.std.proofs.Common.{◌≡◌, ℕ, List, [], Option, Some, None}
use Rattle.world_model.specs.declared.entry.Entry.{Entry}
use Rattle.world_model.specs.History.{History}
use Rattle.world_model.specs.Told.{Relates}
use Rattle.nfs_script.specs.declared.script.ScriptLine.{ScriptLine}
use Rattle.session_words.specs.declared.settings.Settings.{Settings}
use Rattle.script_runs.specs.LaneRuns.{Leaves, SetUpAndRun, ready, lost, refused, unready, SessionBy, no_lines, some_lines, RunLeaves, LeavesWith}
use Rattle.script_runs.specs.Readings.{Reads}
use Rattle.script_runs.specs.Run.{RunOf, unbegun, session, RunWith, unbegun_with, session_with, Says}
use Rattle.nfs_client.specs.Headline.{Headline}
use Rattle.nfs_client.specs.Run.{Shows, RunIs, RunsWith}
use Rattle.nfs_client.proofs.Headlines.{session-headline}
use Rattle.nfs_client.proofs.ScriptAsked.{script-asked}
use Rattle.nfs_client.proofs.Showing.{run-shows}

-- ---- a session

set-up-shows : (s : Settings) (lines : List ScriptLine) (first : ℕ) (given : List ℕ) (h : List Entry) (status : ℕ) (text : List ℕ) → SetUpAndRun Leaves s lines first given h status text
    → SetUpAndRun Shows s lines first given h status text
set-up-shows s lines first given h status text (ready v before so is leaves says) =
    ready v before so is (run-shows s first v before h so leaves.fits is.grown is.timed (script-asked lines h leaves.asked is.follows) leaves.core leaves.dials) says
set-up-shows s lines first given h status text (lost tally before so is only gone says) = lost tally before so is only gone says
set-up-shows s lines first given h status text (refused fault none so tells) = refused fault none so tells
set-up-shows s lines first given h status text (unready none so seven empty) = unready none so seven empty

session-shows : (s : Settings) (lines : List ScriptLine) (given : List ℕ) (h : List Entry) (status : ℕ) (text : List ℕ) → SessionBy Leaves s lines given h status text
    → SessionBy Shows s lines given h status text
session-shows s lines given h status text (no_lines empty none is says) = no_lines empty none is says
session-shows s lines given h status text (some_lines some ms first rest is by run) = some_lines some ms first rest is by (set-up-shows s lines first rest h status text run)

session-heads : (s : Settings) (lines : List ScriptLine) (given : List ℕ) (h : List Entry) (status : ℕ) (text : List ℕ) → SessionBy Leaves s lines given h status text
    → Headline s lines given h status text
session-heads s lines given h status text by = session-headline s lines given h status text (session-shows s lines given h status text by)

-- ---- a run

module _ (P Q : Settings → List ScriptLine → List ℕ → List Entry → ℕ → List ℕ → Type 0) (less : (s : Settings) (lines : List ScriptLine) (given : List ℕ) (h : List Entry) (status : ℕ) (text : List ℕ) → P s lines given h status text → Q s lines given h status text)
    (v w : Option (List ℕ)) (a b : Option (List ℕ)) (left : Option (List ℕ)) (status : ℕ) where
  of-run : (given : List ℕ) (words : List (List ℕ)) (h : List Entry) (text : List ℕ) → RunOf P given words left h status text → RunOf Q given words left h status text
  of-run given words h text (unbegun e u) = unbegun e u
  of-run given words h text (session s lines c keeps read p) = session s lines c keeps read (less s lines given h status text p)

  with-run : (given : List ℕ) (s : Settings) (h : List Entry) (text : List ℕ) → RunWith P given s left h status text → RunWith Q given s left h status text
  with-run given s h text (unbegun_with e u) = unbegun_with e u
  with-run given s h text (session_with lines read p) = session_with lines read (less s lines given h status text p)

  told-of : (old new : Option History) (given : List ℕ) (words : List (List ℕ)) (text : List ℕ) → Relates old new (λ before h. before ≡ [] → RunOf P given words left h status text)
      → Relates old new (λ before h. before ≡ [] → RunOf Q given words left h status text)
  told-of None new given words text r = tt
  told-of (Some x) None given words text r = absurd r
  told-of (Some x) (Some y) given words text r = λ e. of-run given words y.entries text (r e)

  told-with : (old new : Option History) (given : List ℕ) (s : Settings) (text : List ℕ) → Relates old new (λ before h. before ≡ [] → RunWith P given s left h status text)
      → Relates old new (λ before h. before ≡ [] → RunWith Q given s left h status text)
  told-with None new given s text r = tt
  told-with (Some x) None given s text r = absurd r
  told-with (Some x) (Some y) given s text r = λ e. with-run given s y.entries text (r e)

  says-of : (old new : Option History) (words : List (List ℕ)) → Says v w (λ text. Reads a b (λ given. Relates old new (λ before h. before ≡ [] → RunOf P given words left h status text)))
      → Says v w (λ text. Reads a b (λ given. Relates old new (λ before h. before ≡ [] → RunOf Q given words left h status text)))
  says-of old new words said = record { text = said.text; added = said.added; is = (said.is.0, said.is.1, told-of old new said.is.0 words said.text said.is.2) }

  says-with : (old new : Option History) (s : Settings) → Says v w (λ text. Reads a b (λ given. Relates old new (λ before h. before ≡ [] → RunWith P given s left h status text)))
      → Says v w (λ text. Reads a b (λ given. Relates old new (λ before h. before ≡ [] → RunWith Q given s left h status text)))
  says-with old new s said = record { text = said.text; added = said.added; is = (said.is.0, said.is.1, told-with old new said.is.0 s said.text said.is.2) }

module _ (v w : Option (List ℕ)) (a b : Option (List ℕ)) (old new : Option History) (left : Option (List ℕ)) (status : ℕ) where
  pub run-shown : (words : List (List ℕ)) → Says v w (λ text. Reads a b (λ given. Relates old new (λ before h. before ≡ [] → RunLeaves given words left h status text)))
      → Says v w (λ text. Reads a b (λ given. Relates old new (λ before h. before ≡ [] → RunIs given words left h status text)))
  run-shown words said = says-of (SessionBy Leaves) (SessionBy Shows) session-shows v w a b left status old new words said

  pub run-heads : (words : List (List ℕ)) → Says v w (λ text. Reads a b (λ given. Relates old new (λ before h. before ≡ [] → RunLeaves given words left h status text)))
      → Says v w (λ text. Reads a b (λ given. Relates old new (λ before h. before ≡ [] → RunOf Headline given words left h status text)))
  run-heads words said = says-of (SessionBy Leaves) Headline session-heads v w a b left status old new words said

  pub with-shown : (s : Settings) → Says v w (λ text. Reads a b (λ given. Relates old new (λ before h. before ≡ [] → LeavesWith given s left h status text)))
      → Says v w (λ text. Reads a b (λ given. Relates old new (λ before h. before ≡ [] → RunsWith given s left h status text)))
  with-shown s said = says-with (SessionBy Leaves) (SessionBy Shows) session-shows v w a b left status old new s said

  pub with-heads : (s : Settings) → Says v w (λ text. Reads a b (λ given. Relates old new (λ before h. before ≡ [] → LeavesWith given s left h status text)))
      → Says v w (λ text. Reads a b (λ given. Relates old new (λ before h. before ≡ [] → RunWith Headline given s left h status text)))
  with-heads s said = says-with (SessionBy Leaves) Headline session-heads v w a b left status old new s said
