-- What a whole run of batches says.
use Rattle.std.proofs.Common.{◌≡◌, ◌≢◌, ◌≤◌, ◌⊎◌, inl, inr, ℕ, List, [], ◌++◌, Bool, true, false, Option, Some, None, IfOk, Result, Ok, Err, refl, sym, subst, ◌∙◌, arith}
use Rattle.world_model.specs.declared.entry.Entry.{Entry}
use Rattle.world_model.specs.History.{History}
use Rattle.world_model.specs.Told.{Relates}
use Rattle.nfs_script.specs.declared.script.ScriptLine.{ScriptLine}
use Rattle.session_words.specs.declared.settings.Settings.{Settings}
use Rattle.session_words.specs.Words.{IsCommand, IsNocto}
use Rattle.script_batches.specs.Batches.{InputView, Read}
use Rattle.script_runs.specs.LaneRuns.{Leaves}
use Rattle.script_runs.specs.Readings.{Reads}
use Rattle.script_runs.specs.Run.{IsCutOff, Says}
use Rattle.script_runs.proofs.Readings.{reads_none}
use Rattle.script_runs.proofs.StreamLaws.{appends_none}
use Rattle.batch_runs.specs.declared.answered.Answered.{Answered}
use Rattle.batch_runs.specs.declared.stop.Stop.{Stop}
use Rattle.batch_runs.specs.declared.stop.Stop.TheVariants as stops
use Rattle.batch_runs.specs.Opening.{IsEnding, OpensWith}
use Rattle.batch_runs.specs.Parts.{AreIdleFrom, IsWorst}
use Rattle.batch_runs.specs.Reading.{FindsScript, StopsIdle, left_in}
use Rattle.batch_runs.specs.Running.{IsRead, ended_with}
use Rattle.batch_runs.specs.Runs.{BatchesBy, RunOf, batches}
use Rattle.batch_runs.specs.Stops.{CausedBy, status_of}
use Rattle.batch_runs.proofs.Opens.{OpenSays}
use Rattle.batch_runs.proofs.Saying.{appends-then}
use Rattle.batch_runs.proofs.Whole.{first_left, none-found, nothing, opens-so, stop-found}

-- what a run says, by settings that are known
abbrev pub BatchesSay : (v w a b : Option (List ℕ)) (old new : Option History) (s : Settings) (left : Option (List ℕ)) (status : ℕ) → Type 0
BatchesSay v w a b old new s left status =
    Says v w (λ text. Reads a b (λ given. Relates old new (λ before h. before ≡ [] → BatchesBy Leaves s left given h status text)))

-- and by words
abbrev pub RunSays : (v w a b : Option (List ℕ)) (old new : Option History) (words : List (List ℕ)) (left : Option (List ℕ)) (status : ℕ) → Type 0
RunSays v w a b old new words left status =
    Says v w (λ text. Reads a b (λ given. Relates old new (λ before h. before ≡ [] → RunOf (BatchesBy Leaves) given words left h status text)))

-- ---- where it begins

-- nothing was read of the input
abbrev pub unread_view : InputView
unread_view = record { held = record { bytes = []; reads = 18446744073709551615 }; lines = 0 }

pub begun-finds : (count : Bool) (start now : Answered) (view : InputView) (v w : Option (List ℕ)) (left : Option (List ℕ)) (rest : Option (List Read)) (result : Result (Option (List ScriptLine)) Stop)
    → start ≡ nothing → view ≡ unread_view → Says v w (FindsScript (AreIdleFrom count) (StopsIdle count) start now (left_in left view) rest result)
    → Says v w (FindsScript (AreIdleFrom count) (StopsIdle count) nothing now (first_left left) rest result)
begun-finds count start now view v w left rest result start_is view_is said =
    subst (λ (a : Answered). Says v w (FindsScript (AreIdleFrom count) (StopsIdle count) a now (first_left left) rest result)) start_is
    (subst (λ (i : InputView). Says v w (FindsScript (AreIdleFrom count) (StopsIdle count) start now (left_in left i) rest result)) view_is said)

-- ---- no batch has a line, or none could be read

module _ (s : Settings) (left : Option (List ℕ)) (status : ℕ) (a : Option (List ℕ)) where
  -- no call was made
  untold : (old : Option History) (text : List ℕ) → BatchesBy Leaves s left [] [] status text → Relates old old (λ before h. before ≡ [] → BatchesBy Leaves s left [] h status text)
  untold None text by = tt
  untold (Some x) text by = λ e. subst (λ (h : List Entry). BatchesBy Leaves s left [] h status text) (sym e) by

  pub uncalled : (v w : Option (List ℕ)) (old : Option History) (P : List ℕ → Type 0) → ((text : List ℕ) → P text → BatchesBy Leaves s left [] [] status text) → Says v w P
      → BatchesSay v w a a old old s left status
  uncalled v w old P by said = record { text = said.text; added = said.added; is = ([], reads_none a, untold old said.text (by said.text said.is)) }

module _ (v w : Option (List ℕ)) (a : Option (List ℕ)) (old : Option History) (s : Settings) (left : Option (List ℕ)) (rest : Option (List Read)) (now : Answered) where
  pub none-says : Says v w (FindsScript (AreIdleFrom s.count) (StopsIdle s.count) nothing now (first_left left) rest (Ok None)) → BatchesSay v w a a old old s left now.status
  none-says said =
      uncalled s left now.status a v w old (FindsScript (AreIdleFrom s.count) (StopsIdle s.count) nothing now (first_left left) rest (Ok None))
      (λ text f. none-found Leaves s left rest now text f) said

  pub stop-says : (stop : Stop) → Says v w (FindsScript (AreIdleFrom s.count) (StopsIdle s.count) nothing now (first_left left) rest (Err stop)) → BatchesSay v w a a old old s left (status_of stop)
  stop-says stop said =
      uncalled s left (status_of stop) a v w old (FindsScript (AreIdleFrom s.count) (StopsIdle s.count) nothing now (first_left left) rest (Err stop))
      (λ text f. stop-found Leaves s left rest now text stop f) said

-- ---- one has

module _ (s : Settings) (left : Option (List ℕ)) (rest : Option (List Read)) (now : Answered) (lines : List ScriptLine) (result : Result ℕ Stop) (given front back : List ℕ)
    (f : FindsScript (AreIdleFrom s.count) (StopsIdle s.count) nothing now (first_left left) rest (Ok (Some lines)) front) where
  opened-told : (old new : Option History) → Relates old new (λ before h. before ≡ [] → IsRead lines rest (λ l. OpensWith Leaves s now l given h result back))
      → Relates old new (λ before h. before ≡ [] → BatchesBy Leaves s left given h (ended_with result) (front ++ back))
  opened-told None new r = tt
  opened-told (Some x) None r = absurd r
  opened-told (Some x) (Some y) r = λ e.
      opens-so Leaves s left f.0 rest now front f.2.0 f.1 f.2.1 result given back y.entries (r e f.2.0 f.2.2)

pub some-says : (u v w : Option (List ℕ)) (a b : Option (List ℕ)) (old new : Option History) (s : Settings) (left : Option (List ℕ)) (rest : Option (List Read)) (now : Answered) (lines : List ScriptLine)
    (result : Result ℕ Stop) → Says u v (FindsScript (AreIdleFrom s.count) (StopsIdle s.count) nothing now (first_left left) rest (Ok (Some lines)))
    → OpenSays v w a b old new s lines now rest result → BatchesSay u w a b old new s left (ended_with result)
some-says u v w a b old new s left rest now lines result found said = record {
  text = found.text ++ said.text;
  added = appends-then u v w found.text said.text found.added said.added;
  is = (said.is.0, said.is.1, opened-told s left rest now lines result said.is.0 found.text said.text found.is old new said.is.2);
}

pub ended-says : (v w a b : Option (List ℕ)) (old new : Option History) (s : Settings) (left : Option (List ℕ)) (status now : ℕ) → now ≡ status → BatchesSay v w a b old new s left status
    → BatchesSay v w a b old new s left now
ended-says v w a b old new s left status now is said = subst (λ (n : ℕ). BatchesSay v w a b old new s left n) (sym is) said

-- ---- by words

-- words never give both (nfs(5), noac)
never-both : (noac : Bool) (text : Option (List ℕ)) (nocto : Bool) → IsNocto noac text nocto → nocto ≡ true → noac ≡ false
never-both true text nocto is may = absurd (let no_way : true ≡ false = sym may ∙ is in cc)
never-both false text nocto is may = refl

module _ (words : List (List ℕ)) (left : Option (List ℕ)) (s : Settings) (status : ℕ) (command : IsCommand words s) where
  by-words : (given text : List ℕ) (old new : Option History) → Relates old new (λ before h. before ≡ [] → BatchesBy Leaves s left given h status text)
      → Relates old new (λ before h. before ≡ [] → RunOf (BatchesBy Leaves) given words left h status text)
  by-words given text None new r = tt
  by-words given text (Some x) None r = absurd r
  by-words given text (Some x) (Some y) r = λ e. batches s command (λ may. never-both s.noac _ s.nocto command.gives.nocto may) (r e)

  pub words-say : (v w a b : Option (List ℕ)) (old new : Option History) → BatchesSay v w a b old new s left status → RunSays v w a b old new words left status
  words-say v w a b old new said = record { text = said.text; added = said.added; is = (said.is.0, said.is.1, by-words said.is.0 said.text old new said.is.2) }

module _ (words : List (List ℕ)) (left : Option (List ℕ)) (status : ℕ) where
  unread : (old : Option History) → ((h : List Entry) → h ≡ [] → RunOf (BatchesBy Leaves) [] words left h status []) → Relates old old (λ before h. before ≡ [] → RunOf (BatchesBy Leaves) [] words left h status [])
  unread None by = tt
  unread (Some x) by = λ e. by x.entries e

  pub unread-says : (v a : Option (List ℕ)) (old : Option History) → ((h : List Entry) → h ≡ [] → RunOf (BatchesBy Leaves) [] words left h status []) → RunSays v v a a old old words left status
  unread-says v a old by = record { text = []; added = appends_none v; is = ([], reads_none a, unread old by) }

-- ---- statuses

pub worst-ends : (status : ℕ) → IsWorst status → IsEnding status
worst-ends status (inl a) = inl a
worst-ends status (inr (inl a)) = inr (inl a)
worst-ends status (inr (inr (inl a))) = inr (inr (inl a))
worst-ends status (inr (inr (inr a))) = inr (inr (inr (inl a)))

pub all-end : (result : Result ℕ Stop) → IfOk result IsWorst → IfOk result IsEnding
all-end (Ok status) worst = worst-ends status worst
all-end (Err stop) worst = tt

pub mount-ends : (status : ℕ) → (status ≡ 8) ⊎ IsCutOff status → IsEnding status
mount-ends status (inl eight) = inr (inr (inr (inr (inl eight))))
mount-ends status (inr (inl five)) = inr (inr (inr (inr (inr (inl five)))))
mount-ends status (inr (inr seven)) = inr (inr (inr (inr (inr (inr seven)))))

pub never-five : (status : ℕ) → IsWorst status → status ≡ 5 → ⊥
never-five status (inl a) five = absurd (omega (arith, a, five))
never-five status (inr (inl a)) five = absurd (omega (arith, a, five))
never-five status (inr (inr (inl a))) five = absurd (omega (arith, a, five))
never-five status (inr (inr (inr a))) five = absurd (omega (arith, a, five))

pub worst-five : (result : Result ℕ Stop) (P : Type 0) → IfOk result IsWorst → result ≡ Ok 5 → P
worst-five (Ok status) P worst five = absurd (never-five status worst (let e : status ≡ 5 = cc in e))
worst-five (Err stop) P worst five = absurd cc

pub ends-most : (status : ℕ) → IsEnding status → status ≤ 8
ends-most status (inl a) = omega (arith, a)
ends-most status (inr (inl a)) = omega (arith, a)
ends-most status (inr (inr (inl a))) = omega (arith, a)
ends-most status (inr (inr (inr (inl a)))) = omega (arith, a)
ends-most status (inr (inr (inr (inr (inl a))))) = omega (arith, a)
ends-most status (inr (inr (inr (inr (inr (inl a)))))) = omega (arith, a)
ends-most status (inr (inr (inr (inr (inr (inr a)))))) = omega (arith, a)

pub never-two : (status : ℕ) → IsEnding status → status ≢ 2
never-two status (inl a) two = absurd (omega (arith, a, two))
never-two status (inr (inl a)) two = absurd (omega (arith, a, two))
never-two status (inr (inr (inl a))) two = absurd (omega (arith, a, two))
never-two status (inr (inr (inr (inl a)))) two = absurd (omega (arith, a, two))
never-two status (inr (inr (inr (inr (inl a))))) two = absurd (omega (arith, a, two))
never-two status (inr (inr (inr (inr (inr (inl a)))))) two = absurd (omega (arith, a, two))
never-two status (inr (inr (inr (inr (inr (inr a)))))) two = absurd (omega (arith, a, two))

pub never-four : (status : ℕ) (P : Type 0) → IsEnding status → status ≡ 4 → P
never-four status P (inl a) four = absurd (omega (arith, a, four))
never-four status P (inr (inl a)) four = absurd (omega (arith, a, four))
never-four status P (inr (inr (inl a))) four = absurd (omega (arith, a, four))
never-four status P (inr (inr (inr (inl a)))) four = absurd (omega (arith, a, four))
never-four status P (inr (inr (inr (inr (inl a))))) four = absurd (omega (arith, a, four))
never-four status P (inr (inr (inr (inr (inr (inl a)))))) four = absurd (omega (arith, a, four))
never-four status P (inr (inr (inr (inr (inr (inr a)))))) four = absurd (omega (arith, a, four))

-- how a run ends that no further batch could be read or answered of
pub stop-most : (stop : Stop) (status : ℕ) → status ≡ status_of stop → status ≤ 8
stop-most stops.Source status is = omega (arith, is)
stop-most stops.Output status is = omega (arith, is)
stop-most stops.Memory status is = omega (arith, is)

pub stop-two : (stop : Stop) (status : ℕ) → status ≡ status_of stop → status ≢ 2
stop-two stops.Source status is two = absurd (omega (arith, is, two))
stop-two stops.Output status is two = absurd (omega (arith, is, two))
stop-two stops.Memory status is two = absurd (omega (arith, is, two))

pub stop-four : (T : Type 0) (stop : Stop) (status : ℕ) (P Q : Type 0) → status ≡ status_of stop → CausedBy {T = T} (Err stop) P Q → status ≡ 4 → P
stop-four T stops.Source status P Q is cause four = cause
stop-four T stops.Output status P Q is cause four = absurd (omega (arith, is, four))
stop-four T stops.Memory status P Q is cause four = absurd (omega (arith, is, four))

pub stop-five : (T : Type 0) (stop : Stop) (status : ℕ) (P Q : Type 0) → status ≡ status_of stop → CausedBy {T = T} (Err stop) P Q → status ≡ 5 → Q
stop-five T stops.Source status P Q is cause five = absurd (omega (arith, is, five))
stop-five T stops.Output status P Q is cause five = cause
stop-five T stops.Memory status P Q is cause five = absurd (omega (arith, is, five))
