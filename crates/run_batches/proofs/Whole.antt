-- What holds of each session of batches holds of a run.
use Rattle.std.proofs.Common.{◌≡◌, ℕ, List, [], Option, Some, None}
use Rattle.world_model.specs.declared.entry.Entry.{Entry}
use Rattle.world_model.specs.History.{History}
use Rattle.world_model.specs.Told.{Relates}
use Rattle.session_words.specs.declared.settings.Settings.{Settings}
use Rattle.script_runs.specs.LaneRuns.{Leaves}
use Rattle.script_runs.specs.Readings.{Reads}
use Rattle.script_runs.specs.Run.{Says}
use Rattle.batch_runs.specs.Runs.{BatchesBy, RunOf, batches, cut_before, no_words}
use Rattle.run_batches.specs.Headline.{Headline}
use Rattle.run_batches.proofs.Headlines.{batches-headline}

run-headline : (given : List ℕ) (words : List (List ℕ)) (left : Option (List ℕ)) (h : List Entry) (status : ℕ) (text : List ℕ) → RunOf (BatchesBy Leaves) given words left h status text
    → RunOf Headline given words left h status text
run-headline given words left h status text (no_words e two none) = no_words e two none
run-headline given words left h status text (cut_before e cut none) = cut_before e cut none
run-headline given words left h status text (batches s command keeps by) = batches s command keeps (batches-headline s left given h status text by)

-- where the link tells its history
told : (P Q : List Entry → Type 0) → ((h : List Entry) → P h → Q h) → (old new : Option History) → Relates old new (λ before h. before ≡ [] → P h) → Relates old new (λ before h. before ≡ [] → Q h)
told P Q less None new r = tt
told P Q less (Some x) None r = absurd r
told P Q less (Some x) (Some y) r = λ e. less y.entries (r e)

module _ (v w : Option (List ℕ)) (a b : Option (List ℕ)) (old new : Option History) (left : Option (List ℕ)) (status : ℕ) where
  pub run-heads : (words : List (List ℕ)) → Says v w (λ text. Reads a b (λ given. Relates old new (λ before h. before ≡ [] → RunOf (BatchesBy Leaves) given words left h status text)))
      → Says v w (λ text. Reads a b (λ given. Relates old new (λ before h. before ≡ [] → RunOf Headline given words left h status text)))
  run-heads words said = record {
    text = said.text;
    added = said.added;
    is = (
      said.is.0,
      said.is.1,
      told (λ h. RunOf (BatchesBy Leaves) said.is.0 words left h status said.text) (λ h. RunOf Headline said.is.0 words left h status said.text)
          (λ h r. run-headline said.is.0 words left h status said.text r) old new said.is.2,
    );
  }

  pub with-heads : (s : Settings) → Says v w (λ text. Reads a b (λ given. Relates old new (λ before h. before ≡ [] → BatchesBy Leaves s left given h status text)))
      → Says v w (λ text. Reads a b (λ given. Relates old new (λ before h. before ≡ [] → Headline s left given h status text)))
  with-heads s said = record {
    text = said.text;
    added = said.added;
    is = (
      said.is.0,
      said.is.1,
      told (λ h. BatchesBy Leaves s left said.is.0 h status said.text) (λ h. Headline s left said.is.0 h status said.text)
          (λ h r. batches-headline s left said.is.0 h status said.text r) old new said.is.2,
    );
  }
