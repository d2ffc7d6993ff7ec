-- What a run of batches promises of the history of a simulated server, with its premises met.
use Rattle.std.proofs.Common.{◌≡◌, ℕ, List, [], Option, Some, Result, Ok, refl}
use Rattle.world_model.specs.Told.{Relates}
use Rattle.batch_runs.specs.Runs.{RunOf, batches, cut_before, no_words}
use Rattle.run_batches.specs.Headline.{Headline}
use Rattle.script_runs.specs.Readings.{Reads}
use Rattle.script_runs.specs.Run.{Says}
use Rattle.world_link.specs.declared.world.World.{World}
use Rattle.world_link.specs.Begins.{Begins}
use Rattle.world_link.specs.Honest.{IsHonestWorld}
use Rattle.world_link.specs.Readings.{ReadView}
use Rattle.world_link.specs.Replay.{told}
use Rattle.world_link.specs.View.{WorldView, seen}
use Rattle.run_replay.specs.BatchReplays.{BatchReplayOf, BatchReplayShows}
use Rattle.run_replay.proofs.Replaying.{begins_empty, keeps}

batches-show : (w : WorldView) (given : List ℕ) (words : List (List ℕ)) (left : Option (List ℕ)) (status : ℕ) (text : List ℕ) → IsHonestWorld w
    → RunOf Headline given words left (told w).entries status text → RunOf (BatchReplayShows (told w)) given words left (told w).entries status text
batches-show w given words left status text honest (no_words none two empty) = no_words none two empty
batches-show w given words left status text honest (cut_before none cut empty) = cut_before none cut empty
batches-show w given words left status text honest (batches s command modes headline) =
    batches s command modes (record { headline = headline; keeps = keeps s headline.first w honest (headline.server (told w) refl) })

pub batches-say : (read : Result ReadView ℕ) (start later : World) (tick : ℕ) (was now : Option (List ℕ)) (old new : Option (List ℕ)) (words : List (List ℕ)) (left : Option (List ℕ)) (status : ℕ)
    → Begins read (Ok (start, tick)) → (IsHonestWorld (seen start) → IsHonestWorld (seen later)) → IsHonestWorld (seen start)
    → Says old new (λ text. Reads was now (λ given. Relates (Some (told (seen start))) (Some (told (seen later))) (λ before h. before ≡ [] → RunOf Headline given words left h status text)))
    → Says old new (λ text. BatchReplayOf (told (seen later)) words left status text)
batches-say read start later tick was now old new words left status begun stays honest said = record {
  text = said.text;
  added = said.added;
  is = (said.is.0, batches-show (seen later) said.is.0 words left status said.text (stays honest) (said.is.2 (begins_empty read start tick begun)));
}
