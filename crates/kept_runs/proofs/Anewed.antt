-- A session over a link that is told anew.
use Rattle.std.specs.Prelude.{IfSome}
use Rattle.std.proofs.Common.{◌≡◌, ℕ, List, [], Option}
use Rattle.world_model.specs.declared.entry.Entry.{Entry}
use Rattle.world_model.specs.Entries.{ours}
use Rattle.world_model.specs.History.{History}
use Rattle.world_model.specs.Told.{Relates}
use Rattle.anew_link.specs.Anew.{KeepsCount, since, told_anew}
use Rattle.anew_link.proofs.Whole.{relates-since}
use Rattle.session_words.specs.declared.settings.Settings.{Settings}
use Rattle.script_runs.specs.declared.stock.Stock.{Stock}
use Rattle.script_runs.specs.Readings.{Reads}
use Rattle.script_runs.specs.Run.{Says}
use Rattle.nfs_client.specs.KeptHeadline.{KeptRun}
use Rattle.nfs_client.specs.KeptPages.{TrueBack}

module _ (first own : ℕ) (old new : Option History) (start : first ≡ 0) (keeps : KeepsCount first own old new) where
  pub anew-says : (P : History → Type 0) (v w a b : Option (List ℕ)) (s : Settings) (left : Option (List ℕ)) (status : ℕ)
      → Says v w (λ text. Reads a b (λ given. Relates (told_anew first old) (told_anew own new) (λ before h. ours before ≡ [] → KeptRun P given s left before h status text)))
      → Says v w (λ text. Reads a b (λ given. Relates old new (λ before h. KeptRun P given s left (since before before) (since before h) status text)))
  anew-says P v w a b s left status said = record {
    text = said.text;
    added = said.added;
    is = (said.is.0, said.is.1, relates-since first own old new (λ (before h : List Entry). KeptRun P said.is.0 s left before h status said.text) start keeps said.is.2);
  }

  pub anew-back : (stock : Stock) (result : Option Stock) → Relates (told_anew first old) (told_anew own new) (λ before h. ours before ≡ [] → IfSome result (λ back. TrueBack stock back h))
      → Relates old new (λ before h. IfSome result (λ back. TrueBack stock back (since before h)))
  anew-back stock result r = relates-since first own old new (λ (before h : List Entry). IfSome result (λ back. TrueBack stock back h)) start keeps r
