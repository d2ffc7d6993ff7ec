-- Why a session by words ends with its status.
use Rattle.std.proofs.Common.{◌≡◌, ◌⊎◌, ℕ, List, [], Option, Some, None}
use Rattle.world_model.specs.History.{History}
use Rattle.world_model.specs.Told.{Relates}
use Rattle.session_words.specs.declared.settings.Settings.{Settings}
use Rattle.session_words.specs.Words.{IsCommand}
use Rattle.run_asked.specs.Ends.{Ends, EndsBy, by_words, no_words}

-- they give these settings
pub words-end : (words : List (List ℕ)) (s : Settings) (old new : Option History) (status : ℕ) → IsCommand words s → Relates old new (λ before h. before ≡ [] → Ends s h status)
    → Relates old new (λ before h. before ≡ [] → EndsBy words h status)
words-end words s None new status found k = tt
words-end words s (Some a) None status found k = absurd k
words-end words s (Some a) (Some b) status found k = λ none. by_words s found (k none)

-- they give none, or memory ran out
pub unworded : (words : List (List ℕ)) (told : Option History) (status : ℕ) → (status ≡ 2) ⊎ (status ≡ 7) → Relates told told (λ before h. before ≡ [] → EndsBy words h status)
unworded words None status how = tt
unworded words (Some t) status how = λ none. no_words none how
