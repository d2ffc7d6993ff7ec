-- What the words of a session say of its client.
use Rattle.std.specs.Prelude.{◌≡◌, ℕ, max, List, Option, Some, None}
use Rattle.clap.specs.Words.{Text}
use Rattle.attr_cache.specs.declared.lives.Lives.{Lives}
use Rattle.session_words.specs.declared.settings.Export.{Export}
use Rattle.session_words.specs.declared.settings.Export.TheVariants as exports
use Rattle.session_words.specs.declared.settings.Settings.{Settings}
use Rattle.session_words.specs.Words.{IsCommand}
use Rattle.trace_words.specs.declared.words.TraceWords.{TraceWords}

-- the root, if `--root` gives it
abbrev pub root_of : Export → Option (List ℕ)
root_of (exports.Path path) = None
root_of (exports.Root root) = Some root

-- the longest that an attribute is believed
abbrev pub longest_of : Lives → ℕ
longest_of l = max (max l.reg_min l.reg_max) (max l.dir_min l.dir_max)

abbrev pub words_of : Settings → TraceWords
words_of s = record { root = root_of s.export; lives = longest_of s.lives; noac = s.noac; nocto = s.nocto }

-- the words are no command line
abbrev pub AreRefused : List Text → Type 0
AreRefused words = (s : Settings) → IsCommand words s → ⊥

-- the words give these settings, and no others
pub record Give (words : List Text) (given : TraceWords) : Type 0 where
  pub settings : Settings
  pub command : IsCommand words settings
  pub only : (s : Settings) → IsCommand words s → settings ≡ s
  pub is : given ≡ words_of settings
