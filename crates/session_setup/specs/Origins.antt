-- What a session is given by its settings: where its root comes from, how long it may keep what it was told, and its terms.
use Rattle.std.specs.Prelude.{ℕ, max}
use Rattle.attr_cache.specs.declared.lives.Lives.{Lives}
use Rattle.claims.specs.Modes.{Modes, modes_with}
use Rattle.claims.specs.Terms.{Terms}
use Rattle.world_model.specs.Mounts.{Origin, Mounting, Given}
use Rattle.session_words.specs.declared.settings.Export.{Export}
use Rattle.session_words.specs.declared.settings.Export.TheVariants as exports
use Rattle.session_words.specs.declared.settings.Settings.{Settings}

-- from MNT of the path, or from the settings
abbrev pub origin_of : Export → Origin
origin_of (exports.Path path) = Mounting path
origin_of (exports.Root root) = Given root

-- the longest that an attribute is believed
abbrev pub longest_of : Lives → ℕ
longest_of l = max (max l.reg_min l.reg_max) (max l.dir_min l.dir_max)

abbrev pub modes_of : Settings → Modes
modes_of s = modes_with (longest_of s.lives) s.noac s.nocto

-- the terms of a session whose calls have xids from the first one on
abbrev pub terms_by : Settings → ℕ → Terms
terms_by s first =
    record { origin = origin_of s.export; cred = s.cred; first = first; calls = s.calls; rsize = s.rsize; wsize = s.wsize; modes = modes_of s }
