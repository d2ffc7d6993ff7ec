-- What a session of batches promises, in the words of the model alone: what one of a single script does, of the lines of all batches that were run.
use Rattle.std.specs.Prelude.{◌≡◌, ℕ, List, [], ◌++◌, length, Option}
use Rattle.world_model.specs.declared.answer.Fault.{Fault}
use Rattle.world_model.specs.declared.entry.Entry.{Entry}
use Rattle.world_model.specs.declared.entry.Entry.TheVariants.{Began}
use Rattle.world_model.specs.declared.op.Op.{Op}
use Rattle.world_model.specs.Entries.{At}
use Rattle.world_model.specs.Follows.{Follows}
use Rattle.world_model.specs.Heard.{Refused}
use Rattle.world_model.specs.History.{History}
use Rattle.world_model.specs.Mounts.{mount_call}
use Rattle.claims.specs.Caused.{Caused}
use Rattle.claims.specs.Settled.{Evident}
use Rattle.claims.specs.Thrifty.{Thrifty}
use Rattle.link_dials.specs.Sendings.{GoesToPorts, Resends}
use Rattle.nfs_script.specs.declared.script.ScriptLine.{ScriptLine}
use Rattle.script_batches.specs.Batches.{Read}
use Rattle.session_words.specs.declared.settings.Export.TheVariants as exports
use Rattle.session_words.specs.declared.settings.Settings.{Settings}
use Rattle.session_setup.specs.Origins.{modes_of, origin_of, terms_by}
use Rattle.lane_session.specs.Endings.{EndsAs, entries_of}
use Rattle.script_runs.specs.Ends.{IsClocked, TellsMount}
use Rattle.nfs_client.specs.Headline.{Promises}
use Rattle.batch_runs.specs.Parts.{ArePartsFrom, AreRead, Part, lines_in, text_in}
use Rattle.batch_runs.specs.Runs.{SessionOf, lines_of}

-- Each batch was answered, one after the other, as `SessionOf` says; with the last one perhaps cut off. Or no line began: the mount was refused, and the line
-- that says so was written behind the answers of batches without a line; or memory ran out before.
pub data AnswersBatches (s : Settings) (left : Option (List ℕ)) (lines : List ScriptLine) (h : List Entry) (status : ℕ) (text : List ℕ) : Type 0 where
  answered : (given : List ℕ) (before : List Entry) (session : SessionOf s.count left given before h status text) → lines ≡ lines_of session
      → AnswersBatches s left lines h status text
  unmounted : lines ≡ [] → (early : List Part) (more : List Read) → lines_in early ≡ [] → ArePartsFrom s.count 0 [] [] early → AreRead left early more
      → ((i lane line : ℕ) (op : Op) → At h i (Began lane line op) → ⊥) → (path : List ℕ) (fault : Fault) (last : List ℕ) → s.export ≡ exports.Path path
      → Refused h 0 (length h) (mount_call path) fault → TellsMount fault status last → text ≡ text_in early ++ last → AnswersBatches s left lines h status text
  unready : lines ≡ [] → (early : List Part) (more : List Read) → lines_in early ≡ [] → ArePartsFrom s.count 0 [] [] early → AreRead left early more
      → ((i lane line : ℕ) (op : Op) → At h i (Began lane line op) → ⊥) → status ≡ 7 → text ≡ text_in early → AnswersBatches s left lines h status text

-- A session of the batches of an input, by these settings. The clock gave these readings, the history is what the link tells, and the text is what was written.
-- The lines are those of all batches that were run, and what a session of these lines promises is promised: an `ok` of a sync in one batch makes stable what
-- another one wrote.
pub record Headline (s : Settings) (left : Option (List ℕ)) (given : List ℕ) (h : List Entry) (status : ℕ) (text : List ℕ) : Type 0 where
  pub first : ℕ
  pub lines : List ScriptLine
  pub idle : lines ≡ [] → (i lane line : ℕ) (op : Op) → At h i (Began lane line op) → ⊥
  pub follows : Follows (entries_of lines) h
  pub batches : AnswersBatches s left lines h status text
  pub clock : IsClocked status given h
  pub caused : (answers : ℕ) → EndsAs lines h answers → Caused (terms_by s first) (entries_of lines) answers h
  pub ports : GoesToPorts s.mount_port s.nfs_port h
  pub resends : Resends h
  pub thrifty : Thrifty (terms_by s first) h
  pub evidence : Evident (modes_of s) (origin_of s.export) h
  pub server : (t : History) → t.entries ≡ h → Promises s first t
