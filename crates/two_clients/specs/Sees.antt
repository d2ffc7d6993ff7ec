-- What two sessions over one server show of each other (RFC 1813, section 4.8; nfs(5), close-to-open consistency).
use Rattle.std.specs.Prelude.{◌≡◌, ℕ, false, List}
use Rattle.world_model.specs.Fresh.{Fresh}
use Rattle.world_model.specs.Lawful.{Lawful}
use Rattle.world_model.specs.Once.{Once}
use Rattle.outside.specs.Pairs.{PairTold, side}
use Rattle.law_pair.specs.Seen.{ReadsOther}
use Rattle.nfs_script.specs.declared.script.ScriptLine.{ScriptLine}
use Rattle.session_words.specs.declared.settings.Settings.{Settings}
use Rattle.session_setup.specs.Origins.{modes_of, origin_of}
use Rattle.nfs_client.specs.Headline.{Headline, Promises}

-- As the client at that end sees it, the server is lawful, executes no late copies, and gives each change another stamp.
pub record IsHonestTo (end : ℕ) (h : PairTold) : Type 0 where
  pub lawful : Lawful (side end h)
  pub once : Once (side end h).entries
  pub fresh : Fresh (side end h)

-- Both sessions have the same root and modes, and their opens ask the server anew.
pub record AreAlike (s t : Settings) : Type 0 where
  pub asks : (modes_of s).nocto ≡ false
  pub modes : modes_of t ≡ modes_of s
  pub origin : origin_of t.export ≡ origin_of s.export

-- By what each session promises, the other one sees what this one made stable before an open of the other.
abbrev pub OneSeesTheOther : Type 0
OneSeesTheOther = (h : PairTold) (one other : ℕ) (s t : Settings) (first second : ℕ) → Promises s first (side one h) → Promises t second (side other h)
    → AreAlike s t → IsHonestTo one h → IsHonestTo other h → ReadsOther (modes_of s) (origin_of s.export) h one other

-- a run by these settings, whose history is what the client at that end sees
abbrev pub IsRunAt : ℕ → PairTold → Settings → List ScriptLine → List ℕ → ℕ → List ℕ → Type 0
IsRunAt end h s lines given status text = Headline s lines given (side end h).entries status text

-- The same of two runs, both ways.
abbrev pub SessionsSeeEachOther : Type 0
SessionsSeeEachOther = (h : PairTold) (s t : Settings) (lines others : List ScriptLine) (given readings : List ℕ) (status its_status : ℕ) (text its_text : List ℕ)
    → IsRunAt 0 h s lines given status text → IsRunAt 1 h t others readings its_status its_text → AreAlike s t → IsHonestTo 0 h → IsHonestTo 1 h
    → ReadsOther (modes_of s) (origin_of s.export) h 0 1 × ReadsOther (modes_of s) (origin_of s.export) h 1 0
