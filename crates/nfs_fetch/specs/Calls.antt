-- The calls for the scripts of a copy from the server.
use Rattle.std.specs.Prelude.{◌≡◌, ℕ, Bool, true, false, List, [], ◌∷◌, Option}
use Rattle.asked_runs.specs.Asking.{Round}
use Rattle.copy_targets.specs.declared.target.Took.{Took}
use Rattle.fetch_scripts.specs.Fetches.{DownloadView, Gave, NextIs}

-- One call: by what was answered to the script before the target took something, and the next script was made.
abbrev pub AskedOnce : {T : Type 0} → (T → Option (List Took)) → Round → DownloadView → T → DownloadView → T → Type 0
AskedOnce took round u t v s = Gave (took t) (took s) (NextIs round.answers round.script u v)

-- calls one after another, by which the copy and the target came from one state to another
abbrev pub AskedSo : {T : Type 0} → (T → Option (List Took)) → List Round → DownloadView → T → DownloadView → T → Type 0
AskedSo took [] u t v s = (v ≡ u) × (s ≡ t)
AskedSo {T} took (round ∷ rounds) u t v s = (w : DownloadView) × (r : T) × AskedOnce took round u t w r × AskedSo took rounds w r v s

-- 1 if something wasn't copied, and 0 if all was
abbrev pub TellsWrong : Bool → ℕ → Type 0
TellsWrong false status = status ≡ 0
TellsWrong true status = status ≡ 1
