-- The calls for the scripts of a copy.
use Rattle.std.specs.Prelude.{◌≡◌, ℕ, Bool, true, false, List, [], ◌∷◌, Option, None}
use Rattle.asked_runs.specs.Asking.{Round}
use Rattle.copy_scripts.specs.Uploads.{Gave, NextIs, UploadView}
use Rattle.file_trees.specs.declared.tree.Given.{Given}

-- the status of a copy: 1 if something wasn't copied, else 0
abbrev pub TellsWrong : Bool → ℕ → Type 0
TellsWrong false status = status ≡ 0
TellsWrong true status = status ≡ 1

-- One call: the tree gave something, and the next script was made of what waited and of that. If there was none the tree is at its end.
pub record AskedOnce {T : Type 0} (given : T → Option (List Given)) (over : T → Type 0) (round : Round) (u : UploadView) (t : T)
    (v : UploadView) (s : T) : Type 0 where
  pub gave : Gave (given t) (given s) (λ more. NextIs round.status round.script more u v)
  pub ends : round.script ≡ None → over s

-- calls one after another, by which the copy and the tree came from one state to another
abbrev pub AskedSo : {T : Type 0} → (T → Option (List Given)) → (T → Type 0) → List Round → UploadView → T → UploadView → T → Type 0
AskedSo given over [] u t v s = (v ≡ u) × (s ≡ t)
AskedSo {T} given over (round ∷ rounds) u t v s = (w : UploadView) × (r : T) × AskedOnce given over round u t w r × AskedSo given over rounds w r v s
