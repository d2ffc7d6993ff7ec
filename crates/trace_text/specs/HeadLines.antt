-- Lines that say how the session was asked for. Each stands once and before the first entry, and that of the root is the first.
use Rattle.std.specs.Prelude.{ℕ, List, [], ◌∷◌, Bool, true, false, ◌||◌, Option, Some, None, is_some, if◌then◌else◌}
use Rattle.script_text.specs.Lines.{one}
use Rattle.world_model.specs.declared.entry.Entry.{Entry}
use Rattle.trace_text.specs.Told.{Told, with_root, with_lives, with_noac, with_nocto}
use Rattle.trace_text.specs.Words.{◌>>=◌, none_of, long_of, handle_of}

abbrev pub are_some : List Entry → Bool
are_some [] = false
are_some (entry ∷ entries) = true

unfoldable pub root_line : Told → List (List ℕ) → Option Told
root_line told words = do
  word ← one words
  root ← handle_of word
  if told.begun then None else Some (with_root root told)

unfoldable pub lives_line : Told → List (List ℕ) → Option Told
lives_line told words = do
  word ← one words
  lives ← long_of word
  if is_some told.lives || are_some told.history.entries then None else Some (with_lives lives told)

unfoldable pub noac_line : Told → List (List ℕ) → Option Told
noac_line told words = none_of words >>= λ nothing. if told.noac || are_some told.history.entries then None else Some (with_noac told)

unfoldable pub nocto_line : Told → List (List ℕ) → Option Told
nocto_line told words = none_of words >>= λ nothing. if told.nocto || are_some told.history.entries then None else Some (with_nocto told)
