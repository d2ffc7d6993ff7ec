-- The lines of a text, one after another: the only word of the first one, and whether each is passed over.
use Rattle.std.proofs.Common.{◌≡◌, ℕ, List, [], ◌∷◌, length, Bool, true, false, ◌&&◌, Option, refl, sym, ap, ◌∙◌, arith}
use Rattle.script_text.specs.Lines.{is_skipped, lines, one, words}
use Rattle.script_batches.specs.Batches.{all_skipped, begins_go, says_go}

-- an empty text has none
pub no-lines : (text : List ℕ) → length text ≡ 0 → lines text ≡ []
unfolding lines
no-lines [] e = refl
no-lines (b ∷ text) e = absurd (omega (arith, e))

-- none is left
pub skipped-all : (rest : List ℕ) → length rest ≡ 0 → all_skipped (lines rest) ≡ true
skipped-all rest e = ap all_skipped (no-lines rest e)

-- the first one tells
pub skipped-first : (text : List (List ℕ)) (line : List ℕ) (more : List (List ℕ)) (b : Bool) → text ≡ line ∷ more → b ≡ is_skipped line → all_skipped text ≡ (b && all_skipped more)
skipped-first text line more b is so = ap all_skipped is ∙ ap (λ (t : Bool). t && all_skipped more) (sym so)

pub no-go-none : (text : List ℕ) → length text ≡ 0 → begins_go (lines text) ≡ false
no-go-none text e = ap begins_go (no-lines text e)

pub go-first : (text : List (List ℕ)) (line : List ℕ) (more : List (List ℕ)) (word : Option (List ℕ)) (b : Bool) → text ≡ line ∷ more → word ≡ one (words line) → b ≡ says_go word → b ≡ begins_go text
go-first text line more word b is only says = says ∙ ap says_go only ∙ sym (ap begins_go is)
