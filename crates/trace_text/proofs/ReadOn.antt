-- How reading a text goes on, and ends.
use Rattle.std.proofs.Common.{◌≡◌, ◌≤◌, ◌<◌, ℕ, suc, List, [], ◌∷◌, length, Bool, true, false, Option, Some, None, Result, Ok, Err, refl, sym, ap, ◌∙◌, arith}
use Rattle.std.specs.Prelude.{nat_lt, if◌then◌else◌}
use Rattle.std.proofs.lemmas.Bool.{ltb-true}
use Rattle.script_text.specs.Lines.{lines}
use Rattle.trace_data.specs.declared.trace.Trace.{Trace}
use Rattle.trace_text.specs.Reading.{SaysAll, after_line, after_lines, read_on, text_told}
use Rattle.trace_text.specs.Told.{Told, Says, nothing_told}

-- a text that isn't too long
pub short-text : (text : List ℕ) → length text ≤ 1048576 → text_told text ≡ after_lines 0 nothing_told (lines text)
short-text text le = by (nat_lt 1048576 (length text)) refl
  where
    by : (b : Bool) → nat_lt 1048576 (length text) ≡ b → (if b then Err 0 else after_lines 0 nothing_told (lines text)) ≡ after_lines 0 nothing_told (lines text)
    by true e = let lt : 1048576 < length text = ltb-true 1048576 (length text) e in absurd (omega (arith, lt, le))
    by false e = refl

-- a line more
pub line-read : (count next : ℕ) (told new : Told) (line : List ℕ) (all more : List (List ℕ)) (whole : Result Told ℕ) → next ≡ suc count → all ≡ line ∷ more
    → after_line told line ≡ Some new → after_lines count told all ≡ whole → after_lines next new more ≡ whole
line-read count next told new line all more whole e is says so = ap (λ (n : ℕ). after_lines n new more) e
    ∙ sym (ap (λ (o : Option Told). read_on (suc count) o (λ t. after_lines (suc count) t more)) says)
    ∙ sym (ap (after_lines count told) is) ∙ so

-- a line that isn't of the form
pub line-refused : (count next : ℕ) (told : Told) (line : List ℕ) (all more : List (List ℕ)) (whole : Result Told ℕ) → next ≡ suc count → all ≡ line ∷ more
    → after_line told line ≡ None → after_lines count told all ≡ whole → whole ≡ Err next
line-refused count next told line all more whole e is says so = sym so ∙ ap (after_lines count told) is
    ∙ ap (λ (o : Option Told). read_on (suc count) o (λ t. after_lines (suc count) t more)) says ∙ ap Err (sym e)

-- no line is left
pub all-read : (count : ℕ) (told : Told) (left : List ℕ) (whole : Result Told ℕ) → length left ≡ 0 → after_lines count told (lines left) ≡ whole → whole ≡ Ok told
unfolding lines
all-read count told [] whole e so = sym so
all-read count told (b ∷ left) whole e so = absurd (omega (arith, e))

pub says-all : (trace : Trace) (told : Told) (whole : Result Told ℕ) → whole ≡ Ok told → Says trace told → SaysAll trace whole
says-all trace told whole e says = rw e says
