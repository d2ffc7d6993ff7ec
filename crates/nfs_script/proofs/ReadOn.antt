-- Where no line of a script is left.
use Rattle.std.proofs.Common.{◌≡◌, ◌≤◌, ◌<◌, ◌+◌, ◌⊎◌, ℕ, suc, List, [], ◌∷◌, length, Bool, true, false, Option, Some, None, Result, Ok, Err, refl, sym, ◌∙◌, add-one, arith, inl, inr}
use Rattle.std.specs.Option.{option_map_or}
use Rattle.std.specs.Str.{is_utf8}
use Rattle.std.proofs.lemmas.Bool.{lt-ltb, le-ltb}
use Rattle.script_text.specs.Lines.{lines}
use Rattle.nfs_script.specs.declared.fault.Cause.TheVariants as causes
use Rattle.nfs_script.specs.declared.fault.ParseFault.{ParseFault}
use Rattle.nfs_script.specs.declared.fault.ParseFault.TheVariants as faults
use Rattle.nfs_script.specs.declared.fault.ScriptFault.{ScriptFault}
use Rattle.nfs_script.specs.declared.script.ScriptLine.{ScriptLine}
use Rattle.nfs_script.specs.Faults.{fault_at}
use Rattle.nfs_script.specs.Script.{after_line, after_lines, first_of_faults, lines_by, lines_fault, script_by, AreText, GoesOn, IsParsed, Takes}
use Rattle.nfs_script.proofs.Within.{few_lines}

-- there were too many lines
pub too_many : (last n : ℕ) (rest : List ℕ) → length rest ≡ 0 → last < n → lines_fault last n (lines rest) ≡ Some (fault_at (last + 1) causes.ManyLines)
unfolding lines
too_many last n [] e h = rw (lt-ltb last n h) refl
too_many last n (b ∷ rest) e h = absurd (omega (arith, e))

-- there were few enough
pub few_enough : (last n : ℕ) (rest : List ℕ) → length rest ≡ 0 → n ≤ last → lines_fault last n (lines rest) ≡ None
unfolding lines
few_enough last n [] e h = rw (le-ltb last n h) refl
few_enough last n (b ∷ rest) e h = absurd (omega (arith, e))

-- a line is read, and others follow
pub next_line : (last n : ℕ) (before after : List ScriptLine) (text line rest : List ℕ) → lines text ≡ line ∷ lines rest → (is_utf8 line ≡ true) × (after_line (n + 1) before line ≡ Ok after)
    → lines_by last n before (lines text) ≡ lines_by last (n + 1) after (lines rest)
next_line last n before after text line rest e h = let a : after_line (suc n) before line ≡ Ok after = rw (sym (add-one n)) h.1 in rw (e, h.0, a, add-one n) refl

-- a line isn't text
pub no_text : (last number : ℕ) (before : List ScriptLine) (line : List ℕ) (rest : List (List ℕ)) → is_utf8 line ≡ false
    → (count : ℕ) → number ≡ suc count → lines_by last count before (line ∷ rest) ≡ Err (fault_at number causes.Utf8)
no_text last number before line rest u count e = rw (e, u) refl

-- a line is faulty
pub no_line : (last number : ℕ) (before after : List ScriptLine) (line : List ℕ) (rest : List (List ℕ)) (fault : ParseFault) → is_utf8 line ≡ true
    → Takes (after_line number before line) (Err fault) after → GoesOn last number before line rest (Err (first_of_faults last number rest fault)) after
no_line last number before after line rest fault u h = by (lines_fault last number rest) refl fault h
  where
    told : (o : Option ScriptFault) (fault : ScriptFault) (count : ℕ) → lines_fault last number rest ≡ o → number ≡ suc count
        → option_map_or (λ f. Err f) o (after_lines count before (line ∷ rest)) ≡ Err fault → lines_by last count before (line ∷ rest) ≡ Err fault
    told o fault count s e k = let f : lines_fault last (suc count) rest ≡ o = rw e at s in rw (u, f) k

    by : (o : Option ScriptFault) → lines_fault last number rest ≡ o → (fault : ParseFault) → Takes (after_line number before line) (Err fault) after
        → GoesOn last number before line rest (Err (option_map_or (λ text_fault. faults.Script text_fault) o fault)) after
    by (Some text_fault) s fault h = λ count e. told (Some text_fault) text_fault count s e refl
    by None s (faults.Script fault) h = λ count e. told None fault count s e (let k : after_line (suc count) before line ≡ Err fault = rw e at h in rw k refl)
    by None s faults.Memory h = tt

-- what came of a line that isn't the last is what comes of all
pub stops : (last n : ℕ) (before asked after : List ScriptLine) (text line rest : List ℕ) (fault : ParseFault) → lines text ≡ line ∷ lines rest
    → GoesOn last (n + 1) before line (lines rest) (Err fault) asked → Takes (lines_by last n before (lines text)) (Err fault) after
stops last n before asked after text line rest (faults.Script fault) e h = rw e (h n (add-one n))
stops last n before asked after text line rest faults.Memory e h = tt

-- what is left is the same as all, and so is what came of it
pub same : (all left : Result (List ScriptLine) ScriptFault) (result : Result Unit ParseFault) (asked : List ScriptLine) → all ≡ left → Takes left result asked → Takes all result asked
same all left result asked e h = rw e h

-- nothing has no lines
none_in : (rest : List ℕ) → length rest ≡ 0 → length (lines rest) ≡ 0
unfolding lines
none_in [] z = refl
none_in (b ∷ rest) z = absurd (omega (arith, z))

-- Nothing is left, or as many lines were read as there may be, and what is left has no fault as text.
pub ends : (last n : ℕ) (asked : List ScriptLine) (rest : List ℕ) → (last ≤ n) ⊎ (length rest ≡ 0) → lines_fault last n (lines rest) ≡ None → lines_by last n asked (lines rest) ≡ Ok asked
ends last n asked rest end e = rw e (by end)
  where
    none_left : (more : List (List ℕ)) → length more ≡ 0 → after_lines n asked more ≡ Ok asked
    none_left [] z = refl
    none_left (line ∷ more) z = absurd (omega (arith, z))

    by : (last ≤ n) ⊎ (length rest ≡ 0) → after_lines n asked (lines rest) ≡ Ok asked
    by (inl most) = let few = few_lines last n (lines rest) e in none_left (lines rest) (omega (arith, few, most))
    by (inr gone) = none_left (lines rest) (none_in rest gone)

-- what came of what is left as text
pub checked : (last n : ℕ) (asked : List ScriptLine) (rest : List ℕ) (result : Result Unit ParseFault) → (last ≤ n) ⊎ (length rest ≡ 0) → AreText (lines_fault last n (lines rest)) result
    → Takes (lines_by last n asked (lines rest)) result asked
checked last n asked rest (Ok u) end e = ends last n asked rest end e
checked last n asked rest (Err (faults.Script fault)) end e = rw e refl
checked last n asked rest (Err faults.Memory) end e = absurd e

-- a text that isn't too long
pub short_text : (last before : ℕ) (text : List ℕ) → length text ≤ 1048576 → script_by last before text ≡ lines_by last before [] (lines text)
short_text last before text short = rw (le-ltb 1048576 (length text) short) refl

-- a text that is too long
pub long_text : (last before : ℕ) (text : List ℕ) → 1048576 < length text → script_by last before text ≡ Err (fault_at 0 causes.Long)
long_text last before text long = rw (lt-ltb 1048576 (length text) long) refl
