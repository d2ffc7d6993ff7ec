-- A text that is written line by line is read line by line.
use Rattle.std.proofs.Common.{◌≡◌, ◌+◌, ℕ, suc, List, [], ◌∷◌, ◌++◌, Bool, false, Option, Some, None, refl, ap, ◌∙◌, append_assoc}
use Rattle.std.specs.Prelude.{codes, if◌then◌else◌}
use Rattle.script_text.specs.Lines.{is_skipped, lines, words}
use Rattle.trace_text.specs.Reading.{after_line, after_lines, line_by, read_on, told_after}
use Rattle.trace_text.specs.Texts.{line_of, spread}
use Rattle.trace_text.specs.Told.{Told, begun}
use Rattle.trace_text.specs.Words.{◌>>=◌, first_of}
use Rattle.trace_prints.specs.Rounds.{Reads}
use Rattle.trace_prints.proofs.Lined.{IsWord, AreWords, first-line, line-in, line-utf8, words-spread}

pub reads-nothing : (told : Told) → Reads told [] told
reads-nothing told = λ count rest. (count, refl)

pub reads-then : (a b c : Told) (text more : List ℕ) → Reads a text b → Reads b more c → Reads a (text ++ more) c
reads-then a b c text more r s = λ count rest. (
    let p = r count (more ++ rest) in
    let q = s p.0 rest in
    (q.0, ap (λ (k : List ℕ). after_lines count a (lines k)) (append_assoc text more rest) ∙ p.1 ∙ q.1)
    )

-- ---- a line

begins-so : (word more : List ℕ) → is_skipped word ≡ false → is_skipped (word ++ more) ≡ false
begins-so [] more e = absurd (cc e)
begins-so (b ∷ word) more e = e

line-told : (told new : Told) (word : List ℕ) (more : List (List ℕ)) → IsWord word → is_skipped word ≡ false → AreWords more → line_by told word more ≡ Some new
    → after_line told (word ++ spread more) ≡ Some (begun new)
line-told told new word more w e ws so =
    let line : List ℕ = word ++ spread more in
    ap (λ (t : Bool). if t then Some told else told_after told line) (begins-so word (spread more) e)
    ∙ ap (λ (t : Bool). if t then (first_of (words line) >>= λ first. line_by told first.0 first.1 >>= λ n. Some (begun n)) else None) (line-utf8 line (line-in word more w ws))
    ∙ ap (λ (k : List (List ℕ)). first_of k >>= λ first. line_by told first.0 first.1 >>= λ n. Some (begun n)) (words-spread word more w ws)
    ∙ ap (λ (o : Option Told). o >>= λ n. Some (begun n)) so

-- a line of words, of which the first doesn't begin with `#`
pub reads-line : (told new : Told) (word : List ℕ) (more : List (List ℕ)) → IsWord word → is_skipped word ≡ false → AreWords more → line_by told word more ≡ Some new
    → Reads told (line_of word more) (begun new)
reads-line told new word more w e ws so = λ count rest. (
    let line : List ℕ = word ++ spread more in
    let text : line_of word more ++ rest ≡ line ++ 10 ∷ rest = append_assoc line (codes "\n") rest in (
      suc count,
      ap (λ (k : List ℕ). after_lines count told (lines k)) text
          ∙ ap (after_lines count told) (first-line line rest (line-in word more w ws))
          ∙ ap (λ (o : Option Told). read_on (suc count) o (λ t. after_lines (suc count) t (lines rest))) (line-told told new word more w e ws so),
    )
    )
