-- A batch that is read line by line.
use Rattle.std.proofs.Common.{◌≡◌, ◌≢◌, ◌≤◌, ◌<◌, ◌+◌, ℕ, List, [], ◌∷◌, ◌++◌, length, take, Bool, true, false, Option, Some, None, IfSome, refl, sym, ap, subst, ◌∙◌, arith, if◌then◌else◌}
use Rattle.std.specs.Option.{option_map}
use Rattle.std.proofs.lemmas.List.{length-append}
use Rattle.script_batches.specs.declared.input.Batch.{Batch}
use Rattle.script_batches.specs.Batches.{HeldView, InputView, Read, batches_from, batches_of, counted, is_go, is_idle, joined, kept_bytes, kept_of, raw_lines, work_left}
use Rattle.script_batches.specs.declared.input.Taken.{Taken}
use Rattle.script_batches.specs.declared.input.Taken.TheVariants as takes
use Rattle.script_batches.specs.Taking.{Gives, IsCountedIn, IsUsed, LineOf, NextOf, TakesLine, TookLines, adds_line, batch_of, no_line, read_of, rest_of, some_line}
use Rattle.script_batches.proofs.Kept.{go-kept, idle-none, joined-more, kept-some, take-again, take-behind, take-nil}

differ : {A : Type 0} → true ≡ false → A
differ e = absurd cc

-- ---- numbers

counted-low : (n : ℕ) → n ≤ 268435456 → n ≡ counted (n + 0)
counted-low n le = omega (arith, le)

counted-again : (n : ℕ) → counted (counted n + 1) ≡ counted (n + 1)
counted-again n = omega arith

-- ---- the lines of a batch so far

-- these lines of an input were taken, and a front of them is kept
pub record IsTaken (before : ℕ) (input : List ℕ) (lines : ℕ) (left text : List ℕ) : Type 0 where
  pub taken : List (List ℕ)
  pub same : batches_from before [] (raw_lines input) ≡ batches_from before taken (raw_lines left)
  pub kept : text ≡ kept_of taken
  pub number : lines ≡ counted (before + length taken)

-- the same of a source that may tell what is left
abbrev pub TakenSo : Option (List ℕ) → Option (List ℕ) → InputView → InputView → List ℕ → Type 0
TakenSo None rest old now text = Unit {0}
TakenSo (Some left) None old now text = ⊥
TakenSo (Some left) (Some rest) old now text = IsTaken old.lines (old.held.bytes ++ left) now.lines (now.held.bytes ++ rest) text

pub taken-none : (left : Option (List ℕ)) (view : InputView) → view.lines ≤ 268435456 → TakenSo left left view view []
taken-none None view le = tt
taken-none (Some left) view le = record { taken = []; same = refl; kept = sym (take-nil kept_bytes); number = counted-low view.lines le }

kept-line : (line text longer b_line : List ℕ) (taken : List (List ℕ)) → text ≡ kept_of taken → line ≡ take kept_bytes b_line → longer ≡ take kept_bytes (text ++ line)
    → longer ≡ kept_of (taken ++ b_line ∷ [])
kept-line line text longer b_line taken text_is line_is longer_is =
    longer_is
    ∙ ap (λ (t : List ℕ). take kept_bytes (t ++ line)) text_is
    ∙ take-again kept_bytes (joined taken) line
    ∙ ap (λ (t : List ℕ). take kept_bytes (joined taken ++ t)) line_is
    ∙ take-behind kept_bytes kept_bytes (joined taken) b_line (omega arith)
    ∙ ap (take kept_bytes) (sym (joined-more taken b_line))

-- what the lines behind those that were taken come to
from-line : (before : ℕ) (taken : List (List ℕ)) (line : List ℕ) (more : List (List ℕ)) (b : Bool) → is_go line ≡ b
    → batches_from before taken (line ∷ more)
    ≡ (if b
    then record { before = before; last = counted (before + length taken + 1); text = kept_of taken; ended = true } ∷ batches_from (counted (before + length taken + 1)) [] more
    else batches_from before (taken ++ line ∷ []) more)
from-line before taken line more b e =
    ap (λ (t : Bool). if t
    then record { before = before; last = counted (before + length taken + 1); text = kept_of taken; ended = true } ∷ batches_from (counted (before + length taken + 1)) [] more
    else batches_from before (taken ++ line ∷ []) more) e

module _ (before lines : ℕ) (input mid rest line text longer : List ℕ) (p : IsTaken before input lines mid text) where
  taken-more : is_go line ≡ false → line ≢ [] → longer ≡ take kept_bytes (text ++ line) → LineOf mid rest line → IsTaken before input (counted (lines + 1)) rest longer
  taken-more go some longer_is (no_line is gone none) = absurd (some none)
  taken-more go some longer_is (some_line b bytes raw kept) =
      let whole : List ℕ = b ∷ bytes in
      let not_go : is_go whole ≡ false = sym (go-kept whole) ∙ ap is_go (sym kept) ∙ go in
      record {
        taken = p.taken ++ whole ∷ [];
        same = p.same ∙ ap (batches_from before p.taken) raw ∙ from-line before p.taken whole (raw_lines rest) false not_go;
        kept = kept-line line text longer whole p.taken p.kept kept longer_is;
        number = ap (λ (n : ℕ). counted (n + 1)) p.number ∙ counted-again (before + length p.taken)
            ∙ ap counted (let long = length-append p.taken (whole ∷ []) in omega (arith, long));
      }

  taken-go : is_go line ≡ true → line ≢ [] → LineOf mid rest line
      → batches_of before input ≡ record { before = before; last = counted (lines + 1); text = text; ended = true } ∷ batches_of (counted (lines + 1)) rest
  taken-go go some (no_line is gone none) = absurd (some none)
  taken-go go some (some_line b bytes raw kept) =
      let whole : List ℕ = b ∷ bytes in
      let is_one : is_go whole ≡ true = sym (go-kept whole) ∙ ap is_go (sym kept) ∙ go in
      let last : counted (before + length p.taken + 1) ≡ counted (lines + 1) = sym (ap (λ (n : ℕ). counted (n + 1)) p.number ∙ counted-again (before + length p.taken)) in
      p.same
      ∙ ap (batches_from before p.taken) raw
      ∙ from-line before p.taken whole (raw_lines rest) true is_one
      ∙ ap (λ (n : ℕ). record { before = before; last = n; text = kept_of p.taken; ended = true } ∷ batches_from n [] (raw_lines rest)) last
      ∙ ap (λ (t : List ℕ). record { before = before; last = counted (lines + 1); text = t; ended = true } ∷ batches_from (counted (lines + 1)) [] (raw_lines rest)) (sym p.kept)

  -- the input ends
  taken-rest : line ≡ [] → LineOf mid rest line
      → (batches_of before input ≡ (if is_idle text then [] else record { before = before; last = lines; text = text; ended = false } ∷ [])) × (rest ≡ [])
  taken-rest none (some_line b bytes raw kept) = absurd (kept-some b bytes (sym kept ∙ none))
  taken-rest none (no_line is gone same) = (
    p.same
        ∙ ap (λ (t : List ℕ). batches_from before p.taken (raw_lines t)) is
        ∙ ap (λ (t : List ℕ). if is_idle t then [] else record { before = before; last = counted (before + length p.taken); text = t; ended = false } ∷ []) (sym p.kept)
        ∙ ap (λ (n : ℕ). if is_idle text then [] else record { before = before; last = n; text = text; ended = false } ∷ []) (sym p.number),
    gone,
  )

-- nothing is left
none-of : (n : ℕ) (rest : List ℕ) → rest ≡ [] → batches_of n rest ≡ []
none-of n rest gone =
    ap (batches_of n) gone
    ∙ ap (λ (t : List ℕ). if is_idle t then [] else record { before = n; last = counted (n + 0); text = t; ended = false } ∷ []) (take-nil kept_bytes)
    ∙ ap (λ (b : Bool). if b then [] else record { before = n; last = counted (n + 0); text = []; ended = false } ∷ []) idle-none

some-read : (a b : Read) → Some a ≡ Some b → a ≡ b
some-read a b e = cc

module _ (before lines : ℕ) (text : List ℕ) where
  -- what there is at the end
  abbrev last_read : Read
  last_read = record { before = before; last = lines; text = text; ended = false }

  rest-next : (old now : InputView) (left rest : List ℕ) (result : Option Batch)
      → batches_of old.lines (old.held.bytes ++ left) ≡ (if is_idle text then [] else last_read ∷ []) → now.held.bytes ++ rest ≡ []
      → option_map read_of result ≡ rest_of before lines text → NextOf old left now rest result
  rest-next old now left rest result is gone so = by (is_idle text) result is so
    where
      by : (b : Bool) (result : Option Batch) → batches_of old.lines (old.held.bytes ++ left) ≡ (if b then [] else last_read ∷ [])
          → option_map read_of result ≡ (if b then None else Some last_read) → NextOf old left now rest result
      by true None is so = is
      by true (Some batch) is so = absurd cc
      by false None is so = absurd cc
      by false (Some batch) is so =
          is
          ∙ ap (λ (r : Read). r ∷ []) (sym (some-read (read_of batch) last_read so))
          ∙ ap (λ (t : List Read). read_of batch ∷ t) (sym (none-of now.lines (now.held.bytes ++ rest) gone))

  -- it is a batch only where there is a text
  rest-some : (batch : Batch) → option_map read_of (Some batch) ≡ rest_of before lines text → text ≢ []
  rest-some batch so none =
      let idle : is_idle text ≡ true = ap is_idle none ∙ idle-none in
      let no_way : Some (read_of batch) ≡ None = so ∙ ap (λ (b : Bool). if b then None else Some last_read) idle in
      absurd cc

  pub rest-counted : (result : Option Batch) → option_map read_of result ≡ rest_of before lines text → before ≤ 268435456 → lines ≤ 268435456 → IfSome result IsCountedIn
  rest-counted None so low few = tt
  rest-counted (Some batch) so low few = by (is_idle text) so
    where
      by : (b : Bool) → Some (read_of batch) ≡ (if b then None else Some last_read) → IsCountedIn batch
      by true so = absurd cc
      by false so =
          let is : read_of batch ≡ last_read = some-read (read_of batch) last_read so in
          record {
            before = (let b = ap (λ (r : Read). r.before) is in omega (arith, b, low));
            last = (let l = ap (λ (r : Read). r.last) is in omega (arith, l, few));
          }

  pub rest-less : (old now : HeldView) (result : Option Batch) → option_map read_of result ≡ rest_of before lines text → IsUsed old now text → IfSome result (λ batch. work_left now < work_left old)
  rest-less old now None so used = tt
  rest-less old now (Some batch) so used = used.some (rest-some batch so)

-- ---- where a source may tell

-- lines are counted up to 2 ^ 28
pub counted-next : (now mid : InputView) → now ≡ adds_line mid → now.lines ≤ 268435456
counted-next now mid is = let same : now.lines ≡ counted (mid.lines + 1) = ap (λ (v : InputView). v.lines) is in omega (arith, same)

module _ (o m k : InputView) (text longer : List ℕ) where
  -- a line more
  pub taken-on : (a b c : Option (List ℕ)) → TakenSo a b o m text → TakesLine b c m k text longer takes.Line → TakenSo a c o k longer
  taken-on None b c p t = tt
  taken-on (Some x) None c p t = absurd p
  taken-on (Some x) (Some y) None p t = absurd t.gives
  taken-on (Some x) (Some y) (Some z) p t =
      subst (λ (v : InputView). IsTaken o.lines (o.held.bytes ++ x) v.lines (v.held.bytes ++ z) longer) (sym t.adds.0)
      (subst (λ (n : ℕ). IsTaken o.lines (o.held.bytes ++ x) (counted (n + 1)) (t.mid.held.bytes ++ z) longer) (sym t.lines)
      (taken-more o.lines m.lines (o.held.bytes ++ x) (m.held.bytes ++ y) (t.mid.held.bytes ++ z) t.line text longer p t.adds.2 t.adds.1 t.adds.3 t.gives))

  -- the line that ends the batch
  pub taken-ends : (a b c : Option (List ℕ)) (result : Option Batch) → option_map read_of result ≡ batch_of true o.lines k.lines longer → TakenSo a b o m text
      → TakesLine b c m k text longer takes.Go → Gives a c o k result
  taken-ends None b c result so p t = tt
  taken-ends (Some x) None c result so p t = absurd p
  taken-ends (Some x) (Some y) None result so p t = absurd t.gives
  taken-ends (Some x) (Some y) (Some z) None so p t = absurd cc
  taken-ends (Some x) (Some y) (Some z) (Some batch) so p t =
      let is : read_of batch ≡ record { before = o.lines; last = k.lines; text = longer; ended = true } =
      some-read (read_of batch) (record { before = o.lines; last = k.lines; text = longer; ended = true }) so in
      let lines_is : k.lines ≡ counted (m.lines + 1) = ap (λ (v : InputView). v.lines) t.adds.0 ∙ ap (λ (n : ℕ). counted (n + 1)) t.lines in
      let held_is : k.held ≡ t.mid.held = ap (λ (v : InputView). v.held) t.adds.0 in
      taken-go o.lines m.lines (o.held.bytes ++ x) (m.held.bytes ++ y) (t.mid.held.bytes ++ z) t.line text longer p t.adds.2 t.adds.1 t.gives
      ∙ ap (λ (n : ℕ). record { before = o.lines; last = n; text = text; ended = true } ∷ batches_of n (t.mid.held.bytes ++ z)) (sym lines_is)
      ∙ ap (λ (u : List ℕ). record { before = o.lines; last = k.lines; text = u; ended = true } ∷ batches_of k.lines (t.mid.held.bytes ++ z)) (sym t.adds.3)
      ∙ ap (λ (v : HeldView). record { before = o.lines; last = k.lines; text = longer; ended = true } ∷ batches_of k.lines (v.bytes ++ z)) (sym held_is)
      ∙ ap (λ (r : Read). r ∷ batches_of k.lines (k.held.bytes ++ z)) (sym is)

  -- the end of the input
  pub taken-last : (a b c : Option (List ℕ)) (result : Option Batch) → option_map read_of result ≡ batch_of false o.lines k.lines longer → TakenSo a b o m text
      → TakesLine b c m k text longer takes.End → Gives a c o k result
  taken-last None b c result so p t = tt
  taken-last (Some x) None c result so p t = absurd p
  taken-last (Some x) (Some y) None result so p t = absurd t.gives
  taken-last (Some x) (Some y) (Some z) result so p t =
      let r = taken-rest o.lines m.lines (o.held.bytes ++ x) (m.held.bytes ++ y) (t.mid.held.bytes ++ z) t.line text longer p t.adds.1 t.gives in
      let lines_is : k.lines ≡ m.lines = ap (λ (v : InputView). v.lines) t.adds.0 ∙ t.lines in
      rest-next o.lines k.lines longer o k x z result
      (r.0
      ∙ ap (λ (n : ℕ). if is_idle text then [] else record { before = o.lines; last = n; text = text; ended = false } ∷ []) (sym lines_is)
      ∙ ap (λ (u : List ℕ). if is_idle u then [] else record { before = o.lines; last = k.lines; text = u; ended = false } ∷ []) (sym t.adds.2))
      (ap (λ (v : InputView). v.held.bytes ++ z) t.adds.0 ∙ r.1) so

  -- less may be taken once there was a line
  less-by : (a b : Option (List ℕ)) (taken : Taken) → work_left m.held ≤ work_left o.held → (t : TakesLine a b m k text longer taken) → k ≡ adds_line t.mid → t.line ≢ []
      → work_left k.held < work_left o.held
  less-by a b taken never t is some =
      let held_is : work_left k.held ≡ work_left t.mid.held = ap (λ (v : InputView). work_left v.held) is in
      let less = t.used.some some in
      omega (arith, held_is, less, never)

  pub used-line : (a b : Option (List ℕ)) → IsUsed o.held m.held text → TakesLine a b m k text longer takes.Line → IsUsed o.held k.held longer
  used-line a b used t = let less = less-by a b takes.Line used.never t t.adds.0 t.adds.1 in record { never = omega (arith, less); some = λ some. less }

  pub took-go : (a b c : Option (List ℕ)) → TakenSo a b o m text → IsUsed o.held m.held text → length longer ≤ 1048577 → TakesLine b c m k text longer takes.Go
      → TookLines a c o k longer true
  took-go a b c p used kept t =
      let less = less-by b c takes.Go used.never t t.adds.0 t.adds.1 in
      record {
        gives = λ result so. taken-ends a b c result so p t;
        kept = kept;
        counted_is = counted-next k t.mid t.adds.0;
        used = record { never = omega (arith, less); some = λ some. less };
        less = λ e. less;
      }

  pub took-end : (a b c : Option (List ℕ)) → TakenSo a b o m text → IsUsed o.held m.held text → length longer ≤ 1048577 → m.lines ≤ 268435456 → TakesLine b c m k text longer takes.End
      → TookLines a c o k longer false
  took-end a b c p used kept few t =
      let held_is : work_left k.held ≡ work_left t.mid.held = ap (λ (v : InputView). work_left v.held) t.adds.0 in
      let never = t.used.never in
      let before = used.never in
      record {
        gives = λ result so. taken-last a b c result so p t;
        kept = kept;
        counted_is = (let is = ap (λ (v : InputView). v.lines) t.adds.0 in let same = t.lines in omega (arith, is, same, few));
        used = record {
          never = omega (arith, held_is, never, before);
          some = λ some. let less = used.some (λ none. some (t.adds.2 ∙ none)) in omega (arith, held_is, never, less);
        };
        less = λ e. differ (sym e);
      }

-- less is left of the input
pub line-smaller : (a b : Option (List ℕ)) (m k : InputView) (text longer : List ℕ) → TakesLine a b m k text longer takes.Line → work_left k.held < work_left m.held
line-smaller a b m k text longer t = less-by m m k text longer a b takes.Line (omega arith) t t.adds.0 t.adds.1

-- what `next` answers
pub batch-counted : (ended : Bool) (before lines : ℕ) (text : List ℕ) (result : Option Batch) → option_map read_of result ≡ batch_of ended before lines text → before ≤ 268435456
    → lines ≤ 268435456 → IfSome result IsCountedIn
batch-counted true before lines text None so low few = tt
batch-counted true before lines text (Some batch) so low few =
    let is : read_of batch ≡ record { before = before; last = lines; text = text; ended = true } = some-read (read_of batch) (record { before = before; last = lines; text = text; ended = true }) so in
    record {
      before = (let b = ap (λ (r : Read). r.before) is in omega (arith, b, low));
      last = (let l = ap (λ (r : Read). r.last) is in omega (arith, l, few));
    }
batch-counted false before lines text result so low few = rest-counted before lines text result so low few

pub batch-less : (ended : Bool) (before lines : ℕ) (text : List ℕ) (old now : HeldView) (result : Option Batch) → option_map read_of result ≡ batch_of ended before lines text
    → IsUsed old now text → (ended ≡ true → work_left now < work_left old) → IfSome result (λ batch. work_left now < work_left old)
batch-less true before lines text old now None so used less = tt
batch-less true before lines text old now (Some batch) so used less = less refl
batch-less false before lines text old now result so used less = rest-less before lines text old now result so used
