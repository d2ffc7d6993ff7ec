-- From one line of a schedule of two clients to the next.
use Rattle.std.proofs.Common.{◌≡◌, ◌+◌, ℕ, suc, List, [], ◌∷◌, length, Bool, true, false, Option, Some, None, Result, Ok, Err, IfOk, refl, sym, ap, subst, ◌∙◌, add-one, arith}
use Rattle.std.specs.Option.{option_map, option_map_or}
use Rattle.script_text.specs.Lines.{lines, words}
use Rattle.world_link.specs.Orders.{PairReadView, after_order, after_pair_line, after_pair_lines, order_in, PairReads}
use Rattle.world_link.specs.Readings.{ReadView, after_line, Reads}

refused : (o : Option PairReadView) (next : PairReadView → Result PairReadView ℕ) (n : ℕ) (formed : Bool) (new : PairReadView) → PairReads o formed new → formed ≡ false → option_map_or next o (Err (suc n)) ≡ Err (n + 1)
refused None next n formed new h e = rw add-one refl
refused (Some read) next n formed new h e = let t = h.0 in absurd (cc (t, e))

taken : (o : Option PairReadView) (n : ℕ) (formed : Bool) (new : PairReadView) (more : List (List ℕ)) → PairReads o formed new → formed ≡ true
    → option_map_or (λ next. after_pair_lines (suc n) next more) o (Err (suc n)) ≡ after_pair_lines (n + 1) new more
taken None n formed new more h e = absurd (cc (h, e))
taken (Some read) n formed new more h e = rw (add-one, h.1) refl

-- a line that isn't of the form is the first fault
pub stops_pair : (n : ℕ) (formed : Bool) (old new : PairReadView) (rest line after : List ℕ) → lines rest ≡ line ∷ lines after → PairReads (after_pair_line old line) formed new → formed ≡ false → after_pair_lines n old (lines rest) ≡ Err (n + 1)
stops_pair n formed old new rest line after e h f = rw e (refused (after_pair_line old line) _ n formed new h f)

-- after a line of the form, the others are read
pub goes_on_pair : (n : ℕ) (formed : Bool) (old new : PairReadView) (rest line after : List ℕ) → lines rest ≡ line ∷ lines after → PairReads (after_pair_line old line) formed new → formed ≡ true
    → after_pair_lines n old (lines rest) ≡ after_pair_lines (n + 1) new (lines after)
goes_on_pair n formed old new rest line after e h f = rw e (taken (after_pair_line old line) n formed new (lines after) h f)

-- with no line left all is read
pub ends_pair : (n : ℕ) (read : PairReadView) (rest : List ℕ) → length rest ≡ 0 → after_pair_lines n read (lines rest) ≡ Ok read
unfolding lines
ends_pair n read [] e = refl
ends_pair n read (b ∷ rest) e = absurd (omega (arith, e))

-- ---- a line that gives no order

pub none_of : {A B : Type 0} (f : A → B) (o : Option A) (x : Option B) → option_map f o ≡ x → o ≡ None → x ≡ None
none_of f o x is none = sym is ∙ ap (option_map f) none

other_reads : (p : PairReadView) (o : Option ReadView) (formed : Bool) (new : ReadView) → Reads o formed new → PairReads (option_map (λ (read : ReadView). record p { read = read }) o) formed (record p { read = new })
other_reads p None formed new h = h
other_reads p (Some read) formed new h = (h.0, ap (λ (x : ReadView). record p { read = x }) h.1)

pub reads_other : {E : Type 0} (p : PairReadView) (line : List ℕ) (new : ReadView) (result : Result Bool E) → order_in (words line) ≡ None → IfOk result (λ formed. Reads (after_line p.read line) formed new)
    → IfOk result (λ formed. PairReads (after_pair_line p line) formed (record p { read = new }))
reads_other p line new (Err e) none h = tt
reads_other p line new (Ok formed) none h =
    subst (λ (o : Option (List ℕ)). PairReads (after_order p line o) formed (record p { read = new })) (sym none) (other_reads p (after_line p.read line) formed new h)
