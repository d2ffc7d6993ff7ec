-- Batches that were answered one after another, and further ones behind them.
use Rattle.std.proofs.Common.{◌≡◌, ◌+◌, ℕ, suc, List, [], ◌∷◌, ◌++◌, length, map, max, Bool, Option, Some, None, refl, sym, ap, subst, ◌∙◌, append-nil, append_assoc, arith}
use Rattle.world_model.specs.declared.entry.Entry.{Entry}
use Rattle.nfs_script.specs.declared.script.ScriptLine.{ScriptLine}
use Rattle.script_batches.specs.Batches.{Read}
use Rattle.batch_runs.specs.Parts.{ArePartsFrom, Part, RefusedFrom, entries_in, lines_in, refused_part, text_in, worst_in}
use Rattle.batch_runs.specs.Reading.{Takes}

pub lines-append : (ps qs : List Part) → lines_in (ps ++ qs) ≡ lines_in ps ++ lines_in qs
lines-append [] qs = refl
lines-append (p ∷ ps) qs = ap (λ (t : List ScriptLine). p.lines ++ t) (lines-append ps qs) ∙ sym (append_assoc p.lines (lines_in ps) (lines_in qs))

pub entries-append : (ps qs : List Part) → entries_in (ps ++ qs) ≡ entries_in ps ++ entries_in qs
entries-append [] qs = refl
entries-append (p ∷ ps) qs = ap (λ (t : List Entry). p.entries ++ t) (entries-append ps qs) ∙ sym (append_assoc p.entries (entries_in ps) (entries_in qs))

pub text-append : (ps qs : List Part) → text_in (ps ++ qs) ≡ text_in ps ++ text_in qs
text-append [] qs = refl
text-append (p ∷ ps) qs = ap (λ (t : List ℕ). p.text ++ t) (text-append ps qs) ∙ sym (append_assoc p.text (text_in ps) (text_in qs))

max-assoc : (a b c : ℕ) → max a (max b c) ≡ max (max a b) c
max-assoc a b c = omega arith

pub worst-append : (ps qs : List Part) → worst_in (ps ++ qs) ≡ max (worst_in ps) (worst_in qs)
worst-append [] qs = omega arith
worst-append (p ∷ ps) qs = ap (max p.status) (worst-append ps qs) ∙ max-assoc p.status (worst_in ps) (worst_in qs)

pub reads-append : (ps qs : List Part) → map (λ (p : Part). p.read) (ps ++ qs) ≡ map (λ (p : Part). p.read) ps ++ map (λ (p : Part). p.read) qs
reads-append [] qs = refl
reads-append (p ∷ ps) qs = ap (λ (t : List Read). p.read ∷ t) (reads-append ps qs)

pub length-append : (ps qs : List Part) → length (ps ++ qs) ≡ length ps + length qs
length-append [] qs = omega arith
length-append (p ∷ ps) qs = let r = length-append ps qs in omega (arith, r)

-- further batches behind those that were answered
pub parts-append : (count : Bool) (n m : ℕ) (h : List Entry) (done : List ScriptLine) (ps qs : List Part) → m ≡ n + length ps → ArePartsFrom count n h done ps
    → ArePartsFrom count m (h ++ entries_in ps) (done ++ lines_in ps) qs → ArePartsFrom count n h done (ps ++ qs)
parts-append count n m h done [] qs is are more =
    let same : m ≡ n = omega (arith, is) in
    subst (λ (k : ℕ). ArePartsFrom count k h done qs) same
    (subst (λ (t : List Entry). ArePartsFrom count m t done qs) (append-nil h) (subst (λ (t : List ScriptLine). ArePartsFrom count m (h ++ []) t qs) (append-nil done) more))
parts-append count n m h done (p ∷ ps) qs is are more = (
  are.0,
  parts-append count (suc n) m (h ++ p.entries) (done ++ p.lines) ps qs (omega (arith, is)) are.1
      (subst (λ (t : List Entry). ArePartsFrom count m t ((done ++ p.lines) ++ lines_in ps) qs) (sym (append_assoc h p.entries (entries_in ps)))
      (subst (λ (t : List ScriptLine). ArePartsFrom count m (h ++ (p.entries ++ entries_in ps)) t qs) (sym (append_assoc done p.lines (lines_in ps))) more)),
)

-- ---- batches that were refused

pub refused-are : (count : Bool) (n : ℕ) (h : List Entry) (done : List ScriptLine) (ps : List Part) → RefusedFrom n ps → ArePartsFrom count n h done ps
refused-are count n h done [] r = tt
refused-are count n h done (p ∷ ps) r = (refused_part r.0, refused-are count (suc n) (h ++ p.entries) (done ++ p.lines) ps r.1)

pub refused-lines : (n : ℕ) (ps : List Part) → RefusedFrom n ps → lines_in ps ≡ []
refused-lines n [] r = refl
refused-lines n (p ∷ ps) r = ap (λ (t : List ScriptLine). t ++ lines_in ps) r.0.lines ∙ refused-lines (suc n) ps r.1

pub refused-entries : (n : ℕ) (ps : List Part) → RefusedFrom n ps → entries_in ps ≡ []
refused-entries n [] r = refl
refused-entries n (p ∷ ps) r = ap (λ (t : List Entry). t ++ entries_in ps) r.0.entries ∙ refused-entries (suc n) ps r.1

-- ---- what is read of the input

pub takes-none : (a : Option (List Read)) → Takes a a []
takes-none None = tt
takes-none (Some xs) = refl

pub takes-more : (a b c : Option (List Read)) (xs ys : List Read) → Takes a b xs → Takes b c ys → Takes a c (xs ++ ys)
takes-more None b c xs ys p q = tt
takes-more (Some x) None c xs ys p q = absurd p
takes-more (Some x) (Some y) None xs ys p q = absurd q
takes-more (Some x) (Some y) (Some z) xs ys p q = p ∙ ap (λ (t : List Read). xs ++ t) q ∙ sym (append_assoc xs ys z)
