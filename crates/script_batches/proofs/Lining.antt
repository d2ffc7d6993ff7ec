-- A line that is taken piece by piece, and of which a front is kept.
use Rattle.std.proofs.Common.{◌≡◌, inl, inr, ℕ, List, [], ◌∷◌, ◌++◌, take, Bool, true, false, Option, Some, None, refl, sym, ap, ◌∙◌, append-nil, append_assoc, arith}
use Rattle.script_batches.specs.Batches.{HeldView, kept_bytes, raw_lines}
use Rattle.script_batches.specs.Taking.{GivesLine, Goes, HasNoFeed, IsUsed, LineGoes, LineOf, UsesUp, input_ends, no_line, piece_last, piece_more, some_line}
use Rattle.script_batches.proofs.Kept.{take-again, take-nil}
use Rattle.script_batches.proofs.RawLines.{no-feed-append, raw-first, raw-open}

differ : {A : Type 0} → true ≡ false → A
differ e = absurd cc

-- the line so far, of an input: it has no feed, and a front of it is kept
pub record IsOpen (input left line : List ℕ) : Type 0 where
  pub whole : List ℕ
  pub bare : HasNoFeed whole
  pub is : input ≡ whole ++ left
  pub kept : line ≡ take kept_bytes whole

-- the same of a source that may tell what is left
abbrev pub OpenSo : Option (List ℕ) → Option (List ℕ) → HeldView → HeldView → List ℕ → Type 0
OpenSo None rest old now line = Unit {0}
OpenSo (Some left) None old now line = ⊥
OpenSo (Some left) (Some rest) old now line = IsOpen (old.bytes ++ left) (now.bytes ++ rest) line

pub open-none : (left : Option (List ℕ)) (held : HeldView) → OpenSo left left held held []
open-none None held = tt
open-none (Some left) held = record { whole = []; bare = tt; is = refl; kept = sym (take-nil kept_bytes) }

kept-more : (input mid line longer piece : List ℕ) (o : IsOpen input mid line) → longer ≡ take kept_bytes (line ++ piece) → longer ≡ take kept_bytes (o.whole ++ piece)
kept-more input mid line longer piece o longer_is = longer_is ∙ ap (λ (t : List ℕ). take kept_bytes (t ++ piece)) o.kept ∙ take-again kept_bytes o.whole piece

input-is : (input mid rest line piece : List ℕ) (o : IsOpen input mid line) → mid ≡ piece ++ rest → input ≡ o.whole ++ (piece ++ rest)
input-is input mid rest line piece o is = o.is ∙ ap (λ (t : List ℕ). o.whole ++ t) is

line-more : (input mid rest line longer : List ℕ) (ended : Bool) → ended ≡ false → IsOpen input mid line → LineGoes mid rest line longer ended → IsOpen input rest longer
line-more input mid rest line longer ended f o (piece_more e piece is bare longer_is) = record {
  whole = o.whole ++ piece;
  bare = no-feed-append o.whole piece o.bare bare;
  is = input-is input mid rest line piece o is ∙ sym (append_assoc o.whole piece rest);
  kept = kept-more input mid line longer piece o longer_is;
}
line-more input mid rest line longer ended f o (piece_last e piece is ends longer_is) = differ (sym e ∙ f)
line-more input mid rest line longer ended f o (input_ends e is gone same) = differ (sym e ∙ f)

-- bytes and one more
as-some : (xs : List ℕ) (y : ℕ) → (b : ℕ) × ((bytes : List ℕ) × (xs ++ y ∷ [] ≡ b ∷ bytes))
as-some [] y = (y, ([], refl))
as-some (x ∷ xs) y = (x, (xs ++ y ∷ [], refl))

-- the input ends within the line, or before it
open-ends : (input line whole : List ℕ) → HasNoFeed whole → input ≡ whole → line ≡ take kept_bytes whole → LineOf input [] line
open-ends input line [] bare is kept = no_line is refl (kept ∙ take-nil kept_bytes)
open-ends input line (b ∷ bytes) bare is kept = some_line b bytes (ap raw_lines is ∙ raw-open b bytes bare) kept

rest-ends : (input rest line : List ℕ) → rest ≡ [] → LineOf input [] line → LineOf input rest line
rest-ends input [] line gone l = l
rest-ends input (b ∷ bytes) line gone l = absurd cc

line-ends : (input mid rest line longer : List ℕ) (ended : Bool) → ended ≡ true → IsOpen input mid line → LineGoes mid rest line longer ended → LineOf input rest longer
line-ends input mid rest line longer ended t o (piece_more e piece is bare longer_is) = differ (sym t ∙ e)
line-ends input mid rest line longer ended t o (piece_last e piece is ends longer_is) =
    let front : List ℕ = o.whole ++ ends.front in
    let some = as-some front 10 in
    let whole_is : o.whole ++ piece ≡ front ++ 10 ∷ [] = ap (λ (x : List ℕ). o.whole ++ x) ends.is ∙ sym (append_assoc o.whole ends.front (10 ∷ [])) in
    let input_is : input ≡ front ++ 10 ∷ rest =
    input-is input mid rest line piece o is
    ∙ sym (append_assoc o.whole piece rest)
    ∙ ap (λ (x : List ℕ). x ++ rest) whole_is
    ∙ append_assoc front (10 ∷ []) rest in
    some_line some.0 some.1.0
    (ap raw_lines input_is ∙ raw-first front rest (no-feed-append o.whole ends.front o.bare ends.before) ∙ ap (λ (x : List ℕ). x ∷ raw_lines rest) some.1.1)
    (kept-more input mid line longer piece o longer_is ∙ ap (take kept_bytes) (whole_is ∙ some.1.1))
line-ends input mid rest line longer ended t o (input_ends e is gone same) =
    rest-ends input rest longer gone (open-ends input longer o.whole o.bare (o.is ∙ ap (λ (x : List ℕ). o.whole ++ x) is ∙ append-nil o.whole) (same ∙ o.kept))

module _ (a b c : Option (List ℕ)) (o m n : HeldView) (line longer : List ℕ) (ended : Bool) where
  pub open-more : ended ≡ false → OpenSo a b o m line → Goes b c m n line longer ended → OpenSo a c o n longer
  open-more f p q = by a b c p q
    where
      by : (a b c : Option (List ℕ)) → OpenSo a b o m line → Goes b c m n line longer ended → OpenSo a c o n longer
      by None b c p q = tt
      by (Some x) None c p q = absurd p
      by (Some x) (Some y) None p q = absurd q
      by (Some x) (Some y) (Some z) p q = line-more (o.bytes ++ x) (m.bytes ++ y) (n.bytes ++ z) line longer ended f p q

  pub open-last : ended ≡ true → OpenSo a b o m line → Goes b c m n line longer ended → GivesLine a c o n longer
  open-last t p q = by a b c p q
    where
      by : (a b c : Option (List ℕ)) → OpenSo a b o m line → Goes b c m n line longer ended → GivesLine a c o n longer
      by None b c p q = tt
      by (Some x) None c p q = absurd p
      by (Some x) (Some y) None p q = absurd q
      by (Some x) (Some y) (Some z) p q = line-ends (o.bytes ++ x) (m.bytes ++ y) (n.bytes ++ z) line longer ended t p q

-- ---- how much may still be taken

pub used-none : (held : HeldView) → IsUsed held held []
used-none held = record { never = omega arith; some = λ some. absurd (some refl) }

pub used-more : (o m n : HeldView) (line longer : List ℕ) (ended : Bool) → IsUsed o m line → UsesUp m n line longer ended → IsUsed o n longer
used-more o m n line longer ended p u = record {
  never = let a = p.never in let b = u.never in omega (arith, a, b);
  some = λ some. elim u.same [
    | inl same ↦ let a = p.some (λ none. some (same ∙ none)) in let b = u.never in omega (arith, a, b)
    | inr less ↦ let a = p.never in omega (arith, a, less)
  ];
}
