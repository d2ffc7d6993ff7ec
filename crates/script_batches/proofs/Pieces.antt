-- Pieces that are read, held and taken.
use Rattle.std.proofs.Common.{◌≡◌, ◌≢◌, ◌≤◌, ◌<◌, ◌+◌, inl, inr, ℕ, zero, suc, List, [], ◌∷◌, ◌++◌, length, take, drop, position, Bool, true, false, nat_eq, nat_lt, Option, Some, None, Ok, refl, sym, ap, subst, ◌∙◌, append-nil, append_assoc, arith}
use Rattle.std.proofs.lemmas.Bool.{cases_lt, eq-eqb, ltb-true, ltb-false, ne_eqb}
use Rattle.std.proofs.lemmas.List.{drop-drop, length-append, take-append-drop}
use Rattle.outside.specs.Source.{TakesFrom}
use Rattle.script_text.specs.Lines.{is_feed}
use Rattle.script_batches.specs.Batches.{HeldView, kept_bytes, work_left}
use Rattle.script_batches.specs.Taking.{EndsLine, Fills, Goes, HoldsSome, LineGoes, Reads, ReadsPiece, TakesPiece, UsesUp, input_ends, is_none_left, piece_last, piece_more}
use Rattle.script_batches.proofs.Kept.{kept-is, take-few}
use Rattle.script_batches.proofs.RawLines.{feed-at, no-feed}

differ : {A : Type 0} → true ≡ false → A
differ e = absurd cc

some-bytes : (bytes : List ℕ) (n : ℕ) → length bytes ≡ n → 0 < n → bytes ≢ []
some-bytes [] n is lt none = omega (arith, is, lt)
some-bytes (b ∷ bytes) n is lt none = absurd cc

no-bytes : (bytes : List ℕ) → length bytes ≡ 0 → bytes ≡ []
no-bytes [] is = refl
no-bytes (b ∷ bytes) is = absurd (omega (arith, is))

is-long : (bytes : List ℕ) → bytes ≢ [] → 1 ≤ length bytes
is-long [] some = absurd (some refl)
is-long (b ∷ bytes) some = omega arith

-- ---- holding

-- none is behind all of them
pub drop-all : (items : List ℕ) (n : ℕ) → n ≡ length items → drop n items ≡ []
drop-all [] zero is = refl
drop-all [] (suc n) is = refl
drop-all (b ∷ items) zero is = absurd (omega (arith, is))
drop-all (b ∷ items) (suc n) is = drop-all items n (omega (arith, is))

some-behind : (items : List ℕ) (at : ℕ) → at < length items → is_none_left (drop at items) ≡ false
some-behind [] at lt = absurd (omega (arith, lt))
some-behind (b ∷ items) zero lt = refl
some-behind (b ∷ items) (suc at) lt = some-behind items at (omega (arith, lt))

-- nothing is left behind the last one
pub none-behind : (items : List ℕ) (at n : ℕ) → at ≤ length items → n ≡ length items → nat_eq at n ≡ is_none_left (drop at items)
none-behind items at n le is = elim (cases_lt at n) [
  | inl before ↦ ne_eqb at n (λ same. absurd (omega (arith, before, same))) ∙ sym (some-behind items at (omega (arith, before, is)))
  | inr behind ↦
      eq-eqb at n (omega (arith, behind, le, is))
      ∙ sym (ap is_none_left (drop-all items at (omega (arith, behind, le, is))))
]

-- ---- reading

pub reads-of : (a b : Option (List ℕ)) (buf : List ℕ) (n : ℕ) → TakesFrom a b buf (Ok n) → Reads a b (take n buf) n
reads-of None b buf n t = tt
reads-of (Some left) None buf n t = t
reads-of (Some left) (Some rest) buf n t = record { is = t.is; ends = t.ends }

-- ---- filling

pub holds-still : (held : HeldView) → is_none_left held.bytes ≡ false → HoldsSome held held true
holds-still held e = record { some = λ t. some held.bytes e; none = λ f. differ f; less = omega arith }
  where
    some : (bytes : List ℕ) → is_none_left bytes ≡ false → bytes ≢ []
    some [] e none = differ e
    some (b ∷ bytes) e none = absurd cc

pub fills-still : (left : Option (List ℕ)) (held : List ℕ) → Fills left left held held true
fills-still None held = tt
fills-still (Some left) held = record { is = refl; none = λ f. differ f }

none-left : (bytes : List ℕ) → is_none_left bytes ≡ true → bytes ≡ []
none-left [] e = refl
none-left (b ∷ bytes) e = differ (sym e)

pub holds-read : (old new : HeldView) (n : ℕ) → is_none_left old.bytes ≡ true → ReadsPiece old new n → HoldsSome old new (nat_lt 0 n)
holds-read old new n e r = record {
  some = λ t. some-bytes new.bytes n r.long (ltb-true 0 n t);
  none = λ f. no-bytes new.bytes (let none = ltb-false 0 n f in let long = r.long in omega (arith, none, long));
  less = let reads = r.reads in let long = r.long in let few = r.few in omega (arith, reads, long, few);
}

pub fills-read : (a b : Option (List ℕ)) (old new : List ℕ) (n : ℕ) → is_none_left old ≡ true → Reads a b new n → Fills a b old new (nat_lt 0 n)
fills-read None b old new n e r = tt
fills-read (Some left) None old new n e r = r
fills-read (Some left) (Some rest) old new n e r = record {
  is = ap (λ (t : List ℕ). t ++ left) (none-left old e) ∙ r.is;
  none = λ f. no-bytes rest (
      let none : left ≡ [] = r.ends (let z = ltb-false 0 n f in omega (arith, z)) in
      let both : length (new ++ rest) ≡ 0 = ap length (sym r.is ∙ none) in
      let long = length-append new rest in omega (arith, both, long));
}

-- ---- taking from what is held

-- up to the first line feed
pub takes-feed : (items line longer : List ℕ) (from at : ℕ) → position is_feed (drop from items) ≡ Some at → longer ≡ take kept_bytes (line ++ take (at + 1) (drop from items))
    → TakesPiece (drop from items) (drop (from + (at + 1)) items) line longer true
takes-feed items line longer from at there longer_is = record {
  piece = take (at + 1) (drop from items);
  is = sym (take-append-drop (at + 1) (drop from items)) ∙ ap (λ (t : List ℕ). take (at + 1) (drop from items) ++ t) (drop-drop (at + 1) from items);
  longer_is = longer_is;
  feed = λ t. let next : suc at ≡ at + 1 = omega arith in subst (λ (n : ℕ). EndsLine (take n (drop from items))) next (feed-at (drop from items) at there);
  none = λ f. differ f;
  bare = λ f. differ f;
}

-- all of it
pub takes-all : (items line longer rest : List ℕ) (from : ℕ) → position is_feed (drop from items) ≡ None → longer ≡ take kept_bytes (line ++ drop from items) → rest ≡ []
    → TakesPiece (drop from items) rest line longer false
takes-all items line longer rest from none longer_is gone = record {
  piece = drop from items;
  is = sym (append-nil (drop from items)) ∙ ap (λ (t : List ℕ). drop from items ++ t) (sym gone);
  longer_is = longer_is;
  feed = λ t. differ (sym t);
  none = λ f. gone;
  bare = λ f. no-feed (drop from items) none;
}

-- ---- a piece of a line

line-goes : (input mid now rest line longer : List ℕ) (ends : Bool) → input ≡ mid ++ rest → TakesPiece mid now line longer ends → LineGoes input (now ++ rest) line longer ends
line-goes input mid now rest line longer true is t = piece_last refl t.piece (is ∙ ap (λ (x : List ℕ). x ++ rest) t.is ∙ append_assoc t.piece now rest) (t.feed refl) t.longer_is
line-goes input mid now rest line longer false is t = piece_more refl t.piece (is ∙ ap (λ (x : List ℕ). x ++ rest) t.is ∙ append_assoc t.piece now rest) (t.bare refl) t.longer_is

pub goes-piece : (a b : Option (List ℕ)) (old mid now : HeldView) (line longer : List ℕ) (ends : Bool) → Fills a b old.bytes mid.bytes true → TakesPiece mid.bytes now.bytes line longer ends
    → Goes a b old now line longer ends
goes-piece None b old mid now line longer ends f t = tt
goes-piece (Some left) None old mid now line longer ends f t = f
goes-piece (Some left) (Some rest) old mid now line longer ends f t = line-goes (old.bytes ++ left) mid.bytes now.bytes rest line longer ends f.is t

pub goes-end : (a b : Option (List ℕ)) (old now : HeldView) (line : List ℕ) → Fills a b old.bytes now.bytes false → HoldsSome old now false → Goes a b old now line line true
goes-end None b old now line f h = tt
goes-end (Some left) None old now line f h = f
goes-end (Some left) (Some rest) old now line f h =
    let gone : now.bytes ++ rest ≡ [] = ap (λ (t : List ℕ). t ++ rest) (h.none refl) ∙ f.none refl in
    input_ends refl (f.is ∙ gone) gone refl

-- what is taken is shorter
shorter : (mid now line longer : List ℕ) (ends : Bool) → mid ≢ [] → TakesPiece mid now line longer ends → length now < length mid
shorter mid now line longer true some t =
    let e = t.feed refl in
    let long : length mid ≡ length t.piece + length now = ap length t.is ∙ length-append t.piece now in
    let piece : length t.piece ≡ length e.front + 1 = ap length e.is ∙ length-append e.front (10 ∷ []) in
    omega (arith, long, piece)
shorter mid now line longer false some t =
    let none : length now ≡ 0 = ap length (t.none refl) in
    let long = is-long mid some in
    omega (arith, none, long)

pub uses-piece : (old mid now : HeldView) (line longer : List ℕ) (ends : Bool) → HoldsSome old mid true → now.reads ≡ mid.reads → TakesPiece mid.bytes now.bytes line longer ends
    → UsesUp old now line longer ends
uses-piece old mid now line longer ends h reads t =
    let less : work_left now < work_left old =
    let short = shorter mid.bytes now.bytes line longer ends (h.some refl) t in
    let before = h.less in
    omega (arith, short, before, reads) in
    record { never = omega (arith, less); less = λ f. less; same = inr less }

pub uses-end : (old now : HeldView) (line : List ℕ) → HoldsSome old now false → UsesUp old now line line true
uses-end old now line h = record { never = h.less; less = λ f. differ f; same = inl refl }

-- a front is kept
pub piece-kept : (old new line longer : List ℕ) (ends : Bool) → TakesPiece old new line longer ends → length longer ≤ 1048577
piece-kept old new line longer ends t = let few = take-few kept_bytes (line ++ t.piece) in let is = ap length t.longer_is in let most = kept-is in omega (arith, few, is, most)
