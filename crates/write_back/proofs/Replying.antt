-- What a reply leaves, where its piece is in flight under an xid, and where none is.
use Rattle.std.proofs.Common.{◌≡◌, ◌≤◌, ℕ, ◌-◌, Bool, true, false, List, [], ◌∷◌, length, min, Option, Some, None, Result, Ok, Err, refl, sym, ap, ◌∙◌, subst, arith}
use Rattle.std.specs.Prelude.{IfSome, OnOk, OnErr, nat_eq}
use Rattle.write_back.specs.declared.change.Change.{Change}
use Rattle.write_back.specs.declared.change.Change.TheVariants as by_change
use Rattle.write_back.specs.Segments.{Segments}
use Rattle.write_back.specs.Changes.{changed}
use Rattle.write_back.specs.Pieces.{Sent, FilePending, piece_under, without, end_of_sent, pending_of, flying_of}
use Rattle.write_back.specs.Places.{Lands}
use Rattle.write_back.specs.Landing.{landed, changed_part, landed_part, at_piece, at_xid}
use Rattle.write_back.specs.Effects.{IsAnswer}
use Rattle.write_back.specs.Sound.{IsSound, IsKept}
use Rattle.write_back.proofs.Landings.{lands-one, sound-one, room-one, lands-part, sound-part, room-part, answer-return}
use Rattle.write_back.proofs.Flying.{flying-without}
use Rattle.write_back.proofs.Keeping.{kept-landed, kept-part}
use Rattle.write_back.proofs.Taking.{under-own}

pub none-at : (f : Sent → FilePending → FilePending) (xid : ℕ) (of : FilePending) → piece_under xid of.pieces ≡ None → at_xid f xid of ≡ of
none-at f xid of none = ap (λ o. at_piece f o of) none

pub some-at : (f : Sent → FilePending → FilePending) (xid : ℕ) (of : FilePending) (piece : Sent) → piece_under xid of.pieces ≡ Some piece → at_xid f xid of ≡ f piece of
some-at f xid of piece found = ap (λ o. at_piece f o of) found

own-at : (xid : ℕ) (pieces : List Sent) (piece : Sent) → piece_under xid pieces ≡ Some piece → piece_under piece.xid pieces ≡ Some piece
own-at xid pieces piece found = ap (λ x. piece_under x pieces) (under-own xid pieces piece found) ∙ found

-- the segments and pieces that are left
left-part : (change : Change) (count xid : ℕ) (of : FilePending) (piece : Sent) (es : Segments) (ps : List Sent) → piece_under xid of.pieces ≡ Some piece → es ≡ changed_part change count piece of.segments → ps ≡ without xid of.pieces
    → record { segments = es; pieces = ps } ≡ landed_part change count piece of
left-part change count xid of piece es ps found is left =
    ap (λ z. record { segments = z; pieces = ps }) is ∙ ap (λ z. record { segments = changed_part change count piece of.segments; pieces = z }) (left ∙ ap (λ x. without x of.pieces) (sym (under-own xid of.pieces piece found)))

left-one : (change : Change) (xid : ℕ) (of : FilePending) (piece : Sent) (es : Segments) (ps : List Sent) → piece_under xid of.pieces ≡ Some piece → es ≡ changed change piece.offset (end_of_sent piece) of.segments → ps ≡ without xid of.pieces
    → record { segments = es; pieces = ps } ≡ landed change piece of
left-one change xid of piece es ps found is left =
    ap (λ z. record { segments = z; pieces = ps }) is ∙ ap (λ z. record { segments = changed change piece.offset (end_of_sent piece) of.segments; pieces = z }) (left ∙ ap (λ x. without x of.pieces) (sym (under-own xid of.pieces piece found)))

pub part-at : (change : Change) (count xid : ℕ) (of : FilePending) (piece : Sent) (es : Segments) (ps : List Sent) → piece_under xid of.pieces ≡ Some piece → es ≡ changed_part change count piece of.segments → ps ≡ without xid of.pieces
    → record { segments = es; pieces = ps } ≡ at_xid (landed_part change count) xid of
part-at change count xid of piece es ps found is left = left-part change count xid of piece es ps found is left ∙ sym (some-at (landed_part change count) xid of piece found)

pub one-at : (change : Change) (xid : ℕ) (of : FilePending) (piece : Sent) (es : Segments) (ps : List Sent) → piece_under xid of.pieces ≡ Some piece → es ≡ changed change piece.offset (end_of_sent piece) of.segments → ps ≡ without xid of.pieces
    → record { segments = es; pieces = ps } ≡ at_xid (landed change) xid of
one-at change xid of piece es ps found is left = left-one change xid of piece es ps found is left ∙ sym (some-at (landed change) xid of piece found)

pub kept-part-at : (change : Change) (count xid : ℕ) (of : FilePending) (piece : Sent) (es : Segments) (ps : List Sent) (flying resume : ℕ) → IsAnswer change → piece_under xid of.pieces ≡ Some piece → es ≡ changed_part change count piece of.segments → ps ≡ without xid of.pieces
    → IsKept of flying resume → IsKept (record { segments = es; pieces = ps }) (flying - length piece.bytes) (min resume piece.offset)
kept-part-at change count xid of piece es ps flying resume answer found is left kept =
    subst (λ z. IsKept z (flying - length piece.bytes) (min resume piece.offset)) (sym (left-part change count xid of piece es ps found is left)) (kept-part change count piece of flying resume answer (own-at xid of.pieces piece found) kept)

pub kept-one-at : (change : Change) (xid : ℕ) (of : FilePending) (piece : Sent) (es : Segments) (ps : List Sent) (flying resume : ℕ) → IsAnswer change → piece_under xid of.pieces ≡ Some piece → es ≡ changed change piece.offset (end_of_sent piece) of.segments → ps ≡ without xid of.pieces
    → IsKept of flying resume → IsKept (record { segments = es; pieces = ps }) (flying - length piece.bytes) (min resume piece.offset)
kept-one-at change xid of piece es ps flying resume answer found is left kept =
    subst (λ z. IsKept z (flying - length piece.bytes) (min resume piece.offset)) (sym (left-one change xid of piece es ps found is left)) (kept-landed change piece of flying resume answer (own-at xid of.pieces piece found) kept)

-- the same of what is pending of a file, whether there is such a piece or not
pub lands-part-at : (change : Change) (count xid : ℕ) (of new : FilePending) → IsAnswer change → IsSound of → new ≡ at_xid (landed_part change count) xid of
    → IfSome (piece_under xid of.pieces) (λ piece. Lands piece count change by_change.Return of new)
lands-part-at change count xid of new answer sound is = by (piece_under xid of.pieces) refl
  where
    by : (o : Option Sent) → piece_under xid of.pieces ≡ o → IfSome o (λ piece. Lands piece count change by_change.Return of new)
    by None h = tt
    by (Some piece) h = subst (λ z. Lands piece count change by_change.Return of z) (sym (is ∙ some-at (landed_part change count) xid of piece h)) (lands-part change answer piece count of sound (own-at xid of.pieces piece h))

pub lands-one-at : (change : Change) (xid : ℕ) (of new : FilePending) → IsAnswer change → IsSound of → new ≡ at_xid (landed change) xid of → IfSome (piece_under xid of.pieces) (λ piece. Lands piece 0 change change of new)
lands-one-at change xid of new answer sound is = by (piece_under xid of.pieces) refl
  where
    by : (o : Option Sent) → piece_under xid of.pieces ≡ o → IfSome o (λ piece. Lands piece 0 change change of new)
    by None h = tt
    by (Some piece) h = subst (λ z. Lands piece 0 change change of z) (sym (is ∙ some-at (landed change) xid of piece h)) (lands-one change answer piece 0 of sound (own-at xid of.pieces piece h))

-- they are sound, and no more
abbrev pub IsLess : FilePending → FilePending → Type 0
IsLess of new = IsSound new × (pending_of new ≤ pending_of of)

pub less-part : (change : Change) (count xid : ℕ) (of : FilePending) → IsAnswer change → IsSound of → IsLess of (at_xid (landed_part change count) xid of)
less-part change count xid of answer sound = by (piece_under xid of.pieces) refl
  where
    by : (o : Option Sent) → piece_under xid of.pieces ≡ o → IsLess of (at_xid (landed_part change count) xid of)
    by None h = rw (none-at (landed_part change count) xid of h) (sound, omega arith)
    by (Some piece) h = rw (some-at (landed_part change count) xid of piece h) (sound-part change answer piece count of sound (own-at xid of.pieces piece h), room-part change answer piece count of sound (own-at xid of.pieces piece h))

pub less-one : (change : Change) (xid : ℕ) (of : FilePending) → IsAnswer change → IsSound of → IsLess of (at_xid (landed change) xid of)
less-one change xid of answer sound = by (piece_under xid of.pieces) refl
  where
    by : (o : Option Sent) → piece_under xid of.pieces ≡ o → IsLess of (at_xid (landed change) xid of)
    by None h = rw (none-at (landed change) xid of h) (sound, omega arith)
    by (Some piece) h = rw (some-at (landed change) xid of piece h) (sound-one change answer piece of sound (own-at xid of.pieces piece h), room-one change answer piece of sound (own-at xid of.pieces piece h))

-- one of two, as a result tells
pub either : {A E : Type 0} (r : Result A E) (P : FilePending → Type 0) (new ok err : FilePending) → OnOk r (new ≡ ok) → OnErr r (new ≡ err) → P ok → P err → P new
either (Ok x) P new ok err a b p q = subst P (sym a) p
either (Err e) P new ok err a b p q = subst P (sym b) q

-- where no piece is found the pieces stay
pub without-none : (xid : ℕ) (pieces : List Sent) → piece_under xid pieces ≡ None → without xid pieces ≡ pieces
without-none xid [] none = refl
without-none xid (p ∷ pieces) none = by (nat_eq p.xid xid) refl (without-none xid pieces)
  where
    by : (b : Bool) → nat_eq p.xid xid ≡ b → (piece_under xid pieces ≡ None → without xid pieces ≡ pieces) → without xid (p ∷ pieces) ≡ p ∷ pieces
    by true h more = let k : Some p ≡ None = (rw h at none) in absurd cc
    by false h more = let k : piece_under xid pieces ≡ None = (rw h at none) in rw h (ap (λ z. p ∷ z) (more k))

pub same-none : (f : Sent → FilePending → FilePending) (xid : ℕ) (of : FilePending) (ps : List Sent) → None ≡ piece_under xid of.pieces → ps ≡ without xid of.pieces → record { segments = of.segments; pieces = ps } ≡ at_xid f xid of
same-none f xid of ps none left = ap (λ z. record { segments = of.segments; pieces = z }) (left ∙ without-none xid of.pieces (sym none)) ∙ sym (none-at f xid of (sym none))

pub kept-none : (xid : ℕ) (of : FilePending) (ps : List Sent) (flying resume : ℕ) → None ≡ piece_under xid of.pieces → ps ≡ without xid of.pieces → IsKept of flying resume → IsKept (record { segments = of.segments; pieces = ps }) flying resume
kept-none xid of ps flying resume none left kept = subst (λ z. IsKept (record { segments = of.segments; pieces = z }) flying resume) (sym (left ∙ without-none xid of.pieces (sym none))) kept

-- a piece has some of the bytes that are in flight
pub flying-covers : (xid flying : ℕ) (pieces : List Sent) (piece : Sent) → piece_under xid pieces ≡ Some piece → flying ≡ flying_of pieces → length piece.bytes ≤ flying
flying-covers xid flying pieces piece found is = omega (arith, is, flying-without xid pieces piece found)

-- its first bytes are changed, or all are as before
pub kept-landing : {A E : Type 0} (r : Result A E) (change : Change) (count xid : ℕ) (of : FilePending) (piece : Sent) (es : Segments) (ps : List Sent) (flying resume : ℕ) → IsAnswer change → piece_under xid of.pieces ≡ Some piece
    → OnOk r (es ≡ changed_part change count piece of.segments) → OnErr r (es ≡ changed by_change.Return piece.offset (end_of_sent piece) of.segments) → ps ≡ without xid of.pieces
    → IsKept of flying resume → IsKept (record { segments = es; pieces = ps }) (flying - length piece.bytes) (min resume piece.offset)
kept-landing (Ok x) change count xid of piece es ps flying resume answer found ok err left kept = kept-part-at change count xid of piece es ps flying resume answer found ok left kept
kept-landing (Err e) change count xid of piece es ps flying resume answer found ok err left kept = kept-one-at by_change.Return xid of piece es ps flying resume answer-return found err left kept

pub part-ok : {A E : Type 0} (r : Result A E) (change : Change) (count xid : ℕ) (of : FilePending) (piece : Sent) (es : Segments) (ps : List Sent) → piece_under xid of.pieces ≡ Some piece → OnOk r (es ≡ changed_part change count piece of.segments) → ps ≡ without xid of.pieces
    → OnOk r (record { segments = es; pieces = ps } ≡ at_xid (landed_part change count) xid of)
part-ok (Ok x) change count xid of piece es ps found ok left = part-at change count xid of piece es ps found ok left
part-ok (Err e) change count xid of piece es ps found ok left = tt

pub part-err : {A E : Type 0} (r : Result A E) (xid : ℕ) (of : FilePending) (piece : Sent) (es : Segments) (ps : List Sent) → piece_under xid of.pieces ≡ Some piece → OnErr r (es ≡ changed by_change.Return piece.offset (end_of_sent piece) of.segments) → ps ≡ without xid of.pieces
    → OnErr r (record { segments = es; pieces = ps } ≡ at_xid (landed by_change.Return) xid of)
part-err (Ok x) xid of piece es ps found err left = tt
part-err (Err e) xid of piece es ps found err left = one-at by_change.Return xid of piece es ps found err left
