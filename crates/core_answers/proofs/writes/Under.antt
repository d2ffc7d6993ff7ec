-- The piece of a file in flight under an xid, after each change of what is pending.
use Rattle.core_answers.proofs.Prelude.{◌≡◌, ◌≢◌, ◌⊎◌, inl, inr, ℕ, Bool, true, false, nat_eq, List, [], ◌∷◌, ◌++◌, Option, Some, None, refl, sym, ap, subst, ◌∙◌, if◌then◌else◌, eq-eqb, eqb-true, eqb-false, Pending, of_file, OnFile, with_xid, with_sent, Sent, FilePending, nothing, piece_under, renumbered, same-or}
use Rattle.std.proofs.lemmas.Bool.{ne_eqb}
use Rattle.write_back.specs.Files.{with_bytes}
use Rattle.write_back.specs.Landing.{landed, landed_part, at_piece, at_xid}
use Rattle.write_back.specs.Pieces.{without}
use Rattle.write_back.specs.declared.change.Change.{Change}
use Rattle.file_ops.specs.Quiet.{is_quiet, are_none}

some-sent : (a b : Sent) → Some a ≡ Some b → a ≡ b
some-sent a b e = cc

pub under-head : (y : ℕ) (p : Sent) (ps : List Sent) → p.xid ≡ y → piece_under y (p ∷ ps) ≡ Some p
under-head y p ps same = ap (λ (b : Bool). if b then Some p else piece_under y ps) (eq-eqb p.xid y same)

pub under-tail : (y : ℕ) (p : Sent) (ps : List Sent) → p.xid ≢ y → piece_under y (p ∷ ps) ≡ piece_under y ps
under-tail y p ps apart = ap (λ (b : Bool). if b then Some p else piece_under y ps) (ne_eqb p.xid y apart)

-- the piece that is found has the xid
pub under-xid : (y : ℕ) (ps : List Sent) (p : Sent) → piece_under y ps ≡ Some p → p.xid ≡ y
under-xid y [] p is = absurd (let no_way : None ≡ Some p = is in cc)
under-xid y (q ∷ ps) p is = by (nat_eq q.xid y) refl (λ k. under-xid y ps p k)
  where
    by : (b : Bool) → nat_eq q.xid y ≡ b → (piece_under y ps ≡ Some p → p.xid ≡ y) → p.xid ≡ y
    by true d rest =
        let here = eqb-true q.xid y d in subst (λ (s : Sent). s.xid ≡ y) (some-sent q p (sym (under-head y q ps here) ∙ is)) here
    by false d rest = rest (sym (under-tail y q ps (eqb-false q.xid y d)) ∙ is)

abbrev pub as_xid : ℕ → Sent → Sent
as_xid to p = record { xid = to; offset = p.offset; how = p.how; bytes = p.bytes; parts = p.parts }

-- ---- under another xid than that of the change

under-more : (y : ℕ) (ps : List Sent) (piece : Sent) → piece.xid ≢ y → piece_under y (ps ++ piece ∷ []) ≡ piece_under y ps
under-more y [] piece apart = under-tail y piece [] apart
under-more y (p ∷ ps) piece apart = by (nat_eq p.xid y) (under-more y ps piece apart)
  where
    by : (b : Bool) → piece_under y (ps ++ piece ∷ []) ≡ piece_under y ps → (if b then Some p else piece_under y (ps ++ piece ∷ [])) ≡ (if b then Some p else piece_under y ps)
    by true rest = refl
    by false rest = rest

under-without : (y other : ℕ) (ps : List Sent) → other ≢ y → piece_under y (without other ps) ≡ piece_under y ps
under-without y other [] apart = refl
under-without y other (p ∷ ps) apart = by (nat_eq p.xid other) refl (under-without y other ps apart)
  where
    by : (b : Bool) → nat_eq p.xid other ≡ b → piece_under y (without other ps) ≡ piece_under y ps
        → piece_under y (if b then ps else p ∷ without other ps) ≡ piece_under y (p ∷ ps)
    by true d rest = sym (under-tail y p ps (λ same. apart (sym (eqb-true p.xid other d) ∙ same)))
    by false d rest = step (nat_eq p.xid y) rest
      where
        step : (b : Bool) → piece_under y (without other ps) ≡ piece_under y ps → (if b then Some p else piece_under y (without other ps)) ≡ (if b then Some p else piece_under y ps)
        step true rest = refl
        step false rest = rest

under-renumbered : (y asked to : ℕ) (ps : List Sent) → asked ≢ y → to ≢ y → piece_under y (renumbered asked to ps) ≡ piece_under y ps
under-renumbered y asked to [] apart other = refl
under-renumbered y asked to (p ∷ ps) apart other = by (nat_eq p.xid asked) refl (under-renumbered y asked to ps apart other)
  where
    by : (b : Bool) → nat_eq p.xid asked ≡ b → piece_under y (renumbered asked to ps) ≡ piece_under y ps
        → piece_under y (if b then as_xid to p ∷ ps else p ∷ renumbered asked to ps) ≡ piece_under y (p ∷ ps)
    by true d rest = under-tail y (as_xid to p) ps other ∙ sym (under-tail y p ps (λ same. apart (sym (eqb-true p.xid asked d) ∙ same)))
    by false d rest = step (nat_eq p.xid y) rest
      where
        step : (b : Bool) → piece_under y (renumbered asked to ps) ≡ piece_under y ps → (if b then Some p else piece_under y (renumbered asked to ps)) ≡ (if b then Some p else piece_under y ps)
        step true rest = refl
        step false rest = rest

out-under : (f : Sent → FilePending → FilePending) → ((p : Sent) (of : FilePending) → (f p of).pieces ≡ without p.xid of.pieces) → (y asked : ℕ) (of : FilePending) → asked ≢ y
    → piece_under y (at_xid f asked of).pieces ≡ piece_under y of.pieces
out-under f out y asked of apart = by (piece_under asked of.pieces) refl
  where
    by : (o : Option Sent) → piece_under asked of.pieces ≡ o → piece_under y (at_piece f o of).pieces ≡ piece_under y of.pieces
    by None is = refl
    by (Some p) is =
        ap (λ (ps : List Sent). piece_under y ps) (out p of) ∙ under-without y p.xid of.pieces (λ same. apart (sym (under-xid asked of.pieces p is) ∙ same))

-- in each file the same piece is in flight under it
abbrev pub SameUnder : ℕ → Pending → Pending → Type 0
SameUnder y old new = (f : List ℕ) → piece_under y (of_file f new).pieces ≡ piece_under y (of_file f old).pieces

on-under : (y : ℕ) (start old new : Pending) (file : List ℕ) (to : FilePending) → OnFile old new file to → piece_under y to.pieces ≡ piece_under y (of_file file old).pieces
    → SameUnder y start old → SameUnder y start new
on-under y start old new file to on same p f = by (same-or file f)
  where
    by : (f ≡ file) ⊎ (f ≢ file) → piece_under y (of_file f new).pieces ≡ piece_under y (of_file f start).pieces
    by (inl is) =
        subst (λ (g : List ℕ). piece_under y (of_file g new).pieces ≡ piece_under y (of_file g start).pieces) (sym is)
        (ap (λ (of : FilePending). piece_under y of.pieces) on.here ∙ same ∙ p file)
    by (inr apart) = ap (λ (of : FilePending). piece_under y of.pieces) (on.others f apart) ∙ p f

module _ (y : ℕ) (start old new : Pending) (file : List ℕ) where
  pub puts-under : (piece : Sent) → piece.xid ≢ y → OnFile old new file (with_sent piece (of_file file old)) → SameUnder y start old → SameUnder y start new
  puts-under piece apart on p = on-under y start old new file _ on (under-more y (of_file file old).pieces piece apart) p

  pub lands-under : (change : Change) (asked : ℕ) → asked ≢ y → OnFile old new file (at_xid (landed change) asked (of_file file old)) → SameUnder y start old → SameUnder y start new
  lands-under change asked apart on p = on-under y start old new file _ on (out-under (landed change) (λ q of. refl) y asked (of_file file old) apart) p

  pub part-under : (change : Change) (count asked : ℕ) → asked ≢ y → OnFile old new file (at_xid (landed_part change count) asked (of_file file old)) → SameUnder y start old
      → SameUnder y start new
  part-under change count asked apart on p = on-under y start old new file _ on (out-under (landed_part change count) (λ q of. refl) y asked (of_file file old) apart) p

  pub renames-under : (asked to : ℕ) → asked ≢ y → to ≢ y → OnFile old new file (with_xid asked to (of_file file old)) → SameUnder y start old → SameUnder y start new
  renames-under asked to apart other on p = on-under y start old new file _ on (under-renumbered y asked to (of_file file old).pieces apart other) p

  pub same-under : (to : FilePending) → to.pieces ≡ (of_file file old).pieces → OnFile old new file to → SameUnder y start old → SameUnder y start new
  same-under to same on p = on-under y start old new file to on (ap (λ (ps : List Sent). piece_under y ps) same) p

  pub bytes-under : (offset : ℕ) (bytes : List ℕ) (number : ℕ) → OnFile old new file (with_bytes offset bytes number (of_file file old)) → SameUnder y start old → SameUnder y start new
  bytes-under offset bytes number on p = same-under (with_bytes offset bytes number (of_file file old)) (pieces-of bytes) on p
    where
      pieces-of : (bytes : List ℕ) → (with_bytes offset bytes number (of_file file old)).pieces ≡ (of_file file old).pieces
      pieces-of [] = refl
      pieces-of (b ∷ bs) = refl

  pub gives-under : is_quiet file old ≡ true → OnFile old new file nothing → SameUnder y start old → SameUnder y start new
  gives-under quiet on p = same-under nothing (none (of_file file old).pieces quiet) on p
    where
      none : (ps : List Sent) → are_none ps ≡ true → [] ≡ ps
      none [] is = refl
      none (q ∷ ps) is = absurd cc

-- ---- under the xid of the change

-- the last piece, where none was under its xid
pub under-last : (ps : List Sent) (piece : Sent) → piece_under piece.xid ps ≡ None → piece_under piece.xid (ps ++ piece ∷ []) ≡ Some piece
under-last [] piece none = under-head piece.xid piece [] refl
under-last (p ∷ ps) piece none = by (nat_eq p.xid piece.xid) refl none (λ k. under-last ps piece k)
  where
    by : (b : Bool) → nat_eq p.xid piece.xid ≡ b → (if b then Some p else piece_under piece.xid ps) ≡ None
        → (piece_under piece.xid ps ≡ None → piece_under piece.xid (ps ++ piece ∷ []) ≡ Some piece)
        → (if b then Some p else piece_under piece.xid (ps ++ piece ∷ [])) ≡ Some piece
    by true d k rest = absurd (let no_way : Some p ≡ None = k in cc)
    by false d k rest = rest k

-- the piece that got the xid was in flight under the other one
pub record WasUnder (asked to : ℕ) (ps : List Sent) (p : Sent) : Type 0 where
  pub was : Sent
  pub there : piece_under asked ps ≡ Some was
  pub is : p ≡ as_xid to was

pub under-renamed : (asked to : ℕ) (ps : List Sent) (p : Sent) → piece_under to ps ≡ None → piece_under to (renumbered asked to ps) ≡ Some p → WasUnder asked to ps p
under-renamed asked to [] p none is = absurd (let no_way : None ≡ Some p = is in cc)
under-renamed asked to (q ∷ ps) p none is = by (nat_eq q.xid asked) refl (nat_eq q.xid to) refl none is (λ n k. under-renamed asked to ps p n k)
  where
    by : (b : Bool) → nat_eq q.xid asked ≡ b → (d : Bool) → nat_eq q.xid to ≡ d → (if d then Some q else piece_under to ps) ≡ None
        → piece_under to (if b then as_xid to q ∷ ps else q ∷ renumbered asked to ps) ≡ Some p
        → (piece_under to ps ≡ None → piece_under to (renumbered asked to ps) ≡ Some p → WasUnder asked to ps p) → WasUnder asked to (q ∷ ps) p
    by b e true d n k rest = absurd (let no_way : Some q ≡ None = n in cc)
    by true e false d n k rest = record {
      was = q;
      there = under-head asked q ps (eqb-true q.xid asked e);
      is = some-sent p (as_xid to q) (sym k ∙ under-head to (as_xid to q) ps refl);
    }
    by false e false d n k rest =
        let w = rest n (sym (under-tail to q (renumbered asked to ps) (eqb-false q.xid to d)) ∙ k) in
        record { was = w.was; there = under-tail asked q ps (eqb-false q.xid asked e) ∙ w.there; is = w.is }

-- a piece that gets a new xid is found under it
pub renamed-under : (asked to : ℕ) (ps : List Sent) (q : Sent) → piece_under to ps ≡ None → piece_under asked ps ≡ Some q → piece_under to (renumbered asked to ps) ≡ Some (as_xid to q)
renamed-under asked to [] q none is = absurd (let no_way : None ≡ Some q = is in cc)
renamed-under asked to (p ∷ ps) q none is = by (nat_eq p.xid asked) refl (nat_eq p.xid to) refl none (λ n k. renamed-under asked to ps q n k)
  where
    by : (b : Bool) → nat_eq p.xid asked ≡ b → (d : Bool) → nat_eq p.xid to ≡ d → (if d then Some p else piece_under to ps) ≡ None
        → (piece_under to ps ≡ None → piece_under asked ps ≡ Some q → piece_under to (renumbered asked to ps) ≡ Some (as_xid to q))
        → piece_under to (if b then as_xid to p ∷ ps else p ∷ renumbered asked to ps) ≡ Some (as_xid to q)
    by b e true d n rest = absurd (let no_way : Some p ≡ None = n in cc)
    by true e false d n rest =
        let which : p ≡ q = some-sent p q (sym (under-head asked p ps (eqb-true p.xid asked e)) ∙ is) in
        under-head to (as_xid to p) ps refl ∙ ap (λ (s : Sent). Some (as_xid to s)) which
    by false e false d n rest =
        under-tail to p (renumbered asked to ps) (eqb-false p.xid to d) ∙ rest n (sym (under-tail asked p ps (eqb-false p.xid asked e)) ∙ is)
