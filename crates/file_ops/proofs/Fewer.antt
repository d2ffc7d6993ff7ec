-- What of a file is pending comes by fewer writes, and under fewer xids, after a call ended.
use Rattle.std.proofs.Common.{◌≡◌, ◌≢◌, ◌&&◌, ◌+◌, ℕ, Bool, true, false, List, [], ◌∷◌, ◌++◌, map, Option, Some, None, refl, sym, ◌⊎◌, inl, inr, subst, arith}
use Rattle.std.specs.Prelude.{Contains, nat_eq, nat_lt, nat_le, length}
use Rattle.std.specs.List.{concat}
use Rattle.std.proofs.lemmas.List.Elements.{Contains-append_left, Contains-append_right, Contains-append_cases, Contains-push, Contains-push_cases}
use Rattle.nfs_types.specs.declared.verf.Verf.{Verf}
use Rattle.write_back.specs.declared.state.State.{State}
use Rattle.write_back.specs.declared.change.Change.{Change}
use Rattle.write_back.specs.declared.change.Change.TheVariants as by_change
use Rattle.write_back.specs.States.{is_in_flight}
use Rattle.write_back.specs.Segments.{Segment, Segments, end_of, split_if, split_flying}
use Rattle.write_back.specs.Pieces.{Sent, FilePending, piece_under, without, end_of_sent}
use Rattle.write_back.specs.Changes.{changed, all_changed, left_of, fate_between, fate}
use Rattle.write_back.specs.Landing.{at_piece, at_xid, landed, landed_part, changed_part}
use Rattle.write_back.specs.Files.{Pending, of_file, OnFile, numbers_of, IsNewest}
use Rattle.write_back.proofs.WritesByFile.{same-or}
use Rattle.commit_verf.specs.Decisions.{decided}
use Rattle.file_ops.specs.SlotFiles.{IsUnused}
use Rattle.file_ops.proofs.Free.{none-without}

-- ---- lists of numbers

abbrev pub IsIn : List ℕ → List ℕ → Type 0
IsIn ms ns = (x : ℕ) → Contains ms x → Contains ns x

first-in : (n : ℕ) (ns : List ℕ) → Contains (n ∷ ns) n
first-in n ns = Contains-append_left (n ∷ []) ns n (Contains-push [] n)

pub later-in : (n : ℕ) (ns : List ℕ) (x : ℕ) → Contains ns x → Contains (n ∷ ns) x
later-in n ns x c = Contains-append_right (n ∷ []) ns x c

pub none-in : (x : ℕ) → Contains [] x → ⊥
none-in x c = absurd (omega (arith, c.1))

pub cases-in : (n : ℕ) (ns : List ℕ) (x : ℕ) → Contains (n ∷ ns) x → (n ≡ x) ⊎ Contains ns x
cases-in n ns x c = by (Contains-append_cases (n ∷ []) ns x c)
  where
    one : Contains [] x ⊎ (n ≡ x) → n ≡ x
    one (inl c) = absurd (none-in x c)
    one (inr is) = is

    by : Contains (n ∷ []) x ⊎ Contains ns x → (n ≡ x) ⊎ Contains ns x
    by (inl c) = inl (one (Contains-push_cases [] n x c))
    by (inr c) = inr c

pub both-in : (n : ℕ) (ms ns : List ℕ) → IsIn ms ns → IsIn (n ∷ ms) (n ∷ ns)
both-in n ms ns w x c = by (cases-in n ms x c)
  where
    by : (n ≡ x) ⊎ Contains ms x → Contains (n ∷ ns) x
    by (inl is) = subst (λ y. Contains (n ∷ ns) y) is (first-in n ns)
    by (inr c) = later-in n ns x (w x c)

pub appended-in : (ks ls ms ns : List ℕ) → IsIn ks ms → IsIn ls ns → IsIn (ks ++ ls) (ms ++ ns)
appended-in ks ls ms ns v w x c = by (Contains-append_cases ks ls x c)
  where
    by : Contains ks x ⊎ Contains ls x → Contains (ms ++ ns) x
    by (inl c) = Contains-append_left ms ns x (v x c)
    by (inr c) = Contains-append_right ms ns x (w x c)

-- ---- segments

abbrev pub numbers_written : Segments → List ℕ
numbers_written es = map (λ e. e.1.number) es

left-in : (state : Option State) (e : ℕ × Segment) (rest es : Segments) → IsIn (numbers_written rest) (numbers_written es) → IsIn (numbers_written (left_of state e rest)) (e.1.number ∷ numbers_written es)
left-in None e rest es w x c = later-in e.1.number (numbers_written es) x (w x c)
left-in (Some state) e rest es w x c = both-in e.1.number (numbers_written rest) (numbers_written es) w x c

pub changed-in : (change : Change) (low high : ℕ) (es : Segments) → IsIn (numbers_written (changed change low high es)) (numbers_written es)
changed-in change low high [] x c = c
changed-in change low high (e ∷ es) x c = left-in (fate_between change low high e) e (changed change low high es) es (changed-in change low high es) x c

all-changed-in : (change : Change) (es : Segments) → IsIn (numbers_written (all_changed change es)) (numbers_written es)
all-changed-in change [] x c = c
all-changed-in change (e ∷ es) x c = left-in (fate change e.1.number e.1.state) e (all_changed change es) es (all-changed-in change es) x c

pub split-in : (test : Segment → Bool) (place : ℕ) (es : Segments) → IsIn (numbers_written (split_if test place es)) (numbers_written es)
split-in test place [] x c = c
split-in test place (e ∷ es) x c = by (nat_lt e.0 place) (nat_lt place (end_of e) && test e.1) refl refl (split-in test place es)
  where
    twice : (e.1.number ≡ x) ⊎ Contains (e.1.number ∷ numbers_written es) x → Contains (numbers_written (e ∷ es)) x
    twice (inl is) = subst (λ y. Contains (numbers_written (e ∷ es)) y) is (first-in e.1.number (numbers_written es))
    twice (inr d) = d

    by : (a b : Bool) → nat_lt e.0 place ≡ a → (nat_lt place (end_of e) && test e.1) ≡ b → IsIn (numbers_written (split_if test place es)) (numbers_written es) → Contains (numbers_written (e ∷ es)) x
    by true true ha hb w = let d : Contains (e.1.number ∷ e.1.number ∷ numbers_written es) x = (rw (ha, hb) at c) in twice (cases-in e.1.number (e.1.number ∷ numbers_written es) x d)
    by true false ha hb w = let d : Contains (e.1.number ∷ numbers_written (split_if test place es)) x = (rw (ha, hb) at c) in both-in e.1.number (numbers_written (split_if test place es)) (numbers_written es) w x d
    by false b ha hb w = let d : Contains (e.1.number ∷ numbers_written es) x = (rw ha at c) in d

part-in : (change : Change) (count : ℕ) (piece : Sent) (es : Segments) → IsIn (numbers_written (changed_part change count piece es)) (numbers_written es)
part-in change count piece es x c = by (nat_le (length piece.bytes) count) refl
  where
    by : (b : Bool) → nat_le (length piece.bytes) count ≡ b → Contains (numbers_written es) x
    by true h = let d : Contains (numbers_written (changed change piece.offset (end_of_sent piece) es)) x = (rw h at c) in changed-in change piece.offset (end_of_sent piece) es x d
    by false h =
        let d : Contains (numbers_written (changed by_change.Return (piece.offset + count) (end_of_sent piece) (changed change piece.offset (piece.offset + count) (split_flying (piece.offset + count) es)))) x = (rw h at c) in
        split-in (λ s. is_in_flight s.state) (piece.offset + count) es x
        (changed-in change piece.offset (piece.offset + count) (split_flying (piece.offset + count) es) x
        (changed-in by_change.Return (piece.offset + count) (end_of_sent piece) (changed change piece.offset (piece.offset + count) (split_flying (piece.offset + count) es)) x d))

-- ---- pieces

abbrev pub numbers_flying : List Sent → List ℕ
numbers_flying pieces = concat (map (λ piece. map (λ part. part.number) piece.parts) pieces)

without-in : (xid : ℕ) (pieces : List Sent) → IsIn (numbers_flying (without xid pieces)) (numbers_flying pieces)
without-in xid [] x c = c
without-in xid (p ∷ pieces) x c = by (nat_eq p.xid xid) refl (without-in xid pieces)
  where
    by : (b : Bool) → nat_eq p.xid xid ≡ b → IsIn (numbers_flying (without xid pieces)) (numbers_flying pieces) → Contains (numbers_flying (p ∷ pieces)) x
    by true h w = let d : Contains (numbers_flying pieces) x = (rw h at c) in Contains-append_right (map (λ part. part.number) p.parts) (numbers_flying pieces) x d
    by false h w =
        let d : Contains (map (λ part. part.number) p.parts ++ numbers_flying (without xid pieces)) x = (rw h at c) in
        appended-in (map (λ part. part.number) p.parts) (numbers_flying (without xid pieces)) (map (λ part. part.number) p.parts) (numbers_flying pieces) (λ y k. k) w x d

-- ---- files

-- no more writes, and nothing under a new xid
pub record IsFewer (old new : FilePending) : Type 0 where
  pub numbers : IsIn (numbers_of new) (numbers_of old)
  pub xids : (xid : ℕ) → piece_under xid old.pieces ≡ None → piece_under xid new.pieces ≡ None

same-fewer : (of : FilePending) → IsFewer of of
same-fewer of = record { numbers = λ x c. c; xids = λ xid h. h }

landed-fewer : (change : Change) (piece : Sent) (of : FilePending) → IsFewer of (landed change piece of)
landed-fewer change piece of = record {
  numbers = appended-in (numbers_written (changed change piece.offset (end_of_sent piece) of.segments)) (numbers_flying (without piece.xid of.pieces)) (numbers_written of.segments) (numbers_flying of.pieces) (changed-in change piece.offset (end_of_sent piece) of.segments) (without-in piece.xid of.pieces);
  xids = λ xid h. none-without xid piece.xid of.pieces h;
}

part-fewer : (change : Change) (count : ℕ) (piece : Sent) (of : FilePending) → IsFewer of (landed_part change count piece of)
part-fewer change count piece of = record {
  numbers = appended-in (numbers_written (changed_part change count piece of.segments)) (numbers_flying (without piece.xid of.pieces)) (numbers_written of.segments) (numbers_flying of.pieces) (part-in change count piece of.segments) (without-in piece.xid of.pieces);
  xids = λ xid h. none-without xid piece.xid of.pieces h;
}

at-fewer : (f : Sent → FilePending → FilePending) (found : Option Sent) (of : FilePending) → ((piece : Sent) → IsFewer of (f piece of)) → IsFewer of (at_piece f found of)
at-fewer f None of w = same-fewer of
at-fewer f (Some piece) of w = w piece

decided-fewer : (upto : ℕ) (verf : Verf) (of : FilePending) → IsFewer of (decided upto verf of)
decided-fewer upto verf of = record {
  numbers = appended-in (numbers_written (all_changed (by_change.MarkAgain upto) (all_changed (by_change.Settle verf upto) of.segments))) (numbers_flying of.pieces) (numbers_written of.segments) (numbers_flying of.pieces)
      (λ x c. all-changed-in (by_change.Settle verf upto) of.segments x (all-changed-in (by_change.MarkAgain upto) (all_changed (by_change.Settle verf upto) of.segments) x c)) (λ x c. c);
  xids = λ xid h. h;
}

-- ---- all files

pub record AreFewer (old new : Pending) : Type 0 where
  pub of : (file : List ℕ) → IsFewer (of_file file old) (of_file file new)

pub same-all : (old new : Pending) → new ≡ old → AreFewer old new
same-all old new is = record { of = λ file. subst (λ p. IsFewer (of_file file old) (of_file file p)) (sym is) (same-fewer (of_file file old)) }

on-fewer : (old new : Pending) (file : List ℕ) (to : FilePending) → OnFile old new file to → IsFewer (of_file file old) to → AreFewer old new
on-fewer old new file to on less = record { of = λ other. by other (same-or file other) }
  where
    by : (other : List ℕ) → (other ≡ file) ⊎ (other ≢ file) → IsFewer (of_file other old) (of_file other new)
    by other (inl same) = subst (λ f. IsFewer (of_file f old) (of_file f new)) (sym same) (subst (λ v. IsFewer (of_file file old) v) (sym on.here) less)
    by other (inr apart) = subst (λ v. IsFewer (of_file other old) v) (sym (on.others other apart)) (same-fewer (of_file other old))

pub on-landed : (change : Change) (asked : ℕ) (old new : Pending) (file : List ℕ) → OnFile old new file (at_xid (landed change) asked (of_file file old)) → AreFewer old new
on-landed change asked old new file on = on-fewer old new file (at_xid (landed change) asked (of_file file old)) on (at-fewer (landed change) (piece_under asked (of_file file old).pieces) (of_file file old) (λ piece. landed-fewer change piece (of_file file old)))

pub on-part : (change : Change) (count asked : ℕ) (old new : Pending) (file : List ℕ) → OnFile old new file (at_xid (landed_part change count) asked (of_file file old)) → AreFewer old new
on-part change count asked old new file on = on-fewer old new file (at_xid (landed_part change count) asked (of_file file old)) on (at-fewer (landed_part change count) (piece_under asked (of_file file old).pieces) (of_file file old) (λ piece. part-fewer change count piece (of_file file old)))

pub on-decided : (upto : ℕ) (verf : Verf) (old new : Pending) (file : List ℕ) → OnFile old new file (decided upto verf (of_file file old)) → AreFewer old new
on-decided upto verf old new file on = on-fewer old new file (decided upto verf (of_file file old)) on (decided-fewer upto verf (of_file file old))

pub fewer-newest : (number : ℕ) (old new : Pending) → AreFewer old new → IsNewest number old → IsNewest number new
fewer-newest number old new less newest file other c = newest file other ((less.of file).numbers other c)

pub fewer-unused : (xid : ℕ) (old new : Pending) → AreFewer old new → IsUnused xid old → IsUnused xid new
fewer-unused xid old new less unused file = (less.of file).xids xid (unused file)
