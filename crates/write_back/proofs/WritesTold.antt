-- The numbers of the writes that have pending bytes, and how many bytes of each are pending.
use Rattle.std.proofs.Common.{◌≡◌, ◌<◌, ◌≤◌, ◌^◌, ℕ, ◌+◌, ◌-◌, Bool, true, false, List, [], ◌∷◌, ◌++◌, length, map, Option, Some, None, refl, sym, ap, ◌∙◌, ◌⊎◌, inl, inr, subst, arith}
use Rattle.std.specs.Prelude.{Contains, nat_eq}
use Rattle.std.specs.List.{concat, sum_by}
use Rattle.std.proofs.lemmas.Bool.{eq-eqb, ne_eqb, cases_eq, cases_lt}
use Rattle.std.proofs.lemmas.List.Elements.{Contains-append_left, Contains-append_right, Contains-append_cases, Contains-push, Contains-push_cases}
use Rattle.std.proofs.lemmas.List.Sums.{sum_by-cons}
use Rattle.write_back.specs.declared.sent.Part.{Part}
use Rattle.write_back.specs.Segments.{Segments, AreApart, end_of}
use Rattle.write_back.specs.Pieces.{Sent, FilePending, nothing, flying_of}
use Rattle.write_back.specs.Files.{Pending, of_file, numbers_of, IsNewest, TellsOldest}
use Rattle.write_back.specs.Sound.{IsSound, AreSent, HaveSizes, most_pending}
use Rattle.write_back.specs.Ages.{Writes, kept_by, written_by, parts_by, flying_by, pending_by, IsAged, IsUnknown, TellsFirst}

first-in : (n : ℕ) (ns : List ℕ) → Contains (n ∷ ns) n
first-in n ns = Contains-append_left (n ∷ []) ns n (Contains-push [] n)

later-in : (n : ℕ) (ns : List ℕ) (x : ℕ) → Contains ns x → Contains (n ∷ ns) x
later-in n ns x c = Contains-append_right (n ∷ []) ns x c

pub none-in : (x : ℕ) → Contains [] x → ⊥
none-in x c = absurd (omega (arith, c.1))

pub cases-in : (n : ℕ) (ns : List ℕ) (x : ℕ) → Contains (n ∷ ns) x → (n ≡ x) ⊎ Contains ns x
cases-in n ns x c = by (Contains-append_cases (n ∷ []) ns x c)
  where
    one : Contains [] x ⊎ (n ≡ x) → n ≡ x
    one (inl c) = absurd (none-in x c)
    one (inr is) = is

    by : Contains (n ∷ []) x ⊎ Contains ns x → (n ≡ x) ⊎ Contains ns x
    by (inl c) = inl (one (Contains-push_cases [] n x c))
    by (inr c) = inr c

-- of segments
abbrev pub numbers_written : Segments → List ℕ
numbers_written es = map (λ e. e.1.number) es

written-in : (n : ℕ) (es : Segments) → 0 < written_by n es → Contains (numbers_written es) n
written-in n [] some = absurd (omega (arith, some))
written-in n (e ∷ es) some = by (cases_eq e.1.number n) (written-in n es)
  where
    by : (e.1.number ≡ n) ⊎ (e.1.number ≡ n → ⊥) → (0 < written_by n es → Contains (numbers_written es) n) → Contains (e.1.number ∷ numbers_written es) n
    by (inl is) more = subst (λ m. Contains (e.1.number ∷ numbers_written es) m) is (first-in e.1.number (numbers_written es))
    by (inr not) more =
        let off : nat_eq e.1.number n ≡ false = ne_eqb e.1.number n not in
        let rest : 0 < 0 + written_by n es = (rw off at some) in
        later-in e.1.number (numbers_written es) n (more (omega (arith, rest)))

written-some : (n low : ℕ) (es : Segments) → AreApart low es → Contains (numbers_written es) n → 0 < written_by n es
written-some n low [] apart c = absurd (none-in n c)
written-some n low (e ∷ es) apart c = by (cases-in e.1.number (numbers_written es) n c) (written-some n (end_of e) es apart.3)
  where
    by : (e.1.number ≡ n) ⊎ Contains (numbers_written es) n → (Contains (numbers_written es) n → 0 < written_by n es) → 0 < written_by n (e ∷ es)
    by (inl is) more = let on : nat_eq e.1.number n ≡ true = eq-eqb e.1.number n is in rw on (omega (arith, apart.1))
    by (inr c) more = omega (arith, more c)

-- of the parts of a piece, and of pieces
abbrev pub numbers_parted : List Part → List ℕ
numbers_parted parts = map (λ (part : Part). part.number) parts

parts-in : (n : ℕ) (parts : List Part) → 0 < parts_by n parts → Contains (numbers_parted parts) n
parts-in n [] some = absurd (omega (arith, some))
parts-in n (part ∷ parts) some = by (cases_eq part.number n) (parts-in n parts)
  where
    by : (part.number ≡ n) ⊎ (part.number ≡ n → ⊥) → (0 < parts_by n parts → Contains (numbers_parted parts) n) → Contains (part.number ∷ numbers_parted parts) n
    by (inl is) more = subst (λ m. Contains (part.number ∷ numbers_parted parts) m) is (first-in part.number (numbers_parted parts))
    by (inr not) more =
        let off : nat_eq part.number n ≡ false = ne_eqb part.number n not in
        let rest : 0 < 0 + parts_by n parts = (rw off at some) in
        later-in part.number (numbers_parted parts) n (more (omega (arith, rest)))

parts-some : (n : ℕ) (parts : List Part) → HaveSizes parts → Contains (numbers_parted parts) n → 0 < parts_by n parts
parts-some n [] sizes c = absurd (none-in n c)
parts-some n (part ∷ parts) sizes c = by (cases-in part.number (numbers_parted parts) n c) (parts-some n parts sizes.1)
  where
    by : (part.number ≡ n) ⊎ Contains (numbers_parted parts) n → (Contains (numbers_parted parts) n → 0 < parts_by n parts) → 0 < parts_by n (part ∷ parts)
    by (inl is) more = let on : nat_eq part.number n ≡ true = eq-eqb part.number n is in rw on (omega (arith, sizes.0))
    by (inr c) more = omega (arith, more c)

abbrev pub numbers_flying : List Sent → List ℕ
numbers_flying pieces = concat (map (λ (piece : Sent). numbers_parted piece.parts) pieces)

flying-in : (n : ℕ) (pieces : List Sent) → 0 < flying_by n pieces → Contains (numbers_flying pieces) n
flying-in n [] some = absurd (omega (arith, some))
flying-in n (p ∷ pieces) some = by (cases_lt 0 (parts_by n p.parts)) (flying-in n pieces)
  where
    by : (0 < parts_by n p.parts) ⊎ (parts_by n p.parts ≤ 0) → (0 < flying_by n pieces → Contains (numbers_flying pieces) n) → Contains (numbers_parted p.parts ++ numbers_flying pieces) n
    by (inl here) more = Contains-append_left (numbers_parted p.parts) (numbers_flying pieces) n (parts-in n p.parts here)
    by (inr none) more = Contains-append_right (numbers_parted p.parts) (numbers_flying pieces) n (more (omega (arith, some, none)))

flying-some : (n : ℕ) (pieces : List Sent) → AreSent pieces → Contains (numbers_flying pieces) n → 0 < flying_by n pieces
flying-some n [] sent c = absurd (none-in n c)
flying-some n (p ∷ pieces) sent c = by (Contains-append_cases (numbers_parted p.parts) (numbers_flying pieces) n c) (flying-some n pieces sent.2)
  where
    by : Contains (numbers_parted p.parts) n ⊎ Contains (numbers_flying pieces) n → (Contains (numbers_flying pieces) n → 0 < flying_by n pieces) → 0 < flying_by n (p ∷ pieces)
    by (inl c) more = omega (arith, parts-some n p.parts sent.0.sizes c)
    by (inr c) more = omega (arith, more c)

-- of a file
pub pending-in : (n : ℕ) (of : FilePending) → 0 < pending_by n of → Contains (numbers_of of) n
pending-in n of some = by (cases_lt 0 (written_by n of.segments))
  where
    by : (0 < written_by n of.segments) ⊎ (written_by n of.segments ≤ 0) → Contains (numbers_of of) n
    by (inl here) = Contains-append_left (numbers_written of.segments) (numbers_flying of.pieces) n (written-in n of.segments here)
    by (inr none) = Contains-append_right (numbers_written of.segments) (numbers_flying of.pieces) n (flying-in n of.pieces (omega (arith, some, none)))

pub pending-some : (n : ℕ) (of : FilePending) → IsSound of → Contains (numbers_of of) n → 0 < pending_by n of
pending-some n of sound c = by (Contains-append_cases (numbers_written of.segments) (numbers_flying of.pieces) n c)
  where
    by : Contains (numbers_written of.segments) n ⊎ Contains (numbers_flying of.pieces) n → 0 < pending_by n of
    by (inl c) = omega (arith, written-some n 0 of.segments sound.apart c)
    by (inr c) = omega (arith, flying-some n of.pieces sound.sent c)

-- no byte of a newer write is pending
pub fresh-newest : (number : ℕ) (file : List ℕ) (p : Pending) → IsNewest number p → pending_by number (of_file file p) ≡ 0
fresh-newest number file p newest = by (cases_lt 0 (pending_by number (of_file file p)))
  where
    by : (0 < pending_by number (of_file file p)) ⊎ (pending_by number (of_file file p) ≤ 0) → pending_by number (of_file file p) ≡ 0
    by (inl some) = absurd (omega (arith, newest file number (pending-in number (of_file file p) some)))
    by (inr none) = omega (arith, none)

pub unknown-newest : (number : ℕ) (p : Pending) (w : Writes) → IsNewest number p → IsAged p w → IsUnknown number w
unknown-newest number p w newest aged file = aged file number ∙ fresh-newest number file p newest

-- nothing of a file is pending if no byte of any write is
empty-written : (low : ℕ) (es : Segments) → AreApart low es → ((n : ℕ) → written_by n es ≡ 0) → es ≡ []
empty-written low [] apart none = refl
empty-written low (e ∷ es) apart none = absurd (omega (arith, none e.1.number, written-some e.1.number low (e ∷ es) apart (first-in e.1.number (numbers_written es))))

parts-there : (parts : List Part) (size : ℕ) → sum_by (λ (part : Part). part.size) parts ≡ size → 0 < size → HaveSizes parts → ((n : ℕ) → parts_by n parts ≡ 0) → ⊥
parts-there [] size is some sizes none = absurd (omega (arith, is, some))
parts-there (part ∷ parts) size is some sizes none = absurd (omega (arith, none part.number, parts-some part.number (part ∷ parts) sizes (first-in part.number (numbers_parted parts))))

empty-flying : (pieces : List Sent) → AreSent pieces → ((n : ℕ) → flying_by n pieces ≡ 0) → pieces ≡ []
empty-flying [] sent none = refl
empty-flying (p ∷ pieces) sent none = absurd (parts-there p.parts (length p.bytes) sent.0.parts sent.0.some sent.0.sizes (λ n. omega (arith, none n)))

pub nothing-of : (of : FilePending) → IsSound of → ((n : ℕ) → pending_by n of ≡ 0) → of ≡ nothing
nothing-of of sound none =
    let segments : of.segments ≡ [] = empty-written 0 of.segments sound.apart (λ n. omega (arith, none n)) in
    let pieces : of.pieces ≡ [] = empty-flying of.pieces sound.sent (λ n. omega (arith, none n)) in
    ap (λ z. record { segments = z; pieces = of.pieces }) segments ∙ ap (λ z. record { segments = []; pieces = z }) pieces

-- the first write that is kept is the oldest that is pending
pub tells-first : (p : Pending) (w : Writes) (told : Option (List ℕ)) → IsAged p w → ((file : List ℕ) → IsSound (of_file file p)) → TellsFirst w told → TellsOldest p told
tells-first p w None aged sound empty = λ file. nothing-of (of_file file p) (sound file) (λ n. sym (aged file n) ∙ empty file n)
tells-first p w (Some file) aged sound first = record {
  number = first.number;
  there = pending-in first.number (of_file file p) (omega (arith, first.there, aged file first.number));
  least = λ other n c. first.least other n (omega (arith, pending-some n (of_file other p) (sound other) c, aged other n));
}

-- how many bytes of a write can be kept
written-bound : (n low : ℕ) (es : Segments) → AreApart low es → low ≤ 2 ^ 63 - 1 → low + written_by n es ≤ 2 ^ 63 - 1
written-bound n low [] apart most = omega (arith, most)
written-bound n low (e ∷ es) apart most = by (nat_eq e.1.number n) refl (written-bound n (end_of e) es apart.3 apart.2)
  where
    by : (b : Bool) → nat_eq e.1.number n ≡ b → end_of e + written_by n es ≤ 2 ^ 63 - 1 → low + written_by n (e ∷ es) ≤ 2 ^ 63 - 1
    by true h more = rw h (omega (arith, more, apart.0))
    by false h more = rw h (omega (arith, more, apart.0))

pub parts-bound : (n : ℕ) (parts : List Part) → parts_by n parts ≤ sum_by (λ (part : Part). part.size) parts
parts-bound n [] = omega arith
parts-bound n (part ∷ parts) = by (nat_eq part.number n) refl (parts-bound n parts) (sum_by-cons (λ (part : Part). part.size) part parts)
  where
    by : (b : Bool) → nat_eq part.number n ≡ b → parts_by n parts ≤ sum_by (λ (part : Part). part.size) parts → sum_by (λ (part : Part). part.size) (part ∷ parts) ≡ part.size + sum_by (λ (part : Part). part.size) parts
        → parts_by n (part ∷ parts) ≤ sum_by (λ (part : Part). part.size) (part ∷ parts)
    by true h more sum = rw h (omega (arith, more, sum))
    by false h more sum = rw h (omega (arith, more, sum))

flying-bound : (n : ℕ) (pieces : List Sent) → AreSent pieces → flying_by n pieces ≤ flying_of pieces
flying-bound n [] sent = omega arith
flying-bound n (p ∷ pieces) sent = omega (arith, flying-bound n pieces sent.2, parts-bound n p.parts, sent.0.parts, sum_by-cons (λ (q : Sent). length q.bytes) p pieces)

pub kept-room : (p : Pending) (w : Writes) (file : List ℕ) (n : ℕ) → IsAged p w → IsSound (of_file file p) → kept_by w file n ≤ 2 ^ 63 + most_pending
kept-room p w file n aged sound =
    let of = of_file file p in
    omega (arith, aged file n, written-bound n 0 (of_file file p).segments sound.apart (omega arith), flying-bound n (of_file file p).pieces sound.sent, sound.room)
