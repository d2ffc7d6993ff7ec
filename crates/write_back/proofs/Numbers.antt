-- For callers: no call takes in a number that it wasn't given, so that a number above all that were given stays the newest.
use Rattle.std.proofs.Common.{◌≡◌, ◌≢◌, ◌≤◌, ◌<◌, ℕ, zero, suc, ◌+◌, ◌-◌, Bool, true, false, List, [], ◌∷◌, ◌++◌, length, map, Option, Some, None, Contains, refl, sym, ap, subst, ◌∙◌, arith}
use Rattle.std.specs.Prelude.{⊤, IsSome, not, Result, Ok, Err, OnOk, OnErr, ◌&&◌, ◌||◌, if◌then◌else◌, nat_lt, nat_le, nat_eq, slice_index_or}
use Rattle.std.specs.List.{concat}
use Rattle.std.specs.Option.{is_some}
use Rattle.std.proofs.lemmas.Bool.Decides.{Decides-eqb}
use Rattle.std.proofs.lemmas.Slice.Eq.{bytes_eq-Decides}
use Rattle.std.specs.Str.{bytes_eq}
use Rattle.xdr_codec.specs.declared.blob.Memory.{Memory}
use Rattle.write_back.specs.declared.piece.AddFault.{AddFault}
use Rattle.write_back.specs.declared.piece.Piece.{Piece}
use Rattle.write_back.specs.declared.sent.Part.{Part}
use Rattle.write_back.specs.declared.state.State.{State}
use Rattle.write_back.specs.declared.change.Change.{Change}
use Rattle.write_back.specs.declared.change.Change.TheVariants as by
use Rattle.write_back.specs.Segments.{Segment, Segments, head_of, tail_of, before, after, added, split_if, cut_from, end_of}
use Rattle.write_back.specs.Changes.{fate, left_of, fate_between, changed, all_changed}
use Rattle.write_back.specs.Pieces.{Sent, FilePending, nothing, piece_under, without, renumbered}
use Rattle.write_back.specs.Choice.{may_go, run_from, chosen, chosen_from, part_of, how_of_segment}
use Rattle.write_back.specs.Landing.{landed, landed_part, changed_part, at_piece, at_xid, with_change, with_cut, with_xid}
use Rattle.write_back.specs.Files.{Pending, of_file, with_bytes, OnFile, PutsPiece, SendsPiece, ShowsSent, IsFree, HasNoPiece, IsNewest, numbers_of}
use Rattle.write_back.specs.Numbers.{SegmentsUpTo, PartsUpTo, PiecesUpTo, FileUpTo, AllUpTo}

-- both ways of a choice
either : (n : ℕ) (b : Bool) (xs ys : Segments) → SegmentsUpTo n xs → SegmentsUpTo n ys → SegmentsUpTo n (if b then xs else ys)
either n true xs ys hx hy = hx
either n false xs ys hx hy = hy

pub segments-join : (n : ℕ) (xs ys : Segments) → SegmentsUpTo n xs → SegmentsUpTo n ys → SegmentsUpTo n (xs ++ ys)
segments-join n [] ys hx hy = hy
segments-join n (e ∷ xs) ys hx hy = (hx.0, segments-join n xs ys hx.1 hy)

pub segments-before : (n place : ℕ) (es : Segments) → SegmentsUpTo n es → SegmentsUpTo n (before place es)
segments-before n place [] h = tt
segments-before n place (e ∷ es) h = either n (nat_lt e.0 place) _ _ (h.0, segments-before n place es h.1) tt

pub segments-after : (n place : ℕ) (es : Segments) → SegmentsUpTo n es → SegmentsUpTo n (after place es)
segments-after n place [] h = tt
segments-after n place (e ∷ es) h = either n (nat_le (end_of e) place) _ _ (segments-after n place es h.1) (either n (nat_lt e.0 place) _ _ h h)

pub segments-more : (n m : ℕ) (es : Segments) → n ≤ m → SegmentsUpTo n es → SegmentsUpTo m es
segments-more n m [] le h = tt
segments-more n m (e ∷ es) le h = (omega (arith, le, h.0), segments-more n m es le h.1)

pub segments-added : (n offset : ℕ) (bytes : List ℕ) (number : ℕ) (es : Segments) → SegmentsUpTo n es → number ≤ n → SegmentsUpTo n (added offset bytes number es)
segments-added n offset bytes number es h le =
    segments-join n (before offset es) _ (segments-before n offset es h) (le, segments-after n (offset + length bytes) es h)

pub segments-split : (n : ℕ) (test : Segment → Bool) (place : ℕ) (es : Segments) → SegmentsUpTo n es → SegmentsUpTo n (split_if test place es)
segments-split n test place [] h = tt
segments-split n test place (e ∷ es) h =
    let cut : SegmentsUpTo n ((e.0, head_of (place - e.0) e.1) ∷ (place, tail_of (place - e.0) e.1) ∷ es) = (h.0, (h.0, h.1)) in
    let whole : SegmentsUpTo n (e ∷ split_if test place es) = (h.0, segments-split n test place es h.1) in
    either n (nat_lt e.0 place) _ (e ∷ es) (either n (nat_lt place (end_of e) && test e.1) _ _ cut whole) h

segments-left : (n : ℕ) (state : Option State) (e : ℕ × Segment) (es : Segments) → e.1.number ≤ n → SegmentsUpTo n es → SegmentsUpTo n (left_of state e es)
segments-left n None e es le h = h
segments-left n (Some state) e es le h = (le, h)

pub segments-changed : (n : ℕ) (change : Change) (low high : ℕ) (es : Segments) → SegmentsUpTo n es → SegmentsUpTo n (changed change low high es)
segments-changed n change low high [] h = tt
segments-changed n change low high (e ∷ es) h = segments-left n (fate_between change low high e) e (changed change low high es) h.0 (segments-changed n change low high es h.1)

pub segments-all-changed : (n : ℕ) (change : Change) (es : Segments) → SegmentsUpTo n es → SegmentsUpTo n (all_changed change es)
segments-all-changed n change [] h = tt
segments-all-changed n change (e ∷ es) h = segments-left n (fate change e.1.number e.1.state) e (all_changed change es) h.0 (segments-all-changed n change es h.1)

pub segments-cut : (n place upto : ℕ) (es : Segments) → SegmentsUpTo n es → SegmentsUpTo n (cut_from place upto es)
segments-cut n place upto [] h = tt
segments-cut n place upto (e ∷ es) h =
    let less : SegmentsUpTo n (cut_from place upto es) = segments-cut n place upto es h.1 in
    let whole : SegmentsUpTo n (e ∷ cut_from place upto es) = (h.0, less) in
    let cut : SegmentsUpTo n ((e.0, head_of (place - e.0) e.1) ∷ cut_from place upto es) = (h.0, less) in
    either n (nat_lt upto e.1.number || nat_le (end_of e) place) _ _ whole (either n (nat_lt e.0 place) _ _ cut less)

segments-run : (n : ℕ) (pieces : List Sent) (upto how place room : ℕ) (es : Segments) → SegmentsUpTo n es → SegmentsUpTo n (run_from pieces upto how place room es)
segments-run n pieces upto how place room [] h = tt
segments-run n pieces upto how place room (e ∷ es) h =
    let more : SegmentsUpTo n ((e.0, head_of room e.1) ∷ run_from pieces upto how (end_of e) (room - length e.1.bytes) es) = (h.0, segments-run n pieces upto how (end_of e) (room - length e.1.bytes) es h.1) in
    either n (may_go pieces upto e && nat_eq (how_of_segment e) how && nat_eq e.0 place && nat_lt 0 room) ((e.0, head_of room e.1) ∷ run_from pieces upto how (end_of e) (room - length e.1.bytes) es) [] more tt

pub segments-chosen : (n : ℕ) (pieces : List Sent) (upto wsize : ℕ) (es : Segments) → SegmentsUpTo n es → SegmentsUpTo n (chosen_from pieces upto wsize es)
segments-chosen n pieces upto wsize [] h = tt
segments-chosen n pieces upto wsize (e ∷ es) h = either n _ _ _ (segments-run n pieces upto (how_of_segment e) e.0 wsize (e ∷ es) h) (segments-chosen n pieces upto wsize es h.1)

pub parts-of : (n : ℕ) (run : Segments) → SegmentsUpTo n run → PartsUpTo n (map part_of run)
parts-of n [] h = tt
parts-of n (e ∷ run) h = (h.0, parts-of n run h.1)

either-pieces : (n : ℕ) (b : Bool) (xs ys : List Sent) → PiecesUpTo n xs → PiecesUpTo n ys → PiecesUpTo n (if b then xs else ys)
either-pieces n true xs ys hx hy = hx
either-pieces n false xs ys hx hy = hy

pub pieces-join : (n : ℕ) (xs ys : List Sent) → PiecesUpTo n xs → PiecesUpTo n ys → PiecesUpTo n (xs ++ ys)
pieces-join n [] ys hx hy = hy
pieces-join n (piece ∷ xs) ys hx hy = (hx.0, pieces-join n xs ys hx.1 hy)

pub pieces-without : (n xid : ℕ) (pieces : List Sent) → PiecesUpTo n pieces → PiecesUpTo n (without xid pieces)
pieces-without n xid [] h = tt
pieces-without n xid (piece ∷ pieces) h = either-pieces n (nat_eq piece.xid xid) _ _ h.1 (h.0, pieces-without n xid pieces h.1)

pub pieces-renumbered : (n xid to : ℕ) (pieces : List Sent) → PiecesUpTo n pieces → PiecesUpTo n (renumbered xid to pieces)
pieces-renumbered n xid to [] h = tt
pieces-renumbered n xid to (piece ∷ pieces) h = either-pieces n (nat_eq piece.xid xid) _ _ (h.0, h.1) (h.0, pieces-renumbered n xid to pieces h.1)

parts-more : (n m : ℕ) (parts : List Part) → n ≤ m → PartsUpTo n parts → PartsUpTo m parts
parts-more n m [] le h = tt
parts-more n m (part ∷ parts) le h = (omega (arith, le, h.0), parts-more n m parts le h.1)

pub pieces-more : (n m : ℕ) (pieces : List Sent) → n ≤ m → PiecesUpTo n pieces → PiecesUpTo m pieces
pieces-more n m [] le h = tt
pieces-more n m (piece ∷ pieces) le h = (parts-more n m piece.parts le h.0, pieces-more n m pieces le h.1)

pub file-more : (n m : ℕ) (of : FilePending) → n ≤ m → FileUpTo n of → FileUpTo m of
file-more n m of le h = record { segments = segments-more n m of.segments le h.segments; pieces = pieces-more n m of.pieces le h.pieces }

pub file-landed : (n : ℕ) (change : Change) (piece : Sent) (of : FilePending) → FileUpTo n of → FileUpTo n (landed change piece of)
file-landed n change piece of h = record { segments = segments-changed n change _ _ of.segments h.segments; pieces = pieces-without n piece.xid of.pieces h.pieces }

segments-part : (n : ℕ) (change : Change) (count : ℕ) (piece : Sent) (es : Segments) → SegmentsUpTo n es → SegmentsUpTo n (changed_part change count piece es)
segments-part n change count piece es h =
    either n (nat_le (length piece.bytes) count) _ _ (segments-changed n change _ _ es h) (segments-changed n by.Return _ _ _ (segments-changed n change _ _ _ (segments-split n _ (piece.offset + count) es h)))

pub file-landed-part : (n : ℕ) (change : Change) (count : ℕ) (piece : Sent) (of : FilePending) → FileUpTo n of → FileUpTo n (landed_part change count piece of)
file-landed-part n change count piece of h = record { segments = segments-part n change count piece of.segments h.segments; pieces = pieces-without n piece.xid of.pieces h.pieces }

pub file-at : (n : ℕ) (f : Sent → FilePending → FilePending) (piece : Option Sent) (of : FilePending)
    → ((p : Sent) → FileUpTo n (f p of)) → FileUpTo n of → FileUpTo n (at_piece f piece of)
file-at n f None of keeps h = h
file-at n f (Some piece) of keeps h = keeps piece

-- a change of one file
pub on-kept : (n : ℕ) (old new : Pending) (file : List ℕ) (to : FilePending) → OnFile old new file to → AllUpTo n old → FileUpTo n to → AllUpTo n new
on-kept n old new file to on h here other = decide (bytes_eq other file) refl
  where
    decide : (b : Bool) → bytes_eq other file ≡ b → FileUpTo n (of_file other new)
    decide true is = subst (λ f. FileUpTo n (of_file f new)) (sym ((bytes_eq-Decides other file).0 is)) (subst (FileUpTo n) (sym on.here) here)
    decide false is = subst (FileUpTo n) (sym (on.others other (λ same. let not : bytes_eq other file ≡ true = (bytes_eq-Decides other file).1 same in absurd cc))) (h other)

pub upto-more : (n m : ℕ) (p : Pending) → n ≤ m → AllUpTo n p → AllUpTo m p
upto-more n m p le h file = file-more n m (of_file file p) le (h file)

-- numbers up to n
abbrev NumbersUpTo : ℕ → List ℕ → Type 0
NumbersUpTo n [] = ⊤
NumbersUpTo n (m ∷ ms) = (m ≤ n) × NumbersUpTo n ms

numbers-join : (n : ℕ) (xs ys : List ℕ) → NumbersUpTo n xs → NumbersUpTo n ys → NumbersUpTo n (xs ++ ys)
numbers-join n [] ys hx hy = hy
numbers-join n (x ∷ xs) ys hx hy = (hx.0, numbers-join n xs ys hx.1 hy)

numbers-segments : (n : ℕ) (es : Segments) → SegmentsUpTo n es → NumbersUpTo n (map (λ e. e.1.number) es)
numbers-segments n [] h = tt
numbers-segments n (e ∷ es) h = (h.0, numbers-segments n es h.1)

numbers-parts : (n : ℕ) (parts : List Part) → PartsUpTo n parts → NumbersUpTo n (map (λ part. part.number) parts)
numbers-parts n [] h = tt
numbers-parts n (part ∷ parts) h = (h.0, numbers-parts n parts h.1)

numbers-pieces : (n : ℕ) (pieces : List Sent) → PiecesUpTo n pieces → NumbersUpTo n (concat (map (λ piece. map (λ part. part.number) piece.parts) pieces))
numbers-pieces n [] h = tt
numbers-pieces n (piece ∷ pieces) h = numbers-join n _ _ (numbers-parts n piece.parts h.0) (numbers-pieces n pieces h.1)

numbers-contained : (n : ℕ) (xs : List ℕ) (m : ℕ) → NumbersUpTo n xs → Contains xs m → m ≤ n
numbers-contained n [] m h found = absurd (omega (arith, found.1))
numbers-contained n (x ∷ xs) m h found = at found.0 found.1 found.2 (λ k lt is. numbers-contained n xs m h.1 (k, lt, is))
  where
    at : (k : ℕ) → k < length (x ∷ xs) → slice_index_or (x ∷ xs) k m ≡ m → ((j : ℕ) → j < length xs → slice_index_or xs j m ≡ m → m ≤ n) → m ≤ n
    at zero lt is less = subst (λ z. z ≤ n) is h.0
    at (suc k) lt is less = less k (omega (arith, lt)) is

-- the next number is above all others
pub newest : (n m : ℕ) (p : Pending) → AllUpTo n p → n < m → IsNewest m p
newest n m p h lt file other found =
    let le : other ≤ n = numbers-contained n (numbers_of (of_file file p)) other (numbers-join n _ _ (numbers-segments n _ (h file).segments) (numbers-pieces n _ (h file).pieces)) found in
    omega (arith, le, lt)

-- each call
pub upto-nothing : (n : ℕ) → AllUpTo n []
upto-nothing n file = record { segments = tt; pieces = tt }

pub upto-add : (n m offset : ℕ) (bytes : List ℕ) (old new : Pending) (file : List ℕ) → OnFile old new file (with_bytes offset bytes m (of_file file old)) → n ≤ m → AllUpTo n old → AllUpTo m new
upto-add n m offset bytes old new file on le h = on-kept m old new file _ on (upto-more n m old le h) (put bytes)
  where
    more : FileUpTo m (of_file file old)
    more = file-more n m (of_file file old) le (h file)

    put : (bs : List ℕ) → FileUpTo m (with_bytes offset bs m (of_file file old))
    put [] = more
    put (b ∷ bs) = record { segments = segments-added m offset (b ∷ bs) m _ more.segments (omega arith); pieces = more.pieces }

pub upto-sent : (n xid upto : ℕ) (run : Segments) (old new : Pending) (file : List ℕ) → PutsPiece xid upto run old new file → SegmentsUpTo n run → AllUpTo n old → AllUpTo n new
upto-sent n xid upto [] old new file puts numbered h = subst (AllUpTo n) (sym puts) h
upto-sent n xid upto (e ∷ es) old new file puts numbered h = on-kept n old new file _ puts.0 h (record {
  segments = segments-changed n by.Send _ _ _ (segments-split n _ _ _ (h file).segments);
  pieces = pieces-join n _ _ (h file).pieces (parts-of n (e ∷ es) numbered, tt);
})

pub upto-chosen : (n upto wsize : ℕ) (p : Pending) (file : List ℕ) → AllUpTo n p → SegmentsUpTo n (chosen upto wsize (of_file file p))
upto-chosen n upto wsize p file h = segments-chosen n _ upto wsize _ (h file).segments

pub upto-acked : (n xid count : ℕ) (change : Change) (old new : Pending) (file : List ℕ) → OnFile old new file (at_xid (landed_part change count) xid (of_file file old)) → AllUpTo n old → AllUpTo n new
upto-acked n xid count change old new file on h =
    on-kept n old new file _ on h (file-at n (landed_part change count) _ (of_file file old) (λ piece. file-landed-part n change count piece _ (h file)) (h file))

pub upto-ended : (n xid : ℕ) (change : Change) (old new : Pending) (file : List ℕ) → OnFile old new file (at_xid (landed change) xid (of_file file old)) → AllUpTo n old → AllUpTo n new
upto-ended n xid change old new file on h =
    on-kept n old new file _ on h (file-at n (landed change) _ (of_file file old) (λ piece. file-landed n change piece _ (h file)) (h file))

pub upto-renumbered : (n xid to : ℕ) (old new : Pending) (file : List ℕ) → OnFile old new file (with_xid xid to (of_file file old)) → AllUpTo n old → AllUpTo n new
upto-renumbered n xid to old new file on h = on-kept n old new file _ on h (record { segments = (h file).segments; pieces = pieces-renumbered n xid to _ (h file).pieces })

pub upto-changed : (n : ℕ) (change : Change) (old new : Pending) (file : List ℕ) → OnFile old new file (with_change change (of_file file old)) → AllUpTo n old → AllUpTo n new
upto-changed n change old new file on h = on-kept n old new file _ on h (record { segments = segments-all-changed n change _ (h file).segments; pieces = (h file).pieces })

pub upto-cut : (n size upto : ℕ) (old new : Pending) (file : List ℕ) → OnFile old new file (with_cut size upto (of_file file old)) → AllUpTo n old → AllUpTo n new
upto-cut n size upto old new file on h = on-kept n old new file _ on h (record { segments = segments-cut n size upto _ (h file).segments; pieces = (h file).pieces })

pub upto-given-up : (n : ℕ) (old new : Pending) (file : List ℕ) → OnFile old new file nothing → AllUpTo n old → AllUpTo n new
upto-given-up n old new file on h = on-kept n old new file nothing on h (record { segments = tt; pieces = tt })

not-false : (b : Bool) → false ≡ not b → b ≡ true
not-false true is = refl
not-false false is = absurd cc

-- whether a piece is shown tells whether one is there
pub free_is : (found : Option Sent) (shown : Option Piece) (none : Bool) → ShowsSent found shown → is_some shown ≡ not none → (none ≡ true → found ≡ None) × (found ≡ None → none ≡ true)
free_is None shown none shows is = ((λ _. refl), (λ _. not-false none (rw shows at is)))
free_is (Some sent) None none shows is = absurd shows
free_is (Some sent) (Some piece) none shows is = ((λ free. absurd cc), (λ nothing. absurd cc))

pub not_shown : (found : Option Sent) (shown : Option Piece) → ShowsSent found shown → is_some shown ≡ false → found ≡ None
not_shown None shown shows is = refl
not_shown (Some sent) None shows is = absurd shows
not_shown (Some sent) (Some piece) shows is = absurd cc

pub some_there : (found : Option Sent) → ¬ (found ≡ None) → IsSome found
some_there None is = absurd (is refl)
some_there (Some sent) is = refl

-- bytes that were added, or weren't
pub upto_added : (n m offset : ℕ) (bytes : List ℕ) (old new : Pending) (file : List ℕ) (result : Result ⊤ AddFault)
    → OnOk result (OnFile old new file (with_bytes offset bytes m (of_file file old))) → OnErr result (new ≡ old) → n ≤ m → AllUpTo n old → AllUpTo m new
upto_added n m offset bytes old new file (Ok done) ok err le h = upto-add n m offset bytes old new file ok le h
upto_added n m offset bytes old new file (Err fault) ok err le h = subst (AllUpTo m) (sym err) (upto-more n m old le h)

pub upto_sends : (n xid upto wsize : ℕ) (old new : Pending) (file : List ℕ) (result : Result (Option Piece) Memory)
    → SendsPiece xid upto (chosen upto wsize (of_file file old)) old new file result → AllUpTo n old → AllUpTo n new
upto_sends n xid upto wsize old new file (Ok shown) sends h = upto-sent n xid upto _ old new file sends (upto-chosen n upto wsize old file h) h
upto_sends n xid upto wsize old new file (Err memory) sends h = subst (AllUpTo n) (sym sends) h

pub upto_answered : (n xid count : ℕ) (change : Change) (old new : Pending) (file : List ℕ) (result : Result ⊤ Memory)
    → OnOk result (OnFile old new file (at_xid (landed_part change count) xid (of_file file old))) → OnErr result (OnFile old new file (at_xid (landed by.Return) xid (of_file file old))) → AllUpTo n old → AllUpTo n new
upto_answered n xid count change old new file (Ok done) ok err h = upto-acked n xid count change old new file ok h
upto_answered n xid count change old new file (Err memory) ok err h = upto-ended n xid by.Return old new file err h
