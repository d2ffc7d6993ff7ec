-- What a piece that is sent next has at each place.
use Rattle.std.proofs.Common.{◌≡◌, ◌<◌, ◌≤◌, ◌^◌, ℕ, ◌+◌, ◌-◌, ◌&&◌, Bool, true, false, List, [], ◌∷◌, ◌++◌, length, map, take, drop, min, Some, None, refl, sym, ap, ◌∙◌, ◌⊎◌, inl, inr, subst, arith, length-drop, length-take, length-append}
use Rattle.std.specs.Prelude.{nat_le, nat_lt, nat_eq, not, slice_index}
use Rattle.std.specs.List.{sum_by}
use Rattle.std.proofs.lemmas.Bool.{lt-ltb, le-ltb, ltb-true, leb-true, eqb-true, and_parts, cases_lt}
use Rattle.std.proofs.lemmas.List.{get_or-take, get_or_append_left, get_or-append_right}
use Rattle.std.proofs.lemmas.List.Sums.{sum_by-cons}
use Rattle.write_back.specs.declared.state.State.{State}
use Rattle.write_back.specs.declared.state.State.TheVariants.{Waiting, InFlight, Acked}
use Rattle.write_back.specs.declared.change.Change.TheVariants.{Send}
use Rattle.write_back.specs.declared.sent.Part.{Part}
use Rattle.write_back.specs.States.{is_in_flight, is_ready, ready_of, sent}
use Rattle.write_back.specs.Segments.{Segment, Segments, AreApart, end_of, covers, cell_at, head_of, tail_of, with_state, split, own_size, own_of}
use Rattle.write_back.specs.Changes.{changed, fate_between}
use Rattle.write_back.specs.Pieces.{Sent, part_at, fly_in, overlaps}
use Rattle.write_back.specs.Choice.{may_go, how_of_segment, run_from, chosen_from, bytes_in, part_of}
use Rattle.write_back.specs.Sound.{StopsAt}
use Rattle.write_back.proofs.Keys.{in-range, past-range, before-range}
use Rattle.write_back.proofs.Apart.{apart-split}
use Rattle.write_back.proofs.Changing.{changed-lower, apart-lower}
use Rattle.write_back.proofs.Gathering.{run-zero}
use Rattle.write_back.proofs.ByPlace.{covered}
use Rattle.write_back.proofs.Stops.{stops-later}
use Rattle.write_back.proofs.Flying.{fly-none}
use Rattle.write_back.proofs.Sums.{own-cons}
use Rattle.write_back.proofs.OwnBytes.{own-split}

-- a place of a piece: the part that has it, and that its byte may go
pub record AtPlace (pieces : List Sent) (upto : ℕ) (es : Segments) (bytes : List ℕ) (parts : List Part) (from place : ℕ) : Type 0 where
  pub part : Part
  pub there : part_at parts (place - from) ≡ Some part
  pub cell : cell_at es place ≡ Some (record { byte = slice_index bytes (place - from); number = part.number; state = Waiting part.before })
  pub old_enough : part.number ≤ upto
  pub free : fly_in pieces place ≡ None

-- segments that are sent from a place on
pub record IsRun (pieces : List Sent) (upto : ℕ) (es : Segments) (from : ℕ) (run : Segments) : Type 0 where
  pub has : (place : ℕ) → from ≤ place → place < from + length (bytes_in run) → AtPlace pieces upto es (bytes_in run) (map part_of run) from place
  pub last : from + length (bytes_in run) ≤ 2 ^ 63 - 1
  pub own : own_of (changed Send from (from + length (bytes_in run)) (split (from + length (bytes_in run)) es)) + length (bytes_in run) ≡ own_of es

pub parts-sum : (run : Segments) → sum_by (λ (part : Part). part.size) (map part_of run) ≡ length (bytes_in run)
parts-sum [] = refl
parts-sum (e ∷ run) = sum_by-cons (λ (part : Part). part.size) (part_of e) (map part_of run) ∙ ap (λ n. length e.1.bytes + n) (parts-sum run) ∙ sym (length-append e.1.bytes (bytes_in run))

-- what isn't sent counts as before
own-kept : (low high : ℕ) (e : ℕ × Segment) (es : Segments) → (nat_le low e.0 && nat_lt e.0 high) ≡ false → own_of (changed Send low high es) ≡ own_of es → own_of (changed Send low high (e ∷ es)) ≡ own_of (e ∷ es)
own-kept low high e es out more = rw out (own-cons (e.0, with_state e.1.state e.1) (changed Send low high es) ∙ ap (λ n. own_size e.1 + n) more ∙ sym (own-cons e es))

own-empty : (low high : ℕ) (es : Segments) → high ≤ low → own_of (changed Send low high es) ≡ own_of es
own-empty low high [] none = refl
own-empty low high (e ∷ es) none = own-kept low high e es (by (cases_lt e.0 low)) (own-empty low high es none)
  where
    by : (e.0 < low) ⊎ (low ≤ e.0) → (nat_le low e.0 && nat_lt e.0 high) ≡ false
    by (inl less) = before-range low high e.0 less
    by (inr more) = past-range low high e.0 (omega (arith, none, more))

own-later : (low high from : ℕ) (es : Segments) → AreApart from es → high ≤ from → own_of (changed Send low high es) ≡ own_of es
own-later low high from [] apart past = refl
own-later low high from (e ∷ es) apart past = own-kept low high e es (past-range low high e.0 (omega (arith, past, apart.0))) (own-later low high (end_of e) es apart.3 (omega (arith, past, apart.0)))

ready-is : (state : State) → is_ready state ≡ true → state ≡ Waiting (ready_of state)
ready-is (Waiting ready) t = refl
ready-is (InFlight ready) t = absurd cc
ready-is (Acked verf) t = absurd cc

ready-own : (s : Segment) → is_ready s.state ≡ true → own_size s ≡ length s.bytes
ready-own s t = rw (ready-is s.state t) refl

sent-none : (s : Segment) → is_ready s.state ≡ true → own_size (with_state (sent s.state) s) ≡ 0
sent-none s t = rw (ready-is s.state t) refl

-- no segment is sent
run-none : (pieces : List Sent) (upto from : ℕ) (es : Segments) → from ≤ 2 ^ 63 - 1 → IsRun pieces upto es from []
run-none pieces upto from es most = record {
  has = λ place first last. absurd (omega (arith, first, last));
  last = omega (arith, most);
  own = omega (arith, own-empty from (from + 0) (split (from + 0) es) (omega arith), own-split (λ _. true) (from + 0) es);
}

-- one segment is sent, and others that touch it
module _ (pieces : List Sent) (upto room : ℕ) (e : ℕ × Segment) (es run : Segments) (apart : AreApart (end_of e) es) (some : 0 < length e.1.bytes) (ends : end_of e ≤ 2 ^ 63 - 1)
    (ready : is_ready e.1.state ≡ true) (number : nat_le e.1.number upto ≡ true) (free : overlaps pieces e.0 (end_of e) ≡ false) (more : IsRun pieces upto es (end_of e) run) (full : (room < length e.1.bytes → run ≡ []) × (0 < room)) where
  front : List ℕ
  front = take room e.1.bytes

  size : length (take room e.1.bytes) ≡ min room (length e.1.bytes)
  size = length-take room e.1.bytes

  total : length (bytes_in ((e.0, head_of room e.1) ∷ run)) ≡ length (take room e.1.bytes) + length (bytes_in run)
  total = length-append (take room e.1.bytes) (bytes_in run)

  here : (place : ℕ) → e.0 ≤ place → place < e.0 + length (take room e.1.bytes) → AtPlace pieces upto (e ∷ es) (bytes_in ((e.0, head_of room e.1) ∷ run)) (map part_of ((e.0, head_of room e.1) ∷ run)) e.0 place
  here place first last =
      let among : nat_lt (place - e.0) (length (take room e.1.bytes)) ≡ true = lt-ltb (place - e.0) (length (take room e.1.bytes)) (omega (arith, first, last)) in
      let inside : covers e.0 (length e.1.bytes) place ≡ true = covered e.0 (length e.1.bytes) place first (omega (arith, last, size)) in
      let byte : slice_index (take room e.1.bytes ++ bytes_in run) (place - e.0) ≡ slice_index e.1.bytes (place - e.0) =
      get_or_append_left (take room e.1.bytes) (bytes_in run) 0 (place - e.0) (omega (arith, first, last)) ∙ get_or-take room e.1.bytes (place - e.0) 0 (omega (arith, first, last, size)) in
      record {
        part = part_of (e.0, head_of room e.1);
        there = rw among refl;
        cell = rw inside (ap (λ b. Some (record { byte = b; number = e.1.number; state = e.1.state })) (sym byte) ∙ ap (λ st. Some (record { byte = slice_index (take room e.1.bytes ++ bytes_in run) (place - e.0); number = e.1.number; state = st })) (ready-is e.1.state ready));
        old_enough = leb-true e.1.number upto number;
        free = fly-none pieces e.0 (end_of e) place free first (omega (arith, last, size));
      }

  there : (place : ℕ) → length (take room e.1.bytes) ≡ length e.1.bytes → end_of e ≤ place → place < end_of e + length (bytes_in run) → AtPlace pieces upto (e ∷ es) (bytes_in ((e.0, head_of room e.1) ∷ run)) (map part_of ((e.0, head_of room e.1) ∷ run)) e.0 place
  there place all first last =
      let at = more.has place first last in
      let past : nat_lt (place - e.0) (length (take room e.1.bytes)) ≡ false = le-ltb (place - e.0) (length (take room e.1.bytes)) (omega (arith, first, all)) in
      let less : place - e.0 - length (take room e.1.bytes) ≡ place - end_of e = omega (arith, all) in
      let off : covers e.0 (length e.1.bytes) place ≡ false = past-range e.0 (end_of e) place first in
      let byte : slice_index (take room e.1.bytes ++ bytes_in run) (place - e.0) ≡ slice_index (bytes_in run) (place - end_of e) =
      get_or-append_right (take room e.1.bytes) (bytes_in run) (length (take room e.1.bytes)) (place - e.0) 0 refl (omega (arith, first, all)) ∙ ap (λ n. slice_index (bytes_in run) n) less in
      record {
        part = at.part;
        there = rw past (ap (part_at (map part_of run)) less ∙ at.there);
        cell = rw off (at.cell ∙ ap (λ b. Some (record { byte = b; number = at.part.number; state = Waiting at.part.before })) (sym byte));
        old_enough = at.old_enough;
        free = at.free;
      }

  has-more : (place : ℕ) → e.0 ≤ place → place < e.0 + length (bytes_in ((e.0, head_of room e.1) ∷ run)) → AtPlace pieces upto (e ∷ es) (bytes_in ((e.0, head_of room e.1) ∷ run)) (map part_of ((e.0, head_of room e.1) ∷ run)) e.0 place
  has-more place first last = by (cases_lt place (e.0 + length (take room e.1.bytes))) (cases_lt room (length e.1.bytes))
    where
      by : (place < e.0 + length (take room e.1.bytes)) ⊎ (e.0 + length (take room e.1.bytes) ≤ place) → (room < length e.1.bytes) ⊎ (length e.1.bytes ≤ room)
          → AtPlace pieces upto (e ∷ es) (bytes_in ((e.0, head_of room e.1) ∷ run)) (map part_of ((e.0, head_of room e.1) ∷ run)) e.0 place
      by (inl less) c = here place first less
      by (inr past) (inl short) =
          let none : length (bytes_in run) ≡ 0 = ap (λ z. length (bytes_in z)) (full.0 short) in
          absurd (omega (arith, last, total, none, past))
      by (inr past) (inr long) = there place (omega (arith, size, long)) (omega (arith, size, long, past)) (omega (arith, last, total, size, long))

  -- all of it is sent
  own-all-of : length e.1.bytes ≤ room → own_of (changed Send e.0 (e.0 + length (bytes_in ((e.0, head_of room e.1) ∷ run))) (split (e.0 + length (bytes_in ((e.0, head_of room e.1) ∷ run))) (e ∷ es))) + length (bytes_in ((e.0, head_of room e.1) ∷ run)) ≡ own_of (e ∷ es)
  own-all-of long =
      let sum : e.0 + length (bytes_in ((e.0, head_of room e.1) ∷ run)) ≡ end_of e + length (bytes_in run) = omega (arith, total, size, long) in
      let first : nat_lt e.0 (end_of e + length (bytes_in run)) ≡ true = lt-ltb e.0 (end_of e + length (bytes_in run)) (omega (arith, some)) in
      let past : nat_lt (end_of e + length (bytes_in run)) (end_of e) ≡ false = le-ltb (end_of e + length (bytes_in run)) (end_of e) (omega arith) in
      let inside : (nat_le e.0 e.0 && nat_lt e.0 (end_of e + length (bytes_in run))) ≡ true = in-range e.0 (end_of e + length (bytes_in run)) e.0 (omega arith) (omega (arith, some)) in
      let later : changed Send e.0 (end_of e + length (bytes_in run)) (split (end_of e + length (bytes_in run)) es) ≡ changed Send (end_of e) (end_of e + length (bytes_in run)) (split (end_of e + length (bytes_in run)) es) =
      changed-lower Send e.0 (end_of e) (end_of e + length (bytes_in run)) (end_of e) (split (end_of e + length (bytes_in run)) es) (apart-split (λ _. true) (end_of e + length (bytes_in run)) (end_of e) es apart) (omega arith) (omega arith) in
      let cut : split (end_of e + length (bytes_in run)) (e ∷ es) ≡ e ∷ split (end_of e + length (bytes_in run)) es = rw (first, past) refl in
      let is : changed Send e.0 (end_of e + length (bytes_in run)) (e ∷ split (end_of e + length (bytes_in run)) es) ≡ (e.0, with_state (sent e.1.state) e.1) ∷ changed Send (end_of e) (end_of e + length (bytes_in run)) (split (end_of e + length (bytes_in run)) es) =
      rw inside (ap (λ z. (e.0, with_state (sent e.1.state) e.1) ∷ z) later) in
      let owns : own_of (changed Send e.0 (e.0 + length (bytes_in ((e.0, head_of room e.1) ∷ run))) (split (e.0 + length (bytes_in ((e.0, head_of room e.1) ∷ run))) (e ∷ es))) ≡ own_size (with_state (sent e.1.state) e.1) + own_of (changed Send (end_of e) (end_of e + length (bytes_in run)) (split (end_of e + length (bytes_in run)) es)) =
      ap (λ n. own_of (changed Send e.0 n (split n (e ∷ es)))) sum ∙ ap (λ z. own_of (changed Send e.0 (end_of e + length (bytes_in run)) z)) cut ∙ ap own_of is
      ∙ own-cons (e.0, with_state (sent e.1.state) e.1) (changed Send (end_of e) (end_of e + length (bytes_in run)) (split (end_of e + length (bytes_in run)) es)) in
      omega (arith, owns, sent-none e.1 ready, more.own, own-cons e es, ready-own e.1 ready, total, size, long)

  -- its first bytes are
  own-head-of : room < length e.1.bytes → own_of (changed Send e.0 (e.0 + length (bytes_in ((e.0, head_of room e.1) ∷ run))) (split (e.0 + length (bytes_in ((e.0, head_of room e.1) ∷ run))) (e ∷ es))) + length (bytes_in ((e.0, head_of room e.1) ∷ run)) ≡ own_of (e ∷ es)
  own-head-of short =
      let none : length (bytes_in run) ≡ 0 = ap (λ z. length (bytes_in z)) (full.0 short) in
      let sum : e.0 + length (bytes_in ((e.0, head_of room e.1) ∷ run)) ≡ e.0 + room = omega (arith, total, size, short, none) in
      let first : nat_lt e.0 (e.0 + room) ≡ true = lt-ltb e.0 (e.0 + room) (omega (arith, full.1)) in
      let past : nat_lt (e.0 + room) (end_of e) ≡ true = lt-ltb (e.0 + room) (end_of e) (omega (arith, short)) in
      let less : e.0 + room - e.0 ≡ room = omega arith in
      let cut : split (e.0 + room) (e ∷ es) ≡ (e.0, head_of room e.1) ∷ (e.0 + room, tail_of room e.1) ∷ es = rw (first, past) (ap (λ n. (e.0, head_of n e.1) ∷ (e.0 + room, tail_of n e.1) ∷ es) less) in
      let inside : (nat_le e.0 e.0 && nat_lt e.0 (e.0 + room)) ≡ true = in-range e.0 (e.0 + room) e.0 (omega arith) (omega (arith, full.1)) in
      let is : changed Send e.0 (e.0 + room) ((e.0, head_of room e.1) ∷ (e.0 + room, tail_of room e.1) ∷ es) ≡ (e.0, with_state (sent e.1.state) (head_of room e.1)) ∷ changed Send e.0 (e.0 + room) ((e.0 + room, tail_of room e.1) ∷ es) = rw inside refl in
      let none-own : own_size (with_state (sent e.1.state) (head_of room e.1)) ≡ 0 = sent-none (head_of room e.1) ready in
      let owns : own_of (changed Send e.0 (e.0 + length (bytes_in ((e.0, head_of room e.1) ∷ run))) (split (e.0 + length (bytes_in ((e.0, head_of room e.1) ∷ run))) (e ∷ es))) ≡ own_size (with_state (sent e.1.state) (head_of room e.1)) + own_of (changed Send e.0 (e.0 + room) ((e.0 + room, tail_of room e.1) ∷ es)) =
      ap (λ n. own_of (changed Send e.0 n (split n (e ∷ es)))) sum ∙ ap (λ z. own_of (changed Send e.0 (e.0 + room) z)) cut ∙ ap own_of is
      ∙ own-cons (e.0, with_state (sent e.1.state) (head_of room e.1)) (changed Send e.0 (e.0 + room) ((e.0 + room, tail_of room e.1) ∷ es)) in
      let past-apart : AreApart (e.0 + room) ((e.0 + room, tail_of room e.1) ∷ es) = (omega arith, omega (arith, length-drop room e.1.bytes, short), omega (arith, length-drop room e.1.bytes, short, ends), apart-lower (e.0 + room + length (drop room e.1.bytes)) (end_of e) es (omega (arith, length-drop room e.1.bytes, short)) apart) in
      let tail-own : own_size (tail_of room e.1) ≡ length (drop room e.1.bytes) = ready-own (tail_of room e.1) ready in
      omega (arith, owns, none-own, own-later e.0 (e.0 + room) (e.0 + room) ((e.0 + room, tail_of room e.1) ∷ es) past-apart (omega arith), own-cons (e.0 + room, tail_of room e.1) es, tail-own, length-drop room e.1.bytes, own-cons e es, ready-own e.1 ready, total, size, short, none)

  pub run-more : IsRun pieces upto (e ∷ es) e.0 ((e.0, head_of room e.1) ∷ run)
  run-more = record { has = has-more; last = omega (arith, total, size, more.last); own = by (cases_lt room (length e.1.bytes)) }
    where
      by : (room < length e.1.bytes) ⊎ (length e.1.bytes ≤ room)
          → own_of (changed Send e.0 (e.0 + length (bytes_in ((e.0, head_of room e.1) ∷ run))) (split (e.0 + length (bytes_in ((e.0, head_of room e.1) ∷ run))) (e ∷ es))) + length (bytes_in ((e.0, head_of room e.1) ∷ run)) ≡ own_of (e ∷ es)
      by (inl short) = own-head-of short
      by (inr long) = own-all-of long

-- the tests of a segment that may go
go-ready : (pieces : List Sent) (upto : ℕ) (e : ℕ × Segment) → may_go pieces upto e ≡ true → is_ready e.1.state ≡ true
go-ready pieces upto e go = (and_parts (is_ready e.1.state) (nat_le e.1.number upto) ((and_parts (is_ready e.1.state && nat_le e.1.number upto) (not (overlaps pieces e.0 (end_of e))) go).0)).0

go-number : (pieces : List Sent) (upto : ℕ) (e : ℕ × Segment) → may_go pieces upto e ≡ true → nat_le e.1.number upto ≡ true
go-number pieces upto e go = (and_parts (is_ready e.1.state) (nat_le e.1.number upto) ((and_parts (is_ready e.1.state && nat_le e.1.number upto) (not (overlaps pieces e.0 (end_of e))) go).0)).1

go-free : (pieces : List Sent) (upto : ℕ) (e : ℕ × Segment) → may_go pieces upto e ≡ true → overlaps pieces e.0 (end_of e) ≡ false
go-free pieces upto e go = un (overlaps pieces e.0 (end_of e)) ((and_parts (is_ready e.1.state && nat_le e.1.number upto) (not (overlaps pieces e.0 (end_of e))) go).1)
  where
    un : (b : Bool) → not b ≡ true → b ≡ false
    un true h = absurd cc
    un false h = refl

pub run-is : (pieces : List Sent) (upto how place room from : ℕ) (es : Segments) → AreApart from es → place ≤ 2 ^ 63 - 1 → IsRun pieces upto es place (run_from pieces upto how place room es)
run-is pieces upto how place room from [] apart most = run-none pieces upto place [] most
run-is pieces upto how place room from (e ∷ es) apart most = by (may_go pieces upto e && nat_eq (how_of_segment e) how && nat_eq e.0 place && nat_lt 0 room) refl (run-is pieces upto how (end_of e) (room - length e.1.bytes) (end_of e) es apart.3 apart.2)
  where
    by : (b : Bool) → (may_go pieces upto e && nat_eq (how_of_segment e) how && nat_eq e.0 place && nat_lt 0 room) ≡ b → IsRun pieces upto es (end_of e) (run_from pieces upto how (end_of e) (room - length e.1.bytes) es)
        → IsRun pieces upto (e ∷ es) place (run_from pieces upto how place room (e ∷ es))
    by false h more = rw h (run-none pieces upto place (e ∷ es) most)
    by true h more =
        let three = and_parts (may_go pieces upto e && nat_eq (how_of_segment e) how && nat_eq e.0 place) (nat_lt 0 room) h in
        let two = and_parts (may_go pieces upto e && nat_eq (how_of_segment e) how) (nat_eq e.0 place) three.0 in
        let go : may_go pieces upto e ≡ true = (and_parts (may_go pieces upto e) (nat_eq (how_of_segment e) how) two.0).0 in
        let same : e.0 ≡ place = eqb-true e.0 place two.1 in
        rw h (subst (λ p. IsRun pieces upto (e ∷ es) p ((e.0, head_of room e.1) ∷ run_from pieces upto how (end_of e) (room - length e.1.bytes) es)) same
        (run-more pieces upto room e es (run_from pieces upto how (end_of e) (room - length e.1.bytes) es) apart.3 apart.1 apart.2 (go-ready pieces upto e go) (go-number pieces upto e go) (go-free pieces upto e go) more
        ((λ short. run-zero pieces upto how (end_of e) (room - length e.1.bytes) es (omega (arith, short))), ltb-true 0 room three.1)))

-- an earlier segment
run-skip : (pieces : List Sent) (upto place from : ℕ) (e : ℕ × Segment) (es run : Segments) → AreApart from (e ∷ es) → end_of e ≤ place → IsRun pieces upto es place run → IsRun pieces upto (e ∷ es) place run
run-skip pieces upto place from e es run apart later is = record { has = λ q first last. has q first last; last = is.last; own = own }
  where
    has : (q : ℕ) → place ≤ q → q < place + length (bytes_in run) → AtPlace pieces upto (e ∷ es) (bytes_in run) (map part_of run) place q
    has q first last =
        let at = is.has q first last in
        let off : covers e.0 (length e.1.bytes) q ≡ false = past-range e.0 (end_of e) q (omega (arith, later, first)) in
        record { part = at.part; there = at.there; cell = rw off at.cell; old_enough = at.old_enough; free = at.free }

    own : own_of (changed Send place (place + length (bytes_in run)) (split (place + length (bytes_in run)) (e ∷ es))) + length (bytes_in run) ≡ own_of (e ∷ es)
    own =
        let begins : nat_lt e.0 (place + length (bytes_in run)) ≡ true = lt-ltb e.0 (place + length (bytes_in run)) (omega (arith, later, apart.1)) in
        let ends : nat_lt (place + length (bytes_in run)) (end_of e) ≡ false = le-ltb (place + length (bytes_in run)) (end_of e) (omega (arith, later)) in
        let out : (nat_le place e.0 && nat_lt e.0 (place + length (bytes_in run))) ≡ false = before-range place (place + length (bytes_in run)) e.0 (omega (arith, later, apart.1)) in
        let cut : split (place + length (bytes_in run)) (e ∷ es) ≡ e ∷ split (place + length (bytes_in run)) es = rw (begins, ends) refl in
        let left : changed Send place (place + length (bytes_in run)) (e ∷ split (place + length (bytes_in run)) es) ≡ (e.0, with_state e.1.state e.1) ∷ changed Send place (place + length (bytes_in run)) (split (place + length (bytes_in run)) es) = rw out refl in
        let owns : own_of (changed Send place (place + length (bytes_in run)) (split (place + length (bytes_in run)) (e ∷ es))) ≡ own_size e.1 + own_of (changed Send place (place + length (bytes_in run)) (split (place + length (bytes_in run)) es)) =
        ap (λ z. own_of (changed Send place (place + length (bytes_in run)) z)) cut ∙ ap own_of left ∙ own-cons (e.0, with_state e.1.state e.1) (changed Send place (place + length (bytes_in run)) (split (place + length (bytes_in run)) es)) in
        omega (arith, owns, is.own, own-cons e es)

-- what is sent next, if anything is
pub record IsChosen (pieces : List Sent) (upto : ℕ) (es : Segments) (first : ℕ × Segment) (run : Segments) : Type 0 where
  pub is_run : IsRun pieces upto es first.0 (first ∷ run)
  pub some : 0 < length first.1.bytes
  pub stops : StopsAt (λ _. true) first.0 es

pub chosen-is : (pieces : List Sent) (upto wsize from : ℕ) (es : Segments) (first : ℕ × Segment) (run : Segments) → AreApart from es → chosen_from pieces upto wsize es ≡ first ∷ run → (IsChosen pieces upto es first run) × (from ≤ first.0)
chosen-is pieces upto wsize from [] first run apart is = absurd cc
chosen-is pieces upto wsize from (e ∷ es) first run apart is = by (may_go pieces upto e) refl (λ k. chosen-is pieces upto wsize (end_of e) es first run apart.3 k)
  where
    by : (b : Bool) → may_go pieces upto e ≡ b → (chosen_from pieces upto wsize es ≡ first ∷ run → (IsChosen pieces upto es first run) × (end_of e ≤ first.0)) → (IsChosen pieces upto (e ∷ es) first run) × (from ≤ first.0)
    by false h more =
        let k : chosen_from pieces upto wsize es ≡ first ∷ run = (rw h at is) in
        let m = more k in (
          record {
            is_run = run-skip pieces upto first.0 from e es (first ∷ run) apart m.1 m.0.is_run;
            some = m.0.some;
            stops = ((λ t less. m.1), m.0.stops);
          },
          omega (arith, m.1, apart.0),
        )
    by true h more =
        let here : chosen_from pieces upto wsize (e ∷ es) ≡ run_from pieces upto (how_of_segment e) e.0 wsize (e ∷ es) = rw h refl in
        let k : run_from pieces upto (how_of_segment e) e.0 wsize (e ∷ es) ≡ first ∷ run = sym here ∙ is in
        let all : IsRun pieces upto (e ∷ es) e.0 (first ∷ run) = subst (λ z. IsRun pieces upto (e ∷ es) e.0 z) k (run-is pieces upto (how_of_segment e) e.0 wsize from (e ∷ es) apart (omega (arith, apart.2))) in
        begins (may_go pieces upto e && nat_eq (how_of_segment e) (how_of_segment e) && nat_eq e.0 e.0 && nat_lt 0 wsize) refl k all
      where
        begins : (b : Bool) → (may_go pieces upto e && nat_eq (how_of_segment e) (how_of_segment e) && nat_eq e.0 e.0 && nat_lt 0 wsize) ≡ b → run_from pieces upto (how_of_segment e) e.0 wsize (e ∷ es) ≡ first ∷ run → IsRun pieces upto (e ∷ es) e.0 (first ∷ run)
            → (IsChosen pieces upto (e ∷ es) first run) × (from ≤ first.0)
        begins false g k all = let wrong : [] ≡ first ∷ run = (rw g at k) in absurd cc
        begins true g k all =
            let same : (e.0, head_of wsize e.1) ≡ first = (let z : (e.0, head_of wsize e.1) ∷ run_from pieces upto (how_of_segment e) (end_of e) (wsize - length e.1.bytes) es ≡ first ∷ run = (rw g at k) in cc) in
            let key : e.0 ≡ first.0 = ap (λ (z : ℕ × Segment). z.0) same in
            let size : length (take wsize e.1.bytes) ≡ length first.1.bytes = ap (λ (z : ℕ × Segment). length z.1.bytes) same in
            let room : 0 < wsize = ltb-true 0 wsize ((and_parts (may_go pieces upto e && nat_eq (how_of_segment e) (how_of_segment e) && nat_eq e.0 e.0) (nat_lt 0 wsize) g).1) in (
              record {
                is_run = subst (λ n. IsRun pieces upto (e ∷ es) n (first ∷ run)) key all;
                some = omega (arith, size, length-take wsize e.1.bytes, room, apart.1);
                stops = stops-later (λ _. true) first.0 e.0 (e ∷ es) (omega arith, apart.1, apart.2, apart.3) (omega (arith, key));
              },
              omega (arith, key, apart.0),
            )
