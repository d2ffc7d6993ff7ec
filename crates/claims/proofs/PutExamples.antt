-- Worked examples of operations, by puts to the root's own file: what an operation writes, when it is answered, what it
-- touches, and what is pending.
use Rattle.std.proofs.Common.{◌≡◌, ◌<◌, ◌≤◌, ◌+◌, ℕ, zero, suc, true, false, List, [], ◌∷◌, Option, Some, refl, sym, ◌∙◌, arith, slice_get}
use Rattle.world_model.specs.declared.answer.Answer.{Answer}
use Rattle.world_model.specs.declared.answer.Answer.TheVariants.{Done, Refused}
use Rattle.world_model.specs.declared.answer.Fault.TheVariants as faults
use Rattle.world_model.specs.declared.answer.Value.TheVariants as values
use Rattle.world_model.specs.declared.entry.Entry.{Entry}
use Rattle.world_model.specs.declared.entry.Entry.TheVariants.{Began, Answered, Delivered, Sent}
use Rattle.world_model.specs.declared.message.Call.{Call}
use Rattle.world_model.specs.declared.op.Op.{Op}
use Rattle.world_model.specs.declared.op.Op.TheVariants as ops
use Rattle.world_model.specs.Entries.{At}
use Rattle.world_model.specs.History.{History}
use Rattle.world_model.specs.Leads.{Leads, root}
use Rattle.claims.specs.Modes.{Modes, usual_modes}
use Rattle.world_model.specs.Mounts.{Origin, Given}
use Rattle.world_model.specs.Server.{Object, Server}
use Rattle.world_model.specs.Operations.{Ended, AnsweredBefore, unanswered, UnderWay, LastReply}
use Rattle.claims.specs.Slots.{Opens, InSlot}
use Rattle.claims.specs.Touched.{Covers, WritesByte, write, fill, put, Cuts, RefusedWrite, IsAnsweredPut, Touched, foreign, written, cut, gone, given_up, Wrote, Truncated, MadeStable}
use Rattle.claims.specs.Pending.{NoPutAt, PutSucceeded, LeftAlone, Pending}
use Rattle.world_model.proofs.ServiceExamples.{server}

-- a put of one byte at the place 0 of the root's own file, whose file handle has no byte
abbrev pub puts_byte : ℕ → Op
puts_byte byte = ops.Put [] 0 (byte ∷ [])

abbrev pub origin : Origin
origin = Given []

abbrev ok : Answer
ok = Done values.Nothing

abbrev refusal : Answer
refusal = Refused (faults.Nfs 5)

-- ---- when an operation is answered

abbrev answered_twice : List Entry
answered_twice = Began 1 1 (puts_byte 97) ∷ Answered 1 1 ok ∷ Answered 1 1 refusal ∷ []

first_answer : (j : ℕ) (a : Answer) → At answered_twice j (Answered 1 1 a) → 0 < j → 1 ≤ j
first_answer j a at lt = omega (arith, lt)

-- the first answer ends it
ends_once : Ended answered_twice 1 0 (puts_byte 97) 1 ok
ends_once = record { line = 1; began = refl; answered = refl; later = omega arith; first = first_answer }

-- and no other
ends_no_more : (e : Ended answered_twice 1 0 (puts_byte 97) 2 refusal) → ⊥
ends_no_more e = let l : 1 ≡ e.line = cc e.began in let f = e.first 1 ok (rw l refl) (omega arith) in omega (arith, f)

-- before its answer it is under way, and after it isn't
is_under_way : UnderWay answered_twice 1 0 1 (puts_byte 97)
is_under_way = record { line = 1; began = refl; before = omega arith; unanswered = λ a. omega (arith, a.before, a.ended.later) }

is_over : UnderWay answered_twice 1 0 2 (puts_byte 97) → ⊥
is_over u = u.unanswered (record { lane = 1; op = puts_byte 97; y = 1; answer = ok; ended = ends_once; before = omega arith })

-- ---- the reply that came last answers a call that was sent before it

abbrev sent_later : List Entry
sent_later = Delivered (0 ∷ 0 ∷ 0 ∷ 9 ∷ []) ∷ Answered 1 1 ok ∷ Sent (0 ∷ 0 ∷ 0 ∷ 9 ∷ []) ∷ []

comes_first : (at : ℕ) (bytes : List ℕ) → At sent_later at (Delivered bytes) → at ≡ 0
comes_first zero bytes e = refl
comes_first (suc zero) bytes e = absurd (cc e)
comes_first (suc (suc zero)) bytes e = absurd (cc e)
comes_first (suc (suc (suc at))) bytes e = absurd (cc e)

answers_no_later_call : (call : Call) → LastReply sent_later 3 call → ⊥
answers_no_later_call call l = let z = comes_first l.at l.bytes l.got in omega (arith, z, l.asked)

-- ---- slots

-- a slot holds its open until a close of it was answered, also at the place of that answer
held_until : (m : Modes) (h : List Entry) (n lane slot x y : ℕ) (f : List ℕ) → Opens m h lane slot x y f → y < n → ((c k : ℕ) (a : Answer) → Ended h lane c (ops.Close slot) k a → y < k → n ≤ k) → InSlot m h n lane slot x f
held_until m h n lane slot x y f o before later = record { y = y; opens = o; before = before; kept = λ c k a e after soon. let le = later c k a e after in omega (arith, le, soon) }

-- ---- what a put writes

abbrev pub one_put : List Entry
one_put = Began 1 1 (puts_byte 97) ∷ []

pub never_answered : (x n : ℕ) → AnsweredBefore one_put x n → ⊥
never_answered x n a = none a.y a.lane a.ended.line a.answer a.ended.answered
  where
    none : (y lane line : ℕ) (answer : Answer) → At one_put y (Answered lane line answer) → ⊥
    none zero lane line answer e = absurd (cc e)
    none (suc y) lane line answer e = absurd (cc e)

leads : (h : List Entry) (n : ℕ) → Leads origin h n [] []
leads h n = root [] [] refl refl

writes_its_byte : WritesByte usual_modes origin one_put 0 [] 0 97
writes_its_byte = put 1 1 0 1 [] (97 ∷ []) refl (unanswered (λ a. never_answered 0 1 a) refl) (leads one_put 1) (record { k = 0; place = refl; byte = refl })

-- a place past its bytes isn't covered
covers_no_more : (v : ℕ) → Covers 0 (97 ∷ []) 1 v → ⊥
covers_no_more v c = none c.k c.place c.byte
  where
    none : (k : ℕ) → 1 ≡ 0 + k → slice_get (97 ∷ []) k ≡ Some v → ⊥
    none zero place byte = omega (arith, place)
    none (suc k) place byte = absurd (cc byte)

abbrev entry : Entry → Option Entry
entry e = Some e

-- a truncate to a size above a place doesn't cut it
cuts_no_lower : (m : Modes) (h : List Entry) (x lane line slot i : ℕ) (f : List ℕ) → At h x (Began lane line (ops.Truncate slot (suc i))) → Cuts m h x f i → ⊥
cuts_no_lower m h x lane line slot i f at c = let s : c.size ≡ suc i = size_is c.of.lane c.of.line c.slot c.size (sym c.of.began ∙ at) in omega (arith, s, c.low)
  where
    size_is : (l n s z : ℕ) → entry (Began l n (ops.Truncate s z)) ≡ entry (Began lane line (ops.Truncate slot (suc i))) → z ≡ suc i
    size_is l n s z e = cc

-- ---- pending

-- the byte of a put that is under way is pending, and no other is
pub is_pending : Pending usual_modes origin one_put [] 0 1 97
is_pending = record {
  w = 0;
  before = omega arith;
  writes = writes_its_byte;
  unrefused = not_refused;
  unput = λ d. never_answered 0 1 (record { lane = d.lane; op = ops.Put d.path d.offset d.bytes; y = d.y; answer = Done d.value; ended = d.ended; before = d.before });
  uncovered = λ x y u a. absurd (never_answered 0 x a);
  uncut = λ x y size a. absurd (never_answered 0 x a);
  unsettled = λ x y a. absurd (never_answered 0 x a);
  unleft = λ other k a. absurd (never_answered 0 k a);
}
  where
    not_refused : RefusedWrite one_put 0 → ⊥
    not_refused (write lane slot offset y bytes fault e) = absurd (cc e.began)
    not_refused (fill lane slot offset count byte y fault e) = absurd (cc e.began)

-- before it began it isn't
not_yet_pending : (v : ℕ) → Pending usual_modes origin one_put [] 0 0 v → ⊥
not_yet_pending v p = omega (arith, p.before)

pub pending_is : (h : List Entry) (x i v : ℕ) → WritesByte usual_modes origin one_put x [] i v → (i ≡ 0) × (v ≡ 97)
pending_is h zero i v (write slot offset bytes of c) = absurd (cc of.began)
pending_is h zero i v (fill slot offset count of low high) = absurd (cc of.began)
pending_is h zero i v (put lane line offset n path bytes at ends leads c) =
    let o : 0 ≡ offset = cc at in
    let b : 97 ∷ [] ≡ bytes = cc at in
    only c.k (rw o c.place) (rw b c.byte)
  where
    only : (k : ℕ) → i ≡ 0 + k → slice_get (97 ∷ []) k ≡ Some v → (i ≡ 0) × (v ≡ 97)
    only zero place byte = (omega (arith, place), cc)
    only (suc k) place byte = absurd (cc byte)
pending_is h (suc x) i v (write slot offset bytes of c) = absurd (cc of.began)
pending_is h (suc x) i v (fill slot offset count of low high) = absurd (cc of.began)
pending_is h (suc x) i v (put lane line offset n path bytes at ends leads c) = absurd (cc at)

-- A byte is pending until the answer that settles, covers, cuts or gives it up, or that ends its own put, also at the place of that answer.
pending_until : (m : Modes) (from : Origin) (h : List Entry) (w a i v : ℕ) (f : List ℕ) → w < a → WritesByte m from h w f i v → (RefusedWrite h w → ⊥)
    → ((d : PutSucceeded h w a) → a ≤ d.y) → ((x y u : ℕ) → AnsweredBefore h w x → Wrote m h x y f i u → a ≤ y) → ((x y size : ℕ) → AnsweredBefore h w x → Truncated m h x y f size → a ≤ y)
    → ((x y : ℕ) → AnsweredBefore h w x → MadeStable m h x y f → a ≤ y) → ((k : ℕ) → LeftAlone m h k f → a ≤ k) → Pending m from h f i a v
pending_until m from h w a i v f lt writes unrefused ends covers cuts settles leaves = record {
  w = w;
  before = lt;
  writes = writes;
  unrefused = unrefused;
  unput = λ d. omega (arith, ends d, d.before);
  uncovered = λ x y u b e soon. omega (arith, covers x y u b e, soon);
  uncut = λ x y size b e low soon. omega (arith, cuts x y size b e, soon);
  unsettled = λ x y b e soon. omega (arith, settles x y b e, soon);
  unleft = λ other k b e soon. omega (arith, leaves k e, soon);
}

-- a put is under way at the place 1
put_under_way : NoPutAt one_put 1 → ⊥
put_under_way none = never_answered 0 1 (none 0 1 1 0 [] (97 ∷ []) refl (omega arith))

-- ---- touched

abbrev told : List Entry → Server → History
told h s = record { entries = h; at = λ n. s }

abbrev two_puts : List Entry
two_puts = Began 1 1 (puts_byte 97) ∷ Began 2 1 (puts_byte 98) ∷ []

never_answered_two : (x n : ℕ) → AnsweredBefore two_puts x n → ⊥
never_answered_two x n a = none a.y a.lane a.ended.line a.answer a.ended.answered
  where
    none : (y lane line : ℕ) (answer : Answer) → At two_puts y (Answered lane line answer) → ⊥
    none zero lane line answer e = absurd (cc e)
    none (suc zero) lane line answer e = absurd (cc e)
    none (suc (suc y)) lane line answer e = absurd (cc e)

-- another put that isn't answered touches the place
touches : (s : Server) → Touched usual_modes origin (told two_puts s) 0 2 [] 0
touches s = written 1 98 (λ e. absurd (cc e)) (omega arith) (λ a. never_answered_two 1 0 a) (put 2 1 0 2 [] (98 ∷ []) refl (unanswered (λ a. never_answered_two 1 2 a) refl) (leads two_puts 2) (record { k = 0; place = refl; byte = refl })) not_refused
  where
    not_refused : RefusedWrite two_puts 1 → ⊥
    not_refused (write lane slot offset y bytes fault e) = absurd (cc e.began)
    not_refused (fill lane slot offset count byte y fault e) = absurd (cc e.began)

-- before it began it didn't, where the file is there
touches_not_yet : (o : Object) → o.gone ≡ false → Touched usual_modes origin (told two_puts (server o)) 0 1 [] 0 → ⊥
touches_not_yet o there (foreign n call reply after before at changes) = omega (arith, after, before)
touches_not_yet o there (written x v other before begun writes kept) = other (omega (arith, before))
touches_not_yet o there (cut x other before begun cuts) = other (omega (arith, before))
touches_not_yet o there (gone p is g) = absurd (cc (there, is, g))
touches_not_yet o there (given_up k after before g) = omega (arith, after, before)

-- what is gone is touched
touches_gone : (o : Object) → o.gone ≡ true → Touched usual_modes origin (told one_put (server o)) 0 1 [] 0
touches_gone o g = gone o refl g

-- ---- a put that was answered

abbrev put_refused : List Entry
put_refused = Began 1 1 (puts_byte 97) ∷ Answered 1 1 refusal ∷ []

put_ended : Ended put_refused 1 0 (puts_byte 97) 1 refusal
put_ended = record { line = 1; began = refl; answered = refl; later = omega arith; first = λ j a at lt. omega (arith, lt) }

-- after the place of its answer it was answered, and at that place it wasn't yet
answered_put : IsAnsweredPut put_refused 0 2
answered_put = record { lane = 1; path = []; offset = 0; bytes = 97 ∷ []; y = 1; answer = refusal; ended = put_ended; before = omega arith }

not_yet_answered_put : IsAnsweredPut put_refused 0 1 → ⊥
not_yet_answered_put a = omega (arith, a.ended.later, a.before)
