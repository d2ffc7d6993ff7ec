-- What the invariant of a settled byte says as the history ends; and what it is said of.
use Rattle.core_session.proofs.Prelude.{◌≡◌, ◌<◌, ◌≤◌, ◌-◌, ◌⊎◌, inl, inr, ℕ, zero, suc, Bool, List, [], ◌++◌, length, replicate, Some, None, slice_get, refl, sym, ap, subst, ◌∙◌, arith, append-nil, if◌then◌else◌, le-ltb, Answer, Fault, Value, Entry, Began, Answered, Op, At, Ended, AnsweredBefore, Terms, RefusedWrite, Wrote, At-one, At-back, At-below, At-grow, Mounted, Setup, View, byte_from, byte_by, WritesCarry, MadeAndKept, TouchedUntil, GoesWith}
use Rattle.claims.specs.Touched.{Covers, MadeStable}
use Rattle.core_session.specs.syncs.Until.{written, given_up}
use Rattle.world_model.specs.declared.answer.Answer.TheVariants as answers
use Rattle.world_model.specs.declared.op.Op.TheVariants as ops
use Rattle.claims.specs.Slots.{PutsTo}
use Rattle.claims.specs.Touched as touched_by
use Rattle.core_session.proofs.syncs.Fate.{Fate, later, busy, refused, well}
use Rattle.core_session.proofs.syncs.Looks.{Touching, plain, wrote, left_, owed, was_left, doomed, aside}
use Rattle.core_session.proofs.syncs.Lefts.{over}
use Rattle.core_session.proofs.syncs.Aparts.{Apart, apart-done, it_settled, it_came, it_left}
use Rattle.core_session.proofs.syncs.Stands.{SavesIt, by_slot, by_last, WritesIt, of_slot, of_last, Case, Phase, early, unsent, since, touched, made, SettledTwo, EndsIt}
use Rattle.core_session.proofs.syncs.Turning.{fixed-once}

-- ---- an operation's end

-- what ended within a shorter history ended there
pub ended-within : (h rest : List Entry) (l x : ℕ) (op : Op) (y : ℕ) (a : Answer) → y < length h → Ended (h ++ rest) l x op y a → Ended h l x op y a
ended-within h rest l x op y a low e = record {
  line = e.line;
  began = At-back h rest x (Began l e.line op) e.began (let early = e.later in omega (arith, early, low));
  answered = At-back h rest y (Answered l e.line a) e.answered low;
  later = e.later;
  first = λ k b at past. e.first k b (At-grow h rest k (Answered l e.line b) at) past;
}

pub ended-back : (h rest H : List Entry) → h ++ rest ≡ H → (l x : ℕ) (op : Op) (y : ℕ) (a : Answer) → y < length h → Ended H l x op y a → Ended h l x op y a
ended-back h rest H is l x op y a low e = ended-within h rest l x op y a low (subst (λ (k : List Entry). Ended k l x op y a) (sym is) e)

done-refused : (value : Value) (fault : Fault) → answers.Done value ≡ answers.Refused fault → ⊥
done-refused value fault e = cc

-- an operation that went well stands so
pub fate-ends : (h : List Entry) (v : View) (x : ℕ) (Q : Type 0) (lane : ℕ) (op : Op) (y : ℕ) (value : Value) → Ended h lane x op y (answers.Done value) → Fate h v x Q → Q
fate-ends h v x Q lane op y value e (later low) =
    absurd (let below = At-below h x (Began lane e.line op) e.began in omega (arith, low, below))
fate-ends h v x Q lane op y value e (busy k number machine o there u) =
    absurd (u.unanswered (record { lane = lane; op = op; y = y; answer = answers.Done value; ended = e; before = At-below h y (Answered lane e.line (answers.Done value)) e.answered }))
fate-ends h v x Q lane op y value e (refused fault is) =
    absurd (done-refused value fault (fixed-once h v x (answers.Refused fault) is lane op y (answers.Done value) e))
fate-ends h v x Q lane op y value e (well q) = q

same-began : (a b c d : ℕ) (p q : Op) → Began a b p ≡ Began c d q → (a ≡ c) × (b ≡ d)
same-began a b c d p q e = (cc, cc)

-- it is answered once
pub answered-once : (h : List Entry) (x lane other y z : ℕ) (op its : Op) (a b : Answer) → Ended h lane x op y a → Ended h other x its z b → y ≡ z
answered-once h x lane other y z op its a b d e =
    let same = same-began lane d.line other e.line op its (At-one h x (Began lane d.line op) (Began other e.line its) d.began e.began) in
    let there : At h z (Answered lane d.line b) = subst (λ (l : ℕ). At h z (Answered lane l b)) (sym same.1) (subst (λ (n : ℕ). At h z (Answered n e.line b)) (sym same.0) e.answered) in
    let here : At h y (Answered other e.line a) = subst (λ (l : ℕ). At h y (Answered other l a)) same.1 (subst (λ (n : ℕ). At h y (Answered n d.line a)) same.0 d.answered) in
    let low = d.first z b there e.later in
    let high = e.first y a here d.later in
    omega (arith, low, high)

-- ---- what it is said of

in-filled : (n byte k : ℕ) → k < n → slice_get (replicate n byte) k ≡ Some byte
in-filled zero byte k low = absurd (omega (arith, low))
in-filled (suc n) byte zero low = refl
in-filled (suc n) byte (suc k) low = in-filled n byte k (omega (arith, low))

from-at : (offset i : ℕ) (bytes : List ℕ) → offset ≤ i → byte_from offset bytes i ≡ slice_get bytes (i - offset)
from-at offset i bytes low = ap (λ (z : Bool). if z then None else slice_get bytes (i - offset)) (le-ltb i offset low)

has-covers : (offset i byte : ℕ) (bytes : List ℕ) → Covers offset bytes i byte → byte_from offset bytes i ≡ Some byte
has-covers offset i byte bytes c =
    let place = c.place in
    let number : i - offset ≡ c.k = omega (arith, place) in
    from-at offset i bytes (omega (arith, place)) ∙ ap (slice_get bytes) number ∙ c.byte

module _ (mt : Mounted) (terms : Terms) (setup : Setup) (H : List Entry) (w y s j p : ℕ) (f : List ℕ) (i byte : ℕ) where
  -- what wrote it, of which `claims`'s words say no more
  record Writing : Type 0 where
    lane : ℕ
    op : Op
    value : Value
    ended : Ended H lane w op y (answers.Done value)
    its : WritesIt terms H w y f op
    has : byte_by op i ≡ Some byte

  writing-of : Wrote terms.modes H w y f i byte → Writing
  writing-of (touched_by.write lane slot offset bytes value of ended covers) = record {
    lane = lane;
    op = ops.Write slot offset bytes;
    value = value;
    ended = ended;
    its = of_slot tt of;
    has = has-covers offset i byte bytes covers;
  }
  writing-of (touched_by.fill lane slot offset count value of ended low high) = record {
    lane = lane;
    op = ops.Fill slot offset count byte;
    value = value;
    ended = ended;
    its = of_slot tt of;
    has = from-at offset i (replicate count byte) low ∙ in-filled count byte (i - offset) (omega (arith, low, high));
  }
  writing-of (touched_by.put offset bytes to covers) = record {
    lane = to.lane;
    op = ops.Put to.path offset bytes;
    value = to.value;
    ended = to.ended;
    its = of_last to.path offset bytes refl to.call to.names to.asked;
    has = has-covers offset i byte bytes covers;
  }

  -- and what settled it
  record Settling : Type 0 where
    lane : ℕ
    op : Op
    value : Value
    ended : Ended H lane s op j (answers.Done value)
    its : SavesIt terms H s j f op

  settling-of : MadeStable terms.modes H s j f → Settling
  settling-of (touched_by.sync lane slot value of ended) = record { lane = lane; op = ops.Sync slot; value = value; ended = ended; its = by_slot tt of }
  settling-of (touched_by.close lane slot value of ended) = record { lane = lane; op = ops.Close slot; value = value; ended = ended; its = by_slot tt of }
  settling-of (touched_by.put offset bytes to) =
      record { lane = to.lane; op = ops.Put to.path offset bytes; value = to.value; ended = to.ended; its = by_last to.path offset bytes refl to.call to.names to.asked }

  case-with : Writing → Settling → (y < s) ⊎ (s ≡ w) → y ≤ j → j < p → p ≤ length H → Case terms H w y s j p f i byte
  case-with a b first low past within = record {
    laneW = a.lane;
    opW = a.op;
    valueW = a.value;
    endW = a.ended;
    wrote = a.its;
    has = a.has;
    laneS = b.lane;
    opS = b.op;
    valueS = b.value;
    endS = b.ended;
    saved = b.its;
    first = first;
    by = low;
    past = past;
    within = within;
  }

  -- settled by an operation that began after its answer
  pub case-of : Wrote terms.modes H w y f i byte → AnsweredBefore H w s → MadeStable terms.modes H s j f → j < p → p ≤ length H → Case terms H w y s j p f i byte
  case-of wrote_ after made_ past within =
      let a = writing-of wrote_ in
      let b = settling-of made_ in
      let same = answered-once H w a.lane after.lane y after.y a.op after.op (answers.Done a.value) after.answer a.ended after.ended in
      let low = after.before in
      let later_ = b.ended.later in
      case-with a b (inl (omega (arith, same, low))) (omega (arith, same, low, later_)) past within

  -- settled by itself, where it is a put
  pub case-self : (offset : ℕ) (bytes : List ℕ) → PutsTo H w y f offset bytes → Wrote terms.modes H w y f i byte → s ≡ w → j ≡ y → j < p → p ≤ length H → Case terms H w y s j p f i byte
  case-self offset bytes to wrote_ same end past within =
      case-with (writing-of wrote_)
      (settling-of (subst (λ (z : ℕ). MadeStable terms.modes H z j f) (sym same) (subst (λ (z : ℕ). MadeStable terms.modes H w z f) (sym end) (touched_by.put offset bytes to))))
      (inr same) (omega (arith, end)) past within

  -- ---- as the moment p is reached

  module _ (W : View) (g : GoesWith mt terms setup H W) (c : Case terms H w y s j p f i byte) where
    module _ (h : List Entry) (v : View) (rest : List Entry) (is : h ++ rest ≡ H) (here : length h ≡ p) where
      saved : (Q : Type 0) → Fate h v s Q → Q
      saved Q fate = fate-ends h v s Q c.laneS c.opS j c.valueS (ended-back h rest H is c.laneS s c.opS j (answers.Done c.valueS) (let past = c.past in omega (arith, past, here)) c.endS) fate

      abbrev Ends : Type 0 → Type 0
      Ends P = EndsIt mt terms setup H w y s j p f i byte P h v

      answered : Ended h c.laneS s c.opS j (answers.Done c.valueS)
      answered = ended-back h rest H is c.laneS s c.opS j (answers.Done c.valueS) (let past = c.past in omega (arith, past, here)) c.endS

      wrote_here : Ended h c.laneW w c.opW y (answers.Done c.valueW)
      wrote_here = ended-back h rest H is c.laneW w c.opW y (answers.Done c.valueW) (let past = c.past in let low = c.by in omega (arith, past, here, low)) c.endW

      ended : (P : Type 0) → (P → MadeAndKept H w (suc j) p f i byte) → Ends P → MadeAndKept H w (suc j) p f i byte ⊎ Touching terms.modes terms.origin H w s j p f i h v
      ended P make (it_settled k) = inl (make k)
      ended P make (it_came come) = inr (plain (over mt terms setup H W g w y s j p f i byte c come))
      ended P make (it_left left) = absurd (left.under.unanswered (record { lane = c.laneS; op = c.opS; y = j; answer = answers.Done c.valueS; ended = answered; before = let past = c.past in omega (arith, past, here) }))

      pub finish : Phase mt terms setup H w y s j p f i byte h v → MadeAndKept H w (suc j) p f i byte ⊎ Touching terms.modes terms.origin H w s j p f i h v
      finish (early low e) = absurd (apart-done f h v w (fate-ends h v w (Apart f h v w) c.laneW c.opW y c.valueW wrote_here e.fate) c.laneW y c.opW (answers.Done c.valueW) wrote_here)
      finish (unsent low n e) = ended ⊥ (λ none. absurd none) (saved (Ends ⊥) e.fate)
      finish (since low n e) = ended (SettledTwo mt terms setup H w y s j p f i byte h)
          (λ q. record { from = q.0; after = q.1.1; made = q.2; kept = subst (λ (z : ℕ). WritesCarry H q.0 z f i byte) here q.1.2 })
          (saved (Ends (SettledTwo mt terms setup H w y s j p f i byte h)) e.fate)
      finish (touched t) = inr t
      finish (made m) = inl m

    -- ---- at the end

    module _ (V : View) (free : TouchedUntil terms.modes terms.origin H w j p f i → ⊥) where
      untouched : Touching terms.modes terms.origin H w s j p f i H V → ⊥
      untouched (plain t) = free t
      untouched (wrote x u value apart low not by fixed) = free (written x u apart low not by refused-not)
        where
          refused-not : RefusedWrite H x → ⊥
          refused-not (touched_by.write lane slot offset z bytes fault e) = done-refused value fault (sym (fixed-once H V x (answers.Done value) fixed lane (ops.Write slot offset bytes) z (answers.Refused fault) e))
          refused-not (touched_by.fill lane slot offset count b z fault e) = done-refused value fault (sym (fixed-once H V x (answers.Done value) fixed lane (ops.Fill slot offset count b) z (answers.Refused fault) e))
      untouched (left_ (owed from after dropped fate saver puts)) = fate-ends H V s ⊥ c.laneS c.opS j c.valueS c.endS fate
      untouched (left_ (was_left n)) = n (λ l. free (given_up l.0 l.1 l.2 l.3 l.4))
      untouched (doomed x (inl same) fault fixed) =
          done-refused c.valueW fault (fixed-once H V x (answers.Refused fault) fixed c.laneW c.opW y (answers.Done c.valueW) (subst (λ (z : ℕ). Ended H c.laneW z c.opW y (answers.Done c.valueW)) (sym same) c.endW))
      untouched (doomed x (inr same) fault fixed) =
          done-refused c.valueS fault (fixed-once H V x (answers.Refused fault) fixed c.laneS c.opS j (answers.Done c.valueS) (subst (λ (z : ℕ). Ended H c.laneS z c.opS j (answers.Done c.valueS)) (sym same) c.endS))
      untouched (aside a) = apart-done f H V s a c.laneS j c.opS (answers.Done c.valueS) c.endS

      whole : length H ≤ p → length H ≡ p
      whole low = let within = c.within in omega (arith, low, within)

      by_end : length H ≡ p → Phase mt terms setup H w y s j p f i byte H V → MadeAndKept H w (suc j) p f i byte
      by_end here phase = elim (finish H V [] (append-nil H) here phase) [ inl m ↦ m | inr t ↦ absurd (untouched t) ]

      pub ends : Phase mt terms setup H w y s j p f i byte H V → MadeAndKept H w (suc j) p f i byte
      ends (early low e) = by_end (whole low) (early low e)
      ends (unsent low n e) = by_end (whole low) (unsent low n e)
      ends (since low n e) = by_end (whole low) (since low n e)
      ends (touched t) = absurd (untouched t)
      ends (made m) = m
