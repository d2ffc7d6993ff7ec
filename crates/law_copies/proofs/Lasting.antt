-- Each byte of a file that was copied stays in the file to which its path led.
use Rattle.std.proofs.Common.{◌≡◌, ◌≢◌, ◌<◌, ◌≤◌, ◌+◌, ◌⊎◌, inl, inr, ℕ, zero, suc, List, [], ◌∷◌, ◌++◌, length, map, Some, slice_get, refl, sym, ap, subst, ◌∙◌, arith}
use Rattle.std.proofs.lemmas.Bool.{cases_lt}
use Rattle.nfs_types.specs.declared.mode.Mode.TheVariants as modes
use Rattle.world_model.specs.declared.answer.Answer.{Answer}
use Rattle.world_model.specs.declared.answer.Answer.TheVariants as answers
use Rattle.world_model.specs.declared.entry.Entry.{Entry}
use Rattle.world_model.specs.declared.entry.Entry.TheVariants.{Answered}
use Rattle.world_model.specs.declared.op.Op.{Op}
use Rattle.world_model.specs.declared.op.Op.TheVariants as ops
use Rattle.world_model.specs.History.{History}
use Rattle.world_model.specs.Mounts.{Origin}
use Rattle.world_model.specs.Operations.{AnsweredBefore, Ended}
use Rattle.claims.specs.Modes.{Modes}
use Rattle.claims.specs.Settled.{Settled, later}
use Rattle.claims.specs.Slots.{IsOf, Opens, slot_of}
use Rattle.claims.specs.Touched.{MadeStable, Wrote, close, write}
use Rattle.law_copies.specs.Copied.{Done, copy_ops, laid, writes_from}
use Rattle.law_copies.specs.Lasting.{ByteStays, CopiesStay, CopyStays, OpensFind}
use Rattle.law_copies.proofs.Marks.{answered-own, apart}
use Rattle.law_copies.proofs.Places.{IsClosed, Places, Stepped, closed-first, closed-next, ended, ended-here, places}

-- ---- behind the operations before

-- from a place on the lane's operations are these, and those before were answered
record Begins (lane : ℕ) (h : List Entry) (ds : List Done) : Type 0 where
  pub from : ℕ
  pub closed : IsClosed lane h from
  pub places_are : Places lane h from ds

behind : (lane : ℕ) (h : List Entry) (from : ℕ) (earlier ds : List Done) → IsClosed lane h from → Places lane h from (earlier ++ ds) → Begins lane h ds
behind lane h from [] ds closed p = record { from = from; closed = closed; places_are = p }
behind lane h from (d ∷ earlier) ds closed p = behind lane h (suc p.0.y) earlier ds (closed-next lane h from d p.0 closed) p.1

-- ---- bytes in pieces

in-pieces : (p q : List ℕ) (i v : ℕ) → slice_get (p ++ q) i ≡ Some v → (slice_get p i ≡ Some v) ⊎ ((k : ℕ) × (i ≡ length p + k) × (slice_get q k ≡ Some v))
in-pieces [] q i v at = inr (i, omega arith, at)
in-pieces (b ∷ p) q zero v at = inl at
in-pieces (b ∷ p) q (suc i) v at = elim (in-pieces p q i v at) [
  | inl in_p ↦ inl in_p
  | inr r ↦ let e = r.1 in inr (r.0, omega (arith, e), r.2)
]

is-first : (a b : Op) (xs ys : List Op) → a ∷ xs ≡ b ∷ ys → a ≡ b
is-first a b xs ys e = cc

are-rest : (a b : Op) (xs ys : List Op) → a ∷ xs ≡ b ∷ ys → xs ≡ ys
are-rest a b xs ys e = cc

-- ---- a file that is open in its slot

module _ (m : Modes) (h : List Entry) (lane open_at opened : ℕ) (f : List ℕ) (opens : Opens m h lane 1 open_at opened f) where
  -- since the open was answered no close of the slot was, up to the place
  abbrev IsKept : ℕ → Type 0
  IsKept n = (c k : ℕ) (answer : Answer) → Ended h lane c (ops.Close 1) k answer → opened < k → k < n → ⊥

  kept-first : IsKept (suc opened)
  kept-first c k answer e after soon = omega (arith, after, soon)

  module _ (from : ℕ) (d : Done) (s : Stepped lane h from d) (closed : IsClosed lane h from) (kept : IsKept from) where
    -- also up to where the next operation begins
    kept-begin : IsKept s.x
    kept-begin c k answer e after soon = elim (cases_lt k from) [
      | inl early ↦ kept c k answer e after early
      | inr late ↦ apart lane (Answered lane e.line answer) (answered-own lane e.line answer) (s.before k (Answered lane e.line answer) e.answered late soon)
    ]

    -- and behind it, if it isn't a close
    kept-next : d.op ≢ ops.Close 1 → IsKept (suc s.y)
    kept-next other c k answer e after soon = elim (cases_lt k from) [
      | inl early ↦ kept c k answer e after early
      | inr late ↦ other (sym (ended-here lane h from d s closed c k (ops.Close 1) answer e late soon))
    ]

    -- it is of the file
    is-of : opened < from → slot_of d.op ≡ Some 1 → IsOf m h s.x d.op f
    is-of after works = record {
      lane = lane;
      line = d.line;
      slot = 1;
      open_at = open_at;
      began = s.began;
      works_on = works;
      holds = record { y = opened; opens = opens; before = let l = s.late in omega (arith, after, l); kept = kept-begin };
    }

  -- A byte was written after one place and before another, before which the write was answered.
  record ByteWritten (from to i v : ℕ) : Type 0 where
    pub w : ℕ
    pub y : ℕ
    pub after : from ≤ w
    pub wrote : Wrote m h w y f i v
    pub answered : AnsweredBefore h w to
    pub before : w < to

  -- From a place on the pieces were written and the file was closed.
  record Whole (from at : ℕ) (pieces : List (List ℕ)) : Type 0 where
    pub x : ℕ
    pub y : ℕ
    pub late : from ≤ x
    pub later_is : x < y
    pub stable : MadeStable m h x y f
    pub bytes : (i v : ℕ) → slice_get (laid pieces) i ≡ Some v → ByteWritten from x (at + i) v

  not-close : (at : ℕ) (piece : List ℕ) (op : Op) → op ≡ ops.Write 1 at piece → op ≢ ops.Close 1
  not-close at piece op is same = let no_way : ops.Write 1 at piece ≡ ops.Close 1 = sym is ∙ same in cc

  closes : (from at : ℕ) (d : Done) (s : Stepped lane h from d) → IsClosed lane h from → IsKept from → opened < from → d.op ≡ ops.Close 1 → Whole from at []
  closes from at d s closed kept after is = record {
    x = s.x;
    y = s.y;
    late = s.late;
    later_is = s.later;
    stable = close lane 1 d.value (subst (λ (o : Op). IsOf m h s.x o f) is (is-of from d s closed kept after (ap slot_of is)))
        (subst (λ (o : Op). Ended h lane s.x o s.y (answers.Done d.value)) is (ended lane h from d s));
    bytes = λ i v byte. absurd (none i v byte);
  }
    where
      none : (i v : ℕ) → slice_get (laid []) i ≡ Some v → ⊥
      none zero v byte = cc
      none (suc i) v byte = cc

  writes-one : (from at : ℕ) (piece : List ℕ) (pieces : List (List ℕ)) (d : Done) (s : Stepped lane h from d) → IsClosed lane h from → IsKept from → opened < from
      → d.op ≡ ops.Write 1 at piece → Whole (suc s.y) (at + length piece) pieces → Whole from at (piece ∷ pieces)
  writes-one from at piece pieces d s closed kept after is w = record {
    x = w.x;
    y = w.y;
    late = let a = s.late in let b = s.later in let c = w.late in omega (arith, a, b, c);
    later_is = w.later_is;
    stable = w.stable;
    bytes = λ i v byte. by i v (in-pieces piece (laid pieces) i v byte);
  }
    where
      its-end : Ended h lane s.x (ops.Write 1 at piece) s.y (answers.Done d.value)
      its-end = subst (λ (o : Op). Ended h lane s.x o s.y (answers.Done d.value)) is (ended lane h from d s)

      by : (i v : ℕ) → (slice_get piece i ≡ Some v) ⊎ ((k : ℕ) × (i ≡ length piece + k) × (slice_get (laid pieces) k ≡ Some v)) → ByteWritten from w.x (at + i) v
      by i v (inl here) = record {
        w = s.x;
        y = s.y;
        after = s.late;
        wrote = write lane 1 at piece d.value (subst (λ (o : Op). IsOf m h s.x o f) is (is-of from d s closed kept after (ap slot_of is))) its-end
            (record { k = i; place = refl; byte = here });
        answered = record { lane = lane; op = ops.Write 1 at piece; y = s.y; answer = answers.Done d.value; ended = its-end; before = let l = w.late in omega (arith, l) };
        before = let a = s.later in let b = w.late in omega (arith, a, b);
      }
      by i v (inr there) =
          let b : ByteWritten (suc s.y) w.x (at + length piece + there.0) v = w.bytes there.0 v there.2 in
          let e = there.1 in
          let same : at + length piece + there.0 ≡ at + i = omega (arith, e) in
          record {
            w = b.w;
            y = b.y;
            after = let a = b.after in let l = s.late in let n = s.later in omega (arith, a, l, n);
            wrote = subst (λ (n : ℕ). Wrote m h b.w b.y f n v) same b.wrote;
            answered = b.answered;
            before = b.before;
          }

  whole : (from at : ℕ) (pieces : List (List ℕ)) (ds more : List Done) → map (λ (d : Done). d.op) ds ≡ writes_from at pieces ++ ops.Close 1 ∷ []
      → Places lane h from (ds ++ more) → IsClosed lane h from → IsKept from → opened < from → Whole from at pieces
  whole from at [] [] more is p closed kept after = absurd cc
  whole from at [] (d ∷ ds) more is p closed kept after =
      closes from at d p.0 closed kept after (is-first d.op (ops.Close 1) (map (λ (e : Done). e.op) ds) [] is)
  whole from at (piece ∷ pieces) [] more is p closed kept after = absurd cc
  whole from at (piece ∷ pieces) (d ∷ ds) more is p closed kept after =
      let first : d.op ≡ ops.Write 1 at piece =
      is-first d.op (ops.Write 1 at piece) (map (λ (e : Done). e.op) ds) (writes_from (at + length piece) pieces ++ ops.Close 1 ∷ []) is in
      let rest : map (λ (e : Done). e.op) ds ≡ writes_from (at + length piece) pieces ++ ops.Close 1 ∷ [] =
      are-rest d.op (ops.Write 1 at piece) (map (λ (e : Done). e.op) ds) (writes_from (at + length piece) pieces ++ ops.Close 1 ∷ []) is in
      let s : Stepped lane h from d = p.0 in
      let on : opened < suc s.y = let l = s.late in let n = s.later in omega (arith, after, l, n) in
      writes-one from at piece pieces d s closed kept after first
      (whole (suc s.y) (at + length piece) pieces ds more rest p.1 (closed-next lane h from d s closed)
      (kept-next from d s closed kept (not-close at piece d.op first)) on)

-- ---- the law

module _ (m : Modes) (origin : Origin) (t : History) (find : OpensFind m t.entries) (settled : Settled m origin t) (path : List (List ℕ)) (lane : ℕ) where
  cut-no-close : (op : Op) → op ≡ ops.Truncate 1 0 → op ≢ ops.Close 1
  cut-no-close op is same = let no_way : ops.Truncate 1 0 ≡ ops.Close 1 = sym is ∙ same in cc

  stays : (from : ℕ) (pieces : List (List ℕ)) (d e : Done) (ds more : List Done) → map (λ (d : Done). d.op) (d ∷ e ∷ ds) ≡ copy_ops path pieces
      → Places lane t.entries from (d ∷ e ∷ (ds ++ more)) → IsClosed lane t.entries from → CopyStays m origin t path (laid pieces)
  stays from pieces d e ds more is p closed = record {
    lane = lane;
    open_at = s.x;
    opened = s.y;
    value = d.value;
    its_open = its-open;
    f = found.0;
    opens = found.1;
    closed = done.y;
    bytes_stay = λ i v byte. by i v (done.bytes i v byte);
  }
    where
      h : List Entry
      h = t.entries

      s : Stepped lane t.entries from d
      s = p.0

      u : Stepped lane t.entries (suc s.y) e
      u = p.1.0

      opens-it : d.op ≡ ops.OpenFile 1 modes.C path
      opens-it = is-first d.op (ops.OpenFile 1 modes.C path) (map (λ (n : Done). n.op) (e ∷ ds)) (ops.Truncate 1 0 ∷ (writes_from 0 pieces ++ ops.Close 1 ∷ [])) is

      tail : e.op ∷ map (λ (n : Done). n.op) ds ≡ ops.Truncate 1 0 ∷ (writes_from 0 pieces ++ ops.Close 1 ∷ [])
      tail = are-rest d.op (ops.OpenFile 1 modes.C path) (map (λ (n : Done). n.op) (e ∷ ds)) (ops.Truncate 1 0 ∷ (writes_from 0 pieces ++ ops.Close 1 ∷ [])) is

      cuts-it : e.op ≡ ops.Truncate 1 0
      cuts-it = is-first e.op (ops.Truncate 1 0) (map (λ (n : Done). n.op) ds) (writes_from 0 pieces ++ ops.Close 1 ∷ []) tail

      its-open : Ended t.entries lane s.x (ops.OpenFile 1 modes.C path) s.y (answers.Done d.value)
      its-open = subst (λ (o : Op). Ended t.entries lane s.x o s.y (answers.Done d.value)) opens-it (ended lane t.entries from d s)

      found : (f : List ℕ) × Opens m t.entries lane 1 s.x s.y f
      found = find lane 1 s.x s.y modes.C path d.value its-open

      closed-open : IsClosed lane t.entries (suc s.y)
      closed-open = closed-next lane t.entries from d s closed

      done : Whole m t.entries lane s.x s.y found.0 found.1 (suc u.y) 0 pieces
      done = whole m t.entries lane s.x s.y found.0 found.1 (suc u.y) 0 pieces ds more (are-rest e.op (ops.Truncate 1 0) (map (λ (n : Done). n.op) ds) (writes_from 0 pieces ++ ops.Close 1 ∷ []) tail)
          p.1.1 (closed-next lane t.entries (suc s.y) e u closed-open)
          (kept-next m t.entries lane s.x s.y found.0 found.1 (suc s.y) e u closed-open (kept-first m t.entries lane s.x s.y found.0 found.1) (cut-no-close e.op cuts-it))
          (let l = u.late in let n = u.later in omega (arith, l, n))

      by : (i v : ℕ) → ByteWritten m t.entries lane s.x s.y found.0 found.1 (suc u.y) done.x (0 + i) v → ByteStays m origin t found.0 s.y done.y i v
      by i v b = record {
        write = b.w;
        after = let l = u.late in let n = u.later in let a = b.after in omega (arith, l, n, a);
        before = let a = b.before in let l = done.later_is in omega (arith, a, l);
        stays = λ n after within untouched.
            settled b.w b.y found.0 i v done.y (subst (λ (k : ℕ). Wrote m t.entries b.w b.y found.0 k v) (omega arith) b.wrote)
            (later done.x b.answered done.stable) n after within untouched;
      }

  in-done : (from : ℕ) (pieces : List (List ℕ)) (done more : List Done) → map (λ (d : Done). d.op) done ≡ copy_ops path pieces
      → Places lane t.entries from (done ++ more) → IsClosed lane t.entries from → CopyStays m origin t path (laid pieces)
  in-done from pieces [] more is p closed = absurd cc
  in-done from pieces (d ∷ []) more is p closed = absurd cc
  in-done from pieces (d ∷ e ∷ ds) more is p closed = stays from pieces d e ds more is p closed

pub copies-stay : CopiesStay
copies-stay m origin t find settled path bytes c =
    let all : Places c.lane t.entries 0 (c.earlier ++ (c.done ++ c.later)) = places c.lane t.entries 0 (c.earlier ++ (c.done ++ c.later)) c.marks in
    let b : Begins c.lane t.entries (c.done ++ c.later) = behind c.lane t.entries 0 c.earlier (c.done ++ c.later) (closed-first c.lane t.entries) all in
    subst (CopyStays m origin t path) c.whole (in-done m origin t find settled path c.lane b.from c.pieces c.done c.later c.did b.places_are b.closed)
