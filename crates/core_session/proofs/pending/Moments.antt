-- At any moment of a history the newest byte that is pending at a place may be so by `Pending` of claims.
use Rattle.core_session.proofs.Prelude.{◌≡◌, ◌≤◌, ◌<◌, ℕ, List, ◌++◌, length, Some, refl, sym, subst, arith, Answer, Entry, Began, Answered, Op, At, AnsweredBefore, Ended, LeftAlone, PutRefused, Terms, RefusedWrite, Truncated, Wrote, At-grow, At-back, At-one, of_file, Cell, cell_at, Mounted, Setup, View}
use Rattle.claims.specs.Pending.{Pending, PutSucceeded}
use Rattle.claims.specs.Touched.{MadeStable}
use Rattle.world_model.specs.declared.answer.Answer.TheVariants as answers
use Rattle.world_model.specs.declared.op.Op.TheVariants as ops
use Rattle.claims.specs.Slots.{PutsTo}
use Rattle.claims.specs.Touched as touched
use Rattle.core_session.proofs.syncs.Aparts.{apart-done}
use Rattle.core_session.proofs.syncs.Causes.{IsWriter, IsPut, OfOp}
use Rattle.core_session.proofs.syncs.Turning.{IsFixed, gone}
use Rattle.core_session.proofs.pending.Above.{Above}
use Rattle.core_session.proofs.pending.Newest.{OfNewest, cell-of}
use Rattle.core_session.proofs.pending.Standing.{IsGiven, Marked, wrote, cut, saved, PutEnd, settled_, left_, never, Here, Phase}

began-op : (a b c d : ℕ) (o p : Op) → Began a b o ≡ Began c d p → o ≡ p
began-op a b c d o p e = cc

-- what was answered in a longer history, before the end of this one
pub ended-in : (H h rest : List Entry) → h ++ rest ≡ H → (lane x y : ℕ) (op : Op) (answer : Answer) → y < length h → Ended H lane x op y answer → Ended h lane x op y answer
ended-in H h rest is lane x y op answer low d = record {
  line = u.line;
  began = At-back h rest x (Began lane u.line op) u.began (let later = u.later in omega (arith, later, low));
  answered = At-back h rest y (Answered lane u.line answer) u.answered low;
  later = u.later;
  first = λ q b at after. u.first q b (At-grow h rest q (Answered lane u.line b) at) after;
}
  where
    u : Ended (h ++ rest) lane x op y answer
    u = subst (λ (z : List Entry). Ended z lane x op y answer) (sym is) d

module _ (mt : Mounted) (terms : Terms) (setup : Setup) (H : List Entry) (f : List ℕ) (i : ℕ) where
  of-write : (P : Op → Type 0) (x lane line : ℕ) (op : Op) → At H x (Began lane line op) → P op → OfOp H x P
  of-write P x lane line op at p n l other there = subst P (began-op lane line n l op other (At-one H x (Began lane line op) (Began n l other) at there)) p

  -- ---- at any of its moments

  module _ (h rest : List Entry) (is : h ++ rest ≡ H) (v : View) (p : Phase mt terms setup H f i h v) (cell : Cell) (there : cell_at (of_file f v.shelf.back).segments i ≡ Some cell) where
    pub given : IsGiven mt terms setup H f i h v p.u cell.byte cell.number
    given = cell-of (λ place byte number. Here mt terms setup H f i (IsGiven mt terms setup H f i h v p.u) f place byte number) (of_file f v.shelf.back).segments i cell (p.given.file f) there refl refl

    -- what was answered before
    pub fixed : (lane x y : ℕ) (op : Op) (answer : Answer) → Ended H lane x op y answer → y < length h → IsFixed h v x answer
    fixed lane x y op answer d low = gone lane y op (ended-in H h rest is lane x y op answer low d)

    pub within : (lane x y : ℕ) (op : Op) (answer : Answer) → Ended H lane x op y answer → y < length h → x < length h
    within lane x y op answer d low = let later = d.later in omega (arith, later, low)

    -- none that marks the place began after the giver was answered
    above-not : (x lane line : ℕ) (op : Op) → At H x (Began lane line op) → x < length h → OfNewest (Above f i (p.u x)) v.shelf.back → AnsweredBefore H given.w x → ⊥
    above-not x lane line op at low above before =
        given.late x lane line op at low (cell-of (λ place byte number. f ≡ f → place ≡ i → p.u x < number) (of_file f v.shelf.back).segments i cell (above.file f) there refl refl) before

    unmarked : (x lane line : ℕ) (op : Op) → At H x (Began lane line op) → x < length h → Marked mt terms setup H f i h v x → AnsweredBefore H given.w x → ⊥
    unmarked x lane line op at low m before = above-not x lane line op at low (p.marks x m) before

    -- no put of the file went well since
    put-not : (x y offset : ℕ) (bytes : List ℕ) → PutsTo H x y f offset bytes → y < length h → AnsweredBefore H given.w x → ⊥
    put-not x y offset bytes t low before =
        by
        (p.puts x t.value (fixed t.lane x y (ops.Put t.path offset bytes) (answers.Done t.value) t.ended low)
        (of-write IsPut x t.lane t.ended.line (ops.Put t.path offset bytes) t.ended.began tt))
      where
        by : PutEnd mt terms setup H f i h v x (p.u x) → ⊥
        by (settled_ above) =
            above-not x t.lane t.ended.line (ops.Put t.path offset bytes) t.ended.began (within t.lane x y (ops.Put t.path offset bytes) (answers.Done t.value) t.ended low) above before
        by (left_ a) =
            apart-done f h v x a t.lane y (ops.Put t.path offset bytes) (answers.Done t.value) (ended-in H h rest is t.lane x y (ops.Put t.path offset bytes) (answers.Done t.value) low t.ended)
        by (never none) = none t.lane y (ops.Put t.path offset bytes) (answers.Done t.value) t.ended t.call t.names t.asked

    pub uncovered-by : (x y u : ℕ) → AnsweredBefore H given.w x → Wrote terms.modes H x y f i u → y < length h → ⊥
    uncovered-by x y u before (touched.write lane slot offset bytes value of ended c) low =
        unmarked x of.lane of.line (ops.Write slot offset bytes) of.began (within lane x y (ops.Write slot offset bytes) (answers.Done value) ended low)
        (wrote u value (fixed lane x y (ops.Write slot offset bytes) (answers.Done value) ended low) (of-write IsWriter x of.lane of.line (ops.Write slot offset bytes) of.began tt)
        (touched.write slot offset bytes of c)) before
    uncovered-by x y u before (touched.fill lane slot offset count value of ended from to) low =
        unmarked x of.lane of.line (ops.Fill slot offset count u) of.began (within lane x y (ops.Fill slot offset count u) (answers.Done value) ended low)
        (wrote u value (fixed lane x y (ops.Fill slot offset count u) (answers.Done value) ended low) (of-write IsWriter x of.lane of.line (ops.Fill slot offset count u) of.began tt)
        (touched.fill slot offset count of from to)) before
    uncovered-by x y u before (touched.put offset bytes t c) low = put-not x y offset bytes t low before

    pub unsettled-by : (x y : ℕ) → AnsweredBefore H given.w x → MadeStable terms.modes H x y f → y < length h → ⊥
    unsettled-by x y before (touched.sync lane slot value of ended) low =
        unmarked x of.lane of.line (ops.Sync slot) of.began (within lane x y (ops.Sync slot) (answers.Done value) ended low)
        (saved value (fixed lane x y (ops.Sync slot) (answers.Done value) ended low)
        (record { lane = of.lane; line = of.line; op = ops.Sync slot; began = of.began; saver = tt; of = of })) before
    unsettled-by x y before (touched.close lane slot value of ended) low =
        unmarked x of.lane of.line (ops.Close slot) of.began (within lane x y (ops.Close slot) (answers.Done value) ended low)
        (saved value (fixed lane x y (ops.Close slot) (answers.Done value) ended low)
        (record { lane = of.lane; line = of.line; op = ops.Close slot; began = of.began; saver = tt; of = of })) before
    unsettled-by x y before (touched.put offset bytes t) low = put-not x y offset bytes t low before

    pub uncut-by : (x y size : ℕ) → AnsweredBefore H given.w x → Truncated terms.modes H x y f size → size ≤ i → y < length h → ⊥
    uncut-by x y size before t least low =
        unmarked x t.of.lane t.of.line (ops.Truncate t.slot size) t.of.began (within t.lane x y (ops.Truncate t.slot size) (answers.Done t.value) t.ended low)
        (cut t.value (fixed t.lane x y (ops.Truncate t.slot size) (answers.Done t.value) t.ended low) (record { slot = t.slot; size = size; of = t.of; low = least })) before

    -- the giver is no put that succeeded
    pub unput-by : PutSucceeded H given.w (length h) → ⊥
    unput-by d =
        given.unput (of-write IsPut given.w d.lane d.ended.line (ops.Put d.path d.offset d.bytes) d.ended.began tt) d.value
        (fixed d.lane given.w d.y (ops.Put d.path d.offset d.bytes) (answers.Done d.value) d.ended d.before)

    -- where it is no write that is refused later, and no last close left the file alone since
    pub whole : (RefusedWrite H given.w → ⊥)
        → ((PutRefused H given.w → ⊥) → (k : ℕ) → AnsweredBefore H given.w k → LeftAlone terms.modes H k f → k < length h → ⊥)
        → Pending terms.modes terms.origin H f i (length h) cell.byte
    whole unrefused unleft = record {
      w = given.w;
      before = given.began;
      writes = given.writes;
      unrefused = unrefused;
      unput = λ d. unput-by d;
      uncovered = λ x y u before wrote_ low. uncovered-by x y u before wrote_ low;
      uncut = λ x y size before t least low. uncut-by x y size before t least low;
      unsettled = λ x y before made low. unsettled-by x y before made low;
      unleft = unleft;
    }
