-- What is pending in a view through which the core passed during a read may be pending at that moment, by the whole history: the read's own slot is open, so no
-- last close left its file alone.
use Rattle.core_session.proofs.Prelude.{◌≡◌, ◌≢◌, ◌≤◌, ◌<◌, ◌⊎◌, inl, inr, ℕ, List, ◌++◌, length, Option, Some, None, slice_get, refl, sym, ap, subst, ◌∙◌, arith, cases_lt, Answer, Fault, Value, Entry, Began, Answered, Delivered, Op, At, AnsweredBefore, Ended, PutRefused, LeftAlone, ReadsBytes, Terms, RefusedWrite, Truncated, Wrote, At-grow, At-back, At-one, of_file, Cell, byte_of, cell_at, newest_at, Mounted, Machine, machine_of, Busy, Over, Setup, View, KnowsRoot, GoesWith, set-other, PutsNamed}
use Rattle.claims.specs.Pending.{PutSucceeded, Pending}
use Rattle.claims.specs.Touched.{MadeStable}
use Rattle.world_model.specs.declared.answer.Answer.TheVariants as answers
use Rattle.world_model.specs.declared.answer.Value.TheVariants as values
use Rattle.world_model.specs.declared.op.Op.TheVariants as ops
use Rattle.claims.specs.Slots.{PutsTo}
use Rattle.claims.specs.Touched as touched
use Rattle.core_session.proofs.drops.LaneIs.{state-is, busy-over}
use Rattle.core_session.proofs.drops.OneFile.{one-by-one}
use Rattle.core_session.proofs.room.Entered.{BusyStays, stirs-stay}
use Rattle.core_session.proofs.syncs.Aparts.{apart-done}
use Rattle.core_session.proofs.syncs.Causes.{IsWriter, IsPut, OfOp}
use Rattle.core_session.proofs.syncs.Turning.{IsFixed, ready, gone}
use Rattle.core_session.proofs.pending.Above.{Above}
use Rattle.core_session.proofs.pending.Givers.{answered-writer}
use Rattle.core_session.proofs.pending.Newest.{OfNewest, cell-of}
use Rattle.core_session.proofs.pending.Onwards.{never-refused}
use Rattle.core_session.proofs.pending.Standing.{IsGiven, Marked, wrote, cut, saved, PutEnd, settled_, left_, never, Here, Phase}
use Rattle.core_session.proofs.shown.Following.{GoesOn, Moved, rests, moves}

began-parts : (a b c d : ℕ) (o p : Op) → Began a b o ≡ Began c d p → (a ≡ c) × (b ≡ d)
began-parts a b c d o p e = (cc, cc)

-- the answer came before, if it did so before a place
early : (h : List Entry) (lane x y k : ℕ) (op : Op) (answer : Answer) → Ended h lane x op y answer → AnsweredBefore h x k → y < k
early h lane x y k op answer d a =
    let same = began-parts a.lane a.ended.line lane d.line a.op op (At-one h x (Began a.lane a.ended.line a.op) (Began lane d.line op) a.ended.began d.began) in
    let first = d.first a.y a.answer (subst (λ (l : ℕ). At h a.y (Answered l d.line a.answer)) same.0 (subst (λ (l : ℕ). At h a.y (Answered a.lane l a.answer)) same.1 a.ended.answered)) a.ended.later in
    let low = a.before in
    omega (arith, first, low)

began-op : (a b c d : ℕ) (o p : Op) → Began a b o ≡ Began c d p → o ≡ p
began-op a b c d o p e = cc

refused-done : (fault : Fault) (value : Value) → answers.Refused fault ≡ answers.Done value → ⊥
refused-done fault value e = cc

-- what was answered in a longer history, before the end of this one
pub ended-in : (H h rest : List Entry) → h ++ rest ≡ H → (lane x y : ℕ) (op : Op) (answer : Answer) → y < length h → Ended H lane x op y answer → Ended h lane x op y answer
ended-in H h rest is lane x y op answer low d = record {
  line = u.line;
  began = At-back h rest x (Began lane u.line op) u.began (let later = u.later in omega (arith, later, low));
  answered = At-back h rest y (Answered lane u.line answer) u.answered low;
  later = u.later;
  first = λ q b at after. u.first q b (At-grow h rest q (Answered lane u.line b) at) after;
}
  where
    u : Ended (h ++ rest) lane x op y answer
    u = subst (λ (z : List Entry). Ended z lane x op y answer) (sym is) d

refused-writer : (H : List Entry) (w : ℕ) → RefusedWrite H w → OfOp H w IsWriter
refused-writer H w (touched.write lane slot offset y bytes fault ended) n l other there =
    subst IsWriter (began-op lane ended.line n l (ops.Write slot offset bytes) other (At-one H w (Began lane ended.line (ops.Write slot offset bytes)) (Began n l other) ended.began there)) tt
refused-writer H w (touched.fill lane slot offset count byte y fault ended) n l other there =
    subst IsWriter (began-op lane ended.line n l (ops.Fill slot offset count byte) other (At-one H w (Began lane ended.line (ops.Fill slot offset count byte)) (Began n l other) ended.began there)) tt

-- ---- an answer that is ready stays so between the steps

abbrev Waits : ℕ → ℕ → Answer → View → Type 0
Waits k n answer v = slice_get v.lanes k ≡ Some (record { number = n; state = Over answer })

waits-stays : (k n : ℕ) (answer : Answer) → BusyStays (Waits k n answer)
waits-stays k n answer = record {
  makes = λ old new number call m w. subst (Waits k n answer) (sym m.is) w;
  sets = λ old at number machine state shelf there w. set-other old.lanes at k (record { number = number; state = state }) (apart old at number machine there w) ∙ w;
}
  where
    apart : (old : View) (at number : ℕ) (machine : Machine) → slice_get old.lanes at ≡ Some (record { number = number; state = Busy machine }) → (w : Waits k n answer old) → k ≢ at
    apart old at number machine there w same =
        busy-over machine answer (state-is (Busy machine) (Over answer) number n (sym there ∙ ap (slice_get old.lanes) (sym same) ∙ w))

moved-waits : (k n : ℕ) (answer : Answer) (v u : View) → Moved v u → Waits k n answer v → Waits k n answer u
moved-waits k n answer _ _ (rests v u is) w = subst (Waits k n answer) (sym is) w
moved-waits k n answer _ _ (moves v mid u at t more) w = moved-waits k n answer mid u more (stirs-stay (Waits k n answer) (waits-stays k n answer) v mid at t w)

moved-fixed : (h : List Entry) (v u : View) → Moved v u → (x : ℕ) (answer : Answer) → IsFixed h v x answer → IsFixed h u x answer
moved-fixed h v u m x answer (ready k n op there under) = ready k n op (moved-waits k n answer v u m there) under
moved-fixed h v u m x answer (gone lane y op d) = gone lane y op d

module _ (mt : Mounted) (terms : Terms) (setup : Setup) (H : List Entry) (V : View) (g : GoesWith mt terms setup H V) (roots : KnowsRoot terms.origin H mt.root) (puts_named : PutsNamed H) (f : List ℕ) (i : ℕ) where
  of-write : (P : Op → Type 0) (x lane line : ℕ) (op : Op) → At H x (Began lane line op) → P op → OfOp H x P
  of-write P x lane line op at p n l other there = subst P (began-op lane line n l op other (At-one H x (Began lane line op) (Began n l other) at there)) p

  -- ---- at any of its moments

  module _ (h rest : List Entry) (is : h ++ rest ≡ H) (v : View) (p : Phase mt terms setup H f i h v) (cell : Cell) (there : cell_at (of_file f v.shelf.back).segments i ≡ Some cell) where
    given : IsGiven mt terms setup H f i h v p.u cell.byte cell.number
    given = cell-of (λ place byte number. Here mt terms setup H f i (IsGiven mt terms setup H f i h v p.u) f place byte number) (of_file f v.shelf.back).segments i cell (p.given.file f) there refl refl

    -- what was answered before
    fixed : (lane x y : ℕ) (op : Op) (answer : Answer) → Ended H lane x op y answer → y < length h → IsFixed h v x answer
    fixed lane x y op answer d low = gone lane y op (ended-in H h rest is lane x y op answer low d)

    within : (lane x y : ℕ) (op : Op) (answer : Answer) → Ended H lane x op y answer → y < length h → x < length h
    within lane x y op answer d low = let later = d.later in omega (arith, later, low)

    -- none that marks the place began after the giver was answered
    above-not : (x lane line : ℕ) (op : Op) → At H x (Began lane line op) → x < length h → OfNewest (Above f i (p.u x)) v.shelf.back → AnsweredBefore H given.w x → ⊥
    above-not x lane line op at low above before =
        given.late x lane line op at low (cell-of (λ place byte number. f ≡ f → place ≡ i → p.u x < number) (of_file f v.shelf.back).segments i cell (above.file f) there refl refl) before

    unmarked : (x lane line : ℕ) (op : Op) → At H x (Began lane line op) → x < length h → Marked mt terms setup H f i h v x → AnsweredBefore H given.w x → ⊥
    unmarked x lane line op at low m before = above-not x lane line op at low (p.marks x m) before

    -- no put of the file went well since
    put-not : (x y offset : ℕ) (bytes : List ℕ) → PutsTo H x y f offset bytes → y < length h → AnsweredBefore H given.w x → ⊥
    put-not x y offset bytes t low before =
        by
        (p.puts x t.value (fixed t.lane x y (ops.Put t.path offset bytes) (answers.Done t.value) t.ended low)
        (of-write IsPut x t.lane t.ended.line (ops.Put t.path offset bytes) t.ended.began tt))
      where
        by : PutEnd mt terms setup H f i h v x (p.u x) → ⊥
        by (settled_ above) =
            above-not x t.lane t.ended.line (ops.Put t.path offset bytes) t.ended.began (within t.lane x y (ops.Put t.path offset bytes) (answers.Done t.value) t.ended low) above before
        by (left_ a) =
            apart-done f h v x a t.lane y (ops.Put t.path offset bytes) (answers.Done t.value) (ended-in H h rest is t.lane x y (ops.Put t.path offset bytes) (answers.Done t.value) low t.ended)
        by (never none) = none t.lane y (ops.Put t.path offset bytes) (answers.Done t.value) t.ended t.call t.names t.asked

    uncovered-by : (x y u : ℕ) → AnsweredBefore H given.w x → Wrote terms.modes H x y f i u → y < length h → ⊥
    uncovered-by x y u before (touched.write lane slot offset bytes value of ended c) low =
        unmarked x of.lane of.line (ops.Write slot offset bytes) of.began (within lane x y (ops.Write slot offset bytes) (answers.Done value) ended low)
        (wrote u value (fixed lane x y (ops.Write slot offset bytes) (answers.Done value) ended low) (of-write IsWriter x of.lane of.line (ops.Write slot offset bytes) of.began tt)
        (touched.write slot offset bytes of c)) before
    uncovered-by x y u before (touched.fill lane slot offset count value of ended from to) low =
        unmarked x of.lane of.line (ops.Fill slot offset count u) of.began (within lane x y (ops.Fill slot offset count u) (answers.Done value) ended low)
        (wrote u value (fixed lane x y (ops.Fill slot offset count u) (answers.Done value) ended low) (of-write IsWriter x of.lane of.line (ops.Fill slot offset count u) of.began tt)
        (touched.fill slot offset count of from to)) before
    uncovered-by x y u before (touched.put offset bytes t c) low = put-not x y offset bytes t low before

    unsettled-by : (x y : ℕ) → AnsweredBefore H given.w x → MadeStable terms.modes H x y f → y < length h → ⊥
    unsettled-by x y before (touched.sync lane slot value of ended) low =
        unmarked x of.lane of.line (ops.Sync slot) of.began (within lane x y (ops.Sync slot) (answers.Done value) ended low)
        (saved value (fixed lane x y (ops.Sync slot) (answers.Done value) ended low)
        (record { lane = of.lane; line = of.line; op = ops.Sync slot; began = of.began; saver = tt; of = of })) before
    unsettled-by x y before (touched.close lane slot value of ended) low =
        unmarked x of.lane of.line (ops.Close slot) of.began (within lane x y (ops.Close slot) (answers.Done value) ended low)
        (saved value (fixed lane x y (ops.Close slot) (answers.Done value) ended low)
        (record { lane = of.lane; line = of.line; op = ops.Close slot; began = of.began; saver = tt; of = of })) before
    unsettled-by x y before (touched.put offset bytes t) low = put-not x y offset bytes t low before

    uncut-by : (x y size : ℕ) → AnsweredBefore H given.w x → Truncated terms.modes H x y f size → size ≤ i → y < length h → ⊥
    uncut-by x y size before t least low =
        unmarked x t.of.lane t.of.line (ops.Truncate t.slot size) t.of.began (within t.lane x y (ops.Truncate t.slot size) (answers.Done t.value) t.ended low)
        (cut t.value (fixed t.lane x y (ops.Truncate t.slot size) (answers.Done t.value) t.ended low) (record { slot = t.slot; size = size; of = t.of; low = least })) before

    -- the giver is no put that succeeded
    unput-by : PutSucceeded H given.w (length h) → ⊥
    unput-by d =
        given.unput (of-write IsPut given.w d.lane d.ended.line (ops.Put d.path d.offset d.bytes) d.ended.began tt) d.value
        (fixed d.lane given.w d.y (ops.Put d.path d.offset d.bytes) (answers.Done d.value) d.ended d.before)

    -- ---- during a read of the file

    module _ (x y o offset count : ℕ) (bytes : List ℕ) (read : ReadsBytes terms.modes H x y o f offset count bytes) (late : x ≤ length h) (soon : length h ≤ y) where
      -- its slot isn't closed before the read is answered
      unclosed : (c k : ℕ) (answer : Answer) → Ended H read.lane c (ops.Close read.slot) k answer → read.holds.y < k → k < y → ⊥
      unclosed c k answer d after low = elim (cases_lt k x) [
        | inl lt ↦ read.holds.kept c k answer d after lt
        | inr ge ↦ in-read ge (cases_lt c x)
      ]
        where
          began : At H x (Began read.lane read.ended.line (ops.Read read.slot offset count))
          began = read.ended.began

          in-read : x ≤ k → (c < x) ⊎ (x ≤ c) → ⊥
          in-read ge (inl lt) =
              let a = one-by-one (machine_of mt) setup H V g.reaches read.lane c d.line (ops.Close read.slot) x read.ended.line (ops.Read read.slot offset count) d.began began lt in
              let e = early H read.lane c k x (ops.Close read.slot) answer d a in
              omega (arith, e, ge)
          in-read ge (inr from) = elim (cases_lt x c) [
            | inl lt ↦ (
                let a = one-by-one (machine_of mt) setup H V g.reaches read.lane x read.ended.line (ops.Read read.slot offset count) c d.line (ops.Close read.slot) began d.began lt in
                let e = early H read.lane x y c (ops.Read read.slot offset count) (answers.Done (values.Bytes bytes)) read.ended a in
                let later = d.later in
                omega (arith, e, later, low))
            | inr le ↦ (
                let same : c ≡ x = omega (arith, from, le) in
                not-read read.lane d.line read.lane read.ended.line read.slot read.slot offset count
                (At-one H x (Began read.lane d.line (ops.Close read.slot)) (Began read.lane read.ended.line (ops.Read read.slot offset count))
                (subst (λ (z : ℕ). At H z (Began read.lane d.line (ops.Close read.slot))) same d.began) began))
          ]
            where
              not-read : (a b c e s t q r : ℕ) → Began a b (ops.Close s) ≡ Began c e (ops.Read t q r) → ⊥
              not-read a b c e s t q r is = cc

      unleft-read : (PutRefused H given.w → ⊥) → (k : ℕ) → AnsweredBefore H given.w k → LeftAlone terms.modes H k f → k < length h → ⊥
      unleft-read none k before left low = by (cases_lt k read.holds.y)
        where
          writer : OfOp H given.w IsWriter
          writer = answered-writer H given.w (length h) unput-by none k before low terms.modes terms.origin f i cell.byte given.writes

          came : (j : ℕ) (b : List ℕ) → At H j (Delivered b) → k < j → j < read.holds.y → ⊥
          came j b at after under = given.unleft writer k before left j b at after (let held = read.holds.before in omega (arith, under, held, late))

          by : (k < read.holds.y) ⊎ (read.holds.y ≤ k) → ⊥
          by (inl after) = left.unopened read.lane read.slot o read.holds.y read.holds.opens after came
          by (inr was) = left.left.last read.lane read.slot o (record {
            y = read.holds.y;
            opens = read.holds.opens;
            before = omega (arith, was);
            kept = λ c j answer d after under. unclosed c j answer d after (omega (arith, under, low, soon));
          })

      pub pending-during : GoesOn (machine_of mt) setup H V h v → Pending terms.modes terms.origin H f i (length h) cell.byte
      pending-during on = record {
        w = given.w;
        before = given.began;
        writes = given.writes;
        unrefused = λ r. refused r;
        unput = λ d. unput-by d;
        uncovered = λ x y u before wrote_ low. uncovered-by x y u before wrote_ low;
        uncut = λ x y size before t least low. uncut-by x y size before t least low;
        unsettled = λ x y before made low. unsettled-by x y before made low;
        unleft = λ none k before left low. unleft-read none k before left low;
      }
        where
          refused : RefusedWrite H given.w → ⊥
          refused r =
              let writer = refused-writer H given.w r in
              let k = given.well writer in
              never-refused mt setup H V h rest is on.u on.reached on.on given.w writer k.0 (moved-fixed h v on.u on.moved given.w (answers.Done k.0) k.1) r

-- ---- the newest byte of a place

some-byte : (a b : ℕ) → Some a ≡ Some b → a ≡ b
some-byte a b e = cc

pub record IsNewest (v : View) (f : List ℕ) (i byte : ℕ) : Type 0 where
  pub cell : Cell
  pub there : cell_at (of_file f v.shelf.back).segments i ≡ Some cell
  pub byte_is : cell.byte ≡ byte

pub newest : (v : View) (f : List ℕ) (i byte : ℕ) → newest_at (of_file f v.shelf.back).segments i ≡ Some byte → IsNewest v f i byte
newest v f i byte is = by (cell_at (of_file f v.shelf.back).segments i) refl is
  where
    by : (o : Option Cell) → cell_at (of_file f v.shelf.back).segments i ≡ o → byte_of o ≡ Some byte → IsNewest v f i byte
    by None there e = absurd (let no_way : None ≡ Some byte = e in cc)
    by (Some cell) there e = record { cell = cell; there = there; byte_is = some-byte cell.byte byte e }
