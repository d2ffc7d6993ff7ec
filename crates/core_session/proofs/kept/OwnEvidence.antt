-- What a read's first view tells of a byte that was written before: where nothing is pending there, the byte was made stable before the read began, and what is
-- sent for its place carries it until the read's answer.
use Rattle.core_session.proofs.Prelude.{◌≡◌, ◌<◌, ◌≤◌, ◌⊎◌, inl, inr, ℕ, true, false, List, ◌++◌, length, Some, None, slice_get, refl, sym, ap, subst, ◌∙◌, arith, cases_lt, of_file, newest_at, IsOpen, Answer, Fault, Value, Entry, Began, Answered, Op, At, History, AnsweredBefore, Ended, ReadsBytes, SettledBy, Terms, Wrote, Touched, GivesUp, RefusedWrite, At-below, At-one, Mounted, machine_of, Over, Setup, View, KnowsRoot, GoesWith, begins-unbegun, set-other, MadeAndKept, PutsNamed, WritesCarry, MadeStable, Passes}
use Rattle.claims.specs.Touched.{Left, IsAnsweredPut}
use Rattle.world_model.specs.declared.answer.Answer.TheVariants as answers
use Rattle.world_model.specs.declared.answer.Value.TheVariants as values
use Rattle.world_model.specs.declared.op.Op.TheVariants as ops
use Rattle.claims.specs.Settled as settled
use Rattle.claims.specs.Touched as touched_by
use Rattle.core_session.specs.syncs.Until as until
use Rattle.core_session.proofs.drops.LaneIs.{state-is, busy-over}
use Rattle.core_session.proofs.drops.OneFile.{one-by-one}
use Rattle.core_session.proofs.pending.Onwards.{never-refused}
use Rattle.core_session.proofs.room.Entered.{BusyStays, stirs-stay}
use Rattle.core_session.proofs.saves.Evidenced.{stable-grow}
use Rattle.core_session.proofs.shown.Following.{GoesOn, Moved, rests, moves}
use Rattle.core_session.proofs.shown.Moment.{ended-in}
use Rattle.core_session.proofs.syncs.Causes.{IsWriter, OfOp}
use Rattle.core_session.proofs.syncs.Looks.{Touching, plain, wrote, left_, doomed, aside, owed, was_left}
use Rattle.core_session.proofs.syncs.Turning.{IsFixed, ready, gone, fixed-once}
use Rattle.core_session.proofs.kept.Entries_.{stands-answers, stands-same}
use Rattle.core_session.proofs.kept.Kept.{stands-takes, stands-stirs}
use Rattle.core_session.proofs.kept.Lefts.{left-unowed}
use Rattle.core_session.proofs.kept.OwnOnward.{KeepsOn, UpTo, up-to, moved-kept, moved-unlost, passes-known, passes-unlost}
use Rattle.core_session.proofs.kept.OwnSlot.{table-open}
use Rattle.core_session.proofs.kept.Stands.{Case, StableTwo, Fated, unsure, surely, Phase, Stands, early, unsent, since, touched, past}
use Rattle.core_session.proofs.kept.StartsOn.{stands-starts}
use Rattle.core_session.proofs.kept.Written.{case-of, Says, held_back, stable_, touched_, never-early, unsent-held, says}

began-parts : (a b c d : ℕ) (o p : Op) → Began a b o ≡ Began c d p → (a ≡ c) × (b ≡ d) × (o ≡ p)
began-parts a b c d o p e = (cc, cc, cc)

done-refused : (value : Value) (fault : Fault) → answers.Done value ≡ answers.Refused fault → ⊥
done-refused value fault e = cc

-- the answer came before, if it did so before a place
early-of : (h : List Entry) (lane x y k : ℕ) (op : Op) (answer : Answer) → Ended h lane x op y answer → AnsweredBefore h x k → y < k
early-of h lane x y k op answer d a =
    let same = began-parts a.lane a.ended.line lane d.line a.op op (At-one h x (Began a.lane a.ended.line a.op) (Began lane d.line op) a.ended.began d.began) in
    let first = d.first a.y a.answer (subst (λ (l : ℕ). At h a.y (Answered l d.line a.answer)) same.0 (subst (λ (l : ℕ). At h a.y (Answered a.lane l a.answer)) same.1 a.ended.answered)) a.ended.later in
    let low = a.before in
    omega (arith, first, low)

refused-writer : (H : List Entry) (w : ℕ) → RefusedWrite H w → OfOp H w IsWriter
refused-writer H w (touched_by.write lane slot offset y bytes fault ended) n l other there =
    subst IsWriter (began-parts lane ended.line n l (ops.Write slot offset bytes) other (At-one H w (Began lane ended.line (ops.Write slot offset bytes)) (Began n l other) ended.began there)).2 tt
refused-writer H w (touched_by.fill lane slot offset count byte y fault ended) n l other there =
    subst IsWriter (began-parts lane ended.line n l (ops.Fill slot offset count byte) other (At-one H w (Began lane ended.line (ops.Fill slot offset count byte)) (Began n l other) ended.began there)).2 tt

-- ---- an answer that is ready stays so between the steps

abbrev Waits : ℕ → ℕ → Answer → View → Type 0
Waits k n answer v = slice_get v.lanes k ≡ Some (record { number = n; state = Over answer })

waits-stays : (k n : ℕ) (answer : Answer) → BusyStays (Waits k n answer)
waits-stays k n answer = record {
  makes = λ old new number call m w. subst (Waits k n answer) (sym m.is) w;
  sets = λ old at number machine state shelf there w.
      set-other old.lanes at k (record { number = number; state = state })
      (λ same. busy-over machine answer (state-is _ (Over answer) number n (sym there ∙ ap (slice_get old.lanes) (sym same) ∙ w))) ∙ w;
}

moved-waits : (k n : ℕ) (answer : Answer) (v u : View) → Moved v u → Waits k n answer v → Waits k n answer u
moved-waits k n answer _ _ (rests v u is) w = subst (Waits k n answer) (sym is) w
moved-waits k n answer _ _ (moves v mid u at t more) w = moved-waits k n answer mid u more (stirs-stay (Waits k n answer) (waits-stays k n answer) v mid at t w)

moved-fixed : (h : List Entry) (v u : View) → Moved v u → (x : ℕ) (answer : Answer) → IsFixed h v x answer → IsFixed h u x answer
moved-fixed h v u m x answer (ready k n op there under) = ready k n op (moved-waits k n answer v u m there) under
moved-fixed h v u m x answer (gone lane y op d) = gone lane y op d

module _ (mt : Mounted) (terms : Terms) (setup : Setup) (t : History) (V : View) (g : GoesWith mt terms setup t.entries V) (roots : KnowsRoot terms.origin t.entries mt.root) (puts_named : PutsNamed t.entries)
    (x y o : ℕ) (f : List ℕ) (offset count : ℕ) (bytes : List ℕ) (read : ReadsBytes terms.modes t.entries x y o f offset count bytes)
    (w e i byte : ℕ) (wrote_ : Wrote terms.modes t.entries w e f i byte) (before_ : e < x) (free : Touched terms.modes terms.origin t w y f i → ⊥)
    (unsettled : (j : ℕ) → SettledBy terms.modes t.entries w e f j → j < x → ⊥) where
  abbrev H : List Entry
  H = t.entries

  pub ends : y < length H
  ends = At-below H y _ read.ended.answered

  abbrev pub case_ : Case terms H w e y f i byte
  case_ = case-of terms H w e y f i byte wrote_ (let low = ends in omega (arith, low))

  -- the read's slot isn't closed before it is answered
  unclosed : (c k : ℕ) (answer : Answer) → Ended H read.lane c (ops.Close read.slot) k answer → read.holds.y < k → k < y → ⊥
  unclosed c k answer d after low = elim (cases_lt k x) [
    | inl lt ↦ read.holds.kept c k answer d after lt
    | inr ge ↦ in-read ge (cases_lt c x)
  ]
    where
      began : At H x (Began read.lane read.ended.line (ops.Read read.slot offset count))
      began = read.ended.began

      not-read : (a b c e s t q r : ℕ) → Began a b (ops.Close s) ≡ Began c e (ops.Read t q r) → ⊥
      not-read a b c e s t q r is = cc

      in-read : x ≤ k → (c < x) ⊎ (x ≤ c) → ⊥
      in-read ge (inl lt) =
          let a = one-by-one (machine_of mt) setup H V g.reaches read.lane c d.line (ops.Close read.slot) x read.ended.line (ops.Read read.slot offset count) d.began began lt in
          let e_ = early-of H read.lane c k x (ops.Close read.slot) answer d a in
          omega (arith, e_, ge)
      in-read ge (inr from) = elim (cases_lt x c) [
        | inl lt ↦ (
            let a = one-by-one (machine_of mt) setup H V g.reaches read.lane x read.ended.line (ops.Read read.slot offset count) c d.line (ops.Close read.slot) began d.began lt in
            let e_ = early-of H read.lane x y c (ops.Read read.slot offset count) (answers.Done (values.Bytes bytes)) read.ended a in
            let later = d.later in
            omega (arith, e_, later, low))
        | inr le ↦ (
            let same : c ≡ x = omega (arith, from, le) in
            not-read read.lane d.line read.lane read.ended.line read.slot read.slot offset count
            (At-one H x (Began read.lane d.line (ops.Close read.slot)) (Began read.lane read.ended.line (ops.Read read.slot offset count))
            (subst (λ (z : ℕ). At H z (Began read.lane d.line (ops.Close read.slot))) same d.began) began))
      ]

  -- the write is no put that was answered before
  no-put : (k : ℕ) → IsAnsweredPut H w k → ⊥
  no-put k a = by wrote_
    where
      not-write : (a b c d s p : ℕ) (bs cs : List ℕ) (path : _) (q : ℕ) → Began a b (ops.Put path q bs) ≡ Began c d (ops.Write s p cs) → ⊥
      not-write a b c d s p bs cs path q is = cc

      not-fill : (a b c d s p n v : ℕ) (bs : List ℕ) (path : _) (q : ℕ) → Began a b (ops.Put path q bs) ≡ Began c d (ops.Fill s p n v) → ⊥
      not-fill a b c d s p n v bs path q is = cc

      by : Wrote terms.modes H w e f i byte → ⊥
      by (touched_by.write lane slot place bs value of ended covers) =
          not-write a.lane a.ended.line of.lane of.line slot place a.bytes bs a.path a.offset
          (At-one H w (Began a.lane a.ended.line (ops.Put a.path a.offset a.bytes)) (Began of.lane of.line (ops.Write slot place bs)) a.ended.began of.began)
      by (touched_by.fill lane slot place n value of ended low high) =
          not-fill a.lane a.ended.line of.lane of.line slot place n byte a.bytes a.path a.offset
          (At-one H w (Began a.lane a.ended.line (ops.Put a.path a.offset a.bytes)) (Began of.lane of.line (ops.Fill slot place n byte)) a.ended.began of.began)
      by (touched_by.put place bs to covers) = unsettled e (settled.itself place bs to refl) before_

  -- no last close gave it up
  not-left : (k : ℕ) → w < k → k < y → Left terms.modes H k f → GivesUp terms.modes H k f → ⊥
  not-left k after low left gives = elim (cases_lt k x) [
    | inl lt ↦ free (touched_by.given_up k after low (record {
      left = left;
      refused = gives;
      unstable = λ s. let by = s.by in unsettled s.y (settled.later s.x s.after s.made) (omega (arith, by, lt));
      unanswered = no-put k;
    }))
    | inr ge ↦ left.last read.lane read.slot o (record {
      y = read.holds.y;
      opens = read.holds.opens;
      before = let b = read.holds.before in omega (arith, b, ge);
      kept = λ c j answer d after_ under. unclosed c j answer d after_ (omega (arith, under, low));
    })
  ]

  -- ---- in a view of the read nothing has touched it

  touched-not : (h rest : List Entry) (is : h ++ rest ≡ H) (v : View) → GoesOn (machine_of mt) setup H V h v → x ≤ length h → length h ≤ y → IsOpen v.shelf.opens f
      → Touching terms.modes terms.origin H w (length H) y y f i h v → ⊥
  touched-not h rest is v on late soon held (plain (until.written z u apart low unanswered writes kept)) = free (touched_by.written z u apart low unanswered writes kept)
  touched-not h rest is v on late soon held (plain (until.cut z apart low unanswered cuts)) = free (touched_by.cut z apart low unanswered cuts)
  touched-not h rest is v on late soon held (plain (until.given_up k after low left gives)) = not-left k after low left gives
  touched-not h rest is v on late soon held (wrote z u value apart low unanswered writes fixed) =
      free (touched_by.written z u apart low unanswered writes (λ r.
      never-refused mt setup H V h rest is on.u on.reached on.on z (refused-writer H z r) value (moved-fixed h v on.u on.moved z (answers.Done value) fixed) r))
  touched-not h rest is v on late soon held (left_ (owed from after dropped fate saver puts)) =
      left-unowed mt terms setup H w e false x y f i byte h rest is soon v from after dropped (λ k. k.shut held) (λ l. not-left l.0 l.1 l.2 l.3 l.4)
  touched-not h rest is v on late soon held (left_ (was_left n)) = n (λ l. not-left l.0 l.1 l.2 l.3 l.4)
  touched-not h rest is v on late soon held (doomed z (inl same) fault fixed) =
      done-refused case_.valueW fault
      (fixed-once h v z (answers.Refused fault) fixed case_.laneW case_.opW e (answers.Done case_.valueW)
      (subst (λ (n : ℕ). Ended h case_.laneW n case_.opW e (answers.Done case_.valueW)) (sym same) (ended-in H h rest is case_.laneW w e case_.opW (answers.Done case_.valueW) (omega (arith, late, before_)) case_.endW)))
  touched-not h rest is v on late soon held (doomed z (inr same) fault fixed) = not-end fixed
    where
      not-end : IsFixed h v z (answers.Refused fault) → ⊥
      not-end (ready k number op there under) = let low = under.before in let within = ends in omega (arith, low, same, soon, within)
      not-end (gone lane k op d) = let low = At-below h z _ d.began in let within = ends in omega (arith, low, same, soon, within)
  touched-not h rest is v on late soon held (aside a) = let low = a.under.before in let within = ends in omega (arith, low, soon, within)

  -- ---- from the first view on

  abbrev pub Unsure : List Entry → View → Type 0
  Unsure = Stands mt terms setup H w e false x y f i byte

  abbrev Sure : List Entry → View → Type 0
  Sure = Stands mt terms setup H w e true x y f i byte

  never-sure : (P : Type 0) → Fated true ⊥ → P
  never-sure P (unsure is) = absurd (let no_way : true ≡ false = is in cc)
  never-sure P (surely none) = absurd none

  keeps-on : KeepsOn (machine_of mt) setup Sure
  keeps-on = record {
    stirs = stands-stirs mt terms setup H V g w e true x y f i byte case_ roots puts_named;
    starts = stands-starts mt terms setup H V g w e true x y f i byte case_;
    takes = stands-takes mt terms setup H V g w e true x y f i byte case_ roots puts_named;
    answers = stands-answers mt terms setup H w e true x y f i byte case_ g.nocto;
    same = stands-same mt terms setup H w e true x y f i byte case_ g.nocto;
  }

  module _ (h rest : List Entry) (is : h ++ rest ≡ H) (there : length h ≡ x) (v : View) (on : GoesOn (machine_of mt) setup H V h v) (passed : Passes (machine_of mt) setup h v) (held : IsOpen v.shelf.opens f)
      (st : Unsure h v) (none : newest_at (of_file f v.shelf.back).segments i ≡ None) where
    in-time : x ≤ y
    in-time = let later = read.ended.later in omega (arith, later)

    said : Says mt terms setup H w e false x y f i byte case_ h v
    said = says mt terms setup H w e false x y f i byte case_ h rest is v (omega (arith, before_, there)) (let low = in-time in omega (arith, low, there)) (st.phase rest is)

    not-held : newest_at (of_file f v.shelf.back).segments i ≡ Some byte → ⊥
    not-held is_ = let no_way : None ≡ Some byte = sym none ∙ is_ in cc

    -- it is followed from here on, where it is known to be stable
    sure-phase : (r : List Entry) → h ++ r ≡ H → Phase mt terms setup H w e false x y f i byte h v → Phase mt terms setup H w e true x y f i byte h v
    sure-phase r split_ (past over) = past over
    sure-phase r split_ (touched t_) = touched t_
    sure-phase r split_ (early low k) = absurd (never-early mt terms setup H w e false x y f i byte case_ h rest is v (omega (arith, before_, there)) (let less = in-time in omega (arith, less, there)) k)
    sure-phase r split_ (unsent low n k) =
        absurd (not-held (unsent-held mt terms setup H w e false x y f i byte case_ h rest is v (omega (arith, before_, there)) (let less = in-time in omega (arith, less, there)) n k.content))
    sure-phase r split_ (since low n k) = by said
      where
        by : Says mt terms setup H w e false x y f i byte case_ h v → Phase mt terms setup H w e true x y f i byte h v
        by (held_back is_) = absurd (not-held is_)
        by (touched_ t_) = touched t_
        by (stable_ q none_ z m) = since low n (record {
          began = k.began;
          guard = k.guard;
          fate = surely (q, z, subst (λ (l : List Entry). MadeStable l q x f i byte) is (stable-grow h rest q (length h) x f i byte (omega (arith, there)) m));
          content = k.content;
          story = k.story;
          owned = k.owned;
        })

    sure : Sure h v
    sure = record { guards = st.guards; slot_w = st.slot_w; wholly = st.wholly; placed = st.placed; places = st.places; wsize = st.wsize; phase = λ r split_. sure-phase r split_ (st.phase r split_) }

    -- the last view of the session before the read's answer
    last : UpTo (machine_of mt) (begins-unbegun mt) setup Sure keeps-on (length h) H V y
    last =
        let found = passes-unlost (machine_of mt) setup h v passed in
        up-to (machine_of mt) (begins-unbegun mt) setup Sure keeps-on y h on.u on.reached (moved-unlost v on.u on.moved found)
        (moved-kept (machine_of mt) (begins-unbegun mt) setup Sure keeps-on h v on.u on.moved (passes-known (machine_of mt) (begins-unbegun mt) setup Sure keeps-on h v passed) sure) (let less = in-time in omega (arith, less, there)) H V on.on

    start : x ≤ length last.front
    start = let low = last.late in omega (arith, low, there)

    pub first-evidence : MadeAndKept H w x y f i byte
    first-evidence = by (last.good.phase last.rest last.is)
      where
        table : IsOpen last.view.shelf.opens f
        table = table-open mt terms setup H V g x y o f offset count bytes read last.front last.rest last.is start last.soon last.view last.reached last.found

        from-stable : (q : ℕ) → (q ≤ length last.front) → w < q → WritesCarry H q (length last.front) f i byte → MadeStable H q x f i byte → MadeAndKept H w x y f i byte
        from-stable q low after carry made = record {
          from = q;
          after = after;
          made = made;
          kept = λ j xid place how bs sent at spells from soon inside. elim (cases_lt j (length last.front)) [
            | inl lt ↦ carry j xid place how bs sent at spells from lt inside
            | inr ge ↦ absurd (last.silent j sent at ge soon)
          ];
        }

        by : Phase mt terms setup H w e true x y f i byte last.front last.view → MadeAndKept H w x y f i byte
        by (past over) = absurd (let low = last.soon in omega (arith, over, low))
        by (touched t_) = absurd (touched-not last.front last.rest last.is last.view (record { u = last.view; moved = rests last.view last.view refl; reached = last.reached; on = last.on }) start last.soon table t_)
        by (early low k) = never-sure (MadeAndKept H w x y f i byte) k.fated
        by (unsent low n k) = never-sure (MadeAndKept H w x y f i byte) k.fate
        by (since low n k) = by_fate k.fate
          where
            by_fate : Fated true (StableTwo mt terms setup H w e true x y f i byte last.front) → MadeAndKept H w x y f i byte
            by_fate (unsure is_) = absurd (let no_way : true ≡ false = is_ in cc)
            by_fate (surely s) = from-stable s.0 s.1.0 s.1.1 s.1.2 s.2
