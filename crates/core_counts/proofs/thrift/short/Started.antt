-- Where all operations are of one lane and find room: as a write or fill was answered, its bytes wait, under the last number.
use Rattle.core_counts.proofs.Prelude.{◌≡◌, ◌≢◌, ◌<◌, ◌≤◌, ◌⊎◌, inl, inr, ◌+◌, ◌-◌, ◌++◌, nat_eq, ℕ, Bool, true, false, List, [], ◌∷◌, length, Option, Some, None, Result, Ok, Err, slice_get, slice_set, refl, sym, ap, subst, ◌∙◌, arith, append_assoc, slice_index, eqb-true, eqb-false, le-leb, lt-ltb, Mode, Answer, Fault, Value, Entry, Began, Answered, Delivered, Op, Placed, count_of, most_pending, WriterAt, At, AnsweredBefore, UnderWay, OneLane, NeverFull, At-grow, At-back, At-below, At-cases, At-last, At-one, length_last, Unsent, of_file, all_pending, rest_at, PutsBytes, Cell, covers, puts-with, Opened, Step, Shelf, Turn, WriteFile, is_full, file_to_write, Mounted, Machine, machine_of, Starts, Lane, Busy, Over, Setup, numbers_of, IsIdle, with_state, Leads, counted, StartsLane, AnswersAt, View, turn_at, Reaches, begins-unbegun, Known, lanes-under-way, idle-numbers, number_of, at-set, at-push, get-push, get-remove, skip, to-map, answered-grow, set-other, under-back, EachSound, if-true, Basis, stirs-basis, starts-basis, takes-basis, keeps-basis, Entered, Room, reached-room, Elsewhere, counts-cons, each-map, all-each, different-apart, KeepsHearing, reached-hearing, IsOf, Given, is-given, Terms, GoesWith}
use Rattle.std.proofs.Common.{remove}
use Rattle.std.specs.Prelude.{replicate}
use Rattle.world_model.specs.Operations.{Ended}
use Rattle.file_ops.specs.Opens.{in_mode, of_open}
use Rattle.core_session.proofs.room.Writers.{Each}
use Rattle.claims.specs.Slots.{slot_of}
use Rattle.core_facts.proofs.HeldSlots.{may, held-begins, always-later}
use Rattle.std.proofs.lemmas.List.{length-replicate}
use Rattle.nfs_types.specs.declared.mode.Mode.TheVariants as modes
use Rattle.world_model.specs.declared.answer.Answer.TheVariants as answers
use Rattle.world_model.specs.declared.answer.Fault.TheVariants as faults
use Rattle.world_model.specs.declared.answer.Value.TheVariants.{Nothing}
use Rattle.world_model.specs.declared.op.Op.TheVariants as ops
use Rattle.claims.specs.Asks as asks
use Rattle.write_back.specs.declared.state.State.TheVariants.{Waiting as Waits}
use Rattle.client_shelf.specs.declared.step.Step.TheVariants as nexts
use Rattle.file_ops.specs.declared.write_file.Writing.TheVariants as writing
use Rattle.file_ops.specs.declared.write_file.Text.TheVariants as texts
use Rattle.file_ops.specs.WriteFile as writes
use Rattle.std.specs.FinMap as finite
use Rattle.core_counts.specs.thrift.Writes.{WritesBoth, write, fill}
use Rattle.core_counts.proofs.thrift.short.Lone.{one-before, room-before}
use Rattle.core_counts.proofs.thrift.short.Tracking.{not-full}
use Rattle.claims.specs.Rights.{can_write}
use Rattle.core_session.proofs.pending.Begins.{one-file, of-step}
use Rattle.core_session.proofs.syncs.Stages.{cell_of}

-- an open for it, if it finds its file
record FindsOpen (opened : Option Opened) (op : Op) (file : List ℕ) : Type 0 where
  o : Opened
  there : opened ≡ Some o
  right : may op o.mode ≡ true
  file_is : o.file ≡ file

writable : (mode : Mode) (of file : List ℕ) → in_mode mode of ≡ Ok file → (can_write mode ≡ true) × (of ≡ file)
writable modes.R of file is = absurd (cc)
writable modes.W of file is = (refl, cc)
writable modes.RW of file is = (refl, cc)
writable modes.C of file is = (refl, cc)
writable modes.X of file is = (refl, cc)

finds-to-write : (op : Op) (opened : Option Opened) (file : List ℕ) → ((mode : Mode) → may op mode ≡ can_write mode) → of_open opened ≡ Ok file → FindsOpen opened op file
finds-to-write op None file same is = absurd (cc)
finds-to-write op (Some o) file same is =
    let k = writable o.mode o.file file is in
    record { o = o; there = refl; right = same o.mode ∙ k.0; file_is = k.1 }

-- ---- one write

-- it ends in the step in which it begins
record WriteDone (k : WriteFile) (old : Shelf) (nx : Step) (after : Shelf) : Type 0 where
  answer : Answer
  done : nx ≡ nexts.Done answer
  own : (value : Value) → answer ≡ answers.Done value → (file : List ℕ) × (file_to_write k.lane k.slot old.opens ≡ Ok file)
      × ((place : ℕ) → covers k.offset (length (writes.text_bytes k.text)) place ≡ true → (byte : ℕ) × (rest_at (of_file file after.back) place ≡ Some (cell_of byte after.seq (Waits Unsent))))

refused-done : (k : WriteFile) (old : Shelf) (nx : Step) (after : Shelf) (fault : Fault) → nx ≡ nexts.Done (answers.Refused fault) → WriteDone k old nx after
refused-done k old nx after fault n = record {
  answer = answers.Refused fault;
  done = n;
  own = λ value is. absurd (let no_way : answers.Refused fault ≡ answers.Done value = is in cc);
}

write-starts : (wsize : ℕ) (turn : Turn) (k : WriteFile) (old : Shelf) (nx : Step) (new : WriteFile) (after : Shelf) → EachSound old.back → is_full (writes.text_bytes k.text) old.back ≡ false
    → writes.Starts wsize k turn old nx new after → WriteDone k old nx after
write-starts wsize turn k old nx new after sound full s = by (file_to_write k.lane k.slot old.opens) refl s
  where
    text : List ℕ
    text = writes.text_bytes k.text

    by : (found : Result (List ℕ) Fault) → file_to_write k.lane k.slot old.opens ≡ found → writes.StartsAt found wsize k turn old nx new after → WriteDone k old nx after
    by (Err fault) is s = refused-done k old nx after fault s.refuses.gives_next
    by (Ok file) is (inr s) = refused-done k old nx after faults.Memory s.refuses.gives_next
    by (Ok file) is (inl s) = which (is_full text old.back) full s.writes
      where
        which : (b : Bool) → b ≡ false → writes.WritesIf b wsize k.lane file k.offset text turn old nx new.state after → WriteDone k old nx after
        which true not w = absurd (let no_way : true ≡ false = not in cc)
        which false not (inr r) = refused-done k old nx after faults.Memory r.gives_next
        which false not (inl a) = record {
          answer = answers.Done Nothing;
          done = a.leads.gives_next;
          own = λ value is_done. (file, is, λ place inside. (slice_index text (place - k.offset), fresh place inside));
        }
          where
            comes : PutsBytes k.offset text (old.seq + 1) (of_file file old.back) (of_file file after.back)
            comes = puts-with k.offset text (old.seq + 1) (of_file file old.back) (of_file file after.back) (sound file) a.adds.here

            written : ℕ → Cell
            written place = record { byte = slice_index text (place - k.offset); number = old.seq + 1; state = Waits Unsent }

            fresh : (place : ℕ) → covers k.offset (length text) place ≡ true → rest_at (of_file file after.back) place ≡ Some (cell_of (slice_index text (place - k.offset)) after.seq (Waits Unsent))
            fresh place inside =
                comes.rest place ∙ if-true (covers k.offset (length text) place) (Some (written place)) (rest_at (of_file file old.back) place) inside
                ∙ ap (λ (n : ℕ). Some (cell_of (slice_index text (place - k.offset)) n (Waits Unsent))) (sym (ap (λ (z : Shelf). z.seq) a.leads.shelf_is))

-- ---- along a history

began-is : (a b c d : ℕ) (o p : Op) → Began a b o ≡ Began c d p → (a ≡ c) × (o ≡ p) × (b ≡ d)
began-is a b c d o p e = (cc, cc, cc)

answered-is : (a b c d : ℕ) (p q : Answer) → Answered a b p ≡ Answered c d q → (a ≡ c) × (p ≡ q) × (b ≡ d)
answered-is a b c d p q e = (cc, cc, cc)

same-over : (a b : Answer) → Over a ≡ Over b → a ≡ b
same-over a b e = cc

same-lane : (a b : Lane) → Some a ≡ Some b → a ≡ b
same-lane a b e = cc

module _ (m : Mounted) (terms : Terms) (setup : Setup) (H : List Entry) (V : View) (g : GoesWith m terms setup H V) (f : List ℕ) (end lane w slot y : ℕ) (op : Op) (both : WritesBoth op slot end) (of : IsOf terms.modes H w op f) where
  -- bytes of both places wait under the last number
  abbrev pub Two : Shelf → Type 0
  Two s = (a : ℕ) × (b : ℕ) × (rest_at (of_file f s.back) end ≡ Some (cell_of a s.seq (Waits Unsent))) × (rest_at (of_file f s.back) (end + 1) ≡ Some (cell_of b s.seq (Waits Unsent)))

  abbrev pub Idle : View → Type 0
  Idle v = (k number : ℕ) (machine : Machine) → slice_get v.lanes k ≡ Some (record { number = number; state = Busy machine }) → ⊥

  abbrev Ready : View → Type 0
  Ready v = (k number : ℕ) (value : Value) → slice_get v.lanes k ≡ Some (record { number = number; state = Over (answers.Done value) }) → Two v.shelf

  pub record Good (h : List Entry) (v : View) : Type 0 where
    pub ready : UnderWay h lane w (length h) op → Idle v × Ready v
    pub noted : (value : Value) → Ended h lane w op y (answers.Done value) → length h ≡ y + 1 → Idle v × Two v.shelf

  pub record Tracked (h : List Entry) (v : View) : Type 0 where
    pub basis : Basis setup h v
    pub run : (rest : List Entry) → h ++ rest ≡ H → OneLane h → NeverFull h → Good h v

  -- the entry at the end isn't its answer
  not-noted : (h : List Entry) (e : Entry) → ((l line : ℕ) (a : Answer) → e ≡ Answered l line a → ⊥) → (value : Value) → Ended (h ++ e ∷ []) lane w op y (answers.Done value) → length (h ++ e ∷ []) ≡ y + 1 → ⊥
  not-noted h e silent value d long = elim (At-cases h e y (Answered lane d.line (answers.Done value)) d.answered) [
    | inl there ↦ let low = At-below h y (Answered lane d.line (answers.Done value)) there in let more = length_last h e in omega (arith, low, more, long)
    | inr last ↦ silent lane d.line (answers.Done value) last.1
  ]

  -- ---- an operation begins

  module _ (h rest : List Entry) (old : View) (lane2 line2 : ℕ) (op2 : Op) (now : ℕ) (is : h ++ Began lane2 line2 op2 ∷ rest ≡ H) (r : Reaches (machine_of m) setup h old) (found : old.lost ≡ false) (k : Known setup h old)
      (idle : IsIdle lane2 old.lanes) (i : Tracked h old) (one : OneLane (h ++ Began lane2 line2 op2 ∷ [])) (room : NeverFull (h ++ Began lane2 line2 op2 ∷ [])) where
    abbrev later : List Entry
    later = h ++ Began lane2 line2 op2 ∷ []

    -- no other lane is there
    none-else : (n : ℕ) (l : Lane) → slice_get old.lanes n ≡ Some l → ⊥
    none-else n l was =
        let y = (lanes-under-way h old k.lanes).busy n l was in
        let same : l.number ≡ lane2 = one y.x (length h) l.number lane2 y.under_way.line line2 y.op op2 (At-grow h (Began lane2 line2 op2 ∷ []) y.x (Began l.number y.under_way.line y.op) y.under_way.began) (At-last h (Began lane2 line2 op2)) in
        idle-numbers lane2 (numbers_of old.lanes) idle.other n (to-map number_of old.lanes n l was ∙ ap Some same)

    stood : Room h old
    stood = reached-room m setup h old r found

    elsewhere : (os : List Placed) → Each (Entered h old.lanes) os → Elsewhere (length h) os
    elsewhere [] each = tt
    elsewhere (o ∷ os) each =
        let below = At-below h o.0 (Began each.0.began.0 each.0.began.1 o.1) each.0.began.2 in
        (λ same. omega (arith, below, same), elsewhere os each.1)

    few : asks.IsWriter op2 → all_pending old.shelf.back + count_of op2 ≤ most_pending
    few writer =
        let all = room ((length h, op2) ∷ stood.writers) (different-apart ((length h, op2) ∷ stood.writers) (elsewhere stood.writers stood.each, stood.apart))
        (all-each (WriterAt later) ((length h, op2) ∷ stood.writers) (
          record { began = (lane2, line2, At-last h (Began lane2 line2 op2)); writes = writer },
          each-map (Entered h old.lanes) (WriterAt later)
              (λ o e. record { began = (e.began.0, e.began.1, At-grow h (Began lane2 line2 op2 ∷ []) o.0 (Began e.began.0 e.began.1 o.1) e.began.2); writes = e.writes }) stood.writers stood.each,
        )) in
        let sum = counts-cons (length h, op2) stood.writers in
        let bound = stood.bound in
        omega (arith, all, sum, bound)

    split : (h ++ Began lane2 line2 op2 ∷ []) ++ rest ≡ H
    split = append_assoc h (Began lane2 line2 op2 ∷ []) rest ∙ is

    -- it is of the file that its slot holds
    slot-file : (slot2 : ℕ) (file : List ℕ) → slot_of op2 ≡ Some slot2 → FindsOpen (finite.get old.shelf.opens (lane2, slot2)) op2 file → IsOf terms.modes H (length h) op2 file
    slot-file slot2 file works_on o =
        let given : Given terms.modes h lane2 old.shelf = is-given terms.modes m g.nocto setup h old r found lane2 idle.other in
        let k_ = held-begins terms.modes h lane2 line2 slot2 op2 o.o old.shelf given works_on o.there o.right in
        let here : IsOf terms.modes (h ++ Began lane2 line2 op2 ∷ []) (length h) op2 file =
        subst (IsOf terms.modes (h ++ Began lane2 line2 op2 ∷ []) (length h) op2) o.file_is
        (record { lane = lane2; line = line2; slot = slot2; open_at = k_.held.x; began = k_.began; works_on = works_on; holds = k_.held.holds }) in
        subst (λ (z : List Entry). IsOf terms.modes z (length h) op2 file) split
        (always-later (λ (z : List Entry). IsOf terms.modes z (length h) op2 file) (of-step terms.modes (length h) op2 file) (h ++ Began lane2 line2 op2 ∷ []) rest here)

    its-file : w ≡ length h → op2 ≡ op → (slot2 : ℕ) (file : List ℕ) → slot_of op2 ≡ Some slot2 → ((mode : Mode) → may op2 mode ≡ can_write mode) → file_to_write lane2 slot2 old.shelf.opens ≡ Ok file → file ≡ f
    its-file here same slot2 file works right at =
        one-file m terms setup H V g w op file f
        (subst (λ (n : ℕ). IsOf terms.modes H n op file) (sym here) (subst (λ (o : Op). IsOf terms.modes H (length h) o file) same
        (slot-file slot2 file works (finds-to-write op2 (finite.get old.shelf.opens (lane2, slot2)) file right at)))) of

    module _ (nx : Step) (after : Machine) (shelf : Shelf) (s : Starts old.wsize (machine_of m lane2 op2) (turn_at (counted old now)) old.shelf nx after shelf) (here : w ≡ length h) (same : op2 ≡ op) where
      record StepIs : Type 0 where
        answer : Answer
        done : nx ≡ nexts.Done answer
        own : (value : Value) → answer ≡ answers.Done value → Two shelf

      step-of : (slot2 offset : ℕ) (text : _) (kk : WriteDone (record { lane = lane2; slot = slot2; offset = offset; text = text; state = writing.Idle }) old.shelf nx shelf) → slot_of op2 ≡ Some slot2
          → ((mode : Mode) → may op2 mode ≡ can_write mode) → (covers offset (length (writes.text_bytes text)) end ≡ true) × (covers offset (length (writes.text_bytes text)) (end + 1) ≡ true) → StepIs
      step-of slot2 offset text kk works right inside = record {
        answer = kk.answer;
        done = kk.done;
        own = λ value is_done.
            let o = kk.own value is_done in
            let its = its-file here same slot2 o.0 works right o.1 in
            let a = o.2 end inside.0 in
            let b = o.2 (end + 1) inside.1 in (
              a.0,
              b.0,
              ap (λ (z : List ℕ). rest_at (of_file z shelf.back) end) (sym its) ∙ a.1,
              ap (λ (z : List ℕ). rest_at (of_file z shelf.back) (end + 1)) (sym its) ∙ b.1,
            );
      }

      within : (offset size place : ℕ) → offset ≤ place → place < offset + size → covers offset size place ≡ true
      within offset size place low high = rw (le-leb offset place low, lt-ltb place (offset + size) high) refl

      step : WritesBoth op slot end → StepIs
      step (write offset2 bytes2 its low high) =
          let is2 : op2 ≡ ops.Write slot offset2 bytes2 = same ∙ its in
          let begun = subst (λ (o : Op). Starts old.wsize (machine_of m lane2 o) (turn_at (counted old now)) old.shelf nx after shelf) is2 s in
          let few_ = few (asks.write slot offset2 bytes2 is2) in
          let count = ap count_of is2 in
          step-of slot offset2 (texts.Given bytes2)
          (write-starts old.wsize (turn_at (counted old now)) (record { lane = lane2; slot = slot; offset = offset2; text = texts.Given bytes2; state = writing.Idle }) old.shelf nx _ shelf i.basis.sound
          (not-full bytes2 old.shelf.back (omega (arith, few_, count))) begun.step.step) (ap slot_of is2) (λ mode. ap (λ (o : Op). may o mode) is2)
          (within offset2 (length bytes2) end low (omega (arith, high)), within offset2 (length bytes2) (end + 1) (omega (arith, low)) high)
      step (fill offset2 count2 byte2 its low high) =
          let is2 : op2 ≡ ops.Fill slot offset2 count2 byte2 = same ∙ its in
          let begun = subst (λ (o : Op). Starts old.wsize (machine_of m lane2 o) (turn_at (counted old now)) old.shelf nx after shelf) is2 s in
          let few_ = few (asks.fill slot offset2 count2 byte2 is2) in
          let count = ap count_of is2 in
          let long = length-replicate count2 byte2 in
          step-of slot offset2 (texts.Fill count2 byte2)
          (write-starts old.wsize (turn_at (counted old now)) (record { lane = lane2; slot = slot; offset = offset2; text = texts.Fill count2 byte2; state = writing.Idle }) old.shelf nx _ shelf i.basis.sound
          (not-full (replicate count2 byte2) old.shelf.back (omega (arith, few_, count, long))) begun.step.step) (ap slot_of is2) (λ mode. ap (λ (o : Op). may o mode) is2) (
            within offset2 (length (replicate count2 byte2)) end low (omega (arith, long, high)),
            within offset2 (length (replicate count2 byte2)) (end + 1) (omega (arith, low)) (omega (arith, long, high)),
          )

    abbrev begun_view : Machine → Shelf → View
    begun_view after shelf = record (counted old now) { lanes = old.lanes ++ record { number = lane2; state = Busy after } ∷ []; shelf = shelf }

    -- its lane is the only one
    only-lane : (after : Machine) (answer : Answer) (n : ℕ) (l : Lane) → slice_get (slice_set (old.lanes ++ record { number = lane2; state = Busy after } ∷ []) (length old.lanes) (record { number = lane2; state = Over answer })) n ≡ Some l
        → record { number = lane2; state = Over answer } ≡ l
    only-lane after answer n l here = by (nat_eq n (length old.lanes)) refl
      where
        lanes : List Lane
        lanes = old.lanes ++ record { number = lane2; state = Busy after } ∷ []

        which : (slice_get old.lanes n ≡ Some l) ⊎ ((n ≡ length old.lanes) × (l ≡ record { number = lane2; state = Busy after })) → n ≢ length old.lanes → record { number = lane2; state = Over answer } ≡ l
        which (inl was) off = absurd (none-else n l was)
        which (inr last) off = absurd (off last.0)

        by : (b : Bool) → nat_eq n (length old.lanes) ≡ b → record { number = lane2; state = Over answer } ≡ l
        by true is =
            same-lane (record { number = lane2; state = Over answer }) l
            (sym (at-set lanes (length old.lanes) (record { number = lane2; state = Busy after }) (record { number = lane2; state = Over answer }) (at-push old.lanes (record { number = lane2; state = Busy after })))
            ∙ ap (slice_get (slice_set lanes (length old.lanes) (record { number = lane2; state = Over answer }))) (sym (eqb-true n (length old.lanes) is)) ∙ here)
        by false is =
            let off = eqb-false n (length old.lanes) is in
            which (get-push old.lanes (record { number = lane2; state = Busy after }) n l
            (sym (set-other lanes (length old.lanes) n (record { number = lane2; state = Over answer }) off) ∙ here)) off

    good-begins : (new : View) → StartsLane (counted old now) lane2 (machine_of m lane2 op2) new → Good later new
    good-begins new t = record {
      ready = λ u. by u (At-cases h (Began lane2 line2 op2) w (Began lane u.line op) u.began);
      noted = λ value d long. absurd (not-noted h (Began lane2 line2 op2) (λ l line a e. cc) value d long);
    }
      where
        leads : (nx : Step) (answer : Answer) → nx ≡ nexts.Done answer → Leads (begun_view t.after t.shelf) (length old.lanes) lane2 t.after nx new → new ≡ with_state (begun_view t.after t.shelf) (length old.lanes) lane2 (Over answer) t.shelf
        leads nx answer is_ l = subst (λ (n : Step). Leads (begun_view t.after t.shelf) (length old.lanes) lane2 t.after n new) is_ l

        busy-over : (number number2 : ℕ) (machine : Machine) (answer : Answer) → ◌≡◌ {A = Lane} (record { number = number; state = Over answer }) (record { number = number2; state = Busy machine }) → ⊥
        busy-over number number2 machine answer e = let k : Over answer ≡ Busy machine = ap (λ (l : Lane). l.state) e in cc

        by : (u : UnderWay later lane w (length later) op) → At h w (Began lane u.line op) ⊎ ((w ≡ length h) × (Began lane2 line2 op2 ≡ Began lane u.line op)) → Idle new × Ready new
        by u (inr here) =
            let its = began-is lane2 line2 lane u.line op2 op here.1 in
            let st = step t.next t.after t.shelf t.starts here.0 its.1 both in
            subst (λ (v : View). Idle v × Ready v) (sym (leads t.next st.answer st.done t.leads)) (
              λ n number machine there. busy-over lane2 number machine st.answer (only-lane t.after st.answer n (record { number = number; state = Busy machine }) there),
              λ n number value there.
                  let one_ = only-lane t.after st.answer n (record { number = number; state = Over (answers.Done value) }) there in
                  st.own value (same-over st.answer (answers.Done value) (ap (λ (l : Lane). l.state) one_)),
            )
        by u (inl was) = absurd (u.unanswered (answered-grow h (Began lane2 line2 op2) w (length h) (length later) (let more = length_last h (Began lane2 line2 op2) in omega (arith, more)) answered))
          where
            lane_is : lane2 ≡ lane
            lane_is = one (length h) w lane2 lane line2 u.line op2 op (At-last h (Began lane2 line2 op2)) u.began

            answered : AnsweredBefore h w (length h)
            answered = (k.lanes.rest lane2 (λ at there. idle-numbers lane2 (numbers_of old.lanes) idle.other at there)).answered w u.line op (subst (λ (n : ℕ). At h w (Began n u.line op)) (sym lane_is) was)

  -- ---- an answer is noted

  answers-good : (h : List Entry) (old new : View) (at lane2 line2 : ℕ) (answer : Answer) → AnswersAt old at lane2 (Some answer) new → Good h old → Good (h ++ Answered lane2 line2 answer ∷ []) new
  answers-good h old new at lane2 line2 answer a good = subst (Good later) (sym a.is) (record {
    ready = λ u.
        let was = good.ready (under-back h (Answered lane2 line2 answer) lane w op (λ line o is. cc) u) in (
          λ n number machine there. was.0 (skip at n) number machine (get-remove old.lanes at n (record { number = number; state = Busy machine }) there),
          λ n number value there. was.1 (skip at n) number value (get-remove old.lanes at n (record { number = number; state = Over (answers.Done value) }) there),
        );
    noted = λ value d long. by value d long (At-cases h (Answered lane2 line2 answer) y (Answered lane d.line (answers.Done value)) d.answered);
  })
    where
      later : List Entry
      later = h ++ Answered lane2 line2 answer ∷ []

      some-answer : (p q : Answer) → Some p ≡ Some q → p ≡ q
      some-answer p q e = cc

      by : (value : Value) (d : Ended later lane w op y (answers.Done value)) → length later ≡ y + 1 → At h y (Answered lane d.line (answers.Done value)) ⊎ ((y ≡ length h) × (Answered lane2 line2 answer ≡ Answered lane d.line (answers.Done value)))
          → ((n number : ℕ) (machine : Machine) → slice_get (remove old.lanes at) n ≡ Some (record { number = number; state = Busy machine }) → ⊥) × Two old.shelf
      by value d long (inl there) = absurd (let low = At-below h y (Answered lane d.line (answers.Done value)) there in let more = length_last h (Answered lane2 line2 answer) in omega (arith, low, more, long))
      by value d long (inr last) =
          let its = answered-is lane2 line2 lane d.line answer (answers.Done value) last.1 in
          let was = good.ready under in (
            λ n number machine there. was.0 (skip at n) number machine (get-remove old.lanes at n (record { number = number; state = Busy machine }) there),
            was.1 at lane2 value (a.there ∙ ap (λ (z : Answer). Some (record { number = lane2; state = Over z })) (sym (some-answer answer a.answer a.gives) ∙ its.1)),
          )
        where
          low : w < length h
          low = let late = d.later in let place = last.0 in omega (arith, late, place)

          its_began : At h w (Began lane d.line op)
          its_began = At-back h (Answered lane2 line2 answer ∷ []) w (Began lane d.line op) d.began low

          under : UnderWay h lane w (length h) op
          under = record {
            line = d.line;
            began = its_began;
            before = low;
            unanswered = λ n.
                let mark = began-is n.lane n.ended.line lane d.line n.op op (At-one h w (Began n.lane n.ended.line n.op) (Began lane d.line op) n.ended.began its_began) in
                let there : At h n.y (Answered lane d.line n.answer) =
                subst (λ (z : ℕ). At h n.y (Answered lane z n.answer)) mark.2 (subst (λ (z : ℕ). At h n.y (Answered z n.ended.line n.answer)) mark.0 n.ended.answered) in
                let first = d.first n.y n.answer (At-grow h (Answered lane2 line2 answer ∷ []) n.y (Answered lane d.line n.answer) there) n.ended.later in
                let early = n.before in
                let place = last.0 in
                omega (arith, first, early, place);
          }

  -- ---- all

  track-laws : KeepsHearing (machine_of m) setup Tracked
  track-laws = record {
    fresh = λ h v may up fresh. record {
      basis = (keeps-basis m setup).fresh h v may up fresh;
      run = λ rest is one room. record {
        ready = λ u. absurd (up.unbegun w lane u.line op u.began);
        noted = λ value d long. absurd (up.unbegun w lane d.line op d.began);
      };
    };
    stirs = λ h old new at k t i. record {
      basis = stirs-basis m setup h old new at k t i.basis;
      run = λ rest is one room.
          let good = i.run rest is one room in
          record {
            ready = λ u. absurd ((good.ready u).0 at t.number t.machine t.there);
            noted = λ value d long. absurd ((good.noted value d long).0 at t.number t.machine t.there);
          };
    };
    starts = λ h old new lane2 line2 op2 now r found k idle fits t i. record {
      basis = starts-basis m setup h old new lane2 line2 op2 now r found k idle fits t i.basis;
      run = λ rest is one room. good-begins h rest old lane2 line2 op2 now (sym (append_assoc h (Began lane2 line2 op2 ∷ []) rest) ∙ is) r found k idle i one room new t;
    };
    takes = λ h old new rec xid call at r found k fin hears named waits place t i. record {
      basis = takes-basis m setup h old new rec xid call at r found k waits place t i.basis;
      run = λ rest is one room.
          let good = i.run (Delivered rec ∷ rest) (sym (append_assoc h (Delivered rec ∷ []) rest) ∙ is) (one-before h (Delivered rec) one) (room-before h (Delivered rec) room) in
          record {
            ready = λ u. absurd ((good.ready (under-back h (Delivered rec) lane w op (λ line o is_. cc) u)).0 at t.number t.machine t.there);
            noted = λ value d long. absurd (not-noted h (Delivered rec) (λ l line a e. cc) value d long);
          };
    };
    answers = λ h old new at lane2 line2 answer k a i. record {
      basis = (keeps-basis m setup).answers h old new at lane2 line2 answer k a i.basis;
      run = λ rest is one room.
          answers-good h old new at lane2 line2 answer a
          (i.run (Answered lane2 line2 answer ∷ rest) (sym (append_assoc h (Answered lane2 line2 answer ∷ []) rest) ∙ is) (one-before h (Answered lane2 line2 answer) one) (room-before h (Answered lane2 line2 answer) room));
    };
    same = λ h e old new plain lanes shelf wsize calls i. record {
      basis = (keeps-basis m setup).same h e old new plain lanes shelf wsize calls i.basis;
      run = λ rest is one room.
          let good = i.run (e ∷ rest) (sym (append_assoc h (e ∷ []) rest) ∙ is) (one-before h e one) (room-before h e room) in
          record {
            ready = λ u.
                let was = good.ready (under-back h e lane w op (λ line_ o is_. plain.begins_ lane line_ o is_) u) in (
                  λ n number machine there. was.0 n number machine (ap (λ (ls : List Lane). slice_get ls n) (sym lanes) ∙ there),
                  λ n number value there. subst Two (sym shelf) (was.1 n number value (ap (λ (ls : List Lane). slice_get ls n) (sym lanes) ∙ there)),
                );
            noted = λ value d long. absurd (not-noted h e (λ l_ line_ a is_. plain.answers_ l_ line_ a is_) value d long);
          };
    };
  }

  pub reached-started : (h : List Entry) (v : View) → Reaches (machine_of m) setup h v → v.lost ≡ false → Tracked h v
  reached-started = reached-hearing (machine_of m) (begins-unbegun m) setup Tracked track-laws
