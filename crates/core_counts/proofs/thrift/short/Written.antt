-- Where all operations are of one lane and find room: bytes that a write or fill brought go on waiting, as long as only writes and fills begin.
use Rattle.core_counts.proofs.Prelude.{◌≡◌, ◌≢◌, ◌<◌, ◌≤◌, ◌⊎◌, inl, inr, ◌+◌, ◌-◌, ◌++◌, nat_eq, ℕ, Bool, true, false, List, [], ◌∷◌, length, Option, Some, None, option_map, Result, Ok, Err, slice_get, slice_set, refl, sym, ap, subst, ◌∙◌, arith, slice_index, eqb-true, eqb-false, le-leb, lt-ltb, Mode, Answer, Fault, Value, Entry, Began, Answered, Delivered, Op, Placed, count_of, most_pending, WriterAt, At, AnsweredBefore, UnderWay, OneLane, NeverFull, At-grow, At-back, At-below, At-cases, At-last, At-one, length_last, Unsent, of_file, all_pending, FilePending, rest_at, PutsBytes, Cell, covers, puts-with, same-or, Opened, Step, Shelf, Turn, WriteFile, is_full, file_to_write, file_at, Mounted, Machine, machine_of, Starts, Lane, Busy, Over, Setup, numbers_of, IsIdle, with_state, Leads, counted, StartsLane, AnswersAt, View, turn_at, Reaches, begins-unbegun, Known, lanes-under-way, idle-numbers, number_of, at-set, at-push, get-push, get-remove, skip, to-map, answered-grow, set-other, under-back, EachSound, if-true, if-false, Basis, stirs-basis, starts-basis, takes-basis, keeps-basis, Entered, Room, reached-room, Elsewhere, counts-cons, each-map, all-each, different-apart, KeepsHearing, reached-hearing, WaitsPlain}
use Rattle.std.specs.Prelude.{replicate}
use Rattle.world_model.specs.Operations.{Ended}
use Rattle.file_ops.specs.Opens.{in_mode, of_open}
use Rattle.core_session.proofs.room.Writers.{Each}
use Rattle.core_counts.specs.thrift.Writes.{IsWrite, a_write, a_fill, WritesBoth, write, fill}
use Rattle.std.proofs.lemmas.List.{length-replicate}
use Rattle.nfs_types.specs.declared.mode.Mode.TheVariants as modes
use Rattle.world_model.specs.declared.answer.Answer.TheVariants as answers
use Rattle.world_model.specs.declared.answer.Fault.TheVariants as faults
use Rattle.world_model.specs.declared.answer.Value.TheVariants.{Nothing}
use Rattle.world_model.specs.declared.op.Op.TheVariants as ops
use Rattle.claims.specs.Asks as asks
use Rattle.write_back.specs.declared.state.State.TheVariants.{Waiting as Waits}
use Rattle.client_shelf.specs.declared.step.Step.TheVariants as nexts
use Rattle.file_ops.specs.declared.write_file.Writing.TheVariants as writing
use Rattle.file_ops.specs.declared.write_file.Text.TheVariants as texts
use Rattle.file_ops.specs.WriteFile as writes
use Rattle.std.specs.FinMap as finite
use Rattle.core_facts.proofs.SlotGrowth.{ended-back}
use Rattle.core_counts.proofs.thrift.short.Lone.{one-before, room-before}
use Rattle.core_counts.proofs.thrift.short.Tracking.{not-full}

-- ---- one write

open-file : (o : Option Opened) (file g : List ℕ) → of_open o ≡ Ok file → option_map (λ (p : Opened). p.file) o ≡ Some g → file ≡ g
open-file None file g a b = absurd (let no_way : None ≡ Some g = b in cc)
open-file (Some o) file g a b = by o.mode a
  where
    same : o.file ≡ g
    same = let k : Some o.file ≡ Some g = b in cc

    by : (mode : Mode) → in_mode mode o.file ≡ Ok file → file ≡ g
    by modes.R is = absurd (cc)
    by modes.W is = let k : o.file ≡ file = cc in sym k ∙ same
    by modes.RW is = let k : o.file ≡ file = cc in sym k ∙ same
    by modes.C is = let k : o.file ≡ file = cc in sym k ∙ same
    by modes.X is = let k : o.file ≡ file = cc in sym k ∙ same

-- it ends in the step in which it begins
record WriteDone (k : WriteFile) (old : Shelf) (nx : Step) (after : Shelf) : Type 0 where
  answer : Answer
  done : nx ≡ nexts.Done answer
  opens : after.opens ≡ old.opens
  rest : (g : List ℕ) (place : ℕ) → WaitsPlain (of_file g old.back) place → WaitsPlain (of_file g after.back) place
  own : (value : Value) → answer ≡ answers.Done value → (g : List ℕ) → file_at k.lane k.slot old.opens ≡ Some g → (place : ℕ) → covers k.offset (length (writes.text_bytes k.text)) place ≡ true
      → WaitsPlain (of_file g after.back) place

refused-done : (k : WriteFile) (old : Shelf) (nx : Step) (after : Shelf) (fault : Fault) → nx ≡ nexts.Done (answers.Refused fault) → after ≡ old → WriteDone k old nx after
refused-done k old nx after fault n s = record {
  answer = answers.Refused fault;
  done = n;
  opens = ap (λ (z : Shelf). z.opens) s;
  rest = λ g place waits. subst (λ (z : Shelf). WaitsPlain (of_file g z.back) place) (sym s) waits;
  own = λ value is. absurd (let no_way : answers.Refused fault ≡ answers.Done value = is in cc);
}

write-starts : (wsize : ℕ) (turn : Turn) (k : WriteFile) (old : Shelf) (nx : Step) (new : WriteFile) (after : Shelf) → EachSound old.back → is_full (writes.text_bytes k.text) old.back ≡ false
    → writes.Starts wsize k turn old nx new after → WriteDone k old nx after
write-starts wsize turn k old nx new after sound full s = by (file_to_write k.lane k.slot old.opens) refl s
  where
    text : List ℕ
    text = writes.text_bytes k.text

    by : (found : Result (List ℕ) Fault) → file_to_write k.lane k.slot old.opens ≡ found → writes.StartsAt found wsize k turn old nx new after → WriteDone k old nx after
    by (Err fault) is s = refused-done k old nx after fault s.refuses.gives_next s.refuses.shelf_is
    by (Ok file) is (inr s) = refused-done k old nx after faults.Memory s.refuses.gives_next s.refuses.shelf_is
    by (Ok file) is (inl s) = which (is_full text old.back) full s.writes
      where
        which : (b : Bool) → b ≡ false → writes.WritesIf b wsize k.lane file k.offset text turn old nx new.state after → WriteDone k old nx after
        which true not w = absurd (let no_way : true ≡ false = not in cc)
        which false not (inr r) = refused-done k old nx after faults.Memory r.gives_next r.shelf_is
        which false not (inl a) = record {
          answer = answers.Done Nothing;
          done = a.leads.gives_next;
          opens = ap (λ (z : Shelf). z.opens) a.leads.shelf_is;
          rest = λ g place waits. kept g place waits (same-or file g);
          own = λ value is_done g at place inside. subst (λ (z : List ℕ). WaitsPlain (of_file z after.back) place) (open-file (finite.get old.opens (k.lane, k.slot)) file g is at) (fresh place inside);
        }
          where
            comes : PutsBytes k.offset text (old.seq + 1) (of_file file old.back) (of_file file after.back)
            comes = puts-with k.offset text (old.seq + 1) (of_file file old.back) (of_file file after.back) (sound file) a.adds.here

            written : ℕ → Cell
            written place = record { byte = slice_index text (place - k.offset); number = old.seq + 1; state = Waits Unsent }

            fresh : (place : ℕ) → covers k.offset (length text) place ≡ true → WaitsPlain (of_file file after.back) place
            fresh place inside = record {
              cell = written place;
              at = comes.rest place ∙ if-true (covers k.offset (length text) place) (Some (written place)) (rest_at (of_file file old.back) place) inside;
              ready = refl;
              plain = refl;
            }

            kept : (g : List ℕ) (place : ℕ) → WaitsPlain (of_file g old.back) place → (g ≡ file) ⊎ (g ≢ file) → WaitsPlain (of_file g after.back) place
            kept g place waits (inr off) = subst (λ (z : FilePending). WaitsPlain z place) (sym (a.adds.others g off)) waits
            kept g place waits (inl same) = subst (λ (z : List ℕ). WaitsPlain (of_file z after.back) place) (sym same) (of (covers k.offset (length text) place) refl)
              where
                was : WaitsPlain (of_file file old.back) place
                was = subst (λ (z : List ℕ). WaitsPlain (of_file z old.back) place) same waits

                of : (b : Bool) → covers k.offset (length text) place ≡ b → WaitsPlain (of_file file after.back) place
                of true inside = fresh place inside
                of false outside = record {
                  cell = was.cell;
                  at = comes.rest place ∙ if-false (covers k.offset (length text) place) (Some (written place)) (rest_at (of_file file old.back) place) outside ∙ was.at;
                  ready = was.ready;
                  plain = was.plain;
                }

-- ---- along a history

began-is : (a b c d : ℕ) (o p : Op) → Began a b o ≡ Began c d p → (a ≡ c) × (o ≡ p) × (b ≡ d)
began-is a b c d o p e = (cc, cc, cc)

answered-is : (a b c d : ℕ) (p q : Answer) → Answered a b p ≡ Answered c d q → (a ≡ c) × (p ≡ q) × (b ≡ d)
answered-is a b c d p q e = (cc, cc, cc)

same-over : (a b : Answer) → Over a ≡ Over b → a ≡ b
same-over a b e = cc

same-lane : (a b : Lane) → Some a ≡ Some b → a ≡ b
same-lane a b e = cc

module _ (m : Mounted) (setup : Setup) (end lane w slot : ℕ) (op : Op) (both : WritesBoth op slot end) where
  abbrev pub Both : Shelf → Type 0
  Both s = (g : List ℕ) → file_at lane slot s.opens ≡ Some g → WaitsPlain (of_file g s.back) end × WaitsPlain (of_file g s.back) (end + 1)

  pub record Good (h : List Entry) (v : View) : Type 0 where
    pub idle : (k number : ℕ) (machine : Machine) → slice_get v.lanes k ≡ Some (record { number = number; state = Busy machine }) → ⊥
    pub ready : (k number : ℕ) (value : Value) → slice_get v.lanes k ≡ Some (record { number = number; state = Over (answers.Done value) }) → UnderWay h number w (length h) op → Both v.shelf
    pub noted : (l y : ℕ) (value : Value) → Ended h l w op y (answers.Done value) → Both v.shelf

  abbrev pub Only : List Entry → Type 0
  Only h = (j l line : ℕ) (o : Op) → At h j (Began l line o) → w < j → IsWrite o

  pub record Tracked (h : List Entry) (v : View) : Type 0 where
    pub basis : Basis setup h v
    pub run : OneLane h → NeverFull h → (line : ℕ) → At h w (Began lane line op) → Only h → Good h v

  only-before : (h : List Entry) (e : Entry) → Only (h ++ e ∷ []) → Only h
  only-before h e only j l line o at late = only j l line o (At-grow h (e ∷ []) j (Began l line o) at) late

  -- where no operation begins
  was-began : (h : List Entry) (e : Entry) → ((l line : ℕ) (o : Op) → e ≡ Began l line o → ⊥) → (line : ℕ) → At (h ++ e ∷ []) w (Began lane line op) → At h w (Began lane line op)
  was-began h e silent line at = elim (At-cases h e w (Began lane line op) at) [
    | inl there ↦ there
    | inr last ↦ absurd (silent lane line op last.1)
  ]

  earlier-end : (h : List Entry) (e : Entry) → ((l line : ℕ) (a : Answer) → e ≡ Answered l line a → ⊥) → (l y : ℕ) (a : Answer) → Ended (h ++ e ∷ []) l w op y a → Ended h l w op y a
  earlier-end h e silent l y a d = elim (At-cases h e y (Answered l d.line a) d.answered) [
    | inl there ↦ ended-back h e l w op y a (At-below h y (Answered l d.line a) there) d
    | inr last ↦ absurd (silent l d.line a last.1)
  ]

  -- ---- an operation begins

  module _ (h : List Entry) (old : View) (lane2 line2 : ℕ) (op2 : Op) (now : ℕ) (r : Reaches (machine_of m) setup h old) (found : old.lost ≡ false) (k : Known setup h old) (idle : IsIdle lane2 old.lanes)
      (i : Tracked h old) (one : OneLane (h ++ Began lane2 line2 op2 ∷ [])) (room : NeverFull (h ++ Began lane2 line2 op2 ∷ [])) where
    abbrev later : List Entry
    later = h ++ Began lane2 line2 op2 ∷ []

    -- no other lane is there
    none-else : (n : ℕ) (l : Lane) → slice_get old.lanes n ≡ Some l → ⊥
    none-else n l was =
        let y = (lanes-under-way h old k.lanes).busy n l was in
        let same : l.number ≡ lane2 = one y.x (length h) l.number lane2 y.under_way.line line2 y.op op2 (At-grow h (Began lane2 line2 op2 ∷ []) y.x (Began l.number y.under_way.line y.op) y.under_way.began) (At-last h (Began lane2 line2 op2)) in
        idle-numbers lane2 (numbers_of old.lanes) idle.other n (to-map number_of old.lanes n l was ∙ ap Some same)

    stood : Room h old
    stood = reached-room m setup h old r found

    elsewhere : (os : List Placed) → Each (Entered h old.lanes) os → Elsewhere (length h) os
    elsewhere [] each = tt
    elsewhere (o ∷ os) each =
        let below = At-below h o.0 (Began each.0.began.0 each.0.began.1 o.1) each.0.began.2 in
        (λ same. omega (arith, below, same), elsewhere os each.1)

    few : asks.IsWriter op2 → all_pending old.shelf.back + count_of op2 ≤ most_pending
    few writer =
        let all = room ((length h, op2) ∷ stood.writers) (different-apart ((length h, op2) ∷ stood.writers) (elsewhere stood.writers stood.each, stood.apart))
        (all-each (WriterAt later) ((length h, op2) ∷ stood.writers) (
          record { began = (lane2, line2, At-last h (Began lane2 line2 op2)); writes = writer },
          each-map (Entered h old.lanes) (WriterAt later)
              (λ o e. record { began = (e.began.0, e.began.1, At-grow h (Began lane2 line2 op2 ∷ []) o.0 (Began e.began.0 e.began.1 o.1) e.began.2); writes = e.writes }) stood.writers stood.each,
        )) in
        let sum = counts-cons (length h, op2) stood.writers in
        let bound = stood.bound in
        omega (arith, all, sum, bound)

    module _ (nx : Step) (after : Machine) (shelf : Shelf) (s : Starts old.wsize (machine_of m lane2 op2) (turn_at (counted old now)) old.shelf nx after shelf) where
      -- what is said of a write or a fill
      record StepIs : Type 0 where
        answer : Answer
        done : nx ≡ nexts.Done answer
        kept : Both old.shelf → Both shelf
        own : (value : Value) → answer ≡ answers.Done value → op2 ≡ op → lane2 ≡ lane → Both shelf

      step-of : (slot2 offset : ℕ) (text : _) (kk : WriteDone (record { lane = lane2; slot = slot2; offset = offset; text = text; state = writing.Idle }) old.shelf nx shelf)
          → (op2 ≡ op → (slot2 ≡ slot) × (covers offset (length (writes.text_bytes text)) end ≡ true) × (covers offset (length (writes.text_bytes text)) (end + 1) ≡ true)) → StepIs
      step-of slot2 offset text kk inside = record {
        answer = kk.answer;
        done = kk.done;
        kept = λ was g at.
            let w_ = was g (ap (file_at lane slot) (sym kk.opens) ∙ at) in
            (kk.rest g end w_.0, kk.rest g (end + 1) w_.1);
        own = λ value is same there g at.
            let c = inside same in
            let here : file_at lane2 slot2 old.shelf.opens ≡ Some g =
            ap (λ (n : ℕ). file_at n slot2 old.shelf.opens) there ∙ ap (λ (n : ℕ). file_at lane n old.shelf.opens) c.0 ∙ ap (file_at lane slot) (sym kk.opens) ∙ at in
            (kk.own value is g here end c.1, kk.own value is g here (end + 1) c.2);
      }

      within : (offset size place : ℕ) → offset ≤ place → place < offset + size → covers offset size place ≡ true
      within offset size place low high = rw (le-leb offset place low, lt-ltb place (offset + size) high) refl

      text-inside : (slot2 offset2 : ℕ) (bytes2 : List ℕ) → op2 ≡ ops.Write slot2 offset2 bytes2 → op2 ≡ op → WritesBoth op slot end
          → (slot2 ≡ slot) × (covers offset2 (length bytes2) end ≡ true) × (covers offset2 (length bytes2) (end + 1) ≡ true)
      text-inside slot2 offset2 bytes2 is same (write offset bytes its low high) =
          let k : ops.Write slot2 offset2 bytes2 ≡ ops.Write slot offset bytes = sym is ∙ same ∙ its in
          let o : offset2 ≡ offset = cc in
          let b : bytes2 ≡ bytes = cc in
          let l = ap length b in
          (cc, within offset2 (length bytes2) end (omega (arith, o, low)) (omega (arith, o, l, high)), within offset2 (length bytes2) (end + 1) (omega (arith, o, low)) (omega (arith, o, l, high)))
      text-inside slot2 offset2 bytes2 is same (fill offset count byte its low high) =
          absurd (let k : ops.Write slot2 offset2 bytes2 ≡ ops.Fill slot offset count byte = sym is ∙ same ∙ its in cc)

      fill-inside : (slot2 offset2 count2 byte2 : ℕ) → op2 ≡ ops.Fill slot2 offset2 count2 byte2 → op2 ≡ op → WritesBoth op slot end
          → (slot2 ≡ slot) × (covers offset2 (length (replicate count2 byte2)) end ≡ true) × (covers offset2 (length (replicate count2 byte2)) (end + 1) ≡ true)
      fill-inside slot2 offset2 count2 byte2 is same (fill offset count byte its low high) =
          let k : ops.Fill slot2 offset2 count2 byte2 ≡ ops.Fill slot offset count byte = sym is ∙ same ∙ its in
          let o : offset2 ≡ offset = cc in
          let b : count2 ≡ count = cc in
          let l = length-replicate count2 byte2 in (
            cc,
            within offset2 (length (replicate count2 byte2)) end (omega (arith, o, low)) (omega (arith, o, b, l, high)),
            within offset2 (length (replicate count2 byte2)) (end + 1) (omega (arith, o, low)) (omega (arith, o, b, l, high)),
          )
      fill-inside slot2 offset2 count2 byte2 is same (write offset bytes its low high) =
          absurd (let k : ops.Fill slot2 offset2 count2 byte2 ≡ ops.Write slot offset bytes = sym is ∙ same ∙ its in cc)

      step : IsWrite op2 → StepIs
      step (a_write slot2 offset2 bytes2 is) =
          let begun = subst (λ (o : Op). Starts old.wsize (machine_of m lane2 o) (turn_at (counted old now)) old.shelf nx after shelf) is s in
          let few_ = few (asks.write slot2 offset2 bytes2 is) in
          let count = ap count_of is in
          step-of slot2 offset2 (texts.Given bytes2)
          (write-starts old.wsize (turn_at (counted old now)) (record { lane = lane2; slot = slot2; offset = offset2; text = texts.Given bytes2; state = writing.Idle }) old.shelf nx _ shelf i.basis.sound
          (not-full bytes2 old.shelf.back (omega (arith, few_, count))) begun.step.step) (λ same. text-inside slot2 offset2 bytes2 is same both)
      step (a_fill slot2 offset2 count2 byte2 is) =
          let begun = subst (λ (o : Op). Starts old.wsize (machine_of m lane2 o) (turn_at (counted old now)) old.shelf nx after shelf) is s in
          let few_ = few (asks.fill slot2 offset2 count2 byte2 is) in
          let count = ap count_of is in
          let long = length-replicate count2 byte2 in
          step-of slot2 offset2 (texts.Fill count2 byte2)
          (write-starts old.wsize (turn_at (counted old now)) (record { lane = lane2; slot = slot2; offset = offset2; text = texts.Fill count2 byte2; state = writing.Idle }) old.shelf nx _ shelf i.basis.sound
          (not-full (replicate count2 byte2) old.shelf.back (omega (arith, few_, count, long))) begun.step.step) (λ same. fill-inside slot2 offset2 count2 byte2 is same both)

    abbrev begun_view : Machine → Shelf → View
    begun_view after shelf = record (counted old now) { lanes = old.lanes ++ record { number = lane2; state = Busy after } ∷ []; shelf = shelf }

    -- its lane is the only one
    only-lane : (after : Machine) (answer : Answer) (n : ℕ) (l : Lane) → slice_get (slice_set (old.lanes ++ record { number = lane2; state = Busy after } ∷ []) (length old.lanes) (record { number = lane2; state = Over answer })) n ≡ Some l
        → record { number = lane2; state = Over answer } ≡ l
    only-lane after answer n l here = by (nat_eq n (length old.lanes)) refl
      where
        lanes : List Lane
        lanes = old.lanes ++ record { number = lane2; state = Busy after } ∷ []

        of : (slice_get old.lanes n ≡ Some l) ⊎ ((n ≡ length old.lanes) × (l ≡ record { number = lane2; state = Busy after })) → n ≢ length old.lanes → record { number = lane2; state = Over answer } ≡ l
        of (inl was) off = absurd (none-else n l was)
        of (inr last) off = absurd (off last.0)

        by : (b : Bool) → nat_eq n (length old.lanes) ≡ b → record { number = lane2; state = Over answer } ≡ l
        by true is =
            same-lane (record { number = lane2; state = Over answer }) l
            (sym (at-set lanes (length old.lanes) (record { number = lane2; state = Busy after }) (record { number = lane2; state = Over answer }) (at-push old.lanes (record { number = lane2; state = Busy after })))
            ∙ ap (slice_get (slice_set lanes (length old.lanes) (record { number = lane2; state = Over answer }))) (sym (eqb-true n (length old.lanes) is)) ∙ here)
        by false is =
            let off = eqb-false n (length old.lanes) is in
            of (get-push old.lanes (record { number = lane2; state = Busy after }) n l
            (sym (set-other lanes (length old.lanes) n (record { number = lane2; state = Over answer }) off) ∙ here)) off

    good-begins : (new : View) → StartsLane (counted old now) lane2 (machine_of m lane2 op2) new → (line : ℕ) → At later w (Began lane line op) → Only later → Good later new
    good-begins new t line began only = by (At-cases h (Began lane2 line2 op2) w (Began lane line op) began)
      where
        leads : (nx : Step) (answer : Answer) → nx ≡ nexts.Done answer → Leads (begun_view t.after t.shelf) (length old.lanes) lane2 t.after nx new → new ≡ with_state (begun_view t.after t.shelf) (length old.lanes) lane2 (Over answer) t.shelf
        leads nx answer is l = subst (λ (n : Step). Leads (begun_view t.after t.shelf) (length old.lanes) lane2 t.after n new) is l

        not-began : (l line : ℕ) (a : Answer) → Began lane2 line2 op2 ≡ Answered l line a → ⊥
        not-began l line a e = cc

        busy-over : (number number2 : ℕ) (machine : Machine) (answer : Answer) → ◌≡◌ {A = Lane} (record { number = number; state = Over answer }) (record { number = number2; state = Busy machine }) → ⊥
        busy-over number number2 machine answer e = let k : Over answer ≡ Busy machine = ap (λ (l : Lane). l.state) e in cc

        whole : (st : StepIs t.next t.after t.shelf t.starts)
            → ((number : ℕ) (value : Value) → lane2 ≡ number → st.answer ≡ answers.Done value → UnderWay later number w (length later) op → Both t.shelf)
            → ((l y : ℕ) (value : Value) → Ended later l w op y (answers.Done value) → Both t.shelf) → Good later new
        whole st ready_ noted_ = subst (Good later) (sym (leads t.next st.answer st.done t.leads)) (record {
          idle = λ n number machine there. busy-over lane2 number machine st.answer (only-lane t.after st.answer n (record { number = number; state = Busy machine }) there);
          ready = λ n number value there u.
              let same = only-lane t.after st.answer n (record { number = number; state = Over (answers.Done value) }) there in
              ready_ number value (ap (λ (l : Lane). l.number) same) (same-over st.answer (answers.Done value) (ap (λ (l : Lane). l.state) same)) u;
          noted = noted_;
        })

        by : At h w (Began lane line op) ⊎ ((w ≡ length h) × (Began lane2 line2 op2 ≡ Began lane line op)) → Good later new
        by (inr here) =
            let its = began-is lane2 line2 lane line op2 op here.1 in
            let st = step t.next t.after t.shelf t.starts (writes-of both its.1) in
            whole st (λ number value same done u. st.own value done its.1 its.0)
            (λ l y value d.
            let was = earlier-end h (Began lane2 line2 op2) not-began l y (answers.Done value) d in
            let low = At-below h y (Answered l was.line (answers.Done value)) was.answered in
            let late = was.later in
            let at = here.0 in
            absurd (omega (arith, low, late, at)))
          where
            writes-of : WritesBoth op slot end → op2 ≡ op → IsWrite op2
            writes-of (write offset bytes is low high) same = a_write slot offset bytes (same ∙ is)
            writes-of (fill offset count byte is low high) same = a_fill slot offset count byte (same ∙ is)
        by (inl was) =
            let good = i.run (one-before h (Began lane2 line2 op2) one) (room-before h (Began lane2 line2 op2) room) line was (only-before h (Began lane2 line2 op2) only) in
            let st = step t.next t.after t.shelf t.starts (only (length h) lane2 line2 op2 (At-last h (Began lane2 line2 op2)) (At-below h w (Began lane line op) was)) in
            whole st
            (λ number value same done u. absurd (u.unanswered (answered-grow h (Began lane2 line2 op2) w (length h) (length later) (let more = length_last h (Began lane2 line2 op2) in omega (arith, more)) answered)))
            (λ l y value d. st.kept (good.noted l y value (earlier-end h (Began lane2 line2 op2) not-began l y (answers.Done value) d)))
          where
            lane_is : lane2 ≡ lane
            lane_is = one (length h) w lane2 lane line2 line op2 op (At-last h (Began lane2 line2 op2)) began

            answered : AnsweredBefore h w (length h)
            answered = (k.lanes.rest lane2 (λ at there. idle-numbers lane2 (numbers_of old.lanes) idle.other at there)).answered w line op (subst (λ (n : ℕ). At h w (Began n line op)) (sym lane_is) was)

  -- ---- an answer is noted

  answers-good : (h : List Entry) (old new : View) (at lane2 line2 : ℕ) (answer : Answer) → AnswersAt old at lane2 (Some answer) new → Good h old → Good (h ++ Answered lane2 line2 answer ∷ []) new
  answers-good h old new at lane2 line2 answer a good = subst (Good later) (sym a.is) (record {
    idle = λ n number machine there. good.idle (skip at n) number machine (get-remove old.lanes at n (record { number = number; state = Busy machine }) there);
    ready = λ n number value there u.
        good.ready (skip at n) number value (get-remove old.lanes at n (record { number = number; state = Over (answers.Done value) }) there)
        (under-back h (Answered lane2 line2 answer) number w op (λ line o is. cc) u);
    noted = λ l y value d. by l y value d (At-cases h (Answered lane2 line2 answer) y (Answered l d.line (answers.Done value)) d.answered);
  })
    where
      later : List Entry
      later = h ++ Answered lane2 line2 answer ∷ []

      some-answer : (p q : Answer) → Some p ≡ Some q → p ≡ q
      some-answer p q e = cc

      by : (l y : ℕ) (value : Value) (d : Ended later l w op y (answers.Done value)) → At h y (Answered l d.line (answers.Done value)) ⊎ ((y ≡ length h) × (Answered lane2 line2 answer ≡ Answered l d.line (answers.Done value))) → Both old.shelf
      by l y value d (inl there) = good.noted l y value (ended-back h (Answered lane2 line2 answer) l w op y (answers.Done value) (At-below h y (Answered l d.line (answers.Done value)) there) d)
      by l y value d (inr last) =
          let its = answered-is lane2 line2 l d.line answer (answers.Done value) last.1 in
          good.ready at lane2 value (a.there ∙ ap (λ (z : Answer). Some (record { number = lane2; state = Over z })) (sym (some-answer answer a.answer a.gives) ∙ its.1))
          (subst (λ (n : ℕ). UnderWay h n w (length h) op) (sym its.0) under)
        where
          low : w < length h
          low = let late = d.later in let place = last.0 in omega (arith, late, place)

          its_began : At h w (Began l d.line op)
          its_began = At-back h (Answered lane2 line2 answer ∷ []) w (Began l d.line op) d.began low

          under : UnderWay h l w (length h) op
          under = record {
            line = d.line;
            began = its_began;
            before = low;
            unanswered = λ n.
                let mark = began-is n.lane n.ended.line l d.line n.op op (At-one h w (Began n.lane n.ended.line n.op) (Began l d.line op) n.ended.began its_began) in
                let there : At h n.y (Answered l d.line n.answer) =
                subst (λ (z : ℕ). At h n.y (Answered l z n.answer)) mark.2 (subst (λ (z : ℕ). At h n.y (Answered z n.ended.line n.answer)) mark.0 n.ended.answered) in
                let first = d.first n.y n.answer (At-grow h (Answered lane2 line2 answer ∷ []) n.y (Answered l d.line n.answer) there) n.ended.later in
                let early = n.before in
                let place = last.0 in
                omega (arith, first, early, place);
          }

  -- ---- all

  track-laws : KeepsHearing (machine_of m) setup Tracked
  track-laws = record {
    fresh = λ h v may up fresh. record {
      basis = (keeps-basis m setup).fresh h v may up fresh;
      run = λ one room line began only. absurd (up.unbegun w lane line op began);
    };
    stirs = λ h old new at k t i. record {
      basis = stirs-basis m setup h old new at k t i.basis;
      run = λ one room line began only. absurd ((i.run one room line began only).idle at t.number t.machine t.there);
    };
    starts = λ h old new lane2 line2 op2 now r found k idle fits t i. record {
      basis = starts-basis m setup h old new lane2 line2 op2 now r found k idle fits t i.basis;
      run = λ one room line began only. good-begins h old lane2 line2 op2 now r found k idle i one room new t line began only;
    };
    takes = λ h old new rec xid call at r found k fin hears named waits place t i. record {
      basis = takes-basis m setup h old new rec xid call at r found k waits place t i.basis;
      run = λ one room line began only.
          absurd ((i.run (one-before h (Delivered rec) one) (room-before h (Delivered rec) room) line (was-began h (Delivered rec) (λ l line_ o is. cc) line began) (only-before h (Delivered rec) only)).idle at
          t.number t.machine t.there);
    };
    answers = λ h old new at lane2 line2 answer k a i. record {
      basis = (keeps-basis m setup).answers h old new at lane2 line2 answer k a i.basis;
      run = λ one room line began only.
          answers-good h old new at lane2 line2 answer a
          (i.run (one-before h (Answered lane2 line2 answer) one) (room-before h (Answered lane2 line2 answer) room) line (was-began h (Answered lane2 line2 answer) (λ l line_ o is. cc) line began)
          (only-before h (Answered lane2 line2 answer) only));
    };
    same = λ h e old new plain lanes shelf wsize calls i. record {
      basis = (keeps-basis m setup).same h e old new plain lanes shelf wsize calls i.basis;
      run = λ one room line began only.
          let good = i.run (one-before h e one) (room-before h e room) line (was-began h e (λ l line_ o is. plain.begins_ l line_ o is) line began) (only-before h e only) in
          record {
            idle = λ n number machine there. good.idle n number machine (ap (λ (ls : List Lane). slice_get ls n) (sym lanes) ∙ there);
            ready = λ n number value there u.
                subst Both (sym shelf) (good.ready n number value (ap (λ (ls : List Lane). slice_get ls n) (sym lanes) ∙ there) (under-back h e number w op (λ line_ o is. plain.begins_ number line_ o is) u));
            noted = λ l y value d. subst Both (sym shelf) (good.noted l y value (earlier-end h e (λ l_ line_ a is. plain.answers_ l_ line_ a is) l y (answers.Done value) d));
          };
    };
  }

  pub reached-tracked : (h : List Entry) (v : View) → Reaches (machine_of m) setup h v → v.lost ≡ false → Tracked h v
  reached-tracked = reached-hearing (machine_of m) (begins-unbegun m) setup Tracked track-laws
