-- What the steps of a remove cost. The hidden names that it looks for have rising numbers.
use Rattle.core_counts.proofs.Prelude.{◌≡◌, ◌<◌, ◌≤◌, ◌+◌, inl, inr, ℕ, Bool, true, false, List, Option, Some, None, Result, Ok, Err, refl, sym, ap, subst, ◌∙◌, arith, Answer, Fault, Call, Reply, Step, Repeat, Shelf, Turn, fails_busy, ended, repeated, Deed, Look, Seek, Move, Remove, RemoveFile, WalkStep, look_up, found_by, look_again, moved_told, of_walk}
use Rattle.core_facts.specs.InFlight.{one_if, removal_by}
use Rattle.silly_rename.specs.Plans.{plan_of}
use Rattle.world_model.specs.declared.answer.Answer.TheVariants as answers
use Rattle.client_shelf.specs.declared.step.Step.TheVariants as nexts
use Rattle.name_ops.specs.declared.walk.WalkStep.TheVariants as walks
use Rattle.name_ops.specs.Changing as changing
use Rattle.name_ops.specs.RemoveFile as removals
use Rattle.name_ops.specs.Walking as walking
use Rattle.core_counts.proofs.counts.equal.Costs.{Costs, costs-as, TakesCosts, repeats_it, goes_on, due, names_left, WalkCosts, go-costs, WalkTakes, walk_again, walk_on, walk-takes}
use Rattle.core_counts.proofs.counts.equal.Names.{changed-takes}
use Rattle.core_counts.proofs.counts.listed.Laws.{table-again}
use Rattle.core_counts.proofs.counts.sought.Spelt.{number_of, silly-number}

-- What is known of the number of the next hidden name: it is below 2³², and above that of the name that is looked for.
abbrev pub Grown : Option Deed → ℕ → Type 0
Grown None counter = counter < 4294967296
Grown (Some Look) counter = counter < 4294967296
Grown (Some (Seek file to)) counter = (counter < 4294967296) × (number_of to < counter)
Grown (Some (Move file to)) counter = counter < 4294967296
Grown (Some Remove) counter = counter < 4294967296

-- The calls that may come, where LOOKUPs of the hidden name with one number count: after its walk the LOOKUP of its name, one of that hidden name, and RENAME or
-- REMOVE.
abbrev pub left_at : ℕ → Option Deed → Bool → ℕ → ℕ
left_at target None asked names = names + 3
left_at target (Some Look) true names = 2
left_at target (Some Look) false names = 3
left_at target (Some (Seek file to)) true names = 1 + due target (number_of to + 1)
left_at target (Some (Seek file to)) false names = 1 + due target (number_of to)
left_at target (Some (Move file to)) true names = 0
left_at target (Some (Move file to)) false names = 1
left_at target (Some Remove) true names = 0
left_at target (Some Remove) false names = 1

abbrev pub removal_left : ℕ → RemoveFile → ℕ
removal_left target k = left_at target k.deed k.asked (names_left k.walk)

module _ (P : Call → Type 0) (target : ℕ) (only_seek : (d name : List ℕ) → P (look_up d name) → number_of name ≡ target) where
  abbrev Comes : ℕ → Step → RemoveFile → Type 0
  Comes had next new = Costs P had next (removal_left target new)

  abbrev needs : Deed → ℕ
  needs Look = 3
  needs (Seek file to) = 1 + due target (number_of to)
  needs (Move file to) = 1
  needs Remove = 1

  ask-costs : (deed : Deed) (room : Bool) (k : RemoveFile) (had : ℕ) → needs deed ≤ had → Costs P had (removals.asked_next k deed room) (left_at target (Some deed) room (names_left k.walk))
  ask-costs Look true k had some = (omega (arith, some), λ p. some)
  ask-costs (Seek file to) true k had some = (omega (arith, some), λ p. let same = only_seek k.walk.spot.dir to p in omega (arith, some, same))
  ask-costs (Move file to) true k had some = (omega arith, λ p. some)
  ask-costs Remove true k had some = (omega arith, λ p. some)
  ask-costs Look false k had some = some
  ask-costs (Seek file to) false k had some = some
  ask-costs (Move file to) false k had some = some
  ask-costs Remove false k had some = some

  asked-comes : (deed : Deed) (room : Bool) (k : RemoveFile) (had : ℕ) (next : Step) (new : RemoveFile) → needs deed ≤ had → next ≡ removals.asked_next k deed room
      → new ≡ removals.asked_after k deed room → Comes had next new
  asked-comes deed room k had next new some next_is new_is =
      costs-as P had (removals.asked_next k deed room) next (left_at target (Some deed) room (names_left k.walk)) (removal_left target new) next_is (ap (removal_left target) new_is) (ask-costs deed room k had some)

  stays-comes : (k : RemoveFile) (had : ℕ) (to next : Step) (new : RemoveFile) → next ≡ to → new ≡ k → Costs P had to (removal_left target k) → Comes had next new
  stays-comes k had to next new next_is new_is c = costs-as P had to next (removal_left target k) (removal_left target new) next_is (ap (removal_left target) new_is) c

  ends-comes : (k : RemoveFile) (had : ℕ) (answer : Answer) (next : Step) (new : RemoveFile) → next ≡ nexts.Done answer → new ≡ k → Comes had next new
  ends-comes k had answer next new next_is new_is = stays-comes k had (nexts.Done answer) next new next_is new_is tt

  none-left : (k : RemoveFile) → k.deed ≡ None → removal_left target k ≡ names_left k.walk + 3
  none-left k is = ap (λ (o : Option Deed). left_at target o k.asked (names_left k.walk)) is

  follow-comes : (step : WalkStep) (room : Bool) (k : RemoveFile) (opens : _) (next : Step) (new : RemoveFile) (had : ℕ) → k.deed ≡ None → WalkCosts had step (names_left k.walk)
      → removals.Follows step room k opens next new → Comes (had + 3) next new
  follow-comes (walks.Send call) room k opens next new had none c f =
      let now = none-left k none in stays-comes k (had + 3) (nexts.Send call) next new f.0 f.1 (omega (arith, c, now), λ p. omega (arith, c, now))
  follow-comes walks.Wait room k opens next new had none c f = let now = none-left k none in stays-comes k (had + 3) nexts.Wait next new f.0 f.1 (omega (arith, c, now))
  follow-comes (walks.At dir) room k opens next new had none c f = asked-comes (removals.first_deed f.any) room k (had + 3) next new (some f.any) f.next_is f.machine_is
    where
      some : (b : Bool) → needs (removals.first_deed b) ≤ had + 3
      some true = omega arith
      some false = omega arith
  follow-comes (walks.Refused fault) room k opens next new had none c f = ends-comes k (had + 3) (answers.Refused fault) next new f.0 f.1

  pub remove-goes : (k : RemoveFile) (turn : Turn) (old : Shelf) (next : Step) (new : RemoveFile) (after : Shelf) → removals.Resumes k.asked k turn old next new after → Comes (removal_left target k) next new
  remove-goes k turn old next new after r = by k.asked refl r
    where
      idle : (deed : Option Deed) → k.deed ≡ deed → k.asked ≡ false → removals.Goes deed k turn old next new after → Comes (removal_left target k) next new
      idle (Some deed) is still g = asked-comes deed turn.room k (removal_left target k) next new (subst (λ (n : ℕ). needs deed ≤ n) left_is (by_deed deed (names_left k.walk))) g.next_is g.machine_is
        where
          left_is : left_at target (Some deed) false (names_left k.walk) ≡ removal_left target k
          left_is = ap (λ (b : Bool). left_at target (Some deed) b (names_left k.walk)) (sym still) ∙ ap (λ (o : Option Deed). left_at target o k.asked (names_left k.walk)) (sym is)

          by_deed : (o : Deed) (names : ℕ) → needs o ≤ left_at target (Some o) false names
          by_deed Look names = omega arith
          by_deed (Seek file to) names = omega arith
          by_deed (Move file to) names = omega arith
          by_deed Remove names = omega arith
      idle None is still g =
          subst (λ (n : ℕ). Comes n next new) (sym (none-left k is))
          (follow-comes (walking.go_next k.walk turn old) turn.room (record k { walk = walking.go_after k.walk turn old }) old.opens next new (names_left k.walk) is (go-costs k.walk turn old) g.follows)

      by : (b : Bool) → k.asked ≡ b → removals.Resumes b k turn old next new after → Comes (removal_left target k) next new
      by true is w = stays-comes k (removal_left target k) nexts.Wait next new w.next_is w.machine_is (omega arith)
      by false is g = idle k.deed refl is g

  -- ---- a step at what came

  abbrev pub Took : ℕ → Turn → Turn → List Repeat → Step → RemoveFile → List Repeat → Type 0
  Took had sent turn old next new later = TakesCosts P had sent turn old next (removal_left target new) later

  on-comes : (had : ℕ) (sent turn : Turn) (old : List Repeat) (next : Step) (new : RemoveFile) (later : List Repeat) → later ≡ ended sent.xid old → Comes had next new → Took had sent turn old next new later
  on-comes had sent turn old next new later table c = goes_on table c

  again-comes : (k : RemoveFile) (had : ℕ) (sent turn : Turn) (old : List Repeat) (next : Step) (new : RemoveFile) (later : List Repeat) → later ≡ repeated sent.xid turn.xid old → new ≡ k
      → removal_left target k ≤ had → Took had sent turn old next new later
  again-comes k had sent turn old next new later table is few = repeats_it table (let same = ap (removal_left target) is in omega (arith, same, few))

  look-repeats : (b : Bool) (told_it : Result (List ℕ) Fault) (k : RemoveFile) (room : Bool) (old : Shelf) (next : Step) (new : RemoveFile) (after : Shelf)
      → removals.FollowsLook b told_it k room old next new after → after.repeats ≡ old.repeats
  look-repeats true told_it k room old next new after f = ap (λ (s : Shelf). s.repeats) f.shelf_is
  look-repeats false (Ok file) k room old next new after f = ap (λ (s : Shelf). s.repeats) f.plans.shelf_is
  look-repeats false (Err fault) k room old next new after f = ap (λ (s : Shelf). s.repeats) f.shelf_is

  seek-repeats : (b : Bool) (told_it : Result (List ℕ) Fault) (file to : List ℕ) (k : RemoveFile) (room : Bool) (old : Shelf) (next : Step) (new : RemoveFile) (after : Shelf)
      → removals.FollowsSeek b told_it file to k room old next new after → after.repeats ≡ old.repeats
  seek-repeats true told_it file to k room old next new after f = ap (λ (s : Shelf). s.repeats) f.shelf_is
  seek-repeats false (Ok found) file to k room old next new after f = ap (λ (s : Shelf). s.repeats) f.shelf_is
  seek-repeats false (Err fault) file to k room old next new after f = ap (λ (s : Shelf). s.repeats) f.shelf_is

  -- the next hidden name has the next number
  plans-comes : (is_open : Bool) (file : List ℕ) (k : RemoveFile) (room : Bool) (old : Shelf) (next : Step) (new : RemoveFile) (after : Shelf) (had : ℕ) → old.counter < 4294967296
      → 1 + due target old.counter ≤ had → removals.Plans is_open file k room old next new after → Comes had next new
  plans-comes is_open file k room old next new after had low some p = asked-comes (removals.deed_of file (plan_of is_open old.counter)) room k had next new (few is_open) p.next_is p.machine_is
    where
      few : (b : Bool) → needs (removals.deed_of file (plan_of b old.counter)) ≤ had
      few false = omega (arith, some)
      few true = let number = silly-number old.counter low in omega (arith, some, number)

  -- the LOOKUP of its name
  look-comes : (b : Bool) (told_it : Result (List ℕ) Fault) (k : RemoveFile) (had : ℕ) (sent turn : Turn) (heard : Shelf) (old later : List Repeat) (next : Step) (new : RemoveFile) (after : Shelf) → 2 ≤ had
      → removal_left target k ≤ had → ((found : List ℕ) → told_it ≡ Ok found → heard.counter < 4294967296) → (b ≡ true → later ≡ repeated sent.xid turn.xid old)
      → (b ≡ false → later ≡ ended sent.xid old) → removals.FollowsLook b told_it k turn.room heard next new after → Took had sent turn old next new later
  look-comes true told_it k had sent turn heard old later next new after some few low busy calm f = again-comes k had sent turn old next new later (busy refl) f.machine_is few
  look-comes false (Ok file) k had sent turn heard old later next new after some few low busy calm f =
      on-comes had sent turn old next new later (calm refl) (plans-comes f.is_open file k turn.room heard next new after had (low file refl) (omega (arith, some)) f.plans)
  look-comes false (Err fault) k had sent turn heard old later next new after some few low busy calm f =
      on-comes had sent turn old next new later (calm refl) (ends-comes k had (answers.Refused fault) next new f.next_is f.machine_is)

  -- the LOOKUP of a hidden name
  seek-comes : (b : Bool) (told_it : Result (List ℕ) Fault) (file to : List ℕ) (k : RemoveFile) (had : ℕ) (sent turn : Turn) (heard : Shelf) (old later : List Repeat) (next : Step) (new : RemoveFile) (after : Shelf)
      → 1 + due target (number_of to + 1) ≤ had → removal_left target k ≤ had → ((found : List ℕ) → told_it ≡ Ok found → (heard.counter < 4294967296) × (number_of to < heard.counter))
      → (b ≡ true → later ≡ repeated sent.xid turn.xid old) → (b ≡ false → later ≡ ended sent.xid old) → removals.FollowsSeek b told_it file to k turn.room heard next new after
      → Took had sent turn old next new later
  seek-comes true told_it file to k had sent turn heard old later next new after some few grown busy calm f = again-comes k had sent turn old next new later (busy refl) f.machine_is few
  seek-comes false (Ok found) file to k had sent turn heard old later next new after some few grown busy calm f =
      let g = grown found refl in
      let more = g.1 in
      on-comes had sent turn old next new later (calm refl) (plans-comes true file k turn.room heard next new after had g.0 (omega (arith, some, more)) f)
  seek-comes false (Err fault) file to k had sent turn heard old later next new after some few grown busy calm f = on-comes had sent turn old next new later (calm refl) (by (removals.is_missing fault) refl)
    where
      by : (b : Bool) → removals.is_missing fault ≡ b → Comes had next new
      by true missing =
          asked-comes (Move file to) turn.room k had next new (omega (arith, some)) (f.next_is ∙ ap (λ (b : Bool). removals.missed_next b fault file to k turn.room) missing)
          (f.machine_is ∙ ap (λ (b : Bool). removals.missed_after b file to k turn.room) missing)
      by false other =
          ends-comes k had (answers.Refused fault) next new (f.next_is ∙ ap (λ (b : Bool). removals.missed_next b fault file to k turn.room) other)
          (f.machine_is ∙ ap (λ (b : Bool). removals.missed_after b file to k turn.room) other)

  -- the RENAME
  move-comes : (b : Bool) (refusal : Option Fault) (file to : List ℕ) (k : RemoveFile) (had : ℕ) (sent turn : Turn) (old later : List Repeat) (was : removals.Places) (next : Step) (new : RemoveFile) (now : removals.Places)
      → new ≡ k → removal_left target k ≤ had → (b ≡ true → later ≡ repeated sent.xid turn.xid old) → (b ≡ false → later ≡ ended sent.xid old) → removals.EndsMove b refusal file to k was next now
      → Took had sent turn old next new later
  move-comes true refusal file to k had sent turn old later was next new now same few busy calm f = again-comes k had sent turn old next new later (busy refl) same few
  move-comes false None file to k had sent turn old later was next new now same few busy calm (inl f) = on-comes had sent turn old next new later (calm refl) (ends-comes k had _ next new f.0 same)
  move-comes false None file to k had sent turn old later was next new now same few busy calm (inr f) = on-comes had sent turn old next new later (calm refl) (ends-comes k had _ next new f.0 same)
  move-comes false (Some fault) file to k had sent turn old later was next new now same few busy calm f =
      on-comes had sent turn old next new later (calm refl) (ends-comes k had (answers.Refused fault) next new f.0 same)

  deed-comes : (deed : Deed) (k : RemoveFile) (sent turn : Turn) (came : Result Reply Fault) (old : Shelf) (next : Step) (new : RemoveFile) (after : Shelf) → k.deed ≡ Some deed → k.asked ≡ true
      → ((found : List ℕ) → found_by came ≡ Ok found → Grown (Some deed) old.counter) → removals.TakesDeed deed k sent turn came old next new after
      → Took (removal_left target k) sent turn old.repeats next new after.repeats
  deed-comes deed k sent turn came old next new after is asked grown t = by deed left_is grown t
    where
      left_is : left_at target (Some deed) true (names_left k.walk) ≡ removal_left target k
      left_is = ap (λ (b : Bool). left_at target (Some deed) b (names_left k.walk)) (sym asked) ∙ ap (λ (o : Option Deed). left_at target o k.asked (names_left k.walk)) (sym is)

      by : (o : Deed) → left_at target (Some o) true (names_left k.walk) ≡ removal_left target k → ((found : List ℕ) → found_by came ≡ Ok found → Grown (Some o) old.counter)
          → removals.TakesDeed o k sent turn came old next new after → Took (removal_left target k) sent turn old.repeats next new after.repeats
      by Look two known f =
          let table = look-repeats (look_again sent turn came old) (found_by came) k turn.room f.heard next new after f.follows ∙ ap (λ (q : Shelf). q.repeats) f.hears.others in
          let same = ap (λ (q : Shelf). q.counter) f.hears.others in
          look-comes (look_again sent turn came old) (found_by came) k (removal_left target k) sent turn f.heard old.repeats after.repeats next new after (omega (arith, two)) (omega arith)
          (λ found told. subst (λ (n : ℕ). n < 4294967296) (sym same) (known found told))
          (λ busy. table-again true (fails_busy (found_by came)) sent turn old.repeats after.repeats busy table) (λ calm. table-again false (fails_busy (found_by came)) sent turn old.repeats after.repeats calm table)
          f.follows
      by (Seek file to) one known f =
          let table = seek-repeats (look_again sent turn came old) (found_by came) file to k turn.room f.heard next new after f.follows ∙ ap (λ (q : Shelf). q.repeats) f.hears.others in
          let same = ap (λ (q : Shelf). q.counter) f.hears.others in
          seek-comes (look_again sent turn came old) (found_by came) file to k (removal_left target k) sent turn f.heard old.repeats after.repeats next new after (omega (arith, one)) (omega arith)
          (λ found told. subst (λ (n : ℕ). (n < 4294967296) × (number_of to < n)) (sym same) (known found told))
          (λ busy. table-again true (fails_busy (found_by came)) sent turn old.repeats after.repeats busy table) (λ calm. table-again false (fails_busy (found_by came)) sent turn old.repeats after.repeats calm table)
          f.follows
      by (Move file to) none known f =
          let table = ap (λ (q : Shelf). q.repeats) f.1.others in
          move-comes (removals.move_again sent turn came old) (moved_told came).refusal file to k (removal_left target k) sent turn old.repeats after.repeats old.silly next new after.silly f.0 (omega arith)
          (λ busy. table-again true (changing.told_busy (moved_told came).refusal) sent turn old.repeats after.repeats busy table)
          (λ calm. table-again false (changing.told_busy (moved_told came).refusal) sent turn old.repeats after.repeats calm table) f.1.ends
      by Remove none known f =
          subst (λ (n : ℕ). TakesCosts P (removal_left target k) sent turn old.repeats next n after.repeats) (sym (ap (removal_left target) f.0))
          (changed-takes P (removal_left target k) k.walk.spot.dir (removals.call_of k Remove) (removals.removed_told came) sent turn old next after (removal_left target k) (omega arith) f.1)

  walk-comes : (k : RemoveFile) (sent turn : Turn) (came : Result Reply Fault) (old : Shelf) (next : Step) (new : RemoveFile) (after : Shelf) → k.deed ≡ None → 1 ≤ of_walk k.walk
      → removals.TakesWalk k sent turn came old next new after → Took (removal_left target k) sent turn old.repeats next new after.repeats
  walk-comes k sent turn came old next new after none some t = by (walk-takes (walking.waiting_name k.walk) k.walk sent turn came old t.step t.walked.walk after refl some t.takes)
    where
      had : removal_left target k ≡ names_left k.walk + 3
      had = none-left k none

      walked_none : t.walked.deed ≡ None
      walked_none = ap (λ (w : RemoveFile). w.deed) t.walked_is ∙ none

      by : WalkTakes (names_left k.walk) sent turn old.repeats t.step (names_left t.walked.walk) after.repeats → Took (removal_left target k) sent turn old.repeats next new after.repeats
      by (walk_again call is table few) =
          let f = subst (λ (w : WalkStep). removals.Follows w turn.room t.walked after.opens next new) is t.follows in
          let now = none-left t.walked walked_none in
          again-comes t.walked (removal_left target k) sent turn old.repeats next new after.repeats table f.1 (omega (arith, now, few, had))
      by (walk_on table c) =
          on-comes (removal_left target k) sent turn old.repeats next new after.repeats table
          (subst (λ (n : ℕ). Comes n next new) (sym had) (follow-comes t.step turn.room t.walked after.opens next new (names_left k.walk) walked_none c t.follows))

  pub remove-takes : (k : RemoveFile) (sent turn : Turn) (came : Result Reply Fault) (old : Shelf) (next : Step) (new : RemoveFile) (after : Shelf) (others : ℕ)
      → removal_by k.deed k.asked (of_walk k.walk) ≡ others + 1 → ((found : List ℕ) → found_by came ≡ Ok found → Grown k.deed old.counter) → removals.Takes k.deed k sent turn came old next new after
      → Took (removal_left target k) sent turn old.repeats next new after.repeats
  remove-takes k sent turn came old next new after others flight grown t = by k.deed refl flight grown t
    where
      asked : (b : Bool) (deed : Deed) → k.deed ≡ Some deed → k.asked ≡ b → one_if b ≡ others + 1 → ((found : List ℕ) → found_by came ≡ Ok found → Grown (Some deed) old.counter)
          → removals.TakesIf b deed k sent turn came old next new after → Took (removal_left target k) sent turn old.repeats next new after.repeats
      asked true deed is asked_is some known f = deed-comes deed k sent turn came old next new after is asked_is known f
      asked false deed is asked_is some known f = absurd (omega (arith, some))

      by : (o : Option Deed) → k.deed ≡ o → removal_by o k.asked (of_walk k.walk) ≡ others + 1 → ((found : List ℕ) → found_by came ≡ Ok found → Grown o old.counter)
          → removals.Takes o k sent turn came old next new after → Took (removal_left target k) sent turn old.repeats next new after.repeats
      by (Some deed) is some known f = asked k.asked deed is refl some known f
      by None is some known f = walk-comes k sent turn came old next new after is (omega (arith, some)) f
