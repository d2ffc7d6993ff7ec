-- An operation on names makes a call again that was put off, as often as it may.
use Rattle.core_session.proofs.Prelude.{◌≡◌, ◌≢◌, ◌≤◌, ◌==◌, ℕ, Bool, true, false, List, Option, Some, None, Result, Ok, Err, inl, inr, refl, sym, ap, subst, ◌∙◌, arith, eqb-true, Attr, DirKept, Fault, Value, Call, Reply, jukebox, Step, Shelf, Turn, fails_busy, goes_again, ListDir, Pair, Deed, Look, Seek, Move, RemoveFile, Stat, Visit, Walk, WalkStep, deed_call, found_by, look_again, moved_told, NameMachine, of_name, of_walk, removal_by, WalkAwaits, OwnOr, FineResult, FineOption, FineNext, fine-as, RemoveAwaits, CallFaults, FitsWalk}
use Rattle.client_shelf.specs.Busy.{is_busy}
use Rattle.name_ops.specs.declared.remove_file.Deed.TheVariants.{Remove}
use Rattle.name_ops.specs.DirChange.{deed_told}
use Rattle.name_ops.specs.Looking.{look_up}
use Rattle.core_facts.specs.InFlight.{visit_by, pair_by, own_or, one_if, of_names}
use Rattle.core_facts.proofs.Awaited.{PairOr}
use Rattle.core_facts.proofs.NamesAwaited.{NameAwaits}
use Rattle.core_answers.proofs.refusals.FitNames.{FitsOwn, FitsStat, FitsPair, FitsTwo, FitsDeed, FitsRemoval, FitsName, TextFits, PageFits, name-takes}
use Rattle.nfs_dir_calls.specs.declared.keeping.DirKept.TheVariants as found
use Rattle.dir_list.specs.declared.progress.ListFault.{ListFault}
use Rattle.dir_list.specs.declared.progress.ListFault.TheVariants as list_faults
use Rattle.world_model.specs.declared.answer.Fault.TheVariants as faults
use Rattle.world_model.specs.declared.answer.Value.TheVariants as values
use Rattle.world_model.specs.declared.message.Reply.TheVariants as replies
use Rattle.client_shelf.specs.declared.step.Step.TheVariants as nexts
use Rattle.name_ops.specs.declared.link.Link.{Link}
use Rattle.name_ops.specs.declared.pair.PairStep.{PairStep}
use Rattle.name_ops.specs.declared.rename.Rename.{Rename}
use Rattle.name_ops.specs.declared.sym_link.SymLink.{SymLink}
use Rattle.name_ops.specs.declared.told.Told.{Told}
use Rattle.name_ops.specs.declared.visit.VisitStep.{VisitStep}
use Rattle.name_ops.specs.declared.visit.VisitStep.TheVariants as visits
use Rattle.name_ops.specs.declared.walk.WalkStep.TheVariants as walks
use Rattle.name_ops.specs.Access.{access_call, access_attr, access_told}
use Rattle.name_ops.specs.Changing as changing
use Rattle.name_ops.specs.Link.{link_call, linked_told, TakesLink}
use Rattle.name_ops.specs.ListDir as listing
use Rattle.name_ops.specs.Pairs as pairs
use Rattle.name_ops.specs.ReadLink.{text_call, TellsText, TakesText}
use Rattle.name_ops.specs.RemoveFile as removals
use Rattle.name_ops.specs.Rename.{rename_call, renamed_next, TakesRename}
use Rattle.name_ops.specs.Showing.{show_next, Shows, TakesShow}
use Rattle.name_ops.specs.Stat as stats
use Rattle.name_ops.specs.SymLink.{sym_link_call, sym_linked_told, CopiesBy, ChangesByCopy, TakesSymLink}
use Rattle.name_ops.specs.Visiting as visiting
use Rattle.name_ops.specs.Walking as walking
use Rattle.op_machines.specs.declared.name_machine.NameMachine.TheVariants as machines
use Rattle.op_machines.specs.NameSteps.{NameTakes}
use Rattle.core_session.proofs.delays.Took.{Took, took-as, result-busy, option-busy, result-calm, option-calm, fault-busy, again-busy, again-no}

same-repeats : (a b : Shelf) → a ≡ b → a.repeats ≡ b.repeats
same-repeats a b is = ap (λ (s : Shelf). s.repeats) is

-- ---- walks

followed-repeats : (b : Bool) (w : Walk) (told : Result (List ℕ) Fault) (turn : Turn) (s : Shelf) → (walking.followed_shelf b w told turn s).repeats ≡ s.repeats
followed-repeats true w told turn s = refl
followed-repeats false w (Ok found) turn s = refl
followed-repeats false w (Err fault) turn s = refl

first-repeats : (step : WalkStep) (p : Pair) (turn : Turn) (s : Shelf) → (pairs.first_shelf step p turn s).repeats ≡ s.repeats
first-repeats (walks.Send call) p turn s = refl
first-repeats walks.Wait p turn s = refl
first-repeats (walks.At first) p turn s = refl
first-repeats (walks.Refused fault) p turn s = refl

module _ (P : Fault → Type 0) (own : CallFaults P) (Q : Fault → Type 0) (fine : CallFaults Q) (other : (fault : Fault) → is_busy fault ≡ false → Q fault) (sent turn : Turn) (came : Result Reply Fault)
    (call : Call) where
  abbrev TookTo : Shelf → Shelf → Type 0 → Type 0 → Type 0
  TookTo old after A C = Took P sent turn old.repeats after.repeats A C

  pub took-walk : (name : Option (List ℕ)) (w : Walk) (old : Shelf) (step : WalkStep) (new : Walk) (after : Shelf) → 1 ≤ of_name name → ((n : List ℕ) → name ≡ Some n → call ≡ look_up w.spot.dir n)
      → FitsWalk P own name came → walking.Takes name w sent turn came old step new after → TookTo old after (step ≡ walks.Send call) (FitsWalk Q fine name came)
  took-walk None w old step new after some e fits t = absurd (omega (arith, some))
  took-walk (Some name) w old step new after some e fits t = record {
    busy = fails_busy (found_by came);
    later_is =
        same-repeats after (walking.followed_shelf (look_again sent turn came old) w (found_by came) turn t.heard) t.shelf_is
        ∙ followed-repeats (look_again sent turn came old) w (found_by came) turn t.heard ∙ ap (λ (s : Shelf). s.repeats) t.hears.others;
    again = λ a. t.next_is ∙ ap (λ (b : Bool). walking.followed_next b w name (found_by came) turn t.heard) a ∙ ap (λ (c : Call). walks.Send c) (sym (e name refl));
    fault = λ is. result-busy P (found_by came) is fits;
    calm = λ is. result-calm Q other (found_by came) is;
  }

  took-walks : (of : List ℕ → Call) (v : Visit) (old : Shelf) (next : Step) (new : Visit) (after : Shelf) → 1 ≤ of_walk v.walk → WalkAwaits v.walk call
      → FitsWalk P own (walking.waiting_name v.walk) came → visiting.Walks of v sent turn came old next new after → TookTo old after (next ≡ nexts.Send call) (FitsWalk Q fine (walking.waiting_name v.walk) came)
  took-walks of v old next new after some e fits w =
      took-as P sent turn old.repeats after.repeats after.repeats (w.takes.step ≡ walks.Send call) (next ≡ nexts.Send call) (FitsWalk Q fine (walking.waiting_name v.walk) came)
      (FitsWalk Q fine (walking.waiting_name v.walk) came) refl
      (λ is. w.next_is ∙ ap (visiting.next_by of) (w.takes.next_is ∙ ap (λ (s : WalkStep). visiting.follow_next s turn.room) is)) (λ c. c)
      (took-walk (walking.waiting_name v.walk) v.walk old w.takes.step w.takes.walked.walk after some e fits w.takes.takes)

  -- ---- a walk and a call

  took-changes : (dir : List ℕ) (of : Call) (told : Told) (old : Shelf) (next : Step) (after : Shelf) → call ≡ of → FineOption P told.refusal → changing.Changes dir of told sent turn old next after
      → TookTo old after (next ≡ nexts.Send call) (FineOption Q told.refusal)
  took-changes dir of told old next after e fits t = record {
    busy = changing.told_busy told.refusal;
    later_is = ap (λ (s : Shelf). s.repeats) t.others;
    again = λ a. t.next_is ∙ ap (λ (b : Bool). changing.change_next b of told) a ∙ ap (λ (c : Call). nexts.Send c) (sym e);
    fault = λ is. option-busy P told.refusal is fits;
    calm = λ is. option-calm Q other told.refusal is;
  }

  took-change : (asked : Bool) (of : List ℕ → Call) (told : Told) (v : Visit) (old : Shelf) (next : Step) (new : Visit) (after : Shelf) → 1 ≤ visit_by asked (of_walk v.walk)
      → OwnOr asked of v.walk call → FitsOwn P own asked (FineOption P told.refusal) v came → changing.TakesChange asked of told v sent turn came old next new after
      → TookTo old after (next ≡ nexts.Send call) (FitsOwn Q fine asked (FineOption Q told.refusal) v came)
  took-change true of told v old next new after some e fits t = took-changes v.walk.spot.dir (of v.walk.spot.dir) told old next after e fits t.1
  took-change false of told v old next new after some e fits t = took-walks of v old next new after some e fits t

  took-shows : (object : List ℕ) (attr : Option Attr) (told : Result Value Fault) (of : Call) (old : Shelf) (next : Step) (after : Shelf) → call ≡ of → FineResult P told
      → Shows object attr told of sent turn old next after → TookTo old after (next ≡ nexts.Send call) (FineResult Q told)
  took-shows object attr told of old next after e fits t = record {
    busy = fails_busy told;
    later_is = ap (λ (s : Shelf). s.repeats) t.others;
    again = λ a. t.next_is ∙ ap (λ (b : Bool). show_next b of told) a ∙ ap (λ (c : Call). nexts.Send c) (sym e);
    fault = λ is. result-busy P told is fits;
    calm = λ is. result-calm Q other told is;
  }

  took-show : (asked : Bool) (of : List ℕ → Call) (attr : Option Attr) (told : Result Value Fault) (v : Visit) (old : Shelf) (next : Step) (new : Visit) (after : Shelf)
      → 1 ≤ visit_by asked (of_walk v.walk) → OwnOr asked of v.walk call → FitsOwn P own asked (FineResult P told) v came → TakesShow asked of attr told v sent turn came old next new after
      → TookTo old after (next ≡ nexts.Send call) (FitsOwn Q fine asked (FineResult Q told) v came)
  took-show true of attr told v old next new after some e fits t = took-shows v.walk.spot.dir attr told (of v.walk.spot.dir) old next after e fits t.1
  took-show false of attr told v old next new after some e fits t = took-walks of v old next new after some e fits t

  -- ---- READLINK

  same-fine : (told to : Result Value Fault) → told ≡ to → FineResult Q to → FineResult Q told
  same-fine told to is n = subst (FineResult Q) (sym is) n

  -- what is told of the same reply
  dir-text : (reply : DirKept) (told to : Result Value Fault) → TellsText (Ok (replies.Dir reply)) told → TellsText (Ok (replies.Dir reply)) to → FineResult Q told → FineResult Q to
  dir-text (found.ReadLink attr text) told to a (inl b) f = same-fine to (Ok (values.Text text)) b tt
  dir-text (found.ReadLink attr text) told to a (inr b) f = same-fine to (Err faults.Memory) b fine.memory
  dir-text (found.ReadLinkFail status attr) told to a b f = same-fine to told (b ∙ sym a) f
  dir-text reply told to a b f = same-fine to (Err (faults.Bad 2)) b (other (faults.Bad 2) refl)

  calm-text : (got : Result Reply Fault) (told to : Result Value Fault) → TellsText got told → TellsText got to → FineResult Q told → FineResult Q to
  calm-text (Ok (replies.Dir reply)) told to a b f = dir-text reply told to a b f
  calm-text (Ok (replies.File reply)) told to a b f = same-fine to told (b ∙ sym a) f
  calm-text (Ok (replies.Mount reply)) told to a b f = same-fine to told (b ∙ sym a) f
  calm-text (Err fault) told to a b f = same-fine to told (b ∙ sym a) f

  took-text : (asked : Bool) (v : Visit) (old : Shelf) (next : Step) (new : Visit) (after : Shelf) → 1 ≤ visit_by asked (of_walk v.walk) → OwnOr asked text_call v.walk call
      → FitsOwn P own asked (TextFits P own came) v came → TakesText asked v sent turn came old next new after
      → TookTo old after (next ≡ nexts.Send call) (FitsOwn Q fine asked (TextFits Q fine came) v came)
  took-text true v old next new after some e fits t =
      took-as P sent turn old.repeats after.repeats after.repeats (next ≡ nexts.Send call) (next ≡ nexts.Send call) (FineResult Q t.1.told) (TextFits Q fine came) refl (λ is. is)
      (λ f to tells. calm-text came t.1.told to t.1.tells tells f)
      (took-shows v.walk.spot.dir _ t.1.told (text_call v.walk.spot.dir) old next after e (fits t.1.told t.1.tells) t.1.shows)
  took-text false v old next new after some e fits t = took-walks text_call v old next new after some e fits t

  -- ---- SYMLINK

  took-copy : (dir : List ℕ) (of : Call) (told : Told) (R : Type 0) (old : Shelf) (next : Step) (after : Shelf) → call ≡ of → FineOption P told.refusal → (FineOption Q told.refusal → R) → (FineNext Q next → R)
      → ChangesByCopy dir of told sent turn old next after → TookTo old after (next ≡ nexts.Send call) R
  took-copy dir of told R old next after e fits then_ ends (inl t) =
      took-as P sent turn old.repeats after.repeats after.repeats (next ≡ nexts.Send call) (next ≡ nexts.Send call) (FineOption Q told.refusal) R refl (λ is. is) then_
      (took-changes dir of told old next after e fits t)
  took-copy dir of told R old next after e fits then_ ends (inr t) = record {
    busy = false;
    later_is = ap (λ (s : Shelf). s.repeats) t.1.others;
    again = λ a. again-no (next ≡ nexts.Send call) false sent turn old.repeats refl a;
    fault = λ is. absurd (cc);
    calm = λ is. ends (fine-as Q _ next t.1.next_is fine.memory);
  }

  -- ---- lists

  list-again : (r : _) (b : Bool) (room : Bool) (m : ListDir) (next : Step) (new : ListDir) → listing.Follows r b room m next new → fails_busy r ≡ true → b ≡ true
      → next ≡ nexts.Send (listing.page_call m.place m.visit.walk.spot.dir)
  list-again (Ok heard) b room m next new f is a = absurd (cc)
  list-again (Err fault) b room m next new f is a = f.0 ∙ ap (λ (c : Bool). listing.refused_next c fault m) a

  list-fault : (fault : ListFault) → Q (listing.refusal_of fault)
  list-fault list_faults.Many = other faults.Many refl
  list-fault list_faults.Stuck = other (faults.Bad 6) refl
  list-fault list_faults.Memory = other faults.Memory refl

  took-list : (asked : Bool) (m : ListDir) (old : Shelf) (next : Step) (new : ListDir) (after : Shelf) → 1 ≤ visit_by asked (of_walk m.visit.walk)
      → OwnOr asked (listing.page_call m.place) m.visit.walk call → FitsOwn P own asked (PageFits P own m came) m.visit came → listing.TakesList asked m sent turn came old next new after
      → TookTo old after (next ≡ nexts.Send call) (FitsOwn Q fine asked (PageFits Q fine m came) m.visit came)
  took-list true m old next new after some e fits t = record {
    busy = fails_busy (listing.page_heard came);
    later_is = ap (λ (s : Shelf). s.repeats) t.others;
    again = λ a.
        list-again (listing.page_heard came) (goes_again (fails_busy (listing.page_heard came)) sent turn old.repeats) turn.room m next new t.follows
        (again-busy (fails_busy (listing.page_heard came)) sent turn old.repeats a) a ∙ ap (λ (c : Call). nexts.Send c) (sym e);
    fault = λ is. result-busy P (listing.page_heard came) is fits.0;
    calm = λ is. (result-calm Q other (listing.page_heard came) is, λ heard fault came_is step. list-fault fault);
  }
  took-list false m old next new after some e fits t = took-walks (listing.page_call m.place) m.visit old next t.visit after some e fits t.walks

  -- ---- GETATTR

  took-stat : (asked : Bool) (m : Stat) (old : Shelf) (next : Step) (new : Stat) (after : Shelf) → 1 ≤ own_or asked (of_walk m.walk) → OwnOr asked stats.get_attr m.walk call
      → FitsStat P own asked m came → stats.StatTakes asked m sent turn came old next new after → TookTo old after (next ≡ nexts.Send call) (FitsStat Q fine asked m came)
  took-stat true m old next new after some e fits t = took-shows m.walk.spot.dir (stats.got_attr came) (stats.got_told came) (stats.get_attr m.walk.spot.dir) old next after e fits t.1
  took-stat false m old next new after some e fits t =
      took-as P sent turn old.repeats after.repeats after.repeats (t.step ≡ walks.Send call) (next ≡ nexts.Send call) (FitsWalk Q fine (walking.waiting_name m.walk) came)
      (FitsWalk Q fine (walking.waiting_name m.walk) came) refl
      (λ is. t.next_is ∙ ap (λ (s : WalkStep). stats.follow_next s turn after.attrs) is) (λ c. c)
      (took-walk (walking.waiting_name m.walk) m.walk old t.step t.walked.walk after some e fits t.takes)

  -- ---- two walks and a call

  took-first : (of : List ℕ → List ℕ → Call) (p : Pair) (old : Shelf) (step : PairStep) (next : Step) (new : Pair) (after : Shelf) → 1 ≤ of_walk p.first → WalkAwaits p.first call
      → FitsWalk P own (walking.waiting_name p.first) came → pairs.TakesFirst p sent turn came old step new after → next ≡ pairs.next_by of step
      → TookTo old after (next ≡ nexts.Send call) (FitsWalk Q fine (walking.waiting_name p.first) came)
  took-first of p old step next new after some e fits t by_step =
      took-as P sent turn old.repeats t.heard.repeats after.repeats (t.step ≡ walks.Send call) (next ≡ nexts.Send call) (FitsWalk Q fine (walking.waiting_name p.first) came)
      (FitsWalk Q fine (walking.waiting_name p.first) came)
      (same-repeats after (pairs.first_shelf t.step t.walked turn t.heard) t.shelf_is ∙ first-repeats t.step t.walked turn t.heard)
      (λ is. by_step ∙ ap (pairs.next_by of) (t.next_is ∙ ap (λ (s : WalkStep). pairs.led_first s t.walked turn t.heard) is)) (λ c. c)
      (took-walk (walking.waiting_name p.first) p.first old t.step t.walked.first t.heard some e fits t.takes)

  took-second : (of : List ℕ → List ℕ → Call) (p : Pair) (old : Shelf) (step : PairStep) (next : Step) (new : Pair) (after : Shelf) → 1 ≤ of_walk p.second → WalkAwaits p.second call
      → FitsWalk P own (walking.waiting_name p.second) came → pairs.TakesSecond p sent turn came old step new after → next ≡ pairs.next_by of step
      → TookTo old after (next ≡ nexts.Send call) (FitsWalk Q fine (walking.waiting_name p.second) came)
  took-second of p old step next new after some e fits t by_step =
      took-as P sent turn old.repeats after.repeats after.repeats (t.step ≡ walks.Send call) (next ≡ nexts.Send call) (FitsWalk Q fine (walking.waiting_name p.second) came)
      (FitsWalk Q fine (walking.waiting_name p.second) came) refl
      (λ is. by_step ∙ ap (pairs.next_by of) (t.next_is ∙ ap (λ (s : WalkStep). pairs.led_second p.first.spot.dir s turn.room) is)) (λ c. c)
      (took-walk (walking.waiting_name p.second) p.second old t.step t.walked.second after some e fits t.takes)

  took-pair : (first second : Bool) (of : List ℕ → List ℕ → Call) (p : Pair) (old : Shelf) (step : PairStep) (next : Step) (new : Pair) (after : Shelf)
      → 1 ≤ pair_by false first second (of_walk p.first) (of_walk p.second) → PairOr false first of p call → FitsPair P own first p came → pairs.PairTakes first p sent turn came old step new after
      → next ≡ pairs.next_by of step → TookTo old after (next ≡ nexts.Send call) (FitsPair Q fine first p came)
  took-pair true true of p old step next new after some e fits t by_step = absurd (omega (arith, some))
  took-pair true false of p old step next new after some e fits t by_step = took-first of p old step next new after some e fits t by_step
  took-pair false second of p old step next new after some e fits t by_step = took-second of p old step next new after some e fits t by_step

  took-rename : (asked : Bool) (m : Rename) (old : Shelf) (next : Step) (new : Pair) (after : Shelf) → 1 ≤ pair_by asked m.pair.first.asked m.pair.second.asked (of_walk m.pair.first) (of_walk m.pair.second)
      → PairOr asked m.pair.first.asked (rename_call m.from m.to) m.pair call → FitsTwo P own asked (FineOption P (moved_told came).refusal) m.pair came → TakesRename asked m sent turn came old next new after
      → TookTo old after (next ≡ nexts.Send call) (FitsTwo Q fine asked (FineOption Q (moved_told came).refusal) m.pair came)
  took-rename true m old next new after some e fits t = record {
    busy = changing.told_busy (moved_told came).refusal;
    later_is = ap (λ (s : Shelf). s.repeats) t.1.others;
    again = λ a.
        t.1.next_is ∙ ap (λ (b : Bool). renamed_next b (rename_call m.from m.to m.pair.first.spot.dir m.pair.second.spot.dir) (moved_told came)) a
        ∙ ap (λ (c : Call). nexts.Send c) (sym e);
    fault = λ is. option-busy P (moved_told came).refusal is fits;
    calm = λ is. option-calm Q other (moved_told came).refusal is;
  }
  took-rename false m old next new after some e fits t =
      took-pair m.pair.first.asked m.pair.second.asked (rename_call m.from m.to) m.pair old t.step next new after some e fits t.takes t.next_is

  took-link : (asked : Bool) (m : Link) (old : Shelf) (next : Step) (new : Pair) (after : Shelf) → 1 ≤ pair_by asked m.pair.first.asked m.pair.second.asked (of_walk m.pair.first) (of_walk m.pair.second)
      → PairOr asked m.pair.first.asked (link_call m.name) m.pair call → FitsTwo P own asked (FineOption P (linked_told m.pair.first.spot.dir came).refusal) m.pair came
      → TakesLink asked m sent turn came old next new after
      → TookTo old after (next ≡ nexts.Send call) (FitsTwo Q fine asked (FineOption Q (linked_told m.pair.first.spot.dir came).refusal) m.pair came)
  took-link true m old next new after some e fits t = took-changes m.pair.second.spot.dir _ (linked_told m.pair.first.spot.dir came) old next after e fits t.1
  took-link false m old next new after some e fits t =
      took-pair m.pair.first.asked m.pair.second.asked (link_call m.name) m.pair old t.step next new after some e fits t.takes t.next_is

  -- ---- removals

  look-repeats : (b : Bool) (told : Result (List ℕ) Fault) (m : RemoveFile) (room : Bool) (old : Shelf) (next : Step) (new : RemoveFile) (after : Shelf)
      → removals.FollowsLook b told m room old next new after → after.repeats ≡ old.repeats
  look-repeats true told m room old next new after f = same-repeats after old f.shelf_is
  look-repeats false (Ok file) m room old next new after f = ap (λ (s : Shelf). s.repeats) f.plans.shelf_is
  look-repeats false (Err fault) m room old next new after f = same-repeats after old f.shelf_is

  seek-repeats : (b : Bool) (told : Result (List ℕ) Fault) (file to : List ℕ) (m : RemoveFile) (room : Bool) (old : Shelf) (next : Step) (new : RemoveFile) (after : Shelf)
      → removals.FollowsSeek b told file to m room old next new after → after.repeats ≡ old.repeats
  seek-repeats true told file to m room old next new after f = same-repeats after old f.shelf_is
  seek-repeats false (Ok found) file to m room old next new after f = ap (λ (s : Shelf). s.repeats) f.shelf_is
  seek-repeats false (Err fault) file to m room old next new after f = same-repeats after old f.shelf_is

  look-send : (b : Bool) (told : Result (List ℕ) Fault) (m : RemoveFile) (room : Bool) (old : Shelf) (next : Step) (new : RemoveFile) (after : Shelf)
      → removals.FollowsLook b told m room old next new after → b ≡ true → next ≡ nexts.Send (removals.call_of m Look)
  look-send true told m room old next new after f is = f.next_is
  look-send false told m room old next new after f is = absurd (cc)

  seek-send : (b : Bool) (told : Result (List ℕ) Fault) (file to : List ℕ) (m : RemoveFile) (room : Bool) (old : Shelf) (next : Step) (new : RemoveFile) (after : Shelf)
      → removals.FollowsSeek b told file to m room old next new after → b ≡ true → next ≡ nexts.Send (removals.call_of m (Seek file to))
  seek-send true told file to m room old next new after f is = f.next_is
  seek-send false told file to m room old next new after f is = absurd (cc)

  move-send : (b : Bool) (refusal : Option Fault) (file to : List ℕ) (m : RemoveFile) (old : removals.Places) (next : Step) (new : removals.Places)
      → removals.EndsMove b refusal file to m old next new → b ≡ true → next ≡ nexts.Send (removals.call_of m (Move file to))
  move-send true refusal file to m old next new e is = e.0
  move-send false refusal file to m old next new e is = absurd (cc)

  -- NFS3ERR_JUKEBOX isn't NFS3ERR_NOENT
  apart : (status n k : ℕ) → (status == n) ≡ true → n ≢ k → (status == k) ≡ false
  apart status n k is differs = by (status == k) refl
    where
      by : (b : Bool) → (status == k) ≡ b → b ≡ false
      by false e = refl
      by true e = absurd (differs (sym (eqb-true status n is) ∙ eqb-true status k e))

  busy-missing : (fault : Fault) → is_busy fault ≡ true → removals.is_missing fault ≡ false
  busy-missing (faults.Nfs status) is = apart status jukebox 2 is (λ e. absurd (omega (arith, e)))
  busy-missing (faults.Rpc n) is = refl
  busy-missing (faults.Bad n) is = refl
  busy-missing faults.Lost is = refl
  busy-missing faults.Spent is = refl
  busy-missing faults.Slot is = refl
  busy-missing faults.Mode is = refl
  busy-missing faults.Kind is = refl
  busy-missing faults.Many is = refl
  busy-missing faults.Memory is = refl

  seek-fault : (r : Result (List ℕ) Fault) → fails_busy r ≡ true → ((fault : Fault) → r ≡ Err fault → removals.is_missing fault ≡ false → P fault) → P (faults.Nfs jukebox)
  seek-fault (Ok found) is fits = absurd (cc)
  seek-fault (Err fault) is fits = fault-busy P fault is (fits fault refl (busy-missing fault is))

  seek-calm : (r : Result (List ℕ) Fault) (fault : Fault) → fails_busy r ≡ false → r ≡ Err fault → Q fault
  seek-calm r fault none is = other fault (ap (λ (x : Result (List ℕ) Fault). fails_busy x) (sym is) ∙ none)

  took-deed : (deed : Deed) (m : RemoveFile) (old : Shelf) (next : Step) (new : RemoveFile) (after : Shelf) → call ≡ removals.call_of m deed → FitsDeed P own deed came
      → removals.TakesDeed deed m sent turn came old next new after → TookTo old after (next ≡ nexts.Send call) (FitsDeed Q fine deed came)
  took-deed Look m old next new after e fits t = record {
    busy = fails_busy (found_by came);
    later_is = look-repeats (look_again sent turn came old) (found_by came) m turn.room t.heard next new after t.follows ∙ ap (λ (s : Shelf). s.repeats) t.hears.others;
    again = λ a. look-send (look_again sent turn came old) (found_by came) m turn.room t.heard next new after t.follows a ∙ ap (λ (c : Call). nexts.Send c) (sym e);
    fault = λ is. result-busy P (found_by came) is fits;
    calm = λ is. result-calm Q other (found_by came) is;
  }
  took-deed (Seek file to) m old next new after e fits t = record {
    busy = fails_busy (found_by came);
    later_is = seek-repeats (look_again sent turn came old) (found_by came) file to m turn.room t.heard next new after t.follows ∙ ap (λ (s : Shelf). s.repeats) t.hears.others;
    again = λ a. seek-send (look_again sent turn came old) (found_by came) file to m turn.room t.heard next new after t.follows a ∙ ap (λ (c : Call). nexts.Send c) (sym e);
    fault = λ is. seek-fault (found_by came) is fits;
    calm = λ none fault is missing. seek-calm (found_by came) fault none is;
  }
  took-deed (Move file to) m old next new after e fits t = record {
    busy = changing.told_busy (moved_told came).refusal;
    later_is = ap (λ (s : Shelf). s.repeats) t.1.others;
    again = λ a. move-send (removals.move_again sent turn came old) (moved_told came).refusal file to m old.silly next after.silly t.1.ends a ∙ ap (λ (c : Call). nexts.Send c) (sym e);
    fault = λ is. option-busy P (moved_told came).refusal is fits;
    calm = λ is. option-calm Q other (moved_told came).refusal is;
  }
  took-deed Remove m old next new after e fits t = took-changes m.walk.spot.dir (removals.call_of m Remove) (removals.removed_told came) old next after e fits t.1

  follows-send : (step : WalkStep) (room : Bool) (m : RemoveFile) (opens : _) (next : Step) (new : RemoveFile) → removals.Follows step room m opens next new → step ≡ walks.Send call
      → next ≡ nexts.Send call
  follows-send (walks.Send asked) room m opens next new f is = f.0 ∙ ap (λ (c : Call). nexts.Send c) (same-send asked call is)
    where
      same-send : (a b : Call) → walks.Send a ≡ walks.Send b → a ≡ b
      same-send a b e = cc
  follows-send walks.Wait room m opens next new f is = absurd (cc)
  follows-send (walks.At dir) room m opens next new f is = absurd (cc)
  follows-send (walks.Refused fault) room m opens next new f is = absurd (cc)

  if-deed : (asked : Bool) (deed : Deed) (m : RemoveFile) (old : Shelf) (next : Step) (new : RemoveFile) (after : Shelf) → 1 ≤ one_if asked → call ≡ removals.call_of m deed
      → (asked ≡ true → FitsDeed P own deed came) → removals.TakesIf asked deed m sent turn came old next new after
      → TookTo old after (next ≡ nexts.Send call) (asked ≡ true → FitsDeed Q fine deed came)
  if-deed true deed m old next new after some e fits t =
      took-as P sent turn old.repeats after.repeats after.repeats (next ≡ nexts.Send call) (next ≡ nexts.Send call) (FitsDeed Q fine deed came) (true ≡ true → FitsDeed Q fine deed came) refl
      (λ is. is) (λ c same. c) (took-deed deed m old next new after e (fits refl) t)
  if-deed false deed m old next new after some e fits t = absurd (omega (arith, some))

  took-removal : (deed : Option Deed) (m : RemoveFile) (old : Shelf) (next : Step) (new : RemoveFile) (after : Shelf) → 1 ≤ removal_by deed m.asked (of_walk m.walk) → RemoveAwaits deed m call
      → FitsRemoval P own deed m came → removals.Takes deed m sent turn came old next new after → TookTo old after (next ≡ nexts.Send call) (FitsRemoval Q fine deed m came)
  took-removal (Some deed) m old next new after some e fits t = if-deed m.asked deed m old next new after some e fits t
  took-removal None m old next new after some e fits t =
      took-as P sent turn old.repeats after.repeats after.repeats (t.step ≡ walks.Send call) (next ≡ nexts.Send call) (FitsWalk Q fine (walking.waiting_name m.walk) came)
      (FitsWalk Q fine (walking.waiting_name m.walk) came) refl (λ is. follows-send t.step turn.room t.walked after.opens next new t.follows is) (λ c. c)
      (took-walk (walking.waiting_name m.walk) m.walk old t.step t.walked.walk after some e fits t.takes)

  -- ---- any operation on names

  took-fine : (m : NameMachine) (old : Shelf) (next : Step) (new : NameMachine) (after : Shelf) → NameTakes m sent turn came old next new after → TookTo old after (next ≡ nexts.Send call) (FitsName Q fine m came)
      → TookTo old after (next ≡ nexts.Send call) (FineNext Q next)
  took-fine m old next new after t k =
      took-as P sent turn old.repeats after.repeats after.repeats (next ≡ nexts.Send call) (next ≡ nexts.Send call) (FitsName Q fine m came) (FineNext Q next) refl (λ is. is)
      (λ f. name-takes Q fine m sent turn came old next new after f t) k

  took-sym : (asked : Bool) (m : SymLink) (old : Shelf) (next : Step) (new : Visit) (after : Shelf) (R : Type 0) → 1 ≤ visit_by asked (of_walk m.visit.walk)
      → OwnOr asked (sym_link_call m.name m.target) m.visit.walk call → FitsOwn P own asked (FineOption P (sym_linked_told came).refusal) m.visit came
      → (FitsOwn Q fine asked (FineOption Q (sym_linked_told came).refusal) m.visit came → R) → (FineNext Q next → R) → TakesSymLink asked m sent turn came old next new after
      → TookTo old after (next ≡ nexts.Send call) R
  took-sym true m old next new after R some e fits then_ ends t =
      took-copy m.visit.walk.spot.dir (sym_link_call m.name m.target m.visit.walk.spot.dir) (sym_linked_told came) R old next after e fits then_ ends t.1
  took-sym false m old next new after R some e fits then_ ends t =
      took-as P sent turn old.repeats after.repeats after.repeats (t.takes.step ≡ walks.Send call) (next ≡ nexts.Send call) (FitsWalk Q fine (walking.waiting_name m.visit.walk) came) R refl
      (λ is. copies (sym_link_call m.name m.target) t.step next t.next_is (t.takes.next_is ∙ ap (λ (s : WalkStep). visiting.follow_next s turn.room) is)) then_
      (took-walk (walking.waiting_name m.visit.walk) m.visit.walk old t.takes.step t.takes.walked.walk after some e fits t.takes.takes)
    where
      copies : (of : List ℕ → Call) (step : VisitStep) (next : Step) → CopiesBy of step next → step ≡ visits.Look call → next ≡ nexts.Send call
      copies of (visits.Look look) next c is = c ∙ ap (λ (k : Call). nexts.Send k) (same-look look call is)
        where
          same-look : (a b : Call) → visits.Look a ≡ visits.Look b → a ≡ b
          same-look a b e = cc
      copies of visits.Wait next c is = absurd (cc)
      copies of (visits.Ask object) next c is = absurd (cc)
      copies of (visits.Refused fault) next c is = absurd (cc)

  pub took-name : (m : NameMachine) (old : Shelf) (next : Step) (new : NameMachine) (after : Shelf) → 1 ≤ of_names m → NameAwaits m call → FitsName P own m came
      → NameTakes m sent turn came old next new after → TookTo old after (next ≡ nexts.Send call) (FineNext Q next)
  took-name (machines.Change m) old next new after some e fits t =
      took-fine (machines.Change m) old next new after t (took-change m.visit.asked (deed_call m.deed m.name) (deed_told m.deed came) m.visit old next t.visit after some e fits t.step)
  took-name (machines.Stat m) old next new after some e fits t = took-fine (machines.Stat m) old next new after t (took-stat m.asked m old next t.machine after some e fits t.step)
  took-name (machines.Access m) old next new after some e fits t =
      took-fine (machines.Access m) old next new after t (took-show m.visit.asked (access_call m.bits) (access_attr came) (access_told came) m.visit old next t.visit after some e fits t.step)
  took-name (machines.ReadLink m) old next new after some e fits t = took-fine (machines.ReadLink m) old next new after t (took-text m.visit.asked m.visit old next t.visit after some e fits t.step)
  took-name (machines.Remove m) old next new after some e fits t = took-fine (machines.Remove m) old next new after t (took-removal m.deed m old next t.machine after some e fits t.step)
  took-name (machines.Rename m) old next new after some e fits t = took-fine (machines.Rename m) old next new after t (took-rename m.pair.asked m old next t.pair after some e fits t.step)
  took-name (machines.Link m) old next new after some e fits t = took-fine (machines.Link m) old next new after t (took-link m.pair.asked m old next t.pair after some e fits t.step)
  took-name (machines.SymLink m) old next new after some e fits t =
      took-sym m.visit.asked m old next t.visit after (FineNext Q next) some e fits (λ f. name-takes Q fine (machines.SymLink m) sent turn came old next new after f t) (λ f. f) t.step
  took-name (machines.List m) old next new after some e fits t = took-fine (machines.List m) old next new after t (took-list m.visit.asked m old next t.machine after some e fits t.step)
