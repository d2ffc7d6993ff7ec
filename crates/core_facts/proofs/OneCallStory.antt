-- An operation that makes one call goes well only where its paths lead to the objects of the call, which was answered with status 0.
use Rattle.core_facts.proofs.Prelude.{◌≡◌, ◌≤◌, ◌+◌, ◌-◌, ◌⊎◌, inl, inr, ℕ, zero, suc, Bool, true, false, List, [], ◌∷◌, ◌++◌, length, take, slice_get, Option, None, Result, Ok, refl, sym, ap, subst, ◌∙◌, arith, Attr, Answer, Fault, Value, Entry, Delivered, Call, Reply, Op, At, Rooted, EndsWith, Terms, Asked-wide, FirstSent-grow, At-grow, At-below, At-back, At-cases, length_last, goes_again, Step, Shelf, Turn, Link, Pair, Rename, SymLink, Told, Visit, access_call, access_told, deed_call, deed_told, link_call, linked_told, TakesLink, moved_told, text_call, TakesText, rename_call, TakesRename, shown_answer, TakesShow, sym_link_call, sym_linked_told, ChangesByCopy, TakesSymLink, lacking, Machine, NameMachine, IsNamed, front_of, last_of, Resumes, Takes, State, Busy, Over}
use Rattle.std.proofs.Common.{unwrap_or}
use Rattle.world_model.specs.Mounts.{Origin, Given}
use Rattle.world_model.proofs.Growth.{Waits-grow}
use Rattle.op_machines.specs.Begun.{IsAsked}
use Rattle.world_model.specs.declared.answer.Answer.TheVariants as answers
use Rattle.world_model.specs.declared.answer.Fault.TheVariants as faults
use Rattle.world_model.specs.declared.answer.Value.TheVariants as values
use Rattle.world_model.specs.declared.op.Op.TheVariants as ops
use Rattle.claims.specs.Asks.{Acts}
use Rattle.claims.specs.Asks as asks
use Rattle.claims.specs.OkRows.{ActOk}
use Rattle.claims.specs.Paths.{PlaceOf}
use Rattle.world_model.specs.Waiting.{IsDelivered}
use Rattle.client_shelf.specs.declared.step.Step.TheVariants as nexts
use Rattle.name_ops.specs.declared.dir_change.DirDeed.{DirDeed}
use Rattle.name_ops.specs.declared.dir_change.DirDeed.TheVariants as deeds
use Rattle.name_ops.specs.Changing as changing
use Rattle.name_ops.specs.Pairs as pairs
use Rattle.name_ops.specs.Visiting as visiting
use Rattle.op_machines.specs.declared.machine.Machine.TheVariants as machines
use Rattle.op_machines.specs.declared.name_machine.NameMachine.TheVariants as names
use Rattle.core_facts.specs.Naming.{IsOneCall}
use Rattle.core_facts.proofs.AllAwaited.{Awaits}
use Rattle.core_facts.proofs.Awaited.{OwnOr, PairOr}
use Rattle.core_facts.proofs.Leading.{NamesTold, LeadsTo, leads-from, IsHeard}
use Rattle.core_facts.proofs.OneCalls.{IsOkReply, deed-ok, sym-ok, moved-ok, link-ok, access-ok, text-ok, refusal-answer, told-answer, again-then, VisitStory, visit-at, visit-then, walks-then, copy-then, copies-then, visit-later, PairStory, pair-at, pair-then, pair-walks-then, pair-later}
use Rattle.core_facts.proofs.Steps.{ThenOf}
use Rattle.core_facts.proofs.Tales.{IsTold}
use Rattle.core_facts.proofs.Telling.{IsQuiet, AsksFor}

-- ---- paths

front-at : (xs : List (List ℕ)) (n : ℕ) → length xs ≡ suc n → xs ≡ take n xs ++ unwrap_or (slice_get xs n) [] ∷ []
front-at [] n e = absurd (omega (arith, e))
front-at (x ∷ xs) zero e = by xs e
  where
    by : (ys : List (List ℕ)) → length (x ∷ ys) ≡ suc zero → x ∷ ys ≡ x ∷ []
    by [] e2 = refl
    by (y ∷ ys) e2 = absurd (omega (arith, e2))
front-at (x ∷ xs) (suc n) e = ap (λ (ys : List (List ℕ)). x ∷ ys) (front-at xs n (omega (arith, e)))

pub front-last : (path : List (List ℕ)) → IsNamed path → path ≡ front_of path ++ last_of path ∷ []
front-last path some = front-at path (length path - 1) (omega (arith, some))

-- ---- what is shown at the end

-- the last record that came is still the last one
pub ends-later : (h : List Entry) (e : Entry) (x : ℕ) (call : Call) (reply : Reply) → (IsDelivered e → ⊥) → EndsWith h x (length h) call reply → EndsWith (h ++ e ∷ []) x (length (h ++ e ∷ [])) call reply
ends-later h e x call reply quiet d = record {
  last = record {
    at = d.last.at;
    bytes = d.last.bytes;
    xid = d.last.xid;
    sent_at = d.last.sent_at;
    record_sent = d.last.record_sent;
    got = At-grow h (e ∷ []) d.last.at (Delivered d.last.bytes) d.last.got;
    before = let more = length_last h e in let low = d.last.before in omega (arith, more, low);
    last = λ j b at within. by j b (At-cases h e j (Delivered b) at);
    under = d.last.under;
    sent = FirstSent-grow h (e ∷ []) d.last.sent_at d.last.xid d.last.record_sent d.last.sent;
    spells = d.last.spells;
    asked = d.last.asked;
  };
  within = d.within;
  waits = let low = d.last.before in Waits-grow h (e ∷ []) d.last.xid d.last.at (omega (arith, low)) d.waits;
  spells = d.spells;
}
  where
    by : (j : ℕ) (b : List ℕ) → At h j (Delivered b) ⊎ ((j ≡ length h) × (e ≡ Delivered b)) → j ≤ d.last.at
    by j b (inl there) = d.last.last j b there (At-below h j (Delivered b) there)
    by j b (inr now) = absurd (quiet (b, now.1))

pub ends-until : (before after : List Entry) (x y : ℕ) (call : Call) (reply : Reply) → length before ≡ y → EndsWith before x (length before) call reply → EndsWith (before ++ after) x y call reply
ends-until before after x y call reply there d = record {
  last = record {
    at = d.last.at;
    bytes = d.last.bytes;
    xid = d.last.xid;
    sent_at = d.last.sent_at;
    record_sent = d.last.record_sent;
    got = At-grow before after d.last.at (Delivered d.last.bytes) d.last.got;
    before = let low = d.last.before in omega (arith, there, low);
    last = λ j b at within. d.last.last j b (At-back before after j (Delivered b) at (omega (arith, there, within))) (omega (arith, there, within));
    under = d.last.under;
    sent = FirstSent-grow before after d.last.sent_at d.last.xid d.last.record_sent d.last.sent;
    spells = d.last.spells;
    asked = d.last.asked;
  };
  within = d.within;
  waits = let low = d.last.before in Waits-grow before after d.last.xid d.last.at (omega (arith, low)) d.waits;
  spells = d.spells;
}

-- ---- the call that does it

module _ (top : List ℕ) where
  -- the same terms, with a root that is given
  abbrev pub given : Terms → Terms
  given terms = record terms { origin = Given top }

  pub place-from : (origin : Origin) (h more : List Entry) (n m : ℕ) (path : List (List ℕ)) (d name : List ℕ) → n ≤ m → Rooted origin (h ++ more) m top → PlaceOf (Given top) h n path d name
      → PlaceOf origin (h ++ more) m path d name
  place-from origin h more n m path d name wide rooted p = record { earlier = p.earlier; is = p.is; leads = leads-from top origin h more n m p.earlier d wide rooted p.leads }

  no-truncate : (op : Op) (slot size : ℕ) → IsOneCall op → op ≡ ops.Truncate slot size → ⊥
  no-truncate op slot size one is = subst IsOneCall is one

  no-remove : (op : Op) (path : List (List ℕ)) → IsOneCall op → op ≡ ops.Remove path → ⊥
  no-remove op path one is = subst IsOneCall is one

  pub acts-from : (terms : Terms) (h more : List Entry) (x n m : ℕ) (op : Op) (call : Call) → IsOneCall op → n ≤ m → Rooted terms.origin (h ++ more) m top → Acts (given terms) h x n op call
      → Acts terms (h ++ more) x m op call
  acts-from terms h more x n m op call one wide rooted (asks.cuts slot size f is of to) = absurd (no-truncate op slot size one is)
  acts-from terms h more x n m op call one wide rooted (asks.accesses path bits f is l to) = asks.accesses path bits f is (leads-from top terms.origin h more n m path f wide rooted l) to
  acts-from terms h more x n m op call one wide rooted (asks.reads_link path f is l to) = asks.reads_link path f is (leads-from top terms.origin h more n m path f wide rooted l) to
  acts-from terms h more x n m op call one wide rooted (asks.makes_dir path d name is p to) = asks.makes_dir path d name is (place-from terms.origin h more n m path d name wide rooted p) to
  acts-from terms h more x n m op call one wide rooted (asks.makes_link path target d name is p to) =
      asks.makes_link path target d name is (place-from terms.origin h more n m path d name wide rooted p) to
  acts-from terms h more x n m op call one wide rooted (asks.removes_dir path d name is p to) = asks.removes_dir path d name is (place-from terms.origin h more n m path d name wide rooted p) to
  acts-from terms h more x n m op call one wide rooted (asks.renames from to d name to_d to_name is p q at) =
      asks.renames from to d name to_d to_name is (place-from terms.origin h more n m from d name wide rooted p) (place-from terms.origin h more n m to to_d to_name wide rooted q) at
  acts-from terms h more x n m op call one wide rooted (asks.links from to f d name is l p at) =
      asks.links from to f d name is (leads-from top terms.origin h more n m from f wide rooted l) (place-from terms.origin h more n m to d name wide rooted p) at
  acts-from terms h more x n m op call one wide rooted (asks.removes path d name is p to) = absurd (no-remove op path one is)
  acts-from terms h more x n m op call one wide rooted (asks.hides path d last name is p hidden may to) = absurd (no-remove op path one is)

  module _ (terms : Terms) where
    -- ---- the story

    abbrev pub AnswerOk : List Entry → ℕ → Op → Answer → Type 0
    AnswerOk h x op (answers.Done value) = ActOk (given terms) h x (length h) op value
    AnswerOk h x op (answers.Refused fault) = Unit {0}

    -- it goes along its paths
    pub record Visits (h : List Entry) (path : List (List ℕ)) (with_visit : Visit → NameMachine) (machine : Machine) : Type 0 where
      pub visit : Visit
      pub is : machine ≡ machines.Name (with_visit visit)
      pub story : VisitStory top h path visit

    pub record Pairs (h : List Entry) (first second : List (List ℕ)) (with_pair : Pair → NameMachine) (machine : Machine) : Type 0 where
      pub pair : Pair
      pub is : machine ≡ machines.Name (with_pair pair)
      pub story : PairStory top h first second pair

    abbrev pub accessing : ℕ → Visit → NameMachine
    accessing bits visit = names.Access (record { visit = visit; bits = bits })

    abbrev pub reading : Visit → NameMachine
    reading visit = names.ReadLink (record { visit = visit })

    abbrev pub changed : List ℕ → DirDeed → Visit → NameMachine
    changed name deed visit = names.Change (record { visit = visit; name = name; deed = deed })

    abbrev pub linking : List ℕ → List ℕ → Visit → NameMachine
    linking name target visit = names.SymLink (record { visit = visit; name = name; target = target })

    abbrev pub renaming : List ℕ → List ℕ → Pair → NameMachine
    renaming from to pair = names.Rename (record { pair = pair; from = from; to = to })

    abbrev pub naming : List ℕ → Pair → NameMachine
    naming name pair = names.Link (record { pair = pair; name = name })

    abbrev pub Runs : List Entry → Op → Machine → Type 0
    Runs h (ops.Access path bits) machine = Visits h path (accessing bits) machine
    Runs h (ops.ReadLink path) machine = Visits h path reading machine
    Runs h (ops.MakeDir path) machine = Visits h (front_of path) (changed (last_of path) deeds.Make) machine
    Runs h (ops.RemoveDir path) machine = Visits h (front_of path) (changed (last_of path) deeds.Remove) machine
    Runs h (ops.SymLink path target) machine = Visits h (front_of path) (linking (last_of path) target) machine
    Runs h (ops.Rename from to) machine = Pairs h (front_of from) (front_of to) (renaming (last_of from) (last_of to)) machine
    Runs h (ops.Link from to) machine = Pairs h from (front_of to) (naming (last_of to)) machine
    Runs h op machine = Unit {0}

    abbrev pub StateStory : List Entry → ℕ → Op → State → Type 0
    StateStory h x op (Busy machine) = Runs h op machine
    StateStory h x op (Over answer) = AnswerOk h x op answer

    abbrev pub Story : List Entry → ℕ → Op → State → Type 0
    Story h x op state = IsOneCall op → IsAsked op → StateStory h x op state

    abbrev pub Shelved : List Entry → Shelf → Type 0
    Shelved h shelf = NamesTold h shelf.names

    abbrev pub NoWait : List Entry → ℕ → Op → Call → Type 0
    NoWait h x op call = Unit {0}

    pub heard-all : (h : List Entry) (x : ℕ) (op : Op) (machine : Machine) (came : Result Reply Fault) (told : IsTold Awaits NoWait h x op machine came) → IsHeard top h came told.call
    heard-all h x op machine came told reply is =
        Asked-wide h x (length h) 0 (length h) told.call reply (omega arith) (omega arith) (told.heard reply is).asked

    act-ok : (h : List Entry) (x : ℕ) (op : Op) (machine : Machine) (came : Result Reply Fault) (value : Value) (told : IsTold Awaits NoWait h x op machine came) → IsOkReply came value
        → Acts (given terms) h x (length h) op told.call → ActOk (given terms) h x (length h) op value
    act-ok h x op machine came value told k acts =
        record { call = told.call; reply = k.reply; acts = acts; ends = (told.heard k.reply k.is).ends; went = k.went; gives = k.gives }

    refused-any : (h : List Entry) (x : ℕ) (op : Op) (fault : Fault) → AnswerOk h x op (answers.Refused fault)
    refused-any h x op fault = tt

    -- the same of what the machine is built of
    visits-then : (h : List Entry) (path : List (List ℕ)) (with_visit : Visit → NameMachine) (A : Answer → Type 0) (next : Step) (visit : Visit) (new : Machine)
        → new ≡ machines.Name (with_visit visit) → ThenOf (VisitStory top h path) A next visit → ThenOf (Visits h path with_visit) A next new
    visits-then h path with_visit A (nexts.Send call) visit new is t = record { visit = visit; is = is; story = t }
    visits-then h path with_visit A nexts.Wait visit new is t = record { visit = visit; is = is; story = t }
    visits-then h path with_visit A (nexts.Done answer) visit new is t = t

    pairs-then : (h : List Entry) (first second : List (List ℕ)) (with_pair : Pair → NameMachine) (A : Answer → Type 0) (next : Step) (pair : Pair) (new : Machine)
        → new ≡ machines.Name (with_pair pair) → ThenOf (PairStory top h first second) A next pair → ThenOf (Pairs h first second with_pair) A next new
    pairs-then h first second with_pair A (nexts.Send call) pair new is t = record { pair = pair; is = is; story = t }
    pairs-then h first second with_pair A nexts.Wait pair new is t = record { pair = pair; is = is; story = t }
    pairs-then h first second with_pair A (nexts.Done answer) pair new is t = t

    -- ---- replies

    change-then : (h : List Entry) (path : List (List ℕ)) (A : Answer → Type 0) (asked : Bool) (own : List ℕ → Call) (told : Told) (v : Visit) (sent turn : Turn) (came : Result Reply Fault)
        (old : Shelf) (next : Step) (new : Visit) (after : Shelf) (call : Call) → ((fault : Fault) → A (answers.Refused fault))
        → (v.asked ≡ true → told.refusal ≡ None → A (answers.Done values.Nothing)) → v.asked ≡ asked → NamesTold h old.names → VisitStory top h path v → OwnOr asked own v.walk call
        → IsHeard top h came call → changing.TakesChange asked own told v sent turn came old next new after → ThenOf (VisitStory top h path) A next new
    change-then h path A true own told v sent turn came old next new after call refused well is t s e heard k =
        again-then (VisitStory top h path) A _ (own v.walk.spot.dir) (changing.answer_of told.refusal) next new k.1.next_is (subst (VisitStory top h path) (sym k.0) s)
        (refusal-answer A told.refusal refused (well is))
    change-then h path A false own told v sent turn came old next new after call refused well is t s e heard k =
        walks-then top h path A own v sent turn came old next new after call refused is t s e heard k

    show-then : (h : List Entry) (path : List (List ℕ)) (A : Answer → Type 0) (asked : Bool) (own : List ℕ → Call) (attr : Option Attr) (told : Result Value Fault) (v : Visit) (sent turn : Turn)
        (came : Result Reply Fault) (old : Shelf) (next : Step) (new : Visit) (after : Shelf) (call : Call) → ((fault : Fault) → A (answers.Refused fault))
        → (v.asked ≡ true → (value : Value) → told ≡ Ok value → A (answers.Done value)) → v.asked ≡ asked → NamesTold h old.names → VisitStory top h path v → OwnOr asked own v.walk call
        → IsHeard top h came call → TakesShow asked own attr told v sent turn came old next new after → ThenOf (VisitStory top h path) A next new
    show-then h path A true own attr told v sent turn came old next new after call refused well is t s e heard k =
        again-then (VisitStory top h path) A _ (own v.walk.spot.dir) (shown_answer told) next new k.1.next_is (subst (VisitStory top h path) (sym k.0) s) (told-answer A told refused (well is))
    show-then h path A false own attr told v sent turn came old next new after call refused well is t s e heard k =
        walks-then top h path A own v sent turn came old next new after call refused is t s e heard k

    text-then : (h : List Entry) (path : List (List ℕ)) (A : Answer → Type 0) (asked : Bool) (v : Visit) (sent turn : Turn) (came : Result Reply Fault) (old : Shelf) (next : Step) (new : Visit)
        (after : Shelf) (call : Call) → ((fault : Fault) → A (answers.Refused fault)) → (v.asked ≡ true → (value : Value) → IsOkReply came value → A (answers.Done value)) → v.asked ≡ asked
        → NamesTold h old.names → VisitStory top h path v → OwnOr asked text_call v.walk call → IsHeard top h came call → TakesText asked v sent turn came old next new after
        → ThenOf (VisitStory top h path) A next new
    text-then h path A true v sent turn came old next new after call refused well is t s e heard k =
        again-then (VisitStory top h path) A _ (text_call v.walk.spot.dir) (shown_answer k.1.told) next new k.1.shows.next_is (subst (VisitStory top h path) (sym k.0) s)
        (told-answer A k.1.told refused (λ value said. well is value (text-ok came k.1.told value k.1.tells said)))
    text-then h path A false v sent turn came old next new after call refused well is t s e heard k =
        walks-then top h path A text_call v sent turn came old next new after call refused is t s e heard k

    sym-then : (h : List Entry) (path : List (List ℕ)) (A : Answer → Type 0) (asked : Bool) (m : SymLink) (sent turn : Turn) (came : Result Reply Fault) (old : Shelf) (next : Step) (new : Visit)
        (after : Shelf) (call : Call) → ((fault : Fault) → A (answers.Refused fault)) → (m.visit.asked ≡ true → (sym_linked_told came).refusal ≡ None → A (answers.Done values.Nothing))
        → m.visit.asked ≡ asked → NamesTold h old.names → VisitStory top h path m.visit → OwnOr asked (sym_link_call m.name m.target) m.visit.walk call → IsHeard top h came call
        → TakesSymLink asked m sent turn came old next new after → ThenOf (VisitStory top h path) A next new
    sym-then h path A true m sent turn came old next new after call refused well is t s e heard k = by k.1
      where
        own : List ℕ → Call
        own = sym_link_call m.name m.target

        by : ChangesByCopy m.visit.walk.spot.dir (own m.visit.walk.spot.dir) (sym_linked_told came) sent turn old next after → ThenOf (VisitStory top h path) A next new
        by (inl c) = again-then (VisitStory top h path) A (goes_again (changing.told_busy (sym_linked_told came).refusal) sent turn old.repeats) (own m.visit.walk.spot.dir) (changing.answer_of (sym_linked_told came).refusal) next new c.next_is
            (subst (VisitStory top h path) (sym k.0) s) (refusal-answer A (sym_linked_told came).refusal refused (well is))
        by (inr c) = again-then (VisitStory top h path) A (goes_again (changing.told_busy (lacking (sym_linked_told came)).refusal) sent turn old.repeats) (own m.visit.walk.spot.dir) (answers.Refused faults.Memory) next new c.1.next_is (subst (VisitStory top h path) (sym k.0) s)
            (refused faults.Memory)
    sym-then h path A false m sent turn came old next new after call refused well is t s e heard k =
        copies-then top h path A (sym_link_call m.name m.target) m.visit sent turn came old next k.step new after call refused is t s e heard k.takes k.next_is

    rename-then : (h : List Entry) (first second : List (List ℕ)) (A : Answer → Type 0) (asked : Bool) (m : Rename) (sent turn : Turn) (came : Result Reply Fault) (old : Shelf) (next : Step)
        (new : Pair) (after : Shelf) (call : Call) → ((fault : Fault) → A (answers.Refused fault)) → (m.pair.asked ≡ true → (moved_told came).refusal ≡ None → A (answers.Done values.Nothing))
        → m.pair.asked ≡ asked → NamesTold h old.names → PairStory top h first second m.pair → PairOr asked m.pair.first.asked (rename_call m.from m.to) m.pair call → IsHeard top h came call
        → TakesRename asked m sent turn came old next new after → ThenOf (PairStory top h first second) A next new
    rename-then h first second A true m sent turn came old next new after call refused well is t s e heard k =
        again-then (PairStory top h first second) A _ (rename_call m.from m.to m.pair.first.spot.dir m.pair.second.spot.dir) (changing.answer_of (moved_told came).refusal) next new k.1.next_is
        (subst (PairStory top h first second) (sym k.0) s) (refusal-answer A (moved_told came).refusal refused (well is))
    rename-then h first second A false m sent turn came old next new after call refused well is t s e heard k =
        pair-walks-then top h first second A (rename_call m.from m.to) m.pair sent turn came old next new after call refused is t s e heard k

    link-then : (h : List Entry) (first second : List (List ℕ)) (A : Answer → Type 0) (asked : Bool) (m : Link) (sent turn : Turn) (came : Result Reply Fault) (old : Shelf) (next : Step)
        (new : Pair) (after : Shelf) (call : Call) → ((fault : Fault) → A (answers.Refused fault))
        → (m.pair.asked ≡ true → (linked_told m.pair.first.spot.dir came).refusal ≡ None → A (answers.Done values.Nothing)) → m.pair.asked ≡ asked → NamesTold h old.names
        → PairStory top h first second m.pair → PairOr asked m.pair.first.asked (link_call m.name) m.pair call → IsHeard top h came call → TakesLink asked m sent turn came old next new after
        → ThenOf (PairStory top h first second) A next new
    link-then h first second A true m sent turn came old next new after call refused well is t s e heard k =
        again-then (PairStory top h first second) A _ (link_call m.name m.pair.first.spot.dir m.pair.second.spot.dir) (changing.answer_of (linked_told m.pair.first.spot.dir came).refusal) next new
        k.1.next_is (subst (PairStory top h first second) (sym k.0) s) (refusal-answer A (linked_told m.pair.first.spot.dir came).refusal refused (well is))
    link-then h first second A false m sent turn came old next new after call refused well is t s e heard k =
        pair-walks-then top h first second A (link_call m.name) m.pair sent turn came old next new after call refused is t s e heard k

    -- ---- steps

    module _ (h : List Entry) (x : ℕ) where
      abbrev pub Steps : Op → Step → Machine → Type 0
      Steps op next new = ThenOf (Runs h op) (AnswerOk h x op) next new

      -- a step that no reply made possible
      pub goes : (op : Op) (machine : Machine) (wsize : ℕ) (turn : Turn) (old : Shelf) (next : Step) (new : Machine) (after : Shelf) → IsOneCall op → NamesTold h old.names → Runs h op machine
          → Resumes wsize machine turn old next new after → Steps op next new
      goes (ops.Access path bits) machine wsize turn old next new after one t k r =
          let g = subst (λ (n : Machine). Resumes wsize n turn old next new after) k.is r in
          visits-then h path (accessing bits) (AnswerOk h x (ops.Access path bits)) next (visiting.visit_after k.visit turn old) new (g.machine_is ∙ ap machines.Name g.step.machine_is)
          (visit-then top h path (AnswerOk h x (ops.Access path bits)) (access_call bits) k.visit turn old next (λ f. tt) t k.story g.step.next_is)
      goes (ops.ReadLink path) machine wsize turn old next new after one t k r =
          let g = subst (λ (n : Machine). Resumes wsize n turn old next new after) k.is r in
          visits-then h path reading (AnswerOk h x (ops.ReadLink path)) next (visiting.visit_after k.visit turn old) new (g.machine_is ∙ ap machines.Name g.step.machine_is)
          (visit-then top h path (AnswerOk h x (ops.ReadLink path)) text_call k.visit turn old next (λ f. tt) t k.story g.step.next_is)
      goes (ops.MakeDir path) machine wsize turn old next new after one t k r =
          let g = subst (λ (n : Machine). Resumes wsize n turn old next new after) k.is r in
          visits-then h (front_of path) (changed (last_of path) deeds.Make) (AnswerOk h x (ops.MakeDir path)) next (visiting.visit_after k.visit turn old) new
          (g.machine_is ∙ ap machines.Name g.step.machine_is)
          (visit-then top h (front_of path) (AnswerOk h x (ops.MakeDir path)) (deed_call deeds.Make (last_of path)) k.visit turn old next (λ f. tt) t k.story g.step.next_is)
      goes (ops.RemoveDir path) machine wsize turn old next new after one t k r =
          let g = subst (λ (n : Machine). Resumes wsize n turn old next new after) k.is r in
          visits-then h (front_of path) (changed (last_of path) deeds.Remove) (AnswerOk h x (ops.RemoveDir path)) next (visiting.visit_after k.visit turn old) new
          (g.machine_is ∙ ap machines.Name g.step.machine_is)
          (visit-then top h (front_of path) (AnswerOk h x (ops.RemoveDir path)) (deed_call deeds.Remove (last_of path)) k.visit turn old next (λ f. tt) t k.story g.step.next_is)
      goes (ops.SymLink path target) machine wsize turn old next new after one t k r =
          let g = subst (λ (n : Machine). Resumes wsize n turn old next new after) k.is r in
          visits-then h (front_of path) (linking (last_of path) target) (AnswerOk h x (ops.SymLink path target)) next (visiting.visit_after k.visit turn old) new
          (g.machine_is ∙ ap machines.Name g.step.machine_is)
          (copy-then top h (front_of path) (AnswerOk h x (ops.SymLink path target)) (sym_link_call (last_of path) target) k.visit turn old next (λ f. tt) t k.story g.step.next_is)
      goes (ops.Rename from to) machine wsize turn old next new after one t k r =
          let g = subst (λ (n : Machine). Resumes wsize n turn old next new after) k.is r in
          pairs-then h (front_of from) (front_of to) (renaming (last_of from) (last_of to)) (AnswerOk h x (ops.Rename from to)) next (pairs.pair_after k.pair turn old) new
          (g.machine_is ∙ ap machines.Name g.step.machine_is)
          (pair-then top h (front_of from) (front_of to) (AnswerOk h x (ops.Rename from to)) (rename_call (last_of from) (last_of to)) k.pair turn old next (λ f. tt) t k.story g.step.next_is)
      goes (ops.Link from to) machine wsize turn old next new after one t k r =
          let g = subst (λ (n : Machine). Resumes wsize n turn old next new after) k.is r in
          pairs-then h from (front_of to) (naming (last_of to)) (AnswerOk h x (ops.Link from to)) next (pairs.pair_after k.pair turn old) new
          (g.machine_is ∙ ap machines.Name g.step.machine_is)
          (pair-then top h from (front_of to) (AnswerOk h x (ops.Link from to)) (link_call (last_of to)) k.pair turn old next (λ f. tt) t k.story g.step.next_is)
      goes op machine wsize turn old next new after one t k r = absurd one

      -- its own call is the one that does it
      pub act-dir : (op : Op) (path : List (List ℕ)) (call : Call) (own : List ℕ → Call) (v : Visit) → VisitStory top h path v → v.asked ≡ true → OwnOr v.asked own v.walk call
          → ((d : List ℕ) → LeadsTo top h path d → Acts (given terms) h x (length h) op (own d)) → Acts (given terms) h x (length h) op call
      act-dir op path call own v s is e acts =
          subst (λ (c : Call). Acts (given terms) h x (length h) op c) (sym (subst (λ (b : Bool). OwnOr b own v.walk call) is e)) (acts v.walk.spot.dir (visit-at top h path v s is))

      pub act-pair : (op : Op) (first second : List (List ℕ)) (call : Call) (own : List ℕ → List ℕ → Call) (p : Pair) → PairStory top h first second p → p.asked ≡ true
          → PairOr p.asked p.first.asked own p call → ((c d : List ℕ) → LeadsTo top h first c → LeadsTo top h second d → Acts (given terms) h x (length h) op (own c d))
          → Acts (given terms) h x (length h) op call
      act-pair op first second call own p s is e acts =
          let at = pair-at top h first second p s is in
          subst (λ (c : Call). Acts (given terms) h x (length h) op c) (sym (subst (λ (b : Bool). PairOr b p.first.asked own p call) is e)) (acts p.first.spot.dir p.second.spot.dir at.0 at.1)

      pub place : (path : List (List ℕ)) (d : List ℕ) → IsNamed path → LeadsTo top h (front_of path) d → PlaceOf (Given top) h (length h) path d (last_of path)
      place path d named l = record { earlier = front_of path; is = front-last path named; leads = l }

      pub takes : (op : Op) (machine : Machine) (wsize : ℕ) (sent turn : Turn) (came : Result Reply Fault) (old : Shelf) (next : Step) (new : Machine) (after : Shelf) → IsOneCall op → IsAsked op
          → NamesTold h old.names → Runs h op machine → IsTold Awaits NoWait h x op machine came → Takes wsize machine sent turn came old next new after → Steps op next new
      takes (ops.Access path bits) machine wsize sent turn came old next new after one named t k told r =
          let op : Op = ops.Access path bits in
          let g = subst (λ (n : Machine). Takes wsize n sent turn came old next new after) k.is r in
          let e = subst (λ (n : Machine). Awaits n told.call) k.is told.expects in
          visits-then h path (accessing bits) (AnswerOk h x op) next g.step.visit new (g.machine_is ∙ ap machines.Name g.step.machine_is)
          (show-then h path (AnswerOk h x op) k.visit.asked (access_call bits) _ (access_told came) k.visit sent turn came old next g.step.visit after told.call (λ f. tt)
          (λ is value said. act-ok h x op machine came value told (access-ok came value said)
          (act-dir op path told.call (access_call bits) k.visit k.story is e (λ d l. asks.accesses path bits d refl l refl)))
          refl t k.story e (heard-all h x op machine came told) g.step.step)
      takes (ops.ReadLink path) machine wsize sent turn came old next new after one named t k told r =
          let op : Op = ops.ReadLink path in
          let g = subst (λ (n : Machine). Takes wsize n sent turn came old next new after) k.is r in
          let e = subst (λ (n : Machine). Awaits n told.call) k.is told.expects in
          visits-then h path reading (AnswerOk h x op) next g.step.visit new (g.machine_is ∙ ap machines.Name g.step.machine_is)
          (text-then h path (AnswerOk h x op) k.visit.asked k.visit sent turn came old next g.step.visit after told.call (λ f. tt)
          (λ is value said. act-ok h x op machine came value told said (act-dir op path told.call text_call k.visit k.story is e (λ d l. asks.reads_link path d refl l refl)))
          refl t k.story e (heard-all h x op machine came told) g.step.step)
      takes (ops.MakeDir path) machine wsize sent turn came old next new after one named t k told r =
          let op : Op = ops.MakeDir path in
          let own : List ℕ → Call = deed_call deeds.Make (last_of path) in
          let g = subst (λ (n : Machine). Takes wsize n sent turn came old next new after) k.is r in
          let e = subst (λ (n : Machine). Awaits n told.call) k.is told.expects in
          visits-then h (front_of path) (changed (last_of path) deeds.Make) (AnswerOk h x op) next g.step.visit new (g.machine_is ∙ ap machines.Name g.step.machine_is)
          (change-then h (front_of path) (AnswerOk h x op) k.visit.asked own (deed_told deeds.Make came) k.visit sent turn came old next g.step.visit after told.call (λ f. tt)
          (λ is none. act-ok h x op machine came values.Nothing told (deed-ok deeds.Make came none)
          (act-dir op (front_of path) told.call own k.visit k.story is e (λ d l. asks.makes_dir path d (last_of path) refl (place path d named l) refl)))
          refl t k.story e (heard-all h x op machine came told) g.step.step)
      takes (ops.RemoveDir path) machine wsize sent turn came old next new after one named t k told r =
          let op : Op = ops.RemoveDir path in
          let own : List ℕ → Call = deed_call deeds.Remove (last_of path) in
          let g = subst (λ (n : Machine). Takes wsize n sent turn came old next new after) k.is r in
          let e = subst (λ (n : Machine). Awaits n told.call) k.is told.expects in
          visits-then h (front_of path) (changed (last_of path) deeds.Remove) (AnswerOk h x op) next g.step.visit new (g.machine_is ∙ ap machines.Name g.step.machine_is)
          (change-then h (front_of path) (AnswerOk h x op) k.visit.asked own (deed_told deeds.Remove came) k.visit sent turn came old next g.step.visit after told.call (λ f. tt)
          (λ is none. act-ok h x op machine came values.Nothing told (deed-ok deeds.Remove came none)
          (act-dir op (front_of path) told.call own k.visit k.story is e (λ d l. asks.removes_dir path d (last_of path) refl (place path d named l) refl)))
          refl t k.story e (heard-all h x op machine came told) g.step.step)
      takes (ops.SymLink path target) machine wsize sent turn came old next new after one named t k told r =
          let op : Op = ops.SymLink path target in
          let own : List ℕ → Call = sym_link_call (last_of path) target in
          let m : SymLink = record { visit = k.visit; name = last_of path; target = target } in
          let g = subst (λ (n : Machine). Takes wsize n sent turn came old next new after) k.is r in
          let e = subst (λ (n : Machine). Awaits n told.call) k.is told.expects in
          visits-then h (front_of path) (linking (last_of path) target) (AnswerOk h x op) next g.step.visit new (g.machine_is ∙ ap machines.Name g.step.machine_is)
          (sym-then h (front_of path) (AnswerOk h x op) k.visit.asked m sent turn came old next g.step.visit after told.call (λ f. tt)
          (λ is none. act-ok h x op machine came values.Nothing told (sym-ok came none)
          (act-dir op (front_of path) told.call own k.visit k.story is e (λ d l. asks.makes_link path target d (last_of path) refl (place path d named.0 l) refl)))
          refl t k.story e (heard-all h x op machine came told) g.step.step)
      takes (ops.Rename from to) machine wsize sent turn came old next new after one named t k told r =
          let op : Op = ops.Rename from to in
          let own : List ℕ → List ℕ → Call = rename_call (last_of from) (last_of to) in
          let m : Rename = record { pair = k.pair; from = last_of from; to = last_of to } in
          let g = subst (λ (n : Machine). Takes wsize n sent turn came old next new after) k.is r in
          let e = subst (λ (n : Machine). Awaits n told.call) k.is told.expects in
          pairs-then h (front_of from) (front_of to) (renaming (last_of from) (last_of to)) (AnswerOk h x op) next g.step.pair new (g.machine_is ∙ ap machines.Name g.step.machine_is)
          (rename-then h (front_of from) (front_of to) (AnswerOk h x op) k.pair.asked m sent turn came old next g.step.pair after told.call (λ f. tt)
          (λ is none. act-ok h x op machine came values.Nothing told (moved-ok came none)
          (act-pair op (front_of from) (front_of to) told.call own k.pair k.story is e
          (λ c d l r2. asks.renames from to c (last_of from) d (last_of to) refl (place from c named.0 l) (place to d named.1 r2) refl)))
          refl t k.story e (heard-all h x op machine came told) g.step.step)
      takes (ops.Link from to) machine wsize sent turn came old next new after one named t k told r =
          let op : Op = ops.Link from to in
          let own : List ℕ → List ℕ → Call = link_call (last_of to) in
          let m : Link = record { pair = k.pair; name = last_of to } in
          let g = subst (λ (n : Machine). Takes wsize n sent turn came old next new after) k.is r in
          let e = subst (λ (n : Machine). Awaits n told.call) k.is told.expects in
          pairs-then h from (front_of to) (naming (last_of to)) (AnswerOk h x op) next g.step.pair new (g.machine_is ∙ ap machines.Name g.step.machine_is)
          (link-then h from (front_of to) (AnswerOk h x op) k.pair.asked m sent turn came old next g.step.pair after told.call (λ f. tt)
          (λ is none. act-ok h x op machine came values.Nothing told (link-ok k.pair.first.spot.dir came none)
          (act-pair op from (front_of to) told.call own k.pair k.story is e (λ c d l r2. asks.links from to c d (last_of to) refl l (place to d named r2) refl)))
          refl t k.story e (heard-all h x op machine came told) g.step.step)
      takes op machine wsize sent turn came old next new after one named t k told r = absurd one

    -- ---- one entry more

    visits-later : (h : List Entry) (e : Entry) (path : List (List ℕ)) (with_visit : Visit → NameMachine) (machine : Machine) → Visits h path with_visit machine
        → Visits (h ++ e ∷ []) path with_visit machine
    visits-later h e path with_visit machine k = record { visit = k.visit; is = k.is; story = visit-later top h e path k.visit k.story }

    pairs-later : (h : List Entry) (e : Entry) (first second : List (List ℕ)) (with_pair : Pair → NameMachine) (machine : Machine) → Pairs h first second with_pair machine
        → Pairs (h ++ e ∷ []) first second with_pair machine
    pairs-later h e first second with_pair machine k = record { pair = k.pair; is = k.is; story = pair-later top h e first second k.pair k.story }

    runs-later : (h : List Entry) (e : Entry) (op : Op) (machine : Machine) → IsOneCall op → Runs h op machine → Runs (h ++ e ∷ []) op machine
    runs-later h e (ops.Access path bits) machine one k = visits-later h e path (accessing bits) machine k
    runs-later h e (ops.ReadLink path) machine one k = visits-later h e path reading machine k
    runs-later h e (ops.MakeDir path) machine one k = visits-later h e (front_of path) (changed (last_of path) deeds.Make) machine k
    runs-later h e (ops.RemoveDir path) machine one k = visits-later h e (front_of path) (changed (last_of path) deeds.Remove) machine k
    runs-later h e (ops.SymLink path target) machine one k = visits-later h e (front_of path) (linking (last_of path) target) machine k
    runs-later h e (ops.Rename from to) machine one k = pairs-later h e (front_of from) (front_of to) (renaming (last_of from) (last_of to)) machine k
    runs-later h e (ops.Link from to) machine one k = pairs-later h e from (front_of to) (naming (last_of to)) machine k
    runs-later h e op machine one k = absurd one

    answer-later : (h : List Entry) (e : Entry) (x : ℕ) (op : Op) (answer : Answer) → IsOneCall op → (IsDelivered e → ⊥) → AnswerOk h x op answer → AnswerOk (h ++ e ∷ []) x op answer
    answer-later h e x op (answers.Refused fault) one quiet k = tt
    answer-later h e x op (answers.Done value) one quiet k =
        let more = length_last h e in
        record {
          call = k.call;
          reply = k.reply;
          acts = acts-from (given terms) h (e ∷ []) x (length h) (length (h ++ e ∷ [])) op k.call one (omega (arith, more)) refl k.acts;
          ends = ends-later h e x k.call k.reply quiet k.ends;
          went = k.went;
          gives = k.gives;
        }

    pub state-later : (h : List Entry) (e : Entry) (x : ℕ) (op : Op) (state : State) → IsOneCall op → IsQuiet state e → StateStory h x op state → StateStory (h ++ e ∷ []) x op state
    state-later h e x op (Busy machine) one quiet k = runs-later h e op machine one k
    state-later h e x op (Over answer) one quiet k = answer-later h e x op answer one quiet k

    -- of every operation
    pub for-op : (h : List Entry) (x : ℕ) (op : Op) (next : Step) (new : Machine) → (IsOneCall op → IsAsked op → Steps h x op next new)
        → ThenOf (λ m. Story h x op (Busy m)) (λ a. Story h x op (Over a)) next new
    for-op h x op (nexts.Send call) new t = t
    for-op h x op nexts.Wait new t = t
    for-op h x op (nexts.Done answer) new t = t

    pub asks-none : (h : List Entry) (x : ℕ) (op : Op) (next : Step) → AsksFor (NoWait h x op) next
    asks-none h x op (nexts.Send call) = tt
    asks-none h x op nexts.Wait = tt
    asks-none h x op (nexts.Done answer) = tt

    pub until : (before after : List Entry) (x y : ℕ) (op : Op) (value : Value) → IsOneCall op → length before ≡ y → Rooted terms.origin (before ++ after) y top
        → ActOk (given terms) before x (length before) op value → ActOk terms (before ++ after) x y op value
    until before after x y op value one there rooted k = record {
      call = k.call;
      reply = k.reply;
      acts = acts-from terms before after x (length before) y op k.call one (omega (arith, there)) rooted k.acts;
      ends = ends-until before after x y k.call k.reply there k.ends;
      went = k.went;
      gives = k.gives;
    }
