-- An open that may make its file, and a remove, are refused with NFS3ERR_NOENT only where a record refused so a call from which they don't go on: the LOOKUP of
-- a name on their way, a call that is no LOOKUP, or that of the last name, by an open that made it before and by a remove.
use Rattle.core_session.proofs.Prelude.{◌≡◌, ◌≤◌, ◌+◌, inl, inr, ℕ, Bool, true, false, List, [], ◌∷◌, ◌++◌, length, Option, Some, None, Result, Ok, Err, refl, sym, ap, subst, ◌∙◌, arith, append_assoc, if◌then◌else◌, eqb-false, cases_lt, Mode, DirKept, Answer, Fault, Entry, Began, Delivered, Call, Reply, Op, look_up, create_unchecked, Modes, Ended, RefusesSo, FirstSent-grow, Answers-grow, length_last, Says, Step, Shelf, Turn, OpeningPhase, Deed, Look, Seek, Move, Mounted, Machine, PathMachine, IsNamed, front_of, last_of, machine_of, file_of, Takes, State, Busy, Over, Setup, View, of_walk, path_by, removal_by, in_flight, Reaches, Awaits, PathOr, awaits-laws, begins-unbegun, FineAnswer, RemoveAwaits, ThenOf, AsksFor, Did, IsUnmadeFault, reached-good, Expects, expects-laws, RemoveRuns, NoCall, walk-looks, IsPiece, CallFaults, CallFits, fits-laws, CameOf, heard_of, unmade, SlotLaws, reached-answered, FineLed, FitsOpening, machine-fits, SentCall}
use Rattle.claims.specs.PageRules.{RefusedSo}
use Rattle.name_ops.specs.declared.remove_file.Deed.TheVariants.{Remove}
use Rattle.core_facts.specs.InFlight.{of_file}
use Rattle.core_facts.proofs.Telling.{IsHeardNow}
use Rattle.core_answers.proofs.asks.WalkAsks.{Looks}
use Rattle.core_answers.proofs.refusals.Answering.{IsSeen, IsToldOf}
use Rattle.core_answers.proofs.refusals.SentCalls.{sent-later}
use Rattle.nfs_types.specs.declared.mode.Mode.TheVariants as modes
use Rattle.nfs_dir_calls.specs.declared.call.DirCall.TheVariants as dirs
use Rattle.nfs_dir_calls.specs.declared.create.Making.{Making}
use Rattle.nfs_dir_calls.specs.declared.keeping.DirKept.TheVariants as kept
use Rattle.nfs_file_calls.specs.declared.call.FileCall.TheVariants as file_calls
use Rattle.world_model.specs.declared.answer.Answer.TheVariants as answers
use Rattle.world_model.specs.declared.answer.Fault.TheVariants as faults
use Rattle.world_model.specs.declared.message.Call.TheVariants as calls
use Rattle.world_model.specs.declared.message.Reply.TheVariants as replies
use Rattle.world_model.specs.declared.op.Op.TheVariants as ops
use Rattle.claims.specs.GoesOn.{MadeWithin}
use Rattle.client_shelf.specs.declared.step.Step.TheVariants as nexts
use Rattle.file_ops.specs.declared.opening.Led.TheVariants as leads
use Rattle.file_ops.specs.declared.opening.OpeningPhase.TheVariants as opening_steps
use Rattle.file_ops.specs.Opening as opening
use Rattle.file_ops.specs.Told as told
use Rattle.name_ops.specs.RemoveFile as removals
use Rattle.op_machines.specs.declared.opener.Opener.TheVariants as openers
use Rattle.core_facts.proofs.OpenPath.{OpenRuns}
use Rattle.core_answers.proofs.asks.RemoveAsks as removing
use Rattle.core_answers.proofs.asks.Sendings as plain
use Rattle.core_answers.proofs.answers.Both.{both-laws}
use Rattle.core_answers.proofs.refusals.FitAll as steps
use Rattle.core_answers.proofs.refusals.FitNames.{FitsRemoval}
use Rattle.core_answers.proofs.refusals.OpenAsking as asking
use Rattle.core_answers.proofs.refusals.Refused as refusals
use Rattle.core_answers.proofs.refusals.Replied.{Given}
use Rattle.core_session.proofs.outcomes.MadeFirst.{FoundMade, PathMade, MadeStory, made-laws}

-- ---- which operation it is

-- an open that may make the file of the path, or a remove of the path
pub data MayMissAt (op : Op) (path : List (List ℕ)) : Type 0 where
  opens : (slot : ℕ) → op ≡ ops.OpenFile slot modes.C path → MayMissAt op path
  removes : op ≡ ops.Remove path → MayMissAt op path

open-paths : (s t : ℕ) (a b : List (List ℕ)) → ops.OpenFile s modes.C a ≡ ops.OpenFile t modes.C b → a ≡ b
open-paths s t a b e = cc

remove-paths : (a b : List (List ℕ)) → ops.Remove a ≡ ops.Remove b → a ≡ b
remove-paths a b e = cc

same-path : (op : Op) (a b : List (List ℕ)) → MayMissAt op a → MayMissAt op b → a ≡ b
same-path op a b (opens s is) (opens t to) = open-paths s t a b (sym is ∙ to)
same-path op a b (removes is) (removes to) = remove-paths a b (sym is ∙ to)
same-path op a b (opens s is) (removes to) = absurd (let no_way : ops.OpenFile s modes.C a ≡ ops.Remove b = sym is ∙ to in cc)
same-path op a b (removes is) (opens t to) = absurd (let no_way : ops.Remove a ≡ ops.OpenFile t modes.C b = sym is ∙ to in cc)

-- whichever it is
record IsNone (op : Op) : Type 0 where
  none : (path : List (List ℕ)) → MayMissAt op path → IsNamed path → ⊥

other-none : (op : Op) → ((slot : ℕ) (path : List (List ℕ)) → op ≡ ops.OpenFile slot modes.C path → ⊥) → ((path : List (List ℕ)) → op ≡ ops.Remove path → ⊥) → IsNone op
other-none op a b = record { none = never }
  where
    never : (path : List (List ℕ)) → MayMissAt op path → IsNamed path → ⊥
    never path (opens slot is) named = a slot path is
    never path (removes is) named = b path is

unnamed-none : (slot : ℕ) (path : List (List ℕ)) → length path ≤ 0 → IsNone (ops.OpenFile slot modes.C path)
unnamed-none slot path few = record {
  none = λ its may named.
      let same = same-path (ops.OpenFile slot modes.C path) its path may (opens slot refl) in
      let long : length its ≡ length path = ap (λ (p : List (List ℕ)). length p) same in
      absurd (omega (arith, few, named, long));
}

which : (op : Op) (R : Type 0) → ((slot : ℕ) (path : List (List ℕ)) → op ≡ ops.OpenFile slot modes.C path → IsNamed path → R) → ((path : List (List ℕ)) → op ≡ ops.Remove path → R)
    → (IsNone op → R) → R
which (ops.OpenFile slot modes.C path) R a b c = elim (cases_lt 0 (length path)) [
  | inl some ↦ a slot path refl (omega (arith, some))
  | inr none ↦ c (unnamed-none slot path none)
]
which (ops.OpenFile slot modes.R path) R a b c = c (other-none (ops.OpenFile slot modes.R path) (λ s p is. absurd (cc)) (λ p is. absurd (cc)))
which (ops.OpenFile slot modes.W path) R a b c = c (other-none (ops.OpenFile slot modes.W path) (λ s p is. absurd (cc)) (λ p is. absurd (cc)))
which (ops.OpenFile slot modes.RW path) R a b c = c (other-none (ops.OpenFile slot modes.RW path) (λ s p is. absurd (cc)) (λ p is. absurd (cc)))
which (ops.OpenFile slot modes.X path) R a b c = c (other-none (ops.OpenFile slot modes.X path) (λ s p is. absurd (cc)) (λ p is. absurd (cc)))
which (ops.Remove path) R a b c = b path refl
which (ops.Read slot offset count) R a b c = c (other-none (ops.Read slot offset count) (λ s p is. absurd (cc)) (λ p is. absurd (cc)))
which (ops.Write slot offset bytes) R a b c = c (other-none (ops.Write slot offset bytes) (λ s p is. absurd (cc)) (λ p is. absurd (cc)))
which (ops.Fill slot offset count byte) R a b c = c (other-none (ops.Fill slot offset count byte) (λ s p is. absurd (cc)) (λ p is. absurd (cc)))
which (ops.Put path offset bytes) R a b c = c (other-none (ops.Put path offset bytes) (λ s p is. absurd (cc)) (λ p is. absurd (cc)))
which (ops.Sync slot) R a b c = c (other-none (ops.Sync slot) (λ s p is. absurd (cc)) (λ p is. absurd (cc)))
which (ops.Close slot) R a b c = c (other-none (ops.Close slot) (λ s p is. absurd (cc)) (λ p is. absurd (cc)))
which (ops.Truncate slot size) R a b c = c (other-none (ops.Truncate slot size) (λ s p is. absurd (cc)) (λ p is. absurd (cc)))
which (ops.Stat path) R a b c = c (other-none (ops.Stat path) (λ s p is. absurd (cc)) (λ p is. absurd (cc)))
which (ops.Access path bits) R a b c = c (other-none (ops.Access path bits) (λ s p is. absurd (cc)) (λ p is. absurd (cc)))
which (ops.MakeDir path) R a b c = c (other-none (ops.MakeDir path) (λ s p is. absurd (cc)) (λ p is. absurd (cc)))
which (ops.RemoveDir path) R a b c = c (other-none (ops.RemoveDir path) (λ s p is. absurd (cc)) (λ p is. absurd (cc)))
which (ops.Rename from to) R a b c = c (other-none (ops.Rename from to) (λ s p is. absurd (cc)) (λ p is. absurd (cc)))
which (ops.Link from to) R a b c = c (other-none (ops.Link from to) (λ s p is. absurd (cc)) (λ p is. absurd (cc)))
which (ops.SymLink path target) R a b c = c (other-none (ops.SymLink path target) (λ s p is. absurd (cc)) (λ p is. absurd (cc)))
which (ops.ReadLink path) R a b c = c (other-none (ops.ReadLink path) (λ s p is. absurd (cc)) (λ p is. absurd (cc)))
which (ops.List path) R a b c = c (other-none (ops.List path) (λ s p is. absurd (cc)) (λ p is. absurd (cc)))

-- ---- calls that are no LOOKUP

abbrev pub NoLookup : Call → Type 0
NoLookup call = (d name : List ℕ) → call ≡ look_up d name → ⊥

no-create : (call : Call) (dir name : List ℕ) (making : Making) → call ≡ calls.Dir (dirs.Create dir name making) → NoLookup call
no-create call dir name making is d sought e = let no_way : calls.Dir (dirs.Create dir name making) ≡ calls.Dir (dirs.Lookup d sought) = sym is ∙ e in cc

no-attr : (call : Call) (file : List ℕ) → call ≡ calls.File (file_calls.GetAttr file) → NoLookup call
no-attr call file is d sought e = let no_way : calls.File (file_calls.GetAttr file) ≡ calls.Dir (dirs.Lookup d sought) = sym is ∙ e in cc

no-rename : (call : Call) (dir name at to : List ℕ) → call ≡ calls.Dir (dirs.Rename dir name at to) → NoLookup call
no-rename call dir name at to is d sought e = let no_way : calls.Dir (dirs.Rename dir name at to) ≡ calls.Dir (dirs.Lookup d sought) = sym is ∙ e in cc

no-remove : (call : Call) (dir name : List ℕ) → call ≡ calls.Dir (dirs.Remove dir name) → NoLookup call
no-remove call dir name is d sought e = let no_way : calls.Dir (dirs.Remove dir name) ≡ calls.Dir (dirs.Lookup d sought) = sym is ∙ e in cc

module _ (m : Mounted) (setup : Setup) where
  -- Why the operation doesn't go on from the call, by what was known before the record that refused it.
  pub data Missed (h : List Entry) (x : ℕ) (op : Op) (path : List (List ℕ)) (call : Call) : Type 0 where
    on_way : Looks m.root h (front_of path) call → Missed h x op path call
    own : op ≡ ops.Remove path → (d : List ℕ) → call ≡ look_up d (last_of path) → Missed h x op path call
    made : (slot : ℕ) → op ≡ ops.OpenFile slot modes.C path → (d : List ℕ) → call ≡ look_up d (last_of path)
        → MadeWithin h x (length h) (create_unchecked d (last_of path)) → Missed h x op path call
    other : NoLookup call → Missed h x op path call

  abbrev pub Sent : List Entry → ℕ → ℕ → Op → Call → Type 0
  Sent h i x op call = SentCall (machine_of m) (begins-unbegun m) setup h i x op call

  -- A record refused so a call of the operation, from which it doesn't go on.
  pub record MissedRefusal (h : List Entry) (x y : ℕ) (op : Op) (path : List (List ℕ)) (fault : Fault) : Type 0 where
    pub call : Call
    pub refused : RefusedSo h x y call fault
    pub sent : Sent h refused.heard.sent_at x op call
    pub before : List Entry
    pub after : List Entry
    pub is : h ≡ before ++ after
    pub there : length before ≡ refused.heard.got_at
    pub why : Missed before x op path call

  -- of every fault that is NFS3ERR_NOENT
  abbrev pub Shown : List Entry → ℕ → Op → Fault → Type 0
  Shown h x op (faults.Nfs status) = (path : List (List ℕ)) → MayMissAt op path → IsNamed path → status ≡ 2 → MissedRefusal h x (length h) op path (faults.Nfs status)
  Shown h x op fault = Unit {0}

  own-fault : (h : List Entry) (x : ℕ) (op : Op) → CallFaults (Shown h x op)
  own-fault h x op = record { memory = tt }

  -- of each call that waits, what was known before the record came
  pub record Seen (h : List Entry) (x : ℕ) (op : Op) (machine : Machine) (from : ℕ) (sent : Turn) (call : Call) (shelf : Shelf) : Type 0 where
    pub base : refusals.Seen m setup h x op machine from sent call shelf
    pub before : List Entry
    pub rec : List ℕ
    pub is : h ≡ before ++ Delivered rec ∷ []
    pub runs_open : (slot : ℕ) (mode : Mode) (path : List (List ℕ)) → op ≡ ops.OpenFile slot mode path → IsNamed path → OpenRuns m.root before x path mode m.nocto machine
    pub made_it : FoundMade before x machine
    pub runs_remove : (path : List (List ℕ)) → op ≡ ops.Remove path → RemoveRuns m.root before x (front_of path) (last_of path) machine

  abbrev Calls : Machine → Call → Type 0
  Calls machine call = Expects machine call × CallFits machine call

  abbrev NoWait : List Entry → ℕ → Op → Call → Type 0
  NoWait h x op call = Unit {0}

  abbrev NoShelf : List Entry → Shelf → Type 0
  NoShelf h shelf = Unit {0}

  abbrev NoLane : List Entry → ℕ → Shelf → Type 0
  NoLane h lane shelf = Unit {0}

  abbrev AnswerStory : List Entry → ℕ → Op → Answer → Type 0
  AnswerStory h x op (answers.Done value) = Unit {0}
  AnswerStory h x op (answers.Refused fault) = Shown h x op fault

  abbrev StateStory : List Entry → ℕ → Op → State → Type 0
  StateStory h x op (Busy machine) = steps.FineMachine (Shown h x op) (own-fault h x op) machine
  StateStory h x op (Over answer) = AnswerStory h x op answer

  abbrev Story : List Entry → ℕ → Op → State → Type 0
  Story h x op state = StateStory h x op state

  asks-none : (h : List Entry) (x : ℕ) (op : Op) (next : Step) → AsksFor (NoWait h x op) next
  asks-none h x op (nexts.Send call) = tt
  asks-none h x op nexts.Wait = tt
  asks-none h x op (nexts.Done answer) = tt

  answer-story : (h : List Entry) (x : ℕ) (op : Op) (answer : Answer) → FineAnswer (Shown h x op) answer → AnswerStory h x op answer
  answer-story h x op (answers.Done value) f = tt
  answer-story h x op (answers.Refused fault) f = f

  abbrev StepsSo : List Entry → ℕ → Op → Step → Machine → Type 0
  StepsSo h x op next new = steps.MachineStep (Shown h x op) (own-fault h x op) next new

  did : (h : List Entry) (x : ℕ) (op : Op) (next : Step) (new : Machine) (after : Shelf) → StepsSo h x op next new → Did NoWait NoShelf Story h x op next new after
  did h x op next new after s = record { shelf = tt; asks = asks-none h x op next; then_ = by next s }
    where
      by : (n : Step) → StepsSo h x op n new → ThenOf (λ k. Story h x op (Busy k)) (λ a. Story h x op (Over a)) n new
      by (nexts.Send call) k = k.1
      by nexts.Wait k = k.1
      by (nexts.Done answer) k = answer-story h x op answer k.0

  -- ---- a record comes

  module _ (h : List Entry) (x : ℕ) (op : Op) (call : Call) (came : Result Reply Fault) (now : IsHeardNow h x call came)
      (read : (status : ℕ) → came ≡ Err (faults.Nfs status) → ⊥) (was : Sent h now.heard.sent_at x op call) where
    -- why P holds of the fault of a record
    abbrev Why : Type 0
    Why = (path : List (List ℕ)) → MayMissAt op path → IsNamed path → (before : List Entry) × ((after : List Entry) × (h ≡ before ++ after) × (length before ≡ now.heard.got_at) × Missed before x op path call)

    give-so : Why → (fault : Fault) → RefusesSo now.xid call now.rec fault → Shown h x op fault
    give-so why (faults.Nfs status) r = λ path may named two.
        let k = why path may named in
        record {
          call = call;
          refused = record { xid = now.xid; bytes = now.rec; heard = now.heard; refuses = r };
          sent = was;
          before = k.0;
          after = k.1.0;
          is = k.1.1;
          there = k.1.2;
          why = k.1.3;
        }
    give-so why (faults.Rpc n) r = tt
    give-so why (faults.Bad rule) r = tt
    give-so why faults.Spent r = tt
    give-so why faults.Memory r = tt
    give-so why faults.Lost r = tt
    give-so why faults.Slot r = tt
    give-so why faults.Mode r = tt
    give-so why faults.Kind r = tt
    give-so why faults.Many r = tt

    -- in place of a reply no status came
    err-so : (fault : Fault) → came ≡ Err fault → Shown h x op fault
    err-so (faults.Nfs status) is = absurd (read status is)
    err-so (faults.Rpc n) is = tt
    err-so (faults.Bad rule) is = tt
    err-so faults.Spent is = tt
    err-so faults.Memory is = tt
    err-so faults.Lost is = tt
    err-so faults.Slot is = tt
    err-so faults.Mode is = tt
    err-so faults.Kind is = tt
    err-so faults.Many is = tt

    given-so : Why → Given (Shown h x op) (own-fault h x op) now.xid now.rec call came
    given-so why = record {
      ok = λ reply is. (subst (Says now.xid call now.rec) is now.says).is;
      err = err-so;
      give = λ reply is. give-so why;
    }

    -- ---- a LOOKUP of which it goes on

    miss-dir : (reply : DirKept) → opening.is_missing (Ok (replies.Dir reply)) ≡ false → FineLed (Shown h x op) (own-fault h x op) (opening.found (told.found_by (Ok (replies.Dir reply))))
    miss-dir (kept.Lookup object attr dir) none = tt
    miss-dir (kept.LookupFail status dir) none = λ path may named two. absurd (eqb-false status.0 2 none two)
    miss-dir reply none = tt

    -- one that found a file, or was refused with another status
    found-else : (c : Result Reply Fault) → came ≡ c → opening.is_missing c ≡ false → FineLed (Shown h x op) (own-fault h x op) (opening.found (told.found_by c))
    found-else (Ok (replies.Dir reply)) is none = miss-dir reply none
    found-else (Ok (replies.File reply)) is none = tt
    found-else (Ok (replies.Mount reply)) is none = tt
    found-else (Err fault) is none = err-so fault is

    look-fits : (b : Bool) → opening.is_missing came ≡ b
        → FineLed (Shown h x op) (own-fault h x op) (if b then leads.Goes opening_steps.Make else opening.found (told.found_by came))
    look-fits true is = tt
    look-fits false is = found-else came refl is

    seek-fits : (fault : Fault) → removals.is_missing fault ≡ false → Shown h x op fault
    seek-fits (faults.Nfs status) none = λ path may named two. absurd (eqb-false status 2 none two)
    seek-fits (faults.Rpc n) none = tt
    seek-fits (faults.Bad rule) none = tt
    seek-fits faults.Spent none = tt
    seek-fits faults.Memory none = tt
    seek-fits faults.Lost none = tt
    seek-fits faults.Slot none = tt
    seek-fits faults.Mode none = tt
    seek-fits faults.Kind none = tt
    seek-fits faults.Many none = tt

  module _ (h : List Entry) (x : ℕ) (op : Op) (machine : Machine) (wsize : ℕ) (sent turn : Turn) (came : Result Reply Fault) (old : Shelf) (next : Step) (new : Machine) (after : Shelf)
      (others : ℕ) (story : steps.FineMachine (Shown h x op) (own-fault h x op) machine) (one : in_flight machine ≡ others + 1) (t : Takes wsize machine sent turn came old next new after) where
    any-step : steps.FitsMachine (Shown h x op) (own-fault h x op) sent came machine old.back → StepsSo h x op next new
    any-step n =
        steps.all-takes (Shown h x op) (own-fault h x op) machine wsize sent turn came old next new after (steps.any-ends (Shown h x op) (own-fault h x op) tt machine old) n story t

    -- it waits for such a call
    call-step : (call : Call) (xid : ℕ) (rec : List ℕ) → Calls machine call → ((reply : Reply) → came ≡ Ok reply → IsPiece sent.xid call old.back)
        → Given (Shown h x op) (own-fault h x op) xid rec call came → StepsSo h x op next new
    call-step call xid rec e piece g =
        any-step (machine-fits (Shown h x op) (own-fault h x op) xid rec call came g sent old.back piece machine e.0 e.1 (λ opener. tt) (λ lister. tt))

    module _ (k : IsToldOf Seen Calls NoWait h x op machine sent came old) where
      -- where the record was the last one
      place : length k.seen.before ≡ k.now.heard.got_at
      place =
          let end = k.now.end in
          let more = length_last k.seen.before (Delivered k.seen.rec) in
          let same : length h ≡ length (k.seen.before ++ Delivered k.seen.rec ∷ []) = ap (λ (g : List Entry). length g) k.seen.is in
          omega (arith, end, more, same)

      for-path : (path : List (List ℕ)) → MayMissAt op path → Missed k.seen.before x op path k.call → Why h x op k.call came k.now k.read k.seen.base.was
      for-path path may why its its_may named =
          (k.seen.before, (Delivered k.seen.rec ∷ [], k.seen.is, place, subst (λ (p : List (List ℕ)). Missed k.seen.before x op p k.call) (same-path op path its may its_may) why))

      told-by : Why h x op k.call came k.now k.read k.seen.base.was → StepsSo h x op next new
      told-by why = call-step k.call k.now.xid k.now.rec k.expects (λ reply is. k.seen.base.piece) (given-so h x op k.call came k.now k.read k.seen.base.was why)

      missed-by : (path : List (List ℕ)) → MayMissAt op path → Missed k.seen.before x op path k.call → StepsSo h x op next new
      missed-by path may why = told-by (for-path path may why)

      none-step : IsNone op → StepsSo h x op next new
      none-step n = told-by (λ path may named. absurd (n.none path may named))

      -- ---- an open

      open-step : (slot : ℕ) (path : List (List ℕ)) → op ≡ ops.OpenFile slot modes.C path → IsNamed path → StepsSo h x op next new
      open-step slot path is named = by c.arrived refl
        where
          c : OpenRuns m.root k.seen.before x path modes.C m.nocto machine
          c = k.seen.runs_open slot modes.C path is named

          may : MayMissAt op path
          may = opens slot is

          at : PathMachine
          at = record { walk = c.walk; opener = openers.Open c.opener; arrived = c.arrived }

          mine : PathOr c.arrived at k.call
          mine = subst (λ (n : Machine). Awaits n k.call) c.is k.expects.0.0

          some : 1 ≤ path_by c.arrived (of_walk c.walk) (of_file (file_of (openers.Open c.opener)))
          some = subst (λ (n : Machine). 1 ≤ in_flight n) c.is (omega (arith, one))

          found : PathMade k.seen.before x c.arrived (openers.Open c.opener)
          found = subst (FoundMade k.seen.before x) c.is k.seen.made_it

          walks : c.arrived ≡ false → StepsSo h x op next new
          walks on = missed-by path may (on_way
              (walk-looks m.root k.seen.before (front_of path) c.walk k.call (c.on_way on) (subst (λ (b : Bool). PathOr b at k.call) on mine)
              (subst (λ (b : Bool). 1 ≤ path_by b (of_walk c.walk) (of_file (file_of (openers.Open c.opener)))) on some)))

          awaits : c.arrived ≡ true → k.call ≡ opening.call_of c.opener.opening c.opener.opening.step
          awaits on = subst (λ (b : Bool). PathOr b at k.call) on mine

          looks : c.arrived ≡ true → c.opener.opening.step ≡ opening_steps.Look → StepsSo h x op next new
          looks on look =
              let led : FineLed (Shown h x op) (own-fault h x op) (opening.led_to modes.C opening_steps.Look came) =
              look-fits h x op k.call came k.now k.read k.seen.base.was (opening.is_missing came) refl in
              let stepped : FineLed (Shown h x op) (own-fault h x op) (opening.led_to modes.C c.opener.opening.step came) =
              subst (λ (s : OpeningPhase). FineLed (Shown h x op) (own-fault h x op) (opening.led_to modes.C s came)) (sym look) led in
              let fits : FitsOpening (Shown h x op) (own-fault h x op) c.opener.opening came =
              subst (λ (n : Mode). FineLed (Shown h x op) (own-fault h x op) (opening.led_to n c.opener.opening.step came)) (sym c.mode_is) stepped in
              any-step (subst (λ (n : Machine). steps.FitsMachine (Shown h x op) (own-fault h x op) sent came n old.back) (sym c.is)
              (subst (λ (b : Bool). steps.FitsPath (Shown h x op) (own-fault h x op) b sent came at old.back) (sym on) fits))

          step : c.arrived ≡ true → (s : OpeningPhase) → c.opener.opening.step ≡ s → StepsSo h x op next new
          step on opening_steps.Look to = looks on to
          step on opening_steps.Make to =
              missed-by path may (other (no-create k.call c.opener.opening.dir c.opener.opening.name (opening.making_of c.opener.opening.mode)
              (awaits on ∙ ap (opening.call_of c.opener.opening) to)))
          step on opening_steps.Find to =
              let had = subst (λ (b : Bool). PathMade k.seen.before x b (openers.Open c.opener)) on found in
              missed-by path may (made slot is c.opener.opening.dir (awaits on ∙ ap (opening.call_of c.opener.opening) to ∙ ap (look_up c.opener.opening.dir) c.name_is)
              (subst (λ (n : List ℕ). MadeWithin k.seen.before x (length k.seen.before) (create_unchecked c.opener.opening.dir n)) c.name_is (had c.mode_is to)))
          step on (opening_steps.Ask file) to = missed-by path may (other (no-attr k.call file (awaits on ∙ ap (opening.call_of c.opener.opening) to)))

          by : (b : Bool) → c.arrived ≡ b → StepsSo h x op next new
          by true on = step on c.opener.opening.step refl
          by false on = walks on

      -- ---- a remove

      remove-step : (path : List (List ℕ)) → op ≡ ops.Remove path → StepsSo h x op next new
      remove-step path is = by c.m.deed refl
        where
          c : RemoveRuns m.root k.seen.before x (front_of path) (last_of path) machine
          c = k.seen.runs_remove path is

          may : MayMissAt op path
          may = removes is

          mine : RemoveAwaits c.m.deed c.m k.call
          mine = (subst (λ (n : Machine). Expects n k.call) c.is k.expects.0).0

          some : 1 ≤ removal_by c.m.deed c.m.asked (of_walk c.m.walk)
          some = subst (λ (n : Machine). 1 ≤ in_flight n) c.is (omega (arith, one))

          awaits : (o : Option Deed) → c.m.deed ≡ o → RemoveAwaits o c.m k.call
          awaits o to = subst (λ (p : Option Deed). RemoveAwaits p c.m k.call) to mine

          seeks : (file to : List ℕ) → c.m.deed ≡ Some (Seek file to) → StepsSo h x op next new
          seeks file to at =
              let fits : FitsRemoval (Shown h x op) (own-fault h x op) (Some (Seek file to)) c.m came =
              λ asked fault told_so none. seek-fits h x op k.call came k.now k.read k.seen.base.was fault none in
              any-step (subst (λ (n : Machine). steps.FitsMachine (Shown h x op) (own-fault h x op) sent came n old.back) (sym c.is)
              (subst (λ (o : Option Deed). FitsRemoval (Shown h x op) (own-fault h x op) o c.m came) (sym at) fits))

          does : (deed : Deed) → c.m.deed ≡ Some deed → k.call ≡ removals.call_of c.m deed → StepsSo h x op next new
          does Look at call_is = missed-by path may (own is c.m.walk.spot.dir (call_is ∙ ap (look_up c.m.walk.spot.dir) c.story.name_is))
          does (Seek file to) at call_is = seeks file to at
          does (Move file to) at call_is = missed-by path may (other (no-rename k.call c.m.walk.spot.dir c.m.name c.m.walk.spot.dir to call_is))
          does Remove at call_is = missed-by path may (other (no-remove k.call c.m.walk.spot.dir c.m.name call_is))

          by : (o : Option Deed) → c.m.deed ≡ o → StepsSo h x op next new
          by None at = missed-by path may (on_way (walk-looks m.root k.seen.before (front_of path) c.m.walk k.call c.story.walk (awaits None at)
              (subst (λ (o : Option Deed). 1 ≤ removal_by o c.m.asked (of_walk c.m.walk)) at some)))
          by (Some deed) at = does deed at (awaits (Some deed) at)

      told-step : StepsSo h x op next new
      told-step = which op (StepsSo h x op next new) open-step remove-step none-step

    one-fault : (a b : Fault) → ◌≡◌ {A = Result Reply Fault} (Err a) (Err b) → a ≡ b
    one-fault a b e = cc

    unmade-shown : (fault : Fault) → IsUnmadeFault fault → Shown h x op fault
    unmade-shown faults.Spent u = tt
    unmade-shown faults.Memory u = tt
    unmade-shown faults.Lost u = tt
    unmade-shown (faults.Nfs status) u = absurd u
    unmade-shown (faults.Rpc n) u = tt
    unmade-shown (faults.Bad rule) u = tt
    unmade-shown faults.Slot u = tt
    unmade-shown faults.Mode u = tt
    unmade-shown faults.Kind u = tt
    unmade-shown faults.Many u = tt

    took-step : CameOf Seen Calls NoWait h x op machine sent came old → StepsSo h x op next new
    took-step (heard_of k) = told-step k
    took-step (unmade call e fault is u) = call-step call 0 [] e (λ reply ok. absurd (let no_way : ◌≡◌ {A = Result Reply Fault} (Err fault) (Ok reply) = sym is ∙ ok in cc)) (record {
      ok = λ reply ok. absurd (let no_way : ◌≡◌ {A = Result Reply Fault} (Err fault) (Ok reply) = sym is ∙ ok in cc);
      err = λ came_so same. let this : fault ≡ came_so = one-fault fault came_so (sym is ∙ same) in subst (Shown h x op) this (unmade-shown fault u);
      give = λ reply ok. absurd (let no_way : ◌≡◌ {A = Result Reply Fault} (Err fault) (Ok reply) = sym is ∙ ok in cc);
    })

  -- ---- a longer history

  pub missed-later : (h more : List Entry) (x y z : ℕ) (op : Op) (path : List (List ℕ)) (fault : Fault) → y ≤ z → MissedRefusal h x y op path fault → MissedRefusal (h ++ more) x z op path fault
  missed-later h more x y z op path fault wide s =
      let d = s.refused.heard in
      record {
        call = s.call;
        refused = record {
          xid = s.refused.xid;
          bytes = s.refused.bytes;
          heard = record {
            sent_at = d.sent_at;
            record_sent = d.record_sent;
            got_at = d.got_at;
            sent = FirstSent-grow h more d.sent_at s.refused.xid d.record_sent d.sent;
            spells = d.spells;
            got = Answers-grow h more d.got_at s.refused.xid s.refused.bytes d.got;
            after = d.after;
            later = d.later;
            before = let low = d.before in omega (arith, low, wide);
          };
          refuses = s.refused.refuses;
        };
        sent = sent-later (machine_of m) (begins-unbegun m) setup h more d.sent_at x op s.call s.sent;
        before = s.before;
        after = s.after ++ more;
        is = ap (λ (k : List Entry). k ++ more) s.is ∙ append_assoc s.before s.after more;
        there = s.there;
        why = s.why;
      }

  shown-later : (h : List Entry) (e : Entry) (x : ℕ) (op : Op) (fault : Fault) → Shown h x op fault → Shown (h ++ e ∷ []) x op fault
  shown-later h e x op (faults.Nfs status) s = λ path may named two.
      let more = length_last h e in
      missed-later h (e ∷ []) x (length h) (length (h ++ e ∷ [])) op path (faults.Nfs status) (omega (arith, more)) (s path may named two)
  shown-later h e x op (faults.Rpc n) s = tt
  shown-later h e x op (faults.Bad rule) s = tt
  shown-later h e x op faults.Spent s = tt
  shown-later h e x op faults.Memory s = tt
  shown-later h e x op faults.Lost s = tt
  shown-later h e x op faults.Slot s = tt
  shown-later h e x op faults.Mode s = tt
  shown-later h e x op faults.Kind s = tt
  shown-later h e x op faults.Many s = tt

  state-later : (h : List Entry) (e : Entry) (x : ℕ) (op : Op) (state : State) → StateStory h x op state → StateStory (h ++ e ∷ []) x op state
  state-later h e x op (Busy machine) s =
      steps.fine-more (Shown h x op) (own-fault h x op) (Shown (h ++ e ∷ []) x op) (own-fault (h ++ e ∷ []) x op) (shown-later h e x op) machine s
  state-later h e x op (Over (answers.Done value)) s = tt
  state-later h e x op (Over (answers.Refused fault)) s = shown-later h e x op fault s

  missing-laws : SlotLaws NoLane Seen (machine_of m) setup Calls NoWait NoShelf Story
  missing-laws = record {
    fresh = λ h v up fresh. tt;
    starts = λ h lane line op wsize turn old next new after given kept_up s.
        let later = h ++ Began lane line op ∷ [] in
        did later (length h) op next new after (steps.all-starts (Shown later (length h) op) (own-fault later (length h) op) (machine_of m lane op) wsize turn old next new after
        (steps.any-begins (Shown later (length h) op) (own-fault later (length h) op) tt tt (machine_of m lane op) old)
        (steps.begins-fine (Shown later (length h) op) (own-fault later (length h) op) m lane op) s);
    resumes = λ h x op machine wsize turn old next new after kept_up story r.
        did h x op next new after (steps.all-resumes (Shown h x op) (own-fault h x op) machine wsize turn old next new after story r);
    takes = λ h x op machine wsize sent turn came old next new after others kept_up story one k t.
        did h x op next new after (took-step h x op machine wsize sent turn came old next new after others story one t k);
    still = λ h e shelf kept_up. tt;
    waits = λ h e x op call w. tt;
    grows = λ h e x op state quiet story. state-later h e x op state story;
    lost = λ h x op shown. tt;
  }

  -- ---- of each call that waits

  sees : (modes : Modes) → m.nocto ≡ modes.nocto → IsSeen (machine_of m) setup Seen
  sees modes same h v r found may xid w waits it_made at machine there x op u from o rec = record {
    base = refusals.sees m setup modes same h v r found may xid w waits it_made at machine there x op u from o rec;
    before = h;
    rec = rec;
    is = refl;
    runs_open = λ slot mode path is named.
        ((reached-good (machine_of m) (begins-unbegun m) setup Awaits awaits-laws (asking.Caused m) (asking.Shelved m) (asking.Story m) (asking.open-laws m setup) h v r).each at
        (record { number = w.purpose.lane; state = Busy machine }) there).1 x op u slot mode path is named;
    made_it =
        ((reached-good (machine_of m) (begins-unbegun m) setup Awaits awaits-laws NoCall plain.NoShelf MadeStory (made-laws m setup) h v r).each at
        (record { number = w.purpose.lane; state = Busy machine }) there).1 x op u;
    runs_remove = λ path is.
        ((reached-good (machine_of m) (begins-unbegun m) setup Expects expects-laws NoCall (removing.Shelved m) (removing.RemoveStory m) (removing.remove-laws m setup) h v r).each at
        (record { number = w.purpose.lane; state = Busy machine }) there).1 x op u path is;
  }

  -- ---- answers

  -- what was known as the operation was answered with NFS3ERR_NOENT
  pub missed-refused : (modes : Modes) → m.nocto ≡ modes.nocto → (h : List Entry) (v : View) → Reaches (machine_of m) setup h v → (lane x : ℕ) (op : Op) (y : ℕ) (path : List (List ℕ))
      → MayMissAt op path → IsNamed path → Ended h lane x op y (answers.Refused (faults.Nfs 2)) → MissedRefusal h x y op path (faults.Nfs 2)
  missed-refused modes same h v r lane x op y path may named ended =
      let s = reached-answered (machine_of m) (begins-unbegun m) setup NoLane (λ k w q found number idle. tt) Seen (sees modes same) Calls (both-laws Expects CallFits expects-laws fits-laws) NoWait
      NoShelf Story missing-laws h v r lane x op y (answers.Refused (faults.Nfs 2)) ended in
      let there = s.there in
      subst (λ (k : List Entry). MissedRefusal k x y op path (faults.Nfs 2)) (sym s.is)
      (missed-later s.before s.after x (length s.before) y op path (faults.Nfs 2) (omega (arith, there)) (s.story path may named refl))
