-- How a remove goes well: what its path leads to, and, of a file that it hides, that a slot held it and that nothing had its new name.
use Rattle.core_session.proofs.Prelude.{◌≡◌, ◌≤◌, ℕ, List, [], ◌∷◌, ◌++◌, length, Option, Some, Result, Ok, Err, refl, sym, ap, subst, ◌∙◌, arith, Answer, Fault, Value, Entry, Began, Delivered, Call, Reply, Op, HeldOpen, look_up, status_of, EndsWith, Terms, IsDelivered, Asked-grow, Asked-wide, length_last, Step, Shelf, Turn, Deed, Look, Seek, Move, RemoveFile, Mounted, Machine, front_of, last_of, machine_of, Starts, Resumes, Takes, State, Busy, Over, Setup, LeadsTo, leads-later, end-leads, RemoveAwaits, ends-later, IsQuiet, Did, TaleLaws, Expects, RemoveRuns, NoCall, CameOf, heard_of, unmade, SlotLaws}
use Rattle.name_ops.specs.declared.remove_file.Deed.TheVariants.{Remove}
use Rattle.core_answers.proofs.asks.RemoveSteps.{IsFound, IsFree, IsFineOf, HasDeed}
use Rattle.core_answers.proofs.refusals.Answering.{IsSeen}
use Rattle.nfs_dir_calls.specs.declared.call.DirCall.TheVariants as dirs
use Rattle.world_model.specs.declared.answer.Answer.TheVariants as answers
use Rattle.world_model.specs.declared.message.Call.TheVariants as calls
use Rattle.world_model.specs.declared.op.Op.TheVariants as ops
use Rattle.claims.specs.Hidden.{IsHidden}
use Rattle.claims.specs.OkRows.{value_of}
use Rattle.nfs_dir_calls.specs.declared.keeping.DirKept.TheVariants as kept
use Rattle.world_model.specs.declared.message.Reply.TheVariants as replies
use Rattle.client_shelf.specs.declared.step.Step.TheVariants as nexts
use Rattle.name_ops.specs.Moving.{move_call}
use Rattle.name_ops.specs.RemoveFile as removals
use Rattle.core_answers.proofs.asks.RemoveAsks.{RemoveStory, Shelved, remove-laws}
use Rattle.core_session.proofs.calls.Hiding.{Hides, SomeHides, DeedHides, hides-map}
use Rattle.core_session.proofs.calls.HidingHeld.{open-grow, hiding-held}
use Rattle.core_session.proofs.outcomes.RemoveEnds.{IsUnwell, remove-goes-unwell, DoesIt, EndsWell, remove-takes-well}
use Rattle.core_session.proofs.outcomes.Telling.{replied, told-so}

-- ---- a longer history

found-later : (h : List Entry) (e : Entry) (x : ℕ) (d name file : List ℕ) → IsFound h x d name file → IsFound (h ++ e ∷ []) x d name file
found-later h e x d name file k =
    let more = length_last h e in
    record {
      attr = k.attr;
      dir = k.dir;
      asked = Asked-wide (h ++ e ∷ []) x (length h) x (length (h ++ e ∷ [])) (look_up d name) (replies.Dir (kept.Lookup file k.attr k.dir)) (omega arith) (omega (arith, more))
          (Asked-grow h (e ∷ []) x (length h) (look_up d name) (replies.Dir (kept.Lookup file k.attr k.dir)) k.asked);
    }

free-later : (h : List Entry) (e : Entry) (x : ℕ) (d name : List ℕ) → IsFree h x d name → IsFree (h ++ e ∷ []) x d name
free-later h e x d name k =
    let more = length_last h e in
    record {
      reply = k.reply;
      asked = Asked-wide (h ++ e ∷ []) x (length h) x (length (h ++ e ∷ [])) (look_up d name) k.reply (omega arith) (omega (arith, more))
          (Asked-grow h (e ∷ []) x (length h) (look_up d name) k.reply k.asked);
      none = k.none;
    }

pub open-wide : (terms : Terms) (h : List Entry) (x n to : ℕ) (f : List ℕ) → n ≤ to → HeldOpen terms h x n f → HeldOpen terms h x to f
open-wide terms h x n to f wide k = record {
  lane = k.lane;
  slot = k.slot;
  open_at = k.open_at;
  n = k.n;
  moment = record { late = k.moment.late; soon = let soon = k.moment.soon in omega (arith, soon, wide) };
  holds = k.holds;
}

open-later : (terms : Terms) (h : List Entry) (e : Entry) (x : ℕ) (f : List ℕ) → HeldOpen terms h x (length h) f → HeldOpen terms (h ++ e ∷ []) x (length (h ++ e ∷ [])) f
open-later terms h e x f k =
    let more = length_last h e in
    open-wide terms (h ++ e ∷ []) x (length h) (length (h ++ e ∷ [])) f (omega (arith, more)) (open-grow terms h (e ∷ []) x (length h) f (omega arith) k)

module _ (m : Mounted) (terms : Terms) where
  -- The call that does it: REMOVE of the last name, or RENAME of it to a hidden one.
  pub data Does (h : List Entry) (x : ℕ) (path : List (List ℕ)) (call : Call) : Type 0 where
    removed : (d : List ℕ) → LeadsTo m.root h (front_of path) d → call ≡ calls.Dir (dirs.Remove d (last_of path)) → Does h x path call
    hidden : (d name file : List ℕ) → LeadsTo m.root h (front_of path) d → IsHidden name → IsFound h x d (last_of path) file → IsFree h x d name
        → HeldOpen terms h x (length h) file → call ≡ move_call d (last_of path) d name → Does h x path call

  pub record WentWell (h : List Entry) (x : ℕ) (path : List (List ℕ)) (value : Value) : Type 0 where
    pub call : Call
    pub reply : Reply
    pub does : Does h x path call
    pub ends : EndsWith h x (length h) call reply
    pub went : status_of reply ≡ 0
    pub gives : value ≡ value_of reply

  does-later : (h : List Entry) (e : Entry) (x : ℕ) (path : List (List ℕ)) (call : Call) → Does h x path call → Does (h ++ e ∷ []) x path call
  does-later h e x path call (removed d leads is) = removed d (leads-later m.root h e (front_of path) d leads) is
  does-later h e x path call (hidden d name file leads so found free held is) =
      hidden d name file (leads-later m.root h e (front_of path) d leads) so (found-later h e x d (last_of path) file found) (free-later h e x d name free) (open-later terms h e x file held) is

  well-later : (h : List Entry) (e : Entry) (x : ℕ) (path : List (List ℕ)) (value : Value) → (IsDelivered e → ⊥) → WentWell h x path value → WentWell (h ++ e ∷ []) x path value
  well-later h e x path value quiet k = record {
    call = k.call;
    reply = k.reply;
    does = does-later h e x path k.call k.does;
    ends = ends-later h e x k.call k.reply quiet k.ends;
    went = k.went;
    gives = k.gives;
  }

  -- ---- the story

  abbrev AnswerStory : List Entry → ℕ → List (List ℕ) → Answer → Type 0
  AnswerStory h x path (answers.Done value) = WentWell h x path value
  AnswerStory h x path (answers.Refused fault) = Unit {0}

  abbrev OverStory : List Entry → ℕ → Op → Answer → Type 0
  OverStory h x op answer = (path : List (List ℕ)) → op ≡ ops.Remove path → AnswerStory h x path answer

  abbrev pub Story : List Entry → ℕ → Op → State → Type 0
  Story h x op (Busy machine) = RemoveStory m h x op (Busy machine)
  Story h x op (Over answer) = OverStory h x op answer

  abbrev DidOld : List Entry → ℕ → Op → Step → Machine → Shelf → Type 0
  DidOld h x op next new after = Did NoCall (Shelved m) (RemoveStory m) h x op next new after

  abbrev DidSo : List Entry → ℕ → Op → Step → Machine → Shelf → Type 0
  DidSo h x op next new after = Did NoCall (Shelved m) Story h x op next new after

  did-so : (h : List Entry) (x : ℕ) (op : Op) (next : Step) (new : Machine) (after : Shelf) → DidOld h x op next new after
      → ((answer : Answer) → next ≡ nexts.Done answer → OverStory h x op answer) → DidSo h x op next new after
  did-so h x op (nexts.Send call) new after d over = record { shelf = d.shelf; asks = d.asks; then_ = d.then_ }
  did-so h x op nexts.Wait new after d over = record { shelf = d.shelf; asks = d.asks; then_ = d.then_ }
  did-so h x op (nexts.Done answer) new after d over = record { shelf = d.shelf; asks = d.asks; then_ = over answer refl }

  never-well : (h : List Entry) (x : ℕ) (path : List (List ℕ)) (next : Step) (answer : Answer) → IsUnwell next → next ≡ nexts.Done answer → AnswerStory h x path answer
  never-well h x path next (answers.Done value) unwell is = absurd (unwell value is)
  never-well h x path next (answers.Refused fault) unwell is = tt

  -- of each call that waits: a slot held the file that is to be hidden
  abbrev pub Seen : List Entry → ℕ → Op → Machine → ℕ → Turn → Call → Shelf → Type 0
  Seen h x op machine from sent call shelf = Hides (λ f. HeldOpen terms h x (length h) f) machine

  -- its last reply
  does-it : (h : List Entry) (x : ℕ) (path : List (List ℕ)) (r : RemoveFile) (deed : Deed) (call : Call) → r.name ≡ last_of path → LeadsTo m.root h (front_of path) r.walk.spot.dir
      → IsFineOf h x (last_of path) r.walk.spot.dir deed → DeedHides (λ f. HeldOpen terms h x (length h) f) deed → DoesIt deed → call ≡ removals.call_of r deed → Does h x path call
  does-it h x path r Look call named leads fine held it is = absurd it
  does-it h x path r (Seek file to) call named leads fine held it is = absurd it
  does-it h x path r (Move file to) call named leads fine held it is =
      hidden r.walk.spot.dir to file leads fine.0 fine.1 fine.2 held (is ∙ ap (λ (n : List ℕ). move_call r.walk.spot.dir n r.walk.spot.dir to) named)
  does-it h x path r Remove call named leads fine held it is =
      removed r.walk.spot.dir leads (is ∙ ap (λ (n : List ℕ). calls.Dir (dirs.Remove r.walk.spot.dir n)) named)

  ends-so : (h : List Entry) (x : ℕ) (op : Op) (path : List (List ℕ)) (machine : Machine) (sent : Turn) (came : Result Reply Fault) (shelf : Shelf) (value : Value)
      → (k : RemoveRuns m.root h x (front_of path) (last_of path) machine) → EndsWell k.m came value → CameOf Seen Expects NoCall h x op machine sent came shelf → WentWell h x path value
  ends-so h x op path machine sent came shelf value k w (unmade call e fault is u) =
      absurd (let no_way : ◌≡◌ {A = Result Reply Fault} (Err fault) (Ok w.well.ok.reply) = sym is ∙ w.well.ok.is in cc)
  ends-so h x op path machine sent came shelf value k w (heard_of s) = record {
    call = s.call;
    reply = w.well.ok.reply;
    does = does-it h x path k.m w.deed s.call k.story.name_is (end-leads m.root h (front_of path) k.m.walk k.story.walk has.1) has.0 held w.well.does awaits;
    ends = (replied h x s.call came s.now w.well.ok.reply w.well.ok.is).ends;
    went = w.well.ok.went;
    gives = w.well.gives ∙ w.well.ok.gives;
  }
    where
      has : HasDeed m.root h x (front_of path) (last_of path) (Some w.deed) k.m.walk
      has = subst (λ (o : Option Deed). HasDeed m.root h x (front_of path) (last_of path) o k.m.walk) w.is k.story.deed

      seen : SomeHides (λ f. HeldOpen terms h x (length h) f) k.m.deed
      seen = subst (Hides (λ f. HeldOpen terms h x (length h) f)) k.is s.seen

      held : DeedHides (λ f. HeldOpen terms h x (length h) f) w.deed
      held = subst (SomeHides (λ f. HeldOpen terms h x (length h) f)) w.is seen

      awaits : RemoveAwaits (Some w.deed) k.m s.call
      awaits = subst (λ (o : Option Deed). RemoveAwaits o k.m s.call) w.is (subst (λ (n : Machine). Expects n s.call) k.is s.expects).0

  over-after : (h : List Entry) (x : ℕ) (op : Op) (path : List (List ℕ)) (machine : Machine) (wsize : ℕ) (sent turn : Turn) (came : Result Reply Fault) (old : Shelf) (next : Step)
      (new : Machine) (after : Shelf) (answer : Answer) → RemoveRuns m.root h x (front_of path) (last_of path) machine → CameOf Seen Expects NoCall h x op machine sent came old
      → Takes wsize machine sent turn came old next new after → next ≡ nexts.Done answer → AnswerStory h x path answer
  over-after h x op path machine wsize sent turn came old next new after (answers.Refused fault) k told t is = tt
  over-after h x op path machine wsize sent turn came old next new after (answers.Done value) k told t is =
      let g = subst (λ (n : Machine). Takes wsize n sent turn came old next new after) k.is t in
      ends-so h x op path machine sent came old value k (remove-takes-well k.m sent turn came old next g.machine after value g.step is) told

  over-later : (h : List Entry) (e : Entry) (x : ℕ) (op : Op) (answer : Answer) → (IsDelivered e → ⊥) → OverStory h x op answer
      → OverStory (h ++ e ∷ []) x op answer
  over-later h e x op (answers.Done value) quiet k path is = well-later h e x path value quiet (k path is)
  over-later h e x op (answers.Refused fault) quiet k path is = tt

  module _ (setup : Setup) where
    base : TaleLaws (machine_of m) setup Expects NoCall (Shelved m) (RemoveStory m)
    base = remove-laws m setup

    abbrev pub NoLane : List Entry → ℕ → Shelf → Type 0
    NoLane h lane shelf = Unit {0}

    grows-so : (h : List Entry) (e : Entry) (x : ℕ) (op : Op) (state : State) → IsQuiet state e → Story h x op state → Story (h ++ e ∷ []) x op state
    grows-so h e x op (Busy machine) quiet story = base.grows h e x op (Busy machine) quiet story
    grows-so h e x op (Over answer) quiet story = over-later h e x op answer quiet story

    pub well-laws : SlotLaws NoLane Seen (machine_of m) setup Expects NoCall (Shelved m) Story
    well-laws = record {
      fresh = base.fresh;
      starts = λ h lane line op wsize turn old next new after given kept s.
          let later = h ++ Began lane line op ∷ [] in
          did-so later (length h) op next new after (base.starts h lane line op wsize turn old next new after kept s)
          (λ answer done path is.
          let k = subst (λ (o : Op). Starts wsize (machine_of m lane o) turn old next new after) is s in
          never-well later (length h) path next answer (remove-goes-unwell _ turn old next k.machine after k.step) done);
      resumes = λ h x op machine wsize turn old next new after kept story r.
          did-so h x op next new after (base.resumes h x op machine wsize turn old next new after kept story r)
          (λ answer done path is.
          let k = story path is in
          let g = subst (λ (n : Machine). Resumes wsize n turn old next new after) k.is r in
          never-well h x path next answer (remove-goes-unwell k.m turn old next g.machine after g.step) done);
      takes = λ h x op machine wsize sent turn came old next new after others kept story one told t.
          did-so h x op next new after
          (base.takes h x op machine wsize sent turn came old next new after others kept story one (told-so Seen Expects NoCall h x op machine sent came old (λ call e. tt) told) t)
          (λ answer done path is. over-after h x op path machine wsize sent turn came old next new after answer (story path is) told t done);
      still = base.still;
      waits = base.waits;
      grows = grows-so;
      lost = λ h x op shown path is. tt;
    }

    pub sees : m.nocto ≡ terms.modes.nocto → IsSeen (machine_of m) setup Seen
    sees same h v r found may xid w waits made at machine there x op u from o rec =
        hides-map (λ f. HeldOpen terms h x (length h) f) (λ f. HeldOpen terms (h ++ Delivered rec ∷ []) x (length (h ++ Delivered rec ∷ [])) f)
        (λ f k. open-later terms h (Delivered rec) x f k) machine
        (hiding-held m terms same setup h v r found at (record { number = w.purpose.lane; state = Busy machine }) there x op u)
