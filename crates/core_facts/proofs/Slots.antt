-- The table of opens says of each slot of an idle lane what the history shows; of a lane with an operation under way, but for the slot that
-- this opens or closes.
use Rattle.core_facts.proofs.Prelude.{◌≡◌, ◌≢◌, inl, inr, ℕ, List, [], ◌∷◌, ◌++◌, length, Bool, true, false, nat_eq, Option, Some, None, Result, Ok, refl, sym, ap, subst, ◌∙◌, arith, Err, ◌≤◌, ◌+◌, eqb-true, eqb-false, Mode, DirKept, FileKept, Opened, Place, Opens, Answer, Fault, Value, Entry, Answered, Delivered, Call, Reply, Op, Modes, Ended, EndsWith, UnderWay, length_last, Step, Send, Wait, Done, Shelf, Turn, OpenFile, CloseFile, Closing, Machine, Opener, file_of, slot_taken, Starts, Resumes, Takes, State, Busy, Over}
use Rattle.std.proofs.Common.{is_some}
use Rattle.std.specs.FinMap as finite
use Rattle.nfs_dir_calls.specs.declared.keeping.DirKept.TheVariants as found
use Rattle.nfs_file_calls.specs.declared.owned.FileKept.TheVariants as kept
use Rattle.open_files.proofs.Laws.{get-put_same, get-put_other}
use Rattle.world_model.specs.declared.answer.Answer.TheVariants as answers
use Rattle.world_model.specs.declared.answer.Fault.TheVariants as faults
use Rattle.world_model.specs.declared.message.Reply.TheVariants as replies
use Rattle.world_model.specs.declared.op.Op.TheVariants as ops
use Rattle.claims.specs.Slots.{Finds, asked, looked_up, made}
use Rattle.file_ops.specs.declared.close_file.Closing.TheVariants as closings
use Rattle.op_machines.specs.declared.file_machine.FileMachine.TheVariants as files
use Rattle.op_machines.specs.declared.machine.Machine.TheVariants as machines
use Rattle.core_facts.proofs.CloseSlots.{ClosingHas, CloseSteps, close-starts, close-resumes, close-takes}
use Rattle.core_facts.proofs.Expecting.{Expects}
use Rattle.core_facts.proofs.OpenSlots.{IsPlain, Leaves, plain-starts, plain-resumes, plain-takes, IsAt, IsOpener, IsRefusal, opener-taken, FindsBy, by_attrs, by_lookup, by_create, OpenTook, table_stays, puts_open, opener-starts, opener-resumes, opener-takes}
use Rattle.core_facts.proofs.SlotGrowth.{ended-now, finds-grow, finds-stays, IsHeld, held-grow, held-earlier, held-closed, held-now, Agrees, tells-nothing, shown-later, none-later, agrees-later}
use Rattle.core_facts.proofs.Steps.{ThenOf}
use Rattle.core_facts.proofs.AllFaults as laws
use Rattle.core_facts.proofs.Faults.{IsOuter, OwnFaults, OfReply, Came, FineResult, FineAnswer, FineNext}

-- ---- what is known of the slots of a lane

abbrev pub SlotsAgree : Modes → List Entry → ℕ → Opens → Type 0
SlotsAgree m h n opens = (s : ℕ) → Agrees m h n s (finite.get opens (n, s))

abbrev pub OthersAgree : Modes → List Entry → ℕ → ℕ → Opens → Type 0
OthersAgree m h n slot opens = (s : ℕ) → s ≢ slot → Agrees m h n s (finite.get opens (n, s))

-- which slot an operation opens or closes
pub data Kind : Type 0 where
  opening : (slot : ℕ) (mode : Mode) → Kind
  closing : (slot : ℕ) → Kind
  plainly : Kind

abbrev pub kind_of : Op → Kind
kind_of (ops.OpenFile slot mode path) = opening slot mode
kind_of (ops.Close slot) = closing slot
kind_of op = plainly

-- an open that went well, which wasn't noted yet
pub record OpenedNow (m : Modes) (h : List Entry) (n slot : ℕ) (mode : Mode) (opens : Opens) : Type 0 where
  pub o : Opened
  pub there : finite.get opens (n, slot) ≡ Some o
  pub mode_is : o.mode ≡ mode
  pub finds : Finds m h (length h) o.file
  pub none : Agrees m h n slot None
  pub others : OthersAgree m h n slot opens

-- the slot held an open as the operation at the place x began
pub record WasTaken (m : Modes) (h : List Entry) (x n slot : ℕ) : Type 0 where
  pub within : x ≤ length h
  pub f : List ℕ
  pub mode : Mode
  pub held : IsHeld m h x n slot f mode

-- an open is refused for its slot only so
abbrev pub IsPlaced : Modes → List Entry → ℕ → ℕ → ℕ → Fault → Type 0
IsPlaced m h x n slot fault = fault ≡ faults.Slot → WasTaken m h x n slot

abbrev pub OpenOver : Modes → List Entry → ℕ → ℕ → ℕ → Mode → Answer → Opens → Type 0
OpenOver m h x n slot mode (answers.Done value) opens = OpenedNow m h n slot mode opens
OpenOver m h x n slot mode (answers.Refused fault) opens = SlotsAgree m h n opens × IsPlaced m h x n slot fault

-- an open under way, whose slot is free
pub record OpeningNow (m : Modes) (h : List Entry) (n slot : ℕ) (mode : Mode) (machine : Machine) (opens : Opens) : Type 0 where
  pub opener : IsOpener m.nocto n slot mode machine
  pub free : finite.get opens (n, slot) ≡ None
  pub agree : SlotsAgree m h n opens

pub record ClosingNow (m : Modes) (h : List Entry) (n slot : ℕ) (machine : Machine) (opens : Opens) : Type 0 where
  pub c : CloseFile
  pub is : machine ≡ machines.File (files.Close c)
  pub lane_is : c.lane ≡ n
  pub slot_is : c.slot ≡ slot
  pub has : ClosingHas (Agrees m h n slot) c.state (finite.get opens (n, slot))
  pub others : OthersAgree m h n slot opens

pub record ClosedNow (m : Modes) (h : List Entry) (n slot : ℕ) (opens : Opens) : Type 0 where
  pub none : finite.get opens (n, slot) ≡ None
  pub others : OthersAgree m h n slot opens

abbrev pub StoryOf : Modes → List Entry → ℕ → ℕ → Kind → State → Opens → Type 0
StoryOf m h x n (opening slot mode) (Busy machine) opens = OpeningNow m h n slot mode machine opens
StoryOf m h x n (opening slot mode) (Over answer) opens = OpenOver m h x n slot mode answer opens
StoryOf m h x n (closing slot) (Busy machine) opens = ClosingNow m h n slot machine opens
StoryOf m h x n (closing slot) (Over answer) opens = ClosedNow m h n slot opens
StoryOf m h x n plainly (Busy machine) opens = IsPlain machine × SlotsAgree m h n opens
StoryOf m h x n plainly (Over answer) opens = SlotsAgree m h n opens

-- the machine of such an operation before its first step
pub record IsCloser (n slot : ℕ) (machine : Machine) : Type 0 where
  pub c : CloseFile
  pub is : machine ≡ machines.File (files.Close c)
  pub lane_is : c.lane ≡ n
  pub slot_is : c.slot ≡ slot

abbrev pub BeginsAs : Bool → ℕ → Kind → Machine → Type 0
BeginsAs nocto n (opening slot mode) machine = IsOpener nocto n slot mode machine
BeginsAs nocto n (closing slot) machine = IsCloser n slot machine
BeginsAs nocto n plainly machine = IsPlain machine

-- what is told of a reply to the operation: it is the last one, to a call that it expects
pub record TellsOf (h : List Entry) (x : ℕ) (machine : Machine) (reply : Reply) : Type 0 where
  pub call : Call
  pub expects : Expects machine call
  pub ends : EndsWith h x (length h) call reply

apart-slot : (n s slot : ℕ) → s ≢ slot → ◌≢◌ {A = Place} (n, s) (n, slot)
apart-slot n s slot other e = other (ap (λ (p : Place). p.1) e)

apart-lane : (q : Place) (n slot : ℕ) → q.0 ≢ n → q ≢ (n, slot)
apart-lane q n slot other e = other (ap (λ (p : Place). p.0) e)

module _ (m : Modes) (h : List Entry) (n : ℕ) where
  pub agree-same : (old new : Opens) → ((s : ℕ) → finite.get new (n, s) ≡ finite.get old (n, s)) → SlotsAgree m h n old → SlotsAgree m h n new
  agree-same old new same a s = subst (Agrees m h n s) (sym (same s)) (a s)

  pub others-same : (slot : ℕ) (old new : Opens) → ((s : ℕ) → s ≢ slot → finite.get new (n, s) ≡ finite.get old (n, s)) → OthersAgree m h n slot old → OthersAgree m h n slot new
  others-same slot old new same a s other = subst (Agrees m h n s) (sym (same s other)) (a s other)

module _ (m : Modes) (h : List Entry) (x n : ℕ) where
  -- the same table, as far as the lane goes
  pub story-same : (kind : Kind) (state : State) (old new : Opens) → ((s : ℕ) → finite.get new (n, s) ≡ finite.get old (n, s)) → StoryOf m h x n kind state old → StoryOf m h x n kind state new
  story-same (opening slot mode) (Busy machine) old new same t = record { opener = t.opener; free = same slot ∙ t.free; agree = agree-same m h n old new same t.agree }
  story-same (opening slot mode) (Over (answers.Done value)) old new same t = record {
    o = t.o;
    there = same slot ∙ t.there;
    mode_is = t.mode_is;
    finds = t.finds;
    none = t.none;
    others = others-same m h n slot old new (λ s other. same s) t.others;
  }
  story-same (opening slot mode) (Over (answers.Refused fault)) old new same t = (agree-same m h n old new same t.0, t.1)
  story-same (closing slot) (Busy machine) old new same t = record {
    c = t.c;
    is = t.is;
    lane_is = t.lane_is;
    slot_is = t.slot_is;
    has = subst (ClosingHas (Agrees m h n slot) t.c.state) (sym (same slot)) t.has;
    others = others-same m h n slot old new (λ s other. same s) t.others;
  }
  story-same (closing slot) (Over answer) old new same t = record { none = same slot ∙ t.none; others = others-same m h n slot old new (λ s other. same s) t.others }
  story-same plainly (Busy machine) old new same t = (t.0, agree-same m h n old new same t.1)
  story-same plainly (Over answer) old new same t = agree-same m h n old new same t

  -- ---- one step of the operation

  abbrev pub ThenStory : Kind → Opens → Step → Machine → Type 0
  ThenStory kind opens next new = ThenOf (λ k. StoryOf m h x n kind (Busy k) opens) (λ a. StoryOf m h x n kind (Over a) opens) next new

  pub record Stepped (kind : Kind) (old : Shelf) (next : Step) (new : Machine) (after : Shelf) : Type 0 where
    pub then_ : ThenStory kind after.opens next new
    pub others : (q : Place) → q.0 ≢ n → finite.get after.opens q ≡ finite.get old.opens q

  same-table : (old after : Shelf) → after.opens ≡ old.opens → (q : Place) → q.0 ≢ n → finite.get after.opens q ≡ finite.get old.opens q
  same-table old after same q other = ap (λ (o : Opens). finite.get o q) same

  plain-stepped : (old : Shelf) (next : Step) (new : Machine) (after : Shelf) → Leaves old new after → SlotsAgree m h n old.opens → Stepped plainly old next new after
  plain-stepped old next new after l a = record { then_ = by next; others = same-table old after l.1 }
    where
      later : SlotsAgree m h n after.opens
      later = subst (SlotsAgree m h n) (sym l.1) a

      by : (k : Step) → ThenStory plainly after.opens k new
      by (Send call) = (l.0, later)
      by Wait = (l.0, later)
      by (Done answer) = later

  open-stepped : (slot : ℕ) (mode : Mode) (old : Shelf) (next : Step) (new : Machine) (after : Shelf) → ThenOf (IsOpener m.nocto n slot mode) IsRefusal next new → after.opens ≡ old.opens
      → finite.get old.opens (n, slot) ≡ None → FineNext (IsPlaced m h x n slot) next → SlotsAgree m h n old.opens → Stepped (opening slot mode) old next new after
  open-stepped slot mode old next new after t same free known a = record { then_ = by next t known; others = same-table old after same }
    where
      later : SlotsAgree m h n after.opens
      later = subst (SlotsAgree m h n) (sym same) a

      still : finite.get after.opens (n, slot) ≡ None
      still = ap (λ (o : Opens). finite.get o (n, slot)) same ∙ free

      over : (answer : Answer) → IsRefusal answer → FineAnswer (IsPlaced m h x n slot) answer → OpenOver m h x n slot mode answer after.opens
      over (answers.Done value) r f = absurd r
      over (answers.Refused fault) r f = (later, f)

      by : (k : Step) → ThenOf (IsOpener m.nocto n slot mode) IsRefusal k new → FineNext (IsPlaced m h x n slot) k → ThenStory (opening slot mode) after.opens k new
      by (Send call) o f = record { opener = o; free = still; agree = later }
      by Wait o f = record { opener = o; free = still; agree = later }
      by (Done answer) r f = over answer r f

  -- an open whose slot is taken as it begins
  taken-stepped : (slot : ℕ) (mode : Mode) (old : Shelf) (next : Step) (new : Machine) (after : Shelf) → next ≡ Done (answers.Refused faults.Slot) → after.opens ≡ old.opens
      → WasTaken m h x n slot → SlotsAgree m h n old.opens → Stepped (opening slot mode) old next new after
  taken-stepped slot mode old next new after is same taken a = record {
    then_ = subst (λ (k : Step). ThenStory (opening slot mode) after.opens k new) (sym is) (subst (SlotsAgree m h n) (sym same) a, λ e. taken);
    others = same-table old after same;
  }

  -- other faults
  own : (slot : ℕ) → OwnFaults (IsPlaced m h x n slot)
  own slot = record { kind = λ e. absurd cc; many = λ e. absurd cc; memory = λ e. absurd cc; bad = λ rule e. absurd cc }

  outer-placed : (slot : ℕ) (fault : Fault) → IsOuter fault → IsPlaced m h x n slot fault
  outer-placed slot faults.Lost o e = absurd o
  outer-placed slot (faults.Nfs status) o e = absurd cc
  outer-placed slot (faults.Rpc k) o e = absurd cc
  outer-placed slot (faults.Bad rule) o e = absurd cc
  outer-placed slot faults.Spent o e = absurd cc
  outer-placed slot faults.Slot o e = absurd o
  outer-placed slot faults.Mode o e = absurd o
  outer-placed slot faults.Kind o e = absurd o
  outer-placed slot faults.Many o e = absurd o
  outer-placed slot faults.Memory o e = absurd cc

  nfs-placed : (slot : ℕ) (status : ℕ) → IsPlaced m h x n slot (faults.Nfs status)
  nfs-placed slot status e = absurd cc

  dir-placed : (slot : ℕ) (reply : DirKept) → OfReply (IsPlaced m h x n slot) (replies.Dir reply)
  dir-placed slot (found.LookupFail status dir) = nfs-placed slot status.0
  dir-placed slot (found.ReadLinkFail status attr) = nfs-placed slot status.0
  dir-placed slot (found.CreateFail status wcc) = nfs-placed slot status.0
  dir-placed slot (found.MkDirFail status wcc) = nfs-placed slot status.0
  dir-placed slot (found.SymLinkFail status wcc) = nfs-placed slot status.0
  dir-placed slot (found.RemoveFail status wcc) = nfs-placed slot status.0
  dir-placed slot (found.RmDirFail status wcc) = nfs-placed slot status.0
  dir-placed slot (found.RenameFail status source target) = nfs-placed slot status.0
  dir-placed slot (found.LinkFail status attr wcc) = nfs-placed slot status.0
  dir-placed slot (found.ReadDirPlusFail status attr) = nfs-placed slot status.0
  dir-placed slot reply = tt

  file-placed : (slot : ℕ) (reply : FileKept) → OfReply (IsPlaced m h x n slot) (replies.File reply)
  file-placed slot (kept.GetAttrFail status) = nfs-placed slot status.0
  file-placed slot (kept.SetAttrFail status wcc) = nfs-placed slot status.0
  file-placed slot (kept.AccessFail status attr) = nfs-placed slot status.0
  file-placed slot (kept.ReadFail status attr) = nfs-placed slot status.0
  file-placed slot (kept.WriteFail status wcc) = nfs-placed slot status.0
  file-placed slot (kept.CommitFail status wcc) = nfs-placed slot status.0
  file-placed slot reply = tt

  came-placed : (slot : ℕ) (came : Result Reply Fault) → FineResult IsOuter came → Came (IsPlaced m h x n slot) came
  came-placed slot (Ok (replies.Dir reply)) f = dir-placed slot reply
  came-placed slot (Ok (replies.File reply)) f = file-placed slot reply
  came-placed slot (Ok (replies.Mount reply)) f = tt
  came-placed slot (Err fault) f = outer-placed slot fault f

  fine-opener : (slot : ℕ) (mode : Mode) (machine : Machine) → IsOpener m.nocto n slot mode machine → laws.FineMachine (IsPlaced m h x n slot) (own slot) machine
  fine-opener slot mode machine i =
      subst (laws.FineMachine (IsPlaced m h x n slot) (own slot)) (sym i.is) (subst (λ (o : Opener). laws.FineFile (IsPlaced m h x n slot) (own slot) (file_of o)) (sym i.opener) tt)

  -- a free slot refuses no open
  free-begins : (slot : ℕ) (mode : Mode) (machine : Machine) (old : Shelf) → finite.get old.opens (n, slot) ≡ None → IsOpener m.nocto n slot mode machine
      → laws.Begins (IsPlaced m h x n slot) (own slot) machine old
  free-begins slot mode machine old free i =
      subst (λ (k : Machine). laws.Begins (IsPlaced m h x n slot) (own slot) k old) (sym i.is)
      (subst (λ (o : Opener). slot_taken o old.opens ≡ true → IsPlaced m h x n slot faults.Slot) (sym i.opener)
      (λ taken. absurd (let no_way : false ≡ true = sym (ap (λ (o : Option Opened). is_some o) (ap (λ (q : Place). finite.get old.opens q) (opener-place i.o i.at) ∙ free)) ∙ taken in cc)))
    where
      opener-place : (o : OpenFile) → IsAt m.nocto n slot mode o → ◌≡◌ {A = Place} (o.lane, o.slot) (n, slot)
      opener-place o at = ap {B = Place} (λ (k : ℕ). (k, o.slot)) at.lane_is ∙ ap {B = Place} (λ (k : ℕ). (n, k)) at.slot_is

  free-ends : (slot : ℕ) (mode : Mode) (machine : Machine) (old : Shelf) → finite.get old.opens (n, slot) ≡ None → IsOpener m.nocto n slot mode machine
      → laws.Ends (IsPlaced m h x n slot) (own slot) machine old
  free-ends slot mode machine old free i =
      subst (λ (k : Machine). laws.Ends (IsPlaced m h x n slot) (own slot) k old) (sym i.is)
      (subst (λ (o : Opener). laws.FileEnds (IsPlaced m h x n slot) (own slot) (file_of o) old) (sym i.opener)
      (λ other there. absurd (let no_way : None ≡ Some other = sym free ∙ sym (ap (λ (q : Place). finite.get old.opens q) (opener-place i.o i.at)) ∙ there in cc)))
    where
      opener-place : (o : OpenFile) → IsAt m.nocto n slot mode o → ◌≡◌ {A = Place} (o.lane, o.slot) (n, slot)
      opener-place o at = ap {B = Place} (λ (k : ℕ). (k, o.slot)) at.lane_is ∙ ap {B = Place} (λ (k : ℕ). (n, k)) at.slot_is

  close-stepped : (slot : ℕ) (c : CloseFile) (state : Closing) (old : Shelf) (next : Step) (new : Machine) (after : Shelf) → new ≡ machines.File (files.Close (record c { state = state }))
      → c.lane ≡ n → c.slot ≡ slot → OthersAgree m h n slot old.opens → CloseSteps (Agrees m h n slot) (n, slot) old.opens next state after.opens → Stepped (closing slot) old next new after
  close-stepped slot c state old next new after is of_lane of_slot a t = record { then_ = by next t.then_; others = λ q other. t.others q (apart-lane q n slot other) }
    where
      later : OthersAgree m h n slot after.opens
      later = others-same m h n slot old.opens after.opens (λ s other. t.others (n, s) (apart-slot n s slot other)) a

      by : (k : Step) → ThenOf (λ s. ClosingHas (Agrees m h n slot) s (finite.get after.opens (n, slot))) (λ b. finite.get after.opens (n, slot) ≡ None) k state
          → ThenStory (closing slot) after.opens k new
      by (Send call) has = record { c = record c { state = state }; is = is; lane_is = of_lane; slot_is = of_slot; has = has; others = later }
      by Wait has = record { c = record c { state = state }; is = is; lane_is = of_lane; slot_is = of_slot; has = has; others = later }
      by (Done answer) none = record { none = none; others = later }

  pub story-starts : (kind : Kind) (machine : Machine) (wsize : ℕ) (turn : Turn) (old : Shelf) (next : Step) (new : Machine) (after : Shelf) → BeginsAs m.nocto n kind machine
      → SlotsAgree m h n old.opens → ((slot : ℕ) (o : Opened) → finite.get old.opens (n, slot) ≡ Some o → WasTaken m h x n slot) → Starts wsize machine turn old next new after
      → Stepped kind old next new after
  story-starts (opening slot mode) machine wsize turn old next new after b a taken s = by (finite.get old.opens (n, slot)) refl
    where
      by : (at : Option Opened) → finite.get old.opens (n, slot) ≡ at → Stepped (opening slot mode) old next new after
      by (Some o) there =
          let t = opener-taken m.nocto n slot mode machine o wsize turn old next new after b there s in taken-stepped slot mode old next new after t.0 t.1 (taken slot o there) a
      by None free =
          let t = opener-starts m.nocto n slot mode machine wsize turn old next new after b s in
          let f = laws.all-starts (IsPlaced m h x n slot) (own slot) machine wsize turn old next new after (free-begins slot mode machine old free b) (fine-opener slot mode machine b) s in
          open-stepped slot mode old next new after t.0 t.1 free f.0 a
  story-starts (closing slot) machine wsize turn old next new after b a taken s = by (subst (λ (k : Machine). Starts wsize k turn old next new after) b.is s)
    where
      by : Starts wsize (machines.File (files.Close b.c)) turn old next new after → Stepped (closing slot) old next new after
      by t = close-stepped slot b.c t.step.state old next new after (t.machine_is ∙ ap machines.File t.step.machine_is) b.lane_is b.slot_is (λ k other. a k)
          (close-starts (Agrees m h n slot) n slot wsize b.c turn old next t.step.state after b.lane_is b.slot_is (a slot) t.step.step)
  story-starts plainly machine wsize turn old next new after b a taken s = plain-stepped old next new after (plain-starts machine wsize turn old next new after b s) a

  pub story-resumes : (kind : Kind) (machine : Machine) (wsize : ℕ) (turn : Turn) (old : Shelf) (next : Step) (new : Machine) (after : Shelf) → StoryOf m h x n kind (Busy machine) old.opens
      → Resumes wsize machine turn old next new after → Stepped kind old next new after
  story-resumes (opening slot mode) machine wsize turn old next new after t r =
      let o = opener-resumes m.nocto n slot mode machine wsize turn old next new after t.opener r in
      let f = laws.all-resumes (IsPlaced m h x n slot) (own slot) machine wsize turn old next new after (fine-opener slot mode machine t.opener) r in
      open-stepped slot mode old next new after o.0 o.1 t.free f.0 t.agree
  story-resumes (closing slot) machine wsize turn old next new after t r = by (subst (λ (k : Machine). Resumes wsize k turn old next new after) t.is r)
    where
      by : Resumes wsize (machines.File (files.Close t.c)) turn old next new after → Stepped (closing slot) old next new after
      by k = close-stepped slot t.c k.step.state old next new after (k.machine_is ∙ ap machines.File k.step.machine_is) t.lane_is t.slot_is t.others
          (close-resumes (Agrees m h n slot) n slot wsize t.c turn old next k.step.state after t.lane_is t.slot_is t.has k.step.step)
  story-resumes plainly machine wsize turn old next new after t r = plain-stepped old next new after (plain-resumes machine wsize turn old next new after t.0 r) t.1

  -- the file that an open finds by its last reply
  finds-of : (was : Machine) (came : Result Reply Fault) (call : Call) (f : List ℕ) → ((reply : Reply) → came ≡ Ok reply → TellsOf h x was reply)
      → ((k : Call) → Expects was k → k ≡ call) → FindsBy m.nocto call came f → Finds m h (length h) f
  finds-of was came call f tells expects (by_attrs attr is came_is) =
      let reply : Reply = replies.File (kept.GetAttr attr) in
      let t = tells reply came_is in
      let e = subst (λ (k : Call). EndsWith h x (length h) k reply) (expects t.call t.expects ∙ is) t.ends in
      asked e.last
  finds-of was came call f tells expects (by_lookup d name attr dir nocto is came_is) =
      let reply : Reply = replies.Dir (found.Lookup f attr dir) in
      let t = tells reply came_is in
      let e = subst (λ (k : Call). EndsWith h x (length h) k reply) (expects t.call t.expects ∙ is) t.ends in
      looked_up nocto d name attr dir e.last e.spells
  finds-of was came call f tells expects (by_create d name making attr wcc nocto is came_is) =
      let reply : Reply = replies.Dir (found.Create (Some f) attr wcc) in
      let t = tells reply came_is in
      let e = subst (λ (k : Call). EndsWith h x (length h) k reply) (expects t.call t.expects ∙ is) t.ends in
      made nocto d name making attr wcc e.last e.spells

  open-took : (slot : ℕ) (mode : Mode) (was : Machine) (came : Result Reply Fault) (old : Shelf) (next : Step) (new : Machine) (after : Shelf)
      → ((reply : Reply) → came ≡ Ok reply → TellsOf h x was reply) → FineNext (IsPlaced m h x n slot) next → SlotsAgree m h n old.opens → finite.get old.opens (n, slot) ≡ None → OpenTook m.nocto n slot mode was came old.opens next new after.opens
      → Stepped (opening slot mode) old next new after
  open-took slot mode was came old next new after tells known a clear (table_stays same t) = open-stepped slot mode old next new after t same clear known a
  open-took slot mode was came old next new after tells known a clear (puts_open of call free now mode_is is expects finds) = record {
    then_ = subst (λ (k : Step). ThenStory (opening slot mode) after.opens k new) (sym is) (record {
      o = of;
      there = ap (λ (o : Opens). finite.get o (n, slot)) now ∙ get-put_same old.opens (n, slot) of;
      mode_is = mode_is;
      finds = finds-of was came call of.file tells expects finds;
      none = subst (Agrees m h n slot) free (a slot);
      others = others-same m h n slot old.opens after.opens (λ s other. other-slot (n, s) (apart-slot n s slot other)) (λ s other. a s);
    });
    others = λ q other. other-slot q (apart-lane q n slot other);
  }
    where
      other-slot : (q : Place) → q ≢ (n, slot) → finite.get after.opens q ≡ finite.get old.opens q
      other-slot q apart = ap (λ (o : Opens). finite.get o q) now ∙ get-put_other old.opens (n, slot) q of apart

  pub story-takes : (kind : Kind) (machine : Machine) (wsize : ℕ) (sent turn : Turn) (came : Result Reply Fault) (old : Shelf) (next : Step) (new : Machine) (after : Shelf)
      → ((reply : Reply) → came ≡ Ok reply → TellsOf h x machine reply) → FineResult IsOuter came → StoryOf m h x n kind (Busy machine) old.opens → Takes wsize machine sent turn came old next new after
      → Stepped kind old next new after
  story-takes (opening slot mode) machine wsize sent turn came old next new after tells fine t k =
      let f = laws.all-takes (IsPlaced m h x n slot) (own slot) machine wsize sent turn came old next new after (free-ends slot mode machine old t.free t.opener) (came-placed slot came fine)
      (fine-opener slot mode machine t.opener) k in
      open-took slot mode machine came old next new after tells f.0 t.agree t.free (opener-takes m.nocto n slot mode machine wsize sent turn came old next new after t.opener k)
  story-takes (closing slot) machine wsize sent turn came old next new after tells fine t k = by (subst (λ (b : Machine). Takes wsize b sent turn came old next new after) t.is k)
    where
      by : Takes wsize (machines.File (files.Close t.c)) sent turn came old next new after → Stepped (closing slot) old next new after
      by c = close-stepped slot t.c c.step.state old next new after (c.machine_is ∙ ap machines.File c.step.machine_is) t.lane_is t.slot_is t.others
          (close-takes (Agrees m h n slot) n slot wsize t.c sent turn came old next c.step.state after t.lane_is t.slot_is t.has c.step.step)
  story-takes plainly machine wsize sent turn came old next new after tells fine t k = plain-stepped old next new after (plain-takes machine wsize sent turn came old next new after t.0 k) t.1

-- ---- one entry more

module _ (m : Modes) (h : List Entry) (e : Entry) (n : ℕ) (quiet : (line : ℕ) (answer : Answer) → e ≡ Answered n line answer → ⊥) where
  pub agree-later : (opens : Opens) → SlotsAgree m h n opens → SlotsAgree m (h ++ e ∷ []) n opens
  agree-later opens a s = agrees-later m h e n s (finite.get opens (n, s)) (tells-nothing h e n s quiet) (a s)

  others-later : (slot : ℕ) (opens : Opens) → OthersAgree m h n slot opens → OthersAgree m (h ++ e ∷ []) n slot opens
  others-later slot opens a s other = agrees-later m h e n s (finite.get opens (n, s)) (tells-nothing h e n s quiet) (a s other)

  closing-later : (slot : ℕ) (state : Closing) (o : Option Opened) → ClosingHas (Agrees m h n slot) state o → ClosingHas (Agrees m (h ++ e ∷ []) n slot) state o
  closing-later slot closings.Idle o has = agrees-later m h e n slot o (tells-nothing h e n slot quiet) has
  closing-later slot (closings.Queued saving) o has = agrees-later m h e n slot o (tells-nothing h e n slot quiet) has
  closing-later slot (closings.Saves saving) o has = agrees-later m h e n slot o (tells-nothing h e n slot quiet) has
  closing-later slot (closings.ToRemove removal) o has = has
  closing-later slot (closings.Removing removal) o has = has

  pub busy-later : (x : ℕ) (kind : Kind) (machine : Machine) (opens : Opens) → StoryOf m h x n kind (Busy machine) opens → StoryOf m (h ++ e ∷ []) x n kind (Busy machine) opens
  busy-later x (opening slot mode) machine opens t = record { opener = t.opener; free = t.free; agree = agree-later opens t.agree }
  busy-later x (closing slot) machine opens t = record {
    c = t.c;
    is = t.is;
    lane_is = t.lane_is;
    slot_is = t.slot_is;
    has = closing-later slot t.c.state (finite.get opens (n, slot)) t.has;
    others = others-later slot opens t.others;
  }
  busy-later x plainly machine opens t = (t.0, agree-later opens t.1)

  pub taken-later : (x slot : ℕ) → WasTaken m h x n slot → WasTaken m (h ++ e ∷ []) x n slot
  taken-later x slot t = record {
    within = let low = t.within in let more = length_last h e in omega (arith, low, more);
    f = t.f;
    mode = t.mode;
    held = held-grow m h e n slot t.f t.mode x t.within t.held;
  }

  pub over-later : (x : ℕ) (kind : Kind) (answer : Answer) (opens : Opens) → ((bytes : List ℕ) → e ≡ Delivered bytes → ⊥) → StoryOf m h x n kind (Over answer) opens
      → StoryOf m (h ++ e ∷ []) x n kind (Over answer) opens
  over-later x (opening slot mode) (answers.Done value) opens silent t = record {
    o = t.o;
    there = t.there;
    mode_is = t.mode_is;
    finds = finds-stays m h e t.o.file silent t.finds;
    none = none-later m h e n slot (tells-nothing h e n slot quiet).opened t.none;
    others = others-later slot opens t.others;
  }
  over-later x (opening slot mode) (answers.Refused fault) opens silent t = (agree-later opens t.0, λ e. taken-later x slot (t.1 e))
  over-later x (closing slot) answer opens silent t = record { none = t.none; others = others-later slot opens t.others }
  over-later x plainly answer opens silent t = agree-later opens t

-- ---- an answer is noted

one-opened : (a b : Opened) → Some a ≡ Some b → a ≡ b
one-opened a b e = cc

not-both : (o : Opened) (at : Option Opened) → at ≡ None → at ≡ Some o → ⊥
not-both o at none some = let no_way : None ≡ Some o = sym none ∙ some in cc

one-answer : (a b c d : ℕ) (p q : Answer) → Answered a b p ≡ Answered c d q → p ≡ q
one-answer a b c d p q e = cc

module _ (m : Modes) (h : List Entry) (n line : ℕ) (answer : Answer) (opens : Opens)
    (told : (x : ℕ) (op : Op) → UnderWay h n x (length h) op → StoryOf m h x n (kind_of op) (Over answer) opens)
    (under : (x : ℕ) (op : Op) (a : Answer) → Ended (h ++ Answered n line answer ∷ []) n x op (length h) a → UnderWay h n x (length h) op) where
  abbrev Later : List Entry
  Later = h ++ Answered n line answer ∷ []

  answer-is : (x : ℕ) (op : Op) (a : Answer) → Ended Later n x op (length h) a → answer ≡ a
  answer-is x op a d = one-answer n line n d.line answer a (ended-now h (Answered n line answer) n x op a d)

  -- an open that is answered now is in the table, and wasn't there before
  opened-told : (x slot : ℕ) (mode : Mode) (path : List (List ℕ)) (value : Value) → Ended Later n x (ops.OpenFile slot mode path) (length h) (answers.Done value) → OpenedNow m h n slot mode opens
  opened-told x slot mode path value d =
      subst (λ (a : Answer). OpenOver m h x n slot mode a opens) (answer-is x (ops.OpenFile slot mode path) (answers.Done value) d)
      (told x (ops.OpenFile slot mode path) (under x (ops.OpenFile slot mode path) (answers.Done value) d))

  closed-told : (c slot : ℕ) (a : Answer) → Ended Later n c (ops.Close slot) (length h) a → ClosedNow m h n slot opens
  closed-told c slot a d = told c (ops.Close slot) (under c (ops.Close slot) a d)

  -- a slot that the operation leaves as it is
  old-slot : (s : ℕ) (o : Option Opened) → finite.get opens (n, s) ≡ o → Agrees m h n s o → Agrees m Later n s o
  old-slot s (Some o) there a = shown-later m h (Answered n line answer) n s o (record {
    opened = λ x mode path value d. (opened-told x s mode path value d).none o.file o.mode a.held;
    closed = λ c b d. not-both o (finite.get opens (n, s)) (closed-told c s b d).none there;
  }) a
  old-slot s None there a = none-later m h (Answered n line answer) n s
      (λ x mode path value d. let t = opened-told x s mode path value d in not-both t.o (finite.get opens (n, s)) there t.there) a

  all-old : SlotsAgree m h n opens → SlotsAgree m Later n opens
  all-old a s = old-slot s (finite.get opens (n, s)) refl (a s)

  -- the slot that it opens
  new-slot : (x slot : ℕ) (mode : Mode) (path : List (List ℕ)) (value : Value) → Ended Later n x (ops.OpenFile slot mode path) (length h) (answers.Done value)
      → Agrees m Later n slot (finite.get opens (n, slot))
  new-slot x slot mode path value d =
      let t = opened-told x slot mode path value d in
      subst (Agrees m Later n slot) (sym t.there) (record {
        held = held-now m h (Answered n line answer) n slot t.o.file t.o.mode (record {
          x = x;
          path = path;
          value = value;
          ended = subst (λ (k : Mode). Ended Later n x (ops.OpenFile slot k path) (length h) (answers.Done value)) (sym t.mode_is) d;
          finds = finds-grow m h (Answered n line answer) (length h) t.o.file (omega arith) t.finds;
        });
        only = λ f k i. elim (held-earlier m h (Answered n line answer) n slot f k i) [
          | inl was ↦ absurd (t.none f k was)
          | inr now ↦
              let u = opened-told now.x slot k now.path now.value now.ended in
              sym u.mode_is ∙ ap (λ (b : Opened). b.mode) (one-opened u.o t.o (sym u.there ∙ t.there))
        ];
      })

  -- and the one that it closes
  freed-slot : (c slot : ℕ) → Ended Later n c (ops.Close slot) (length h) answer → Agrees m Later n slot (finite.get opens (n, slot))
  freed-slot c slot d =
      let t = closed-told c slot answer d in
      subst (Agrees m Later n slot) (sym t.none)
      (λ f k i.
      let now = held-closed m h (Answered n line answer) n slot f k c answer d i in
      let u = opened-told now.x slot k now.path now.value now.ended in
      not-both u.o (finite.get opens (n, slot)) t.none u.there)

  -- the slot is this one or another
  by-slot : (slot : ℕ) → Agrees m Later n slot (finite.get opens (n, slot)) → OthersAgree m h n slot opens → SlotsAgree m Later n opens
  by-slot slot own a s = by (nat_eq s slot) refl
    where
      by : (b : Bool) → nat_eq s slot ≡ b → Agrees m Later n s (finite.get opens (n, s))
      by true is = subst (λ (k : ℕ). Agrees m Later n k (finite.get opens (n, k))) (sym (eqb-true s slot is)) own
      by false other = old-slot s (finite.get opens (n, s)) refl (a s (eqb-false s slot other))

  open-noted : (a : Answer) → answer ≡ a → (x slot : ℕ) (mode : Mode) (path : List (List ℕ)) → Ended Later n x (ops.OpenFile slot mode path) (length h) a → OpenOver m h x n slot mode a opens
      → SlotsAgree m Later n opens
  open-noted (answers.Done value) same x slot mode path d t = by-slot slot (new-slot x slot mode path value d) t.others
  open-noted (answers.Refused fault) same x slot mode path d t = all-old t.0

  -- of any operation
  pub noted : (x : ℕ) (op : Op) → Ended Later n x op (length h) answer → StoryOf m h x n (kind_of op) (Over answer) opens → SlotsAgree m Later n opens
  noted x (ops.OpenFile slot mode path) d t = open-noted answer refl x slot mode path d t
  noted x (ops.Close slot) d t = by-slot slot (freed-slot x slot d) t.others
  noted x (ops.Read slot offset count) d t = all-old t
  noted x (ops.Write slot offset bytes) d t = all-old t
  noted x (ops.Fill slot offset count byte) d t = all-old t
  noted x (ops.Put path offset bytes) d t = all-old t
  noted x (ops.Sync slot) d t = all-old t
  noted x (ops.Truncate slot size) d t = all-old t
  noted x (ops.Stat path) d t = all-old t
  noted x (ops.Access path bits) d t = all-old t
  noted x (ops.MakeDir path) d t = all-old t
  noted x (ops.RemoveDir path) d t = all-old t
  noted x (ops.Remove path) d t = all-old t
  noted x (ops.Rename from to) d t = all-old t
  noted x (ops.Link from to) d t = all-old t
  noted x (ops.SymLink path target) d t = all-old t
  noted x (ops.ReadLink path) d t = all-old t
  noted x (ops.List path) d t = all-old t
