-- Each SETATTR with a size is that of a truncate of the file, and no CREATE has a size.
use Rattle.core_session.proofs.Prelude.{◌≡◌, ◌⊎◌, inl, inr, ℕ, Bool, true, false, List, [], ◌∷◌, ◌++◌, length, Option, Some, None, Result, refl, sym, ap, subst, ◌∙◌, SetAttr, Time, Fault, Entry, Began, Reply, Op, SpellsCall, UnderWay, IsOf, Terms, Step, Shelf, Turn, TruncateFile, Truncating, Mounted, FileMachine, Machine, machine_of, Starts, Resumes, Takes, State, Busy, Over, Setup, begins-unbegun, Held, held-later, always-later, Given, is-given, ThenOf, Always, over-laws, good-over, one-call, Expects, expects-laws, SentFor, of-slot, WorksAt, SlotRuns, SlotStory, slot-laws}
use Rattle.core_facts.proofs.Stories.{StoryLaws}
use Rattle.core_answers.proofs.asks.Sendings.{under-until, reached-sent}
use Rattle.core_answers.proofs.asks.SlotFiles.{CutAt}
use Rattle.nfs_dir_calls.specs.declared.call.DirCall.TheVariants as dirs
use Rattle.nfs_dir_calls.specs.declared.create.Making.TheVariants as makings
use Rattle.nfs_file_calls.specs.declared.call.FileCall.TheVariants as file_calls
use Rattle.world_model.specs.declared.message.Call.TheVariants as calls
use Rattle.world_model.specs.declared.op.Op.TheVariants as ops
use Rattle.client_shelf.specs.declared.step.Step.TheVariants as nexts
use Rattle.file_ops.specs.declared.truncate_file.Truncating.TheVariants as truncating
use Rattle.file_ops.specs.TruncateFile as truncates
use Rattle.op_machines.specs.declared.file_machine.FileMachine.TheVariants as files
use Rattle.op_machines.specs.declared.machine.Machine.TheVariants as machines
use Rattle.core_session.specs.order.Sizes.{IsTruncate, SizesAsked, NoSizesMade}
use Rattle.core_session.proofs.order.Tame.{Tame, IsCut, expects-tame}

-- ---- which machines are truncates

abbrev IsCutter : FileMachine → Bool
IsCutter (files.Truncate m) = true
IsCutter m = false

abbrev pub cuts : Machine → Bool
cuts (machines.File m) = IsCutter m
cuts (machines.Path m) = false
cuts (machines.Name m) = false

abbrev pub cuts_op : Op → Bool
cuts_op (ops.Truncate slot size) = true
cuts_op op = false

as-file : (new n : FileMachine) → new ≡ n → IsCutter new ≡ IsCutter n
as-file new n is = ap IsCutter is

as-machine : (new : Machine) (n m : FileMachine) → new ≡ machines.File n → IsCutter n ≡ IsCutter m → cuts new ≡ cuts (machines.File m)
as-machine new n m is same = ap cuts is ∙ same

starts-cuts : (wsize : ℕ) (m : Machine) (turn : Turn) (old : Shelf) (next : Step) (new : Machine) (after : Shelf) → Starts wsize m turn old next new after → cuts new ≡ cuts m
starts-cuts wsize (machines.File (files.Open m)) turn old next new after s = as-machine new s.machine (files.Open m) s.machine_is (as-file s.machine _ s.step.machine_is)
starts-cuts wsize (machines.File (files.Read m)) turn old next new after s = as-machine new s.machine (files.Read m) s.machine_is (as-file s.machine _ s.step.machine_is)
starts-cuts wsize (machines.File (files.Write m)) turn old next new after s = as-machine new s.machine (files.Write m) s.machine_is (as-file s.machine _ s.step.machine_is)
starts-cuts wsize (machines.File (files.Sync m)) turn old next new after s = as-machine new s.machine (files.Sync m) s.machine_is (as-file s.machine _ s.step.machine_is)
starts-cuts wsize (machines.File (files.Close m)) turn old next new after s = as-machine new s.machine (files.Close m) s.machine_is (as-file s.machine _ s.step.machine_is)
starts-cuts wsize (machines.File (files.Truncate m)) turn old next new after s = as-machine new s.machine (files.Truncate m) s.machine_is (as-file s.machine _ s.step.machine_is)
starts-cuts wsize (machines.File (files.Put m)) turn old next new after s = as-machine new s.machine (files.Put m) s.machine_is (as-file s.machine _ s.step.machine_is)
starts-cuts wsize (machines.Path m) turn old next new after s = ap cuts s.machine_is
starts-cuts wsize (machines.Name m) turn old next new after s = ap cuts s.machine_is

resumes-cuts : (wsize : ℕ) (m : Machine) (turn : Turn) (old : Shelf) (next : Step) (new : Machine) (after : Shelf) → Resumes wsize m turn old next new after → cuts new ≡ cuts m
resumes-cuts wsize (machines.File (files.Open m)) turn old next new after s = as-machine new s.machine (files.Open m) s.machine_is (as-file s.machine _ s.step.machine_is)
resumes-cuts wsize (machines.File (files.Read m)) turn old next new after s = as-machine new s.machine (files.Read m) s.machine_is (as-file s.machine _ s.step.machine_is)
resumes-cuts wsize (machines.File (files.Write m)) turn old next new after s = as-machine new s.machine (files.Write m) s.machine_is (as-file s.machine _ s.step.machine_is)
resumes-cuts wsize (machines.File (files.Sync m)) turn old next new after s = as-machine new s.machine (files.Sync m) s.machine_is (as-file s.machine _ s.step.machine_is)
resumes-cuts wsize (machines.File (files.Close m)) turn old next new after s = as-machine new s.machine (files.Close m) s.machine_is (as-file s.machine _ s.step.machine_is)
resumes-cuts wsize (machines.File (files.Truncate m)) turn old next new after s = as-machine new s.machine (files.Truncate m) s.machine_is (as-file s.machine _ s.step.machine_is)
resumes-cuts wsize (machines.File (files.Put m)) turn old next new after s = as-machine new s.machine (files.Put m) s.machine_is (as-file s.machine _ s.step.machine_is)
resumes-cuts wsize (machines.Path m) turn old next new after s = ap cuts s.machine_is
resumes-cuts wsize (machines.Name m) turn old next new after s = ap cuts s.machine_is

takes-cuts : (wsize : ℕ) (m : Machine) (sent turn : Turn) (came : Result Reply Fault) (old : Shelf) (next : Step) (new : Machine) (after : Shelf)
    → Takes wsize m sent turn came old next new after → cuts new ≡ cuts m
takes-cuts wsize (machines.File (files.Open m)) sent turn came old next new after s = as-machine new s.machine (files.Open m) s.machine_is (as-file s.machine _ s.step.machine_is)
takes-cuts wsize (machines.File (files.Read m)) sent turn came old next new after s = as-machine new s.machine (files.Read m) s.machine_is (as-file s.machine _ s.step.machine_is)
takes-cuts wsize (machines.File (files.Write m)) sent turn came old next new after s = as-machine new s.machine (files.Write m) s.machine_is (as-file s.machine _ s.step.machine_is)
takes-cuts wsize (machines.File (files.Sync m)) sent turn came old next new after s = as-machine new s.machine (files.Sync m) s.machine_is (as-file s.machine _ s.step.machine_is)
takes-cuts wsize (machines.File (files.Close m)) sent turn came old next new after s = as-machine new s.machine (files.Close m) s.machine_is (as-file s.machine _ s.step.machine_is)
takes-cuts wsize (machines.File (files.Truncate m)) sent turn came old next new after s = as-machine new s.machine (files.Truncate m) s.machine_is (as-file s.machine _ s.step.machine_is)
takes-cuts wsize (machines.File (files.Put m)) sent turn came old next new after s = as-machine new s.machine (files.Put m) s.machine_is (as-file s.machine _ s.step.machine_is)
takes-cuts wsize (machines.Path m) sent turn came old next new after s = ap cuts s.machine_is
takes-cuts wsize (machines.Name m) sent turn came old next new after s = ap cuts s.machine_is

begins-cuts : (m : Mounted) (lane : ℕ) (op : Op) → cuts (machine_of m lane op) ≡ cuts_op op
begins-cuts m lane (ops.OpenFile slot mode path) = refl
begins-cuts m lane (ops.Read slot offset count) = refl
begins-cuts m lane (ops.Write slot offset bytes) = refl
begins-cuts m lane (ops.Fill slot offset count byte) = refl
begins-cuts m lane (ops.Sync slot) = refl
begins-cuts m lane (ops.Close slot) = refl
begins-cuts m lane (ops.Truncate slot size) = refl
begins-cuts m lane (ops.Stat path) = refl
begins-cuts m lane (ops.Access path bits) = refl
begins-cuts m lane (ops.MakeDir path) = refl
begins-cuts m lane (ops.RemoveDir path) = refl
begins-cuts m lane (ops.Remove path) = refl
begins-cuts m lane (ops.Rename from to) = refl
begins-cuts m lane (ops.Link from to) = refl
begins-cuts m lane (ops.SymLink path target) = refl
begins-cuts m lane (ops.ReadLink path) = refl
begins-cuts m lane (ops.List path) = refl
begins-cuts m lane (ops.Put path offset bytes) = refl

-- ---- the story

abbrev CutStory : List Entry → ℕ → Op → State → Type 0
CutStory h x op (Busy machine) = cuts machine ≡ cuts_op op
CutStory h x op (Over answer) = Unit {0}

then-cuts : (h : List Entry) (x : ℕ) (op : Op) (next : Step) (new : Machine) → cuts new ≡ cuts_op op → ThenOf (λ m. CutStory h x op (Busy m)) (λ a. CutStory h x op (Over a)) next new
then-cuts h x op (nexts.Send call) new is = is
then-cuts h x op nexts.Wait new is = is
then-cuts h x op (nexts.Done answer) new is = tt

cut-later : (h : List Entry) (e : Entry) (x : ℕ) (op : Op) (state : State) → CutStory h x op state → CutStory (h ++ e ∷ []) x op state
cut-later h e x op (Busy machine) s = s
cut-later h e x op (Over answer) s = tt

cut-laws : (m : Mounted) → StoryLaws (machine_of m) CutStory
cut-laws m = record {
  starts = λ h lane line op wsize turn old next new after s.
      then-cuts (h ++ Began lane line op ∷ []) (length h) op next new (starts-cuts wsize (machine_of m lane op) turn old next new after s ∙ begins-cuts m lane op);
  resumes = λ h x op machine wsize turn old next new after story r. then-cuts h x op next new (resumes-cuts wsize machine turn old next new after r ∙ story);
  takes = λ h x op machine wsize sent turn came old next new after others story one told t.
      then-cuts h x op next new (takes-cuts wsize machine sent turn came old next new after t ∙ story);
  grows = cut-later;
  lost = λ h x op shown. tt;
}

-- ---- records that were sent

record IsTruncateOp (op : Op) : Type 0 where
  pub slot : ℕ
  pub size : ℕ
  pub is : op ≡ ops.Truncate slot size

truncate-op : (op : Op) → cuts_op op ≡ true → IsTruncateOp op
truncate-op (ops.Truncate slot size) is = record { slot = slot; size = size; is = refl }
truncate-op (ops.OpenFile slot mode path) is = absurd cc
truncate-op (ops.Read slot offset count) is = absurd cc
truncate-op (ops.Write slot offset bytes) is = absurd cc
truncate-op (ops.Fill slot offset count byte) is = absurd cc
truncate-op (ops.Sync slot) is = absurd cc
truncate-op (ops.Close slot) is = absurd cc
truncate-op (ops.Stat path) is = absurd cc
truncate-op (ops.Access path bits) is = absurd cc
truncate-op (ops.MakeDir path) is = absurd cc
truncate-op (ops.RemoveDir path) is = absurd cc
truncate-op (ops.Remove path) is = absurd cc
truncate-op (ops.Rename from to) is = absurd cc
truncate-op (ops.Link from to) is = absurd cc
truncate-op (ops.SymLink path target) is = absurd cc
truncate-op (ops.ReadLink path) is = absurd cc
truncate-op (ops.List path) is = absurd cc
truncate-op (ops.Put path offset bytes) is = absurd cc

module _ (mounted : Mounted) (setup : Setup) (h : List Entry) (i : ℕ) (bytes : List ℕ) where
  abbrev Sending : Type 0
  Sending = SentFor (machine_of mounted) (begins-unbegun mounted) setup Expects expects-laws h i bytes

  module _ (terms : Terms) (same : mounted.nocto ≡ terms.modes.nocto) (w : Sending) where
    -- its slot holds this file
    abbrev HeldOf : List Entry → ℕ → Op → List ℕ → Type 0
    HeldOf g x op f = (k : Held terms.modes g x op) × (k.o.file ≡ f)

    op-cuts : cuts w.machine ≡ cuts_op w.op
    op-cuts =
        (good-over (machine_of mounted) (begins-unbegun mounted) setup Always (λ g v r found lane other. tt) CutStory (over-laws (machine_of mounted) CutStory (cut-laws mounted)) w.before w.old w.reached
        w.at (record { number = w.lane; state = Busy w.machine }) w.busy).1 w.x w.op w.under_way

    runs : (slot size : ℕ) → w.op ≡ ops.Truncate slot size → SlotRuns terms.modes w.before w.x (ops.Truncate slot size) w.machine
    runs slot size is =
        (good-over (machine_of mounted) (begins-unbegun mounted) setup (Given terms.modes) (is-given terms.modes mounted same setup) (SlotStory terms.modes) (slot-laws terms.modes mounted) w.before w.old
        w.reached w.at (record { number = w.lane; state = Busy w.machine }) w.busy).1 w.x (ops.Truncate slot size)
        (subst (UnderWay w.before w.lane w.x (length w.before)) is w.under_way) tt

    of-now : (op : Op) (k : SlotRuns terms.modes w.before w.x op w.machine) → IsOf terms.modes h w.x op k.held.o.file
    of-now op k =
        let later = always-later (λ g. HeldOf g w.x op k.held.o.file) (λ g e t. (held-later terms.modes g e w.x op t.0, t.1)) w.before w.after (k.held, refl) in
        subst (λ (g : List Entry). IsOf terms.modes g w.x op k.held.o.file) (sym w.is)
        (subst (IsOf terms.modes (w.before ++ w.after) w.x op) later.1 (of-slot terms.modes (w.before ++ w.after) w.x op later.0))

    now : UnderWay h w.lane w.x i w.op
    now = subst (λ (k : List Entry). UnderWay k w.lane w.x i w.op) (sym w.is) (under-until w.before w.after w.lane w.x i w.op w.there w.under_way)

    same-file : (m n : FileMachine) → machines.File m ≡ machines.File n → m ≡ n
    same-file m n e = cc

    works-as : (slot size : ℕ) (f : List ℕ) (of : FileMachine) (m : TruncateFile) → of ≡ files.Truncate m → WorksAt (ops.Truncate slot size) f of → (m.size ≡ size) × CutAt f m.state
    works-as slot size f of m is k = subst (WorksAt (ops.Truncate slot size) f) is k

    file-at : (f file : List ℕ) (upto : ℕ) (state : Truncating) → state ≡ truncating.Asked file upto → CutAt f state → file ≡ f
    file-at f file upto state is k = subst (CutAt f) is k

    -- a SETATTR with a size is that of its truncate
    of-cut : (c : IsCut w.machine w.call) (f : List ℕ) (set : SetAttr) (guard : Option Time) (size : ℕ) → calls.File (file_calls.SetAttr f set guard) ≡ w.call → set.size ≡ Some size
        → IsTruncate terms.modes h i f size
    of-cut c f set guard size is sized =
        let op = truncate-op w.op (sym op-cuts ∙ ap cuts c.is) in
        let k = runs op.slot op.size op.is in
        let works = works-as op.slot op.size k.held.o.file k.of c.m (same-file k.of (files.Truncate c.m) (sym k.is ∙ c.is)) k.works in
        let held : c.file ≡ k.held.o.file = file-at k.held.o.file c.file c.upto c.m.state c.state works.1 in
        let call : calls.File (file_calls.SetAttr f set guard) ≡ truncates.size_call c.file c.m.size = is ∙ c.asks in
        let file : f ≡ k.held.o.file = its-file f c.file set _ guard None call ∙ held in
        let sizes : size ≡ op.size = some-size size op.size (sym sized ∙ its-size f c.file set _ guard None call ∙ ap Some works.0) in
        record {
          x = w.x;
          slot = op.slot;
          of = subst (λ (g : List ℕ). IsOf terms.modes h w.x (ops.Truncate op.slot size) g) (sym file)
              (subst (λ (n : ℕ). IsOf terms.modes h w.x (ops.Truncate op.slot n) k.held.o.file) (sym sizes) (of-now (ops.Truncate op.slot op.size) k));
          before = now.before;
          unanswered = now.unanswered;
        }
      where
        its-file : (a b : List ℕ) (s t : SetAttr) (x y : Option Time) → calls.File (file_calls.SetAttr a s x) ≡ calls.File (file_calls.SetAttr b t y) → a ≡ b
        its-file a b s t x y e = cc

        its-set : (a b : List ℕ) (s t : SetAttr) (x y : Option Time) → calls.File (file_calls.SetAttr a s x) ≡ calls.File (file_calls.SetAttr b t y) → s ≡ t
        its-set a b s t x y e = cc

        its-size : (a b : List ℕ) (s t : SetAttr) (x y : Option Time) → calls.File (file_calls.SetAttr a s x) ≡ calls.File (file_calls.SetAttr b t y) → s.size ≡ t.size
        its-size a b s t x y e = ap (λ (u : SetAttr). u.size) (its-set a b s t x y e)

        some-size : (a b : ℕ) → Some a ≡ Some b → a ≡ b
        some-size a b e = cc

    sent-size : (xid : ℕ) (f : List ℕ) (set : SetAttr) (guard : Option Time) (size : ℕ) → SpellsCall xid (calls.File (file_calls.SetAttr f set guard)) bytes → set.size ≡ Some size
        → IsTruncate terms.modes h i f size
    sent-size xid f set guard size spells sized = by (expects-tame w.machine w.call w.expects w.some)
      where
        is : calls.File (file_calls.SetAttr f set guard) ≡ w.call
        is = one-call xid w.xid (calls.File (file_calls.SetAttr f set guard)) w.call bytes tt spells w.made.spells

        by : IsCut w.machine w.call ⊎ Tame w.call → IsTruncate terms.modes h i f size
        by (inl c) = of-cut c f set guard size is sized
        by (inr tame) = absurd (subst Tame (sym is) tame)

  sent-made : (w : Sending) (xid : ℕ) (d name : List ℕ) (set : SetAttr) (size : ℕ) → SpellsCall xid (calls.Dir (dirs.Create d name (makings.Unchecked set))) bytes → set.size ≡ Some size → ⊥
  sent-made w xid d name set size spells sized = by (expects-tame w.machine w.call w.expects w.some)
    where
      is : calls.Dir (dirs.Create d name (makings.Unchecked set)) ≡ w.call
      is = one-call xid w.xid (calls.Dir (dirs.Create d name (makings.Unchecked set))) w.call bytes tt spells w.made.spells

      no-size : set.size ≡ None → ⊥
      no-size none = let no_way : None ≡ Some size = sym none ∙ sized in absurd cc

      other : (c : IsCut w.machine w.call) → ⊥
      other c = let no_way : calls.Dir (dirs.Create d name (makings.Unchecked set)) ≡ truncates.size_call c.file c.m.size = is ∙ c.asks in absurd cc

      by : IsCut w.machine w.call ⊎ Tame w.call → ⊥
      by (inl c) = other c
      by (inr tame) = no-size (subst Tame (sym is) tame)

pub sizes-asked : SizesAsked
sizes-asked m terms setup h v g n xid sent f set guard size at spells sized = elim (reached-sent (machine_of m) (begins-unbegun m) setup Expects expects-laws h v g.reaches n sent at) [
  | inl none ↦ inl none
  | inr w ↦ inr (sent-size m setup h n sent terms g.nocto w xid f set guard size spells sized)
]

pub no-sizes-made : NoSizesMade
no-sizes-made m setup h v r n xid sent d name set size at spells sized = elim (reached-sent (machine_of m) (begins-unbegun m) setup Expects expects-laws h v r n sent at) [
  | inl none ↦ none
  | inr w ↦ absurd (sent-made m setup h n sent w xid d name set size spells sized)
]
