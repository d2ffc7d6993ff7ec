-- An operation on a slot goes on only where the slot holds an open for it, as it begins.
use Rattle.core_facts.proofs.Prelude.{◌≡◌, ◌⊎◌, inl, inr, ℕ, Bool, true, false, List, [], ◌∷◌, ◌++◌, length, Option, Some, None, option_map, Result, Ok, Err, refl, sym, ap, subst, ◌∙◌, arith, append_assoc, Mode, Opened, Answer, Fault, Value, Entry, Began, Op, At, Modes, Ended, can_write, slot_of, At-grow, At-below, At-last, At-one, Step, Shelf, Turn, CloseFile, Closing, ReadFile, Reading, SyncFile, Syncing, TruncateFile, WriteFile, Pages, Pending, Mounted, Machine, machine_of, Starts, State, Busy, Over, Setup, View, Reaches}
use Rattle.claims.specs.Rights.{can_read}
use Rattle.std.proofs.lemmas.List.{append-nil}
use Rattle.std.specs.FinMap as finite
use Rattle.nfs_types.specs.declared.mode.Mode.TheVariants as modes
use Rattle.world_model.specs.declared.answer.Answer.TheVariants as answers
use Rattle.world_model.specs.declared.answer.Fault.TheVariants as faults
use Rattle.world_model.specs.declared.op.Op.TheVariants as ops
use Rattle.client_shelf.specs.declared.step.Step.TheVariants as nexts
use Rattle.file_ops.specs.Closes as closes
use Rattle.file_ops.specs.Opens.{of_open, in_mode}
use Rattle.file_ops.specs.ReadFile as reads
use Rattle.file_ops.specs.Syncs as syncs
use Rattle.file_ops.specs.TruncateFile as truncates
use Rattle.file_ops.specs.WriteFile as writes
use Rattle.core_facts.proofs.AllCounts.{begins-unbegun}
use Rattle.core_facts.proofs.SlotGrowth.{IsHeld, held-grow, IsShown, Agrees}
use Rattle.core_facts.proofs.Slots.{SlotsAgree}
use Rattle.core_facts.proofs.SlotsAlong.{reached-slots}
use Rattle.core_facts.proofs.Steps.{ThenOf}
use Rattle.core_facts.proofs.Stories.{LawsOver, IsGiven, answered-over}

-- ---- what a slot has to hold

-- whether an open of this mode is for the operation
abbrev pub may : Op → Mode → Bool
may (ops.Read slot offset count) mode = can_read mode
may (ops.Write slot offset bytes) mode = can_write mode
may (ops.Fill slot offset count byte) mode = can_write mode
may (ops.Truncate slot size) mode = can_write mode
may op mode = true

-- As it begins, the slot of the operation holds this open, which is for it.
pub record Held (m : Modes) (h : List Entry) (x : ℕ) (op : Op) : Type 0 where
  pub lane : ℕ
  pub line : ℕ
  pub slot : ℕ
  pub o : Opened
  pub began : At h x (Began lane line op)
  pub works_on : slot_of op ≡ Some slot
  pub held : IsHeld m h x lane slot o.file o.mode
  pub right : may op o.mode ≡ true

abbrev pub held-later : (m : Modes) (h : List Entry) (e : Entry) (x : ℕ) (op : Op) → Held m h x op → Held m (h ++ e ∷ []) x op
held-later m h e x op k = record {
  lane = k.lane;
  line = k.line;
  slot = k.slot;
  o = k.o;
  began = At-grow h (e ∷ []) x (Began k.lane k.line op) k.began;
  works_on = k.works_on;
  held = let low = At-below h x (Began k.lane k.line op) k.began in held-grow m h e k.lane k.slot k.o.file k.o.mode x (omega (arith, low)) k.held;
  right = k.right;
}

-- what holds with one entry more holds with any more
pub always-later : (P : List Entry → Type 0) → ((h : List Entry) (e : Entry) → P h → P (h ++ e ∷ [])) → (h more : List Entry) → P h → P (h ++ more)
always-later P step h [] p = subst P (sym (append-nil h)) p
always-later P step h (e ∷ more) p = subst P (append_assoc h (e ∷ []) more) (always-later P step (h ++ e ∷ []) more (step h e p))

-- ---- its first step

-- It goes on where the slot holds an open that is for it; else it is refused.
pub data Goes (op : Op) (at : Option Opened) (next : Step) : Type 0 where
  goes_well : (o : Opened) → at ≡ Some o → may op o.mode ≡ true → Goes op at next
  finds_none : at ≡ None → next ≡ nexts.Done (answers.Refused faults.Slot) → Goes op at next
  finds_other : (o : Opened) → at ≡ Some o → may op o.mode ≡ false → next ≡ nexts.Done (answers.Refused faults.Mode) → Goes op at next

-- a read
read-begins : (at : Option Opened) (slot offset count moment : ℕ) (m : ReadFile) (back : Pending) (reading : Result Reading Fault) (room : Bool) (pages : Pages) (now : Pending) (next : Step) (new : ReadFile)
    (later : Pages) → reads.Begins (reads.begun_at at moment m back) reading → reads.StartsWith reading room m pages now next new later → Goes (ops.Read slot offset count) at next
read-begins None slot offset count moment m back reading room pages now next new later b s =
    finds_none refl (subst (λ (r : Result Reading Fault). reads.StartsWith r room m pages now next new later) b s).step
read-begins (Some o) slot offset count moment m back reading room pages now next new later b s = by o.mode refl b
  where
    by : (mode : Mode) → o.mode ≡ mode → reads.Begins (reads.begun_in mode moment m o.file back) reading → Goes (ops.Read slot offset count) (Some o) next
    by modes.W is b =
        finds_other o refl (ap can_read is) (subst (λ (r : Result Reading Fault). reads.StartsWith r room m pages now next new later) b s).step
    by modes.R is b = goes_well o refl (ap can_read is)
    by modes.RW is b = goes_well o refl (ap can_read is)
    by modes.C is b = goes_well o refl (ap can_read is)
    by modes.X is b = goes_well o refl (ap can_read is)

-- a write, a fill or a truncate
pub data FindsToWrite (at : Option Opened) (found : Result (List ℕ) Fault) : Type 0 where
  to_write : (o : Opened) → at ≡ Some o → can_write o.mode ≡ true → found ≡ Ok o.file → FindsToWrite at found
  to_none : at ≡ None → found ≡ Err faults.Slot → FindsToWrite at found
  to_read : (o : Opened) → at ≡ Some o → can_write o.mode ≡ false → found ≡ Err faults.Mode → FindsToWrite at found

finds-to-write : (at : Option Opened) → FindsToWrite at (of_open at)
finds-to-write None = to_none refl refl
finds-to-write (Some o) = by o.mode refl
  where
    by : (mode : Mode) → o.mode ≡ mode → FindsToWrite (Some o) (in_mode o.mode o.file)
    by modes.R is = to_read o refl (ap can_write is) (ap (λ (k : Mode). in_mode k o.file) is)
    by modes.W is = to_write o refl (ap can_write is) (ap (λ (k : Mode). in_mode k o.file) is)
    by modes.RW is = to_write o refl (ap can_write is) (ap (λ (k : Mode). in_mode k o.file) is)
    by modes.C is = to_write o refl (ap can_write is) (ap (λ (k : Mode). in_mode k o.file) is)
    by modes.X is = to_write o refl (ap can_write is) (ap (λ (k : Mode). in_mode k o.file) is)

write-refused : (fault : Fault) (wsize : ℕ) (m : WriteFile) (turn : Turn) (old : Shelf) (next : Step) (new : WriteFile) (after : Shelf) (found : Result (List ℕ) Fault) → found ≡ Err fault
    → writes.StartsAt found wsize m turn old next new after → next ≡ nexts.Done (answers.Refused fault)
write-refused fault wsize m turn old next new after found is s = (subst (λ (r : Result (List ℕ) Fault). writes.StartsAt r wsize m turn old next new after) is s).refuses.gives_next

write-goes : (op : Op) (at : Option Opened) (wsize : ℕ) (m : WriteFile) (turn : Turn) (old : Shelf) (next : Step) (new : WriteFile) (after : Shelf) → ((mode : Mode) → may op mode ≡ can_write mode)
    → FindsToWrite at (of_open at) → writes.StartsAt (of_open at) wsize m turn old next new after → Goes op at next
write-goes op at wsize m turn old next new after same (to_write o is right found) s = goes_well o is (same o.mode ∙ right)
write-goes op at wsize m turn old next new after same (to_none is found) s = finds_none is (write-refused faults.Slot wsize m turn old next new after (of_open at) found s)
write-goes op at wsize m turn old next new after same (to_read o is right found) s =
    finds_other o is (same o.mode ∙ right) (write-refused faults.Mode wsize m turn old next new after (of_open at) found s)

truncate-goes : (slot size : ℕ) (at : Option Opened) (m : TruncateFile) (turn : Turn) (old : Shelf) (next : Step) → FindsToWrite at (of_open at)
    → next ≡ truncates.begun_next (of_open at) m turn old → Goes (ops.Truncate slot size) at next
truncate-goes slot size at m turn old next (to_write o is right found) s = goes_well o is right
truncate-goes slot size at m turn old next (to_none is found) s = finds_none is (s ∙ ap (λ (r : Result (List ℕ) Fault). truncates.begun_next r m turn old) found)
truncate-goes slot size at m turn old next (to_read o is right found) s = finds_other o is right (s ∙ ap (λ (r : Result (List ℕ) Fault). truncates.begun_next r m turn old) found)

-- a sync or a close
sync-goes : (slot : ℕ) (at : Option Opened) (wsize : ℕ) (m : SyncFile) (turn : Turn) (old : Shelf) (next : Step) (state : Syncing) (new : Shelf)
    → syncs.StartsAt (option_map (λ (o : Opened). o.file) at) wsize m turn old next state new → Goes (ops.Sync slot) at next
sync-goes slot None wsize m turn old next state new s = finds_none refl s.next_is
sync-goes slot (Some o) wsize m turn old next state new s = goes_well o refl refl

close-goes : (slot : ℕ) (at : Option Opened) (wsize : ℕ) (m : CloseFile) (turn : Turn) (old : Shelf) (next : Step) (state : Closing) (new : Shelf)
    → closes.StartsAt (option_map (λ (o : Opened). o.file) at) wsize m turn old next state new → Goes (ops.Close slot) at next
close-goes slot None wsize m turn old next state new s = finds_none refl s.next_is
close-goes slot (Some o) wsize m turn old next state new s = goes_well o refl refl

-- any of them
one-slot : (a b : ℕ) → Some a ≡ Some b → a ≡ b
one-slot a b e = cc

none-slot : (slot : ℕ) → None ≡ Some slot → ⊥
none-slot slot e = cc

at-slot : (op : Op) (lane a b : ℕ) (old : Shelf) (next : Step) → Some a ≡ Some b → Goes op (finite.get old.opens (lane, a)) next → Goes op (finite.get old.opens (lane, b)) next
at-slot op lane a b old next is g = subst (λ (s : ℕ). Goes op (finite.get old.opens (lane, s)) next) (one-slot a b is) g

pub all-goes : (mounted : Mounted) (op : Op) (slot lane : ℕ) (wsize : ℕ) (turn : Turn) (old : Shelf) (next : Step) (new : Machine) (after : Shelf) → slot_of op ≡ Some slot
    → Starts wsize (machine_of mounted lane op) turn old next new after → Goes op (finite.get old.opens (lane, slot)) next
all-goes mounted (ops.Read k offset count) slot lane wsize turn old next new after is s =
    at-slot (ops.Read k offset count) lane k slot old next is
    (read-begins (finite.get old.opens (lane, k)) k offset count _ _ old.back s.step.step.reading turn.room old.pages old.back next s.step.machine after.pages s.step.step.begins s.step.step.goes)
all-goes mounted (ops.Write k offset bytes) slot lane wsize turn old next new after is s =
    at-slot (ops.Write k offset bytes) lane k slot old next is
    (write-goes (ops.Write k offset bytes) (finite.get old.opens (lane, k)) wsize _ turn old next s.step.machine after (λ mode. refl) (finds-to-write (finite.get old.opens (lane, k))) s.step.step)
all-goes mounted (ops.Fill k offset count byte) slot lane wsize turn old next new after is s =
    at-slot (ops.Fill k offset count byte) lane k slot old next is
    (write-goes (ops.Fill k offset count byte) (finite.get old.opens (lane, k)) wsize _ turn old next s.step.machine after (λ mode. refl) (finds-to-write (finite.get old.opens (lane, k))) s.step.step)
all-goes mounted (ops.Sync k) slot lane wsize turn old next new after is s =
    at-slot (ops.Sync k) lane k slot old next is (sync-goes k (finite.get old.opens (lane, k)) wsize _ turn old next s.step.state after s.step.step)
all-goes mounted (ops.Close k) slot lane wsize turn old next new after is s =
    at-slot (ops.Close k) lane k slot old next is (close-goes k (finite.get old.opens (lane, k)) wsize _ turn old next s.step.state after s.step.step)
all-goes mounted (ops.Truncate k size) slot lane wsize turn old next new after is s =
    at-slot (ops.Truncate k size) lane k slot old next is
    (truncate-goes k size (finite.get old.opens (lane, k)) _ turn old next (finds-to-write (finite.get old.opens (lane, k))) s.step.next_is)
all-goes mounted (ops.OpenFile k mode path) slot lane wsize turn old next new after is s = absurd (none-slot slot is)
all-goes mounted (ops.Put path offset bytes) slot lane wsize turn old next new after is s = absurd (none-slot slot is)
all-goes mounted (ops.Stat path) slot lane wsize turn old next new after is s = absurd (none-slot slot is)
all-goes mounted (ops.Access path bits) slot lane wsize turn old next new after is s = absurd (none-slot slot is)
all-goes mounted (ops.MakeDir path) slot lane wsize turn old next new after is s = absurd (none-slot slot is)
all-goes mounted (ops.RemoveDir path) slot lane wsize turn old next new after is s = absurd (none-slot slot is)
all-goes mounted (ops.Remove path) slot lane wsize turn old next new after is s = absurd (none-slot slot is)
all-goes mounted (ops.Rename from to) slot lane wsize turn old next new after is s = absurd (none-slot slot is)
all-goes mounted (ops.Link from to) slot lane wsize turn old next new after is s = absurd (none-slot slot is)
all-goes mounted (ops.SymLink path target) slot lane wsize turn old next new after is s = absurd (none-slot slot is)
all-goes mounted (ops.ReadLink path) slot lane wsize turn old next new after is s = absurd (none-slot slot is)
all-goes mounted (ops.List path) slot lane wsize turn old next new after is s = absurd (none-slot slot is)

-- ---- the story

-- the table says of the slots of the lane that begins what the history shows
abbrev pub Given : Modes → List Entry → ℕ → Shelf → Type 0
Given m h lane shelf = SlotsAgree m h lane shelf.opens

pub is-given : (m : Modes) (mounted : Mounted) → mounted.nocto ≡ m.nocto → (setup : Setup) → IsGiven (machine_of mounted) setup (Given m)
is-given m mounted same setup h v r found lane other = (reached-slots m mounted same setup h v r found).idle lane other

-- what the slot holds as the operation begins
abbrev pub held-begins : (m : Modes) (h : List Entry) (lane line slot : ℕ) (op : Op) (o : Opened) (old : Shelf) → Given m h lane old → slot_of op ≡ Some slot → finite.get old.opens (lane, slot) ≡ Some o
    → may op o.mode ≡ true → Held m (h ++ Began lane line op ∷ []) (length h) op
held-begins m h lane line slot op o old given works_on there right =
    let shown : IsShown m h lane slot o = subst (Agrees m h lane slot) there (given slot) in
    record {
      lane = lane;
      line = line;
      slot = slot;
      o = o;
      began = At-last h (Began lane line op);
      works_on = works_on;
      held = held-grow m h (Began lane line op) lane slot o.file o.mode (length h) (omega arith) shown.held;
      right = right;
    }

abbrev StateHeld : Modes → List Entry → ℕ → Op → State → Type 0
StateHeld m h x op (Busy machine) = Held m h x op
StateHeld m h x op (Over (answers.Done value)) = Held m h x op
StateHeld m h x op (Over (answers.Refused fault)) = Unit {0}

abbrev HeldStory : Modes → List Entry → ℕ → Op → State → Type 0
HeldStory m h x op state = (slot : ℕ) → slot_of op ≡ Some slot → StateHeld m h x op state

answer-held : (m : Modes) (h : List Entry) (x : ℕ) (op : Op) (answer : Answer) → Held m h x op → StateHeld m h x op (Over answer)
answer-held m h x op (answers.Done value) k = k
answer-held m h x op (answers.Refused fault) k = tt

then-held : (m : Modes) (h : List Entry) (x : ℕ) (op : Op) (next : Step) (new : Machine) → ((slot : ℕ) → slot_of op ≡ Some slot → Held m h x op)
    → ThenOf (λ k. HeldStory m h x op (Busy k)) (λ a. HeldStory m h x op (Over a)) next new
then-held m h x op (nexts.Send call) new k = k
then-held m h x op nexts.Wait new k = k
then-held m h x op (nexts.Done answer) new k = λ slot is. answer-held m h x op answer (k slot is)

-- at its first step
then-begins : (m : Modes) (h : List Entry) (x : ℕ) (op : Op) (next : Step) (new : Machine) → ((slot : ℕ) → slot_of op ≡ Some slot → Held m h x op ⊎ ((fault : Fault) × (next ≡ nexts.Done (answers.Refused fault))))
    → ThenOf (λ k. HeldStory m h x op (Busy k)) (λ a. HeldStory m h x op (Over a)) next new
then-begins m h x op next new k = by next refl
  where
    by : (n : Step) → next ≡ n → ThenOf (λ k. HeldStory m h x op (Busy k)) (λ a. HeldStory m h x op (Over a)) n new
    by (nexts.Send call) is = λ slot on. elim (k slot on) [
      | inl held ↦ held
      | inr refused ↦ absurd (let no_way : nexts.Send call ≡ nexts.Done (answers.Refused refused.0) = sym is ∙ refused.1 in cc)
    ]
    by nexts.Wait is = λ slot on. elim (k slot on) [
      | inl held ↦ held
      | inr refused ↦ absurd (let no_way : nexts.Wait ≡ nexts.Done (answers.Refused refused.0) = sym is ∙ refused.1 in cc)
    ]
    by (nexts.Done (answers.Done value)) is = λ slot on. elim (k slot on) [
      | inl held ↦ held
      | inr refused ↦ absurd (let no_way : nexts.Done (answers.Done value) ≡ nexts.Done (answers.Refused refused.0) = sym is ∙ refused.1 in cc)
    ]
    by (nexts.Done (answers.Refused fault)) is = λ slot on. tt

goes-held : (m : Modes) (h : List Entry) (lane line slot : ℕ) (op : Op) (old : Shelf) (next : Step) → Given m h lane old → slot_of op ≡ Some slot → Goes op (finite.get old.opens (lane, slot)) next
    → Held m (h ++ Began lane line op ∷ []) (length h) op ⊎ ((fault : Fault) × (next ≡ nexts.Done (answers.Refused fault)))
goes-held m h lane line slot op old next given on (goes_well o is right) = inl (held-begins m h lane line slot op o old given on is right)
goes-held m h lane line slot op old next given on (finds_none is ends) = inr (faults.Slot, ends)
goes-held m h lane line slot op old next given on (finds_other o is right ends) = inr (faults.Mode, ends)

state-later : (m : Modes) (h : List Entry) (e : Entry) (x : ℕ) (op : Op) (state : State) → StateHeld m h x op state → StateHeld m (h ++ e ∷ []) x op state
state-later m h e x op (Busy machine) s = held-later m h e x op s
state-later m h e x op (Over (answers.Done value)) s = held-later m h e x op s
state-later m h e x op (Over (answers.Refused fault)) s = tt

held-laws : (m : Modes) (mounted : Mounted) → LawsOver (Given m) (machine_of mounted) (HeldStory m)
held-laws m mounted = record {
  starts = λ h lane line op wsize turn old next new after given s.
      then-begins m (h ++ Began lane line op ∷ []) (length h) op next new (λ slot on. goes-held m h lane line slot op old next given on (all-goes mounted op slot lane wsize turn old next new after on s));
  resumes = λ h x op machine wsize turn old next new after story r. then-held m h x op next new story;
  takes = λ h x op machine wsize sent turn came old next new after others story one told t. then-held m h x op next new story;
  grows = λ h e x op state story slot on. state-later m h e x op state (story slot on);
  lost = λ h x op shown slot on. tt;
}

-- an operation on a slot that went well
pub held-ended : (m : Modes) (mounted : Mounted) → mounted.nocto ≡ m.nocto → (setup : Setup) (h : List Entry) (v : View) → Reaches (machine_of mounted) setup h v
    → (lane x slot : ℕ) (op : Op) (y : ℕ) (value : Value) → slot_of op ≡ Some slot → Ended h lane x op y (answers.Done value) → Held m h x op
held-ended m mounted same setup h v r lane x slot op y value on ended =
    let s = answered-over (machine_of mounted) (begins-unbegun mounted) setup (Given m) (is-given m mounted same setup) (HeldStory m) (held-laws m mounted) h v r lane x op y (answers.Done value) ended in
    subst (λ (g : List Entry). Held m g x op) (sym s.is) (always-later (λ g. Held m g x op) (λ g e k. held-later m g e x op k) s.before s.after (s.story slot on))

-- in the lane in which it began
pub record HeldIn (m : Modes) (h : List Entry) (lane x slot : ℕ) (op : Op) : Type 0 where
  pub o : Opened
  pub held : IsHeld m h x lane slot o.file o.mode
  pub right : may op o.mode ≡ true

began-lane : (a b c d : ℕ) (o p : Op) → Began a b o ≡ Began c d p → a ≡ c
began-lane a b c d o p e = cc

pub held-in : (m : Modes) (h : List Entry) (lane line x slot : ℕ) (op : Op) → At h x (Began lane line op) → slot_of op ≡ Some slot → Held m h x op → HeldIn m h lane x slot op
held-in m h lane line x slot op began on k =
    let is : k.lane ≡ lane = began-lane k.lane k.line lane line op op (At-one h x (Began k.lane k.line op) (Began lane line op) k.began began) in
    let at : k.slot ≡ slot = one-slot k.slot slot (sym k.works_on ∙ on) in
    record {
      o = k.o;
      held = subst (λ (n : ℕ). IsHeld m h x n slot k.o.file k.o.mode) is (subst (λ (s : ℕ). IsHeld m h x k.lane s k.o.file k.o.mode) at k.held);
      right = k.right;
    }
