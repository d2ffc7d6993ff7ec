-- Whole rows of the answers of syncs, closes, writes, fills and reads: with their values.
use Rattle.core_answers.proofs.Prelude.{◌≡◌, ℕ, List, Result, refl, ap, subst, ◌∙◌, Fault, Value, Entry, Reply, Op, Ended, Step, Shelf, Turn, file_to_write, file_at, CloseFile, ReadFile, SyncFile, WriteFile, Mounted, Machine, machine_of, Starts, Resumes, Takes, State, Busy, Over, Setup, View, Reaches, begins-unbegun, ThenOf}
use Rattle.std.specs.FinMap as finite
use Rattle.world_model.specs.declared.answer.Answer.TheVariants as answers
use Rattle.world_model.specs.declared.op.Op.TheVariants as ops
use Rattle.client_shelf.specs.declared.step.Step.TheVariants as nexts
use Rattle.op_machines.specs.declared.file_machine.FileMachine.TheVariants as files
use Rattle.op_machines.specs.declared.machine.Machine.TheVariants as machines
use Rattle.core_facts.proofs.Stories.{StoryLaws, reached-answered}
use Rattle.core_answers.proofs.rows.Valued.{OfAnswer, Gives, IsNothing, HasBytes, HasSpace, ReadStep, write-starts, write-resumes, write-takes, sync-starts, sync-resumes, sync-takes, close-starts, close-resumes, close-takes, read-starts, read-resumes, read-takes}

-- which operation it is, as far as its value goes
pub data Kind : Type 0 where
  writes : Kind
  syncs : Kind
  closes : Kind
  reads : (count : ℕ) → Kind
  others : Kind

abbrev pub kind_of : Op → Kind
kind_of (ops.Write slot offset bytes) = writes
kind_of (ops.Fill slot offset count byte) = writes
kind_of (ops.Sync slot) = syncs
kind_of (ops.Close slot) = closes
kind_of (ops.Read slot offset count) = reads count
kind_of op = others

abbrev pub Valued : Kind → Value → Type 0
Valued writes value = IsNothing value
Valued syncs value = IsNothing value
Valued closes value = IsNothing value
Valued (reads count) value = HasBytes count value
Valued others value = Unit {0}

pub record ReadRuns (count : ℕ) (machine : Machine) : Type 0 where
  pub m : ReadFile
  pub is : machine ≡ machines.File (files.Read m)
  pub asked : m.count ≡ count
  pub space : HasSpace count m.reading

pub record WriteRuns (machine : Machine) : Type 0 where
  pub m : WriteFile
  pub is : machine ≡ machines.File (files.Write m)

pub record SyncRuns (machine : Machine) : Type 0 where
  pub m : SyncFile
  pub is : machine ≡ machines.File (files.Sync m)

pub record CloseRuns (machine : Machine) : Type 0 where
  pub m : CloseFile
  pub is : machine ≡ machines.File (files.Close m)

abbrev pub Runs : Kind → Machine → Type 0
Runs writes machine = WriteRuns machine
Runs syncs machine = SyncRuns machine
Runs closes machine = CloseRuns machine
Runs (reads count) machine = ReadRuns count machine
Runs others machine = Unit {0}

abbrev pub ValueState : Kind → State → Type 0
ValueState kind (Busy machine) = Runs kind machine
ValueState kind (Over answer) = OfAnswer (Valued kind) answer

begins-so : (mounted : Mounted) (lane : ℕ) (op : Op) → Runs (kind_of op) (machine_of mounted lane op)
begins-so mounted lane (ops.Write slot offset bytes) = record { m = _; is = refl }
begins-so mounted lane (ops.Fill slot offset count byte) = record { m = _; is = refl }
begins-so mounted lane (ops.Sync slot) = record { m = _; is = refl }
begins-so mounted lane (ops.Close slot) = record { m = _; is = refl }
begins-so mounted lane (ops.Read slot offset count) = record { m = _; is = refl; asked = refl; space = tt }
begins-so mounted lane (ops.OpenFile slot mode path) = tt
begins-so mounted lane (ops.Put path offset bytes) = tt
begins-so mounted lane (ops.Truncate slot size) = tt
begins-so mounted lane (ops.Stat path) = tt
begins-so mounted lane (ops.Access path bits) = tt
begins-so mounted lane (ops.MakeDir path) = tt
begins-so mounted lane (ops.RemoveDir path) = tt
begins-so mounted lane (ops.Remove path) = tt
begins-so mounted lane (ops.Rename from to) = tt
begins-so mounted lane (ops.Link from to) = tt
begins-so mounted lane (ops.SymLink path target) = tt
begins-so mounted lane (ops.ReadLink path) = tt
begins-so mounted lane (ops.List path) = tt

-- ---- a step

abbrev Then : Kind → Step → Machine → Type 0
Then kind next new = ThenOf (λ m. ValueState kind (Busy m)) (λ a. ValueState kind (Over a)) next new

then-so : (kind : Kind) (next : Step) (new : Machine) → Gives (Valued kind) next → Runs kind new → Then kind next new
then-so kind (nexts.Send call) new g r = r
then-so kind nexts.Wait new g r = r
then-so kind (nexts.Done answer) new g r = g

others-give : (next : Step) → Gives (Valued others) next
others-give (nexts.Send call) = tt
others-give nexts.Wait = tt
others-give (nexts.Done (answers.Done value)) = tt
others-give (nexts.Done (answers.Refused fault)) = tt

read-runs : (count : ℕ) (m : ReadFile) (next : Step) (machine : ReadFile) (new : Machine) → m.count ≡ count → new ≡ machines.File (files.Read machine) → ReadStep count m next machine
    → Then (reads count) next new
read-runs count m next machine new asked is s = then-so (reads count) next new s.gives (record { m = machine; is = is; asked = s.same ∙ asked; space = s.space })

all-starts : (kind : Kind) (machine : Machine) (wsize : ℕ) (turn : Turn) (old : Shelf) (next : Step) (new : Machine) (after : Shelf) → Runs kind machine → Starts wsize machine turn old next new after
    → Then kind next new
all-starts writes machine wsize turn old next new after k s = by (subst (λ (n : Machine). Starts wsize n turn old next new after) k.is s)
  where
    by : Starts wsize (machines.File (files.Write k.m)) turn old next new after → Then writes next new
    by t = then-so writes next new (write-starts (file_to_write k.m.lane k.m.slot old.opens) wsize k.m turn old next t.step.machine after t.step.step)
        (record { m = t.step.machine; is = t.machine_is ∙ ap machines.File t.step.machine_is })
all-starts syncs machine wsize turn old next new after k s = by (subst (λ (n : Machine). Starts wsize n turn old next new after) k.is s)
  where
    by : Starts wsize (machines.File (files.Sync k.m)) turn old next new after → Then syncs next new
    by t = then-so syncs next new (sync-starts (file_at k.m.lane k.m.slot old.opens) wsize k.m turn old next t.step.state after t.step.step)
        (record { m = record k.m { state = t.step.state }; is = t.machine_is ∙ ap machines.File t.step.machine_is })
all-starts closes machine wsize turn old next new after k s = by (subst (λ (n : Machine). Starts wsize n turn old next new after) k.is s)
  where
    by : Starts wsize (machines.File (files.Close k.m)) turn old next new after → Then closes next new
    by t = then-so closes next new (close-starts (file_at k.m.lane k.m.slot old.opens) wsize k.m turn old next t.step.state after t.step.step)
        (record { m = record k.m { state = t.step.state }; is = t.machine_is ∙ ap machines.File t.step.machine_is })
all-starts (reads count) machine wsize turn old next new after k s = by (subst (λ (n : Machine). Starts wsize n turn old next new after) k.is s)
  where
    by : Starts wsize (machines.File (files.Read k.m)) turn old next new after → Then (reads count) next new
    by t = read-runs count k.m next t.step.machine new k.asked (t.machine_is ∙ ap machines.File t.step.machine_is)
        (read-starts count (finite.get old.opens (k.m.lane, k.m.slot)) turn k.m old.pages old.back next t.step.machine after.pages k.asked k.space t.step.step)
all-starts others machine wsize turn old next new after k s = then-so others next new (others-give next) tt

all-resumes : (kind : Kind) (machine : Machine) (wsize : ℕ) (turn : Turn) (old : Shelf) (next : Step) (new : Machine) (after : Shelf) → Runs kind machine
    → Resumes wsize machine turn old next new after → Then kind next new
all-resumes writes machine wsize turn old next new after k s = by (subst (λ (n : Machine). Resumes wsize n turn old next new after) k.is s)
  where
    by : Resumes wsize (machines.File (files.Write k.m)) turn old next new after → Then writes next new
    by t = then-so writes next new (write-resumes k.m.state wsize k.m.lane turn old next t.step.state after t.step.step)
        (record { m = record k.m { state = t.step.state }; is = t.machine_is ∙ ap machines.File t.step.machine_is })
all-resumes syncs machine wsize turn old next new after k s = by (subst (λ (n : Machine). Resumes wsize n turn old next new after) k.is s)
  where
    by : Resumes wsize (machines.File (files.Sync k.m)) turn old next new after → Then syncs next new
    by t = then-so syncs next new (sync-resumes k.m.state wsize k.m turn old next t.step.state after t.step.step)
        (record { m = record k.m { state = t.step.state }; is = t.machine_is ∙ ap machines.File t.step.machine_is })
all-resumes closes machine wsize turn old next new after k s = by (subst (λ (n : Machine). Resumes wsize n turn old next new after) k.is s)
  where
    by : Resumes wsize (machines.File (files.Close k.m)) turn old next new after → Then closes next new
    by t = then-so closes next new (close-resumes k.m.state wsize k.m turn old next t.step.state after t.step.step)
        (record { m = record k.m { state = t.step.state }; is = t.machine_is ∙ ap machines.File t.step.machine_is })
all-resumes (reads count) machine wsize turn old next new after k s = by (subst (λ (n : Machine). Resumes wsize n turn old next new after) k.is s)
  where
    by : Resumes wsize (machines.File (files.Read k.m)) turn old next new after → Then (reads count) next new
    by t = read-runs count k.m next t.step.machine new k.asked (t.machine_is ∙ ap machines.File t.step.machine_is)
        (read-resumes count k.m.reading turn.room k.m old.pages old.back next t.step.machine after.pages refl k.space t.step.step)
all-resumes others machine wsize turn old next new after k s = then-so others next new (others-give next) tt

all-takes : (kind : Kind) (machine : Machine) (wsize : ℕ) (sent turn : Turn) (came : Result Reply Fault) (old : Shelf) (next : Step) (new : Machine) (after : Shelf) → Runs kind machine
    → Takes wsize machine sent turn came old next new after → Then kind next new
all-takes writes machine wsize sent turn came old next new after k s = by (subst (λ (n : Machine). Takes wsize n sent turn came old next new after) k.is s)
  where
    by : Takes wsize (machines.File (files.Write k.m)) sent turn came old next new after → Then writes next new
    by t = then-so writes next new (write-takes k.m.state wsize k.m sent turn came old next t.step.state after t.step.step)
        (record { m = record k.m { state = t.step.state }; is = t.machine_is ∙ ap machines.File t.step.machine_is })
all-takes syncs machine wsize sent turn came old next new after k s = by (subst (λ (n : Machine). Takes wsize n sent turn came old next new after) k.is s)
  where
    by : Takes wsize (machines.File (files.Sync k.m)) sent turn came old next new after → Then syncs next new
    by t = then-so syncs next new (sync-takes k.m.state wsize k.m sent turn came old next t.step.state after t.step.step)
        (record { m = record k.m { state = t.step.state }; is = t.machine_is ∙ ap machines.File t.step.machine_is })
all-takes closes machine wsize sent turn came old next new after k s = by (subst (λ (n : Machine). Takes wsize n sent turn came old next new after) k.is s)
  where
    by : Takes wsize (machines.File (files.Close k.m)) sent turn came old next new after → Then closes next new
    by t = then-so closes next new (close-takes k.m.state wsize k.m sent turn came old next t.step.state after t.step.step)
        (record { m = record k.m { state = t.step.state }; is = t.machine_is ∙ ap machines.File t.step.machine_is })
all-takes (reads count) machine wsize sent turn came old next new after k s = by (subst (λ (n : Machine). Takes wsize n sent turn came old next new after) k.is s)
  where
    by : Takes wsize (machines.File (files.Read k.m)) sent turn came old next new after → Then (reads count) next new
    by t = read-runs count k.m next t.step.machine new k.asked (t.machine_is ∙ ap machines.File t.step.machine_is)
        (read-takes count k.m.reading sent turn came old.repeats k.m old.pages old.back next t.step.machine after.pages refl k.space t.step.step)
all-takes others machine wsize sent turn came old next new after k s = then-so others next new (others-give next) tt

-- ---- the story

abbrev ValueStory : List Entry → ℕ → Op → State → Type 0
ValueStory h x op state = ValueState (kind_of op) state

value-laws : (mounted : Mounted) → StoryLaws (machine_of mounted) ValueStory
value-laws mounted = record {
  starts = λ h lane line op wsize turn old next new after s. all-starts (kind_of op) (machine_of mounted lane op) wsize turn old next new after (begins-so mounted lane op) s;
  resumes = λ h x op machine wsize turn old next new after story r. all-resumes (kind_of op) machine wsize turn old next new after story r;
  takes = λ h x op machine wsize sent turn came old next new after count story one told t. all-takes (kind_of op) machine wsize sent turn came old next new after story t;
  grows = λ h e x op state story. story;
  lost = λ h x op shown. tt;
}

pub has-value : (mounted : Mounted) (setup : Setup) (h : List Entry) (v : View) → Reaches (machine_of mounted) setup h v → (lane x y : ℕ) (op : Op) (value : Value)
    → Ended h lane x op y (answers.Done value) → Valued (kind_of op) value
has-value mounted setup h v r lane x y op value ended =
    (reached-answered (machine_of mounted) (begins-unbegun mounted) setup ValueStory (value-laws mounted) h v r lane x op y (answers.Done value) ended).story
