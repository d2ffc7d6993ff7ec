-- How far an operation that writes has come, and what one step of any operation makes of how many bytes are pending.
use Rattle.core_session.proofs.Prelude.{◌≡◌, ◌≤◌, ◌<◌, ◌+◌, ◌-◌, ◌⊎◌, inl, inr, ℕ, Bool, true, false, List, [], ◌∷◌, length, replicate, Option, Some, None, Result, Ok, Err, refl, sym, ap, subst, ◌∙◌, arith, Answer, Fault, Value, Call, Step, Putting, Writing, FileMachine, Machine, Opener, file_of, State, Busy, Over}
use Rattle.world_model.specs.declared.answer.Answer.TheVariants as answers
use Rattle.claims.specs.Asks.{most_pending}
use Rattle.client_shelf.specs.declared.step.Step.TheVariants as nexts
use Rattle.file_ops.specs.declared.put_file.Putting.TheVariants as puttings
use Rattle.file_ops.specs.declared.write_file.Text.{Text}
use Rattle.file_ops.specs.declared.write_file.Text.TheVariants as texts
use Rattle.file_ops.specs.declared.write_file.Writing.TheVariants as writings
use Rattle.file_ops.specs.WriteFile as writes
use Rattle.op_machines.specs.declared.file_machine.FileMachine.TheVariants as files
use Rattle.op_machines.specs.declared.machine.Machine.TheVariants as machines
use Rattle.op_machines.specs.declared.opener.Opener.TheVariants as openers

-- It writes nothing; or it is a write or fill of so many bytes, or a put, whose bytes aren't pending yet, and makes room for them or not; or a put whose
-- bytes were.
pub data Stage : Type 0 where
  neither : Stage
  storing : (size : ℕ) (room : Bool) → Stage
  putting : (size : ℕ) (room : Bool) → Stage
  settling : Stage

abbrev pub is_room : Writing → Bool
is_room writings.Idle = false
is_room (writings.Room file saving) = true

abbrev pub put_stage : Putting → ℕ → Stage
put_stage puttings.Idle size = putting size false
put_stage puttings.Opens size = putting size false
put_stage (puttings.Adds file) size = putting size true
put_stage (puttings.Saves saving) size = settling

abbrev pub file_stage : FileMachine → Stage
file_stage (files.Open m) = neither
file_stage (files.Read m) = neither
file_stage (files.Write m) = storing (length (writes.text_bytes m.text)) (is_room m.state)
file_stage (files.Sync m) = neither
file_stage (files.Close m) = neither
file_stage (files.Truncate m) = neither
file_stage (files.Put m) = put_stage m.state (length (writes.text_bytes m.write.text))

-- before its directory is found
abbrev pub before_stage : Opener → Stage
before_stage (openers.Open m) = neither
before_stage (openers.Put m) = putting (length (writes.text_bytes m.write.text)) false

abbrev pub path_stage : Bool → Opener → Stage
path_stage true opener = file_stage (file_of opener)
path_stage false opener = before_stage opener

abbrev pub stage_of : Machine → Stage
stage_of (machines.File m) = file_stage m
stage_of (machines.Path m) = path_stage m.arrived m.opener
stage_of (machines.Name m) = neither

-- it goes on, or has its answer
pub data Outcome : Type 0 where
  going : (stage : Stage) → Outcome
  over : (answer : Answer) → Outcome

abbrev pub outcome : Step → Stage → Outcome
outcome (nexts.Send call) stage = going stage
outcome nexts.Wait stage = going stage
outcome (nexts.Done answer) stage = over answer

abbrev pub outcome_of : State → Outcome
outcome_of (Busy machine) = going (stage_of machine)
outcome_of (Over answer) = over answer

-- A step leads from a stage to an outcome, where so many bytes were pending before and after it: it adds none and leaves the stage or ends; it adds those
-- of the operation; or it finds no room for them.
pub data Verdict (old after : ℕ) (stage : Stage) (out : Outcome) : Type 0 where
  rests : after ≤ old → out ≡ going stage → Verdict old after stage out
  ends : (answer : Answer) → after ≤ old → out ≡ over answer → Verdict old after stage out
  stores : (size : ℕ) (room : Bool) (value : Value) → after ≤ old + size → stage ≡ storing size room → out ≡ over (answers.Done value) → Verdict old after stage out
  puts : (size : ℕ) (room : Bool) → after ≤ old + size → stage ≡ putting size room → out ≡ going settling → Verdict old after stage out
  puts_over : (size : ℕ) (room : Bool) (answer : Answer) → after ≤ old + size → stage ≡ putting size room → out ≡ over answer → Verdict old after stage out
  crowds_store : (size : ℕ) (room : Bool) → after ≤ old → most_pending < old + size → stage ≡ storing size room → out ≡ going (storing size true) → Verdict old after stage out
  crowds_put : (size : ℕ) (room : Bool) → after ≤ old → most_pending < old + size → stage ≡ putting size room → out ≡ going (putting size true) → Verdict old after stage out

-- ---- one that writes nothing

pub quiet-verdict : (old after : ℕ) (stage : Stage) (next : Step) → after ≤ old → Verdict old after stage (outcome next stage)
quiet-verdict old after stage (nexts.Send call) less = rests less refl
quiet-verdict old after stage nexts.Wait less = rests less refl
quiet-verdict old after stage (nexts.Done answer) less = ends answer less refl

-- with the stage that it has after it
pub same-verdict : (old after : ℕ) (stage later : Stage) (next : Step) → later ≡ stage → after ≤ old → Verdict old after stage (outcome next later)
same-verdict old after stage later next same less =
    subst (λ (s : Stage). Verdict old after stage (outcome next s)) (sym same) (quiet-verdict old after stage next less)

-- ---- bytes

pub made-size : (text : Text) → length (writes.made_bytes text) ≤ length (writes.text_bytes text)
made-size (texts.Given bytes) = omega arith
made-size (texts.Fill count byte) = omega arith

-- ---- a step of a write, alone or of a put

-- it doesn't end
abbrev pub IsGoing : Step → Type 0
IsGoing next = (next ≡ nexts.Wait) ⊎ ((call : Call) × (next ≡ nexts.Send call))

pub going-outcome : (next : Step) (stage : Stage) → IsGoing next → outcome next stage ≡ going stage
going-outcome next stage (inl is) = ap (λ (n : Step). outcome n stage) is
going-outcome next stage (inr is) = ap (λ (n : Step). outcome n stage) is.1

-- Its bytes were to become pending: they are, or there was no room for them, or no memory.
pub data Written (old after size : ℕ) (next : Step) (state : Writing) : Type 0 where
  crowds : after ≤ old → most_pending < old + size → IsGoing next → is_room state ≡ true → Written old after size next state
  gives : (fault : Fault) → after ≤ old → next ≡ nexts.Done (answers.Refused fault) → Written old after size next state
  adds : (value : Value) → after ≤ old + size → next ≡ nexts.Done (answers.Done value) → Written old after size next state

-- it goes on as it was, or so
pub data Worked (old after size : ℕ) (room : Bool) (next : Step) (state : Writing) : Type 0 where
  on : after ≤ old → IsGoing next → is_room state ≡ room → Worked old after size room next state
  written : Written old after size next state → Worked old after size room next state

-- of more bytes, and from more that were pending
pub wider : (old more after size larger : ℕ) (next : Step) (state : Writing) → old ≤ more → size ≤ larger → Written old after size next state → Written more after larger next state
wider old more after size larger next state low few (crowds less full goes room) = crowds (omega (arith, less, low)) (omega (arith, full, low, few)) goes room
wider old more after size larger next state low few (gives fault less is) = gives fault (omega (arith, less, low)) is
wider old more after size larger next state low few (adds value less is) = adds value (omega (arith, less, low, few)) is

pub written-verdict : (old after size : ℕ) (room : Bool) (next : Step) (state : Writing) → Written old after size next state
    → Verdict old after (storing size room) (outcome next (storing size (is_room state)))
written-verdict old after size room next state (crowds less full goes is) =
    crowds_store size room less full refl (going-outcome next (storing size (is_room state)) goes ∙ ap (λ (b : Bool). going (storing size b)) is)
written-verdict old after size room next state (gives fault less is) = ends (answers.Refused fault) less (ap (λ (n : Step). outcome n (storing size (is_room state))) is)
written-verdict old after size room next state (adds value more is) =
    stores size room value more refl (ap (λ (n : Step). outcome n (storing size (is_room state))) is)

pub worked-verdict : (old after size : ℕ) (room : Bool) (next : Step) (state : Writing) → Worked old after size room next state
    → Verdict old after (storing size room) (outcome next (storing size (is_room state)))
worked-verdict old after size room next state (on less goes is) =
    rests less (going-outcome next (storing size (is_room state)) goes ∙ ap (λ (b : Bool). going (storing size b)) is)
worked-verdict old after size room next state (written w) = written-verdict old after size room next state w

-- ---- the same of a put

-- what follows a step of its write
abbrev pub PutEnds : Step → ℕ → Outcome → Type 0
PutEnds (nexts.Send call) size out = out ≡ going (putting size true)
PutEnds nexts.Wait size out = out ≡ going (putting size true)
PutEnds (nexts.Done (answers.Done value)) size out = (out ≡ going settling) ⊎ ((answer : Answer) × (out ≡ over answer))
PutEnds (nexts.Done (answers.Refused fault)) size out = (answer : Answer) × (out ≡ over answer)

going-put : (told : Step) (size : ℕ) (out : Outcome) → IsGoing told → PutEnds told size out → out ≡ going (putting size true)
going-put told size out (inl is) e = subst (λ (n : Step). PutEnds n size out) is e
going-put told size out (inr is) e = subst (λ (n : Step). PutEnds n size out) is.1 e

pub put-verdict : (old mid after size : ℕ) (room : Bool) (told : Step) (state : Writing) (out : Outcome) → Written old mid size told state → PutEnds told size out → after ≤ mid
    → Verdict old after (putting size room) out
put-verdict old mid after size room told state out (crowds less full goes is) e low =
    crowds_put size room (omega (arith, less, low)) full refl (going-put told size out goes e)
put-verdict old mid after size room told state out (gives fault less is) e low =
    let o = subst (λ (n : Step). PutEnds n size out) is e in ends o.0 (omega (arith, less, low)) o.1
put-verdict old mid after size room told state out (adds value more is) e low =
    by (subst (λ (n : Step). PutEnds n size out) is e)
  where
    by : (out ≡ going settling) ⊎ ((answer : Answer) × (out ≡ over answer)) → Verdict old after (putting size room) out
    by (inl o) = puts size room (omega (arith, more, low)) refl o
    by (inr o) = puts_over size room o.0 (omega (arith, more, low)) refl o.1

-- where it made room before
pub put-worked : (old mid after size : ℕ) (told : Step) (state : Writing) (out : Outcome) (room : Bool) → Worked old mid size room told state → PutEnds told size out → after ≤ mid
    → Verdict old after (putting size true) out
put-worked old mid after size told state out room (on less goes is) e low = rests (omega (arith, less, low)) (going-put told size out goes e)
put-worked old mid after size told state out room (written w) e low = put-verdict old mid after size true told state out w e low
