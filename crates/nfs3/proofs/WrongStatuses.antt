-- Sessions of a client that ends in one status whatever came, and that the definition of how a session ends refuses: only 5, a
-- fault of the output, and 7, out of memory, may come in place of the status of what was answered.
use Rattle.std.proofs.Common.{inl, inr, ◌≡◌, ◌≢◌, ℕ, zero, suc, List, [], ◌∷◌, refl}
use Rattle.world_model.specs.declared.answer.Answer.{Answer}
use Rattle.world_model.specs.declared.answer.Answer.TheVariants.{Done, Refused}
use Rattle.world_model.specs.declared.answer.Fault.{Fault}
use Rattle.world_model.specs.declared.answer.Fault.TheVariants as faults
use Rattle.world_model.specs.declared.answer.Value.TheVariants as values
use Rattle.world_model.specs.declared.entry.Entry.{Entry}
use Rattle.world_model.specs.declared.entry.Entry.TheVariants.{Clock, Began, Answered}
use Rattle.world_model.specs.declared.op.Op.{Op}
use Rattle.world_model.specs.Entries.{At}
use Rattle.nfs_script.specs.declared.script.ScriptLine.{ScriptLine}
use Rattle.lane_session.specs.Endings.{EndsAs, whole, cut}
use Rattle.lane_session.specs.Statuses.{HasStatus, IsAnswered, IsCutOff, lost, refused, well}

-- the operation began at 5 ms, and was answered so
abbrev answers_so : Op → Answer → List Entry
answers_so op answer = Clock 5 ∷ Began 1 1 op ∷ Answered 1 1 answer ∷ []

only_answer : (op : Op) (answer other : Answer) (at lane line : ℕ) → At (answers_so op answer) at (Answered lane line other) → other ≡ answer
only_answer op answer other zero lane line e = absurd cc
only_answer op answer other (suc zero) lane line e = absurd cc
only_answer op answer other (suc (suc zero)) lane line e = cc
only_answer op answer other (suc (suc (suc n))) lane line e = absurd cc

is_answered : (op : Op) (answer : Answer) → IsAnswered (answers_so op answer) answer
is_answered op answer = record { at = 2; lane = 1; line = 1; is = refl }

so_answered : (op : Op) (answer other : Answer) → IsAnswered (answers_so op answer) other → other ≡ answer
so_answered op answer other a = only_answer op answer other a.at a.lane a.line a.is

not_cut_off : (status : ℕ) → status ≢ 5 → status ≢ 7 → IsCutOff status → ⊥
not_cut_off status no_five no_seven (inl five) = no_five five
not_cut_off status no_five no_seven (inr seven) = no_seven seven

-- An operation that was answered ok ends in no status but 0, or 5 or 7.
ok_ends_in_zero :
    (script : List ScriptLine) (op : Op) (status : ℕ) → status ≢ 0 → status ≢ 5 → status ≢ 7
    → EndsAs script (answers_so op (Done values.Nothing)) status → ⊥
ok_ends_in_zero script op status no_zero no_five no_seven (cut off) = not_cut_off status no_five no_seven off
ok_ends_in_zero script op status no_zero no_five no_seven (whole all (lost is a)) =
    let same : Refused faults.Lost ≡ Done values.Nothing = so_answered op (Done values.Nothing) (Refused faults.Lost) a in cc
ok_ends_in_zero script op status no_zero no_five no_seven (whole all (refused is fault a none)) =
    let same : Refused fault ≡ Done values.Nothing = so_answered op (Done values.Nothing) (Refused fault) a in cc
ok_ends_in_zero script op status no_zero no_five no_seven (whole all (well is none)) = no_zero is

-- One that the server refused ends in no status but 1, or 5 or 7.
refusal_ends_in_one :
    (script : List ScriptLine) (op : Op) (status : ℕ) → status ≢ 1 → status ≢ 5 → status ≢ 7
    → EndsAs script (answers_so op (Refused (faults.Nfs 5))) status → ⊥
refusal_ends_in_one script op status no_one no_five no_seven (cut off) = not_cut_off status no_five no_seven off
refusal_ends_in_one script op status no_one no_five no_seven (whole all (lost is a)) =
    let same : Refused faults.Lost ≡ Refused (faults.Nfs 5) = so_answered op (Refused (faults.Nfs 5)) (Refused faults.Lost) a in cc
refusal_ends_in_one script op status no_one no_five no_seven (whole all (refused is fault a none)) = no_one is
refusal_ends_in_one script op status no_one no_five no_seven (whole all (well is none)) = none (faults.Nfs 5) (is_answered op (Refused (faults.Nfs 5)))

-- A session that was lost ends in no status but 6, or 5 or 7.
loss_ends_in_six :
    (script : List ScriptLine) (op : Op) (status : ℕ) → status ≢ 6 → status ≢ 5 → status ≢ 7
    → EndsAs script (answers_so op (Refused faults.Lost)) status → ⊥
loss_ends_in_six script op status no_six no_five no_seven (cut off) = not_cut_off status no_five no_seven off
loss_ends_in_six script op status no_six no_five no_seven (whole all (lost is a)) = no_six is
loss_ends_in_six script op status no_six no_five no_seven (whole all (refused is fault a none)) = none (is_answered op (Refused faults.Lost))
loss_ends_in_six script op status no_six no_five no_seven (whole all (well is none)) = none faults.Lost (is_answered op (Refused faults.Lost))
