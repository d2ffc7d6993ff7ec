-- Worked examples: lanes that follow their script, that run together, and the clock's readings; and such that don't.
use Rattle.std.proofs.Common.{inl, inr, ◌≡◌, ◌<◌, ℕ, zero, suc, List, [], ◌∷◌, refl, arith}
use Rattle.world_model.specs.declared.answer.Answer.{Answer}
use Rattle.world_model.specs.declared.answer.Answer.TheVariants.{Done}
use Rattle.world_model.specs.declared.answer.Value.TheVariants.{Nothing}
use Rattle.world_model.specs.declared.entry.Entry.{Entry}
use Rattle.world_model.specs.declared.entry.Entry.TheVariants.{Began, Answered, Delivered, Clock}
use Rattle.world_model.specs.declared.op.Op.{Op}
use Rattle.world_model.specs.declared.op.Op.TheVariants.{Sync, Close}
use Rattle.world_model.specs.Clocked.{IsTimed}
use Rattle.world_model.specs.Entries.{At}
use Rattle.world_model.specs.Follows.{Follows, Finishes, Alternates, none, busy, answered, marks_of}
use Rattle.world_model.specs.LanesTogether.{LanesTogether}

-- ---- lanes follow their script

abbrev ok : Answer
ok = Done Nothing

-- lines 1 and 3 are of lane 1, and line 2 is of lane 2
abbrev script : List Entry
script = Began 1 1 (Sync 1) ∷ Began 2 2 (Sync 1) ∷ Began 1 3 (Close 1) ∷ []

-- lane 2 begins while lane 1 is at its first line
abbrev two_lanes : List Entry
two_lanes = Began 1 1 (Sync 1) ∷ Began 2 2 (Sync 1) ∷ Answered 1 1 ok ∷ Began 1 3 (Close 1) ∷ Answered 2 2 ok ∷ []

-- each lane by itself has one line after the other
lane_one_alternates : Alternates (marks_of 1 two_lanes)
lane_one_alternates = answered _ (Began 1 3 (Close 1) ∷ []) 1 1 (Sync 1) ok refl (busy _ 1 3 (Close 1) refl)

lane_two_alternates : Alternates (marks_of 2 two_lanes)
lane_two_alternates = answered _ [] 2 2 (Sync 1) ok refl (none [] refl)

-- both lines of a lane are begun at the start
abbrev all_at_once : List Entry
all_at_once = Began 1 1 (Sync 1) ∷ Began 1 3 (Close 1) ∷ Answered 1 1 ok ∷ []

may_not_begin_all_at_once : Follows script all_at_once → ⊥
may_not_begin_all_at_once follows = elim (follows.alternates 1) [ none marks is ↦ absurd (cc is) | busy marks lane line op is ↦ absurd (cc is) | answered marks rest lane line op answer is more ↦ absurd (cc is) ]

-- a lane leaves a line out
abbrev one_left_out : List Entry
one_left_out = Began 1 3 (Close 1) ∷ []

may_not_leave_out : Follows script one_left_out → ⊥
may_not_leave_out follows = let front = (follows.begins 1).is in absurd (cc front)

-- a session that ends by itself has no line without an answer
may_not_end_unanswered : Finishes (Began 1 1 (Sync 1) ∷ []) (Began 1 1 (Sync 1) ∷ []) → ⊥
may_not_end_unanswered finishes = let a = finishes.answered 0 1 1 (Sync 1) refl in omega (arith, a.ended.later, a.before)

-- ---- lanes run together

-- a record comes while lane 2 waits for lane 1 to come to its end
abbrev one_after_another : List Entry
one_after_another = Began 1 1 (Sync 1) ∷ Delivered [] ∷ Answered 1 1 ok ∷ Began 2 2 (Sync 1) ∷ []

may_not_run_one_after_another : LanesTogether script one_after_another → ⊥
may_not_run_one_after_another together =
    elim (together 1 [] refl (record { at = 0; lane = 1; line = 1; op = Sync 1; began = refl; before = omega arith }) 1 2 2 (Sync 1) refl) [
      | inl done ↦ not_answered done.at done.answer done.before done.answered
      | inr b ↦ not_begun b.x b.under_way.line b.op b.under_way.before b.under_way.began
    ]
  where
    not_answered : (at : ℕ) (answer : Answer) → at < 1 → At one_after_another at (Answered 2 2 answer) → ⊥
    not_answered zero answer before is = absurd (cc is)
    not_answered (suc at) answer before is = omega (arith, before)

    not_begun : (x line : ℕ) (op : Op) → x < 1 → At one_after_another x (Began 2 line op) → ⊥
    not_begun zero line op before is = absurd (cc is)
    not_begun (suc x) line op before is = omega (arith, before)

-- ---- the clock

-- an operation that begins just after a reading is timed
is_timed : IsTimed (Clock 5 ∷ Began 1 1 (Sync 1) ∷ []) 1
is_timed = record { at = 0; ms = 5; next = refl; read = refl }
