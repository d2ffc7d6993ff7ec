-- The first answer of an operation's lane and line is where it ends.
use Rattle.std.proofs.Common.{◌≡◌, ◌<◌, ◌≤◌, inl, inr, ℕ, true≢false, List, length, Option, Some, None, slice_get, refl, sym, ◌∙◌, ap, subst, arith}
use Rattle.std.specs.Prelude.{MatchOption}
use Rattle.std.proofs.lemmas.Bool.{cases_lt}
use Rattle.world_model.specs.declared.answer.Answer.{Answer}
use Rattle.world_model.specs.declared.entry.Entry.{Entry}
use Rattle.world_model.specs.declared.entry.Entry.TheVariants.{Began, Answered, Dialed, Sent, Executed, Foreign, Flushed, Reboot, Delivered, Failed, Clock}
use Rattle.world_model.specs.declared.op.Op.{Op}
use Rattle.world_model.specs.Entries.{At}
use Rattle.world_model.specs.Operations.{Ended, AnsweredBefore}
use Rattle.world_model.proofs.Places.{At-below}
use Rattle.trace_answers.specs.Ends.{EndsThere, NeverEnds}
use Rattle.trace_answers.specs.Tests.{begins, begins_there, began_at, answers_at, NonePast, IsFirst}
use Rattle.trace_answers.proofs.Deciding.{answers-decides}

-- ---- what began at a place

abbrev pair : ℕ → ℕ → ℕ × ℕ
pair a b = (a, b)

some-pair : (p q : ℕ × ℕ) → Some p ≡ Some q → p ≡ q
some-pair p q e = cc

begins-is : (e : Entry) (lane line : ℕ) → begins e ≡ Some (lane, line) → (op : Op) × (e ≡ Began lane line op)
begins-is (Began k n op) lane line is = let same : pair k n ≡ pair lane line = some-pair (pair k n) (pair lane line) is in (op, ap (λ (z : ℕ × ℕ). Began z.0 z.1 op) same)
begins-is (Answered k n answer) lane line is = absurd (let e : None ≡ Some (lane, line) = is in cc)
begins-is (Dialed port) lane line is = absurd (let e : None ≡ Some (lane, line) = is in cc)
begins-is (Sent bytes) lane line is = absurd (let e : None ≡ Some (lane, line) = is in cc)
begins-is (Executed xid call reply) lane line is = absurd (let e : None ≡ Some (lane, line) = is in cc)
begins-is (Foreign call reply) lane line is = absurd (let e : None ≡ Some (lane, line) = is in cc)
begins-is (Flushed file from len) lane line is = absurd (let e : None ≡ Some (lane, line) = is in cc)
begins-is (Reboot verf) lane line is = absurd (let e : None ≡ Some (lane, line) = is in cc)
begins-is (Delivered bytes) lane line is = absurd (let e : None ≡ Some (lane, line) = is in cc)
begins-is Failed lane line is = absurd (let e : None ≡ Some (lane, line) = is in cc)
begins-is (Clock ms) lane line is = absurd (let e : None ≡ Some (lane, line) = is in cc)

began-is : (h : List Entry) (x lane line : ℕ) → began_at h x ≡ Some (lane, line) → (op : Op) × At h x (Began lane line op)
unfolding began_at
began-is h x lane line is = by (slice_get h x) refl is
  where
    by : (o : Option Entry) → slice_get h x ≡ o → begins_there o ≡ Some (lane, line) → (op : Op) × At h x (Began lane line op)
    by None e is = absurd (let e : None ≡ Some (lane, line) = is in cc)
    by (Some d) e is = let b = begins-is d lane line is in (b.0, e ∙ ap (λ z. Some z) b.1)

began-from : (h : List Entry) (x lane line : ℕ) (op : Op) → At h x (Began lane line op) → began_at h x ≡ Some (lane, line)
unfolding began_at
began-from h x lane line op at = ap begins_there at

-- ---- its first answer

first-ends : (h : List Entry) (x lane line y : ℕ) → began_at h x ≡ Some (lane, line) → IsFirst (answers_at h lane line) x (length h) y → EndsThere h x y
first-ends h x lane line y is f =
    let b = began-is h x lane line is in
    let here = (answers-decides h lane line y).0 f.passes in (
      lane,
      b.0,
      here.0,
      record {
        line = line;
        began = b.1;
        answered = here.1;
        later = f.later;
        first = λ j a at lt. elim (cases_lt j y) [
          | inl before ↦ absurd (true≢false (sym ((answers-decides h lane line j).1 (a, at)) ∙ f.none j lt before))
          | inr le ↦ le
        ];
      },
    )

none-ends : (h : List Entry) (x lane line : ℕ) → began_at h x ≡ Some (lane, line) → NonePast (answers_at h lane line) x (length h) → NeverEnds h x
none-ends h x lane line is none n b = true≢false (sym ((answers-decides h lane line b.y).1 (b.answer, moved)) ∙ none b.y b.ended.later (At-below h b.y (Answered lane line b.answer) moved))
  where
    same : pair b.lane b.ended.line ≡ pair lane line
    same = some-pair (pair b.lane b.ended.line) (pair lane line) (sym (began-from h x b.lane b.ended.line b.op b.ended.began) ∙ is)

    moved : At h b.y (Answered lane line b.answer)
    moved = subst (λ (z : ℕ × ℕ). At h b.y (Answered z.0 z.1 b.answer)) same b.ended.answered

-- it ends where the first answer is, if there is one
pub ends-by : (h : List Entry) (x lane line : ℕ) (found : Option ℕ) → began_at h x ≡ Some (lane, line)
    → MatchOption found (NonePast (answers_at h lane line) x (length h)) (IsFirst (answers_at h lane line) x (length h)) → MatchOption found (NeverEnds h x) (EndsThere h x)
ends-by h x lane line None is none = none-ends h x lane line is none
ends-by h x lane line (Some y) is first = first-ends h x lane line y is first

-- where nothing began nothing ends
pub never-began : (h : List Entry) (x : ℕ) → began_at h x ≡ None → NeverEnds h x
never-began h x is n b = no-some (pair b.lane b.ended.line) (sym (began-from h x b.lane b.ended.line b.op b.ended.began) ∙ is)
  where
    no-some : (p : ℕ × ℕ) → Some p ≡ None → ⊥
    no-some p e = absurd (cc)

pub never-there : (h : List Entry) (x : ℕ) → length h ≤ x → NeverEnds h x
never-there h x past n b = let below : x < length h = At-below h x (Began b.lane b.ended.line b.op) b.ended.began in absurd (omega (arith, past, below))
