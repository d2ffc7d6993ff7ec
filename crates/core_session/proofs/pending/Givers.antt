-- An operation that was answered, and wrote a byte that may still be pending, is a write or fill, but for a put that was refused.
use Rattle.core_session.proofs.Prelude.{◌≡◌, ◌<◌, ℕ, List, subst, arith, Answer, Entry, Began, Op, At, Modes, Origin, AnsweredBefore, Ended, PutRefused, WritesByte, At-one}
use Rattle.claims.specs.Pending.{PutSucceeded}
use Rattle.world_model.specs.declared.answer.Answer.TheVariants as answers
use Rattle.world_model.specs.declared.op.Op.TheVariants as ops
use Rattle.claims.specs.Touched as touched
use Rattle.core_session.proofs.syncs.Causes.{IsWriter, OfOp}

began-op : (a b c d : ℕ) (o p : Op) → Began a b o ≡ Began c d p → o ≡ p
began-op a b c d o p e = cc

of-op : (P : Op → Type 0) (H : List Entry) (x lane line : ℕ) (op : Op) → At H x (Began lane line op) → P op → OfOp H x P
of-op P H x lane line op at p n l other there = subst P (began-op lane line n l op other (At-one H x (Began lane line op) (Began n l other) at there)) p

module _ (H : List Entry) (w n : ℕ) (unput : PutSucceeded H w n → ⊥) (unrefused : PutRefused H w → ⊥) (k : ℕ) (a : AnsweredBefore H w k) (low : k < n) where
  no-put : (lane line offset : ℕ) (path : List (List ℕ)) (bytes : List ℕ) → At H w (Began lane line (ops.Put path offset bytes)) → ⊥
  no-put lane line offset path bytes at =
      by a.answer
      (subst (λ (o : Op). Ended H a.lane w o a.y a.answer)
      (began-op a.lane a.ended.line lane line a.op (ops.Put path offset bytes) (At-one H w (Began a.lane a.ended.line a.op) (Began lane line (ops.Put path offset bytes)) a.ended.began at)) a.ended)
    where
      by : (answer : Answer) → Ended H a.lane w (ops.Put path offset bytes) a.y answer → ⊥
      by (answers.Done value) ended =
          unput (record { lane = a.lane; path = path; offset = offset; bytes = bytes; y = a.y; value = value; ended = ended; before = (let soon = a.before in omega (arith, soon, low)) })
      by (answers.Refused fault) ended = unrefused (record { lane = a.lane; path = path; offset = offset; bytes = bytes; y = a.y; fault = fault; ended = ended })

  pub answered-writer : (m : Modes) (origin : Origin) (f : List ℕ) (i byte : ℕ) → WritesByte m origin H w f i byte → OfOp H w IsWriter
  answered-writer m origin f i byte (touched.write slot offset bytes of c) = of-op IsWriter H w of.lane of.line (ops.Write slot offset bytes) of.began tt
  answered-writer m origin f i byte (touched.fill slot offset count of from to) = of-op IsWriter H w of.lane of.line (ops.Fill slot offset count byte) of.began tt
  answered-writer m origin f i byte (touched.put lane line offset y path bytes at ends leads c) = absurd (no-put lane line offset path bytes at)
