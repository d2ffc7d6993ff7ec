-- Whether bytes are as an operation left them, or may have been changed.
use Rattle.std.specs.Prelude.{◌||◌, ℕ, Bool, List}
use Rattle.world_model.specs.declared.entry.Entry.{Entry}
use Rattle.trace_claims.specs.declared.courses.Course.{Course}
use Rattle.trace_claims.specs.declared.digest.Digest.{Digest}
use Rattle.trace_claims.specs.declared.keeping.Question.{Question}
use Rattle.trace_claims.specs.Bytes.{shows}
use Rattle.trace_claims.specs.Touching.{is_foreign, is_rewritten, is_given_up}

unfoldable pub is_touched : Digest → Course → Question → ℕ → Bool
is_touched d w q i =
    is_foreign d.foreign.items w.place q.moment q.file i || is_rewritten d.operations.items q.length w q.moment q.file i || q.gone
    || is_given_up d.left.items d.operations.items q.length w q.moment q.file

-- both lists show what the operation left at the place i, or that may have been changed
abbrev pub is_kept : List Entry → Digest → Course → Question → (now stable : List ℕ) → (offset i : ℕ) → Bool
is_kept h d w q now stable offset i = shows h w.place now stable offset i || is_touched d w q i
