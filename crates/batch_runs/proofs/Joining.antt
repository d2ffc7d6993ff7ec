-- What a script comes to, and then what is found behind it.
use Rattle.std.proofs.Common.{◌≡◌, ◌+◌, ℕ, inl, inr, List, [], ◌++◌, Bool, max, Option, Some, IfOk, Result, Ok, Err, refl, sym, subst, append-nil, arith}
use Rattle.world_model.specs.declared.entry.Entry.{Entry}
use Rattle.nfs_script.specs.declared.script.ScriptLine.{ScriptLine}
use Rattle.script_batches.specs.Batches.{Read}
use Rattle.nfs_script.specs.DoneText.{done_text}
use Rattle.lane_session.specs.declared.halt.Halt.{Halt}
use Rattle.lane_session.specs.declared.running.Session.{Session}
use Rattle.lane_session.specs.Endings.{counts_text}
use Rattle.lane_session.specs.Going.{CutsOff, GoesOn}
use Rattle.lane_session.specs.Statuses.{IsSessionStatus}
use Rattle.script_runs.specs.Scripts.{IsOver, StandsBefore}
use Rattle.batch_runs.specs.declared.answered.Answered.{Answered}
use Rattle.batch_runs.specs.declared.stop.Stop.{Stop}
use Rattle.batch_runs.specs.Parts.{IsWorst, RefusedFrom}
use Rattle.batch_runs.specs.Reading.{AnswersOne, FindsScript, StopsAt, no_batch}
use Rattle.batch_runs.specs.Running.{IfNext, RunsNext, RunsOne, RunsWhole}
use Rattle.batch_runs.specs.Stops.{of_halt}

-- there is no room for a script that was found: then the run ends
pub found-or-not : (old new : Answered) (left rest : Option (List Read)) (next : List ScriptLine) (result : Result (Option (List ScriptLine)) Stop) (text : List ℕ)
    → IfOk result (λ r. r ≡ Some next) → FindsScript RefusedFrom StopsAt old new left rest (Ok (Some next)) text → FindsScript RefusedFrom StopsAt old new left rest result text
found-or-not old new left rest next (Ok r) text same f = subst (λ (t : Option (List ScriptLine)). FindsScript RefusedFrom StopsAt old new left rest (Ok t) text) (sym same) f
found-or-not old new left rest next (Err stop) text same f = (f.0, (text, [], f.1, sym (append-nil text), no_batch refl))

pub next-or-not : (script next : List ScriptLine) (result : Result (Option (List ScriptLine)) Stop) (old new : Session) → IfOk result (λ r. r ≡ Some next)
    → IfOk result (λ r. StandsBefore script next old new) → IfNext script result old new
next-or-not script next (Ok r) old new same stands = subst (λ (t : Option (List ScriptLine)). IfNext script (Ok t) old new) (sym same) stands
next-or-not script next (Err stop) old new same stands = tt

pub runs-found : (count : Bool) (script : List ScriptLine) (s mid new : Session) (before done after : Answered) (left rest : Option (List Read)) (result : Result (Option (List ScriptLine)) Stop)
    (given told ended : List ℕ) (h k : List Entry) → RunsWhole count script s mid before done (Ok tt) given told h k → FindsScript RefusedFrom StopsAt done after left rest result ended
    → IfNext script result mid new → RunsNext count script s new before after left rest result given (told ++ ended) h k
runs-found count script s mid new before done after left rest (Ok next) given told ended h k r f stands =
    record { told = told; ended = ended; text_is = refl; mid = mid; done = done; runs = r; finds = f; next = stands }
runs-found count script s mid new before done after left rest (Err stop) given told ended h k r f stands =
    inl (record { told = told; ended = ended; text_is = refl; mid = mid; done = done; runs = r; finds = f; next = stands })

-- ---- one script

-- it was cut off in its lines
pub one-cut : (count : Bool) (script : List ScriptLine) (s new : Session) (before : Answered) (halt : Halt) (given text : List ℕ) (h k : List Entry) → CutsOff [] script s halt given text h k
    → RunsOne count script s new before before (Err (of_halt halt)) given text h k
one-cut count script s new before halt given text h k cuts = inl (record { halt = halt; stops = refl; same = refl; cuts = cuts })

-- its lines were run, and what ends its batch was written, or a front of that
pub one-ran : (count : Bool) (script : List ScriptLine) (s new : Session) (before after : Answered) (result : Result (Unit {0}) Stop) → IsOver script new → (given told ended : List ℕ) (h k : List Entry)
    → GoesOn [] script s new given told h k
    → AnswersOne new.status (counts_text count new.counts.tally ++ done_text (before.count + 1) new.status) before after result ended
    → RunsOne count script s new before after result given (told ++ ended) h k
one-ran count script s new before after (Ok u) over given told ended h k goes answers =
    record { told = told; ended = ended; text_is = refl; goes = goes; over = over; answers = answers }
one-ran count script s new before after (Err stop) over given told ended h k goes answers =
    inr (record { told = told; ended = ended; text_is = refl; goes = goes; over = over; answers = answers })

pub worst-of : (status : ℕ) → IsSessionStatus status → IsWorst status
worst-of status (inl a) = inl a
worst-of status (inr (inl a)) = inr (inl a)
worst-of status (inr (inr a)) = inr (inr (inr a))

pub worst-max : (a b : ℕ) → IsWorst a → IsWorst b → IsWorst (max a b)
worst-max a b (inl x) w = subst IsWorst (let same : b ≡ max a b = omega (arith, x) in same) w
worst-max a b (inr (inl x)) (inl y) = inr (inl (omega (arith, x, y)))
worst-max a b (inr (inl x)) (inr (inl y)) = inr (inl (omega (arith, x, y)))
worst-max a b (inr (inl x)) (inr (inr (inl y))) = inr (inr (inl (omega (arith, x, y))))
worst-max a b (inr (inl x)) (inr (inr (inr y))) = inr (inr (inr (omega (arith, x, y))))
worst-max a b (inr (inr (inl x))) (inl y) = inr (inr (inl (omega (arith, x, y))))
worst-max a b (inr (inr (inl x))) (inr (inl y)) = inr (inr (inl (omega (arith, x, y))))
worst-max a b (inr (inr (inl x))) (inr (inr (inl y))) = inr (inr (inl (omega (arith, x, y))))
worst-max a b (inr (inr (inl x))) (inr (inr (inr y))) = inr (inr (inr (omega (arith, x, y))))
worst-max a b (inr (inr (inr x))) (inl y) = inr (inr (inr (omega (arith, x, y))))
worst-max a b (inr (inr (inr x))) (inr (inl y)) = inr (inr (inr (omega (arith, x, y))))
worst-max a b (inr (inr (inr x))) (inr (inr (inl y))) = inr (inr (inr (omega (arith, x, y))))
worst-max a b (inr (inr (inr x))) (inr (inr (inr y))) = inr (inr (inr (omega (arith, x, y))))
