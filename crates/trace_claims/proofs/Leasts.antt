-- The least place at which what an operation wrote is settled, by the tests, is the least at which it is by a beginning of the history.
use Rattle.std.proofs.Common.{◌≡◌, ◌<◌, ◌≤◌, ℕ, true, false, true≢false, List, ◌++◌, length, sym, ◌∙◌, ap, subst, arith}
use Rattle.std.proofs.lemmas.Bool.{and_parts, and_from}
use Rattle.std.proofs.lemmas.Option.{slice_get_within}
use Rattle.world_model.specs.declared.answer.Answer.TheVariants.{Done}
use Rattle.world_model.specs.declared.entry.Entry.{Entry}
use Rattle.world_model.specs.declared.entry.Entry.TheVariants.{Began}
use Rattle.world_model.specs.declared.op.Op.TheVariants as ops
use Rattle.world_model.specs.Mounts.{Origin}
use Rattle.world_model.proofs.Places.{At-below}
use Rattle.claims.specs.Modes.{Modes}
use Rattle.claims.specs.Touched.{MadeStable}
use Rattle.claims.specs.Settled.{SettledBy, later, itself}
use Rattle.trace_claims.specs.declared.courses.Course.{Course}
use Rattle.trace_claims.specs.declared.operations.Operation.{Operation}
use Rattle.trace_claims.specs.Courses.{IsCourse, ended_before, is_put}
use Rattle.trace_claims.specs.Operations.{made_stable, IsOperation}
use Rattle.trace_claims.specs.Settling as settling
use Rattle.trace_claims.specs.Settling.{settles_after, SettlesFirst, NoneSettles}
use Rattle.trace_claims.specs.Touching.{HasOperations}
use Rattle.trace_claims.proofs.Frames.{Ended-grow}
use Rattle.trace_claims.proofs.Telling.{course-work, before-of-beginning, ended-says}
use Rattle.trace_claims.proofs.Owning.{made-told}
use Rattle.trace_claims.proofs.Writing.{made-shown}
use Rattle.trace_claims.proofs.Touches.{made-begun, listed}

-- what is settled at a place is settled no sooner than the least one that the tests find
pub settled-least : (m : Modes) (origin : Origin) (b more : List Entry) (os : List Operation) → HasOperations m origin (b ++ more) os → (w : Course) → IsCourse (b ++ more) w → (y : ℕ) (f : List ℕ) (j at : ℕ)
    → SettlesFirst os (length b) w f (length os) at → SettledBy m b w.place y f j → at ≤ j
settled-least m origin b more os has w is y f j at first (later x after made) =
    let begun = made-begun m b x j f made in
    let below : x < length b = At-below b x (Began begun.lane begun.line begun.op) begun.at in
    let it = listed m origin b more os x has begun in
    let shown = made-shown m origin b more it.1 (has.each it.0 it.1 it.2) f j (subst (λ (z : ℕ). MadeStable m b z j f) (sym it.3) made) in
    let passes = and_from (ended_before w it.1.course.place) (made_stable it.1 (length b) f)
    (subst (λ (z : ℕ). ended_before w z ≡ true) (sym it.3) ((before-of-beginning b more w x is (omega (arith, below))).1 after)) shown.0
    in
    subst (λ (z : ℕ). at ≤ z) shown.1 (first.least it.0 it.1 it.2 (slice_get_within os it.0 it.1 it.2) passes)
settled-least m origin b more os has w is y f j at first (itself offset bytes it same) =
    let long = Ended-grow b more it.lane w.place (ops.Put it.path offset bytes) y (Done it.value) it.ended in
    let put : is_put w.work ≡ true = ap is_put (course-work (b ++ more) w is it.lane long.line (ops.Put it.path offset bytes) long.began) in
    let end : w.ending.end ≡ y = (ended-says b more w is it.lane (ops.Put it.path offset bytes) y (Done it.value) it.ended).0 in
    let le = first.own put in
    omega (arith, le, end, same)

-- where the tests find no such place, it isn't settled
pub settled-nowhere : (m : Modes) (origin : Origin) (b more : List Entry) (os : List Operation) → HasOperations m origin (b ++ more) os → (w : Course) → IsCourse (b ++ more) w → (y : ℕ) (f : List ℕ) (j : ℕ)
    → NoneSettles os (length b) w f (length os) → SettledBy m b w.place y f j → ⊥
settled-nowhere m origin b more os has w is y f j none (later x after made) =
    let begun = made-begun m b x j f made in
    let below : x < length b = At-below b x (Began begun.lane begun.line begun.op) begun.at in
    let it = listed m origin b more os x has begun in
    let shown = made-shown m origin b more it.1 (has.each it.0 it.1 it.2) f j (subst (λ (z : ℕ). MadeStable m b z j f) (sym it.3) made) in
    let passes = and_from (ended_before w it.1.course.place) (made_stable it.1 (length b) f)
    (subst (λ (z : ℕ). ended_before w z ≡ true) (sym it.3) ((before-of-beginning b more w x is (omega (arith, below))).1 after)) shown.0
    in
    true≢false (sym passes ∙ none.none it.0 it.1 it.2 (slice_get_within os it.0 it.1 it.2))
settled-nowhere m origin b more os has w is y f j none (itself offset bytes it same) =
    let long = Ended-grow b more it.lane w.place (ops.Put it.path offset bytes) y (Done it.value) it.ended in
    let put : is_put w.work ≡ true = ap is_put (course-work (b ++ more) w is it.lane long.line (ops.Put it.path offset bytes) long.began) in
    true≢false (sym put ∙ none.no_put)

-- what another operation settles there is settled there
pub settled-later : (m : Modes) (origin : Origin) (b more : List Entry) (o : Operation) → IsOperation m origin (b ++ more) o → (w : Course) → IsCourse (b ++ more) w → (y : ℕ) (f : List ℕ) → settles_after o (length b) w f ≡ true
    → SettledBy m b w.place y f o.course.ending.end
settled-later m origin b more o is w course y f t =
    let parts = and_parts (ended_before w o.course.place) (made_stable o (length b) f) t in
    let made = made-told m origin b more o is f parts.1 in
    let begun = made-begun m b o.course.place o.course.ending.end f made in
    let below : o.course.place < length b = At-below b o.course.place (Began begun.lane begun.line begun.op) begun.at in
    later o.course.place ((before-of-beginning b more w o.course.place course (omega (arith, below))).0 parts.0) made
