-- A beginning keeps what was settled exactly where each operation's bytes stay from the least place on at which they are settled.
use Rattle.std.proofs.Common.{◌≡◌, ◌<◌, ◌≤◌, ◌+◌, ℕ, zero, suc, true, false, true≢false, List, [], ◌∷◌, ◌++◌, length, Option, Some, None, slice_get, refl, sym, ◌∙◌, ap, subst, arith, add-one}
use Rattle.std.specs.Prelude.{◌↔◌, take, drop}
use Rattle.std.proofs.lemmas.List.{take-append-drop}
use Rattle.world_model.specs.declared.entry.Entry.{Entry}
use Rattle.world_model.specs.declared.op.Op.TheVariants as ops
use Rattle.world_model.specs.Mounts.{Origin}
use Rattle.world_model.specs.Server.{Server}
use Rattle.claims.specs.Modes.{Modes}
use Rattle.claims.specs.Settled as settle
use Rattle.claims.specs.Settled.{HoldsStable, SettledBy, Settled}
use Rattle.claims.specs.Touched as touching
use Rattle.claims.specs.Touched.{Wrote, Touched}
use Rattle.trace_claims.specs.declared.courses.Course.{Course}
use Rattle.trace_claims.specs.declared.operations.Operation.{Operation}
use Rattle.trace_claims.specs.Courses.{is_put, covers}
use Rattle.trace_claims.specs.Operations.{wrote_to, IsOperation}
use Rattle.trace_claims.specs.Settling.{own_end, settles_at, sooner, SettlesThere, itself, by, Settles}
use Rattle.trace_claims.specs.Touching.{HasOperations}
use Rattle.trace_claims.specs.Held.{start_of, AllStay}
use Rattle.trace_claims.proofs.Frames.{Ended-grow}
use Rattle.trace_claims.proofs.Telling.{course-work}
use Rattle.trace_claims.proofs.Writing.{wrote-shown}
use Rattle.trace_claims.proofs.Touches.{Begun, listed}
use Rattle.trace_claims.proofs.Soonest.{settles-none, settles-more}
use Rattle.trace_claims.proofs.Leasts.{settled-least, settled-nowhere, settled-later}

operation-at : (os : List Operation) (k : ℕ) → k < length os → (o : Operation) × (slice_get os k ≡ Some o)
operation-at [] k lt = absurd (omega (arith, lt))
operation-at (x ∷ os) zero lt = (x, refl)
operation-at (x ∷ os) (suc k) lt = operation-at os k (omega (arith, lt))

-- there is a least place or none
settles-found : (os : List Operation) (n : ℕ) (w : Course) (f : List ℕ) (k : ℕ) → k ≤ length os → (found : Option ℕ) × Settles os n w f k found
settles-found os n w f zero le = (own_end w, settles-none os n w f)
settles-found os n w f (suc k) le =
    let before = settles-found os n w f k (omega (arith, le)) in
    let x = operation-at os k (omega (arith, le)) in
    (sooner before.0 (settles_at x.0 n w f), subst (λ (j : ℕ). Settles os n w f j (sooner before.0 (settles_at x.0 n w f))) (add-one k) (settles-more os n w f k x.0 before.0 x.1 before.1))

wrote-begun : (m : Modes) (h : List Entry) (w y : ℕ) (f : List ℕ) (i v : ℕ) → Wrote m h w y f i v → Begun h w
wrote-begun m h w y f i v (touching.write lane slot offset bytes value of ended covered) = record { lane = of.lane; line = of.line; op = ops.Write slot offset bytes; at = of.began }
wrote-begun m h w y f i v (touching.fill lane slot offset count value of ended low high) = record { lane = of.lane; line = of.line; op = ops.Fill slot offset count v; at = of.began }
wrote-begun m h w y f i v (touching.put offset bytes it covered) = record { lane = it.lane; line = it.ended.line; op = ops.Put it.path offset bytes; at = it.ended.began }

-- if all stay, what was settled is held
pub stays-settled : (m : Modes) (origin : Origin) (b more : List Entry) (at : ℕ → Server) (os : List Operation) → HasOperations m origin (b ++ more) os → AllStay m origin b at os → Settled m origin (start_of b at)
stays-settled m origin b more at os has all w y f i v j wrote settled p lt le untouched = go (settles-found os (length b) o.course f (length os) (omega arith)).0 (settles-found os (length b) o.course f (length os) (omega arith)).1
  where
    it : (k : ℕ) × (o : Operation) × (slice_get os k ≡ Some o) × (o.course.place ≡ w)
    it = listed m origin b more os w has (wrote-begun m b w y f i v wrote)

    o : Operation
    o = it.1

    here : Wrote m b o.course.place y f i v
    here = subst (λ (z : ℕ). Wrote m b z y f i v) (sym it.3) wrote

    shown : (wrote_to o (length b) f ≡ true) × (covers o.course.work i ≡ true) × (o.course.ending.end ≡ y)
    shown = wrote-shown m origin b more o (has.each it.0 it.1 it.2) f y i v here

    settled_here : SettledBy m b o.course.place y f j
    settled_here = subst (λ (z : ℕ). SettledBy m b z y f j) (sym it.3) settled

    go : (found : Option ℕ) → Settles os (length b) o.course f (length os) found → HoldsStable (at p) f i v
    go None none = absurd (settled-nowhere m origin b more os has o.course (has.each it.0 it.1 it.2).course y f j none settled_here)
    go (Some first) known =
        let least : first ≤ j = settled-least m origin b more os has o.course (has.each it.0 it.1 it.2).course y f j first known settled_here in
        all it.0 o it.2 f shown.0 first known p (omega (arith, least, lt)) le i v (subst (λ (z : ℕ). Wrote m b o.course.place z f i v) (sym shown.2) here)
        (λ t. untouched (subst (λ (z : ℕ). Touched m origin (start_of b at) z p f i) it.3 t))

-- what a put wrote it settles itself
put-settles : (m : Modes) (origin : Origin) (b more : List Entry) (o : Operation) → IsOperation m origin (b ++ more) o → (y : ℕ) (f : List ℕ) (i v : ℕ) → is_put o.course.work ≡ true → Wrote m b o.course.place y f i v → SettledBy m b o.course.place y f y
put-settles m origin b more o is y f i v t (touching.put offset bytes it covered) = settle.itself offset bytes it refl
put-settles m origin b more o is y f i v t (touching.write lane slot offset bytes value of ended covered) =
    let long = Ended-grow b more lane o.course.place (ops.Write slot offset bytes) y _ ended in
    let work = course-work (b ++ more) o.course is.course lane long.line (ops.Write slot offset bytes) long.began in
    absurd (true≢false (sym t ∙ ap is_put work))
put-settles m origin b more o is y f i v t (touching.fill lane slot offset count value of ended low high) =
    let long = Ended-grow b more lane o.course.place (ops.Fill slot offset count v) y _ ended in
    let work = course-work (b ++ more) o.course is.course lane long.line (ops.Fill slot offset count v) long.began in
    absurd (true≢false (sym t ∙ ap is_put work))

-- at that place what the operation wrote is settled
pub settles-there : (m : Modes) (origin : Origin) (b more : List Entry) (os : List Operation) → HasOperations m origin (b ++ more) os → (k : ℕ) (o : Operation) → slice_get os k ≡ Some o → (f : List ℕ) (i v first : ℕ)
    → Wrote m b o.course.place o.course.ending.end f i v → SettlesThere os (length b) o.course f (length os) first → SettledBy m b o.course.place o.course.ending.end f first
settles-there m origin b more os has k o there f i v first wrote (itself put end) =
    subst (λ (z : ℕ). SettledBy m b o.course.place o.course.ending.end f z) end (put-settles m origin b more o (has.each k o there) o.course.ending.end f i v put wrote)
settles-there m origin b more os has k o there f i v first wrote (by j other is low passes end) =
    subst (λ (z : ℕ). SettledBy m b o.course.place o.course.ending.end f z) end
    (settled-later m origin b more other (has.each j other is) o.course (has.each k o there).course o.course.ending.end f passes)

-- and if what was settled is held, all stay
pub settled-stays : (m : Modes) (origin : Origin) (b more : List Entry) (at : ℕ → Server) (os : List Operation) → HasOperations m origin (b ++ more) os → Settled m origin (start_of b at) → AllStay m origin b at os
settled-stays m origin b more at os has settled k o there f t first known p lt le i v wrote untouched =
    settled o.course.place o.course.ending.end f i v first wrote (settles-there m origin b more os has k o there f i v first wrote known.there) p lt le untouched

-- ---- beginnings

-- the first n entries keep what was settled, exactly where all stay among them
pub beginning-settled : (m : Modes) (origin : Origin) (h : List Entry) (at : ℕ → Server) (os : List Operation) (n : ℕ) → HasOperations m origin h os
    → AllStay m origin (take n h) at os ↔ Settled m origin (start_of (take n h) at)
beginning-settled m origin h at os n has =
    let whole : HasOperations m origin (take n h ++ drop n h) os = subst (λ (l : List Entry). HasOperations m origin l os) (sym (take-append-drop n h)) has in
    (stays-settled m origin (take n h) (drop n h) at os whole, settled-stays m origin (take n h) (drop n h) at os whole)
