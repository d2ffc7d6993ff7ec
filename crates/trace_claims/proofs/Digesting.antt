-- The parts of a digest, put together.
use Rattle.std.proofs.Common.{◌≡◌, ◌≤◌, ◌<◌, ◌+◌, ℕ, List, [], ◌∷◌, ◌++◌, length, Bool, true, false, true≢false, zero, suc, Some, None, slice_get, refl, sym, ◌∙◌, ap, subst, arith}
use Rattle.std.specs.Prelude.{IfOk, Result, Decides, ◌&&◌, nat_lt, take, if◌then◌else◌}
use Rattle.std.proofs.lemmas.Bool.{ltb-true, and_parts}
use Rattle.world_model.specs.declared.entry.Entry.{Entry}
use Rattle.world_model.specs.declared.entry.Entry.TheVariants.{Began}
use Rattle.world_model.specs.declared.op.Op.{Op}
use Rattle.world_model.specs.declared.op.Op.TheVariants as ops
use Rattle.world_model.specs.Mounts.{Origin}
use Rattle.world_model.proofs.Places.{At-one}
use Rattle.claims.specs.Modes.{Modes}
use Rattle.xdr_codec.specs.declared.blob.Memory.{Memory}
use Rattle.trace_claims.specs.declared.courses.Course.{Course}
use Rattle.trace_claims.specs.declared.operations.Hold.{Hold}
use Rattle.trace_claims.specs.declared.operations.Lead.{Lead}
use Rattle.trace_claims.specs.declared.slots.Named.{Named}
use Rattle.trace_claims.specs.Assembled.{LeadsByOp, LeadsByEntry, LeadsOf}
use Rattle.trace_claims.specs.declared.courses.Work.{Work}
use Rattle.trace_claims.specs.declared.courses.Work.TheVariants as works
use Rattle.trace_claims.specs.declared.operations.Operation.{Operation}
use Rattle.trace_claims.specs.declared.touched.Left as lefts
use Rattle.trace_claims.specs.Courses.{IsCourse, slot_of_work, is_close}
use Rattle.trace_claims.specs.Leaving.{SlotHolds, WorkHolds}
use Rattle.trace_claims.specs.Lefts.{after_close, AddsLefts, AddsClose}
use Rattle.trace_claims.specs.Operations.{HoldsFor, LeadsAll}
use Rattle.trace_claims.specs.Slotted.{HoldsBy, HasNamed}
use Rattle.trace_claims.proofs.Assembling.{holds-for}
use Rattle.trace_claims.proofs.Leavings.{close-adds, close-not}
use Rattle.trace_claims.proofs.Namings.{if-ok}

-- ---- the path of a put

pub leads-put : {A : Type 0} (items : A → List Lead) (origin : Origin) (h : List Entry) (op : Op) (path : List (List ℕ)) (offset : ℕ) (bytes : List ℕ) (r : Result A Memory) → op ≡ ops.Put path offset bytes
    → IfOk r (λ v. LeadsAll origin h path (items v)) → IfOk r (λ v. LeadsByOp origin h op (items v))
leads-put items origin h op path offset bytes r is ok =
    if-ok r (λ v. LeadsAll origin h path (items v)) (λ v. LeadsByOp origin h op (items v)) (λ v leads other from all at. subst (λ (p : List (List ℕ)). LeadsAll origin h p (items v)) (same-path (sym is ∙ at)) leads) ok
  where
    same-path : {p q : List (List ℕ)} {i j : ℕ} {a b : List ℕ} → ops.Put p i a ≡ ops.Put q j b → p ≡ q
    same-path e = cc

pub leads-began : {A : Type 0} (items : A → List Lead) (origin : Origin) (h : List Entry) (e : Entry) (lane line : ℕ) (op : Op) (r : Result A Memory) → e ≡ Began lane line op
    → IfOk r (λ v. LeadsByOp origin h op (items v)) → IfOk r (λ v. LeadsByEntry origin h e (items v))
leads-began items origin h e lane line op r is ok =
    if-ok r (λ v. LeadsByOp origin h op (items v)) (λ v. LeadsByEntry origin h e (items v)) (λ v leads other place offset path bytes at. leads path offset bytes (same-op (sym is ∙ at))) ok
  where
    same-op : {i j k l : ℕ} {a b : Op} → Began i j a ≡ Began k l b → a ≡ b
    same-op e = cc

pub leads-there : {A : Type 0} (items : A → List Lead) (origin : Origin) (h : List Entry) (c : Course) (e : Entry) (r : Result A Memory) → slice_get h c.place ≡ Some e
    → IfOk r (λ v. LeadsByEntry origin h e (items v)) → IfOk r (λ v. LeadsOf origin h c (items v))
leads-there items origin h c e r is ok =
    if-ok r (λ v. LeadsByEntry origin h e (items v)) (λ v. LeadsOf origin h c (items v)) (λ v leads lane line offset path bytes at. leads lane line offset path bytes (At-one h c.place e (Began lane line (ops.Put path offset bytes)) is at)) ok

pub leads-nowhere : (origin : Origin) (h : List Entry) (c : Course) (ls : List Lead) → slice_get h c.place ≡ None → LeadsOf origin h c ls
leads-nowhere origin h c ls is lane line offset path bytes at = absurd (no (Began lane line (ops.Put path offset bytes)) (sym is ∙ at))
  where
    no : (e : Entry) → None ≡ Some e → ⊥
    no e same = cc

-- ---- the slot of an operation

pub holds-ok : {A : Type 0} (items : A → List Hold) (m : Modes) (h : List Entry) (ns : List Named) (c : Course) (slot : ℕ) (r : Result A Memory) → HasNamed m h ns → IsCourse h c → slot_of_work c.work ≡ Some slot
    → IfOk r (λ v. HoldsBy ns c.lane slot c.place (length ns) (items v)) → IfOk r (λ v. HoldsFor m h c (slot_of_work c.work) (items v))
holds-ok items m h ns c slot r has is at ok =
    if-ok r (λ v. HoldsBy ns c.lane slot c.place (length ns) (items v)) (λ v. HoldsFor m h c (slot_of_work c.work) (items v)) (λ v holds. holds-for m h ns c slot (items v) has is at holds) ok

-- ---- what a slot holds

pub opens-ok : (m : Modes) (h : List Entry) (n lane slot : ℕ) (f : List ℕ) (w : Work) (r : Result Bool Memory) → w ≡ works.Open slot → IfOk r (λ b. Decides b (SlotHolds m h n lane slot f)) → IfOk r (λ b. Decides b (WorkHolds m h n lane f w))
opens-ok m h n lane slot f w r is ok = subst (λ (z : Work). IfOk r (λ b. Decides b (WorkHolds m h n lane f z))) (sym is) ok

nothing : {P : Type 0} → (P → ⊥) → Decides false P
nothing never = (λ e. absurd (true≢false (sym e)), λ p. absurd (never p))

pub not-opens : (m : Modes) (h : List Entry) (n lane : ℕ) (f : List ℕ) (w : Work) → ((slot : ℕ) → w ≡ works.Open slot → ⊥) → Decides false (WorkHolds m h n lane f w)
not-opens m h n lane f (works.Open slot) not = absurd (not slot refl)
not-opens m h n lane f (works.Read slot offset count) not = nothing (λ x. x)
not-opens m h n lane f (works.Write slot offset total) not = nothing (λ x. x)
not-opens m h n lane f (works.Put offset total) not = nothing (λ x. x)
not-opens m h n lane f (works.Sync slot) not = nothing (λ x. x)
not-opens m h n lane f (works.Close slot) not = nothing (λ x. x)
not-opens m h n lane f (works.Truncate slot size) not = nothing (λ x. x)
not-opens m h n lane f works.Other not = nothing (λ x. x)

-- ---- the moment after a close

choose-told : (b : Bool) (a after : ℕ) → (if b then Some a else None) ≡ Some after → (b ≡ true) × (after ≡ a)
choose-told true a after e = (refl, cc)
choose-told false a after e = absurd cc

choose-not : (b : Bool) (a : ℕ) → (if b then Some a else None) ≡ None → b ≡ false
choose-not true a e = absurd cc
choose-not false a e = refl

pub close-ok : (m : Modes) (h : List Entry) (os : List Operation) (came : List ℕ) (o : Operation) (count after : ℕ) (old new : List lefts.Left) (r : Result (Unit {0}) Memory) → after_close o.course count ≡ Some after → count ≡ length h
    → ((after ≡ o.course.ending.end + 1) → (after ≤ length h) → IfOk r (λ done. AddsLefts m h os came o.course o.holds.items (length o.holds.items) old new)) → IfOk r (λ done. AddsClose m h os came o old new)
close-ok m h os came o count after old new r is same ok =
    let told = choose-told (is_close o.course.work && nat_lt o.course.ending.end count) (o.course.ending.end + 1) after is in
    let lt : o.course.ending.end < count = ltb-true o.course.ending.end count (and_parts (is_close o.course.work) (nat_lt o.course.ending.end count) told.0).1 in
    let at = told.1 in
    if-ok r (λ done. AddsLefts m h os came o.course o.holds.items (length o.holds.items) old new) (λ done. AddsClose m h os came o old new)
    (λ done adds. close-adds m h os came o old new (subst (λ (n : ℕ). (is_close o.course.work && nat_lt o.course.ending.end n) ≡ true) same told.0) adds)
    (ok at (omega (arith, at, lt, same)))

pub close-nothing : (m : Modes) (h : List Entry) (os : List Operation) (came : List ℕ) (o : Operation) (count : ℕ) (ls : List lefts.Left) → after_close o.course count ≡ None → count ≡ length h → AddsClose m h os came o ls ls
close-nothing m h os came o count ls is same =
    close-not m h os came o ls (subst (λ (n : ℕ). (is_close o.course.work && nat_lt o.course.ending.end n) ≡ false) same (choose-not (is_close o.course.work && nat_lt o.course.ending.end count) (o.course.ending.end + 1) is))

-- ---- one name more of a path

take-next : {A : Type 0} (ns : List A) (k : ℕ) (name : A) → slice_get ns k ≡ Some name → take (suc k) ns ≡ take k ns ++ name ∷ []
take-next [] k name at = absurd cc
take-next (x ∷ ns) zero name at = cc
take-next {A = A} (x ∷ ns) (suc k) name at = ap (λ (l : List A). x ∷ l) (take-next ns k name at)

suc-one : (k : ℕ) → suc k ≡ k + 1
suc-one k = omega arith

pub take-name : {A : Type 0} (ns : List A) (k : ℕ) (name : A) → slice_get ns k ≡ Some name → take k ns ++ name ∷ [] ≡ take (k + 1) ns
take-name ns k name at = subst (λ (z : ℕ). take k ns ++ name ∷ [] ≡ take z ns) (suc-one k) (sym (take-next ns k name at))

take-all : {A : Type 0} (ns : List A) → take (length ns) ns ≡ ns
take-all [] = refl
take-all {A = A} (x ∷ ns) = ap (λ (l : List A). x ∷ l) (take-all ns)

pub take-whole : {A : Type 0} (ns : List A) (k : ℕ) → k ≡ length ns → take k ns ≡ ns
take-whole ns k is = subst (λ (z : ℕ). take z ns ≡ ns) (sym is) (take-all ns)
