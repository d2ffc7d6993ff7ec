-- The tests together tell the first claim that a beginning breaks, and so the first beginning that breaks one.
use Rattle.std.proofs.Common.{◌≡◌, ◌<◌, ◌≤◌, ◌+◌, inl, inr, ℕ, Bool, true, false, true≢false, List, [], length, Option, Some, None, refl, sym, ◌∙◌, ap, subst, arith}
use Rattle.std.specs.Prelude.{Decides, take}
use Rattle.std.proofs.lemmas.Bool.{cases_lt}
use Rattle.std.proofs.lemmas.List.{length-take-le, take_all}
use Rattle.world_model.specs.declared.entry.Entry.{Entry}
use Rattle.world_model.specs.declared.entry.Entry.TheVariants.{Began}
use Rattle.world_model.specs.declared.answer.Value.TheVariants as values
use Rattle.world_model.specs.declared.op.Op.TheVariants as ops
use Rattle.world_model.specs.Entries.{At}
use Rattle.world_model.specs.History.{History}
use Rattle.world_model.specs.Mounts.{Origin}
use Rattle.claims.specs.Modes.{Modes}
use Rattle.claims.specs.ReadTrue.{ReadsBytes, ReadTrue, ReadShort}
use Rattle.claims.specs.Settled.{Settled}
use Rattle.claims.specs.Touched as touching
use Rattle.claims.specs.Touched.{Wrote}
use Rattle.trace_data.specs.declared.trace.Trace.{Trace}
use Rattle.trace_data.specs.Histories.{server_at, history_of}
use Rattle.trace_claims.specs.declared.beginnings.Broken.{Broken}
use Rattle.trace_claims.specs.declared.beginnings.Broken.TheVariants as brokens
use Rattle.trace_claims.specs.declared.digest.Digest.{Digest}
use Rattle.trace_claims.specs.Described.{Describes}
use Rattle.trace_claims.specs.Held.{start_of}
use Rattle.trace_claims.specs.Judging.{beginning_of, KeepsClaims, BreaksClaim, loses, misreads, ends_early, KeepsUpTo, BreaksAt, FindsFirst, most_of, Keeps, KeepsWhole, FirstOf}
use Rattle.trace_claims.specs.Reading.{all_show_well, all_end_well, refuses_write}
use Rattle.trace_claims.specs.Staying.{AllStaySo}
use Rattle.trace_claims.proofs.Holdings.{settled-decides}
use Rattle.trace_claims.proofs.Walking.{begins-at, reads-decide, ends-decide, Steps}

-- ---- one history

never : {P : Type 0} (b : Bool) → Decides b P → b ≡ false → P → ⊥
never b d f p = true≢false (sym (d.1 p) ∙ f)

pub lost-by : (m : Modes) (origin : Origin) (h : History) (b : Bool) → Decides b (Settled m origin h) → b ≡ false → BreaksClaim m origin h brokens.Settled
lost-by m origin h b d f = loses refl (never b d f)

pub misread-by : (m : Modes) (origin : Origin) (h : History) (b c : Bool) → Decides b (Settled m origin h) → Decides c (ReadTrue m origin h) → b ≡ true → c ≡ false → BreaksClaim m origin h brokens.Read
misread-by m origin h b c d e t f = misreads refl (d.0 t) (never c e f)

pub early-by : (m : Modes) (origin : Origin) (h : History) (a b c : Bool) → Decides a (Settled m origin h) → Decides b (ReadTrue m origin h) → Decides c (ReadShort m origin h) → a ≡ true → b ≡ true → c ≡ false → BreaksClaim m origin h brokens.Short
early-by m origin h a b c x y z t u f = ends_early refl (x.0 t) (y.0 u) (never c z f)

pub keeps-by : (m : Modes) (origin : Origin) (h : History) (a b c : Bool) → Decides a (Settled m origin h) → Decides b (ReadTrue m origin h) → Decides c (ReadShort m origin h) → a ≡ true → b ≡ true → c ≡ true → KeepsClaims m origin h
keeps-by m origin h a b c x y z t u v = record { settled = x.0 t; read = y.0 u; short = z.0 v }

-- what breaks a claim doesn't keep all
pub breaks-not : (m : Modes) (origin : Origin) (h : History) (broken : Broken) → BreaksClaim m origin h broken → KeepsClaims m origin h → ⊥
breaks-not m origin h broken (loses is none) keeps = none keeps.settled
breaks-not m origin h broken (misreads is settled none) keeps = none keeps.read
breaks-not m origin h broken (ends_early is settled read none) keeps = none keeps.short

-- ---- a beginning as a whole

pub settled-at : (m : Modes) (origin : Origin) (t : Trace) (d : Digest) (n : ℕ) → Describes m origin t d → n ≤ length t.entries.items → (b : Bool) → Decides b (AllStaySo t d n) → Decides b (Settled m origin (beginning_of t n))
settled-at m origin t d n all within b decided = settled-decides m origin t d n all within b decided

pub reads-at : (m : Modes) (origin : Origin) (t : Trace) (d : Digest) (n : ℕ) → Describes m origin t d → n ≤ length t.entries.items → Decides (all_show_well t d n) (ReadTrue m origin (beginning_of t n))
reads-at m origin t d n all within =
    subst (λ (k : ℕ). Decides (all_show_well t d k) (ReadTrue m origin (beginning_of t n))) (length-take-le n t.entries.items within)
    (reads-decide m origin t d (take n t.entries.items) _ (begins-at m origin t d n all))

pub ends-at : (m : Modes) (origin : Origin) (t : Trace) (d : Digest) (n : ℕ) → Describes m origin t d → n ≤ length t.entries.items → Decides (all_end_well t d n) (ReadShort m origin (beginning_of t n))
ends-at m origin t d n all within =
    subst (λ (k : ℕ). Decides (all_end_well t d k) (ReadShort m origin (beginning_of t n))) (length-take-le n t.entries.items within)
    (ends-decide m origin t d (take n t.entries.items) _ (begins-at m origin t d n all))

-- ---- a beginning after one that keeps all

pub steps-by : (m : Modes) (origin : Origin) (t : Trace) (d : Digest) (n : ℕ) → Describes m origin t d → n < length t.entries.items → refuses_write d n ≡ false → KeepsUpTo m origin t n → Steps m origin t d n
steps-by m origin t d n all below quiet keeps = record { all = all; below = below; quiet = quiet; keep = keeps n (omega arith) }

-- ---- beginnings, one after another

no-entry : (i : ℕ) (e : Entry) → At [] i e → ⊥
no-entry i e at = absurd cc

wrote-nothing : (m : Modes) (w y : ℕ) (f : List ℕ) (i v : ℕ) → Wrote m [] w y f i v → ⊥
wrote-nothing m w y f i v (touching.write lane slot offset bytes value of ended covered) = no-entry w (Began lane ended.line (ops.Write slot offset bytes)) ended.began
wrote-nothing m w y f i v (touching.fill lane slot offset count value of ended low high) = no-entry w (Began lane ended.line (ops.Fill slot offset count v)) ended.began
wrote-nothing m w y f i v (touching.put offset bytes puts covered) = no-entry w (Began puts.lane puts.ended.line (ops.Put puts.path offset bytes)) puts.ended.began

read-nothing : (m : Modes) (x y o : ℕ) (f : List ℕ) (offset count : ℕ) (bytes : List ℕ) → ReadsBytes m [] x y o f offset count bytes → ⊥
read-nothing m x y o f offset count bytes reads = no-entry x (Began reads.lane reads.ended.line (ops.Read reads.slot offset count)) reads.ended.began

-- without entries all is kept
pub keeps-none : (m : Modes) (origin : Origin) (t : Trace) → KeepsUpTo m origin t 0
keeps-none m origin t k le = subst (λ (n : ℕ). KeepsClaims m origin (beginning_of t n)) (let is : 0 ≡ k = omega (arith, le) in is) nothing
  where
    nothing : KeepsClaims m origin (beginning_of t 0)
    nothing = record {
      settled = λ w y f i v j wrote settles p lt within untouched. absurd (wrote-nothing m w y f i v wrote);
      read = record {
        current = λ x y o f offset count bytes reads. absurd (read-nothing m x y o f offset count bytes reads);
        own = λ x y o f offset count bytes reads. absurd (read-nothing m x y o f offset count bytes reads);
        cut = λ x y o f offset count bytes reads. absurd (read-nothing m x y o f offset count bytes reads);
      };
      short = λ x y o f offset count bytes reads. absurd (read-nothing m x y o f offset count bytes reads);
    }

pub keeps-more : (m : Modes) (origin : Origin) (t : Trace) (n : ℕ) → KeepsUpTo m origin t n → KeepsClaims m origin (beginning_of t (n + 1)) → KeepsUpTo m origin t (n + 1)
keeps-more m origin t n before last k le = elim (cases_lt n k) [
  | inl above ↦ subst (λ (z : ℕ). KeepsClaims m origin (beginning_of t z)) (let is : n + 1 ≡ k = omega (arith, above, le) in is) last
  | inr within ↦ before k within
]

pub breaks-there : (m : Modes) (origin : Origin) (t : Trace) (most n : ℕ) (broken : Broken) → n < most → KeepsUpTo m origin t n → BreaksClaim m origin (beginning_of t (n + 1)) broken → BreaksAt m origin t most (n + 1) broken
breaks-there m origin t most n broken lt before breaks = record { some = omega arith; within = omega (arith, lt); breaks = breaks; least = λ k less. before k (omega (arith, less)) }

-- ---- the whole

pub whole-is : (t : Trace) → beginning_of t (length t.entries.items) ≡ history_of t
whole-is t = ap (λ (l : List Entry). start_of l (server_at t)) (take_all (length t.entries.items) t.entries.items (omega arith))

pub keeps-whole : (m : Modes) (origin : Origin) (t : Trace) (b : Bool) → Decides b (KeepsClaims m origin (beginning_of t (length t.entries.items))) → KeepsWhole m origin t None b
keeps-whole m origin t b d = (λ x. subst (λ (h : History). KeepsClaims m origin h) (whole-is t) (d.0 x), λ keeps. d.1 (subst (λ (h : History). KeepsClaims m origin h) (sym (whole-is t)) keeps))

pub keeps-limited : (m : Modes) (origin : Origin) (t : Trace) (limit : Option ℕ) (n : ℕ) → limit ≡ Some n → KeepsWhole m origin t limit false
keeps-limited m origin t limit n is = subst (λ (z : Option ℕ). KeepsWhole m origin t z false) (sym is) refl

pub first-whole : (m : Modes) (origin : Origin) (t : Trace) (limit : Option ℕ) (b : Bool) → KeepsWhole m origin t limit b → b ≡ true → Keeps m origin t limit
first-whole m origin t None b d is = d.0 is
first-whole m origin t (Some n) b f is = absurd (true≢false (sym is ∙ f))

whole-breaks : (m : Modes) (origin : Origin) (t : Trace) (limit : Option ℕ) (b : Bool) → KeepsWhole m origin t limit b → b ≡ false → limit ≡ None → KeepsClaims m origin (history_of t) → ⊥
whole-breaks m origin t limit b d f is keeps = never b (subst (λ (z : Option ℕ). KeepsWhole m origin t z b) is d) f keeps

keeps-found : (m : Modes) (origin : Origin) (t : Trace) (limit : Option ℕ) → KeepsUpTo m origin t (most_of limit (length t.entries.items)) → Keeps m origin t limit
keeps-found m origin t None all = subst (λ (h : History). KeepsClaims m origin h) (whole-is t) (all (length t.entries.items) (omega arith))
keeps-found m origin t (Some limit) all = all

pub first-found : (m : Modes) (origin : Origin) (t : Trace) (limit : Option ℕ) (b : Bool) → KeepsWhole m origin t limit b → b ≡ false → (found : Option (ℕ × Broken))
    → FindsFirst m origin t (most_of limit (length t.entries.items)) found → FirstOf m origin t limit found
first-found m origin t limit b d f None all = keeps-found m origin t limit all
first-found m origin t limit b d f (Some x) is = record { first = is; whole = whole-breaks m origin t limit b d f }

pub most-within : (limit : Option ℕ) (count : ℕ) → most_of limit count ≤ count
most-within None count = omega arith
most-within (Some limit) count = omega arith
