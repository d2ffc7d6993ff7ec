-- Which last closes gave up what was pending; and that the tests together decide what may have changed a byte.
use Rattle.std.proofs.Common.{◌≡◌, ◌<◌, ◌≤◌, ◌+◌, inl, inr, ℕ, Bool, true, false, true≢false, List, ◌++◌, length, Some, refl, sym, ◌∙◌, subst, arith}
use Rattle.std.specs.Prelude.{Decides, ◌&&◌, ◌||◌, not, nat_lt}
use Rattle.std.specs.Str.{bytes_eq}
use Rattle.std.proofs.lemmas.Bool.{cases_Bool, ltb-true, lt-ltb, and_parts, and_from, or_cases, not-true}
use Rattle.std.proofs.lemmas.Slice.Eq.{bytes_eq-Decides}
use Rattle.world_model.specs.declared.answer.Answer.TheVariants.{Refused}
use Rattle.world_model.specs.declared.entry.Entry.{Entry}
use Rattle.world_model.specs.declared.entry.Entry.TheVariants.{Answered, Delivered}
use Rattle.world_model.specs.declared.op.Op.TheVariants as ops
use Rattle.world_model.specs.Mounts.{Origin}
use Rattle.world_model.specs.Server.{Server, Object}
use Rattle.world_model.proofs.Places.{At-grow, At-back}
use Rattle.claims.specs.Modes.{Modes}
use Rattle.claims.specs.Touched as touching
use Rattle.claims.specs.Touched.{GivesUp, GivenUp, Touched, StableSince, IsAnsweredPut}
use Rattle.trace_claims.specs.declared.courses.Course.{Course}
use Rattle.trace_claims.specs.declared.operations.Operation.{Operation}
use Rattle.trace_claims.specs.declared.touched.Foreign as changed
use Rattle.trace_claims.specs.declared.touched.Left as lefts
use Rattle.trace_claims.specs.Courses.{IsCourse, ended_before, is_put}
use Rattle.trace_claims.specs.Touching.{is_foreign, is_rewritten, is_stable_since, gives, is_given_up, HasOperations, HasForeign, IsLeft, HasLeft}
use Rattle.trace_claims.proofs.Frames.{Ended-back}
use Rattle.trace_claims.proofs.SettledFrame.{IsOf-back, Left-grow, GivesUp-grow}
use Rattle.trace_claims.proofs.ReadFrame.{Left-back}
use Rattle.trace_claims.proofs.Telling.{answered-put-decides}
use Rattle.trace_claims.proofs.Owning.{any-there, any-found}
use Rattle.trace_claims.specs.Held.{start_of}
use Rattle.trace_claims.proofs.Touches.{since-decides, rewritten-told, written-shown, cut-shown, foreign-told, foreign-shown}

-- ---- last closes

GivesUp-back : (m : Modes) (h more : List Entry) (k : ℕ) (f : List ℕ) → k < length h → GivesUp m (h ++ more) k f → GivesUp m h k f
GivesUp-back m h more k f below (touching.itself lane line fault at) = touching.itself lane line fault (At-back h more k (Answered lane line (Refused fault)) at below)
GivesUp-back m h more k f below (touching.beside lane slot c j fault of ended before none) =
    touching.beside lane slot c j fault
    (IsOf-back m h more c (ops.Close slot) f (omega (arith, ended.later, before, below)) of)
    (Ended-back h more lane c (ops.Close slot) j (Refused fault) (omega (arith, before, below)) ended) before
    (λ n b at after lt. none n b (At-grow h more n (Delivered b) at) after lt)

not-decided : {P : Type 0} (b : Bool) → Decides b P → (P → ⊥) → not b ≡ true
not-decided b d none = elim (cases_Bool b) [
  | inl t ↦ absurd (none (d.0 t))
  | inr f ↦ (rw f refl)
]

decided-not : {P : Type 0} (b : Bool) → Decides b P → not b ≡ true → P → ⊥
decided-not b d t p = true≢false (sym (d.1 p) ∙ not-true b t)

-- a last close of the beginning that the test finds gave up what was pending
pub given-told : (m : Modes) (origin : Origin) (b more : List Entry) (at : ℕ → Server) (os : List Operation) → HasOperations m origin (b ++ more) os → (ls : List lefts.Left) → HasLeft m (b ++ more) ls
    → (w : Course) → IsCourse (b ++ more) w → (p : ℕ) (f : List ℕ) (i : ℕ) → p ≤ length b → is_given_up ls os (length b) w p f ≡ true → Touched m origin (start_of b at) w.place p f i
given-told m origin b more at os has ls lefts_of w is p f i within t =
    let it = any-found (gives os (length b) w p f) ls t in
    let l : lefts.Left = it.1 in
    let six = and_parts (nat_lt w.place l.place && nat_lt l.place p && bytes_eq l.file f && l.gives_up && not (is_stable_since os (length b) w l.place f)) (not (is_put w.work && ended_before w l.place)) it.3 in
    let five = and_parts (nat_lt w.place l.place && nat_lt l.place p && bytes_eq l.file f && l.gives_up) (not (is_stable_since os (length b) w l.place f)) six.0 in
    let four = and_parts (nat_lt w.place l.place && nat_lt l.place p && bytes_eq l.file f) l.gives_up five.0 in
    let three = and_parts (nat_lt w.place l.place && nat_lt l.place p) (bytes_eq l.file f) four.0 in
    let two = and_parts (nat_lt w.place l.place) (nat_lt l.place p) three.0 in
    let left : IsLeft m (b ++ more) l = lefts_of.each it.0 it.1 it.2 in
    let before : l.place < p = ltb-true l.place p two.1 in
    let same : l.file ≡ f = (bytes_eq-Decides l.file f).0 three.1 in
    let below : l.place < length b = omega (arith, before, within) in
    touching.given_up l.place (ltb-true w.place l.place two.0) before (record {
      left = subst (λ (z : List ℕ). touching.Left m b l.place z) same (Left-back m b more l.place l.file below left.is);
      refused = subst (λ (z : List ℕ). GivesUp m b l.place z) same (GivesUp-back m b more l.place l.file below (left.gives_up.0 four.1));
      unstable = decided-not (is_stable_since os (length b) w l.place f) (since-decides m origin b more os has w is l.place f) five.1;
      unanswered = decided-not (is_put w.work && ended_before w l.place) (answered-put-decides b more w l.place is (omega (arith, below))) six.1;
    })

-- and a last close that gave it up is found
pub given-shown : (m : Modes) (origin : Origin) (b more : List Entry) (os : List Operation) → HasOperations m origin (b ++ more) os → (ls : List lefts.Left) → HasLeft m (b ++ more) ls
    → (w : Course) → IsCourse (b ++ more) w → (p : ℕ) (f : List ℕ) (k : ℕ) → p ≤ length b → w.place < k → k < p → GivenUp m b w.place k f → is_given_up ls os (length b) w p f ≡ true
given-shown m origin b more os has ls lefts_of w is p f k within after before g =
    let below : k < length b = omega (arith, before, within) in
    let it = lefts_of.every k f (Left-grow m b more k f below g.left) in
    let l : lefts.Left = it.1 in
    let left : IsLeft m (b ++ more) l = lefts_of.each it.0 it.1 it.2 in
    let gave : GivesUp m (b ++ more) l.place l.file = subst (λ (z : ℕ). GivesUp m (b ++ more) z l.file) (sym it.3) (subst (λ (z : List ℕ). GivesUp m (b ++ more) k z) (sym it.4) (GivesUp-grow m b more k f below g.refused)) in
    let unstable : not (is_stable_since os (length b) w l.place f) ≡ true = not-decided (is_stable_since os (length b) w l.place f) (since-decides m origin b more os has w is l.place f) (λ s. g.unstable (subst (λ (z : ℕ). StableSince m b w.place z f) it.3 s)) in
    let there : l.place ≤ length b = (let same = it.3 in omega (arith, same, below)) in
    let unput : not (is_put w.work && ended_before w l.place) ≡ true = not-decided (is_put w.work && ended_before w l.place) (answered-put-decides b more w l.place is there) (λ a. g.unanswered (subst (λ (z : ℕ). IsAnsweredPut b w.place z) it.3 a)) in
    any-there (gives os (length b) w p f) ls it.0 it.1 it.2
    (and_from (nat_lt w.place l.place && nat_lt l.place p && bytes_eq l.file f && l.gives_up && not (is_stable_since os (length b) w l.place f)) (not (is_put w.work && ended_before w l.place))
    (and_from (nat_lt w.place l.place && nat_lt l.place p && bytes_eq l.file f && l.gives_up) (not (is_stable_since os (length b) w l.place f))
    (and_from (nat_lt w.place l.place && nat_lt l.place p && bytes_eq l.file f) l.gives_up
    (and_from (nat_lt w.place l.place && nat_lt l.place p) (bytes_eq l.file f)
    (and_from (nat_lt w.place l.place) (nat_lt l.place p)
    (lt-ltb w.place l.place (subst (λ (z : ℕ). w.place < z) (sym it.3) after))
    (lt-ltb l.place p (subst (λ (z : ℕ). z < p) (sym it.3) before)))
    ((bytes_eq-Decides l.file f).1 it.4)) (left.gives_up.1 gave)) unstable) unput)

-- ---- touched

-- the file is gone
pub record IsGone (s : Server) (f : List ℕ) : Type 0 where
  pub o : Object
  pub is : s.object f ≡ Some o
  pub gone : o.gone ≡ true

left-or : (a b : Bool) → a ≡ true → (a || b) ≡ true
left-or a b t = rw t refl

right-or : (a b : Bool) → b ≡ true → (a || b) ≡ true
right-or true b t = refl
right-or false b t = t

-- the tests together decide whether, in the beginning, the place may have been changed after w and before the moment p
pub touched-decides : (m : Modes) (origin : Origin) (b more : List Entry) (at : ℕ → Server) (os : List Operation) (cs : List changed.Foreign) (ls : List lefts.Left) → HasOperations m origin (b ++ more) os → HasForeign (start_of (b ++ more) at) cs
    → HasLeft m (b ++ more) ls → (w : Course) → IsCourse (b ++ more) w → (p : ℕ) (f : List ℕ) (i : ℕ) → w.place ≤ length b → p ≤ length b → (gone : Bool) → Decides gone (IsGone (at p) f)
    → Decides (is_foreign cs w.place p f i || is_rewritten os (length b) w p f i || gone || is_given_up ls os (length b) w p f) (Touched m origin (start_of b at) w.place p f i)
touched-decides m origin b more at os cs ls has foreigns lefts_of w is p f i w_in p_in gone decided = (told, shown)
  where
    first : Bool
    first = is_foreign cs w.place p f i

    second : Bool
    second = is_rewritten os (length b) w p f i

    last : Bool
    last = is_given_up ls os (length b) w p f

    told : (first || second || gone || last) ≡ true → Touched m origin (start_of b at) w.place p f i
    told t = elim (or_cases (first || second || gone) last t) [
      | inl x ↦ elim (or_cases (first || second) gone x) [
        | inl y ↦ elim (or_cases first second y) [
          | inl a ↦ foreign-told m origin b more at cs foreigns w.place p f i p_in a
          | inr a ↦ rewritten-told m origin b more at os has w p f i w_in p_in a
        ]
        | inr a ↦ let g = decided.0 a in touching.gone g.o g.is g.gone
      ]
      | inr a ↦ given-told m origin b more at os has ls lefts_of w is p f i p_in a
    ]

    shown : Touched m origin (start_of b at) w.place p f i → (first || second || gone || last) ≡ true
    shown (touching.foreign n call reply after before there change) =
        left-or (first || second || gone) last (left-or (first || second) gone (left-or first second (foreign-shown b more at cs foreigns w.place p f i n call reply after before there change)))
    shown (touching.written x v other before begun writes refused) =
        left-or (first || second || gone) last (left-or (first || second) gone (right-or first second (written-shown m origin b more os has w p f i x v w_in other before begun writes refused)))
    shown (touching.cut x other before begun c) =
        left-or (first || second || gone) last (left-or (first || second) gone (right-or first second (cut-shown m origin b more os has w p f i x w_in other before begun c)))
    shown (touching.gone o there is_gone) = left-or (first || second || gone) last (right-or (first || second) gone (decided.1 (record { o = o; is = there; gone = is_gone })))
    shown (touching.given_up k after before given) = right-or (first || second || gone) last (given-shown m origin b more os has ls lefts_of w is p f k p_in after before given)
