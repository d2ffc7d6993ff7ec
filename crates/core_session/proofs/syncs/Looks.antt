-- What the state shows to which a step of an operation led: the byte is known as before, or the operation touched it.
use Rattle.core_session.proofs.Prelude.{◌≡◌, ◌≢◌, ◌≤◌, ◌<◌, ◌⊎◌, inl, inr, ℕ, Bool, true, false, nat_eq, List, length, Option, refl, sym, subst, ◌∙◌, arith, eqb-true, eqb-false, Answer, Fault, Value, Entry, Began, Op, At, Modes, Origin, AnsweredBefore, IsOf, WritesByte, Cuts, RefusedWrite, GivesUp, At-one, Pending, of_file, LaneFile, Mounted, machine_of, State, Busy, Over, View, IsDropped, TouchedUntil, Machine}
use Rattle.claims.specs.Touched.{Left}
use Rattle.world_model.specs.declared.answer.Answer.TheVariants as answers
use Rattle.world_model.specs.declared.op.Op.TheVariants as ops
use Rattle.claims.specs.Touched as touched
use Rattle.core_session.specs.syncs.Until as touching
use Rattle.core_session.proofs.syncs.Causes.{IsWriter, IsSaver, OfOp, Comes, by_write, by_put, Saving_, IsPut}
use Rattle.core_session.proofs.syncs.Fates.{job_kind}
use Rattle.core_session.proofs.syncs.Levels.{Owner}
use Rattle.core_session.proofs.syncs.Passing.{Shown}
use Rattle.core_session.proofs.syncs.Phases.{Across, Doing, came, cut, dropped, Family, KnownBy, StageBy, split, after-tale}
use Rattle.core_session.proofs.syncs.Turning.{IsFixed}
use Rattle.core_session.proofs.syncs.Aparts.{Apart}
use Rattle.core_session.proofs.syncs.Fate.{Fate, Story}

-- ---- operations and their kinds

pub data OpView (m : Mounted) (n : ℕ) (op : Op) : Type 0 where
  writes : IsWriter op → job_kind (machine_of m n op) ≡ 1 → OpView m n op
  syncs : (slot : ℕ) → op ≡ ops.Sync slot → job_kind (machine_of m n op) ≡ 2 → OpView m n op
  closes : (slot : ℕ) → op ≡ ops.Close slot → job_kind (machine_of m n op) ≡ 5 → OpView m n op
  puts : (path : List (List ℕ)) (offset : ℕ) (bytes : List ℕ) → op ≡ ops.Put path offset bytes → job_kind (machine_of m n op) ≡ 3 → OpView m n op
  others : job_kind (machine_of m n op) ≡ 0 → (IsWriter op → ⊥) → (IsSaver op → ⊥) → OpView m n op

pub view-of : (m : Mounted) (n : ℕ) (op : Op) → OpView m n op
view-of m n (ops.Write slot offset bytes) = writes tt refl
view-of m n (ops.Fill slot offset count byte) = writes tt refl
view-of m n (ops.Sync slot) = syncs slot refl refl
view-of m n (ops.Close slot) = closes slot refl refl
view-of m n (ops.Put path offset bytes) = puts path offset bytes refl refl
view-of m n (ops.OpenFile slot mode path) = others refl (λ bad. bad) (λ bad. bad)
view-of m n (ops.Read slot offset count) = others refl (λ bad. bad) (λ bad. bad)
view-of m n (ops.Truncate slot size) = others refl (λ bad. bad) (λ bad. bad)
view-of m n (ops.Stat path) = others refl (λ bad. bad) (λ bad. bad)
view-of m n (ops.Access path bits) = others refl (λ bad. bad) (λ bad. bad)
view-of m n (ops.MakeDir path) = others refl (λ bad. bad) (λ bad. bad)
view-of m n (ops.RemoveDir path) = others refl (λ bad. bad) (λ bad. bad)
view-of m n (ops.Remove path) = others refl (λ bad. bad) (λ bad. bad)
view-of m n (ops.Rename from to) = others refl (λ bad. bad) (λ bad. bad)
view-of m n (ops.Link from to) = others refl (λ bad. bad) (λ bad. bad)
view-of m n (ops.SymLink path target) = others refl (λ bad. bad) (λ bad. bad)
view-of m n (ops.ReadLink path) = others refl (λ bad. bad) (λ bad. bad)
view-of m n (ops.List path) = others refl (λ bad. bad) (λ bad. bad)

began-op : (a b c d : ℕ) (o p : Op) → Began a b o ≡ Began c d p → o ≡ p
began-op a b c d o p e = cc

-- ---- touched, for certain

-- an operation that closes the file
abbrev pub ClosesIt : Modes → List Entry → ℕ → List ℕ → Type 0
ClosesIt m H x f = (slot : ℕ) × IsOf m H x (ops.Close slot) f

-- the last close left the file, with a refusal, after the write and before the settling operation was answered
abbrev pub LeftBefore : Modes → List Entry → ℕ → ℕ → List ℕ → Type 0
LeftBefore m H w j f = (k : ℕ) × (w < k) × (k < j) × Left m H k f × GivesUp m H k f

-- a put that is under way has its machine
abbrev pub PutsOn : ℕ → ℕ → ℕ → Machine → Op → Type 0
PutsOn s number x machine op = x ≡ s → IsPut op → job_kind machine ≡ 3

-- A refused close gave up what was pending of the file: its answer is owed, and the settling operation hasn't ended well, nor begun, where it isn't a put; or the
-- history shows it.
pub data IsLeft (m : Modes) (H : List Entry) (w s j : ℕ) (h : List Entry) (v : View) (f : List ℕ) : Type 0 where
  owed : (from : ℕ) → w < from → IsDropped m from h v f → Fate h v s ⊥ → (OfOp H s IsSaver → length h ≤ s) → Story (PutsOn s) h v → IsLeft m H w s j h v f
  was_left : ((LeftBefore m H w j f → ⊥) → ⊥) → IsLeft m H w s j h v f

pub data Touching (m : Modes) (origin : Origin) (H : List Entry) (w s j p : ℕ) (f : List ℕ) (i : ℕ) (h : List Entry) (v : View) : Type 0 where
  plain : TouchedUntil m origin H w j p f i → Touching m origin H w s j p f i h v
  wrote : (x u : ℕ) (value : Value) → x ≢ w → x < p → (AnsweredBefore H x w → ⊥) → WritesByte m origin H x f i u → IsFixed h v x (answers.Done value) → Touching m origin H w s j p f i h v
  left_ : IsLeft m H w s j h v f → Touching m origin H w s j p f i h v
  doomed : (x : ℕ) → (x ≡ w) ⊎ (x ≡ s) → (fault : Fault) → IsFixed h v x (answers.Refused fault) → Touching m origin H w s j p f i h v
  aside : Apart f h v s → Touching m origin H w s j p f i h v

pub touching-on : (m : Modes) (origin : Origin) (H : List Entry) (w s j p : ℕ) (f : List ℕ) (i : ℕ) (h h2 : List Entry) (v u : View) → ((x : ℕ) (a : Answer) → IsFixed h v x a → IsFixed h2 u x a)
    → (IsLeft m H w s j h v f → Touching m origin H w s j p f i h2 u) → (Apart f h v s → Apart f h2 u s) → Touching m origin H w s j p f i h v → Touching m origin H w s j p f i h2 u
touching-on m origin H w s j p f i h h2 v u on drop side (plain t) = plain t
touching-on m origin H w s j p f i h h2 v u on drop side (wrote x b value apart low not by x_is) = wrote x b value apart low not by (on x (answers.Done value) x_is)
touching-on m origin H w s j p f i h h2 v u on drop side (left_ l) = drop l
touching-on m origin H w s j p f i h h2 v u on drop side (doomed x its fault is) = doomed x its fault (on x (answers.Refused fault) is)
touching-on m origin H w s j p f i h h2 v u on drop side (aside a) = aside (side a)

module _ (mt : Mounted) (m : Modes) (origin : Origin) (H : List Entry) (w s j p : ℕ) (f : List ℕ) (i byte wsize : ℕ) (some : 1 ≤ wsize) (number x line : ℕ) (op : Op) (began : At H x (Began number line op)) (q0 : ℕ)
    (a : Family) (now : ℕ) (since : a.Since now) (n : ℕ) (At_ : ℕ → Type 0) (uncut : x ≡ w → Cuts m H x f i → ⊥) (low : x < p) (not : AnsweredBefore H x w → ⊥) (kind : ℕ) (kind_is : kind ≡ job_kind (machine_of mt number op)) where
  -- what is said of it
  is-op : (P : Op → Type 0) → P op → (l k : ℕ) (other : Op) → At H x (Began l k other) → P other
  is-op P here l k other at = subst P (sym (began-op l k number line other op (At-one H x (Began l k other) (Began number line op) at began))) here

  pub closes-file : kind ≡ 5 → (file : List ℕ) → Saving_ m H x file → file ≡ f → ClosesIt m H x f
  closes-file is file of same = by (view-of mt number op)
    where
      by : OpView mt number op → ClosesIt m H x f
      by (writes wr k) = absurd (let a : 1 ≡ 5 = sym k ∙ sym kind_is ∙ is in omega (arith, a))
      by (syncs slot at k) = absurd (let a : 2 ≡ 5 = sym k ∙ sym kind_is ∙ is in omega (arith, a))
      by (puts path offset bytes at k) = absurd (let a : 3 ≡ 5 = sym k ∙ sym kind_is ∙ is in omega (arith, a))
      by (others k a b) = absurd (let c : 0 ≡ 5 = sym k ∙ sym kind_is ∙ is in omega (arith, c))
      by (closes slot at k) =
          (slot, subst (IsOf m H x (ops.Close slot)) same (of number line (ops.Close slot) (subst (λ (o : Op). At H x (Began number line o)) at began) tt))

  -- the byte as it's known, or touched
  module _ (h : List Entry) (v : View) (q : ℕ) (b : Pending) where
    abbrev pub Outcome : Type 0
    Outcome = KnownBy a q0 f i byte n ⊥ q b ⊎ Touching m origin H w s j p f i h v

    clear : (Over' : Type 0) → (Over' → Touching m origin H w s j p f i h v) → KnownBy a q0 f i byte n Over' q b → Outcome
    clear Over' turn k = by (split a i byte n Over' (of_file f b) k.stage)
      where
        by : StageBy a i byte n ⊥ (of_file f b) ⊎ Over' → Outcome
        by (inl st) = inl (record { common = k.common; low = k.low; stage = st })
        by (inr o) = inr (turn o)

    not-refused : OfOp H x IsPut → RefusedWrite H x → ⊥
    not-refused of (touched.write lane slot offset y bytes fault e) = of lane e.line (ops.Write slot offset bytes) e.began
    not-refused of (touched.fill lane slot offset count v y fault e) = of lane e.line (ops.Fill slot offset count v) e.began

    over-put : x ≢ w → (u : ℕ) → WritesByte m origin H x f i u → OfOp H x IsPut → Touching m origin H w s j p f i h v
    over-put apart u wr of = plain (touching.written x u apart low not wr (not-refused of))

    -- it isn't a write
    comes-plain : (IsWriter op → ⊥) → Across m origin H w x f i → Touching m origin H w s j p f i h v
    comes-plain nay across = by across.1
      where
        by : Comes m origin H x f i → Touching m origin H w s j p f i h v
        by (by_put u wr of) = over-put across.0 u wr of
        by (by_write u wr of) = absurd (nay (of number line op began))

    doing-plain : (Drop : Type 0) → (IsWriter op → ⊥) → (Drop → Outcome) → Doing m origin H w x kind f i Drop → Outcome
    doing-plain Drop nay gives (came c) = inr (comes-plain nay c)
    doing-plain Drop nay gives (cut c) = inr (plain (touching.cut x (λ same. uncut same c) low not c))
    doing-plain Drop nay gives (dropped g) = gives g

    clear-or : (Over' : Type 0) → (Over' → Outcome) → KnownBy a q0 f i byte n Over' q b → Outcome
    clear-or Over' turn k = by (split a i byte n Over' (of_file f b) k.stage)
      where
        by : StageBy a i byte n ⊥ (of_file f b) ⊎ Over' → Outcome
        by (inl st) = inl (record { common = k.common; low = k.low; stage = st })
        by (inr o) = turn o

    -- or one that went well
    comes-done : (value : Value) → IsFixed h v x (answers.Done value) → Across m origin H w x f i → Touching m origin H w s j p f i h v
    comes-done value fixed across = by across.1
      where
        by : Comes m origin H x f i → Touching m origin H w s j p f i h v
        by (by_put u wr of) = over-put across.0 u wr of
        by (by_write u wr of) = wrote x u value across.0 low not wr fixed

    not-writer : (o : Op) → op ≡ o → (IsWriter o → ⊥) → IsWriter op → ⊥
    not-writer o is nay wr = nay (subst IsWriter is wr)

    module _ (least : 1 ≤ number) (most : number ≤ 16) (base : ℕ → Option (List ℕ)) (owner : Option (Owner f number base)) (o : List LaneFile) (tgt : List ℕ) (C D E : ℕ → Pending → Type 0) (Drop : Type 0)
        (c_is : C q b → KnownBy a q0 f i byte n ⊥ q b) (d_is : D q b → KnownBy a q0 f i byte n (Across m origin H w x f i) q b) (e_is : E q b → KnownBy a q0 f i byte n (Doing m origin H w x kind f i Drop) q b) where
      pub looks : (state : State) → Shown f wsize some number least most base owner C D E (after-tale m origin H w s f i byte wsize kind x q0 a now since v.shelf n At_ tgt) kind state q b o
          → ((answer : Answer) → state ≡ Over answer → IsFixed h v x answer)
          → ((IsSaver op → ⊥) → kind ≡ 0 → Drop → ⊥) → ((fault : Fault) → state ≡ Over (answers.Refused fault) → Drop → Outcome) → Outcome
      looks (Busy machine) shown fixed none give = by (nat_eq kind 1) refl
        where
          by : (e : Bool) → nat_eq kind 1 ≡ e → Outcome
          by true e = inl (c_is (shown.1.plain (shown.0 ∙ eqb-true kind 1 e)))
          by false e = content shown.1.content
            where
              nay-writer : IsWriter op → ⊥
              nay-writer wr = of (view-of mt number op)
                where
                  of : OpView mt number op → ⊥
                  of (writes k is) = eqb-false kind 1 e (kind_is ∙ is)
                  of (syncs slot at k) = subst IsWriter at wr
                  of (closes slot at k) = subst IsWriter at wr
                  of (puts path offset bytes at k) = subst IsWriter at wr
                  of (others k nay b) = nay wr

              content : C q b ⊎ D q b → Outcome
              content (inl c) = inl (c_is c)
              content (inr d) = clear (Across m origin H w x f i) (comes-plain nay-writer) (d_is d)
      looks (Over (answers.Done value)) shown fixed none give = by (view-of mt number op)
        where
          by : OpView mt number op → Outcome
          by (writes wr k) = clear (Across m origin H w x f i) (comes-done value (fixed (answers.Done value) refl)) (d_is (shown.wrote (kind_is ∙ k) value refl))
          by (syncs slot at k) = clear (Across m origin H w x f i) (comes-done value (fixed (answers.Done value) refl)) (d_is (shown.saved (inl (kind_is ∙ k)) value refl).0)
          by (closes slot at k) = clear (Across m origin H w x f i) (comes-done value (fixed (answers.Done value) refl)) (d_is (shown.saved (inr (kind_is ∙ k)) value refl).0)
          by (puts path offset bytes at k) = clear (Across m origin H w x f i) (comes-done value (fixed (answers.Done value) refl)) (d_is (shown.put (kind_is ∙ k) value refl).0)
          by (others k nay saver) = clear-or (Doing m origin H w x kind f i Drop) (doing-plain Drop nay (λ g. absurd (none saver (kind_is ∙ k) g))) (e_is shown.content)
      looks (Over (answers.Refused fault)) shown fixed none give = by (view-of mt number op)
        where
          any : (IsWriter op → ⊥) → Outcome
          any nay = clear-or (Doing m origin H w x kind f i Drop) (doing-plain Drop nay (give fault refl)) (e_is shown.content)

          by : OpView mt number op → Outcome
          by (writes wr k) = inl (c_is (shown.unwritten (kind_is ∙ k) fault refl))
          by (syncs slot at k) = any (λ wr. subst IsWriter at wr)
          by (closes slot at k) = any (λ wr. subst IsWriter at wr)
          by (puts path offset bytes at k) = any (λ wr. subst IsWriter at wr)
          by (others k nay saver) = any nay
