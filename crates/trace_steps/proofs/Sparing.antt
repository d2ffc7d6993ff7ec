-- The tests decide what an entry leaves as it was.
use Rattle.std.proofs.Common.{◌≡◌, ◌⊎◌, inl, inr, ℕ, suc, Bool, List, length}
use Rattle.std.specs.Prelude.{Decides, ◌&&◌, ◌||◌}
use Rattle.std.specs.Str.{bytes_eq}
use Rattle.std.proofs.lemmas.Bool.Decides.{Decides-like, Decides-and, Decides-or}
use Rattle.std.proofs.lemmas.Slice.Eq.{bytes_eq-Decides}
use Rattle.world_model.specs.Steps.{Same, Only}
use Rattle.trace_data.specs.declared.trace.Trace.{Trace}
use Rattle.trace_data.specs.Histories.{objects_after, server_at}
use Rattle.trace_rules.specs.Decided.{all_below}
use Rattle.trace_rules.specs.Keeping.{keeps, keeps_verf}
use Rattle.trace_rules.proofs.Naming.{named-decides}
use Rattle.trace_rules.proofs.Unchanged.{Keeps, keeps-decides, unnamed-keeps, verf-decides, same-decides}
use Rattle.trace_steps.specs.MomentTests.{is_same, is_one, spares, spares_at, only}
use Rattle.trace_steps.proofs.Testing.{without}

pub is-same : (t : Trace) (n : ℕ) → Decides (is_same t n) (Same (server_at t n) (server_at t (suc n)))
unfolding is_same
is-same t n = same-decides t n

-- one of three handles
abbrev pub IsOne : List ℕ → List ℕ → List ℕ → List ℕ → Type 0
IsOne a b c f = ((f ≡ a) ⊎ (f ≡ b)) ⊎ (f ≡ c)

pub one-decides : (a b c f : List ℕ) → Decides (is_one a b c f) (IsOne a b c f)
one-decides a b c f = Decides-or (bytes_eq f a || bytes_eq f b) (bytes_eq f c) (Decides-or (bytes_eq f a) (bytes_eq f b) (bytes_eq-Decides f a) (bytes_eq-Decides f b)) (bytes_eq-Decides f c)

-- A test that decides of which objects nothing is said.
module _ (these : List ℕ → Bool) (T : List ℕ → Type 0) (each : (f : List ℕ) → Decides (these f) (T f)) where
  pub only-decides : (t : Trace) (n : ℕ) → Decides (only these t n) (Only T (server_at t n) (server_at t (suc n)))
  unfolding only spares_at spares
  only-decides t n =
      Decides-like (keeps_verf t.start.verf t.updates.items n && all_below (λ k. spares_at these t n k) (length (objects_after t.updates.items n)))
      (λ w. record { verf = w.0; others = λ f other. w.1 f other })
      (λ (o : Only T (server_at t n) (server_at t (suc n))). (o.verf, λ f other. o.others f other))
      (Decides-and (keeps_verf t.start.verf t.updates.items n) (all_below (λ k. spares_at these t n k) (length (objects_after t.updates.items n))) (verf-decides t.start.verf t.updates.items n)
      (named-decides (λ f. spares these t n f) (λ f. (T f → ⊥) → Keeps t.start.objects.items t.updates.items n f)
      (λ f. without (these f) (keeps t.start.objects.items t.updates.items n f) (each f) (keeps-decides t.start.objects.items t.updates.items n f))
      (objects_after t.updates.items n)
      (λ f e other. unnamed-keeps t.start.objects.items t.updates.items n f e)))

-- fewer are spoken of
pub only-like : (S T : List ℕ → Type 0) (t : Trace) (n : ℕ) → ((f : List ℕ) → S f → T f) → Only S (server_at t n) (server_at t (suc n)) → Only T (server_at t n) (server_at t (suc n))
only-like S T t n wider o = record { verf = o.verf; others = λ f other. o.others f (λ s. other (wider f s)) }

pub only-one : (t : Trace) (n : ℕ) (a : List ℕ) → Decides (only (is_one a a a) t n) (Only (λ f. f ≡ a) (server_at t n) (server_at t (suc n)))
only-one t n a =
    Decides-like (only (is_one a a a) t n)
    (λ o. only-like (IsOne a a a) (λ f. f ≡ a) t n (λ f w. elim w [ inl v ↦ (elim v [ inl e ↦ e | inr e ↦ e ]) | inr e ↦ e ]) o)
    (λ o. only-like (λ f. f ≡ a) (IsOne a a a) t n (λ f e. inr e) o)
    (only-decides (is_one a a a) (IsOne a a a) (λ f. one-decides a a a f) t n)

pub only-two : (t : Trace) (n : ℕ) (a b : List ℕ) → Decides (only (is_one a b b) t n) (Only (λ f. (f ≡ a) ⊎ (f ≡ b)) (server_at t n) (server_at t (suc n)))
only-two t n a b =
    Decides-like (only (is_one a b b) t n)
    (λ o. only-like (IsOne a b b) (λ f. (f ≡ a) ⊎ (f ≡ b)) t n (λ f w. elim w [ inl v ↦ v | inr e ↦ inr e ]) o)
    (λ o. only-like (λ f. (f ≡ a) ⊎ (f ≡ b)) (IsOne a b b) t n (λ f w. inl w) o)
    (only-decides (is_one a b b) (IsOne a b b) (λ f. one-decides a b b f) t n)

pub only-three : (t : Trace) (n : ℕ) (a b c : List ℕ) → Decides (only (is_one a b c) t n) (Only (λ f. (f ≡ a) ⊎ (f ≡ b) ⊎ (f ≡ c)) (server_at t n) (server_at t (suc n)))
only-three t n a b c =
    Decides-like (only (is_one a b c) t n)
    (λ o. only-like (IsOne a b c) (λ f. (f ≡ a) ⊎ (f ≡ b) ⊎ (f ≡ c)) t n (λ f w. into f w) o)
    (λ o. only-like (λ f. (f ≡ a) ⊎ (f ≡ b) ⊎ (f ≡ c)) (IsOne a b c) t n (λ f w. back f w) o)
    (only-decides (is_one a b c) (IsOne a b c) (λ f. one-decides a b c f) t n)
  where
    into : (f : List ℕ) → IsOne a b c f → (f ≡ a) ⊎ (f ≡ b) ⊎ (f ≡ c)
    into f (inl (inl e)) = inl e
    into f (inl (inr e)) = inr (inl e)
    into f (inr e) = inr (inr e)

    back : (f : List ℕ) → (f ≡ a) ⊎ (f ≡ b) ⊎ (f ≡ c) → IsOne a b c f
    back f (inl e) = inl (inl e)
    back f (inr (inl e)) = inl (inr e)
    back f (inr (inr e)) = inr e
