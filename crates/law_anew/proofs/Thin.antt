-- A list of entries of which some are left out, and the place that each of the others had.
use Rattle.std.proofs.Common.{◌≡◌, ◌≤◌, ◌<◌, ◌⊎◌, inl, inr, ℕ, zero, suc, List, [], ◌∷◌, ◌++◌, length, true, false, Some, refl, sym, ap, subst, ◌∙◌, arith}
use Rattle.std.proofs.lemmas.Bool.{cases_lt}
use Rattle.world_model.specs.declared.entry.Entry.{Entry}
use Rattle.world_model.specs.declared.entry.Entry.TheVariants.{Began, Answered, Dialed, Sent, Executed, Foreign, Flushed, Reboot, Delivered, Failed, Clock}
use Rattle.world_model.specs.Entries.{At}
use Rattle.world_model.specs.Server.{Server}
use Rattle.anew_link.specs.Anew.{aside, is_own}

-- what an entry is to another client, if it is the server's
abbrev pub aside_entry : Entry → Entry
aside_entry (Executed xid call reply) = Foreign call reply
aside_entry e = e

pub aside-is : (e : Entry) → is_own e ≡ false → aside e ≡ aside_entry e ∷ []
aside-is (Executed xid call reply) is = refl
aside-is (Foreign call reply) is = refl
aside-is (Flushed file from len) is = refl
aside-is (Reboot verf) is = refl
aside-is (Began lane line op) is = absurd cc
aside-is (Answered lane line answer) is = absurd cc
aside-is (Dialed port) is = absurd cc
aside-is (Sent bytes) is = absurd cc
aside-is (Delivered bytes) is = absurd cc
aside-is Failed is = absurd cc
aside-is (Clock ms) is = absurd cc

-- one place more, behind the first
abbrev pub after : (ℕ → ℕ) → ℕ → ℕ
after f zero = zero
after f (suc n) = suc (f n)

-- the second list is the first one as another client sees it: what is seen at a place stood there
pub data Thin : List Entry → List Entry → (ℕ → ℕ) → Type 0 where
  none : Thin [] [] (λ n. n)
  left : (e : Entry) (c l : List Entry) (f : ℕ → ℕ) → is_own e ≡ true → Thin c l f → Thin (e ∷ c) l (λ n. suc (f n))
  kept : (e : Entry) (c l : List Entry) (f : ℕ → ℕ) → is_own e ≡ false → Thin c l f → Thin (e ∷ c) (aside_entry e ∷ l) (after f)

-- ---- places

pub bound : (c l : List Entry) (f : ℕ → ℕ) → Thin c l f → (rest : List Entry) (m : ℕ) → m ≤ length (l ++ rest) → f m ≤ length (c ++ rest)
bound _ _ _ none rest m le = le
bound _ _ _ (left e c l f is th) rest m le = let r = bound c l f th rest m le in omega (arith, r)
bound _ _ _ (kept e c l f is th) rest zero le = omega arith
bound _ _ _ (kept e c l f is th) rest (suc m) le = let r = bound c l f th rest m (omega (arith, le)) in omega (arith, r)

pub rising : (c l : List Entry) (f : ℕ → ℕ) → Thin c l f → (m n : ℕ) → m < n → f m < f n
rising _ _ _ none m n lt = lt
rising _ _ _ (left e c l f is th) m n lt = let r = rising c l f th m n lt in omega (arith, r)
rising _ _ _ (kept e c l f is th) m zero lt = absurd (omega (arith, lt))
rising _ _ _ (kept e c l f is th) zero (suc n) lt = omega arith
rising _ _ _ (kept e c l f is th) (suc m) (suc n) lt = let r = rising c l f th m n (omega (arith, lt)) in omega (arith, r)

module _ (c l : List Entry) (f : ℕ → ℕ) (th : Thin c l f) where
  pub rises : (m n : ℕ) → m ≤ n → f m ≤ f n
  rises m n le = by (cases_lt m n)
    where
      by : (m < n) ⊎ (n ≤ m) → f m ≤ f n
      by (inl lt) = let r = rising c l f th m n lt in omega (arith, r)
      by (inr back) = let same : m ≡ n = omega (arith, le, back) in subst (λ (k : ℕ). f m ≤ f k) same (omega arith)

  pub order : (m n : ℕ) → f m < f n → m < n
  order m n lt = by (cases_lt m n)
    where
      by : (m < n) ⊎ (n ≤ m) → m < n
      by (inl low) = low
      by (inr high) = let r = rises n m high in absurd (omega (arith, r, lt))

-- what stands at a place that is seen
pub record SeenAt (c rest : List Entry) (at : ℕ) (e : Entry) : Type 0 where
  pub was : Entry
  pub there : At (c ++ rest) at was
  pub how : ((length c ≤ at) × (was ≡ e)) ⊎ ((is_own was ≡ false) × (e ≡ aside_entry was))

some-entry : (a b : Entry) → Some a ≡ Some b → b ≡ a
some-entry a b e = cc

later-how : (e0 : Entry) (c rest : List Entry) (at : ℕ) (e : Entry) → SeenAt c rest at e → SeenAt (e0 ∷ c) rest (suc at) e
later-how e0 c rest at e s = record { was = s.was; there = s.there; how = by s.how }
  where
    by : ((length c ≤ at) × (s.was ≡ e)) ⊎ ((is_own s.was ≡ false) × (e ≡ aside_entry s.was)) → ((length (e0 ∷ c) ≤ suc at) × (s.was ≡ e)) ⊎ ((is_own s.was ≡ false) × (e ≡ aside_entry s.was))
    by (inl late) = let low = late.0 in inl (omega (arith, low), late.1)
    by (inr far) = inr far

pub seen-at : (c l : List Entry) (f : ℕ → ℕ) → Thin c l f → (rest : List Entry) (m : ℕ) (e : Entry) → At (l ++ rest) m e → SeenAt c rest (f m) e
seen-at _ _ _ none rest m e at = record { was = e; there = at; how = inl (omega arith, refl) }
seen-at _ _ _ (left e0 c l f is th) rest m e at = later-how e0 c rest (f m) e (seen-at c l f th rest m e at)
seen-at _ _ _ (kept e0 c l f is th) rest zero e at = record { was = e0; there = refl; how = inr (is, some-entry (aside_entry e0) e at) }
seen-at _ _ _ (kept e0 c l f is th) rest (suc m) e at = later-how e0 c rest (f m) e (seen-at c l f th rest m e at)

-- what stands behind the first list is seen
pub record Shown (l rest : List Entry) (f : ℕ → ℕ) (at : ℕ) (e : Entry) : Type 0 where
  pub place : ℕ
  pub is : f place ≡ at
  pub there : At (l ++ rest) place e

pub back : (c l : List Entry) (f : ℕ → ℕ) → Thin c l f → (rest : List Entry) (n : ℕ) (e : Entry) → length c ≤ n → At (c ++ rest) n e → Shown l rest f n e
back _ _ _ none rest n e le at = record { place = n; is = refl; there = at }
back _ _ _ (left e0 c l f is th) rest zero e le at = absurd (omega (arith, le))
back _ _ _ (left e0 c l f is th) rest (suc n) e le at =
    let r = back c l f th rest n e (omega (arith, le)) at in
    record { place = r.place; is = ap suc r.is; there = r.there }
back _ _ _ (kept e0 c l f is th) rest zero e le at = absurd (omega (arith, le))
back _ _ _ (kept e0 c l f is th) rest (suc n) e le at =
    let r = back c l f th rest n e (omega (arith, le)) at in
    record { place = suc r.place; is = ap suc r.is; there = r.there }

-- ---- servers

-- what is left out leaves the server as it is
abbrev pub Still : (ℕ → Server) → List Entry → Type 0
Still a c = (n : ℕ) (e : Entry) → At c n e → is_own e ≡ true → a (suc n) ≡ a n

still-tail : (a : ℕ → Server) (e : Entry) (c : List Entry) → Still a (e ∷ c) → Still (λ n. a (suc n)) c
still-tail a e c s n d at own = s (suc n) d at own

lead : (c l : List Entry) (f : ℕ → ℕ) → Thin c l f → (a : ℕ → Server) → Still a c → a (f zero) ≡ a zero
lead _ _ _ none a s = refl
lead _ _ _ (left e c l f is th) a s = lead c l f th (λ n. a (suc n)) (still-tail a e c s) ∙ s zero e refl is
lead _ _ _ (kept e c l f is th) a s = refl

-- the server behind what is seen is the one before what is seen next
pub gap : (c l : List Entry) (f : ℕ → ℕ) → Thin c l f → (a : ℕ → Server) → Still a c → (m : ℕ) → a (f (suc m)) ≡ a (suc (f m))
gap _ _ _ none a s m = refl
gap _ _ _ (left e c l f is th) a s m = gap c l f th (λ n. a (suc n)) (still-tail a e c s) m
gap _ _ _ (kept e c l f is th) a s zero = lead c l f th (λ n. a (suc n)) (still-tail a e c s)
gap _ _ _ (kept e c l f is th) a s (suc m) = gap c l f th (λ n. a (suc n)) (still-tail a e c s) m

-- each server is one of those that are seen
pub record Moment (a : ℕ → Server) (f : ℕ → ℕ) (most n : ℕ) : Type 0 where
  pub at : ℕ
  pub within : at ≤ most
  pub is : a (f at) ≡ a n

pub moment : (c l : List Entry) (f : ℕ → ℕ) → Thin c l f → (rest : List Entry) (a : ℕ → Server) → Still a c → (n : ℕ) → n ≤ length (c ++ rest) → Moment a f (length (l ++ rest)) n
moment _ _ _ none rest a s n le = record { at = n; within = le; is = refl }
moment _ _ _ (left e c l f is th) rest a s zero le =
    let r = moment c l f th rest (λ n. a (suc n)) (still-tail a e c s) zero (omega arith) in
    record { at = r.at; within = r.within; is = r.is ∙ s zero e refl is }
moment _ _ _ (left e c l f is th) rest a s (suc n) le =
    let r = moment c l f th rest (λ n. a (suc n)) (still-tail a e c s) n (omega (arith, le)) in
    record { at = r.at; within = r.within; is = r.is }
moment _ _ _ (kept e c l f is th) rest a s zero le = record { at = zero; within = omega arith; is = refl }
moment _ _ _ (kept e c l f is th) rest a s (suc n) le =
    let r = moment c l f th rest (λ n. a (suc n)) (still-tail a e c s) n (omega (arith, le)) in
    record { at = suc r.at; within = let w = r.within in omega (arith, w); is = r.is }

-- and each up to the end of the first list is one up to the end of the second
pub moment-early : (c l : List Entry) (f : ℕ → ℕ) → Thin c l f → (a : ℕ → Server) → Still a c → (n : ℕ) → n ≤ length c → Moment a f (length l) n
moment-early _ _ _ none a s n le = record { at = n; within = le; is = refl }
moment-early _ _ _ (left e c l f is th) a s zero le =
    let r = moment-early c l f th (λ n. a (suc n)) (still-tail a e c s) zero (omega arith) in
    record { at = r.at; within = r.within; is = r.is ∙ s zero e refl is }
moment-early _ _ _ (left e c l f is th) a s (suc n) le =
    let r = moment-early c l f th (λ n. a (suc n)) (still-tail a e c s) n (omega (arith, le)) in
    record { at = r.at; within = r.within; is = r.is }
moment-early _ _ _ (kept e c l f is th) a s zero le = record { at = zero; within = omega arith; is = refl }
moment-early _ _ _ (kept e c l f is th) a s (suc n) le =
    let r = moment-early c l f th (λ n. a (suc n)) (still-tail a e c s) n (omega (arith, le)) in
    record { at = suc r.at; within = let w = r.within in omega (arith, w); is = r.is }

-- ---- the second list

aside-other : (e : Entry) → is_own e ≡ false → is_own (aside_entry e) ≡ false
aside-other (Executed xid call reply) is = refl
aside-other (Foreign call reply) is = refl
aside-other (Flushed file from len) is = refl
aside-other (Reboot verf) is = refl
aside-other (Began lane line op) is = absurd cc
aside-other (Answered lane line answer) is = absurd cc
aside-other (Dialed port) is = absurd cc
aside-other (Sent bytes) is = absurd cc
aside-other (Delivered bytes) is = absurd cc
aside-other Failed is = absurd cc
aside-other (Clock ms) is = absurd cc

never-both : (e : Entry) → is_own e ≡ true → is_own e ≡ false → ⊥
never-both e own other = let same : true ≡ false = sym own ∙ other in cc

-- what the client did stands behind it
pub own-behind : (c l : List Entry) (f : ℕ → ℕ) → Thin c l f → (rest : List Entry) (m : ℕ) (e : Entry) → At (l ++ rest) m e → is_own e ≡ true → length l ≤ m
own-behind _ _ _ none rest m e at own = omega arith
own-behind _ _ _ (left e0 c l f is th) rest m e at own = own-behind c l f th rest m e at own
own-behind _ _ _ (kept e0 c l f is th) rest zero e at own =
    let same : e ≡ aside_entry e0 = some-entry (aside_entry e0) e at in
    absurd (never-both e own (subst (λ (x : Entry). is_own x ≡ false) (sym same) (aside-other e0 is)))
own-behind _ _ _ (kept e0 c l f is th) rest (suc m) e at own = let r = own-behind c l f th rest m e at own in omega (arith, r)

pub front-within : (l rest : List Entry) → length l ≤ length (l ++ rest)
front-within [] rest = omega arith
front-within (e ∷ l) rest = let r = front-within l rest in omega (arith, r)
