-- An operation begins right after each reading of the clock, at each part of a session.
use Rattle.std.proofs.Common.{◌≡◌, ◌<◌, ◌⊎◌, inl, inr, ℕ, suc, List, [], ◌∷◌, ◌++◌, length, subst, arith}
use Rattle.world_model.specs.declared.entry.Entry.{Entry}
use Rattle.world_model.specs.declared.entry.Entry.TheVariants.{Began, Clock}
use Rattle.world_model.specs.declared.op.Op.{Op}
use Rattle.world_model.specs.Entries.{At}
use Rattle.world_model.proofs.Places.{At-grow, At-below, At-last, At-cases, length_last}
use Rattle.lane_session.specs.Bonds.{BeginsAt, TakesAll, TakesEarlier, steps}
use Rattle.lane_session.proofs.Redialing.{still_by}

begins-grow : (h : List Entry) (e : Entry) (n : ℕ) → BeginsAt h n → BeginsAt (h ++ e ∷ []) n
begins-grow h e n b = record { lane = b.lane; line = b.line; op = b.op; began = At-grow h (e ∷ []) n (Began b.lane b.line b.op) b.began }

-- nothing was read since
pub takes-none : (h : List Entry) → TakesAll h h
takes-none h i ms at = inl (At-below h i (Clock ms) at)

-- an entry that isn't a reading
pub takes-on : (from h : List Entry) (e : Entry) → ((ms : ℕ) → e ≡ Clock ms → ⊥) → TakesAll from h → TakesAll from (h ++ e ∷ [])
takes-on from h e other t i ms at = by (At-cases h e i (Clock ms) at)
  where
    grown : (i < length from) ⊎ BeginsAt h (suc i) → (i < length from) ⊎ BeginsAt (h ++ e ∷ []) (suc i)
    grown (inl early) = inl early
    grown (inr b) = inr (begins-grow h e (suc i) b)

    by : At h i (Clock ms) ⊎ ((i ≡ length h) × (e ≡ Clock ms)) → (i < length from) ⊎ BeginsAt (h ++ e ∷ []) (suc i)
    by (inl there) = grown (t i ms there)
    by (inr now) = absurd (other ms now.1)

-- any number of entries that leave the core as it is
still-clock : (e : Entry) (ms : ℕ) → steps (e ∷ []) ≡ [] → e ≡ Clock ms → ⊥
still-clock e ms q is = let here : Clock ms ∷ [] ≡ [] = subst (λ (d : Entry). steps (d ∷ []) ≡ []) is q in cc

pub takes-still : (from h more : List Entry) → steps more ≡ [] → TakesAll from h → TakesAll from (h ++ more)
takes-still from h more q t = still_by (TakesAll from) (λ k e still s. takes-on from k e (λ ms is. still-clock e ms still is) s) h more q t

-- a reading, and the operation that begins at it
pub takes-begins : (from h : List Entry) (ms lane line : ℕ) (op : Op) → TakesAll from h → TakesAll from ((h ++ Clock ms ∷ []) ++ Began lane line op ∷ [])
takes-begins from h ms lane line op t i now at = by (At-cases k (Began lane line op) i (Clock now) at)
  where
    k : List Entry
    k = h ++ Clock ms ∷ []

    grown : (i < length from) ⊎ BeginsAt h (suc i) → (i < length from) ⊎ BeginsAt (k ++ Began lane line op ∷ []) (suc i)
    grown (inl early) = inl early
    grown (inr b) = inr (begins-grow k (Began lane line op) (suc i) (begins-grow h (Clock ms) (suc i) b))

    early : At h i (Clock now) ⊎ ((i ≡ length h) × (Clock ms ≡ Clock now)) → (i < length from) ⊎ BeginsAt (k ++ Began lane line op ∷ []) (suc i)
    early (inl there) = grown (t i now there)
    early (inr last) =
        let long = length_last h (Clock ms) in
        let is = last.0 in
        let same : length k ≡ suc i = omega (arith, long, is) in
        inr (record { lane = lane; line = line; op = op; began = subst (λ (n : ℕ). At (k ++ Began lane line op ∷ []) n (Began lane line op)) same (At-last k (Began lane line op)) })

    by : At k i (Clock now) ⊎ ((i ≡ length k) × (Began lane line op ≡ Clock now)) → (i < length from) ⊎ BeginsAt (k ++ Began lane line op ∷ []) (suc i)
    by (inl there) = early (At-cases h (Clock ms) i (Clock now) there)
    by (inr own) = absurd (let no_way = own.1 in cc)

-- ---- before an operation

pub takes-earlier : (from h : List Entry) → TakesAll from h → TakesEarlier from h
takes-earlier from h t i ms x lane line op at began below = t i ms at

-- a reading after which nothing began
pub takes-read : (from h : List Entry) (ms : ℕ) → TakesAll from h → TakesEarlier from (h ++ Clock ms ∷ [])
takes-read from h ms t i now x lane line op at began below = by (At-cases h (Clock ms) x (Began lane line op) began)
  where
    grown : (i < length from) ⊎ BeginsAt h (suc i) → (i < length from) ⊎ BeginsAt (h ++ Clock ms ∷ []) (suc i)
    grown (inl early) = inl early
    grown (inr b) = inr (begins-grow h (Clock ms) (suc i) b)

    at_cases : At h x (Began lane line op) → At h i (Clock now) ⊎ ((i ≡ length h) × (Clock ms ≡ Clock now)) → (i < length from) ⊎ BeginsAt (h ++ Clock ms ∷ []) (suc i)
    at_cases there (inl early) = grown (t i now early)
    at_cases there (inr last) = let low = At-below h x (Began lane line op) there in let is = last.0 in absurd (omega (arith, low, is, below))

    by : At h x (Began lane line op) ⊎ ((x ≡ length h) × (Clock ms ≡ Began lane line op)) → (i < length from) ⊎ BeginsAt (h ++ Clock ms ∷ []) (suc i)
    by (inl there) = at_cases there (At-cases h (Clock ms) i (Clock now) at)
    by (inr own) = absurd (let no_way = own.1 in cc)
