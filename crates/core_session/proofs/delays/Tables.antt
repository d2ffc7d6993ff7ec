-- The table of the calls that are made again: what is told of each call after one was answered.
use Rattle.core_session.proofs.Prelude.{◌≡◌, ◌≢◌, ◌≤◌, ◌+◌, ℕ, suc, not, nat_eq, cond, Bool, true, false, List, [], ◌∷◌, ◌++◌, length, Option, Some, None, position, remove, slice_get, refl, sym, ap, subst, ◌∙◌, arith, if◌then◌else◌, option_map_or, eqb-true, eqb-false, lt-ltb, ltb-true, ltb-false, Waiting, waiting_at, without, others_taken, Repeat, Purpose}
use Rattle.std.proofs.Common.{nat_lt}
use Rattle.std.specs.Prelude.{option_and_then}
use Rattle.std.proofs.lemmas.Bool.{eq-eqb, ne_eqb}
use Rattle.std.specs.List.{position_or_len}
use Rattle.client_shelf.specs.Repeats.{is_call, times_of, ended}

-- the table without the first call under the xid, and how often that one was made before
abbrev pub left : ℕ → List Repeat → List Repeat
left xid [] = []
left xid (r ∷ rs) = if nat_eq r.xid xid then rs else r ∷ left xid rs

abbrev pub count : ℕ → List Repeat → ℕ
count xid [] = 0
count xid (r ∷ rs) = if nat_eq r.xid xid then r.times else count xid rs

-- ---- the first place at which a test passes

less-suc : (n m : ℕ) → nat_lt (suc n) (suc m) ≡ nat_lt n m
less-suc n m = by (nat_lt n m) refl (nat_lt (suc n) (suc m)) refl
  where
    by : (a : Bool) → nat_lt n m ≡ a → (b : Bool) → nat_lt (suc n) (suc m) ≡ b → nat_lt (suc n) (suc m) ≡ nat_lt n m
    by true i true j = j ∙ sym i
    by false i false j = j ∙ sym i
    by true i false j = let low = ltb-true n m i in let high = ltb-false (suc n) (suc m) j in absurd (omega (arith, low, high))
    by false i true j = let high = ltb-false n m i in let low = ltb-true (suc n) (suc m) j in absurd (omega (arith, low, high))

module _ (p : Repeat → Bool) where
  here : (r : Repeat) (rs : List Repeat) → p r ≡ true → position_or_len p (r ∷ rs) ≡ 0
  here r rs is = ap (λ (b : Bool). cond (not b) (1 + position_or_len p rs) 0) is

  later : (r : Repeat) (rs : List Repeat) → p r ≡ false → position_or_len p (r ∷ rs) ≡ suc (position_or_len p rs)
  later r rs is = let one : position_or_len p (r ∷ rs) ≡ 1 + position_or_len p rs = ap (λ (b : Bool). cond (not b) (1 + position_or_len p rs) 0) is in omega (arith, one)

module _ (xid : ℕ) where
  -- whether it is there
  abbrev there : List Repeat → Bool
  there [] = false
  there (r ∷ rs) = if nat_eq r.xid xid then true else there rs

  place : (rs : List Repeat) → position (is_call xid) rs ≡ cond (there rs) (Some (position_or_len (is_call xid) rs)) None
  place [] = refl
  place (r ∷ rs) = by (nat_eq r.xid xid) refl (there rs) refl (place rs)
    where
      p : Repeat → Bool
      p = is_call xid

      by : (b : Bool) → nat_eq r.xid xid ≡ b → (c : Bool) → there rs ≡ c → position (is_call xid) rs ≡ cond (there rs) (Some (position_or_len (is_call xid) rs)) None
          → position (is_call xid) (r ∷ rs) ≡ cond (if b then true else there rs) (Some (position_or_len (is_call xid) (r ∷ rs))) None
      by true is c e rest = ap (λ (n : ℕ). cond (nat_lt n (suc (length rs))) (Some n) None) (here (is_call xid) r rs is)
          ∙ ap (λ (b : Bool). cond b (Some 0) None) (lt-ltb 0 (suc (length rs)) (omega arith)) ∙ ap Some (sym (here (is_call xid) r rs is))
      by false is c e rest =
          ap (λ (n : ℕ). cond (nat_lt n (suc (length rs))) (Some n) None) (later (is_call xid) r rs is)
          ∙ up (position_or_len (is_call xid) rs) (there rs) rest
          ∙ ap (λ (n : ℕ). cond (there rs) (Some n) None) (sym (later (is_call xid) r rs is))
        where
          up : (n : ℕ) (d : Bool) → cond (nat_lt n (length rs)) (Some n) None ≡ cond d (Some n) None → cond (nat_lt (suc n) (suc (length rs))) (Some (suc n)) None ≡ cond d (Some (suc n)) None
          up n d e = ap (λ (a : Bool). cond a (Some (suc n)) None) (less-suc n (length rs)) ∙ same (nat_lt n (length rs)) d e
            where
              same : (a c : Bool) → cond a (Some n) None ≡ cond c (Some n) None → cond a (Some (suc n)) None ≡ cond c (Some (suc n)) None
              same true true e = refl
              same false false e = refl
              same true false e = absurd (cc)
              same false true e = absurd (cc)

  none-there : (rs : List Repeat) → there rs ≡ false → left xid rs ≡ rs
  none-there [] e = refl
  none-there (r ∷ rs) e = by (nat_eq r.xid xid) e (λ k. none-there rs k)
    where
      by : (b : Bool) → (if b then true else there rs) ≡ false → (there rs ≡ false → left xid rs ≡ rs) → (if b then rs else r ∷ left xid rs) ≡ r ∷ rs
      by true e rest = absurd (cc)
      by false e rest = ap (λ (k : List Repeat). r ∷ k) (rest e)

  some-there : (rs : List Repeat) → there rs ≡ true → remove rs (position_or_len (is_call xid) rs) ≡ left xid rs
  some-there [] e = absurd (cc)
  some-there (r ∷ rs) e = by (nat_eq r.xid xid) refl e (λ k. some-there rs k)
    where
      by : (b : Bool) → nat_eq r.xid xid ≡ b → (if b then true else there rs) ≡ true → (there rs ≡ true → remove rs (position_or_len (is_call xid) rs) ≡ left xid rs)
          → remove (r ∷ rs) (position_or_len (is_call xid) (r ∷ rs)) ≡ (if b then rs else r ∷ left xid rs)
      by true is e rest = ap (λ (n : ℕ). remove (r ∷ rs) n) (here (is_call xid) r rs is)
      by false is e rest = ap (λ (n : ℕ). remove (r ∷ rs) n) (later (is_call xid) r rs is) ∙ ap (λ (k : List Repeat). r ∷ k) (rest e)

  -- as `client_shelf` has it
  pub ended-is : (rs : List Repeat) → ended xid rs ≡ left xid rs
  ended-is rs = ap (λ (o : Option ℕ). option_map_or (λ at. remove rs at) o rs) (place rs) ∙ by (there rs) refl
    where
      by : (b : Bool) → there rs ≡ b → option_map_or (λ at. remove rs at) (cond b (Some (position_or_len (is_call xid) rs)) None) rs ≡ left xid rs
      by true e = some-there rs e
      by false e = sym (none-there rs e)

  none-count : (rs : List Repeat) → there rs ≡ false → count xid rs ≡ 0
  none-count [] e = refl
  none-count (r ∷ rs) e = by (nat_eq r.xid xid) e (λ k. none-count rs k)
    where
      by : (b : Bool) → (if b then true else there rs) ≡ false → (there rs ≡ false → count xid rs ≡ 0) → (if b then r.times else count xid rs) ≡ 0
      by true e rest = absurd (cc)
      by false e rest = rest e

  some-count : (rs : List Repeat) → there rs ≡ true → option_map_or (λ (r : Repeat). r.times) (slice_get rs (position_or_len (is_call xid) rs)) 0 ≡ count xid rs
  some-count [] e = absurd (cc)
  some-count (r ∷ rs) e = by (nat_eq r.xid xid) refl e (λ k. some-count rs k)
    where
      by : (b : Bool) → nat_eq r.xid xid ≡ b → (if b then true else there rs) ≡ true
          → (there rs ≡ true → option_map_or (λ (r : Repeat). r.times) (slice_get rs (position_or_len (is_call xid) rs)) 0 ≡ count xid rs)
          → option_map_or (λ (r : Repeat). r.times) (slice_get (r ∷ rs) (position_or_len (is_call xid) (r ∷ rs))) 0 ≡ (if b then r.times else count xid rs)
      by true is e rest = ap (λ (n : ℕ). option_map_or (λ (r : Repeat). r.times) (slice_get (r ∷ rs) n) 0) (here (is_call xid) r rs is)
      by false is e rest = ap (λ (n : ℕ). option_map_or (λ (r : Repeat). r.times) (slice_get (r ∷ rs) n) 0) (later (is_call xid) r rs is) ∙ rest e

  pub times-is : (rs : List Repeat) → times_of xid rs ≡ count xid rs
  times-is rs = ap (λ (o : Option ℕ). option_map_or (λ (r : Repeat). r.times) (option_and_then (λ at. slice_get rs at) o) 0) (place rs) ∙ by (there rs) refl
    where
      by : (b : Bool) → there rs ≡ b
          → option_map_or (λ (r : Repeat). r.times) (option_and_then (λ at. slice_get rs at) (cond b (Some (position_or_len (is_call xid) rs)) None)) 0 ≡ count xid rs
      by true e = some-count rs e
      by false e = sym (none-count rs e)

-- ---- one call under each xid, and each of them waits

abbrev pub IsFree : ℕ → List Repeat → Type 0
IsFree xid [] = Unit {0}
IsFree xid (r ∷ rs) = (r.xid ≢ xid) × IsFree xid rs

abbrev pub AreApart : List Repeat → Type 0
AreApart [] = Unit {0}
AreApart (r ∷ rs) = IsFree r.xid rs × AreApart rs

pub record IsWaiting (calls : List (ℕ × Waiting Purpose)) (xid : ℕ) : Type 0 where
  pub call : Waiting Purpose
  pub waits : waiting_at xid calls ≡ Some call

abbrev pub Each : (ℕ → Type 0) → List Repeat → Type 0
Each P [] = Unit {0}
Each P (r ∷ rs) = P r.xid × Each P rs

pub each-map : (P Q : ℕ → Type 0) → ((xid : ℕ) → P xid → Q xid) → (rs : List Repeat) → Each P rs → Each Q rs
each-map P Q f [] e = tt
each-map P Q f (r ∷ rs) e = (f r.xid e.0, each-map P Q f rs e.1)

-- of those that stay, also that they aren't under the xid
pub each-free : (P : ℕ → Type 0) (xid : ℕ) (rs : List Repeat) → IsFree xid rs → Each P rs → Each (λ (n : ℕ). P n × (n ≢ xid)) rs
each-free P xid [] f e = tt
each-free P xid (r ∷ rs) f e = ((e.0, f.0), each-free P xid rs f.1 e.1)

pub free-of : (P : ℕ → Type 0) (xid : ℕ) (rs : List Repeat) → (P xid → ⊥) → Each P rs → IsFree xid rs
free-of P xid [] not e = tt
free-of P xid (r ∷ rs) not e = (λ same. not (subst P same e.0), free-of P xid rs not e.1)

pub left-free : (y xid : ℕ) (rs : List Repeat) → IsFree y rs → IsFree y (left xid rs)
left-free y xid [] f = tt
left-free y xid (r ∷ rs) f = by (nat_eq r.xid xid) (left-free y xid rs f.1)
  where
    by : (b : Bool) → IsFree y (left xid rs) → IsFree y (if b then rs else r ∷ left xid rs)
    by true rest = f.1
    by false rest = (f.0, rest)

pub left-apart : (xid : ℕ) (rs : List Repeat) → AreApart rs → AreApart (left xid rs) × IsFree xid (left xid rs)
left-apart xid [] a = (tt, tt)
left-apart xid (r ∷ rs) a = by (nat_eq r.xid xid) refl (left-apart xid rs a.1)
  where
    by : (b : Bool) → nat_eq r.xid xid ≡ b → AreApart (left xid rs) × IsFree xid (left xid rs) → AreApart (if b then rs else r ∷ left xid rs) × IsFree xid (if b then rs else r ∷ left xid rs)
    by true is rest = (a.1, subst (λ (n : ℕ). IsFree n rs) (eqb-true r.xid xid is) a.0)
    by false is rest = ((left-free r.xid xid rs a.0, rest.0), (eqb-false r.xid xid is, rest.1))

pub left-each : (P : ℕ → Type 0) (xid : ℕ) (rs : List Repeat) → Each P rs → Each P (left xid rs)
left-each P xid [] e = tt
left-each P xid (r ∷ rs) e = by (nat_eq r.xid xid) (left-each P xid rs e.1)
  where
    by : (b : Bool) → Each P (left xid rs) → Each P (if b then rs else r ∷ left xid rs)
    by true rest = e.1
    by false rest = (e.0, rest)

-- one more call
push-free : (y : ℕ) (rs : List Repeat) (r : Repeat) → IsFree y rs → r.xid ≢ y → IsFree y (rs ++ r ∷ [])
push-free y [] r f apart = (apart, tt)
push-free y (q ∷ rs) r f apart = (f.0, push-free y rs r f.1 apart)

not-same : (a b : ℕ) → a ≢ b → b ≢ a
not-same a b apart same = apart (sym same)

pub push-apart : (rs : List Repeat) (r : Repeat) → AreApart rs → IsFree r.xid rs → AreApart (rs ++ r ∷ [])
push-apart [] r a f = (tt, tt)
push-apart (q ∷ rs) r a f = (push-free q.xid rs r a.0 (not-same q.xid r.xid f.0), push-apart rs r a.1 f.1)

pub push-each : (P : ℕ → Type 0) (rs : List Repeat) (r : Repeat) → Each P rs → P r.xid → Each P (rs ++ r ∷ [])
push-each P [] r e p = (p, tt)
push-each P (q ∷ rs) r e p = (e.0, push-each P rs r e.1 p)

-- ---- how often each was made before

pub free-count : (xid : ℕ) (rs : List Repeat) → IsFree xid rs → count xid rs ≡ 0
free-count xid [] f = refl
free-count xid (r ∷ rs) f = ap (λ (b : Bool). if b then r.times else count xid rs) (ne_eqb r.xid xid f.0) ∙ free-count xid rs f.1

pub left-count : (y xid : ℕ) (rs : List Repeat) → y ≢ xid → count y (left xid rs) ≡ count y rs
left-count y xid [] apart = refl
left-count y xid (r ∷ rs) apart = by (nat_eq r.xid xid) refl (left-count y xid rs apart)
  where
    by : (b : Bool) → nat_eq r.xid xid ≡ b → count y (left xid rs) ≡ count y rs → count y (if b then rs else r ∷ left xid rs) ≡ count y (r ∷ rs)
    by true is rest = sym (ap (λ (b : Bool). if b then r.times else count y rs) (ne_eqb r.xid y (λ same. apart (sym same ∙ eqb-true r.xid xid is))))
    by false is rest = ap (λ (n : ℕ). if nat_eq r.xid y then r.times else n) rest

pub push-count : (y : ℕ) (rs : List Repeat) (r : Repeat) → y ≢ r.xid → count y (rs ++ r ∷ []) ≡ count y rs
push-count y [] r apart = ap (λ (b : Bool). if b then r.times else 0) (ne_eqb r.xid y (λ same. apart (sym same)))
push-count y (q ∷ rs) r apart = ap (λ (n : ℕ). if nat_eq q.xid y then q.times else n) (push-count y rs r apart)

pub pushed-count : (rs : List Repeat) (r : Repeat) → IsFree r.xid rs → count r.xid (rs ++ r ∷ []) ≡ r.times
pushed-count [] r f = ap (λ (b : Bool). if b then r.times else 0) (eq-eqb r.xid r.xid refl)
pushed-count (q ∷ rs) r f = ap (λ (b : Bool). if b then q.times else count r.xid (rs ++ r ∷ [])) (ne_eqb q.xid r.xid f.0) ∙ pushed-count rs r f.1

-- ---- no more of them than calls that wait

pub fewer : (xid : ℕ) (calls : List (ℕ × Waiting Purpose)) (w : Waiting Purpose) → waiting_at xid calls ≡ Some w → length (without xid calls) + 1 ≡ length calls
fewer xid [] w at = absurd (cc)
fewer xid (e ∷ es) w at = by (nat_eq xid e.0) refl at (λ there. fewer xid es w there)
  where
    by : (b : Bool) → nat_eq xid e.0 ≡ b → cond b (Some e.1) (waiting_at xid es) ≡ Some w → (waiting_at xid es ≡ Some w → length (without xid es) + 1 ≡ length es)
        → length (cond b es (e ∷ without xid es)) + 1 ≡ suc (length es)
    by true is at rest = omega (arith)
    by false is at rest = let less = rest at in omega (arith, less)

still-waits : (xid y : ℕ) (calls : List (ℕ × Waiting Purpose)) → IsWaiting calls y × (y ≢ xid) → IsWaiting (without xid calls) y
still-waits xid y calls k = record { call = k.0.call; waits = others_taken y xid calls (ne_eqb y xid k.1) ∙ k.0.waits }

pub few-repeats : (calls : List (ℕ × Waiting Purpose)) (rs : List Repeat) → AreApart rs → Each (IsWaiting calls) rs → length rs ≤ length calls
few-repeats calls [] a e = omega (arith)
few-repeats calls (r ∷ rs) a e =
    let more = few-repeats (without r.xid calls) rs a.1
    (each-map (λ (n : ℕ). IsWaiting calls n × (n ≢ r.xid)) (IsWaiting (without r.xid calls)) (λ n k. still-waits r.xid n calls k) rs (each-free (IsWaiting calls) r.xid rs a.0 e.1)) in
    let one = fewer r.xid calls e.0.call e.0.waits in
    omega (arith, more, one)

-- those of a table without the xid wait still, once the call under it waits no more
pub without-waits : (xid : ℕ) (calls : List (ℕ × Waiting Purpose)) (rs : List Repeat) → IsFree xid rs → Each (IsWaiting calls) rs → Each (IsWaiting (without xid calls)) rs
without-waits xid calls rs free waits =
    each-map (λ (n : ℕ). IsWaiting calls n × (n ≢ xid)) (IsWaiting (without xid calls)) (λ n k. still-waits xid n calls k) rs (each-free (IsWaiting calls) xid rs free waits)
