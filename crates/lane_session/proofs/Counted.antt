-- How many different xids were sent.
use Rattle.std.proofs.Common.{◌≡◌, ◌≢◌, ◌≤◌, ◌<◌, ◌+◌, ◌||◌, ℕ, zero, suc, Bool, true, false, cond, eqb, List, [], ◌∷◌, ◌++◌, length, Some, Ok, refl, sym, ap, subst, ◌∙◌, arith, append-nil, append_assoc}
use Rattle.std.specs.List.{list_any}
use Rattle.std.proofs.lemmas.Bool.{eq-eqb, ne_eqb, eqb-true, eqb-false}
use Rattle.rpc_message.specs.declared.call.CallHead.{CallHead}
use Rattle.rpc_message.specs.Call.{call_at}
use Rattle.world_model.specs.declared.entry.Entry.{Entry}
use Rattle.world_model.specs.declared.entry.Entry.TheVariants.{Began, Answered, Dialed, Sent, Executed, Foreign, Flushed, Reboot, Delivered, Failed, Clock}
use Rattle.world_model.specs.Counts.{Counted, counts_head, xid_counted, xids_sent, different}
use Rattle.world_model.specs.Entries.{At}

-- ---- the xids of a history with one entry more

pub xids-append : (which : Counted) (xs ys : List Entry) → xids_sent which (xs ++ ys) ≡ xids_sent which xs ++ xids_sent which ys
xids-append which [] ys = refl
xids-append which (Began lane line op ∷ xs) ys = xids-append which xs ys
xids-append which (Answered lane line answer ∷ xs) ys = xids-append which xs ys
xids-append which (Dialed port ∷ xs) ys = xids-append which xs ys
xids-append which (Sent bytes ∷ xs) ys = ap (λ (t : List ℕ). xid_counted which (call_at bytes) ++ t) (xids-append which xs ys) ∙ sym (append_assoc (xid_counted which (call_at bytes)) (xids_sent which xs) (xids_sent which ys))
xids-append which (Executed xid call reply ∷ xs) ys = xids-append which xs ys
xids-append which (Foreign call reply ∷ xs) ys = xids-append which xs ys
xids-append which (Flushed file from len ∷ xs) ys = xids-append which xs ys
xids-append which (Reboot verf ∷ xs) ys = xids-append which xs ys
xids-append which (Delivered bytes ∷ xs) ys = xids-append which xs ys
xids-append which (Failed ∷ xs) ys = xids-append which xs ys
xids-append which (Clock ms ∷ xs) ys = xids-append which xs ys

-- an entry that sends nothing
pub xids-same : (which : Counted) (h : List Entry) (e : Entry) → xids_sent which (e ∷ []) ≡ [] → xids_sent which (h ++ e ∷ []) ≡ xids_sent which h
xids-same which h e none = xids-append which h (e ∷ []) ∙ ap (λ (t : List ℕ). xids_sent which h ++ t) none ∙ append-nil (xids_sent which h)

-- one that sends a call
pub xids-more : (which : Counted) (h : List Entry) (b : List ℕ) (head : CallHead) (args : List ℕ) → call_at b ≡ Ok (head, args)
    → xids_sent which (h ++ Sent b ∷ []) ≡ xids_sent which h ++ cond (counts_head which head) (head.xid ∷ []) []
xids-more which h b head args read =
    xids-append which h (Sent b ∷ []) ∙ ap (λ (t : List ℕ). xids_sent which h ++ t) (append-nil (xid_counted which (call_at b)) ∙ ap (xid_counted which) read)

-- ---- numbers in a list, each once

abbrev pub is_in : ℕ → List ℕ → Bool
is_in x xs = list_any (λ (y : ℕ). eqb y x) xs

in-append : (x : ℕ) (xs : List ℕ) (y : ℕ) → x ≢ y → is_in x (xs ++ y ∷ []) ≡ is_in x xs
in-append x [] y ne = let e : eqb y x ≡ false = ne_eqb y x (λ s. ne (sym s)) in rw e refl
in-append x (z ∷ xs) y ne = elim (eqb z x) as (λ t. (t || is_in x (xs ++ y ∷ [])) ≡ (t || is_in x xs)) [ true ↦ refl | false ↦ in-append x xs y ne ]

in-last : (x : ℕ) (xs : List ℕ) → is_in x (xs ++ x ∷ []) ≡ true
in-last x [] = let e : eqb x x ≡ true = eq-eqb x x refl in rw e refl
in-last x (z ∷ xs) = elim (eqb z x) as (λ t. (t || is_in x (xs ++ x ∷ [])) ≡ true) [ true ↦ refl | false ↦ in-last x xs ]

-- a number that isn't in a list is one more
pub one-more : (xs : List ℕ) (x : ℕ) → is_in x xs ≡ false → length (different (xs ++ x ∷ [])) ≡ length (different xs) + 1
one-more [] x new = refl
one-more (y ∷ xs) x new =
    elim (eqb y x) as (λ t. (t || is_in x xs) ≡ false → eqb y x ≡ t → length (different ((y ∷ xs) ++ x ∷ [])) ≡ length (different (y ∷ xs)) + 1) [
      | true ↦ λ f e. absurd cc
      | false ↦ λ f e. by_first (is_in y xs) refl (eqb-false y x e) (one-more xs x f)
    ] new refl
  where
    by_first : (t : Bool) → is_in y xs ≡ t → y ≢ x → length (different (xs ++ x ∷ [])) ≡ length (different xs) + 1 → length (different ((y ∷ xs) ++ x ∷ [])) ≡ length (different (y ∷ xs)) + 1
    by_first true i apart f = rw (in-append y xs x apart, i) f
    by_first false i apart f = rw (in-append y xs x apart, i) (omega (arith, f))

-- one that is in it is none more
pub none-more : (xs : List ℕ) (x : ℕ) → is_in x xs ≡ true → length (different (xs ++ x ∷ [])) ≡ length (different xs)
none-more [] x old = absurd cc
none-more (y ∷ xs) x old =
    elim (eqb y x) as (λ t. (t || is_in x xs) ≡ true → eqb y x ≡ t → length (different ((y ∷ xs) ++ x ∷ [])) ≡ length (different (y ∷ xs))) [
      | true ↦ λ f e. by_same (is_in y xs) refl (eqb-true y x e) (λ there. none-more xs x there)
      | false ↦ λ f e. by_first (is_in y xs) refl (eqb-false y x e) (none-more xs x f)
    ] old refl
  where
    by_first : (t : Bool) → is_in y xs ≡ t → y ≢ x → length (different (xs ++ x ∷ [])) ≡ length (different xs) → length (different ((y ∷ xs) ++ x ∷ [])) ≡ length (different (y ∷ xs))
    by_first true i apart f = rw (in-append y xs x apart, i) f
    by_first false i apart f = rw (in-append y xs x apart, i) (ap suc f)

    by_same : (t : Bool) → is_in y xs ≡ t → y ≡ x → (is_in x xs ≡ true → length (different (xs ++ x ∷ [])) ≡ length (different xs)) → length (different ((y ∷ xs) ++ x ∷ [])) ≡ length (different (y ∷ xs))
    by_same true i same rest =
        let first : is_in y (xs ++ x ∷ []) ≡ true = subst (λ (n : ℕ). is_in y (xs ++ n ∷ []) ≡ true) same (in-last y xs) in
        let there : is_in x xs ≡ true = subst (λ (n : ℕ). is_in n xs ≡ true) same i in
        rw (first, i) (rest there)
    by_same false i same rest =
        let first : is_in y (xs ++ x ∷ []) ≡ true = subst (λ (n : ℕ). is_in y (xs ++ n ∷ []) ≡ true) same (in-last y xs) in
        let absent : is_in x xs ≡ false = subst (λ (n : ℕ). is_in n xs ≡ false) same i in
        let more = one-more xs x absent in
        rw (first, i) (omega (arith, more))

-- ---- what holds of each number of a list

abbrev pub AreAll : (ℕ → Type 0) → List ℕ → Type 0
AreAll P [] = Unit {0}
AreAll P (x ∷ xs) = P x × AreAll P xs

pub all-append : (P : ℕ → Type 0) (xs ys : List ℕ) → AreAll P xs → AreAll P ys → AreAll P (xs ++ ys)
all-append P [] ys p q = q
all-append P (x ∷ xs) ys p q = (p.0, all-append P xs ys p.1 q)

-- one that is none of them
pub all-absent : (x : ℕ) (xs : List ℕ) → AreAll (λ (y : ℕ). y ≡ x → ⊥) xs → is_in x xs ≡ false
all-absent x [] all = refl
all-absent x (y ∷ xs) all = let e : eqb y x ≡ false = ne_eqb y x all.0 in rw e (all-absent x xs all.1)

-- ---- as many as there are numbers below

-- each is less
abbrev pub AreBelow : ℕ → List ℕ → Type 0
AreBelow n [] = Unit {0}
AreBelow n (x ∷ xs) = (x < n) × AreBelow n xs

pub all-below : (n : ℕ) (xs : List ℕ) → AreAll (λ (x : ℕ). x < n) xs → AreBelow n xs
all-below n [] all = tt
all-below n (x ∷ xs) all = (all.0, all-below n xs all.1)

-- the others
abbrev others : ℕ → List ℕ → List ℕ
others n [] = []
others n (x ∷ xs) = cond (eqb x n) (others n xs) (x ∷ others n xs)

others-below : (n : ℕ) (xs : List ℕ) → AreBelow (suc n) xs → AreBelow n (others n xs)
others-below n [] b = tt
others-below n (x ∷ xs) b =
    elim (eqb x n) as (λ t. eqb x n ≡ t → AreBelow n (cond t (others n xs) (x ∷ others n xs))) [
      | true ↦ λ e. others-below n xs b.1
      | false ↦ λ e. (let low = b.0 in let apart = eqb-false x n e in omega (arith, low, apart), others-below n xs b.1)
    ] refl

others-in : (n : ℕ) (xs : List ℕ) (x : ℕ) → x ≢ n → is_in x (others n xs) ≡ is_in x xs
others-in n [] x apart = refl
others-in n (y ∷ ys) x apart =
    elim (eqb y n) as (λ t. eqb y n ≡ t → is_in x (cond t (others n ys) (y ∷ others n ys)) ≡ (eqb y x || is_in x ys)) [
      | true ↦ λ e. let differs : eqb y x ≡ false = ne_eqb y x (λ same. apart (sym same ∙ eqb-true y n e)) in rw differs (others-in n ys x apart)
      | false ↦ λ e. ap (λ (t : Bool). eqb y x || t) (others-in n ys x apart)
    ] refl

others-all : (n : ℕ) (xs : List ℕ) → is_in n xs ≡ false → others n xs ≡ xs
others-all n [] absent = refl
others-all n (x ∷ xs) absent =
    elim (eqb x n) as (λ t. (t || is_in n xs) ≡ false → cond t (others n xs) (x ∷ others n xs) ≡ x ∷ xs) [
      | true ↦ λ f. absurd cc
      | false ↦ λ f. ap (λ (t : List ℕ). x ∷ t) (others-all n xs f)
    ] absent

-- one number is one at most
others-count : (n : ℕ) (xs : List ℕ) → length (different xs) ≤ suc (length (different (others n xs)))
others-count n [] = omega arith
others-count n (x ∷ xs) =
    elim (eqb x n) as (λ t. eqb x n ≡ t → length (different (x ∷ xs)) ≤ suc (length (different (cond t (others n xs) (x ∷ others n xs))))) [
      | true ↦ λ e. by_same (is_in x xs) refl (eqb-true x n e) (others-count n xs)
      | false ↦ λ e. by_other (is_in x xs) refl (eqb-false x n e) (others-count n xs)
    ] refl
  where
    by_same : (t : Bool) → is_in x xs ≡ t → x ≡ n → length (different xs) ≤ suc (length (different (others n xs))) → length (different (x ∷ xs)) ≤ suc (length (different (others n xs)))
    by_same true i same rest = rw i rest
    by_same false i same rest =
        let absent : is_in n xs ≡ false = subst (λ (m : ℕ). is_in m xs ≡ false) same i in
        rw (i, others-all n xs absent) (omega arith)

    by_other : (t : Bool) → is_in x xs ≡ t → x ≢ n → length (different xs) ≤ suc (length (different (others n xs)))
        → length (different (x ∷ xs)) ≤ suc (length (different (x ∷ others n xs)))
    by_other true i apart rest = rw (i, others-in n xs x apart, i) rest
    by_other false i apart rest = rw (i, others-in n xs x apart, i) (omega (arith, rest))

pub few-different : (n : ℕ) (xs : List ℕ) → AreBelow n xs → length (different xs) ≤ n
few-different zero [] b = omega arith
few-different zero (x ∷ xs) b = absurd (let low = b.0 in omega (arith, low))
few-different (suc n) xs b =
    let rest = few-different n (others n xs) (others-below n xs b) in
    let one = others-count n xs in
    omega (arith, rest, one)

-- ---- a record that was sent is among them

pub sent-in : (which : Counted) (x : ℕ) (h : List Entry) (i : ℕ) (b : List ℕ) → At h i (Sent b) → xid_counted which (call_at b) ≡ x ∷ [] → is_in x (xids_sent which h) ≡ true
sent-in which x [] i b at e = absurd cc
sent-in which x (Sent k ∷ h) zero b at e =
    let same : k ≡ b = sent_is k b at in
    let here : xid_counted which (call_at k) ≡ x ∷ [] = ap (λ (t : List ℕ). xid_counted which (call_at t)) same ∙ e in
    let own : eqb x x ≡ true = eq-eqb x x refl in
    rw (here, own) refl
  where
    sent_is : (k l : List ℕ) → Some (Sent k) ≡ Some (Sent l) → k ≡ l
    sent_is k l e = cc
sent-in which x (Sent k ∷ h) (suc i) b at e = behind (xid_counted which (call_at k)) (sent-in which x h i b at e)
  where
    behind : (zs : List ℕ) → is_in x (xids_sent which h) ≡ true → is_in x (zs ++ xids_sent which h) ≡ true
    behind [] s = s
    behind (z ∷ zs) s = elim (eqb z x) as (λ t. (t || is_in x (zs ++ xids_sent which h)) ≡ true) [ true ↦ refl | false ↦ behind zs s ]
sent-in which x (Began lane line op ∷ h) zero b at e = absurd cc
sent-in which x (Began lane line op ∷ h) (suc i) b at e = sent-in which x h i b at e
sent-in which x (Answered lane line answer ∷ h) zero b at e = absurd cc
sent-in which x (Answered lane line answer ∷ h) (suc i) b at e = sent-in which x h i b at e
sent-in which x (Dialed port ∷ h) zero b at e = absurd cc
sent-in which x (Dialed port ∷ h) (suc i) b at e = sent-in which x h i b at e
sent-in which x (Executed xid call reply ∷ h) zero b at e = absurd cc
sent-in which x (Executed xid call reply ∷ h) (suc i) b at e = sent-in which x h i b at e
sent-in which x (Foreign call reply ∷ h) zero b at e = absurd cc
sent-in which x (Foreign call reply ∷ h) (suc i) b at e = sent-in which x h i b at e
sent-in which x (Flushed file from len ∷ h) zero b at e = absurd cc
sent-in which x (Flushed file from len ∷ h) (suc i) b at e = sent-in which x h i b at e
sent-in which x (Reboot verf ∷ h) zero b at e = absurd cc
sent-in which x (Reboot verf ∷ h) (suc i) b at e = sent-in which x h i b at e
sent-in which x (Delivered bytes ∷ h) zero b at e = absurd cc
sent-in which x (Delivered bytes ∷ h) (suc i) b at e = sent-in which x h i b at e
sent-in which x (Failed ∷ h) zero b at e = absurd cc
sent-in which x (Failed ∷ h) (suc i) b at e = sent-in which x h i b at e
sent-in which x (Clock ms ∷ h) zero b at e = absurd cc
sent-in which x (Clock ms ∷ h) (suc i) b at e = sent-in which x h i b at e
