-- What is written piece by piece, and what is read so.
use Rattle.std.proofs.Common.{◌≡◌, ◌≤◌, ◌+◌, ℕ, zero, suc, List, [], ◌∷◌, ◌++◌, length, take, drop, Option, Some, None, Result, Ok, Err, refl, sym, ap, ◌∙◌, append_assoc, arith}
use Rattle.std.proofs.lemmas.List.{append-nil, take-append-drop, take_at, length-append}
use Rattle.outside.specs.declared.link.LinkFault.{LinkFault}
use Rattle.outside.specs.declared.link.LinkFault.TheVariants as faults
use Rattle.outside.specs.Causes.{HasCause}
use Rattle.outside.specs.Sink.{WritesTo}
use Rattle.script_runs.specs.declared.input.ReadFault.{ReadFault}
use Rattle.script_runs.specs.declared.input.ReadFault.TheVariants as read_faults
use Rattle.script_runs.specs.Streams.{script_limit, TakesUpTo, TakesPiece, HasTaken, HasFault, Appends, AppendsFront}

abbrev none : List ℕ
none = []

pub appends_none : (old : Option (List ℕ)) → Appends old old []
appends_none None = tt
appends_none (Some old) = sym (append-nil old)

take_none : (k : ℕ) → take k none ≡ none
take_none zero = refl
take_none (suc k) = refl

-- the front of a front and what follows it
pub take_plus : (bytes : List ℕ) (d k : ℕ) → take (d + k) bytes ≡ take d bytes ++ take k (drop d bytes)
take_plus bytes zero k = let e : 0 + k ≡ k = omega arith in rw e refl
take_plus [] (suc d) k = let e : suc d + k ≡ suc (d + k) = omega arith in rw e (sym (take_none k))
take_plus (b ∷ bytes) (suc d) k = let e : suc d + k ≡ suc (d + k) = omega arith in rw e (ap (λ (t : List ℕ). b ∷ t) (take_plus bytes d k))

-- one more piece was taken
pub appends_more : (old mid new : Option (List ℕ)) (bytes : List ℕ) (done n : ℕ) → Appends old mid (take done bytes) → WritesTo mid new (drop done bytes) (Ok n) → Appends old new (take (done + n) bytes)
appends_more None mid new bytes done n a w = tt
appends_more (Some old) None new bytes done n a w = absurd a
appends_more (Some old) (Some mid) None bytes done n a w = absurd w
appends_more (Some old) (Some mid) (Some new) bytes done n a w =
    w ∙ ap (λ (t : List ℕ). t ++ take n (drop done bytes)) a ∙ append_assoc old (take done bytes) (take n (drop done bytes)) ∙ ap (λ (t : List ℕ). old ++ t) (sym (take_plus bytes done n))

-- a front as long as the bytes is all of them
take_whole : (bytes : List ℕ) (n : ℕ) → length bytes ≤ n → take n bytes ≡ bytes
take_whole [] n le = take_none n
take_whole (b ∷ bytes) zero le = absurd (omega (arith, le))
take_whole (b ∷ bytes) (suc n) le = ap (λ (t : List ℕ). b ∷ t) (take_whole bytes n (omega (arith, le)))

-- all pieces were taken
pub appends_all : (old new : Option (List ℕ)) (bytes : List ℕ) (done : ℕ) → length bytes ≤ done → Appends old new (take done bytes) → Appends old new bytes
appends_all None new bytes done le a = tt
appends_all (Some old) None bytes done le a = a
appends_all (Some old) (Some new) bytes done le a = a ∙ ap (λ (t : List ℕ). old ++ t) (take_whole bytes done le)

-- a piece failed after others were taken
pub appends_front : (old mid new : Option (List ℕ)) (bytes : List ℕ) (done : ℕ) (f : LinkFault) → Appends old mid (take done bytes) → WritesTo mid new (drop done bytes) (Err f) → AppendsFront old new bytes
appends_front None mid new bytes done f a w = tt
appends_front (Some old) None new bytes done f a w = absurd a
appends_front (Some old) (Some mid) None bytes done f a w = absurd w
appends_front (Some old) (Some mid) (Some new) bytes done f a w = (take done bytes, w ∙ a, record { rest = drop done bytes; is = sym (take-append-drop done bytes) })

-- ---- reading

no_rest : (first text longer left : List ℕ) → first ≡ text → first ≡ longer ++ left → length longer ≡ length text → first ≡ longer
no_rest first text longer left e f long = f ∙ ap (λ (t : List ℕ). longer ++ t) (nothing left (omega (arith, ap length e, ap length f, length-append longer left, long))) ∙ append-nil longer
  where
    nothing : (bytes : List ℕ) → length bytes ≡ 0 → bytes ≡ []
    nothing [] z = refl
    nothing (b ∷ bytes) z = absurd (omega (arith, z))

-- the end was reached
pub taken_end : (limit : ℕ) (first old new : Option (List ℕ)) (text longer : List ℕ) (room n : ℕ) → n ≡ 0 → length text ≤ limit → HasTaken first old text → TakesPiece old new text longer room n → TakesUpTo limit first longer
taken_end limit None old new text longer room n z le a p = tt
taken_end limit (Some first) None new text longer room n z le a p = absurd a
taken_end limit (Some first) (Some old) None text longer room n z le a p = absurd (p.more (Some first) a)
taken_end limit (Some first) (Some old) (Some new) text longer room n z le a p =
    let same : first ≡ text = a ∙ ap (λ (t : List ℕ). text ++ t) (p.ends z) ∙ append-nil text in
    let is : first ≡ longer = no_rest first text longer new same (p.more (Some first) a) (omega (arith, p.long, z)) in
    sym (ap (take limit) is ∙ take_whole longer limit (omega (arith, p.long, z, le)))

-- the limit was reached
pub taken_limit : (limit : ℕ) (old mid : Option (List ℕ)) (text : List ℕ) → length text ≡ limit → HasTaken old mid text → TakesUpTo limit old text
taken_limit limit None mid text e a = tt
taken_limit limit (Some old) None text e a = absurd a
taken_limit limit (Some old) (Some mid) text e a = sym (ap (take limit) a ∙ take_at text mid limit e)

pub limit_is : script_limit ≡ 1048577
unfolding script_limit
limit_is = refl

-- ---- results

-- a cause in the last of several calls is one in all of them
pub cause_on : {T U : Type 0} (a b c : ℕ) (f : LinkFault) → a ≤ b → HasCause {T = T} b c (Err f) → HasCause {T = U} a c (Err f)
cause_on a b c faults.Failed le h = record { later = omega (arith, le, h.later); failed = omega (arith, le, h.failed) }
cause_on a b c faults.Memory le h = record { later = omega (arith, le, h.later); failed = tt }

-- a fault of a source with this cause
pub fault_of : {X : Type 0} {P : Type 0} (r : Result X ReadFault) → P → HasFault r P
fault_of (Ok x) p = tt
fault_of (Err read_faults.Failed) p = p
fault_of (Err read_faults.Memory) p = tt
