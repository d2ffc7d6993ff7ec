-- How records are joined from fragments, and that a whole record stays what it is when bytes follow.
use Rattle.std.specs.Prelude.{nat_lt}
use Rattle.std.proofs.Common.{◌≡◌, ◌<◌, ◌≤◌, ℕ, zero, suc, ◌+◌, ◌-◌, ◌%◌, ◌^◌, Bool, true, false, cond, List, [], ◌∷◌, ◌++◌, length, take, drop, Option, Some, None, refl, sym, ap, ◌∙◌, arith, inl, inr}
use Rattle.std.proofs.lemmas.Bool.{cases_lt, ltb-false, le-ltb, lt-ltb}
use Rattle.std.proofs.lemmas.List.{take-append-drop, take-append-le, drop-append-le, take_all, drop_all, get_or_append_left, length-append, length-drop}
use Rattle.byteorder.specs.Endian.{big_number, big_bytes}
use Rattle.byteorder.specs.Numbers.{big_number-reads_back}
use Rattle.std.proofs.Math.Seq.{take-nil}
use Rattle.outside.specs.Records.{◌>>=◌, joined, record_at, left, nth_record}
use Rattle.xdr_codec.specs.Marks.{marked}
use Rattle.rpc_record.specs.Records.{one_fragment}
use Rattle.rpc_record.specs.Limits.{Found, Cut, Long, Whole, found, found_at, body, opened}
use Rattle.rpc_record.proofs.Replays.{bind_some}

pub less_one : (n : ℕ) → suc n - 1 ≡ n
less_one n = omega arith

pub joined_last : (n : ℕ) (front b : List ℕ) → 0 < n → 4 ≤ length b → big_number 4 b % 2 ^ 31 ≤ length (drop 4 b) → 2 ^ 31 ≤ big_number 4 b
    → joined n front b ≡ Some (front ++ take (big_number 4 b % 2 ^ 31) (drop 4 b), drop (big_number 4 b % 2 ^ 31) (drop 4 b))
unfolding joined
joined_last zero front b some long whole last = absurd (omega (arith, some))
joined_last (suc n) front b some long whole last = rw (le-ltb _ _ long, le-ltb _ _ whole, le-ltb _ _ last) refl

pub joined_next : (n : ℕ) (front b : List ℕ) → 0 < n → 4 ≤ length b → big_number 4 b % 2 ^ 31 ≤ length (drop 4 b) → big_number 4 b < 2 ^ 31
    → joined n front b ≡ joined (n - 1) (front ++ take (big_number 4 b % 2 ^ 31) (drop 4 b)) (drop (big_number 4 b % 2 ^ 31) (drop 4 b))
unfolding joined
joined_next zero front b some long whole more = absurd (omega (arith, some))
joined_next (suc n) front b some long whole more = rw (le-ltb _ _ long, le-ltb _ _ whole, lt-ltb _ _ more, less_one n) refl

pub guard_some : {A : Type 0} (b : Bool) (x : Option A) (r : A) → cond b None x ≡ Some r → (b ≡ false) × (x ≡ Some r)
guard_some true x r e = absurd cc
guard_some false x r e = (refl, e)

big_append : (b more : List ℕ) → 4 ≤ length b → big_number 4 (b ++ more) ≡ big_number 4 b
big_append b more le = omega (arith, get_or_append_left b more 0 0, get_or_append_left b more 0 1, get_or_append_left b more 0 2, get_or_append_left b more 0 3, le)

joined_grow : (n m : ℕ) (front b more : List ℕ) (r : List ℕ × List ℕ) → n ≤ m → joined n front b ≡ Some r → joined m front (b ++ more) ≡ Some (r.0, r.1 ++ more)
unfolding joined
joined_grow zero m front b more r most e = absurd cc
joined_grow (suc n) m front b more r most e =
    let p = guard_some _ _ r e in
    let q = guard_some _ _ r p.1 in
    let long : 4 ≤ length b = ltb-false _ _ p.0 in
    let big = big_append b more long in
    let rest = drop-append-le 4 b more long in
    let len : ℕ = big_number 4 b % 2 ^ 31 in
    let whole : len ≤ length (drop 4 b) = ltb-false _ _ q.0 in
    let one : 0 < suc n = omega arith in
    let some : 0 < m = omega (arith, most) in
    let long2 : 4 ≤ length (b ++ more) = omega (arith, long, length-append b more) in
    let whole2 : big_number 4 (b ++ more) % 2 ^ 31 ≤ length (drop 4 (b ++ more)) = rw (big, rest) (omega (arith, whole, length-append (drop 4 b) more)) in
    let front-is = take-append-le len (drop 4 b) more whole in
    let rest-is = drop-append-le len (drop 4 b) more whole in
    elim (cases_lt (big_number 4 b) (2 ^ 31)) [
      | inl lt ↦
          let f : joined n (front ++ take len (drop 4 b)) (drop len (drop 4 b)) ≡ Some r = rw (less_one n) at (sym (joined_next (suc n) front b one long whole lt) ∙ e) in
          joined_next m front (b ++ more) some long2 whole2 (rw big lt)
          ∙ rw (big, rest, front-is, rest-is) (joined_grow n (m - 1) (front ++ take len (drop 4 b)) (drop len (drop 4 b)) more r (omega (arith, most)) f)
      | inr le ↦
          let f : (front ++ take len (drop 4 b), drop len (drop 4 b)) ≡ r = cc (sym (joined_last (suc n) front b one long whole le) ∙ e) in
          joined_last m front (b ++ more) some long2 whole2 (rw big le) ∙ rw (big, rest, front-is, rest-is, ← f) refl
    ]

pub record_grow : (b more : List ℕ) (r : List ℕ × List ℕ) → record_at b ≡ Some r → record_at (b ++ more) ≡ Some (r.0, r.1 ++ more)
unfolding record_at
record_grow b more r e = joined_grow (length b) (length (b ++ more)) [] b more r (omega (arith, length-append b more)) e

pub left_grow : (n : ℕ) (b more l : List ℕ) → left n b ≡ Some l → left n (b ++ more) ≡ Some (l ++ more)
left_grow zero b more l e = ap (λ (t : Option (List ℕ)). t >>= λ x. Some (x ++ more)) e
left_grow (suc n) b more l e =
    let o = bind_some (record_at b) (λ r. left n r.1) l e in
    rw (record_grow b more o.0 o.1) (left_grow n o.0.1 more l o.2)

pub left_next : (n : ℕ) (b l : List ℕ) (r : List ℕ × List ℕ) → left n b ≡ Some l → record_at l ≡ Some r → left (suc n) b ≡ Some r.1
left_next zero b l r e f = ap (λ (t : Option (List ℕ)). t >>= λ x. record_at x >>= λ y. Some y.1) e ∙ rw f refl
left_next (suc n) b l r e f =
    let o = bind_some (record_at b) (λ x. left n x.1) l e in
    rw (o.1) (left_next n o.0.1 l r o.2 f)

pub nth_is : (n : ℕ) (b l : List ℕ) (r : List ℕ × List ℕ) → left n b ≡ Some l → record_at l ≡ Some r → nth_record n b ≡ Some r.0
nth_is n b l r e f = rw (e, f) refl

guard_cut : (b : Bool) (x : Found) (rec rest : List ℕ) → cond b Cut x ≡ Whole rec rest → (b ≡ false) × (x ≡ Whole rec rest)
guard_cut true x rec rest e = absurd cc
guard_cut false x rec rest e = (refl, e)

guard_long : (b : Bool) (x : Found) (rec rest : List ℕ) → cond b Long x ≡ Whole rec rest → x ≡ Whole rec rest
guard_long true x rec rest e = absurd cc
guard_long false x rec rest e = e

-- a record that is found under the limits is the one that the fragments make
found_joined : (n m : ℕ) (front b rec rest : List ℕ) → length b ≤ m → found n front b ≡ Whole rec rest → joined m front b ≡ Some (rec, rest)
unfolding found
found_joined zero m front b rec rest most e = let apart : Long ≡ Whole rec rest = (guard_cut (nat_lt (length b) 4) Long rec rest e).1 in absurd cc
found_joined (suc n) m front b rec rest most e =
    let len : ℕ = big_number 4 b % 2 ^ 31 in
    let p : (nat_lt (length b) 4 ≡ false) × (opened (found n) front (big_number 4 b) (drop 4 b) ≡ Whole rec rest) =
    guard_cut (nat_lt (length b) 4) (opened (found n) front (big_number 4 b) (drop 4 b)) rec rest e in
    let q : body (found n) front len (nat_lt (big_number 4 b) (2 ^ 31)) (drop 4 b) ≡ Whole rec rest =
    guard_long (nat_lt 131072 (length front + len)) (body (found n) front len (nat_lt (big_number 4 b) (2 ^ 31)) (drop 4 b)) rec rest p.1 in
    let s : (nat_lt (length (drop 4 b)) len ≡ false) × (cond (nat_lt (big_number 4 b) (2 ^ 31)) (found n (front ++ take len (drop 4 b)) (drop len (drop 4 b))) (Whole (front ++ take len (drop 4 b)) (drop len (drop 4 b))) ≡ Whole rec rest) =
    guard_cut (nat_lt (length (drop 4 b)) len) _ rec rest q in
    let long : 4 ≤ length b = ltb-false _ _ p.0 in
    let whole : len ≤ length (drop 4 b) = ltb-false _ _ s.0 in
    let some : 0 < m = omega (arith, long, most) in
    elim (cases_lt (big_number 4 b) (2 ^ 31)) [
      | inl lt ↦
          let f : found n (front ++ take len (drop 4 b)) (drop len (drop 4 b)) ≡ Whole rec rest = rw (lt-ltb _ _ lt) at s.1 in
          joined_next m front b some long whole lt
          ∙ found_joined n (m - 1) (front ++ take len (drop 4 b)) (drop len (drop 4 b)) rec rest (omega (arith, most, long, length-drop len (drop 4 b), length-drop 4 b)) f
      | inr le ↦
          let f : Whole (front ++ take len (drop 4 b)) (drop len (drop 4 b)) ≡ Whole rec rest = rw (le-ltb _ _ le) at s.1 in
          let a : front ++ take len (drop 4 b) ≡ rec = cc in
          let d : drop len (drop 4 b) ≡ rest = cc in
          joined_last m front b some long whole le ∙ rw (a, d) refl
    ]

pub found_is : (b rec rest : List ℕ) → found_at b ≡ Whole rec rest → record_at b ≡ Some (rec, rest)
unfolding found_at record_at
found_is b rec rest e = found_joined 4096 (length b) [] b rec rest (omega arith) e

pub fragment_record : (rec : List ℕ) → length rec < 2 ^ 31 → record_at (one_fragment rec) ≡ Some (rec, [])
unfolding record_at marked
fragment_record rec fits =
    let b : List ℕ = big_bytes 4 (2 ^ 31 + length rec) ++ rec in
    let big : big_number 4 b ≡ 2 ^ 31 + length rec = big_number-reads_back 4 (2 ^ 31 + length rec) rec (omega (arith, fits)) in
    let len : big_number 4 b % 2 ^ 31 ≡ length rec = rw big (omega (arith, fits)) in
    joined_last (length b) [] b (omega arith) (omega arith) (rw len (omega arith)) (rw big (omega arith)) ∙ rw (len, take_all (length rec) rec (omega arith), drop_all (length rec) rec (omega arith)) refl

pub fragment_some : (rec : List ℕ) → 0 < length (one_fragment rec)
unfolding marked
fragment_some rec = omega arith

pub last_part : (text rec : List ℕ) (at n : ℕ) → text ≡ one_fragment rec → length rec < 2 ^ 31 → n ≡ length (drop at text) → record_at (take at text ++ take n (drop at text)) ≡ Some (rec, [])
last_part text rec at n e fits is =
    rw (take_all n (drop at text) (omega (arith, is)), take-append-drop at text, e) (fragment_record rec fits)

zero_more : (n : ℕ) → n ≡ 0 + n
zero_more n = omega arith

suc_more : (m n : ℕ) → suc (m + n) ≡ suc m + n
suc_more m n = omega arith

pub more_taken : (at n : ℕ) (xs : List ℕ) → take at xs ++ take n (drop at xs) ≡ take (at + n) xs
more_taken zero n xs = ap (λ (k : ℕ). take k xs) (zero_more n)
more_taken (suc at) n [] = take-nil n ∙ sym (take-nil (suc at + n))
more_taken (suc at) n (x ∷ xs) = ap (λ (t : List ℕ). x ∷ t) (more_taken at n xs) ∙ ap (λ (k : ℕ). take k (x ∷ xs)) (suc_more at n)
