-- What the bytes to come make of a record stays the same when bytes are taken.
use Rattle.std.proofs.Common.{◌≡◌, ◌<◌, ◌≤◌, ℕ, zero, suc, ◌+◌, ◌-◌, Bool, true, false, cond, List, [], ◌++◌, length, take, drop, refl, sym, ap, ◌∙◌, arith, inl, inr, append_assoc}
use Rattle.std.proofs.lemmas.Bool.{cases_lt, le-ltb, lt-ltb}
use Rattle.std.proofs.lemmas.List.{take-append-drop, append-nil, length-append, length-take, get_or_append_left, drop-append-le, drop_all}
use Rattle.std.proofs.Math.Seq.{take-append-add, drop-append-add}
use Rattle.byteorder.specs.Endian.{big_number}
use Rattle.rpc_record.specs.declared.gather.Phase.{Phase}
use Rattle.rpc_record.specs.declared.gather.Phase.TheVariants.{Header, Body, Long}
use Rattle.rpc_record.specs.Limits.{Found, found, body, opened}
use Rattle.rpc_record.specs.Limits as limits
use Rattle.rpc_record.specs.Gather.{Gathered, Advances, resumes_in, ended, in_body, begins}

-- bytes of a fragment may be taken in parts
pub body_split : (next : List ℕ → List ℕ → Found) (front : List ℕ) (left : ℕ) (more : Bool) (a b : List ℕ) → length a ≤ left
    → body next front left more (a ++ b) ≡ body next (front ++ a) (left - length a) more b
body_split next front left more a b fits =
    let k : ℕ = left - length a in
    let is : left ≡ length a + k = omega (arith, fits) in
    let t : take left (a ++ b) ≡ a ++ take k b = ap (λ (n : ℕ). take n (a ++ b)) is ∙ take-append-add a b k in
    let d : drop left (a ++ b) ≡ drop k b = ap (λ (n : ℕ). drop n (a ++ b)) is ∙ drop-append-add a b k in
    let front_is : front ++ (a ++ take k b) ≡ (front ++ a) ++ take k b = sym (append_assoc front a (take k b)) in
    elim (cases_lt (length b) k) [
      | inl lt ↦ let lt2 : length (a ++ b) < left = omega (arith, lt, length-append a b, fits) in rw (lt-ltb _ _ lt2, lt-ltb _ _ lt) refl
      | inr le ↦ let le2 : left ≤ length (a ++ b) = omega (arith, le, length-append a b, fits) in rw (le-ltb _ _ le2, le-ltb _ _ le, t, d, front_is) refl
    ]

ended_is : (n : ℕ) (front : List ℕ) (more : Bool) (b : List ℕ) → body (found n) front 0 more b ≡ resumes_in (ended more) front [] n b
ended_is n front true b = let le : 0 ≤ length b = omega arith in rw (le-ltb _ _ le) (ap (λ (t : List ℕ). found n t b) (append-nil front))
ended_is n front false b = let le : 0 ≤ length b = omega arith in rw (le-ltb _ _ le) (ap (λ (t : List ℕ). limits.Whole t b) (append-nil front))

pub in_body_is : (k n : ℕ) (front : List ℕ) (more : Bool) (b : List ℕ) → body (found n) front k more b ≡ resumes_in (in_body k more) front [] n b
in_body_is zero n front more b = ended_is n front more b
in_body_is (suc k) n front more b = refl

begun_is : (big : Bool) (k n : ℕ) (front : List ℕ) (more : Bool) (b : List ℕ)
    → cond big limits.Long (body (found n) front k more b) ≡ resumes_in (cond big Long (in_body k more)) front [] n b
begun_is true k n front more b = refl
begun_is false k n front more b = in_body_is k n front more b

big_append : (b more : List ℕ) → 4 ≤ length b → big_number 4 (b ++ more) ≡ big_number 4 b
big_append b more le = omega (arith, get_or_append_left b more 0 0, get_or_append_left b more 0 1, get_or_append_left b more 0 2, get_or_append_left b more 0 3, le)

header_drop : (h b : List ℕ) → length h ≡ 4 → drop 4 (h ++ b) ≡ b
header_drop h b is = drop-append-le 4 h b (omega (arith, is)) ∙ ap (λ (t : List ℕ). t ++ b) (drop_all 4 h (omega (arith, is)))

-- a header that is whole
pub header_whole : (n : ℕ) (front h b : List ℕ) → length h ≡ 4
    → found n front (h ++ b) ≡ resumes_in (begins (big_number 4 h) (length front) n) front [] (n - 1) b
unfolding found
header_whole zero front h b is = let long : 4 ≤ length (h ++ b) = omega (arith, is, length-append h b) in rw (le-ltb _ _ long) refl
header_whole (suc n) front h b is =
    let long : 4 ≤ length (h ++ b) = omega (arith, is, length-append h b) in
    let one : suc n - 1 ≡ n = omega arith in
    rw (le-ltb _ _ long, one, big_append h b (omega (arith, is)), header_drop h b is) (begun_is _ _ n front _ b)

-- bytes in two parts
pub parts : (n : ℕ) (bytes more : List ℕ) → bytes ++ more ≡ take n bytes ++ (drop n bytes ++ more)
parts n bytes more = ap (λ (t : List ℕ). t ++ more) (sym (take-append-drop n bytes)) ∙ append_assoc (take n bytes) (drop n bytes) more

-- bytes of a header are taken, and it isn't whole
pub header_more : (n k : ℕ) (front h bytes more : List ℕ) → found n front (h ++ (bytes ++ more)) ≡ found n front ((h ++ take k bytes) ++ (drop k bytes ++ more))
header_more n k front h bytes more = ap (λ (t : List ℕ). found n front t) (ap (λ (t : List ℕ). h ++ t) (parts k bytes more) ∙ sym (append_assoc h (take k bytes) (drop k bytes ++ more)))

-- bytes of a header are taken, and it is whole
pub header_ends : (n k : ℕ) (front h bytes more : List ℕ) → length (h ++ take k bytes) ≡ 4
    → found n front (h ++ (bytes ++ more)) ≡ resumes_in (begins (big_number 4 (h ++ take k bytes)) (length front) n) front [] (n - 1) (drop k bytes ++ more)
header_ends n k front h bytes more is = header_more n k front h bytes more ∙ header_whole n front (h ++ take k bytes) (drop k bytes ++ more) is

-- bytes of a fragment are taken
pub body_more : (n k left : ℕ) (more : Bool) (front bytes rest : List ℕ) → k ≤ left → k ≤ length bytes
    → body (found n) front left more (bytes ++ rest) ≡ resumes_in (in_body (left - k) more) (front ++ take k bytes) [] n (drop k bytes ++ rest)
body_more n k left more front bytes rest fits within =
    let len : length (take k bytes) ≡ k = omega (arith, length-take k bytes, within) in
    ap (λ (t : List ℕ). body (found n) front left more t) (parts k bytes rest)
    ∙ body_split (found n) front left more (take k bytes) (drop k bytes ++ rest) (omega (arith, len, fits))
    ∙ rw (len) (in_body_is (left - k) n (front ++ take k bytes) more (drop k bytes ++ rest))

pub took_header_whole : (old new : Gathered) (bytes h : List ℕ) (n : ℕ) → 0 < n → n ≤ length bytes → old.phase ≡ Header → h ≡ old.header ++ take n bytes → length h ≡ 4
    → new ≡ record { front = old.front; header = []; fragments = old.fragments - 1; phase = begins (big_number 4 h) (length old.front) old.fragments } → Advances old new bytes n
took_header_whole old new bytes h n some fits on is whole e = record {
  some = some;
  fits = fits;
  same = λ more. ap (λ (p : Phase). resumes_in p old.front old.header old.fragments (bytes ++ more)) on
      ∙ rw (e, is) (header_ends old.fragments n old.front old.header bytes more (ap length (sym is) ∙ whole));
}

pub took_header_part : (old new : Gathered) (bytes : List ℕ) (n : ℕ) → 0 < n → n ≤ length bytes → old.phase ≡ Header
    → new ≡ record { front = old.front; header = old.header ++ take n bytes; fragments = old.fragments; phase = Header } → Advances old new bytes n
took_header_part old new bytes n some fits on e = record {
  some = some;
  fits = fits;
  same = λ more. ap (λ (p : Phase). resumes_in p old.front old.header old.fragments (bytes ++ more)) on
      ∙ rw e (header_more old.fragments n old.front old.header bytes more);
}

pub took_body : (old new : Gathered) (bytes : List ℕ) (n left : ℕ) (more : Bool) → 0 < n → n ≤ length bytes → n ≤ left → old.phase ≡ Body left more
    → new ≡ record { front = old.front ++ take n bytes; header = []; fragments = old.fragments; phase = in_body (left - n) more } → Advances old new bytes n
took_body old new bytes n left more some fits within on e = record {
  some = some;
  fits = fits;
  same = λ rest. ap (λ (p : Phase). resumes_in p old.front old.header old.fragments (bytes ++ rest)) on
      ∙ rw e (body_more old.fragments n left more old.front bytes rest within fits);
}
