-- Lists that are read and written item by item.
use Rattle.std.proofs.Common.{◌≡◌, ◌≤◌, ◌<◌, ◌^◌, ◌+◌, ◌-◌, ℕ, zero, suc, Bool, true, false, cond, ltb, List, [], ◌∷◌, ◌++◌, length, take, get_or, Result, Ok, Err, refl, sym, ap, subst, ◌∙◌, append_assoc, arith}
use Rattle.std.specs.Prelude.{IsErrAnd}
use Rattle.std.specs.List.{All}
use Rattle.std.proofs.lemmas.Bool.{ltb-false, le-ltb}
use Rattle.std.proofs.lemmas.List.{append-nil, length-append, take_more}
use Rattle.xdr_codec.specs.declared.reader.XdrFault.{XdrFault}
use Rattle.xdr_codec.specs.declared.reader.XdrFault.TheVariants.{Short, TooLong}
use Rattle.xdr_codec.specs.declared.codec_fault.CodecFault.{CodecFault}
use Rattle.xdr_codec.specs.declared.codec_fault.CodecFault.TheVariants as faults
use Rattle.xdr_codec.specs.Reading.{◌>>=◌, u32_at, flag_at}
use Rattle.xdr_codec.specs.Lists.{items_at, list_at}
use Rattle.xdr_codec.specs.Spelling.{u32_bytes, flag_bytes, BeginsWith}
use Rattle.xdr_codec.specs.Bytes.{IsBytes}
use Rattle.xdr_codec.specs.Spells.{◌⨾◌, SpellsU32, SpellsFlag, SpellsList}
use Rattle.xdr_codec.proofs.Laws.{Takes, Codec, bind_ok, u32_codec}
use Rattle.xdr_codec.proofs.MoreLaws.{of, ok_is, guard_ok, both, flag_codec, flag_long}
use Rattle.mount_calls.specs.Lists.{ReadsOwned, nothing_at, SpellsNothing, many_at, counted_at, SpellsMany, SpellsCounted, many_bytes, prepends, AlongMany, AlongList}

pub nothing_codec : Codec nothing_at SpellsNothing
nothing_codec = record {
  takes = λ bytes x fits e.
      let pair : Unit {0} × List ℕ = (tt, bytes) in
      subst (λ (y : Unit {0} × List ℕ). Takes SpellsNothing bytes y) (ok_is pair x e) (record { front = []; is = refl; spells = record { is = refl }; rest = fits });
  again = λ v text rest s. rw s.is refl;
}

-- ---- counted lists

after_text : (text front back rest : List ℕ) → text ≡ front ++ back → text ++ rest ≡ front ++ (back ++ rest)
after_text text front back rest e = ap (λ (k : List ℕ). k ++ rest) e ∙ append_assoc front back rest

many_takes : {A : Type 0} {read : List ℕ → Result (A × List ℕ) XdrFault} {S : A → List ℕ → Type 0} → Codec read S → (n : ℕ) (bytes : List ℕ) (x : List A × List ℕ)
    → IsBytes bytes → many_at read n bytes ≡ Ok x → Takes (SpellsMany S) bytes x × (length x.0 ≡ n)
many_takes {A = A} {read = read} {S = S} c zero bytes x fits e =
    let pair : List A × List ℕ = ([], bytes) in
    subst (λ (y : List A × List ℕ). Takes (SpellsMany S) bytes y × (length y.0 ≡ 0)) (ok_is pair x e) (record { front = []; is = refl; spells = refl; rest = fits }, refl)
many_takes {A = A} {read = read} {S = S} c (suc n) bytes x fits e =
    let o = bind_ok (read bytes) (λ v. many_at read n v.1 >>= λ vs. Ok (v.0 ∷ vs.0, vs.1)) x e in
    let p = bind_ok (many_at read n o.0.1) (λ vs. Ok (o.0.0 ∷ vs.0, vs.1)) x o.2 in
    let t = c.takes bytes o.0 fits o.1 in
    let u = many_takes c n o.0.1 p.0 t.rest p.1 in
    let pair : List A × List ℕ = (o.0.0 ∷ p.0.0, p.0.1) in
    subst (λ (y : List A × List ℕ). Takes (SpellsMany S) bytes y × (length y.0 ≡ suc n)) (ok_is pair x p.2)
    (both {T = SpellsMany S} {U = SpellsMany S} bytes o.0 p.0 (o.0.0 ∷ p.0.0) t u.0 (λ text s. s), ap suc u.1)

many_again : {A : Type 0} {read : List ℕ → Result (A × List ℕ) XdrFault} {S : A → List ℕ → Type 0} → Codec read S → (vs : List A) (text rest : List ℕ)
    → SpellsMany S vs text → many_at read (length vs) (text ++ rest) ≡ Ok (vs, rest)
many_again c [] text rest s = rw s refl
many_again c (v ∷ vs) text rest s = rw (after_text text s.front s.back rest s.is, c.again v s.front (s.back ++ rest) s.one, many_again c vs s.back rest s.two) refl

counted_takes : {A : Type 0} {read : List ℕ → Result (A × List ℕ) XdrFault} {S : A → List ℕ → Type 0} (max : ℕ) → Codec read S → (bytes : List ℕ) (x : List A × List ℕ)
    → IsBytes bytes → counted_at max read bytes ≡ Ok x → Takes (SpellsCounted max S) bytes x
counted_takes {A = A} {read = read} {S = S} max c bytes x fits e =
    let o = bind_ok (u32_at bytes) _ x e in
    let t = u32_codec.takes bytes o.0 fits o.1 in
    let g = guard_ok (ltb max o.0.0) TooLong (many_at read o.0.0 o.0.1) x o.2 in
    let u = many_takes c o.0.0 o.0.1 x t.rest g.1 in
    both {T = SpellsMany S} {U = SpellsCounted max S} bytes o.0 x x.0 t u.0
    (λ text s. record { bound = rw u.1 (ltb-false _ _ g.0); is = subst (λ n. (SpellsU32 n ⨾ SpellsMany S x.0) text) (sym u.1) s })

pub counted_codec : {A : Type 0} {read : List ℕ → Result (A × List ℕ) XdrFault} {S : A → List ℕ → Type 0} (max : ℕ) → Codec read S → Codec (counted_at max read) (SpellsCounted max S)
counted_codec max c = record {
  takes = counted_takes max c;
  again = λ vs text rest s.
      let k = s.is in
      rw (after_text text k.front k.back rest k.is, u32_codec.again (length vs) k.front (k.back ++ rest) k.one, le-ltb max (length vs) s.bound) (many_again c vs k.back rest k.two);
}

-- ---- reading so many items, one after another

prepends_nil : {A : Type 0} (r : Result (List A × List ℕ) XdrFault) → prepends [] r ≡ r
prepends_nil (Ok x) = refl
prepends_nil (Err f) = refl

abbrev pair_ok : {A : Type 0} → List A → List ℕ → Result (List A × List ℕ) XdrFault
pair_ok l rest = Ok (l, rest)

prepends_more : {A : Type 0} (seen : List A) (v : A) (r : Result (List A × List ℕ) XdrFault) → prepends seen (r >>= λ vs. Ok (v ∷ vs.0, vs.1)) ≡ prepends (seen ++ v ∷ []) r
prepends_more {A = A} seen v (Ok x) = ap (λ (l : List A). pair_ok l x.1) (sym (append_assoc seen (v ∷ []) x.0))
prepends_more seen v (Err f) = refl

less_none : (n : ℕ) → n - 0 ≡ n
less_none n = omega arith

pub many_begins : {A : Type 0} (read : List ℕ → Result (A × List ℕ) XdrFault) (count : ℕ) (old : List ℕ) → AlongMany read count old [] old
many_begins read count old = record { most = omega arith; same = rw (less_none count) (sym (prepends_nil (many_at read count old))) }

-- an item is left to be read
one_less : (n k : ℕ) → k < n → n - k ≡ suc (n - suc k)
one_less n k lt = omega (arith, lt)

pub many_next : {A : Type 0} (read : List ℕ → Result (A × List ℕ) XdrFault) (count : ℕ) (old : List ℕ) (seen : List A) (now next : List ℕ) (v : A)
    → AlongMany read count old seen now → length seen < count → read now ≡ Ok (v, next) → AlongMany read count old (seen ++ v ∷ []) next
many_next read count old seen now next v a lt e =
    let long : length (seen ++ v ∷ []) ≡ suc (length seen) = omega (arith, length-append seen (v ∷ [])) in
    let goes : many_at read (count - length seen) now ≡ (many_at read (count - suc (length seen)) next >>= λ vs. Ok (v ∷ vs.0, vs.1)) = rw (one_less count (length seen) lt, e) refl in
    record {
      most = omega (arith, long, lt);
      same = a.same ∙ ap (λ r. prepends seen r) goes ∙ prepends_more seen v (many_at read (count - suc (length seen)) next) ∙ rw long refl;
    }

pub many_refused : {A : Type 0} (read : List ℕ → Result (A × List ℕ) XdrFault) (count : ℕ) (old : List ℕ) (seen : List A) (now : List ℕ) (f : XdrFault)
    → AlongMany read count old seen now → length seen < count → read now ≡ Err f → many_at read count old ≡ Err f
many_refused read count old seen now f a lt e = a.same ∙ rw (one_less count (length seen) lt, e) refl

pub many_ends : {A : Type 0} (read : List ℕ → Result (A × List ℕ) XdrFault) (count : ℕ) (old : List ℕ) (seen : List A) (now : List ℕ)
    → AlongMany read count old seen now → count ≤ length seen → many_at read count old ≡ Ok (seen, now)
many_ends read count old seen now a le =
    let none : count - length seen ≡ 0 = omega (arith, le) in
    a.same ∙ rw none (ap (λ l. pair_ok l now) (append-nil seen))

-- ---- reading up to the word 0

abbrev GoesOn : {A : Type 0} → (List ℕ → Result (A × List ℕ) XdrFault) → ℕ → Result (Bool × List ℕ) XdrFault → Result (List A × List ℕ) XdrFault
GoesOn read n flag = flag >>= λ t. cond t.0 (read t.1 >>= λ v. items_at read n v.1 >>= λ vs. Ok (v.0 ∷ vs.0, vs.1)) (Ok ([], t.1))

no_flag : flag_at [] ≡ Err Short
unfolding flag_at
no_flag = refl

item_shorter : {A : Type 0} {read : List ℕ → Result (A × List ℕ) XdrFault} {S : A → List ℕ → Type 0} → Codec read S → (bytes more : List ℕ) (v : A × List ℕ)
    → IsBytes bytes → flag_at bytes ≡ Ok (true, more) → read more ≡ Ok v → IsBytes v.1 × (4 + length v.1 ≤ length bytes)
item_shorter c bytes more v fits e d =
    let t = flag_codec.takes bytes (true, more) fits e in
    let u = c.takes more v t.rest d in
    (u.rest, omega (arith, ap length t.is, length-append t.front more, flag_long true t.front t.spells, ap length u.is, length-append u.front v.1))

-- more turns than bytes change nothing
fuel_item : {A : Type 0} {read : List ℕ → Result (A × List ℕ) XdrFault} {S : A → List ℕ → Type 0} → Codec read S → (n m : ℕ)
    → ((bytes : List ℕ) → IsBytes bytes → length bytes ≤ n → length bytes ≤ m → items_at read n bytes ≡ items_at read m bytes)
    → (bytes more : List ℕ) (r : Result (A × List ℕ) XdrFault) → IsBytes bytes → length bytes ≤ suc n → length bytes ≤ suc m → flag_at bytes ≡ Ok (true, more) → read more ≡ r
    → GoesOn read n (flag_at bytes) ≡ GoesOn read m (flag_at bytes)
fuel_item c n m below bytes more (Err f) fits a b e d = rw (e, d) refl
fuel_item c n m below bytes more (Ok v) fits a b e d =
    let s = item_shorter c bytes more v fits e d in
    rw (e, d, below v.1 s.0 (omega (arith, s.1, a)) (omega (arith, s.1, b))) refl

fuel_flag : {A : Type 0} {read : List ℕ → Result (A × List ℕ) XdrFault} {S : A → List ℕ → Type 0} → Codec read S → (n m : ℕ)
    → ((bytes : List ℕ) → IsBytes bytes → length bytes ≤ n → length bytes ≤ m → items_at read n bytes ≡ items_at read m bytes)
    → (bytes : List ℕ) (r : Result (Bool × List ℕ) XdrFault) → IsBytes bytes → length bytes ≤ suc n → length bytes ≤ suc m → flag_at bytes ≡ r
    → GoesOn read n (flag_at bytes) ≡ GoesOn read m (flag_at bytes)
fuel_flag c n m below bytes (Err f) fits a b e = rw e refl
fuel_flag c n m below bytes (Ok (false, more)) fits a b e = rw e refl
fuel_flag {read = read} c n m below bytes (Ok (true, more)) fits a b e = fuel_item c n m below bytes more (read more) fits a b e refl

pub items_fuel : {A : Type 0} {read : List ℕ → Result (A × List ℕ) XdrFault} {S : A → List ℕ → Type 0} → Codec read S → (n m : ℕ) (bytes : List ℕ)
    → IsBytes bytes → length bytes ≤ n → length bytes ≤ m → items_at read n bytes ≡ items_at read m bytes
items_fuel c zero zero bytes fits a b = refl
items_fuel c zero (suc m) [] fits a b = rw no_flag refl
items_fuel c zero (suc m) (x ∷ bytes) fits a b = absurd (omega (arith, a))
items_fuel c (suc n) zero [] fits a b = rw no_flag refl
items_fuel c (suc n) zero (x ∷ bytes) fits a b = absurd (omega (arith, b))
items_fuel c (suc n) (suc m) bytes fits a b = fuel_flag c n m (items_fuel c n m) bytes (flag_at bytes) fits a b refl

-- the list begins with a flag
list_front : {A : Type 0} (read : List ℕ → Result (A × List ℕ) XdrFault) (bytes : List ℕ) → (n : ℕ) × (length bytes ≤ suc n) × (n ≤ length bytes) × (list_at read bytes ≡ GoesOn read n (flag_at bytes))
list_front read [] = (0, omega arith, omega arith, rw no_flag refl)
list_front read (b ∷ bytes) = (length bytes, omega arith, omega arith, refl)

pub list_begins : {A : Type 0} (read : List ℕ → Result (A × List ℕ) XdrFault) (old now : List ℕ) → now ≡ old → IsBytes now → AlongList read old [] now
list_begins read old now e fits = record { fits = fits; same = rw (← e) (sym (prepends_nil (list_at read now))) }

pub list_broken : {A : Type 0} (read : List ℕ → Result (A × List ℕ) XdrFault) (old : List ℕ) (seen : List A) (now : List ℕ) (f : XdrFault)
    → AlongList read old seen now → flag_at now ≡ Err f → list_at read old ≡ Err f
list_broken read old seen now f a e = let o = list_front read now in a.same ∙ rw (o.3, e) refl

pub list_ends : {A : Type 0} (read : List ℕ → Result (A × List ℕ) XdrFault) (old : List ℕ) (seen : List A) (now rest : List ℕ)
    → AlongList read old seen now → flag_at now ≡ Ok (false, rest) → list_at read old ≡ Ok (seen, rest)
list_ends read old seen now rest a e = let o = list_front read now in a.same ∙ rw (o.3, e) (ap (λ l. pair_ok l rest) (append-nil seen))

pub list_refused : {A : Type 0} (read : List ℕ → Result (A × List ℕ) XdrFault) (old : List ℕ) (seen : List A) (now more : List ℕ) (f : XdrFault)
    → AlongList read old seen now → flag_at now ≡ Ok (true, more) → read more ≡ Err f → list_at read old ≡ Err f
list_refused read old seen now more f a e d = let o = list_front read now in a.same ∙ rw (o.3, e, d) refl

pub list_next : {A : Type 0} {read : List ℕ → Result (A × List ℕ) XdrFault} {S : A → List ℕ → Type 0} → Codec read S → (old : List ℕ) (seen : List A) (now more next : List ℕ) (v : A)
    → AlongList read old seen now → flag_at now ≡ Ok (true, more) → read more ≡ Ok (v, next) → AlongList read old (seen ++ v ∷ []) next
list_next {read = read} c old seen now more next v a e d =
    let o = list_front read now in
    let s = item_shorter c now more (v, next) a.fits e d in
    let turns : items_at read o.0 next ≡ list_at read next = items_fuel c o.0 (length next) next s.0 (omega (arith, s.1, o.1)) (omega arith) in
    let goes : list_at read now ≡ (list_at read next >>= λ vs. Ok (v ∷ vs.0, vs.1)) = o.3 ∙ rw (e, d, turns) refl in
    record { fits = s.0; same = a.same ∙ ap (λ r. prepends seen r) goes ∙ prepends_more seen v (list_at read next) }

pub list_smaller : {A : Type 0} {read : List ℕ → Result (A × List ℕ) XdrFault} {S : A → List ℕ → Type 0} → Codec read S → (now more next : List ℕ) (v : A)
    → IsBytes now → flag_at now ≡ Ok (true, more) → read more ≡ Ok (v, next) → length next < length now
list_smaller c now more next v fits e d = let s = item_shorter c now more (v, next) fits e d in omega (arith, s.1)

-- ---- what is written

pub many_append : {A : Type 0} (write : A → List ℕ) (xs ys : List A) → many_bytes write (xs ++ ys) ≡ many_bytes write xs ++ many_bytes write ys
many_append write [] ys = refl
many_append write (x ∷ xs) ys = ap (λ (k : List ℕ). write x ++ k) (many_append write xs ys) ∙ sym (append_assoc (write x) (many_bytes write xs) (many_bytes write ys))

-- one more item was written
pub many_written : {A : Type 0} (write : A → List ℕ) (list : List A) (i : ℕ) (item : A) (old before after : List ℕ) → i < length list → item ≡ get_or list i item
    → before ≡ old ++ many_bytes write (take i list) → after ≡ before ++ write item → after ≡ old ++ many_bytes write (take (i + 1) list)
many_written write list i item old before after lt is e f =
    rw (f, e, take_more list i item lt, ← is, many_append write (take i list) (item ∷ []), append-nil (write item))
    (append_assoc old (many_bytes write (take i list)) (write item))

pub list_spelled : {A : Type 0} (S : A → List ℕ → Type 0) (write : A → List ℕ) (vs : List A) → All (λ v. S v (write v)) vs
    → SpellsList S vs (many_bytes (λ v. flag_bytes true ++ write v) vs ++ flag_bytes false)
list_spelled S write [] all = record { is = refl }
list_spelled S write (v ∷ vs) all =
    let rest = many_bytes (λ w. flag_bytes true ++ write w) vs in
    record {
      front = flag_bytes true;
      back = write v ++ (rest ++ flag_bytes false);
      is = append_assoc (flag_bytes true ++ write v) rest (flag_bytes false) ∙ append_assoc (flag_bytes true) (write v) (rest ++ flag_bytes false);
      one = record { is = refl };
      two = record { front = write v; back = rest ++ flag_bytes false; is = refl; one = all 0 v (omega arith); two = list_spelled S write vs (λ k d lt. all (suc k) d (omega (arith, lt))) };
    }

-- ---- a fault that is handed on

pub handed_on : {X : Type 0} (result : Result X CodecFault) (f : XdrFault) (new : List ℕ) (read : Result (X × List ℕ) XdrFault)
    → IsErrAnd result (λ e. e ≡ faults.Xdr f) → read ≡ Err f → ReadsOwned result new read
handed_on (Ok x) f new read p e = absurd p
handed_on (Err g) f new read p e = rw p e

pub passed_on : {X Y : Type 0} (result : Result X CodecFault) (g : CodecFault) (new : List ℕ) (inner : Result (Y × List ℕ) XdrFault) (read : Result (X × List ℕ) XdrFault)
    → IsErrAnd result (λ e. e ≡ g) → ReadsOwned {X = Y} (Err g) new inner → ((f : XdrFault) → inner ≡ Err f → read ≡ Err f) → ReadsOwned result new read
passed_on (Ok x) g new inner read p e on = absurd p
passed_on (Err h) faults.Memory new inner read p e on = rw p tt
passed_on (Err h) (faults.Xdr f) new inner read p e on = rw p (on f e)
