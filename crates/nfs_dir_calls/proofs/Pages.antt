-- What a page gives, row by row.
use Rattle.std.proofs.Common.{append_assoc, ◌+◌, ◌≡◌, ◌≤◌, ◌<◌, ℕ, zero, suc, Bool, true, false, cond, List, [], ◌∷◌, ◌++◌, length, Result, Ok, Err, refl, sym, ap, ◌∙◌, arith}
use Rattle.std.proofs.lemmas.List.{append-nil, length-append}
use Rattle.xdr_codec.specs.declared.reader.XdrFault.{XdrFault}
use Rattle.xdr_codec.specs.declared.reader.XdrFault.TheVariants.{Short}
use Rattle.xdr_codec.specs.Reading.{◌>>=◌, flag_at}
use Rattle.xdr_codec.specs.Bytes.{IsBytes}
use Rattle.xdr_codec.specs.Lists.{items_at}
use Rattle.xdr_codec.specs.Spelling.{flag_bytes}
use Rattle.xdr_codec.specs.Spells.{◌⨾◌, SpellsFlag, SpellsList, Wrote}
use Rattle.xdr_codec.proofs.Begins.{begins_same, begins_more, begins_then}
use Rattle.xdr_codec.proofs.Laws.{Codec, bind_ok}
use Rattle.xdr_codec.proofs.MoreLaws.{list_codec, items_takes, items_again, list_long, flag_codec, flag_long, of, ok_is}
use Rattle.nfs_dir_calls.proofs.Wrote.{wrote_across}
use Rattle.nfs_dir_calls.specs.Pages.{page_at, firsts, rows_of, page_bytes, IsPage, prepends, Along, Writing, Copied}

pub page_codec : {A : Type 0} {read : List ℕ → Result (A × List ℕ) XdrFault} {S : A → List ℕ → Type 0} → Codec read S → Codec (page_at read) (SpellsList S)
unfolding page_at
page_codec c = list_codec c

-- so many turns are enough
items_enough : {A : Type 0} {read : List ℕ → Result (A × List ℕ) XdrFault} {S : A → List ℕ → Type 0} → Codec read S → (n : ℕ) (bytes : List ℕ) (x : List A × List ℕ) → IsBytes bytes → items_at read n bytes ≡ Ok x → page_at read bytes ≡ Ok x
unfolding page_at
items_enough {read = read} {S = S} c n bytes x fits e =
    let t = items_takes c n bytes x fits e in
    let long = list_long S x.0 t.front t.spells in
    rw (t.is) (items_again c (length (t.front ++ x.1)) x.0 t.front x.1 (omega (arith, long, length-append t.front x.1)) t.spells)

-- what stands at the front of a page
abbrev Goes : {A : Type 0} → (List ℕ → Result (A × List ℕ) XdrFault) → ℕ → Bool → List ℕ → Result (List A × List ℕ) XdrFault
Goes read n b more = cond b (read more >>= λ v. items_at read n v.1 >>= λ vs. Ok (v.0 ∷ vs.0, vs.1)) (Ok ([], more))

record Front {A : Type 0} (read : List ℕ → Result (A × List ℕ) XdrFault) (n : ℕ) (bytes : List ℕ) (all : List A × List ℕ) : Type 0 where
  flag : Bool × List ℕ
  reads : flag_at bytes ≡ Ok flag
  goes : Goes read n flag.0 flag.1 ≡ Ok all

front_of : {A : Type 0} {read : List ℕ → Result (A × List ℕ) XdrFault} (n : ℕ) (bytes : List ℕ) (x : List A × List ℕ) → items_at read n bytes ≡ Ok x → (m : ℕ) × Front read m bytes x
front_of zero bytes x e = absurd cc
front_of {read = read} (suc n) bytes x e = let o = bind_ok (flag_at bytes) (λ t. Goes read n t.0 t.1) x e in (n, record { flag = o.0; reads = o.1; goes = o.2 })

page_front : {A : Type 0} {read : List ℕ → Result (A × List ℕ) XdrFault} (bytes : List ℕ) (x : List A × List ℕ) → page_at read bytes ≡ Ok x → (m : ℕ) × Front read m bytes x
unfolding page_at
page_front {read = read} bytes x e = front_of {read = read} (length bytes) bytes x e

two_are : {A : Type 0} (r : Result A XdrFault) (x y : A) → r ≡ Ok x → r ≡ Ok y → x ≡ y
two_are r x y e f = let g = sym e ∙ f in cc g

not_both : {A : Type 0} (r : Result A XdrFault) (x : A) (f : XdrFault) → r ≡ Ok x → r ≡ Err f → ⊥
not_both r x f e g = let h = sym e ∙ g in cc h

-- a page begins with a flag
pub page_flag : {A : Type 0} {read : List ℕ → Result (A × List ℕ) XdrFault} (bytes : List ℕ) (f : XdrFault) → IsPage read bytes → flag_at bytes ≡ Err f → ⊥
page_flag {read = read} bytes f p e = let o = page_front {read = read} bytes p.all p.is in not_both (flag_at bytes) o.1.flag f o.1.reads e

pub page_end : {A : Type 0} {read : List ℕ → Result (A × List ℕ) XdrFault} (bytes more : List ℕ) → IsPage read bytes → flag_at bytes ≡ Ok (false, more) → rows_of read bytes ≡ []
page_end {A = A} {read = read} bytes more p e =
    let o = page_front {read = read} bytes p.all p.is in
    let same : o.1.flag ≡ (false, more) = two_are (flag_at bytes) _ _ o.1.reads e in
    let none : List A × List ℕ = ([], more) in
    let all : none ≡ p.all = ok_is none p.all (rw same at o.1.goes) in
    rw (p.is, ← all) refl

pub page_row : {A : Type 0} {read : List ℕ → Result (A × List ℕ) XdrFault} (bytes more : List ℕ) (f : XdrFault) → IsPage read bytes → flag_at bytes ≡ Ok (true, more) → read more ≡ Err f → ⊥
page_row {read = read} bytes more f p e g =
    let o = page_front {read = read} bytes p.all p.is in
    let same : o.1.flag ≡ (true, more) = two_are (flag_at bytes) _ _ o.1.reads e in
    let q = bind_ok (read more) (λ v. items_at read o.0 v.1 >>= λ vs. Ok (v.0 ∷ vs.0, vs.1)) p.all (rw same at o.1.goes) in
    not_both (read more) q.0 f q.1 g

-- a row, and what is left is a page
pub record Next {A : Type 0} (read : List ℕ → Result (A × List ℕ) XdrFault) (bytes rest : List ℕ) (v : A) : Type 0 where
  pub page : IsPage read rest
  pub is : rows_of read bytes ≡ v ∷ rows_of read rest

rows_next : {A : Type 0} (read : List ℕ → Result (A × List ℕ) XdrFault) (bytes rest : List ℕ) (all left : List A × List ℕ) (v : A)
    → page_at read bytes ≡ Ok all → of (v ∷ left.0, left.1) ≡ of all → page_at read rest ≡ Ok left → rows_of read bytes ≡ v ∷ rows_of read rest
rows_next {A = A} read bytes rest all left v e f g =
    let pair : List A × List ℕ = (v ∷ left.0, left.1) in
    let same : pair ≡ all = ok_is pair all f in
    rw (e, ← same, g) refl

pub page_next : {A : Type 0} {read : List ℕ → Result (A × List ℕ) XdrFault} {S : A → List ℕ → Type 0} → Codec read S → (bytes more rest : List ℕ) (v : A) → IsPage read bytes → flag_at bytes ≡ Ok (true, more) → read more ≡ Ok (v, rest) → Next read bytes rest v
page_next {A = A} {read = read} c bytes more rest v p e g =
    let o = page_front {read = read} bytes p.all p.is in
    let same : o.1.flag ≡ (true, more) = two_are (flag_at bytes) _ _ o.1.reads e in
    let q = bind_ok (read more) (λ w. items_at read o.0 w.1 >>= λ vs. Ok (w.0 ∷ vs.0, vs.1)) p.all (rw same at o.1.goes) in
    let vr : q.0 ≡ (v, rest) = two_are (read more) _ _ q.1 g in
    let r = bind_ok (items_at read o.0 rest) (λ vs. Ok (v ∷ vs.0, vs.1)) p.all (rw vr at q.2) in
    let fits = (c.takes more (v, rest) (flag_codec.takes bytes (true, more) p.fits e).rest g).rest in
    let tail : page_at read rest ≡ Ok r.0 = items_enough c o.0 rest r.0 fits r.1 in
    record {
      page = record { fits = fits; all = r.0; is = tail };
      is = rows_next read bytes rest p.all r.0 v p.is r.2 tail;
    }

-- ---- reading a page

abbrev pair_ok : {A : Type 0} → List A → List ℕ → Result (List A × List ℕ) XdrFault
pair_ok l rest = Ok (l, rest)

abbrev bad : {B : Type 0} → XdrFault → Result B XdrFault
bad f = Err f

bad_is : {B C : Type 0} (f g : XdrFault) → bad {B = B} f ≡ bad {B = B} g → bad {B = C} f ≡ bad {B = C} g
bad_is {B = B} {C = C} f g e = let same : f ≡ g = cc e in ap (λ (k : XdrFault). bad {B = C} k) same

prepends_nil : {A : Type 0} (r : Result (List A × List ℕ) XdrFault) → prepends [] r ≡ r
prepends_nil (Ok x) = refl
prepends_nil (Err e) = refl

prepends_more : {A : Type 0} (seen : List A) (v : A) (r : Result (List A × List ℕ) XdrFault) → prepends seen (r >>= λ vs. Ok (v ∷ vs.0, vs.1)) ≡ prepends (seen ++ v ∷ []) r
prepends_more {A = A} seen v (Ok x) = ap (λ (l : List A). pair_ok l x.1) (sym (append_assoc seen (v ∷ []) x.0))
prepends_more seen v (Err e) = refl

pub along_begins : {A : Type 0} (read : List ℕ → Result (A × List ℕ) XdrFault) (old : List ℕ) → IsBytes old → Along read old old
unfolding page_at
along_begins read old fits = record { fits = fits; seen = []; turns = length old; enough = omega arith; same = sym (prepends_nil (page_at read old)) }

-- with a turn left, reading goes on with the flag
turn : {A : Type 0} (read : List ℕ → Result (A × List ℕ) XdrFault) (n : ℕ) (now more : List ℕ) (b : Bool) → flag_at now ≡ Ok (b, more) → items_at read (suc n) now ≡ Goes read n b more
turn read n now more b e = rw e refl

flag_size : (now more : List ℕ) (b : Bool) → IsBytes now → flag_at now ≡ Ok (b, more) → length now ≡ 4 + length more
flag_size now more b fits e =
    let t = flag_codec.takes now (b, more) fits e in
    omega (arith, ap length t.is, length-append t.front more, flag_long b t.front t.spells)

turns_left : (n : ℕ) → 0 < n → (m : ℕ) × (n ≡ suc m)
turns_left zero some = absurd (omega (arith, some))
turns_left (suc m) some = (m, refl)

pub along_end : {A : Type 0} {read : List ℕ → Result (A × List ℕ) XdrFault} (old now more : List ℕ) (a : Along read old now) → flag_at now ≡ Ok (false, more) → page_at read old ≡ Ok (a.seen ++ [], more)
along_end {read = read} old now more a e =
    let m = turns_left a.turns (omega (arith, a.enough, flag_size now more false a.fits e)) in
    a.same ∙ rw (m.1, turn read m.0 now more false e) refl

go_on : {A : Type 0} (read : List ℕ → Result (A × List ℕ) XdrFault) (seen : List A) (n k : ℕ) (now more rest : List ℕ) (v : A) → n ≡ suc k → flag_at now ≡ Ok (true, more) → read more ≡ Ok (v, rest)
    → prepends seen (items_at read n now) ≡ prepends (seen ++ v ∷ []) (items_at read k rest)
go_on read seen n k now more rest v is e g = rw (is, turn read k now more true e, g) (prepends_more seen v (items_at read k rest))

-- what a page gives stands in its rows
pub page_is : {A : Type 0} (read : List ℕ → Result (A × List ℕ) XdrFault) (bytes : List ℕ) (x : List A × List ℕ) → page_at read bytes ≡ Ok x → page_at read bytes ≡ Ok (rows_of read bytes, x.1)
page_is {A = A} read bytes x e = e ∙ ap (λ (l : List A). pair_ok l x.1) (sym (ap firsts e))

pub along_next : {A : Type 0} {read : List ℕ → Result (A × List ℕ) XdrFault} {S : A → List ℕ → Type 0} → Codec read S → (old now more rest : List ℕ) (v : A) → Along read old now → flag_at now ≡ Ok (true, more) → read more ≡ Ok (v, rest) → Along read old rest
along_next {read = read} c old now more rest v a e g =
    let size = flag_size now more true a.fits e in
    let m = turns_left a.turns (omega (arith, a.enough, size)) in
    let u = c.takes more (v, rest) (flag_codec.takes now (true, more) a.fits e).rest g in
    record {
      fits = u.rest;
      seen = a.seen ++ v ∷ [];
      turns = m.0;
      enough = omega (arith, a.enough, m.1, size, ap length u.is, length-append u.front rest);
      same = a.same ∙ go_on read a.seen a.turns m.0 now more rest v m.1 e g;
    }

pub rest_shorter : {A : Type 0} {read : List ℕ → Result (A × List ℕ) XdrFault} {S : A → List ℕ → Type 0} → Codec read S → (now more rest : List ℕ) (v : A) → IsBytes now → flag_at now ≡ Ok (true, more) → read more ≡ Ok (v, rest) → length rest < length now
rest_shorter c now more rest v fits e g =
    let u = c.takes more (v, rest) (flag_codec.takes now (true, more) fits e).rest g in
    omega (arith, flag_size now more true fits e, ap length u.is, length-append u.front rest)

pub along_refused : {A : Type 0} {read : List ℕ → Result (A × List ℕ) XdrFault} (old now more : List ℕ) (f : XdrFault) → Along read old now → flag_at now ≡ Ok (true, more) → read more ≡ Err f → page_at read old ≡ Err f
along_refused {read = read} old now more f a e g =
    let m = turns_left a.turns (omega (arith, a.enough, flag_size now more true a.fits e)) in
    a.same ∙ rw (m.1, turn read m.0 now more true e, g) refl

no_turn : {A : Type 0} (read : List ℕ → Result (A × List ℕ) XdrFault) (now : List ℕ) (f : XdrFault) → length now ≤ 0 → flag_at now ≡ Err f → items_at read 0 now ≡ Err f
unfolding flag_at
no_turn {A = A} read [] f le e = bad_is {B = Bool × List ℕ} {C = List A × List ℕ} Short f e
no_turn read (x ∷ xs) f le e = absurd (omega (arith, le))

refused_turn : {A : Type 0} (read : List ℕ → Result (A × List ℕ) XdrFault) (n : ℕ) (now : List ℕ) (f : XdrFault) → length now ≤ n → flag_at now ≡ Err f → items_at read n now ≡ Err f
refused_turn read zero now f le e = no_turn read now f le e
refused_turn read (suc n) now f le e = rw e refl

pub along_broken : {A : Type 0} (read : List ℕ → Result (A × List ℕ) XdrFault) (old now : List ℕ) (f : XdrFault) → Along read old now → flag_at now ≡ Err f → page_at read old ≡ Err f
along_broken read old now f a e = a.same ∙ ap (prepends a.seen) (refused_turn read a.turns now f a.enough e)

-- ---- writing a page

pub writing_begins : {A : Type 0} (write : A → List ℕ) (S : A → List ℕ → Type 0) (all : List A) (old : List ℕ) → Writing write S all all old old
writing_begins write S all old = record { begins = begins_same old old refl; same = refl; spells = λ new w. w }

pub writing_next : {A : Type 0} (write : A → List ℕ) (S : A → List ℕ → Type 0) (all : List A) (v : A) (left : List A) (old now new : List ℕ) → Writing write S all (v ∷ left) old now
    → new ≡ now ++ (flag_bytes true ++ write v) → Wrote (SpellsFlag true ⨾ S v) now new → Writing write S all left old new
unfolding page_bytes
writing_next write S all v left old now new w e s = record {
  begins = begins_then old now new w.begins (begins_more now new (flag_bytes true ++ write v) e);
  same = w.same ∙ sym (append_assoc now (flag_bytes true ++ write v) (page_bytes write left)) ∙ ap (λ (t : List ℕ). t ++ page_bytes write left) (sym e);
  spells = λ end t. w.spells end (wrote_across (SpellsFlag true) (S v) (SpellsList S left) now new end s t);
}

pub writing_end : {A : Type 0} (write : A → List ℕ) (S : A → List ℕ → Type 0) (all : List A) (old now new : List ℕ) → Writing write S all [] old now → new ≡ now ++ flag_bytes false → new ≡ old ++ page_bytes write all
unfolding page_bytes
writing_end write S all old now new w e = e ∙ sym w.same

pub copied_begins : {A : Type 0} (all : List A) → Copied all [] all
copied_begins all = record { is = refl }

pub copied_next : {A : Type 0} (all rows : List A) (v : A) (left : List A) → Copied all rows (v ∷ left) → Copied all (rows ++ v ∷ []) left
copied_next all rows v left c = record { is = c.is ∙ sym (append_assoc rows (v ∷ []) left) }

pub copied_end : {A : Type 0} (all rows : List A) → Copied all rows [] → rows ≡ all
copied_end all rows c = sym (append-nil rows) ∙ sym c.is
