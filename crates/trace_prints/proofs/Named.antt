-- The lines of names lead from the list that a directory had to the one that it has.
use Rattle.std.proofs.Common.{◌≡◌, ◌+◌, ◌⊎◌, inl, inr, ◌==◌, ℕ, List, [], ◌∷◌, ◌++◌, length, map, Bool, true, false, not, ◌&&◌, Option, Some, refl, sym, ap, ◌∙◌, subst, arith, append_assoc, length-append, true≢false, ◌||◌}
use Rattle.std.specs.Prelude.{codes, decimal, if◌then◌else◌}
use Rattle.std.specs.List.{flat_map, list_any}
use Rattle.std.specs.Str.{bytes_eq}
use Rattle.std.proofs.lemmas.Bool.{and_parts, eqb-true, ne_eqb}
use Rattle.std.proofs.lemmas.List.{append-nil}
use Rattle.std.proofs.lemmas.Slice.Eq.{bytes_eq-Decides}
use Rattle.nfs_types.specs.declared.verf.Verf.{Verf}
use Rattle.trace_data.specs.declared.trace.DirEntry.{DirEntry}
use Rattle.trace_data.specs.Histories.{listed_of}
use Rattle.world_model.specs.declared.entry.Entry.{Entry}
use Rattle.world_model.specs.Server.{Listed, Object, Server}
use Rattle.trace_text.specs.Objects.{listing, with_list, without}
use Rattle.trace_text.specs.Objects as objects
use Rattle.trace_text.specs.Texts.{has_name, hex_word, line_if, line_of, list_text, name_text, same_entry, unname_text}
use Rattle.trace_text.specs.Told.{Told, begun, changed}
use Rattle.trace_prints.specs.HasText.{AreListed, IsHandleWord, IsListing, IsSorted, IsFree, AreFree}
use Rattle.trace_prints.specs.Rounds.{IsDirectory}
use Rattle.trace_prints.proofs.Listings.{In, before-all, before-in, in-listing, listing-in, listing-sorted, same-lists}
use Rattle.trace_prints.proofs.Moments.{IsAt, at-object, now-is, put-now}
use Rattle.trace_prints.proofs.Passes.{Leaves, leaves-as, leaves-nothing, leaves-then}
use Rattle.trace_prints.proofs.Servers.{reads-name, reads-unname}

-- ---- lists

-- a name that none of these has
free-without : (name : List ℕ) (ys : List Listed) → IsFree name ys → without name ys ≡ ys
free-without name [] f = refl
free-without name (y ∷ ys) f = rw f.0 (ap (λ (k : List Listed). y ∷ k) (free-without name ys f.1))

without-middle : (e : Listed) (done rest : List Listed) → IsFree e.name done → IsFree e.name rest → without e.name (done ++ e ∷ rest) ≡ done ++ rest
without-middle e [] rest f g = rw (same e.name) (free-without e.name rest g)
  where
    same : (n : List ℕ) → bytes_eq n n ≡ true
    same n = (bytes_eq-Decides n n).1 refl
without-middle e (y ∷ done) rest f g = rw f.0 (ap (λ (k : List Listed). y ∷ k) (without-middle e done rest f.1 g))

one-fewer : (e : Listed) (done rest : List Listed) → (length (done ++ rest) == length (done ++ e ∷ rest)) ≡ false
one-fewer e done rest =
    let a : length (done ++ rest) ≡ length done + length rest = length-append done rest in
    let b : length (done ++ e ∷ rest) ≡ length done + length (e ∷ rest) = length-append done (e ∷ rest) in
    ne_eqb (length (done ++ rest)) (length (done ++ e ∷ rest)) (λ h. omega (arith, h, a, b))

free-more : (name : List ℕ) (done : List Listed) (e : Listed) → IsFree name done → bytes_eq e.name name ≡ false → IsFree name (done ++ e ∷ [])
free-more name [] e f d = (d, tt)
free-more name (y ∷ done) e f d = (f.0, free-more name done e f.1 d)

turned : (a b : List ℕ) → bytes_eq b a ≡ false → bytes_eq a b ≡ false
turned a b d = by (bytes_eq a b) refl
  where
    by : (t : Bool) → bytes_eq a b ≡ t → t ≡ false
    by false e = refl
    by true e = absurd (true≢false (sym ((bytes_eq-Decides b a).1 (sym ((bytes_eq-Decides a b).0 e))) ∙ d))

-- a list in a list of objects, in place of another one
twice : (dir : List ℕ) (a b : Object) (now : List ℕ → Option Object) (h : List ℕ) → put-now dir a (put-now dir b now) h ≡ put-now dir a now h
twice dir a b now h = by (bytes_eq dir h)
  where
    by : (t : Bool) → (if t then Some a else (if t then Some b else now h)) ≡ (if t then Some a else now h)
    by true = refl
    by false = refl

here : (dir : List ℕ) (a : Object) (now : List ℕ → Option Object) → put-now dir a now dir ≡ Some a
here dir a now = ap (λ (t : Bool). if t then Some a else now dir) ((bytes_eq-Decides dir dir).1 refl)

pub stays : (dir : List ℕ) (a : Object) (now : List ℕ → Option Object) (h : List ℕ) → now dir ≡ Some a → now h ≡ put-now dir a now h
stays dir a now h e = by (bytes_eq dir h) refl
  where
    by : (t : Bool) → bytes_eq dir h ≡ t → now h ≡ (if t then Some a else now h)
    by true f = ap now (sym ((bytes_eq-Decides dir h).0 f)) ∙ e
    by false f = refl

-- ---- which entries there are, so far

abbrev DoneFree : List Listed → List DirEntry → Type 0
DoneFree done [] = Unit {0}
DoneFree done (e ∷ es) = IsFree e.name done × DoneFree done es

done-more : (done : List Listed) (x : DirEntry) (es : List DirEntry) → DoneFree done es → IsFree x.name (map listed_of es) → DoneFree (done ++ listed_of x ∷ []) es
done-more done x [] g f = tt
done-more done x (e ∷ es) g f = (free-more e.name done (listed_of x) g.0 (turned x.name e.name f.0), done-more done x es g.1 f.1)

done-none : (es : List DirEntry) → DoneFree [] es
done-none [] = tt
done-none (e ∷ es) = (tt, done-none es)

-- What the list holds: those that are done, and of the old ones those whose name is still to come.
record IsOn (old rest : List DirEntry) (done list : List Listed) : Type 0 where
  sorted : IsSorted list
  from : (z : Listed) → In z list → In z done ⊎ (In z (map listed_of old) × (list_any (has_name z.name) rest ≡ true))
  had : (z : Listed) → In z done → In z list
  kept : (z : Listed) → In z (map listed_of old) → list_any (has_name z.name) rest ≡ true → In z list

in-left-part : (z : Listed) (a b : List Listed) → In z a → In z (a ++ b)
in-left-part z [] b i = absurd i
in-left-part z (y ∷ a) b (inl e) = inl e
in-left-part z (y ∷ a) b (inr i) = inr (in-left-part z a b i)

in-last : (z e : Listed) (a : List Listed) → z ≡ e → In z (a ++ e ∷ [])
in-last z e [] q = inl q
in-last z e (y ∷ a) q = inr (in-last z e a q)

in-parts : (z e : Listed) (a : List Listed) → In z (a ++ e ∷ []) → In z a ⊎ (z ≡ e)
in-parts z e [] (inl q) = inr q
in-parts z e [] (inr i) = absurd i
in-parts z e (y ∷ a) (inl q) = inl (inl q)
in-parts z e (y ∷ a) (inr i) = deeper (in-parts z e a i)
  where
    deeper : In z a ⊎ (z ≡ e) → In z (y ∷ a) ⊎ (z ≡ e)
    deeper (inl j) = inl (inr j)
    deeper (inr q) = inr q

-- an entry that is equal to an old one is an old one
has-same : (x : DirEntry) (old : List DirEntry) → list_any (same_entry x) old ≡ true → In (listed_of x) (map listed_of old)
has-same x [] h = absurd (true≢false (sym h))
has-same x (o ∷ old) h = by (λ f. has-same x old f) (same_entry x o) refl (list_any (same_entry x) old) refl h
  where
    listed : (n m i j : List ℕ) (c d : ℕ) → n ≡ m → i ≡ j → c ≡ d → ◌≡◌ {A = Listed} (record { name = n; object = i; cookie = c }) (record { name = m; object = j; cookie = d })
    listed n m i j c d e f g = rw (e, f, g) refl

    equal : same_entry x o ≡ true → listed_of x ≡ listed_of o
    equal e =
        let a = and_parts (bytes_eq o.name x.name && bytes_eq o.object x.object) (o.cookie == x.cookie) e in
        let b = and_parts (bytes_eq o.name x.name) (bytes_eq o.object x.object) a.0 in
        listed x.name o.name x.object o.object x.cookie o.cookie (sym ((bytes_eq-Decides o.name x.name).0 b.0)) (sym ((bytes_eq-Decides o.object x.object).0 b.1)) (sym (eqb-true o.cookie x.cookie a.1))

    by : (list_any (same_entry x) old ≡ true → In (listed_of x) (map listed_of old)) → (s : Bool) → same_entry x o ≡ s → (t : Bool) → list_any (same_entry x) old ≡ t → (s || t) ≡ true → In (listed_of x) (map listed_of (o ∷ old))
    by rest true e t f h = inl (equal e)
    by rest false e true f h = inr (rest f)
    by rest false e false f h = absurd (true≢false (sym h))

-- an entry whose name none has isn't one of them
free-in : (name : List ℕ) (z : Listed) (ys : List Listed) → IsFree name ys → In z ys → bytes_eq z.name name ≡ false
free-in name z [] f i = absurd i
free-in name z (y ∷ ys) f (inl q) = ap (λ (k : Listed). bytes_eq k.name name) q ∙ f.0
free-in name z (y ∷ ys) f (inr i) = free-in name z ys f.1 i

-- of one name there is one entry
one-name : (old : List DirEntry) (a b : Listed) → AreFree old → In a (map listed_of old) → In b (map listed_of old) → bytes_eq a.name b.name ≡ true → a ≡ b
one-name [] a b f i j e = absurd i
one-name (o ∷ old) a b f (inl p) (inl q) e = p ∙ sym q
one-name (o ∷ old) a b f (inl p) (inr j) e = absurd (true≢false (sym e ∙ turned a.name b.name (ap (λ (k : Listed). bytes_eq b.name k.name) p ∙ free-in o.name b (map listed_of old) f.0 j)))
one-name (o ∷ old) a b f (inr i) (inl q) e = absurd (true≢false (sym e ∙ ap (λ (k : Listed). bytes_eq a.name k.name) q ∙ free-in o.name a (map listed_of old) f.0 i))
one-name (o ∷ old) a b f (inr i) (inr j) e = one-name old a b f.1 i j e

any-front : (x : DirEntry) (z : Listed) (rest : List DirEntry) → list_any (has_name z.name) (x ∷ rest) ≡ true → (bytes_eq x.name z.name ≡ true) ⊎ (list_any (has_name z.name) rest ≡ true)
any-front x z rest h = by (bytes_eq x.name z.name) refl h
  where
    by : (t : Bool) → bytes_eq x.name z.name ≡ t → (t || list_any (has_name z.name) rest) ≡ true → (bytes_eq x.name z.name ≡ true) ⊎ (list_any (has_name z.name) rest ≡ true)
    by true e h = inl e
    by false e h = inr h

any-more : (x : DirEntry) (z : Listed) (rest : List DirEntry) → list_any (has_name z.name) rest ≡ true → list_any (has_name z.name) (x ∷ rest) ≡ true
any-more x z rest h = by (bytes_eq x.name z.name)
  where
    by : (t : Bool) → (t || list_any (has_name z.name) rest) ≡ true
    by true = refl
    by false = h

any-first : (x : DirEntry) (z : Listed) (rest : List DirEntry) → bytes_eq x.name z.name ≡ true → list_any (has_name z.name) (x ∷ rest) ≡ true
any-first x z rest e = rw e refl

free-any : (name : List ℕ) (z : Listed) (rest : List DirEntry) → IsFree name (map listed_of rest) → list_any (has_name z.name) rest ≡ true → bytes_eq z.name name ≡ false
free-any name z [] f h = absurd (true≢false (sym h))
free-any name z (r ∷ rest) f h = by (λ k. free-any name z rest f.1 k) (any-front r z rest h)
  where
    by : (list_any (has_name z.name) rest ≡ true → bytes_eq z.name name ≡ false) → (bytes_eq r.name z.name ≡ true) ⊎ (list_any (has_name z.name) rest ≡ true) → bytes_eq z.name name ≡ false
    by next (inl e) = ap (λ (k : List ℕ). bytes_eq k name) (sym ((bytes_eq-Decides r.name z.name).0 e)) ∙ f.0
    by next (inr k) = next k

-- an old entry that is a new one stays
on-kept : (old rest : List DirEntry) (done list : List Listed) (x : DirEntry) → AreFree old → IsOn old (x ∷ rest) done list → In (listed_of x) (map listed_of old) → IsOn old rest (done ++ listed_of x ∷ []) list
on-kept old rest done list x o on i = record {
  sorted = on.sorted;
  from = λ z j. from z (on.from z j);
  had = λ z j. is-done z (in-parts z (listed_of x) done j);
  kept = λ z j a. on.kept z j (any-more x z rest a);
}
  where
    from : (z : Listed) → In z done ⊎ (In z (map listed_of old) × (list_any (has_name z.name) (x ∷ rest) ≡ true)) → In z (done ++ listed_of x ∷ []) ⊎ (In z (map listed_of old) × (list_any (has_name z.name) rest ≡ true))
    from z (inl j) = inl (in-left-part z done (listed_of x ∷ []) j)
    from z (inr p) = by (any-front x z rest p.1)
      where
        by : (bytes_eq x.name z.name ≡ true) ⊎ (list_any (has_name z.name) rest ≡ true) → In z (done ++ listed_of x ∷ []) ⊎ (In z (map listed_of old) × (list_any (has_name z.name) rest ≡ true))
        by (inl e) = inl (in-last z (listed_of x) done (sym (one-name old (listed_of x) z o i p.0 e)))
        by (inr a) = inr (p.0, a)

    is-done : (z : Listed) → In z done ⊎ (z ≡ listed_of x) → In z list
    is-done z (inl j) = on.had z j
    is-done z (inr q) = subst (λ (k : Listed). In k list) (sym q) (on.kept (listed_of x) i (any-first x (listed_of x) rest ((bytes_eq-Decides x.name x.name).1 refl)))

-- an entry that enters stands in place of that of its name
on-listed : (old rest : List DirEntry) (done list : List Listed) (x : DirEntry) → IsFree x.name (map listed_of rest) → IsFree x.name done → IsOn old (x ∷ rest) done list
    → IsOn old rest (done ++ listed_of x ∷ []) (listing (listed_of x) list)
on-listed old rest done list x f g on = record {
  sorted = listing-sorted (listed_of x) list on.sorted;
  from = λ z j. from z (listing-in (listed_of x) z list j);
  had = λ z j. is-done z (in-parts z (listed_of x) done j);
  kept = λ z j a. in-listing (listed_of x) z list (inr (on.kept z j (any-more x z rest a), free-any x.name z rest f a));
}
  where
    from : (z : Listed) → (z ≡ listed_of x) ⊎ (In z list × (bytes_eq z.name x.name ≡ false)) → In z (done ++ listed_of x ∷ []) ⊎ (In z (map listed_of old) × (list_any (has_name z.name) rest ≡ true))
    from z (inl q) = inl (in-last z (listed_of x) done q)
    from z (inr p) = by (on.from z p.0)
      where
        later : (bytes_eq x.name z.name ≡ true) ⊎ (list_any (has_name z.name) rest ≡ true) → list_any (has_name z.name) rest ≡ true
        later (inl e) = absurd (true≢false (sym e ∙ turned x.name z.name p.1))
        later (inr a) = a

        by : In z done ⊎ (In z (map listed_of old) × (list_any (has_name z.name) (x ∷ rest) ≡ true)) → In z (done ++ listed_of x ∷ []) ⊎ (In z (map listed_of old) × (list_any (has_name z.name) rest ≡ true))
        by (inl j) = inl (in-left-part z done (listed_of x ∷ []) j)
        by (inr q) = inr (q.0, later (any-front x z rest q.1))

    is-done : (z : Listed) → In z done ⊎ (z ≡ listed_of x) → In z (listing (listed_of x) list)
    is-done z (inl j) = in-listing (listed_of x) z list (inr (on.had z j, free-in x.name z done g j))
    is-done z (inr q) = in-listing (listed_of x) z list (inl q)

-- ---- the old entries whose name stays

abbrev kept-of : List DirEntry → List DirEntry → List Listed
kept-of new [] = []
kept-of new (e ∷ old) = if list_any (has_name e.name) new then listed_of e ∷ kept-of new old else kept-of new old

kept-in : (new old : List DirEntry) (z : Listed) → In z (kept-of new old) → In z (map listed_of old) × (list_any (has_name z.name) new ≡ true)
kept-in new [] z i = absurd i
kept-in new (e ∷ old) z i = by (λ j. kept-in new old z j) (list_any (has_name e.name) new) refl i
  where
    deeper : In z (map listed_of old) × (list_any (has_name z.name) new ≡ true) → In z (map listed_of (e ∷ old)) × (list_any (has_name z.name) new ≡ true)
    deeper p = (inr p.0, p.1)

    by : (In z (kept-of new old) → In z (map listed_of old) × (list_any (has_name z.name) new ≡ true)) → (t : Bool) → list_any (has_name e.name) new ≡ t
        → In z (if t then listed_of e ∷ kept-of new old else kept-of new old) → In z (map listed_of (e ∷ old)) × (list_any (has_name z.name) new ≡ true)
    by rest true h (inl q) = (inl q, ap (λ (k : Listed). list_any (has_name k.name) new) q ∙ h)
    by rest true h (inr j) = deeper (rest j)
    by rest false h j = deeper (rest j)

in-kept : (new old : List DirEntry) (z : Listed) → In z (map listed_of old) → list_any (has_name z.name) new ≡ true → In z (kept-of new old)
in-kept new [] z i h = i
in-kept new (e ∷ old) z i h = by (λ j. in-kept new old z j h) (list_any (has_name e.name) new) refl i
  where
    by : (In z (map listed_of old) → In z (kept-of new old)) → (t : Bool) → list_any (has_name e.name) new ≡ t → In z (map listed_of (e ∷ old)) → In z (if t then listed_of e ∷ kept-of new old else kept-of new old)
    by rest true f (inl q) = inl q
    by rest true f (inr j) = inr (rest j)
    by rest false f (inl q) = absurd (true≢false (sym h ∙ ap (λ (k : Listed). list_any (has_name k.name) new) q ∙ f))
    by rest false f (inr j) = rest j

kept-sorted : (new old : List DirEntry) → IsSorted (map listed_of old) → IsSorted (kept-of new old)
kept-sorted new [] s = tt
kept-sorted new (e ∷ old) s = by (kept-sorted new old s.1) (list_any (has_name e.name) new)
  where
    by : IsSorted (kept-of new old) → (t : Bool) → IsSorted (if t then listed_of e ∷ kept-of new old else kept-of new old)
    by rest true = (before-all (listed_of e) (kept-of new old) (λ z i. before-in (listed_of e) z (map listed_of old) s.0 (kept-in new old z i).0), rest)
    by rest false = rest

on-first : (old new : List DirEntry) → IsSorted (map listed_of old) → IsOn old new [] (kept-of new old)
on-first old new s = record {
  sorted = kept-sorted new old s;
  from = λ z i. inr (kept-in new old z i);
  had = λ z i. absurd i;
  kept = λ z i h. in-kept new old z i h;
}

module _ (es : List Entry) (past : ℕ → Server) (verf : Verf) (dir : List ℕ) (w : IsHandleWord dir) (object : Object) where
  -- the directory with this list, whatever it had
  abbrev Lists : Told → (List ℕ → Option Object) → List Listed → List ℕ → Type 0
  Lists told now list text = Leaves told es past verf (put-now dir (with_list object list) now) text

  directory-is : (told : Told) (now : List ℕ → Option Object) (list : List Listed) → IsAt told es past verf now → now dir ≡ Some (with_list object list) → IsDirectory told dir (with_list object list) list
  directory-is told now list at e = record { is = now-is told es past verf now at dir ∙ e; holds = refl }

  -- ---- names that left

  -- reading the lines of the names that left, after some entries
  abbrev Unnames : List DirEntry → List DirEntry → Type 0
  Unnames new old = (done : List Listed) (told : Told) (now : List ℕ → Option Object) → AreListed old → AreFree old → DoneFree done old → IsAt told es past verf now
      → now dir ≡ Some (with_list object (done ++ map listed_of old)) → Lists told now (done ++ kept-of new old) (flat_map (unname_text dir new) old)

  one-left : (new : List DirEntry) (x : DirEntry) (old : List DirEntry) → Unnames new old → Unnames new (x ∷ old)
  one-left new x old next done told now l f g at e = by (list_any (has_name x.name) new)
    where
      line : List ℕ
      line = line_of (codes "unname") (hex_word dir ∷ hex_word x.name ∷ [])

      all : List Listed
      all = done ++ listed_of x ∷ map listed_of old

      gone : without x.name all ≡ done ++ map listed_of old
      gone = without-middle (listed_of x) done (map listed_of old) g.0 f.0

      left : Lists told now (done ++ map listed_of old) line
      left = record {
        new = begun (changed (objects.with_object dir (with_list (with_list object all) (without x.name all))) told);
        reads = reads-unname told dir (with_list object all) all x.name w l.0.name (directory-is told now all at e) (ap (λ (k : List Listed). length k == length all) gone ∙ one-fewer (listed_of x) done (map listed_of old));
        at = subst (λ (k : List Listed). IsAt (begun (changed (objects.with_object dir (with_list (with_list object all) (without x.name all))) told)) es past verf (put-now dir (with_list object k) now)) gone
            (at-object told es past verf now at dir (with_list (with_list object all) (without x.name all)));
        head = record { root = refl; lives = refl; noac = refl; nocto = refl };
      }

      by : (t : Bool) → Lists told now (done ++ (if t then listed_of x ∷ kept-of new old else kept-of new old)) (line_if (not t) line ++ flat_map (unname_text dir new) old)
      by true = subst (λ (k : List Listed). Lists told now k (flat_map (unname_text dir new) old)) (append_assoc done (listed_of x ∷ []) (kept-of new old))
          (next (done ++ listed_of x ∷ []) told now l.1 f.1 (done-more done x old g.1 f.0) at
          (e ∙ ap (λ (k : List Listed). Some (with_list object k)) (sym (append_assoc done (listed_of x ∷ []) (map listed_of old)))))
      by false =
          let middle : List ℕ → Option Object = put-now dir (with_list object (done ++ map listed_of old)) now in
          leaves-as told es past verf (put-now dir (with_list object (done ++ kept-of new old)) middle) (put-now dir (with_list object (done ++ kept-of new old)) now) (line ++ flat_map (unname_text dir new) old)
          (twice dir (with_list object (done ++ kept-of new old)) (with_list object (done ++ map listed_of old)) now)
          (leaves-then told es past verf middle (put-now dir (with_list object (done ++ kept-of new old)) middle) line (flat_map (unname_text dir new) old) left
          (next done left.new middle l.1 f.1 g.1 left.at (here dir (with_list object (done ++ map listed_of old)) now)))

  unnames : (new old : List DirEntry) → Unnames new old
  unnames new [] = λ done told now l f g at e. leaves-as told es past verf now (put-now dir (with_list object (done ++ [])) now) [] (λ h. stays dir (with_list object (done ++ [])) now h e) (leaves-nothing told es past verf now at)
  unnames new (x ∷ old) = one-left new x old (unnames new old)

  -- ---- names that entered

  -- reading the lines of the names that entered, after some entries
  abbrev Entered : List DirEntry → List DirEntry → Type 0
  Entered old rest = (done list : List Listed) (told : Told) (now : List ℕ → Option Object) → AreListed rest → AreFree rest → DoneFree done rest → AreFree old → IsOn old rest done list
      → IsAt told es past verf now → now dir ≡ Some (with_list object list) → IsSorted (done ++ map listed_of rest) → Lists told now (done ++ map listed_of rest) (flat_map (name_text dir old) rest)

  none-entered : (old : List DirEntry) → Entered old []
  none-entered old done list told now l f g o on at e s =
      let same : list ≡ done ++ [] = same-lists list (done ++ []) on.sorted s (λ z i. only z (on.from z i)) (λ z i. on.had z (subst (λ (k : List Listed). In z k) (append-nil done) i)) in
      leaves-as told es past verf now (put-now dir (with_list object (done ++ [])) now) [] (λ h. stays dir (with_list object (done ++ [])) now h (e ∙ ap (λ (k : List Listed). Some (with_list object k)) same))
      (leaves-nothing told es past verf now at)
    where
      only : (z : Listed) → In z done ⊎ (In z (map listed_of old) × (list_any (has_name z.name) [] ≡ true)) → In z (done ++ [])
      only z (inl i) = subst (λ (k : List Listed). In z k) (sym (append-nil done)) i
      only z (inr p) = absurd (true≢false (sym p.1))

  one-entered : (old : List DirEntry) (x : DirEntry) (rest : List DirEntry) → Entered old rest → Entered old (x ∷ rest)
  one-entered old x rest next done list told now l f g o on at e s = by (list_any (same_entry x) old) refl
    where
      line : List ℕ
      line = line_of (codes "name") (hex_word dir ∷ hex_word x.name ∷ hex_word x.object ∷ decimal x.cookie ∷ [])

      more : List Listed
      more = done ++ listed_of x ∷ []

      order : IsSorted (more ++ map listed_of rest)
      order = subst (λ (k : List Listed). IsSorted k) (sym (append_assoc done (listed_of x ∷ []) (map listed_of rest))) s

      entered : Lists told now (listing (listed_of x) list) line
      entered = record {
        new = begun (changed (objects.with_object dir (with_list (with_list object list) (listing (listed_of x) list))) told);
        reads = reads-name told dir (with_list object list) list x w l.0 (directory-is told now list at e);
        at = at-object told es past verf now at dir (with_list (with_list object list) (listing (listed_of x) list));
        head = record { root = refl; lives = refl; noac = refl; nocto = refl };
      }

      by : (t : Bool) → list_any (same_entry x) old ≡ t → Lists told now (done ++ listed_of x ∷ map listed_of rest) (line_if (not t) line ++ flat_map (name_text dir old) rest)
      by true h = subst (λ (k : List Listed). Lists told now k (flat_map (name_text dir old) rest)) (append_assoc done (listed_of x ∷ []) (map listed_of rest))
          (next more list told now l.1 f.1 (done-more done x rest g.1 f.0) o (on-kept old rest done list x o on (has-same x old h)) at e order)
      by false h =
          let middle : List ℕ → Option Object = put-now dir (with_list object (listing (listed_of x) list)) now in
          subst (λ (k : List Listed). Lists told now k (line ++ flat_map (name_text dir old) rest)) (append_assoc done (listed_of x ∷ []) (map listed_of rest))
          (leaves-as told es past verf (put-now dir (with_list object (more ++ map listed_of rest)) middle) (put-now dir (with_list object (more ++ map listed_of rest)) now) (line ++ flat_map (name_text dir old) rest)
          (twice dir (with_list object (more ++ map listed_of rest)) (with_list object (listing (listed_of x) list)) now)
          (leaves-then told es past verf middle (put-now dir (with_list object (more ++ map listed_of rest)) middle) line (flat_map (name_text dir old) rest) entered
          (next more (listing (listed_of x) list) entered.new middle l.1 f.1 (done-more done x rest g.1 f.0) o (on-listed old rest done list x f.0 g.0 on) entered.at
          (here dir (with_list object (listing (listed_of x) list)) now) order)))

  names : (old rest : List DirEntry) → Entered old rest
  names old [] = none-entered old
  names old (x ∷ rest) = one-entered old x rest (names old rest)

  -- the lines of a directory's names lead from one list to the other
  pub reads-list : (old new : List DirEntry) (told : Told) (now : List ℕ → Option Object) → IsListing old → IsListing new → IsAt told es past verf now → now dir ≡ Some (with_list object (map listed_of old))
      → Leaves told es past verf (put-now dir (with_list object (map listed_of new)) now) (list_text dir old new)
  reads-list old new told now o n at e =
      let middle : List ℕ → Option Object = put-now dir (with_list object (kept-of new old)) now in
      let left : Leaves told es past verf middle (flat_map (unname_text dir new) old) = unnames new old [] told now o.listed o.free (done-none old) at e in
      leaves-as told es past verf (put-now dir (with_list object (map listed_of new)) middle) (put-now dir (with_list object (map listed_of new)) now) (list_text dir old new)
      (twice dir (with_list object (map listed_of new)) (with_list object (kept-of new old)) now)
      (leaves-then told es past verf middle (put-now dir (with_list object (map listed_of new)) middle) (flat_map (unname_text dir new) old) (flat_map (name_text dir old) new) left
      (names old new [] (kept-of new old) left.new middle n.listed n.free (done-none new) o.free (on-first old new o.sorted) left.at (here dir (with_list object (kept-of new old)) now) n.sorted))
