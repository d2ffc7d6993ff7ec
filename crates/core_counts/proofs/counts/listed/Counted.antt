-- Equal READDIRPLUS calls: one for each page that they follow; and from cookie 0 one for each list that asks for them.
use Rattle.core_counts.proofs.Prelude.{◌≡◌, ◌+◌, ◌&&◌, inl, inr, ℕ, nat_eq, Bool, true, false, List, [], ◌∷◌, length, refl, sym, ap, subst, ◌∙◌, arith, if◌then◌else◌, eqb-true, eq-eqb, All-nil, All-weaker, Verf, Entry, Call, Op, list_call, info_call, Terms, Mounted, machine_of, Setup, View, Notes, IsNfs, GoesFrom}
use Rattle.std.proofs.Common.{fold}
use Rattle.nfs_dir_calls.specs.declared.call.DirCall.TheVariants as dirs
use Rattle.world_model.specs.declared.message.Call.TheVariants as calls
use Rattle.claims.specs.Asks as a
use Rattle.claims.specs.CallCounts.{FewPages, Asking}
use Rattle.core_counts.specs.counts.Pages.{FewPagesMade}
use Rattle.core_counts.proofs.counts.engine.Decided.{same_list, first-of, second-of, both-of, list-is, list-same}
use Rattle.core_counts.proofs.counts.engine.Sum.{AsksOne, Summed, summed}
use Rattle.core_counts.proofs.counts.listed.Laws.{IsIt, Before, IsList, list, from_zero, ListLeft, page-laws}

-- ---- whether a call is the one that is counted

module _ (d : List ℕ) (cookie : ℕ) (verf : Verf) where
  abbrev same_args : List ℕ → ℕ → List ℕ → ℕ → ℕ → Bool
  same_args dir from with_ dircount maxcount = same_list dir d && (nat_eq from cookie && (same_list with_ verf.0 && (nat_eq dircount 8192 && nat_eq maxcount 32768)))

  abbrev test : Call → Bool
  test (calls.Dir (dirs.ReadDirPlus dir from with_ dircount maxcount)) = same_args dir from with_.0 dircount maxcount
  test call = false

  verf-is : (v w : Verf) → v.0 ≡ w.0 → v ≡ w
  verf-is v w e = ap (λ (bytes : List ℕ). record { 0 = bytes }) e

  args-are : (dir : List ℕ) (from : ℕ) (with_ : Verf) (dircount maxcount : ℕ) → same_args dir from with_.0 dircount maxcount ≡ true
      → calls.Dir (dirs.ReadDirPlus dir from with_ dircount maxcount) ≡ list_call d cookie verf
  args-are dir from with_ dircount maxcount e =
      let one = first-of (same_list dir d) (nat_eq from cookie && (same_list with_.0 verf.0 && (nat_eq dircount 8192 && nat_eq maxcount 32768))) e in
      let e1 = second-of (same_list dir d) (nat_eq from cookie && (same_list with_.0 verf.0 && (nat_eq dircount 8192 && nat_eq maxcount 32768))) e in
      let two = first-of (nat_eq from cookie) (same_list with_.0 verf.0 && (nat_eq dircount 8192 && nat_eq maxcount 32768)) e1 in
      let e2 = second-of (nat_eq from cookie) (same_list with_.0 verf.0 && (nat_eq dircount 8192 && nat_eq maxcount 32768)) e1 in
      let three = first-of (same_list with_.0 verf.0) (nat_eq dircount 8192 && nat_eq maxcount 32768) e2 in
      let e3 = second-of (same_list with_.0 verf.0) (nat_eq dircount 8192 && nat_eq maxcount 32768) e2 in
      let four = first-of (nat_eq dircount 8192) (nat_eq maxcount 32768) e3 in
      let five = second-of (nat_eq dircount 8192) (nat_eq maxcount 32768) e3 in
      ap (λ (o : List ℕ). calls.Dir (dirs.ReadDirPlus o from with_ dircount maxcount)) (list-is dir d one)
      ∙ ap (λ (n : ℕ). calls.Dir (dirs.ReadDirPlus d n with_ dircount maxcount)) (eqb-true from cookie two)
      ∙ ap (λ (w : Verf). calls.Dir (dirs.ReadDirPlus d cookie w dircount maxcount)) (verf-is with_ verf (list-is with_.0 verf.0 three))
      ∙ ap (λ (n : ℕ). calls.Dir (dirs.ReadDirPlus d cookie verf n maxcount)) (eqb-true dircount 8192 four)
      ∙ ap (λ (n : ℕ). calls.Dir (dirs.ReadDirPlus d cookie verf 8192 n)) (eqb-true maxcount 32768 five)

  sound : (call : Call) → test call ≡ true → call ≡ list_call d cookie verf
  sound (calls.Dir (dirs.ReadDirPlus dir from with_ dircount maxcount)) e = args-are dir from with_ dircount maxcount e
  sound (calls.Dir (dirs.Lookup dir name)) e = absurd (let no_way : false ≡ true = e in cc)
  sound (calls.Dir (dirs.ReadLink file)) e = absurd (let no_way : false ≡ true = e in cc)
  sound (calls.Dir (dirs.Create dir name making)) e = absurd (let no_way : false ≡ true = e in cc)
  sound (calls.Dir (dirs.MkDir dir name set)) e = absurd (let no_way : false ≡ true = e in cc)
  sound (calls.Dir (dirs.SymLink dir name set target)) e = absurd (let no_way : false ≡ true = e in cc)
  sound (calls.Dir (dirs.MkNod dir name node)) e = absurd (let no_way : false ≡ true = e in cc)
  sound (calls.Dir (dirs.Remove dir name)) e = absurd (let no_way : false ≡ true = e in cc)
  sound (calls.Dir (dirs.RmDir dir name)) e = absurd (let no_way : false ≡ true = e in cc)
  sound (calls.Dir (dirs.Rename dir name to_dir to)) e = absurd (let no_way : false ≡ true = e in cc)
  sound (calls.Dir (dirs.Link file dir name)) e = absurd (let no_way : false ≡ true = e in cc)
  sound (calls.Dir (dirs.ReadDir dir from with_ count)) e = absurd (let no_way : false ≡ true = e in cc)
  sound (calls.File call) e = absurd (let no_way : false ≡ true = e in cc)
  sound (calls.Mount call) e = absurd (let no_way : false ≡ true = e in cc)

  itself : same_args d cookie verf.0 8192 32768 ≡ true
  itself =
      both-of (same_list d d) (nat_eq cookie cookie && (same_list verf.0 verf.0 && (nat_eq 8192 8192 && nat_eq 32768 32768))) (list-same d)
      (both-of (nat_eq cookie cookie) (same_list verf.0 verf.0 && (nat_eq 8192 8192 && nat_eq 32768 32768)) (eq-eqb cookie cookie refl)
      (both-of (same_list verf.0 verf.0) (nat_eq 8192 8192 && nat_eq 32768 32768) (list-same verf.0) (both-of (nat_eq 8192 8192) (nat_eq 32768 32768) (eq-eqb 8192 8192 refl) (eq-eqb 32768 32768 refl))))

  complete : (call : Call) → call ≡ list_call d cookie verf → test call ≡ true
  complete call is = subst (λ (c : Call). test c ≡ true) (sym is) itself

-- ---- who asks for it

nfs-list : (d : List ℕ) (cookie : ℕ) (verf : Verf) (call : Call) → call ≡ list_call d cookie verf → IsNfs call
nfs-list d cookie verf call is = subst IsNfs (sym is) tt

not-info : (d : List ℕ) (cookie : ℕ) (verf : Verf) (root : List ℕ) → info_call root ≡ list_call d cookie verf → ⊥
not-info d cookie verf root is = cc

module _ (m : Mounted) (terms : Terms) (h : List Entry) (x n : ℕ) (op : Op) (call : Call) (d : List ℕ) (cookie : ℕ) (verf : Verf) (it : call ≡ list_call d cookie verf) where
  acts-not : a.Acts terms h x n op call → ⊥
  acts-not (a.cuts slot size f is of c) = let e = c in let i = it in cc
  acts-not (a.accesses path bits f is l c) = let e = c in let i = it in cc
  acts-not (a.reads_link path f is l c) = let e = c in let i = it in cc
  acts-not (a.makes_dir path d_ name is p c) = let e = c in let i = it in cc
  acts-not (a.makes_link path target d_ name is p c) = let e = c in let i = it in cc
  acts-not (a.removes_dir path d_ name is p c) = let e = c in let i = it in cc
  acts-not (a.renames source target d_ name to_d to_name is p q c) = let e = c in let i = it in cc
  acts-not (a.links source target f d_ name is l p c) = let e = c in let i = it in cc
  acts-not (a.removes path d_ name is p c) = let e = c in let i = it in cc
  acts-not (a.hides path d_ last name is p k m c) = let e = c in let i = it in cc

  asks-list : a.Asks terms h x n op call → IsList m d cookie verf (test d cookie verf) (sound d cookie verf) (complete d cookie verf) op
  asks-list (a.walks path earlier later name next d_ of is l c) = absurd (let e = c in let i = it in cc)
  asks-list (a.finds path d_ name of p c) = absurd (let e = c in let i = it in cc)
  asks-list (a.looks_for_hidden path d_ last name is p k c) = absurd (let e = c in let i = it in cc)
  asks-list (a.creates slot path d_ name is p c) = absurd (let e = c in let i = it in cc)
  asks-list (a.creates_after slot path d_ name reply is p told none c) = absurd (let e = c in let i = it in cc)
  asks-list (a.opens path f of l c) = absurd (let e = c in let i = it in cc)
  asks-list (a.opens_made slot mode path d_ name f making attr wcc is p made told c) = absurd (let e = c in let i = it in cc)
  asks-list (a.shows path f is l c) = absurd (let e = c in let i = it in cc)
  asks-list (a.reads slot offset count at size f is of inside c) = absurd (let e = c in let i = it in cc)
  asks-list (a.asks_anew slot offset count f is anew of c) = absurd (let e = c in let i = it in cc)
  asks-list (a.writes f bytes at how s c) = absurd (let e = c in let i = it in cc)
  asks-list (a.commits f s c) = absurd (let e = c in let i = it in cc)
  asks-list (a.writes_for_room f bytes at how w p r c) = absurd (let e = c in let i = it in cc)
  asks-list (a.commits_for_room f w p r c) = absurd (let e = c in let i = it in cc)
  asks-list (a.removes_hidden r) = absurd (let e = r.removes in let i = it in cc)
  asks-list (a.lists path d_ rows from with_ is l c e) = list path is
  asks-list (a.acts k) = absurd (acts-not k)

-- ---- the count

module _ (m : Mounted) (terms : Terms) (setup : Setup) (before h : List Entry) (v : View) (from : GoesFrom m terms setup before h v) (n : Notes (machine_of m) setup h v) (d : List ℕ) (cookie : ℕ) (verf : Verf) where
  sum : Summed terms h (IsIt m d cookie verf (test d cookie verf) (sound d cookie verf) (complete d cookie verf)) (Before m d cookie verf (test d cookie verf) (sound d cookie verf) (complete d cookie verf)) (from_zero m d cookie verf (test d cookie verf) (sound d cookie verf) (complete d cookie verf))
  sum = summed m terms setup before h v from n (IsIt m d cookie verf (test d cookie verf) (sound d cookie verf) (complete d cookie verf)) (Before m d cookie verf (test d cookie verf) (sound d cookie verf) (complete d cookie verf)) (IsList m d cookie verf (test d cookie verf) (sound d cookie verf) (complete d cookie verf)) (from_zero m d cookie verf (test d cookie verf) (sound d cookie verf) (complete d cookie verf)) (ListLeft m d cookie verf (test d cookie verf) (sound d cookie verf) (complete d cookie verf)) (page-laws m d cookie verf (test d cookie verf) (sound d cookie verf) (complete d cookie verf))
      (nfs-list d cookie verf) (not-info d cookie verf) (test d cookie verf) (sound d cookie verf) (λ x i op call asks p. complete d cookie verf call p)
      (λ x i op call began may asks p. asks-list m terms h x i op call d cookie verf p asks)

  asking : (o : a.Placed) → AsksOne terms h (IsIt m d cookie verf (test d cookie verf) (sound d cookie verf) (complete d cookie verf)) o → Asking terms h (list_call d cookie verf) o
  asking o k = record { end = k.end; began = k.began; ends = k.ends; asks = subst (a.Asks terms h o.0 k.end o.1) k.is k.asks }

  fold-ones : (os : List a.Placed) (from_ : ℕ) → fold (λ (k : ℕ) (o : a.Placed). k + 1) from_ os ≡ from_ + length os
  fold-ones [] from_ = omega arith
  fold-ones (o ∷ os) from_ = let rest = fold-ones os (from_ + 1) in omega (arith, rest)

  fold-zeros : (os : List a.Placed) (from_ : ℕ) → fold (λ (k : ℕ) (o : a.Placed). k + 0) from_ os ≡ from_
  fold-zeros [] from_ = refl
  fold-zeros (o ∷ os) from_ = let rest = fold-zeros os (from_ + 0) in omega (arith, rest)

  few-pages : FewPages terms h d cookie verf
  few-pages = by (nat_eq cookie 0) refl
    where
      by : (b : Bool) → nat_eq cookie 0 ≡ b → FewPages terms h d cookie verf
      by true zero_cookie = record {
        pages = sum.credits;
        lists = sum.asking;
        replied = record { different = sum.apart; each = sum.replied };
        operations = record { different = sum.different; each = All-weaker (AsksOne terms h (IsIt m d cookie verf (test d cookie verf) (sound d cookie verf) (complete d cookie verf))) (Asking terms h (list_call d cookie verf)) asking sum.asking sum.each };
        first = inr (eqb-true cookie 0 zero_cookie);
        few = λ xids apart each.
            let all = sum.few xids apart each in
            let ones = ap (λ (b : Bool). fold (λ (k : ℕ) (o : a.Placed). k + (if b then 1 else 0)) 0 sum.asking) zero_cookie in
            let size = fold-ones sum.asking 0 in
            omega (arith, all, ones, size);
      }
      by false other = record {
        pages = sum.credits;
        lists = [];
        replied = record { different = sum.apart; each = sum.replied };
        operations = record { different = λ i j e low within. absurd (omega (arith, within)); each = All-nil (Asking terms h (list_call d cookie verf)) };
        first = inl refl;
        few = λ xids apart each.
            let all = sum.few xids apart each in
            let ones = ap (λ (b : Bool). fold (λ (k : ℕ) (o : a.Placed). k + (if b then 1 else 0)) 0 sum.asking) other in
            let size = fold-zeros sum.asking 0 in
            omega (arith, all, ones, size);
      }

pub pages-few : FewPagesMade
pages-few m terms setup before h v from n d cookie verf = few-pages m terms setup before h v from n d cookie verf
