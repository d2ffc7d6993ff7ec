-- The tests on the list of a directory decide what it holds.
use Rattle.std.proofs.Common.{◌≡◌, ◌≢◌, ◌<◌, ◌≤◌, ◌⊎◌, inl, inr, ◌==◌, ℕ, zero, suc, Bool, true, false, true≢false, List, [], ◌∷◌, ◌++◌, length, map, take, drop, Some, slice_get, refl, sym, ◌∙◌, ap, subst, arith, add-one, ◌+◌}
use Rattle.std.specs.Prelude.{Decides, ◌&&◌, ◌||◌, not, ⊤}
use Rattle.std.specs.Option.{option_map}
use Rattle.std.specs.Str.{bytes_eq}
use Rattle.std.proofs.lemmas.Bool.Decides.{Decides-like, Decides-and, Decides-or, Decides-not, Decides-eqb}
use Rattle.std.proofs.lemmas.List.{map-append, take_all, append-nil, length-append, length-take-le, take-append-drop}
use Rattle.std.proofs.lemmas.Slice.Eq.{bytes_eq-Decides}
use Rattle.world_model.specs.Server.{Listed, Lists}
use Rattle.world_model.specs.Names.{own_name, parent_name, Lacks, SameButParent, IsBare}
use Rattle.trace_data.specs.declared.trace.DirEntry.{DirEntry}
use Rattle.trace_data.specs.Histories.{listed_of}
use Rattle.trace_rules.specs.Freshness.{same_entry, same_entries}
use Rattle.trace_rules.proofs.Changing.{entries-decides}
use Rattle.trace_steps.specs.ListTests.{is_entry, has_entry, has_row, lacks, is_dotted, is_bare, names_it, without, is_without, has_this, is_parent, all_in}
use Rattle.trace_steps.proofs.Testing.{without as but}
use Rattle.trace_steps.proofs.Entering as entering

-- ---- a list that has an entry, or whose entries are all alike

-- an entry of which P holds
abbrev pub Has : (Listed → Type 0) → List Listed → Type 0
Has P es = (e : Listed) × Lists es e × P e

here : (x e : Listed) (es : List Listed) → slice_get (x ∷ es) 0 ≡ Some e → x ≡ e
here x e es q = cc

-- the first entry, or a later one
first-or-later : (P : Listed → Type 0) (x : Listed) (es : List Listed) → Has P (x ∷ es) → P x ⊎ Has P es
first-or-later P x es (e, (zero, at), p) = inl (subst P (sym (here x e es at)) p)
first-or-later P x es (e, (suc k, at), p) = inr (e, (k, at), p)

later : (P : Listed → Type 0) (x : Listed) (es : List Listed) → Has P es → Has P (x ∷ es)
later P x es (e, (k, at), p) = (e, (suc k, at), p)

nothing : (P : Listed → Type 0) → Has P [] → ⊥
nothing P (e, (k, at), p) = cc

module _ (test : DirEntry → Bool) (P : Listed → Type 0) (each : (e : DirEntry) → Decides (test e) (P (listed_of e))) where
  pub some-entry : (f : List DirEntry → Bool) → f [] ≡ false → ((e : DirEntry) (es : List DirEntry) → f (e ∷ es) ≡ (test e || f es)) → (es : List DirEntry) → Decides (f es) (Has P (map listed_of es))
  some-entry f none more [] = (λ t. absurd (true≢false (sym t ∙ none)), λ h. absurd (nothing P h))
  some-entry f none more (e ∷ es) =
      let d : Decides (test e || f es) (P (listed_of e) ⊎ Has P (map listed_of es)) = Decides-or (test e) (f es) (each e) (some-entry f none more es) in
      (λ t. to (d.0 (sym (more e es) ∙ t)), λ h. more e es ∙ d.1 (first-or-later P (listed_of e) (map listed_of es) h))
    where
      to : P (listed_of e) ⊎ Has P (map listed_of es) → Has P (map listed_of (e ∷ es))
      to (inl p) = (listed_of e, (zero, refl), p)
      to (inr h) = later P (listed_of e) (map listed_of es) h

  pub each-entry : (f : List DirEntry → Bool) → f [] ≡ true → ((e : DirEntry) (es : List DirEntry) → f (e ∷ es) ≡ (test e && f es)) → (es : List DirEntry) → Decides (f es) ((e : Listed) → Lists (map listed_of es) e → P e)
  each-entry f none more [] = (λ t e l. absurd (nothing (λ z. ⊤) (e, l, tt)), λ k. none)
  each-entry f none more (e ∷ es) =
      let d : Decides (test e && f es) (P (listed_of e) × ((x : Listed) → Lists (map listed_of es) x → P x)) = Decides-and (test e) (f es) (each e) (each-entry f none more es) in
      (λ t. let w = d.0 (sym (more e es) ∙ t) in (λ x l. to w.0 w.1 x l), λ k. more e es ∙ d.1 (k (listed_of e) (zero, refl), λ x l. k x (suc l.0, l.1)))
    where
      to : P (listed_of e) → ((x : Listed) → Lists (map listed_of es) x → P x) → (x : Listed) → Lists (map listed_of (e ∷ es)) x → P x
      to p rest x (zero, at) = subst P (here (listed_of e) x (map listed_of es) at) p
      to p rest x (suc k, at) = rest x (k, at)

-- ---- the tests

-- an entry of this name and object
abbrev pub IsEntry : List ℕ → List ℕ → Listed → Type 0
IsEntry name h e = (e.name ≡ name) × (e.object ≡ h)

pub entry-decides : (name h : List ℕ) (e : DirEntry) → Decides (is_entry name h e) (IsEntry name h (listed_of e))
entry-decides name h e = Decides-and (bytes_eq e.name name) (bytes_eq e.object h) (bytes_eq-Decides e.name name) (bytes_eq-Decides e.object h)

pub has-decides : (name h : List ℕ) (es : List DirEntry) → Decides (has_entry name h es) (Has (IsEntry name h) (map listed_of es))
unfolding has_entry
has-decides name h es = some-entry (is_entry name h) (IsEntry name h) (entry-decides name h) (has_entry name h) refl (λ e es. refl) es

pub row-decides : (name : List ℕ) (cookie : ℕ) (es : List DirEntry) → Decides (has_row name cookie es) (Has (λ e. (e.name ≡ name) × (e.cookie ≡ cookie)) (map listed_of es))
unfolding has_row
row-decides name cookie es = some-entry (λ e. bytes_eq e.name name && (e.cookie == cookie)) (λ e. (e.name ≡ name) × (e.cookie ≡ cookie)) (λ e. Decides-and (bytes_eq e.name name) (e.cookie == cookie) (bytes_eq-Decides e.name name) (Decides-eqb e.cookie cookie)) (has_row name cookie) refl (λ e es. refl) es

pub lacks-decides : (name : List ℕ) (es : List DirEntry) → Decides (lacks name es) (Lacks (map listed_of es) name)
unfolding lacks
lacks-decides name es = each-entry (λ e. not (bytes_eq e.name name)) (λ e. e.name ≢ name) (λ e. Decides-not (bytes_eq e.name name) (bytes_eq-Decides e.name name)) (lacks name) refl (λ e es. refl) es

dotted-decides : (name : List ℕ) → Decides (is_dotted name) ((name ≡ own_name) ⊎ (name ≡ parent_name))
dotted-decides name = Decides-or (bytes_eq name own_name) (bytes_eq name parent_name) (bytes_eq-Decides name own_name) (bytes_eq-Decides name parent_name)

pub bare-decides : (es : List DirEntry) → Decides (is_bare es) (IsBare (map listed_of es))
unfolding is_bare
bare-decides es = each-entry (λ e. is_dotted e.name) (λ e. (e.name ≡ own_name) ⊎ (e.name ≡ parent_name)) (λ e. dotted-decides e.name) is_bare refl (λ e es. refl) es

-- a name of the object other than `.` and `..`
abbrev pub IsNameOf : List ℕ → Listed → Type 0
IsNameOf h e = (e.object ≡ h) × ((e.name ≡ own_name) ⊎ (e.name ≡ parent_name) → ⊥)

pub names-decides : (h : List ℕ) (es : List DirEntry) → Decides (names_it h es) (Has (IsNameOf h) (map listed_of es))
unfolding names_it
names-decides h es = some-entry (λ e. bytes_eq e.object h && not (is_dotted e.name)) (IsNameOf h) (λ e. Decides-and (bytes_eq e.object h) (not (is_dotted e.name)) (bytes_eq-Decides e.object h) (Decides-not (is_dotted e.name) (dotted-decides e.name))) (names_it h) refl (λ e es. refl) es

same-listed : (a b : DirEntry) → Decides (same_entry a b) (listed_of a ≡ listed_of b)
same-listed a b =
    Decides-like (bytes_eq a.name b.name && bytes_eq a.object b.object && (a.cookie == b.cookie))
    (λ w i. record { name = w.0.0 i; object = w.0.1 i; cookie = w.1 i })
    (λ e. ((ap (λ (z : Listed). z.name) e, ap (λ (z : Listed). z.object) e), ap (λ (z : Listed). z.cookie) e))
    (Decides-and (bytes_eq a.name b.name && bytes_eq a.object b.object) (a.cookie == b.cookie) (Decides-and (bytes_eq a.name b.name) (bytes_eq a.object b.object) (bytes_eq-Decides a.name b.name) (bytes_eq-Decides a.object b.object)) (Decides-eqb a.cookie b.cookie))

this-decides : (x : DirEntry) (es : List DirEntry) → Decides (has_this x es) (Lists (map listed_of es) (listed_of x))
unfolding has_this
this-decides x es =
    Decides-like (has_this x es)
    (λ h. subst (λ (z : Listed). Lists (map listed_of es) z) h.2 h.1)
    (λ l. (listed_of x, l, refl))
    (some-entry (λ e. same_entry e x) (λ e. e ≡ listed_of x) (λ e. same-listed e x) (has_this x) refl (λ e es. refl) es)

-- each entry but `..` stands in the other list
abbrev pub AllIn : List Listed → List Listed → Type 0
AllIn es other = (e : Listed) → Lists es e → e.name ≢ parent_name → Lists other e

pub all-in-decides : (es other : List DirEntry) → Decides (all_in es other) (AllIn (map listed_of es) (map listed_of other))
unfolding all_in
all-in-decides es other = each-entry (λ e. is_parent e.name || has_this e other) (λ e. e.name ≢ parent_name → Lists (map listed_of other) e) (λ e. but (is_parent e.name) (has_this e other) (bytes_eq-Decides e.name parent_name) (this-decides e other)) (λ xs. all_in xs other) refl (λ e es. refl) es

pub same-but-parent : (es other : List DirEntry) → Decides (all_in es other && all_in other es) (SameButParent (map listed_of es) (map listed_of other))
same-but-parent es other =
    Decides-like (all_in es other && all_in other es)
    (λ w e name. (λ l. w.0 e l name, λ l. w.1 e l name))
    (λ w. (λ e l name. (w e name).0 l, λ e l name. (w e name).1 l))
    (Decides-and (all_in es other) (all_in other es) (all-in-decides es other) (all-in-decides other es))

-- ---- lists without the entry at a place

map-take : (k : ℕ) (es : List DirEntry) → map listed_of (take k es) ≡ take k (map listed_of es)
map-take zero es = refl
map-take (suc k) [] = refl
map-take (suc k) (e ∷ es) = ap (λ z. listed_of e ∷ z) (map-take k es)

map-drop : (k : ℕ) (es : List DirEntry) → map listed_of (drop k es) ≡ drop k (map listed_of es)
map-drop zero es = refl
map-drop (suc k) [] = refl
map-drop (suc k) (e ∷ es) = map-drop k es

pub map-without : (k : ℕ) (es : List DirEntry) → map listed_of (without k es) ≡ entering.without k (map listed_of es)
map-without k es = map-append listed_of (take k es) (drop (suc k) es) ∙ ap (λ (z : List Listed). z ++ map listed_of (drop (suc k) es)) (map-take k es) ∙ ap (λ (z : List Listed). take k (map listed_of es) ++ z) (map-drop (suc k) es)

pub without-decides-at : (k : ℕ) (long short : List DirEntry) → Decides (is_without k long short) (map listed_of short ≡ entering.without k (map listed_of long))
unfolding is_without
without-decides-at k long short = Decides-like (same_entries short (without k long)) (λ e. e ∙ map-without k long) (λ e. e ∙ sym (map-without k long)) (entries-decides short (without k long))

pub map-get : (es : List DirEntry) (k : ℕ) (e : DirEntry) → slice_get es k ≡ Some e → slice_get (map listed_of es) k ≡ Some (listed_of e)
map-get [] k e at = absurd (cc)
map-get (x ∷ es) zero e at = ap (option_map listed_of) at
map-get (x ∷ es) (suc k) e at = map-get es k e at

pub map-got : (es : List DirEntry) (k : ℕ) (l : Listed) → slice_get (map listed_of es) k ≡ Some l → (e : DirEntry) × (slice_get es k ≡ Some e) × (listed_of e ≡ l)
map-got [] k l at = absurd (cc)
map-got (x ∷ es) zero l at = (x, refl, here (listed_of x) l (map listed_of es) at)
map-got (x ∷ es) (suc k) l at = map-got es k l at

-- ---- equal lists by their parts

pub parts-eq : (a c b d : List DirEntry) → length a ≡ length c → (same_entries a c && same_entries b d) ≡ same_entries (a ++ b) (c ++ d)
unfolding same_entries
parts-eq [] [] b d l = refl
parts-eq [] (y ∷ c) b d l = absurd (omega (arith, l))
parts-eq (x ∷ a) [] b d l = absurd (omega (arith, l))
parts-eq (x ∷ a) (y ∷ c) b d l = and-assoc (same_entry x y) (same_entries a c) (same_entries b d) ∙ ap (λ z. same_entry x y && z) (parts-eq a c b d (omega (arith, l)))
  where
    and-assoc : (p q r : Bool) → (p && q && r) ≡ (p && (q && r))
    and-assoc true q r = refl
    and-assoc false q r = refl

pub lengths-differ : (a b : List DirEntry) → length a ≢ length b → false ≡ same_entries a b
unfolding same_entries
lengths-differ [] [] l = absurd (l refl)
lengths-differ [] (y ∷ b) l = refl
lengths-differ (x ∷ a) [] l = refl
lengths-differ (x ∷ a) (y ∷ b) l = and-false (same_entry x y) (same_entries a b) (sym (lengths-differ a b (λ e. l (ap (λ n. suc n) e))))
  where
    and-false : (p q : Bool) → q ≡ false → false ≡ (p && q)
    and-false true q e = sym e
    and-false false q e = refl

-- the two parts of a list that an entry parts
pub parts-heads : (k : ℕ) (long short : List DirEntry) → k ≤ length short → k < length long → same_entries (take k short) (take k long) ≡ false → false ≡ is_without k long short
unfolding is_without
parts-heads k long short le lt other = by (same_entries (take k short) (take k long)) (same_entries (drop k short) (drop (suc k) long)) other ∙ parts k long short le lt
  where
    by : (a b : Bool) → a ≡ false → false ≡ (a && b)
    by true b e = absurd (true≢false e)
    by false b e = refl

    parts : (k : ℕ) (long short : List DirEntry) → k ≤ length short → k < length long → (same_entries (take k short) (take k long) && same_entries (drop k short) (drop (suc k) long)) ≡ same_entries short (without k long)
    parts k long short le lt = parts-eq (take k short) (take k long) (drop k short) (drop (suc k) long) (length-take-le k short le ∙ sym (length-take-le k long (omega (arith, lt)))) ∙ ap (λ (z : List DirEntry). same_entries z (without k long)) (take-append-drop k short)

pub parts-tails : (k : ℕ) (long short : List DirEntry) → k ≤ length short → k < length long → same_entries (take k short) (take k long) ≡ true → same_entries (drop k short) (drop (k + 1) long) ≡ is_without k long short
unfolding is_without
parts-tails k long short le lt same =
    ap (λ (n : ℕ). same_entries (drop k short) (drop n long)) (add-one k)
    ∙ by (same_entries (take k short) (take k long)) (same_entries (drop k short) (drop (suc k) long)) same
    ∙ parts-eq (take k short) (take k long) (drop k short) (drop (suc k) long) (length-take-le k short le ∙ sym (length-take-le k long (omega (arith, lt))))
    ∙ ap (λ (z : List DirEntry). same_entries z (without k long)) (take-append-drop k short)
  where
    by : (a b : Bool) → a ≡ true → b ≡ (a && b)
    by true b e = refl
    by false b e = absurd (true≢false (sym e))

pub parts-short : (k : ℕ) (long short : List DirEntry) → length short < k → k < length long → false ≡ is_without k long short
unfolding is_without
parts-short k long short less lt = lengths-differ short (without k long) (λ e.
    let l : length (without k long) ≡ length (take k long) + length (drop (suc k) long) = length-append (take k long) (drop (suc k) long) in
    let m : length (take k long) ≡ k = length-take-le k long (omega (arith, lt)) in
    omega (arith, l, m, e, less))

pub rest-is : (k : ℕ) (es : List DirEntry) → take k es ++ drop (k + 1) es ≡ without k es
rest-is k es = ap (λ (n : ℕ). take k es ++ drop n es) (add-one k)

-- past its end a list is without nothing
pub without-past : (k : ℕ) (es : List DirEntry) → length es ≤ k → without k es ≡ es
without-past k es le = ap (λ (z : List DirEntry). z ++ drop (suc k) es) (take_all k es le) ∙ ap (λ (z : List DirEntry). es ++ z) (drop-past (suc k) es (omega (arith, le))) ∙ append-nil es
  where
    drop-past : (n : ℕ) (es : List DirEntry) → length es ≤ n → drop n es ≡ []
    drop-past zero [] le = refl
    drop-past zero (e ∷ es) le = absurd (omega (arith, le))
    drop-past (suc n) [] le = refl
    drop-past (suc n) (e ∷ es) le = drop-past n es (omega (arith, le))

pub past-is : (k : ℕ) (long short : List DirEntry) → length long ≤ k → same_entries short long ≡ is_without k long short
unfolding is_without
past-is k long short le = ap (λ (z : List DirEntry). same_entries short z) (sym (without-past k long le))

pub and-later : (a b : Bool) → b ≡ false → false ≡ (a && b)
and-later true b e = sym e
and-later false b e = refl
