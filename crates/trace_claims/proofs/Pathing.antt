-- The objects that the lists have are those to which the path leads.
use Rattle.std.proofs.Common.{◌≡◌, ◌<◌, ◌≤◌, ◌+◌, inl, inr, ℕ, Bool, true, false, true≢false, List, [], ◌∷◌, ◌++◌, length, Option, Some, None, slice_get, refl, sym, ◌∙◌, ap, subst, arith}
use Rattle.std.specs.Prelude.{nat_le, max, if◌then◌else◌}
use Rattle.std.specs.Str.{bytes_eq}
use Rattle.std.proofs.lemmas.Bool.{cases_lt, leb-true, le-leb, and_parts}
use Rattle.std.proofs.lemmas.Option.{slice_get_within}
use Rattle.std.proofs.lemmas.Slice.Eq.{bytes_eq-Decides}
use Rattle.nfs_types.specs.declared.attr.Attr.{Attr}
use Rattle.mount_calls.specs.declared.call.MountCall.TheVariants as mounts
use Rattle.mount_calls.specs.declared.reply.MountReply.TheVariants as mounted
use Rattle.nfs_dir_calls.specs.declared.call.DirCall.TheVariants as dirs
use Rattle.nfs_dir_calls.specs.declared.keeping.DirKept.TheVariants as kept
use Rattle.world_model.specs.declared.entry.Entry.{Entry}
use Rattle.world_model.specs.declared.entry.Entry.TheVariants.{Delivered}
use Rattle.world_model.specs.declared.message.Call.{Call}
use Rattle.world_model.specs.declared.message.Call.TheVariants as calls
use Rattle.world_model.specs.declared.message.Reply.{Reply}
use Rattle.world_model.specs.declared.message.Reply.TheVariants as replies
use Rattle.world_model.specs.Heard as model
use Rattle.world_model.specs.Leads.{Leads, root, step}
use Rattle.world_model.specs.Mounts.{Origin, Mounting, Given, mount_call}
use Rattle.world_model.proofs.Places.{At-below}
use Rattle.trace_claims.specs.declared.operations.Lead.{Lead}
use Rattle.trace_claims.specs.declared.records.Heard.{Heard}
use Rattle.trace_claims.specs.Hearing.{HeardAt, HasHeard}
use Rattle.trace_claims.specs.Operations.{leads_by, HasLead, LeadsAll}
use Rattle.trace_claims.specs.Paths.{mounts_path, root_in, root_by, looks_up, object_in, is_led, AddsLead, RootsUpTo, ObjectFrom, AddsObjects, NextFrom, NextUpTo, AddsFound, found_it, found_none, AddsObject, at_dir, elsewhere, AddsRoot, rooted_at, rootless}
use Rattle.trace_claims.proofs.Frames.{Leads-wide}
use Rattle.trace_claims.proofs.Hearers.{heard-asked, asked-heard}
use Rattle.trace_claims.proofs.Listing.{get-last, get-grow, get-new, get-one}
use Rattle.trace_claims.proofs.Owning.{any-found}

-- ---- calls and replies

some-list : (a b : List ℕ) → Some a ≡ Some b → a ≡ b
some-list a b e = cc

if-then : (b : Bool) (o : Option (List ℕ)) (f : List ℕ) → (if b then o else None) ≡ Some f → (b ≡ true) × (o ≡ Some f)
if-then true o f e = (refl, e)
if-then false o f e = absurd cc

mnt-told : (call : Call) (path : List ℕ) → mounts_path call path ≡ true → call ≡ mount_call path
mnt-told (calls.Mount (mounts.Mnt its)) path t = ap (λ (z : List ℕ). calls.Mount (mounts.Mnt z)) ((bytes_eq-Decides its path).0 t)
mnt-told (calls.File call) path t = absurd (true≢false (sym t))
mnt-told (calls.Dir call) path t = absurd (true≢false (sym t))
mnt-told (calls.Mount call) path t = absurd (true≢false (sym t))

root-told : (reply : Reply) (f : List ℕ) → root_in reply ≡ Some f → (flavors : List ℕ) × (reply ≡ replies.Mount (mounted.MntOk f flavors))
root-told (replies.Mount (mounted.MntOk its flavors)) f e = (flavors, ap (λ (z : List ℕ). replies.Mount (mounted.MntOk z flavors)) (some-list its f e))
root-told (replies.File reply) f e = absurd cc
root-told (replies.Dir reply) f e = absurd cc
root-told (replies.Mount reply) f e = absurd cc

look-told : (call : Call) (name d : List ℕ) → looks_up call name ≡ Some d → call ≡ calls.Dir (dirs.Lookup d name)
look-told (calls.Dir (dirs.Lookup its n)) name d e =
    let two = if-then (bytes_eq n name) (Some its) d e in
    ap (λ (z : List ℕ). calls.Dir (dirs.Lookup z n)) (some-list its d two.1) ∙ ap (λ (z : List ℕ). calls.Dir (dirs.Lookup d z)) ((bytes_eq-Decides n name).0 two.0)
look-told (calls.File call) name d e = absurd cc
look-told (calls.Mount call) name d e = absurd cc
look-told (calls.Dir call) name d e = absurd cc

look-shown : (call : Call) (name d : List ℕ) → call ≡ calls.Dir (dirs.Lookup d name) → looks_up call name ≡ Some d
look-shown call name d is = ap (λ (c : Call). looks_up c name) is ∙ (let t : bytes_eq name name ≡ true = (bytes_eq-Decides name name).1 refl in rw t refl)

object-told : (reply : Reply) (f : List ℕ) → object_in reply ≡ Some f → (attr : Option Attr) × (dir : Option Attr) × (reply ≡ replies.Dir (kept.Lookup f attr dir))
object-told (replies.Dir (kept.Lookup its attr dir)) f e = (attr, dir, ap (λ (z : List ℕ). replies.Dir (kept.Lookup z attr dir)) (some-list its f e))
object-told (replies.File reply) f e = absurd cc
object-told (replies.Mount reply) f e = absurd cc
object-told (replies.Dir reply) f e = absurd cc

root-shown : (r : Heard) (path f flavors : List ℕ) → r.call ≡ mount_call path → r.reply ≡ replies.Mount (mounted.MntOk f flavors) → root_by r path ≡ Some f
root-shown r path f flavors c is = let t : mounts_path r.call path ≡ true = ap (λ (z : Call). mounts_path z path) c ∙ (bytes_eq-Decides path path).1 refl in rw t (ap root_in is)

-- ---- lists

-- what is listed from a moment is so from a later one
pub lead-wide : (ls : List Lead) (n k : ℕ) (f : List ℕ) → n ≤ k → HasLead ls n f → HasLead ls k f
lead-wide ls n k f le has = (has.0, has.1, has.2, le-leb has.1.since k (let low : has.1.since ≤ n = leb-true has.1.since n has.3 in omega (arith, low, le)), has.4)

pub lead-kept : (old new : List Lead) (n : ℕ) (f : List ℕ) → ((i : ℕ) (l : Lead) → slice_get old i ≡ Some l → slice_get new i ≡ Some l) → HasLead old n f → HasLead new n f
lead-kept old new n f keeps has = (has.0, has.1, keeps has.0 has.1 has.2, has.3, has.4)

pub add-listed : (f : List ℕ) (n : ℕ) (ls : List Lead) → is_led ls f n ≡ true → AddsLead f n ls ls
add-listed f n ls t =
    let it = any-found (leads_by f n) ls t in
    let two = and_parts (bytes_eq it.1.file f) (nat_le it.1.since n) it.3 in
    record { before = λ i l at. at; each = λ i l at. inl at; has = (it.0, it.1, it.2, two.1, (bytes_eq-Decides it.1.file f).0 two.0) }

pub add-new : (f : List ℕ) (n : ℕ) (ls : List Lead) → AddsLead f n ls (ls ++ record { file = f; since = n } ∷ [])
add-new f n ls = record {
  before = λ i l at. get-grow ls (record { file = f; since = n }) i l at;
  each = λ i l at. elim (get-last ls (record { file = f; since = n }) i l at) [
    | inl old ↦ inl old
    | inr e ↦ inr (sym e)
  ];
  has = (length ls, record { file = f; since = n }, get-new ls (record { file = f; since = n }), le-leb n n (omega arith), refl);
}

-- ---- roots

pub roots-none : (path : List ℕ) (rs : List Heard) → RootsUpTo path rs 0 []
roots-none path rs = record { each = λ i l at. absurd cc; every = λ i r f at lt root_is. absurd (omega (arith, lt)) }

some-heard : (a b : Heard) → Some a ≡ Some b → a ≡ b
some-heard a b e = cc

at-last : (rs : List Heard) (k : ℕ) (r : Heard) (i : ℕ) (x : Heard) → slice_get rs k ≡ Some r → slice_get rs i ≡ Some x → k ≤ i → i < k + 1 → r ≡ x
at-last rs k r i x at there le lt = some-heard r x (sym at ∙ subst (λ (z : ℕ). slice_get rs z ≡ Some x) (let same : i ≡ k = omega (arith, le, lt) in same) there)

pub roots-more : (path : List ℕ) (rs : List Heard) (k : ℕ) (r : Heard) (f : List ℕ) (old new : List Lead) → slice_get rs k ≡ Some r → root_by r path ≡ Some f → AddsLead f r.after old new → RootsUpTo path rs k old → RootsUpTo path rs (k + 1) new
roots-more path rs k r f old new at is adds so-far = record {
  each = λ i l there. elim (adds.each i l there) [
    | inl was ↦ let it = so-far.each i l was in let low = it.low in record { i = it.i; r = it.r; low = omega (arith, low); there = it.there; root = it.root; since_is = it.since_is }
    | inr e ↦ record { i = k; r = r; low = omega arith; there = at; root = is ∙ ap (λ (z : Lead). Some z.file) (sym e); since_is = ap (λ (z : Lead). z.since) e }
  ];
  every = λ i x g there lt its. elim (cases_lt i k) [
    | inl before ↦ lead-kept old new x.after g adds.before (so-far.every i x g there before its)
    | inr le ↦
        let same = at-last rs k r i x at there le lt in
        subst (λ (z : Heard). HasLead new z.after g) same (subst (λ (z : List ℕ). HasLead new r.after z) (some-list f g (sym is ∙ ap (λ (z : Heard). root_by z path) same ∙ its)) adds.has)
  ];
}

pub roots-skip : (path : List ℕ) (rs : List Heard) (k : ℕ) (r : Heard) (ls : List Lead) → slice_get rs k ≡ Some r → root_by r path ≡ None → RootsUpTo path rs k ls → RootsUpTo path rs (k + 1) ls
roots-skip path rs k r ls at none so-far = record {
  each = λ i l there. let it = so-far.each i l there in let low = it.low in record { i = it.i; r = it.r; low = omega (arith, low); there = it.there; root = it.root; since_is = it.since_is };
  every = λ i x g there lt its. elim (cases_lt i k) [
    | inl before ↦ so-far.every i x g there before its
    | inr le ↦ let bad : None ≡ Some g = sym none ∙ ap (λ (z : Heard). root_by z path) (at-last rs k r i x at there le lt) ∙ its in absurd cc
  ];
}

nonempty : (earlier : List (List ℕ)) (name : List ℕ) → earlier ++ name ∷ [] ≡ [] → ⊥
nonempty [] name e = absurd cc
nonempty (x ∷ earlier) name e = absurd cc

-- the root that is given
pub given-leads : (h : List Entry) (given : List ℕ) → LeadsAll (Given given) h [] (record { file = given; since = 0 } ∷ [])
given-leads h given = record {
  each = λ k lead at. subst (λ (z : Lead). Leads (Given given) h z.since [] z.file) (get-one (record { file = given; since = 0 }) k lead at) (root [] given refl refl);
  every = λ n f leads. by n f [] refl leads;
}
  where
    by : (n : ℕ) (f : List ℕ) (path : List (List ℕ)) → path ≡ [] → Leads (Given given) h n path f → HasLead (record { file = given; since = 0 } ∷ []) n f
    by n f path empty (root _ _ is rooted) = (0, record { file = given; since = 0 }, refl, le-leb 0 n (omega arith), sym rooted)
    by n f path empty (step _ earlier _ name d attr dir is leads heard) = absurd (nonempty earlier name (sym is ∙ empty))

-- those that replies to MNT gave
pub mounted-leads : (h : List Entry) (path : List ℕ) (rs : List Heard) (ls : List Lead) → HasHeard h (length h) rs → RootsUpTo path rs (length rs) ls → LeadsAll (Mounting path) h [] ls
mounted-leads h path rs ls has roots = record { each = each; every = λ n f leads. by n f [] refl leads }
  where
    each : (k : ℕ) (lead : Lead) → slice_get ls k ≡ Some lead → Leads (Mounting path) h lead.since [] lead.file
    each k lead at =
        let it = roots.each k lead at in
        let two = if-then (mounts_path it.r.call path) (root_in it.r.reply) lead.file it.root in
        let reply = root-told it.r.reply lead.file two.1 in
        let is = has.each it.i it.r it.there in
        let after = is.after_is in
        let since = it.since_is in
        let heard : HeardAt h it.r.place (mount_call path) (replies.Mount (mounted.MntOk lead.file reply.0)) = subst (λ (c : Call). HeardAt h it.r.place c (replies.Mount (mounted.MntOk lead.file reply.0))) (mnt-told it.r.call path two.0) (subst (λ (z : Reply). HeardAt h it.r.place it.r.call z) reply.1 is.is) in
        root [] lead.file refl (reply.0, heard-asked h it.r.place (mount_call path) (replies.Mount (mounted.MntOk lead.file reply.0)) lead.since heard (omega (arith, since, after)))

    by : (n : ℕ) (f : List ℕ) (p : List (List ℕ)) → p ≡ [] → Leads (Mounting path) h n p f → HasLead ls n f
    by n f p empty (root _ _ is rooted) =
        let g = asked-heard h (mount_call path) (replies.Mount (mounted.MntOk f rooted.0)) n rooted.1 in
        let there = At-below h g.0 (Delivered g.2.bytes) g.2.got.got in
        let r = has.every g.0 (mount_call path) (replies.Mount (mounted.MntOk f rooted.0)) g.2 there in
        let after = (has.each r.0 r.1 r.2).after_is in
        let place = r.3 in
        let before = g.1 in
        lead-wide ls r.1.after n f (omega (arith, after, place, before)) (roots.every r.0 r.1 f r.2 (slice_get_within rs r.0 r.1 r.2) (root-shown r.1 path f rooted.0 r.4.0 r.4.1))
    by n f p empty (step _ earlier _ name d attr dir is leads heard) = absurd (nonempty earlier name (sym is ∙ empty))

-- ---- one name more

pub objects-none : (list : List Lead) (d f : List ℕ) (since : ℕ) (ls : List Lead) → AddsObjects list d f since 0 ls ls
objects-none list d f since ls = record { before = λ i l at. at; each = λ i l at. inl at; every = λ j lead at lt dir. absurd (omega (arith, lt)) }

some-lead : (a b : Lead) → Some a ≡ Some b → a ≡ b
some-lead a b e = cc

wider : (list : List Lead) (d f : List ℕ) (since k : ℕ) (l : Lead) → ObjectFrom list d f since k l → ObjectFrom list d f since (k + 1) l
wider list d f since k l it = let low = it.low in record { j = it.j; lead = it.lead; low = omega (arith, low); there = it.there; dir = it.dir; is = it.is }

pub objects-more : (list : List Lead) (d f : List ℕ) (since k : ℕ) (lead : Lead) (old mid new : List Lead) → slice_get list k ≡ Some lead → lead.file ≡ d → AddsObjects list d f since k old mid → AddsLead f (max lead.since since) mid new → AddsObjects list d f since (k + 1) old new
objects-more list d f since k lead old mid new at dir so-far adds = record {
  before = λ i l was. adds.before i l (so-far.before i l was);
  each = λ i l there. elim (adds.each i l there) [
    | inl was ↦ elim (so-far.each i l was) [
      | inl older ↦ inl older
      | inr from ↦ inr (wider list d f since k l from)
    ]
    | inr e ↦ inr (record { j = k; lead = lead; low = omega arith; there = at; dir = dir; is = e })
  ];
  every = λ j x there lt its. elim (cases_lt j k) [
    | inl before ↦ lead-kept mid new (max x.since since) f adds.before (so-far.every j x there before its)
    | inr le ↦ subst (λ (z : Lead). HasLead new (max z.since since) f) (some-lead lead x (sym at ∙ subst (λ (z : ℕ). slice_get list z ≡ Some x) (let same : j ≡ k = omega (arith, le, lt) in same) there)) adds.has
  ];
}

pub objects-skip : (list : List Lead) (d f : List ℕ) (since k : ℕ) (lead : Lead) (old mid : List Lead) → slice_get list k ≡ Some lead → (lead.file ≡ d → ⊥) → AddsObjects list d f since k old mid → AddsObjects list d f since (k + 1) old mid
objects-skip list d f since k lead old mid at other so-far = record {
  before = so-far.before;
  each = λ i l there. elim (so-far.each i l there) [
    | inl older ↦ inl older
    | inr from ↦ inr (wider list d f since k l from)
  ];
  every = λ j x there lt its. elim (cases_lt j k) [
    | inl before ↦ so-far.every j x there before its
    | inr le ↦ absurd (other (ap (λ (z : Lead). z.file) (some-lead lead x (sym at ∙ subst (λ (z : ℕ). slice_get list z ≡ Some x) (let same : j ≡ k = omega (arith, le, lt) in same) there)) ∙ its))
  ];
}

pub next-none : (list : List Lead) (name : List ℕ) (rs : List Heard) → NextUpTo list name rs 0 []
next-none list name rs = record { each = λ i l at. absurd cc; every = λ i r d f at lt looked found j lead there dir. absurd (omega (arith, lt)) }

next-wider : (list : List Lead) (name : List ℕ) (rs : List Heard) (k : ℕ) (l : Lead) → NextFrom list name rs k l → NextFrom list name rs (k + 1) l
next-wider list name rs k l it = let low = it.low in record { i = it.i; r = it.r; d = it.d; f = it.f; low = omega (arith, low); there = it.there; looked = it.looked; found = it.found; from = it.from }

pub next-more : (list : List Lead) (name : List ℕ) (rs : List Heard) (k : ℕ) (r : Heard) (d f : List ℕ) (old new : List Lead) → slice_get rs k ≡ Some r → looks_up r.call name ≡ Some d → object_in r.reply ≡ Some f
    → AddsObjects list d f r.after (length list) old new → NextUpTo list name rs k old → NextUpTo list name rs (k + 1) new
next-more list name rs k r d f old new at looked found adds so-far = record {
  each = λ i l there. elim (adds.each i l there) [
    | inl was ↦ next-wider list name rs k l (so-far.each i l was)
    | inr from ↦ record { i = k; r = r; d = d; f = f; low = omega arith; there = at; looked = looked; found = found; from = from }
  ];
  every = λ i x e g there lt its_dir its_object j lead listed dir. elim (cases_lt i k) [
    | inl before ↦ lead-kept old new (max lead.since x.after) g adds.before (so-far.every i x e g there before its_dir its_object j lead listed dir)
    | inr le ↦
        let same = at-last rs k r i x at there le lt in
        let d_is : d ≡ e = some-list d e (sym looked ∙ ap (λ (z : Heard). looks_up z.call name) same ∙ its_dir) in
        let f_is : f ≡ g = some-list f g (sym found ∙ ap (λ (z : Heard). object_in z.reply) same ∙ its_object) in
        subst (λ (z : Heard). HasLead new (max lead.since z.after) g) same (subst (λ (z : List ℕ). HasLead new (max lead.since r.after) z) f_is (adds.every j lead listed (slice_get_within list j lead listed) (dir ∙ sym d_is)))
  ];
}

-- a reply that is to no LOOKUP of the name, or found nothing
pub next-skip : (list : List Lead) (name : List ℕ) (rs : List Heard) (k : ℕ) (r : Heard) (ls : List Lead) → slice_get rs k ≡ Some r → ((d f : List ℕ) → looks_up r.call name ≡ Some d → object_in r.reply ≡ Some f → ⊥) → NextUpTo list name rs k ls → NextUpTo list name rs (k + 1) ls
next-skip list name rs k r ls at none so-far = record {
  each = λ i l there. next-wider list name rs k l (so-far.each i l there);
  every = λ i x e g there lt its_dir its_object j lead listed dir. elim (cases_lt i k) [
    | inl before ↦ so-far.every i x e g there before its_dir its_object j lead listed dir
    | inr le ↦
        let same = at-last rs k r i x at there le lt in
        absurd (none e g (ap (λ (z : Heard). looks_up z.call name) same ∙ its_dir) (ap (λ (z : Heard). object_in z.reply) same ∙ its_object))
  ];
}

pub next-by : (list : List Lead) (name : List ℕ) (rs : List Heard) (k : ℕ) (r : Heard) (old new : List Lead) → slice_get rs k ≡ Some r → AddsFound list name r old new → NextUpTo list name rs k old → NextUpTo list name rs (k + 1) new
next-by list name rs k r old new at (found_it d f looked found adds) so-far = next-more list name rs k r d f old new at looked found adds so-far
next-by list name rs k r old new at (found_none none same) so-far = subst (λ (l : List Lead). NextUpTo list name rs (k + 1) l) (sym same) (next-skip list name rs k r old at none so-far)

pub objects-by : (list : List Lead) (d f : List ℕ) (since k : ℕ) (lead : Lead) (old mid new : List Lead) → slice_get list k ≡ Some lead → AddsObject lead d f since mid new → AddsObjects list d f since k old mid → AddsObjects list d f since (k + 1) old new
objects-by list d f since k lead old mid new at (at_dir dir adds) so-far = objects-more list d f since k lead old mid new at dir so-far adds
objects-by list d f since k lead old mid new at (elsewhere no_dir is) so-far = subst (λ (l : List Lead). AddsObjects list d f since (k + 1) old l) (sym is) (objects-skip list d f since k lead old mid at no_dir so-far)

pub roots-by : (path : List ℕ) (rs : List Heard) (k : ℕ) (r : Heard) (old new : List Lead) → slice_get rs k ≡ Some r → AddsRoot (root_by r path) r.after old new → RootsUpTo path rs k old → RootsUpTo path rs (k + 1) new
roots-by path rs k r old new at (rooted_at f is lead) so-far = roots-more path rs k r f old new at is lead so-far
roots-by path rs k r old new at (rootless none same) so-far = subst (λ (l : List Lead). RootsUpTo path rs (k + 1) l) (sym same) (roots-skip path rs k r old at none so-far)

-- two paths with a last name are the same
snoc-names : (a b : List (List ℕ)) (x y : List ℕ) → a ++ x ∷ [] ≡ b ++ y ∷ [] → (a ≡ b) × (x ≡ y)
snoc-names [] [] x y e = (refl, heads x y e)
  where
    heads : (x y : List ℕ) → (x ∷ []) ≡ (y ∷ []) → x ≡ y
    heads x y e = cc
snoc-names [] (b ∷ bs) x y e = absurd (nonempty bs y (sym (tails x b [] (bs ++ y ∷ []) e)))
  where
    tails : (x b : List ℕ) (xs bs : List (List ℕ)) → (x ∷ xs) ≡ (b ∷ bs) → xs ≡ bs
    tails x b xs bs e = cc
snoc-names (a ∷ az) [] x y e = absurd (nonempty az x (tails a y (az ++ x ∷ []) [] e))
  where
    tails : (x b : List ℕ) (xs bs : List (List ℕ)) → (x ∷ xs) ≡ (b ∷ bs) → xs ≡ bs
    tails x b xs bs e = cc
snoc-names (a ∷ az) (b ∷ bs) x y e =
    let rest = snoc-names az bs x y (tails a b (az ++ x ∷ []) (bs ++ y ∷ []) e) in
    (rw (heads a b (az ++ x ∷ []) (bs ++ y ∷ []) e, rest.0) refl, rest.1)
  where
    tails : (x b : List ℕ) (xs bs : List (List ℕ)) → (x ∷ xs) ≡ (b ∷ bs) → xs ≡ bs
    tails x b xs bs e = cc

    heads : (x b : List ℕ) (xs bs : List (List ℕ)) → (x ∷ xs) ≡ (b ∷ bs) → x ≡ b
    heads x b xs bs e = cc

pub next-leads : (origin : Origin) (h : List Entry) (earlier : List (List ℕ)) (name : List ℕ) (list : List Lead) (rs : List Heard) (later : List Lead) → HasHeard h (length h) rs → LeadsAll origin h earlier list → NextUpTo list name rs (length rs) later
    → LeadsAll origin h (earlier ++ name ∷ []) later
next-leads origin h earlier name list rs later has leads_all next = record { each = each; every = λ n f leads. by n f (earlier ++ name ∷ []) refl leads }
  where
    each : (k : ℕ) (l : Lead) → slice_get later k ≡ Some l → Leads origin h l.since (earlier ++ name ∷ []) l.file
    each k l at =
        let it = next.each k l at in
        let from = it.from in
        let reply = object-told it.r.reply it.f it.found in
        let is = has.each it.i it.r it.there in
        let after = is.after_is in
        let heard : HeardAt h it.r.place (calls.Dir (dirs.Lookup it.d name)) (replies.Dir (kept.Lookup it.f reply.0 reply.1)) =
        subst (λ (c : Call). HeardAt h it.r.place c (replies.Dir (kept.Lookup it.f reply.0 reply.1))) (look-told it.r.call name it.d it.looked) (subst (λ (z : Reply). HeardAt h it.r.place it.r.call z) reply.2 is.is) in
        let dir : Leads origin h from.lead.since earlier it.d = subst (λ (z : List ℕ). Leads origin h from.lead.since earlier z) from.dir (leads_all.each from.j from.lead from.there) in
        subst (λ (z : Lead). Leads origin h z.since (earlier ++ name ∷ []) z.file) (sym from.is)
        (step (earlier ++ name ∷ []) earlier it.f name it.d reply.0 reply.1 refl (Leads-wide origin h from.lead.since (max from.lead.since it.r.after) earlier it.d (omega arith) dir)
        (heard-asked h it.r.place (calls.Dir (dirs.Lookup it.d name)) (replies.Dir (kept.Lookup it.f reply.0 reply.1)) (max from.lead.since it.r.after) heard (omega (arith, after))))

    by : (n : ℕ) (f : List ℕ) (path : List (List ℕ)) → path ≡ earlier ++ name ∷ [] → Leads origin h n path f → HasLead later n f
    by n f path same (root _ _ is rooted) = absurd (nonempty earlier name (sym same ∙ is))
    by n f path same (step _ before _ its d attr dir is leads heard) =
        let two = snoc-names before earlier its name (sym is ∙ same) in
        let led = leads_all.every n d (subst (λ (z : List (List ℕ)). Leads origin h n z d) two.0 leads) in
        let asked : model.Asked h 0 n (calls.Dir (dirs.Lookup d name)) (replies.Dir (kept.Lookup f attr dir)) = subst (λ (z : List ℕ). model.Asked h 0 n (calls.Dir (dirs.Lookup d z)) (replies.Dir (kept.Lookup f attr dir))) two.1 heard in
        let g = asked-heard h (calls.Dir (dirs.Lookup d name)) (replies.Dir (kept.Lookup f attr dir)) n asked in
        let there = At-below h g.0 (Delivered g.2.bytes) g.2.got.got in
        let r = has.every g.0 (calls.Dir (dirs.Lookup d name)) (replies.Dir (kept.Lookup f attr dir)) g.2 there in
        let after = (has.each r.0 r.1 r.2).after_is in
        let place = r.3 in
        let soon = g.1 in
        let low : led.1.since ≤ n = leb-true led.1.since n led.3 in
        lead-wide later (max led.1.since r.1.after) n f (omega (arith, after, place, soon, low))
        (next.every r.0 r.1 d f r.2 (slice_get_within rs r.0 r.1 r.2) (look-shown r.1.call name d r.4.0) (ap object_in r.4.1) led.0 led.1 led.2 led.4)
