-- The test on two objects decides whether they differ so that the stamp must.
use Rattle.std.proofs.Common.{◌≡◌, ◌≢◌, ◌⊎◌, inl, inr, ◌==◌, ℕ, Bool, true≢false, List, [], ◌∷◌, map, refl, sym, ◌∙◌, ap}
use Rattle.std.specs.Prelude.{Decides, ◌&&◌, ◌||◌, not}
use Rattle.std.specs.Str.{bytes_eq}
use Rattle.std.proofs.lemmas.Bool.Decides.{Decides-like, Decides-and, Decides-or, Decides-not, Decides-eqb}
use Rattle.std.proofs.lemmas.Slice.Eq.{bytes_eq-Decides}
use Rattle.nfs_types.specs.Stamps.{same_stamp, stamp_of}
use Rattle.world_model.specs.Server as model
use Rattle.world_model.specs.Fresh.{Differs}
use Rattle.trace_data.specs.declared.trace.DirEntry.{DirEntry}
use Rattle.trace_data.specs.declared.trace.Contents.{Contents}
use Rattle.trace_data.specs.declared.trace.Contents.TheVariants.{File, Directory, Other}
use Rattle.trace_data.specs.declared.trace.Object.{Object}
use Rattle.trace_data.specs.Histories.{listed_of, holds_of, object_of}
use Rattle.trace_rules.specs.Freshness.{same_entry, same_entries, other_contents, is_stamped, differs}
use Rattle.trace_rules.proofs.Naming.{stamp-decides}

-- ---- lists

entry-decides : (a b : DirEntry) → Decides (same_entry a b) (listed_of a ≡ listed_of b)
entry-decides a b =
    Decides-like (bytes_eq a.name b.name && bytes_eq a.object b.object && (a.cookie == b.cookie))
    (λ w i. record { name = w.0.0 i; object = w.0.1 i; cookie = w.1 i })
    (λ e. ((ap (λ (z : model.Listed). z.name) e, ap (λ (z : model.Listed). z.object) e), ap (λ (z : model.Listed). z.cookie) e))
    (Decides-and (bytes_eq a.name b.name && bytes_eq a.object b.object) (a.cookie == b.cookie)
    (Decides-and (bytes_eq a.name b.name) (bytes_eq a.object b.object) (bytes_eq-Decides a.name b.name) (bytes_eq-Decides a.object b.object)) (Decides-eqb a.cookie b.cookie))

pub entries-decides : (a b : List DirEntry) → Decides (same_entries a b) (map listed_of a ≡ map listed_of b)
unfolding same_entries
entries-decides [] [] = (λ _. refl, λ _. refl)
entries-decides [] (y ∷ b) = (λ t. absurd (true≢false (sym t)), λ e. absurd (cc))
entries-decides (x ∷ a) [] = (λ t. absurd (true≢false (sym t)), λ e. absurd (cc))
entries-decides (x ∷ a) (y ∷ b) =
    Decides-like (same_entry x y && same_entries a b)
    (λ w i. w.0 i ∷ w.1 i)
    (λ e. (heads (listed_of x) (listed_of y) (map listed_of a) (map listed_of b) e, tails (listed_of x) (listed_of y) (map listed_of a) (map listed_of b) e))
    (Decides-and (same_entry x y) (same_entries a b) (entry-decides x y) (entries-decides a b))
  where
    heads : (p q : model.Listed) (ps qs : List model.Listed) → p ∷ ps ≡ q ∷ qs → p ≡ q
    heads p q ps qs e = cc

    tails : (p q : model.Listed) (ps qs : List model.Listed) → p ∷ ps ≡ q ∷ qs → ps ≡ qs
    tails p q ps qs e = cc

-- ---- what Differs says, by what both objects hold

-- two objects that hold these differ, where D says that their stamps do
abbrev pub Told : model.Holds → model.Holds → Type 0 → Type 0
Told (model.Bytes now stable) (model.Bytes later steady) D = (now ≢ later) ⊎ D
Told (model.Bytes now stable) (model.Entries after) D = D
Told (model.Bytes now stable) (model.Text text) D = D
Told (model.Entries before) (model.Bytes later steady) D = D
Told (model.Entries before) (model.Entries after) D = (before ≢ after) ⊎ D
Told (model.Entries before) (model.Text text) D = D
Told (model.Text text) (model.Bytes later steady) D = ⊥
Told (model.Text text) (model.Entries after) D = ⊥
Told (model.Text text) (model.Text other) D = ⊥

abbrev pub OtherStamp : model.Object → model.Object → Type 0
OtherStamp old new = stamp_of old.attr ≢ stamp_of new.attr

bytes-told : (D : Type 0) (now stable : List ℕ) (h : model.Holds) → D → Told (model.Bytes now stable) h D
bytes-told D now stable (model.Bytes later steady) d = inr d
bytes-told D now stable (model.Entries after) d = d
bytes-told D now stable (model.Text text) d = d

list-told : (D : Type 0) (before : List model.Listed) (h : model.Holds) → D → Told (model.Entries before) h D
list-told D before (model.Bytes later steady) d = d
list-told D before (model.Entries after) d = inr d
list-told D before (model.Text text) d = d

told : (old new : model.Object) → Differs old new → Told old.holds new.holds (OtherStamp old new)
told old new (Differs.bytes now stable later steady was is other) = rw (was, is) (inl other)
told old new (Differs.list before after was is other) = rw (was, is) (inl other)
told old new (Differs.file_stamp now stable was other) = rw was (bytes-told (OtherStamp old new) now stable new.holds other)
told old new (Differs.list_stamp entries was other) = rw was (list-told (OtherStamp old new) entries new.holds other)

differ : (old new : model.Object) (g h : model.Holds) → old.holds ≡ g → new.holds ≡ h → Told g h (OtherStamp old new) → Differs old new
differ old new (model.Bytes now stable) (model.Bytes later steady) was is (inl other) = Differs.bytes now stable later steady was is other
differ old new (model.Bytes now stable) (model.Bytes later steady) was is (inr d) = Differs.file_stamp now stable was d
differ old new (model.Bytes now stable) (model.Entries after) was is d = Differs.file_stamp now stable was d
differ old new (model.Bytes now stable) (model.Text text) was is d = Differs.file_stamp now stable was d
differ old new (model.Entries before) (model.Bytes later steady) was is d = Differs.list_stamp before was d
differ old new (model.Entries before) (model.Entries after) was is (inl other) = Differs.list before after was is other
differ old new (model.Entries before) (model.Entries after) was is (inr d) = Differs.list_stamp before was d
differ old new (model.Entries before) (model.Text text) was is d = Differs.list_stamp before was d
differ old new (model.Text text) (model.Bytes later steady) was is n = absurd n
differ old new (model.Text text) (model.Entries after) was is n = absurd n
differ old new (model.Text text) (model.Text other) was is n = absurd n

-- ---- the test

told-decides : (c d : Contents) (D : Type 0) (b : Bool) → Decides b D → Decides (other_contents c d || (is_stamped c && b)) (Told (holds_of c) (holds_of d) D)
told-decides (File now stable) (File later steady) D b k = Decides-or (not (bytes_eq now later)) b (Decides-not (bytes_eq now later) (bytes_eq-Decides now later)) k
told-decides (File now stable) (Directory after) D b k = k
told-decides (File now stable) (Other text) D b k = k
told-decides (Directory before) (File later steady) D b k = k
told-decides (Directory before) (Directory after) D b k = Decides-or (not (same_entries before.items after.items)) b (Decides-not (same_entries before.items after.items) (entries-decides before.items after.items)) k
told-decides (Directory before) (Other text) D b k = k
told-decides (Other text) (File later steady) D b k = (λ t. absurd (true≢false (sym t)), λ n. absurd n)
told-decides (Other text) (Directory after) D b k = (λ t. absurd (true≢false (sym t)), λ n. absurd n)
told-decides (Other text) (Other other) D b k = (λ t. absurd (true≢false (sym t)), λ n. absurd n)

pub differs-decides : (old new : Object) → Decides (differs old new) (Differs (object_of old) (object_of new))
unfolding differs
differs-decides old new =
    Decides-like (other_contents old.contents new.contents || (is_stamped old.contents && not (same_stamp (stamp_of old.attr) (stamp_of new.attr))))
    (λ w. differ (object_of old) (object_of new) (holds_of old.contents) (holds_of new.contents) refl refl w)
    (λ w. told (object_of old) (object_of new) w)
    (told-decides old.contents new.contents (OtherStamp (object_of old) (object_of new)) (not (same_stamp (stamp_of old.attr) (stamp_of new.attr)))
    (Decides-not (same_stamp (stamp_of old.attr) (stamp_of new.attr)) (stamp-decides (stamp_of old.attr) (stamp_of new.attr))))

-- no object differs from itself
pub differs-not : (o : model.Object) → Differs o o → ⊥
differs-not o (Differs.bytes now stable later steady was is other) = other (let e : model.Bytes now stable ≡ model.Bytes later steady = sym was ∙ is in cc)
differs-not o (Differs.list before after was is other) = other (let e : model.Entries before ≡ model.Entries after = sym was ∙ is in cc)
differs-not o (Differs.file_stamp now stable was other) = other refl
differs-not o (Differs.list_stamp entries was other) = other refl
