-- The changes that the calls of other clients make are those that the history tells of.
use Rattle.std.proofs.Common.{◌≡◌, ◌≤◌, ◌+◌, ℕ, zero, suc, Bool, true, false, true≢false, List, [], ◌∷◌, length, Option, Some, None, slice_get, refl, sym, ◌∙◌, ap, subst, add-one, map}
use Rattle.std.specs.Prelude.{nat_le, nat_lt, if◌then◌else◌}
use Rattle.std.specs.Option.{option_map}
use Rattle.std.specs.Str.{bytes_eq}
use Rattle.std.proofs.lemmas.Bool.{leb-true, ltb-true, le-leb, lt-ltb, and_parts, and_from}
use Rattle.std.proofs.lemmas.Slice.Eq.{bytes_eq-Decides}
use Rattle.nfs_types.specs.declared.attr.Attr.{Attr}
use Rattle.nfs_types.specs.declared.set_attr.SetAttr.{SetAttr}
use Rattle.nfs_types.specs.declared.wcc.Wcc.{Wcc}
use Rattle.nfs_dir_calls.specs.declared.call.DirCall.{DirCall}
use Rattle.nfs_dir_calls.specs.declared.call.DirCall.TheVariants as dirs
use Rattle.nfs_dir_calls.specs.declared.create.Making.{Making}
use Rattle.nfs_dir_calls.specs.declared.create.Making.TheVariants as makings
use Rattle.nfs_dir_calls.specs.declared.keeping.DirKept.TheVariants as dirs_kept
use Rattle.nfs_file_calls.specs.declared.call.FileCall.{FileCall}
use Rattle.nfs_file_calls.specs.declared.call.FileCall.TheVariants as files
use Rattle.nfs_file_calls.specs.declared.owned.FileKept.TheVariants as files_kept
use Rattle.world_model.specs.declared.entry.Entry.TheVariants.{Foreign}
use Rattle.world_model.specs.declared.message.Call.{Call}
use Rattle.world_model.specs.declared.message.Call.TheVariants as calls
use Rattle.world_model.specs.declared.message.Reply.{Reply}
use Rattle.world_model.specs.declared.message.Reply.TheVariants as replies
use Rattle.world_model.specs.Entries.{At}
use Rattle.world_model.specs.Server as model
use Rattle.world_model.proofs.Places.{At-below}
use Rattle.claims.specs.Touched as touching
use Rattle.claims.specs.Touched.{ChangesPlace}
use Rattle.trace_data.specs.declared.trace.Contents.{Contents}
use Rattle.trace_data.specs.declared.trace.Contents.TheVariants.{File, Directory, Other}
use Rattle.trace_data.specs.declared.trace.DirEntry.{DirEntry}
use Rattle.trace_data.specs.declared.trace.Object.{Object}
use Rattle.trace_data.specs.declared.trace.Trace.{Trace}
use Rattle.trace_data.specs.Histories.{listed_of, holds_of, object_of, server_at, history_of}
use Rattle.trace_claims.specs.declared.changes.Made.{Made}
use Rattle.trace_claims.specs.declared.touched.Foreign as changed
use Rattle.trace_claims.specs.declared.touched.Reach.TheVariants.{Range, Past}
use Rattle.trace_claims.specs.Changes.{is_set, cut_from, file_change, is_made, size_of, made_as, made_by, entries_of, listed_in, listed_at, cut_of, by_file, by_making, ChangesSo, ChangesUpTo}
use Rattle.trace_claims.specs.Objects.{object_of_trace}
use Rattle.trace_claims.specs.Touching.{changes, IsForeign, HasForeign}

-- ---- which calls make changes

some-change : (a b : changed.Foreign) → Some a ≡ Some b → a ≡ b
some-change a b e = cc

some-made : (a b : Made) → Some a ≡ Some b → a ≡ b
some-made a b e = cc

some-entry : (a b : DirEntry) → Some a ≡ Some b → a ≡ b
some-entry a b e = cc

-- the change that a size makes
cut-is : (n : ℕ) (f : List ℕ) (size : Option ℕ) (x : changed.Foreign) → cut_from n f size ≡ Some x → (s : ℕ) × (size ≡ Some s) × (x ≡ record { place = n; file = f; reach = Past s })
cut-is n f None x e = absurd cc
cut-is n f (Some s) x e = (s, refl, sym (some-change (record { place = n; file = f; reach = Past s }) x e))

-- the reply to a SETATTR that succeeded
set-reply : (reply : Reply) → is_set reply ≡ true → (wcc : Wcc) × (reply ≡ replies.File (files_kept.SetAttr wcc))
set-reply (replies.File (files_kept.SetAttr wcc)) t = (wcc, refl)
set-reply (replies.Dir kept) t = absurd (true≢false (sym t))
set-reply (replies.Mount reply) t = absurd (true≢false (sym t))
set-reply (replies.File kept) t = absurd (true≢false (sym t))

made-reply : (reply : Reply) → is_made reply ≡ true → (f : Option (List ℕ)) × (attr : Option Attr) × (wcc : Wcc) × (reply ≡ replies.Dir (dirs_kept.Create f attr wcc))
made-reply (replies.Dir (dirs_kept.Create f attr wcc)) t = (f, attr, wcc, refl)
made-reply (replies.File kept) t = absurd (true≢false (sym t))
made-reply (replies.Mount reply) t = absurd (true≢false (sym t))
made-reply (replies.Dir kept) t = absurd (true≢false (sym t))

if-some : {X : Type 0} (b : Bool) (o : Option X) (x : X) → (if b then o else None) ≡ Some x → (b ≡ true) × (o ≡ Some x)
if-some true o x e = (refl, e)
if-some false o x e = absurd cc

-- a change by a call on a file is one that the history tells of
file-told : (t : model.Server) (n : ℕ) (call : FileCall) (reply : Reply) (x : changed.Foreign) → file_change n call reply ≡ Some x → (x.place ≡ n) × ((i : ℕ) → changes x.reach i ≡ true → ChangesPlace t x.file i (calls.File call) reply)
file-told t n (files.Write f offset how bytes) reply x e =
    let is = some-change (record { place = n; file = f; reach = Range offset (offset + length bytes) }) x e in
    subst (λ (z : changed.Foreign). (z.place ≡ n) × ((i : ℕ) → changes z.reach i ≡ true → ChangesPlace t z.file i (calls.File (files.Write f offset how bytes)) reply)) is
    (refl, λ i c. let two = and_parts (nat_le offset i) (nat_lt i (offset + length bytes)) c in touching.writes offset how bytes refl (leb-true offset i two.0) (ltb-true i (offset + length bytes) two.1))
file-told t n (files.SetAttr f set guard) reply x e =
    let two = if-some (is_set reply) (cut_from n f set.size) x e in
    let cut = cut-is n f set.size x two.1 in
    let answered = set-reply reply two.0 in
    subst (λ (z : changed.Foreign). (z.place ≡ n) × ((i : ℕ) → changes z.reach i ≡ true → ChangesPlace t z.file i (calls.File (files.SetAttr f set guard)) reply)) (sym cut.2)
    (refl, λ i c. touching.sizes set cut.0 guard answered.0 refl answered.1 cut.1 (leb-true cut.0 i c))
file-told t n files.Null reply x e = absurd cc
file-told t n (files.GetAttr f) reply x e = absurd cc
file-told t n (files.Access f bits) reply x e = absurd cc
file-told t n (files.Read f offset count) reply x e = absurd cc
file-told t n (files.FsStat f) reply x e = absurd cc
file-told t n (files.FsInfo f) reply x e = absurd cc
file-told t n (files.PathConf f) reply x e = absurd cc
file-told t n (files.Commit f offset count) reply x e = absurd cc

-- ---- names

abbrev pub CreatesSo : DirCall → Reply → Made → Type 0
CreatesSo call reply made = (set : SetAttr) × (f : Option (List ℕ)) × (attr : Option Attr) × (wcc : Wcc) × (call ≡ dirs.Create made.dir made.name (makings.Unchecked set)) × (reply ≡ replies.Dir (dirs_kept.Create f attr wcc)) × (set.size ≡ Some made.size)

sized-told : (d name : List ℕ) (making : Making) (made : Made) → made_as d name (size_of making) ≡ Some made → (set : SetAttr) × (making ≡ makings.Unchecked set) × (made.dir ≡ d) × (made.name ≡ name) × (set.size ≡ Some made.size)
sized-told d name (makings.Unchecked set) made e = by set.size refl e
  where
    by : (size : Option ℕ) → set.size ≡ size → made_as d name size ≡ Some made → (its : SetAttr) × (makings.Unchecked set ≡ makings.Unchecked its) × (made.dir ≡ d) × (made.name ≡ name) × (its.size ≡ Some made.size)
    by None is e = absurd cc
    by (Some s) is e =
        let same = some-made (record { dir = d; name = name; size = s }) made e in
        (set, refl, sym (ap (λ (z : Made). z.dir) same), sym (ap (λ (z : Made). z.name) same), is ∙ ap (λ (z : Made). Some z.size) same)
sized-told d name (makings.Guarded set) made e = absurd cc
sized-told d name (makings.Exclusive verf) made e = absurd cc

made-told : (call : DirCall) (reply : Reply) (made : Made) → made_by call reply ≡ Some made → CreatesSo call reply made
made-told (dirs.Create d name making) reply made e =
    let two = if-some (is_made reply) (made_as d name (size_of making)) made e in
    let sized = sized-told d name making made two.1 in
    let answered = made-reply reply two.0 in
    (sized.0, answered.0, answered.1, answered.2, ap (λ (z : Making). dirs.Create d name z) sized.1 ∙ ap (λ (z : List ℕ). dirs.Create z name (makings.Unchecked sized.0)) (sym sized.2) ∙ ap (λ (z : List ℕ). dirs.Create made.dir z (makings.Unchecked sized.0)) (sym sized.3), answered.3, sized.4)
made-told (dirs.Lookup d name) reply made e = absurd cc
made-told (dirs.ReadLink f) reply made e = absurd cc
made-told (dirs.MkDir d name set) reply made e = absurd cc
made-told (dirs.SymLink d name set target) reply made e = absurd cc
made-told (dirs.MkNod d name node) reply made e = absurd cc
made-told (dirs.Remove d name) reply made e = absurd cc
made-told (dirs.RmDir d name) reply made e = absurd cc
made-told (dirs.Rename d old e2 new) reply made e = absurd cc
made-told (dirs.Link f d name) reply made e = absurd cc
made-told (dirs.ReadDir d cookie verf count) reply made e = absurd cc
made-told (dirs.ReadDirPlus d cookie verf dircount maxcount) reply made e = absurd cc

-- ---- directories

get-mapped : (es : List DirEntry) (j : ℕ) (e : DirEntry) → slice_get es j ≡ Some e → slice_get (map listed_of es) j ≡ Some (listed_of e)
get-mapped [] j e at = absurd cc
get-mapped (x ∷ es) zero e at = ap (λ (z : DirEntry). Some (listed_of z)) (some-entry x e at)
get-mapped (x ∷ es) (suc j) e at = get-mapped es j e at

got-mapped : (es : List DirEntry) (j : ℕ) (l : model.Listed) → slice_get (map listed_of es) j ≡ Some l → (e : DirEntry) × (slice_get es j ≡ Some e) × (listed_of e ≡ l)
got-mapped [] j l at = absurd cc
got-mapped (x ∷ es) zero l at = (x, refl, some-listed (listed_of x) l at)
  where
    some-listed : (a b : model.Listed) → Some a ≡ Some b → a ≡ b
    some-listed a b e = cc
got-mapped (x ∷ es) (suc j) l at = got-mapped es j l at

-- an entry of a directory that is there
abbrev pub NamedThere : Option Object → List ℕ → List ℕ → Type 0
NamedThere o name f = (j : ℕ) × (e : DirEntry) × (slice_get (listed_in o) j ≡ Some e) × (e.name ≡ name) × (e.object ≡ f)

listed-told : (t : Trace) (n : ℕ) (d name f : List ℕ) (j : ℕ) (e : DirEntry) → slice_get (listed_at t n d) j ≡ Some e → e.name ≡ name → e.object ≡ f → model.HasName (server_at t n) d name f
unfolding listed_at
listed-told t n d name f j e at named is = by (object_of_trace t n d) refl at
  where
    in_it : (x : Object) → object_of_trace t n d ≡ Some x → slice_get (listed_in (Some x)) j ≡ Some e → (g : Bool) → x.gone ≡ g → (c : Contents) → x.contents ≡ c → model.HasName (server_at t n) d name f
    in_it x there got true gone c is_c = let none : slice_get [] j ≡ Some e = subst (λ (b : Bool). slice_get (if b then [] else entries_of x.contents) j ≡ Some e) gone got in absurd cc
    in_it x there got false gone (File now stable) is_c =
        let none : slice_get [] j ≡ Some e = subst (λ (z : Contents). slice_get (entries_of z) j ≡ Some e) is_c (subst (λ (b : Bool). slice_get (if b then [] else entries_of x.contents) j ≡ Some e) gone got) in absurd cc
    in_it x there got false gone (Other text) is_c =
        let none : slice_get [] j ≡ Some e = subst (λ (z : Contents). slice_get (entries_of z) j ≡ Some e) is_c (subst (λ (b : Bool). slice_get (if b then [] else entries_of x.contents) j ≡ Some e) gone got) in absurd cc
    in_it x there got false gone (Directory entries) is_c =
        let at_e : slice_get entries.items j ≡ Some e = subst (λ (z : Contents). slice_get (entries_of z) j ≡ Some e) is_c (subst (λ (b : Bool). slice_get (if b then [] else entries_of x.contents) j ≡ Some e) gone got) in
        record {
          names = record {
            dir = object_of x;
            entries = map listed_of entries.items;
            cookie = e.cookie;
            is = ap (option_map object_of) there;
            holds = ap holds_of is_c;
            listed = (j, get-mapped entries.items j e at_e ∙ (rw (named, is) refl));
          };
          there = gone;
        }

    by : (o : Option Object) → object_of_trace t n d ≡ o → slice_get (listed_in o) j ≡ Some e → model.HasName (server_at t n) d name f
    by None there got = absurd cc
    by (Some x) there got = in_it x there got x.gone refl x.contents refl

listed-shown : (t : Trace) (n : ℕ) (d name f : List ℕ) → model.HasName (server_at t n) d name f → NamedThere (object_of_trace t n d) name f
listed-shown t n d name f h = by (object_of_trace t n d) h.names.is
  where
    same-object : (a b : model.Object) → Some a ≡ Some b → a ≡ b
    same-object a b e = cc

    lists : (a b : List model.Listed) → model.Entries a ≡ model.Entries b → a ≡ b
    lists a b e = cc

    in_it : (x : Object) (c : Contents) → x.contents ≡ c → holds_of x.contents ≡ model.Entries h.names.entries
        → (j : ℕ) × (e : DirEntry) × (slice_get (entries_of x.contents) j ≡ Some e) × (e.name ≡ name) × (e.object ≡ f)
    in_it x (File now stable) is holds = let other = sym (ap holds_of is) ∙ holds in absurd cc
    in_it x (Other text) is holds = let other = sym (ap holds_of is) ∙ holds in absurd cc
    in_it x (Directory entries) is holds =
        let all = lists (map listed_of entries.items) h.names.entries (sym (ap holds_of is) ∙ holds) in
        let at = h.names.listed in
        let got = got-mapped entries.items at.0 (record { name = name; object = f; cookie = h.names.cookie }) (subst (λ (l : List model.Listed). slice_get l at.0 ≡ Some (record { name = name; object = f; cookie = h.names.cookie })) (sym all) at.1) in
        (at.0, got.0, subst (λ (z : Contents). slice_get (entries_of z) at.0 ≡ Some got.0) (sym is) got.1, ap (λ (z : model.Listed). z.name) got.2, ap (λ (z : model.Listed). z.object) got.2)

    by : (o : Option Object) → option_map object_of o ≡ Some h.names.dir → NamedThere o name f
    by None e = absurd cc
    by (Some x) e =
        let same = same-object (object_of x) h.names.dir e in
        let gone : x.gone ≡ false = ap (λ (z : model.Object). z.gone) same ∙ h.there in
        let holds : holds_of x.contents ≡ model.Entries h.names.entries = ap (λ (z : model.Object). z.holds) same ∙ h.names.holds in
        let it = in_it x x.contents refl holds in
        (it.0, it.1, subst (λ (b : Bool). slice_get (if b then [] else entries_of x.contents) it.0 ≡ Some it.1) (sym gone) it.2, it.3, it.4)

-- ---- all changes

change-told : (t : Trace) (n : ℕ) (x : changed.Foreign) → ChangesSo t n x → (x.place ≡ n) × IsForeign (history_of t) x
change-told t n x (by_file call reply at e) =
    let told = file-told (server_at t (suc n)) n call reply x e in (
      told.0,
      record {
        call = calls.File call;
        reply = reply;
        at = subst (λ (z : ℕ). At t.entries.items z (Foreign (calls.File call) reply)) (sym told.0) at;
        changes_it = λ i c. subst (λ (z : ℕ). ChangesPlace (server_at t (suc z)) x.file i (calls.File call) reply) (sym told.0) (told.1 i c);
      },
    )
change-told t n x (by_making call reply made j e at is there cut) =
    let two = if-some (bytes_eq e.name made.name) (cut_from n e.object (Some made.size)) x cut in
    let name_is = (bytes_eq-Decides e.name made.name).0 two.0 in
    let reach = cut-is n e.object (Some made.size) x two.1 in
    let so = made-told call reply made is in
    let place_is : x.place ≡ n = ap (λ (z : changed.Foreign). z.place) reach.2 in
    let file_is : x.file ≡ e.object = ap (λ (z : changed.Foreign). z.file) reach.2 in
    let has : model.HasName (server_at t (suc n)) made.dir made.name e.object =
    subst (λ (k : ℕ). model.HasName (server_at t k) made.dir made.name e.object) (add-one n) (listed-told t (n + 1) made.dir made.name e.object j e there name_is refl) in (
      place_is,
      record {
        call = calls.Dir call;
        reply = reply;
        at = subst (λ (z : ℕ). At t.entries.items z (Foreign (calls.Dir call) reply)) (sym place_is) at;
        changes_it = λ i c.
            let low : made.size ≤ i = leb-true made.size i (subst (λ (z : changed.Foreign). changes z.reach i ≡ true) (reach.2 ∙ ap (λ (s : ℕ). record { place = n; file = e.object; reach = Past s }) (some-size reach.0 made.size (sym reach.1))) c) in
            subst (λ (z : ℕ). ChangesPlace (server_at t (suc z)) x.file i (calls.Dir call) reply) (sym place_is)
            (subst (λ (z : List ℕ). ChangesPlace (server_at t (suc n)) z i (calls.Dir call) reply) (sym file_is)
            (touching.makes made.dir made.name so.0 made.size so.1 so.2 so.3 (ap (λ (z : DirCall). calls.Dir z) so.4) so.5 has so.6 low));
      },
    )
  where
    some-size : (a b : ℕ) → Some a ≡ Some b → a ≡ b
    some-size a b e = cc

set-shown : (n : ℕ) (f : List ℕ) (set : SetAttr) (size : ℕ) (wcc : Wcc) (reply : Reply) → reply ≡ replies.File (files_kept.SetAttr wcc) → set.size ≡ Some size
    → (if is_set reply then cut_from n f set.size else None) ≡ Some (record { place = n; file = f; reach = Past size })
set-shown n f set size wcc reply is sized = rw (is, sized) refl

made-shown : (d name : List ℕ) (set : SetAttr) (size : ℕ) (f : Option (List ℕ)) (attr : Option Attr) (wcc : Wcc) (reply : Reply) → reply ≡ replies.Dir (dirs_kept.Create f attr wcc) → set.size ≡ Some size
    → (if is_made reply then made_as d name set.size else None) ≡ Some (record { dir = d; name = name; size = size })
made-shown d name set size f attr wcc reply is sized = rw (is, sized) refl

listed-there : (t : Trace) (n : ℕ) (d : List ℕ) (j : ℕ) (e : DirEntry) → slice_get (listed_in (object_of_trace t n d)) j ≡ Some e → slice_get (listed_at t n d) j ≡ Some e
unfolding listed_at
listed-there t n d j e at = at

cut-shown : (e : DirEntry) (n : ℕ) (d name f : List ℕ) (size : ℕ) → e.name ≡ name → e.object ≡ f → cut_of e n (record { dir = d; name = name; size = size }) ≡ Some (record { place = n; file = f; reach = Past size })
cut-shown e n d name f size named is = let t : bytes_eq e.name name ≡ true = (bytes_eq-Decides e.name name).1 named in rw (t, is) refl

-- what the history tells of is a change
abbrev pub ChangedAt : Trace → ℕ → List ℕ → ℕ → Type 0
ChangedAt t n f i = (x : changed.Foreign) × ChangesSo t n x × (x.place ≡ n) × (x.file ≡ f) × (changes x.reach i ≡ true)

change-shown : (t : Trace) (n : ℕ) (call : Call) (reply : Reply) (f : List ℕ) (i : ℕ) → At t.entries.items n (Foreign call reply) → ChangesPlace (server_at t (suc n)) f i call reply → ChangedAt t n f i
change-shown t n call reply f i at (touching.writes offset how bytes is low high) = (
  record { place = n; file = f; reach = Range offset (offset + length bytes) },
  by_file (files.Write f offset how bytes) reply (subst (λ (z : Call). At t.entries.items n (Foreign z reply)) is at) refl,
  refl,
  refl,
  and_from (nat_le offset i) (nat_lt i (offset + length bytes)) (le-leb offset i low) (lt-ltb i (offset + length bytes) high),
)
change-shown t n call reply f i at (touching.sizes set size guard wcc is answered sized low) = (
  record { place = n; file = f; reach = Past size },
  by_file (files.SetAttr f set guard) reply (subst (λ (z : Call). At t.entries.items n (Foreign z reply)) is at) (set-shown n f set size wcc reply answered sized),
  refl,
  refl,
  le-leb size i low,
)
change-shown t n call reply f i at (touching.makes d name set size file attr wcc is answered named sized low) =
    let has = listed-shown t (n + 1) d name f (subst (λ (k : ℕ). model.HasName (server_at t k) d name f) (sym (add-one n)) named) in (
      record { place = n; file = f; reach = Past size },
      by_making (dirs.Create d name (makings.Unchecked set)) reply (record { dir = d; name = name; size = size }) has.0 has.1 (subst (λ (z : Call). At t.entries.items n (Foreign z reply)) is at)
          (made-shown d name set size file attr wcc reply answered sized) (listed-there t (n + 1) d has.0 has.1 has.2) (cut-shown has.1 n d name f size has.3 has.4),
      refl,
      refl,
      le-leb size i low,
    )

pub foreign-all : (t : Trace) (cs : List changed.Foreign) → ChangesUpTo t (length t.entries.items) cs → HasForeign (history_of t) cs
foreign-all t cs all = record {
  each = λ k c at. let it = all.each k c at in (change-told t it.0 c it.2).1;
  every = λ n call reply f i at change.
      let x = change-shown t n call reply f i at change in
      let k = all.every n x.0 (At-below t.entries.items n (Foreign call reply) at) x.1 in
      (k.0, x.0, k.1, x.2, x.3, x.4);
}
