-- The tests decide whether an entry leaves the server as it was.
use Rattle.std.proofs.Common.{◌≡◌, ◌==◌, ℕ, suc, Bool, true, false, true≢false, List, map, Option, Some, None, slice_get, refl, sym, ap}
use Rattle.std.specs.Prelude.{Decides, ◌&&◌}
use Rattle.std.specs.Option.{option_map}
use Rattle.std.specs.Str.{bytes_eq}
use Rattle.std.proofs.lemmas.Bool.Decides.{Decides-like, Decides-and, Decides-eqb}
use Rattle.std.proofs.lemmas.Slice.Eq.{bytes_eq-Decides}
use Rattle.nfs_types.specs.declared.attr.Attr.{Attr}
use Rattle.nfs_types.specs.declared.verf.Verf.{Verf}
use Rattle.nfs_types.specs.Stamps.{same_time}
use Rattle.world_model.specs.Server as model
use Rattle.world_model.specs.Steps.{Same}
use Rattle.trace_data.specs.declared.trace.Contents.{Contents}
use Rattle.trace_data.specs.declared.trace.Contents.TheVariants.{File, Directory, Other}
use Rattle.trace_data.specs.declared.trace.Object.{Object}
use Rattle.trace_data.specs.declared.trace.Updated.{Updated}
use Rattle.trace_data.specs.declared.trace.Update.{Update}
use Rattle.trace_data.specs.declared.trace.Trace.{Trace}
use Rattle.trace_data.specs.Histories.{listed_of, holds_of, object_of, named, objects_after, or_else, object_at, verf_or, verf_at, server_at}
use Rattle.trace_rules.specs.Freshness.{same_entries}
use Rattle.trace_rules.specs.Keeping.{same_owner, same_attr, same_bool, same_contents, same_object, is_kept, keeps, keeps_at, keeps_all, is_verf, keeps_verf, keeps_server}
use Rattle.trace_rules.proofs.Combining.{always, never}
use Rattle.trace_rules.proofs.Naming.{named-decides, time-decides}
use Rattle.trace_rules.proofs.Changing.{entries-decides}

-- ---- equal attributes

abbrev SameOwner : Attr → Attr → Type 0
SameOwner a b = ((((((a.kind ≡ b.kind) × (a.mode ≡ b.mode)) × (a.nlink ≡ b.nlink)) × (a.uid ≡ b.uid)) × (a.gid ≡ b.gid)) × (a.size ≡ b.size)) × (a.used ≡ b.used)

owner-decides : (a b : Attr) → Decides (same_owner a b) (SameOwner a b)
owner-decides a b = Decides-and ((a.kind == b.kind) && (a.mode == b.mode) && (a.nlink == b.nlink) && (a.uid == b.uid) && (a.gid == b.gid) && (a.size == b.size)) ((a.used == b.used)) (Decides-and ((a.kind == b.kind) && (a.mode == b.mode) && (a.nlink == b.nlink) && (a.uid == b.uid) && (a.gid == b.gid)) ((a.size == b.size)) (Decides-and ((a.kind == b.kind) && (a.mode == b.mode) && (a.nlink == b.nlink) && (a.uid == b.uid)) ((a.gid == b.gid)) (Decides-and ((a.kind == b.kind) && (a.mode == b.mode) && (a.nlink == b.nlink)) ((a.uid == b.uid)) (Decides-and ((a.kind == b.kind) && (a.mode == b.mode)) ((a.nlink == b.nlink)) (Decides-and ((a.kind == b.kind)) ((a.mode == b.mode)) (Decides-eqb a.kind b.kind) (Decides-eqb a.mode b.mode)) (Decides-eqb a.nlink b.nlink)) (Decides-eqb a.uid b.uid)) (Decides-eqb a.gid b.gid)) (Decides-eqb a.size b.size)) (Decides-eqb a.used b.used)

pub attr-decides : (a b : Attr) → Decides (same_attr a b) (a ≡ b)
unfolding same_attr
attr-decides a b =
    Decides-like (same_owner a b && (a.rdev_major == b.rdev_major) && (a.rdev_minor == b.rdev_minor) && (a.fsid == b.fsid) && (a.fileid == b.fileid) && same_time a.atime b.atime && same_time a.mtime b.mtime && same_time a.ctime b.ctime)
    (λ w i. record { kind = w.0.0.0.0.0.0.0.0.0.0.0.0.0 i; mode = w.0.0.0.0.0.0.0.0.0.0.0.0.1 i; nlink = w.0.0.0.0.0.0.0.0.0.0.0.1 i; uid = w.0.0.0.0.0.0.0.0.0.0.1 i; gid = w.0.0.0.0.0.0.0.0.0.1 i; size = w.0.0.0.0.0.0.0.0.1 i; used = w.0.0.0.0.0.0.0.1 i; rdev_major = w.0.0.0.0.0.0.1 i; rdev_minor = w.0.0.0.0.0.1 i; fsid = w.0.0.0.0.1 i; fileid = w.0.0.0.1 i; atime = w.0.0.1 i; mtime = w.0.1 i; ctime = w.1 i })
    (λ e. (((((((((((((ap (λ (z : Attr). z.kind) e, ap (λ (z : Attr). z.mode) e), ap (λ (z : Attr). z.nlink) e), ap (λ (z : Attr). z.uid) e), ap (λ (z : Attr). z.gid) e), ap (λ (z : Attr). z.size) e), ap (λ (z : Attr). z.used) e), ap (λ (z : Attr). z.rdev_major) e), ap (λ (z : Attr). z.rdev_minor) e), ap (λ (z : Attr). z.fsid) e), ap (λ (z : Attr). z.fileid) e), ap (λ (z : Attr). z.atime) e), ap (λ (z : Attr). z.mtime) e), ap (λ (z : Attr). z.ctime) e))
    (Decides-and (same_owner a b && (a.rdev_major == b.rdev_major) && (a.rdev_minor == b.rdev_minor) && (a.fsid == b.fsid) && (a.fileid == b.fileid) && same_time a.atime b.atime && same_time a.mtime b.mtime) (same_time a.ctime b.ctime) (Decides-and (same_owner a b && (a.rdev_major == b.rdev_major) && (a.rdev_minor == b.rdev_minor) && (a.fsid == b.fsid) && (a.fileid == b.fileid) && same_time a.atime b.atime) (same_time a.mtime b.mtime) (Decides-and (same_owner a b && (a.rdev_major == b.rdev_major) && (a.rdev_minor == b.rdev_minor) && (a.fsid == b.fsid) && (a.fileid == b.fileid)) (same_time a.atime b.atime) (Decides-and (same_owner a b && (a.rdev_major == b.rdev_major) && (a.rdev_minor == b.rdev_minor) && (a.fsid == b.fsid)) ((a.fileid == b.fileid)) (Decides-and (same_owner a b && (a.rdev_major == b.rdev_major) && (a.rdev_minor == b.rdev_minor)) ((a.fsid == b.fsid)) (Decides-and (same_owner a b && (a.rdev_major == b.rdev_major)) ((a.rdev_minor == b.rdev_minor)) (Decides-and (same_owner a b) ((a.rdev_major == b.rdev_major)) (owner-decides a b) (Decides-eqb a.rdev_major b.rdev_major)) (Decides-eqb a.rdev_minor b.rdev_minor)) (Decides-eqb a.fsid b.fsid)) (Decides-eqb a.fileid b.fileid)) (time-decides a.atime b.atime)) (time-decides a.mtime b.mtime)) (time-decides a.ctime b.ctime))

-- ---- equal objects

pub bool-decides : (a b : Bool) → Decides (same_bool a b) (a ≡ b)
bool-decides true true = always refl
bool-decides true false = never (λ e. true≢false e)
bool-decides false true = never (λ e. true≢false (sym e))
bool-decides false false = always refl

pub now-of : (a b c d : List ℕ) → model.Bytes a b ≡ model.Bytes c d → a ≡ c
now-of a b c d e = cc

pub stable-of : (a b c d : List ℕ) → model.Bytes a b ≡ model.Bytes c d → b ≡ d
stable-of a b c d e = cc

list-of : (a b : List model.Listed) → model.Entries a ≡ model.Entries b → a ≡ b
list-of a b e = cc

text-of : (a b : List ℕ) → model.Text a ≡ model.Text b → a ≡ b
text-of a b e = cc

pub contents-decides : (c d : Contents) → Decides (same_contents c d) (holds_of c ≡ holds_of d)
contents-decides (File now stable) (File later steady) =
    Decides-like (bytes_eq now later && bytes_eq stable steady)
    (λ w i. model.Bytes (w.0 i) (w.1 i))
    (λ e. (now-of now stable later steady e, stable-of now stable later steady e))
    (Decides-and (bytes_eq now later) (bytes_eq stable steady) (bytes_eq-Decides now later) (bytes_eq-Decides stable steady))
contents-decides (File now stable) (Directory after) = never (λ e. cc)
contents-decides (File now stable) (Other later) = never (λ e. cc)
contents-decides (Directory before) (File later steady) = never (λ e. cc)
contents-decides (Directory before) (Directory after) =
    Decides-like (same_entries before.items after.items)
    (λ w. ap (λ z. model.Entries z) w)
    (λ e. list-of (map listed_of before.items) (map listed_of after.items) e)
    (entries-decides before.items after.items)
contents-decides (Directory before) (Other later) = never (λ e. cc)
contents-decides (Other text) (File later steady) = never (λ e. cc)
contents-decides (Other text) (Directory after) = never (λ e. cc)
contents-decides (Other text) (Other later) = Decides-like (bytes_eq text later) (λ w. ap (λ z. model.Text z) w) (λ e. text-of text later e) (bytes_eq-Decides text later)

pub object-decides : (a b : Object) → Decides (same_object a b) (object_of a ≡ object_of b)
unfolding same_object
object-decides a b =
    Decides-like (same_attr a.attr b.attr && same_bool a.gone b.gone && same_contents a.contents b.contents)
    (λ w i. record { attr = w.0.0 i; gone = w.0.1 i; holds = w.1 i })
    (λ e. ((ap (λ (z : model.Object). z.attr) e, ap (λ (z : model.Object). z.gone) e), ap (λ (z : model.Object). z.holds) e))
    (Decides-and (same_attr a.attr b.attr && same_bool a.gone b.gone) (same_contents a.contents b.contents)
    (Decides-and (same_attr a.attr b.attr) (same_bool a.gone b.gone) (attr-decides a.attr b.attr) (bool-decides a.gone b.gone)) (contents-decides a.contents b.contents))

-- ---- what an entry leaves

-- the object under the handle is after entry n what it was before
abbrev pub Keeps : List Updated → List Update → ℕ → List ℕ → Type 0
Keeps start us n f = option_map object_of (object_at start us (suc n) f) ≡ option_map object_of (object_at start us n f)

one : (a b : model.Object) → Some a ≡ Some b → a ≡ b
one a b e = cc

kept-decides : (x y : Option Object) → Decides (is_kept x y) (option_map object_of (or_else y x) ≡ option_map object_of x)
kept-decides None None = always refl
kept-decides (Some a) None = always refl
kept-decides None (Some b) = never (λ e. cc)
kept-decides (Some a) (Some b) = Decides-like (same_object a b) (λ e. ap (λ z. Some z) (sym e)) (λ e. sym (one (object_of b) (object_of a) e)) (object-decides a b)

pub keeps-decides : (start : List Updated) (us : List Update) (n : ℕ) (f : List ℕ) → Decides (keeps start us n f) (Keeps start us n f)
unfolding keeps
keeps-decides start us n f = kept-decides (object_at start us n f) (named (objects_after us n) f)

-- an object that isn't named stays what it was
pub unnamed-keeps : (start : List Updated) (us : List Update) (n : ℕ) (f : List ℕ) → named (objects_after us n) f ≡ None → Keeps start us n f
unnamed-keeps start us n f e = ap (λ z. option_map object_of (or_else z (object_at start us n f))) e

pub all-keep : (start : List Updated) (us : List Update) (n : ℕ) → Decides (keeps_all start us n) ((f : List ℕ) → Keeps start us n f)
unfolding keeps_all keeps_at
all-keep start us n = named-decides (λ f. keeps start us n f) (λ f. Keeps start us n f) (λ f. keeps-decides start us n f) (objects_after us n) (λ f e. unnamed-keeps start us n f e)

verf-by : (was : Verf) (o : Option Update) → Decides (is_verf was o) (verf_or o was ≡ was)
verf-by was None = always refl
verf-by was (Some u) = Decides-like (bytes_eq u.verf.0 was.0) (λ e i. record { 0 = e i }) (λ e. ap (λ (z : Verf). z.0) e) (bytes_eq-Decides u.verf.0 was.0)

pub verf-decides : (start : Verf) (us : List Update) (n : ℕ) → Decides (keeps_verf start us n) (verf_at start us (suc n) ≡ verf_at start us n)
unfolding keeps_verf
verf-decides start us n = verf-by (verf_at start us n) (slice_get us n)

pub same-decides : (t : Trace) (n : ℕ) → Decides (keeps_server t.start.verf t.start.objects.items t.updates.items n) (Same (server_at t n) (server_at t (suc n)))
unfolding keeps_server
same-decides t n =
    Decides-like (keeps_verf t.start.verf t.updates.items n && keeps_all t.start.objects.items t.updates.items n)
    (λ w. record { verf = w.0; object = w.1 })
    (λ (s : Same (server_at t n) (server_at t (suc n))). (s.verf, s.object))
    (Decides-and (keeps_verf t.start.verf t.updates.items n) (keeps_all t.start.objects.items t.updates.items n) (verf-decides t.start.verf t.updates.items n) (all-keep t.start.objects.items t.updates.items n))
