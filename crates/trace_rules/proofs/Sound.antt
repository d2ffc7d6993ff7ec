-- The tests decide whether each moment of a trace is a server.
use Rattle.std.proofs.Common.{◌≡◌, ◌≢◌, ◌<◌, ◌≤◌, ◌==◌, ℕ, zero, suc, Bool, true, List, [], ◌∷◌, length, map, Option, Some, None, refl, sym, ◌∙◌, ap, subst, arith}
use Rattle.std.specs.Prelude.{Decides, ◌&&◌, not, nat_le, All}
use Rattle.std.specs.Option.{option_map}
use Rattle.std.proofs.lemmas.Bool.{leb-true, le-leb}
use Rattle.std.proofs.lemmas.Bool.Decides.{Decides-like, Decides-and, Decides-not, Decides-eqb, Decides-by_and}
use Rattle.world_model.specs.Server as model
use Rattle.trace_data.specs.declared.trace.DirEntry.{DirEntry}
use Rattle.trace_data.specs.declared.trace.Contents.{Contents}
use Rattle.trace_data.specs.declared.trace.Contents.TheVariants.{File, Directory, Other}
use Rattle.trace_data.specs.declared.trace.Object.{Object}
use Rattle.trace_data.specs.declared.trace.Updated.{Updated}
use Rattle.trace_data.specs.declared.trace.Update.{Update}
use Rattle.trace_data.specs.declared.trace.Trace.{Trace}
use Rattle.trace_data.specs.Histories.{listed_of, holds_of, object_of, named, objects_after, or_else, object_at, server_at}
use Rattle.trace_rules.specs.Soundness.{have_cookies, may_hold, is_sound, if_sound, sound_under, sound_at, sound_all, sound_updates, sound_server}
use Rattle.trace_rules.proofs.Below.{all_below-decides}
use Rattle.trace_rules.proofs.Combining.{always}
use Rattle.trace_rules.proofs.Naming.{named-decides, either}

-- ---- one object

-- the cookie of an entry is 1 or more
abbrev pub HasCookie : model.Listed → Type 0
HasCookie e = 1 ≤ e.cookie

counts : (n : ℕ) → Decides (not (n == 0)) (1 ≤ n)
counts n = Decides-like (not (n == 0)) (λ d. above n d) (λ (le : 1 ≤ n) e. omega (arith, le, e)) (Decides-not (n == 0) (Decides-eqb n 0))
  where
    above : (n : ℕ) → (n ≡ 0 → ⊥) → 1 ≤ n
    above zero d = absurd (d refl)
    above (suc n) d = omega arith

abbrev all_cookies : List model.Listed → Bool
all_cookies [] = true
all_cookies (e ∷ es) = not (e.cookie == 0) && all_cookies es

listed-cookies : (es : List DirEntry) → have_cookies es ≡ all_cookies (map listed_of es)
listed-cookies [] = refl
listed-cookies (e ∷ es) = ap (λ z. not (e.cookie == 0) && z) (listed-cookies es)

cookies-decides : (es : List DirEntry) → Decides (have_cookies es) (All HasCookie (map listed_of es))
cookies-decides es = subst (λ (b : Bool). Decides b (All HasCookie (map listed_of es))) (sym (listed-cookies es)) (Decides-by_and (λ (e : model.Listed). not (e.cookie == 0)) HasCookie all_cookies (λ e. counts e.cookie) refl (λ e more. refl) (map listed_of es))

-- what IsSound says of an object of that kind and size, by what it holds
abbrev pub MayHold : ℕ → ℕ → model.Holds → Type 0
MayHold kind size (model.Bytes now stable) = ((kind ≡ 1) × (size ≡ length now)) × (length stable ≤ length now)
MayHold kind size (model.Entries entries) = (kind ≡ 2) × All HasCookie entries
MayHold kind size (model.Text text) = (kind ≢ 1) × (kind ≢ 2)

le-decides : (a b : ℕ) → Decides (nat_le a b) (a ≤ b)
le-decides a b = (leb-true a b, le-leb a b)

may-decides : (kind size : ℕ) (c : Contents) → Decides (may_hold kind size c) (MayHold kind size (holds_of c))
may-decides kind size (File now stable) =
    Decides-and ((kind == 1) && (size == length now)) (nat_le (length stable) (length now))
    (Decides-and (kind == 1) (size == length now) (Decides-eqb kind 1) (Decides-eqb size (length now))) (le-decides (length stable) (length now))
may-decides kind size (Directory entries) = Decides-and (kind == 2) (have_cookies entries.items) (Decides-eqb kind 2) (cookies-decides entries.items)
may-decides kind size (Other text) = Decides-and (not (kind == 1)) (not (kind == 2)) (Decides-not (kind == 1) (Decides-eqb kind 1)) (Decides-not (kind == 2) (Decides-eqb kind 2))

sounds : (o : model.Object) (h : model.Holds) → o.holds ≡ h → MayHold o.attr.kind o.attr.size h → model.IsSound o
sounds o (model.Bytes now stable) e w = model.IsSound.file now stable e w.0.0 w.0.1 w.1
sounds o (model.Entries entries) e w = model.IsSound.directory entries e w.0 w.1
sounds o (model.Text text) e w = model.IsSound.other text e w.0 w.1

holds-so : (o : model.Object) → model.IsSound o → MayHold o.attr.kind o.attr.size o.holds
holds-so o (model.IsSound.file now stable e kind size le) = rw e ((kind, size), le)
holds-so o (model.IsSound.directory entries e kind cookies) = rw e (kind, cookies)
holds-so o (model.IsSound.other text e file dir) = rw e (file, dir)

pub sound-decides : (o : Object) → Decides (is_sound o) (model.IsSound (object_of o))
unfolding is_sound
sound-decides o = Decides-like (may_hold o.attr.kind o.attr.size o.contents) (λ w. sounds (object_of o) (holds_of o.contents) refl w) (λ w. holds-so (object_of o) w) (may-decides o.attr.kind o.attr.size o.contents)

-- ---- the objects that are named

-- if the object is there, it is sound
abbrev pub IfSound : Option Object → Type 0
IfSound x = (o : Object) → x ≡ Some o → model.IsSound (object_of o)

if-decides : (x : Option Object) → Decides (if_sound x) (IfSound x)
if-decides None = always (λ o e. absurd (cc))
if-decides (Some p) = Decides-like (is_sound p) (λ w o e. subst (λ (z : Object). model.IsSound (object_of z)) (same p o e) w) (λ w. w p refl) (sound-decides p)
  where
    same : (p o : Object) → Some p ≡ Some o → p ≡ o
    same p o e = cc

under-decides : (objects : List Updated) (f : List ℕ) → Decides (sound_under objects f) (IfSound (named objects f))
unfolding sound_under
under-decides objects f = if-decides (named objects f)

pub all-sound : (objects : List Updated) → Decides (sound_all objects) ((f : List ℕ) → IfSound (named objects f))
unfolding sound_all sound_at
all-sound objects = named-decides (λ f. sound_under objects f) (λ f. IfSound (named objects f)) (λ f. under-decides objects f) objects (λ f none o e. let q : None ≡ Some o = sym none ∙ e in absurd (cc))

updates-sound : (us : List Update) (count : ℕ) → Decides (sound_updates us count) ((n : ℕ) → n < count → (f : List ℕ) → IfSound (named (objects_after us n) f))
unfolding sound_updates
updates-sound us count = all_below-decides (λ n. sound_all (objects_after us n)) (λ n. (f : List ℕ) → IfSound (named (objects_after us n) f)) (λ n. all-sound (objects_after us n)) count

-- ---- each moment

-- the object under each handle at that moment is sound
abbrev pub SoundAt : List Updated → List Update → ℕ → Type 0
SoundAt start us n = (f : List ℕ) → IfSound (object_at start us n f)

so-far : (start : List Updated) (us : List Update) (count : ℕ) → ((f : List ℕ) → IfSound (named start f)) → ((n : ℕ) → n < count → (f : List ℕ) → IfSound (named (objects_after us n) f)) → (n : ℕ) → n ≤ count → SoundAt start us n
so-far start us count first each zero le f o e = first f o e
so-far start us count first each (suc n) le f o e =
    either (model.IsSound (object_of o)) (named (objects_after us n) f) (object_at start us n f) o e
    (λ here. each n (omega (arith, le)) f o here)
    (λ was. so-far start us count first each n (omega (arith, le)) f o was)

server-of : (x : Option Object) → IfSound x → (o : model.Object) → option_map object_of x ≡ Some o → model.IsSound o
server-of None s o e = absurd (cc)
server-of (Some p) s o e = subst (λ (z : model.Object). model.IsSound z) (same (object_of p) o e) (s p refl)
  where
    same : (a b : model.Object) → Some a ≡ Some b → a ≡ b
    same a b e = cc

-- each moment up to the last is a server
abbrev pub Servers : Trace → Type 0
Servers t = (n : ℕ) → n ≤ length t.entries.items → model.IsServer (server_at t n)

pub servers-decides : (t : Trace) → Decides (sound_server t.start.objects.items t.updates.items (length t.entries.items)) (Servers t)
unfolding sound_server
servers-decides t =
    Decides-like (sound_all t.start.objects.items && sound_updates t.updates.items (length t.entries.items))
    (λ w n le f o e. server-of (object_at t.start.objects.items t.updates.items n f) (so-far t.start.objects.items t.updates.items (length t.entries.items) w.0 w.1 n le f) o e)
    (λ (w : Servers t). (
      λ f o e. w zero (omega arith) f (object_of o) (ap (option_map object_of) e),
      λ n below f o e. w (suc n) (omega (arith, below)) f (object_of o) (ap (λ z. option_map object_of (or_else z (object_at t.start.objects.items t.updates.items n f))) e),
    ))
    (Decides-and (sound_all t.start.objects.items) (sound_updates t.updates.items (length t.entries.items)) (all-sound t.start.objects.items) (updates-sound t.updates.items (length t.entries.items)))
