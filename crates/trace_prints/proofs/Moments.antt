-- What is told of the server at each moment, as lines add entries and change it.
use Rattle.std.proofs.Common.{◌≡◌, ◌<◌, ◌≤◌, ◌+◌, ◌⊎◌, inl, inr, ℕ, List, [], ◌∷◌, ◌++◌, length, Bool, Option, Some, refl, sym, ap, ◌∙◌, subst, arith, length-append}
use Rattle.std.specs.Prelude.{if◌then◌else◌}
use Rattle.std.specs.Str.{bytes_eq}
use Rattle.std.proofs.lemmas.Bool.{cases_lt, lt-ltb, le-ltb}
use Rattle.nfs_types.specs.declared.verf.Verf.{Verf}
use Rattle.world_model.specs.declared.entry.Entry.{Entry}
use Rattle.world_model.specs.Server.{Object, Server}
use Rattle.trace_text.specs.Objects.{with_object, with_verf}
use Rattle.trace_text.specs.Told.{Told, added, begun, changed, object_now}

-- one server is another, object by object
pub record Alike (one other : Server) : Type 0 where
  pub verf : one.verf ≡ other.verf
  pub object : (h : List ℕ) → one.object h ≡ other.object h

-- These entries were told, with the server of each moment before the last; from then on it has this verifier and these objects.
pub record IsAt (told : Told) (es : List Entry) (past : ℕ → Server) (verf : Verf) (now : List ℕ → Option Object) : Type 0 where
  pub entries : told.history.entries ≡ es
  pub before : (m : ℕ) → m < length es → Alike (told.history.at m) (past m)
  pub verf_now : (m : ℕ) → length es ≤ m → (told.history.at m).verf ≡ verf
  pub objects : (m : ℕ) → length es ≤ m → (h : List ℕ) → (told.history.at m).object h ≡ now h

-- what was said before the first entry stays
pub record SameHead (told new : Told) : Type 0 where
  pub root : new.root ≡ told.root
  pub lives : new.lives ≡ told.lives
  pub noac : new.noac ≡ told.noac
  pub nocto : new.nocto ≡ told.nocto

pub head-same : (told : Told) → SameHead told told
head-same told = record { root = refl; lives = refl; noac = refl; nocto = refl }

pub head-then : (a b c : Told) → SameHead a b → SameHead b c → SameHead a c
head-then a b c s t = record { root = t.root ∙ s.root; lives = t.lives ∙ s.lives; noac = t.noac ∙ s.noac; nocto = t.nocto ∙ s.nocto }

-- the objects with another one under a handle
abbrev pub put-now : List ℕ → Object → (List ℕ → Option Object) → List ℕ → Option Object
put-now handle object now h = if bytes_eq handle h then Some object else now h

module _ (told : Told) (es : List Entry) (past : ℕ → Server) (verf : Verf) (now : List ℕ → Option Object) (at : IsAt told es past verf now) where
  pub now-is : (h : List ℕ) → object_now told h ≡ now h
  now-is h =
      let same : length told.history.entries ≡ length es = ap length at.entries in
      at.objects (length told.history.entries) (omega (arith, same)) h

  early : (change : Server → Server) (m : ℕ) → m < length es → (changed change told).history.at m ≡ told.history.at m
  early change m lt =
      let same : length told.history.entries ≡ length es = ap length at.entries in
      ap (λ (t : Bool). if t then told.history.at m else change (told.history.at m)) (lt-ltb m (length told.history.entries) (omega (arith, same, lt)))

  late : (change : Server → Server) (m : ℕ) → length es ≤ m → (changed change told).history.at m ≡ change (told.history.at m)
  late change m le =
      let same : length told.history.entries ≡ length es = ap length at.entries in
      ap (λ (t : Bool). if t then told.history.at m else change (told.history.at m)) (le-ltb m (length told.history.entries) (omega (arith, same, le)))

  pub at-object : (handle : List ℕ) (object : Object) → IsAt (begun (changed (with_object handle object) told)) es past verf (put-now handle object now)
  at-object handle object = record {
    entries = at.entries;
    before = λ m lt. subst (λ (s : Server). Alike s (past m)) (sym (early (with_object handle object) m lt)) (at.before m lt);
    verf_now = λ m le. ap (λ (s : Server). s.verf) (late (with_object handle object) m le) ∙ at.verf_now m le;
    objects = λ m le h. ap (λ (s : Server). s.object h) (late (with_object handle object) m le)
        ∙ ap (λ (o : Option Object). if bytes_eq handle h then Some object else o) (at.objects m le h);
  }

  pub at-verf : (other : Verf) → IsAt (begun (changed (with_verf other) told)) es past other now
  at-verf other = record {
    entries = at.entries;
    before = λ m lt. subst (λ (s : Server). Alike s (past m)) (sym (early (with_verf other) m lt)) (at.before m lt);
    verf_now = λ m le. ap (λ (s : Server). s.verf) (late (with_verf other) m le);
    objects = λ m le h. ap (λ (s : Server). s.object h) (late (with_verf other) m le) ∙ at.objects m le h;
  }

  -- an entry more, where the server so far is that of this moment
  pub at-entry : (entry : Entry) → verf ≡ (past (length es)).verf → ((h : List ℕ) → now h ≡ (past (length es)).object h) → IsAt (begun (added entry told)) (es ++ entry ∷ []) past verf now
  at-entry entry v o = record {
    entries = ap (λ (k : List Entry). k ++ entry ∷ []) at.entries;
    before = λ m lt. past-is m (cases_lt m (length es)) (omega (arith, lt, longer));
    verf_now = λ m le. at.verf_now m (omega (arith, le, longer));
    objects = λ m le h. at.objects m (omega (arith, le, longer)) h;
  }
    where
      longer : length (es ++ entry ∷ []) ≡ length es + 1
      longer = length-append es (entry ∷ [])

      past-is : (m : ℕ) → (m < length es) ⊎ (length es ≤ m) → m ≤ length es → Alike (told.history.at m) (past m)
      past-is m (inl lt) le = at.before m lt
      past-is m (inr ge) le =
          let e : m ≡ length es = omega (arith, ge, le) in
          record {
            verf = at.verf_now m ge ∙ v ∙ ap (λ (k : ℕ). (past k).verf) (sym e);
            object = λ h. at.objects m ge h ∙ o h ∙ ap (λ (k : ℕ). (past k).object h) (sym e);
          }

  -- the same objects by another account
  pub at-as : (other : List ℕ → Option Object) → ((h : List ℕ) → now h ≡ other h) → IsAt told es past verf other
  at-as other e = record { entries = at.entries; before = at.before; verf_now = at.verf_now; objects = λ m le h. at.objects m le h ∙ e h }
