-- What the lines so far tell, as a line adds an entry or changes the server.
use Rattle.std.proofs.Common.{◌≡◌, ◌<◌, ◌≤◌, ◌⊎◌, inl, inr, ℕ, suc, List, [], ◌∷◌, ◌++◌, length, Bool, true, false, Option, Some, None, slice_get, slice_set, refl, sym, ap, ◌∙◌, arith}
use Rattle.std.specs.Prelude.{nat_lt, if◌then◌else◌}
use Rattle.std.specs.Str.{bytes_eq}
use Rattle.std.specs.Option.{option_map}
use Rattle.std.proofs.lemmas.Bool.{ltb-false}
use mathlib.Core.Path.{fun_ext}
use Rattle.nfs_types.specs.declared.verf.Verf.{Verf}
use Rattle.world_model.specs.declared.entry.Entry.{Entry}
use Rattle.world_model.specs.History.{no_server}
use Rattle.world_model.specs.Server.{Server}
use Rattle.world_model.specs.Server as model
use Rattle.trace_data.specs.declared.trace.Object.{Object}
use Rattle.trace_data.specs.declared.trace.Update.{Update}
use Rattle.trace_data.specs.declared.trace.Updated.{Updated}
use Rattle.trace_data.specs.Histories.{named, object_at, or_else, verf_at, object_of}
use Rattle.trace_text.specs.Objects.{with_object, with_verf}
use Rattle.trace_text.specs.Puts.{put_at}
use Rattle.trace_text.specs.Told.{Told, Lines, added, changed, nothing_told, server_by, told_by}
use Rattle.trace_text.proofs.Moments.{verf-added, object-added, verf-start, object-start, verf-before, object-before, verf-from, object-from, last-set}
use Rattle.trace_text.proofs.Putting.{named-put}

-- ---- equal servers and histories

same-server : (s t : Server) → s.verf ≡ t.verf → ((h : List ℕ) → s.object h ≡ t.object h) → s ≡ t
same-server s t verf object = ap (λ (v : Verf). record { verf = v; object = s.object }) verf ∙ ap (λ (o : List ℕ → Option model.Object). record { verf = t.verf; object = o }) (fun_ext object)

same-at : (t : Told) (f : ℕ → Server) → ((n : ℕ) → f n ≡ t.history.at n) → record t { history = record { entries = t.history.entries; at = f } } ≡ t
same-at t f same = ap (λ (at : ℕ → Server). record t { history = record { entries = t.history.entries; at = at } }) (fun_ext same)

-- ---- no line

none-found : (n : ℕ) (h : List ℕ) → option_map object_of (object_at [] [] n h) ≡ None
none-found n h = ap (option_map object_of) (object-start [] n h)

-- a start without objects, and no entries
pub told-nothing : (start : Update) (es : List Entry) (us : List Update) → start.verf ≡ no_server.verf → start.objects.items ≡ [] → es ≡ [] → us ≡ []
    → told_by (record { begun = false; root = None; lives = None; noac = false; nocto = false; start = start; entries = es; updates = us }) ≡ nothing_told
told-nothing start es us verf none e u = rw (e, u) (by verf none)
  where
    by : start.verf ≡ no_server.verf → start.objects.items ≡ []
        → told_by (record { begun = false; root = None; lives = None; noac = false; nocto = false; start = start; entries = []; updates = [] }) ≡ nothing_told
    by v n = same-at nothing_told (server_by start []) (λ m. same-server (server_by start [] m) no_server (verf-start start.verf m ∙ v)
        (λ h. ap (λ (os : List Updated). option_map object_of (object_at os [] m h)) n ∙ none-found m h))

-- ---- an entry more

pub told-added : (l : Lines) (e : Entry) (u : Update) → u.verf ≡ verf_at l.start.verf l.updates (length l.updates) → u.objects.items ≡ []
    → told_by (record l { entries = l.entries ++ e ∷ []; updates = l.updates ++ u ∷ [] }) ≡ added e (told_by l)
told-added l e u verf none = same-at (added e (told_by l)) (server_by l.start (l.updates ++ u ∷ []))
    (λ n. same-server (server_by l.start (l.updates ++ u ∷ []) n) (server_by l.start l.updates n) (verf-added l.start.verf l.updates u verf n)
    (λ h. ap (option_map object_of) (object-added l.start.objects.items l.updates u none n h)))

pub told-entry : (l : Lines) (es : List Entry) (us : List Update) (e : Entry) (u : Update) → es ≡ l.entries ++ e ∷ [] → us ≡ l.updates ++ u ∷ []
    → u.verf ≡ verf_at l.start.verf l.updates (length l.updates) → u.objects.items ≡ [] → told_by (record l { entries = es; updates = us }) ≡ added e (told_by l)
told-entry l es us e u is so verf none = rw (is, so) (told-added l e u verf none)

-- ---- another server from the last entry on

split : (n m : ℕ) → ((n < m) × (nat_lt n m ≡ true)) ⊎ ((m ≤ n) × (nat_lt n m ≡ false))
split n m = by (nat_lt n m) refl
  where
    by : (b : Bool) → nat_lt n m ≡ b → ((n < m) × (nat_lt n m ≡ true)) ⊎ ((m ≤ n) × (nat_lt n m ≡ false))
    by true e = inl (grind (arith, e), e)
    by false e = inr (ltb-false n m e, e)

-- a server that is the same before the last entry and changed from it on
pub told-changed : (l : Lines) (change : Server → Server) (start : Update) (updates : List Update)
    → ((n : ℕ) → n < length l.entries → server_by start updates n ≡ server_by l.start l.updates n)
    → ((n : ℕ) → length l.entries ≤ n → server_by start updates n ≡ change (server_by l.start l.updates n))
    → told_by (record l { start = start; updates = updates }) ≡ changed change (told_by l)
told-changed l change start updates before from = same-at (changed change (told_by l)) (server_by start updates) (λ n. at n)
  where
    at : (n : ℕ) → server_by start updates n ≡ (if nat_lt n (length l.entries) then server_by l.start l.updates n else change (server_by l.start l.updates n))
    at n = elim (split n (length l.entries)) [
      | inl lt ↦ rw lt.1 (before n lt.0)
      | inr ge ↦ rw ge.1 (from n ge.0)
    ]

found-put : (handle : List ℕ) (object : Object) (us : List Updated) (was : Option Object) (h : List ℕ)
    → option_map object_of (or_else (named (put_at handle object us) h) was) ≡ (if bytes_eq handle h then Some (object_of object) else option_map object_of (or_else (named us h) was))
found-put handle object us was h = ap (λ (o : Option Object). option_map object_of (or_else o was)) (named-put handle object us h) ∙ by (bytes_eq handle h)
  where
    by : (b : Bool) → option_map object_of (or_else (if b then Some object else named us h) was) ≡ (if b then Some (object_of object) else option_map object_of (or_else (named us h) was))
    by true = refl
    by false = refl

none-more : (o : Option Object) → or_else o None ≡ o
none-more None = refl
none-more (Some o) = refl

found-start : (handle : List ℕ) (object : Object) (us : List Updated) (h : List ℕ)
    → option_map object_of (named (put_at handle object us) h) ≡ (if bytes_eq handle h then Some (object_of object) else option_map object_of (named us h))
found-start handle object us h = ap (option_map object_of) (named-put handle object us h) ∙ by (bytes_eq handle h)
  where
    by : (b : Bool) → option_map object_of (if b then Some object else named us h) ≡ (if b then Some (object_of object) else option_map object_of (named us h))
    by true = refl
    by false = refl

-- ---- before the first entry

nothing-in : {X : Type 0} (xs : List X) → length xs ≡ 0 → xs ≡ []
nothing-in [] e = refl
nothing-in (x ∷ xs) e = absurd (omega (arith, e))

none-before : (n : ℕ) (es : List Entry) → length es ≡ 0 → n < length es → ⊥
none-before n es none lt = omega (arith, none, lt)

pub told-start-verf : (l : Lines) (v : Verf) → length l.updates ≡ 0 → length l.updates ≡ length l.entries
    → told_by (record l { start = record l.start { verf = v } }) ≡ changed (with_verf v) (told_by l)
told-start-verf l v none paired = told-changed l (with_verf v) (record l.start { verf = v }) l.updates (λ n lt. absurd (none-before n l.entries (sym paired ∙ none) lt))
    (λ n ge. same-server (server_by (record l.start { verf = v }) l.updates n) (with_verf v (server_by l.start l.updates n))
    (ap (λ (us : List Update). verf_at v us n) (nothing-in l.updates none) ∙ verf-start v n) (λ h. refl))

pub told-start-object : (l : Lines) (handle : List ℕ) (object : Object) (u : Update) → u.verf ≡ l.start.verf → u.objects.items ≡ put_at handle object l.start.objects.items
    → length l.updates ≡ 0 → length l.updates ≡ length l.entries → told_by (record l { start = u }) ≡ changed (with_object handle (object_of object)) (told_by l)
told-start-object l handle object u verf objects none paired = told-changed l (with_object handle (object_of object)) u l.updates
    (λ n lt. absurd (none-before n l.entries (sym paired ∙ none) lt))
    (λ n ge. same-server (server_by u l.updates n) (with_object handle (object_of object) (server_by l.start l.updates n)) (ap (λ (w : Verf). verf_at w l.updates n) verf) (λ h. at n h))
  where
    now : (n : ℕ) (h : List ℕ) (start : List Updated) → object_at start l.updates n h ≡ named start h
    now n h start = ap (λ (us : List Update). object_at start us n h) (nothing-in l.updates none) ∙ object-start start n h

    at : (n : ℕ) (h : List ℕ) → option_map object_of (object_at u.objects.items l.updates n h)
        ≡ (if bytes_eq handle h then Some (object_of object) else option_map object_of (object_at l.start.objects.items l.updates n h))
    at n h = ap (option_map object_of) (now n h u.objects.items) ∙ ap (λ (os : List Updated). option_map object_of (named os h)) objects
        ∙ found-start handle object l.start.objects.items h
        ∙ ap (λ (o : Option Object). if bytes_eq handle h then Some (object_of object) else option_map object_of o) (sym (now n h l.start.objects.items))

-- ---- at an entry

module _ (l : Lines) (k : ℕ) (was u : Update) (last : suc k ≡ length l.updates) (paired : length l.updates ≡ length l.entries) (is : slice_get l.updates k ≡ Some was) where
  before : (n : ℕ) → n < length l.entries → server_by l.start (slice_set l.updates k u) n ≡ server_by l.start l.updates n
  before n lt = let le : n ≤ k = omega (arith, lt, last, paired) in same-server (server_by l.start (slice_set l.updates k u) n) (server_by l.start l.updates n)
      (verf-before l.start.verf l.updates k u n le) (λ h. ap (option_map object_of) (object-before l.start.objects.items l.updates k u n h le))

  past : (n : ℕ) → length l.entries ≤ n → k < n
  past n ge = omega (arith, ge, last, paired)

  new-verf : (n : ℕ) → length l.entries ≤ n → verf_at l.start.verf (slice_set l.updates k u) n ≡ u.verf
  new-verf n ge = let set = last-set l.updates k u last in verf-from l.start.verf (slice_set l.updates k u) u k set.0 set.1 n (past n ge)

  old-verf : (n : ℕ) → length l.entries ≤ n → verf_at l.start.verf l.updates n ≡ was.verf
  old-verf n ge = verf-from l.start.verf l.updates was k last is n (past n ge)

  new-object : (n : ℕ) (h : List ℕ) → length l.entries ≤ n
      → object_at l.start.objects.items (slice_set l.updates k u) n h ≡ or_else (named u.objects.items h) (object_at l.start.objects.items l.updates k h)
  new-object n h ge = let set = last-set l.updates k u last in
      object-from l.start.objects.items (slice_set l.updates k u) u k set.0 set.1 n h (past n ge)
      ∙ ap (or_else (named u.objects.items h)) (object-before l.start.objects.items l.updates k u k h (omega arith))

  old-object : (n : ℕ) (h : List ℕ) → length l.entries ≤ n
      → object_at l.start.objects.items l.updates n h ≡ or_else (named was.objects.items h) (object_at l.start.objects.items l.updates k h)
  old-object n h ge = object-from l.start.objects.items l.updates was k last is n h (past n ge)

  pub told-last-verf : (v : Verf) → u.verf ≡ v → u.objects.items ≡ was.objects.items
      → told_by (record l { updates = slice_set l.updates k u }) ≡ changed (with_verf v) (told_by l)
  told-last-verf v verf objects = told-changed l (with_verf v) l.start (slice_set l.updates k u) before
      (λ n ge. same-server (server_by l.start (slice_set l.updates k u) n) (with_verf v (server_by l.start l.updates n)) (new-verf n ge ∙ verf)
      (λ h. ap (option_map object_of) (new-object n h ge
      ∙ ap (λ (os : List Updated). or_else (named os h) (object_at l.start.objects.items l.updates k h)) objects ∙ sym (old-object n h ge))))

  pub told-last-object : (handle : List ℕ) (object : Object) → u.verf ≡ was.verf → u.objects.items ≡ put_at handle object was.objects.items
      → told_by (record l { updates = slice_set l.updates k u }) ≡ changed (with_object handle (object_of object)) (told_by l)
  told-last-object handle object verf objects = told-changed l (with_object handle (object_of object)) l.start (slice_set l.updates k u) before
      (λ n ge. same-server (server_by l.start (slice_set l.updates k u) n) (with_object handle (object_of object) (server_by l.start l.updates n))
      (new-verf n ge ∙ verf ∙ sym (old-verf n ge))
      (λ h. ap (option_map object_of) (new-object n h ge)
      ∙ ap (λ (os : List Updated). option_map object_of (or_else (named os h) (object_at l.start.objects.items l.updates k h))) objects
      ∙ found-put handle object was.objects.items (object_at l.start.objects.items l.updates k h) h
      ∙ ap (λ (o : Option Object). if bytes_eq handle h then Some (object_of object) else option_map object_of o) (sym (old-object n h ge))))
