-- The first MNT that was sent, and the roots that its replies or the session give.
use Rattle.std.proofs.Common.{◌≡◌, ◌+◌, inl, inr, ℕ, true, false, true≢false, List, [], ◌∷◌, length, Option, Some, None, refl, sym, ◌∙◌, subst, arith}
use Rattle.std.specs.Prelude.{IfOk, Result, max}
use Rattle.std.specs.Str.{bytes_eq}
use Rattle.std.proofs.lemmas.Bool.{cases_lt}
use Rattle.std.proofs.lemmas.Slice.Eq.{bytes_eq-Decides}
use Rattle.mount_calls.specs.declared.call.MountCall.{MountCall}
use Rattle.mount_calls.specs.declared.call.MountCall.TheVariants as mounts
use Rattle.world_model.specs.declared.entry.Entry.{Entry}
use Rattle.world_model.specs.declared.entry.Entry.TheVariants.{Sent}
use Rattle.world_model.specs.declared.message.Call.{Call}
use Rattle.world_model.specs.declared.message.Call.TheVariants as calls
use Rattle.world_model.specs.Entries.{At}
use Rattle.world_model.specs.Messages.{SpellsCall}
use Rattle.world_model.specs.Mounts.{Origin, Given, Mounting, mount_call}
use Rattle.world_model.proofs.Places.{At-below, At-one}
use Rattle.export_serve.specs.declared.request.Asked.{Asked}
use Rattle.export_serve.specs.declared.request.Asked.TheVariants as askings
use Rattle.export_serve.specs.Asking.{IsSound}
use Rattle.trace_data.specs.declared.trace.Trace.{Trace}
use Rattle.trace_claims.specs.declared.operations.Lead.{Lead}
use Rattle.trace_claims.specs.declared.records.Heard.{Heard}
use Rattle.trace_claims.specs.Hearing.{HasHeard}
use Rattle.trace_claims.specs.Judging.{MountsAt, first, none, IsOrigin, given, mounting}
use Rattle.trace_claims.specs.Mounting.{path_of, path_in, path_asked, FindsPath, FindsMount, NoMount, IsMounted}
use Rattle.trace_claims.specs.Operations.{LeadsAll}
use Rattle.trace_claims.specs.Paths.{RootsUpTo, AddsLead, AddsRoot, rooted_at, AddsObject, at_dir, elsewhere, AddsObjects, AddsObjectOf, there, nowhere, AddsFound, found_it, found_none, looks_up, object_in}
use Rattle.xdr_codec.specs.declared.blob.Memory.{Memory}
use Rattle.trace_claims.proofs.Namings.{if-ok}
use Rattle.trace_claims.proofs.Pathing.{given-leads, mounted-leads}

some-list : (a b : List ℕ) → Some a ≡ Some b → a ≡ b
some-list a b e = cc

-- ---- a record

mnt-told : (call : MountCall) (path : List ℕ) → path_of call ≡ Some path → call ≡ mounts.Mnt path
mnt-told (mounts.Null) path is = absurd cc
mnt-told (mounts.Mnt its) path is = cc
mnt-told (mounts.Umnt its) path is = absurd cc
mnt-told (mounts.Export) path is = absurd cc

call-told : (call : Call) (path : List ℕ) → path_in call ≡ Some path → call ≡ mount_call path
call-told (calls.Mount call) path is = let told = mnt-told call path is in cc
call-told (calls.File call) path is = absurd cc
call-told (calls.Dir call) path is = absurd cc

asked-told : (bytes : List ℕ) (asked : Asked) → IsSound bytes asked → (path : List ℕ) → path_asked asked ≡ Some path → (xid : ℕ) × SpellsCall xid (mount_call path) bytes
asked-told bytes askings.NoCall sound path is = absurd cc
asked-told bytes (askings.Refuse xid reply) sound path is = absurd cc
asked-told bytes (askings.Serve xid call) sound path is = (xid, subst (λ (c : Call). SpellsCall xid c bytes) (call-told call path is) sound.0)

pub finds-path : (bytes : List ℕ) (asked : Asked) → IsSound bytes asked → ((xid : ℕ) (call : Call) → SpellsCall xid call bytes → asked ≡ askings.Serve xid call) → FindsPath bytes (path_asked asked)
finds-path bytes asked sound served = record {
  sound = asked-told bytes asked sound;
  finds = λ xid path spells. subst (λ (a : Asked). path_asked a ≡ Some path) (sym (served xid (mount_call path) spells)) refl;
}

-- ---- a place

pub mount-sent : (h : List Entry) (i : ℕ) (bytes : List ℕ) (found : Option (List ℕ)) → At h i (Sent bytes) → FindsPath bytes found → FindsMount h i found
mount-sent h i bytes found at finds = record {
  sound = λ path is. let two = finds.sound path is in (bytes, two.0, at, two.1);
  finds = λ path there. finds.finds there.1 path (subst (λ (l : List ℕ). SpellsCall there.1 (mount_call path) l) (same-bytes (At-one h i (Sent there.0) (Sent bytes) there.2 at)) there.3);
}
  where
    same-bytes : {a b : List ℕ} → Sent a ≡ Sent b → a ≡ b
    same-bytes e = cc

pub mount-unsent : (h : List Entry) (i : ℕ) (e : Entry) → At h i e → ((bytes : List ℕ) → e ≡ Sent bytes → ⊥) → FindsMount h i None
mount-unsent h i e at not = record {
  sound = λ path is. absurd cc;
  finds = λ path there. absurd (not there.0 (At-one h i e (Sent there.0) at there.2));
}

-- ---- the first

pub nothing-yet : (h : List Entry) → NoMount h 0
nothing-yet h j other at lt = omega (arith, lt)

pub nothing-here : (h : List Entry) (i : ℕ) → FindsMount h i None → NoMount h i → NoMount h (i + 1)
nothing-here h i finds before j other at lt = elim (cases_lt j i) [
  | inl lower ↦ before j other at lower
  | inr le ↦ unfound other (finds.finds other (subst (λ (z : ℕ). MountsAt h z other) (let same : j ≡ i = omega (arith, lt, le) in same) at))
]
  where
    unfound : (p : List ℕ) → None ≡ Some p → ⊥
    unfound p e = cc

pub first-here : (h : List Entry) (i : ℕ) (path : List ℕ) → FindsMount h i (Some path) → NoMount h i → IsMounted h path
first-here h i path finds before p (none never empty) = absurd (never i path (finds.sound path refl))
first-here h i path finds before p (first j at least) =
    let le = least i path (finds.sound path refl) in
    elim (cases_lt j i) [
      | inl lower ↦ absurd (before j p at lower)
      | inr ge ↦ some-list path p (finds.finds p (subst (λ (z : ℕ). MountsAt h z p) (let same : j ≡ i = omega (arith, le, ge) in same) at))
    ]

pub first-nowhere : (h : List Entry) → NoMount h (length h) → IsMounted h []
first-nowhere h nothing p (none never empty) = sym empty
first-nowhere h nothing p (first j at least) = absurd (nothing j p at (At-below h j (Sent at.0) at.2))

-- ---- the roots

pub given-roots : (t : Trace) (origin : Origin) (root : List ℕ) (ls : List Lead) → t.root ≡ Some root → ls ≡ record { file = root; since = 0 } ∷ [] → IsOrigin t origin → LeadsAll origin t.entries.items [] ls
given-roots t origin root ls is one (given its place o) =
    subst (λ (z : Origin). LeadsAll z t.entries.items [] ls) (sym o)
    (subst (λ (z : List Lead). LeadsAll (Given its) t.entries.items [] z) (sym one)
    (subst (λ (z : List ℕ). LeadsAll (Given its) t.entries.items [] (record { file = z; since = 0 } ∷ [])) (some-list its root (sym place ∙ is)) (given-leads t.entries.items its)))
given-roots t origin root ls is one (mounting path place lead o) = absurd (no (sym place ∙ is))
  where
    no : None ≡ Some root → ⊥
    no e = cc

pub mounted-all : (t : Trace) (origin : Origin) (path : List ℕ) (rs : List Heard) (ls : List Lead) → t.root ≡ None → IsMounted t.entries.items path → HasHeard t.entries.items (length t.entries.items) rs
    → RootsUpTo path rs (length rs) ls → IsOrigin t origin → LeadsAll origin t.entries.items [] ls
mounted-all t origin path rs ls is mounted has roots (given its place o) = absurd (no (sym is ∙ place))
  where
    no : None ≡ Some its → ⊥
    no e = cc
mounted-all t origin path rs ls is mounted has roots (mounting its place lead o) =
    subst (λ (z : Origin). LeadsAll z t.entries.items [] ls) (sym o)
    (subst (λ (p : List ℕ). LeadsAll (Mounting p) t.entries.items [] ls) (mounted its lead) (mounted-leads t.entries.items path rs ls has roots))

-- ---- results of calls

pub given-ok : {A : Type 0} (items : A → List Lead) (t : Trace) (origin : Origin) (its : List ℕ) (r : Result A Memory) → t.root ≡ Some its → IsOrigin t origin → IfOk r (λ v. items v ≡ record { file = its; since = 0 } ∷ [])
    → IfOk r (λ v. LeadsAll origin t.entries.items [] (items v))
given-ok items t origin its r is o ok = if-ok r (λ v. items v ≡ record { file = its; since = 0 } ∷ []) (λ v. LeadsAll origin t.entries.items [] (items v)) (λ v one. given-roots t origin its (items v) is one o) ok

pub mounted-ok : {A : Type 0} (items : A → List Lead) (t : Trace) (origin : Origin) (path : List ℕ) (rs : List Heard) (r : Result A Memory) → t.root ≡ None → IsMounted t.entries.items path → HasHeard t.entries.items (length t.entries.items) rs
    → IsOrigin t origin → IfOk r (λ v. RootsUpTo path rs (length rs) (items v)) → IfOk r (λ v. LeadsAll origin t.entries.items [] (items v))
mounted-ok items t origin path rs r is mounted has o ok = if-ok r (λ v. RootsUpTo path rs (length rs) (items v)) (λ v. LeadsAll origin t.entries.items [] (items v)) (λ v roots. mounted-all t origin path rs (items v) is mounted has roots o) ok

pub mount-ok : (h : List Entry) (i : ℕ) (bytes : List ℕ) (r : Result (Option (List ℕ)) Memory) → At h i (Sent bytes) → IfOk r (FindsPath bytes) → IfOk r (FindsMount h i)
mount-ok h i bytes r at ok = if-ok r (FindsPath bytes) (FindsMount h i) (λ found finds. mount-sent h i bytes found at finds) ok

pub root-ok : (root : Option (List ℕ)) (f : List ℕ) (since : ℕ) (old new : List Lead) (r : Result (Unit {0}) Memory) → root ≡ Some f → IfOk r (λ done. AddsLead f since old new) → IfOk r (λ done. AddsRoot root since old new)
root-ok root f since old new r is ok = if-ok r (λ done. AddsLead f since old new) (λ done. AddsRoot root since old new) (λ done adds. rooted_at f is adds) ok

pub object-ok : (lead : Lead) (d f : List ℕ) (since : ℕ) (old new : List Lead) (r : Result (Unit {0}) Memory) → bytes_eq lead.file d ≡ true → IfOk r (λ done. AddsLead f (max lead.since since) old new) → IfOk r (λ done. AddsObject lead d f since old new)
object-ok lead d f since old new r is ok = if-ok r (λ done. AddsLead f (max lead.since since) old new) (λ done. AddsObject lead d f since old new) (λ done adds. at_dir ((bytes_eq-Decides lead.file d).0 is) adds) ok

pub object-not : (lead : Lead) (d f : List ℕ) (since : ℕ) (ls : List Lead) → bytes_eq lead.file d ≡ false → AddsObject lead d f since ls ls
object-not lead d f since ls is = elsewhere (λ same. true≢false (sym ((bytes_eq-Decides lead.file d).1 same) ∙ is)) refl

pub object-of-ok : (list : List Lead) (d : List ℕ) (object : Option (List ℕ)) (f : List ℕ) (since : ℕ) (old new : List Lead) (r : Result (Unit {0}) Memory) → object ≡ Some f → IfOk r (λ done. AddsObjects list d f since (length list) old new)
    → IfOk r (λ done. AddsObjectOf list d object since old new)
object-of-ok list d object f since old new r is ok = if-ok r (λ done. AddsObjects list d f since (length list) old new) (λ done. AddsObjectOf list d object since old new) (λ done adds. there f is adds) ok

found-more : (list : List Lead) (name : List ℕ) (h : Heard) (d : List ℕ) (old new : List Lead) → looks_up h.call name ≡ Some d → AddsObjectOf list d (object_in h.reply) h.after old new → AddsFound list name h old new
found-more list name h d old new is (there f found adds) = found_it d f is found adds
found-more list name h d old new is (nowhere empty same) = found_none (λ e f looked found. no f (sym empty ∙ found)) same
  where
    no : (f : List ℕ) → None ≡ Some f → ⊥
    no f e = cc

pub found-ok : (list : List Lead) (name : List ℕ) (h : Heard) (d : List ℕ) (old new : List Lead) (r : Result (Unit {0}) Memory) → looks_up h.call name ≡ Some d → IfOk r (λ done. AddsObjectOf list d (object_in h.reply) h.after old new)
    → IfOk r (λ done. AddsFound list name h old new)
found-ok list name h d old new r is ok = if-ok r (λ done. AddsObjectOf list d (object_in h.reply) h.after old new) (λ done. AddsFound list name h old new) (λ done adds. found-more list name h d old new is adds) ok

pub found-not : (list : List Lead) (name : List ℕ) (h : Heard) (ls : List Lead) → looks_up h.call name ≡ None → AddsFound list name h ls ls
found-not list name h ls is = found_none (λ d f looked found. no d (sym is ∙ looked)) refl
  where
    no : (d : List ℕ) → None ≡ Some d → ⊥
    no d e = cc
