-- What updates tell along the entries is the server at each moment.
use Rattle.std.proofs.Common.{◌≡◌, Bool, false, ◌<◌, ◌≤◌, ◌+◌, ℕ, zero, suc, List, [], ◌∷◌, ◌++◌, length, map, take, Option, Some, None, slice_get, refl, sym, ap, ◌∙◌, inl, inr, arith, add-one, subst, append_assoc, append-nil}
use Rattle.std.specs.Option.{option_map}
use Rattle.std.proofs.lemmas.Bool.{cases_lt, cases_eq}
use Rattle.std.proofs.lemmas.List.{length-map, take_all}
use Rattle.std.proofs.lemmas.Option.{slice_get_past, slice_get_within}
use Rattle.nfs_types.specs.declared.verf.Verf.{Verf}
use Rattle.world_model.specs.declared.entry.Entry.{Entry}
use Rattle.export_fs.specs.View.{View}
use Rattle.export_fs.specs.Seen.{server_of, seen_by}
use Rattle.export_fs.specs.Parts.{place_of, verifier}
use Rattle.export_fs.proofs.Objects.{get_last, get_front_other}
use Rattle.trace_data.specs.declared.trace.Object.{Object}
use Rattle.trace_data.specs.declared.trace.Update.{Update}
use Rattle.trace_data.specs.declared.trace.Updated.{Updated}
use Rattle.trace_data.specs.declared.trace.Trace.{Trace}
use Rattle.trace_data.specs.Histories.{named, objects_of, objects_after, or_else, object_at, verf_or, verf_at, object_of}
use Rattle.world_link.specs.declared.directive.PartialWrite.{PartialWrite}
use Rattle.world_link.specs.declared.broken.Broken.{Broken}
use Rattle.world_link.specs.declared.log.WorldLog.{WorldLog}
use Rattle.world_link.specs.declared.routed.Told.{Told}
use Rattle.world_link.specs.View.{entry_in}
use Rattle.world_link.specs.Replay.{replayed, stepped, part_at, told_of}
use Rattle.world_link.proofs.Replays.{replayed_last}
use Rattle.export_fs.specs.declared.node.Node.{Node}
use Rattle.world_trace.proofs.Growing.{grows}
use Rattle.world_trace.proofs.Mirroring.{empty}
use Rattle.world_trace.specs.Mirrored.{Mirrors, Changes, named_or}
use Rattle.world_trace.specs.Stepped.{Moves}
use Rattle.world_trace.specs.Traced.{Tells, Leads, view_at, Follows, IsTraceOf, told_by}

-- ---- one update

-- the objects that changed are named
pub changes : (moved : Bool) (old wanted new : View) (shown : List Object) (update : Update) → Moves moved old new wanted → update.verf ≡ verifier new → Changes old.nodes new.nodes shown update.objects.items → Leads old wanted new shown update
changes moved old wanted new shown update moves verf c = record {
  is = moves.is;
  shows = c.shows;
  tells = record { verf = verf; objects = c.tells };
}

-- the export moved as it should, by which no object goes away
pub leads : (part : Option PartialWrite) (e : Entry) (moved : Bool) (old new : View) (before after : List Object) (update : Update) → Moves moved old new (stepped part old e) → update.verf ≡ verifier new
    → ((nodes : List Node) → length nodes ≤ length new.nodes → (moved ≡ false → new.nodes ≡ nodes) → Mirrors nodes before → Changes nodes new.nodes after update.objects.items)
    → Mirrors old.nodes before → Leads old (stepped part old e) new after update
leads part e moved old new before after update m verf step shows =
    let more : length old.nodes ≤ length new.nodes = subst (λ (v : View). length old.nodes ≤ length v.nodes) (sym m.is) (grows part old e) in
    changes moved old (stepped part old e) new after update m verf (step old.nodes more (λ q. ap (λ (v : View). v.nodes) (m.rests q)) shows)

-- ---- one entry more

take-next : {A : Type 0} → (xs : List A) (n : ℕ) (x : A) → slice_get xs n ≡ Some x → take (suc n) xs ≡ take n xs ++ x ∷ []
take-next [] n x e = absurd (cc)
take-next (y ∷ xs) zero x e = let s : y ≡ x = cc in ap (λ z. z ∷ []) s
take-next (y ∷ xs) (suc n) x e = ap (λ z. y ∷ z) (take-next xs n x e)

take-length : {A : Type 0} → (xs : List A) (n : ℕ) → n ≤ length xs → length (take n xs) ≡ n
take-length [] zero le = refl
take-length [] (suc n) le = absurd (omega (arith, le))
take-length (x ∷ xs) zero le = refl
take-length (x ∷ xs) (suc n) le = ap suc (take-length xs n (omega (arith, le)))

-- the export after the next entry
pub view-next : (parts : ℕ → Option PartialWrite) (start : View) (es : List Entry) (n : ℕ) (e : Entry) → slice_get es n ≡ Some e → view_at parts start es (suc n) ≡ stepped (parts n) (view_at parts start es n) e
view-next parts start es n e is =
    ap (replayed parts start) (take-next es n e is)
    ∙ replayed_last parts start (take n es) e
    ∙ ap (λ (k : ℕ). stepped (parts k) (view_at parts start es n) e) (take-length es n (let lt = slice_get_within es n e is in omega (arith, lt)))

pub nothing-yet : (parts : ℕ → Option PartialWrite) (start : View) (es : List Entry) (us : List Update) → us ≡ [] → Follows parts start es us 0
nothing-yet parts start es us none = subst (λ (xs : List Update). Follows parts start es xs 0) (sym none) (record { many = refl; tells = λ n update is. absurd (cc) })

-- what is told at a place
pub entry-at : (tolds : List Told) (n : ℕ) (one : Told) → slice_get tolds n ≡ Some one → slice_get (map entry_in tolds) n ≡ Some one.entry
entry-at [] n one is = absurd (cc)
entry-at (x ∷ tolds) zero one is = let same : x ≡ one = cc in ap (λ (t : Told). Some t.entry) same
entry-at (x ∷ tolds) (suc n) one is = entry-at tolds n one is

pub one-more : (parts : ℕ → Option PartialWrite) (start : View) (es : List Entry) (us : List Update) (n : ℕ) (e : Entry) (u : Update) (new : View) (shown : List Object) → slice_get es n ≡ Some e
    → Leads (view_at parts start es n) (stepped (parts n) (view_at parts start es n) e) new shown u → Follows parts start es us n → (new ≡ view_at parts start es (n + 1)) × Follows parts start es (us ++ u ∷ []) (n + 1)
one-more parts start es us n e u new shown is leads f =
    let next : new ≡ view_at parts start es (suc n) = leads.is ∙ sym (view-next parts start es n e is) in
    (next ∙ ap (view_at parts start es) (sym (add-one n)), record { many = longer us f.many; tells = by next })
  where
    longer : (xs : List Update) {k : ℕ} → length xs ≡ k → length (xs ++ u ∷ []) ≡ k + 1
    longer xs e = last-length xs ∙ ap (λ k. k + 1) e
      where
        last-length : (ys : List Update) → length (ys ++ u ∷ []) ≡ length ys + 1
        last-length [] = refl
        last-length (y ∷ ys) = omega (arith, last-length ys)

    by : new ≡ view_at parts start es (suc n) → (k : ℕ) (update : Update) → slice_get (us ++ u ∷ []) k ≡ Some update → Tells (server_of (view_at parts start es k)) (server_of (view_at parts start es (suc k))) update
    by next k update at = elim (cases_eq k (length us)) [
      | inl e ↦
          let q : Some u ≡ Some update = sym (get_last us u) ∙ ap (slice_get (us ++ u ∷ [])) (sym e) ∙ at in
          let same : u ≡ update = cc in
          let here : k ≡ n = e ∙ f.many in
          subst (λ (z : Update). Tells (server_of (view_at parts start es k)) (server_of (view_at parts start es (suc k))) z) same
          (subst (λ (m : ℕ). Tells (server_of (view_at parts start es m)) (server_of (view_at parts start es (suc m))) u) (sym here)
          (subst (λ (v : View). Tells (server_of (view_at parts start es n)) (server_of v) u) next leads.tells))
      | inr d ↦ f.tells k update (sym (get_front_other us u k d) ∙ at)
    ]

-- a step more, from an export that is known to be that of the moment
pub goes-on : (parts : ℕ → Option PartialWrite) (start : View) (es : List Entry) (us more : List Update) (n : ℕ) (e : Entry) (u : Update) (old new : View) (part : Option PartialWrite) (shown : List Object)
    → slice_get es n ≡ Some e → part ≡ parts n → old ≡ view_at parts start es n → Leads old (stepped part old e) new shown u → more ≡ us ++ u ∷ [] → Follows parts start es us n
    → (new ≡ view_at parts start es (n + 1)) × Mirrors new.nodes shown × Follows parts start es more (n + 1)
goes-on parts start es us more n e u old new part shown is part-is old-is leads pushed f =
    let with-part : Leads old (stepped (parts n) old e) new shown u = subst (λ (p : Option PartialWrite). Leads old (stepped p old e) new shown u) part-is leads in
    let with-old : Leads (view_at parts start es n) (stepped (parts n) (view_at parts start es n) e) new shown u = subst (λ (v : View). Leads v (stepped (parts n) v e) new shown u) old-is with-part in
    let m = one-more parts start es us n e u new shown is with-old f in
    (m.0, leads.shows, subst (λ (xs : List Update). Follows parts start es xs (n + 1)) (sym pushed) m.1)

-- ---- at each moment

object-or : (now was : Option Object) → option_map object_of (or_else now was) ≡ named_or now (option_map object_of was)
object-or None was = refl
object-or (Some o) was = refl

objects-is : (us : List Update) (n : ℕ) → objects_after us n ≡ objects_of (slice_get us n)
unfolding objects_after
objects-is us n = refl

-- where no update is, all lie before
beyond : (us : List Update) (k : ℕ) → slice_get us k ≡ None → length us ≤ k
beyond [] k none = omega arith
beyond (u ∷ us) zero none = absurd (cc)
beyond (u ∷ us) (suc k) none = omega (arith, beyond us k none)

-- the entries were told from the start on
module _ (parts : ℕ → Option PartialWrite) (start : View) (es : List Entry) (t : Trace)
    (follows : Follows parts start es t.updates.items (length es))
    (first-verf : t.start.verf ≡ verifier start)
    (first : (h : List ℕ) → named_or (named t.start.objects.items h) None ≡ (server_of start).object h) where
  past : (n : ℕ) → length es ≤ n → view_at parts start es (suc n) ≡ view_at parts start es n
  past n le = ap (replayed parts start) (take_all (suc n) es (omega (arith, le)) ∙ sym (take_all n es le))

  object-next : (n : ℕ) (h : List ℕ) (o : Option Update) → slice_get t.updates.items n ≡ o → named_or (named (objects_of o) h) ((server_of (view_at parts start es n)).object h) ≡ (server_of (view_at parts start es (suc n))).object h
  object-next n h None e = ap (λ (v : View). (server_of v).object h) (sym (past n (subst (λ (m : ℕ). m ≤ n) follows.many (beyond t.updates.items n e))))
  object-next n h (Some u) e = (follows.tells n u e).objects h

  objects-at : (n : ℕ) (h : List ℕ) → option_map object_of (object_at t.start.objects.items t.updates.items n h) ≡ (server_of (view_at parts start es n)).object h
  objects-at zero h = from-none (named t.start.objects.items h) ∙ first h
    where
      from-none : (o : Option Object) → option_map object_of o ≡ named_or o None
      from-none None = refl
      from-none (Some o) = refl
  objects-at (suc n) h =
      object-or (named (objects_after t.updates.items n) h) (object_at t.start.objects.items t.updates.items n h)
      ∙ ap (named_or (named (objects_after t.updates.items n) h)) (objects-at n h)
      ∙ ap (λ (us : List Updated). named_or (named us h) ((server_of (view_at parts start es n)).object h)) (objects-is t.updates.items n)
      ∙ object-next n h (slice_get t.updates.items n) refl

  verf-at : (n : ℕ) → verf_at t.start.verf t.updates.items n ≡ verifier (view_at parts start es n)
  verf-at zero = first-verf
  verf-at (suc n) = by (verf-at n) (slice_get t.updates.items n) refl
    where
      by : verf_at t.start.verf t.updates.items n ≡ verifier (view_at parts start es n) → (o : Option Update) → slice_get t.updates.items n ≡ o → verf_or o (verf_at t.start.verf t.updates.items n) ≡ verifier (view_at parts start es (suc n))
      by before None e = before ∙ ap verifier (sym (past n (subst (λ (m : ℕ). m ≤ n) follows.many (beyond t.updates.items n e))))
      by before (Some u) e = (follows.tells n u e).verf

  -- the trace tells the history
  pub is-trace : t.entries.items ≡ es → IsTraceOf (told_of parts start es) t
  is-trace entries = record {
    entries = entries;
    moments = λ n. record { verf = verf-at n; object = λ h. objects-at n h };
  }

-- ---- of a log

-- the trace of what a log tells
pub all-told : (log : WorldLog) (shown : List Object) (t : Trace)
    → Follows (part_at log.partials.items) log.start (map entry_in log.told.items) t.updates.items (length log.told.items)
    → t.start.verf ≡ verifier log.start → Changes [] log.start.nodes shown t.start.objects.items → t.entries.items ≡ map entry_in log.told.items → IsTraceOf (told_by log) t
all-told log shown t follows verf first entries =
    is-trace (part_at log.partials.items) log.start (map entry_in log.told.items) t
    (subst (λ (k : ℕ). Follows (part_at log.partials.items) log.start (map entry_in log.told.items) t.updates.items k) (sym (length-map log.told.items entry_in)) follows)
    verf
    (λ h. ap (named_or (named t.start.objects.items h)) (sym (empty h (place_of h))) ∙ first.tells h)
    entries

-- the same by slices of the log
pub all-told-by : (log : WorldLog) (tolds : List Told) (partials : List Broken) (shown : List Object) (t : Trace) → tolds ≡ log.told.items → partials ≡ log.partials.items
    → Follows (part_at partials) log.start (map entry_in tolds) t.updates.items (length tolds)
    → t.start.verf ≡ verifier log.start → Changes [] log.start.nodes shown t.start.objects.items → t.entries.items ≡ map entry_in log.told.items → IsTraceOf (told_by log) t
all-told-by log tolds partials shown t tolds-are partials-are follows verf first entries =
    let by-partials : Follows (part_at log.partials.items) log.start (map entry_in tolds) t.updates.items (length tolds) =
    subst (λ (ps : List Broken). Follows (part_at ps) log.start (map entry_in tolds) t.updates.items (length tolds)) partials-are follows in
    let by-tolds : Follows (part_at log.partials.items) log.start (map entry_in log.told.items) t.updates.items (length log.told.items) =
    subst (λ (ts : List Told). Follows (part_at log.partials.items) log.start (map entry_in ts) t.updates.items (length ts)) tolds-are by-partials in
    all-told log shown t by-tolds verf first entries

-- nothing is shown yet
pub nothing-shown : (shown : List Object) → shown ≡ [] → Mirrors [] shown
nothing-shown shown none = subst (λ (xs : List Object). Mirrors [] xs) (sym none) (λ place. refl)

-- ---- entries without their ends

no-more : (xs : List Told) → length xs ≡ 0 → xs ≡ []
no-more [] e = refl
no-more (x ∷ xs) e = absurd (omega (arith, e))

pub none-taken : (es : List Entry) (rest tolds : List Told) → es ≡ [] → rest ≡ tolds → es ++ map entry_in rest ≡ map entry_in tolds
none-taken es rest tolds none same = ap (λ (xs : List Entry). xs ++ map entry_in rest) none ∙ ap (map entry_in) same

pub one-taken : (es more : List Entry) (one : Told) (rest left tolds : List Told) → more ≡ es ++ one.entry ∷ [] → rest ≡ one ∷ left → es ++ map entry_in rest ≡ map entry_in tolds → more ++ map entry_in left ≡ map entry_in tolds
one-taken es more one rest left tolds pushed step all =
    ap (λ (xs : List Entry). xs ++ map entry_in left) pushed ∙ append_assoc es (one.entry ∷ []) (map entry_in left) ∙ ap (λ (xs : List Told). es ++ map entry_in xs) (sym step) ∙ all

pub all-taken : (es : List Entry) (rest tolds : List Told) → length rest ≡ 0 → es ++ map entry_in rest ≡ map entry_in tolds → es ≡ map entry_in tolds
all-taken es rest tolds none all = sym (append-nil es) ∙ ap (λ (xs : List Told). es ++ map entry_in xs) (sym (no-more rest none)) ∙ all
