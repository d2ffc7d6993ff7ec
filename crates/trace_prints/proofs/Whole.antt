-- The text of a trace is read as that trace, as far as it is shown.
use Rattle.std.proofs.Common.{◌≡◌, ◌<◌, ◌≤◌, ◌+◌, ◌-◌, ◌⊎◌, inl, inr, ◌^◌, ◌==◌, ℕ, zero, suc, List, [], ◌∷◌, ◌++◌, length, map, take, Bool, true, false, Option, Some, None, Result, Ok, Err, All, slice_get, slice_index_or, refl, sym, ap, ◌∙◌, subst, arith, append_assoc}
use Rattle.std.specs.Prelude.{codes, decimal, nat_lt, unwrap_or, if◌then◌else◌}
use Rattle.std.specs.Option.{option_map}
use Rattle.std.proofs.lemmas.Bool.{cases_lt, eqb-true, ltb-false, ltb-true}
use Rattle.std.proofs.lemmas.List.{append-nil, length-map, length-take-le, map-append, take_all, take_more}
use Rattle.std.proofs.lemmas.Option.{get_or_from_slice_get, none-some, same_Some, slice_get-get_or, slice_get_past}
use Rattle.std.proofs.lemmas.Slice.Eq.{bytes_eq-Decides}
use mathlib.Core.Path.{fun_ext}
use Rattle.nfs_types.specs.declared.verf.Verf.{Verf}
use Rattle.script_text.specs.Lines.{lines}
use Rattle.world_model.specs.declared.entry.Entry.{Entry}
use Rattle.world_model.specs.declared.entry.Entry.TheVariants as entries
use Rattle.world_model.specs.History.{History, no_server}
use Rattle.world_model.specs.Server as model
use Rattle.world_model.specs.Server.{Server}
use Rattle.trace_data.specs.declared.trace.Object.{Object}
use Rattle.trace_data.specs.declared.trace.Trace.{Trace}
use Rattle.trace_data.specs.declared.trace.Update.{Update}
use Rattle.trace_data.specs.declared.trace.Updated.{Updated}
use Rattle.trace_data.specs.Histories.{history_of, named, object_at, object_of, objects_after, objects_of, or_else, server_at, verf_at, verf_or}
use Rattle.trace_rules.specs.Restarting.{same_verf}
use Rattle.trace_text.specs.EntryLines.{last_shape, or_shape, shape_at}
use Rattle.trace_text.specs.Objects.{with_verf}
use Rattle.trace_text.specs.Reading.{after_lines, text_told}
use Rattle.trace_text.specs.Texts.{IsSpelled, changes_text, entry_text_of, firsts, head_text, hex_word, line_if, line_of, lives_text, object_before, objects_in, objects_text, printed, root_text, start_text, step_text, steps_text, text_of, verf_text}
use Rattle.trace_text.specs.Told.{Told, added, begun, changed, nothing_told, with_lives, with_noac, with_nocto, with_root}
use Rattle.trace_prints.specs.HasText.{AreChanges, HasText, IsEntry, IsRoot, IsVerf}
use Rattle.trace_prints.specs.Rounds.{Reads, ShowsLast}
use Rattle.trace_prints.specs.Shown.{IsReadAgain, shown_entry, shown_history}
use Rattle.trace_prints.proofs.Entries.{last-shown, reads-entry}
use Rattle.trace_prints.proofs.Firsts.{firsts-distinct, firsts-named, no-item}
use Rattle.trace_prints.proofs.Moments.{Alike, IsAt, at-as, at-entry, at-verf, head-then}
use Rattle.trace_prints.proofs.Objects.{objects-lines}
use Rattle.trace_prints.proofs.Passes.{Leaves, find, leaves-as, leaves-nothing, lookup}
use Rattle.trace_prints.proofs.ByLine.{reads-nothing, reads-then}
use Rattle.trace_prints.proofs.Servers.{reads-lives, reads-noac, reads-nocto, reads-root, reads-verf}

-- one text after the other, where the first may have told other entries and another verifier
then-leaves : (told : Told) (es later : List Entry) (past : ℕ → Server) (verf other : Verf) (middle last : List ℕ → Option model.Object) (text more : List ℕ)
    → (first : Leaves told es past verf middle text) → Leaves first.new later past other last more → Leaves told later past other last (text ++ more)
then-leaves told es later past verf other middle last text more first rest = record {
  new = rest.new;
  reads = reads-then told first.new rest.new text more first.reads rest.reads;
  at = rest.at;
  head = head-then told first.new rest.new first.head rest.head;
}

-- ---- the server of a step

verf-is : (a b : Verf) → same_verf a b ≡ true → a ≡ b
verf-is a b e = made a.0 b.0 ((bytes_eq-Decides a.0 b.0).0 e)
  where
    made : (x y : List ℕ) → x ≡ y → ◌≡◌ {A = Verf} (record { 0 = x }) (record { 0 = y })
    made x y e = rw e refl

verf-lines : (told : Told) (es : List Entry) (past : ℕ → Server) (verf other : Verf) (now : List ℕ → Option model.Object) → IsVerf other → IsAt told es past verf now → Leaves told es past other now (verf_text verf other)
verf-lines told es past verf other now v at = by (same_verf verf other) refl
  where
    by : (t : Bool) → same_verf verf other ≡ t → Leaves told es past other now (if t then [] else line_of (codes "verf") (hex_word other.0 ∷ []))
    by true e = subst (λ (k : Verf). Leaves told es past k now []) (verf-is verf other e) (leaves-nothing told es past verf now at)
    by false e = record {
      new = begun (changed (with_verf other) told);
      reads = reads-verf told other v;
      at = at-verf told es past verf now at other;
      head = record { root = refl; lives = refl; noac = refl; nocto = refl };
    }

-- what is found among the first objects is what is named
found-named : (objects : List Updated) (h : List ℕ) (was : Option Object)
    → lookup (λ u. object_of u.object) (find (firsts objects (length objects)) h) (option_map object_of was) ≡ option_map object_of (or_else (named objects h) was)
found-named objects h was = by (find (firsts objects (length objects)) h)
    (firsts-named objects (length objects) h (omega arith) ∙ ap (λ (k : List Updated). named k h) (take_all (length objects) objects (omega arith)))
  where
    by : (o : Option Updated) → option_map (λ (u : Updated). u.object) o ≡ named objects h → lookup (λ u. object_of u.object) o (option_map object_of was) ≡ option_map object_of (or_else (named objects h) was)
    by None e = ap (λ (k : Option Object). option_map object_of (or_else k was)) e
    by (Some u) e = ap (λ (k : Option Object). option_map object_of (or_else k was)) e

server-lines : (told : Told) (es : List Entry) (past : ℕ → Server) (verf other : Verf) (was : List ℕ → Option Object) (objects : List Updated) (now : List ℕ → Option model.Object) → IsVerf other
    → AreChanges was (firsts objects (length objects)) → IsAt told es past verf now → ((h : List ℕ) → now h ≡ option_map object_of (was h))
    → Leaves told es past other (λ h. option_map object_of (or_else (named objects h) (was h))) (verf_text verf other ++ objects_text was objects)
server-lines told es past verf other was objects now v c at e =
    let fs : List Updated = firsts objects (length objects) in
    let first : Leaves told es past other now (verf_text verf other) = verf-lines told es past verf other now v at in
    let rest : Leaves first.new es past other (λ h. lookup (λ u. object_of u.object) (find fs h) (now h)) (objects_text was objects) =
    objects-lines es past other was fs first.new now (firsts-distinct objects (length objects) (omega arith)) c first.at e in
    leaves-as told es past other (λ h. lookup (λ u. object_of u.object) (find fs h) (now h)) (λ h. option_map object_of (or_else (named objects h) (was h))) (verf_text verf other ++ objects_text was objects)
    (λ h. ap (lookup (λ u. object_of u.object) (find fs h)) (e h) ∙ found-named objects h (was h))
    (then-leaves told es es past other other now (λ h. lookup (λ u. object_of u.object) (find fs h) (now h)) (verf_text verf other) (objects_text was objects) first rest)

-- ---- the first entries

get-take : (n : ℕ) (es : List Entry) (k : ℕ) → k < n → slice_get (take n es) k ≡ slice_get es k
get-take zero es k lt = absurd (omega (arith, lt))
get-take (suc n) [] k lt = refl
get-take (suc n) (e ∷ es) zero lt = refl
get-take (suc n) (e ∷ es) (suc k) lt = get-take n es k (omega (arith, lt))

last-take : (lane line : ℕ) (es : List Entry) (n k : ℕ) → k ≤ n → last_shape lane line (take n es) k ≡ last_shape lane line es k
last-take lane line es n zero le = refl
last-take lane line es n (suc k) le =
    ap (λ (o : Option Entry). or_shape (shape_at lane line o) (last_shape lane line (take n es) k)) (get-take n es k (omega (arith, le)))
    ∙ ap (or_shape (shape_at lane line (slice_get es k))) (last-take lane line es n k (omega (arith, le)))

one-more : (es : List Entry) (n : ℕ) (entry : Entry) → n < length es → slice_get es n ≡ Some entry → take (suc n) es ≡ take n es ++ entry ∷ []
one-more es n entry lt is =
    let next : suc n ≡ n + 1 = omega arith in
    ap (λ (k : ℕ). take k es) next ∙ take_more es n entry lt ∙ ap (λ (v : Entry). take n es ++ v ∷ []) (get_or_from_slice_get es n entry entry is)

-- ---- a step

module _ (trace : Trace) (ok : HasText trace) where
  abbrev es : List Entry
  es = trace.entries.items

  -- what is shown of the first n entries
  abbrev so-far : ℕ → List Entry
  so-far n = map shown_entry (take n es)

  count : (n : ℕ) → n ≤ length es → length (so-far n) ≡ n
  count n le = length-map (take n es) shown_entry ∙ length-take-le n es le

  abbrev State : Told → ℕ → List ℕ → Type 0
  State told n text = Leaves told (so-far n) (server_at trace) (verf_at trace.start.verf trace.updates.items n) (server_at trace n).object text

  entry-lines : (told : Told) (n : ℕ) → n < length es → IsAt told (so-far n) (server_at trace) (verf_at trace.start.verf trace.updates.items n) (server_at trace n).object
      → Leaves told (so-far (suc n)) (server_at trace) (verf_at trace.start.verf trace.updates.items n) (server_at trace n).object (entry_text_of (slice_get es n))
  entry-lines told n lt at = by (slice_get es n) refl
    where
      same : length (so-far n) ≡ n
      same = count n (omega (arith, lt))

      told-so : told.history.entries ≡ so-far n
      told-so = at.entries

      last : ShowsLast told (λ lane line. last_shape lane line es n)
      last lane line = ap (λ (k : List Entry). last_shape lane line k (length k)) told-so ∙ ap (last_shape lane line (so-far n)) same
          ∙ last-shown lane line (take n es) n ∙ last-take lane line es n n (omega arith)

      room : length told.history.entries < 4096
      room = let few : length es ≤ 4096 = ok.few in let e : length told.history.entries ≡ n = ap length told-so ∙ same in omega (arith, few, lt, e)

      more : (entry : Entry) → slice_get es n ≡ Some entry → so-far n ++ shown_entry entry ∷ [] ≡ so-far (suc n)
      more entry f = sym (ap (map shown_entry) (one-more es n entry lt f) ∙ map-append shown_entry (take n es) (entry ∷ []))

      by : (o : Option Entry) → slice_get es n ≡ o → Leaves told (so-far (suc n)) (server_at trace) (verf_at trace.start.verf trace.updates.items n) (server_at trace n).object (entry_text_of o)
      by None f = absurd (no-item es n lt f)
      by (Some entry) f = record {
        new = begun (added (shown_entry entry) told);
        reads = reads-entry told (λ lane line. last_shape lane line es n) entry last (ok.entries n entry f) room;
        at = subst (λ (k : List Entry). IsAt (begun (added (shown_entry entry) told)) k (server_at trace) (verf_at trace.start.verf trace.updates.items n) (server_at trace n).object) (more entry f)
            (at-entry told (so-far n) (server_at trace) (verf_at trace.start.verf trace.updates.items n) (server_at trace n).object at (shown_entry entry)
            (ap (λ (k : ℕ). (server_at trace k).verf) (sym same)) (λ h. ap (λ (k : ℕ). (server_at trace k).object h) (sym same)));
        head = record { root = refl; lives = refl; noac = refl; nocto = refl };
      }

  step-lines : (told : Told) (n : ℕ) → n < length es → IsAt told (so-far n) (server_at trace) (verf_at trace.start.verf trace.updates.items n) (server_at trace n).object → State told (suc n) (step_text trace n)
  unfolding step_text
  step-lines told n lt at =
      let first : Leaves told (so-far (suc n)) (server_at trace) (verf_at trace.start.verf trace.updates.items n) (server_at trace n).object (entry_text_of (slice_get es n)) = entry-lines told n lt at in
      then-leaves told (so-far (suc n)) (so-far (suc n)) (server_at trace) (verf_at trace.start.verf trace.updates.items n) (verf_at trace.start.verf trace.updates.items (suc n))
      (server_at trace n).object (server_at trace (suc n)).object (entry_text_of (slice_get es n)) (changes_text trace n) first
      (server-lines first.new (so-far (suc n)) (server_at trace) (verf_at trace.start.verf trace.updates.items n) (verf_at trace.start.verf trace.updates.items (suc n)) (object_before trace (Some n)) (objects_in trace (Some n))
      (server_at trace n).object (ok.verfs n lt) (ok.changes n lt) first.at (λ h. refl))

  steps-lines : (told : Told) (n : ℕ) → n ≤ length es → IsAt told (so-far 0) (server_at trace) trace.start.verf (server_at trace 0).object → State told n (steps_text trace n)
  steps-lines told zero le at = leaves-nothing told (so-far 0) (server_at trace) trace.start.verf (server_at trace 0).object at
  steps-lines told (suc n) le at =
      let before : State told n (steps_text trace n) = steps-lines told n (omega (arith, le)) at in
      then-leaves told (so-far n) (so-far (suc n)) (server_at trace) (verf_at trace.start.verf trace.updates.items n) (verf_at trace.start.verf trace.updates.items (suc n))
      (server_at trace n).object (server_at trace (suc n)).object (steps_text trace n) (step_text trace n) before (step-lines before.new n (omega (arith, le)) before.at)

-- ---- what stands before the first entry

-- What was said so far of how the session was asked for; nothing of the server was said.
record IsHead (told : Told) (root : Option (List ℕ)) (lives : Option ℕ) (noac nocto : Bool) : Type 0 where
  is-root : told.root ≡ root
  is-lives : told.lives ≡ lives
  is-noac : told.noac ≡ noac
  is-nocto : told.nocto ≡ nocto
  is-history : told.history ≡ nothing_told.history

record Heads (told : Told) (text : List ℕ) (root : Option (List ℕ)) (lives : Option ℕ) (noac nocto : Bool) : Type 0 where
  new : Told
  reads : Reads told text new
  is : IsHead new root lives noac nocto

heads-then : (told : Told) (text more : List ℕ) (root other : Option (List ℕ)) (lives later : Option ℕ) (noac some nocto other-so : Bool)
    → (first : Heads told text root lives noac nocto) → Heads first.new more other later some other-so → Heads told (text ++ more) other later some other-so
heads-then told text more root other lives later noac some nocto other-so first rest = record { new = rest.new; reads = reads-then told first.new rest.new text more first.reads rest.reads; is = rest.is }

early : (told : Told) → told.history ≡ nothing_told.history → told.history.entries ≡ []
early told e = ap (λ (h : History). h.entries) e

abbrev usual : ℕ → Option ℕ
usual lives = if lives == 60000 then None else Some lives

root-heads : (root : Option (List ℕ)) → IsRoot root → Heads nothing_told (root_text root) root None false false
root-heads None r = record { new = nothing_told; reads = reads-nothing nothing_told; is = record { is-root = refl; is-lives = refl; is-noac = refl; is-nocto = refl; is-history = refl } }
root-heads (Some root) r = record {
  new = begun (with_root root nothing_told);
  reads = reads-root nothing_told root r refl;
  is = record { is-root = refl; is-lives = refl; is-noac = refl; is-nocto = refl; is-history = refl };
}

lives-heads : (told : Told) (root : Option (List ℕ)) (lives : ℕ) → lives < 2 ^ 64 → IsHead told root None false false → Heads told (lives_text lives) root (usual lives) false false
lives-heads told root lives lt h = by (lives == 60000)
  where
    by : (t : Bool) → Heads told (if t then [] else line_of (codes "lives") (decimal lives ∷ [])) root (if t then None else Some lives) false false
    by true = record { new = told; reads = reads-nothing told; is = h }
    by false = record {
      new = begun (with_lives lives told);
      reads = reads-lives told lives lt h.is-lives (early told h.is-history);
      is = record { is-root = h.is-root; is-lives = refl; is-noac = h.is-noac; is-nocto = h.is-nocto; is-history = h.is-history };
    }

noac-heads : (told : Told) (root : Option (List ℕ)) (lives : Option ℕ) (noac : Bool) → IsHead told root lives false false → Heads told (line_if noac (codes "noac\n")) root lives noac false
noac-heads told root lives false h = record { new = told; reads = reads-nothing told; is = h }
noac-heads told root lives true h = record {
  new = begun (with_noac told);
  reads = reads-noac told h.is-noac (early told h.is-history);
  is = record { is-root = h.is-root; is-lives = h.is-lives; is-noac = refl; is-nocto = h.is-nocto; is-history = h.is-history };
}

nocto-heads : (told : Told) (root : Option (List ℕ)) (lives : Option ℕ) (noac nocto : Bool) → IsHead told root lives noac false → Heads told (line_if nocto (codes "nocto\n")) root lives noac nocto
nocto-heads told root lives noac false h = record { new = told; reads = reads-nothing told; is = h }
nocto-heads told root lives noac true h = record {
  new = begun (with_nocto told);
  reads = reads-nocto told h.is-nocto (early told h.is-history);
  is = record { is-root = h.is-root; is-lives = h.is-lives; is-noac = h.is-noac; is-nocto = refl; is-history = h.is-history };
}

trace-heads : (trace : Trace) → HasText trace → Heads nothing_told (head_text trace) trace.root (usual trace.lives) trace.noac trace.nocto
trace-heads trace ok =
    let a : Heads nothing_told (root_text trace.root) trace.root None false false = root-heads trace.root ok.root in
    let b : Heads a.new (lives_text trace.lives) trace.root (usual trace.lives) false false = lives-heads a.new trace.root trace.lives ok.lives a.is in
    let c : Heads b.new (line_if trace.noac (codes "noac\n")) trace.root (usual trace.lives) trace.noac false = noac-heads b.new trace.root (usual trace.lives) trace.noac b.is in
    let d : Heads c.new (line_if trace.nocto (codes "nocto\n")) trace.root (usual trace.lives) trace.noac trace.nocto = nocto-heads c.new trace.root (usual trace.lives) trace.noac trace.nocto c.is in
    let text : root_text trace.root ++ (lives_text trace.lives ++ (line_if trace.noac (codes "noac\n") ++ line_if trace.nocto (codes "nocto\n"))) ≡ head_text trace = simp append_assoc in
    subst (λ (k : List ℕ). Heads nothing_told k trace.root (usual trace.lives) trace.noac trace.nocto) text
    (heads-then nothing_told (root_text trace.root) _ trace.root trace.root None (usual trace.lives) false trace.noac false trace.nocto a
    (heads-then a.new (lives_text trace.lives) _ trace.root trace.root (usual trace.lives) (usual trace.lives) false trace.noac false trace.nocto b
    (heads-then b.new (line_if trace.noac (codes "noac\n")) _ trace.root trace.root (usual trace.lives) (usual trace.lives) trace.noac trace.noac false trace.nocto c d)))

usual-lives : (lives : ℕ) → unwrap_or (usual lives) 60000 ≡ lives
usual-lives lives = by (lives == 60000) refl
  where
    by : (t : Bool) → (lives == 60000) ≡ t → unwrap_or (if t then None else Some lives) 60000 ≡ lives
    by true e = sym (eqb-true lives 60000 e)
    by false e = refl

nothing-at : (told : Told) (past : ℕ → Server) → told.history ≡ nothing_told.history → IsAt told [] past no_server.verf (λ h. None)
nothing-at told past e = record {
  entries = ap (λ (h : History). h.entries) e;
  before = λ m lt. absurd (omega (arith, lt));
  verf_now = λ m le. ap (λ (h : History). (h.at m).verf) e;
  objects = λ m le k. ap (λ (h : History). (h.at m).object k) e;
}

-- ---- the end

-- no update stands behind the last entry
verf-stays : (start : Verf) (us : List Update) (n k : ℕ) → length us ≤ n → verf_at start us (k + n) ≡ verf_at start us n
verf-stays start us n zero le = let same : zero + n ≡ n = omega arith in ap (verf_at start us) same
verf-stays start us n (suc k) le = let next : suc k + n ≡ suc (k + n) = omega arith in ap (verf_at start us) next ∙ ap (λ (o : Option Update). verf_or o (verf_at start us (k + n))) (slice_get_past us (k + n) (omega (arith, le))) ∙ verf-stays start us n k le

object-stays : (start : List Updated) (us : List Update) (n k : ℕ) (h : List ℕ) → length us ≤ n → object_at start us (k + n) h ≡ object_at start us n h
unfolding objects_after
object-stays start us n zero h le = let same : zero + n ≡ n = omega arith in ap (λ (m : ℕ). object_at start us m h) same
object-stays start us n (suc k) h le =
    let next : suc k + n ≡ suc (k + n) = omega arith in
    ap (λ (m : ℕ). object_at start us m h) next ∙ ap (λ (o : Option Update). or_else (named (objects_of o) h) (object_at start us (k + n) h)) (slice_get_past us (k + n) (omega (arith, le))) ∙ object-stays start us n k h le

server-stays : (trace : Trace) (n m : ℕ) → length trace.updates.items ≤ n → n ≤ m → Alike (server_at trace n) (server_at trace m)
server-stays trace n m few le =
    let sum : m - n + n ≡ m = omega (arith, le) in
    record {
      verf = sym (verf-stays trace.start.verf trace.updates.items n (m - n) few) ∙ ap (verf_at trace.start.verf trace.updates.items) sum;
      object = λ h. ap (option_map object_of) (sym (object-stays trace.start.objects.items trace.updates.items n (m - n) h few) ∙ ap (λ (k : ℕ). object_at trace.start.objects.items trace.updates.items k h) sum);
    }

alike-server : (s t : Server) → Alike s t → s ≡ t
alike-server s t a = ap (λ (v : Verf). record { verf = v; object = s.object }) a.verf ∙ ap (λ (o : List ℕ → Option model.Object). record { verf = t.verf; object = o }) (fun_ext a.object)

-- where there is no update more than entries, no one stands behind the last entry
pub no-more : (trace : Trace) → length trace.updates.items ≤ length trace.entries.items → (n : ℕ) → length trace.entries.items ≤ n
    → server_at trace n ≡ server_at trace (length trace.entries.items)
no-more trace few n le = sym (alike-server (server_at trace (length trace.entries.items)) (server_at trace n) (server-stays trace (length trace.entries.items) n few le))

made-history : (h : History) (es : List Entry) (at : ℕ → Server) → h.entries ≡ es → ((n : ℕ) → h.at n ≡ at n) → h ≡ record { entries = es; at = at }
made-history h es at e f = ap (λ (k : List Entry). record { entries = k; at = h.at }) e ∙ ap (λ (k : ℕ → Server). record { entries = es; at = k }) (fun_ext f)

history-is : (trace : Trace) (told : Told) → ((n : ℕ) → length trace.entries.items ≤ n → server_at trace n ≡ server_at trace (length trace.entries.items))
    → IsAt told (map shown_entry (take (length trace.entries.items) trace.entries.items)) (server_at trace) (verf_at trace.start.verf trace.updates.items (length trace.entries.items)) (server_at trace (length trace.entries.items)).object
    → told.history ≡ shown_history (history_of trace)
history-is trace told ends at = made-history told.history (map shown_entry trace.entries.items) (server_at trace) (at.entries ∙ ap (map shown_entry) whole) (λ m. alike-server (told.history.at m) (server_at trace m) (each m (cases_lt m (length trace.entries.items))))
  where
    whole : take (length trace.entries.items) trace.entries.items ≡ trace.entries.items
    whole = take_all (length trace.entries.items) trace.entries.items (omega arith)

    count : length (map shown_entry (take (length trace.entries.items) trace.entries.items)) ≡ length trace.entries.items
    count = length-map (take (length trace.entries.items) trace.entries.items) shown_entry ∙ ap length whole

    each : (m : ℕ) → (m < length trace.entries.items) ⊎ (length trace.entries.items ≤ m) → Alike (told.history.at m) (server_at trace m)
    each m (inl lt) = at.before m (omega (arith, lt, count))
    each m (inr le) =
        let s : Alike (server_at trace (length trace.entries.items)) (server_at trace m) =
        record { verf = ap (λ (k : Server). k.verf) (sym (ends m le)); object = λ h. ap (λ (k : Server). k.object h) (sym (ends m le)) } in
        record { verf = at.verf_now m (omega (arith, le, count)) ∙ s.verf; object = λ h. at.objects m (omega (arith, le, count)) h ∙ s.object h }

-- The text of a trace is read as it.
pub reads-trace : (trace : Trace) → HasText trace → length (text_of trace) ≤ 1048576 → IsReadAgain trace (text_told (text_of trace))
unfolding text_of lines
reads-trace trace ok short =
    let head : Heads nothing_told (head_text trace) trace.root (usual trace.lives) trace.noac trace.nocto = trace-heads trace ok in
    let begin : Leaves head.new [] (server_at trace) trace.start.verf (λ h. option_map object_of (or_else (named (objects_in trace None) h) (object_before trace None h))) (start_text trace) =
    server-lines head.new [] (server_at trace) no_server.verf trace.start.verf (object_before trace None) (objects_in trace None) (λ h. None) ok.verf ok.start (nothing-at head.new (server_at trace) head.is.is-history) (λ h. refl) in
    let at : IsAt begin.new [] (server_at trace) trace.start.verf (server_at trace 0).object = at-as begin.new [] (server_at trace) trace.start.verf (λ h. option_map object_of (or_else (named (objects_in trace None) h) (object_before trace None h))) begin.at (server_at trace 0).object (λ h. ap (option_map object_of) (or-nothing (named trace.start.objects.items h))) in
    let rest : Leaves begin.new (map shown_entry (take (length trace.entries.items) trace.entries.items)) (server_at trace) (verf_at trace.start.verf trace.updates.items (length trace.entries.items))
    (server_at trace (length trace.entries.items)).object (steps_text trace (length trace.entries.items)) = steps-lines trace ok begin.new (length trace.entries.items) (omega arith) at in
    let all : Reads nothing_told (text_of trace) rest.new =
    reads-then nothing_told begin.new rest.new (head_text trace ++ start_text trace) (steps_text trace (length trace.entries.items))
    (reads-then nothing_told head.new begin.new (head_text trace) (start_text trace) head.reads begin.reads) rest.reads in
    let told : text_told (text_of trace) ≡ Ok rest.new = short-told (text_of trace) rest.new all short in
    subst (λ (r : Result Told ℕ). IsReadAgain trace r) (sym told) (record {
      root = rest.head.root ∙ begin.head.root ∙ head.is.is-root;
      lives = ap (λ (o : Option ℕ). unwrap_or o 60000) (rest.head.lives ∙ begin.head.lives ∙ head.is.is-lives) ∙ usual-lives trace.lives;
      noac = rest.head.noac ∙ begin.head.noac ∙ head.is.is-noac;
      nocto = rest.head.nocto ∙ begin.head.nocto ∙ head.is.is-nocto;
      history = history-is trace rest.new ok.ends rest.at;
    })
  where
    or-nothing : (o : Option Object) → or_else o None ≡ o
    or-nothing None = refl
    or-nothing (Some x) = refl

    short-told : (text : List ℕ) (new : Told) → Reads nothing_told text new → length text ≤ 1048576 → text_told text ≡ Ok new
    short-told text new r le =
        let p = r 0 [] in
        by (nat_lt 1048576 (length text)) refl ∙ ap (λ (k : List ℕ). after_lines 0 nothing_told (lines k)) (sym (append-nil text)) ∙ p.1
      where
        by : (t : Bool) → nat_lt 1048576 (length text) ≡ t → (if t then Err 0 else after_lines 0 nothing_told (lines text)) ≡ after_lines 0 nothing_told (lines text)
        by true e = let lt : 1048576 < length text = ltb-true 1048576 (length text) e in absurd (omega (arith, lt, le))
        by false e = refl

-- what is printed
pub reads-printed : (trace : Trace) (text : List ℕ) → HasText trace → printed trace ≡ Some text → IsReadAgain trace (text_told text)
reads-printed trace text ok is = by (nat_lt 4096 (length trace.entries.items)) (nat_lt 1048576 (length (text_of trace))) refl is
  where
    by : (s t : Bool) → nat_lt 1048576 (length (text_of trace)) ≡ t → (if s then None else (if t then None else Some (text_of trace))) ≡ Some text → IsReadAgain trace (text_told text)
    by true t f e = absurd (none-some text e)
    by false true f e = absurd (none-some text e)
    by false false f e = subst (λ (k : List ℕ). IsReadAgain trace (text_told k)) (same_Some (text_of trace) text e) (reads-trace trace ok (ltb-false 1048576 (length (text_of trace)) f))

-- bytes can spell its calls and replies
pub spelled-all : (trace : Trace) → HasText trace → All IsSpelled trace.entries.items
spelled-all trace ok k d lt = spelled (slice_index_or trace.entries.items k d) (ok.entries k (slice_index_or trace.entries.items k d) (slice_get-get_or trace.entries.items k d lt))
  where
    spelled : (entry : Entry) → IsEntry (λ lane line. last_shape lane line trace.entries.items k) entry → IsSpelled entry
    spelled (entries.Began lane line op) e = tt
    spelled (entries.Answered lane line answer) e = tt
    spelled (entries.Dialed port) e = tt
    spelled (entries.Sent bytes) e = tt
    spelled (entries.Executed xid call reply) e = e.spelled
    spelled (entries.Foreign call reply) e = e.spelled
    spelled (entries.Flushed file from len) e = tt
    spelled (entries.Reboot verf) e = tt
    spelled (entries.Delivered bytes) e = tt
    spelled entries.Failed e = tt
    spelled (entries.Clock ms) e = tt
