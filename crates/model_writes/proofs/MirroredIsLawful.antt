-- A story that reads a lawful history is lawful, and each of its calls is executed at most before its reply is taken.
use Rattle.std.proofs.Common.{inl, inr, ◌⊎◌, ◌≡◌, ◌≢◌, ◌<◌, ◌≤◌, ◌+◌, ◌-◌, ◌==◌, ℕ, zero, suc, List, [], ◌∷◌, length, take, Option, Some, None, slice_get, true, false, refl, sym, ap, subst, ◌∙◌, arith}
use Rattle.std.proofs.lemmas.Bool.{cases_lt, cases_Bool, ne_eqb}
use Rattle.nfs_types.specs.declared.set_attr.SetAttr.{SetAttr}
use Rattle.nfs_types.specs.declared.status.Status.{Status}
use Rattle.nfs_types.specs.declared.time.Time.{Time}
use Rattle.nfs_types.specs.declared.verf.Verf.{Verf}
use Rattle.nfs_types.specs.declared.wcc.Wcc.{Wcc}
use Rattle.nfs_file_calls.specs.declared.call.FileCall.TheVariants as files
use Rattle.nfs_file_calls.specs.declared.owned.FileKept.TheVariants as kept
use Rattle.world_model.specs.declared.answer.Answer.TheVariants as answers
use Rattle.world_model.specs.declared.entry.Entry.{Entry}
use Rattle.world_model.specs.declared.entry.Entry.TheVariants as entries
use Rattle.world_model.specs.declared.message.Call.{Call}
use Rattle.world_model.specs.declared.message.Call.TheVariants as calls
use Rattle.world_model.specs.declared.message.Reply.{Reply}
use Rattle.world_model.specs.declared.message.Reply.TheVariants as replies
use Rattle.world_model.specs.Bytes.{put_at, committed_part}
use Rattle.world_model.specs.Entries as histories
use Rattle.world_model.specs.FileService as service
use Rattle.world_model.specs.History.{History}
use Rattle.world_model.specs.Lawful as model
use Rattle.rpc_message.specs.Reply.{SpellsRefusal}
use Rattle.world_model.specs.Messages.{HasXid, SpellsReply}
use Rattle.claims.specs.Modes.{Modes}
use Rattle.world_model.specs.Mounts.{Origin}
use Rattle.world_model.specs.Once as model_once
use Rattle.world_model.specs.Server as servers
use Rattle.world_model.specs.Service.{Refuses, Serves, refused, broken_off}
use Rattle.world_model.specs.Service as service_of
use Rattle.world_model.specs.Steps.{Same}
use Rattle.claims.specs.Touched as touched
use Rattle.world_model.proofs.FileSteps as steps
use Rattle.world_model.proofs.Goes.{SetsSize, by_set, by_meeting}
use Rattle.world_model.proofs.Lasting.{Lasts, SameSort, entry_lasts, entry_at}
use Rattle.world_model.proofs.Verifiers.{serves_verf}
use Rattle.model_writes.specs.Story.{File, Spot, write, commit, resize, plain, wrote, committed, told, denied, Event, Began, Answered, Sent, Executed, Foreign, Reboot, Delivered, Failed, At, Alters, Told, covers, Both, Reach}
use Rattle.model_writes.specs.Story as story
use Rattle.model_writes.specs.Lawful.{Keeps, Stands, Leaves, Meddles}
use Rattle.model_writes.specs.Lawful as law
use Rattle.model_writes.specs.Mirrors.{Mirrors, MirrorsEntry, MirrorsServer, Unsized, byte_now, byte_stable, held_now, held_stable, is_gone, call_of, reply_of, sized_call}
use Rattle.model_writes.proofs.AtLemmas.{At-below, same_file_or_not}
use Rattle.model_writes.proofs.BytesLemmas.{get_take, put_here, put_above, put_beside, put_same, committed_stands, all_stable, resized_keeps, length_take_most, length_take_least}
use Rattle.model_writes.proofs.CoversLemmas.{covers_is, covers_from}
use Rattle.model_writes.proofs.FlyingBytes.{covers_file}
use Rattle.model_writes.proofs.SettledIsMirrored.{reads, reads_back}

-- ---- places that a call doesn't cover

some_or_past : (xs : List ℕ) (k : ℕ) → ((y : ℕ) × (slice_get xs k ≡ Some y)) ⊎ (length xs ≤ k)
some_or_past [] k = inr (omega arith)
some_or_past (x ∷ xs) zero = inl (x, refl)
some_or_past (x ∷ xs) (suc k) = elim (some_or_past xs k) [ inl y ↦ inl y | inr le ↦ inr (omega (arith, le)) ]

not_covered : (f : File) (o : ℕ) (bytes : List ℕ) (i : Spot) → f ≡ i.file → covers f o bytes i ≡ None → (i.at < o) ⊎ (o + length bytes ≤ i.at)
not_covered f o bytes i is none = elim (cases_lt i.at o) [
  | inl lt ↦ inl lt
  | inr ge ↦ elim (some_or_past bytes (i.at - o)) [
    | inl y ↦ absurd (cc (none, covers_from f o bytes i y.0 is ge y.1))
    | inr past ↦ inr (omega (arith, ge, past))
  ]
]

-- the bytes that came in reach a place, or it has what it had
put_or_old : (offset count : ℕ) (bytes old : List ℕ) (i y : ℕ) → offset ≤ i → slice_get bytes (i - offset) ≡ Some y → (slice_get (put_at offset (take count bytes) old) i ≡ slice_get old i) ⊎ (slice_get (put_at offset (take count bytes) old) i ≡ Some y)
put_or_old offset count bytes old i y le e = elim (cases_lt (i - offset) count) [
  | inl lt ↦ inr (put_there offset count bytes old i y le e lt)
  | inr ge ↦ let most = length_take_least count bytes in inl (put_above offset (take count bytes) old i (omega (arith, le, ge, most)))
]
  where
    put_there : (offset count : ℕ) (bytes old : List ℕ) (i y : ℕ) → offset ≤ i → slice_get bytes (i - offset) ≡ Some y → i - offset < count → slice_get (put_at offset (take count bytes) old) i ≡ Some y
    put_there offset count bytes old i y le e lt =
        let split : i ≡ offset + (i - offset) = omega (arith, le) in
        ap (λ z. slice_get (put_at offset (take count bytes) old) z) split ∙ put_here offset (take count bytes) old (i - offset) y (get_take count bytes (i - offset) lt ∙ e)

put_there : (offset count : ℕ) (bytes old : List ℕ) (i y : ℕ) → offset ≤ i → slice_get bytes (i - offset) ≡ Some y → i < offset + count → slice_get (put_at offset (take count bytes) old) i ≡ Some y
put_there offset count bytes old i y le e lt =
    let split : i ≡ offset + (i - offset) = omega (arith, le) in
    ap (λ z. slice_get (put_at offset (take count bytes) old) z) split ∙ put_here offset (take count bytes) old (i - offset) y (get_take count bytes (i - offset) (omega (arith, le, lt)) ∙ e)

steady_is : (firm offset : ℕ) (bytes stable : List ℕ) → (service.steady_after firm offset bytes stable ≡ stable) ⊎ (service.steady_after firm offset bytes stable ≡ put_at offset bytes stable)
steady_is firm offset bytes stable = elim (cases_Bool (firm == 0)) [
  | inl e ↦ let q : service.steady_after firm offset bytes stable ≡ stable = simp e refl in inl q
  | inr e ↦ let q : service.steady_after firm offset bytes stable ≡ put_at offset bytes stable = simp e refl in inr q
]

steady_firm : (firm offset : ℕ) (bytes stable : List ℕ) → 1 ≤ firm → service.steady_after firm offset bytes stable ≡ put_at offset bytes stable
steady_firm zero offset bytes stable le = absurd (omega (arith, le))
steady_firm (suc firm) offset bytes stable le = let z : (suc firm == 0) ≡ false = ne_eqb (suc firm) 0 (λ q. absurd (omega (arith, q))) in simp z refl

-- ---- a file before and after a step

data FileWas (a b : servers.Server) (f : File) : Type 0 where
  no_file : ((i : ℕ) → byte_now (a.object f) i ≡ None) → FileWas a b f
  a_file : (now stable later steady : List ℕ) → servers.HasBytes a f now stable → servers.HasBytes b f later steady → FileWas a b f

file_was : (a b : servers.Server) (f : File) → ((o : servers.Object) → a.object f ≡ Some o → Lasts o b f) → FileWas a b f
file_was a b f lasts = by (a.object f) refl
  where
    held : (o : servers.Object) (h : servers.Holds) → a.object f ≡ Some o → o.holds ≡ h → FileWas a b f
    held o (servers.Bytes now stable) is hs =
        let l = lasts o is in
        let q = subst (λ (z : servers.Holds). SameSort z l.new.holds) hs l.sort in
        a_file now stable q.0 q.1 (record { file = o; is = is; holds = hs }) (record { file = l.new; is = l.is; holds = q.2 })
    held o (servers.Entries listed) is hs = no_file (λ i. rw (is, hs) refl)
    held o (servers.Text text) is hs = no_file (λ i. rw (is, hs) refl)

    by : (o : Option servers.Object) → a.object f ≡ o → FileWas a b f
    by None is = no_file (λ i. rw is refl)
    by (Some o) is = held o o.holds is refl

pub has_now : (a : servers.Server) (f : File) (now stable : List ℕ) → servers.HasBytes a f now stable → (i : ℕ) → byte_now (a.object f) i ≡ slice_get now i
has_now a f now stable h i = rw (h.is, h.holds) refl

has_stable : (a : servers.Server) (f : File) (now stable : List ℕ) → servers.HasBytes a f now stable → (i : ℕ) → byte_stable (a.object f) i ≡ slice_get stable i
has_stable a f now stable h i = rw (h.is, h.holds) refl

-- a byte that is there stays, and one that is there and stable stays both
abbrev ByteKept : List ℕ → List ℕ → List ℕ → List ℕ → ℕ → Type 0
ByteKept now stable later steady i = ((b : ℕ) → slice_get now i ≡ Some b → slice_get later i ≡ Some b) × ((b : ℕ) → slice_get now i ≡ Some b → slice_get stable i ≡ Some b → slice_get steady i ≡ Some b)

module _ (a b : servers.Server) (old new : story.Server) (mo : MirrorsServer a old) (mn : MirrorsServer b new) where
  verf_is : b.verf ≡ a.verf → new.verf ≡ old.verf
  verf_is e = mn.verf ∙ ap (λ (v : Verf). v.0) e ∙ sym mo.verf

  object_now : (i : Spot) → b.object i.file ≡ a.object i.file → new.now i ≡ old.now i
  object_now i e = mn.now i ∙ ap (λ o. byte_now o i.at) e ∙ sym (mo.now i)

  object_stable : (i : Spot) → b.object i.file ≡ a.object i.file → new.stable i ≡ old.stable i
  object_stable i e = mn.stable i ∙ ap (λ o. byte_stable o i.at) e ∙ sym (mo.stable i)

  object_keeps : (i : Spot) → b.verf ≡ a.verf → b.object i.file ≡ a.object i.file → Keeps old new i
  object_keeps i v e = record { verf = verf_is v; now = λ y is. object_now i e ∙ is; both = λ y is. (object_now i e ∙ is.0, object_stable i e ∙ is.1) }

  same_stands : Same a b → Stands old new
  same_stands same i = object_keeps i same.verf (same.object i.file)

  file_keeps : (i : Spot) (now stable later steady : List ℕ) → b.verf ≡ a.verf → servers.HasBytes a i.file now stable → servers.HasBytes b i.file later steady → ByteKept now stable later steady i.at → Keeps old new i
  file_keeps i now stable later steady v ha hb q = record {
    verf = verf_is v;
    now = λ y is. mn.now i ∙ has_now b i.file later steady hb i.at ∙ q.0 y (sym (has_now a i.file now stable ha i.at) ∙ sym (mo.now i) ∙ is);
    both = λ y is. (
      mn.now i ∙ has_now b i.file later steady hb i.at ∙ q.0 y (sym (has_now a i.file now stable ha i.at) ∙ sym (mo.now i) ∙ is.0),
      mn.stable i ∙ has_stable b i.file later steady hb i.at ∙ q.1 y (sym (has_now a i.file now stable ha i.at) ∙ sym (mo.now i) ∙ is.0) (sym (has_stable a i.file now stable ha i.at) ∙ sym (mo.stable i) ∙ is.1),
    );
  }

  -- what is no file keeps no byte; what is one is a file after the step
  keeps_by : (i : Spot) → b.verf ≡ a.verf → ((o : servers.Object) → a.object i.file ≡ Some o → Lasts o b i.file)
      → ((now stable later steady : List ℕ) → servers.HasBytes a i.file now stable → servers.HasBytes b i.file later steady → ByteKept now stable later steady i.at) → Keeps old new i
  keeps_by i v lasts q = elim (file_was a b i.file lasts) [
    | no_file none ↦ record { verf = verf_is v; now = λ y is. absurd (cc (sym (none i.at) ∙ sym (mo.now i) ∙ is)); both = λ y is. absurd (cc (sym (none i.at) ∙ sym (mo.now i) ∙ is.0)) }
    | a_file now stable later steady ha hb ↦ file_keeps i now stable later steady v ha hb (q now stable later steady ha hb)
  ]

  -- ---- calls that change no byte but by a size that isn't theirs

  plain_kept : (call : Call) (reply : Reply) (f now stable later steady : List ℕ) (i : ℕ) → call_of call ≡ plain 0 → Unsized call → steps.BytesGo b call reply f now stable later steady → ByteKept now stable later steady i
  plain_kept call reply f now stable later steady i p un (steps.kept e g) = (λ y is. rw e is, λ y is st. rw g st)
  plain_kept call reply f now stable later steady i p un (steps.by_write offset how bytes count is e g) = absurd (cc (rw is at p))
  plain_kept call reply f now stable later steady i p un (steps.by_commit offset count is e g) = (λ y n. rw e n, λ y n st. rw g (put_same offset (committed_part offset count now) now stable (committed_stands offset count now) i y n st))
  plain_kept call reply f now stable later steady i p un (steps.by_size size (by_set set guard wcc is answer sz) e g) = absurd (not_plain f set.size size sz (rw is at p))
    where
      not_plain : (f : File) (o : Option ℕ) (size : ℕ) → o ≡ Some size → sized_call f o ≡ plain 0 → ⊥
      not_plain f None size e q = absurd (cc e)
      not_plain f (Some z) size e q = absurd (cc q)
  plain_kept call reply f now stable later steady i p un (steps.by_size size (by_meeting d name set object attr wcc is answer named sz) e g) = absurd (cc (un d name set is, sz))

  plain_stands : (call : Call) (reply : Reply) → call_of call ≡ plain 0 → Unsized call → Serves a call reply b → ((f : File) (o : servers.Object) → a.object f ≡ Some o → Lasts o b f) → Stands old new
  plain_stands call reply p un sv lasts i = keeps_by i (serves_verf a b call reply sv) (lasts i.file) (λ now stable later steady ha hb. plain_kept call reply i.file now stable later steady i.at p un (steps.bytes_go a b call reply i.file now stable later steady sv ha hb))

  -- ---- WRITE

  puts_story : (f : File) (offset how count : ℕ) (bytes now stable steady : List ℕ) → service.Puts a b f now stable (put_at offset (take count bytes) now) steady → (steady ≡ stable) ⊎ (steady ≡ put_at offset (take count bytes) stable) → law.Puts old new (write f offset bytes how)
  puts_story f offset how count bytes now stable steady p st =
      let later : List ℕ = put_at offset (take count bytes) now in
      let ha : servers.HasBytes a f now stable = record { file = p.file; is = p.turns.has.is; holds = p.held } in
      let hb : servers.HasBytes b f (put_at offset (take count bytes) now) steady = record { file = p.turns.new; is = p.turns.is; holds = p.turns.becomes.holds } in
      record {
        verf = verf_is p.only.verf;
        others = λ i none. elim (same_file_or_not i.file f) [
          | inl is ↦
              let most = length_take_most count bytes in
              let beside : (i.at < offset) ⊎ (offset + length (take count bytes) ≤ i.at) = elim (not_covered f offset bytes i (sym is) none) [ inl lt ↦ inl lt | inr ge ↦ inr (omega (arith, ge, most)) ] in
              file_keeps i now stable (put_at offset (take count bytes) now) steady p.only.verf (rw is ha) (rw is hb) (
                λ y n. put_beside offset (take count bytes) now i.at y beside n,
                λ y n s. elim st [ inl e ↦ rw e s | inr e ↦ rw e (put_beside offset (take count bytes) stable i.at y beside s) ],
              )
          | inr ne ↦ object_keeps i p.only.verf (p.only.others i.file ne)
        ];
        covered = λ i y e. (
            let is : f ≡ i.file = covers_file f offset bytes i y e in
            let c = covers_is f offset bytes i y e in
            let on : old.now i ≡ slice_get now i.at = mo.now i ∙ rw (← is) (has_now a f now stable ha i.at) in
            let os : old.stable i ≡ slice_get stable i.at = mo.stable i ∙ rw (← is) (has_stable a f now stable ha i.at) in
            let nn : new.now i ≡ slice_get (put_at offset (take count bytes) now) i.at = mn.now i ∙ rw (← is) (has_now b f (put_at offset (take count bytes) now) steady hb i.at) in
            let ns : new.stable i ≡ slice_get steady i.at = mn.stable i ∙ rw (← is) (has_stable b f (put_at offset (take count bytes) now) steady hb i.at) in (
              elim (put_or_old offset count bytes now i.at y c.0 c.1) [ inl q ↦ inl (nn ∙ q ∙ sym on) | inr q ↦ inr (nn ∙ q) ],
              elim st [
                | inl z ↦ inl (ns ∙ ap (λ (l : List ℕ). slice_get l i.at) z ∙ sym os)
                | inr z ↦ elim (put_or_old offset count bytes stable i.at y c.0 c.1) [ inl q ↦ inl (ns ∙ ap (λ (l : List ℕ). slice_get l i.at) z ∙ q ∙ sym os) | inr q ↦ inr (ns ∙ ap (λ (l : List ℕ). slice_get l i.at) z ∙ q) ]
              ],
            )
            );
      }

  refused_puts : (f : File) (offset how : ℕ) (bytes : List ℕ) → Same a b → law.Puts old new (write f offset bytes how)
  refused_puts f offset how bytes same = record {
    verf = verf_is same.verf;
    others = λ i none. object_keeps i same.verf (same.object i.file);
    covered = λ i y e. (inl (object_now i (same.object i.file)), inl (object_stable i (same.object i.file)));
  }

  writes_story : (f : File) (offset how count firm : ℕ) (bytes : List ℕ) (verf : Verf) (wcc : Wcc) → service.Writes a b f offset how bytes wcc count firm verf → law.Writes old new (write f offset bytes how) count firm verf.0
  writes_story f offset how count firm bytes verf wcc w =
      let p = w.puts in
      let hb : servers.HasBytes b f (put_at offset (take count bytes) w.now) (service.steady_after firm offset (take count bytes) w.stable) = record { file = p.turns.new; is = p.turns.is; holds = p.turns.becomes.holds } in
      record {
        puts = puts_story f offset how count bytes w.now w.stable (service.steady_after firm offset (take count bytes) w.stable) p (steady_is firm offset (take count bytes) w.stable);
        says = ap (λ (v : Verf). v.0) w.verifier ∙ sym mo.verf;
        there = λ i y e reach. (
            let is : f ≡ i.file = covers_file f offset bytes i y e in
            let c = covers_is f offset bytes i y e in (
              mn.now i ∙ rw (← is) (has_now b f (put_at offset (take count bytes) w.now) (service.steady_after firm offset (take count bytes) w.stable) hb i.at) ∙ put_there offset count bytes w.now i.at y c.0 c.1 reach,
              λ le. mn.stable i ∙ rw (← is) (has_stable b f (put_at offset (take count bytes) w.now) (service.steady_after firm offset (take count bytes) w.stable) hb i.at) ∙ ap (λ (l : List ℕ). slice_get l i.at) (steady_firm firm offset (take count bytes) w.stable le) ∙ put_there offset count bytes w.stable i.at y c.0 c.1 reach,
            )
            );
      }

  -- ---- COMMIT of all

  sound_length : (a : servers.Server) → servers.IsServer a → (f now stable : List ℕ) → servers.HasBytes a f now stable → length stable ≤ length now
  sound_length a ok f now stable h = by (ok f h.file h.is)
    where
      two : (x y u v : List ℕ) → servers.Bytes x y ≡ servers.Bytes u v → (x ≡ u) × (y ≡ v)
      two x y u v e = (cc, cc)

      by : servers.IsSound h.file → length stable ≤ length now
      by (servers.file x y e kind size le) = let q = two x y now stable (sym e ∙ h.holds) in rw (q.0, q.1) at le
      by (servers.directory listed e kind all) = absurd (cc (sym e ∙ h.holds))
      by (servers.other text e n1 n2) = absurd (cc (sym e ∙ h.holds))

  commits_story : servers.IsServer a → (f : File) (verf : Verf) (wcc : Wcc) → service.Commits a b f 0 0 wcc verf → law.Commits old new f verf.0
  commits_story ok f verf wcc c =
      let p = c.puts in
      let ha : servers.HasBytes a f c.now c.stable = record { file = p.file; is = p.turns.has.is; holds = p.held } in
      let hb : servers.HasBytes b f c.now (put_at 0 (committed_part 0 0 c.now) c.stable) = record { file = p.turns.new; is = p.turns.is; holds = p.turns.becomes.holds } in
      record {
        says = ap (λ (v : Verf). v.0) c.verifier ∙ sym mo.verf;
        verf = verf_is p.only.verf;
        there = λ i e. (
            let on : old.now i ≡ slice_get c.now i.at = mo.now i ∙ rw e (has_now a f c.now c.stable ha i.at) in (
              mn.now i ∙ rw e (has_now b f c.now (put_at 0 (committed_part 0 0 c.now) c.stable) hb i.at) ∙ sym on,
              mn.stable i ∙ rw e (has_stable b f c.now (put_at 0 (committed_part 0 0 c.now) c.stable) hb i.at) ∙ all_stable c.now c.stable i.at (sound_length a ok f c.now c.stable ha) ∙ sym on,
            )
            );
        others = λ i ne. object_keeps i p.only.verf (p.only.others i.file ne);
      }

  -- ---- sizes

  sized_kept : (f : File) (set : SetAttr) (guard : Option Time) (reply : Reply) (size : ℕ) → set.size ≡ Some size → (g now stable later steady : List ℕ) (i : ℕ) → (g ≡ f → i < size) → steps.BytesGo b (calls.File (files.SetAttr f set guard)) reply g now stable later steady
      → ByteKept now stable later steady i
  sized_kept f set guard reply size sz g now stable later steady i low (steps.kept e q) = (λ y is. rw e is, λ y is st. rw q st)
  sized_kept f set guard reply size sz g now stable later steady i low (steps.by_write offset how bytes count is e q) = absurd (cc is)
  sized_kept f set guard reply size sz g now stable later steady i low (steps.by_commit offset count is e q) = absurd (cc is)
  sized_kept f set guard reply size sz g now stable later steady i low (steps.by_size z (by_set other_set other_guard wcc is answer oz) e q) =
      let same = set_is f set guard g other_set other_guard is in
      let one : z ≡ size = number_is z size (sym oz ∙ ap (λ (t : SetAttr). t.size) (sym same.1) ∙ sz) in
      let lt = low (sym same.0) in
      (λ y n. rw e (resized_keeps z now i y (omega (arith, one, lt)) n), λ y n st. rw q (resized_keeps z stable i y (omega (arith, one, lt)) st))
    where
      set_is : (f : File) (set : SetAttr) (guard : Option Time) (g : File) (z : SetAttr) (h : Option Time) → calls.File (files.SetAttr f set guard) ≡ calls.File (files.SetAttr g z h) → (f ≡ g) × (set ≡ z)
      set_is f set guard g z h e = (cc, cc)

      number_is : (a b : ℕ) → Some a ≡ Some b → a ≡ b
      number_is a b e = cc
  sized_kept f set guard reply size sz g now stable later steady i low (steps.by_size z (by_meeting d name other_set object attr wcc is answer named oz) e q) = absurd (cc is)

  sized_story : (f : File) (set : SetAttr) (guard : Option Time) (reply : Reply) → Serves a (calls.File (files.SetAttr f set guard)) reply b → ((g : File) (o : servers.Object) → a.object g ≡ Some o → Lasts o b g) → (size : ℕ) → set.size ≡ Some size → Leaves old (resize f size) new
  sized_story f set guard reply sv lasts size sz i = elim (cases_lt i.at size) [
    | inl lt ↦ inr (inr (keeps (λ e. lt)))
    | inr ge ↦ elim (same_file_or_not i.file f) [ inl is ↦ inl (is, ge) | inr ne ↦ inr (inr (keeps (λ e. absurd (ne e)))) ]
  ]
    where
      keeps : (i.file ≡ f → i.at < size) → Keeps old new i
      keeps low = keeps_by i (serves_verf a b (calls.File (files.SetAttr f set guard)) reply sv) (lasts i.file) (λ now stable later steady ha hb. sized_kept f set guard reply size sz i.file now stable later steady i.at low (steps.bytes_go a b (calls.File (files.SetAttr f set guard)) reply i.file now stable later steady sv ha hb))

  -- ---- any call of this client

  failed_write : (f : File) (offset how : ℕ) (bytes : List ℕ) (n : ℕ) → n ≢ 0 → law.Puts old new (write f offset bytes how) → law.Serves old (write f offset bytes how) (wrote n 0 0 []) new
  failed_write f offset how bytes zero nz p = absurd (nz refl)
  failed_write f offset how bytes (suc n) nz p = p

  failed_commit : (f : File) (n : ℕ) → n ≢ 0 → Stands old new → law.Serves old (commit f) (committed n []) new
  failed_commit f zero nz p = absurd (nz refl)
  failed_commit f (suc n) nz p = p

  write_is : (f : File) (offset how : ℕ) (bytes : List ℕ) (g : File) (o h : ℕ) (y : List ℕ) → calls.File (files.Write f offset how bytes) ≡ calls.File (files.Write g o h y) → (f ≡ g) × (offset ≡ o) × (how ≡ h) × (bytes ≡ y)
  write_is f offset how bytes g o h y e = (cc, cc, cc, cc)

  status_is : (n k : Status) (v w : Wcc) → replies.File (kept.WriteFail n v) ≡ replies.File (kept.WriteFail k w) → n ≡ k
  status_is n k v w e = cc

  serves_write : (f : File) (offset how : ℕ) (bytes : List ℕ) (reply : Reply) → Serves a (calls.File (files.Write f offset how bytes)) reply b → law.Serves old (write f offset bytes how) (reply_of (write f offset bytes how) reply) new
  serves_write f offset how bytes (replies.File (kept.Write wcc count firm verf)) (service_of.done d) = writes_story f offset how count firm bytes verf wcc d
  serves_write f offset how bytes (replies.File (kept.Write wcc count firm verf)) (refused r same) = absurd r
  serves_write f offset how bytes (replies.File (kept.Write wcc count firm verf)) (broken_off g o h y st w is answer x) = absurd (cc answer)
  serves_write f offset how bytes (replies.File (kept.WriteFail status wcc)) (refused r same) = failed_write f offset how bytes status.0 r.nonzero (refused_puts f offset how bytes same)
  serves_write f offset how bytes (replies.File (kept.WriteFail status wcc)) (broken_off g o h y st w is answer x) =
      let q = write_is f offset how bytes g o h y is in
      let z = status_is status st wcc w answer in
      failed_write f offset how bytes status.0 (λ e. x.nonzero (sym (ap (λ (v : Status). v.0) z) ∙ e)) (rw (q.0, q.1, q.3) (puts_story g o how x.count y x.now x.stable x.steady x.puts x.kept))
  serves_write f offset how bytes (replies.File (kept.WriteFail status wcc)) (service_of.done d) = absurd d
  serves_write f offset how bytes (replies.File kept.Null) (refused r same) = absurd r
  serves_write f offset how bytes (replies.File kept.Null) (broken_off g o h y st w is answer x) = absurd (cc answer)
  serves_write f offset how bytes (replies.File kept.Null) (service_of.done d) = absurd d
  serves_write f offset how bytes (replies.File (kept.GetAttr x0)) (refused r same) = absurd r
  serves_write f offset how bytes (replies.File (kept.GetAttr x0)) (broken_off g o h y st w is answer x) = absurd (cc answer)
  serves_write f offset how bytes (replies.File (kept.GetAttr x0)) (service_of.done d) = absurd d
  serves_write f offset how bytes (replies.File (kept.GetAttrFail x0)) (refused r same) = absurd r
  serves_write f offset how bytes (replies.File (kept.GetAttrFail x0)) (broken_off g o h y st w is answer x) = absurd (cc answer)
  serves_write f offset how bytes (replies.File (kept.GetAttrFail x0)) (service_of.done d) = absurd d
  serves_write f offset how bytes (replies.File (kept.SetAttr x0)) (refused r same) = absurd r
  serves_write f offset how bytes (replies.File (kept.SetAttr x0)) (broken_off g o h y st w is answer x) = absurd (cc answer)
  serves_write f offset how bytes (replies.File (kept.SetAttr x0)) (service_of.done d) = absurd d
  serves_write f offset how bytes (replies.File (kept.SetAttrFail x0 x1)) (refused r same) = absurd r
  serves_write f offset how bytes (replies.File (kept.SetAttrFail x0 x1)) (broken_off g o h y st w is answer x) = absurd (cc answer)
  serves_write f offset how bytes (replies.File (kept.SetAttrFail x0 x1)) (service_of.done d) = absurd d
  serves_write f offset how bytes (replies.File (kept.Access x0 x1)) (refused r same) = absurd r
  serves_write f offset how bytes (replies.File (kept.Access x0 x1)) (broken_off g o h y st w is answer x) = absurd (cc answer)
  serves_write f offset how bytes (replies.File (kept.Access x0 x1)) (service_of.done d) = absurd d
  serves_write f offset how bytes (replies.File (kept.AccessFail x0 x1)) (refused r same) = absurd r
  serves_write f offset how bytes (replies.File (kept.AccessFail x0 x1)) (broken_off g o h y st w is answer x) = absurd (cc answer)
  serves_write f offset how bytes (replies.File (kept.AccessFail x0 x1)) (service_of.done d) = absurd d
  serves_write f offset how bytes (replies.File (kept.Read x0 x1 x2 x3)) (refused r same) = absurd r
  serves_write f offset how bytes (replies.File (kept.Read x0 x1 x2 x3)) (broken_off g o h y st w is answer x) = absurd (cc answer)
  serves_write f offset how bytes (replies.File (kept.Read x0 x1 x2 x3)) (service_of.done d) = absurd d
  serves_write f offset how bytes (replies.File (kept.ReadFail x0 x1)) (refused r same) = absurd r
  serves_write f offset how bytes (replies.File (kept.ReadFail x0 x1)) (broken_off g o h y st w is answer x) = absurd (cc answer)
  serves_write f offset how bytes (replies.File (kept.ReadFail x0 x1)) (service_of.done d) = absurd d
  serves_write f offset how bytes (replies.File (kept.FsStat x0 x1 x2 x3 x4 x5 x6 x7)) (refused r same) = absurd r
  serves_write f offset how bytes (replies.File (kept.FsStat x0 x1 x2 x3 x4 x5 x6 x7)) (broken_off g o h y st w is answer x) = absurd (cc answer)
  serves_write f offset how bytes (replies.File (kept.FsStat x0 x1 x2 x3 x4 x5 x6 x7)) (service_of.done d) = absurd d
  serves_write f offset how bytes (replies.File (kept.FsStatFail x0 x1)) (refused r same) = absurd r
  serves_write f offset how bytes (replies.File (kept.FsStatFail x0 x1)) (broken_off g o h y st w is answer x) = absurd (cc answer)
  serves_write f offset how bytes (replies.File (kept.FsStatFail x0 x1)) (service_of.done d) = absurd d
  serves_write f offset how bytes (replies.File (kept.FsInfo x0 x1 x2 x3 x4 x5 x6 x7 x8 x9 x10)) (refused r same) = absurd r
  serves_write f offset how bytes (replies.File (kept.FsInfo x0 x1 x2 x3 x4 x5 x6 x7 x8 x9 x10)) (broken_off g o h y st w is answer x) = absurd (cc answer)
  serves_write f offset how bytes (replies.File (kept.FsInfo x0 x1 x2 x3 x4 x5 x6 x7 x8 x9 x10)) (service_of.done d) = absurd d
  serves_write f offset how bytes (replies.File (kept.FsInfoFail x0 x1)) (refused r same) = absurd r
  serves_write f offset how bytes (replies.File (kept.FsInfoFail x0 x1)) (broken_off g o h y st w is answer x) = absurd (cc answer)
  serves_write f offset how bytes (replies.File (kept.FsInfoFail x0 x1)) (service_of.done d) = absurd d
  serves_write f offset how bytes (replies.File (kept.PathConf x0 x1 x2 x3 x4 x5 x6)) (refused r same) = absurd r
  serves_write f offset how bytes (replies.File (kept.PathConf x0 x1 x2 x3 x4 x5 x6)) (broken_off g o h y st w is answer x) = absurd (cc answer)
  serves_write f offset how bytes (replies.File (kept.PathConf x0 x1 x2 x3 x4 x5 x6)) (service_of.done d) = absurd d
  serves_write f offset how bytes (replies.File (kept.PathConfFail x0 x1)) (refused r same) = absurd r
  serves_write f offset how bytes (replies.File (kept.PathConfFail x0 x1)) (broken_off g o h y st w is answer x) = absurd (cc answer)
  serves_write f offset how bytes (replies.File (kept.PathConfFail x0 x1)) (service_of.done d) = absurd d
  serves_write f offset how bytes (replies.File (kept.Commit x0 x1)) (refused r same) = absurd r
  serves_write f offset how bytes (replies.File (kept.Commit x0 x1)) (broken_off g o h y st w is answer x) = absurd (cc answer)
  serves_write f offset how bytes (replies.File (kept.Commit x0 x1)) (service_of.done d) = absurd d
  serves_write f offset how bytes (replies.File (kept.CommitFail x0 x1)) (refused r same) = absurd r
  serves_write f offset how bytes (replies.File (kept.CommitFail x0 x1)) (broken_off g o h y st w is answer x) = absurd (cc answer)
  serves_write f offset how bytes (replies.File (kept.CommitFail x0 x1)) (service_of.done d) = absurd d
  serves_write f offset how bytes (replies.Dir x) (refused r same) = absurd r
  serves_write f offset how bytes (replies.Dir x) (broken_off g o h y st w is answer z) = absurd (cc answer)
  serves_write f offset how bytes (replies.Dir x) (service_of.done d) = absurd d
  serves_write f offset how bytes (replies.Mount x) (refused r same) = absurd r
  serves_write f offset how bytes (replies.Mount x) (broken_off g o h y st w is answer z) = absurd (cc answer)
  serves_write f offset how bytes (replies.Mount x) (service_of.done d) = absurd d

  serves_commit : servers.IsServer a → (f : File) (reply : Reply) → Serves a (calls.File (files.Commit f 0 0)) reply b → law.Serves old (commit f) (reply_of (commit f) reply) new
  serves_commit ok f (replies.File (kept.Commit wcc verf)) (service_of.done d) = commits_story ok f verf wcc d
  serves_commit ok f (replies.File (kept.Commit wcc verf)) (refused r same) = absurd r
  serves_commit ok f (replies.File (kept.Commit wcc verf)) (broken_off g o h y st w is answer x) = absurd (cc answer)
  serves_commit ok f (replies.File (kept.CommitFail status wcc)) (refused r same) = failed_commit f status.0 r.nonzero (same_stands same)
  serves_commit ok f (replies.File (kept.CommitFail status wcc)) (broken_off g o h y st w is answer x) = absurd (cc answer)
  serves_commit ok f (replies.File (kept.CommitFail status wcc)) (service_of.done d) = absurd d
  serves_commit ok f (replies.File kept.Null) (refused r same) = absurd r
  serves_commit ok f (replies.File kept.Null) (broken_off g o h y st w is answer x) = absurd (cc answer)
  serves_commit ok f (replies.File kept.Null) (service_of.done d) = absurd d
  serves_commit ok f (replies.File (kept.GetAttr x0)) (refused r same) = absurd r
  serves_commit ok f (replies.File (kept.GetAttr x0)) (broken_off g o h y st w is answer x) = absurd (cc answer)
  serves_commit ok f (replies.File (kept.GetAttr x0)) (service_of.done d) = absurd d
  serves_commit ok f (replies.File (kept.GetAttrFail x0)) (refused r same) = absurd r
  serves_commit ok f (replies.File (kept.GetAttrFail x0)) (broken_off g o h y st w is answer x) = absurd (cc answer)
  serves_commit ok f (replies.File (kept.GetAttrFail x0)) (service_of.done d) = absurd d
  serves_commit ok f (replies.File (kept.SetAttr x0)) (refused r same) = absurd r
  serves_commit ok f (replies.File (kept.SetAttr x0)) (broken_off g o h y st w is answer x) = absurd (cc answer)
  serves_commit ok f (replies.File (kept.SetAttr x0)) (service_of.done d) = absurd d
  serves_commit ok f (replies.File (kept.SetAttrFail x0 x1)) (refused r same) = absurd r
  serves_commit ok f (replies.File (kept.SetAttrFail x0 x1)) (broken_off g o h y st w is answer x) = absurd (cc answer)
  serves_commit ok f (replies.File (kept.SetAttrFail x0 x1)) (service_of.done d) = absurd d
  serves_commit ok f (replies.File (kept.Access x0 x1)) (refused r same) = absurd r
  serves_commit ok f (replies.File (kept.Access x0 x1)) (broken_off g o h y st w is answer x) = absurd (cc answer)
  serves_commit ok f (replies.File (kept.Access x0 x1)) (service_of.done d) = absurd d
  serves_commit ok f (replies.File (kept.AccessFail x0 x1)) (refused r same) = absurd r
  serves_commit ok f (replies.File (kept.AccessFail x0 x1)) (broken_off g o h y st w is answer x) = absurd (cc answer)
  serves_commit ok f (replies.File (kept.AccessFail x0 x1)) (service_of.done d) = absurd d
  serves_commit ok f (replies.File (kept.Read x0 x1 x2 x3)) (refused r same) = absurd r
  serves_commit ok f (replies.File (kept.Read x0 x1 x2 x3)) (broken_off g o h y st w is answer x) = absurd (cc answer)
  serves_commit ok f (replies.File (kept.Read x0 x1 x2 x3)) (service_of.done d) = absurd d
  serves_commit ok f (replies.File (kept.ReadFail x0 x1)) (refused r same) = absurd r
  serves_commit ok f (replies.File (kept.ReadFail x0 x1)) (broken_off g o h y st w is answer x) = absurd (cc answer)
  serves_commit ok f (replies.File (kept.ReadFail x0 x1)) (service_of.done d) = absurd d
  serves_commit ok f (replies.File (kept.Write x0 x1 x2 x3)) (refused r same) = absurd r
  serves_commit ok f (replies.File (kept.Write x0 x1 x2 x3)) (broken_off g o h y st w is answer x) = absurd (cc answer)
  serves_commit ok f (replies.File (kept.Write x0 x1 x2 x3)) (service_of.done d) = absurd d
  serves_commit ok f (replies.File (kept.WriteFail x0 x1)) (refused r same) = absurd r
  serves_commit ok f (replies.File (kept.WriteFail x0 x1)) (broken_off g o h y st w is answer x) = absurd (cc answer)
  serves_commit ok f (replies.File (kept.WriteFail x0 x1)) (service_of.done d) = absurd d
  serves_commit ok f (replies.File (kept.FsStat x0 x1 x2 x3 x4 x5 x6 x7)) (refused r same) = absurd r
  serves_commit ok f (replies.File (kept.FsStat x0 x1 x2 x3 x4 x5 x6 x7)) (broken_off g o h y st w is answer x) = absurd (cc answer)
  serves_commit ok f (replies.File (kept.FsStat x0 x1 x2 x3 x4 x5 x6 x7)) (service_of.done d) = absurd d
  serves_commit ok f (replies.File (kept.FsStatFail x0 x1)) (refused r same) = absurd r
  serves_commit ok f (replies.File (kept.FsStatFail x0 x1)) (broken_off g o h y st w is answer x) = absurd (cc answer)
  serves_commit ok f (replies.File (kept.FsStatFail x0 x1)) (service_of.done d) = absurd d
  serves_commit ok f (replies.File (kept.FsInfo x0 x1 x2 x3 x4 x5 x6 x7 x8 x9 x10)) (refused r same) = absurd r
  serves_commit ok f (replies.File (kept.FsInfo x0 x1 x2 x3 x4 x5 x6 x7 x8 x9 x10)) (broken_off g o h y st w is answer x) = absurd (cc answer)
  serves_commit ok f (replies.File (kept.FsInfo x0 x1 x2 x3 x4 x5 x6 x7 x8 x9 x10)) (service_of.done d) = absurd d
  serves_commit ok f (replies.File (kept.FsInfoFail x0 x1)) (refused r same) = absurd r
  serves_commit ok f (replies.File (kept.FsInfoFail x0 x1)) (broken_off g o h y st w is answer x) = absurd (cc answer)
  serves_commit ok f (replies.File (kept.FsInfoFail x0 x1)) (service_of.done d) = absurd d
  serves_commit ok f (replies.File (kept.PathConf x0 x1 x2 x3 x4 x5 x6)) (refused r same) = absurd r
  serves_commit ok f (replies.File (kept.PathConf x0 x1 x2 x3 x4 x5 x6)) (broken_off g o h y st w is answer x) = absurd (cc answer)
  serves_commit ok f (replies.File (kept.PathConf x0 x1 x2 x3 x4 x5 x6)) (service_of.done d) = absurd d
  serves_commit ok f (replies.File (kept.PathConfFail x0 x1)) (refused r same) = absurd r
  serves_commit ok f (replies.File (kept.PathConfFail x0 x1)) (broken_off g o h y st w is answer x) = absurd (cc answer)
  serves_commit ok f (replies.File (kept.PathConfFail x0 x1)) (service_of.done d) = absurd d
  serves_commit ok f (replies.Dir x) (refused r same) = absurd r
  serves_commit ok f (replies.Dir x) (broken_off g o h y st w is answer z) = absurd (cc answer)
  serves_commit ok f (replies.Dir x) (service_of.done d) = absurd d
  serves_commit ok f (replies.Mount x) (refused r same) = absurd r
  serves_commit ok f (replies.Mount x) (broken_off g o h y st w is answer z) = absurd (cc answer)
  serves_commit ok f (replies.Mount x) (service_of.done d) = absurd d

  serves_set : (f : File) (set : SetAttr) (guard : Option Time) (reply : Reply) → Serves a (calls.File (files.SetAttr f set guard)) reply b → ((g : File) (o : servers.Object) → a.object g ≡ Some o → Lasts o b g)
      → (o : Option ℕ) → set.size ≡ o → law.Serves old (sized_call f o) (reply_of (sized_call f o) reply) new
  serves_set f set guard reply sv lasts None sz = λ i. inr (inr (plain_stands (calls.File (files.SetAttr f set guard)) reply (ap (sized_call f) sz) (λ d name z e. absurd (cc e)) sv lasts i))
  serves_set f set guard reply sv lasts (Some size) sz = sized_story f set guard reply sv lasts size sz

  serves_plain : (call : Call) (reply : Reply) → call_of call ≡ plain 0 → Unsized call → Serves a call reply b → ((g : File) (o : servers.Object) → a.object g ≡ Some o → Lasts o b g) → law.Serves old (plain 0) (reply_of (plain 0) reply) new
  serves_plain call reply p un sv lasts = λ i. inr (inr (plain_stands call reply p un sv lasts i))

  serves_story : servers.IsServer a → (call : Call) (reply : Reply) → Unsized call → Serves a call reply b → ((g : File) (o : servers.Object) → a.object g ≡ Some o → Lasts o b g) → law.Serves old (call_of call) (reply_of (call_of call) reply) new
  serves_story ok (calls.File (files.Write f offset how bytes)) reply un sv lasts = serves_write f offset how bytes reply sv
  serves_story ok (calls.File (files.Commit f zero zero)) reply un sv lasts = serves_commit ok f reply sv
  serves_story ok (calls.File (files.Commit f zero (suc count))) reply un sv lasts = serves_plain (calls.File (files.Commit f zero (suc count))) reply refl un sv lasts
  serves_story ok (calls.File (files.Commit f (suc offset) count)) reply un sv lasts = serves_plain (calls.File (files.Commit f (suc offset) count)) reply refl un sv lasts
  serves_story ok (calls.File (files.SetAttr f set guard)) reply un sv lasts = serves_set f set guard reply sv lasts set.size refl
  serves_story ok (calls.File files.Null) reply un sv lasts = serves_plain (calls.File files.Null) reply refl un sv lasts
  serves_story ok (calls.File (files.GetAttr f)) reply un sv lasts = serves_plain (calls.File (files.GetAttr f)) reply refl un sv lasts
  serves_story ok (calls.File (files.Access f x)) reply un sv lasts = serves_plain (calls.File (files.Access f x)) reply refl un sv lasts
  serves_story ok (calls.File (files.Read f x y)) reply un sv lasts = serves_plain (calls.File (files.Read f x y)) reply refl un sv lasts
  serves_story ok (calls.File (files.FsStat f)) reply un sv lasts = serves_plain (calls.File (files.FsStat f)) reply refl un sv lasts
  serves_story ok (calls.File (files.FsInfo f)) reply un sv lasts = serves_plain (calls.File (files.FsInfo f)) reply refl un sv lasts
  serves_story ok (calls.File (files.PathConf f)) reply un sv lasts = serves_plain (calls.File (files.PathConf f)) reply refl un sv lasts
  serves_story ok (calls.Dir call) reply un sv lasts = serves_plain (calls.Dir call) reply refl un sv lasts
  serves_story ok (calls.Mount call) reply un sv lasts = serves_plain (calls.Mount call) reply refl un sv lasts

  -- ---- what other clients do, a flush, a restart

  absent_keeps : (i : Spot) → b.verf ≡ a.verf → ((j : ℕ) → byte_now (a.object i.file) j ≡ None) → Keeps old new i
  absent_keeps i v none = record { verf = verf_is v; now = λ y is. absurd (cc (sym (none i.at) ∙ sym (mo.now i) ∙ is)); both = λ y is. absurd (cc (sym (none i.at) ∙ sym (mo.now i) ∙ is.0)) }

  foreign_kept : (call : Call) (reply : Reply) (f now stable later steady : List ℕ) (i : ℕ) → steps.BytesGo b call reply f now stable later steady → touched.ChangesPlace b f i call reply ⊎ ByteKept now stable later steady i
  foreign_kept call reply f now stable later steady i (steps.kept e q) = inr (λ y is. rw e is, λ y is st. rw q st)
  foreign_kept call reply f now stable later steady i (steps.by_commit offset count is e q) = inr (λ y n. rw e n, λ y n st. rw q (put_same offset (committed_part offset count now) now stable (committed_stands offset count now) i y n st))
  foreign_kept call reply f now stable later steady i (steps.by_write offset how bytes count is e q) = elim (cases_lt i offset) [
    | inl lt ↦ inr (beside (inl lt))
    | inr ge ↦ elim (cases_lt i (offset + length bytes)) [
      | inl lt ↦ inl (touched.writes offset how bytes is ge lt)
      | inr past ↦ let most = length_take_most count bytes in inr (beside (inr (omega (arith, past, most))))
    ]
  ]
    where
      beside : (i < offset) ⊎ (offset + length (take count bytes) ≤ i) → ByteKept now stable later steady i
      beside o = (λ y n. rw e (put_beside offset (take count bytes) now i y o n), λ y n st. elim q [ inl z ↦ rw z st | inr z ↦ rw z (put_beside offset (take count bytes) stable i y o st) ])
  foreign_kept call reply f now stable later steady i (steps.by_size size by e q) = elim (cases_lt i size) [
    | inl lt ↦ inr (λ y n. rw e (resized_keeps size now i y lt n), λ y n st. rw q (resized_keeps size stable i y lt st))
    | inr ge ↦ inl (changes by ge)
  ]
    where
      changes : SetsSize b call reply f size → size ≤ i → touched.ChangesPlace b f i call reply
      changes (by_set set guard wcc is answer sz) le = touched.sizes set size guard wcc is answer sz le
      changes (by_meeting d name set object attr wcc is answer named sz) le = touched.makes d name set size object attr wcc is answer named sz le

  meddles : (event : Event) (call : Call) (reply : Reply) → Serves a call reply b → ((f : File) (o : servers.Object) → a.object f ≡ Some o → Lasts o b f) → ((i : Spot) → touched.ChangesPlace b i.file i.at call reply → Alters event i) → Meddles old event new
  meddles event call reply sv lasts alters i = elim (file_was a b i.file (lasts i.file)) [
    | no_file none ↦ inr (inr (absent_keeps i (serves_verf a b call reply sv) none))
    | a_file now stable later steady ha hb ↦ elim (foreign_kept call reply i.file now stable later steady i.at (steps.bytes_go a b call reply i.file now stable later steady sv ha hb)) [
      | inl c ↦ inl (alters i c)
      | inr q ↦ inr (inr (file_keeps i now stable later steady (serves_verf a b call reply sv) ha hb q))
    ]
  ]

  flush_kept : (t : History) (n start count : ℕ) (g f now stable later steady : List ℕ) (i : ℕ) → steps.BytesStep b (entries.Flushed g start count) f now stable later steady → ByteKept now stable later steady i
  flush_kept t n start count g f now stable later steady i (steps.unchanged e q) = (λ y is. rw e is, λ y is st. rw q st)
  flush_kept t n start count g f now stable later steady i (steps.executed xid call reply e r) = absurd (cc e)
  flush_kept t n start count g f now stable later steady i (steps.foreign call reply e r) = absurd (cc e)
  flush_kept t n start count g f now stable later steady i (steps.flushed st co e l q) = (λ y z. rw l z, λ y z w. rw q (put_same st (committed_part st co now) now stable (committed_stands st co now) i y z w))
  flush_kept t n start count g f now stable later steady i (steps.restarted verf e l q) = absurd (cc e)

  left_now : (o p : Option servers.Object) (i : ℕ) → model.IsLeft o p → model.IsSteady p → (byte_now p i ≡ byte_stable o i) × (byte_stable p i ≡ byte_stable o i)
  left_now o None i (model.same e) steady = (rw (← e) refl, rw (← e) refl)
  left_now o (Some p) i (model.same e) steady = (rw (← e) (by p.holds refl), rw (← e) refl)
    where
      by : (h : servers.Holds) → p.holds ≡ h → held_now p.holds i ≡ held_stable p.holds i
      by (servers.Bytes now stable) hs = rw hs (ap (λ (l : List ℕ). slice_get l i) (steady p now stable refl hs))
      by (servers.Entries listed) hs = rw hs refl
      by (servers.Text text) hs = rw hs refl
  left_now o p i (model.lost x y now stable eo ep held ne becomes) steady = (rw (eo, ep, held, becomes.holds) refl, rw (eo, ep, held, becomes.holds) refl)

verf_back : (a b : Verf) → a.0 ≡ b.0 → a ≡ b
verf_back a b e = ap (λ (v : List ℕ). record { 0 = v }) e

module _ (m : Modes) (origin : Origin) (t : History) (s : Told) (k : Mirrors m origin t s) (lawful : model.Lawful t) where
  was_sent : (n xid : ℕ) (call : Call) → (w : model.WasSent t.entries n xid call) → At s.entries w.at (Sent xid (call_of call))
  was_sent n xid call w =
      let r = reads m origin t s k w.at (entries.Sent w.bytes) w.sent in
      let q = r.mirrors.spells xid call w.spells in
      rw (q.0, q.1, ← r.mirrors.is) r.at

  replied_is : (n : ℕ) (bytes : List ℕ) (x : ℕ) (y : story.Reply) → Stands (s.at n) (s.at (suc n))
      → ((mm xid : ℕ) (call : Call) (reply : Reply) → mm < n → histories.At t.entries mm (entries.Executed xid call reply) → SpellsReply xid call reply bytes → (x ≡ xid) × (y ≡ reply_of (call_of call) reply))
      → ((xid code : ℕ) → SpellsRefusal xid code bytes → (x ≡ xid) × (y ≡ denied)) → model.IsReplied t.entries n bytes → law.IsReplied s n x y
  replied_is n bytes x y stands replies_by refusals (model.replied mm xid call reply lt ex sp) =
      let q = replies_by mm xid call reply lt ex sp in
      let w = (lawful.entries mm (entries.Executed xid call reply) ex).0 in
      let r = reads m origin t s k mm (entries.Executed xid call reply) ex in
      let before = w.before in
      record { call = call_of call; shown = inl (mm, lt, rw (q.0, q.1, ← r.mirrors.0) r.at); sent_at = w.at; earlier = omega (arith, before, lt); sent = rw q.0 (was_sent mm xid call w); same = stands }
  replied_is n bytes x y stands replies_by refusals (model.refused mm xid code record_sent lt sent has sp) =
      let q = refusals xid code sp in
      let r = reads m origin t s k mm (entries.Sent record_sent) sent in
      let u = r.mirrors.under xid has in
      record { call = r.mirrors.call; shown = inr q.1; sent_at = mm; earlier = lt; sent = rw (q.0, u, ← r.mirrors.is) r.at; same = stands }

  stands : (n : ℕ) → Same (t.at n) (t.at (suc n)) → Stands (s.at n) (s.at (suc n))
  stands n same = same_stands (t.at n) (t.at (suc n)) (s.at n) (s.at (suc n)) (k.servers n) (k.servers (suc n)) same

  last_of : (n : ℕ) (e : Entry) → model.LawfulAt t n e (t.at n) (t.at (suc n)) → (f : File) (o : servers.Object) → (t.at n).object f ≡ Some o → Lasts o (t.at (suc n)) f
  last_of n e l f o is = entry_lasts t n e (t.at n) (t.at (suc n)) f o l is

  step_is : (n : ℕ) (e : Entry) → n ≤ length t.entries → model.LawfulAt t n e (t.at n) (t.at (suc n)) → (d : story.Entry) → MirrorsEntry m origin t n e d → law.LawfulAt s n d
  step_is n (entries.Began lane line op) le l d r = rw r.1 (stands n l)
  step_is n (entries.Answered lane line (answers.Done value)) le l d r = rw r (stands n l)
  step_is n (entries.Answered lane line (answers.Refused fault)) le l d r = rw r (stands n l)
  step_is n (entries.Dialed port) le l d r = rw r (stands n l)
  step_is n entries.Failed le l d r = rw r (stands n l)
  step_is n (entries.Clock ms) le l d r = rw r (stands n l)
  step_is n (entries.Sent bytes) le l d r = rw r.is (stands n l)
  step_is n (entries.Delivered bytes) le l d r = rw r.is (replied_is n bytes r.xid r.reply (stands n l.same) r.replied r.refuses l.is)
  step_is n (entries.Executed xid call reply) le l d r =
      rw r.0 (record {
        sent_at = l.0.at;
        earlier = l.0.before;
        sent = was_sent n xid call l.0;
        step = serves_story (t.at n) (t.at (suc n)) (s.at n) (s.at (suc n)) (k.servers n) (k.servers (suc n)) (lawful.servers n le) call reply r.1 l.1 (last_of n (entries.Executed xid call reply) l);
      })
  step_is n (entries.Foreign call reply) le l d r =
      rw r.1 (meddles (t.at n) (t.at (suc n)) (s.at n) (s.at (suc n)) (k.servers n) (k.servers (suc n)) r.0 call reply l (last_of n (entries.Foreign call reply) l) (λ i c. (r.2 i).1 c))
  step_is n (entries.Flushed g start count) le l d r =
      rw r (λ i. inr (inr (keeps_by (t.at n) (t.at (suc n)) (s.at n) (s.at (suc n)) (k.servers n) (k.servers (suc n)) i l.only.verf (last_of n (entries.Flushed g start count) l i.file)
      (λ now stable later steady ha hb. flush_kept (t.at n) (t.at (suc n)) (s.at n) (s.at (suc n)) (k.servers n) (k.servers (suc n)) t n start count g i.file now stable later steady i.at (steps.bytes_step t n (entries.Flushed g start count) (t.at n) (t.at (suc n)) i.file now stable later steady l ha hb)))))
  step_is n (entries.Reboot verf) le l d r =
      rw r (record {
        now = λ i. (k.servers (suc n)).now i ∙ (left_now (t.at n) (t.at (suc n)) (s.at n) (s.at (suc n)) (k.servers n) (k.servers (suc n)) ((t.at n).object i.file) ((t.at (suc n)).object i.file) i.at (l.left i.file) (l.steady i.file)).0 ∙ sym ((k.servers n).stable i);
        stable = λ i. (k.servers (suc n)).stable i ∙ (left_now (t.at n) (t.at (suc n)) (s.at n) (s.at (suc n)) (k.servers n) (k.servers (suc n)) ((t.at n).object i.file) ((t.at (suc n)).object i.file) i.at (l.left i.file) (l.steady i.file)).1 ∙ sym ((k.servers n).stable i);
        fresh = λ j lj e. l.new j lj (verf_back (t.at j).verf verf (sym (k.servers j).verf ∙ e ∙ (k.servers (suc n)).verf ∙ ap (λ (v : Verf). v.0) l.verifier));
      })

  gone_stays : (n : ℕ) (f : File) → n < length s.entries → (s.at n).gone f ≡ true → (s.at (suc n)).gone f ≡ true
  gone_stays n f lt g = (k.servers (suc n)).gone f ∙ by ((t.at n).object f) refl
    where
      by : (o : Option servers.Object) → (t.at n).object f ≡ o → is_gone ((t.at (suc n)).object f) ≡ true
      by None e = absurd (cc (sym g ∙ (k.servers n).gone f ∙ ap is_gone e))
      by (Some o) e =
          let long = k.long in
          let x = entry_at t.entries n (omega (arith, long, lt)) in
          let l = last_of n x.0 (lawful.entries n x.0 x.1) f o e in
          ap is_gone l.is ∙ l.gone (sym (ap is_gone e) ∙ sym ((k.servers n).gone f) ∙ g)

  pub mirrored_is_lawful : law.Lawful s
  mirrored_is_lawful = record {
    step = λ n d at. (let r = reads_back m origin t s k n d at in let below = At-below s.entries n d at in let long = k.long in step_is n r.entry (omega (arith, below, long)) (lawful.entries n r.entry r.at) d r.mirrors);
    gone = gone_stays;
  }

-- ---- no late copies

record ReplyBack (t : History) (n xid : ℕ) : Type 0 where
  pub bytes : List ℕ
  pub at : histories.At t.entries n (entries.Delivered bytes)
  pub under : HasXid bytes xid

delivered_is : (x y : ℕ) (a b : story.Reply) → Delivered x a ≡ Delivered y b → x ≡ y
delivered_is x y a b e = cc

executed_is : (x y : ℕ) (c d : story.Call) (a b : story.Reply) → Executed x c a ≡ Executed y d b → x ≡ y
executed_is x y c d a b e = cc

reply_back : (m : Modes) (origin : Origin) (t : History) (n xid : ℕ) (y : story.Reply) (e : Entry) → histories.At t.entries n e → MirrorsEntry m origin t n e (Delivered xid y) → ReplyBack t n xid
reply_back m origin t n xid y (entries.Delivered bytes) at r = record { bytes = bytes; at = at; under = rw (delivered_is xid r.xid y r.reply r.is) r.under }
reply_back m origin t n xid y (entries.Began l line op) at r = absurd (cc r.1)
reply_back m origin t n xid y (entries.Answered l line (answers.Done value)) at r = absurd (cc r)
reply_back m origin t n xid y (entries.Answered l line (answers.Refused fault)) at r = absurd (cc r)
reply_back m origin t n xid y (entries.Dialed port) at r = absurd (cc r)
reply_back m origin t n xid y (entries.Sent bytes) at r = absurd (cc r.is)
reply_back m origin t n xid y (entries.Executed x c z) at r = absurd (cc r.0)
reply_back m origin t n xid y (entries.Foreign c z) at r = absurd (cc r.1)
reply_back m origin t n xid y (entries.Flushed f start count) at r = absurd (cc r)
reply_back m origin t n xid y (entries.Reboot verf) at r = absurd (cc r)
reply_back m origin t n xid y entries.Failed at r = absurd (cc r)
reply_back m origin t n xid y (entries.Clock ms) at r = absurd (cc r)

record CallBack (t : History) (n xid : ℕ) : Type 0 where
  pub call : Call
  pub reply : Reply
  pub at : histories.At t.entries n (entries.Executed xid call reply)

call_back : (m : Modes) (origin : Origin) (t : History) (n xid : ℕ) (c : story.Call) (y : story.Reply) (e : Entry) → histories.At t.entries n e → MirrorsEntry m origin t n e (Executed xid c y) → CallBack t n xid
call_back m origin t n xid c y (entries.Executed x call reply) at r = record { call = call; reply = reply; at = rw (executed_is xid x c (call_of call) y (reply_of (call_of call) reply) r.0) at }
call_back m origin t n xid c y (entries.Began l line op) at r = absurd (cc r.1)
call_back m origin t n xid c y (entries.Answered l line (answers.Done value)) at r = absurd (cc r)
call_back m origin t n xid c y (entries.Answered l line (answers.Refused fault)) at r = absurd (cc r)
call_back m origin t n xid c y (entries.Dialed port) at r = absurd (cc r)
call_back m origin t n xid c y (entries.Sent bytes) at r = absurd (cc r.is)
call_back m origin t n xid c y (entries.Foreign d z) at r = absurd (cc r.1)
call_back m origin t n xid c y (entries.Flushed f start count) at r = absurd (cc r)
call_back m origin t n xid c y (entries.Reboot verf) at r = absurd (cc r)
call_back m origin t n xid c y (entries.Delivered bytes) at r = absurd (cc r.is)
call_back m origin t n xid c y entries.Failed at r = absurd (cc r)
call_back m origin t n xid c y (entries.Clock ms) at r = absurd (cc r)

pub mirrored_once : (m : Modes) (origin : Origin) (t : History) (s : Told) → Mirrors m origin t s → model_once.Once t.entries → law.Once s
mirrored_once m origin t s k once i n xid call r z at ex =
    let a = reads_back m origin t s k i (Delivered xid r) at in
    let b = reply_back m origin t i xid r a.entry a.at a.mirrors in
    let c = reads_back m origin t s k n (Executed xid call z) ex in
    let d = call_back m origin t n xid call z c.entry c.at c.mirrors in
    once i n xid b.bytes d.call d.reply b.at b.under d.at
