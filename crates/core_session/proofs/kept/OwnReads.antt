-- A read shows a byte that was made stable before it began, unless it was touched, and doesn't end before it.
use Rattle.core_session.proofs.Prelude.{◌≡◌, ◌≢◌, ◌<◌, ◌≤◌, ◌+◌, ◌⊎◌, inl, inr, ℕ, suc, true, List, ◌++◌, length, length-append, Option, Some, None, slice_get, refl, sym, ap, subst, ◌∙◌, append_assoc, arith, cases_lt, slice_get_within, Stamp, stamp_of, of_file, newest_at, Entry, Fresh, History, Lawful, Once, PendingWithin, ReadsBytes, Bytes, Object, Server, HasBytes, IsOf, Terms, Wrote, Touched, written, At-below, Numbered, writes-byte, HasStamp, Evidence, WroteAt, Mounted, machine_of, Setup, View, KnowsRoot, GoesWith, always-later, reached-rows, KeepsBriefly, IsSaved, OnlySetsUp, PutsNamed}
use Rattle.claims.specs.Touched.{foreign, cut}
use Rattle.law_own.proofs.OneByte.{HasByte, wrote-byte, one-byte, touched-later}
use Rattle.law_reads.specs.Kept.{Done}
use Rattle.claims.specs.Settled.{written_at}
use Rattle.nfs_file_calls.specs.declared.call.FileCall.TheVariants as files
use Rattle.nfs_file_calls.specs.declared.owned.FileKept.TheVariants as kept
use Rattle.world_model.specs.declared.op.Op.TheVariants as ops
use Rattle.claims.specs.Pending.{Pending}
use Rattle.law_stable.proofs.Bytes.{some_or_past}
use Rattle.law_stable.specs.Stable.{HoldsNow}
use Rattle.core_session.proofs.current.ReadsRecent.{file-of}
use Rattle.core_session.proofs.current.ReadsTaken.{of-grows}
use Rattle.core_session.proofs.current.SeenTrue.{HadSince}
use Rattle.core_session.proofs.settled.Synced.{wrote-other}
use Rattle.core_session.proofs.shown.Answer.{IsShown}
use Rattle.core_session.proofs.shown.Answer as shown
use Rattle.core_session.proofs.shown.Current.{StandsAll, keeps-stands}
use Rattle.core_session.proofs.shown.Moment.{newest, pending-during}
use Rattle.core_session.proofs.kept.OwnFollows.{write-follows}
use Rattle.core_session.proofs.kept.OwnHad.{had-after, found-after, end-after}
use Rattle.core_session.proofs.kept.OwnStated.{Stated}
use Rattle.core_session.proofs.kept.OwnSeen.{SeenAfter}
use Rattle.core_session.proofs.kept.OwnStamps.{stamp-laws}
use Rattle.core_session.proofs.kept.OwnStays.{own-calls, own-done, own-there, ran_}
use Rattle.core_session.proofs.kept.ReadFound.{StampLaws, RecentOwn, IsFound, IsEnd}
use Rattle.core_session.proofs.kept.ReadTaken.{AllOf, HadRead, had-read}
use Rattle.core_answers.specs.pages.True.{GivenTrue}

some-object : (a b : Object) → Some a ≡ Some b → a ≡ b
some-object a b e = cc

bytes-now : (a b c d : List ℕ) → Bytes a b ≡ Bytes c d → a ≡ c
bytes-now a b c d e = cc

-- a file has one list of bytes
one-now : (s : Server) (f a b c d : List ℕ) → HasBytes s f a b → HasBytes s f c d → a ≡ c
one-now s f a b c d p q = bytes-now a b c d (sym p.holds ∙ ap (λ (z : Object). z.holds) (some-object p.file q.file (sym p.is ∙ q.is)) ∙ q.holds)

some-byte : (a b : ℕ) → Some a ≡ Some b → a ≡ b
some-byte a b e = cc

module _ (m : Mounted) (terms : Terms) (setup : Setup) (t : History) (v : View) (g : GoesWith m terms setup t.entries v) (noac : m.noac ≡ terms.modes.noac)
    (brief : terms.modes.nocto ≡ true → KeepsBriefly terms.modes setup t.entries) (roots : KnowsRoot terms.origin t.entries m.root) (puts : PutsNamed t.entries) (alone : OnlySetsUp t.entries)
    (lawful : Lawful t) (fresh : Fresh t) (given : GivenTrue setup.pages t) (once : Once t.entries)
    (r y o : ℕ) (f : List ℕ) (offset count : ℕ) (bytes : List ℕ) (read : ReadsBytes terms.modes t.entries r y o f offset count bytes)
    (w e i byte : ℕ) (wrote : Wrote terms.modes t.entries w e f i byte) (early : e < r) (untouched : Touched terms.modes terms.origin t w y f i → ⊥) (saved : IsSaved t.entries w r y f i byte)
    (stated : Stated m setup t.entries saved.evidence.wrote.asked.heard.got_at f (files.Write f saved.evidence.wrote.offset saved.evidence.wrote.how saved.evidence.wrote.bytes)) where
  numbered : Numbered t.entries
  numbered = (reached-rows (machine_of m) setup t.entries v g.reaches).numbered

  abbrev ev : Evidence t.entries saved.from r f i byte
  ev = saved.evidence

  abbrev X : WroteAt t.entries saved.from ev.middle f i byte ev.firm ev.verf
  X = ev.wrote

  abbrev own : Done t (files.Write f X.offset X.how X.bytes) (kept.Write X.wcc X.count ev.firm ev.verf)
  own = own-done t lawful once numbered saved.from r f i byte ev

  ends : y < length t.entries
  ends = At-below t.entries y _ read.ended.answered

  -- its WRITE was executed before the reply came
  executed : own.0 < X.asked.heard.got_at
  executed = (ran_ t lawful once numbered saved.from r f i byte ev).before

  got-early : X.asked.heard.got_at < r
  got-early = let got = X.asked.heard.before in let by = ev.by in omega (arith, got, by)

  until : (n : ℕ) → n ≤ y → Touched terms.modes terms.origin t w n f i → ⊥
  until n soon touched = untouched (touched-later terms.modes terms.origin t lawful w n y f i soon (let within = ends in omega (arith, within)) touched)

  sent-late : w < written_at ev
  sent-late = let after = saved.after in let from = X.asked.heard.after in omega (arith, after, from)

  -- from then on the byte is in the file
  there-at : (n : ℕ) → own.0 < n → n ≤ y → HoldsNow (t.at n) f i byte
  there-at n late soon =
      own-there t lawful once numbered saved.from r f i byte ev n (omega (arith, late)) (let within = ends in omega (arith, soon, within))
      (own-calls m terms setup t v g alone lawful once w f i byte (wrote-other terms.modes t.entries w e f i byte wrote) n (let within = ends in omega (arith, soon, within))
      (λ x apart low unanswered cuts. until n soon (cut x apart low unanswered cuts)) r
      (record { from = saved.from; after = saved.after; evidence = saved.evidence; alike = λ s xid sent place how k b bs at spells from to is has. saved.alike s xid sent place how k b bs at spells from (omega (arith, to, soon)) is has }))
      (λ k call reply at from low changes. until n soon (foreign k call reply (let sent = sent-late in omega (arith, sent, from)) low at changes))

  some-stamp : (stamp : Stamp) × (now : List ℕ) × HasStamp t (suc own.0) f stamp now
  some-stamp =
      let got = got-early in
      let ran = executed in
      let later = read.ended.later in
      let h = there-at (suc own.0) (omega arith) (omega (arith, got, ran, later)) in (
        stamp_of h.has.file.attr,
        h.now,
        record {
          file = h.has.file;
          stable = h.stable;
          moment = let within = ends in omega (arith, got, ran, later, within);
          is = h.has.is;
          holds = h.has.holds;
          stamp = refl;
        },
      )

  -- ---- the read's story

  its-byte : HasByte t.entries w i byte
  its-byte = wrote-byte terms.modes t.entries w e f i byte wrote

  abbrev Laws : StampLaws (machine_of m) setup
  Laws = stamp-laws m terms.modes g.nocto setup (λ may. (brief may).lasts) t.entries numbered f (files.Write f X.offset X.how X.bytes) (kept.Write X.wcc X.count ev.firm ev.verf) X.wcc saved.from ev.middle X.asked
      stated w its-byte.lane its-byte.line its-byte.op its-byte.began sent-late (write-follows m setup f X.offset X.how X.bytes X.wcc X.count ev.firm ev.verf)

  abbrev Fact : ℕ → List Entry → List ℕ → Stamp → Type 0
  Fact n h file stamp = (rest : List Entry) → h ++ rest ≡ t.entries → X.asked.heard.got_at < n → file ≡ f → SeenAfter X.wcc h X.asked.heard.got_at f stamp

  abbrev W : List Entry → View → Type 0
  W = StandsAll m terms setup t.entries v g roots puts f

  abbrev J : List Entry → View → Type 0
  J = AllOf (machine_of m) setup terms.modes t.entries v W Laws

  -- a byte that was pending during the read was given since, or is this one
  own-is : (b : ℕ) → PendingWithin terms.modes terms.origin t.entries r y f i b → b ≡ byte
  own-is b p = elim (cases_lt p.pending.w w) [
    | inl lt ↦ other (λ same. omega (arith, same, lt))
    | inr ge ↦ elim (cases_lt w p.pending.w) [
      | inl lt ↦ other (λ same. omega (arith, same, lt))
      | inr le ↦
          let same : p.pending.w ≡ w = omega (arith, ge, le) in
          one-byte t.entries w i b byte (subst (λ (n : ℕ). HasByte t.entries n i b) same (writes-byte terms.modes terms.origin t.entries p.pending.w f i b p.pending.writes)) its-byte
    ]
  ]
    where
      other : p.pending.w ≢ w → b ≡ byte
      other apart =
          let under = p.pending.before in
          let late = p.moment.late in
          let soon = p.moment.soon in
          absurd (untouched (written p.pending.w b apart (omega (arith, under, soon)) (λ answered. p.pending.uncovered w e byte answered wrote (omega (arith, early, late))) p.pending.writes p.pending.unrefused))

  pending-at : (before after : List Entry) → before ++ after ≡ t.entries → (view : View) → J before view → r ≤ length before → length before ≤ y → (b : ℕ)
      → newest_at (of_file f view.shelf.back).segments i ≡ Some b → PendingWithin terms.modes terms.origin t.entries r y f i b
  pending-at before after is view good late soon b there =
      let n = newest view f i b there in
      record {
        n = length before;
        moment = record { late = late; soon = soon };
        pending = subst (Pending terms.modes terms.origin t.entries f i (length before)) n.byte_is
            (pending-during m terms setup t.entries v g roots puts f i before after is view ((good.watched i).phase after is) n.cell n.there r y o offset count bytes read late soon good.on);
      }

  module _ (s : HadRead (machine_of m) setup terms.modes t.entries v W Laws t.entries r y (ops.Read read.slot offset count) offset count bytes) where
    of : IsOf terms.modes t.entries r (ops.Read read.slot offset count) s.shown.file
    of = subst (λ (h : List Entry). IsOf terms.modes h r (ops.Read read.slot offset count) s.shown.file) (sym s.is)
        (always-later (λ h. IsOf terms.modes h r (ops.Read read.slot offset count) s.shown.file)
        (λ h a. of-grows (machine_of m) setup terms.modes h a r (ops.Read read.slot offset count) s.shown.file) s.before s.after s.shown.of)

    same : f ≡ s.shown.file
    same = file-of m terms setup t.entries v g r y o f offset count bytes read s.shown.file of

    there : length s.before ≤ y
    there = let there = s.there in omega (arith, there)

    ran-soon : own.0 < length s.before
    ran-soon = let at = s.there in let got = got-early in let ran = executed in let later = read.ended.later in omega (arith, at, got, ran, later)

    abbrev R : List Entry → ℕ → List ℕ → Stamp → Type 0
    R = RecentOwn terms.modes Fact

    seen : (stamp : Stamp) → R s.before r f stamp → HadSince t lawful fresh numbered s.before s.after s.is f own.0 stamp
    seen stamp known =
        let some = some-stamp in
        had-after t lawful fresh numbered s.before s.after s.is f X.offset X.how X.count ev.firm X.bytes X.wcc ev.verf own X.asked.heard.got_at (let ran = executed in omega (arith, ran)) ran-soon
        (suc own.0) some.0 some.1 some.2 stamp (known.fact s.after (sym s.is) got-early refl)

    found-so : (b : ℕ) → IsFound setup.pages R s.before r f i b → b ≡ byte
    found-so b found =
        let h = found-after t lawful fresh numbered s.before s.after s.is f X.offset X.how X.count ev.firm X.bytes X.wcc ev.verf own X.asked.heard.got_at (let ran = executed in omega (arith, ran)) ran-soon
        setup.pages given R r got-early seen i b found in
        let soon = h.soon in
        let until_y = there in
        let k = there-at h.n h.late (omega (arith, soon, until_y)) in
        some-byte b byte (sym h.holds ∙ ap (λ (z : List ℕ). slice_get z i) (one-now (t.at h.n) f h.now h.stable k.now k.stable h.has k.has) ∙ k.holds)

    -- the file doesn't end before it
    end-not : (place : ℕ) → place ≤ i → IsEnd setup.pages R s.before r f place → ⊥
    end-not place low end =
        let h = end-after t lawful fresh numbered s.before s.after s.is f X.offset X.how X.count ev.firm X.bytes X.wcc ev.verf own X.asked.heard.got_at (let ran = executed in omega (arith, ran)) ran-soon
        setup.pages given R r got-early seen place end in
        let soon = h.soon in
        let until_y = there in
        let k = there-at h.n h.late (omega (arith, soon, until_y)) in
        let one = ap length (one-now (t.at h.n) f h.now h.stable k.now k.stable h.has k.has) in
        let within = slice_get_within k.now i byte k.holds in
        let short = h.short in
        omega (arith, one, within, short, low)

    -- nor did the server's part of the answer
    server-not : length s.shown.server < count → offset + length s.shown.server ≤ i → ⊥
    server-not less low = by s.shown.ends
      where
        by : (count ≤ length s.shown.server) ⊎ IsEnd setup.pages R s.before r s.shown.file (offset + length s.shown.server) → ⊥
        by (inl whole) = omega (arith, whole, less)
        by (inr end) = end-not (offset + length s.shown.server) low (subst (λ (z : List ℕ). IsEnd setup.pages R s.before r z (offset + length s.shown.server)) (sym same) end)

    part : (before after : List Entry) → s.before ≡ before ++ after → before ++ (after ++ s.after) ≡ t.entries
    part before after is = sym (append_assoc before after s.after) ∙ ap (λ (z : List Entry). z ++ s.after) (sym is) ∙ sym s.is

    within-read : (before after : List Entry) → s.before ≡ before ++ after → length before ≤ y
    within-read before after is =
        let long = length-append before after in
        let whole = ap (λ (z : List Entry). length z) is in
        let until_y = there in
        omega (arith, long, whole, until_y)

    byte-so : (k b : ℕ) → k < count → i ≡ offset + k → IsShown J s.before r s.shown.file s.shown.server k (offset + k) b → b ≡ byte
    byte-so k b low is (shown.own p) =
        own-is b (pending-at p.before (p.after ++ s.after) (part p.before p.after p.is) p.view p.good p.late (within-read p.before p.after p.is) b
        (ap (newest_at (of_file f p.view.shelf.back).segments) is ∙ subst (λ (z : List ℕ). newest_at (of_file z p.view.shelf.back).segments (offset + k) ≡ Some b) (sym same) p.pending))
    byte-so k b low is (shown.served has) =
        found-so b (subst (λ (n : ℕ). IsFound setup.pages R s.before r f n b) (sym is) (subst (λ (z : List ℕ). IsFound setup.pages R s.before r z (offset + k) b) (sym same) (s.shown.found k b has)))
    byte-so k b low is (shown.empty zero_ past p) = absurd (server-not (omega (arith, past, low)) (omega (arith, past, is)))

    answered-so : (k : ℕ) → k < count → i ≡ offset + k → (a : Option ℕ) → slice_get bytes k ≡ a → slice_get bytes k ≡ Some byte
    answered-so k low is (Some b) has = has ∙ ap Some (byte-so k b low is (s.shown.each k b has))
    answered-so k low is None none = elim (some_or_past bytes k) [
      | inl some ↦ absurd (let no_way : None ≡ Some some.0 = sym none ∙ some.1 in cc)
      | inr ge ↦ absurd (by s.shown.long ge)
    ]
      where
        by : (length bytes ≡ count) ⊎ (length s.shown.server ≤ length bytes) → length bytes ≤ k → ⊥
        by (inl whole) past = omega (arith, whole, past, low)
        by (inr less) past = server-not (omega (arith, less, past, low)) (omega (arith, less, past, is))

    end-so : length bytes < count → offset + length bytes ≤ i → ⊥
    end-so short low = by s.shown.long
      where
        by : (length bytes ≡ count) ⊎ (length s.shown.server ≤ length bytes) → ⊥
        by (inl whole) = omega (arith, whole, short)
        by (inr less) = server-not (omega (arith, less, short)) (omega (arith, less, low))

  story : HadRead (machine_of m) setup terms.modes t.entries v W Laws t.entries r y (ops.Read read.slot offset count) offset count bytes
  story =
      had-read m terms setup t.entries v g noac (λ may. (brief may).lasts) (StandsAll m terms setup t.entries v g roots puts f) (keeps-stands m terms setup t.entries v g roots puts f) Laws read.lane r read.slot
      offset count y bytes read.ended

  -- it is in the answer, where it was asked for
  pub shown-saved : (k : ℕ) → k < count → i ≡ offset + k → slice_get bytes k ≡ Some byte
  shown-saved k low is = answered-so story k low is (slice_get bytes k) refl

  -- and a short answer ends past it
  pub end-saved : length bytes < count → offset + length bytes ≤ i → ⊥
  end-saved short low = end-so story short low
