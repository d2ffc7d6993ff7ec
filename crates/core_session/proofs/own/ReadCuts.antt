-- Past the size of a truncate that went well before it began, a read shows zeros, unless the place was touched since.
use Rattle.core_session.proofs.Prelude.{◌≡◌, ◌<◌, ◌≤◌, ◌+◌, ℕ, suc, true, List, ◌++◌, length, length-append, Some, slice_get, refl, sym, ap, subst, ◌∙◌, append_assoc, arith, Stamp, start_of, of_file, newest_at, Entry, Began, At, Fresh, History, Lawful, Once, PendingWithin, ReadsBytes, HasBytes, IsOf, Terms, Truncated, Touched, written, At-below, Numbered, writes-byte, serves, CutBy, Mounted, machine_of, Setup, View, KnowsRoot, Notes, GoesWith, always-later, notes-reach, reached-rows, IsPage, LastAtMost, KeepsBriefly, OnlySetsUp, PutsNamed}
use Rattle.page_cache.specs.Bytes.{page_at}
use Rattle.claims.specs.ReadTrue.{ReadCut}
use Rattle.law_own.proofs.OneByte.{no-truncate, touched-later}
use Rattle.law_reads.proofs.KeptBytes.{reads}
use Rattle.law_stable.specs.Cut.{IsBare}
use Rattle.nfs_file_calls.specs.declared.call.FileCall.TheVariants as files
use Rattle.nfs_file_calls.specs.declared.owned.FileKept.TheVariants as kept
use Rattle.world_model.specs.declared.message.Call.TheVariants as calls
use Rattle.world_model.specs.declared.message.Reply.TheVariants as replies
use Rattle.world_model.specs.declared.op.Op.TheVariants as ops
use Rattle.claims.specs.Pending.{Pending}
use Rattle.law_reads.proofs.Bytes.{part_stands}
use Rattle.law_stable.proofs.Executions.{Ran, ran}
use Rattle.core_session.proofs.current.ReadsRecent.{file-of, done-by, page-is}
use Rattle.core_session.proofs.current.ReadsTaken.{of-grows}
use Rattle.core_session.proofs.shown.Answer.{IsShown}
use Rattle.core_session.proofs.shown.Answer as shown
use Rattle.core_session.proofs.shown.Current.{StandsAll, keeps-stands}
use Rattle.core_session.proofs.shown.Moment.{newest, pending-during}
use Rattle.core_session.specs.own.Cuts.{CutsRead}
use Rattle.core_session.proofs.own.Bare.{own-zeros, none-foreign, one-now, stays-bare, truncate-cut}
use Rattle.core_session.proofs.own.SizeReply.{IsCut}
use Rattle.core_session.proofs.own.CutHad.{had-after}
use Rattle.core_session.proofs.own.CutFollows.{size-follows}
use Rattle.core_session.proofs.kept.ReadFound.{StampLaws, RecentOwn, IsFound, in_page, in_reply}
use Rattle.core_session.proofs.kept.ReadTaken.{AllOf, HadRead, had-read}
use Rattle.core_session.proofs.kept.OwnSeen.{SeenAfter}
use Rattle.core_session.proofs.kept.OwnStamps.{stamp-laws}
use Rattle.core_session.proofs.kept.OwnStated.{stated-opens}
use Rattle.core_session.proofs.own.Zeros.{zeros-since}
use Rattle.core_answers.specs.pages.True.{GivenTrue}

module _ (m : Mounted) (terms : Terms) (setup : Setup) (t : History) (v : View) (nocto : m.nocto ≡ terms.modes.nocto) (noac : m.noac ≡ terms.modes.noac) (notes : Notes (machine_of m) setup t.entries v)
    (brief : terms.modes.nocto ≡ true → KeepsBriefly terms.modes setup t.entries) (roots : KnowsRoot terms.origin t.entries m.root) (puts : PutsNamed t.entries) (alone : OnlySetsUp t.entries)
    (lawful : Lawful t) (fresh : Fresh t) (given : GivenTrue setup.pages t) (once : Once t.entries) where
  abbrev g : GoesWith m terms setup t.entries v
  g = record { nocto = nocto; reaches = notes-reach (machine_of m) setup t.entries v notes }

  numbered : Numbered t.entries
  numbered = (reached-rows (machine_of m) setup t.entries v g.reaches).numbered

  -- ---- a truncate

  module _ (x e : ℕ) (f : List ℕ) (size : ℕ) (cuts : Truncated terms.modes t.entries x e f size) where
    its-cut : IsCut t.entries x e f size
    its-cut = truncate-cut m terms setup t.entries v g x e f size cuts

    abbrev c : CutBy t.entries (suc x) e f size
    c = its-cut.cut

    past : x < c.asked.heard.sent_at
    past = let after = c.asked.heard.after in omega (arith, after)

    early-open : cuts.of.holds.y < c.asked.heard.got_at
    early-open = let low = cuts.of.holds.before in let sent = past in let later = c.asked.heard.later in omega (arith, low, sent, later)

    lasts : terms.modes.nocto ≡ true → LastAtMost setup.lives terms.modes.longest
    lasts may = (brief may).lasts

    abbrev Laws : StampLaws (machine_of m) setup
    Laws = stamp-laws m terms.modes nocto setup lasts t.entries numbered f (files.SetAttr f c.set c.guard) (kept.SetAttr c.wcc) c.wcc (suc x) e c.asked
        (stated-opens m terms.modes nocto setup lasts t.entries c.asked.heard.got_at f (files.SetAttr f c.set c.guard) cuts.of.lane cuts.of.slot cuts.of.open_at cuts.of.holds.y cuts.of.holds.opens early-open) x
        cuts.of.lane cuts.of.line (ops.Truncate cuts.slot size) cuts.of.began past (size-follows m setup f c.set c.guard c.wcc)

    abbrev Fact : ℕ → List Entry → List ℕ → Stamp → Type 0
    Fact r h file stamp = (rest : List Entry) → h ++ rest ≡ t.entries → c.asked.heard.got_at < r → file ≡ f → SeenAfter c.wcc h c.asked.heard.got_at f stamp

    -- ---- a read

    module _ (r y o : ℕ) (offset count : ℕ) (bytes : List ℕ) (read : ReadsBytes terms.modes t.entries r y o f offset count bytes) (early : e < r) (k value : ℕ) (low : size ≤ offset + k)
        (untouched : Touched terms.modes terms.origin t x y f (offset + k) → ⊥) where
      abbrev W : List Entry → View → Type 0
      W = StandsAll m terms setup t.entries v g roots puts f

      abbrev J : List Entry → View → Type 0
      J = AllOf (machine_of m) setup terms.modes t.entries v W Laws

      -- a byte that was pending during the read was given since the truncate
      none-own : PendingWithin terms.modes terms.origin t.entries r y f (offset + k) value → ⊥
      none-own p =
          let under = p.pending.before in
          let late = p.moment.late in
          let soon = p.moment.soon in
          untouched (written p.pending.w value
          (λ same. no-truncate t.entries p.pending.w (offset + k) value cuts.of.lane cuts.of.line cuts.slot size (writes-byte terms.modes terms.origin t.entries p.pending.w f (offset + k) value p.pending.writes)
          (subst (λ (z : ℕ). At t.entries z (Began cuts.of.lane cuts.of.line (ops.Truncate cuts.slot size))) (sym same) cuts.of.began))
          (omega (arith, under, soon)) (λ answered. p.pending.uncut x e size answered cuts low (omega (arith, early, late))) p.pending.writes p.pending.unrefused)

      pending-at : (before after : List Entry) → before ++ after ≡ t.entries → (view : View) → J before view → r ≤ length before → length before ≤ y → (place byte : ℕ)
          → newest_at (of_file f view.shelf.back).segments place ≡ Some byte → PendingWithin terms.modes terms.origin t.entries r y f place byte
      pending-at before after is view good late soon place byte there =
          let n = newest view f place byte there in
          record {
            n = length before;
            moment = record { late = late; soon = soon };
            pending = subst (Pending terms.modes terms.origin t.entries f place (length before)) n.byte_is
                (pending-during m terms setup t.entries v g roots puts f place before after is view ((good.watched place).phase after is) n.cell n.there r y o offset count bytes read late soon good.on);
          }

      ends : y < length t.entries
      ends = At-below t.entries y _ read.ended.answered

      until : (n : ℕ) → n ≤ y → Touched terms.modes terms.origin t x n f (offset + k) → ⊥
      until n soon touched = untouched (touched-later terms.modes terms.origin t lawful x n y f (offset + k) soon (let within = ends in omega (arith, within)) touched)

      -- what the file holds after the answer of the truncate
      held-after : (n : ℕ) → e < n → n ≤ y → (now stable : List ℕ) → HasBytes (t.at n) f now stable → slice_get now (offset + k) ≡ Some value → value ≡ 0
      held-after n late soon now stable has holds =
          stays-bare m terms setup t v nocto notes roots puts alone lawful once x e f size (offset + k) cuts low n late (let within = ends in omega (arith, soon, within)) (until n soon) now stable has value holds

      zero-at : (n : ℕ) → IsBare (t.at n) f (offset + k) → (now stable : List ℕ) → HasBytes (t.at n) f now stable → slice_get now (offset + k) ≡ Some value → value ≡ 0
      zero-at n b now stable has holds = b.bare value (ap (λ (z : List ℕ). slice_get z (offset + k)) (one-now (t.at n) f b.now b.stable now stable b.has has) ∙ holds)

      -- and with a stamp since then
      held-led : (before after : List Entry) (is : t.entries ≡ before ++ after) → length before ≤ y → r ≤ length before → (stamp : Stamp) → SeenAfter c.wcc before c.asked.heard.got_at f stamp → (index : ℕ) (page : List ℕ)
          → IsPage setup.pages before f stamp index page → (at : ℕ) → slice_get page at ≡ Some value → offset + k ≡ start_of index + at → value ≡ 0
      held-led before after is soon begun stamp seen index page p at there same =
          let done : Ran t c.asked.heard.sent_at c.asked.heard.got_at c.asked.xid (calls.File (files.SetAttr f c.set c.guard)) (replies.File (kept.SetAttr c.wcc)) =
          ran t lawful numbered (suc x) e (files.SetAttr f c.set c.guard) (kept.SetAttr c.wcc) c.asked in
          let within = c.asked.heard.before in
          let had = had-after t lawful fresh numbered before after is f c.wcc c.asked.heard.got_at size c.set c.guard (done.place, c.asked.xid, done.at) c.sets done.before (omega (arith, within, early, begun)) stamp seen in
          let page_is : page ≡ page_at index had.now = page-is t lawful fresh numbered before after is f setup.pages given stamp index page p had.n had.now had.has in
          let holds : slice_get had.now (offset + k) ≡ Some value =
          ap (slice_get had.now) same ∙ part_stands (start_of index) 4096 had.now at value (ap (λ (b : List ℕ). slice_get b at) (sym page_is) ∙ there) in
          let until_n = had.soon in
          let bare = zeros-since t lawful once numbered (suc x) e f size (offset + k) c low done had.n had.late (let all_ = ends in omega (arith, until_n, soon, all_))
          (own-zeros m terms setup t v nocto notes roots puts alone lawful once x e f size (offset + k) cuts its-cut low had.n (until had.n (omega (arith, until_n, soon))))
          (none-foreign m terms setup t v nocto notes roots puts alone lawful once x e f size (offset + k) cuts its-cut low had.n (until had.n (omega (arith, until_n, soon)))) in
          zero-at had.n bare had.now had.has.stable (record { file = had.has.file; is = had.has.is; holds = had.has.holds }) holds

      module _ (s : HadRead (machine_of m) setup terms.modes t.entries v W Laws t.entries r y (ops.Read read.slot offset count) offset count bytes) where
        of : IsOf terms.modes t.entries r (ops.Read read.slot offset count) s.shown.file
        of = subst (λ (h : List Entry). IsOf terms.modes h r (ops.Read read.slot offset count) s.shown.file) (sym s.is)
            (always-later (λ h. IsOf terms.modes h r (ops.Read read.slot offset count) s.shown.file)
            (λ h a. of-grows (machine_of m) setup terms.modes h a r (ops.Read read.slot offset count) s.shown.file) s.before s.after s.shown.of)

        same : f ≡ s.shown.file
        same = file-of m terms setup t.entries v g r y o f offset count bytes read s.shown.file of

        there : length s.before ≤ y
        there = let there = s.there in omega (arith, there)

        found-so : (place : ℕ) → place ≡ offset + k → IsFound setup.pages (RecentOwn terms.modes Fact) s.before r f place value → value ≡ 0
        found-so place place_is (in_page stamp index at page p known byte is) =
            let got = c.asked.heard.before in
            let later = read.ended.later in
            let there_ = s.there in
            held-led s.before s.after s.is there (omega (arith, later, there_)) stamp (known.fact s.after (sym s.is) (omega (arith, got, early)) refl) index page p at byte (sym place_is ∙ is)
        found-so place place_is (in_reply since from many counted at attr eof given after_ answered byte is) =
            let a = done-by t lawful fresh numbered s.before s.after s.is f since (files.Read f from many) (kept.Read attr counted eof given) answered in
            let d = a.exec in
            let q = reads (t.at d.0) (t.at (suc d.0)) f from many counted attr eof given (serves t lawful _ _ d) in
            let late = a.since in
            let soon = a.soon in
            let until_y = there in
            held-after (suc d.0) (omega (arith, early, after_, late)) (omega (arith, soon, until_y)) q.now q.stable (record { file = q.puts.turns.new; is = q.puts.turns.is; holds = q.puts.turns.becomes.holds })
            (ap (slice_get q.now) (sym place_is ∙ is) ∙ part_stands from counted q.now at value (ap (λ (b : List ℕ). slice_get b at) (sym q.is) ∙ byte))

        -- a view through which the core passed during the read
        part : (before after : List Entry) → s.before ≡ before ++ after → before ++ (after ++ s.after) ≡ t.entries
        part before after is = sym (append_assoc before after s.after) ∙ ap (λ (z : List Entry). z ++ s.after) (sym is) ∙ sym s.is

        within-read : (before after : List Entry) → s.before ≡ before ++ after → length before ≤ y
        within-read before after is =
            let long = length-append before after in
            let whole = ap (λ (z : List Entry). length z) is in
            let until_y = there in
            omega (arith, long, whole, until_y)

        byte-so : IsShown J s.before r s.shown.file s.shown.server k (offset + k) value → value ≡ 0
        byte-so (shown.own p) =
            absurd (none-own (pending-at p.before (p.after ++ s.after) (part p.before p.after p.is) p.view p.good p.late (within-read p.before p.after p.is) (offset + k) value
            (subst (λ (z : List ℕ). newest_at (of_file z p.view.shelf.back).segments (offset + k) ≡ Some value) (sym same) p.pending)))
        byte-so (shown.served is) =
            found-so (offset + k) refl
            (subst (λ (z : List ℕ). IsFound setup.pages (RecentOwn terms.modes Fact) s.before r z (offset + k) value) (sym same) (s.shown.found k value is))
        byte-so (shown.empty is beyond p) = is

        cut-so : slice_get bytes k ≡ Some value → value ≡ 0
        cut-so is = byte-so (s.shown.each k value is)

  pub read-cut : ReadCut terms.modes terms.origin t
  read-cut r y o f offset count bytes read x e size k value cuts early low is untouched =
      cut-so x e f size cuts r y o offset count bytes read early k value low untouched
      (had-read m terms setup t.entries v g noac (λ may. (brief may).lasts) (StandsAll m terms setup t.entries v g roots puts f) (keeps-stands m terms setup t.entries v g roots puts f)
      (Laws x e f size cuts) read.lane r read.slot offset count y bytes read.ended) is

pub cuts-read : CutsRead
cuts-read m terms setup t v nocto noac notes brief roots puts alone lawful fresh given once =
    read-cut m terms setup t v nocto noac notes brief roots puts alone lawful fresh given once
