-- On an honest server what a read found are bytes that the file had since its open began.
use Rattle.core_session.proofs.Prelude.{◌≡◌, ◌<◌, ◌≤◌, ◌+◌, ◌⊎◌, inl, inr, ℕ, suc, Bool, true, false, List, [], ◌∷◌, ◌++◌, length, length-append, take, drop, slice_get, Option, Some, None, refl, sym, ap, subst, ◌∙◌, append_assoc, append-nil, arith, cases_lt, length-take, length-drop, slice_get_within, Stamp, FileCall, FileKept, start_of, Cell, cell_at, byte_of, of_file, Entry, Began, Op, At, Fresh, History, Lawful, Modes, HeldSize, ReadsBytes, Bytes, Entries, Text, InSlot, IsOf, Terms, At-grow, At-one, Numbered, HasStamp, serves, Mounted, machine_of, Setup, View, GoesWith, begins-unbegun, always-later, reached-rows, IsAnswered, IsPage, page-grows, IsAged, SeenFrom, WasRegular, RecentThen, IsFound, in_page, in_reply, IsEnd, by_known, by_page, by_reply, Pages}
use Rattle.page_cache.specs.Bytes.{page_at}
use Rattle.claims.specs.ReadTrue.{HeldByte, Since, each_read, opened}
use Rattle.world_model.specs.Server.{Listed, IsSound}
use Rattle.claims.specs.Slots.{Opens}
use Rattle.law_reads.specs.Kept.{Done}
use Rattle.law_reads.proofs.KeptBytes.{reads}
use Rattle.core_answers.specs.bonds.Kept.{HadShown}
use Rattle.core_session.specs.current.Read.{IsShown}
use Rattle.nfs_file_calls.specs.declared.call.FileCall.TheVariants as files
use Rattle.nfs_file_calls.specs.declared.owned.FileKept.TheVariants as kept
use Rattle.world_model.specs.declared.message.Call.TheVariants as calls
use Rattle.world_model.specs.declared.message.Reply.TheVariants as answers
use Rattle.world_model.specs.declared.op.Op.TheVariants as ops
use Rattle.claims.specs.ReadTrue as since_
use Rattle.world_model.specs.Server as sound
use Rattle.law_reads.proofs.Bytes.{part_stands}
use Rattle.core_answers.specs.bonds.Aged.{TakesReadings}
use Rattle.core_answers.specs.bonds.Ages.{IsRecent, young}
use Rattle.core_answers.proofs.bonds.AttrsShown.{answered-grow}
use Rattle.core_answers.proofs.bonds.Executions.{answered-ran}
use Rattle.core_answers.proofs.bonds.Recents.{own-of, young-of}
use Rattle.core_answers.specs.pages.Read.{WasPending}
use Rattle.core_answers.specs.pages.True.{GivenTrue}
use Rattle.core_answers.proofs.pages.PagesTrue.{true-page-of}
use Rattle.core_answers.proofs.pages.ReadsShown.{until}
use Rattle.core_answers.proofs.reads.Passed.{passed-along}
use Rattle.core_answers.specs.writes.Written.{IsWritten}
use Rattle.core_answers.proofs.writes.Given.{cell-given}
use Rattle.core_answers.proofs.writes.PendingWritten.{Known_, keeps-written, written-later}
use Rattle.core_session.specs.current.Read as shown
use Rattle.core_session.specs.current.Recent.{IsSoFar, own, held, past, ReadsRecent}
use Rattle.core_session.proofs.current.Good.{aged-grows, earlier}
use Rattle.core_session.proofs.current.OneFile.{one-held}
use Rattle.core_session.proofs.current.ReadsTaken.{had-read, of-grows}
use Rattle.core_session.proofs.current.SeenTrue.{HadSince, had-since, regular-file}

-- ---- whose a pending byte is

module _ (m : Modes) (mounted : Mounted) (same : mounted.nocto ≡ m.nocto) (setup : Setup) where
  pub was-written : (h : List Entry) (x : ℕ) (file : List ℕ) (place v : ℕ) → WasPending (machine_of mounted) setup h x file place v → IsWritten m h file place v
  was-written h x file place v p =
      subst (λ (k : List Entry). IsWritten m k file place v) (sym p.is)
      (always-later (λ k. IsWritten m k file place v) (λ k e. written-later m k e file place v) p.before p.after (by (cell_at (of_file file p.view.shelf.back).segments place) refl p.pending))
    where
      all : Known_ m p.before p.view
      all = (passed-along (machine_of mounted) (begins-unbegun mounted) setup (λ h v. Known_ m h v) (keeps-written m mounted same setup) p.before p.view p.passed).is

      by : (o : Option Cell) → cell_at (of_file file p.view.shelf.back).segments place ≡ o → byte_of o ≡ Some v → IsWritten m p.before file place v
      by None here is = absurd (let no_way : None ≡ Some v = is in cc)
      by (Some cell) here is =
          subst (IsWritten m p.before file place) (let same_byte : Some cell.byte ≡ Some v = is in cc)
          (cell-given (λ place byte number. IsWritten m p.before file place byte) (of_file file p.view.shelf.back).segments place cell (all.back.file file).segments here)

-- ---- parts of a history

-- what the clock had shown by a place it had by each later one
shown-wide : (h : List Entry) (a b ms : ℕ) → a ≤ b → HadShown h a ms → HadShown h b ms
shown-wide h a b ms le (inl z) = let k = z.1 in inl (z.0, record { x = k.x; lane = k.lane; line = k.line; op = k.op; began = k.began; before = let low = k.before in omega (arith, low, le) })
shown-wide h a b ms le (inr s) = inr (s.0, s.1, let low = s.2 in omega (arith, low, le))

-- an open that was answered in the front part of a history
pub opens-front : (modes : Modes) (h more : List Entry) (lane slot o y : ℕ) (f : List ℕ) → y < length h → Opens modes (h ++ more) lane slot o y f → Opens modes h lane slot o y f
opens-front modes h [] lane slot o y f low opens = subst (λ (k : List Entry). Opens modes k lane slot o y f) (append-nil h) opens
opens-front modes h (e ∷ more) lane slot o y f low opens =
    let long = length-append h (e ∷ []) in
    earlier modes h e lane slot o y f low
    (opens-front modes (h ++ e ∷ []) more lane slot o y f (omega (arith, low, long)) (subst (λ (k : List Entry). Opens modes k lane slot o y f) (sym (append_assoc h (e ∷ []) more)) opens))

pub bytes-same : (a b c d : List ℕ) → Bytes a b ≡ Bytes c d → a ≡ c
bytes-same a b c d e = cc

not-list : (a b : List ℕ) (entries : List Listed) → Bytes a b ≡ Entries entries → ⊥
not-list a b entries e = cc

not-text : (a b text : List ℕ) → Bytes a b ≡ Text text → ⊥
not-text a b text e = cc

module _ (t : History) (l : Lawful t) (fresh : Fresh t) (numbered : Numbered t.entries) (before after : List Entry) (is : t.entries ≡ before ++ after) (file : List ℕ) where
  -- the call was executed with this reply, before the end of the part
  pub record DoneBy (from : ℕ) (call : FileCall) (reply : FileKept) : Type 0 where
    pub exec : Done t call reply
    pub since : from ≤ exec.0
    pub soon : exec.0 < length before

  pub done-by : (from : ℕ) (call : FileCall) (reply : FileKept) → IsAnswered before from (length before) (calls.File call) (answers.File reply) → DoneBy from call reply
  done-by from call reply a =
      let whole : IsAnswered t.entries from (length before) (calls.File call) (answers.File reply) =
      subst (λ (k : List Entry). IsAnswered k from (length before) (calls.File call) (answers.File reply)) (sym is)
      (answered-grow before after from (length before) (calls.File call) (answers.File reply) a) in
      let ran = answered-ran t l numbered from (length before) (calls.File call) (answers.File reply) tt whole in
      record { exec = (ran.place, ran.xid, ran.at); since = ran.late; soon = ran.before }

  page-all : (first : Pages) (stamp : Stamp) (index : ℕ) (bytes : List ℕ) → IsPage first before file stamp index bytes → IsPage first t.entries file stamp index bytes
  page-all first stamp index bytes p =
      subst (λ (k : List Entry). IsPage first k file stamp index bytes) (sym is)
      (always-later (λ k. IsPage first k file stamp index bytes) (λ k e. page-grows first k e file stamp index bytes) before after p)

  -- the page, whenever the file has its stamp
  pub page-is : (first : Pages) → GivenTrue first t → (stamp : Stamp) (index : ℕ) (page : List ℕ) → IsPage first before file stamp index page → (n : ℕ) (now : List ℕ) → HasStamp t n file stamp now → page ≡ page_at index now
  page-is first given stamp index page p n now has = true-page-of first t given l fresh numbered file stamp index page (page-all first stamp index page p) n now has

  module _ (first : Pages) (given : GivenTrue first t) (modes : Modes) (takes : modes.nocto ≡ true → TakesReadings t.entries) (x lane slot o y : ℕ) (opens : Opens modes before lane slot o y file) (low : y < x) where
    -- the file had the stamp at a moment of which the read may show bytes
    pub record HadRecent (stamp : Stamp) : Type 0 where
      pub n : ℕ
      pub now : List ℕ
      pub has : HasStamp t n file stamp now
      pub late : Since modes t.entries x o n
      pub soon : n ≤ length before

    -- a moment since the open, and since the read where each read asks
    since-both : (n : ℕ) → o ≤ n → (modes.noac ≡ true → x ≤ n) → Since modes t.entries x o n
    since-both n from began = by modes.noac refl
      where
        by : (b : Bool) → modes.noac ≡ b → Since modes t.entries x o n
        by true noac = each_read noac (began noac)
        by false noac = opened noac from

    -- a moment after a place at which the open's file had been shown so
    from-open : modes.noac ≡ false → (s n : ℕ) → s < n → (s ≡ o) ⊎ IsAged modes before o s → Since modes t.entries x o n
    from-open noac s n late (inl same) = opened noac (omega (arith, late, same))
    from-open noac s n late (inr old) =
        let now : IsAged modes t.entries o s = subst (λ (k : List Entry). IsAged modes k o s) (sym is) (always-later (λ k. IsAged modes k o s) (λ k e. aged-grows modes k e o s) before after old) in
        let began : At t.entries o (Began lane opens.ended.line (ops.OpenFile slot opens.mode opens.path)) =
        subst (λ (k : List Entry). At k o (Began lane opens.ended.line (ops.OpenFile slot opens.mode opens.path))) (sym is)
        (At-grow before after o (Began lane opens.ended.line (ops.OpenFile slot opens.mode opens.path)) opens.ended.began) in
        let recent : IsRecent t.entries modes.longest o n = young now.ms (shown-wide t.entries (s + 1) n now.ms (omega (arith, late)) now.shown_by) now.less in
        by began recent (cases_lt 0 modes.longest) now.may
      where
        by : At t.entries o (Began lane opens.ended.line (ops.OpenFile slot opens.mode opens.path)) → IsRecent t.entries modes.longest o n → (0 < modes.longest) ⊎ (modes.longest ≤ 0) → modes.nocto ≡ true
            → Since modes t.entries x o n
        by began recent (inl some) may =
            since_.kept noac may some (young-of modes t.entries (takes may) lane o y opens.ended.line (ops.OpenFile slot opens.mode opens.path) began n some recent)
        by began recent (inr none) may =
            opened noac (own-of modes t.entries (takes may) lane o y opens.ended.line (ops.OpenFile slot opens.mode opens.path) began n none recent)

    had-from : (from : ℕ) (stamp : Stamp) → ((n : ℕ) → from < n → Since modes t.entries x o n) → HadSince t l fresh numbered before after is file from stamp → HadRecent stamp
    had-from from stamp late h = record { n = h.n; now = h.now; has = h.has; late = late h.n h.late; soon = h.soon }

    -- a recent stamp is such a one
    pub recent-had : (stamp : Stamp) → RecentThen modes before x file stamp → HadRecent stamp
    recent-had stamp r = by modes.noac refl
      where
        k : SeenFrom modes before o file stamp × WasRegular before file
        k =
            let late = r.late in
            r.recent lane slot o y (opens-front modes r.before r.after lane slot o y file (omega (arith, low, late)) (subst (λ (k : List Entry). Opens modes k lane slot o y file) r.is opens))

        by : (b : Bool) → modes.noac ≡ b → HadRecent stamp
        by true noac =
            let f = regular-file t l fresh numbered before after is file k.1 in
            had-from x stamp (λ n late. each_read noac (omega (arith, late))) (had-since t l fresh numbered before after is file f.n f.stamp f.now f.has x stamp (r.again noac))
        by false noac =
            let f = regular-file t l fresh numbered before after is file k.1 in
            had-from k.0.s stamp (λ n late. from-open noac k.0.s n late k.0.age) (had-since t l fresh numbered before after is file f.n f.stamp f.now f.has k.0.s stamp k.0.seen)

    pub found-held : (place v : ℕ) → IsFound first modes before x file place v → HeldByte t (Since modes t.entries x o) (length before) file place v
    found-held place v (in_page stamp index at page p r there same) =
        let had = recent-had stamp r in
        let page_is = page-is first given stamp index page p had.n had.now had.has in
        record {
          n = had.n;
          now = had.now;
          stable = had.has.stable;
          late = had.late;
          soon = had.soon;
          has = record { file = had.has.file; is = had.has.is; holds = had.has.holds };
          holds = ap (slice_get had.now) same ∙ part_stands (start_of index) 4096 had.now at v (ap (λ (b : List ℕ). slice_get b at) (sym page_is) ∙ there);
        }
    found-held place v (in_reply since offset count counted at attr eof given after_ answered there same) =
        let k = done-by since (files.Read file offset count) (kept.Read attr counted eof given) answered in
        let d = k.exec in
        let r = reads (t.at d.0) (t.at (suc d.0)) file offset count counted attr eof given (serves t l _ _ d) in
        let began = opens.ended.later in
        let from = k.since in
        let high = k.soon in
        record {
          n = suc d.0;
          now = r.now;
          stable = r.stable;
          late = since-both (suc d.0) (omega (arith, from, after_, low, began)) (λ noac. omega (arith, from, after_));
          soon = omega (arith, high);
          has = record { file = r.puts.turns.new; is = r.puts.turns.is; holds = r.puts.turns.becomes.holds };
          holds = ap (slice_get r.now) same ∙ part_stands offset counted r.now at v (ap (λ (b : List ℕ). slice_get b at) (sym r.is) ∙ there);
        }

    -- a file of a stamp is as long as that says
    sized : (stamp : Stamp) (n : ℕ) (now : List ℕ) → HasStamp t n file stamp now → stamp.size ≡ length now
    sized stamp n now has = by (l.servers n has.moment file has.file has.is)
      where
        by : IsSound has.file → stamp.size ≡ length now
        by (sound.file bytes kept_ holds k size less) =
            let same : now ≡ bytes = bytes-same now has.stable bytes kept_ (sym has.holds ∙ holds) in
            ap (λ (s : Stamp). s.size) (sym has.stamp) ∙ size ∙ ap length (sym same)
        by (sound.directory entries holds k each) = absurd (not-list now has.stable entries (sym has.holds ∙ holds))
        by (sound.other text holds k m) = absurd (not-text now has.stable text (sym has.holds ∙ holds))

    -- where the file was found to end it ended at such a moment
    pub end-held : (place : ℕ) → IsEnd first modes before x file place → HeldSize t (Since modes t.entries x o) (length before) file place
    end-held place (by_known stamp r less) =
        let had = recent-had stamp r in
        let long = sized stamp had.n had.now had.has in
        record {
          n = had.n;
          now = had.now;
          stable = had.has.stable;
          late = had.late;
          soon = had.soon;
          has = record { file = had.has.file; is = had.has.is; holds = had.has.holds };
          short = omega (arith, long, less);
        }
    end-held place (by_page stamp index page p r less at) =
        let had = recent-had stamp r in
        let page_is = ap length (page-is first given stamp index page p had.n had.now had.has) in
        let cut = length-take 4096 (drop (start_of index) had.now) in
        let rest = length-drop (start_of index) had.now in
        record {
          n = had.n;
          now = had.now;
          stable = had.has.stable;
          late = had.late;
          soon = had.soon;
          has = record { file = had.has.file; is = had.has.is; holds = had.has.holds };
          short = omega (arith, page_is, cut, rest, less, at);
        }
    end-held place (by_reply since offset count counted attr given after_ answered at) =
        let k = done-by since (files.Read file offset count) (kept.Read attr counted true given) answered in
        let d = k.exec in
        let r = reads (t.at d.0) (t.at (suc d.0)) file offset count counted attr true given (serves t l _ _ d) in
        let began = opens.ended.later in
        let from = k.since in
        let high = k.soon in
        let ends = r.end_ refl in
        let given_is = ap length r.is in
        let cut = length-take counted (drop offset r.now) in
        let rest = length-drop offset r.now in
        record {
          n = suc d.0;
          now = r.now;
          stable = r.stable;
          late = since-both (suc d.0) (omega (arith, from, after_, low, began)) (λ noac. omega (arith, from, after_));
          soon = omega (arith, high);
          has = record { file = r.puts.turns.new; is = r.puts.turns.is; holds = r.puts.turns.becomes.holds };
          short = omega (arith, ends, given_is, cut, rest, at);
        }

    later-end : (a b : ℕ) → a ≤ b → HeldSize t (Since modes t.entries x o) (length before) file a → HeldSize t (Since modes t.entries x o) (length before) file b
    later-end a b le s = record { n = s.n; now = s.now; stable = s.stable; late = s.late; soon = s.soon; has = s.has; short = let short = s.short in omega (arith, short, le) }

    -- ---- the answer

    module _ (mounted : Mounted) (same : mounted.nocto ≡ modes.nocto) (setup : Setup) (offset count : ℕ) (bytes server : List ℕ)
        (found : (k v : ℕ) → slice_get server k ≡ Some v → IsFound first modes before x file (offset + k) v) (ends : (count ≤ length server) ⊎ IsEnd first modes before x file (offset + length server))
        (long : (length bytes ≡ count) ⊎ (length server ≤ length bytes)) (most : length bytes ≤ count) where
      -- the file ended with what was found, where that is less
      server-short : length server < count → HeldSize t (Since modes t.entries x o) (length before) file (offset + length server)
      server-short less = by ends
        where
          by : (count ≤ length server) ⊎ IsEnd first modes before x file (offset + length server) → HeldSize t (Since modes t.entries x o) (length before) file (offset + length server)
          by (inl whole) = absurd (omega (arith, whole, less))
          by (inr end) = end-held (offset + length server) end

      pub answer-short : length bytes < count → HeldSize t (Since modes t.entries x o) (length before) file (offset + length bytes)
      answer-short less = by long
        where
          by : (length bytes ≡ count) ⊎ (length server ≤ length bytes) → HeldSize t (Since modes t.entries x o) (length before) file (offset + length bytes)
          by (inl whole) = absurd (omega (arith, whole, less))
          by (inr fits) = later-end (offset + length server) (offset + length bytes) (omega (arith, fits)) (server-short (omega (arith, fits, less)))

      pub byte-so : (k v : ℕ) → k < length bytes → IsShown (machine_of mounted) setup before x file server k (offset + k) v → IsSoFar modes t before x (length before) o file (offset + k) v
      byte-so k v within (shown.own p) = own (was-written modes mounted same setup before x file (offset + k) v p)
      byte-so k v within (shown.served is) = held (found-held (offset + k) v (found k v is))
      byte-so k v within (shown.empty is past_ beyond) =
          past beyond.q beyond.byte is (later-end (offset + length server) (offset + k) (omega (arith, past_)) (server-short (omega (arith, past_, within, most)))) beyond.past
          (was-written modes mounted same setup before x file beyond.q beyond.byte (record {
            before = beyond.before;
            after = beyond.after;
            is = beyond.is;
            late = beyond.late;
            view = beyond.view;
            passed = beyond.passed;
            pending = beyond.there;
          }))

-- the file that the read's story is of, is the one of this open of its slot
same-began : (a b c e : ℕ) (o p : Op) → Began a b o ≡ Began c e p → a ≡ c
same-began a b c e o p q = cc

some-slot : (a b : ℕ) → Some a ≡ Some b → a ≡ b
some-slot a b e = cc

pub file-of : (m : Mounted) (terms : Terms) (setup : Setup) (h : List Entry) (v : View) → GoesWith m terms setup h v → (x y o : ℕ) (f : List ℕ) (offset count : ℕ)
    (bytes : List ℕ) (read : ReadsBytes terms.modes h x y o f offset count bytes) (file : List ℕ) → IsOf terms.modes h x (ops.Read read.slot offset count) file → f ≡ file
file-of m terms setup h v g x y o f offset count bytes read file i =
    let lane = same-began i.lane i.line read.lane read.ended.line (ops.Read read.slot offset count) (ops.Read read.slot offset count)
    (At-one h x (Began i.lane i.line (ops.Read read.slot offset count)) (Began read.lane read.ended.line (ops.Read read.slot offset count)) i.began read.ended.began) in
    let slot = some-slot read.slot i.slot i.works_on in
    one-held m terms setup h v g read.lane read.slot x o i.open_at f file read.holds
    (subst (λ (l : ℕ). InSlot terms.modes h x l read.slot i.open_at file) lane (subst (λ (k : ℕ). InSlot terms.modes h x i.lane k i.open_at file) (sym slot) i.holds))

pub reads-recent : ReadsRecent
reads-recent m terms setup t v g noac brief lawful fresh given x y o f offset count bytes read =
    let s = had-read m terms setup t.entries v g noac (λ may. (brief may).lasts) read.lane x read.slot offset count y bytes read.ended in
    let numbered = (reached-rows (machine_of m) setup t.entries v g.reaches).numbered in
    let part = sym (until t.entries s.before s.after y s.is s.there) in
    let r = s.shown in
    let of : IsOf terms.modes t.entries x (ops.Read read.slot offset count) r.file =
    subst (λ (k : List Entry). IsOf terms.modes k x (ops.Read read.slot offset count) r.file) (sym s.is)
    (always-later (λ k. IsOf terms.modes k x (ops.Read read.slot offset count) r.file)
    (λ k e. of-grows (machine_of m) setup terms.modes k e x (ops.Read read.slot offset count) r.file) s.before s.after r.of) in
    let same = file-of m terms setup t.entries v g x y o f offset count bytes read r.file of in
    let holds = read.holds in
    let low = holds.before in
    let began = read.ended.later in
    let there = s.there in
    let opens : Opens terms.modes s.before read.lane read.slot o holds.y r.file =
    opens-front terms.modes s.before s.after read.lane read.slot o holds.y r.file (omega (arith, low, began, there))
    (subst (λ (k : List ℕ). Opens terms.modes (s.before ++ s.after) read.lane read.slot o holds.y k) same (subst (λ (k : List Entry). Opens terms.modes k read.lane read.slot o holds.y f) s.is holds.opens)) in
    let each : (k b : ℕ) → slice_get bytes k ≡ Some b → IsSoFar terms.modes t s.before x (length s.before) o r.file (offset + k) b = λ k b is.
    byte-so t lawful fresh numbered s.before s.after s.is r.file setup.pages given terms.modes (λ may. (brief may).takes) x read.lane read.slot o holds.y opens low m g.nocto setup offset count bytes r.server
    r.found r.ends r.long r.most k b (slice_get_within bytes k b is) (r.each k b is) in
    let short : length bytes < count → HeldSize t (Since terms.modes t.entries x o) (length s.before) r.file (offset + length bytes) = λ less.
    answer-short t lawful fresh numbered s.before s.after s.is r.file setup.pages given terms.modes (λ may. (brief may).takes) x read.lane read.slot o holds.y opens low m g.nocto setup offset count bytes
    r.server r.found r.ends r.long r.most less in
    record {
      each = λ k b is.
          subst (λ (n : ℕ). IsSoFar terms.modes t (take y t.entries) x n o f (offset + k) b) there
          (subst (λ (h : List Entry). IsSoFar terms.modes t h x (length s.before) o f (offset + k) b) part
          (subst (λ (z : List ℕ). IsSoFar terms.modes t s.before x (length s.before) o z (offset + k) b) (sym same) (each k b is)));
      short = λ less.
          subst (λ (n : ℕ). HeldSize t (Since terms.modes t.entries x o) n f (offset + length bytes)) there
          (subst (λ (z : List ℕ). HeldSize t (Since terms.modes t.entries x o) (length s.before) z (offset + length bytes)) (sym same) (short less));
    }
