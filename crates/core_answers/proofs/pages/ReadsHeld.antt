-- On an honest server the bytes that a read found are those of its file.
use Rattle.core_answers.proofs.Prelude.{◌≡◌, ◌<◌, ◌≤◌, ◌+◌, ℕ, suc, List, [], ◌∷◌, ◌++◌, length, slice_get, Option, Some, refl, sym, ap, subst, ◌∙◌, append_assoc, arith, Attr, Stamp, Wcc, FileCall, FileKept, start_of, Pages, Entry, Fresh, History, Lawful, IsOf, Numbered, machine_of, reached-rows, IsAnswered, WasRead, WasWritten, WasCut, IsPage, IsShown}
use Rattle.std.proofs.Common.{append-nil}
use Rattle.page_cache.specs.Bytes.{page_at}
use Rattle.core_answers.specs.pages.Read.{IsFound, in_page, in_reply}
use Rattle.nfs_types.specs.declared.set_attr.SetAttr.{SetAttr}
use Rattle.nfs_types.specs.declared.time.Time.{Time}
use Rattle.nfs_file_calls.specs.declared.call.FileCall.TheVariants as files
use Rattle.nfs_file_calls.specs.declared.owned.FileKept.TheVariants as kept
use Rattle.world_model.specs.declared.message.Call.TheVariants as calls
use Rattle.world_model.specs.declared.message.Reply.TheVariants as answers
use Rattle.world_model.specs.declared.op.Op.TheVariants as ops
use Rattle.world_model.specs.Bytes.{resized}
use Rattle.world_model.specs.FileService.{HoldsSized, SetsAttr}
use Rattle.world_model.specs.Server.{Server, Bytes, Entries, Text, Holds}
use Rattle.world_model.specs.Service.{Serves, refused, broken_off, done}
use Rattle.world_model.specs.Steps.{TrueOf, TrueWcc}
use Rattle.law_reads.specs.Kept.{Done, HasStamp}
use Rattle.law_reads.proofs.Bytes.{part_stands}
use Rattle.law_reads.proofs.KeptBytes.{reads, writes, serves, later, put_after, stamp_there}
use Rattle.core_answers.proofs.bonds.AttrsShown.{answered-grow}
use Rattle.core_answers.proofs.bonds.Executions.{answered-ran}
use Rattle.core_answers.specs.pages.Held.{IsHeld, since_begun, with_stamp, ReadsHeld}
use Rattle.core_answers.specs.pages.Kept as pages
use Rattle.core_answers.specs.pages.True.{GivenTrue, HadPage, IsEarly}
use Rattle.page_cache.proofs.Believed.{true-page}
use Rattle.core_answers.proofs.pages.PagesShown.{page-grows}
use Rattle.core_answers.proofs.pages.PagesTrue.{true-page-of}
use Rattle.core_answers.proofs.pages.ReadsShown.{had-read, until}

-- what a SETATTR that was answered did
sets : (s t : Server) (f : List ℕ) (set : SetAttr) (guard : Option Time) (wcc : Wcc) → Serves s (calls.File (files.SetAttr f set guard)) (answers.File (kept.SetAttr wcc)) t → SetsAttr s t f set × TrueWcc s t f wcc
sets s t f set guard wcc (refused r same) = absurd r
sets s t f set guard wcc (broken_off g at way given status w is answer p) = absurd (cc answer)
sets s t f set guard wcc (done d) = d

-- a page that is known in a part of a history is known in all of it
page-later : (first : Pages) (h more : List Entry) (file : List ℕ) (stamp : Stamp) (index : ℕ) (bytes : List ℕ) → IsPage first h file stamp index bytes → IsPage first (h ++ more) file stamp index bytes
page-later first h [] file stamp index bytes p = subst (λ (k : List Entry). IsPage first k file stamp index bytes) (sym (append-nil h)) p
page-later first h (e ∷ more) file stamp index bytes p =
    subst (λ (k : List Entry). IsPage first k file stamp index bytes) (append_assoc h (e ∷ []) more)
    (page-later first (h ++ e ∷ []) more file stamp index bytes (page-grows first h e file stamp index bytes p))

module _ (first : Pages) (t : History) (given : GivenTrue first t) (l : Lawful t) (fresh : Fresh t) (numbered : Numbered t.entries) (before after : List Entry) (is : t.entries ≡ before ++ after)
    (begun : (n : ℕ) → IsEarly t n → n ≤ length t.entries → n ≤ length before) (file : List ℕ) where
  -- the call was executed with this reply, before the end of the part
  record DoneBy (from : ℕ) (call : FileCall) (reply : FileKept) : Type 0 where
    exec : Done t call reply
    since : from ≤ exec.0
    soon : exec.0 < length before

  done-by : (from : ℕ) (call : FileCall) (reply : FileKept) → IsAnswered before from (length before) (calls.File call) (answers.File reply) → DoneBy from call reply
  done-by from call reply a =
      let whole : IsAnswered t.entries from (length before) (calls.File call) (answers.File reply) =
      subst (λ (k : List Entry). IsAnswered k from (length before) (calls.File call) (answers.File reply)) (sym is)
      (answered-grow before after from (length before) (calls.File call) (answers.File reply) a) in
      let ran = answered-ran t l numbered from (length before) (calls.File call) (answers.File reply) tt whole in
      record { exec = (ran.place, ran.xid, ran.at); since = ran.late; soon = ran.before }

  -- the file had the stamp at a moment before
  pub record HadIt (stamp : Stamp) : Type 0 where
    pub n : ℕ
    pub soon : n ≤ length before
    pub now : List ℕ
    pub has : HasStamp t n file stamp now

  read-had : (stamp : Stamp) (index : ℕ) (bytes : List ℕ) → WasRead before file stamp index bytes → HadIt stamp
  read-had stamp index bytes o =
      let k = done-by 0 (files.Read file o.offset o.count) (kept.Read (Some o.attr) o.counted o.eof o.given) o.answered in
      let d = k.exec in
      let r = reads (t.at d.0) (t.at (suc d.0)) file o.offset o.count o.counted (Some o.attr) o.eof o.given (serves t l _ _ d) in
      record {
        n = suc d.0;
        soon = let low = k.soon in omega (arith, low);
        now = r.now;
        has = record {
          file = r.puts.turns.new;
          stable = r.stable;
          moment = later t _ _ d;
          is = r.puts.turns.is;
          holds = r.puts.turns.becomes.holds;
          stamp = stamp_there (t.at (suc d.0)) file o.attr stamp r.puts.turns.new r.shows r.puts.turns.is o.is;
        };
      }

  written-had : (old stamp : Stamp) (offset count : ℕ) (bytes : List ℕ) → WasWritten before file offset count bytes old stamp → HadIt stamp
  written-had old stamp offset count bytes g =
      let k = done-by 0 (files.Write file offset g.how bytes) (kept.Write g.wcc count g.committed g.verf) g.answered in
      let d = k.exec in
      let w = writes (t.at d.0) (t.at (suc d.0)) file offset g.how count g.committed bytes g.wcc g.verf (serves t l _ _ d) in
      record {
        n = suc d.0;
        soon = let low = k.soon in omega (arith, low);
        now = _;
        has = put_after t d.0 file stamp g.wcc.after g.leads.attr w.now w.stable _ _ (later t _ _ d) w.puts w.shows.after g.leads.after g.leads.is;
      }

  cut-had : (old stamp : Stamp) (size : ℕ) → WasCut before file size old stamp → HadIt stamp
  cut-had old stamp size g = by w.0.object.holds refl (subst (λ (z : Option ℕ). HoldsSized z w.0.object.holds w.0.later) g.is w.0.sized)
    where
      k : DoneBy 0 (files.SetAttr file g.set g.guard) (kept.SetAttr g.wcc)
      k = done-by 0 (files.SetAttr file g.set g.guard) (kept.SetAttr g.wcc) g.answered

      d : Done t (files.SetAttr file g.set g.guard) (kept.SetAttr g.wcc)
      d = k.exec

      w : SetsAttr (t.at d.0) (t.at (suc d.0)) file g.set × TrueWcc (t.at d.0) (t.at (suc d.0)) file g.wcc
      w = sets (t.at d.0) (t.at (suc d.0)) file g.set g.guard g.wcc (serves t l _ _ d)

      by : (h : Holds) → w.0.object.holds ≡ h → HoldsSized (Some size) h w.0.later → HadIt stamp
      by (Bytes now stable) held sized = record {
        n = suc d.0;
        soon = let low = k.soon in omega (arith, low);
        now = resized size now;
        has = record {
          file = w.0.turns.new;
          stable = resized size stable;
          moment = later t _ _ d;
          is = w.0.turns.is;
          holds = w.0.turns.becomes.holds ∙ sized;
          stamp = stamp_there (t.at (suc d.0)) file g.leads.attr stamp w.0.turns.new (subst (λ (z : Option Attr). TrueOf (t.at (suc d.0)) file z) g.leads.after w.1.after) w.0.turns.is
              g.leads.is;
        };
      }
      by (Entries list) held sized = absurd sized
      by (Text text) held sized = absurd sized

  pub page-had : (stamp : Stamp) (index : ℕ) (bytes : List ℕ) → IsPage first before file stamp index bytes → HadIt stamp
  page-had _ _ _ (pages.from_start stamp index bytes found known fits) =
      let g : HadPage t file stamp index bytes = true-page (HadPage t) file index first bytes stamp given found known in
      record { n = g.n; soon = begun g.n g.early g.has.moment; now = g.now; has = g.has }
  page-had _ _ _ (pages.read stamp index bytes r) = read-had stamp index bytes r
  page-had _ _ _ (pages.written old stamp index offset count bytes page now had w same) = written-had old stamp offset count bytes w
  page-had _ _ _ (pages.cut old stamp index size page now had w same) = cut-had old stamp size w

  -- ---- a byte

  found-held : (x place v : ℕ) → IsFound first before x file place v → IsHeld t x (length before) file place v
  found-held x place v (in_page stamp index at page p there same) = with_stamp stamp (record {
    n = m.n;
    now = m.now;
    stable = m.has.stable;
    late = (m.now, m.has);
    soon = m.soon;
    has = record { file = m.has.file; is = m.has.is; holds = m.has.holds };
    holds = every m.n m.now m.has;
  }) every
    where
      m : HadIt stamp
      m = page-had stamp index page p

      whole : IsPage first t.entries file stamp index page
      whole = subst (λ (k : List Entry). IsPage first k file stamp index page) (sym is) (page-later first before after file stamp index page p)

      every : (n : ℕ) (now : List ℕ) → HasStamp t n file stamp now → slice_get now place ≡ Some v
      every n now has =
          let page_is : page ≡ page_at index now = true-page-of first t given l fresh numbered file stamp index page whole n now has in
          ap (slice_get now) same ∙ part_stands (start_of index) 4096 now at v (ap (λ (b : List ℕ). slice_get b at) (sym page_is) ∙ there)
  found-held x place v (in_reply since offset count counted at attr eof given after_ answered there same) =
      let k = done-by since (files.Read file offset count) (kept.Read attr counted eof given) answered in
      let d = k.exec in
      let r = reads (t.at d.0) (t.at (suc d.0)) file offset count counted attr eof given (serves t l _ _ d) in
      since_begun (record {
        n = suc d.0;
        now = r.now;
        stable = r.stable;
        late = let low = k.since in omega (arith, low, after_);
        soon = let high = k.soon in omega (arith, high);
        has = record { file = r.puts.turns.new; is = r.puts.turns.is; holds = r.puts.turns.becomes.holds };
        holds = ap (slice_get r.now) same ∙ part_stands offset counted r.now at v (ap (λ (b : List ℕ). slice_get b at) (sym r.is) ∙ there);
      })

pub reads-held : ReadsHeld
reads-held m terms setup t v g lawful fresh given lane x slot offset count y bytes ended =
    let s = had-read m terms setup t.entries v g lane x slot offset count y bytes ended in
    let numbered = (reached-rows (machine_of m) setup t.entries v g.reaches).numbered in
    let part = sym (until t.entries s.before s.after y s.is s.there) in
    let r = s.shown in
    let begun : (n : ℕ) → IsEarly t n → n ≤ length t.entries → n ≤ length s.before =
    λ n early within. let low = early x lane ended.line (ops.Read slot offset count) ended.began in let later = ended.later in let there = s.there in omega (arith, low, later, there) in
    record {
      file = r.file;
      of = subst (λ (k : List Entry). IsOf terms.modes k x (ops.Read slot offset count) r.file) part r.of;
      server = r.server;
      held = λ k b is. subst (λ (n : ℕ). IsHeld t x n r.file (offset + k) b) s.there (found-held setup.pages t given lawful fresh numbered s.before s.after s.is begun r.file x (offset + k) b (r.found k b is));
      each = λ k b is. subst (λ (h : List Entry). IsShown (machine_of m) setup h x r.file r.server k (offset + k) b) part (r.each k b is);
    }
