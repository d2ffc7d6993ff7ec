-- On an honest server a page that is kept under a stamp is that page of the file, while it has the stamp.
use Rattle.core_answers.proofs.Prelude.{inl, inr, ◌⊎◌, ◌≡◌, ◌≤◌, ◌+◌, ◌-◌, ℕ, suc, true, List, [], ◌∷◌, length, take, drop, Some, refl, sym, ap, subst, ◌∙◌, Stamp, FileCall, FileKept, start_of, Pages, Fresh, History, Lawful, Numbered, machine_of, reached-rows, IsAnswered, WasRead, WasWritten, WasCut, IsPage}
use Rattle.page_cache.specs.Bytes.{page_at, put_page, cut_page}
use Rattle.nfs_file_calls.specs.declared.call.FileCall.TheVariants as files
use Rattle.nfs_file_calls.specs.declared.owned.FileKept.TheVariants as kept
use Rattle.page_cache.specs.Bytes as paged
use Rattle.page_cache.proofs.Bytes.{page-cut, page-put}
use Rattle.page_cache.proofs.Believed.{true-page}
use Rattle.world_model.specs.declared.message.Call.TheVariants as calls
use Rattle.world_model.specs.declared.message.Reply.TheVariants as answers
use Rattle.world_model.specs.Bytes.{put_at, resized}
use Rattle.world_model.specs.FileService.{ReadsBytes}
use Rattle.law_reads.specs.Kept.{Done, HasStamp, Sized}
use Rattle.law_reads.proofs.KeptBytes.{same_bytes, reads, writes, serves, later, put_before, put_after, stamp_there, resized_so}
use Rattle.law_pages.proofs.OfferedPage.{offered_bytes}
use Rattle.core_answers.proofs.bonds.Executions.{answered-ran}
use Rattle.core_answers.specs.pages.Kept as pages
use Rattle.core_answers.specs.pages.True.{GivenTrue, HadPage, PagesTrue}
use Rattle.core_answers.proofs.pages.PagesShown.{good-pages}

module _ (first : Pages) (t : History) (given : GivenTrue first t) (l : Lawful t) (fresh : Fresh t) (numbered : Numbered t.entries) (file : List ℕ) where
  -- the call was executed with this reply
  was-done : (call : FileCall) (reply : FileKept) → IsAnswered t.entries 0 (length t.entries) (calls.File call) (answers.File reply) → Done t call reply
  was-done call reply a =
      let ran = answered-ran t l numbered 0 (length t.entries) (calls.File call) (answers.File reply) tt a in
      (ran.place, ran.xid, ran.at)

  same_put : (offset : ℕ) (bytes old : List ℕ) → paged.put_at offset bytes old ≡ put_at offset bytes old
  same_put offset [] old = refl
  same_put offset (b ∷ bytes) old = refl

  -- the page of the file at every moment of the stamp
  abbrev pub IsPageOf : Stamp → ℕ → List ℕ → Type 0
  IsPageOf s index bytes = (n : ℕ) (now : List ℕ) → HasStamp t n file s now → bytes ≡ page_at index now

  -- a page that a READ gave
  read-true : (s : Stamp) (index : ℕ) (bytes : List ℕ) → WasRead t.entries file s index bytes → IsPageOf s index bytes
  read-true s index bytes o = λ n now has.
      o.page ∙ ap (λ (z : List ℕ). take 4096 (drop (start_of index - o.offset) z)) r.is
      ∙ offered_bytes o.offset o.counted (start_of index) r.now o.before whole
      ∙ ap (page_at index) (same_bytes t l fresh (suc d.0) n file s r.now now then has)
    where
      d : Done t (files.Read file o.offset o.count) (kept.Read (Some o.attr) o.counted o.eof o.given)
      d = was-done (files.Read file o.offset o.count) (kept.Read (Some o.attr) o.counted o.eof o.given) o.answered

      r : ReadsBytes (t.at d.0) (t.at (suc d.0)) file o.offset o.count (Some o.attr) o.counted o.eof o.given
      r = reads (t.at d.0) (t.at (suc d.0)) file o.offset o.count o.counted (Some o.attr) o.eof o.given (serves t l _ _ d)

      whole : (length (take 4096 (drop (start_of index - o.offset) (take o.counted (drop o.offset r.now)))) ≡ 4096) ⊎ (length r.now ≤ o.offset + o.counted)
      whole = by o.whole
        where
          by : (length bytes ≡ 4096) ⊎ (o.eof ≡ true)
              → (length (take 4096 (drop (start_of index - o.offset) (take o.counted (drop o.offset r.now)))) ≡ 4096) ⊎ (length r.now ≤ o.offset + o.counted)
          by (inl full) = inl (sym (ap length (o.page ∙ ap (λ (z : List ℕ). take 4096 (drop (start_of index - o.offset) z)) r.is)) ∙ full)
          by (inr ends) = inr (r.end_ ends)

      then : HasStamp t (suc d.0) file s r.now
      then = record {
        file = r.puts.turns.new;
        stable = r.stable;
        moment = later t _ _ d;
        is = r.puts.turns.is;
        holds = r.puts.turns.becomes.holds;
        stamp = stamp_there (t.at (suc d.0)) file o.attr s r.puts.turns.new r.shows r.puts.turns.is o.is;
      }

  -- a page through an own WRITE
  written-true : (old s : Stamp) (index offset count : ℕ) (bytes page : List ℕ) → WasWritten t.entries file offset count bytes old s → IsPageOf old index page
      → IsPageOf s index (put_page index offset (take count bytes) page)
  written-true old s index offset count bytes page g had = λ n now has.
      let d = was-done (files.Write file offset g.how bytes) (kept.Write g.wcc count g.committed g.verf) g.answered in
      let w = writes (t.at d.0) (t.at (suc d.0)) file offset g.how count g.committed bytes g.wcc g.verf (serves t l _ _ d) in
      let at = put_before t d.0 file old g.wcc w.now w.stable _ _ (later t _ _ d) w.puts w.shows.before g.leads.before in
      let then = put_after t d.0 file s g.wcc.after g.leads.attr w.now w.stable _ _ (later t _ _ d) w.puts w.shows.after g.leads.after g.leads.is in
      ap (put_page index offset (take count bytes)) (had d.0 w.now at)
      ∙ page-put index offset (take count bytes) w.now
      ∙ ap (page_at index) (same_put offset (take count bytes) w.now)
      ∙ ap (page_at index) (same_bytes t l fresh (suc d.0) n file s (put_at offset (take count bytes) w.now) now then has)

  -- a page through an own SETATTR
  cut-true : (old s : Stamp) (index size : ℕ) (page : List ℕ) → WasCut t.entries file size old s → IsPageOf old index page → IsPageOf s index (cut_page index size page)
  cut-true old s index size page g had = λ n now has.
      let so : Sized t file size old s = record { set = g.set; guard = g.guard; wcc = g.wcc; done = was-done (files.SetAttr file g.set g.guard) (kept.SetAttr g.wcc) g.answered; is = g.is; leads = g.leads } in
      let r = resized_so t l file old s size so in
      ap (cut_page index size) (had r.n r.now r.before)
      ∙ page-cut index size r.now
      ∙ ap (page_at index) (same_bytes t l fresh (suc r.n) n file s (resized size r.now) now r.after has)

  pub true-page-of : (s : Stamp) (index : ℕ) (bytes : List ℕ) → IsPage first t.entries file s index bytes → IsPageOf s index bytes
  true-page-of _ _ _ (pages.from_start s index bytes found known fits) = λ n now has.
      let g : HadPage t file s index bytes = true-page (HadPage t) file index first bytes s given found known in
      g.is ∙ ap (page_at index) (same_bytes t l fresh g.n n file s g.now now g.has has)
  true-page-of _ _ _ (pages.read s index bytes r) = read-true s index bytes r
  true-page-of _ _ _ (pages.written old s index offset count bytes page now had w is) =
      subst (IsPageOf s index) (sym is) (written-true old s index offset count bytes page w (true-page-of old index page had))
  true-page-of _ _ _ (pages.cut old s index size page now had w is) =
      subst (IsPageOf s index) (sym is) (cut-true old s index size page w (true-page-of old index page had))

pub pages-true : PagesTrue
pages-true m setup t v lawful fresh r given file stamp index bytes found known =
    let g = good-pages m setup t.entries v r in
    true-page-of setup.pages t given lawful fresh (reached-rows (machine_of m) setup t.entries v r).numbered file stamp index bytes
    (true-page (IsPage setup.pages t.entries) file index v.shelf.pages bytes stamp g.1 found known)
