-- What is kept under a stamp is the file's page: so it is at first, and after each call of the cache.
use Rattle.std.proofs.Common.{inl, inr, ◌⊎◌, ◌≡◌, ◌≤◌, ◌+◌, ◌-◌, ◌*◌, ℕ, suc, true, List, [], ◌∷◌, length, take, drop, Some, refl, sym, ap, subst, ◌∙◌, arith}
use Rattle.nfs_types.specs.declared.wcc.Stamp.{Stamp}
use Rattle.nfs_types.specs.declared.wcc.Wcc.{Wcc}
use Rattle.nfs_types.specs.Stamps.{stamp_of}
use Rattle.page_cache.specs.declared.state.Keep.{Keep}
use Rattle.page_cache.specs.declared.state.Keep.TheVariants.{Kept, Stale, Differs}
use Rattle.page_cache.specs.Bytes as paged
use Rattle.page_cache.specs.Bytes.{page_at, put_page, cut_page}
use Rattle.page_cache.specs.Pages.{Pages, page_of, known_of, keep_answer, after_keep}
use Rattle.page_cache.specs.Sound.{AreKnown}
use Rattle.page_cache.proofs.Bytes.{page-cut, page-put}
use Rattle.page_cache.proofs.Believed.{AreTrue, Follows, true-page, true-shown, true-opened, true-saw, true-kept, true-wrote, true-cut}
use Rattle.world_model.specs.Bytes.{put_at, resized}
use Rattle.world_model.specs.FileService.{ReadsBytes}
use Rattle.world_model.specs.Fresh.{Fresh}
use Rattle.world_model.specs.History.{History}
use Rattle.world_model.specs.Lawful.{Lawful}
use Rattle.law_reads.specs.Kept.{HasStamp, Leads, Sized}
use Rattle.law_reads.proofs.KeptBytes.{same_bytes, reads, writes, serves, later, put_before, put_after, stamp_there, resized_so}
use Rattle.law_pages.specs.Feeds as feeds
use Rattle.law_pages.specs.Feeds.{IsOffered, IsWritten, IsSized, IsFed}
use Rattle.law_pages.proofs.OfferedPage.{offered_bytes}

-- the page of the file at every moment of the stamp
abbrev IsPage : History → List ℕ → Stamp → ℕ → List ℕ → Type 0
IsPage t file s index bytes = (n : ℕ) (now : List ℕ) → HasStamp t n file s now → bytes ≡ page_at index now

same_put : (offset : ℕ) (bytes old : List ℕ) → paged.put_at offset bytes old ≡ put_at offset bytes old
same_put offset [] old = refl
same_put offset (b ∷ bytes) old = refl

-- a page that a READ gave
offered : (t : History) → Lawful t → Fresh t → (file : List ℕ) (s : Stamp) (index : ℕ) (bytes : List ℕ) → IsOffered t file s index bytes → IsPage t file s index bytes
offered t l fresh file s index bytes o = λ n now has.
    o.page ∙ ap (λ (z : List ℕ). take 4096 (drop (index * 4096 - o.offset) z)) r.is
    ∙ offered_bytes o.offset o.counted (index * 4096) r.now o.before whole
    ∙ ap (page_at index) (same_bytes t l fresh (suc o.done.0) n file s r.now now then has)
  where
    r : ReadsBytes (t.at o.done.0) (t.at (suc o.done.0)) file o.offset o.count (Some o.attr) o.counted o.eof o.given
    r = reads (t.at o.done.0) (t.at (suc o.done.0)) file o.offset o.count o.counted (Some o.attr) o.eof o.given (serves t l _ _ o.done)

    whole : (length (take 4096 (drop (index * 4096 - o.offset) (take o.counted (drop o.offset r.now)))) ≡ 4096) ⊎ (length r.now ≤ o.offset + o.counted)
    whole = by o.whole
      where
        by : (length bytes ≡ 4096) ⊎ (o.eof ≡ true) → (length (take 4096 (drop (index * 4096 - o.offset) (take o.counted (drop o.offset r.now)))) ≡ 4096) ⊎ (length r.now ≤ o.offset + o.counted)
        by (inl full) = inl (sym (ap length (o.page ∙ ap (λ (z : List ℕ). take 4096 (drop (index * 4096 - o.offset) z)) r.is)) ∙ full)
        by (inr ends) = inr (r.end_ ends)

    then : HasStamp t (suc o.done.0) file s r.now
    then = record {
      file = r.puts.turns.new;
      stable = r.stable;
      moment = later t _ _ o.done;
      is = r.puts.turns.is;
      holds = r.puts.turns.becomes.holds;
      stamp = stamp_there (t.at (suc o.done.0)) file o.attr s r.puts.turns.new r.shows r.puts.turns.is o.is;
    }

-- a page through an own WRITE
written : (t : History) → Lawful t → Fresh t → (file bytes : List ℕ) (wcc : Wcc) (offset counted : ℕ) (c : Pages) → IsWritten t file offset counted bytes wcc → Follows (IsPage t) file c wcc (λ index. put_page index offset (take counted bytes))
written t l fresh file bytes wcc offset counted c g = λ before after was is known index old page n now has.
    let d = g.done in
    let w = writes (t.at d.0) (t.at (suc d.0)) file offset g.how counted g.committed bytes wcc g.verf (serves t l _ _ d) in
    let at = put_before t d.0 file before wcc w.now w.stable _ _ (later t _ _ d) w.puts w.shows.before was in
    let then = put_after t d.0 file (stamp_of after) wcc.after after w.now w.stable _ _ (later t _ _ d) w.puts w.shows.after is refl in
    ap (put_page index offset (take counted bytes)) (page d.0 w.now at)
    ∙ page-put index offset (take counted bytes) w.now
    ∙ ap (page_at index) (same_put offset (take counted bytes) w.now)
    ∙ ap (page_at index) (same_bytes t l fresh (suc d.0) n file (stamp_of after) (put_at offset (take counted bytes) w.now) now then has)

-- a page through an own SETATTR
sized : (t : History) → Lawful t → Fresh t → (file : List ℕ) (wcc : Wcc) (size : ℕ) (c : Pages) → IsSized t file size wcc → Follows (IsPage t) file c wcc (λ index. cut_page index size)
sized t l fresh file wcc size c g = λ before after was is known index old page n now has.
    let leads : Leads wcc before (stamp_of after) = record { attr = after; before = was; after = is; is = refl } in
    let so : Sized t file size before (stamp_of after) = record { set = g.set; guard = g.guard; wcc = wcc; done = g.done; is = g.is; leads = leads } in
    let r = resized_so t l file before (stamp_of after) size so in
    ap (cut_page index size) (page r.n r.now r.before)
    ∙ page-cut index size r.now
    ∙ ap (page_at index) (same_bytes t l fresh (suc r.n) n file (stamp_of after) (resized size r.now) now r.after has)

kept : (t : History) → Lawful t → Fresh t → (b : Pages) (file : List ℕ) (stamp : Stamp) (sent index : ℕ) (bytes : List ℕ) → AreKnown b → IsOffered t file stamp index bytes → AreTrue (IsPage t) b
    → (answer : Keep) → keep_answer file stamp sent b ≡ answer → AreTrue (IsPage t) (after_keep answer stamp (record { file = file; index = index }) bytes b)
kept t l fresh b file stamp sent index bytes known o all Stale is = all
kept t l fresh b file stamp sent index bytes known o all Differs is = all
kept t l fresh b file stamp sent index bytes known o all Kept is = true-kept (IsPage t) file b stamp sent index bytes known all is (offered t l fresh file stamp index bytes o)

-- of every cache that was fed so
pub true_pages : (t : History) → Lawful t → Fresh t → (c : Pages) → IsFed t c → AreTrue (IsPage t) c
true_pages t l fresh c (feeds.begins _ room is) = subst (AreTrue (IsPage t)) (sym is) (λ k d lt. absurd (omega (arith, lt)))
true_pages t l fresh c (feeds.opens b _ file stamp mark fed is) = subst (AreTrue (IsPage t)) (sym is) (true-opened (IsPage t) file b stamp mark (true_pages t l fresh b fed))
true_pages t l fresh c (feeds.sees b _ file stamp sent fed is) = subst (AreTrue (IsPage t)) (sym is) (true-saw (IsPage t) file b stamp sent (true_pages t l fresh b fed))
true_pages t l fresh c (feeds.shows b _ file index fed is) = subst (AreTrue (IsPage t)) (sym is) (true-shown (IsPage t) file index b (true_pages t l fresh b fed))
true_pages t l fresh c (feeds.keeps b _ file stamp sent index bytes fed known o is) =
    subst (AreTrue (IsPage t)) (sym is) (kept t l fresh b file stamp sent index bytes known o (true_pages t l fresh b fed) (keep_answer file stamp sent b) refl)
true_pages t l fresh c (feeds.writes b _ file bytes wcc offset counted moment fed g is) =
    subst (AreTrue (IsPage t)) (sym is) (true-wrote (IsPage t) file b wcc offset (take counted bytes) moment (written t l fresh file bytes wcc offset counted b g) (true_pages t l fresh b fed))
true_pages t l fresh c (feeds.cuts b _ file wcc size moment fed g is) =
    subst (AreTrue (IsPage t)) (sym is) (true-cut (IsPage t) file b wcc size moment (sized t l fresh file wcc size b g) (true_pages t l fresh b fed))

pub true_page : (t : History) → Lawful t → Fresh t → (c : Pages) → IsFed t c → (file : List ℕ) (s : Stamp) (index : ℕ) (bytes : List ℕ) → page_of file index c ≡ Some bytes → known_of file c ≡ Some s
    → (n : ℕ) (now : List ℕ) → HasStamp t n file s now → bytes ≡ page_at index now
true_page t l fresh c fed file s index bytes found known = true-page (IsPage t) file index c bytes s (true_pages t l fresh c fed) found known
