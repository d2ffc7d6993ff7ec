-- What the machine of pages keeps under a stamp is the file's page: so it is at first, and after each step.
use Rattle.core_counts.proofs.Prelude.{inl, inr, ◌⊎◌, ◌≡◌, ◌≤◌, ◌+◌, ◌-◌, ◌*◌, ℕ, suc, true, List, [], ◌∷◌, length, take, drop, Some, refl, sym, ap, subst, ◌∙◌, All-nil, Stamp, Wcc, stamp_of, Keep, Kept, Stale, Differs, Pages, known_of, keep_answer, after_keep, History, Lawful}
use Rattle.std.proofs.Common.{IsSome}
use Rattle.page_cache.specs.Pages.{nothing_kept}
use Rattle.page_cache.specs.Bytes as paged
use Rattle.page_cache.specs.Bytes.{page_at, put_page, cut_page}
use Rattle.page_cache.specs.Sound.{AreKnown}
use Rattle.page_cache.proofs.Bytes.{page-cut, page-put}
use Rattle.page_cache.proofs.Believed.{AreTrue, Follows, IsTrueUnder, true-page, true-shown, true-opened, true-saw, true-kept, true-wrote, true-cut}
use Rattle.world_model.specs.Bytes.{put_at, resized}
use Rattle.world_model.specs.FileService.{ReadsBytes}
use Rattle.world_model.specs.Fresh.{Fresh}
use Rattle.law_reads.specs.Kept.{HasStamp, Leads, Sized}
use Rattle.law_reads.proofs.KeptBytes.{same_bytes, reads, writes, serves, later, put_before, put_after, stamp_there, resized_so}
use Rattle.law_pages.specs.Feeds.{IsOffered, IsWritten, IsSized}
use Rattle.law_pages.proofs.OfferedPage.{offered_bytes}
use Rattle.core_answers.proofs.pages.KnownPages.{known-opened, known-saw, known-shown, known-offered, known-wrote, known-cut}
use Rattle.core_counts.specs.coarse.FedPages as machine
use Rattle.core_counts.specs.coarse.FedPages.{Step, Steps, FedPagesTrue}

-- the page of the file at every moment of the stamp
abbrev IsPage : History → List ℕ → Stamp → ℕ → List ℕ → Type 0
IsPage t file s index bytes = (n : ℕ) (now : List ℕ) → HasStamp t n file s now → bytes ≡ page_at index now

same_put : (offset : ℕ) (bytes old : List ℕ) → paged.put_at offset bytes old ≡ put_at offset bytes old
same_put offset [] old = refl
same_put offset (b ∷ bytes) old = refl

-- a page that a READ gave
offered : (t : History) → Lawful t → Fresh t → (file : List ℕ) (s : Stamp) (index : ℕ) (bytes : List ℕ) → IsOffered t file s index bytes → IsPage t file s index bytes
offered t l fresh file s index bytes o = λ n now has.
    o.page ∙ ap (λ (z : List ℕ). take 4096 (drop (index * 4096 - o.offset) z)) r.is
    ∙ offered_bytes o.offset o.counted (index * 4096) r.now o.before whole
    ∙ ap (page_at index) (same_bytes t l fresh (suc o.done.0) n file s r.now now then has)
  where
    r : ReadsBytes (t.at o.done.0) (t.at (suc o.done.0)) file o.offset o.count (Some o.attr) o.counted o.eof o.given
    r = reads (t.at o.done.0) (t.at (suc o.done.0)) file o.offset o.count o.counted (Some o.attr) o.eof o.given (serves t l _ _ o.done)

    whole : (length (take 4096 (drop (index * 4096 - o.offset) (take o.counted (drop o.offset r.now)))) ≡ 4096) ⊎ (length r.now ≤ o.offset + o.counted)
    whole = by o.whole
      where
        by : (length bytes ≡ 4096) ⊎ (o.eof ≡ true) → (length (take 4096 (drop (index * 4096 - o.offset) (take o.counted (drop o.offset r.now)))) ≡ 4096) ⊎ (length r.now ≤ o.offset + o.counted)
        by (inl full) = inl (sym (ap length (o.page ∙ ap (λ (z : List ℕ). take 4096 (drop (index * 4096 - o.offset) z)) r.is)) ∙ full)
        by (inr ends) = inr (r.end_ ends)

    then : HasStamp t (suc o.done.0) file s r.now
    then = record {
      file = r.puts.turns.new;
      stable = r.stable;
      moment = later t _ _ o.done;
      is = r.puts.turns.is;
      holds = r.puts.turns.becomes.holds;
      stamp = stamp_there (t.at (suc o.done.0)) file o.attr s r.puts.turns.new r.shows r.puts.turns.is o.is;
    }

-- a page through an own WRITE
written : (t : History) → Lawful t → Fresh t → (file bytes : List ℕ) (wcc : Wcc) (offset counted : ℕ) (c : Pages) → IsWritten t file offset counted bytes wcc → Follows (IsPage t) file c wcc (λ index. put_page index offset (take counted bytes))
written t l fresh file bytes wcc offset counted c g = λ before after was is known index old page n now has.
    let d = g.done in
    let w = writes (t.at d.0) (t.at (suc d.0)) file offset g.how counted g.committed bytes wcc g.verf (serves t l _ _ d) in
    let at = put_before t d.0 file before wcc w.now w.stable _ _ (later t _ _ d) w.puts w.shows.before was in
    let then = put_after t d.0 file (stamp_of after) wcc.after after w.now w.stable _ _ (later t _ _ d) w.puts w.shows.after is refl in
    ap (put_page index offset (take counted bytes)) (page d.0 w.now at)
    ∙ page-put index offset (take counted bytes) w.now
    ∙ ap (page_at index) (same_put offset (take counted bytes) w.now)
    ∙ ap (page_at index) (same_bytes t l fresh (suc d.0) n file (stamp_of after) (put_at offset (take counted bytes) w.now) now then has)

-- a page through an own SETATTR
sized : (t : History) → Lawful t → Fresh t → (file : List ℕ) (wcc : Wcc) (size : ℕ) (c : Pages) → IsSized t file size wcc → Follows (IsPage t) file c wcc (λ index. cut_page index size)
sized t l fresh file wcc size c g = λ before after was is known index old page n now has.
    let leads : Leads wcc before (stamp_of after) = record { attr = after; before = was; after = is; is = refl } in
    let so : Sized t file size before (stamp_of after) = record { set = g.set; guard = g.guard; wcc = wcc; done = g.done; is = g.is; leads = leads } in
    let r = resized_so t l file before (stamp_of after) size so in
    ap (cut_page index size) (page r.n r.now r.before)
    ∙ page-cut index size r.now
    ∙ ap (page_at index) (same_bytes t l fresh (suc r.n) n file (stamp_of after) (resized size r.now) now r.after has)

kept : (t : History) → Lawful t → Fresh t → (b : Pages) (file : List ℕ) (stamp : Stamp) (sent index : ℕ) (bytes : List ℕ) → AreKnown b → IsOffered t file stamp index bytes → AreTrue (IsPage t) b
    → (answer : Keep) → keep_answer file stamp sent b ≡ answer → AreTrue (IsPage t) (after_keep answer stamp (record { file = file; index = index }) bytes b)
kept t l fresh b file stamp sent index bytes known o all Stale is = all
kept t l fresh b file stamp sent index bytes known o all Differs is = all
kept t l fresh b file stamp sent index bytes known o all Kept is = true-kept (IsPage t) file b stamp sent index bytes known all is (offered t l fresh file stamp index bytes o)

-- what holds of each cache to which the machine comes: the state of each kept page's file is known, and the page is true under it
pub record Right (t : History) (c : Pages) : Type 0 where
  pub known : AreKnown c
  pub pages : AreTrue (IsPage t) c

right-step : (t : History) → Lawful t → Fresh t → (b c : Pages) → Step t b c → Right t b → Right t c
right-step t l fresh b c (machine.opens file stamp mark is) r =
    subst (Right t) (sym is) (record { known = known-opened file b stamp mark r.known; pages = true-opened (IsPage t) file b stamp mark r.pages })
right-step t l fresh b c (machine.sees file stamp sent is) r =
    subst (Right t) (sym is) (record { known = known-saw file b stamp sent r.known; pages = true-saw (IsPage t) file b stamp sent r.pages })
right-step t l fresh b c (machine.shows file index is) r =
    subst (Right t) (sym is) (record { known = known-shown file b index r.known; pages = true-shown (IsPage t) file index b r.pages })
right-step t l fresh b c (machine.keeps file stamp sent index bytes o is) r = subst (Right t) (sym is) (record {
  known = known-offered file b (keep_answer file stamp sent b) stamp index bytes r.known;
  pages = kept t l fresh b file stamp sent index bytes r.known o r.pages (keep_answer file stamp sent b) refl;
})
right-step t l fresh b c (machine.writes file bytes wcc offset counted moment g is) r = subst (Right t) (sym is) (record {
  known = known-wrote file b wcc offset (take counted bytes) moment r.known;
  pages = true-wrote (IsPage t) file b wcc offset (take counted bytes) moment (written t l fresh file bytes wcc offset counted b g) r.pages;
})
right-step t l fresh b c (machine.cuts file wcc size moment g is) r = subst (Right t) (sym is) (record {
  known = known-cut file b wcc size moment r.known;
  pages = true-cut (IsPage t) file b wcc size moment (sized t l fresh file wcc size b g) r.pages;
})
right-step t l fresh b c (machine.drops file moment is) r = subst (Right t) (sym is) (record {
  known = known-wrote file b machine.untold 0 [] moment r.known;
  pages = true-wrote (IsPage t) file b machine.untold 0 [] moment (λ before after was then_ known index old page. absurd cc) r.pages;
})

right-steps : (t : History) → Lawful t → Fresh t → (b c : Pages) → Steps t b c → Right t b → Right t c
right-steps t l fresh _ _ (machine.stays b c is) r = subst (Right t) (sym is) r
right-steps t l fresh _ _ (machine.goes b c d s next) r = right-step t l fresh c d next (right-steps t l fresh b c s r)

nothing-right : (t : History) → Right t nothing_kept
nothing-right t = record { known = All-nil (λ p. IsSome (known_of p.0.file nothing_kept)); pages = All-nil (IsTrueUnder (IsPage t) nothing_kept) }

pub fed-pages-true : FedPagesTrue
fed-pages-true t l fresh c fed file stamp index bytes found known =
    true-page (IsPage t) file index c bytes stamp (right-steps t l fresh nothing_kept c fed (nothing-right t)).pages found known
