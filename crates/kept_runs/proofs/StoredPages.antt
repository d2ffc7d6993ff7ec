-- Pages of a store are pages of their files, before a session and after it.
use Rattle.std.proofs.Common.{◌≡◌, ◌<◌, ◌⊎◌, inl, inr, ℕ, zero, suc, List, [], ◌∷◌, length, get_or, Option, Some, None, refl, sym, ap, subst, ◌∙◌, arith}
use Rattle.std.specs.Prelude.{slice_get}
use Rattle.std.specs.Option.{option_map, option_and_then}
use Rattle.std.proofs.lemmas.Option.{slice_get-get_or}
use Rattle.nfs_types.specs.declared.wcc.Stamp.{Stamp}
use Rattle.page_cache.specs.declared.place.PagePlace.{PagePlace}
use Rattle.page_cache.specs.Bytes.{page_at}
use Rattle.page_cache.specs.Pages.{Handed, Pages, handed, known_of, page_of}
use Rattle.page_cache.specs.Sound.{IsSound}
use Rattle.page_cache.proofs.Nth.{nth-handed}
use Rattle.page_store.specs.Disk.{Every}
use Rattle.page_store.specs.Pages.{HasPage, StoredPage, WasKept, stored_page}
use Rattle.page_store.specs.Store.{Stands, flat}
use Rattle.kept_pages.specs.Comes.{Comes, IsIn}
use Rattle.kept_pages.specs.Kept.{IsKept, KeepsOrKept}
use Rattle.world_model.specs.Fresh.{Fresh}
use Rattle.world_model.specs.History.{History}
use Rattle.world_model.specs.Lawful.{Lawful}
use Rattle.law_reads.proofs.KeptBytes.{same_bytes}
use Rattle.core_answers.specs.pages.True.{GivenTrue, HadPage, IsEarly}
use Rattle.core_answers.proofs.pages.FirstPages.{found-at}
use Rattle.nfs_client.specs.KeptPages.{WasPage, WerePages}
use Rattle.kept_runs.specs.Stored.{Stored, WasTrue}

below : {A : Type 0} → (xs : List A) (k : ℕ) (x : A) → slice_get xs k ≡ Some x → k < length xs
below [] k x at = absurd cc
below (y ∷ xs) zero x at = omega arith
below (y ∷ xs) (suc k) x at = let r = below xs k x at in omega (arith, r)

-- ---- before

-- Until a moment before any operation began, each image had true pages, and each page in memory stands in one of these images.
module _ (t : History) (u : ℕ) (early : IsEarly t u) (slots : List (Option StoredPage)) (may_leave : List ℕ → Type 0) (image : List ℕ) (may : may_leave image)
    (stands : Stands may_leave slots) (stored : Every may_leave (Stored (length slots) t u)) where
  in-slot : (file : List ℕ) (stamp : Stamp) (index : ℕ) (bytes : List ℕ) (k : ℕ) (o : Option (Option StoredPage)) → slice_get slots k ≡ o
      → flat o ≡ Some (stored_page file stamp index bytes) → HadPage t file stamp index bytes
  in-slot file stamp index bytes k None is e = absurd cc
  in-slot file stamp index bytes k (Some None) is e = absurd cc
  in-slot file stamp index bytes k (Some (Some q)) is e =
      let same : q ≡ stored_page file stamp index bytes = cc in
      let w : WasTrue t u (stored_page file stamp index bytes) =
      stored image may k (stored_page file stamp index bytes) (below slots k (Some q) is) (subst (λ (p : StoredPage). HasPage image k p) same (stands k q is image may)) in
      record {
        n = w.n;
        early = λ i lane line op at. let first = early i lane line op at in let within = w.within in omega (arith, first, within);
        now = w.now;
        has = w.has;
        is = w.each w.n w.now w.within w.has;
      }

  had : (file : List ℕ) (stamp : Stamp) (index : ℕ) (bytes : List ℕ) → IsIn slots file stamp index bytes → HadPage t file stamp index bytes
  had file stamp index bytes p = in-slot file stamp index bytes p.0.0 (slice_get slots p.0.0) refl p.0.1

  -- so the pages with which a session begins are true
  pub given-true : (c : Pages) → IsSound c → Comes slots c → GivenTrue c t
  given-true c sound comes = λ k d low stamp known.
      let p : PagePlace × List ℕ = get_or c.pages k d in
      had p.0.file stamp p.0.index p.1 (comes p.0.file stamp p.0.index p.1 known (found-at c sound.apart k p (slice_get-get_or c.pages k d low)))

-- ---- after

handed-same : (a b : Handed) → Some a ≡ Some b → a ≡ b
handed-same a b e = cc

-- a page that a cache keeps is found there, under its file's stamp
kept-found : (c : Pages) (page : StoredPage) → IsSound c → IsKept c page → (known_of page.file c ≡ Some page.stamp) × (page_of page.file page.index c ≡ Some page.bytes)
kept-found c page sound k = by (slice_get c.pages k.0) refl (sym (nth-handed c k.0 sound.known) ∙ k.1)
  where
    out : (p : PagePlace × List ℕ) (o : Option Stamp) → known_of p.0.file c ≡ o
        → option_map {U = Handed} (λ (stamp : Stamp). record { file = p.0.file; stamp = stamp; index = p.0.index; bytes = p.1 }) o
        ≡ Some (record { file = page.file; stamp = page.stamp; index = page.index; bytes = page.bytes })
        → (known_of page.file c ≡ Some page.stamp) × (p.0.file ≡ page.file) × (p.0.index ≡ page.index) × (p.1 ≡ page.bytes)
    out p None is e = absurd cc
    out p (Some stamp) is e =
        let mine : Handed = record { file = p.0.file; stamp = stamp; index = p.0.index; bytes = p.1 } in
        let its : Handed = record { file = page.file; stamp = page.stamp; index = page.index; bytes = page.bytes } in
        let same : mine ≡ its = handed-same mine its e in
        let file : p.0.file ≡ page.file = ap (λ (h : Handed). h.file) same in
        let stamps : stamp ≡ page.stamp = ap (λ (h : Handed). h.stamp) same in (
          subst (λ (f : List ℕ). known_of f c ≡ Some page.stamp) file (is ∙ ap (λ (s : Stamp). Some s) stamps),
          file,
          ap (λ (h : Handed). h.index) same,
          ap (λ (h : Handed). h.bytes) same,
        )

    by : (o : Option (PagePlace × List ℕ)) → slice_get c.pages k.0 ≡ o
        → option_and_then (handed c) o ≡ Some (record { file = page.file; stamp = page.stamp; index = page.index; bytes = page.bytes })
        → (known_of page.file c ≡ Some page.stamp) × (page_of page.file page.index c ≡ Some page.bytes)
    by None at e = absurd cc
    by (Some p) at e =
        let r = out p (known_of p.0.file c) refl e in (
          r.0,
          subst (λ (b : List ℕ). page_of page.file page.index c ≡ Some b) r.3
              (subst (λ (i : ℕ). page_of page.file i c ≡ Some p.1) r.2 (subst (λ (f : List ℕ). page_of f p.0.index c ≡ Some p.1) r.1 (found-at c sound.apart k.0 p at))),
        )

module _ (t : History) (lawful : Lawful t) (fresh : Fresh t) where
  -- what was true until a moment is true at all
  still-true : (u : ℕ) (page : StoredPage) → WasTrue t u page → WasTrue t (length t.entries) page
  still-true u page w = record {
    n = w.n;
    within = w.has.moment;
    now = w.now;
    has = w.has;
    each = λ m later within has. w.each w.n w.now w.within w.has ∙ ap (page_at page.index) (same_bytes t lawful fresh w.n m page.file page.stamp w.now later w.has has);
  }

  kept-true : (c : Pages) (page : StoredPage) → IsSound c → WerePages t c → IsKept c page → WasTrue t (length t.entries) page
  kept-true c page sound were k =
      let f = kept-found c page sound k in
      let w : WasPage t page.file page.stamp page.index page.bytes = were page.file page.stamp page.index page.bytes f.0 f.1 in
      record { n = w.n; within = w.has.moment; now = w.now; has = w.has; each = λ m later within has. w.each m later has }

  -- so what a session leaves is true
  pub left-true : (u slots : ℕ) (c : Pages) (old : List ℕ → Type 0) (image : List ℕ) → IsSound c → WerePages t c → Every old (Stored slots t u) → KeepsOrKept slots slots c old image
      → Stored slots t (length t.entries) image
  left-true u slots c old image sound were stored keeps k page low has = by (keeps k page low has)
    where
      by : WasKept old k page ⊎ ((k < slots) × IsKept c page) → WasTrue t (length t.entries) page
      by (inl was) = still-true u page (stored was.0 was.1 k page low was.2)
      by (inr kept) = kept-true c page sound were kept.1

  -- and what was not changed
  pub still-stored : (u slots : ℕ) (image : List ℕ) → Stored slots t u image → Stored slots t (length t.entries) image
  still-stored u slots image stored k page low has = still-true u page (stored k page low has)
