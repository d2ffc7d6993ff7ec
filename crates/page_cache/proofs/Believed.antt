-- What is true of each kept page under its file's known stamp is so after each call. For the proofs of callers: take for Q that a
-- file with this stamp has these bytes as this page.
use Rattle.std.proofs.Common.{◌≡◌, ◌⊎◌, inl, inr, ℕ, max, Bool, true, false, ◌||◌, nat_le, if◌then◌else◌, List, All, IsSome, Option, Some, None, option_map, option_and_then, refl, sym, ap, ◌∙◌, subst}
use Rattle.nfs_types.specs.declared.attr.Attr.{Attr}
use Rattle.nfs_types.specs.declared.wcc.Stamp.{Stamp}
use Rattle.nfs_types.specs.declared.wcc.Wcc.{Wcc}
use Rattle.nfs_types.specs.Stamps.{stamp_of}
use Rattle.page_cache.specs.declared.place.PagePlace.{PagePlace}
use Rattle.page_cache.specs.declared.state.FileState.{FileState}
use Rattle.page_cache.specs.declared.state.Keep.TheVariants.{Kept}
use Rattle.page_cache.specs.Bytes.{put_page, cut_page}
use Rattle.page_cache.specs.Pages.{Pages, state_of, known_of, page_of, with_state, restarted, is_place, is_stamp, both_same, opened, opened_over, keep_answer, kept, after_page, saw, saw_over, led_on, changed_over, wrote, cut}
use Rattle.page_cache.specs.Sound.{AreKnown}
use Rattle.page_cache.proofs.Inserts.{same, same-is, same-self}
use Rattle.page_cache.proofs.States.{is_stamp-is, both_same-is, state-with, known-after, TellsKept, Tells, keep-tells}
use Rattle.page_cache.proofs.Entries.{All-page, All-promoted, All-fronted, All-others, All-changed}

module _ (Q : List ℕ → Stamp → ℕ → List ℕ → Type 0) where
  abbrev pub IsTrueUnder : Pages → PagePlace × List ℕ → Type 0
  IsTrueUnder c p = (s : Stamp) → known_of p.0.file c ≡ Some s → Q p.0.file s p.0.index p.1

  abbrev pub AreTrue : Pages → Type 0
  AreTrue c = All (IsTrueUnder c) c.pages

  -- of a page that is kept
  pub true-page : (file : List ℕ) (index : ℕ) (c : Pages) (bytes : List ℕ) (s : Stamp) → AreTrue c → page_of file index c ≡ Some bytes → known_of file c ≡ Some s → Q file s index bytes
  true-page file index c bytes s all found known = All-page (IsTrueUnder c) file index c.pages bytes all found s known

  pub true-shown : (file : List ℕ) (index : ℕ) (c : Pages) → AreTrue c → AreTrue (after_page file index c)
  true-shown file index c all = All-promoted (IsTrueUnder c) (is_place file index) c.pages all

  module _ (file : List ℕ) (c : Pages) where
    known-with : (known : Option Stamp) (mark : ℕ) (f : List ℕ) → known_of f (with_state file known mark c) ≡ (if same f file then known else known_of f c)
    known-with known mark f = known-after f file c (with_state file known mark c) (Some (record { known = known; mark = mark })) (state-with f file c known mark)

    of-other : (known : Option Stamp) (mark : ℕ) (p : PagePlace × List ℕ) → same p.0.file file ≡ false → IsTrueUnder c p → IsTrueUnder (with_state file known mark c) p
    of-other known mark p e h = λ s is. h s (sym (known-with known mark p.0.file ∙ rw e refl) ∙ is)

    of-file : (stamp : Stamp) (mark : ℕ) (s : Stamp) → known_of file (with_state file (Some stamp) mark c) ≡ Some s → stamp ≡ s
    of-file stamp mark s is = let told : Some stamp ≡ Some s = sym (known-with (Some stamp) mark file ∙ rw (same-self file) refl) ∙ is in cc

    -- the file's pages are dropped
    pub true-restarted : (known : Option Stamp) (mark : ℕ) → AreTrue c → AreTrue (restarted file known mark c)
    true-restarted known mark all = All-others (IsTrueUnder c) (IsTrueUnder (restarted file known mark c)) file (of-other known mark) c.pages all

    -- its stamp stays, and its mark is another
    still : (stamp : Stamp) (mark : ℕ) → known_of file c ≡ Some stamp → (p : PagePlace × List ℕ) → IsTrueUnder c p → IsTrueUnder (with_state file (Some stamp) mark c) p
    still stamp mark told p h = by (same p.0.file file) refl
      where
        by : (b : Bool) → same p.0.file file ≡ b → IsTrueUnder (with_state file (Some stamp) mark c) p
        by true e = λ s is. h s (
            ap (λ f. known_of f c) (same-is p.0.file file e) ∙ told
            ∙ ap Some (of-file stamp mark s (ap (λ f. known_of f (with_state file (Some stamp) mark c)) (sym (same-is p.0.file file e)) ∙ is))
            )
        by false e = of-other (Some stamp) mark p e h

    true-still : (stamp : Stamp) (mark : ℕ) → known_of file c ≡ Some stamp → AreTrue c → AreTrue (with_state file (Some stamp) mark c)
    true-still stamp mark told all = λ k d low. still stamp mark told _ (all k d low)

    pub true-opened : (stamp : Stamp) (mark : ℕ) → AreTrue c → AreTrue (opened file stamp mark c)
    true-opened stamp mark all = by (state_of file c) refl
      where
        by : (o : Option FileState) → state_of file c ≡ o → AreTrue (opened_over o file stamp mark c)
        by None is = true-restarted (Some stamp) mark all
        by (Some state) is = (elim (is_stamp stamp state.known) as (λ y. is_stamp stamp state.known ≡ y
            → AreTrue (if y then with_state file (Some stamp) (max state.mark mark) c else restarted file (Some stamp) (max state.mark mark) c)) [
              | true ↦ λ t. true-still stamp (max state.mark mark) (ap (option_and_then (λ s. s.known)) is ∙ is_stamp-is stamp state.known t) all
              | false ↦ λ t. true-restarted (Some stamp) (max state.mark mark) all
            ]) refl

    pub true-saw : (stamp : Stamp) (sent : ℕ) → AreTrue c → AreTrue (saw file stamp sent c)
    true-saw stamp sent all = by (state_of file c)
      where
        by : (o : Option FileState) → AreTrue (saw_over o file stamp sent c)
        by None = all
        by (Some state) = (elim (nat_le sent state.mark || is_stamp stamp state.known) as (λ y. AreTrue (if y then c else restarted file (Some stamp) state.mark c)) [
          | true ↦ all
          | false ↦ true-restarted (Some stamp) state.mark all
        ])

    -- a page that is kept must be true, and so are the others
    pub true-kept : (stamp : Stamp) (sent index : ℕ) (bytes : List ℕ) → AreKnown c → AreTrue c → keep_answer file stamp sent c ≡ Kept → Q file stamp index bytes
        → AreTrue (kept stamp (record { file = file; index = index }) bytes c)
    true-kept stamp sent index bytes known all answer told = of_state tells
      where
        tells : TellsKept file stamp sent c
        tells = subst (Tells file stamp sent c) answer (keep-tells file stamp sent c)

        place : PagePlace
        place = record { file = file; index = index }

        of_state : TellsKept file stamp sent c → AreTrue (kept stamp place bytes c)
        of_state t = rw t.opened (
            All-fronted (IsTrueUnder after) c.room place bytes c.pages (λ k d low. goes_on _ (known k d low) (all k d low)) (λ s is. subst (λ q. Q file q index bytes) (of-file stamp t.state.mark s is) told)
            )
          where
            after : Pages
            after = with_state file (Some stamp) t.state.mark c

            goes_on : (p : PagePlace × List ℕ) → IsSome (known_of p.0.file c) → IsTrueUnder c p → IsTrueUnder after p
            goes_on p some h = by t.known
              where
                its : known_of file c ≡ t.state.known
                its = ap (option_and_then (λ s. s.known)) t.opened

                by : (t.state.known ≡ None) ⊎ (t.state.known ≡ Some stamp) → IsTrueUnder after p
                by (inr e) = still stamp t.state.mark (its ∙ e) p h
                by (inl e) = other (same p.0.file file) refl
                  where
                    other : (b : Bool) → same p.0.file file ≡ b → IsTrueUnder after p
                    other true t = absurd (let none : known_of p.0.file c ≡ None = ap (λ f. known_of f c) (same-is p.0.file file t) ∙ its ∙ e in let h = rw none at some in cc)
                    other false t = of-other (Some stamp) _ p t h

    -- The client's own change is followed: what is true of a page of the file under the stamp before it must lead to what is true
    -- of the changed page under the stamp after it.
    abbrev pub Follows : Wcc → (ℕ → List ℕ → List ℕ) → Type 0
    Follows wcc change =
        (before : Stamp) (after : Attr) → wcc.before ≡ Some before → wcc.after ≡ Some after → known_of file c ≡ Some before
        → (index : ℕ) (bytes : List ℕ) → Q file before index bytes → Q file (stamp_of after) index (change index bytes)

    true-changed : (wcc : Wcc) (change : ℕ → List ℕ → List ℕ) (moment : ℕ) → Follows wcc change → AreTrue c → AreTrue (changed_over (state_of file c) file wcc change moment c)
    true-changed wcc change moment follows all = by (state_of file c) refl
      where
        led : (before after : Stamp) → known_of file c ≡ Some before → ((index : ℕ) (bytes : List ℕ) → Q file before index bytes → Q file after index (change index bytes))
            → AreTrue (led_on (Some after) file change moment c)
        led before after was leads = All-changed (IsTrueUnder c) (IsTrueUnder (with_state file (Some after) moment c)) file change (of-other (Some after) moment)
            (λ index bytes h s is. subst (λ q. Q file q index (change index bytes)) (of-file after moment s is) (leads index bytes (h before was))) c.pages all

        by_after : (state : FileState) → state_of file c ≡ Some state → (both : Bool) → both_same wcc.before state.known ≡ both → (after : Option Attr) → wcc.after ≡ after
            → AreTrue (led_on (if both then option_map stamp_of after else None) file change moment c)
        by_after state is false e after a = true-restarted None moment all
        by_after state is true e None a = true-restarted None moment all
        by_after state is true e (Some after) a =
            let b = both_same-is wcc.before state.known e in
            let known = ap (option_and_then (λ s. s.known)) is ∙ b.2 in
            led b.0 (stamp_of after) known (follows b.0 after b.1 a known)

        by : (o : Option FileState) → state_of file c ≡ o → AreTrue (changed_over o file wcc change moment c)
        by None is = all
        by (Some state) is = by_after state is (both_same wcc.before state.known) refl wcc.after refl

    pub true-wrote : (wcc : Wcc) (offset : ℕ) (bytes : List ℕ) (moment : ℕ) → Follows wcc (λ index. put_page index offset bytes) → AreTrue c → AreTrue (wrote file wcc offset bytes moment c)
    true-wrote wcc offset bytes moment follows all = true-changed wcc (λ index. put_page index offset bytes) moment follows all

    pub true-cut : (wcc : Wcc) (size moment : ℕ) → Follows wcc (λ index. cut_page index size) → AreTrue c → AreTrue (cut file wcc size moment c)
    true-cut wcc size moment follows all = true-changed wcc (λ index. cut_page index size) moment follows all
