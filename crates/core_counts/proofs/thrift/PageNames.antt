-- What is known of each kept page, by its file and its number alone, stays known after each call of the cache.
use Rattle.core_counts.proofs.Prelude.{◌≡◌, ◌<◌, ◌≤◌, ◌+◌, ◌-◌, ◌/◌, ◌&&◌, ◌||◌, ◌==◌, ◌⊎◌, inl, inr, ℕ, zero, suc, Bool, true, false, nat_le, List, [], length, take, drop, All, Option, Some, None, refl, arith, if◌then◌else◌, option_map_or, nat_tests, Attr, Stamp, Wcc, stamp_of, PagePlace, FileState, Keep, Kept, Stale, Differs, start_of, Pages, state_of, is_place, fronted, keep_answer, after_keep, saw, kept_page}
use Rattle.std.proofs.Common.{max, nat_lt}
use Rattle.page_cache.specs.Bytes.{put_page, cut_page}
use Rattle.page_cache.specs.Pages.{with_state, restarted, is_stamp, opened, opened_over, kept, saw_over, led_on, led_to, changed_over, wrote, cut}
use Rattle.file_ops.specs.Kept.{is_given, offered_told, offered, offered_from}
use Rattle.std.proofs.lemmas.List.{length-drop}
use Rattle.page_cache.proofs.Entries.{All-promoted, All-fronted, All-others, All-changed}
use Rattle.file_ops.specs.Reading as reading
use Rattle.file_ops.specs.Saves.{untold}
use Rattle.core_answers.proofs.pages.FilePages.{QuietLaws}

-- A page that is given has a byte, and it is whole or the file ends in it.
pub given-some : (told : List ℕ) (ends : Bool) → is_given told ends ≡ true → (1 ≤ length told) × ((4096 ≤ length told) ⊎ (ends ≡ true))
given-some told ends is = by (nat_le 4096 (length told)) ends refl refl is
  where
    by : (a e : Bool) → nat_le 4096 (length told) ≡ a → ends ≡ e → (a || (e && nat_lt 0 (length told))) ≡ true → (1 ≤ length told) × ((4096 ≤ length told) ⊎ (ends ≡ true))
    by true e long ends_so same = let most : 4096 ≤ length told = grind (arith, nat_tests) in (omega (arith, most), inl most)
    by false true long ends_so same = (grind (arith, nat_tests), inr ends_so)
    by false false long ends_so same = absurd (cc)

-- what a reply gives of a page: a byte at least, and its last one unless it ends the file
pub record IsGiven (place : ℕ) (given : List ℕ) (ends : Bool) (index : ℕ) : Type 0 where
  pub low : place ≤ start_of index
  pub some : start_of index < place + length given
  pub whole : (start_of index + 4096 ≤ place + length given) ⊎ (ends ≡ true)

both-true : (a b : Bool) → (a && b) ≡ true → a ≡ true
both-true true b is = refl
both-true false b is = absurd (cc)

module _ (P : List ℕ → ℕ → Type 0) where
  abbrev pub Of : PagePlace × List ℕ → Type 0
  Of p = P p.0.file p.0.index

  abbrev pub AllOf : Pages → Type 0
  AllOf c = All Of c.pages

  restarted-all : (file : List ℕ) (known : Option Stamp) (mark : ℕ) (c : Pages) → AllOf c → AllOf (restarted file known mark c)
  restarted-all file known mark c all = All-others Of Of file (λ p other had. had) c.pages all

  opened-all : (file : List ℕ) (stamp : Stamp) (mark : ℕ) (c : Pages) → AllOf c → AllOf (opened file stamp mark c)
  opened-all file stamp mark c all = by (state_of file c)
    where
      by : (o : Option FileState) → AllOf (opened_over o file stamp mark c)
      by None = restarted-all file (Some stamp) mark c all
      by (Some state) = (elim (is_stamp stamp state.known) as (λ y. AllOf (if y then with_state file (Some stamp) (max state.mark mark) c else restarted file (Some stamp) (max state.mark mark) c)) [
        | true ↦ all
        | false ↦ restarted-all file (Some stamp) (max state.mark mark) c all
      ])

  saw-all : (file : List ℕ) (stamp : Stamp) (sent : ℕ) (c : Pages) → AllOf c → AllOf (saw file stamp sent c)
  saw-all file stamp sent c all = by (state_of file c)
    where
      by : (o : Option FileState) → AllOf (saw_over o file stamp sent c)
      by None = all
      by (Some state) = (elim (nat_le sent state.mark || is_stamp stamp state.known) as (λ y. AllOf (if y then c else restarted file (Some stamp) state.mark c)) [
        | true ↦ all
        | false ↦ restarted-all file (Some stamp) state.mark c all
      ])

  led-all : (o : Option Stamp) (file : List ℕ) (change : ℕ → List ℕ → List ℕ) (moment : ℕ) (c : Pages) → AllOf c → AllOf (led_on o file change moment c)
  led-all None file change moment c all = restarted-all file None moment c all
  led-all (Some stamp) file change moment c all = All-changed Of Of file change (λ p other had. had) (λ index bytes had. had) c.pages all

  changed-all : (file : List ℕ) (wcc : Wcc) (change : ℕ → List ℕ → List ℕ) (moment : ℕ) (c : Pages) → AllOf c → AllOf (changed_over (state_of file c) file wcc change moment c)
  changed-all file wcc change moment c all = by (state_of file c)
    where
      by : (o : Option FileState) → AllOf (changed_over o file wcc change moment c)
      by None = all
      by (Some state) = led-all (led_to wcc state.known) file change moment c all

  pub wrote-all : (file : List ℕ) (wcc : Wcc) (offset : ℕ) (bytes : List ℕ) (moment : ℕ) (c : Pages) → AllOf c → AllOf (wrote file wcc offset bytes moment c)
  wrote-all file wcc offset bytes moment c all = changed-all file wcc (λ index. put_page index offset bytes) moment c all

  pub cut-all : (file : List ℕ) (wcc : Wcc) (size moment : ℕ) (c : Pages) → AllOf c → AllOf (cut file wcc size moment c)
  cut-all file wcc size moment c all = changed-all file wcc (λ index. cut_page index size) moment c all

  pub quiet-all : QuietLaws AllOf
  quiet-all = record {
    opens = opened-all;
    sees = saw-all;
    shows = λ file index c all. All-promoted Of (is_place file index) c.pages all;
    drops = λ file moment c all. wrote-all file untold 0 [] moment c all;
  }

  -- ---- pages that are offered

  kept-all : (file : List ℕ) (stamp : Stamp) (index : ℕ) (bytes : List ℕ) (c : Pages) → P file index → AllOf c → AllOf (kept stamp (record { file = file; index = index }) bytes c)
  kept-all file stamp index bytes c here all = by (state_of file c)
    where
      place : PagePlace
      place = record { file = file; index = index }

      by : (o : Option FileState) → AllOf (option_map_or (λ state. with_state place.file (Some stamp) state.mark (record c { pages = fronted c.room place bytes c.pages })) o c)
      by None = all
      by (Some state) = All-fronted Of c.room place bytes c.pages all here

  pub answer-all : (answer : Keep) (file : List ℕ) (stamp : Stamp) (index : ℕ) (bytes : List ℕ) (c : Pages) → P file index → AllOf c
      → AllOf (after_keep answer stamp (record { file = file; index = index }) bytes c)
  answer-all Stale file stamp index bytes c here all = all
  answer-all Differs file stamp index bytes c here all = all
  answer-all Kept file stamp index bytes c here all = kept-all file stamp index bytes c here all

  page-all : (file : List ℕ) (stamp : Stamp) (sent index : ℕ) (bytes : List ℕ) (c : Pages) → P file index → AllOf c → AllOf (kept_page file stamp sent index bytes c)
  unfolding kept_page
  page-all file stamp sent index bytes c here all = answer-all (keep_answer file stamp sent c) file stamp index bytes c here all

  module _ (file : List ℕ) (stamp : Stamp) (sent place : ℕ) (given : List ℕ) (ends : Bool) (lies : (index : ℕ) → IsGiven place given ends index → P file index) where
    whole-by : (index : ℕ) → place ≤ start_of index → (4096 ≤ length (drop (start_of index - place) given)) ⊎ (ends ≡ true) → (start_of index + 4096 ≤ place + length given) ⊎ (ends ≡ true)
    whole-by index low (inl most) = let left = length-drop (start_of index - place) given in inl (omega (arith, most, left, low))
    whole-by index low (inr is) = inr is

    told-all : (index : ℕ) (c : Pages) → nat_lt (start_of index) place ≡ false → AllOf c → (b : Bool) → is_given (drop (start_of index - place) given) ends ≡ b
        → AllOf (if b then kept_page file stamp sent index (take 4096 (drop (start_of index - place) given)) c else c)
    told-all index c late all false is = all
    told-all index c late all true is =
        let some = given-some (drop (start_of index - place) given) ends is in
        let left = length-drop (start_of index - place) given in
        let low : place ≤ start_of index = grind (arith, nat_tests) in
        let one = some.0 in
        page-all file stamp sent index (take 4096 (drop (start_of index - place) given)) c
        (lies index (record { low = low; some = omega (arith, one, left, low); whole = whole-by index low some.1 })) all

    late-all : (index : ℕ) (c : Pages) → AllOf c → (late : Bool) → nat_lt (start_of index) place ≡ late
        → AllOf (offered_told file stamp sent ends index (if late then None else Some (drop (start_of index - place) given)) c)
    late-all index c all true is = all
    late-all index c all false is = told-all index c is all (is_given (drop (start_of index - place) given) ends) refl

    offered-all : (index : ℕ) (c : Pages) → AllOf c → AllOf (offered file stamp sent place given ends index c)
    unfolding offered
    offered-all index c all = late-all index c all (nat_lt (start_of index) place) refl

    pub from-all : (index n : ℕ) (c : Pages) → AllOf c → AllOf (offered_from file stamp sent place given ends index n c)
    from-all index zero c all = all
    from-all index (suc n) c all = offered-all (index + n) (offered_from file stamp sent place given ends index n c) (from-all index n c all)

  ends-so : {place : ℕ} → {given : List ℕ} → (eof at_end : Bool) (index : ℕ) → IsGiven place given (eof && at_end) index → IsGiven place given eof index
  ends-so eof at_end index g = record { low = g.low; some = g.some; whole = elim g.whole [ inl most ↦ inl most | inr is ↦ inr (both-true eof at_end is) ] }

  pub noted-all : (attr : Option Attr) (file : List ℕ) (sent place : ℕ) (given : List ℕ) (eof : Bool) (c : Pages)
      → ((index : ℕ) → IsGiven place given eof index → P file index) → AllOf c → AllOf (reading.noted attr file sent place given eof c)
  noted-all None file sent place given eof c lies all = all
  noted-all (Some attr) file sent place given eof c lies all =
      from-all file (stamp_of attr) sent place given (eof && (place + length given == attr.size)) (λ index g. lies index (ends-so eof (place + length given == attr.size) index g)) (place / 4096) (length given / 4096 + 2) (saw file (stamp_of attr) sent c)
      (saw-all file (stamp_of attr) sent c all)
