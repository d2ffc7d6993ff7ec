-- What is known of the kept pages stays known after each call of the cache, by what came of a call.
use Rattle.core_answers.proofs.Prelude.{◌≡◌, ◌≤◌, ◌-◌, ◌&&◌, ◌||◌, ◌⊎◌, inl, inr, ℕ, Bool, true, false, nat_le, List, [], length, take, drop, Some, None, Result, Ok, refl, ap, subst, arith, if◌then◌else◌, nat_tests, Attr, Verf, Stamp, Wcc, stamp_of, start_of, Pages, Fault, Entry, Call, Reply, IsAnswered, IsPage}
use Rattle.std.proofs.Common.{nat_lt}
use Rattle.page_cache.specs.Pages.{keep_answer, after_keep, wrote, cut}
use Rattle.std.proofs.lemmas.List.{length-take}
use Rattle.nfs_file_calls.specs.declared.call.FileCall.TheVariants as files
use Rattle.nfs_file_calls.specs.declared.owned.FileKept.TheVariants as kept
use Rattle.page_cache.specs.declared.state.Keep.{Keep as Answer}
use Rattle.page_cache.specs.declared.state.Keep.TheVariants.{Kept, Stale, Differs}
use Rattle.page_cache.specs.Sound.{AreKnown}
use Rattle.page_cache.proofs.Believed.{AreTrue, true-shown, true-opened, true-saw, true-kept, true-wrote, true-cut}
use Rattle.world_model.specs.declared.message.Call.TheVariants as calls
use Rattle.world_model.specs.declared.message.Reply.TheVariants as replies
use Rattle.file_ops.specs.Kept.{is_given, kept_page, offered_told, offered}
use Rattle.file_ops.specs.Saves.{untold}
use Rattle.file_ops.specs.TruncateFile.{size_call}
use Rattle.core_answers.specs.pages.Kept as pages
use Rattle.core_answers.proofs.pages.FilePages.{QuietLaws, ToldLaws}
use Rattle.core_answers.proofs.pages.KnownPages.{known-opened, known-saw, known-shown, known-offered, known-wrote, known-cut}

-- the whole page, or bytes up to the file's end
whole-page : (told : List ℕ) (ends eof : Bool) → (ends ≡ true → eof ≡ true) → (a : Bool) → nat_le 4096 (length told) ≡ a → (b : Bool) → (a || (ends && b)) ≡ true
    → (length (take 4096 told) ≡ 4096) ⊎ (eof ≡ true)
whole-page told ends eof whole true is b given =
    let long = length-take 4096 told in
    let most : 4096 ≤ length told = grind (arith, nat_tests) in
    inl (omega (arith, long, most))
whole-page told true eof whole false is b given = inr (whole refl)
whole-page told false eof whole false is b given = absurd cc

module _ (first : Pages) (h : List Entry) where
  abbrev pub Good : Pages → Type 0
  Good c = AreKnown c × AreTrue (IsPage first h) c

  pub quiet-good : QuietLaws Good
  quiet-good = record {
    opens = λ file stamp mark c g. (known-opened file c stamp mark g.0, true-opened (IsPage first h) file c stamp mark g.1);
    sees = λ file stamp sent c g. (known-saw file c stamp sent g.0, true-saw (IsPage first h) file c stamp sent g.1);
    shows = λ file index c g. (known-shown file c index g.0, true-shown (IsPage first h) file index c g.1);
    drops = λ file moment c g. (
      known-wrote file c untold 0 [] moment g.0,
      true-wrote (IsPage first h) file c untold 0 [] moment (λ before after was is known index bytes page. absurd cc) g.1,
    );
  }

  abbrev Told : Call → Reply → Type 0
  Told call reply = IsAnswered h 0 (length h) call reply

  kept-good : (file : List ℕ) (stamp : Stamp) (sent index : ℕ) (bytes : List ℕ) (c : Pages) → IsPage first h file stamp index bytes → Good c → (answer : Answer) → keep_answer file stamp sent c ≡ answer
      → AreTrue (IsPage first h) (after_keep answer stamp (record { file = file; index = index }) bytes c)
  kept-good file stamp sent index bytes c page g Stale is = g.1
  kept-good file stamp sent index bytes c page g Differs is = g.1
  kept-good file stamp sent index bytes c page g Kept is = true-kept (IsPage first h) file c stamp sent index bytes g.0 g.1 is page

  kept-page : (file : List ℕ) (stamp : Stamp) (sent index : ℕ) (bytes : List ℕ) (c : Pages) → IsPage first h file stamp index bytes → Good c → Good (kept_page file stamp sent index bytes c)
  unfolding kept_page
  kept-page file stamp sent index bytes c page g = (
    known-offered file c (keep_answer file stamp sent c) stamp index bytes g.0,
    kept-good file stamp sent index bytes c page g (keep_answer file stamp sent c) refl,
  )

  module _ (file : List ℕ) (attr : Attr) (counted : ℕ) (eof : Bool) (given : List ℕ) (place count sent index : ℕ) (ends : Bool) (c : Pages)
      (answered : Told (calls.File (files.Read file place count)) (replies.File (kept.Read (Some attr) counted eof given))) (whole : ends ≡ true → eof ≡ true) (g : Good c) where
    told-good : nat_lt (start_of index) place ≡ false → (told : List ℕ) → told ≡ drop (start_of index - place) given → (b : Bool) → is_given told ends ≡ b
        → Good (if b then kept_page file (stamp_of attr) sent index (take 4096 told) c else c)
    told-good is told told_is false e = g
    told-good is told told_is true e = kept-page file (stamp_of attr) sent index (take 4096 told) c (pages.read (stamp_of attr) index (take 4096 told) (record {
      offset = place;
      count = count;
      counted = counted;
      attr = attr;
      eof = eof;
      given = given;
      answered = answered;
      is = refl;
      before = grind (arith, nat_tests);
      page = ap (take 4096) told_is;
      whole = whole-page told ends eof whole (nat_le 4096 (length told)) refl (nat_lt 0 (length told)) e;
    })) g

    late-good : (late : Bool) → nat_lt (start_of index) place ≡ late
        → Good (offered_told file (stamp_of attr) sent ends index (if late then None else Some (drop (start_of index - place) given)) c)
    late-good true is = g
    late-good false is = told-good is (drop (start_of index - place) given) refl (is_given (drop (start_of index - place) given) ends) refl

    offered-good : Good (offered file (stamp_of attr) sent place given ends index c)
    unfolding offered
    offered-good = late-good (nat_lt (start_of index) place) refl

  wrote-good : (file : List ℕ) (offset how : ℕ) (bytes : List ℕ) (wcc : Wcc) (count committed : ℕ) (verf : Verf) (moment : ℕ) (c : Pages)
      → Told (calls.File (files.Write file offset how bytes)) (replies.File (kept.Write wcc count committed verf)) → Good c → Good (wrote file wcc offset (take count bytes) moment c)
  wrote-good file offset how bytes wcc count committed verf moment c answered g = (
    known-wrote file c wcc offset (take count bytes) moment g.0,
    true-wrote (IsPage first h) file c wcc offset (take count bytes) moment
        (λ before after was is known index page had. pages.written before (stamp_of after) index offset count bytes page _ had
        (record { how = how; committed = committed; wcc = wcc; verf = verf; answered = answered; leads = record { attr = after; before = was; after = is; is = refl } }) refl) g.1,
  )

  cut-good : (file : List ℕ) (wcc : Wcc) (size moment : ℕ) (c : Pages) → Told (size_call file size) (replies.File (kept.SetAttr wcc)) → Good c → Good (cut file wcc size moment c)
  cut-good file wcc size moment c answered g = (
    known-cut file c wcc size moment g.0,
    true-cut (IsPage first h) file c wcc size moment
        (λ before after was is known index page had. pages.cut before (stamp_of after) index size page _ had
        (record { set = _; guard = None; wcc = wcc; answered = answered; is = refl; leads = record { attr = after; before = was; after = is; is = refl } }) refl) g.1,
  )

  pub told-good-laws : (call : Call) (came : Result Reply Fault) → ((reply : Reply) → came ≡ Ok reply → Told call reply) → ToldLaws Good call came
  told-good-laws call came told = record {
    offers = λ file attr counted eof given place count sent index ends c is asked whole g.
        offered-good file attr counted eof given place count sent index ends c
        (subst (λ (q : Call). Told q (replies.File (kept.Read (Some attr) counted eof given))) asked (told (replies.File (kept.Read (Some attr) counted eof given)) is)) whole g;
    writes = λ file offset how bytes wcc count committed verf moment c is asked g.
        wrote-good file offset how bytes wcc count committed verf moment c
        (subst (λ (q : Call). Told q (replies.File (kept.Write wcc count committed verf))) asked (told (replies.File (kept.Write wcc count committed verf)) is)) g;
    cuts = λ file wcc size moment c is asked g.
        cut-good file wcc size moment c (subst (λ (q : Call). Told q (replies.File (kept.SetAttr wcc))) asked (told (replies.File (kept.SetAttr wcc)) is)) g;
  }
