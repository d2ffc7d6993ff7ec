-- What an operation makes of the kept pages, it makes by steps of their machine.
use Rattle.core_counts.proofs.Prelude.{◌≡◌, ◌≤◌, ◌-◌, ◌&&◌, ◌||◌, ◌⊎◌, inl, inr, ℕ, Bool, true, false, nat_le, List, length, take, drop, Some, None, Result, Ok, refl, ap, subst, arith, if◌then◌else◌, nat_tests, length-take, Attr, Verf, Stamp, Wcc, stamp_of, start_of, Pages, after_page, saw, Fault, Executed, Call, Reply, At, History, kept_page}
use Rattle.std.proofs.Common.{nat_lt}
use Rattle.page_cache.specs.Pages.{opened, wrote, cut}
use Rattle.file_ops.specs.Kept.{is_given, offered_told, offered}
use Rattle.nfs_file_calls.specs.declared.call.FileCall.TheVariants as files
use Rattle.nfs_file_calls.specs.declared.owned.FileKept.TheVariants as kept
use Rattle.world_model.specs.declared.message.Call.TheVariants as calls
use Rattle.world_model.specs.declared.message.Reply.TheVariants as replies
use Rattle.file_ops.specs.TruncateFile.{size_call}
use Rattle.law_pages.specs.Feeds.{IsOffered}
use Rattle.core_answers.proofs.pages.FilePages.{QuietLaws, ToldLaws}
use Rattle.core_counts.specs.coarse.FedPages.{Step, opens, sees, shows, keeps, writes, cuts, drops, Steps, goes}

-- the call was executed with this reply
abbrev pub WasDone : History → Call → Reply → Type 0
WasDone t call reply = (n : ℕ) × (xid : ℕ) × At t.entries n (Executed xid call reply)

-- the whole page, or bytes up to the file's end
whole-page : (told : List ℕ) (ends eof : Bool) → (ends ≡ true → eof ≡ true) → (a : Bool) → nat_le 4096 (length told) ≡ a → (b : Bool) → (a || (ends && b)) ≡ true
    → (length (take 4096 told) ≡ 4096) ⊎ (eof ≡ true)
whole-page told ends eof whole true is b given =
    let long = length-take 4096 told in
    let most : 4096 ≤ length told = grind (arith, nat_tests) in
    inl (omega (arith, long, most))
whole-page told true eof whole false is b given = inr (whole refl)
whole-page told false eof whole false is b given = absurd cc

module _ (t : History) (from : Pages) where
  abbrev pub Led : Pages → Type 0
  Led c = Steps t from c

  step-on : (c d : Pages) → Led c → Step t c d → Led d
  step-on c d s next = goes from c d s next

  pub quiet-fed : QuietLaws Led
  quiet-fed = record {
    opens = λ file stamp mark c s. step-on c (opened file stamp mark c) s (opens file stamp mark refl);
    sees = λ file stamp sent c s. step-on c (saw file stamp sent c) s (sees file stamp sent refl);
    shows = λ file index c s. step-on c (after_page file index c) s (shows file index refl);
    drops = λ file moment c s. step-on c _ s (drops file moment refl);
  }

  kept-fed : (file : List ℕ) (stamp : Stamp) (sent index : ℕ) (bytes : List ℕ) (c : Pages) → IsOffered t file stamp index bytes → Led c → Led (kept_page file stamp sent index bytes c)
  unfolding kept_page
  kept-fed file stamp sent index bytes c o s = step-on c _ s (keeps file stamp sent index bytes o refl)

  module _ (file : List ℕ) (attr : Attr) (counted : ℕ) (eof : Bool) (given : List ℕ) (place count sent index : ℕ) (ends : Bool) (c : Pages)
      (done : WasDone t (calls.File (files.Read file place count)) (replies.File (kept.Read (Some attr) counted eof given))) (whole : ends ≡ true → eof ≡ true) (s : Led c) where
    told-fed : nat_lt (start_of index) place ≡ false → (told : List ℕ) → told ≡ drop (start_of index - place) given → (b : Bool) → is_given told ends ≡ b
        → Led (if b then kept_page file (stamp_of attr) sent index (take 4096 told) c else c)
    told-fed is told told_is false e = s
    told-fed is told told_is true e = kept-fed file (stamp_of attr) sent index (take 4096 told) c (record {
      offset = place;
      count = count;
      counted = counted;
      attr = attr;
      eof = eof;
      given = given;
      done = done;
      is = refl;
      before = grind (arith, nat_tests);
      page = ap (take 4096) told_is;
      whole = whole-page told ends eof whole (nat_le 4096 (length told)) refl (nat_lt 0 (length told)) e;
    }) s

    late-fed : (late : Bool) → nat_lt (start_of index) place ≡ late
        → Led (offered_told file (stamp_of attr) sent ends index (if late then None else Some (drop (start_of index - place) given)) c)
    late-fed true is = s
    late-fed false is = told-fed is (drop (start_of index - place) given) refl (is_given (drop (start_of index - place) given) ends) refl

    offered-fed : Led (offered file (stamp_of attr) sent place given ends index c)
    unfolding offered
    offered-fed = late-fed (nat_lt (start_of index) place) refl

  wrote-fed : (file : List ℕ) (offset how : ℕ) (bytes : List ℕ) (wcc : Wcc) (count committed : ℕ) (verf : Verf) (moment : ℕ) (c : Pages)
      → WasDone t (calls.File (files.Write file offset how bytes)) (replies.File (kept.Write wcc count committed verf)) → Led c → Led (wrote file wcc offset (take count bytes) moment c)
  wrote-fed file offset how bytes wcc count committed verf moment c done s =
      step-on c (wrote file wcc offset (take count bytes) moment c) s
      (writes file bytes wcc offset count moment (record { how = how; committed = committed; verf = verf; done = done }) refl)

  cut-fed : (file : List ℕ) (wcc : Wcc) (size moment : ℕ) (c : Pages) → WasDone t (size_call file size) (replies.File (kept.SetAttr wcc)) → Led c → Led (cut file wcc size moment c)
  cut-fed file wcc size moment c done s = step-on c (cut file wcc size moment c) s (cuts file wcc size moment (record { set = _; guard = None; done = done; is = refl }) refl)

  pub told-fed-laws : (call : Call) (came : Result Reply Fault) → ((reply : Reply) → came ≡ Ok reply → WasDone t call reply) → ToldLaws Led call came
  told-fed-laws call came told = record {
    offers = λ file attr counted eof given place count sent index ends c is asked whole s.
        offered-fed file attr counted eof given place count sent index ends c
        (subst (λ (q : Call). WasDone t q (replies.File (kept.Read (Some attr) counted eof given))) asked (told (replies.File (kept.Read (Some attr) counted eof given)) is)) whole s;
    writes = λ file offset how bytes wcc count committed verf moment c is asked s.
        wrote-fed file offset how bytes wcc count committed verf moment c
        (subst (λ (q : Call). WasDone t q (replies.File (kept.Write wcc count committed verf))) asked (told (replies.File (kept.Write wcc count committed verf)) is)) s;
    cuts = λ file wcc size moment c is asked s.
        cut-fed file wcc size moment c (subst (λ (q : Call). WasDone t q (replies.File (kept.SetAttr wcc))) asked (told (replies.File (kept.SetAttr wcc)) is)) s;
  }
