-- What each change of what is pending of its file keeps that a save makes, each step of the save keeps.
use Rattle.core_session.proofs.Prelude.{◌≡◌, ◌≢◌, ◌∙◌, ◌||◌, ◌==◌, inl, inr, ℕ, Bool, true, false, List, [], ◌∷◌, length, Option, Some, None, Result, Ok, Err, refl, sym, subst, nat_lt, Verdict, AllStable, SendAgain, decided, verdict_of, Verf, Wcc, Fault, Reply, Change, lost, chosen, Pending, of_file, OnFile, landed, landed_part, at_xid, with_xid, Segments, AllUpTo, Repeat, Turn, goes_again, Sending, Committing, Resending, CommittingAgain, Saving, write_told, commit_told}
use Rattle.write_back.specs.Files.{PutsPiece}
use Rattle.write_back.specs.Landing.{acked_by}
use Rattle.write_back.specs.Segments.{Segment}
use Rattle.write_back.specs.Numbers.{SegmentsUpTo}
use Rattle.nfs_file_calls.specs.declared.owned.FileKept.TheVariants as kept_replies
use Rattle.world_model.specs.declared.message.Reply.TheVariants as replies
use Rattle.world_model.specs.declared.answer.Fault.TheVariants as faults
use Rattle.write_back.specs.declared.change.Change.TheVariants as by_change
use Rattle.write_back.proofs.Numbers.{upto-sent, upto-chosen, upto-ended, upto-acked, upto-renumbered}
use Rattle.commit_verf.proofs.Numbers.{upto-decided}
use Rattle.file_ops.specs.declared.saving.Phase.{Phase}
use Rattle.file_ops.specs.Saves as saves
use Rattle.step_saves.proofs.Taking.{refused-file}

-- Of a file of which O holds, P stays where bytes take off under the xid of the step, where what is under the asked xid lands or gets the xid of the step, and
-- at a verifier.
pub record IsKept (O : List ℕ → Type 0) (asked to : ℕ) (P : Pending → Type 0) : Type 0 where
  pub puts : (file : List ℕ) (upto wsize : ℕ) (e : ℕ × Segment) (es : Segments) (old new : Pending) → O file → chosen upto wsize (of_file file old) ≡ e ∷ es → PutsPiece to upto (e ∷ es) old new file
      → P old → P new
  pub lands : (file : List ℕ) (change : Change) (old new : Pending) → O file → OnFile old new file (at_xid (landed change) asked (of_file file old)) → P old → P new
  pub part_lands : (file : List ℕ) (change : Change) (count : ℕ) (old new : Pending) → O file → OnFile old new file (at_xid (landed_part change count) asked (of_file file old)) → P old → P new
  pub renames : (file : List ℕ) (old new : Pending) → O file → OnFile old new file (with_xid asked to (of_file file old)) → P old → P new
  pub decides : (file : List ℕ) (upto : ℕ) (verf : Verf) (old new : Pending) → O file → OnFile old new file (decided upto verf (of_file file old)) → P old → P new

module _ (O : List ℕ → Type 0) (P : Pending → Type 0) where
  same-kept : (old new : Pending) → new ≡ old → P old → P new
  same-kept old new is p = subst P (sym is) p

  module _ (asked to : ℕ) (k : IsKept O asked to P) where
    -- ---- without a reply

    sends-kept : (wsize : ℕ) (by_reply : Bool) (run : Segments) (s : Saving) (back : Pending) (next : _) (new : Saving) (after : Pending) → O s.file → chosen s.upto wsize (of_file s.file back) ≡ run
        → saves.Sends to by_reply run s back next new after → P back → P after
    sends-kept wsize by_reply run s back next new after o is (inr l) p = same-kept back after l.1 p
    sends-kept wsize by_reply [] s back next new after o is (inl l) p = same-kept back after l.1 p
    sends-kept wsize by_reply (e ∷ es) s back next new after o is (inl l) p = k.puts s.file s.upto wsize e es back after o is l.1 p

    if-kept : (wsize : ℕ) (b by_reply : Bool) (s : Saving) (back : Pending) (next : _) (new : Saving) (after : Pending) → O s.file
        → saves.SendsIf b to by_reply (chosen s.upto wsize (of_file s.file back)) s back next new after → P back → P after
    if-kept wsize true by_reply s back next new after o l p = sends-kept wsize by_reply (chosen s.upto wsize (of_file s.file back)) s back next new after o refl l p
    if-kept wsize false by_reply s back next new after o l p = same-kept back after l.1 p

    over-kept : (refusal : Option Fault) (wsize : ℕ) (room by_reply : Bool) (s : Saving) (back : Pending) (next : _) (new : Saving) (after : Pending) → O s.file
        → saves.GoesOver refusal wsize to room by_reply s back next new after → P back → P after
    over-kept (Some fault) wsize room by_reply s back next new after o g p = same-kept back after g.1 p
    over-kept None wsize room by_reply s back next new after o g p = if-kept wsize (saves.may_send room s) by_reply s back next new after o g p

    pub goes-kept : (wsize : ℕ) (room by_reply : Bool) (s : Saving) (back : Pending) (next : _) (new : Saving) (after : Pending) → O s.file
        → saves.Goes wsize to room by_reply s back next new after → P back → P after
    goes-kept wsize room by_reply s back next new after o g p = over-kept s.refusal wsize room by_reply s back next new after o g p

    -- ---- the reply to a WRITE

    -- what landed where all of it is to be sent again
    returns-kept : (file : List ℕ) (old new : Pending) → O file → OnFile old new file (at_xid (landed by_change.Return) asked (of_file file old)) → P old → P new
    returns-kept file old new o on p = k.lands file by_change.Return old new o on p

    wrote-kept : (how size : ℕ) (wcc : Wcc) (count committed : ℕ) (verf : Verf) (file : List ℕ) (old new : Pending) (refusal : Option Fault) → O file
        → saves.Lands asked file (write_told how size (Ok (replies.File (kept_replies.Write wcc count committed verf)))) old new refusal → P old → P new
    wrote-kept how size wcc count committed verf file old new None o l p = by (nat_lt committed how || nat_lt 2 committed) refl
      where
        done : (b : Bool) → (nat_lt committed how || nat_lt 2 committed) ≡ false → ((count == 0) || nat_lt size count) ≡ b → P new
        done true f e = let on : (None ≡ Some (faults.Bad 4)) × OnFile old new file (at_xid (landed by_change.Return) asked (of_file file old)) = (rw (f, e) at l) in returns-kept file old new o on.1 p
        done false f e =
            let on : OnFile old new file (at_xid (landed_part (acked_by committed verf) count) asked (of_file file old)) = (rw (f, e) at l) in
            k.part_lands file (acked_by committed verf) count old new o on p

        by : (b : Bool) → (nat_lt committed how || nat_lt 2 committed) ≡ b → P new
        by true e = let on : (None ≡ Some (faults.Bad 3)) × OnFile old new file (at_xid (landed by_change.Return) asked (of_file file old)) = (rw e at l) in returns-kept file old new o on.1 p
        by false e = done ((count == 0) || nat_lt size count) e refl
    wrote-kept how size wcc count committed verf file old new (Some fault) o l p = by (nat_lt committed how || nat_lt 2 committed) refl
      where
        done : (b : Bool) → (nat_lt committed how || nat_lt 2 committed) ≡ false → ((count == 0) || nat_lt size count) ≡ b → P new
        done true f e =
            let on : (Some fault ≡ Some (faults.Bad 4)) × OnFile old new file (at_xid (landed by_change.Return) asked (of_file file old)) = (rw (f, e) at l) in returns-kept file old new o on.1 p
        done false f e = let on : (fault ≡ faults.Memory) × OnFile old new file (at_xid (landed by_change.Return) asked (of_file file old)) = (rw (f, e) at l) in returns-kept file old new o on.1 p

        by : (b : Bool) → (nat_lt committed how || nat_lt 2 committed) ≡ b → P new
        by true e =
            let on : (Some fault ≡ Some (faults.Bad 3)) × OnFile old new file (at_xid (landed by_change.Return) asked (of_file file old)) = (rw e at l) in returns-kept file old new o on.1 p
        by false e = done ((count == 0) || nat_lt size count) e refl

    pub lands-kept : (how size : ℕ) (came : Result Reply Fault) (file : List ℕ) (old new : Pending) (refusal : Option Fault) → O file
        → saves.Lands asked file (write_told how size came) old new refusal → P old → P new
    lands-kept how size (Err fault) file old new refusal o l p = returns-kept file old new o l.1 p
    lands-kept how size (Ok (replies.Mount reply)) file old new refusal o l p = returns-kept file old new o l.1 p
    lands-kept how size (Ok (replies.Dir reply)) file old new refusal o l p = returns-kept file old new o l.1 p
    lands-kept how size (Ok (replies.File (kept_replies.Write wcc count committed verf))) file old new refusal o l p = wrote-kept how size wcc count committed verf file old new refusal o l p
    lands-kept how size (Ok (replies.File (kept_replies.WriteFail status wcc))) file old new refusal o l p = k.lands file (by_change.Refuse status.0) old new o l.1 p
    lands-kept how size (Ok (replies.File reply)) file old new refusal o l p = returns-kept file old new o l.1 p

    -- however a WRITE's reply lands
    pub write-kept : (wsize : ℕ) (room : Bool) (t : _) (s : Saving) (back : Pending) (next : _) (new : Saving) (after : Pending) → O s.file
        → ((file : List ℕ) (old new : Pending) (refusal : Option Fault) → O file → saves.Lands asked file t old new refusal → P old → P new)
        → saves.TakesWrite wsize asked to room t s back next new after → P back → P after
    write-kept wsize room t s back next new after o lands g p =
        goes-kept wsize room g.counts (saves.refused_by g.refusal s) g.between next new after (subst O (sym (refused-file g.refusal s).0) o) g.goes (lands s.file back g.between g.refusal o g.lands p)

    -- ---- the reply to a COMMIT

    decides-kept : (verdict : Verdict) (wsize : ℕ) (room : Bool) (s : Saving) (back : Pending) (next : _) (new : Saving) (after : Pending) → O s.file
        → saves.Decides verdict wsize to room s back next new after → P back → P after
    decides-kept AllStable wsize room s back next new after o d p = same-kept back after d.1 p
    decides-kept (SendAgain count) wsize room s back next new after o d p = goes-kept wsize room false (record s { phase = Resending }) back next new after o d p

    pub commit-kept : (t : Result Verf Fault) (wsize : ℕ) (room : Bool) (s : Saving) (back : Pending) (next : _) (new : Saving) (after : Pending) → O s.file
        → saves.TakesCommit wsize to room t s back next new after → P back → P after
    commit-kept (Err fault) wsize room s back next new after o g p = same-kept back after g.1 p
    commit-kept (Ok verf) wsize room s back next new after o g p =
        decides-kept (verdict_of (lost verf s.upto (of_file s.file back).segments)) wsize room s g.between next new after o g.goes
        (k.decides s.file s.upto verf back g.between o g.decides p)

  -- ---- what came of a call, in each phase

  module _ (sent turn : Turn) (k : IsKept O sent.xid turn.xid P) where
    repeats-kept : (again : Bool) (wsize : ℕ) (t : _) (s : Saving) (back : Pending) (next : _) (new : Saving) (after : Pending) → O s.file
        → ((file : List ℕ) (old new : Pending) (refusal : Option Fault) → O file → saves.Lands sent.xid file t old new refusal → P old → P new)
        → saves.RepeatsWrite again wsize sent turn t s back next new after → P back → P after
    repeats-kept true wsize t s back next new after o lands r p = k.renames s.file back after o r.1 p
    repeats-kept false wsize t s back next new after o lands r p = write-kept sent.xid turn.xid k wsize turn.room t (saves.less_waiting s) back next new after o lands r p

    told-kept : (busy : Bool) (wsize : ℕ) (t : _) (repeats : List Repeat) (s : Saving) (back : Pending) (next : _) (new : Saving) (after : Pending)
        (later : List Repeat) → O s.file → ((file : List ℕ) (old new : Pending) (refusal : Option Fault) → O file → saves.Lands sent.xid file t old new refusal → P old → P new)
        → saves.TakesToldIf busy wsize sent turn t repeats s back next new after later → P back → P after
    told-kept true wsize t repeats s back next new after later o lands (inl g) p =
        repeats-kept (goes_again true sent turn repeats) wsize t s back next new after o lands g.0 p
    told-kept true wsize t repeats s back next new after later o lands (inr g) p =
        write-kept sent.xid turn.xid k wsize turn.room _ (saves.less_waiting s) back next new after o
        (λ file old new refusal at l q. returns-kept sent.xid turn.xid k file old new at l.1 q) g.0 p
    told-kept false wsize t repeats s back next new after later o lands g p =
        write-kept sent.xid turn.xid k wsize turn.room t (saves.less_waiting s) back next new after o lands g.0 p

    first-kept : (again : Bool) (t : Result Verf Fault) (wsize : ℕ) (s : Saving) (back : Pending) (next : _) (new : Saving) (after : Pending) → O s.file
        → saves.TakesFirst again wsize turn t s back next new after → P back → P after
    first-kept true t wsize s back next new after o g p = same-kept back after g.1 p
    first-kept false t wsize s back next new after o g p = commit-kept sent.xid turn.xid k t wsize turn.room (saves.less_waiting s) back next new after o g p

    in-kept : (phase : Phase) (wsize : ℕ) (came : Result Reply Fault) (repeats : List Repeat) (s : Saving) (back : Pending) (next : _) (new : Saving)
        (after : Pending) (later : List Repeat) → O s.file → saves.TakesIn phase wsize sent turn came repeats s back next new after later → P back → P after
    in-kept Sending wsize came repeats s back next new after later o g p = told-kept _ wsize _ repeats s back next new after later o
        (lands-kept sent.xid turn.xid k (saves.answered sent.xid s.file back).how (length (saves.answered sent.xid s.file back).bytes) came) g p
    in-kept Resending wsize came repeats s back next new after later o g p = told-kept _ wsize _ repeats s back next new after later o
        (lands-kept sent.xid turn.xid k (saves.answered sent.xid s.file back).how (length (saves.answered sent.xid s.file back).bytes) came) g p
    in-kept Committing wsize came repeats s back next new after later o g p =
        first-kept (saves.commit_again (commit_told came) sent turn repeats s) (commit_told came) wsize s back next new after o g.0 p
    in-kept CommittingAgain wsize came repeats s back next new after later o g p = same-kept back after g.1 p

    pub takes-kept : (wsize : ℕ) (came : Result Reply Fault) (repeats : List Repeat) (s : Saving) (back : Pending) (next : _) (new : Saving) (after : Pending)
        (later : List Repeat) → O s.file → saves.Takes wsize sent turn came repeats s back next new after later → P back → P after
    takes-kept wsize came repeats s back next new after later o g p = in-kept s.phase wsize came repeats s back next new after later o g p

-- ---- the pending bytes of another file stay, and the numbers stay up to the last one

frame : (f : List ℕ) (back : Pending) (asked to : ℕ) → IsKept (λ file. f ≢ file) asked to (λ b. of_file f b ≡ of_file f back)
frame f back asked to = record {
  puts = λ file upto wsize e es old new o is on p. on.0.others f o ∙ p;
  lands = λ file change old new o on p. on.others f o ∙ p;
  part_lands = λ file change count old new o on p. on.others f o ∙ p;
  renames = λ file old new o on p. on.others f o ∙ p;
  decides = λ file upto verf old new o on p. on.others f o ∙ p;
}

pub goes-frame : (f : List ℕ) (wsize xid : ℕ) (room by_reply : Bool) (s : Saving) (back : Pending) (next : _) (new : Saving) (after : Pending) → f ≢ s.file
    → saves.Goes wsize xid room by_reply s back next new after → of_file f after ≡ of_file f back
goes-frame f wsize xid room by_reply s back next new after apart g =
    goes-kept (λ file. f ≢ file) (λ b. of_file f b ≡ of_file f back) 0 xid (frame f back 0 xid) wsize room by_reply s back next new after apart g refl

pub takes-frame : (f : List ℕ) (wsize : ℕ) (sent turn : Turn) (came : Result Reply Fault) (repeats : List Repeat) (s : Saving) (back : Pending) (next : _) (new : Saving) (after : Pending)
    (later : List Repeat) → f ≢ s.file → saves.Takes wsize sent turn came repeats s back next new after later → of_file f after ≡ of_file f back
takes-frame f wsize sent turn came repeats s back next new after later apart t =
    takes-kept (λ file. f ≢ file) (λ b. of_file f b ≡ of_file f back) sent turn (frame f back sent.xid turn.xid) wsize came repeats s back next new after later apart t refl

abbrev AnyOf : List ℕ → Type 0
AnyOf file = Unit {0}

upto-kept : (n asked to : ℕ) → IsKept AnyOf asked to (λ b. AllUpTo n b)
upto-kept n asked to = record {
  puts = λ file upto wsize e es old new o is on p. upto-sent n to upto (e ∷ es) old new file on (subst (SegmentsUpTo n) is (upto-chosen n upto wsize old file p)) p;
  lands = λ file change old new o on p. upto-ended n asked change old new file on p;
  part_lands = λ file change count old new o on p. upto-acked n asked count change old new file on p;
  renames = λ file old new o on p. upto-renumbered n asked to old new file on p;
  decides = λ file upto verf old new o on p. upto-decided n upto verf old new file on p;
}

pub goes-upto : (n wsize xid : ℕ) (room by_reply : Bool) (s : Saving) (back : Pending) (next : _) (new : Saving) (after : Pending) → saves.Goes wsize xid room by_reply s back next new after
    → AllUpTo n back → AllUpTo n after
goes-upto n wsize xid room by_reply s back next new after g p = goes-kept AnyOf (λ b. AllUpTo n b) 0 xid (upto-kept n 0 xid) wsize room by_reply s back next new after tt g p

pub takes-upto : (n wsize : ℕ) (sent turn : Turn) (came : Result Reply Fault) (repeats : List Repeat) (s : Saving) (back : Pending) (next : _) (new : Saving) (after : Pending) (later : List Repeat)
    → saves.Takes wsize sent turn came repeats s back next new after later → AllUpTo n back → AllUpTo n after
takes-upto n wsize sent turn came repeats s back next new after later t p =
    takes-kept AnyOf (λ b. AllUpTo n b) sent turn (upto-kept n sent.xid turn.xid) wsize came repeats s back next new after later tt t p
