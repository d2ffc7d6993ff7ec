-- What each change of what is pending keeps that a save makes, each step of a save keeps: as the topic `writes` of `core_answers` has it, and a piece that
-- takes off has no more bytes than a WRITE may have.
use Rattle.core_session.proofs.Prelude.{◌≡◌, ◌≤◌, ◌-◌, ◌&&◌, nat_eq, take, arith, length-append, ◌||◌, ◌==◌, inl, inr, ℕ, Bool, true, false, List, [], ◌∷◌, length, Option, Some, None, Result, Ok, Err, refl, sym, subst, nat_lt, if◌then◌else◌, Verdict, AllStable, SendAgain, decided, verdict_of, Verf, Wcc, Fault, Reply, Change, lost, chosen, piece_of, with_sent, Pending, of_file, OnFile, landed, landed_part, at_xid, with_xid, PutsInFlight, Segments, Repeat, Turn, goes_again, Sending, Committing, Resending, CommittingAgain, Saving, write_told, commit_told}
use Rattle.std.proofs.Common.{length-take}
use Rattle.write_back.specs.Choice.{may_go, how_of_segment, run_from, chosen_from, bytes_in}
use Rattle.write_back.specs.Landing.{acked_by}
use Rattle.write_back.specs.Segments.{end_of, head_of}
use Rattle.nfs_file_calls.specs.declared.owned.FileKept.TheVariants as kept_replies
use Rattle.world_model.specs.declared.message.Reply.TheVariants as replies
use Rattle.world_model.specs.declared.answer.Fault.TheVariants as faults
use Rattle.write_back.specs.declared.change.Change.TheVariants as by_change
use Rattle.write_back.specs.Pieces.{Sent}
use Rattle.file_ops.specs.declared.saving.Phase.{Phase}
use Rattle.file_ops.specs.Saves as saves

-- ---- what is chosen to be sent

run-short : (pieces : List Sent) (upto how place room : ℕ) (es : Segments) → length (bytes_in (run_from pieces upto how place room es)) ≤ room
run-short pieces upto how place room [] = omega arith
run-short pieces upto how place room (e ∷ es) =
    by (may_go pieces upto e && nat_eq (how_of_segment e) how && nat_eq e.0 place && nat_lt 0 room)
    (run-short pieces upto how (end_of e) (room - length e.1.bytes) es)
  where
    rest : Segments
    rest = run_from pieces upto how (end_of e) (room - length e.1.bytes) es

    by : (b : Bool) → length (bytes_in rest) ≤ room - length e.1.bytes → length (bytes_in (if b then (e.0, head_of room e.1) ∷ rest else [])) ≤ room
    by false more = omega arith
    by true more = omega (arith, more, length-append (take room e.1.bytes) (bytes_in rest), length-take room e.1.bytes)

chosen-short : (pieces : List Sent) (upto wsize : ℕ) (es : Segments) → length (bytes_in (chosen_from pieces upto wsize es)) ≤ wsize
chosen-short pieces upto wsize [] = omega arith
chosen-short pieces upto wsize (e ∷ es) = by (may_go pieces upto e) (chosen-short pieces upto wsize es)
  where
    by : (b : Bool) → length (bytes_in (chosen_from pieces upto wsize es)) ≤ wsize
        → length (bytes_in (if b then run_from pieces upto (how_of_segment e) e.0 wsize (e ∷ es) else chosen_from pieces upto wsize es)) ≤ wsize
    by true more = run-short pieces upto (how_of_segment e) e.0 wsize (e ∷ es)
    by false more = more

-- ---- steps of a save

-- P stays where bytes take off, at most wsize of them, under the xid of the step, where what is under the asked xid lands or gets the xid of the step, and at a verifier.
pub record IsKept (wsize asked to : ℕ) (P : Pending → Type 0) : Type 0 where
  pub puts : (file : List ℕ) (piece : Sent) (upto : ℕ) (old new : Pending) → piece.xid ≡ to → length piece.bytes ≤ wsize → OnFile old new file (with_sent piece (of_file file old))
      → PutsInFlight piece upto (of_file file old) (of_file file new) → P old → P new
  pub lands : (file : List ℕ) (change : Change) (old new : Pending) → OnFile old new file (at_xid (landed change) asked (of_file file old)) → P old → P new
  pub part_lands : (file : List ℕ) (change : Change) (count : ℕ) (old new : Pending) → OnFile old new file (at_xid (landed_part change count) asked (of_file file old)) → P old → P new
  pub renames : (file : List ℕ) (old new : Pending) → OnFile old new file (with_xid asked to (of_file file old)) → P old → P new
  pub decides : (file : List ℕ) (upto : ℕ) (verf : Verf) (old new : Pending) → OnFile old new file (decided upto verf (of_file file old)) → P old → P new

module _ (P : Pending → Type 0) where
  same-kept : (old new : Pending) → new ≡ old → P old → P new
  same-kept old new is p = subst P (sym is) p

  module _ (wsize asked to : ℕ) (k : IsKept wsize asked to P) where
    -- ---- without a reply

    sends-kept : (by_reply : Bool) (run : Segments) (s : Saving) (back : Pending) (next : _) (new : Saving) (after : Pending)
        → length (bytes_in run) ≤ wsize → saves.Sends to by_reply run s back next new after → P back → P after
    sends-kept by_reply run s back next new after fits (inr l) p = same-kept back after l.1 p
    sends-kept by_reply [] s back next new after fits (inl l) p = same-kept back after l.1 p
    sends-kept by_reply (e ∷ es) s back next new after fits (inl l) p = k.puts s.file (piece_of to e (e ∷ es)) s.upto back after refl fits l.1.0 l.1.1 p

    if-kept : (b by_reply : Bool) (run : Segments) (s : Saving) (back : Pending) (next : _) (new : Saving) (after : Pending)
        → length (bytes_in run) ≤ wsize → saves.SendsIf b to by_reply run s back next new after → P back → P after
    if-kept true by_reply run s back next new after fits l p = sends-kept by_reply run s back next new after fits l p
    if-kept false by_reply run s back next new after fits l p = same-kept back after l.1 p

    over-kept : (refusal : Option Fault) (room by_reply : Bool) (s : Saving) (back : Pending) (next : _) (new : Saving) (after : Pending)
        → saves.GoesOver refusal wsize to room by_reply s back next new after → P back → P after
    over-kept (Some fault) room by_reply s back next new after g p = same-kept back after g.1 p
    over-kept None room by_reply s back next new after g p =
        if-kept (saves.may_send room s) by_reply (chosen s.upto wsize (of_file s.file back)) s back next new after
        (chosen-short (of_file s.file back).pieces s.upto wsize (of_file s.file back).segments) g p

    pub goes-kept : (room by_reply : Bool) (s : Saving) (back : Pending) (next : _) (new : Saving) (after : Pending)
        → saves.Goes wsize to room by_reply s back next new after → P back → P after
    goes-kept room by_reply s back next new after g p = over-kept s.refusal room by_reply s back next new after g p

    -- ---- the reply to a WRITE

    -- what landed where all of it is to be sent again
    returns-kept : (file : List ℕ) (old new : Pending) → OnFile old new file (at_xid (landed by_change.Return) asked (of_file file old)) → P old → P new
    returns-kept file old new on p = k.lands file by_change.Return old new on p

    wrote-kept : (how size : ℕ) (wcc : Wcc) (count committed : ℕ) (verf : Verf) (file : List ℕ) (old new : Pending) (refusal : Option Fault)
        → saves.Lands asked file (write_told how size (Ok (replies.File (kept_replies.Write wcc count committed verf)))) old new refusal → P old → P new
    wrote-kept how size wcc count committed verf file old new None l p = by (nat_lt committed how || nat_lt 2 committed) refl
      where
        done : (b : Bool) → (nat_lt committed how || nat_lt 2 committed) ≡ false → ((count == 0) || nat_lt size count) ≡ b → P new
        done true f e = let on : (None ≡ Some (faults.Bad 4)) × OnFile old new file (at_xid (landed by_change.Return) asked (of_file file old)) = (rw (f, e) at l) in returns-kept file old new on.1 p
        done false f e =
            let on : OnFile old new file (at_xid (landed_part (acked_by committed verf) count) asked (of_file file old)) = (rw (f, e) at l) in
            k.part_lands file (acked_by committed verf) count old new on p

        by : (b : Bool) → (nat_lt committed how || nat_lt 2 committed) ≡ b → P new
        by true e = let on : (None ≡ Some (faults.Bad 3)) × OnFile old new file (at_xid (landed by_change.Return) asked (of_file file old)) = (rw e at l) in returns-kept file old new on.1 p
        by false e = done ((count == 0) || nat_lt size count) e refl
    wrote-kept how size wcc count committed verf file old new (Some fault) l p = by (nat_lt committed how || nat_lt 2 committed) refl
      where
        done : (b : Bool) → (nat_lt committed how || nat_lt 2 committed) ≡ false → ((count == 0) || nat_lt size count) ≡ b → P new
        done true f e =
            let on : (Some fault ≡ Some (faults.Bad 4)) × OnFile old new file (at_xid (landed by_change.Return) asked (of_file file old)) = (rw (f, e) at l) in returns-kept file old new on.1 p
        done false f e = let on : (fault ≡ faults.Memory) × OnFile old new file (at_xid (landed by_change.Return) asked (of_file file old)) = (rw (f, e) at l) in returns-kept file old new on.1 p

        by : (b : Bool) → (nat_lt committed how || nat_lt 2 committed) ≡ b → P new
        by true e =
            let on : (Some fault ≡ Some (faults.Bad 3)) × OnFile old new file (at_xid (landed by_change.Return) asked (of_file file old)) = (rw e at l) in returns-kept file old new on.1 p
        by false e = done ((count == 0) || nat_lt size count) e refl

    pub lands-kept : (how size : ℕ) (came : Result Reply Fault) (file : List ℕ) (old new : Pending) (refusal : Option Fault)
        → saves.Lands asked file (write_told how size came) old new refusal → P old → P new
    lands-kept how size (Err fault) file old new refusal l p = returns-kept file old new l.1 p
    lands-kept how size (Ok (replies.Mount reply)) file old new refusal l p = returns-kept file old new l.1 p
    lands-kept how size (Ok (replies.Dir reply)) file old new refusal l p = returns-kept file old new l.1 p
    lands-kept how size (Ok (replies.File (kept_replies.Write wcc count committed verf))) file old new refusal l p = wrote-kept how size wcc count committed verf file old new refusal l p
    lands-kept how size (Ok (replies.File (kept_replies.WriteFail status wcc))) file old new refusal l p = k.lands file (by_change.Refuse status.0) old new l.1 p
    lands-kept how size (Ok (replies.File reply)) file old new refusal l p = returns-kept file old new l.1 p

    -- however a WRITE's reply lands
    pub write-kept : (room : Bool) (t : _) (s : Saving) (back : Pending) (next : _) (new : Saving) (after : Pending)
        → ((file : List ℕ) (old new : Pending) (refusal : Option Fault) → saves.Lands asked file t old new refusal → P old → P new)
        → saves.TakesWrite wsize asked to room t s back next new after → P back → P after
    write-kept room t s back next new after lands g p =
        goes-kept room g.counts (saves.refused_by g.refusal s) g.between next new after g.goes (lands s.file back g.between g.refusal g.lands p)

    -- ---- the reply to a COMMIT

    decides-kept : (verdict : Verdict) (room : Bool) (s : Saving) (back : Pending) (next : _) (new : Saving) (after : Pending)
        → saves.Decides verdict wsize to room s back next new after → P back → P after
    decides-kept AllStable room s back next new after d p = same-kept back after d.1 p
    decides-kept (SendAgain count) room s back next new after d p = goes-kept room false (record s { phase = Resending }) back next new after d p

    pub commit-kept : (t : Result Verf Fault) (room : Bool) (s : Saving) (back : Pending) (next : _) (new : Saving) (after : Pending)
        → saves.TakesCommit wsize to room t s back next new after → P back → P after
    commit-kept (Err fault) room s back next new after g p = same-kept back after g.1 p
    commit-kept (Ok verf) room s back next new after g p =
        decides-kept (verdict_of (lost verf s.upto (of_file s.file back).segments)) room s g.between next new after g.goes
        (k.decides s.file s.upto verf back g.between g.decides p)

  -- ---- what came of a call, in each phase

  module _ (wsize : ℕ) (sent turn : Turn) (k : IsKept wsize sent.xid turn.xid P) where
    repeats-kept : (again : Bool) (t : _) (s : Saving) (back : Pending) (next : _) (new : Saving) (after : Pending)
        → ((file : List ℕ) (old new : Pending) (refusal : Option Fault) → saves.Lands sent.xid file t old new refusal → P old → P new)
        → saves.RepeatsWrite again wsize sent turn t s back next new after → P back → P after
    repeats-kept true t s back next new after lands r p = k.renames s.file back after r.1 p
    repeats-kept false t s back next new after lands r p = write-kept wsize sent.xid turn.xid k turn.room t (saves.less_waiting s) back next new after lands r p

    told-kept : (busy : Bool) (t : _) (repeats : List Repeat) (s : Saving) (back : Pending) (next : _) (new : Saving) (after : Pending)
        (later : List Repeat) → ((file : List ℕ) (old new : Pending) (refusal : Option Fault) → saves.Lands sent.xid file t old new refusal → P old → P new)
        → saves.TakesToldIf busy wsize sent turn t repeats s back next new after later → P back → P after
    told-kept true t repeats s back next new after later lands (inl g) p =
        repeats-kept (goes_again true sent turn repeats) t s back next new after lands g.0 p
    told-kept true t repeats s back next new after later lands (inr g) p =
        write-kept wsize sent.xid turn.xid k turn.room _ (saves.less_waiting s) back next new after
        (λ file old new refusal l q. returns-kept wsize sent.xid turn.xid k file old new l.1 q) g.0 p
    told-kept false t repeats s back next new after later lands g p =
        write-kept wsize sent.xid turn.xid k turn.room t (saves.less_waiting s) back next new after lands g.0 p

    first-kept : (again : Bool) (t : Result Verf Fault) (s : Saving) (back : Pending) (next : _) (new : Saving) (after : Pending)
        → saves.TakesFirst again wsize turn t s back next new after → P back → P after
    first-kept true t s back next new after g p = same-kept back after g.1 p
    first-kept false t s back next new after g p = commit-kept wsize sent.xid turn.xid k t turn.room (saves.less_waiting s) back next new after g p

    in-kept : (phase : Phase) (came : Result Reply Fault) (repeats : List Repeat) (s : Saving) (back : Pending) (next : _) (new : Saving)
        (after : Pending) (later : List Repeat) → saves.TakesIn phase wsize sent turn came repeats s back next new after later → P back → P after
    in-kept Sending came repeats s back next new after later g p = told-kept _ _ repeats s back next new after later
        (lands-kept wsize sent.xid turn.xid k (saves.answered sent.xid s.file back).how (length (saves.answered sent.xid s.file back).bytes) came) g p
    in-kept Resending came repeats s back next new after later g p = told-kept _ _ repeats s back next new after later
        (lands-kept wsize sent.xid turn.xid k (saves.answered sent.xid s.file back).how (length (saves.answered sent.xid s.file back).bytes) came) g p
    in-kept Committing came repeats s back next new after later g p =
        first-kept (saves.commit_again (commit_told came) sent turn repeats s) (commit_told came) s back next new after g.0 p
    in-kept CommittingAgain came repeats s back next new after later g p = same-kept back after g.1 p

    pub takes-kept : (came : Result Reply Fault) (repeats : List Repeat) (s : Saving) (back : Pending) (next : _) (new : Saving) (after : Pending)
        (later : List Repeat) → saves.Takes wsize sent turn came repeats s back next new after later → P back → P after
    takes-kept came repeats s back next new after later g p = in-kept s.phase came repeats s back next new after later g p
