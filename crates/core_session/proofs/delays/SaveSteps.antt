-- Which faults a step of a save gives: out of memory, those that it keeps, and those of what came of its call where that isn't made again. Where it sends no
-- bytes it wasn't refused.
use Rattle.core_session.proofs.Prelude.{◌≡◌, ◌+◌, ◌==◌, ◌&&◌, ℕ, Bool, true, false, List, [], ◌∷◌, Option, Some, None, Result, Ok, Err, inl, inr, refl, sym, ap, subst, ◌∙◌, nat_lt, Verdict, AllStable, SendAgain, Verf, Fault, Memory, Reply, Step, Repeat, Turn, fails_busy, goes_again, chosen, Pending, of_file, Segments, Sending, Committing, Resending, CommittingAgain, Saving, commit_told, FineResult, FineOption, FineNext, CallFaults}
use Rattle.std.specs.Prelude.{is_none}
use Rattle.core_facts.proofs.Faults.{fine-some}
use Rattle.core_session.proofs.delays.Times.{Times, AgainSave}
use Rattle.file_ops.specs.declared.saving.Phase.{Phase}
use Rattle.file_ops.specs.Saves as saves
use Rattle.file_ops.specs.Syncs as syncs

clash : (R : Type 0) (b : Bool) → b ≡ true → b ≡ false → R
clash R b is not = absurd (let wrong : true ≡ false = sym is ∙ not in cc)

none-busy : (busy : Bool) → (busy && true) ≡ false → busy ≡ false
none-busy true is = absurd (cc)
none-busy false is = refl

both-busy : (busy free : Bool) → (busy && free) ≡ true → busy ≡ true
both-busy true free is = refl
both-busy false free is = absurd (cc)

-- what a step of a save comes to
abbrev type-of : {T : Type 0} → T → Type 0
type-of {T} x = T

abbrev pub Gives : Type 0
Gives = type-of (saves.refused_next 0 Memory)

module _ (P : Fault → Type 0) (own : CallFaults P) (times : Times) where
  -- its refusal is so, it has none where it waits for a COMMIT, and this was put off as often as it counts
  abbrev pub FineSave : Saving → Type 0
  FineSave s = FineOption P s.refusal × (saves.is_sending s.phase ≡ false → s.refusal ≡ None) × times.commits s.file s.put_off

  pub sending-save : (s : Saving) → saves.is_sending s.phase ≡ true → FineOption P s.refusal → times.commits s.file s.put_off → FineSave s
  sending-save s sending f c = (f, λ idle. clash (s.refusal ≡ None) (saves.is_sending s.phase) sending idle, c)

  pub begun-save : (file : List ℕ) (upto : ℕ) → FineSave (saves.begun file upto)
  begun-save file upto = sending-save (saves.begun file upto) refl tt (times.no_commits file)

  -- the step is so, and so is the save
  abbrev pub SaveFine : Step → Saving → Type 0
  SaveFine next new = FineNext P next × FineSave new

  leads-fine : (to : Gives) (saved : Saving) (next : Gives) (new : Saving) → saves.Leads to saved next new → SaveFine (syncs.sync_next to) saved → SaveFine (syncs.sync_next next) new
  leads-fine to saved next new l f =
      subst (λ n. SaveFine (syncs.sync_next n) new) (sym l.gives_next) (subst (λ (s : Saving). SaveFine (syncs.sync_next to) s) (sym l.keeps) f)

  refused-fine : (s : Saving) (fault : Fault) → P fault → FineSave s → SaveFine (syncs.sync_next (saves.refused_next s.waiting fault)) s
  refused-fine s fault n f = by (s.waiting == 0) refl
    where
      by : (b : Bool) → (s.waiting == 0) ≡ b → SaveFine (syncs.sync_next (saves.refused_next s.waiting fault)) s
      by true e = (rw e n, f)
      by false e = (rw e tt, f)

  sent-fine : (by_reply : Bool) (s : Saving) → FineSave s → s.refusal ≡ None → SaveFine (syncs.sync_next (saves.next_sent by_reply s)) (saves.saving_sent by_reply s)
  sent-fine by_reply s f none = by (nat_lt 0 s.waiting) (saves.is_again s.phase && by_reply) refl refl
    where
      by : (lt done : Bool) → nat_lt 0 s.waiting ≡ lt → (saves.is_again s.phase && by_reply) ≡ done → SaveFine (syncs.sync_next (saves.next_sent by_reply s)) (saves.saving_sent by_reply s)
      by true done is ends = rw is (tt, f)
      by false true is ends = rw (is, ends) (tt, f)
      by false false is ends = rw (is, ends) (tt, (f.0, λ idle. none, f.2))

  sends-fine : (xid : ℕ) (by_reply : Bool) (run : Segments) (s : Saving) (back : Pending) (next : Gives) (new : Saving) (after : Pending) → FineSave s → s.refusal ≡ None
      → saves.Sends xid by_reply run s back next new after → SaveFine (syncs.sync_next next) new
  sends-fine xid by_reply run s back next new after f none (inr l) = leads-fine (saves.refused_next s.waiting Memory) s next new l.0 (refused-fine s Memory own.memory f)
  sends-fine xid by_reply [] s back next new after f none (inl l) = leads-fine (saves.next_sent by_reply s) (saves.saving_sent by_reply s) next new l.0 (sent-fine by_reply s f none)
  sends-fine xid by_reply (e ∷ es) s back next new after f none (inl l) = leads-fine _ (record s { waiting = s.waiting + 1 }) next new l.0 (tt, f)

  sends-if-fine : (b : Bool) (xid : ℕ) (by_reply : Bool) (run : Segments) (s : Saving) (back : Pending) (next : Gives) (new : Saving) (after : Pending) → FineSave s → s.refusal ≡ None
      → saves.SendsIf b xid by_reply run s back next new after → SaveFine (syncs.sync_next next) new
  sends-if-fine true xid by_reply run s back next new after f none l = sends-fine xid by_reply run s back next new after f none l
  sends-if-fine false xid by_reply run s back next new after f none l = leads-fine _ s next new l.0 (tt, f)

  goes-over-fine : (refusal : Option Fault) (wsize xid : ℕ) (room by_reply : Bool) (s : Saving) (back : Pending) (next : Gives) (new : Saving) (after : Pending) → s.refusal ≡ refusal → FineSave s
      → saves.GoesOver refusal wsize xid room by_reply s back next new after → SaveFine (syncs.sync_next next) new
  goes-over-fine (Some fault) wsize xid room by_reply s back next new after is f g =
      leads-fine (saves.refused_next s.waiting fault) s next new g.0 (refused-fine s fault (subst (FineOption P) is f.0) f)
  goes-over-fine None wsize xid room by_reply s back next new after is f g =
      sends-if-fine (saves.may_send room s) xid by_reply (chosen s.upto wsize (of_file s.file back)) s back next new after f is g

  pub goes-fine : (wsize xid : ℕ) (room by_reply : Bool) (s : Saving) (back : Pending) (next : Gives) (new : Saving) (after : Pending) → FineSave s
      → saves.Goes wsize xid room by_reply s back next new after → SaveFine (syncs.sync_next next) new
  goes-fine wsize xid room by_reply s back next new after f g = goes-over-fine s.refusal wsize xid room by_reply s back next new after refl f g

  -- ---- what came of a call

  first-fine : (o : Option Fault) (fault : Fault) → FineOption P o → P fault → P (saves.first_of o fault)
  first-fine None fault f n = n
  first-fine (Some first) fault f n = f

  refused-by-fine : (refusal : Option Fault) (s : Saving) → FineOption P refusal → FineOption P s.refusal → FineOption P (saves.refused_by refusal s).refusal
  refused-by-fine None s n f = f
  refused-by-fine (Some fault) s n f = first-fine s.refusal fault f n

  -- the first refusal stays
  first-stays : (o : Option Fault) (fault : Fault) → is_none o ≡ false → FineOption P o → P (saves.first_of o fault)
  first-stays None fault some f = absurd (cc)
  first-stays (Some first) fault some f = f

  refused-stays : (refusal : Option Fault) (s : Saving) → is_none s.refusal ≡ false → FineOption P s.refusal → FineOption P (saves.refused_by refusal s).refusal
  refused-stays None s some f = f
  refused-stays (Some fault) s some f = first-stays s.refusal fault some f

  same-sending : (refusal : Option Fault) (s : Saving) → saves.is_sending s.phase ≡ true → saves.is_sending (saves.refused_by refusal s).phase ≡ true
  same-sending None s is = is
  same-sending (Some fault) s is = is

  refused-counts : (refusal : Option Fault) (s : Saving) → times.commits s.file s.put_off → times.commits (saves.refused_by refusal s).file (saves.refused_by refusal s).put_off
  refused-counts None s c = c
  refused-counts (Some fault) s c = c

  takes-write-fine : (wsize asked xid : ℕ) (room : Bool) (told : _) (s : Saving) (back : Pending) (next : Gives) (new : Saving) (after : Pending) → saves.is_sending s.phase ≡ true
      → times.commits s.file s.put_off
      → ((between : Pending) (refusal : Option Fault) → saves.Lands asked s.file told back between refusal → FineOption P (saves.refused_by refusal s).refusal)
      → saves.TakesWrite wsize asked xid room told s back next new after → SaveFine (syncs.sync_next next) new
  takes-write-fine wsize asked xid room told s back next new after sending counts lands t =
      goes-fine wsize xid room t.counts (saves.refused_by t.refusal s) t.between next new after
      (sending-save (saves.refused_by t.refusal s) (same-sending t.refusal s sending) (lands t.between t.refusal t.lands) (refused-counts t.refusal s counts)) t.goes

  -- P holds of the fault that what came makes, where the call isn't made again: where the save sends, of that of a WRITE's piece, else of that of a COMMIT
  pub record FitsSave (sent turn : Turn) (came : Result Reply Fault) (repeats : List Repeat) (s : Saving) (back : Pending) : Type 0 where
    pub lands : saves.is_sending s.phase ≡ true → goes_again (saves.told_busy (saves.told_of sent.xid s.file back came)) sent turn repeats ≡ false → (between : Pending) (refusal : Option Fault)
        → saves.Lands sent.xid s.file (saves.told_of sent.xid s.file back came) back between refusal → FineOption P refusal
    pub commits : saves.is_sending s.phase ≡ false → goes_again (fails_busy (commit_told came) && nat_lt s.put_off 3) sent turn repeats ≡ false → FineResult P (commit_told came)

  module _ (wsize : ℕ) (sent turn : Turn) (came : Result Reply Fault) (repeats : List Repeat) (s : Saving) (back : Pending) (next : Gives) (new : Saving) (after : Pending) (later : List Repeat)
      (n : FitsSave sent turn came repeats s back) (f : FineSave s) (more : AgainSave times sent turn came repeats s) where
    -- what the piece comes to is a refusal
    lands-so : saves.is_sending s.phase ≡ true → goes_again (saves.told_busy (saves.told_of sent.xid s.file back came)) sent turn repeats ≡ false → (between : Pending) (refusal : Option Fault)
        → saves.Lands sent.xid s.file (saves.told_of sent.xid s.file back came) back between refusal → FineOption P (saves.refused_by refusal (saves.less_waiting s)).refusal
    lands-so sending ends between refusal l = refused-by-fine refusal (saves.less_waiting s) (n.lands sending ends between refusal l) f.0

    repeats-fine : (c : Bool) → goes_again (saves.told_busy (saves.told_of sent.xid s.file back came)) sent turn repeats ≡ c → saves.is_sending s.phase ≡ true → saves.RepeatsWrite c wsize sent turn (saves.told_of sent.xid s.file back came) s back next new after
        → SaveFine (syncs.sync_next next) new
    repeats-fine true ends sending r = leads-fine _ s next new r.0 (tt, f)
    repeats-fine false ends sending r = takes-write-fine wsize sent.xid turn.xid turn.room (saves.told_of sent.xid s.file back came) (saves.less_waiting s) back next new after sending f.2 (lands-so sending ends) r

    ends-by : (free : Bool) → is_none s.refusal ≡ free → (saves.told_busy (saves.told_of sent.xid s.file back came) && free) ≡ false → saves.is_sending s.phase ≡ true → (between : Pending) (refusal : Option Fault)
        → saves.Lands sent.xid s.file (saves.told_of sent.xid s.file back came) back between refusal → FineOption P (saves.refused_by refusal (saves.less_waiting s)).refusal
    ends-by false some is sending between refusal l = refused-stays refusal (saves.less_waiting s) some f.0
    ends-by true some is sending between refusal l =
        lands-so sending (ap (λ (b : Bool). goes_again b sent turn repeats) (none-busy (saves.told_busy (saves.told_of sent.xid s.file back came)) is)) between refusal l

    told-fine : (b : Bool) → saves.may_again (saves.told_busy (saves.told_of sent.xid s.file back came)) s ≡ b → saves.is_sending s.phase ≡ true → saves.TakesToldIf b wsize sent turn (saves.told_of sent.xid s.file back came) repeats s back next new after later
        → SaveFine (syncs.sync_next next) new
    told-fine true is sending (inl t) =
        repeats-fine (goes_again true sent turn repeats) (ap (λ (b : Bool). goes_again b sent turn repeats) (both-busy (saves.told_busy (saves.told_of sent.xid s.file back came)) (is_none s.refusal) is)) sending t.0
    told-fine true is sending (inr t) =
        takes-write-fine wsize sent.xid turn.xid turn.room _ (saves.less_waiting s) back next new after sending f.2
        (λ between refusal l. refused-by-fine refusal (saves.less_waiting s) (fine-some P Memory refusal l.0 own.memory) f.0) t.0
    told-fine false is sending t =
        takes-write-fine wsize sent.xid turn.xid turn.room (saves.told_of sent.xid s.file back came) (saves.less_waiting s) back next new after sending f.2 (ends-by (is_none s.refusal) refl is sending) t.0

    -- ---- a COMMIT

    decides-fine : (verdict : Verdict) (back_ : Pending) → FineSave (saves.less_waiting s) → saves.Decides verdict wsize turn.xid turn.room (saves.less_waiting s) back_ next new after
        → SaveFine (syncs.sync_next next) new
    decides-fine AllStable back_ g d = leads-fine _ (saves.less_waiting s) next new d.0 (tt, g)
    decides-fine (SendAgain count) back_ g d =
        goes-fine wsize turn.xid turn.room false (record (saves.less_waiting s) { phase = Resending }) back_ next new after
        (sending-save (record (saves.less_waiting s) { phase = Resending }) refl g.0 g.2) d

    commit-fine : (told : Result Verf Fault) → FineResult P told → saves.TakesCommit wsize turn.xid turn.room told (saves.less_waiting s) back next new after → SaveFine (syncs.sync_next next) new
    commit-fine (Ok verf) k t = decides-fine _ t.between f t.goes
    commit-fine (Err fault) k t = leads-fine _ (saves.less_waiting s) next new t.0 (k, f)

    -- it wasn't refused, so that the call is made again as it may be
    may-be : saves.is_sending s.phase ≡ false → saves.may_commit (commit_told came) s ≡ (fails_busy (commit_told came) && nat_lt s.put_off 3)
    may-be idle =
        ap (λ (o : Option Fault). (fails_busy (commit_told came) && is_none o) && nat_lt s.put_off 3) (f.1 idle)
        ∙ ap (λ (b : Bool). b && nat_lt s.put_off 3) (with-true (fails_busy (commit_told came)))
      where
        with-true : (b : Bool) → (b && true) ≡ b
        with-true true = refl
        with-true false = refl

    told-commit : saves.is_sending s.phase ≡ false → saves.commit_again (commit_told came) sent turn repeats s ≡ false → FineResult P (commit_told came)
    told-commit idle ends = n.commits idle (ap (λ (b : Bool). goes_again b sent turn repeats) (sym (may-be idle)) ∙ ends)

    first-commit : (c : Bool) → saves.commit_again (commit_told came) sent turn repeats s ≡ c → saves.is_sending s.phase ≡ false
        → saves.TakesFirst c wsize turn (commit_told came) s back next new after → SaveFine (syncs.sync_next next) new
    first-commit true ends idle t = leads-fine _ (saves.put_off_more s) next new t.0 (tt, (f.0, f.1, more idle ends))
    first-commit false ends idle t = commit-fine (commit_told came) (told-commit idle ends) t

    ended-fine : (told : Result Verf Fault) → FineResult P told → FineNext P (syncs.sync_next (saves.ended_by told))
    ended-fine (Ok verf) k = tt
    ended-fine (Err fault) k = k

    last-commit : (c : Bool) → saves.commit_again (commit_told came) sent turn repeats s ≡ c → saves.is_sending s.phase ≡ false
        → SaveFine (syncs.sync_next (saves.last_next c (commit_told came) s)) (saves.last_saving c s)
    last-commit true ends idle = (tt, (f.0, f.1, more idle ends))
    last-commit false ends idle = (ended-fine (commit_told came) (told-commit idle ends), f)

    takes-in-fine : (phase : Phase) → s.phase ≡ phase → saves.TakesIn phase wsize sent turn came repeats s back next new after later → SaveFine (syncs.sync_next next) new
    takes-in-fine Sending is t = told-fine (saves.may_again (saves.told_busy (saves.told_of sent.xid s.file back came)) s) refl (ap saves.is_sending is) t
    takes-in-fine Resending is t = told-fine (saves.may_again (saves.told_busy (saves.told_of sent.xid s.file back came)) s) refl (ap saves.is_sending is) t
    takes-in-fine Committing is t = first-commit (saves.commit_again (commit_told came) sent turn repeats s) refl (ap saves.is_sending is) t.0
    takes-in-fine CommittingAgain is t =
        let more = saves.commit_again (commit_told came) sent turn repeats s in
        leads-fine (saves.last_next more (commit_told came) s) (saves.last_saving more s) next new t.0 (last-commit more refl (ap saves.is_sending is))

    pub takes-fine : saves.Takes wsize sent turn came repeats s back next new after later → SaveFine (syncs.sync_next next) new
    takes-fine t = takes-in-fine s.phase refl t
