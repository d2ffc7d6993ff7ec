-- A save stays that of its file, with all numbers up to one.
use Rattle.core_session.proofs.Prelude.{◌≡◌, ℕ, ◌+◌, Bool, true, false, List, [], ◌∷◌, Option, Some, None, Result, Ok, Err, inl, inr, refl, sym, subst, if◌then◌else◌, nat_lt, Verdict, AllStable, SendAgain, Verf, Pending, of_file, chosen, Segments, Fault, Memory, Reply, Repeat, Turn, goes_again, Sending, Committing, Resending, CommittingAgain, Saving, commit_told}
use Rattle.std.specs.Prelude.{◌&&◌}
use Rattle.file_ops.specs.declared.saving.Phase.{Phase}
use Rattle.file_ops.specs.Saves as saves

pub record IsSave (file : List ℕ) (upto : ℕ) (s : Saving) : Type 0 where
  pub file_is : s.file ≡ file
  pub upto_is : s.upto ≡ upto

pub save-begun : (file : List ℕ) (upto : ℕ) → IsSave file upto (saves.begun file upto)
save-begun file upto = record { file_is = refl; upto_is = refl }

module _ (file : List ℕ) (upto : ℕ) where
  Is : Saving → Type 0
  Is s = IsSave file upto s

  lead-save : (aim : _) (saved : Saving) (next : _) (new : Saving) → saves.Leads aim saved next new → IsSave file upto saved → IsSave file upto new
  lead-save aim saved next new l s = subst (IsSave file upto) (sym l.keeps) s

  sent-if : (a b : Bool) (s : Saving) → IsSave file upto s → IsSave file upto (if a then s else if b then s else record s { phase = saves.commit_phase s.phase; waiting = 1 })
  sent-if true b s is = is
  sent-if false true s is = is
  sent-if false false s is = record { file_is = is.file_is; upto_is = is.upto_is }

  module _ (wsize xid : ℕ) (room by_reply : Bool) where
    sends-save : (run : Segments) (s : Saving) (back : Pending) (next : _) (new : Saving) (after : Pending) → IsSave file upto s
        → saves.Sends xid by_reply run s back next new after → IsSave file upto new
    sends-save run s back next new after is (inr l) = lead-save (saves.refused_next s.waiting Memory) s next new l.0 is
    sends-save [] s back next new after is (inl l) =
        lead-save (saves.next_sent by_reply s) (saves.saving_sent by_reply s) next new l.0 (sent-if (nat_lt 0 s.waiting) (saves.is_again s.phase && by_reply) s is)
    sends-save (e ∷ es) s back next new after is (inl l) =
        lead-save _ (record s { waiting = s.waiting + 1 }) next new l.0 (record { file_is = is.file_is; upto_is = is.upto_is })

    if-save : (b : Bool) (run : Segments) (s : Saving) (back : Pending) (next : _) (new : Saving) (after : Pending) → IsSave file upto s
        → saves.SendsIf b xid by_reply run s back next new after → IsSave file upto new
    if-save false run s back next new after is l = lead-save _ s next new l.0 is
    if-save true run s back next new after is l = sends-save run s back next new after is l

    over-save : (refusal : Option Fault) (s : Saving) (back : Pending) (next : _) (new : Saving) (after : Pending) → IsSave file upto s
        → saves.GoesOver refusal wsize xid room by_reply s back next new after → IsSave file upto new
    over-save (Some fault) s back next new after is g = lead-save (saves.refused_next s.waiting fault) s next new g.0 is
    over-save None s back next new after is g = if-save (saves.may_send room s) (chosen s.upto wsize (of_file s.file back)) s back next new after is g

    pub goes-save : (s : Saving) (back : Pending) (next : _) (new : Saving) (after : Pending) → IsSave file upto s → saves.Goes wsize xid room by_reply s back next new after
        → IsSave file upto new
    goes-save s back next new after is g = over-save s.refusal s back next new after is g

  more-save : (s : Saving) → IsSave file upto s → IsSave file upto (saves.put_off_more s)
  more-save s is = record { file_is = is.file_is; upto_is = is.upto_is }

  less-save : (s : Saving) → IsSave file upto s → IsSave file upto (saves.less_waiting s)
  less-save s is = record { file_is = is.file_is; upto_is = is.upto_is }

  refused-save : (refusal : Option Fault) (s : Saving) → IsSave file upto s → IsSave file upto (saves.refused_by refusal s)
  refused-save None s is = is
  refused-save (Some fault) s is = record { file_is = is.file_is; upto_is = is.upto_is }

  write-save : (wsize asked xid : ℕ) (room : Bool) (told : _) (s : Saving) (back : Pending) (next : _) (new : Saving) (after : Pending) → IsSave file upto s
      → saves.TakesWrite wsize asked xid room told s back next new after → IsSave file upto new
  write-save wsize asked xid room told s back next new after is t =
      goes-save wsize xid room t.counts (saves.refused_by t.refusal s) t.between next new after (refused-save t.refusal s is) t.goes

  repeats-save : (again : Bool) (wsize : ℕ) (sent turn : Turn) (told : _) (s : Saving) (back : Pending) (next : _) (new : Saving) (after : Pending) → IsSave file upto s
      → saves.RepeatsWrite again wsize sent turn told s back next new after → IsSave file upto new
  repeats-save true wsize sent turn told s back next new after is r = lead-save _ s next new r.0 is
  repeats-save false wsize sent turn told s back next new after is r =
      write-save wsize sent.xid turn.xid turn.room told (saves.less_waiting s) back next new after (less-save s is) r

  told-save : (busy : Bool) (wsize : ℕ) (sent turn : Turn) (told : _) (repeats : List Repeat) (s : Saving) (back : Pending) (next : _) (new : Saving) (after : Pending)
      (later : List Repeat) → IsSave file upto s → saves.TakesToldIf busy wsize sent turn told repeats s back next new after later → IsSave file upto new
  told-save true wsize sent turn told repeats s back next new after later is (inl t) =
      repeats-save (goes_again true sent turn repeats) wsize sent turn told s back next new after is t.0
  told-save true wsize sent turn told repeats s back next new after later is (inr t) =
      write-save wsize sent.xid turn.xid turn.room _ (saves.less_waiting s) back next new after (less-save s is) t.0
  told-save false wsize sent turn told repeats s back next new after later is t =
      write-save wsize sent.xid turn.xid turn.room told (saves.less_waiting s) back next new after (less-save s is) t.0

  decides-save : (verdict : Verdict) (wsize xid : ℕ) (room : Bool) (s : Saving) (back : Pending) (next : _) (new : Saving) (after : Pending) → IsSave file upto s
      → saves.Decides verdict wsize xid room s back next new after → IsSave file upto new
  decides-save AllStable wsize xid room s back next new after is d = lead-save _ s next new d.0 is
  decides-save (SendAgain count) wsize xid room s back next new after is d =
      goes-save wsize xid room false (record s { phase = Resending }) back next new after (record { file_is = is.file_is; upto_is = is.upto_is }) d

  commit-save : (told : Result Verf Fault) (wsize xid : ℕ) (room : Bool) (s : Saving) (back : Pending) (next : _) (new : Saving) (after : Pending) → IsSave file upto s
      → saves.TakesCommit wsize xid room told s back next new after → IsSave file upto new
  commit-save (Ok verf) wsize xid room s back next new after is t = decides-save _ wsize xid room s t.between next new after is t.goes
  commit-save (Err fault) wsize xid room s back next new after is t = lead-save _ s next new t.0 is

  first-save : (again : Bool) (told : Result Verf Fault) (wsize : ℕ) (turn : Turn) (s : Saving) (back : Pending) (next : _) (new : Saving) (after : Pending) → IsSave file upto s
      → saves.TakesFirst again wsize turn told s back next new after → IsSave file upto new
  first-save true told wsize turn s back next new after is t = lead-save _ (saves.put_off_more s) next new t.0 (more-save s is)
  first-save false told wsize turn s back next new after is t = commit-save told wsize turn.xid turn.room (saves.less_waiting s) back next new after (less-save s is) t

  last-save : (again : Bool) (s : Saving) → IsSave file upto s → IsSave file upto (saves.last_saving again s)
  last-save true s is = more-save s is
  last-save false s is = less-save s is

  module _ (wsize : ℕ) (sent turn : Turn) (came : Result Reply Fault) where
    in-save : (phase : Phase) (repeats : List Repeat) (s : Saving) (back : Pending) (next : _) (new : Saving) (after : Pending) (later : List Repeat) → IsSave file upto s
        → saves.TakesIn phase wsize sent turn came repeats s back next new after later → IsSave file upto new
    in-save Sending repeats s back next new after later is t = told-save _ wsize sent turn _ repeats s back next new after later is t
    in-save Resending repeats s back next new after later is t = told-save _ wsize sent turn _ repeats s back next new after later is t
    in-save Committing repeats s back next new after later is t =
        first-save (saves.commit_again (commit_told came) sent turn repeats s) (commit_told came) wsize turn s back next new after is t.0
    in-save CommittingAgain repeats s back next new after later is t =
        let again = saves.commit_again (commit_told came) sent turn repeats s in
        lead-save (saves.last_next again (commit_told came) s) (saves.last_saving again s) next new t.0 (last-save again s is)

    pub takes-save : (repeats : List Repeat) (s : Saving) (back : Pending) (next : _) (new : Saving) (after : Pending) (later : List Repeat) → IsSave file upto s
        → saves.Takes wsize sent turn came repeats s back next new after later → IsSave file upto new
    takes-save repeats s back next new after later is t = in-save s.phase repeats s back next new after later is t
