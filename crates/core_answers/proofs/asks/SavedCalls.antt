-- Which calls a save makes: WRITEs and COMMITs of its file, which stays the same.
use Rattle.core_answers.proofs.Prelude.{◌≡◌, ◌⊎◌, inl, inr, ◌+◌, ◌&&◌, ℕ, Bool, true, false, List, [], ◌∷◌, Option, Some, None, Result, Ok, Err, refl, sym, ap, subst, nat_lt, Verdict, AllStable, SendAgain, Verf, Fault, Memory, Call, Reply, Step, Repeat, Turn, goes_again, chosen, piece_of, Pending, of_file, Sent, Segments, Sending, Committing, Resending, CommittingAgain, Saving, commit_told}
use Rattle.std.specs.Prelude.{◌==◌}
use Rattle.file_ops.specs.declared.saving.Phase.{Phase}
use Rattle.file_ops.specs.Saves as saves
use Rattle.file_ops.specs.Syncs as syncs
use Rattle.core_facts.proofs.NamesAwaited.{Sends}

-- a WRITE of the file, or a COMMIT of all of it
abbrev pub Saves : List ℕ → Call → Type 0
Saves f call = ((piece : Sent) × (call ≡ saves.write_of f piece)) ⊎ (call ≡ saves.commit_of f)

-- A step of a save as one of a sync: it asks for such a call alone, and its file stays.
pub record SavesOn (f : List ℕ) (next : Step) (new : Saving) : Type 0 where
  pub file : new.file ≡ f
  pub asks : Sends next (Saves f)

module _ (f : List ℕ) where
  leads-on : (to : _) (saved : Saving) (next : _) (new : Saving) → saves.Leads to saved next new → SavesOn f (syncs.sync_next to) saved → SavesOn f (syncs.sync_next next) new
  leads-on to saved next new l c = subst (λ n. SavesOn f (syncs.sync_next n) new) (sym l.gives_next) (subst (λ (t : Saving). SavesOn f (syncs.sync_next to) t) (sym l.keeps) c)

  refused-on : (s : Saving) (fault : Fault) → s.file ≡ f → SavesOn f (syncs.sync_next (saves.refused_next s.waiting fault)) s
  refused-on s fault file = by (s.waiting == 0) refl
    where
      by : (b : Bool) → (s.waiting == 0) ≡ b → SavesOn f (syncs.sync_next (saves.refused_next s.waiting fault)) s
      by true e = record { file = file; asks = (rw e tt) }
      by false e = record { file = file; asks = (rw e tt) }

  sent-on : (by_reply : Bool) (s : Saving) → s.file ≡ f → SavesOn f (syncs.sync_next (saves.next_sent by_reply s)) (saves.saving_sent by_reply s)
  sent-on by_reply s file = by (nat_lt 0 s.waiting) (saves.is_again s.phase && by_reply) refl refl
    where
      by : (lt done : Bool) → nat_lt 0 s.waiting ≡ lt → (saves.is_again s.phase && by_reply) ≡ done → SavesOn f (syncs.sync_next (saves.next_sent by_reply s)) (saves.saving_sent by_reply s)
      by true done is ends = rw is (record { file = file; asks = tt })
      by false true is ends = rw (is, ends) (record { file = file; asks = tt })
      by false false is ends = rw (is, ends) (record { file = file; asks = inr (ap saves.commit_of file) })

  sends-on : (xid : ℕ) (by_reply : Bool) (run : Segments) (s : Saving) (back : Pending) (next : _) (new : Saving) (after : Pending) → s.file ≡ f
      → saves.Sends xid by_reply run s back next new after → SavesOn f (syncs.sync_next next) new
  sends-on xid by_reply run s back next new after file (inr l) = leads-on (saves.refused_next s.waiting Memory) s next new l.0 (refused-on s Memory file)
  sends-on xid by_reply [] s back next new after file (inl l) = leads-on (saves.next_sent by_reply s) (saves.saving_sent by_reply s) next new l.0 (sent-on by_reply s file)
  sends-on xid by_reply (e ∷ es) s back next new after file (inl l) =
      leads-on _ (record s { waiting = s.waiting + 1 }) next new l.0 (record { file = file; asks = inl (piece_of xid e (e ∷ es), ap (λ (g : List ℕ). saves.write_of g (piece_of xid e (e ∷ es))) file) })

  sends-if-on : (xid : ℕ) (by_reply b : Bool) (run : Segments) (s : Saving) (back : Pending) (next : _) (new : Saving) (after : Pending) → s.file ≡ f
      → saves.SendsIf b xid by_reply run s back next new after → SavesOn f (syncs.sync_next next) new
  sends-if-on xid by_reply false run s back next new after file l = leads-on _ s next new l.0 (record { file = file; asks = tt })
  sends-if-on xid by_reply true run s back next new after file l = sends-on xid by_reply run s back next new after file l

  goes-over-on : (refusal : Option Fault) (wsize xid : ℕ) (room by_reply : Bool) (s : Saving) (back : Pending) (next : _) (new : Saving) (after : Pending) → s.file ≡ f
      → saves.GoesOver refusal wsize xid room by_reply s back next new after → SavesOn f (syncs.sync_next next) new
  goes-over-on (Some fault) wsize xid room by_reply s back next new after file g = leads-on (saves.refused_next s.waiting fault) s next new g.0 (refused-on s fault file)
  goes-over-on None wsize xid room by_reply s back next new after file g =
      sends-if-on xid by_reply (saves.may_send room s) (chosen s.upto wsize (of_file s.file back)) s back next new after file g

  pub goes-on : (wsize xid : ℕ) (room by_reply : Bool) (s : Saving) (back : Pending) (next : _) (new : Saving) (after : Pending) → s.file ≡ f
      → saves.Goes wsize xid room by_reply s back next new after → SavesOn f (syncs.sync_next next) new
  goes-on wsize xid room by_reply s back next new after file g = goes-over-on s.refusal wsize xid room by_reply s back next new after file g

  -- ---- what came of a call

  refused-file : (refusal : Option Fault) (s : Saving) → s.file ≡ f → (saves.refused_by refusal s).file ≡ f
  refused-file None s file = file
  refused-file (Some fault) s file = file

  write-on : (wsize asked xid : ℕ) (room : Bool) (told : _) (s : Saving) (back : Pending) (next : _) (new : Saving) (after : Pending) → s.file ≡ f
      → saves.TakesWrite wsize asked xid room told s back next new after → SavesOn f (syncs.sync_next next) new
  write-on wsize asked xid room told s back next new after file t =
      goes-on wsize xid room t.counts (saves.refused_by t.refusal s) t.between next new after (refused-file t.refusal s file) t.goes

  repeats-on : (more : Bool) (wsize : ℕ) (sent turn : Turn) (told : _) (s : Saving) (back : Pending) (next : _) (new : Saving) (after : Pending) → s.file ≡ f
      → saves.RepeatsWrite more wsize sent turn told s back next new after → SavesOn f (syncs.sync_next next) new
  repeats-on true wsize sent turn told s back next new after file r =
      leads-on _ s next new r.0 (record { file = file; asks = inl (saves.answered sent.xid s.file back, ap (λ (g : List ℕ). saves.write_of g (saves.answered sent.xid s.file back)) file) })
  repeats-on false wsize sent turn told s back next new after file r = write-on wsize sent.xid turn.xid turn.room told (saves.less_waiting s) back next new after file r

  told-on : (busy : Bool) (wsize : ℕ) (sent turn : Turn) (told : _) (repeats : List Repeat) (s : Saving) (back : Pending) (next : _) (new : Saving) (after : Pending) (later : List Repeat)
      → s.file ≡ f → saves.TakesToldIf busy wsize sent turn told repeats s back next new after later → SavesOn f (syncs.sync_next next) new
  told-on true wsize sent turn told repeats s back next new after later file (inl t) = repeats-on (goes_again true sent turn repeats) wsize sent turn told s back next new after file t.0
  told-on true wsize sent turn told repeats s back next new after later file (inr t) = write-on wsize sent.xid turn.xid turn.room _ (saves.less_waiting s) back next new after file t.0
  told-on false wsize sent turn told repeats s back next new after later file t = write-on wsize sent.xid turn.xid turn.room told (saves.less_waiting s) back next new after file t.0

  decides-on : (verdict : Verdict) (wsize xid : ℕ) (room : Bool) (s : Saving) (back : Pending) (next : _) (new : Saving) (after : Pending) → s.file ≡ f
      → saves.Decides verdict wsize xid room s back next new after → SavesOn f (syncs.sync_next next) new
  decides-on AllStable wsize xid room s back next new after file d = leads-on _ s next new d.0 (record { file = file; asks = tt })
  decides-on (SendAgain count) wsize xid room s back next new after file d = goes-on wsize xid room false (record s { phase = Resending }) back next new after file d

  commit-on : (told : Result Verf Fault) (wsize xid : ℕ) (room : Bool) (s : Saving) (back : Pending) (next : _) (new : Saving) (after : Pending) → s.file ≡ f
      → saves.TakesCommit wsize xid room told s back next new after → SavesOn f (syncs.sync_next next) new
  commit-on (Ok verf) wsize xid room s back next new after file t = decides-on _ wsize xid room s t.between next new after file t.goes
  commit-on (Err fault) wsize xid room s back next new after file t = leads-on _ s next new t.0 (record { file = file; asks = tt })

  first-on : (more : Bool) (told : Result Verf Fault) (wsize : ℕ) (turn : Turn) (s : Saving) (back : Pending) (next : _) (new : Saving) (after : Pending) → s.file ≡ f
      → saves.TakesFirst more wsize turn told s back next new after → SavesOn f (syncs.sync_next next) new
  first-on true told wsize turn s back next new after file t = leads-on _ (saves.put_off_more s) next new t.0 (record { file = file; asks = inr (ap saves.commit_of file) })
  first-on false told wsize turn s back next new after file t = commit-on told wsize turn.xid turn.room (saves.less_waiting s) back next new after file t

  last-on : (more : Bool) (told : Result Verf Fault) (s : Saving) → s.file ≡ f → SavesOn f (syncs.sync_next (saves.last_next more told s)) (saves.last_saving more s)
  last-on true told s file = record { file = file; asks = inr (ap saves.commit_of file) }
  last-on false (Ok verf) s file = record { file = file; asks = tt }
  last-on false (Err fault) s file = record { file = file; asks = tt }

  takes-in-on : (phase : Phase) (wsize : ℕ) (sent turn : Turn) (came : Result Reply Fault) (repeats : List Repeat) (s : Saving) (back : Pending) (next : _) (new : Saving) (after : Pending)
      (later : List Repeat) → s.file ≡ f → saves.TakesIn phase wsize sent turn came repeats s back next new after later → SavesOn f (syncs.sync_next next) new
  takes-in-on Sending wsize sent turn came repeats s back next new after later file t = told-on _ wsize sent turn _ repeats s back next new after later file t
  takes-in-on Resending wsize sent turn came repeats s back next new after later file t = told-on _ wsize sent turn _ repeats s back next new after later file t
  takes-in-on Committing wsize sent turn came repeats s back next new after later file t =
      first-on (saves.commit_again (commit_told came) sent turn repeats s) (commit_told came) wsize turn s back next new after file t.0
  takes-in-on CommittingAgain wsize sent turn came repeats s back next new after later file t =
      let more = saves.commit_again (commit_told came) sent turn repeats s in
      leads-on (saves.last_next more (commit_told came) s) (saves.last_saving more s) next new t.0 (last-on more (commit_told came) s file)

  pub takes-on : (wsize : ℕ) (sent turn : Turn) (came : Result Reply Fault) (repeats : List Repeat) (s : Saving) (back : Pending) (next : _) (new : Saving) (after : Pending)
      (later : List Repeat) → s.file ≡ f → saves.Takes wsize sent turn came repeats s back next new after later → SavesOn f (syncs.sync_next next) new
  takes-on wsize sent turn came repeats s back next new after later file t = takes-in-on s.phase wsize sent turn came repeats s back next new after later file t
