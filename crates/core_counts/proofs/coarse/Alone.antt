-- As a WRITE of a file is made, no COMMIT of it waits; and as a COMMIT is made, nothing of the file is in flight.
use Rattle.core_counts.proofs.Prelude.{◌≡◌, ◌⊎◌, inl, inr, ◌≤◌, ◌<◌, ℕ, zero, suc, List, [], ◌∷◌, Option, Some, None, refl, sym, ap, ◌∙◌, arith, cases_lt, FileCall, Waiting, next_xid, waiting_at, Entry, Call, Pending, HasNoPiece, of_file, piece_under, fly_in, IsUnused, Mounted, machine_of, Purpose, Setup, View, written_file, call_of, Shows, ShownCall, ShownCalls}
use Rattle.write_back.specs.Pieces.{Sent}
use Rattle.core_answers.specs.writes.Alone.{committed_file, IsWaiting, IsQuiet}
use Rattle.model_writes.specs.Mirrors.{file_call_of, sized_call}
use Rattle.step_pending.specs.Cells.{flight_of}
use Rattle.std.specs.Option.{option_map}
use Rattle.nfs_file_calls.specs.declared.call.FileCall.TheVariants as file_calls
use Rattle.world_model.specs.declared.message.Call.TheVariants as calls
use Rattle.core_answers.proofs.writes.CommitsAlone.{commits-alone}
use Rattle.core_answers.proofs.writes.Under.{under-head}
use Rattle.model_writes.specs.Machine as coarse
use Rattle.model_writes.specs.Story as story
use Rattle.core_counts.proofs.coarse.Onward.{Ahead}

-- ---- which call is a COMMIT of a whole file

commits-sized : (g f : List ℕ) (size : Option ℕ) → sized_call g size ≡ story.commit f → ⊥
commits-sized g f None is = cc
commits-sized g f (Some size) is = cc

commits-part : (g f : List ℕ) (offset count : ℕ) → file_call_of (file_calls.Commit g offset count) ≡ story.commit f → g ≡ f
commits-part g f zero zero is = cc
commits-part g f zero (suc count) is = absurd cc
commits-part g f (suc offset) count is = absurd cc

file-commits : (call : FileCall) (f : List ℕ) → file_call_of call ≡ story.commit f → committed_file (calls.File call) ≡ Some f
file-commits (file_calls.Write g offset how bytes) f is = absurd cc
file-commits (file_calls.Commit g offset count) f is = ap Some (commits-part g f offset count is)
file-commits (file_calls.SetAttr g set guard) f is = absurd (commits-sized g f set.size is)
file-commits call f is = absurd cc

pub commits-file : (call : Call) (f : List ℕ) → call_of call ≡ story.commit f → committed_file call ≡ Some f
commits-file (calls.File call) f is = file-commits call f is
commits-file (calls.Dir call) f is = absurd cc
commits-file (calls.Mount call) f is = absurd cc

-- ---- where the session goes on to a view with which a history goes

module _ (m : Mounted) (setup : Setup) (h : List Entry) (v : View) (a : Ahead (machine_of m) setup h v) where
  pub waits-then : (x : ℕ) (call : Call) → IsWaiting setup v x call → IsWaiting setup a.fin x call
  waits-then x call w = record { waiting = w.waiting; waits = a.on.calls x w.waiting w.waits; spells = w.spells }

  -- beside a WRITE that waits none waits that is a COMMIT of its file
  pub no-commit : (x : ℕ) (call : Call) (f : List ℕ) → IsWaiting setup a.fin x call → written_file call ≡ Some f → (c : coarse.View) → ShownCalls setup v.calls c → (z : ℕ)
      → c.wait z ≡ Some (story.commit f) → ⊥
  no-commit x call f w is c shown z waits = by (waiting_at z v.calls.calls) refl (shown.calls z)
    where
      by : (o : Option (Waiting Purpose)) → waiting_at z v.calls.calls ≡ o → ShownCall setup z o (c.wait z) → ⊥
      by None there none = let no_way : None ≡ Some (story.commit f) = sym none ∙ waits in cc
      by (Some u) there s =
          let same : call_of s.0 ≡ story.commit f = (let k : Some (call_of s.0) ≡ Some (story.commit f) = sym s.2 ∙ waits in cc) in
          let quiet : IsQuiet setup a.fin f =
          commits-alone m setup h a.fin a.reach a.found z s.0 f (waits-then z s.0 (record { waiting = u; waits = there; spells = s.1 })) (commits-file s.0 f same) in
          quiet.no_write x call w is

  -- while a COMMIT waits nothing of its file is in flight
  pub nothing-flies : (x : ℕ) (call : Call) (f : List ℕ) → IsWaiting setup a.fin x call → committed_file call ≡ Some f → ((y : ℕ) → (y ≡ 0) ⊎ (next_xid v.calls ≤ y) → IsUnused y v.shelf.back)
      → HasNoPiece f v.shelf.back
  nothing-flies x call f w is unused = by (of_file f v.shelf.back).pieces refl
    where
      quiet : IsQuiet setup a.fin f
      quiet = commits-alone m setup h a.fin a.reach a.found x call f w is

      gone : (p : Sent) → piece_under p.xid (of_file f v.shelf.back).pieces ≡ Some p → (p.xid ≡ 0) ⊎ (next_xid v.calls ≤ p.xid) → ⊥
      gone p there out = let no_way : None ≡ Some p = sym (unused p.xid out f) ∙ there in cc

      flies : (p : Sent) → piece_under p.xid (of_file f v.shelf.back).pieces ≡ Some p → 1 ≤ p.xid → p.xid < next_xid v.calls → ⊥
      flies p there low high =
          let no_way : None ≡ Some p = sym (ap (λ (ps : List Sent). piece_under p.xid ps) quiet.none) ∙ a.on.under p.xid low high f ∙ there in cc

      none : (p : Sent) → piece_under p.xid (of_file f v.shelf.back).pieces ≡ Some p → ⊥
      none p there = elim (cases_lt p.xid 1) [
        | inl low ↦ gone p there (inl (omega (arith, low)))
        | inr some ↦ elim (cases_lt p.xid (next_xid v.calls)) [ inl high ↦ flies p there some high | inr late ↦ gone p there (inr late) ]
      ]

      by : (ps : List Sent) → (of_file f v.shelf.back).pieces ≡ ps → ps ≡ []
      by [] e = refl
      by (p ∷ ps) e = absurd (none p (ap (λ (qs : List Sent). piece_under p.xid qs) e ∙ under-head p.xid p ps refl))

-- so no byte of it flies
pub grounded : (f : List ℕ) (back : Pending) (c : coarse.View) → HasNoPiece f back → Shows back c → (i : story.Spot) → i.file ≡ f → c.fly i ≡ None
grounded f back c none shows i same =
    shows.fly i ∙ ap (λ (g : List ℕ). option_map flight_of (fly_in (of_file g back).pieces i.at)) same ∙ ap (λ (ps : List Sent). option_map flight_of (fly_in ps i.at)) none
