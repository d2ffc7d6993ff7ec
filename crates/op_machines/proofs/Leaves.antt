-- Each step of any operation leaves what the next step needs.
use Rattle.std.proofs.Common.{◌≡◌, ◌+◌, ℕ, List, Result, Ok, Err, refl, sym, ap, subst, ◌∙◌}
use Rattle.world_model.specs.declared.answer.Fault.{Fault}
use Rattle.world_model.specs.declared.message.Reply.{Reply}
use Rattle.write_back.specs.Files.{Pending}
use Rattle.attr_cache.specs.Attrs.{Attrs}
use Rattle.client_shelf.specs.declared.shelf.Shelf.{Shelf}
use Rattle.client_shelf.specs.declared.turn.Turn.{Turn}
use Rattle.client_shelf.specs.declared.step.Step.{Step}
use Rattle.file_ops.specs.declared.truncate_file.TruncateFile.{TruncateFile}
use Rattle.file_ops.specs.declared.truncate_file.Truncating.{Truncating}
use Rattle.file_ops.specs.declared.truncate_file.Truncating.TheVariants.{Idle, Queued, Asked}
use Rattle.file_ops.specs.Ready.{IsReady}
use Rattle.file_ops.specs.TruncateFile as truncates
use Rattle.file_ops.proofs.Steps.{next-ready, same-ready, shelf-ready, sync-starts-ready, sync-resumes-ready, sync-takes-ready, close-starts-ready, close-resumes-ready, close-takes-ready, write-starts-ready, write-resumes-ready, write-takes-ready, truncate-takes-ready}
use Rattle.file_ops.proofs.PutSteps.{put-resumes-ready, put-takes-ready}
use Rattle.op_machines.specs.declared.file_machine.FileMachine.{FileMachine as Machine}
use Rattle.op_machines.specs.declared.file_machine.FileMachine.TheVariants as machines
use Rattle.op_machines.specs.FileSteps.{Starts, Resumes, Takes}

-- a shelf of which neither numbers nor pending bytes change
kept-ready : (xid : ℕ) (old to new : Shelf) → new ≡ to → to.seq ≡ old.seq → to.back ≡ old.back → IsReady xid old.seq old.back → IsReady (xid + 1) new.seq new.back
kept-ready xid old to new is seq back r =
    subst (λ (s : Shelf). IsReady (xid + 1) s.seq s.back) (sym is)
    (subst (λ (n : ℕ). IsReady (xid + 1) n to.back) (sym seq) (subst (λ (p : Pending). IsReady (xid + 1) old.seq p) (sym back) (next-ready xid old.seq old.back r)))

truncate-starts : (found : Result (List ℕ) Fault) (m : TruncateFile) (xid : ℕ) (old new : Shelf) → new ≡ truncates.begun_shelf found m old → IsReady xid old.seq old.back → IsReady (xid + 1) new.seq new.back
truncate-starts (Ok file) m xid old new is r = kept-ready xid old _ new is refl refl r
truncate-starts (Err fault) m xid old new is r = same-ready xid old new is r

truncate-seq : (at : Truncating) (m : TruncateFile) (came : Result Reply Fault) (sent turn : Turn) (attrs : Attrs) (back : Pending) (old : Shelf) → (truncates.took_shelf at m came sent turn attrs back old).seq ≡ old.seq
truncate-seq Idle m came sent turn attrs back old = refl
truncate-seq (Queued file upto) m came sent turn attrs back old = refl
truncate-seq (Asked file upto) m came sent turn attrs back old = refl

pub starts-ready : (wsize : ℕ) (machine : Machine) (turn : Turn) (old : Shelf) (next : Step) (new : Machine) (after : Shelf)
    → Starts wsize machine turn old next new after → IsReady turn.xid old.seq old.back → IsReady (turn.xid + 1) after.seq after.back
starts-ready wsize (machines.Open m) turn old next new after s r = same-ready turn.xid old after s.shelf_is r
starts-ready wsize (machines.Read m) turn old next new after s r = kept-ready turn.xid old (record old { pages = after.pages }) after s.others refl refl r
starts-ready wsize (machines.Write m) turn old next new after s r = write-starts-ready wsize m turn old next s.machine after s.step r
starts-ready wsize (machines.Sync m) turn old next new after s r = sync-starts-ready wsize m turn old next s.state after s.step r
starts-ready wsize (machines.Close m) turn old next new after s r = close-starts-ready wsize m turn old next s.state after s.step r
starts-ready wsize (machines.Truncate m) turn old next new after s r = truncate-starts (truncates.found_file m old) m turn.xid old after s.shelf_is r
starts-ready wsize (machines.Put m) turn old next new after s r = same-ready turn.xid old after s.shelf_is r

pub resumes-ready : (wsize : ℕ) (machine : Machine) (turn : Turn) (old : Shelf) (next : Step) (new : Machine) (after : Shelf)
    → Resumes wsize machine turn old next new after → IsReady turn.xid old.seq old.back → IsReady (turn.xid + 1) after.seq after.back
resumes-ready wsize (machines.Open m) turn old next new after s r = same-ready turn.xid old after s.shelf_is r
resumes-ready wsize (machines.Read m) turn old next new after s r = kept-ready turn.xid old (record old { pages = after.pages }) after s.others refl refl r
resumes-ready wsize (machines.Write m) turn old next new after s r = write-resumes-ready m.state wsize m.lane turn old next s.state after s.step r
resumes-ready wsize (machines.Sync m) turn old next new after s r = sync-resumes-ready m.state wsize m turn old next s.state after s.step r
resumes-ready wsize (machines.Close m) turn old next new after s r = close-resumes-ready m.state wsize m turn old next s.state after s.step r
resumes-ready wsize (machines.Truncate m) turn old next new after s r = same-ready turn.xid old after s.shelf_is r
resumes-ready wsize (machines.Put m) turn old next new after s r = put-resumes-ready m.state wsize m turn old next s.machine after s.step r

pub takes-ready : (wsize : ℕ) (machine : Machine) (sent turn : Turn) (came : Result Reply Fault) (old : Shelf) (next : Step) (new : Machine) (after : Shelf)
    → Takes wsize machine sent turn came old next new after → IsReady turn.xid old.seq old.back → IsReady (turn.xid + 1) after.seq after.back
takes-ready wsize (machines.Open m) sent turn came old next new after s r =
    kept-ready turn.xid old (record old { pages = after.pages; attrs = after.attrs; names = after.names; opens = after.opens; repeats = after.repeats }) after s.others refl refl r
takes-ready wsize (machines.Read m) sent turn came old next new after s r = kept-ready turn.xid old (record old { attrs = after.attrs; pages = after.pages; repeats = after.repeats }) after s.others refl refl r
takes-ready wsize (machines.Write m) sent turn came old next new after s r = write-takes-ready m.state wsize m sent turn came old next s.state after s.step r
takes-ready wsize (machines.Sync m) sent turn came old next new after s r = sync-takes-ready m.state wsize m sent turn came old next s.state after s.step r
takes-ready wsize (machines.Close m) sent turn came old next new after s r = close-takes-ready m.state wsize m sent turn came old next s.state after s.step r
takes-ready wsize (machines.Truncate m) sent turn came old next new after s r =
    shelf-ready (turn.xid + 1) old.seq after (ap (λ (x : Shelf). x.seq) s.shelf_is ∙ truncate-seq m.state m came sent turn after.attrs after.back old)
    (truncate-takes-ready m.state m came turn.xid old.seq old.back after.back s.back r)
takes-ready wsize (machines.Put m) sent turn came old next new after s r = put-takes-ready m.state wsize m sent turn came old next s.machine after s.step r
