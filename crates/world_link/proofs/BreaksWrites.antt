-- What a schedule lets break off is a WRITE, and its status is 1 or above.
use Rattle.std.proofs.Common.{◌≡◌, ◌<◌, ℕ, zero, suc, false, List, [], ◌∷◌, ◌++◌, length, Option, Some, None, Result, Ok, Err, sym, ap, ◌∙◌, subst, arith, ◌==◌, IfOk}
use Rattle.std.specs.Prelude.{OnOk}
use Rattle.std.proofs.lemmas.Bool.{cond_both}
use Rattle.nfs_file_calls.specs.declared.call.FileCall.TheVariants as files
use Rattle.world_model.specs.declared.message.Call.{Call}
use Rattle.world_model.specs.declared.message.Call.TheVariants as calls
use Rattle.export_fs.specs.Partial.{IsWrite}
use Rattle.world_link.specs.declared.directive.PartialWrite.{PartialWrite}
use Rattle.world_link.specs.declared.manner.Manner.{Manner}
use Rattle.export_fs.specs.View.{View}
use Rattle.export_serve.specs.Spelling.{reply_bytes}
use Rattle.world_model.specs.declared.entry.Entry.{Entry}
use Rattle.world_model.specs.declared.entry.Entry.TheVariants.{Executed}
use Rattle.world_model.specs.declared.message.Reply.{Reply}
use Rattle.world_link.specs.declared.broken.Broken.{Broken}
use Rattle.world_link.specs.Handling.{broken_unless, breaks, handled, answered_as, kept, tells}
use Rattle.world_link.specs.View.{ServerView}

above : (n : ℕ) → (n == 0) ≡ false → 0 < n
above zero e = absurd (cc)
above (suc n) e = omega arith

unless_fails : (answer : Option ℕ) (partial : Option PartialWrite) (part : PartialWrite) → broken_unless answer partial ≡ Some part → 0 < part.status
unless_fails (Some n) None part e = absurd (cc)
unless_fails (Some n) (Some p) part e = absurd (cc)
unless_fails None None part e = absurd (cc)
unless_fails None (Some p) part e =
    cond_both (p.status == 0) None (Some p) (λ (o : Option PartialWrite). o ≡ Some part → 0 < part.status) (λ z q. absurd (cc))
    (λ z q. let same : p ≡ part = cc in subst (λ (x : PartialWrite). 0 < x.status) same (above p.status z)) e

pub breaks_write : (manner : Manner) (call : Call) (part : PartialWrite) → breaks manner call ≡ Some part → IsWrite call × (0 < part.status)
breaks_write manner (calls.File files.Null) part e = absurd (cc)
breaks_write manner (calls.File (files.GetAttr file)) part e = absurd (cc)
breaks_write manner (calls.File (files.SetAttr file set guard)) part e = absurd (cc)
breaks_write manner (calls.File (files.Access file bits)) part e = absurd (cc)
breaks_write manner (calls.File (files.Read file offset count)) part e = absurd (cc)
breaks_write manner (calls.File (files.Write file offset how bytes)) part e = (tt, unless_fails manner.answer manner.partial part e)
breaks_write manner (calls.File (files.FsStat file)) part e = absurd (cc)
breaks_write manner (calls.File (files.FsInfo file)) part e = absurd (cc)
breaks_write manner (calls.File (files.PathConf file)) part e = absurd (cc)
breaks_write manner (calls.File (files.Commit file offset count)) part e = absurd (cc)
breaks_write manner (calls.Dir call) part e = absurd (cc)
breaks_write manner (calls.Mount call) part e = absurd (cc)

-- what is made of a call is what is made of it as it breaks off, or doesn't
pub part_told : {E : Type 0} (old new : ServerView) (manner : Manner) (xid : ℕ) (call : Call) (part : Option PartialWrite) (result : Result (List ℕ) E) → breaks manner call ≡ part
    → OnOk result (new ≡ tells old xid call part (handled part manner old.export call)) → OnOk result (new ≡ tells old xid call (breaks manner call) (answered_as manner old.export call))
part_told old new manner xid call part result e h = subst (λ (o : Option PartialWrite). OnOk result (new ≡ tells old xid call o (handled o manner old.export call))) (sym e) h

pub part_replied : {E : Type 0} (view : View) (manner : Manner) (xid : ℕ) (call : Call) (part : Option PartialWrite) (result : Result (List ℕ) E) → breaks manner call ≡ part
    → IfOk result (λ bytes. bytes ≡ reply_bytes xid (handled part manner view call).1) → IfOk result (λ bytes. bytes ≡ reply_bytes xid (answered_as manner view call).1)
part_replied view manner xid call part result e h = subst (λ (o : Option PartialWrite). IfOk result (λ bytes. bytes ≡ reply_bytes xid (handled o manner view call).1)) (sym e) h

-- a call was answered, and it was told
pub told_is : {E : Type 0} (old new : ServerView) (part : Option PartialWrite) (xid : ℕ) (call : Call) (done : View × Reply) (reply : Reply) (result : Result (List ℕ) E)
    → new ≡ record old { export = new.export; entries = new.entries; partials = new.partials } → reply ≡ done.1 → new.entries ≡ old.entries ++ Executed xid call reply ∷ [] → new.partials ≡ kept old.partials (length old.entries) part → new.export ≡ done.0
    → OnOk result (new ≡ tells old xid call part done)
told_is old new part xid call done reply (Err e) shape r grown beside is = tt
told_is old new part xid call done reply (Ok bytes) shape r grown beside is =
    shape ∙ ap (λ (z : View). record old { export = z; entries = new.entries; partials = new.partials }) is
    ∙ ap (λ (es : List Entry). record old { export = done.0; entries = es; partials = new.partials }) (grown ∙ ap (λ (x : Reply). old.entries ++ Executed xid call x ∷ []) r)
    ∙ ap (λ (t : List Broken). record old { export = done.0; entries = old.entries ++ Executed xid call done.1 ∷ []; partials = t }) beside
