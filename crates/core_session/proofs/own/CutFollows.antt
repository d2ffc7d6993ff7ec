-- What a step makes of the pages of a file, at the reply to a SETATTR of its size.
use Rattle.core_session.proofs.Prelude.{◌≡◌, ◌≤◌, ◌-◌, ◌⊎◌, inl, inr, ℕ, false, List, [], Option, Some, None, Result, Ok, Err, refl, sym, ap, subst, ◌∙◌, arith, SetAttr, Time, Wcc, FileKept, Pages, cut, Fault, Call, Reply, SpellsCall, one_file_call, Shelf, Turn, TruncateFile, Truncating, Mounted, Machine, machine_of, Takes, Busy, Setup, in_flight, begins-unbegun, calls-some, known-only, lanes-under-way, IsExpected, reached-good, Expects, expects-laws, NoCall, NoShelf, NoStory, no-laws}
use Rattle.page_cache.specs.Pages.{wrote}
use Rattle.nfs_file_calls.specs.declared.call.FileCall.TheVariants as files
use Rattle.nfs_file_calls.specs.declared.owned.FileKept.TheVariants as kept
use Rattle.world_model.specs.declared.message.Call.TheVariants as calls
use Rattle.world_model.specs.declared.answer.Fault.TheVariants as faults
use Rattle.world_model.specs.declared.message.Reply.TheVariants as replies
use Rattle.client_shelf.specs.Unmade.{is_unmade, came_unmade}
use Rattle.file_ops.specs.declared.truncate_file.Truncating.TheVariants as truncating
use Rattle.file_ops.specs.Saves as saves
use Rattle.file_ops.specs.TruncateFile as truncates
use Rattle.file_ops.proofs.Failed.{unset-dropped}
use Rattle.op_machines.specs.declared.file_machine.FileMachine.TheVariants as machines_of
use Rattle.op_machines.specs.declared.machine.Machine.TheVariants as machines
use Rattle.core_session.proofs.order.Tame.{Tame, IsCut, expects-tame}
use Rattle.core_session.proofs.kept.OwnFollows.{Follows}

-- ---- the reply

set-by : (reply : FileKept) (wcc : Wcc) → truncates.in_reply reply ≡ Ok wcc → reply ≡ kept.SetAttr wcc
set-by (kept.SetAttr w) wcc is = let same : w ≡ wcc = cc in ap kept.SetAttr same
set-by (kept.SetAttrFail status w) wcc is = absurd (cc)
set-by reply wcc is = absurd (cc)

told-set : (came : Result Reply Fault) (wcc : Wcc) → truncates.size_told came ≡ Ok wcc → came ≡ Ok (replies.File (kept.SetAttr wcc))
told-set (Ok (replies.File reply)) wcc is = ap (λ (r : FileKept). Ok (replies.File r)) (set-by reply wcc is)
told-set (Ok (replies.Dir reply)) wcc is = absurd (cc)
told-set (Ok (replies.Mount reply)) wcc is = absurd (cc)
told-set (Err fault) wcc is = absurd (cc)

wcc-of : (a b : Wcc) → replies.File (kept.SetAttr a) ≡ replies.File (kept.SetAttr b) → a ≡ b
wcc-of a b e = cc

file-of-set : (a b : List ℕ) (s t : SetAttr) (x y : Option Time) → calls.File (files.SetAttr a s x) ≡ calls.File (files.SetAttr b t y) → a ≡ b
file-of-set a b s t x y e = cc

-- ---- the step

-- the pages after it
took-pages : (m : TruncateFile) (at : Truncating) (file : List ℕ) (upto : ℕ) (sent turn : Turn) (came : Result Reply Fault) (old after : Shelf) → at ≡ truncating.Asked file upto
    → after ≡ truncates.took_shelf at m came sent turn after.attrs after.back old → after.pages ≡ truncates.told_pages (truncates.size_told came) file m.size (turn.moment - 1) old.pages
took-pages m at file upto sent turn came old after state is =
    ap (λ (s : Shelf). s.pages) is ∙ ap (λ (t : Truncating). (truncates.took_shelf t m came sent turn after.attrs after.back old).pages) state

-- why no size was set, where the call was made and a record doesn't tell that it was refused
err-unknown : (f fault : Fault) → truncates.leaves_pages f ≡ false → ◌≡◌ {A = Result Wcc Fault} (Err f) (Err fault) → truncates.leaves_pages fault ≡ false
err-unknown f fault unknown e = let same : f ≡ fault = cc in subst (λ (x : Fault). truncates.leaves_pages x ≡ false) same unknown

other-reply : (reply : FileKept) (fault : Fault) → ((status : _) (w : Wcc) → reply ≡ kept.SetAttrFail status w → ⊥) → truncates.in_reply reply ≡ Err fault
    → truncates.leaves_pages fault ≡ false
other-reply (kept.SetAttr wcc) fault other is = absurd (cc)
other-reply (kept.SetAttrFail status wcc) fault other is = absurd (other status wcc refl)
other-reply reply fault other is = err-unknown _ fault refl is

not-unmade : (f : Fault) → is_unmade f ≡ false → ((status : ℕ) → f ≡ faults.Nfs status → ⊥) → truncates.leaves_pages f ≡ false
not-unmade (faults.Nfs status) made none = absurd (none status refl)
not-unmade f made none = made

size-unknown : (came : Result Reply Fault) → came_unmade came ≡ false → ((status : ℕ) → came ≡ Err (faults.Nfs status) → ⊥)
    → ((reply : FileKept) (status : _) (w : Wcc) → came ≡ Ok (replies.File reply) → reply ≡ kept.SetAttrFail status w → ⊥) → (fault : Fault) → truncates.size_told came ≡ Err fault
    → truncates.leaves_pages fault ≡ false
size-unknown (Ok (replies.File reply)) made none other fault is = other-reply reply fault (λ status w e. other reply status w refl e) is
size-unknown (Ok (replies.Dir reply)) made none other fault is = err-unknown _ fault refl is
size-unknown (Ok (replies.Mount reply)) made none other fault is = err-unknown _ fault refl is
size-unknown (Err f) made none other fault is = err-unknown f fault (not-unmade f made (λ status e. none status (ap Err e))) is

told-so : (T : Pages → Type 0) (f : List ℕ) (wcc : Wcc) (size moment : ℕ) (pages : Pages) (told : Result Wcc Fault) → ((w : Wcc) → told ≡ Ok w → w ≡ wcc)
    → ((fault : Fault) → told ≡ Err fault → truncates.leaves_pages fault ≡ false) → T (wrote f saves.untold 0 [] moment pages) → T (cut f wcc size moment pages)
    → T (truncates.told_pages told f size moment pages)
told-so T f wcc size moment pages (Ok w) same made drops cuts = subst (λ (z : Wcc). T (cut f z size moment pages)) (sym (same w refl)) cuts
told-so T f wcc size moment pages (Err fault) same unknown drops cuts = unset-dropped T f moment fault pages (unknown fault refl) drops

pub size-follows : (mounted : Mounted) (setup : Setup) (f : List ℕ) (set : SetAttr) (guard : Option Time) (wcc : Wcc) → Follows mounted setup f (files.SetAttr f set guard) (kept.SetAttr wcc) wcc
size-follows mounted setup f set guard wcc T h old r found known xid call waits at number machine there lane made asked came its sent_ none_ turn drops follows cuts next after shelf t =
    by (expects-tame machine e.made.asked e.expects some)
  where
    e : IsExpected (machine_of mounted) (begins-unbegun mounted) setup Expects expects-laws NoCall NoShelf NoStory (no-laws (machine_of mounted) setup Expects) h number xid call machine
    e = ((reached-good (machine_of mounted) (begins-unbegun mounted) setup Expects expects-laws NoCall NoShelf NoStory (no-laws (machine_of mounted) setup Expects) h old r).each at
        (record { number = number; state = Busy machine }) there).0 xid call waits (sym lane)

    again : calls.File (files.SetAttr f set guard) ≡ e.made.asked
    again =
        one_file_call xid xid (files.SetAttr f set guard) e.made.asked call.bytes (subst (λ (q : Call). SpellsCall xid q call.bytes) (sym asked) made.spells.spells) e.made.spells.spells

    some : 1 ≤ in_flight machine
    some =
        let all = calls-some xid old.calls.calls call waits in
        let count = known.known.counted call.purpose.lane
        ∙ known-only call.purpose.lane old.lanes at (Busy machine) (there ∙ ap (λ (n : ℕ). Some (record { number = n; state = Busy machine })) lane)
        (λ k l here same. (lanes-under-way h old known.lanes).apart k at l (record { number = number; state = Busy machine }) here there (same ∙ sym lane)) in
        omega (arith, all, count)

    not-refused : (reply : FileKept) (status : _) (w : Wcc) → came ≡ Ok (replies.File reply) → reply ≡ kept.SetAttrFail status w → ⊥
    not-refused reply status w said is =
        let same = its reply said in
        let no_way : replies.File (kept.SetAttrFail status w) ≡ replies.File (kept.SetAttr wcc) = ap replies.File (sym is) ∙ same in
        cc

    by : IsCut machine e.made.asked ⊎ Tame e.made.asked → T shelf.pages
    by (inl c) =
        let file : f ≡ c.file = file-of-set f c.file set _ guard None (again ∙ c.asks) in
        let takes : Takes old.wsize (machines.File (machines_of.Truncate c.m)) call.purpose.sent turn came old.shelf next after shelf =
        subst (λ (z : Machine). Takes old.wsize z call.purpose.sent turn came old.shelf next after shelf) c.is t in
        let pages = took-pages c.m c.m.state c.file c.upto call.purpose.sent turn came old.shelf shelf c.state takes.step.shelf_is in
        subst T (sym (pages ∙ ap (λ (z : List ℕ). truncates.told_pages (truncates.size_told came) z c.m.size (turn.moment - 1) old.shelf.pages) (sym file)))
        (told-so T f wcc c.m.size (turn.moment - 1) old.shelf.pages (truncates.size_told came) (λ w is. wcc-of w wcc (its (kept.SetAttr w) (told-set came w is)))
        (size-unknown came sent_ none_ not-refused) drops (cuts c.m.size))
    by (inr tame) = absurd (subst Tame (sym again) tame)
