-- What a step makes of the pages of its file, at the reply to an own change.
use Rattle.core_session.proofs.Prelude.{◌≡◌, ◌-◌, ℕ, true, false, List, [], Some, slice_get, Result, Ok, Err, refl, sym, subst, ◌∙◌, Verf, Wcc, FileCall, FileKept, Waiting, waiting_at, Pages, cut, Fault, Entry, Call, Reply, SpellsCall, one_file_call, Step, Shelf, Turn, Mounted, Machine, machine_of, Takes, Purpose, Busy, Setup, View, Reaches, IsMade, begins-unbegun, flies_of, Known, reached-good, NoCall, NoShelf, NoStory, no-laws, CallFits, fits-laws}
use Rattle.page_cache.specs.Pages.{wrote}
use Rattle.nfs_file_calls.specs.declared.call.FileCall.TheVariants as files
use Rattle.nfs_file_calls.specs.declared.owned.FileKept.TheVariants as kept
use Rattle.world_model.specs.declared.message.Call.TheVariants as calls
use Rattle.world_model.specs.declared.answer.Fault.TheVariants as faults
use Rattle.world_model.specs.declared.message.Reply.TheVariants as replies
use Rattle.client_shelf.specs.Unmade.{came_unmade}
use Rattle.file_ops.specs.Saves as saves
use Rattle.core_session.proofs.kept.OwnTold.{takes-wrote}

-- They are dropped, or follow what the reply tells, where the call that waits is the change, and a record gives this reply or none. The call was made then.
abbrev pub Follows : Mounted → Setup → List ℕ → FileCall → FileKept → Wcc → Type 1
Follows mounted setup f change reply wcc = (T : Pages → Type 0) → (h : List Entry) (old : View) → Reaches (machine_of mounted) setup h old → old.lost ≡ false → Known setup h old
    → (xid : ℕ) (call : Waiting Purpose) → waiting_at xid old.calls.calls ≡ Some call → (at number : ℕ) (machine : Machine)
    → slice_get old.lanes at ≡ Some (record { number = number; state = Busy machine }) → number ≡ call.purpose.lane → (made : IsMade setup.cred xid call) → calls.File change ≡ made.asked
    → (came : Result Reply Fault) → ((its : FileKept) → came ≡ Ok (replies.File its) → replies.File its ≡ replies.File reply)
    → came_unmade came ≡ false → ((status : ℕ) → came ≡ Err (faults.Nfs status) → ⊥) → (turn : Turn)
    → T (wrote f saves.untold 0 [] (turn.moment - 1) old.shelf.pages) → ((place : ℕ) (bytes : List ℕ) → T (wrote f wcc place bytes (turn.moment - 1) old.shelf.pages))
    → ((size : ℕ) → T (cut f wcc size (turn.moment - 1) old.shelf.pages)) → (next : Step) (after : Machine) (shelf : Shelf)
    → Takes old.wsize machine call.purpose.sent turn came old.shelf next after shelf → T shelf.pages

wcc-of : (a b : Wcc) (p q x y : ℕ) (u v : Verf) → replies.File (kept.Write a p x u) ≡ replies.File (kept.Write b q y v) → a ≡ b
wcc-of a b p q x y u v e = cc

-- a WRITE
pub write-follows : (mounted : Mounted) (setup : Setup) (f : List ℕ) (offset how : ℕ) (bytes : List ℕ) (wcc : Wcc) (count firm : ℕ) (verf : Verf)
    → Follows mounted setup f (files.Write f offset how bytes) (kept.Write wcc count firm verf) wcc
write-follows mounted setup f offset how bytes wcc count firm verf T h old r found known xid call waits at number machine there lane made asked came its sent_ none_ turn drops follows cuts next after shelf t =
    takes-wrote T f came call.purpose.sent turn old.shelf (λ e. absurd (let no_way : false ≡ true = sym sent_ ∙ e in cc)) (λ made_. drops)
    (λ place bs told n committed verf_ said.
    subst (λ (w : Wcc). T (wrote f w place bs (turn.moment - 1) old.shelf.pages)) (sym (wcc-of told wcc n count committed firm verf_ verf (its (kept.Write told n committed verf_) said))) (follows place bs))
    machine old.wsize next after shelf flies t
  where
    flies : flies_of machine ≡ Some f
    flies =
        let good = reached-good (machine_of mounted) (begins-unbegun mounted) setup CallFits fits-laws NoCall NoShelf NoStory (no-laws (machine_of mounted) setup CallFits) h old r in
        let e = (good.each at (record { number = number; state = Busy machine }) there).0 xid call waits (sym lane) in
        let again : calls.File (files.Write f offset how bytes) ≡ e.made.asked =
        one_file_call xid xid (files.Write f offset how bytes) e.made.asked call.bytes (subst (λ (q : Call). SpellsCall xid q call.bytes) (sym asked) made.spells.spells) e.made.spells.spells in
        (subst (CallFits machine) (sym again) e.expects).writes f refl
