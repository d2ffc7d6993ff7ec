-- As the reply to an own change comes, the page cache knows the file already.
use Rattle.core_session.proofs.Prelude.{◌≡◌, ◌<◌, ℕ, true, false, List, ◌∷◌, ◌++◌, length, Some, slice_get, sym, subst, arith, FileCall, Waiting, waiting_at, FileState, state_of, Entry, Delivered, Modes, Mounted, Machine, machine_of, Purpose, Busy, Setup, View, Reaches, IsMade, LastAtMost}
use Rattle.world_model.specs.declared.message.Call.TheVariants as calls
use Rattle.claims.specs.Slots.{Opens}
use Rattle.core_session.proofs.current.Good.{reached-good}
use Rattle.core_session.proofs.current.ReadsRecent.{opens-front}

-- so it is in the view before the place d, where the call of a lane that waits is the change
abbrev pub Stated : Mounted → Setup → List Entry → ℕ → List ℕ → FileCall → Type 0
Stated mounted setup H d f change = (h rest : List Entry) (rec : List ℕ) → h ++ Delivered rec ∷ rest ≡ H → d ≡ length h → (old : View) → Reaches (machine_of mounted) setup h old → old.lost ≡ false
    → (xid : ℕ) (call : Waiting Purpose) → waiting_at xid old.calls.calls ≡ Some call → (at number : ℕ) (machine : Machine)
    → slice_get old.lanes at ≡ Some (record { number = number; state = Busy machine }) → number ≡ call.purpose.lane → (made : IsMade setup.cred xid call) → calls.File change ≡ made.asked
    → (s : FileState) × (state_of f old.shelf.pages ≡ Some s)

-- an open of the file was answered before
pub stated-opens : (mounted : Mounted) (modes : Modes) → mounted.nocto ≡ modes.nocto → (setup : Setup) → (modes.nocto ≡ true → LastAtMost setup.lives modes.longest) → (H : List Entry) (d : ℕ) (f : List ℕ) (change : FileCall)
    (lane slot o yo : ℕ) → Opens modes H lane slot o yo f → yo < d → Stated mounted setup H d f change
stated-opens mounted modes same setup lasts H d f change lane slot o yo opens early h rest rec is here old r found xid call waits at number machine there number_is made asked =
    let g = reached-good mounted modes same setup lasts h old r found in
    let front = opens-front modes h (Delivered rec ∷ rest) lane slot o yo f (omega (arith, early, here)) (subst (λ (l : List Entry). Opens modes l lane slot o yo f) (sym is) opens) in
    let k = g.opened lane slot o yo f front in
    (k.since.marked.state, k.since.marked.there)
