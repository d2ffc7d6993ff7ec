-- A call that waits under an xid spells the WRITE of what is in flight under it, if anything is: so through each step of an operation.
use Rattle.core_answers.proofs.Prelude.{◌≡◌, ◌≢◌, ℕ, Bool, true, false, nat_eq, List, [], ◌∷◌, ◌++◌, Option, Some, None, option_map, Result, refl, sym, ap, subst, ◌∙◌, arith, eqb-true, Waiting, next_xid, WaitedAs, made_call, waiting_at, without, waits_early, at_made, others_made, others_taken, gone, Fault, Entry, Call, Reply, SpellsCallBy, program_of, proc_of, Pending, of_file, Sent, piece_under, Step, Shelf, Turn, IsUnused, Machine, Opener, file_of, Starts, Resumes, Takes, Purpose, Setup, Makes, record_of, View, turn_at, IsMade, Flown, sender, look_at, Flies, Rows, made-known, made-asked}
use Rattle.nfs_types.specs.declared.program.TheConstants.{NFS_PROGRAM}
use Rattle.rpc_message.specs.declared.cred.Cred.{Cred}
use Rattle.world_model.specs.declared.message.Call.TheVariants as calls
use Rattle.client_shelf.specs.declared.step.Step.TheVariants as nexts
use Rattle.file_ops.specs.Saves as saves
use Rattle.file_ops.proofs.Unmade.{AnyCall}
use Rattle.file_ops.proofs.Walks.{LeftAs}
use Rattle.op_machines.specs.declared.machine.Machine.TheVariants as machines
use Rattle.op_machines.proofs.Walk.{has-any, has-all}
use Rattle.core_facts.proofs.AllWalks.{PathHas, HasAll, all-starts, all-resumes, all-takes}
use Rattle.core_facts.proofs.PieceWalks.{AtFile, IsForeign, carries-file, replies-file}
use Rattle.core_answers.proofs.bonds.OneCall.{IsNfs, one-call}
use Rattle.core_answers.proofs.pages.FilePages.{IsSentAs}
use Rattle.core_answers.proofs.pages.PiecesSent.{AllSentAs}
use Rattle.core_answers.proofs.pages.Under.{EachUnder, each-found, of-each, each-weaker}

-- the record spells the WRITE of each piece under the xid
abbrev pub Spelled : Cred → ℕ → List ℕ → Pending → Type 0
Spelled cred xid bytes back = (file : List ℕ) → EachUnder xid (λ piece. SpellsCallBy cred xid (saves.write_of file piece) bytes) (of_file file back).pieces

abbrev pub Called : Cred → List (ℕ × Waiting Purpose) → Pending → Type 0
Called cred waiting back = (xid : ℕ) (w : Waiting Purpose) → waiting_at xid waiting ≡ Some w → Spelled cred xid w.bytes back

-- ---- a fact of what is pending, through a step of any machine

any-path : (P : Pending → Type 0) (b : Bool) (o : Opener) (back : Pending) → P back → PathHas P (λ s k. P k) b o back
any-path P true o back p = has-any P (λ s k. P k) (λ s k q. q) (file_of o) back p
any-path P false o back p = p

any-all : (P : Pending → Type 0) (m : Machine) (back : Pending) → P back → HasAll P (λ s k. P k) m back
any-all P (machines.File m) back p = has-any P (λ s k. P k) (λ s k q. q) m back p
any-all P (machines.Path m) back p = any-path P m.arrived m.opener back p
any-all P (machines.Name m) back p = p

path-any : (P : Pending → Type 0) (b : Bool) (o : Opener) (back : Pending) → PathHas P (λ s k. P k) b o back → P back
path-any P true o back h = has-all P (λ s k. P k) (λ s k q. q) (file_of o) back h
path-any P false o back h = h

all-any : (P : Pending → Type 0) (m : Machine) (back : Pending) → HasAll P (λ s k. P k) m back → P back
all-any P (machines.File m) back h = has-all P (λ s k. P k) (λ s k q. q) m back h
all-any P (machines.Path m) back h = path-any P m.arrived m.opener back h
all-any P (machines.Name m) back h = h

left-any : (P : Pending → Type 0) (next : Step) (m : Machine) (back : Pending) → LeftAs P (HasAll P (λ s k. P k)) AnyCall next m back → P back
left-any P (nexts.Send call) m back l = all-any P m back l.0
left-any P nexts.Wait m back l = l
left-any P (nexts.Done answer) m back l = l

any-call : (call : Call) → AnyCall call
any-call call = tt

module _ (cred : Cred) (xid : ℕ) (bytes : List ℕ) (wsize : ℕ) (turn : Turn) (foreign : IsForeign xid turn.xid turn.room) where
  abbrev Of : List ℕ → List Sent → Type 0
  Of file pieces = EachUnder xid (λ piece. SpellsCallBy cred xid (saves.write_of file piece) bytes) pieces

  pub starts-spelled : (m : Machine) (old : Shelf) (next : Step) (new : Machine) (after : Shelf) → Starts wsize m turn old next new after → Spelled cred xid bytes old.back
      → Spelled cred xid bytes after.back
  starts-spelled m old next new after s k file =
      left-any (AtFile file (Of file)) next new after.back
      (all-starts wsize turn (AtFile file (Of file)) (λ s b. AtFile file (Of file) b) AnyCall any-call
      (carries-file xid (Of file) (of-each xid (λ piece. SpellsCallBy cred xid (saves.write_of file piece) bytes)) file wsize turn foreign) m old next new after (k file) s)

  pub resumes-spelled : (m : Machine) (old : Shelf) (next : Step) (new : Machine) (after : Shelf) → Resumes wsize m turn old next new after → Spelled cred xid bytes old.back
      → Spelled cred xid bytes after.back
  resumes-spelled m old next new after s k file =
      left-any (AtFile file (Of file)) next new after.back
      (all-resumes wsize turn (AtFile file (Of file)) (λ s b. AtFile file (Of file) b) AnyCall any-call
      (carries-file xid (Of file) (of-each xid (λ piece. SpellsCallBy cred xid (saves.write_of file piece) bytes)) file wsize turn foreign) m old next new after (k file) s)

  pub takes-spelled : (sent : Turn) (came : Result Reply Fault) (m : Machine) (old : Shelf) (next : Step) (new : Machine) (after : Shelf) → Takes wsize m sent turn came old next new after
      → Spelled cred xid bytes old.back → Spelled cred xid bytes after.back
  takes-spelled sent came m old next new after s k file =
      left-any (AtFile file (Of file)) next new after.back
      (all-takes wsize turn (AtFile file (Of file)) (λ s b. AtFile file (Of file) b) AnyCall any-call
      (carries-file xid (Of file) (of-each xid (λ piece. SpellsCallBy cred xid (saves.write_of file piece) bytes)) file wsize turn foreign) sent came (λ s b. AtFile file (Of file) b)
      (replies-file xid (Of file) (of-each xid (λ piece. SpellsCallBy cred xid (saves.write_of file piece) bytes)) file wsize sent turn came foreign) m old next new after
      (any-all (AtFile file (Of file)) m old.back (k file)) s)

-- ---- the calls that wait

some-waiting : (a b : Waiting Purpose) → Some a ≡ Some b → a ≡ b
some-waiting a b e = cc

-- the next xid is no waiting call's
pub waits-before : (setup : Setup) (h : List Entry) (v : View) → Rows setup h v → (xid : ℕ) (w : Waiting Purpose) → waiting_at xid v.calls.calls ≡ Some w → next_xid v.calls ≢ xid
waits-before setup h v r xid w waits same =
    let below = waits_early v.calls.cred v.calls.first_xid (next_xid v.calls) xid v.calls.calls w r.sound.calls.each waits in absurd (omega (arith, below, same))

-- nothing is in flight under it
pub next-unused : (setup : Setup) (h : List Entry) (v : View) → Rows setup h v → Flown v → IsUnused (next_xid v.calls) v.shelf.back
next-unused setup h v r f = by (waiting_at (next_xid v.calls) v.calls.calls) refl
  where
    by : (o : Option (Waiting Purpose)) → waiting_at (next_xid v.calls) v.calls.calls ≡ o → IsUnused (next_xid v.calls) v.shelf.back
    by None is = subst (λ (q : Option Purpose). Flies (next_xid v.calls) (sender (look_at v.lanes) q) v.shelf.back)
        (ap (option_map (λ (w : Waiting Purpose). w.purpose)) is) (f.flies (next_xid v.calls))
    by (Some w) is = absurd (waits-before setup h v r (next_xid v.calls) w is refl)

-- the call that is made
pub made-called : (setup : Setup) (h : List Entry) (v : View) (number : ℕ) (call : Call) (new : View) (m : Makes v number call new) → Rows setup h v
    → AllSentAs (next_xid v.calls) call v.shelf.back → Called setup.cred v.calls.calls v.shelf.back
    → Called setup.cred (v.calls.calls ++ (next_xid v.calls, made_call (record_of v call m.args) (record { lane = number; proc = proc_of call; sent = turn_at v })) ∷ []) v.shelf.back
made-called setup h v number call new m r sent old xid w at = by (nat_eq xid (next_xid v.calls)) refl
  where
    row : Waiting Purpose
    row = made_call (record_of v call m.args) (record { lane = number; proc = proc_of call; sent = turn_at v })

    own : Spelled setup.cred (next_xid v.calls) row.bytes v.shelf.back
    own file =
        let k = (made-known setup h v number call new m r).made in
        let spells : SpellsCallBy setup.cred (next_xid v.calls) call row.bytes =
        subst (λ (c : Call). SpellsCallBy setup.cred (next_xid v.calls) c row.bytes) (made-asked setup h v number call new m r) k.spells in
        each-weaker (next_xid v.calls) (λ piece. call ≡ saves.write_of file piece) (λ piece. SpellsCallBy setup.cred (next_xid v.calls) (saves.write_of file piece) row.bytes)
        (λ piece is. subst (λ (c : Call). SpellsCallBy setup.cred (next_xid v.calls) c row.bytes) is spells) (of_file file v.shelf.back).pieces (sent file)

    by : (b : Bool) → nat_eq xid (next_xid v.calls) ≡ b → Spelled setup.cred xid w.bytes v.shelf.back
    by true d =
        let is : xid ≡ next_xid v.calls = eqb-true xid (next_xid v.calls) d in
        let which : row ≡ w = some-waiting row w (sym (at_made v.calls.cred v.calls.first_xid (next_xid v.calls) xid (next_xid v.calls) v.calls.calls row r.sound.calls.each is refl) ∙ at) in
        subst (λ (n : ℕ). Spelled setup.cred n w.bytes v.shelf.back) (sym is)
        (subst (λ (c : Waiting Purpose). Spelled setup.cred (next_xid v.calls) c.bytes v.shelf.back) which own)
    by false d = old xid w (sym (others_made xid (next_xid v.calls) v.calls.calls row d) ∙ at)

-- one that waits no more
pub less-called : (setup : Setup) (h : List Entry) (v : View) (xid : ℕ) (back : Pending) → Rows setup h v → Called setup.cred v.calls.calls back
    → Called setup.cred (without xid v.calls.calls) back
less-called setup h v xid back r c y w waits = by (nat_eq y xid) refl
  where
    by : (b : Bool) → nat_eq y xid ≡ b → Spelled setup.cred y w.bytes back
    by false d = c y w (sym (others_taken y xid v.calls.calls d) ∙ waits)
    by true d = absurd (
        let none : waiting_at xid (without xid v.calls.calls) ≡ None = gone v.calls.cred v.calls.first_xid (next_xid v.calls) xid v.calls.calls r.sound.calls.each in
        let there : waiting_at xid (without xid v.calls.calls) ≡ Some w = ap (λ (n : ℕ). waiting_at n (without xid v.calls.calls)) (sym (eqb-true y xid d)) ∙ waits in
        let no_way : None ≡ Some w = sym none ∙ there in cc)

-- the same records
pub same-called : (cred : Cred) (waiting later : List (ℕ × Waiting Purpose)) (back : Pending) → ((xid : ℕ) (w : Waiting Purpose) → waiting_at xid later ≡ Some w → WaitedAs waiting xid w)
    → Called cred waiting back → Called cred later back
same-called cred waiting later back was c xid w waits =
    let k = was xid w waits in
    subst (λ (b : List ℕ). Spelled cred xid b back) (sym k.bytes) (c xid k.was k.waited)

-- ---- the call that is answered

nfs-so : (call : Call) → program_of call ≡ NFS_PROGRAM → IsNfs call
nfs-so (calls.File call) is = tt
nfs-so (calls.Dir call) is = tt
nfs-so (calls.Mount call) is = absurd (omega (arith, is))

-- what is in flight under its xid is what it writes
pub called-sent : (cred : Cred) (xid : ℕ) (w : Waiting Purpose) (sent : ℕ) (back : Pending) (made : IsMade cred xid w) → sent ≡ xid → Spelled cred xid w.bytes back → IsSentAs sent made.asked back
called-sent cred xid w sent back made is spelled file piece there =
    let at : piece_under xid (of_file file back).pieces ≡ Some piece = ap (λ (x : ℕ). piece_under x (of_file file back).pieces) (sym is) ∙ there in
    let s = each-found xid (λ p. SpellsCallBy cred xid (saves.write_of file p) w.bytes) (of_file file back).pieces piece at (spelled file) in
    one-call xid xid made.asked (saves.write_of file piece) w.bytes (nfs-so made.asked made.nfs) made.spells.spells s.spells
