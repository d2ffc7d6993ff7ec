-- The calls that wait, as the machine shows them, after one was made or answered.
use Rattle.core_counts.proofs.Prelude.{◌≡◌, ◌⊎◌, inl, inr, ◌+◌, ℕ, zero, suc, Bool, true, false, nat_eq, List, [], ◌∷◌, ◌++◌, Option, Some, None, refl, sym, ap, subst, ◌∙◌, arith, if◌then◌else◌, eqb-true, FileCall, Waiting, Held, next_xid, AreSound, waiting_at, without, at_made, others_made, others_taken, gone, Call, SpellsCallBy, Purpose, Setup, written_file, call_of, if-true, if-false, ShownCall, ShownCalls}
use Rattle.model_writes.specs.Mirrors.{file_call_of, sized_call}
use Rattle.nfs_file_calls.specs.declared.call.FileCall.TheVariants as file_calls
use Rattle.world_model.specs.declared.message.Call.TheVariants as calls
use Rattle.model_writes.specs.Machine.{Cell, Flight, View, PlacesAfter}
use Rattle.model_writes.specs.Story as story
use Rattle.core_counts.specs.coarse.Moves.{IsOther}
use Rattle.core_counts.proofs.coarse.Views.{called, ended}

-- ---- which call it is, where it is no WRITE

abbrev pub NoWrite : Call → Type 0
NoWrite call = (f : List ℕ) → written_file call ≡ Some f → ⊥

-- a COMMIT of a whole file, or another
abbrev pub CommitOr : story.Call → Type 0
CommitOr call = ((f : List ℕ) × (call ≡ story.commit f)) ⊎ IsOther call

sized-other : (f : List ℕ) (size : Option ℕ) → IsOther (sized_call f size)
sized-other f None = tt
sized-other f (Some size) = tt

part-other : (f : List ℕ) (offset count : ℕ) → CommitOr (file_call_of (file_calls.Commit f offset count))
part-other f zero zero = inl (f, refl)
part-other f zero (suc count) = inr tt
part-other f (suc offset) count = inr tt

file-other : (call : FileCall) → NoWrite (calls.File call) → CommitOr (file_call_of call)
file-other (file_calls.Write f offset how bytes) never = absurd (never f refl)
file-other (file_calls.Commit f offset count) never = part-other f offset count
file-other (file_calls.SetAttr f set guard) never = inr (sized-other f set.size)
file-other call never = inr tt

pub commit-or : (call : Call) → NoWrite call → CommitOr (call_of call)
commit-or (calls.File call) never = file-other call never
commit-or (calls.Dir call) never = inr tt
commit-or (calls.Mount call) never = inr tt

-- its reply may leave the places as they are
pub leaves-places : (x : ℕ) (call : story.Call) (r : story.Reply) (c d : View) → CommitOr call → ((i : story.Spot) → d.rest i ≡ c.rest i) → ((i : story.Spot) → d.fly i ≡ c.fly i)
    → PlacesAfter x call r c d
leaves-places x (story.write f offset bytes how) r c d (inl k) rest fly = absurd (let no_way = k.1 in cc)
leaves-places x (story.write f offset bytes how) r c d (inr never) rest fly = absurd never
leaves-places x (story.commit f) r c d of rest fly = λ i. inl (rest i, fly i)
leaves-places x (story.resize f size) r c d of rest fly = λ i. (rest i, fly i)
leaves-places x (story.plain what) r c d of rest fly = λ i. (rest i, fly i)

-- ---- after a call was made

module _ (setup : Setup) (held : Held Purpose) (sound : AreSound held.cred held.first_xid (next_xid held) held.calls) (c : View) (shown : ShownCalls setup held c) where
  -- a call more waits
  abbrev pub with_call : Waiting Purpose → Held Purpose
  with_call w = record held { made = held.made + 1; calls = held.calls ++ (next_xid held, w) ∷ [] }

  pub shown-called : (w : Waiting Purpose) (call : Call) (k : story.Call) (rest : story.Spot → Option Cell) (fly : story.Spot → Option Flight) → SpellsCallBy setup.cred (next_xid held) call w.bytes
      → k ≡ call_of call → ShownCalls setup (with_call w) (called c (next_xid held) k rest fly)
  shown-called w call k rest fly spells is = record {
    next = let next = shown.next in omega (arith, next);
    calls = λ x. by x (nat_eq x (next_xid held)) refl;
  }
    where
      by : (x : ℕ) (b : Bool) → nat_eq x (next_xid held) ≡ b
          → ShownCall setup x (waiting_at x (held.calls ++ (next_xid held, w) ∷ [])) (if nat_eq x (next_xid held) then Some k else c.wait x)
      by x true same =
          let here : x ≡ next_xid held = eqb-true x (next_xid held) same in
          let waits : waiting_at x (held.calls ++ (next_xid held, w) ∷ []) ≡ Some w = at_made held.cred held.first_xid (next_xid held) x (next_xid held) held.calls w sound here refl in
          subst (λ (o : Option (Waiting Purpose)). ShownCall setup x o (if nat_eq x (next_xid held) then Some k else c.wait x)) (sym waits)
          (call, subst (λ (n : ℕ). SpellsCallBy setup.cred n call w.bytes) (sym here) spells, if-true (nat_eq x (next_xid held)) (Some k) (c.wait x) same ∙ ap Some is)
      by x false apart =
          subst (λ (o : Option (Waiting Purpose)). ShownCall setup x o (if nat_eq x (next_xid held) then Some k else c.wait x)) (sym (others_made x (next_xid held) held.calls w apart))
          (subst (ShownCall setup x (waiting_at x held.calls)) (sym (if-false (nat_eq x (next_xid held)) (Some k) (c.wait x) apart)) (shown.calls x))

  -- one less
  pub shown-ended : (x : ℕ) (rest : story.Spot → Option Cell) (fly : story.Spot → Option Flight) → ShownCalls setup (record held { calls = without x held.calls }) (ended c x rest fly)
  shown-ended x rest fly = record { next = shown.next; calls = λ z. by z (nat_eq z x) refl }
    where
      by : (z : ℕ) (b : Bool) → nat_eq z x ≡ b → ShownCall setup z (waiting_at z (without x held.calls)) (if nat_eq z x then None else c.wait z)
      by z true same =
          let here : z ≡ x = eqb-true z x same in
          let none : waiting_at z (without x held.calls) ≡ None = ap (λ (n : ℕ). waiting_at n (without x held.calls)) here ∙ gone held.cred held.first_xid (next_xid held) x held.calls sound in
          subst (λ (o : Option (Waiting Purpose)). ShownCall setup z o (if nat_eq z x then None else c.wait z)) (sym none) (if-true (nat_eq z x) None (c.wait z) same)
      by z false apart =
          subst (λ (o : Option (Waiting Purpose)). ShownCall setup z o (if nat_eq z x then None else c.wait z)) (sym (others_taken z x held.calls apart))
          (subst (ShownCall setup z (waiting_at z held.calls)) (sym (if-false (nat_eq z x) None (c.wait z) apart)) (shown.calls z))
