-- The order of the calls that wait, when one is made.
use Rattle.std.proofs.Common.{◌≡◌, ◌+◌, ◌<◌, ◌≤◌, ◌≢◌, ℕ, List, [], ◌∷◌, ◌++◌, length, length-append, Ok, nat_eq, refl, sym, ap, subst, ◌∙◌, arith}
use Rattle.std.proofs.lemmas.Bool.{ne_eqb}
use Rattle.indexmap.specs.IndexMap.{insert_entry}
use Rattle.rpc_message.specs.declared.cred.Cred.{Cred}
use Rattle.rpc_retry.specs.declared.waiting.Waiting.{Waiting}
use Rattle.rpc_retry.specs.Held.{Held, next_xid}
use Rattle.rpc_retry.specs.Put.{check_of}
use Rattle.rpc_retry.specs.Sound.{IsRecord, IsSoundCall, AreSound, IsSound}
use Rattle.rpc_retry.specs.Waiting.{made_call}

module _ {P : Type 0} where
  pub bounds : (cred : Cred) (low next : ℕ) (calls : List (ℕ × Waiting P)) → AreSound cred low next calls → low ≤ next
  bounds cred low next [] s = s
  bounds cred low next (e ∷ es) s = let rest : e.0 + 1 ≤ next = bounds cred (e.0 + 1) next es s.2 in let from : low ≤ e.0 = s.0 in omega arith

  pub made_is_sound : (cred : Cred) (xid : ℕ) (bytes : List ℕ) (purpose : P) → IsRecord cred xid bytes → IsSoundCall cred xid (made_call bytes purpose)
  made_is_sound cred xid bytes purpose r = record { spelled = r; tried = omega arith; again = λ e. omega arith; idle = λ e. refl; given = λ e. absurd (cc) }

  -- a call that is made goes last
  pub sound_made : (cred : Cred) (low next : ℕ) (calls : List (ℕ × Waiting P)) (w : Waiting P) → AreSound cred low next calls → IsSoundCall cred next w → AreSound cred low (next + 1) (calls ++ (next, w) ∷ [])
  sound_made cred low next [] w s t = (s, t, omega arith)
  sound_made cred low next (e ∷ es) w s t = (s.0, s.1, sound_made cred (e.0 + 1) next es w s.2 t)

  pub last_made : (cred : Cred) (low next : ℕ) (calls : List (ℕ × Waiting P)) (w : Waiting P) → AreSound cred low next calls → insert_entry nat_eq calls next w ≡ calls ++ (next, w) ∷ []
  last_made cred low next [] w s = refl
  last_made cred low next (e ∷ es) w s =
      let rest : e.0 + 1 ≤ next = bounds cred (e.0 + 1) next es s.2 in
      let other : next ≢ e.0 = omega arith in
      rw (ne_eqb next e.0 other) (ap (λ l. e ∷ l) (last_made cred (e.0 + 1) next es w s.2))

  -- the new call stands last among those that were kept
  pub put_calls : (old : Held P) (inside : List (ℕ × Waiting P)) (new : List (ℕ × Waiting P)) (xid : ℕ) (w made : Waiting P)
      → AreSound old.cred old.first_xid (next_xid old) old.calls → inside ≡ old.calls → new ≡ insert_entry nat_eq inside xid w → xid ≡ next_xid old → w ≡ made
      → new ≡ old.calls ++ (next_xid old, made) ∷ []
  put_calls old inside new xid w made s i n x m =
      n ∙ ap (λ l. insert_entry nat_eq l xid w) i ∙ ap (λ k. insert_entry nat_eq old.calls k w) x ∙ ap (λ v. insert_entry nat_eq old.calls (next_xid old) v) m ∙ last_made old.cred old.first_xid (next_xid old) old.calls made s

  -- a call may be made only before the limit, and while fewer than 32 wait
  pub may_put : (h : Held P) → IsSound h → check_of h ≡ Ok tt → (h.made < h.limit) × (length h.calls < 32)
  may_put h s e = grind arith

  pub sound_put : (old : Held P) (new : List (ℕ × Waiting P)) (bytes : List ℕ) (purpose : P) → IsRecord old.cred (next_xid old) bytes → IsSound old → check_of old ≡ Ok tt
      → new ≡ old.calls ++ (next_xid old, made_call bytes purpose) ∷ [] → IsSound (record old { made = old.made + 1; calls = new })
  sound_put old new bytes purpose r s may is =
      let room = may_put old s may in
      let below : old.made < old.limit = room.0 in
      let few : length old.calls < 32 = room.1 in
      let more : length new ≡ length old.calls + 1 = ap length is ∙ length-append old.calls _ in
      let next : next_xid old + 1 ≡ old.first_xid + (old.made + 1) = omega arith in
      let ordered : AreSound old.cred old.first_xid (next_xid old + 1) new = subst (AreSound old.cred old.first_xid (next_xid old + 1)) (sym is) (sound_made old.cred old.first_xid (next_xid old) old.calls _ s.each (made_is_sound old.cred (next_xid old) bytes purpose r)) in
      record { first = s.first; last = s.last; within = omega arith; few = omega arith; each = subst (λ n. AreSound old.cred old.first_xid n new) next ordered }

  -- other calls wait, as sound and no more
  pub sound_with : (old : Held P) (new : List (ℕ × Waiting P)) → IsSound old → AreSound old.cred old.first_xid (next_xid old) new → length new ≤ length old.calls → IsSound (record old { calls = new })
  sound_with old new s each fewer =
      let few : length old.calls ≤ 32 = s.few in
      record { first = s.first; last = s.last; within = s.within; few = omega arith; each = each }

  -- the same of the fields as they are kept
  pub sound_inside : (inside now : Held P) (new : List (ℕ × Waiting P)) (bytes : List ℕ) (purpose : P) → inside ≡ now → IsRecord now.cred (next_xid now) bytes → IsSound inside → check_of now ≡ Ok tt
      → new ≡ now.calls ++ (next_xid now, made_call bytes purpose) ∷ [] → IsSound (record inside { made = inside.made + 1; calls = new })
  sound_inside inside now new bytes purpose v r s may is =
      let after : Held P → Type 0 = λ h. IsSound (record h { made = h.made + 1; calls = new }) in
      subst after (sym v) (sound_put now new bytes purpose r (subst IsSound v s) may is)
