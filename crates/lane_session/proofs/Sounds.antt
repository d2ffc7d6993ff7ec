-- The calls that wait stay sound, and all were sent where none is due.
use Rattle.std.proofs.Common.{◌≡◌, ◌≤◌, ◌<◌, ◌+◌, ℕ, List, [], ◌∷◌, Bool, true, false, Option, Some, None, refl, sym, ap, subst, ◌∙◌, arith}
use Rattle.std.specs.Prelude.{option_map}
use Rattle.std.proofs.lemmas.List.Elements.{All-cons}
use Rattle.attr_cache.specs.Attrs.{usual_lives}
use Rattle.rpc_message.specs.declared.cred.Cred.{Cred}
use Rattle.rpc_retry.specs.Held.{next_xid}
use Rattle.rpc_retry.specs.Sound.{IsSound, AreSound}
use Rattle.rpc_retry.specs.Waiting.{first_due, sent, sent_call}
use Rattle.rpc_retry.specs.declared.waiting.Waiting.{Waiting}
use Rattle.rpc_retry.proofs.Dues.{if_true, if_false, sound_next}
use Rattle.op_machines.specs.declared.machine.Machine.{Machine}
use Rattle.client_core.specs.declared.lane.Purpose.{Purpose}
use Rattle.client_core.specs.declared.setup.Setup.{Setup}
use Rattle.client_core.specs.View.{View}
use Rattle.client_core.specs.Steps.{Begins, Hears, SendsIf, SendsBy, FailsBy, WereSent}
use Rattle.core_facts.proofs.Cases.{Heard, dropped, replied, heard, sent_now, failed_now, taken_one}
use Rattle.core_facts.proofs.Sound.{Sound, sound-stays, sound-taken, sound-failed}
use Rattle.core_facts.proofs.Walks.{begins-stay, hears-for-stay}
use Rattle.lane_session.specs.Running.{dues, one_where}

-- a set-up by which the calls may have been begun
like : View → Setup
like v = record { root = []; rsize = 0; wsize = 0; first_xid = v.calls.first_xid; limit = 0; cred = v.calls.cred; lives = usual_lives; pages = v.shelf.pages }

sound-of : (v : View) → IsSound v.calls → Sound (like v) v
unfolding like
sound-of v s = record { calls = s; first = refl; cred = refl }

pub sound-begins : (old : View) (number : ℕ) (machine : Machine) (now : ℕ) (new : View) → Begins old number machine now new → IsSound old.calls → IsSound new.calls
unfolding like
sound-begins old number machine now new b s =
    (begins-stay (Sound (like old)) (sound-stays (like old)) old new number machine now (λ state shelf. record { calls = s; first = refl; cred = refl }) b).calls

pub sound-hears : (old : View) (rec : List ℕ) (b : Bool) (new : View) → Hears old rec b new → IsSound old.calls → IsSound new.calls
sound-hears old rec b new h s = by (heard old rec b new h)
  where
    by : Heard old rec new → IsSound new.calls
    by (dropped none is) = subst (λ (v : View). IsSound v.calls) (sym is) s
    by (replied xid call named waits t) =
        (hears-for-stay (Sound (like old)) (sound-stays (like old)) (taken_one old xid) new rec call.purpose t (sound-taken (like old) old xid (sound-of old s))).calls

pub sound-sends : (old : View) (result : Option (List ℕ)) (new : View) → SendsBy old result new → IsSound old.calls → IsSound new.calls
sound-sends old result new t s = by old.lost t
  where
    by : (b : Bool) → SendsIf b old result new → IsSound new.calls
    by true t = subst (λ (v : View). IsSound v.calls) (sym t.1) s
    by false t = subst (λ (v : View). IsSound v.calls) (sym t.is) (sound_next old.calls (sent old.calls.calls) s refl)

pub sound-fails : (old : View) (b : Bool) (new : View) → FailsBy old b new → IsSound old.calls → IsSound new.calls
sound-fails old b new f s = (sound-failed (like old) old new (failed_now old b new f) (sound-of old s)).calls

-- ---- what is due

none-due : (cred : Cred) (low next : ℕ) (es : List (ℕ × Waiting Purpose)) → AreSound cred low next es → first_due es ≡ None → WereSent es
none-due cred low next [] s none = λ k d lt. absurd (omega arith)
none-due cred low next (e ∷ es) s none = (elim e.1.due as (λ b. e.1.due ≡ b → WereSent (e ∷ es)) [
  | true ↦ λ d. absurd (let no_way : Some e ≡ None = sym (if_true e.1.due (Some e) (first_due es) d) ∙ none in cc)
  | false ↦ λ d. All-cons (λ (x : ℕ × Waiting Purpose). 1 ≤ x.1.attempts) e es (s.1.given d) (none-due cred (e.0 + 1) next es s.2 (sym (if_false e.1.due (Some e) (first_due es) d) ∙ none))
]) refl

-- each was sent, and none is due
abbrev AllGone : List (ℕ × Waiting Purpose) → Type 0
AllGone es = WereSent es × (first_due es ≡ None)

-- the record that was sent, or none, where the session isn't lost
pub all-sent : (old : View) (new : View) → old.lost ≡ false → SendsBy old None new → IsSound old.calls → WereSent new.calls.calls × (first_due new.calls.calls ≡ None)
all-sent old new live t s = by old.lost live t
  where
    none : (o : Option (ℕ × Waiting Purpose)) → None ≡ option_map (λ (e : ℕ × Waiting Purpose). e.1.bytes) o → o ≡ None
    none None e = refl
    none (Some x) e = absurd cc

    same : (es : List (ℕ × Waiting Purpose)) → first_due es ≡ None → sent es ≡ es
    same [] n = refl
    same (e ∷ es) n = (elim e.1.due as (λ b. e.1.due ≡ b → sent (e ∷ es) ≡ e ∷ es) [
      | true ↦ λ d. absurd (let no_way : Some e ≡ None = sym (if_true e.1.due (Some e) (first_due es) d) ∙ n in cc)
      | false ↦ λ d. if_false e.1.due ((e.0, sent_call e.1) ∷ es) (e ∷ sent es) d ∙ ap (λ (l : List (ℕ × Waiting Purpose)). e ∷ l) (same es (sym (if_false e.1.due (Some e) (first_due es) d) ∙ n))
    ]) refl

    by : (b : Bool) → b ≡ false → SendsIf b old None new → AllGone new.calls.calls
    by true e t = absurd cc
    by false e t =
        let due : first_due old.calls.calls ≡ None = none (first_due old.calls.calls) t.gives in
        subst (λ (v : View). AllGone v.calls.calls) (sym t.is)
        (subst AllGone (sym (same old.calls.calls due)) (none-due old.calls.cred old.calls.first_xid (next_xid old.calls) old.calls.calls s.each due, due))

zero-less : (m n : ℕ) → m < n → 0 + m < n
zero-less m n lt = omega (arith, lt)

-- one that was sent is due no more
fewer : (es : List (ℕ × Waiting Purpose)) (e : ℕ × Waiting Purpose) → first_due es ≡ Some e → dues (sent es) < dues es
fewer [] e due = absurd (cc)
fewer (x ∷ xs) e due = (elim x.1.due as (λ b. x.1.due ≡ b → dues (sent (x ∷ xs)) < one_where x.1.due + dues xs) [
  | true ↦ λ d. subst (λ (l : List (ℕ × Waiting Purpose)). dues l < one_where x.1.due + dues xs) (sym (if_true x.1.due ((x.0, sent_call x.1) ∷ xs) (x ∷ sent xs) d))
      (zero-less (dues xs) (one_where x.1.due + dues xs) (subst (λ (b : Bool). dues xs < one_where b + dues xs) (sym d) (omega arith)))
  | false ↦ λ d. subst (λ (l : List (ℕ × Waiting Purpose)). dues l < one_where x.1.due + dues xs) (sym (if_false x.1.due ((x.0, sent_call x.1) ∷ xs) (x ∷ sent xs) d))
      (let rest = fewer xs e (sym (if_false x.1.due (Some x) (first_due xs) d) ∙ due) in omega (arith, rest))
]) refl

pub fewer-due : (old : View) (bytes : List ℕ) (new : View) → SendsBy old (Some bytes) new → dues new.calls.calls < dues old.calls.calls
fewer-due old bytes new t =
    let n = sent_now old bytes new t in
    subst (λ (v : View). dues v.calls.calls < dues old.calls.calls) (sym n.is) (fewer old.calls.calls (n.xid, n.call) n.due)
