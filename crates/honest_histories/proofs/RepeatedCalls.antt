-- A history of a client that makes one call again and again under new xids, until it may make no more, over an honest server:
-- lawful, once and fresh; and the counts of calls refuse it.
use Rattle.std.proofs.Common.{inl, inr, ◌≡◌, ◌≢◌, ◌<◌, ◌≤◌, ◌+◌, ◌^◌, ℕ, zero, suc, Bool, true, false, nat_lt, List, [], ◌∷◌, length, get_or, All, AllPairs, sum_by, Some, refl, sym, ap, subst, ◌∙◌, arith, if◌then◌else◌}
use Rattle.std.proofs.lemmas.Bool.{cases_lt, ltb-true}
use Rattle.std.proofs.lemmas.List.Elements.{All-nil, All-cons}
use Rattle.world_model.specs.declared.answer.Answer.TheVariants.{Refused}
use Rattle.world_model.specs.declared.answer.Fault.TheVariants as faults
use Rattle.world_model.specs.declared.entry.Entry.{Entry}
use Rattle.world_model.specs.declared.entry.Entry.TheVariants as entries
use Rattle.world_model.specs.declared.message.Call.{Call}
use Rattle.world_model.specs.declared.op.Op.{Op}
use Rattle.world_model.specs.declared.op.Op.TheVariants as ops
use Rattle.world_model.specs.Entries.{At}
use Rattle.world_model.specs.Fresh.{Fresh}
use Rattle.world_model.specs.Lawful.{Lawful}
use Rattle.world_model.specs.Mounts.{info_call}
use Rattle.world_model.specs.Once.{Once}
use Rattle.world_model.proofs.Places.{At-below}
use Rattle.claims.specs.Asks.{Placed}
use Rattle.claims.specs.CallCounts.{CallCounts, Asking, Carries, IsPlain}
use Rattle.claims.specs.Paths.{names_in}
use Rattle.claims.specs.Terms.{Terms}
use Rattle.honest_histories.proofs.SmallServer.{empty_server, root, info_reply, the_lookup, may_inform}
use Rattle.honest_histories.proofs.Written.{call_record, talk_info, talk_lookup}
use Rattle.honest_histories.proofs.Made.{◌⍮◌, Event, Begins, Answers, Sends, Does, Comes, Looks, entries_of, made, Right, idle, did, came, lawful, fresh, once}
use Rattle.honest_histories.proofs.Seen.{quiet, begins_outside, is_sending, first_sent}
use Rattle.honest_histories.proofs.Opened.{the_path}

-- a stat sends LOOKUP of its name under seventeen xids, though one operation of one name asks for it
abbrev pub repeats : List Event
repeats =
    Sends 1 (info_call root) ∷ Does 1 (info_call root) info_reply empty_server ∷ Comes 1 info_reply
    ∷ Looks 10 ∷ Begins 1 1 (ops.Stat the_path)
    ∷ Sends 2 the_lookup ∷ Sends 3 the_lookup ∷ Sends 4 the_lookup ∷ Sends 5 the_lookup
    ∷ Sends 6 the_lookup ∷ Sends 7 the_lookup ∷ Sends 8 the_lookup ∷ Sends 9 the_lookup
    ∷ Sends 10 the_lookup ∷ Sends 11 the_lookup ∷ Sends 12 the_lookup ∷ Sends 13 the_lookup
    ∷ Sends 14 the_lookup ∷ Sends 15 the_lookup ∷ Sends 16 the_lookup ∷ Sends 17 the_lookup
    ∷ Sends 18 the_lookup
    ∷ Answers 1 1 (Refused faults.Spent) ∷ []

repeats_right : Right empty_server repeats
repeats_right = record {
  sound = omega arith;
  fits = (
      did 0 (omega arith) refl (talk_info 1 (omega arith)) (may_inform empty_server) (idle empty_server)
      ⍮ came 1 (info_call root) (omega arith) refl (talk_info 1 (omega arith))
      ⍮ tt
      );
}

repeats_is_lawful : Lawful (made empty_server repeats)
repeats_is_lawful = lawful empty_server repeats repeats_right

repeats_is_fresh : Fresh (made empty_server repeats)
repeats_is_fresh = fresh empty_server repeats repeats_right

repeats_is_once : Once (entries_of repeats)
repeats_is_once = once repeats refl refl

-- ---- different xids

abbrev all_above : ℕ → List ℕ → Bool
all_above x [] = true
all_above x (y ∷ ys) = if nat_lt x y then all_above x ys else false

abbrev rises : List ℕ → Bool
rises [] = true
rises (x ∷ xs) = if all_above x xs then rises xs else false

split : (b c : Bool) → (if b then c else false) ≡ true → (b ≡ true) × (c ≡ true)
split true c e = (refl, e)
split false c e = absurd (cc e)

above_at : (x : ℕ) (ys : List ℕ) → all_above x ys ≡ true → (i d : ℕ) → i < length ys → x < get_or ys i d
above_at x [] all i d lt = absurd (omega (arith, lt))
above_at x (y ∷ ys) all zero d lt = ltb-true x y (split (nat_lt x y) (all_above x ys) all).0
above_at x (y ∷ ys) all (suc i) d lt = above_at x ys (split (nat_lt x y) (all_above x ys) all).1 i d (omega (arith, lt))

differ : (xs : List ℕ) → rises xs ≡ true → (i j d : ℕ) → i < j → j < length xs → get_or xs i d ≢ get_or xs j d
differ [] all i j d lt within = absurd (omega (arith, within))
differ (x ∷ xs) all i zero d lt within = absurd (omega (arith, lt))
differ (x ∷ xs) all zero (suc j) d lt within = λ e. (let above = above_at x xs (split (all_above x xs) (rises xs) all).0 j d (omega (arith, within)) in omega (arith, above, e))
differ (x ∷ xs) all (suc i) (suc j) d lt within = differ xs (split (all_above x xs) (rises xs) all).1 i j d (omega (arith, lt)) (omega (arith, within))

abbrev the_xids : List ℕ
the_xids = 2 ∷ 3 ∷ 4 ∷ 5 ∷ 6 ∷ 7 ∷ 8 ∷ 9 ∷ 10 ∷ 11 ∷ 12 ∷ 13 ∷ 14 ∷ 15 ∷ 16 ∷ 17 ∷ 18 ∷ []

abbrev IsLookup : ℕ → Type 0
IsLookup = Carries (entries_of repeats) (λ (c : Call). c ≡ the_lookup)

carry : (at xid : ℕ) → At (entries_of repeats) at (entries.Sent (call_record xid the_lookup)) → xid < 2 ^ 32 → quiet (is_sending xid) 0 at repeats ≡ true → IsLookup xid
carry at xid sent small q = record {
  at = at;
  bytes = call_record xid the_lookup;
  call = the_lookup;
  sent = first_sent repeats at xid the_lookup refl sent small q;
  spells = (talk_lookup xid small).call_is;
  is = refl;
}

all_carry : All IsLookup the_xids
all_carry =
    All-cons IsLookup 2 (3 ∷ 4 ∷ 5 ∷ 6 ∷ 7 ∷ 8 ∷ 9 ∷ 10 ∷ 11 ∷ 12 ∷ 13 ∷ 14 ∷ 15 ∷ 16 ∷ 17 ∷ 18 ∷ []) (carry 5 2 refl (omega arith) refl) (
    All-cons IsLookup 3 (4 ∷ 5 ∷ 6 ∷ 7 ∷ 8 ∷ 9 ∷ 10 ∷ 11 ∷ 12 ∷ 13 ∷ 14 ∷ 15 ∷ 16 ∷ 17 ∷ 18 ∷ []) (carry 6 3 refl (omega arith) refl) (
    All-cons IsLookup 4 (5 ∷ 6 ∷ 7 ∷ 8 ∷ 9 ∷ 10 ∷ 11 ∷ 12 ∷ 13 ∷ 14 ∷ 15 ∷ 16 ∷ 17 ∷ 18 ∷ []) (carry 7 4 refl (omega arith) refl) (
    All-cons IsLookup 5 (6 ∷ 7 ∷ 8 ∷ 9 ∷ 10 ∷ 11 ∷ 12 ∷ 13 ∷ 14 ∷ 15 ∷ 16 ∷ 17 ∷ 18 ∷ []) (carry 8 5 refl (omega arith) refl) (
    All-cons IsLookup 6 (7 ∷ 8 ∷ 9 ∷ 10 ∷ 11 ∷ 12 ∷ 13 ∷ 14 ∷ 15 ∷ 16 ∷ 17 ∷ 18 ∷ []) (carry 9 6 refl (omega arith) refl) (
    All-cons IsLookup 7 (8 ∷ 9 ∷ 10 ∷ 11 ∷ 12 ∷ 13 ∷ 14 ∷ 15 ∷ 16 ∷ 17 ∷ 18 ∷ []) (carry 10 7 refl (omega arith) refl) (
    All-cons IsLookup 8 (9 ∷ 10 ∷ 11 ∷ 12 ∷ 13 ∷ 14 ∷ 15 ∷ 16 ∷ 17 ∷ 18 ∷ []) (carry 11 8 refl (omega arith) refl) (
    All-cons IsLookup 9 (10 ∷ 11 ∷ 12 ∷ 13 ∷ 14 ∷ 15 ∷ 16 ∷ 17 ∷ 18 ∷ []) (carry 12 9 refl (omega arith) refl) (
    All-cons IsLookup 10 (11 ∷ 12 ∷ 13 ∷ 14 ∷ 15 ∷ 16 ∷ 17 ∷ 18 ∷ []) (carry 13 10 refl (omega arith) refl) (
    All-cons IsLookup 11 (12 ∷ 13 ∷ 14 ∷ 15 ∷ 16 ∷ 17 ∷ 18 ∷ []) (carry 14 11 refl (omega arith) refl) (
    All-cons IsLookup 12 (13 ∷ 14 ∷ 15 ∷ 16 ∷ 17 ∷ 18 ∷ []) (carry 15 12 refl (omega arith) refl) (
    All-cons IsLookup 13 (14 ∷ 15 ∷ 16 ∷ 17 ∷ 18 ∷ []) (carry 16 13 refl (omega arith) refl) (
    All-cons IsLookup 14 (15 ∷ 16 ∷ 17 ∷ 18 ∷ []) (carry 17 14 refl (omega arith) refl) (
    All-cons IsLookup 15 (16 ∷ 17 ∷ 18 ∷ []) (carry 18 15 refl (omega arith) refl) (
    All-cons IsLookup 16 (17 ∷ 18 ∷ []) (carry 19 16 refl (omega arith) refl) (
    All-cons IsLookup 17 (18 ∷ []) (carry 20 17 refl (omega arith) refl) (
    All-cons IsLookup 18 [] (carry 21 18 refl (omega arith) refl) (
    All-nil IsLookup)))))))))))))))))

-- ---- one operation alone asks for them

abbrev any_op : Op → Bool
any_op op = true

op_is : (a b : Op) (k l m n : ℕ) → Some (entries.Began k l a) ≡ Some (entries.Began m n b) → a ≡ b
op_is a b k l m n e = cc

one_began : (x lane line : ℕ) (op : Op) → At (entries_of repeats) x (entries.Began lane line op) → (x ≡ 4) × (ops.Stat the_path ≡ op)
one_began x lane line op at =
    let is : x ≡ 4 = there in
    (is, op_is (ops.Stat the_path) op 1 1 lane line (subst (λ (z : ℕ). At (entries_of repeats) z (entries.Began lane line op)) is at))
  where
    below_23 : x < 23
    below_23 = At-below (entries_of repeats) x (entries.Began lane line op) at

    there : x ≡ 4
    there =
        let low = begins_outside repeats any_op 5 23 refl x lane line op at refl below_23 in
        elim (cases_lt x 4) [
          | inl less ↦ (let none = begins_outside repeats any_op 0 4 refl x lane line op at refl less in absurd (omega (arith, none)))
          | inr le ↦ omega (arith, low, le)
        ]

few_names : (op : Op) → ops.Stat the_path ≡ op → names_in op ≡ 1
few_names op is = ap names_in (sym is)

abbrev names_of_op : Placed → ℕ
names_of_op o = 3 + names_in o.1

at_most_four : (terms : Terms) (asking : List Placed) → AllPairs (λ (a b : Placed). a.0 ≢ b.0) asking → All (Asking terms (entries_of repeats) the_lookup) asking → sum_by names_of_op asking ≤ 4
at_most_four terms [] apart each = omega arith
at_most_four terms (o ∷ []) apart each = let b = (each 0 o (omega arith)).began in let n = few_names o.1 (one_began o.0 b.0 b.1 o.1 b.2).1 in omega (arith, n)
at_most_four terms (o ∷ p ∷ rest) apart each =
    let a = (each 0 o (omega arith)).began in
    let b = (each 1 o (omega arith)).began in
    absurd (apart 0 1 o (omega arith) (omega arith) ((one_began o.0 a.0 a.1 o.1 a.2).0 ∙ sym (one_began p.0 b.0 b.1 p.1 b.2).0))

plain : IsPlain the_lookup
plain = record { write = λ f bytes offset how e. absurd (cc e); commit = λ f offset count e. absurd (cc e); list = λ d cookie dircount maxcount verf e. absurd (cc e); mount = λ path e. absurd (cc e); info = λ root_ e. absurd (cc e) }

may_not_repeat : (terms : Terms) (script : List Entry) → CallCounts terms script (entries_of repeats) → ⊥
may_not_repeat terms script counts =
    let few = counts.equal the_lookup plain in
    let most = few.few the_xids (differ the_xids refl) all_carry in
    let names = at_most_four terms few.asking few.operations.different few.operations.each in
    omega (arith, most, names)
