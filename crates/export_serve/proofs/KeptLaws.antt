-- What is kept after one more: the last 64 of those under other xids and the new one.
use Rattle.std.proofs.Common.{arith, ◌≡◌, ◌<◌, ◌≤◌, ◌-◌, ℕ, List, [], ◌∷◌, ◌++◌, length, drop, refl, ap, subst, ◌∙◌, All, Option, Some, None, MatchOption, IfSome, Result, Ok, Err, OnOk, OnErr, sym, true, false, cond}
use Rattle.std.specs.Str.{bytes_eq}
use Rattle.std.proofs.lemmas.List.{length-drop}
use Rattle.std.proofs.lemmas.List.Elements.{All-drop, All-push, All-filter, All-head, All-tail}
use Rattle.std.proofs.lemmas.Slice.Eq.{bytes_eq-Decides}
use Rattle.export_serve.specs.declared.request.Asked.TheVariants as askings
use Rattle.export_serve.specs.Asking.{asked_at}
use Rattle.export_serve.specs.declared.kept_replies.KeptReply.{KeptReply}
use Rattle.export_serve.specs.Kept.{newest, keeps, under_others, reply_kept, IsKept, IsExecuted}

-- of 65 the oldest goes
newest_past : (list : List KeptReply) → 64 < length list → length list ≤ 65 → drop 1 list ≡ newest list
newest_past list more most = let e : length list - 64 ≡ 1 = omega (arith, more, most) in rw e refl

-- of 64 none goes
newest_within : (list : List KeptReply) → length list ≤ 64 → list ≡ newest list
newest_within list most = let e : length list - 64 ≡ 0 = omega (arith, most) in rw e refl

pub keeps_past : (new : KeptReply) (old others list : List KeptReply) → others ≡ under_others new.xid old → list ≡ others ++ new ∷ [] → 64 < length list → length list ≤ 65 → drop 1 list ≡ keeps new old
keeps_past new old others list e l more most = newest_past list more most ∙ ap newest (l ∙ ap (λ (k : List KeptReply). k ++ new ∷ []) e)

pub keeps_within : (new : KeptReply) (old others list : List KeptReply) → others ≡ under_others new.xid old → list ≡ others ++ new ∷ [] → length list ≤ 64 → list ≡ keeps new old
keeps_within new old others list e l most = newest_within list most ∙ ap newest (l ∙ ap (λ (k : List KeptReply). k ++ new ∷ []) e)

-- ---- what is kept answers calls

pub keeps_kept : (new : KeptReply) (old : List KeptReply) → IsKept new → All IsKept old → All IsKept (keeps new old)
keeps_kept new old k all =
    let others = under_others new.xid old in
    All-drop IsKept (length (others ++ new ∷ []) - 64) (others ++ new ∷ []) (All-push IsKept others new (All-filter _ IsKept old all) k)

-- a record whose reply is kept asks for a call
pub kept_executed : (rec : List ℕ) (list : List KeptReply) (reply : List ℕ) → All IsKept list → reply_kept rec list ≡ Some reply → IsExecuted rec
kept_executed rec [] reply all e = absurd cc
kept_executed rec (kept ∷ more) reply all e = elim (bytes_eq kept.call rec) as (λ b. bytes_eq kept.call rec ≡ b → cond b (Some kept.reply) (reply_kept rec more) ≡ Some reply → IsExecuted rec) [
  | true ↦ λ same f. let k = All-head IsKept kept more all in
      (kept.xid, k.0, subst (λ (r : List ℕ). asked_at r ≡ askings.Serve kept.xid k.0) ((bytes_eq-Decides kept.call rec).0 same) k.1)
  | false ↦ λ other f. kept_executed rec more reply (All-tail IsKept kept more all) f
] refl e

-- the same of what looking for it gave
pub found_executed : {X : Type 0} (bytes : X → List ℕ) (rec : List ℕ) (list : List KeptReply) (found : Option X) → All IsKept list
    → MatchOption found (reply_kept rec list ≡ None) (λ reply. reply_kept rec list ≡ Some (bytes reply)) → IfSome found (λ reply. IsExecuted rec)
found_executed bytes rec list None all e = tt
found_executed bytes rec list (Some reply) all e = kept_executed rec list (bytes reply) all e

-- at most 64
pub keeps_few : (new : KeptReply) (old : List KeptReply) → length (keeps new old) ≤ 64
keeps_few new old = let list = under_others new.xid old ++ new ∷ [] in let e = length-drop (length list - 64) list in omega (arith, e)

-- what is kept meets its rule, also when out of memory
pub kept_after : {T E : Type 0} (result : Result T E) (new : KeptReply) (old now : List KeptReply) → IsKept new → (length old ≤ 64) × All IsKept old
    → OnOk result (now ≡ keeps new old) → OnErr result (now ≡ old) → (length now ≤ 64) × All IsKept now
kept_after (Ok x) new old now k rule e same =
    (subst (λ (list : List KeptReply). length list ≤ 64) (sym e) (keeps_few new old), subst (λ (list : List KeptReply). All IsKept list) (sym e) (keeps_kept new old k rule.1))
kept_after (Err f) new old now k rule e same = subst (λ (list : List KeptReply). (length list ≤ 64) × All IsKept list) (sym same) rule
