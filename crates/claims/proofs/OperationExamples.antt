-- Worked examples of operations: what a slot holds, what touches a byte, what is stable, pending, current and recent.
use Rattle.std.proofs.Common.{ℕ, zero, suc, ◌≡◌, ◌<◌, ◌+◌, List, [], ◌∷◌, length, None, refl, ap, arith}
use Rattle.nfs_file_calls.specs.declared.call.FileCall.TheVariants as files
use Rattle.nfs_file_calls.specs.declared.owned.FileKept.TheVariants as file_replies
use Rattle.world_model.specs.declared.answer.Answer.{Answer}
use Rattle.world_model.specs.declared.answer.Answer.TheVariants.{Refused}
use Rattle.world_model.specs.declared.answer.Fault.{Fault}
use Rattle.world_model.specs.declared.entry.Entry.{Entry}
use Rattle.world_model.specs.declared.entry.Entry.TheVariants as entries
use Rattle.world_model.specs.declared.message.Call.TheVariants as calls
use Rattle.world_model.specs.declared.message.Reply.{Reply}
use Rattle.world_model.specs.declared.message.Reply.TheVariants as replies
use Rattle.world_model.specs.declared.op.Op.TheVariants as ops
use Rattle.world_model.specs.Entries.{At}
use Rattle.world_model.specs.History.{History}
use Rattle.claims.specs.Modes.{Modes, usual_modes}
use Rattle.world_model.specs.Mounts.{Origin}
use Rattle.world_model.specs.Server.{Server}
use Rattle.world_model.specs.Operations.{Ended, EndsAt, unanswered, AnsweredBefore}
use Rattle.claims.specs.Slots.{InSlot}
use Rattle.claims.specs.Touched.{ChangesPlace, writes, sizes, makes, Touched, foreign, write}
use Rattle.claims.specs.Settled.{HoldsStable}
use Rattle.claims.specs.Pending.{Pending}
use Rattle.claims.specs.Recent.{Recent, during, kept}
use Rattle.world_model.proofs.ServiceExamples.{file, server}

-- ---- slots

-- a slot holds nothing once its close was answered, whatever the answer
closed_holds_nothing : (m : Modes) (h : List Entry) (n lane slot x c k : ℕ) (f : List ℕ) (answer : Answer) (s : InSlot m h n lane slot x f) → Ended h lane c (ops.Close slot) k answer → s.y < k → k < n → ⊥
closed_holds_nothing m h n lane slot x c k f answer s ended after before = s.kept c k answer ended after before

-- an operation that was begun and not answered ends with the history
ends_with_history : EndsAt (entries.Began 1 1 (ops.Sync 1) ∷ []) 0 1
ends_with_history = unanswered never refl
  where
    never : AnsweredBefore (entries.Began 1 1 (ops.Sync 1) ∷ []) 0 1 → ⊥
    never a = omega (arith, a.ended.later, a.before)

-- ---- what another client changes

abbrev wrote_one : ℕ → Entry
wrote_one count = entries.Foreign (calls.File (files.Write [] 0 0 (97 ∷ 98 ∷ []))) (replies.File (file_replies.Write (record { before = None; after = None }) count 0 (record { 0 = [] })))

-- a place past the bytes of a WRITE isn't changed
past_the_bytes : (s : Server) (f bytes : List ℕ) (reply : Reply) → ChangesPlace s f (length bytes) (calls.File (files.Write f 0 0 bytes)) reply → ⊥
past_the_bytes s f bytes reply (writes offset how b is low high) =
    let o : 0 ≡ offset = cc is in
    let c : bytes ≡ b = cc is in
    let l : length bytes ≡ length b = ap length c in
    omega (arith, o, l, high)
past_the_bytes s f bytes reply (sizes set size guard w is answered sized low) = absurd (cc is)
past_the_bytes s f bytes reply (makes d name set size made attr w is answered named sized low) = absurd (cc is)

-- a place of it is, also past those that it counted
abbrev after_a_failure : Server → History
after_a_failure s = record { entries = entries.Failed ∷ wrote_one 1 ∷ []; at = λ n. s }

touches_the_second : (m : Modes) (origin : Origin) (s : Server) → Touched m origin (after_a_failure s) 0 2 [] 1
touches_the_second m origin s = foreign 1 _ _ (omega arith) (omega arith) refl (writes 0 0 _ refl (omega arith) (omega arith))

-- ---- stable and pending

-- bytes that a restart would lose aren't stable
not_yet_stable : HoldsStable (server (file (97 ∷ []) [] 2)) [] 0 97 → ⊥
not_yet_stable h = absurd (cc (h.has.is, h.has.holds, h.steady))

-- what a refused write would have written isn't pending
refused_isnt_pending : (m : Modes) (origin : Origin) (h : List Entry) (f : List ℕ) (i n v : ℕ) (p : Pending m origin h f i n v) (lane slot offset y : ℕ) (bytes : List ℕ) (fault : Fault) → Ended h lane p.w (ops.Write slot offset bytes) y (Refused fault) → ⊥
refused_isnt_pending m origin h f i n v p lane slot offset y bytes fault ended = p.unrefused (write lane slot offset y bytes fault ended)

-- ---- the clock

abbrev a_minute : List Entry
a_minute = entries.Clock 0 ∷ entries.Clock 60000 ∷ entries.Began 1 1 (ops.Sync 1) ∷ []

-- what was so a whole minute before an operation isn't recent for it
a_minute_is_long : Recent usual_modes a_minute 2 1 → ⊥
a_minute_is_long (during end none ends within) = absurd (cc none)
a_minute_is_long (kept end some ends soon r) = only r.at r.ms r.before r.read (r.young 1 60000 refl (omega arith))
  where
    only : (at ms : ℕ) → at < 1 → At a_minute at (entries.Clock ms) → 60000 < ms + 60000 → ⊥
    only zero ms before read young = let z : 0 ≡ ms = cc read in omega (arith, z, young)
    only (suc at) ms before read young = omega (arith, before)
