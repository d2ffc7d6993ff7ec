-- A reply to a WRITE says that the server has all of its bytes, or leaves them unwritten.
use Rattle.core_counts.proofs.Prelude.{◌≡◌, ◌≢◌, ◌<◌, ◌||◌, ◌==◌, ◌⊎◌, inl, inr, ℕ, Bool, true, false, List, length, Result, Ok, Err, refl, arith, nat_lt, eqb-true, ltb-true, ltb-false, Verf, Wcc, FileKept, Fault, Call, Reply, Says, write_told}
use Rattle.call_replies.specs.Says.{SpellsOne}
use Rattle.file_ops.specs.Judging.{written_by}
use Rattle.nfs_file_calls.specs.declared.call.FileCall.TheVariants as files
use Rattle.nfs_file_calls.specs.declared.owned.FileKept.TheVariants as kept
use Rattle.world_model.specs.declared.answer.Fault.TheVariants as faults
use Rattle.world_model.specs.declared.message.Call.TheVariants as calls
use Rattle.world_model.specs.declared.message.Reply.TheVariants as replies
use Rattle.claims.specs.CallCounts.{LeavesUnwritten, refused, short}
use Rattle.claims.specs.PageRules.{refuses}
use Rattle.world_model.specs.Rules.{wrong_committed, wrong_count}
use Rattle.file_ops.specs.Saves as saves

or-either : (a b : Bool) → (a || b) ≡ true → (a ≡ true) ⊎ (b ≡ true)
or-either true b is = inl refl
or-either false b is = inr is

not-zero : (n : ℕ) → 0 < n → n ≢ 0
not-zero n some none = absurd (omega (arith, some, none))

module _ (file : List ℕ) (offset how : ℕ) (bytes : List ℕ) (xid : ℕ) (rec : List ℕ) where
  abbrev the_call : Call
  the_call = calls.File (files.Write file offset how bytes)

  abbrev Told : Result Reply Fault → Type 0
  Told came = saves.HasAll (write_told how (length bytes) came) (length bytes) ⊎ LeavesUnwritten the_call xid rec

  written : (a b c : Bool) (wcc : Wcc) (count committed : ℕ) (verf : Verf) → (nat_lt committed how || nat_lt 2 committed) ≡ a → ((count == 0) || nat_lt (length bytes) count) ≡ b
      → nat_lt count (length bytes) ≡ c → SpellsOne xid the_call rec (replies.File (kept.Write wcc count committed verf))
      → saves.HasAll (written_by how (length bytes) wcc count committed verf) (length bytes) ⊎ LeavesUnwritten the_call xid rec
  written true b c wcc count committed verf is other few said =
      inr (refused (faults.Bad 3) (refuses (wrong_committed refl wcc count committed verf file offset how bytes refl said.is (by (or-either (nat_lt committed how) (nat_lt 2 committed) is)))))
    where
      by : (nat_lt committed how ≡ true) ⊎ (nat_lt 2 committed ≡ true) → (committed < how) ⊎ (2 < committed)
      by (inl low) = inl (ltb-true committed how low)
      by (inr high) = inr (ltb-true 2 committed high)
  written false true c wcc count committed verf is other few said =
      inr (refused (faults.Bad 4) (refuses (wrong_count refl wcc count committed verf file offset how bytes refl said.is (by (or-either (count == 0) (nat_lt (length bytes) count) other)))))
    where
      by : ((count == 0) ≡ true) ⊎ (nat_lt (length bytes) count ≡ true) → (count ≡ 0) ⊎ (length bytes < count)
      by (inl none) = inl (eqb-true count 0 none)
      by (inr more) = inr (ltb-true (length bytes) count more)
  written false false true wcc count committed verf is other few said =
      inr (short file offset how count committed bytes wcc verf refl said.is (ltb-true count (length bytes) few))
  written false false false wcc count committed verf is other few said = inl (rw (is, other) (ltb-false count (length bytes) few))

  of-file : (reply : FileKept) → SpellsOne xid the_call rec (replies.File reply) → Told (Ok (replies.File reply))
  of-file (kept.Write wcc count committed verf) said = written _ _ _ wcc count committed verf refl refl refl said
  of-file (kept.WriteFail status wcc) said =
      inr (refused (faults.Nfs status.0) (refuses (replies.File (kept.WriteFail status wcc), said.is, refl, not-zero status.0 said.is.is.is.failed)))
  of-file reply said = absurd (let no_way = said.is.is.answers in omega (arith, no_way))

  pub whole-or-poor : (came : Result Reply Fault) → Says xid the_call rec came → Told came
  whole-or-poor (Ok (replies.File reply)) said = of-file reply said
  whole-or-poor (Ok (replies.Dir reply)) said = absurd said.is.is
  whole-or-poor (Ok (replies.Mount reply)) said = absurd said.is.is
  whole-or-poor (Err fault) said = inr (refused fault (refuses said))
