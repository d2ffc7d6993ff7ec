-- Whether no record came between two places of a beginning, by the records that came in the history.
use Rattle.std.proofs.Common.{◌≡◌, ◌<◌, ◌≤◌, inl, inr, ℕ, true, false, true≢false, List, ◌++◌, length, refl, sym, ◌∙◌, arith}
use Rattle.std.specs.Prelude.{Decides, nat_lt}
use Rattle.std.specs.List.{list_any}
use Rattle.std.proofs.lemmas.Bool.{cases_Bool, ltb-true, lt-ltb, and_parts, and_from, not-true}
use Rattle.world_model.specs.declared.entry.Entry.{Entry}
use Rattle.world_model.specs.declared.entry.Entry.TheVariants.{Delivered}
use Rattle.world_model.specs.Operations.{NoneCame}
use Rattle.world_model.proofs.Places.{At-grow, At-back, At-below}
use Rattle.trace_claims.specs.Coming.{came_between, none_came, HasCame}
use Rattle.trace_claims.proofs.Owning.{any-there, any-found}

pub none-came-decides : (b more : List Entry) (rs : List ℕ) → HasCame (b ++ more) (length (b ++ more)) rs → (j k : ℕ) → k ≤ length b → Decides (none_came rs j k) (NoneCame b j k)
none-came-decides b more rs has j k within = (told, shown)
  where
    told : none_came rs j k ≡ true → NoneCame b j k
    told t n bytes at after before =
        let grown = At-grow b more n (Delivered bytes) at in
        let it = has.every n bytes grown (At-below (b ++ more) n (Delivered bytes) grown) in
        true≢false (sym (any-there (came_between j k) rs it.0 n it.1 (and_from (nat_lt j n) (nat_lt n k) (lt-ltb j n after) (lt-ltb n k before))) ∙ not-true (list_any (came_between j k) rs) t)

    shown : NoneCame b j k → none_came rs j k ≡ true
    shown none = elim (cases_Bool (list_any (came_between j k) rs)) [
      | inl t ↦
          let it = any-found (came_between j k) rs t in
          let parts = and_parts (nat_lt j it.1) (nat_lt it.1 k) it.3 in
          let came = has.each it.0 it.1 it.2 in
          let before : it.1 < k = ltb-true it.1 k parts.1 in
          absurd (none it.1 came.0 (At-back b more it.1 (Delivered came.0) came.1 (omega (arith, before, within))) (ltb-true j it.1 parts.0) before)
      | inr f ↦ (rw f refl)
    ]
