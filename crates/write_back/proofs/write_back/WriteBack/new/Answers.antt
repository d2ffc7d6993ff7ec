use Rattle.std.proofs.Common.{[], sym, subst}
use Rattle.write_back.specs.Files.{IsCounted}
use Rattle.write_back.specs.Ages.{IsAged}
use Rattle.write_back.proofs.Counting.{counted-none}
use Rattle.write_back.proofs.WritesByFile.{aged-none}
use Rattle.write_back.proofs.write_back.WriteBack.new.Goals as goal

pub invariant_of-result : goal.invariant_of-result
invariant_of-result c = record {
  counted = subst (λ es. IsCounted es 0) (sym c.new.ensures.empty) counted-none;
  aged = subst (λ es. IsAged es c.new-2.result) (sym c.new.ensures.empty) (subst (IsAged []) (sym c.new-2.ensures) aged-none);
}
