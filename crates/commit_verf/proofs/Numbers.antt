-- For callers: a decision takes in no number.
use Rattle.std.proofs.Common.{ℕ, List}
use Rattle.nfs_types.specs.declared.verf.Verf.{Verf}
use Rattle.write_back.specs.declared.change.Change.TheVariants as by
use Rattle.write_back.specs.Files.{Pending, of_file, OnFile}
use Rattle.write_back.specs.Numbers.{AllUpTo}
use Rattle.write_back.proofs.Numbers.{on-kept, segments-all-changed}
use Rattle.commit_verf.specs.Decisions.{decided}

pub upto-decided : (n upto : ℕ) (verf : Verf) (old new : Pending) (file : List ℕ) → OnFile old new file (decided upto verf (of_file file old)) → AllUpTo n old → AllUpTo n new
upto-decided n upto verf old new file on h =
    on-kept n old new file _ on h (record { segments = segments-all-changed n (by.MarkAgain upto) _ (segments-all-changed n (by.Settle verf upto) _ (h file).segments); pieces = (h file).pieces })
