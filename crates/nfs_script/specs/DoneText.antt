-- The text that ends the answers of a batch.
use Rattle.std.specs.Prelude.{ℕ, List, ◌++◌, codes, decimal}

-- the word, the number of the batch and its status, parted by single spaces, and a line feed
unfoldable pub done_text : ℕ → ℕ → List ℕ
done_text number status = codes "done " ++ decimal number ++ codes " " ++ decimal status ++ codes "\n"
