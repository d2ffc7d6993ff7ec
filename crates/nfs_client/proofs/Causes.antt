-- What a session shows is that it is caused, in the words of the model.
use Rattle.std.proofs.Common.{◌≡◌, ◌⊎◌, inl, ℕ, List}
use Rattle.page_cache.specs.Pages.{Pages}
use Rattle.world_model.specs.declared.answer.Answer.TheVariants.{Refused}
use Rattle.world_model.specs.declared.answer.Fault.TheVariants as faults
use Rattle.world_model.specs.declared.entry.Entry.{Entry}
use Rattle.world_model.specs.declared.op.Op.{Op}
use Rattle.claims.specs.CallCounts.{CallCounts}
use Rattle.claims.specs.CallsAsked.{CallsAsked}
use Rattle.claims.specs.Caused.{Caused, calls_in}
use Rattle.world_model.specs.Operations.{Ended}
use Rattle.claims.specs.Terms.{Terms}
use Rattle.lane_session.specs.Bonds.{StaysLost}
use Rattle.nfs_client.specs.Shown.{AllRowed, OksShown, SlotsShown}

-- at this status an operation is refused for want of calls only where all were made
abbrev pub AllSpent : Terms → ℕ → List Entry → Type 0
AllSpent terms status h = (lane x y : ℕ) (op : Op) → (status ≡ 0) ⊎ (status ≡ 1) → Ended h lane x op y (Refused faults.Spent) → calls_in h ≡ terms.calls

module _ (pages : Pages) (terms : Terms) (script : List Entry) (status : ℕ) (h : List Entry) where
  pub all-caused : CallsAsked terms h → CallCounts terms script h → OksShown terms h → AllRowed terms h → SlotsShown pages terms h → StaysLost h → AllSpent terms status h
      → Caused terms script status h
  all-caused calls counts oks rows slots stays spent = record {
    calls = calls;
    counts = counts;
    ok = oks;
    refused = rows;
    slot = λ lane x y op answer ended tried none. (slots.places lane x y op answer ended tried).slot none;
    mode = λ lane x y op answer ended tried none. (slots.places lane x y op answer ended tried).mode none;
    lost = λ lane x y other w z op later answer ended next after. inl (stays y z lane ended.line other next.line answer ended.answered next.answered after);
    spent = spent;
  }
