-- What was heard of a LOOKUP, by what its reply told.
use Rattle.std.proofs.Common.{◌≡◌, ℕ, List, Result, ap, ◌∙◌}
use Rattle.world_model.specs.declared.answer.Fault.{Fault}
use Rattle.world_model.specs.declared.message.Reply.{Reply}
use Rattle.client_shelf.specs.declared.shelf.Shelf.{Shelf}
use Rattle.client_shelf.specs.declared.turn.Turn.{Turn}
use Rattle.client_shelf.specs.Busy.{fails_busy, repeats_after}
use Rattle.name_ops.specs.Looking.{found_by, LookedAttrs, LookedNames, Hears}

pub heard-by : (dir name : List ℕ) (sent turn : Turn) (came : Result Reply Fault) (old heard : Shelf) (told : Result (List ℕ) Fault) → told ≡ found_by came
    → LookedAttrs dir sent.now came old.attrs heard.attrs → LookedNames dir name came old.names heard.names
    → heard ≡ record old { attrs = heard.attrs; names = heard.names; repeats = repeats_after (fails_busy told) sent turn old.repeats }
    → Hears dir name sent turn came old heard
heard-by dir name sent turn came old heard told is attrs names frame = record {
  attrs = attrs;
  names = names;
  others = frame ∙ ap (λ t. record old { attrs = heard.attrs; names = heard.names; repeats = repeats_after (fails_busy t) sent turn old.repeats }) is;
}
