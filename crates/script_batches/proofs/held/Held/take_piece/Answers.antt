use Rattle.std.proofs.Common.{◌≡◌, ◌+◌, ◌++◌, ℕ, List, drop, position, take, sym, ap, ◌∙◌, arith}
use Rattle.script_text.specs.Lines.{is_feed}
use Rattle.script_batches.specs.Batches.{kept_bytes}
use Rattle.script_batches.proofs.Pieces.{drop-all, takes-all, takes-feed}
use Rattle.script_batches.proofs.held.Held.take_piece.Goals as goal

pub returns-in_ok-extend_front-in-Some-clause-taken : goal.returns-in_ok-extend_front-in-Some-clause-taken
returns-in_ok-extend_front-in-Some-clause-taken c =
    let back : c.split_at.result.1.now ≡ drop c.self.inside.at c.self.inside.bytes.items = c.split_at.ensures.back ∙ ap (drop c.self.inside.at) c.as_slice.ensures.value in
    rw (← c.self.view_is)
    (takes-feed c.self.inside.bytes.items c.args.line.now.items c.extend_front.new.text.items c.self.inside.at c.in-Some.at
    (ap (position is_feed) (sym back) ∙ sym c.feed.ensures ∙ c.in-Some.is)
    (c.in_ok-extend_front-in-Some.ensures
    ∙ ap (λ (t : List ℕ). take kept_bytes (c.args.line.now.items ++ t)) (c.split_at-in-Some.ensures.front ∙ ap (take (c.in-Some.at + 1)) back)))

pub returns-in_ok-extend_front-in-None-clause-taken : goal.returns-in_ok-extend_front-in-None-clause-taken
returns-in_ok-extend_front-in-None-clause-taken c =
    let back : c.split_at.result.1.now ≡ drop c.self.inside.at c.self.inside.bytes.items = c.split_at.ensures.back ∙ ap (drop c.self.inside.at) c.as_slice.ensures.value in
    rw (← c.self.view_is)
    (takes-all c.self.inside.bytes.items c.args.line.now.items c.extend_front-in-None.new.text.items (drop c.len-self-inside.result c.self.inside.bytes.items) c.self.inside.at
    (ap (position is_feed) (sym back) ∙ sym c.feed.ensures ∙ c.in-None.is)
    (c.in_ok-extend_front-in-None.ensures ∙ ap (λ (t : List ℕ). take kept_bytes (c.args.line.now.items ++ t)) back)
    (drop-all c.self.inside.bytes.items c.len-self-inside.result (let long = c.len-self-inside.ensures in let count = c.self.inside.bytes.ok.0 in omega (arith, long, count))))
