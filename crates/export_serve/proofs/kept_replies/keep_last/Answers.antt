use Rattle.std.proofs.Common.{rules, arith, not, ◌==◌, ap, ◌∙◌}
use Rattle.std.proofs.lemmas.Fn.{filter_same}
use Rattle.export_serve.specs.Kept.{under_others}
use Rattle.export_serve.proofs.KeptLaws.{keeps_past, keeps_within}
use Rattle.export_serve.proofs.kept_replies.keep_last.Goals as goal

pub returns-then-len-gt-MOST-clause-ok : goal.returns-then-len-gt-MOST-clause-ok
returns-then-len-gt-MOST-clause-ok c =
    let e = filter_same _ (λ k. not (k.xid == c.args.new.xid)) _ (λ x b g k. search rules) _ _ c.retain.ensures.filtered in
    let same = e ∙ ap (under_others c.args.new.xid) c.reserve.ensures.items in
    let past = keeps_past c.args.new c.args.replies.now.items _ _ same c.push_back_reserved.ensures.items
    (omega (arith, c.if-len-gt-MOST.true, c.len.ensures, c.push_back_reserved.new.self.ok.0))
    (omega (arith, c.push_back_reserved.ensures.len, c.retain.ensures.bound, c.reserve.ensures.len, c.requires, c.push_back_reserved.new.self.ok.0, c.args.replies.now.ok.0)) in
    let popped = c.pop_front.ensures.rest ∙ past in
    search (rules, popped)

pub returns-else-len-gt-MOST-clause-ok : goal.returns-else-len-gt-MOST-clause-ok
returns-else-len-gt-MOST-clause-ok c =
    let e = filter_same _ (λ k. not (k.xid == c.args.new.xid)) _ (λ x b g k. search rules) _ _ c.retain.ensures.filtered in
    let same = e ∙ ap (under_others c.args.new.xid) c.reserve.ensures.items in
    keeps_within c.args.new c.args.replies.now.items _ _ same c.push_back_reserved.ensures.items (omega (arith, c.if-len-gt-MOST.false, c.len.ensures, c.push_back_reserved.new.self.ok.0))
