use Rattle.std.proofs.Common.{sym, ap, ◌∙◌, ℕ}
use Rattle.std.specs.Option.{option_map}
use Rattle.write_back.specs.Choice.{may_go}
use Rattle.write_back.specs.Segments.{Segment}
use Rattle.write_back.specs.Walk.{first_that}
use Rattle.write_back.proofs.Keeping.{none-go}
use Rattle.write_back.proofs.Opening.{map-none, kept-first-at}
use Rattle.write_back.proofs.Passed.{go-upto, passed-first, upto-any}
use Rattle.write_back.proofs.PastAll.{kept-past}
use Rattle.write_back.proofs.file_bytes.FileBytes.first_to_go.Goals as goal

pub returns-in_default-clause-told : goal.returns-in_default-clause-told
returns-in_default-clause-told c =
    let none = map-none (λ (e : ℕ × Segment). e.0) _ (sym c.in_default.ensures) in
    rw (← c.self.view_is) (sym (ap (option_map (λ (e : ℕ × Segment). e.0)) (none-go c.self.inside.sent.items c.args.upto c.self.inside.resume c.self.inside.spans c.self.invariant.kept.sound.apart c.self.invariant.kept.none none)))

pub invariant_of-self : goal.invariant_of-self
invariant_of-self c =
    let kept = kept-past _ _ _ _ c.self.invariant.kept (sym c.in_default.ensures) in
    record { kept = kept; none = upto-any _ _ _ kept.none }

pub invariant_of-self-2 : goal.invariant_of-self-2
invariant_of-self-2 c =
    let kept = kept-first-at _ _ _ _ c.self.invariant.kept (sym c.in-Some.ensures) in
    record {
      kept = kept;
      none = passed-first c.args.upto c.self.inside.passed_upto c.self.inside.passed _ c.self.inside.spans _ _ c.self.invariant.kept.sound.apart c.self.invariant.none kept.none c.passed_before-from.ensures c.first_waiting-self-inside.ensures;
    }

pub returns-clause-told : goal.returns-clause-told
returns-clause-told c =
    let kept = kept-first-at _ _ _ _ c.self.invariant.kept (sym c.in-Some.ensures) in
    let none = passed-first c.args.upto c.self.inside.passed_upto c.self.inside.passed _ c.self.inside.spans _ _ c.self.invariant.kept.sound.apart c.self.invariant.none kept.none c.passed_before-from.ensures c.first_waiting-self-inside.ensures in
    rw (← c.self.view_is) (c.first_to_go.ensures.told ∙ ap (λ z. option_map (λ (e : ℕ × Segment). e.0) (first_that (may_go z c.args.upto) c.first_waiting-self-inside.result c.self.inside.spans)) c.deref.ensures.value ∙ ap (option_map (λ (e : ℕ × Segment). e.0)) (sym (go-upto c.self.inside.sent.items c.args.upto _ c.self.inside.spans none)))
