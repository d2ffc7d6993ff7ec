use Rattle.std.proofs.Common.{sym, ap, ◌∙◌, subst, refl, arith}
use Rattle.write_back.specs.Changes.{count_all_changed}
use Rattle.write_back.specs.Landing.{with_change}
use Rattle.write_back.specs.Places.{ChangesAll}
use Rattle.write_back.specs.Pieces.{FilePending}
use Rattle.write_back.proofs.Counting.{of-found}
use Rattle.write_back.proofs.Marking.{changes-held}
use Rattle.write_back.proofs.Replying.{IsLess}
use Rattle.write_back.proofs.Through.{less-held, sound-here, covers-here, fits-less, through-changed, through-holds, through-counted, stays-changed, stays-holds, stays-counted}
use Rattle.write_back.proofs.Knowing.{loses-through, kept-still}
use Rattle.write_back.proofs.Totals.{total-less, stays-total}
use Rattle.write_back.proofs.write_back.WriteBack.change.Goals as goal

pub invariant_of-self : goal.invariant_of-self
invariant_of-self c = record {
  counted = stays-counted c.self.inside.files _ c.args.file.now (sym c.in_default.ensures.value) c.get_mut.follows.holds-at-none c.self.inside.total c.self.invariant.counted;
  aged = kept-still c.self.inside.files _ c.self.inside.ages c.self.inside.ages c.get_mut.follows.holds-at-none (λ file n. refl) c.self.invariant.aged;
}

pub returns-in_default-clause-segments : goal.returns-in_default-clause-segments
returns-in_default-clause-segments c =
    rw (← c.self.view_is) (stays-changed c.self.inside.files _ c.args.file.now (sym c.in_default.ensures.value) c.get_mut.follows.holds-at-none (with_change c.args.change) refl)

pub returns-in_default-clause-places : goal.returns-in_default-clause-places
returns-in_default-clause-places c =
    rw (← c.self.view_is) (stays-holds c.self.inside.files _ c.args.file.now (sym c.in_default.ensures.value) c.get_mut.follows.holds-at-none (ChangesAll c.args.change) (record { rest = λ place. refl; fly = λ place. refl }))

pub returns-in_default-clause-count : goal.returns-in_default-clause-count
returns-in_default-clause-count c =
    rw (← c.self.view_is) (sym (ap (λ (z : FilePending). count_all_changed c.args.change z.segments) (of-found c.args.file.now c.self.inside.files.entries _ (sym c.in_default.ensures.value))))

pub overflow_sub-self : goal.overflow_sub-self
overflow_sub-self c = rw c.pending-before.ensures.count (covers-here c.self.inside.files.entries c.args.file.now c.in-Some.of.now c.self.inside.total (sym c.in-Some.ensures.value) c.self.invariant.counted)

pub overflow_add-self : goal.overflow_add-self
overflow_add-self c =
    let sound = sound-here c.self.inside.files.entries c.args.file.now c.in-Some.of.now c.self.inside.total (sym c.in-Some.ensures.value) c.self.invariant.counted in
    let less = subst (λ z. IsLess c.in-Some.of.now z) (sym c.change-count.ensures.after) (less-held c.args.change c.requires c.in-Some.of.now sound) in
    let fits = fits-less c.self.inside.files.entries c.args.file.now c.in-Some.of.now c.self.inside.total (sym c.in-Some.ensures.value) c.self.invariant.counted c.change-count.new.self less.1 in
    rw (c.pending-before.ensures.count, c.pending.ensures.count) (omega (arith, fits))

pub invariant_of-self-2 : goal.invariant_of-self-2
invariant_of-self-2 c =
    let sound = sound-here c.self.inside.files.entries c.args.file.now c.in-Some.of.now c.self.inside.total (sym c.in-Some.ensures.value) c.self.invariant.counted in
    let less = subst (λ z. IsLess c.in-Some.of.now z) (sym c.change-count.ensures.after) (less-held c.args.change c.requires c.in-Some.of.now sound) in
    record {
      counted = rw (c.pending-before.ensures.count, c.pending.ensures.count)
          (through-counted c.self.inside.files (c.get_mut.follows.lender c.change-count.new.self) c.args.file.now c.in-Some.of.now c.change-count.new.self (sym c.in-Some.ensures.value) (c.get_mut.follows.holds c.change-count.new.self) c.self.inside.total c.self.invariant.counted less);
      aged = loses-through c.self.inside.files (c.get_mut.follows.lender c.change-count.new.self) c.args.file.now c.in-Some.of.now c.change-count.new.self (sym c.in-Some.ensures.value) (c.get_mut.follows.holds c.change-count.new.self) c.self.inside.ages c.change-count.new.ages c.self.invariant.aged c.change-count.ensures.loses;
    }

pub returns-clause-segments : goal.returns-clause-segments
returns-clause-segments c =
    rw (← c.self.view_is)
    (through-changed c.self.inside.files (c.get_mut.follows.lender c.change-count.new.self) c.args.file.now c.in-Some.of.now c.change-count.new.self (sym c.in-Some.ensures.value) (c.get_mut.follows.holds c.change-count.new.self) (with_change c.args.change) c.change-count.ensures.after)

pub returns-clause-places : goal.returns-clause-places
returns-clause-places c =
    let sound = sound-here c.self.inside.files.entries c.args.file.now c.in-Some.of.now c.self.inside.total (sym c.in-Some.ensures.value) c.self.invariant.counted in
    rw (← c.self.view_is)
    (through-holds c.self.inside.files (c.get_mut.follows.lender c.change-count.new.self) c.args.file.now c.in-Some.of.now c.change-count.new.self (sym c.in-Some.ensures.value) (c.get_mut.follows.holds c.change-count.new.self) (ChangesAll c.args.change)
    (subst (λ z. ChangesAll c.args.change c.in-Some.of.now z) (sym c.change-count.ensures.after) (changes-held c.args.change c.requires c.in-Some.of.now sound.apart)))

pub returns-clause-count : goal.returns-clause-count
returns-clause-count c =
    rw (← c.self.view_is) (c.change-count.ensures.count ∙ ap (λ (z : FilePending). count_all_changed c.args.change z.segments) (sym (of-found c.args.file.now c.self.inside.files.entries _ (sym c.in-Some.ensures.value))))

pub returns-clause-total : goal.returns-clause-total
returns-clause-total c =
    let sound = sound-here c.self.inside.files.entries c.args.file.now c.in-Some.of.now c.self.inside.total (sym c.in-Some.ensures.value) c.self.invariant.counted in
    let less = subst (λ z. IsLess c.in-Some.of.now z) (sym c.change-count.ensures.after) (less-held c.args.change c.requires c.in-Some.of.now sound) in
    rw (← c.self.view_is) (total-less c.self.inside.files (c.get_mut.follows.lender c.change-count.new.self) c.args.file.now c.in-Some.of.now c.change-count.new.self (sym c.in-Some.ensures.value) (c.get_mut.follows.holds c.change-count.new.self) c.self.inside.total c.self.invariant.counted less)

pub returns-in_default-clause-total : goal.returns-in_default-clause-total
returns-in_default-clause-total c = rw (← c.self.view_is) (stays-total c.self.inside.files _ c.get_mut.follows.holds-at-none)
