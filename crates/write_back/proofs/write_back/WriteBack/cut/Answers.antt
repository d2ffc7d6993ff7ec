use Rattle.std.proofs.Common.{sym, subst, refl, arith}
use Rattle.write_back.specs.Landing.{with_cut}
use Rattle.write_back.specs.Places.{Cuts}
use Rattle.write_back.proofs.Adding.{cuts-so}
use Rattle.write_back.proofs.ByFile.{on-tidied}
use Rattle.write_back.proofs.Replying.{IsLess}
use Rattle.write_back.proofs.Through.{less-cut, no-piece, sound-here, covers-here, fits-less, through-changed, through-holds, through-counted, stays-changed, stays-holds, stays-counted, tidied-holds}
use Rattle.write_back.proofs.Knowing.{loses-through, kept-still}
use Rattle.write_back.proofs.Totals.{total-less, stays-total}
use Rattle.write_back.proofs.write_back.WriteBack.cut.Goals as goal

pub cut-requires : goal.cut-requires
cut-requires c =
    let none = rw (← c.self.view_is) at c.requires in
    no-piece c.self.inside.files.entries c.args.file.now c.in-Some.of.now (sym c.in-Some.ensures.value) none

pub overflow_sub-self : goal.overflow_sub-self
overflow_sub-self c = rw c.pending-before.ensures.count (covers-here c.self.inside.files.entries c.args.file.now c.in-Some.of.now c.self.inside.total (sym c.in-Some.ensures.value) c.self.invariant.counted)

pub overflow_add-self : goal.overflow_add-self
overflow_add-self c =
    let none = rw (← c.self.view_is) at c.requires in
    let sound = sound-here c.self.inside.files.entries c.args.file.now c.in-Some.of.now c.self.inside.total (sym c.in-Some.ensures.value) c.self.invariant.counted in
    let less = subst (λ z. IsLess c.in-Some.of.now z) (sym c.cut.ensures.after) (less-cut c.args.size c.args.upto c.in-Some.of.now sound (no-piece c.self.inside.files.entries c.args.file.now c.in-Some.of.now (sym c.in-Some.ensures.value) none)) in
    let fits = fits-less c.self.inside.files.entries c.args.file.now c.in-Some.of.now c.self.inside.total (sym c.in-Some.ensures.value) c.self.invariant.counted c.cut.new.self less.1 in
    rw (c.pending-before.ensures.count, c.pending.ensures.count) (omega (arith, fits))

pub invariant_of-self : goal.invariant_of-self
invariant_of-self c =
    let none = rw (← c.self.view_is) at c.requires in
    let sound = sound-here c.self.inside.files.entries c.args.file.now c.in-Some.of.now c.self.inside.total (sym c.in-Some.ensures.value) c.self.invariant.counted in
    let less = subst (λ z. IsLess c.in-Some.of.now z) (sym c.cut.ensures.after) (less-cut c.args.size c.args.upto c.in-Some.of.now sound (no-piece c.self.inside.files.entries c.args.file.now c.in-Some.of.now (sym c.in-Some.ensures.value) none)) in
    record {
      counted = rw (c.pending-before.ensures.count, c.pending.ensures.count)
          (through-counted c.self.inside.files (c.get_mut.follows.lender c.cut.new.self) c.args.file.now c.in-Some.of.now c.cut.new.self (sym c.in-Some.ensures.value) (c.get_mut.follows.holds c.cut.new.self) c.self.inside.total c.self.invariant.counted less);
      aged = loses-through c.self.inside.files (c.get_mut.follows.lender c.cut.new.self) c.args.file.now c.in-Some.of.now c.cut.new.self (sym c.in-Some.ensures.value) (c.get_mut.follows.holds c.cut.new.self) c.self.inside.ages c.cut.new.ages c.self.invariant.aged c.cut.ensures.loses;
    }

pub invariant_of-self-in_default : goal.invariant_of-self-in_default
invariant_of-self-in_default c = record {
  counted = stays-counted c.self.inside.files _ c.args.file.now (sym c.in_default.ensures.value) c.get_mut.follows.holds-at-none c.self.inside.total c.self.invariant.counted;
  aged = kept-still c.self.inside.files _ c.self.inside.ages c.self.inside.ages c.get_mut.follows.holds-at-none (λ file n. refl) c.self.invariant.aged;
}

pub returns-in-Some-clause-segments : goal.returns-in-Some-clause-segments
returns-in-Some-clause-segments c =
    rw (← c.self.view_is)
    (on-tidied _ _ _ c.args.file.now _ (through-changed c.self.inside.files (c.get_mut.follows.lender c.cut.new.self) c.args.file.now c.in-Some.of.now c.cut.new.self (sym c.in-Some.ensures.value) (c.get_mut.follows.holds c.cut.new.self) (with_cut c.args.size c.args.upto) c.cut.ensures.after) c.tidy.ensures.bytes)

pub returns-in-Some-clause-places : goal.returns-in-Some-clause-places
returns-in-Some-clause-places c =
    let sound = sound-here c.self.inside.files.entries c.args.file.now c.in-Some.of.now c.self.inside.total (sym c.in-Some.ensures.value) c.self.invariant.counted in
    rw (← c.self.view_is)
    (tidied-holds _ _ _ c.args.file.now (Cuts c.args.size c.args.upto) c.tidy.ensures.bytes
    (through-holds c.self.inside.files (c.get_mut.follows.lender c.cut.new.self) c.args.file.now c.in-Some.of.now c.cut.new.self (sym c.in-Some.ensures.value) (c.get_mut.follows.holds c.cut.new.self) (Cuts c.args.size c.args.upto)
    (subst (λ z. Cuts c.args.size c.args.upto c.in-Some.of.now z) (sym c.cut.ensures.after) (cuts-so c.args.size c.args.upto c.in-Some.of.now sound.apart))))

pub returns-in_default-clause-segments : goal.returns-in_default-clause-segments
returns-in_default-clause-segments c =
    rw (← c.self.view_is) (stays-changed c.self.inside.files _ c.args.file.now (sym c.in_default.ensures.value) c.get_mut.follows.holds-at-none (with_cut c.args.size c.args.upto) refl)

pub returns-in_default-clause-places : goal.returns-in_default-clause-places
returns-in_default-clause-places c =
    rw (← c.self.view_is) (stays-holds c.self.inside.files _ c.args.file.now (sym c.in_default.ensures.value) c.get_mut.follows.holds-at-none (Cuts c.args.size c.args.upto) (record { rest = λ place. refl }))

pub returns-in-Some-clause-total : goal.returns-in-Some-clause-total
returns-in-Some-clause-total c =
    let none = rw (← c.self.view_is) at c.requires in
    let sound = sound-here c.self.inside.files.entries c.args.file.now c.in-Some.of.now c.self.inside.total (sym c.in-Some.ensures.value) c.self.invariant.counted in
    let less = subst (λ z. IsLess c.in-Some.of.now z) (sym c.cut.ensures.after) (less-cut c.args.size c.args.upto c.in-Some.of.now sound (no-piece c.self.inside.files.entries c.args.file.now c.in-Some.of.now (sym c.in-Some.ensures.value) none)) in
    let before = total-less c.self.inside.files (c.get_mut.follows.lender c.cut.new.self) c.args.file.now c.in-Some.of.now c.cut.new.self (sym c.in-Some.ensures.value) (c.get_mut.follows.holds c.cut.new.self) c.self.inside.total c.self.invariant.counted less in
    rw (← c.self.view_is) (omega (arith, before, c.tidy.ensures.total))

pub returns-in_default-clause-total : goal.returns-in_default-clause-total
returns-in_default-clause-total c = rw (← c.self.view_is) (stays-total c.self.inside.files _ c.get_mut.follows.holds-at-none)
