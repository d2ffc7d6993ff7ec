use Rattle.std.proofs.Common.{ℕ, List, sym, ap, ◌∙◌, subst, arith}
use Rattle.std.specs.BTreeMap.{BTreeMap}
use Rattle.write_back.specs.Pieces.{FilePending}
use Rattle.write_back.specs.Files.{with_bytes, IsCounted}
use Rattle.write_back.specs.Ages.{pending_by, Takes, IsAged}
use Rattle.write_back.proofs.Adding.{with_added}
use Rattle.write_back.proofs.ByFile.{on-is}
use Rattle.write_back.proofs.Counting.{of-found, counted-through}
use Rattle.write_back.proofs.Limits.{most_is}
use Rattle.write_back.proofs.SendsOn.{with-some}
use Rattle.write_back.proofs.Through.{room-here, above-here, sound-here, sound-more, room-more, sound-first, through-same, through-changed, on-first, counted-first, on-err}
use Rattle.write_back.proofs.Entering.{first-undone}
use Rattle.write_back.proofs.WritesByFile.{aged-same}
use Rattle.write_back.proofs.Knowing.{fresh-here, kept-through, takes-through, takes-first}
use Rattle.write_back.proofs.WritesTold.{unknown-newest}
use Rattle.write_back.proofs.Totals.{total-more, total-first}
use Rattle.write_back.proofs.write_back.WriteBack.lay.Goals as goal

pub add-requires-clause-room : goal.add-requires-clause-room
add-requires-clause-room c =
    let room = rw (← c.self.view_is) at c.requires.room in
    room-here c.self.inside.files.entries c.args.file.now c.in-Some.of.now _ (sym c.in-Some.ensures.value) room

pub add-requires-clause-newest : goal.add-requires-clause-newest
add-requires-clause-newest c =
    let newest = rw (← c.self.view_is) at c.requires.newest in
    above-here c.args.seq c.self.inside.files.entries c.args.file.now c.in-Some.of.now (sym c.in-Some.ensures.value) newest

pub add-requires-clause-unknown : goal.add-requires-clause-unknown
add-requires-clause-unknown c =
    let newest = rw (← c.self.view_is) at c.requires.newest in
    unknown-newest c.args.seq c.self.inside.files.entries c.self.inside.ages newest c.self.invariant.aged

pub add-requires-clause-fresh : goal.add-requires-clause-fresh
add-requires-clause-fresh c =
    let newest = rw (← c.self.view_is) at c.requires.newest in
    fresh-here c.self.inside.files.entries c.args.file.now c.in-Some.of.now (sym c.in-Some.ensures.value) c.args.seq newest

pub add-requires-2-clause-unknown : goal.add-requires-2-clause-unknown
add-requires-2-clause-unknown c =
    let newest = rw (← c.self.view_is) at c.requires.newest in
    unknown-newest c.args.seq c.self.inside.files.entries c.self.inside.ages newest c.self.invariant.aged

pub add-requires-2-clause-fresh : goal.add-requires-2-clause-fresh
add-requires-2-clause-fresh c = ap (pending_by c.args.seq) c.new-of.ensures

pub invariant_of-self : goal.invariant_of-self
invariant_of-self c =
    record {
      counted = subst (λ es. IsCounted es c.self.inside.total)
          (sym (through-same c.self.inside.files (c.get_mut.follows.lender c.add.new.self) c.args.file.now c.in-Some.of.now c.add.new.self (sym c.in-Some.ensures.value) (c.get_mut.follows.holds c.add.new.self) c.in_err-add.ensures.err)) c.self.invariant.counted;
      aged = kept-through c.self.inside.files (c.get_mut.follows.lender c.add.new.self) c.args.file.now c.in-Some.of.now c.add.new.self (sym c.in-Some.ensures.value) (c.get_mut.follows.holds c.add.new.self) c.self.inside.ages c.add.new.ages c.self.invariant.aged c.in_err-add.ensures.err c.in_err-add.ensures.same;
    }

pub returns-in_err-add-clause-err : goal.returns-in_err-add-clause-err
returns-in_err-add-clause-err c =
    on-err c.from_residual.result
    (through-same c.self.inside.files (c.get_mut.follows.lender c.add.new.self) c.args.file.now c.in-Some.of.now c.add.new.self (sym c.in-Some.ensures.value) (c.get_mut.follows.holds c.add.new.self) c.in_err-add.ensures.err ∙ c.self.view_is)

pub overflow_add-self : goal.overflow_add-self
overflow_add-self c =
    let room = rw (← c.self.view_is) at c.requires.room in
    let fits = room-more c.args.offset c.args.bytes.now c.args.seq c.self.inside.total c.self.inside.files.entries c.args.file.now c.in-Some.of.now c.add.new.self (sym c.in-Some.ensures.value) c.in_ok-add.ensures.ok c.self.invariant.counted room in
    rw (c.pending-before.ensures.count, c.pending.ensures.count) (omega (arith, fits, most_is))

pub invariant_of-self-in-Some : goal.invariant_of-self-in-Some
invariant_of-self-in-Some c =
    let room = rw (← c.self.view_is) at c.requires.room in
    let newest = rw (← c.self.view_is) at c.requires.newest in
    let found = sym c.in-Some.ensures.value in
    let sound = sound-here c.self.inside.files.entries c.args.file.now c.in-Some.of.now c.self.inside.total found c.self.invariant.counted in
    record {
      counted = rw (c.pending-before.ensures.count, c.pending.ensures.count)
          (counted-through c.self.inside.files (c.get_mut.follows.lender c.add.new.self) c.args.file.now c.in-Some.of.now c.add.new.self c.self.inside.total found (c.get_mut.follows.holds c.add.new.self) c.self.invariant.counted
          (sound-more c.args.offset c.args.bytes.now c.args.seq c.self.inside.files.entries c.args.file.now c.in-Some.of.now c.add.new.self found c.in_ok-add.ensures.ok sound c.requires.some c.requires.last room newest)
          (room-more c.args.offset c.args.bytes.now c.args.seq c.self.inside.total c.self.inside.files.entries c.args.file.now c.in-Some.of.now c.add.new.self found c.in_ok-add.ensures.ok c.self.invariant.counted room));
      aged = takes-through c.self.inside.files (c.get_mut.follows.lender c.add.new.self) c.args.file.now c.in-Some.of.now c.add.new.self (sym c.in-Some.ensures.value) (c.get_mut.follows.holds c.add.new.self) c.self.inside.ages c.add.new.ages c.self.invariant.aged c.args.seq newest c.in_ok-add.ensures.takes;
    }

pub returns-in-Some-clause-ok : goal.returns-in-Some-clause-ok
returns-in-Some-clause-ok c =
    rw (← c.self.view_is)
    (through-changed c.self.inside.files (c.get_mut.follows.lender c.add.new.self) c.args.file.now c.in-Some.of.now c.add.new.self (sym c.in-Some.ensures.value) (c.get_mut.follows.holds c.add.new.self) (with_bytes c.args.offset c.args.bytes.now c.args.seq)
    (c.in_ok-add.ensures.ok ∙ sym (with-some c.args.offset c.args.bytes.now c.args.seq c.in-Some.of.now c.requires.some)))

pub invariant_of-self-in-Err : goal.invariant_of-self-in-Err
invariant_of-self-in-Err c =
    let newest = rw (← c.self.view_is) at c.requires.newest in
    let is = c.in_ok-add-2.ensures.ok ∙ ap (with_added c.args.offset c.args.bytes.now c.args.seq) c.new-of.ensures in
    let same = c.in-Err.ensures.err ∙ ap (λ (m : BTreeMap (List ℕ) FilePending). m.entries) c.get_mut.follows.holds-at-none in
    record {
      counted = subst (λ es. IsCounted es c.self.inside.total) (sym same) c.self.invariant.counted;
      aged = subst (λ es. IsAged es c.lessen.new.self) (sym same) (aged-same c.self.inside.files.entries c.self.inside.ages c.lessen.new.self c.self.invariant.aged
          (first-undone c.args.offset c.args.bytes.now c.args.seq c.pending-size.result c.args.file.now c.add-2.new.self c.self.inside.ages c.add-2.new.ages c.lessen.new.self is c.pending-size.ensures.count
          (unknown-newest c.args.seq c.self.inside.files.entries c.self.inside.ages newest c.self.invariant.aged)
          (subst (λ z. Takes c.args.seq c.args.file.now z c.add-2.new.self c.self.inside.ages c.add-2.new.ages) c.new-of.ensures c.in_ok-add-2.ensures.takes) c.lessen.ensures));
    }

pub overflow_add-self-2 : goal.overflow_add-self-2
overflow_add-self-2 c =
    let room = rw (← c.self.view_is) at c.requires.room in
    let is = c.in_ok-add-2.ensures.ok ∙ ap (with_added c.args.offset c.args.bytes.now c.args.seq) c.new-of.ensures in
    let first = sound-first c.args.offset c.args.bytes.now c.args.seq c.self.inside.total c.self.inside.files.entries c.add-2.new.self is c.self.invariant.counted c.requires.some c.requires.last room in
    rw c.pending-size.ensures.count (omega (arith, first.1, most_is))

pub invariant_of-self-2 : goal.invariant_of-self-2
invariant_of-self-2 c =
    let room = rw (← c.self.view_is) at c.requires.room in
    let newest = rw (← c.self.view_is) at c.requires.newest in
    let is = c.in_ok-add-2.ensures.ok ∙ ap (with_added c.args.offset c.args.bytes.now c.args.seq) c.new-of.ensures in
    let first = sound-first c.args.offset c.args.bytes.now c.args.seq c.self.inside.total c.self.inside.files.entries c.add-2.new.self is c.self.invariant.counted c.requires.some c.requires.last room in
    record {
      counted = rw c.pending-size.ensures.count
          (counted-first c.get_mut.follows.lender-at-none c.self.inside.files c.insert.new.self c.args.file.now c.add-2.new.self c.get_mut.follows.holds-at-none c.in_default-insert.ensures.updates c.self.inside.total (sym c.in_default.ensures.value) c.insert.ensures.was_ordered c.in_default-insert.ensures.entries c.self.invariant.counted first.0 first.1);
      aged = takes-first c.get_mut.follows.lender-at-none c.self.inside.files c.insert.new.self c.args.file.now c.add-2.new.self c.self.inside.ages c.add-2.new.ages c.args.seq (sym c.in_default.ensures.value)
          (on-first c.get_mut.follows.lender-at-none c.self.inside.files c.insert.new.self c.args.file.now c.add-2.new.self c.get_mut.follows.holds-at-none c.in_default-insert.ensures.updates) c.self.invariant.aged newest
          (subst (λ z. Takes c.args.seq c.args.file.now z c.add-2.new.self c.self.inside.ages c.add-2.new.ages) c.new-of.ensures c.in_ok-add-2.ensures.takes);
    }

pub returns-clause-ok : goal.returns-clause-ok
returns-clause-ok c =
    let is = c.in_ok-add-2.ensures.ok ∙ ap (with_added c.args.offset c.args.bytes.now c.args.seq) c.new-of.ensures in
    let none = of-found c.args.file.now c.self.inside.files.entries _ (sym c.in_default.ensures.value) in
    rw (← c.self.view_is)
    (on-is c.self.inside.files.entries c.insert.new.self.entries c.args.file.now c.add-2.new.self _ (on-first c.get_mut.follows.lender-at-none c.self.inside.files c.insert.new.self c.args.file.now c.add-2.new.self c.get_mut.follows.holds-at-none c.in_default-insert.ensures.updates)
    (is ∙ sym (with-some c.args.offset c.args.bytes.now c.args.seq _ c.requires.some) ∙ ap (with_bytes c.args.offset c.args.bytes.now c.args.seq) (sym none)))

pub returns-in-Some-clause-total : goal.returns-in-Some-clause-total
returns-in-Some-clause-total c =
    let room = rw (← c.self.view_is) at c.requires.room in
    let newest = rw (← c.self.view_is) at c.requires.newest in
    let found = sym c.in-Some.ensures.value in
    let sound = sound-here c.self.inside.files.entries c.args.file.now c.in-Some.of.now c.self.inside.total found c.self.invariant.counted in
    rw (← c.self.view_is)
    (total-more c.self.inside.files (c.get_mut.follows.lender c.add.new.self) c.args.file.now c.in-Some.of.now c.add.new.self found (c.get_mut.follows.holds c.add.new.self) c.self.inside.total c.self.invariant.counted c.args.offset c.args.bytes.now c.args.seq c.in_ok-add.ensures.ok
    (sound-more c.args.offset c.args.bytes.now c.args.seq c.self.inside.files.entries c.args.file.now c.in-Some.of.now c.add.new.self found c.in_ok-add.ensures.ok sound c.requires.some c.requires.last room newest)
    (room-more c.args.offset c.args.bytes.now c.args.seq c.self.inside.total c.self.inside.files.entries c.args.file.now c.in-Some.of.now c.add.new.self found c.in_ok-add.ensures.ok c.self.invariant.counted room))

pub returns-clause-total : goal.returns-clause-total
returns-clause-total c =
    let room = rw (← c.self.view_is) at c.requires.room in
    let is = c.in_ok-add-2.ensures.ok ∙ ap (with_added c.args.offset c.args.bytes.now c.args.seq) c.new-of.ensures in
    let first = sound-first c.args.offset c.args.bytes.now c.args.seq c.self.inside.total c.self.inside.files.entries c.add-2.new.self is c.self.invariant.counted c.requires.some c.requires.last room in
    let after = counted-first c.get_mut.follows.lender-at-none c.self.inside.files c.insert.new.self c.args.file.now c.add-2.new.self c.get_mut.follows.holds-at-none c.in_default-insert.ensures.updates c.self.inside.total (sym c.in_default.ensures.value) c.insert.ensures.was_ordered c.in_default-insert.ensures.entries c.self.invariant.counted first.0 first.1 in
    rw (← c.self.view_is) (total-first c.args.offset c.args.bytes.now c.args.seq c.self.inside.total c.self.inside.files.entries c.insert.new.self.entries c.add-2.new.self is c.self.invariant.counted after)
