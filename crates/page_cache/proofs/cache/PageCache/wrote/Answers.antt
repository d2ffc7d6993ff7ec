use Rattle.std.proofs.Common.{◌≤◌, refl, sym, subst}
use Rattle.page_cache.specs.Bytes.{put_page}
use Rattle.page_cache.specs.Full.{states_of, full_below_of}
use Rattle.page_cache.proofs.Bytes.{page-put}
use Rattle.page_cache.proofs.Bounds.{full-below, full-written, full-dropped}
use Rattle.page_cache.proofs.Known.{known-changed, known-dropped}
use Rattle.page_cache.proofs.Changed.{changed-now}
use Rattle.page_cache.proofs.cache.PageCache.wrote.Goals as goal

pub write_file-requires : goal.write_file-requires
write_file-requires c = rw c.full_below-full_below.ensures (full-below (full_below_of c.self.inside.files) c.args.file.now c.self.inside.slots.pages c.self.invariant.0)

pub invariant_of-self : goal.invariant_of-self
invariant_of-self c = rw c.write_file.ensures (
  full-written (full_below_of c.self.inside.files) (full_below_of c.change.new.self) c.args.file.now c.full_after-full_below.result c.change.ensures.bound c.args.offset c.args.bytes.now c.self.inside.slots.pages
      (λ i low from. c.full_after-full_below.ensures.below i low (subst (λ k. k ≤ i) (sym c.full_below-full_below.ensures) from)) c.self.invariant.0,
  known-changed (states_of c.self.inside.files) (states_of c.change.new.self) c.args.file.now _ c.change.ensures.known c.in-Some-after.known refl (λ index. put_page index c.args.offset c.args.bytes.now) c.self.inside.slots.pages c.self.invariant.1,
)

pub invariant_of-self-in-None-after : goal.invariant_of-self-in-None-after
invariant_of-self-in-None-after c = rw c.drop_file.ensures (
  full-dropped (full_below_of c.self.inside.files) (full_below_of c.change-in-None-after.new.self) c.args.file.now _ c.change-in-None-after.ensures.bound c.self.inside.slots.pages c.self.invariant.0,
  known-dropped (states_of c.self.inside.files) (states_of c.change-in-None-after.new.self) c.args.file.now _ c.change-in-None-after.ensures.known c.self.inside.slots.pages c.self.invariant.1,
)

pub returns-in-None-clause-of_the_file : goal.returns-in-None-clause-of_the_file
returns-in-None-clause-of_the_file c = λ index old. page-put index c.args.offset c.args.bytes.now old

pub returns-in-Some-after-clause-of_the_file : goal.returns-in-Some-after-clause-of_the_file
returns-in-Some-after-clause-of_the_file c = λ index old. page-put index c.args.offset c.args.bytes.now old

pub returns-in-None-after-clause-of_the_file : goal.returns-in-None-after-clause-of_the_file
returns-in-None-after-clause-of_the_file c = λ index old. page-put index c.args.offset c.args.bytes.now old

pub returns-in-Some-after-clause-after : goal.returns-in-Some-after-clause-after
returns-in-Some-after-clause-after c = rw (← c.self.view_is, c.write_file.ensures)
    (changed-now c.args.file.now c.args.wcc.now (λ index. put_page index c.args.offset c.args.bytes.now) c.args.moment c.self.inside.slots.room (states_of c.self.inside.files) (states_of c.change.new.self) c.self.inside.slots.pages _
    c.in-Some.state c.in-Some-after.known c.in-Some.ensures c.in-Some-after.ensures c.change.ensures.known refl)
