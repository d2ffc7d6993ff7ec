use Rattle.std.proofs.Common.{◌-◌, true, false, [], ◌∷◌, length, sym, ap, ◌∙◌, arith}
use Rattle.write_back.specs.Choice.{run_from, gathered, with_run}
use Rattle.write_back.specs.Pieces.{Sent, end_of_sent}
use Rattle.write_back.specs.Segments.{head_of}
use Rattle.write_back.specs.Walk.{from_key}
use Rattle.write_back.proofs.Sizes.{at-size}
use Rattle.write_back.proofs.Searching.{run-absent}
use Rattle.write_back.proofs.Gathering.{goes-told, gather-start, gather-stop, gather-held, gather-step}
use Rattle.write_back.proofs.walks.gather.Goals as goal

pub loop-segment-init : goal.loop-segment-init
loop-segment-init c = record {
  fits = omega (arith, ap (λ (p : Sent). length p.bytes) c.new-piece.ensures);
  goes = gather-start c.args.sent.now c.args.upto c.how_at-how.result c.args.room c.args.xid c.args.first c.args.map.now c.new-piece.result c.new-piece.ensures;
}

pub goes_on-requires : goal.goes_on-requires
goes_on-requires c =
    let size = at-size (end_of_sent c.loop-segment.piece) 0 c.args.map.now c.in-Some.segment.now c.requires.apart (sym (rw (c.end.ensures) at c.in-Some.ensures)) in
    omega (arith, size.1, c.end-in-Some.ensures)

pub returns-then-not-goes_on : goal.returns-then-not-goes_on
returns-then-not-goes_on c =
    let found = sym (rw (c.end.ensures) at c.in-Some.ensures) in
    let stops = goes-told c.args.sent.now c.args.upto c.how_at-how.result c.args.room c.end-in-Some.result c.bytes.result.now c.in-Some.segment.now c.loop-segment.piece c.goes_on.result false c.goes_on.ensures c.end-in-Some.ensures c.bytes.ensures c.if-not-goes_on.true in
    gather-held c.args.sent.now c.args.upto c.how_at-how.result c.args.room c.args.map.now c.in-Some.segment.now c.loop-segment.piece c.requires.apart found stops
    ∙ c.loop-segment.invariant.goes
    ∙ ap (λ h. gathered c.args.xid c.args.first (run_from c.args.sent.now c.args.upto h c.args.first c.args.room (from_key c.args.first c.args.map.now)) h) c.how_at-how.ensures

pub loop-segment-smaller : goal.loop-segment-smaller
loop-segment-smaller c =
    let found = sym (rw (c.end.ensures) at c.in-Some.ensures) in
    let goes = goes-told c.args.sent.now c.args.upto c.how_at-how.result c.args.room c.end-in-Some.result c.bytes.result.now c.in-Some.segment.now c.loop-segment.piece c.goes_on.result true c.goes_on.ensures c.end-in-Some.ensures c.bytes.ensures c.if-not-goes_on.false in
    let taken = c.in_ok-take_from.ensures ∙ ap (λ bytes. with_run c.loop-segment.piece ((end_of_sent c.loop-segment.piece, head_of (c.args.room - length bytes) c.in-Some.segment.now) ∷ [])) c.bytes.ensures in
    (gather-step c.args.sent.now c.args.upto c.how_at-how.result c.args.room c.args.map.now c.in-Some.segment.now c.loop-segment.piece c.take_from.new.piece c.requires.apart found goes c.loop-segment.invariant.fits taken).less

pub loop-segment-preserved : goal.loop-segment-preserved
loop-segment-preserved c =
    let found = sym (rw (c.end.ensures) at c.in-Some.ensures) in
    let goes = goes-told c.args.sent.now c.args.upto c.how_at-how.result c.args.room c.end-in-Some.result c.bytes.result.now c.in-Some.segment.now c.loop-segment.piece c.goes_on.result true c.goes_on.ensures c.end-in-Some.ensures c.bytes.ensures c.if-not-goes_on.false in
    let taken = c.in_ok-take_from.ensures ∙ ap (λ bytes. with_run c.loop-segment.piece ((end_of_sent c.loop-segment.piece, head_of (c.args.room - length bytes) c.in-Some.segment.now) ∷ [])) c.bytes.ensures in
    let grown = gather-step c.args.sent.now c.args.upto c.how_at-how.result c.args.room c.args.map.now c.in-Some.segment.now c.loop-segment.piece c.take_from.new.piece c.requires.apart found goes c.loop-segment.invariant.fits taken in
    record { fits = grown.fits; goes = grown.goes ∙ c.loop-segment.invariant.goes }

pub returns : goal.returns
returns c =
    let absent = sym (rw (c.end.ensures) at c.in_default.ensures) in
    gather-stop c.args.sent.now c.args.upto c.how_at-how.result c.args.room c.args.map.now c.loop-segment.piece
    (run-absent c.args.sent.now c.args.upto c.how_at-how.result (end_of_sent c.loop-segment.piece) (c.args.room - length c.loop-segment.piece.bytes) 0 c.args.map.now c.requires.apart absent)
    ∙ c.loop-segment.invariant.goes
    ∙ ap (λ h. gathered c.args.xid c.args.first (run_from c.args.sent.now c.args.upto h c.args.first c.args.room (from_key c.args.first c.args.map.now)) h) c.how_at-how.ensures
