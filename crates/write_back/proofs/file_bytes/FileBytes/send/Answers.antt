use Rattle.std.proofs.Common.{◌≡◌, None, sym, ap, subst, ◌∙◌, ◌++◌, [], ◌∷◌, arith, ℕ}
use Rattle.write_back.specs.Pieces.{FilePending, piece_under}
use Rattle.write_back.specs.Segments.{Segment}
use Rattle.write_back.proofs.Keeping.{put-none}
use Rattle.write_back.proofs.SendingOne.{sends-next, sends-kept, sends-put}
use Rattle.write_back.proofs.Losing.{gains-sent, room-sent, raises-last}
use Rattle.write_back.proofs.Opening.{map-none}
use Rattle.write_back.proofs.Limits.{most_is}
use Rattle.write_back.proofs.Passed.{upto-sent, upto-split}
use Rattle.write_back.proofs.file_bytes.FileBytes.send.Goals as goal

pub returns-in_default-clause-ok : goal.returns-in_default-clause-ok
returns-in_default-clause-ok c = put-none c.args.xid c.args.upto c.args.room c.args.self.now c.first_to_go.new.self (map-none (λ (e : ℕ × Segment). e.0) _ (sym c.in_default.ensures.told)) c.first_to_go.ensures.same

pub overflow_add-self : goal.overflow_add-self
overflow_add-self c =
    let next = sends-next c.args.xid c.args.upto c.args.room c.in-Some.first c.self.inside.spans c.self.inside.sent.items c.deref.result.now c.args.self.now c.in_ok-piece.piece c.self.inside.flying c.self.inside.resume
    (c.self.view_is ∙ c.first_to_go.ensures.same) c.in-Some.ensures.told c.requires.some c.deref.ensures.value c.in_ok-piece.ensures c.self.invariant.kept in
    omega (arith, most_is, c.self.invariant.kept.sound.room, c.self.invariant.kept.flying, next.own, c.len-size.ensures.len)

pub invariant_of-self-2 : goal.invariant_of-self-2
invariant_of-self-2 c =
    rw c.len-size.ensures.len (record {
      kept = sends-kept c.args.xid c.args.upto c.args.room c.in-Some.first c.self.inside.spans c.self.inside.sent.items c.deref.result.now c.args.self.now c.in_ok-piece.piece c.self.inside.flying c.self.inside.resume
          (c.self.view_is ∙ c.first_to_go.ensures.same) c.in-Some.ensures.told c.requires.some c.deref.ensures.value c.in_ok-piece.ensures c.self.invariant.kept
          c.end-end.result c.split.new.self c.change.new.self c.push.new.self.items c.end-end.ensures c.in_default-split.ensures.ok c.change.ensures.after c.in_ok-push.ensures.items
          (subst (λ (z : FilePending). piece_under c.args.xid z.pieces ≡ None) (sym (c.self.view_is ∙ c.first_to_go.ensures.same)) c.requires.free);
      none = rw (c.change.ensures.after, c.in_default-split.ensures.ok) (upto-sent _ _ _ _ _ (upto-split _ _ _ _ _ c.self.invariant.none));
    })

pub returns-clause-ok : goal.returns-clause-ok
returns-clause-ok c =
    sends-put c.args.xid c.args.upto c.args.room c.in-Some.first c.self.inside.spans c.self.inside.sent.items c.deref.result.now c.args.self.now c.in_ok-piece.piece c.self.inside.flying c.self.inside.resume
    (c.self.view_is ∙ c.first_to_go.ensures.same) c.in-Some.ensures.told c.requires.some c.deref.ensures.value c.in_ok-piece.ensures c.self.invariant.kept
    c.end-end.result c.split.new.self c.change.new.self c.push.new.self.items c.end-end.ensures c.in_default-split.ensures.ok c.change.ensures.after c.in_ok-push.ensures.items

pub raise_last-requires : goal.raise_last-requires
raise_last-requires c =
    let next = sends-next c.args.xid c.args.upto c.args.room c.in-Some.first c.self.inside.spans c.self.inside.sent.items c.deref.result.now c.args.self.now c.in_ok-piece.piece c.self.inside.flying c.self.inside.resume
    (c.self.view_is ∙ c.first_to_go.ensures.same) c.in-Some.ensures.told c.requires.some c.deref.ensures.value c.in_ok-piece.ensures c.self.invariant.kept in
    record {
      room = room-sent c.args.ages.now c.self.inside.sent.items c.as_slice.result.now c.in_ok-piece.piece c.requires.room (c.as_slice.ensures.value ∙ c.in_ok-push.ensures.items) next.whole (omega (arith, c.self.invariant.kept.sound.room, c.self.invariant.kept.flying, next.own));
    }

pub returns-clause-gains : goal.returns-clause-gains
returns-clause-gains c =
    let puts = sends-put c.args.xid c.args.upto c.args.room c.in-Some.first c.self.inside.spans c.self.inside.sent.items c.deref.result.now c.args.self.now c.in_ok-piece.piece c.self.inside.flying c.self.inside.resume
    (c.self.view_is ∙ c.first_to_go.ensures.same) c.in-Some.ensures.told c.requires.some c.deref.ensures.value c.in_ok-piece.ensures c.self.invariant.kept
    c.end-end.result c.split.new.self c.change.new.self c.push.new.self.items c.end-end.ensures c.in_default-split.ensures.ok c.change.ensures.after c.in_ok-push.ensures.items in
    gains-sent c.args.xid c.args.upto c.args.room c.args.self.now _ c.in_ok-piece.piece c.args.ages.now c.raise_last.new.ages puts (c.in_ok-push.ensures.items ∙ ap (λ (z : FilePending). z.pieces ++ c.in_ok-piece.piece ∷ []) (c.self.view_is ∙ c.first_to_go.ensures.same)) (raises-last c.self.inside.sent.items c.as_slice.result.now c.in_ok-piece.piece c.args.ages.now c.raise_last.new.ages (c.as_slice.ensures.value ∙ c.in_ok-push.ensures.items) c.raise_last.ensures)
