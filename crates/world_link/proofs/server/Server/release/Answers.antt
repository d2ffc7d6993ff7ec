use Rattle.std.proofs.Common.{◌≡◌, rules, refl, map, ap, ◌∙◌, List, ℕ, ◌++◌, ◌∷◌, []}
use Rattle.std.specs.List.{remove}
use Rattle.std.proofs.lemmas.List.{map_push}
use Rattle.world_link.specs.declared.routed.Routed.{Routed}
use Rattle.world_link.specs.Ends.{ends_of, reply_in}
use Rattle.world_link.specs.Holding.{HeldReply, held_view}
use Rattle.world_link.specs.View.{served, bytes_in}
use Rattle.world_link.proofs.ServerEntriesOnly.{then_goes, quiet_goes}
use Rattle.world_link.proofs.TurnStaysHonest.{then_stays, moved_stays, unready_stays}
use Rattle.world_link.proofs.Releases.{releases_reply, all_replies_released}
use Rattle.world_link.proofs.EndsStayRight.{ends_then, released_ends, unready_ends}
use Rattle.world_link.proofs.server.Server.release.Goals as goal

pub loop-place-preserved : goal.loop-place-preserved
loop-place-preserved c =
    let turns : List ℕ = c.args.turns.now.counts in
    let held : List HeldReply = c.loop-place.self.held.items in
    let ready : List Routed = c.loop-place.self.ready.items in
    let reply : HeldReply = c.remove-held.result in
    let pushed = c.push_back_reserved.ensures.items ∙ ap (λ (t : List Routed). t ++ c.into_reply.result ∷ []) c.reserve.ensures.items ∙ ap (λ (r : Routed). ready ++ r ∷ []) c.into_reply.ensures in
    let shown = ap (map bytes_in) pushed ∙ map_push bytes_in ready reply.reply in
    record {
      left = releases_reply turns (served c.loop-place.self) _ held c.in-Some.place reply c.first_due.result refl c.first_due.ensures (search rules) c.remove-held.ensures.value shown (ap (map held_view) c.remove-held.ensures.items) refl
          ∙ c.loop-place.invariant.left;
      goes = then_goes _ _ _ c.loop-place.invariant.goes (quiet_goes _ _ refl refl refl);
      stays = then_stays _ _ _ c.loop-place.invariant.stays
          (moved_stays turns (served c.loop-place.self) _ held c.in-Some.place reply c.first_due.result refl c.first_due.ensures (search rules) c.remove-held.ensures.value shown (ap (map held_view) c.remove-held.ensures.items) refl);
      ends = ends_then _ _ _ _ _ c.loop-place.invariant.ends
          (released_ends turns (ends_of c.loop-place.self) _ held c.in-Some.place reply c.first_due.result refl c.first_due.ensures (search rules) c.remove-held.ensures.value pushed (ap (map reply_in) c.remove-held.ensures.items) refl) (λ t. t);
    }

pub returns-clause-ok : goal.returns-clause-ok
returns-clause-ok c = all_replies_released c.args.turns.now.counts (served c.loop-place.self) c.loop-place.self.held.items c.first_due.result refl c.first_due.ensures (search rules) ∙ c.loop-place.invariant.left

pub returns-in_err-reserve-clause-stays : goal.returns-in_err-reserve-clause-stays
returns-in_err-reserve-clause-stays c = then_stays _ _ _ c.loop-place.invariant.stays (unready_stays _ _ refl (ap (map bytes_in) c.reserve.ensures.items))

pub returns-in_err-reserve-clause-ends : goal.returns-in_err-reserve-clause-ends
returns-in_err-reserve-clause-ends c = ends_then _ _ _ _ _ c.loop-place.invariant.ends (unready_ends _ _ refl c.reserve.ensures.items) (λ t. t)
