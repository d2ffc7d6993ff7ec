use Rattle.std.proofs.Common.{◌≡◌, false, refl, rules}
use Rattle.std.specs.Prelude.{is_err}
use Rattle.world_link.specs.Pairs.{seen_pair}
use Rattle.world_link.proofs.PairHonest.{honest_pair}
use Rattle.world_link.proofs.PairReceiving.{receives_at, receives_honest, receives_exactly, ok_of}
use Rattle.world_link.proofs.PairTells.{turns_at}
use Rattle.world_link.proofs.pair_world.PairWorldPairLink.receive.Goals as goal

pub returns-then-is_err-clause-told : goal.returns-then-is_err-clause-told
returns-then-is_err-clause-told c = turns_at c.args.end (seen_pair c.args.self.now) _ refl refl c.turn_all.ensures.goes c.turn_all.ensures.ends

pub returns-clause-told : goal.returns-clause-told
returns-clause-told c = receives_at c.args.end c.requires.end (seen_pair c.args.self.now) _ _ refl refl refl c.turn_all.ensures.goes c.turn_all.ensures.ends _ c.hand_out.result c.hand_out.ensures.hands

pub returns-then-is_err-clause-honest : goal.returns-then-is_err-clause-honest
returns-then-is_err-clause-honest c h = honest_pair _ refl (c.turn_all.ensures.stays h.world) (c.turn_all.ensures.ends.right h.routed)

pub returns-clause-honest : goal.returns-clause-honest
returns-clause-honest c h = receives_honest c.args.end c.requires.end (seen_pair c.args.self.now) _ _ refl refl refl c.turn_all.ensures.goes c.turn_all.ensures.ends _ c.hand_out.result c.hand_out.ensures.hands c.turn_all.ensures.stays h

pub returns-clause-exact : goal.returns-clause-exact
returns-clause-exact c =
    let fine : is_err c.turn_all.result ≡ false = search rules in
    receives_exactly c.args.end c.requires.end (seen_pair c.args.self.now) _ _ refl refl refl c.turn_all.ensures.goes c.turn_all.ensures.ends _ c.hand_out.result c.hand_out.ensures.hands (ok_of c.turn_all.result _ fine c.turn_all.ensures.turns)
    (ok_of c.turn_all.result _ fine c.turn_all.ensures.done)
