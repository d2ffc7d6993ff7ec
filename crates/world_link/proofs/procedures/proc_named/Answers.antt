use Rattle.std.proofs.Common.{◌≡◌, sym, ◌∙◌, rules, tests, bytes_eq}
use Rattle.std.proofs.lemmas.Iterator.{YieldsList-from_slice}
use Rattle.std.proofs.lemmas.Iterator.Search.{position_from_yields_List}
use Rattle.world_link.specs.Procedures.{proc_of}
use Rattle.world_link.proofs.ProcedureNames.{in_table}
use Rattle.world_link.proofs.procedures.proc_named.Goals as goal

pub returns-in-Some : goal.returns-in-Some
returns-in-Some c =
    let found : c.position.result ≡ proc_of c.args.name.now = position_from_yields_List (λ p. bytes_eq p.now c.args.name.now) _ _ c.position.result c.position.ensures.ran (YieldsList-from_slice _ c.iter.ensures.rest) (λ x b q k. search (rules, tests)) ∙ in_table c.args.name.now in
    sym c.in-Some.is ∙ found

pub returns-in-None : goal.returns-in-None
returns-in-None c =
    let found : c.position.result ≡ proc_of c.args.name.now = position_from_yields_List (λ p. bytes_eq p.now c.args.name.now) _ _ c.position.result c.position.ensures.ran (YieldsList-from_slice _ c.iter.ensures.rest) (λ x b q k. search (rules, tests)) ∙ in_table c.args.name.now in
    sym c.in-None.is ∙ found
