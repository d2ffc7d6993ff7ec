use Rattle.std.proofs.Common.{w8, ◌+◌}
use Rattle.std.proofs.lemmas.Simd.{chunk-fits}
use Rattle.script_text.proofs.Plainly.{vector, four}
use Rattle.script_text.proofs.plain.lowest.Goals as goal

pub returns-clause-plain : goal.returns-clause-plain
returns-clause-plain c = λ high.
    let text = c.args.text.now in
    let at = c.args.at in
    let halves = c.least.ensures.high high in
    let front = c.least-front.ensures.high halves.0 in
    let back = c.least-back.ensures.high halves.1 in
    four text at (vector text _ at (chunk-fits w8 at 32 text c.type_inv.text) c.marked.ensures.is front.0)
    (vector text _ (at + 32) (chunk-fits w8 (at + 32) 32 text c.type_inv.text) c.marked-2.ensures.is front.1)
    (vector text _ (at + 64) (chunk-fits w8 (at + 64) 32 text c.type_inv.text) c.marked-3.ensures.is back.0)
    (vector text _ (at + 96) (chunk-fits w8 (at + 96) 32 text c.type_inv.text) c.marked-4.ensures.is back.1)
