use Rattle.std.proofs.Common.{◌≡◌, ℕ, length, bit_or, w8, refl}
use Rattle.std.proofs.lemmas.Simd.{length-chunk, chunk-fits}
use Rattle.std.specs.Simd.Lanes.{chunk, top}
use Rattle.script_text.proofs.Lanewise.{itself, splat, lanes2, chosen, plus, minus, is_less, lane_of, tells}
use Rattle.script_text.proofs.digits.values_at.Goals as goal

pub returns : goal.returns
returns c =
    let digits = chunk c.args.at 32 c.args.hex.now in
    let long : length digits ≡ 32 = length-chunk c.args.at 32 c.args.hex.now c.requires in
    let all = λ (value : ℕ). splat digits 32 value long in
    let own = itself digits in
    let sum = lanes2 plus own (all 198) in
    let numeral = lanes2 minus (chosen (top 7) (lanes2 is_less sum (all 6)) (all 6) sum) (all 246) in
    let letter = lanes2 minus (lanes2 bit_or (lanes2 minus own (all 1)) (all 32)) (all 86) in
    tells (chosen (top 7) (lanes2 is_less numeral letter) numeral letter) (refl {a = lane_of}) (chunk-fits w8 c.args.at 32 c.args.hex.now c.type_inv.hex)
