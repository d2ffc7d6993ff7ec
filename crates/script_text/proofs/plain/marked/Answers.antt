use Rattle.std.proofs.Common.{◌≡◌, ◌∙◌, ℕ, length, bit_xor, ap}
use Rattle.std.proofs.lemmas.Simd.{length-chunk, zip2_of_maps, splat_is_map}
use Rattle.std.proofs.lemmas.List.{length-map}
use Rattle.std.specs.Simd.Lanes.{chunk}
use Rattle.script_text.specs.Plain.{mark}
use Rattle.script_text.proofs.Plainly.{map-id}
use Rattle.script_text.proofs.plain.marked.Goals as goal

pub returns-clause-is : goal.returns-clause-is
returns-clause-is c =
    let bytes = chunk c.args.at 32 c.args.text.now in
    zip2_of_maps bit_xor (λ (x : ℕ). x) (λ (x : ℕ). 138) bytes (map-id bytes) (splat_is_map bytes 32 138 (length-chunk c.args.at 32 c.args.text.now c.requires))

pub returns-clause-many : goal.returns-clause-many
returns-clause-many c =
    let bytes = chunk c.args.at 32 c.args.text.now in
    let long : length bytes ≡ 32 = length-chunk c.args.at 32 c.args.text.now c.requires in
    ap length (zip2_of_maps bit_xor (λ (x : ℕ). x) (λ (x : ℕ). 138) bytes (map-id bytes) (splat_is_map bytes 32 138 long)) ∙ length-map bytes mark ∙ long
