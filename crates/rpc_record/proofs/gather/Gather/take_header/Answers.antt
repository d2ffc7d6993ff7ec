use Rattle.std.proofs.Common.{◌≡◌, ◌++◌, ℕ, List, length, take, arith, ap, ◌∙◌, refl}
use Rattle.byteorder.specs.Endian.{big_number}
use Rattle.rpc_record.specs.declared.gather.Phase.TheVariants as phases
use Rattle.rpc_record.proofs.GatherLemmas.{took_header_whole}
use Rattle.rpc_record.specs.Gather.{Gathered, IsGathered, begins}
use Rattle.rpc_record.proofs.gather.Gather.take_header.Goals as goal

pub returns-then-len-eq-HEADER-clause-took : goal.returns-then-len-eq-HEADER-clause-took
returns-then-len-eq-HEADER-clause-took c =
    let on : c.self.inside.phase ≡ phases.Header = ap (λ (g : Gathered). g.phase) c.self.view_is ∙ c.requires.on in
    let fits : IsGathered phases.Header c.self.inside.record.items c.self.inside.header.items = rw on at c.self.invariant in
    let h : List ℕ = c.extend_from_slice.new.self.items in
    let is : h ≡ c.self.inside.header.items ++ take c.min-count.result c.args.bytes.now = c.in_ok-extend_from_slice.ensures.items ∙ ap (λ (t : List ℕ). c.self.inside.header.items ++ t) c.split_at.ensures.front in
    let four : length h ≡ 4 = omega (arith, c.if-len-eq-HEADER.true, c.len-2.ensures) in
    let word : c.word.result ≡ big_number 4 h = c.word.ensures ∙ ap (big_number 4) c.deref.ensures.value in
    let size : c.len-then-len-eq-HEADER.result ≡ length c.self.inside.record.items = omega (arith, c.len-then-len-eq-HEADER.ensures) in
    let phase : c.begun-self-inside.result ≡ begins (big_number 4 h) (length c.self.inside.record.items) c.self.inside.fragments = rw (word, size) at c.begun-self-inside.ensures in
    rw (← c.self.view_is)
    (took_header_whole _ _ c.args.bytes.now h c.min-count.result (omega (arith, c.min-count.ensures, fits.1, c.requires.some, c.len.ensures)) (omega (arith, c.min-count.ensures)) on is four
    (rw (c.clear.ensures.items, phase, c.saturating_sub-self-inside.ensures) refl))
