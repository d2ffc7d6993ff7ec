-- Places that were cut off before the moments that a read may show are read so.
use Rattle.std.proofs.Common.{◌≡◌, ◌+◌, ℕ, sym, subst, arith}
use Rattle.world_model.specs.declared.entry.Entry.TheVariants.{Began}
use Rattle.world_model.specs.declared.op.Op.TheVariants as ops
use Rattle.world_model.specs.Entries.{At}
use Rattle.claims.specs.ReadTrue.{IsCurrent, own, held, hole}
use Rattle.claims.specs.Touched.{written}
use Rattle.world_model.proofs.Places.{At-below}
use Rattle.law_own.specs.Own.{CutsAreRead}
use Rattle.law_own.proofs.OneByte.{writes-byte, no-truncate, touched-later}

pub cuts-are-read : CutsAreRead
cuts-are-read m origin t lawful stay current r y o f offset count bytes reads x e size k v cut early before past has untouched = by (current r y o f offset count bytes reads k v has)
  where
    by : IsCurrent m origin t r y o f (offset + k) v → v ≡ 0
    by (own p) =
        let low = p.pending.before in
        let late = p.moment.late in
        let soon = p.moment.soon in
        absurd (untouched (written p.pending.w v
        (λ same. no-truncate t.entries p.pending.w (offset + k) v cut.of.lane cut.of.line cut.slot size (writes-byte m origin t.entries p.pending.w f (offset + k) v p.pending.writes)
        (subst (λ (z : ℕ). At t.entries z (Began cut.of.lane cut.of.line (ops.Truncate cut.slot size))) (sym same) cut.of.began))
        (omega (arith, low, soon)) (λ answered. p.pending.uncut x e size answered cut past (omega (arith, early, late))) p.pending.writes p.pending.unrefused))
    by (held h) =
        let within = At-below t.entries y _ reads.ended.answered in
        let soon = h.soon in
        stay x e f size (offset + k) cut past h.n (before h.n h.late) (omega (arith, soon, within))
        (λ touched. untouched (touched-later m origin t lawful x h.n y f (offset + k) soon (omega (arith, within)) touched)) h.now h.stable h.has v h.holds
    by (hole q u zero_ shorter below pending) = zero_
