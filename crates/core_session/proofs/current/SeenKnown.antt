-- The known stamp of a file that was opened was shown since that open began.
use Rattle.core_session.specs.current.Seen.{KnownSeen}
use Rattle.core_session.proofs.current.Good.{reached-good}
use Rattle.core_session.proofs.current.Moments.{known-seen}

pub seen-known : KnownSeen
seen-known m terms setup h v g lasts found lane slot o y f opens stamp is =
    let k = (reached-good m terms.modes g.nocto setup lasts h v g.reaches found).opened lane slot o y f opens in
    record { s = k.s; seen = known-seen h k.s f k.since.k v.shelf.pages stamp k.since.marked is; age = k.age }
