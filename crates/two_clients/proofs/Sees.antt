-- The law of two clients, by what their sessions promise.
use Rattle.std.proofs.Common.{refl, sym, ap, subst, ◌∙◌}
use Rattle.world_model.specs.Mounts.{Origin}
use Rattle.claims.specs.Modes.{Modes}
use Rattle.claims.specs.ReadTrue.{ReadCurrent, ReadShort}
use Rattle.law_own.specs.Own.{ReadEnds}
use Rattle.law_pair.specs.Seen.{ReadsOther}
use Rattle.law_pair.proofs.Seen.{settled-are-seen}
use Rattle.outside.specs.Pairs.{side}
use Rattle.session_words.specs.declared.settings.Settings.{Settings}
use Rattle.session_setup.specs.Origins.{modes_of, origin_of}
use Rattle.two_clients.specs.Sees.{AreAlike, OneSeesTheOther, SessionsSeeEachOther}

-- alike the other way round
turned : (s t : Settings) → AreAlike s t → AreAlike t s
turned s t a = record { asks = ap (λ (m : Modes). m.nocto) a.modes ∙ a.asks; modes = sym a.modes; origin = sym a.origin }

pub one-sees : OneSeesTheOther
one-sees h one other s t first second a b alike x y =
    let current : ReadCurrent (modes_of s) (origin_of s.export) (side other h) =
    subst (λ (m : Modes). ReadCurrent m (origin_of s.export) (side other h)) alike.modes
    (subst (λ (o : Origin). ReadCurrent (modes_of t) o (side other h)) alike.origin (b.read_current y.lawful y.fresh)) in
    let short : ReadShort (modes_of t) (origin_of t.export) (side other h) = b.read_short y.lawful y.once y.fresh in
    let ends : ReadEnds (modes_of s) (side other h) =
    subst (λ (m : Modes). ReadEnds m (side other h)) alike.modes (λ r z o f offset count bytes reads less. (short r z o f offset count bytes reads less).short) in
    settled-are-seen (modes_of s) (origin_of s.export) h one other alike.asks x.lawful y.lawful (a.settled x.lawful x.once) current ends

pub each-sees : SessionsSeeEachOther
each-sees h s t lines others given readings status its_status text its_text a b alike x y =
    (one-sees h 0 1 s t a.first b.first (a.server (side 0 h) refl) (b.server (side 1 h) refl) alike x y, back)
  where
    by_its : ReadsOther (modes_of t) (origin_of t.export) h 1 0
    by_its = one-sees h 1 0 t s b.first a.first (b.server (side 1 h) refl) (a.server (side 0 h) refl) (turned s t alike) y x

    back : ReadsOther (modes_of s) (origin_of s.export) h 1 0
    back = subst (λ (m : Modes). ReadsOther m (origin_of s.export) h 1 0) alike.modes (subst (λ (o : Origin). ReadsOther (modes_of t) o h 1 0) alike.origin by_its)
