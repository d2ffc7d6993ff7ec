-- What holds of kept pages at any time.
use Rattle.std.specs.Prelude.{◌≤◌, Bool, length, All, IsSome}
use Rattle.std.specs.List.{IsDistinct}
use Rattle.std.specs.Map.{keys_of}
use Rattle.page_cache.specs.declared.place.PagePlace.{PagePlace}
use Rattle.page_cache.specs.Pages.{Pages, is_place, known_of}

-- whether two places are one
abbrev pub same_place : PagePlace → PagePlace → Bool
same_place p q = is_place p.file p.index q

-- the state of each kept page's file is known
abbrev pub AreKnown : Pages → Type 0
AreKnown c = All (λ p. IsSome (known_of p.0.file c)) c.pages

-- Each kept page has at most 4,096 bytes and is kept once. There are at most so many as there is room for. The state of each one's file is known.
pub record IsSound (c : Pages) : Type 0 where
  pub fits : All (λ p. length p.1 ≤ 4096) c.pages
  pub few : length c.pages ≤ c.room
  pub apart : IsDistinct same_place (keys_of c.pages)
  pub known : AreKnown c
