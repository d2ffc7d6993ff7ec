-- The core of a session that begins.
use Rattle.std.specs.Prelude.{◌≡◌, ◌≤◌, ◌<◌, ◌*◌, ℕ, [], false}
use Rattle.std.specs.FinMap as map
use Rattle.attr_cache.specs.Attrs.{nothing_learnt}
use Rattle.page_cache.specs.Sound.{IsSound}
use Rattle.client_core.specs.declared.setup.Setup.{Setup}
use Rattle.client_core.specs.View.{View}

-- READ and WRITE have 1 to 65,536 bytes, and a READ of more than a page whole pages.
pub record AreSizes (setup : Setup) : Type 0 where
  pub read : 1 ≤ setup.rsize
  pub most_read : setup.rsize ≤ 65536
  pub pages : 4096 < setup.rsize → (count : ℕ) × (setup.rsize ≡ 4096 * count)
  pub write : 1 ≤ setup.wsize
  pub most_write : setup.wsize ≤ 65536

-- no call was made, no operation has begun, and nothing is kept but the pages of the set-up
pub record IsFresh (setup : Setup) (v : View) : Type 0 where
  pub calls : v.calls ≡ record { first_xid = setup.first_xid; limit = setup.limit; cred = setup.cred; made = 0; calls = [] }
  pub lanes : v.lanes ≡ []
  pub wsize : v.wsize ≡ setup.wsize
  pub clock : v.clock ≡ 0
  pub moments : v.moments ≡ 0
  pub begun : v.begun ≡ 0
  pub lost : v.lost ≡ false
  pub pages : v.shelf.pages ≡ setup.pages
  pub sound : IsSound setup.pages
  pub attrs : v.shelf.attrs ≡ nothing_learnt setup.lives
  pub names : v.shelf.names ≡ []
  pub back : v.shelf.back ≡ []
  pub opens : v.shelf.opens ≡ map.empty
  pub silly : v.shelf.silly ≡ map.empty
  pub order : v.shelf.order ≡ []
  pub puts : v.shelf.puts ≡ []
  pub repeats : v.shelf.repeats ≡ []
  pub seq : v.shelf.seq ≡ 0
  pub counter : v.shelf.counter ≡ 0
