-- An open that goes by kept attributes leaves its file in the known state; and each file that was opened has a state in the page cache.
use Rattle.core_counts.proofs.Prelude.{◌≡◌, ℕ, ◌+◌, Bool, true, false, ◌&&◌, ◌==◌, List, Option, Some, None, Result, refl, sym, ap, ◌∙◌, arith, if◌then◌else◌, Attr, Mode, Stamp, stamp_of, Attrs, FileState, Pages, state_of, known_of, Fault, Entry, Reply, Modes, Led, OpeningPhase, Mounted, machine_of, Setup, View, Reaches}
use Rattle.nfs_types.specs.Stamps.{same_stamp}
use Rattle.attr_cache.specs.Attrs.{looked}
use Rattle.claims.specs.Slots.{Finds, asked, looked_up, made, Opens}
use Rattle.file_ops.specs.declared.opening.Led.TheVariants as leads
use Rattle.file_ops.specs.declared.opening.OpeningPhase.TheVariants as steps
use Rattle.file_ops.specs.Opening as opening
use Rattle.core_answers.specs.bonds.Kept.{LastAtMost}
use Rattle.core_session.proofs.current.FedPages.{told-knows}
use Rattle.core_session.proofs.current.Good.{reached-good}

-- ---- the known state

knows-is : (a b : List ℕ) (s t : Stamp) → leads.Knows a s ≡ leads.Knows b t → (a ≡ b) × (s ≡ t)
knows-is a b s t e = (cc, cc)

goes-knows : (step : OpeningPhase) (file : List ℕ) (stamp : Stamp) → leads.Goes step ≡ leads.Knows file stamp → ⊥
goes-knows step file stamp e = cc

module _ (now : ℕ) (attrs : Attrs) (c : Pages) where
  at-stamp : (f : List ℕ) (a : Option Attr) (s : Option Stamp) (file : List ℕ) (stamp : Stamp) → known_of f c ≡ s → opening.known_at f a s ≡ leads.Knows file stamp → known_of file c ≡ Some stamp
  at-stamp f None s file stamp is e = absurd (goes-knows (steps.Ask f) file stamp e)
  at-stamp f (Some a) None file stamp is e = absurd (goes-knows (steps.Ask f) file stamp e)
  at-stamp f (Some a) (Some s) file stamp is e = by ((a.kind == 1) && same_stamp (stamp_of a) s) e
    where
      by : (b : Bool) → (if b then leads.Knows f s else leads.Goes (steps.Ask f)) ≡ leads.Knows file stamp → known_of file c ≡ Some stamp
      by true e = let k = knows-is f file s stamp e in ap (λ (g : List ℕ). known_of g c) (sym k.0) ∙ is ∙ ap Some k.1
      by false e = absurd (goes-knows (steps.Ask f) file stamp e)

  known-stamp : (led : Led) (file : List ℕ) (stamp : Stamp) → ((led ≡ leads.Knows file stamp) → ⊥) → opening.known_led led now attrs c ≡ leads.Knows file stamp → known_of file c ≡ Some stamp
  known-stamp (leads.Goes (steps.Ask f)) file stamp other e = at-stamp f (looked f now attrs) (known_of f c) file stamp refl e
  known-stamp (leads.Goes steps.Look) file stamp other e = absurd (other e)
  known-stamp (leads.Goes steps.Make) file stamp other e = absurd (other e)
  known-stamp (leads.Goes steps.Find) file stamp other e = absurd (other e)
  known-stamp (leads.Opens f a) file stamp other e = absurd (other e)
  known-stamp (leads.Knows f s) file stamp other e = absurd (other e)
  known-stamp (leads.Ends fault) file stamp other e = absurd (other e)

  -- the stamp by which a file is opened that isn't asked for its attributes is the known one
  pub led-stamp : (nocto : Bool) (mode : Mode) (step : OpeningPhase) (came : Result Reply Fault) (file : List ℕ) (stamp : Stamp)
      → opening.known_by nocto (opening.led_to mode step came) now attrs c ≡ leads.Knows file stamp → known_of file c ≡ Some stamp
  led-stamp true mode step came file stamp e = known-stamp (opening.led_to mode step came) file stamp (told-knows now attrs c mode step came file stamp) e
  led-stamp false mode step came file stamp e = absurd (told-knows now attrs c mode step came file stamp e)

-- ---- files that were opened

finds-as : (modes other : Modes) → other.nocto ≡ modes.nocto → (h : List Entry) (y : ℕ) (f : List ℕ) → Finds modes h y f → Finds other h y f
finds-as modes other same h y f (asked last) = asked last
finds-as modes other same h y f (looked_up may d name attr dir last spells) = looked_up (same ∙ may) d name attr dir last spells
finds-as modes other same h y f (made may d name making attr wcc last spells) = made (same ∙ may) d name making attr wcc last spells

-- no lifetime is longer than all together
abbrev longest : Setup → ℕ
longest setup = setup.lives.reg_min + setup.lives.reg_max + setup.lives.dir_min + setup.lives.dir_max

lasts-at-most : (setup : Setup) → LastAtMost setup.lives (longest setup)
lasts-at-most setup = record { reg_min = omega arith; reg_max = omega arith; dir_min = omega arith; dir_max = omega arith }

pub opened-state : (m : Mounted) (modes : Modes) → m.nocto ≡ modes.nocto → (setup : Setup) (h : List Entry) (v : View) → Reaches (machine_of m) setup h v → v.lost ≡ false
    → (lane slot o y : ℕ) (f : List ℕ) → Opens modes h lane slot o y f → (state : FileState) × (state_of f v.shelf.pages ≡ Some state)
opened-state m modes same setup h v r found lane slot o y f opens =
    let k = (reached-good m (record modes { longest = longest setup }) same setup (λ may. lasts-at-most setup) h v r found).opened lane slot o y f
    (record { mode = opens.mode; path = opens.path; value = opens.value; ended = opens.ended; finds = finds-as modes (record modes { longest = longest setup }) refl h y f opens.finds }) in
    (k.since.marked.state, k.since.marked.there)
