-- The rows of all operations that are refused, as each has its own.
use Rattle.core_session.proofs.Prelude.{◌≡◌, ◌≢◌, ◌==◌, ℕ, Bool, true, false, List, refl, sym, subst, arith, eqb-true, eqb-false, Refused, Fault, Entry, Op, Ended, RefusedBy, Terms, jukebox, Mounted, IsAsked, Setup, View, GoesSo}
use Rattle.claims.specs.RefusalRows.{RefusalRow}
use Rattle.core_answers.specs.refusals.Rowed.{MayMiss, IsFinal, AsksPlainly}
use Rattle.nfs_types.specs.declared.mode.Mode.TheVariants as modes
use Rattle.world_model.specs.declared.answer.Fault.TheVariants as faults
use Rattle.world_model.specs.declared.op.Op.TheVariants as ops
use Rattle.core_facts.proofs.LostAnswers.{lost-answers}
use Rattle.core_facts.proofs.OpenTheorems.{kinds-shown}
use Rattle.core_facts.proofs.SlotTheorems.{places-caused}
use Rattle.core_answers.proofs.answers.ManyStory.{many-shown}
use Rattle.core_answers.proofs.answers.PutRows.{put-kinds-shown}
use Rattle.core_answers.proofs.refusals.OwnRows.{refusals-rowed}
use Rattle.core_session.specs.outcomes.Refusals.{WantsFile, IsList, MakesNoRoom, IsRowed, RefusalRowsShown}
use Rattle.core_session.proofs.outcomes.MissRows.{open-missed, remove-missed}
use Rattle.core_session.proofs.outcomes.OwnFaults.{faults-own}
use Rattle.core_session.proofs.outcomes.RemoveRefusals.{removes-refused}

module _ (m : Mounted) (terms : Terms) (setup : Setup) (h : List Entry) (v : View) (g : GoesSo m terms setup h v) (lane x y : ℕ) where
  abbrev Ends : Op → Fault → Type 0
  Ends op fault = Ended h lane x op y (Refused fault)

  plain : (op : Op) (fault : Fault) → IsAsked op → AsksPlainly op → IsFinal op fault → Ends op fault → RefusedBy terms h x y op fault
  plain op fault named plainly final ended = refusals-rowed m terms setup h v g lane x y op fault named plainly final ended

  -- for what a record refused
  refused-row : (op : Op) (fault : Fault) → IsAsked op → MakesNoRoom op → IsFinal op fault → Ends op fault → RefusedBy terms h x y op fault
  refused-row (ops.Write slot offset bytes) fault named room final ended = absurd room
  refused-row (ops.Fill slot offset count byte) fault named room final ended = absurd room
  refused-row (ops.Put path offset bytes) fault named room final ended = absurd room
  refused-row (ops.Remove path) fault named room final ended = removes-refused m terms setup h v g.goes g.known lane x y path fault named final ended
  refused-row (ops.OpenFile slot mode path) fault named room final ended = plain (ops.OpenFile slot mode path) fault named tt final ended
  refused-row (ops.Read slot offset count) fault named room final ended = plain (ops.Read slot offset count) fault named tt final ended
  refused-row (ops.Sync slot) fault named room final ended = plain (ops.Sync slot) fault named tt final ended
  refused-row (ops.Close slot) fault named room final ended = plain (ops.Close slot) fault named tt final ended
  refused-row (ops.Truncate slot size) fault named room final ended = plain (ops.Truncate slot size) fault named tt final ended
  refused-row (ops.Stat path) fault named room final ended = plain (ops.Stat path) fault named tt final ended
  refused-row (ops.Access path bits) fault named room final ended = plain (ops.Access path bits) fault named tt final ended
  refused-row (ops.MakeDir path) fault named room final ended = plain (ops.MakeDir path) fault named tt final ended
  refused-row (ops.RemoveDir path) fault named room final ended = plain (ops.RemoveDir path) fault named tt final ended
  refused-row (ops.Rename from to) fault named room final ended = plain (ops.Rename from to) fault named tt final ended
  refused-row (ops.Link from to) fault named room final ended = plain (ops.Link from to) fault named tt final ended
  refused-row (ops.SymLink path target) fault named room final ended = plain (ops.SymLink path target) fault named tt final ended
  refused-row (ops.ReadLink path) fault named room final ended = plain (ops.ReadLink path) fault named tt final ended
  refused-row (ops.List path) fault named room final ended = plain (ops.List path) fault named tt final ended

  -- ---- NFS3ERR_NOENT

  no-jukebox : 2 ≢ jukebox
  no-jukebox is = absurd (omega (arith, is))

  plain-two : (op : Op) → IsAsked op → AsksPlainly op → (MayMiss op → ⊥) → Ends op (faults.Nfs 2) → RefusedBy terms h x y op (faults.Nfs 2)
  plain-two op named plainly none ended = plain op (faults.Nfs 2) named plainly (no-jukebox, λ may two. none may) ended

  -- what may go on from it had no way to
  two-row : (op : Op) → IsAsked op → MakesNoRoom op → Ends op (faults.Nfs 2) → RefusedBy terms h x y op (faults.Nfs 2)
  two-row (ops.OpenFile slot modes.C path) named room ended = open-missed m terms setup h v g lane x y slot path named ended
  two-row (ops.Remove path) named room ended = remove-missed m terms setup h v g lane x y path named ended
  two-row (ops.OpenFile slot modes.R path) named room ended = plain-two (ops.OpenFile slot modes.R path) named tt (λ may. may) ended
  two-row (ops.OpenFile slot modes.W path) named room ended = plain-two (ops.OpenFile slot modes.W path) named tt (λ may. may) ended
  two-row (ops.OpenFile slot modes.RW path) named room ended = plain-two (ops.OpenFile slot modes.RW path) named tt (λ may. may) ended
  two-row (ops.OpenFile slot modes.X path) named room ended = plain-two (ops.OpenFile slot modes.X path) named tt (λ may. may) ended
  two-row (ops.Write slot offset bytes) named room ended = absurd room
  two-row (ops.Fill slot offset count byte) named room ended = absurd room
  two-row (ops.Put path offset bytes) named room ended = absurd room
  two-row (ops.Read slot offset count) named room ended = plain-two (ops.Read slot offset count) named tt (λ may. may) ended
  two-row (ops.Sync slot) named room ended = plain-two (ops.Sync slot) named tt (λ may. may) ended
  two-row (ops.Close slot) named room ended = plain-two (ops.Close slot) named tt (λ may. may) ended
  two-row (ops.Truncate slot size) named room ended = plain-two (ops.Truncate slot size) named tt (λ may. may) ended
  two-row (ops.Stat path) named room ended = plain-two (ops.Stat path) named tt (λ may. may) ended
  two-row (ops.Access path bits) named room ended = plain-two (ops.Access path bits) named tt (λ may. may) ended
  two-row (ops.MakeDir path) named room ended = plain-two (ops.MakeDir path) named tt (λ may. may) ended
  two-row (ops.RemoveDir path) named room ended = plain-two (ops.RemoveDir path) named tt (λ may. may) ended
  two-row (ops.Rename from to) named room ended = plain-two (ops.Rename from to) named tt (λ may. may) ended
  two-row (ops.Link from to) named room ended = plain-two (ops.Link from to) named tt (λ may. may) ended
  two-row (ops.SymLink path target) named room ended = plain-two (ops.SymLink path target) named tt (λ may. may) ended
  two-row (ops.ReadLink path) named room ended = plain-two (ops.ReadLink path) named tt (λ may. may) ended
  two-row (ops.List path) named room ended = plain-two (ops.List path) named tt (λ may. may) ended

  -- for a status
  status-row : (op : Op) (n : ℕ) → IsAsked op → MakesNoRoom op → n ≢ jukebox → Ends op (faults.Nfs n) → RefusedBy terms h x y op (faults.Nfs n)
  status-row op n named room calm ended = by (n == 2) refl
    where
      by : (b : Bool) → (n == 2) ≡ b → RefusedBy terms h x y op (faults.Nfs n)
      by true d =
          let two : n ≡ 2 = eqb-true n 2 d in
          subst (λ (k : ℕ). RefusedBy terms h x y op (faults.Nfs k)) (sym two) (two-row op named room (subst (λ (k : ℕ). Ends op (faults.Nfs k)) two ended))
      by false d = refused-row op (faults.Nfs n) named room (calm, λ may two. absurd (eqb-false n 2 d two)) ended

  -- ---- any fault

  kind-row : (op : Op) → IsAsked op → WantsFile op → Ends op faults.Kind → RefusalRow terms h lane x y op faults.Kind
  kind-row (ops.OpenFile slot mode path) named wants ended = kinds-shown m setup h v g.goes.reaches terms g.known lane x slot mode path y named ended
  kind-row (ops.Put path offset bytes) named wants ended = put-kinds-shown m setup h v g.goes.reaches terms g.known lane x path offset bytes y named.0 ended
  kind-row op named wants ended = absurd wants

  many-row : (op : Op) → IsList op → Ends op faults.Many → RefusalRow terms h lane x y op faults.Many
  many-row (ops.List path) lists ended = many-shown m setup h v g.goes.reaches terms g.known lane x path y ended
  many-row op lists ended = absurd lists

  fault-row : (op : Op) (fault : Fault) → IsAsked op → IsRowed op fault → Ends op fault → RefusalRow terms h lane x y op fault
  fault-row op (faults.Nfs n) named rowed ended = status-row op n named rowed.0 rowed.1 ended
  fault-row op (faults.Rpc n) named rowed ended = refused-row op (faults.Rpc n) named rowed tt ended
  fault-row op (faults.Bad n) named rowed ended = refused-row op (faults.Bad n) named rowed tt ended
  fault-row op faults.Lost named rowed ended = lost-answers m setup h v g.goes.reaches lane x op y ended
  fault-row op faults.Spent named rowed ended = tt
  fault-row op faults.Slot named rowed ended = (places-caused m terms setup h v g.goes lane x y op).slot ended
  fault-row op faults.Mode named rowed ended = (places-caused m terms setup h v g.goes lane x y op).mode ended
  fault-row op faults.Kind named rowed ended = kind-row op named (faults-own m terms setup h v g lane x y op faults.Kind ended) ended
  fault-row op faults.Many named rowed ended = many-row op (faults-own m terms setup h v g lane x y op faults.Many ended) ended
  fault-row op faults.Memory named rowed ended = tt

pub refusal-rows : RefusalRowsShown
refusal-rows m terms setup h v g lane x y op fault named rowed ended = fault-row m terms setup h v g lane x y op fault named rowed ended
