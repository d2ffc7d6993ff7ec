-- A stat, step by step: its walk leads along its path, and it asks for attributes at the end.
use Rattle.core_answers.proofs.Prelude.{◌≡◌, ℕ, Bool, true, false, List, [], ◌∷◌, ◌++◌, Option, Some, None, Result, refl, sym, ap, subst, ◌∙◌, if◌then◌else◌, Attr, Fault, Entry, Call, Reply, Step, Shelf, Turn, Stat, WalkStep, Machine, NameMachine, WalkMoves, go-step, took-step, OwnOr, NamesTold, WalkLeads, walk-later, go-leads, took-leads, IsHeard}
use Rattle.attr_cache.specs.Attrs as attrs
use Rattle.name_ops.specs.declared.walk.WalkStep.TheVariants as walks
use Rattle.name_ops.specs.Stat as stats
use Rattle.name_ops.specs.Walking as walking
use Rattle.op_machines.specs.declared.machine.Machine.TheVariants as machines
use Rattle.op_machines.specs.declared.name_machine.NameMachine.TheVariants as names
use Rattle.op_machines.specs.NameSteps as steps

module _ (top : List ℕ) (h : List Entry) (path : List (List ℕ)) where
  pub record IsStat (s : Stat) : Type 0 where
    pub walk : WalkLeads top h path s.walk
    pub done : s.asked ≡ true → walking.next_name s.walk ≡ None

  pub record StatRuns (machine : Machine) : Type 0 where
    pub s : Stat
    pub is : machine ≡ machines.Name (names.Stat s)
    pub story : IsStat s

  on-way : (s : Stat) → s.asked ≡ false → WalkLeads top h path s.walk → IsStat s
  on-way s idle l = record { walk = l; done = λ is. absurd (let no_way : true ≡ false = sym is ∙ idle in cc) }

  ask-story : (known : Option Attr) (room : Bool) (s : Stat) → s.asked ≡ false → WalkLeads top h path s.walk → walking.next_name s.walk ≡ None → IsStat (stats.ask_after known room s)
  ask-story (Some attr) room s idle l none = on-way s idle l
  ask-story None true s idle l none = record { walk = l; done = λ is. none }
  ask-story None false s idle l none = on-way s idle l

  follow-story : (step : WalkStep) (turn : Turn) (known : attrs.Attrs) (s : Stat) → s.asked ≡ false → WalkLeads top h path s.walk → WalkMoves step s.walk
      → IsStat (stats.follow_after step turn known s)
  follow-story (walks.Send call) turn known s idle l k = on-way s idle l
  follow-story walks.Wait turn known s idle l k = on-way s idle l
  follow-story (walks.At object) turn known s idle l k = ask-story (attrs.looked object turn.now known) turn.room s idle l k.1
  follow-story (walks.Refused fault) turn known s idle l k = on-way s idle l

  goes-story : (s : Stat) (turn : Turn) (old : Shelf) → NamesTold h old.names → IsStat s → IsStat (stats.stat_after s turn old)
  goes-story s turn old t k = by s.asked refl
    where
      by : (b : Bool) → s.asked ≡ b
          → IsStat (if b then s else stats.follow_after (walking.go_next s.walk turn old) turn old.attrs (record s { walk = walking.go_after s.walk turn old }))
      by true is = k
      by false is = follow-story (walking.go_next s.walk turn old) turn old.attrs (record s { walk = walking.go_after s.walk turn old }) is
          (go-leads top h path s.walk turn old t k.walk) (go-step s.walk turn old)

  took-story : (b : Bool) (s : Stat) (sent turn : Turn) (came : Result Reply Fault) (old : Shelf) (next : Step) (new : Stat) (after : Shelf) (call : Call) → s.asked ≡ b → NamesTold h old.names
      → IsStat s → OwnOr b stats.get_attr s.walk call → IsHeard top h came call → stats.StatTakes b s sent turn came old next new after → IsStat new
  took-story true s sent turn came old next new after call is t k e heard r = subst IsStat (sym r.0) k
  took-story false s sent turn came old next new after call is t k e heard r =
      subst IsStat (sym r.machine_is)
      (follow-story r.step turn after.attrs r.walked (ap (λ (w : Stat). w.asked) r.walked_is ∙ is)
      (took-leads top h path s.walk sent turn came old r.step r.walked.walk after call t k.walk e heard r.takes)
      (took-step s.walk sent turn came old r.step r.walked.walk after r.takes))

  pub stat-goes : (s : Stat) (turn : Turn) (old : Shelf) (next : Step) (new : NameMachine) (after : Shelf) → NamesTold h old.names → IsStat s → steps.StatGoes s turn old next new after
      → StatRuns (machines.Name new)
  stat-goes s turn old next new after t k g = record { s = stats.stat_after s turn old; is = ap machines.Name g.machine_is; story = goes-story s turn old t k }

  pub stat-takes : (s : Stat) (sent turn : Turn) (came : Result Reply Fault) (old : Shelf) (next : Step) (new : NameMachine) (after : Shelf) (call : Call) → NamesTold h old.names → IsStat s
      → OwnOr s.asked stats.get_attr s.walk call → IsHeard top h came call → steps.StatTakes s sent turn came old next new after → StatRuns (machines.Name new)
  stat-takes s sent turn came old next new after call t k e heard g = record {
    s = g.machine;
    is = ap machines.Name g.machine_is;
    story = took-story s.asked s sent turn came old next g.machine after call refl t k e heard g.step;
  }

pub stat-later : (top : List ℕ) (h : List Entry) (e : Entry) (path : List (List ℕ)) (machine : Machine) → StatRuns top h path machine → StatRuns top (h ++ e ∷ []) path machine
stat-later top h e path machine k = record { s = k.s; is = k.is; story = record { walk = walk-later top h e path k.s.walk k.story.walk; done = k.story.done } }
