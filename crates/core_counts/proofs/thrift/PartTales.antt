-- Along a history each kept page was met by a READ that was sent before, and what a read asks for is as long as may be.
use Rattle.core_counts.proofs.Prelude.{◌≡◌, ℕ, List, [], ◌∷◌, ◌++◌, length, Option, Some, None, Result, Ok, refl, sym, ap, subst, ◌∙◌, All-nil, All-weaker, Pages, Fault, Entry, Began, Sent, Call, Reply, Op, At-grow, Step, Shelf, Turn, ReadFile, Phase, Reading, Bytes, Mounted, FileMachine, Machine, machine_of, Starts, Resumes, Takes, State, Busy, Over, Setup, View, Reaches, ThenOf, Both}
use Rattle.page_cache.specs.Pages.{nothing_kept}
use Rattle.core_answers.proofs.pages.PageCalls.{PageAwaits, both-asks}
use Rattle.world_model.specs.declared.op.Op.TheVariants as ops
use Rattle.client_shelf.specs.declared.step.Step.TheVariants as nexts
use Rattle.file_ops.specs.declared.reading.Phase.TheVariants as phases
use Rattle.op_machines.specs.declared.file_machine.FileMachine.TheVariants as files
use Rattle.op_machines.specs.declared.machine.Machine.TheVariants as machines
use Rattle.core_answers.proofs.pages.FilePages.{IsSentAs}
use Rattle.core_answers.proofs.pages.Keeping.{BondLaws, WasTaken, Known, reached-known}
use Rattle.core_answers.proofs.pages.MachinePages.{pages-starts, pages-resumes}
use Rattle.core_counts.proofs.thrift.PageNames.{Of, quiet-all}
use Rattle.core_counts.proofs.thrift.PageSteps.{IsOther, other-takes}
use Rattle.core_counts.proofs.thrift.Parts.{WasMet, AllMet, IsPart, whole, ends, met, PhaseLong}
use Rattle.core_counts.proofs.thrift.PartSteps.{WasSent, LongIn, TakesLong, starts-long, resumes-long, takes-long}

-- ---- one entry more

met-later : (h : List Entry) (e : Entry) (file : List ℕ) (index : ℕ) → WasMet h file index → WasMet (h ++ e ∷ []) file index
met-later h e file index w = record {
  at = w.at;
  xid = w.xid;
  bytes = w.bytes;
  offset = w.offset;
  count = w.count;
  sent = At-grow h (e ∷ []) w.at (Sent w.bytes) w.sent;
  spells = w.spells;
  met = w.met;
}

all-later : (h : List Entry) (e : Entry) (c : Pages) → AllMet h c → AllMet (h ++ e ∷ []) c
all-later h e c all = All-weaker (Of (WasMet h)) (Of (WasMet (h ++ e ∷ []))) (λ p w. met-later h e p.0.file p.0.index w) c.pages all

part-later : (h : List Entry) (e : Entry) (file : List ℕ) (rsize : ℕ) (base : Bytes) (n : ℕ) → IsPart h file rsize base n → IsPart (h ++ e ∷ []) file rsize base n
part-later h e file rsize base n (whole is) = whole is
part-later h e file rsize base n (ends is) = ends is
part-later h e file rsize base n (met index is was) = met index is (met-later h e file index was)

phase-later : (h : List Entry) (e : Entry) (p : Phase) (r : Reading) → PhaseLong h p r → PhaseLong (h ++ e ∷ []) p r
phase-later h e phases.Attrs r k = tt
phase-later h e phases.AskedAttrs r k = tt
phase-later h e phases.Pages r k = tt
phase-later h e phases.Rest r k = tt
phase-later h e (phases.Asked n) r k = part-later h e r.file r.rsize r.base n k
phase-later h e phases.Ended r k = tt

in-later : (h : List Entry) (e : Entry) (o : Option Reading) → LongIn h o → LongIn (h ++ e ∷ []) o
in-later h e None k = tt
in-later h e (Some r) k = phase-later h e r.phase r k

-- ---- the story of a read

pub record RunsLong (h : List Entry) (machine : Machine) : Type 0 where
  pub of : ReadFile
  pub is : machine ≡ machines.File (files.Read of)
  pub long : LongIn h of.reading

abbrev pub StateLong : List Entry → State → Type 0
StateLong h (Busy machine) = RunsLong h machine
StateLong h (Over answer) = Unit {0}

abbrev pub LongStory : List Entry → ℕ → Op → State → Type 0
LongStory h x op state = (slot offset count : ℕ) → op ≡ ops.Read slot offset count → StateLong h state

then-long : (h : List Entry) (x : ℕ) (op : Op) (next : Step) (new : Machine) → ((slot offset count : ℕ) → op ≡ ops.Read slot offset count → RunsLong h new)
    → ThenOf (λ k. LongStory h x op (Busy k)) (λ a. LongStory h x op (Over a)) next new
then-long h x op (nexts.Send call) new k = k
then-long h x op nexts.Wait new k = k
then-long h x op (nexts.Done answer) new k = λ slot offset count is. tt

state-later : (h : List Entry) (e : Entry) (state : State) → StateLong h state → StateLong (h ++ e ∷ []) state
state-later h e (Busy machine) k = record { of = k.of; is = k.is; long = in-later h e k.of.reading k.long }
state-later h e (Over answer) k = tt

-- ---- its steps

module _ (mounted : Mounted) (h : List Entry) where
  abbrev own : ℕ → ℕ → ℕ → ℕ → ReadFile
  own lane slot offset count = record { lane = lane; slot = slot; offset = offset; count = count; rsize = mounted.rsize; noac = mounted.noac; reading = None }

  begins-long : (lane slot offset count wsize : ℕ) (turn : Turn) (old : Shelf) (next : Step) (new : Machine) (after : Shelf) → AllMet h old.pages
      → Starts wsize (machine_of mounted lane (ops.Read slot offset count)) turn old next new after → RunsLong h new
  begins-long lane slot offset count wsize turn old next new after all s = record {
    of = s.step.machine;
    is = s.machine_is ∙ ap machines.File s.step.machine_is;
    long = starts-long h _ turn (own lane slot offset count) old.pages old.back next s.step.machine after.pages refl all s.step.step;
  }

  goes-on : (machine : Machine) (wsize : ℕ) (turn : Turn) (old : Shelf) (next : Step) (new : Machine) (after : Shelf) → AllMet h old.pages → RunsLong h machine
      → Resumes wsize machine turn old next new after → RunsLong h new
  goes-on machine wsize turn old next new after all k r =
      let g = subst (λ (n : Machine). Resumes wsize n turn old next new after) k.is r in
      record {
        of = g.step.machine;
        is = g.machine_is ∙ ap machines.File g.step.machine_is;
        long = resumes-long h k.of.reading turn.room k.of old.pages old.back next g.step.machine after.pages refl all k.long g.step.step;
      }

-- ---- what came of a call

was-sent : (machine_of : ℕ → Op → Machine) (setup : Setup) (h : List Entry) (x : ℕ) (call : Call) (sent : Turn) (back : _) (reply : Reply) → WasTaken machine_of setup h x call sent back reply
    → WasSent h call
was-sent machine_of setup h x call sent back reply t =
    let heard = t.since.told.answered.heard in
    record { at = heard.sent_at; xid = t.since.told.answered.xid; bytes = heard.record_sent; sent = heard.sent.sent; spells = heard.spells }

module _ (h : List Entry) (call : Call) (wsize : ℕ) (sent turn : Turn) (came : Result Reply Fault) (old : Shelf) (next : Step) (new : Machine) (after : Shelf)
    (told : (reply : Reply) → came ≡ Ok reply → WasSent h call) (link : (reply : Reply) → came ≡ Ok reply → IsSentAs sent.xid call old.back) (all : AllMet h old.pages) where
  read-took : (m : ReadFile) → PageAwaits (machines.File (files.Read m)) call → (t : Takes wsize (machines.File (files.Read m)) sent turn came old next new after)
      → TakesLong h m t.step.machine after.pages
  read-took m on t = takes-long h call came told m.reading sent turn old.repeats m old.pages old.back next t.step.machine after.pages refl on all t.step.step

  other-took : (m : Machine) → IsOther m → PageAwaits m call → Takes wsize m sent turn came old next new after → AllMet h after.pages
  other-took m other on t = other-takes (WasMet h) m call wsize sent turn came old next new after other on link t all

  file-took : (m : FileMachine) → PageAwaits (machines.File m) call → Takes wsize (machines.File m) sent turn came old next new after → AllMet h after.pages
  file-took (files.Read m) on t = (read-took m on t).all
  file-took (files.Open m) on t = other-took (machines.File (files.Open m)) tt on t
  file-took (files.Write m) on t = other-took (machines.File (files.Write m)) tt on t
  file-took (files.Sync m) on t = other-took (machines.File (files.Sync m)) tt on t
  file-took (files.Close m) on t = other-took (machines.File (files.Close m)) tt on t
  file-took (files.Truncate m) on t = other-took (machines.File (files.Truncate m)) tt on t
  file-took (files.Put m) on t = other-took (machines.File (files.Put m)) tt on t

  any-took : (m : Machine) → PageAwaits m call → Takes wsize m sent turn came old next new after → AllMet h after.pages
  any-took (machines.File m) on t = file-took m on t
  any-took (machines.Path m) on t = other-took (machines.Path m) tt on t
  any-took (machines.Name m) on t = other-took (machines.Name m) tt on t

  took-long : (m : Machine) → PageAwaits m call → RunsLong h m → Takes wsize m sent turn came old next new after → RunsLong h new
  took-long m on k t =
      let g = subst (λ (n : Machine). Takes wsize n sent turn came old next new after) k.is t in
      record {
        of = g.step.machine;
        is = g.machine_is ∙ ap machines.File g.step.machine_is;
        long = (read-took k.of (subst (λ (n : Machine). PageAwaits n call) k.is on) g).long k.long;
      }

-- ---- along a history

abbrev pub MetShelf : List Entry → Shelf → Type 0
MetShelf h shelf = AllMet h shelf.pages

abbrev pub NoPlace : List Entry → ℕ → Shelf → Type 0
NoPlace h lane shelf = Unit {0}

pub long-laws : (m : Mounted) (setup : Setup) → BondLaws (machine_of m) setup Both NoPlace MetShelf LongStory
long-laws m setup = record {
  starts = λ h lane line op wsize turn old next new after given passed all late s.
      let k : List Entry = h ++ Began lane line op ∷ [] in
      record {
        kept = pages-starts (AllMet k) (quiet-all (WasMet k)) (machine_of m lane op) wsize turn old next new after s all;
        then_ = then-long k (length h) op next new
            (λ slot offset count is. begins-long m k lane slot offset count wsize turn old next new after all
            (subst (λ (o : Op). Starts wsize (machine_of m lane o) turn old next new after) is s));
      };
  resumes = λ h x op machine wsize turn old next new after all passed within late story r. record {
    kept = pages-resumes (AllMet h) (quiet-all (WasMet h)) machine wsize turn old next new after r all;
    then_ = then-long h x op next new (λ slot offset count is. goes-on m h machine wsize turn old next new after all (story slot offset count is) r);
  };
  takes = λ h x op machine call wsize sent turn came old next new after all within late story on told t.
      let was = λ (reply : Reply) (is : came ≡ Ok reply). was-sent (machine_of m) setup h x call sent old.back reply (told reply is) in
      let link = λ (reply : Reply) (is : came ≡ Ok reply). (told reply is).link in
      record {
        kept = any-took h call wsize sent turn came old next new after was link all machine on.1 t;
        then_ = then-long h x op next new (λ slot offset count is. took-long h call wsize sent turn came old next new after was link all machine on.1 (story slot offset count is) t);
      };
  still = λ h e shelf all. all-later h e shelf.pages all;
  grows = λ h e x op state story slot offset count is. state-later h e state (story slot offset count is);
  lost = λ h x op shown slot offset count is. tt;
}

none-met : (h : List Entry) (c : Pages) → c ≡ nothing_kept → AllMet h c
none-met h c is = subst (AllMet h) (sym is) (All-nil (Of (WasMet h)))

pub reached-long : (m : Mounted) (setup : Setup) (h : List Entry) (v : View) → Reaches (machine_of m) setup h v → setup.pages ≡ nothing_kept
    → Known m setup Both both-asks NoPlace MetShelf LongStory (long-laws m setup) (λ k w lane reached found idle. tt) h v
reached-long m setup h v r bare =
    reached-known m setup Both both-asks NoPlace MetShelf LongStory (long-laws m setup) (λ k w lane reached found idle. tt) (λ k w fresh. none-met k w.shelf.pages (fresh.pages ∙ bare)) h v r
