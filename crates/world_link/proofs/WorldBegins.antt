-- What a world begins with: the export that placing makes of a new one is sound and stamped, and bounds are 1 or above.
use Rattle.std.proofs.Common.{◌≡◌, ℕ, suc, true, false, not, List, [], ◌∷◌, Option, Some, None, Result, Ok, Err, refl, sym, subst, ⊎_elim, nat_lt, length}
use Rattle.std.specs.Prelude.{option_and_then, IfOk}
use Rattle.std.specs.Option.{option_map, option_map_or}
use Rattle.std.specs.Str.{is_utf8}
use Rattle.std.proofs.lemmas.Bool.{cases_Bool}
use Rattle.script_text.specs.Lines.{lines, words, is_skipped}
use Rattle.export_fs.specs.View.{View}
use Rattle.export_fs.specs.Placing.{placed}
use Rattle.export_fs.specs.Sound.{Sound}
use Rattle.export_fs.specs.Stamped.{Stamped}
use Rattle.export_fs.proofs.NewExportSound.{begins, placed_stays}
use Rattle.export_fs.proofs.EachCallProceeds.{stamped_new, stamped_placed}
use Rattle.world_link.specs.declared.directive.Directive.{Directive}
use Rattle.world_link.specs.declared.directive.Directive.TheVariants as directives
use Rattle.world_link.specs.declared.schedule.ScheduleFault.{ScheduleFault}
use Rattle.world_link.specs.declared.schedule.ScheduleFault.TheVariants as faults
use Rattle.world_link.specs.declared.world.World.{World}
use Rattle.world_link.specs.Begins.{Begins, BeginsBy}
use Rattle.world_link.specs.Directives.{directive_of}
use Rattle.world_link.specs.Honest.{IsBounded, IsHonestWorld}
use Rattle.world_link.specs.Plans.{planned}
use Rattle.world_link.specs.Readings.{ReadView, after_directive, after_line, after_lines, nothing_read, read_of}
use Rattle.world_link.specs.Starting.{world_of}
use Rattle.world_link.specs.View.{seen}
use Rattle.world_link.proofs.Bounds.{Limits, MayLimit, line_limits, none_bounded, planned_bounded}
use Rattle.world_link.proofs.EntriesKeepHonest.{honest_start}

-- What is read so far may begin an honest world.
pub record MayBegin (read : ReadView) : Type 0 where
  pub stamped : Stamped read.export
  pub sound : Sound read.export
  pub bounded : IsBounded read.plan

some_same : (a b : ReadView) → Some a ≡ Some b → a ≡ b
some_same a b e = cc

placed_begins : (read new : ReadView) (path : List (List ℕ)) (file : Option (List ℕ)) → MayBegin read → (o : Option View) → placed read.export path file ≡ o → option_map (λ (export : View). record read { export = export }) o ≡ Some new → MayBegin new
placed_begins read new path file h None q f = absurd (cc)
placed_begins read new path file h (Some w) q f = subst MayBegin (some_same (record read { export = w }) new f) (record {
  stamped = stamped_placed read.export w path file q h.stamped;
  sound = placed_stays read.export w h.sound path file q;
  bounded = h.bounded;
})

plan_begins : (read new : ReadView) (d : Directive) → Limits d → MayBegin read → Some (record read { plan = planned read.plan d }) ≡ Some new → MayBegin new
plan_begins read new d l h f = subst MayBegin (some_same (record read { plan = planned read.plan d }) new f) (record { stamped = h.stamped; sound = h.sound; bounded = planned_bounded read.plan d l h.bounded })

directive_begins : (read new : ReadView) (d : Directive) → Limits d → MayBegin read → after_directive read d ≡ Some new → MayBegin new
directive_begins read new (directives.Tick ms) l h f = plan_begins read new (directives.Tick ms) l h f
directive_begins read new (directives.Place path file) l h f = placed_begins read new path file h (placed read.export path file) refl f
directive_begins read new (directives.Mount status) l h f = plan_begins read new (directives.Mount status) l h f
directive_begins read new (directives.NoDial n) l h f = plan_begins read new (directives.NoDial n) l h f
directive_begins read new (directives.Before sending event) l h f = plan_begins read new (directives.Before sending event) l h f
directive_begins read new (directives.After sending event) l h f = plan_begins read new (directives.After sending event) l h f
directive_begins read new (directives.Lose sending) l h f = plan_begins read new (directives.Lose sending) l h f
directive_begins read new (directives.Mute sending) l h f = plan_begins read new (directives.Mute sending) l h f
directive_begins read new (directives.Hold sending turn) l h f = plan_begins read new (directives.Hold sending turn) l h f
directive_begins read new (directives.Late sending turn) l h f = plan_begins read new (directives.Late sending turn) l h f
directive_begins read new (directives.Answer sending status) l h f = plan_begins read new (directives.Answer sending status) l h f
directive_begins read new (directives.Partial sending part) l h f = plan_begins read new (directives.Partial sending part) l h f
directive_begins read new (directives.Limit sending most) l h f = plan_begins read new (directives.Limit sending most) l h f

some_begins : (read new : ReadView) (o : Option Directive) → MayLimit o → MayBegin read → option_and_then (after_directive read) o ≡ Some new → MayBegin new
some_begins read new None l h f = absurd (cc)
some_begins read new (Some d) l h f = directive_begins read new d l h f

pub line_begins : (read new : ReadView) (line : List ℕ) → MayBegin read → after_line read line ≡ Some new → MayBegin new
line_begins read new line h f =
    ⊎_elim (λ (a : not (is_utf8 line) ≡ true). let g : None ≡ Some new = simp a at f in absurd (cc))
    (λ (a : not (is_utf8 line) ≡ false).
    ⊎_elim (λ (b : is_skipped line ≡ true). let g : Some read ≡ Some new = simp (a, b) at f in subst MayBegin (some_same read new g) h)
    (λ (b : is_skipped line ≡ false). let g : option_and_then (after_directive read) (directive_of (words line)) ≡ Some new = simp (a, b) at f in some_begins read new (directive_of (words line)) (line_limits (words line)) h g)
    (cases_Bool (is_skipped line)))
    (cases_Bool (not (is_utf8 line)))

after_first : (read new : ReadView) (line : List ℕ) (rest : ReadView → Result ReadView ℕ) (n : ℕ) → ((r : ReadView) → MayBegin r → rest r ≡ Ok new → MayBegin new) → MayBegin read → (o : Option ReadView) → after_line read line ≡ o → option_map_or rest o (Err n) ≡ Ok new → MayBegin new
after_first read new line rest n next h None q g = absurd (cc)
after_first read new line rest n next h (Some r) q g = next r (line_begins read r line h q) g

lines_begin : (text : List (List ℕ)) (count : ℕ) (read new : ReadView) → MayBegin read → after_lines count read text ≡ Ok new → MayBegin new
lines_begin [] count read new h f = let s : read ≡ new = cc in subst MayBegin s h
lines_begin (line ∷ more) count read new h f =
    after_first read new line (λ r. after_lines (suc count) r more) (suc count) (λ r p g. lines_begin more (suc count) r new p g) h (after_line read line) refl f

pub nothing_begins : MayBegin nothing_read
nothing_begins = record { stamped = stamped_new; sound = begins; bounded = none_bounded }

read_begins : (text : List ℕ) (read : ReadView) → read_of text ≡ Ok read → MayBegin read
read_begins text read e =
    ⊎_elim (λ (a : nat_lt 1048576 (length text) ≡ true). let g : Err 0 ≡ Ok read = simp a at e in absurd (cc))
    (λ (a : nat_lt 1048576 (length text) ≡ false). let g : after_lines 0 nothing_read (lines text) ≡ Ok read = simp a at e in lines_begin (lines text) 0 nothing_read read nothing_begins g)
    (cases_Bool (nat_lt 1048576 (length text)))

pub may_begin : (read : ReadView) → MayBegin read → IsHonestWorld (world_of read)
may_begin read h = record { server = honest_start read.export h.stamped h.sound; waiting = tt; plan = h.bounded }

-- the world of a schedule that was read is honest
pub read_honest : (text : List ℕ) (read : ReadView) → read_of text ≡ Ok read → IsHonestWorld (world_of read)
read_honest text read e = may_begin read (read_begins text read e)

by_read : (text : List ℕ) (world : World) (tick : ℕ) (r : Result ReadView ℕ) → read_of text ≡ r → BeginsBy r world tick → IsHonestWorld (seen world)
by_read text world tick (Err n) q b = absurd b
by_read text world tick (Ok read) q b = subst IsHonestWorld (sym b.world_is) (read_honest text read q)

-- a text that is read begins an honest world
pub begins_honest : (text : List ℕ) (result : Result (World × ℕ) ScheduleFault) → Begins (read_of text) result → IfOk result (λ begun. IsHonestWorld (seen begun.0))
begins_honest text (Ok begun) b = by_read text begun.0 begun.1 (read_of text) refl b
begins_honest text (Err (faults.Line n)) b = tt
begins_honest text (Err faults.Memory) b = tt
