-- The entry at which it begins.
use Rattle.std.proofs.Common.{length, refl}
use Rattle.std.proofs.lemmas.Option.{slice_get_read, slice_get_past}
use Rattle.trace_claims.proofs.Digesting.{leads-there, leads-nowhere}
use Rattle.trace_claims.proofs.digest.leads_of.Goals as goal

pub returns-in-Some : goal.returns-in-Some
returns-in-Some c origin heard roots =
    leads-there (λ v. v.items) origin c.args.entries.now c.args.course.now c.in-Some.entry.now _
    (slice_get_read c.args.entries.now (length c.args.entries.now) c.args.course.now.place c.in-Some.entry.now refl c.in-Some.ensures.lookup.3.0 c.in-Some.ensures.lookup.1)
    (c.leads_in.ensures origin c.args.entries.now heard roots)

pub returns-in-None : goal.returns-in-None
returns-in-None c origin heard roots = leads-nowhere origin c.args.entries.now c.args.course.now _ (slice_get_past c.args.entries.now c.args.course.now.place c.in-None.ensures.lookup.3)
