-- Settings that words give are ones that a session can go by, whatever its ports are.
use Rattle.std.proofs.Common.{arith, ◌≡◌, ◌≤◌, ◌<◌, ◌^◌, ℕ, List, Option, Some, None, sym, subst}
use Rattle.session_setup.specs.Outcomes.{IsMountable, IsOptions}
use Rattle.session_words.proofs.Ranges.{size_bounds, calls_bounds, xid_bounds}
use Rattle.session_words.specs.declared.settings.Export.{Export}
use Rattle.session_words.specs.declared.settings.Export.TheVariants as exports
use Rattle.session_words.specs.declared.settings.Settings.{Settings}
use Rattle.session_words.specs.Words.{IsCommand, IsExport, IsXid}
use Rattle.script_runs.specs.Run.{IsXidOption}
use Rattle.port_finder.specs.declared.finder.Ports.{Ports}
use Rattle.run_ports.specs.Sessions.{at_ports}

mountable : (path root : Option (List ℕ)) (e : Export) → IsExport path root e → IsMountable e
mountable (Some path) None e x = subst IsMountable (sym x.1) x.0.most
mountable None (Some hex) (exports.Root root) x = tt
mountable None (Some hex) (exports.Path path) x = absurd x
mountable None None e x = absurd x
mountable (Some path) (Some hex) e x = absurd x

xid_fits : (t : Option (List ℕ)) (xid : Option ℕ) → IsXid t xid → IsXidOption xid
xid_fits t None x = tt
xid_fits t (Some xid) x = let b = xid_bounds t xid x in (b.0, omega (arith, b))

module _ (words : List (List ℕ)) (s t : Settings) (ports : Ports) (is : IsCommand words s) (same : t ≡ at_ports s ports) where
  pub options_at : IsOptions t
  options_at =
      let r = size_bounds _ s.rsize is.gives.rsize in
      let w = size_bounds _ s.wsize is.gives.wsize in
      let c = calls_bounds _ s.calls is.gives.calls in
      subst IsOptions (sym same) (record {
        mountable = mountable _ _ s.export is.gives.export;
        read = omega (arith, r);
        most_read = r.1;
        write = omega (arith, w);
        most_write = w.1;
        calls = c.0;
      })

  pub calls_at : t.calls < 2 ^ 31
  calls_at = let c = calls_bounds _ s.calls is.gives.calls in subst (λ (z : Settings). z.calls < 2 ^ 31) (sym same) (omega (arith, c))

  pub xid_at : IsXidOption t.xid
  xid_at = subst (λ (z : Settings). IsXidOption z.xid) (sym same) (xid_fits _ s.xid is.gives.xid)
