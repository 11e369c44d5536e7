use Rattle.std.proofs.Common.{None, refl, ap}
use Rattle.gdi_kinds.specs.declared.call.Call.TheVariants as call
use Rattle.traversals.proofs.Telling.{tells-same}
use Rattle.traversals.proofs.flat_graph.FlatGraph.scan_if_free.Goals as goal

pub returns-in_ok-scan-in-None-clause-reply : goal.returns-in_ok-scan-in-None-clause-reply
returns-in_ok-scan-in-None-clause-reply c =
    tells-same c.args.self.now (call.Scan c.args.label.now c.args.test.now) (call.Scan c.args.label.now None) c.in_ok-scan-in-None.field-0 c.in_ok-scan-in-None.field-0 (ap (λ test. call.Scan c.args.label.now test) c.in-None.is) refl
    c.in_ok-scan-in-None.ensures
