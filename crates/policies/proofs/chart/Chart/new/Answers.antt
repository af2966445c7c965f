use Rattle.std.proofs.Common.{rules}
use Rattle.policies.proofs.Arrows.{none_lead}
use Rattle.policies.proofs.chart.Chart.new.Goals as goal

pub invariant_of-result : goal.invariant_of-result
invariant_of-result c = record { whole = search rules; boxed = search rules; lead = none_lead 1536 }
