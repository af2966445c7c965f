use Rattle.std.proofs.Common.{length, ap, ◌∙◌, arith}
use Rattle.std.proofs.lemmas.List.{length-drop}
use Rattle.sheet_text.proofs.line.read_handler.Goals as goal

pub location-requires-4-clause-enough_columns : goal.location-requires-4-clause-enough_columns
location-requires-4-clause-enough_columns c = omega (
  arith,
  ap length c.location.ensures.rest ∙ length-drop 6 c.new-columns.result,
  ap length c.location-2.ensures.rest ∙ length-drop 6 c.location.new.self,
  ap length c.next.ensures.rest ∙ length-drop 6 c.location-2.new.self,
  ap length c.location-3.ensures.rest ∙ length-drop 6 c.next.new.self,
  ap length c.new-columns.ensures,
)
