use Rattle.std.proofs.Common.{◌*◌, length, ap, arith}
use Rattle.sheet.specs.Text.{sheet_text}
use Rattle.sheet_laws.proofs.TextLaws.{text_long}
use Rattle.sheet_text.proofs.read_sheet.ReadSheet.text_length.Goals as goal

pub returns : goal.returns
returns c = omega (
  arith,
  text_long c.contents-sheet.result.now c.contents-sheet.ensures.in_range,
  ap length c.library.ensures.value,
  ap (λ s. length (sheet_text s)) c.contents-sheet.ensures.sheet,
  ap (λ k. k * length c.library.result.now) c.line_length.ensures,
  ap (λ k. k * c.method_count.result) c.line_length-2.ensures,
  ap (λ k. k * c.instruction_count.result) c.line_length-3.ensures,
  ap (λ k. k * c.handler_count.result) c.line_length-4.ensures,
)
