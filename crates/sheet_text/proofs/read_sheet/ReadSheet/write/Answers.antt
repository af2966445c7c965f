use Rattle.std.proofs.Common.{◌≡◌, Ok, subst}
use Rattle.sheet.specs.Reading.{reading}
use Rattle.sheet.specs.Text.{sheet_text}
use Rattle.sheet_laws.proofs.TextLaws.{written_read}
use Rattle.sheet_text.proofs.read_sheet.ReadSheet.write.Goals as goal

pub returns-then-out-length-clause-read_back : goal.returns-then-out-length-clause-read_back
returns-then-out-length-clause-read_back c = subst (λ s. reading (sheet_text s) ≡ Ok s) c.contents-sheet.ensures.sheet (written_read c.contents-sheet.result.now c.contents-sheet.ensures.in_range)

pub returns-clause-read_back : goal.returns-clause-read_back
returns-clause-read_back c = subst (λ s. reading (sheet_text s) ≡ Ok s) c.contents-sheet.ensures.sheet (written_read c.contents-sheet.result.now c.contents-sheet.ensures.in_range)
