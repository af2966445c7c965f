-- A sheet that takes a line. Assumes nothing.
use Rattle.std.specs.Prelude.{◌≡◌, Ok, Err, Result, MatchResult}
use Rattle.sheet.specs.Reading.{TextSheet, added}
use Rattle.sheet.specs.declared.faults.Counted.{Counted}
use Rattle.sheet.specs.declared.faults.LineFault.{LineFault}
use Rattle.sheet.specs.declared.faults.LineFault.TheVariants.{Order, Count}
use Rattle.sheet.specs.declared.faults.OrderFault.TheVariants.{NoMethodYet}
use Rattle.sheet.specs.declared.records.Line.{Line}
use Rattle.sheet_store.specs.declared.stored.AddFault.{AddFault}
use Rattle.sheet_store.specs.declared.stored.AddFault.TheVariants.{NoMethod, Full}

-- the sheet after a line is the one with that line, or the fault is the line's
abbrev pub Taken : TextSheet → Line → Result (Unit {0}) LineFault → TextSheet → Type 0
Taken before line r after = MatchResult r (λ _. added before line ≡ Ok after) (λ e. added before line ≡ Err e)

-- why a line is refused whose instruction or handler is not added
abbrev pub not_added : AddFault → Counted → LineFault
not_added NoMethod counted = Order NoMethodYet
not_added Full counted = Count counted
