-- The number and the two places of each fault of reading and writing. Assumes nothing.
use Rattle.std.specs.Prelude.{ℕ}
use Rattle.sheet.specs.declared.faults.LineFault.{LineFault}
use Rattle.sheet.specs.declared.faults.LineFault.TheVariants.{Form, Field, Order, Count}
use Rattle.sheet.specs.declared.faults.SheetFault.{SheetFault}
use Rattle.sheet.specs.declared.faults.SheetFault.TheVariants.{Line, ShortBuffer}
use Rattle.refusal.specs.declared.Refusal.{Refusal}

-- the number of a line's fault
abbrev pub line_number : LineFault → ℕ
line_number (Form f) = 1
line_number (Field f) = 2
line_number (Order f) = 3
line_number (Count c) = 4

-- a faulty line's place is the line, counted from 0, and 0; a short buffer has no place
abbrev pub sheet_refusal : SheetFault → Refusal
sheet_refusal (Line line f) = record { number = line_number f; first = line; second = 0 }
sheet_refusal ShortBuffer = record { number = 5; first = 0; second = 0 }
