-- What reading a text answers: the sheet, or the first faulty line with the lowest of its refusals. Assumes nothing.
use Rattle.std.specs.Prelude.{ℕ, suc, Bool, true, false, List, [], ◌∷◌, length, Ok, Err, Result, ◌==◌, nat_lt, if◌then◌else◌}
use Rattle.sheet.specs.Lines.{line_read}
use Rattle.sheet.specs.Maps.{and_then, raised}
use Rattle.sheet.specs.View.{Sheet, empty_sheet, with_library, with_methods, on_last, with_code, with_handlers, pushed, bare, instructions_in, handlers_in, last_method}
use Rattle.sheet.specs.declared.location.PlainLocation.{PlainLocation}
use Rattle.sheet.specs.declared.records.Handler.{Handler}
use Rattle.sheet.specs.declared.records.ReadInstruction.{ReadInstruction}
use Rattle.sheet.specs.declared.records.Line.{Line}
use Rattle.sheet.specs.declared.records.Line.TheVariants.{Library, Method as OwnMethod, Instruction, Handler as ItsHandler}
use Rattle.sheet.specs.declared.faults.Counted.{Counted}
use Rattle.sheet.specs.declared.faults.Counted.TheVariants.{LibraryMethods, OwnMethods, Instructions, Handlers}
use Rattle.sheet.specs.declared.faults.OrderFault.TheVariants.{LibraryBehindMethod, NoMethodYet, InstructionBehindHandler}
use Rattle.sheet.specs.declared.faults.LineFault.{LineFault}
use Rattle.sheet.specs.declared.faults.LineFault.TheVariants.{Order, Count}
use Rattle.sheet.specs.declared.faults.SheetFault.{SheetFault}
use Rattle.sheet.specs.declared.faults.SheetFault.TheVariants.{Line as AtLine}

-- a sheet as a text has it: ops with their operands, locations before weaving
abbrev pub TextSheet : Type 0
TextSheet = Sheet ReadInstruction (Handler PlainLocation)

-- a list has nothing in it
abbrev pub none : {X : Type 0} → List X → Bool
none [] = true
none (x ∷ xs) = false

-- a sheet that has one more of what it had n of, if it may have that many
abbrev pub counted : Counted → ℕ → ℕ → TextSheet → Result TextSheet LineFault
counted what n most s = if nat_lt n most then Ok s else Err (Count what)

-- a sheet with one line more, or why the line may not stand there: the order of the lines first, then the counts
abbrev pub added : TextSheet → Line → Result TextSheet LineFault
added s (Library x) = if none s.methods then counted LibraryMethods (length s.library) 32 (with_library (pushed x s.library) s) else Err (Order LibraryBehindMethod)
added s (OwnMethod x) = counted OwnMethods (length s.methods) 16 (with_methods (pushed (bare x) s.methods) s)
added s (Instruction x) = if none s.methods then Err (Order NoMethodYet) else if none (last_method s.methods).handlers then counted Instructions (instructions_in s.methods) 2048 (with_methods (on_last (with_code (pushed x)) s.methods) s) else Err (Order InstructionBehindHandler)
added s (ItsHandler x) = if none s.methods then Err (Order NoMethodYet) else counted Handlers (handlers_in s.methods) 256 (with_methods (on_last (with_handlers (pushed x)) s.methods) s)

-- a sheet with what a line says, or why the line is refused there
abbrev pub line_taken : TextSheet → List ℕ → Result TextSheet LineFault
line_taken s line = and_then (line_read line) (added s)

-- a byte ahead of some lines: a line of its own if it is a line feed, else the first byte of their first
abbrev pub ahead : ℕ → List (List ℕ) → List (List ℕ)
ahead b [] = (b ∷ []) ∷ []
ahead b (line ∷ more) = (b ∷ line) ∷ more

-- the lines of a text: each runs to a line feed, which belongs to it, or to the end
unfoldable pub lines : List ℕ → List (List ℕ)
lines [] = []
lines (b ∷ t) = if b == 10 then (b ∷ []) ∷ lines t else ahead b (lines t)

-- how many bytes the first line of a text has
abbrev pub line_length : List ℕ → ℕ
line_length [] = 0
line_length (b ∷ t) = if b == 10 then 1 else suc (line_length t)

-- what is read of some lines, of which the first has the number k, behind those of a sheet
unfoldable pub lines_read : ℕ → TextSheet → List (List ℕ) → Result TextSheet SheetFault
lines_read k s [] = Ok s
lines_read k s (line ∷ more) = and_then (raised (AtLine k) (line_taken s line)) (λ next. lines_read (suc k) next more)

-- what is read of a text
abbrev pub reading : List ℕ → Result TextSheet SheetFault
reading text = lines_read 0 empty_sheet (lines text)
