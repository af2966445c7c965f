use Rattle.std.proofs.Common.{◌≡◌, ◌+◌, ◌≤◌, length}
use Rattle.sheet.specs.Reading.{reading, lines_read}
use Rattle.sheet_text.proofs.reading.take_lines.Given as goal

-- the lines that are still to come, behind what was taken, give the answer
abbrev pub invariant-loop-number : goal.invariant-loop-number
invariant-loop-number l =
    (goal.iterator-loop-number).can_next l.number-iterator
    × (goal.iterator-loop-number).is_finite l.number-iterator
    × (reading l.text ≡ lines_read l.number-iterator.count l.sheet l.number-iterator.iter)
    × (l.number-iterator.count + length l.number-iterator.iter ≤ length l.text)
