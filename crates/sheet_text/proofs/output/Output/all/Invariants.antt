use Rattle.std.proofs.Common.{take}
use Rattle.std.specs.List.{flat_map}
use Rattle.sheet_text.specs.Output.{Put}
use Rattle.sheet_text.proofs.output.Output.all.Given as goal

-- the pieces so far are put
abbrev pub invariant-loop-piece : goal.invariant-loop-piece
invariant-loop-piece g l = Put (flat_map g.T.Piece.text (take l.piece-index l.pieces)) l.initial.self l.self
