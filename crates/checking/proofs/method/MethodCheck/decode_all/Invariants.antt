use Rattle.std.proofs.Common.{◌≡◌, take, drop}
use Rattle.check_rules.specs.Check.{decoded_from}
use Rattle.check_rules.specs.Places.{place_of}
use Rattle.checking.proofs.Turns.{ahead}
use Rattle.checking.proofs.method.MethodCheck.decode_all.Given as goal

-- what is left of the instructions, behind those that were decoded, gives the answer
abbrev pub invariant-loop-at : goal.invariant-loop-at
invariant-loop-at l = decoded_from (place_of l.self.around) 0 l.self.read.now ≡ ahead (take l.at l.code) (decoded_from (place_of l.self.around) l.at (drop l.at l.self.read.now))
