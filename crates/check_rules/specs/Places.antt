-- What the code knows around an instruction, as the definitions have it. Assumes nothing.
use Rattle.std.specs.Prelude.{ℕ}
use Rattle.sheet.specs.declared.location.PlainLocation.{PlainLocation}
use Rattle.check_rules.specs.Effects.{Place}
use Rattle.check_rules.specs.declared.around.Around.{Around}

abbrev pub place_of : Around → Place
place_of a = record { library = a.library.now; shapes = a.shapes.now; own = a.own; count = a.count }

-- the number of a location
abbrev pub plain : PlainLocation → ℕ
plain t = t.number
