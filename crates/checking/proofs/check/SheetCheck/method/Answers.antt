use Rattle.std.proofs.Common.{length, refl, ap, arith}
use Rattle.std.proofs.lemmas.List.{length-map}
use Rattle.sheet_laws.proofs.Grows.{within_from}
use Rattle.checking.proofs.Sheets.{few_instructions}
use Rattle.checking.proofs.check.SheetCheck.method.Goals as goal

pub overflow_cast-result : goal.overflow_cast-result
overflow_cast-result c = omega (arith, few_instructions c.args.self.now.read.now c.args.number c.args.self.now.read_in_range c.requires, ap length c.code-read.ensures)

pub invariant_of-result : goal.invariant_of-result
invariant_of-result c =
    let sheet = c.args.self.now in
    record {
      few_library_methods = c.library.ensures.few;
      few_shapes = omega (arith, ap length sheet.own_shapes, length-map sheet.read.now.methods (λ m. m.shape), (within_from sheet.read.now sheet.read_in_range).methods);
      few_instructions = omega (arith, few_instructions sheet.read.now c.args.number sheet.read_in_range c.requires, ap length c.code-read.ensures);
      own_count = refl;
    }
