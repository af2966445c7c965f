use Rattle.std.proofs.Common.{refl, arith, to_z-of_z}
use Rattle.std.proofs.lemmas.List.{length-drop}
use Rattle.std.specs.Fmt.{signed_decimal}
use Rattle.sheet_text.proofs.Puts.{part_put}
use Rattle.sheet_text.proofs.output.Output.column.Goals as goal

pub slice_bounds-write_column-end : goal.slice_bounds-write_column-end
slice_bounds-write_column-end c = omega (arith, length-drop c.args.self.now.at c.args.self.now.bytes.now)

pub returns : goal.returns
returns c =
    let o = c.args.self.now in
    let back = to_z-of_z c.ranges.number in
    let p = part_put o.at c.args.width o.bytes.now c.write_column.new.out (signed_decimal c.args.number) c.requires.some c.requires.room c.requires.fits (rw back at c.write_column.ensures) in
    record { more = p.0; rest = p.1; same_buffer = refl }
