use Rattle.std.proofs.Common.{◌≡◌, ◌+◌, [], ◌∷◌, length, Ok, Err, inl, sym, ap, ap₂, ◌∙◌, add-one, rules, arith}
use Rattle.std.proofs.lemmas.Result.{err_from_is_err_and}
use Rattle.sheet.specs.Reading.{lines, lines_read, line_taken}
use Rattle.sheet.specs.declared.faults.SheetFault.TheVariants.{Line as AtLine}
use Rattle.sheet_text.proofs.LinesLemmas.{few_lines, read_on, read_stops, read_all, located}
use Rattle.sheet_text.proofs.reading.take_lines.Goals as goal

pub loop-number-init : goal.loop-number-init
loop-number-init c =
    let few = few_lines c.args.text.now in
    let count : c.into_iter-number-iterator.result.count ≡ 0 = search rules in
    let all : c.into_iter-number-iterator.result.iter ≡ lines c.args.text.now = search rules in
    ((tt, tt, inl (omega (arith, few, count, ap length all))), tt, ap (λ s. lines_read 0 s (lines c.args.text.now)) (sym c.requires) ∙ ap₂ (λ k ls. lines_read k c.args.sheet.now ls) (sym count) (sym all), omega (arith, few, count, ap length all))

pub returns-in_err-map_err-clause-err : goal.returns-in_err-map_err-clause-err
returns-in_err-map_err-clause-err c =
    let old = c.loop-number.number-iterator in
    let s = c.loop-number.sheet in
    let step : old.iter ≡ c.in-Some.line.now ∷ c.next.new.self.iter = search rules in
    let number : c.in-Some.number ≡ old.count = search rules in
    let q = err_from_is_err_and c.from_residual.result c.from_residual.ensures.1 in
    let f = located _ c.take_line.result c.map_err.result c.in_err-map_err.field-0.0 c.map_err.ensures.cases c.in_err-map_err.was in
    let refused : line_taken s c.in-Some.line.now ≡ Err f.0 = search (rules, f.1) in
    let is : q.0 ≡ AtLine old.count f.0 = search (rules, f.2, q.2, number) in
    rw q.1 (c.loop-number.invariant.2 ∙ ap (lines_read old.count s) step ∙ read_stops old.count s f.0 c.in-Some.line.now c.next.new.self.iter refused ∙ ap Err (sym is))

pub loop-number-preserved : goal.loop-number-preserved
loop-number-preserved c =
    let old = c.loop-number.number-iterator in
    let s = c.loop-number.sheet in
    let step : old.iter ≡ c.in-Some.line.now ∷ c.next.new.self.iter = search rules in
    let count : c.next.new.self.count ≡ old.count + 1 = search rules in
    let taken : line_taken s c.in-Some.line.now ≡ Ok c.take_line.new.sheet = search rules in
    let few = c.loop-number.invariant.3 in
    ((tt, tt, inl (omega (arith, few, count, ap length step))), tt, c.loop-number.invariant.2 ∙ ap (lines_read old.count s) step ∙ read_on old.count s c.take_line.new.sheet c.in-Some.line.now c.next.new.self.iter taken ∙ ap (λ k. lines_read k c.take_line.new.sheet c.next.new.self.iter) (sym (count ∙ add-one old.count)), omega (arith, few, count, ap length step))

pub returns-clause-ok : goal.returns-clause-ok
returns-clause-ok c =
    let old = c.loop-number.number-iterator in
    let s = c.loop-number.sheet in
    let none : old.iter ≡ [] = search rules in
    c.loop-number.invariant.2 ∙ ap (lines_read old.count s) none ∙ read_all old.count s
