use Rattle.std.proofs.Common.{◌<◌, ◌∷◌, length, take, drop, sym, ap, ◌∙◌, arith, rules, false-eqb}
use Rattle.sheet.specs.Reading.{lines, line_length}
use Rattle.sheet_laws.proofs.Splits.{line_within, lines_first}
use Rattle.sheet_text.proofs.LinesLemmas.{no_lines}
use Rattle.sheet_text.proofs.lines.LinesIterator.next.Goals as goal

pub returns-then-is_empty-clause-steps : goal.returns-then-is_empty-clause-steps
returns-then-is_empty-clause-steps c =
    let n = sym c.self.view_is ∙ no_lines c.self.inside.rest.now (search rules) in
    (n, n)

pub split_at-requires : goal.split_at-requires
split_at-requires c = omega (arith, line_within c.self.inside.rest.now)

pub returns-clause-steps : goal.returns-clause-steps
returns-clause-steps c =
    let rest = c.self.inside.rest.now in
    let some : 0 < length rest = omega (arith, false-eqb _ 0 c.if-is_empty.ensures) in
    let n = c.line_length.ensures in
    sym c.self.view_is ∙ lines_first rest some ∙ ap (λ l. l ∷ lines (drop (line_length rest) rest)) (sym (c.split_at.ensures.front ∙ ap (λ k. take k rest) n)) ∙ ap (λ t. c.split_at.result.0.now ∷ lines t) (sym (c.split_at.ensures.back ∙ ap (λ k. drop k rest) n))

pub returns-clause-goes : goal.returns-clause-goes
returns-clause-goes c =
    let rest = c.self.inside.rest.now in
    let some : 0 < length rest = omega (arith, false-eqb _ 0 c.if-is_empty.ensures) in
    let n = c.line_length.ensures in
    let step = sym c.self.view_is ∙ lines_first rest some ∙ ap (λ t. take (line_length rest) rest ∷ lines t) (sym (c.split_at.ensures.back ∙ ap (λ k. drop k rest) n)) in
    let shorter = ap length step in search rules
