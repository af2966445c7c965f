use Rattle.std.proofs.Common.{◌≡◌, ◌<◌, ◌∙◌, All, length, sym, subst, arith}
use Rattle.sheet_laws.proofs.Numerals.{raised_ok}
use Rattle.check_rules.specs.Check.{catches, handled_from}
use Rattle.check_rules.specs.declared.faults.MethodFault.TheVariants.{Handler as AtHandler}
use Rattle.check_laws.proofs.Method.{all_suit, catches_within}
use Rattle.checking.proofs.method.MethodCheck.check.Goals as goal

pub depths_agree-requires-clause-catches_inside : goal.depths_agree-requires-clause-catches_inside
depths_agree-requires-clause-catches_inside c =
    let limit = c.args.self.now.around.own.stack_limit in
    let n = c.args.self.now.around.count in
    let xs = c.args.self.now.handlers.now in
    let k : length c.decode_all.new.code ≡ n = omega (arith, c.requires) in
    let suits = all_suit limit n 0 xs (raised_ok AtHandler (handled_from limit n 0 xs) c.in_ok-handlers_suit.field-0 (sym c.handlers_suit.ensures ∙ c.in_ok-handlers_suit.was)) in
    subst (λ j. All (λ b. b < j) (catches xs)) (sym k) (catches_within limit n xs suits)
