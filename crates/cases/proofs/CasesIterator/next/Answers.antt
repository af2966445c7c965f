use Rattle.std.proofs.Common.{refl}
use Rattle.cases.proofs.Absent.{without_mark, without_end, at_none}
use Rattle.cases.proofs.CasesIterator.next.Goals as goal

pub returns-in_err-text-clause-steps : goal.returns-in_err-text-clause-steps
returns-in_err-text-clause-steps c = at_none _ _ _ c.from_residual.ensures refl (without_mark _ c.in_err-text.ensures.absent)

pub returns-in_err-comment-clause-steps : goal.returns-in_err-comment-clause-steps
returns-in_err-comment-clause-steps c =
    let f = c.in_ok-text.ensures.found in
    at_none _ _ _ c.from_residual-in_err-comment.ensures refl (without_end _ _ _ f.parts f.first c.in_err-comment.ensures.absent)
