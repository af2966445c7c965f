use Rattle.std.proofs.Common.{◌≡◌, ℕ, length, take, set, replicate, Some, None, Option, is_ok, sym, ap, ◌∙◌}
use Rattle.std.proofs.lemmas.Result.{IfOk-weaker, IfErr-weaker}
use Rattle.check_rules.specs.Check.{catches}
use Rattle.check_rules.specs.Depths.{caught}
use Rattle.checking.specs.Methods.{depths_swept, depths_checked}
use Rattle.checking.proofs.Turns.{begun_part}
use Rattle.checking.proofs.method.MethodCheck.depths_agree.Goals as goal

-- the sweep begins with the depths that a method begins with
begins : (c : goal.After-depths-3-1) → depths_swept c.args.self.now.around c.args.code.now c.mark_catches.new.depths ≡ depths_checked c.args.self.now.around c.args.code.now c.args.self.now.handlers.now
begins c =
    let n = length c.args.code.now in
    let d : Option ℕ = None in
    let bs = catches c.args.self.now.handlers.now in
    let marked : c.mark_catches.new.depths ≡ caught bs (take n (set (replicate 2048 d) 0 (Some 0))) = c.mark_catches.ensures in
    ap (depths_swept c.args.self.now.around c.args.code.now) (marked ∙ ap (caught bs) (begun_part 2048 n d (Some 0) c.requires.few_instructions))

pub returns-clause-ok : goal.returns-clause-ok
returns-clause-ok c = IfOk-weaker c.sweep.result _ _ (λ _ e. ap is_ok (sym (begins c) ∙ e)) c.sweep.ensures.ok

pub returns-clause-err : goal.returns-clause-err
returns-clause-err c = IfErr-weaker c.sweep.result _ _ (λ _ e. sym (begins c) ∙ e) c.sweep.ensures.err
