use Rattle.std.proofs.Common.{◌≡◌, [], Option, Some, None, unwrap_or, option_map, refl, ap, ◌∙◌}
use Rattle.std.proofs.lemmas.Iterator.Consumers.{nth_from_yields_List, YieldsList-from_first}
use Rattle.std.proofs.lemmas.Option.{unwrap_or-slice_get}
use Rattle.sheet.specs.Reading.{lines}
use Rattle.vetting.proofs.lines.line_at.Goals as goal

-- the view of an item, or of what stands for none
view-unwrap_or : {A B : Type 0} (v : A → B) (r : Option A) (d : A) → v (unwrap_or r d) ≡ unwrap_or (option_map v r) (v d)
view-unwrap_or v None d = refl
view-unwrap_or v (Some x) d = refl

pub returns : goal.returns
returns c =
    let text = c.args.text.now in
    let found = nth_from_yields_List _ _ _ c.nth.ensures.ran (YieldsList-from_first (λ x. x.now) (λ l. l) (lines text) c.of.ensures) in
    ap (λ r. r.now) c.unwrap_or.ensures ∙ view-unwrap_or (λ r. r.now) c.nth.result _ ∙ ap (λ o. unwrap_or o []) found ∙ unwrap_or-slice_get (lines text) c.args.number []
